-- The names that several proofs of this crate cite, passed on from one place. Declares nothing.
pub use Rattle.std.proofs.Common.{All, AllPairs, IsTrue, List, [], ap, arith, drop, inl, length, map, max, refl, rules}
pub use Rattle.std.proofs.Common.{subst, suc, sym, zero, zip, ℕ, ◌%◌, ◌*◌, ◌++◌, ◌+◌, ◌∷◌, ◌≡◌, ◌≤◌}
pub use Rattle.std.proofs.lemmas.List.FromFn.{length-map-range_with_len, map-range_with_len_more}
pub use Rattle.std.specs.List.{list_all, range_with_len}
pub use Rattle.sc_core.specs.Prelude.{total}
pub use Rattle.sc_tac.specs.Prelude.{Apart, FrameFits, IsFrame, Range, end_of, frame_of, is_place, object_range}
pub use Rattle.sc_tac.specs.Prelude.{offsets_from, ranges_of, slots_of, word_at}
