-- The names that several proofs of this crate cite, passed on from one place. Declares nothing.
pub use Rattle.std.proofs.Common.{Bool, IfSome, IsNone, IsSome, List, None, OnSome, Option, Some, [], ap, arith, cond}
pub use Rattle.std.proofs.Common.{count_by, drop, false, get_or, get_or-drop, get_or-set_other, get_or-set_same}
pub use Rattle.std.proofs.Common.{get_or-take, inl, inr, is_none, is_some, length, length-append, length-drop}
pub use Rattle.std.proofs.Common.{length-set, length-take-le, lt-ltb, map, nat_le, nat_lt, not, refl, replicate, set}
pub use Rattle.std.proofs.Common.{subst, suc, sym, take, take_at, true, unwrap_or, zero, ℕ, ⊎_elim, ◌%◌, ◌&&◌, ◌*◌}
pub use Rattle.std.proofs.Common.{◌++◌, ◌+◌, ◌-◌, ◌/◌, ◌<◌, ◌^◌, ◌↔◌, ◌∙◌, ◌∷◌, ◌≡◌, ◌≢◌, ◌≤◌, ◌⊎◌}
pub use Rattle.std.proofs.lemmas.Bool.{cases_eq, cases_lt}
pub use Rattle.std.proofs.lemmas.Bool.Decides.{nat_tests}
pub use Rattle.std.proofs.lemmas.List.{get_or-append_right, get_or-map, get_or-replicate, get_or_append_left}
pub use Rattle.std.proofs.lemmas.List.{get_or_default, get_or_past, length-map, length-replicate, take_more}
pub use Rattle.std.proofs.lemmas.List.Sums.{fails_before_first, sum_by-set}
pub use Rattle.std.proofs.lemmas.Option.{same_Some}
pub use Rattle.std.specs.List.{All, find, position, position_or_len, sum_by}
pub use Rattle.std.specs.Option.{option_map, option_or}
pub use borrow.Rule.Slice.PartMut.{put_mid}
pub use Rattle.sc_store.specs.Prelude.{AreApart, AreBelow, AreDistinct, AreOut, ArePlaced, AreSingle, HasBytes}
pub use Rattle.sc_store.specs.Prelude.{HoldsBytes, IsFocus, IsIn, IsZero, ByteMemory, byte_at, byte_of, byte_on}
pub use Rattle.sc_store.specs.Prelude.{bytes_in}
pub use Rattle.sc_store.specs.Prelude.{bytes_of, cell, is_in, load_of, memory_of, piece_of, place_found, place_in}
pub use Rattle.sc_store.specs.Prelude.{place_of, reaches, region_of, regions_in, regions_of, replaced, spans}
pub use Rattle.sc_store.specs.Prelude.{with_bytes}
pub use Rattle.sc_store.specs.Prelude.{written, zeros}
pub use Rattle.sc_store.specs.declared.region.Region.{Region}
pub use Rattle.sc_store.specs.Pages.{pages_of}
