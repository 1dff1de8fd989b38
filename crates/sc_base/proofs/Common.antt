-- The names that several proofs of this crate cite, passed on from one place. Declares nothing.
pub use Rattle.std.proofs.Common.{All, Bool, IsSome, IsTrue, List, None, Option, Some, [], add-one, ap, arith, bytes_eq}
pub use Rattle.std.proofs.Common.{cond, drop, drop-cons, false, get_or, if◌then◌else◌, is_some, length, length-append}
pub use Rattle.std.proofs.Common.{lt-ltb, ltb, map, nat_eq, nat_lt, not, position, refl, replicate, slice_get, subst}
pub use Rattle.std.proofs.Common.{suc, sym, take, true, true≢false, zero, ℕ, ⊎_elim, ◌&&◌, ◌++◌, ◌+◌, ◌<◌, ◌==◌, ◌||◌}
pub use Rattle.std.proofs.Common.{◌∙◌, ◌∷◌, ◌≡◌, ◌≤◌}
pub use Rattle.indexmap.specs.IndexMap.{IndexMap, Updates, get, insert_entry}
pub use Rattle.std.proofs.lemmas.Bool.{and_from, and_parts, cases_lt}
pub use Rattle.std.proofs.lemmas.List.{drop-replicate, take_more}
pub use Rattle.std.specs.Cmp.Lexicographic.{pointwise, same_text}
pub use Rattle.std.specs.List.{find, list_all, list_any, position_from, position_or_len}
pub use Rattle.sc_base.specs.Prelude.{HasPlaces, IsFilled, filled, first_by_name, is_numbered, number_by_name}
pub use Rattle.sc_base.specs.Prelude.{zeros_after}
unfoldable pub use Rattle.sc_base.specs.Prelude.{is_name}
