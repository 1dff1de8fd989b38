-- The names that several proofs of this crate cite, passed on from one place. Declares nothing.
pub use Rattle.std.proofs.Common.{Bool, List, None, Option, Some, [], ap, arith, eqb-true, false, get_or}
pub use Rattle.std.proofs.Common.{if◌then◌else◌, le-leb, le-ltb, leb-true, length, lt-ltb, ne_eqb, nat_le}
pub use Rattle.std.proofs.Common.{refl, set, slice_index, subst, suc, sym, true, zero, ℕ}
pub use Rattle.std.proofs.Common.{◌&&◌, ◌++◌, ◌+◌, ◌-◌, ◌<◌, ◌==◌, ◌||◌, ◌∙◌, ◌∷◌, ◌≡◌, ◌≢◌, ◌≤◌, ◌⊎◌, inl, inr, ⊎_elim}
pub use Rattle.std.proofs.lemmas.Bool.{cases_eq, cases_lt, eq-eqb, eqb-false, lt-leb}
pub use Rattle.std.specs.List.{list_all}
pub use Rattle.sc_zone.specs.Zone.{is_free, misses, starts_at, with_span, without_span, words_at, zone_words}
unfoldable pub use Rattle.sc_zone.specs.Zone.{first_free, least_free}
pub use Rattle.sc_zone.specs.Gaps.{AreLaid, gap_before, gap_from}
pub use Rattle.sc_zone.specs.declared.span.Span.{Span}
