-- The names that several proofs of this crate cite, passed on from one place. Declares nothing.
pub use Rattle.std.proofs.Common.{All, Bool, IsTrue, List, None, Option, Some, [], ap, arith, cond, eq-eqb, false}
pub use Rattle.std.proofs.Common.{get_or, inl, inr, length, length-append, length-set, map, max, nat_eq, nat_le, nat_lt}
pub use Rattle.std.proofs.Common.{ne_eqb, not, refl, rules, slice_get, slice_set, subst, suc, sym, take, true, zero, ℕ}
pub use Rattle.std.proofs.Common.{⊎_elim, ◌&&◌, ◌++◌, ◌+◌, ◌-◌, ◌<◌, ◌∙◌, ◌∷◌, ◌≡◌, ◌≢◌, ◌≤◌, ◌⊎◌}
pub use Rattle.std.proofs.lemmas.Bool.{and_from, and_right, cases_eq, cases_lt, cases_order}
pub use Rattle.std.proofs.lemmas.Bool.Decides.{nat_tests}
pub use Rattle.std.proofs.lemmas.List.Elements.{All-cons, All-from_recursion, All-nil, All-tail}
pub use Rattle.std.proofs.lemmas.List.Sorted.{All-permutation, Contains-permutation, IsNonDecreasingBy-from_sort_by_key}
pub use Rattle.std.proofs.lemmas.List.Sorted.{IsPermutation-cons, IsPermutation-map, IsPermutation-refl}
pub use Rattle.std.proofs.lemmas.List.Sorted.{IsPermutation-swap, IsPermutation-sym, IsPermutation-trans}
pub use Rattle.std.proofs.lemmas.List.Sorted.{answers_always, length_permutation, sum_by-IsPermutation, sum_by_popped}
pub use Rattle.std.proofs.lemmas.List.Sorted.{sum_by_pushed}
pub use Rattle.std.proofs.lemmas.List.Sums.{position_or_len_is, sum_by-cons}
pub use Rattle.std.proofs.lemmas.Option.{get_or_from_slice_get, same_Some, slice_get-get_or, slice_get-map}
pub use Rattle.std.proofs.lemmas.Option.{slice_get_past, slice_get_within}
pub use Rattle.std.specs.BinaryHeap.{IsHeap, heap_items, heap_len}
pub use Rattle.std.specs.List.{Contains, count_by, filter, fold, list_all, position}
pub use Rattle.std.specs.List.Sorted.{IsNonDecreasingBy, IsPermutation, IsStableByKey, ties}
pub use Rattle.std.specs.Option.{IfNone, IfSome, option_map}
pub use Rattle.std.specs.Ordering.{is_lt, nat_cmp, ordering_then}
pub use Rattle.std.specs.declared.cmp.Reverse.{Reverse}
pub use Rattle.sc_base.proofs.Lists.{get_after, is_there, position-cons}
pub use Rattle.sc_tac.specs.Prelude.{AreIntervals, ArePlaces, IsAssignment, IsSparing, is_place, register_count}
pub use Rattle.sc_alloc.specs.Common.{Interval, Place, Register, Slot}
pub use Rattle.sc_alloc.specs.Places.{insert_by, is_soonest, slot_for, with_place, with_slot}
pub use Rattle.sc_alloc.specs.Prelude.{AllBegun, AreFair, AreKnown, AreNumbered, ArePlaced, AreRegisters, AreSlots}
pub use Rattle.sc_alloc.specs.Prelude.{HasEnds, IsAt, IsOut, IsScan, Placement, at_first, is_over, scan_next, sorted_by}
pub use Rattle.sc_alloc.specs.Scan.{AllOver, IsFair, IsInUse, IsInUseWithin, LacksOne, is_of, soonest_first}
pub use Rattle.sc_alloc.specs.declared.slots.SlotEnd.{SlotEnd}
