-- The names that several proofs of this crate cite, passed on from one place. Declares nothing.
pub use Rattle.std.proofs.Common.{Bool, Err, List, MatchResult, None, Ok, Option, Result, Some, [], add-one, ap, arith}
pub use Rattle.std.proofs.Common.{eqb-true, false, get_or, get_or-set_same, if◌then◌else◌, inl, inr, le-ltb, leb-false}
pub use Rattle.std.proofs.Common.{leb-true, length, length-set, lt-ltb, ltb-false, ltb-true, nat_le, nat_lt, ne_eqb}
pub use Rattle.std.proofs.Common.{refl, rules, slice_get, slice_index_or, slice_set, subst, suc, sym, true, zero, ℕ}
pub use Rattle.std.proofs.Common.{◌++◌, ◌+◌, ◌-◌, ◌<◌, ◌==◌, ◌^◌, ◌∙◌, ◌∷◌, ◌≡◌, ◌≤◌, ◌⊎◌}
pub use Rattle.std.proofs.lemmas.Bool.{cases_lt, eqb-false}
pub use Rattle.std.proofs.lemmas.List.Sorted.{answers_always, searchable_from_sorted}
pub use Rattle.std.specs.List.{HoldsAt, remove_range}
pub use Rattle.std.specs.Prelude.{MatchOption}
pub use Rattle.sc_core.specs.Prelude.{Block, Blocks, Memory, bind, live_cells, living, variable, with_blocks}
pub use Rattle.sc_core.specs.declared.value.Cell.{Cell}
pub use Rattle.sc_blocks.specs.Cells.{put_at, put_into, stored_in}
pub use Rattle.sc_blocks.specs.Rows.{cause_of, cleared, ended_block, free_cell, free_place, given_back, memory_of}
pub use Rattle.sc_blocks.specs.Rows.{put_in, store_cell, with_words}
pub use Rattle.sc_blocks.specs.Slots.{AreApart, HasCells, IsOver, IsRising, LivesWith, allocated_or_ended, block_at}
pub use Rattle.sc_blocks.specs.Slots.{count_below}
pub use Rattle.sc_blocks.specs.Slots.{laid_out, slot_among, slot_block, spans_in, variable_or, without}
pub use Rattle.sc_blocks.specs.declared.slots.Slot.{Slot}
