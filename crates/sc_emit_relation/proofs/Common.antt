-- The names that several proofs of this crate cite, passed on from one place. Declares nothing.
pub use Rattle.std.proofs.Common.{All, AllPairs, Bool, Err, IsSome, List, None, Ok, Option, Result, Some, [], ap, ap₂}
pub use Rattle.std.proofs.Common.{arith, eq-eqb, eqb-true, false, if◌then◌else◌, inl, inr, int_div, int_rem, is_some}
pub use Rattle.std.proofs.Common.{le-leb, le-ltb, leb-true, length, length-append, length-set, lt-ltb, ltb-true, map}
pub use Rattle.std.proofs.Common.{nat_eq, nat_le, nat_lt, ne_eqb, neg_ℤ, negsuc, not, pos, refl, replicate, slice_get}
pub use Rattle.std.proofs.Common.{slice_set, subst, subst₂, suc, sym, true, true≢false, zero, zip, ℕ, ℤ, ⊎_elim, ◌%◌}
pub use Rattle.std.proofs.Common.{◌&&◌, ◌*ℤ◌, ◌*◌, ◌++◌, ◌+ℤ◌, ◌+◌, ◌-ℤ◌, ◌-◌, ◌<◌, ◌==◌, ◌^◌, ◌∙◌, ◌∷◌, ◌≡◌, ◌≢◌, ◌≤◌}
pub use Rattle.std.proofs.Common.{◌⊎◌}
pub use Rattle.std.proofs.lemmas.Bool.{and_from, cases_eq, cases_lt, cases_order, lt-leb, or_right}
pub use Rattle.std.proofs.lemmas.List.{length-map}
pub use Rattle.std.proofs.lemmas.List.Elements.{All-cons, All-head, All-nil, All-tail}
pub use Rattle.std.proofs.lemmas.Option.{get_or_from_slice_get, same_Some, slice_get-get_or, slice_get_within}
pub use Rattle.sc_base.proofs.Bools.{and_first, and_rest}
pub use Rattle.sc_base.proofs.Lists.{all_at, get_prefix, is_there}
pub use Rattle.sc_word.specs.Prelude.{add_word, div_word, sub_word, word_of}
pub use Rattle.sc_core.specs.Prelude.{Block, Blocks, Break, Closed, Continue, Does, Exit, FrameChange, Function, Here}
pub use Rattle.sc_core.specs.Prelude.{Left, Next, Opened, Piece, Reached, Return, State, Stopped, all_do, and_then}
pub use Rattle.sc_core.specs.Prelude.{apart, applied_one, begun, between, bind, blocks_for, cell_of, cells_at, computed}
pub use Rattle.sc_core.specs.Prelude.{done, ended, follow, in_elements, in_loop, in_order, is_inside, is_live, is_zero}
pub use Rattle.sc_core.specs.Prelude.{leave, live_cells, living, load, loaded, loop, moved, moved_back, moved_on}
pub use Rattle.sc_core.specs.Prelude.{negated_word, number_of, of_bool, on_all_words, on_words, ordered, place_at}
pub use Rattle.sc_core.specs.Prelude.{rounds, same_place, store, take, truth, turn, turn_of, variable, with_blocks}
pub use Rattle.sc_core.specs.Prelude.{with_cell, with_memory, wrapping}
pub use Rattle.sc_core.specs.declared.cause.Cause.{Cause}
pub use Rattle.sc_core.specs.declared.cause.Cause.TheVariants.{BadPointer, BadType, Dangling, OutOfBounds}
pub use Rattle.sc_core.specs.declared.value.Pointer.{Pointer}
pub use Rattle.sc_core.specs.declared.value.Value.TheVariants.{Null, Ptr, Word}
pub use Rattle.sc_core_laws.proofs.Growing.{done_goes, follow_goes, more, no_turn, reached, stays, then_from, then_goes}
pub use Rattle.sc_core_laws.proofs.Growing.{turn_goes}
pub use Rattle.sc_core_laws.specs.Prelude.{AllBefore, Goes, Grown, depth_after, last, stack_depth}
pub use Rattle.rv_code.specs.declared.instr.Instr.{Instr}
pub use Rattle.sc_store.specs.Prelude.{ByteMemory}
pub use Rattle.sc_image.specs.Prelude.{IsWellFormed, IsWord, Traps, Walks, data_start, stack_size, stack_top, step}
pub use Rattle.sc_image.specs.Prelude.{word_at, zone_start}
pub use Rattle.sc_tac.specs.Prelude.{Codes, FrameFits, InSlot, IsClear, IsFrame, Lives, Point, Range, TempSet, Temps}
pub use Rattle.sc_tac.specs.Prelude.{Trail, ahead_at, end_of, in_body, in_head, in_next, is_comparison, is_one}
pub use Rattle.sc_tac.specs.Prelude.{is_pointer, is_unsigned, known, live_across, live_at_start, live_before}
pub use Rattle.sc_tac.specs.Prelude.{loop_points, no_temps, object_range, one_or_none, operated, part_ahead}
pub use Rattle.sc_tac.specs.Prelude.{plain_points, point, ranges_of, read, readings, row_first, row_points, takes_two}
pub use Rattle.sc_tac.specs.Prelude.{trail_step, with_temp}
pub use Rattle.sc_tac.specs.declared.frame.FrameTree.{FrameTree}
pub use Rattle.sc_tac.specs.declared.place.Place.TheVariants.{Register, Slot}
pub use Rattle.sc_emit_select.specs.Prelude.{Addresses, Line, Plan, a0, a7, address_scratch, branch_back, branch_reach}
pub use Rattle.sc_emit_select.specs.Prelude.{breaking, bytes_of, code_of_lines, completed, continuing, cycle}
pub use Rattle.sc_emit_select.specs.Prelude.{first_scratch, followed, jump_back, linked, linked_from, low_after}
pub use Rattle.sc_emit_select.specs.Prelude.{low_of_target, nothing, plain, plainly, ra, register_of, relocation_of}
pub use Rattle.sc_emit_select.specs.Prelude.{relocations_after, relocations_from, rotated, second_scratch, sp}
pub use Rattle.sc_emit_select.specs.Prelude.{target_at, testing, with_low, with_target}
pub use Rattle.sc_emit_hart.proofs.Inside.{IsInside, code_inside}
pub use Rattle.sc_emit_hart.proofs.Steady.{walks_steady}
pub use Rattle.sc_emit_hart.proofs.Steps.{jal, op_imm, stay, then_go}
pub use Rattle.sc_emit_hart.proofs.Words.{apart_from, word_apart, word_same}
pub use Rattle.sc_emit_hart.specs.Prelude.{Apart, CodeAt, Fetches, Owned, Registers, op_word, put, put_word}
pub use Rattle.sc_emit_hart.specs.Prelude.{stepped_word, unary_word, word}
pub use Rattle.sc_emit_relation.specs.Common.{CallTarget, Cell, ImageParts, Jal, Place, Value}
pub use Rattle.sc_emit_relation.specs.Prelude.{Activation, AreInPlace, Arrives, Begins, Beside, BlocksMatch, Came}
pub use Rattle.sc_emit_relation.specs.Prelude.{Comes, ComesBack, Costs, Effect, Emits, Ends, ExitGives, Follows}
pub use Rattle.sc_emit_relation.specs.Prelude.{FrameMatches, FunctionGives, Gives, Guarded, InCell, InPlace, Injection}
pub use Rattle.sc_emit_relation.specs.Prelude.{IsActivation, IsAddress, IsElement, IsInPlace, IsLeft, IsSound, Joint}
pub use Rattle.sc_emit_relation.specs.Prelude.{Leads, LiesAt, LiveAt, Means, Overflows, Placed, Protected, Ready}
pub use Rattle.sc_emit_relation.specs.Prelude.{Returns, ReturnsValue, Running, Setting, Settled, Standpoint, StandsAt}
pub use Rattle.sc_emit_relation.specs.Prelude.{StandsFor, Starts, ZoneMatches, ends_of, machine, own_words, row}
pub use Rattle.sc_emit_relation.specs.Prelude.{seen_from, wanted, world_at}
