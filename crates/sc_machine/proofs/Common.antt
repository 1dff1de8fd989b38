-- The names that several proofs of this crate cite, passed on from one place. Declares nothing.
pub use Rattle.std.proofs.Common.{All, Bool, Err, IsSome, IsTrue, List, None, Ok, OnSome, Option, Result, Some, []}
pub use Rattle.std.proofs.Common.{add-zero, add_assoc, ap, append-nil, append_assoc, ap₂, arith, eq-eqb, eqb-true}
pub use Rattle.std.proofs.Common.{false, fold, get_or, if◌then◌else◌, is_ok, is_some, le-leb, length}
pub use Rattle.std.proofs.Common.{length-append, length-set, map, nat_le, nat_lt, ne_eqb, position, refl, rules}
pub use Rattle.std.proofs.Common.{slice_index, slice_index_or, slice_set, subst, suc, sum, sym, take, true, unwrap_or}
pub use Rattle.std.proofs.Common.{zero, ℕ, ℤ, ⊎_elim, ◌%◌, ◌&&◌, ◌*◌, ◌++◌, ◌+◌, ◌-◌, ◌/◌, ◌<◌, ◌==◌, ◌^◌, ◌||◌, ◌∙◌}
pub use Rattle.std.proofs.Common.{◌∷◌, ◌≡◌, ◌≢◌, ◌≤◌}
pub use Rattle.std.specs.List.{list_any, slice_get}
pub use Rattle.std.proofs.lemmas.Bool.{and_parts, cases_eq, cases_lt, false≢true, lt-leb}
pub use Rattle.std.proofs.lemmas.List.{get_or-map, get_or_past, length-map, map-append}
pub use Rattle.std.proofs.lemmas.List.Elements.{All-cons, All-head, All-nil, All-tail}
pub use Rattle.std.proofs.lemmas.Option.{get_or_from_slice_get, slice_get-get_or, slice_get_cases, slice_get_past}
pub use Rattle.std.proofs.lemmas.Option.{slice_get_within}
pub use Rattle.sc_word.specs.Prelude.{add_word, word_of}
pub use Rattle.sc_store.proofs.Parts.{next_there, one_there, written-apart, written-in, written-stored, written_more}
pub use Rattle.sc_store.proofs.Parts.{written_nothing}
pub use Rattle.sc_store.specs.Prelude.{AreApart, AreBelow, HasBytes, IsIn, ByteMemory, byte_of, is_in, with_bytes}
pub use Rattle.sc_store.specs.Prelude.{written}
pub use Rattle.sc_store.specs.Prelude.{zeros}
pub use Rattle.sc_image.proofs.Running.{run_goes, run_more, run_out, run_stopped, run_traps, step_executes}
pub use Rattle.sc_image.proofs.Running.{step_illegal, step_nowhere}
pub use Rattle.sc_image.specs.Prelude.{Crossing, Filled, Goes, IsDistinct, IsEntry, IsExport, IsWellFormed, Outcome}
pub use Rattle.sc_image.specs.Prelude.{MachineRun, MachineState, Traps, byte_at, on_call, jump_outside}
pub use Rattle.sc_image.specs.Prelude.{code_in, code_start, data_end, data_regions, has_heap, zone_size, zone_start}
pub use Rattle.sc_image.specs.Prelude.{comp_of_code, comp_of_data, continued, data_start, data_with, execute}
pub use Rattle.sc_image.specs.Prelude.{entered_export}
pub use Rattle.sc_image.specs.Prelude.{export_called, exported_by, gate, initial_globals, leaves, machine}
pub use Rattle.sc_image.specs.Prelude.{may_call_export}
pub use Rattle.sc_image.specs.Prelude.{may_input, may_output, most_globals, export_params, ra, reg, on_return}
pub use Rattle.sc_image.specs.Prelude.{run, stack_size}
pub use Rattle.sc_image.specs.Prelude.{stack_top, stack_tops, step, stopped, stops_or, stretch}
unfoldable pub use Rattle.sc_image.specs.Prelude.{are_data, execute_by, run_by, start_memory, word_at}
pub use Rattle.sc_image.specs.declared.parts.CompPart.{CompPart}
pub use Rattle.sc_gate.specs.Waiting.{Waiting, crossing_of}
pub use Rattle.sc_machine.specs.Prelude.{AreCallees, CanRun, ImageParts, IsCallee, active_in, at, outcome_of, state_in}
pub use Rattle.sc_machine.specs.Regions.{HasFewGlobals, all_data, filled_with, regions_of}
pub use Rattle.sc_machine.specs.declared.calling.Callee.{Callee}
