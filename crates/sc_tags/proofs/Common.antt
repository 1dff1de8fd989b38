-- The names that several proofs of this crate cite, passed on from one place. Declares nothing.
pub use Rattle.sc_image.proofs.Cases.{AtNext}
pub use Rattle.sc_image.proofs.Common.{All, Auipc, BadJump, Bool, Branch, ByteMemory, Crossing, Ebreak, Ecall, Fence}
pub use Rattle.sc_image.proofs.Common.{Goes, Instr, IsSteadyState, IsWellFormed, IsWord, Jal, Jalr, List, Load, LoadOp}
pub use Rattle.sc_image.proofs.Common.{Lui, MachineRun, MachineState, NoImport, None, Op, OpImm, Option, Outcome}
pub use Rattle.sc_image.proofs.Common.{OutcomeOf, Protection, RunOf, Shift, Some, Stop, Store, StoreOp, TrapReason}
pub use Rattle.sc_image.proofs.Common.{Traps, Upper, [], a7, after, after_outcome, and_parts, ap, ap₂, arith, by_owner}
pub use Rattle.sc_image.proofs.Common.{code_start, comp_of_code, comp_of_data, compares, data_start, decoded}
pub use Rattle.sc_image.proofs.Common.{entered_export, eq-eqb, eqb-true, execute, export_called, export_params}
pub use Rattle.sc_image.proofs.Common.{extended, false, frees, gate, gives, has_heap, has_result, if_decoded}
pub use Rattle.sc_image.proofs.Common.{if_fetched, is_some, jalr_target, jump, jump_outside, le-ltb, leaves, leb-true}
pub use Rattle.sc_image.proofs.Common.{length, load_by, load_of, load_of-same, load_size, lt-ltb, ltb-true, machine}
pub use Rattle.sc_image.proofs.Common.{may_call_export, may_input, may_output, nat_eq, nat_le, nat_lt, nat_tests, next}
pub use Rattle.sc_image.proofs.Common.{not, on_return, on_return_to, plain, ra, refl, refused, reg, run, slice_get}
pub use Rattle.sc_image.proofs.Common.{slice_get_within, start, starts_block, step, stopped, stops_or, store_by}
pub use Rattle.sc_image.proofs.Common.{store_size, subst, suc, sym, true, unless_trap, with_bytes, with_stored}
pub use Rattle.sc_image.proofs.Common.{word_loaded, zero, zone_of, ℕ, if◌then◌else◌, ◌%◌, ◌&&◌, ◌*◌, ◌+◌, ◌-◌, ◌/◌, ◌<◌}
pub use Rattle.sc_image.proofs.Common.{◌==◌, ◌∙◌, ◌∷◌, ◌≡◌, ◌≤◌}
pub use Rattle.sc_image.proofs.Common.{cases_lt, true≢false, ⊎_elim}
pub use Rattle.sc_tags.specs.Prelude.{code_byte}
pub use Rattle.sc_image.proofs.Common.{le-leb, lt-leb, ◌||◌}
pub use Rattle.sc_gate.specs.Waiting.{call_at}
pub use Rattle.sc_tags.specs.declared.tag.TagRange.{TagRange}
pub use Rattle.sc_image.proofs.Memory.{allowed_data, data_bounds, one_is, one_of, owns, owns_is}
pub use Rattle.sc_image.proofs.Running.{any_run_keeps}
pub use Rattle.sc_image.proofs.Words.{comp_found, entry_code, if_some, in_code, some_is}
pub use Rattle.sc_image.specs.Prelude.{environment_call, gives_by, jump_by, next_by}
pub use Rattle.sc_image.specs.declared.parts.ImageParts.{ImageParts}
pub use Rattle.sc_store.proofs.Words.{load_of-stored, stored-at}
pub use Rattle.sc_tags.specs.Prelude.{CapabilitiesAreLinear, Tagged, TagsAgree, at_level, by_tag}
pub use Rattle.sc_tags.specs.Prelude.{carried_called, code_word, core_of, is_tag, leveled, lifted, on_tag_call}
pub use Rattle.sc_tags.specs.Prelude.{on_tag_return, owner_of, returned_by, tag_at, tag_by, tag_jumps, tag_leaves}
pub use Rattle.sc_tags.specs.Prelude.{tag_machine, tag_run, tag_start, tag_step, tagged_word, with_code, with_outcome}
pub use Rattle.sc_tags.specs.declared.tag.ByteTag.TheVariants.{Code, Data, Unowned}
pub use Rattle.sc_tags.specs.declared.tag.ByteTag.{ByteTag}
unfoldable pub use Rattle.sc_image.specs.Prelude.{are_data, execute_by, run_by, step_by, word_at}
unfoldable pub use Rattle.sc_tags.specs.Prelude.{all_tagged}
