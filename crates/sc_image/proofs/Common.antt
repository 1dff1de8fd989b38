-- The names that several proofs of this crate cite, passed on from one place. Declares nothing.
pub use Rattle.std.proofs.Common.{All, Bool, Err, IsSome, List, None, Ok, Option, Result, Some, [], ap, append-nil}
pub use Rattle.std.proofs.Common.{AllPairs}
pub use Rattle.std.proofs.Common.{append_assoc, ap₂, arith, codes, cond, drop, drop_at, eq-eqb, eqb-true, false}
pub use Rattle.std.proofs.Common.{flat_map, get_or, get_or-drop, get_or-set_other, get_or-set_same, get_or-take}
pub use Rattle.std.proofs.Common.{if◌then◌else◌, inl, inr, is_some, le-leb, le-ltb, leb-true, length, length-append}
pub use Rattle.std.proofs.Common.{length-drop, length-set, length-take, length-take-le, lit≤, lt-ltb, ltb-true, map}
pub use Rattle.std.proofs.Common.{nat_eq, nat_le, nat_lt, ne_eqb, not, position, refl, replicate, set, slice_index}
pub use Rattle.std.proofs.Common.{slice_set, subst, suc, suc-add, sym, take, take-append-drop, take_at, true}
pub use Rattle.std.proofs.Common.{true≢false, unwrap_or, zero, zero-add, ℕ, ⊎_elim, ◌%◌, ◌&&◌, ◌*◌, ◌++◌, ◌+◌, ◌-◌, ◌/◌}
pub use Rattle.std.proofs.Common.{◌<◌, ◌==◌, ◌^◌, ◌||◌, ◌↔◌, ◌∙◌, ◌∷◌, ◌≡◌, ◌≢◌, ◌≤◌, ◌⊎◌}
pub use Rattle.std.proofs.Math.Seq.{drop-append_seam, drop-length}
pub use Rattle.std.proofs.lemmas.Bool.{and_from, and_parts, cases_lt, false_from_ne_true, lt-leb, not-true}
pub use Rattle.std.proofs.lemmas.Bool.{not_from_false, or_from, or_left, or_parts, or_right}
pub use Rattle.std.proofs.lemmas.Bool.Decides.{Decides-and, Decides-by_and, Decides-like, Decides-ltb, Decides-not}
pub use Rattle.std.proofs.lemmas.Bool.Decides.{nat_tests, not_from_Decides, same_from_decides}
pub use Rattle.std.proofs.lemmas.List.{drop_more, get_or_default, get_or_past, length-map, length-replicate}
pub use Rattle.std.proofs.lemmas.List.{nil_from_length, take-replicate}
pub use Rattle.std.proofs.lemmas.List.Elements.{All-cons, All-from_recursion, All-head, All-nil, All-tail}
pub use Rattle.std.proofs.lemmas.List.Elements.{recursion_from_All}
pub use Rattle.std.proofs.lemmas.List.Folds.{list_any-append}
pub use Rattle.std.proofs.lemmas.List.Quantifiers.{position-Some}
pub use Rattle.std.proofs.lemmas.Map.Made.{AllPairs-from_IsDistinct, IsDistinct-from_AllPairs, IsDistinct-from_count}
pub use Rattle.std.proofs.lemmas.Map.Made.{distinct_count-from_IsDistinct, hash_set_len-from_list}
pub use Rattle.std.proofs.lemmas.Nat.{and_le_l, le_bytes_2, le_bytes_4, or_lt, xor_lt}
pub use Rattle.std.proofs.lemmas.Option.{get_or_from_slice_get, slice_get-get_or, slice_get-map, slice_get_cases}
pub use Rattle.std.proofs.lemmas.Option.{slice_get_past, slice_get_within}
pub use Rattle.std.proofs.lemmas.Result.{err_from_is_err_and}
pub use Rattle.std.specs.Bool.{Decides}
pub use Rattle.std.specs.Cmp.{IsEquivalence, unsigned_Decides}
pub use Rattle.std.specs.Cmp.Lexicographic.{bytes_decides, pointwise, same_text}
pub use Rattle.std.specs.List.{AllByRecursion, filter, list_all, list_any, range_with_len, slice_get}
pub use Rattle.std.specs.Option.{IsSomeAnd, option_and_then, option_map, option_map_or}
pub use Rattle.sc_base.proofs.Lists.{all_by, is_there, take_all, take_prefix}
pub use Rattle.sc_base.specs.Prelude.{IsPrefix, is_between, is_name_byte, is_nondigit}
unfoldable pub use Rattle.sc_base.specs.Prelude.{is_name}
pub use Rattle.sc_event.specs.Prelude.{is_listed}
pub use Rattle.sc_event.specs.declared.interface.Scalar.TheVariants.{Int}
pub use Rattle.sc_word.proofs.Below.{add_word-lt, div_word-lt, divu_word-lt, mul_word-lt, mulh_word-lt, mulhsu_word-lt}
pub use Rattle.sc_word.proofs.Below.{mulhu_word-lt, rem_word-lt, remu_word-lt, sll_word-lt, slt_word-lt, sltu_word-lt}
pub use Rattle.sc_word.proofs.Below.{sra_word-lt, srl_word-lt, sub_word-lt}
pub use Rattle.sc_word.proofs.Words.{word_of-lt}
pub use Rattle.sc_word.specs.Prelude.{add_word, word_of}
pub use Rattle.rv_code.specs.Prelude.{HasWord, decoded}
pub use Rattle.sc_store.proofs.Words.{load_of-same, stored-apart}
pub use Rattle.sc_store.specs.Prelude.{HoldsBytes, ByteMemory, byte_of, is_in, load_of, with_bytes}
pub use Rattle.sc_image.specs.Common.{Auipc, BadCall, BadFree, BadJump, Branch, Breakpoint, Call, Ebreak, Ecall, End}
pub use Rattle.sc_image.specs.Common.{Ended, Entry, Event, EventsOut, Export, Fence, Illegal, In, Instr, Jal, Jalr}
pub use Rattle.sc_image.specs.Common.{Load, LoadOp, Lui, Main, Misaligned, NoImport, Op, OpImm, OpOp, Out, Owner}
pub use Rattle.sc_image.specs.Common.{Region, Ret, Shift, ShiftOp, StepsOut, Stop, Store, StoreOp, Trap, TrapReason}
pub use Rattle.sc_image.specs.Common.{Upper, little_bytes, little_number}
pub use Rattle.sc_image.specs.Prelude.{Adds, AgreeFor, AreBytesOf, BadOrImage, BytesNameOneImage, CallsComeBack}
pub use Rattle.sc_image.specs.Prelude.{BadOrBegins, BadPartIsBad, BeginWith, BeginWithImage, BytesBeginWithOne}
pub use Rattle.sc_image.specs.Prelude.{PartIsWhole, bad_part}
pub use Rattle.sc_image.specs.Prelude.{WrittenIsRead, a1, data_end, frees, has_heap, latest_version, most_flags}
pub use Rattle.sc_image.specs.Prelude.{on_alloc, on_free, parts_bytes, starts_block, version_at, with_zone, with_reg}
pub use Rattle.sc_image.specs.Prelude.{zone_address, zone_of, zone_size, zone_start, ComesBack, Crossing, Emits}
pub use Rattle.sc_image.specs.Prelude.{EmittingComposes, Entered, EntersByEvent, FitsItsFields, FollowsFromOwn, Goes}
pub use Rattle.sc_image.specs.Prelude.{HasCalled, ImageInMemory, IsAt, IsByte, IsCall, AreNested, IsComp, IsDistinct}
pub use Rattle.sc_image.specs.Prelude.{IsEntry, IsImage, IsImport, IsReached, IsSilentStep, IsSteadyState, IsWellFormed}
pub use Rattle.sc_image.specs.Prelude.{IsWord, KeepsWords, Kept, LeavesData, LeavesOthers, LegalByWords, LooksSame}
pub use Rattle.sc_image.specs.Prelude.{OpenCall, Outcome, Own, Point, MachineRun, Running, RunsAreSteady, RunsAt}
pub use Rattle.sc_image.specs.Prelude.{MachineState, StaysAbove, StepsByInstruction, StepsEmit, StretchesCompose}
pub use Rattle.sc_image.specs.Prelude.{MachineTracesAreLegal, Traps, Waits, Walks, a0, a7, activates, after}
pub use Rattle.sc_image.specs.Prelude.{after_outcome, after_step, are_distinct_by, arguments, bad, by_owner, byte_at}
pub use Rattle.sc_image.specs.Prelude.{bytes_in_version, call_of, on_call, jump_outside, read_cause, code_in}
pub use Rattle.sc_image.specs.Prelude.{code_start, comp_bytes, comp_of_code, comp_of_data, compares, comps_keep}
pub use Rattle.sc_image.specs.Prelude.{op_result, continued, count_read, data_of, data_regions, data_start, data_with}
pub use Rattle.sc_image.specs.Prelude.{emits_entry, on_end, execute, entered_export, export_bytes, export_called}
pub use Rattle.sc_image.specs.Prelude.{exports_bytes, exports_keep, exported_by, extended, flags, gate, given_back}
pub use Rattle.sc_image.specs.Prelude.{gives, initial_globals, has_result, if_decoded, if_fetched, image_bytes}
pub use Rattle.sc_image.specs.Prelude.{image_import, imports_keep, on_input, input_at, inputs_in, image_interface}
pub use Rattle.sc_image.specs.Prelude.{image_interfaces, is_argument, is_end, is_ended, is_entry, is_importable}
pub use Rattle.sc_image.specs.Prelude.{is_result, is_same_import, is_same_name, jalr_target, jump, jump_by, keeps_rules}
pub use Rattle.sc_image.specs.Prelude.{kept, kept_by, kept_from, later, latest_call, leaves, load_by, load_size}
pub use Rattle.sc_image.specs.Prelude.{word_loaded, machine, may_call_export, may_input, may_output, most_globals, next}
pub use Rattle.sc_image.specs.Prelude.{observation_at, observation_of, on_registers, open_after, open_calls, on_output}
pub use Rattle.sc_image.specs.Prelude.{own, own_at, export_params, image_proto, ra, refused, reg, on_return}
pub use Rattle.sc_image.specs.Prelude.{on_return_to, saved_sp, shift_on_registers, sp, stack_size, stack_top}
pub use Rattle.sc_image.specs.Prelude.{OutcomeOf, Protection, RunOf, plain, run}
pub use Rattle.sc_image.specs.Prelude.{stack_tops, start, step, stops_or, store_by, store_size, stretch, then_on}
pub use Rattle.sc_image.specs.Prelude.{unless_trap, unless_stopped, walk, with_pc, with_stored, without_latest}
pub use Rattle.sc_image.specs.Prelude.{word_interface, word_interfaces, word_proto, written}
pub use Rattle.sc_image.specs.Prelude.{AreGiven, IsButFor, differing, is_kept, is_same_export, is_same_flag}
pub use Rattle.sc_image.specs.Prelude.{is_same_inside, is_same_inside_at, is_same_outside, is_seen_alike, seen_of}
pub use Rattle.sc_zone.specs.declared.span.Span.{Span}
unfoldable pub use Rattle.sc_image.specs.Prelude.{are_data, execute_by, image_at, image_in, parts_at, read_comp}
unfoldable pub use Rattle.sc_image.specs.Prelude.{read_exports}
unfoldable pub use Rattle.sc_image.specs.Prelude.{run_by, start_memory, step_by, stopped, word_at}
pub use Rattle.sc_fields.specs.Prelude.{Fails, Read, bit, bytes_at, code_bytes, globals_bytes, if_good, import_bytes}
pub use Rattle.sc_fields.specs.Prelude.{imports_bytes, mark_at, name_bytes, number_at, number_that, ◌>>=◌}
unfoldable pub use Rattle.sc_fields.specs.Prelude.{code_at, comp_name_at, fields_at, globals_at, import_at, imports_at}
unfoldable pub use Rattle.sc_fields.specs.Prelude.{read_name}
pub use Rattle.sc_image.specs.declared.fault.BadImage.{BadImage}
pub use Rattle.sc_image.specs.declared.fault.BadImage.TheVariants.{Compartment, Contents, Count, Exports, Imports, Mark}
pub use Rattle.sc_image.specs.declared.fault.BadImage.TheVariants.{Start, Version, Whole}
pub use Rattle.sc_image.specs.declared.parts.CompPart.{CompPart}
pub use Rattle.sc_image.specs.declared.parts.ExportPart.{ExportPart}
pub use Rattle.sc_image.specs.declared.parts.ImageParts.{ImageParts}
pub use Rattle.sc_fields.specs.declared.import.ImportPart.{ImportPart}
