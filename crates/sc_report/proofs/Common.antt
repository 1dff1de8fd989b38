-- The names that several proofs of this crate cite, passed on from one place. Declares nothing.
pub use Rattle.std.proofs.Common.{Bool, Err, List, Ok, OnOk, Result, [], ap, append-nil, append_assoc, arith, codes}
pub use Rattle.std.proofs.Common.{cond, decimal, eq-eqb, false, filter, flat_map, get_or, length, map, nat_eq, ne_eqb}
pub use Rattle.std.proofs.Common.{suc, sym}
pub use Rattle.std.proofs.Common.{take, true, zero, ℕ, ◌%◌, ◌*◌, ◌++◌, ◌+◌, ◌/◌, ◌<◌, ◌∙◌, ◌∷◌, ◌≡◌}
pub use Rattle.std.proofs.lemmas.List.{flat_map_more, take_more}
pub use Rattle.sc_event.specs.Prelude.{comp_name, event_line, spaced_names}
pub use Rattle.sc_report.specs.Made.{made_call, made_export, made_function, made_import, next_state, numbers_from}
pub use Rattle.sc_report.specs.Made.{made_proto, state_after, worker_text, workers}
pub use Rattle.sc_report.specs.Check.{export_report, import_report, interface_text, scalar_word}
pub use Rattle.sc_report.specs.Making.{call_with, function_with, state_at}
pub use Rattle.sc_report.specs.Report.{cause_end, link_end, link_line}
pub use Rattle.sc_report.specs.Verdict.{rule_end, violator_end}
