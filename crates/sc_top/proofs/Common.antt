-- The names that several proofs of this crate cite, passed on from one place. Declares nothing.
pub use Rattle.std.proofs.Common.{All, Bool, Err, IfOk, IsErrOf, IsSome, IsTrue, List, None, Ok, OnOk, Option, Result}
pub use Rattle.std.proofs.Common.{Some, [], ap, append-nil, append_assoc, ap₂, arith, codes, decimal, drop, false}
pub use Rattle.std.proofs.Common.{filter, flat_map, if◌then◌else◌, inl, inr, le-ltb, leb-true, length, length-append}
pub use Rattle.std.proofs.Common.{length-drop, map, nat_le, option_and_then, option_map, refl, rules, slice_get, subst}
pub use Rattle.std.proofs.Common.{suc, sym, take, take-append-drop, take_all, true, zero, ℕ, ℤ, ⊎_elim, ◌&&◌, ◌*◌, ◌++◌}
pub use Rattle.std.proofs.Common.{◌+◌, ◌-◌, ◌<◌, ◌==◌, ◌||◌, ◌∙◌, ◌∷◌, ◌≡◌, ◌≤◌, ◌⊎◌}
pub use Rattle.std.proofs.Math.Bool.{and-true, or-false}
pub use Rattle.std.proofs.lemmas.Bool.{and_parts, false≢true, leb-false, or_parts}
pub use Rattle.std.proofs.lemmas.List.{length-map, take_rest}
pub use Rattle.std.proofs.lemmas.List.Elements.{All-from_recursion, All-map, recursion_from_All}
pub use Rattle.std.proofs.lemmas.Option.{none-some}
pub use Rattle.std.specs.List.{AllByRecursion, concat}
pub use Rattle.std.specs.Prelude.{min, slice_index_or}
pub use Rattle.sc_event.specs.Prelude.{IsKnown, comp_at, legal}
pub use Rattle.sc_event.specs.declared.event.Event.{Event}
pub use Rattle.sc_word.specs.Prelude.{word_of}
pub use Rattle.sc_core.specs.Prelude.{IsWellTyped, c_arith, main_fits, meaning, sections_fit}
pub use Rattle.sc_core.specs.declared.section.TypedFunction.{TypedFunction}
pub use Rattle.sc_core.specs.declared.section.TypedSection.{TypedSection}
pub use Rattle.sc_types.specs.Prelude.{Accepts, Fails, IsSource, IsSplitInto, SourceParts}
pub use Rattle.sc_image.specs.Prelude.{BeginWithImage, IsButFor}
pub use Rattle.sc_image.specs.Prelude.{BytesNameOneImage, IsComp, IsExport, IsImage, IsWellFormed, IsWord, bad, bit}
pub use Rattle.sc_image.specs.Prelude.{cause_number, read_cause, comp_bytes, export_bytes, exports_bytes, globals_bytes}
pub use Rattle.sc_image.specs.Prelude.{import_bytes, imports_bytes, image_interfaces, machine}
pub use Rattle.sc_image.specs.Prelude.{most_globals}
pub use Rattle.sc_image.specs.Prelude.{name_bytes, stretch}
pub use Rattle.sc_image.specs.declared.parts.ImageParts.{ImageParts}
pub use Rattle.sc_compile.specs.Prelude.{IsCompiled, above, built_image, code_size, data_size, first, faults_from}
pub use Rattle.sc_compile.specs.Prelude.{frame_bytes, image_of, large_code, large_data, large_frame, large_frames}
pub use Rattle.sc_compile.specs.Prelude.{too_large, unless_large}
pub use Rattle.sc_compile.specs.declared.fault.CompileFault.TheVariants.{CodeTooLarge, DataTooLarge, FrameTooLarge}
pub use Rattle.sc_compile.specs.declared.fault.CompileFault.TheVariants.{OutOfMemory}
pub use Rattle.sc_chain.specs.Prelude.{IsChainFrom, IsExplained, IsFault, IsImageExplained, IsNext, MeansTrace}
pub use Rattle.sc_chain.specs.Prelude.{is_listed, performing_text, recomposed}
pub use Rattle.sc_core.specs.declared.explanation.Explanation.{Explanation}
pub use Rattle.sc_report_made.specs.Laws.{AreSmall, IsAccepted, IsSmall}
pub use Rattle.sc_top_words.specs.declared.command.Command.TheVariants.{Make}
pub use Rattle.sc_top_words.specs.declared.command.ExplainOptions.{ExplainOptions}
pub use Rattle.sc_top_words.specs.declared.command.JudgeOptions.{JudgeOptions}
pub use Rattle.sc_top_words.specs.declared.command.MakeOptions.{MakeOptions}
pub use Rattle.sc_top_words.specs.declared.command.RunOptions.{RunOptions}
pub use Rattle.sc_policy.specs.Prelude.{IsBadAt, IsPolicyRead, lines_of}
pub use Rattle.sc_policy.specs.declared.policy.Policy.{Policy}
pub use Rattle.sc_policy.specs.declared.read.PolicyRead.{PolicyRead}
pub use Rattle.sc_report.specs.Report.{meaning_text, run_text}
pub use Rattle.sc_report.specs.Summary.{summary_text}
pub use Rattle.sc_top.specs.Common.{Adds, CompileFault, Interfaces, IsAtEnd, Link, ProgramTree, Refusal, Rose, Takes}
pub use Rattle.sc_top.specs.Prelude.{Answers, AreImageAndText, Check, Command, Compile, Exec, Explain, Fetches}
pub use Rattle.sc_top.specs.Prelude.{CanBeLinked, FindsBad, FindsBadLine, FindsUnfit, HasBadJoin, HasBadObject}
pub use Rattle.sc_top.specs.Prelude.{HasAccount, HasAccountIn, HoldsAfterImage, HoldsOfBoth, IsAccountFor}
pub use Rattle.sc_top.specs.Prelude.{IsAnotherCompiling, IsCauseIn, IsExplainedOn, IsGoodWith, IsLimited, IsOfAnother}
pub use Rattle.sc_top.specs.Prelude.{IsReading, accounted_intake, limit_in, part_cause_in}
pub use Rattle.sc_top.specs.Prelude.{HasExplanation, HasImage, HasSection, HoldsAfterPolicy, IsJoining, IsLinked}
pub use Rattle.sc_top.specs.Prelude.{IsObjectOutput, LacksSection, Object, bad_join_in, comp_named, join_by_name}
pub use Rattle.sc_top.specs.Prelude.{of_join_fault, section_of}
pub use Rattle.sc_top.specs.Prelude.{HoldsOfText, IsAccounted, IsAnswer, IsBounded, IsCommitted, IsCompiling}
pub use Rattle.sc_top.specs.Prelude.{IsExecuted, IsGood, IsGoodText, IsInput, IsJudged, IsMadeBy, IsMadeText, IsNamed}
pub use Rattle.sc_top.specs.Prelude.{IsOutput, IsOutputCause, IsSummary, IsTextOutput, IsUndisturbed, IsUnfit}
pub use Rattle.sc_top.specs.Prelude.{IsWhole, IsWithin, IsWithinLimit, Judge, Meaning, Prints, Refuses, Run}
pub use Rattle.sc_top.specs.Prelude.{SameAnswer, Says, Status, Traffic, Wrote, account, bytes_of, cause_in, comp_of}
pub use Rattle.sc_top.specs.Prelude.{compiles, intake, judge_text, limit_of, machine_run, machine_text, meaning_asked}
pub use Rattle.sc_top.specs.Prelude.{of_compile_fault, output, own_text, owner_text, performers}
pub use Rattle.sc_top.specs.Prelude.{status_by}
pub use Rattle.sc_top.specs.Prelude.{text_after}
pub use Rattle.sc_top.specs.declared.failure.Failure.{Failure}
