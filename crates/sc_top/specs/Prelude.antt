-- What this crate's contracts, its proofs and the crates above cite, passed on from one place. Declares nothing.
pub use Rattle.sc_base.specs.Prelude.{most_events, most_image}
pub use Rattle.sc_event.specs.Prelude.{IsKnown, comp_at, comp_name, legal}
pub use Rattle.sc_types.specs.Prelude.{Accepts, IsSource}
pub use Rattle.sc_compile.specs.Prelude.{IsCompiled, too_large}
pub use Rattle.sc_chain.specs.Prelude.{IsAnotherProgram, IsExplained, IsFault, IsImageExplained}
pub use Rattle.sc_top_words.specs.Prelude.{most_steps}
unfoldable pub use Rattle.sc_top_words.specs.Prelude.{command}
pub use Rattle.sc_top_words.specs.declared.command.Command.{Command}
pub use Rattle.sc_top_words.specs.declared.command.Command.TheVariants.{Check, Compile, Exec, Explain, Judge, Meaning}
pub use Rattle.sc_top_words.specs.declared.command.Command.TheVariants.{Link, Object, Run, Tags}
pub use Rattle.sc_top.specs.Answer.{Answers, FindsAnother, FindsBad, FindsBadJoin, FindsBadLine, FindsBadObject}
pub use Rattle.sc_top.specs.Answer.{FindsLongText, FindsNoSection, IsOfAnother, part_cause_in}
pub use Rattle.sc_top.specs.Answer.{FindsUnfit, IsAnswer, IsGood, IsInput, IsSilent, IsUndisturbed, LacksSection}
pub use Rattle.sc_top.specs.Answer.{IsUnfit, IsWhole, IsWithin, IsWithinLimit, Prints, Refuses, SameAnswer, Says}
pub use Rattle.sc_top.specs.Answer.{Traffic, cause_in}
pub use Rattle.sc_top.specs.Apart.{AskAlike, ExecutedApart, ExecutionsAreApart, FitBut, ReportApart, RunApart}
pub use Rattle.sc_top.specs.Apart.{SameTextsBut, SameTextsFit, SectionsAreApart, runs_of}
pub use Rattle.sc_top.specs.Command.{HoldsAfterImage, HoldsAfterPolicy, HoldsOfBoth, HoldsOfText}
pub use Rattle.sc_top.specs.Command.{accounted_intake, intake, limit_in, limit_of}
pub use Rattle.sc_top.specs.Committed.{IsCommitted, comp_of, links_until, performers, section_after, text_after}
pub use Rattle.sc_top.specs.Committed.{section_read}
pub use Rattle.sc_top.specs.Failure.{IsCauseIn, IsInputCause, IsJoining, IsOutputCause, of_image_fault, of_join}
pub use Rattle.sc_top.specs.Failure.{of_join_fault}
pub use Rattle.sc_top.specs.Failure.{of_objects_fault, of_policy_fault, of_read_fault, of_text_fault, of_words_fault}
pub use Rattle.sc_top.specs.Failure.{status_by, status_of}
pub use Rattle.sc_top.specs.Fetching.{Fetches}
pub use Rattle.sc_top.specs.Laws.{AreAllObjects, CompiledImagesRun, ExplainedAreTagged, IsTaggedRun}
pub use Rattle.sc_top.specs.Laws.{LinkingIsCompiling, LinksTo, RunsAs, TagsRunAsExec}
pub use Rattle.sc_top.specs.Objects.{CanBeLinked, HasBadJoin, HasBadObject, HasSection, IsLinked, bad_join_in}
pub use Rattle.sc_top.specs.Objects.{comp_named, face_name, join_by_name, section_of}
pub use Rattle.sc_top.specs.Output.{IsObjectOutput}
pub use Rattle.sc_top.specs.Output.{AreImageAndText, HasAccount, HasAccountIn, HasExplanation, HasImage}
pub use Rattle.sc_top.specs.Output.{HasImageBefore, IsAccounted, IsExecuted, IsExplainedOn, IsGoodText, IsGoodWith}
pub use Rattle.sc_top.specs.Output.{IsJudged, IsMade}
pub use Rattle.sc_top.specs.Output.{IsMadeBy, IsMadeText, judge_text}
pub use Rattle.sc_top.specs.Output.{IsOutput}
pub use Rattle.sc_top.specs.Output.{IsSummary, IsTextOutput, account, compiles, machine_run, machine_text}
pub use Rattle.sc_top.specs.Output.{report_text}
pub use Rattle.sc_top.specs.Accounts.{AccountsRunAsExec, CompiledImagesAreExplained, CompiledImagesAreJudged}
pub use Rattle.sc_top.specs.Accounts.{JudgmentsRunAsExec, LinkedImagesAreExplained}
pub use Rattle.sc_top.specs.Output.{meaning_asked, output}
pub use Rattle.sc_top.specs.Status.{bytes_of, fixed_text, join_text, joined_text, kind_text, large_text, object_text}
pub use Rattle.sc_top.specs.Status.{own_text, owner_text, phase_word}
pub use Rattle.sc_top.specs.Status.{refusal_text, status_number, status_text}
pub use Rattle.sc_top.specs.Tagged.{IsTagged, ranges_of, tag_run, tag_text}
pub use Rattle.sc_top.specs.Texts.{IsAccountFor, IsAnotherCompiling, IsBounded, IsCompiling, IsLimited, IsNamed}
pub use Rattle.sc_top.specs.Texts.{IsReading, of_compile_fault}
pub use Rattle.sc_top.specs.Writing.{Wrote}
pub use Rattle.sc_top.specs.declared.status.Status.{Status}
