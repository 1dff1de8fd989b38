-- The names that several proofs of this crate cite, passed on from one place. Declares nothing.
pub use Rattle.std.proofs.Common.{All, Bool, List, None, Ok, Option, Some, [], ap, append-nil, append_assoc, ap₂, arith}
pub use Rattle.std.proofs.Common.{drop, eq-eqb, eqb-true, false, get_or, if◌then◌else◌, inl, inr, length, length-append}
pub use Rattle.std.proofs.Common.{map, ne_eqb, refl, rules, slice_index_or, subst, suc, sym, take, take_all, true, zero}
pub use Rattle.std.proofs.Common.{ℕ, ℤ, ⊎_elim, ◌++◌, ◌+◌, ◌-◌, ◌<◌, ◌==◌, ◌^◌, ◌||◌, ◌∙◌, ◌∷◌, ◌≡◌, ◌≤◌, ◌⊎◌}
pub use Rattle.std.proofs.lemmas.Bool.{cases_eq, cases_lt}
pub use Rattle.std.proofs.lemmas.List.{at_drop_all, get_or_read_under, length-map, map-append, take-append-le}
pub use Rattle.std.proofs.lemmas.List.Elements.{All-append, All-from_recursion, All-map, All-push, recursion_from_All}
pub use Rattle.std.specs.List.{AllByRecursion, concat, list_any}
pub use Rattle.sc_base.specs.declared.stop.Stop.{Stop}
pub use Rattle.sc_event.specs.Prelude.{Standing, action_of, at_start, legal, part, performer, rows_from, stands_after}
pub use Rattle.sc_event.specs.declared.row.Row.{Row}
pub use Rattle.sc_parse_read.specs.Reading.{TextPart, Reads, part_of}
pub use Rattle.sc_word.specs.Prelude.{word_of}
pub use Rattle.sc_core.specs.Prelude.{IsWellTyped, c_arith, meaning, scripted_meaning}
pub use Rattle.sc_core.specs.declared.run.SourceRun.{SourceRun}
pub use Rattle.sc_types.specs.Prelude.{Accepts, IsSource, IsSplitInto, IsTyped, SourceParts}
pub use Rattle.sc_core_laws.proofs.ProgramLaws.{blamed_are_there, chain_exists, chain_is_least, chains_rise, empty_set}
pub use Rattle.sc_core_laws.specs.Prelude.{AreFresh, IsBlamedOutside, IsLink, IsRising, CompSet, nobody, performed}
pub use Rattle.sc_core_laws.specs.Prelude.{with}
pub use Rattle.sc_image.specs.Prelude.{Goes, IsWellFormed, IsWord, Outcome, MachineRun, MachineState, Traps, machine}
pub use Rattle.sc_image.specs.Prelude.{run, start}
pub use Rattle.sc_image.specs.Prelude.{step, stopped}
pub use Rattle.sc_image.specs.declared.parts.ImageParts.{ImageParts}
pub use Rattle.sc_compile.specs.Prelude.{EmitsOrIsBlamed, IsCompiled, IsRobust, image_of}
pub use Rattle.sc_back.specs.Prelude.{HasNext, new_text, new_texts}
pub use Rattle.sc_back_replay_laws.specs.Replay.{HasWords, IsRecomposed, IsReplay}
pub use Rattle.sc_chain.specs.Common.{Blamed, Cause, Event, Interfaces, Link, ProgramTree, Replacement}
pub use Rattle.sc_chain.specs.Prelude.{HasProgram, Includes, IsAccountOf, IsChain, IsChainFrom, IsChainWith}
pub use Rattle.sc_chain.specs.Prelude.{IsExplained, IsNextLink, IsNextOf}
pub use Rattle.sc_chain.specs.Prelude.{IsReplaced, IsScripted, MeansTrace, is_listed, joined_text, performing}
pub use Rattle.sc_chain.specs.Prelude.{performing_text, recomposed}
pub use Rattle.sc_chain.specs.Prelude.{replacement_of, text_for}
