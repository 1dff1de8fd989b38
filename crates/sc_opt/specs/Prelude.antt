-- What this crate's contracts and the crates above cite, passed on from one place. Declares nothing.
pub use Rattle.sc_opt.specs.Pass.{all_joined, all_used, always_word, assigned, assigned_in, assigned_step}
pub use Rattle.sc_opt.specs.Pass.{assigns_words, constant_by, constant_from, constant_of, constants_below, copies_one}
pub use Rattle.sc_opt.specs.Pass.{copy_source, copy_sources, folded, folded_from, gives_word, is_kept, is_lean, is_none}
pub use Rattle.sc_opt.specs.Pass.{is_once, is_read, is_read_by, is_total, is_total_signed, is_total_unsigned}
pub use Rattle.sc_opt.specs.Pass.{is_word_constant, joined, keep, keep_if, known_constant, lean, on_constants, one_pass}
pub use Rattle.sc_opt.specs.Pass.{operator_code, pass, pass_step, passed, present, reads_here, reads_some, reads_temp}
pub use Rattle.sc_opt.specs.Pass.{reads_unless, reads_used, reads_within, right_holds_word, second_constant, source_by}
pub use Rattle.sc_opt.specs.Pass.{table_of, takes_promised, unless_folded, with_second}
pub use Rattle.sc_opt.specs.Optimised.{changed_function, changed_program, changed_section, optimised}
pub use Rattle.sc_opt.specs.Optimised.{optimised_function, optimised_program, optimised_section, optimised_within}
pub use Rattle.sc_opt.specs.Optimised.{statement_step, statements, stmt_statements}
pub use Rattle.sc_opt.specs.Tables.{MarksAll, MarksStmt, Notes, NotesAll, NotesStmt, Tell, assigned_at, constant_at}
pub use Rattle.sc_opt.specs.Tables.{copy_by, facts_at, holds_word_at, keep_when, marked, noted, nothing_known}
pub use Rattle.sc_opt.specs.Tables.{operator_by, operator_from, pass_by, passed_by, reads_stmt, source_at, used_at}
pub use Rattle.sc_opt.specs.Tables.{with_fact, words_alone}
pub use Rattle.sc_opt.specs.Laws.{ChainGoesAtOnce, EachFunction, KeepsFunction, KeepsRules, KeepsSection, KeepsShape}
pub use Rattle.sc_opt.specs.Laws.{OptimiserKeepsMeaning, OptimiserKeepsRules, OptimiserKeepsShape, ResultsAreLean}
pub use Rattle.sc_opt.specs.Laws.{RunsAlike}
