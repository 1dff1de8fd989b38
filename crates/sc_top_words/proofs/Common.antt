-- The names that several proofs of this crate cite, passed on from one place. Declares nothing.
pub use Rattle.std.proofs.Common.{Bool, Box, Err, FitsSigned, List, None, Ok, OkIff, Option, Result, Some, [], ap}
pub use Rattle.std.proofs.Common.{append-nil, append_assoc, ap₂, arith, codes, cond, eq-eqb, eqb-true, false, find}
pub use Rattle.std.proofs.Common.{fold, get_or, if◌then◌else◌, inl, inr, is_some, le-leb, leb-true, length, lt-ltb}
pub use Rattle.std.proofs.Common.{ltb-true, map, nat_le, nat_lt, neg_ℤ, not, option_and_then, option_map, pos, refl}
pub use Rattle.std.proofs.Common.{rules, slice_get, slice_index, subst, suc, sym, true, true≢false, w32, ℕ, ℤ, ◌&&◌}
pub use Rattle.std.proofs.Common.{◌++◌, ◌+◌, ◌<◌, ◌==◌, ◌||◌, ◌∙◌, ◌∷◌, ◌≡◌, ◌≢◌, ◌≤◌, ◌⊎◌}
pub use Rattle.clap.proofs.WalkLemmas.{find-map, first_value-rows, list_any-map, one_text-rows}
pub use Rattle.clap.specs.Faults.{check_fault, entered_fault, fault_of, is_simple_and_free, level_fault, long_fault}
pub use Rattle.clap.specs.Faults.{other_fault, settle_fault, step_fault, turn_fault, use_fault}
unfoldable pub use Rattle.clap.specs.Faults.{defaults_fault, walk_fault}
pub use Rattle.clap.specs.Kinds.{IsAmong, Kinds, or_else}
pub use Rattle.clap.specs.Lexer.{short_of}
pub use Rattle.clap.specs.Simple.{App, HasMatchesOf, Shape, entered, is_simple, label_of, names_of, new_shape, rows_at}
pub use Rattle.clap.specs.Simple.{subcommand_of, subcommand_rows, subcommand_rows_of}
pub use Rattle.clap.specs.Walk.{Held, Names, Row, Rule, Step, Waiting, Walk, after_flag, after_step, answers_to}
pub use Rattle.clap.specs.Walk.{arg_by_id, arg_by_index, arg_by_long, at_row, finished, first_of, has_row, idle}
pub use Rattle.clap.specs.Walk.{long_met, more_values, nothing_held, one_of, option, reacted, row_text, rows_after}
pub use Rattle.clap.specs.Walk.{rows_of, settled, subcommand_met, subcommand_or_other, used, used_by_id, walk_from}
pub use Rattle.clap.specs.Walk.{with_default, with_values}
unfoldable pub use Rattle.clap.specs.Walk.{walked}
pub use Rattle.clap.specs.declared.error.kind.ErrorKind.{ErrorKind}
pub use Rattle.std.proofs.Math.Bool.{and-false, and-true, or-false, or-true}
pub use Rattle.std.proofs.lemmas.Bool.{and_from, and_parts, lt-leb, or_parts}
pub use Rattle.std.proofs.lemmas.List.Folds.{find-append, list_any-append}
pub use Rattle.std.proofs.lemmas.Result.{IfOk-weaker}
pub use Rattle.std.specs.List.{after_first, list_all, list_any, position_or_len}
pub use Rattle.std.specs.Option.{option_map_or, option_or}
pub use Rattle.std.specs.Str.{all_ascii_digits, bytes_eq}
pub use Rattle.std.specs.String.{string_bytes}
pub use Rattle.sc_base.proofs.Lists.{find_passes}
pub use Rattle.sc_base.proofs.Texts.{bytes_eq_self, same_either_way, same_text}
pub use Rattle.sc_base.specs.Prelude.{Text}
pub use Rattle.sc_top_words.specs.Prelude.{Form, Given, IsCommandOf, IsReading, Says, app_of, application}
pub use Rattle.sc_top_words.specs.Prelude.{begins_with_hyphen, command_with, commands, each_once, events, first_piece}
pub use Rattle.sc_top_words.specs.Prelude.{flag_rule, flag_text, form_of, found_of, given_value, has_option, has_value}
pub use Rattle.sc_top_words.specs.Prelude.{inputs, integer, integer_list, is_among, is_bare, is_comma, kind_of, limit}
pub use Rattle.sc_top_words.specs.Prelude.{make_form, more, name_and_value, named, named_option, number_within}
pub use Rattle.sc_top_words.specs.Prelude.{onto_first, options, parsed, pieces_after, prepended, run_options}
pub use Rattle.sc_top_words.specs.Prelude.{shape_with, text_to_show, top, valued_rule, when_complete, when_within}
unfoldable pub use Rattle.sc_top_words.specs.Prelude.{command, integers, pieces, settings}
