-- What this crate's contracts, its proofs and the crates above cite, passed on from one place. Declares nothing.
pub use Rattle.clap.specs.Words.{app_of, found_of, kind_of}
pub use Rattle.sc_top_words.specs.Application.{HasAccountFlags, HasFlags, IsArgumentOf, IsCommandOf, IsFlag}
pub use Rattle.sc_top_words.specs.Application.{IsReading, Says}
pub use Rattle.sc_top_words.specs.Application.{application, flag_rule, flag_text, shape_with, top, valued_rule}
pub use Rattle.sc_number.specs.Numbers.{integer, number, number_within, when_within}
pub use Rattle.sc_top_words.specs.Numbers.{first_piece, integer_list, is_comma, onto_first, pieces_after, prepended}
unfoldable pub use Rattle.sc_top_words.specs.Numbers.{integers, pieces}
pub use Rattle.sc_top_words.specs.Options.{Form, Given, begins_with_hyphen, each_once, given_value, has_option}
pub use Rattle.sc_top_words.specs.Options.{has_value, is_among, is_bare, more, name_and_value, named, named_option}
pub use Rattle.sc_top_words.specs.Options.{options, when_complete}
unfoldable pub use Rattle.sc_top_words.specs.Options.{settings}
pub use Rattle.sc_top_words.specs.Ranges.{range_of, range_within}
pub use Rattle.sc_top_words.specs.Usage.{usage_text}
pub use Rattle.sc_top_words.specs.Words.{command_with, commands, data_range, events, explain, explain_form, form_of}
pub use Rattle.sc_top_words.specs.Words.{inputs, judge, judge_form, limit, make, make_form, meaning_options}
pub use Rattle.sc_top_words.specs.Words.{most_steps, object, object_form, parsed}
pub use Rattle.sc_top_words.specs.Words.{run_options, section, section_name, tags, text_to_show, with_values}
unfoldable pub use Rattle.sc_top_words.specs.Words.{command}
