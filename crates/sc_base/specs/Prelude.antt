-- What this crate's contracts, its proofs and the crates above cite, passed on from one place. Declares nothing.
pub use Rattle.sc_base.specs.Filled.{IsFilled, filled, zeros_after}
pub use Rattle.sc_base.specs.FirstByName.{first_by_name, with_first}
pub use Rattle.sc_base.specs.Identifier.{is_between, is_digit, is_name_byte, is_nondigit, name_of}
unfoldable pub use Rattle.sc_base.specs.Identifier.{is_name}
pub use Rattle.sc_base.specs.Levels.{level_of, loosest_level, postfix_level, unary_level}
pub use Rattle.sc_base.specs.Limits.{most_brackets, most_compartments, most_compiled, most_events, most_exports}
pub use Rattle.sc_base.specs.Limits.{most_height, most_image, most_params, most_text}
pub use Rattle.sc_base.specs.Numbering.{HasOneNumberEach, is_numbered, next_number, number_by_name, numbered}
pub use Rattle.sc_base.specs.Places.{HasPlaces}
pub use Rattle.sc_base.specs.Prefix.{IsPrefix}
pub use Rattle.sc_base.specs.Reserved.{reserved_words}
unfoldable pub use Rattle.sc_base.specs.Reserved.{is_reserved}
pub use Rattle.sc_base.specs.Rules.{all_hold}
pub use Rattle.sc_base.specs.Text.{Text}
pub use Rattle.sc_base.specs.Word.{IsWord, IsWordOrNone, signed_text}
