-- What a section with its lexemes is parsed to, within the limits.
use Rattle.sc_base.specs.Prelude.{most_brackets, most_height}
use Rattle.sc_parse.specs.Common.{Lexeme, SectionTree, lexeme_of, most_open, section_height}
use Rattle.sc_lex.specs.Prelude.{line_after}
use Rattle.std.specs.Prelude.{ℕ, ◌-◌, ◌≤◌, List, map}
use Rattle.sc_lex.specs.declared.token.Token.{Token}
use Rattle.sc_parse.specs.Sections.{SpellsSection}

-- The lexemes spell the tree of a section whose compartment line is this one of the whole text. It is at most 256 high,
-- and nowhere are more than 1,024 brackets open.
pub record IsParsed (line : ℕ) (lexemes : List Lexeme) (tree : SectionTree) : Type 0 where
  pub spelled : SpellsSection line lexemes tree
  pub low : section_height tree ≤ most_height
  pub few : most_open 0 lexemes ≤ most_brackets

-- tokens of these bytes as lexemes
abbrev pub lexemes_of : List ℕ → List Token → List Lexeme
lexemes_of bytes tokens = map (λ token. lexeme_of bytes token) tokens

-- the line of a lexeme in the whole text, where its section begins in this line
abbrev pub whole_line : ℕ → Lexeme → ℕ
whole_line first t = line_after first (t.line - 1)
