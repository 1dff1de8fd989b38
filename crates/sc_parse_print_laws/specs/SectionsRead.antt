-- What it means that printed sections read back.
use Rattle.sc_parse_print_laws.specs.Common.{IsCut, Lexeme, SameButLines, SectionTree, SpellsSection, Token, lexeme_of}
use Rattle.sc_parse_print_laws.specs.Common.{section_words}
use Rattle.std.specs.Prelude.{◌≡◌, ℕ, List, map}
use Rattle.sc_parse_print_laws.specs.Symbols.{symbols}

-- lexemes that say what the words of the section say spell a section that is the same, lines aside
abbrev pub SectionSpells : SectionTree → Type 0
SectionSpells tree =
    (lexemes : List Lexeme) → map (λ t. t.symbol) lexemes ≡ symbols (section_words tree) →
    (other : SectionTree) × SpellsSection tree.line lexemes other × SameButLines other tree

-- The bytes are cut into tokens, and these spell a section that is this one, lines aside.
pub record SectionReadsAs (bytes : List ℕ) (tree : SectionTree) : Type 0 where
  pub tokens : List Token
  pub cut : IsCut bytes tokens
  pub other : SectionTree
  pub spelled : SpellsSection tree.line (map (λ token. lexeme_of bytes token) tokens) other
  pub same : SameButLines other tree
