-- Helping: what the functions over the sections of a text find.
use Rattle.sc_parse_read.specs.Common.{IsCut, IsParsed, Section, SectionTree, Token, lexemes_of, line_after}
use Rattle.std.specs.Prelude.{◌≡◌, ℕ, ◌-◌, ◌<◌, List, length, Any}
use Rattle.std.specs.List.{AllZip}

abbrev pub IsCutInto : Section → List Token → Type 0
IsCutInto section tokens = IsCut section.bytes.now tokens

abbrev pub IsCuttable : Section → Type 0
IsCuttable section = (tokens : List Token) × IsCut section.bytes.now tokens

-- the tree of a section
pub record IsTreeOf (section : Section) (tree : SectionTree) : Type 0 where
  pub tokens : List Token
  pub cut : IsCut section.bytes.now tokens
  pub parsed : IsParsed section.line (lexemes_of section.bytes.now tokens) tree

abbrev pub IsParsable : Section → Type 0
IsParsable section = (tree : SectionTree) × IsTreeOf section tree

-- The tokens of a section spell no tree within the limits, and one of them stands in this line.
pub record RefusesTokens (line : ℕ) (section : Section) : Type 0 where
  pub tokens : List Token
  pub cut : IsCut section.bytes.now tokens
  pub treeless : (tree : SectionTree) → IsParsed section.line (lexemes_of section.bytes.now tokens) tree → ⊥
  pub in_line : 0 < length tokens → Any (λ token. line ≡ line_after section.line (token.line - 1)) tokens
