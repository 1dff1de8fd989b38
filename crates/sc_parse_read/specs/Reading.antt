-- How a text is read: it is split into its preamble and its sections, these parts are cut into tokens, and the tokens
-- of each section spell its tree.
use Rattle.sc_parse_read.specs.Common.{IsCut, IsParsed, IsSplit, RefusesBytes, RefusesHeading, Section, SectionTree}
use Rattle.sc_parse_read.specs.Common.{Token, lexemes_of, line_after, line_at}
use Rattle.std.specs.Prelude.{◌≡◌, ℕ, ◌-◌, List, [], ◌∷◌, map, Any}
use Rattle.std.specs.List.{AllZip}
use Rattle.sc_lex.specs.declared.refusal.Refusal.{Refusal}
use Rattle.sc_lex.specs.declared.refusal.Phase.{Phase}
use Rattle.sc_lex.specs.declared.refusal.Phase.TheVariants as phase
use Rattle.sc_parse_read.specs.First.{First}

-- Bytes of a text that are cut by themselves, and the place in the text where they begin.
pub record TextPart : Type 0 where
  pub start : ℕ
  pub bytes : List ℕ

abbrev pub part_of : Section → TextPart
part_of section = record { start = section.start; bytes = section.bytes.now }

-- the parts of a text that is split so: its preamble, and each section
abbrev pub parts_of : List ℕ → List Section → List TextPart
parts_of preamble sections = record { start = 0; bytes = preamble } ∷ map part_of sections

abbrev pub HasTokens : TextPart → Type 0
HasTokens part = (tokens : List Token) × IsCut part.bytes tokens

-- A text passes phase Lex: it is a preamble that is cut into these tokens, and these sections, each of which is cut
-- too.
pub record PassesLex (text : List ℕ) (before : List Token) (sections : List TextPart) : Type 0 where
  pub preamble : List ℕ
  pub found : List Section
  pub cuts : List (List Token)
  pub split : IsSplit text preamble found
  pub parts : sections ≡ map part_of found
  pub cut : IsCut preamble before
  pub each : AllZip (λ part tokens. IsCut part.bytes tokens) sections cuts

-- A section is cut into tokens that spell the tree, which is at most 256 high, with at most 1,024 brackets open.
pub record IsRead (text : List ℕ) (section : TextPart) (tree : SectionTree) : Type 0 where
  pub tokens : List Token
  pub cut : IsCut section.bytes tokens
  pub parsed : IsParsed (line_at text section.start) (lexemes_of section.bytes tokens) tree

-- A text is read as the trees of its sections: it passes phase Lex, its preamble has no token, and each section is read
-- as its tree.
pub record Reads (text : List ℕ) (trees : List SectionTree) : Type 0 where
  pub sections : List TextPart
  pub lexed : PassesLex text [] sections
  pub each : AllZip (IsRead text) sections trees

-- The part isn't cut: in this line of the text stands the first place that begins neither white space, nor a comment,
-- nor a token.
abbrev pub IsUncut : List ℕ → ℕ → TextPart → Type 0
IsUncut text line part = RefusesBytes part.bytes (line_at text part.start) (record { phase = phase.Lex; line = line })

-- A text fails phase Lex in a line: that of its first bad compartment line, or, where none is bad, that of the first
-- place at which a part isn't cut.
pub data FailsLex (text : List ℕ) (line : ℕ) : Type 0 where
  bad_heading : (refusal : Refusal) → RefusesHeading text refusal → line ≡ refusal.line → FailsLex text line
  uncut : (preamble : List ℕ) (sections : List Section) → IsSplit text preamble sections →
      First HasTokens (IsUncut text line) (parts_of preamble sections) → FailsLex text line

abbrev pub HasTree : List ℕ → TextPart → Type 0
HasTree text section = (tree : SectionTree) × IsRead text section tree

-- The tokens of a section spell no tree within the limits, and one of them stands in this line of the text.
pub record IsUnread (text : List ℕ) (line : ℕ) (section : TextPart) : Type 0 where
  pub tokens : List Token
  pub cut : IsCut section.bytes tokens
  pub treeless : (tree : SectionTree) → IsParsed (line_at text section.start) (lexemes_of section.bytes tokens) tree → ⊥
  pub in_line : Any (λ token. line ≡ line_after (line_at text section.start) (token.line - 1)) tokens

-- A text passes phase Lex and fails phase Syntax in a line: that of the preamble's first token, or, where it has none,
-- that of a token of the first section that isn't read.
pub data FailsSyntax (text : List ℕ) (line : ℕ) : Type 0 where
  in_preamble : (first : Token) (more : List Token) (sections : List TextPart) →
      PassesLex text (first ∷ more) sections →
      line ≡ first.line → FailsSyntax text line
  in_section : (sections : List TextPart) → PassesLex text [] sections →
      First (HasTree text) (IsUnread text line) sections → FailsSyntax text line

-- a text fails a phase of reading in a line
abbrev pub FailsReading : List ℕ → Phase → ℕ → Type 0
FailsReading text phase.Lex line = FailsLex text line
FailsReading text phase.Syntax line = FailsSyntax text line
FailsReading text _ line = ⊥
