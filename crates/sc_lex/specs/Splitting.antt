-- How a text is split into its preamble and its sections.
use Rattle.std.specs.Prelude.{◌≡◌, ℕ, ◌+◌, ◌<◌, ◌≤◌, List, [], ◌∷◌, length, take, slice_range, IsTrue, Some, None}
use Rattle.sc_lex.specs.Lines.{line_at}
use Rattle.sc_lex.specs.Headings.{is_heading, name_at}
use Rattle.sc_lex.specs.declared.section.Section.{Section}
use Rattle.sc_lex.specs.declared.refusal.Refusal.{Refusal}
use Rattle.sc_lex.specs.declared.refusal.Phase.TheVariants.{Lex}

-- from this place to before that one no compartment line stands
abbrev pub NoHeading : List ℕ → ℕ → ℕ → Type 0
NoHeading text from to = (at : ℕ) → from ≤ at → at < to → IsTrue (is_heading text at) → ⊥

-- a section that begins at this place, with a good compartment line, and ends before that one
pub record IsSection (text : List ℕ) (at end : ℕ) (section : Section) : Type 0 where
  pub heading : IsTrue (is_heading text at)
  pub name : name_at text at ≡ Some section.name
  pub start : section.start ≡ at
  pub line : section.line ≡ line_at text at
  pub bytes : section.bytes.now ≡ slice_range text at end
  pub within : (at < end) × (end ≤ length text)
  pub whole : NoHeading text (at + 1) end

-- the sections follow one another from this place to that one
pub data AreSections (text : List ℕ) : ℕ → ℕ → List Section → Type 0 where
  none : {at : ℕ} → AreSections text at at []
  section : {at next end : ℕ} {others : List Section} (first : Section) → IsSection text at next first →
      AreSections text next end others → AreSections text at end (first ∷ others)

-- the preamble ends where the first compartment line stands, and the sections go on to the end of the text
pub record IsSplit (text preamble : List ℕ) (sections : List Section) : Type 0 where
  pub prefix : preamble ≡ take (length preamble) text
  pub before : NoHeading text 0 (length preamble)
  pub following : AreSections text (length preamble) (length text) sections

-- a bad compartment line stands at this place
pub record IsBadHeading (text : List ℕ) (at : ℕ) : Type 0 where
  pub heading : IsTrue (is_heading text at)
  pub nameless : name_at text at ≡ None

-- the refusal of a text at its first bad compartment line
pub record RefusesHeading (text : List ℕ) (refusal : Refusal) : Type 0 where
  pub at : ℕ
  pub bad : IsBadHeading text at
  pub first : (before : ℕ) → before < at → IsBadHeading text before → ⊥
  pub phase : refusal.phase ≡ Lex
  pub line : refusal.line ≡ line_at text at
