-- Texts that are programs, in their parts.
use Rattle.sc_types.specs.Common.{IsSplit, ProgramTree, Section}
use Rattle.std.specs.Prelude.{◌≡◌, ℕ, List, ◌++◌, length, map}
use Rattle.std.specs.List.{concat}
use Rattle.sc_types.specs.Acceptance.{Accepts}

pub record SourceParts : Type 0 where
  pub bytes : List ℕ
  -- the bytes before the first compartment line
  pub preamble : List ℕ
  -- the bytes of each section, its compartment line included
  pub sections : List (List ℕ)
  pub program : ProgramTree

-- the text is split into this preamble and the sections with these bytes
pub record IsSplitInto (text preamble : List ℕ) (sections : List (List ℕ)) : Type 0 where
  pub found : List Section
  pub split : IsSplit text preamble found
  pub bytes : sections ≡ map (λ section. section.bytes.now) found

-- The bytes are accepted as the program, and these are their parts: a section for each compartment.
pub record IsSource (source : SourceParts) : Type 0 where
  pub accepted : Accepts source.bytes source.program
  pub split : IsSplitInto source.bytes source.preamble source.sections
  pub joined : source.preamble ++ concat source.sections ≡ source.bytes
  pub each : length source.sections ≡ length source.program.interfaces.comps
