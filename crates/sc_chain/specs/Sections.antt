-- Helping: sections and rows one by one.
use Rattle.sc_chain.specs.Common.{Event, Interfaces, Replacement, SourceParts, new_text}
use Rattle.std.specs.Prelude.{ℕ, List, [], Option, slice_index_or}
use Rattle.sc_chain.specs.Recompose.{performing_text}

-- what stands at the place of a compartment's section
abbrev pub section_at : SourceParts → (replace : ℕ → Option (List ℕ)) → (comp : ℕ) → List ℕ
section_at source replace comp = new_text (replace comp) (slice_index_or source.sections comp [])

-- the replacement by which a compartment performs its part of a trace
abbrev pub replacement_of : Interfaces → List Event → (comp : ℕ) → Replacement
replacement_of interfaces trace comp = record { comp = comp; text = performing_text interfaces trace comp }
