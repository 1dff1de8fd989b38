-- Texts in which some sections are replaced, all else byte for byte.
use Rattle.sc_chain.specs.Common.{Event, Interfaces, Replacement, SourceParts, back_text, new_texts}
use Rattle.sc_event.specs.Prelude.{part}
use Rattle.std.specs.Prelude.{ℕ, ◌==◌, Bool, if◌then◌else◌, List, [], ◌∷◌, ◌++◌, Option, None, Some}
use Rattle.std.specs.List.{concat}

-- the text of the first replacement of a compartment, if there is one
abbrev pub text_for : List Replacement → (comp : ℕ) → Option (List ℕ)
text_for [] comp = None
text_for (replacement ∷ replacements) comp =
    if replacement.comp == comp then Some replacement.text else text_for replacements comp

-- the preamble and the sections, where those of some compartments are replaced by these texts
abbrev pub joined_text : SourceParts → (replace : ℕ → Option (List ℕ)) → List ℕ
joined_text source replace = source.preamble ++ concat (new_texts replace 0 source.sections)

-- the text by which a compartment performs its part of a trace
abbrev pub performing_text : Interfaces → List Event → (comp : ℕ) → List ℕ
performing_text interfaces trace comp = back_text interfaces comp (part interfaces.main comp trace)

-- those of a set are replaced by it
abbrev pub performing : Interfaces → List Event → (set : ℕ → Bool) → (comp : ℕ) → Option (List ℕ)
performing interfaces trace set comp = if set comp then Some (performing_text interfaces trace comp) else None

-- the text in which the compartments of a set perform their parts of a trace, and the others keep their sections
abbrev pub recomposed : SourceParts → List Event → (set : ℕ → Bool) → List ℕ
recomposed source trace set = joined_text source (performing source.program.interfaces trace set)
