-- What a text is in which the compartments of a set perform their parts of a trace.
use Rattle.sc_base.specs.Prelude.{most_compiled, most_text}
use Rattle.sc_chain.specs.Common.{Accepts, Blamed, Cause, Event, ProgramTree, SourceParts, meaning, new_texts}
use Rattle.sc_chain.specs.Common.{scripted_meaning}
use Rattle.std.specs.Prelude.{◌≡◌, ◌≤◌, ℕ, Bool, false, List, length}
use Rattle.sc_chain.specs.Recompose.{performing, recomposed}

-- the text is accepted, as this program
pub record IsScripted (source : SourceParts) (trace : List Event) (set : ℕ → Bool) (program : ProgramTree) :
    Type 0 where
  pub accepted : Accepts (recomposed source trace set) program
  pub interfaces : program.interfaces ≡ source.program.interfaces
  -- the text means what its program means where the set performs, for all inputs, turns and events
  pub means : (inputs : List ℕ) (turns events : ℕ) →
      meaning program inputs turns events ≡ scripted_meaning source.program set trace inputs turns events
  -- and nobody of the set is blamed
  pub blames : (inputs : List ℕ) (turns events comp : ℕ) (cause : Cause) (line : ℕ) →
      (meaning program inputs turns events).end ≡ Blamed comp cause line → set comp ≡ false
  -- it isn't too long to be read, where the program's text isn't too long to be compiled
  pub short : length source.bytes ≤ most_compiled → length (recomposed source trace set) ≤ most_text

-- the text as it is read
pub record IsReplaced (source : SourceParts) (trace : List Event) (set : ℕ → Bool) (new : SourceParts) : Type 0 where
  -- the sections of the set are those that perform, and all else stands byte for byte
  pub bytes : new.bytes ≡ recomposed source trace set
  pub preamble : new.preamble ≡ source.preamble
  pub sections : new.sections ≡ new_texts (performing source.program.interfaces trace set) 0 source.sections
  pub scripted : IsScripted source trace set new.program
