-- The texts of a chain, and what they say of an event of the trace.
use Rattle.sc_base.specs.Prelude.{IsPrefix}
use Rattle.sc_top.specs.Common.{Accepts, Link, ProgramTree, SourceParts, is_listed, performing, recomposed}
use Rattle.std.specs.Prelude.{◌≡◌, ◌<◌, ℕ, suc, Bool, false, nat_le, List, [], ◌++◌, filter, length, map, take}
use Rattle.std.specs.Prelude.{None, Some, slice_get, slice_index_or}
use Rattle.sc_chain.specs.Chain.{IsBlamedSo}
use Rattle.sc_back.specs.Prelude.{new_text}
use Rattle.sc_core.specs.Prelude.{meaning}
use Rattle.sc_core.specs.declared.explanation.Explanation.{Explanation}

abbrev pub comp_of : Link → ℕ
comp_of link = link.comp

-- the compartments that perform their parts of the trace in a text of the chain: the given ones, and those of the first
-- `links` links, or of all where there are fewer
abbrev pub performers : Explanation → (links : ℕ) → (comp : ℕ) → Bool
performers explanation links = is_listed (explanation.given ++ map comp_of (take links explanation.links))

-- the text of the chain after `links` links
abbrev pub text_after : SourceParts → Explanation → (links : ℕ) → List ℕ
text_after source explanation links = recomposed source explanation.trace (performers explanation links)

-- The text of the chain after `links` links is accepted. Its meaning is blamed as the next link says, or is the trace
-- where no link follows.
pub record IsChainText (source : SourceParts) (inputs : List ℕ) (steps : ℕ) (explanation : Explanation) (links : ℕ) :
    Type 0 where
  pub program : ProgramTree
  pub accepted : Accepts (text_after source explanation links) program
  pub blamed : (link : Link) → slice_get explanation.links links ≡ Some link →
      IsBlamedSo program inputs steps explanation.trace link
  pub means : slice_get explanation.links links ≡ None →
      (meaning program inputs steps (length explanation.trace)).trace ≡ explanation.trace

-- the section of a compartment as it was read
abbrev pub section_read : SourceParts → (comp : ℕ) → List ℕ
section_read source comp = slice_index_or source.sections comp []

-- what stands in its place in that text
abbrev pub section_after : SourceParts → Explanation → (links : ℕ) → (comp : ℕ) → List ℕ
section_after source explanation links comp =
    new_text (performing source.program.interfaces explanation.trace (performers explanation links) comp)
    (section_read source comp)

-- how many links come after as many events, or after fewer
abbrev pub links_until : Explanation → (after : ℕ) → ℕ
links_until explanation after = length (filter (λ link. nat_le link.after after) explanation.links)

-- The event that follows the first `after` ones is committed in the text after the links until then: what the text
-- means begins with the trace up to this event and with the event. Where the compartment that performs it isn't
-- compromised its section stands in that text as it was read, byte for byte.
pub record IsCommitted (source : SourceParts) (inputs : List ℕ) (steps : ℕ) (explanation : Explanation)
    (after comp : ℕ) (compromised : Bool) : Type 0 where
  pub there : after < length explanation.trace
  pub program : ProgramTree
  pub accepted : Accepts (text_after source explanation (links_until explanation after)) program
  pub begins : IsPrefix (take (suc after) explanation.trace)
      (meaning program inputs steps (length explanation.trace)).trace
  pub own : comp < length source.sections
  pub clean : compromised ≡ false →
      section_after source explanation (links_until explanation after) comp ≡ section_read source comp
