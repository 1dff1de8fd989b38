-- Robust safety: what all texts keep to in which the given compartments perform, the machine keeps to as well, whatever
-- code these compartments have (Abate et al., When Good Components Go Bad, 2018).
use Rattle.sc_base.specs.Prelude.{most_events}
use Rattle.sc_chain.specs.Chain.{IsImageExplained, IsNext}
use Rattle.sc_chain.specs.Common.{Accepts, Event, Link, ProgramTree, SourceParts, meaning}
use Rattle.sc_chain.specs.Recompose.{recomposed}
use Rattle.sc_emit_run_laws.specs.Prelude.{IsBlamed}
use Rattle.sc_core.specs.declared.explanation.Explanation.{Explanation}
use Rattle.sc_event.specs.Prelude.{is_listed, legal}
use Rattle.sc_image.specs.declared.parts.ImageParts.{ImageParts}
use Rattle.std.specs.Prelude.{◌≡◌, ◌≤◌, ◌⊎◌, ℕ, Bool, true, List, length, take}

-- In each text in which the given compartments perform some trace that the interfaces allow, the meaning keeps to a set of
-- traces, or is blamed, with any number of turns and events.
abbrev pub AllKeepTo : (keeps : List Event → Bool) → SourceParts → (given : List ℕ) → (inputs : List ℕ) → Type 0
AllKeepTo keeps source given inputs = (trace : List Event) (program : ProgramTree) (turns events : ℕ) →
    legal source.program.interfaces trace ≡ true → length trace ≤ most_events →
    Accepts (recomposed source trace (is_listed given)) program →
    (keeps (meaning program inputs turns events).trace ≡ true) ⊎ IsBlamed (meaning program inputs turns events).end

-- The machine's trace is in the set. Or the text in which the given compartments perform their parts of it is blamed on
-- another compartment after a proper prefix of the trace, and this prefix is in the set.
abbrev pub KeptUpToBlame : (keeps : List Event → Bool) → SourceParts → (inputs : List ℕ) → (steps : ℕ) →
    Explanation → Type 0
KeptUpToBlame keeps source inputs steps explanation =
    (keeps explanation.trace ≡ true) ⊎
    ((link : Link) × IsNext source inputs steps explanation.trace explanation.given 0 link ×
    (keeps (take link.after explanation.trace) ≡ true))

abbrev pub RobustSafety : Type 0
RobustSafety = (keeps : List Event → Bool) (source : SourceParts) (image : ImageParts) (inputs : List ℕ)
    (steps events : ℕ) (explanation : Explanation) → IsImageExplained source image inputs steps events explanation →
    legal source.program.interfaces explanation.trace ≡ true → length explanation.trace ≤ most_events →
    AllKeepTo keeps source explanation.given inputs → KeptUpToBlame keeps source inputs steps explanation
