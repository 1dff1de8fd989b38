-- The account of a run of the machine: a chain of texts. In the first one the given compartments of the image perform
-- their parts of the trace, and it is the program's own where nobody is given. Each later text has one section more that
-- performs its part, that of the compartment which the meaning of the text before it blames after a proper, ever longer
-- prefix of the trace. The meaning of the last text is the trace.
use Rattle.sc_base.specs.Prelude.{most_compiled, most_text}
use Rattle.sc_chain.specs.Common.{Accepts, Blamed, Event, Link, ProgramTree, SourceParts, image_of, meaning}
use Rattle.sc_compile.specs.Prelude.{IsCompiled}
use Rattle.sc_core_laws.specs.Prelude.{IsSubset, count_outside}
use Rattle.sc_event.specs.Prelude.{is_listed}
use Rattle.sc_image.specs.Prelude.{AreGiven, machine}
use Rattle.std.specs.Prelude.{◌≡◌, ◌↔◌, ℕ, suc, ◌<◌, ◌≤◌, Bool, true, false, List, [], ◌∷◌, length, take, Ok}
use Rattle.sc_image.specs.declared.parts.ImageParts.{ImageParts}
use Rattle.sc_chain.specs.Recompose.{performing_text, recomposed}
use Rattle.sc_chain.specs.Trapped.{IsTrappedOf, performing_comps}
use Rattle.sc_core.specs.declared.explanation.Explanation.{Explanation}

-- The meaning of a program, with as many turns as the machine had steps and as many events as it emitted, is blamed so,
-- after a proper prefix of the trace.
pub record IsBlamedSo (program : ProgramTree) (inputs : List ℕ) (steps : ℕ) (trace : List Event) (link : Link) :
    Type 0 where
  pub end : (meaning program inputs steps (length trace)).end ≡ Blamed link.comp link.cause link.line
  pub prefix : (meaning program inputs steps (length trace)).trace ≡ take link.after trace
  pub proper : link.after < length trace

module _ (source : SourceParts) (inputs : List ℕ) (steps : ℕ) (trace : List Event) where
  -- the text in which the compartments of a set perform their parts of the trace is accepted, as this program
  pub record HasProgram (set : ℕ → Bool) : Type 0 where
    pub program : ProgramTree
    pub accepted : Accepts (recomposed source trace set) program

  -- the meaning of the text in which a set performs is the trace
  pub record MeansTrace (set : ℕ → Bool) : Type 0 where
    pub text : HasProgram set
    pub is_trace : (meaning text.program inputs steps (length trace)).trace ≡ trace

  -- the text in which these compartments perform is blamed by the link's account, on none of them, after at least
  -- `least` events; and the link's text is that of the blamed compartment's section
  pub record IsNext (comps : List ℕ) (least : ℕ) (link : Link) : Type 0 where
    pub text : HasProgram (is_listed comps)
    pub blamed : IsBlamedSo text.program inputs steps trace link
    pub later : least ≤ link.after
    pub outside : is_listed comps link.comp ≡ false
    pub there : link.comp < length source.program.interfaces.comps
    pub performs : link.text ≡ performing_text source.program.interfaces trace link.comp

  -- from the text in which these compartments perform on
  abbrev pub IsChainFrom : (comps : List ℕ) → (least : ℕ) → List Link → Type 0
  IsChainFrom comps least [] = MeansTrace (is_listed comps)
  IsChainFrom comps least (link ∷ links) =
      IsNext comps least link × IsChainFrom (link.comp ∷ comps) (suc link.after) links

  -- all compartments of the links are in the set
  abbrev pub Includes : (set : ℕ → Bool) → List Link → Type 0
  Includes set [] = Unit {0}
  Includes set (link ∷ links) = (set link.comp ≡ true) × Includes set links

  -- the links lead on from the text in which the given compartments perform
  pub record IsChainWith (given : List ℕ) (links : List Link) : Type 0 where
    pub chain : IsChainFrom given 0 links
    -- there are no more links than compartments that aren't given
    pub few : length links ≤ count_outside (is_listed given) (length source.program.interfaces.comps)
    -- nothing more is replaced exactly where the text in which the given compartments perform means the trace
    pub none : (links ≡ []) ↔ MeansTrace (is_listed given)
    -- of all sets that include the given compartments exactly those give the trace that have every compartment of the
    -- chain
    pub least : (set : ℕ → Bool) →
        ((comp : ℕ) → set comp ≡ true → comp < length source.program.interfaces.comps) →
        IsSubset (is_listed given) set → MeansTrace set ↔ Includes set links

  -- the chain of the program's own image
  pub record IsChain (links : List Link) : Type 0 where
    -- the first text is the source's own
    pub own : recomposed source trace (is_listed []) ≡ source.bytes
    pub chain : IsChainFrom [] 0 links
    pub few : length links ≤ length source.program.interfaces.comps
    -- nothing is replaced exactly where the program's own meaning is the trace
    pub none : (links ≡ []) ↔ ((meaning source.program inputs steps (length trace)).trace ≡ trace)
    -- of all sets of compartments exactly those give the trace that have every compartment of the chain
    pub least : (set : ℕ → Bool) →
        ((comp : ℕ) → set comp ≡ true → comp < length source.program.interfaces.comps) →
        MeansTrace set ↔ Includes set links

-- The account of a run of an image of which these compartments are given: the trace and the stop are the machine's, and
-- the links are a chain for them. Where the stop is a trap, it names who stands there and why, by the chain's last text.
pub record IsAccountOf (source : SourceParts) (image : ImageParts) (comps : List ℕ) (inputs : List ℕ)
    (steps events : ℕ) (explanation : Explanation) : Type 0 where
  pub trace : explanation.trace ≡ (machine image inputs steps events).state.trace
  pub stop : explanation.stop ≡ (machine image inputs steps events).stop
  pub given : explanation.given ≡ comps
  pub trapped : IsTrappedOf source image inputs steps events (performing_comps comps explanation.links)
      explanation.trapped
  pub chain : IsChainWith source inputs steps explanation.trace comps explanation.links
  -- where the program's text isn't too long to be compiled, no text in which compartments perform is too long to be
  -- read
  pub short : length source.bytes ≤ most_compiled → (set : ℕ → Bool) →
      length (recomposed source explanation.trace set) ≤ most_text

-- The account of a run of any image that is the program's own but for given compartments: it lists the fewest, in order.
pub record IsImageExplained (source : SourceParts) (image : ImageParts) (inputs : List ℕ) (steps events : ℕ)
    (explanation : Explanation) : Type 0 where
  pub own : ImageParts
  pub compiled : image_of source.program ≡ Ok own
  pub right : IsCompiled source.program own
  pub differ : AreGiven own image explanation.given
  pub account : IsAccountOf source image explanation.given inputs steps events explanation

-- the trace and the stop are those of the machine on the program's image, which does what the program means, the links
-- are a chain for them, and a trap has its reason
pub record IsExplained (source : SourceParts) (inputs : List ℕ) (steps events : ℕ) (explanation : Explanation) :
    Type 0 where
  pub image : ImageParts
  pub compiled : image_of source.program ≡ Ok image
  pub right : IsCompiled source.program image
  pub trace : explanation.trace ≡ (machine image inputs steps events).state.trace
  pub stop : explanation.stop ≡ (machine image inputs steps events).stop
  pub nobody_given : explanation.given ≡ []
  pub trapped : IsTrappedOf source image inputs steps events (performing_comps [] explanation.links) explanation.trapped
  pub chain : IsChain source inputs steps explanation.trace explanation.links
  -- where the program's text isn't too long to be compiled, no text in which compartments perform is too long to be
  -- read
  pub short : length source.bytes ≤ most_compiled → (set : ℕ → Bool) →
      length (recomposed source explanation.trace set) ≤ most_text
