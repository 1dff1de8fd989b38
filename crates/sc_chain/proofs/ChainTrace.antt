-- The machine's trace on the image of a program, as the chain of texts needs it.
use Rattle.sc_chain.proofs.Common.{Accepts, All, All-map, CompSet, EmitsOrIsBlamed, Event, ImageParts, IsAccountOf}
use Rattle.sc_chain.proofs.Common.{IsChainWith, IsCompiled, IsExplained, IsRobust, IsSource, IsWord, Link, List}
use Rattle.sc_chain.proofs.Common.{MachineRun, Ok, Option, Stop, recomposed}
use Rattle.sc_chain.proofs.Common.{ProgramTree, SourceParts, [], ap, get_or, image_of, is_listed, legal, length}
use Rattle.sc_chain.proofs.Common.{machine, map, refl, scripted_meaning, subst, suc, sym, true, word_of, ℕ, ℤ, ◌<◌}
use Rattle.sc_chain.proofs.Common.{◌∷◌, ◌≡◌, ◌≤◌}
use Rattle.std.specs.List.{AllZip}
use Rattle.sc_chain.specs.Prelude.{IsTrappedOf, performing_comps}
use Rattle.sc_core.specs.declared.explanation.Explanation.{Explanation}
use Rattle.sc_core.specs.declared.explanation.Trapped.{Trapped}
use Rattle.sc_core_laws.specs.Prelude.{IsSubset}
use Rattle.sc_image.specs.Prelude.{AreGiven}
use Rattle.sc_linker.specs.Prelude.{HasInterface}
use Rattle.sc_word.proofs.Words.{word_of-lt}
use Rattle.sc_chain.proofs.ChainTexts.{is_own_chain}

-- words of inputs are words
pub inputs_are_words : (inputs : List ℤ) → All IsWord (map word_of inputs)
inputs_are_words inputs = All-map IsWord word_of inputs (λ i d inside. word_of-lt (get_or inputs i d))

-- an image that does what its program means does so, too, as an image of which nobody is given
pub own_robust : (program : ProgramTree) (image : ImageParts) → IsCompiled program image →
    IsRobust program (is_listed []) image
own_robust program image right = record {
  interfaces = right.interfaces;
  scripted = λ inputs steps events set larger are. right.scripted inputs steps events set are;
  allowed = right.allowed;
  trapped_outside = right.trapped_outside;
}

module _ (source : SourceParts) (inputs : List ℤ) (steps events : ℕ) (image : ImageParts) (given : List ℕ)
    (robust : IsRobust source.program (is_listed given) image) where
  abbrev run : MachineRun
  run = machine image (map word_of inputs) steps events

  module _ (trace : List Event) (emits : trace ≡ run.state.trace) where
    pub emitted_allowed : legal source.program.interfaces trace ≡ true
    emitted_allowed =
        subst (λ t. legal source.program.interfaces t ≡ true) (sym emits)
        (robust.allowed (map word_of inputs) steps events (inputs_are_words inputs))

    pub emitted_scripted : (set : CompSet) → IsSubset (is_listed given) set →
        EmitsOrIsBlamed (length source.program.sections) set trace
        (scripted_meaning source.program set trace (map word_of inputs) steps (length trace))
    emitted_scripted set larger =
        subst (λ t. EmitsOrIsBlamed (length source.program.sections) set t
        (scripted_meaning source.program set t (map word_of inputs) steps (length t))) (sym emits)
        (robust.scripted (map word_of inputs) steps events set larger (inputs_are_words inputs))

  pub accounted : (observed trace : List Event) → trace ≡ observed → observed ≡ run.state.trace → (stop : Stop) →
      stop ≡ run.stop → (comps : List ℕ) → comps ≡ given → (links : List Link) →
      IsChainWith source (map word_of inputs) steps trace comps links →
      (trapped : Option Trapped) →
      IsTrappedOf source image (map word_of inputs) steps events (performing_comps given links) trapped →
      (length source.bytes ≤ 1048576 → (set : CompSet) → length (recomposed source observed set) ≤ 8388608) →
      IsAccountOf source image given (map word_of inputs) steps events
      (record { trace = observed; stop = stop; trapped = trapped; given = given; links = links })
  accounted observed trace same_trace emits stop stops comps same_comps links chain trapped traps short = record {
    trace = emits;
    stop = stops;
    trapped = traps;
    given = refl;
    chain = subst (λ t. IsChainWith source (map word_of inputs) steps t given links) same_trace
        (subst (λ cs. IsChainWith source (map word_of inputs) steps trace cs links) same_comps chain);
    short = short;
  }

-- the account of a run of the program's own image
pub own_explained : (source : SourceParts) (inputs : List ℕ) (steps events : ℕ) (image : ImageParts) → IsSource source →
    ((text : List ℕ) (program other : ProgramTree) → Accepts text program → Accepts text other → program ≡ other) →
    image_of source.program ≡ Ok image → IsCompiled source.program image → (explanation : Explanation) →
    IsAccountOf source image [] inputs steps events explanation →
    IsExplained source inputs steps events explanation
own_explained source inputs steps events image is_source one_program has_image right explanation account = record {
  image = image;
  compiled = has_image;
  right = right;
  trace = account.trace;
  stop = account.stop;
  nobody_given = account.given;
  trapped = account.trapped;
  chain = is_own_chain source inputs steps explanation.trace is_source one_program explanation.links account.chain;
  short = account.short;
}

-- compartments of the image are compartments of the program
listed_known : {A B : Type 0} (P : A → B → Type 0) (xs : List A) (ys : List B) → AllZip P xs ys →
    length xs ≡ length ys
listed_known P [] [] all = refl
listed_known P [] (y ∷ ys) all = absurd all
listed_known P (x ∷ xs) [] all = absurd all
listed_known P (x ∷ xs) (y ∷ ys) all = ap suc (listed_known P xs ys all.1)

pub given_known : (program : ProgramTree) (own image : ImageParts) (given : List ℕ) → IsCompiled program own →
    AreGiven own image given → All (λ comp. comp < length program.interfaces.comps) given
given_known program own image given right are =
    subst (λ n. All (λ comp. comp < n) given)
    (sym (listed_known HasInterface program.interfaces.comps own.comps right.interfaces.comps)) are.there
