-- The accounts of the program's own image.
use Rattle.sc_chain.proofs.Common.{Accepts, CompSet, ImageParts, IsAccountOf, IsChainWith, IsCompiled, IsExplained}
use Rattle.sc_chain.proofs.Common.{IsSource, Link, List, Ok, ProgramTree, SourceParts, [], ap, image_of, is_listed}
use Rattle.sc_chain.proofs.Common.{length, machine, meaning, recomposed, refl, subst, sym, true, ℕ, ◌∙◌, ◌∷◌, ◌≡◌}
use Rattle.std.specs.Prelude.{Bool, Result, false, ◌<◌, ◌≤◌, ◌==◌, ◌||◌}
use Rattle.std.proofs.Common.{arith, eq-eqb}
use Rattle.sc_chain.proofs.ChainTrace.{own_explained}
use Rattle.sc_chain.specs.Chain.{IsChain, IsImageExplained, MeansTrace}
use Rattle.sc_chain.specs.Laws.{OwnImagesAreExplained}
use Rattle.sc_chain.specs.Trapped.{IsTrappedOf, performing_comps}
use Rattle.sc_compile.specs.declared.fault.CompileFault.{CompileFault}
use Rattle.sc_core.specs.declared.explanation.Explanation.{Explanation}
use Rattle.sc_core_laws.proofs.Blames.{all_outside}
use Rattle.sc_core_laws.specs.Prelude.{count_outside}
use Rattle.sc_event.specs.declared.event.Event.{Event}
use Rattle.sc_image.specs.Prelude.{AreGiven, IsButFor, IsWellFormed}

-- where nobody is listed the list is empty
none_listed : (comps : List ℕ) → ((comp : ℕ) → is_listed comps comp ≡ true → false ≡ true) → comps ≡ []
none_listed [] none = refl
none_listed (comp ∷ comps) none =
    absurd (cc (none comp (ap (λ same. same || is_listed comps comp) (eq-eqb comp comp refl))))

own_but_for : (image : ImageParts) → IsWellFormed image → IsButFor (is_listed []) image image
own_but_for image formed = record {
  formed = formed;
  main = refl;
  entry = λ no. refl;
  seen = refl;
  kept = λ comp no. refl;
}

own_given : (image : ImageParts) → IsWellFormed image → AreGiven image image []
own_given image formed = record {
  but_for = own_but_for image formed;
  ordered = λ i j d later within. absurd (omega (arith, later, within));
  there = λ i d inside. absurd (omega (arith, inside));
  least = λ set but_for comp listed. absurd (cc listed);
}

-- the chain of the program is one in which nobody is given
chain_with_nobody : (source : SourceParts) (inputs : List ℕ) (steps : ℕ) (trace : List Event) →
    ((text : List ℕ) (program other : ProgramTree) → Accepts text program → Accepts text other → program ≡ other) →
    IsSource source → (links : List Link) → IsChain source inputs steps trace links →
    IsChainWith source inputs steps trace [] links
chain_with_nobody source inputs steps trace one_program is_source links is = record {
  chain = is.chain;
  few = subst (λ n. length links ≤ n) (sym (all_outside (length source.program.interfaces.comps))) is.few;
  none = (
    λ none. record {
      text = record {
        program = source.program;
        accepted = subst (λ text. Accepts text source.program) (sym is.own) is_source.accepted;
      };
      is_trace = is.none.0 none;
    },
    λ that. is.none.1 (subst (λ (p : ProgramTree). (meaning p inputs steps (length trace)).trace ≡ trace)
        (one_program source.bytes that.text.program source.program
        (subst (λ text. Accepts text that.text.program) is.own that.text.accepted) is_source.accepted)
        that.is_trace),
  );
  least = λ set known larger. is.least set known;
}

module _ (one_program : (text : List ℕ) (program other : ProgramTree) →
    Accepts text program → Accepts text other → program ≡ other) (source : SourceParts) (image : ImageParts)
    (inputs : List ℕ) (steps events : ℕ) (explanation : Explanation) (is_source : IsSource source)
    (own : image_of source.program ≡ Ok image) where
  same_image : (other : ImageParts) → image_of source.program ≡ Ok other → other ≡ image
  same_image other compiled =
      let both : ◌≡◌ {A = Result ImageParts CompileFault} (Ok other) (Ok image) = sym compiled ∙ own in
      cc both

  of_program : IsImageExplained source image inputs steps events explanation →
      IsExplained source inputs steps events explanation
  of_program is =
      let same = same_image is.own is.compiled in
      let right = subst (IsCompiled source.program) same is.right in
      let differ = subst (λ o. AreGiven o image explanation.given) same is.differ in
      let nobody : explanation.given ≡ [] =
      none_listed explanation.given (differ.least (is_listed []) (own_but_for image right.well_formed)) in
      own_explained source inputs steps events image is_source one_program own right explanation
      (subst (λ given. IsAccountOf source image given inputs steps events explanation) nobody is.account)

  of_image : IsExplained source inputs steps events explanation →
      IsImageExplained source image inputs steps events explanation
  of_image is =
      let same = same_image is.image is.compiled in
      let right = subst (IsCompiled source.program) same is.right in
      record {
        own = image;
        compiled = own;
        right = right;
        differ = subst (AreGiven image image) (sym is.nobody_given) (own_given image right.well_formed);
        account = subst (λ given. IsAccountOf source image given inputs steps events explanation) (sym is.nobody_given)
            (record {
              trace = subst (λ i. explanation.trace ≡ (machine i inputs steps events).state.trace) same is.trace;
              stop = subst (λ i. explanation.stop ≡ (machine i inputs steps events).stop) same is.stop;
              trapped = subst (λ i. IsTrappedOf source i inputs steps events (performing_comps [] explanation.links)
                  explanation.trapped) same is.trapped;
              given = is.nobody_given;
              chain = chain_with_nobody source inputs steps explanation.trace one_program is_source explanation.links
                  is.chain;
              short = is.short;
            });
      }

pub own_images_are_explained : ((text : List ℕ) (program other : ProgramTree) →
    Accepts text program → Accepts text other → program ≡ other) → OwnImagesAreExplained
own_images_are_explained one_program source image inputs steps events explanation is_source own = (
  of_program one_program source image inputs steps events explanation is_source own,
  of_image one_program source image inputs steps events explanation is_source own,
)
