-- A violation is committed in the chain: the meaning of the text after the links until then begins with it, and who
-- isn't compromised keeps the section.
use Rattle.sc_top.proofs.Common.{Accepts, All, AllByRecursion, Bool, Event, Explanation, Interfaces, IsChainFrom}
use Rattle.sc_top.proofs.Common.{IsAccountFor, IsCommitted, IsJudged, IsKnown, IsPolicyRead, IsSome, IsSource}
use Rattle.sc_top.proofs.Common.{IsWellTyped, JudgeOptions, Link, List, None, Option, Policy, PolicyRead}
use Rattle.sc_top.proofs.Common.{Some, SourceParts, [], and-true, ap, ap₂, arith, comp_at, comp_of, drop, false}
use Rattle.sc_top.proofs.Common.{false≢true, filter, if◌then◌else◌, is_listed, judge_text, leb-false, leb-true, legal}
use Rattle.sc_top.proofs.Common.{length, length-drop, map, meaning, nat_le, none-some, or-false, or_parts}
use Rattle.sc_top.proofs.Common.{performing_text, recomposed, recursion_from_All, refl, slice_get, slice_index_or}
use Rattle.sc_top.proofs.Common.{subst, suc, sym, take, true, word_of, zero, ℕ, ◌&&◌, ◌++◌, ◌<◌, ◌==◌, ◌||◌, ◌∙◌}
use Rattle.sc_top.proofs.Common.{◌∷◌, ◌≡◌, ◌≤◌}
use Rattle.sc_base.specs.Prelude.{IsPrefix}
use Rattle.sc_back.specs.Prelude.{new_text}
use Rattle.sc_chain.specs.Prelude.{HasProgram}
use Rattle.sc_event.specs.Prelude.{performer}
use Rattle.sc_event.specs.declared.event.Event.TheVariants.{Call, Ret, Out, In, End}
use Rattle.sc_monitor.specs.Prelude.{IsViolation, is_compromised, verdict}
use Rattle.sc_monitor.specs.declared.verdict.Verdict.{Verdict}
use Rattle.sc_monitor.specs.declared.verdict.Verdict.TheVariants.{Violated}
use Rattle.sc_top.specs.Prelude.{report_text}
use Rattle.sc_report.specs.Verdict.{verdict_text}
use Rattle.sc_top.proofs.ChainTexts.{reached, same_set}
use Rattle.sc_top.proofs.Chains.{chain_from_given}
use Rattle.std.proofs.lemmas.List.Folds.{list_any-append}
use Rattle.std.specs.List.{list_any}
use Rattle.sc_top.specs.declared.account.Account.{Account}
use Rattle.sc_top.proofs.Known.{legal_known}

-- PREFIXES

prefix_of_all : (n : ℕ) (xs : List Event) → IsPrefix (take n xs) xs
prefix_of_all zero xs = record { more = xs; is = refl }
prefix_of_all (suc n) [] = record { more = []; is = refl }
prefix_of_all (suc n) (x ∷ xs) =
    let later = prefix_of_all n xs in
    record { more = later.more; is = ap (λ ys. x ∷ ys) later.is }

prefix_of_take : (n m : ℕ) (xs : List Event) → n ≤ m → IsPrefix (take n xs) (take m xs)
prefix_of_take zero m xs less = record { more = take m xs; is = refl }
prefix_of_take (suc n) zero xs less = absurd (omega (arith, less))
prefix_of_take (suc n) (suc m) [] less = record { more = []; is = refl }
prefix_of_take (suc n) (suc m) (x ∷ xs) less =
    let later = prefix_of_take n m xs (omega (arith, less)) in
    record { more = later.more; is = ap (λ ys. x ∷ ys) later.is }

-- PLACES

found_within : {A : Type 0} (xs : List A) (n : ℕ) (x : A) → slice_get xs n ≡ Some x → n < length xs
found_within [] n x is = absurd (none-some x is)
found_within (x ∷ xs) zero y is = omega arith
found_within (x ∷ xs) (suc n) y is = let less = found_within xs n y is in omega (arith, less)

some_within : {A : Type 0} (xs : List A) (n : ℕ) → IsSome (slice_get xs n) → n < length xs
some_within {A = A} xs n some = by (slice_get xs n) refl some where
  by : (found : Option A) → slice_get xs n ≡ found → IsSome found → n < length xs
  by None is some = absurd (false≢true some)
  by (Some x) is some = found_within xs n x is

holds_at : {A : Type 0} (P : A → Type 0) (xs : List A) (n : ℕ) (x : A) → AllByRecursion P xs →
    slice_get xs n ≡ Some x → P x
holds_at P [] n x all is = absurd (none-some x is)
holds_at P (y ∷ xs) zero x all is =
    let found : Some y ≡ Some x = is in
    let same : y ≡ x = cc found in subst P same all.0
holds_at P (y ∷ xs) (suc n) x all is = holds_at P xs n x all.1 is

performer_known : (interfaces : Interfaces) (event : Event) → IsKnown interfaces event →
    IsSome (comp_at interfaces (performer event))
performer_known interfaces (Call from to index args) known = known.0
performer_known interfaces (Ret from to value) known = known.0
performer_known interfaces (Out comp value) known = known
performer_known interfaces (In comp value) known = known
performer_known interfaces (End comp value) known = known

-- ALONG THE CHAIN

-- the compartment was replaced after as many events or after fewer
abbrev is_replaced : List Link → (comp after : ℕ) → Bool
is_replaced links comp after = list_any (λ link. link.comp == comp && nat_le link.after after) links

module _ (source : SourceParts) (inputs : List ℕ) (steps : ℕ) (trace : List Event) (after : ℕ) where
  abbrev is_early : Link → Bool
  is_early link = nat_le link.after after

  -- the links until then
  abbrev early : List Link → List Link
  early links = take (length (filter is_early links)) links

  abbrev Chain : List ℕ → ℕ → List Link → Type 0
  Chain comps least links = IsChainFrom source inputs steps trace comps least links

  -- links rise
  none_early : (comps : List ℕ) (least : ℕ) (links : List Link) → Chain comps least links → after < least →
      length (filter is_early links) ≡ 0
  none_early comps least [] chain low = refl
  none_early comps least (link ∷ links) chain low =
      by (is_early link) refl (none_early (link.comp ∷ comps) (suc link.after) links chain.1) where
        by : (is : Bool) → is_early link ≡ is → (after < suc link.after → length (filter is_early links) ≡ 0) →
            length (if is then link ∷ filter is_early links else filter is_early links) ≡ 0
        by true is none =
            let early = leb-true link.after after is in
            let later = chain.0.later in
            absurd (omega (arith, early, later, low))
        by false is none = let later = chain.0.later in none (omega (arith, later, low))

  -- after a link that comes later there is none that comes earlier
  no_more : (comps : List ℕ) (least : ℕ) (link : Link) (links : List Link) → Chain comps least (link ∷ links) →
      is_early link ≡ false → length (filter is_early links) ≡ 0
  no_more comps least link links chain is =
      let late = leb-false link.after after is in
      none_early (link.comp ∷ comps) (suc link.after) links chain.1 (omega (arith, late))

  -- the text in which these compartments perform begins with the event
  record Begins (comps : List ℕ) : Type 0 where
    text : HasProgram source inputs steps trace (is_listed comps)
    begins : IsPrefix (take (suc after) trace) (meaning text.program inputs steps (length trace)).trace

  begins : (comps : List ℕ) (least : ℕ) (links : List Link) → Chain comps least links →
      Begins (reached comps (early links))
  begins comps least [] chain =
      record {
        text = chain.text;
        begins = subst (IsPrefix (take (suc after) trace)) (sym chain.is_trace) (prefix_of_all (suc after) trace);
      }
  begins comps least (link ∷ links) chain =
      by (is_early link) refl (begins (link.comp ∷ comps) (suc link.after) links chain.1) where
        here : is_early link ≡ false → Begins comps
        here is =
            let late = leb-false link.after after is in
            record {
              text = chain.0.text;
              begins = subst (IsPrefix (take (suc after) trace)) (sym chain.0.blamed.prefix)
                  (prefix_of_take (suc after) link.after trace (omega (arith, late)));
            }

        by : (is : Bool) → is_early link ≡ is → Begins (reached (link.comp ∷ comps) (early links)) →
            Begins (reached comps
            (take (length (if is then link ∷ filter is_early links else filter is_early links)) (link ∷ links)))
        by true is later = later
        by false is later =
            subst (λ n. Begins (reached comps (take n (link ∷ links)))) (sym (no_more comps least link links chain is))
            (here is)

  -- who isn't replaced by then doesn't perform there
  not_listed : (comps : List ℕ) (least : ℕ) (links : List Link) → Chain comps least links → (comp : ℕ) →
      is_replaced links comp after ≡ false → is_listed (map comp_of (early links)) comp ≡ false
  not_listed comps least [] chain comp clean = refl
  not_listed comps least (link ∷ links) chain comp clean =
      by (is_early link) refl (not_listed (link.comp ∷ comps) (suc link.after) links chain.1 comp parts.1) where
        parts : ((link.comp == comp && is_early link) ≡ false) × (is_replaced links comp after ≡ false)
        parts = or_parts (link.comp == comp && is_early link) (is_replaced links comp after) clean

        by : (is : Bool) → is_early link ≡ is → is_listed (map comp_of (early links)) comp ≡ false →
            is_listed (map comp_of (take (length
            (if is then link ∷ filter is_early links else filter is_early links)) (link ∷ links))) comp ≡ false
        by true is later =
            let other = sym (and-true (link.comp == comp)) ∙
            subst (λ b. (link.comp == comp && b) ≡ false) is parts.0 in
            ap₂ (λ one rest. one || rest) other later
        by false is later =
            subst (λ n. is_listed (map comp_of (take n (link ∷ links))) comp ≡ false)
            (sym (no_more comps least link links chain is)) refl

  -- who isn't compromised is neither given nor replaced by then
  not_performing : (given : List ℕ) (links : List Link) → Chain given 0 links → (comp : ℕ) →
      is_compromised given links comp after ≡ false → is_listed (given ++ map comp_of (early links)) comp ≡ false
  not_performing given links chain comp clean =
      let parts = or_parts (is_listed given comp) (is_replaced links comp after) clean in
      list_any-append (λ one. one == comp) given (map comp_of (early links)) ∙
      ap₂ (λ one rest. one || rest) parts.0 (not_listed given 0 links chain comp parts.1)

-- what isn't listed keeps its section
kept : (interfaces : Interfaces) (trace : List Event) (comp : ℕ) (old : List ℕ) (performs : Bool) →
    performs ≡ false → new_text (if performs then Some (performing_text interfaces trace comp) else None) old ≡ old
kept interfaces trace comp old performs is =
    ap (λ b. new_text (if b then Some (performing_text interfaces trace comp) else None) old) is

module _
    (violation : (policy : Policy) (interfaces : Interfaces) (explanation : Explanation) (after comp rule : ℕ)
    (compromised : Bool) → verdict policy interfaces explanation ≡ Violated after comp rule compromised
    → IsViolation policy.rules interfaces explanation.given explanation.links explanation.trace after comp rule)
    (replaced : (policy : Policy) (interfaces : Interfaces) (explanation : Explanation) (after comp rule : ℕ)
    (compromised : Bool) → verdict policy interfaces explanation ≡ Violated after comp rule compromised
    → compromised ≡ is_compromised explanation.given explanation.links comp after) where
  module _ (source : SourceParts) (parts : IsSource source) (inputs : List ℕ) (steps : ℕ)
      (explanation : Explanation)
      (chain : IsChainFrom source inputs steps explanation.trace explanation.given 0 explanation.links)
      (known : All (IsKnown source.program.interfaces) explanation.trace) where
    violator_within : (policy : Policy) (after comp rule : ℕ) →
        IsViolation policy.rules source.program.interfaces explanation.given explanation.links explanation.trace after
        comp rule → comp < length source.sections
    violator_within policy after comp rule found =
        let event = holds_at (IsKnown source.program.interfaces) explanation.trace after found.event
        (recursion_from_All _ _ known) found.at in
        let there = some_within source.program.interfaces.comps (performer found.event)
        (performer_known source.program.interfaces found.event event) in
        subst (λ n. n < length source.sections) found.by
        (subst (λ n. performer found.event < n) (sym parts.each) there)

    committed : (policy : Policy) (after comp rule : ℕ) (compromised : Bool) →
        verdict policy source.program.interfaces explanation ≡ Violated after comp rule compromised →
        IsCommitted source inputs steps explanation after comp compromised
    committed policy after comp rule compromised says =
        let found = violation policy source.program.interfaces explanation after comp rule compromised says in
        let same = replaced policy source.program.interfaces explanation after comp rule compromised says in
        let text = begins source inputs steps explanation.trace after explanation.given 0 explanation.links chain in
        record {
          there = found_within explanation.trace after found.event found.at;
          program = text.text.program;
          accepted = subst (λ set. Accepts (recomposed source explanation.trace set) text.text.program)
              (same_set explanation.given (early source inputs steps explanation.trace after explanation.links))
              text.text.accepted;
          begins = text.begins;
          own = violator_within policy after comp rule found;
          clean = λ clean. kept source.program.interfaces explanation.trace comp
              (slice_index_or source.sections comp [])
              _ (not_performing source inputs steps explanation.trace after explanation.given explanation.links chain
              comp (sym same ∙ clean));
        }

  -- what is written of a text that follows a policy
  pub judged_by : (options : JudgeOptions) (bytes text : List ℕ) (read : PolicyRead) (account : Account) →
      IsPolicyRead bytes read → IsAccountFor options.run options.image (drop read.rest bytes) account →
      IsWellTyped account.source.program →
      legal account.source.program.interfaces account.explanation.trace ≡ true →
      text ≡ judge_text read.policy options.trapped account.source account.explanation → IsJudged options bytes text
  judged_by options bytes text read account is made typed allowed written =
      let has = made.found.has in
      record {
        read = read;
        is = is;
        found = made.found;
        written = written ∙ ap₂ (judge_text read.policy options.trapped) (sym made.source) (sym made.explanation);
        committed = committed has.source has.parts (map word_of options.run.inputs) options.run.steps has.explanation
            (chain_from_given has.source options.run has.explanation made.found.image has.explained)
            (subst (λ (source : SourceParts). All (IsKnown source.program.interfaces) has.explanation.trace)
            (sym made.source)
            (subst (λ (explanation : Explanation). All (IsKnown account.source.program.interfaces) explanation.trace)
            (sym made.explanation) (legal_known account.source.program account.explanation.trace typed allowed)))
            read.policy;
      }

-- the report, and the verdict's line after it
pub with_verdict : (policy : Policy) (trapped : Bool) (source : SourceParts) (explanation : Explanation)
    (names : Interfaces) (says : Verdict) (report after : List ℕ) → names ≡ source.program.interfaces →
    says ≡ verdict policy names explanation → report ≡ report_text trapped source explanation →
    after ≡ report ++ verdict_text policy.states names says → after ≡ judge_text policy trapped source explanation
with_verdict policy trapped source explanation names says report after same is before added =
    added ∙ (λ i. before i ++ verdict_text policy.states (same i)
    ((is ∙ ap (λ (names : Interfaces). verdict policy names explanation) same) i))
