-- Chains of texts: what stands in their texts, and that a run has one account.
use Rattle.sc_top.proofs.Common.{Accepts, AreImageAndText, BeginWithImage, Bool, CompileFault, Event, ExplainOptions}
use Rattle.sc_top.proofs.Common.{Explanation, HasAccount, HasAccountIn, ImageParts, IsAccounted, IsAccountFor}
use Rattle.sc_top.proofs.Common.{IsChainFrom, IsExplained, IsExplainedOn, IsImageExplained, IsJudged, IsNext}
use Rattle.sc_top.proofs.Common.{IsPolicyRead, IsSource, IsSplitInto, IsSummary, JudgeOptions, Link, List, MakeOptions}
use Rattle.sc_top.proofs.Common.{MeansTrace, None, Ok, Option, PolicyRead, ProgramTree, Result, RunOptions, Some}
use Rattle.sc_top.proofs.Common.{SourceParts, [], account, ap, ap₂, arith, drop, false, is_listed, judge_text, length}
use Rattle.sc_top.proofs.Common.{machine, map, meaning, performers, performing_text, recomposed, refl, subst, suc}
use Rattle.sc_top.proofs.Common.{summary_text, sym, take, true, word_of, zero, ℕ, ◌∙◌, ◌∷◌, ◌≡◌, ◌≤◌}
use Rattle.sc_core.specs.declared.run.RunEnd.{RunEnd}
use Rattle.sc_core.specs.declared.run.RunEnd.TheVariants.{Blamed}
use Rattle.sc_image.specs.Prelude.{AreGiven}
use Rattle.sc_lex.specs.declared.section.Section.{Section}
use Rattle.sc_parse_read.specs.Reading.{part_of}
use Rattle.sc_parse_read.proofs.Splits.{same_parts, same_preamble}
use Rattle.sc_top.specs.declared.account.Account.{Account}
use Rattle.sc_top.proofs.Parts.{one_front, one_rest}
use Rattle.sc_top.proofs.Rising.{one_rising}
use Rattle.sc_top.proofs.ChainTexts.{chain_text}
use Rattle.sc_chain.proofs.Trapped.{one_trapped}
use Rattle.sc_chain.specs.Prelude.{IsTrappedOf, performing_comps}

-- THE TEXTS

module _ (source : SourceParts) (options : RunOptions) (explanation : Explanation) where
  -- where the text isn't too long to be compiled, no text of the chain is too long to be read
  pub shorts : (image : Option ImageParts) → IsExplainedOn image source options explanation →
      length source.bytes ≤ 1048576 → (set : ℕ → Bool) →
      length (recomposed source explanation.trace set) ≤ 8388608
  shorts None is = is.short
  shorts (Some image) is = is.account.short

  -- the links lead on from the text in which the given compartments perform
  pub chain_from_given : (image : Option ImageParts) → IsExplainedOn image source options explanation →
      IsChainFrom source (map word_of options.inputs) options.steps explanation.trace explanation.given 0
      explanation.links
  chain_from_given None is =
      subst (λ given. IsChainFrom source (map word_of options.inputs) options.steps explanation.trace given 0
      explanation.links) (sym is.nobody_given) is.chain.chain
  chain_from_given (Some image) is = is.account.chain.chain

-- a text that was read, with an account
abbrev pub has_account : (options : RunOptions) (image : Option ImageParts) (bytes : List ℕ) (source : SourceParts)
    (explanation : Explanation) → IsSource source → source.bytes ≡ bytes →
    IsExplainedOn image source options explanation → length bytes ≤ 1048576 → HasAccount options image bytes
has_account options image bytes source explanation parts whole explained short = record {
  source = source;
  parts = parts;
  whole = whole;
  explanation = explanation;
  explained = explained;
  texts = chain_text source (map word_of options.inputs) options.steps explanation
      (chain_from_given source options explanation image explained);
  short = λ links. shorts source options explanation image explained
      (subst (λ (text : List ℕ). length text ≤ 1048576) (sym whole) short) (performers explanation links);
}

-- the account of a text that is all the bytes
pub account_of_text : (options : RunOptions) (bytes : List ℕ) (account : Account) → IsSource account.source →
    account.source.bytes ≡ bytes →
    IsExplained account.source (map word_of options.inputs) options.steps options.events account.explanation →
    length bytes ≤ 1048576 → IsAccountFor options false bytes account
account_of_text options bytes account parts whole explained short = record {
  found = record {
    image = None;
    text = bytes;
    are = (refl, refl);
    has = has_account options None bytes account.source account.explanation parts whole explained short;
  };
  source = refl;
  explanation = refl;
}

-- the account of a text that follows an image
pub account_of_image : (options : RunOptions) (bytes : List ℕ) (front : BeginWithImage bytes) (account : Account) →
    IsSource account.source → account.source.bytes ≡ drop front.place bytes →
    IsImageExplained account.source front.image (map word_of options.inputs) options.steps options.events
    account.explanation → length (drop front.place bytes) ≤ 1048576 → IsAccountFor options true bytes account
account_of_image options bytes front account parts whole explained short = record {
  found = record {
    image = Some front.image;
    text = drop front.place bytes;
    are = record { front = front; is = refl; rest = refl; short = short };
    has = has_account options (Some front.image) (drop front.place bytes) account.source account.explanation parts whole
        explained short;
  };
  source = refl;
  explanation = refl;
}

-- ONE ACCOUNT

module _
    (one_program : (text : List ℕ) (program other : ProgramTree) →
    Accepts text program → Accepts text other → program ≡ other) where
  -- a text has one preamble, sections and program

  bytes_of_parts : (found : List Section) →
      map (λ section. section.bytes.now) found ≡ map (λ part. part.bytes) (map part_of found)
  bytes_of_parts [] = refl
  bytes_of_parts (section ∷ found) = ap (λ texts. section.bytes.now ∷ texts) (bytes_of_parts found)

  one_source : (source other : SourceParts) → IsSource source → IsSource other → source.bytes ≡ other.bytes →
      source ≡ other
  one_source source other is known same = λ i. record {
    bytes = same i;
    preamble = preamble i;
    sections = sections i;
    program = program i;
  }
    where
      split : IsSplitInto source.bytes other.preamble other.sections
      split = subst (λ bytes. IsSplitInto bytes other.preamble other.sections) (sym same) known.split

      preamble : source.preamble ≡ other.preamble
      preamble = same_preamble is.split.split split.split

      sections : source.sections ≡ other.sections
      sections =
          is.split.bytes ∙ bytes_of_parts is.split.found ∙
          ap (map (λ part. part.bytes)) (same_parts is.split.split split.split) ∙
          sym (bytes_of_parts split.found) ∙ sym split.bytes

      program : source.program ≡ other.program
      program = one_program source.bytes source.program other.program is.accepted
          (subst (λ bytes. Accepts bytes other.program) (sym same) known.accepted)

  module _ (source : SourceParts) (inputs : List ℕ) (steps : ℕ) (trace : List Event) where
    same_program : (comps : List ℕ) (least : ℕ) (link : Link)
        (next : IsNext source inputs steps trace comps least link) (other : ProgramTree) →
        Accepts (recomposed source trace (is_listed comps)) other → next.text.program ≡ other
    same_program comps least link next other accepted =
        one_program (recomposed source trace _) _ other next.text.accepted accepted

    -- a prefix with fewer events is not the trace
    long_take : (n : ℕ) (xs : List Event) → length (take n xs) ≤ n
    long_take zero xs = omega arith
    long_take (suc n) [] = omega arith
    long_take (suc n) (x ∷ xs) = let less = long_take n xs in omega (arith, less)

    exact_take : (n : ℕ) (xs : List Event) → n ≤ length xs → length (take n xs) ≡ n
    exact_take zero xs less = refl
    exact_take (suc n) [] less = absurd (omega (arith, less))
    exact_take (suc n) (x ∷ xs) less = ap suc (exact_take n xs (omega (arith, less)))

    not_both : (comps : List ℕ) (least : ℕ) (link : Link) → MeansTrace source inputs steps trace (is_listed comps) →
        IsNext source inputs steps trace comps least link → ⊥
    not_both comps least link printed next =
        let same = same_program comps least link next printed.text.program printed.text.accepted in
        let prefix =
        sym printed.is_trace ∙ ap (λ program. (meaning program inputs steps _).trace) (sym same) ∙ next.blamed.prefix in
        let proper = next.blamed.proper in
        let long =
        subst (λ xs. length xs ≤ link.after) (sym prefix) (long_take _ trace) in
        absurd (omega (arith, proper, long))

    one_link : (comps : List ℕ) (least : ℕ) (link other : Link) →
        IsNext source inputs steps trace comps least link → IsNext source inputs steps trace comps least other →
        link ≡ other
    one_link comps least link other next known = λ i. record {
      comp = comp i;
      after = after i;
      cause = cause i;
      line = line i;
      text = text i;
    }
      where
        same : next.text.program ≡ known.text.program
        same = same_program comps least link next _ known.text.accepted

        end : ◌≡◌ {A = RunEnd} (Blamed link.comp link.cause link.line) (Blamed other.comp other.cause other.line)
        end = sym next.blamed.end ∙ ap (λ program. (meaning program inputs steps _).end) same ∙ known.blamed.end

        comp : link.comp ≡ other.comp
        comp = cc end

        cause : link.cause ≡ other.cause
        cause = cc end

        line : link.line ≡ other.line
        line = cc end

        prefix : take link.after trace ≡ take other.after trace
        prefix = sym next.blamed.prefix ∙
            ap (λ program. (meaning program inputs steps _).trace) same ∙ known.blamed.prefix

        after : link.after ≡ other.after
        after =
            let here = next.blamed.proper in
            let there = known.blamed.proper in
            sym (exact_take _ trace (omega (arith, here))) ∙ ap length prefix ∙
            exact_take _ trace (omega (arith, there))

        text : link.text ≡ other.text
        text = next.performs ∙ ap (performing_text _ trace) comp ∙ sym known.performs

    one_chain : (comps : List ℕ) (least : ℕ) (links others : List Link) →
        IsChainFrom source inputs steps trace comps least links →
        IsChainFrom source inputs steps trace comps least others → links ≡ others
    one_chain comps least [] [] printed known = refl
    one_chain comps least [] (other ∷ others) printed known = absurd (not_both comps least other printed known.0)
    one_chain comps least (link ∷ links) [] printed known = absurd (not_both comps least link known printed.0)
    one_chain comps least (link ∷ links) (other ∷ others) printed known =
        let same = one_link comps least link other printed.0 known.0 in
        ap₂ (λ x xs. x ∷ xs) same (one_chain _ _ links others printed.1
        (subst (λ l. IsChainFrom source inputs steps trace (l.comp ∷ comps) (suc l.after) others) (sym same) known.1))

  one_explained : (source : SourceParts) (inputs : List ℕ) (steps events : ℕ) (explanation other : Explanation) →
      IsExplained source inputs steps events explanation → IsExplained source inputs steps events other →
      explanation ≡ other
  one_explained source inputs steps events explanation other is known = λ i. record {
    trace = trace i;
    stop = stop i;
    trapped = trapped i;
    given = given i;
    links = links i;
  }
    where
      images : ◌≡◌ {A = Result ImageParts CompileFault} (Ok is.image) (Ok known.image)
      images = sym is.compiled ∙ known.compiled

      image : is.image ≡ known.image
      image = cc images

      trace : explanation.trace ≡ other.trace
      trace = is.trace ∙ ap (λ image. (machine image inputs steps events).state.trace) image ∙ sym known.trace

      stop : explanation.stop ≡ other.stop
      stop = is.stop ∙ ap (λ image. (machine image inputs steps events).stop) image ∙ sym known.stop

      given : explanation.given ≡ other.given
      given = is.nobody_given ∙ sym known.nobody_given

      links : explanation.links ≡ other.links
      links =
          one_chain source inputs steps explanation.trace [] 0 explanation.links other.links is.chain.chain
          (subst (λ (t : List Event). IsChainFrom source inputs steps t [] 0 other.links) (sym trace)
          known.chain.chain)

      trapped : explanation.trapped ≡ other.trapped
      trapped =
          one_trapped source known.image inputs steps events (performing_comps [] other.links) explanation.trapped
          other.trapped
          (subst (λ (ls : List Link). IsTrappedOf source known.image inputs steps events (performing_comps [] ls)
          explanation.trapped) links
          (subst (λ (i : ImageParts). IsTrappedOf source i inputs steps events (performing_comps [] explanation.links)
          explanation.trapped) image is.trapped)) known.trapped

  one_image_explained : (source : SourceParts) (image : ImageParts) (inputs : List ℕ) (steps events : ℕ)
      (explanation other : Explanation) → IsImageExplained source image inputs steps events explanation →
      IsImageExplained source image inputs steps events other → explanation ≡ other
  one_image_explained source image inputs steps events explanation other is known = λ i. record {
    trace = trace i;
    stop = stop i;
    trapped = trapped i;
    given = given i;
    links = links i;
  }
    where
      owns : ◌≡◌ {A = Result ImageParts CompileFault} (Ok is.own) (Ok known.own)
      owns = sym is.compiled ∙ known.compiled

      own : is.own ≡ known.own
      own = cc owns

      trace : explanation.trace ≡ other.trace
      trace = is.account.trace ∙ sym known.account.trace

      stop : explanation.stop ≡ other.stop
      stop = is.account.stop ∙ sym known.account.stop

      differ : AreGiven known.own image explanation.given
      differ = subst (λ (o : ImageParts). AreGiven o image explanation.given) own is.differ

      given : explanation.given ≡ other.given
      given = one_rising explanation.given other.given differ.ordered known.differ.ordered
          (differ.least (is_listed other.given) known.differ.but_for)
          (known.differ.least (is_listed explanation.given) differ.but_for)

      links : explanation.links ≡ other.links
      links =
          one_chain source inputs steps explanation.trace explanation.given 0 explanation.links other.links
          is.account.chain.chain
          (subst (λ (g : List ℕ). IsChainFrom source inputs steps explanation.trace g 0 other.links) (sym given)
          (subst (λ (t : List Event). IsChainFrom source inputs steps t other.given 0 other.links) (sym trace)
          known.account.chain.chain))

      trapped : explanation.trapped ≡ other.trapped
      trapped =
          one_trapped source image inputs steps events (performing_comps other.given other.links) explanation.trapped
          other.trapped
          (subst (λ (ls : List Link). IsTrappedOf source image inputs steps events (performing_comps other.given ls)
          explanation.trapped) links
          (subst (λ (g : List ℕ). IsTrappedOf source image inputs steps events
          (performing_comps g explanation.links) explanation.trapped) given is.account.trapped)) known.account.trapped

  one_explanation : (image : Option ImageParts) (source : SourceParts) (options : RunOptions)
      (explanation other : Explanation) → IsExplainedOn image source options explanation →
      IsExplainedOn image source options other → explanation ≡ other
  one_explanation None source options explanation other is known =
      one_explained source (map word_of options.inputs) options.steps options.events explanation other is known
  one_explanation (Some image) source options explanation other is known =
      one_image_explained source image (map word_of options.inputs) options.steps options.events explanation other is
      known

  -- bytes are one image and text at most
  one_input : (with_image : Bool) (bytes : List ℕ) (image other : Option ImageParts) (text rest : List ℕ) →
      AreImageAndText with_image bytes image text → AreImageAndText with_image bytes other rest →
      (image ≡ other) × (text ≡ rest)
  one_input true bytes image other text rest is known = (
    is.is ∙ (ap Some (one_front bytes is.front known.front).0 ∙ sym known.is),
    is.rest ∙ (one_rest bytes is.front known.front ∙ sym known.rest),
  )
  one_input false bytes image other text rest is known = (is.0 ∙ sym known.0, is.1 ∙ sym known.1)

  -- bytes have one source and one explanation
  module _ (with_image : Bool) (options : RunOptions) (bytes others : List ℕ) (same : bytes ≡ others)
      (is : HasAccountIn with_image options bytes) (known : HasAccountIn with_image options others) where
    input : (is.image ≡ known.image) × (is.text ≡ known.text)
    input = one_input with_image others is.image known.image is.text known.text
        (subst (λ (b : List ℕ). AreImageAndText with_image b is.image is.text) same is.are) known.are

    found_source : is.has.source ≡ known.has.source
    found_source = one_source is.has.source known.has.source is.has.parts known.has.parts
        (is.has.whole ∙ (input.1 ∙ sym known.has.whole))

    found_explanation : is.has.explanation ≡ known.has.explanation
    found_explanation = one_explanation known.image known.has.source options is.has.explanation known.has.explanation
        (subst (λ s. IsExplainedOn known.image s options is.has.explanation) found_source
        (subst (λ i. IsExplainedOn i is.has.source options is.has.explanation) input.0 is.has.explained))
        known.has.explained

  -- bytes have one account
  pub one_account : (options : ExplainOptions) (bytes text other : List ℕ) →
      IsAccounted options bytes text → IsAccounted options bytes other → text ≡ other
  one_account options bytes text other is known =
      is.written ∙
      ap₂ (account options) (found_source options.image options.run bytes bytes refl is.found known.found)
      (found_explanation options.image options.run bytes bytes refl is.found known.found) ∙ sym known.written

  -- so have those that follow a policy
  pub one_verdict : ((bytes : List ℕ) (one other : PolicyRead) → IsPolicyRead bytes one → IsPolicyRead bytes other →
      one ≡ other) → (options : JudgeOptions) (bytes text other : List ℕ) →
      IsJudged options bytes text → IsJudged options bytes other → text ≡ other
  one_verdict one_policy options bytes text other is known =
      let read = one_policy bytes is.read known.read is.is known.is in
      let rest = ap (λ (r : PolicyRead). drop r.rest bytes) read in
      is.written ∙ (λ i. judge_text (read i).policy options.trapped
      (found_source options.image options.run _ _ rest is.found known.found i)
      (found_explanation options.image options.run _ _ rest is.found known.found i)) ∙ sym known.written

  -- a made program has one summary
  pub one_summary : (options : MakeOptions) (text other : List ℕ) → IsSummary options text → IsSummary options other →
      text ≡ other
  one_summary options text other is known =
      let source = one_source is.source known.source is.parts known.parts (is.made ∙ sym known.made) in
      let explained = subst (λ s. IsExplained s [] 16777216 4096 _) source is.explained in
      let explanation = one_explained known.source [] 16777216 4096 is.explanation known.explanation explained
      known.explained in
      is.written ∙ ap₂ (λ s (e : Explanation). summary_text options.size s.program.interfaces e) source explanation ∙
      sym known.written
