-- Who stands where a trap stopped the machine, why, and that nobody else can be named.
use Rattle.sc_chain.proofs.Common.{Accepts, All, All-append, All-from_recursion, AllByRecursion, Blamed, Bool, Cause}
use Rattle.sc_chain.proofs.Common.{CompSet, EmitsOrIsBlamed, Event, HasWords, ImageParts, Includes, IsChainFrom}
use Rattle.sc_chain.proofs.Common.{IsChainWith, IsRobust, IsScripted, IsSource, IsWord, Link, List, MachineRun}
use Rattle.sc_chain.proofs.Common.{MeansTrace}
use Rattle.sc_chain.proofs.Common.{None, Option, ProgramTree, Some, SourceParts, SourceRun, Stop, [], ap, ap₂, arith}
use Rattle.sc_chain.proofs.Common.{cases_lt}
use Rattle.sc_chain.proofs.Common.{c_arith, eq-eqb, false, is_listed, legal, length, machine, map, meaning, recomposed}
use Rattle.sc_chain.proofs.Common.{recursion_from_All, refl, scripted_meaning, subst, suc, sym, true, ℕ, ⊎_elim, ◌++◌}
use Rattle.sc_chain.proofs.Common.{◌<◌, ◌==◌, ◌||◌, ◌∙◌, ◌∷◌, ◌≡◌, ◌≤◌}
use Rattle.std.proofs.lemmas.List.Folds.{list_any-append}
use Rattle.sc_base.specs.declared.stop.Stop.TheVariants.{Ended, EventsOut, StepsOut, Trap}
use Rattle.sc_base.specs.declared.stop.TrapReason.{TrapReason}
use Rattle.sc_compile.specs.Prelude.{FindsOrigin, IsBlamed, IsOrigin, IsTrap, origin_of}
use Rattle.sc_core.specs.declared.explanation.TrapOrigin.{TrapOrigin}
use Rattle.sc_core.specs.declared.explanation.TrapOrigin.TheVariants as origin
use Rattle.sc_core.specs.declared.explanation.Trapped.{Trapped}
use Rattle.sc_core.specs.declared.run.RunEnd.{RunEnd}
use Rattle.sc_core.specs.declared.run.RunEnd.TheVariants as ends
use Rattle.sc_core_laws.proofs.ProgramLaws.{more_goes_on}
use Rattle.sc_core_laws.specs.Prelude.{IsSubset}
use Rattle.sc_core_laws.specs.Ends.{IsFinal}
use Rattle.sc_chain.specs.Prelude.{IsObserved, IsTrappedOf, IsTrappedSo, active_in, if_trap, performing_comps}
use Rattle.sc_chain.specs.Prelude.{trapped_in}
use Rattle.sc_chain.specs.declared.account.MachineRun.{MachineRun as Observed}
use Rattle.sc_chain.proofs.Recomposed.{is_scripted, within_all}

-- THOSE THAT PERFORM IN THE LAST TEXT
or_true : (b : Bool) → (b || true) ≡ true
or_true true = refl
or_true false = refl

listed_first : (given more : List ℕ) → IsSubset (is_listed given) (is_listed (given ++ more))
listed_first given more comp is =
    list_any-append (λ c. c == comp) given more ∙ ap (λ b. b || is_listed more comp) is

listed_later : (given more : List ℕ) → IsSubset (is_listed more) (is_listed (given ++ more))
listed_later given more comp is =
    list_any-append (λ c. c == comp) given more ∙ ap (λ b. is_listed given comp || b) is ∙
    or_true (is_listed given comp)

module _ (source : SourceParts) (inputs : List ℕ) (steps : ℕ) (trace : List Event) where
  abbrev IsKnown : ℕ → Type 0
  IsKnown comp = comp < length source.program.interfaces.comps

  includes : (set : CompSet) (links : List Link) → IsSubset (is_listed (map (λ link. link.comp) links)) set →
      Includes source inputs steps trace set links
  includes set [] within = tt
  includes set (link ∷ links) within = (
    within link.comp (ap (λ b. b || is_listed (map (λ link. link.comp) links) link.comp)
        (eq-eqb link.comp link.comp refl)),
    includes set links (λ comp is. within comp (ap (λ b. (link.comp == comp) || b) is ∙ or_true (link.comp == comp))),
  )

  links_known : (comps : List ℕ) (least : ℕ) (links : List Link) →
      IsChainFrom source inputs steps trace comps least links → AllByRecursion IsKnown (map (λ link. link.comp) links)
  links_known comps least [] chain = tt
  links_known comps least (link ∷ links) chain =
      (chain.0.there, links_known (link.comp ∷ comps) (suc link.after) links chain.1)

  module _ (given : List ℕ) (known : All IsKnown given) (links : List Link)
      (chain : IsChainWith source inputs steps trace given links) where
    pub all_known : All IsKnown (performing_comps given links)
    all_known =
        All-append IsKnown given (map (λ link. link.comp) links) known
        (All-from_recursion IsKnown (map (λ link. link.comp) links) (links_known given 0 links chain.chain))

    means_trace : MeansTrace source inputs steps trace (is_listed (performing_comps given links))
    means_trace =
        (chain.least (is_listed (performing_comps given links))
        (within_all (length source.program.interfaces.comps) (performing_comps given links)
        (recursion_from_All IsKnown (performing_comps given links) all_known))
        (listed_first given (map (λ link. link.comp) links))).1
        (includes (is_listed (performing_comps given links)) links
        (listed_later given (map (λ link. link.comp) links)))

    module _ (one_program : (text : List ℕ) (program other : ProgramTree) →
        Accepts text program → Accepts text other → program ≡ other)
        (is_source : IsSource source) (allowed : legal source.program.interfaces trace ≡ true)
        (few : length trace ≤ 4096) (words : All HasWords trace) where
      pub performed : (program : ProgramTree)
          × IsScripted source trace (is_listed (performing_comps given links)) program
      performed =
          is_scripted source trace (performing_comps given links) is_source allowed few words all_known

      -- the last text means all of the trace, with all of the turns
      pub has_trace : (scripted_meaning source.program (is_listed (performing_comps given links)) trace inputs steps
          (length trace)).trace ≡ trace
      has_trace =
          ap (λ (r : SourceRun). r.trace) (sym (performed.1.means inputs steps (length trace))) ∙
          ap (λ p. (meaning p inputs steps (length trace)).trace)
          (one_program (recomposed source trace (is_listed (performing_comps given links))) performed.0
          means_trace.text.program performed.1.accepted means_trace.text.accepted) ∙
          means_trace.is_trace

-- and with fewer turns, too, where it has all of it or is blamed before
has_still : (program : ProgramTree) (set : CompSet) (inputs : List ℕ) (taken steps : ℕ) (trace : List Event)
    (count : ℕ) → taken ≤ steps →
    EmitsOrIsBlamed count set trace (scripted_meaning program set trace inputs taken (length trace)) →
    (scripted_meaning program set trace inputs steps (length trace)).trace ≡ trace →
    (scripted_meaning program set trace inputs taken (length trace)).trace ≡ trace
has_still program set inputs taken steps trace count few each has =
    ⊎_elim (λ emitted. emitted) (λ blamed.
    (let extends =
    more_goes_on.programs c_arith program set trace inputs taken steps (length trace) (length trace) few
    (omega arith) in
    let longer = extends.final (subst IsFinal (sym blamed.0.blamed) tt) in
    let all : length (scripted_meaning program set trace inputs taken (length trace)).trace ≡ length trace =
    ap (λ (r : SourceRun). length r.trace) (sym longer) ∙ ap length has in
    let short = blamed.1 in
    absurd (omega (arith, all, short)))) each

-- A TRAP
module _ (program : ProgramTree) (set : CompSet) (inputs : List ℕ) (turns : ℕ) (cause : Cause) (line : ℕ) where
  abbrev IsBlamedAt : List Event → ℕ → Type 0
  IsBlamedAt trace comp = scripted_meaning program set trace inputs turns (suc (length trace)) ≡
      record { trace = trace; end = Blamed comp cause line }

  blamed_at : (trace trace' : List Event) → trace ≡ trace' → (comp comp' : ℕ) → comp ≡ comp' →
      IsBlamedAt trace comp → IsBlamedAt trace' comp'
  blamed_at trace trace' same comp comp' one is =
      subst (λ t. IsBlamedAt t comp') same (subst (λ c. IsBlamedAt trace c) one is)

module _ (finds : FindsOrigin) (source : SourceParts) (image : ImageParts) (inputs : List ℕ) (steps events : ℕ)
    (words : All IsWord inputs) (given : List ℕ) (robust : IsRobust source.program (is_listed given) image)
    (links : List Link) (observed : Observed) (is : IsObserved image inputs steps events observed) where
  abbrev comps : List ℕ
  comps = performing_comps given links

  abbrev its : MachineRun
  its = machine image inputs observed.taken events

  trace_is : its.state.trace ≡ observed.trace
  trace_is = ap (λ (r : MachineRun). r.state.trace) is.taken.same ∙ sym is.trace

  active_is : its.state.active ≡ observed.active
  active_is = ap (λ (r : MachineRun). r.state.active) is.taken.same ∙ sym is.active

  module _ (has : (scripted_meaning source.program (is_listed comps) observed.trace inputs steps
      (length observed.trace)).trace ≡ observed.trace)
      (text : (program : ProgramTree) × IsScripted source observed.trace (is_listed comps) program) where
    still : (scripted_meaning source.program (is_listed comps) its.state.trace inputs observed.taken
        (length its.state.trace)).trace ≡ its.state.trace
    still =
        has_still source.program (is_listed comps) inputs observed.taken steps its.state.trace
        (length source.program.sections) is.taken.few
        (robust.scripted inputs observed.taken events (is_listed comps)
        (listed_first given (map (λ link. link.comp) links)) words)
        (subst (λ t. (scripted_meaning source.program (is_listed comps) t inputs steps (length t)).trace ≡ t)
        (sym trace_is) has)

    reason : IsTrap its.stop → IsOrigin source.program image (is_listed comps) inputs observed.taken events
        (active_in source.program (is_listed comps) inputs observed).origin
    reason traps =
        subst (IsOrigin source.program image (is_listed comps) inputs observed.taken events)
        (ap₂ (λ c t. origin_of (is_listed comps c)
        (scripted_meaning source.program (is_listed comps) t inputs observed.taken (suc (length t))).end) active_is
        trace_is)
        (finds source.program image (is_listed given) is.formed robust inputs observed.taken events (is_listed comps)
        (listed_first given (map (λ link. link.comp) links)) words traps still)

    blamed_text : IsTrap its.stop → (cause : Cause) (line : ℕ) →
        (active_in source.program (is_listed comps) inputs observed).origin ≡ origin.Blamed cause line →
        meaning text.0 inputs observed.taken (suc (length observed.trace)) ≡
        record { trace = observed.trace; end = Blamed observed.active cause line }
    blamed_text traps cause line same =
        text.1.means inputs observed.taken (suc (length observed.trace)) ∙
        blamed_at source.program (is_listed comps) inputs observed.taken cause line its.state.trace observed.trace
        trace_is its.state.active observed.active active_is
        (subst (IsOrigin source.program image (is_listed comps) inputs observed.taken events) same
        (reason traps)).1

    trapped_so : IsTrap its.stop →
        IsTrappedSo source image inputs steps events comps (active_in source.program (is_listed comps) inputs observed)
    trapped_so traps = record {
      taken = observed.taken;
      few = is.taken.few;
      same = is.taken.same;
      least = is.taken.least;
      active = is.active;
      reason = reason traps;
      program = text.0;
      accepted = subst (λ t. Accepts (recomposed source t (is_listed comps)) text.0) is.trace text.1.accepted;
      blamed = λ cause line same. subst (λ t. meaning text.0 inputs observed.taken (suc (length t)) ≡
          record { trace = t; end = Blamed observed.active cause line }) is.trace (blamed_text traps cause line same);
    }

    pub trapped_of : IsTrappedOf source image inputs steps events comps
        (trapped_in source.program (is_listed comps) inputs observed)
    trapped_of = by observed.stop refl where
      by : (stop : Stop) → observed.stop ≡ stop → IsTrappedOf source image inputs steps events comps
          (if_trap stop (active_in source.program (is_listed comps) inputs observed))
      by Ended ends = λ traps. subst IsTrap (sym is.stop ∙ ends) traps
      by EventsOut ends = λ traps. subst IsTrap (sym is.stop ∙ ends) traps
      by StepsOut ends = λ traps. subst IsTrap (sym is.stop ∙ ends) traps
      by (Trap why pc) ends =
          let traps : IsTrap (machine image inputs steps events).stop =
          subst IsTrap (sym ends ∙ is.stop) tt in
          (traps, trapped_so (subst IsTrap (ap (λ (r : MachineRun). r.stop) (sym is.taken.same)) traps))

-- what an account says of the machine's stop
module _ (finds : FindsOrigin) (one_program : (text : List ℕ) (program other : ProgramTree) →
    Accepts text program → Accepts text other → program ≡ other)
    (source : SourceParts) (is_source : IsSource source) (image : ImageParts) (inputs : List ℕ)
    (inputs_are : All IsWord inputs) (steps events : ℕ) (given : List ℕ)
    (known : All (λ comp. comp < length source.program.interfaces.comps) given)
    (robust : IsRobust source.program (is_listed given) image) (observed : Observed)
    (is : IsObserved image inputs steps events observed) (few : length observed.trace ≤ 4096)
    (words : All HasWords observed.trace) (links : List Link)
    (chain : IsChainWith source inputs steps observed.trace given links) where
  allowed : legal source.program.interfaces observed.trace ≡ true
  allowed = subst (λ t. legal source.program.interfaces t ≡ true) (sym is.trace)
      (robust.allowed inputs steps events inputs_are)

  pub account_trapped : (comps' : List ℕ) → comps' ≡ performing_comps given links → (trapped : Option Trapped) →
      trapped ≡ trapped_in source.program (is_listed comps') inputs observed →
      IsTrappedOf source image inputs steps events (performing_comps given links) trapped
  account_trapped comps' same trapped found =
      subst (IsTrappedOf source image inputs steps events (performing_comps given links))
      (sym (found ∙ ap (λ cs. trapped_in source.program (is_listed cs) inputs observed) same))
      (trapped_of finds source image inputs steps events inputs_are given robust links observed is
      (has_trace source inputs steps observed.trace given known links chain one_program is_source allowed few words)
      (performed source inputs steps observed.trace given known links chain one_program is_source allowed few words))

-- the answer of the function that finds it
module _ (program : ProgramTree) (set : CompSet) (inputs : List ℕ) (observed : Observed) where
  pub answered : (trapped : Trapped) (reason : TrapReason) (pc : ℕ) → observed.stop ≡ Trap reason pc →
      trapped ≡ active_in program set inputs observed → Some trapped ≡ trapped_in program set inputs observed
  answered trapped reason pc stops same =
      ap Some same ∙
      subst (λ stop. Some (active_in program set inputs observed) ≡
      if_trap stop (active_in program set inputs observed)) (sym stops) refl

  pub honest_is : (named : TrapOrigin) (run : SourceRun) (events : ℕ) (trace : List Event) →
      trace ≡ observed.trace → set observed.active ≡ false → events ≡ suc (length observed.trace) →
      run ≡ scripted_meaning program set trace inputs observed.taken events → named ≡ origin_of false run.end →
      ◌≡◌ {A = Trapped} (record { comp = observed.active; origin = named }) (active_in program set inputs observed)
  honest_is named run events trace same honest more is found =
      λ i. record { comp = observed.active; origin = origin i } where
        origin : named ≡ (active_in program set inputs observed).origin
        origin = found ∙ ap₂ (λ b (r : SourceRun). origin_of b r.end) (sym honest)
            (is ∙ ap₂ (λ t n. scripted_meaning program set t inputs observed.taken n) same more)

-- NOBODY ELSE
full_is : (end : RunEnd) → (IsBlamed end → ⊥) → origin.FullStack ≡ origin_of false end
full_is (Blamed comp cause line) never = absurd (never tt)
full_is ends.Ended never = refl
full_is ends.TurnsOut never = refl
full_is ends.EventsOut never = refl

module _ (source : SourceParts) (image : ImageParts) (inputs : List ℕ) (steps events : ℕ) (comps : List ℕ) where
  abbrev named_by : (taken : ℕ) → TrapOrigin
  named_by taken =
      let its = machine image inputs taken events in
      origin_of (is_listed comps its.state.active)
      (scripted_meaning source.program (is_listed comps) its.state.trace inputs taken
      (suc (length its.state.trace))).end

  abbrev end_by : (taken : ℕ) → RunEnd
  end_by taken =
      let its = machine image inputs taken events in
      (scripted_meaning source.program (is_listed comps) its.state.trace inputs taken
      (suc (length its.state.trace))).end

  -- the reason is a function of what was computed
  origin_is : (taken : ℕ) (named : TrapOrigin) →
      IsOrigin source.program image (is_listed comps) inputs taken events named → named ≡ named_by taken
  origin_is taken origin.Replaced is = ap (λ b. origin_of b (end_by taken)) (sym is)
  origin_is taken (origin.Blamed cause line) is = sym (ap₂ origin_of is.0 (ap (λ (r : SourceRun). r.end) is.1))
  origin_is taken origin.FullStack is =
      full_is (end_by taken) is.1 ∙ ap (λ b. origin_of b (end_by taken)) (sym is.0)

  module _ (traps : IsTrap (machine image inputs steps events).stop) where
    never_fewer : (one other : Trapped) (a : IsTrappedSo source image inputs steps events comps one)
        (b : IsTrappedSo source image inputs steps events comps other) → a.taken < b.taken → ⊥
    never_fewer one other a b less =
        subst IsTrap (ap (λ (r : MachineRun). r.stop) (sym a.same) ∙ b.least a.taken less) traps

    one_taken : (one other : Trapped) (a : IsTrappedSo source image inputs steps events comps one)
        (b : IsTrappedSo source image inputs steps events comps other) → a.taken ≡ b.taken
    one_taken one other a b =
        ⊎_elim (λ less. absurd (never_fewer one other a b less)) (λ from.
        ⊎_elim (λ less. absurd (never_fewer other one b a less)) (λ upto. omega (arith, from, upto))
        (cases_lt b.taken a.taken)) (cases_lt a.taken b.taken)

    one_named : (one other : Trapped) → IsTrappedSo source image inputs steps events comps one →
        IsTrappedSo source image inputs steps events comps other → one ≡ other
    one_named one other a b = λ i. record { comp = comp i; origin = origin i } where
      comp : one.comp ≡ other.comp
      comp = a.active ∙ sym b.active

      origin : one.origin ≡ other.origin
      origin = origin_is a.taken one.origin a.reason ∙ ap named_by (one_taken one other a b) ∙
          sym (origin_is b.taken other.origin b.reason)

  pub one_trapped : (one other : Option Trapped) → IsTrappedOf source image inputs steps events comps one →
      IsTrappedOf source image inputs steps events comps other → one ≡ other
  one_trapped None None a b = refl
  one_trapped None (Some other) a b = absurd (a b.0)
  one_trapped (Some one) None a b = absurd (b a.0)
  one_trapped (Some one) (Some other) a b = ap Some (one_named a.0 one other a.1 b.1)
