-- The laws on more turns, more events, and the arithmetic that wraps.
use Rattle.sc_core_laws.proofs.Common.{AgreesInDepth, AgreesUntilBlame, Blamed, Bool, Cause, Denotations}
use Rattle.sc_core_laws.proofs.Common.{DenotationsMatch, Ended, EventsOut, ExtendedByMore, Extends, IsArithmetic}
use Rattle.sc_core_laws.proofs.Common.{IsFinal, IsPrefix, List, Memory, Never, Obedient, ProgramTree, Roles, Run}
use Rattle.sc_core_laws.proofs.Common.{RunEnd, RunsUntilBlame, SourceRun, ap, arith, blamed, blamed_run, c_arith}
use Rattle.sc_core_laws.proofs.Common.{deepest, denotations_of, denotations_run, depth_in, false, inl, inr, le-leb}
use Rattle.sc_core_laws.proofs.Common.{leb-true, length, lt-ltb, nat_le, reaches, refl, roles_run, same, same_run}
use Rattle.sc_core_laws.proofs.Common.{stopped_at, subst, sym, take-append-le, take_all, true, wrapping, ℕ, ◌+◌, ◌-◌}
use Rattle.sc_core_laws.proofs.Common.{◌<◌, ◌∙◌, ◌≡◌, ◌≤◌}
use Rattle.std.proofs.Common.{take}
use Rattle.sc_core_laws.proofs.Wrapping.{binary_fits, negated_fits}
use Rattle.sc_core_laws.proofs.Growing.{prefix_same, prefix_no_longer}
use Rattle.sc_core_laws.proofs.Expressions.{ArithKeeps}
use Rattle.sc_core_laws.proofs.Matching.{idle}
use Rattle.sc_core_laws.proofs.Statements.{program_matches}
use Rattle.sc_core_laws.proofs.Below.{Passes}
use Rattle.sc_core_laws.proofs.Runs.{cut_if, take_prefixes, unreached, still_unreached, trace_is, RunsBelow, runs_below}
use Rattle.sc_core_laws.proofs.Runs.{RunsBelow as goes}
use Rattle.sc_core_laws.proofs.Depths.{deepest_more}

-- MORE TURNS AND EVENTS
module _ (d : ℕ) (one other : Run) (events more_events : ℕ) (le : events ≤ more_events) where
  abbrev shorter : SourceRun
  shorter = one.behaviour

  abbrev longer : SourceRun
  longer = other.behaviour

  prefix_events : RunsBelow d Never (Unit {0}) one other → IsPrefix shorter.trace longer.trace
  prefix_events (goes.same_run is) = subst (λ z. IsPrefix shorter.trace z.behaviour.trace) (sym is) (prefix_same _)
  prefix_events (goes.goes_past end is stop passes prefix ended frames late) = prefix

  final_at : (b : Bool) → reaches events shorter shorter.end ≡ b → IsFinal (cut_if events b shorter).end →
      RunsBelow d Never (Unit {0}) one other → stopped_at more_events longer ≡ (cut_if events b shorter)
  final_at true is final below = absurd final
  final_at false is final (goes.same_run equal) = ap (λ z. stopped_at more_events z.behaviour) equal
      ∙ ap (λ b. cut_if more_events b shorter) (still_unreached events _ shorter _ le is)
  final_at false is final (goes.goes_past end ends stop passes prefix ended frames late) =
      absurd (no_end end passes (subst IsFinal ends final)) where
        no_end : (end : RunEnd) → Passes d Never (Unit {0}) end → IsFinal end → ⊥
        no_end end passes final = grind arith

  extends : RunsBelow d Never (Unit {0}) one other → Extends (stopped_at events shorter) (stopped_at more_events longer)
  extends below =
      record {
        trace = subst (λ t. IsPrefix t (stopped_at more_events longer).trace) (sym (trace_is events shorter))
            (subst (IsPrefix _) (sym (trace_is _ longer))
            (take_prefixes events _ _ longer.trace le (prefix_events below)));
        final = λ final. final_at _ refl final below;
      }

module _ (denotations : Denotations) (obedient : Obedient denotations) (globals : Memory) (inputs : List ℕ) where
  pub more_scripted : (roles : Roles) →
      ExtendedByMore (λ turns events. stopped_at events (roles_run denotations globals inputs turns roles).behaviour)
  more_scripted roles turns more_turns events more_events le_turns le_events =
      let d : ℕ = more_turns - turns in
      let sum : turns + d ≡ more_turns = omega (arith, le_turns) in
      subst (λ n. Extends (stopped_at events (roles_run denotations globals inputs turns roles).behaviour)
      (stopped_at more_events (roles_run denotations globals inputs n roles).behaviour)) sum
      (extends d _ _ events more_events le_events
      (runs_below d Never _ (inr tt) denotations denotations obedient roles globals inputs turns))

  pub more_runs : ExtendedByMore (λ turns events. stopped_at events
      (denotations_run denotations globals inputs turns).behaviour)
  more_runs = more_scripted idle

-- ARITHMETIC
pub wrapping_keeps : ArithKeeps IsArithmetic c_arith wrapping
wrapping_keeps = record { binary = λ unsigned o a b. binary_fits _ o a b; negated = λ unsigned a. negated_fits _ a }

-- two runs with as many turns, of which the first may be blamed for arithmetic
module _ (one other : Run) (events : ℕ) where
  abbrev x : SourceRun
  x = one.behaviour

  abbrev y : SourceRun
  y = other.behaviour

  reached_too : (end : RunEnd) → IsPrefix x.trace y.trace → (end ≡ Ended → length x.trace < length y.trace) →
      events ≤ length x.trace → reaches events y end ≡ true
  reached_too Ended prefix ended le = (let longer = ended refl in lt-ltb events _ (omega (arith, le, longer)))
  reached_too _ prefix ended le =
      (let long = prefix_no_longer x.trace y.trace prefix in le-leb events _ (omega (arith, le, long)))

  took_same : IsPrefix x.trace y.trace → events ≤ length x.trace → take events y.trace ≡ take events x.trace
  took_same prefix le = ap (take events) prefix.is ∙ take-append-le events x.trace prefix.more le

  blamed_at : (comp : ℕ) (cause : Cause) (line : ℕ) → x.end ≡ Blamed comp cause line → IsArithmetic cause →
      IsPrefix x.trace y.trace → (y.end ≡ Ended → length x.trace < length y.trace) → (b : Bool) →
      reaches events x x.end ≡ b → AgreesUntilBlame (cut_if events b x) (stopped_at events y)
  blamed_at comp cause line ends soft prefix ended true is =
      let le = leb_true events (length x.trace) (ap (reaches events x) (sym ends) ∙ is) in
      same (ap (λ b. cut_if events b y)
      (reached_too y.end prefix ended le) ∙ ap (λ t. record { trace = t; end = EventsOut }) (took_same prefix le)) where
        leb_true : (a b : ℕ) → nat_le a b ≡ true → a ≤ b
        leb_true a b is = leb-true a b is
  blamed_at comp cause line ends soft prefix ended false is =
      blamed comp cause line ends soft (subst (IsPrefix x.trace) (sym (trace_is events y))
      (subst (λ t. IsPrefix t (take events y.trace)) (take_all events x.trace (unreached events x x.end is))
      (take_prefixes events events x.trace y.trace (omega arith) prefix)))

  agrees : RunsBelow 0 IsArithmetic ⊥ one other → AgreesUntilBlame (stopped_at events x) (stopped_at events y)
  agrees (goes.same_run is) = same (ap (λ z. stopped_at events z.behaviour) is)
  agrees (goes.goes_past (Blamed comp cause line) ends stop passes prefix ended frames late) =
      blamed_at comp cause line ends passes prefix ended _ refl
  agrees (goes.goes_past _ ends stop passes prefix ended frames late) = absurd passes

module _ (one other : Run) where
  whole_agrees : RunsBelow 0 IsArithmetic ⊥ one other → RunsUntilBlame one other
  whole_agrees (goes.same_run is) = same_run is
  whole_agrees (goes.goes_past (Blamed comp cause line) ends stop passes prefix ended frames late) =
      blamed_run comp cause line ends passes prefix frames late
  whole_agrees (goes.goes_past _ ends stop passes prefix ended frames late) = absurd passes

  no_deeper : RunsUntilBlame one other → (events comp : ℕ) → depth_in one events comp ≤ depth_in other events comp
  no_deeper (same_run is) events comp =
      subst (λ z. depth_in one events comp ≤ depth_in z events comp) (sym is) (omega arith)
  no_deeper (blamed_run c cause line ends soft prefix frames late) events comp =
      subst (λ z. depth_in one events comp ≤ deepest events comp 0 z) (sym frames.is)
      (deepest_more events comp 0 _ frames.more)

  pub in_depth : RunsBelow 0 IsArithmetic ⊥ one other → AgreesInDepth one other
  in_depth below = record {
    whole = whole_agrees below;
    behaviour = λ events. agrees one other events below;
    depth = no_deeper (whole_agrees below);
  }

module _ (L M : Denotations) (match : DenotationsMatch IsArithmetic L M) (globals : Memory) (inputs : List ℕ)
    (turns : ℕ) where
  pub scripts_agree : (roles : Roles) →
      AgreesInDepth (roles_run L globals inputs turns roles) (roles_run M globals inputs turns roles)
  scripts_agree roles =
      let none : turns + 0 ≡ turns = omega arith in
      in_depth _ _ (subst (λ n. RunsBelow 0 IsArithmetic ⊥ (roles_run L globals inputs turns roles)
      (roles_run M globals inputs n roles)) none
      (runs_below 0 IsArithmetic ⊥ (inl refl) L M match roles globals inputs turns))

  pub runs_agree : AgreesInDepth (denotations_run L globals inputs turns) (denotations_run M globals inputs turns)
  runs_agree = scripts_agree idle

pub wrapping_matches : (program : ProgramTree) →
    DenotationsMatch IsArithmetic (denotations_of c_arith program) (denotations_of wrapping program)
wrapping_matches program = program_matches IsArithmetic c_arith wrapping wrapping_keeps program
