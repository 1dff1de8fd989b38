-- Robust safety.
use Rattle.sc_chain.proofs.Common.{Accepts, Blamed, Cause, Event, Link, List, ProgramTree, SourceParts, [], ap, arith}
use Rattle.sc_chain.proofs.Common.{is_listed, length, meaning, refl, subst, sym, true, ℕ, ◌<◌, ◌∙◌, ◌∷◌, ◌≡◌, ◌≤◌}
use Rattle.sc_chain.proofs.Common.{false, if◌then◌else◌, inl, inr}
use Rattle.sc_chain.specs.Chain.{IsBlamedSo, IsChainFrom, IsImageExplained, IsNext, MeansTrace}
use Rattle.sc_chain.specs.Safety.{AllKeepTo, KeptUpToBlame, RobustSafety}
use Rattle.sc_core.specs.Prelude.{c_arith, run_of}
use Rattle.sc_core.specs.Run.{reaches, stopped_at}
use Rattle.sc_core.specs.declared.explanation.Explanation.{Explanation}
use Rattle.sc_core.specs.declared.run.RunEnd.{RunEnd}
use Rattle.sc_core.specs.declared.run.RunEnd.TheVariants.{Ended, EventsOut, TurnsOut}
use Rattle.sc_core.specs.declared.run.SourceRun.{SourceRun}
use Rattle.sc_emit_run_laws.specs.Prelude.{IsBlamed}
use Rattle.std.specs.Prelude.{◌⊎◌, Bool, nat_le, take}
use Rattle.std.proofs.Common.{le-leb, leb-false}
use Rattle.std.proofs.Math.Seq.{take-length}
use Rattle.std.proofs.lemmas.List.{length-take-le}

-- A run that is stopped at a number of events is blamed only where it has fewer.

record IsWholeRun (events : ℕ) (run : SourceRun) : Type 0 where
  whole : stopped_at events run ≡ run
  few : length run.trace < events

blamed_early : (events : ℕ) (run : SourceRun) → IsBlamed (stopped_at events run).end → IsWholeRun events run
blamed_early events run blamed = by (reaches events run run.end) refl blamed
  where
    few : (end : RunEnd) → IsBlamed end → reaches events run end ≡ false → length run.trace < events
    few (Blamed comp cause line) is reached = leb-false events (length run.trace) reached
    few Ended is reached = absurd is
    few TurnsOut is reached = absurd is
    few EventsOut is reached = absurd is

    by : (reached : Bool) → reaches events run run.end ≡ reached →
        IsBlamed (if reached then record { trace = take events run.trace; end = EventsOut } else run).end →
        IsWholeRun events run
    by true is ends = absurd ends
    by false is ends = record {
      whole = ap (λ b. if b then record { trace = take events run.trace; end = EventsOut } else run) is;
      few = few run.end ends is;
    }

-- stopped right there, it is out of events
stopped_there : (run : SourceRun) → IsBlamed run.end →
    stopped_at (length run.trace) run ≡ record { trace = run.trace; end = EventsOut }
stopped_there run blamed =
    ap (λ b. if b then record { trace = take (length run.trace) run.trace; end = EventsOut } else run)
    (reached run.end blamed) ∙ ap (λ trace. record { trace = trace; end = EventsOut }) (take-length run.trace)
  where
    reached : (end : RunEnd) → IsBlamed end → reaches (length run.trace) run end ≡ true
    reached (Blamed comp cause line) is = le-leb (length run.trace) (length run.trace) (omega arith)
    reached Ended is = absurd is
    reached TurnsOut is = absurd is
    reached EventsOut is = absurd is

module _ (Q : List Event → Type 0) (program : ProgramTree) (inputs : List ℕ) (steps : ℕ) (trace : List Event)
    (keeps : (turns events : ℕ) → Q (meaning program inputs turns events).trace ⊎
    IsBlamed (meaning program inputs turns events).end) where
  abbrev behaviour : SourceRun
  behaviour = (run_of c_arith program inputs steps).behaviour

  -- a meaning that is all of the trace
  whole_kept : (meaning program inputs steps (length trace)).trace ≡ trace → Q trace
  whole_kept is = by (keeps steps (length trace)) where
    by : Q (meaning program inputs steps (length trace)).trace ⊎
        IsBlamed (meaning program inputs steps (length trace)).end → Q trace
    by (inl kept) = subst Q is kept
    by (inr blamed) =
        let early = blamed_early (length trace) behaviour blamed in
        let few = early.few in
        let long : length behaviour.trace ≡ length trace = ap length (sym (ap (λ r. r.trace) early.whole) ∙ is) in
        absurd (omega (arith, few, long))

  -- a meaning that is blamed before
  begun_kept : (link : Link) → IsBlamedSo program inputs steps trace link → Q (take link.after trace)
  begun_kept link is = by (keeps steps (length behaviour.trace)) where
    blamed : (end : RunEnd) → end ≡ Blamed link.comp link.cause link.line → IsBlamed end
    blamed end same = subst IsBlamed (sym same) tt

    early : IsWholeRun (length trace) behaviour
    early = blamed_early (length trace) behaviour (blamed _ is.end)

    begun : behaviour.trace ≡ take link.after trace
    begun = sym (ap (λ r. r.trace) early.whole) ∙ is.prefix

    there : stopped_at (length behaviour.trace) behaviour ≡ record { trace = behaviour.trace; end = EventsOut }
    there = stopped_there behaviour (subst (λ r. IsBlamed r.end) early.whole (blamed _ is.end))

    by : Q (meaning program inputs steps (length behaviour.trace)).trace ⊎
        IsBlamed (meaning program inputs steps (length behaviour.trace)).end → Q (take link.after trace)
    by (inl kept) = subst Q (ap (λ r. r.trace) there ∙ begun) kept
    by (inr ends) = absurd (subst (λ r. IsBlamed r.end) there ends)

pub robust_safety : RobustSafety
robust_safety keeps source image inputs steps events explanation is allowed few all_keep =
    by explanation.links is.account.chain.chain where
      by : (links : List Link) → IsChainFrom source inputs steps explanation.trace explanation.given 0 links →
          KeptUpToBlame keeps source inputs steps explanation
      by [] means = inl (whole_kept (λ t. keeps t ≡ true) means.text.program inputs steps explanation.trace
          (λ turns events. all_keep explanation.trace means.text.program turns events allowed few means.text.accepted)
          means.is_trace)
      by (link ∷ links) chain = inr (
        link,
        chain.0,
        begun_kept (λ t. keeps t ≡ true) chain.0.text.program inputs steps explanation.trace
            (λ turns events. all_keep explanation.trace chain.0.text.program turns events allowed few
            chain.0.text.accepted)
            link chain.0.blamed,
      )
