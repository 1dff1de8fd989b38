-- Runs that keep to a trace: so do runs that agree with them.
use Rattle.sc_emit_run_laws.proofs.Common.{AgreesInDepth, Bool, Event, IsBlamed, IsPrefix, KeepsTo, List, Run}
use Rattle.sc_emit_run_laws.proofs.Common.{RunsAgree, RunsUntilBlame, SourceRun, arith, blamed_run, false, inl, inr}
use Rattle.sc_emit_run_laws.proofs.Common.{leb-false, leb-true, length, nat_le, prefix_more, refl, same_run, subst, sym}
use Rattle.sc_emit_run_laws.proofs.Common.{true, ⊎_elim, ◌<◌, ◌≡◌}
use Rattle.sc_emit_run_laws.proofs.Emits.{blamed_too, shorter_first}

module _ (trace : List Event) where
  -- where it is blamed, and both go on to the same events
  blamed_keeps : (run : SourceRun) (whole : List Event) → IsBlamed run.end → IsPrefix run.trace whole →
      IsPrefix trace whole → KeepsTo trace run
  blamed_keeps run whole ends prefix timed = by (nat_le (length trace) (length run.trace)) refl where
    by : (b : Bool) → nat_le (length trace) (length run.trace) ≡ b → KeepsTo trace run
    by true is =
        inl (shorter_first trace run.trace whole timed prefix (leb-true (length trace) (length run.trace) is))
    by false is =
        let less : length run.trace < length trace = leb-false (length trace) (length run.trace) is in
        inr (ends, shorter_first run.trace trace whole prefix timed (omega (arith, less)))

  until_blame : (one other : Run) → RunsUntilBlame one other → KeepsTo trace other.behaviour →
      KeepsTo trace one.behaviour
  until_blame one other (same_run is) keeps = subst (λ (r : Run). KeepsTo trace r.behaviour) is keeps
  until_blame one other (blamed_run comp cause line ends soft prefix frames late) keeps =
      let blame : IsBlamed one.behaviour.end = subst IsBlamed (sym ends) tt in
      ⊎_elim (λ timed. blamed_keeps one.behaviour other.behaviour.trace blame prefix timed)
      (λ h. inr (blame, prefix_more one.behaviour.trace other.behaviour.trace trace prefix h.1)) keeps

  -- one that is blamed for arithmetic where the other goes on
  pub keeps_until_blame : (one other : Run) → AgreesInDepth one other → KeepsTo trace other.behaviour →
      KeepsTo trace one.behaviour
  keeps_until_blame one other agrees = until_blame one other agrees.whole

  -- one that is the other but for lines
  pub keeps_along : (run other : Run) → RunsAgree run other → KeepsTo trace other.behaviour →
      KeepsTo trace run.behaviour
  keeps_along run other agree keeps =
      ⊎_elim (λ timed. inl (subst (IsPrefix trace) (sym agree.whole.trace) timed))
      (λ h. inr (
        blamed_too run.behaviour.end other.behaviour.end agree.whole.end h.0,
        subst (λ t. IsPrefix t trace) (sym agree.whole.trace) h.1,
      )) keeps
