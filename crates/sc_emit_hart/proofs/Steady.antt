-- A stretch leads from a steady state to a steady state.
use Rattle.sc_emit_hart.proofs.Common.{All, Goes, ImageParts, IsSteadyState, IsWellFormed, IsWord, List, Outcome}
use Rattle.sc_emit_hart.proofs.Common.{MachineState}
use Rattle.sc_emit_hart.proofs.Common.{Traps, Walks, after_outcome, refl, step, subst, suc, then_on, walk, zero, ℕ, ◌≡◌}
use Rattle.sc_image.proofs.Reached.{runs_are_steady}

module _ (image : ImageParts) (inputs : List ℕ) (formed : IsWellFormed image) (words : All IsWord inputs) where
  steady_next : (s u : MachineState) → IsSteadyState image s → step image inputs s ≡ Goes u → IsSteadyState image u
  steady_next s u steady is =
      subst (λ outcome. IsSteadyState image (after_outcome s outcome)) is
      (runs_are_steady.step image inputs s formed words steady)

  steady_by : (n : ℕ) (s t : MachineState) → IsSteadyState image s → (outcome : Outcome) → step image inputs s ≡ outcome
      →
      ((u : MachineState) → IsSteadyState image u → walk image inputs n u ≡ Goes t → IsSteadyState image t) →
      then_on outcome (walk image inputs n) ≡ Goes t → IsSteadyState image t
  steady_by n s t steady (Goes u) is go h = go u (steady_next s u steady is) h
  steady_by n s t steady (Traps reason) is go h = cc h

  walk_steady : (n : ℕ) (s t : MachineState) → IsSteadyState image s → walk image inputs n s ≡ Goes t → IsSteadyState
      image t
  walk_steady zero s t steady h = let same : s ≡ t = cc h in subst (IsSteadyState image) same steady
  walk_steady (suc n) s t steady h =
      steady_by n s t steady (step image inputs s) refl (λ u. walk_steady n u t) h

  pub walks_steady : (n : ℕ) (s t : MachineState) → Walks image inputs n s t → IsSteadyState image s → IsSteadyState
      image t
  walks_steady n s t walks steady = walk_steady n s t steady walks.by
