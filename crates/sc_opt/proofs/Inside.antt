-- What is read elsewhere is read at a temporary of the function.
use Rattle.std.proofs.Common.{Bool, List, ap, false, inl, inr, ltb-false, nat_lt, refl, sym, true, ℕ, ◌∙◌, ◌≡◌, ◌≤◌}
use Rattle.std.proofs.Common.{◌⊎◌}
use Rattle.sc_tac.specs.Prelude.{everywhere, names_own_temps}
use Rattle.sc_tac.specs.declared.stmt.TacStmt.{TacStmt}
use Rattle.sc_opt.specs.Pass.{copy_source, is_once, table_of}
use Rattle.sc_opt.proofs.Agreement.{Moved}
use Rattle.sc_opt.proofs.Bounds.{assigned_nowhere}
use Rattle.sc_opt.proofs.Copies.{all_sourced}

-- a source is a temporary of the function
pub sources_inside : (temps : ℕ) (body : List TacStmt) (used holds_word : ℕ → Bool) →
    everywhere (names_own_temps temps) body ≡ true → (t : ℕ) → nat_lt t temps ≡ true →
    nat_lt (copy_source (table_of body) t) temps ≡ true
sources_inside temps body used holds_word own t h = by (all_sourced (table_of body) used holds_word t) where
  clash : {B : Type 0} → temps ≤ copy_source (table_of body) t → is_once (table_of body (copy_source
      (table_of body) t)) ≡ true → B
  clash out once = let no : false ≡ true =
      sym (ap is_once (assigned_nowhere temps (copy_source (table_of body) t) out body own)) ∙ once in absurd (cc no)

  by : ((copy_source (table_of body) t ≡ t) ⊎ Moved (table_of body) (copy_source (table_of body)) used holds_word t) →
      nat_lt (copy_source (table_of body) t) temps ≡ true
  by (inl same) = ap (λ u. nat_lt u temps) same ∙ h
  by (inr m) = within (nat_lt (copy_source (table_of body) t) temps) refl where
    within : (b : Bool) → nat_lt (copy_source (table_of body) t) temps ≡ b → b ≡ true
    within true is = refl
    within false is = clash (ltb-false (copy_source (table_of body) t) temps is) m.once
