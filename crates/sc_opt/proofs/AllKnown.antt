-- Each temporary whose constant is known is assigned in one place, by a constant or by an operator on such.
use Rattle.std.proofs.Common.{Bool, None, Option, Some, ap, arith, eq-eqb, false, if◌then◌else◌, inl}
use Rattle.std.proofs.Common.{inr}
use Rattle.std.proofs.Common.{refl, suc, sym, true, zero, ℕ, ◌<◌, ◌∙◌, ◌≡◌, ◌≤◌, ◌⊎◌}
use Rattle.sc_tac.specs.declared.stmt.Constant.{Constant}
use Rattle.sc_tac.specs.declared.stmt.TacOp.{TacOp}
use Rattle.sc_opt.specs.Pass.{constant_by, constant_of, constants_below, folded, folded_from, is_none, known_constant}
use Rattle.sc_opt.specs.Pass.{second_constant, with_second}
use Rattle.sc_opt.proofs.Joined.{decide, not_same}
use Rattle.sc_opt.proofs.Agreement.{AreConstants, Computed}
use Rattle.sc_opt.specs.declared.facts.Assigned.{Assigned}
use Rattle.sc_opt.specs.declared.facts.Assigned.TheVariants.{ByConstant, ByCopy, ByOperator, Nowhere, Otherwise}
use Rattle.sc_opt.specs.declared.facts.Assigned.TheVariants.{Several}

-- where more is known, what is folded stays so
module _ (fewer more : ℕ → Option Constant)
    (finds : (t : ℕ) (c : Constant) → fewer t ≡ Some c → more t ≡ Some c) where
  second_finds : (o : TacOp) (c k : Constant) (right : Option ℕ) → with_second fewer o c right ≡ Some k →
      with_second more o c right ≡ Some k
  second_finds o c k None e = e
  second_finds o c k (Some t) e = by (fewer t) refl e where
    by : (x : Option Constant) → fewer t ≡ x → second_constant o c x ≡ Some k →
        second_constant o c (more t) ≡ Some k
    by None is e = absurd (cc e)
    by (Some d) is e = ap (second_constant o c) (finds t d is) ∙ e

  pub folds_more : (o : TacOp) (left : ℕ) (right : Option ℕ) (k : Constant) → folded fewer o left right ≡ Some k →
      folded more o left right ≡ Some k
  folds_more o left right k e = by (fewer left) refl e where
    by : (x : Option Constant) → fewer left ≡ x → folded_from fewer o x right ≡ Some k →
        folded_from more o (more left) right ≡ Some k
    by None is e = absurd (cc e)
    by (Some c) is e = ap (λ x. folded_from more o x right) (finds left c is) ∙ second_finds o c k right e

  pub none_folded : (o : TacOp) (left : ℕ) (right : Option ℕ) → is_none (folded more o left right) ≡ true →
      is_none (folded fewer o left right) ≡ true
  none_folded o left right none = by (folded fewer o left right) (folds_more o left right) where
    by : (x : Option Constant) → ((k : Constant) → x ≡ Some k → folded more o left right ≡ Some k) → is_none x ≡ true
    by None found = refl
    by (Some k) found = let no : false ≡ true = sym (ap is_none (found k refl)) ∙ none in absurd (cc no)

module _ (table : ℕ → Assigned) where
  pub here : (t : ℕ) → known_constant table t ≡ constant_by (constants_below table t) (table t)
  here t = ap (λ b. if b then constant_by (constants_below table t) (table t) else constants_below table t t)
      (eq-eqb t t refl)

  -- what is known below a number
  pub known_below : (n t : ℕ) (c : Constant) → constants_below table n t ≡ Some c → known_constant table t ≡ Some c
  known_below zero t c e = absurd (cc e)
  known_below (suc n) t c e = decide t n
      (λ is. ap (λ m. constants_below table (suc m) t) is ∙ e)
      (λ other. known_below n t c (sym (ap (λ b. if b then constant_by (constants_below table n) (table n)
      else constants_below table n t) other) ∙ e))

  strict : (n t : ℕ) → t < suc n → (t ≡ n → ⊥) → t < n
  strict n t h other = omega (arith, h, other)

  pub lower : (n t : ℕ) → t < n → constants_below table n t ≡ known_constant table t
  lower zero t h = absurd (nothing_below t h) where
    nothing_below : (t : ℕ) → t < 0 → ⊥
    nothing_below t h = omega (arith, h)
  lower (suc n) t h = decide t n
      (λ is. ap (λ m. constants_below table (suc m) t) (sym is))
      (λ other. ap (λ b. if b then constant_by (constants_below table n) (table n) else constants_below table n t) other
      ∙ lower n t (strict n t h (not_same {B = ⊥} t n other)))

  pub none_above : (n t : ℕ) → n ≤ t → constants_below table n t ≡ None
  none_above zero t h = refl
  none_above (suc n) t h = decide t n (λ is. absurd (apart n t h is))
      (λ other. ap (λ b. if b then constant_by (constants_below table n) (table n) else constants_below table n t) other
      ∙ none_above n t (weaker n t h)) where
        apart : (n t : ℕ) → suc n ≤ t → t ≡ n → ⊥
        apart n t h is = omega (arith, h, is)

        weaker : (n t : ℕ) → suc n ≤ t → n ≤ t
        weaker n t h = omega (arith, h)

  pub all_known : (source : ℕ → ℕ) (used holds_word : ℕ → Bool) →
      AreConstants table (known_constant table) source used holds_word
  all_known source used holds_word t c e = by (table t) refl (sym (here t) ∙ e) where
    by : (x : Assigned) → table t ≡ x → constant_by (constants_below table t) x ≡ Some c →
        (table t ≡ ByConstant c) ⊎ Computed table (known_constant table) source used holds_word t c
    by Nowhere is e = absurd (cc e)
    by (ByConstant d) is e =
        let two : ◌≡◌ {A = Option Constant} (Some d) (Some c) = e in
        let same : d ≡ c = cc two in inl (is ∙ ap ByConstant same)
    by (ByCopy u) is e = absurd (cc e)
    by (ByOperator o left right) is e = inr (record {
      op = o;
      left = left;
      right = right;
      assigned = is;
      gives = folds_more (constants_below table t) (known_constant table) (known_below t) o left right c e;
    })
    by Otherwise is e = absurd (cc e)
    by Several is e = absurd (cc e)

  -- what is assigned by a constant holds it
  pub constant_known : (t : ℕ) (c : Constant) → constant_of (table t) ≡ Some c → known_constant table t ≡ Some c
  constant_known t c e = by (table t) refl e where
    by : (x : Assigned) → table t ≡ x → constant_of x ≡ Some c → known_constant table t ≡ Some c
    by Nowhere is e = absurd (cc e)
    by (ByConstant d) is e = here t ∙ ap (constant_by (constants_below table t)) is ∙ e
    by (ByCopy u) is e = absurd (cc e)
    by (ByOperator o left right) is e = absurd (cc e)
    by Otherwise is e = absurd (cc e)
    by Several is e = absurd (cc e)
