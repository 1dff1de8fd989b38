-- how temporaries are assigned in code of several parts, and tables of temporaries.
use Rattle.std.proofs.Common.{Bool, Some, ap, arith, eq-eqb, eqb-true, false, if◌then◌else◌}
use Rattle.std.proofs.Common.{inl, inr, not, refl, sym, true, ℕ, ◌&&◌, ◌==◌, ◌||◌, ◌∙◌, ◌≡◌, ◌⊎◌}
use Rattle.std.proofs.lemmas.Bool.{and_from}
use Rattle.sc_core.specs.declared.value.Value.{Value}
use Rattle.sc_tac.specs.Prelude.{Temps, with_temp}
use Rattle.sc_opt.specs.Pass.{is_once, joined}
use Rattle.sc_opt.specs.declared.facts.Assigned.{Assigned}
use Rattle.sc_opt.specs.declared.facts.Assigned.TheVariants.{ByConstant, ByCopy, ByOperator, Nowhere, Otherwise}
use Rattle.sc_opt.specs.declared.facts.Assigned.TheVariants.{Several}

-- what part of the code says agrees with what all of it says
abbrev pub AtMost : Assigned → Assigned → Type 0
AtMost x z = (x ≡ Nowhere) ⊎ (x ≡ z) ⊎ (z ≡ Several)

is_often : (z : Assigned) → AtMost Several z → z ≡ Several
is_often z (inl h) = absurd (cc h)
is_often z (inr (inl h)) = sym h
is_often z (inr (inr h)) = h

below_often : (x z : Assigned) → AtMost Several z → AtMost x z
below_often x z h = inr (inr (is_often z h))

pub below_first : (x y z : Assigned) → AtMost (joined x y) z → AtMost x z
below_first Nowhere y z h = inl refl
below_first (ByConstant c) Nowhere z h = h
below_first (ByCopy u) Nowhere z h = h
below_first (ByOperator o left right) Nowhere z h = h
below_first Otherwise Nowhere z h = h
below_first x y z h = below_often x z h

pub below_rest : (x y z : Assigned) → AtMost (joined x y) z → AtMost y z
below_rest Nowhere y z h = h
below_rest (ByConstant c) Nowhere z h = inl refl
below_rest (ByCopy u) Nowhere z h = inl refl
below_rest (ByOperator o left right) Nowhere z h = inl refl
below_rest Otherwise Nowhere z h = inl refl
below_rest x y z h = below_often y z h

pub never_both : (x y : Assigned) → joined x y ≡ Nowhere → (x ≡ Nowhere) × (y ≡ Nowhere)
never_both Nowhere y h = (refl, h)
never_both (ByConstant c) Nowhere h = absurd (cc h)
never_both (ByCopy u) Nowhere h = absurd (cc h)
never_both (ByOperator o left right) Nowhere h = absurd (cc h)
never_both Otherwise Nowhere h = absurd (cc h)
never_both x y h = absurd (cc h)

once_only : {B : Type 0} (z : Assigned) → is_once z ≡ true → z ≡ Several → B
once_only z once is = let no : false ≡ true = sym (ap is_once is) ∙ once in absurd (cc no)

-- what is assigned in one place is assigned in one of two parts alone
pub one_part : (x y z : Assigned) → is_once z ≡ true → AtMost (joined x y) z → (x ≡ Nowhere) ⊎ (y ≡ Nowhere)
one_part Nowhere y z once h = inl refl
one_part (ByConstant c) Nowhere z once h = inr refl
one_part (ByCopy u) Nowhere z once h = inr refl
one_part (ByOperator o left right) Nowhere z once h = inr refl
one_part Otherwise Nowhere z once h = inr refl
one_part x y z once h = once_only z once (is_often z h)

-- TABLES
pub decide : {B : Type 0} (x d : ℕ) → (x ≡ d → B) → ((x == d) ≡ false → B) → B
decide {B} x d same other = by (x == d) refl where
  by : (b : Bool) → (x == d) ≡ b → B
  by true h = same (eqb-true x d h)
  by false h = other h

pub not_same : {B : Type 0} (x d : ℕ) → (x == d) ≡ false → x ≡ d → B
not_same x d h is = let no : true ≡ false = sym (eq-eqb x d is) ∙ h in absurd (cc no)

pub other_way : (x d : ℕ) → (x == d) ≡ false → (d == x) ≡ false
other_way x d h = decide d x (λ is. not_same x d h (sym is)) (λ n. n)

pub with_same : (d : ℕ) (v : Value) (temps : Temps) → with_temp d v temps d ≡ Some v
with_same d v temps = ap (λ b. if b then Some v else temps d) (eq-eqb d d refl)

pub with_here : (d : ℕ) (v : Value) (temps : Temps) (x : ℕ) → x ≡ d → with_temp d v temps x ≡ Some v
with_here d v temps x is = ap (with_temp d v temps) is ∙ with_same d v temps

pub with_other : (d : ℕ) (v : Value) (temps : Temps) (x : ℕ) → (x == d) ≡ false → with_temp d v temps x ≡ temps x
with_other d v temps x h = ap (λ b. if b then Some v else temps x) h

-- what is live following a statement is live before it, unless the statement assigns it
pub live_before : (t d : ℕ) (reads following : Bool) → (t == d) ≡ false → following ≡ true →
    (reads || (not ((d == t) || false) && following)) ≡ true
live_before t d true following n h = refl
live_before t d false following n h =
    and_from (not ((d == t) || false)) following (ap (λ b. not (b || false)) (other_way t d n)) h

pub live_behind : (reads following : Bool) → following ≡ true → (reads || (true && following)) ≡ true
live_behind true following h = refl
live_behind false following h = h
