-- What is known where control stands in the code and in what the pass gives of it.
use Rattle.std.proofs.Common.{Bool, None, Option, Some, ap, false, inl, inr, refl, subst, sym, true, ℕ, ◌==◌}
use Rattle.std.proofs.Common.{◌∙◌, ◌≡◌, ◌⊎◌}
use Rattle.sc_core.specs.Prelude.{is_word}
use Rattle.sc_core.specs.declared.value.Value.{Value}
use Rattle.sc_tac.specs.Prelude.{TempSet, Temps, constant_value, no_temps, with_temp}
use Rattle.sc_tac.specs.declared.stmt.Constant.{Constant}
use Rattle.sc_tac.specs.declared.stmt.TacOp.{TacOp}
use Rattle.sc_opt.specs.Pass.{folded, is_once}
use Rattle.sc_opt.proofs.Joined.{decide, not_same, with_here, with_other}
use Rattle.sc_opt.specs.declared.facts.Assigned.{Assigned}
use Rattle.sc_opt.specs.declared.facts.Assigned.TheVariants.{ByConstant, ByCopy, ByOperator}

module _ (table : ℕ → Assigned) (source : ℕ → ℕ) (used holds_word : ℕ → Bool) where
  -- a temporary that is read where its copy comes from
  pub record Moved (t : ℕ) : Type 0 where
    pub from : ℕ
    pub copies : table t ≡ ByCopy from
    pub same : source t ≡ source from
    pub once : is_once (table (source t)) ≡ true

  abbrev pub AreSources : Type 0
  AreSources = (t : ℕ) → (source t ≡ t) ⊎ Moved t

-- a temporary that is assigned by an operator on some that hold constants
module _ (table : ℕ → Assigned) (constants : ℕ → Option Constant) (source : ℕ → ℕ) (used holds_word : ℕ → Bool) where
  pub record Computed (t : ℕ) (c : Constant) : Type 0 where
    pub op : TacOp
    pub left : ℕ
    pub right : Option ℕ
    pub assigned : table t ≡ ByOperator op left right
    pub gives : folded constants op left right ≡ Some c

  abbrev pub AreConstants : Type 0
  AreConstants = (t : ℕ) (c : Constant) → constants t ≡ Some c → (table t ≡ ByConstant c) ⊎ Computed t c

  -- what is live holds the value that it was assigned since the part of the loop began
  pub record Held (a g : Option Value) : Type 0 where
    pub value : Value
    pub real : a ≡ Some value
    pub ghost : g ≡ Some value

  -- `a` are the temporaries of the code, `b` those of what the pass gives of it, and `g` those of the code that were
  -- assigned since the innermost part of a loop began
  pub record TempsAgree (live : TempSet) (g a b : Temps) : Type 0 where
    pub held : (t : ℕ) → live t ≡ true → Held (a t) (g t)
    pub kept : (t : ℕ) (v : Value) → g t ≡ Some v → used (source t) ≡ true → b (source t) ≡ Some v
    pub sourced : (t : ℕ) (v : Value) → g t ≡ Some v → g (source t) ≡ Some v
    pub constant : (t : ℕ) (c : Constant) (v : Value) → constants t ≡ Some c → g t ≡ Some v → v ≡ constant_value c
    pub words : (t : ℕ) (v : Value) → holds_word t ≡ true → g t ≡ Some v → is_word v ≡ true

  -- a temporary gets a value, and what the pass gives has it where it is read
  pub record Gains (g b b' : Temps) (d : ℕ) (v : Value) : Type 0 where
    pub first : is_once (table d) ≡ true → g d ≡ None
    pub from : (source d ≡ d) ⊎ (g (source d) ≡ Some v)
    pub there : used (source d) ≡ true → b' (source d) ≡ Some v
    pub others : (x : ℕ) → (x == d) ≡ false → b' x ≡ b x
    pub constant : (c : Constant) → constants d ≡ Some c → v ≡ constant_value c
    pub word : holds_word d ≡ true → is_word v ≡ true

  pub less : (live fewer : TempSet) (g a b : Temps) → ((t : ℕ) → fewer t ≡ true → live t ≡ true) →
      TempsAgree live g a b →
      TempsAgree fewer g a b
  less live fewer g a b h p = record {
    held = λ t on. p.held t (h t on);
    kept = p.kept;
    sourced = p.sourced;
    constant = p.constant;
    words = p.words;
  }

  nothing_there : {B : Type 0} (t : ℕ) (v : Value) → no_temps t ≡ Some v → B
  nothing_there t v e = absurd (cc e)

  -- where a part of a loop begins, nothing is known and nothing live
  pub begun : (live : TempSet) (a b : Temps) → ((t : ℕ) → live t ≡ true → ⊥) → TempsAgree live no_temps a b
  begun live a b none = record {
    held = λ t on. absurd (none t on);
    kept = λ t v e u. nothing_there t v e;
    sourced = λ t v e. nothing_there t v e;
    constant = λ t c v k e. nothing_there t v e;
    words = λ t v w e. nothing_there t v e;
  }

  value_is : (d t : ℕ) (v w : Value) (g : Temps) → t ≡ d → with_temp d v g t ≡ Some w → v ≡ w
  value_is d t v w g is e = let same : ◌≡◌ {A = Option Value} (Some v) (Some w) =
      sym (with_here d v g t is) ∙ e in cc same

  module _ (are_sources : AreSources table source used holds_word) (live following : TempSet) (g a b b' : Temps)
      (d : ℕ) (v : Value) (p : TempsAgree live g a b) (gains : Gains g b b' d v) where
    -- nothing else is read where this is assigned
    not_source : {B : Type 0} (t : ℕ) (w : Value) → (t == d) ≡ false → g t ≡ Some w → source t ≡ d → B
    not_source {B} t w n e is = by (are_sources t) where
      by : ((source t ≡ t) ⊎ Moved table source used holds_word t) → B
      by (inl same) = not_same t d n (sym same ∙ is)
      by (inr moved) = let none : ◌≡◌ {A = Option Value} None (Some w) =
          sym (gains.first (subst (λ x. is_once (table x) ≡ true) is moved.once)) ∙ (ap g (sym is) ∙ p.sourced t w e) in
          absurd (cc none)

    gained_source : (t : ℕ) (w : Value) → with_temp d v g t ≡ Some w → with_temp d v g (source t) ≡ Some w
    gained_source t w e = decide t d (λ is. here is (gains.from)) (λ n.
        let before : g t ≡ Some w = sym (with_other d v g t n) ∙ e in
        decide (source t) d (λ is. not_source t w n before is)
        (λ m. with_other d v g (source t) m ∙ p.sourced t w before)) where
          here : t ≡ d → ((source d ≡ d) ⊎ (g (source d) ≡ Some v)) → with_temp d v g (source t) ≡ Some w
          here is (inl same) = with_here d v g (source t) (ap source is ∙ same) ∙ ap Some (value_is d t v w g is e)
          here is (inr h) = decide (source t) d (λ same. with_here d v g (source t) same ∙ ap Some
              (value_is d t v w g is e))
              (λ m. with_other d v g (source t) m ∙ (ap (λ x. g (source x)) is ∙ h) ∙ ap Some (value_is d t v w g is e))

    pub gained : ((t : ℕ) → following t ≡ true → (t == d) ≡ false → live t ≡ true) →
        TempsAgree following (with_temp d v g) (with_temp d v a) b'
    gained on = record {
      held = λ t is_on. decide t d
          (λ is. record { value = v; real = with_here d v a t is; ghost = with_here d v g t is })
          (λ n. let h = p.held t (on t is_on n) in record {
            value = h.value;
            real = with_other d v a t n ∙ h.real;
            ghost = with_other d v g t n ∙ h.ghost;
          });
      kept = λ t w e u. decide t d
          (λ is. ap (λ x. b' (source x)) is ∙ gains.there (sym (ap (λ x. used (source x)) is) ∙ u)
          ∙ ap Some (value_is d t v w g is e))
          (λ n. let before : g t ≡ Some w = sym (with_other d v g t n) ∙ e in
          decide (source t) d (λ is. not_source t w n before is) (λ m. gains.others (source t) m ∙
          p.kept t w before u));
      sourced = gained_source;
      constant = λ t c w k e. decide t d
          (λ is. sym (value_is d t v w g is e) ∙ gains.constant c (sym (ap constants is) ∙ k))
          (λ n. p.constant t c w k (sym (with_other d v g t n) ∙ e));
      words = λ t w k e. decide t d
          (λ is. ap is_word (sym (value_is d t v w g is e)) ∙ gains.word (sym (ap holds_word is) ∙ k))
          (λ n. p.words t w k (sym (with_other d v g t n) ∙ e));
    }

  -- what is read
  pub record Reads (g a b : Temps) (t : ℕ) : Type 0 where
    pub value : Value
    pub here : a t ≡ Some value
    pub ghost : g t ≡ Some value
    pub there : b (source t) ≡ Some value

  pub reads_of : (live : TempSet) (g a b : Temps) (t : ℕ) → TempsAgree live g a b → live t ≡ true → used
      (source t) ≡ true →
      Reads g a b t
  reads_of live g a b t p on u = let h = p.held t on in
      record { value = h.value; here = h.real; ghost = h.ghost; there = p.kept t h.value h.ghost u }
