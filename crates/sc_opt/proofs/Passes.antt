-- Passes in a row keep what one pass keeps, and leave code that is lean.
use Rattle.std.proofs.Common.{Bool, List, Option, ap, arith, eq-eqb, eqb-true, false, if◌then◌else◌}
use Rattle.std.proofs.Common.{is_some}
use Rattle.std.proofs.Common.{refl, subst, suc, sym, true, zero, ℕ, ◌==◌, ◌∙◌, ◌≡◌, ◌≤◌}
use Rattle.sc_core.specs.Prelude.{Arith, Calls, Here, Piece, Reached, State}
use Rattle.sc_core.specs.declared.expr.CallTarget.{CallTarget}
use Rattle.sc_core.specs.declared.value.Value.{Value}
use Rattle.sc_core_laws.specs.Prelude.{CallsAgree, PiecesAgree}
use Rattle.sc_tac.specs.Prelude.{IsFunction, branches, code_function, everywhere, weight}
use Rattle.sc_tac.specs.declared.function.TacFnTree.{TacFnTree}
use Rattle.sc_tac.specs.declared.stmt.TacStmt.{TacStmt, TacStmt-F}
use Rattle.sc_opt.specs.Optimised.{changed_function, optimised, optimised_within, statements}
use Rattle.sc_opt.specs.Pass.{always_word, copy_source, is_read, known_constant, lean, one_pass, table_of}
use Rattle.sc_opt.specs.Pass.{takes_promised}
use Rattle.sc_opt.proofs.Bounds.{assigned_nowhere}
use Rattle.sc_opt.proofs.Counting.{no_more_branches, no_more_statements}
use Rattle.sc_opt.proofs.Joined.{not_same}
use Rattle.sc_opt.proofs.Falling.{no_heavier}
use Rattle.sc_opt.proofs.Fixpoint.{is_lean_then}
use Rattle.sc_opt.proofs.Function.{function_kept}
use Rattle.sc_opt.proofs.FunctionRules.{each_first, pass_keeps, pass_keeps_rules}
use Rattle.sc_opt.proofs.Instances.{cross_calls_stay, globals_stay, imports_stay, own_calls_stay, promises_stay}
use Rattle.sc_opt.proofs.ProgramRules.{KeepsStatements}
use Rattle.sc_opt.proofs.Unchanged.{nothing_changed}
use Rattle.sc_opt.proofs.Values.{Fits}

abbrev kept_weight : List TacStmt → Bool
kept_weight body = weight (one_pass body) == weight body

-- a test that a pass keeps
pub tests_kept : (test : TacStmt-F Bool → Bool) → ((body : List TacStmt) → everywhere test body ≡ true →
    everywhere test (one_pass body) ≡ true) → (n : ℕ) (body : List TacStmt) → everywhere test body ≡ true →
    everywhere test (optimised_within n body) ≡ true
tests_kept test keep zero body h = keep body h
tests_kept test keep (suc n) body h =
    by (kept_weight body) (tests_kept test keep n (one_pass body) (keep body h)) where
      by : (b : Bool) → everywhere test (optimised_within n (one_pass body)) ≡ true →
          everywhere test (if b then one_pass body else optimised_within n (one_pass body)) ≡ true
      by true more = keep body h
      by false more = more

pub keeps_statements : KeepsStatements optimised
keeps_statements = record {
  globals = λ i comp section body. tests_kept _
      (λ body. pass_keeps body _ (globals_stay _ _ _ _ i comp section)) (weight body) body;
  own_calls = λ i comp section body. tests_kept _
      (λ body. pass_keeps body _ (own_calls_stay _ _ _ _ i comp section)) (weight body) body;
  cross_calls = λ i comp section body. tests_kept _
      (λ body. pass_keeps body _ (cross_calls_stay _ _ _ _ i comp section)) (weight body) body;
  imported = λ i comp section body. tests_kept _
      (λ body. pass_keeps body _ (imports_stay _ _ _ _ i comp section)) (weight body) body;
}

rules_within : (n : ℕ) (f : TacFnTree) → IsFunction f → IsFunction (changed_function (optimised_within n) f)
rules_within zero f rules = pass_keeps_rules f rules
rules_within (suc n) f rules =
    by (kept_weight f.body) (rules_within n (changed_function one_pass f) (pass_keeps_rules f rules)) where
      by : (b : Bool) → IsFunction (changed_function (optimised_within n) (changed_function one_pass f)) →
          IsFunction (record f { body = if b then one_pass f.body else optimised_within n (one_pass f.body) })
      by true more = pass_keeps_rules f rules
      by false more = more

pub optimised_keeps_rules : (f : TacFnTree) → IsFunction f → IsFunction (changed_function optimised f)
optimised_keeps_rules f rules = rules_within (weight f.body) f rules

-- COUNTS
at_most : (a b c : ℕ) → a ≤ b → b ≤ c → a ≤ c
at_most a b c h k = omega (arith, h, k)

-- a count that no pass makes greater
counted : (number : List TacStmt → ℕ) → ((body : List TacStmt) → number (one_pass body) ≤ number body) → (n : ℕ)
    (body : List TacStmt) → number (optimised_within n body) ≤ number body
counted number falls zero body = falls body
counted number falls (suc n) body = by (kept_weight body) (counted number falls n (one_pass body)) where
  by : (b : Bool) → number (optimised_within n (one_pass body)) ≤ number (one_pass body) →
      number (if b then one_pass body else optimised_within n (one_pass body)) ≤ number body
  by true more = falls body
  by false more = at_most (number (optimised_within n (one_pass body))) (number (one_pass body)) (number body) more
      (falls body)

pub fewer_statements : (body : List TacStmt) → statements (optimised body) ≤ statements body
fewer_statements body = counted statements (λ body. no_more_statements (known_constant (table_of body))
    (copy_source (table_of body))
    (is_read (known_constant (table_of body)) (copy_source (table_of body)) body) (always_word body) body)
    (weight body) body

pub fewer_branches : (body : List TacStmt) → branches (optimised body) ≤ branches body
fewer_branches body = counted branches (λ body. no_more_branches (known_constant (table_of body))
    (copy_source (table_of body))
    (is_read (known_constant (table_of body)) (copy_source (table_of body)) body) (always_word body) body)
    (weight body) body

-- LEAN
pub no_heavier_pass : (body : List TacStmt) → weight (one_pass body) ≤ weight body
no_heavier_pass body = no_heavier (known_constant (table_of body)) (copy_source (table_of body))
    (is_read (known_constant (table_of body)) (copy_source (table_of body)) body) (always_word body) body

lean_after : (f : TacFnTree) → IsFunction f → weight (one_pass f.body) ≡ weight f.body → lean (one_pass f.body) ≡ true
lean_after f rules same = subst (λ body. lean body ≡ true) (sym (nothing_changed f.body same))
    (is_lean_then f.body f.temps (λ t out. assigned_nowhere f.temps t out f.body rules.own_temps) same)

lean_within : (n : ℕ) (f : TacFnTree) → IsFunction f → weight f.body ≤ n → lean (optimised_within n f.body) ≡ true
lean_within zero f rules few = lean_after f rules (both_none (no_heavier_pass f.body)) where
  both_none : weight (one_pass f.body) ≤ weight f.body → weight (one_pass f.body) ≡ weight f.body
  both_none h = omega (arith, h, few)
lean_within (suc n) f rules few = by (kept_weight f.body) refl
    (lean_within n (changed_function one_pass f) (pass_keeps_rules f rules)) where
      falls : weight (one_pass f.body) ≤ weight f.body → (weight (one_pass f.body) ≡ weight f.body → ⊥) →
          weight (one_pass f.body) ≤ n
      falls h other = omega (arith, h, other, few)

      by : (b : Bool) → kept_weight f.body ≡ b →
          (weight (one_pass f.body) ≤ n → lean (optimised_within n (one_pass f.body)) ≡ true) →
          lean (if b then one_pass f.body else optimised_within n (one_pass f.body)) ≡ true
      by true is more = lean_after f rules (eqb-true (weight (one_pass f.body)) (weight f.body) is)
      by false is more = more (falls (no_heavier_pass f.body) (not_same (weight (one_pass f.body)) (weight f.body) is))

pub optimised_is_lean : (f : TacFnTree) → IsFunction f → lean (optimised f.body) ≡ true
optimised_is_lean f rules = lean_within (weight f.body) f rules (itself (weight f.body)) where
  itself : (w : ℕ) → w ≤ w
  itself w = omega arith

-- MORE PASSES THAN NEEDED
-- enough passes are as good as any other number that is
same_within : (m n : ℕ) (body : List TacStmt) → weight body ≤ m → weight body ≤ n →
    optimised_within m body ≡ optimised_within n body
same_within zero zero body few less = refl
same_within zero (suc n) body few less = sym (ap (λ b. if b then one_pass body else optimised_within n (one_pass body))
    (eq-eqb (weight (one_pass body)) (weight body) (both_none (no_heavier_pass body)))) where
      both_none : weight (one_pass body) ≤ weight body → weight (one_pass body) ≡ weight body
      both_none h = omega (arith, h, few)
same_within (suc m) zero body few less = ap (λ b. if b then one_pass body else optimised_within m (one_pass body))
    (eq-eqb (weight (one_pass body)) (weight body) (both_none (no_heavier_pass body))) where
      both_none : weight (one_pass body) ≤ weight body → weight (one_pass body) ≡ weight body
      both_none h = omega (arith, h, less)
same_within (suc m) (suc n) body few less = by (kept_weight body) refl (same_within m n (one_pass body)) where
  first : weight (one_pass body) ≤ weight body → (weight (one_pass body) ≡ weight body → ⊥) →
      weight (one_pass body) ≤ m
  first h other = omega (arith, h, other, few)

  second : weight (one_pass body) ≤ weight body → (weight (one_pass body) ≡ weight body → ⊥) →
      weight (one_pass body) ≤ n
  second h other = omega (arith, h, other, less)

  by : (b : Bool) → kept_weight body ≡ b → (weight (one_pass body) ≤ m → weight (one_pass body) ≤ n →
      optimised_within m (one_pass body) ≡ optimised_within n (one_pass body)) →
      (if b then one_pass body else optimised_within m (one_pass body))
      ≡ (if b then one_pass body else optimised_within n (one_pass body))
  by true is more = refl
  by false is more = more
      (first (no_heavier_pass body) (not_same (weight (one_pass body)) (weight body) is))
      (second (no_heavier_pass body) (not_same (weight (one_pass body)) (weight body) is))

-- one pass, and more where it took weight away
pub pass_by_pass : (body : List TacStmt) →
    optimised body ≡ (if weight (one_pass body) == weight body then one_pass body else optimised (one_pass body))
pass_by_pass body = by (weight body) refl (kept_weight body) refl where
  nothing : weight body ≡ 0 → weight (one_pass body) ≤ weight body → weight (one_pass body) ≡ weight body
  nothing none h = omega (arith, h, none)

  fewer : (m : ℕ) → weight body ≡ suc m → weight (one_pass body) ≤ weight body →
      (weight (one_pass body) ≡ weight body → ⊥) → weight (one_pass body) ≤ m
  fewer m is h other = omega (arith, h, other, is)

  itself : (w : ℕ) → w ≤ w
  itself w = omega arith

  by : (w : ℕ) → weight body ≡ w → (b : Bool) → kept_weight body ≡ b →
      optimised_within w body ≡ (if b then one_pass body else optimised (one_pass body))
  by zero none true is = refl
  by zero none false is =
      absurd (not_same {B = ⊥} (weight (one_pass body)) (weight body) is (nothing none (no_heavier_pass body)))
  by (suc m) some true is = ap (λ b. if b then one_pass body else optimised_within m (one_pass body)) is
  by (suc m) some false is = ap (λ b. if b then one_pass body else optimised_within m (one_pass body)) is
      ∙ same_within m (weight (one_pass body)) (one_pass body)
      (fewer m some (no_heavier_pass body) (not_same (weight (one_pass body)) (weight body) is))
      (itself (weight (one_pass body)))

-- THE MEANING
along : {V : Type 0} (o p q : Piece V) → PiecesAgree o p → PiecesAgree p q → PiecesAgree o q
along o p q h k = record { same = h.same ∙ k.same }

all_same : (C : Calls) → CallsAgree C C
all_same C from target args s = record { same = refl }

module _ (arith : Arith) (fits : Fits arith) (gives : CallTarget → Bool) (here : Here) where
  -- calls give what they promise
  abbrev Giving : Calls → Type 0
  Giving C = (target : CallTarget) → gives target ≡ true → (args : List Value) (s t : State) (v : Option Value) →
      C here.comp target args s ≡ Reached v t → is_some v ≡ true

  abbrev AlikeTo : (f g : TacFnTree) → Type 0
  AlikeTo f g = (C D : Calls) → CallsAgree C D → Giving C → (s : State) →
      PiecesAgree ((code_function arith f).does C here s) ((code_function arith g).does D here s)

  once : (f : TacFnTree) → IsFunction f → everywhere (takes_promised gives) f.body ≡ true →
      AlikeTo f (changed_function one_pass f)
  once f rules takes C D agree giving s = function_kept arith fits f gives
      (each_first f.temps f.body rules.own_temps rules.assigned_first) takes here C D agree giving s

  alike_within : (n : ℕ) (f : TacFnTree) → IsFunction f → everywhere (takes_promised gives) f.body ≡ true →
      AlikeTo f (changed_function (optimised_within n) f)
  alike_within zero f rules takes = once f rules takes
  alike_within (suc n) f rules takes = by (kept_weight f.body)
      (alike_within n (changed_function one_pass f) (pass_keeps_rules f rules)
      (pass_keeps f.body _ (promises_stay _ _ _ _ gives) takes)) where
        by : (b : Bool) →
            AlikeTo (changed_function one_pass f) (changed_function (optimised_within n)
            (changed_function one_pass f)) →
            AlikeTo f (record f { body = if b then one_pass f.body else optimised_within n (one_pass f.body) })
        by true more C D agree giving s = once f rules takes C D agree giving s
        by false more C D agree giving s =
            along _ ((code_function arith (changed_function one_pass f)).does C here s) _
            (once f rules takes C C (all_same C) giving s)
            (more C D agree giving s)

  pub optimised_alike : (f : TacFnTree) → IsFunction f → everywhere (takes_promised gives) f.body ≡ true →
      AlikeTo f (changed_function optimised f)
  optimised_alike f rules takes = alike_within (weight f.body) f rules takes
