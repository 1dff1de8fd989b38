-- Functions and programs as the code builds them.
use Rattle.std.proofs.Common.{Bool, List, ap, arith, eq-eqb, eqb-true, false, if◌then◌else◌, map, refl, subst, sym}
use Rattle.std.proofs.Common.{true, ℕ}
use Rattle.std.proofs.Common.{◌+◌, ◌<◌, ◌==◌, ◌∙◌, ◌≡◌, ◌≤◌}
use Rattle.sc_event.specs.declared.interface.Interfaces.{Interfaces}
use Rattle.sc_tac.specs.Prelude.{IsFunction, IsProgram, entry_weight, weight}
use Rattle.sc_tac.specs.declared.function.TacFnTree.{TacFnTree}
use Rattle.sc_tac.specs.declared.program.TacSection.{TacSection}
use Rattle.sc_tac.specs.declared.program.TacTree.{TacTree}
use Rattle.sc_tac.specs.declared.stmt.TacStmt.{TacStmt}
use Rattle.sc_opt.specs.Optimised.{changed_function, optimised, optimised_function, optimised_program}
use Rattle.sc_opt.specs.Optimised.{optimised_section}
use Rattle.sc_opt.specs.Pass.{one_pass}
use Rattle.sc_opt.specs.Tables.{Tell, passed_by}
use Rattle.sc_opt.specs.declared.pass.Tables.{Tables}
use Rattle.sc_opt.proofs.FunctionRules.{pass_keeps_rules}
use Rattle.sc_opt.proofs.Joined.{not_same}
use Rattle.sc_opt.proofs.Passes.{keeps_statements, no_heavier_pass, pass_by_pass}
use Rattle.sc_opt.proofs.ProgramRules.{program_keeps_rules}
use Rattle.sc_opt.proofs.Telling.{passed_is}

-- ONE PASS
module _ (f tree : TacFnTree) (is : tree ≡ f) (rules : IsFunction f) (tables : Tables)
    (tell : Tell tree.temps tree.body tables) (objects : List ℕ) (body : List TacStmt)
    (same_objects : objects ≡ tree.objects) (same_body : body ≡ passed_by tables tree.body) where
  abbrev made : TacFnTree
  made = record tree { objects = objects; body = body }

  pub function_made : made ≡ changed_function one_pass f
  function_made = (λ i. record tree {
    objects = same_objects i;
    body = (same_body ∙ passed_is tree.temps tree.body
        (subst IsFunction (sym is) rules).own_temps tables tell) i;
  })
      ∙ ap (changed_function one_pass) is

  pub made_keeps_rules : IsFunction made
  made_keeps_rules = subst IsFunction (sym function_made) (pass_keeps_rules f rules)

-- PASSES IN A ROW
abbrev pub weight_of : TacFnTree → ℕ
weight_of f = entry_weight f.params + weight f.body

-- what is left to do once a function was passed: nothing, where that took no weight away
abbrev pub rest_of : (before after : ℕ) → TacFnTree → TacFnTree
rest_of before after passed = if after == before then passed else optimised_function passed

same_test : (e a b : ℕ) → ((e + a) == (e + b)) ≡ (a == b)
same_test e a b = by (a == b) refl where
  apart : e + a ≡ e + b → a ≡ b
  apart h = omega (arith, h)

  other : (b' : Bool) → ((e + a) == (e + b)) ≡ b' → (a ≡ b → ⊥) → b' ≡ false
  other true is differ = absurd (differ (apart (eqb-true (e + a) (e + b) is)))
  other false is differ = refl

  by : (b' : Bool) → (a == b) ≡ b' → ((e + a) == (e + b)) ≡ b'
  by true is = eq-eqb (e + a) (e + b) (ap (λ n. e + n) (eqb-true a b is))
  by false is = other ((e + a) == (e + b)) refl (not_same {B = ⊥} a b is)

-- the first pass
pub first_pass : (f passed : TacFnTree) (before after : ℕ) → passed ≡ changed_function one_pass f →
    before ≡ weight_of f → after ≡ weight_of passed → optimised_function f ≡ rest_of before after passed
first_pass f passed before after is old new =
    ap (λ b. record f { body = b }) (pass_by_pass f.body)
    ∙ split (weight (one_pass f.body) == weight f.body)
    ∙ ap (λ b. if b then changed_function one_pass f else optimised_function (changed_function one_pass f))
    (sym (same_test (entry_weight f.params) (weight (one_pass f.body)) (weight f.body)))
    ∙ (λ i. rest_of (sym old i) (weight_of (sym is i)) (sym is i)) ∙ (λ i. rest_of before (sym new i) passed) where
      split : (b : Bool) → ◌≡◌ {A = TacFnTree} (record f {
        body = if b then one_pass f.body else optimised
            (one_pass f.body);
      })
          (if b then changed_function one_pass f else optimised_function (changed_function one_pass f))
      split true = refl
      split false = refl

-- and each later one
pub later_pass : (f passed next : TacFnTree) (before after last : ℕ) →
    optimised_function f ≡ rest_of before after passed →
    after < before → next ≡ changed_function one_pass passed → after ≡ weight_of passed → last ≡ weight_of next →
    optimised_function f ≡ rest_of after last next
later_pass f passed next before after last made less is old new =
    made ∙ by (after == before) refl ∙ first_pass passed next after last is old new where
      apart : after ≡ before → ⊥
      apart same = omega (arith, same, less)

      by : (b : Bool) → (after == before) ≡ b → (if b then passed else optimised_function passed) ≡ optimised_function
          passed
      by true same = absurd (apart (eqb-true after before same))
      by false same = refl

pub fewer : (f passed : TacFnTree) (before after : ℕ) → passed ≡ changed_function one_pass f → before ≡ weight_of f →
    after ≡ weight_of passed → after ≤ before
fewer f passed before after is old new = at (weight (one_pass f.body)) (weight f.body) (entry_weight f.params)
    (no_heavier_pass f.body) (new ∙ ap weight_of is) old where
      at : (a b e : ℕ) → a ≤ b → after ≡ e + a → before ≡ e + b → after ≤ before
      at a b e h new old = omega (arith, h, new, old)

-- THE PROGRAM
pub program_made : (program tree : TacTree) → tree ≡ program → (interfaces : Interfaces) (sections : List TacSection) →
    interfaces ≡ tree.interfaces → sections ≡ map optimised_section tree.sections →
    ◌≡◌ {A = TacTree} (record { interfaces = interfaces; sections = sections }) (optimised_program program)
program_made program tree is interfaces sections i s =
    (λ j. record { interfaces = i j; sections = s j }) ∙ ap optimised_program is

pub made_keeps : (program tree : TacTree) → tree ≡ program → IsProgram program → (interfaces : Interfaces)
    (sections : List TacSection) → interfaces ≡ tree.interfaces → sections ≡ map optimised_section tree.sections →
    IsProgram (record { interfaces = interfaces; sections = sections })
made_keeps program tree is rules interfaces sections i s = subst IsProgram
    (sym (program_made program tree is interfaces sections i s))
    (program_keeps_rules optimised program keeps_statements rules)
