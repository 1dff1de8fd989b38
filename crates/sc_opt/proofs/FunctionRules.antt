-- A function keeps the rules of functions where its code is passed once.
use Rattle.std.proofs.Common.{Bool, List, Option, Some, arith, false, inl, inr, ltb-false}
use Rattle.std.proofs.Common.{ltb-true}
use Rattle.std.proofs.Common.{eqb-true, nat_lt, refl, subst, suc, sym, true, zero, ℕ, ◌*◌, ◌+◌, ◌<◌}
use Rattle.std.proofs.Common.{◌==◌, ◌≡◌}
use Rattle.std.proofs.Common.{◌≤◌, length}
use Rattle.std.proofs.lemmas.Bool.{and_from}
use Rattle.sc_base.proofs.Bools.{and_first, and_rest}
use Rattle.sc_tac.specs.Flow.{is_assigned_first}
use Rattle.sc_tac.specs.Prelude.{IsFunction, all_assigned_first, everywhere, is_machine_word, names_own_temps, weight}
use Rattle.sc_core.specs.Prelude.{instrs_a_node}
use Rattle.sc_tac.specs.Prelude.{entry_weight, has_words}
use Rattle.sc_tac.specs.declared.function.TacFnTree.{TacFnTree}
use Rattle.sc_tac.specs.declared.stmt.Constant.{Constant}
use Rattle.sc_tac.specs.declared.stmt.TacStmt.{TacStmt, TacStmt-F}
use Rattle.sc_opt.specs.Optimised.{changed_function}
use Rattle.sc_opt.specs.Pass.{always_word, copy_source, is_read, known_constant, one_pass, table_of}
use Rattle.sc_opt.specs.declared.facts.Assigned.{Assigned}
use Rattle.sc_opt.proofs.AssignedFirst.{stays_assigned}
use Rattle.sc_opt.proofs.Bounds.{first_nowhere}
use Rattle.sc_opt.proofs.Joined.{not_same}
use Rattle.sc_opt.proofs.Falling.{no_heavier}
use Rattle.sc_opt.proofs.Found.{Found, found_in}
use Rattle.sc_opt.proofs.Inside.{sources_inside}
use Rattle.sc_opt.proofs.Instances.{arguments_stay, elements_stay, objects_stay, operands_stay, results_stay}
use Rattle.sc_opt.proofs.Instances.{temps_stay}
use Rattle.sc_opt.proofs.Instances.{unused_stay, words_stay}
use Rattle.sc_opt.proofs.Rules.{Stays, passed_keeps}
use Rattle.sc_opt.proofs.Copies.{all_sourced}
use Rattle.sc_opt.proofs.Strays.{no_stray_break, no_stray_continue}
use Rattle.sc_opt.proofs.Unread.{unread_first}
use Rattle.sc_opt.proofs.UsedReads.{all_uses}
use Rattle.sc_opt.proofs.Words.{known_words}

-- ASSIGNED FIRST
one_of_all : (n : ℕ) (body : List TacStmt) → all_assigned_first n body ≡ true → (t : ℕ) → t < n →
    is_assigned_first t body ≡ true
one_of_all zero body h t less = absurd (none t less) where
  none : (t : ℕ) → t < 0 → ⊥
  none t less = omega (arith, less)
one_of_all (suc n) body h t less =
    by (t == n) refl (one_of_all n body (and_rest (is_assigned_first n body) _ h) t) where
      strict : (t ≡ n → ⊥) → t < n
      strict other = omega (arith, less, other)

      by : (b : Bool) → (t == n) ≡ b → (t < n → is_assigned_first t body ≡ true) → is_assigned_first t body ≡ true
      by true is rest = subst (λ u. is_assigned_first u body ≡ true) (sym (eqb-true t n is))
          (and_first (is_assigned_first n body) _ h)
      by false is rest = rest (strict (not_same t n is))

-- each temporary, where those of the function are, and its code names no other
pub each_first : (temps : ℕ) (body : List TacStmt) → everywhere (names_own_temps temps) body ≡ true →
    all_assigned_first temps body ≡ true → (t : ℕ) → is_assigned_first t body ≡ true
each_first temps body own all t = by (nat_lt t temps) refl where
  by : (b : Bool) → nat_lt t temps ≡ b → is_assigned_first t body ≡ true
  by true is = one_of_all temps body all t (ltb-true t temps is)
  by false is = first_nowhere temps t (ltb-false t temps is) body own

from_each : (n : ℕ) (body : List TacStmt) → ((t : ℕ) → is_assigned_first t body ≡ true) →
    all_assigned_first n body ≡ true
from_each zero body h = refl
from_each (suc n) body h = and_from (is_assigned_first n body) _ (h n) (from_each n body h)

-- ONE PASS
module _ (body : List TacStmt) where
  abbrev table : ℕ → Assigned
  table = table_of body

  abbrev constants : ℕ → Option Constant
  constants = known_constant table

  abbrev source : ℕ → ℕ
  source = copy_source table

  abbrev used : ℕ → Bool
  used = is_read constants source body

  abbrev holds_word : ℕ → Bool
  holds_word = always_word body

  -- a test that what the pass makes of each statement passes
  pub pass_keeps : (test : TacStmt-F Bool → Bool) → Stays constants source used holds_word test test →
      everywhere test body ≡ true → everywhere test (one_pass body) ≡ true
  pass_keeps test stays h = passed_keeps constants source used holds_word test test stays body h

  first_after : ((t : ℕ) → is_assigned_first t body ≡ true) → (x : ℕ) → is_assigned_first x (one_pass body) ≡ true
  first_after h x = by (used x) refl where
    by : (b : Bool) → used x ≡ b → is_assigned_first x (one_pass body) ≡ true
    by true is = stays_assigned table constants source used holds_word (all_sourced table used holds_word) x is body
        (λ t. inr (inl refl)) h
    by false is = unread_first x (one_pass body) (passed_keeps constants source used holds_word _ _
        (unused_stay constants source used holds_word x is) body
        (all_uses constants source used holds_word body (λ x r. r)))

  machine_words : everywhere has_words body ≡ true → (t : ℕ) (c : Constant) → constants t ≡ Some c →
      is_machine_word c ≡ true
  machine_words h = known_words table (λ t c is. subst (Found has_words t) is (found_in has_words t body h))

pub pass_keeps_rules : (f : TacFnTree) → IsFunction f → IsFunction (changed_function one_pass f)
pass_keeps_rules f rules =
    let own = sources_inside f.temps f.body (used f.body) (holds_word f.body) rules.own_temps in
    record {
      few_params = rules.few_params;
      few_nodes = rules.few_nodes;
      few_temps = rules.few_temps;
      light = lighter (weight f.body) (weight (one_pass f.body))
          (no_heavier (constants f.body) (source f.body) (used f.body) (holds_word f.body) f.body) rules.light;
      params_stored = rules.params_stored;
      words_enter = rules.words_enter;
      own_temps = pass_keeps f.body _ (temps_stay _ _ _ _ f.temps own) rules.own_temps;
      own_objects = pass_keeps f.body _ (objects_stay _ _ _ _ (length f.objects)) rules.own_objects;
      words = pass_keeps f.body _ (words_stay _ _ _ _ (machine_words f.body rules.words)) rules.words;
      elements = pass_keeps f.body _ (elements_stay _ _ _ _) rules.elements;
      operands = pass_keeps f.body _ (operands_stay _ _ _ _) rules.operands;
      few_arguments = pass_keeps f.body _ (arguments_stay _ _ _ _) rules.few_arguments;
      results_returned = pass_keeps f.body _ (results_stay _ _ _ _ f.result) rules.results_returned;
      breaks_in_loops = no_stray_break (constants f.body) (source f.body) (used f.body) (holds_word f.body) f.body
          rules.breaks_in_loops;
      continues_in_bodies = no_stray_continue (constants f.body) (source f.body) (used f.body) (holds_word f.body)
          f.body
          rules.continues_in_bodies;
      assigned_first = from_each f.temps (one_pass f.body)
          (first_after f.body (each_first f.temps f.body rules.own_temps rules.assigned_first));
    } where
      lighter : (before after : ℕ) → after ≤ before → entry_weight f.params + before < instrs_a_node * f.nodes →
          entry_weight f.params + after < instrs_a_node * f.nodes
      lighter before after h k = omega (arith, h, k)
