-- Code that the pass leaves as it is, is lean.
use Rattle.std.proofs.Common.{Bool, List, Option, ap, arith, eq-eqb, false, if◌then◌else◌}
use Rattle.std.proofs.Common.{inl}
use Rattle.std.proofs.Common.{inr, ltb-false, ltb-true, nat_lt, not, refl, subst, suc, sym, true, zero, ℕ}
use Rattle.std.proofs.Common.{◌+◌, ◌<◌, ◌==◌, ◌∙◌}
use Rattle.std.proofs.Common.{◌≡◌, ◌≤◌, ◌⊎◌}
use Rattle.sc_base.proofs.Bools.{and_first}
use Rattle.sc_tac.specs.Prelude.{everywhere}
use Rattle.sc_tac.specs.declared.stmt.Constant.{Constant}
use Rattle.sc_tac.specs.declared.stmt.TacStmt.{TacStmt}
use Rattle.sc_opt.specs.Pass.{copies_one, assigned_in}
use Rattle.sc_opt.specs.Pass.{is_kept, is_once, source_by, copy_source, copy_sources}
use Rattle.sc_opt.proofs.Joined.{not_same}
use Rattle.sc_opt.proofs.Found.{Found, found_in}
use Rattle.sc_opt.proofs.Agreement.{AreSources, Moved}
use Rattle.sc_opt.specs.declared.facts.Assigned.{Assigned}
use Rattle.sc_opt.specs.declared.facts.Assigned.TheVariants.{ByConstant, ByCopy, ByOperator, Nowhere, Otherwise}
use Rattle.sc_opt.specs.declared.facts.Assigned.TheVariants.{Several}

not_true : (b : Bool) → not b ≡ true → b ≡ false
not_true true h = let no : false ≡ true = h in absurd (cc no)
not_true false h = refl

-- a copy that is left isn't one of two with the same source
left_apart : (constants : ℕ → Option Constant) (source : ℕ → ℕ) (used holds_word : ℕ → Bool) (t u : ℕ)
    (body : List TacStmt) →
    everywhere (is_kept constants source used holds_word) body ≡ true → assigned_in t body ≡ ByCopy u →
    (source t == source u) ≡ false
left_apart constants source used holds_word t u body all is =
    let test = is_kept constants source used holds_word in
    not_true (source t == source u) (and_first (not (source t == source u)) _
    (subst (Found test t) is (found_in test t body all)))

-- NO COPY BETWEEN TWO THAT ARE ASSIGNED IN ONE PLACE EACH
module _ (table : ℕ → Assigned) (constants : ℕ → Option Constant) (used holds_word : ℕ → Bool)
    (sourced : AreSources table (copy_source table) used holds_word) (body : List TacStmt)
    (table_is : (t : ℕ) → table t ≡ assigned_in t body)
    (all : everywhere (is_kept constants (copy_source table) used holds_word) body ≡ true) where
  apart : {B : Type 0} (t u : ℕ) → table t ≡ ByCopy u → copy_source table t ≡ copy_source table u → B
  apart t u is same = not_same (copy_source table t) (copy_source table u)
      (left_apart constants (copy_source table) used holds_word t u body all (sym (table_is t) ∙ is)) same

  -- so each is read where it is
  pub at_home : (t : ℕ) → copy_source table t ≡ t
  at_home t = by (sourced t) where
    by : ((copy_source table t ≡ t) ⊎ Moved table (copy_source table) used holds_word t) → copy_source table t ≡ t
    by (inl same) = same
    by (inr m) = apart t m.from m.copies m.same

  here : (t : ℕ) → copy_source table t ≡ source_by table (copy_sources table t) t (table t)
  here t = ap (λ b. if b then source_by table (copy_sources table t) t (table t) else copy_sources table t t)
      (eq-eqb t t refl)

  module _ (bound : ℕ) (above : (t : ℕ) → bound ≤ t → table t ≡ Nowhere) (lower : (n t : ℕ) → t < n →
      copy_sources table n t ≡ copy_source table t)
    where
      -- the source of a copy is greater, and a copy itself
      record Higher (t : ℕ) : Type 0 where
        from : ℕ
        copies : table t ≡ ByCopy from
        once : is_once (table from) ≡ true
        more : t < from
        again : copies_one table (table from) ≡ true

      higher : (t : ℕ) (x : Assigned) → table t ≡ x → copies_one table x ≡ true → Higher t
      higher t Nowhere is h = absurd (cc h)
      higher t (ByConstant c) is h = absurd (cc h)
      higher t (ByCopy u) is once = by (nat_lt u t) refl where
        start : copy_source table t ≡ (if nat_lt u t then copy_sources table t u else (if copies_one table
            (table u) then t else u))
        start = here t ∙ ap (source_by table (copy_sources table t) t) is ∙ ap (λ b. if b then
            (if nat_lt u t then copy_sources table t u else (if copies_one table (table u) then t else u)) else t) once

        not_less : u < t → (u ≡ t → ⊥)
        not_less h same = omega (arith, h, same)

        upward : nat_lt u t ≡ false → (c : Bool) → copies_one table (table u) ≡ c → Higher t
        upward up false c = apart t u is (start ∙ ap (λ b. if b then copy_sources table t u else
            (if copies_one table (table u) then t else u)) up ∙ ap (λ b. if b then t else u) c ∙ sym (at_home u))
        upward up true c = record {
          from = u;
          copies = is;
          once = once;
          more = greater (ltb-false u t up) (λ same. apart t u is (ap (copy_source table) same));
          again = c;
        } where
          greater : t ≤ u → (t ≡ u → ⊥) → t < u
          greater h other = omega (arith, h, other)

        by : (b : Bool) → nat_lt u t ≡ b → Higher t
        by true down = apart t u is (start ∙ ap (λ b. if b then copy_sources table t u else
            (if copies_one table (table u) then t else u)) down ∙ lower t u (ltb-true u t down))
        by false up = upward up (copies_one table (table u)) refl
      higher t (ByOperator o left right) is h = absurd (cc h)
      higher t Otherwise is h = absurd (cc h)
      higher t Several is h = absurd (cc h)

      -- and none is
      none_from : (room t : ℕ) → bound ≤ t + room → copies_one table (table t) ≡ true → ⊥
      none_from zero t h copy = never (table t) (above t (omega (arith, h))) copy where
        never : (x : Assigned) → x ≡ Nowhere → copies_one table x ≡ true → ⊥
        never x is c = let no : false ≡ true = sym (ap (copies_one table) is) ∙ c in absurd (cc no)
      none_from (suc room) t h copy = let up = higher t (table t) refl copy in
          none_from room up.from (omega (arith, h, up.more)) up.again

      pub no_copies : (t : ℕ) → copies_one table (table t) ≡ false
      no_copies t = by (copies_one table (table t)) refl where
        by : (b : Bool) → copies_one table (table t) ≡ b → b ≡ false
        by true c = absurd (none_from bound t (omega arith) c)
        by false c = refl
