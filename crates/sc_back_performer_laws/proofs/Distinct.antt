-- Names that are distinct, and names that aren't those of a section's own variables.
use Rattle.sc_back_performer_laws.proofs.Common.{Bool, FunctionParam, List, Scalar, Text, [], among, and_first}
use Rattle.sc_back_performer_laws.proofs.Common.{and_from, and_rest, ap, are_distinct, arith, bytes_eq, codes}
use Rattle.sc_back_performer_laws.proofs.Common.{counter_name, decimal, decimal_injective, drop, false, false≢true}
use Rattle.sc_back_performer_laws.proofs.Common.{function_params, is_new, is_plain, length, map, not, or_left, or_parts}
use Rattle.sc_back_performer_laws.proofs.Common.{or_right, param_name, refl, same_text, subst, suc, sym, true, ℕ, ◌++◌}
use Rattle.sc_back_performer_laws.proofs.Common.{◌+◌, ◌<◌, ◌^◌, ◌||◌, ◌∙◌, ◌∷◌, ◌≡◌}
use Rattle.sc_types_scope.proofs.Lines.{among-append}

-- Tests that fail.

pub is_false : (b : Bool) → (b ≡ true → ⊥) → b ≡ false
is_false true h = absurd (h refl)
is_false false h = refl

pub not_both : {A : Type 0} (b : Bool) → b ≡ true → b ≡ false → A
not_both b yes_it no_it = absurd (false≢true (sym no_it ∙ yes_it))

pub not_from : (b : Bool) → b ≡ false → not b ≡ true
not_from b h = ap not h

pub not_to : (b : Bool) → not b ≡ true → b ≡ false
not_to true h = sym h
not_to false h = refl

-- Names of two lists.

pub among_prefix : (xs ys : List Text) (name : Text) → among xs name ≡ true → among (xs ++ ys) name ≡ true
among_prefix xs ys name h = among-append xs ys name ∙ or_left (among xs name) (among ys name) h

pub among_back : (xs ys : List Text) (name : Text) → among ys name ≡ true → among (xs ++ ys) name ≡ true
among_back xs ys name h = among-append xs ys name ∙ or_right (among xs name) (among ys name) h

pub not_prefix : (xs ys : List Text) (name : Text) → among (xs ++ ys) name ≡ false → among xs name ≡ false
not_prefix xs ys name h = (or_parts (among xs name) (among ys name) (sym (among-append xs ys name) ∙ h)).0

-- the first of distinct names isn't among the others
pub first_new : (name : Text) (names : List Text) → are_distinct (name ∷ names) ≡ true → among names name ≡ false
first_new name names h = not_to (among names name) (and_first (is_new names name) (are_distinct names) h)

pub rest_distinct : (name : Text) (names : List Text) → are_distinct (name ∷ names) ≡ true → are_distinct names ≡ true
rest_distinct name names h = and_rest (is_new names name) (are_distinct names) h

pub prefix_distinct : (xs ys : List Text) → are_distinct (xs ++ ys) ≡ true → are_distinct xs ≡ true
prefix_distinct [] ys h = refl
prefix_distinct (x ∷ xs) ys h =
    and_from (is_new xs x) (are_distinct xs)
    (not_from (among xs x) (not_prefix xs ys x (first_new x (xs ++ ys) h)))
    (prefix_distinct xs ys (rest_distinct x (xs ++ ys) h))

pub back_distinct : (xs ys : List Text) → are_distinct (xs ++ ys) ≡ true → are_distinct ys ≡ true
back_distinct [] ys h = h
back_distinct (x ∷ xs) ys h = back_distinct xs ys (rest_distinct x (xs ++ ys) h)

same_among : (names : List Text) (a b : Text) → a ≡ b → among names a ≡ true → among names b ≡ true
same_among names a b e h = subst (λ n. among names n ≡ true) e h

-- a name of the second list isn't in the first
pub apart : (xs ys : List Text) (name : Text) → are_distinct (xs ++ ys) ≡ true → among ys name ≡ true →
    among xs name ≡ false
apart [] ys name h there = refl
apart (x ∷ xs) ys name h there =
    is_false (bytes_eq name x || among xs name)
    (by (apart xs ys name (rest_distinct x (xs ++ ys) h) there) (bytes_eq name x) refl) where
      by : among xs name ≡ false → (b : Bool) → bytes_eq name x ≡ b → (b || among xs name) ≡ true → ⊥
      by rest true same e =
          not_both (among (xs ++ ys) x)
          (among_back xs ys x (same_among ys name x (same_text name x same) there))
          (first_new x (xs ++ ys) h)
      by rest false other e = not_both (among xs name) e rest

-- Names that don't begin as the section's own do.

plain_apart : (name rest : Text) → is_plain name ≡ true → bytes_eq name (codes "bt_" ++ rest) ≡ true → ⊥
plain_apart name rest plain same =
    false≢true (subst (λ n. is_plain n ≡ true) (same_text name (codes "bt_" ++ rest) same) plain)

pub not_own : (name rest : Text) → is_plain name ≡ true → bytes_eq name (codes "bt_" ++ rest) ≡ false
not_own name rest plain = is_false (bytes_eq name (codes "bt_" ++ rest)) (plain_apart name rest plain)

pub not_counter : (name : Text) → is_plain name ≡ true → bytes_eq name counter_name ≡ false
not_counter name plain = not_own name (codes "n") plain

abbrev pub params_named : (number : ℕ) → List Scalar → List Text
params_named number params = map {A = FunctionParam} (λ param. param.name) (function_params number params)

pub not_param : (name : Text) (number : ℕ) (params : List Scalar) → is_plain name ≡ true →
    among (params_named number params) name ≡ false
not_param name number [] plain = refl
not_param name number (ty ∷ params) plain =
    is_false (bytes_eq name (param_name number) || among (params_named (suc number) params) name)
    (λ either. false≢true (sym (ap (λ b. b || among (params_named (suc number) params) name)
    (not_own name (decimal number) plain) ∙ not_param name (suc number) params plain) ∙ either))

-- the parameters' names are distinct

same_number : (m n : ℕ) → m < 2 ^ 64 → n < 2 ^ 64 → bytes_eq (param_name m) (param_name n) ≡ true → m ≡ n
same_number m n p q h =
    decimal_injective m n p q (ap (drop 3) (same_text (param_name m) (param_name n) h))

param_new : (m number : ℕ) (params : List Scalar) → m < number → number + length params < 2 ^ 64 →
    among (params_named number params) (param_name m) ≡ false
param_new m number [] before low = refl
param_new m number (ty ∷ params) before low =
    is_false (bytes_eq (param_name m) (param_name number) || among (params_named (suc number) params) (param_name m))
    (by (param_new m (suc number) params (omega arith) (omega arith)) (bytes_eq (param_name m) (param_name number))
    refl) where
      by : among (params_named (suc number) params) (param_name m) ≡ false → (b : Bool) →
          bytes_eq (param_name m) (param_name number) ≡ b →
          (b || among (params_named (suc number) params) (param_name m)) ≡ true → ⊥
      by rest true same e = let is = same_number m number (omega arith) (omega arith) same in omega (arith, is, before)
      by rest false other e = not_both (among (params_named (suc number) params) (param_name m)) e rest

pub params_distinct : (number : ℕ) (params : List Scalar) → number + length params < 2 ^ 64 →
    are_distinct (params_named number params) ≡ true
params_distinct number [] low = refl
params_distinct number (ty ∷ params) low =
    and_from (is_new (params_named (suc number) params) (param_name number)) _
    (not_from (among (params_named (suc number) params) (param_name number))
    (param_new number (suc number) params (omega arith) (omega arith)))
    (params_distinct (suc number) params (omega arith))
