-- The names of functions and workers: which are among others, and that they are new.
use Rattle.sc_report_made.proofs.Common.{Bool, IsAmong, List, Text, [], among, ap, arith, bytes_eq, bytes_eq_self}
use Rattle.sc_report_made.proofs.Common.{decimal_injective, drop, false, function_name, inl, inr, is_false}
use Rattle.sc_report_made.proofs.Common.{is_first_or_later, is_new, map, none_among, not_both, not_from, or_left}
use Rattle.sc_report_made.proofs.Common.{or_right, refl, same_text, subst, suc, true, worker_name, ℕ, ◌++◌, ◌<◌, ◌||◌}
use Rattle.sc_report_made.proofs.Common.{◌∙◌, ◌∷◌, ◌≡◌, ◌≤◌}

abbrev pub function_names : List ℕ → List Text
function_names js = map function_name js

abbrev pub worker_names : List ℕ → List Text
worker_names is = map worker_name is

-- Names that are there.

named_among : (name : ℕ → Text) (j : ℕ) (js : List ℕ) → IsAmong j js → among (map name js) (name j) ≡ true
named_among name j [] h = none_among j h
named_among name j (i ∷ js) h = elim (is_first_or_later j i js h) [
  | inl same ↦ or_left (bytes_eq (name j) (name i)) (among (map name js) (name j))
      (subst (λ n. bytes_eq (name j) (name n) ≡ true) same (bytes_eq_self (name j)))
  | inr rest ↦ or_right (bytes_eq (name j) (name i)) (among (map name js) (name j)) (named_among name j js rest)
]

pub function_among : (j : ℕ) (js : List ℕ) → IsAmong j js → among (function_names js) (function_name j) ≡ true
function_among j js h = named_among function_name j js h

-- Names that differ.

same_function : (j k : ℕ) → j < 1000 → k < 1000 → bytes_eq (function_name j) (function_name k) ≡ true → j ≡ k
same_function j k p q h =
    decimal_injective j k (omega (arith, p)) (omega (arith, q)) (ap (drop 1)
    (same_text (function_name j) (function_name k) h))

same_worker : (i k : ℕ) → i < 31 → k < 31 → bytes_eq (worker_name i) (worker_name k) ≡ true → i ≡ k
same_worker i k p q h =
    decimal_injective i k (omega (arith, p)) (omega (arith, q)) (ap (drop 1)
    (same_text (worker_name i) (worker_name k) h))

-- all of these are below a number, and that is below the highest
abbrev pub Below : (j high : ℕ) → List ℕ → Type 0
Below j high [] = Unit {0}
Below j high (k ∷ ks) = (k < j) × (k < high) × Below j high ks

pub below_more : (j more high : ℕ) (ks : List ℕ) → j ≤ more → Below j high ks → Below more high ks
below_more j more high [] le h = tt
below_more j more high (k ∷ ks) le h = let lt = h.0 in (omega (arith, lt, le), h.1, below_more j more high ks le h.2)

pub below_next : (j high : ℕ) (ks : List ℕ) → j < high → Below j high ks → Below (suc j) high (ks ++ j ∷ [])
below_next j high [] lt h = (omega arith, lt, tt)
below_next j high (k ∷ ks) lt h = let less = h.0 in (omega (arith, less), h.1, below_next j high ks lt h.2)

name_is_new : (name : ℕ → Text) (high : ℕ) →
    ((j k : ℕ) → j < high → k < high → bytes_eq (name j) (name k) ≡ true → j ≡ k) →
    (j : ℕ) → j < high → (ks : List ℕ) → Below j high ks → among (map name ks) (name j) ≡ false
name_is_new name high same j lt [] h = refl
name_is_new name high same j lt (k ∷ ks) h =
    is_false (bytes_eq (name j) (name k) || among (map name ks) (name j))
    (by (name_is_new name high same j lt ks h.2) (bytes_eq (name j) (name k)) refl) where
      by : among (map name ks) (name j) ≡ false → (b : Bool) → bytes_eq (name j) (name k) ≡ b →
          (b || among (map name ks) (name j)) ≡ true → ⊥
      by rest true e either = let is = same j k lt h.1 e in let less = h.0 in omega (arith, is, less)
      by rest false e either = not_both (among (map name ks) (name j)) either rest

-- a function's name isn't among those of lower numbers
pub function_new : (j : ℕ) → j < 1000 → (ks : List ℕ) → Below j 1000 ks →
    is_new (function_names ks) (function_name j) ≡ true
function_new j lt ks h =
    not_from (among (function_names ks) (function_name j)) (name_is_new function_name 1000 same_function j lt ks h)

pub worker_new : (i : ℕ) → i < 31 → (ks : List ℕ) → Below i 31 ks →
    is_new (worker_names ks) (worker_name i) ≡ true
worker_new i lt ks h =
    not_from (among (worker_names ks) (worker_name i)) (name_is_new worker_name 31 same_worker i lt ks h)

-- a name that no function has
pub no_function : (name : Text) → ((j : ℕ) → bytes_eq name (function_name j) ≡ false) → (js : List ℕ) →
    among (function_names js) name ≡ false
no_function name other [] = refl
no_function name other (j ∷ js) = ap (λ b. b || among (function_names js) name) (other j) ∙ no_function name other js
