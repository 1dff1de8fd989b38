-- Booleans and kinds of faults, and words by their hyphens.
use Rattle.sc_top_words.proofs.Common.{Bool, ErrorKind, Kinds, Text, [], and-true, begins_with_hyphen, eqb-true, false}
use Rattle.sc_top_words.proofs.Common.{is_bare, not, or_else, refl, sym, true, true≢false, ℕ, ◌&&◌, ◌==◌, ◌∙◌, ◌∷◌, ◌≡◌}

-- ---- booleans

pub first_not : (b rest : Bool) → (not b && rest) ≡ true → (b ≡ false) × (rest ≡ true)
first_not true rest e = absurd (true≢false (sym e))
first_not false rest e = (refl, e)

-- ---- kinds

pub not_empty : (k : ErrorKind) (ks : Kinds) → k ∷ ks ≡ [] → ⊥
not_empty k ks e = cc

pub or_else_assoc : (a b c : Kinds) → or_else (or_else a b) c ≡ or_else a (or_else b c)
or_else_assoc [] b c = refl
or_else_assoc (k ∷ ks) b c = refl

pub second_fails : (a b : Kinds) → (b ≡ [] → ⊥) → or_else a b ≡ [] → ⊥
second_fails [] b fails e = fails e
second_fails (k ∷ ks) b fails e = not_empty k ks e

pub first_fails : (a b : Kinds) → (a ≡ [] → ⊥) → or_else a b ≡ [] → ⊥
first_fails [] b fails e = fails refl
first_fails (k ∷ ks) b fails e = not_empty k ks e

-- ---- words by their hyphens

pub first_plain : (x : ℕ) (xs : Text) → begins_with_hyphen (x ∷ xs) ≡ false → (x == 45) ≡ false
first_plain x xs e = sym (and-true (x == 45)) ∙ e

-- a word that is not bare doesn't begin with a hyphen, or names an option
pub by_hyphens : (P : Text → Type 0) → ((word : Text) → begins_with_hyphen word ≡ false → P word) →
    ((x : ℕ) (xs : Text) → P (45 ∷ 45 ∷ x ∷ xs)) → (word : Text) → is_bare word ≡ false → P word
by_hyphens P plain long [] bare = plain [] refl
by_hyphens P plain long (a ∷ []) bare = go (a == 45) refl
  where
    go : (b : Bool) → (a == 45) ≡ b → P (a ∷ [])
    go true e = absurd (true≢false (rw e at bare))
    go false e = plain (a ∷ []) (rw e refl)
by_hyphens P plain long (a ∷ b ∷ []) bare = go (a == 45) refl (b == 45) refl
  where
    go : (x : Bool) → (a == 45) ≡ x → (y : Bool) → (b == 45) ≡ y → P (a ∷ b ∷ [])
    go true e true f = absurd (true≢false (rw (e, f) at bare))
    go true e false f = absurd (true≢false (rw (e, f) at bare))
    go false e y f = plain (a ∷ b ∷ []) (rw e refl)
by_hyphens P plain long (a ∷ b ∷ x ∷ xs) bare = go (a == 45) refl (b == 45) refl
  where
    go : (y : Bool) → (a == 45) ≡ y → (z : Bool) → (b == 45) ≡ z → P (a ∷ b ∷ x ∷ xs)
    go true e true f =
        let is_a : a ≡ 45 = eqb-true a 45 e in
        let is_b : b ≡ 45 = eqb-true b 45 f in
        rw (is_a, is_b) (long x xs)
    go true e false f = absurd (true≢false (rw (e, f) at bare))
    go false e z f = plain (a ∷ b ∷ x ∷ xs) (rw e refl)
