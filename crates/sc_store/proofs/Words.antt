-- Addresses in regions and where zeros stand, what a store changes, and what a load gives after it.
use Rattle.sc_store.proofs.Common.{AreApart, AreBelow, HasBytes, HoldsBytes, IsIn, IsSome, List, ByteMemory, Region}
use Rattle.sc_store.proofs.Common.{Some}
use Rattle.sc_store.proofs.Common.{[], ap, arith, byte_of, cases_lt, cond, false, get_or, get_or-map, inl, inr, is_in}
use Rattle.sc_store.proofs.Common.{is_some, length, length-map, load_of, map, nat_le, nat_lt, nat_tests, refl}
use Rattle.sc_store.proofs.Common.{same_Some, with_bytes, subst, suc, sym, true, unwrap_or, zero, zeros, ℕ, ⊎_elim, ◌%◌}
use Rattle.sc_store.proofs.Common.{◌&&◌, ◌*◌, ◌+◌, ◌-◌, ◌<◌, ◌^◌, ◌↔◌, ◌∙◌, ◌∷◌, ◌≡◌, ◌≤◌, ◌⊎◌}
use Rattle.std.proofs.Math.Arith.{mod-mul}
use Rattle.std.proofs.Math.Nat.{pow-suc, pow-succ'}

-- ---- an address that is apart from an access, or within it
pub by_access : {P : Type 0} (a n b : ℕ) → ((a ≤ b → b < a + n → ⊥) → P) → (a ≤ b → b < a + n → P) → P
by_access a n b apart within = ⊎_elim (λ low. apart (λ l u. omega arith)) (λ from. ⊎_elim (λ below. within from below)
    (λ above. apart (λ l u. omega arith)) (cases_lt b (a + n))) (cases_lt b a)

-- ---- an address in a region: the test says what the fact does
pub in_true : (r : Region) (a : ℕ) → IsIn r a → is_in r a ≡ true
in_true r a h = grind (arith, nat_tests)

pub in_false : (r : Region) (a : ℕ) → (IsIn r a → ⊥) → is_in r a ≡ false
in_false r a h = grind (arith, nat_tests)

-- the address is in the region or not
pub in_cases : (r : Region) (a : ℕ) → IsIn r a ⊎ (IsIn r a → ⊥)
in_cases r a = by_access r.start r.bytes a (λ out. inr (λ i. out i.0 i.1)) (λ from below. inl (from, below))

-- ---- regions apart
pub tail_apart : (r : Region) (rs : List Region) → AreApart (r ∷ rs) → AreApart rs
tail_apart r rs apart = λ i j d l h. apart (suc i) (suc j) d (omega arith) (omega arith)

-- an address in a later one isn't in the first
pub head_apart : {A : Type 0} (f : A → Region) (x : A) (xs : List A) (i : ℕ) (d : A) (a : ℕ) →
    AreApart (map f (x ∷ xs)) → i < length xs → IsIn (f (get_or xs i d)) a → IsIn (f x) a → ⊥
head_apart f x xs i d a apart h inside first =
    apart 0 (suc i) (f d) (omega arith) (omega (arith, length-map xs f)) a first
    (subst (λ r. IsIn r a) (sym (get_or-map f xs i d (f d) h)) inside)

pub zeros_hold : (rs : List Region) → AreBelow rs → HoldsBytes (zeros rs)
zeros_hold [] below b x e = absurd (cc)
zeros_hold (r ∷ rs) below b x e = ⊎_elim (λ inside.
    let zero_there : 0 ≡ x = same_Some _ _ (sym (ap (λ t. cond t (Some 0) (zeros rs b)) (in_true r b inside)) ∙ e) in
    (omega (arith, below 0 r (omega arith)), omega arith))
    (λ out. zeros_hold rs (λ k d h. below (suc k) d (omega arith)) b x
    (sym (ap (λ t. cond t (Some 0) (zeros rs b)) (in_false r b out)) ∙ e)) (in_cases r b)

-- What a store changes, and what a load gives after it.

-- an address within the access, and one apart from it
inside : (a n b : ℕ) → a ≤ b → b < a + n → (nat_le a b && nat_lt b (a + n)) ≡ true
inside a n b h k = grind (arith, nat_tests)

outside : (a n b : ℕ) → (a ≤ b → b < a + n → ⊥) → (nat_le a b && nat_lt b (a + n)) ≡ false
outside a n b h = grind (arith, nat_tests)

pub stored-in : (m : ByteMemory) (a n v b : ℕ) → a ≤ b → b < a + n → with_bytes m a n v b ≡ Some (byte_of v (b - a))
stored-in m a n v b h k = rw (inside a n b h k) refl

pub stored-apart : (m : ByteMemory) (a n v b : ℕ) → (a ≤ b → b < a + n → ⊥) → with_bytes m a n v b ≡ m b
stored-apart m a n v b h = rw (outside a n b h) refl

pub stored-at : (m : ByteMemory) (a n v k : ℕ) → k < n → with_bytes m a n v (a + k) ≡ Some (byte_of v k)
stored-at m a n v k h = stored-in m a n v _ (omega arith) (omega arith) ∙ ap (λ i. Some (byte_of v i)) (omega arith)

pow_pos : (k : ℕ) → 0 < 256 ^ k
pow_pos zero = omega arith
pow_pos (suc k) = rw (pow-suc 256 k) (omega (arith, pow_pos k))

-- one more byte of a number
cut_more : (v k : ℕ) → v % 256 ^ k + byte_of v k * 256 ^ k ≡ v % 256 ^ suc k
cut_more v k = rw (pow-succ' 256 k) (omega (arith, mod-mul v {m = 256} {c = 256 ^ k} (omega arith) (pow_pos k)))

-- the first `k` bytes of what was stored
first_bytes_stored : (m : ByteMemory) (a n v k : ℕ) → k ≤ n → load_of (with_bytes m a n v) a k ≡ v % 256 ^ k
first_bytes_stored m a n v zero h = omega arith
first_bytes_stored m a n v (suc k) h = ap (λ w. w + unwrap_or (with_bytes m a n v (a + k)) 0 * 256 ^ k)
    (first_bytes_stored m a n v k (omega arith)) ∙ ap (λ o. v % 256 ^ k + unwrap_or o 0 * 256 ^ k)
    (stored-at m a n v k (omega arith)) ∙ cut_more v k

pub load_of-stored : (m : ByteMemory) (a n v : ℕ) → load_of (with_bytes m a n v) a n ≡ v % 256 ^ n
load_of-stored m a n v = first_bytes_stored m a n v n (omega arith)

-- two memories with the same bytes there give the same number
pub load_of-same : (m m' : ByteMemory) (a n : ℕ) → ((k : ℕ) → k < n → m (a + k) ≡ m' (a + k)) →
    load_of m a n ≡ load_of m' a n
load_of-same m m' a zero h = refl
load_of-same m m' a (suc n) h =
    ap (λ w. w + unwrap_or (m (a + n)) 0 * 256 ^ n) (load_of-same m m' a n (λ k l. h k (omega arith)))
    ∙ ap (λ o. load_of m' a n + unwrap_or o 0 * 256 ^ n) (h n (omega arith))

pub load_of-apart : (m : ByteMemory) (a n v b j : ℕ) → (b + j ≤ a) ⊎ (a + n ≤ b) →
    load_of (with_bytes m a n v) b j ≡ load_of m b j
load_of-apart m a n v b j h =
    load_of-same (with_bytes m a n v) m b j (λ k l. stored-apart m a n v _ (λ p q. omega (arith, h)))

pub address_kept : (m : ByteMemory) (a n v b : ℕ) → HasBytes m a n → is_some (with_bytes m a n v b) ≡ is_some (m b)
address_kept m a n v b has = by_access a n b (λ out. ap is_some (stored-apart m a n v b out)) (λ from below.
    ap is_some (stored-in m a n v b from below) ∙
    sym (subst (λ i. is_some (m i) ≡ true) (omega arith) (has (b - a) (omega arith))))

pub keeps_addresses : (m : ByteMemory) (a n v b : ℕ) → HasBytes m a n → IsSome (with_bytes m a n v b) ↔ IsSome (m b)
keeps_addresses m a n v b has = (λ p. sym (address_kept m a n v b has) ∙ p, λ p. address_kept m a n v b has ∙ p)

-- the laws of loads and stores
pub ruleset laws = (load_of-stored, load_of-apart, keeps_addresses)
