-- The registers of temporaries: each is one register, and none that pieces of code compute in, or that has another use.
use Rattle.sc_emit_relation.proofs.Common.{a0, a7, address_scratch, arith, cases_lt, first_scratch, inl, inr, le-ltb}
use Rattle.sc_emit_relation.proofs.Common.{lt-ltb, ra, refl, register_of, second_scratch, sp, ℕ, ⊎_elim, ◌+◌, ◌<◌, ◌≡◌}
use Rattle.sc_emit_relation.proofs.Common.{◌≢◌, ◌≤◌, ◌⊎◌}

-- a register with no other use: not x0, ra, sp, a scratch register or one of an argument
pub record HasNoOtherUse (q : ℕ) : Type 0 where
  pub zero : q ≢ 0
  pub ra : q ≢ ra
  pub sp : q ≢ sp
  pub first : q ≢ first_scratch
  pub second : q ≢ second_scratch
  pub address : q ≢ address_scratch
  pub argument : (q < a0) ⊎ (a7 < q)

abbrev Ranges : ℕ → Type 0
Ranges r =
    ((r < 2) × (register_of r ≡ r + 3)) ⊎
    (((2 ≤ r) × (r < 4) × (register_of r ≡ r + 6)) ⊎ ((4 ≤ r) × (register_of r ≡ r + 14)))

ranges : (r : ℕ) → Ranges r
ranges r =
    ⊎_elim (λ l. inl (l, rw (lt-ltb r 2 l) refl))
    (λ h. ⊎_elim (λ l. inr (inl (h, l, rw (le-ltb r 2 h, lt-ltb r 4 l) refl)))
    (λ k. inr (inr (k, rw (le-ltb r 2 h, le-ltb r 4 k) refl))) (cases_lt r 4)) (cases_lt r 2)

pub no_other_use : (r : ℕ) → HasNoOtherUse (register_of r)
no_other_use r = record {
  zero = λ e. omega (arith, ranges r, e);
  ra = λ e. omega (arith, ranges r, e);
  sp = λ e. omega (arith, ranges r, e);
  first = λ e. omega (arith, ranges r, e);
  second = λ e. omega (arith, ranges r, e);
  address = λ e. omega (arith, ranges r, e);
  argument = ⊎_elim (λ x. inl (omega (arith, x.0, x.1)))
      (λ y. ⊎_elim (λ x. inl (omega (arith, x.1, x.2))) (λ x. inr (omega (arith, x.0, x.1))) y) (ranges r);
}

-- two are two
pub register_same : (r q : ℕ) → register_of r ≡ register_of q → r ≡ q
register_same r q e = omega (arith, ranges r, ranges q, e)

-- a hart has them
pub register_there : (r : ℕ) → r < 18 → register_of r < 32
register_there r h = omega (arith, ranges r, h)
