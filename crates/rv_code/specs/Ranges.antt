-- The ranges of an instruction's fields, and integers in two's complement.
use Rattle.std.specs.Prelude.{◌≡◌, ℕ, suc, ◌-◌, ◌*◌, ◌%◌, ◌^◌, ◌<◌, ℤ, pos, negsuc, ◌≤ℤ◌, nat_lt, if◌then◌else◌}

-- what is left of an integer modulo m, from 0 to m - 1: its low k bits in two's complement, where m is 2 ^ k
abbrev pub residue : ℕ → ℤ → ℕ
residue m (pos n) = n % m
residue m (negsuc n) = m - suc (n % m)

-- the integer from -half to half - 1 whose residue modulo 2 * half is n
abbrev pub signed : ℕ → ℕ → ℤ
signed half n = if nat_lt n half then pos n else negsuc (2 * half - suc n)

-- a register's number
abbrev pub IsReg : ℕ → Type 0
IsReg n = n < 32

-- how far a shift goes
abbrev pub IsAmount : ℕ → Type 0
IsAmount n = n < 32

-- twenty high bits over twelve zeros
pub record IsUpper (n : ℕ) : Type 0 where
  pub word : n < 2 ^ 32
  pub low : n % 2 ^ 12 ≡ 0

-- from -2048 to 2047
pub record IsImmediate (z : ℤ) : Type 0 where
  pub least : negsuc 2047 ≤ℤ z
  pub greatest : z ≤ℤ pos 2047

-- from -4096 to 4094, and even
pub record IsBranchOffset (z : ℤ) : Type 0 where
  pub least : negsuc 4095 ≤ℤ z
  pub greatest : z ≤ℤ pos 4094
  pub even : residue 2 z ≡ 0

-- from -1048576 to 1048574, and even
pub record IsJumpOffset (z : ℤ) : Type 0 where
  pub least : negsuc 1048575 ≤ℤ z
  pub greatest : z ≤ℤ pos 1048574
  pub even : residue 2 z ≡ 0
