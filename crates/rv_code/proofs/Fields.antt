-- Residues and the signed numbers that they stand for. A word of each form is cut into the fields that it was made of,
-- and a word's fields make it again.
use Rattle.rv_code.specs.Prelude.{IsBranchOffset, IsImmediate, IsJumpOffset, IsReg, IsUpper, b_imm_of, b_word}
use Rattle.rv_code.specs.Prelude.{funct3_of, funct7_of, i_imm_of, i_word, j_imm_of, j_word, opcode_of, r_word, rd_of}
use Rattle.rv_code.specs.Prelude.{residue, rs1_of, rs2_of, s_imm_of, s_word, signed, u_imm_of, u_word}
use Rattle.std.proofs.Common.{ap, arith, le-ltb, lt-ltb, negsuc, pos, refl, suc, ℕ, ℤ, ⊎_elim, ◌%◌, ◌*◌, ◌+◌, ◌-◌, ◌/◌}
use Rattle.std.proofs.Common.{◌<◌, ◌^◌, ◌∙◌, ◌≡◌, ◌≤ℤ◌, ◌≤◌}
use Rattle.std.proofs.lemmas.Bool.{cases_lt}
use Rattle.std.proofs.Math.Nat.{mod-eq_of_lt, mod-lt}
use Rattle.std.proofs.lemmas.Int.{ints}

-- what `signed` gives in the lower half and in the upper one
signed-low : (half n : ℕ) → n < half → signed half n ≡ pos n
signed-low half n h = rw (lt-ltb n half h) refl

signed-high : (half n : ℕ) → half ≤ n → signed half n ≡ negsuc (2 * half - suc n)
signed-high half n h = rw (le-ltb n half h) refl

by_half : (P : ℤ → Type 0) (half n : ℕ) → (n < half → P (pos n)) → (half ≤ n → P (negsuc (2 * half - suc n))) →
    P (signed half n)
by_half P half n low high = ⊎_elim (λ l. rw (signed-low half n l) (low l)) (λ h. rw (signed-high half n h) (high h))
    (cases_lt n half)

pub residue-signed : (half n : ℕ) → n < 2 * half → residue (2 * half) (signed half n) ≡ n
residue-signed half n h = by_half (λ z. residue (2 * half) z ≡ n) half n (λ low. mod-eq_of_lt h)
    (λ high. omega (arith, mod-eq_of_lt {n = 2 * half - suc n} {m = 2 * half} (omega arith)))

-- a signed number that fits is the one with its residue
pub signed-residue : (half least greatest : ℕ) (z : ℤ) (n : ℕ) → negsuc least ≤ℤ z → z ≤ℤ pos greatest → least < half →
    greatest < half → n ≡ residue (2 * half) z → signed half n ≡ z
signed-residue half least greatest (pos a) n low high hl hg e =
    let below : a < half = omega (arith, ints, high) in
    rw (e ∙ mod-eq_of_lt (omega arith)) (signed-low half a below)
signed-residue half least greatest (negsuc a) n low high hl hg e =
    let below : a < half = omega (arith, ints, low) in
    let same = mod-eq_of_lt {n = a} {m = 2 * half} (omega arith) in
    let back : 2 * half - suc n ≡ a = omega arith in
    signed-high half n (omega arith) ∙ ap negsuc back

-- an even offset has an even residue
pub residue-even-13 : (z : ℤ) → residue 2 z ≡ 0 → residue (2 ^ 13) z % 2 ≡ 0
residue-even-13 (pos a) h = omega arith
residue-even-13 (negsuc a) h = omega arith

pub residue-even-21 : (z : ℤ) → residue 2 z ≡ 0 → residue (2 ^ 21) z % 2 ≡ 0
residue-even-21 (pos a) h = omega arith
residue-even-21 (negsuc a) h = omega arith

-- a residue is below its modulus
pub residue-below : (m : ℕ) (z : ℤ) → 0 < m → residue m z < m
residue-below m (pos a) h = mod-lt a h
residue-below m (negsuc a) h = omega arith

-- a number of 12, 13 or 21 bits stands for an immediate in its range
pub IsImmediate-signed : (n : ℕ) → n < 2 ^ 12 → IsImmediate (signed (2 ^ 11) n)
IsImmediate-signed n h = by_half IsImmediate (2 ^ 11) n
    (λ low. record { least = omega (arith, ints); greatest = omega (arith, ints) })
    (λ high. record { least = omega (arith, ints); greatest = omega (arith, ints) })

pub IsBranchOffset-signed : (n : ℕ) → n < 2 ^ 13 → n % 2 ≡ 0 → IsBranchOffset (signed (2 ^ 12) n)
IsBranchOffset-signed n h e = by_half IsBranchOffset (2 ^ 12) n
    (λ low. record { least = omega (arith, ints); greatest = omega (arith, ints); even = omega arith })
    (λ high. record { least = omega (arith, ints); greatest = omega (arith, ints); even = omega arith })

pub IsJumpOffset-signed : (n : ℕ) → n < 2 ^ 21 → n % 2 ≡ 0 → IsJumpOffset (signed (2 ^ 20) n)
IsJumpOffset-signed n h e = by_half IsJumpOffset (2 ^ 20) n
    (λ low. record { least = omega (arith, ints); greatest = omega (arith, ints); even = omega arith })
    (λ high. record { least = omega (arith, ints); greatest = omega (arith, ints); even = omega arith })

-- A word of each form is cut into the fields that it was made of, and a word's fields make it again.

-- A word and its fields; a form that has a field not names the word's own there.
pub record Fields (w opcode rd funct3 rs1 rs2 : ℕ) : Type 0 where
  pub below : w < 2 ^ 32
  pub opcode_is : opcode_of w ≡ opcode
  pub rd_is : rd_of w ≡ rd
  pub funct3_is : funct3_of w ≡ funct3
  pub rs1_is : rs1_of w ≡ rs1
  pub rs2_is : rs2_of w ≡ rs2

-- The fields of a word that was made of them, and of its immediate, with the immediate's bits as numbers before it.

pub r_fields : (w opcode rd funct3 rs1 rs2 funct7 : ℕ) → w ≡ r_word opcode rd funct3 rs1 rs2 funct7 → opcode < 2 ^ 7 →
    funct3 < 2 ^ 3 → IsReg rd → IsReg rs1 → rs2 < 2 ^ 5 → funct7 < 2 ^ 7 →
    Fields w opcode rd funct3 rs1 rs2 × (funct7_of w ≡ funct7)
r_fields w opcode rd funct3 rs1 rs2 funct7 e ho hf hd h1 h2 h7 = (
  record {
    below = omega arith;
    opcode_is = omega arith;
    rd_is = omega arith;
    funct3_is = omega arith;
    rs1_is = omega arith;
    rs2_is = omega arith;
  },
  omega arith,
)

i_bits : (w opcode rd funct3 rs1 bits : ℕ) → w ≡ opcode + 2 ^ 7 * rd + 2 ^ 12 * funct3 + 2 ^ 15 * rs1 + 2 ^ 20 * bits →
    opcode < 2 ^ 7 → funct3 < 2 ^ 3 → IsReg rd → IsReg rs1 → bits < 2 ^ 12 →
    Fields w opcode rd funct3 rs1 (rs2_of w) × (w / 2 ^ 20 ≡ bits)
i_bits w opcode rd funct3 rs1 bits e ho hf hd h1 hb = (
  record {
    below = omega arith;
    opcode_is = omega arith;
    rd_is = omega arith;
    funct3_is = omega arith;
    rs1_is = omega arith;
    rs2_is = refl;
  },
  omega arith,
)

pub i_fields : (w opcode rd funct3 rs1 : ℕ) (imm : ℤ) → w ≡ i_word opcode rd funct3 rs1 imm → opcode < 2 ^ 7 →
    funct3 < 2 ^ 3 → IsReg rd → IsReg rs1 → IsImmediate imm →
    Fields w opcode rd funct3 rs1 (rs2_of w) × (i_imm_of w ≡ imm)
i_fields w opcode rd funct3 rs1 imm e ho hf hd h1 hi =
    let parts = i_bits w opcode rd funct3 rs1 _ e ho hf hd h1 (residue-below _ imm (omega arith)) in
    (parts.0, signed-residue _ 2047 2047 imm _ hi.least hi.greatest (omega arith) (omega arith) parts.1)

s_bits : (w opcode funct3 rs1 rs2 bits : ℕ) → w ≡ opcode + 2 ^ 7 * (bits % 2 ^ 5) + 2 ^ 12 * funct3 + 2 ^ 15 * rs1 + 2 ^
    20 * rs2 + 2 ^ 25 * (bits / 2 ^ 5) → opcode < 2 ^ 7 → funct3 < 2 ^ 3 → IsReg rs1 → IsReg rs2 → bits < 2 ^ 12 →
    Fields w opcode (rd_of w) funct3 rs1 rs2 × (2 ^ 5 * (w / 2 ^ 25) + w / 2 ^ 7 % 2 ^ 5 ≡ bits)
s_bits w opcode funct3 rs1 rs2 bits e ho hf h1 h2 hb = (
  record {
    below = omega arith;
    opcode_is = omega arith;
    rd_is = refl;
    funct3_is = omega arith;
    rs1_is = omega arith;
    rs2_is = omega arith;
  },
  omega arith,
)

pub s_fields : (w opcode funct3 rs1 rs2 : ℕ) (imm : ℤ) → w ≡ s_word opcode funct3 rs1 rs2 imm → opcode < 2 ^ 7 →
    funct3 < 2 ^ 3 → IsReg rs1 → IsReg rs2 → IsImmediate imm →
    Fields w opcode (rd_of w) funct3 rs1 rs2 × (s_imm_of w ≡ imm)
s_fields w opcode funct3 rs1 rs2 imm e ho hf h1 h2 hi =
    let parts = s_bits w opcode funct3 rs1 rs2 _ e ho hf h1 h2 (residue-below _ imm (omega arith)) in
    (parts.0, signed-residue _ 2047 2047 imm _ hi.least hi.greatest (omega arith) (omega arith) parts.1)

-- a number of 13 bits is made of its bits
b_cut : (bits : ℕ) → bits < 2 ^ 13 → bits % 2 ≡ 0 → 2 ^ 12 * (bits / 2 ^ 12) + 2 ^ 11 * (bits / 2 ^ 11 % 2) + 2 ^ 5 *
    (bits / 2 ^ 5 % 2 ^ 6) + 2 * (bits / 2 % 2 ^ 4) ≡ bits
b_cut bits h e = omega arith

b_bits : (w opcode funct3 rs1 rs2 b11 b4 b10 b12 : ℕ) →
    w ≡ opcode + 2 ^ 7 * b11 + 2 ^ 8 * b4 + 2 ^ 12 * funct3 + 2 ^ 15 * rs1 + 2 ^ 20 * rs2 + 2 ^ 25 * b10 + 2 ^ 31 * b12
    → opcode < 2 ^ 7 → funct3 < 2 ^ 3 → IsReg rs1 → IsReg rs2 → b11 < 2 → b4 < 2 ^ 4 → b10 < 2 ^ 6 → b12 < 2 →
    Fields w opcode (rd_of w) funct3 rs1 rs2 ×
    (2 ^ 12 * (w / 2 ^ 31) + 2 ^ 11 * (w / 2 ^ 7 % 2) + 2 ^ 5 * (w / 2 ^ 25 % 2 ^ 6) + 2 * (w / 2 ^ 8 % 2 ^ 4) ≡
    2 ^ 12 * b12 + 2 ^ 11 * b11 + 2 ^ 5 * b10 + 2 * b4)
b_bits w opcode funct3 rs1 rs2 b11 b4 b10 b12 e ho hf h1 h2 h11 h4 h10 h12 = (
  record {
    below = omega arith;
    opcode_is = omega arith;
    rd_is = refl;
    funct3_is = omega arith;
    rs1_is = omega arith;
    rs2_is = omega arith;
  },
  omega arith,
)

pub b_fields : (w opcode funct3 rs1 rs2 : ℕ) (imm : ℤ) → w ≡ b_word opcode funct3 rs1 rs2 imm → opcode < 2 ^ 7 →
    funct3 < 2 ^ 3 → IsReg rs1 → IsReg rs2 → IsBranchOffset imm →
    Fields w opcode (rd_of w) funct3 rs1 rs2 × (b_imm_of w ≡ imm)
b_fields w opcode funct3 rs1 rs2 imm e ho hf h1 h2 hi =
    let below = residue-below (2 ^ 13) imm (omega arith) in
    let parts = b_bits w opcode funct3 rs1 rs2 _ _ _ _ e ho hf h1 h2 (omega arith) (omega arith) (omega arith)
    (omega arith) in (
      parts.0,
      signed-residue (2 ^ 12) 4095 4094 imm _ hi.least hi.greatest (omega arith) (omega arith)
          (parts.1 ∙ b_cut (residue _ imm) below (residue-even-13 imm hi.even)),
    )

pub u_fields : (w opcode rd imm : ℕ) → w ≡ u_word opcode rd imm → opcode < 2 ^ 7 → IsReg rd → IsUpper imm →
    Fields w opcode rd (funct3_of w) (rs1_of w) (rs2_of w) × (u_imm_of w ≡ imm)
u_fields w opcode rd imm e ho hd hi = (
  record {
    below = omega arith;
    opcode_is = omega arith;
    rd_is = omega arith;
    funct3_is = refl;
    rs1_is = refl;
    rs2_is = refl;
  },
  omega arith,
)

-- a number of 21 bits is made of its bits
j_cut : (bits : ℕ) → bits < 2 ^ 21 → bits % 2 ≡ 0 → 2 ^ 20 * (bits / 2 ^ 20) + 2 ^ 12 *
    (bits / 2 ^ 12 % 2 ^ 8) + 2 ^ 11 * (bits / 2 ^ 11 % 2) + 2 * (bits / 2 % 2 ^ 10) ≡ bits
j_cut bits h e = omega arith

j_bits : (w opcode rd b19 b11 b10 b20 : ℕ) → w ≡ opcode + 2 ^ 7 * rd + 2 ^ 12 * b19 + 2 ^ 20 * b11 + 2 ^ 21 * b10 + 2 ^
    31 * b20 → opcode < 2 ^ 7 → IsReg rd → b19 < 2 ^ 8 → b11 < 2 → b10 < 2 ^ 10 → b20 < 2 →
    Fields w opcode rd (funct3_of w) (rs1_of w) (rs2_of w) ×
    (2 ^ 20 * (w / 2 ^ 31) + 2 ^ 12 * (w / 2 ^ 12 % 2 ^ 8) + 2 ^ 11 * (w / 2 ^ 20 % 2) + 2 * (w / 2 ^ 21 % 2 ^ 10) ≡
    2 ^ 20 * b20 + 2 ^ 12 * b19 + 2 ^ 11 * b11 + 2 * b10)
j_bits w opcode rd b19 b11 b10 b20 e ho hd h19 h11 h10 h20 = (
  record {
    below = omega arith;
    opcode_is = omega arith;
    rd_is = omega arith;
    funct3_is = refl;
    rs1_is = refl;
    rs2_is = refl;
  },
  omega arith,
)

pub j_fields : (w opcode rd : ℕ) (imm : ℤ) → w ≡ j_word opcode rd imm → opcode < 2 ^ 7 → IsReg rd → IsJumpOffset imm →
    Fields w opcode rd (funct3_of w) (rs1_of w) (rs2_of w) × (j_imm_of w ≡ imm)
j_fields w opcode rd imm e ho hd hi =
    let below = residue-below (2 ^ 21) imm (omega arith) in
    let parts = j_bits w opcode rd _ _ _ _ e ho hd (omega arith) (omega arith) (omega arith) (omega arith) in (
      parts.0,
      signed-residue (2 ^ 20) 1048575 1048574 imm _ hi.least hi.greatest (omega arith) (omega arith)
          (parts.1 ∙ j_cut (residue _ imm) below (residue-even-21 imm hi.even)),
    )

-- A word is made of its fields.

module _ (w opcode : ℕ) (ho : opcode_of w ≡ opcode) where
  pub u_joined : w ≡ u_word opcode (rd_of w) (u_imm_of w)
  u_joined = omega arith

  module _ (h : w < 2 ^ 32) where
    pub j_joined : w ≡ j_word opcode (rd_of w) (j_imm_of w)
    j_joined = rw (residue-signed (2 ^ 20) (2 ^ 20 * (w / 2 ^ 31) + 2 ^ 12 * (w / 2 ^ 12 % 2 ^ 8) + 2 ^ 11 *
        (w / 2 ^ 20 % 2) + 2 * (w / 2 ^ 21 % 2 ^ 10)) (omega arith)) (omega arith)

    module _ (funct3 : ℕ) (h3 : funct3_of w ≡ funct3) where
      pub i_joined : w ≡ i_word opcode (rd_of w) funct3 (rs1_of w) (i_imm_of w)
      i_joined = rw (residue-signed (2 ^ 11) (w / 2 ^ 20) (omega arith)) (omega arith)

      pub s_joined : w ≡ s_word opcode funct3 (rs1_of w) (rs2_of w) (s_imm_of w)
      s_joined = rw (residue-signed (2 ^ 11) (2 ^ 5 * (w / 2 ^ 25) + w / 2 ^ 7 % 2 ^ 5) (omega arith)) (omega arith)

      pub b_joined : w ≡ b_word opcode funct3 (rs1_of w) (rs2_of w) (b_imm_of w)
      b_joined = rw (residue-signed (2 ^ 12) (2 ^ 12 * (w / 2 ^ 31) + 2 ^ 11 * (w / 2 ^ 7 % 2) + 2 ^ 5 *
          (w / 2 ^ 25 % 2 ^ 6) + 2 * (w / 2 ^ 8 % 2 ^ 4)) (omega arith)) (omega arith)

  pub r_joined : (funct3 funct7 : ℕ) → funct3_of w ≡ funct3 → funct7_of w ≡ funct7 →
      w ≡ r_word opcode (rd_of w) funct3 (rs1_of w) (rs2_of w) funct7
  r_joined funct3 funct7 h3 h7 = omega arith
