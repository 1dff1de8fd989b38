-- What the linker completes are instructions that there are: jumps reach, and the parts of an address fit.
use Rattle.sc_linker.proofs.Common.{Addresses, All, All-cons, All-head, All-nil, All-tail, Bool, Entry, Function}
use Rattle.sc_linker.proofs.Common.{Global, Instr, IsImmediate, IsInstr, IsJumpOffset, IsUpper, Jal, List, None, Option}
use Rattle.sc_linker.proofs.Common.{Relocation, Some, Target, Upper, [], arith, cases_lt, false, if◌then◌else◌, length}
use Rattle.sc_linker.proofs.Common.{linked_from, low_of_target, lower_part, ltb-false, ltb-true, nat_lt, negsuc, pos}
use Rattle.sc_linker.proofs.Common.{refl, relocations_after, rules, subst, suc, target_at, true, upper_part, with_low}
use Rattle.sc_linker.proofs.Common.{with_target, ℕ, ⊎_elim, ◌%◌, ◌*◌, ◌+◌, ◌-ℤ◌, ◌-◌, ◌<◌, ◌==◌, ◌^◌, ◌∷◌, ◌≡◌, ◌≤◌}
use Rattle.std.proofs.lemmas.Int.{ints}
use Rattle.rv_code.specs.declared.instr.Instr.TheVariants.{Jalr, Branch, Load, Store, OpImm, Shift, Op, Fence, Ecall}
use Rattle.rv_code.specs.declared.instr.Instr.TheVariants.{Ebreak}

-- the parts of an address
upper_fits : (word : ℕ) → IsUpper (upper_part word)
upper_fits word = record { word = omega arith; low = omega arith }

low_bits : (b : Bool) (n : ℕ) → nat_lt n (2 ^ 11) ≡ b → n < 2 ^ 12 →
    IsImmediate (if b then pos n else negsuc (2 * 2 ^ 11 - suc n))
low_bits true n h k = let l : n < 2 ^ 11 = ltb-true n (2 ^ 11) h in
    record { least = search rules; greatest = omega (arith, ints) }
low_bits false n h k = let l : 2 ^ 11 ≤ n = ltb-false n (2 ^ 11) h in
    record { least = omega (arith, ints); greatest = search rules }

lower_fits : (word : ℕ) → IsImmediate (lower_part word)
lower_fits word = low_bits (nat_lt (word % 2 ^ 12) (2 ^ 11)) (word % 2 ^ 12) refl (omega arith)

-- an address of a word of a stretch of code
pub record IsWithin (start address : ℕ) : Type 0 where
  pub from : start ≤ address
  pub inside : address + 4 ≤ start + 2 ^ 20
  pub aligned : address % 4 ≡ 0

forward : (target pc : ℕ) → target < pc + 2 ^ 20 → pc ≤ target → target % 4 ≡ 0 → pc % 4 ≡ 0 →
    IsJumpOffset (pos target -ℤ pos pc)
forward target pc near following even own =
    let whole : pos (target - pc) ≡ pos target -ℤ pos pc = omega (arith, ints, following) in
    subst IsJumpOffset whole
    (record {
      least = search rules;
      greatest = omega (arith, ints, near, following, even, own);
      even = omega (arith, near, following, even, own);
    })

backward : (target pc : ℕ) → pc < target + 2 ^ 20 → target < pc → target % 4 ≡ 0 → pc % 4 ≡ 0 →
    IsJumpOffset (pos target -ℤ pos pc)
backward target pc near following even own =
    let whole : negsuc (pc - suc target) ≡ pos target -ℤ pos pc = omega (arith, ints, following) in
    subst IsJumpOffset whole
    (record {
      least = omega (arith, ints, near, following, even, own);
      greatest = search rules;
      even = omega (arith, near, following, even, own);
    })

-- a jump reaches each word of the stretch that it stands in
pub jump_reaches : (start target pc : ℕ) → IsWithin start target → IsWithin start pc →
    IsJumpOffset (pos target -ℤ pos pc)
jump_reaches start target pc to at =
    ⊎_elim
    (λ before. backward target pc (omega (arith, to.from, at.inside)) before to.aligned at.aligned)
    (λ following. forward target pc (omega (arith, to.inside, at.from)) following to.aligned at.aligned)
    (cases_lt target pc)

low_instr : (low : Option ℕ) (instr : Instr) → IsInstr instr → IsInstr (with_low low instr)
low_instr None instr h = h
low_instr (Some address) (Upper op rd imm) h = h
low_instr (Some address) (Jal rd imm) h = h
low_instr (Some address) (Jalr rd rs1 imm) h = (h.0, h.1, lower_fits address)
low_instr (Some address) (Branch op rs1 rs2 imm) h = h
low_instr (Some address) (Load op rd rs1 imm) h = h
low_instr (Some address) (Store op rs1 rs2 imm) h = h
low_instr (Some address) (OpImm op rd rs1 imm) h = (h.0, h.1, lower_fits address)
low_instr (Some address) (Shift op rd rs1 amount) h = h
low_instr (Some address) (Op op rd rs1 rs2) h = h
low_instr (Some address) (Fence imm rs1 rd) h = h
low_instr (Some address) Ecall h = h
low_instr (Some address) Ebreak h = h

module _ (A : Addresses) (start : ℕ) where
  -- a function that is referred to stands in the stretch
  abbrev pub Reaches : Option Target → Type 0
  Reaches target = (n : ℕ) → target ≡ Some (Function n) → IsWithin start (A.function n)

  target_instr : (pc : ℕ) (target : Option Target) (instr : Instr) → IsWithin start pc → Reaches target →
      IsInstr instr → IsInstr (with_target A pc target instr)
  target_instr pc None instr at to h = h
  target_instr pc (Some (Function n)) (Upper op rd imm) at to h = h
  target_instr pc (Some (Function n)) (Jal rd imm) at to h =
      (h.0, jump_reaches start (A.function n) pc (to n refl) at)
  target_instr pc (Some (Function n)) (Jalr rd rs1 imm) at to h = h
  target_instr pc (Some (Function n)) (Branch op rs1 rs2 imm) at to h = h
  target_instr pc (Some (Function n)) (Load op rd rs1 imm) at to h = h
  target_instr pc (Some (Function n)) (Store op rs1 rs2 imm) at to h = h
  target_instr pc (Some (Function n)) (OpImm op rd rs1 imm) at to h = h
  target_instr pc (Some (Function n)) (Shift op rd rs1 amount) at to h = h
  target_instr pc (Some (Function n)) (Op op rd rs1 rs2) at to h = h
  target_instr pc (Some (Function n)) (Fence imm rs1 rd) at to h = h
  target_instr pc (Some (Function n)) Ecall at to h = h
  target_instr pc (Some (Function n)) Ebreak at to h = h
  target_instr pc (Some (Entry comp index)) (Upper op rd imm) at to h = (h.0, upper_fits (A.entry comp index))
  target_instr pc (Some (Entry comp index)) (Jal rd imm) at to h = h
  target_instr pc (Some (Entry comp index)) (Jalr rd rs1 imm) at to h = h
  target_instr pc (Some (Entry comp index)) (Branch op rs1 rs2 imm) at to h = h
  target_instr pc (Some (Entry comp index)) (Load op rd rs1 imm) at to h = h
  target_instr pc (Some (Entry comp index)) (Store op rs1 rs2 imm) at to h = h
  target_instr pc (Some (Entry comp index)) (OpImm op rd rs1 imm) at to h = h
  target_instr pc (Some (Entry comp index)) (Shift op rd rs1 amount) at to h = h
  target_instr pc (Some (Entry comp index)) (Op op rd rs1 rs2) at to h = h
  target_instr pc (Some (Entry comp index)) (Fence imm rs1 rd) at to h = h
  target_instr pc (Some (Entry comp index)) Ecall at to h = h
  target_instr pc (Some (Entry comp index)) Ebreak at to h = h
  target_instr pc (Some (Global n)) (Upper op rd imm) at to h = (h.0, upper_fits (A.global n))
  target_instr pc (Some (Global n)) (Jal rd imm) at to h = h
  target_instr pc (Some (Global n)) (Jalr rd rs1 imm) at to h = h
  target_instr pc (Some (Global n)) (Branch op rs1 rs2 imm) at to h = h
  target_instr pc (Some (Global n)) (Load op rd rs1 imm) at to h = h
  target_instr pc (Some (Global n)) (Store op rs1 rs2 imm) at to h = h
  target_instr pc (Some (Global n)) (OpImm op rd rs1 imm) at to h = h
  target_instr pc (Some (Global n)) (Shift op rd rs1 amount) at to h = h
  target_instr pc (Some (Global n)) (Op op rd rs1 rs2) at to h = h
  target_instr pc (Some (Global n)) (Fence imm rs1 rd) at to h = h
  target_instr pc (Some (Global n)) Ecall at to h = h
  target_instr pc (Some (Global n)) Ebreak at to h = h

  -- the same of all relocations
  abbrev pub AllReach : List Relocation → Type 0
  AllReach relocations = All {X = Relocation} (λ r. Reaches (Some r.target)) relocations

  target_reaches : (at : ℕ) (relocations : List Relocation) → AllReach relocations →
      Reaches (target_at A at relocations)
  target_reaches at [] all n is = absurd (cc)
  target_reaches at (r ∷ rs) all n is =
      by (r.at == at) (All-head (λ (r : Relocation). Reaches (Some r.target)) r rs all) is where
        by : (b : Bool) → Reaches (Some r.target) → (if b then Some r.target else None) ≡ Some (Function n) →
            IsWithin start (A.function n)
        by true h e = h n e
        by false h e = absurd (cc)

  after_reach : (at : ℕ) (relocations : List Relocation) → AllReach relocations →
      AllReach (relocations_after A at relocations)
  after_reach at [] all = all
  after_reach at (r ∷ rs) all = by (r.at == at) where
    by : (b : Bool) → AllReach (if b then rs else r ∷ rs)
    by true = All-tail (λ (r : Relocation). Reaches (Some r.target)) r rs all
    by false = all

  pub from_instrs : (pc at : ℕ) (low : Option ℕ) (instrs : List Instr) (relocations : List Relocation) →
      start ≤ pc → pc + 4 * length instrs ≤ start + 2 ^ 20 → pc % 4 ≡ 0 → AllReach relocations →
      All IsInstr instrs → All IsInstr (linked_from A pc at low instrs relocations)
  from_instrs pc at low [] relocations from fits aligned reach all = All-nil IsInstr
  from_instrs pc at low (instr ∷ instrs) relocations from fits aligned reach all =
      All-cons IsInstr (with_low low (with_target A pc (target_at A at relocations) instr))
      (linked_from A (pc + 4) (suc at) (low_of_target A (target_at A at relocations)) instrs
      (relocations_after A at relocations))
      (low_instr low (with_target A pc (target_at A at relocations) instr)
      (target_instr pc (target_at A at relocations) instr
      (record { from = from; inside = omega (arith, fits); aligned = aligned })
      (target_reaches at relocations reach) (All-head IsInstr instr instrs all)))
      (from_instrs (pc + 4) (suc at) (low_of_target A (target_at A at relocations)) instrs
      (relocations_after A at relocations) (omega (arith, from)) (omega (arith, fits)) (omega (arith, aligned))
      (after_reach at relocations reach) (All-tail IsInstr instr instrs all))
