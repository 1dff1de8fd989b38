-- An operation is found by its own function codes, and what is found has those that were asked for.
use Rattle.rv_code.specs.Prelude.{branch_funct3, branch_op_of, load_funct3, load_op_of, op_funct3, op_funct7}
use Rattle.rv_code.specs.Prelude.{op_imm_funct3, op_imm_op_of, op_op_of, shift_funct3, shift_funct7, shift_op_of}
use Rattle.rv_code.specs.Prelude.{store_funct3, store_op_of}
use Rattle.rv_code.specs.declared.instr.OpOp.TheVariants.{Add}
use Rattle.rv_code.specs.declared.instr.BranchOp.TheVariants.{Beq}
use Rattle.std.proofs.Common.{Bool, List, None, Some, [], ap, cond, eqb-true, false, find, lit<, nat_eq, refl, sym}
use Rattle.std.proofs.Common.{true, ℕ, ◌&&◌, ◌<◌, ◌^◌, ◌∙◌, ◌∷◌, ◌≡◌}
use Rattle.rv_code.specs.declared.instr.LoadOp.TheVariants.{Lb}
use Rattle.rv_code.specs.declared.instr.StoreOp.TheVariants.{Sb}
use Rattle.rv_code.specs.declared.instr.ShiftOp.TheVariants.{Slli}
use Rattle.std.proofs.lemmas.Bool.{and_parts}
use Rattle.rv_code.specs.declared.instr.BranchOp.{BranchOp}
use Rattle.rv_code.specs.declared.instr.LoadOp.{LoadOp}
use Rattle.rv_code.specs.declared.instr.OpImmOp.{OpImmOp}
use Rattle.rv_code.specs.declared.instr.OpOp.{OpOp}
use Rattle.rv_code.specs.declared.instr.ShiftOp.{ShiftOp}
use Rattle.rv_code.specs.declared.instr.StoreOp.{StoreOp}
use Rattle.rv_code.specs.declared.instr.OpImmOp.TheVariants.{Addi}

-- what a search finds passes its test
find-passes : {A : Type 0} (p : A → Bool) (xs : List A) (x : A) → find p xs ≡ Some x → p x ≡ true
find-passes {A} p [] x e = let q = e in cc q
find-passes {A} p (y ∷ ys) x e =
    let at : (b : Bool) → p y ≡ b → cond b _ _ ≡ Some x → p x ≡ true =
    λ b. elim b as (λ v. p y ≡ v → cond v (Some y) (find p ys) ≡ Some x → p x ≡ true) [
      | true ↦ (λ t f. let q = f in let s : y ≡ x = cc in ap p (sym s) ∙ t)
      | false ↦ (λ t f. find-passes p ys x f)
    ] in at (p y) refl e

-- so it has the code, or the two codes, that were asked for
pub by_code : {A : Type 0} (f : A → ℕ) (n : ℕ) (xs : List A) (x : A) → find (λ op. nat_eq n (f op)) xs ≡ Some x →
    n ≡ f x
by_code f n xs x e = eqb-true n _ (find-passes _ xs x e)

pub by_codes : {A : Type 0} (f g : A → ℕ) (m n : ℕ) (xs : List A) (x : A) →
    find (λ op. nat_eq m (f op) && nat_eq n (g op)) xs ≡ Some x → (m ≡ f x) × (n ≡ g x)
by_codes f g m n xs x e =
    let passed = and_parts (nat_eq m _) _ (find-passes _ xs x e) in
    (eqb-true m _ passed.0, eqb-true n _ passed.1)

-- an operation is found by its own function codes, and they fit their fields

pub branch_own : (op : BranchOp) → (branch_op_of (branch_funct3 op) ≡ Some op) × (branch_funct3 op < 2 ^ 3)
unfolding branch_op_of
branch_own Beq = (refl, lit< tt)
branch_own _ = (refl, lit< tt)

pub load_own : (op : LoadOp) → (load_op_of (load_funct3 op) ≡ Some op) × (load_funct3 op < 2 ^ 3)
unfolding load_op_of
load_own Lb = (refl, lit< tt)
load_own _ = (refl, lit< tt)

pub store_own : (op : StoreOp) → (store_op_of (store_funct3 op) ≡ Some op) × (store_funct3 op < 2 ^ 3)
unfolding store_op_of
store_own Sb = (refl, lit< tt)
store_own _ = (refl, lit< tt)

pub op_imm_own : (op : OpImmOp) → (op_imm_op_of (op_imm_funct3 op) ≡ Some op) × (op_imm_funct3 op < 2 ^ 3)
unfolding op_imm_op_of
op_imm_own Addi = (refl, lit< tt)
op_imm_own _ = (refl, lit< tt)

-- a shift's code is that of no other operation on an immediate
pub shift_own : (op : ShiftOp) → (op_imm_op_of (shift_funct3 op) ≡ None) ×
    (shift_op_of (shift_funct7 op) (shift_funct3 op) ≡ Some op) × (shift_funct3 op < 2 ^ 3) × (shift_funct7 op < 2 ^ 7)
unfolding op_imm_op_of shift_op_of
shift_own Slli = (refl, refl, lit< tt, lit< tt)
shift_own _ = (refl, refl, lit< tt, lit< tt)

pub op_own : (op : OpOp) → (op_op_of (op_funct7 op) (op_funct3 op) ≡ Some op) × (op_funct3 op < 2 ^ 3) ×
    (op_funct7 op < 2 ^ 7)
unfolding op_op_of
op_own Add = (refl, lit< tt, lit< tt)
op_own _ = (refl, lit< tt, lit< tt)
