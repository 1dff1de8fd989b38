-- Words and instructions stand for one another.
use Rattle.rv_code.specs.Prelude.{HasWord, IsImmediate, IsInstr, branch_funct3, branch_in, branch_op_of, branch_opcode}
use Rattle.rv_code.specs.Prelude.{branch_ops, decoded, fence_funct3, fence_in, fence_opcode, funct3_of, i_imm_of}
use Rattle.rv_code.specs.Prelude.{j_imm_of, jal_opcode, jalr_funct3, jalr_in, jalr_opcode, load_funct3, load_in}
use Rattle.rv_code.specs.Prelude.{load_op_of, load_opcode, load_ops, op_funct3, op_funct7, op_imm_funct3, op_imm_in}
use Rattle.rv_code.specs.Prelude.{op_imm_op_of, op_imm_opcode, op_imm_ops, op_in, op_op_of, op_opcode, op_ops}
use Rattle.rv_code.specs.Prelude.{opcode_of, rd_of, shift_funct3, shift_funct7, shift_in, shift_op_of, shift_ops}
use Rattle.rv_code.specs.Prelude.{store_funct3, store_in, store_op_of, store_opcode, store_ops, system_in, u_imm_of}
use Rattle.rv_code.specs.Prelude.{upper_opcode, word_of}
use Rattle.rv_code.specs.declared.instr.UpperOp.TheVariants.{Auipc, Lui}
use Rattle.std.proofs.Common.{Bool, IfSome, IsNone, None, Option, Some, arith, cond, eqb-true, false, lit<, nat_eq}
use Rattle.std.proofs.Common.{refl, subst, sym, true, ℕ, ◌<◌, ◌^◌, ◌∙◌, ◌≡◌}
use Rattle.rv_code.specs.declared.instr.Instr.TheVariants.{Branch, Ebreak, Ecall, Fence, Jal, Jalr, Load, Op, OpImm}
use Rattle.rv_code.specs.declared.instr.Instr.TheVariants.{Shift, Store, Upper}
use Rattle.rv_code.specs.declared.instr.Instr.{Instr}
use Rattle.rv_code.specs.declared.instr.UpperOp.{UpperOp}
use Rattle.std.specs.Option.{option_map, option_or}
use Rattle.rv_code.proofs.Fields.{IsImmediate-signed, IsBranchOffset-signed, IsJumpOffset-signed, r_fields, i_fields}
use Rattle.rv_code.proofs.Fields.{s_fields, b_fields, u_fields, j_fields, r_joined, i_joined, s_joined, b_joined}
use Rattle.rv_code.proofs.Fields.{u_joined, j_joined}
use Rattle.rv_code.proofs.Ops.{branch_own, load_own, store_own, op_imm_own, shift_own, op_own, by_code, by_codes}

-- an instruction's word has 32 bits, and is decoded to it
abbrev Read : Instr → ℕ → Type 0
Read i w = (decoded w ≡ Some i) × (w < 2 ^ 32)

upper_read : (op : UpperOp) (rd imm w : ℕ) → HasWord (Upper op rd imm) w → Read (Upper op rd imm) w
unfolding word_of decoded
upper_read Lui rd imm w h =
    let f = u_fields w _ rd imm h.word (lit< tt) h.instr.0 h.instr.1 in
    (rw (f.0.opcode_is, f.0.rd_is, f.1) refl, f.0.below)
upper_read Auipc rd imm w h =
    let f = u_fields w _ rd imm h.word (lit< tt) h.instr.0 h.instr.1 in
    (rw (f.0.opcode_is, f.0.rd_is, f.1) refl, f.0.below)

read : (i : Instr) (w : ℕ) → HasWord i w → Read i w
unfolding word_of decoded jalr_in branch_in load_in store_in op_imm_in shift_in op_in fence_in system_in
read (Upper op rd imm) w h = upper_read op rd imm w h
read (Jal rd imm) w h =
    let f = j_fields w _ rd imm h.word (lit< tt) h.instr.0 h.instr.1 in
    (rw (f.0.opcode_is, f.0.rd_is, f.1) refl, f.0.below)
read (Jalr rd rs1 imm) w h =
    let f = i_fields w _ rd jalr_funct3 rs1 imm h.word (lit< tt) (lit< tt) h.instr.0 h.instr.1 h.instr.2 in
    (rw (f.0.opcode_is, f.0.funct3_is, f.0.rd_is, f.0.rs1_is, f.1) refl, f.0.below)
read (Branch op rs1 rs2 imm) w h =
    let own = branch_own op in
    let f = b_fields w _ _ rs1 rs2 imm h.word (lit< tt) own.1 h.instr.0 h.instr.1 h.instr.2 in
    (rw (f.0.opcode_is, f.0.funct3_is, own.0, f.0.rs1_is, f.0.rs2_is, f.1) refl, f.0.below)
read (Load op rd rs1 imm) w h =
    let own = load_own op in
    let f = i_fields w _ rd _ rs1 imm h.word (lit< tt) own.1 h.instr.0 h.instr.1 h.instr.2 in
    (rw (f.0.opcode_is, f.0.funct3_is, own.0, f.0.rd_is, f.0.rs1_is, f.1) refl, f.0.below)
read (Store op rs1 rs2 imm) w h =
    let own = store_own op in
    let f = s_fields w _ _ rs1 rs2 imm h.word (lit< tt) own.1 h.instr.0 h.instr.1 h.instr.2 in
    (rw (f.0.opcode_is, f.0.funct3_is, own.0, f.0.rs1_is, f.0.rs2_is, f.1) refl, f.0.below)
read (OpImm op rd rs1 imm) w h =
    let own = op_imm_own op in
    let f = i_fields w _ rd _ rs1 imm h.word (lit< tt) own.1 h.instr.0 h.instr.1 h.instr.2 in
    (rw (f.0.opcode_is, f.0.funct3_is, own.0, f.0.rd_is, f.0.rs1_is, f.1) refl, f.0.below)
read (Shift op rd rs1 amount) w h =
    let own = shift_own op in
    let f = r_fields w _ rd _ rs1 amount _ h.word (lit< tt) own.2 h.instr.0 h.instr.1 h.instr.2 own.3 in
    (rw (f.0.opcode_is, f.0.funct3_is, own.0, f.1, own.1, f.0.rd_is, f.0.rs1_is, f.0.rs2_is) refl, f.0.below)
read (Op op rd rs1 rs2) w h =
    let own = op_own op in
    let f = r_fields w _ rd _ rs1 rs2 _ h.word (lit< tt) own.1 h.instr.0 h.instr.1 h.instr.2 own.2 in
    (rw (f.0.opcode_is, f.0.funct3_is, f.1, own.0, f.0.rd_is, f.0.rs1_is, f.0.rs2_is) refl, f.0.below)
read (Fence imm rs1 rd) w h =
    let f = i_fields w _ rd fence_funct3 rs1 imm h.word (lit< tt) (lit< tt) h.instr.0 h.instr.1 h.instr.2 in
    (rw (f.0.opcode_is, f.0.funct3_is, f.0.rd_is, f.0.rs1_is, f.1) refl, f.0.below)
read Ecall w h = (rw h.word refl, rw h.word (lit< tt))
read Ebreak w h = (rw h.word refl, rw h.word (lit< tt))

pub decoded-word : (i : Instr) (w : ℕ) → HasWord i w → decoded w ≡ Some i
decoded-word i w h = (read i w h).0

pub word-below : (i : Instr) (w : ℕ) → HasWord i w → w < 2 ^ 32
word-below i w h = (read i w h).1

-- what was found, if anything, has the word w
abbrev AllHave : ℕ → Option Instr → Type 0
AllHave w o = IfSome o (λ i. HasWord i w)

code_has : (w n code : ℕ) (x y : Option Instr) → (n ≡ code → AllHave w x) → AllHave w y →
    AllHave w (cond (nat_eq n code) x y)
code_has w n code x y h k = by_test (nat_eq n code) (λ t. h (eqb-true n code t))
  where
    by_test : (b : Bool) → (b ≡ true → AllHave w x) → AllHave w (cond b x y)
    by_test true f = f refl
    by_test false f = k

map_has : {A : Type 0} (w : ℕ) (f : A → Instr) (o : Option A) → ((a : A) → o ≡ Some a → HasWord (f a) w) →
    AllHave w (option_map f o)
map_has w f None h = tt
map_has w f (Some a) h = h a refl

or_has : (w : ℕ) (o p : Option Instr) → AllHave w o → AllHave w p → AllHave w (option_or o p)
or_has w None p h k = k
or_has w (Some i) p h k = h

-- each form
module _ (w : ℕ) (h : w < 2 ^ 32) where
  i_imm_fits : IsImmediate (i_imm_of w)
  i_imm_fits = IsImmediate-signed _ (omega arith)

  upper_has : (op : UpperOp) → opcode_of w ≡ upper_opcode op → HasWord (Upper op (rd_of w) (u_imm_of w)) w
  unfolding word_of
  upper_has op e = record {
    instr = (omega arith, record { word = omega arith; low = omega arith });
    word = u_joined w _ e;
  }

  jal_has : opcode_of w ≡ jal_opcode → HasWord (Jal (rd_of w) (j_imm_of w)) w
  unfolding word_of
  jal_has e =
      record { instr = (omega arith, IsJumpOffset-signed _ (omega arith) (omega arith)); word = j_joined w _ e h }

  jalr_has : opcode_of w ≡ jalr_opcode → AllHave w (jalr_in w)
  unfolding word_of jalr_in
  jalr_has e = code_has w (funct3_of w) _ _ _ (λ f. record {
    instr = (omega arith, omega arith, i_imm_fits);
    word = i_joined w _ e h _ f;
  }) tt

  branch_has : opcode_of w ≡ branch_opcode → AllHave w (branch_in w)
  unfolding word_of branch_in branch_op_of
  branch_has e = map_has w _ _ (λ op f. record {
    instr = (omega arith, omega arith, IsBranchOffset-signed _ (omega arith) (omega arith));
    word = b_joined w _ e h _ (by_code branch_funct3 _ branch_ops op f);
  })

  load_has : opcode_of w ≡ load_opcode → AllHave w (load_in w)
  unfolding word_of load_in load_op_of
  load_has e = map_has w _ _ (λ op f. record {
    instr = (omega arith, omega arith, i_imm_fits);
    word = i_joined w _ e h _ (by_code load_funct3 _ load_ops op f);
  })

  store_has : opcode_of w ≡ store_opcode → AllHave w (store_in w)
  unfolding word_of store_in store_op_of
  store_has e = map_has w _ _ (λ op f. record {
    instr = (omega arith, omega arith, IsImmediate-signed _ (omega arith));
    word = s_joined w _ e h _ (by_code store_funct3 _ store_ops op f);
  })

  op_imm_has : opcode_of w ≡ op_imm_opcode → AllHave w (op_imm_in w)
  unfolding word_of op_imm_in op_imm_op_of shift_in shift_op_of
  op_imm_has e = or_has w _ (shift_in w) (map_has w _ _ (λ op f. record {
    instr = (omega arith, omega arith, i_imm_fits);
    word = i_joined w _ e h _ (by_code op_imm_funct3 _ op_imm_ops op f);
  })) (map_has w _ _ (λ op f. let codes = by_codes shift_funct7 shift_funct3 _ _ shift_ops op f in record {
    instr = (omega arith, omega arith, omega arith);
    word = r_joined w _ e _ _ codes.1 codes.0;
  }))

  op_has : opcode_of w ≡ op_opcode → AllHave w (op_in w)
  unfolding word_of op_in op_op_of
  op_has e = map_has w _ _ (λ op f. let codes = by_codes op_funct7 op_funct3 _ _ op_ops op f in record {
    instr = (omega arith, omega arith, omega arith);
    word = r_joined w _ e _ _ codes.1 codes.0;
  })

  fence_has : opcode_of w ≡ fence_opcode → AllHave w (fence_in w)
  unfolding word_of fence_in
  fence_has e = code_has w (funct3_of w) _ _ _ (λ f. record {
    instr = (omega arith, omega arith, i_imm_fits);
    word = i_joined w _ e h _ f;
  }) tt

  system_has : AllHave w (system_in w)
  unfolding word_of system_in
  system_has = code_has w w _ _ _ (λ t. record { instr = tt; word = t })
      (code_has w w _ _ _ (λ t. record { instr = tt; word = t }) tt)

  -- what a word is decoded to has that word
  decoded_has : AllHave w (decoded w)
  unfolding decoded
  decoded_has =
      let by : (code : ℕ) (x y : Option Instr) → _ = code_has w (opcode_of w) in
      by _ _ _ (upper_has Lui) (by _ _ _ (upper_has Auipc) (by _ _ _ jal_has (by _ _ _ jalr_has (by _ _ _ branch_has
      (by _ _ _ load_has (by _ _ _ store_has (by _ _ _ op_imm_has (by _ _ _ op_has (by _ _ _ fence_has
      system_has)))))))))

-- so for an answer that is what the word is decoded to
pub found : (w : ℕ) (o : Option Instr) → w < 2 ^ 32 → o ≡ decoded w → IfSome o (λ i. HasWord i w)
found w o h e = subst (λ o. IfSome o (λ i. HasWord i w)) (sym e) (decoded_has w h)

pub HasWord-decoded : (w : ℕ) (i : Instr) → w < 2 ^ 32 → decoded w ≡ Some i → HasWord i w
HasWord-decoded w i h e = found w (Some i) h (sym e)

pub not_found : (w : ℕ) (o : Option Instr) → o ≡ decoded w → IsNone o → (i : Instr) → HasWord i w → ⊥
not_found w None e n i h = let q = e ∙ decoded-word i w h in cc q
not_found w (Some j) e n i h = (let q = n in cc q)

-- a word has one instruction at most
pub one_instr : (w : ℕ) (i j : Instr) → HasWord i w → HasWord j w → i ≡ j
one_instr w i j h k = let q = sym (decoded-word i w h) ∙ decoded-word j w k in cc

-- the word of an instruction, by itself
pub HasWord-own : (i : Instr) → IsInstr i → HasWord i (word_of i)
HasWord-own i h = record { instr = h; word = refl }

pub decoded-word_of : (i : Instr) → IsInstr i → decoded (word_of i) ≡ Some i
decoded-word_of i h = decoded-word i _ (HasWord-own i h)
