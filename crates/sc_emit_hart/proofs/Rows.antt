-- Pieces of code in a row, and pieces of one instruction.
use Rattle.sc_emit_hart.proofs.Common.{Besides, Computes, Does, Fetches, ImageParts, Instr, IsWritable, List, Load, Lui}
use Rattle.sc_emit_hart.proofs.Common.{Lw, ByteMemory, Op, OpImm, OpImmOp, OpOp, Owned, Registers, Shift, ShiftOp}
use Rattle.sc_emit_hart.proofs.Common.{Store}
use Rattle.sc_emit_hart.proofs.Common.{Stores, Sw, Upper, Walks, World, [], add_word, ap, arith, at, op_result}
use Rattle.sc_emit_hart.proofs.Common.{if◌then◌else◌, length, length-append, look, nat_eq, ne_eqb, on_registers}
use Rattle.sc_emit_hart.proofs.Common.{put_word, refl, set, shift_on_registers, subst, sym, word, word_of, ℕ, ℤ, ◌*◌}
use Rattle.sc_emit_hart.proofs.Common.{◌++◌, ◌+◌, ◌<◌, ◌∙◌, ◌∷◌, ◌≡◌, ◌≢◌}
use Rattle.sc_emit_hart.proofs.Fetching.{back_at, prefix_at}
use Rattle.sc_emit_hart.proofs.Steps.{lui, lw, op_imm, operate, shifts, sw, then_go}
use Rattle.sc_emit_hart.proofs.Registers.{put_here, put_there}

pub besides_prefix : (rs ss : List ℕ) (q : ℕ) → Besides (rs ++ ss) q → Besides rs q
besides_prefix [] ss q h = tt
besides_prefix (r ∷ rs) ss q h = (h.0, besides_prefix rs ss q h.1)

pub besides_back : (rs ss : List ℕ) (q : ℕ) → Besides (rs ++ ss) q → Besides ss q
besides_back [] ss q h = h
besides_back (r ∷ rs) ss q h = besides_back rs ss q h.1

pub look_at : (regs : Registers) (r : ℕ) → 0 < r → look regs r ≡ regs r
look_at regs r h = rw (ne_eqb r 0 (λ e. omega arith)) refl

pub set_here : (regs : Registers) (r v : ℕ) → 0 < r → set regs r v r ≡ v
set_here regs r v h = rw (ne_eqb r 0 (λ e. omega arith)) (put_here regs r v)

pub set_there : (regs : Registers) (r v q : ℕ) → 0 < r → q ≢ r → set regs r v q ≡ regs q
set_there regs r v q h k = rw (ne_eqb r 0 (λ e. omega arith)) (put_there regs r v q k)

-- a register that other registers' functions agree on
pub looked : (f g : Registers) (r a : ℕ) → f r ≡ g r → look g r ≡ a → look f r ≡ a
looked f g r a same is = ap (λ x. if nat_eq r 0 then 0 else x) same ∙ is

module _ (image : ImageParts) (inputs : List ℕ) (world : World) where
  pub in_row : {xs ys : List Instr} {regs middle after : Registers} {memory between left : ByteMemory} →
      Does image inputs world xs regs memory middle between → Does image inputs world ys middle between after left →
      Does image inputs world (xs ++ ys) regs memory after left
  in_row {xs} {ys} {regs} {middle} {after} {memory} {between} {left} first second = record {
    walks = λ pc code.
        (let steps : length xs + length ys ≡ length (xs ++ ys) = sym (length-append xs ys) in
        let following : pc + 4 * length xs + 4 * length ys ≡ pc + 4 * length (xs ++ ys) = omega (arith, steps) in
        let end : ℕ = pc + 4 * length xs + 4 * length ys in
        subst (λ p. Walks image inputs (length (xs ++ ys)) (at pc regs memory world) (at p after left world)) following
        (subst (λ n. Walks image inputs n (at pc regs memory world) (at end after left world)) steps
        (then_go image inputs (first.walks pc (prefix_at image world.active pc xs ys code))
        (second.walks (pc + 4 * length xs) (back_at image world.active pc xs ys code)))));
  }

  -- a piece that another follows, which begins with the registers after it
  pub followed_by : {xs ys : List Instr} {rs ss : List ℕ} {regs : Registers} {memory : ByteMemory} {r v rd w : ℕ} →
      (first : Computes image inputs world xs rs regs memory r v) →
      Computes image inputs world ys ss first.after memory rd w →
      Computes image inputs world (xs ++ ys) (r ∷ (rs ++ ss)) regs memory rd w
  followed_by {xs} {ys} {rs} {ss} {regs} {memory} {r} {v} {rd} {w} first second = record {
    after = second.after;
    does = in_row first.does second.does;
    result = second.result;
    others = λ q h.
        second.others q (h.0, besides_back rs ss q h.1.1) ∙ first.others q (h.1.0, besides_prefix rs ss q h.1.1);
  }

  pub stores_after : {xs ys : List Instr} {rs ss : List ℕ} {regs : Registers} {memory : ByteMemory} {r v a w : ℕ} →
      (first : Computes image inputs world xs rs regs memory r v) →
      Stores image inputs world ys ss first.after memory a w →
      Stores image inputs world (xs ++ ys) (r ∷ (rs ++ ss)) regs memory a w
  stores_after {xs} {ys} {rs} {ss} {regs} {memory} {r} {v} {a} {w} first second = record {
    after = second.after;
    does = in_row first.does second.does;
    others = λ q h. second.others q (besides_back rs ss q h.1) ∙ first.others q (h.0, besides_prefix rs ss q h.1);
  }

  -- the word under another name, and more registers that may change
  pub computes : {code : List Instr} {rs : List ℕ} {regs : Registers} {memory : ByteMemory} {rd v : ℕ} (ss : List ℕ)
      (w : ℕ) → Computes image inputs world code rs regs memory rd v → v ≡ w →
      ((q : ℕ) → Besides (rd ∷ ss) q → Besides (rd ∷ rs) q) → Computes image inputs world code ss regs memory rd w
  computes ss w piece same more = record {
    after = piece.after;
    does = piece.does;
    result = piece.result ∙ same;
    others = λ q h. piece.others q (more q h);
  }

  pub stored : {code : List Instr} {rs : List ℕ} {regs : Registers} {memory : ByteMemory} {a v : ℕ} (ss : List ℕ) →
      Stores image inputs world code rs regs memory a v → ((q : ℕ) → Besides ss q → Besides rs q) →
      Stores image inputs world code ss regs memory a v
  stored ss piece more = record {
    after = piece.after;
    does = piece.does;
    others = λ q h. piece.others q (more q h);
  }

  module _ (regs : Registers) (memory : ByteMemory) where
    -- one instruction that writes a register
    writes : (instr : Instr) (rd v : ℕ) → IsWritable rd →
        ((pc : ℕ) → Fetches image world.active pc instr →
        Walks image inputs 1 (at pc regs memory world) (at (pc + 4) (set regs rd v) memory world)) →
        Computes image inputs world (instr ∷ []) [] regs memory rd v
    writes instr rd v h go = record {
      after = set regs rd v;
      does = record { walks = λ pc code. go pc code.0 };
      result = set_here regs rd v h.above;
      others = λ q k. set_there regs rd v q h.above k.0;
    }

    pub upper : (rd imm : ℕ) → IsWritable rd →
        Computes image inputs world (Upper Lui rd imm ∷ []) [] regs memory rd imm
    upper rd imm h =
        writes (Upper Lui rd imm) rd imm h (λ pc f. lui image inputs pc regs memory world rd imm h.below f)

    pub with_number : (op : OpImmOp) (rd rs : ℕ) (imm : ℤ) (a v : ℕ) → IsWritable rd → rs < 32 → look regs rs ≡ a →
        op_result (on_registers op) a (word_of imm) ≡ v →
        Computes image inputs world (OpImm op rd rs imm ∷ []) [] regs memory rd v
    with_number op rd rs imm a v h k is e =
        writes (OpImm op rd rs imm) rd v h (λ pc f.
        op_imm image inputs pc regs memory world op rd rs imm v h.below k f
        (ap (λ x. op_result (on_registers op) x (word_of imm)) is ∙ e))

    pub with_amount : (op : ShiftOp) (rd rs amount a v : ℕ) → IsWritable rd → rs < 32 → look regs rs ≡ a →
        op_result (shift_on_registers op) a amount ≡ v →
        Computes image inputs world (Shift op rd rs amount ∷ []) [] regs memory rd v
    with_amount op rd rs amount a v h k is e =
        writes (Shift op rd rs amount) rd v h (λ pc f.
        shifts image inputs pc regs memory world op rd rs amount v h.below k f
        (ap (λ x. op_result (shift_on_registers op) x amount) is ∙ e))

    pub of_two : (op : OpOp) (rd left right a b v : ℕ) → IsWritable rd → left < 32 → right < 32 → look regs left ≡ a →
        look regs right ≡ b → op_result op a b ≡ v →
        Computes image inputs world (Op op rd left right ∷ []) [] regs memory rd v
    of_two op rd left right a b v h k l is its e =
        writes (Op op rd left right) rd v h (λ pc f.
        operate image inputs pc regs memory world op rd left right v h.below k l f
        (ap (λ x. op_result op x (look regs right)) is ∙ ap (op_result op a) its ∙ e))

    pub loads : (rd rs : ℕ) (imm : ℤ) (a : ℕ) → IsWritable rd → rs < 32 → add_word (look regs rs) (word_of imm) ≡ a →
        Owned image world.active a →
        Computes image inputs world (Load Lw rd rs imm ∷ []) [] regs memory rd (word memory a)
    loads rd rs imm a h k e owned =
        writes (Load Lw rd rs imm) rd (word memory a) h (λ pc f.
        lw image inputs pc regs memory world rd rs imm a h.below k f e owned)

    pub stores : (base rs : ℕ) (imm : ℤ) (a v : ℕ) → base < 32 → rs < 32 →
        add_word (look regs base) (word_of imm) ≡ a → look regs rs ≡ v → Owned image world.active a →
        Stores image inputs world (Store Sw base rs imm ∷ []) [] regs memory a v
    stores base rs imm a v h k e is owned = record {
      after = regs;
      does = record {
        walks = λ pc code.
            subst
            (λ x. Walks image inputs 1 (at pc regs memory world) (at (pc + 4) regs (put_word memory a x) world)) is
            (sw image inputs pc regs memory world base rs imm a h k code.0 e owned);
      };
      others = λ q k. refl;
    }
