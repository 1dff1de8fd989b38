-- The epilogue of a function: a return, and the closing brace.
use Rattle.sc_emit.proofs.Common.{Activation, Addi, All, Bool, Calls, CodeAt, Computes, Does, Entry, Export, Follows}
use Rattle.sc_emit.proofs.Common.{FrameTree, Goes, Instr, IsRunning, IsWellFormed, IsWord, Jalr, Joint, LeavesFrame}
use Rattle.sc_emit.proofs.Common.{List, Lives, Main, None, OpImm, Option, Owned, Place, Ready, Registers, Return}
use Rattle.sc_emit.proofs.Common.{Returns, ReturnsValue, Running, Setting, Some, Standpoint, StandsFor, TacFnTree}
use Rattle.sc_emit.proofs.Common.{TempSet, Temps, Value, Walks, Word, [], a0, and_first, and_from, ap, append_assoc}
use Rattle.sc_emit.proofs.Common.{arith, at, back_at, brought, closing, code_step, comes_read, epilogue}
use Rattle.sc_emit.proofs.Common.{epilogue_to_jump, eq-eqb, in_row, inl, is_one, leads_less, leads_moved, leave}
use Rattle.sc_emit.proofs.Common.{leaves_frame, length, length-append, list_all, machine, moved, one_or_none, place_of}
use Rattle.sc_emit.proofs.Common.{pos, prefix_at, ra, refl, return, return_does, role_of_return, same_entry, seen_from}
use Rattle.sc_emit.proofs.Common.{select_step, settled_moved, sp, stays, straightly, subst, sym, trail_step, true}
use Rattle.sc_emit.proofs.Common.{with_number, word, wrapping, ℕ, ◌*◌, ◌++◌, ◌+◌, ◌∙◌, ◌∷◌, ◌≡◌, ◌≤◌}
use Rattle.sc_tac.specs.Prelude.{nothing}
use Rattle.sc_tac.specs.declared.stmt.TacStmt.TheOpen as tac
use Rattle.sc_emit.proofs.Arguments.{Brings, brings}
use Rattle.sc_emit.proofs.Functions.{PlacesAll, given_at_brace, in_call, BraceReturns}
use Rattle.sc_emit.proofs.Operands.{world, walks_to}
use Rattle.sc_emit.proofs.Straight.{ComesStraight, read_goes, straight_follows, with_role}

module _ {T : Setting} {R : Running} (valid : IsRunning T R) where
  abbrev A : Activation
  A = R.activation

  abbrev P : Standpoint
  P = seen_from R.activation

  abbrev frame : FrameTree
  frame = R.activation.frame

  module _ (live : TempSet) (temps : Temps) (x : Joint) (ready : Ready T R live temps x) where
    -- code leaves the value in a0
    pub record Puts (code : List Instr) (v : Option Value) : Type 0 where
      pub after : Registers
      pub does : Does T.image T.inputs (world T R x) code x.regs x.bytes after x.bytes
      pub same : after sp ≡ x.regs sp
      pub value : ReturnsValue T (x.inj A.here.comp) (after a0) v

    -- the frame is left
    leaves : (after : Registers) → after sp ≡ x.regs sp →
        LeavesFrame T.image T.inputs (world T R x) frame.bytes after x.bytes
    leaves after same =
        let at_sp : after sp ≡ A.sp = same ∙ ready.sp in
        let here : A.sp + 0 ≡ A.sp = omega arith in
        let owned : Owned T.image A.here.comp (A.sp + 0) = (ready.frame.guard 0 0 refl).owned in
        leaves_frame T.image T.inputs (world T R x) x.bytes after frame.bytes
        (omega (arith, at_sp, valid.is.high, valid.is.known))
        (subst (Owned T.image A.here.comp) (here ∙ sym at_sp) owned)

    left_by : (code : List Instr) (v : Option Value) (budget : ℕ) (p : Puts code v)
        (l : LeavesFrame T.image T.inputs (world T R x) frame.bytes p.after x.bytes) →
        length (code ++ epilogue frame.bytes) ≤ budget →
        CodeAt T.image A.here.comp x.pc (code ++ epilogue frame.bytes) → Returns T R x budget v x.meant
    left_by code v budget p l enough stands =
        let raised : List Instr = epilogue_to_jump frame.bytes in
        let n : ℕ = length (code ++ raised) in
        let jump : List Instr = Jalr 0 ra (pos 0) ∷ [] in
        let whole : code ++ epilogue frame.bytes ≡ (code ++ raised) ++ jump = sym (append_assoc code raised jump) in
        let at : CodeAt T.image A.here.comp x.pc ((code ++ raised) ++ jump) =
        subst (CodeAt T.image A.here.comp x.pc) whole stands in
        let long : length (code ++ epilogue frame.bytes) ≡ n + 1 =
        ap length whole ∙ length-append (code ++ raised) jump in
        let walks : Walks T.image T.inputs n (machine P x) (machine P (moved x (x.pc + 4 * n) l.after x.bytes)) =
        walks_to T R x (code ++ raised) l.after x.bytes (in_row T.image T.inputs (world T R x) p.does l.does)
        (prefix_at T.image A.here.comp x.pc (code ++ raised) jump at) in
        let ra_is : l.after ra ≡ A.ra =
        l.loaded ∙ ap (word x.bytes) (p.same ∙ ready.sp) ∙ ready.frame.ra in
        let a0_is : l.after a0 ≡ p.after a0 =
        l.others a0 ((λ e. omega (arith, e)), ((λ e. omega (arith, e)), ((λ e. omega (arith, e)), tt))) in
        record {
          y = moved x (x.pc + 4 * n) l.after x.bytes;
          meant_is = refl;
          jump = (back_at T.image A.here.comp x.pc (code ++ raised) jump at).0;
          ra = ra_is;
          sp = l.raised ∙ ap (λ s. s + frame.bytes) (p.same ∙ ready.sp);
          value = given_in v (l.after a0) (p.after a0) a0_is p.value;
          leads = leads_less T P x (moved x (x.pc + 4 * n) l.after x.bytes) (n + 1) 1 budget 1
              (omega (arith, long, enough))
              (omega arith)
              (leads_moved T valid.formed valid.inputs P x n 1 (x.pc + 4 * n) l.after x.bytes (λ k q g. refl) walks);
          settled = settled_moved T valid.formed valid.inputs P x n (x.pc + 4 * n) l.after x.bytes ready.settled
              (λ k b a i cells h on e l. refl) walks;
        }
      where
        given_in : (v : Option Value) (w u : ℕ) → w ≡ u → ReturnsValue T (x.inj A.here.comp) u v →
            ReturnsValue T (x.inj A.here.comp) w v
        given_in None w u e h = tt
        given_in (Some v) w u e h = subst (λ w. StandsFor (x.inj A.here.comp) w v) (sym e) h

    -- the value is in a0, and the frame is left: the jump back is all that is to be done
    pub leaves_with : (code : List Instr) (v : Option Value) (budget : ℕ) → Puts code v →
        length (code ++ epilogue frame.bytes) ≤ budget →
        CodeAt T.image A.here.comp x.pc (code ++ epilogue frame.bytes) → Returns T R x budget v x.meant
    leaves_with code v budget p enough stands =
        left_by code v budget p (leaves p.after p.same) enough stands

    no_code : Puts [] None
    no_code = record {
      after = x.regs;
      does = record { walks = λ pc code. no_steps pc };
      same = refl;
      value = tt;
    }
      where
        no_steps : (pc : ℕ) →
            Walks T.image T.inputs 0 (at pc x.regs x.bytes (world T R x)) (at (pc + 4 * 0) x.regs x.bytes (world T R x))
        no_steps pc =
            let e : pc ≡ pc + 4 * 0 = omega arith in
            subst (λ p. Walks T.image T.inputs 0 (at pc x.regs x.bytes (world T R x))
            (at p x.regs x.bytes (world T R x))) e (record { by = refl })

    -- without a value
    pub leaves_alone : (budget : ℕ) → length (epilogue frame.bytes) ≤ budget →
        CodeAt T.image A.here.comp x.pc (epilogue frame.bytes) → Returns T R x budget None x.meant
    leaves_alone budget enough stands = leaves_with [] None budget no_code enough stands

    zero_put : Puts (OpImm Addi a0 0 (pos 0) ∷ []) (Some (Word 0))
    zero_put =
        let u : Computes T.image T.inputs (world T R x) (OpImm Addi a0 0 (pos 0) ∷ []) [] x.regs x.bytes a0 0 =
        with_number T.image T.inputs (world T R x) x.regs x.bytes Addi a0 0 (pos 0) 0 0
        (record { above = omega arith; below = omega arith }) (omega arith) refl (omega arith) in
        record {
          after = u.after;
          does = u.does;
          same = u.others sp ((λ e. omega (arith, e)), tt);
          value = record { word = omega (arith, u.result); means = u.result };
        }

    -- at the closing brace
    pub leaves_at_brace : (entry : Option Entry) (budget : ℕ) → length (closing frame R.places entry) ≤ budget →
        CodeAt T.image A.here.comp x.pc (closing frame R.places entry) →
        Returns T R x budget (given_at_brace (same_entry Main entry)) x.meant
    leaves_at_brace None budget enough stands = leaves_alone budget enough stands
    leaves_at_brace (Some Main) budget enough stands =
        leaves_with (OpImm Addi a0 0 (pos 0) ∷ []) (Some (Word 0)) budget zero_put enough stands
    leaves_at_brace (Some (Export index)) budget enough stands = leaves_alone budget enough stands

  -- Returns.

  module _ (calls : Calls) where
    puts : (t : ℕ) (v : Value) (live : TempSet) (temps : Temps) (x : Joint) (ready : Ready T R live temps x) →
        live t ≡ true → R.plan.needed t ≡ true → temps t ≡ Some v →
        Puts live temps x ready (brought frame a0 (place_of frame R.places t)) (Some v)
    puts t v live temps x ready on need known =
        let b : Brings valid x ready.frame ready.sp x.regs
        (brought frame a0 (place_of frame R.places t)) a0 v =
        brings valid x ready.frame ready.sp x.regs a0 t v (record { above = omega arith; below = omega arith })
        (ready.held t v (and_from (live t) (R.plan.needed t) on need)
        known) refl
        (λ q h. refl) in
        record {
          after = b.piece.after;
          does = b.piece.does;
          same = b.piece.others sp ((λ e. omega (arith, e)), ((λ e. omega (arith, e)), tt));
          value = subst (λ w. StandsFor (x.inj A.here.comp) w v) (sym b.piece.result) b.stands;
        }

    pub return_goes : (value : Option ℕ) (temps : Temps) → Goes (return_does A.here value temps)
    return_goes None temps = stays (record { exit = Return None; carried = temps })
    return_goes (Some t) temps =
        read_goes A.here t temps (λ v s. leave (Return (Some v)) temps s)
        (λ v. stays (record { exit = Return (Some v); carried = temps }))

    returns : (value : Option ℕ) → list_all R.plan.needed (one_or_none value) ≡ true →
        (lives : Lives) (temps : Temps) (x : Joint) (left : ℕ) →
        Ready T R (λ t. is_one t (one_or_none value)) temps x →
        CodeAt T.image A.here.comp x.pc (return frame R.places value) →
        ComesStraight T R lives x (return frame R.places value) left (return_does A.here value temps x.meant)
    returns None needs lives temps x left ready code ends e f =
        inl (leaves_alone (λ t. is_one t (one_or_none None)) temps x ready (length (epilogue frame.bytes) + left)
        (omega arith) code)
    returns (Some t) needs lives temps x left ready code ends e f =
        let live : TempSet = λ u. is_one u (one_or_none (Some t)) in
        let before : List Instr = brought frame a0 (place_of frame R.places t) in
        let budget : ℕ = length (before ++ epilogue frame.bytes) + left in
        comes_read T R lives x budget ends A.here t temps (λ v s. leave (Return (Some v)) temps s)
        (λ v known. inl (leaves_with live temps x ready before (Some v) budget
        (puts t v live temps x ready (rw (eq-eqb t t refl) refl) (and_first (R.plan.needed t) true needs) known) (omega
        arith) code))

    pub return_follows : (value : Option ℕ) → list_all R.plan.needed (one_or_none value) ≡ true →
        Follows T R (code_step wrapping A.here calls (tac.Return value)) (select_step frame R.places R.plan
        (tac.Return value))
        (trail_step (tac.Return value))
    return_follows value needs =
        with_role T R (code_step wrapping A.here calls (tac.Return value))
        (straightly frame R.places (return frame R.places value)) (role_of_return value) (trail_step (tac.Return value))
        (straight_follows T R (code_step wrapping A.here calls (tac.Return value)) (return frame R.places value)
        (trail_step (tac.Return value)) (return_goes value)
        (λ lives temps x left ready clear code. returns value needs lives temps x left ready code))

-- the code of a closing brace comes to the jump back, in each call of its function
pub brace_returns : (T : Setting) (f : TacFnTree) (frame : FrameTree) (places : List Place) (near : Bool) →
    IsWellFormed T.image → All IsWord T.inputs → PlacesAll T f frame places near → (comp : ℕ) →
    BraceReturns T f frame places near comp
brace_returns T f frame places near formed inputs placed comp A last run gapless x temps ready code =
    let R : Running = in_call T f frame places near A last in
    let same : closing A.frame places f.entry ≡ closing frame places f.entry =
    ap (λ frame. closing frame places f.entry) run.frame_is in
    let valid : IsRunning T R = record {
      formed = formed;
      inputs = inputs;
      cells = f.objects;
      nodes = f.nodes;
      is = run.is;
      placed = placed A last run.frame_is;
      gapless = gapless;
    } in
    leaves_at_brace valid nothing temps x ready f.entry
    (length (closing frame places f.entry)) (let e : length (closing A.frame places f.entry) ≡
    length (closing frame places f.entry) = ap length same in omega (arith, e))
    (subst (CodeAt T.image A.here.comp x.pc) (sym same) code)
