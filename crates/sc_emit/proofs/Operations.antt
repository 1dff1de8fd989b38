-- Operators, loads and stores.
use Rattle.sc_emit.proofs.Common.{All, AreOperands, Arrives, Blocks, Bool, Calls, Cause, CodeAt, Comes, Computes, Does}
use Rattle.sc_emit.proofs.Common.{Ends, Err, Follows, FrameTree, Goes, Gone, HasNoOtherUse, Instr, IsClear, IsLoaded}
use Rattle.sc_emit.proofs.Common.{IsRunning, IsSound, Joint, List, Lives, Load, Next, None, Ok, Option, Other, Place}
use Rattle.sc_emit.proofs.Common.{Reached, Ready, Registers, Result, Running, Setting, Settled, Some, StandsFor}
use Rattle.sc_emit.proofs.Common.{State as Meant, Store, Stores, Sw, TacOp, TempSet, Temps, Value, [], add_word}
use Rattle.sc_emit.proofs.Common.{and_from, and_then, ap, append-nil, append_assoc, arith, code_step, comes_computed}
use Rattle.sc_emit.proofs.Common.{comes_read, computed, emits_here, eq-eqb, false, first_scratch, gets, in_row, inl}
use Rattle.sc_emit.proofs.Common.{is_one, is_some, keep, leave, length, live_plain, load, load_from, loads, look}
use Rattle.sc_emit.proofs.Common.{looked, may_store, one_or_none, op_code, op_word, operand, operated, operation}
use Rattle.sc_emit.proofs.Common.{operator_stands, or_left, or_right, plain_points, pos, prefix_same, read, refl}
use Rattle.sc_emit.proofs.Common.{result_register, role_of_load, role_of_operation, role_of_store, same, second_operand}
use Rattle.sc_emit.proofs.Common.{second_scratch, seen_from, select_step, slice_get, sp, stays, store, store_to, stored}
use Rattle.sc_emit.proofs.Common.{stores, straightly, subst, sym, take, takes_two, trail_step, true, with_memory}
use Rattle.sc_emit.proofs.Common.{with_temp, word, word_of, wrapping, ℕ, ⊎_elim, ◌*◌, ◌++◌, ◌+◌, ◌==◌, ◌∙◌, ◌∷◌, ◌≡◌}
use Rattle.rv_code.specs.declared.instr.LoadOp.TheVariants.{Lw}
use Rattle.sc_emit_hart.proofs.Rows.{stores as stores_to, loads as loads_from}
use Rattle.sc_tac.specs.declared.stmt.TacStmt.TheOpen as tac
use Rattle.sc_emit_hart.proofs.Operators.{gives_word}
use Rattle.sc_emit.proofs.Operands.{AtHand, Gives, first_is, second_is, brings, keeps, world}
use Rattle.sc_emit.proofs.Plain.{IsResult, result_is}
use Rattle.sc_emit.proofs.Straight.{comes_past, read_goes, computed_goes, straight_follows, with_role}

module _ {T : Setting} {R : Running} (valid : IsRunning T R) (calls : Calls)
  where
    abbrev frame : FrameTree
    frame = R.activation.frame

    only_one : (t : ℕ) (rest : List ℕ) → is_one t (t ∷ rest) ≡ true
    only_one t rest = rw (eq-eqb t t refl) refl

    second_one : (t u : ℕ) → is_one u (t ∷ u ∷ []) ≡ true
    second_one t u = or_right (t == u) _ (only_one u [])

    live_read : (reads : List ℕ) (dest : Option ℕ) (lives : Lives) (t : ℕ) → is_one t reads ≡ true →
        live_plain reads dest lives t ≡ true
    live_read reads dest lives t h = or_left (is_one t reads) _ h

    module _ (live : TempSet) (temps : Temps) (x : Joint) (ready : Ready T R live temps x) where
      -- one operand at hand
      first_at_hand : (t : ℕ) (v : Value) → live t ≡ true → R.plan.needed t ≡ true → temps t ≡ Some v →
          AtHand T R x x.regs first_scratch t v
      first_at_hand t v on need known =
          brings T R x valid ready.frame ready.sp x.regs first_scratch t v first_is
          (ready.held t v (and_from (live t) (R.plan.needed t) on need) known)
          refl (λ q h. refl)

      -- two operands at hand
      record Both (left right : ℕ) (v w : Value) : Type 0 where
        one : ℕ
        two : ℕ
        one_stands : StandsFor (x.inj R.activation.here.comp) one v
        two_stands : StandsFor (x.inj R.activation.here.comp) two w
        after : Registers
        does : Does T.image T.inputs (world T R x) (take frame R.places first_scratch left ++
            take frame R.places second_scratch right) x.regs x.bytes after x.bytes
        operands : AreOperands after (operand frame R.places first_scratch left)
            (operand frame R.places second_scratch right) one two
        same : after sp ≡ x.regs sp
        others : (q : ℕ) → HasNoOtherUse q → after q ≡ x.regs q

      both_at_hand : (left right : ℕ) (v w : Value) → live left ≡ true → R.plan.needed left ≡ true →
          temps left ≡ Some v →
          live right ≡ true → R.plan.needed right ≡ true → temps right ≡ Some w → Both left right v w
      both_at_hand left right v w on need known on' need' known' =
          let g : AtHand T R x x.regs first_scratch left v = first_at_hand left v on need known in
          let same : g.after sp ≡ x.regs sp = g.others sp ((λ e. omega (arith, e)), ((λ e. omega (arith, e)), tt)) in
          let h : AtHand T R x g.after second_scratch right w =
          brings T R x valid ready.frame ready.sp g.after second_scratch right w second_is
          (ready.held right w (and_from (live right) (R.plan.needed right) on' need') known') same (λ q k. g.others q
          (k.first, (k.address, tt))) in
          record {
            one = g.word;
            two = h.word;
            one_stands = g.stands;
            two_stands = h.stands;
            after = h.after;
            does = in_row T.image T.inputs (world T R x) g.does h.does;
            operands = record {
              left_below = g.below;
              left_second = ⊎_elim (λ e. (λ f. omega (arith, e, f))) (λ k. k.second) g.its;
              left_address = ⊎_elim (λ e. (λ f. omega (arith, e, f))) (λ k. k.address) g.its;
              right_below = h.below;
              right_first = ⊎_elim (λ e. (λ f. omega (arith, e, f))) (λ k. k.first) h.its;
              right_address = ⊎_elim (λ e. (λ f. omega (arith, e, f))) (λ k. k.address) h.its;
              left_is = looked h.after g.after (operand frame R.places first_scratch left) g.word
                  (h.others (operand frame R.places first_scratch left) (
                    ⊎_elim (λ e. (λ f. omega (arith, e, f))) (λ k. k.second) g.its,
                    (⊎_elim (λ e. (λ f. omega (arith, e, f))) (λ k. k.address) g.its, tt),
                  )) g.result;
              right_is = h.result;
              left_word = g.stands.word;
              right_word = h.stands.word;
            };
            same = h.others sp ((λ e. omega (arith, e)), ((λ e. omega (arith, e)), tt)) ∙ same;
            others = λ q k. h.others q (k.second, (k.address, tt)) ∙ g.others q (k.first, (k.address, tt));
          }

    -- Loads.

    pub load_follows : (dest place : ℕ) (pointer : Bool) (to : Place) → slice_get R.places dest ≡ Some to →
        R.plan.needed place ≡ true →
        Follows T R (code_step wrapping R.activation.here calls (tac.Load dest place pointer))
        (select_step frame R.places R.plan (tac.Load dest place pointer)) (trail_step (tac.Load dest place pointer))
    load_follows dest place pointer to its need =
        let rd : ℕ = result_register frame R.places dest in
        let rs : ℕ = operand frame R.places first_scratch place in
        let before : List Instr = take frame R.places first_scratch place in
        let code : List Instr = before ++ Load Lw rd rs (pos 0) ∷ [] in
        let whole : code ++ keep frame R.places dest ≡ load_from frame R.places dest place =
        append_assoc before (Load Lw rd rs (pos 0) ∷ []) (keep frame R.places dest) in
        with_role T R (code_step wrapping R.activation.here calls (tac.Load dest place pointer))
        (straightly frame R.places (load_from frame R.places dest place)) (role_of_load frame R.places dest place)
        (trail_step (tac.Load dest place pointer))
        (straight_follows T R (code_step wrapping R.activation.here calls (tac.Load dest place pointer))
        (load_from frame R.places dest place) (trail_step (tac.Load dest place pointer))
        (λ temps. read_goes R.activation.here place temps
        (λ q s. gets R.activation.here dest (load (s.memory R.activation.here.comp) pointer q) temps s)
        (λ q s. computed_goes R.activation.here (load (s.memory R.activation.here.comp) pointer q)
        (λ v s. leave Next (with_temp dest v temps) s)
        (λ v. stays (record { exit = Next; carried = with_temp dest v temps })) s))
        (λ lives temps x left ready clear at ends e f.
        comes_read T R lives x (length (load_from frame R.places dest place) + left) ends R.activation.here place temps
        (λ q s. gets R.activation.here dest (load (s.memory R.activation.here.comp) pointer q) temps s)
        (λ q known.
        comes_computed T R lives x (length (load_from frame R.places dest place) + left) ends R.activation.here 0
        (load (x.meant.memory R.activation.here.comp) pointer q) (λ v s. leave Next (with_temp dest v temps) s)
        (λ v found.
        (let live : TempSet = live_plain (place ∷ []) (Some dest) lives in
        let h : AtHand T R x x.regs first_scratch place q =
        first_at_hand live temps x ready place q
        (live_read (place ∷ []) (Some dest) lives place (only_one place [])) need known in
        let got : IsLoaded valid x h.word v =
        loads valid live temps x h.word pointer q v ready h.stands found in
        let w : IsResult rd = result_is R valid.placed dest to its in
        let sum : add_word (look h.after rs) (word_of (pos 0)) ≡ h.word =
        ap (λ a. add_word a (word_of (pos 0))) h.result ∙ omega (arith, h.stands.word) in
        let piece : Computes T.image T.inputs (world T R x) (Load Lw rd rs (pos 0) ∷ []) [] h.after x.bytes rd
        (word x.bytes h.word) =
        loads_from T.image T.inputs (world T R x) h.after x.bytes rd rs (pos 0) h.word w.writable h.below sum got.owned
        in
        let g : Gives T R x code rd v = record {
          word = word x.bytes h.word;
          stands = got.stands;
          after = piece.after;
          does = in_row T.image T.inputs (world T R x) h.does piece.does;
          result = piece.result;
          same = piece.others sp (w.not_sp, tt) ∙
              h.others sp ((λ e. omega (arith, e)), ((λ e. omega (arith, e)), tt));
          others = λ q k n. piece.others q (n, tt) ∙ h.others q (k.first, (k.address, tt));
        } in
        comes_past T R lives x (load_from frame R.places dest place) left (with_temp dest v temps) x.meant
        (subst (λ code. Arrives T R lives.following x (length code + left) left (with_temp dest v temps) x.meant
        (x.pc + 4 * length code)) whole (keeps T R x valid ready.frame ready.sp lives temps (place ∷ []) dest left ready
        clear v
        code to its g (subst (CodeAt T.image R.activation.here.comp x.pc) (sym whole) at))) ends e f)))))

    -- Stores.

    pub stored_goes : (q v : Value) (temps : Temps) → Goes (stored R.activation.here q v 0 temps)
    stored_goes q v temps s = by (store (s.memory R.activation.here.comp) q v)
      where
        by : (result : Result Blocks Cause) →
            Gone s (and_then (computed R.activation.here 0 result s)
            (λ blocks s. leave Next temps (with_memory R.activation.here.comp blocks s)))
        by (Ok blocks) = record {
          grown = record {
            events = prefix_same s.trace;
            frames = prefix_same s.frames;
            late = tt;
            turns = omega arith;
          };
          stop = tt;
        }
        by (Err cause) = record { grown = same s; stop = tt }

    pub comes_stored : (lives : Lives) (x : Joint) (budget : ℕ) (ends : Ends) (q v : Value) (temps : Temps) →
        ((after : Blocks) → store (x.meant.memory R.activation.here.comp) q v ≡ Ok after →
        Comes T R lives x budget ends
        (Reached (record { exit = Next; carried = temps }) (with_memory R.activation.here.comp after x.meant))) →
        Comes T R lives x budget ends (stored R.activation.here q v 0 temps x.meant)
    comes_stored lives x budget ends q v temps h = by (store (x.meant.memory R.activation.here.comp) q v) h
      where
        by : (result : Result Blocks Cause) →
            ((after : Blocks) → result ≡ Ok after → Comes T R lives x budget ends
            (Reached (record { exit = Next; carried = temps }) (with_memory R.activation.here.comp after
            x.meant))) →
            Comes T R lives x budget ends (and_then (computed R.activation.here 0 result x.meant)
            (λ blocks s. leave Next temps (with_memory R.activation.here.comp blocks s)))
        by (Ok after) h = h after refl
        by (Err cause) h = inl (emits_here T (seen_from R.activation) x budget)

    pub store_follows : (place value : ℕ) → R.plan.needed place ≡ true → R.plan.needed value ≡ true →
        Follows T R (code_step wrapping R.activation.here calls (tac.Store place value))
        (select_step frame R.places R.plan (tac.Store place value)) (trail_step (tac.Store place value))
    store_follows place value need need' =
        let comp : ℕ = R.activation.here.comp in
        let base : ℕ = operand frame R.places first_scratch place in
        let rs : ℕ = operand frame R.places second_scratch value in
        let before : List Instr = take frame R.places first_scratch place ++ take frame R.places second_scratch value in
        let last : List Instr = Store Sw base rs (pos 0) ∷ [] in
        let reads : List ℕ = place ∷ value ∷ [] in
        with_role T R (code_step wrapping R.activation.here calls (tac.Store place value))
        (straightly frame R.places (store_to frame R.places place value)) (role_of_store R.plan.needed place value)
        (trail_step (tac.Store place value))
        (straight_follows T R (code_step wrapping R.activation.here calls (tac.Store place value))
        (store_to frame R.places place value) (trail_step (tac.Store place value))
        (λ temps. read_goes R.activation.here place temps
        (λ q s. and_then (read R.activation.here value temps s) (λ v s. stored R.activation.here q v 0 temps s))
        (λ q. read_goes R.activation.here value temps (λ v s. stored R.activation.here q v 0 temps s)
        (λ v. stored_goes q v temps)))
        (λ lives temps x left ready clear at ends e f.
        comes_read T R lives x (length (store_to frame R.places place value) + left) ends R.activation.here place temps
        (λ q s. and_then (read R.activation.here value temps s) (λ v s. stored R.activation.here q v 0 temps s))
        (λ q known.
        comes_read T R lives x (length (store_to frame R.places place value) + left) ends R.activation.here value temps
        (λ v s. stored R.activation.here q v 0 temps s)
        (λ v known'.
        comes_stored lives x (length (store_to frame R.places place value) + left) ends q v temps
        (λ after found.
        (let live : TempSet = live_plain reads None lives in
        let h : Both live temps x ready place value q v =
        both_at_hand live temps x ready place value q v
        (live_read reads None lives place (only_one place (value ∷ []))) need known
        (live_read reads None lives value (second_one place value)) need' known' in
        let sum : add_word (look h.after base) (word_of (pos 0)) ≡ h.one =
        ap (λ a. add_word a (word_of (pos 0))) h.operands.left_is ∙ omega (arith, h.one_stands.word) in
        let piece : Stores T.image T.inputs (world T R x) last [] h.after x.bytes h.one h.two =
        stores_to T.image T.inputs (world T R x) h.after x.bytes base rs (pos 0) h.one h.two h.operands.left_below
        h.operands.right_below sum h.operands.right_is
        (may_store valid live temps x h.one q v after ready h.one_stands found) in
        let does = in_row T.image T.inputs (world T R x) h.does piece.does in
        let code : List Instr = store_to frame R.places place value in
        comes_past T R lives x code left temps (with_memory comp after x.meant)
        (stores valid reads lives temps x (length code) left (x.pc + 4 * length code) h.one h.two
        q v after piece.after ready h.one_stands found h.two_stands (piece.others sp tt ∙ h.same)
        (λ r k. piece.others r tt ∙ h.others r k)
        (does.walks x.pc at)) ends e f))))))

    -- Operators.

    module _ (dest : ℕ) (o : TacOp) (left_one : ℕ) (to : Place) (its : slice_get R.places dest ≡ Some to) where
      abbrev rd : ℕ
      rd = result_register frame R.places dest

      abbrev comp : ℕ
      comp = R.activation.here.comp

      -- two registers that hold what stands for two values give what stands for what the operator gives
      operated_gives : (x : Joint) (before : List Instr) (after : Registers) (left right a b : ℕ) (v w r : Value) →
          Settled T (seen_from R.activation) x →
          Does T.image T.inputs (world T R x) before x.regs x.bytes after x.bytes → AreOperands after left right a b →
          StandsFor (x.inj comp) a v → (takes_two o ≡ true → StandsFor (x.inj comp) b w) → IsSound o →
          operated wrapping (x.meant.memory comp) o v w ≡ Ok r → after sp ≡ x.regs sp →
          ((q : ℕ) → HasNoOtherUse q → after q ≡ x.regs q) → Gives T R x (before ++ op_code rd left right o) rd r
      operated_gives x before after left right a b v w r settled does operands one two for gave same others =
          let d : IsResult rd = result_is R valid.placed dest to its in
          let piece : Computes T.image T.inputs (world T R x) (op_code rd left right o) (5 ∷ 6 ∷ 7 ∷
          []) after x.bytes rd
          (op_word o a b) =
          gives_word T.image T.inputs (world T R x) x.bytes after rd left right a b d.writable operands o in
          record {
            word = op_word o a b;
            stands = operator_stands settled.blocks valid.is.honest valid.is.known o v w r a b for gave
                operands.right_word one two;
            after = piece.after;
            does = in_row T.image T.inputs (world T R x) does piece.does;
            result = piece.result;
            same = piece.others sp (
              d.not_sp,
              (
                (λ e. omega (arith, e)),
                (
                  (λ e. omega (arith, e)),
                  (
                    (λ e. omega (
                      arith,
                      e,
                    )),
                    tt,
                  ),
                ),
              ),
            ) ∙ same;
            others = λ q k n. piece.others q (n, (k.first, (k.second, (k.address, tt)))) ∙ others q k;
          }

      -- what it is to be followed, where the operator gives a value
      abbrev Whole : Option ℕ → List Instr
      Whole right = operation frame R.places dest o left_one right

      abbrev reads : Option ℕ → List ℕ
      reads right = left_one ∷ one_or_none right

      module _ (right : Option ℕ) (for : IsSound o)
          (lives : Lives) (temps : Temps) (x : Joint) (left : ℕ)
          (ready : Ready T R (live_plain (reads right) (Some dest) lives) temps x)
          (clear : All (IsClear R.places) (plain_points (reads right) false (Some dest) lives))
          (at_pc : CodeAt T.image comp x.pc (Whole right)) (ends : Ends) (e : ends.left ≡ left)
          (f : ends.following ≡ x.pc + 4 * length (Whole right)) where
        abbrev Result_comes : Value → Value → Type 0
        Result_comes v w =
            Comes T R lives x (length (Whole right) + left) ends
            (gets R.activation.here dest (operated wrapping (x.meant.memory comp) o v w) temps x.meant)

        -- from operands at hand
        from_operands : (before : List Instr) → Whole right ≡
            before ++ op_code rd (operand frame R.places first_scratch left_one) (second_operand frame R.places
            right) o ++
            keep frame R.places dest → (after : Registers) (a b : ℕ) (v w : Value) →
            Does T.image T.inputs (world T R x) before x.regs x.bytes after x.bytes →
            AreOperands after (operand frame R.places first_scratch left_one) (second_operand frame R.places
            right) a b →
            StandsFor (x.inj comp) a v → (takes_two o ≡ true → StandsFor (x.inj comp) b w) → after sp ≡ x.regs sp →
            ((q : ℕ) → HasNoOtherUse q → after q ≡ x.regs q) → Result_comes v w
        from_operands before whole after a b v w does operands one two same others =
            comes_computed T R lives x (length (Whole right) + left) ends R.activation.here 0
            (operated wrapping (x.meant.memory comp) o v w) (λ r s. leave Next (with_temp dest r temps) s)
            (λ r gave.
            (let l : ℕ = operand frame R.places first_scratch left_one in
            let code : List Instr = before ++ op_code rd l (second_operand frame R.places right) o in
            let g : Gives T R x code rd r =
            operated_gives x before after l (second_operand frame R.places
            right) a b v w r ready.settled does operands one
            two for gave same others in
            comes_past T R lives x (Whole right) left (with_temp dest r temps) x.meant
            (subst (λ code. Arrives T R lives.following x (length code + left) left (with_temp dest r temps) x.meant
            (x.pc + 4 * length code)) (sym whole)
            (keeps T R x valid ready.frame ready.sp lives temps (reads right) dest left ready
            clear r code to its g (subst (CodeAt T.image comp x.pc) whole at_pc))) ends e f))

      -- an operator that takes one value
      one_operand : takes_two o ≡ false → IsSound o → R.plan.needed left_one ≡ true →
          Follows T R (code_step wrapping R.activation.here calls (tac.Op dest o left_one None))
          (straightly frame R.places (Whole None)) (trail_step (tac.Op dest o left_one None))
      one_operand one for need =
          straight_follows T R (code_step wrapping R.activation.here calls (tac.Op dest o left_one None)) (Whole None)
          (trail_step (tac.Op dest o left_one None))
          (λ temps. read_goes R.activation.here left_one temps
          (λ v s. gets R.activation.here dest (operated wrapping (s.memory comp) o v v) temps s)
          (λ v s. gets_goes (operated wrapping (s.memory comp) o v v) temps s))
          (λ lives temps x left ready clear at ends e f.
          comes_read T R lives x (length (Whole None) + left) ends R.activation.here left_one temps
          (λ v s. gets R.activation.here dest (operated wrapping (s.memory comp) o v v) temps s)
          (λ v known.
          (let live : TempSet = live_plain (left_one ∷ []) (Some dest) lives in
          let h : AtHand T R x x.regs first_scratch left_one v =
          first_at_hand live temps x ready left_one v
          (live_read (left_one ∷ []) (Some dest) lives left_one (only_one left_one [])) need known in
          let none : take frame R.places first_scratch left_one ++ [] ≡ take frame R.places first_scratch left_one =
          append-nil (take frame R.places first_scratch left_one) in
          from_operands None for lives temps x left ready clear at ends e f (take frame R.places first_scratch left_one)
          (ap (λ code. code ++ op_code rd (operand frame R.places first_scratch left_one) 0 o ++ keep frame R.places
          dest)
          none) h.after h.word 0 v v h.does
          (record {
            left_below = h.below;
            left_second = ⊎_elim (λ e. (λ f. omega (arith, e, f))) (λ k. k.second) h.its;
            left_address = ⊎_elim (λ e. (λ f. omega (arith, e, f))) (λ k. k.address) h.its;
            right_below = omega arith;
            right_first = λ e. omega (arith, e);
            right_address = λ e. omega (arith, e);
            left_is = h.result;
            right_is = refl;
            left_word = h.stands.word;
            right_word = omega arith;
          }) h.stands (λ two. (let never : false ≡ true = sym one ∙ two in cc never))
          (h.others sp ((λ e. omega (arith, e)), ((λ e. omega (arith, e)), tt)))
          (λ q k. h.others q (k.first, (k.address, tt))))))
        where
          gets_goes : (result : Result Value Cause) (temps : Temps) (s : Meant) →
              Gone s (gets R.activation.here dest result temps s)
          gets_goes (Ok v) temps s = stays (record { exit = Next; carried = with_temp dest v temps }) s
          gets_goes (Err cause) temps s = record { grown = same s; stop = tt }

      -- one that takes two
      two_operands : (right_one : ℕ) → IsSound o → R.plan.needed left_one ≡ true → R.plan.needed right_one ≡ true →
          Follows T R (code_step wrapping R.activation.here calls (tac.Op dest o left_one (Some right_one)))
          (straightly frame R.places (Whole (Some right_one)))
          (trail_step (tac.Op dest o left_one (Some right_one)))
      two_operands right_one for need need' =
          straight_follows T R (code_step wrapping R.activation.here calls (tac.Op dest o left_one (Some right_one)))
          (Whole (Some right_one)) (trail_step (tac.Op dest o left_one (Some right_one)))
          (λ temps. read_goes R.activation.here left_one temps
          (λ v s. and_then (read R.activation.here right_one temps s)
          (λ w s. gets R.activation.here dest (operated wrapping (s.memory comp) o v w) temps s))
          (λ v. read_goes R.activation.here right_one temps
          (λ w s. gets R.activation.here dest (operated wrapping (s.memory comp) o v w) temps s)
          (λ w s. gets_goes (operated wrapping (s.memory comp) o v w) temps s)))
          (λ lives temps x left ready clear at ends e f.
          comes_read T R lives x (length (Whole (Some right_one)) + left) ends R.activation.here left_one temps
          (λ v s. and_then (read R.activation.here right_one temps s)
          (λ w s. gets R.activation.here dest (operated wrapping (s.memory comp) o v w) temps s))
          (λ v known.
          comes_read T R lives x (length (Whole (Some right_one)) + left) ends R.activation.here right_one temps
          (λ w s. gets R.activation.here dest (operated wrapping (s.memory comp) o v w) temps s)
          (λ w known'.
          (let pair : List ℕ = left_one ∷ right_one ∷ [] in
          let live : TempSet = live_plain pair (Some dest) lives in
          let h : Both live temps x ready left_one right_one v w =
          both_at_hand live temps x ready left_one right_one v w
          (live_read pair (Some dest) lives left_one (only_one left_one (right_one ∷ []))) need known
          (live_read pair (Some dest) lives right_one (second_one left_one right_one)) need' known' in
          from_operands (Some right_one) for lives temps x left ready clear at ends e f
          (take frame R.places first_scratch left_one ++ take frame R.places second_scratch
          right_one) refl h.after h.one
          h.two v w h.does h.operands h.one_stands (λ two. h.two_stands) h.same h.others))))
        where
          gets_goes : (result : Result Value Cause) (temps : Temps) (s : Meant) →
              Gone s (gets R.activation.here dest result temps s)
          gets_goes (Ok v) temps s = stays (record { exit = Next; carried = with_temp dest v temps }) s
          gets_goes (Err cause) temps s = record { grown = same s; stop = tt }

      -- with as many operands as it takes
      pub op_follows : (right : Option ℕ) → is_some right ≡ takes_two o → IsSound o →
          R.plan.needed left_one ≡ true → ((t : ℕ) → right ≡ Some t → R.plan.needed t ≡ true) →
          Follows T R (code_step wrapping R.activation.here calls (tac.Op dest o left_one right))
          (select_step frame R.places R.plan (tac.Op dest o left_one right)) (trail_step (tac.Op dest o left_one
          right))
      op_follows None count for need takes =
          with_role T R (code_step wrapping R.activation.here calls (tac.Op dest o left_one None))
          (straightly frame R.places (Whole None)) Other (trail_step (tac.Op dest o left_one None))
          (one_operand (sym count) for need)
      op_follows (Some right_one) count for need takes =
          with_role T R (code_step wrapping R.activation.here calls (tac.Op dest o left_one (Some right_one)))
          (straightly frame R.places (Whole (Some right_one)))
          (role_of_operation R.plan.needed dest o left_one (Some right_one))
          (trail_step (tac.Op dest o left_one (Some right_one))) (two_operands right_one for need
          (takes right_one refl))
