-- Calls of the environment.
use Rattle.sc_emit.proofs.Common.{Activation, Addi, CallStands, CallTarget, Calls, CallsFollow, CodeAt, ComesBack}
use Rattle.sc_emit.proofs.Common.{Computes, Ecall, Fetches, Follows, FrameTree, Input, Instr, IsBack, IsClear}
use Rattle.sc_emit.proofs.Common.{IsRunning, Joint, List, Lives, None, OpImm, Option, Output, Ready, Running, Setting}
use Rattle.sc_emit.proofs.Common.{State as Meant, Temps, Value, [], a0, a7, across_live, all_at, ap, append-nil}
use Rattle.sc_emit.proofs.Common.{append_assoc, arith, asked, back_at, back_with, brought, call_does, call_from}
use Rattle.sc_emit.proofs.Common.{code_step, environment_call, false, length, list_all, live_across, live_plain, moved}
use Rattle.sc_emit.proofs.Common.{of_environment, pass, place_of, plain_points, pos, receive, refl, select_step, subst}
use Rattle.sc_emit.proofs.Common.{sym, trail_step, true, wanted_less, with_number, wrapping, ℕ, ◌*◌, ◌++◌, ◌+◌, ◌<◌}
use Rattle.sc_emit.proofs.Common.{◌^◌, ◌∙◌, ◌∷◌, ◌≡◌, ◌≤◌}
use Rattle.sc_tac.specs.declared.stmt.TacStmt.TheOpen as tac
use Rattle.sc_emit.proofs.Arguments.{AreRead, read_length, Passes}
use Rattle.sc_emit.proofs.Calls.{Answers, none_wanted, HasPlace, last_point, Prepares, goes, call_runs, passes_args}
use Rattle.sc_emit.proofs.Calls.{prepared}
use Rattle.sc_emit.proofs.Operands.{world}
use Rattle.sc_emit.proofs.Straight.{ComesStraight, straight_follows}

module _ {T : Setting} {R : Running} (valid : IsRunning T R) where
  abbrev A : Activation
  A = R.activation

  abbrev frame : FrameTree
  frame = R.activation.frame

  -- the environment leaves all that temporaries hold
  pub asked_back : (reads : List ℕ) (dest : Option ℕ) (lives : Lives) (temps : Temps) (x : Joint) (target : CallTarget)
      (left : ℕ) (v : Option Value) (meant : Meant) → of_environment target ≡ true →
      Ready T R (live_plain reads dest lives) temps x → ComesBack T (call_from T R) x target v meant →
      IsBack T R reads dest lives temps x left v meant
  asked_back reads dest lives temps x target left v meant environment ready b =
      let r : Ready T R (live_plain reads dest lives) temps b.y =
      asked T R valid.is.honest x b.y b.leads.effect (live_plain reads dest lives) temps ready b.settled b.sp
      (λ q h. b.registers environment q (λ e. omega (arith, h.argument, e))) in
      back_with T R reads dest lives temps x target left v meant b
      (record {
        settled = r.settled;
        frame = r.frame;
        held = λ t v on e.
            r.held t v (wanted_less R.plan.needed (live_across reads true dest lives) (live_plain reads dest lives)
            (across_live reads dest lives) t on) e;
        sp = r.sp;
      })

  module _ (calls : Calls) (follow : CallsFollow T calls) where
    -- a7 says what is asked for
    abbrev ask : ℕ → List Instr
    ask number = OpImm Addi a7 0 (pos number) ∷ []

    abbrev asking : (number : ℕ) → (dest : Option ℕ) → (args : List ℕ) → List Instr
    asking number dest args = (pass frame R.places a0 args ++ ask number) ++ Ecall ∷ receive frame R.places dest

    -- the number in a7 is that of the call
    abbrev IsAsked : CallTarget → ℕ → Type 0
    IsAsked target number =
        (y : Joint) → Fetches T.image A.here.comp y.pc Ecall → y.regs a7 ≡ number →
        CallStands T (call_from T R) y target

    asks_prepared : (target : CallTarget) (number : ℕ) (dest : Option ℕ) (args : List ℕ) → length args ≤ 1 →
        list_all R.plan.needed args ≡ true → number < 2 ^ 32 → IsAsked target number →
        (lives : Lives) (temps : Temps) (x : Joint) →
        Ready T R (live_plain args dest lives) temps x →
        CodeAt T.image A.here.comp x.pc (asking number dest args) → (vs : List Value) → AreRead temps args vs →
        Prepares valid target x (pass frame R.places a0 args ++ ask number) vs
    asks_prepared target number dest args few needs small stands lives temps x ready code vs read =
        let before : List Instr = pass frame R.places a0 args ++ ask number in
        let p : Passes valid x ready.frame ready.sp x.regs a0 args vs =
        passes_args valid args dest lives temps x vs (omega (arith, few)) needs ready read in
        let u : Computes T.image T.inputs (world T R x) (ask number) [] p.after x.bytes a7 number =
        with_number T.image T.inputs (world T R x) p.after x.bytes Addi a7 0 (pos number) 0 number
        (record { above = omega arith; below = omega arith }) (omega arith) refl (omega (arith, small)) in
        prepared valid args x vs ready.frame ready.sp p target (ask number) a7 number
        u (λ e. omega (arith, e)) (λ q h e. omega (arith, h.argument, e))
        (λ i l e. omega (arith, l, e, few, read_length temps args vs read))
        (λ low is_number. stands (moved x (x.pc + 4 * length before) u.after x.bytes)
        (back_at T.image A.here.comp x.pc before (Ecall ∷ receive frame R.places dest) code).0 is_number)

    asks : (target : CallTarget) (number : ℕ) (dest : Option ℕ) (args : List ℕ) → of_environment target ≡ true →
        length args ≤ 1 → list_all R.plan.needed args ≡ true → number < 2 ^ 32 → IsAsked target number →
        HasPlace R.places dest → T.makes A.here.comp target (length args) ≡ true →
        ((vs : List Value) (s : Meant) → Answers dest (calls A.here.comp target vs s)) →
        (lives : Lives) (temps : Temps) (x : Joint) (left : ℕ) → Ready T R (live_plain args dest lives) temps x →
        IsClear R.places (last_point dest lives) → CodeAt T.image A.here.comp x.pc (asking number dest args) →
        ComesStraight T R lives x (asking number dest args) left (call_does A.here calls dest target args temps x.meant)
    asks target number dest args environment few needs small stands there made answers lives temps x left ready clear
        code
        ends left_is after_is =
        call_runs valid calls follow target dest args there made answers lives temps
        clear (λ y left v s ready b. asked_back args dest lives temps y target left v s environment ready b) x
        (pass frame R.places a0 args ++ ask number) Ecall left ends left_is after_is code ready
        (asks_prepared target number dest args few needs small stands lives temps x ready code)

    pub input_follows : (dest : Option ℕ) → HasPlace R.places dest → T.makes A.here.comp Input 0 ≡ true →
        ((vs : List Value) (s : Meant) → Answers dest (calls A.here.comp Input vs s)) →
        Follows T R (code_step wrapping A.here calls (tac.Input dest)) (select_step frame R.places R.plan (tac.Input
        dest))
        (trail_step (tac.Input dest))
    input_follows dest there made answers =
        straight_follows T R (code_step wrapping A.here calls (tac.Input dest))
        (environment_call 1 ++ receive frame R.places dest) (trail_step (tac.Input dest))
        (goes valid calls follow Input dest []) (λ lives temps x left ready clear code.
        asks Input 1 dest [] refl (omega arith) refl (omega arith) (λ y f e. (
          f,
          e,
        )) there made answers lives temps x left ready
        (all_at (IsClear R.places) (plain_points [] false dest lives) 1 _ clear refl) code)

    pub output_follows : (value : ℕ) → list_all R.plan.needed (value ∷ []) ≡ true →
        T.makes A.here.comp Output 1 ≡ true →
        Follows T R (code_step wrapping A.here calls (tac.Output value)) (select_step frame R.places R.plan
        (tac.Output value))
        (trail_step (tac.Output value))
    output_follows value needs made =
        let first : List Instr = brought frame a0 (place_of frame R.places value) in
        let whole : asking 2 None (value ∷ []) ≡ first ++ environment_call 2 =
        ap (λ code. (code ++ ask 2) ++ Ecall ∷ []) (append-nil first) ∙ append_assoc first (ask 2) (Ecall ∷ []) in
        straight_follows T R (code_step wrapping A.here calls (tac.Output value)) (first ++ environment_call 2)
        (trail_step (tac.Output value)) (goes valid calls follow Output None (value ∷ []))
        (λ lives temps x left ready clear code.
        subst (λ code. ComesStraight T R lives x code left
        (call_does A.here calls None Output (value ∷ []) temps x.meant)) whole
        (asks Output 2 None (value ∷ []) refl (omega arith) needs (omega arith) (λ y f e. (f, e)) tt made
        (λ vs s. none_wanted (calls A.here.comp Output vs s)) lives temps x left ready
        (all_at (IsClear R.places) (plain_points (value ∷ []) false None lives) 1 _ clear refl)
        (subst (CodeAt T.image A.here.comp x.pc) (sym whole) code)))
