-- Calls of functions, of the own compartment and of others.
use Rattle.sc_emit.proofs.Common.{Activation, Addresses, All, ArePassed, Arrives, CallGives, CallStands, CallTarget}
use Rattle.sc_emit.proofs.Common.{Calls, CallsFollow, CodeAt, Codes, Comes, ComesBack, Computes, Cross, Does, Ends}
use Rattle.sc_emit.proofs.Common.{Follows, FrameMatches, FrameTree, Goes, HasNoOtherUse, Instr, IsBack, IsClear}
use Rattle.sc_emit.proofs.Common.{IsInside, IsPlace, IsRunning, IsSome, Jal, Jalr, Joint, Left, Line, List, Lives, Lui}
use Rattle.sc_emit.proofs.Common.{MovesOn, Next, None, Option, Overflows, Own, Piece, Place, Point, Reached, Ready}
use Rattle.sc_emit.proofs.Common.{Register, Registers, ReturnsValue, Running, Setting, Settled, Slot, Some, Standpoint}
use Rattle.sc_emit.proofs.Common.{StandsFor, State as Meant, Stopped, Stores, Temps, Trail, Upper, Value, [], a0}
use Rattle.sc_emit.proofs.Common.{add_word, all_at, and_from, and_then, ap, append_assoc, arith, arrives_with}
use Rattle.sc_emit.proofs.Common.{assigned_at, assigns_register, assigns_slot, back_at, call_cross, call_does}
use Rattle.sc_emit.proofs.Common.{call_from, call_own, code_inside, code_step, comes_after, completed, completed_length}
use Rattle.sc_emit.proofs.Common.{completed_plainly, emits_from, emits_less, false, first_scratch, in_row, inl, inr}
use Rattle.sc_emit.proofs.Common.{is_back, is_one, is_some, jalr_target, leads_none, leave, length, length-append}
use Rattle.sc_emit.proofs.Common.{list_all, live_across, live_at, live_plain, look_at, low_after, low_append}
use Rattle.sc_emit.proofs.Common.{low_plainly, lower_part, move, moved, moves, ne_eqb, no_other_use, or_left}
use Rattle.sc_emit.proofs.Common.{overflows_from, overflows_with, pass, plain_points, plainly, pos, prefix_at, put}
use Rattle.sc_emit.proofs.Common.{put_word, ra, read_all, receive, received, referring, refl, register_of}
use Rattle.sc_emit.proofs.Common.{register_there, seen_from, select_step, settled_to, slice_get, slice_get_within, sp}
use Rattle.sc_emit.proofs.Common.{stays, store_word, stores_word, straight, subst, suc, sym, then_from, then_goes}
use Rattle.sc_emit.proofs.Common.{trail_step, true, unwrap_or, upper, upper_part, wanted, with_temp, word_at, word_of}
use Rattle.sc_emit.proofs.Common.{word_of-unsigned_sub, wrapping, ℕ, ⊎_elim, ◌%◌, ◌*◌, ◌++◌, ◌+◌, ◌-ℤ◌, ◌/◌, ◌<◌, ◌^◌}
use Rattle.sc_emit.proofs.Common.{◌∙◌, ◌∷◌, ◌≡◌, ◌≢◌, ◌≤◌}
use Rattle.sc_emit.proofs.Needed.{one_of_all}
use Rattle.sc_tac.specs.declared.machine_code.Target.TheVariants.{Function, Entry}
use Rattle.sc_tac.specs.declared.stmt.TacStmt.TheOpen as tac
use Rattle.sc_emit_hart.proofs.Numbers.{two_parts}
use Rattle.sc_emit_relation.proofs.Assigning.{moves_on}
use Rattle.sc_emit.proofs.Arguments.{AreRead, read_all_goes, comes_read_all, Passes, passes, read_length}
use Rattle.sc_emit.proofs.Straight.{ComesStraight, lines_follow}
use Rattle.sc_emit.proofs.Operands.{slot_from_sp, world, walks_to}

-- Lines of which some are linked.

module _ (addresses : Addresses) where
  -- lines after those that refer to nothing
  completed_after : (pc : ℕ) (instrs : List Instr) (lines : List Line) →
      completed addresses pc None (plainly instrs ++ lines) ≡
      instrs ++ completed addresses (pc + 4 * length instrs) None lines
  completed_after pc [] lines =
      let e : pc ≡ pc + 4 * 0 = omega arith in ap (λ p. completed addresses p None lines) e
  completed_after pc (i ∷ is) lines =
      let e : pc + 4 + 4 * length is ≡ pc + 4 * suc (length is) = omega arith in
      ap (λ is. i ∷ is)
      (completed_after (pc + 4) is lines ∙ ap (λ p. is ++ completed addresses p None lines) e)

  low_after_plain : (instrs : List Instr) (lines : List Line) → low_after addresses None (plainly instrs ++ lines) ≡
      low_after addresses None lines
  low_after_plain instrs lines =
      low_append addresses None (plainly instrs) lines ∙
      ap (λ low. low_after addresses low lines) (low_plainly addresses instrs)

module _ (T : Setting) (R : Running) where
  -- straight code follows a statement, where the linker completes its lines to these instructions
  pub linked_follows : (does : Codes) (lines : List Line) (instrs : ℕ → List Instr) (trail : Trail) →
      ((pc : ℕ) → completed (T.addresses R.activation.here.comp) pc None lines ≡ instrs pc) →
      low_after (T.addresses R.activation.here.comp) None lines ≡ None → ((temps : Temps) → Goes (does temps)) →
      ((lives : Lives) (temps : Temps) (x : Joint) (left : ℕ) → Ready T R (live_at trail lives) temps x →
      All (IsClear R.places) (trail.points lives) → CodeAt T.image R.activation.here.comp x.pc (instrs x.pc) →
      x.pc + 4 * length (instrs x.pc) ≤ R.last → ComesStraight T R lives x (instrs x.pc) left (does temps x.meant)) →
      Follows T R does (straight lines) trail
  linked_follows does lines instrs trail whole closed goes runs =
      lines_follow T R does lines trail closed goes
      (λ lives temps x left ready clear at inside ends e f.
      (let long : length (instrs x.pc) ≡ length lines =
      ap length (sym (whole x.pc)) ∙ completed_length (T.addresses R.activation.here.comp) x.pc None lines in
      subst (λ n. Comes T R lives x (n + left) ends (does temps x.meant)) long
      (runs lives temps x left ready clear (subst (CodeAt T.image R.activation.here.comp x.pc) (whole x.pc) at)
      (omega (arith, inside, long)) ends e (f ∙ ap (λ n. x.pc + 4 * n) (sym long)))))

-- Where a call's value goes.

-- a value is given where one is wanted
abbrev pub IsGiven : Option ℕ → Option Value → Type 0
IsGiven None v = Unit {0}
IsGiven (Some dest) None = ⊥
IsGiven (Some dest) (Some v) = Unit {0}

-- a call that comes back gives one where one is wanted
abbrev pub Answers : Option ℕ → Piece (Option Value) → Type 0
Answers dest (Reached v s) = IsGiven dest v
Answers dest (Stopped end s) = Unit {0}

pub none_wanted : (piece : Piece (Option Value)) → Answers None piece
none_wanted (Reached v s) = tt
none_wanted (Stopped end s) = tt

-- what is wanted has a place
abbrev pub HasPlace : List Place → Option ℕ → Type 0
HasPlace places None = Unit {0}
HasPlace places (Some dest) = (place : Place) × (slice_get places dest ≡ Some place)

-- the last point of a statement, after what it assigns
abbrev pub last_point : Option ℕ → Lives → Point
last_point dest lives = record { assigned = dest; calls = false; live = lives.following }

module _ {T : Setting} {R : Running} (valid : IsRunning T R) where
  abbrev A : Activation
  A = R.activation

  abbrev P : Standpoint
  P = seen_from R.activation

  abbrev frame : FrameTree
  frame = R.activation.frame

  positive : (q : ℕ) → q ≢ 0 → 0 < q
  positive q h = omega (arith, h)

  across_after : (reads : List ℕ) (lives : Lives) (dest t : ℕ) → lives.following t ≡ true → t ≢ dest →
      live_across reads true (Some dest) lives t ≡ true
  across_after reads lives dest t on other =
      rw (ne_eqb dest t (λ e. other (sym e))) on

  module _ (lives : Lives) (temps : Temps) (y : Joint) (left : ℕ) (reads : List ℕ) where
    -- after the code that brings the value to its place
    abbrev After : List Instr → Temps → Type 0
    After code after =
        Arrives T R lives.following y (length code + left) left after y.meant (y.pc + 4 * length code)

    receives_by : (dest : ℕ) (place : Place) (v : Value) →
        Ready T R (live_across reads true (Some dest) lives) temps y →
        IsClear R.places (last_point (Some dest) lives) → StandsFor (y.inj A.here.comp) (y.regs a0) v →
        slice_get R.places dest ≡ Some place → IsPlace A place →
        CodeAt T.image A.here.comp y.pc (put frame a0 (Some place)) →
        After (put frame a0 (Some place)) (with_temp dest v temps)
    receives_by dest (Register r) v ready clear stands its small code =
        let piece : Computes T.image T.inputs (world T R y) (move (register_of r) a0 ∷ []) [] y.regs y.bytes
        (register_of r) (y.regs a0) =
        moves T.image T.inputs (world T R y) y.bytes y.regs (register_of r) a0 (y.regs a0)
        (record { above = positive (register_of r) (no_other_use r).zero; below = register_there r small })
        (omega arith) (look_at y.regs a0 (omega arith)) stands.word in
        assigned_at valid (live_across reads true (Some dest) lives)
        (last_point (Some dest) lives) temps y 1 left dest (y.pc + 4 * 1) (Register r) v piece.after y.bytes ready clear
        refl its (across_after reads lives dest)
        (assigns_register T R y r v piece.after
        (piece.others sp ((λ e. (no_other_use r).sp (sym e)), tt))
        (subst (λ w. StandsFor (y.inj A.here.comp) w v) (sym piece.result) stands) (λ q h n. piece.others q (n, tt)))
        (walks_to T R y (move (register_of r) a0 ∷ []) piece.after y.bytes piece.does code)
    receives_by dest (Slot k) v ready clear stands its there code =
        let offset : ℕ = there.0 in
        let same_code : put frame a0 (Some (Slot k)) ≡ store_word a0 offset =
        ap (λ o. store_word a0 (unwrap_or o 0)) there.1 in
        let stores : Stores T.image T.inputs (world T R y) (store_word a0 offset) (7 ∷ []) y.regs y.bytes
        (A.sp + offset) (y.regs a0) =
        stores_word T.image T.inputs (world T R y) y.bytes y.regs a0 offset (A.sp + offset) (y.regs a0) (omega arith)
        (λ e. omega (arith, e)) (look_at y.regs a0 (omega arith))
        (slot_from_sp T R y valid ready.frame ready.sp y.regs k offset there.1 refl) in
        subst (λ code. After code (with_temp dest v temps)) (sym same_code)
        (assigned_at valid (live_across reads true (Some dest) lives)
        (last_point (Some dest) lives) temps y (length (store_word a0 offset)) left dest
        (y.pc + 4 * length (store_word a0 offset)) (Slot k) v stores.after
        (put_word y.bytes (A.sp + offset) (y.regs a0)) ready clear refl its (across_after reads lives dest)
        (assigns_slot valid (live_across reads true (Some dest) lives) temps y k offset
        (y.regs a0) v stores.after ready there.1 (stores.others sp ((λ e. omega (arith, e)), tt)) stands
        (λ q h. stores.others q (h.address, tt)))
        (walks_to T R y (store_word a0 offset) stores.after (put_word y.bytes (A.sp + offset) (y.regs a0)) stores.does
        (subst (CodeAt T.image A.here.comp y.pc) same_code code)))

    -- what a call gave goes to where it is wanted
    receives : (dest : Option ℕ) (v : Option Value) → Ready T R (live_across reads true dest lives) temps y →
        IsClear R.places (last_point dest lives) → ReturnsValue T (y.inj A.here.comp) (y.regs a0) v → IsGiven dest v →
        HasPlace R.places dest → CodeAt T.image A.here.comp y.pc (receive frame R.places dest) →
        After (receive frame R.places dest) (received dest v temps)
    receives None v ready clear back given there code = record {
      y = y;
      meant_is = refl;
      pc_is = omega arith;
      leads = leads_none T P y (0 + left) left (omega arith);
      ready = record {
        settled = ready.settled;
        frame = ready.frame;
        held = λ t v on e. ready.held t v on e;
        sp = ready.sp;
      };
    }
    receives (Some dest) None ready clear back given there code = absurd given
    receives (Some dest) (Some v) ready clear back given there code =
        subst (λ o. After (put frame a0 o) (with_temp dest v temps)) (sym there.1)
        (receives_by dest there.0 v ready clear back there.1 (valid.placed dest there.0 there.1)
        (subst (λ o. CodeAt T.image A.here.comp y.pc (put frame a0 o)) there.1 code))

  -- A call came back, and its value goes to where it is wanted.
  module _ (dest : Option ℕ) (args : List ℕ) (there : HasPlace R.places dest) (lives : Lives) (temps : Temps)
      (clear : IsClear R.places (last_point dest lives)) (y : Joint) (left : ℕ) (ends : Ends)
      (left_is : ends.left ≡ left)
      (after_is : ends.following ≡ y.pc + 4 + 4 * length (receive frame R.places dest))
      (code : CodeAt T.image A.here.comp (y.pc + 4) (receive frame R.places dest)) (settled : Settled T P y) where
    abbrev room : ℕ
    room = length (receive frame R.places dest) + left

    pub lands : (v : Option Value) (s : Meant) → IsGiven dest v → IsBack T R args dest lives temps y room v s →
        Comes T R lives y (1 + room) ends (leave Next (received dest v temps) s)
    lands v s given k =
        let at : CodeAt T.image A.here.comp k.y.pc (receive frame R.places dest) =
        subst (λ pc. CodeAt T.image A.here.comp pc (receive frame R.places dest)) (sym k.pc) code in
        comes_after T R lives y k.y (1 + room) room ends (leave Next (received dest v temps) s) settled k.leads
        (inl (subst (λ s. Arrives T R lives.following k.y room ends.left (received dest v temps) s ends.following)
        k.meant_is
        (arrives_with T R lives.following k.y room room left ends.left (received dest v temps) k.y.meant
        (k.y.pc + 4 * length (receive frame R.places dest)) ends.following (omega arith) (omega (arith, left_is))
        (omega (arith, k.pc, after_is))
        (receives lives temps k.y left args dest v k.ready clear k.value given there at))))

  -- The call.

  -- code makes the registers as a call needs them
  pub record Prepares (target : CallTarget) (x : Joint) (before : List Instr) (vs : List Value) : Type 0 where
    pub after : Registers
    pub does : Does T.image T.inputs (world T R x) before x.regs x.bytes after x.bytes
    pub passed : ArePassed (x.inj A.here.comp) after vs
    pub same : after sp ≡ x.regs sp
    pub others : (q : ℕ) → HasNoOtherUse q → after q ≡ x.regs q
    pub stands : x.pc + 4 * length before < 2 ^ 32 →
        CallStands T (call_from T R) (moved x (x.pc + 4 * length before) after x.bytes) target

  module _ (calls : Calls) (follow : CallsFollow T calls) (target : CallTarget) (dest : Option ℕ) (args : List ℕ) where
    goes_on : (temps : Temps) (result : Option Value) → Goes (leave Next (received dest result temps))
    goes_on temps result = stays (record { exit = Next; carried = received dest result temps })

    pub goes : (temps : Temps) → Goes (call_does A.here calls dest target args temps)
    goes temps s =
        then_goes s (read_all A.here args temps s)
        (λ vs s. and_then (calls A.here.comp target vs s) (λ result s. leave Next (received dest result temps) s))
        (read_all_goes A.here args temps s)
        (λ vs s. then_goes s (calls A.here.comp target vs s) (λ result s. leave Next (received dest result temps) s)
        (follow.goes A.here.comp target vs s) (goes_on temps))

    module _ (there : HasPlace R.places dest) (made : T.makes A.here.comp target (length args) ≡ true)
        (answers : (vs : List Value) (s : Meant) → Answers dest (calls A.here.comp target vs s)) (lives : Lives)
        (temps : Temps) (clear : IsClear R.places (last_point dest lives))
        (back : (y : Joint) (left : ℕ) (v : Option Value) (s : Meant) → Ready T R (live_plain args dest lives) temps y →
        ComesBack T (call_from T R) y target v s → IsBack T R args dest lives temps y left v s) where
      abbrev to_place : List Instr
      to_place = receive frame R.places dest

      abbrev onwards : Option Value → Meant → Piece (Left Temps)
      onwards result s = leave Next (received dest result temps) s

      module _ (y : Joint) (left : ℕ) (ends : Ends) (left_is : ends.left ≡ left)
          (after_is : ends.following ≡ y.pc + 4 + 4 * length to_place)
          (code : CodeAt T.image A.here.comp (y.pc + 4) to_place)
          (ready : Ready T R (live_plain args dest lives) temps y) where
        abbrev budget : ℕ
        budget = 1 + (length to_place + left)

        came_back : (piece : Piece (Option Value)) → Answers dest piece → CallGives T (call_from T R) y target piece →
            Comes T R lives y budget ends (and_then piece onwards)
        came_back (Reached v s) given g =
            lands dest args there lives temps clear y left ends left_is after_is code ready.settled v s given
            (back y (length to_place + left) v s ready g)
        came_back (Stopped end s) given g =
            inl (emits_less T P y 1 budget s (omega arith) (emits_from T R y 1 s g))

        overflowed : (piece : Piece (Option Value)) → Overflows T (call_from T R) y 1 piece →
            Overflows T P y budget (and_then piece onwards)
        overflowed piece o =
            overflows_with T P y 1 budget piece (and_then piece onwards) (omega arith)
            (then_from piece onwards (goes_on temps)) (overflows_from T R y 1 piece o)

        pub call_comes : (vs : List Value) → length vs ≡ length args → ArePassed (y.inj A.here.comp) y.regs vs →
            CallStands T (call_from T R) y target →
            Comes T R lives y budget ends (and_then (calls A.here.comp target vs y.meant) onwards)
        call_comes vs count passed stands =
            ⊎_elim (came_back (calls A.here.comp target vs y.meant) (answers vs y.meant))
            (λ o. inr (overflowed (calls A.here.comp target vs y.meant) o))
            (follow.follow (call_from T R) y target vs valid.is.honest
            (subst (λ n. T.makes A.here.comp target n ≡ true) (sym count) made) (settled_to T R y ready.settled)
            (record {
              floor = valid.is.floor;
              aligned = valid.is.aligned;
              high = omega (arith, valid.is.high);
              floors = valid.is.floors;
            }) ready.sp passed stands)

      -- the registers are prepared, the call is made, and its value goes to where it is wanted
      pub call_runs : (x : Joint) (before : List Instr) (call : Instr) (left : ℕ) (ends : Ends) → ends.left ≡ left →
          ends.following ≡ x.pc + 4 * length (before ++ call ∷ to_place) →
          CodeAt T.image A.here.comp x.pc (before ++ call ∷ to_place) → Ready T R (live_plain args dest lives) temps x →
          ((vs : List Value) → AreRead temps args vs → Prepares target x before vs) →
          Comes T R lives x (length (before ++ call ∷ to_place) + left) ends
          (call_does A.here calls dest target args temps x.meant)
      call_runs x before call left ends left_is after_is code ready prepares =
          comes_read_all T R lives x (length (before ++ call ∷ to_place) + left) ends A.here args temps
          (λ vs s. and_then (calls A.here.comp target vs s) onwards)
          (λ vs read.
          (let p : Prepares target x before vs = prepares vs read in
          let n : ℕ = length before in
          let long : length (before ++ call ∷ to_place) ≡ n + suc (length to_place) =
          length-append before (call ∷ to_place) in
          let rest : ℕ = 1 + (length to_place + left) in
          let whole : n + rest ≡ length (before ++ call ∷ to_place) + left = omega (arith, long) in
          let m : MovesOn valid (live_plain args dest lives) temps x n rest (x.pc + 4 * n)
          p.after =
          moves_on valid (live_plain args dest lives) temps x n rest (x.pc + 4 * n) p.after ready p.same p.others
          (walks_to T R x before p.after x.bytes p.does
          (prefix_at T.image A.here.comp x.pc before (call ∷ to_place) code)) in
          let y : Joint = moved x (x.pc + 4 * n) p.after x.bytes in
          subst (λ b. Comes T R lives x b ends (and_then (calls A.here.comp target vs x.meant) onwards)) whole
          (comes_after T R lives x y (n + rest) rest ends (and_then (calls A.here.comp target vs x.meant) onwards)
          ready.settled m.leads
          (call_comes y left ends left_is (after_is ∙ omega (arith, long))
          (back_at T.image A.here.comp x.pc before (call ∷ to_place) code).1 m.ready vs (read_length temps args vs read)
          p.passed
          (p.stands m.ready.settled.steady.pc)))))

  -- The arguments, and what else is prepared.

  pub passes_args : (args : List ℕ) (dest : Option ℕ) (lives : Lives) (temps : Temps) (x : Joint) (vs : List Value) →
      length args ≤ 8 → list_all R.plan.needed args ≡ true → (ready : Ready T R (live_plain args dest lives) temps x) →
      AreRead temps args vs → Passes valid x ready.frame ready.sp x.regs a0 args vs
  passes_args args dest lives temps x vs few needs ready read =
      passes valid x ready.frame ready.sp (wanted R.plan.needed (live_plain args dest lives)) temps
      ready.held x.regs a0 args vs (omega arith) (omega (arith, few))
      (λ t e. and_from (live_plain args dest lives t) (R.plan.needed t) (or_left (is_one t args) _ e)
      (one_of_all R.plan.needed args t needs e)) read refl (λ q h. refl)

  -- the arguments, and then another register that no temporary has and no argument
  pub prepared : (args : List ℕ) (x : Joint) (vs : List Value)
      (frame_is : FrameMatches T.image A x.inj x.meant.memory x.bytes) (sp_is : x.regs sp ≡ A.sp)
      (p : Passes valid x frame_is sp_is x.regs a0 args vs) (target : CallTarget) (one : List Instr) (r w : ℕ) →
      (u : Computes T.image T.inputs (world T R x) one [] p.after x.bytes r w) → sp ≢ r →
      ((q : ℕ) → HasNoOtherUse q → q ≢ r) → ((i : ℕ) → i < length vs → a0 + i ≢ r) →
      (x.pc + 4 * length (pass frame R.places a0 args ++ one) < 2 ^ 32 → u.after r ≡ w → CallStands T (call_from T R)
      (moved x (x.pc + 4 * length (pass frame R.places a0 args ++ one)) u.after x.bytes) target) →
      Prepares target x (pass frame R.places a0 args ++ one) vs
  prepared args x vs frame_is sp_is p target one r w u not_sp not_held not_passed stands = record {
    after = u.after;
    does = in_row T.image T.inputs (world T R x) p.does u.does;
    passed = λ i v e. subst (λ w. StandsFor (x.inj A.here.comp) w v)
        (sym (u.others (a0 + i) (not_passed i (slice_get_within vs i v e), tt))) (p.passed i v e);
    same = u.others sp (not_sp, tt) ∙ p.below sp (omega arith) (λ e. omega (arith, e));
    others = λ q h. u.others q (not_held q h, tt) ∙ p.others q h;
    stands = λ low. stands low u.result;
  }

  jump_to : (pc target : ℕ) → pc < 2 ^ 32 → target < 2 ^ 32 → add_word pc (word_of (pos target -ℤ pos pc)) ≡ target
  jump_to pc target low below =
      ap (add_word pc) (word_of-unsigned_sub target pc below low) ∙ omega (arith, low, below)

  jalr_to : (base target : ℕ) → base ≡ upper_part target → target < 2 ^ 32 → target % 2 ≡ 0 →
      jalr_target base (lower_part target) ≡ target
  jalr_to base target is_upper below even =
      ap (λ b. add_word b (word_of (lower_part target)) / 2 * 2) is_upper ∙
      ap (λ a. a / 2 * 2) (two_parts target below) ∙ omega (arith, even)

  module _ (calls : Calls) (follow : CallsFollow T calls) (dest : Option ℕ) (there : HasPlace R.places dest) where
    abbrev addresses : Addresses
    addresses = T.addresses A.here.comp

    abbrev own_call : (function : ℕ) → (args : List ℕ) → (pc : ℕ) → Instr
    own_call function args pc =
        Jal ra (pos (addresses.function function) -ℤ pos (pc + 4 * length (pass frame R.places a0 args)))

    -- after the jump there is code
    has_after : (pc : ℕ) (before : List Instr) (instr : Instr) (after : List Instr) →
        CodeAt T.image A.here.comp pc (before ++ instr ∷ after) →
        pc + 4 * length (before ++ instr ∷ after) ≤ R.last →
        IsSome (word_at T.image A.here.comp (pc + 4 * length before + 4))
    has_after pc before instr after code inside =
        let at = (back_at T.image A.here.comp pc before (instr ∷ after) code).0 in
        let here : IsInside (pc + 4 * length before) =
        code_inside T.image valid.formed A.here.comp (pc + 4 * length before) at.word at.fetched in
        let long : length (before ++ instr ∷ after) ≡ length before + suc (length after) =
        length-append before (instr ∷ after) in
        ap is_some (valid.gapless (pc + 4 * length before) (pc + 4 * length before + 4) (ap is_some at.fetched)
        (omega arith) (omega (arith, inside, long)) (omega (arith, here.aligned))).1

    pub call_own_follows : (function : ℕ) (args : List ℕ) → length args ≤ 8 →
        list_all R.plan.needed args ≡ true →
        addresses.function function < 2 ^ 32 →
        T.makes A.here.comp (Own function) (length args) ≡ true →
        ((vs : List Value) (s : Meant) → Answers dest (calls A.here.comp (Own function) vs s)) →
        Follows T R (code_step wrapping A.here calls (tac.CallOwn dest function args))
        (select_step frame R.places R.plan (tac.CallOwn dest function args)) (trail_step (tac.CallOwn dest function
        args))
    call_own_follows function args few needs below made answers =
        let before : List Instr = pass frame R.places a0 args in
        linked_follows T R (code_step wrapping A.here calls (tac.CallOwn dest function args))
        (call_own frame R.places dest function args)
        (λ pc. before ++ own_call function args pc ∷ receive frame R.places dest)
        (trail_step (tac.CallOwn dest function args))
        (λ pc. completed_after addresses pc before
        (referring (Function function) (Jal ra (pos 0)) ∷ plainly (receive frame R.places dest)) ∙
        ap (λ instrs. before ++ own_call function args pc ∷ instrs)
        (completed_plainly addresses (pc + 4 * length before + 4) (receive frame R.places dest)))
        (low_after_plain addresses before
        (referring (Function function) (Jal ra (pos 0)) ∷ plainly (receive frame R.places dest)) ∙
        low_plainly addresses (receive frame R.places dest))
        (goes calls follow (Own function) dest args)
        (λ lives temps x left ready clear code inside ends left_is after_is.
        call_runs calls follow (Own function) dest args there made answers lives temps
        (all_at (IsClear R.places) (plain_points args true dest lives) 2 _ clear refl)
        (λ y left v s ready b. is_back T R args dest lives temps y (Own function) left v s valid.is.honest ready clear
        b) x before (own_call function args x.pc) left ends left_is after_is code ready (λ vs read.
        (let p : Passes valid x ready.frame ready.sp x.regs a0 args vs =
        passes_args args dest lives temps x vs few needs ready read in
        record {
          after = p.after;
          does = p.does;
          passed = p.passed;
          same = p.below sp (omega arith) (λ e. omega (arith, e));
          others = p.others;
          stands = λ low. (
            pos (addresses.function function) -ℤ pos (x.pc + 4 * length before),
            (back_at T.image A.here.comp x.pc before
                (own_call function args x.pc ∷ receive frame R.places dest) code).0,
            jump_to (x.pc + 4 * length before) (addresses.function function) low below,
            has_after x.pc before (own_call function args x.pc) (receive frame R.places dest) code inside,
          );
        })))

    -- the address goes into a scratch register, but for what the jump adds
    abbrev entry_call : (address : ℕ) → List Instr
    entry_call address = Jalr ra first_scratch (lower_part address) ∷ receive frame R.places dest

    pub call_cross_follows : (comp index : ℕ) (args : List ℕ) → length args ≤ 8 → list_all R.plan.needed args ≡ true →
        addresses.entry comp index < 2 ^ 32 →
        addresses.entry comp index % 2 ≡ 0 →
        T.makes A.here.comp (Cross comp index) (length args) ≡ true →
        ((vs : List Value) (s : Meant) → Answers dest (calls A.here.comp (Cross comp index) vs s)) →
        Follows T R (code_step wrapping A.here calls (tac.CallCross dest comp index args))
        (select_step frame R.places R.plan (tac.CallCross dest comp index args))
        (trail_step (tac.CallCross dest comp index args))
    call_cross_follows comp index args few needs below even made answers =
        let arguments : List Instr = pass frame R.places a0 args in
        let address : ℕ = addresses.entry comp index in
        let high : List Instr = Upper Lui first_scratch (upper_part address) ∷ [] in
        let before : List Instr = arguments ++ high in
        let lines : List Line =
        referring (Entry comp index) (Upper Lui first_scratch 0) ∷
        plainly (Jalr ra first_scratch (pos 0) ∷ receive frame R.places dest) in
        linked_follows T R (code_step wrapping A.here calls (tac.CallCross dest comp index args))
        (call_cross frame R.places dest comp index args) (λ pc. before ++ entry_call address)
        (trail_step (tac.CallCross dest comp index args))
        (λ pc. completed_after addresses pc arguments lines ∙
        ap (λ instrs. arguments ++ (high ++ Jalr ra first_scratch (lower_part address) ∷ instrs))
        (completed_plainly addresses (pc + 4 * length arguments + 4 + 4) (receive frame R.places dest)) ∙
        sym (append_assoc arguments high (entry_call address)))
        (low_after_plain addresses arguments lines ∙ low_plainly addresses (receive frame R.places dest))
        (goes calls follow (Cross comp index) dest args)
        (λ lives temps x left ready clear code inside ends left_is after_is.
        call_runs calls follow (Cross comp index) dest args there made answers lives temps
        (all_at (IsClear R.places) (plain_points args true dest lives) 2 _ clear refl)
        (λ y left v s ready b.
        is_back T R args dest lives temps y (Cross comp index) left v s valid.is.honest ready clear b) x
        before (Jalr ra first_scratch (lower_part address)) left ends left_is after_is code ready
        (λ vs read.
        (let p : Passes valid x ready.frame ready.sp x.regs a0 args vs =
        passes_args args dest lives temps x vs few needs ready read in
        prepared args x vs ready.frame ready.sp p (Cross comp index) high first_scratch (upper_part address)
        (upper T.image T.inputs (world T R x) p.after x.bytes first_scratch (upper_part address)
        (record { above = omega arith; below = omega arith })) (λ e. omega (arith, e)) (λ q h. h.first)
        (λ i l e. omega (arith, e))
        (λ low is_upper. (
          first_scratch,
          (
            lower_part address,
            (back_at T.image A.here.comp x.pc before (entry_call address) code).0,
            (let there : first_scratch < 32 = omega arith in there),
            jalr_to _ address is_upper below even,
          ),
        )))))
