-- Allocation and freeing: one call of the environment each, which no function answers.
use Rattle.sc_emit.proofs.Common.{Activation, Addi, Blocks, Bool, CallTarget, Calls, CodeAt, Comes, ComesBack, Computes}
use Rattle.sc_emit.proofs.Common.{Does, Ecall, Fetches, Follows, FrameTree, Goes, Gone, HasNoOtherUse, Here, Input}
use Rattle.sc_emit.proofs.Common.{Instr, IsClear, IsInPlace, IsRunning, Joint, Left, List, Lives, MovesOn, Next, None}
use Rattle.sc_emit.proofs.Common.{Null, Ok, OpImm, Option, Output, Piece, Ptr, Reached, Ready, Registers, Running}
use Rattle.sc_emit.proofs.Common.{Setting, Some, StandsFor, State as Meant, TacStmt, TacStmt-F, Temps, Value, Word, []}
use Rattle.sc_emit.proofs.Common.{a0, a1, a7, all_at, alloc_does, allocated, and_from, and_then, append_assoc, arith}
use Rattle.sc_emit.proofs.Common.{back_at, brought, call_from, code_step, comes_after, comes_computed, comes_read}
use Rattle.sc_emit.proofs.Common.{count_in, elements_allocated, emits_here, environment_call, eq-eqb, false, free_does}
use Rattle.sc_emit.proofs.Common.{freed, has_heap, in_row, inl, is_one, leave, leaves_heap, length, length-append}
use Rattle.sc_emit.proofs.Common.{live_plain, loading, loads_number, map-TacStmt, moved, not, of_environment, or_left}
use Rattle.sc_emit.proofs.Common.{or_right, place_of, placed, plain_points, pos, prefix_at, prefix_same, receive}
use Rattle.sc_emit.proofs.Common.{received, refl, released, seen_from, select_step, settled_to, sp, spans_of, stays}
use Rattle.sc_emit.proofs.Common.{subst, suc, sym, then_goes, trail_step, true, uses_heap, with_memory, with_number}
use Rattle.sc_emit.proofs.Common.{with_temp, wrapping, ℕ, ◌*◌, ◌++◌, ◌+◌, ◌<◌, ◌^◌, ◌||◌, ◌∙◌, ◌∷◌, ◌≡◌}
use Rattle.sc_emit.proofs.Arguments.{Brings, brings}
use Rattle.sc_emit.proofs.Calls.{HasPlace, IsGiven, lands, last_point}
use Rattle.sc_emit.proofs.Environment.{asked_back}
use Rattle.sc_emit.proofs.Operands.{walks_to, world}
use Rattle.sc_emit.proofs.Passing.{Test, implied_everywhere}
use Rattle.sc_emit.proofs.Straight.{ComesStraight, computed_goes, read_goes, straight_follows}
unfoldable use Rattle.sc_zone.specs.Prelude.{least_free}
use Rattle.sc_emit_relation.proofs.Allocating.{IsAllocated, alloc_comes}
use Rattle.sc_emit_relation.proofs.Assigning.{moves_on}
use Rattle.sc_emit_relation.proofs.Freeing.{free_comes}
use Rattle.sc_tac.specs.declared.stmt.TacStmt.TheOpen as tac
use Rattle.sc_tac.specs.Prelude.{everywhere}

-- A compartment whose code uses the heap has one.

-- a statement uses the heap only where there is one
abbrev pub keeps_to_heap : (heap : Bool) → Test
keeps_to_heap heap layer = leaves_heap layer || heap

same_use : (one two : TacStmt → Bool) (layer : TacStmt-F TacStmt) →
    leaves_heap (map-TacStmt _ _ one layer) ≡ leaves_heap (map-TacStmt _ _ two layer)
same_use one two (tac.Alloc dest count words) = refl
same_use one two _ = refl

none_used : (b : Bool) → (not b ≡ true → false ≡ true) → b ≡ true
none_used true h = refl
none_used false h = let never : false ≡ true = h refl in cc never

pub heap_kept : (heap : Bool) (stmts : List TacStmt) → (uses_heap stmts ≡ true → heap ≡ true) →
    everywhere (keeps_to_heap heap) stmts ≡ true
heap_kept true stmts h =
    implied_everywhere [] (keeps_to_heap true) (λ layer all. or_right (leaves_heap (map-TacStmt _ _ _ layer)) true refl)
    stmts tt
heap_kept false stmts h =
    implied_everywhere (leaves_heap ∷ []) (keeps_to_heap false)
    (λ layer all. or_left (leaves_heap (map-TacStmt _ _ _ layer)) false (same_use _ _ layer ∙ all.0)) stmts
    (none_used (everywhere leaves_heap stmts) h, tt)

-- What the meaning does goes on.

memory_goes : {V : Type 0} (here : Here) (blocks : Blocks) (v : V) (s : Meant) →
    Gone s (Reached v (with_memory here.comp blocks s))
memory_goes here blocks v s = record {
  grown = record {
    events = prefix_same s.trace;
    frames = prefix_same s.frames;
    late = tt;
    turns = omega arith;
  };
  stop = tt;
}

placed_goes : (here : Here) (words : ℕ) (found : Option ℕ) → Goes (placed here words found)
placed_goes here words None s = stays Null s
placed_goes here words (Some place) s = memory_goes here _ _ s

alloc_goes : (here : Here) (dest count words : ℕ) (temps : Temps) → Goes (alloc_does here dest count words temps)
alloc_goes here dest count words temps =
    read_goes here count temps
    (λ v s. and_then (elements_allocated here v words 0 s) (λ q s. leave Next (with_temp dest q temps) s))
    (λ v s. then_goes s (elements_allocated here v words 0 s) (λ q s. leave Next (with_temp dest q temps) s)
    (computed_goes here (count_in v) (λ n s. allocated here (n * words) s)
    (λ n s. placed_goes here (n * words) (least_free (spans_of (s.memory here.comp)) (n * words)) s) s)
    (λ q. stays (record { exit = Next; carried = with_temp dest q temps })))

released_goes : (here : Here) (temps : Temps) (v : Value) → Goes (released here v 0 temps)
released_goes here temps v s =
    computed_goes here (freed (s.memory here.comp) v)
    (λ blocks s. leave Next temps (with_memory here.comp blocks s)) (λ blocks s. memory_goes here blocks _ s) s

module _ {T : Setting} {R : Running} (valid : IsRunning T R)
    (heap : has_heap T.image R.activation.here.comp ≡ true) where
  abbrev A : Activation
  A = R.activation

  abbrev frame : FrameTree
  frame = R.activation.frame

  -- a7 says what is asked for
  abbrev ask : ℕ → List Instr
  ask number = OpImm Addi a7 0 (pos number) ∷ []

  asks : (x : Joint) (regs : Registers) (number : ℕ) → number < 2 ^ 32 →
      Computes T.image T.inputs (world T R x) (ask number) [] regs x.bytes a7 number
  asks x regs number small =
      with_number T.image T.inputs (world T R x) regs x.bytes Addi a7 0 (pos number) 0 number
      (record { above = omega arith; below = omega arith }) (omega arith) refl (omega (arith, small))

  -- a call of the environment, in its place: the code before it, and that behind
  module _ (before : List Instr) (number : ℕ) (behind : List Instr) where
    abbrev call : List Instr
    call = (before ++ ask number) ++ Ecall ∷ behind

    call_is : (before ++ environment_call number) ++ behind ≡ call
    call_is =
        append_assoc before (environment_call number) behind ∙ sym (append_assoc before (ask number) (Ecall ∷ behind))

  -- code before a call, which leaves all that temporaries hold
  record Poses (x : Joint) (code : List Instr) : Type 0 where
    after : Registers
    does : Does T.image T.inputs (world T R x) code x.regs x.bytes after x.bytes
    same : after sp ≡ x.regs sp
    others : (q : ℕ) → HasNoOtherUse q → after q ≡ x.regs q

  module _ (reads : List ℕ) (dest : Option ℕ) (there : HasPlace R.places dest) (lives : Lives) (temps : Temps)
      (clear : IsClear R.places (last_point dest lives)) (x : Joint) (left : ℕ)
      (ready : Ready T R (live_plain reads dest lives) temps x) (before : List Instr) (number : ℕ)
      (posed : Poses x (before ++ ask number)) where
    abbrev to_place : List Instr
    to_place = receive frame R.places dest

    abbrev whole : List Instr
    whole = call before number to_place

    abbrev n : ℕ
    n = length (before ++ ask number)

    abbrev rest : ℕ
    rest = 1 + (length to_place + left)

    abbrev called : Joint
    called = moved x (x.pc + 4 * n) posed.after x.bytes

    module _ (at : CodeAt T.image A.here.comp x.pc whole) where
      moved_on : MovesOn valid (live_plain reads dest lives) temps x n rest (x.pc + 4 * n) posed.after
      moved_on =
          moves_on valid (live_plain reads dest lives) temps x n rest (x.pc + 4 * n) posed.after ready posed.same
          posed.others (walks_to T R x (before ++ ask number) posed.after x.bytes posed.does
          (prefix_at T.image A.here.comp x.pc (before ++ ask number) (Ecall ∷ to_place) at))

      fetches : Fetches T.image A.here.comp called.pc Ecall
      fetches = (back_at T.image A.here.comp x.pc (before ++ ask number) (Ecall ∷ to_place) at).0

      -- it came back, with a value for where one is wanted
      comes_back : (target : CallTarget) (v : Option Value) (s : Meant) → of_environment target ≡ true →
          IsGiven dest v → ComesBack T (call_from T R) called target v s →
          ComesStraight T R lives x whole left (leave Next (received dest v temps) s)
      comes_back target v s environment given b ends left_is after_is =
          let long : length whole ≡ n + suc (length to_place) =
          length-append (before ++ ask number) (Ecall ∷ to_place) in
          let all : n + rest ≡ length whole + left = omega (arith, long) in
          subst (λ b. Comes T R lives x b ends (leave Next (received dest v temps) s)) all
          (comes_after T R lives x called (n + rest) rest ends (leave Next (received dest v temps) s) ready.settled
          moved_on.leads
          (lands valid dest reads there lives temps clear called left ends left_is (after_is ∙ omega (arith, long))
          (back_at T.image A.here.comp x.pc (before ++ ask number) (Ecall ∷ to_place) at).1 moved_on.ready.settled v s
          given (asked_back valid reads dest lives temps called target (length to_place + left) v s environment
          moved_on.ready b)))

  -- the first argument, which is read in its place
  first_held : (t : ℕ) (dest : Option ℕ) (lives : Lives) (temps : Temps) (x : Joint) (v : Value) →
      R.plan.needed t ≡ true → Ready T R (live_plain (t ∷ []) dest lives) temps x → temps t ≡ Some v →
      IsInPlace A R.places x.inj x.regs x.bytes t v
  first_held t dest lives temps x v need ready known =
      let only : is_one t (t ∷ []) ≡ true = rw (eq-eqb t t refl) refl in
      let on : live_plain (t ∷ []) dest lives t ≡ true = or_left (is_one t (t ∷ [])) _ only in
      ready.held t v (and_from (live_plain (t ∷ []) dest lives t) (R.plan.needed t) on need) known

  module _ (calls : Calls) (dest count words : ℕ) (there : HasPlace R.places (Some dest))
      (need : R.plan.needed count ≡ true) (small : words < 2 ^ 32) where
    abbrev given : List Instr
    given = brought frame a0 (place_of frame R.places count)

    abbrev before : List Instr
    before = given ++ loading a1 words

    abbrev code : List Instr
    code = before ++ environment_call 3 ++ receive frame R.places (Some dest)

    abbrev asking : List Instr
    asking = call before 3 (receive frame R.places (Some dest))

    abbrev onwards : Temps → Value → Meant → Piece (Left Temps)
    onwards temps q s = leave Next (with_temp dest q temps) s

    module _ (lives : Lives) (temps : Temps) (x : Joint) (left : ℕ)
        (ready : Ready T R (live_plain (count ∷ []) (Some dest) lives) temps x)
        (clear : IsClear R.places (last_point (Some dest) lives))
        (at : CodeAt T.image A.here.comp x.pc asking) where
      module _ (n : ℕ) (known : temps count ≡ Some (Word n)) where
        counted : Brings valid x ready.frame ready.sp x.regs given a0 (Word n)
        counted = brings valid x ready.frame ready.sp x.regs a0 count (Word n)
            (record { above = omega arith; below = omega arith })
            (first_held count (Some dest) lives temps x (Word n) need ready known) refl (λ q h. refl)

        sized : Computes T.image T.inputs (world T R x) (loading a1 words) [] counted.piece.after x.bytes a1 words
        sized = loads_number T.image T.inputs (world T R x) x.bytes counted.piece.after a1 words
            (record { above = omega arith; below = omega arith }) small

        asked : Computes T.image T.inputs (world T R x) (ask 3) [] sized.after x.bytes a7 3
        asked = asks x sized.after 3 (omega arith)

        abbrev posed : Poses x (before ++ ask 3)
        posed = record {
          after = asked.after;
          does =
              in_row T.image T.inputs (world T R x)
              (in_row T.image T.inputs (world T R x) counted.piece.does sized.does) asked.does;
          same =
              asked.others sp ((λ e. omega (arith, e)), tt) ∙ sized.others sp ((λ e. omega (arith, e)), tt) ∙
              counted.piece.others sp ((λ e. omega (arith, e)), ((λ e. omega (arith, e)), tt));
          others = λ q h.
              asked.others q ((λ e. omega (arith, h.argument, e)), tt) ∙
              sized.others q ((λ e. omega (arith, h.argument, e)), tt) ∙
              counted.piece.others q ((λ e. omega (arith, h.argument, e)), (h.address, tt));
        }

        count_is : asked.after a0 ≡ n
        count_is =
            asked.others a0 ((λ e. omega (arith, e)), tt) ∙ sized.others a0 ((λ e. omega (arith, e)), tt) ∙
            counted.piece.result ∙ counted.stands.means

        words_is : asked.after a1 ≡ words
        words_is = asked.others a1 ((λ e. omega (arith, e)), tt) ∙ sized.result

        abbrev at_call : Joint
        at_call = called (count ∷ []) (Some dest) there lives temps clear x left ready before 3 posed

        before_call : Ready T R (live_plain (count ∷ []) (Some dest) lives) temps at_call
        before_call = (moved_on (count ∷ []) (Some dest) there lives temps clear x left ready before 3 posed at).ready

        allocates : IsAllocated T (call_from T R) at_call A.here (n * words)
        allocates =
            alloc_comes T valid.formed valid.inputs (call_from T R) at_call
            (settled_to T R at_call before_call.settled) valid.is.honest
            (omega (arith, valid.is.floor, valid.is.high)) heap
            (fetches (count ∷ []) (Some dest) there lives temps clear x left ready before 3 posed at) n words
            asked.result count_is words_is A.here.first

        elements_come : ComesStraight T R lives x asking left
            (and_then (allocated A.here (n * words) x.meant) (onwards temps))
        elements_come =
            subst (λ piece. ComesStraight T R lives x asking left (and_then piece (onwards temps)))
            (sym allocates.gives)
            (comes_back (count ∷ []) (Some dest) there lives temps clear x left ready before 3 posed at Input
            (Some allocates.v) allocates.meant refl tt allocates.comes)

      -- only a word counts elements
      by_count : (v : Value) → temps count ≡ Some v →
          ComesStraight T R lives x asking left
          (and_then (elements_allocated A.here v words 0 x.meant) (onwards temps))
      by_count (Word n) known ends left_is after_is = elements_come n known ends left_is after_is
      by_count Null known ends left_is after_is = inl (emits_here T (seen_from A) x (length asking + left))
      by_count (Ptr p) known ends left_is after_is = inl (emits_here T (seen_from A) x (length asking + left))

      alloc_comes_past : ComesStraight T R lives x asking left (alloc_does A.here dest count words temps x.meant)
      alloc_comes_past ends left_is after_is =
          comes_read T R lives x (length asking + left) ends A.here count temps
          (λ v s. and_then (elements_allocated A.here v words 0 s) (onwards temps))
          (λ v known. by_count v known ends left_is after_is)

    pub alloc_follows : Follows T R (code_step wrapping A.here calls (tac.Alloc dest count words))
        (select_step frame R.places R.plan (tac.Alloc dest count words)) (trail_step (tac.Alloc dest count words))
    alloc_follows =
        let code_is : code ≡ asking = call_is before 3 (receive frame R.places (Some dest)) in
        straight_follows T R (code_step wrapping A.here calls (tac.Alloc dest count words)) code
        (trail_step (tac.Alloc dest count words)) (alloc_goes A.here dest count words)
        (λ lives temps x left ready clear at.
        subst (λ code. ComesStraight T R lives x code left (alloc_does A.here dest count words temps x.meant))
        (sym code_is)
        (alloc_comes_past lives temps x left ready
        (all_at (IsClear R.places) (plain_points (count ∷ []) false (Some dest) lives) 1 _ clear refl)
        (subst (CodeAt T.image A.here.comp x.pc) code_is at)))

  module _ (calls : Calls) (pointer : ℕ) (need : R.plan.needed pointer ≡ true) where
    abbrev brought_in : List Instr
    brought_in = brought frame a0 (place_of frame R.places pointer)

    abbrev freeing : List Instr
    freeing = call brought_in 4 []

    module _ (lives : Lives) (temps : Temps) (x : Joint) (left : ℕ)
        (ready : Ready T R (live_plain (pointer ∷ []) None lives) temps x)
        (clear : IsClear R.places (last_point None lives)) (at : CodeAt T.image A.here.comp x.pc freeing) where
      module _ (v : Value) (known : temps pointer ≡ Some v) (blocks : Blocks)
          (gives : freed (x.meant.memory A.here.comp) v ≡ Ok blocks) where
        loaded : Brings valid x ready.frame ready.sp x.regs brought_in a0 v
        loaded = brings valid x ready.frame ready.sp x.regs a0 pointer v
            (record { above = omega arith; below = omega arith })
            (first_held pointer None lives temps x v need ready known) refl (λ q h. refl)

        freed_asked : Computes T.image T.inputs (world T R x) (ask 4) [] loaded.piece.after x.bytes a7 4
        freed_asked = asks x loaded.piece.after 4 (omega arith)

        abbrev free_posed : Poses x (brought_in ++ ask 4)
        free_posed = record {
          after = freed_asked.after;
          does = in_row T.image T.inputs (world T R x) loaded.piece.does freed_asked.does;
          same =
              freed_asked.others sp ((λ e. omega (arith, e)), tt) ∙
              loaded.piece.others sp ((λ e. omega (arith, e)), ((λ e. omega (arith, e)), tt));
          others = λ q h.
              freed_asked.others q ((λ e. omega (arith, h.argument, e)), tt) ∙
              loaded.piece.others q ((λ e. omega (arith, h.argument, e)), (h.address, tt));
        }

        stands : StandsFor (x.inj A.here.comp) (freed_asked.after a0) v
        stands =
            subst (λ w. StandsFor (x.inj A.here.comp) w v)
            (sym (freed_asked.others a0 ((λ e. omega (arith, e)), tt) ∙ loaded.piece.result)) loaded.stands

        abbrev at_free : Joint
        at_free = called (pointer ∷ []) None tt lives temps clear x left ready brought_in 4 free_posed

        before_free : Ready T R (live_plain (pointer ∷ []) None lives) temps at_free
        before_free = (moved_on (pointer ∷ []) None tt lives temps clear x left ready brought_in 4 free_posed at).ready

        block_comes : ComesStraight T R lives x freeing left
            (leave Next temps (with_memory A.here.comp blocks x.meant))
        block_comes =
            comes_back (pointer ∷ []) None tt lives temps clear x left ready brought_in 4 free_posed at Output None
            (with_memory A.here.comp blocks x.meant) refl tt
            (free_comes T valid.formed valid.inputs (call_from T R) at_free (settled_to T R at_free before_free.settled)
            valid.is.honest heap
            (fetches (pointer ∷ []) None tt lives temps clear x left ready brought_in 4 free_posed at)
            freed_asked.result v blocks stands gives)

      free_comes_past : ComesStraight T R lives x freeing left (free_does A.here pointer temps x.meant)
      free_comes_past ends left_is after_is =
          comes_read T R lives x (length freeing + left) ends A.here pointer temps
          (λ v s. released A.here v 0 temps s)
          (λ v known. comes_computed T R lives x (length freeing + left) ends A.here 0
          (freed (x.meant.memory A.here.comp) v)
          (λ blocks s. leave Next temps (with_memory A.here.comp blocks s))
          (λ blocks gives. block_comes v known blocks gives ends left_is after_is))

    pub free_follows : Follows T R (code_step wrapping A.here calls (tac.Free pointer))
        (select_step frame R.places R.plan (tac.Free pointer)) (trail_step (tac.Free pointer))
    free_follows =
        let code_is : brought_in ++ environment_call 4 ≡ freeing = sym (append_assoc brought_in (ask 4) (Ecall ∷ [])) in
        straight_follows T R (code_step wrapping A.here calls (tac.Free pointer)) (brought_in ++ environment_call 4)
        (trail_step (tac.Free pointer))
        (λ temps. read_goes A.here pointer temps (λ v s. released A.here v 0 temps s) (released_goes A.here temps))
        (λ lives temps x left ready clear at.
        subst (λ code. ComesStraight T R lives x code left (free_does A.here pointer temps x.meant)) (sym code_is)
        (free_comes_past lives temps x left ready
        (all_at (IsClear R.places) (plain_points (pointer ∷ []) false None lives) 1 _ clear refl)
        (subst (CodeAt T.image A.here.comp x.pc) code_is at)))
