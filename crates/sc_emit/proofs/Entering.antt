-- The code of the prologue: the frame is taken and arguments go into their variables, or the machine stands trapped
-- where the frame goes below the data.
use Rattle.sc_emit.proofs.Common.{All, Apart, Begins, ByteMemory as Bytes, CodeAt, Computes, Does, Enters, Fetches}
use Rattle.sc_emit.proofs.Common.{FrameFits, FrameOverflows, FrameTree, Function, Grown, ImageParts, Instr, IsFrame}
use Rattle.sc_emit.proofs.Common.{IsFromSp, IsWellFormed, IsWord, Joint, List, Option, Overflows, Piece, Place}
use Rattle.sc_emit.proofs.Common.{Registers, Setting, Some, Standpoint, Store, Stores, Sw, TakesFrame, Traps, Value}
use Rattle.sc_emit.proofs.Common.{Walks, World, [], a0, add_word, all_at, ap, are_data, arith, at, back_at, begun}
use Rattle.sc_emit.proofs.Common.{cases_eq, cases_lt, computes, data_start, eq-eqb, false, frame_taken, in_row, inl}
use Rattle.sc_emit.proofs.Common.{inr, is_there, last, length, length-append, look_at, moved_by, moved_to, moves_on}
use Rattle.sc_emit.proofs.Common.{object_inside, object_there, objects_apart, overflows, overflows_entering, own_beside}
use Rattle.sc_emit.proofs.Common.{own_inside, pos, prefix_at, prologue, put_word, ra, refl, refused, same_Some}
use Rattle.sc_emit.proofs.Common.{slice_get, sp, stack_top, step, store_arguments, store_word, stores_word, sub_word}
use Rattle.sc_emit.proofs.Common.{subst, suc, sym, takes_frame, unless_trap, unwrap_or, word, word_of-lt}
use Rattle.sc_emit.proofs.Common.{word_of-unsigned_sub, world_at, zero, ℕ, ⊎_elim, ◌%◌, ◌*◌, ◌++◌, ◌+◌, ◌-◌, ◌<◌, ◌^◌}
use Rattle.sc_emit.proofs.Common.{◌∙◌, ◌∷◌, ◌≡◌, ◌≢◌, ◌≤◌, ◌⊎◌}
use Rattle.sc_store.specs.Prelude.{with_bytes}
use Rattle.sc_image.specs.Prelude.{Goes}
use Rattle.sc_base.specs.declared.stop.TrapReason.TheVariants.{Owner}
use Rattle.std.proofs.lemmas.Bool.{false_from_ne_true}
use Rattle.sc_image.proofs.Running.{image_in_memory, steps_by_instruction}
use Rattle.sc_emit_hart.proofs.Words.{word_same, word_apart, stack_owned}
use Rattle.sc_emit_hart.specs.Prelude.{LacksRoom}

-- Arguments, each into its variable.

module _ (image : ImageParts) (inputs : List ℕ) (world : World) (low : ℕ) {cells : List ℕ} {places : List Place}
    {nodes : ℕ} {frame : FrameTree} (whole : IsFrame frame) (frame_fits : FrameFits cells places nodes frame)
    (aligned : low % 4 ≡ 0) (start : data_start world.active ≤ low)
    (high : low + frame.bytes ≤ stack_top world.active) (known : world.active < 32) where
  -- a word meets none of `count` variables from `from` on
  abbrev MeetsNone : (count from q : ℕ) → Type 0
  MeetsNone count from q =
      (o offset : ℕ) → from ≤ o → o < from + count → slice_get frame.objects o ≡ Some offset → Apart q (low + offset)

  -- the registers of `count` arguments from `from` on go into their variables
  record StoresArguments (count from : ℕ) (regs : Registers) (bytes : Bytes) : Type 0 where
    after : Registers
    later : Bytes
    does : Does image inputs world (store_arguments frame places count from) regs bytes after later
    sp : after sp ≡ low
    others : (q : ℕ) → MeetsNone count from q → word later q ≡ word bytes q
    stored : (o offset : ℕ) → from ≤ o → o < from + count → slice_get frame.objects o ≡ Some offset →
        word later (low + offset) ≡ regs (a0 + o)

  no_steps : (regs : Registers) (bytes : Bytes) → Does image inputs world [] regs bytes regs bytes
  no_steps regs bytes = record {
    walks = λ pc code.
        (let e : pc ≡ pc + 4 * 0 = omega arith in
        subst (λ p. Walks image inputs 0 (at pc regs bytes world) (at p regs bytes world)) e (record { by = refl }));
  }

  -- a variable of one cell at least is near enough
  object_from_sp : (regs : Registers) (o offset n : ℕ) → regs sp ≡ low → slice_get frame.objects o ≡ Some offset →
      slice_get cells o ≡ Some n → 1 ≤ n → IsFromSp image world regs offset (low + offset)
  object_from_sp regs o offset n at_low e f some =
      let inside : offset + 4 * n ≤ frame.bytes = object_inside cells places nodes frame frame_fits o offset n e f in
      let four : offset % 4 ≡ 0 = all_at (λ offset. offset % 4 ≡ 0) frame.objects o offset whole.objects e in
      record {
        sum = ap (λ s. s + offset) at_low;
        below = omega (arith, inside, some);
        owned = stack_owned image world.active (low + offset) (omega (arith, four)) (omega arith)
            (omega (arith, inside, some));
      }

  -- each of `params` parameters has a variable of one cell at least
  module _ (params : ℕ) (few : params ≤ 8) (there : params ≤ length cells)
      (some : (o n : ℕ) → o < params → slice_get cells o ≡ Some n → 1 ≤ n) where
    -- a parameter's variable
    record IsVariable (o : ℕ) : Type 0 where
      size : ℕ
      its : slice_get cells o ≡ Some size
      one : 1 ≤ size
      offset : ℕ
      object : slice_get frame.objects o ≡ Some offset

    variable : (o : ℕ) → o < params → IsVariable o
    variable o less =
        let size = is_there cells o (omega (arith, less, there)) in
        let object = object_there cells places nodes frame frame_fits o size.0 size.1 in
        record { size = size.0; its = size.1; one = some o size.0 less size.1; offset = object.0; object = object.1 }

    -- two meet at no word
    variables_apart : (o p a b : ℕ) → o ≢ p → o < params → p < params → slice_get frame.objects o ≡ Some a →
        slice_get frame.objects p ≡ Some b → Apart (low + a) (low + b)
    variables_apart o p a b other less little e f =
        let v : IsVariable o = variable o less in
        let w : IsVariable p = variable p little in
        ⊎_elim (λ h. inl (omega (arith, h, v.one))) (λ h. inr (omega (arith, h, w.one)))
        (objects_apart cells places nodes frame frame_fits o p a b v.size w.size other e v.its f w.its)

    store_first : (from : ℕ) (regs : Registers) (bytes : Bytes) → from < params → regs sp ≡ low →
        (v : IsVariable from) →
        Stores image inputs world (store_word (a0 + from) v.offset) (7 ∷ []) regs bytes (low + v.offset)
        (regs (a0 + from))
    store_first from regs bytes less at_low v =
        stores_word image inputs world bytes regs (a0 + from) v.offset (low + v.offset) (regs (a0 + from))
        (omega (arith, less, few)) (λ e. omega (arith, e)) (look_at regs (a0 + from) (omega arith))
        (object_from_sp regs from v.offset v.size at_low v.object v.its v.one)

    then_rest : (count from : ℕ) (regs : Registers) (bytes : Bytes) → from + suc count ≤ params → regs sp ≡ low →
        regs (a0 + from) < 2 ^ 32 → (v : IsVariable from) →
        (first : Stores image inputs world (store_word (a0 + from) v.offset) (7 ∷ []) regs bytes (low + v.offset)
        (regs (a0 + from))) →
        StoresArguments count (suc from) first.after (put_word bytes (low + v.offset) (regs (a0 + from))) →
        StoresArguments (suc count) from regs bytes
    then_rest count from regs bytes within at_low small v first rest = record {
      after = rest.after;
      later = rest.later;
      does = subst (λ o. Does image inputs world (store_word (a0 + from) o ++ store_arguments frame places count
          (suc from)) regs bytes rest.after rest.later) (sym (ap (λ o. unwrap_or o 0) v.object))
          (in_row image inputs world first.does rest.does);
      sp = rest.sp;
      others = λ q h.
          rest.others q (λ o offset above below. h o offset (omega (arith, above)) (omega (arith, below))) ∙
          word_apart bytes (low + v.offset) (regs (a0 + from)) q (h from v.offset (omega arith) (omega arith) v.object);
      stored = λ o offset above below e.
          ⊎_elim (λ same. here o offset same e) (λ other. following o offset other above below e) (cases_eq o from);
    }
      where
        here : (o offset : ℕ) → o ≡ from → slice_get frame.objects o ≡ Some offset →
            word rest.later (low + offset) ≡ regs (a0 + o)
        here o offset same e =
            let its : v.offset ≡ offset =
            same_Some v.offset offset (sym v.object ∙ ap (slice_get frame.objects) (sym same) ∙ e) in
            subst (λ d. word rest.later (low + d) ≡ regs (a0 + o)) its
            (rest.others (low + v.offset) (λ p d above below f.
            variables_apart from p v.offset d (λ e. omega (arith, e, above)) (omega (arith, within))
            (omega (arith, below, within)) v.object f) ∙
            word_same bytes (low + v.offset) (regs (a0 + from)) small ∙ ap (λ o. regs (a0 + o)) (sym same))

        following : (o offset : ℕ) → o ≢ from → from ≤ o → o < from + suc count →
            slice_get frame.objects o ≡ Some offset →
            word rest.later (low + offset) ≡ regs (a0 + o)
        following o offset other above below e =
            rest.stored o offset (omega (arith, above, other)) (omega (arith, below)) e ∙
            first.others (a0 + o) ((λ e. omega (arith, e)), tt)

    stores_arguments : (count from : ℕ) (regs : Registers) (bytes : Bytes) → from + count ≤ params → regs sp ≡ low →
        ((o : ℕ) → o < params → regs (a0 + o) < 2 ^ 32) → StoresArguments count from regs bytes
    stores_arguments zero from regs bytes within at_low words = record {
      after = regs;
      later = bytes;
      does = no_steps regs bytes;
      sp = at_low;
      others = λ q h. refl;
      stored = λ o offset above below e. absurd (omega (arith, above, below));
    }
    stores_arguments (suc count) from regs bytes within at_low words =
        let v : IsVariable from = variable from (omega (arith, within)) in
        let first : Stores image inputs world (store_word (a0 + from) v.offset) (7 ∷ []) regs bytes (low + v.offset)
        (regs (a0 + from)) = store_first from regs bytes (omega (arith, within)) at_low v in
        then_rest count from regs bytes within at_low (words from (omega (arith, within))) v first
        (stores_arguments count (suc from) first.after (put_word bytes (low + v.offset) (regs (a0 + from)))
        (omega (arith, within)) (first.others sp ((λ e. omega (arith, e)), tt) ∙ at_low)
        (λ o less. subst (λ w. w < 2 ^ 32) (sym (first.others (a0 + o) ((λ e. omega (arith, e)), tt))) (words o less)))

-- A frame below the data.

module _ (image : ImageParts) (formed : IsWellFormed image) (inputs : List ℕ) (world : World)
    (known : world.active < 32) where
  beyond_data : (a : ℕ) → 2 ^ 31 ≤ a → are_data image world.active a 4 ≡ false
  beyond_data a high = false_from_ne_true (are_data image world.active a 4) (λ its.
      (let within = image_in_memory.within image world.active a 4 formed (omega arith) its in
      omega (arith, high, known, within.1)))

  beyond_refused : (a : ℕ) → a % 4 ≡ 0 → 2 ^ 31 ≤ a → refused image world.active 4 a ≡ Some Owner
  beyond_refused a aligned high = rw (eq-eqb (a % 4) 0 aligned, beyond_data a high) refl

  -- a store beyond all data
  beyond_traps : (pc : ℕ) (regs : Registers) (memory : Bytes) (a : ℕ) →
      Fetches image world.active pc (Store Sw sp ra (pos 0)) → add_word (regs sp) 0 ≡ a → a % 4 ≡ 0 → 2 ^ 31 ≤ a →
      step image inputs (at pc regs memory world) ≡ Traps Owner
  beyond_traps pc regs memory a f e aligned high =
      steps_by_instruction.stores image inputs (at pc regs memory world) Sw sp ra (pos 0) a
      (record { word = f.word; fetched = f.fetched; decodes = f.decodes }) e ∙
      ap (λ why. unless_trap why (Goes (at (pc + 4) regs (with_bytes memory a 4 (regs ra)) world)))
      (beyond_refused a aligned high)

  wrapped : (bound bytes : ℕ) → bound < bytes → bytes ≤ 2 ^ 31 →
      add_word bound (sub_word 0 bytes) ≡ bound + 2 ^ 32 - bytes
  wrapped bound bytes less few =
      ap (add_word bound) (word_of-unsigned_sub 0 bytes (omega arith) (omega arith)) ∙ omega (arith, less, few)

  module _ (regs : Registers) (memory : Bytes) (bytes : ℕ) (few : bytes ≤ 2 ^ 31) (aligned : bytes % 4 ≡ 0)
      (place : regs sp % 4 ≡ 0) (pc : ℕ) (code : CodeAt image world.active pc (frame_taken bytes)) where
    -- sp goes below 0
    wraps : regs sp < bytes → FrameOverflows image inputs world bytes regs memory pc
    wraps less =
        let small : regs sp < 2 ^ 32 = omega (arith, less, few) in
        let bottom : ℕ = regs sp + 2 ^ 32 - bytes in
        let down : List Instr = moved_by sp sp (sub_word 0 bytes) in
        let first : Computes image inputs world down (7 ∷ []) regs memory sp bottom =
        computes image inputs world (7 ∷ []) bottom
        (moves_on image inputs world memory regs sp sp (sub_word 0 bytes) (regs sp)
        (record { above = omega arith; below = omega arith }) (omega arith) (λ e. omega (arith, e)) refl
        (word_of-lt _)) (wrapped (regs sp) bytes less few) (λ q k. k) in
        let all : length (frame_taken bytes) ≡ length down + 1 = length-append down (Store Sw sp ra (pos 0) ∷ []) in
        record {
          steps = length down;
          few = omega (arith, all);
          following = pc + 4 * length down;
          after = first.after;
          walks = first.does.walks pc (prefix_at image world.active pc down (Store Sw sp ra (pos 0) ∷ []) code);
          last = omega (arith, all);
          lowered = omega (arith, first.result, less, few, small);
          traps =
              beyond_traps (pc + 4 * length down) first.after memory bottom
              (back_at image world.active pc down (Store Sw sp ra (pos 0) ∷ []) code).0
              (ap (λ s. add_word s 0) first.result ∙ omega (arith, less, few))
              (omega (arith, less, few, aligned, place)) (omega (arith, less, few));
        }

    -- the frame goes below the data
    goes_below : regs sp < data_start world.active + bytes → FrameOverflows image inputs world bytes regs memory pc
    goes_below low =
        ⊎_elim wraps
        (λ more. overflows image inputs world memory regs bytes pc (regs sp - bytes) (omega (arith, more))
        (omega (arith, low, few, known)) (omega (arith, aligned, place, more)) (omega (arith, low, more)) code)
        (cases_lt (regs sp) bytes)

module _ (T : Setting) (formed : IsWellFormed T.image) (inputs : All IsWord T.inputs) {P : Standpoint} {f : Function}
    {args : List Value} {address ra_is : ℕ} {x : Joint} (begins : Begins T P f args address ra_is x)
    {frame : FrameTree} {places : List Place} {nodes : ℕ} (params : ℕ) (whole : IsFrame frame)
    (frame_fits : FrameFits f.cells places nodes frame) (roomy : frame.bytes ≤ f.frame_size)
    (code : CodeAt T.image P.comp x.pc (prologue frame places params)) where
  abbrev world : World
  world = world_at P x

  known : P.comp < 32
  known = omega (arith, begins.settled.steady.active, formed.few_comps)

  frame_code : CodeAt T.image P.comp x.pc (frame_taken frame.bytes)
  frame_code = prefix_at T.image P.comp x.pc (frame_taken frame.bytes) (store_arguments frame places params 0) code

  -- there is no room for the frame
  lacks : (o : FrameOverflows T.image T.inputs world frame.bytes x.regs x.bytes x.pc) →
      P.bound < data_start P.comp + frame.bytes → LacksRoom T.image (at o.following o.after x.bytes world)
  lacks o low =
      let down : List Instr = moved_by sp sp (sub_word 0 frame.bytes) in
      let all : length (frame_taken frame.bytes) ≡ length down + 1 =
      length-append down (Store Sw sp ra (pos 0) ∷ []) in
      record {
        stores = (moved_to T.image P.comp (x.pc + 4 * length down) o.following (Store Sw sp ra (pos 0) ∷ [])
            (omega (arith, all, o.last))
            (back_at T.image P.comp x.pc down (Store Sw sp ra (pos 0) ∷ []) frame_code)).0;
        bytes = frame.bytes;
        sp_before = x.regs sp;
        inside = (
          omega (arith, begins.sp, begins.base.floor, begins.base.floors.low P.comp begins.honest),
          omega (arith, begins.sp, begins.base.high),
        );
        lowered = o.lowered;
        below = omega (arith, begins.sp, low);
      }

  -- The frame doesn't fit: the machine stands trapped at the store of ra.
  pub overflows_below : (budget : ℕ) (piece : Piece (Option Value)) → frame.bytes ≤ 2 ^ 31 →
      P.bound < data_start P.comp + frame.bytes → length (frame_taken frame.bytes) ≤ budget →
      Grown (begun P.comp f args x.meant) (last piece) → Overflows T P x budget piece
  unfolding lacks
  overflows_below budget piece few low enough grown =
      let o : FrameOverflows T.image T.inputs world frame.bytes x.regs x.bytes x.pc =
      goes_below T.image formed T.inputs world known x.regs x.bytes frame.bytes few whole.bytes
      (omega (arith, begins.sp, begins.base.aligned)) x.pc
      frame_code (omega (arith, begins.sp, low)) in
      overflows_entering T formed inputs begins frame o.steps budget
      (at o.following o.after x.bytes world) piece roomy low o.walks o.traps (lacks o low)
      (record { begins = x.pc; code = frame_code; last = o.last }) refl refl
      (omega (arith, o.few, enough)) grown

  module _ (low : ℕ) (bound_is : P.bound ≡ low + frame.bytes) (start : data_start P.comp ≤ low)
      (long : length args ≡ params) (few : params ≤ 8) (there : params ≤ length f.cells)
      (some : (o n : ℕ) → o < params → slice_get f.cells o ≡ Some n → 1 ≤ n) where
    abbrev pub steps : ℕ
    steps = length (prologue frame places params)

    -- the prologue has come to its end
    pub record HasEntered : Type 0 where
      pub regs : Registers
      pub bytes : Bytes
      pub enters : Enters T formed inputs begins low whole frame_fits roomy bound_is start steps (x.pc + 4 * steps)
          regs bytes

    aligned : low % 4 ≡ 0
    aligned = omega (arith, bound_is, whole.bytes, begins.base.aligned)

    four : 0 + 4 ≤ frame.bytes
    four = own_inside f.cells places nodes frame frame_fits 0 0 refl

    takes : TakesFrame T.image T.inputs world frame.bytes x.regs x.bytes low
    takes =
        takes_frame T.image T.inputs world x.bytes x.regs frame.bytes low (sym (begins.sp ∙ bound_is))
        (omega (arith, begins.sp, begins.base.high, known))
        (stack_owned T.image P.comp low aligned start (omega (arith, four, bound_is, begins.base.high)))

    argument_kept : (o : ℕ) → takes.after (a0 + o) ≡ x.regs (a0 + o)
    argument_kept o = takes.others (a0 + o) ((λ e. omega (arith, e)), ((λ e. omega (arith, e)), tt))

    argument_word : (o : ℕ) → o < params → takes.after (a0 + o) < 2 ^ 32
    argument_word o less =
        let v = is_there args o (omega (arith, less, long)) in
        subst (λ w. w < 2 ^ 32) (sym (argument_kept o)) (begins.passed o v.0 v.1).word

    ra_word : x.regs ra < 2 ^ 32
    ra_word = begins.settled.steady.words ra

    abbrev between : Bytes
    between = put_word x.bytes low (x.regs ra)

    stores : StoresArguments T.image T.inputs world low whole frame_fits aligned start
        (omega (arith, bound_is, begins.base.high)) known params 0 takes.after between
    stores =
        stores_arguments T.image T.inputs world low whole frame_fits aligned start
        (omega (arith, bound_is, begins.base.high)) known params few there some params 0 takes.after between (omega
        arith)
        takes.lowered argument_word

    object_of : (o offset : ℕ) → o < params → slice_get frame.objects o ≡ Some offset →
        (n : ℕ) × (slice_get f.cells o ≡ Some n) × (1 ≤ n)
    object_of o offset less e =
        let n = is_there f.cells o (omega (arith, less, there)) in (n.0, n.1, some o n.0 less n.1)

    -- the return address lies beside all variables
    ra_beside : MeetsNone T.image T.inputs world low whole frame_fits aligned start
        (omega (arith, bound_is, begins.base.high)) known params 0 low
    ra_beside o offset above below e =
        let n = object_of o offset (omega (arith, below)) e in
        ⊎_elim (λ h. inl (omega (arith, h))) (λ h. inl (omega (arith, h, n.2)))
        (own_beside f.cells places nodes frame frame_fits 0 0 o offset n.0 refl e n.1)

    -- and variables lie inside the frame
    outside_beside : (q : ℕ) → (q + 4 ≤ low) ⊎ (low + frame.bytes ≤ q) →
        MeetsNone T.image T.inputs world low whole frame_fits aligned start
        (omega (arith, bound_is, begins.base.high)) known params 0 q
    outside_beside q h o offset above below e =
        let n = object_of o offset (omega (arith, below)) e in
        let inside : offset + 4 * n.0 ≤ frame.bytes =
        object_inside f.cells places nodes frame frame_fits o offset n.0 e n.1 in
        ⊎_elim (λ k. inl (omega (arith, k))) (λ k. inr (omega (arith, k, inside, n.2))) h

    outside_low : (q : ℕ) → (q + 4 ≤ low) ⊎ (low + frame.bytes ≤ q) → Apart q low
    outside_low q h = ⊎_elim (λ k. inl k) (λ k. inr (omega (arith, k, four))) h

    pub has_entered : HasEntered
    has_entered = record {
      regs = stores.after;
      bytes = stores.later;
      enters = record {
        walks = (in_row T.image T.inputs world takes.does stores.does).walks x.pc code;
        sp = stores.sp;
        ra = stores.others low ra_beside ∙ word_same x.bytes low (x.regs ra) ra_word ∙ begins.ra;
        outside = λ q h.
            stores.others q (outside_beside q h) ∙ word_apart x.bytes low (x.regs ra) q (outside_low q h);
        stored = λ o offset less e.
            stores.stored o offset (omega arith) (omega (arith, less, long)) e ∙ argument_kept o;
      };
    }
