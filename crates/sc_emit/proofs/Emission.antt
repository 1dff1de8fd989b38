-- The code that is selected keeps what code keeps.
use Rattle.sc_emit.proofs.Common.{ArePlaces, AreReached, Bool, CodeAt, CodeTree, Err, Follows, FrameFits, FrameTree}
use Rattle.sc_emit.proofs.Common.{FunctionFollows, IfOk, Instr, IsAssignment, IsEmitted, IsFrame, IsFunction, IsPlaced}
use Rattle.sc_emit.proofs.Common.{IsRunning, Line, List, Ok, Place, Register, Result, Running, Setting, Slot, Some}
use Rattle.sc_emit.proofs.Common.{TacFnTree, [], and_parts, ap, append_assoc, arith, branch_reach, calls_only, closing}
use Rattle.sc_emit.proofs.Common.{code_does, code_function, code_of, entry_weight, frame_taken, function_lines}
use Rattle.sc_emit.proofs.Common.{function_points, has_heap, interval_of, intervals_of, is_near, is_place, length}
use Rattle.sc_emit.proofs.Common.{length-append, length-map, list_all, ltb-true, map, map-append, max, names_own_temps}
use Rattle.sc_emit.proofs.Common.{nat_lt, needs_of, plainly, plan_of, prologue, range_with_len, refl, register_count}
use Rattle.sc_emit.proofs.Common.{row, row_is_sized, same_Some, select_all, slice_get, slice_get-get_or, slots_of}
use Rattle.sc_emit.proofs.Common.{slots_up_to, store_arguments, subst, suc, sym, trail, true, uses_heap, weight}
use Rattle.sc_emit.proofs.Common.{wrapping, zero, ℕ, ◌++◌, ◌+◌, ◌<◌, ◌∙◌, ◌∷◌, ◌≡◌, ◌≤◌}
use Rattle.sc_base.specs.Prelude.{IsPrefix}
use Rattle.sc_tac.specs.Prelude.{everywhere}
use Rattle.sc_emit.proofs.Needed.{all_among}
use Rattle.std.proofs.lemmas.List.FromFn.{length-range_with_len}
use Rattle.sc_emit_relation.proofs.Linking.{linked_is}
use Rattle.sc_emit.proofs.Branches.{few_branches, known_jumps, no_ebreak}
use Rattle.sc_emit.proofs.Functions.{PlacesAll, in_call, BodyFollows, code_follows}
use Rattle.sc_emit.proofs.Returns.{brace_returns}
use Rattle.sc_emit.proofs.Repeating.{repeats_by_rounds}
use Rattle.sc_emit.proofs.Rounds.{few_back, has_rounds}
use Rattle.sc_emit.proofs.Statements.{body_follows}
use Rattle.sc_emit.proofs.Targets.{targets_named}
use Rattle.sc_emit.proofs.Heap.{heap_kept, keeps_to_heap}

-- a slot that a place names is below their number
slot_below : (places : List Place) (t k : ℕ) → slice_get places t ≡ Some (Slot k) → k < slots_of places
slot_below [] t k h = cc h
slot_below (place ∷ places) zero k h =
    let same : place ≡ Slot k = same_Some place (Slot k) h in
    subst (λ place. k < max (slots_up_to place) (slots_of places)) (sym same) (omega arith)
slot_below (place ∷ places) (suc t) k h =
    let below : k < slots_of places = slot_below places t k h in omega (arith, below)

register_below : (n : ℕ) (places : List Place) (t r : ℕ) → list_all (is_place n) places ≡ true →
    slice_get places t ≡ Some (Register r) → r < register_count
register_below n [] t r h e = cc e
register_below n (place ∷ places) zero r h e =
    let same : place ≡ Register r = same_Some place (Register r) e in
    let here : is_place n place ≡ true = (and_parts (is_place n place) (list_all (is_place n) places) h).0 in
    ltb-true r register_count (subst (λ place. is_place n place ≡ true) same here)
register_below n (place ∷ places) (suc t) r h e =
    register_below n places t r (and_parts (is_place n place) (list_all (is_place n) places) h).1 e

module _ (f : TacFnTree) (places : List Place) (frame : FrameTree) (rules : IsFunction f) (whole : IsFrame frame)
    (kept : ArePlaces places) (frame_fits : FrameFits f.objects places f.nodes frame) (small : frame.bytes ≤ 32768)
    (assigned : IsAssignment (intervals_of f) places) where
  abbrev code : CodeTree
  code = code_of f places frame

  abbrev near : Bool
  near = is_near f places frame

  abbrev lines : List Line
  lines = function_lines frame places (plan_of f near) f

  all_instrs : length code.instrs ≡ length lines
  all_instrs = length-map lines (λ line. line.instr)

  body_within : (select_all frame places (plan_of f near) f.body).size ≤ length lines
  body_within = omega (
    arith,
    length-append (plainly (prologue frame places f.params) ++ (select_all frame places (plan_of f near) f.body).lines
        0 0)
        (plainly (closing frame places f.entry)),
    length-append (plainly (prologue frame places f.params)) ((select_all frame places (plan_of f near) f.body).lines
        0 0),
    (row_is_sized frame places (plan_of f near) f.body).sized 0 0,
  )

  -- a branch reaches all over code whose loops end with their tests
  reaches : near ≡ true → length lines < branch_reach
  reaches h =
      let same : lines ≡ function_lines frame places (plan_of f true) f =
      ap (λ b. function_lines frame places (plan_of f b) f) h in
      ltb-true (length lines) branch_reach (ap (λ l. nat_lt (length l) branch_reach) same ∙ h)

  temps_are : f.temps ≡ length places
  temps_are = sym (assigned.each ∙ length-map (range_with_len 0 f.temps) (interval_of (function_points f)) ∙
      length-range_with_len 0 f.temps)

  all_placed : (T : Setting) → PlacesAll T f frame places near
  all_placed T A last same t (Register r) e = register_below (length places) places t r kept.known e
  all_placed T A last same t (Slot k) e =
      let below : k < length frame.slots = omega (arith, slot_below places t k e, frame_fits.slots) in
      (_, ap (λ (frame : FrameTree). slice_get frame.slots k) same ∙ slice_get-get_or frame.slots k 0 below)

  module _ (T : Setting) (comp address : ℕ) (is : IsPlaced T comp address f code) where
    body : BodyFollows T f frame places near comp
    body calls follow A last run gapless =
        let R : Running = in_call T f frame places near A last in
        let valid : IsRunning T R = record {
          formed = is.image;
          inputs = is.inputs;
          cells = f.objects;
          nodes = f.nodes;
          is = run.is;
          placed = all_placed T A last run.frame_is;
          gapless = gapless;
        } in
        let size : (select_all A.frame places (plan_of f near) f.body).size ≤ length lines =
        subst (λ (frame : FrameTree). (select_all frame places (plan_of f near) f.body).size ≤ length lines) (sym
        run.frame_is) body_within in
        let reached : AreReached T A.here.comp is.function is.entry is.global =
        subst (λ c. AreReached T c is.function is.entry is.global) (sym run.comp_is) is.reached in
        let made : everywhere (calls_only (T.makes A.here.comp) (T.gives A.here.comp)) f.body ≡ true =
        subst (λ c. everywhere (calls_only (T.makes c) (T.gives c)) f.body ≡ true) (sym run.comp_is) is.calls in
        let heap : everywhere (keeps_to_heap (has_heap T.image A.here.comp)) f.body ≡ true =
        subst (λ c. everywhere (keeps_to_heap (has_heap T.image c)) f.body ≡ true) (sym run.comp_is)
        (heap_kept (has_heap T.image comp) f.body is.heap) in
        let temps : everywhere (names_own_temps (length places)) f.body ≡ true =
        subst (λ n. everywhere (names_own_temps n) f.body ≡ true) temps_are rules.own_temps in
        subst (λ frame. Follows T R (code_does wrapping A.here calls f.body) (select_all frame places (plan_of f near)
        f.body) (row (map trail f.body))) run.frame_is (body_follows valid calls follow
        is.function is.entry is.global reached (length lines) (omega (arith, all_instrs, is.paid)) reaches f.body (
          temps,
          (
            rules.own_objects,
            (
              rules.operands,
              (
                rules.few_arguments,
                (
                  rules.words,
                  (
                    rules.elements,
                    (is.names, (made, (heap, tt))),
                  ),
                ),
              ),
            ),
          ),
        ) (all_among (needs_of f.body) (needs_of f.body) (λ t on. on)) size)

    follows : FunctionFollows T comp address (length code.instrs) f.params (code_function wrapping f)
    follows =
        code_follows T f frame places near is.image is.inputs rules whole frame_fits small assigned is.words comp
        address
        (length code.instrs)
        (subst (CodeAt T.image comp address) (linked_is (T.addresses comp) (uses_heap f.body) address lines) is.stands)
        (omega (arith, all_instrs)) body (brace_returns T f frame places near is.image is.inputs (all_placed T) comp)

  -- the prologue comes first
  enters : IsPrefix (frame_taken frame.bytes) code.instrs
  enters =
      let later : List Line = (select_all frame places (plan_of f near) f.body).lines 0 0 ++ plainly (closing frame
      places f.entry) in
      let stores : List Instr = store_arguments frame places f.params 0 in
      let instr : Line → Instr = λ line. line.instr in
      record {
        more = stores ++ map instr later;
        is =
            ap (map instr) (append_assoc (plainly (prologue frame places f.params))
            ((select_all frame places (plan_of f near) f.body).lines 0 0) (plainly (closing frame places f.entry))) ∙
            map-append instr (plainly (prologue frame places f.params)) later ∙
            ap (λ is. is ++ map instr later) (plain_instrs (prologue frame places f.params)) ∙
            append_assoc (frame_taken frame.bytes) stores (map instr later);
      }
    where
      plain_instrs : (instrs : List Instr) → map (λ line. line.instr) (plainly instrs) ≡ instrs
      plain_instrs [] = refl
      plain_instrs (i ∷ is) = ap (λ is. i ∷ is) (plain_instrs is)

  pub is_emitted : length code.instrs ≤ entry_weight f.params + weight f.body → IsEmitted f frame code
  is_emitted light = record {
    follows = follows;
    enters = enters;
    rounds = has_rounds f places frame;
    repeats = repeats_by_rounds f places frame;
    light = light;
    short = omega (arith, light, rules.light);
    back_edges = few_back f places frame;
    jumps = known_jumps f places frame;
    branches = few_branches f places frame;
    no_ebreak = no_ebreak f places frame;
    heap = refl;
    names = λ function entry global h. targets_named function entry global f places frame h;
  }

-- and so does what comes of selecting it
pub result_emitted : {F : Type 0} (f : TacFnTree) (places : List Place) (frame : FrameTree) → IsFunction f →
    IsFrame frame → ArePlaces places → FrameFits f.objects places f.nodes frame → frame.bytes ≤ 32768 →
    IsAssignment (intervals_of f) places → (result : Result CodeTree F) →
    IfOk result (λ code. code ≡ code_of f places frame) →
    IfOk result (λ code. length code.instrs ≤ entry_weight f.params + weight f.body) →
    IfOk result (IsEmitted f frame)
result_emitted f places frame rules whole kept frame_fits small assigned (Ok found) is light =
    subst (IsEmitted f frame) (sym is)
    (is_emitted f places frame rules whole kept frame_fits small assigned
    (subst (λ (code : CodeTree). length code.instrs ≤ entry_weight f.params + weight f.body) is light))
result_emitted f places frame rules whole kept frame_fits small assigned (Err e) is light = tt
