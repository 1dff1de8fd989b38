-- What a call keeps stays on the cross stack until the call returns, and comes back then.
use Rattle.sc_image.proofs.Common.{Adds, All, Bool, Call, CallsComeBack, ComesBack, Crossing, End, Goes, HasCalled}
use Rattle.sc_image.proofs.Common.{ImageParts, In, IsSteadyState, IsWellFormed, IsWord, List, MachineState, Option, Out}
use Rattle.sc_image.proofs.Common.{Outcome, Point, Ret, RunsAt, StaysAbove, Traps, [], a0, after_outcome, ap, ap₂}
use Rattle.sc_image.proofs.Common.{arguments, arith, drop, drop-append_seam, eq-eqb, eqb-true, export_params, false}
use Rattle.sc_image.proofs.Common.{gate, get_or, get_or-set_other, get_or-set_same, given_back, has_result}
use Rattle.sc_image.proofs.Common.{if◌then◌else◌, input_at, is_argument, is_result, kept, later, length, length-append}
use Rattle.sc_image.proofs.Common.{nat_eq, observation_at, observation_of, on_call, on_input, on_output, on_return, ra}
use Rattle.sc_image.proofs.Common.{refl, reg, saved_sp, set, slice_set, sp, step, subst, suc, sym, true, with_pc}
use Rattle.sc_image.proofs.Common.{with_stored, written, zero, ℕ, ◌++◌, ◌+◌, ◌<◌, ◌∙◌, ◌∷◌, ◌≡◌, ◌≢◌}
use Rattle.sc_image.proofs.Cases.{crossing_to, length-written, step_of}
use Rattle.sc_image.proofs.Reached.{called_other, length-kept, step_steady}
use Rattle.sc_image.proofs.Isolation.{in_latest}
use Rattle.sc_image.proofs.Events.{no_event, that_event}

-- The saved sp of d once these calls have returned, where it is `now`.
abbrev sp_once : (d now : ℕ) → List Crossing → ℕ
sp_once d now [] = now
sp_once d now (x ∷ xs) = sp_once d (if nat_eq x.callee d then x.saved else now) xs

module _ (d a : ℕ) (saved : List ℕ) (y : Crossing) (callee : y.callee ≡ a) where
  not_own : nat_eq y.callee d ≡ false → d ≢ a
  not_own is same =
      let never = sym (eq-eqb y.callee d (callee ∙ sym same)) ∙ is in cc never

  -- a call of b by the compartment that the latest call is of
  once_called : (b left_sp : ℕ) (ys : List Crossing) →
      sp_once d (if nat_eq b d then get_or saved b 0 else get_or (set saved a left_sp) d 0) (y ∷ ys) ≡
      sp_once d (get_or saved d 0) (y ∷ ys)
  once_called b left_sp ys = ap (λ now. sp_once d now ys) (by_own _ refl)
    where
      by_callee : (is_callee : Bool) → nat_eq b d ≡ is_callee → nat_eq y.callee d ≡ false →
          (if is_callee then get_or saved b 0 else get_or (set saved a left_sp) d 0) ≡ get_or saved d 0
      by_callee true is other = ap (λ k. get_or saved k 0) (eqb-true b d is)
      by_callee false is other = get_or-set_other saved a d left_sp 0 (not_own other)

      by_own : (own : Bool) → nat_eq y.callee d ≡ own →
          (if own then y.saved else (if nat_eq b d then get_or saved b 0 else get_or (set saved a left_sp) d 0)) ≡
          (if own then y.saved else get_or saved d 0)
      by_own true is = refl
      by_own false is = by_callee _ refl is

  -- the return of the latest call
  once_returned : (ys : List Crossing) → a < length saved →
      sp_once d (get_or (set saved a y.saved) d 0) ys ≡ sp_once d (get_or saved d 0) (y ∷ ys)
  once_returned ys within = ap (λ now. sp_once d now ys) (by_own _ refl)
    where
      by_own : (own : Bool) → nat_eq y.callee d ≡ own →
          get_or (set saved a y.saved) d 0 ≡ (if own then y.saved else get_or saved d 0)
      by_own true is = ap (λ k. get_or (set saved a y.saved) k 0) (sym (eqb-true y.callee d is) ∙ callee) ∙
          get_or-set_same saved a y.saved 0 within
      by_own false is = get_or-set_other saved a d y.saved 0 (not_own is)

-- A call that is open, over the calls that were open before it, and the saved sps that are due when it returns.

module _ (crossing : Crossing) (base : List Crossing) (due : ℕ → ℕ) where
  pub record Within (cross : List Crossing) (saved : List ℕ) : Type 0 where
    pub inner : List Crossing
    pub opened : cross ≡ inner ++ crossing ∷ base
    pub sps : (d : ℕ) → sp_once d (get_or saved d 0) (inner ++ crossing ∷ []) ≡ due d

  -- what the step is that closes it
  pub record Closes (state : MachineState) (outcome : Outcome) : Type 0 where
    pub value : Option ℕ
    pub emits : observation_of state outcome ≡ Adds (Ret crossing.callee crossing.caller value ∷ [])
    pub active : (after_outcome state outcome).active ≡ crossing.caller
    pub pc : (after_outcome state outcome).pc ≡ crossing.pc
    pub stack : reg (after_outcome state outcome) sp ≡ crossing.sp
    pub saved : (d : ℕ) → saved_sp (after_outcome state outcome) d ≡ due d
    pub cross : (after_outcome state outcome).cross ≡ base

  higher : (inner : List Crossing) → length (inner ++ crossing ∷ base) ≡ length inner + suc (length base)
  higher inner = length-append inner (crossing ∷ base)

  module _ (image : ImageParts) (inputs : List ℕ) (formed : IsWellFormed image) (t : MachineState) (h : IsSteadyState
      image t) where
    abbrev Goal : Outcome → Type 0
    Goal outcome =
        (length base < length (after_outcome t outcome).cross →
        Within (after_outcome t outcome).cross (after_outcome t outcome).saved) ×
        (length (after_outcome t outcome).cross ≡ length base → Closes t outcome)

    abbrev After : Outcome → Type 0
    After outcome = Within t.cross t.saved → Goal outcome

    room : t.active < length t.saved
    room = omega (arith, h.saved, h.active)

    -- neither the saved sps nor the calls change
    never_closed : {A : Type 0} → Within t.cross t.saved → length t.cross ≡ length base → A
    never_closed w same = absurd (omega (arith, same, ap length w.opened, higher w.inner))

    quiet_on : (outcome : Outcome) → (after_outcome t outcome).cross ≡ t.cross →
        (after_outcome t outcome).saved ≡ t.saved → After outcome
    quiet_on outcome crossings saved w = (
      λ above. record {
        inner = w.inner;
        opened = crossings ∙ w.opened;
        sps = λ d. ap (λ xs. sp_once d (get_or xs d 0)
            (w.inner ++ crossing ∷ [])) saved ∙ w.sps d;
      },
      λ same. never_closed w (ap length (sym crossings) ∙ same),
    )

    -- another call
    called_on : (d to : ℕ) (inner : List Crossing) → t.cross ≡ inner ++ crossing ∷ base →
        sp_once d (if nat_eq to d then saved_sp t to else get_or (set t.saved t.active (reg t sp)) d 0)
        (inner ++ crossing ∷ []) ≡ sp_once d (saved_sp t d) (inner ++ crossing ∷ [])
    called_on d to [] is = once_called d t.active t.saved crossing (in_latest image t h crossing base is) to _ []
    called_on d to (y ∷ ys) is = once_called d t.active t.saved y (in_latest image t h y _ is) to _ (ys ++ crossing ∷
        [])

    call_on : (to index params target : ℕ) → After (Goes (on_call t to index params target))
    call_on to index params target w = (
      λ above. record {
        inner = crossing_to t to index ∷ w.inner;
        opened = ap (λ xs. crossing_to t to index ∷ xs) w.opened;
        sps = λ d. called_on d to w.inner w.opened ∙ w.sps d;
      },
      λ same. absurd (omega (arith, same, ap length w.opened, higher w.inner)),
    )

    -- a return
    return_by : (x : Crossing) (xs : List Crossing) → t.cross ≡ x ∷ xs → (inner : List Crossing) →
        x ∷ xs ≡ inner ++ crossing ∷ base →
        ((d : ℕ) → sp_once d (saved_sp t d) (inner ++ crossing ∷ []) ≡ due d) → Goal (Goes (on_return image t (x ∷ xs)))
    return_by x xs is [] opened sps =
        let this : x ≡ crossing = cc opened in
        let rest : xs ≡ base = cc opened in
        let callee : x.callee ≡ t.active = in_latest image t h x xs is in
        let result = has_result image x.callee x.entry in
        let value = given_back result t in
        let count : length (kept (is_result result) t.regs) ≡ 32 = length-kept (is_result result) 0 t.regs ∙ h.regs in (
          λ above. absurd (omega (arith, above, ap length rest)),
          λ same. record {
            value = value;
            emits = ap Adds (drop-append_seam t.trace _) ∙ ap₂ (λ from to. Adds (Ret from to value ∷ []))
                (sym callee ∙ ap (λ y. y.callee) this) (ap (λ y. y.caller) this);
            active = ap (λ y. y.caller) this;
            pc = ap (λ y. y.pc) this;
            stack = get_or-set_same (kept (is_result result) t.regs) 2 x.sp 0 (omega (arith, count)) ∙
                ap (λ y. y.sp) this;
            saved = λ d. once_returned d t.active t.saved x callee [] room ∙
                ap (λ y. sp_once d (saved_sp t d) (y ∷ [])) this ∙ sps d;
            cross = rest;
          },
        )
    return_by x xs is (y ∷ ys) opened sps =
        let this : x ≡ y = cc opened in
        let rest : xs ≡ ys ++ crossing ∷ base = cc opened in
        let callee : x.callee ≡ t.active = in_latest image t h x xs is in (
          λ above. record {
            inner = ys;
            opened = rest;
            sps = λ d. once_returned d t.active t.saved x callee (ys ++ crossing ∷ []) room ∙
                ap (λ z. sp_once d (saved_sp t d) (z ∷ ys ++ crossing ∷ [])) this ∙ sps d;
          },
          λ same. absurd (omega (arith, same, ap length rest, higher ys)),
        )

    return_on : (cross : List Crossing) → t.cross ≡ cross → After (Goes (on_return image t cross))
    return_on [] is w = absurd (omega (arith, ap length (sym is ∙ w.opened), higher w.inner))
    return_on (x ∷ xs) is w = return_by x xs is w.inner (sym is ∙ w.opened) w.sps

    pub step_on : After (step image inputs t)
    step_on = step_of image inputs formed t After (record {
      same = λ a owned. refl;
      zone = refl;
      traps = λ reason. quiet_on (Traps reason) refl refl;
      quiet = λ regs pc moves. quiet_on (Goes (record t { regs = regs; pc = pc })) refl refl;
      rezones = λ regs pc spans moves. quiet_on
          (Goes (record t { regs = regs; pc = pc; zones = slice_set t.zones t.active spans })) refl refl;
      stores = λ op a word allowed. quiet_on (Goes (with_pc (with_stored t op a word) (t.pc + 4))) refl refl;
      calls = λ to index target at may. call_on to index _ target;
      returns = return_on t.cross refl;
      outputs = λ may. quiet_on (Goes (with_pc (on_output t) (t.pc + 4))) refl refl;
      reads = λ may. quiet_on (Goes (with_pc (on_input inputs t) (t.pc + 4))) refl refl;
    })

  above_now : (depth steps : ℕ) (point : Point) → StaysAbove depth steps point → depth < length point.state.cross
  above_now depth zero point above = above
  above_now depth (suc steps) point above = above.0

  -- while the call is open
  pub goes_within : (steps : ℕ) (point : Point) → IsWellFormed point.image → All IsWord point.inputs →
      IsSteadyState point.image point.state → StaysAbove (length base) steps point →
      Within point.state.cross point.state.saved →
      IsSteadyState point.image (later steps point).state ×
      Within (later steps point).state.cross (later steps point).state.saved
  goes_within zero point formed words steady above w = (steady, w)
  goes_within (suc steps) point formed words steady above w =
      goes_within steps (later 1 point) formed words
      (step_steady point.image point.inputs point.state formed words steady) above.1
      ((step_on point.image point.inputs formed point.state steady w).0 (above_now _ steps (later 1 point) above.1))

-- The step that calls.

module _ (image : ImageParts) (inputs : List ℕ) (formed : IsWellFormed image) (t : MachineState) (h : IsSteadyState
    image t)
    (from to index : ℕ) (args : List ℕ) where
  pub record Calls (outcome : Outcome) : Type 0 where
    pub params : ℕ
    pub target : ℕ
    pub caller : t.active ≡ from
    pub other : from ≢ to
    pub goes : outcome ≡ Goes (on_call t to index params target)

  abbrev CallsIf : Outcome → Type 0
  CallsIf outcome = observation_of t outcome ≡ Adds (Call from to index args ∷ []) → Calls outcome

  no_call : {A : Type 0} → Adds (drop (length t.trace) t.trace) ≡ Adds (Call from to index args ∷ []) → A
  no_call emits = absurd (no_event t.trace _ emits)

  return_calls : (cross : List Crossing) → CallsIf (Goes (on_return image t cross))
  return_calls [] emits =
      let never : End t.active (reg t a0) ≡ Call from to index args = that_event t.trace _ _ emits in cc never
  return_calls (x ∷ xs) emits =
      let never : Ret t.active x.caller _ ≡ Call from to index args = that_event t.trace _ _ emits in cc never

  pub step_calls : CallsIf (step image inputs t)
  step_calls = step_of image inputs formed t CallsIf (record {
    same = λ a owned. refl;
    zone = refl;
    traps = λ reason emits. cc emits;
    quiet = λ regs pc moves emits. no_call emits;
    rezones = λ regs pc spans moves emits. no_call emits;
    stores = λ op a word allowed emits. no_call emits;
    calls = λ to' index' target at may emits.
        let event : Call t.active to' index' (arguments (export_params image to' index') t.regs) ≡
        Call from to index args = that_event t.trace _ _ emits in
        let caller : t.active ≡ from = cc event in
        let to_is : to' ≡ to = cc event in
        let index_is : index' ≡ index = cc event in
        record {
          params = export_params image to' index';
          target = target;
          caller = caller;
          other = λ same. called_other image t.active to' index' formed may (caller ∙ same ∙ sym to_is);
          goes = ap₂ (λ k i. Goes (on_call t k i (export_params image to' index') target)) to_is index_is;
        };
    returns = return_calls t.cross;
    outputs = λ may emits.
        let never : Out t.active (reg t a0) ≡ Call from to index args = that_event t.trace _ _ emits in cc never;
    reads = λ may emits.
        let never : In t.active (input_at inputs t.input) ≡ Call from to index args = that_event t.trace _ _ emits in
        cc never;
  })

  -- what it leads to
  module _ (params target : ℕ) (caller : t.active ≡ from) (other : from ≢ to) where
    abbrev after_call : MachineState
    after_call = on_call t to index params target

    room_in : t.active < length t.saved
    room_in = omega (arith, h.saved, h.active)

    saved_own : saved_sp after_call from ≡ reg t sp
    saved_own = ap (λ k. get_or (set t.saved t.active (reg t sp)) k 0) (sym caller) ∙
        get_or-set_same t.saved t.active (reg t sp) 0 room_in

    saved_others : (d : ℕ) → d ≢ from → saved_sp after_call d ≡ saved_sp t d
    saved_others d differ = get_or-set_other t.saved t.active d (reg t sp) 0 (λ same. differ (same ∙ caller))

    has_called : HasCalled from to t after_call
    has_called =
        let cleared = kept (is_argument params) t.regs in
        let count : length (written cleared ra gate) ≡ 32 =
        length-written cleared ra gate ∙ length-kept (is_argument params) 0 t.regs ∙ h.regs in
        record {
          caller = caller;
          callee = refl;
          saved = saved_own;
          others = saved_others;
          begins = get_or-set_same (written cleared ra gate) 2 (saved_sp t to) 0 (omega (arith, count));
          opened = refl;
        }

    -- the saved sps that are due when it returns
    abbrev due_after : ℕ → ℕ
    due_after d = saved_sp after_call d

    opens : Within (crossing_to t to index) t.cross due_after after_call.cross after_call.saved
    opens = record { inner = []; opened = refl; sps = λ d. by_callee d _ refl }
      where
        by_callee : (d : ℕ) (is_callee : Bool) → nat_eq to d ≡ is_callee →
            (if is_callee then saved_sp t to else saved_sp after_call d) ≡ saved_sp after_call d
        by_callee d true is =
            let same : to ≡ d = eqb-true to d is in
            ap (saved_sp t) same ∙ sym (saved_others d (λ own. other (sym own ∙ sym same)))
        by_callee d false is = refl

-- The law.

abbrev CallAt : (point : Point) (from to index : ℕ) (args : List ℕ) → Outcome → Type 0
CallAt point from to index args outcome = HasCalled from to point.state (after_outcome point.state outcome)

call_comes : (point : Point) (from to index : ℕ) (args : List ℕ) → RunsAt point.state.active point →
    observation_at point ≡ Adds (Call from to index args ∷ []) → HasCalled from to point.state (later 1 point).state
call_comes point from to index args h emits =
    let made = step_calls point.image point.inputs h.formed point.state h.steady from to index args emits in
    subst (CallAt point from to index args) (sym made.goes)
    (has_called point.image point.inputs h.formed point.state h.steady from to index args made.params made.target
    made.caller made.other)

return_comes : (point : Point) (from to index : ℕ) (args : List ℕ) (steps : ℕ) → RunsAt point.state.active point →
    observation_at point ≡ Adds (Call from to index args ∷ []) →
    StaysAbove (length point.state.cross) steps (later 1 point) →
    let last = later (suc steps) point in
    length (later 1 last).state.cross ≡ length point.state.cross →
    ((value : Option ℕ) × (observation_at last ≡ Adds (Ret to from value ∷ []))) ×
    ComesBack from point.state (later 1 last).state
return_comes point from to index args steps h emits above closed =
    let t = point.state in
    let made = step_calls point.image point.inputs h.formed t h.steady from to index args emits in
    let crossing = crossing_to t to index in
    let due = due_after point.image point.inputs h.formed t h.steady from to index args made.params made.target
    made.caller made.other in
    let first : Within crossing t.cross due (later 1 point).state.cross (later 1 point).state.saved =
    subst (λ outcome. Within crossing t.cross due (after_outcome t outcome).cross (after_outcome t outcome).saved)
    (sym made.goes) (opens point.image point.inputs h.formed t h.steady from to index args made.params made.target
    made.caller made.other) in
    let last = later steps (later 1 point) in
    let inside = goes_within crossing t.cross due steps (later 1 point) h.formed h.inputs
    (step_steady point.image point.inputs t h.formed h.inputs h.steady) above first in
    let end =
    (step_on crossing t.cross due point.image point.inputs h.formed last.state inside.0 inside.1).1 closed in (
      (end.value, end.emits ∙ ap (λ k. Adds (Ret to k end.value ∷ [])) made.caller),
      record {
        active = end.active ∙ made.caller;
        pc = end.pc;
        stack = end.stack;
        saved = end.saved from ∙ saved_own point.image point.inputs h.formed t h.steady from to index args made.params
            made.target made.caller made.other;
        others = λ d differ. end.saved d ∙ saved_others point.image point.inputs h.formed t h.steady from to index args
            made.params made.target made.caller made.other d differ;
        cross = end.cross;
      },
    )

pub calls_come_back : CallsComeBack
calls_come_back = record { call = call_comes; return = return_comes }
