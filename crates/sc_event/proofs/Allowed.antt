-- What is known at each event of the walk through a trace.
use Rattle.sc_event.proofs.Common.{Activation, Bool, Call, End, Event, IfSome, Interfaces, List, None, Option, Ret}
use Rattle.sc_event.proofs.Common.{Some, Standing, StandsBy, [], and_parts, ap, arith, awaits, drop, drop_more, eq-eqb}
use Rattle.sc_event.proofs.Common.{false, false≢true, get_or, is_allowed, is_end, is_legal_from, legal, length}
use Rattle.sc_event.proofs.Common.{length-drop, may_perform, ne_eqb, open_after, option_and_then, performer, refl}
use Rattle.sc_event.proofs.Common.{resumed, slice_get, stands_after, suc, sym, true, ℕ, ◌&&◌, ◌+◌, ◌-◌, ◌<◌, ◌==◌, ◌∙◌}
use Rattle.sc_event.proofs.Common.{◌∷◌, ◌≡◌}
use Rattle.sc_event.proofs.OpenCalls.{event_here, standing, standing_next, after_by}

-- all events before a place were allowed, and the run goes on there
pub record IsOpenAt (interfaces : Interfaces) (trace : List Event) (pending : Option ℕ) (place : ℕ) : Type 0 where
  pub at : Standing
  pub come : standing interfaces.main trace place ≡ Some at
  pub by : StandsBy interfaces.main trace pending at
  pub left : legal interfaces trace ≡ is_legal_from interfaces (Some at) (drop place trace)

pub begins : (interfaces : Interfaces) (trace : List Event) → IsOpenAt interfaces trace None 0
begins interfaces trace = record { at = _; come = refl; by = refl; left = refl }

-- a function that awaits nothing else but this compartment is there
resumes : (waiting : List Activation) (to : ℕ) → awaits waiting to ≡ true →
    (next : Standing) × (resumed waiting ≡ Some next)
resumes [] to is = absurd (false≢true is)
resumes (latest ∷ earlier) to is = (_, refl)

-- the run goes on after each allowed event but its end
goes_further : (interfaces : Interfaces) (at : Standing) (event : Event) → may_perform interfaces at event ≡ true →
    is_end event ≡ false → (next : Standing) × (stands_after at event ≡ Some next)
goes_further interfaces at (Call from to index args) may open_end = (_, refl)
goes_further interfaces at (Ret from to value) may open_end = resumes _ to (and_parts _ _ may).0
goes_further interfaces at (End comp value) may open_end = absurd (false≢true (sym open_end))
goes_further interfaces at _ may open_end = (at, refl)

module _ (interfaces : Interfaces) (trace : List Event) (pending : Option ℕ) (place : ℕ) (event : Event)
    (is : IsOpenAt interfaces trace pending place) (within : place < length trace)
    (here : event ≡ get_or trace place event) where
  -- the verdict is that of this event and of the later ones
  splits : legal interfaces trace ≡ (is_allowed interfaces is.at event &&
      is_legal_from interfaces (stands_after is.at event) (drop (place + 1) trace))
  splits = is.left ∙ ap (is_legal_from interfaces _) (drop_more trace place event within)
      ∙ ap (λ e. is_legal_from interfaces (Some is.at) (e ∷ drop (place + 1) trace)) (sym here)

  module _ (allowed : Bool) (says : (at : Standing) → StandsBy interfaces.main trace pending at →
      allowed ≡ is_allowed interfaces at event) where
    seen : (answer : Bool) → allowed ≡ answer → legal interfaces trace ≡ (answer && is_legal_from interfaces
        (stands_after is.at event) (drop (place + 1) trace))
    seen answer so = splits ∙ ap (λ b. b && is_legal_from interfaces (stands_after is.at event)
        (drop (place + 1) trace)) (sym (says is.at is.by) ∙ so)

    pub refused : allowed ≡ false → false ≡ legal interfaces trace
    refused denied = sym (seen false denied)

    -- nothing may follow the end
    nothing_follows : (later : List Event) → drop (place + 1) trace ≡ later →
        (place + 1 == length trace) ≡ is_legal_from interfaces None later
    nothing_follows [] e =
        let count = length-drop (place + 1) trace in
        eq-eqb _ _ (omega (arith, within, count, ap length e))
    nothing_follows (next ∷ later) e =
        let count = length-drop (place + 1) trace in
        ne_eqb _ _ (λ same. omega (arith, within, count, ap length e, same))

    after_end : (e : Event) → is_end e ≡ true → stands_after is.at e ≡ None
    after_end (End comp value) end = refl
    after_end _ end = absurd (false≢true end)

    pub ended : allowed ≡ true → is_end event ≡ true → (place + 1 == length trace) ≡ legal interfaces trace
    ended granted end = nothing_follows _ refl
        ∙ sym (seen true granted ∙ ap (λ s. is_legal_from interfaces s (drop (place + 1) trace)) (after_end event end))

    pub goes_on : IfSome pending (λ call. call < length trace) → allowed ≡ true → is_end event ≡ false →
        IsOpenAt interfaces trace (open_after trace pending place event) (place + 1)
    goes_on earlier granted open_end =
        let may = (and_parts (performer event == is.at.active.comp) (may_perform interfaces is.at event)
        (sym (says is.at is.by) ∙ granted)).1 in
        let next = goes_further interfaces is.at event may open_end in
        let there : slice_get trace place ≡ Some event = event_here trace place event within here in
        let count : place + 1 ≡ suc place = omega arith in
        record {
          at = next.0;
          come = ap (standing interfaces.main trace) count ∙ standing_next interfaces.main trace place event there ∙
              ap (option_and_then (λ s. stands_after s event)) is.come ∙ next.1;
          by = after_by interfaces.main trace pending place event is.at next.0 earlier there is.come is.by next.1;
          left = seen true granted ∙ ap (λ s. is_legal_from interfaces s (drop (place + 1) trace)) next.1;
        }
