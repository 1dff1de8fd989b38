-- The open call that is found in a trace is the one by which the run stands where it stands.
use Rattle.sc_event.proofs.Common.{Call, End, Event, HasEntered, IfSome, List, None, Option, Ret, Some, Standing}
use Rattle.sc_event.proofs.Common.{StandsBy, [], ap, arith, at_start, awaits, get_or, get_or_from_slice_get, here_or}
use Rattle.sc_event.proofs.Common.{length, none-some, open_after, open_call, option_and_then, option_map_or, refl}
use Rattle.sc_event.proofs.Common.{resumed, returned_before, same_Some, slice_get, slice_get-get_or, slice_get_within}
use Rattle.sc_event.proofs.Common.{stands_after, stands_after_all, subst, suc, sym, take, take_more, zero, ℕ, ◌++◌, ◌+◌}
use Rattle.sc_event.proofs.Common.{◌<◌, ◌==◌, ◌∙◌, ◌∷◌, ◌≡◌, ◌≤◌}

one_more : (trace : List Event) (n : ℕ) (event : Event) → slice_get trace n ≡ Some event →
    take (suc n) trace ≡ take n trace ++ event ∷ []
one_more trace n event is =
    let count : suc n ≡ n + 1 = omega arith in
    ap (λ m. take m trace) count ∙ take_more trace n event (slice_get_within trace n event is) ∙
    ap (λ x. take n trace ++ x ∷ []) (get_or_from_slice_get trace n event event is)

after_last : (from : Option Standing) (earlier : List Event) (event : Event) → stands_after_all from
    (earlier ++ event ∷ []) ≡ option_and_then (λ at. stands_after at event) (stands_after_all from earlier)
after_last (Some at) (first ∷ earlier) event = after_last _ earlier event
after_last (Some at) [] event = refl
after_last None [] event = refl
after_last None (first ∷ earlier) event = refl

pub event_here : (trace : List Event) (place : ℕ) (event : Event) → place < length trace →
    event ≡ get_or trace place event → slice_get trace place ≡ Some event
event_here trace place event within is = slice_get-get_or trace place event within ∙ ap (λ e. Some e) (sym is)

-- the search goes on before an event that is no open call
pub goes_on : (trace : List Event) (left place returned before : ℕ) (event : Event) → left ≡ suc place →
    place < length trace → event ≡ get_or trace place event → returned_before event returned ≡ Some before →
    open_call trace left returned ≡ open_call trace place before
goes_on trace left place returned before event e within is found =
    rw (e, event_here trace place event within is, found) refl

pub few : (event : Event) (returned before : ℕ) → returned_before event returned ≡ Some before → before ≤ suc returned
few (Call from to index args) zero before is = absurd (none-some before is)
few (Call from to index args) (suc returned) before is = omega (arith, same_Some _ before is)
few _ returned before is = omega (arith, same_Some _ before is)

-- where the run stands once `returned` more calls have returned
abbrev back : (returned : ℕ) → Standing → Option Standing
back zero at = Some at
back (suc returned) at = option_and_then (back returned) (resumed at.waiting)

module _ (main : ℕ) (trace : List Event) where
  abbrev pub standing : ℕ → Option Standing
  standing n = stands_after_all (at_start main) (take n trace)

  pub standing_next : (n : ℕ) (event : Event) → slice_get trace n ≡ Some event →
      standing (suc n) ≡ option_and_then (λ at. stands_after at event) (standing n)
  standing_next n event is =
      ap (stands_after_all _) (one_more trace n event is) ∙ after_last (at_start main) (take n trace) event

  -- the open call after `count` events is found, also after further returns
  abbrev Finds : ℕ → Type 0
  Finds count = (returned : ℕ) (at then_at : Standing) → standing count ≡ Some at → back returned at ≡ Some then_at →
      StandsBy main trace (open_call trace count returned) then_at

  found_by : (count : ℕ) (event : Event) → slice_get trace count ≡ Some event → Finds count →
      (earlier : Standing) → standing count ≡ Some earlier →
      (returned : ℕ) (at then_at : Standing) → stands_after earlier event ≡ Some at → back returned at ≡ Some then_at →
      StandsBy main trace (here_or count (open_call trace count) (returned_before event returned)) then_at
  found_by count (Call from to index args) is again earlier was zero at then_at next up =
      (earlier, was, subst (λ o. HasEntered o earlier then_at) (sym is) (sym (same_Some _ _ (next ∙ up))))
  found_by count (Call from to index args) is again earlier was (suc returned) at then_at next up =
      again _ earlier then_at was (subst (λ s. back (suc returned) s ≡ Some then_at) (sym (same_Some _ _ next)) up)
  found_by count (Ret from to value) is again earlier was returned at then_at next up =
      again _ earlier then_at was (ap (option_and_then _) next ∙ up)
  found_by count (End comp value) is again earlier was returned at then_at next up = absurd (none-some at next)
  found_by count _ is again earlier was returned at then_at next up =
      again _ earlier then_at was (subst (λ s. back returned s ≡ Some then_at) (sym (same_Some _ _ next)) up)

  found_next : (count : ℕ) (event : Event) → slice_get trace count ≡ Some event → Finds count →
      (was : Option Standing) → standing count ≡ was → (returned : ℕ) (at then_at : Standing) →
      option_and_then (λ s. stands_after s event) was ≡ Some at → back returned at ≡ Some then_at →
      StandsBy main trace (here_or count (open_call trace count) (returned_before event returned)) then_at
  found_next count event is again None was returned at then_at next up = absurd (none-some at next)
  found_next count event is again (Some earlier) was returned at then_at next up =
      found_by count event is again earlier was _ at then_at next up

  found_first : (returned : ℕ) (at then_at : Standing) → at_start main ≡ Some at → back returned at ≡ Some then_at →
      StandsBy main trace None then_at
  found_first zero at then_at is up = sym up ∙ sym is
  found_first (suc returned) at then_at is up =
      absurd (none-some then_at (subst (λ s. back (suc returned) s ≡ Some then_at) (sym (same_Some _ _ is)) up))

  pub found : (count : ℕ) → count ≤ length trace → Finds count
  found zero within = λ returned at then_at is up. found_first _ at then_at is up
  found (suc count) within = λ returned at then_at is up.
      let last = get_or trace count (End 0 0) in
      let here = slice_get-get_or trace count (End 0 0) (omega (arith, within)) in
      subst (λ o. StandsBy main trace (here_or count (open_call trace count)
      (option_map_or (λ event. returned_before event returned) o (Some returned))) then_at) (sym here)
      (found_next count last here (found count (omega (arith, within))) _ refl _ at then_at
      (sym (standing_next count last here) ∙ is) up)

  -- where the run stands by an open call, the latest function that waits stands by the outer one
  module _ (call : ℕ) (at : Standing) (within : call < length trace) where
    caller : (earlier : Standing) → standing call ≡ Some earlier → StandsBy main trace (open_call trace call 0) earlier
    caller earlier was = found call (omega (arith, within)) 0 earlier earlier was refl

    waits_by : (event : Option Event) (earlier : Standing) → HasEntered event earlier at →
        at.waiting ≡ earlier.active ∷ earlier.waiting
    waits_by (Some (Call from to index args)) earlier h = ap (λ s. s.waiting) h
    waits_by _ earlier h = absurd h

    pub awaited : (comp to : ℕ) → StandsBy main trace (Some call) at →
        ((earlier : Standing) → StandsBy main trace (open_call trace call 0) earlier → comp ≡ earlier.active.comp) →
        (comp == to) ≡ awaits at.waiting to
    awaited comp to by is =
        ap (λ c. c == to) (is by.0 (caller by.0 by.1)) ∙ ap (λ ws. awaits ws to) (sym (waits_by _ by.0 by.2))

    pub outer_by : (next : Standing) → StandsBy main trace (Some call) at → resumed at.waiting ≡ Some next →
        StandsBy main trace (open_call trace call 0) next
    outer_by next by e =
        let same = sym (ap resumed (waits_by _ by.0 by.2)) ∙ e in
        subst (StandsBy main trace _) (same_Some _ _ same) (caller by.0 by.1)

  -- the run stands by the open call after each event
  pub after_by : (pending : Option ℕ) (place : ℕ) (event : Event) (at next : Standing) →
      IfSome pending (λ call. call < length trace) → slice_get trace place ≡ Some event → standing place ≡ Some at →
      StandsBy main trace pending at → stands_after at event ≡ Some next →
      StandsBy main trace (open_after trace pending place event) next
  after_by pending place (Call from to index args) at next within is come by e =
      (at, come, subst (λ o. HasEntered o at next) (sym is) (sym (same_Some _ _ e)))
  after_by None place (Ret from to value) at next within is come by e =
      absurd (none-some next (subst (λ s. resumed s.waiting ≡ Some next) (same_Some _ _ by) e))
  after_by (Some call) place (Ret from to value) at next within is come by e = outer_by call at within next by e
  after_by pending place (End comp value) at next within is come by e = absurd (none-some next e)
  after_by pending place _ at next within is come by e = subst (StandsBy main trace pending) (same_Some _ _ e) by
