-- A compartment's next row is its next event: what the rows are after the events that it has performed.
use Rattle.sc_event.proofs.Common.{Bool, Event, List, None, Option, Some, Standing, [], action_of, ap, arith, at_start}
use Rattle.sc_event.proofs.Common.{cond, count_of, drop, false, filter, if◌then◌else◌, length, none-some, option_map_or}
use Rattle.sc_event.proofs.Common.{part, performer, rows_from, stands_after, stands_after_all, subst, suc, true, ℕ}
use Rattle.sc_event.proofs.Common.{◌++◌, ◌+◌, ◌==◌, ◌∙◌, ◌∷◌, ◌≡◌}
use Rattle.sc_event.specs.declared.row.Row.{Row}

-- the row of an event that happens where the run stands
abbrev pub row_of : Standing → (number : ℕ) → Event → Row
row_of at number event = record { entry = at.active.entry; number = number; action = action_of event }

module _ (comp : ℕ) (event : Event) (later : List Event) (at : Standing) (own : (performer event == comp) ≡ true) where
  -- what is left of the rows after the first `count`
  abbrev IsNext : (number count : ℕ) → List Row → Type 0
  IsNext number count rows = drop count rows ≡ row_of at (number + count) event ∷ rows_from comp (suc (number + count))
      (stands_after at event) later

  -- one row more stands before them
  one_before : (number count : ℕ) (row : Row) (rows : List Row) → IsNext (suc number) count rows →
      IsNext number (suc count) (row ∷ rows)
  one_before number count row rows is =
      let same : suc number + count ≡ number + suc count = omega arith in
      subst (λ n. drop count rows ≡ row_of at n event ∷ rows_from comp (suc n) (stands_after at event) later) same is

  following : (number : ℕ) (earlier : List Event) (from : Option Standing) → stands_after_all from earlier ≡ Some at →
      IsNext number (count_of comp earlier) (rows_from comp number from (earlier ++ event ∷ later))
  following number [] None e = absurd (none-some at e)
  following number [] (Some s) e =
      let here : s ≡ at = ap (λ o. option_map_or (λ t. t) o s) e in
      let none : number ≡ number + 0 = omega arith in
      ap (λ t. if performer event == comp then row_of t number event ∷
      rows_from comp (suc number) (stands_after t event) later else
      rows_from comp number (stands_after t event) later) here ∙
      ap (λ b. if b then row_of at number event ∷ rows_from comp (suc number) (stands_after at event) later else
      rows_from comp number (stands_after at event) later) own ∙
      ap (λ n. row_of at n event ∷ rows_from comp (suc n) (stands_after at event) later) none
  following number (first ∷ earlier) None e = absurd (none-some at e)
  following number (first ∷ earlier) (Some s) e =
      split (performer first == comp) (following _ earlier (stands_after s first) e) (following number earlier _ e)
    where
      split : (mine : Bool) → IsNext (suc number) (count_of comp earlier)
          (rows_from comp (suc number) (stands_after s first) (earlier ++ event ∷ later)) → IsNext number
          (count_of comp earlier) (rows_from comp number (stands_after s first) (earlier ++ event ∷ later)) → IsNext
          number (length (cond mine (first ∷ filter (λ event. performer event == comp) earlier)
          (filter (λ event. performer event == comp) earlier))) (if mine then row_of s number first ∷ rows_from comp
          (suc number) (stands_after s first) (earlier ++ event ∷ later) else rows_from comp number
          (stands_after s first) (earlier ++ event ∷ later))
      split true with_it without = one_before number (count_of comp earlier) (row_of s number first) _ with_it
      split false with_it without = without

-- after its own events so far, the rows of a compartment begin with its next event, and the function that is active
-- there
pub next_row : (main comp : ℕ) (earlier : List Event) (event : Event) (later : List Event) (at : Standing) →
    (performer event == comp) ≡ true → stands_after_all (at_start main) earlier ≡ Some at →
    drop (count_of comp earlier) (part main comp (earlier ++ event ∷ later)) ≡
    row_of at (count_of comp earlier) event ∷ rows_from comp (suc (count_of comp earlier)) (stands_after at event) later
next_row main comp earlier event later at own come =
    let none : 0 + count_of comp earlier ≡ count_of comp earlier = omega arith in
    following comp event later at own 0 earlier _ come ∙
    ap (λ n. row_of at n event ∷ rows_from comp (suc n) (stands_after at event) later) none
