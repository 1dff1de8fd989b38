-- The rows of a trace, event by event.
use Rattle.sc_event.specs.Prelude.{Standing, action_of, part, performer, rows_from, stands_after}
use Rattle.std.proofs.Common.{◌≡◌, refl, sym, ap, ◌∙◌, arith, ℕ, suc, ◌+◌, Bool, true, false, List, [], ◌∷◌, ◌++◌}
use Rattle.std.proofs.Common.{length, drop, Option, Some, None, if◌then◌else◌, append_assoc, length-append, append-nil}
use Rattle.std.specs.Prelude.{◌==◌}
use Rattle.sc_event.specs.declared.event.Event.{Event}
use Rattle.sc_event.specs.declared.row.Row.{Row}
use Rattle.sc_script.specs.Row.{row_of}

-- no event is a row once the run has ended
pub none_after : (comp number : ℕ) (later : List Event) → rows_from comp number None later ≡ []
none_after comp number [] = refl
none_after comp number (event ∷ later) = refl

-- the first event's row, and those after it
pub one_event : (comp number : ℕ) (at : Standing) (event : Event) (later : List Event) →
    rows_from comp number (Some at) (event ∷ later) ≡
    row_of comp number at.active.entry event ++
    rows_from comp (number + length (row_of comp number at.active.entry event)) (stands_after at event) later
one_event comp number at event later = split (performer event == comp)
  where
    row : Row
    row = record { entry = at.active.entry; number = number; action = action_of event }

    split : (mine : Bool) →
        (if mine then row ∷ rows_from comp (suc number) (stands_after at event) later
        else rows_from comp number (stands_after at event) later) ≡
        (if mine then row ∷ [] else []) ++
        rows_from comp (number + length {A = Row} (if mine then row ∷ [] else [])) (stands_after at event) later
    split true = let next : suc number ≡ number + 1 = omega arith in
        ap (λ n. row ∷ rows_from comp n (stands_after at event) later) next
    split false = let same : number ≡ number + 0 = omega arith in
        ap (λ n. rows_from comp n (stands_after at event) later) same

module _ (main comp : ℕ) (trace : List Event) where
  -- the rows so far, and those of what is left, are the part
  abbrev pub IsPartAt : List Row → Option Standing → ℕ → Type 0
  IsPartAt script at place = script ++ rows_from comp (length script) at (drop place trace) ≡ part main comp trace

  pub passed : (script next : List Row) (at : Standing) (place : ℕ) (event : Event) →
      IsPartAt script (Some at) place →
      drop place trace ≡ event ∷ drop (place + 1) trace →
      next ≡ script ++ row_of comp (length script) at.active.entry event →
      IsPartAt next (stands_after at event) (place + 1)
  passed script next at place event so_far here is =
      let row : List Row = row_of comp (length script) at.active.entry event in
      let following : ℕ → List Row = λ n. rows_from comp n (stands_after at event) (drop (place + 1) trace) in
      ap (λ x. x ++ following (length x)) is ∙
      ap (λ n. (script ++ row) ++ following n) (length-append script row) ∙
      append_assoc script row (following (length script + length row)) ∙
      ap (λ rest. script ++ rest) (sym (one_event comp (length script) at event (drop (place + 1) trace))) ∙
      ap (λ rest. script ++ rows_from comp (length script) (Some at) rest) (sym here) ∙ so_far

  -- where the run has ended, the rows so far are all
  pub ended : (script : List Row) (at : Option Standing) (place : ℕ) → at ≡ None → IsPartAt script at place →
      script ≡ part main comp trace
  ended script at place none so_far =
      sym (append-nil script) ∙
      ap (λ rest. script ++ rest) (sym (none_after comp (length script) (drop place trace))) ∙
      ap (λ at. script ++ rows_from comp (length script) at (drop place trace)) (sym none) ∙ so_far
