-- The number of each row of a trace that isn't too long has a successor that is a word.
use Rattle.sc_chain.proofs.Common.{All, All-from_recursion, AllByRecursion, Bool, Event, HasNext, List, None, Option}
use Rattle.sc_chain.proofs.Common.{Some, Standing, [], action_of, arith, at_start, false, if◌then◌else◌, length}
use Rattle.sc_chain.proofs.Common.{part, performer, rows_from, stands_after, suc, true, ℕ, ◌+◌, ◌<◌, ◌==◌}
use Rattle.sc_chain.proofs.Common.{◌^◌, ◌∷◌, ◌≤◌}

numbers_low : (comp number : ℕ) (at : Option Standing) (trace : List Event) →
    suc (number + length trace) < 2 ^ 32 → AllByRecursion HasNext (rows_from comp number at trace)
numbers_low comp number at [] low = tt
numbers_low comp number None (event ∷ later) low = tt
numbers_low comp number (Some at) (event ∷ later) low =
    by (performer event == comp) (numbers_low comp (suc number) (stands_after at event) later (omega (arith, low)))
    (numbers_low comp number (stands_after at event) later (omega (arith, low))) where
      by : (mine : Bool) → AllByRecursion HasNext (rows_from comp (suc number) (stands_after at event) later) →
          AllByRecursion HasNext (rows_from comp number (stands_after at event) later) →
          AllByRecursion HasNext (if mine then record {
            entry = at.active.entry;
            number = number;
            action = action_of event;
          } ∷ rows_from comp (suc number) (stands_after at event) later else
          rows_from comp number (stands_after at event) later)
      by true own other = (omega (arith, low), own)
      by false own other = other

pub part_low : (main comp : ℕ) (trace : List Event) → length trace ≤ 4096 → All HasNext (part main comp trace)
part_low main comp trace few =
    All-from_recursion HasNext (part main comp trace)
    (numbers_low comp 0 (at_start main) trace (omega (arith, few)))
