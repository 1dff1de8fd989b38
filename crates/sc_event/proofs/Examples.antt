-- Traces that are legal and traces that are not, and what one compartment does in a trace that comes back to it.
use Rattle.sc_event.proofs.Common.{Call, End, Event, In, Interfaces, List, None, Out, Ret, Some, [], codes, count_of}
use Rattle.sc_event.proofs.Common.{event_line, false, legal, map, part, refl, replicate, true, ℕ, ◌++◌, ◌∷◌, ◌≡◌}
use Rattle.std.specs.Fmt.{digits}
use Rattle.sc_event.specs.declared.interface.Import.TheVariants.{Output, Function}
use Rattle.sc_event.specs.declared.interface.Proto.{Proto}
use Rattle.sc_event.specs.declared.interface.Scalar.TheVariants.{Int}
use Rattle.sc_event.specs.declared.row.Action.TheVariants as actions
use Rattle.sc_event.specs.declared.row.Entry.TheVariants.{Main, Export}

abbrev function : List ℕ → Proto
function name = record { name = name; params = Int ∷ []; result = Some Int }

abbrev procedure : List ℕ → Proto
procedure name = record { name = name; params = []; result = None }

-- `Main` calls `f` of A and outputs; A calls `g` of B; B calls `h` and `k` of A
abbrev three : Interfaces
three = record {
  main = 0;
  comps =
      record { name = codes "Main"; exports = []; imports = Output ∷ Function 1 0 ∷ [] } ∷
      record {
        name = codes "A";
        exports = function (codes "f") ∷ function (codes "h") ∷ procedure (codes "k") ∷ [];
        imports = Function 2 0 ∷ [];
      } ∷
      record { name = codes "B"; exports = function (codes "g") ∷ []; imports = Function 1 1 ∷ Function 1 2 ∷ [] } ∷ [];
}

-- the calls, and the returns with the end of a run that comes back to A
abbrev calls : List Event
calls = Call 0 1 0 (2 ∷ []) ∷ Call 1 2 0 (5 ∷ []) ∷ Call 2 1 1 (6 ∷ []) ∷ []

abbrev ends : List Event
ends = Ret 1 2 (Some 11) ∷ Ret 2 1 (Some 11) ∷ Ret 1 0 (Some 22) ∷ Out 0 22 ∷ End 0 0 ∷ []

abbrev legal_traces : List (List Event)
legal_traces =
    (calls ++ ends) ∷  -- comes back
    [] ∷  -- nothing yet
    (Call 0 1 0 (2 ∷ []) ∷ Call 1 2 0 (5 ∷ []) ∷ Call 2 1 2 [] ∷ Ret 1 2 None ∷ []) ∷  -- without value
    []

all_legal : map (legal three) legal_traces ≡ replicate 3 true
all_legal = refl

abbrev other_traces : List (List Event)
other_traces =
    (Call 1 2 0 (5 ∷ []) ∷ []) ∷  -- begins elsewhere
    (Call 0 1 0 (2 ∷ []) ∷ Out 0 7 ∷ []) ∷  -- not the active one
    (Call 0 7 0 [] ∷ []) ∷  -- no such compartment
    (Call 0 1 1 (2 ∷ []) ∷ []) ∷  -- call not imported
    (Call 0 1 0 (2 ∷ []) ∷ Out 1 7 ∷ []) ∷  -- output not imported
    (In 0 7 ∷ []) ∷  -- input not imported
    (Call 0 1 0 (2 ∷ 3 ∷ []) ∷ []) ∷  -- too many arguments
    (Call 0 1 0 [] ∷ []) ∷  -- too few arguments
    (calls ++ Ret 1 2 None ∷ []) ∷  -- result missing
    (Call 0 1 0 (2 ∷ []) ∷ Call 1 2 0 (5 ∷ []) ∷ Call 2 1 2 [] ∷ Ret 1 2 (Some 1) ∷ []) ∷  -- result not promised
    (calls ++ Ret 1 0 (Some 11) ∷ []) ∷  -- returns past its caller
    (Ret 0 1 (Some 0) ∷ []) ∷  -- main returns to nobody
    (calls ++ End 1 0 ∷ []) ∷  -- ends in a call
    (calls ++ (ends ++ Out 0 1 ∷ [])) ∷  -- goes on after the end
    []

none_legal : map (legal three) other_traces ≡ replicate 14 false
none_legal = refl

part_of_a : part 0 1 (calls ++ ends) ≡
    record { entry = Export 0; number = 0; action = actions.Call 2 0 (5 ∷ []) } ∷
    record { entry = Export 1; number = 1; action = actions.Ret (Some 11) } ∷
    record { entry = Export 0; number = 2; action = actions.Ret (Some 22) } ∷ []
part_of_a = refl

part_of_main : part 0 0 (calls ++ ends) ≡
    record { entry = Main; number = 0; action = actions.Call 1 0 (2 ∷ []) } ∷
    record { entry = Main; number = 1; action = actions.Out 22 } ∷
    record { entry = Main; number = 2; action = actions.End 0 } ∷ []
part_of_main = refl

events_of_a : count_of 1 (calls ++ ends) ≡ 3
events_of_a = refl

lines_of_events : (event_line three (Call 2 1 1 (4294967295 ∷ 6 ∷ [])) ≡ codes "call B A h -1 6\n") ×
    (event_line three (Ret 1 2 (Some 11)) ≡ codes "ret A B 11\n") ×
    (event_line three (Ret 1 2 None) ≡ codes "ret A B\n") ×
    (event_line three (Out 0 2147483648) ≡ codes "out Main -2147483648\n")
unfolding digits
lines_of_events = (refl, refl, refl, refl)
