-- The meanings of worked programs, computed.
use Rattle.sc_core.proofs.Common.{Bool, Call, End, Event, Interfaces, List, Out, Ret, Some, [], ap, c_arith, code_bound}
use Rattle.sc_core.proofs.Common.{deepest, depth, false, meaning, negated_word, not, on_all_words, refl}
use Rattle.sc_core.proofs.Common.{scripted_depth_by, scripted_meaning, stopped_at, wrapped, wrapped_depth, wrapping, ℕ}
use Rattle.sc_core.proofs.Common.{◌==◌, ◌∷◌, ◌≡◌}
use Rattle.sc_core.specs.declared.run.RunEnd.TheVariants.{Blamed, Ended, EventsOut, TurnsOut}
use Rattle.sc_core.specs.declared.cause.Cause.TheVariants.{Dangling, Indeterminate, NoReturn, OutOfBounds, Overflow}
use Rattle.sc_base.specs.declared.op.BinaryOp.TheVariants as op
use Rattle.sc_core.proofs.Plans.{Sheet, program, quick_run, quick_scripted, run_is, scripted_run_is}
use Rattle.sc_core.proofs.Programs.{one_compartment, seven, min_by_minus_one, uninitialised, missing_return, leak}
use Rattle.sc_core.proofs.Programs.{store_interfaces, store_sheets, deep_interfaces, deep, two_stores_interfaces}
use Rattle.sc_core.proofs.Programs.{two_stores, reentry_interfaces, reentry}

-- The meaning of a program by its plan: what follows computes.
pub by_plan : (interfaces : Interfaces) (sheets : List Sheet) (inputs : List ℕ) (turns events : ℕ) →
    meaning (program interfaces sheets) inputs turns events ≡
    stopped_at events (quick_run c_arith interfaces sheets inputs turns).behaviour
by_plan interfaces sheets inputs turns events = ap (λ run. stopped_at events run.behaviour)
    (run_is c_arith interfaces sheets inputs turns)

pub wrapped_by_plan : (interfaces : Interfaces) (sheets : List Sheet) (inputs : List ℕ) (turns events : ℕ) →
    wrapped (program interfaces sheets) inputs turns events ≡
    stopped_at events (quick_run wrapping interfaces sheets inputs turns).behaviour
wrapped_by_plan interfaces sheets inputs turns events =
    ap (λ run. stopped_at events run.behaviour) (run_is wrapping interfaces sheets inputs turns)

pub scripted_by_plan : (interfaces : Interfaces) (sheets : List Sheet) (set : ℕ → Bool) (trace : List Event)
    (inputs : List ℕ) (turns events : ℕ) → scripted_meaning (program interfaces sheets) set trace inputs turns events ≡
    stopped_at events (quick_scripted c_arith interfaces sheets inputs turns set trace).behaviour
scripted_by_plan interfaces sheets set trace inputs turns events =
    ap (λ run. stopped_at events run.behaviour) (scripted_run_is c_arith interfaces sheets inputs turns set trace)

pub seven_means : meaning (program one_compartment seven) [] 0 10 ≡ record
    { trace = Out 0 7 ∷ End 0 0 ∷ []; end = Ended }
seven_means = by_plan one_compartment seven [] 0 10

pub seven_within_2 : meaning (program one_compartment seven) [] 0 2 ≡ record
    { trace = Out 0 7 ∷ End 0 0 ∷ []; end = Ended }
seven_within_2 = by_plan one_compartment seven [] 0 2

pub seven_within_1 : meaning (program one_compartment seven) [] 0 1 ≡ record { trace = Out 0 7 ∷ []; end = EventsOut }
seven_within_1 = by_plan one_compartment seven [] 0 1

pub seven_within_0 : meaning (program one_compartment seven) [] 0 0 ≡ record { trace = []; end = EventsOut }
seven_within_0 = by_plan one_compartment seven [] 0 0

pub minimum_is_blamed : meaning (program one_compartment min_by_minus_one) [] 0 10 ≡
    record { trace = []; end = Blamed 0 Overflow 9 }
minimum_is_blamed = by_plan one_compartment min_by_minus_one [] 0 10

pub minimum_wraps : wrapped (program one_compartment min_by_minus_one) [] 0 10 ≡
    record { trace = Out 0 2147483648 ∷ End 0 0 ∷ []; end = Ended }
minimum_wraps = wrapped_by_plan one_compartment min_by_minus_one [] 0 10

pub uninitialised_is_blamed : meaning (program one_compartment uninitialised) [] 0 10 ≡
    record { trace = Out 0 1 ∷ []; end = Blamed 0 Indeterminate 7 }
uninitialised_is_blamed = by_plan one_compartment uninitialised [] 0 10

pub missing_return_is_blamed : meaning (program one_compartment missing_return) [] 5 10 ≡
    record { trace = []; end = Blamed 0 NoReturn 3 }
missing_return_is_blamed = by_plan one_compartment missing_return [] 5 10

pub missing_return_wants_a_turn : meaning (program one_compartment missing_return) [] 0 10 ≡ record
    { trace = []; end = TurnsOut }
missing_return_wants_a_turn = by_plan one_compartment missing_return [] 0 10

pub leak_is_blamed : meaning (program one_compartment leak) [] 5 10 ≡ record { trace = []; end = Blamed 0 Dangling 11 }
leak_is_blamed = by_plan one_compartment leak [] 5 10

-- the machine's trace of the store past the end
abbrev pub store_trace : List Event
store_trace = Call 0 1 0 (4 ∷ 9 ∷ []) ∷ Ret 1 0 (Some 9) ∷ Out 0 9 ∷ End 0 0 ∷ []

pub store_is_blamed : meaning (program store_interfaces store_sheets) [] 5 4 ≡
    record { trace = Call 0 1 0 (4 ∷ 9 ∷ []) ∷ []; end = Blamed 1 OutOfBounds 6 }
store_is_blamed = by_plan store_interfaces store_sheets [] 5 4

pub store_within_1 : meaning (program store_interfaces store_sheets) [] 5 1 ≡
    record { trace = Call 0 1 0 (4 ∷ 9 ∷ []) ∷ []; end = EventsOut }
store_within_1 = by_plan store_interfaces store_sheets [] 5 1

pub store_performed : scripted_meaning (program store_interfaces store_sheets) (λ comp. comp == 1) store_trace [] 5 4 ≡
    record { trace = store_trace; end = Ended }
store_performed = scripted_by_plan store_interfaces store_sheets (λ comp. comp == 1) store_trace [] 5 4

abbrev pub is_no_main : ℕ → Bool
is_no_main comp = not (comp == 0)

abbrev pub two_stores_trace : List Event
two_stores_trace =
    Call 0 1 0 (2 ∷ []) ∷ Ret 1 0 (Some 5) ∷ Out 0 5 ∷ Call 0 2 0 (2 ∷ []) ∷ Ret 2 0 (Some 5) ∷ Out 0 5 ∷ End 0 0 ∷ []

pub two_stores_is_blamed : meaning (program two_stores_interfaces two_stores) [] 5 7 ≡
    record { trace = Call 0 1 0 (2 ∷ []) ∷ []; end = Blamed 1 OutOfBounds 6 }
two_stores_is_blamed = by_plan two_stores_interfaces two_stores [] 5 7

-- with `A` performing, `B` is blamed
pub second_store_is_blamed : scripted_meaning (program two_stores_interfaces two_stores)
    (λ comp. comp == 1) two_stores_trace [] 5 7 ≡ record {
      trace = Call 0 1 0 (2 ∷ []) ∷ Ret 1 0 (Some 5) ∷ Out 0 5 ∷ Call 0 2 0 (2 ∷ []) ∷ [];
      end = Blamed 2 OutOfBounds 6;
    }
second_store_is_blamed = scripted_by_plan two_stores_interfaces two_stores (λ comp. comp == 1) two_stores_trace [] 5 7

pub both_performed : scripted_meaning (program two_stores_interfaces two_stores) is_no_main two_stores_trace [] 5 7 ≡
    record { trace = two_stores_trace; end = Ended }
both_performed = scripted_by_plan two_stores_interfaces two_stores is_no_main two_stores_trace [] 5 7

abbrev pub reentry_trace : List Event
reentry_trace = Call 0 1 0 (2 ∷ []) ∷ Call 1 2 0 (5 ∷ []) ∷ Call 2 1 1 (6 ∷ []) ∷ Ret 1 2 (Some 11) ∷ Ret 2 1 (Some 11)
    ∷ Ret 1 0 (Some 22) ∷ Out 0 22 ∷ End 0 0 ∷ []

pub reentry_is_blamed : meaning (program reentry_interfaces reentry) [] 5 8 ≡
    record { trace = Call 0 1 0 (2 ∷ []) ∷ []; end = Blamed 1 OutOfBounds 10 }
reentry_is_blamed = by_plan reentry_interfaces reentry [] 5 8

pub reentry_performed : scripted_meaning (program reentry_interfaces reentry) (λ comp. comp == 1) reentry_trace [] 3 8 ≡
    record { trace = reentry_trace; end = Ended }
reentry_performed = scripted_by_plan reentry_interfaces reentry (λ comp. comp == 1) reentry_trace [] 3 8

-- the third call finds no turn left
pub reentry_wants_three_turns : scripted_meaning (program reentry_interfaces reentry)
    (λ comp. comp == 1) reentry_trace [] 2 8 ≡ record {
      trace = Call 0 1 0 (2 ∷ []) ∷ Call 1 2 0 (5 ∷ []) ∷ [];
      end = TurnsOut;
    }
reentry_wants_three_turns = scripted_by_plan reentry_interfaces reentry (λ comp. comp == 1) reentry_trace [] 2 8

-- the greatest stack depth, where the frame size is 64 bytes, and 4 for each cell of a variable and each node
pub depth_by_plan : (interfaces : Interfaces) (sheets : List Sheet) (inputs : List ℕ) (turns events comp : ℕ) →
    depth (program interfaces sheets) inputs turns events comp ≡
    deepest events comp 0 (quick_run c_arith interfaces sheets inputs turns).frames
depth_by_plan interfaces sheets inputs turns events comp =
    ap (λ run. deepest events comp 0 run.frames) (run_is c_arith interfaces sheets inputs turns)

pub store_depth_of_main : depth (program store_interfaces store_sheets) [] 5 4 0 ≡ 108
store_depth_of_main = depth_by_plan store_interfaces store_sheets [] 5 4 0

pub store_depth_of_net : depth (program store_interfaces store_sheets) [] 5 4 1 ≡ 112
store_depth_of_net = depth_by_plan store_interfaces store_sheets [] 5 4 1

-- with no event there is no moment
pub store_depth_of_none : depth (program store_interfaces store_sheets) [] 5 0 1 ≡ 0
store_depth_of_none = depth_by_plan store_interfaces store_sheets [] 5 0 1

-- a call that is the last event allowed has no frame yet
pub store_depth_at_the_call : depth (program store_interfaces store_sheets) [] 5 1 1 ≡ 0
store_depth_at_the_call = depth_by_plan store_interfaces store_sheets [] 5 1 1

-- of the three calls of `f` among the first five events, two have a frame within them
pub deep_within_five : depth (program deep_interfaces deep) [] 9 5 1 ≡ 64208
deep_within_five = depth_by_plan deep_interfaces deep [] 9 5 1

pub deep_within_six : depth (program deep_interfaces deep) [] 9 6 1 ≡ 96312
deep_within_six = depth_by_plan deep_interfaces deep [] 9 6 1

-- the same where every operator gives a word, and where a compartment performs, whose calls have frames too
pub store_wrapped_depth : wrapped_depth (program store_interfaces store_sheets) [] 5 4 1 ≡ 112
store_wrapped_depth = ap (λ run. deepest 4 1 0 run.frames) (run_is wrapping store_interfaces store_sheets [] 5)

pub store_scripted_depth : scripted_depth_by c_arith (program store_interfaces store_sheets) (λ comp. comp == 0)
    (Call 0 1 0 (4 ∷ 9 ∷ []) ∷ []) [] 5 4 1 ≡ 112
store_scripted_depth = ap (λ run. deepest 4 1 0 run.frames)
    (scripted_run_is c_arith store_interfaces store_sheets [] 5 (λ comp. comp == 0) (Call 0 1 0 (4 ∷ 9 ∷ []) ∷ []))

pub store_scripted_wrapped_depth : scripted_depth_by wrapping (program store_interfaces store_sheets)
    (λ comp. comp == 0) (Call 0 1 0 (4 ∷ 9 ∷ []) ∷ []) [] 5 4 1 ≡ 112
store_scripted_wrapped_depth = ap (λ run. deepest 4 1 0 run.frames)
    (scripted_run_is wrapping store_interfaces store_sheets [] 5 (λ comp. comp == 0) (Call 0 1 0 (4 ∷ 9 ∷ []) ∷ []))

-- a script whose next row names another function, and one with no row left
pub wrong_row : scripted_meaning (program reentry_interfaces reentry) (λ comp. comp == 1)
    (Call 0 1 1 (2 ∷ []) ∷ Ret 1 0 (Some 3) ∷ []) [] 9 8 ≡ record { trace = Call 0 1 0 (2 ∷ []) ∷ []; end = TurnsOut }
wrong_row = scripted_by_plan reentry_interfaces reentry (λ comp. comp == 1) (Call 0 1 1 _ ∷ Ret 1 0 _ ∷ []) [] 9 8

pub no_row : scripted_meaning (program reentry_interfaces reentry) (λ comp. comp == 1)
    (Call 0 1 0 (2 ∷ []) ∷ []) [] 9 8 ≡ record { trace = Call 0 1 0 (2 ∷ []) ∷ []; end = TurnsOut }
no_row = scripted_by_plan reentry_interfaces reentry (λ comp. comp == 1) (Call 0 1 0 _ ∷ []) [] 9 8

-- the bytes that code takes at most, by the nodes of each function
code_of_two : code_bound (10 ∷ 5 ∷ []) ≡ 1440
code_of_two = refl

-- operators on all words: a sum that wraps, the remainder by 0, the least number by -1, and minus the least number
sum_wraps : on_all_words false op.Add 2147483647 1 ≡ 2147483648
sum_wraps = refl

rest_by_zero : on_all_words false op.Rem 7 0 ≡ 7
rest_by_zero = refl

rest_of_least : on_all_words false op.Rem 2147483648 4294967295 ≡ 0
rest_of_least = refl

minus_least : negated_word false 2147483648 ≡ 2147483648
minus_least = refl
