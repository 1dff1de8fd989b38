-- Which events a pattern is for.
use Rattle.std.specs.Prelude.{ℕ, zero, suc, ℤ, Bool, true, false, not, ◌&&◌, int_lt, int_le, bytes_eq, List, slice_get}
use Rattle.std.specs.Prelude.{Option, Some, None}
use Rattle.std.specs.Int.{w32, cast_signed}
use Rattle.std.specs.Ordering.{int_eq}
use Rattle.sc_event.specs.Prelude.{comp_name, export_name}
use Rattle.sc_event.specs.declared.event.Event.{Event}
use Rattle.sc_event.specs.declared.event.Event.TheVariants as events
use Rattle.sc_event.specs.declared.interface.Interfaces.{Interfaces}
use Rattle.sc_policy.specs.declared.policy.ArgTest.{ArgTest}
use Rattle.sc_policy.specs.declared.policy.Compare.{Compare}
use Rattle.sc_policy.specs.declared.policy.Compare.TheVariants.{Equal, NotEqual, Less, LessEqual, Greater, GreaterEqual}
use Rattle.sc_policy.specs.declared.policy.Pattern.{Pattern}
use Rattle.sc_policy.specs.declared.policy.Pattern.TheVariants.{Call, Ret, Out, In, End}
use Rattle.sc_policy.specs.declared.policy.Test.{Test}
use Rattle.sc_policy.specs.declared.policy.Who.{Who}
use Rattle.sc_policy.specs.declared.policy.Who.TheVariants.{Any, Named}

-- a comparison of signed values
abbrev pub compares : Compare → (left right : ℤ) → Bool
compares Equal left right = int_eq left right
compares NotEqual left right = not (int_eq left right)
compares Less left right = int_lt left right
compares LessEqual left right = int_le left right
compares Greater left right = int_lt right left
compares GreaterEqual left right = int_le right left

-- a value passes a test, where the test is there only if the value is
abbrev pub passes : Option Test → Option ℕ → Bool
passes None value = true
passes (Some test) None = false
passes (Some test) (Some word) = compares test.op (cast_signed w32 word) test.value

-- the argument of a number, counted from 1
abbrev pub argument : List ℕ → (number : ℕ) → Option ℕ
argument args zero = None
argument args (suc place) = slice_get args place

abbrev pub passes_arg : Option ArgTest → List ℕ → Bool
passes_arg None args = true
passes_arg (Some one) args = passes (Some one.test) (argument args one.place)

-- a name is one of those that a pattern speaks of
abbrev pub is_who : Who → List ℕ → Bool
is_who Any name = true
is_who (Named own) name = bytes_eq own name

abbrev pub is_comp : Interfaces → Who → (comp : ℕ) → Bool
is_comp interfaces who comp = is_who who (comp_name interfaces comp)

-- an event of the pattern's kind, whose names and value are those that the pattern asks for
abbrev pub matches : Interfaces → Pattern → Event → Bool
matches interfaces (Call from to function arg) (events.Call caller called index args) =
    is_comp interfaces from caller && is_comp interfaces to called &&
    is_who function (export_name interfaces called index) && passes_arg arg args
matches interfaces (Ret from to test) (events.Ret called caller value) =
    is_comp interfaces from called && is_comp interfaces to caller && passes test value
matches interfaces (Out who test) (events.Out comp value) = is_comp interfaces who comp && passes test (Some value)
matches interfaces (In who test) (events.In comp value) = is_comp interfaces who comp && passes test (Some value)
matches interfaces (End who test) (events.End comp value) = is_comp interfaces who comp && passes test (Some value)
matches interfaces _ _ = false
