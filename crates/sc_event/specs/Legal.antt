-- Which traces the interfaces allow.
use Rattle.std.specs.Prelude.{ℕ, Bool, true, false, ◌&&◌, ◌==◌, List, [], ◌∷◌, length, Option, Some, None}
use Rattle.std.specs.Option.{option_map_or}
use Rattle.std.specs.List.{list_any}
use Rattle.sc_event.specs.declared.event.Event.{Event}
use Rattle.sc_event.specs.declared.event.Event.TheVariants.{Call, Ret, Out, In, End}
use Rattle.sc_event.specs.declared.interface.Import.{Import}
use Rattle.sc_event.specs.declared.interface.Import.TheVariants.{Input, Output, Function}
use Rattle.sc_event.specs.declared.interface.Interfaces.{Interfaces}
use Rattle.sc_event.specs.declared.interface.Scalar.{Scalar}
use Rattle.sc_event.specs.declared.row.Entry.{Entry}
use Rattle.sc_event.specs.declared.row.Entry.TheVariants.{Main, Export}
use Rattle.sc_event.specs.Lookup.{comp_at, export_at}
use Rattle.sc_event.specs.Standing.{Activation, Standing, at_start, stands_after, performer}

-- what an import lets its compartment call
abbrev pub is_input : Import → Bool
is_input Input = true
is_input _ = false

abbrev pub is_output : Import → Bool
is_output Output = true
is_output _ = false

abbrev pub is_function : (comp index : ℕ) → Import → Bool
is_function comp index (Function owner place) = owner == comp && place == index
is_function comp index _ = false

abbrev pub imports_of : Interfaces → ℕ → List Import
imports_of interfaces comp = option_map_or (λ found. found.imports) (comp_at interfaces comp) []

-- the compartment has an import that lets it call this
abbrev pub imports : Interfaces → ℕ → (Import → Bool) → Bool
imports interfaces comp is_it = list_any is_it (imports_of interfaces comp)

-- the export takes `count` arguments
abbrev pub takes : Interfaces → (comp index count : ℕ) → Bool
takes interfaces comp index count = option_map_or (λ found. length found.params == count)
    (export_at interfaces comp index) false

-- a value is there exactly where a result is promised
abbrev pub fits_result : Option Scalar → Option ℕ → Bool
fits_result (Some promised) (Some value) = true
fits_result None None = true
fits_result _ _ = false

-- the function may return this to another compartment, which the first call of `main` never does
abbrev pub may_return : Interfaces → (comp : ℕ) → Entry → Option ℕ → Bool
may_return interfaces comp Main value = false
may_return interfaces comp (Export index) value =
    option_map_or (λ found. fits_result found.result value) (export_at interfaces comp index) false

-- the latest function that waits is one of this compartment
abbrev pub awaits : List Activation → ℕ → Bool
awaits [] comp = false
awaits (latest ∷ earlier) comp = latest.comp == comp

-- no call is open
abbrev pub is_outermost : List Activation → Bool
is_outermost [] = true
is_outermost (latest ∷ earlier) = false

-- the active compartment may perform the event
abbrev pub may_perform : Interfaces → Standing → Event → Bool
may_perform interfaces at (Call from to index args) =
    imports interfaces from (is_function to index) && takes interfaces to index (length args)
may_perform interfaces at (Ret from to value) = awaits at.waiting to && may_return interfaces from at.active.entry value
may_perform interfaces at (Out comp value) = imports interfaces comp is_output
may_perform interfaces at (In comp value) = imports interfaces comp is_input
may_perform interfaces at (End comp value) = is_outermost at.waiting

-- the event is the active compartment's, and it may perform it
abbrev pub is_allowed : Interfaces → Standing → Event → Bool
is_allowed interfaces at event = performer event == at.active.comp && may_perform interfaces at event

-- the run ends by the event
abbrev pub is_end : Event → Bool
is_end (End comp value) = true
is_end _ = false

-- each event is allowed where it happens, and none happens once the run has ended
abbrev pub is_legal_from : Interfaces → Option Standing → List Event → Bool
is_legal_from interfaces at [] = true
is_legal_from interfaces None (event ∷ later) = false
is_legal_from interfaces (Some at) (event ∷ later) =
    is_allowed interfaces at event && is_legal_from interfaces (stands_after at event) later

-- a legal trace begins in the main compartment
abbrev pub legal : Interfaces → List Event → Bool
legal interfaces trace = is_legal_from interfaces (at_start interfaces.main) trace
