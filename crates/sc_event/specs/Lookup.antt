-- What the numbers of compartments and exports stand for.
use Rattle.std.specs.Prelude.{ℕ, slice_get, Option, IsSome}
use Rattle.std.specs.Option.{option_and_then}
use Rattle.sc_event.specs.declared.event.Event.{Event}
use Rattle.sc_event.specs.declared.event.Event.TheVariants.{Call, Ret, Out, In, End}
use Rattle.sc_event.specs.declared.interface.Interface.{Interface}
use Rattle.sc_event.specs.declared.interface.Interfaces.{Interfaces}
use Rattle.sc_event.specs.declared.interface.Proto.{Proto}

-- the compartment of a number
abbrev pub comp_at : Interfaces → ℕ → Option Interface
comp_at interfaces comp = slice_get interfaces.comps comp

-- the export of a compartment at a place
abbrev pub export_at : Interfaces → (comp index : ℕ) → Option Proto
export_at interfaces comp index = option_and_then (λ found. slice_get found.exports index) (comp_at interfaces comp)

-- each number of the event stands for something
abbrev pub IsKnown : Interfaces → Event → Type 0
IsKnown interfaces (Call from to index args) =
    IsSome (comp_at interfaces from) × IsSome (comp_at interfaces to) × IsSome (export_at interfaces to index)
IsKnown interfaces (Ret from to value) = IsSome (comp_at interfaces from) × IsSome (comp_at interfaces to)
IsKnown interfaces (Out comp value) = IsSome (comp_at interfaces comp)
IsKnown interfaces (In comp value) = IsSome (comp_at interfaces comp)
IsKnown interfaces (End comp value) = IsSome (comp_at interfaces comp)
