-- Programs in which the sections of some compartments are replaced by ones that perform their parts of a trace.
use Rattle.sc_base.specs.Prelude.{IsWord}
use Rattle.sc_event.specs.Prelude.{export_at, legal, part}
use Rattle.sc_core.specs.Prelude.{IsWellTyped, main_name, meaning, place_named, scripted_meaning}
use Rattle.std.specs.Prelude.{◌≡◌, ℕ, ◌<◌, ◌^◌, ◌==◌, if◌then◌else◌, Bool, true, false, List, [], ◌∷◌, Option, Some}
use Rattle.std.specs.Prelude.{None, All, IfSome, slice_get}
use Rattle.sc_event.specs.declared.event.Event.{Event}
use Rattle.sc_event.specs.declared.event.Event.TheVariants.{Call, Ret, Out, In, End}
use Rattle.sc_event.specs.declared.interface.Interfaces.{Interfaces}
use Rattle.sc_event.specs.declared.interface.Proto.{Proto}
use Rattle.sc_event.specs.declared.interface.Scalar.TheVariants as scalar
use Rattle.sc_event.specs.declared.row.Entry.{Entry}
use Rattle.sc_event.specs.declared.row.Entry.TheVariants.{Main, Export}
use Rattle.sc_event.specs.declared.row.Row.{Row}
use Rattle.sc_core.specs.declared.cause.Cause.{Cause}
use Rattle.sc_core.specs.declared.program.ProgramTree.{ProgramTree}
use Rattle.sc_core.specs.declared.run.RunEnd.TheVariants.{Blamed}
use Rattle.sc_core.specs.declared.section.TypedFunction.{TypedFunction}
use Rattle.sc_core.specs.declared.section.TypedGlobal.{TypedGlobal}
use Rattle.sc_core.specs.declared.section.TypedSection.{TypedSection}
use Rattle.sc_core.specs.declared.ty.Ty.TheVariants as ty
use Rattle.sc_back_replay_laws.specs.Texts.{IsPerforming}

-- SECTIONS
abbrev pub main_proto : Proto
main_proto = record { name = main_name; params = []; result = Some scalar.Int }

-- the head of the function that an entry of a compartment leads to
abbrev pub proto_of : Interfaces → ℕ → Entry → Option Proto
proto_of interfaces comp Main = if comp == interfaces.main then Some main_proto else None
proto_of interfaces comp (Export index) = export_at interfaces comp index

-- a global of type `unsigned int` that begins with 0
pub record IsCounter (global : TypedGlobal) : Type 0 where
  pub word : global.ty ≡ ty.Unsigned
  pub zero : global.init ≡ []

-- the function of this name in a section performs the rows of an entry
pub record Performs (interfaces : Interfaces) (entry : Entry) (proto : Proto) (rows : List Row)
    (section : TypedSection) : Type 0 where
  pub number : ℕ
  pub function : TypedFunction
  pub named : place_named proto.name (Some section) ≡ Some number
  pub is : slice_get section.functions number ≡ Some function
  pub locals : function.locals ≡ []
  pub body : IsPerforming interfaces entry proto.result rows function.body

-- a section whose functions perform the rows of its compartment, each those of its entry
pub record PerformsRows (interfaces : Interfaces) (comp : ℕ) (rows : List Row) (section : TypedSection) : Type 0 where
  pub counter : TypedGlobal
  pub globals : section.globals ≡ counter ∷ []
  pub counts : IsCounter counter
  pub functions : (entry : Entry) (proto : Proto) → proto_of interfaces comp entry ≡ Some proto →
      Performs interfaces entry proto rows section

-- the section at a place is such a one
pub record HasReplaced (interfaces : Interfaces) (comp : ℕ) (rows : List Row) (found : Option TypedSection) :
    Type 0 where
  pub section : TypedSection
  pub is : found ≡ Some section
  pub replaced : PerformsRows interfaces comp rows section

-- PROGRAMS
-- the other program has the sections of the program, but those of a set, which perform their parts of a trace
pub record IsRecomposed (program other : ProgramTree) (set : ℕ → Bool) (trace : List Event) : Type 0 where
  pub interfaces : other.interfaces ≡ program.interfaces
  pub kept : (comp : ℕ) → set comp ≡ false → slice_get other.sections comp ≡ slice_get program.sections comp
  pub replaced : (comp : ℕ) → set comp ≡ true → HasReplaced program.interfaces comp
      (part program.interfaces.main comp trace) (slice_get other.sections comp)

-- the values of an event are words of 32 bits
abbrev pub HasWords : Event → Type 0
HasWords (Call from to index args) = All IsWord args
HasWords (Ret from to value) = IfSome value IsWord
HasWords (Out comp value) = IsWord value
HasWords (In comp value) = IsWord value
HasWords (End comp value) = IsWord value

-- a trace that the interfaces allow, and programs of which the other one performs parts of it
pub record IsReplay (program other : ProgramTree) (set : ℕ → Bool) (trace : List Event) : Type 0 where
  pub typed : IsWellTyped program
  pub is_legal : legal program.interfaces trace ≡ true
  pub words : All HasWords trace
  pub recomposed : IsRecomposed program other set trace

-- the texts of a set mean what it does where it performs its parts, and none of its compartments is blamed
pub record TextsPerform : Type 0 where
  pub replays : (program other : ProgramTree) (set : ℕ → Bool) (trace : List Event) →
      IsReplay program other set trace → (inputs : List ℕ) (turns events : ℕ) →
      meaning other inputs turns events ≡ scripted_meaning program set trace inputs turns events
  pub blame : (program other : ProgramTree) (set : ℕ → Bool) (trace : List Event) →
      IsReplay program other set trace → (inputs : List ℕ) (turns events comp : ℕ) (cause : Cause) (line : ℕ) →
      (meaning other inputs turns events).end ≡ Blamed comp cause line → set comp ≡ false
