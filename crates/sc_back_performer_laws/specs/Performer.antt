-- What the section that performs a compartment's part of a trace needs, so that it keeps the rules of its language.
use Rattle.sc_back_performer_laws.specs.Common.{Interface, Interfaces, IsWord, IsWordOrNone, Row, SectionTree, Text}
use Rattle.sc_back_performer_laws.specs.Common.{are_distinct, comp_at, fits_result, import_of, imported, imports}
use Rattle.sc_back_performer_laws.specs.Common.{is_function, is_input, is_output, main_proto, most_events, most_exports}
use Rattle.sc_back_performer_laws.specs.Common.{owner_name, proto_of, takes}
use Rattle.sc_types_interfaces.specs.Prelude.{is_plain}
use Rattle.std.specs.Prelude.{◌≡◌, ℕ, suc, ◌≤◌, ◌==◌, true, if◌then◌else◌, List, [], ◌∷◌, ◌++◌, length, map, All}
use Rattle.std.specs.Prelude.{Option, Some, None}
use Rattle.std.specs.List.{filter_map}
use Rattle.sc_event.specs.declared.interface.Import.{Import}
use Rattle.sc_event.specs.declared.interface.Proto.{Proto}
use Rattle.sc_event.specs.declared.interface.Scalar.{Scalar}
use Rattle.sc_event.specs.declared.interface.Scalar.TheVariants.{Int}
use Rattle.sc_event.specs.declared.row.Action.{Action}
use Rattle.sc_event.specs.declared.row.Action.TheVariants.{Call, Ret, Out, In, End}

-- Functions.

-- what a section of this interface defines: its exports, and `main` where the program begins in it
abbrev pub defined : Interfaces → (comp : ℕ) → Interface → List Proto
defined interfaces comp interface = interface.exports ++
    (if comp == interfaces.main then main_proto ∷ [] else [])

-- what it imports
abbrev pub used : Interfaces → Interface → List Proto
used interfaces interface = filter_map (imported interfaces) interface.imports

abbrev pub all_of : Interfaces → (comp : ℕ) → Interface → List Proto
all_of interfaces comp interface = defined interfaces comp interface ++ used interfaces interface

abbrev pub names_of : List Proto → List Text
names_of protos = map {A = Proto} (λ proto. proto.name) protos

-- a function that a performing section may define or call: it isn't called as the section's own variables are
pub record IsUsable (proto : Proto) : Type 0 where
  pub plain : is_plain proto.name ≡ true
  pub few : length proto.params ≤ 8

-- Rows.

-- a function of a compartment with this result may do an action of these words
abbrev pub MayDo : Interfaces → (comp : ℕ) → Option Scalar → Action → Type 0
MayDo interfaces comp result (Call to index args) =
    (imports interfaces comp (is_function to index) ≡ true) × (takes interfaces to index (length args) ≡ true) ×
    All IsWord args
MayDo interfaces comp result (Ret value) = (fits_result result value ≡ true) × IsWordOrNone value
MayDo interfaces comp result (Out word) = (imports interfaces comp is_output ≡ true) × IsWord word
MayDo interfaces comp result (In word) = imports interfaces comp is_input ≡ true
MayDo interfaces comp result (End word) = (result ≡ Some Int) × IsWord word

pub record FitsRow (interfaces : Interfaces) (comp : ℕ) (row : Row) : Type 0 where
  pub numbered : IsWord (suc row.number)
  pub may : (proto : Proto) → proto_of interfaces comp row.entry ≡ Some proto →
      MayDo interfaces comp proto.result row.action

-- Sections.

pub record IsPerformer (interfaces : Interfaces) (comp : ℕ) (rows : List Row) (interface : Interface) : Type 0 where
  pub there : comp_at interfaces comp ≡ Some interface
  pub distinct : are_distinct (names_of (all_of interfaces comp interface)) ≡ true
  pub usable : All IsUsable (all_of interfaces comp interface)
  pub few_exports : length interface.exports ≤ most_exports
  pub few_imports : length interface.imports ≤ most_exports
  pub few_rows : length rows ≤ most_events
  pub rows_fit : All (FitsRow interfaces comp) rows

-- an import leads there from a text's section of this number
pub record IsImportedAs (sections : List SectionTree) (number : ℕ) (interfaces : Interfaces) (import : Import) :
    Type 0 where
  pub leads : (proto : Proto) → imported interfaces import ≡ Some proto → (line : ℕ) → import_of sections number
      (record { comp = owner_name interfaces import; name = proto.name; line = line }) ≡ import
