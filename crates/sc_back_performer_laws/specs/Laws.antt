-- The rules that a section keeps which performs a compartment's part of a trace.
use Rattle.sc_back_performer_laws.specs.Common.{Event, HasWords, Interface, Interfaces, PerformsRows, Row, SameButLines}
use Rattle.sc_back_performer_laws.specs.Common.{SectionTree, back_tree, callees_of, legal, most_events, part}
use Rattle.sc_back_performer_laws.specs.Common.{typed_section}
use Rattle.std.specs.Prelude.{◌≡◌, ◌≤◌, ℕ, List, [], All, length, true}
use Rattle.sc_types_scope.specs.Names as names
use Rattle.sc_types_elab.specs.Sections as types
use Rattle.sc_types.specs.Counts as counts
use Rattle.sc_back_performer_laws.specs.Performer.{FitsRow, IsImportedAs, IsPerformer}

-- it breaks no rule of names
abbrev pub NamesHold : Type 0
NamesHold = (interfaces : Interfaces) (comp : ℕ) (rows : List Row) (interface : Interface) (section : SectionTree) →
    IsPerformer interfaces comp rows interface → SameButLines section (back_tree interfaces comp rows interface) →
    names.section_name_lines section ≡ []

-- it breaks no rule of types, wherever it stands in a text
abbrev pub TypesHold : Type 0
TypesHold = (interfaces : Interfaces) (comp : ℕ) (rows : List Row) (interface : Interface) (section : SectionTree) →
    IsPerformer interfaces comp rows interface → SameButLines section (back_tree interfaces comp rows interface) →
    (sections : List SectionTree) (number : ℕ) →
    types.section_type_lines section (callees_of sections number section) ≡ []

-- with its types, its functions perform the rows, each those of its entry, where its imports lead as they should
abbrev pub RowsPerform : Type 0
RowsPerform = (interfaces : Interfaces) (comp : ℕ) (rows : List Row) (interface : Interface)
    (section : SectionTree) → IsPerformer interfaces comp rows interface →
    SameButLines section (back_tree interfaces comp rows interface) → (sections : List SectionTree) (number : ℕ) →
    All (IsImportedAs sections number interfaces) interface.imports →
    PerformsRows interfaces comp rows (typed_section section (callees_of sections number section))

-- it holds no more than a program may, wherever it stands in a text
abbrev pub CountsHold : Type 0
CountsHold = (interfaces : Interfaces) (comp : ℕ) (rows : List Row) (interface : Interface) (section : SectionTree) →
    IsPerformer interfaces comp rows interface → SameButLines section (back_tree interfaces comp rows interface) →
    (sections : List SectionTree) (number : ℕ) →
    counts.section_count_lines section (callees_of sections number section) ≡ []

-- the rows of a part of a legal trace that isn't too long are such as a section can perform
abbrev pub LegalRowsFit : Type 0
LegalRowsFit = (interfaces : Interfaces) (trace : List Event) (comp : ℕ) → legal interfaces trace ≡ true →
    All HasWords trace → length trace ≤ most_events →
    All (FitsRow interfaces comp) (part interfaces.main comp trace) ×
    (length (part interfaces.main comp trace) ≤ most_events)
