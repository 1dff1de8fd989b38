-- Which texts are programs, and which phase refuses the others, at which line.
use Rattle.sc_types.specs.Common.{ProgramTree, SectionTree, most_height, names_broken, program_of, refused_at}
use Rattle.sc_types.specs.Common.{types_broken}
use Rattle.sc_ast.specs.Prelude.{section_height}
use Rattle.sc_types_interfaces.specs.Prelude.{interface_broken}
use Rattle.std.specs.Prelude.{◌≡◌, ℕ, List, [], Some, IsTrue, nat_le}
use Rattle.std.specs.List.{list_all}
use Rattle.sc_lex.specs.declared.refusal.Phase.{Phase}
use Rattle.sc_lex.specs.declared.refusal.Phase.TheVariants as phase
use Rattle.sc_parse_read.specs.Reading.{FailsReading, Reads}
use Rattle.sc_types.specs.Counts.{counts_broken}

-- no tree is too high
abbrev pub AreLow : List SectionTree → Type 0
AreLow sections = IsTrue (list_all {X = SectionTree} (λ section. nat_le (section_height section) most_height) sections)

-- The sections break no rule of names, of types, of interfaces and of counts, and this is their program.
pub record IsTyped (sections : List SectionTree) (program : ProgramTree) : Type 0 where
  pub names : names_broken sections ≡ []
  pub types : types_broken sections ≡ []
  pub interfaces : interface_broken sections ≡ []
  pub counts : counts_broken sections ≡ []
  pub is : program ≡ program_of sections

-- The sections pass the phases before this one of the last four, and fail this one in a line.
abbrev pub FailsRules : List SectionTree → Phase → (line : ℕ) → Type 0
FailsRules sections phase.Names line = refused_at (names_broken sections) ≡ Some line
FailsRules sections phase.Types line = (names_broken sections ≡ []) × (refused_at (types_broken sections) ≡ Some line)
FailsRules sections phase.Interface line =
    (names_broken sections ≡ []) × (types_broken sections ≡ []) × (refused_at (interface_broken sections) ≡ Some line)
FailsRules sections phase.Count line =
    (names_broken sections ≡ []) × (types_broken sections ≡ []) × (interface_broken sections ≡ []) ×
    (refused_at (counts_broken sections) ≡ Some line)
FailsRules sections _ line = ⊥

-- A text is accepted as a program: it is read, and what is read has its types.
pub record Accepts (text : List ℕ) (program : ProgramTree) : Type 0 where
  pub sections : List SectionTree
  pub reads : Reads text sections
  pub typed : IsTyped sections program

-- A text fails one of the last four phases in a line.
pub record FailsTyped (text : List ℕ) (in_phase : Phase) (line : ℕ) : Type 0 where
  pub sections : List SectionTree
  pub reads : Reads text sections
  pub fails : FailsRules sections in_phase line

-- A text fails a phase in a line: it passes the phases before.
abbrev pub Fails : List ℕ → Phase → (line : ℕ) → Type 0
Fails text phase.Lex line = FailsReading text phase.Lex line
Fails text phase.Syntax line = FailsReading text phase.Syntax line
Fails text in_phase line = FailsTyped text in_phase line
