-- What lets the sections of a set be written so that they perform their parts of a trace.
use Rattle.sc_back_performer_laws.specs.Common.{CanPerform, Event, Interface, IsTyped, ProgramTree, SectionTree}
use Rattle.sc_back_performer_laws.specs.Common.{comp_at, heads_in, is_ident, is_name, part}
use Rattle.std.specs.Prelude.{◌≡◌, ℕ, ◌<◌, IsTrue, List, length, All, Some}
use Rattle.sc_ast.specs.declared.section.HeadTree.{HeadTree}
use Rattle.sc_ast.specs.declared.section.ImportLine.{ImportLine}
use Rattle.sc_back_performer_laws.specs.Recomposed.{IsPerformable}

abbrev pub IsCalledSo : HeadTree → Type 0
IsCalledSo head = IsTrue (is_ident head.name)

abbrev pub IsFromSo : ImportLine → Type 0
IsFromSo line = IsTrue (is_name line.comp)

-- the section and those that it imports from have names of sections, and its functions and prototypes identifiers
pub record IsNamed (tree : SectionTree) : Type 0 where
  pub name : IsTrue (is_name tree.name)
  pub comps : All IsFromSo tree.imports
  pub heads : All IsCalledSo (heads_in tree.decls)

-- a compartment of the program can perform its part of the trace
pub record PerformsPart (program : ProgramTree) (trace : List Event) (comp : ℕ) : Type 0 where
  pub interface : Interface
  pub at : comp_at program.interfaces comp ≡ Some interface
  pub can : CanPerform program.interfaces (part program.interfaces.main comp trace) interface

-- each compartment of a program can
abbrev pub PartsPerform : Type 0
PartsPerform = (sections : List SectionTree) (program : ProgramTree) (trace : List Event) →
    IsTyped sections program → All IsNamed sections → IsPerformable program trace → (comp : ℕ) →
    comp < length sections → PerformsPart program trace comp
