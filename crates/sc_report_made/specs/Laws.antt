-- A made text is a program, and a small one.
use Rattle.sc_base.specs.Prelude.{most_compiled}
use Rattle.sc_core.specs.Prelude.{most_frame}
use Rattle.sc_ast.specs.Prelude.{SameButLines}
use Rattle.sc_core.specs.Prelude.{cells_of, frame_bound, nodes, total, variables}
use Rattle.sc_types_elab.specs.Prelude.{program_of}
use Rattle.sc_types.specs.Prelude.{Accepts, IsTyped}
use Rattle.std.specs.Prelude.{ℕ, ◌≤◌, ◌<◌, ◌^◌, List, [], ◌∷◌, length, All, map}
use Rattle.sc_ast.specs.declared.section.SectionTree.{SectionTree}
use Rattle.sc_core.specs.declared.program.ProgramTree.{ProgramTree}
use Rattle.sc_core.specs.declared.section.TypedFunction.{TypedFunction}
use Rattle.sc_core.specs.declared.section.TypedGlobal.{TypedGlobal}
use Rattle.sc_core.specs.declared.section.TypedSection.{TypedSection}
use Rattle.sc_parse_read.specs.Reading.{Reads}
use Rattle.sc_report.specs.Made.{made_text}
use Rattle.sc_report_made.specs.Tree.{made_trees}

-- a size and a seed that may be asked for
pub record IsAsked (size seed : ℕ) : Type 0 where
  pub some : 1 ≤ size
  pub few : size ≤ 1000
  pub word : seed < 2 ^ 32

-- Reading.

-- the sections are these, lines aside
abbrev pub AreSame : List SectionTree → List SectionTree → Type 0
AreSame [] [] = Unit {0}
AreSame (tree ∷ trees) (other ∷ others) = SameButLines tree other × AreSame trees others
AreSame _ _ = ⊥

-- the text is read as the trees, lines aside
pub record IsReadAs (text : List ℕ) (trees : List SectionTree) : Type 0 where
  pub others : List SectionTree
  pub reads : Reads text others
  pub same : AreSame others trees

abbrev pub MadeTextsAreRead : Type 0
MadeTextsAreRead = (size seed : ℕ) → IsAsked size seed → IsReadAs (made_text size seed) (made_trees size seed)

-- Rules and sizes.

-- few cells of globals, functions with frames that fit, and few nodes
pub record IsSmall (section : TypedSection) : Type 0 where
  pub cells : total (map {A = TypedGlobal} (λ global. cells_of section.structs global.ty) section.globals) ≤ 16
  pub frames : All {X = TypedFunction} (λ f. frame_bound (variables section.structs f) (nodes f) ≤ most_frame)
      section.functions
  pub nodes : total (map nodes section.functions) ≤ 10000

abbrev pub AreSmall : ProgramTree → Type 0
AreSmall program = All IsSmall program.sections

abbrev pub MadeTreesAreTyped : Type 0
MadeTreesAreTyped = (size seed : ℕ) → IsAsked size seed → (sections : List SectionTree) →
    AreSame sections (made_trees size seed) → IsTyped sections (program_of sections) × AreSmall (program_of sections)

-- Both together: the text is accepted, as a small program, and no longer than a text may be that is compiled.
pub record IsAccepted (text : List ℕ) : Type 0 where
  pub program : ProgramTree
  pub accepted : Accepts text program
  pub small : AreSmall program
  pub short : length text ≤ most_compiled

abbrev pub MadeTextsAreAccepted : Type 0
MadeTextsAreAccepted = (size seed : ℕ) → IsAsked size seed → IsAccepted (made_text size seed)
