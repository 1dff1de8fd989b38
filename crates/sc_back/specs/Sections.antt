-- The trees of a text and those of the text in which some sections are replaced by ones that perform.
use Rattle.sc_base.specs.Word.{IsWord, IsWordOrNone}
use Rattle.sc_back.specs.Common.{Action, Call, End, Import, In, Interface, Interfaces, Out, Proto, Ret, Row}
use Rattle.sc_back.specs.Common.{SectionTree, comp_at, export_at, is_name}
use Rattle.sc_ast.specs.Prelude.{SameButLines, is_ident}
use Rattle.std.specs.Prelude.{◌≡◌, ◌≤◌, ℕ, suc, ◌<◌, ◌^◌, Bool, true, false, List, [], ◌∷◌, length, All, Option, None}
use Rattle.std.specs.Prelude.{Some, IsTrue}
use Rattle.sc_back.specs.Text.{imported, owner_name}
use Rattle.sc_back.specs.Tree.{back_tree}

-- What the text of a performing section needs, so that it can be read.

-- a function is called by an identifier, with 8 arguments at most
pub record IsCalled (f : Proto) : Type 0 where
  pub name : IsTrue (is_ident f.name)
  pub few : length f.params ≤ 8

-- an import names such a function of a compartment
pub record IsImported (interfaces : Interfaces) (import : Import) : Type 0 where
  pub f : Proto
  pub is : imported interfaces import ≡ Some f
  pub called : IsCalled f
  pub owner : IsTrue (is_name (owner_name interfaces import))

-- the values of an action are words, and it calls such a function
abbrev pub IsSpoken : Interfaces → Action → Type 0
IsSpoken interfaces (Call to index args) =
    All IsWord args × ((f : Proto) × (export_at interfaces to index ≡ Some f) × IsCalled f)
IsSpoken interfaces (Ret value) = IsWordOrNone value
IsSpoken interfaces (Out word) = IsWord word
IsSpoken interfaces (In word) = Unit {0}
IsSpoken interfaces (End word) = IsWord word

-- the rows are numbered from here on, by words
abbrev pub AreNumbered : (number : ℕ) → List Row → Type 0
AreNumbered number [] = Unit {0}
AreNumbered number (row ∷ rows) = (row.number ≡ number) × (suc number < 2 ^ 32) × AreNumbered (suc number) rows

pub record CanPerform (interfaces : Interfaces) (rows : List Row) (interface : Interface) : Type 0 where
  pub name : IsTrue (is_name interface.name)
  pub exports : All IsCalled interface.exports
  pub imports : All (IsImported interfaces) interface.imports
  pub actions : All (λ row. IsSpoken interfaces row.action) rows
  pub numbered : AreNumbered 0 rows

-- What becomes of the tree of a section.
pub data Becomes (interfaces : Interfaces) (rows : ℕ → List Row) (set : ℕ → Bool) (comp : ℕ) (old new : SectionTree) :
    Type 0 where
  -- it is kept, at another line of the text
  kept : set comp ≡ false → (line : ℕ) → new ≡ record old { line = line } → Becomes interfaces rows set comp old new
  -- it is one that performs, lines aside
  replaced : set comp ≡ true → (interface : Interface) → comp_at interfaces comp ≡ Some interface →
      SameButLines new (back_tree interfaces comp (rows comp) interface) → Becomes interfaces rows set comp old new

-- from the section of this number on
abbrev pub AllBecome : Interfaces → (rows : ℕ → List Row) → (set : ℕ → Bool) → (comp : ℕ) →
    (olds news : List SectionTree) → Type 0
AllBecome interfaces rows set comp [] [] = Unit {0}
AllBecome interfaces rows set comp (old ∷ olds) (new ∷ news) =
    Becomes interfaces rows set comp old new × AllBecome interfaces rows set (suc comp) olds news
AllBecome interfaces rows set comp _ _ = ⊥
