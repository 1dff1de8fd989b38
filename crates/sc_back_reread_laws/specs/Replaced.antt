-- Helping: texts in which sections are replaced by ones that perform are split and read as before, the replaced
-- sections aside.
use Rattle.sc_back_reread_laws.specs.Common.{AllBecome, CanPerform, Interface, Interfaces, IsSplit, Reads, Row}
use Rattle.sc_back_reread_laws.specs.Common.{SectionTree, back_text, comp_at, new_texts}
use Rattle.std.specs.Prelude.{◌≡◌, ◌<◌, ℕ, Bool, true, List, ◌++◌, length, map, Option, None, Some, if◌then◌else◌}
use Rattle.std.specs.List.{concat}
use Rattle.sc_lex.specs.declared.section.Section.{Section}

-- the bytes of each section, its compartment line included
abbrev pub texts_of : List Section → List (List ℕ)
texts_of found = map (λ section. section.bytes.now) found

-- a compartment of these interfaces can perform the rows
pub record IsPerformer (interfaces : Interfaces) (comp : ℕ) (rows : List Row) : Type 0 where
  pub interface : Interface
  pub at : comp_at interfaces comp ≡ Some interface
  pub can : CanPerform interfaces rows interface

-- The compartments of a set, and no others, are replaced by the texts by which they perform their rows, and those among
-- the first `count` can.
pub record IsReplacement (interfaces : Interfaces) (rows : ℕ → List Row) (set : ℕ → Bool)
    (replace : ℕ → Option (List ℕ)) (count : ℕ) : Type 0 where
  pub texts : (comp : ℕ) → replace comp ≡
      (if set comp then Some (back_text interfaces comp (rows comp)) else None)
  pub can : (comp : ℕ) → comp < count → set comp ≡ true → IsPerformer interfaces comp (rows comp)

-- The preamble and these sections are read, as the trees that those before become.
pub record IsReread (preamble : List ℕ) (sections : List (List ℕ)) (interfaces : Interfaces) (rows : ℕ → List Row)
    (set : ℕ → Bool) (trees : List SectionTree) : Type 0 where
  pub found : List Section
  pub split : IsSplit (preamble ++ concat sections) preamble found
  pub bytes : texts_of found ≡ sections
  pub others : List SectionTree
  pub reads : Reads (preamble ++ concat sections) others
  pub become : AllBecome interfaces rows set 0 trees others

abbrev pub ReplacedTextsAreRead : Type 0
ReplacedTextsAreRead =
    (text preamble : List ℕ) (found : List Section) (trees : List SectionTree) → IsSplit text preamble found →
    Reads text trees → (interfaces : Interfaces) (rows : ℕ → List Row) (set : ℕ → Bool)
    (replace : ℕ → Option (List ℕ)) → IsReplacement interfaces rows set replace (length trees) →
    IsReread preamble (new_texts replace 0 (texts_of found)) interfaces rows set trees
