-- What codes can be linked to an image.
use Rattle.sc_linker.specs.Common.{CodeTree, ProgramTree, TypedSection, export_at, most_globals, refers_only, stretch}
use Rattle.sc_linker.specs.Common.{total}
use Rattle.std.specs.Prelude.{◌≡◌, ℕ, ◌+◌, ◌*◌, ◌≤◌, List, length, map, All, IsTrue, nat_lt, is_some}
use Rattle.sc_linker.specs.Layout.{cells, codes_at, exports_at, instructions, section_at}

-- it refers to functions and globals of the section, and to exports that there are
abbrev pub RefersInside : ProgramTree → (comp : ℕ) → CodeTree → Type 0
RefersInside program comp code =
    let section = section_at program comp in
    IsTrue (refers_only (λ number. nat_lt number (length section.functions))
    (λ to index. is_some (export_at program.interfaces to index))
    (λ number. nat_lt number (length section.globals)) code)

pub record IsLinkable (program : ProgramTree) (codes : List CodeTree) : Type 0 where
  -- a code for each function, in the order of sections and functions
  pub each : length codes ≡ total (map {A = TypedSection} (λ section. length section.functions) program.sections)
  -- those of a section, with a word for each export, fit in its stretch of code
  pub code : (comp : ℕ) → 4 * (length (exports_at program comp) + instructions (codes_at program codes comp)) ≤ stretch
  pub globals : (comp : ℕ) →
      4 * cells (section_at program comp).structs (section_at program comp).globals ≤ most_globals
  pub inside : (comp : ℕ) → All {X = CodeTree} (RefersInside program comp) (codes_at program codes comp)
