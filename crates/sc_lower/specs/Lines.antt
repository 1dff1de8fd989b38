-- Code has no lines: what a section is lowered to doesn't depend on where its parts stand.
use Rattle.sc_lower.specs.Common.{Interfaces, TypedSection}
use Rattle.sc_core_laws.specs.Lines.{section_lined}
use Rattle.sc_lower.specs.Programs.{lowered_section}
use Rattle.std.specs.Prelude.{◌≡◌, ℕ, Option}
use Rattle.std.specs.Option.{option_map}

-- a section with every line as 0
abbrev pub lineless : TypedSection → TypedSection
lineless section = section_lined (λ line. 0) section

-- These sections are the same but for the lines of their parts, or neither is there.
abbrev pub SameButForLines : Option TypedSection → Option TypedSection → Type 0
SameButForLines section other = option_map lineless section ≡ option_map lineless other

-- A section whose parts stand on other lines has the same code.
abbrev pub CodeHasNoLines : Type 0
CodeHasNoLines = (line_of : ℕ → ℕ) (interfaces : Interfaces) (comp : ℕ) (section : TypedSection) →
    lowered_section interfaces comp (section_lined line_of section) ≡ lowered_section interfaces comp section
