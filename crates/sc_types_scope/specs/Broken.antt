-- Lines at which the rules of a phase are broken, and the line at which the phase refuses the text.
use Rattle.std.specs.Prelude.{ℕ, ◌+◌, ◌-◌, min, Bool, true, false, List, [], ◌∷◌, map, Option, Some, None}
use Rattle.std.specs.Prelude.{if◌then◌else◌, nat_eq}
use Rattle.sc_types_scope.specs.declared.broken.BrokenLines.{BrokenLines}

-- the last line that is reported: all later lines share its number
abbrev pub last_line : ℕ
last_line = 4294967295

-- a line that is counted in a section, from 1, as a line of the text, where the section begins at line `start`
abbrev pub line_of_text : (start line : ℕ) → ℕ
line_of_text start line = min (start + (line - 1)) last_line

-- the earlier of two lines; 0 stands for no line
abbrev pub earlier : ℕ → ℕ → ℕ
earlier a b = if nat_eq a 0 then b else if nat_eq b 0 then a else min a b

-- the earliest line, after one more
abbrev pub noted : Option ℕ → ℕ → Option ℕ
noted None line = Some line
noted (Some least) line = Some (earlier least line)

-- the earliest line, after these too
unfoldable pub noted_all : Option ℕ → List ℕ → Option ℕ
noted_all least [] = least
noted_all least (line ∷ lines) = noted_all (noted least line) lines

-- a phase whose rules are broken at these lines refuses the text where there is one: at the least positive line, or at
-- 0
abbrev pub refused_at : List ℕ → Option ℕ
refused_at lines = noted_all None lines

-- a rule that is broken at a line, unless it holds
abbrev pub unless : Bool → ℕ → List ℕ
unless true line = []
unless false line = line ∷ []

-- what was noted so far, after these lines of a section
abbrev pub with_lines : BrokenLines → List ℕ → BrokenLines
with_lines broken lines = record broken { least = noted_all broken.least (map (line_of_text broken.start) lines) }
