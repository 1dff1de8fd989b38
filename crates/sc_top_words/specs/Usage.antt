-- What is printed where the words are no command.
use Rattle.std.specs.Prelude.{ℕ, List, [], ◌∷◌, ◌++◌, codes}

-- lines, each with its end
abbrev pub lines_text : List (List ℕ) → List ℕ
lines_text [] = []
lines_text (line ∷ lines) = line ++ (10 ∷ lines_text lines)

unfoldable pub usage_text : List ℕ
usage_text = lines_text (
    codes "secomp: usage" ∷
    codes "  secomp COMMAND [OPTION]... <INPUT     options as --name value or --name=value" ∷
    codes "  check     what the compartments of a text import and export" ∷
    codes "  meaning   what the text does by the meaning of its source" ∷
    codes "  compile   its machine image" ∷
    codes "  object    one section's part of that image" ∷
    codes "  link      the machine image of all sections' objects" ∷
    codes "  run       what the machine does on the image of a text" ∷
    codes "  explain   the same, and the sections to replace so that the source does it too" ∷
    codes "  judge     the same for a text after a policy, and what the policy says of it" ∷
    codes "  exec      what the machine does on an image" ∷
    codes "  tags      what a machine that protects by tags on bytes does on an image" ∷
    codes "  make      a program made from two numbers, with no input" ∷
    codes "options, each at most once; in parentheses what holds where one is not given" ∷
    codes "  --turns N    meaning: at most N turns, 0 to 16777216 (1000000)" ∷
    codes "  --steps N    run, exec, tags, explain, judge: N steps, 0 to 16777216 (1000000)" ∷
    codes "  --events M   with --turns or --steps: at most M events, 0 to 4096 (1024)" ∷
    codes "  --in LIST    likewise: 1 to 65536 signed 32-bit inputs (none), as --in=-5,3" ∷
    codes "  --data S,B,C tags: B bytes from address S on are compartment C's data (none)" ∷
    codes "  --show K     explain: only the text after K replacements, 0 to 32" ∷
    codes "  --image      explain, judge: run the image that stands before the text" ∷
    codes "  --trapped    explain, judge: also who stopped the machine, where a trap did" ∷
    codes "  --section C  object, needed: the name of the section" ∷
    codes "  --size K --seed N  make, both needed: 1 to 1000 functions; N up to 4294967295" ∷
    codes "  --summary    make: a summary of the program in place of its text" ∷
    [])
