-- The text of a program that is made from a size and a seed: `Main` calls `size` functions, which stand in at most 31
-- other compartments, each with a number that is drawn, and writes what they give.
use Rattle.std.specs.Prelude.{ℕ, zero, suc, ◌+◌, ◌*◌, ◌/◌, ◌%◌, ◌^◌, min, nat_eq, codes, List, [], ◌∷◌, ◌++◌, filter}
use Rattle.std.specs.Prelude.{flat_map}
use Rattle.std.specs.Fmt.{decimal}

-- `count` numbers, from the first on
abbrev pub numbers_from : (first count : ℕ) → List ℕ
numbers_from first zero = []
numbers_from first (suc count) = first ∷ numbers_from (suc first) count

-- Draws of a linear congruential generator modulo 2^32.

abbrev pub next_state : ℕ → ℕ
next_state state = (state * 1664525 + 1013904223) % 2 ^ 32

abbrev pub state_after : (seed draws : ℕ) → ℕ
state_after seed zero = seed
state_after seed (suc draws) = next_state (state_after seed draws)

-- the draw of this number, from 0: the upper 16 bits of the state after it
abbrev pub drawn : (seed number : ℕ) → ℕ
drawn seed number = state_after seed (suc number) / 65536

-- what function j is called with, and what it adds to
abbrev pub argument : (seed j : ℕ) → ℕ
argument seed j = drawn seed (2 * j)

abbrev pub addend : (seed j : ℕ) → ℕ
addend seed j = drawn seed (suc (2 * j))

-- Which functions there are, and where they stand.

abbrev pub all_functions : (size : ℕ) → List ℕ
all_functions size = numbers_from 0 size

abbrev pub workers : (size : ℕ) → ℕ
workers size = min size 31

-- the functions of worker i
abbrev pub worker_functions : (size i : ℕ) → List ℕ
worker_functions size i = filter (λ j. nat_eq (j % workers size) i) (all_functions size)

abbrev pub function_name : (j : ℕ) → List ℕ
function_name j = codes "f" ++ decimal j

abbrev pub worker_name : (i : ℕ) → List ℕ
worker_name i = codes "W" ++ decimal i

-- The section of `Main`.

abbrev pub made_import : (size j : ℕ) → List ℕ
made_import size j =
    codes "#pragma import " ++ (worker_name (j % workers size) ++ (codes " " ++ (function_name j ++ codes "\n")))

abbrev pub made_proto : (j : ℕ) → List ℕ
made_proto j = codes "int " ++ (function_name j ++ codes "(int x);\n")

-- what a function gives is written
abbrev pub made_call : (seed j : ℕ) → List ℕ
made_call seed j =
    codes "  r = " ++ (function_name j ++ (codes "(" ++ (decimal (argument seed j) ++ codes ");\n  output(r);\n")))

abbrev pub made_main : (size seed : ℕ) → List ℕ
made_main size seed =
    codes "#pragma compartment Main\n" ++ (flat_map (made_import size) (all_functions size) ++
    (codes "#pragma import Env output\n" ++ (flat_map made_proto (all_functions size) ++
    (codes "void output(int v);\nint main(void) {\n  int r;\n" ++ (flat_map (made_call seed) (all_functions size) ++
    codes "  return 0;\n}\n")))))

-- The sections of the workers.

abbrev pub made_export : (j : ℕ) → List ℕ
made_export j = codes "#pragma export " ++ (function_name j ++ codes "\n")

-- a loop of 64 rounds over an array of 16 elements
abbrev pub made_function : (seed j : ℕ) → List ℕ
made_function seed j =
    codes "int " ++ (function_name j ++ (codes "(int x) {\n  int i;\n  int s;\n  s = " ++ (decimal (addend seed j) ++
    codes ";\n  for (i = 0; i < 64; i++) {\n    t[i & 15] = x + i;\n    s = s + t[i & 15];\n  }\n  return s;\n}\n")))

abbrev pub worker_text : (size seed i : ℕ) → List ℕ
worker_text size seed i =
    codes "#pragma compartment " ++ (worker_name i ++ (codes "\n" ++
    (flat_map made_export (worker_functions size i) ++ (codes "int t[16];\n" ++
    flat_map (made_function seed) (worker_functions size i)))))

-- the whole text
abbrev pub made_text : (size seed : ℕ) → List ℕ
made_text size seed = made_main size seed ++ flat_map (worker_text size seed) (numbers_from 0 (workers size))
