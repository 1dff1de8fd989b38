-- Helping: the lines of made texts, by what is drawn for them.
use Rattle.std.specs.Prelude.{◌≡◌, ℕ, suc, ◌*◌, List, ◌++◌, codes, decimal}
use Rattle.sc_report.specs.Made.{addend, argument, function_name, state_after}
use Rattle.sc_report.specs.declared.make.Drawn.{Drawn}

-- a call with this argument
abbrev pub call_with : (j argument : ℕ) → List ℕ
call_with j argument =
    codes "  r = " ++ (function_name j ++ (codes "(" ++ (decimal argument ++ codes ");\n  output(r);\n")))

abbrev pub rounds_text : List ℕ
rounds_text =
    codes ";\n  for (i = 0; i < 64; i++) {\n    t[i & 15] = x + i;\n    s = s + t[i & 15];\n  }\n  return s;\n}\n"

-- a function that adds to this number
abbrev pub function_with : (j addend : ℕ) → List ℕ
function_with j addend =
    codes "int " ++ (function_name j ++ (codes "(int x) {\n  int i;\n  int s;\n  s = " ++
    (decimal addend ++ rounds_text)))

-- the state after the draws for `j` functions
abbrev pub state_at : (seed j : ℕ) → ℕ
state_at seed j = state_after seed (2 * j)

-- where the draws for `j` functions were made before, this is drawn for the next
pub record IsDrawn (seed j : ℕ) (drawn : Drawn) (after : ℕ) : Type 0 where
  pub argument : drawn.argument ≡ argument seed j
  pub addend : drawn.addend ≡ addend seed j
  pub state : after ≡ state_at seed (suc j)
