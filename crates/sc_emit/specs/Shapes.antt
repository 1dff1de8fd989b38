-- What the code of a function consists of: its branches, how it is left, that no instruction is EBREAK, and what
-- statements name.
use Rattle.sc_emit.specs.Common.{CodeTree, Instr, TacStmt, TacStmt-F, fold-TacStmt, parts, ra, total}
use Rattle.std.specs.Prelude.{Bool, List, None, Option, Some, false, if◌then◌else◌, int_le, map, not, pos, suc, true, ℕ}
use Rattle.std.specs.Prelude.{ℤ, ◌&&◌, ◌+◌, ◌==◌, ◌||◌}
use Rattle.std.specs.List.{count_by, list_all}
use Rattle.rv_code.specs.declared.instr.Instr.TheVariants.{Branch, Ebreak, Jal, Jalr}
use Rattle.sc_tac.specs.declared.stmt.TacStmt.TheOpen as tac

abbrev pub is_branch : Instr → Bool
is_branch (Branch op rs1 rs2 imm) = true
is_branch _ = false

abbrev pub is_ebreak : Instr → Bool
is_ebreak Ebreak = true
is_ebreak _ = false

abbrev pub code_branches : CodeTree → ℕ
code_branches code = count_by {X = Instr} is_branch code.instrs

abbrev pub has_no_ebreak : CodeTree → Bool
has_no_ebreak code = list_all {X = Instr} (λ instr. not (is_ebreak instr)) code.instrs

-- how far a jump or a branch leads within its function. A JAL that links is a call
abbrev pub distance : Instr → Option ℤ
distance (Jal rd imm) = if rd == 0 then Some imm else None
distance (Branch op rs1 rs2 imm) = Some imm
distance _ = None

abbrev pub is_backward : Option ℤ → Bool
is_backward None = false
is_backward (Some imm) = int_le imm (pos 0)

-- a back edge: to itself, or to an instruction before it
abbrev pub leads_back : Instr → Bool
leads_back instr = is_backward (distance instr)

abbrev pub code_back_edges : CodeTree → ℕ
code_back_edges code = count_by {X = Instr} leads_back code.instrs

-- a jump that stays in its function, a call, which links ra, or the jump to ra by which a call ends
abbrev pub is_known_jump : Instr → Bool
is_known_jump (Jal rd imm) = rd == 0 || rd == ra
is_known_jump (Jalr rd rs1 imm) = rd == ra || (rd == 0 && rs1 == ra)
is_known_jump _ = true

abbrev pub has_known_jumps : CodeTree → Bool
has_known_jumps code = list_all {X = Instr} is_known_jump code.instrs

-- how many `Loop`s stand in a statement, from those of the statements inside
abbrev pub loop_step : TacStmt-F ℕ → ℕ
loop_step (tac.Loop head body next) = suc (total head + (total body + total next))
loop_step stmt = total (map total (parts stmt))

abbrev pub stmt_loops : TacStmt → ℕ
stmt_loops = fold-TacStmt ℕ loop_step

-- in statements in order
abbrev pub loops : List TacStmt → ℕ
loops stmts = total (map stmt_loops stmts)

-- functions of the section, entries of other compartments and globals, each by a test
module _ (function : ℕ → Bool) (entry : (comp index : ℕ) → Bool) (global : ℕ → Bool) where
  -- a statement names no other
  abbrev pub names_only : TacStmt-F Bool → Bool
  names_only (tac.CallOwn dest number args) = function number
  names_only (tac.CallCross dest comp index args) = entry comp index
  names_only (tac.GlobalPlace dest number) = global number
  names_only _ = true
