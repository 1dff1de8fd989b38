-- What one call of a function executes more than once: code of its loops, a round for each time.
use Rattle.sc_emit.specs.Common.{CodeTree, Instr, TacStmt, linked, ra}
use Rattle.sc_emit_hart.specs.Prelude.{CodeAt}
use Rattle.sc_emit_select.specs.Prelude.{Addresses, sp}
use Rattle.sc_image.specs.Prelude.{Goes, IsWellFormed, MachineState, Walks, reg, step}
use Rattle.std.specs.Prelude.{Bool, List, Some, [], false, length, slice_get, suc, true, ℕ, ◌&&◌, ◌*◌, ◌++◌, ◌+◌, ◌==◌}
use Rattle.std.specs.Prelude.{◌∷◌, ◌≡◌, ◌≤◌, ◌⊎◌}
use Rattle.rv_code.specs.declared.instr.Instr.TheVariants.{Ecall, Jal, Jalr}
use Rattle.sc_image.specs.declared.parts.ImageParts.{ImageParts}
use Rattle.sc_tac.specs.declared.function.TacFnTree.{TacFnTree}
use Rattle.sc_tac.specs.declared.stmt.TacStmt.TheVariants as tac
use Rattle.sc_emit.specs.Layout.{HaveCode}

-- a jump that links ra, or a call of the environment
abbrev pub makes_call : Instr → Bool
makes_call (Jal rd imm) = rd == ra
makes_call (Jalr rd rs1 imm) = rd == ra
makes_call Ecall = true
makes_call _ = false

-- the jump to ra that links nothing
abbrev pub ends_call : Instr → Bool
ends_call (Jalr rd rs1 imm) = rd == 0 && rs1 == ra
ends_call _ = false

-- a statement stands among these, or inside of one
pub data StandsIn (stmt : TacStmt) : List TacStmt → Type 0 where
  first : (rest : List TacStmt) → StandsIn stmt (stmt ∷ rest)
  later : (other : TacStmt) (rest : List TacStmt) → StandsIn stmt rest → StandsIn stmt (other ∷ rest)
  in_first : (cond : ℕ) (one two rest : List TacStmt) → StandsIn stmt one → StandsIn stmt (tac.If cond one two ∷ rest)
  in_second : (cond : ℕ) (one two rest : List TacStmt) → StandsIn stmt two → StandsIn stmt (tac.If cond one two ∷ rest)
  in_head : (head body next rest : List TacStmt) → StandsIn stmt head → StandsIn stmt (tac.Loop head body next ∷ rest)
  in_body : (head body next rest : List TacStmt) → StandsIn stmt body → StandsIn stmt (tac.Loop head body next ∷ rest)
  in_next : (head body next rest : List TacStmt) → StandsIn stmt next → StandsIn stmt (tac.Loop head body next ∷ rest)

-- the instructions number `begins` to `ends` are the code of a loop among these statements
pub record IsLoopCode (stmts : List TacStmt) (instrs : List Instr) (begins ends : ℕ) : Type 0 where
  pub head : List TacStmt
  pub body : List TacStmt
  pub next : List TacStmt
  pub stands : StandsIn (tac.Loop head body next) stmts
  pub before : List Instr
  pub own : List Instr
  pub following : List Instr
  pub parts : instrs ≡ before ++ (own ++ following)
  pub code : HaveCode (tac.Loop head body next ∷ []) own
  pub from : length before ≡ begins
  pub to : begins + length own ≡ suc ends

module _ (image : ImageParts) (inputs : List ℕ) (comp address : ℕ) (instrs : List Instr) where
  -- this instruction of a function's code is next
  pub record IsNext (number : ℕ) (instr : Instr) (s : MachineState) : Type 0 where
    pub active : s.active ≡ comp
    pub there : slice_get instrs number ≡ Some instr
    pub pc : s.pc ≡ address + 4 * number

  -- on from there in the same call of the function: by a step, or, where it makes a call itself, to where that returns
  pub data Moves (instr : Instr) (s t : MachineState) : Type 0 where
    steps : makes_call instr ≡ false → ends_call instr ≡ false → step image inputs s ≡ Goes t → Moves instr s t
    returns : makes_call instr ≡ true → (taken : ℕ) → Walks image inputs taken s t → t.pc ≡ s.pc + 4 →
        reg t sp ≡ reg s sp → t.cross ≡ s.cross → Moves instr s t

  -- the moments of one call, from one on to another
  pub data Moments : MachineState → MachineState → Type 0 where
    here : (s : MachineState) → Moments s s
    onward : (number : ℕ) (instr : Instr) (s next t : MachineState) → IsNext number instr s → Moves instr s next →
        Moments next t → Moments s t

  -- a loop around an address begins a further round: its last instruction leads back to its first, or to the one after
  -- that
  pub record BeginsRound (stmts : List TacStmt) (code : List Instr) (pc number : ℕ) (s t : MachineState) : Type 0 where
    pub begins : ℕ
    pub loop : IsLoopCode stmts code begins number
    pub last : s.pc ≡ address + 4 * number
    pub to : (t.pc ≡ address + 4 * begins) ⊎ (t.pc ≡ address + 4 * suc begins)
    pub around : (t.pc ≤ pc) × (pc ≤ s.pc)

  -- some loop does, on the way
  abbrev pub RoundBegins : List TacStmt → List Instr → (pc : ℕ) → {s t : MachineState} → Moments s t → Type 0
  RoundBegins stmts code pc (here s) = ⊥
  RoundBegins stmts code pc (onward number instr s next t is_next moves rest) =
      BeginsRound stmts code pc number s next ⊎ RoundBegins stmts code pc rest

-- wherever the linked code of a function stands, no call of it executes an instruction twice but that a loop around it
-- begins a further round in between
abbrev pub RepeatsByRounds : TacFnTree → CodeTree → Type 0
RepeatsByRounds f code =
    (image : ImageParts) (inputs : List ℕ) (comp address : ℕ) (addresses : Addresses) → IsWellFormed image →
    let instrs = linked addresses address code in
    CodeAt image comp address instrs → (number : ℕ) (instr : Instr) (s next t : MachineState)
    (is_next : IsNext image inputs comp address instrs number instr s)
    (moves : Moves image inputs comp address instrs instr s next)
    (rest : Moments image inputs comp address instrs next t) → t.pc ≡ s.pc →
    RoundBegins image inputs comp address instrs f.body code.instrs s.pc
    (onward number instr s next t is_next moves rest)
