-- Where the instructions of statements lie in the code of a function. A statement's own are those that belong to no
-- statement inside of it.
use Rattle.sc_emit.specs.Common.{Instr, TacStmt}
use Rattle.std.specs.Prelude.{Bool, IsTrue, List, Some, [], length, neg_ℤ, not, pos, suc, ℕ, ◌*◌, ◌++◌, ◌∷◌, ◌≡◌, ◌⊎◌}
use Rattle.std.specs.List.{list_all}
use Rattle.sc_tac.specs.declared.stmt.TacStmt.TheVariants as tac
use Rattle.sc_emit.specs.Shapes.{distance, leads_back, stmt_loops}

abbrev pub leads_on : Instr → Bool
leads_on instr = not (leads_back instr)

-- none leads back
abbrev pub LeadOn : List Instr → Type 0
LeadOn instrs = IsTrue (list_all {X = Instr} leads_on instrs)

-- a jump or a branch leads back over `count` instructions
abbrev pub LeadsOver : ℕ → Instr → Type 0
LeadsOver count instr = distance instr ≡ Some (neg_ℤ (pos (4 * count)))

-- how the code of a loop goes around those of its head, its body and its next part
pub record GoesAround (head body next inside : List Instr) (first last : Instr) : Type 0 where
  -- the head stands before the body, or at the end
  pub order : (inside ≡ head ++ (body ++ next)) ⊎ (inside ≡ body ++ (next ++ head))
  pub on : IsTrue (leads_on first)
  -- the last leads back to the first, or to the one after it
  pub back : LeadsOver (suc (length inside)) last ⊎ LeadsOver (length inside) last

-- statements in order have these instructions
pub data HaveCode : List TacStmt → List Instr → Type 0 where
  empty : HaveCode [] []
  -- a statement without loops leads on
  loopless : {rest : List TacStmt} {more : List Instr} (stmt : TacStmt) (own : List Instr) → stmt_loops stmt ≡ 0 →
      LeadOn own → HaveCode rest more → HaveCode (stmt ∷ rest) (own ++ more)
  -- an `If` has its own before each of its parts
  branching : {first second rest : List TacStmt} {one two more : List Instr} (cond : ℕ) (test over : List Instr) →
      LeadOn test → LeadOn over → HaveCode first one → HaveCode second two → HaveCode rest more →
      HaveCode (tac.If cond first second ∷ rest) (test ++ (one ++ (over ++ (two ++ more))))
  -- a loop begins with one of its own, before its body, and ends with one, by which each further round begins
  repeating : {head body next rest : List TacStmt} {at_head at_body at_next more : List Instr} (inside : List Instr)
      (first last : Instr) → GoesAround at_head at_body at_next inside first last → HaveCode head at_head →
      HaveCode body at_body → HaveCode next at_next → HaveCode rest more →
      HaveCode (tac.Loop head body next ∷ rest) (first ∷ (inside ++ (last ∷ more)))

-- the code of a function: the prologue, its statements, and its closing brace
pub record HasRounds (stmts : List TacStmt) (instrs : List Instr) : Type 0 where
  pub before : List Instr
  pub inside : List Instr
  pub following : List Instr
  pub parts : instrs ≡ before ++ (inside ++ following)
  pub in_on : LeadOn before
  pub out_on : LeadOn following
  pub statements : HaveCode stmts inside
