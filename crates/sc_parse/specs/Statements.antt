-- How calls and statements are spelled (C11 6.5.2.2, 6.5.16, 6.8).
use Rattle.sc_parse.specs.Common.{BinaryOp, CallTree, ExprTree, IsIdent, IsMark, Lexeme, Mark, SimpleKind, SimpleTree}
use Rattle.sc_parse.specs.Common.{Spells, StmtKind, StmtTree, TypeName, is_place, malloc_argument, stmt_kind_of}
use Rattle.sc_parse.specs.Common.{loosest_level, unary_level}
use Rattle.std.specs.Prelude.{◌≡◌, ℕ, false, IsTrue, List, [], ◌∷◌, ◌++◌, Option, Some, None}
use Rattle.sc_ast.specs.declared.expr.ExprTree.TheVariants as expr
use Rattle.sc_base.specs.declared.op.BinaryOp.TheVariants as binary
use Rattle.sc_ast.specs.declared.stmt.SimpleKind.TheVariants as simple
use Rattle.sc_ast.specs.declared.stmt.StmtKind.TheVariants as stmt
use Rattle.sc_parse_expr.specs.declared.mark.Keyword.TheVariants as word
use Rattle.sc_parse_expr.specs.declared.mark.Mark.TheVariants as mark
use Rattle.sc_parse.specs.Lists.{IsKeyword, Separated, first_line}

-- Arguments, or none.
pub data SpellsArgs : List Lexeme → List ExprTree → Type 0 where
  no_args : SpellsArgs [] []
  some_args : {ts : List Lexeme} {args : List ExprTree} → Separated (Spells loosest_level) ts args → SpellsArgs ts args

pub data SpellsCall : List Lexeme → CallTree → Type 0 where
  call : {ts : List Lexeme} {args : List ExprTree} (t u v : Lexeme) (name : List ℕ) → IsIdent name t →
      IsMark mark.OpenParen u → IsMark mark.CloseParen v → SpellsArgs ts args →
      SpellsCall (t ∷ u ∷ (ts ++ v ∷ [])) (record { name = name; args = args })

-- An expression in its parentheses, as a condition is and what `malloc` and `free` are given.
pub data SpellsCondition : List Lexeme → ExprTree → Type 0 where
  condition : {ts : List Lexeme} {cond : ExprTree} (t u : Lexeme) → IsMark mark.OpenParen t → IsMark mark.CloseParen u →
      Spells loosest_level ts cond → SpellsCondition (t ∷ (ts ++ u ∷ [])) cond

-- a place is a unary expression that names one
abbrev pub SpellsPlace : List Lexeme → ExprTree → Type 0
SpellsPlace ts place = Spells unary_level ts place × IsTrue (is_place place)

-- the operator of a compound assignment
abbrev pub compound_of : Mark → Option BinaryOp
compound_of mark.PlusEqual = Some binary.Add
compound_of mark.MinusEqual = Some binary.Sub
compound_of mark.StarEqual = Some binary.Mul
compound_of mark.SlashEqual = Some binary.Div
compound_of mark.PercentEqual = Some binary.Rem
compound_of mark.LessLessEqual = Some binary.ShiftLeft
compound_of mark.GreaterGreaterEqual = Some binary.ShiftRight
compound_of mark.AndEqual = Some binary.BitAnd
compound_of mark.CaretEqual = Some binary.BitXor
compound_of mark.OrEqual = Some binary.BitOr
compound_of _ = None

-- the operator of `++` and of `--`
abbrev pub step_of : Mark → Option BinaryOp
step_of mark.PlusPlus = Some binary.Add
step_of mark.MinusMinus = Some binary.Sub
step_of _ = None

-- the literal 1
abbrev pub one : ExprTree
one = expr.Literal (record { value = 1; unsigned = false })

-- the assignment to a place of what an operator makes of it and of an operand
abbrev pub updates : BinaryOp → ExprTree → ExprTree → SimpleKind
updates op place operand = simple.Assign place (expr.Binary op place operand)

-- What may stand in the head of a `for`. A compound assignment, `++` and `--` stand for what they do.
pub data SpellsKind : List Lexeme → SimpleKind → Type 0 where
  assign : {ts us : List Lexeme} {place value : ExprTree} (t : Lexeme) → IsMark mark.Equal t → SpellsPlace ts place →
      Spells loosest_level us value → SpellsKind (ts ++ t ∷ us) (simple.Assign place value)
  assign_call : {ts us : List Lexeme} {place : ExprTree} {call : CallTree} (t : Lexeme) → IsMark mark.Equal t →
      SpellsPlace ts place → SpellsCall us call → SpellsKind (ts ++ t ∷ us) (simple.AssignCall place call)
  compound : {ts us : List Lexeme} {place operand : ExprTree} (t : Lexeme) (m : Mark) (op : BinaryOp) → IsMark m t →
      compound_of m ≡ Some op → SpellsPlace ts place → Spells loosest_level us operand →
      SpellsKind (ts ++ t ∷ us) (updates op place operand)
  call : {ts : List Lexeme} {call : CallTree} → SpellsCall ts call → SpellsKind ts (simple.Call call)
  step_after : {ts : List Lexeme} {place : ExprTree} (t : Lexeme) (m : Mark) (op : BinaryOp) → IsMark m t →
      step_of m ≡ Some op → SpellsPlace ts place → SpellsKind (ts ++ t ∷ []) (updates op place one)
  step_before : {ts : List Lexeme} {place : ExprTree} (t : Lexeme) (m : Mark) (op : BinaryOp) → IsMark m t →
      step_of m ≡ Some op → SpellsPlace ts place → SpellsKind (t ∷ ts) (updates op place one)
  allocate : {ts us : List Lexeme} {place : ExprTree} {count : Option ExprTree} {of : TypeName} (t u : Lexeme) →
      IsMark mark.Equal t → IsKeyword word.Malloc u → SpellsPlace ts place →
      SpellsCondition us (malloc_argument count of) → SpellsKind (ts ++ t ∷ u ∷ us) (simple.Malloc place count of)
  release : {ts : List Lexeme} {pointer : ExprTree} (t : Lexeme) → IsKeyword word.Free t → SpellsCondition ts pointer →
      SpellsKind (t ∷ ts) (simple.Free pointer)

-- the line of a statement is that of its first lexeme
abbrev pub SpellsSimple : List Lexeme → SimpleTree → Type 0
SpellsSimple ts tree = SpellsKind ts tree.kind × (tree.line ≡ first_line ts)

-- The first or the last part of a `for`, which may be absent.
pub data SpellsPart : List Lexeme → Option SimpleTree → Type 0 where
  no_part : SpellsPart [] None
  a_part : {ts : List Lexeme} {tree : SimpleTree} → SpellsSimple ts tree → SpellsPart ts (Some tree)

-- The condition of a `for`; an absent one is the literal 1.
pub data SpellsTest : List Lexeme → ExprTree → Type 0 where
  no_test : SpellsTest [] one
  a_test : {ts : List Lexeme} {cond : ExprTree} → Spells loosest_level ts cond → SpellsTest ts cond

mutual
  pub data SpellsStmtKind : List Lexeme → StmtKind → Type 0 where
    empty : (t : Lexeme) → IsMark mark.Semicolon t → SpellsStmtKind (t ∷ []) stmt.Empty
    plain : {ts : List Lexeme} {kind : SimpleKind} (t : Lexeme) → IsMark mark.Semicolon t → SpellsKind ts kind →
        SpellsStmtKind (ts ++ t ∷ []) (stmt_kind_of kind)
    «break» : (t u : Lexeme) → IsKeyword word.Break t → IsMark mark.Semicolon u → SpellsStmtKind (t ∷ u ∷ []) stmt.Break
    «continue» : (t u : Lexeme) → IsKeyword word.Continue t → IsMark mark.Semicolon u →
        SpellsStmtKind (t ∷ u ∷ []) stmt.Continue
    return_nothing : (t u : Lexeme) → IsKeyword word.Return t → IsMark mark.Semicolon u →
        SpellsStmtKind (t ∷ u ∷ []) stmt.Return
    return_value : {ts : List Lexeme} {value : ExprTree} (t u : Lexeme) → IsKeyword word.Return t →
        IsMark mark.Semicolon u → Spells loosest_level ts value →
        SpellsStmtKind (t ∷ (ts ++ u ∷ [])) (stmt.ReturnValue value)
    return_call : {ts : List Lexeme} {call : CallTree} (t u : Lexeme) → IsKeyword word.Return t →
        IsMark mark.Semicolon u → SpellsCall ts call → SpellsStmtKind (t ∷ (ts ++ u ∷ [])) (stmt.ReturnCall call)
    choice : {ts : List Lexeme} {kind : StmtKind} → SpellsIf ts kind → SpellsStmtKind ts kind
    while_loop : {ts us : List Lexeme} {cond : ExprTree} {body : List StmtTree} (t : Lexeme) → IsKeyword word.While t →
        SpellsCondition ts cond → SpellsBlock us body → SpellsStmtKind (t ∷ (ts ++ us)) (stmt.While cond body)
    for_loop : {ts us vs ws : List Lexeme} {first next : Option SimpleTree} {cond : ExprTree} {body : List StmtTree}
        (t u v w x : Lexeme) → IsKeyword word.For t → IsMark mark.OpenParen u → IsMark mark.Semicolon v →
        IsMark mark.Semicolon w → IsMark mark.CloseParen x → SpellsPart ts first → SpellsTest us cond →
        SpellsPart vs next → SpellsBlock ws body → SpellsStmtKind (t ∷ u ∷ (ts ++ v ∷ (us ++ w ∷ (vs ++ x ∷ ws))))
        (stmt.For first cond next body)

  -- An `if`; one after `else` is a list of one statement.
  pub data SpellsIf : List Lexeme → StmtKind → Type 0 where
    lone_if : {ts us : List Lexeme} {cond : ExprTree} {then_part : List StmtTree} (t : Lexeme) → IsKeyword word.If t →
        SpellsCondition ts cond → SpellsBlock us then_part → SpellsIf (t ∷ (ts ++ us)) (stmt.If cond then_part [])
    otherwise : {ts us vs : List Lexeme} {cond : ExprTree} {then_part else_part : List StmtTree} (t u : Lexeme) →
        IsKeyword word.If t → IsKeyword word.Else u → SpellsCondition ts cond → SpellsBlock us then_part →
        SpellsBlock vs else_part → SpellsIf (t ∷ (ts ++ (us ++ u ∷ vs))) (stmt.If cond then_part else_part)
    otherwise_if : {ts us vs : List Lexeme} {cond : ExprTree} {then_part : List StmtTree} {kind : StmtKind}
        (t u : Lexeme) → IsKeyword word.If t → IsKeyword word.Else u → SpellsCondition ts cond →
        SpellsBlock us then_part → SpellsIf vs kind →
        SpellsIf (t ∷ (ts ++ (us ++ u ∷ vs))) (stmt.If cond then_part
        (record { line = first_line vs; kind = kind } ∷ []))

  pub data SpellsBlock : List Lexeme → List StmtTree → Type 0 where
    block : {ts : List Lexeme} {stmts : List StmtTree} (t u : Lexeme) → IsMark mark.OpenCurly t →
        IsMark mark.CloseCurly u → SpellsStmts ts stmts → SpellsBlock (t ∷ (ts ++ u ∷ [])) stmts

  -- Statements, one after another, each at the line of its first lexeme.
  pub data SpellsStmts : List Lexeme → List StmtTree → Type 0 where
    none : SpellsStmts [] []
    next : {ts us : List Lexeme} {kind : StmtKind} {stmts : List StmtTree} → SpellsStmtKind ts kind →
        SpellsStmts us stmts → SpellsStmts (ts ++ us) (record { line = first_line ts; kind = kind } ∷ stmts)
