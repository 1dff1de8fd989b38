-- Helping: reading calls and statements from left to right, where a statement's parts may be `room` high and `free`
-- brackets may be open.
use Rattle.sc_parse.specs.Common.{BinaryOp, CallTree, ExprTree, Keyword, Lexeme, Mark, SimpleKind, SimpleTree, StmtKind}
use Rattle.sc_parse.specs.Common.{StmtTree, TypeName, following, is_place, stmt_kind_of, loosest_level}
use Rattle.sc_parse.specs.Common.{name_at, read, unary_level, ◌>>=◌}
use Rattle.std.specs.Prelude.{ℕ, zero, suc, ◌+◌, ◌-◌, Bool, true, false, nat_le, nat_lt, List, [], ◌∷◌, length, drop}
use Rattle.std.specs.Prelude.{Option, Some, None, if◌then◌else◌}
use Rattle.std.specs.Option.{option_map_or}
use Rattle.sc_base.specs.declared.op.BinaryOp.TheVariants as binary
use Rattle.sc_ast.specs.declared.expr.ExprTree.{ExprTree-F, fold-ExprTree, out-ExprTree}
use Rattle.sc_ast.specs.declared.expr.ExprTree.TheOpen as term
use Rattle.sc_ast.specs.declared.stmt.SimpleKind.TheVariants as simple
use Rattle.sc_ast.specs.declared.stmt.StmtKind.TheVariants as stmt
use Rattle.sc_parse_expr.specs.declared.mark.Keyword.TheVariants as word
use Rattle.sc_parse_expr.specs.declared.mark.Mark.TheVariants as mark
pub use Rattle.sc_parse_expr.specs.Prefixes.{mark_at, mark_by}
use Rattle.sc_parse.specs.declared.simple.Change.{Change}
use Rattle.sc_parse.specs.declared.simple.Change.TheVariants as change
use Rattle.sc_parse.specs.declared.simple.Placed.{Placed}
use Rattle.sc_parse.specs.declared.stmts.ForHead.{ForHead}
use Rattle.sc_parse.specs.Lists.{first_line}
use Rattle.sc_parse.specs.Statements.{compound_of, step_of, one, updates}
use Rattle.sc_parse.specs.Lookahead.{Reader, keyword_at, is_else, begins_with, begins_call}
use Rattle.sc_parse.specs.Readers.{Adder, adds, all_separated, grouped}

-- an expression, at most `room` high
unfoldable pub expr_at : (free : ℕ) → ℕ → Reader ExprTree
expr_at free room ts = read free room loosest_level ts >>= (λ x. Some (x.tree, x.rest))

abbrev pub add_arg : (free : ℕ) → ℕ → Adder ExprTree
add_arg free room = adds (expr_at free room)

unfoldable pub args_at : (free : ℕ) → ℕ → Reader (List ExprTree)
args_at free room ts = if begins_with mark.CloseParen ts then Some ([], ts) else
    all_separated (add_arg free room) [] ts

abbrev pub call_tree : List ℕ → List ExprTree → CallTree
call_tree name args = record { name = name; args = args }

abbrev pub args_in_parens : (free : ℕ) → ℕ → Reader (List ExprTree)
args_in_parens free room ts = following mark.OpenParen ts >>=
    (λ us. args_at free room us >>= (λ x. following mark.CloseParen x.1 >>= (λ rest. Some (x.0, rest))))

unfoldable pub call_at : (free : ℕ) → ℕ → Reader CallTree
call_at free room ts = name_at ts >>= (λ x. args_in_parens free room x.1 >>= (λ y. Some (call_tree x.0 y.0, y.1)))

-- what a mark after a place does to it
abbrev pub change_of : Mark → Option Change
change_of mark.Equal = Some change.Set
change_of m = option_map_or (λ op. Some (change.By op)) (compound_of m)
    (option_map_or (λ op. Some (change.Step op)) (step_of m) None)

abbrev pub change_at : List Lexeme → Option Change
change_at ts = mark_at ts >>= change_of

-- the `++` or `--` at the start
abbrev pub step_at : List Lexeme → Option BinaryOp
step_at ts = mark_at ts >>= step_of

abbrev pub placed : ExprTree → ℕ → Placed
placed place height = record { place = place; height = height }

-- an operator that makes a value of what follows it, and no place
abbrev pub makes_value : Mark → Bool
makes_value mark.Minus = true
makes_value mark.Plus = true
makes_value mark.Not = true
makes_value mark.Tilde = true
makes_value mark.And = true
makes_value _ = false

-- the lexemes begin with such an operator, so with no place
abbrev pub begins_value : List Lexeme → Bool
begins_value ts = option_map_or makes_value (mark_at ts) false

abbrev pub unary_place : (free : ℕ) → ℕ → Reader Placed
unary_place free room ts = read free room unary_level ts >>=
    (λ x. if is_place x.tree then Some (placed x.tree x.height, x.rest) else None)

-- a place, with its height
unfoldable pub place_at : (free : ℕ) → ℕ → Reader Placed
place_at free room ts = if begins_value ts then None else unary_place free room ts

-- the type under a `sizeof`
abbrev pub sized_step : ExprTree-F (Option TypeName) → Option TypeName
sized_step (term.SizeOf of) = Some of
sized_step _ = None

abbrev pub sized_type : ExprTree → Option TypeName
sized_type = fold-ExprTree (Option TypeName) sized_step

-- the count and the type of an argument of `malloc` that is a product
abbrev pub product_by : BinaryOp → ExprTree → Option TypeName → Option (Option ExprTree × TypeName)
product_by binary.Mul count (Some of) = Some (Some count, of)
product_by _ count of = None

abbrev pub malloc_by : ExprTree-F ExprTree → Option (Option ExprTree × TypeName)
malloc_by (term.SizeOf of) = Some (None, of)
malloc_by (term.Binary op left right) = product_by op left (sized_type right)
malloc_by _ = None

-- the count, if there is one, and the type of an argument of `malloc`
abbrev pub malloc_of : ExprTree → Option (Option ExprTree × TypeName)
malloc_of argument = malloc_by (out-ExprTree argument)

abbrev pub is_malloc : Option Keyword → Bool
is_malloc (Some word.Malloc) = true
is_malloc _ = false

abbrev pub is_free : Option Keyword → Bool
is_free (Some word.Free) = true
is_free _ = false

unfoldable pub condition_at : (free : ℕ) → ℕ → Reader ExprTree
condition_at free room ts = following mark.OpenParen ts >>=
    (λ us. expr_at free room us >>= (λ x. following mark.CloseParen x.1 >>= (λ rest. Some (x.0, rest))))

-- what follows `malloc`, where the argument is one level higher than its count
unfoldable pub allocated_at : (free : ℕ) → ℕ → ExprTree → Reader SimpleKind
allocated_at free room place ts = condition_at free (room + 1) ts >>=
    (λ x. malloc_of x.0 >>= (λ y. Some (simple.Malloc place y.0 y.1, x.1)))

-- what follows `=`, where it is no `malloc`
abbrev pub value_assigned : (free : ℕ) → ℕ → ExprTree → Reader SimpleKind
value_assigned free room place ts =
    if begins_call ts then (call_at free room ts >>= (λ x. Some (simple.AssignCall place x.0, x.1))) else
    (expr_at free room ts >>= (λ x. Some (simple.Assign place x.0, x.1)))

-- what follows `=`
unfoldable pub assigned_at : (free : ℕ) → ℕ → ExprTree → Reader SimpleKind
assigned_at free room place ts = if is_malloc (keyword_at ts) then allocated_at free room place (drop 1 ts) else
    value_assigned free room place ts

-- what follows the operator of a compound assignment, where the tree that is made has one level more
unfoldable pub operand_at : (free : ℕ) → ℕ → BinaryOp → Placed → Reader SimpleKind
operand_at free room op x ts = if nat_lt x.height room then
    (expr_at free (room - 1) ts >>= (λ y. Some (updates op x.place y.0, y.1))) else None

unfoldable pub stepped : ℕ → BinaryOp → Placed → Reader SimpleKind
stepped room op x ts = if nat_lt x.height room then Some (updates op x.place one, ts) else None

abbrev pub changed : (free : ℕ) → ℕ → Option Change → Placed → Reader SimpleKind
changed free room None x ts = None
changed free room (Some change.Set) x ts = assigned_at free room x.place ts
changed free room (Some (change.By op)) x ts = operand_at free room op x ts
changed free room (Some (change.Step op)) x ts = stepped room op x ts

unfoldable pub assignment_at : (free : ℕ) → ℕ → Reader SimpleKind
assignment_at free room ts = place_at free room ts >>= (λ x. changed free room (change_at x.1) x.0 (drop 1 x.1))

unfoldable pub step_before : (free : ℕ) → ℕ → BinaryOp → Reader SimpleKind
step_before free room op ts = place_at free room ts >>= (λ x. stepped room op x.0 x.1)

abbrev pub call_statement : (free : ℕ) → ℕ → Reader SimpleKind
call_statement free room ts = call_at free room ts >>= (λ x. Some (simple.Call x.0, x.1))

abbrev pub free_statement : (free : ℕ) → ℕ → Reader SimpleKind
free_statement free room ts = condition_at free room ts >>= (λ x. Some (simple.Free x.0, x.1))

abbrev pub unfreed : (free : ℕ) → ℕ → Reader SimpleKind
unfreed free room ts = if begins_call ts then call_statement free room ts else assignment_at free room ts

abbrev pub unstepped : (free : ℕ) → ℕ → Reader SimpleKind
unstepped free room ts = if is_free (keyword_at ts) then free_statement free room (drop 1 ts) else
    unfreed free room ts

-- what may stand in the head of a `for`, where its parts may be `room` high
unfoldable pub simple_at : (free : ℕ) → ℕ → Reader SimpleKind
simple_at free room ts = option_map_or (λ op. step_before free room op (drop 1 ts)) (step_at ts)
    (unstepped free room ts)

abbrev pub simple_tree : ℕ → SimpleKind → SimpleTree
simple_tree line kind = record { line = line; kind = kind }

-- the first or the last part of a `for`, up to this mark
unfoldable pub part_at : (free : ℕ) → ℕ → Mark → Reader (Option SimpleTree)
part_at free room ends ts =
    if begins_with ends ts then Some (None, ts)
    else (if nat_le 1 room then (simple_at free (room - 1) ts >>=
    (λ x. Some (Some (simple_tree (first_line ts) x.0), x.1))) else None)

-- the literal 1
abbrev pub always : ℕ → Reader ExprTree
always room ts = if nat_le 1 room then Some (one, ts) else None

-- the condition of a `for`
unfoldable pub test_at : (free : ℕ) → ℕ → Reader ExprTree
test_at free room ts = if begins_with mark.Semicolon ts then always room ts else expr_at free room ts

abbrev pub value_returned : (free : ℕ) → ℕ → Reader StmtKind
value_returned free room ts =
    if begins_call ts then (call_at free room ts >>= (λ x. Some (stmt.ReturnCall x.0, x.1))) else
    (expr_at free room ts >>= (λ x. Some (stmt.ReturnValue x.0, x.1)))

-- what follows `return`, without the `;`
unfoldable pub returned : (free : ℕ) → ℕ → Reader StmtKind
returned free room ts = if begins_with mark.Semicolon ts then Some (stmt.Return, ts) else value_returned free room ts

abbrev pub simple_or_none : (free : ℕ) → ℕ → Reader StmtKind
simple_or_none free room ts = if begins_with mark.Semicolon ts then Some (stmt.Empty, ts) else
    (simple_at free room ts >>= (λ x. Some (stmt_kind_of x.0, x.1)))

-- a statement that is no `if` and no loop, without its `;`
unfoldable pub plain_at : (free : ℕ) → ℕ → Option Keyword → Reader StmtKind
plain_at free room (Some word.Break) ts = Some (stmt.Break, drop 1 ts)
plain_at free room (Some word.Continue) ts = Some (stmt.Continue, drop 1 ts)
plain_at free room (Some word.Return) ts = returned free room (drop 1 ts)
plain_at free room _ ts = simple_or_none free room ts

unfoldable pub ended_at : (free : ℕ) → ℕ → Reader StmtKind
ended_at free room ts = plain_at free room (keyword_at ts) ts >>=
    (λ x. following mark.Semicolon x.1 >>= (λ rest. Some (x.0, rest)))

abbrev pub before_mark : {A : Type 0} → Mark → Reader A → Reader A
before_mark m reader ts = reader ts >>= (λ x. following m x.1 >>= (λ rest. Some (x.0, rest)))

unfoldable pub first_part : (free : ℕ) → ℕ → Reader (Option SimpleTree)
first_part free room ts = following mark.OpenParen ts >>=
    (λ us. before_mark mark.Semicolon (part_at free room mark.Semicolon) us)

unfoldable pub middle_part : (free : ℕ) → ℕ → Reader ExprTree
middle_part free room ts = before_mark mark.Semicolon (test_at free room) ts

unfoldable pub last_part : (free : ℕ) → ℕ → Reader (Option SimpleTree)
last_part free room ts = before_mark mark.CloseParen (part_at free room mark.CloseParen) ts

abbrev pub for_parts : Option SimpleTree → ExprTree → Option SimpleTree → ForHead
for_parts first cond next = record { first = first; cond = cond; next = next }

-- what follows `for`, up to its body
unfoldable pub for_head : (free : ℕ) → ℕ → Reader ForHead
for_head free room ts =
    first_part free room ts >>= (λ w. middle_part free room w.1 >>=
    (λ x. last_part free room x.1 >>= (λ y. Some (for_parts w.0 x.0 y.0, y.1))))

abbrev pub loop_of : ForHead → List StmtTree → StmtKind
loop_of head body = stmt.For head.first head.cond head.next body

abbrev pub is_if : Option Keyword → Bool
is_if (Some word.If) = true
is_if _ = false

-- With a reader of the statements that stand inside, which may be as high as the other parts.
module _ (inner : Reader StmtTree) where
  abbrev pub stmts_at : Reader (List StmtTree)
  stmts_at ts = grouped (begins_with mark.CloseCurly) (adds inner) (length ts + 1) [] ts

  unfoldable pub block_at : Reader (List StmtTree)
  block_at ts = following mark.OpenCurly ts >>= (λ us. before_mark mark.CloseCurly stmts_at us)

  abbrev pub lone_if : Reader (List StmtTree)
  lone_if ts = inner ts >>= (λ x. Some (x.0 ∷ [], x.1))

  -- after `else`
  unfoldable pub after_else : Reader (List StmtTree)
  after_else ts = if is_if (keyword_at ts) then lone_if ts else block_at ts

  unfoldable pub else_at : Reader (List StmtTree)
  else_at ts = if is_else (keyword_at ts) then after_else (drop 1 ts) else Some ([], ts)

module _ (free : ℕ) (inner : Reader StmtTree) (room : ℕ) where
  -- after `if`
  unfoldable pub after_if : Reader StmtKind
  after_if ts = condition_at free room ts >>= (λ x. block_at inner x.1 >>=
      (λ y. else_at inner y.1 >>= (λ z. Some (stmt.If x.0 y.0 z.0, z.1))))

  -- after `while`
  unfoldable pub after_while : Reader StmtKind
  after_while ts = condition_at free room ts >>= (λ x. block_at inner x.1 >>= (λ y. Some (stmt.While x.0 y.0, y.1)))

  -- after `for`
  unfoldable pub after_for : Reader StmtKind
  after_for ts = for_head free room ts >>= (λ x. block_at inner x.1 >>= (λ y. Some (loop_of x.0 y.0, y.1)))

  abbrev pub kind_by : Option Keyword → Reader StmtKind
  kind_by (Some word.If) ts = after_if (drop 1 ts)
  kind_by (Some word.While) ts = after_while (drop 1 ts)
  kind_by (Some word.For) ts = after_for (drop 1 ts)
  kind_by _ ts = ended_at free room ts

abbrev pub stmt_tree : ℕ → StmtKind → StmtTree
stmt_tree line kind = record { line = line; kind = kind }

-- a statement, where its parts may be `room` high
unfoldable pub stmt_within : (free : ℕ) → Reader StmtTree → ℕ → Reader StmtTree
stmt_within free inner room ts = kind_by free inner room (keyword_at ts) ts >>=
    (λ x. Some (stmt_tree (first_line ts) x.0, x.1))

-- a statement, at most this high
unfoldable pub stmt_at : (free : ℕ) → ℕ → Reader StmtTree
stmt_at free zero ts = None
stmt_at free (suc room) ts = stmt_within free (stmt_at free room) room ts
