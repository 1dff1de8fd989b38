-- How statements are printed: one a line, and what stands in braces one level deeper.
use Rattle.std.specs.Prelude.{ℕ, Bool, true, false, ◌&&◌, ◌==◌, codes, List, [], ◌∷◌, ◌++◌, length, map, Option, Some}
use Rattle.std.specs.Prelude.{None, if◌then◌else◌}
use Rattle.std.specs.List.{flat_map, list_all}
use Rattle.sc_ast.specs.Allocated.{malloc_argument}
use Rattle.sc_ast.specs.Pieces.{Piece, word, blank, indent, newline, deeper, line_of}
use Rattle.sc_ast.specs.ExprWords.{expr_words, place_words, call_words}
use Rattle.sc_ast.specs.declared.expr.ExprTree.{ExprTree}
use Rattle.sc_ast.specs.declared.expr.CallTree.{CallTree}
use Rattle.sc_ast.specs.declared.types.TypeName.{TypeName}
use Rattle.sc_ast.specs.declared.stmt.SimpleKind.{SimpleKind}
use Rattle.sc_ast.specs.declared.stmt.SimpleKind.TheVariants.{Assign, AssignCall, Call, Malloc, Free}
use Rattle.sc_ast.specs.declared.stmt.SimpleTree.{SimpleTree}
use Rattle.sc_ast.specs.declared.stmt.StmtTree.{StmtTree, StmtTree-F, fold-StmtTree}
use Rattle.sc_ast.specs.declared.stmt.StmtKind.{StmtKind, StmtKind-F, fold-StmtKind}
use Rattle.sc_ast.specs.declared.stmt.StmtKind.TheOpen as layer

-- ` = ` before what is assigned
abbrev pub equals : List Piece
equals = blank ∷ word (codes "=") ∷ blank ∷ []

-- `x = e`
abbrev pub assign_words : ExprTree → ExprTree → List Piece
assign_words place value = place_words place ++ (equals ++ expr_words value)

-- `x = f(e)`
abbrev pub assign_call_words : ExprTree → CallTree → List Piece
assign_call_words place call = place_words place ++ (equals ++ call_words call)

-- `malloc(e * sizeof(int))`
abbrev pub allocation_words : Option ExprTree → TypeName → List Piece
allocation_words count of = word (codes "malloc") ∷ word (codes "(") ∷
    (expr_words (malloc_argument count of) ++ word (codes ")") ∷ [])

-- `x = malloc(e * sizeof(int))`
abbrev pub malloc_words : ExprTree → Option ExprTree → TypeName → List Piece
malloc_words place count of = place_words place ++ (equals ++ allocation_words count of)

-- `free(e)`
abbrev pub free_words : ExprTree → List Piece
free_words pointer = word (codes "free") ∷ word (codes "(") ∷ (expr_words pointer ++ word (codes ")") ∷ [])

abbrev pub simple_words : SimpleKind → List Piece
simple_words (Assign place value) = assign_words place value
simple_words (AssignCall place call) = assign_call_words place call
simple_words (Call call) = call_words call
simple_words (Malloc place count of) = malloc_words place count of
simple_words (Free pointer) = free_words pointer

-- `;` at the end
abbrev pub ended : List Piece → List Piece
ended pieces = pieces ++ word (codes ";") ∷ []

-- `if (e) ` or `while (e) `
abbrev pub condition_words : List ℕ → ExprTree → List Piece
condition_words keyword cond = word keyword ∷ blank ∷
    word (codes "(") ∷ (expr_words cond ++ word (codes ")") ∷ blank ∷ [])

abbrev pub first_words : Option SimpleTree → List Piece
first_words None = []
first_words (Some simple) = simple_words simple.kind

abbrev pub next_words : Option SimpleTree → List Piece
next_words None = []
next_words (Some simple) = blank ∷ simple_words simple.kind

-- `for (x = e; e; x = e) `
abbrev pub for_words : Option SimpleTree → ExprTree → Option SimpleTree → List Piece
for_words first cond next =
    word (codes "for") ∷ blank ∷ word (codes "(") ∷ (first_words first ++ word (codes ";") ∷ blank ∷
    (expr_words cond ++ word (codes ";") ∷ (next_words next ++ word (codes ")") ∷ blank ∷ [])))

-- `return` and what follows it
abbrev pub return_words : List Piece → List Piece
return_words value = ended (word (codes "return") ∷ blank ∷ value)

-- What is printed of a statement: its words where it begins at a level, and whether it is an `if`.
pub record Layout : Type 0 where
  pub is_if : Bool
  pub words : ℕ → List Piece

abbrev pub same_everywhere : List Piece → Layout
same_everywhere pieces = record { is_if = false; words = λ depth. pieces }

-- statements, each on a line of its own
abbrev pub lines_at : ℕ → List Layout → List Piece
lines_at depth stmts = flat_map (λ stmt. line_of depth (stmt.words depth)) stmts

abbrev pub block_words : ℕ → List Layout → List Piece
block_words depth stmts = word (codes "{") ∷ newline ∷
    (lines_at (deeper depth) stmts ++ indent depth ∷ word (codes "}") ∷ [])

-- the statements are a single `if`, which follows its `else` without braces
abbrev pub is_chain : List Layout → Bool
is_chain stmts = length stmts == 1 && list_all (λ stmt. stmt.is_if) stmts

abbrev pub chain_words : ℕ → List Layout → List Piece
chain_words depth stmts = flat_map (λ stmt. stmt.words depth) stmts

-- what follows an `else`
abbrev pub after_else : ℕ → List Layout → List Piece
after_else depth stmts = if is_chain stmts then chain_words depth stmts else block_words depth stmts

abbrev pub else_words : ℕ → List Layout → List Piece
else_words depth stmts = if length stmts == 0 then [] else
    (blank ∷ word (codes "else") ∷ blank ∷ after_else depth stmts)

abbrev pub if_words : ExprTree → List Layout → List Layout → ℕ → List Piece
if_words cond then_part else_part depth = condition_words (codes "if") cond ++
    (block_words depth then_part ++ else_words depth else_part)

-- what is printed of a statement, by what is printed of those inside
abbrev pub kind_step : StmtKind-F Layout Layout → Layout
kind_step layer.Empty = same_everywhere (word (codes ";") ∷ [])
kind_step (layer.Assign place value) = same_everywhere (ended (assign_words place value))
kind_step (layer.AssignCall place call) = same_everywhere (ended (assign_call_words place call))
kind_step (layer.Call call) = same_everywhere (ended (call_words call))
kind_step (layer.Malloc place count of) = same_everywhere (ended (malloc_words place count of))
kind_step (layer.Free pointer) = same_everywhere (ended (free_words pointer))
kind_step (layer.If cond then_part else_part) = record { is_if = true; words = if_words cond then_part else_part }
kind_step (layer.While cond body) = record {
  is_if = false;
  words = λ depth. condition_words (codes "while") cond ++ block_words depth body;
}
kind_step (layer.For first cond next body) = record {
  is_if = false;
  words = λ depth. for_words first cond next ++ block_words depth body;
}
kind_step layer.Break = same_everywhere (ended (word (codes "break") ∷ []))
kind_step layer.Continue = same_everywhere (ended (word (codes "continue") ∷ []))
kind_step layer.Return = same_everywhere (ended (word (codes "return") ∷ []))
kind_step (layer.ReturnValue value) = same_everywhere (return_words (expr_words value))
kind_step (layer.ReturnCall call) = same_everywhere (return_words (call_words call))

abbrev pub stmt_step : StmtTree-F Layout Layout → Layout
stmt_step stmt = stmt.kind

abbrev pub stmt_layout : StmtTree → Layout
stmt_layout = fold-StmtTree Layout Layout kind_step stmt_step

abbrev pub kind_layout : StmtKind → Layout
kind_layout = fold-StmtKind Layout Layout kind_step stmt_step

abbrev pub layouts : List StmtTree → List Layout
layouts stmts = map stmt_layout stmts
