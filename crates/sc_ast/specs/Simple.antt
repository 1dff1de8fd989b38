-- The statements in the head of a `for` as statements.
use Rattle.sc_ast.specs.declared.stmt.SimpleKind.{SimpleKind}
use Rattle.sc_ast.specs.declared.stmt.SimpleKind.TheVariants.{Assign, AssignCall, Call, Malloc, Free}
use Rattle.sc_ast.specs.declared.stmt.StmtKind.{StmtKind}
use Rattle.sc_ast.specs.declared.stmt.StmtKind.TheVariants as kind

abbrev pub stmt_kind_of : SimpleKind → StmtKind
stmt_kind_of (Assign place value) = kind.Assign place value
stmt_kind_of (AssignCall place call) = kind.AssignCall place call
stmt_kind_of (Call call) = kind.Call call
stmt_kind_of (Malloc place count of) = kind.Malloc place count of
stmt_kind_of (Free pointer) = kind.Free pointer
