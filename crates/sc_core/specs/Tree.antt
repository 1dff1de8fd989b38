-- What expressions give and what statements do, as folds of the typed trees (C11 6.5, 6.8).
use Rattle.sc_core.specs.Common.{BinaryOp}
use Rattle.std.specs.Prelude.{ℕ, pos, ◌+◌, Bool, ◌||◌, if◌then◌else◌, List, [], ◌∷◌, map, Option, None}
use Rattle.std.specs.Prelude.{Some}
use Rattle.std.specs.Prelude.{Result, Ok}
use Rattle.sc_core.specs.declared.cause.Cause.{Cause}
use Rattle.sc_base.specs.declared.op.BinaryOp.TheVariants as op
use Rattle.sc_core.specs.declared.ty.Ty.{Ty}
use Rattle.sc_core.specs.declared.expr.TypedExpr.{TypedExpr, TypedExpr-F, fold-TypedExpr}
use Rattle.sc_core.specs.declared.expr.TypedKind.{TypedKind-F}
use Rattle.sc_core.specs.declared.expr.TypedKind.TheOpen as term
use Rattle.sc_core.specs.declared.expr.VarRef.{VarRef}
use Rattle.sc_core.specs.declared.expr.VarRef.TheVariants.{Global, Param, Local}
use Rattle.sc_core.specs.declared.expr.CallTarget.{CallTarget}
use Rattle.sc_core.specs.declared.stmt.TypedStmt.{TypedStmt, TypedStmt-F, fold-TypedStmt}
use Rattle.sc_core.specs.declared.stmt.TypedStmtKind.{TypedStmtKind-F}
use Rattle.sc_core.specs.declared.stmt.TypedStmtKind.TheOpen as layer
use Rattle.sc_core.specs.declared.stmt.TypedSimple.{TypedSimple}
use Rattle.sc_core.specs.declared.stmt.TypedSimpleKind.{TypedSimpleKind}
use Rattle.sc_core.specs.declared.stmt.TypedSimpleKind.TheVariants as simple
use Rattle.sc_core.specs.declared.section.TypedStruct.{TypedStruct}
use Rattle.sc_core.specs.declared.value.Value.{Value}
use Rattle.sc_core.specs.declared.value.Value.TheVariants.{Word, Null, Ptr}
use Rattle.sc_core.specs.declared.value.Want.{Want}
use Rattle.sc_core.specs.declared.value.Want.TheVariants as want
use Rattle.sc_core.specs.Memory.{Blocks, bind, load, store}
use Rattle.sc_core.specs.Value.{Arith, is_true, of_bool, moved, moved_on, moved_back, between, on_words, applied_one}
use Rattle.sc_core.specs.Types.{is_unsigned, is_array, is_pointer, size_in_bytes, target_cells}
use Rattle.sc_core.specs.Combinators.{State, Here, Piece, and_then, computed, Next, Break, Continue, Return, Does}
use Rattle.sc_core.specs.Combinators.{leave, stored, follow, in_order, all_do, loop, choose, Calls}
use Rattle.sc_core.specs.Combinators.{elements_allocated, released}

-- an expression's place or value, as it is wanted, in the blocks of its compartment
abbrev pub Ways : Type 0
Ways = Want → Blocks → Result Value Cause

-- an expression: its type and what it gives
pub record Meant : Type 0 where
  pub ty : Ty
  pub way : Ways

-- the block of a variable: globals stand first, a call's parameters and then its locals from its first block on
abbrev pub block_of : Here → ℕ → VarRef → ℕ
block_of here params (Global g) = g
block_of here params (Param p) = here.first + p
block_of here params (Local l) = here.first + params + l

-- the place of a variable
abbrev pub variable_at : Here → ℕ → VarRef → Value
variable_at here params v = Ptr (record { block = block_of here params v; index = 0 })

-- from a place of this type to what is wanted; the value of an array is the place of its first element (C11 6.3.2.1p3)
abbrev pub wanted : Ty → Value → Ways
wanted ty q want.Place blocks = Ok q
wanted ty q want.Value blocks = if is_array ty then Ok q else load blocks (is_pointer ty) q

-- an expression that names a place
abbrev pub at_place : Ty → (Blocks → Result Value Cause) → Ways
at_place ty place want blocks = bind (place blocks) (λ q. wanted ty q want blocks)

-- an expression that names no place: it has only a value
abbrev pub no_place : (Blocks → Result Value Cause) → Ways
no_place value want blocks = value blocks

-- a literal of a pointer type is null (C11 6.3.2.3p3)
abbrev pub literal : Ty → ℕ → Value
literal ty word = if is_pointer ty then Null else Word word

-- the type in which an operator computes: the left one's for shifts, else unsigned if one is (C11 6.3.1.8, 6.5.7p3)
abbrev pub is_unsigned_op : BinaryOp → Ty → Ty → Bool
is_unsigned_op op.ShiftLeft left right = is_unsigned left
is_unsigned_op op.ShiftRight left right = is_unsigned left
is_unsigned_op o left right = is_unsigned left || is_unsigned right

-- what a statement does; trees carry nothing beside the state
abbrev pub Acts : Type 0
Acts = Does (Unit {0})

-- an expression on its own: its type, and what it gives at that type
abbrev pub meant_step : TypedExpr-F (Ty → Ways) Meant → Meant
meant_step e = record { ty = e.ty; way = e.kind e.ty }

-- a statement on its own: what it does on its line
abbrev pub stmt_step : TypedStmt-F (ℕ → Acts) Acts → Acts
stmt_step stmt = stmt.kind stmt.line

-- values from left to right, or the first cause
abbrev pub values : List Ways → Blocks → Result (List Value) Cause
values [] blocks = Ok []
values (e ∷ es) blocks = bind (e want.Value blocks) (λ v. bind (values es blocks) (λ vs. Ok (v ∷ vs)))

module _ (here : Here) where
  -- the place or value of an expression
  abbrev pub evaluated : Want → Ways → ℕ → State → Piece Value
  evaluated want e line s = computed here line (e want (s.memory here.comp)) s

  -- the place, and then a value there
  abbrev pub store_at : Ways → Value → ℕ → Acts
  store_at place v line a s = and_then (evaluated want.Place place line s) (λ q s. stored here q v line a s)

  -- the value first, then the place, then the store
  abbrev pub assign : Ways → Ways → ℕ → Acts
  assign place e line a s = and_then (evaluated want.Value e line s) (λ v s. store_at place v line a s)

  -- the head of a loop: control leaves the loop where the condition is 0
  abbrev pub test : Ways → ℕ → Acts
  test cond line a s = and_then (evaluated want.Value cond line s) (λ v s. choose v (leave Next a s) (leave Break a s))

  -- typed trees store no call without a result
  abbrev pub store_result : Ways → Option Value → ℕ → Acts
  store_result place None line a s = leave Next a s
  store_result place (Some v) line a s = store_at place v line a s

  module _ (calls : Calls) where
    -- the arguments from left to right, then the call (C11 6.5.2.2)
    abbrev pub call : CallTarget → List Ways → ℕ → State → Piece (Option Value)
    call target args line s =
        and_then (computed here line (values args (s.memory here.comp)) s) (λ vs s. calls here.comp target vs s)

    -- the call first, then the place, then the store
    abbrev pub assign_call : Ways → CallTarget → List Ways → ℕ → Acts
    assign_call place target args line a s =
        and_then (call target args line s) (λ result s. store_result place result line a s)

    abbrev pub call_statement : CallTarget → List Ways → ℕ → Acts
    call_statement target args line a s = and_then (call target args line s) (λ result s. leave Next a s)

  -- the count, then a block of as many elements of `cells` cells each, then the place, then the store
  abbrev pub allocate_at : Ways → Ways → (cells line : ℕ) → Acts
  allocate_at place count cells line a s =
      and_then (evaluated want.Value count line s)
      (λ v s. and_then (elements_allocated here v cells line s) (λ q s. store_at place q line a s))

  -- the pointer, and then what it points to is freed
  abbrev pub free_value : Ways → ℕ → Acts
  free_value e line a s = and_then (evaluated want.Value e line s) (λ v s. released here v line a s)

module _ (structs : List TypedStruct) where
  -- the operator between a pointer and an integer
  abbrev pub at_pointer : Blocks → BinaryOp → Ty → Ty → Value → Value → Result Value Cause
  at_pointer blocks op.Sub pointer index v w = moved_back blocks (target_cells structs pointer) (is_unsigned index) v w
  at_pointer blocks o pointer index v w = moved_on blocks (target_cells structs pointer) (is_unsigned index) v w

module _ (arith : Arith) (structs : List TypedStruct) where
  -- an operator between two values of these types
  abbrev pub applied : Blocks → BinaryOp → Ty → Ty → Value → Value → Result Value Cause
  applied blocks o left right v w =
      if is_pointer left then (if is_pointer right then between blocks o (target_cells structs left) v w else
      at_pointer structs blocks o left right v w) else
      (if is_pointer right then at_pointer structs blocks o right left w v else
      on_words arith (is_unsigned_op o left right) o v w)

  -- both operands from left to right, and then the operator; `&&` and `||` look at the second where they need it (C11
  -- 6.5.13, 6.5.14)
  abbrev pub binary : BinaryOp → Meant → Meant → Blocks → Result Value Cause
  binary op.AndAlso a b blocks =
      bind (a.way want.Value blocks) (λ v. choose v (bind (b.way want.Value blocks) (λ w. Ok (of_bool (is_true w))))
      (Ok (Word 0)))
  binary op.OrElse a b blocks =
      bind (a.way want.Value blocks) (λ v. choose v (Ok (Word 1))
      (bind (b.way want.Value blocks) (λ w. Ok (of_bool (is_true w)))))
  binary o a b blocks =
      bind (a.way want.Value blocks) (λ v. bind (b.way want.Value blocks) (applied blocks o a.ty b.ty v))

  module _ (here : Here) (params : ℕ) where
    -- what an expression of this type gives, from what its parts give
    abbrev pub term_step : TypedKind-F (Ty → Ways) Meant → Ty → Ways
    term_step (term.Literal word) ty = no_place (λ blocks. Ok (literal ty word))
    term_step (term.Variable v) ty = at_place ty (λ blocks. Ok (variable_at here params v))
    term_step (term.Unary o a) ty =
        no_place (λ blocks. bind (a.way want.Value blocks) (applied_one arith (is_unsigned a.ty) o))
    term_step (term.Binary o a b) ty = no_place (binary o a b)
    term_step (term.Index a b) ty =
        at_place ty (λ blocks. bind (a.way want.Value blocks)
        (λ v. bind (b.way want.Value blocks) (at_pointer structs blocks op.Add a.ty b.ty v)))
    term_step (term.Member a offset) ty = at_place ty
        (λ blocks. bind (a.way want.Place blocks) (moved blocks (pos offset)))
    term_step (term.Arrow a offset) ty = at_place ty (λ blocks.
        bind (a.way want.Value blocks) (moved blocks (pos offset)))
    term_step (term.Deref a) ty = at_place ty (a.way want.Value)
    term_step (term.Address a) ty = no_place (a.way want.Place)
    term_step (term.SizeOf cells) ty = no_place (λ blocks. Ok (Word (size_in_bytes cells)))

    abbrev pub meant : TypedExpr → Meant
    meant = fold-TypedExpr (Ty → Ways) Meant term_step meant_step

    abbrev pub ways : TypedExpr → Ways
    ways e = (meant e).way

    -- how many elements are allocated: one where no count stands
    abbrev pub count_ways : Option TypedExpr → Ways
    count_ways None = no_place (λ blocks. Ok (Word 1))
    count_ways (Some e) = ways e

    module _ (calls : Calls) where
      abbrev pub simple_does : TypedSimpleKind → ℕ → Acts
      simple_does (simple.Assign place e) line = assign here (ways place) (ways e) line
      simple_does (simple.AssignCall place c) line = assign_call here calls (ways place) c.target (map ways c.args) line
      simple_does (simple.Call c) line = call_statement here calls c.target (map ways c.args) line
      simple_does (simple.Malloc place count cells) line = allocate_at here (ways place) (count_ways count) cells line
      simple_does (simple.Free e) line = free_value here (ways e) line

      -- a part in the head of a `for`, if it is there
      abbrev pub part_does : Option TypedSimple → Acts
      part_does None = leave Next
      part_does (Some s) = simple_does s.kind s.line

      -- what a statement does on its line, from what the statements inside do
      abbrev pub kind_step : TypedStmtKind-F (ℕ → Acts) Acts → ℕ → Acts
      kind_step layer.Empty line a s = leave Next a s
      kind_step (layer.Assign place e) line a s = assign here (ways place) (ways e) line a s
      kind_step (layer.AssignCall place c) line a s =
          assign_call here calls (ways place) c.target (map ways c.args) line a s
      kind_step (layer.Call c) line a s = call_statement here calls c.target (map ways c.args) line a s
      kind_step (layer.Malloc place count cells) line a s =
          allocate_at here (ways place) (count_ways count) cells line a s
      kind_step (layer.Free e) line a s = free_value here (ways e) line a s
      kind_step (layer.If cond first second) line a s =
          and_then (evaluated here want.Value (ways cond) line s)
          (λ v s. choose v (all_do first a s) (all_do second a s))
      kind_step (layer.While cond body) line a s = loop (test here (ways cond) line) (all_do body) (leave Next) a s
      kind_step (layer.For first cond next body) line a s =
          follow in_order (part_does first a s) (loop (test here (ways cond) line) (all_do body) (part_does next))
      kind_step layer.Break line a s = leave Break a s
      kind_step layer.Continue line a s = leave Continue a s
      kind_step layer.Return line a s = leave (Return None) a s
      kind_step (layer.ReturnValue e) line a s =
          and_then (evaluated here want.Value (ways e) line s) (λ v s. leave (Return (Some v)) a s)
      kind_step (layer.ReturnCall c) line a s =
          and_then (call here calls c.target (map ways c.args) line s) (λ result s. leave (Return result) a s)

      abbrev pub stmt_does : TypedStmt → Acts
      stmt_does = fold-TypedStmt (ℕ → Acts) Acts kind_step stmt_step

      abbrev pub block_does : List TypedStmt → Acts
      block_does block = all_do (map stmt_does block)
