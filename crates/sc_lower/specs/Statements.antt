-- The code of statements, in the order in which it runs: values first, then places, then stores.
use Rattle.sc_lower.specs.Common.{Alloc, Break, CallCross, CallOwn, Const, Continue, Free, If, Input, Loop, Output}
use Rattle.sc_lower.specs.Common.{Return, Store, TacStmt, TypedCall, TypedExpr, TypedSimple, TypedSimpleKind, TypedStmt}
use Rattle.sc_lower.specs.Common.{TypedStmtKind-F, TypedStruct, fold-TypedStmt}
use Rattle.std.specs.Prelude.{ℕ, suc, List, [], ◌∷◌, ◌++◌, map, Option, None, Some}
use Rattle.sc_core.specs.declared.expr.CallTarget.{CallTarget}
use Rattle.sc_core.specs.declared.expr.CallTarget.TheVariants as target
use Rattle.sc_core.specs.declared.stmt.TypedStmtKind.TheOpen as layer
use Rattle.sc_core.specs.declared.stmt.TypedSimpleKind.TheVariants as simple
use Rattle.sc_core.specs.declared.value.Want.TheVariants as want
use Rattle.sc_tac.specs.declared.stmt.Constant.TheVariants as constant
use Rattle.sc_lower.specs.Expressions.{Forms, Lows, forms, lone, replaced}

-- code that leaves nothing in a temporary, and the next free one
pub record Part : Type 0 where
  pub code : List TacStmt
  pub next : ℕ

abbrev pub Parts : Type 0
Parts = ℕ → Part

-- SHAPES
-- statements that assign no new temporary
abbrev pub just : List TacStmt → Parts
just code n = record { code = code; next = n }

-- what an expression leaves, and then what is made of it
abbrev pub after : Lows → (ℕ → Parts) → Parts
after a make n = let x = a n in let y = make x.at x.next in record { code = x.code ++ y.code; next = y.next }

abbrev pub both : Parts → Parts → Parts
both first second n = let x = first n in let y = second x.next in
    record { code = x.code ++ y.code; next = y.next }

abbrev pub in_turn : List Parts → Parts
in_turn [] = just []
in_turn (part ∷ parts) = both part (in_turn parts)

-- values from left to right
pub record Many : Type 0 where
  pub code : List TacStmt
  pub at : List ℕ
  pub next : ℕ

abbrev pub many : List Forms → ℕ → Many
many [] n = record { code = []; at = []; next = n }
many (form ∷ rest) n = let x = form want.Value n in let y = many rest x.next in
    record { code = x.code ++ y.code; at = x.at ∷ y.at; next = y.next }

-- STORES
abbrev pub store_at : Forms → ℕ → Parts
store_at place value = after (place want.Place) (λ at. just (Store at value ∷ []))

abbrev pub assign : Forms → Forms → Parts
assign place value = after (value want.Value) (store_at place)

-- ALLOCATIONS
-- the number of elements, then a block of as many of `cells` cells each (C11 7.22.3.4). Its pointer takes the number's
-- temporary, since the number may be no node
abbrev pub allocation : Lows → (cells : ℕ) → Lows
allocation count cells = replaced count (λ at. Alloc at at cells ∷ [])

abbrev pub allocate_at : Forms → Lows → (cells : ℕ) → Parts
allocate_at place count cells = after (allocation count cells) (store_at place)

-- a value is freed (C11 7.22.3.3)
abbrev pub free_value : Forms → Parts
free_value pointer = after (pointer want.Value) (λ at. just (Free at ∷ []))

-- CALLS
abbrev pub first_of : List ℕ → ℕ
first_of [] = 0
first_of (t ∷ ts) = t

abbrev pub call_code : CallTarget → Option ℕ → List ℕ → TacStmt
call_code (target.Own function) dest args = CallOwn dest function args
call_code (target.Cross comp index) dest args = CallCross dest comp index args
call_code target.Input dest args = Input dest
call_code target.Output dest args = Output (first_of args)

-- the arguments, and then a call whose result is dropped
abbrev pub call_statement : CallTarget → List Forms → Parts
call_statement to args n = let x = many args n in
    record { code = x.code ++ call_code to None x.at ∷ []; next = x.next }

-- the arguments, then a call, then what is made of its result
abbrev pub call_for : CallTarget → List Forms → (ℕ → Parts) → Parts
call_for to args make n = let x = many args n in let y = make x.next (suc x.next) in
    record { code = x.code ++ call_code to (Some x.next) x.at ∷ y.code; next = y.next }

-- CONTROL
abbrev pub return_value : ℕ → Parts
return_value value = just (Return (Some value) ∷ [])

abbrev pub fork : Parts → Parts → ℕ → Parts
fork first second cond n = let x = first n in let y = second x.next in
    record { code = If cond x.code y.code ∷ []; next = y.next }

-- control leaves the loop where the condition is 0
abbrev pub test : Forms → Parts
test cond = after (cond want.Value) (λ value. just (If value [] (Break ∷ []) ∷ []))

abbrev pub cycle : Parts → Parts → Parts → Parts
cycle head body next n = let x = head n in let y = body x.next in let z = next y.next in
    record { code = Loop x.code y.code z.code ∷ []; next = z.next }

module _ (structs : List TypedStruct) (params : ℕ) where
  abbrev pub args : TypedCall → List Forms
  args c = map (forms structs params) c.args

  -- the number of elements: one where none stands
  abbrev pub count_code : Option TypedExpr → Lows
  count_code None = lone (λ dest. Const dest (constant.Word 1))
  count_code (Some count) = forms structs params count want.Value

  abbrev pub simple_code : TypedSimpleKind → Parts
  simple_code (simple.Assign place value) = assign (forms structs params place) (forms structs params value)
  simple_code (simple.AssignCall place c) = call_for c.target (args c) (store_at (forms structs params place))
  simple_code (simple.Call c) = call_statement c.target (args c)
  simple_code (simple.Malloc place count cells) =
      allocate_at (forms structs params place) (count_code count) cells
  simple_code (simple.Free pointer) = free_value (forms structs params pointer)

  -- a part in the head of a `for`, if it is there
  abbrev pub part_code : Option TypedSimple → Parts
  part_code None = just []
  part_code (Some s) = simple_code s.kind

  -- the code of a statement, from that of the statements inside
  abbrev pub kind_step : TypedStmtKind-F Parts Parts → Parts
  kind_step layer.Empty = just []
  kind_step (layer.Assign place value) = assign (forms structs params place) (forms structs params value)
  kind_step (layer.AssignCall place c) = call_for c.target (args c) (store_at (forms structs params place))
  kind_step (layer.Call c) = call_statement c.target (args c)
  kind_step (layer.Malloc place count cells) =
      allocate_at (forms structs params place) (count_code count) cells
  kind_step (layer.Free pointer) = free_value (forms structs params pointer)
  kind_step (layer.If cond first second) =
      after (forms structs params cond want.Value) (fork (in_turn first) (in_turn second))
  kind_step (layer.While cond body) = cycle (test (forms structs params cond)) (in_turn body) (just [])
  kind_step (layer.For first cond next body) =
      both (part_code first) (cycle (test (forms structs params cond)) (in_turn body) (part_code next))
  kind_step layer.Break = just (Break ∷ [])
  kind_step layer.Continue = just (Continue ∷ [])
  kind_step layer.Return = just (Return None ∷ [])
  kind_step (layer.ReturnValue value) = after (forms structs params value want.Value) return_value
  kind_step (layer.ReturnCall c) = call_for c.target (args c) return_value

  abbrev pub stmt_code : TypedStmt → Parts
  stmt_code = fold-TypedStmt Parts Parts kind_step (λ s. s.kind)

  abbrev pub block_code : List TypedStmt → Parts
  block_code block = in_turn (map stmt_code block)
