-- One pass over the code of a function: operators on constants are folded, copies are read where they come from, and
-- what can't be blamed and is read by nobody goes.
use Rattle.std.specs.Prelude.{ℕ, zero, suc, nat_lt, Bool, true, false, not, ◌&&◌, ◌||◌, ◌==◌, if◌then◌else◌}
use Rattle.std.specs.Prelude.{List, [], ◌∷◌, map}
use Rattle.std.specs.Prelude.{Option, None, Some, Result, Ok, Err}
use Rattle.std.specs.Option.{option_map}
use Rattle.std.specs.List.{list_all, list_any}
use Rattle.sc_base.specs.declared.op.BinaryOp.{BinaryOp}
use Rattle.sc_base.specs.declared.op.BinaryOp.TheVariants as op
use Rattle.sc_base.specs.declared.op.UnaryOp.TheVariants as unary
use Rattle.sc_event.specs.declared.interface.Scalar.TheVariants.{Int, Unsigned}
use Rattle.sc_core.specs.Prelude.{c_arith}
use Rattle.sc_core.specs.declared.cause.Cause.{Cause}
use Rattle.sc_core.specs.declared.expr.CallTarget.{CallTarget}
use Rattle.sc_core.specs.declared.expr.CallTarget.TheVariants.{Own, Cross, Input}
use Rattle.sc_core.specs.declared.value.Value.{Value}
use Rattle.sc_core.specs.declared.value.Value.TheVariants.{Word, Null, Ptr}
use Rattle.sc_tac.specs.Prelude.{constant_value, everywhere, is_one, one_or_none, operated, some_hold}
use Rattle.sc_tac.specs.Parts.{parts, temp_assigned, temps_read}
use Rattle.sc_tac.specs.declared.stmt.Constant.{Constant}
use Rattle.sc_tac.specs.declared.stmt.Constant.TheVariants as constant
use Rattle.sc_tac.specs.declared.stmt.TacOp.{TacOp}
use Rattle.sc_tac.specs.declared.stmt.TacOp.TheVariants as tacop
use Rattle.sc_tac.specs.declared.stmt.TacStmt.{TacStmt, TacStmt-F, fold-TacStmt, roll-TacStmt}
use Rattle.sc_tac.specs.declared.stmt.TacStmt.TheOpen as tac
use Rattle.sc_opt.specs.declared.facts.Assigned.{Assigned}
use Rattle.sc_opt.specs.declared.facts.Assigned.TheVariants.{ByConstant, ByCopy, ByOperator, Nowhere, Otherwise}
use Rattle.sc_opt.specs.declared.facts.Assigned.TheVariants.{Several}

abbrev pub joined : Assigned → Assigned → Assigned
joined Nowhere y = y
joined (ByConstant c) Nowhere = ByConstant c
joined (ByCopy u) Nowhere = ByCopy u
joined (ByOperator o left right) Nowhere = ByOperator o left right
joined Otherwise Nowhere = Otherwise
joined x y = Several

abbrev pub all_joined : List Assigned → Assigned
all_joined [] = Nowhere
all_joined (x ∷ xs) = joined x (all_joined xs)

abbrev pub is_once : Assigned → Bool
is_once Nowhere = false
is_once (ByConstant c) = true
is_once (ByCopy u) = true
is_once (ByOperator o left right) = true
is_once Otherwise = true
is_once Several = false

module _ (t : ℕ) where
  abbrev pub assigned_step : TacStmt-F Assigned → Assigned
  assigned_step (tac.Const dest value) = if dest == t then ByConstant value else Nowhere
  assigned_step (tac.Copy dest from) = if dest == t then ByCopy from else Nowhere
  assigned_step (tac.Op dest o left right) = if dest == t then ByOperator o left right else Nowhere
  assigned_step (tac.If cond a b) = joined (all_joined a) (all_joined b)
  assigned_step (tac.Loop head body next) = joined (all_joined head) (joined (all_joined body) (all_joined next))
  assigned_step stmt = if is_one t (one_or_none (temp_assigned stmt)) then Otherwise else Nowhere

  abbrev pub assigned : TacStmt → Assigned
  assigned = fold-TacStmt Assigned assigned_step

  abbrev pub assigned_in : List TacStmt → Assigned
  assigned_in stmts = all_joined (map assigned stmts)

-- an operator gives a word, where it gives something
abbrev pub gives_word : TacOp → Bool
gives_word (tacop.Unary unary.Plus scalar) = false
gives_word (tacop.PointerMove minus cells index) = false
gives_word (tacop.PointerMember offset) = false
gives_word _ = true

abbrev pub is_word_constant : Constant → Bool
is_word_constant (constant.Word w) = true
is_word_constant constant.Null = false

-- a statement that assigns this temporary gives it a word
abbrev pub assigns_words : ℕ → TacStmt-F Bool → Bool
assigns_words t (tac.Const dest value) = not (dest == t) || is_word_constant value
assigns_words t (tac.Op dest o left right) = not (dest == t) || gives_word o
assigns_words t (tac.Load dest place pointer) = not (dest == t) || not pointer
assigns_words t stmt = not (is_one t (one_or_none (temp_assigned stmt)))

abbrev pub is_total_signed : BinaryOp → Bool
is_total_signed op.Equal = true
is_total_signed op.NotEqual = true
is_total_signed op.Less = true
is_total_signed op.Greater = true
is_total_signed op.LessEqual = true
is_total_signed op.GreaterEqual = true
is_total_signed op.BitAnd = true
is_total_signed op.BitOr = true
is_total_signed op.BitXor = true
is_total_signed _ = false

abbrev pub is_total_unsigned : BinaryOp → Bool
is_total_unsigned op.Add = true
is_total_unsigned op.Sub = true
is_total_unsigned op.Mul = true
is_total_unsigned o = is_total_signed o

-- where constants are known, an operator on them, if it isn't blamed, is one
abbrev pub constant_from : Result Value Cause → Option Constant
constant_from (Ok (Word w)) = Some (constant.Word w)
constant_from (Ok Null) = Some constant.Null
constant_from (Ok (Ptr p)) = None
constant_from (Err cause) = None

abbrev pub on_constants : TacOp → Constant → Constant → Option Constant
on_constants o c d = constant_from (operated c_arith [] o (constant_value c) (constant_value d))

abbrev pub constant_of : Assigned → Option Constant
constant_of (ByConstant c) = Some c
constant_of _ = None

abbrev pub keep_if : Bool → TacStmt-F TacStmt → Option TacStmt
keep_if true k = Some (roll-TacStmt k)
keep_if false k = None

abbrev pub keep : TacStmt-F TacStmt → Option TacStmt
keep k = Some (roll-TacStmt k)

abbrev pub present : List (Option TacStmt) → List TacStmt
present [] = []
present (None ∷ rest) = present rest
present (Some x ∷ rest) = x ∷ present rest

-- OPERATORS
abbrev pub second_constant : TacOp → Constant → Option Constant → Option Constant
second_constant o c None = None
second_constant o c (Some d) = on_constants o c d

-- where these constants are known
module _ (constants : ℕ → Option Constant) where
  abbrev pub with_second : TacOp → Constant → Option ℕ → Option Constant
  with_second o c None = on_constants o c c
  with_second o c (Some t) = second_constant o c (constants t)

  abbrev pub folded_from : TacOp → Option Constant → Option ℕ → Option Constant
  folded_from o None right = None
  folded_from o (Some c) right = with_second o c right

  -- what an operator gives on temporaries
  abbrev pub folded : TacOp → ℕ → Option ℕ → Option Constant
  folded o left right = folded_from o (constants left) right

  -- and what a temporary holds that is assigned so
  abbrev pub constant_by : Assigned → Option Constant
  constant_by (ByConstant c) = Some c
  constant_by (ByOperator o left right) = folded o left right
  constant_by _ = None

-- The constants that temporaries hold wherever they are assigned: each by those of lower numbers.
module _ (table : ℕ → Assigned) where
  -- of the temporaries below a number
  abbrev pub constants_below : ℕ → ℕ → Option Constant
  constants_below zero t = None
  constants_below (suc n) t = if t == n then constant_by (constants_below n) (table n) else constants_below n t

  abbrev pub known_constant : ℕ → Option Constant
  known_constant t = constants_below (suc t) t

-- where these temporaries hold words alone
module _ (holds_word : ℕ → Bool) where
  abbrev pub right_holds_word : Option ℕ → Bool
  right_holds_word None = false
  right_holds_word (Some t) = holds_word t

  -- an operator that can't be blamed
  abbrev pub is_total : TacOp → ℕ → Option ℕ → Bool
  is_total (tacop.Unary unary.Not scalar) left right = true
  is_total (tacop.Unary unary.BitNot scalar) left right = holds_word left
  is_total (tacop.Binary o Unsigned) left right =
      is_total_unsigned o && (holds_word left && right_holds_word right)
  is_total (tacop.Binary o Int) left right = is_total_signed o && (holds_word left && right_holds_word right)
  is_total tacop.PointerNot left right = true
  is_total _ left right = false

-- THE PASS
-- where temporaries are read there, these are read then, and these hold words alone
module _ (source : ℕ → ℕ) (used holds_word : ℕ → Bool) where
  abbrev pub operator_code : ℕ → TacOp → ℕ → Option ℕ → Option Constant → Option TacStmt
  operator_code dest o left right (Some c) = keep_if (used dest) (tac.Const dest c)
  operator_code dest o left right None =
      keep_if (used dest || not (is_total holds_word o left right))
      (tac.Op dest o (source left) (option_map source right))

module _ (constants : ℕ → Option Constant) (source : ℕ → ℕ) (used holds_word : ℕ → Bool) where
  -- what becomes of a statement, unless it goes
  abbrev pub pass_step : TacStmt-F (Option TacStmt) → Option TacStmt
  pass_step (tac.Const dest value) = keep_if (used dest) (tac.Const dest value)
  pass_step (tac.Copy dest from) = keep_if (not (source dest == source from) && used dest) (tac.Copy dest (source from))
  pass_step (tac.Op dest o left right) = operator_code source used holds_word dest o left right
      (folded constants o left right)
  pass_step (tac.ObjectPlace dest object) = keep_if (used dest) (tac.ObjectPlace dest object)
  pass_step (tac.GlobalPlace dest global) = keep_if (used dest) (tac.GlobalPlace dest global)
  pass_step (tac.Load dest place pointer) = keep (tac.Load dest (source place) pointer)
  pass_step (tac.Store place value) = keep (tac.Store (source place) (source value))
  pass_step (tac.If cond a b) = keep (tac.If (source cond) (present a) (present b))
  pass_step (tac.Loop head body next) = keep (tac.Loop (present head) (present body) (present next))
  pass_step tac.Break = keep tac.Break
  pass_step tac.Continue = keep tac.Continue
  pass_step (tac.CallOwn dest function args) = keep (tac.CallOwn dest function (map source args))
  pass_step (tac.CallCross dest comp index args) = keep (tac.CallCross dest comp index (map source args))
  pass_step (tac.Input dest) = keep (tac.Input dest)
  pass_step (tac.Output value) = keep (tac.Output (source value))
  pass_step (tac.Alloc dest count words) = keep (tac.Alloc dest (source count) words)
  pass_step (tac.Free pointer) = keep (tac.Free (source pointer))
  pass_step (tac.Return value) = keep (tac.Return (option_map source value))

  abbrev pub pass : TacStmt → Option TacStmt
  pass = fold-TacStmt (Option TacStmt) pass_step

  abbrev pub passed : List TacStmt → List TacStmt
  passed stmts = present (map pass stmts)

-- USES
module _ (source : ℕ → ℕ) (used : ℕ → Bool) where
  -- what a statement reads in the code that the pass gives, unless it goes, is used
  abbrev pub all_used : List ℕ → Bool
  all_used temps = list_all (λ t. used (source t)) temps

  abbrev pub unless_folded : Option Constant → List ℕ → Bool
  unless_folded (Some c) temps = true
  unless_folded None temps = all_used temps

module _ (constants : ℕ → Option Constant) (source : ℕ → ℕ) (used : ℕ → Bool) where
  abbrev pub reads_used : TacStmt-F Bool → Bool
  reads_used (tac.Copy dest from) = source dest == source from || used (source from)
  reads_used (tac.Op dest o left right) =
      unless_folded source used (folded constants o left right) (left ∷ one_or_none right)
  reads_used stmt = all_used source used (temps_read stmt)

-- whether the code that the pass gives reads a temporary, where what can't be blamed hasn't gone yet
module _ (source : ℕ → ℕ) where
  abbrev pub reads_some : ℕ → List ℕ → Bool
  reads_some x temps = list_any (λ t. source t == x) temps

  abbrev pub reads_unless : Option Constant → ℕ → List ℕ → Bool
  reads_unless (Some c) x temps = false
  reads_unless None x temps = reads_some x temps

module _ (constants : ℕ → Option Constant) (source : ℕ → ℕ) where
  abbrev pub reads_here : ℕ → TacStmt-F Bool → Bool
  reads_here x (tac.Copy dest from) = not (source dest == source from) && source from == x
  reads_here x (tac.Op dest o left right) =
      reads_unless source (folded constants o left right) x (left ∷ one_or_none right)
  reads_here x stmt = reads_some source x (temps_read stmt)

  abbrev pub reads_within : ℕ → TacStmt-F Bool → Bool
  reads_within x stmt = reads_here x stmt || list_any some_hold (parts stmt)

  abbrev pub is_read : List TacStmt → ℕ → Bool
  is_read stmts x = some_hold (map (fold-TacStmt Bool (reads_within x)) stmts)

-- Where temporaries are read that copy others: at the one that isn't a copy, or is copied from one further on.
module _ (table : ℕ → Assigned) where
  -- a copy of a temporary that is assigned in one place too
  abbrev pub copies_one : Assigned → Bool
  copies_one (ByCopy from) = is_once (table from)
  copies_one _ = false

  -- by where those with lower numbers are read
  abbrev pub source_by : (lower : ℕ → ℕ) → ℕ → Assigned → ℕ
  source_by lower t (ByCopy from) =
      if is_once (table from) then (if nat_lt from t then lower from else (if copies_one
      (table from) then t else from)) else t
  source_by lower t _ = t

  -- of the temporaries below a number
  abbrev pub copy_sources : ℕ → ℕ → ℕ
  copy_sources zero t = t
  copy_sources (suc n) t = if t == n then source_by (copy_sources n) n (table n) else copy_sources n t

  abbrev pub copy_source : ℕ → ℕ
  copy_source t = copy_sources (suc t) t

-- a call whose result is taken gives one
abbrev pub takes_promised : (CallTarget → Bool) → TacStmt-F Bool → Bool
takes_promised gives (tac.CallOwn (Some dest) function args) = gives (Own function)
takes_promised gives (tac.CallCross (Some dest) comp index args) = gives (Cross comp index)
takes_promised gives (tac.Input (Some dest)) = gives Input
takes_promised gives _ = true

-- THE PASS OF A FUNCTION
abbrev pub table_of : List TacStmt → ℕ → Assigned
table_of body t = assigned_in t body

abbrev pub always_word : List TacStmt → ℕ → Bool
always_word body t = everywhere (assigns_words t) body

abbrev pub one_pass : List TacStmt → List TacStmt
one_pass body =
    let table = table_of body in
    let constants = known_constant table in
    let source = copy_source table in
    passed constants source (is_read constants source body) (always_word body) body

-- LEAN CODE
-- a temporary is read in these statements
abbrev pub reads_temp : ℕ → TacStmt-F Bool → Bool
reads_temp x stmt = is_one x (temps_read stmt) || list_any some_hold (parts stmt)

abbrev pub is_read_by : List TacStmt → ℕ → Bool
is_read_by stmts x = some_hold (map (fold-TacStmt Bool (reads_temp x)) stmts)

abbrev pub is_none : {A : Type 0} → Option A → Bool
is_none None = true
is_none (Some x) = false

-- no operator on constants that isn't blamed, no copy between temporaries that are each assigned in one place, and
-- nothing that can't be blamed and assigns what nobody reads
module _ (table : ℕ → Assigned) (reads holds_word : ℕ → Bool) where
  abbrev pub is_lean : TacStmt-F Bool → Bool
  is_lean (tac.Const dest value) = reads dest
  is_lean (tac.Copy dest from) = not (is_once (table dest) && is_once (table from)) && reads dest
  is_lean (tac.Op dest o left right) =
      is_none (folded (λ t. constant_of (table t)) o left right)
      && (reads dest || not (is_total holds_word o left right))
  is_lean (tac.ObjectPlace dest object) = reads dest
  is_lean (tac.GlobalPlace dest global) = reads dest
  is_lean stmt = true

abbrev pub lean : List TacStmt → Bool
lean body = everywhere (is_lean (table_of body) (is_read_by body) (always_word body)) body

-- the pass leaves a statement as it is, but for where it reads
module _ (constants : ℕ → Option Constant) (source : ℕ → ℕ) (used holds_word : ℕ → Bool) where
  abbrev pub is_kept : TacStmt-F Bool → Bool
  is_kept (tac.Const dest value) = used dest
  is_kept (tac.Copy dest from) = not (source dest == source from) && used dest
  is_kept (tac.Op dest o left right) =
      is_none (folded constants o left right) && (used dest || not (is_total holds_word o left right))
  is_kept (tac.ObjectPlace dest object) = used dest
  is_kept (tac.GlobalPlace dest global) = used dest
  is_kept stmt = true
