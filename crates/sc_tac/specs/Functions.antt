-- What a function of three-address code keeps.
use Rattle.sc_core.specs.Prelude.{instrs_a_node}
use Rattle.sc_tac.specs.Common.{Entry, most_nodes, most_params}
use Rattle.std.specs.Prelude.{◌≤◌, ◌<◌, ℕ, ◌+◌, ◌*◌, ◌^◌, Bool, true, false, not, ◌&&◌, ◌||◌, ◌==◌, nat_lt, nat_le}
use Rattle.std.specs.Prelude.{List, map, length, take, Option, None, Some, is_some, IsTrue}
use Rattle.std.specs.Bool.{beq}
use Rattle.std.specs.List.{list_any, list_all}
use Rattle.sc_tac.specs.declared.function.TacFnTree.{TacFnTree}
use Rattle.sc_tac.specs.declared.stmt.Constant.{Constant}
use Rattle.sc_tac.specs.declared.stmt.Constant.TheVariants as constant
use Rattle.sc_tac.specs.declared.stmt.TacOp.{TacOp}
use Rattle.sc_tac.specs.declared.stmt.TacOp.TheVariants as tacop
use Rattle.sc_tac.specs.declared.stmt.TacStmt.{TacStmt, TacStmt-F, fold-TacStmt}
use Rattle.sc_tac.specs.declared.stmt.TacStmt.TheOpen as tac
use Rattle.sc_tac.specs.Flow.{all_assigned_first}
use Rattle.sc_tac.specs.Parts.{temps_named, parts, everywhere}
use Rattle.sc_tac.specs.Weights.{entry_weight, weight}

-- a statement names temporaries below this number
abbrev pub names_own_temps : ℕ → TacStmt-F Bool → Bool
names_own_temps temps stmt = list_all (λ t. nat_lt t temps) (temps_named stmt)

-- it names an object below this number
abbrev pub names_own_object : ℕ → TacStmt-F Bool → Bool
names_own_object objects (tac.ObjectPlace dest object) = nat_lt object objects
names_own_object objects _ = true

-- a constant is a word or null
abbrev pub is_machine_word : Constant → Bool
is_machine_word (constant.Word w) = nat_lt w (2 ^ 32)
is_machine_word constant.Null = true

-- the constants of a statement are such, and so are the sizes of elements that it allocates
abbrev pub has_words : TacStmt-F Bool → Bool
has_words (tac.Const dest value) = is_machine_word value
has_words (tac.Copy dest from) = true
has_words (tac.Op dest op left right) = true
has_words (tac.ObjectPlace dest object) = true
has_words (tac.GlobalPlace dest global) = true
has_words (tac.Load dest place pointer) = true
has_words (tac.Store place value) = true
has_words (tac.If cond first second) = true
has_words (tac.Loop head body next) = true
has_words tac.Break = true
has_words tac.Continue = true
has_words (tac.CallOwn dest function args) = true
has_words (tac.CallCross dest comp index args) = true
has_words (tac.Input dest) = true
has_words (tac.Output value) = true
has_words (tac.Alloc dest count words) = nat_lt words (2 ^ 32)
has_words (tac.Free pointer) = true
has_words (tac.Return value) = true

-- an element has a cell at least, and few
abbrev pub counts_elements : TacOp → Bool
counts_elements (tacop.PointerDifference cells) = nat_lt 0 cells && nat_lt cells (2 ^ 29)
counts_elements _ = true

-- a difference of pointers counts such elements
abbrev pub has_elements : TacStmt-F Bool → Bool
has_elements (tac.Op dest op left right) = counts_elements op
has_elements _ = true

abbrev pub takes_two : TacOp → Bool
takes_two (tacop.Unary op scalar) = false
takes_two (tacop.Binary op scalar) = true
takes_two tacop.PointerNot = false
takes_two (tacop.PointerMove minus cells index) = true
takes_two (tacop.PointerMember offset) = false
takes_two (tacop.PointerDifference cells) = true
takes_two (tacop.PointerCompare op) = true

-- an operator has as many values as it takes
abbrev pub has_operands : TacStmt-F Bool → Bool
has_operands (tac.Op dest op left right) = beq (is_some right) (takes_two op)
has_operands _ = true

-- a call has at most 8 arguments
abbrev pub passes_few : TacStmt-F Bool → Bool
passes_few (tac.CallOwn dest function args) = nat_le (length args) most_params
passes_few (tac.CallCross dest comp index args) = nat_le (length args) most_params
passes_few _ = true

-- a function returns a value exactly where it has a result
abbrev pub returns_result : Bool → TacStmt-F Bool → Bool
returns_result result (tac.Return value) = beq (is_some value) result
returns_result result _ = true

abbrev pub some_hold : List Bool → Bool
some_hold tests = list_any (λ holds. holds) tests

-- a `Break` that no loop encloses
abbrev pub stray_break : TacStmt-F Bool → Bool
stray_break tac.Break = true
stray_break (tac.Loop head body next) = false
stray_break stmt = list_any some_hold (parts stmt)

-- a `Continue` that doesn't stand in the body of the innermost loop
abbrev pub stray_continue : TacStmt-F Bool → Bool
stray_continue tac.Continue = true
stray_continue (tac.Loop head body next) = some_hold head || some_hold next
stray_continue stmt = list_any some_hold (parts stmt)

abbrev pub has_none : (TacStmt-F Bool → Bool) → List TacStmt → Bool
has_none stray stmts = not (some_hold (map (fold-TacStmt Bool stray) stmts))

-- the first `params` variables, those of the parameters, have one cell each
abbrev pub passes_words : ℕ → List ℕ → Bool
passes_words params cells = list_all (λ n. n == 1) (take params cells)

-- what is entered from outside gets words
abbrev pub enters_by_words : Option Entry → ℕ → List ℕ → Bool
enters_by_words None params cells = true
enters_by_words (Some entry) params cells = passes_words params cells

-- what a function keeps
pub record IsFunction (f : TacFnTree) : Type 0 where
  pub few_params : f.params ≤ most_params
  pub few_nodes : f.nodes ≤ most_nodes
  pub few_temps : f.temps ≤ f.nodes
  pub light : entry_weight f.params + weight f.body < instrs_a_node * f.nodes
  pub params_stored : f.params ≤ length f.objects
  pub words_enter : IsTrue (enters_by_words f.entry f.params f.objects)
  pub own_temps : IsTrue (everywhere (names_own_temps f.temps) f.body)
  pub own_objects : IsTrue (everywhere (names_own_object (length f.objects)) f.body)
  pub words : IsTrue (everywhere has_words f.body)
  pub elements : IsTrue (everywhere has_elements f.body)
  pub operands : IsTrue (everywhere has_operands f.body)
  pub few_arguments : IsTrue (everywhere passes_few f.body)
  pub results_returned : IsTrue (everywhere (returns_result f.result) f.body)
  pub breaks_in_loops : IsTrue (has_none stray_break f.body)
  pub continues_in_bodies : IsTrue (has_none stray_continue f.body)
  pub assigned_first : IsTrue (all_assigned_first f.temps f.body)

-- a statement neither allocates nor frees
abbrev pub leaves_heap : TacStmt-F Bool → Bool
leaves_heap (tac.Alloc dest count words) = false
leaves_heap (tac.Free pointer) = false
leaves_heap _ = true

-- some statement of code allocates or frees
abbrev pub uses_heap : List TacStmt → Bool
uses_heap stmts = not (everywhere leaves_heap stmts)
