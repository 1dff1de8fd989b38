-- What the statements of a text that performs a part do, one by one.
use Rattle.sc_back_replay_laws.proofs.Common.{Action, Acts, AssignLine, Block, Blocks, CallLine, CallTarget, Calls}
use Rattle.sc_back_replay_laws.proofs.Common.{Cross, Here, IfLine, Input, Interfaces, Left, Lines, List, Lit, Next}
use Rattle.sc_back_replay_laws.proofs.Common.{NoLine, None, Ok, Option, Output, Piece, Reached, Return, ReturnLine}
use Rattle.sc_back_replay_laws.proofs.Common.{ReturnValueLine, Row, Scalar, Shape, Some, State, Stopped, TurnsOut, Two}
use Rattle.sc_back_replay_laws.proofs.Common.{TypedStmt, TypedStruct, Value, Var, Ways, WhileLine, Word, []}
use Rattle.sc_back_replay_laws.proofs.Common.{action_kind, all_do, and_then, ap, assign, block_does, c_arith}
use Rattle.sc_back_replay_laws.proofs.Common.{call_statement, calls_out, choose, computed, counter, counter_is, eq-eqb}
use Rattle.sc_back_replay_laws.proofs.Common.{evaluated, expr, follow, in_order, leave, lines_are, lines_do, map}
use Rattle.sc_back_replay_laws.proofs.Common.{ne_eqb, of_bool, or_int, params_at, refl, rolls-Binary, rolls-Variable}
use Rattle.sc_back_replay_laws.proofs.Common.{rounds, row_kind, stmt_at, stmt_does, stmts, store, suc, sym, test}
use Rattle.sc_back_replay_laws.proofs.Common.{turn_of, values, variable, variable_at, waits, way, with_memory, zero, ℕ}
use Rattle.sc_back_replay_laws.proofs.Common.{◌++◌, ◌==◌, ◌∙◌, ◌∷◌, ◌≡◌}
use Rattle.sc_base.specs.declared.op.BinaryOp.TheVariants as op
use Rattle.sc_event.specs.declared.row.Action.TheVariants as act
use Rattle.sc_core.specs.declared.expr.TypedKind
use Rattle.sc_core.specs.declared.expr.VarRef.TheVariants.{Global}
use Rattle.sc_core.specs.declared.stmt.TypedStmtKind as kind
use Rattle.sc_core.specs.declared.stmt.TypedStmtKind.TheVariants.{rolls-Assign, rolls-Call, rolls-If, rolls-Return}
use Rattle.sc_core.specs.declared.stmt.TypedStmtKind.TheVariants.{rolls-ReturnValue, rolls-While}
use Rattle.sc_core.specs.declared.ty.Ty.TheVariants as ty
use Rattle.sc_core.specs.declared.value.Cell.TheVariants as cell
use Rattle.sc_core.specs.declared.value.Want.TheVariants as want
use Rattle.sc_back_replay_laws.proofs.Values.{Gives, int_is, int_shape, literal_is, word_is, word_shape, word_shapes}
use Rattle.sc_back_replay_laws.proofs.Values.{words_are}

-- STATEMENTS BY SHAPES
abbrev pub bt_n : Shape
bt_n = Var ty.Unsigned (Global 0)

abbrev pub bt_is : ℕ → Shape
bt_is number = Two ty.Int op.Equal bt_n (Lit ty.Unsigned number)

abbrev pub action_line : Interfaces → Option Scalar → ℕ → Action → Lines
action_line interfaces result line (act.Call to index words) =
    CallLine line (Cross to index) (word_shapes (params_at interfaces to index) words) NoLine
action_line interfaces result line (act.Ret None) = ReturnLine line NoLine
action_line interfaces result line (act.Ret (Some word)) =
    ReturnValueLine line (word_shape (or_int result) word) NoLine
action_line interfaces result line (act.Out word) = CallLine line Output (int_shape word ∷ []) NoLine
action_line interfaces result line (act.In word) = CallLine line Input [] NoLine
action_line interfaces result line (act.End word) = ReturnValueLine line (int_shape word) NoLine

-- a row of the text, and its parts
abbrev pub row_line : Interfaces → Option Scalar → Row → (line set_line action_line : ℕ) → Lines
row_line interfaces result row line set_line at =
    IfLine line (bt_is row.number)
    (AssignLine set_line bt_n (Lit ty.Unsigned (suc row.number)) (action_line interfaces result at row.action)) NoLine
    NoLine

abbrev pub end_line : ℕ → Lines
end_line line = WhileLine line (Lit ty.Int 1) NoLine NoLine

counter_shape : expr bt_n ≡ counter
counter_shape = ap (λ k. record { ty = ty.Unsigned; kind = k }) (rolls-Variable (Global 0))

test_shape : (number : ℕ) → expr (bt_is number) ≡ counter_is number
test_shape number =
    ap (λ k. record { ty = ty.Int; kind = k }) (rolls-Binary op.Equal (expr bt_n) (expr (Lit ty.Unsigned number))) ∙
    (λ i. record {
      ty = ty.Int;
      kind = TypedKind.Binary op.Equal (counter_shape i) (literal_is ty.Unsigned number i);
    })

action_is : (interfaces : Interfaces) (result : Option Scalar) (line : ℕ) (action : Action) →
    stmts (action_line interfaces result line action) ≡ stmt_at line (action_kind interfaces result action) ∷ []
action_is interfaces result line (act.Call to index words) =
    ap (λ k. stmt_at line k ∷ [])
    (rolls-Call _ ∙ ap (calls_out (Cross to index)) (words_are (params_at interfaces to index) words))
action_is interfaces result line (act.Ret None) = ap (λ k. stmt_at line k ∷ []) rolls-Return
action_is interfaces result line (act.Ret (Some word)) =
    ap (λ k. stmt_at line k ∷ []) (rolls-ReturnValue _ ∙ ap kind.ReturnValue (word_is (or_int result) word))
action_is interfaces result line (act.Out word) =
    ap (λ k. stmt_at line k ∷ []) (rolls-Call _ ∙ ap (λ e. calls_out Output (e ∷ [])) (int_is word))
action_is interfaces result line (act.In word) = ap (λ k. stmt_at line k ∷ []) (rolls-Call _)
action_is interfaces result line (act.End word) =
    ap (λ k. stmt_at line k ∷ []) (rolls-ReturnValue _ ∙ ap kind.ReturnValue (int_is word))

row_is : (interfaces : Interfaces) (result : Option Scalar) (row : Row) (line set_line at : ℕ) →
    stmts (row_line interfaces result row line set_line at) ≡
    stmt_at line (row_kind interfaces result row set_line at) ∷ []
row_is interfaces result row line set_line at =
    ap (λ k. stmt_at line k ∷ []) (rolls-If _ _ _ ∙
    (λ i. kind.If (test_shape row.number i) (stmt_at set_line ((rolls-Assign _ _ ∙
    (λ j. kind.Assign (counter_shape j) (literal_is ty.Unsigned (suc row.number) j))) i) ∷
    action_is interfaces result at row.action i) []))

waits_is : (line : ℕ) → stmts (end_line line) ≡ stmt_at line waits ∷ []
waits_is line =
    ap (λ k. stmt_at line k ∷ []) (rolls-While _ _ ∙ ap (λ e. kind.While e []) (literal_is ty.Int 1))

-- THE COUNTER
-- the block of `bt_n`
abbrev pub counting : ℕ → Block
counting n = variable (cell.Word n ∷ [])

-- the state in which the counter of a compartment stands so
abbrev pub counted : ℕ → ℕ → Blocks → State → State
counted comp n rest s = with_memory comp (counting n ∷ rest) s

-- a piece that stops for want of turns, with the events of a state
pub record Halts {V : Type 0} (s : State) (o : Piece V) : Type 0 where
  pub last : State
  pub is : o ≡ Stopped TurnsOut last
  pub trace : last.trace ≡ s.trace

module _ (structs : List TypedStruct) (here : Here) (params : ℕ) (by : Calls) where
  abbrev pub way_of : Shape → Ways
  way_of = way c_arith structs here params

  -- what these statements do
  abbrev pub does : List TypedStmt → Acts
  does body = block_does c_arith structs here params by body

  -- the statement of an action
  abbrev pub action_does : Interfaces → Option Scalar → ℕ → Action → List Acts
  action_does interfaces result line action =
      lines_do c_arith structs here params by (action_line interfaces result line action)

  abbrev pub row_does : (line set_line number : ℕ) → List Acts → Acts
  row_does line set_line number x a s =
      and_then (evaluated here want.Value (way_of (bt_is number)) line s)
      (λ v s. choose v (all_do (assign here (way_of bt_n) (way_of (Lit ty.Unsigned (suc number))) set_line ∷ x) a s)
      (leave Next a s))

  pub row_does_is : (interfaces : Interfaces) (result : Option Scalar) (row : Row) (line set_line at : ℕ)
      (rest : List TypedStmt) →
      does (stmt_at line (row_kind interfaces result row set_line at) ∷ rest) ≡
      all_do (row_does line set_line row.number (action_does interfaces result at row.action) ∷
      map (stmt_does c_arith structs here params by) rest)
  row_does_is interfaces result row line set_line at rest =
      ap (λ x. all_do (map (stmt_does c_arith structs here params by) x ++
      map (stmt_does c_arith structs here params by) rest))
      (sym (row_is interfaces result row line set_line at)) ∙
      ap (λ x. all_do (x ++ map (stmt_does c_arith structs here params by) rest))
      (lines_are c_arith structs here params by (row_line interfaces result row line set_line at))

  module _ (line set_line : ℕ) (x : List Acts) (y : Acts) (rest : Blocks) (s : State) where
    -- the row, then what follows
    abbrev row_then : ℕ → Piece (Left (Unit {0}))
    row_then number = follow in_order (row_does line set_line number x tt s) y

    abbrev set_then : ℕ → Piece (Left (Unit {0}))
    set_then number = all_do (assign here (way_of bt_n) (way_of (Lit ty.Unsigned (suc number))) set_line ∷ x) tt s

    tested : (number n : ℕ) → s.memory here.comp ≡ counting n ∷ rest →
        row_then number ≡ follow in_order (choose (of_bool (n == number)) (set_then number) (leave Next tt s)) y
    tested number n is =
        ap (λ blocks. follow in_order (and_then (computed here line (way_of (bt_is number) want.Value blocks) s)
        (λ v s. choose v (all_do (assign here (way_of bt_n) (way_of (Lit ty.Unsigned (suc number))) set_line ∷ x) tt s)
        (leave Next tt s))) y) is

    -- where the counter is elsewhere, the text goes on after the row
    pub passes : (number n : ℕ) → s.memory here.comp ≡ counting n ∷ rest → (n ≡ number → ⊥) →
        row_then number ≡ y tt s
    passes number n is ne =
        tested number n is ∙
        ap (λ b. follow in_order (choose (of_bool b) (set_then number) (leave Next tt s)) y) (ne_eqb n number ne)

    sets : (number n : ℕ) → s.memory here.comp ≡ counting n ∷ rest →
        set_then number ≡ all_do x tt (counted here.comp (suc number) rest s)
    sets number n is =
        ap (λ blocks. follow in_order (and_then
        (computed here set_line (store blocks (variable_at here params (Global 0)) (Word (suc number))) s)
        (λ blocks s. leave Next tt (with_memory here.comp blocks s))) (all_do x)) is

    -- where it is there, the counter is set, and the action is done
    pub acts_there : (number : ℕ) → s.memory here.comp ≡ counting number ∷ rest →
        row_then number ≡ follow in_order (all_do x tt (counted here.comp (suc number) rest s)) y
    acts_there number is =
        tested number number is ∙
        ap (λ b. follow in_order (choose (of_bool b) (set_then number) (leave Next tt s)) y)
        (eq-eqb number number refl) ∙ ap (λ o. follow in_order o y) (sets number number is)

  -- THE END
  abbrev round_of : ℕ → ℕ → State → Piece (Left (Unit {0}))
  round_of n line s = rounds n (test here (way_of (Lit ty.Int 1)) line) (all_do []) (leave Next) tt s

  for_ever : (n m line : ℕ) (s : State) → s.turns ≡ m → Halts s (round_of n line s)
  for_ever zero m line s is = record { last = s; is = refl; trace = refl }
  for_ever (suc n) zero line s is =
      record { last = s; is = ap (λ k. and_then (turn_of k s) (λ _ s. round_of n line s)) is; trace = refl }
  for_ever (suc n) (suc m) line s is =
      let u : State = record s { turns = m } in
      let rest : Halts u (round_of n line u) = for_ever n m line u refl in
      record {
        last = rest.last;
        is = ap (λ k. and_then (turn_of k s) (λ _ s. round_of n line s)) is ∙ rest.is;
        trace = rest.trace;
      }

  -- `while (1) { }`
  pub waits_halts : (line : ℕ) (s : State) → Halts s (does (stmt_at line waits ∷ []) tt s)
  waits_halts line s =
      let h : Halts s (round_of (suc s.turns) line s) = for_ever (suc s.turns) s.turns line s refl in
      record {
        last = h.last;
        is = ap (λ x. all_do (map (stmt_does c_arith structs here params by) x) tt s) (sym (waits_is line)) ∙
            ap (λ x. all_do x tt s) (lines_are c_arith structs here params by (end_line line)) ∙
            ap (λ o. follow in_order o (all_do [])) h.is;
        trace = h.trace;
      }

  -- ACTIONS
  -- expressions that give these words, one by one
  pub data Give : List Shape → List ℕ → Type 0 where
    none : Give [] []
    one : {e : Shape} {es : List Shape} {w : ℕ} {ws : List ℕ} → Gives structs here params e w → Give es ws →
        Give (e ∷ es) (w ∷ ws)

  values_are : (es : List Shape) (ws : List ℕ) → Give es ws → (blocks : Blocks) →
      values (map way_of es) blocks ≡ Ok (map (λ w. Word w) ws)
  values_are _ _ none blocks = refl
  values_are _ _ (one {es = es} {ws = ws} h rest) blocks = rw (h blocks, values_are es ws rest blocks) refl

  module _ (close : Left (Unit {0}) → State → Piece (Option Value)) (y : Acts) where
    after_call : (o : Piece (Option Value)) →
        and_then (follow in_order (follow in_order (and_then o (λ r s. leave Next tt s)) (all_do [])) y) close ≡
        and_then o (λ v s. and_then (y tt s) close)
    after_call (Reached v s) = refl
    after_call (Stopped e s) = refl

    pub call_does : (line : ℕ) (target : CallTarget) (es : List Shape) (ws : List ℕ) (s : State) → Give es ws →
        and_then (follow in_order (all_do (call_statement here by target (map way_of es) line ∷ []) tt s) y) close ≡
        and_then (by here.comp target (map (λ w. Word w) ws) s) (λ v s. and_then (y tt s) close)
    call_does line target es ws s h =
        ap (λ r. and_then (follow in_order (follow in_order (and_then (and_then (computed here line r s)
        (λ vs s. by here.comp target vs s)) (λ r s. leave Next tt s)) (all_do [])) y) close)
        (values_are es ws h (s.memory here.comp)) ∙ after_call (by here.comp target (map (λ w. Word w) ws) s)

    pub return_does : (line word : ℕ) (e : Shape) (s : State) → Gives structs here params e word →
        and_then (follow in_order (all_do (lines_do c_arith structs here params by (ReturnValueLine line e NoLine))
        tt s) y) close ≡
        close (record { exit = Return (Some (Word word)); carried = tt }) s
    return_does line word e s h =
        ap (λ r. and_then (follow in_order (follow in_order (and_then (computed here line r s)
        (λ v s. leave (Return (Some v)) tt s)) (all_do [])) y) close) (h (s.memory here.comp))
