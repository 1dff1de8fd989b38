-- How control leaves the code of a function that promises a value: with one, where it returns.
use Rattle.std.proofs.Common.{Bool, List, None, Some, [], ap, false, map, refl, subst}
use Rattle.std.proofs.Common.{suc, sym, true, zero, ℕ, ◌∙◌, ◌∷◌, ◌≡◌}
use Rattle.std.specs.Bool.{beq}
use Rattle.sc_base.proofs.Bools.{and_first, and_rest}
use Rattle.sc_core.proofs.Induction.{Each, everywhere as everywhere_in}
use Rattle.sc_core.specs.Meaning.{at_brace}
use Rattle.sc_core.specs.Prelude.{Arith, Break, Calls, Continue, Exit, Here, Left, Next, Piece, Reached, Return, State}
use Rattle.sc_core.specs.Prelude.{Stopped, all_do, and_then, choose, closed, computed, follow, in_loop, in_order}
use Rattle.sc_core.specs.Prelude.{is_true, leave}
use Rattle.sc_core.specs.Prelude.{elements_allocated, load, rounds, take, turn}
use Rattle.sc_tac.proofs.Induction.{Inside, stmt_induction}
use Rattle.sc_tac.specs.Prelude.{Codes, Temps, all_true, code_does, code_function, code_step, everywhere, no_temps}
use Rattle.sc_tac.specs.Prelude.{operated, read, read_all, returns_result, second, stmt_does, with_parts}
use Rattle.sc_core.specs.Memory.{freed, store}
use Rattle.sc_core.specs.declared.expr.CallTarget.TheVariants.{Own, Cross, Input, Output}
use Rattle.sc_tac.specs.declared.function.TacFnTree.{TacFnTree}
use Rattle.sc_tac.specs.declared.stmt.TacStmt.{TacStmt, TacStmt-F, fold-TacStmt, fold-roll-TacStmt, map-TacStmt}
use Rattle.sc_tac.specs.declared.stmt.TacStmt.TheOpen as tac
use Rattle.sc_core_laws.proofs.Promises.{reached_if, reached_then}
use Rattle.sc_core_laws.specs.Prelude.{IfReached, Promised}

module _ (result : Bool) where
  abbrev Good : Exit → Type 0
  Good Next = Unit {0}
  Good Break = Unit {0}
  Good Continue = Unit {0}
  Good (Return v) = Promised result v

  abbrev Ends : Piece (Left Temps) → Type 0
  Ends o = IfReached (λ l. Good l.exit) o

  ends_in_order : (o : Piece (Left Temps)) (f : Codes) → Ends o → ((a : Temps) (s : State) → Ends (f a s)) →
      Ends (follow in_order o f)
  ends_in_order (Stopped end s) f h k = tt
  ends_in_order (Reached l s) f h k = by l.exit h where
    by : (exit : Exit) → Good exit → Ends (take (in_order exit) f l.carried s)
    by Next h = k l.carried s
    by Break h = tt
    by Continue h = tt
    by (Return v) h = h

  ends_in_loop : (o : Piece (Left Temps)) (f : Codes) → Ends o → ((a : Temps) (s : State) → Ends (f a s)) →
      Ends (follow in_loop o f)
  ends_in_loop (Stopped end s) f h k = tt
  ends_in_loop (Reached l s) f h k = by l.exit h where
    by : (exit : Exit) → Good exit → Ends (take (in_loop exit) f l.carried s)
    by Next h = k l.carried s
    by Break h = tt
    by Continue h = k l.carried s
    by (Return v) h = h

  module _ (head body next : Codes) (h : (a : Temps) (s : State) → Ends (head a s))
      (b : (a : Temps) (s : State) → Ends (body a s)) (x : (a : Temps) (s : State) → Ends (next a s)) where
    ends_rounds : (n : ℕ) (a : Temps) (s : State) → Ends (rounds n head body next a s)
    ends_rounds zero a s = tt
    ends_rounds (suc n) a s = ends_in_loop (head a s) _ (h a s) (λ a s. reached_then (λ l. Good l.exit) (turn s) _
        (λ u s.
        ends_in_loop (body a s) _ (b a s) (λ a s. ends_in_loop (next a s) _ (x a s) (ends_rounds n))))

  module _ (arith : Arith) (here : Here) (C : Calls) where
    abbrev test : TacStmt → Bool
    test = fold-TacStmt Bool (with_parts (returns_result result))

    abbrev Fine : TacStmt → Type 0
    Fine stmt = test stmt ≡ true → (a : Temps) (s : State) → Ends (stmt_does arith here C stmt a s)

    row_fine : (stmts : List TacStmt) → Each Fine stmts → all_true (map test stmts) ≡ true → (a : Temps) (s : State) →
        Ends (all_do (map (stmt_does arith here C) stmts) a s)
    row_fine [] each all a s = tt
    row_fine (x ∷ rest) each all a s = ends_in_order (stmt_does arith here C x a s) _
        (each.0 (and_first (test x) _ all) a s) (row_fine rest each.1 (and_rest (test x) _ all))

    abbrev G : Left Temps → Type 0
    G l = Good l.exit

    next_after : {V : Type 0} (o : Piece V) (k : V → State → Piece (Left Temps)) →
        ((v : V) (s : State) → Ends (k v s)) → Ends (and_then o k)
    next_after o k h = reached_then G o k h

    returned : (b : Bool) → beq false b ≡ true → Promised b None
    returned true h e = let no : false ≡ true = h in absurd (cc no)
    returned false h e = let no : false ≡ true = e in absurd (cc no)

    layer_fine : (k : TacStmt-F TacStmt) → Inside Fine k →
        with_parts (returns_result result) (map-TacStmt _ _ test k) ≡ true → (a : Temps) (s : State) →
        Ends (code_step arith here C (map-TacStmt _ _ (stmt_does arith here C) k) a s)
    layer_fine (tac.Const dest value) i h a s = tt
    layer_fine (tac.Copy dest from) i h a s = next_after (read here from a s) _ (λ v s. tt)
    layer_fine (tac.Op dest o left right) i h a s =
        next_after (read here left a s) _ (λ v s. next_after (second here right v a s) _ (λ w s.
        next_after (computed here 0 (operated arith (s.memory here.comp) o v w) s) _ (λ z s. tt)))
    layer_fine (tac.ObjectPlace dest object) i h a s = tt
    layer_fine (tac.GlobalPlace dest global) i h a s = tt
    layer_fine (tac.Load dest place pointer) i h a s = next_after (read here place a s) _ (λ q s.
        next_after (computed here 0 (load (s.memory here.comp) pointer q) s) _ (λ z s. tt))
    layer_fine (tac.Store place value) i h a s =
        next_after (read here place a s) _ (λ q s. next_after (read here value a s) _ (λ w s.
        next_after (computed here 0 (store (s.memory here.comp) q w) s) _ (λ z s. tt)))
    layer_fine (tac.If cond x y) i h a s = next_after (read here cond a s)
        (λ v s. choose v (all_do (map (stmt_does arith here C) x) a s) (all_do (map (stmt_does arith here C) y) a s))
        (λ v s. reached_if G (is_true v) (all_do (map (stmt_does arith here C) x) a s)
        (all_do (map (stmt_does arith here C) y) a s)
        (row_fine x i.0 (and_first (all_true (map test x)) _ (and_rest true _ h)) a s)
        (row_fine y i.1 (and_first (all_true (map test y)) true
        (and_rest (all_true (map test x)) _ (and_rest true _ h))) a s))
    layer_fine (tac.Loop x y z) i h a s =
        let all = and_rest true _ h in
        let following = and_rest (all_true (map test x)) _ all in
        ends_rounds (all_do (map (stmt_does arith here C) x)) (all_do (map (stmt_does arith here C) y))
        (all_do (map (stmt_does arith here C) z)) (row_fine x i.0 (and_first (all_true (map test x)) _ all))
        (row_fine y i.1 (and_first (all_true (map test y)) _ following))
        (row_fine z i.2 (and_first (all_true (map test z)) true (and_rest (all_true (map test y)) _ following)))
        (suc s.turns) a s
    layer_fine tac.Break i h a s = tt
    layer_fine tac.Continue i h a s = tt
    layer_fine (tac.CallOwn dest function args) i h a s = next_after (read_all here args a s) _ (λ vs s.
        next_after (C here.comp (Own function) vs s) _ (λ w s. tt))
    layer_fine (tac.CallCross dest comp index args) i h a s = next_after (read_all here args a s) _ (λ vs s.
        next_after (C here.comp (Cross comp index) vs s) _ (λ w s. tt))
    layer_fine (tac.Input dest) i h a s = next_after (C here.comp Input [] s) _ (λ w s. tt)
    layer_fine (tac.Output value) i h a s = next_after (read_all here (value ∷ []) a s) _ (λ vs s.
        next_after (C here.comp Output vs s) _ (λ w s. tt))
    layer_fine (tac.Alloc dest count words) i h a s = next_after (read here count a s) _ (λ v s.
        next_after (elements_allocated here v words 0 s) _ (λ q s. tt))
    layer_fine (tac.Free pointer) i h a s = next_after (read here pointer a s) _ (λ v s.
        next_after (computed here 0 (freed (s.memory here.comp) v) s) _ (λ z s. tt))
    layer_fine (tac.Return None) i h a s = returned result (and_first (beq false result) true h)
    layer_fine (tac.Return (Some t)) i h a s =
        next_after (read here t a s) (λ v s. leave (Return (Some v)) a s) (λ v s e. refl)

    stmt_fine : (stmt : TacStmt) → Fine stmt
    stmt_fine = stmt_induction Fine (λ k i h a s. subst Ends
        (sym (ap (λ f. f a s) (fold-roll-TacStmt Codes (code_step arith here C) k)))
        (layer_fine k i (sym (fold-roll-TacStmt Bool (with_parts (returns_result result)) k) ∙ h) a s))

    code_fine : (stmts : List TacStmt) → everywhere (returns_result result) stmts ≡ true → (a : Temps) (s : State) →
        Ends (code_does arith here C stmts a s)
    code_fine stmts = row_fine stmts (everywhere_in Fine stmt_fine stmts)

  brace : (is_main : Bool) (b : Bool) → b ≡ result → (here : Here) (s : State) →
      IfReached (Promised b) (at_brace b is_main 0 here s)
  brace true true is here s = λ e. refl
  brace false true is here s = tt
  brace is_main false is here s = λ e. let no : false ≡ true = e in absurd (cc no)

  closed_fine : (is_main : Bool) (here : Here) (exit : Exit) → Good exit → (s : State) →
      IfReached (Promised result) (closed exit result is_main 0 here s)
  closed_fine is_main here Next h s = brace is_main result refl here s
  closed_fine is_main here Break h s = brace is_main result refl here s
  closed_fine is_main here Continue h s = brace is_main result refl here s
  closed_fine is_main here (Return v) h s = h

  closing_fine : (is_main : Bool) (here : Here) (o : Piece (Left Temps)) → Ends o →
      IfReached (Promised result) (and_then o (λ l s. closed l.exit result is_main 0 here s))
  closing_fine is_main here (Reached l s) h = closed_fine is_main here l.exit h s
  closing_fine is_main here (Stopped end s) h = tt

-- a function that promises a value gives one
pub function_gives : (arith : Arith) (f : TacFnTree) → everywhere (returns_result f.result) f.body ≡ true →
    (C : Calls) (here : Here) (s : State) → IfReached (Promised f.result) ((code_function arith f).does C here s)
function_gives arith f all C here s = closing_fine f.result _ here (code_does arith here C f.body no_temps s)
    (code_fine f.result arith here C f.body all no_temps s)
