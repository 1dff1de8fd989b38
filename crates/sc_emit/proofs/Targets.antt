-- The relocations of a function's code name what its statements name.
use Rattle.sc_emit.proofs.Common.{Bool, Each, FrameTree, Inside, Instr, Line, List, None, Option, Place, Plan, Some}
use Rattle.sc_emit.proofs.Common.{TacFnTree, TacStmt, TacStmt-F, [], a0, all_true, and_first, and_from, and_rest}
use Rattle.sc_emit.proofs.Common.{call_cross, call_own, code_of, each_before, environment_call, everywhere as each_of}
use Rattle.sc_emit.proofs.Common.{fold-TacStmt, fold-roll-TacStmt, function_lines, is_named, is_near, keep, list_all}
use Rattle.sc_emit.proofs.Common.{load_from, loading, map, map-TacStmt, moved_by, names_only, object_offset}
use Rattle.sc_emit.proofs.Common.{object_read, object_store, operation, order_keeps, pass, place_of_global, plainly}
use Rattle.sc_emit.proofs.Common.{plan_of, receive, refers_only, refl, relocation_of, relocations_from, result_register}
use Rattle.sc_emit.proofs.Common.{return, select, select_all, select_step, short_form, short_operation, short_return}
use Rattle.sc_emit.proofs.Common.{sp, stmt_induction, store_to, straight, subst, suc, sym, true, turning_by, with_parts}
use Rattle.sc_emit.proofs.Common.{word_of_constant, ℕ, ◌&&◌, ◌++◌, ◌∙◌, ◌∷◌, ◌≡◌}
use Rattle.sc_tac.specs.Prelude.{everywhere}
use Rattle.sc_emit_select.specs.Prelude.{Piece}
use Rattle.sc_tac.specs.declared.machine_code.Relocation.{Relocation}
use Rattle.sc_tac.specs.declared.machine_code.Target.{Target}
unfoldable use Rattle.sc_tac.specs.declared.stmt.TacStmt.{roll-TacStmt}
use Rattle.sc_tac.specs.declared.stmt.TacStmt.TheOpen as tac
use Rattle.sc_emit.proofs.Branches.{all_append, PassesAll, IsMild, followed_passes, fork_passes, cycle_passes}
use Rattle.sc_emit.proofs.Branches.{function_passes, rotated_passes}

module _ (function : ℕ → Bool) (entry : (comp index : ℕ) → Bool) (global : ℕ → Bool) where
  abbrev own : TacStmt-F Bool → Bool
  own = names_only function entry global

  abbrev is_named_target : Option Target → Bool
  is_named_target None = true
  is_named_target (Some target) = is_named function entry global target

  abbrev is_named_line : Line → Bool
  is_named_line line = is_named_target line.target

  named_mild : IsMild is_named_line
  named_mild = record { mild = λ instr h. refl }

  plainly_named : (instrs : List Instr) → list_all is_named_line (plainly instrs) ≡ true
  plainly_named [] = refl
  plainly_named (i ∷ is) = plainly_named is

  -- RELOCATIONS
  abbrev AllNamed : List Relocation → Type 0
  AllNamed relocations = list_all {X = Relocation} (λ r. is_named function entry global r.target) relocations ≡ true

  relocation_named : (at : ℕ) (target : Option Target) → is_named_target target ≡ true →
      AllNamed (relocation_of at target)
  relocation_named at None h = refl
  relocation_named at (Some target) h = and_from (is_named function entry global target) true h refl

  relocations_named : (at : ℕ) (lines : List Line) → list_all is_named_line lines ≡ true →
      AllNamed (relocations_from at lines)
  relocations_named at [] h = refl
  relocations_named at (line ∷ lines) h =
      all_append (λ r. is_named function entry global r.target) (relocation_of at line.target)
      (relocations_from (suc at) lines)
      (relocation_named at line.target (and_first (is_named_line line) (list_all is_named_line lines) h))
      (relocations_named (suc at) lines (and_rest (is_named_line line) (list_all is_named_line lines) h))

  -- STATEMENTS
  module _ (frame : FrameTree) (places : List Place) (plan : Plan) where
    abbrev named_inside : TacStmt → Bool
    named_inside = fold-TacStmt Bool (with_parts own)

    abbrev Named : TacStmt → Type 0
    Named stmt = named_inside stmt ≡ true → PassesAll is_named_line (select frame places plan stmt)

    abbrev Passes : TacStmt → Type 0
    Passes stmt = PassesAll is_named_line (select frame places plan stmt)

    row_passes : (stmts : List TacStmt) → Each Passes stmts →
        PassesAll is_named_line (select_all frame places plan stmts)
    row_passes stmts h =
        order_keeps frame places plan (PassesAll is_named_line) (record { passes = λ b c. refl })
        (λ t o. record { passes = λ b c. plainly_named (object_read frame places t o) })
        (λ t l o w. record { passes = λ b c. plainly_named (short_operation frame places t l (short_form o w)) })
        (λ v o. record { passes = λ b c. plainly_named (object_store frame places v o) })
        (λ l o w. record { passes = λ b c. plainly_named (short_return frame places l (short_form o w)) })
        (followed_passes is_named_line) stmts h

    each_named : (stmts : List TacStmt) → Each Named stmts → all_true (map named_inside stmts) ≡ true →
        Each Passes stmts
    each_named [] h all = tt
    each_named (stmt ∷ rest) h all = (
      h.0 (and_first (named_inside stmt) (all_true (map named_inside rest)) all),
      each_named rest h.1 (and_rest (named_inside stmt) (all_true (map named_inside rest)) all),
    )

    row_named : (stmts : List TacStmt) → Each Named stmts → all_true (map named_inside stmts) ≡ true →
        PassesAll is_named_line (select_all frame places plan stmts)
    row_named stmts h all = row_passes stmts (each_named stmts h all)

    loop_named : (head body next : List TacStmt) → Each Passes head → Each Passes body → Each Passes next →
        PassesAll is_named_line
        (select_step frame places plan (map-TacStmt _ _ (select frame places plan) (tac.Loop head body next)))
    loop_named head body next hh hb hn =
        let second : Piece = select_all frame places plan body in
        let third : Piece = select_all frame places plan next in
        turning_by frame places plan (PassesAll is_named_line) head second third
        (cycle_passes is_named_line named_mild frame places (select_all frame places plan head) second third
        (row_passes head hh) (row_passes body hb) (row_passes next hn)) (λ cond near t.
        rotated_passes is_named_line named_mild frame places cond (select_all frame places plan t.init) second third
        (row_passes t.init (each_before frame places plan Passes head t.init cond t.is hh)) (row_passes body hb)
        (row_passes next hn))

    straight_named : (lines : List Line) → list_all is_named_line lines ≡ true →
        PassesAll is_named_line (straight lines)
    straight_named lines h = record { passes = λ b c. h }

    unlinked : (instrs : List Instr) → PassesAll is_named_line (straight (plainly instrs))
    unlinked instrs = straight_named (plainly instrs) (plainly_named instrs)

    global_named : (dest number : ℕ) → global number ≡ true →
        PassesAll is_named_line (straight (place_of_global frame places dest number))
    global_named dest number h = straight_named (place_of_global frame places dest number)
        (and_from (global number) _ h (plainly_named (keep frame places dest)))

    own_named : (dest : Option ℕ) (number : ℕ) (args : List ℕ) → function number ≡ true →
        PassesAll is_named_line (straight (call_own frame places dest number args))
    own_named dest number args h = straight_named (call_own frame places dest number args)
        (all_append is_named_line (plainly (pass frame places a0 args)) _ (plainly_named (pass frame places a0 args))
        (and_from (function number) _ h (plainly_named (receive frame places dest))))

    cross_named : (dest : Option ℕ) (comp index : ℕ) (args : List ℕ) → entry comp index ≡ true →
        PassesAll is_named_line (straight (call_cross frame places dest comp index args))
    cross_named dest comp index args h = straight_named (call_cross frame places dest comp index args)
        (all_append is_named_line (plainly (pass frame places a0 args)) _ (plainly_named (pass frame places a0 args))
        (and_from (entry comp index) _ h (plainly_named (receive frame places dest))))

    layer_named : (layer : TacStmt-F TacStmt) → Inside Named layer →
        with_parts own (map-TacStmt _ _ named_inside layer) ≡ true →
        PassesAll is_named_line (select_step frame places plan (map-TacStmt _ _ (select frame places plan) layer))
    layer_named (tac.Const dest value) h all = record {
      passes = λ b c.
          plainly_named
          (loading (result_register frame places dest) (word_of_constant value) ++ keep frame places dest);
    }
    layer_named (tac.Copy dest from) h all = unlinked _
    layer_named (tac.Op dest o left right) h all =
        record { passes = λ b c. plainly_named (operation frame places dest o left right) }
    layer_named (tac.ObjectPlace dest object) h all = record {
      passes = λ b c.
          plainly_named
          (moved_by (result_register frame places dest) sp (object_offset frame object) ++ keep frame places dest);
    }
    layer_named (tac.GlobalPlace dest number) h all = global_named dest number (and_first (global number) true all)
    layer_named (tac.Load dest place pointer) h all =
        record { passes = λ b c. plainly_named (load_from frame places dest place) }
    layer_named (tac.Store place value) h all =
        record { passes = λ b c. plainly_named (store_to frame places place value) }
    layer_named (tac.If cond first second) h all =
        let a = all_true (map named_inside first) in
        let b = all_true (map named_inside second) in
        fork_passes is_named_line named_mild frame places cond (map (select frame places plan) first)
        (map (select frame places plan) second) (row_named first h.0 (and_first a (b && true) all))
        (row_named second h.1 (and_first b true (and_rest a (b && true) all)))
    layer_named (tac.Loop head body next) h all =
        let a = all_true (map named_inside head) in
        let b = all_true (map named_inside body) in
        let c = all_true (map named_inside next) in
        let rest = and_rest a (b && (c && true)) all in
        loop_named head body next (each_named head h.0 (and_first a (b && (c && true)) all))
        (each_named body h.1 (and_first b (c && true) rest))
        (each_named next h.2 (and_first c true (and_rest b (c && true) rest)))
    layer_named tac.Break h all = record { passes = λ b c. refl }
    layer_named tac.Continue h all = record { passes = λ b c. refl }
    layer_named (tac.CallOwn dest number args) h all = own_named dest number args (and_first (function number) true all)
    layer_named (tac.CallCross dest comp index args) h all =
        cross_named dest comp index args (and_first (entry comp index) true all)
    layer_named (tac.Input dest) h all = unlinked (environment_call 1 ++ receive frame places dest)
    layer_named (tac.Output value) h all = unlinked _
    layer_named (tac.Alloc dest count words) h all = unlinked _
    layer_named (tac.Free pointer) h all = unlinked _
    layer_named (tac.Return value) h all = record { passes = λ b c. plainly_named (return frame places value) }

    stmt_named : (stmt : TacStmt) → Named stmt
    stmt_named = stmt_induction Named (λ layer h all.
        subst (PassesAll is_named_line) (sym (fold-roll-TacStmt Piece (select_step frame places plan) layer))
        (layer_named layer h (sym (fold-roll-TacStmt Bool (with_parts own) layer) ∙ all)))

  pub targets_named : (f : TacFnTree) (places : List Place) (frame : FrameTree) → everywhere own f.body ≡ true →
      refers_only function entry global (code_of f places frame) ≡ true
  targets_named f places frame h =
      let plan : Plan = plan_of f (is_near f places frame) in
      relocations_named 0 (function_lines frame places plan f)
      (function_passes frame places plan is_named_line named_mild f
      (row_named frame places plan f.body
      (each_of (Named frame places plan) (stmt_named frame places plan) f.body) h))
