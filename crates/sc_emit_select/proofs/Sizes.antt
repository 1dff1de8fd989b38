-- Pieces have as many lines as they say.
use Rattle.sc_emit_select.proofs.Common.{Each, FrameTree, Inside, Instr, Kind, Line, List, Other, Piece, Place, Plan}
use Rattle.sc_emit_select.proofs.Common.{TacStmt, TacStmt-F, [], arith, branch_back, choice, cycle, drop, first_scratch}
use Rattle.sc_emit_select.proofs.Common.{fold-roll-TacStmt, followed, in_order, in_turn, joined, jump_back, jump_over}
use Rattle.sc_emit_select.proofs.Common.{length, length-append, length-map, map, map-TacStmt, plain, plainly, refl}
use Rattle.sc_emit_select.proofs.Common.{rotated, select, select_all, select_step, stmt_induction, straight, subst, suc}
use Rattle.sc_emit_select.proofs.Common.{sym, take, testing, ℕ, ◌++◌, ◌+◌, ◌∷◌, ◌≡◌}
use Rattle.sc_core.proofs.Induction.{everywhere}
use Rattle.sc_tac.specs.declared.stmt.TacStmt.TheOpen as tac
use Rattle.sc_emit_select.proofs.Joining.{fork_keeps, from_keeps}
use Rattle.sc_emit_select.proofs.Turning.{each_before, turning_by}

pub record IsSized (piece : Piece) : Type 0 where
  pub sized : (to_break to_continue : ℕ) → length (piece.lines to_break to_continue) ≡ piece.size

followed_sized : (e f : Piece) → IsSized e → IsSized f → IsSized (followed e f)
followed_sized e f he hf = record {
  sized = λ b c.
      omega (
        arith,
        length-append (e.lines (f.size + b) (f.size + c)) (f.lines b c),
        he.sized (f.size + b) (f.size + c),
        hf.sized b c,
      );
}

module _ (frame : FrameTree) (places : List Place) (plan : Plan) where
  straight_sized : (lines : List Line) → IsSized (straight lines)
  straight_sized lines = record { sized = λ b c. refl }

  cycle_sized : (h b n : Piece) → IsSized h → IsSized b → IsSized n → IsSized (cycle frame places h b n)
  cycle_sized h b n hh hb hn = record {
    sized = λ to_break to_continue.
        let back : List Line = jump_back (h.size + (b.size + n.size)) ∷ [] in
        let last : List Line = n.lines 1 0 ++ back in
        let middle : List Line = b.lines (suc n.size) 0 ++ last in
        omega (
          arith,
          length-append (h.lines (b.size + suc n.size) 0) middle,
          length-append (b.lines (suc n.size) 0) last,
          length-append (n.lines 1 0) back,
          hh.sized (b.size + suc n.size) 0,
          hb.sized (suc n.size) 0,
          hn.sized 1 0,
        );
  }

  testing_sized : (cond lines : ℕ) →
      length (testing frame places cond lines) ≡ suc (length (take frame places first_scratch cond))
  testing_sized cond lines =
      let taking : List Instr = take frame places first_scratch cond in
      omega (
        arith,
        length-append (plainly taking) (branch_back frame places cond (lines + length taking) ∷ []),
        length-map taking plain,
      )

  rotated_sized : (cond : ℕ) (h b n : Piece) → IsSized h → IsSized b → IsSized n →
      IsSized (rotated frame places cond h b n)
  rotated_sized cond h b n hh hb hn = record {
    sized = λ to_break to_continue.
        let test : ℕ = suc (length (take frame places first_scratch cond)) in
        let tested : List Line = testing frame places cond (b.size + (n.size + h.size)) in
        let last : List Line = h.lines test 0 ++ tested in
        let middle : List Line = n.lines (h.size + test) 0 ++ last in
        omega (
          arith,
          length-append (b.lines (n.size + (h.size + test)) 0) middle,
          length-append (n.lines (h.size + test) 0) last,
          length-append (h.lines test 0) tested,
          testing_sized cond (b.size + (n.size + h.size)),
          hh.sized test 0,
          hb.sized (n.size + (h.size + test)) 0,
          hn.sized (h.size + test) 0,
        );
  }

  any_kind : (piece : Piece) (kind : Kind) → IsSized piece → IsSized (record piece { kind = kind })
  any_kind piece kind h = record { sized = h.sized }

  abbrev Sized : TacStmt → Type 0
  Sized stmt = IsSized (select frame places plan stmt)

  -- also of those from a number on
  pub from_sized : (stmts : List TacStmt) → Each Sized stmts → (i : ℕ) →
      IsSized (in_turn (drop i (joined frame places Other (map (select frame places plan) stmts))))
  from_sized stmts h i =
      from_keeps frame places plan IsSized (record { sized = λ b c. refl }) (λ t o. record { sized = λ b c. refl })
      (λ t l o w. record { sized = λ b c. refl }) (λ v o. record { sized = λ b c. refl })
      (λ l o w. record { sized = λ b c. refl }) followed_sized stmts h i

  row_sized : (stmts : List TacStmt) → Each Sized stmts →
      IsSized (in_order frame places (map (select frame places plan) stmts))
  row_sized stmts h = from_sized stmts h 0

  layer_sized : (layer : TacStmt-F TacStmt) → Inside Sized layer →
      IsSized (select_step frame places plan (map-TacStmt _ _ (select frame places plan) layer))
  layer_sized (tac.Const dest value) h = record { sized = λ b c. refl }
  layer_sized (tac.Copy dest from) h = record { sized = λ b c. refl }
  layer_sized (tac.Op dest op left right) h = record { sized = λ b c. refl }
  layer_sized (tac.ObjectPlace dest object) h = record { sized = λ b c. refl }
  layer_sized (tac.GlobalPlace dest global) h = record { sized = λ b c. refl }
  layer_sized (tac.Load dest place pointer) h = record { sized = λ b c. refl }
  layer_sized (tac.Store place value) h = record { sized = λ b c. refl }
  layer_sized (tac.If cond first second) h =
      fork_keeps frame places IsSized (straight_sized []) (λ lines. straight_sized (jump_over lines ∷ []))
      followed_sized any_kind cond _ _ (straight_sized (plainly (choice frame places cond))) (row_sized first h.0)
      (row_sized second h.1)
  layer_sized (tac.Loop head body next) h =
      let body_is = row_sized body h.1 in
      let next_is = row_sized next h.2 in
      turning_by frame places plan IsSized head _ _ (cycle_sized _ _ _ (row_sized head h.0) body_is next_is)
      (λ cond near t. rotated_sized cond _ _ _
      (row_sized t.init (each_before frame places plan Sized head t.init cond t.is h.0)) body_is next_is)
  layer_sized tac.Break h = record { sized = λ b c. refl }
  layer_sized tac.Continue h = record { sized = λ b c. refl }
  layer_sized (tac.CallOwn dest function args) h = record { sized = λ b c. refl }
  layer_sized (tac.CallCross dest comp index args) h = record { sized = λ b c. refl }
  layer_sized (tac.Input dest) h = record { sized = λ b c. refl }
  layer_sized (tac.Output value) h = record { sized = λ b c. refl }
  layer_sized (tac.Alloc dest count words) h = record { sized = λ b c. refl }
  layer_sized (tac.Free pointer) h = record { sized = λ b c. refl }
  layer_sized (tac.Return value) h = record { sized = λ b c. refl }

  pub stmt_sized : (stmt : TacStmt) → IsSized (select frame places plan stmt)
  stmt_sized = stmt_induction Sized (λ layer h.
      subst IsSized (sym (fold-roll-TacStmt Piece (select_step frame places plan) layer)) (layer_sized layer h))

  pub row_from_sized : (stmts : List TacStmt) (i : ℕ) →
      IsSized (in_turn (drop i (joined frame places Other (map (select frame places plan) stmts))))
  row_from_sized stmts i = from_sized stmts (everywhere Sized stmt_sized stmts) i

  pub row_is_sized : (stmts : List TacStmt) → IsSized (select_all frame places plan stmts)
  row_is_sized stmts = row_sized stmts (everywhere Sized stmt_sized stmts)
