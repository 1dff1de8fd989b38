-- The code of loops: where it begins, and where it leads back.
use Rattle.sc_emit.proofs.Common.{Applies, Bne, Bool, Branch, Each, Ebreak, FrameTree, Inside, Instr, IsRead}
use Rattle.sc_emit.proofs.Common.{IsReturned, IsShort, IsStored, IsTested, Jal, Kind, Line, List, None, Option, Other}
use Rattle.sc_emit.proofs.Common.{Place, Places, Plan, Role, Sets, ShortForm, Some, TacFnTree, TacStmt, TacStmt-F, []}
use Rattle.sc_emit.proofs.Common.{and_first, and_rest, ap, append-nil, append_assoc, arith, as_one, between}
use Rattle.sc_emit.proofs.Common.{branch_back, branch_reach, call_cross, call_own, choice, choosing, closing}
use Rattle.sc_emit.proofs.Common.{code_back_edges, code_of, cond, count_by, cycle, each_before, ending_past}
use Rattle.sc_emit.proofs.Common.{environment_call, everywhere, false, first_scratch, fold-roll-TacStmt, fork}
use Rattle.sc_emit.proofs.Common.{fork_role, if◌then◌else◌, in_turn, inl, inr, is_backward, is_empty, is_known_jump}
use Rattle.sc_emit.proofs.Common.{is_near, joined, joins, jump_back, jump_over, kind_of_fork, leads_back, length}
use Rattle.sc_emit.proofs.Common.{length-append, length-map, list_all, list_all-map, list_all_along, loads_it}
use Rattle.sc_emit.proofs.Common.{loop_begins, loop_step, loops, lt-leb, map, map-TacStmt, map-append, nat_lt, neg_ℤ}
use Rattle.sc_emit.proofs.Common.{not, object_read, object_store, operand, operates_it, past, place_of, place_of_global}
use Rattle.sc_emit.proofs.Common.{plain, plainly, plan_of, pos, prologue, receive, refl, returns_it, role_first}
use Rattle.sc_emit.proofs.Common.{role_of_load, role_of_operation, role_of_return, role_of_store, role_to_next, rotated}
use Rattle.sc_emit.proofs.Common.{row_is_sized, select, select_all, select_step, short_form, short_operation}
use Rattle.sc_emit.proofs.Common.{short_return, skipping, stmt_induction, stmt_loops, stores_it, straight as lines_of}
use Rattle.sc_emit.proofs.Common.{straightly, subst, suc, sum_by-append, sym, take, test_stmt, true, turning_by}
use Rattle.sc_emit.proofs.Common.{turning_role, which_pair, word_of_constant, zero, ℕ, ⊎_elim, ◌&&◌, ◌*◌, ◌++◌, ◌+◌}
use Rattle.sc_emit.proofs.Common.{◌==◌, ◌∙◌, ◌∷◌, ◌≡◌, ◌≤◌}
use Rattle.sc_emit_select.specs.Prelude.{Piece}
use Rattle.sc_emit.specs.Layout.{GoesAround, HasRounds, HaveCode, LeadOn, LeadsOver, branching, empty, leads_on}
use Rattle.sc_emit.specs.Layout.{loopless, repeating}
unfoldable use Rattle.sc_tac.specs.declared.stmt.TacStmt.{roll-TacStmt}
use Rattle.sc_tac.specs.declared.stmt.TacStmt.TheOpen as tac
use Rattle.sc_tac.specs.declared.stmt.TacStmt.TheVariants as emit
use Rattle.sc_emit.proofs.Branches.{Straight, StraightLines, all_append, alloc_straight, closing_straight}
use Rattle.sc_emit.proofs.Branches.{copied_straight, cross_straight, entrance_straight, free_straight, global_straight}
use Rattle.sc_emit.proofs.Branches.{is_straight, is_straight_line, load_from_straight, loaded_straight}
use Rattle.sc_emit.proofs.Branches.{object_read_straight, object_store_straight, object_straight, operation_straight}
use Rattle.sc_emit.proofs.Branches.{output_straight, own_straight, plainly_straight, receive_straight, return_straight}
use Rattle.sc_emit.proofs.Branches.{short_return_straight, short_straight, store_to_straight, take_straight}

abbrev instrs_of : List Line → List Instr
instrs_of lines = map (λ line. line.instr) lines

-- LEADING ON
straight_on : (i : Instr) → is_straight i ≡ true → leads_on i ≡ true
straight_on (Branch o rs1 rs2 imm) h = absurd (cc)
straight_on Ebreak h = absurd (cc)
straight_on (Jal rd imm) h = by (rd == 0) (and_first (not (rd == 0)) (is_known_jump (Jal rd imm)) h) where
  by : (b : Bool) → not b ≡ true → not (is_backward (if b then Some imm else None)) ≡ true
  by true h = absurd (cc)
  by false h = refl
straight_on _ h = refl

lines_on : (lines : List Line) → StraightLines lines → LeadOn (instrs_of lines)
lines_on lines h = list_all-map leads_on (λ line. line.instr) lines ∙
    list_all_along is_straight_line (λ line. leads_on line.instr) (λ line h. straight_on line.instr h) lines h

both_on : (xs ys : List Instr) → LeadOn xs → LeadOn ys → LeadOn (xs ++ ys)
both_on xs ys hx hy = all_append leads_on xs ys hx hy

jump_on : (lines : ℕ) → leads_on (jump_over lines).instr ≡ true
jump_on lines = ap not (lt-leb (4 * suc lines) 0 (omega arith))

over_on : (lines : ℕ) → LeadOn ((jump_over lines).instr ∷ [])
over_on lines = ap (λ b. b && true) (jump_on lines)

-- LISTS
choice_parts : (test one over two : List Line) (more : List Instr) (jump : Line) →
    instrs_of (test ++ (jump ∷ ((one ++ over) ++ two))) ++ more ≡
    (instrs_of test ++ jump.instr ∷ []) ++ (instrs_of one ++ (instrs_of over ++ (instrs_of two ++ more)))
choice_parts test one over two more jump =
    ap (λ t. t ++ more) (map-append (λ line. line.instr) test (jump ∷ ((one ++ over) ++ two)) ∙
    ap (λ t. instrs_of test ++ (jump.instr ∷ t)) (map-append (λ line. line.instr) (one ++ over) two ∙
    ap (λ t. t ++ instrs_of two) (map-append (λ line. line.instr) one over))) ∙
    append_assoc (instrs_of test) (jump.instr ∷ ((instrs_of one ++ instrs_of over) ++ instrs_of two)) more ∙
    ap (λ t. instrs_of test ++ (jump.instr ∷ t))
    (append_assoc (instrs_of one ++ instrs_of over) (instrs_of two) more ∙
    append_assoc (instrs_of one) (instrs_of over) (instrs_of two ++ more)) ∙
    sym (append_assoc (instrs_of test) (jump.instr ∷ [])
    (instrs_of one ++ (instrs_of over ++ (instrs_of two ++ more))))

loop_parts : (head body next more : List Instr) (last : Instr) →
    (head ++ (body ++ (next ++ (last ∷ [])))) ++ more ≡ (head ++ (body ++ next)) ++ (last ∷ more)
loop_parts head body next more last =
    append_assoc head (body ++ (next ++ (last ∷ []))) more ∙
    ap (λ t. head ++ t) (append_assoc body (next ++ (last ∷ [])) more) ∙
    ap (λ t. head ++ (body ++ t)) (append_assoc next (last ∷ []) more) ∙
    sym (append_assoc head (body ++ next) (last ∷ more) ∙ ap (λ t. head ++ t) (append_assoc body next (last ∷ more)))

-- STATEMENTS
-- the lines of a statement's piece are its code, wherever breaks and continues lead
record IsCodeOf (stmt : TacStmt) (piece : Piece) : Type 0 where
  lies : (to_break to_continue : ℕ) (rest : List TacStmt) (more : List Instr) → HaveCode rest more →
      HaveCode (stmt ∷ rest) (instrs_of (piece.lines to_break to_continue) ++ more)

alone : (layer : TacStmt-F TacStmt) (piece : Piece) → loop_step (map-TacStmt _ _ stmt_loops layer) ≡ 0 →
    ((to_break to_continue : ℕ) → LeadOn (instrs_of (piece.lines to_break to_continue))) →
    IsCodeOf (roll-TacStmt layer) piece
alone layer piece none on = record {
  lies = λ b c rest more h.
      loopless (roll-TacStmt layer) (instrs_of (piece.lines b c)) (fold-roll-TacStmt ℕ loop_step layer ∙ none)
      (on b c) h;
}

by_lines : (layer : TacStmt-F TacStmt) (lines : List Line) → loop_step (map-TacStmt _ _ stmt_loops layer) ≡ 0 →
    StraightLines lines → IsCodeOf (roll-TacStmt layer) (lines_of lines)
by_lines layer lines none h = alone layer (lines_of lines) none (λ b c. lines_on lines h)

by_instrs : (layer : TacStmt-F TacStmt) (instrs : List Instr) → loop_step (map-TacStmt _ _ stmt_loops layer) ≡ 0 →
    Straight instrs → IsCodeOf (roll-TacStmt layer) (lines_of (plainly instrs))
by_instrs layer instrs none h = by_lines layer (plainly instrs) none (plainly_straight instrs h)

rolled_if : (cond : ℕ) (first second : List TacStmt) →
    emit.If cond first second ≡ roll-TacStmt (tac.If cond first second)
unfolding roll-TacStmt denote.Hole.Carrier.roll
rolled_if cond first second = refl

rolled_loop : (head body next : List TacStmt) → emit.Loop head body next ≡ roll-TacStmt (tac.Loop head body next)
unfolding roll-TacStmt denote.Hole.Carrier.roll
rolled_loop head body next = refl

module _ (frame : FrameTree) (places : List Place) (plan : Plan) where
  abbrev Lies : TacStmt → Type 0
  Lies stmt = IsCodeOf stmt (select frame places plan stmt)

  -- the second of two statements that are one piece has the code of both, and the first none
  both_lie : (before : Role) (stmt : TacStmt) → joins before (select frame places plan stmt).role ≡ true →
      IsCodeOf stmt (as_one frame places before (select frame places plan stmt).role)
  both_lie before stmt h =
      ⊎_elim read (⊎_elim store (⊎_elim short back)) (which_pair before (select frame places plan stmt).role h)
    where
      read : IsRead before (select frame places plan stmt).role →
          IsCodeOf stmt (as_one frame places before (select frame places plan stmt).role)
      read pair =
          let load = loads_it frame places plan stmt pair.temp pair.loads in
          subst (λ r. IsCodeOf stmt (as_one frame places r (select frame places plan stmt).role)) (sym pair.gives)
          (subst (λ r. IsCodeOf stmt (as_one frame places (Places pair.temp pair.object) r)) (sym pair.loads)
          (subst (λ s. IsCodeOf s (straightly frame places (object_read frame places pair.temp pair.object)))
          (sym load.is)
          (by_instrs (tac.Load pair.temp pair.temp load.pointer) (object_read frame places pair.temp pair.object) refl
          (object_read_straight frame places pair.temp pair.object))))

      store : IsStored before (select frame places plan stmt).role →
          IsCodeOf stmt (as_one frame places before (select frame places plan stmt).role)
      store pair =
          let its = stores_it frame places plan stmt pair.temp pair.value pair.stores in
          subst (λ r. IsCodeOf stmt (as_one frame places r (select frame places plan stmt).role)) (sym pair.gives)
          (subst (λ r. IsCodeOf stmt (as_one frame places (Places pair.temp pair.object) r)) (sym pair.stores)
          (subst (λ s. IsCodeOf s (straightly frame places (object_store frame places pair.value pair.object)))
          (sym its.is)
          (by_instrs (tac.Store pair.temp pair.value) (object_store frame places pair.value pair.object) refl
          (object_store_straight frame places pair.value pair.object))))

      short : IsShort before (select frame places plan stmt).role →
          IsCodeOf stmt (as_one frame places before (select frame places plan stmt).role)
      short pair =
          let form : Option ShortForm = short_form pair.op pair.word in
          let operation = operates_it frame places plan stmt pair.dest pair.left pair.op pair.temp pair.operates in
          subst (λ r. IsCodeOf stmt (as_one frame places r (select frame places plan stmt).role)) (sym pair.sets)
          (subst (λ r. IsCodeOf stmt (as_one frame places (Sets pair.temp pair.word) r)) (sym pair.operates)
          (subst (λ s. IsCodeOf s (straightly frame places (short_operation frame places pair.dest pair.left form)))
          (sym operation.is)
          (by_instrs (tac.Op pair.dest pair.op pair.left (Some pair.temp))
          (short_operation frame places pair.dest pair.left form) refl
          (short_straight frame places pair.dest pair.left form))))

      back : IsReturned before (select frame places plan stmt).role →
          IsCodeOf stmt (as_one frame places before (select frame places plan stmt).role)
      back pair =
          let form : Option ShortForm = short_form pair.op pair.word in
          subst (λ r. IsCodeOf stmt (as_one frame places r (select frame places plan stmt).role)) (sym pair.applies)
          (subst (λ r. IsCodeOf stmt (as_one frame places (Applies pair.temp pair.left pair.op pair.word) r))
          (sym pair.returns)
          (subst (λ s. IsCodeOf s (straightly frame places (short_return frame places pair.left form)))
          (sym (returns_it frame places plan stmt pair.temp pair.returns))
          (by_instrs (tac.Return (Some pair.temp)) (short_return frame places pair.left form) refl
          (short_return_straight frame places pair.left form))))

  -- a choice and a loop are nothing to the next statement
  other_joins : (before own following : Role) → own ≡ Other → joins (role_to_next before own) following ≡ true → ⊥
  other_joins before own following is h = by before (sym (ap (λ r. joins (role_to_next before r) following) is) ∙ h)
    where
      by : (before : Role) → joins (role_to_next before Other) following ≡ true → ⊥
      by (Sets temp word) h = cc h
      by _ h = cc h

  none_layer : (layer : TacStmt-F TacStmt) (before following : Role) →
      joins (role_to_next before
      (select_step frame places plan (map-TacStmt _ _ (select frame places plan) layer)).role) following ≡ true →
      IsCodeOf (roll-TacStmt layer) (lines_of [])
  none_layer (tac.If cond first second) before following h =
      absurd (other_joins before _ following (fork_role frame places cond (map (select frame places plan) first)
      (map (select frame places plan) second)) h)
  none_layer (tac.Loop head body next) before following h =
      absurd (other_joins before _ following (turning_role frame places _ (map (select frame places plan) head)
      (select_all frame places plan body) (select_all frame places plan next)) h)
  none_layer layer before following h = by_lines layer [] refl refl

  none_lie : (stmt : TacStmt) (before following : Role) →
      joins (role_to_next before (select frame places plan stmt).role) following ≡ true → IsCodeOf stmt (lines_of [])
  none_lie = stmt_induction (λ stmt. (before following : Role) →
      joins (role_to_next before (select frame places plan stmt).role) following ≡ true → IsCodeOf stmt (lines_of []))
      (λ layer inside before following h. none_layer layer before following
      (sym (ap (λ p. joins (role_to_next before p.role) following)
      (fold-roll-TacStmt Piece (select_step frame places plan) layer)) ∙ h))

  between_lies : (before : Role) (stmt : TacStmt) (following : Role) → Lies stmt →
      IsCodeOf stmt (between frame places before (select frame places plan stmt) following)
  between_lies before stmt following h =
      by (joins (role_to_next before (select frame places plan stmt).role) following)
      (joins before (select frame places plan stmt).role) refl refl
    where
      by : (one two : Bool) → joins (role_to_next before (select frame places plan stmt).role) following ≡ one →
          joins before (select frame places plan stmt).role ≡ two →
          IsCodeOf stmt (if one then lines_of [] else if two then as_one frame places before (select frame places plan
          stmt).role else select frame places plan stmt)
      by true two e f = none_lie stmt before following e
      by false true e f = both_lie before stmt f
      by false false e f = h

  -- statements in order, before others
  turn_lies : (before : Role) (stmts : List TacStmt) → Each Lies stmts → (b c : ℕ) (rest : List TacStmt)
      (more : List Instr) → HaveCode rest more → HaveCode (stmts ++ rest)
      (instrs_of ((in_turn (joined frame places before (map (select frame places plan) stmts))).lines b c) ++ more)
  turn_lies before [] h b c rest more k = k
  turn_lies before (stmt ∷ stmts) h b c rest more k =
      let role : Role = role_to_next before (select frame places plan stmt).role in
      let following : Piece = in_turn (joined frame places role (map (select frame places plan) stmts)) in
      let next : Role = role_first (map (select frame places plan) stmts) in
      let own : List Line =
      (between frame places before (select frame places plan stmt) next).lines (following.size + b) (following.size + c)
      in
      subst (HaveCode (stmt ∷ (stmts ++ rest)))
      (sym (ap (λ t. t ++ more) (map-append (λ line. line.instr) own (following.lines b c)) ∙
      append_assoc (instrs_of own) (instrs_of (following.lines b c)) more))
      ((between_lies before stmt next h.0).lies (following.size + b) (following.size + c) (stmts ++ rest)
      (instrs_of (following.lines b c) ++ more) (turn_lies role stmts h.1 b c rest more k))

  row_lies : (stmts : List TacStmt) → Each Lies stmts → (b c : ℕ) →
      HaveCode stmts (instrs_of ((select_all frame places plan stmts).lines b c))
  row_lies stmts h b c =
      let instrs : List Instr = instrs_of ((select_all frame places plan stmts).lines b c) in
      subst (λ s. HaveCode s instrs) (append-nil stmts)
      (subst (HaveCode (stmts ++ [])) (append-nil instrs) (turn_lies Other stmts h b c [] [] empty))

  in_role : (stmt : TacStmt) (role : Role) (piece : Piece) → IsCodeOf stmt piece →
      IsCodeOf stmt (record piece { role = role })
  in_role stmt role piece h = record { lies = h.lies }

  in_kind : (stmt : TacStmt) (kind : Kind) (piece : Piece) → IsCodeOf stmt piece →
      IsCodeOf stmt (record piece { kind = kind })
  in_kind stmt kind piece h = record { lies = h.lies }

  choice_on : (cond : ℕ) → LeadOn (instrs_of (plainly (choice frame places cond)))
  choice_on cond =
      let before : List Instr = take frame places first_scratch cond in
      let branch : Instr = Branch Bne (operand frame places first_scratch cond) 0 (pos 8) in
      list_all-map leads_on (λ line. line.instr) (plainly (choice frame places cond)) ∙
      list_all-map (λ line. leads_on line.instr) plain (choice frame places cond) ∙
      all_append leads_on before (branch ∷ [])
      (list_all_along is_straight leads_on straight_on before (take_straight frame places first_scratch cond)) refl

  past_on : (lines : ℕ) → LeadOn (instrs_of (past lines))
  past_on zero = refl
  past_on (suc lines) = over_on (suc lines)

  -- an `If` has its own before each of its parts
  parts_lie : (cond : ℕ) (first second : List TacStmt) → Each Lies first → Each Lies second →
      IsCodeOf (emit.If cond first second)
      (choosing frame places cond (select_all frame places plan first) (select_all frame places plan second))
  parts_lie cond first second hf hs = record {
    lies = λ b c rest more h.
        let e : Piece = select_all frame places plan first in
        let f : Piece = select_all frame places plan second in
        let test : List Line = plainly (choice frame places cond) in
        let over : List Line = past f.size in
        let n : ℕ = length over + (f.size + b) in
        let m : ℕ = length over + (f.size + c) in
        let jump : Line = jump_over (ending_past frame places e f).size in
        subst (HaveCode (emit.If cond first second ∷ rest))
        (sym (choice_parts test (e.lines n m) over (f.lines b c) more jump))
        (branching cond (instrs_of test ++ jump.instr ∷ []) (instrs_of over)
        (both_on (instrs_of test) (jump.instr ∷ []) (choice_on cond) (over_on (ending_past frame places e f).size))
        (past_on f.size) (row_lies first hf n m) (row_lies second hs b c) h);
  }

  -- or one without a first part has a branch before the second
  second_lies : (cond : ℕ) (second : List TacStmt) → Each Lies second →
      IsCodeOf (emit.If cond [] second) (skipping frame places cond (select_all frame places plan second))
  second_lies cond second hs = record {
    lies = λ b c rest more h.
        let test : List Line = plainly (choice frame places cond) in
        let two : List Line = (select_all frame places plan second).lines b c in
        subst (HaveCode (emit.If cond [] second ∷ rest))
        (sym (ap (λ t. t ++ more) (map-append (λ line. line.instr) test two) ∙
        append_assoc (instrs_of test) (instrs_of two) more))
        (branching cond (instrs_of test) [] (choice_on cond) refl empty (row_lies second hs b c) h);
  }

  if_lies : (cond : ℕ) (first second : List TacStmt) → Each Lies first → Each Lies second →
      IsCodeOf (roll-TacStmt (tac.If cond first second))
      (fork frame places cond (map (select frame places plan) first) (map (select frame places plan) second))
  if_lies cond first second hf hs =
      let e : List Piece = map (select frame places plan) first in
      let f : List Piece = map (select frame places plan) second in
      subst (λ stmt. IsCodeOf stmt (fork frame places cond e f)) (rolled_if cond first second)
      (in_kind (emit.If cond first second) (kind_of_fork cond e f) _
      (by (length e == 0 && (select_all frame places plan second).size == 1) refl))
    where
      by : (found : Bool) → (length (map (select frame places plan) first) == 0 &&
          (select_all frame places plan second).size == 1) ≡ found → IsCodeOf (emit.If cond first second) (if found
          then skipping frame places cond (select_all frame places plan second)
          else choosing frame places cond (select_all frame places plan first) (select_all frame places plan
          second))
      by true is =
          let none : first ≡ [] = is_empty first (sym (ap (λ n. n == 0) (length-map first (select frame places plan)))
          ∙
          and_first (length (map (select frame places plan) first) == 0) _ is) in
          subst (λ stmts. IsCodeOf (emit.If cond stmts second)
          (skipping frame places cond (select_all frame places plan second))) (sym none) (second_lies cond second hs)
      by false is = parts_lie cond first second hf hs

  -- a loop that begins with its head
  cycle_lies : (head body next : List TacStmt) → Each Lies head → Each Lies body → Each Lies next →
      IsCodeOf (roll-TacStmt (tac.Loop head body next))
      (cycle frame places (select_all frame places plan head) (select_all frame places plan body)
      (select_all frame places plan next))
  cycle_lies head body next hh hb hn = record {
    lies = λ b c rest more h.
        let ph : Piece = select_all frame places plan head in
        let pb : Piece = select_all frame places plan body in
        let pn : Piece = select_all frame places plan next in
        let lh : List Line = ph.lines (pb.size + suc pn.size) 0 in
        let lb : List Line = pb.lines (suc pn.size) 0 in
        let ln : List Line = pn.lines 1 0 in
        let last : Line = jump_back (ph.size + (pb.size + pn.size)) in
        let inside : List Instr = instrs_of lh ++ (instrs_of lb ++ instrs_of ln) in
        let is : instrs_of (lh ++ (lb ++ (ln ++ (last ∷ [])))) ≡
        instrs_of lh ++ (instrs_of lb ++ (instrs_of ln ++ (last.instr ∷ []))) =
        map-append (λ line. line.instr) lh (lb ++ (ln ++ (last ∷ []))) ∙
        ap (λ t. instrs_of lh ++ t) (map-append (λ line. line.instr) lb (ln ++ (last ∷ []))) ∙
        ap (λ t. instrs_of lh ++ (instrs_of lb ++ t)) (map-append (λ line. line.instr) ln (last ∷ [])) in
        let long : length inside ≡ ph.size + (pb.size + pn.size) =
        omega (
          arith,
          length-append (instrs_of lh) (instrs_of lb ++ instrs_of ln),
          length-append (instrs_of lb) (instrs_of ln),
          length-map lh (λ line. line.instr),
          length-map lb (λ line. line.instr),
          length-map ln (λ line. line.instr),
          (row_is_sized frame places plan head).sized (pb.size + suc pn.size) 0,
          (row_is_sized frame places plan body).sized (suc pn.size) 0,
          (row_is_sized frame places plan next).sized 1 0,
        ) in
        subst (λ s. HaveCode (s ∷ rest)
        ((loop_begins.instr ∷ instrs_of (lh ++ (lb ++ (ln ++ (last ∷ []))))) ++ more))
        (rolled_loop head body next)
        (subst (λ t. HaveCode (emit.Loop head body next ∷ rest) (loop_begins.instr ∷ t))
        (sym (ap (λ t. t ++ more) is ∙ loop_parts (instrs_of lh) (instrs_of lb) (instrs_of ln) more last.instr))
        (repeating inside loop_begins.instr last.instr (record {
          order = inl refl;
          on = refl;
          back = inr (ap (λ n. Some (neg_ℤ (pos (4 * n)))) (sym long));
        }) (row_lies head hh (pb.size + suc pn.size) 0) (row_lies body hb (suc pn.size) 0) (row_lies next hn 1 0) h));
  }

  back_leads : (cond lines : ℕ) → LeadsOver lines (branch_back frame places cond lines).instr
  back_leads cond lines = by (nat_lt lines branch_reach)
    where
      by : (b : Bool) → LeadsOver lines (if b
          then plain (Branch Bne (operand frame places first_scratch cond) 0 (neg_ℤ (pos (4 * lines))))
          else jump_back lines).instr
      by true = refl
      by false = refl

  -- a test has no loops
  test_none : (cond : ℕ) → stmt_loops (test_stmt cond) ≡ 0
  test_none cond =
      let test : stmt_loops (test_stmt cond) ≡
      loop_step (map-TacStmt _ _ stmt_loops (tac.If cond [] (roll-TacStmt tac.Break ∷ []))) =
      fold-roll-TacStmt ℕ loop_step (tac.If cond [] (roll-TacStmt tac.Break ∷ [])) in
      let broken : stmt_loops (roll-TacStmt tac.Break) ≡ 0 = fold-roll-TacStmt ℕ loop_step tac.Break in
      omega (arith, test, broken)

  -- statements and a test, without the branch that the test ends with
  tested_lies : (init : List TacStmt) (cond : ℕ) → Each Lies init → (b c : ℕ) →
      HaveCode (init ++ (test_stmt cond ∷ [])) (instrs_of ((select_all frame places plan init).lines b c) ++
      instrs_of (plainly (take frame places first_scratch cond)))
  tested_lies init cond h b c =
      let taking : List Instr = take frame places first_scratch cond in
      let own : List Instr = instrs_of (plainly taking) in
      turn_lies Other init h b c (test_stmt cond ∷ []) own
      (subst (HaveCode (test_stmt cond ∷ [])) (append-nil own)
      (loopless (test_stmt cond) own (test_none cond)
      (lines_on (plainly taking) (plainly_straight taking (take_straight frame places first_scratch cond))) empty))

  -- a loop that ends with its head, and that with its test
  rotated_lies : (head body next : List TacStmt) (cond : ℕ) (t : IsTested frame places plan head cond) →
      Each Lies t.init → Each Lies body → Each Lies next → IsCodeOf (roll-TacStmt (tac.Loop head body next))
      (rotated frame places cond (select_all frame places plan t.init) (select_all frame places plan body)
      (select_all frame places plan next))
  rotated_lies head body next cond t hi hb hn = record {
    lies = λ b c rest more h.
        let taking : List Instr = take frame places first_scratch cond in
        let test : ℕ = suc (length taking) in
        let pi : Piece = select_all frame places plan t.init in
        let pb : Piece = select_all frame places plan body in
        let pn : Piece = select_all frame places plan next in
        let li : List Line = pi.lines test 0 in
        let lb : List Line = pb.lines (pn.size + (pi.size + test)) 0 in
        let ln : List Line = pn.lines (pi.size + test) 0 in
        let lt : List Line = plainly taking in
        let over : ℕ = pb.size + (pn.size + pi.size) + length taking in
        let first : Line = jump_over (pb.size + pn.size) in
        let last : Line = branch_back frame places cond over in
        let at_head : List Instr = instrs_of li ++ instrs_of lt in
        let inside : List Instr = instrs_of lb ++ (instrs_of ln ++ at_head) in
        let is : instrs_of (lb ++ (ln ++ (li ++ (lt ++ (last ∷ []))))) ≡
        instrs_of lb ++ (instrs_of ln ++ (at_head ++ (last.instr ∷ []))) =
        map-append (λ line. line.instr) lb (ln ++ (li ++ (lt ++ (last ∷ [])))) ∙
        ap (λ t. instrs_of lb ++ t) (map-append (λ line. line.instr) ln (li ++ (lt ++ (last ∷ []))) ∙
        ap (λ t. instrs_of ln ++ t) (map-append (λ line. line.instr) li (lt ++ (last ∷ [])) ∙
        ap (λ t. instrs_of li ++ t) (map-append (λ line. line.instr) lt (last ∷ [])) ∙
        sym (append_assoc (instrs_of li) (instrs_of lt) (last.instr ∷ [])))) in
        let long : length inside ≡ over =
        omega (
          arith,
          length-append (instrs_of lb) (instrs_of ln ++ at_head),
          length-append (instrs_of ln) at_head,
          length-append (instrs_of li) (instrs_of lt),
          length-map li (λ line. line.instr),
          length-map lb (λ line. line.instr),
          length-map ln (λ line. line.instr),
          length-map lt (λ line. line.instr),
          length-map taking plain,
          (row_is_sized frame places plan t.init).sized test 0,
          (row_is_sized frame places plan body).sized (pn.size + (pi.size + test)) 0,
          (row_is_sized frame places plan next).sized (pi.size + test) 0,
        ) in
        subst (λ s. HaveCode (s ∷ rest)
        ((first.instr ∷ instrs_of (lb ++ (ln ++ (li ++ (lt ++ (last ∷ [])))))) ++ more))
        (rolled_loop head body next)
        (subst (λ t. HaveCode (emit.Loop head body next ∷ rest) (first.instr ∷ t))
        (sym (ap (λ t. t ++ more) is ∙ loop_parts (instrs_of lb) (instrs_of ln) at_head more last.instr))
        (repeating inside first.instr last.instr (record {
          order = inr refl;
          on = jump_on (pb.size + pn.size);
          back = inr (back_leads cond over ∙ ap (λ n. Some (neg_ℤ (pos (4 * n)))) (sym long));
        }) (subst (λ stmts. HaveCode stmts at_head) (sym t.is) (tested_lies t.init cond hi test 0))
        (row_lies body hb (pn.size + (pi.size + test)) 0) (row_lies next hn (pi.size + test) 0) h));
  }

  layer_lies : (layer : TacStmt-F TacStmt) → Inside Lies layer →
      IsCodeOf (roll-TacStmt layer) (select_step frame places plan (map-TacStmt _ _ (select frame places plan)
      layer))
  layer_lies (tac.Const dest value) h =
      in_role (roll-TacStmt (tac.Const dest value)) (Sets dest (word_of_constant value)) _
      (by_instrs (tac.Const dest value) _ refl (loaded_straight frame places dest (word_of_constant value)))
  layer_lies (tac.Copy dest from) h =
      by_instrs (tac.Copy dest from) _ refl
      (copied_straight frame (place_of frame places dest) (place_of frame places from))
  layer_lies (tac.Op dest o left right) h =
      in_role (roll-TacStmt (tac.Op dest o left right)) (role_of_operation plan.needed dest o left right) _
      (by_instrs (tac.Op dest o left right) _ refl (operation_straight frame places dest o left right))
  layer_lies (tac.ObjectPlace dest object) h =
      in_role (roll-TacStmt (tac.ObjectPlace dest object)) (Places dest object) _
      (by_instrs (tac.ObjectPlace dest object) _ refl (object_straight frame places dest object))
  layer_lies (tac.GlobalPlace dest global) h =
      by_lines (tac.GlobalPlace dest global) (place_of_global frame places dest global) refl
      (global_straight frame places dest global)
  layer_lies (tac.Load dest place pointer) h =
      in_role (roll-TacStmt (tac.Load dest place pointer)) (role_of_load frame places dest place) _
      (by_instrs (tac.Load dest place pointer) _ refl (load_from_straight frame places dest place))
  layer_lies (tac.Store place value) h =
      in_role (roll-TacStmt (tac.Store place value)) (role_of_store plan.needed place value) _
      (by_instrs (tac.Store place value) _ refl (store_to_straight frame places place value))
  layer_lies (tac.If cond first second) h = if_lies cond first second h.0 h.1
  layer_lies (tac.Loop head body next) h =
      turning_by frame places plan (IsCodeOf (roll-TacStmt (tac.Loop head body next))) head _ _
      (cycle_lies head body next h.0 h.1 h.2)
      (λ cond near t. rotated_lies head body next cond t
      (each_before frame places plan Lies head t.init cond t.is h.0) h.1 h.2)
  layer_lies tac.Break h = alone tac.Break _ refl (λ b c. over_on b)
  layer_lies tac.Continue h = alone tac.Continue _ refl (λ b c. over_on c)
  layer_lies (tac.CallOwn dest function args) h =
      by_lines (tac.CallOwn dest function args) (call_own frame places dest function args) refl
      (own_straight frame places dest function args)
  layer_lies (tac.CallCross dest comp index args) h =
      by_lines (tac.CallCross dest comp index args) (call_cross frame places dest comp index args) refl
      (cross_straight frame places dest comp index args)
  layer_lies (tac.Input dest) h =
      by_instrs (tac.Input dest) (environment_call 1 ++ receive frame places dest) refl
      (receive_straight frame places dest)
  layer_lies (tac.Output value) h = by_instrs (tac.Output value) _ refl (output_straight frame places value)
  layer_lies (tac.Alloc dest count words) h =
      by_instrs (tac.Alloc dest count words) _ refl (alloc_straight frame places dest count words)
  layer_lies (tac.Free pointer) h = by_instrs (tac.Free pointer) _ refl (free_straight frame places pointer)
  layer_lies (tac.Return value) h =
      in_role (roll-TacStmt (tac.Return value)) (role_of_return value) _
      (by_instrs (tac.Return value) _ refl (return_straight frame places value))

  stmt_lies : (stmt : TacStmt) → Lies stmt
  stmt_lies = stmt_induction Lies (λ layer h.
      subst (IsCodeOf (roll-TacStmt layer)) (sym (fold-roll-TacStmt Piece (select_step frame places plan) layer))
      (layer_lies layer h))

pub has_rounds : (f : TacFnTree) (places : List Place) (frame : FrameTree) →
    HasRounds f.body (code_of f places frame).instrs
has_rounds f places frame =
    let in_lines : List Line = plainly (prologue frame places f.params) in
    let plan : Plan = plan_of f (is_near f places frame) in
    let body : List Line = (select_all frame places plan f.body).lines 0 0 in
    let out_lines : List Line = plainly (closing frame places f.entry) in
    record {
      before = instrs_of in_lines;
      inside = instrs_of body;
      following = instrs_of out_lines;
      parts =
          ap instrs_of (append_assoc in_lines body out_lines) ∙
          map-append (λ line. line.instr) in_lines (body ++ out_lines) ∙
          ap (λ t. instrs_of in_lines ++ t) (map-append (λ line. line.instr) body out_lines);
      in_on =
          lines_on in_lines
          (plainly_straight (prologue frame places f.params) (entrance_straight frame places f.params));
      out_on =
          lines_on out_lines (plainly_straight (closing frame places f.entry) (closing_straight frame places f.entry));
      statements = row_lies frame places plan f.body (everywhere (Lies frame places plan) (stmt_lies frame places
          plan) f.body) 0 0;
    }

-- COUNTS
abbrev one_if_back : Instr → ℕ
one_if_back instr = cond (leads_back instr) 1 0

abbrev count : List Instr → ℕ
count instrs = count_by {X = Instr} leads_back instrs

count_append : (xs ys : List Instr) → count (xs ++ ys) ≡ count xs + count ys
count_append xs ys = sum_by-append one_if_back xs ys

counted_append : (xs ys : List Instr) (n m : ℕ) → count xs ≤ n → count ys ≤ m → count (xs ++ ys) ≤ n + m
counted_append xs ys n m hx hy = by (count xs) (count ys) _ hx hy (count_append xs ys) where
  by : (a b d : ℕ) → a ≤ n → b ≤ m → d ≡ a + b → d ≤ n + m
  by a b d h k e = omega (arith, h, k, e)

one_at_most : (i : Instr) → count (i ∷ []) ≤ 1
one_at_most i = by (leads_back i) where
  by : (b : Bool) → 0 + cond b 1 0 ≤ 1
  by true = omega arith
  by false = omega arith

none_here : (i : Instr) → leads_on i ≡ true → count (i ∷ []) ≤ 0
none_here i h = by (leads_back i) h where
  by : (b : Bool) → not b ≡ true → 0 + cond b 1 0 ≤ 0
  by true h = absurd (cc)
  by false h = omega arith

none_counted : (instrs : List Instr) → LeadOn instrs → count instrs ≤ 0
none_counted [] h = omega arith
none_counted (x ∷ xs) h =
    counted_append (x ∷ []) xs 0 0 (none_here x (and_first (leads_on x) (list_all {X = Instr} leads_on xs) h))
    (none_counted xs (and_rest (leads_on x) (list_all {X = Instr} leads_on xs) h))

if_loops : (cond : ℕ) (first second : List TacStmt) →
    stmt_loops (emit.If cond first second) ≡ loops first + loops second
unfolding roll-TacStmt denote.Hole.Carrier.roll
if_loops cond first second = fold-roll-TacStmt ℕ loop_step (tac.If cond first second) ∙ omega arith

loop_loops : (head body next : List TacStmt) →
    stmt_loops (emit.Loop head body next) ≡ suc (loops head + (loops body + loops next))
unfolding roll-TacStmt denote.Hole.Carrier.roll
loop_loops head body next = fold-roll-TacStmt ℕ loop_step (tac.Loop head body next)

around : (head body next inside : List Instr) (first last : Instr) (n m k : ℕ) →
    GoesAround head body next inside first last → count head ≤ n → count body ≤ m → count next ≤ k →
    count inside ≤ n + (m + k)
around head body next inside first last n m k goes hh hb hn = ⊎_elim
    (λ is. subst (λ l. count l ≤ n + (m + k)) (sym is)
    (counted_append head (body ++ next) n (m + k) hh (counted_append body next m k hb hn)))
    (λ is. subst (λ l. count l ≤ n + (m + k)) (sym is)
    (turned (counted_append body (next ++ head) m (k + n) hb (counted_append next head k n hn hh))))
    goes.order
  where
    turned : {c : ℕ} → c ≤ m + (k + n) → c ≤ n + (m + k)
    turned {c} h = omega (arith, h)

counted : {stmts : List TacStmt} {instrs : List Instr} → HaveCode stmts instrs → count instrs ≤ loops stmts
counted empty = omega arith
counted (loopless {rest = rest} {more = more} stmt own none on h) =
    let all = counted_append own more 0 (loops rest) (none_counted own on) (counted h) in omega (arith, all)
counted (branching {first = first} {second = second} {rest = rest} {one = one} {two = two} {more = more} cond test over
    test_on over_on h k g) =
    let tail = counted_append two more (loops second) (loops rest) (counted k) (counted g) in
    let second_part =
    counted_append over (two ++ more) 0 (loops second + loops rest) (none_counted over over_on) tail in
    let both = counted_append one (over ++ (two ++ more)) (loops first) (0 + (loops second + loops rest)) (counted h)
    second_part in
    let all = counted_append test (one ++ (over ++ (two ++ more))) 0 (loops first + (0 + (loops second + loops rest)))
    (none_counted test test_on) both in
    omega (arith, all, if_loops cond first second)
counted (repeating {head = head} {body = body} {next = next} {rest = rest} {at_head = at_head} {at_body = at_body}
    {at_next = at_next} {more = more} inside first last goes h b n g) =
    let following = counted_append (last ∷ []) more 1 (loops rest) (one_at_most last) (counted g) in
    let inner = around at_head at_body at_next inside first last (loops head) (loops body) (loops next) goes (counted h)
    (counted b) (counted n) in
    let both = counted_append inside (last ∷ more) (loops head + (loops body + loops next)) (1 + loops rest) inner
    following in
    let all = counted_append (first ∷ []) (inside ++ (last ∷ more)) 0
    (loops head + (loops body + loops next) + (1 + loops rest)) (none_here first goes.on) both in
    omega (arith, all, loop_loops head body next)

-- no more lead back than there are loops
pub few_back : (f : TacFnTree) (places : List Place) (frame : FrameTree) →
    code_back_edges (code_of f places frame) ≤ loops f.body
few_back f places frame =
    let has : HasRounds f.body (code_of f places frame).instrs = has_rounds f places frame in
    let all = counted_append has.before (has.inside ++ has.following) 0 (loops f.body + 0)
    (none_counted has.before has.in_on)
    (counted_append has.inside has.following (loops f.body) 0 (counted has.statements)
    (none_counted has.following has.out_on)) in
    let one : count (code_of f places frame).instrs ≤ 0 + (loops f.body + 0) =
    subst (λ l. count l ≤ 0 + (loops f.body + 0)) (sym has.parts) all in
    omega (arith, one)
