-- Lines that refer to targets stand where the linker can complete them.
use Rattle.sc_emit_select.proofs.Common.{All, AllPairs, Bne, Bool, Branch, CodeTree, Each, Entry, FrameTree, Function}
use Rattle.sc_emit_select.proofs.Common.{Global, Inside, Instr, IsCode, IsTrue, Jal, Jalr, Kind, Line, List, Lui, None}
use Rattle.sc_emit_select.proofs.Common.{Option, Piece, Place, Places, Plan, Relocation, Role, Sets, Some, Store, Sw}
use Rattle.sc_emit_select.proofs.Common.{TacFnTree, TacStmt, TacStmt-F, Target, Upper, [], and_first, and_from}
use Rattle.sc_emit_select.proofs.Common.{and_rest, ap, append-nil, arith, branch_back, branch_reach, brought}
use Rattle.sc_emit_select.proofs.Common.{call_cross, call_own, choice, closing, code_of, code_of_lines, copied, cycle}
use Rattle.sc_emit_select.proofs.Common.{environment_call, eq-eqb, false, first_scratch, fold-roll-TacStmt, followed}
use Rattle.sc_emit_select.proofs.Common.{frame_taken, function_lines, has_mark, if◌then◌else◌, in_order, is_address}
use Rattle.sc_emit_select.proofs.Common.{is_jal, is_linkable, is_near, jump_back, keep, le-ltb, length, length-append}
use Rattle.sc_emit_select.proofs.Common.{length-map, load_from, loading, lt-ltb, map, map-TacStmt, moved_by, nat_lt}
use Rattle.sc_emit_select.proofs.Common.{needed_in, neg_ℤ, object_offset, object_read, object_store, operand, operation}
use Rattle.sc_emit_select.proofs.Common.{pass, place_of_global, plain, plainly, plan_by, plan_of, pos, prologue, put}
use Rattle.sc_emit_select.proofs.Common.{receive, referring, refl, relocation_of, relocations_from, result_register}
use Rattle.sc_emit_select.proofs.Common.{return, role_of_load, role_of_operation, role_of_return, role_of_store}
use Rattle.sc_emit_select.proofs.Common.{rotated, select, select_all, select_step, short_form, short_operation}
use Rattle.sc_emit_select.proofs.Common.{short_return, slice_get, stmt_induction, store_arguments, store_to, straightly}
use Rattle.sc_emit_select.proofs.Common.{sub_word, subst, suc, sym, take, testing, true, uses_heap, word_of_constant, ℕ}
use Rattle.sc_emit_select.proofs.Common.{◌&&◌, ◌*◌, ◌++◌, ◌+◌, ◌<◌, ◌∙◌, ◌∷◌, ◌≡◌, ◌≤◌}
use Rattle.sc_core.proofs.Induction.{everywhere as each_holds}
use Rattle.std.proofs.lemmas.List.Elements.{All-cons, All-nil, All-weaker}
use Rattle.std.proofs.lemmas.List.Kept.{AllPairs-cons}
use Rattle.sc_tac.specs.declared.stmt.TacStmt.TheOpen as tac
use Rattle.sc_emit_select.proofs.Joining.{fork_keeps, order_keeps}
use Rattle.sc_emit_select.proofs.Turning.{each_before, turning_by}

-- the instruction of the first line
abbrev first_of : List Line → Option Instr
first_of [] = None
first_of (line ∷ lines) = Some line.instr

-- the linker can complete an instruction with the one after it
abbrev completes : Option Target → Instr → Option Instr → Bool
completes None instr next = true
completes (Some (Function number)) instr next = is_jal (Some instr)
completes (Some (Entry comp index)) instr None = false
completes (Some (Entry comp index)) instr (Some next) = is_address (Some instr) (Some next)
completes (Some (Global number)) instr None = false
completes (Some (Global number)) instr (Some next) = is_address (Some instr) (Some next)

abbrev all_complete : List Line → Bool
all_complete [] = true
all_complete (line ∷ lines) = completes line.target line.instr (first_of lines) && all_complete lines

-- what follows lines that are complete changes nothing
completes_before : (target : Option Target) (instr : Instr) (lines more : List Line) →
    completes target instr (first_of lines) ≡ true → completes target instr (first_of (lines ++ more)) ≡ true
completes_before target instr (line ∷ lines) more h = h
completes_before None instr [] more h = refl
completes_before (Some (Function number)) instr [] more h = h
completes_before (Some (Entry comp index)) instr [] more h = absurd (cc)
completes_before (Some (Global number)) instr [] more h = absurd (cc)

joined : (xs ys : List Line) → all_complete xs ≡ true → all_complete ys ≡ true → all_complete (xs ++ ys) ≡ true
joined [] ys h k = k
joined (line ∷ xs) ys h k =
    let here : completes line.target line.instr (first_of xs) ≡ true =
    and_first (completes line.target line.instr (first_of xs)) (all_complete xs) h in
    let rest : all_complete xs ≡ true = and_rest (completes line.target line.instr (first_of xs)) (all_complete xs) h in
    and_from _ _ (completes_before line.target line.instr xs ys here) (joined xs ys rest k)

plain_complete : (instrs : List Instr) → all_complete (plainly instrs) ≡ true
plain_complete [] = refl
plain_complete (instr ∷ instrs) = plain_complete instrs

record IsComplete (piece : Piece) : Type 0 where
  pub complete : (to_break to_continue : ℕ) → all_complete (piece.lines to_break to_continue) ≡ true

followed_complete : (e f : Piece) → IsComplete e → IsComplete f → IsComplete (followed e f)
followed_complete e f he hf = record {
  complete = λ b c. joined (e.lines (f.size + b) (f.size + c)) (f.lines b c) (he.complete (f.size + b) (f.size + c))
      (hf.complete b c);
}

module _ (frame : FrameTree) (places : List Place) (plan : Plan) where
  cycle_complete : (h b n : Piece) → IsComplete h → IsComplete b → IsComplete n → IsComplete (cycle frame places h b n)
  cycle_complete h b n hh hb hn = record {
    complete = λ to_break to_continue.
        let back : List Line = jump_back (h.size + (b.size + n.size)) ∷ [] in
        joined (h.lines (b.size + suc n.size) 0) (b.lines (suc n.size) 0 ++ (n.lines 1 0 ++ back))
        (hh.complete (b.size + suc n.size) 0)
        (joined (b.lines (suc n.size) 0) (n.lines 1 0 ++ back) (hb.complete (suc n.size) 0)
        (joined (n.lines 1 0) back (hn.complete 1 0) refl));
  }

  back_complete : (cond lines : ℕ) → all_complete (branch_back frame places cond lines ∷ []) ≡ true
  back_complete cond lines = by (nat_lt lines branch_reach)
    where
      by : (b : Bool) → all_complete ((if b
          then plain (Branch Bne (operand frame places first_scratch cond) 0 (neg_ℤ (pos (4 * lines))))
          else jump_back lines) ∷ []) ≡ true
      by true = refl
      by false = refl

  testing_complete : (cond lines : ℕ) → all_complete (testing frame places cond lines) ≡ true
  testing_complete cond lines =
      let taking : List Instr = take frame places first_scratch cond in
      joined (plainly taking) (branch_back frame places cond (lines + length taking) ∷ []) (plain_complete taking)
      (back_complete cond (lines + length taking))

  rotated_complete : (cond : ℕ) (h b n : Piece) → IsComplete h → IsComplete b → IsComplete n →
      IsComplete (rotated frame places cond h b n)
  rotated_complete cond h b n hh hb hn = record {
    complete = λ to_break to_continue.
        let test : ℕ = suc (length (take frame places first_scratch cond)) in
        let tested : List Line = testing frame places cond (b.size + (n.size + h.size)) in
        joined (b.lines (n.size + (h.size + test)) 0) (n.lines (h.size + test) 0 ++ (h.lines test 0 ++ tested))
        (hb.complete (n.size + (h.size + test)) 0)
        (joined (n.lines (h.size + test) 0) (h.lines test 0 ++ tested) (hn.complete (h.size + test) 0)
        (joined (h.lines test 0) tested (hh.complete test 0)
        (testing_complete cond (b.size + (n.size + h.size)))));
  }

  any_kind : (piece : Piece) (kind : Kind) → IsComplete piece → IsComplete (record piece { kind = kind })
  any_kind piece kind h = record { complete = h.complete }

  global_complete : (dest global : ℕ) → all_complete (place_of_global frame places dest global) ≡ true
  global_complete dest global =
      let rd : ℕ = result_register frame places dest in
      and_from _ _ (eq-eqb rd rd refl) (plain_complete (keep frame places dest))

  own_complete : (dest : Option ℕ) (function : ℕ) (args : List ℕ) →
      all_complete (call_own frame places dest function args) ≡ true
  own_complete dest function args =
      joined (plainly (pass frame places 10 args))
      (referring (Function function) (Jal 1 (pos 0)) ∷ plainly (receive frame places dest))
      (plain_complete (pass frame places 10 args)) (plain_complete (receive frame places dest))

  cross_complete : (dest : Option ℕ) (comp index : ℕ) (args : List ℕ) →
      all_complete (call_cross frame places dest comp index args) ≡ true
  cross_complete dest comp index args =
      joined (plainly (pass frame places 10 args))
      (referring (Entry comp index) (Upper Lui 5 0) ∷ plainly (Jalr 1 5 (pos 0) ∷ receive frame places dest))
      (plain_complete (pass frame places 10 args)) (plain_complete (receive frame places dest))

  straightly_complete : (instrs : List Instr) → IsComplete (straightly frame places instrs)
  straightly_complete instrs = record { complete = λ b c. plain_complete instrs }

  abbrev Complete : TacStmt → Type 0
  Complete stmt = IsComplete (select frame places plan stmt)

  row_complete : (stmts : List TacStmt) → Each Complete stmts →
      IsComplete (in_order frame places (map (select frame places plan) stmts))
  row_complete stmts h =
      order_keeps frame places plan IsComplete (record { complete = λ b c. refl })
      (λ t o. straightly_complete (object_read frame places t o))
      (λ t l o w. straightly_complete (short_operation frame places t l (short_form o w)))
      (λ v o. straightly_complete (object_store frame places v o))
      (λ l o w. straightly_complete (short_return frame places l (short_form o w))) followed_complete stmts h

  with_role : (instrs : List Instr) (role : Role) → IsComplete (record (straightly frame places instrs) { role = role })
  with_role instrs role = record { complete = λ b c. plain_complete instrs }

  layer_complete : (layer : TacStmt-F TacStmt) → Inside Complete layer →
      IsComplete (select_step frame places plan (map-TacStmt _ _ (select frame places plan) layer))
  layer_complete (tac.Const dest value) h =
      with_role (loading (result_register frame places dest) (word_of_constant value) ++ keep frame places dest)
      (Sets dest (word_of_constant value))
  layer_complete (tac.Copy dest from) h =
      straightly_complete (copied frame (slice_get places dest) (slice_get places from))
  layer_complete (tac.Op dest op left right) h =
      with_role (operation frame places dest op left right) (role_of_operation plan.needed dest op left right)
  layer_complete (tac.ObjectPlace dest object) h =
      with_role
      (moved_by (result_register frame places dest) 2 (object_offset frame object) ++ keep frame places dest)
      (Places dest object)
  layer_complete (tac.GlobalPlace dest global) h = record { complete = λ b c. global_complete dest global }
  layer_complete (tac.Load dest place pointer) h =
      with_role (load_from frame places dest place) (role_of_load frame places dest place)
  layer_complete (tac.Store place value) h =
      with_role (store_to frame places place value) (role_of_store plan.needed place value)
  layer_complete (tac.If cond first second) h =
      fork_keeps frame places IsComplete (record { complete = λ b c. refl }) (λ lines. record {
        complete = λ b c. refl;
      })
      followed_complete any_kind cond _ _ (straightly_complete (choice frame places cond)) (row_complete first h.0)
      (row_complete second h.1)
  layer_complete (tac.Loop head body next) h =
      let body_is = row_complete body h.1 in
      let next_is = row_complete next h.2 in
      turning_by frame places plan IsComplete head _ _ (cycle_complete _ _ _ (row_complete head h.0) body_is next_is)
      (λ cond near t. rotated_complete cond _ _ _
      (row_complete t.init (each_before frame places plan Complete head t.init cond t.is h.0)) body_is next_is)
  layer_complete tac.Break h = record { complete = λ b c. refl }
  layer_complete tac.Continue h = record { complete = λ b c. refl }
  layer_complete (tac.CallOwn dest function args) h = record { complete = λ b c. own_complete dest function args }
  layer_complete (tac.CallCross dest comp index args) h =
      record { complete = λ b c. cross_complete dest comp index args }
  layer_complete (tac.Input dest) h =
      straightly_complete (environment_call 1 ++ receive frame places dest)
  layer_complete (tac.Output value) h =
      straightly_complete (brought frame 10 (slice_get places value) ++ environment_call 2)
  layer_complete (tac.Alloc dest count words) h =
      straightly_complete (brought frame 10 (slice_get places count) ++ loading 11 words ++ environment_call 3 ++
      put frame 10 (slice_get places dest))
  layer_complete (tac.Free pointer) h =
      straightly_complete (brought frame 10 (slice_get places pointer) ++ environment_call 4)
  layer_complete (tac.Return value) h = with_role (return frame places value) (role_of_return value)

  stmt_complete : (stmt : TacStmt) → IsComplete (select frame places plan stmt)
  stmt_complete = stmt_induction Complete (λ layer h.
      subst IsComplete (sym (fold-roll-TacStmt Piece (select_step frame places plan) layer)) (layer_complete layer h))

  function_complete : (f : TacFnTree) → all_complete (function_lines frame places plan f) ≡ true
  function_complete f =
      let middle : List Line = (select_all frame places plan f.body).lines 0 0 in
      joined (plainly (prologue frame places f.params) ++ middle) (plainly (closing frame places f.entry))
      (joined (plainly (prologue frame places f.params)) middle (plain_complete (prologue frame places f.params))
      ((row_complete f.body (each_holds Complete stmt_complete f.body)).complete 0 0))
      (plain_complete (closing frame places f.entry))

-- RELOCATIONS
abbrev instrs_of : List Line → List Instr
instrs_of lines = map (λ (line : Line). line.instr) lines

-- lines stand in code from a number on
abbrev StandAt : List Instr → ℕ → List Line → Type 0
StandAt instrs at lines = (i : ℕ) → slice_get instrs (at + i) ≡ slice_get (instrs_of lines) i

first_stands : (lines : List Line) → slice_get (instrs_of lines) 0 ≡ first_of lines
first_stands [] = refl
first_stands (line ∷ lines) = refl

rest_stands : (instrs : List Instr) (at : ℕ) (line : Line) (lines : List Line) → StandAt instrs at (line ∷ lines) →
    StandAt instrs (suc at) lines
rest_stands instrs at line lines h = λ i. let k : suc at + i ≡ at + suc i = omega arith in
    ap (λ n. slice_get instrs n) k ∙ h (suc i)

linkable_here : (instrs : List Instr) (at : ℕ) (target : Target) (instr : Instr) (next : Option Instr) →
    slice_get instrs at ≡ Some instr → slice_get instrs (suc at) ≡ next → completes (Some target) instr next ≡ true →
    is_linkable instrs at target ≡ true
linkable_here instrs at (Function number) instr next h k is = ap is_jal h ∙ is
linkable_here instrs at (Entry comp index) instr None h k is = absurd (cc)
linkable_here instrs at (Entry comp index) instr (Some next) h k is =
    ap (λ i. is_address i (slice_get instrs (suc at))) h ∙ ap (λ n. is_address (Some instr) n) k ∙ is
linkable_here instrs at (Global number) instr None h k is = absurd (cc)
linkable_here instrs at (Global number) instr (Some next) h k is =
    ap (λ i. is_address i (slice_get instrs (suc at))) h ∙ ap (λ n. is_address (Some instr) n) k ∙ is

abbrev Linkable : List Instr → Relocation → Type 0
Linkable instrs r = IsTrue (is_linkable instrs r.at r.target)

one_linkable : (instrs : List Instr) (at : ℕ) (line : Line) (target : Option Target) (next : Option Instr)
    (rest : List Relocation) → slice_get instrs at ≡ Some line.instr → slice_get instrs (suc at) ≡ next →
    completes target line.instr next ≡ true → All (Linkable instrs) rest →
    All (Linkable instrs) (relocation_of at target ++ rest)
one_linkable instrs at line None next rest h k is following = following
one_linkable instrs at line (Some target) next rest h k is following =
    All-cons (Linkable instrs) (record { at = at; target = target }) rest
    (linkable_here instrs at target line.instr next h k is) following

linkable_from : (instrs : List Instr) (at : ℕ) (lines : List Line) → StandAt instrs at lines →
    all_complete lines ≡ true → All (Linkable instrs) (relocations_from at lines)
linkable_from instrs at [] h is = All-nil (Linkable instrs)
linkable_from instrs at (line ∷ lines) h is =
    let here : at ≡ at + 0 = omega arith in
    let next : suc at ≡ at + 1 = omega arith in
    one_linkable instrs at line line.target (first_of lines) (relocations_from (suc at) lines)
    (ap (λ n. slice_get instrs n) here ∙ h 0) (ap (λ n. slice_get instrs n) next ∙ h 1 ∙ first_stands lines)
    (and_first (completes line.target line.instr (first_of lines)) (all_complete lines) is)
    (linkable_from instrs (suc at) lines (rest_stands instrs at line lines h)
    (and_rest (completes line.target line.instr (first_of lines)) (all_complete lines) is))

abbrev NotBefore : ℕ → Relocation → Type 0
NotBefore at r = at ≤ r.at

one_not_before : (at : ℕ) (target : Option Target) (rest : List Relocation) → All (NotBefore (suc at)) rest →
    All (NotBefore at) (relocation_of at target ++ rest)
one_not_before at None rest h = All-weaker (NotBefore (suc at)) (NotBefore at) (λ r k. omega (arith, k)) rest h
one_not_before at (Some target) rest h =
    All-cons (NotBefore at) (record { at = at; target = target }) rest (omega arith)
    (All-weaker (NotBefore (suc at)) (NotBefore at) (λ r k. omega (arith, k)) rest h)

not_before : (at : ℕ) (lines : List Line) → All (NotBefore at) (relocations_from at lines)
not_before at [] = All-nil (NotBefore at)
not_before at (line ∷ lines) =
    one_not_before at line.target (relocations_from (suc at) lines) (not_before (suc at) lines)

abbrev Before : Relocation → Relocation → Type 0
Before a b = a.at < b.at

one_rising : (at : ℕ) (target : Option Target) (rest : List Relocation) → All (NotBefore (suc at)) rest →
    AllPairs Before rest → AllPairs Before (relocation_of at target ++ rest)
one_rising at None rest h k = k
one_rising at (Some target) rest h k =
    AllPairs-cons Before (record { at = at; target = target }) rest
    (All-weaker (NotBefore (suc at)) (Before (record { at = at; target = target })) (λ r e. omega (arith, e)) rest h) k

rising : (at : ℕ) (lines : List Line) → AllPairs Before (relocations_from at lines)
rising at [] = λ i j d below within. absurd (omega (arith, within))
rising at (line ∷ lines) =
    one_rising at line.target (relocations_from (suc at) lines) (not_before (suc at) lines) (rising (suc at) lines)

some_lines : (frame : FrameTree) (places : List Place) (plan : Plan) (f : TacFnTree) →
    0 < length (instrs_of (function_lines frame places plan f))
some_lines frame places plan f =
    let middle : List Line = (select_all frame places plan f.body).lines 0 0 in
    let last : List Line = plainly (closing frame places f.entry) in
    let taken : List Instr = moved_by 2 2 (sub_word 0 frame.bytes) in
    let parts : length (function_lines frame places plan f) ≡
    length (plainly (prologue frame places f.params) ++ middle ++ last) = refl in
    let entering : length (prologue frame places f.params) ≡
    length (frame_taken frame.bytes ++ store_arguments frame places f.params 0) = refl in
    let taking : length (frame_taken frame.bytes) ≡ length (taken ++ Store Sw 2 1 (pos 0) ∷ []) = refl in
    omega (
      arith,
      parts,
      entering,
      taking,
      length-map (function_lines frame places plan f) (λ (line : Line). line.instr),
      length-append (plainly (prologue frame places f.params) ++ middle) last,
      length-append (plainly (prologue frame places f.params)) middle,
      length-map (prologue frame places f.params) plain,
      length-append (frame_taken frame.bytes) (store_arguments frame places f.params 0),
      length-append taken (Store Sw 2 1 (pos 0) ∷ []),
    )

pub function_code : (frame : FrameTree) (places : List Place) (plan : Plan) (f : TacFnTree) (heap : Bool) →
    IsCode (code_of_lines heap (function_lines frame places plan f))
function_code frame places plan f heap =
    let lines : List Line = function_lines frame places plan f in
    record {
      some = some_lines frame places plan f;
      in_order = rising 0 lines;
      linkable = linkable_from (instrs_of lines) 0 lines
          (λ i. let e : 0 + i ≡ i = omega arith in ap (λ n. slice_get (instrs_of lines) n) e)
          (function_complete frame places plan f);
    }

-- what is made of lines, by whether they use the heap
pub read_code : (code : CodeTree) (lines : List Line) (heap same : Bool) → code ≡ code_of_lines heap lines →
    heap ≡ same → code ≡ code_of_lines same lines
read_code code lines heap same is h = is ∙ ap (λ b. code_of_lines b lines) h

-- all that was written before nothing is a function's code
pub whole_function : (frame : FrameTree) (places : List Place) (near : Bool) (f tree : TacFnTree) (marks : List Bool)
    (lines old : List Line) → ((t : ℕ) → has_mark marks t ≡ needed_in f.body t) → tree ≡ f →
    lines ≡ function_lines frame places (plan_by marks near) tree ++ old → old ≡ [] →
    lines ≡ function_lines frame places (plan_of f near) f
whole_function frame places near f tree marks lines old marked same h none =
    h ∙ ap (λ o. function_lines frame places (plan_by marks near) tree ++ o) none ∙
    append-nil (function_lines frame places (plan_by marks near) tree) ∙
    ap (λ t. function_lines frame places (plan_by marks near) t) same ∙
    (λ i. function_lines frame places (record { needed = λ t. marked t i; near = near }) f)

pub near_code : (f : TacFnTree) (places : List Place) (frame : FrameTree) (lines : List Line) →
    lines ≡ function_lines frame places (plan_of f true) f → length lines < 1024 →
    code_of_lines (uses_heap f.body) lines ≡ code_of f places frame
near_code f places frame lines is short =
    let near : is_near f places frame ≡ true =
    ap (λ l. nat_lt (length l) 1024) (sym is) ∙ lt-ltb (length lines) 1024 short in
    ap (code_of_lines (uses_heap f.body)) is ∙
    ap (λ b. code_of_lines (uses_heap f.body) (function_lines frame places (plan_of f b) f)) (sym near)

pub far_code : (f : TacFnTree) (places : List Place) (frame : FrameTree) (near far : List Line) →
    near ≡ function_lines frame places (plan_of f true) f → far ≡ function_lines frame places (plan_of f false) f →
    1024 ≤ length near → code_of_lines (uses_heap f.body) far ≡ code_of f places frame
far_code f places frame near far is other long =
    let not_near : is_near f places frame ≡ false =
    ap (λ l. nat_lt (length l) 1024) (sym is) ∙ le-ltb (length near) 1024 long in
    ap (code_of_lines (uses_heap f.body)) other ∙
    ap (λ b. code_of_lines (uses_heap f.body) (function_lines frame places (plan_of f b) f)) (sym not_near)
