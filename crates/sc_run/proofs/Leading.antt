-- What was to be done leads to what is left of it.
use Rattle.sc_run.proofs.Common.{Body as Body', Bor, Caller, Comes, Doing, Exit, Frame, IsCall, Leads, List}
use Rattle.sc_run.proofs.Common.{Loop, None, Ok, Option, Passes, Place, ProgramTree, Reaches, ReachesOr, Rest}
use Rattle.sc_run.proofs.Common.{Seen, Some, State, Step, Steps, To, TypedExpr, TypedStmt, Value, Work, [], ap, arith}
use Rattle.sc_run.proofs.Common.{block_acts, call_acts, ended_so, follow, here_of, in_loop, in_order, in_round}
use Rattle.sc_run.proofs.Common.{back_value, emitted_return, kept_by, leave, left_at, left_by, loop_acts, next_acts}
use Rattle.sc_run.proofs.Common.{refl, result_goes, store_at}
use Rattle.sc_run.proofs.Common.{Bool, false, step_of, subst, sym, true, unless_done}
use Rattle.sc_run.proofs.Common.{length-append, suc, take, ◌-◌}
use Rattle.sc_run.proofs.Common.{way_in, ℕ, ◌++◌, ◌+◌, ◌∙◌, ◌∷◌, ◌≡◌, ◌≤◌, ◌<◌, length, drop}
use Rattle.sc_run.specs.declared.work.Run.{Run}
use Rattle.sc_run.specs.declared.work.Taken.{Taken}
use Rattle.sc_run.specs.declared.work.Position.{Position}
use Rattle.sc_run.specs.Weights.{IsLess, block_nodes, block_weight, leaf_weight, loop_weight, place_weight}
use Rattle.sc_run.proofs.Ahead.{no_part, passes_follow, passes_to_end, rest_at, round_left, steps_after}
use Rattle.sc_run.proofs.Stating.{followed_by_nothing}
use Rattle.sc_run.proofs.Weighing.{some_nodes}
use Rattle.sc_core.specs.declared.expr.TypedCall.{TypedCall}
use Rattle.sc_run.proofs.Calling.{ClosedBy, return_steps}
use Rattle.sc_run.proofs.Coming.{usual}
use Rattle.sc_run.specs.declared.work.Leaving.TheVariants as leaving
use Rattle.sc_run.proofs.Common.{Go, Leave}
use Rattle.sc_run.proofs.Looping.{steps_as, steps_later, steps_resume, steps_wait, steps_weaken}

-- no step was taken where all is done
pub none_taken : {done : Bool} (taken : Taken) → done ≡ true → unless_done done taken ≡ None
none_taken taken is = ap (λ d. unless_done d taken) is

-- else one was
pub one_taken : {done : Bool} (taken : Taken) → done ≡ false → unless_done done taken ≡ Some (step_of taken)
one_taken taken is = ap (λ d. unless_done d taken) is

module _ {program : ProgramTree} where
  pub leads_here : {cost rest : ℕ} {seen : Seen} {work : List Work} {f : Frame} {p : Doing} → rest ≤ cost →
      Leads program cost seen work f p rest seen work f p
  leads_here le = record { leads = λ step last waits h k. steps_weaken le k }

  -- one after the other
  pub leads_then : {a b c : ℕ} {before middle after : Seen} {work waits later : List Work} {f g h : Frame}
      {p q r : Doing} → Leads program a before work f p b middle waits g q →
      Leads program b middle waits g q c after later h r → Leads program a before work f p c after later h r
  leads_then x y = record { leads = λ step last ws g k. x.leads step last ws g (y.leads step last ws g k) }

  -- what is done at once
  pub leads_past : {cost rest : ℕ} {before after : Seen} {work : List Work} {f : Frame} {p q : Doing} → rest ≤ cost →
      Passes before after p q → Leads program cost before work f p rest after work f q
  leads_past le h = record { leads = λ step last ws g k. steps_after h (steps_weaken le k) }

  -- the same, stated otherwise
  pub leads_as : {cost rest : ℕ} {before after : Seen} {work later : List Work} {f g : Frame} {p q r : Doing} →
      ((n : ℕ) (s : State) → p n s ≡ q n s) → Leads program cost before work f q rest after later g r →
      Leads program cost before work f p rest after later g r
  leads_as same h = record { leads = λ step last ws g k. steps_as same (h.leads step last ws g k) }

  -- what leads to where something is reached reaches it
  pub onward : (b : Option Step) {cost middle_cost : ℕ} (rest : ℕ) {before middle : Seen} {work waits : List Work}
      {f g : Frame}
      {p q : Doing} (r : Doing) (last : List Work) (h : Frame) (later : Run) →
      middle.turns ≤ before.turns → Leads program cost before work f p middle_cost middle waits g q →
      ReachesOr program b middle_cost middle waits g q last h later rest r →
      ReachesOr program b cost before work f p last h later rest r
  onward None rest r last h later le to d =
      record {
        waiting = d.waiting;
        frame = d.frame;
        fewer = omega (arith, le, d.fewer);
        leads = leads_then to d.leads;
      }
  onward (Some step) rest r last h later le to d = to.leads _ _ _ _ d

  -- the result of a call is stored
  pub is_put : {before after : Seen} {work : List Work} {f : Frame} {to : To} {result : Option Value}
      (place : Bor TypedExpr) (line : ℕ) {v : Value} → to ≡ Place place line → result ≡ Some v →
      Comes before after usual (store_at (here_of f.scope) (way_in f place.now) v line tt) →
      Leads program leaf_weight before work f (λ n s. result_goes program f to result s) leaf_weight after work f
      ended_so
  is_put {before} {after} {work} {f} {to} {result} place line is has c =
      leads_as (λ n s i. result_goes program f (is i) (has i) s) (leads_past (omega arith) (passes_to_end c))

  -- a call ends
  pub call_left : (f : Frame) (exit : Exit) (before : Seen) {work : List Work} {caller : Frame} (to : To)
      (crossing : Option ℕ) (v : Option Value) {back : Option Value} {ended emitted : Seen} →
      ClosedBy program f exit (Ok v) → ended ≡ left_by f before → back ≡ back_value program f crossing v →
      emitted ≡ emitted_return program caller f crossing v ended →
      Leads program 1 before (work ++ Caller caller to crossing ∷ []) f (λ n s. leave exit tt s) leaf_weight emitted
      work caller (λ n s. result_goes program caller to back s)
  call_left f exit before to crossing v is ends gives emits_trace =
      record {
        leads = λ step last ws g k. return_steps program f exit before to crossing v is ends gives emits_trace k;
      }

  pub reaches_from : {cost middle_cost rest : ℕ} {before middle : Seen} {work waits last : List Work} {f g h : Frame}
      {p q r : Doing} {later : Run} → middle.turns ≤ before.turns →
      Leads program cost before work f p middle_cost middle waits g q →
      Reaches program middle_cost middle waits g q last h later rest r →
      Reaches program cost before work f p last h later rest r
  reaches_from le to d =
      record {
        waiting = d.waiting;
        frame = d.frame;
        fewer = omega (arith, le, d.fewer);
        leads = leads_then to d.leads;
      }

  -- a step was taken
  pub was_taken : (o : Option Step) {step : Step} {cost : ℕ} (rest : ℕ) {before : Seen} {work : List Work}
      (waits : List Work) {f : Frame} (g : Frame) {p : Doing} (r : Doing) (later : Run) → o ≡ Some step →
      Steps program cost before work f p step (kept_by later.machine) later.work.items later.frame →
      ReachesOr program o cost before work f p waits g later rest r
  was_taken o {step} {cost} rest {before} {work} waits {f} g {p} r later is h =
      subst (λ x. ReachesOr program x cost before work f p waits g later rest r) (sym is) h

  pub is_all : (o : Option Step) {cost rest : ℕ} {before : Seen} {work waits : List Work} {f g : Frame} {p r : Doing}
      {later : Run} → o ≡ None → ReachesOr program o cost before work f p waits g later rest r →
      Reaches program cost before work f p waits g later rest r
  is_all None is d = d
  is_all (Some step) is d = absurd (cc is)

  pub is_step : (o : Option Step) {cost : ℕ} (rest : ℕ) {before : Seen} {work : List Work} (waits : List Work)
      {f : Frame}
      (g : Frame) {p : Doing} (r : Doing) (later : Run) {step : Step} → o ≡ Some step →
      ReachesOr program o cost before work f p waits g later rest r →
      Steps program cost before work f p step (kept_by later.machine) later.work.items later.frame
  is_step None rest waits g r later is d = absurd (cc is)
  is_step (Some other) {cost} rest {before} {work} waits {f} g {p} r later {step} is d =
      let same : other ≡ step = cc is in
      subst (λ x. Steps program cost before work f p x (kept_by later.machine) later.work.items later.frame) same d

  -- what is done to its end goes on
  pub ends_so : {cost : ℕ} {before : Seen} {work waits : List Work} {f g : Frame} {p : Doing} {later : Run} →
      Reaches program cost before work f p waits g later leaf_weight ended_so →
      Steps program cost before work f p (Go (Leave leaving.Next)) (kept_by later.machine) later.work.items later.frame
  ends_so {cost} {before} {work} {waits} {f} {g} {p} {later} d =
      subst (λ h. Steps program cost before work f p (Go (Leave leaving.Next)) (kept_by later.machine) later.work.items
      h) (sym d.frame) (subst (λ ws. Steps program cost before work f p (Go (Leave leaving.Next))
      (kept_by later.machine) ws g) (sym d.waiting) (d.leads.leads _ _ _ _ (steps_later (omega arith) (λ n s. refl))))

  -- the same, where what waits and what runs are stated otherwise
  pub steps_there : {cost : ℕ} {before last : Seen} {work waits later : List Work} {f g h : Frame} {step : Step}
      (r : Frame → Doing) → work ≡ waits → f ≡ g → Steps program cost before work f (r f) step last later h →
      Steps program cost before waits g (r g) step last later h
  steps_there {cost} {before} {last} {work} {waits} {later} {f} {g} {h} {step} r same is k =
      subst (λ x. Steps program cost before waits x (r x) step last later h) is
      (subst (λ ws. Steps program cost before ws f (r f) step last later h) same k)

  -- where a run got to, another goes on
  pub then_reaches : {cost rest last : ℕ} {before : Seen} {p : Doing} {work : List Work} {f : Frame}
      {middle later : Run}
      (r q : Frame → Doing) → Reaches program cost before work f p work f middle rest (r f) →
      Reaches program rest (kept_by middle.machine) middle.work.items middle.frame (r middle.frame) middle.work.items
      middle.frame later last (q middle.frame) → Reaches program cost before work f p work f later last (q f)
  then_reaches {rest} {last} {work} {middle} {later} r q a d =
      record {
        waiting = d.waiting ∙ a.waiting;
        frame = d.frame ∙ a.frame;
        fewer = omega (arith, a.fewer, d.fewer);
        leads = leads_then a.leads
            (subst (λ f. Leads program rest (kept_by middle.machine) work f (r f) last
            (kept_by later.machine) work f (q f)) a.frame
            (subst (λ ws. Leads program rest (kept_by middle.machine) ws middle.frame (r middle.frame) last
            (kept_by later.machine) ws middle.frame (q middle.frame)) a.waiting d.leads));
      }

  pub then_steps : {cost rest : ℕ} {before last : Seen} {p : Doing} {work : List Work} {f : Frame} {middle : Run}
      (r : Frame → Doing) {step : Step} {waits : List Work} {g : Frame} →
      Reaches program cost before work f p work f middle rest (r f) →
      Steps program rest (kept_by middle.machine) middle.work.items middle.frame (r middle.frame) step last waits g →
      Steps program cost before work f p step last waits g
  then_steps {rest} {last} {work} {middle} r {step} {waits} {g} a d = a.leads.leads _ _ _ _
      (subst (λ f. Steps program rest (kept_by middle.machine) work f (r f) step last waits g) a.frame
      (subst (λ ws. Steps program rest (kept_by middle.machine) ws middle.frame (r middle.frame) step last waits g)
      a.waiting d))

  pub then_either : (b : Option Step) {cost rest : ℕ} (last : ℕ) {before : Seen} {p : Doing} {work : List Work}
      {f : Frame}
      {middle : Run} (later : Run) (r q : Frame → Doing) →
      Reaches program cost before work f p work f middle rest (r f) →
      ReachesOr program b rest (kept_by middle.machine) middle.work.items middle.frame (r middle.frame)
      middle.work.items middle.frame later last (q middle.frame) →
      ReachesOr program b cost before work f p work f later last (q f)
  then_either None last later r q a d = then_reaches r q a d
  then_either (Some step) last later r q a d = then_steps r a d

  -- a run got somewhere, and more is done at once
  pub and_past : {cost rest last : ℕ} {before : Seen} {p : Doing} {work : List Work} {f : Frame} {middle later : Run}
      (r q : Frame → Doing) → last ≤ rest → Reaches program cost before work f p work f middle rest (r f) →
      later.work.items ≡ middle.work.items → later.frame ≡ middle.frame →
      Passes (kept_by middle.machine) (kept_by later.machine) (r middle.frame) (q middle.frame) →
      Reaches program cost before work f p work f later last (q f)
  and_past {middle} {later} r q le a work_is frame_is h =
      record {
        waiting = work_is ∙ a.waiting;
        frame = frame_is ∙ a.frame;
        fewer = omega (arith, a.fewer, h.fewer);
        leads = leads_then a.leads (leads_past le
            (subst (λ f. Passes (kept_by middle.machine) (kept_by later.machine) (r f) (q f)) a.frame h));
      }

  -- a call before statements that wait for it
  pub before_rest : {before after : Seen} {work later : List Work} {f : Frame} {p : Doing}
      (rest : Bor (List TypedStmt)) →
      later ≡ work ++ Rest rest ∷ [] → Leads program leaf_weight before later f p leaf_weight after later f ended_so →
      Leads program (8 + block_weight rest.now) before work f
      (λ n s. follow in_order (p n s) (block_acts program n f rest.now)) (suc (block_weight rest.now)) after work f
      (λ n s. block_acts program n f rest.now tt s)
  before_rest rest pushed h =
      record {
        leads = λ step last ws g k. steps_wait (Rest rest) pushed (omega arith) (λ n s. refl) (h.leads step last ws g
            (steps_weaken (omega arith) (steps_resume (Rest rest) pushed (omega arith) (λ n s. refl) k)));
      }

take_front : {A : Type 0} (xs ys : List A) → take (length xs) (xs ++ ys) ≡ xs
take_front [] ys = refl
take_front (x ∷ xs) ys = ap (λ zs. x ∷ zs) (take_front xs ys)

-- the last thing that waited is taken away
pub last_out : {A : Type 0} (xs : List A) (x : A) (n : ℕ) {all rest : List A} → all ≡ xs ++ x ∷ [] →
    rest ≡ take (n - 1) all → n ≡ length all → rest ≡ xs
last_out xs x n {all} is left many = left ∙ ap (λ ys. take (n - 1) ys) is ∙ ap (λ n. take n (xs ++ x ∷ []))
    (number n (length xs) (many ∙ ap length is ∙ length-append xs (x ∷ []))) ∙ take_front xs (x ∷ []) where
      number : (n m : ℕ) → n ≡ m + 1 → n - 1 ≡ m
      number n m is = omega (arith, is)

module _ (program : ProgramTree) (f : Frame) where
  -- statements from a place without a part
  pub from_place : (stmts : List TypedStmt) (at : Position) {seen : Seen} {work : List Work} → at.part.now ≡ [] →
      Leads program (place_weight stmts at) seen work f (left_at program f stmts (Some at))
      (suc (block_weight (take (length stmts - at.count) (drop at.count stmts)))) seen work f
      (λ n s. block_acts program n f (take (length stmts - at.count) (drop at.count stmts)) tt s)
  from_place stmts at empty =
      leads_as (λ n s. no_part program f stmts at empty n s ∙ ap (λ xs. block_acts program n f xs tt s)
      (sym (rest_at at.count stmts)))
      (leads_here (omega (arith, ap (λ xs. block_nodes xs) (rest_at at.count stmts))))

  -- the last statement is a call
  pub last_call : {stmt : TypedStmt} {made : TypedCall} {to : To} {line : ℕ} (stmts : List TypedStmt) {seen : Seen}
      {work : List Work} → IsCall program stmt made to → line ≡ stmt.line → stmts ≡ stmt ∷ [] →
      Leads program (suc (block_weight stmts)) seen work f (λ n s. block_acts program n f stmts tt s) leaf_weight seen
      work f (call_acts program f made to line)
  last_call {stmt} {made} {to} {line} stmts is on split =
      leads_as (λ n s. ap (λ xs. block_acts program n f xs tt s) split ∙ followed_by_nothing _ ∙ is.acts f n s ∙
      ap (λ l. call_acts program f made to l n s) (sym on))
      (leads_here (omega arith))

  -- a call before statements
  pub first_call : {stmt : TypedStmt} {made : TypedCall} {to : To} {line : ℕ} (stmts rest : List TypedStmt)
      {seen : Seen}
      {work : List Work} → IsCall program stmt made to → line ≡ stmt.line → stmts ≡ stmt ∷ rest →
      Leads program (suc (block_weight stmts)) seen work f (λ n s. block_acts program n f stmts tt s)
      (8 + block_weight rest) seen work f (λ n s. follow in_order (call_acts program f made to line n s)
      (block_acts program n f rest))
  first_call {stmt} {made} {to} {line} stmts rest is on split =
      leads_as (λ n s. ap (λ xs. block_acts program n f xs tt s) split ∙
      ap (λ p. follow in_order p (block_acts program n f rest)) (is.acts f n s ∙
      ap (λ l. call_acts program f made to l n s) (sym on)))
      (leads_here (omega (arith, ap (λ xs. block_nodes xs) split, some_nodes stmt)))

  module _ (l : Loop) (work : List Work) {first second third : Seen} {later : List Work}
      (waits : later ≡ work ++ Body' l ∷ [])
      (next : Passes first second (λ n s. next_acts program n f l tt s) ended_so) where
    -- the rest of another round, while the loop waits
    pub another_round : (at : Position) → Passes second third (λ n s. loop_acts program n f l tt s)
        (in_round program f l (Some at)) → IsLess l.body.now at → third.turns < second.turns →
        Leads program leaf_weight first later f ended_so (place_weight l.body.now at) third later f
        (left_at program f l.body.now (Some at))
    another_round at round less fewer =
        record {
          leads = λ step last ws g k. steps_weaken (omega arith) (steps_resume (Body' l) waits (omega arith)
              (λ n s. refl) (steps_after (passes_follow in_loop (λ n. loop_acts program n f l) next)
              (round_left program f l at less fewer round waits k)));
        }

    -- the loop stands before a round, and no longer waits
    pub before_round : Passes second third (λ n s. loop_acts program n f l tt s) (λ n s. loop_acts program n f l tt s) →
        Leads program leaf_weight first later f ended_so (loop_weight l) third work f
        (λ n s. loop_acts program n f l tt s)
    before_round round =
        record {
          leads = λ step last ws g k. steps_weaken (omega arith) (steps_resume (Body' l) waits (omega arith)
              (λ n s. refl) (steps_after (passes_follow in_loop (λ n. loop_acts program n f l) next)
              (steps_after round k)));
        }

pub one_more_at : (at count : ℕ) → (at + 1) + count ≡ at + (1 + count)
one_more_at at count = omega arith
