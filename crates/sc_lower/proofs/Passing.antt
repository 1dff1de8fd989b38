-- The statements of a function's code pass each test that the statements which are emitted pass.
use Rattle.sc_lower.proofs.Common.{Bool, CallTarget, Callable, Each, Forms, Inside, Judged, List, Local, Low, Lows}
use Rattle.sc_lower.proofs.Common.{Many, None, Option, Part, Parts, Scope, Signature, Signed, Some, TacStmt, TacStmt-F}
use Rattle.sc_lower.proofs.Common.{Ty, TypedCall, TypedExpr, TypedLocal, TypedSimple, TypedSimpleKind, TypedStmt}
use Rattle.sc_lower.proofs.Common.{TypedStmtKind, TypedStmtKind-F, TypedStruct, [], after, all_go_into, allocate_at}
use Rattle.sc_lower.proofs.Common.{allocation, and_first, and_from, and_rest, ap, arith as numbers, assign}
use Rattle.sc_lower.proofs.Common.{assign_call_fits, assign_fits, at_place, block_code, body_fits, both, call_code}
use Rattle.sc_lower.proofs.Common.{call_fits, call_for, call_statement, count_code, count_fits, cycle, everywhere}
use Rattle.sc_lower.proofs.Common.{false, false≢true, first_of, fork, forms, free_value, goes_into, in_turn, init_code}
use Rattle.sc_lower.proofs.Common.{init_fits, inits_code, int_fits, is_scalar, is_some, is_target, is_type, judged}
use Rattle.sc_lower.proofs.Common.{just, kind_fits, kind_step, layer_of, length, list_all, lone, malloc_fits, many, map}
use Rattle.sc_lower.proofs.Common.{most_cells, nat_le, not, option_goes, option_map, part_code, part_fits, place_code}
use Rattle.sc_lower.proofs.Common.{points, refl, result_goes, return_value, returned_call_fits, returned_fits, signed}
use Rattle.sc_lower.proofs.Common.{simple_code, simple_fits, stmt_at, stmt_code, stmt_fits, stmt_induction, store_at}
use Rattle.sc_lower.proofs.Common.{subst, suc, sym, target_signature, test as tests, true, variable_ty, ℕ, ◌<◌, ◌∙◌}
use Rattle.sc_lower.proofs.Common.{◌∷◌, ◌≡◌, ◌≤◌}
use Rattle.sc_core.specs.declared.expr.CallTarget.TheVariants as target
use Rattle.sc_core.specs.declared.stmt.TypedStmtKind.TheOpen as layer
use Rattle.sc_core.specs.declared.stmt.TypedSimpleKind.TheVariants as simple
use Rattle.sc_core.specs.declared.value.Want.TheVariants as want
use Rattle.sc_tac.specs.declared.stmt.Constant.TheVariants as constant
use Rattle.sc_tac.specs.declared.stmt.TacStmt.TheOpen as tac
use Rattle.sc_tac.specs.declared.stmt.TacStmt.TheVariants as emit
use Rattle.sc_lower.proofs.Tests.{AllBelow, Below, Clean, OfExpression, PassedBy, PointsToElements, all_after}
use Rattle.sc_lower.proofs.Tests.{all_append, all_one, const_passes, expr_clean, fork_passes, lone_clean, malloc_count}
use Rattle.sc_lower.proofs.Tests.{malloc_few, malloc_place, place_clean, place_passes, points_fits, replaced_clean}
use Rattle.sc_lower.proofs.Tests.{scalar_fits}

-- a value that is returned fits
pub returned_value : (r : Option Ty) (e : Judged) → returned_fits r e ≡ true → e.fits ≡ true
returned_value None e h = absurd (false≢true h)
returned_value (Some t) e h = and_first e.fits _ h

-- a result that goes into a place is there
result_there : (o : Option Signature) (signature : Signature) (place : Ty) → o ≡ Some signature →
    result_goes o place ≡ true → is_some signature.result ≡ true
result_there o signature place is h = by signature.result (subst (λ o. result_goes o place ≡ true) is h) where
  by : (result : Option Ty) → option_goes result place ≡ true → is_some result ≡ true
  by None h = absurd (false≢true h)
  by (Some t) h = refl

-- the locals of a function from a place on have their types, and their initialisers too
abbrev pub InitsFit : Scope → ℕ → List TypedLocal → Type 0
InitsFit scope k [] = Unit {0}
InitsFit scope k (local ∷ locals) =
    (is_type (variable_ty scope (Local k)) local.ty ≡ true) × (init_fits scope local.ty local.init ≡ true)
    × InitsFit scope (suc k) locals

-- what a call that fits takes and gives, in the code
pub record FitsCall (temps : ℕ) (scope : Scope) (callable : Callable) (to : CallTarget) (dest : Option ℕ)
    (at : List ℕ) :
    Type 0 where
  pub signature : Signature
  pub is : target_signature callable to ≡ Some signature
  pub args : List TypedExpr
  pub go : all_go_into signature.params (map (judged scope) args) ≡ true
  pub count : length at ≡ length signature.params
  pub results : is_some dest ≡ true → is_some signature.result ≡ true
  pub below : Below temps dest
  pub every : AllBelow temps at

module _ (temps : ℕ) (scope : Scope) (callable : Callable) (result : Option Ty) where
  -- a statement that statements emit, by itself
  abbrev pub OfStatement : TacStmt-F Bool → Type 0
  OfStatement (tac.Store q v) = (q < temps) × (v < temps)
  OfStatement (tac.Loop a b c) = Unit {0}
  OfStatement tac.Break = Unit {0}
  OfStatement tac.Continue = Unit {0}
  OfStatement (tac.CallOwn dest n at) = FitsCall temps scope callable (target.Own n) dest at
  OfStatement (tac.CallCross dest to index at) = FitsCall temps scope callable (target.Cross to index) dest at
  OfStatement (tac.Input dest) = (at : List ℕ) × FitsCall temps scope callable target.Input dest at
  OfStatement (tac.Output v) =
      (dest : Option ℕ) × (at : List ℕ) × (first_of at ≡ v) × FitsCall temps scope callable target.Output dest at
  OfStatement (tac.Alloc d x words) = (d < temps) × (x < temps) × (nat_le words most_cells ≡ true)
  OfStatement (tac.Free x) = x < temps
  OfStatement (tac.Return v) = (is_some v ≡ is_some result) × Below temps v
  OfStatement layer = OfExpression temps scope layer

  of_expression : (layer : TacStmt-F Bool) → OfExpression temps scope layer → OfStatement layer
  of_expression (tac.Const d c) h = h
  of_expression (tac.Op d o x y) h = h
  of_expression (tac.ObjectPlace d i) h = h
  of_expression (tac.GlobalPlace d g) h = h
  of_expression (tac.Load d x b) h = h
  of_expression (tac.If c a b) h = h
  of_expression _ h = absurd h

  -- a test that each of them passes
  abbrev pub PassedByAll : (TacStmt-F Bool → Bool) → Type 0
  PassedByAll test = (layer : TacStmt-F Bool) → OfStatement layer → test layer ≡ true

module _ (temps : ℕ) (scope : Scope) (callable : Callable) (result : Option Ty) (test : TacStmt-F Bool → Bool)
    (passed : PassedByAll temps scope callable result test) (structs : List TypedStruct)
    (elements : PointsToElements scope structs) where
  exprs : PassedBy temps scope test
  exprs layer h = passed layer (of_expression temps scope callable result layer h)

  abbrev params : ℕ
  params = length scope.params

  abbrev form : TypedExpr → Forms
  form = forms structs params

  abbrev All : List TacStmt → Type 0
  All xs = everywhere test xs ≡ true

  abbrev Cleans : Lows → Type 0
  Cleans = Clean temps scope test exprs

  clean : (e : TypedExpr) → (judged scope e).fits ≡ true → Cleans (form e want.Value)
  clean e h = expr_clean temps scope test exprs structs elements e h want.Value

  clean_place : (e : TypedExpr) → (judged scope e).fits ≡ true → Cleans (form e want.Place)
  clean_place e h = expr_clean temps scope test exprs structs elements e h want.Place

  pub record CleanPart (p : Parts) : Type 0 where
    pub up : (n : ℕ) → n ≤ (p n).next
    pub passes : (n : ℕ) → (p n).next ≤ temps → All (p n).code

  just_clean : (code : List TacStmt) → All code → CleanPart (just code)
  just_clean code h = record { up = λ n. omega numbers; passes = λ n le. h }

  -- what is made of a value that lies in a temporary
  record CleanWith (make : ℕ → Parts) : Type 0 where
    pub up : (at n : ℕ) → n ≤ (make at n).next
    pub passes : (at n : ℕ) → at < temps → (make at n).next ≤ temps → All (make at n).code

  after_clean : (a : Lows) (make : ℕ → Parts) → Cleans a → CleanWith make → CleanPart (after a make)
  after_clean a make ha h = record {
    up = λ n. omega (numbers, ha.above n, ha.below n, h.up (a n).at (a n).next);
    passes = λ n le.
        let far = h.up (a n).at (a n).next in
        all_append test (a n).code (make (a n).at (a n).next).code (ha.passes n (omega (numbers, le, far)))
        (h.passes (a n).at (a n).next (omega (numbers, le, far, ha.below n)) le);
  }

  both_clean : (p q : Parts) → CleanPart p → CleanPart q → CleanPart (both p q)
  both_clean p q hp hq = record {
    up = λ n. omega (numbers, hp.up n, hq.up (p n).next);
    passes =
        λ n le. all_append test (p n).code (q (p n).next).code (hp.passes n (omega (numbers, le, hq.up (p n).next)))
        (hq.passes (p n).next le);
  }

  just_with : (make : ℕ → List TacStmt) → ((at : ℕ) → at < temps → All (make at)) → CleanWith (λ at. just (make at))
  just_with make h = record { up = λ at n. omega numbers; passes = λ at n lt le. h at lt }

  store_with : (f : Forms) → Cleans (f want.Place) → CleanWith (store_at f)
  store_with f hf = record {
    up = λ at n. omega (numbers, hf.above n, hf.below n);
    passes = λ at n lt le.
        let q : ℕ = (f want.Place n).at in
        all_append test (f want.Place n).code (emit.Store q at ∷ []) (hf.passes n le)
        (all_one test (tac.Store q at) (emit.Store q at) (emit.rolls-Store q at)
        (and_from _ true (passed (tac.Store q at) (omega (numbers, hf.below n, le), lt)) refl));
  }

  assign_clean : (f e : Forms) → Cleans (f want.Place) → Cleans (e want.Value) → CleanPart (assign f e)
  assign_clean f e hf he = after_clean (e want.Value) (store_at f) he (store_with f hf)

  -- ALLOCATIONS
  count_clean : (count : Option TypedExpr) → count_fits (option_map (judged scope) count) ≡ true →
      Cleans (count_code structs params count)
  count_clean None h =
      lone_clean temps scope test exprs (λ d. emit.Const d (constant.Word 1)) (λ d lt. const_passes temps scope test
      exprs d (constant.Word 1) refl lt)
  count_clean (Some e) h = clean e (int_fits (judged scope e) h)

  alloc_passes : (d x cells : ℕ) → nat_le cells most_cells ≡ true → d < temps → x < temps →
      All (emit.Alloc d x cells ∷ [])
  alloc_passes d x cells few ld lx =
      all_one test (tac.Alloc d x cells) (emit.Alloc d x cells) (emit.rolls-Alloc d x cells)
      (and_from _ true (passed (tac.Alloc d x cells) (ld, lx, few)) refl)

  allocate_clean : (f : Forms) (a : Lows) (cells : ℕ) → nat_le cells most_cells ≡ true → Cleans (f want.Place) →
      Cleans a → CleanPart (allocate_at f a cells)
  allocate_clean f a cells few hf ha =
      after_clean (allocation a cells) (store_at f) (replaced_clean temps scope test exprs a (λ at. emit.Alloc at at
      cells ∷ []) (λ at lt. alloc_passes at at cells few lt lt) ha) (store_with f hf)

  free_with : CleanWith (λ at. just (emit.Free at ∷ []))
  free_with =
      just_with (λ at. emit.Free at ∷ []) (λ at lt. all_one test (tac.Free at) (emit.Free at) (emit.rolls-Free at)
      (and_from _ true (passed (tac.Free at) lt) refl))

  -- ARGUMENTS
  goes_length : (types : List Ty) (es : List TypedExpr) → all_go_into types (map (judged scope) es) ≡ true →
      length es ≡ length types
  goes_length [] [] h = refl
  goes_length [] (e ∷ es) h = absurd (false≢true h)
  goes_length (t ∷ types) [] h = absurd (false≢true h)
  goes_length (t ∷ types) (e ∷ es) h = ap suc (goes_length types es (and_rest (goes_into t (judged scope e)) _ h))

  many_length : (es : List TypedExpr) (n : ℕ) → length (many (map form es) n).at ≡ length es
  many_length [] n = refl
  many_length (e ∷ es) n = ap suc (many_length es (form e want.Value n).next)

  record ManyClean (es : List TypedExpr) (n : ℕ) : Type 0 where
    pub up : n ≤ (many (map form es) n).next
    pub passes : (many (map form es) n).next ≤ temps → All (many (map form es) n).code
    pub below : (many (map form es) n).next ≤ temps → AllBelow temps (many (map form es) n).at

  many_clean : (types : List Ty) (es : List TypedExpr) (n : ℕ) → all_go_into types (map (judged scope) es) ≡ true →
      ManyClean es n
  many_clean types [] n h = record { up = omega numbers; passes = λ le. refl; below = λ le. tt }
  many_clean [] (e ∷ es) n h = absurd (false≢true h)
  many_clean (t ∷ types) (e ∷ es) n h =
      let x : Low = form e want.Value n in
      let c = clean e (and_first (judged scope e).fits _ (and_first (goes_into t (judged scope e)) _ h)) in
      let rest = many_clean types es x.next (and_rest (goes_into t (judged scope e)) _ h) in
      record {
        up = omega (numbers, c.above n, c.below n, rest.up);
        passes =
            λ le. all_append test x.code (many (map form es) x.next).code (c.passes n (omega (numbers, le, rest.up)))
            (rest.passes le);
        below = λ le. (omega (numbers, le, rest.up, c.below n), rest.below le);
      }

  call_one : (to : CallTarget) (dest : Option ℕ) (at : List ℕ) → FitsCall temps scope callable to dest at →
      All (call_code to dest at ∷ [])
  call_one (target.Own function) dest at h =
      all_one test (tac.CallOwn dest function at) (emit.CallOwn dest function at)
      (emit.rolls-CallOwn dest function at) (and_from _ true (passed (tac.CallOwn dest function at) h) refl)
  call_one (target.Cross comp index) dest at h =
      all_one test (tac.CallCross dest comp index at) (emit.CallCross dest comp index at)
      (emit.rolls-CallCross dest comp index at) (and_from _ true (passed (tac.CallCross dest comp index at) h) refl)
  call_one target.Input dest at h =
      all_one test (tac.Input dest) (emit.Input dest) (emit.rolls-Input dest)
      (and_from _ true (passed (tac.Input dest) (at, h)) refl)
  call_one target.Output dest at h =
      all_one test (tac.Output (first_of at)) (emit.Output (first_of at)) (emit.rolls-Output (first_of at))
      (and_from _ true (passed (tac.Output (first_of at)) (dest, at, refl, h)) refl)

  call_passes : (c : TypedCall) (s : Signed (target_signature callable c.target) (map (judged scope) c.args))
      (dest : Option ℕ) (n : ℕ) →
      (is_some dest ≡ true → is_some s.signature.result ≡ true) → Below temps dest →
      (many (map form c.args) n).next ≤ temps →
      All (call_code c.target dest (many (map form c.args) n).at ∷ [])
  call_passes c s dest n results lt le = call_one c.target dest (many (map form c.args) n).at (record {
    signature = s.signature;
    is = s.is;
    args = c.args;
    go = s.fit;
    count = many_length c.args n ∙ goes_length s.signature.params c.args s.fit;
    results = results;
    below = lt;
    every = (many_clean s.signature.params c.args n s.fit).below le;
  })

  call_statement_clean : (c : TypedCall) → call_fits callable c.target (map (judged scope) c.args) ≡ true →
      CleanPart (call_statement c.target (map form c.args))
  call_statement_clean c h =
      let s = signed (target_signature callable c.target) (map (judged scope) c.args) h in
      record {
        up = λ n. (many_clean s.signature.params c.args n s.fit).up;
        passes =
            λ n le. all_append test (many (map form c.args) n).code
            (call_code c.target None (many (map form c.args) n).at ∷ [])
            ((many_clean s.signature.params c.args n s.fit).passes le)
            (call_passes c s None n (λ some. absurd (false≢true some)) tt le);
      }

  call_for_clean : (c : TypedCall) (place : Ty) (make : ℕ → Parts) →
      call_fits callable c.target (map (judged scope) c.args) ≡ true →
      result_goes (target_signature callable c.target) place ≡ true → CleanWith make →
      CleanPart (call_for c.target (map form c.args) make)
  call_for_clean c place make h goes hm =
      let s = signed (target_signature callable c.target) (map (judged scope) c.args) h in
      let there = result_there (target_signature callable c.target) s.signature place s.is goes in
      record {
        up =
            λ n. omega (
              numbers,
              (many_clean s.signature.params c.args n s.fit).up,
              hm.up
                  (many (map form c.args) n).next (suc (many (map form c.args) n).next),
            );
        passes = λ n le.
            let x : Many = many (map form c.args) n in
            let far = hm.up x.next (suc x.next) in
            all_append test x.code (call_code c.target (Some x.next) x.at ∷ (make x.next (suc x.next)).code)
            ((many_clean s.signature.params c.args n s.fit).passes (omega (numbers, le, far)))
            (all_after test (call_code c.target (Some x.next) x.at) (make x.next (suc x.next)).code
            (call_passes c s (Some x.next) n (λ some. there) (omega (numbers, le, far)) (omega (numbers, le, far)))
            (hm.passes x.next (suc x.next) (omega (numbers, le, far)) le));
      }

  -- CONTROL
  return_with : is_some result ≡ true → CleanWith return_value
  return_with h =
      just_with (λ v. emit.Return (Some v) ∷ []) (λ v lt. all_one test (tac.Return (Some v)) (emit.Return (Some v))
      (emit.rolls-Return (Some v)) (and_from _ true (passed (tac.Return (Some v)) (sym h, lt)) refl))

  fork_with : (p q : Parts) → CleanPart p → CleanPart q → CleanWith (fork p q)
  fork_with p q hp hq = record {
    up = λ at n. omega (numbers, hp.up n, hq.up (p n).next);
    passes = λ at n lt le. fork_passes temps scope test exprs at (p n).code (q (p n).next).code lt
        (hp.passes n (omega (numbers, le, hq.up (p n).next))) (hq.passes (p n).next le);
  }

  break_passes : All (emit.Break ∷ [])
  break_passes = all_one test tac.Break emit.Break emit.rolls-Break (and_from _ true (passed tac.Break tt) refl)

  test_clean : (cond : TypedExpr) → (judged scope cond).fits ≡ true → CleanPart (tests (form cond))
  test_clean cond h =
      after_clean (form cond want.Value) _ (clean cond h) (just_with (λ v. emit.If v [] (emit.Break ∷ []) ∷ [])
      (λ v lt. fork_passes temps scope test exprs v [] (emit.Break ∷ []) lt refl break_passes))

  cycle_clean : (p q r : Parts) → CleanPart p → CleanPart q → CleanPart r → CleanPart (cycle p q r)
  cycle_clean p q r hp hq hr = record {
    up = λ n. omega (numbers, hp.up n, hq.up (p n).next, hr.up (q (p n).next).next);
    passes = λ n le.
        let x : Part = p n in let y : Part = q x.next in let z : Part = r y.next in
        all_one test (tac.Loop x.code y.code z.code) (emit.Loop x.code y.code z.code)
        (emit.rolls-Loop x.code y.code z.code)
        (and_from _ _ (passed (tac.Loop _ _ _) tt) (and_from _ _ (hp.passes n (omega
        (numbers, le, hq.up x.next, hr.up y.next)))
        (and_from _ _ (hq.passes x.next (omega (numbers, le, hr.up y.next))) (and_from _ true (hr.passes y.next le)
        refl))));
  }

  target_clean : (place : TypedExpr) → is_target (judged scope place) ≡ true → Cleans (form place want.Place)
  target_clean place h = clean_place place (and_first (judged scope place).fits _ h)

  assign_fits_clean : (place e : TypedExpr) → assign_fits (judged scope place) (judged scope e) ≡ true →
      CleanPart (assign (form place) (form e))
  assign_fits_clean place e h =
      assign_clean (form place) (form e) (target_clean place (and_first (is_target (judged scope place)) _ h))
      (clean e (and_first (judged scope e).fits _ (and_rest (is_target (judged scope place)) _ h)))

  assign_call_clean : (place : TypedExpr) (c : TypedCall) →
      assign_call_fits callable (judged scope place) c.target (map (judged scope) c.args) ≡ true →
      CleanPart (call_for c.target (map form c.args) (store_at (form place)))
  assign_call_clean place c h =
      let inner = and_rest (is_target (judged scope place)) _ h in
      call_for_clean c (judged scope place).ty (store_at (form place))
      (and_first (call_fits callable c.target (map (judged scope) c.args)) _ inner)
      (and_rest (call_fits callable c.target (map (judged scope) c.args)) _ inner)
      (store_with (form place) (target_clean place (and_first (is_target (judged scope place)) _ h)))

  malloc_clean : (place : TypedExpr) (count : Option TypedExpr) (cells : ℕ) →
      malloc_fits scope.structs (judged scope place) (option_map (judged scope) count) cells ≡ true →
      CleanPart (allocate_at (form place) (count_code structs params count) cells)
  malloc_clean place count cells h =
      let j = judged scope place in
      let counts = option_map (judged scope) count in
      allocate_clean (form place) (count_code structs params count) cells (malloc_few scope.structs j counts cells h)
      (target_clean place (malloc_place scope.structs j counts cells h))
      (count_clean count (malloc_count scope.structs j counts cells h))

  free_clean : (e : TypedExpr) → points (judged scope e) ≡ true → CleanPart (free_value (form e))
  free_clean e h = after_clean (form e want.Value) _ (clean e (points_fits (judged scope e) h)) free_with

  simple_clean : (k : TypedSimpleKind) → simple_fits scope callable result k ≡ true →
      CleanPart (simple_code structs params k)
  simple_clean (simple.Assign place e) h = assign_fits_clean place e h
  simple_clean (simple.AssignCall place c) h = assign_call_clean place c h
  simple_clean (simple.Call c) h = call_statement_clean c h
  simple_clean (simple.Malloc place count cells) h = malloc_clean place count cells h
  simple_clean (simple.Free e) h = free_clean e h

  part_clean : (part : Option TypedSimple) → part_fits scope callable result part ≡ true →
      CleanPart (part_code structs params part)
  part_clean None h = just_clean [] refl
  part_clean (Some s) h = simple_clean s.kind h

  returned_some : (r : Option Ty) (e : Judged) → returned_fits r e ≡ true → is_some r ≡ true
  returned_some None e h = absurd (false≢true h)
  returned_some (Some t) e h = refl

  return_call_clean : (r : Option Ty) → r ≡ result → (c : TypedCall) →
      returned_call_fits callable r c.target (map (judged scope) c.args) ≡ true →
      CleanPart (call_for c.target (map form c.args) return_value)
  return_call_clean None own c h = absurd (false≢true h)
  return_call_clean (Some t) own c h =
      call_for_clean c t return_value (and_first (call_fits callable c.target (map (judged scope) c.args)) _ h)
      (and_rest (call_fits callable c.target (map (judged scope) c.args)) _ h) (return_with (sym (ap is_some own)))

  nothing : (r : Option Ty) → not (is_some r) ≡ true → false ≡ is_some r
  nothing None h = refl
  nothing (Some t) h = absurd (false≢true h)

  abbrev Q : TypedStmt → Type 0
  Q stmt = (looping : Bool) → stmt_fits scope callable result stmt looping ≡ true →
      CleanPart (stmt_code structs params stmt)

  block_clean : (block : List TypedStmt) (looping : Bool) →
      list_all {X = Bool → Bool} (λ s. s looping) (map (stmt_fits scope callable result) block) ≡ true → Each Q block →
      CleanPart (block_code structs params block)
  block_clean [] looping h every = just_clean [] refl
  block_clean (stmt ∷ rest) looping h every =
      both_clean (stmt_code structs params stmt) (block_code structs params rest)
      (every.0 looping (and_first (stmt_fits scope callable result stmt looping) _ h))
      (block_clean rest looping (and_rest (stmt_fits scope callable result stmt looping) _ h) every.1)

  abbrev layer_fits : TypedStmtKind-F TypedStmtKind TypedStmt → Bool → Bool
  layer_fits k = layer_of _ _ (kind_fits scope callable result) (λ s. s.kind) k

  level : (line : ℕ) (k : TypedStmtKind-F TypedStmtKind TypedStmt) → Inside Q k → (looping : Bool) →
      layer_fits k looping ≡ true → CleanPart (layer_of _ _ (kind_step structs params) (λ s. s.kind) k)
  level line layer.Empty h looping fits = just_clean [] refl
  level line (layer.Assign place e) h looping fits = assign_fits_clean place e fits
  level line (layer.AssignCall place c) h looping fits = assign_call_clean place c fits
  level line (layer.Call c) h looping fits = call_statement_clean c fits
  level line (layer.Malloc place count cells) h looping fits = malloc_clean place count cells fits
  level line (layer.Free e) h looping fits = free_clean e fits
  level line (layer.If cond x y) h looping fits =
      let inner = and_rest (is_scalar (judged scope cond)) _ fits in
      after_clean (form cond want.Value)
      _ (clean cond (scalar_fits (judged scope cond) (and_first (is_scalar (judged scope cond)) _ fits)))
      (fork_with (block_code structs params x) (block_code structs params y)
      (block_clean x looping
      (and_first (list_all {X = Bool → Bool} (λ s. s looping) (map (stmt_fits scope callable result) x)) _ inner) h.0)
      (block_clean y looping
      (and_rest (list_all {X = Bool → Bool} (λ s. s looping) (map (stmt_fits scope callable result) x)) _ inner) h.1))
  level line (layer.While cond x) h looping fits =
      cycle_clean _ _ _ (test_clean cond (scalar_fits (judged scope cond) (and_first (is_scalar (judged scope cond))
      _ fits))) (block_clean x true (and_rest (is_scalar (judged scope cond)) _ fits) h) (just_clean [] refl)
  level line (layer.For first cond next x) h looping fits =
      let following = and_rest (part_fits scope callable result first) _ fits in
      let last = and_rest (is_scalar (judged scope cond)) _ following in
      both_clean _ _ (part_clean first (and_first (part_fits scope callable result first) _ fits))
      (cycle_clean _ _ _ (test_clean cond (scalar_fits (judged scope cond) (and_first (is_scalar (judged scope cond))
      _ following))) (block_clean x true (and_rest (part_fits scope callable result next) _ last) h)
      (part_clean next (and_first (part_fits scope callable result next) _ last)))
  level line layer.Break h looping fits = just_clean (emit.Break ∷ []) break_passes
  level line layer.Continue h looping fits =
      just_clean (emit.Continue ∷ []) (all_one test tac.Continue emit.Continue emit.rolls-Continue
      (and_from _ true (passed tac.Continue tt) refl))
  level line layer.Return h looping fits =
      just_clean (emit.Return None ∷ []) (all_one test (tac.Return None) (emit.Return None) (emit.rolls-Return None)
      (and_from _ true (passed (tac.Return None) (nothing result fits, tt)) refl))
  level line (layer.ReturnValue e) h looping fits =
      after_clean (form e want.Value) return_value (clean e (returned_value result (judged scope e) fits))
      (return_with (returned_some result (judged scope e) fits))
  level line (layer.ReturnCall c) h looping fits = return_call_clean result refl c fits

  stmt_clean : (stmt : TypedStmt) → Q stmt
  stmt_clean = stmt_induction Q (λ line k h looping fits.
      subst CleanPart (sym (stmt_at _ _ (kind_step structs params) (λ s. s.kind) line k))
      (level line k h looping (subst (λ x. x looping ≡ true) (stmt_at _ _ (kind_fits scope callable result)
      (λ s. s.kind) line k) fits)))

  body_block : (block : List TypedStmt) → body_fits scope callable result block ≡ true →
      CleanPart (block_code structs params block)
  body_block [] h = just_clean [] refl
  body_block (stmt ∷ rest) h =
      both_clean (stmt_code structs params stmt) (block_code structs params rest)
      (stmt_clean stmt false (and_first (stmt_fits scope callable result stmt false) _ h))
      (body_block rest (and_rest (stmt_fits scope callable result stmt false) _ h))

  init_clean : (k : ℕ) (local : TypedLocal) (init : Option TypedExpr) → is_type (variable_ty scope (Local k)) local.ty
      ≡ true → init_fits scope local.ty init ≡ true → CleanPart (init_code structs params k local init)
  init_clean k local None own h = just_clean [] refl
  init_clean k local (Some e) own h =
      assign_clean (at_place local.ty (lone (place_code params (Local k)))) (form e)
      (place_clean temps scope test exprs local.ty want.Place (lone (place_code params (Local k)))
      (lone_clean temps scope test exprs (place_code params (Local k))
      (place_passes temps scope test exprs (Local k) local.ty own)))
      (clean e (and_first (judged scope e).fits _ h))

  inits_clean : (k : ℕ) (locals : List TypedLocal) → InitsFit scope k locals →
      CleanPart (in_turn (inits_code structs params k locals))
  inits_clean k [] h = just_clean [] refl
  inits_clean k (local ∷ locals) h =
      both_clean (init_code structs params k local local.init) (in_turn (inits_code structs params (suc k) locals))
      (init_clean k local local.init h.0 h.1) (inits_clean (suc k) locals h.2)

  -- all of a body
  pub body_passes : (locals : List TypedLocal) (body : List TypedStmt) → InitsFit scope 0 locals →
      body_fits scope callable result body ≡ true →
      CleanPart (both (in_turn (inits_code structs params 0 locals)) (block_code structs params body))
  body_passes locals body inits fits = both_clean _ _ (inits_clean 0 locals inits) (body_block body fits)
