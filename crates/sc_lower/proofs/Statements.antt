-- The code of statements that fit does what they do.
use Rattle.sc_lower.proofs.Common.{Acts, Arith, Bool, Break, CallTarget, Callable, Calls, Cause, Codes, Continue, Each}
use Rattle.sc_lower.proofs.Common.{Err, Forms, Here, Inside, Judged, Left, List, Local, Low, Next, None, Ok, Option}
use Rattle.sc_lower.proofs.Common.{Part, Parts, Piece, Reached, Result, Return, Scope, Signature, Some, State, Stopped}
use Rattle.sc_lower.proofs.Common.{TacStmt, Temps, Ty, TypedCall, TypedExpr, TypedFunction, TypedLocal, TypedSimple}
use Rattle.sc_lower.proofs.Common.{TypedSimpleKind, TypedStmt, TypedStmtKind, TypedStmtKind-F, TypedStruct, Value, Ways}
use Rattle.sc_lower.proofs.Common.{[], all_do, all_go_into, allocate_at, allocated, allowed, and_first, and_rest}
use Rattle.sc_lower.proofs.Common.{and_then, ap, append_assoc, args_fit, arith as numbers, assign, assign_call}
use Rattle.sc_lower.proofs.Common.{assign_call_fits, assign_fits, at_place, block_code, block_does, body_code}
use Rattle.sc_lower.proofs.Common.{body_does, body_fits, call as calls_of, call_code, call_does, call_fits, call_for}
use Rattle.sc_lower.proofs.Common.{call_statement, choose, computed, count_code, count_fits, count_in, count_ways}
use Rattle.sc_lower.proofs.Common.{cycle, elements_allocated, false, false≢true, first_of, follow, forms, free_value}
use Rattle.sc_lower.proofs.Common.{freed, goes_into, in_order, in_turn, init_code, init_does, init_fits, inits_code}
use Rattle.sc_lower.proofs.Common.{inits_do, int_fits, is_scalar, is_some, is_target, is_true, judged, just, kind_fits}
use Rattle.sc_lower.proofs.Common.{kind_step, layer_of, leave, length, list_all, list_any, local_fits, lone, loop}
use Rattle.sc_lower.proofs.Common.{malloc_fits, many, map, on_line, option_goes, option_map, part_code, part_does}
use Rattle.sc_lower.proofs.Common.{part_fits, place_code, points, received, refl, released, result_goes, return_value}
use Rattle.sc_lower.proofs.Common.{returned_call_fits, same_import, signed, simple_code, simple_does, simple_fits}
use Rattle.sc_lower.proofs.Common.{stmt_at, stmt_code, stmt_does, stmt_fits, stmt_induction, stmt_step, store, store_at}
use Rattle.sc_lower.proofs.Common.{store_result, stored, subst, suc, sym, target_signature, test, true, values}
use Rattle.sc_lower.proofs.Common.{variable_at, variable_fits, ways, with_memory, with_temp, ℕ, ◌*◌, ◌++◌, ◌<◌, ◌∙◌}
use Rattle.sc_lower.proofs.Common.{◌∷◌, ◌≡◌, ◌≤◌}
use Rattle.sc_core.specs.Prelude.{allocate_at as allocates_at, assign as assigns, at_place as place_way}
use Rattle.sc_core.specs.Prelude.{call_statement as calls_alone, free_value as frees_value, kind_step as kind_acts}
use Rattle.sc_core.specs.Prelude.{stmt_does as stmt_acts, store_at as stores_at, test as tests}
use Rattle.sc_lower.proofs.Passing.{returned_value}
use Rattle.sc_lower.proofs.Tests.{malloc_count, malloc_place, points_fits, scalar_fits}
use Rattle.sc_event.specs.declared.interface.Import.TheVariants as import
use Rattle.sc_core.specs.declared.ty.Ty.TheVariants as ty
use Rattle.sc_core.specs.declared.expr.CallTarget.TheVariants as target
use Rattle.sc_core.specs.declared.stmt.TypedStmtKind.TheOpen as layer
use Rattle.sc_core.specs.declared.stmt.TypedSimpleKind.TheVariants as simple
use Rattle.sc_core.specs.declared.value.Want.TheVariants as want
use Rattle.sc_tac.specs.declared.stmt.TacStmt.TheOpen as tac
use Rattle.sc_tac.specs.declared.stmt.TacStmt.TheVariants as emit
use Rattle.sc_lower.proofs.Gives.{Keeps, first_is, read_then, run, run_append, with_temp_same}
use Rattle.sc_lower.proofs.Expressions.{Computes, expr_fits, lone_computes, place_computes, place_gives, word_computes}
use Rattle.sc_lower.proofs.Matching.{answers, value_answers, none_answers, blamed, BackMatches, ends_then, Matches}
use Rattle.sc_lower.proofs.Matching.{ActsMatch, matches_along, leave_matches, follow_matches, if_matches, rounds_match}
use Rattle.sc_lower.proofs.Matching.{code_then, read_matches, computed_matches, one_matches, GivesAll, codes_then}

-- whether what is called gives a result
abbrev pub promises : Option Signature → Bool
promises None = false
promises (Some signature) = is_some signature.result

pub goes_promised : (signature : Option Signature) (place : Ty) → result_goes signature place ≡ true →
    promises signature ≡ true
goes_promised None place h = absurd (false≢true h)
goes_promised (Some signature) place h = by signature.result h where
  by : (result : Option Ty) → option_goes result place ≡ true → is_some result ≡ true
  by None h = absurd (false≢true h)
  by (Some t) h = refl

allowed_args : (b : Bool) (signature : Signature) (es : List Judged) → args_fit (allowed b (Some signature)) es ≡ true →
    all_go_into signature.params es ≡ true
allowed_args true signature es h = h
allowed_args false signature es h = absurd (false≢true h)

-- a call stands in the code as it is: `input` takes nothing, and `output` one value and gives none
abbrev pub Shaped : CallTarget → Option ℕ → List ℕ → Type 0
Shaped (target.Own function) dest at = Unit {0}
Shaped (target.Cross comp index) dest at = Unit {0}
Shaped target.Input dest at = at ≡ []
Shaped target.Output dest at = (at ≡ first_of at ∷ []) × (dest ≡ None)

module _ (scope : Scope) where
  none_taken : (forms : TypedExpr → Forms) (es : List TypedExpr) (n : ℕ) →
      all_go_into [] (map (judged scope) es) ≡ true → (many (map forms es) n).at ≡ []
  none_taken forms [] n h = refl
  none_taken forms (e ∷ es) n h = absurd (false≢true h)

  one_taken : (forms : TypedExpr → Forms) (t : Ty) (es : List TypedExpr) (n : ℕ) →
      all_go_into (t ∷ []) (map (judged scope) es) ≡ true →
      (many (map forms es) n).at ≡ first_of (many (map forms es) n).at ∷ []
  one_taken forms t [] n h = absurd (false≢true h)
  one_taken forms t (e ∷ []) n h = refl
  one_taken forms t (e ∷ f ∷ es) n h = absurd (false≢true (and_rest (goes_into t (judged scope e)) _ h))

  module _ (callable : Callable) (forms : TypedExpr → Forms) where
    pub shaped : (to : CallTarget) (es : List TypedExpr) (n : ℕ) (dest : Option ℕ) →
        call_fits callable to (map (judged scope) es) ≡ true →
        (to ≡ target.Output → dest ≡ None) → Shaped to dest (many (map forms es) n).at
    shaped (target.Own function) es n dest h o = tt
    shaped (target.Cross comp index) es n dest h o = tt
    shaped target.Input es n dest h o =
        none_taken forms es n (allowed_args (list_any (same_import import.Input) callable.imports)
        (record { params = []; result = Some ty.Int }) (map (judged scope) es) h)
    shaped target.Output es n dest h o = (
      one_taken forms ty.Int es n (allowed_args (list_any (same_import import.Output) callable.imports)
          (record { params = ty.Int ∷ []; result = None }) (map (judged scope) es) h),
      o refl,
    )

    nothing_promised : (b : Bool) → promises (allowed b (Some (record { params = ty.Int ∷ []; result = None })))
        ≡ true → ⊥
    nothing_promised true h = false≢true h
    nothing_promised false h = false≢true h

    pub not_output : (to : CallTarget) → promises (target_signature callable to) ≡ true → (dest : Option ℕ) →
        to ≡ target.Output → dest ≡ None
    not_output to h dest is =
        absurd (nothing_promised (list_any (same_import import.Output) callable.imports)
        (subst (λ x. promises (target_signature callable x) ≡ true) is h))

-- `C` is what calls do in trees, `D` what they do in code
module _ (arith : Arith) (structs : List TypedStruct) (here : Here) (params : ℕ) (scope : Scope) (callable : Callable)
    (C D : Calls) where
  abbrev pub CallsMatch : Type 0
  CallsMatch = (to : CallTarget) (vs : List Value) (s : State) →
      BackMatches (promises (target_signature callable to)) (C here.comp to vs s) (D here.comp to vs s)

  abbrev way : TypedExpr → Ways
  way = ways arith structs here params

  abbrev form : TypedExpr → Forms
  form = forms structs params

  abbrev counts : Option TypedExpr → Ways
  counts = count_ways arith structs here params

  abbrev Fit : TypedExpr → Type 0
  Fit e = (judged scope e).fits ≡ true

  fits_value : (e : TypedExpr) → Fit e → Computes arith here D (form e want.Value) (way e want.Value)
  fits_value e h = (expr_fits arith here D structs params scope e h).form want.Value

  fits_place : (e : TypedExpr) → Fit e → Computes arith here D (form e want.Place) (way e want.Place)
  fits_place e h = (expr_fits arith here D structs params scope e h).form want.Place

  up : (e : TypedExpr) → Fit e → (n : ℕ) → n ≤ (form e want.Value n).next
  up e h n = omega (numbers, (fits_value e h).above n, (fits_value e h).below n)

  place_fit : (place : TypedExpr) → is_target (judged scope place) ≡ true → Fit place
  place_fit place h = and_first (judged scope place).fits _ h

  cond_fit : (cond : TypedExpr) → is_scalar (judged scope cond) ≡ true → Fit cond
  cond_fit cond h = scalar_fits (judged scope cond) h

  all_given : (types : List Ty) (es : List TypedExpr) → all_go_into types (map (judged scope) es) ≡ true →
      (n : ℕ) (t : Temps) (s : State) →
      GivesAll false arith here D n (many (map form es) n).at t s (values (map way es) (s.memory here.comp))
      (run arith here D (many (map form es) n).code t s)
  all_given types [] h n t s = record { temps = t; comes = refl; holds = λ s. refl; keeps = λ i lt. refl }
  all_given [] (e ∷ es) h n t s = absurd (false≢true h)
  all_given (ty ∷ types) (e ∷ es) h n t s =
      let fit = and_first (judged scope e).fits _ (and_first (goes_into ty (judged scope e)) _ h) in
      let x : Low = form e want.Value n in
      codes_then false arith here D n x.next x.at (many (map form es) x.next).at t s _ _ x.code
      (many (map form es) x.next).code (up e fit n) ((fits_value e fit).below n) ((fits_value e fit).gives n t s)
      (λ u. all_given types es (and_rest (goes_into ty (judged scope e)) _ h) x.next u s)

  call_is : (to : CallTarget) (dest : Option ℕ) (at : List ℕ) (t : Temps) (s : State) → Shaped to dest at →
      stmt_does arith here D (call_code to dest at) t s ≡ call_does here D dest to at t s
  call_is (target.Own function) dest at t s h =
      first_is arith here D (tac.CallOwn dest function at) (emit.CallOwn dest function at) t s
      (emit.rolls-CallOwn dest function at)
  call_is (target.Cross comp index) dest at t s h =
      first_is arith here D (tac.CallCross dest comp index at) (emit.CallCross dest comp index at) t s
      (emit.rolls-CallCross dest comp index at)
  call_is target.Input dest at t s h =
      first_is arith here D (tac.Input dest) (emit.Input dest) t s (emit.rolls-Input dest)
      ∙ ap (λ x. call_does here D dest target.Input x t s) (sym h)
  call_is target.Output dest at t s h =
      first_is arith here D (tac.Output (first_of at)) (emit.Output (first_of at)) t s (emit.rolls-Output (first_of at))
      ∙ (λ i. call_does here D (sym h.1 i) target.Output (sym h.0 i) t s)

  -- a function that promises a value, or none
  module _ (result : Option Ty) (meets : CallsMatch) where
    abbrev has : Bool
    has = is_some result

    abbrev Does : Acts → Codes → Type 0
    Does f g = ActsMatch has f g

    -- a call in a tree and its statement, and what follows
    back_then : (b : Bool) (o p : Piece (Option Value)) (dest : Option ℕ) (t : Temps) (go : Option Value → State →
        Piece (Left (Unit {0}))) (rest : Codes) → BackMatches b o p →
        ((v : Option Value) (s : State) → answers b v ≡ true → Matches has (go v s) (rest (received dest v t) s)) →
        Matches has (and_then o go) (follow in_order (and_then p (λ v s. leave Next (received dest v t) s)) rest)
    back_then b (Reached v s) p dest t go rest m h =
        matches_along has (go v s) (rest (received dest v t) s)
        _ (ap (λ x. follow in_order (and_then x (λ v s. leave Next (received dest v t) s)) rest) m.is) (h v s m.good)
    back_then b (Stopped end s) p dest t go rest m h =
        ends_then end s (and_then p (λ v s. leave Next (received dest v t) s))
        _ (ends_then end s p (λ v s. leave Next (received dest v t) s) m)

    call_by : (to : CallTarget) (dest : Option ℕ) (n line : ℕ) (at : List ℕ) (t : Temps) (s : State)
        (r : Result (List Value) Cause) (xs ys : List TacStmt) (go : Option Value → State → Piece (Left (Unit {0}))) →
        Shaped to dest at → GivesAll false arith here D n at t s r (run arith here D xs t s) →
        ((v : Option Value) (s : State) (u : Temps) → answers (promises (target_signature callable to)) v ≡ true →
        Matches has (go v s) (run arith here D ys (received dest v u) s)) →
        Matches has (and_then (and_then (computed here line r s) (λ vs s. C here.comp to vs s)) go)
        (run arith here D (xs ++ call_code to dest at ∷ ys) t s)
    call_by to dest n line at t s (Err cause) xs ys go shape e h =
        blamed here cause line s _ (run_append arith here D xs (call_code to dest at ∷ ys) t s
        ∙ ap (λ x. follow in_order x (run arith here D (call_code to dest at ∷ ys))) e)
    call_by to dest n line at t s (Ok vs) xs ys go shape e h =
        matches_along has
        _ (follow in_order (and_then (D here.comp to vs s) (λ v s. leave Next (received dest v e.temps) s))
        (run arith here D ys)) _
        (run_append arith here D xs (call_code to dest at ∷ ys) t s
        ∙ ap (λ x. follow in_order x (run arith here D (call_code to dest at ∷ ys))) e.comes
        ∙ ap (λ x. follow in_order x (run arith here D ys)) (call_is to dest at e.temps s shape)
        ∙ ap (λ x. follow in_order
        (and_then x (λ vs s. and_then (D here.comp to vs s) (λ v s. leave Next (received dest v e.temps) s)))
        (run arith here D ys)) (e.holds s))
        (back_then (promises (target_signature callable to)) (C here.comp to vs s) (D here.comp to vs s) dest e.temps go
        (run arith here D ys) (meets to vs s) (λ v s good. h v s e.temps good))

    call_first : (c : TypedCall) (dest : Option ℕ) (n line : ℕ) (t : Temps) (s : State) (ys : List TacStmt)
        (go : Option Value → State → Piece (Left (Unit {0}))) →
        call_fits callable c.target (map (judged scope) c.args) ≡ true → (c.target ≡ target.Output → dest ≡ None) →
        ((v : Option Value) (s : State) (u : Temps) → answers (promises (target_signature callable c.target)) v ≡ true →
        Matches has (go v s) (run arith here D ys (received dest v u) s)) →
        Matches has (and_then (calls_of here C c.target (map way c.args) line s) go)
        (run arith here D ((many (map form c.args) n).code ++ call_code c.target dest
        (many (map form c.args) n).at ∷ ys) t s)
    call_first c dest n line t s ys go fits o h =
        let found = signed (target_signature callable c.target) (map (judged scope) c.args) fits in
        call_by c.target dest n line (many (map form c.args) n).at t s (values (map way c.args) (s.memory here.comp))
        (many (map form c.args) n).code ys go
        (shaped scope callable form c.target c.args n dest fits o)
        (all_given found.signature.params c.args found.fit n t s) h

    -- a value, and what follows
    value_first : (e : TypedExpr) → Fit e → (n line : ℕ) (t : Temps) (s : State) (ys : List TacStmt)
        (f : Value → State → Piece (Left (Unit {0}))) →
        ((v : Value) (u : Temps) → u (form e want.Value n).at ≡ Some v → Keeps n t u →
        Matches has (f v s) (run arith here D ys u s)) →
        Matches has (and_then (computed here line (way e want.Value (s.memory here.comp)) s) f)
        (run arith here D ((form e want.Value n).code ++ ys) t s)
    value_first e fit n line t s ys f h =
        code_then has arith here D n (form e want.Value n).at line t s _ (form e want.Value n).code ys f
        ((fits_value e fit).gives n t s) h

    -- a store through a place
    store_matches : (line p v : ℕ) (a : Unit {0}) (t : Temps) (s : State) (q w : Value) → t p ≡ Some q → t v ≡ Some w →
        Matches has (stored here q w line a s) (run arith here D (emit.Store p v ∷ []) t s)
    store_matches line p v a t s q w e d =
        one_matches has arith here D _ (tac.Store p v) (emit.Store p v) t s (emit.rolls-Store p v)
        (read_matches has arith here D p q t s _ _ e (read_matches has arith here D v w t s _ _ d
        (computed_matches has arith here D line s (store (s.memory here.comp) q w) _ _ (λ blocks. leave_matches has Next
        refl a t (with_memory here.comp blocks s)))))

    -- the place, and then a store of a value that lies in a temporary below
    store_at_matches : (f : Forms) (w : Ways) → Computes arith here D (f want.Place) (w want.Place) →
        (n line i : ℕ) (a : Unit {0}) (t : Temps) (s : State) (v : Value) → i < n → t i ≡ Some v →
        Matches has (stores_at here w v line a s) (run arith here D (store_at f i n).code t s)
    store_at_matches f w h n line i a t s v lt e =
        code_then has arith here D n (f want.Place n).at line t s (w want.Place (s.memory here.comp))
        (f want.Place n).code (emit.Store (f want.Place n).at i ∷ []) (λ q s. stored here q v line a s) (h.gives n t s)
        (λ q u is k.
        store_matches line (f want.Place n).at i a u s q v is (k i lt ∙ e))

    assign_matches : (f : Forms) (w : Ways) → Computes arith here D (f want.Place) (w want.Place) →
        (e : TypedExpr) → Fit e → (n line : ℕ) →
        Does (assigns here w (way e) line) (run arith here D (assign f (form e) n).code)
    assign_matches f w h e fit n line a t s =
        value_first e fit n line t s (store_at f (form e want.Value n).at (form e want.Value n).next).code
        (λ v s. stores_at here w v line a s) (λ v u is k.
        store_at_matches f w h (form e want.Value n).next line (form e want.Value n).at a u s v
        ((fits_value e fit).below n) is)

    -- what is allocated, into a temporary, and what follows
    into_temp : (o : Piece Value) (d : ℕ) (t : Temps) (go : Value → State → Piece (Left (Unit {0}))) (rest : Codes) →
        ((q : Value) (s : State) → Matches has (go q s) (rest (with_temp d q t) s)) →
        Matches has (and_then o go) (follow in_order (and_then o (λ q s. leave Next (with_temp d q t) s)) rest)
    into_temp (Reached q s) d t go rest h = h q s
    into_temp (Stopped end s) d t go rest h = record { other = end; is = refl; same = refl }

    elements_match : (r : Result ℕ Cause) (cells line d : ℕ) (t : Temps) (s : State)
        (go : Value → State → Piece (Left (Unit {0}))) (rest : Codes) →
        ((q : Value) (s : State) → Matches has (go q s) (rest (with_temp d q t) s)) →
        Matches has
        (and_then (and_then (computed here line r s) (λ count s. allocated here (count * cells) s)) go)
        (follow in_order (and_then (and_then (computed here 0 r s) (λ count s. allocated here (count * cells) s))
        (λ q s. leave Next (with_temp d q t) s)) rest)
    elements_match (Err cause) cells line d t s go rest h = blamed here cause line s _ refl
    elements_match (Ok count) cells line d t s go rest h = into_temp (allocated here (count * cells) s) d t go rest h

    -- a block of as many elements as a temporary says, and what follows
    alloc_first : (cells line d x : ℕ) (v : Value) (t : Temps) (s : State) (ys : List TacStmt)
        (go : Value → State → Piece (Left (Unit {0}))) → t x ≡ Some v →
        ((q : Value) (s : State) → Matches has (go q s) (run arith here D ys (with_temp d q t) s)) →
        Matches has (and_then (elements_allocated here v cells line s) go)
        (run arith here D (emit.Alloc d x cells ∷ ys) t s)
    alloc_first cells line d x v t s ys go e h =
        matches_along has
        _ (follow in_order (and_then (elements_allocated here v cells 0 s) (λ q s. leave Next (with_temp d q t) s))
        (run arith here D ys)) _
        (ap (λ o. follow in_order o (run arith here D ys))
        (first_is arith here D (tac.Alloc d x cells) (emit.Alloc d x cells) t s (emit.rolls-Alloc d x cells)
        ∙ read_then arith here D x v t s (λ v s. and_then (elements_allocated here v cells 0 s)
        (λ q s. leave Next (with_temp d q t) s)) e))
        (elements_match (count_in v) cells line d t s go (run arith here D ys) h)

    count_computes : (count : Option TypedExpr) → count_fits (option_map (judged scope) count) ≡ true →
        Computes arith here D (count_code structs params count) (counts count want.Value)
    count_computes None h = word_computes arith here D 1
    count_computes (Some e) h = fits_value e (int_fits (judged scope e) h)

    malloc_matches : (place : TypedExpr) (count : Option TypedExpr) (cells n line : ℕ) →
        malloc_fits scope.structs (judged scope place) (option_map (judged scope) count) cells ≡ true →
        Does (allocates_at here (way place) (counts count) cells line)
        (run arith here D (allocate_at (form place) (count_code structs params count) cells n).code)
    malloc_matches place count cells n line h a t s =
        let j = judged scope place in
        let x : Low = count_code structs params count n in
        let ys : List TacStmt = (store_at (form place) x.at x.next).code in
        let hc = count_computes count (malloc_count scope.structs j (option_map (judged scope) count) cells h) in
        matches_along has _ _ _ (ap (λ xs. run arith here D xs t s) (append_assoc x.code
        (emit.Alloc x.at x.at cells ∷ []) ys))
        (code_then has arith here D n x.at line t s (counts count want.Value (s.memory here.comp)) x.code
        (emit.Alloc x.at x.at cells ∷ ys)
        (λ v s. and_then (elements_allocated here v cells line s) (λ q s. stores_at here (way place) q line a s))
        (hc.gives n t s)
        (λ v u is k. alloc_first cells line x.at x.at v u s ys (λ q s. stores_at here (way place) q line a s) is
        (λ q s. store_at_matches (form place) (way place) (fits_place place (place_fit place
        (malloc_place scope.structs j (option_map (judged scope) count) cells h))) x.next line x.at a
        (with_temp x.at q u) s q (hc.below n) (with_temp_same x.at q u))))

    free_matches : (e : TypedExpr) (n line : ℕ) → points (judged scope e) ≡ true →
        Does (frees_value here (way e) line) (run arith here D (free_value (form e) n).code)
    free_matches e n line h a t s =
        let at : ℕ = (form e want.Value n).at in
        value_first e (points_fits (judged scope e) h) n line t s (emit.Free at ∷ [])
        (λ v s. released here v line a s) (λ v u is k.
        one_matches has arith here D _ (tac.Free at) (emit.Free at) u s (emit.rolls-Free at)
        (read_matches has arith here D at v u s _ _ is
        (computed_matches has arith here D line s (freed (s.memory here.comp) v) _ _ (λ blocks. leave_matches has Next
        refl a u (with_memory here.comp blocks s)))))

    call_statement_matches : (c : TypedCall) (n line : ℕ) →
        call_fits callable c.target (map (judged scope) c.args) ≡ true →
        Does (calls_alone here C c.target (map way c.args) line)
        (run arith here D (call_statement c.target (map form c.args) n).code)
    call_statement_matches c n line fits a t s =
        call_first c None n line t s [] (λ v s. leave Next a s) fits (λ o. refl)
        (λ v s u good. leave_matches has Next refl a u s)

    assign_call_matches : (place : TypedExpr) (c : TypedCall) (n line : ℕ) →
        assign_call_fits callable (judged scope place) c.target (map (judged scope) c.args) ≡ true →
        Does (assign_call here C (way place) c.target (map way c.args) line)
        (run arith here D (call_for c.target (map form c.args) (store_at (form place)) n).code)
    assign_call_matches place c n line h a t s =
        let inner = and_rest (is_target (judged scope place)) _ h in
        let fits = and_first (call_fits callable c.target (map (judged scope) c.args)) _ inner in
        let promised = goes_promised (target_signature callable c.target) (judged scope place).ty
        (and_rest (call_fits callable c.target (map (judged scope) c.args)) _ inner) in
        let d : ℕ = (many (map form c.args) n).next in
        call_first c (Some d) n line t s (store_at (form place) d (suc d)).code (λ v s. store_result here (way place) v
        line a s) fits (not_output scope callable form c.target promised (Some d)) (λ v s u good.
        by d v u s a (subst (λ b. answers b v ≡ true) promised good)) where
          by : (d : ℕ) (v : Option Value) (u : Temps) (s : State) (a : Unit {0}) → is_some v ≡ true →
              Matches has (store_result here (way place) v line a s)
              (run arith here D (store_at (form place) d (suc d)).code (received (Some d) v u) s)
          by d None u s a good = absurd (false≢true good)
          by d (Some v) u s a good =
              store_at_matches (form place) (way place) (fits_place place
              (place_fit place (and_first (is_target (judged scope place)) _ h))) (suc d) line d a (with_temp d v u) s v
              (omega numbers) (with_temp_same d v u)

    assigned_matches : (place e : TypedExpr) (n line : ℕ) → assign_fits (judged scope place) (judged scope e) ≡ true →
        Does (assigns here (way place) (way e) line) (run arith here D (assign (form place) (form e) n).code)
    assigned_matches place e n line h =
        assign_matches (form place) (way place)
        (fits_place place (place_fit place (and_first (is_target (judged scope place)) _ h))) e
        (and_first (judged scope e).fits _ (and_rest (is_target (judged scope place)) _ h)) n line

    simple_matches : (k : TypedSimpleKind) (n line : ℕ) → simple_fits scope callable result k ≡ true →
        Does (simple_does arith structs here params C k line) (run arith here D (simple_code structs params k n).code)
    simple_matches (simple.Assign place e) n line h = assigned_matches place e n line h
    simple_matches (simple.AssignCall place c) n line h = assign_call_matches place c n line h
    simple_matches (simple.Call c) n line h = call_statement_matches c n line h
    simple_matches (simple.Malloc place count cells) n line h = malloc_matches place count cells n line h
    simple_matches (simple.Free e) n line h = free_matches e n line h

    part_matches : (part : Option TypedSimple) (n : ℕ) → part_fits scope callable result part ≡ true →
        Does (part_does arith structs here params C part) (run arith here D (part_code structs params part n).code)
    part_matches None n h = leave_matches has Next refl
    part_matches (Some s) n h = simple_matches s.kind n s.line h

    abbrev Q : TypedStmt → Type 0
    Q stmt = (looping : Bool) → stmt_fits scope callable result stmt looping ≡ true → (n : ℕ) →
        Does (stmt_acts arith structs here params C stmt) (run arith here D (stmt_code structs params stmt n).code)

    block_matches : (block : List TypedStmt) (looping : Bool) →
        list_all {X = Bool → Bool} (λ s. s looping) (map (stmt_fits scope callable result) block) ≡ true →
        Each Q block → (n : ℕ) →
        Does (block_does arith structs here params C block) (run arith here D (block_code structs params block n).code)
    block_matches [] looping h every n = leave_matches has Next refl
    block_matches (stmt ∷ rest) looping h every n = λ a t s.
        let x : Part = stmt_code structs params stmt n in
        matches_along has _ _ _ (run_append arith here D x.code (block_code structs params rest x.next).code t s)
        (follow_matches has (stmt_acts arith structs here params C stmt a s) (run arith here D x.code t s)
        (block_does arith structs here params C rest) (run arith here D (block_code structs params rest x.next).code)
        (every.0 looping (and_first (stmt_fits scope callable result stmt looping) _ h) n a t s)
        (block_matches rest looping (and_rest (stmt_fits scope callable result stmt looping) _ h) every.1 x.next))

    test_matches : (cond : TypedExpr) → Fit cond → (n line : ℕ) →
        Does (tests here (way cond) line) (run arith here D (test (form cond) n).code)
    test_matches cond fit n line a t s =
        let at : ℕ = (form cond want.Value n).at in
        value_first cond fit n line t s (emit.If at [] (emit.Break ∷ []) ∷ []) (λ v s. choose v (leave Next a s)
        (leave Break a s)) (λ v u is k.
        one_matches has arith here D _ (tac.If at [] (emit.Break ∷ [])) (emit.If at [] (emit.Break ∷ [])) u s
        (emit.rolls-If at [] (emit.Break ∷ []))
        (read_matches has arith here D at v u s _ _ is
        (if_matches has (is_true v) (leave Next a s) (leave Break a s) (leave Next u s)
        (run arith here D (emit.Break ∷ []) u s) (leave_matches has Next refl a u s)
        (one_matches has arith here D (leave Break a s) tac.Break emit.Break u s emit.rolls-Break
        (leave_matches has Break refl a u s)))))

    cycle_matches : (cond : TypedExpr) → Fit cond → (n line : ℕ) (block : List TypedStmt) (last : Parts) (next : Acts) →
        list_all {X = Bool → Bool} (λ s. s true) (map (stmt_fits scope callable result) block) ≡ true → Each Q block →
        ((n : ℕ) → Does next (run arith here D (last n).code)) →
        Does (loop (tests here (way cond) line) (block_does arith structs here params C block) next)
        (run arith here D (cycle (test (form cond)) (block_code structs params block) last n).code)
    cycle_matches cond fit n line block last next h every following a t s =
        let x : Part = test (form cond) n in
        let y : Part = block_code structs params block x.next in
        let z : Part = last y.next in
        one_matches has arith here D _ (tac.Loop x.code y.code z.code) (emit.Loop x.code y.code z.code) t s
        (emit.rolls-Loop x.code y.code z.code)
        (rounds_match has (tests here (way cond) line) (block_does arith structs here params C block) next
        (run arith here D x.code) (run arith here D y.code) (run arith here D z.code)
        (test_matches cond fit n line) (block_matches block true h every x.next) (following y.next) (suc s.turns) a t s)

    return_matches : (e : TypedExpr) → Fit e → (n line : ℕ) →
        Does (λ a s. and_then (computed here line (way e want.Value (s.memory here.comp)) s)
        (λ v s. leave (Return (Some v)) a s))
        (run arith here D ((form e want.Value n).code ++ emit.Return (Some (form e want.Value n).at) ∷ []))
    return_matches e fit n line a t s =
        let at : ℕ = (form e want.Value n).at in
        value_first e fit n line t s (emit.Return (Some at) ∷ []) (λ v s. leave (Return (Some v)) a s) (λ v u is k.
        one_matches has arith here D (leave (Return (Some v)) a s) (tac.Return (Some at)) (emit.Return (Some at)) u s
        (emit.rolls-Return (Some at))
        (read_matches has arith here D at v u s (leave (Return (Some v)) a s) _ is (leave_matches has (Return (Some v))
        (value_answers has v) a u s)))

    return_call_matches : (r : Option Ty) (c : TypedCall) (n line : ℕ) →
        returned_call_fits callable r c.target (map (judged scope) c.args) ≡ true →
        Does (λ a s. and_then (calls_of here C c.target (map way c.args) line s) (λ v s. leave (Return v) a s))
        (run arith here D (call_for c.target (map form c.args) return_value n).code)
    return_call_matches None c n line h a t s = absurd (false≢true h)
    return_call_matches (Some own) c n line h a t s =
        let fits = and_first (call_fits callable c.target (map (judged scope) c.args)) _ h in
        let promised =
        goes_promised (target_signature callable c.target) own
        (and_rest (call_fits callable c.target (map (judged scope) c.args)) _ h) in
        let d : ℕ = (many (map form c.args) n).next in
        call_first c (Some d) n line t s (emit.Return (Some d) ∷ []) (λ v s. leave (Return v) a s) fits
        (not_output scope callable form c.target promised (Some d)) (λ v s u good.
        by d v u s a (subst (λ b. answers b v ≡ true) promised good)) where
          by : (d : ℕ) (v : Option Value) (u : Temps) (s : State) (a : Unit {0}) → is_some v ≡ true →
              Matches has (leave (Return v) a s) (run arith here D (emit.Return (Some d) ∷ []) (received (Some d) v u)
              s)
          by d None u s a good = absurd (false≢true good)
          by d (Some v) u s a good =
              one_matches has arith here D (leave (Return (Some v)) a s) (tac.Return (Some d)) (emit.Return (Some d))
              (with_temp d v u) s (emit.rolls-Return (Some d))
              (read_matches has arith here D d v (with_temp d v u) s (leave (Return (Some v)) a s) _
              (with_temp_same d v u)
              (leave_matches has (Return (Some v)) (value_answers has v) a (with_temp d v u) s))

    abbrev layer_acts : TypedStmtKind-F TypedStmtKind TypedStmt → ℕ → Acts
    layer_acts k = layer_of _ _ (kind_acts arith structs here params C) stmt_step k

    abbrev layer_code : TypedStmtKind-F TypedStmtKind TypedStmt → Parts
    layer_code k = layer_of _ _ (kind_step structs params) (λ s. s.kind) k

    abbrev layer_fits : TypedStmtKind-F TypedStmtKind TypedStmt → Bool → Bool
    layer_fits k = layer_of _ _ (kind_fits scope callable result) (λ s. s.kind) k

    level : (line : ℕ) (k : TypedStmtKind-F TypedStmtKind TypedStmt) → Inside Q k → (looping : Bool) →
        layer_fits k looping ≡ true → (n : ℕ) →
        Does (layer_acts k line) (run arith here D (layer_code k n).code)
    level line layer.Empty h looping fits n = leave_matches has Next refl
    level line (layer.Assign place e) h looping fits n = assigned_matches place e n line fits
    level line (layer.AssignCall place c) h looping fits n = assign_call_matches place c n line fits
    level line (layer.Call c) h looping fits n = call_statement_matches c n line fits
    level line (layer.Malloc place count cells) h looping fits n = malloc_matches place count cells n line fits
    level line (layer.Free e) h looping fits n = free_matches e n line fits
    level line (layer.If cond x y) h looping fits n = λ a t s.
        let inner = and_rest (is_scalar (judged scope cond)) _ fits in
        let c : Low = form cond want.Value n in
        let p : Part = block_code structs params x c.next in
        let q : Part = block_code structs params y p.next in
        value_first cond (cond_fit cond (and_first (is_scalar (judged scope cond)) _ fits)) n line t s
        (emit.If c.at p.code q.code ∷ [])
        (λ v s. choose v (block_does arith structs here params C x a s) (block_does arith structs here params C y a s))
        (λ v u is k.
        one_matches has arith here D _ (tac.If c.at p.code q.code) (emit.If c.at p.code q.code) u s
        (emit.rolls-If c.at p.code q.code)
        (read_matches has arith here D c.at v u s _ _ is
        (if_matches has (is_true v) (block_does arith structs here params C x a s)
        (block_does arith structs here params C y a s) (run arith here D p.code u s) (run arith here D q.code u s)
        (block_matches x looping
        (and_first (list_all {X = Bool → Bool} (λ s. s looping) (map (stmt_fits scope callable result) x)) _ inner) h.0
        c.next a u s)
        (block_matches y looping
        (and_rest (list_all {X = Bool → Bool} (λ s. s looping) (map (stmt_fits scope callable result) x)) _ inner) h.1
        p.next a u s))))
    level line (layer.While cond x) h looping fits n =
        cycle_matches cond (cond_fit cond (and_first (is_scalar (judged scope cond)) _ fits)) n line x (just [])
        (leave Next) (and_rest (is_scalar (judged scope cond)) _ fits) h
        (λ n. leave_matches has Next refl)
    level line (layer.For first cond next x) h looping fits n = λ a t s.
        let following = and_rest (part_fits scope callable result first) _ fits in
        let last = and_rest (is_scalar (judged scope cond)) _ following in
        let p : Part = part_code structs params first n in
        let q : Part = cycle (test (form cond)) (block_code structs params x) (part_code structs params next) p.next in
        matches_along has _ _ _ (run_append arith here D p.code q.code t s)
        (follow_matches has (part_does arith structs here params C first a s) (run arith here D p.code t s)
        (loop (tests here (way cond) line) (block_does arith structs here params C x)
        (part_does arith structs here params C next)) (run arith here D q.code)
        (part_matches first n (and_first (part_fits scope callable result first) _ fits) a t s)
        (cycle_matches cond (cond_fit cond (and_first (is_scalar (judged scope cond)) _ following)) p.next line x
        (part_code structs params next) (part_does arith structs here params C next)
        (and_rest (part_fits scope callable result next) _ last) h
        (λ n. part_matches next n (and_first (part_fits scope callable result next) _ last))))
    level line layer.Break h looping fits n =
        λ a t s. one_matches has arith here D (leave Break a s) tac.Break emit.Break t s emit.rolls-Break
        (leave_matches has Break refl a t s)
    level line layer.Continue h looping fits n =
        λ a t s. one_matches has arith here D (leave Continue a s) tac.Continue emit.Continue t s emit.rolls-Continue
        (leave_matches has Continue refl a t s)
    level line layer.Return h looping fits n = λ a t s.
        one_matches has arith here D (leave (Return None) a s) (tac.Return None) (emit.Return None) t s
        (emit.rolls-Return None) (leave_matches has (Return None) (none_answers has fits) a t s)
    level line (layer.ReturnValue e) h looping fits n =
        return_matches e (returned_value result (judged scope e) fits) n line
    level line (layer.ReturnCall c) h looping fits n = return_call_matches result c n line fits

    stmt_matches : (stmt : TypedStmt) → Q stmt
    stmt_matches =
        stmt_induction Q (λ line k h looping fits n.
        subst (λ f. Does f (run arith here D (stmt_code structs params (on_line line k) n).code))
        (sym (stmt_at _ _ (kind_acts arith structs here params C) stmt_step line k))
        (subst (λ f. Does (layer_acts k line) (run arith here D (f n).code))
        (sym (stmt_at _ _ (kind_step structs params) (λ s. s.kind) line k))
        (level line k h looping (subst (λ x. x looping ≡ true) (stmt_at _ _ (kind_fits scope callable result)
        (λ s. s.kind) line k) fits) n)))

    body_block : (block : List TypedStmt) → body_fits scope callable result block ≡ true → (n : ℕ) →
        Does (block_does arith structs here params C block) (run arith here D (block_code structs params block n).code)
    body_block [] h n = leave_matches has Next refl
    body_block (stmt ∷ rest) h n = λ a t s.
        let x : Part = stmt_code structs params stmt n in
        matches_along has _ _ _ (run_append arith here D x.code (block_code structs params rest x.next).code t s)
        (follow_matches has (stmt_acts arith structs here params C stmt a s) (run arith here D x.code t s)
        (block_does arith structs here params C rest) (run arith here D (block_code structs params rest x.next).code)
        (stmt_matches stmt false (and_first (stmt_fits scope callable result stmt false) _ h) n a t s)
        (body_block rest (and_rest (stmt_fits scope callable result stmt false) _ h) x.next))

    init_matches : (k : ℕ) (local : TypedLocal) (init : Option TypedExpr) → init_fits scope local.ty init ≡ true →
        (n : ℕ) →
        Does (init_does arith structs here params k local init)
        (run arith here D (init_code structs params k local init n).code)
    init_matches k local None h n = leave_matches has Next refl
    init_matches k local (Some e) h n =
        assign_matches (at_place local.ty (lone (place_code params (Local k))))
        (place_way local.ty (λ blocks. Ok (variable_at here params (Local k))))
        (place_computes arith here D local.ty want.Place (lone (place_code params (Local k)))
        (λ blocks. Ok (variable_at here params (Local k))) (lone_computes arith here D (place_code params (Local k))
        (λ blocks. Ok (variable_at here params (Local k))) (place_gives arith here D params (Local k))))
        e (and_first (judged scope e).fits _ h) n local.line

    inits_match : (k : ℕ) (locals : List TypedLocal) → list_all (local_fits scope) locals ≡ true → (n : ℕ) →
        Does (all_do (inits_do arith structs here params k locals))
        (run arith here D (in_turn (inits_code structs params k locals) n).code)
    inits_match k [] h n = leave_matches has Next refl
    inits_match k (local ∷ locals) h n = λ a t s.
        let first = and_first (local_fits scope local) _ h in
        let x : Part = init_code structs params k local local.init n in
        let y : Part = in_turn (inits_code structs params (suc k) locals) x.next in
        matches_along has _ _ _ (run_append arith here D x.code y.code t s)
        (follow_matches has (init_does arith structs here params k local local.init a s) (run arith here D x.code t s)
        (all_do (inits_do arith structs here params (suc k) locals)) (run arith here D y.code)
        (init_matches k local local.init (and_first (init_fits scope local.ty local.init)
        _ (and_rest (variable_fits scope.structs local.ty) _ first)) n a t s)
        (inits_match (suc k) locals (and_rest (local_fits scope local) _ h) x.next))

-- the code of a body does what the body does
pub body_matches : (arith : Arith) (structs : List TypedStruct) (here : Here) (scope : Scope) (callable : Callable)
    (C D : Calls) (f : TypedFunction) →
    CallsMatch arith structs here (length f.params) scope callable C D →
    list_all (local_fits scope) f.locals ≡ true → body_fits scope callable f.result f.body ≡ true →
    ActsMatch (is_some f.result) (body_does arith structs here (length f.params) C f)
    (run arith here D (body_code structs f 0).code)
body_matches arith structs here scope callable C D f meets locals fits a t s =
    let params : ℕ = length f.params in
    let x : Part = in_turn (inits_code structs params 0 f.locals) 0 in
    let y : Part = block_code structs params f.body x.next in
    matches_along (is_some f.result) _ _ _ (run_append arith here D x.code y.code t s)
    (follow_matches (is_some f.result) (all_do (inits_do arith structs here params 0 f.locals) a s)
    (run arith here D x.code t s) (block_does arith structs here params C f.body) (run arith here D y.code)
    (inits_match arith structs here params scope callable C D f.result meets 0 f.locals locals 0 a t s)
    (body_block arith structs here params scope callable C D f.result meets f.body fits x.next))
