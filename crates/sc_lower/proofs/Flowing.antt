-- The code of functions assigns each temporary before it reads it, on every path.
use Rattle.sc_lower.proofs.Common.{Ahead, Bool, CallTarget, Callable, Each, Forms, Inside, List, Local, Low, Lows, Many}
use Rattle.sc_lower.proofs.Common.{None, Option, Part, Parts, Scope, Some, TacStmt, Ty, TypedCall, TypedExpr}
use Rattle.sc_lower.proofs.Common.{TypedLocal, TypedSimple, TypedSimpleKind, TypedStmt, TypedStmtKind, TypedStmtKind-F}
use Rattle.sc_lower.proofs.Common.{TypedStruct, [], after, all_assigned_first, all_go_into, allocate_at, allocation}
use Rattle.sc_lower.proofs.Common.{and_first, and_from, and_rest, ap, assign, assign_call_fits, assign_fits, at_place}
use Rattle.sc_lower.proofs.Common.{block_code, body_fits, both, call_code, call_fits, call_for, call_statement}
use Rattle.sc_lower.proofs.Common.{count_code, cycle, false, false≢true, first_of, fork, forms, free_value, goes_into}
use Rattle.sc_lower.proofs.Common.{in_turn, init_code, init_fits, inits_code, inl, inr, is_assigned_first, is_one}
use Rattle.sc_lower.proofs.Common.{is_scalar, is_target, is_type, judged, just, kind_fits, kind_step, layer_of, length}
use Rattle.sc_lower.proofs.Common.{list_all, lone, malloc_fits, many, map, not, nothing_ahead, option_map, or_left}
use Rattle.sc_lower.proofs.Common.{or_right, part_ahead, part_code, part_fits, place_code, points, refl, result_goes}
use Rattle.sc_lower.proofs.Common.{return_value, returned_call_fits, signed, simple_code, simple_fits, stmt_at}
use Rattle.sc_lower.proofs.Common.{stmt_code, stmt_fits, stmt_induction, store_at, subst, suc, sym, target_signature}
use Rattle.sc_lower.proofs.Common.{test as tests, true, variable_ty, zero, ℕ, ◌&&◌, ◌==◌, ◌||◌, ◌∙◌, ◌∷◌, ◌≡◌, ◌⊎◌}
use Rattle.sc_core.specs.declared.expr.CallTarget.TheVariants as target
use Rattle.sc_core.specs.declared.stmt.TypedStmtKind.TheOpen as layer
use Rattle.sc_core.specs.declared.stmt.TypedSimpleKind.TheVariants as simple
use Rattle.sc_core.specs.declared.value.Want.TheVariants as want
use Rattle.sc_tac.specs.declared.stmt.TacStmt.TheOpen as tac
use Rattle.sc_tac.specs.declared.stmt.TacStmt.TheVariants as emit
use Rattle.sc_lower.proofs.Tests.{PointsToElements, all_append, malloc_count, malloc_place, points_fits, scalar_fits}
use Rattle.sc_lower.proofs.Passing.{returned_value, InitsFit}
use Rattle.sc_lower.proofs.Statements.{Shaped, shaped, not_output, goes_promised}
use Rattle.sc_lower.proofs.Strays.{Straight, allocation_straight, is_straight, local_straight, target_straight}
use Rattle.sc_lower.proofs.Strays.{value_straight}
use Rattle.sc_lower.proofs.Assigned.{Settled, allocation_settled, expr_settled, first, first_append, first_one, fresh}
use Rattle.sc_lower.proofs.Assigned.{fresh_append, fresh_one, if_reads, into, local_settled, no_reads, one_read}
use Rattle.sc_lower.proofs.Assigned.{only_reads, out_of, plain_reads, straight_fresh, two_read}

never : (c : Bool) → (c ≡ true → false ≡ true) → c ≡ false
never true h = sym (h refl)
never false h = refl

or_turn : (p q r : Bool) → (p || q || r) ≡ true → (q || (p || r)) ≡ true
or_turn true q r h = or_right q true refl
or_turn false q r h = h

-- what follows reads first nothing but what b allows, by every way out
record Allows (b : Bool) (ahead : Ahead) : Type 0 where
  pub following : ahead.following ≡ true → b ≡ true
  pub broken : ahead.broken ≡ true → b ≡ true
  pub continued : ahead.continued ≡ true → b ≡ true

-- nothing is read first there
record Nothing (ahead : Ahead) : Type 0 where
  pub following : ahead.following ≡ false
  pub broken : ahead.broken ≡ false
  pub continued : ahead.continued ≡ false

none_allowed : (ahead : Ahead) → Nothing ahead → Allows false ahead
none_allowed ahead h =
    record {
      following = λ k. sym h.following ∙ k;
      broken = λ k. sym h.broken ∙ k;
      continued = λ k. sym h.continued ∙
          k;
    }

-- code that reads nothing first by itself
record Steady (p : Parts) : Type 0 where
  pub keeps : (n t : ℕ) (b : Bool) (ahead : Ahead) → Allows b ahead → first t (p n).code ahead ≡ true → b ≡ true
  pub fresh : (n t : ℕ) (ahead : Ahead) → Nothing ahead → fresh t (p n).code ahead ≡ true

-- code that reads first nothing but one temporary
record SteadyWith (make : ℕ → Parts) : Type 0 where
  pub keeps : (at n t : ℕ) (b : Bool) (ahead : Ahead) → Allows b ahead → first t (make at n).code ahead ≡ true →
      (t ≡ at) ⊎ (b ≡ true)
  pub fresh : (at n t : ℕ) (ahead : Ahead) → Nothing ahead → fresh t (make at n).code ahead ≡ true

after_steady : (a : Lows) (make : ℕ → Parts) → Settled a → ((n : ℕ) → Straight (a n).code) → SteadyWith make →
    Steady (after a make)
after_steady a make ha straight h = record {
  keeps = λ n t b ahead allows g.
      let y : List TacStmt = (make (a n).at (a n).next).code in
      ha.settles n b t (record ahead { following = first t y ahead })
      (λ f. h.keeps (a n).at (a n).next t b ahead allows f)
      (sym (first_append t (a n).code y ahead) ∙ g);
  fresh = λ n t ahead none.
      fresh_append t (a n).code (make (a n).at (a n).next).code ahead (straight_fresh (a n).code (straight n) t _)
      (h.fresh (a n).at (a n).next t ahead none);
}

both_steady : (p q : Parts) → Steady p → Steady q → Steady (both p q)
both_steady p q hp hq = record {
  keeps = λ n t b ahead allows g.
      let y : List TacStmt = (q (p n).next).code in
      hp.keeps n t b (record ahead { following = first t y ahead })
      (record {
        following = λ f. hq.keeps (p n).next t b ahead allows f;
        broken = allows.broken;
        continued = allows.continued;
      }) (sym (first_append t (p n).code y ahead) ∙ g);
  fresh = λ n t ahead none.
      let y : List TacStmt = (q (p n).next).code in
      fresh_append t (p n).code y ahead
      (hp.fresh n t (record ahead { following = first t y ahead })
      (record {
        following = never (first t y ahead) (λ f. hq.keeps (p n).next t false ahead (none_allowed ahead none) f);
        broken = none.broken;
        continued = none.continued;
      }))
      (hq.fresh (p n).next t ahead none);
}

empty_steady : Steady (just [])
empty_steady = record { keeps = λ n t b ahead allows g. allows.following g; fresh = λ n t ahead none. refl }

store_reads : (t q v : ℕ) (b : Bool) (ahead : Ahead) → Allows b ahead → first t (emit.Store q v ∷ []) ahead ≡ true →
    (t ≡ q) ⊎ ((v == t || b) ≡ true)
store_reads t q v b ahead allows g =
    only_reads (q == t || (v == t || false)) ahead.following
    (sym (first_one t (tac.Store q v) (emit.Store q v) ahead (emit.rolls-Store q v)) ∙ g)
    (λ k. two_read q v t k (λ e. inl e) (λ e. inr (into v t b (inl e))))
    (λ k. inr (or_right (v == t) b (allows.following k)))

store_steady : (f : Forms) → Settled (f want.Place) → ((n : ℕ) → Straight (f want.Place n).code) →
    SteadyWith (store_at f)
store_steady f hf straight = record {
  keeps = λ at n t b ahead allows g.
      let q : ℕ = (f want.Place n).at in
      out_of at t b (hf.settles n (at == t || b) t (record ahead { following = first t (emit.Store q at ∷ []) ahead })
      (store_reads t q at b ahead allows) (sym (first_append t (f want.Place n).code (emit.Store q at ∷ []) ahead)
      ∙ g));
  fresh = λ at n t ahead none.
      let q : ℕ = (f want.Place n).at in
      fresh_append t (f want.Place n).code (emit.Store q at ∷ []) ahead (straight_fresh (f want.Place n).code
      (straight n) t _) (fresh_one t (tac.Store q at) (emit.Store q at) ahead (emit.rolls-Store q at) refl);
}

assign_steady : (f e : Forms) → Settled (f want.Place) → ((n : ℕ) → Straight (f want.Place n).code) →
    Settled (e want.Value) → ((n : ℕ) → Straight (e want.Value n).code) → Steady (assign f e)
assign_steady f e hf sf he se = after_steady (e want.Value) (store_at f) he se (store_steady f hf sf)

free_steady : SteadyWith (λ at. just (emit.Free at ∷ []))
free_steady = record {
  keeps = λ at n t b ahead allows g.
      only_reads (at == t || false) ahead.following
      (sym (first_one t (tac.Free at) (emit.Free at) ahead (emit.rolls-Free at)) ∙ g)
      (λ k. one_read at t k (λ e. inl e)) (λ k. inr (allows.following k));
  fresh = λ at n t ahead none. fresh_one t (tac.Free at) (emit.Free at) ahead (emit.rolls-Free at) refl;
}

-- CALLS
abbrev Later : ℕ → Option ℕ → Type 0 → Type 0
Later t None B = B
Later t (Some d) B = (t ≡ d) ⊎ B

later_alone : {B : Type 0} (t : ℕ) (dest : Option ℕ) → dest ≡ None → Later t dest B → B
later_alone t None is h = h
later_alone t (Some d) is h = absurd (cc)

call_reads : {B : Type 0} (t : ℕ) (to : CallTarget) (dest : Option ℕ) (at : List ℕ) (ahead : Ahead) →
    Shaped to dest at → first t (call_code to dest at ∷ []) ahead ≡ true →
    (is_one t at ≡ true → B) → (ahead.following ≡ true → Later t dest B) → B
call_reads t (target.Own function) None at ahead shape g read later =
    only_reads (is_one t at) ahead.following
    (sym (first_one t (tac.CallOwn None function at) (emit.CallOwn None function at) ahead
    (emit.rolls-CallOwn None function at)) ∙ g) read later
call_reads t (target.Own function) (Some d) at ahead shape g read later =
    plain_reads t d (is_one t at) ahead.following
    (sym (first_one t (tac.CallOwn (Some d) function at) (emit.CallOwn (Some d) function at) ahead
    (emit.rolls-CallOwn (Some d) function at)) ∙ g) read later
call_reads t (target.Cross comp index) None at ahead shape g read later =
    only_reads (is_one t at) ahead.following
    (sym (first_one t (tac.CallCross None comp index at) (emit.CallCross None comp index at) ahead
    (emit.rolls-CallCross None comp index at)) ∙ g) read later
call_reads t (target.Cross comp index) (Some d) at ahead shape g read later =
    plain_reads t d (is_one t at) ahead.following
    (sym (first_one t (tac.CallCross (Some d) comp index at) (emit.CallCross (Some d) comp index at) ahead
    (emit.rolls-CallCross (Some d) comp index at)) ∙ g) read later
call_reads t target.Input None at ahead shape g read later =
    only_reads false ahead.following (sym (first_one t (tac.Input None) (emit.Input None) ahead (emit.rolls-Input None))
    ∙ g) no_reads later
call_reads t target.Input (Some d) at ahead shape g read later =
    plain_reads t d false ahead.following (sym (first_one t (tac.Input (Some d)) (emit.Input (Some d)) ahead
    (emit.rolls-Input (Some d))) ∙ g) no_reads later
call_reads t target.Output dest at ahead shape g read later =
    only_reads (is_one t (first_of at ∷ [])) ahead.following
    (sym (first_one t (tac.Output (first_of at)) (emit.Output (first_of at)) ahead (emit.rolls-Output (first_of at)))
    ∙ g)
    (λ k. read (ap (is_one t) shape.0 ∙ k)) (λ k. later_alone t dest shape.1 (later k))

call_fresh : (t : ℕ) (to : CallTarget) (dest : Option ℕ) (at : List ℕ) (ahead : Ahead) →
    fresh t (call_code to dest at ∷ []) ahead ≡ true
call_fresh t (target.Own function) dest at ahead =
    fresh_one t (tac.CallOwn dest function at) (emit.CallOwn dest function at) ahead
    (emit.rolls-CallOwn dest function at) refl
call_fresh t (target.Cross comp index) dest at ahead =
    fresh_one t (tac.CallCross dest comp index at) (emit.CallCross dest comp index at) ahead
    (emit.rolls-CallCross dest comp index at) refl
call_fresh t target.Input dest at ahead =
    fresh_one t (tac.Input dest) (emit.Input dest) ahead (emit.rolls-Input dest) refl
call_fresh t target.Output dest at ahead =
    fresh_one t (tac.Output (first_of at)) (emit.Output (first_of at)) ahead (emit.rolls-Output (first_of at)) refl

-- CONTROL
return_steady : SteadyWith return_value
return_steady = record {
  keeps = λ at n t b ahead allows g.
      one_read at t (sym (first_one t (tac.Return (Some at)) (emit.Return (Some at)) ahead
      (emit.rolls-Return (Some at))) ∙ g) (λ e. inl e);
  fresh = λ at n t ahead none. fresh_one t (tac.Return (Some at)) (emit.Return (Some at)) ahead
      (emit.rolls-Return (Some at)) refl;
}

nothing_returned : Steady (just (emit.Return None ∷ []))
nothing_returned = record {
  keeps =
      λ n t b ahead allows g. absurd
      (false≢true (sym (first_one t (tac.Return None) (emit.Return None) ahead (emit.rolls-Return None)) ∙ g));
  fresh = λ n t ahead none. fresh_one t (tac.Return None) (emit.Return None) ahead (emit.rolls-Return None) refl;
}

break_steady : Steady (just (emit.Break ∷ []))
break_steady = record {
  keeps = λ n t b ahead allows g. allows.broken (sym (first_one t tac.Break emit.Break ahead emit.rolls-Break) ∙ g);
  fresh = λ n t ahead none. fresh_one t tac.Break emit.Break ahead emit.rolls-Break refl;
}

continue_steady : Steady (just (emit.Continue ∷ []))
continue_steady = record {
  keeps =
      λ n t b ahead allows g. allows.continued (sym (first_one t tac.Continue emit.Continue ahead emit.rolls-Continue)
      ∙ g);
  fresh = λ n t ahead none. fresh_one t tac.Continue emit.Continue ahead emit.rolls-Continue refl;
}

fork_steady : (p q : Parts) → Steady p → Steady q → SteadyWith (fork p q)
fork_steady p q hp hq = record {
  keeps = λ at n t b ahead allows g.
      if_reads t at (p n).code (q (p n).next).code ahead g (λ e. inl e) (λ k. inr (hp.keeps n t b ahead allows k))
      (λ k. inr (hq.keeps (p n).next t b ahead allows k));
  fresh = λ at n t ahead none.
      fresh_one t (tac.If at (p n).code (q (p n).next).code) (emit.If at (p n).code (q (p n).next).code) ahead
      (emit.rolls-If at (p n).code (q (p n).next).code) (and_from _ _ (hp.fresh n t ahead none)
      (hq.fresh (p n).next t ahead none));
}

test_with : SteadyWith (λ at. just (emit.If at [] (emit.Break ∷ []) ∷ []))
test_with = record {
  keeps = λ at n t b ahead allows g.
      if_reads t at [] (emit.Break ∷ []) ahead g (λ e. inl e) (λ k. inr (allows.following k))
      (λ k. inr (break_steady.keeps n t b ahead allows k));
  fresh = λ at n t ahead none.
      fresh_one t (tac.If at [] (emit.Break ∷ [])) (emit.If at [] (emit.Break ∷ [])) ahead
      (emit.rolls-If at [] (emit.Break ∷ [])) (and_from true _ refl (break_steady.fresh n t ahead none));
}

-- a part of a loop begins with no read, where nothing is read first after the loop
part_begins : (p : Parts) → Steady p → (n t : ℕ) (ahead : Ahead) → ahead.following ≡ false →
    (not (first t (p n).code (part_ahead ahead false)) && fresh t (p n).code (part_ahead ahead false)) ≡ true
part_begins p hp n t ahead none =
    let nothing : Nothing (part_ahead ahead false) = record { following = refl; broken = none; continued = refl } in
    and_from _ _ (ap not (never (first t (p n).code (part_ahead ahead false))
    (λ g. hp.keeps n t false (part_ahead ahead false) (none_allowed (part_ahead ahead false) nothing) g)))
    (hp.fresh n t (part_ahead ahead false) nothing)

cycle_steady : (p q r : Parts) → Steady p → Steady q → Steady r → Steady (cycle p q r)
cycle_steady p q r hp hq hr = record {
  keeps = λ n t b ahead allows g.
      let x : Part = p n in let y : Part = q x.next in let z : Part = r y.next in
      let end : Bool = first t z.code (part_ahead ahead false) in
      let middle : Bool = first t y.code (part_ahead ahead end) in
      let ends : end ≡ true → b ≡ true =
      λ k. hr.keeps y.next t b (part_ahead ahead false) (record {
        following = λ f. absurd (false≢true f);
        broken = allows.following;
        continued = λ f. absurd (false≢true f);
      }) k in
      let middles : middle ≡ true → b ≡ true =
      λ k. hq.keeps x.next t b (part_ahead ahead end) (record {
        following = ends;
        broken = allows.following;
        continued = ends;
      }) k in
      hp.keeps n t b (part_ahead ahead middle) (record {
        following = middles;
        broken = allows.following;
        continued = middles;
      }) (sym (first_one t (tac.Loop x.code y.code z.code) (emit.Loop x.code y.code z.code) ahead
      (emit.rolls-Loop x.code y.code z.code)) ∙ g);
  fresh = λ n t ahead none.
      let x : Part = p n in let y : Part = q x.next in let z : Part = r y.next in
      fresh_one t (tac.Loop x.code y.code z.code) (emit.Loop x.code y.code z.code) ahead
      (emit.rolls-Loop x.code y.code z.code)
      (and_from _ _ (part_begins p hp n t ahead none.following)
      (and_from _ _ (part_begins q hq x.next t ahead none.following)
      (part_begins r hr y.next t ahead none.following)));
}

module _ (scope : Scope) (callable : Callable) (result : Option Ty) (structs : List TypedStruct)
    (elements : PointsToElements scope structs) where
  abbrev params : ℕ
  params = length scope.params

  abbrev form : TypedExpr → Forms
  form = forms structs params

  -- arguments
  record ManySteady (es : List TypedExpr) (n : ℕ) : Type 0 where
    pub keeps : (t : ℕ) (b : Bool) (ahead : Ahead) →
        (ahead.following ≡ true → (is_one t (many (map form es) n).at || b) ≡ true) →
        first t (many (map form es) n).code ahead ≡ true → b ≡ true
    pub straight : Straight (many (map form es) n).code

  many_steady : (types : List Ty) (es : List TypedExpr) (n : ℕ) → all_go_into types (map (judged scope) es) ≡ true →
      ManySteady es n
  many_steady types [] n h = record { keeps = λ t b ahead following g. following g; straight = refl }
  many_steady [] (e ∷ es) n h = absurd (false≢true h)
  many_steady (ty ∷ types) (e ∷ es) n h =
      let x : Low = form e want.Value n in
      let rest : Many = many (map form es) x.next in
      let hr = many_steady types es x.next (and_rest (goes_into ty (judged scope e)) _ h) in
      record {
        keeps = λ t b ahead following g.
            (expr_settled structs params e want.Value).settles n b t
            (record ahead { following = first t rest.code ahead })
            (λ f. out_of x.at t b (hr.keeps t (x.at == t || b) ahead (λ k. or_turn (x.at == t) (is_one t rest.at) b
            (following k)) f)) (sym (first_append t x.code rest.code ahead) ∙ g);
        straight =
            all_append is_straight x.code rest.code
            (value_straight scope structs elements e
            (and_first (judged scope e).fits _ (and_first (goes_into ty (judged scope e)) _ h)) n)
            hr.straight;
      }

  args_steady : (c : TypedCall) (n : ℕ) → call_fits callable c.target (map (judged scope) c.args) ≡ true →
      ManySteady c.args n
  args_steady c n h = let s = signed (target_signature callable c.target) (map (judged scope) c.args) h in
      many_steady s.signature.params c.args n s.fit

  call_statement_steady : (c : TypedCall) → call_fits callable c.target (map (judged scope) c.args) ≡ true →
      Steady (call_statement c.target (map form c.args))
  call_statement_steady c h = record {
    keeps = λ n t b ahead allows g.
        let x : Many = many (map form c.args) n in
        let last : List TacStmt = call_code c.target None x.at ∷ [] in
        (args_steady c n h).keeps t b (record ahead { following = first t last ahead })
        (λ f. call_reads t c.target None x.at ahead (shaped scope callable form c.target c.args n None h (λ o. refl)) f
        (λ k. or_left (is_one t x.at) b k) (λ k. or_right (is_one t x.at) b (allows.following k)))
        (sym (first_append t x.code last ahead) ∙ g);
    fresh = λ n t ahead none.
        let x : Many = many (map form c.args) n in
        fresh_append t x.code (call_code c.target None x.at ∷ []) ahead
        (straight_fresh x.code (args_steady c n h).straight t _) (call_fresh t c.target None x.at ahead);
  }

  call_for_steady : (c : TypedCall) (place : Ty) (make : ℕ → Parts) →
      call_fits callable c.target (map (judged scope) c.args) ≡ true →
      result_goes (target_signature callable c.target) place ≡ true → SteadyWith make →
      Steady (call_for c.target (map form c.args) make)
  call_for_steady c place make h goes hm = record {
    keeps = λ n t b ahead allows g.
        let x : Many = many (map form c.args) n in
        let y : List TacStmt = (make x.next (suc x.next)).code in
        let call : TacStmt = call_code c.target (Some x.next) x.at in
        (args_steady c n h).keeps t b (record ahead { following = first t (call ∷ y) ahead }) (λ f.
        call_reads t c.target (Some x.next) x.at (record ahead { following = first t y ahead })
        (shaped scope callable form c.target c.args n (Some x.next) h (not_output scope callable form c.target
        (goes_promised (target_signature callable c.target) place goes) (Some x.next)))
        (sym (first_append t (call ∷ []) y ahead) ∙ f)
        (λ k. or_left (is_one t x.at) b k) (λ k. made t b x.next x.at (hm.keeps x.next (suc x.next) t b ahead allows
        k))) (sym (first_append t x.code (call ∷ y) ahead) ∙ g);
    fresh = λ n t ahead none.
        let x : Many = many (map form c.args) n in
        let y : List TacStmt = (make x.next (suc x.next)).code in
        let call : TacStmt = call_code c.target (Some x.next) x.at in
        fresh_append t x.code (call ∷ y) ahead (straight_fresh x.code (args_steady c n h).straight t _)
        (fresh_append t (call ∷ []) y ahead (call_fresh t c.target (Some x.next) x.at
        (record ahead { following = first t y ahead })) (hm.fresh x.next (suc x.next) t ahead none));
  } where
    made : (t : ℕ) (b : Bool) (d : ℕ) (at : List ℕ) → (t ≡ d) ⊎ (b ≡ true) → (t ≡ d) ⊎ ((is_one t at || b) ≡ true)
    made t b d at (inl e) = inl e
    made t b d at (inr k) = inr (or_right (is_one t at) b k)

  assigned_steady : (place e : TypedExpr) → assign_fits (judged scope place) (judged scope e) ≡ true →
      Steady (assign (form place) (form e))
  assigned_steady place e h =
      assign_steady (form place) (form e) (expr_settled structs params place want.Place)
      (target_straight scope structs elements place (and_first (is_target (judged scope place)) _ h))
      (expr_settled structs params e want.Value)
      (value_straight scope structs elements e (and_first (judged scope e).fits _ (and_rest (is_target
      (judged scope place))
      _ h)))

  assign_call_steady : (place : TypedExpr) (c : TypedCall) →
      assign_call_fits callable (judged scope place) c.target (map (judged scope) c.args) ≡ true →
      Steady (call_for c.target (map form c.args) (store_at (form place)))
  assign_call_steady place c h =
      let inner = and_rest (is_target (judged scope place)) _ h in
      call_for_steady c (judged scope place).ty (store_at (form place))
      (and_first (call_fits callable c.target (map (judged scope) c.args)) _ inner)
      (and_rest (call_fits callable c.target (map (judged scope) c.args)) _ inner)
      (store_steady (form place) (expr_settled structs params place want.Place)
      (target_straight scope structs elements place (and_first (is_target (judged scope place)) _ h)))

  malloc_steady : (place : TypedExpr) (count : Option TypedExpr) (cells : ℕ) →
      malloc_fits scope.structs (judged scope place) (option_map (judged scope) count) cells ≡ true →
      Steady (allocate_at (form place) (count_code structs params count) cells)
  malloc_steady place count cells h =
      let j = judged scope place in
      let counts = option_map (judged scope) count in
      after_steady (allocation (count_code structs params count) cells) (store_at (form place))
      (allocation_settled structs params count cells)
      (allocation_straight scope structs elements count cells (malloc_count scope.structs j counts cells h))
      (store_steady (form place) (expr_settled structs params place want.Place)
      (target_straight scope structs elements place (malloc_place scope.structs j counts cells h)))

  freed_steady : (e : TypedExpr) → points (judged scope e) ≡ true → Steady (free_value (form e))
  freed_steady e h =
      after_steady (form e want.Value) (λ at. just (emit.Free at ∷ [])) (expr_settled structs params e want.Value)
      (value_straight scope structs elements e (points_fits (judged scope e) h)) free_steady

  simple_steady : (k : TypedSimpleKind) → simple_fits scope callable result k ≡ true →
      Steady (simple_code structs params k)
  simple_steady (simple.Assign place e) h = assigned_steady place e h
  simple_steady (simple.AssignCall place c) h = assign_call_steady place c h
  simple_steady (simple.Call c) h = call_statement_steady c h
  simple_steady (simple.Malloc place count cells) h = malloc_steady place count cells h
  simple_steady (simple.Free e) h = freed_steady e h

  part_steady : (part : Option TypedSimple) → part_fits scope callable result part ≡ true →
      Steady (part_code structs params part)
  part_steady None h = empty_steady
  part_steady (Some s) h = simple_steady s.kind h

  test_steady : (cond : TypedExpr) → (judged scope cond).fits ≡ true → Steady (tests (form cond))
  test_steady cond h = after_steady (form cond want.Value) (λ at. just (emit.If at [] (emit.Break ∷ []) ∷ []))
      (expr_settled structs params cond want.Value) (value_straight scope structs elements cond h) test_with

  return_call_steady : (r : Option Ty) (c : TypedCall) →
      returned_call_fits callable r c.target (map (judged scope) c.args) ≡ true →
      Steady (call_for c.target (map form c.args) return_value)
  return_call_steady None c h = absurd (false≢true h)
  return_call_steady (Some t) c h =
      call_for_steady c t return_value (and_first (call_fits callable c.target (map (judged scope) c.args)) _ h)
      (and_rest (call_fits callable c.target (map (judged scope) c.args)) _ h) return_steady

  abbrev Q : TypedStmt → Type 0
  Q stmt = (looping : Bool) → stmt_fits scope callable result stmt looping ≡ true →
      Steady (stmt_code structs params stmt)

  block_steady : (block : List TypedStmt) (looping : Bool) →
      list_all {X = Bool → Bool} (λ s. s looping) (map (stmt_fits scope callable result) block) ≡ true → Each Q block →
      Steady (block_code structs params block)
  block_steady [] looping h every = empty_steady
  block_steady (stmt ∷ rest) looping h every =
      both_steady (stmt_code structs params stmt) (block_code structs params rest)
      (every.0 looping (and_first (stmt_fits scope callable result stmt looping) _ h))
      (block_steady rest looping (and_rest (stmt_fits scope callable result stmt looping) _ h) every.1)

  level : (line : ℕ) (k : TypedStmtKind-F TypedStmtKind TypedStmt) → Inside Q k → (looping : Bool) →
      layer_of _ _ (kind_fits scope callable result) (λ s. s.kind) k looping ≡ true →
      Steady (layer_of _ _ (kind_step structs params) (λ s. s.kind) k)
  level line layer.Empty h looping fits = empty_steady
  level line (layer.Assign place e) h looping fits = assigned_steady place e fits
  level line (layer.AssignCall place c) h looping fits = assign_call_steady place c fits
  level line (layer.Call c) h looping fits = call_statement_steady c fits
  level line (layer.Malloc place count cells) h looping fits = malloc_steady place count cells fits
  level line (layer.Free e) h looping fits = freed_steady e fits
  level line (layer.If cond x y) h looping fits =
      let inner = and_rest (is_scalar (judged scope cond)) _ fits in
      after_steady (form cond want.Value) (fork (block_code structs params x) (block_code structs params y))
      (expr_settled structs params cond want.Value)
      (value_straight scope structs elements cond (scalar_fits (judged scope cond) (and_first (is_scalar
      (judged scope cond))
      _ fits)))
      (fork_steady (block_code structs params x) (block_code structs params y)
      (block_steady x looping
      (and_first (list_all {X = Bool → Bool} (λ s. s looping) (map (stmt_fits scope callable result) x)) _ inner) h.0)
      (block_steady y looping
      (and_rest (list_all {X = Bool → Bool} (λ s. s looping) (map (stmt_fits scope callable result) x)) _ inner) h.1))
  level line (layer.While cond x) h looping fits =
      cycle_steady (tests (form cond)) (block_code structs params x) (just [])
      (test_steady cond (scalar_fits (judged scope cond) (and_first (is_scalar (judged scope cond)) _ fits)))
      (block_steady x true (and_rest (is_scalar (judged scope cond)) _ fits) h) empty_steady
  level line (layer.For first cond next x) h looping fits =
      let following = and_rest (part_fits scope callable result first) _ fits in
      let last = and_rest (is_scalar (judged scope cond)) _ following in
      both_steady (part_code structs params first) (cycle (tests (form cond)) (block_code structs params x)
      (part_code structs params next)) (part_steady first (and_first (part_fits scope callable result first) _ fits))
      (cycle_steady (tests (form cond)) (block_code structs params x) (part_code structs params next)
      (test_steady cond (scalar_fits (judged scope cond) (and_first (is_scalar (judged scope cond)) _ following)))
      (block_steady x true (and_rest (part_fits scope callable result next) _ last) h)
      (part_steady next (and_first (part_fits scope callable result next) _ last)))
  level line layer.Break h looping fits = break_steady
  level line layer.Continue h looping fits = continue_steady
  level line layer.Return h looping fits = nothing_returned
  level line (layer.ReturnValue e) h looping fits =
      after_steady (form e want.Value) return_value (expr_settled structs params e want.Value)
      (value_straight scope structs elements e (returned_value result (judged scope e) fits)) return_steady
  level line (layer.ReturnCall c) h looping fits = return_call_steady result c fits

  stmt_steady : (stmt : TypedStmt) → Q stmt
  stmt_steady = stmt_induction Q (λ line k h looping fits.
      subst Steady (sym (stmt_at _ _ (kind_step structs params) (λ s. s.kind) line k))
      (level line k h looping (subst (λ x. x looping ≡ true) (stmt_at _ _ (kind_fits scope callable result)
      (λ s. s.kind) line k) fits)))

  body_block : (block : List TypedStmt) → body_fits scope callable result block ≡ true →
      Steady (block_code structs params block)
  body_block [] h = empty_steady
  body_block (stmt ∷ rest) h =
      both_steady (stmt_code structs params stmt) (block_code structs params rest)
      (stmt_steady stmt false (and_first (stmt_fits scope callable result stmt false) _ h))
      (body_block rest (and_rest (stmt_fits scope callable result stmt false) _ h))

  init_steady : (k : ℕ) (local : TypedLocal) (init : Option TypedExpr) → is_type (variable_ty scope (Local k)) local.ty
      ≡ true → init_fits scope local.ty init ≡ true → Steady (init_code structs params k local init)
  init_steady k local None own h = empty_steady
  init_steady k local (Some e) own h =
      assign_steady (at_place local.ty (lone (place_code params (Local k)))) (form e) (local_settled params k local.ty)
      (local_straight scope structs elements k local.ty own want.Place) (expr_settled structs params e want.Value)
      (value_straight scope structs elements e (and_first (judged scope e).fits _ h))

  inits_steady : (k : ℕ) (locals : List TypedLocal) → InitsFit scope k locals →
      Steady (in_turn (inits_code structs params k locals))
  inits_steady k [] h = empty_steady
  inits_steady k (local ∷ locals) h =
      both_steady (init_code structs params k local local.init) (in_turn (inits_code structs params (suc k) locals))
      (init_steady k local local.init h.0 h.1) (inits_steady (suc k) locals h.2)

  module _ (locals : List TypedLocal) (body : List TypedStmt) (inits : InitsFit scope 0 locals)
      (fits : body_fits scope callable result body ≡ true) where
    abbrev code : List TacStmt
    code = (both (in_turn (inits_code structs params 0 locals)) (block_code structs params body) 0).code

    steady : Steady (both (in_turn (inits_code structs params 0 locals)) (block_code structs params body))
    steady = both_steady (in_turn (inits_code structs params 0 locals)) (block_code structs params body)
        (inits_steady 0 locals inits) (body_block body fits)

    nothing : Nothing nothing_ahead
    nothing = record { following = refl; broken = refl; continued = refl }

    assigned_first_so : (t : ℕ) → is_assigned_first t code ≡ true
    assigned_first_so t =
        and_from _ _ (ap not (never (first t code nothing_ahead) (λ g. steady.keeps 0 t false nothing_ahead
        (none_allowed nothing_ahead nothing) g))) (steady.fresh 0 t nothing_ahead nothing)

    -- every temporary is assigned first
    pub all_assigned : (temps : ℕ) → all_assigned_first temps code ≡ true
    all_assigned zero = refl
    all_assigned (suc t) = and_from _ _ (assigned_first_so t) (all_assigned t)
