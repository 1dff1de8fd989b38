-- What statements that fit do: they ask only for calls that fit, and leave a function with a value of its result's
-- kind.
use Rattle.sc_core_kind_laws.proofs.Common.{Acts, Arith, Blocks, Bool, Break, CallTarget, Callable, Calls, Cause}
use Rattle.sc_core_kind_laws.proofs.Common.{Continue, Each, Exit, Here, Inside, Judged, List, Next, None, Ok, Option}
use Rattle.sc_core_kind_laws.proofs.Common.{Result, Return, Scope, Signature, Some, State, Ty, TypedExpr, TypedFunction}
use Rattle.sc_core_kind_laws.proofs.Common.{TypedStruct, Value, Ways, Word, [], all_do, all_go_into, and_first}
use Rattle.sc_core_kind_laws.proofs.Common.{and_from, and_rest, and_then, ap, args_fit, assign, assign_call}
use Rattle.sc_core_kind_laws.proofs.Common.{assign_call_fits, at_brace, at_place, bind, block_does, body_does}
use Rattle.sc_core_kind_laws.proofs.Common.{body_fits, call, call_fits, call_statement, choose, closed, computed}
use Rattle.sc_core_kind_laws.proofs.Common.{decayed, evaluated, false, false≢true, goes_into, has_kind, have_kinds}
use Rattle.sc_core_kind_laws.proofs.Common.{in_order, init_does, inits_do, is_integer, is_of, is_pointer, is_scalar}
use Rattle.sc_core_kind_laws.proofs.Common.{is_some, is_target, judged, judged_ty, kind_fits, kind_step, layer_of}
use Rattle.sc_core_kind_laws.proofs.Common.{leave, list_all, loop, map, not, on_line, option_goes, part_does, part_fits}
use Rattle.sc_core_kind_laws.proofs.Common.{refl, result_goes, returned_call_fits, returned_fits, returns_kind, same_ty}
use Rattle.sc_core_kind_laws.proofs.Common.{simple_does, simple_fits, stmt_at, stmt_does, stmt_fits, stmt_induction}
use Rattle.sc_core_kind_laws.proofs.Common.{stmt_step, store, store_at, store_result, stored, subst, suc, sym}
use Rattle.sc_core_kind_laws.proofs.Common.{target_signature, test, true, type_goes, values, variable_at, ways}
use Rattle.sc_core_kind_laws.proofs.Common.{with_memory, ℕ, ◌&&◌, ◌∙◌, ◌∷◌, ◌≡◌}
use Rattle.sc_core.specs.Prelude.{allocate_at, count_ways, elements_allocated, free_value, freed, released}
use Rattle.sc_core.specs.declared.expr.TypedCall.{TypedCall}
use Rattle.sc_core.specs.declared.expr.VarRef.TheVariants.{Local}
use Rattle.sc_core.specs.declared.stmt.TypedStmt.{TypedStmt}
use Rattle.sc_core.specs.declared.stmt.TypedStmtKind.{TypedStmtKind, TypedStmtKind-F}
use Rattle.sc_core.specs.declared.stmt.TypedStmtKind.TheOpen as layer
use Rattle.sc_core.specs.declared.stmt.TypedSimple.{TypedSimple}
use Rattle.sc_core.specs.declared.stmt.TypedSimpleKind.{TypedSimpleKind}
use Rattle.sc_core.specs.declared.stmt.TypedSimpleKind.TheVariants as simple
use Rattle.sc_core.specs.declared.section.TypedLocal.{TypedLocal}
use Rattle.sc_core.specs.declared.value.Want.{Want}
use Rattle.sc_core.specs.declared.value.Want.TheVariants as want
use Rattle.sc_core_kind_laws.proofs.Values.{either, bind_made, same_kind, integer_kind, decayed_kind, value_kind}
use Rattle.sc_core_kind_laws.proofs.Pieces.{Same, Any, itself, then_same, weaken, computed_same, choose_same, exit_kind}
use Rattle.sc_core_kind_laws.proofs.Pieces.{ExitOk, DoSame, leave_same, in_order_ok, follow_same, EachSame, all_same}
use Rattle.sc_core_kind_laws.proofs.Pieces.{loop_same}

-- a value goes into places of its own kind
pub goes_kind : (place value : Ty) → type_goes place value ≡ true → is_pointer place ≡ is_pointer value
goes_kind place value h =
    either (is_integer place && is_integer value) (is_pointer place && same_ty place value) h
    (λ k. integer_kind place (and_first (is_integer place) _ k) ∙
    sym (integer_kind value (and_rest (is_integer place) _ k)))
    (λ k. same_kind place value (and_rest (is_pointer place) _ k))

moves_kind : (place value : Ty) (v : Value) → type_goes place value ≡ true → has_kind value v ≡ true →
    has_kind place v ≡ true
moves_kind place value v h k = subst (λ p. is_of p v ≡ true) (sym (goes_kind place value h)) k

-- what may be called from a compartment, in two ways: calls that fit come to the same, with a value of their result's
-- kind
abbrev pub CallsFit : Callable → ℕ → Calls → Calls → Type 0
CallsFit callable comp C D =
    (target : CallTarget) (signature : Signature) → target_signature callable target ≡ Some signature →
    (args : List Value) → have_kinds signature.params args ≡ true →
    (s : State) → Same (λ v. returns_kind signature.result v ≡ true) (C comp target args s) (D comp target args s)

-- the signature of a call that fits
pub record Signed (o : Option Signature) (args : List Judged) : Type 0 where
  pub signature : Signature
  pub is : o ≡ Some signature
  pub fit : all_go_into signature.params args ≡ true

pub signed : (o : Option Signature) (args : List Judged) → args_fit o args ≡ true → Signed o args
signed None args h = absurd (false≢true h)
signed (Some signature) args h = record { signature = signature; is = refl; fit = h }

-- a result that goes into a place
result_moves : (o : Option Signature) (signature : Signature) (place : Ty) (v : Option Value) → o ≡ Some signature →
    result_goes o place ≡ true → returns_kind signature.result v ≡ true → returns_kind (Some place) v ≡ true
result_moves None signature place v is h k = absurd (false≢true h)
result_moves (Some own) signature place v is h k =
    let same : own ≡ signature = cc in
    moved signature.result (subst (λ x. option_goes x.result place ≡ true) same h) v k where
      moved : (result : Option Ty) → option_goes result place ≡ true → (v : Option Value) →
          returns_kind result v ≡ true → returns_kind (Some place) v ≡ true
      moved None h v k = absurd (false≢true h)
      moved (Some t) h None k = absurd (false≢true k)
      moved (Some t) h (Some v) k = moves_kind place t v h k

module _ (arith : Arith) (structs : List TypedStruct) (here : Here) (params : ℕ) (scope : Scope) (callable : Callable)
    (result : Option Ty) where
  abbrev way : TypedExpr → Ways
  way e = ways arith structs here params e

  goes_value : (place : Ty) (e : TypedExpr) (v : Value) (blocks : Blocks) → goes_into place (judged scope e) ≡ true →
      way e want.Value blocks ≡ Ok v → has_kind place v ≡ true
  goes_value place e v blocks h is =
      let j = judged scope e in
      let kind = value_kind arith structs here params scope e (and_first j.fits _ h) blocks v is in
      subst (λ p. is_of p v ≡ true) (sym (goes_kind place (decayed j.ty) (and_rest j.fits _ h) ∙ decayed_kind j.ty ∙
      ap is_pointer (judged_ty scope e))) kind

  args_kind : (types : List Ty) (es : List TypedExpr) → all_go_into types (map (judged scope) es) ≡ true →
      (blocks : Blocks) (vs : List Value) → values (map way es) blocks ≡ Ok vs → have_kinds types vs ≡ true
  args_kind [] [] h blocks [] is = refl
  args_kind [] [] h blocks (v ∷ vs) is = absurd (cc)
  args_kind [] (e ∷ es) h blocks vs is = absurd (false≢true h)
  args_kind (t ∷ types) [] h blocks vs is = absurd (false≢true h)
  args_kind (t ∷ types) (e ∷ es) h blocks vs is =
      let first = bind_made (way e want.Value blocks)
      (λ v. bind (values (map way es) blocks) (λ vs. Ok (v ∷ vs))) vs is in
      let rest = bind_made (values (map way es) blocks) (λ vs. Ok (first.first ∷ vs)) vs first.gives in
      let whole : ◌≡◌ {A = Result (List Value) Cause} (Ok (first.first ∷ rest.first)) (Ok vs) = rest.gives in
      let both : first.first ∷ rest.first ≡ vs = cc in
      subst (λ x. have_kinds (t ∷ types) x ≡ true) both
      (and_from _ _ (goes_value t e first.first blocks (and_first (goes_into t (judged scope e)) _ h) first.is)
      (args_kind types es (and_rest (goes_into t (judged scope e)) _ h) blocks rest.first rest.is))

  -- what is evaluated in both, whatever it gives
  evaluated_itself : (w : Want) (e : Ways) (line : ℕ) (s : State) →
      Same Any (evaluated here w e line s) (evaluated here w e line s)
  evaluated_itself w e line s = itself (evaluated here w e line s)

  abbrev DoesSame : Acts → Acts → Type 0
  DoesSame f g = DoSame result f g

  store_at_itself : (place : Ways) (v : Value) (line : ℕ) →
      DoesSame (store_at here place v line) (store_at here place v line)
  store_at_itself place v line a s =
      then_same Any (ExitOk result) (evaluated here want.Place place line s) (evaluated here want.Place place line s)
      (λ q s. stored here q v line a s) (λ q s. stored here q v line a s) (evaluated_itself want.Place place line s)
      (λ q any s.
      then_same Any (ExitOk result) (computed here line (store (s.memory here.comp) q v) s)
      (computed here line (store (s.memory here.comp) q v) s)
      (λ blocks s. leave Next a (with_memory here.comp blocks s))
      (λ blocks s. leave Next a (with_memory here.comp blocks s))
      (itself (computed here line (store (s.memory here.comp) q v) s))
      (λ blocks any s. leave_same result Next refl a (with_memory here.comp blocks s)))

  assign_itself : (place e : Ways) (line : ℕ) → DoesSame (assign here place e line) (assign here place e line)
  assign_itself place e line a s =
      then_same Any (ExitOk result) (evaluated here want.Value e line s) (evaluated here want.Value e line s)
      (λ v s. store_at here place v line a s) (λ v s. store_at here place v line a s)
      (evaluated_itself want.Value e line s) (λ v any s. store_at_itself place v line a s)

  allocate_at_itself : (place count : Ways) (cells line : ℕ) →
      DoesSame (allocate_at here place count cells line) (allocate_at here place count cells line)
  allocate_at_itself place count cells line a s =
      then_same Any (ExitOk result) (evaluated here want.Value count line s) (evaluated here want.Value count line s)
      (λ v s. and_then (elements_allocated here v cells line s) (λ q s. store_at here place q line a s))
      (λ v s. and_then (elements_allocated here v cells line s) (λ q s. store_at here place q line a s))
      (evaluated_itself want.Value count line s) (λ v any s.
      then_same Any (ExitOk result) (elements_allocated here v cells line s) (elements_allocated here v cells line s)
      (λ q s. store_at here place q line a s) (λ q s. store_at here place q line a s)
      (itself (elements_allocated here v cells line s)) (λ q any s. store_at_itself place q line a s))

  free_value_itself : (e : Ways) (line : ℕ) → DoesSame (free_value here e line) (free_value here e line)
  free_value_itself e line a s =
      then_same Any (ExitOk result) (evaluated here want.Value e line s) (evaluated here want.Value e line s)
      (λ v s. released here v line a s) (λ v s. released here v line a s)
      (evaluated_itself want.Value e line s) (λ v any s.
      then_same Any (ExitOk result) (computed here line (freed (s.memory here.comp) v) s)
      (computed here line (freed (s.memory here.comp) v) s)
      (λ blocks s. leave Next a (with_memory here.comp blocks s))
      (λ blocks s. leave Next a (with_memory here.comp blocks s))
      (itself (computed here line (freed (s.memory here.comp) v) s))
      (λ blocks any s. leave_same result Next refl a (with_memory here.comp blocks s)))

  test_itself : (cond : Ways) (line : ℕ) → DoesSame (test here cond line) (test here cond line)
  test_itself cond line a s =
      then_same Any (ExitOk result) (evaluated here want.Value cond line s) (evaluated here want.Value cond line s)
      (λ v s. choose v (leave Next a s) (leave Break a s)) (λ v s. choose v (leave Next a s) (leave Break a s))
      (evaluated_itself want.Value cond line s) (λ v any s.
      choose_same (ExitOk result) v _ _ _ _ (leave_same result Next refl a s) (leave_same result Break refl a s))

  store_result_itself : (place : Ways) (v : Option Value) (line : ℕ) →
      DoesSame (store_result here place v line) (store_result here place v line)
  store_result_itself place None line = leave_same result Next refl
  store_result_itself place (Some v) line = store_at_itself place v line

  module _ (C D : Calls) (fit : CallsFit callable here.comp C D) where
    -- a call that fits
    call_same : (c : TypedCall) (signature : Signature) → target_signature callable c.target ≡ Some signature →
        all_go_into signature.params (map (judged scope) c.args) ≡ true → (line : ℕ) (s : State) →
        Same (λ v. returns_kind signature.result v ≡ true) (call here C c.target (map way c.args) line s)
        (call here D c.target (map way c.args) line s)
    call_same c signature is h line s =
        then_same (λ vs. values (map way c.args) (s.memory here.comp) ≡ Ok vs)
        (λ v. returns_kind signature.result v ≡ true)
        (computed here line (values (map way c.args) (s.memory here.comp)) s)
        (computed here line (values (map way c.args) (s.memory here.comp)) s) (λ vs s. C here.comp c.target vs s)
        (λ vs s. D here.comp c.target vs s) (computed_same here line
        (values (map way c.args) (s.memory here.comp)) s)
        (λ vs made t. fit c.target signature is vs
        (args_kind signature.params c.args h (s.memory here.comp) vs made) t)

    any_call : (c : TypedCall) → call_fits callable c.target (map (judged scope) c.args) ≡ true →
        (line : ℕ) (s : State) → Same Any (call here C c.target (map way c.args) line s)
        (call here D c.target (map way c.args) line s)
    any_call c h line s =
        let call = signed (target_signature callable c.target) (map (judged scope) c.args) h in
        weaken (λ v. returns_kind call.signature.result v ≡ true) Any _ _ (λ v k. tt)
        (call_same c call.signature call.is call.fit line s)

    call_statement_same : (c : TypedCall) → call_fits callable c.target (map (judged scope) c.args) ≡ true →
        (line : ℕ) →
        DoesSame (call_statement here C c.target (map way c.args) line)
        (call_statement here D c.target (map way c.args) line)
    call_statement_same c h line a s =
        then_same Any (ExitOk result) (call here C c.target (map way c.args) line s)
        (call here D c.target (map way c.args) line s) (λ v s. leave Next a s) (λ v s. leave Next a s)
        (any_call c h line s) (λ v any s. leave_same result Next refl a s)

    assign_call_same : (place : TypedExpr) (c : TypedCall) →
        assign_call_fits callable (judged scope place) c.target (map (judged scope) c.args) ≡ true → (line : ℕ) →
        DoesSame (assign_call here C (way place) c.target (map way c.args) line)
        (assign_call here D (way place) c.target (map way c.args) line)
    assign_call_same place c h line a s =
        then_same Any (ExitOk result) (call here C c.target (map way c.args) line s)
        (call here D c.target (map way c.args) line s) (λ v s. store_result here (way place) v line a s)
        (λ v s. store_result here (way place) v line a s)
        (any_call c (and_first (call_fits callable c.target (map (judged scope) c.args)) _
        (and_rest (is_target (judged scope place)) _ h)) line s)
        (λ v any s. store_result_itself (way place) v line a s)

    simple_same : (k : TypedSimpleKind) (line : ℕ) → simple_fits scope callable result k ≡ true →
        DoesSame (simple_does arith structs here params C k line) (simple_does arith structs here params D k line)
    simple_same (simple.Assign place e) line h = assign_itself (way place) (way e) line
    simple_same (simple.AssignCall place c) line h = assign_call_same place c h line
    simple_same (simple.Call c) line h = call_statement_same c h line
    simple_same (simple.Malloc place count cells) line h =
        allocate_at_itself (way place) (count_ways arith structs here params count) cells line
    simple_same (simple.Free e) line h = free_value_itself (way e) line

    part_same : (part : Option TypedSimple) → part_fits scope callable result part ≡ true →
        DoesSame (part_does arith structs here params C part) (part_does arith structs here params D part)
    part_same None h = leave_same result Next refl
    part_same (Some s) h = simple_same s.kind s.line h

    abbrev Q : TypedStmt → Type 0
    Q stmt = (looping : Bool) → stmt_fits scope callable result stmt looping ≡ true →
        DoesSame (stmt_does arith structs here params C stmt) (stmt_does arith structs here params D stmt)

    each_same : (block : List TypedStmt) (looping : Bool) →
        list_all {X = Bool → Bool} (λ s. s looping) (map (stmt_fits scope callable result) block) ≡ true →
        Each Q block → EachSame result (map (stmt_does arith structs here params C) block)
        (map (stmt_does arith structs here params D) block)
    each_same [] looping h every = tt
    each_same (stmt ∷ rest) looping h every = (
      every.0 looping (and_first (stmt_fits scope callable result stmt looping) _ h),
      each_same rest looping (and_rest (stmt_fits scope callable result stmt looping) _ h) every.1,
    )

    block_same : (block : List TypedStmt) (looping : Bool) →
        list_all {X = Bool → Bool} (λ s. s looping) (map (stmt_fits scope callable result) block) ≡ true →
        Each Q block → DoesSame (block_does arith structs here params C block)
        (block_does arith structs here params D block)
    block_same block looping h every = all_same result _ _ (each_same block looping h every)

    looped_same : (cond : TypedExpr) (line : ℕ) (block : List TypedStmt) →
        list_all {X = Bool → Bool} (λ s. s true) (map (stmt_fits scope callable result) block) ≡ true → Each Q block →
        (f g : Acts) → DoesSame f g → DoesSame (loop (test here (way cond) line)
        (block_does arith structs here params C block) f)
        (loop (test here (way cond) line) (block_does arith structs here params D block) g)
    looped_same cond line block h every f g next =
        loop_same result (test here (way cond) line) (test here (way cond) line)
        (block_does arith structs here params C block) (block_does arith structs here params D block) f g
        (test_itself (way cond) line) (block_same block true h every) next

    value_returned : (r : Option Ty) (e : TypedExpr) (v : Value) (blocks : Blocks) →
        returned_fits r (judged scope e) ≡ true → way e want.Value blocks ≡ Ok v → returns_kind r (Some v) ≡ true
    value_returned None e v blocks h is = absurd (false≢true h)
    value_returned (Some t) e v blocks h is = goes_value t e v blocks h is

    abbrev layered : Calls → TypedStmtKind-F TypedStmtKind TypedStmt → ℕ → Acts
    layered by k = layer_of _ _ (kind_step arith structs here params by) stmt_step k

    abbrev fits_layer : TypedStmtKind-F TypedStmtKind TypedStmt → Bool → Bool
    fits_layer k = layer_of _ _ (kind_fits scope callable result) (λ s. s.kind) k

    returned_call_same : (r : Option Ty) → r ≡ result → (c : TypedCall) →
        returned_call_fits callable r c.target (map (judged scope) c.args) ≡ true → (line : ℕ) →
        DoesSame (λ a s. and_then (call here C c.target (map way c.args) line s) (λ v s. leave (Return v) a s))
        (λ a s. and_then (call here D c.target (map way c.args) line s) (λ v s. leave (Return v) a s))
    returned_call_same None own c h line = absurd (false≢true h)
    returned_call_same (Some t) own c h line = λ a s.
        let call_is = signed (target_signature callable c.target) (map (judged scope) c.args)
        (and_first (call_fits callable c.target (map (judged scope) c.args)) _ h) in
        then_same (λ v. returns_kind call_is.signature.result v ≡ true) (ExitOk result)
        (call here C c.target (map way c.args) line s) (call here D c.target (map way c.args) line s)
        (λ v s. leave (Return v) a s) (λ v s. leave (Return v) a s)
        (call_same c call_is.signature call_is.is call_is.fit line s) (λ v k s.
        leave_same result (Return v) (subst (λ x. returns_kind x v ≡ true) own
        (result_moves (target_signature callable c.target) call_is.signature t v call_is.is
        (and_rest (call_fits callable c.target (map (judged scope) c.args)) _ h) k)) a s)

    nothing_returned : (r : Option Ty) → not (is_some r) ≡ true → returns_kind r None ≡ true
    nothing_returned None h = refl
    nothing_returned (Some t) h = absurd (false≢true h)

    layer_same : (line : ℕ) (k : TypedStmtKind-F TypedStmtKind TypedStmt) → Inside Q k → (looping : Bool) →
        fits_layer k looping ≡ true → DoesSame (layered C k line) (layered D k line)
    layer_same line layer.Empty h looping fits = leave_same result Next refl
    layer_same line (layer.Assign place e) h looping fits = assign_itself (way place) (way e) line
    layer_same line (layer.AssignCall place c) h looping fits = assign_call_same place c fits line
    layer_same line (layer.Call c) h looping fits = call_statement_same c fits line
    layer_same line (layer.Malloc place count cells) h looping fits =
        allocate_at_itself (way place) (count_ways arith structs here params count) cells line
    layer_same line (layer.Free e) h looping fits = free_value_itself (way e) line
    layer_same line (layer.If cond x y) h looping fits = λ a s.
        let inner = and_rest (is_scalar (judged scope cond)) _ fits in
        then_same Any (ExitOk result) (evaluated here want.Value (way cond) line s)
        (evaluated here want.Value (way cond) line s)
        (λ v s. choose v (block_does arith structs here params C x a s)
        (block_does arith structs here params C y a s))
        (λ v s. choose v (block_does arith structs here params D x a s)
        (block_does arith structs here params D y a s)) (evaluated_itself want.Value (way cond) line s) (λ v any s.
        choose_same (ExitOk result) v _ _ _ _ (block_same x looping
        (and_first (list_all {X = Bool → Bool} (λ s. s looping)
        (map (stmt_fits scope callable result) x)) _ inner) h.0 a s)
        (block_same y looping (and_rest (list_all {X = Bool → Bool} (λ s. s looping)
        (map (stmt_fits scope callable result) x)) _ inner) h.1 a s))
    layer_same line (layer.While cond x) h looping fits =
        looped_same cond line x (and_rest (is_scalar (judged scope cond)) _ fits) h (leave Next) (leave Next)
        (leave_same result Next refl)
    layer_same line (layer.For first cond next x) h looping fits = λ a s.
        let following = and_rest (part_fits scope callable result first) _ fits in
        let last = and_rest (is_scalar (judged scope cond)) _ following in
        follow_same result in_order (in_order_ok result) (part_does arith structs here params C first a s)
        (part_does arith structs here params D first a s)
        (loop (test here (way cond) line) (block_does arith structs here params C x)
        (part_does arith structs here params C next))
        (loop (test here (way cond) line) (block_does arith structs here params D x)
        (part_does arith structs here params D next))
        (part_same first (and_first (part_fits scope callable result first) _ fits) a s)
        (looped_same cond line x (and_rest (part_fits scope callable result next) _ last) h _ _
        (part_same next (and_first (part_fits scope callable result next) _ last)))
    layer_same line layer.Break h looping fits = leave_same result Break refl
    layer_same line layer.Continue h looping fits = leave_same result Continue refl
    layer_same line layer.Return h looping fits = leave_same result (Return None) (nothing_returned result fits)
    layer_same line (layer.ReturnValue e) h looping fits = λ a s.
        then_same (λ v. way e want.Value (s.memory here.comp) ≡ Ok v) (ExitOk result)
        (evaluated here want.Value (way e) line s) (evaluated here want.Value (way e) line s)
        (λ v s. leave (Return (Some v)) a s) (λ v s. leave (Return (Some v)) a s)
        (computed_same here line (way e want.Value (s.memory here.comp)) s) (λ v is t.
        leave_same result (Return (Some v)) (value_returned result e v (s.memory here.comp) fits is) a t)
    layer_same line (layer.ReturnCall c) h looping fits = returned_call_same result refl c fits line

    stmt_same : (stmt : TypedStmt) → Q stmt
    stmt_same =
        stmt_induction Q (λ line k h looping fits.
        subst (λ x. DoesSame x (stmt_does arith structs here params D (on_line line k)))
        (sym (stmt_at _ _ (kind_step arith structs here params C) stmt_step line k))
        (subst (DoesSame (layered C k line)) (sym
        (stmt_at _ _ (kind_step arith structs here params D) stmt_step line k))
        (layer_same line k h looping (subst (λ x. x looping ≡ true)
        (stmt_at _ _ (kind_fits scope callable result) (λ s. s.kind) line k) fits))))

    body_each : (block : List TypedStmt) → body_fits scope callable result block ≡ true →
        EachSame result (map (stmt_does arith structs here params C) block)
        (map (stmt_does arith structs here params D) block)
    body_each [] h = tt
    body_each (stmt ∷ rest) h = (
      stmt_same stmt false (and_first (stmt_fits scope callable result stmt false) _ h),
      body_each rest (and_rest (stmt_fits scope callable result stmt false) _ h),
    )

    init_same : (k : ℕ) (local : TypedLocal) (init : Option TypedExpr) →
        DoesSame (init_does arith structs here params k local init) (init_does arith structs here params k local init)
    init_same k local None = leave_same result Next refl
    init_same k local (Some e) = assign_itself (at_place local.ty (λ blocks. Ok (variable_at here params (Local k))))
        (way e) local.line

    inits_same : (k : ℕ) (locals : List TypedLocal) →
        EachSame result (inits_do arith structs here params k locals) (inits_do arith structs here params k locals)
    inits_same k [] = tt
    inits_same k (local ∷ locals) = (init_same k local local.init, inits_same (suc k) locals)

    pub body_same : (f : TypedFunction) → body_fits scope callable result f.body ≡ true →
        DoesSame (body_does arith structs here params C f) (body_does arith structs here params D f)
    body_same f h a s =
        follow_same result in_order (in_order_ok result) (all_do (inits_do arith structs here params 0 f.locals) a s)
        (all_do (inits_do arith structs here params 0 f.locals) a s) (block_does arith structs here params C f.body)
        (block_does arith structs here params D f.body) (all_same result _ _ (inits_same 0 f.locals) a s)
        (all_same result _ _ (body_each f.body h))

    -- `main` is of type `int`
    brace_same : (r : Option Ty) (is_main : Bool) (line : ℕ) (s : State) →
        (is_main ≡ true → returns_kind r (Some (Word 0)) ≡ true) →
        Same (λ v. returns_kind r v ≡ true) (at_brace (is_some r) is_main line here s)
        (at_brace (is_some r) is_main line here s)
    brace_same None is_main line s h = record { same = refl; good = refl }
    brace_same (Some t) true line s h = record { same = refl; good = h refl }
    brace_same (Some t) false line s h = record { same = refl; good = tt }

    pub closed_same : (exit : Exit) (is_main : Bool) (line : ℕ) (s : State) → exit_kind result exit ≡ true →
        (is_main ≡ true → returns_kind result (Some (Word 0)) ≡ true) →
        Same (λ v. returns_kind result v ≡ true) (closed exit (is_some result) is_main line here s)
        (closed exit (is_some result) is_main line here s)
    closed_same Next is_main line s h main = brace_same result is_main line s main
    closed_same Break is_main line s h main = brace_same result is_main line s main
    closed_same Continue is_main line s h main = brace_same result is_main line s main
    closed_same (Return v) is_main line s h main = record { same = refl; good = h }
