-- What calls of functions of a program do: whatever that is, they only go on, and they answer where a value is
-- promised.
use Rattle.sc_emit_run_laws.proofs.Common.{BadType, Blamed, BodyGoes, Bool, Call, CallTarget, Cross, Denotations}
use Rattle.sc_emit_run_laws.proofs.Common.{Export, Function, GivesResults, GivesValue, Here, Input, IsSome, List, None}
use Rattle.sc_emit_run_laws.proofs.Common.{Option, Output, Own, Piece, Proto, Reached, Roles, RunEnd, Scalar, Some}
use Rattle.sc_emit_run_laws.proofs.Common.{State as Meant, Stopped, TacFnTree, TacTree, Value, and_then, ap, back_cross}
use Rattle.sc_emit_run_laws.proofs.Common.{back_own, begun, bodies, called, calls_go, calls_of, code_denotations}
use Rattle.sc_emit_run_laws.proofs.Common.{code_function, code_obeys, crossed, crossing, done, emit_event, export_at}
use Rattle.sc_emit_run_laws.proofs.Common.{false, found, function, functions_in, gives, gives_result, if◌then◌else◌}
use Rattle.sc_emit_run_laws.proofs.Common.{is_some, length, map, may_call, option_value, promises_result, ran, refl}
use Rattle.sc_emit_run_laws.proofs.Common.{run_in, run_step, scripted_goes_on, scripted_step, slice_get, subst, sym}
use Rattle.sc_emit_run_laws.proofs.Common.{true, turn, within_goes, word_back, word_in, wrapping, ℕ, ◌≡◌}
use Rattle.sc_core_laws.specs.Prelude.{Goes}
use Rattle.sc_emit_run_laws.proofs.Sections.{function_found}

module _ (program : TacTree) (roles : Roles) (n : ℕ) where
  abbrev denotations : Denotations
  denotations = code_denotations wrapping program

  pub bodies_go : BodyGoes (bodies program roles n)
  bodies_go =
      within_goes (scripted_step denotations roles (run_step denotations))
      (scripted_goes_on denotations (code_obeys.itself wrapping program) roles) n

  pub calls_only_go : (comp : ℕ) (target : CallTarget) (args : List Value) →
      Goes (calls_of program roles n comp target args)
  calls_only_go comp target args = calls_go denotations (bodies program roles n) bodies_go comp target args

  -- a call of an own function takes a turn, and the function runs
  pub own_is : (comp number : ℕ) (f : TacFnTree) (args : List Value) (s : Meant) →
      slice_get (functions_in program comp) number ≡ Some f →
      calls_of program roles n comp (Own number) args s ≡
      and_then (turn s) (λ u s. ran program roles n comp number f args s)
  own_is comp number f args s its =
      ap (λ (o : Option Function).
      if is_some o then and_then (turn s) (λ u s.
      and_then (found o s) (λ f s.
      and_then (bodies program roles n number (record { comp = comp; first = length (s.memory comp) })
      (begun comp f args s)) (λ v t.
      back_own v (done comp f (length (s.memory comp)) t))))
      else Stopped (Blamed comp BadType 0) s) (function_found program comp number f its)

  -- Values.

  values_of : {V : Type 0} (piece : Piece V) (go : V → Meant → Piece (Option Value)) →
      ((v : V) (s : Meant) → piece ≡ Reached v s → GivesValue (go v s)) → GivesValue (and_then piece go)
  values_of (Reached v s) go h = h v s refl
  values_of (Stopped end s) go h = tt

  run_value : (comp number : ℕ) (args : List Value) (back : Option Value → Meant → Piece (Option Value)) (s : Meant) →
      ((v : Option Value) (t : Meant) → GivesValue (back v t)) →
      GivesValue (run_in denotations (bodies program roles n) comp number args back s)
  run_value comp number args back s h =
      values_of {V = Function} (found (function denotations comp number) s) _ (λ f s e.
      values_of (bodies program roles n number (record { comp = comp; first = length (s.memory comp) })
      (begun comp f args s)) (λ v t. back v (done comp f (length (s.memory comp)) t))
      (λ v t e. h v (done comp f (length (s.memory comp)) t)))

  value_if : (may : Bool) (piece : Piece (Option Value)) (end : RunEnd) (s : Meant) → GivesValue piece →
      GivesValue (if may then piece else Stopped end s)
  value_if true piece end s h = h
  value_if false piece end s h = tt

  crossed_value : (proto : Option Proto) (v : Option Value) → promises_result proto ≡ true →
      IsSome (option_value (crossing proto v))
  crossed_value None v h = cc h
  crossed_value (Some proto) v h = back proto.result v h
    where
      back : (result : Option Scalar) (v : Option Value) → is_some result ≡ true →
          IsSome (option_value (word_back result v))
      back None v h = cc h
      back (Some scalar) None h = refl
      back (Some scalar) (Some v) h = refl

  module _ (results : GivesResults program roles) (comp : ℕ) (honest : roles.scripted comp ≡ false) where
    own_value : (number : ℕ) (args : List Value) (s : Meant) (o : Option TacFnTree) →
        slice_get (functions_in program comp) number ≡ o → gives_result o ≡ true →
        GivesValue (calls_of program roles n comp (Own number) args s)
    own_value number args s None its h = cc h
    own_value number args s (Some f) its h =
        subst GivesValue (sym (own_is comp number f args s its))
        (values_of (turn s) (λ u s. ran program roles n comp number f args s) (λ u s e.
        let here : Here = record { comp = comp; first = length (s.memory comp) } in
        let start : Meant = begun comp (code_function wrapping f) args s in
        values_of (bodies program roles n number here start)
        (λ v t. Reached v (done comp (code_function wrapping f) (length (s.memory comp)) t))
        (λ v t at. results.given n number here f start t v honest its h at)))

    pub answers : (target : CallTarget) (args : List Value) (s : Meant) → gives program comp target ≡ true →
        GivesValue (calls_of program roles n comp target args s)
    answers (Own number) args s h =
        own_value number args s (slice_get (functions_in program comp) number) refl h
    answers (Cross to index) args s h =
        value_if (may_call denotations comp (Cross to index) args) (called denotations (bodies program roles n) comp
        (Cross to index) args s) (Blamed comp BadType 0) s
        (values_of (turn s) _ (λ u s e.
        values_of (found (denotations.entered to (Export index)) s) _ (λ number s e.
        run_value to number (crossed args) (back_cross program.interfaces comp to index)
        (emit_event (Call comp to index (map word_in args)) s)
        (λ v t. crossed_value (export_at program.interfaces to index) v h))))
    answers Input args s h =
        value_if (may_call denotations comp Input args) (called denotations (bodies program roles n) comp Input args s)
        (Blamed comp BadType 0) s refl
    answers Output args s h = cc h
