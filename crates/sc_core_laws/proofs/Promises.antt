-- Denotations whose functions agree where what they call gives what it promises run the same, whoever performs.
use Rattle.std.proofs.Common.{Bool, List, None, Option, Some, [], ap, arith, false, if◌then◌else◌, is_some, length, map}
use Rattle.std.proofs.Common.{refl}
use Rattle.std.proofs.Common.{subst, suc, sym, true, zero, ℕ, ◌∙◌, ◌∷◌, ◌≡◌}
use Rattle.sc_event.specs.Prelude.{export_at}
use Rattle.sc_event.specs.declared.interface.Proto.{Proto}
use Rattle.sc_event.specs.declared.interface.Scalar.{Scalar}
use Rattle.sc_event.specs.declared.row.Action.{Action}
use Rattle.sc_event.specs.declared.row.Action.TheVariants as act
use Rattle.sc_event.specs.declared.row.Entry.{Entry}
use Rattle.sc_event.specs.declared.row.Entry.TheVariants.{Export, Main}
use Rattle.sc_event.specs.declared.row.Row.{Row}
use Rattle.sc_core.specs.Calls.{back_cross, back_own, begun, call_cross, call_own, called, calls, crossed, crossing}
use Rattle.sc_core.specs.Calls.{done, found, function, may_call, option_value, run_in, run_step, within, word_back}
use Rattle.sc_core.specs.Calls.{Body, Function, Denotations, Step}
use Rattle.sc_core.specs.Prelude.{Calls, Here, Memory, Piece, Reached, Roles, State, Stopped, and_then, first_state}
use Rattle.sc_core.specs.Prelude.{run_by, run_to, scripted_step, turn}
use Rattle.sc_core.specs.Scripts.{acts, asks, is_number, performs, rows_left}
use Rattle.sc_core.specs.declared.cause.Cause.TheVariants.{BadType}
use Rattle.sc_core.specs.declared.expr.CallTarget.{CallTarget}
use Rattle.sc_core.specs.declared.expr.CallTarget.TheVariants.{Own, Cross, Input, Output}
use Rattle.sc_core.specs.declared.run.RunEnd.TheVariants.{Blamed, TurnsOut}
use Rattle.sc_core.specs.declared.value.Value.{Value}
use Rattle.sc_core.specs.declared.value.Value.TheVariants.{Word}
use Rattle.sc_core_laws.specs.Prelude.{BodiesAgree, CallsAgree, Meets, PiecesAgree, RunsAgree, piece_without_line}
use Rattle.sc_core_laws.proofs.Agreement.{itself, run_agree, then_agree}
use Rattle.sc_core_laws.specs.Promises.{AgreeWithPromises, CallsGive, DenotationsAgreeWithPromises, HeadersAgree}
use Rattle.sc_core_laws.specs.Promises.{IfReached, Promised, Promises, PromisingRunAlike, has_result, promised_by}

pub reached_then : {V W : Type 0} (G : W → Type 0) (o : Piece V) (k : V → State → Piece W) →
    ((v : V) (s : State) → IfReached G (k v s)) → IfReached G (and_then o k)
reached_then G (Reached v s) k h = h v s
reached_then G (Stopped end s) k h = tt

reached_behind : {V : Type 0} (G : V → Type 0) (o : Piece V) (k : V → State → State) → IfReached G o →
    IfReached G (and_then o (λ v t. Reached v (k v t)))
reached_behind G (Reached v s) k h = h
reached_behind G (Stopped end s) k h = tt

pub reached_if : {V : Type 0} (G : V → Type 0) (b : Bool) (o p : Piece V) → IfReached G o → IfReached G p →
    IfReached G (if b then o else p)
reached_if G true o p h k = h
reached_if G false o p h k = k

module _ (L M : Denotations) (promises : Promises) where
  module _ (follow : DenotationsAgreeWithPromises L M promises) where
    abbrev Looks : Option Function → Option Function → Type 0
    Looks f g = Meets HeadersAgree f g

    looks : (comp number : ℕ) → Looks (function L comp number) (function M comp number)
    looks comp number = by (function L comp number) (function M comp number) (follow.functions comp number) where
      by : (f g : Option Function) → Meets (AgreeWithPromises L M promises comp number) f g → Looks f g
      by None None h = tt
      by None (Some g) h = absurd h
      by (Some f) None h = absurd h
      by (Some f) (Some g) h = h.headers

    module _ (body other : Body) (bodies : BodiesAgree body other) where
      runs_in : (comp number : ℕ) (args : List Value) (back back' : Option Value → State → Piece (Option Value)) →
          ((v : Option Value) (s : State) → PiecesAgree (back v s) (back' v s)) → (s : State) →
          PiecesAgree (run_in L body comp number args back s) (run_in M other comp number args back' s)
      runs_in comp number args back back' b s = by (function L comp number) (function M comp number)
          (looks comp number) where
            by : (f g : Option Function) → Looks f g → PiecesAgree
                (and_then (found f s) (λ f s. and_then (body number (record {
                  comp = comp;
                  first = length
                      (s.memory comp);
                })
                (begun comp f args s)) (λ v t. back v (done comp f (length (s.memory comp)) t))))
                (and_then (found g s) (λ f s. and_then (other number (record {
                  comp = comp;
                  first = length
                      (s.memory comp);
                })
                (begun comp f args s)) (λ v t. back' v (done comp f (length (s.memory comp)) t))))
            by None None h = itself _
            by None (Some g) h = absurd h
            by (Some f) None h = absurd h
            by (Some f) (Some g) h = grind (arith, h.cells, h.frame_size)

      own_agree : (comp number : ℕ) (args : List Value) (s : State) →
          PiecesAgree (call_own L body comp number args s) (call_own M other comp number args s)
      own_agree comp number args s = runs_in comp number args back_own back_own (λ v s. itself _) s

      calls_agree : CallsAgree (calls L body) (calls M other)
      calls_agree from target args s = grind arith

      -- scripts
      asks_agree : (comp : ℕ) (target : CallTarget) (args : List Value) (s : State) →
          PiecesAgree (asks L body comp target args s) (asks M other comp target args s)
      asks_agree comp target args s = grind arith

      acts_agree : (action : Action) (next next' again again' : State → Piece (Option Value)) (comp : ℕ) (s : State) →
          ((s : State) → PiecesAgree (next s) (next' s)) → ((s : State) → PiecesAgree (again s) (again' s)) →
          PiecesAgree (acts L body action next again comp s) (acts M other action next' again' comp s)
      acts_agree (act.Call to index args) next next' again again' comp s n a =
          then_agree _ _ _ _ (asks_agree comp (Cross to index) (map _ args) s) (λ v s. a s)
      acts_agree (act.Ret v) next next' again again' comp s n a = itself _
      acts_agree (act.Out w) next next' again again' comp s n a =
          then_agree _ _ _ _ (asks_agree comp Output (Word w ∷ []) s) (λ v s. n s)
      acts_agree (act.In w) next next' again again' comp s n a =
          then_agree _ _ _ _ (asks_agree comp Input [] s) (λ v s. n s)
      acts_agree (act.End w) next next' again again' comp s n a = itself _

      if_agree : {V : Type 0} (b c : Bool) (o p o' p' : Piece V) → b ≡ c → PiecesAgree o p → PiecesAgree o' p' →
          PiecesAgree (if b then o else o') (if c then p else p')
      if_agree b c o p o' p' is h k = grind (arith, h, k)

      performs_agree : (rows : List Row) → BodiesAgree (performs L body rows) (performs M other rows)
      performs_agree [] number here s = itself _
      performs_agree (row ∷ rest) number here s = if_agree (is_number number (L.entered _ _))
          (is_number number (M.entered _ _)) _ _ _ _ (ap (is_number number) (follow.entered _ _))
          (acts_agree row.action _ _ _ _ here.comp s (λ s. performs_agree rest number here s)
          (λ s. bodies number here s)) (itself _)

    -- what calls give
    crosses : (proto : Option Proto) (v : Option Value) → Promised (has_result proto) (option_value (crossing proto v))
    crosses None v h = let no : false ≡ true = h in absurd (cc no)
    crosses (Some proto) v h = by proto.result v h where
      by : (result : Option Scalar) (v : Option Value) → is_some result ≡ true →
          is_some (option_value (word_back result v)) ≡ true
      by None v h = let no : false ≡ true = h in absurd (cc no)
      by (Some scalar) None h = refl
      by (Some scalar) (Some v) h = refl

    module _ (scripted : ℕ → Bool) where
      abbrev BodyGives : Body → Type 0
      BodyGives body = (comp number first : ℕ) (s : State) → scripted comp ≡ false →
          IfReached (Promised (promises comp number)) (body number (record { comp = comp; first = first }) s)

      called_gives : (body : Body) → BodyGives body → (from : ℕ) → scripted from ≡ false →
          CallsGive L M promises from (called L body)
      called_gives body h from plain (Own number) args s =
          let G : Option Value → Type 0 = Promised (promises from number) in
          reached_then G (turn s) (λ _ s. call_own L body from number args s) (λ _ s.
          reached_then G (found (function L from number) s) (λ f s. and_then
          (body number (record { comp = from; first = length (s.memory from) }) (begun from f args s))
          (λ v t. back_own v (done from f (length (s.memory from)) t))) (λ f s.
          reached_behind G (body number (record { comp = from; first = length (s.memory from) }) (begun from f args s))
          (λ v t. done from f (length (s.memory from)) t)
          (h from number (length (s.memory from)) (begun from f args s) plain)))
      called_gives body h from plain (Cross to index) args s =
          let G : Option Value → Type 0 = Promised (has_result (export_at L.interfaces to index)) in
          reached_then G (turn s) (λ _ s. call_cross L body from to index args s) (λ _ s.
          reached_then G (found (L.entered to (Export index)) s) _ (λ n s.
          reached_then G (found (function L to n) _) _ (λ g s.
          reached_then G (body n _ _) _ (λ v t. crosses (export_at L.interfaces to index) v))))
      called_gives body h from plain Input args s = λ e. refl
      called_gives body h from plain Output args s = λ e. let no : false ≡ true = e in absurd (cc no)

      calls_give : (body : Body) → BodyGives body → (from : ℕ) → scripted from ≡ false → CallsGive L M promises from
          (calls L body)
      calls_give body h from plain target args s =
          reached_if (Promised (promised_by L M promises from target)) (may_call L from target args)
          (called L body from target args s)
          (Stopped (Blamed from BadType 0) s) (called_gives body h from plain target args s) tt

    module _ (roles : Roles) where
      abbrev pub first_step : Step
      first_step = scripted_step L roles (run_step L)

      abbrev pub other_step : Step
      other_step = scripted_step M roles (run_step M)

      record Bodies (body other : Body) : Type 0 where
        agree : BodiesAgree body other
        gives : BodyGives roles.scripted body

      does_agree : (body other : Body) → Bodies body other → (comp number first : ℕ) (s : State) →
          roles.scripted comp ≡ false → (f g : Option Function) → Meets
          (AgreeWithPromises L M promises comp number) f g →
          PiecesAgree (and_then (found f s) (λ f s. f.does (calls L body) (record { comp = comp; first = first }) s))
          (and_then (found g s) (λ g s. g.does (calls M other) (record { comp = comp; first = first }) s))
      does_agree body other h comp number first s plain None None m = itself _
      does_agree body other h comp number first s plain None (Some g) m = absurd m
      does_agree body other h comp number first s plain (Some f) None m = absurd m
      does_agree body other h comp number first s plain (Some f) (Some g) m =
          m.does (calls L body) (calls M other) (calls_agree body other h.agree)
          (calls_give roles.scripted body h.gives comp plain) first s

      step_agrees : (body other : Body) → Bodies body other → BodiesAgree (first_step body) (other_step other)
      step_agrees body other h number here s = by (roles.scripted here.comp) refl where
        by : (b : Bool) → roles.scripted here.comp ≡ b → PiecesAgree
            (if b then performs L body (rows_left roles here.comp s.trace) number here s else
            run_step L body number here s)
            (if b then performs M other (rows_left roles here.comp s.trace) number here s else
            run_step M other number here s)
        by true is = performs_agree body other h.agree (rows_left roles here.comp s.trace) number here s
        by false is = does_agree body other h here.comp number here.first s is (function L here.comp number)
            (function M here.comp number) (follow.functions here.comp number)

      does_give : (C : Calls) (comp number first : ℕ) (s : State) (f g : Option Function) →
          Meets (AgreeWithPromises L M promises comp number) f g → IfReached (Promised (promises comp number))
          (and_then (found f s) (λ f s. f.does C (record { comp = comp; first = first }) s))
      does_give C comp number first s None g m = tt
      does_give C comp number first s (Some f) None m = absurd m
      does_give C comp number first s (Some f) (Some g) m = m.gives C first s

      step_gives : (body other : Body) → Bodies body other → BodyGives roles.scripted (first_step body)
      step_gives body other h comp number first s plain =
          let here : Here = record { comp = comp; first = first } in
          subst (λ b. IfReached (Promised (promises comp number)) (if b then
          performs L body (rows_left roles comp s.trace) number here s else run_step L body number here s)) (sym plain)
          (does_give (calls L body) comp number first s (function L comp number) (function M comp number)
          (follow.functions comp number))

      within_both : (n : ℕ) → Bodies (within first_step n) (within other_step n)
      within_both zero = record {
        agree = λ number here s. itself (Stopped TurnsOut s);
        gives = λ comp number first s plain. tt;
      }
      within_both (suc n) = record {
        agree = step_agrees (within first_step n) (within other_step n) (within_both n);
        gives = step_gives (within first_step n) (within other_step n) (within_both n);
      }

      -- at any bound on open calls
      pub bodies_alike : (n : ℕ) → BodiesAgree (within first_step n) (within other_step n)
      bodies_alike n = (within_both n).agree

      start_found : (o p : Option ℕ) (main turns : ℕ) (s : State) → o ≡ p → PiecesAgree
          (and_then (found o s) (λ number s. call_own L (within first_step (suc turns)) main number [] s))
          (and_then (found p s) (λ number s. call_own M (within other_step (suc turns)) main number [] s))
      start_found o p main turns s is =
          subst (λ p. PiecesAgree (and_then (found o s) (λ number s. call_own L (within first_step (suc turns)) main
          number [] s)) (and_then (found p s) (λ number s. call_own M (within other_step (suc turns)) main number []
          s))) is
          (then_agree _ _ _ _ (itself (found o s)) (λ number s. own_agree (within first_step (suc turns))
          (within other_step (suc turns)) (within_both (suc turns)).agree main number [] s))

      pub promising_alike : (globals : Memory) (inputs : List ℕ) (turns : ℕ) →
          RunsAgree (run_by L first_step globals inputs turns) (run_by M other_step globals inputs turns)
      promising_alike globals inputs turns = subst (λ i. RunsAgree (run_by L first_step globals inputs turns) (run_to
          i.main (and_then (found (M.entered i.main Main) (first_state globals inputs turns))
          (λ number s. call_own M (within other_step (suc turns)) i.main number [] s)))) follow.interfaces
          (run_agree L.interfaces.main _ _ (start_found (L.entered L.interfaces.main Main)
          (M.entered L.interfaces.main Main) L.interfaces.main turns (first_state globals inputs turns)
          (follow.entered L.interfaces.main Main)))

-- where nobody performs
abbrev nobody_performs : Roles
nobody_performs = record { scripted = λ comp. false; rows = λ comp. [] }

pub promising_run_alike : PromisingRunAlike
promising_run_alike = record {
  meaning = λ L M promises agree globals inputs turns.
      promising_alike L M promises agree nobody_performs globals inputs turns;
  scripted = λ L M promises agree roles globals inputs turns.
      promising_alike L M promises agree roles globals inputs turns;
  bodies = λ L M promises agree roles open_calls. bodies_alike L M promises agree roles open_calls;
}
