-- A hollow copy of denotations, whose functions have their variables and frames but do nothing: callers can't
-- distinguish the two.
use Rattle.sc_lower.proofs.Common.{BadType, Blamed, BodiesAgree, Body, Call, CallTarget, CallsAgree, Cross, Denotations}
use Rattle.sc_lower.proofs.Common.{DenotationsAgree, Export, Function, FunctionsAgree, Here, Input, List, Meets, None}
use Rattle.sc_lower.proofs.Common.{Option, Output, Own, Piece, PiecesAgree, Some, State, Stopped, TurnsOut, Value, Word}
use Rattle.sc_lower.proofs.Common.{[], acts, and_then, ap, asks, back_cross, back_own, begun, call_cross, call_own}
use Rattle.sc_lower.proofs.Common.{called, calls, calls_agree, crossed, done, emit_event, found, function}
use Rattle.sc_lower.proofs.Common.{if◌then◌else◌, imports, is_function, is_number, is_some, is_word, itself, leads}
use Rattle.sc_lower.proofs.Common.{length, list_all, map, may_call, option_map, own_agree, performs, performs_agree}
use Rattle.sc_lower.proofs.Common.{refl, run_in, slice_get, slice_get-map, slice_index_or, subst, suc, sym, takes, turn}
use Rattle.sc_lower.proofs.Common.{word_in, zero, ℕ, ◌&&◌, ◌∙◌, ◌∷◌, ◌≡◌}
use Rattle.sc_event.specs.declared.row.Row.{Row}
use Rattle.sc_event.specs.declared.row.Action.{Action}
use Rattle.sc_event.specs.declared.row.Action.TheVariants as act

abbrev pub shell : Function → Function
shell f = record { cells = f.cells; frame_size = f.frame_size; does = λ by here s. Stopped TurnsOut s }

abbrev pub hollow : Denotations → Denotations
hollow L = record { interfaces = L.interfaces; functions = map (map shell) L.functions; entered = L.entered }

shells_at : (sections : List (List Function)) (comp : ℕ) → slice_index_or (map (map shell) sections) comp []
    ≡ map shell (slice_index_or sections comp [])
shells_at [] comp = refl
shells_at (x ∷ xs) zero = refl
shells_at (x ∷ xs) (suc comp) = shells_at xs comp

module _ (L : Denotations) where
  shell_at : (comp number : ℕ) → function (hollow L) comp number ≡ option_map shell (function L comp number)
  shell_at comp number =
      ap (λ fs. slice_get fs number) (shells_at L.functions comp)
      ∙ slice_get-map shell (slice_index_or L.functions comp []) number

  there_same : (o : Option Function) → is_some (option_map shell o) ≡ is_some o
  there_same None = refl
  there_same (Some f) = refl

  leads_same : (comp : ℕ) (number : Option ℕ) → leads (hollow L) comp number ≡ leads L comp number
  leads_same comp None = refl
  leads_same comp (Some number) = ap is_some (shell_at comp number) ∙ there_same (function L comp number)

  may_same : (from : ℕ) (target : CallTarget) (args : List Value) →
      may_call (hollow L) from target args ≡ may_call L from target args
  may_same from (Own number) args = leads_same from (Some number)
  may_same from (Cross to index) args =
      ap (λ b. imports L.interfaces from (is_function to index) && (takes L.interfaces to index (length args)
      && (list_all is_word args && b))) (leads_same to (L.entered to (Export index)))
  may_same from Input args = refl
  may_same from Output args = refl

  module _ (body : Body) where
    run_in_same : (comp number : ℕ) (args : List Value) (back : Option Value → State → Piece (Option Value))
        (s : State) →
        run_in (hollow L) body comp number args back s ≡ run_in L body comp number args back s
    run_in_same comp number args back s = ap in_it (shell_at comp number) ∙ by (function L comp number) where
      in_it : Option Function → Piece (Option Value)
      in_it o =
          and_then (found o s) (λ f s. and_then (body number (record { comp = comp; first = length (s.memory comp) })
          (begun comp f args s)) (λ v t. back v (done comp f (length (s.memory comp)) t)))

      by : (o : Option Function) → in_it (option_map shell o) ≡ in_it o
      by None = refl
      by (Some f) = refl

    pub own_same : (comp number : ℕ) (args : List Value) (s : State) →
        call_own (hollow L) body comp number args s ≡ call_own L body comp number args s
    own_same comp number args s = run_in_same comp number args back_own s

    cross_same : (from to index : ℕ) (args : List Value) (s : State) → call_cross (hollow L) body from to index args s
        ≡ call_cross L body from to index args s
    cross_same from to index args s =
        ap (and_then (found (L.entered to (Export index)) s)) (λ i number s. run_in_same to number (crossed args)
        (back_cross L.interfaces from to index) (emit_event (Call from to index (map word_in args)) s) i)

    called_same : (from : ℕ) (target : CallTarget) (args : List Value) (s : State) →
        called (hollow L) body from target args s ≡ called L body from target args s
    called_same from (Own number) args s = ap (and_then (turn s)) (λ i _ s. own_same from number args s i)
    called_same from (Cross to index) args s = ap (and_then (turn s)) (λ i _ s. cross_same from to index args s i)
    called_same from Input args s = refl
    called_same from Output args s = refl

    pub calls_same : calls (hollow L) body ≡ calls L body
    calls_same = λ i from target args s. if may_same from target args i then called_same from target args s
        i else Stopped (Blamed from BadType 0) s

    asks_same : (comp : ℕ) (target : CallTarget) (args : List Value) (s : State) →
        asks (hollow L) body comp target args s ≡ asks L body comp target args s
    asks_same comp target args s = λ i. if may_same comp target args i then calls_same i comp target args s else Stopped
        TurnsOut s

    acts_same : (action : Action) (next other again : State → Piece (Option Value)) (comp : ℕ) (s : State) →
        ((s : State) → next s ≡ other s) →
        acts (hollow L) body action next again comp s ≡ acts L body action other again comp s
    acts_same (act.Call to index args) next other again comp s h =
        ap (λ o. and_then o (λ v s. again s)) (asks_same comp (Cross to index) (map (λ w. Word w) args) s)
    acts_same (act.Ret v) next other again comp s h = refl
    acts_same (act.Out w) next other again comp s h =
        λ i. and_then (asks_same comp Output (Word w ∷ []) s i) (λ v s. h s i)
    acts_same (act.In w) next other again comp s h = λ i. and_then (asks_same comp Input [] s i) (λ v s. h s i)
    acts_same (act.End w) next other again comp s h = refl

    pub performs_same : (rows : List Row) (number : ℕ) (here : Here) (s : State) →
        performs (hollow L) body rows number here s ≡ performs L body rows number here s
    performs_same [] number here s = refl
    performs_same (row ∷ rest) number here s =
        ap (λ p. if is_number number (L.entered here.comp row.entry) then p else Stopped TurnsOut s)
        (acts_same row.action _ _ (body number here) here.comp s (λ s. performs_same rest number here s))

-- functions that do nothing agree with themselves
shells_meet : (o : Option Function) → Meets FunctionsAgree (option_map shell o) (option_map shell o)
shells_meet None = tt
shells_meet (Some f) = record {
  cells = refl;
  frame_size = refl;
  does =
      λ C D agree here s. itself (Stopped TurnsOut s);
}

hollow_agrees : (L : Denotations) → DenotationsAgree (hollow L) (hollow L)
hollow_agrees L = record {
  interfaces = refl;
  functions = λ comp number. subst (λ o. Meets FunctionsAgree o o) (sym (shell_at L comp number))
      (shells_meet (function L comp number));
  entered = λ comp entry. refl;
}

-- the denotations of two programs, which callers can't distinguish
module _ (L M : Denotations) (alike : hollow L ≡ hollow M) (body other : Body) (bodies : BodiesAgree body other) where
  pub calls_alike : CallsAgree (calls L body) (calls M other)
  calls_alike =
      subst (λ C. CallsAgree C (calls M other)) (calls_same L body)
      (subst (CallsAgree (calls (hollow L) body)) (ap (λ K. calls K other) alike ∙ calls_same M other)
      (calls_agree (hollow L) (hollow L) (hollow_agrees L) body other bodies))

  pub own_alike : (comp number : ℕ) (args : List Value) (s : State) →
      PiecesAgree (call_own L body comp number args s) (call_own M other comp number args s)
  own_alike comp number args s =
      subst (λ o. PiecesAgree o (call_own M other comp number args s)) (own_same L body comp number args s)
      (subst (PiecesAgree (call_own (hollow L) body comp number args s)) (ap (λ K. call_own K other comp number args s)
      alike ∙ own_same M other comp number args s)
      (own_agree (hollow L) (hollow L) (hollow_agrees L) body other bodies comp number args s))

  pub performs_alike : (rows : List Row) → BodiesAgree (performs L body rows) (performs M other rows)
  performs_alike rows number here s =
      subst (λ o. PiecesAgree o (performs M other rows number here s)) (performs_same L body rows number here s)
      (subst (PiecesAgree (performs (hollow L) body rows number here s)) (ap (λ K. performs K other rows number here s)
      alike ∙ performs_same M other rows number here s)
      (performs_agree (hollow L) (hollow L) (hollow_agrees L) body other bodies rows number here s))
