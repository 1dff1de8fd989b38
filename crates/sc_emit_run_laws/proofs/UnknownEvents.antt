-- What a compartment performs in the meaning, by the next event of the trace of which it performs its part.
use Rattle.sc_emit_run_laws.proofs.Common.{Body, Bool, Call, CallTarget, Cross, Denotations, End, Event, Export, Here}
use Rattle.sc_emit_run_laws.proofs.Common.{In, Input, IsPrefix, IsProgram, List, Next, Option, Out, Output, Piece}
use Rattle.sc_emit_run_laws.proofs.Common.{Reached, Ret, Roles, Row, Some, Standing, State as Meant, Stopped, TacTree}
use Rattle.sc_emit_run_laws.proofs.Common.{TurnsOut, Value, Word, [], action_of, acts, and_from, and_parts, and_then}
use Rattle.sc_emit_run_laws.proofs.Common.{ap, asks, asks_is, at_start, bodies, call_cross, called, code_denotations}
use Rattle.sc_emit_run_laws.proofs.Common.{count_of, drop, drop_all, emit_event, eq-eqb, if◌then◌else◌, imports}
use Rattle.sc_emit_run_laws.proofs.Common.{is_allowed, is_function, is_number, is_output, is_word, leads, length}
use Rattle.sc_emit_run_laws.proofs.Common.{length-map, list_all, may_call, may_perform, next_input, option_value, part}
use Rattle.sc_emit_run_laws.proofs.Common.{performer, performs, read_input, refl, roles_in, row_of_next, rows_after}
use Rattle.sc_emit_run_laws.proofs.Common.{rows_left, stands_after_all, subst, sym, takes, true, turn, wrapping, ℕ}
use Rattle.sc_emit_run_laws.proofs.Common.{◌++◌, ◌==◌, ◌∙◌, ◌∷◌, ◌≡◌, ◌≤◌}
use Rattle.sc_emit_run_laws.proofs.Answering.{bodies_go}
use Rattle.sc_emit_run_laws.proofs.CrossCalls.{IsOffered}
use Rattle.sc_emit_run_laws.proofs.Exports.{IsExported, exported, exports_lead}
use Rattle.sc_emit_run_laws.proofs.Placed.{few_rows}
use Rattle.sc_emit_run_laws.proofs.UnknownRules.{are_words, as_values, offered_if}

module _ (program : TacTree) (set : ℕ → Bool) (t : List Event) (n : ℕ) where
  abbrev roles : Roles
  roles = roles_in program.interfaces.main set t

  abbrev denotations : Denotations
  denotations = code_denotations wrapping program

  abbrev body : Body
  body = bodies program roles n

  -- the event of the trace that a state of the meaning comes to next, and that it is allowed there
  pub record IsNext (s : Meant) (at : Standing) (e : Event) : Type 0 where
    pub more : List Event
    pub whole : t ≡ s.trace ++ e ∷ more
    pub stood : stands_after_all (at_start program.interfaces.main) s.trace ≡ Some at
    pub allowed : is_allowed program.interfaces at e ≡ true

  module _ (comp number first : ℕ) where
    abbrev here : Here
    here = record { comp = comp; first = first }

    -- what is left of the function's part
    abbrev pub work : Meant → Piece (Option Value)
    work s = performs denotations body (rows_left roles comp s.trace) number here s

    -- past the trace nothing is left
    pub work_done : (s : Meant) → IsPrefix t s.trace → work s ≡ Stopped TurnsOut s
    work_done s prefix =
        let few : length (part program.interfaces.main comp t) ≤ count_of comp s.trace =
        subst (λ z. length (part program.interfaces.main comp t) ≤ count_of comp z) (sym prefix.is)
        (few_rows comp 0 (at_start program.interfaces.main) t prefix.more) in
        ap (λ rows. performs denotations body rows number here s)
        (drop_all (count_of comp s.trace) (part program.interfaces.main comp t) few)

    module _ (s : Meant) (at : Standing) (entered : denotations.entered comp at.active.entry ≡ Some number) where
      module _ (e : Event) (next : IsNext s at e) (own : performer e ≡ comp) where
        row : Next (drop (count_of comp s.trace) (part program.interfaces.main comp t)) at e
        row =
            row_of_next program.interfaces.main comp t s.trace e next.more at next.whole next.stood own

        -- the next row is that event, and it names the function
        work_is : work s ≡
            acts denotations body (action_of e) (performs denotations body row.rest number here) (body number here) comp
            s
        work_is =
            ap (λ rows. performs denotations body rows number here s) row.is ∙
            ap (λ o. if is_number number o then
            acts denotations body (action_of e) (performs denotations body row.rest number here) (body number here) comp
            s else
            Stopped TurnsOut s) entered ∙
            ap (λ b. if b then
            acts denotations body (action_of e) (performs denotations body row.rest number here) (body number here) comp
            s else
            Stopped TurnsOut s) (eq-eqb number number refl)

        following : drop (count_of comp (s.trace ++ e ∷ [])) (part program.interfaces.main comp t) ≡ row.rest
        following = rows_after program.interfaces.main comp t s.trace e at own row

        may : may_perform program.interfaces at e ≡ true
        may = (and_parts (performer e == at.active.comp) (may_perform program.interfaces at e) next.allowed).1

      -- the calls that a script asks for are made
      asked : (target : CallTarget) (args : List Value) → may_call denotations comp target args ≡ true →
          asks denotations body comp target args s ≡ called denotations body comp target args s
      asked target args allowed =
          asks_is denotations body (bodies_go program roles n) comp target args s ∙
          ap (λ b. if b then called denotations body comp target args s else Stopped TurnsOut s) allowed

      pub output_is : (w : ℕ) → IsNext s at (Out comp w) → work s ≡ work (emit_event (Out comp w) s)
      output_is w next =
          let e : Event = Out comp w in
          let rows : List Row = (row e next refl).rest in
          work_is e next refl ∙
          ap (λ piece. and_then piece (λ v s. performs denotations body rows number here s))
          (asked Output (Word w ∷ [])
          (and_from (imports program.interfaces comp is_output) true (may e next refl) refl)) ∙
          ap (λ rows. performs denotations body rows number here (emit_event e s)) (sym (following e next refl))

      pub input_is : IsNext s at (In comp (next_input s.inputs)) → work s ≡ work (read_input comp s)
      input_is next =
          let e : Event = In comp (next_input s.inputs) in
          let rows : List Row = (row e next refl).rest in
          work_is e next refl ∙
          ap (λ piece. and_then piece (λ v s. performs denotations body rows number here s))
          (asked Input [] (may e next refl)) ∙
          ap (λ rows. performs denotations body rows number here (read_input comp s)) (sym (following e next refl))

      pub return_is : (to : ℕ) (value : Option ℕ) → IsNext s at (Ret comp to value) →
          work s ≡ Reached (option_value value) s
      return_is to value next = work_is (Ret comp to value) next refl

      pub end_is : (w : ℕ) → IsNext s at (End comp w) → work s ≡ Reached (Some (Word w)) s
      end_is w next = work_is (End comp w) next refl

      -- a call that may be made leads to a function
      module _ (rules : IsProgram program) (to index : ℕ) (args : List ℕ) (next : IsNext s at (Call comp to index
          args)) where
        allowed_parts : (imports program.interfaces comp (is_function to index) ≡ true) ×
            (takes program.interfaces to index (length args) ≡ true)
        allowed_parts =
            and_parts (imports program.interfaces comp (is_function to index))
            (takes program.interfaces to index (length args)) (may (Call comp to index args) next refl)

        pub imported : imports program.interfaces comp (is_function to index) ≡ true
        imported = allowed_parts.0

        taken : takes program.interfaces to index (length (as_values args)) ≡ true
        taken =
            subst (λ k. takes program.interfaces to index k ≡ true) (sym (length-map args (λ w. Word w)))
            allowed_parts.1

        pub offered : IsOffered program to index (length (as_values args))
        offered = offered_if program to index (length (as_values args)) taken

        pub enters : IsExported program rules to index
        enters = exported program rules to index offered.proto offered.export

        leads_there : leads denotations to (denotations.entered to (Export index)) ≡ true
        leads_there = exports_lead program rules to index (length (as_values args)) taken

        may_call_it : may_call denotations comp (Cross to index) (as_values args) ≡ true
        may_call_it =
            and_from (imports program.interfaces comp (is_function to index)) _ imported
            (and_from (takes program.interfaces to index (length (as_values args))) _ taken
            (and_from (list_all is_word (as_values args)) _ (are_words args) leads_there))

        pub call_is : work s ≡
            and_then (and_then (turn s) (λ u s. call_cross denotations body comp to index (as_values args) s))
            (λ v s. body number here s)
        call_is =
            work_is (Call comp to index args) next refl ∙
            ap (λ piece. and_then piece (λ v s. body number here s))
            (asked (Cross to index) (as_values args) may_call_it)
