-- Every trace that a run emits is legal.
use Rattle.sc_core_laws.proofs.Common.{Call, Cross, Denotations, Event, Export, Interfaces, IsStop, Kept, List, Main}
use Rattle.sc_core_laws.proofs.Common.{Memory, None, Obedient, Option, Piece, Reached, Ret, Roles, Some, Standing}
use Rattle.sc_core_laws.proofs.Common.{State, Stopped, Value, [], and_from, and_parts, ap, arith, at_start, crossing}
use Rattle.sc_core_laws.proofs.Common.{denotations_run, eq-eqb, export_at, first_state, imports, is_allowed}
use Rattle.sc_core_laws.proofs.Common.{is_function, is_legal_from, legal, length, length-map, map, may_call}
use Rattle.sc_core_laws.proofs.Common.{may_perform, performer, refl, roles_run, run_step, run_to, scripted_step}
use Rattle.sc_core_laws.proofs.Common.{stands_after, stands_after_all, stopped_at, suc, takes, true, within, word_in}
use Rattle.sc_core_laws.proofs.Common.{zero, ℕ, ◌&&◌, ◌++◌, ◌==◌, ◌∙◌, ◌∷◌, ◌≡◌}
use Rattle.std.proofs.Common.{take}
use Rattle.sc_core_laws.proofs.Matching.{idle}
use Rattle.sc_core_laws.proofs.Keeping.{Walk, place, main_walks, scripted_walks}
use Rattle.sc_core_laws.proofs.Rows.{stands_last}
use Rattle.sc_core_laws.proofs.Runs.{trace_is}

module _ (denotations : Denotations) where
  abbrev interfaces : Interfaces
  interfaces = denotations.interfaces

  legal_more : (at : Option Standing) (t : List Event) (st : Standing) (e : Event) → stands_after_all at t ≡ Some st →
      is_legal_from interfaces at t ≡ true → is_allowed interfaces st e ≡ true →
      is_legal_from interfaces at (t ++ e ∷ []) ≡ true
  legal_more at [] st e h l may = ap (λ x. is_legal_from interfaces x (e ∷ [])) h ∙ and_from _ true may refl
  legal_more None (x ∷ t) st e h l may = cc l
  legal_more (Some a) (x ∷ t) st e h l may = grind (arith, legal_more (stands_after a x) t st e h, l, may)

  legal_take : (n : ℕ) (at : Option Standing) (t : List Event) → is_legal_from interfaces at t ≡ true →
      is_legal_from interfaces at (take n t) ≡ true
  legal_take zero at t l = refl
  legal_take (suc n) at [] l = refl
  legal_take (suc n) None (x ∷ t) l = cc l
  legal_take (suc n) (Some a) (x ∷ t) l = grind (arith, legal_take n (stands_after a x) t, l)

  -- where a legal trace stands
  pub record IsAt (t : List Event) (st : Standing) : Type 0 where
    pub stands : stands_after_all (at_start interfaces.main) t ≡ Some st
    pub is_legal : legal interfaces t ≡ true

  emitted_at : (t : List Event) (st next : Standing) (e : Event) → IsAt t st → is_allowed interfaces st e ≡ true →
      stands_after st e ≡ Some next → IsAt (t ++ e ∷ []) next
  emitted_at t st next e h may then_at =
      record {
        stands = stands_last _ t e st h.stands ∙ then_at;
        is_legal = legal_more _ t st e h.stands h.is_legal may;
      }

  abbrev entered_at : Standing → ℕ → ℕ → Standing
  entered_at st to index =
      record { active = record { comp = to; entry = Export index }; waiting = st.active ∷ st.waiting }

  -- what the interfaces say of a call across that may be made
  imported : (from to index : ℕ) (args : List Value) → may_call denotations from (Cross to index) args ≡ true →
      (imports interfaces from (is_function to index) ≡ true) × (takes interfaces to index (length args) ≡ true)
  imported from to index args may = grind arith

  call_is_allowed : (st : Standing) (from to index : ℕ) (args : List Value) → from ≡ st.active.comp →
      may_call denotations from (Cross to index) args ≡ true →
      is_allowed interfaces st (Call from to index (map word_in args)) ≡ true
  call_is_allowed st from to index args is may =
      let may = imported from to index args may in
      and_from (from == st.active.comp) (imports interfaces from _ && takes interfaces to index _) (eq-eqb from _ is)
      (and_from (imports interfaces from _) _ may.0 (ap (takes interfaces to index) (length-map _ _) ∙ may.1))

  back_is_allowed : (st : Standing) (from to index : ℕ) (args : List Value) (v : Option Value) →
      from ≡ st.active.comp → may_call denotations from (Cross to index) args ≡ true →
      is_allowed interfaces (entered_at st to index) (Ret to from (crossing (export_at interfaces to index) v)) ≡ true
  back_is_allowed st from to index args v is may = grind (arith, is)

  environment_at : (st : Standing) (from : ℕ) (e : Event) (s : State) → performer e ≡ st.active.comp →
      may_perform interfaces st e ≡ true → stands_after st e ≡ Some st → IsAt s.trace st → IsAt (s.trace ++ e ∷ []) st
  environment_at st from e s is may stays h = emitted_at s.trace st st e h (and_from _ _ (eq-eqb _ _ is) may) stays

  -- the run stands here, after a legal trace
  abbrev walk : Walk denotations
  walk = record {
    Place = Standing;
    At = λ n st s. IsAt s.trace st;
    Ends = λ end s. (legal interfaces s.trace ≡ true) × IsStop end;
    In = λ st comp. comp ≡ st.active.comp;
    Runs = λ st comp number. comp ≡ st.active.comp;
    inner = λ st comp f. st;
    across = entered_at;
    cross_runs = λ st to index number f same. refl;
    halts = λ st s h. (h.is_legal, tt);
    spent = λ n st s none h. (h.is_legal, tt);
    less = λ n m st s is h. h;
    raised = λ n st s h. h;
    stored = λ n st s memory h. h;
    begins = λ n st comp f args s h. h;
    ends = λ n st comp f first s h. h;
    enters = λ n st from to index args s is may h. emitted_at s.trace st (entered_at st to index) (Call from to index _)
        h
        (call_is_allowed st from to index args is may) refl;
    leaves = λ n st from to index args v s is may h. emitted_at s.trace (entered_at st to index) st (Ret to from _) h
        (back_is_allowed st from to index args v is may) refl;
    reads = λ n st from args s is may h. environment_at st from _ s is may refl h;
    writes = λ n st from args s is may h. environment_at st from _ s is (and_parts _ _ may).0 refl h;
  }

  module _ (obedient : Obedient denotations) where
    abbrev begins : Standing
    begins = record { active = record { comp = interfaces.main; entry = Main }; waiting = [] }

    piece_legal : (n : ℕ) (piece : Piece (Option Value)) →
        Kept (place denotations walk n begins) piece →
        legal interfaces (run_to interfaces.main piece).behaviour.trace ≡ true
    piece_legal n (Reached v s) h =
        legal_more _ s.trace begins _ h.after.stands h.after.is_legal (and_from _ true (eq-eqb _ _ refl) refl)
    piece_legal n (Stopped end s) h = h.after.0

    run_legal : (roles : Roles) (globals : Memory) (inputs : List ℕ) (turns : ℕ) →
        legal interfaces (roles_run denotations globals inputs turns roles).behaviour.trace ≡ true
    run_legal roles globals inputs turns = piece_legal (suc turns) _ (main_walks denotations walk (suc turns) (within
        (scripted_step denotations roles (run_step denotations)) (suc turns))
        (scripted_walks denotations walk (λ n st s h. h) (λ st
        comp number is. is) (λ st comp number f is. is) obedient roles (λ comp number plain is n st here cause line s h.
        (h.is_legal, tt)) (suc turns)) begins (first_state globals inputs turns) (λ none. (refl, tt)) (λ number is none.
        (refl, tt)) (λ number f is. refl) (record { stands = refl; is_legal = refl }))

module _ (denotations : Denotations) (obedient : Obedient denotations) (globals : Memory) (inputs : List ℕ)
    (turns events : ℕ) where
  pub scripts_legal : (roles : Roles) →
      legal denotations.interfaces (stopped_at events
      (roles_run denotations globals inputs turns roles).behaviour).trace ≡ true
  scripts_legal roles = ap (legal _) (trace_is events _)
      ∙ legal_take denotations events _ _ (run_legal denotations obedient roles globals inputs turns)

  pub runs_legal : legal denotations.interfaces
      (stopped_at events (denotations_run denotations globals inputs turns).behaviour).trace ≡ true
  runs_legal = scripts_legal idle
