-- Where the machine's run has come: its states follow one another, and what its trace says of who is active.
use Rattle.sc_emit_run_laws.proofs.Common.{Activation, Bool, Call, Crossing, End, Event, Goes, ImageParts, In}
use Rattle.sc_emit_run_laws.proofs.Common.{IsWellFormed, List, None, Option, Out, Outcome, Ret, Row, Some, Standing}
use Rattle.sc_emit_run_laws.proofs.Common.{Traps, Walks, [], and_parts, ap, arguments, arith, at_start, count_of}
use Rattle.sc_emit_run_laws.proofs.Common.{entered_by, false, filter, given_back, has_result, if◌then◌else◌, input_at}
use Rattle.sc_emit_run_laws.proofs.Common.{is_allowed, is_legal_from, length, export_params, performer, refl, reg}
use Rattle.sc_emit_run_laws.proofs.Common.{on_return}
use Rattle.sc_emit_run_laws.proofs.Common.{rows_from, stands_after, stands_after_all, stands_last, start, step, step_of}
use Rattle.sc_emit_run_laws.proofs.Common.{subst, suc, suc-add, sym, then_on, true, walk, zero, zero-add, ℕ, ◌++◌, ◌+◌}
use Rattle.sc_emit_run_laws.proofs.Common.{◌==◌, ◌∙◌, ◌∷◌, ◌≡◌, ◌≤◌}
use Rattle.sc_image.specs.Prelude.{MachineState, a0}
use Rattle.sc_event.specs.declared.interface.Interfaces.{Interfaces}

-- THE REST OF A STRETCH

module _ (image : ImageParts) (inputs : List ℕ) where
  rest_by : (m k : ℕ) (outcome : Outcome) (middle last : MachineState) → then_on outcome (walk image inputs m) ≡ Goes
      middle →
      then_on outcome (walk image inputs (m + k)) ≡ Goes last →
      ((s : MachineState) → walk image inputs m s ≡ Goes middle → walk image inputs (m + k) s ≡ Goes last →
      walk image inputs k middle ≡ Goes last) → walk image inputs k middle ≡ Goes last
  rest_by m k (Goes s) middle last first whole later = later s first whole
  rest_by m k (Traps reason) middle last first whole later = cc first

  rest_at : (m k : ℕ) (from middle last : MachineState) → walk image inputs m from ≡ Goes middle →
      walk image inputs (m + k) from ≡ Goes last → walk image inputs k middle ≡ Goes last
  rest_at zero k from middle last first whole =
      let same : from ≡ middle = cc first in
      subst (λ s. walk image inputs k s ≡ Goes last) same
      (subst (λ n. walk image inputs n from ≡ Goes last) (zero-add k) whole)
  rest_at (suc m) k from middle last first whole =
      rest_by m k (step image inputs from) middle last first
      (subst (λ n. walk image inputs n from ≡ Goes last) (suc-add m k) whole) (λ s. rest_at m k s middle last)

  pub walk_rest : (m k : ℕ) (from middle last : MachineState) → Walks image inputs m from middle →
      Walks image inputs (m + k) from last → Walks image inputs k middle last
  walk_rest m k from middle last first whole = record { by = rest_at m k from middle last first.by whole.by }

  -- the first step of a stretch
  pub record StepsOn (m : ℕ) (from last : MachineState) : Type 0 where
    pub next : MachineState
    pub goes : step image inputs from ≡ Goes next
    pub rest : Walks image inputs m next last

  first_by : (m : ℕ) (from last : MachineState) (outcome : Outcome) → step image inputs from ≡ outcome →
      then_on outcome (walk image inputs m) ≡ Goes last → StepsOn m from last
  first_by m from last (Goes next) is goes = record { next = next; goes = is; rest = record { by = goes } }
  first_by m from last (Traps reason) is goes = cc goes

  pub first_step : (m : ℕ) (from last : MachineState) → Walks image inputs (suc m) from last → StepsOn m from last
  first_step m from last walks = first_by m from last (step image inputs from) refl walks.by

-- WHO IS ACTIVE

-- who waits
abbrev pub waiting_in : List Crossing → List Activation
waiting_in [] = []
waiting_in (x ∷ xs) = record { comp = x.caller; entry = entered_by xs } ∷ waiting_in xs

abbrev pub standing_in : MachineState → Standing
standing_in s = record {
  active = record { comp = s.active; entry = entered_by s.cross };
  waiting = waiting_in s.cross;
}

-- after this trace the run stands here: it hasn't ended
pub record HasStood (from : Option Standing) (trace : List Event) : Type 0 where
  pub at : Standing
  pub stood : stands_after_all from trace ≡ Some at

stood_before : (from : Option Standing) (xs ys : List Event) (at : Standing) →
    stands_after_all from (xs ++ ys) ≡ Some at →
    HasStood from xs
stood_before None [] [] at is = cc is
stood_before None [] (y ∷ ys) at is = cc is
stood_before (Some first) [] ys at is = record { at = first; stood = refl }
stood_before None (x ∷ xs) ys at is = cc is
stood_before (Some first) (x ∷ xs) ys at is =
    let before : HasStood (stands_after first x) xs = stood_before (stands_after first x) xs ys at is in
    record { at = before.at; stood = before.stood }

module _ (image : ImageParts) (inputs : List ℕ) (formed : IsWellFormed image) where
  -- where a trace stands, it stands where the state does
  pub record StandsSo (s : MachineState) : Type 0 where
    pub place : (at : Standing) → stands_after_all (at_start image.main) s.trace ≡ Some at → at ≡ standing_in s

  abbrev StandsAfter : Outcome → Type 0
  StandsAfter (Goes next) = StandsSo next
  StandsAfter (Traps reason) = Unit {0}

  module _ (s : MachineState) (stands : StandsSo s) where
    timed : (event : Event) (after : Option Standing) → stands_after (standing_in s) event ≡ after → (at : Standing) →
        stands_after_all (at_start image.main) (s.trace ++ event ∷ []) ≡ Some at → Some at ≡ after
    timed event after is at following =
        let before : HasStood (at_start image.main) s.trace =
        stood_before (at_start image.main) s.trace (event ∷ []) at following in
        sym following ∙ stands_last (at_start image.main) s.trace event before.at before.stood ∙
        ap (λ x. stands_after x event) (stands.place before.at before.stood) ∙ is

    same_at : (at to : Standing) → ◌≡◌ {A = Option Standing} (Some at) (Some to) → at ≡ to
    same_at at to is = cc is

    gone_back : (cross : List Crossing) → s.cross ≡ cross → StandsSo (on_return image s cross)
    gone_back [] is = record {
      place = λ at following.
          (let never : ◌≡◌ {A = Option Standing} (Some at) None =
          timed (End s.active (reg s a0)) None refl at following in cc never);
    }
    gone_back (x ∷ xs) is = record {
      place = λ at following. same_at at _
          (timed (Ret s.active x.caller (given_back (has_result image x.callee x.entry) s)) (Some (record {
            active = record { comp = x.caller; entry = entered_by xs };
            waiting = waiting_in xs;
          }))
          (ap (λ cross. stands_after (record {
            active = record { comp = s.active; entry = entered_by s.cross };
            waiting = waiting_in cross;
          }) (Ret s.active x.caller (given_back (has_result image x.callee x.entry) s))) is) at following);
    }

    stands_next : StandsAfter (step image inputs s)
    stands_next = step_of image inputs formed s StandsAfter (record {
      same = λ a owned. refl;
      zone = refl;
      traps = λ reason. tt;
      quiet = λ regs pc is. record { place = stands.place };
      rezones = λ regs pc spans is. record { place = stands.place };
      stores = λ op a word allowed. record { place = stands.place };
      calls = λ to index target at may. record {
        place = λ at following. same_at at _
            (timed (Call s.active to index (arguments (export_params image to index) s.regs)) _ refl at following);
      };
      returns = gone_back s.cross refl;
      outputs = λ may. record {
        place = λ at following. same_at at _ (timed (Out s.active (reg s a0)) _ refl at following);
      };
      reads = λ may. record {
        place = λ at following. same_at at _ (timed (In s.active (input_at inputs s.input)) _ refl at following);
      };
    })

  stands_by : (n : ℕ) (s t : MachineState) (outcome : Outcome) → StandsAfter outcome →
      then_on outcome (walk image inputs n) ≡ Goes t →
      ((u : MachineState) → StandsSo u → walk image inputs n u ≡ Goes t → StandsSo t) → StandsSo t
  stands_by n s t (Goes u) stands walks later = later u stands walks
  stands_by n s t (Traps reason) stands walks later = cc walks

  stands_on : (n : ℕ) (s t : MachineState) → StandsSo s → walk image inputs n s ≡ Goes t → StandsSo t
  stands_on zero s t stands walks = (let same : s ≡ t = cc walks in subst StandsSo same stands)
  stands_on (suc n) s t stands walks =
      stands_by n s t (step image inputs s) (stands_next s stands) walks (λ u. stands_on n u t)

  pub stands_so : (n : ℕ) (s : MachineState) → Walks image inputs n (start image) s → StandsSo s
  stands_so n s walks =
      stands_on n (start image) s (record { place = λ at following. cc following }) walks.by

-- LEGAL TRACES

-- before an event of a legal trace the run hasn't ended
pub legal_stood : (interfaces : Interfaces) (from : Option Standing) (before : List Event) (event : Event)
    (more : List Event) → is_legal_from interfaces from (before ++ event ∷ more) ≡ true → HasStood from before
legal_stood interfaces None [] event more legal = cc legal
legal_stood interfaces (Some at) [] event more legal = record { at = at; stood = refl }
legal_stood interfaces None (x ∷ before) event more legal = cc legal
legal_stood interfaces (Some at) (x ∷ before) event more legal =
    let rest : HasStood (stands_after at x) before =
    legal_stood interfaces (stands_after at x) before event more
    (and_parts (is_allowed interfaces at x) _ legal).1 in
    record { at = rest.at; stood = rest.stood }

-- ROWS

few_by : (c : ℕ) (first : Event) (rest : List Event) (row : Row) (with_it without : List Row) (own : Bool) →
    length with_it ≤ length (filter (λ event. performer event == c) rest) →
    length without ≤ length (filter (λ event. performer event == c) rest) →
    length (if own then row ∷ with_it else without) ≤
    length (if own then first ∷ filter (λ event. performer event == c) rest else
    filter (λ event. performer event == c) rest)
few_by c first rest row with_it without true h k = omega (arith, h)
few_by c first rest row with_it without false h k = k

-- a compartment has no more rows than events
pub few_rows : (c number : ℕ) (from : Option Standing) (xs ys : List Event) →
    length (rows_from c number from xs) ≤ count_of c (xs ++ ys)
few_rows c number from [] ys = omega arith
few_rows c number None (x ∷ xs) ys = omega arith
few_rows c number (Some at) (x ∷ xs) ys =
    few_by c x (xs ++ ys) _ _ _ (performer x == c) (few_rows c (suc number) (stands_after at x) xs ys)
    (few_rows c number (stands_after at x) xs ys)
