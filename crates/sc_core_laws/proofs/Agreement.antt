-- Denotations that agree function by function run the same, also where compartments perform scripts.
use Rattle.sc_core_laws.proofs.Common.{Action, AgreeingRunAlike, BodiesAgree, Body, Bool, CallTarget, CallsAgree, Cross}
use Rattle.sc_core_laws.proofs.Common.{Denotations, DenotationsAgree, Function, FunctionsAgree, Here, Input, List, Main}
use Rattle.sc_core_laws.proofs.Common.{Meets, Memory, None, Option, Output, Piece, PiecesAgree, Roles, Row, RunsAgree}
use Rattle.sc_core_laws.proofs.Common.{Some, State, Step, Value, Word, [], acts, and_then, ap, arith, asks, back_own}
use Rattle.sc_core_laws.proofs.Common.{call_own, calls, first_state, found, function, if◌then◌else◌, is_number, map}
use Rattle.sc_core_laws.proofs.Common.{performs, piece_without_line, refl, run_by, run_in, run_step, run_to}
use Rattle.sc_core_laws.proofs.Common.{scripted_step, subst, suc, within, zero, ℕ, ◌∷◌, ◌≡◌}
use Rattle.sc_event.specs.declared.row.Action.TheVariants as act

pub itself : {V : Type 0} (o : Piece V) → PiecesAgree o o
itself o = record { same = refl }

-- one piece after another
pub then_agree : {V W : Type 0} (o p : Piece V) (k l : V → State → Piece W) →
    PiecesAgree o p → ((v : V) (s : State) → PiecesAgree (k v s) (l v s)) → PiecesAgree (and_then o k) (and_then p l)
then_agree o p k l h x = grind (arith, h)

-- what is done where a test, which answers the same, allows it
if_agree : {V : Type 0} (b c : Bool) (o p o' p' : Piece V) → b ≡ c → PiecesAgree o p → PiecesAgree o' p' →
    PiecesAgree (if b then o else o') (if c then p else p')
if_agree b c o p o' p' is h k = grind (arith, h)

found_agree : {V : Type 0} (m n : Option V) (s : State) → m ≡ n → PiecesAgree (found m s) (found n s)
found_agree m n s is = record { same = ap (λ x. piece_without_line (found x s)) is }

module _ (L M : Denotations) (agree : DenotationsAgree L M) where
  module _ (body other : Body) (bodies : BodiesAgree body other) where
    runs_in : (comp number : ℕ) (args : List Value) (back back' : Option Value → State → Piece (Option Value)) →
        ((v : Option Value) (s : State) → PiecesAgree (back v s) (back' v s)) → (s : State) →
        PiecesAgree (run_in L body comp number args back s) (run_in M other comp number args back' s)
    runs_in comp number args back back' b s = grind arith

    pub own_agree : (comp number : ℕ) (args : List Value) (s : State) →
        PiecesAgree (call_own L body comp number args s) (call_own M other comp number args s)
    own_agree comp number args s = runs_in comp number args back_own back_own (λ v s. itself _) s

    pub calls_agree : CallsAgree (calls L body) (calls M other)
    calls_agree from target args s = grind arith

    does_there : (here : Here) (s : State) (f g : Option Function) → Meets FunctionsAgree f g →
        PiecesAgree (and_then (found f s) (λ f s. f.does (calls L body) here s))
        (and_then (found g s) (λ g s. g.does (calls M other) here s))
    does_there here s None None h = itself _
    does_there here s (Some f) (Some g) h = h.does _ _ calls_agree here s
    does_there here s _ _ h = absurd h

    pub step_agree : BodiesAgree (run_step L body) (run_step M other)
    step_agree number here s = does_there here s (function L _ number) (function M _ number) (agree.functions _ number)

    -- scripts
    asks_agree : (comp : ℕ) (target : CallTarget) (args : List Value) (s : State) →
        PiecesAgree (asks L body comp target args s) (asks M other comp target args s)
    asks_agree comp target args s = grind arith

    acts_agree : (action : Action) (next next' again again' : State → Piece (Option Value)) (comp : ℕ) (s : State) →
        ((s : State) → PiecesAgree (next s) (next' s)) → ((s : State) → PiecesAgree (again s) (again' s)) →
        PiecesAgree (acts L body action next again comp s) (acts M other action next' again' comp s)
    acts_agree (act.Call to index args) next next' again again' comp s n a =
        then_agree _ _ _ _ (asks_agree comp (Cross to index) (map _ args) s) (λ v s. a s)
    acts_agree (act.Ret v) next next' again again' comp s n a = itself _
    acts_agree (act.Out w) next next' again again' comp s n a =
        then_agree _ _ _ _ (asks_agree comp Output (Word w ∷ []) s) (λ v s. n s)
    acts_agree (act.In w) next next' again again' comp s n a =
        then_agree _ _ _ _ (asks_agree comp Input [] s) (λ v s. n s)
    acts_agree (act.End w) next next' again again' comp s n a = itself _

    pub performs_agree : (rows : List Row) → BodiesAgree (performs L body rows) (performs M other rows)
    performs_agree [] number here s = itself _
    performs_agree (row ∷ rest) number here s = if_agree (is_number number (L.entered _ _))
        (is_number number (M.entered _ _)) _ _ _ _ (ap (is_number number) (agree.entered _ _))
        (acts_agree row.action _ _ _ _ here.comp s (λ s. performs_agree rest number here s) (λ s. bodies number here s))
        (itself _)

  -- functions that agree where what they call does
  abbrev pub StepsAgree : Step → Step → Type 0
  StepsAgree step to = (body other : Body) → BodiesAgree body other → BodiesAgree (step body) (to other)

  pub within_agree : (step to : Step) → StepsAgree step to → (n : ℕ) → BodiesAgree (within step n) (within to n)
  within_agree step to k zero number here s = itself _
  within_agree step to k (suc n) number here s = k _ _ (within_agree step to k n) number here s

  pub scripted_agree : (roles : Roles) (step to : Step) → StepsAgree step to →
      StepsAgree (scripted_step L roles step) (scripted_step M roles to)
  scripted_agree roles step to k body other bodies number here s = if_agree (roles.scripted _) _ _ _ _ _ refl
      (performs_agree body other bodies _ number here s) (k body other bodies number here s)

  pub start_agree : (step to : Step) → StepsAgree step to → (main turns : ℕ) (s : State) → PiecesAgree
      (and_then (found (L.entered main Main) s) (λ number s. call_own L (within step (suc turns)) main number [] s))
      (and_then (found (M.entered main Main) s) (λ number s. call_own M (within to (suc turns)) main number [] s))
  start_agree step to k main turns s = then_agree _ _ _ _ (found_agree _ _ s (agree.entered main Main)) (λ number s.
      own_agree (within step (suc turns)) (within to (suc turns)) (within_agree step to k (suc turns)) main number [] s)

-- whole runs

pub run_agree : (main : ℕ) (o p : Piece (Option Value)) → PiecesAgree o p → RunsAgree (run_to main o) (run_to main p)
run_agree main o p h = grind (arith, h)

pub runs_agree : (L M : Denotations) (agree : DenotationsAgree L M) (step to : Step) → StepsAgree L M agree step to →
    (globals : Memory) (inputs : List ℕ) (turns : ℕ) →
    RunsAgree (run_by L step globals inputs turns) (run_by M to globals inputs turns)
runs_agree L M agree step to k globals inputs turns = subst (λ i. RunsAgree (run_by L step globals inputs turns) (run_to
    i.main (and_then (found (M.entered i.main Main) (first_state globals inputs turns))
    (λ number s. call_own M (within to (suc turns)) i.main number [] s)))) agree.interfaces
    (run_agree L.interfaces.main _ _ (start_agree L M agree step to k L.interfaces.main turns _))

pub agreeing_run_alike : AgreeingRunAlike
agreeing_run_alike = record {
  meaning = λ L M agree. runs_agree L M agree (run_step L) (run_step M) (step_agree L M agree);
  scripted = λ L M agree roles. runs_agree L M agree (scripted_step L roles (run_step L))
      (scripted_step M roles (run_step M)) (scripted_agree L M agree roles _ _ (step_agree L M agree));
}
