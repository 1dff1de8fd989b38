-- What comes of a run of a program, by what its code comes to once `main` has begun.
use Rattle.sc_emit_run_laws.proofs.Common.{AllBefore, AllFrom, AllHonest, BodiesFollow, Body, Costs, Denotations, Emits}
use Rattle.sc_emit_run_laws.proofs.Common.{End, Event, Finishes, FunctionGives, Gone, Here, ImageParts, IsBuilt, IsFull}
use Rattle.sc_emit_run_laws.proofs.Common.{IsLeft, IsPrefix, Joint, List, Main, Memory, Option, Overflows, Piece}
use Rattle.sc_emit_run_laws.proofs.Common.{Reached, Reaches, ReturnsValue, RunEnd, Setting, Some, Standpoint, Stands}
use Rattle.sc_emit_run_laws.proofs.Common.{State as Meant, Stopped, StopsSpent, TacFnTree, TacTree, TurnsOut, Value}
use Rattle.sc_emit_run_laws.proofs.Common.{Walks, Word, [], and_then, ap, ap₂, arith, begun, bodies, call_own}
use Rattle.sc_emit_run_laws.proofs.Common.{code_denotations, code_function, code_globals, code_obeys, code_run, done}
use Rattle.sc_emit_run_laws.proofs.Common.{exit_word, finishes, found, frames_are, function_entered, functions_in, gate}
use Rattle.sc_emit_run_laws.proofs.Common.{has_no_end, inl, inr, is_full, is_some, jalr_target, keeps_depths, last}
use Rattle.sc_emit_run_laws.proofs.Common.{leads, length, lt-ltb, machine, main_call, nobody, own_goes, pos}
use Rattle.sc_emit_run_laws.proofs.Common.{prefix_more, prefix_same, ran, refl, reg, run_goes_on, run_step, run_to}
use Rattle.sc_emit_run_laws.proofs.Common.{setting, slice_get, stands, steps_emit, subst, suc, sym, true, within}
use Rattle.sc_emit_run_laws.proofs.Common.{within_goes, wrapping, ℕ, ◌*◌, ◌++◌, ◌+◌, ◌<◌, ◌∙◌, ◌∷◌, ◌≡◌, ◌≤◌, ◌⊎◌}
use Rattle.sc_image.specs.Prelude.{MachineState, a0, ra}
use Rattle.sc_emit_run_laws.specs.Prelude.{Outcome}
use Rattle.sc_core_laws.proofs.Turns.{spends_turns}
use Rattle.sc_emit_run_laws.proofs.Along.{prefix_endless}
use Rattle.sc_emit_run_laws.proofs.Sections.{function_found}
use Rattle.sc_emit_run_laws.proofs.Start.{IsMain, P as P', begins, main_there, x as x'}

-- what gave a value before its variables ended
pub body_gave : (o : Piece (Option Value)) (finish : Meant → Meant) (v : Option Value) (s : Meant) →
    and_then o (λ v t. Reached v (finish t)) ≡ Reached v s → (t : Meant) × (o ≡ Reached v t)
body_gave (Reached u t) finish v s is =
    let same : u ≡ v = cc is in (t, ap (λ u. Reached u t) same)
body_gave (Stopped end t) finish v s is = cc is

stopped_there : (end : RunEnd) (s t : Meant) →
    ◌≡◌ {A = Piece (Option Value)} (Stopped end s) (Stopped TurnsOut t) → s ≡ t
stopped_there end s t is = cc is

-- a turn pays for more than a budget, and the turns and one for the whole
within_bound : (turn_pays turns steps left rest budget : ℕ) → budget < turn_pays →
    steps + left + turn_pays * rest ≤ budget + turn_pays * turns → steps < turn_pays * suc turns
within_bound turn_pays turns steps left rest budget less most =
    let whole : turn_pays * suc turns ≡ turn_pays * turns + turn_pays = omega arith in
    omega (arith, less, most, whole)

-- the events of a run begin with those of what it comes to
pub run_prefix : (main : ℕ) (piece : Piece (Option Value)) →
    IsPrefix (last piece).trace (run_to main piece).behaviour.trace
run_prefix main (Reached v s) = record { more = End main (exit_word v) ∷ []; is = refl }
run_prefix main (Stopped end s) = prefix_same s.trace

-- a0 has the word that `main` gives
pub word_given : (T : Setting) (place : ℕ → Option ℕ) (a : ℕ) (v : Option Value) (w : ℕ) → v ≡ Some (Word w) →
    ReturnsValue T place a v → a ≡ exit_word v
word_given T place a v w is given =
    (subst (ReturnsValue T place a) is given).means ∙ sym (ap exit_word is)

module _ (program : TacTree) (image : ImageParts) (turn_pays : ℕ)
    (built : IsBuilt nobody.scripted program image turn_pays) (inputs : List ℕ) (turns : ℕ) where
  abbrev denotations : Denotations
  denotations = code_denotations wrapping program

  abbrev main : ℕ
  main = program.interfaces.main

  abbrev globals : Memory
  globals = code_globals program.sections

  abbrev T : Setting
  T = setting program image inputs nobody.scripted turn_pays built.addresses

  abbrev P : Standpoint
  P = P' built inputs turns

  abbrev x : Joint
  x = x' built inputs turns

  abbrev body : Body
  body = within (run_step denotations) (suc turns)

  all_honest : AllHonest T
  all_honest k below = rw (lt-ltb k (length image.comps) below) refl

  there : IsMain (functions_in program main) (function_entered Main (slice_get program.sections main))
  there = main_there program built.rules

  abbrev number : ℕ
  number = there.number

  abbrev f : TacFnTree
  f = there.f

  -- `main`, with all that it calls
  abbrev whole : Piece (Option Value)
  whole = call_own denotations body image.main number [] x.meant

  its : slice_get (functions_in program image.main) number ≡ Some f
  its = ap (λ c. slice_get (functions_in program c) number) built.linked.main ∙ there.its

  whole_ran : whole ≡ ran program nobody (suc turns) image.main number f [] x.meant
  whole_ran =
      ap (λ o. and_then (found o x.meant) (λ f s.
      and_then (body number (record { comp = image.main; first = length (s.memory image.main) })
      (begun image.main f [] s)) (λ v t. Reached v (done image.main f (length (s.memory image.main)) t))))
      (function_found program image.main number f its)

  called_whole : main_call denotations globals inputs turns ≡ whole
  called_whole =
      ap (λ o. and_then (found o x.meant) (λ number s. call_own denotations body main number [] s)) there.enters ∙
      ap (λ c. call_own denotations body c number [] x.meant) (sym built.linked.main)

  run_is : code_run wrapping program inputs turns ≡ run_to main whole
  run_is = ap (run_to main) called_whole

  -- it emits no end, and goes on from the first state
  no_end : has_no_end (last whole).trace ≡ true
  no_end =
      (keeps_depths denotations (code_obeys.itself wrapping program)).no_end (suc turns) image.main number [] x.meant
      refl

  gone : Gone x.meant whole
  gone =
      own_goes denotations body (within_goes (run_step denotations)
      (run_goes_on denotations (code_obeys.itself wrapping program))
      (suc turns)) image.main number [] x.meant

  led : leads denotations main (denotations.entered main Main) ≡ true
  led =
      ap (leads denotations main) there.enters ∙ ap is_some (function_found program main number f there.its)

  -- where it is out of turns none is left
  spent : (s : Meant) → whole ≡ Stopped TurnsOut s → s.turns ≡ 0
  spent s is =
      let out : StopsSpent denotations globals inputs turns =
      (spends_turns denotations (code_obeys.itself wrapping program)).runs globals inputs turns led
      (ap (λ r. r.behaviour.end) (run_is ∙ ap (run_to main) is)) in
      ap (λ s. s.turns) (stopped_there TurnsOut s out.state (sym is ∙ sym called_whole ∙ out.stopped)) ∙ out.spent

  abbrev bound : ℕ
  bound = turn_pays * suc turns

  abbrev reaches : (steps budget left : ℕ) (reached : MachineState) (meant : Meant) → budget < turn_pays →
      Walks image inputs steps (machine P x) reached → Costs T steps budget left x.meant meant →
      has_no_end reached.trace ≡ true → Reaches image inputs bound
  reaches steps budget left reached meant less walks costs going = record {
    steps = steps;
    reached = reached;
    walks = walks;
    within = within_bound turn_pays turns steps left meant.turns budget less (costs.most all_honest);
    going = going;
  }

  -- WHERE `main` RETURNS
  module _ (budget : ℕ) (less : budget < turn_pays) (v : Option Value) (s : Meant) (is : whole ≡ Reached v s)
      (left : IsLeft T P x budget gate v s) where
    gives_word : (w : ℕ) × (v ≡ Some (Word w))
    gives_word =
        let here : Here = record { comp = image.main; first = length (x.meant.memory image.main) } in
        let gave = body_gave (bodies program nobody (suc turns) number here
        (begun image.main (code_function wrapping f) [] x.meant))
        (done image.main (code_function wrapping f) (length (x.meant.memory image.main))) v s
        (sym whole_ran ∙ is) in
        (built.results nobody).ends (suc turns) number here (begun image.main (code_function wrapping f) []
        x.meant) gave.0 v
        refl built.linked.main
        (ap (λ c. function_entered Main (slice_get program.sections c)) built.linked.main ∙ there.enters) gave.1

    abbrev stands_at : MachineState
    stands_at = machine P left.y

    trace_is : stands_at.trace ≡ s.trace
    trace_is = ap (λ m. m.trace) left.meant_is

    exit_is : reg stands_at a0 ≡ exit_word v
    exit_is = word_given T (left.y.inj P.comp) (left.y.regs a0) v gives_word.0 gives_word.1 left.value

    finished : Finishes image inputs bound turns (run_to main (Reached v s))
    finished = record {
      place = reaches left.leads.steps budget 1 stands_at left.y.meant less left.leads.run left.leads.costs
          (ap has_no_end trace_is ∙ ap (λ p. has_no_end (last p).trace) (sym is) ∙ no_end);
      ends = steps_emit.ends image inputs stands_at ra (pos 0)
          (record { word = left.jump.word; fetched = left.jump.fetched; decodes = left.jump.decodes })
          (ap (λ base. jalr_target base (pos 0)) left.ra) refl;
      trace = ap₂ (λ t e. t ++ e ∷ []) trace_is (ap₂ End built.linked.main exit_is);
      end = refl;
    }

  -- WHERE IT STOPS
  module _ (budget : ℕ) (less : budget < turn_pays) (end : RunEnd) (s : Meant) (is : whole ≡ Stopped end s)
      (observed : Emits T P x budget s) where
    out_of_turns : end ≡ TurnsOut → turns ≤ observed.steps
    out_of_turns same =
        omega (arith, observed.costs.least, spent s (is ∙ ap (λ end. Stopped end s) same))

    stopped : Stands image inputs bound turns (run_to main (Stopped end s))
    stopped = record {
      place = reaches observed.steps budget 0 observed.reached s less observed.run observed.costs
          (ap has_no_end observed.trace ∙ ap (λ p. has_no_end (last p).trace) (sym is) ∙ no_end);
      trace = observed.trace;
      end = (subst (Gone x.meant) is gone).stop;
      spent = out_of_turns;
    }

  -- WHERE A STACK IS FULL
  module _ (budget : ℕ) (less : budget < turn_pays) (over : Overflows T P x budget whole) where
    emits_prefix : IsPrefix over.reached.trace (last whole).trace
    emits_prefix = subst (λ t. IsPrefix t (last whole).trace) (sym over.trace) over.grown.events

    full : IsFull image inputs bound turns (run_to main whole)
    full = record {
      place = reaches over.steps budget 0 over.reached over.begun less over.run over.costs
          (prefix_endless over.reached.trace (last whole).trace emits_prefix no_end);
      traps = over.traps;
      lacks = over.lacks;
      trace = prefix_more over.reached.trace (last whole).trace (run_to main whole).behaviour.trace emits_prefix
          (run_prefix main whole);
      exceeds = record {
        moment = record {
          made = over.begun.frames;
          prefix = record { more = over.grown.frames.more; is = frames_are main whole ∙ over.grown.frames.is };
          before = subst (λ (t : List Event). AllBefore (suc (length t)) over.begun.frames) (sym over.trace)
              over.timed;
          after = subst (λ (t : List Event). AllFrom (length t) over.grown.frames.more) (sym over.trace)
              over.grown.late;
        };
        deep = over.deep;
      };
    }

  outcome_by : (budget : ℕ) → budget < turn_pays → (piece : Piece (Option Value)) → whole ≡ piece →
      FunctionGives T P x budget gate piece → Outcome image inputs bound turns (run_to main piece)
  outcome_by budget less (Reached v s) is left = finishes (finished budget less v s is left)
  outcome_by budget less (Stopped end s) is observed = stands (stopped budget less end s is observed)

  -- `main` is followed by its code, in fewer steps than a turn pays for
  abbrev IsFollowed : Piece (Option Value) → Type 0
  IsFollowed piece =
      (budget : ℕ) ×
      ((budget < turn_pays) × (FunctionGives T P x budget gate piece ⊎ Overflows T P x budget piece))

  outcome_of : (budget : ℕ) → budget < turn_pays →
      FunctionGives T P x budget gate whole ⊎ Overflows T P x budget whole →
      Outcome image inputs bound turns (run_to main whole)
  outcome_of budget less (inl gives) = outcome_by budget less whole refl gives
  outcome_of budget less (inr over) = is_full (full budget less over)

  -- one of the three, where the code of functions follows them
  pub outcome : ((n : ℕ) → BodiesFollow program nobody T n) →
      Outcome image inputs bound turns (code_run wrapping program inputs turns)
  outcome follow =
      let ran_is : IsFollowed (ran program nobody (suc turns) image.main number f [] x.meant) =
      follow (suc turns) P x number f [] gate its (rw there.lone refl) (sym there.lone)
      (begins built inputs turns refl number f there.enters) in
      let is : IsFollowed whole = subst IsFollowed (sym whole_ran) ran_is in
      subst (Outcome image inputs bound turns) (sym run_is) (outcome_of is.0 is.1.0 is.1.1)
