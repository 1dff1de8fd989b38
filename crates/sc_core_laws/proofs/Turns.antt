-- A run that is out of turns has none left, where all functions that are called are there.
use Rattle.sc_core_laws.proofs.Common.{Blamed, Denotations, Ended, EventsOut, Kept, List, Main, Memory, Obedient}
use Rattle.sc_core_laws.proofs.Common.{Option, Piece, Property, RunEnd, SpendsTurns, State, StopsSpent, TurnsOut, Value}
use Rattle.sc_core_laws.proofs.Common.{arith, first_state, leads, main_call, refl, run_step, run_to, subst, suc, true}
use Rattle.sc_core_laws.proofs.Common.{within, zero, ℕ, ◌<◌, ◌≡◌}
use Rattle.sc_core_laws.proofs.Growing.{within_goes}
use Rattle.sc_core_laws.proofs.Matching.{run_goes_on}
use Rattle.sc_core_laws.proofs.Keeping.{Walk, place, BodyWalks, main_walks, run_step_walks, led_somewhere, led_there}

-- an end for want of turns comes without any
abbrev Spent : RunEnd → State → Type 0
Spent Ended s = Unit {0}
Spent (Blamed comp cause line) s = Unit {0}
Spent TurnsOut s = s.turns ≡ 0
Spent EventsOut s = Unit {0}

module _ (denotations : Denotations) where
  -- fewer turns than a number
  abbrev walk : Walk denotations
  walk = record {
    Place = Unit {0};
    At = λ n i s. s.turns < n;
    Ends = Spent;
    In = λ i comp. Unit {0};
    Runs = λ i comp number. Unit {0};
    inner = λ i comp f. tt;
    across = λ i to index. tt;
    cross_runs = λ i to index number f same. tt;
    halts = λ i s few. absurd (omega (arith, few));
    spent = λ n i s none few. none;
    less = λ n m i s is few. omega (arith, is, few);
    raised = λ n i s few. omega (arith, few);
    stored = λ n i s memory few. few;
    begins = λ n i comp f args s few. few;
    ends = λ n i comp f first s few. few;
    enters = λ n i from to index args s here may few. few;
    leaves = λ n i from to index args v s here may few. few;
    reads = λ n i from args s here may few. few;
    writes = λ n i from args s here may few. few;
  }

  abbrev spending : ℕ → Property
  spending n = place denotations walk n tt

  module _ (obedient : Obedient denotations) where
    within_spends : (n : ℕ) → BodyWalks denotations walk n (within (run_step denotations) n)
    within_spends zero number here s i is runs few = absurd (omega (arith, few))
    within_spends (suc n) number here s i is runs few =
        run_step_walks denotations walk n (within (run_step denotations) n)
        (within_spends n) obedient (within_goes (run_step denotations) (run_goes_on denotations obedient) n) number here
        s i is
        tt (λ k f. tt) (λ cause line s few. tt) few

    abbrev main : ℕ
    main = denotations.interfaces.main

    main_spends : (globals : Memory) (inputs : List ℕ) (turns : ℕ) →
        leads denotations main (denotations.entered main Main)
        ≡ true → Kept (spending (suc turns)) (main_call denotations globals inputs turns)
    main_spends globals inputs turns is = main_walks denotations walk (suc turns)
        (within (run_step denotations) (suc turns)) (within_spends (suc turns)) tt (first_state globals inputs turns)
        (λ none. absurd (cc (led_somewhere denotations main _ is, none)))
        (λ number same none. absurd (cc (led_there denotations main number _ is same, none))) (λ number f same. tt)
        (omega arith)

    stops : (globals : Memory) (inputs : List ℕ) (turns : ℕ) (o : Piece (Option Value)) →
        main_call denotations globals inputs turns ≡ o → Kept (spending (suc turns)) o →
        (run_to main o).behaviour.end ≡ TurnsOut → StopsSpent denotations globals inputs turns
    stops globals inputs turns end is h ends = grind (arith, is, h)

    pub spends_turns : SpendsTurns denotations
    spends_turns = record {
      functions = λ number here s is t stopped. (subst (λ x. Kept (spending (suc s.turns)) x) stopped
          (within_spends _ number here s tt is tt (omega arith))).after;
      runs = λ globals inputs turns is ends. stops globals inputs turns _ refl
          (main_spends globals inputs turns is) ends;
    }
