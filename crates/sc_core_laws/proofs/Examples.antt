-- Chains of worked programs, computed, and the least sets that they give.
use Rattle.sc_core_laws.proofs.Common.{Blamed, Call, End, Ended, Event, HasAllBlamed, IsBlameChain, IsPrefix, BlameLink}
use Rattle.sc_core_laws.proofs.Common.{List, Out}
use Rattle.sc_core_laws.proofs.Common.{OutOfBounds, ProgramTree, Ret, CompSet, Some, SourceRun, [], ap, c_arith, length}
use Rattle.sc_core_laws.proofs.Common.{nobody, performed, sym, true, with, ◌++◌, ◌∷◌, ◌≡◌}
use Rattle.sc_core.proofs.Plans.{program}
use Rattle.sc_core.proofs.Programs.{two_stores_interfaces, two_stores, reentry_interfaces, reentry}
use Rattle.sc_core.proofs.Rows.{scripted_by_plan, two_stores_trace, reentry_trace}
use Rattle.sc_core_laws.proofs.ProgramLaws.{chain_is_least}

-- a run that was blamed along a trace, which goes on with these events
link_of : (run other : SourceRun) (more : List Event) → run ≡ other → IsPrefix run.trace (other.trace ++ more)
link_of run other more is = record { more = more; is = ap (λ r. r.trace ++ more) (sym is) }

-- TWO STORES PAST THE END: the first is blamed, then the second
abbrev stores : ProgramTree
stores = program two_stores_interfaces two_stores

abbrev first_link : BlameLink
first_link = record { comp = 1; after = 1; cause = OutOfBounds; line = 6 }

abbrev second_link : BlameLink
second_link = record { comp = 2; after = 4; cause = OutOfBounds; line = 6 }

nobody_stores : performed c_arith stores [] 5 two_stores_trace nobody ≡ record {
  trace = Call 0 1 0 (2 ∷ []) ∷ [];
  end = Blamed 1 OutOfBounds 6;
}
nobody_stores = scripted_by_plan two_stores_interfaces two_stores nobody two_stores_trace [] 5 7

first_stores : performed c_arith stores [] 5 two_stores_trace (with 1 nobody)
    ≡ record {
      trace = Call 0 1 0 (2 ∷ []) ∷ Ret 1 0 (Some 5) ∷ Out 0 5 ∷ Call 0 2 0 (2 ∷ []) ∷ [];
      end = Blamed 2 OutOfBounds 6;
    }
first_stores = scripted_by_plan two_stores_interfaces two_stores (with 1 nobody) two_stores_trace [] 5 7

both_store : performed c_arith stores [] 5 two_stores_trace (with 2 (with 1 nobody))
    ≡ record { trace = two_stores_trace; end = Ended }
both_store = scripted_by_plan two_stores_interfaces two_stores (with 2 (with 1 nobody)) two_stores_trace [] 5 7

pub stores_chain : IsBlameChain (performed c_arith stores [] 5 two_stores_trace) two_stores_trace nobody
    (first_link ∷ second_link ∷ [])
stores_chain = (
  record {
    blamed = ap (λ run. run.end) nobody_stores;
    prefix = link_of _ _ (Ret 1 0 (Some 5) ∷ Out 0 5 ∷ Call 0 2 0 (2 ∷ []) ∷ Ret 2 0 (Some 5) ∷ Out 0 5 ∷ End 0 0 ∷ [])
        nobody_stores;
    after = ap (λ run. length run.trace) nobody_stores;
  },
  (
    record {
      blamed = ap (λ run. run.end) first_stores;
      prefix = link_of _ _ (Ret 2 0 (Some 5) ∷ Out 0 5 ∷ End 0 0 ∷ []) first_stores;
      after = ap (λ run. length run.trace) first_stores;
    },
    ap (λ run. run.trace) both_store,
  ),
)

-- no run emits the trace in which one of the two performs nothing
pub stores_need_both : (set : CompSet) → (performed c_arith stores [] 5 two_stores_trace set).trace ≡ two_stores_trace →
    (set 1 ≡ true) × (set 2 ≡ true)
stores_need_both set emits_trace =
    (let all : HasAllBlamed set (first_link ∷ second_link ∷ []) = (chain_is_least.programs c_arith stores [] 5
    two_stores_trace nobody (first_link ∷ second_link ∷ []) set (λ comp is. absurd (cc)) stores_chain).0 emits_trace in (all.0, all.1.0))

-- RE-ENTRY: the compartment that is blamed is entered again while it performs
abbrev entered_again : BlameLink
entered_again = record { comp = 1; after = 1; cause = OutOfBounds; line = 10 }

nobody_reenters : performed c_arith (program reentry_interfaces reentry) [] 5 reentry_trace nobody
    ≡ record { trace = Call 0 1 0 (2 ∷ []) ∷ []; end = Blamed 1 OutOfBounds 10 }
nobody_reenters = scripted_by_plan reentry_interfaces reentry nobody reentry_trace [] 5 8

first_reenters : performed c_arith (program reentry_interfaces reentry) [] 5 reentry_trace (with 1 nobody)
    ≡ record { trace = reentry_trace; end = Ended }
first_reenters = scripted_by_plan reentry_interfaces reentry (with 1 nobody) reentry_trace [] 5 8

pub reentry_chain : IsBlameChain (performed c_arith (program reentry_interfaces reentry) [] 5 reentry_trace)
    reentry_trace
    nobody (entered_again ∷ [])
reentry_chain = (
  record {
    blamed = ap (λ run. run.end) nobody_reenters;
    prefix = link_of _ _ (Call 1 2 0 (5 ∷ []) ∷ Call 2 1 1 (6 ∷ []) ∷ Ret 1 2 (Some 11) ∷ Ret 2 1 (Some 11) ∷ Ret 1 0
        (Some 22) ∷ Out 0 22 ∷ End 0 0 ∷ []) nobody_reenters;
    after = ap (λ run. length run.trace) nobody_reenters;
  },
  ap (λ run. run.trace) first_reenters,
)

-- any set with that compartment emits the trace, whoever else performs
pub reentry_suffices : (set : CompSet) → set 1 ≡ true →
    (performed c_arith (program reentry_interfaces reentry) [] 5 reentry_trace set).trace ≡ reentry_trace
reentry_suffices set has = (chain_is_least.programs c_arith (program reentry_interfaces reentry) [] 5 _ nobody
    (entered_again ∷ []) set (λ comp is. absurd (cc)) reentry_chain).1 (has, tt)
