-- The numbers of a legal trace's events stand for something.
use Rattle.sc_event.proofs.Common.{Activation, All, Bool, Call, End, Event, Interfaces, IsKnown, IsSome, List, None}
use Rattle.sc_event.proofs.Common.{Option, Ret, Some, Standing, [], and_parts, awaits, comp_at, eqb-true, export_at}
use Rattle.sc_event.proofs.Common.{false, false≢true, imports, is_allowed, is_legal_from, legal, length, may_perform}
use Rattle.sc_event.proofs.Common.{may_return, option_and_then, option_map_or, performer, refl, resumed, slice_get}
use Rattle.sc_event.proofs.Common.{stands_after, subst, sym, takes, true, ℕ, ◌==◌, ◌∷◌, ◌≡◌}
use Rattle.std.proofs.lemmas.List.Elements.{All-from_recursion}
use Rattle.std.specs.List.{AllByRecursion}
use Rattle.sc_event.specs.declared.interface.Interface.{Interface}

-- what a test found of it is there
there : {A : Type 0} (o : Option A) (test : A → Bool) → option_map_or test o false ≡ true → IsSome o
there None test is = absurd (false≢true is)
there (Some a) test is = refl

module _ (interfaces : Interfaces) where
  abbrev IsComp : ℕ → Type 0
  IsComp comp = IsSome (comp_at interfaces comp)

  -- the compartments of all functions that were entered and haven't returned
  pub record IsAmong (at : Standing) : Type 0 where
    pub active : IsComp at.active.comp
    pub waiting : AllByRecursion (λ a. IsComp a.comp) at.waiting

  -- an export has a compartment
  has_comp : (comp index : ℕ) → IsSome (export_at interfaces comp index) → IsComp comp
  has_comp comp index = of _ where
    of : (found : Option Interface) → IsSome (option_and_then (λ found. slice_get found.exports index) found) →
        IsSome found
    of None is = absurd (false≢true is)
    of _ is = refl

  awaited : (waiting : List Activation) (to : ℕ) → awaits waiting to ≡ true →
      AllByRecursion (λ a. IsComp a.comp) waiting → IsComp to
  awaited [] to is known = absurd (false≢true is)
  awaited (latest ∷ earlier) to is known = subst IsComp (eqb-true _ to is) known.0

  performed : (at : Standing) (event : Event) → may_perform interfaces at event ≡ true → IsAmong at →
      IsComp (performer event) → IsKnown interfaces event
  performed at (Call from to index args) may known mine =
      let takes_it = (and_parts (imports interfaces from _) (takes interfaces to index _) may).1 in
      let export = there _ (λ found. length _ == length args) takes_it in
      (mine, has_comp to index export, export)
  performed at (Ret from to value) may known mine = (
    mine,
    awaited at.waiting to
        (and_parts (awaits at.waiting to) (may_return interfaces from at.active.entry value) may).0 known.waiting,
  )
  performed at _ may known mine = mine

  known_of : (at : Standing) (event : Event) → is_allowed interfaces at event ≡ true → IsAmong at →
      IsKnown interfaces event
  known_of at event allowed known =
      let parts = and_parts _ _ allowed in
      performed at event parts.1 known (subst IsComp (sym (eqb-true _ _ parts.0)) known.active)

  -- a run that goes on stands among the compartments
  abbrev StandsAmong : Option Standing → Type 0
  StandsAmong None = Unit {0}
  StandsAmong (Some at) = IsAmong at

  among_after : (at : Standing) (event : Event) → IsKnown interfaces event → IsAmong at →
      StandsAmong (stands_after at event)
  among_after at (Call from to index args) is known = record { active = is.1; waiting = (known.active, known.waiting) }
  among_after at (Ret from to value) is known = resume _ known.waiting where
    resume : (waiting : List Activation) → AllByRecursion (λ a. IsComp a.comp) waiting → StandsAmong (resumed waiting)
    resume [] all = tt
    resume _ all = record { active = all.0; waiting = all.1 }
  among_after at (End comp value) is known = tt
  among_after at _ is known = known

  all_known : (from : Option Standing) (trace : List Event) → StandsAmong from →
      is_legal_from interfaces from trace ≡ true → AllByRecursion (IsKnown interfaces) trace
  all_known from [] known is = tt
  all_known None (event ∷ later) known is = absurd (false≢true is)
  all_known (Some at) (event ∷ later) known is =
      let parts = and_parts _ _ is in
      let this = known_of at event parts.0 known in
      (this, all_known _ later (among_after at event this known) parts.1)

  pub legal_is_known : (trace : List Event) → IsComp interfaces.main → legal interfaces trace ≡ true →
      All (IsKnown interfaces) trace
  legal_is_known trace main is =
      All-from_recursion (IsKnown interfaces) trace (all_known _ trace (record { active = main; waiting = tt }) is)
