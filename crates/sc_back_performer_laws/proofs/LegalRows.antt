-- The rows of a part of a legal trace are such as a section can perform.
use Rattle.sc_back_performer_laws.proofs.Common.{Activation, All-from_recursion, AllByRecursion, Bool, Call, End, Entry}
use Rattle.sc_back_performer_laws.proofs.Common.{Event, Export, FitsRow, HasWords, In, Int, Interfaces, IsWordOrNone}
use Rattle.sc_back_performer_laws.proofs.Common.{LegalRowsFit, List, Main, MayDo, None, Option, Out, Proto, Ret, Some}
use Rattle.sc_back_performer_laws.proofs.Common.{Standing, [], action_of, and_parts, ap, arith, at_start, awaits}
use Rattle.sc_back_performer_laws.proofs.Common.{eqb-true, false, false≢true, fits_result, if◌then◌else◌, imports}
use Rattle.sc_back_performer_laws.proofs.Common.{is_allowed, is_function, is_legal_from, is_outermost, length}
use Rattle.sc_back_performer_laws.proofs.Common.{may_perform, may_return, none-some, option_map_or, performer, proto_of}
use Rattle.sc_back_performer_laws.proofs.Common.{recursion_from_All, refl, resumed, rows_from, stands_after, subst, suc}
use Rattle.sc_back_performer_laws.proofs.Common.{sym, takes, true, ℕ, ◌+◌, ◌==◌, ◌∙◌, ◌∷◌, ◌≡◌, ◌≤◌}
use Rattle.sc_back_replay_laws.specs.Replay.{main_proto}

-- The first of the functions that wait is `main`.

abbrev IsRooted : Entry → List Activation → Type 0
IsRooted entry [] = entry ≡ Main
IsRooted entry (latest ∷ earlier) = IsRooted latest.entry earlier

abbrev IsRootedThere : Option Standing → Type 0
IsRootedThere None = Unit {0}
IsRootedThere (Some at) = IsRooted at.active.entry at.waiting

rooted_after : (at : Standing) (event : Event) → IsRooted at.active.entry at.waiting →
    IsRootedThere (stands_after at event)
rooted_after at (Call from to index args) h = h
rooted_after at (Ret from to value) h = by at.waiting h where
  by : (waiting : List Activation) → IsRooted at.active.entry waiting → IsRootedThere (resumed waiting)
  by [] h = tt
  by (latest ∷ earlier) h = h
rooted_after at (Out comp value) h = h
rooted_after at (In comp value) h = h
rooted_after at (End comp value) h = tt

outermost : (entry : Entry) (waiting : List Activation) → IsRooted entry waiting → is_outermost waiting ≡ true →
    entry ≡ Main
outermost entry [] h o = h
outermost entry (latest ∷ earlier) h o = absurd (false≢true o)

module _ (interfaces : Interfaces) where
  returns_fit : (comp : ℕ) (entry : Entry) (value : Option ℕ) → may_return interfaces comp entry value ≡ true →
      (proto : Proto) → proto_of interfaces comp entry ≡ Some proto → fits_result proto.result value ≡ true
  returns_fit comp Main value h proto named = absurd (false≢true h)
  returns_fit comp (Export index) value h proto named =
      subst (λ o. option_map_or (λ found. fits_result found.result value) o false ≡ true) named h

  main_result : (b : Bool) (proto : Proto) → (if b then Some main_proto else None) ≡ Some proto →
      proto.result ≡ Some Int
  main_result true proto h = let same : main_proto ≡ proto = cc in ap (λ f. f.result) (sym same)
  main_result false proto h = absurd (none-some proto h)

  ends_fit : (comp : ℕ) (entry : Entry) → entry ≡ Main → (proto : Proto) →
      proto_of interfaces comp entry ≡ Some proto → proto.result ≡ Some Int
  ends_fit comp entry e proto named =
      main_result (comp == interfaces.main) proto (ap (proto_of interfaces comp) (sym e) ∙ named)

  some_word : (value : Option ℕ) (from to : ℕ) → HasWords (Ret from to value) → IsWordOrNone value
  some_word None from to h = tt
  some_word (Some word) from to h = h

  may_do : (at : Standing) (event : Event) → IsRooted at.active.entry at.waiting →
      may_perform interfaces at event ≡ true → HasWords event → (proto : Proto) →
      proto_of interfaces (performer event) at.active.entry ≡ Some proto →
      MayDo interfaces (performer event) proto.result (action_of event)
  may_do at (Call from to index args) rooted may words proto named =
      let parts = and_parts (imports interfaces from (is_function to index))
      (takes interfaces to index (length args)) may in
      (parts.0, parts.1, words)
  may_do at (Ret from to value) rooted may words proto named = (
    returns_fit from at.active.entry value
        (and_parts (awaits at.waiting to) (may_return interfaces from at.active.entry value) may).1 proto named,
    some_word value from to words,
  )
  may_do at (Out comp value) rooted may words proto named = (may, words)
  may_do at (In comp value) rooted may words proto named = may
  may_do at (End comp value) rooted may words proto named =
      (ends_fit comp at.active.entry (outermost at.active.entry at.waiting rooted may) proto named, words)

  rows_may : (comp number : ℕ) (at : Option Standing) (trace : List Event) → IsRootedThere at →
      is_legal_from interfaces at trace ≡ true → AllByRecursion HasWords trace → number + length trace ≤ 4096 →
      AllByRecursion (FitsRow interfaces comp) (rows_from comp number at trace)
  rows_may comp number at [] rooted is words few = tt
  rows_may comp number None (event ∷ later) rooted is words few = tt
  rows_may comp number (Some at) (event ∷ later) rooted is words few =
      let parts = and_parts (is_allowed interfaces at event)
      (is_legal_from interfaces (stands_after at event) later) is in
      let allowed = and_parts (performer event == at.active.comp) (may_perform interfaces at event) parts.0 in
      let next = rooted_after at event rooted in
      by (may_do at event rooted allowed.1 words.0) (performer event == comp) refl
      (rows_may comp (suc number) (stands_after at event) later next parts.1 words.1 (omega (arith, few)))
      (rows_may comp number (stands_after at event) later next parts.1 words.1 (omega (arith, few))) where
        by : ((proto : Proto) → proto_of interfaces (performer event) at.active.entry ≡ Some proto →
            MayDo interfaces (performer event) proto.result (action_of event)) → (mine : Bool) →
            (performer event == comp) ≡ mine →
            AllByRecursion (FitsRow interfaces comp) (rows_from comp (suc number) (stands_after at event) later) →
            AllByRecursion (FitsRow interfaces comp) (rows_from comp number (stands_after at event) later) →
            AllByRecursion (FitsRow interfaces comp)
            (if mine then record { entry = at.active.entry; number = number; action = action_of event } ∷
            rows_from comp (suc number) (stands_after at event) later
            else rows_from comp number (stands_after at event) later)
        by may true own more less = (
          record {
            numbered = omega (arith, few);
            may = subst (λ c. (proto : Proto) → proto_of interfaces c at.active.entry ≡ Some proto →
                MayDo interfaces c proto.result (action_of event)) (eqb-true (performer event) comp own) may;
          },
          more,
        )
        by may false other more less = less

-- a part is no longer than its trace

part_length : (comp number : ℕ) (at : Option Standing) (trace : List Event) →
    length (rows_from comp number at trace) ≤ length trace
part_length comp number at [] = omega arith
part_length comp number None (event ∷ later) = omega arith
part_length comp number (Some at) (event ∷ later) =
    by (performer event == comp) (part_length comp (suc number) (stands_after at event) later)
    (part_length comp number (stands_after at event) later) where
      by : (mine : Bool) →
          length (rows_from comp (suc number) (stands_after at event) later) ≤ length later →
          length (rows_from comp number (stands_after at event) later) ≤ length later →
          length (if mine then record { entry = at.active.entry; number = number; action = action_of event } ∷
          rows_from comp (suc number) (stands_after at event) later
          else rows_from comp number (stands_after at event) later) ≤ suc (length later)
      by true more less = omega (arith, more)
      by false more less = omega (arith, less)

pub legal_rows_fit : LegalRowsFit
legal_rows_fit interfaces trace comp is words few = (
  All-from_recursion (FitsRow interfaces comp) _ (rows_may interfaces comp 0 (at_start interfaces.main) trace refl is
      (recursion_from_All HasWords trace words) (omega (arith, few))),
  (let within = part_length comp 0 (at_start interfaces.main) trace in omega (arith, within, few)),
)
