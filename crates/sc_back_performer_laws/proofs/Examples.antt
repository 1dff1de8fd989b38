-- A compartment whose section can perform: it is entered again while a call of it waits.
use Rattle.sc_back_performer_laws.proofs.Common.{Action, All-from_recursion, AllByRecursion, Export, FitsRow, Int}
use Rattle.sc_back_performer_laws.proofs.Common.{Interface, Interfaces, IsPerformer, IsUsable, IsWord, List, Main}
use Rattle.sc_back_performer_laws.proofs.Common.{MayDo, None, Proto, Row, Some, [], all_of, arith, back_tree, codes}
use Rattle.sc_back_performer_laws.proofs.Common.{main_proto, refl, subst, ◌∷◌, ◌≡◌}
use Rattle.sc_types_scope.specs.Prelude.{section_name_lines}
use Rattle.sc_event.specs.declared.interface.Import.TheVariants as import
use Rattle.sc_event.specs.declared.row.Action.TheVariants.{Call, Ret, Out, End}
use Rattle.sc_back_performer_laws.proofs.NamesKept.{names_hold}

abbrev f : Proto
f = record { name = codes "f"; params = Int ∷ []; result = Some Int }

abbrev h : Proto
h = record { name = codes "h"; params = Int ∷ []; result = None }

-- `A` has the exports `f` and `h` and imports `g` of `B` and `output`
abbrev both : Interface
both = record {
  name = codes "A";
  exports = f ∷ h ∷ [];
  imports = import.Function 1 0 ∷ import.Output ∷ [];
}

abbrev other : Interface
other = record {
  name = codes "B";
  exports = record { name = codes "g"; params = Int ∷ []; result = Some Int } ∷ [];
  imports = import.Function 0 1 ∷ [];
}

abbrev interfaces : Interfaces
interfaces = record { comps = both ∷ other ∷ []; main = 0 }

abbrev rows : List Row
rows =
    record { entry = Export 0; number = 0; action = Call 1 0 (5 ∷ []) } ∷
    record { entry = Export 1; number = 1; action = Ret None } ∷
    record { entry = Export 0; number = 2; action = Ret (Some 22) } ∷
    record { entry = Main; number = 3; action = Out 7 } ∷
    record { entry = Main; number = 4; action = End 4294967291 } ∷ []

-- what holds of the function of an entry
of_entry : (P : Proto → Type 0) (f : Proto) → P f → (proto : Proto) → Some f ≡ Some proto → P proto
of_entry P f holds proto e = let same : f ≡ proto = cc in subst P same holds

abbrev may_do : Action → Proto → Type 0
may_do action proto = MayDo interfaces 0 proto.result action

usable : AllByRecursion IsUsable (all_of interfaces 0 both)
usable = (
  record { plain = refl; few = omega arith },
  (
    record { plain = refl; few = omega arith },
    (
      record { plain = refl; few = omega arith },
      (record { plain = refl; few = omega arith }, (record { plain = refl; few = omega arith }, tt)),
    ),
  ),
)

fitting : AllByRecursion (FitsRow interfaces 0) rows
fitting = (
  record {
    numbered = omega arith;
    may = of_entry (may_do (Call 1 0 (5 ∷ []))) f (refl, refl, All-from_recursion IsWord (5 ∷ []) (omega arith, tt));
  },
  (
    record { numbered = omega arith; may = of_entry (may_do (Ret None)) h (refl, tt) },
    (
      record { numbered = omega arith; may = of_entry (may_do (Ret (Some 22))) f (refl, omega arith) },
      (
        record { numbered = omega arith; may = of_entry (may_do (Out 7)) main_proto (refl, omega arith) },
        (
          record { numbered = omega arith; may = of_entry (may_do (End 4294967291)) main_proto (refl, omega arith) },
          tt,
        ),
      ),
    ),
  ),
)

performs : IsPerformer interfaces 0 rows both
performs = record {
  there = refl;
  distinct = refl;
  usable = All-from_recursion IsUsable (all_of interfaces 0 both) usable;
  few_exports = omega arith;
  few_imports = omega arith;
  few_rows = omega arith;
  rows_fit = All-from_recursion (FitsRow interfaces 0) rows fitting;
}

-- so the tree of its section breaks no rule of names
names_kept : section_name_lines (back_tree interfaces 0 rows both) ≡ []
names_kept = names_hold interfaces 0 rows both (back_tree interfaces 0 rows both) performs refl
