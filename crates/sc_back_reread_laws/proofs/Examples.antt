-- A compartment that can perform, and the text by which it does.
use Rattle.sc_back_reread_laws.proofs.Common.{All-from_recursion, CanPerform, Interface, Interfaces, IsCalled}
use Rattle.sc_back_reread_laws.proofs.Common.{IsImported, IsReadAs, IsSpoken, IsWord, List, None, Proto, Row, Some, []}
use Rattle.sc_back_reread_laws.proofs.Common.{arith, back_text, back_tree, codes, is_name, is_reserved, refl, ◌∷◌}
use Rattle.sc_event.specs.declared.interface.Import.TheVariants as import
use Rattle.sc_event.specs.declared.interface.Scalar.TheVariants.{Int}
use Rattle.sc_event.specs.declared.row.Action.TheVariants.{Call, End}
use Rattle.sc_event.specs.declared.row.Entry.TheVariants.{Main}
use Rattle.sc_back_reread_laws.proofs.Reading.{performing_texts}

abbrev get : Proto
get = record { name = codes "get"; params = Int ∷ []; result = Some Int }

abbrev first : Interface
first = record { name = codes "A"; exports = get ∷ []; imports = import.Function 1 0 ∷ import.Output ∷ [] }

abbrev second : Interface
second = record { name = codes "B"; exports = get ∷ []; imports = [] }

abbrev both : Interfaces
both = record { comps = first ∷ second ∷ []; main = 0 }

abbrev rows : List Row
rows =
    record { entry = Main; number = 0; action = Call 1 0 (2147483648 ∷ []) } ∷
    record { entry = Main; number = 1; action = End 4294967295 } ∷ []

get_called : IsCalled get
unfolding is_name is_reserved
get_called = record { name = refl; few = omega arith }

output_called : IsCalled (record { name = codes "output"; params = Int ∷ []; result = None })
unfolding is_name is_reserved
output_called = record { name = refl; few = omega arith }

can : CanPerform both rows first
unfolding is_name
can = record {
  name = refl;
  exports = All-from_recursion IsCalled (get ∷ []) (get_called, tt);
  imports = All-from_recursion (IsImported both) first.imports (
    record { f = get; is = refl; called = get_called; owner = refl },
    (
      record {
        f = record { name = codes "output"; params = Int ∷ []; result = None };
        is = refl;
        called = output_called;
        owner = refl;
      },
      tt,
    ),
  );
  actions = All-from_recursion (λ row. IsSpoken both row.action) rows (
    (All-from_recursion IsWord (2147483648 ∷ []) (omega arith, tt), (get, refl, get_called)),
    (omega arith, tt),
  );
  numbered = (refl, omega arith, (refl, omega arith, tt));
}

is_read : IsReadAs (back_text both 0 rows) (back_tree both 0 rows first)
is_read = performing_texts both 0 rows first refl can
