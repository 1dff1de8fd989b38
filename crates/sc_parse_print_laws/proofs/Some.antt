-- Lists with an item.
use Rattle.sc_parse_print_laws.proofs.Common.{Bool, List, [], arith, length, list_all, some_kept, true, ◌<◌, ◌∷◌, ◌≡◌}

pub some_from : {A : Type 0} (p : A → Bool) (xs : List A) → 0 < length xs → list_all p xs ≡ true → some_kept p xs ≡ true
some_from p [] some all = absurd (omega (arith, some))
some_from p (x ∷ xs) some all = all
