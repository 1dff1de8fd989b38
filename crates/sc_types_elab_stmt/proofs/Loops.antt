-- Loops that push what is made of each item of a list.
use Rattle.sc_types_elab_stmt.proofs.Common.{List, [], ap, append-nil, append_assoc, sym, ◌++◌, ◌∙◌, ◌∷◌, ◌≡◌}

-- one more item is done
pub one_more : {B : Type 0} (done more left rest whole : List B) (x : B) → more ≡ done ++ x ∷ [] → left ≡ x ∷ rest →
    done ++ left ≡ whole → more ++ rest ≡ whole
one_more done more left rest whole x e h i =
    ap (λ m. m ++ rest) e ∙ append_assoc done (x ∷ []) rest ∙ ap (λ l. done ++ l) (sym h) ∙ i

-- all are done
pub all_done : {B : Type 0} (done left whole : List B) → left ≡ [] → done ++ left ≡ whole → done ≡ whole
all_done done left whole h i = sym (append-nil done) ∙ ap (λ l. done ++ l) (sym h) ∙ i
