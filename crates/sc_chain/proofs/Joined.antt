-- Sections one after another.
use Rattle.sc_chain.proofs.Common.{List, Option, ap, append-nil, at_drop_all, concat, drop, length, new_texts, sym, ℕ}
use Rattle.sc_chain.proofs.Common.{◌++◌, ◌∙◌, ◌≡◌, ◌≤◌}

-- the sections from this one on
abbrev pub rest_of : (replace : ℕ → Option (List ℕ)) → (number : ℕ) → List (List ℕ) → List ℕ
rest_of replace number sections = concat (new_texts replace number (drop number sections))

-- after the last
pub ended : (replace : ℕ → Option (List ℕ)) (sections : List (List ℕ)) (number : ℕ) (text whole : List ℕ) →
    length sections ≤ number → text ++ rest_of replace number sections ≡ whole → text ≡ whole
ended replace sections number text whole past so_far =
    sym (ap (λ t. text ++ t) (at_drop_all (λ xs. concat (new_texts replace number xs)) sections number past) ∙
    append-nil text) ∙ so_far
