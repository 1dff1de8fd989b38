-- The sections of a text, where those of some compartments are replaced.
use Rattle.std.specs.Prelude.{ℕ, suc, List, [], ◌∷◌, Option, None, Some}

abbrev pub new_text : (replaced : Option (List ℕ)) → (old : List ℕ) → List ℕ
new_text None old = old
new_text (Some text) old = text

-- those from the compartment of this number on
abbrev pub new_texts : (replace : ℕ → Option (List ℕ)) → (comp : ℕ) → List (List ℕ) → List (List ℕ)
new_texts replace comp [] = []
new_texts replace comp (old ∷ olds) = new_text (replace comp) old ∷ new_texts replace (suc comp) olds
