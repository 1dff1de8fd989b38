-- The operators and punctuators of C that this language has as tokens.
use Rattle.std.specs.Prelude.{ℕ, Bool, codes, bytes_eq, List, [], ◌∷◌}
use Rattle.std.specs.List.{list_any}

-- the operators and punctuators of C11 6.4.6 that the language has
abbrev pub marks : List (List ℕ)
marks =
    codes "+" ∷ codes "-" ∷ codes "*" ∷ codes "/" ∷ codes "%" ∷ codes "<<" ∷ codes ">>" ∷ codes "<" ∷ codes ">" ∷
    codes "<=" ∷ codes ">=" ∷ codes "==" ∷ codes "!=" ∷ codes "&" ∷ codes "^" ∷ codes "|" ∷ codes "&&" ∷ codes "||" ∷
    codes "!" ∷ codes "~" ∷ codes "=" ∷ codes "+=" ∷ codes "-=" ∷ codes "*=" ∷ codes "/=" ∷ codes "%=" ∷ codes "<<=" ∷
    codes ">>=" ∷ codes "&=" ∷ codes "^=" ∷ codes "|=" ∷ codes "++" ∷ codes "--" ∷ codes "." ∷ codes "->" ∷
    codes "(" ∷ codes ")" ∷ codes "[" ∷ codes "]" ∷ codes "{" ∷ codes "}" ∷ codes "," ∷ codes ";" ∷ []

unfoldable pub is_mark : List ℕ → Bool
is_mark text = list_any (λ mark. bytes_eq text mark) marks
