-- What the words of a directive are, one by one.
use Rattle.sc_lex.proofs.Common.{List, [], and-false, and-true, arith, bytes_eq, codes, false, get_or, is_empty}
use Rattle.sc_lex.proofs.Common.{is_export, is_import, is_name, length, ne_eqb, refl, sym, words, ℕ, ◌&&◌, ◌<◌, ◌∷◌}
use Rattle.sc_lex.proofs.Common.{◌≡◌}
use Rattle.sc_lex.proofs.Wording.{words_full}

not_empty : (word : List ℕ) → 0 < length word → is_empty word ≡ false
not_empty word h = ne_eqb _ 0 (λ none. absurd (omega arith))

export-words : (ws : List (List ℕ)) → (3 < length ws → 0 < length (get_or ws 3 [])) →
    is_export ws ≡ (bytes_eq (get_or ws 0 []) (codes "#pragma") && bytes_eq (get_or ws 1 []) (codes "export") &&
    is_name (get_or ws 2 []) && is_empty (get_or ws 3 []))
unfolding is_name
export-words [] full = refl
export-words (a ∷ []) full = simp and-false
export-words (a ∷ b ∷ []) full = simp and-false
export-words (a ∷ b ∷ c ∷ []) full = simp and-true
export-words (a ∷ b ∷ c ∷ d ∷ ws) full = let some = not_empty d (full (omega arith)) in
    rw some (sym (and-false _))

import-words : (ws : List (List ℕ)) → (4 < length ws → 0 < length (get_or ws 4 [])) →
    is_import ws ≡ (bytes_eq (get_or ws 0 []) (codes "#pragma") && bytes_eq (get_or ws 1 []) (codes "import") &&
    is_name (get_or ws 2 []) && is_name (get_or ws 3 []) && is_empty (get_or ws 4 []))
unfolding is_name
import-words [] full = refl
import-words (a ∷ []) full = simp and-false
import-words (a ∷ b ∷ []) full = simp and-false
import-words (a ∷ b ∷ c ∷ []) full = simp and-false
import-words (a ∷ b ∷ c ∷ d ∷ []) full = simp and-true
import-words (a ∷ b ∷ c ∷ d ∷ e ∷ ws) full = let some = not_empty e (full (omega arith)) in
    rw some (sym (and-false _))

pub is_export-at : (line : List ℕ) → is_export (words line) ≡
    (bytes_eq (get_or (words line) 0 []) (codes "#pragma") && bytes_eq (get_or (words line) 1 []) (codes "export") &&
    is_name (get_or (words line) 2 []) && is_empty (get_or (words line) 3 []))
is_export-at line = export-words (words line) (words_full line 3)

pub is_import-at : (line : List ℕ) → is_import (words line) ≡
    (bytes_eq (get_or (words line) 0 []) (codes "#pragma") && bytes_eq (get_or (words line) 1 []) (codes "import") &&
    is_name (get_or (words line) 2 []) && is_name (get_or (words line) 3 []) && is_empty (get_or (words line) 4 []))
is_import-at line = import-words (words line) (words_full line 4)

pub ruleset directives = (is_export-at, is_import-at)
