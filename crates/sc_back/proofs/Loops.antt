-- A text that grows by what each item of a list adds.
use Rattle.sc_back.proofs.Common.{Bool, Entry, Interface, Interfaces, List, Option, Row, Scalar, [], ap, append_assoc}
use Rattle.sc_back.proofs.Common.{codes, declarations_text, directives_text, drop, export_text, false, filter, flat_map}
use Rattle.sc_back.proofs.Common.{if◌then◌else◌, import_text, is_of, length, own_rows_text, refl, row_text}
use Rattle.sc_back.proofs.Common.{section_text, slice_index_or, sym, true, ℕ, ◌++◌, ◌+◌, ◌<◌, ◌∙◌, ◌∷◌, ◌≡◌}
use Rattle.std.proofs.lemmas.List.{at_drop_more}

-- one item further
pub stepped : {A : Type 0} (F : List A → List ℕ) (xs : List A) (i : ℕ) (x : A) (piece old new whole : List ℕ) →
    i < length xs → x ≡ slice_index_or xs i x → new ≡ old ++ piece →
    F (x ∷ drop (i + 1) xs) ≡ piece ++ F (drop (i + 1) xs) → old ++ F (drop i xs) ≡ whole →
    new ++ F (drop (i + 1) xs) ≡ whole
stepped F xs i x piece old new whole within is printed adds so_far =
    ap (λ n. n ++ F (drop (i + 1) xs)) printed ∙ append_assoc old piece (F (drop (i + 1) xs)) ∙
    ap (λ m. old ++ m) (sym (at_drop_more F xs i x within ∙ ap (λ y. F (y ∷ drop (i + 1) xs)) (sym is) ∙ adds)) ∙
    so_far

-- pieces one after another
pub three_pieces : (old a b c one two three : List ℕ) → one ≡ old ++ a → two ≡ one ++ b → three ≡ two ++ c →
    three ≡ old ++ (a ++ (b ++ c))
three_pieces old a b c one two three first second third =
    third ∙ ap (λ t. t ++ c) second ∙ append_assoc one b c ∙ ap (λ t. t ++ (b ++ c)) first ∙
    append_assoc old a (b ++ c)

pub four_pieces : (old a b c d one two three four : List ℕ) → one ≡ old ++ a → two ≡ one ++ b → three ≡ two ++ c →
    four ≡ three ++ d → four ≡ old ++ (a ++ (b ++ (c ++ d)))
four_pieces old a b c d one two three four first second third fourth =
    three_pieces old a b (c ++ d) one two four first second
    (fourth ∙ ap (λ t. t ++ d) third ∙ append_assoc two c d)

-- after a heading
pub headed : (old mark name end exports imports one two three : List ℕ) → one ≡ old ++ (mark ++ (name ++ end)) →
    two ≡ one ++ exports → three ≡ two ++ imports →
    three ≡ old ++ (mark ++ (name ++ (end ++ (exports ++ imports))))
headed old mark name end exports imports one two three first second third =
    three_pieces old (mark ++ (name ++ end)) exports imports one two three first second third ∙
    ap (λ t. old ++ t) (append_assoc mark (name ++ end) (exports ++ imports) ∙
    ap (λ t. mark ++ t) (append_assoc name end (exports ++ imports)))

-- rows that add nothing are left out
pub own_rows : (interfaces : Interfaces) (result : Option Scalar) (entry : Entry) (rows : List Row) →
    own_rows_text interfaces result entry rows ≡
    flat_map (row_text interfaces result) (filter (is_of entry) rows)
own_rows interfaces result entry [] = refl
own_rows interfaces result entry (row ∷ rows) =
    split (is_of entry row) (own_rows interfaces result entry rows) where
      split : (own : Bool) → own_rows_text interfaces result entry rows ≡
          flat_map (row_text interfaces result) (filter (is_of entry) rows) →
          (if own then row_text interfaces result row else []) ++ own_rows_text interfaces result entry rows ≡
          flat_map (row_text interfaces result)
          (if own then row ∷ filter (is_of entry) rows else filter (is_of entry) rows)
      split true h = ap (λ t. row_text interfaces result row ++ t) h
      split false h = h

-- the two parts of a section make it whole
pub whole_section : (interfaces : Interfaces) (comp : ℕ) (rows : List Row) (interface : Interface)
    (old one two : List ℕ) → one ≡ old ++ directives_text interfaces interface →
    two ≡ one ++ declarations_text interfaces comp rows interface →
    two ≡ old ++ section_text interfaces comp rows interface
whole_section interfaces comp rows interface old one two first second =
    let following : List ℕ = declarations_text interfaces comp rows interface in
    let exports : List ℕ = flat_map export_text interface.exports in
    let imports : List ℕ = flat_map (import_text interfaces) interface.imports in
    let mark : List ℕ = codes "#pragma compartment " in
    second ∙ ap (λ t. t ++ following) first ∙ append_assoc old (directives_text interfaces interface) following ∙
    ap (λ t. old ++ (mark ++ t)) (append_assoc interface.name (codes "\n" ++ (exports ++ imports)) following ∙
    ap (λ t. interface.name ++ (codes "\n" ++ t)) (append_assoc exports imports following))
