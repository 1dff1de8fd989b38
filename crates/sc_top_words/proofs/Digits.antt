-- Lists cut at their commas.
use Rattle.sc_top_words.proofs.Common.{Bool, Err, List, None, Ok, OkIff, Option, Result, Some, [], after_first}
use Rattle.sc_top_words.proofs.Common.{all_ascii_digits, and_parts, ap, append_assoc, ap₂, arith, cond, eq-eqb}
use Rattle.sc_top_words.proofs.Common.{eqb-true, false, first_piece, get_or, inl, inr, integer, integer_list, integers}
use Rattle.sc_top_words.proofs.Common.{is_comma, le-leb, leb-true, length, list_any, lt-leb, lt-ltb, ltb-true, nat_le}
use Rattle.sc_top_words.proofs.Common.{nat_lt, neg_ℤ, number_within, onto_first, option_and_then, option_map, or_parts}
use Rattle.sc_top_words.proofs.Common.{pieces, pieces_after, pos, position_or_len, prepended, refl, slice_index, suc}
use Rattle.sc_top_words.proofs.Common.{sym, true, true≢false, w32, when_within, ℕ, ℤ, ◌&&◌, ◌++◌, ◌+◌, ◌<◌, ◌==◌, ◌||◌}
use Rattle.sc_top_words.proofs.Common.{◌∙◌, ◌∷◌, ◌≡◌, ◌≢◌, ◌≤◌, ◌⊎◌}
use Rattle.std.specs.Result.{result_ok}
use Rattle.std.specs.Str.Parse.{ParsesSigned, ParsesUnsigned, digits_value}
use Rattle.std.proofs.lemmas.Iterator.Adapters.{option_map_id}
use Rattle.std.proofs.lemmas.Str.Parse.{IsNumeralModel, numerals_by_value, parse_plain, parse_signed_minus}
use Rattle.std.proofs.lemmas.Str.Parse.{parse_signed_plain, tells_all_ascii_digits}

-- ---- the pieces of a list

module _ (b : ℕ) (rest : List ℕ) where
  first_past : is_comma b ≡ false → first_piece (b ∷ rest) ≡ b ∷ first_piece rest
  first_past e =
      let one : 1 + position_or_len is_comma rest ≡ suc (position_or_len is_comma rest) = omega arith in
      rw (e, one) refl

  after_past : is_comma b ≡ false → after_first is_comma (b ∷ rest) ≡ after_first is_comma rest
  after_past e =
      let one : 1 + position_or_len is_comma rest + 1 ≡ suc (position_or_len is_comma rest + 1) = omega arith in
      rw (e, one) refl

none_passes : (text : List ℕ) → position_or_len is_comma text ≡ length text → list_any is_comma text ≡ false
none_passes [] e = refl
none_passes (b ∷ rest) e = go (is_comma b) refl (none_passes rest)
  where
    go : (x : Bool) → is_comma b ≡ x → (position_or_len is_comma rest ≡ length rest → list_any is_comma rest ≡ false) →
        (is_comma b || list_any is_comma rest) ≡ false
    go true is later =
        let none : 0 ≡ length (b ∷ rest) = rw is at e in
        absurd (omega arith)
    go false is later =
        let more : 1 + position_or_len is_comma rest ≡ length (b ∷ rest) = rw is at e in
        rw is (later (omega arith))

pub no_comma : (text : List ℕ) → position_or_len is_comma text ≡ length text → None ≡ pieces_after text
no_comma text e = sym (ap (λ b. cond b (Some (after_first is_comma text)) None) (none_passes text e))

one_piece : (text : List ℕ) → list_any is_comma text ≡ false → pieces text ≡ first_piece text ∷ []
unfolding pieces
one_piece [] e = refl
one_piece (b ∷ rest) e =
    let parts = or_parts (is_comma b) _ e in
    let step : pieces (b ∷ rest) ≡ onto_first b (pieces rest) = rw parts.0 refl in
    step ∙ (ap (onto_first b) (one_piece rest parts.1) ∙ ap (λ x. x ∷ []) (sym (first_past b rest parts.0)))

more_pieces : (text : List ℕ) → list_any is_comma text ≡ true →
    pieces text ≡ first_piece text ∷ pieces (after_first is_comma text)
unfolding pieces
more_pieces [] e = absurd (true≢false (sym e))
more_pieces (b ∷ rest) e = go (is_comma b) refl (more_pieces rest)
  where
    go : (x : Bool) → is_comma b ≡ x → (list_any is_comma rest ≡ true →
        pieces rest ≡ first_piece rest ∷ pieces (after_first is_comma rest))
        → pieces (b ∷ rest) ≡ first_piece (b ∷ rest) ∷ pieces (after_first is_comma (b ∷ rest))
    go true is later = rw is refl
    go false is later =
        let step : pieces (b ∷ rest) ≡ onto_first b (pieces rest) = rw is refl in
        step ∙ (ap (onto_first b) (later (rw is at e)) ∙
        ap₂ (λ x y. x ∷ pieces y) (sym (first_past b rest is)) (sym (after_past b rest is)))

-- ---- a list that is read piece by piece

-- the first `count` pieces of the text are read as the integers `done`, and `left` is left of it
pub record IsReadUpTo (text : List ℕ) (count : ℕ) (done : List ℤ) (left : List ℕ) : Type 0 where
  pub values : integers (pieces text) ≡ option_map (λ xs. done ++ xs) (integers (pieces left))
  pub pieces : length (pieces text) ≡ count + length (pieces left)

-- the pieces that are left
pub cut : (left : List ℕ) → ((pieces_after left ≡ None) × (pieces left ≡ first_piece left ∷ []))
    ⊎ ((following : List ℕ) × (pieces_after left ≡ Some following) ×
    (pieces left ≡ first_piece left ∷ pieces following))
cut left = go _ refl
  where
    go : (b : Bool) → list_any is_comma left ≡ b → ((cond b (Some (after_first is_comma left)) None ≡ None) ×
        (pieces left ≡ first_piece left ∷ []))
        ⊎ ((following : List ℕ) × (cond b (Some (after_first is_comma left)) None ≡ Some following) ×
        (pieces left ≡ first_piece left ∷ pieces following))
    go true e = inr (after_first _ left, refl, more_pieces left e)
    go false e = inl (refl, one_piece left e)

none_or_not : (b : Bool) (o : Option (List ℤ)) → o ≡ None → cond b o None ≡ None
none_or_not true o e = e
none_or_not false o e = refl

pub refused : (text : List ℕ) (count : ℕ) (done : List ℤ) (left : List ℕ) → IsReadUpTo text count done left →
    integer (first_piece left) ≡ None → integer_list text ≡ None
unfolding integers
refused text count done left is bad = none_or_not _ _ (is.values ∙ ap (option_map (λ xs. done ++ xs)) none)
  where
    first_bad : (o : Option (List ℤ)) → prepended (integer (first_piece left)) o ≡ None
    first_bad o = ap (λ x. prepended x o) bad

    none : integers (pieces left) ≡ None
    none = elim (cut left) [
      | inl c ↦ ap integers c.1 ∙ first_bad (Some [])
      | inr c ↦ ap integers c.2 ∙ first_bad (integers (pieces c.0))
    ]

pub ends : (text : List ℕ) (count : ℕ) (done : List ℤ) (left : List ℕ) (last : ℤ) → IsReadUpTo text count done left →
    count < 65536
    → integer (first_piece left) ≡ Some last → pieces_after left ≡ None → integer_list text ≡ Some (done ++ last ∷ [])
unfolding integers
ends text count done left last is few good none = elim (cut left) [
  | inl c ↦
      let one = ap length c.1 in
      let within : length (pieces text) ≤ 65536 = omega (arith, is.pieces) in
      let all =
      is.values ∙ ap (option_map (λ xs. done ++ xs)) (ap integers c.1 ∙ ap (λ x. prepended x (Some [])) good) in
      rw (le-leb _ 65536 within) all
  | inr c ↦
      let bad = sym none ∙ c.1 in
      cc
]

pub goes_on : (text : List ℕ) (count : ℕ) (done : List ℤ) (left : List ℕ) (next : ℤ) (following : List ℕ) →
    IsReadUpTo text count done left → integer (first_piece left) ≡ Some next → pieces_after left ≡ Some following →
    IsReadUpTo text (count + 1) (done ++ next ∷ []) following
unfolding integers
goes_on text count done left next following is good some = elim (cut left) [
  | inl c ↦
      let bad : None ≡ Some following = sym c.0 ∙ some in
      cc
  | inr c ↦
      let same_some : Some c.0 ≡ Some following = sym c.1 ∙ some in
      let same : c.0 ≡ following = cc in
      let parts : pieces left ≡ first_piece left ∷ pieces following = c.2 ∙
      ap (λ x. first_piece left ∷ pieces x) same in
      let more : length (pieces left) ≡ suc _ = ap length parts in
      record {
        values = is.values ∙ (ap (option_map (λ xs. done ++ xs))
            (ap integers parts ∙ ap (λ o. prepended o (integers (pieces following))) good)
            ∙ joined (integers (pieces following)));
        pieces = omega (arith, is.pieces);
      }
]
  where
    joined : (o : Option (List ℤ)) → option_map (λ xs. done ++ xs) (prepended (Some next) o) ≡
        option_map (λ xs. (done ++ next ∷ []) ++ xs) o
    joined None = refl
    joined (Some xs) = ap Some (sym (append_assoc done _ xs))

pub too_long : (text : List ℕ) (count : ℕ) (done : List ℤ) (left : List ℕ) → IsReadUpTo text count done left →
    65536 ≤ count → integer_list text ≡ None
too_long text count done left is many = elim (cut left) [
  | inl c ↦ over (ap length c.1)
  | inr c ↦ over (ap length c.2)
]
  where
    over : {n : ℕ} → length (pieces left) ≡ suc n → integer_list text ≡ None
    over {n} e =
        let more : 65536 < length (pieces text) = omega (arith, is.pieces) in
        rw (lt-leb _ 65536 more) refl
