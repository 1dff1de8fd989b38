-- Declarators are read exactly as they are spelled.
use Rattle.sc_parse.proofs.Common.{BaseTree, Declarator, IsIdent, IsInteger, IsKeyword, IsMark, Keyword, Lexeme, List}
use Rattle.sc_parse.proofs.Common.{None, Number, Option, Some, SpellsBase, SpellsDeclarator, SpellsStars, Symbol, []}
use Rattle.sc_parse.proofs.Common.{ap, arith, array, array_length, begins_with, bound, declarator, declarator_at, drop}
use Rattle.sc_parse.proofs.Common.{elements_at, false, first_line, first_mark, following, glued, int, integer_by}
use Rattle.sc_parse.proofs.Common.{is_base, is_void, keyword_at, length, length_at, line_at, name_ahead, no_base}
use Rattle.sc_parse.proofs.Common.{none-some, plain, refl, same_some, signed, signed_int, true, type_of, unsigned}
use Rattle.sc_parse.proofs.Common.{unsigned_int, ℕ, ◌++◌, ◌<◌, ◌>>=◌, ◌∙◌, ◌∷◌, ◌≡◌}
use Rattle.sc_parse.specs.Types.{struct}
use Rattle.sc_parse_expr.specs.declared.mark.Mark.TheVariants as mark
use Rattle.sc_parse_expr.specs.declared.lexeme.Symbol.TheVariants as symbol
use Rattle.sc_parse.proofs.Exact.{Sound, given, same_pair, took}
pub use Rattle.sc_parse_expr.proofs.TypeNames.{NoInt, NoStar, NoType, base_exact, mark_is, other_mark, stars_ahead}
pub use Rattle.sc_parse_expr.proofs.TypeNames.{stars_count, stars_no_int, type_name_exact}

-- what a base begins with
pub record BaseStart (ts : List Lexeme) : Type 0 where
  pub some : 0 < length ts
  pub no_end : (rest : List Lexeme) → begins_with mark.CloseCurly (ts ++ rest) ≡ false
  pub no_void : (rest : List Lexeme) → is_void (keyword_at (ts ++ rest)) ≡ false
  pub no_line : (rest : List Lexeme) → line_at (ts ++ rest) ≡ None
  pub is_base : (rest : List Lexeme) → no_base (ts ++ rest) ≡ false
  pub line : (rest : List Lexeme) → first_line (ts ++ rest) ≡ first_line ts

base_word : (t : Lexeme) (ts : List Lexeme) (w : Keyword) → IsKeyword w t → is_void (Some w) ≡ false →
    is_base (Some w) ≡ true → BaseStart (t ∷ ts)
base_word t ts w p q r = record {
  some = omega arith;
  no_end = λ rest. rw p;
  no_void = λ rest. rw (p, q);
  no_line = λ rest. rw p;
  is_base = λ rest. rw (p, r);
  line = λ rest. refl;
}

pub base_start : {ts : List Lexeme} {base : BaseTree} → SpellsBase ts base → BaseStart ts
base_start (int t p) = base_word t [] _ p refl refl
base_start (signed t p) = base_word t [] _ p refl refl
base_start (signed_int t u p q) = base_word t _ _ p refl refl
base_start (unsigned t p) = base_word t [] _ p refl refl
base_start (unsigned_int t u p q) = base_word t _ _ p refl refl
base_start (struct t u tag p q) = base_word t _ _ p refl refl

pub integer_is : (s : Symbol) (number : Number) → integer_by s ≡ Some number → s ≡ symbol.Integer number
integer_is (symbol.Integer other) number h = ap (λ n. symbol.Integer n) (same_some h)
integer_is _ number h = absurd (none-some number h)

-- an integer at the start that may be a length
pub record Elements (ts rest : List Lexeme) (elements : ℕ) : Type 0 where
  pub first : Lexeme
  pub number : Number
  pub is : ts ≡ first ∷ rest
  pub integer : IsInteger number first
  pub fits : array_length number.value ≡ Some elements

elements_ahead : (ts rest : List Lexeme) (x : ℕ) → elements_at ts ≡ Some (x, rest) → Elements ts rest x
elements_ahead [] rest x h = absurd (none-some _ h)
elements_ahead (t ∷ ts) rest x h =
    let b = bound _ _ _ h in
    let c = bound _ _ _ b.2 in
    let same = same_pair c.2 in
    record {
      first = t;
      number = b.0;
      is = ap (λ l. t ∷ l) same.1;
      integer = integer_is _ b.0 b.1;
      fits = c.1 ∙ ap (λ n. Some n) same.0;
    }

-- What may follow the name in a declarator.
pub data IsLength : List Lexeme → Option ℕ → Type 0 where
  no_length : IsLength [] None
  in_brackets : (u v w : Lexeme) (number : Number) (elements : ℕ) → IsMark mark.OpenSquare u → IsInteger number v →
      IsMark mark.CloseSquare w → array_length number.value ≡ Some elements → IsLength (u ∷ v ∷ w ∷ []) (Some elements)

abbrev pub NoBracket : List Lexeme → Type 0
NoBracket rest = following mark.OpenSquare rest ≡ None

length_sound : Sound IsLength length_at
unfolding length_at
length_sound ts rest x h = given _ _ _ h (λ q e. took [] e refl no_length) (λ us q e.
    let u = first_mark mark.OpenSquare ts us q in
    let b = bound _ (elements_at us) (x, rest) e in
    let c = bound _ (following mark.CloseSquare b.0.1) (x, rest) b.2 in
    let v = elements_ahead us b.0.1 b.0.0 b.1 in
    let w = first_mark mark.CloseSquare b.0.1 c.0 c.1 in
    took (u.0 ∷ v.first ∷ w.0 ∷ []) c.2 (u.1 ∙ ap (λ l. u.0 ∷ l) (v.is ∙ ap (λ l. v.first ∷ l) w.1))
    (in_brackets u.0 v.first w.0 v.number b.0.0 u.2 v.integer w.2 v.fits))

length_complete : {ts : List Lexeme} {x : Option ℕ} (d : IsLength ts x) (rest : List Lexeme) → NoBracket rest →
    length_at (ts ++ rest) ≡ Some (x, rest)
unfolding length_at
length_complete no_length rest h = rw h
length_complete (in_brackets u v w number elements p q r k) rest h = rw (p, q, k, r)

-- a declarator, whatever base it follows
abbrev pub IsDeclarator : List Lexeme → Declarator → Type 0
IsDeclarator ts x = (base : BaseTree) → SpellsDeclarator base ts (type_of base x) x.name

with_length : {ts us : List Lexeme} {stars : ℕ} {elements : Option ℕ} (t : Lexeme) (name : List ℕ) → IsIdent name t →
    SpellsStars ts stars → IsLength us elements → IsDeclarator (ts ++ t ∷ us) (declarator stars name elements)
with_length t name p d no_length base = plain t name p d
with_length t name p d (in_brackets u v w number elements q r s k) base = array t u v w name number _ p q r s k d

pub declarator_sound : Sound IsDeclarator declarator_at
unfolding declarator_at
declarator_sound ts rest x h =
    let stars = stars_ahead ts in
    let b = bound (λ x. length_at x.1 >>= (λ y. Some _)) _ _ h in
    let c = bound (λ y. Some _) _ _ b.2 in
    let t = name_ahead (drop _ ts) b.0.1 b.0.0 b.1 in
    let l = length_sound b.0.1 c.0.1 c.0.0 c.1 in
    took (stars.taken ++ t.0 ∷ l.taken) c.2 (glued c.0.1 stars.taken (t.0 ∷ l.taken) stars.split
    (t.1 ∙ ap (λ r. t.0 ∷ r) l.split)) (with_length t.0 b.0.0 t.2 stars.spelled l.spelled)

pub declarator_reads : {ts us : List Lexeme} {stars : ℕ} {elements : Option ℕ} (t : Lexeme) (name : List ℕ)
    (p : IsIdent name t) (d : SpellsStars ts stars) (l : IsLength us elements) (rest : List Lexeme) → NoBracket rest →
    declarator_at (ts ++ t ∷ (us ++ rest)) ≡ Some (declarator stars name elements, rest)
unfolding declarator_at
declarator_reads {ts} {us} {stars} {elements} t name p d l rest h =
    let no_star : NoStar (t ∷ (us ++ rest)) = rw p in
    let counted = stars_count d (t ∷ (us ++ rest)) no_star in
    rw (counted.0, counted.1, p, length_complete l rest h)
