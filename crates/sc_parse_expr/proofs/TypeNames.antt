-- Types are read exactly as they are spelled.
use Rattle.sc_parse_expr.proofs.Common.{BaseTree, IsKeyword, IsMark, Keyword, Lexeme, List, Mark, Option, Some}
use Rattle.sc_parse_expr.proofs.Common.{SpellsBase, SpellsStars, SpellsTypeName, TypeName, [], ap, append_assoc, arith}
use Rattle.sc_parse_expr.proofs.Common.{base_at, following, type_in_parens}
use Rattle.sc_parse_expr.proofs.Common.{base_by, begins_with, cond_both, drop, false, false_from_ne_true, false≢true}
use Rattle.sc_parse_expr.proofs.Common.{int, is_int, is_mark, keyword_at, name_at, none, none-some, one-add, past_int}
use Rattle.sc_parse_expr.proofs.Common.{refl, signed, signed_int, star, star_count, struct, subst, suc, sym, true}
use Rattle.sc_parse_expr.proofs.Common.{type_name, type_name_at, unsigned, unsigned_int, ℕ, ◌++◌, ◌+◌, ◌∙◌, ◌∷◌, ◌≡◌}
use Rattle.sc_ast.specs.declared.types.BaseTree.TheVariants as base
use Rattle.sc_parse_expr.specs.declared.mark.Keyword.TheVariants as word
use Rattle.sc_parse_expr.specs.declared.mark.Mark.TheVariants as mark
use Rattle.sc_parse_expr.proofs.Ahead.{bound, first_mark, glued, name_ahead}
use Rattle.sc_parse_expr.proofs.Taken.{Any, Complete, Exact, Sound, Taken, same_pair, took, word_ahead}

is_int_word : (o : Option Keyword) → is_int o ≡ true → o ≡ Some word.Int
is_int_word (Some word.Int) h = refl
is_int_word _ h = absurd (false≢true h)

abbrev pub NoInt : List Lexeme → Type 0
NoInt rest = is_int (keyword_at rest) ≡ false

-- a word, and an `int` that may follow it
sign_taken : (ts rest : List Lexeme) (sign : Keyword) (value x : BaseTree) → keyword_at ts ≡ Some sign →
    ((t : Lexeme) → IsKeyword sign t → SpellsBase (t ∷ []) value) →
    ((t u : Lexeme) → IsKeyword sign t → IsKeyword word.Int u → SpellsBase (t ∷ u ∷ []) value) →
    ◌≡◌ {A = Option (BaseTree × List Lexeme)} (Some (value, past_int (drop 1 ts))) (Some (x, rest)) →
    Taken SpellsBase ts x rest
sign_taken ts rest sign value x q lone_if both h =
    let first = word_ahead ts sign q in
    cond_both (is_int (keyword_at (drop 1 ts))) _ _
    (λ l. ◌≡◌ {A = Option (BaseTree × List Lexeme)} (Some (value, l)) (Some (x, rest)) → Taken SpellsBase ts x rest)
    (λ e k. let second = word_ahead (drop 1 ts) word.Int (is_int_word _ e) in
    took (first.first ∷ second.first ∷ []) k (first.is ∙ ap (λ l. first.first ∷ l) second.is)
    (both first.first second.first first.keyword second.keyword))
    (λ e k. took (first.first ∷ []) k first.is (lone_if first.first first.keyword)) h

base_sound : Sound SpellsBase base_at
unfolding base_at
base_sound ts rest x h = go (keyword_at ts) refl h
  where
    go : (o : Option Keyword) → keyword_at ts ≡ o → base_by o (drop 1 ts) ≡ Some (x, rest) → Taken SpellsBase ts x rest
    go (Some word.Int) q e =
        let first = word_ahead ts word.Int q in
        took (first.first ∷ []) e first.is (int first.first first.keyword)
    go (Some word.Signed) q e = sign_taken ts rest word.Signed base.Int x q signed signed_int e
    go (Some word.Unsigned) q e = sign_taken ts rest word.Unsigned base.Unsigned x q unsigned unsigned_int e
    go (Some word.Struct) q e =
        let first = word_ahead ts word.Struct q in
        let b = bound (λ x. Some (base.Struct x.0, x.1)) (name_at (drop 1 ts)) (x, rest) e in
        let tag = name_ahead (drop 1 ts) b.0.1 b.0.0 b.1 in
        took (first.first ∷ tag.0 ∷ []) b.2 (first.is ∙ ap (λ l. first.first ∷ l) tag.1)
        (struct first.first tag.0 b.0.0 first.keyword tag.2)
    go _ q e = absurd (none-some (x, rest) e)

base_complete : Complete Any SpellsBase NoInt base_at
unfolding base_at
base_complete _ _ (int t p) rest fits h = rw p
base_complete _ _ (signed t p) rest fits h = rw (p, h)
base_complete _ _ (signed_int t u p q) rest fits h = rw (p, q)
base_complete _ _ (unsigned t p) rest fits h = rw (p, h)
base_complete _ _ (unsigned_int t u p q) rest fits h = rw (p, q)
base_complete _ _ (struct t u tag p q) rest fits h = rw (p, q)

pub base_exact : Exact Any SpellsBase NoInt base_at
base_exact = record { sound = base_sound; complete = base_complete }

abbrev pub NoStar : List Lexeme → Type 0
NoStar rest = begins_with mark.Star rest ≡ false

pub mark_is : (m : Mark) (t : Lexeme) → is_mark m t.symbol ≡ true → IsMark m t
mark_is m t h =
    let b = first_mark m (t ∷ []) [] (rw h) in
    let e = b.1 in
    let same : t ≡ b.0 = cc in
    subst (IsMark m) (sym same) b.2

-- another mark stands there
pub other_mark : (m other : Mark) (t : Lexeme) → IsMark other t → (other ≡ m → ⊥) → is_mark m t.symbol ≡ false
other_mark m other t p apart = false_from_ne_true _ (λ e.
    let is = sym p ∙ mark_is m t e in let same : other ≡ m = cc in apart same)

-- as many `*` as are counted
pub stars_ahead : (ts : List Lexeme) → Taken SpellsStars ts (star_count ts) (drop (star_count ts) ts)
unfolding star_count
stars_ahead [] = record { taken = []; split = refl; spelled = none }
stars_ahead (t ∷ ts) = let others = stars_ahead ts in
    cond_both (is_mark mark.Star t.symbol) _ _ (λ n. Taken SpellsStars (t ∷ ts) n (drop n (t ∷ ts)))
    (λ q. rw one-add (record {
      taken = t ∷ others.taken;
      split = ap (λ l. t ∷ l) others.split;
      spelled = subst (SpellsStars (t ∷ others.taken)) (omega arith) (star t (mark_is _ t q) others.spelled);
    })) (λ q. record { taken = []; split = refl; spelled = none })

pub stars_count : {ts : List Lexeme} {n : ℕ} (d : SpellsStars ts n) (rest : List Lexeme) → NoStar rest →
    (star_count (ts ++ rest) ≡ n) × (drop n (ts ++ rest) ≡ rest)
unfolding star_count
stars_count none [] h = (refl, refl)
stars_count none (t ∷ rest) h = (rw h, refl)
stars_count (star {ts = ts} {stars = n} t p d) rest h =
    let m = stars_count d rest h in
    (rw (p, m.0) (omega arith), let e : n + 1 ≡ suc n = omega arith in rw e m.1)

-- stars before lexemes that don't begin with `int` don't begin with it either
pub stars_no_int : {ts : List Lexeme} {n : ℕ} (d : SpellsStars ts n) (rest : List Lexeme) → NoInt rest →
    NoInt (ts ++ rest)
stars_no_int none rest h = h
stars_no_int (star t p d) rest h = rw p

abbrev pub NoType : List Lexeme → Type 0
NoType rest = NoInt rest × NoStar rest

pub type_name_exact : Exact Any SpellsTypeName NoType type_name_at
unfolding type_name_at
type_name_exact = record {
  sound = λ ts rest x h.
      let b = bound _ _ _ h in
      let first = base_sound ts b.0.1 b.0.0 b.1 in
      let stars = stars_ahead b.0.1 in
      took (first.taken ++ stars.taken) b.2 (glued (drop _ b.0.1) first.taken stars.taken first.split stars.split)
      (type_name first.spelled stars.spelled);
  complete = complete;
}
  where
    complete : Complete Any SpellsTypeName NoType type_name_at
    complete _ _ (type_name {ts = ts} {us = us} d g) rest fits h =
        let stars = stars_count g rest h.1 in
        ap type_name_at (append_assoc ts us rest)
        ∙ rw (base_complete _ _ d (us ++ rest) tt (stars_no_int g rest h.0), stars.0, stars.1)

-- What stands in parentheses is read with them.
pub record InParens (ts : List Lexeme) (ty : TypeName) (rest : List Lexeme) : Type 0 where
  pub opening : Lexeme
  pub closing : Lexeme
  pub taken : List Lexeme
  pub split : ts ≡ opening ∷ (taken ++ closing ∷ rest)
  pub opens : IsMark mark.OpenParen opening
  pub closes : IsMark mark.CloseParen closing
  pub spelled : SpellsTypeName taken ty

pub parens_sound : (ts rest : List Lexeme) (ty : TypeName) → type_in_parens ts ≡ Some (ty, rest) → InParens ts ty rest
unfolding type_in_parens
parens_sound ts rest ty h =
    let b = bound _ (following mark.OpenParen ts) _ h in
    let c = bound _ (type_name_at b.0) _ b.2 in
    let e = bound _ (following mark.CloseParen c.0.1) _ c.2 in
    let t = first_mark mark.OpenParen ts b.0 b.1 in
    let u = first_mark mark.CloseParen c.0.1 e.0 e.1 in
    let d = type_name_exact.sound b.0 c.0.1 c.0.0 c.1 in
    let same = same_pair e.2 in
    subst (InParens ts ty) same.1 (subst (λ x. InParens ts x e.0) same.0 (record {
      opening = t.0;
      closing = u.0;
      taken = d.taken;
      split = t.1 ∙ ap (λ l. t.0 ∷ l) (d.split ∙ ap (λ l. d.taken ++ l) u.1);
      opens = t.2;
      closes = u.2;
      spelled = d.spelled;
    }))

pub parens_complete : {ts : List Lexeme} {ty : TypeName} (t u : Lexeme) → IsMark mark.OpenParen t →
    IsMark mark.CloseParen u → SpellsTypeName ts ty → (rest : List Lexeme) →
    type_in_parens (t ∷ (ts ++ u ∷ rest)) ≡ Some (ty, rest)
unfolding type_in_parens
parens_complete {ts} {ty} t u p q d rest =
    let named = type_name_exact.complete ts ty d (u ∷ rest) tt (rw q, rw q) in
    rw (p, named, q)
