-- Brackets along lexemes that spell an expression: after them as many are open as before.
use Rattle.sc_parse_expr.proofs.Common.{BaseTree, BinaryOp, ExprTree, Lexeme, List, Mark, Prefix, Some, Spells}
use Rattle.sc_parse_expr.proofs.Common.{SpellsBase, SpellsStars, SpellsTypeName, Symbol, TypeName, [], ap, arith}
use Rattle.sc_parse_expr.proofs.Common.{arrow, binary_of, index, int, joined, literal, looser, max, member, most_open}
use Rattle.sc_parse_expr.proofs.Common.{none, open_after, parenthesised, prefix_of, refl, signed, signed_int, size_of}
use Rattle.sc_parse_expr.proofs.Common.{star, struct, type_name, unsigned, unsigned_int, variable, «prefix», ℕ}
use Rattle.sc_parse_expr.proofs.Common.{◌++◌, ◌+◌}
use Rattle.sc_parse_expr.proofs.Common.{◌-◌, ◌∷◌, ◌≡◌, ◌≤◌}
use Rattle.sc_parse_expr.specs.declared.mark.Mark.TheVariants as mark
use Rattle.sc_parse_expr.specs.declared.lexeme.Symbol.TheVariants as symbol

-- how many brackets are open after lexemes
abbrev pub open_along : ℕ → List Lexeme → ℕ
open_along n [] = n
open_along n (t ∷ ts) = open_along (open_after t.symbol n) ts

-- the lexeme is no bracket
abbrev pub IsPlain : Lexeme → Type 0
IsPlain t = (n : ℕ) → open_after t.symbol n ≡ n

abbrev pub Opens : Lexeme → Type 0
Opens t = (n : ℕ) → open_after t.symbol n ≡ n + 1

abbrev pub Closes : Lexeme → Type 0
Closes t = (n : ℕ) → open_after t.symbol n ≡ n - 1

pub says : (t : Lexeme) (s : Symbol) → t.symbol ≡ s → (n : ℕ) → open_after t.symbol n ≡ open_after s n
says t s is n = ap (λ x. open_after x n) is

-- no operator is a bracket
pub plain_binary : (t : Lexeme) (m : Mark) (op : BinaryOp) → t.symbol ≡ symbol.Mark m → binary_of m ≡ Some op →
    IsPlain t
plain_binary t mark.Plus op is of n = rw is
plain_binary t _ op is of n = rw is (cc)

pub plain_prefix : (t : Lexeme) (m : Mark) (p : Prefix) → t.symbol ≡ symbol.Mark m → prefix_of m ≡ Some p → IsPlain t
plain_prefix t mark.Plus p is of n = rw is
plain_prefix t _ p is of n = rw is (cc)

after_append : (n : ℕ) (ts us : List Lexeme) → open_along n (ts ++ us) ≡ open_along (open_along n ts) us
after_append n [] us = refl
after_append n (t ∷ ts) us = after_append (open_after _ n) ts us

base_plain : {ts : List Lexeme} {base : BaseTree} → SpellsBase ts base → (n : ℕ) →
    (open_along n ts ≡ n) × (most_open n ts ≡ n)
base_plain (int t p) n = (rw p, rw p (omega arith))
base_plain (signed t p) n = (rw p, rw p (omega arith))
base_plain (signed_int t u p q) n = (rw (p, q), rw (p, q) (omega arith))
base_plain (unsigned t p) n = (rw p, rw p (omega arith))
base_plain (unsigned_int t u p q) n = (rw (p, q), rw (p, q) (omega arith))
base_plain (struct t u tag p q) n = (rw (p, q), rw (p, q) (omega arith))

stars_plain : {ts : List Lexeme} {stars : ℕ} → SpellsStars ts stars → (n : ℕ) →
    (open_along n ts ≡ n) × (most_open n ts ≡ n)
stars_plain none n = (refl, refl)
stars_plain (star t p d) n = let rest = stars_plain d n in (rw p rest.0, rw p (omega (arith, rest.1)))

type_balanced : {ts : List Lexeme} {of : TypeName} → SpellsTypeName ts of → (n : ℕ) → open_along n ts ≡ n
type_balanced (type_name d g) n = rw (after_append, (base_plain d n).0, (stars_plain g n).0)

pub balanced : {level : ℕ} {ts : List Lexeme} {e : ExprTree} → Spells level ts e → (n : ℕ) → open_along n ts ≡ n
balanced (literal t number is) n = rw is
balanced (variable t name is) n = rw is
balanced (parenthesised t u o q d) n = rw (o, after_append, balanced d, q) (omega arith)
balanced (size_of t u v k o q d) n = rw (k, o, after_append, type_balanced d, q) (omega arith)
balanced (index t u o q d g) n = rw (after_append, balanced d, o, after_append, balanced g, q) (omega arith)
balanced (member t u name o is d) n = rw (after_append, balanced d, o, is)
balanced (arrow t u name o is d) n = rw (after_append, balanced d, o, is)
balanced («prefix» t m p is of d) n = rw (plain_prefix t m p is of n) (balanced d n)
balanced (joined t m op is of at d g) n = rw (after_append, balanced d, balanced g) (plain_binary t m op is of n)
balanced (looser d) n = balanced d n

pub open_low : (n : ℕ) (ts : List Lexeme) → n ≤ most_open n ts
open_low n [] = omega arith
open_low n (t ∷ ts) = omega arith

most_append : (n : ℕ) (ts us : List Lexeme) → most_open n (ts ++ us) ≡
    max (most_open n ts) (most_open (open_along n ts) us)
most_append n [] us = let low = open_low n us in omega arith
most_append n (t ∷ ts) us = let rest = most_append (open_after t.symbol n) ts us in omega arith

-- the most along an expression and what follows it is the greater of the two
pub most_after : {level : ℕ} {ts : List Lexeme} {e : ExprTree} (n : ℕ) (us : List Lexeme) → Spells level ts e →
    most_open n (ts ++ us) ≡ max (most_open n ts) (most_open n us)
most_after {ts = ts} n us d = rw (most_append n ts us, balanced d)

-- the most in brackets is that inside them or of what follows
pub most_bracketed : {level : ℕ} {us : List Lexeme} {e : ExprTree} (n : ℕ) (t u : Lexeme) (rest : List Lexeme) →
    Opens t → Closes u → Spells level us e → most_open n (t ∷ (us ++ u ∷ rest)) ≡
    max (most_open (n + 1) us) (most_open n rest)
most_bracketed {us = us} n t u rest opens closes d =
    let one_less : n + 1 - 1 ≡ n = omega arith in
    rw (opens n, most_after (n + 1) (u ∷ rest) d, closes (n + 1), one_less) (omega (arith, open_low (n + 1) us))

most_type : {ts : List Lexeme} {of : TypeName} → SpellsTypeName ts of → (n : ℕ) → most_open n ts ≡ n
most_type (type_name {ts = ts} {us = us} d g) n =
    let base = base_plain d n in
    let stars = stars_plain g n in
    rw (most_append n ts us, base.0, base.1, stars.1) (omega arith)

-- the most in the parentheses after `sizeof` is one more than are open before
pub most_sized : {ts : List Lexeme} {of : TypeName} (n : ℕ) (t u v : Lexeme) → IsPlain t → Opens u → Closes v →
    SpellsTypeName ts of → most_open n (t ∷ u ∷ (ts ++ v ∷ [])) ≡ n + 1
most_sized {ts = ts} n t u v plain opens closes d = rw (
  plain n,
  opens n,
  most_append (n + 1) ts (v ∷ []),
  type_balanced d (n + 1),
  most_type d (n + 1),
  closes (n + 1),
) (omega arith)

pub most_plain : (n : ℕ) (t : Lexeme) (rest : List Lexeme) → IsPlain t → most_open n (t ∷ rest) ≡ most_open n rest
most_plain n t rest plain = rw (plain n) (omega (arith, open_low n rest))
