-- Brackets along a section.
use Rattle.sc_base.specs.Prelude.{most_brackets}
use Rattle.sc_parse.proofs.Common.{IsExcess, Lexeme, List, [], ap, arith, get_or, length, max, most_open, open_after}
use Rattle.sc_parse.proofs.Common.{Some, drop, open_along, refl, suc, sym, take, take_more, zero, ℕ, ◌++◌, ◌+◌, ◌<◌}
use Rattle.sc_parse.proofs.Common.{◌∙◌, ◌∷◌, ◌≡◌, ◌≤◌}
use Rattle.sc_parse.proofs.Common.{Mark, None, Symbol, none-some, open_after_mark, same_some}
use Rattle.sc_parse.specs.Prelude.{mark_at, mark_by, open_at}
use Rattle.sc_parse_expr.specs.declared.lexeme.Symbol.TheVariants as symbol

along_snoc : (n : ℕ) (ts : List Lexeme) (t : Lexeme) →
    open_along n (ts ++ t ∷ []) ≡ open_after t.symbol (open_along n ts)
along_snoc n [] t = refl
along_snoc n (u ∷ ts) t = along_snoc (open_after _ n) ts t

most_snoc : (n : ℕ) (ts : List Lexeme) (t : Lexeme) →
    most_open n (ts ++ t ∷ []) ≡ max (most_open n ts) (open_after t.symbol (open_along n ts))
most_snoc n [] t = refl
most_snoc n (u ∷ ts) t = let h = most_snoc (open_after u.symbol n) ts t in omega (arith, h)

-- `count` brackets are open after the first `at` lexemes, and never too many were
pub record IsWithin (lexemes : List Lexeme) (at count : ℕ) : Type 0 where
  pub count_is : count ≡ open_along 0 (take at lexemes)
  pub few : most_open 0 (take at lexemes) ≤ most_brackets
  pub low : count ≤ most_brackets

more_open : (lexemes : List Lexeme) (at count : ℕ) (t : Lexeme) → at < length lexemes → IsWithin lexemes at count →
    open_along 0 (take (at + 1) lexemes) ≡ open_after (get_or lexemes at t).symbol count
more_open lexemes at count t h w =
    ap (λ l. open_along 0 l) (take_more lexemes at t h) ∙ along_snoc 0 (take at lexemes) (get_or lexemes at t) ∙
    ap (λ n. open_after (get_or lexemes at t).symbol n) (sym w.count_is)

more_most : (lexemes : List Lexeme) (at count : ℕ) (t : Lexeme) → at < length lexemes → IsWithin lexemes at count →
    most_open 0 (take (at + 1) lexemes) ≡ max (most_open 0 (take at lexemes))
    (open_after (get_or lexemes at t).symbol count)
more_most lexemes at count t h w =
    ap (λ l. most_open 0 l) (take_more lexemes at t h) ∙ most_snoc 0 (take at lexemes) (get_or lexemes at t) ∙
    ap (λ n. max (most_open 0 (take at lexemes)) (open_after (get_or lexemes at t).symbol n)) (sym w.count_is)

pub within_on : (lexemes : List Lexeme) (at count next : ℕ) (t : Lexeme) → at < length lexemes →
    IsWithin lexemes at count → t ≡ get_or lexemes at t → next ≡ open_after t.symbol count → next ≤ most_brackets →
    IsWithin lexemes (at + 1) next
within_on lexemes at count next t h w is q few =
    let same : next ≡ open_after (get_or lexemes at t).symbol count = q ∙ ap (λ u. open_after u.symbol count) is in
    let most = more_most lexemes at count t h w in
    record {
      count_is = same ∙ sym (more_open lexemes at count t h w);
      few = omega (arith, most, same, w.few, few);
      low = few;
    }

pub excess : (lexemes : List Lexeme) (at count next : ℕ) (t : Lexeme) → at < length lexemes →
    IsWithin lexemes at count → t ≡ get_or lexemes at t → next ≡ open_after t.symbol count → most_brackets < next →
    IsExcess lexemes at
excess lexemes at count next t h w is q many =
    let same = q ∙ ap (λ u. open_after u.symbol count) is in
    let most = more_most lexemes at count t h w in
    record { within = h; few = w.few; many = omega (arith, most, same, many) }

pub open_marked : (ts : List Lexeme) (m : Mark) (count : ℕ) → mark_at ts ≡ Some m →
    open_at ts count ≡ open_after_mark m count
open_marked [] m count e = absurd (none-some m e)
open_marked (t ∷ ts) m count e = go t.symbol e
  where
    go : (s : Symbol) → mark_by s ≡ Some m → open_after s count ≡ open_after_mark m count
    go (symbol.Mark n) e = ap (λ k. open_after_mark k count) (same_some e)
    go _ e = absurd (none-some m e)

pub open_unmarked : (ts : List Lexeme) (count : ℕ) → mark_at ts ≡ None → open_at ts count ≡ count
open_unmarked [] count e = refl
open_unmarked (t ∷ ts) count e = go t.symbol e
  where
    go : (s : Symbol) → mark_by s ≡ None → open_after s count ≡ count
    go (symbol.Mark n) e = absurd (none-some n (sym e))
    go _ e = refl

pub ruleset opens = (open_marked, open_unmarked)

-- the lexeme at a place
pub record StandsAt (lexemes : List Lexeme) (at : ℕ) : Type 0 where
  pub first : Lexeme
  pub there : first ≡ get_or lexemes at first
  pub opened : (count : ℕ) → open_at (drop at lexemes) count ≡ open_after first.symbol count

pub stands_at : (lexemes : List Lexeme) (at : ℕ) → at < length lexemes → StandsAt lexemes at
stands_at [] at h = absurd (omega (arith, h))
stands_at (t ∷ ts) zero h = record { first = t; there = refl; opened = λ count. refl }
stands_at (t ∷ ts) (suc at) h = let r = stands_at ts at (omega (arith, h)) in
    record { first = r.first; there = r.there; opened = r.opened }
