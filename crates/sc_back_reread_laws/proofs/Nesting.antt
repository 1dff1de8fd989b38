-- How many brackets are open along words.
use Rattle.sc_back_reread_laws.proofs.Common.{IsTrue, Lexeme, List, Number, Piece, Symbol, [], ap, append_assoc, arith}
use Rattle.sc_back_reread_laws.proofs.Common.{binary_text, blank, codes, fits, indent, is_ident, joined_symbols}
use Rattle.sc_back_reread_laws.proofs.Common.{literal_says, literal_text, map, max, most_open, name_says, newline}
use Rattle.sc_back_reread_laws.proofs.Common.{open_after, open_after_mark, refl, subst, suc, sym, symbols, word}
use Rattle.sc_back_reread_laws.proofs.Common.{word_symbol, ℕ, ◌++◌, ◌+◌, ◌-◌, ◌∙◌, ◌∷◌, ◌≡◌, ◌≤◌}
use Rattle.sc_base.specs.declared.op.BinaryOp.{BinaryOp}
use Rattle.sc_base.specs.declared.op.BinaryOp.TheVariants as binary
use Rattle.sc_parse_expr.specs.declared.mark.Keyword.{Keyword}
use Rattle.sc_parse_print_laws.proofs.Tables as tables

-- the most brackets that are open along symbols
abbrev pub opens : ℕ → List Symbol → ℕ
opens count [] = count
opens count (s ∷ ss) = max count (opens (open_after s count) ss)

pub opens_lexemes : (count : ℕ) (ts : List Lexeme) → most_open count ts ≡ opens count (map (λ t. t.symbol) ts)
opens_lexemes count [] = refl
opens_lexemes count (t ∷ ts) = ap (λ n. max count n) (opens_lexemes (open_after t.symbol count) ts)

-- at most `most` are open along the symbols
pub record AtMost (count : ℕ) (ss : List Symbol) (most : ℕ) : Type 0 where
  pub within : opens count ss ≤ most

pub none_more : (count most : ℕ) → count ≤ most → AtMost count [] most
none_more count most low = record { within = low }

step : {s : Symbol} {ss : List Symbol} {most : ℕ} (count next : ℕ) → open_after s count ≡ next → count ≤ most →
    AtMost next ss most → AtMost count (s ∷ ss) most
step {s} {ss} {most} count next e low rest =
    let here : opens (open_after s count) ss ≡ opens next ss = ap (λ n. opens n ss) e in
    let more = rest.within in
    record { within = omega arith }

-- a symbol that leaves the count as it is
abbrev pub Even : Symbol → Type 0
Even s = (count : ℕ) → open_after s count ≡ count

-- a symbol that opens one, and one that closes one
abbrev pub Opens : Symbol → Type 0
Opens s = (count : ℕ) → open_after s count ≡ count + 1

abbrev pub Closes : Symbol → Type 0
Closes s = (count : ℕ) → open_after s count ≡ count - 1

-- along the words at most `depth` more are open, and after them as many as before
pub record Nested (depth : ℕ) (pieces : List Piece) : Type 0 where
  pub under : (count most : ℕ) (rest : List Symbol) → count + depth ≤ most → AtMost count rest most →
      AtMost count (symbols pieces ++ rest) most

pub nested_none : {depth : ℕ} → Nested depth []
nested_none = record { under = λ count most rest low more. more }

pub nested_more : {depth deep : ℕ} {pieces : List Piece} → depth ≤ deep → Nested depth pieces → Nested deep pieces
nested_more h n = record { under = λ count most rest low more. n.under count most rest (omega arith) more }

pub nested_even : {depth : ℕ} {text : List ℕ} {pieces : List Piece} → Even (word_symbol text) → Nested depth pieces →
    Nested depth (word text ∷ pieces)
nested_even even n = record {
  under = λ count most rest low more. step count count (even count) (omega arith) (n.under count most rest low more);
}

pub nested_blank : {depth : ℕ} {pieces : List Piece} → Nested depth pieces → Nested depth (blank ∷ pieces)
nested_blank n = record { under = n.under }

pub nested_line : {depth : ℕ} {pieces : List Piece} → Nested depth pieces → Nested depth (newline ∷ pieces)
nested_line n = record { under = n.under }

pub nested_level : {depth : ℕ} {pieces : List Piece} (levels : ℕ) → Nested depth pieces →
    Nested depth (indent levels ∷ pieces)
nested_level levels n = record { under = n.under }

pub nested_append : {depth : ℕ} {a b : List Piece} → Nested depth a → Nested depth b → Nested depth (a ++ b)
nested_append {depth} {a} {b} m n = record {
  under = λ count most rest low more. subst (λ ss. AtMost count ss most)
      (sym (ap (λ ss. ss ++ rest) (joined_symbols a b) ∙ append_assoc (symbols a) (symbols b) rest))
      (m.under count most (symbols b ++ rest) low (n.under count most rest low more));
}

-- what stands in brackets
nested_in : {depth : ℕ} {inner pieces : List Piece} (o c : List ℕ) → Opens (word_symbol o) →
    Closes (word_symbol c) → Nested depth inner → Nested (suc depth) pieces →
    Nested (suc depth) (word o ∷ (inner ++ word c ∷ pieces))
nested_in {depth} {inner} {pieces} o c opening closing m n = record {
  under = λ count most rest low more.
      step count (count + 1) (opening count) (omega arith) (subst (λ ss. AtMost (count + 1) ss most)
      (sym (ap (λ ss. ss ++ rest) (joined_symbols inner (word c ∷ pieces)) ∙
      append_assoc (symbols inner) (word_symbol c ∷ symbols pieces) rest))
      (m.under (count + 1) most (word_symbol c ∷ (symbols pieces ++ rest)) (omega arith)
      (step (count + 1) count (let e = closing (count + 1) in omega arith) (omega arith)
      (n.under count most rest low more))));
}

pub even_ident : (text : List ℕ) → IsTrue (is_ident text) → Even (word_symbol text)
even_ident text k count = ap (λ s. open_after s count) (name_says text k)

pub even_literal : (number : Number) → IsTrue (fits number) → Even (word_symbol (literal_text number))
even_literal number k count = ap (λ s. open_after s count) (literal_says number k)

pub even_keyword : (w : Keyword) → Even (word_symbol (tables.keyword_text w))
even_keyword w count = ap (λ s. open_after s count) (tables.keyword_says w)

pub even_semicolon : Even (word_symbol (codes ";"))
even_semicolon count = ap (λ s. open_after s count) (tables.lone_says tables.semicolon)

pub even_comma : Even (word_symbol (codes ","))
even_comma count = ap (λ s. open_after s count) (tables.lone_says tables.comma_mark)

pub even_equal : Even (word_symbol (codes "="))
even_equal count = ap (λ s. open_after s count) tables.equal

pub even_step : Even (word_symbol (codes "++"))
even_step count = ap (λ s. open_after s count) (tables.lone_says tables.plus_plus)

pub even_binary : (op : BinaryOp) → Even (word_symbol (binary_text op))
even_binary op count = ap (λ s. open_after s count) (tables.binary_says op) ∙ by op
  where
    by : (op : BinaryOp) → open_after_mark (tables.binary_mark op) count ≡ count
    by binary.OrElse = refl
    by _ = refl

open_paren : Opens (word_symbol (codes "("))
open_paren count = ap (λ s. open_after s count) (tables.lone_says tables.open_paren)

close_paren : Closes (word_symbol (codes ")"))
close_paren count = ap (λ s. open_after s count) (tables.lone_says tables.close_paren)

open_square : Opens (word_symbol (codes "["))
open_square count = ap (λ s. open_after s count) (tables.lone_says tables.open_square)

close_square : Closes (word_symbol (codes "]"))
close_square count = ap (λ s. open_after s count) (tables.lone_says tables.close_square)

open_curly : Opens (word_symbol (codes "{"))
open_curly count = ap (λ s. open_after s count) (tables.lone_says tables.open_curly)

close_curly : Closes (word_symbol (codes "}"))
close_curly count = ap (λ s. open_after s count) (tables.lone_says tables.close_curly)

pub nested_parens : {depth : ℕ} {inner pieces : List Piece} → Nested depth inner → Nested (suc depth) pieces →
    Nested (suc depth) (word (codes "(") ∷ (inner ++ word (codes ")") ∷ pieces))
nested_parens m n = nested_in (codes "(") (codes ")") open_paren close_paren m n

pub nested_square : {depth : ℕ} {inner pieces : List Piece} → Nested depth inner → Nested (suc depth) pieces →
    Nested (suc depth) (word (codes "[") ∷ (inner ++ word (codes "]") ∷ pieces))
nested_square m n = nested_in (codes "[") (codes "]") open_square close_square m n

pub nested_curly : {depth : ℕ} {inner pieces : List Piece} → Nested depth inner → Nested (suc depth) pieces →
    Nested (suc depth) (word (codes "{") ∷ (inner ++ word (codes "}") ∷ pieces))
nested_curly m n = nested_in (codes "{") (codes "}") open_curly close_curly m n
