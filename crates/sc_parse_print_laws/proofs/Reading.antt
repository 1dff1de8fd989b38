-- A row of printed words is read back as these words: its lexemes are taken word by word and part by part.
use Rattle.sc_parse_print_laws.proofs.Common.{Bool, ExprTree, Grouped, IsTrue, Lexeme, List, Piece, Separated, Spells}
use Rattle.sc_parse_print_laws.proofs.Common.{Symbol, [], and_parts, ap, append-nil, ap₂, arith, blank, cases_lt, comma}
use Rattle.sc_parse_print_laws.proofs.Common.{flat_map, flat_map-append, indent, join_by, length, line_of, list_all}
use Rattle.sc_parse_print_laws.proofs.Common.{looser, map, more, newline, one, refl, subst, suc, sym, symbols, true}
use Rattle.sc_parse_print_laws.proofs.Common.{word, word_symbol, zero, ℕ, ⊎_elim, ◌++◌, ◌∙◌, ◌∷◌, ◌≡◌, ◌≤◌}
use Rattle.sc_parse.specs.Lists as lists
use Rattle.sc_parse_print_laws.proofs.Tables as tables

-- the lexemes say this
abbrev pub Say : List Symbol → List Lexeme → Type 0
Say ss ts = map (λ t. t.symbol) ts ≡ ss

-- A first lexeme and the others.
pub record First (s : Symbol) (ss : List Symbol) (ts : List Lexeme) : Type 0 where
  pub first : Lexeme
  pub rest : List Lexeme
  pub whole : ts ≡ first ∷ rest
  pub is : first.symbol ≡ s
  pub others : Say ss rest

abbrev none_there : (s : Symbol) (ss : List Symbol) → [] ≡ s ∷ ss → 0 ≡ suc (length ss)
none_there s ss h = ap (λ xs. length xs) h

pub first_of : (s : Symbol) (ss : List Symbol) (ts : List Lexeme) → Say (s ∷ ss) ts → First s ss ts
first_of s ss [] h = let e = none_there s ss h in absurd (omega (arith, e))
first_of s ss (t ∷ ts) h = record { first = t; rest = ts; whole = refl; is = cc; others = cc }

pub none_of : (ts : List Lexeme) → Say [] ts → ts ≡ []
none_of [] h = refl
none_of (t ∷ ts) h = let e = none_there _ _ (sym h) in absurd (omega (arith, e))

-- Two parts.
pub record Parts (ss us : List Symbol) (ts : List Lexeme) : Type 0 where
  pub leading : List Lexeme
  pub back : List Lexeme
  pub whole : ts ≡ leading ++ back
  pub first : Say ss leading
  pub second : Say us back

pub parts_of : (ss us : List Symbol) (ts : List Lexeme) → Say (ss ++ us) ts → Parts ss us ts
parts_of [] us ts h = record { leading = []; back = ts; whole = refl; first = refl; second = h }
parts_of (s ∷ ss) us ts h =
    let f = first_of s _ ts h in
    let p = parts_of ss us f.rest f.others in
    record {
      leading = f.first ∷ p.leading;
      back = p.back;
      whole = f.whole ∙ ap (λ x. f.first ∷ x) p.whole;
      first = ap (λ x. x ∷ map (λ t. t.symbol) p.leading) f.is ∙ ap (λ x. s ∷ x) p.first;
      second = p.second;
    }

-- what is spelled at a level is spelled at each looser one
pub up_to : (a b : ℕ) (ts : List Lexeme) (e : ExprTree) → a ≤ b → Spells a ts e → Spells b ts e
up_to a zero ts e h d = subst (λ n. Spells n ts e) (omega (arith, h)) d
up_to a (suc b) ts e h d = ⊎_elim (λ less. looser (up_to a b ts e (omega (arith, less)) d))
    (λ le. subst (λ n. Spells n ts e) (omega (arith, h, le)) d) (cases_lt a (suc b))

pub joined_symbols : (a b : List Piece) → symbols (a ++ b) ≡ symbols a ++ symbols b
joined_symbols a b = flat_map-append _ a b

pub line_symbols : (depth : ℕ) (pieces : List Piece) → symbols (line_of depth pieces) ≡ symbols pieces
line_symbols depth pieces = joined_symbols pieces _ ∙ append-nil _

-- P of all lexemes that say what the words among these pieces say
abbrev pub Reading : List Piece → (List Lexeme → Type 0) → Type 0
Reading pieces P = (ts : List Lexeme) → Say (symbols pieces) ts → P ts

-- What stands in a row: one piece, or pieces that are read as a whole.
pub data Item : Type 0 where
  fixed : Piece → Item
  part : List Piece → Item

abbrev pub written : List ℕ → Item
written text = fixed (word text)

abbrev pub pieces_of : List Item → List Piece
pieces_of [] = []
pieces_of (fixed piece ∷ items) = piece ∷ pieces_of items
pieces_of (part pieces ∷ []) = pieces
pieces_of (part pieces ∷ next ∷ items) = pieces ++ pieces_of (next ∷ items)

-- P of the lexemes of a row, from the lexeme of each word and the lexemes of each part
abbrev pub Takes : List Item → (List Lexeme → Type 0) → Type 0
Takes [] P = P []
Takes (fixed (word text) ∷ items) P = (t : Lexeme) → t.symbol ≡ word_symbol text → Takes items (λ ts. P (t ∷ ts))
Takes (fixed blank ∷ items) P = Takes items P
Takes (fixed (indent depth) ∷ items) P = Takes items P
Takes (fixed newline ∷ items) P = Takes items P
Takes (part pieces ∷ []) P = (ts : List Lexeme) → Say (symbols pieces) ts → P ts
Takes (part pieces ∷ next ∷ items) P = (ts : List Lexeme) → Say (symbols pieces) ts →
    Takes (next ∷ items) (λ us. P (ts ++ us))

pub reads : (items : List Item) (P : List Lexeme → Type 0) → Takes items P → Reading (pieces_of items) P
reads [] P take ts h = subst P (sym (none_of ts h)) take
reads (fixed (word text) ∷ items) P take ts h =
    let f = first_of (word_symbol text) _ ts h in
    subst P (sym f.whole) (reads items _ (take f.first f.is) f.rest f.others)
reads (fixed blank ∷ items) P take ts h = reads items P take ts h
reads (fixed (indent depth) ∷ items) P take ts h = reads items P take ts h
reads (fixed newline ∷ items) P take ts h = reads items P take ts h
reads (part pieces ∷ []) P take ts h = take ts h
reads (part pieces ∷ next ∷ items) P take ts h =
    let p = parts_of (symbols pieces) (symbols (pieces_of (next ∷ items))) ts (h ∙ joined_symbols pieces _) in
    subst P (sym p.whole) (reads (next ∷ items) _ (take p.leading p.first) p.back p.second)

-- items with commas between them
module _ {A : Type 0} (say : A → List Piece) (kept : A → Bool) (Item : List Lexeme → A → Type 0)
    (item : (x : A) → IsTrue (kept x) → Reading (say x) (λ ts. Item ts x)) where
  pub separated : (x : A) (xs : List A) → IsTrue (kept x) → list_all kept xs ≡ true →
      Reading (join_by say comma (x ∷ xs)) (λ ts. Separated Item ts (x ∷ xs))
  separated x [] k all ts h = one (item x k ts (h ∙ ap symbols (append-nil (say x))))
  separated x (y ∷ ys) k all ts h =
      let parts = and_parts (kept y) _ all in
      reads (part (say x) ∷ written _ ∷ fixed blank ∷ part _ ∷ []) (λ us. Separated Item us (x ∷ y ∷ ys))
      (λ leading said t is back following. more t (is ∙ tables.lone_says tables.comma_mark) (item x k leading said)
      (separated y ys parts.0 parts.1 back following)) ts h

-- An item that is spelled, and is this one, lines aside; and items one after another.
pub record Alike {A : Type 0} (Group : List Lexeme → List A → Type 0) (bare : A → A) (ts : List Lexeme)
    (x : A) : Type 0 where
  pub other : A
  pub spelled : Group ts (other ∷ [])
  pub same : bare other ≡ bare x

pub record AllAlike {A : Type 0} (Group : List Lexeme → List A → Type 0) (bare : A → A) (ts : List Lexeme)
    (xs : List A) : Type 0 where
  pub others : List A
  pub spelled : Grouped Group ts others
  pub same : map bare others ≡ map bare xs

module _ {A : Type 0} (say : A → List Piece) (kept : A → Bool) (Group : List Lexeme → List A → Type 0)
    (bare : A → A) (item : (x : A) → IsTrue (kept x) → Reading (say x) (λ ts. Alike Group bare ts x)) where
  pub all_alike : (xs : List A) → list_all kept xs ≡ true → Reading (flat_map say xs) (λ ts. AllAlike Group bare ts xs)
  all_alike [] k = reads [] _ (record { others = []; spelled = lists.none; same = refl })
  all_alike (x ∷ xs) k =
      let parts = and_parts (kept x) _ k in
      reads (part (say x) ∷ part _ ∷ []) _ (λ leading said back following.
      let first = item x parts.0 leading said in
      let rest = all_alike xs parts.1 back following in
      record {
        others = first.other ∷ rest.others;
        spelled = lists.next first.spelled rest.spelled;
        same = ap₂ (λ y ys. y ∷ ys) first.same rest.same;
      })
