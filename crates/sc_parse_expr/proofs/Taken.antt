-- Readers that read exactly what is spelled.
use Rattle.sc_parse_expr.proofs.Common.{IsKeyword, Keyword, Lexeme, List, Option, Some, Symbol, [], ap, drop}
use Rattle.sc_parse_expr.proofs.Common.{keyword_at, keyword_by, none-some, refl, subst, ◌++◌, ◌∷◌, ◌≡◌}
use Rattle.sc_parse_expr.specs.declared.lexeme.Symbol.TheVariants as symbol
use Rattle.sc_parse_expr.specs.TypeReaders.{Reader}
use Rattle.sc_parse_expr.proofs.Ahead.{same_some}

-- what is read at the start, as forms that lexemes have and properties of what follows
abbrev pub Form : Type 0 → Type 1
Form A = List Lexeme → A → Type 0

abbrev pub Property : Type 1
Property = List Lexeme → Type 0

-- A prefix of the lexemes, with what it spells.
pub record Taken {A : Type 0} (Item : Form A) (ts : List Lexeme) (x : A) (rest : List Lexeme) : Type 0 where
  pub taken : List Lexeme
  pub split : ts ≡ taken ++ rest
  pub spelled : Item taken x

-- What is read is spelled so.
abbrev pub Sound : {A : Type 0} → Form A → Reader A → Type 0
Sound {A} Item reader = (ts rest : List Lexeme) (x : A) → reader ts ≡ Some (x, rest) → Taken Item ts x rest

-- What is spelled so is read, where it fits and ends there.
abbrev pub Complete : {A : Type 0} → Property → Form A → Property → Reader A → Type 0
Complete {A} Fits Item Ends reader = (ts : List Lexeme) (x : A) → Item ts x → (rest : List Lexeme) → Fits ts →
    Ends rest → reader (ts ++ rest) ≡ Some (x, rest)

pub record Exact {A : Type 0} (Fits : Property) (Item : Form A) (Ends : Property) (reader : Reader A) : Type 0 where
  pub sound : Sound Item reader
  pub complete : Complete Fits Item Ends reader

-- all lexemes fit
abbrev pub Any : Property
Any ts = Unit {0}

pub same_pair : {A B : Type 0} {x y : A × B} → Some x ≡ Some y → (x.0 ≡ y.0) × (x.1 ≡ y.1)
same_pair h = let same = same_some h in (ap (λ p. p.0) same, ap (λ p. p.1) same)

pub took : {A : Type 0} {Item : Form A} {ts us rest : List Lexeme} {x y : A} (taken : List Lexeme) →
    ◌≡◌ {A = Option (A × List Lexeme)} (Some (y, us)) (Some (x, rest)) → ts ≡ taken ++ us → Item taken y →
    Taken Item ts x rest
took {Item = Item} {ts = ts} taken h split spelled =
    subst (λ p. Taken Item ts p.0 p.1) (same_some h) (record { taken = taken; split = split; spelled = spelled })

keyword_is : (s : Symbol) (word : Keyword) → keyword_by s ≡ Some word → s ≡ symbol.Keyword word
keyword_is (symbol.Keyword other) word h = ap (λ w. symbol.Keyword w) (same_some h)
keyword_is _ word h = absurd (none-some word h)

-- the lexemes begin with a reserved word
pub record Word (ts : List Lexeme) (word : Keyword) : Type 0 where
  pub first : Lexeme
  pub is : ts ≡ first ∷ drop 1 ts
  pub keyword : IsKeyword word first

pub word_ahead : (ts : List Lexeme) (word : Keyword) → keyword_at ts ≡ Some word → Word ts word
word_ahead [] word h = absurd (none-some word h)
word_ahead (t ∷ ts) word h = record { first = t; is = refl; keyword = keyword_is _ word h }
