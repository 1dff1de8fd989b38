-- What a list of lexemes begins with.
use Rattle.sc_base.specs.Prelude.{most_brackets, most_height}
use Rattle.sc_parse_expr.specs.Common.{ExprTree, expr_height}
use Rattle.std.specs.Prelude.{◌≡◌, ℕ, Bool, true, false, List, [], ◌∷◌, ◌++◌, ◌≤◌, ◌<◌, Option, Some, None, Result, Ok}
use Rattle.std.specs.Prelude.{Err}
use Rattle.std.specs.Prelude.{if◌then◌else◌}
use Rattle.sc_parse_expr.specs.declared.fault.SyntaxFault.{SyntaxFault}
use Rattle.sc_parse_expr.specs.declared.fault.SyntaxFault.TheVariants.{Refused, OutOfMemory}
use Rattle.sc_parse_expr.specs.declared.mark.Keyword.{Keyword}
use Rattle.sc_parse_expr.specs.declared.mark.Mark.{Mark}
use Rattle.sc_parse_expr.specs.declared.operator.Extension.{Extension}
use Rattle.sc_parse_expr.specs.declared.lexeme.Symbol.{Symbol}
use Rattle.sc_parse_expr.specs.declared.lexeme.Symbol.TheVariants as symbol
use Rattle.sc_parse_expr.specs.declared.lexeme.Lexeme.{Lexeme}
use Rattle.sc_parse_expr.specs.contracts.mark.MarkPartialEq.TheImpl as marks
use Rattle.sc_parse_expr.specs.Marks.{extension_of, extension_level}
use Rattle.sc_parse_expr.specs.Brackets.{most_open}
use Rattle.sc_parse_expr.specs.Grammar.{Spells}

-- nothing is read where lexemes are refused
abbrev pub Fails : {Y : Type 0} → SyntaxFault → Option Y → Type 0
Fails (Refused left) read = read ≡ None
Fails OutOfMemory read = Unit {0}

-- an answer is what reading gives, unless memory runs out
abbrev pub Agrees : {X Y : Type 0} → (X → Y) → Result X SyntaxFault → Option Y → Type 0
Agrees seen (Ok x) read = read ≡ Some (seen x)
Agrees seen (Err fault) read = Fails fault read

abbrev pub is_mark : Mark → Symbol → Bool
is_mark m (symbol.Mark other) = marks.eq-value.it other m
is_mark m _ = false

-- the lexemes after a mark
abbrev pub following : Mark → List Lexeme → Option (List Lexeme)
following m [] = None
following m (t ∷ ts) = if is_mark m t.symbol then Some ts else None

infixl 20 ◌>>=◌
-- what follows where something was read
abbrev pub ◌>>=◌ : {A B : Type 0} → Option A → (A → Option B) → Option B
None >>= f = None
Some x >>= f = f x

-- the identifier at the start, and the lexemes after it
abbrev pub name_by : Symbol → Option (List ℕ)
name_by (symbol.Ident name) = Some name
name_by _ = None

abbrev pub name_at : List Lexeme → Option (List ℕ × List Lexeme)
name_at [] = None
name_at (t ∷ ts) = name_by t.symbol >>= (λ name. Some (name, ts))

abbrev pub keyword_by : Symbol → Option Keyword
keyword_by (symbol.Keyword word) = Some word
keyword_by _ = None

-- the reserved word at the start
abbrev pub keyword_at : List Lexeme → Option Keyword
keyword_at [] = None
keyword_at (t ∷ ts) = keyword_by t.symbol

abbrev pub mark_by : Symbol → Option Mark
mark_by (symbol.Mark m) = Some m
mark_by _ = None

-- the mark at the start
abbrev pub mark_at : List Lexeme → Option Mark
mark_at [] = None
mark_at (t ∷ ts) = mark_by t.symbol

abbrev pub ident_at : List Lexeme → Option (List ℕ)
ident_at [] = None
ident_at (t ∷ ts) = name_by t.symbol

abbrev pub is_empty : List Lexeme → Bool
is_empty [] = true
is_empty (t ∷ ts) = false

-- the first lexeme
abbrev pub first_of : List Lexeme → Option Lexeme
first_of [] = None
first_of (t ∷ ts) = Some t

-- the line of the first lexeme, 0 where there is none
abbrev pub first_line : List Lexeme → ℕ
first_line [] = 0
first_line (t ∷ ts) = t.line

-- the lexemes begin with this mark
abbrev pub begins_with : Mark → List Lexeme → Bool
begins_with m [] = false
begins_with m (t ∷ ts) = is_mark m t.symbol

-- the extension that a symbol after an expression begins
abbrev pub extension_by : Symbol → Option Extension
extension_by (symbol.Mark m) = extension_of m
extension_by _ = None

-- what an expression goes on with that stands before these lexemes
abbrev pub extension_at : List Lexeme → Option Extension
extension_at [] = None
extension_at (t ∷ ts) = extension_by t.symbol

-- no extension of this level or a tighter one is at the start
abbrev pub EndsAt : ℕ → List Lexeme → Type 0
EndsAt level lexemes = (ext : Extension) → extension_at lexemes ≡ Some ext → level < extension_level ext

-- The prefix of the lexemes up to `rest` spells the expression at this level, and `rest` doesn't go on with it. The
-- tree is at most 256 high, and nowhere more than 1,024 brackets are open, of which `count` are open before.
pub record IsParse (level count : ℕ) (lexemes : List Lexeme) (e : ExprTree) (rest : List Lexeme) : Type 0 where
  pub taken : List Lexeme
  pub split : lexemes ≡ taken ++ rest
  pub spelled : Spells level taken e
  pub low : expr_height e ≤ most_height
  pub few : most_open count taken ≤ most_brackets
  pub ends : EndsAt level rest
