-- How many brackets are open along a list of lexemes.
use Rattle.std.specs.Prelude.{ℕ, ◌+◌, ◌-◌, max, List, [], ◌∷◌}
use Rattle.sc_parse_expr.specs.declared.mark.Mark.{Mark}
use Rattle.sc_parse_expr.specs.declared.mark.Mark.TheVariants as mark
use Rattle.sc_parse_expr.specs.declared.lexeme.Symbol.{Symbol}
use Rattle.sc_parse_expr.specs.declared.lexeme.Symbol.TheVariants as symbol
use Rattle.sc_parse_expr.specs.declared.lexeme.Lexeme.{Lexeme}

-- how many brackets of the three kinds are open after a mark, where `count` were before it
abbrev pub open_after_mark : Mark → ℕ → ℕ
open_after_mark mark.OpenParen count = count + 1
open_after_mark mark.OpenSquare count = count + 1
open_after_mark mark.OpenCurly count = count + 1
open_after_mark mark.CloseParen count = count - 1
open_after_mark mark.CloseSquare count = count - 1
open_after_mark mark.CloseCurly count = count - 1
open_after_mark _ count = count

abbrev pub open_after : Symbol → ℕ → ℕ
open_after (symbol.Mark m) count = open_after_mark m count
open_after _ count = count

-- the most brackets that are open at a place of the list
abbrev pub most_open : ℕ → List Lexeme → ℕ
most_open count [] = count
most_open count (t ∷ ts) = max count (most_open (open_after t.symbol count) ts)
