-- Helping: where too many brackets are open, and what is parsed as a function of the lexemes.
use Rattle.sc_base.specs.Prelude.{most_brackets}
use Rattle.sc_parse.specs.Common.{Lexeme, SectionTree, most_open}
use Rattle.sc_parse_expr.specs.Brackets.{open_after}
use Rattle.std.specs.Prelude.{◌≡◌, ℕ, ◌+◌, ◌≤◌, ◌<◌, nat_le, Bool, List, [], ◌∷◌, take, length, Option, Some, None}
use Rattle.std.specs.Prelude.{Result, Ok}
use Rattle.std.specs.Prelude.{Err, if◌then◌else◌}
use Rattle.std.specs.Option.{option_map}
use Rattle.sc_lex.specs.declared.fault.TextFault.{TextFault}
use Rattle.sc_lex.specs.declared.fault.TextFault.TheVariants as fault
use Rattle.sc_parse.specs.SectionReaders.{section_at}

-- how many brackets are open after the first lexeme, where so many are before
abbrev pub open_at : List Lexeme → ℕ → ℕ
open_at [] count = count
open_at (t ∷ ts) count = open_after t.symbol count

-- at this place is the first lexeme after which more than 1,024 brackets are open
pub record IsExcess (lexemes : List Lexeme) (at : ℕ) : Type 0 where
  pub within : at < length lexemes
  pub few : most_open 0 (take at lexemes) ≤ most_brackets
  pub many : most_brackets < most_open 0 (take (at + 1) lexemes)

-- nowhere are more than 1,024 brackets open
abbrev pub has_few_brackets : List Lexeme → Bool
has_few_brackets lexemes = nat_le (most_open 0 lexemes) most_brackets

-- the tree of a section whose compartment line is this one of the whole text
unfoldable pub tree_of : ℕ → List Lexeme → Option SectionTree
tree_of line lexemes = if has_few_brackets lexemes then option_map (λ x. x.0) (section_at line lexemes) else None

-- an answer is the tree that the lexemes have, and lexemes that have none are refused
abbrev pub Parses : ℕ → List Lexeme → Result SectionTree TextFault → Type 0
Parses line lexemes (Ok tree) = tree_of line lexemes ≡ Some tree
Parses line lexemes (Err (fault.Refused refusal)) = tree_of line lexemes ≡ None
Parses line lexemes (Err fault.OutOfMemory) = Unit {0}
