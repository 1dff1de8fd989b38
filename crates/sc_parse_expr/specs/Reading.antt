-- Reading an expression from the start of a list, where the brackets and the levels of height are limited.
use Rattle.sc_base.specs.Prelude.{most_brackets, most_height}
use Rattle.sc_parse_expr.specs.Common.{ExprTree, level_of, loosest_level, unary_level}
use Rattle.std.specs.Prelude.{ℕ, zero, suc, ◌+◌, ◌-◌, max, nat_le, nat_lt, List, [], ◌∷◌, Option, Some, None}
use Rattle.std.specs.Prelude.{if◌then◌else◌}
use Rattle.std.specs.Option.{option_map}
use Rattle.sc_ast.specs.declared.expr.ExprTree.TheVariants as expr
use Rattle.sc_parse_expr.specs.declared.mark.Keyword.TheVariants as word
use Rattle.sc_parse_expr.specs.declared.mark.Mark.{Mark}
use Rattle.sc_parse_expr.specs.declared.mark.Mark.TheVariants as mark
use Rattle.sc_parse_expr.specs.declared.operator.Prefix.{Prefix}
use Rattle.sc_parse_expr.specs.declared.operator.Extension.{Extension}
use Rattle.sc_parse_expr.specs.declared.operator.Extension.TheVariants as extension
use Rattle.sc_parse_expr.specs.declared.lexeme.Symbol.{Symbol}
use Rattle.sc_parse_expr.specs.declared.lexeme.Symbol.TheVariants as symbol
use Rattle.sc_parse_expr.specs.declared.lexeme.Lexeme.{Lexeme}
use Rattle.sc_parse_expr.specs.declared.parser.Access.{Access}
use Rattle.sc_parse_expr.specs.declared.parser.Access.TheVariants as access
use Rattle.sc_parse_expr.specs.declared.parser.Lead.{Lead}
use Rattle.sc_parse_expr.specs.declared.parser.Lead.TheVariants as lead
use Rattle.sc_parse_expr.specs.Marks.{prefix_of, prefixed, extension_level}
use Rattle.sc_parse_expr.specs.Prefixes.{following, extension_at, name_at, ◌>>=◌}
unfoldable use Rattle.sc_parse_expr.specs.TypeReaders.{type_in_parens}

-- A tree that is read, its height, and the lexemes after it.
pub record Found : Type 0 where
  pub tree : ExprTree
  pub height : ℕ
  pub rest : List Lexeme

abbrev pub found : ExprTree → ℕ → List Lexeme → Found
found tree height rest = record { tree = tree; height = height; rest = rest }

abbrev pub Reader : Type 0
Reader = List Lexeme → Option Found

-- an expression that is one lexeme
abbrev pub leaf_of : Symbol → Option ExprTree
leaf_of (symbol.Integer number) = Some (expr.Literal number)
leaf_of (symbol.Ident name) = Some (expr.Variable name)
leaf_of _ = None

-- what a mark begins an expression with
abbrev pub lead_by : Mark → Option Lead
lead_by mark.OpenParen = Some lead.Paren
lead_by m = option_map (λ p. lead.Prefix p) (prefix_of m)

abbrev pub lead_of : Symbol → Option Lead
lead_of (symbol.Mark m) = lead_by m
lead_of (symbol.Keyword word.Sizeof) = Some lead.SizeOf
lead_of _ = None

abbrev pub within : ℕ → List Lexeme → Option Extension → Option (Extension × List Lexeme)
within level rest None = None
within level rest (Some ext) = if nat_le (extension_level ext) level then Some (ext, rest) else None

-- what makes an expression of this level or a tighter one, and the lexemes after its first
abbrev pub extension_within : ℕ → List Lexeme → Option (Extension × List Lexeme)
extension_within level [] = None
extension_within level (t ∷ ts) = within level ts (extension_at (t ∷ ts))

abbrev pub leaf_at : Reader
leaf_at [] = None
leaf_at (t ∷ ts) = leaf_of t.symbol >>= (λ e. Some (found e 1 ts))

-- the size of a type, after `sizeof`, where `free` brackets may open
abbrev pub size_within : ℕ → Reader
size_within free ts = if nat_lt 0 free then type_in_parens ts >>= (λ x. Some (found (expr.SizeOf x.0) 1 x.1)) else None

abbrev pub accessed : Access → ExprTree → List ℕ → ExprTree
accessed access.Member e name = expr.Member e name
accessed access.Arrow e name = expr.Arrow e name

-- a member of a tree, whose name comes first
abbrev pub named_with : (List ℕ → ExprTree) → ℕ → Reader
named_with make height ts = name_at ts >>= (λ x. Some (found (make x.0) (height + 1) x.1))

-- Reading with one level of height less (`below`), and inside a bracket (`nested`), where `room` levels are left below
-- this one.
module _ (nested : ℕ → ℕ → Reader) (below : ℕ → Reader) (room : ℕ) where
  -- inside parentheses
  abbrev pub paren_with : Reader
  paren_with ts = nested (room + 1) loosest_level ts >>=
      (λ x. following mark.CloseParen x.rest >>= (λ rest. Some (found x.tree x.height rest)))

  -- after a unary operator
  abbrev pub prefix_with : Prefix → Reader
  prefix_with p ts = below unary_level ts >>= (λ x. Some (found (prefixed p x.tree) (x.height + 1) x.rest))

  abbrev pub joined_with : ExprTree → ℕ → Extension → Reader
  joined_with e height (extension.Operator op) ts = below (level_of op - 1) ts >>=
      (λ x. Some (found (expr.Binary op e x.tree) (max height x.height + 1) x.rest))
  joined_with e height extension.Index ts = nested room loosest_level ts >>=
      (λ x. following mark.CloseSquare x.rest >>= (λ rest.
      Some (found (expr.Index e x.tree) (max height x.height + 1) rest)))
  joined_with e height extension.Member ts = named_with (accessed access.Member e) height ts
  joined_with e height extension.Arrow ts = named_with (accessed access.Arrow e) height ts

  -- an expression that is made of one, where that leaves a level of height
  unfoldable pub extended_with : ExprTree → ℕ → Extension → Reader
  extended_with e height ext ts = if nat_le height room then joined_with e height ext ts else None

  -- where something goes on, one more expression is made, and reading goes on after that
  abbrev pub turn_with : (Found → Option Found) → Found → Option (Extension × List Lexeme) → Option Found
  turn_with onward x None = Some x
  turn_with onward x (Some next) = extended_with x.tree x.height next.0 next.1 >>= onward

  -- Going on after an expression as long as an extension of this level follows, in fewer turns than these.
  unfoldable pub go_on : ℕ → ℕ → Found → Option Found
  go_on level zero x = None
  go_on level (suc turns) x = turn_with (λ y. go_on level turns y) x (extension_within level x.rest)

-- Reading so where `free` brackets may open.
module _ (free : ℕ) (nested : ℕ → ℕ → Reader) (below : ℕ → Reader) (room : ℕ) where
  abbrev pub lead_with : Option Lead → Lexeme → Reader
  lead_with (Some lead.Paren) t ts = paren_with nested below room ts
  lead_with (Some (lead.Prefix p)) t ts = prefix_with nested below room p ts
  lead_with (Some lead.SizeOf) t ts = size_within free ts
  lead_with None t ts = leaf_at (t ∷ ts)

  -- what stands before all operators between operands
  unfoldable pub operand_with : Reader
  operand_with [] = None
  operand_with (t ∷ ts) = lead_with (lead_of t.symbol) t ts

  -- an operand, and all that extends it
  abbrev pub level_with : ℕ → Reader
  level_with level ts = operand_with ts >>= (λ x. go_on nested below room level (room + 1) x)

-- reading where this number of levels of height is left
unfoldable pub read_within : ℕ → (ℕ → ℕ → Reader) → ℕ → ℕ → Reader
read_within free nested zero level ts = None
read_within free nested (suc room) level ts = level_with free nested (read_within free nested room) room level ts

-- an expression of a level, where `free` brackets may still open, at most `room` high
unfoldable pub read : ℕ → ℕ → ℕ → Reader
read zero = read_within zero (λ room level ts. None)
read (suc free) = read_within (suc free) (read free)

-- reading inside a bracket that opens where `free` brackets may
abbrev pub read_nested : ℕ → ℕ → ℕ → Reader
read_nested zero room level ts = None
read_nested (suc free) room level ts = read free room level ts

-- an expression of a level after `count` open brackets, within the limits
abbrev pub read_expr : ℕ → ℕ → Reader
read_expr level count ts = read (most_brackets - count) most_height level ts
