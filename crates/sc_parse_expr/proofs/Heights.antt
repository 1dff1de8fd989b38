-- The height of each form of expression.
use Rattle.sc_parse_expr.proofs.Common.{BinaryOp, ExprTree, Lexeme, List, Number, Prefix, Spells, arith, arrow}
use Rattle.sc_parse_expr.proofs.Common.{TypeName, expr_height, index, joined, literal, looser, max, member}
use Rattle.sc_parse_expr.proofs.Common.{parenthesised, prefixed, rules, size_of, variable, «prefix», ℕ, ◌+◌, ◌≡◌, ◌≤◌}
use Rattle.sc_ast.specs.declared.expr.ExprTree.{the_lemmas}
use Rattle.sc_ast.specs.declared.expr.ExprTree.TheVariants as expr
use Rattle.sc_parse_expr.specs.declared.operator.Prefix.TheVariants as prefix

pub literal_height : (number : Number) → expr_height (expr.Literal number) ≡ 1
literal_height number = search (rules, the_lemmas)

pub variable_height : (name : List ℕ) → expr_height (expr.Variable name) ≡ 1
variable_height name = search (rules, the_lemmas)

pub size_height : (of : TypeName) → expr_height (expr.SizeOf of) ≡ 1
size_height of = search (rules, the_lemmas)

pub prefixed_height : (p : Prefix) (e : ExprTree) → expr_height (prefixed p e) ≡ expr_height e + 1
prefixed_height (prefix.Operator op) e = search (rules, the_lemmas)
prefixed_height prefix.Dereference e = search (rules, the_lemmas)
prefixed_height prefix.Address e = search (rules, the_lemmas)

pub joined_height : (op : BinaryOp) (e f : ExprTree) →
    expr_height (expr.Binary op e f) ≡ max (expr_height e) (expr_height f) + 1
joined_height op e f = search (rules, the_lemmas)

pub index_height : (e f : ExprTree) → expr_height (expr.Index e f) ≡ max (expr_height e) (expr_height f) + 1
index_height e f = search (rules, the_lemmas)

pub member_height : (e : ExprTree) (name : List ℕ) → expr_height (expr.Member e name) ≡ expr_height e + 1
member_height e name = search (rules, the_lemmas)

pub arrow_height : (e : ExprTree) (name : List ℕ) → expr_height (expr.Arrow e name) ≡ expr_height e + 1
arrow_height e name = search (rules, the_lemmas)

-- what is spelled is at least 1 high
pub positive : {level : ℕ} {ts : List Lexeme} {e : ExprTree} → Spells level ts e → 1 ≤ expr_height e
positive (literal t number is) = let h = literal_height number in omega arith
positive (variable t name is) = let h = variable_height name in omega arith
positive (parenthesised t u o q d) = positive d
positive (size_of {of = of} t u v k o q d) = let h = size_height of in omega arith
positive (index {e = e} {f = f} t u o q d g) = let h = index_height e f in omega arith
positive (member {e = e} t u name o is d) = let h = member_height e name in omega arith
positive (arrow {e = e} t u name o is d) = let h = arrow_height e name in omega arith
positive («prefix» {e = e} t m p is of d) = let h = prefixed_height p e in omega arith
positive (joined {e = e} {f = f} t m op is of at d g) = let h = joined_height op e f in omega arith
positive (looser d) = positive d
