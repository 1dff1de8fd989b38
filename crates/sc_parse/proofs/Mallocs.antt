-- An argument of `malloc` names one count and one type, and is read exactly as it is spelled.
use Rattle.sc_parse.proofs.Common.{BinaryOp, ExprTree, Keyword, Lexeme, List, None, Option, SimpleKind, Some, TypeName}
use Rattle.sc_parse.proofs.Common.{allocated_at, ap, arith, bound, optional_height, expr_height, false≢true, is_free}
use Rattle.sc_parse.proofs.Common.{is_malloc, malloc_argument, malloc_by, malloc_of, max, none-some, product_by, refl}
use Rattle.sc_parse.proofs.Common.{rules, same_some, sized_type, subst, sym, true, ℕ, ◌+◌, ◌∙◌, ◌≡◌, ◌≤◌}
use Rattle.sc_base.specs.declared.op.BinaryOp.TheVariants as binary
use Rattle.sc_ast.specs.declared.expr.ExprTree.{ExprTree-F, map-ExprTree, out-ExprTree, roll-ExprTree}
use Rattle.sc_ast.specs.declared.expr.ExprTree.{roll-out-ExprTree, the_lemmas}
use Rattle.sc_ast.specs.declared.expr.ExprTree.TheOpen as term
use Rattle.sc_ast.specs.declared.expr.ExprTree.TheVariants as expr
use Rattle.sc_ast.specs.declared.stmt.SimpleKind.TheVariants as simple
use Rattle.sc_parse_expr.specs.declared.mark.Keyword.TheVariants as word
use Rattle.sc_ast.proofs.Layers.{expr_at}
use Rattle.sc_parse.specs.StmtReaders.{sized_step}
use Rattle.sc_parse_expr.proofs.Heights.{joined_height, size_height}
use Rattle.sc_parse.proofs.Exact.{Any, Complete, Exact, took}
use Rattle.sc_parse.proofs.Expressions.{Few, IsCondition, condition_exact}

pub is_malloc_word : (o : Option Keyword) → is_malloc o ≡ true → o ≡ Some word.Malloc
is_malloc_word (Some word.Malloc) h = refl
is_malloc_word _ h = absurd (false≢true h)

pub is_free_word : (o : Option Keyword) → is_free o ≡ true → o ≡ Some word.Free
is_free_word (Some word.Free) h = refl
is_free_word _ h = absurd (false≢true h)

sized_layer : (t : ExprTree-F ExprTree) (of : TypeName) → sized_step (map-ExprTree _ _ sized_type t) ≡ Some of →
    roll-ExprTree t ≡ expr.SizeOf of
unfolding roll-ExprTree denote.Hole.Carrier.roll
sized_layer (term.SizeOf k) of h = ap (λ k. expr.SizeOf k) (same_some h)
sized_layer _ of h = absurd (none-some of h)

-- an expression that has a type under `sizeof` is this `sizeof`
sized_is : (e : ExprTree) (of : TypeName) → sized_type e ≡ Some of → e ≡ expr.SizeOf of
sized_is e of h = sym (roll-out-ExprTree e) ∙ sized_layer (out-ExprTree e) of
    (sym (expr_at sized_step (out-ExprTree e)) ∙ ap sized_type (roll-out-ExprTree e) ∙ h)

-- a product with a count and a type is that of the count and the size of the type
product_is : (op : BinaryOp) (left right : ExprTree) (o : Option TypeName) (y : Option ExprTree × TypeName) →
    sized_type right ≡ o → product_by op left o ≡ Some y → expr.Binary op left right ≡ malloc_argument y.0 y.1
product_is binary.Mul left right (Some of) y q h =
    ap (λ e. expr.Binary binary.Mul left e) (sized_is right of q) ∙ ap (λ y. malloc_argument y.0 y.1) (same_some h)
product_is _ left right o y q h = absurd (none-some y h)

malloc_layer : (t : ExprTree-F ExprTree) (y : Option ExprTree × TypeName) → malloc_by t ≡ Some y →
    roll-ExprTree t ≡ malloc_argument y.0 y.1
unfolding roll-ExprTree denote.Hole.Carrier.roll
malloc_layer (term.SizeOf of) y h = ap (λ y. malloc_argument y.0 y.1) (same_some h)
malloc_layer (term.Binary op left right) y h = product_is op left right _ y refl h
malloc_layer _ y h = absurd (none-some y h)

-- an argument with a count and a type is that of these
malloc_is : (e : ExprTree) (y : Option ExprTree × TypeName) → malloc_of e ≡ Some y → e ≡ malloc_argument y.0 y.1
malloc_is e y h = sym (roll-out-ExprTree e) ∙ malloc_layer (out-ExprTree e) y h

-- an argument has its count and its type
malloc_gives : (count : Option ExprTree) (of : TypeName) → malloc_of (malloc_argument count of) ≡ Some (count, of)
malloc_gives None of = search (rules, the_lemmas)
malloc_gives (Some count) of = search (rules, the_lemmas)

-- an argument is one higher than a count, and 2 high at least where it has one
pub argument_height : (count : Option ExprTree) (of : TypeName) →
    expr_height (malloc_argument count of) ≤ max (optional_height count) 1 + 1
argument_height None of = let size = size_height of in omega arith
argument_height (Some count) of = let size = size_height of in
    let product = joined_height binary.Mul count (expr.SizeOf of) in omega arith

pub argument_low : (count : Option ExprTree) (of : TypeName) →
    optional_height count + 1 ≤ expr_height (malloc_argument count of)
argument_low None of = let size = size_height of in omega arith
argument_low (Some count) of = let product = joined_height binary.Mul count (expr.SizeOf of) in omega arith

-- What follows `malloc`, with a count that is at most `room` high.
pub data IsAllocation (room : ℕ) (place : ExprTree) : List Lexeme → SimpleKind → Type 0 where
  allots : {ts : List Lexeme} {count : Option ExprTree} {of : TypeName} →
      IsCondition (room + 1) ts (malloc_argument count of) → IsAllocation room place ts (simple.Malloc place count of)

pub allocated_exact : (free room : ℕ) (place : ExprTree) →
    Exact (Few free) (IsAllocation room place) Any (allocated_at free room place)
unfolding allocated_at
allocated_exact free room place = record {
  sound = λ ts rest k h.
      let b = bound _ _ _ h in
      let c = bound _ _ _ b.2 in
      let d = (condition_exact free (room + 1)).sound ts b.0.1 b.0.0 b.1 in
      took d.taken c.2 d.split (allots (subst (λ e. IsCondition (room + 1) d.taken e) (malloc_is b.0.0 c.0 c.1)
      d.spelled));
  complete = complete;
}
  where
    complete : Complete (Few free) (IsAllocation room place) Any (allocated_at free room place)
    complete _ _ (allots {ts = ts} {count = count} {of = of} d) rest fits ends =
        rw ((condition_exact free (room + 1)).complete ts _ d rest fits tt, malloc_gives count of)
