-- What the lines of a statement's parts are.
use Rattle.sc_types_elab_stmt.proofs.Common.{Bool, CallTree, Callees, Err, ExprTree, List, Ok, OnOk, Option, Result}
use Rattle.sc_types_elab_stmt.proofs.Common.{Scope, SimpleTree, StmtKind, StmtTree, Ty, TypeName, Visible, [], ap}
use Rattle.sc_types_elab_stmt.proofs.Common.{arith, assign_call_holds, assign_holds, call_holds, concat, cond_holds}
use Rattle.sc_types_elab_stmt.proofs.Common.{drop, drop-step, drop_all, free_holds, get_or, length, lines_at}
use Rattle.sc_types_elab_stmt.proofs.Common.{malloc_holds, map, part_type_lines, return_call_holds, return_value_holds}
use Rattle.sc_types_elab_stmt.proofs.Common.{rules, stmt_type_lines, sym, unless, with_lines, ℕ, ◌++◌, ◌+◌, ◌<◌, ◌∙◌}
use Rattle.sc_types_elab_stmt.proofs.Common.{◌≡◌, ◌≤◌}
use Rattle.sc_types_scope.specs.declared.broken.BrokenLines.{BrokenLines}
use Rattle.sc_types_scope.proofs.Lines.{with_lines-append, with_lines-nil}
use Rattle.sc_ast.specs.declared.stmt.StmtTree as trees
use Rattle.sc_ast.specs.declared.stmt.StmtKind as tree

module _ (visible : Visible) (callees : Callees) (scope : Scope) (result : Option Ty) where
  abbrev at : StmtKind → ℕ → List ℕ
  at = lines_at visible callees scope result

  abbrev all : List StmtTree → List ℕ
  all xs = concat (map (stmt_type_lines visible callees scope result) xs)

  abbrev part : Option SimpleTree → List ℕ
  part = part_type_lines visible callees scope result

  abbrev cond_is : ExprTree → Bool
  cond_is = cond_holds visible callees scope result

  pub stmt-is : (s : StmtTree) → stmt_type_lines visible callees scope result s ≡ at s.kind s.line
  stmt-is s = search (rules, tree.the_lemmas, trees.the_lemmas)

  pub kind-assign : (place value : ExprTree) (line : ℕ) →
      at (tree.Assign place value) line ≡ unless (assign_holds visible callees scope result place value) line
  kind-assign place value line = search (rules, tree.the_lemmas)

  pub kind-assign_call : (place : ExprTree) (call : CallTree) (line : ℕ) →
      at (tree.AssignCall place call) line ≡ unless (assign_call_holds visible callees scope result place call) line
  kind-assign_call place call line = search (rules, tree.the_lemmas)

  pub kind-call : (call : CallTree) (line : ℕ) → at (tree.Call call) line ≡
      unless (call_holds visible callees scope result call) line
  kind-call call line = search (rules, tree.the_lemmas)

  pub kind-malloc : (place : ExprTree) (count : Option ExprTree) (of : TypeName) (line : ℕ) →
      at (tree.Malloc place count of) line ≡
      unless (malloc_holds visible callees scope result place count of) line
  kind-malloc place count of line = search (rules, tree.the_lemmas)

  pub kind-free : (pointer : ExprTree) (line : ℕ) →
      at (tree.Free pointer) line ≡ unless (free_holds visible callees scope result pointer) line
  kind-free pointer line = search (rules, tree.the_lemmas)

  pub kind-return_value : (value : ExprTree) (line : ℕ) →
      at (tree.ReturnValue value) line ≡ unless (return_value_holds visible callees scope result value) line
  kind-return_value value line = search (rules, tree.the_lemmas)

  pub kind-return_call : (call : CallTree) (line : ℕ) →
      at (tree.ReturnCall call) line ≡ unless (return_call_holds visible callees scope result result call) line
  kind-return_call call line = search (rules, tree.the_lemmas)

  kind-if : (cond : ExprTree) (xs ys : List StmtTree) (line : ℕ) →
      at (tree.If cond xs ys) line ≡ unless (cond_is cond) line ++ (all xs ++ all ys)
  kind-if cond xs ys line = search (rules, tree.the_lemmas)

  kind-while : (cond : ExprTree) (xs : List StmtTree) (line : ℕ) →
      at (tree.While cond xs) line ≡ unless (cond_is cond) line ++ all xs
  kind-while cond xs line = search (rules, tree.the_lemmas)

  kind-for : (first : Option SimpleTree) (cond : ExprTree) (next : Option SimpleTree) (xs : List StmtTree) (line : ℕ) →
      at (tree.For first cond next xs) line ≡ part first ++ (unless (cond_is cond) line ++ (part next ++ all xs))
  kind-for first cond next xs line = search (rules, tree.the_lemmas)

  module _ (kind : StmtKind) (line : ℕ) where
    abbrev here : List ℕ
    here = at kind line

    pub noted-if : (a b c d : BrokenLines) (cond : ExprTree) (xs ys : List StmtTree) (holds : Bool) →
        kind ≡ tree.If cond xs ys → holds ≡ cond_is cond → b ≡ with_lines a (unless holds line) →
        c ≡ with_lines b (all xs) → d ≡ with_lines c (all ys) → d ≡ with_lines a here
    noted-if a b c d cond xs ys holds is tested first second third =
        grind (arith, kind-if cond xs ys line, with_lines-append)

    pub noted-while : (a b c : BrokenLines) (cond : ExprTree) (xs : List StmtTree) (holds : Bool) →
        kind ≡ tree.While cond xs → holds ≡ cond_is cond → b ≡ with_lines a (unless holds line) →
        c ≡ with_lines b (all xs) → c ≡ with_lines a here
    noted-while a b c cond xs holds is tested first second =
        grind (arith, kind-while cond xs line, with_lines-append)

    pub noted-for : (a b c d e : BrokenLines) (begin : Option SimpleTree) (cond : ExprTree) (next : Option SimpleTree)
        (xs : List StmtTree) (holds : Bool) → kind ≡ tree.For begin cond next xs → b ≡ with_lines a (part begin) →
        holds ≡ cond_is cond → c ≡ with_lines b (unless holds line) → d ≡ with_lines c (part next) →
        e ≡ with_lines d (all xs) → e ≡ with_lines a here
    noted-for a b c d e begin cond next xs holds is first tested second third fourth =
        grind (arith, kind-for begin cond next xs line, with_lines-append)

    quiet : (a : BrokenLines) (k : StmtKind) → kind ≡ k → at k line ≡ [] → a ≡ with_lines a here
    quiet a k is none = sym (with_lines-nil a) ∙ ap (with_lines a) (sym (ap (λ k. at k line) is ∙ none))

    pub noted-empty : (a : BrokenLines) → kind ≡ tree.Empty → a ≡ with_lines a here
    noted-empty a is = quiet a _ is (search (rules, tree.the_lemmas))

    pub noted-break : (a : BrokenLines) → kind ≡ tree.Break → a ≡ with_lines a here
    noted-break a is = quiet a _ is (search (rules, tree.the_lemmas))

    pub noted-continue : (a : BrokenLines) → kind ≡ tree.Continue → a ≡ with_lines a here
    noted-continue a is = quiet a _ is (search (rules, tree.the_lemmas))

-- The lines of a list, each item's in turn.
module _ {A : Type 0} (f : A → List ℕ) (items : List A) (i : ℕ) (whole : BrokenLines) where
  pub noted-next : (a b : BrokenLines) (x : A) → i < length items → x ≡ get_or items i x → b ≡ with_lines a (f x) →
      with_lines a (concat (map f (drop i items))) ≡ whole → with_lines b (concat (map f (drop (i + 1) items))) ≡ whole
  noted-next a b x within is noted so = grind (arith, with_lines-append, drop-step items i x within is)

  pub noted-all : (a : BrokenLines) → length items ≤ i → with_lines a (concat (map f (drop i items))) ≡ whole →
      a ≡ whole
  noted-all a done so = cc (drop_all i items done, with_lines-nil a)

pub on_ok : {A E : Type 0} {P Q : Type 0} (r : Result A E) → (P → Q) → OnOk r P → OnOk r Q
on_ok (Ok x) f p = f p
on_ok (Err e) f p = tt

pub ruleset nothing = (with_lines-nil)

pub ruleset statements = (
  stmt-is,
  kind-assign,
  kind-assign_call,
  kind-call,
  kind-malloc,
  kind-free,
  kind-return_value,
  kind-return_call,
  with_lines-nil,
)
