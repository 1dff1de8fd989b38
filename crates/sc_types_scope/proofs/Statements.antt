-- The lines of a statement, by what it does.
use Rattle.sc_types_scope.proofs.Common.{Bool, BrokenLines, Known, List, Option, [], add-one, all_in, ap, arith}
use Rattle.sc_types_scope.proofs.Common.{body_lines, drop, drop-cons, drop_all, expr_known, false, get_or, length, map}
use Rattle.sc_types_scope.proofs.Common.{part_name_lines, refl, rules, stmt_name_lines, suc, sym, true, unless}
use Rattle.sc_types_scope.proofs.Common.{with_lines, ℕ}
use Rattle.sc_types_scope.proofs.Common.{◌++◌, ◌+◌, ◌<◌, ◌∙◌, ◌∷◌, ◌≡◌, ◌≤◌}
use Rattle.sc_ast.specs.declared.expr.ExprTree.{ExprTree}
use Rattle.sc_ast.specs.declared.stmt.StmtTree.{StmtTree}
use Rattle.sc_ast.specs.declared.stmt.StmtKind.{StmtKind, the_lemmas}
use Rattle.sc_types_scope.proofs.Lines.{with_lines-append, nothing, step, done}
use Rattle.sc_ast.specs.declared.stmt.SimpleTree.{SimpleTree}
use Rattle.sc_ast.specs.declared.stmt.StmtKind as kinds

module _ (known : Known) (looping : Bool) (line : ℕ) where
  pub empty-at : stmt_name_lines known (record { line = line; kind = kinds.Empty }) looping ≡ []
  empty-at = search (rules, the_lemmas)

  pub return-at : stmt_name_lines known (record { line = line; kind = kinds.Return }) looping ≡ []
  return-at = search (rules, the_lemmas)

  pub if-at : (cond : ExprTree) (first second : List StmtTree) → stmt_name_lines known
      (record { line = line; kind = kinds.If cond first second }) looping ≡ unless (expr_known known cond) line ++
      (all_in known looping (map (stmt_name_lines known) first) ++ all_in known looping (map (stmt_name_lines known)
      second))
  if-at cond first second = search (rules, the_lemmas)

  pub while-at : (cond : ExprTree) (body : List StmtTree) →
      stmt_name_lines known (record { line = line; kind = kinds.While cond body }) looping ≡
      unless (expr_known known cond) line ++ all_in known true (map (stmt_name_lines known) body)
  while-at cond body = search (rules, the_lemmas)

  pub for-at : (first : Option SimpleTree) (cond : ExprTree) (next : Option SimpleTree) (body : List StmtTree) →
      stmt_name_lines known (record { line = line; kind = kinds.For first cond next body }) looping ≡
      part_name_lines known first ++ (unless (expr_known known cond) line ++
      (part_name_lines known next ++ all_in known true (map (stmt_name_lines known) body)))
  for-at first cond next body = search (rules, the_lemmas)

-- The lines of all statements, one by one.

pub all-more : (known : Known) (looping : Bool) (stmts : List StmtTree) (i : ℕ) (stmt : StmtTree) → i < length stmts →
    stmt ≡ get_or stmts i stmt → all_in known looping (map (stmt_name_lines known) (drop i stmts)) ≡
    stmt_name_lines known stmt looping ++ all_in known looping (map (stmt_name_lines known) (drop (i + 1) stmts))
all-more known looping stmts i stmt lt is = rw (add-one, drop-cons stmts i stmt) (ap (λ s. stmt_name_lines known s
    looping ++
    all_in known looping (map (stmt_name_lines known) (drop (suc i) stmts))) (sym is))

-- no loop is round the body of a function
pub body-lines : (known : Known) (body : List StmtTree) →
    all_in known false (map (stmt_name_lines known) body) ≡ body_lines known body
body-lines known [] = refl
body-lines known (s ∷ body) = cc (body-lines known body)

module _ (known : Known) (looping : Bool) (s : StmtTree) (old : BrokenLines) where
  -- its lines, as what it is
  is-kind : (kind : StmtKind) → s.kind ≡ kind →
      stmt_name_lines known s looping ≡ stmt_name_lines known (record { line = s.line; kind = kind }) looping
  is-kind kind e = ap (λ kind. stmt_name_lines known (record { line = s.line; kind = kind }) looping) e

  pub empty-noted : s.kind ≡ kinds.Empty → old ≡ with_lines old (stmt_name_lines known s looping)
  empty-noted e = nothing old _ (is-kind _ e ∙ empty-at known looping s.line)

  pub return-noted : s.kind ≡ kinds.Return → old ≡ with_lines old (stmt_name_lines known s looping)
  return-noted e = nothing old _ (is-kind _ e ∙ return-at known looping s.line)

  pub if-noted : (cond : ExprTree) (first second : List StmtTree) (holds : Bool) (a b c : BrokenLines) →
      s.kind ≡ kinds.If cond first second → holds ≡ expr_known known cond → a ≡ with_lines old (unless holds s.line) →
      b ≡ with_lines a (all_in known looping (map (stmt_name_lines known) first)) → c ≡ with_lines b
      (all_in known looping (map (stmt_name_lines known) second)) → c ≡ with_lines old (stmt_name_lines known s looping)
  if-noted cond first second holds a b c e h p q r =
      grind (arith, with_lines-append, is-kind _ e ∙ if-at known looping s.line cond first second)

  pub while-noted : (cond : ExprTree) (body : List StmtTree) (holds : Bool) (a b : BrokenLines) →
      s.kind ≡ kinds.While cond body → holds ≡ expr_known known cond → a ≡ with_lines old (unless holds s.line) →
      b ≡ with_lines a (all_in known true (map (stmt_name_lines known) body)) →
      b ≡ with_lines old (stmt_name_lines known s looping)
  while-noted cond body holds a b e h p q =
      grind (arith, with_lines-append, is-kind _ e ∙ while-at known looping s.line cond body)

  pub for-noted : (first : Option SimpleTree) (cond : ExprTree) (next : Option SimpleTree) (body : List StmtTree)
      (holds : Bool) (a b c d : BrokenLines) → s.kind ≡ kinds.For first cond next body → holds ≡ expr_known known cond →
      a ≡ with_lines old (part_name_lines known first) → b ≡ with_lines a (unless holds s.line) →
      c ≡ with_lines b (part_name_lines known next) → d ≡ with_lines c (all_in known true (map (stmt_name_lines known)
      body)) →
      d ≡ with_lines old (stmt_name_lines known s looping)
  for-noted first cond next body holds a b c d e h p q r t =
      grind (arith, with_lines-append, is-kind _ e ∙ for-at known looping s.line first cond next body)

-- one statement more of a list
pub more-noted : (known : Known) (looping : Bool) (stmts : List StmtTree) (i : ℕ) (stmt : StmtTree)
    (old a b : BrokenLines) (all : List ℕ) → i < length stmts → stmt ≡ get_or stmts i stmt →
    with_lines a (all_in known looping (map (stmt_name_lines known) (drop i stmts))) ≡ with_lines old all →
    b ≡ with_lines a (stmt_name_lines known stmt looping) →
    with_lines b (all_in known looping (map (stmt_name_lines known) (drop (i + 1) stmts))) ≡ with_lines old all
more-noted known looping stmts i stmt old a b all lt is p q =
    step old a b _ _ all (ap (with_lines a) (sym (all-more known looping stmts i stmt lt is)) ∙ p) q

pub all-noted : (known : Known) (looping : Bool) (stmts : List StmtTree) (i : ℕ) (old a : BrokenLines) (all : List ℕ) →
    length stmts ≤ i → with_lines a (all_in known looping (map (stmt_name_lines known) (drop i stmts))) ≡
    with_lines old all → a ≡ with_lines old all
all-noted known looping stmts i old a all le p =
    done old a _ all p (ap (λ rest. all_in known looping (map (stmt_name_lines known) rest)) (drop_all i stmts le))
