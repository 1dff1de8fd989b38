-- A kind of statement that is one of those of a performing section, lines aside.
use Rattle.sc_back_performer_laws.proofs.Common.{ExprTree, List, Option, StmtKind, StmtKind-F, StmtTree, ap}
use Rattle.sc_back_performer_laws.proofs.Common.{fold-roll-StmtKind, kind_step, lineless_kind, lineless_option}
use Rattle.sc_back_performer_laws.proofs.Common.{lineless_stmts, out-StmtKind, out-roll-StmtKind, refl, roll-StmtKind}
use Rattle.sc_back_performer_laws.proofs.Common.{roll-out-StmtKind, stmt_step, subst, sym, ◌∙◌, ◌≡◌}
use Rattle.sc_ast.specs.declared.stmt.SimpleTree.{SimpleTree}
use Rattle.sc_ast.specs.declared.stmt.StmtKind.TheOpen as layer
use Rattle.sc_ast.specs.declared.stmt.StmtKind.TheVariants as stmt

abbrev pub Layer : Type 0
Layer = StmtKind-F StmtKind StmtTree

-- a layer whose parts are without lines
abbrev pub bare : Layer → Layer
bare (layer.If cond first second) = layer.If cond (lineless_stmts first) (lineless_stmts second)
bare (layer.While cond body) = layer.While cond (lineless_stmts body)
bare (layer.For first cond next body) =
    layer.For (lineless_option first) cond (lineless_option next) (lineless_stmts body)
bare kind = kind

bare_kind : (k : Layer) → lineless_kind (roll-StmtKind k) ≡ roll-StmtKind (bare k)
bare_kind layer.Empty = fold-roll-StmtKind StmtKind StmtTree kind_step stmt_step _
bare_kind (layer.Assign place value) = fold-roll-StmtKind StmtKind StmtTree kind_step stmt_step _
bare_kind (layer.AssignCall place call) = fold-roll-StmtKind StmtKind StmtTree kind_step stmt_step _
bare_kind (layer.Call call) = fold-roll-StmtKind StmtKind StmtTree kind_step stmt_step _
bare_kind (layer.Malloc place count of) = fold-roll-StmtKind StmtKind StmtTree kind_step stmt_step _
bare_kind (layer.Free pointer) = fold-roll-StmtKind StmtKind StmtTree kind_step stmt_step _
bare_kind (layer.If c t e) = fold-roll-StmtKind StmtKind StmtTree kind_step stmt_step (layer.If c t e)
bare_kind (layer.While c b) = fold-roll-StmtKind StmtKind StmtTree kind_step stmt_step (layer.While c b)
bare_kind (layer.For f c n b) = fold-roll-StmtKind StmtKind StmtTree kind_step stmt_step (layer.For f c n b)
bare_kind layer.Break = fold-roll-StmtKind StmtKind StmtTree kind_step stmt_step _
bare_kind layer.Continue = fold-roll-StmtKind StmtKind StmtTree kind_step stmt_step _
bare_kind layer.Return = fold-roll-StmtKind StmtKind StmtTree kind_step stmt_step _
bare_kind (layer.ReturnValue value) = fold-roll-StmtKind StmtKind StmtTree kind_step stmt_step _
bare_kind (layer.ReturnCall call) = fold-roll-StmtKind StmtKind StmtTree kind_step stmt_step _

-- a kind that is that of a layer, lines aside
bare_out : (k : StmtKind) (l : Layer) → lineless_kind k ≡ lineless_kind (roll-StmtKind l) →
    bare (out-StmtKind k) ≡ bare l
bare_out k l h =
    sym (out-roll-StmtKind (bare (out-StmtKind k))) ∙
    ap out-StmtKind (sym (bare_kind (out-StmtKind k)) ∙ ap lineless_kind (roll-out-StmtKind k) ∙ h ∙ bare_kind l) ∙
    out-roll-StmtKind (bare l)

-- a layer without statements in it
abbrev pub is_leaf : Layer → Type 0
is_leaf (layer.If cond first second) = ⊥
is_leaf (layer.While cond body) = ⊥
is_leaf (layer.For first cond next body) = ⊥
is_leaf kind = Unit {0}

leaf_is : (k l : Layer) → is_leaf l → bare k ≡ l → k ≡ l
leaf_is (layer.If c t e) l leaf h = absurd (subst is_leaf (sym h) leaf)
leaf_is (layer.While c b) l leaf h = absurd (subst is_leaf (sym h) leaf)
leaf_is (layer.For f c n b) l leaf h = absurd (subst is_leaf (sym h) leaf)
leaf_is k l leaf h = h

bare_leaf : (l : Layer) → is_leaf l → bare l ≡ l
bare_leaf (layer.If c t e) leaf = absurd leaf
bare_leaf (layer.While c b) leaf = absurd leaf
bare_leaf (layer.For f c n b) leaf = absurd leaf
bare_leaf l leaf = refl

pub record IsIf (cond : ExprTree) (first second : List StmtTree) (k : Layer) : Type 0 where
  pub then_part : List StmtTree
  pub else_part : List StmtTree
  pub is : k ≡ layer.If cond then_part else_part
  pub first_is : lineless_stmts then_part ≡ lineless_stmts first
  pub second_is : lineless_stmts else_part ≡ lineless_stmts second

if_is : (k : Layer) (cond : ExprTree) (first second : List StmtTree) → bare k ≡ bare (layer.If cond first second) →
    IsIf cond first second k
if_is (layer.If c t e) cond first second h =
    record { then_part = t; else_part = e; is = cc; first_is = cc; second_is = cc }
if_is k cond first second h = absurd (cc)

pub record IsWhile (cond : ExprTree) (inside : List StmtTree) (k : Layer) : Type 0 where
  pub body : List StmtTree
  pub is : k ≡ layer.While cond body
  pub body_is : lineless_stmts body ≡ lineless_stmts inside

while_is : (k : Layer) (cond : ExprTree) (inside : List StmtTree) → bare k ≡ bare (layer.While cond inside) →
    IsWhile cond inside k
while_is (layer.While c b) cond inside h = record { body = b; is = cc; body_is = cc }
while_is k cond inside h = absurd (cc)

pub record IsFor (first : Option SimpleTree) (cond : ExprTree) (next : Option SimpleTree) (inside : List StmtTree)
    (k : Layer) : Type 0 where
  pub start : Option SimpleTree
  pub step : Option SimpleTree
  pub body : List StmtTree
  pub is : k ≡ layer.For start cond step body
  pub start_is : lineless_option start ≡ lineless_option first
  pub step_is : lineless_option step ≡ lineless_option next
  pub body_is : lineless_stmts body ≡ lineless_stmts inside

for_is : (k : Layer) (first : Option SimpleTree) (cond : ExprTree) (next : Option SimpleTree)
    (inside : List StmtTree) → bare k ≡ bare (layer.For first cond next inside) → IsFor first cond next inside k
for_is (layer.For f c n b) first cond next inside h =
    record { start = f; step = n; body = b; is = cc; start_is = cc; step_is = cc; body_is = cc }
for_is k first cond next inside h = absurd (cc)

-- A kind that has no statements in it.
pub record IsLeaf (k : StmtKind) : Type 0 where
  pub top : Layer
  pub leaf : is_leaf top
  pub is : k ≡ roll-StmtKind top

-- what is such a kind, lines aside, is it
pub leaf_kind : (k other : StmtKind) → IsLeaf other → lineless_kind k ≡ lineless_kind other → k ≡ other
leaf_kind k other l h =
    let same : bare (out-StmtKind k) ≡ bare l.top = bare_out k l.top (h ∙ ap lineless_kind l.is) in
    sym (roll-out-StmtKind k) ∙ ap roll-StmtKind
    (leaf_is (out-StmtKind k) l.top l.leaf (same ∙ bare_leaf l.top l.leaf)) ∙ sym l.is

-- an `if`, lines aside
pub if_kind : (k : StmtKind) (cond : ExprTree) (first second : List StmtTree) →
    lineless_kind k ≡ lineless_kind (stmt.If cond first second) → IsIf cond first second (out-StmtKind k)
if_kind k cond first second h = if_is (out-StmtKind k) cond first second
    (bare_out k (layer.If cond first second) (h ∙ ap lineless_kind (sym (stmt.rolls-If cond first second))))

pub while_kind : (k : StmtKind) (cond : ExprTree) (inside : List StmtTree) →
    lineless_kind k ≡ lineless_kind (stmt.While cond inside) → IsWhile cond inside (out-StmtKind k)
while_kind k cond inside h = while_is (out-StmtKind k) cond inside
    (bare_out k (layer.While cond inside) (h ∙ ap lineless_kind (sym (stmt.rolls-While cond inside))))

pub for_kind : (k : StmtKind) (first : Option SimpleTree) (cond : ExprTree) (next : Option SimpleTree)
    (inside : List StmtTree) → lineless_kind k ≡ lineless_kind (stmt.For first cond next inside) →
    IsFor first cond next inside (out-StmtKind k)
for_kind k first cond next inside h = for_is (out-StmtKind k) first cond next inside
    (bare_out k (layer.For first cond next inside) (h ∙ ap lineless_kind (sym (stmt.rolls-For first cond next inside))))

-- a kind by its layer
pub kind_of_layer : (k : StmtKind) (l : Layer) → out-StmtKind k ≡ l → k ≡ roll-StmtKind l
kind_of_layer k l h = sym (roll-out-StmtKind k) ∙ ap roll-StmtKind h
