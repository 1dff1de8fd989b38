-- The height of a tree doesn't depend on its lines.
use Rattle.sc_parse_print_laws.proofs.Common.{Decl, Each, Inside, List, LocalTree, None, Option, SameButLines}
use Rattle.sc_parse_print_laws.proofs.Common.{SectionTree, SimpleTree, Some, StmtKind, StmtKind-F, StmtTree, [], ap}
use Rattle.sc_parse_print_laws.proofs.Common.{ap₂, bare_stmt, decl_height, decls_height, everywhere, expr_height}
use Rattle.sc_parse_print_laws.proofs.Common.{for_height, if_height, kind_height, lineless_decl, lineless_kind}
use Rattle.sc_parse_print_laws.proofs.Common.{lineless_local, lineless_option, lineless_stmt, lineless_stmts}
use Rattle.sc_parse_print_laws.proofs.Common.{local_height, locals_height, map, max, option_height, refl, roll-StmtKind}
use Rattle.sc_parse_print_laws.proofs.Common.{rules, section_height, stmt_height, stmt_induction, stmts_height, sym}
use Rattle.sc_parse_print_laws.proofs.Common.{tree_height, while_height, ◌+◌, ◌∙◌, ◌∷◌, ◌≡◌}
use Rattle.sc_ast.specs.declared.stmt.StmtTree as trees
use Rattle.sc_ast.specs.declared.stmt.StmtKind as kinds
use Rattle.sc_ast.specs.declared.stmt.StmtKind.TheOpen as layer
use Rattle.sc_ast.specs.declared.section.Decl.TheVariants as decl
use Rattle.sc_parse_print_laws.proofs.Stmts.{bare_if, bare_while, bare_for}

bare_option : (s : Option SimpleTree) → option_height (lineless_option s) ≡ option_height s
bare_option None = refl
bare_option (Some s) = refl

abbrev Same : StmtTree → Type 0
Same s = stmt_height (lineless_stmt s) ≡ stmt_height s

each_same : (stmts : List StmtTree) → Each Same stmts → stmts_height (lineless_stmts stmts) ≡ stmts_height stmts
each_same [] h = refl
each_same (s ∷ stmts) h = ap₂ max h.0 (each_same stmts h.1)

kind_same : (k : StmtKind-F StmtKind StmtTree) → Inside Same k →
    kind_height (lineless_kind (roll-StmtKind k)) ≡ kind_height (roll-StmtKind k)
unfolding roll-StmtKind denote.Hole.Carrier.roll
kind_same layer.Empty h = search (rules, kinds.the_lemmas, trees.the_lemmas)
kind_same (layer.If c t e) h = ap kind_height (bare_if c t e) ∙ if_height c _ _ ∙
    ap₂ (λ a b. max (expr_height c) (max a b)) (each_same t h.0) (each_same e h.1) ∙ sym (if_height c t e)
kind_same (layer.While c b) h = ap kind_height (bare_while c b) ∙ while_height c _ ∙
    ap (λ a. max (expr_height c) a) (each_same b h) ∙ sym (while_height c b)
kind_same (layer.For f c n b) h = ap kind_height (bare_for f c n b) ∙ for_height _ c _ (lineless_stmts b) ∙
    ap₂ (λ x y. max (max x y) (max (expr_height c) (stmts_height (lineless_stmts b)))) (bare_option f) (bare_option n) ∙
    ap (λ a. max (max (option_height f) (option_height n)) (max (expr_height c) a)) (each_same b h) ∙
    sym (for_height f c n b)
kind_same _ h = search (rules, kinds.the_lemmas, trees.the_lemmas)

stmt_same : (s : StmtTree) → Same s
stmt_same = stmt_induction Same (λ line k h. ap stmt_height (bare_stmt line _) ∙
    tree_height 0 _ ∙ ap (λ n. n + 1) (kind_same k h) ∙ sym (tree_height line _))

locals_same : (locals : List LocalTree) → locals_height (map lineless_local locals) ≡ locals_height locals
locals_same [] = refl
locals_same (l ∷ locals) = ap (λ n. max (local_height l) n) (locals_same locals)

decl_same : (d : Decl) → decl_height (lineless_decl d) ≡ decl_height d
decl_same (decl.Function tree) = ap₂ max (locals_same _) (each_same _ (everywhere Same stmt_same _))
decl_same _ = refl

decls_same : (ds : List Decl) → decls_height (map lineless_decl ds) ≡ decls_height ds
decls_same [] = refl
decls_same (d ∷ ds) = ap₂ max (decl_same d) (decls_same ds)

-- sections that are the same, lines aside, are of one height
pub sections_same : (tree other : SectionTree) → SameButLines tree other → section_height tree ≡ section_height other
sections_same tree other h = sym (decls_same _) ∙ ap (λ s. section_height s) h ∙ decls_same _
