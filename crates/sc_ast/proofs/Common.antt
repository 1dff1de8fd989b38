-- The names that several proofs of this crate cite, passed on from one place. Declares nothing.
pub use Rattle.std.proofs.Common.{List, Option, [], ap, arith, drop, get_or, length, map, max, replicate, rules, subst}
pub use Rattle.std.proofs.Common.{sym, take, ℕ, ◌*◌, ◌++◌, ◌+◌, ◌∙◌, ◌∷◌, ◌≡◌, ◌≤◌}
pub use Rattle.std.proofs.lemmas.Grind.{common_steps, flat_map-append}
pub use Rattle.std.specs.List.{flat_map, list_all}
pub use Rattle.sc_ast.specs.Prelude.{call_height, chain_words, comma, const_words, decl_words, decls_height}
pub use Rattle.sc_ast.specs.Prelude.{export_words, expr_height, expr_words, exprs_height, import_words, kind_height}
pub use Rattle.sc_ast.specs.Prelude.{stmt_kind_of, layouts, limited, lineless_kind, lineless_stmt, lines_at, local_line}
pub use Rattle.sc_ast.specs.Prelude.{locals_height, member_line, option_height, param_of, param_words, params_words}
pub use Rattle.sc_ast.specs.Prelude.{piece_text, simple_kind_height, star_words, stmt_height, stmts_height, text_of}
pub use Rattle.sc_ast.specs.declared.expr.ExprTree.{ExprTree, ExprTree-F, fold-ExprTree, fold-roll-ExprTree}
pub use Rattle.sc_ast.specs.declared.expr.ExprTree.{ind-ExprTree, map-ExprTree, roll-ExprTree}
pub use Rattle.sc_ast.specs.declared.stmt.StmtKind.{StmtKind, StmtKind-F, fold-StmtKind, fold-roll-StmtKind}
pub use Rattle.sc_ast.specs.declared.stmt.StmtKind.{map-StmtKind, roll-StmtKind, the_lemmas}
pub use Rattle.sc_ast.specs.declared.stmt.StmtTree.{StmtTree, StmtTree-F, fold-StmtTree, fold-roll-StmtTree}
pub use Rattle.sc_ast.specs.declared.stmt.StmtTree.{ind-StmtTree, roll-StmtTree}
