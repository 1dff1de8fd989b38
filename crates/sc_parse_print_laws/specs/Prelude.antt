-- What this crate's contracts, its proofs and the crates above cite, passed on from one place. Declares nothing.
pub use Rattle.sc_ast.specs.Prelude.{SameButLines, head_of, param_of, printed, section_height, section_words}
pub use Rattle.sc_parse_print_laws.specs.DeclsRead.{DeclsReadAs, DeclsSpell, decls_text}
pub use Rattle.sc_parse_print_laws.specs.Dense.{SaysAll, dense_decl, dense_text, dense_words}
pub use Rattle.sc_parse_print_laws.specs.Kept.{is_kept, kept_base, kept_step, kept_value}
pub use Rattle.sc_parse_print_laws.specs.KeptDecls.{is_kept_decl, kept_const, kept_function, kept_global, kept_head}
pub use Rattle.sc_parse_print_laws.specs.KeptDecls.{kept_init, kept_length, kept_local, kept_member, kept_name}
pub use Rattle.sc_parse_print_laws.specs.KeptDecls.{kept_param, kept_result, kept_struct, kept_type, some_kept}
pub use Rattle.sc_parse_print_laws.specs.KeptSections.{kept_export, kept_import, kept_section}
pub use Rattle.sc_parse_print_laws.specs.KeptStmts.{all_kept, are_kept, is_kept_stmt, kept_call, kept_kind, kept_malloc}
pub use Rattle.sc_parse_print_laws.specs.KeptStmts.{kept_option, kept_place, kept_simple}
pub use Rattle.sc_parse_print_laws.specs.ReadsBack.{ReadsAs, WordsSpell, expr_text}
pub use Rattle.sc_parse_print_laws.specs.SectionsRead.{SectionReadsAs, SectionSpells}
pub use Rattle.sc_parse_print_laws.specs.StmtsRead.{StmtsReadAs, StmtsSpell, stmts_text}
pub use Rattle.sc_parse_print_laws.specs.Symbols.{piece_symbols, symbols}
unfoldable pub use Rattle.sc_parse_print_laws.specs.Symbols.{word_symbol}
