-- The names from below that several definitions of this crate cite, passed on from one place. Declares nothing.
pub use Rattle.sc_event.specs.Prelude.{comp_at}
pub use Rattle.sc_event.specs.declared.interface.Interface.{Interface}
pub use Rattle.sc_event.specs.declared.interface.Interfaces.{Interfaces}
pub use Rattle.sc_event.specs.declared.row.Row.{Row}
pub use Rattle.sc_lex.specs.Prelude.{IsCut, IsSplit}
pub use Rattle.sc_ast.specs.Prelude.{SameButLines, is_ident}
pub use Rattle.sc_ast.specs.declared.section.SectionTree.{SectionTree}
pub use Rattle.sc_parse_read.specs.Reading.{Reads}
pub use Rattle.sc_back.specs.Prelude.{AllBecome, CanPerform, back_text, back_tree, new_texts}
