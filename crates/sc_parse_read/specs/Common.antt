-- The names from below that several definitions of this crate cite, passed on from one place. Declares nothing.
pub use Rattle.sc_lex.specs.Prelude.{IsCut, IsSplit, RefusesBytes, RefusesHeading, line_after, line_at}
pub use Rattle.sc_lex.specs.declared.section.Section.{Section}
pub use Rattle.sc_lex.specs.declared.token.Token.{Token}
pub use Rattle.sc_ast.specs.declared.section.SectionTree.{SectionTree}
pub use Rattle.sc_parse.specs.Prelude.{IsParsed, lexemes_of}
