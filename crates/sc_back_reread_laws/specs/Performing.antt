-- Helping: the text of a section that performs is read as its tree.
use Rattle.sc_back_reread_laws.specs.Common.{CanPerform, Interface, Interfaces, IsCut, Row, SameButLines, SectionTree}
use Rattle.sc_back_reread_laws.specs.Common.{back_text, back_tree, comp_at}
use Rattle.sc_parse.specs.Prelude.{IsParsed, lexemes_of}
use Rattle.std.specs.Prelude.{◌≡◌, ℕ, List, Some}
use Rattle.sc_lex.specs.declared.token.Token.{Token}
use Rattle.sc_parse_expr.specs.declared.lexeme.Lexeme.{Lexeme}

-- The lexemes are parsed in this line as a section that is the tree, lines aside.
pub record IsParsedAs (line : ℕ) (lexemes : List Lexeme) (tree : SectionTree) : Type 0 where
  pub other : SectionTree
  pub parsed : IsParsed line lexemes other
  pub same : SameButLines other tree
  pub at_line : other.line ≡ line

-- The bytes of a section are read as the tree, lines aside, in whichever line they begin.
pub record IsReadAs (bytes : List ℕ) (tree : SectionTree) : Type 0 where
  pub tokens : List Token
  pub cut : IsCut bytes tokens
  pub parsed : (line : ℕ) → IsParsedAs line (lexemes_of bytes tokens) tree

abbrev pub PerformingTextsAreRead : Type 0
PerformingTextsAreRead =
    (interfaces : Interfaces) (comp : ℕ) (rows : List Row) (interface : Interface) →
    comp_at interfaces comp ≡ Some interface → CanPerform interfaces rows interface →
    IsReadAs (back_text interfaces comp rows) (back_tree interfaces comp rows interface)
