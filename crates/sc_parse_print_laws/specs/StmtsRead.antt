-- Helping: what it means that printed statements read back.
use Rattle.sc_parse_print_laws.specs.Common.{IsCut, Lexeme, SpellsStmts, StmtTree, Token, layouts, lexeme_of}
use Rattle.sc_parse_print_laws.specs.Common.{lineless_stmts, lines_at, text_of}
use Rattle.std.specs.Prelude.{◌≡◌, ℕ, List, map}
use Rattle.sc_parse_print_laws.specs.Symbols.{symbols}

-- lexemes that say what the words of the statements say, at whatever level they are printed, spell statements that are
-- the same, lines aside
abbrev pub StmtsSpell : List StmtTree → Type 0
StmtsSpell stmts =
    (depth : ℕ) (lexemes : List Lexeme) → map (λ t. t.symbol) lexemes ≡ symbols (lines_at depth (layouts stmts)) →
    (others : List StmtTree) × SpellsStmts lexemes others × (lineless_stmts others ≡ lineless_stmts stmts)

-- the bytes of the statements as they are printed at a level
abbrev pub stmts_text : ℕ → List StmtTree → List ℕ
stmts_text depth stmts = text_of (lines_at depth (layouts stmts))

-- The bytes are cut into tokens, and these spell statements that are these ones, lines aside.
pub record StmtsReadAs (bytes : List ℕ) (stmts : List StmtTree) : Type 0 where
  pub tokens : List Token
  pub cut : IsCut bytes tokens
  pub others : List StmtTree
  pub spelled : SpellsStmts (map (λ token. lexeme_of bytes token) tokens) others
  pub same : lineless_stmts others ≡ lineless_stmts stmts
