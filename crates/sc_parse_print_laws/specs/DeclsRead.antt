-- Helping: what it means that printed declarations read back.
use Rattle.sc_parse_print_laws.specs.Common.{Decl, Grouped, IsCut, Lexeme, SpellsDecl, Token, decl_words, lexeme_of}
use Rattle.sc_parse_print_laws.specs.Common.{lineless_decl, text_of}
use Rattle.std.specs.Prelude.{◌≡◌, ℕ, List, map}
use Rattle.std.specs.List.{flat_map}
use Rattle.sc_parse_print_laws.specs.Symbols.{symbols}

-- lexemes that say what the words of the declarations say spell declarations that are the same, lines aside
abbrev pub DeclsSpell : List Decl → Type 0
DeclsSpell decls =
    (lexemes : List Lexeme) → map (λ t. t.symbol) lexemes ≡ symbols (flat_map decl_words decls) →
    (others : List Decl) × Grouped SpellsDecl lexemes others × (map lineless_decl others ≡ map lineless_decl decls)

-- the bytes of the declarations as they are printed
abbrev pub decls_text : List Decl → List ℕ
decls_text decls = text_of (flat_map decl_words decls)

-- The bytes are cut into tokens, and these spell declarations that are these ones, lines aside.
pub record DeclsReadAs (bytes : List ℕ) (decls : List Decl) : Type 0 where
  pub tokens : List Token
  pub cut : IsCut bytes tokens
  pub others : List Decl
  pub spelled : Grouped SpellsDecl (map (λ token. lexeme_of bytes token) tokens) others
  pub same : map lineless_decl others ≡ map lineless_decl decls
