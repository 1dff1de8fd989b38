-- Helping: sections that are printed without empty lines.
use Rattle.sc_parse_print_laws.specs.Common.{Decl, IsCut, Piece, SectionTree, Symbol, Token, decl_words, export_words}
use Rattle.sc_parse_print_laws.specs.Common.{heading_words, import_words, symbol_of, text_of}
use Rattle.std.specs.Prelude.{◌≡◌, ℕ, List, ◌++◌, map, drop}
use Rattle.std.specs.List.{flat_map}
use Rattle.sc_ast.specs.declared.section.Decl.TheVariants.{Function}

-- a declaration without the empty line before a function
abbrev pub dense_decl : Decl → List Piece
dense_decl (Function tree) = drop 1 (decl_words (Function tree))
dense_decl decl = decl_words decl

abbrev pub dense_words : SectionTree → List Piece
dense_words tree =
    heading_words tree.name ++ (flat_map export_words tree.exports ++
    (flat_map import_words tree.imports ++ flat_map dense_decl tree.decls))

-- the bytes of the section without empty lines
abbrev pub dense_text : SectionTree → List ℕ
dense_text tree = text_of (dense_words tree)

-- The bytes are cut into tokens that say these symbols.
pub record SaysAll (bytes : List ℕ) (said : List Symbol) : Type 0 where
  pub tokens : List Token
  pub cut : IsCut bytes tokens
  pub says : map (λ token. symbol_of bytes token) tokens ≡ said
