-- How a section is spelled: its compartment line, its directives, and its declarations.
use Rattle.sc_parse.specs.Common.{Decl, ExportLine, ImportLine, Lexeme, SectionTree}
use Rattle.std.specs.Prelude.{◌≡◌, ℕ, List, [], ◌∷◌, ◌++◌}
use Rattle.sc_parse_expr.specs.declared.lexeme.Symbol.TheVariants as symbol
use Rattle.sc_parse.specs.Lists.{Grouped}
use Rattle.sc_parse.specs.Declarations.{SpellsDecl}

-- Export lines and import lines in any order, each list in its own.
pub data SpellsDirectives : List Lexeme → List ExportLine → List ImportLine → Type 0 where
  none : SpellsDirectives [] [] []
  export : {ts : List Lexeme} {exports : List ExportLine} {imports : List ImportLine} (t : Lexeme) (name : List ℕ) →
      t.symbol ≡ symbol.Export name → SpellsDirectives ts exports imports →
      SpellsDirectives (t ∷ ts) (record { name = name; line = t.line } ∷ exports) imports
  «import» : {ts : List Lexeme} {exports : List ExportLine} {imports : List ImportLine} (t : Lexeme)
      (comp name : List ℕ) → t.symbol ≡ symbol.Import comp name → SpellsDirectives ts exports imports →
      SpellsDirectives (t ∷ ts) exports (record { comp = comp; name = name; line = t.line } ∷ imports)

-- A section whose compartment line is this one of the whole text.
pub data SpellsSection (line : ℕ) : List Lexeme → SectionTree → Type 0 where
  section : {ts us : List Lexeme} {exports : List ExportLine} {imports : List ImportLine} {decls : List Decl}
      (t : Lexeme) (name : List ℕ) → t.symbol ≡ symbol.Compartment name → SpellsDirectives ts exports imports →
      Grouped SpellsDecl us decls → SpellsSection line (t ∷ (ts ++ us))
      (record { name = name; line = line; exports = exports; imports = imports; decls = decls })
