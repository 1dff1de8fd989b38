-- A text of words that spell a section is read as its tree, and so is the text of one that performs.
use Rattle.sc_back_reread_laws.proofs.Common.{Found, IsParsedAs, IsReadAs, Lexeme, Lined, List, PerformingTextsAreRead}
use Rattle.sc_back_reread_laws.proofs.Common.{Piece, Reading, SameButLines, Say, SectionTree, SpellsSection, Token, []}
use Rattle.sc_back_reread_laws.proofs.Common.{ap, append-nil, arith, back_text, back_tree, begins_heading, codes}
use Rattle.sc_back_reread_laws.proofs.Common.{export_text, flat_map, found_lines, functions_text, heading_begins}
use Rattle.sc_back_reread_laws.proofs.Common.{import_text, lexemes_of, main_text, map, most_open, proto_text, refl}
use Rattle.sc_back_reread_laws.proofs.Common.{section_height, section_reads, section_text, subst, sym, symbol_of}
use Rattle.sc_back_reread_laws.proofs.Common.{symbols, text_of, true, ℕ, ◌++◌, ◌∙◌, ◌∷◌, ◌≡◌, ◌≤◌}
use Rattle.sc_parse.specs.Sections as spell
use Rattle.sc_parse_print_laws.proofs.Heights.{sections_same}
use Rattle.sc_back_reread_laws.proofs.Nesting.{AtMost, Nested, nested_more, none_more, opens, opens_lexemes}
use Rattle.sc_back_reread_laws.proofs.Performing.{IsPerforming, section_is}

symbols_of : (bytes : List ℕ) (tokens : List Token) →
    map (λ t. t.symbol) (lexemes_of bytes tokens) ≡ map (λ token. symbol_of bytes token) tokens
symbols_of bytes [] = refl
symbols_of bytes (t ∷ tokens) = ap (λ ss. symbol_of bytes t ∷ ss) (symbols_of bytes tokens)

pub line_is : (line : ℕ) (ts : List Lexeme) (tree : SectionTree) → SpellsSection line ts tree → tree.line ≡ line
line_is line _ _ (spell.section t name is directives decls) = refl

-- A text of words in lines, which spell a section that is the tree, lines aside; this is low, with few brackets open.
pub record IsWritten (tree : SectionTree) (text : List ℕ) : Type 0 where
  pub pieces : List Piece
  pub reads : (line : ℕ) → Reading pieces
      (λ ts. (other : SectionTree) × SpellsSection line ts other × SameButLines other tree)
  pub low : section_height tree ≤ 256
  pub lined : Lined pieces
  pub spelled : text_of pieces ≡ text
  pub nested : Nested 1024 pieces

-- what is parsed of lexemes that say what the words say
parsed_as : (tree : SectionTree) (text : List ℕ) (is : IsWritten tree text) (lexemes : List Lexeme) →
    Say (symbols is.pieces) lexemes → (line : ℕ) → IsParsedAs line lexemes tree
parsed_as tree text is lexemes says line =
    let spelled = is.reads line lexemes says in
    let other = spelled.0 in
    let tall : section_height other ≡ section_height tree = sections_same other tree spelled.2 in
    let low = is.low in
    let few : most_open 0 lexemes ≡ opens 0 (symbols is.pieces) =
    opens_lexemes 0 lexemes ∙ ap (opens 0) says in
    let bound = is.nested.under 0 1024 [] (omega arith) (none_more 0 1024 (omega arith)) in
    let within = (subst (λ ss. AtMost 0 ss 1024) (append-nil (symbols is.pieces)) bound).within in
    record {
      other = other;
      parsed = record { spelled = spelled.1; low = omega (arith, tall, low); few = omega (arith, few, within) };
      same = spelled.2;
      at_line = line_is line lexemes other spelled.1;
    }

pub read_as : (tree : SectionTree) (text : List ℕ) → IsWritten tree text → begins_heading text ≡ true →
    IsReadAs text tree
read_as tree text is heading =
    let bytes : List ℕ = text_of is.pieces in
    let begins : begins_heading bytes ≡ true = ap begins_heading is.spelled ∙ heading in
    let found : Found bytes 0 (symbols is.pieces) = found_lines bytes begins is.lined [] refl refl in
    let says : Say (symbols is.pieces) (lexemes_of bytes found.tokens) =
    symbols_of bytes found.tokens ∙ found.says in
    subst (λ b. IsReadAs b tree) is.spelled (record {
      tokens = found.tokens;
      cut = found.cuts;
      parsed = parsed_as tree text is (lexemes_of bytes found.tokens) says;
    })

performed : (tree : SectionTree) (text : List ℕ) → IsPerforming tree text → IsWritten tree text
performed tree text is = record {
  pieces = is.pieces;
  reads = λ line ts said. section_reads (record tree { line = line }) is.kept ts (said ∙ is.says);
  low = let low = is.low in omega arith;
  lined = is.lined;
  spelled = is.spelled;
  nested = nested_more (omega arith) is.nested;
}

pub performing_texts : PerformingTextsAreRead
performing_texts interfaces comp rows interface at can =
    let whole : back_text interfaces comp rows ≡ section_text interfaces comp rows interface = rw at in
    subst (λ text. IsReadAs text (back_tree interfaces comp rows interface)) (sym whole)
    (read_as (back_tree interfaces comp rows interface) (section_text interfaces comp rows interface)
    (performed (back_tree interfaces comp rows interface) (section_text interfaces comp rows interface)
    (section_is interfaces comp rows interface can)) (heading_begins (interface.name ++ (codes "\n" ++
    (flat_map export_text interface.exports ++ (flat_map (import_text interfaces) interface.imports ++
    (flat_map (proto_text interfaces) interface.imports ++ (codes "unsigned int bt_n;\n" ++
    (functions_text interfaces rows 0 interface.exports ++ main_text interfaces comp rows)))))))))
