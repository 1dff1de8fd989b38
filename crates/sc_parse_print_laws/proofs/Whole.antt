-- The words of whole sections spell them, their text is cut into them, and what is printed reads back.
use Rattle.sc_parse_print_laws.proofs.Common.{Decl, DeclsReadAs, ExprTree, IsTrue, Lexeme, List, Piece, ReadsAs}
use Rattle.sc_parse_print_laws.proofs.Common.{SameButLines, SaysAll, SectionReadsAs, SectionSpells, SectionTree}
use Rattle.sc_parse_print_laws.proofs.Common.{SpellsDecl, SpellsDirectives, SpellsSection, StmtTree, StmtsReadAs, Token}
use Rattle.sc_parse_print_laws.proofs.Common.{[], and_parts, ap, append_assoc, ap₂, are_kept, decl_words, decls_text}
use Rattle.sc_parse_print_laws.proofs.Common.{dense_decl, dense_text, dense_words, export_words, expr_text, flat_map}
use Rattle.sc_parse_print_laws.proofs.Common.{heading_words, import_words, is_kept, is_kept_decl, is_name, kept_export}
use Rattle.sc_parse_print_laws.proofs.Common.{kept_import, kept_section, lexeme_of, lineless_decl, lineless_export}
use Rattle.sc_parse_print_laws.proofs.Common.{lineless_import, lines_at, list_all, map, newline, printed, refl}
use Rattle.sc_parse_print_laws.proofs.Common.{section_words, stmts_text, sym, symbol_of, symbols, text_of, true, word}
use Rattle.sc_parse_print_laws.proofs.Common.{ℕ, ◌++◌, ◌∙◌, ◌∷◌, ◌≡◌}
use Rattle.sc_ast.specs.declared.section.Decl.TheVariants as decl
use Rattle.sc_parse.specs.Sections as spell
use Rattle.sc_parse_print_laws.proofs.Reading.{joined_symbols, AllAlike, Reading, part, written, reads}
use Rattle.sc_parse_print_laws.proofs.Spacing.{Tidy, line_end, tidy_at}
use Rattle.sc_parse_print_laws.proofs.TreeSpacing.{Free, decl_tidy, each_tidy, decls_tidy, stmts_tidy}
use Rattle.sc_ast.specs.declared.section.ExportLine.{ExportLine}
use Rattle.sc_ast.specs.declared.section.ImportLine.{ImportLine}
use Rattle.sc_parse_print_laws.proofs.DirectiveWords.{export_says, export_line_is, import_text, import_says}
use Rattle.sc_parse_print_laws.proofs.DirectiveWords.{import_line_is, heading_text, heading_says, heading_line_is}
use Rattle.sc_parse_print_laws.proofs.DirectiveWords.{heading_begins}
use Rattle.sc_parse_print_laws.proofs.Lined.{Lined, tidy, line, found_lines, Found, cut_of}
use Rattle.sc_parse_print_laws.proofs.Sections.{decls_read}
use Rattle.sc_parse_print_laws.proofs.Spelling.{words_spell}
use Rattle.sc_parse_print_laws.proofs.Stmts.{stmts_spell}

-- Directives that are spelled and are the same, lines aside.
record Directed (ts : List Lexeme) (exports : List ExportLine) (imports : List ImportLine) : Type 0 where
  other_exports : List ExportLine
  other_imports : List ImportLine
  spelled : SpellsDirectives ts other_exports other_imports
  same_exports : map lineless_export other_exports ≡ map lineless_export exports
  same_imports : map lineless_import other_imports ≡ map lineless_import imports

imports_read : (imports : List ImportLine) → list_all kept_import imports ≡ true →
    Reading (flat_map import_words imports) (λ ts. Directed ts [] imports)
unfolding import_words
imports_read [] k = reads [] _ (record {
  other_exports = [];
  other_imports = [];
  spelled = spell.none;
  same_exports = refl;
  same_imports = refl;
})
imports_read (l ∷ imports) k =
    let parts = and_parts (kept_import l) (list_all kept_import imports) k in
    let names = and_parts (is_name l.comp) (is_name l.name) parts.0 in
    reads (written (import_text l.comp l.name) ∷ part (flat_map import_words imports) ∷ [])
    (λ ts. Directed ts [] (l ∷ imports)) (λ t is us said.
    let rest = imports_read imports parts.1 us said in
    record {
      other_exports = rest.other_exports;
      other_imports = record l { line = t.line } ∷ rest.other_imports;
      spelled = spell.«import» t l.comp l.name (is ∙ import_says l.comp l.name names.0 names.1) rest.spelled;
      same_exports = rest.same_exports;
      same_imports = ap (λ xs. lineless_import l ∷ xs) rest.same_imports;
    })

exports_read : (exports : List ExportLine) (imports : List ImportLine) → list_all kept_export exports ≡ true →
    list_all kept_import imports ≡ true →
    Reading (flat_map export_words exports ++ flat_map import_words imports) (λ ts. Directed ts exports imports)
unfolding export_words
exports_read [] imports k j = imports_read imports j
exports_read (l ∷ exports) imports k j =
    let parts = and_parts (kept_export l) (list_all _ exports) k in
    reads (written _ ∷ part (flat_map export_words exports ++ flat_map import_words imports) ∷ []) _ (λ t is us said.
    let rest = exports_read exports imports parts.1 j us said in
    record {
      other_exports = record l { line = t.line } ∷ rest.other_exports;
      other_imports = rest.other_imports;
      spelled = spell.export t l.name (is ∙ export_says l.name parts.0) rest.spelled;
      same_exports = ap (λ xs. lineless_export l ∷ xs) rest.same_exports;
      same_imports = rest.same_imports;
    })

same_section : (tree : SectionTree) (exports : List ExportLine) (imports : List ImportLine) (decls : List Decl) →
    map lineless_export exports ≡ map lineless_export tree.exports →
    map lineless_import imports ≡ map lineless_import tree.imports →
    map lineless_decl decls ≡ map lineless_decl tree.decls →
    SameButLines (record {
      name = tree.name;
      line = tree.line;
      exports = exports;
      imports = imports;
      decls = decls;
    }) tree
same_section tree exports imports decls p q r = rw (p, q, r)

-- what a section keeps, part by part
pub record Keeps (tree : SectionTree) : Type 0 where
  pub name : is_name tree.name ≡ true
  pub exports : list_all kept_export tree.exports ≡ true
  pub imports : list_all kept_import tree.imports ≡ true
  pub decls : list_all is_kept_decl tree.decls ≡ true

pub keeps : (tree : SectionTree) → IsTrue (kept_section tree) → Keeps tree
keeps tree k =
    let a = and_parts _ _ k in
    let b = and_parts _ _ a.1 in
    let c = and_parts _ _ b.1 in
    record { name = a.0; exports = b.0; imports = c.0; decls = c.1 }

-- A section, whose declarations may be written in other words than they are printed in.
pub section_with : (tree : SectionTree) (decls : List Piece) → is_name tree.name ≡ true →
    list_all kept_export tree.exports ≡ true → list_all kept_import tree.imports ≡ true →
    Reading decls (λ ts. AllAlike SpellsDecl lineless_decl ts tree.decls) → Reading
    (heading_words tree.name ++ (flat_map export_words tree.exports ++ (flat_map import_words tree.imports ++ decls)))
    (λ us. (other : SectionTree) × SpellsSection tree.line us other × SameButLines other tree)
section_with tree decls name kept_exports kept_imports read ts h =
    let exports : List Piece = flat_map export_words tree.exports in
    let imports : List Piece = flat_map import_words tree.imports in
    reads (written (heading_text tree.name) ∷ part (exports ++ imports) ∷ part decls ∷ [])
    (λ us. (other : SectionTree) × SpellsSection tree.line us other × SameButLines other tree)
    (λ t is leading directed back declared.
    let d = exports_read tree.exports tree.imports kept_exports kept_imports leading directed in
    let ds = read back declared in
    let other : SectionTree = record {
      name = tree.name;
      line = tree.line;
      exports = d.other_exports;
      imports = d.other_imports;
      decls = ds.others;
    } in (
      other,
      spell.section t tree.name (is ∙ heading_says tree.name name) d.spelled ds.spelled,
      same_section tree d.other_exports _ ds.others d.same_exports d.same_imports ds.same,
    )) ts
    (h ∙ ap (λ pieces. symbols (word (heading_text tree.name) ∷ pieces)) (sym (append_assoc exports imports decls)))

pub section_reads : (tree : SectionTree) → IsTrue (kept_section tree) → SectionSpells tree
section_reads tree k =
    let kept = keeps tree k in
    section_with tree _ kept.name kept.exports kept.imports (λ ts said. decls_read _ kept.decls ts said)

pub exports_lined : (exports : List ExportLine) → list_all kept_export exports ≡ true → (more : List Piece) →
    Lined more → Lined (flat_map export_words exports ++ more)
unfolding export_words
exports_lined [] k more l = l
exports_lined (x ∷ exports) k more l =
    let parts = and_parts (kept_export x) (list_all _ exports) k in
    line (export_line_is x.name parts.0) (exports_lined exports parts.1 more l)

pub imports_lined : (imports : List ImportLine) → list_all kept_import imports ≡ true → (more : List Piece) →
    Lined more → Lined (flat_map import_words imports ++ more)
unfolding import_words
imports_lined [] k more l = l
imports_lined (x ∷ imports) k more l =
    let parts = and_parts _ (list_all _ imports) k in
    let names = and_parts (is_name x.comp) (is_name x.name) parts.0 in
    line (import_line_is x.comp x.name names.0 names.1) (imports_lined imports parts.1 more l)

-- a section, whose declarations may be written in other words than they are printed in, is cut
pub cut_with : (tree : SectionTree) → IsTrue (kept_section tree) → (decls : List Piece) → Tidy decls [] →
    let words = heading_words tree.name ++ (flat_map export_words tree.exports ++
    (flat_map import_words tree.imports ++ decls)) in Found (text_of words) 0 (symbols words)
cut_with tree k decls apart =
    let kept = keeps tree k in
    let following = flat_map export_words tree.exports ++ (flat_map import_words tree.imports ++ decls) in
    found_lines _ (heading_begins (tree.name ++ 10 ∷ text_of following)) (line (heading_line_is _ kept.name)
    (exports_lined tree.exports kept.exports _ (imports_lined tree.imports kept.imports _ (tidy apart)))) [] refl refl

pub section_cut : (tree : SectionTree) → IsTrue (kept_section tree) →
    Found (printed tree) 0 (symbols (section_words tree))
section_cut tree k = cut_with tree k (flat_map decl_words tree.decls) (decls_tidy _ (keeps tree k).decls [])

-- an empty line at the start may be left out
without_line : {pieces : List Piece} {rest : List ℕ} → Tidy (newline ∷ pieces) rest → Tidy pieces rest
without_line (line_end t) = t

pub dense_tidy : (d : Decl) → IsTrue (is_kept_decl d) → Free (dense_decl d)
dense_tidy (decl.Function tree) k rest = without_line (decl_tidy (decl.Function tree) k rest)
dense_tidy d k rest = decl_tidy d k rest

pub decl_symbols : (d : Decl) → symbols (dense_decl d) ≡ symbols (decl_words d)
decl_symbols (decl.Struct tree) = refl
decl_symbols _ = refl

same_after : (a b c : List Piece) → symbols b ≡ symbols c → symbols (a ++ b) ≡ symbols (a ++ c)
same_after a b c h = joined_symbols a b ∙ ap (λ s. symbols a ++ s) h ∙ sym (joined_symbols a c)

decls_symbols : (ds : List Decl) → symbols (flat_map dense_decl ds) ≡ symbols (flat_map decl_words ds)
decls_symbols [] = refl
decls_symbols (d ∷ ds) = joined_symbols (dense_decl d) (flat_map _ ds) ∙ ap₂ (λ a b. a ++ b) (decl_symbols d)
    (decls_symbols ds) ∙ sym (joined_symbols (decl_words d) (flat_map _ ds))

section_symbols : (tree : SectionTree) → symbols (dense_words tree) ≡ symbols (section_words tree)
section_symbols tree =
    let exports = flat_map export_words tree.exports in
    let imports = flat_map import_words tree.imports in
    let dense = flat_map dense_decl tree.decls in
    let decls = flat_map decl_words tree.decls in
    same_after (heading_words _) (exports ++ (imports ++ dense)) (exports ++ (imports ++ decls)) (same_after exports
    (imports ++ dense) (imports ++ decls) (same_after imports dense decls (decls_symbols _)))

pub dense_cut : (tree : SectionTree) → IsTrue (kept_section tree) →
    SaysAll (dense_text tree) (symbols (section_words tree))
dense_cut tree k =
    let found = cut_with tree k _ (each_tidy dense_decl is_kept_decl dense_tidy tree.decls (keeps tree k).decls []) in
    record { tokens = found.tokens; cut = found.cuts; says = found.says ∙ section_symbols tree }

said : (bytes : List ℕ) (tokens : List Token) → map (λ t. t.symbol) (map (λ token. lexeme_of bytes token) tokens) ≡
    map (λ t. symbol_of bytes t) tokens
said bytes [] = refl
said bytes (t ∷ ts) = ap (λ x. symbol_of bytes t ∷ x) (said bytes ts)

pub reads_back : (expr : ExprTree) → IsTrue (is_kept expr) → ReadsAs (expr_text expr) expr
reads_back expr kept =
    let found = cut_of _ (tidy_at expr kept [] 11 [] refl).0 in
    record { tokens = found.tokens; cut = found.cuts; spelled = words_spell expr kept _ (said _ _ ∙ found.says) }

pub stmts_read_back : (stmts : List StmtTree) → IsTrue (are_kept stmts) → (depth : ℕ) →
    StmtsReadAs (stmts_text depth stmts) stmts
stmts_read_back stmts kept depth =
    let found = cut_of (lines_at depth _) (stmts_tidy stmts kept depth []) in
    let spelled = stmts_spell stmts kept depth _ (said _ _ ∙ found.says) in
    record { tokens = found.tokens; cut = found.cuts; others = spelled.0; spelled = spelled.1; same = spelled.2 }

pub decls_read_back : (ds : List Decl) → IsTrue (list_all is_kept_decl ds) → DeclsReadAs (decls_text ds) ds
decls_read_back ds kept =
    let found = cut_of (flat_map _ ds) (decls_tidy ds kept []) in
    let read = decls_read ds kept _ (said _ _ ∙ found.says) in
    record { tokens = found.tokens; cut = found.cuts; others = read.others; spelled = read.spelled; same = read.same }

pub section_reads_back : (tree : SectionTree) → IsTrue (kept_section tree) → SectionReadsAs (printed tree) tree
section_reads_back tree kept =
    let found = section_cut tree kept in
    let spelled = section_reads tree kept _ (said _ _ ∙ found.says) in
    record { tokens = found.tokens; cut = found.cuts; other = spelled.0; spelled = spelled.1; same = spelled.2 }
