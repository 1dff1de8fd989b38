-- Sections that perform: their words, and what these come to.
use Rattle.sc_back_reread_laws.proofs.Common.{AllByRecursion, AreNumbered, Bool, CanPerform, Decl, Entry, FunctionTree}
use Rattle.sc_back_reread_laws.proofs.Common.{Import, ImportLine, Interface, Interfaces, IsCalled, IsImported, IsSpoken}
use Rattle.sc_back_reread_laws.proofs.Common.{Lined, List, Piece, Proto, Row, SectionTree, Some, [], all_functions}
use Rattle.sc_back_reread_laws.proofs.Common.{and_from, and_parts, ap, append-nil, append_assoc, ap₂, arith, back_tree}
use Rattle.sc_back_reread_laws.proofs.Common.{codes, counter, decl_height, decl_tidy, decl_words, decls_height, ended}
use Rattle.sc_back_reread_laws.proofs.Common.{export_line, export_says, export_text, export_words, exports_lined, false}
use Rattle.sc_back_reread_laws.proofs.Common.{filter_map, flat_map, flat_map-append, function_text, function_tree}
use Rattle.sc_back_reread_laws.proofs.Common.{function_trees, functions_text, head_text, head_words, heading_line_is}
use Rattle.sc_back_reread_laws.proofs.Common.{heading_says, heading_words, if◌then◌else◌, import_head, import_says}
use Rattle.sc_back_reread_laws.proofs.Common.{import_text, import_words, imported, imports_lined, is_ident}
use Rattle.sc_back_reread_laws.proofs.Common.{is_kept_decl, is_name, is_reserved, joined_symbols, kept_export}
use Rattle.sc_back_reread_laws.proofs.Common.{kept_import, kept_section, line, list_all, main_proto, main_text}
use Rattle.sc_back_reread_laws.proofs.Common.{main_trees, map, newline, not, open_after, option_map, owner_name}
use Rattle.sc_back_reread_laws.proofs.Common.{piece_text, proto_head, proto_text, recursion_from_All, refl}
use Rattle.sc_back_reread_laws.proofs.Common.{section_height, section_text, section_words, subst, suc, sym, symbols}
use Rattle.sc_back_reread_laws.proofs.Common.{text_of, tidy, true, word, word_symbol, ℕ, ◌++◌, ◌<◌, ◌==◌, ◌^◌, ◌∙◌, ◌∷◌}
use Rattle.sc_back_reread_laws.proofs.Common.{◌≡◌, ◌≤◌}
use Rattle.sc_event.specs.declared.row.Entry.TheVariants as entry
use Rattle.sc_ast.specs.declared.section.Decl.TheVariants as decl
use Rattle.sc_parse_expr.specs.declared.mark.Keyword.TheVariants as keyword
use Rattle.sc_back.specs.Tree.{import_line}
use Rattle.sc_back_reread_laws.proofs.Nesting.{Even, Nested, even_ident, even_keyword, even_semicolon, nested_append}
use Rattle.sc_back_reread_laws.proofs.Nesting.{nested_blank, nested_even, nested_line, nested_more, nested_none}
use Rattle.sc_back_reread_laws.proofs.Rows.{AreSpoken, Same, counter_ident}
use Rattle.sc_back_reread_laws.proofs.Heads.{head_is}
use Rattle.sc_back_reread_laws.proofs.Functions.{function_is, same_append, same_none}

-- Directives.

pub ident_name : (name : List ℕ) → is_ident name ≡ true → is_name name ≡ true
ident_name name h = (and_parts (is_name name) (not (is_reserved name)) h).0

-- directives that are kept, come to this text, and open no bracket
record AreDirectives (pieces : List Piece) (text : List ℕ) : Type 0 where
  spelled : text_of pieces ≡ text
  nested : Nested 0 pieces

exports_kept : (exports : List Proto) → AllByRecursion IsCalled exports →
    list_all kept_export (map export_line exports) ≡ true
exports_kept [] h = refl
exports_kept (f ∷ exports) h = and_from (is_name f.name) (list_all kept_export (map export_line exports))
    (ident_name f.name h.0.name) (exports_kept exports h.1)

pub even_export : (name : List ℕ) → is_name name ≡ true → Even (word_symbol (codes "#pragma export " ++ name))
even_export name k count = ap (λ s. open_after s count) (export_says name k)

pub even_import : (comp name : List ℕ) → is_name comp ≡ true → is_name name ≡ true →
    Even (word_symbol (codes "#pragma import " ++ (comp ++ codes " " ++ name)))
even_import comp name j k count = ap (λ s. open_after s count) (import_says comp name j k)

exports_are : (exports : List Proto) → AllByRecursion IsCalled exports →
    AreDirectives (flat_map export_words (map export_line exports)) (flat_map export_text exports)
unfolding export_words
exports_are [] h = record { spelled = refl; nested = nested_none }
exports_are (f ∷ exports) h =
    let rest = exports_are exports h.1 in
    record {
      spelled = ap (λ t. codes "#pragma export " ++ (f.name ++ 10 ∷ t)) rest.spelled ∙
          ap (λ t. codes "#pragma export " ++ t)
          (sym (append_assoc f.name (codes "\n") (flat_map export_text exports)));
      nested = nested_even (even_export f.name (ident_name f.name h.0.name)) (nested_line rest.nested);
    }

import_is : (interfaces : Interfaces) (import : Import) (f : Proto) → imported interfaces import ≡ Some f →
    import_line interfaces import ≡ Some (record { comp = owner_name interfaces import; name = f.name; line = 1 })
import_is interfaces import f is = ap (option_map (λ g. record {
  comp = owner_name interfaces import;
  name = g.name;
  line = 1;
})) is

-- the lines of imports
record AreImports (interfaces : Interfaces) (imports : List Import) : Type 0 where
  kept : list_all kept_import (filter_map (import_line interfaces) imports) ≡ true
  spelled : text_of (flat_map import_words (filter_map (import_line interfaces) imports)) ≡
      flat_map (import_text interfaces) imports
  nested : Nested 0 (flat_map import_words (filter_map (import_line interfaces) imports))

-- an import before others
module _ (interfaces : Interfaces) (import : Import) (imports : List Import) (f : Proto)
    (is : imported interfaces import ≡ Some f) (owner : is_name (owner_name interfaces import) ≡ true)
    (name : is_name f.name ≡ true) (rest : AreImports interfaces imports) where
  abbrev first : ImportLine
  first = record { comp = owner_name interfaces import; name = f.name; line = 1 }

  first_spelled : text_of (import_words first) ≡ codes "#pragma import " ++ (owner_name interfaces import ++
      (codes " " ++ (f.name ++ codes "\n")))
  unfolding import_words
  first_spelled = ap (λ t. codes "#pragma import " ++ t)
      (append_assoc (owner_name interfaces import ++ codes " ") f.name (codes "\n") ∙
      append_assoc (owner_name interfaces import) (codes " ") (f.name ++ codes "\n"))

  first_nested : Nested 0 (import_words first)
  unfolding import_words
  first_nested = nested_even (even_import (owner_name interfaces import) f.name owner name) (nested_line nested_none)

  import_first : AreImports interfaces (import ∷ imports)
  import_first =
      let all : filter_map (import_line interfaces) (import ∷ imports) ≡
      first ∷ filter_map (import_line interfaces) imports = rw (import_is interfaces import f is) in
      let text : import_text interfaces import ≡ codes "#pragma import " ++ (owner_name interfaces import ++
      (codes " " ++ (f.name ++ codes "\n"))) = rw is in
      record {
        kept = ap (list_all kept_import) all ∙ and_from (kept_import first)
            (list_all kept_import (filter_map (import_line interfaces) imports))
            (and_from (is_name (owner_name interfaces import)) (is_name f.name) owner name) rest.kept;
        spelled = ap (λ ls. text_of (flat_map import_words ls)) all ∙
            flat_map-append piece_text (import_words first)
            (flat_map import_words (filter_map (import_line interfaces) imports)) ∙
            ap₂ (λ a b. a ++ b) (first_spelled ∙ sym text) rest.spelled;
        nested = subst (λ ls. Nested 0 (flat_map import_words ls)) (sym all)
            (nested_append first_nested rest.nested);
      }

imports_are : (interfaces : Interfaces) (imports : List Import) → AllByRecursion (IsImported interfaces) imports →
    AreImports interfaces imports
imports_are interfaces [] h = record { kept = refl; spelled = refl; nested = nested_none }
imports_are interfaces (import ∷ imports) h = import_first interfaces import imports h.0.f h.0.is h.0.owner
    (ident_name h.0.f.name h.0.called.name) (imports_are interfaces imports h.1)

-- Declarations.

-- declarations that are kept and low, and their words
pub record AreDecls (decls : List Decl) (text : List ℕ) : Type 0 where
  pub pieces : List Piece
  pub kept : list_all is_kept_decl decls ≡ true
  pub low : decls_height decls ≤ 5
  pub same : Same 3 (flat_map decl_words decls) pieces text

no_decls : AreDecls [] []
no_decls = record { pieces = []; kept = refl; low = omega arith; same = same_none }

one_decl : (d : Decl) (ds : List Decl) (pieces : List Piece) (text more : List ℕ) → is_kept_decl d ≡ true →
    decl_height d ≤ 5 → Same 3 (decl_words d) pieces text → AreDecls ds more → AreDecls (d ∷ ds) (text ++ more)
one_decl d ds pieces text more kept low same rest = record {
  pieces = pieces ++ rest.pieces;
  kept = and_from (is_kept_decl d) (list_all is_kept_decl ds) kept rest.kept;
  low = let high = rest.low in omega arith;
  same = same_append same rest.same;
}

proto_same : (f : Proto) → IsCalled f → Same 3 (decl_words (decl.Proto (proto_head f)))
    (decl_words (decl.Proto (proto_head f))) (head_text f ++ codes ";\n")
proto_same f h =
    let head = head_is f h in
    let words : List Piece = head_words (proto_head f) in
    let flat : ended words ++ newline ∷ [] ≡ words ++ word (codes ";") ∷ newline ∷ [] =
    append_assoc words (word (codes ";") ∷ []) (newline ∷ []) in
    record {
      tidy = decl_tidy (decl.Proto (proto_head f)) head.kept;
      spelled = ap text_of flat ∙ flat_map-append piece_text words (word (codes ";") ∷ newline ∷ []) ∙
          ap (λ t. t ++ codes ";\n") head.spelled;
      says = refl;
      nested = subst (λ ps. Nested 3 ps) (sym flat) (nested_append (nested_more (omega arith) head.nested)
          (nested_even even_semicolon (nested_line nested_none)));
    }

protos_are : (interfaces : Interfaces) (imports : List Import) → AllByRecursion (IsImported interfaces) imports →
    (ds : List Decl) (more : List ℕ) → AreDecls ds more →
    AreDecls (map decl.Proto (filter_map (import_head interfaces) imports) ++ ds)
    (flat_map (proto_text interfaces) imports ++ more)
protos_are interfaces [] h ds more rest = rest
protos_are interfaces (import ∷ imports) h ds more rest =
    let f : Proto = h.0.f in
    let following = protos_are interfaces imports h.1 ds more rest in
    let all : filter_map (import_head interfaces) (import ∷ imports) ≡
    proto_head f ∷ filter_map (import_head interfaces) imports = rw h.0.is in
    let text : proto_text interfaces import ≡ head_text f ++ codes ";\n" = rw h.0.is in
    let one = one_decl (decl.Proto (proto_head f)) (map decl.Proto (filter_map (import_head interfaces) imports) ++ ds)
    (decl_words (decl.Proto (proto_head f))) (head_text f ++ codes ";\n")
    (flat_map (proto_text interfaces) imports ++ more) (head_is f h.0.called).kept (omega arith)
    (proto_same f h.0.called) following in
    subst (λ hs. AreDecls (map decl.Proto hs ++ ds) (flat_map (proto_text interfaces) (import ∷ imports) ++ more))
    (sym all) (subst (λ t. AreDecls
    (decl.Proto (proto_head f) ∷ (map decl.Proto (filter_map (import_head interfaces) imports) ++ ds)) t)
    (ap (λ t. t ++ (flat_map (proto_text interfaces) imports ++ more)) (sym text) ∙
    sym (append_assoc (proto_text interfaces import) (flat_map (proto_text interfaces) imports) more)) one)

counter_kept : is_kept_decl (decl.Global counter) ≡ true
unfolding is_name is_reserved
counter_kept = refl

counter_same : Same 3 (decl_words (decl.Global counter)) (decl_words (decl.Global counter))
    (codes "unsigned int bt_n;\n")
counter_same = record {
  tidy = decl_tidy (decl.Global counter) counter_kept;
  spelled = refl;
  says = refl;
  nested = nested_even (even_keyword keyword.Unsigned) (nested_blank (nested_even (even_keyword keyword.Int)
      (nested_blank (nested_even (even_ident (codes "bt_n") counter_ident)
      (nested_even even_semicolon (nested_line nested_none))))));
}

function_decl : (interfaces : Interfaces) (rows : List Row) → AreSpoken interfaces rows → (e : Entry) (f : Proto) →
    IsCalled f → (ds : List Decl) (more : List ℕ) → AreDecls ds more →
    AreDecls (decl.Function (function_tree interfaces rows e f) ∷ ds) (function_text interfaces rows e f ++ more)
function_decl interfaces rows h e f called ds more rest =
    let is = function_is interfaces rows e f called h in
    let function = is.1 in
    one_decl (decl.Function (function_tree interfaces rows e f)) ds is.0 (function_text interfaces rows e f) more
    function.kept function.low function.same rest

functions_are : (interfaces : Interfaces) (rows : List Row) → AreSpoken interfaces rows → (index : ℕ)
    (exports : List Proto) → AllByRecursion IsCalled exports → (fs : List FunctionTree) (more : List ℕ) →
    AreDecls (map decl.Function fs) more →
    AreDecls (map decl.Function (function_trees interfaces rows index exports ++ fs))
    (functions_text interfaces rows index exports ++ more)
functions_are interfaces rows h index [] called fs more rest = rest
functions_are interfaces rows h index (f ∷ exports) called fs more rest =
    let following = functions_are interfaces rows h (suc index) exports called.1 fs more rest in
    subst (λ t. AreDecls (map decl.Function (function_trees interfaces rows index (f ∷ exports) ++ fs)) t)
    (sym (append_assoc (function_text interfaces rows (entry.Export index) f)
    (functions_text interfaces rows (suc index) exports) more))
    (function_decl interfaces rows h (entry.Export index) f called.0
    (map decl.Function (function_trees interfaces rows (suc index) exports ++ fs))
    (functions_text interfaces rows (suc index) exports ++ more) following)

main_called : IsCalled main_proto
unfolding is_name is_reserved
main_called = record { name = refl; few = omega arith }

main_is : (interfaces : Interfaces) (rows : List Row) → AreSpoken interfaces rows → (b : Bool) →
    AreDecls (map decl.Function (if b then function_tree interfaces rows entry.Main main_proto ∷ [] else []))
    (if b then function_text interfaces rows entry.Main main_proto else [])
main_is interfaces rows h true = subst (λ t. AreDecls
    (map decl.Function (function_tree interfaces rows entry.Main main_proto ∷ [])) t)
    (append-nil (function_text interfaces rows entry.Main main_proto))
    (function_decl interfaces rows h entry.Main main_proto main_called [] [] no_decls)
main_is interfaces rows h false = no_decls

all_spoken : (interfaces : Interfaces) (rows : List Row) → AllByRecursion (λ row. IsSpoken interfaces row.action) rows →
    (number : ℕ) → AreNumbered number rows → AreSpoken interfaces rows
all_spoken interfaces [] h number n = tt
all_spoken interfaces (row ∷ rows) h number n =
    ((h.0, subst (λ k. suc k < 2 ^ 32) (sym n.0) n.1), all_spoken interfaces rows h.1 (suc number) n.2)

pub decls_are : (interfaces : Interfaces) (comp : ℕ) (rows : List Row) (interface : Interface) →
    CanPerform interfaces rows interface → AreDecls (back_tree interfaces comp rows interface).decls
    (flat_map (proto_text interfaces) interface.imports ++ (codes "unsigned int bt_n;\n" ++
    (functions_text interfaces rows 0 interface.exports ++ main_text interfaces comp rows)))
decls_are interfaces comp rows interface can =
    let spoken = all_spoken interfaces rows (recursion_from_All _ _ can.actions) 0 can.numbered in
    let main = main_is interfaces rows spoken (comp == interfaces.main) in
    let functions = functions_are interfaces rows spoken 0 interface.exports (recursion_from_All _ _ can.exports)
    (main_trees interfaces comp rows) (main_text interfaces comp rows) main in
    protos_are interfaces interface.imports (recursion_from_All _ _ can.imports)
    (decl.Global counter ∷ map decl.Function (all_functions interfaces comp rows interface))
    (codes "unsigned int bt_n;\n" ++ (functions_text interfaces rows 0 interface.exports ++
    main_text interfaces comp rows))
    (one_decl (decl.Global counter) (map decl.Function (all_functions interfaces comp rows interface))
    (decl_words (decl.Global counter)) (codes "unsigned int bt_n;\n")
    (functions_text interfaces rows 0 interface.exports ++ main_text interfaces comp rows) counter_kept (omega arith)
    counter_same functions)

-- The section.

pub even_heading : (name : List ℕ) → is_name name ≡ true → Even (word_symbol (codes "#pragma compartment " ++ name))
even_heading name k count = ap (λ s. open_after s count) (heading_says name k)

-- a section that is kept and low, and its words in lines
pub record IsPerforming (tree : SectionTree) (text : List ℕ) : Type 0 where
  pub pieces : List Piece
  pub kept : kept_section tree ≡ true
  pub low : section_height tree ≤ 5
  pub lined : Lined pieces
  pub spelled : text_of pieces ≡ text
  pub says : symbols pieces ≡ symbols (section_words tree)
  pub nested : Nested 3 pieces

same_after : (a p q : List Piece) → symbols p ≡ symbols q → symbols (a ++ p) ≡ symbols (a ++ q)
same_after a p q e = joined_symbols a p ∙ ap (λ ss. symbols a ++ ss) e ∙ sym (joined_symbols a q)

pub section_is : (interfaces : Interfaces) (comp : ℕ) (rows : List Row) (interface : Interface) →
    CanPerform interfaces rows interface →
    IsPerforming (back_tree interfaces comp rows interface) (section_text interfaces comp rows interface)
section_is interfaces comp rows interface can =
    let tree : SectionTree = back_tree interfaces comp rows interface in
    let called = recursion_from_All _ _ can.exports in
    let exports = exports_are interface.exports called in
    let kept_exports = exports_kept interface.exports called in
    let imports = imports_are interfaces interface.imports (recursion_from_All _ _ can.imports) in
    let decls = decls_are interfaces comp rows interface can in
    let e : List Piece = flat_map export_words tree.exports in
    let i : List Piece = flat_map import_words tree.imports in
    let ds : List Piece = flat_map decl_words tree.decls in
    let heading : List Piece = heading_words interface.name in
    record {
      pieces = heading ++ (e ++ (i ++ decls.pieces));
      kept = and_from (is_name interface.name) _ can.name (and_from (list_all kept_export tree.exports) _ kept_exports
          (and_from (list_all kept_import tree.imports) (list_all is_kept_decl tree.decls) imports.kept decls.kept));
      low = decls.low;
      lined = line (heading_line_is interface.name can.name) (exports_lined tree.exports kept_exports _
          (imports_lined tree.imports imports.kept _ (tidy (decls.same.tidy []))));
      spelled = append_assoc (codes "#pragma compartment ") interface.name (10 ∷ text_of (e ++ (i ++ decls.pieces))) ∙
          ap (λ t. codes "#pragma compartment " ++ (interface.name ++ (codes "\n" ++ t)))
          (flat_map-append piece_text e (i ++ decls.pieces) ∙ ap₂ (λ a b. a ++ b) exports.spelled
          (flat_map-append piece_text i decls.pieces ∙ ap₂ (λ a b. a ++ b) imports.spelled decls.same.spelled));
      says = ap (λ ss. word_symbol (codes "#pragma compartment " ++ interface.name) ∷ ss)
          (same_after e (i ++ decls.pieces) (i ++ ds) (same_after i decls.pieces ds decls.same.says));
      nested = nested_even (even_heading interface.name can.name) (nested_line
          (nested_append (nested_more (omega arith) exports.nested)
          (nested_append (nested_more (omega arith) imports.nested) decls.same.nested)));
    }
