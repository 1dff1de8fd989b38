-- The sections of a made text: words that spell them, and no compartment line but the first.
use Rattle.sc_report_made.proofs.Common.{Closed, Closing, IsText, List, Piece, SectionTree, [], addend, after_closing}
use Rattle.sc_report_made.proofs.Common.{all_functions, ap, append-nil, append_assoc, ap₂, arith, made_call}
use Rattle.sc_report_made.proofs.Common.{closed_append, codes, decimal, even_heading, made_export, exports_lined}
use Rattle.sc_report_made.proofs.Common.{flat_map, flat_map-append, function_name, made_function, worker_functions}
use Rattle.sc_report_made.proofs.Common.{headed}
use Rattle.sc_report_made.proofs.Common.{headed_text, heading_words, made_import, imports_lined, main_body, made_main}
use Rattle.sc_report_made.proofs.Common.{main_tree, nested_append, nested_even, nested_line, nested_more, piece_text}
use Rattle.sc_report_made.proofs.Common.{plain, plain_headless, made_proto, refl, section_with, subst, sym, text_of}
use Rattle.sc_report_made.proofs.Common.{tidy_plain, true, worker_name, worker_text, worker_tree, ℕ, ◌++◌, ◌<◌, ◌∙◌}
use Rattle.sc_report_made.proofs.Common.{◌∷◌, ◌≡◌, ◌≤◌}
unfoldable use Rattle.sc_base.specs.Prelude.{is_name}
unfoldable use Rattle.sc_ast.specs.Prelude.{export_words, import_words}
use Rattle.sc_parse_print_laws.proofs.DirectiveWords.{heading_begins, heading_line_is}
use Rattle.sc_parse_print_laws.proofs.Lined.{line, tidy}
use Rattle.sc_back_reread_laws.specs.Performing.{IsReadAs}
use Rattle.sc_back_reread_laws.proofs.Headings.{last, mark}
use Rattle.sc_back_reread_laws.proofs.Reading.{IsWritten, read_as}
use Rattle.sc_report_made.proofs.Numbers.{all_below, all_rise, functions_rise}
use Rattle.sc_report_made.proofs.Spelled.{worker_named}
use Rattle.sc_report_made.proofs.Calls.{calls_are}
use Rattle.sc_report_made.proofs.Decls.{AreDecls, more_decls, no_decls}
use Rattle.sc_report_made.proofs.Functions.{functions_are, main_is, output_is, protos_are, table_is}
use Rattle.sc_report_made.proofs.Directives.{ExportsWritten, ImportsWritten, exports_are, imports_are, main_named}
use Rattle.sc_report_made.proofs.Directives.{no_directives}

-- the text of one section: it begins with the one compartment line in it, is read as the tree, and ends with a newline
pub record IsSectionText (text : List ℕ) (tree : SectionTree) : Type 0 where
  pub is : IsText text
  pub read : IsReadAs text tree
  pub ends : last 10 text ≡ 10

module _ (tree : SectionTree) (exports imports decls : List ℕ) (named : is_name tree.name ≡ true)
    (es : ExportsWritten tree.exports exports) (is : ImportsWritten tree.imports imports)
    (ds : AreDecls tree.decls decls) where
  abbrev following : List ℕ
  following = exports ++ (imports ++ decls)

  written : IsWritten tree (headed tree.name following)
  written =
      let e : List Piece = flat_map export_words tree.exports in
      let i : List Piece = flat_map import_words tree.imports in
      record {
        pieces = heading_words tree.name ++ (e ++ (i ++ ds.pieces));
        reads = λ line. section_with (record tree { line = line }) ds.pieces named es.kept is.kept ds.read;
        low = let low = ds.low in omega arith;
        lined = line (heading_line_is tree.name named) (exports_lined tree.exports es.kept _
            (imports_lined tree.imports is.kept _ (tidy (ds.tidy []))));
        spelled = append_assoc mark tree.name (10 ∷ text_of (e ++ (i ++ ds.pieces))) ∙
            ap (λ t. mark ++ (tree.name ++ (codes "\n" ++ t))) (flat_map-append piece_text e (i ++ ds.pieces) ∙
            ap₂ (λ a b. a ++ b) es.spelled (flat_map-append piece_text i ds.pieces ∙
            ap₂ (λ a b. a ++ b) is.spelled ds.spelled));
        nested = nested_more (omega arith) (nested_even (even_heading tree.name named) (nested_line
            (nested_append (nested_more (omega arith) es.nested)
            (nested_append (nested_more (omega arith) is.nested) ds.nested))));
      }

  decls_plain : plain decls ≡ true
  decls_plain = ap plain (sym ds.spelled) ∙ tidy_plain (ds.tidy [])

  section_text : last 10 (headed tree.name following) ≡ 10 → IsSectionText (headed tree.name following) tree
  section_text ends = record {
    is = headed_text tree.name following named
        (es.headless (imports ++ decls) (is.headless decls (plain_headless decls decls_plain)));
    read = read_as tree (headed tree.name following) written (heading_begins (tree.name ++ (codes "\n" ++ following)));
    ends = ends;
  }

-- `Main`

main_closing : (size seed : ℕ) → Closing (made_main size seed)
main_closing size seed =
    let js : List ℕ = all_functions size in
    let calls : List ℕ = flat_map (made_call seed) js ++ codes "  return 0;\n}\n" in
    let functions : List ℕ = codes "void output(int v);\nint main(void) {\n  int r;\n" ++ calls in
    let decls : List ℕ = flat_map made_proto js ++ functions in
    let output : List ℕ = codes "#pragma import Env output\n" ++ decls in
    let directives : List ℕ = flat_map (made_import size) js ++ output in
    after_closing (codes "#pragma compartment Main\n") directives
    (after_closing (flat_map (made_import size) js) output (after_closing (codes "#pragma import Env output\n") decls
    (after_closing (flat_map made_proto js) functions
    (after_closing (codes "void output(int v);\nint main(void) {\n  int r;\n") calls
    (after_closing (flat_map (made_call seed) js) (codes "  return 0;\n}\n") (λ d. refl))))))

pub main_is_text : (size seed : ℕ) → size ≤ 1000 → IsSectionText (made_main size seed) (main_tree size seed)
main_is_text size seed few =
    let js : List ℕ = all_functions size in
    let low = all_below 0 1000 js (all_rise size few) in
    let calls : List ℕ = flat_map (made_call seed) js in
    let prefix : List ℕ = codes "int main(void) {\n  int r;\n" in
    let function : List ℕ = prefix ++ ((calls ++ codes "  return 0;\n") ++ codes "}\n") in
    let main = main_is (main_body size seed) (calls ++ codes "  return 0;\n") (calls_are seed js low) in
    let decls = protos_are js low _ _ (more_decls output_is (more_decls main no_decls)) in
    let imports : List ℕ = flat_map (made_import size) js in
    let protos : List ℕ = flat_map made_proto js in
    let output : List ℕ = codes "#pragma import Env output\n" in
    let heads : List ℕ = protos ++ (codes "void output(int v);\n" ++ (function ++ [])) in
    let text : headed (codes "Main") ([] ++ ((imports ++ output) ++ heads)) ≡ made_main size seed =
    ap (λ t. codes "#pragma compartment Main\n" ++ t) (append_assoc imports output heads ∙
    ap (λ t. imports ++ (output ++ (protos ++ (codes "void output(int v);\n" ++ t)))) (append-nil function ∙
    ap (λ t. prefix ++ t) (append_assoc calls (codes "  return 0;\n") (codes "}\n")))) in
    subst (λ t. IsSectionText t (main_tree size seed)) text
    (section_text (main_tree size seed) [] (imports ++ output) heads main_named no_directives (imports_are size js low)
    decls (ap (λ t. last 10 t) text ∙ main_closing size seed 10))

-- Workers.

function_closing : (seed j : ℕ) → Closing (made_function seed j)
function_closing seed j =
    let end : List ℕ = codes
    ";\n  for (i = 0; i < 64; i++) {\n    t[i & 15] = x + i;\n    s = s + t[i & 15];\n  }\n  return s;\n}\n" in
    let set : List ℕ = decimal (addend seed j) ++ end in
    let rest : List ℕ = codes "(int x) {\n  int i;\n  int s;\n  s = " ++ set in
    after_closing (codes "int ") (function_name j ++ rest) (after_closing (function_name j) rest
    (after_closing (codes "(int x) {\n  int i;\n  int s;\n  s = ") set
    (after_closing (decimal (addend seed j)) end (λ d. refl))))

functions_closed : (seed : ℕ) (js : List ℕ) → Closed (flat_map (made_function seed) js)
functions_closed seed [] = λ d e. e
functions_closed seed (j ∷ js) = closed_append (made_function seed j) (flat_map (made_function seed) js)
    (λ d e. function_closing seed j d) (functions_closed seed js)

worker_closing : (size seed i : ℕ) → Closing (worker_text size seed i)
worker_closing size seed i =
    let js : List ℕ = worker_functions size i in
    let functions : List ℕ = flat_map (made_function seed) js in
    let decls : List ℕ = codes "int t[16];\n" ++ functions in
    let exports : List ℕ = flat_map made_export js ++ decls in
    after_closing mark (worker_name i ++ (codes "\n" ++ exports))
    (after_closing (worker_name i) (codes "\n" ++ exports) (after_closing (codes "\n") exports
    (after_closing (flat_map made_export js) decls (λ d. functions_closed seed js 10 refl))))

pub worker_is_text : (size seed i : ℕ) → size ≤ 1000 → i < 1000 →
    IsSectionText (worker_text size seed i) (worker_tree size seed i)
worker_is_text size seed i few low =
    let js : List ℕ = worker_functions size i in
    let below = all_below 0 1000 js (functions_rise size i few) in
    section_text (worker_tree size seed i) (flat_map made_export js) []
    (codes "int t[16];\n" ++ flat_map (made_function seed) js) (worker_named i low) (exports_are js below) no_directives
    (more_decls table_is (functions_are seed js below)) (worker_closing size seed i 10)
