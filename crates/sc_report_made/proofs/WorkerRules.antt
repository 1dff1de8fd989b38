-- The sections of workers break no rule of interfaces, and neither does the whole text.
use Rattle.sc_report_made.proofs.Common.{Bool, ExportLine, FunctionLines, FunctionTree, HeadTree, IsAmong, IsAsked}
use Rattle.sc_report_made.proofs.Common.{List, SectionTree, Text, [], agrees_with, among, and_from, ap, ap₂, bytes_eq}
use Rattle.sc_report_made.proofs.Common.{codes, decls_from, defines_main, export_at, export_holds, exports_from, false}
use Rattle.sc_report_made.proofs.Common.{first, function_at, function_name, function_names, worker_functions}
use Rattle.sc_report_made.proofs.Common.{head_holds}
use Rattle.sc_report_made.proofs.Common.{head_of, heads_in, imports_from, interface_broken, is_main_head, is_new, later}
use Rattle.sc_report_made.proofs.Common.{line_of_text, list_any, main_holds, map, map-append, not, numbers_from}
use Rattle.sc_report_made.proofs.Common.{or_left, refl, suc, sym, table_at, true, unless, worker_name, workers, ℕ, ◌&&◌}
use Rattle.sc_report_made.proofs.Common.{◌++◌, ◌||◌, ◌∙◌, ◌∷◌, ◌≡◌, ◌≤◌}
use Rattle.sc_types_interfaces.specs.Prelude.{interface_lines_from, section_interface_lines}
use Rattle.sc_ast.specs.declared.section.Decl.TheVariants as decl
use Rattle.sc_report_made.proofs.Declared.{after_functions, functions_functions, functions_heads, functions_named}
use Rattle.sc_report_made.proofs.Naming as naming
use Rattle.sc_report_made.proofs.Naming.{Below, below_more, below_next, function_among, function_new, worker_names}
use Rattle.sc_report_made.proofs.Naming.{worker_new}
use Rattle.sc_report_made.proofs.Numbers.{Rise, functions_rise, workers_rise}
use Rattle.sc_report_made.proofs.Offered.{TakesInt, apart_first, functions_agree}
use Rattle.sc_report_made.proofs.MainRules.{main_interfaces, not_main, plain}
use Rattle.sc_report_made.proofs.Shapes.{AreExports, AreFunctions, AreMade, AreWorkers, IsMain, IsWorker, and_export}
use Rattle.sc_report_made.proofs.Shapes.{and_function, and_worker, no_exports, no_functions, no_workers}

-- one more function
snoc : (seed : ℕ) (js : List ℕ) (trees : List FunctionTree) (j : ℕ) (lines : FunctionLines) →
    AreFunctions seed js trees → AreFunctions seed (js ++ j ∷ []) (trees ++ function_at seed j lines ∷ [])
snoc seed _ _ j lines no_functions = and_function j lines [] [] no_functions
snoc seed _ _ j lines (and_function k others js trees h) =
    and_function k others (js ++ j ∷ []) (trees ++ function_at seed j lines ∷ []) (snoc seed js trees j lines h)

module _ (sections : List SectionTree) (number size seed worker : ℕ) (section : SectionTree)
    (w : IsWorker size seed worker section) (mains : Bool) where
  abbrev own : List ℕ
  own = worker_functions size worker

  defined : function_names section.decls ≡ naming.function_names own
  defined =
      ap (λ s. function_names s.decls) w.is ∙
      ap (map {A = FunctionTree} (λ tree. tree.head.name)) (functions_functions w.functions) ∙
      functions_named seed own w.functions w.functions_are

  exports_hold : (low : ℕ) (done ks : List ℕ) (lines : List ExportLine) → AreExports ks lines →
      ((j : ℕ) → IsAmong j ks → IsAmong j own) → Below low 1000 done → Rise low 1000 ks →
      exports_from sections number section (naming.function_names done) lines ≡ []
  exports_hold low done _ _ no_exports within less rise = refl
  exports_hold low done _ _ (and_export j at ks lines rest) within less rise =
      let lower : Below j 1000 done = below_more low j 1000 done rise.0 less in
      let holds : export_holds sections number section (naming.function_names done) (export_at j at) ≡ true =
      and_from (among (function_names section.decls) (function_name j)) _
      (ap (λ x. among x (function_name j)) defined ∙ function_among j own (within j (first ks)))
      (and_from (is_new (naming.function_names done) (function_name j)) _ (function_new j rise.1 done lower)
      (and_from (not (bytes_eq (function_name j) (codes "main"))) _ (ap not (not_main j)) (plain j))) in
      ap₂ (λ b x. unless b at ++ exports_from sections number section x lines) holds
      (sym (map-append function_name done (j ∷ []))) ∙
      exports_hold (suc j) (done ++ j ∷ []) ks lines rest (λ k there. within k (later j ks there))
      (below_next j 1000 done rise.1 lower) rise.2

  function_holds : (line : ℕ) (done : List ℕ) (prefix : List FunctionTree) → AreFunctions seed done prefix →
      (j : ℕ) (lines : FunctionLines) →
      (head_holds sections number section (decl.Global (table_at line) ∷ map decl.Function prefix)
      (head_of (function_at seed j lines).head) && main_holds mains (head_of (function_at seed j lines).head)) ≡ true
  function_holds line done prefix h j lines =
      let head : HeadTree = head_of (function_at seed j lines).head in
      let takes : TakesInt head = λ k at. refl in
      and_from (head_holds sections number section (decl.Global (table_at line) ∷ map decl.Function prefix) head) _
      (and_from (agrees_with (heads_in (map decl.Function prefix)) head) _
      (ap (λ hs. agrees_with hs head) (functions_heads prefix) ∙ functions_agree seed done prefix h head takes) refl)
      (or_left (not (bytes_eq (function_name j) (codes "main"))) (not mains && is_main_head head) (ap not (not_main j)))

  functions_hold : (line : ℕ) (done : List ℕ) (prefix : List FunctionTree) → AreFunctions seed done prefix →
      (ks : List ℕ) (trees : List FunctionTree) → AreFunctions seed ks trees →
      decls_from sections number section mains (decl.Global (table_at line) ∷ map decl.Function prefix)
      (map decl.Function trees) ≡ []
  functions_hold line done prefix h _ _ no_functions = refl
  functions_hold line done prefix h _ _ (and_function j lines ks trees rest) =
      let tree : FunctionTree = function_at seed j lines in
      let next : (decl.Global (table_at line) ∷ map decl.Function prefix) ++ decl.Function tree ∷ [] ≡
      decl.Global (table_at line) ∷ map decl.Function (prefix ++ tree ∷ []) =
      ap (λ x. decl.Global (table_at line) ∷ x) (sym (map-append decl.Function prefix (tree ∷ []))) in
      ap₂ (λ b x. unless b lines.head ++ decls_from sections number section mains x (map decl.Function trees))
      (function_holds line done prefix h j lines) next ∙
      functions_hold line (done ++ j ∷ []) (prefix ++ tree ∷ []) (snoc seed done prefix j lines h) ks trees rest

  worker_interfaces : size ≤ 1000 → (before : List SectionTree) (done : List ℕ) →
      map {A = SectionTree} (λ other. other.name) before ≡ codes "Main" ∷ worker_names done →
      is_new (worker_names done) (worker_name worker) ≡ true →
      section_interface_lines sections number section mains before ≡ []
  worker_interfaces few before done names new =
      let name : section.name ≡ worker_name worker = ap (λ s. s.name) w.is in
      let exports : exports_from sections number section [] section.exports ≡ [] =
      ap (λ s. exports_from sections number section [] s.exports) w.is ∙
      exports_hold 0 [] own w.exports w.exports_are (λ j there. there) tt (functions_rise size worker few) in
      let imports : imports_from sections number section [] section.imports ≡ [] =
      ap (λ s. imports_from sections number section [] s.imports) w.is in
      let decls : decls_from sections number section mains [] section.decls ≡ [] =
      ap (λ s. decls_from sections number section mains [] s.decls) w.is ∙
      functions_hold w.table_line [] [] no_functions own w.functions w.functions_are in
      let named : (is_new (map {A = SectionTree} (λ other. other.name) before) section.name &&
      not (bytes_eq section.name (codes "Env"))) ≡ true =
      ap₂ (λ x y. is_new x y && not (bytes_eq y (codes "Env"))) names name ∙
      and_from (is_new (codes "Main" ∷ worker_names done) (worker_name worker)) _ new
      (ap not (apart_first (worker_name worker) (codes "Env") refl)) in
      λ i. unless (named i) 1 ++ (exports i ++ (imports i ++ decls i))

-- All of them, and the whole text.

abbrev names_of : List SectionTree → List Text
names_of trees = map {A = SectionTree} (λ other. other.name) trees

module _ (size seed : ℕ) (few : size ≤ 1000) (sections : List SectionTree) where
  workers_hold : (number low : ℕ) (before : List SectionTree) (done is : List ℕ) (rest : List SectionTree) →
      AreWorkers size seed is rest → names_of before ≡ codes "Main" ∷ worker_names done → Below low 31 done →
      Rise low 31 is → interface_lines_from sections number before rest ≡ []
  workers_hold number low before done _ _ no_workers names less rise = refl
  workers_hold number low before done _ _ (and_worker i section is rest w h) names less rise =
      let lower : Below i 31 done = below_more low i 31 done rise.0 less in
      let none : section_interface_lines sections number section (list_any defines_main before) before ≡ [] =
      worker_interfaces sections number size seed i section w (list_any defines_main before) few before done names
      (worker_new i rise.1 done lower) in
      let name : section.name ≡ worker_name i = ap (λ s. s.name) w.is in
      let next : names_of (before ++ section ∷ []) ≡ codes "Main" ∷ worker_names (done ++ i ∷ []) =
      map-append {A = SectionTree} (λ other. other.name) before (section ∷ []) ∙
      ap₂ (λ x y. x ++ y ∷ []) names name ∙
      ap (λ x. codes "Main" ∷ x) (sym (map-append worker_name done (i ∷ []))) in
      ap (λ x. map (line_of_text section.line) x ++
      interface_lines_from sections (suc number) (before ++ section ∷ []) rest) none ∙
      workers_hold (suc number) (suc i) (before ++ section ∷ []) (done ++ i ∷ []) is rest h next
      (below_next i 31 done rise.1 lower) rise.2

main_defined : (size seed : ℕ) (main : SectionTree) → IsMain size seed main → defines_main main ≡ true
main_defined size seed main m =
    ap defines_main m.is ∙ ap (λ fs. among (map {A = FunctionTree} (λ tree. tree.head.name) fs) (codes "main"))
    (after_functions _ m.protos)

pub interfaces_hold : (size seed : ℕ) → IsAsked size seed → (sections : List SectionTree) →
    AreMade size seed sections → interface_broken sections ≡ []
interfaces_hold size seed asked sections made =
    let main : SectionTree = made.main in
    let all : List SectionTree = main ∷ made.others in
    let first_lines : section_interface_lines all 0 main false [] ≡ [] =
    main_interfaces size seed asked main made.main_is made.others made.others_are in
    let name : main.name ≡ codes "Main" = ap (λ s. s.name) made.main_is.is in
    let others : interface_lines_from all 1 (main ∷ []) made.others ≡ [] =
    workers_hold size seed asked.few all 1 0 (main ∷ []) [] (numbers_from 0 (workers size)) made.others made.others_are
    (ap (λ x. x ∷ []) name) tt (workers_rise size) in
    let defined : (defines_main main || list_any defines_main made.others) ≡ true =
    or_left (defines_main main) (list_any defines_main made.others) (main_defined size seed main made.main_is) in
    ap interface_broken made.are ∙
    (λ i. (map (line_of_text main.line) (first_lines i) ++ others i) ++ unless (defined i) 0)
