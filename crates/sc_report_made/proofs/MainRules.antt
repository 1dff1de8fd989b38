-- The section of `Main` breaks no rule of interfaces.
use Rattle.sc_report_made.proofs.Common.{Bool, Decl, FunctionTree, HeadTree, ImportLine, IsAmong, IsAsked, List}
use Rattle.sc_report_made.proofs.Common.{SectionTree, Text, [], agree, agrees_as, agrees_there, agrees_with}
use Rattle.sc_report_made.proofs.Common.{all_functions, among, among_back, among_prefix, and_from, and_parts, ap}
use Rattle.sc_report_made.proofs.Common.{append-nil, append_assoc, ap₂, bytes_eq, codes, decls_from, exports_from}
use Rattle.sc_report_made.proofs.Common.{false, first, function_name, function_names, head_holds, head_of, heads_in}
use Rattle.sc_report_made.proofs.Common.{if◌then◌else◌, import_at, import_fits, import_holds, imported_agrees}
use Rattle.sc_report_made.proofs.Common.{imports_from, input_name, is_input_head, is_new, is_offered, is_output_head}
use Rattle.sc_report_made.proofs.Common.{is_plain}
use Rattle.sc_report_made.proofs.Common.{is_some, later, list_all, main_at, main_holds, map, map-append, not, not_from}
use Rattle.sc_report_made.proofs.Common.{numbers_from, offering, or_left, or_right, output_import, output_name}
use Rattle.sc_report_made.proofs.Common.{output_proto, proto_at, proto_names, refl, suc, sym, take, true, unless}
use Rattle.sc_report_made.proofs.Common.{workers, ℕ, ◌%◌, ◌&&◌, ◌++◌, ◌||◌, ◌∙◌, ◌∷◌, ◌≡◌}
use Rattle.sc_types_interfaces.specs.Prelude.{decl_interface_lines, section_interface_lines}
use Rattle.sc_ast.specs.declared.section.Decl.TheVariants as decl
use Rattle.sc_report_made.proofs.Declared.{after_functions, after_protos, protos_heads, protos_named}
use Rattle.sc_report_made.proofs.Naming as naming
use Rattle.sc_report_made.proofs.Naming.{Below, below_more, below_next, function_among, function_new, no_function}
use Rattle.sc_report_made.proofs.Numbers.{Rise, all_rise, function_there, number_there, worker_low}
use Rattle.sc_report_made.proofs.Offered.{TakesInt, apart_first, not_environment, offering_agrees, offering_found}
use Rattle.sc_report_made.proofs.Offered.{others_agree, past_main, protos_agree}
use Rattle.sc_report_made.proofs.Shapes.{AreImports, AreProtos, AreWorkers, IsMain, and_import, and_proto, no_imports}
use Rattle.sc_report_made.proofs.Shapes.{no_protos}

pub plain : (j : ℕ) → is_plain (function_name j) ≡ true
plain j = ap not (apart_first (take 3 (function_name j)) (codes "bt_") refl)

pub not_main : (j : ℕ) → bytes_eq (function_name j) (codes "main") ≡ false
not_main j = apart_first (function_name j) (codes "main") refl

not_output : (j : ℕ) → bytes_eq (function_name j) (codes "output") ≡ false
not_output j = apart_first (function_name j) (codes "output") refl

output_not : (j : ℕ) → bytes_eq (codes "output") (function_name j) ≡ false
output_not j = apart_first (codes "output") (function_name j) refl

-- one more prototype
snoc : (js : List ℕ) (heads : List HeadTree) (j line : ℕ) → AreProtos js heads →
    AreProtos (js ++ j ∷ []) (heads ++ proto_at j line ∷ [])
snoc _ _ j line no_protos = and_proto j line [] [] no_protos
snoc _ _ j line (and_proto k at js heads h) =
    and_proto k at (js ++ j ∷ []) (heads ++ proto_at j line ∷ []) (snoc js heads j line h)

-- all agree with the rest too
agree_append : (xs ys : List HeadTree) (head : HeadTree) → agrees_with xs head ≡ true → agrees_with ys head ≡ true →
    agrees_with (xs ++ ys) head ≡ true
agree_append [] ys head h k = k
agree_append (x ∷ xs) ys head h k =
    let parts = and_parts (not (bytes_eq x.name head.name) || agree x head) (agrees_with xs head) h in
    and_from (not (bytes_eq x.name head.name) || agree x head) (agrees_with (xs ++ ys) head) parts.0
    (agree_append xs ys head parts.1 k)

module _ (size seed : ℕ) (asked : IsAsked size seed) (main : SectionTree) (m : IsMain size seed main)
    (others : List SectionTree) (are : AreWorkers size seed (numbers_from 0 (workers size)) others) where
  abbrev every : List ℕ
  every = all_functions size

  abbrev sections : List SectionTree
  sections = main ∷ others

  abbrev main_function : FunctionTree
  main_function = main_at m.head_line m.local_line m.close_line m.body

  abbrev last_decls : List Decl
  last_decls = decl.Proto (output_proto m.proto_line) ∷ decl.Function main_function ∷ []

  decls_are : main.decls ≡ map decl.Proto m.protos ++ last_decls
  decls_are = ap (λ s. s.decls) m.is

  functions_named : function_names main.decls ≡ codes "main" ∷ []
  functions_named =
      ap function_names decls_are ∙
      ap (map {A = FunctionTree} (λ tree. tree.head.name)) (after_functions last_decls m.protos)

  protos_are_named : proto_names main.decls ≡ naming.function_names every ++ codes "output" ∷ []
  protos_are_named =
      ap proto_names decls_are ∙
      ap (map {A = HeadTree} (λ head. head.name)) (after_protos last_decls m.protos) ∙
      map-append {A = HeadTree} (λ head. head.name) m.protos (output_proto m.proto_line ∷ []) ∙
      ap (λ x. x ++ codes "output" ∷ []) (protos_named every m.protos m.protos_are)

  -- Imports.

  offered : (j line : ℕ) → IsAmong j every → is_offered sections 0 main (import_at size j line) ≡ true
  offered j line there =
      let worker = j % workers size in
      let worker_there : IsAmong worker (numbers_from 0 (workers size)) =
      number_there (workers size) worker (worker_low size j asked.some) in
      ap (λ b. if b then bytes_eq (function_name j) input_name || bytes_eq (function_name j) output_name
      else is_some (offering 0 (import_at size j line) 0 sections)) (not_environment size j line) ∙
      ap is_some (past_main size seed main m others j line) ∙
      offering_found size seed worker j line 0 (function_there size j there) (numbers_from 0 (workers size)) others are
      worker_there

  import_ok : (functions protos before : List Text) (j line : ℕ) → IsAmong j every →
      functions ≡ codes "main" ∷ [] → protos ≡ naming.function_names every ++ codes "output" ∷ [] →
      is_new before (function_name j) ≡ true →
      import_fits (is_offered sections 0 main (import_at size j line)) functions protos before
      (import_at size j line) ≡ true
  import_ok functions protos before j line there f p new =
      and_from (is_offered sections 0 main (import_at size j line)) _ (offered j line there)
      (and_from (is_new before (function_name j)) _ new
      (and_from (is_new functions (function_name j)) _ (ap (λ x. is_new x (function_name j)) f)
      (and_from (among protos (function_name j)) _
      (ap (λ x. among x (function_name j)) p ∙
      among_prefix (naming.function_names every) (codes "output" ∷ []) (function_name j) (function_among j every there))
      (plain j))))

  output_ok : (line : ℕ) → import_holds sections 0 main (naming.function_names every) (output_import line) ≡ true
  output_ok line =
      and_from true _ refl
      (and_from (is_new (naming.function_names every) (codes "output")) _
      (not_from (among (naming.function_names every) (codes "output")) (no_function (codes "output") output_not every))
      (and_from (is_new (function_names main.decls) (codes "output")) _
      (ap (λ x. is_new x (codes "output")) functions_named)
      (and_from (among (proto_names main.decls) (codes "output")) _
      (ap (λ x. among x (codes "output")) protos_are_named ∙
      among_back (naming.function_names every) (codes "output" ∷ []) (codes "output") refl) refl)))

  imports_hold : (line low : ℕ) (done ks : List ℕ) (lines : List ImportLine) → AreImports size ks lines →
      done ++ ks ≡ every → ((j : ℕ) → IsAmong j ks → IsAmong j every) → Below low 1000 done → Rise low 1000 ks →
      imports_from sections 0 main (naming.function_names done) (lines ++ output_import line ∷ []) ≡ []
  imports_hold line low done _ _ no_imports all within less rise =
      let is : done ≡ every = sym (append-nil done) ∙ all in
      ap (λ x. unless (import_holds sections 0 main (naming.function_names x) (output_import line)) line ++ []) is ∙
      ap (λ b. unless b line ++ []) (output_ok line)
  imports_hold line low done _ _ (and_import j at ks lines rest) all within less rise =
      let lower : Below j 1000 done = below_more low j 1000 done rise.0 less in
      let new : is_new (naming.function_names done) (function_name j) ≡ true = function_new j rise.1 done lower in
      let holds : import_holds sections 0 main (naming.function_names done) (import_at size j at) ≡ true =
      import_ok (function_names main.decls) (proto_names main.decls) (naming.function_names done) j at
      (within j (first ks)) functions_named protos_are_named new in
      ap₂ (λ b x. unless b at ++ imports_from sections 0 main x (lines ++ output_import line ∷ [])) holds
      (sym (map-append function_name done (j ∷ []))) ∙
      imports_hold line (suc j) (done ++ j ∷ []) ks lines rest (append_assoc done (j ∷ []) ks ∙ all)
      (λ k there. within k (later j ks there)) (below_next j 1000 done rise.1 lower) rise.2

  -- Prototypes agree with what is imported.

  takes_int : (j line : ℕ) → TakesInt (proto_at j line)
  takes_int j line k at = refl

  agrees_imported : (j line k at : ℕ) → agrees_as sections 0 main (proto_at j line) (import_at size k at) ≡ true
  agrees_imported j line k at =
      let head : HeadTree = proto_at j line in
      ap (λ b. if b then (if bytes_eq head.name input_name then is_input_head head else
      if bytes_eq head.name output_name then is_output_head head else true)
      else agrees_there sections 0 main head (offering 0 (import_at size k at) 0 sections))
      (not_environment size k at) ∙
      ap (agrees_there sections 0 main head) (past_main size seed main m others k at) ∙
      offering_agrees size seed sections main (import_at size k at) head (takes_int j line) 1
      (numbers_from 0 (workers size)) others are

  -- each import of the name agrees
  abbrev agrees_one : HeadTree → ImportLine → Bool
  agrees_one head line = not (bytes_eq line.name head.name) || agrees_as sections 0 main head line

  all_agree : (head : HeadTree) (line : ℕ) (ks : List ℕ) (lines : List ImportLine) → AreImports size ks lines →
      ((k at : ℕ) → agrees_one head (import_at size k at) ≡ true) → agrees_one head (output_import line) ≡ true →
      list_all (agrees_one head) (lines ++ output_import line ∷ []) ≡ true
  all_agree head line _ _ no_imports each last = and_from (agrees_one head (output_import line)) true last refl
  all_agree head line _ _ (and_import k at ks lines rest) each last =
      and_from (agrees_one head (import_at size k at)) (list_all (agrees_one head) (lines ++ output_import line ∷ []))
      (each k at) (all_agree head line ks lines rest each last)

  imported : (head : HeadTree) → ((k at : ℕ) → agrees_one head (import_at size k at) ≡ true) →
      agrees_one head (output_import m.output_line) ≡ true → imported_agrees sections 0 main head ≡ true
  imported head each last =
      ap (λ s. list_all (agrees_one head) s.imports) m.is ∙
      all_agree head m.output_line every m.imports m.imports_are each last

  proto_imported : (j line : ℕ) → imported_agrees sections 0 main (proto_at j line) ≡ true
  proto_imported j line =
      imported (proto_at j line)
      (λ k at. or_right (not (bytes_eq (function_name k) (function_name j)))
      (agrees_as sections 0 main (proto_at j line) (import_at size k at)) (agrees_imported j line k at))
      (or_left (not (bytes_eq (codes "output") (function_name j)))
      (agrees_as sections 0 main (proto_at j line) (output_import m.output_line)) (ap not (output_not j)))

  output_imported : (line : ℕ) → imported_agrees sections 0 main (output_proto line) ≡ true
  output_imported line =
      imported (output_proto line)
      (λ k at. or_left (not (bytes_eq (function_name k) (codes "output")))
      (agrees_as sections 0 main (output_proto line) (import_at size k at)) (ap not (not_output k)))
      (or_right (not (bytes_eq (codes "output") (codes "output")))
      (agrees_as sections 0 main (output_proto line) (output_import m.output_line)) refl)

  -- Declarations.

  proto_holds : (done : List ℕ) (prefix : List HeadTree) → AreProtos done prefix → (j line : ℕ) →
      (head_holds sections 0 main (map decl.Proto prefix) (proto_at j line) &&
      imported_agrees sections 0 main (proto_at j line)) ≡ true
  proto_holds done prefix h j line =
      and_from (head_holds sections 0 main (map decl.Proto prefix) (proto_at j line)) _
      (and_from (agrees_with (heads_in (map decl.Proto prefix)) (proto_at j line)) _
      (ap (λ hs. agrees_with hs (proto_at j line)) (protos_heads prefix) ∙
      protos_agree done prefix h (proto_at j line) (takes_int j line)) refl) (proto_imported j line)

  protos_hold : (done : List ℕ) (prefix : List HeadTree) → AreProtos done prefix → (ks : List ℕ)
      (heads : List HeadTree) → AreProtos ks heads → (more : List Decl) →
      decls_from sections 0 main false (map decl.Proto prefix) (map decl.Proto heads ++ more) ≡
      decls_from sections 0 main false (map decl.Proto (prefix ++ heads)) more
  protos_hold done prefix h _ _ no_protos more =
      ap (λ x. decls_from sections 0 main false (map decl.Proto x) more) (sym (append-nil prefix))
  protos_hold done prefix h _ _ (and_proto j line ks heads rest) more =
      let head : HeadTree = proto_at j line in
      ap₂ (λ b x. unless b line ++ decls_from sections 0 main false x (map decl.Proto heads ++ more))
      (proto_holds done prefix h j line) (sym (map-append decl.Proto prefix (head ∷ []))) ∙
      protos_hold (done ++ j ∷ []) (prefix ++ head ∷ []) (snoc done prefix j line h) ks heads rest more ∙
      ap (λ x. decls_from sections 0 main false (map decl.Proto x) more) (append_assoc prefix (head ∷ []) heads)

  output_holds : (head_holds sections 0 main (map decl.Proto m.protos) (output_proto m.proto_line) &&
      imported_agrees sections 0 main (output_proto m.proto_line)) ≡ true
  output_holds =
      let head : HeadTree = output_proto m.proto_line in
      and_from (head_holds sections 0 main (map decl.Proto m.protos) head) _
      (and_from (agrees_with (heads_in (map decl.Proto m.protos)) head) _
      (ap (λ hs. agrees_with hs head) (protos_heads m.protos) ∙
      others_agree every m.protos m.protos_are head not_output) refl) (output_imported m.proto_line)

  main_function_holds : (head_holds sections 0 main (map decl.Proto (m.protos ++ output_proto m.proto_line ∷ []))
      (head_of main_function.head) && main_holds false (head_of main_function.head)) ≡ true
  main_function_holds =
      let head : HeadTree = head_of main_function.head in
      let output : HeadTree = output_proto m.proto_line in
      and_from (head_holds sections 0 main (map decl.Proto (m.protos ++ output ∷ [])) head) _
      (and_from (agrees_with (heads_in (map decl.Proto (m.protos ++ output ∷ []))) head) _
      (ap (λ hs. agrees_with hs head) (protos_heads (m.protos ++ output ∷ [])) ∙
      agree_append m.protos (output ∷ []) head (others_agree every m.protos m.protos_are head not_main) refl)
      refl) refl

  decls_hold : decls_from sections 0 main false [] main.decls ≡ []
  decls_hold =
      let output : HeadTree = output_proto m.proto_line in
      ap (decls_from sections 0 main false []) decls_are ∙
      protos_hold [] [] no_protos every m.protos m.protos_are last_decls ∙
      ap₂ (λ b x. unless b m.proto_line ++ (decl_interface_lines sections 0 main false x (decl.Function main_function)
      ++ []))
      output_holds (sym (map-append decl.Proto m.protos (output ∷ []))) ∙
      ap (λ b. unless b m.head_line ++ []) main_function_holds

  pub main_interfaces : section_interface_lines sections 0 main false [] ≡ []
  main_interfaces =
      let name : main.name ≡ codes "Main" = ap (λ s. s.name) m.is in
      let none : exports_from sections 0 main [] main.exports ≡ [] =
      ap (λ s. exports_from sections 0 main [] s.exports) m.is in
      let imports : imports_from sections 0 main [] main.imports ≡ [] =
      ap (λ s. imports_from sections 0 main [] s.imports) m.is ∙
      imports_hold m.output_line 0 [] every m.imports m.imports_are refl (λ j there. there) tt
      (all_rise size asked.few) in
      λ i. unless (not false && not (bytes_eq (name i) (codes "Env"))) 1 ++ (none i ++ (imports i ++ decls_hold i))
