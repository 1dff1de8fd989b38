-- `Main` holds no more than a program may.
use Rattle.sc_report_made.proofs.Common.{Callees, ExportLine, HeadTree, ImportLine, List, SectionTree, []}
use Rattle.sc_report_made.proofs.Common.{all_functions, all_none, and_from, ap, arith, concat, function_count_lines}
use Rattle.sc_report_made.proofs.Common.{function_nodes, global_count_lines, head_lines, le-leb, length, length-append}
use Rattle.sc_report_made.proofs.Common.{length-map, map, most_nodes, nat_le, none_beyond, output_import, output_proto}
use Rattle.sc_report_made.proofs.Common.{refl, section-nodes, section_nodes, structs_from, suc, total, true, unless, ℕ}
use Rattle.sc_report_made.proofs.Common.{◌*◌, ◌++◌, ◌+◌, ◌∙◌, ◌∷◌, ◌≡◌, ◌≤◌}
use Rattle.sc_types.specs.Prelude.{section_count_lines}
use Rattle.sc_ast.specs.declared.section.Decl.TheVariants as decl
use Rattle.sc_report_made.proofs.Shapes.{AreImports, AreProtos, IsMain, and_import, and_proto, no_imports, no_protos}
use Rattle.sc_report_made.proofs.Shares.{numbers_length}
use Rattle.sc_report_made.proofs.Signatures.{functions_are, heads_are, no_globals, no_structs, tree_of}
use Rattle.sc_report_made.proofs.TreeNodes.{main_nodes}

imports_length : (size : ℕ) (js : List ℕ) (lines : List ImportLine) → AreImports size js lines →
    length lines ≡ length js
imports_length size js lines no_imports = refl
imports_length size js lines (and_import j line others more rest) = ap suc (imports_length size others more rest)

protos_length : (js : List ℕ) (heads : List HeadTree) → AreProtos js heads → length heads ≡ length js
protos_length js heads no_protos = refl
protos_length js heads (and_proto j line others more rest) = ap suc (protos_length others more rest)

module _ (size seed : ℕ) (few : size ≤ 1000) (section : SectionTree) (main : IsMain size seed section)
    (callees : Callees) where
  -- all nodes
  pub nodes_are : section_nodes section callees ≡ 5 * size + 4
  nodes_are =
      section-nodes section callees ∙
      ap (λ trees. total (map function_nodes trees)) (functions_are size seed section main) ∙
      (let count = numbers_length 0 size in
      let own = main_nodes seed (all_functions size) main.head_line main.local_line main.close_line main.body
      main.body_is in
      omega (arith, count, own))

  few_nodes : nat_le (section_nodes section callees) most_nodes ≡ true
  few_nodes = le-leb (section_nodes section callees) most_nodes (omega (arith, nodes_are, few))

  few_decls : nat_le (length section.decls) most_nodes ≡ true
  few_decls =
      let count = ap (λ s. length s.decls) main.is in
      let both = length-append (map decl.Proto main.protos) (decl.Proto (output_proto main.proto_line) ∷
      decl.Function (tree_of size seed section main) ∷ []) in
      let heads = length-map main.protos decl.Proto in
      let protos = protos_length (all_functions size) main.protos main.protos_are in
      let all = numbers_length 0 size in
      le-leb (length section.decls) most_nodes (omega (arith, count, both, heads, protos, all, few))

  few_exports : length section.exports ≤ 4096
  few_exports = let count = ap (λ s. length s.exports) main.is in omega (arith, count)

  few_imports : length section.imports ≤ 4096
  few_imports =
      let count = ap (λ s. length s.imports) main.is in
      let both = length-append main.imports (output_import main.output_line ∷ []) in
      let lines = imports_length size (all_functions size) main.imports main.imports_are in
      let all = numbers_length 0 size in
      omega (arith, count, both, lines, all, few)

  heads_none : (js : List ℕ) (heads rest : List HeadTree) → AreProtos js heads →
      concat (map (head_lines section) rest) ≡ [] → concat (map (head_lines section) (heads ++ rest)) ≡ []
  heads_none js heads rest no_protos h = h
  heads_none js heads rest (and_proto j line others more k) h = heads_none others more rest k h

  -- `Main` is beyond no count
  pub main_counted : section_count_lines section callees ≡ []
  main_counted =
      all_none _ _ _ _ _ _ _
      (ap (λ b. unless b 1) (and_from _ _ few_nodes few_decls))
      (none_beyond {A = ExportLine} (λ line. line.line) section.exports 4096 few_exports)
      (none_beyond {A = ImportLine} (λ line. line.line) section.imports 4096 few_imports)
      (ap (structs_from section 0) (no_structs size seed section main))
      (ap (λ x. concat (map (global_count_lines section) x)) (no_globals size seed section main))
      (ap (λ x. concat (map (head_lines section) x)) (heads_are size seed section main) ∙
      heads_none (all_functions size) main.protos _ main.protos_are refl)
      (ap (λ x. concat (map (function_count_lines section) x)) (functions_are size seed section main))
