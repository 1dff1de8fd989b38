-- A worker holds no more than a program may.
use Rattle.sc_report_made.proofs.Common.{Callees, ExportLine, FunctionTree, ImportLine, List, SectionTree, [], all_none}
use Rattle.sc_report_made.proofs.Common.{and_from, ap, arith, concat, function_count_lines, function_nodes}
use Rattle.sc_report_made.proofs.Common.{worker_functions}
use Rattle.sc_report_made.proofs.Common.{global_count_lines, head_lines, le-leb, length, length-map, map, most_nodes}
use Rattle.sc_report_made.proofs.Common.{nat_le}
use Rattle.sc_report_made.proofs.Common.{none_beyond, refl, section-nodes, section_nodes, structs_from, suc, total}
use Rattle.sc_report_made.proofs.Common.{true, unless, ℕ, ◌*◌, ◌∙◌, ◌≡◌, ◌≤◌}
use Rattle.sc_types.specs.Prelude.{section_count_lines}
use Rattle.sc_ast.specs.declared.section.Decl.TheVariants as decl
use Rattle.sc_report_made.proofs.Shapes.{AreExports, AreFunctions, IsWorker, and_export, and_function, no_exports}
use Rattle.sc_report_made.proofs.Shapes.{no_functions}
use Rattle.sc_report_made.proofs.Shares.{few_functions}
use Rattle.sc_report_made.proofs.TreeNodes.{workers_nodes}
use Rattle.sc_report_made.proofs.WorkerSections.{functions_are, heads_are, heads_of, no_structs, one_global}

exports_length : (js : List ℕ) (lines : List ExportLine) → AreExports js lines → length lines ≡ length js
exports_length js lines no_exports = refl
exports_length js lines (and_export j line others more rest) = ap suc (exports_length others more rest)

functions_length : (seed : ℕ) (js : List ℕ) (trees : List FunctionTree) → AreFunctions seed js trees →
    length trees ≡ length js
functions_length seed js trees no_functions = refl
functions_length seed js trees (and_function j lines others more rest) =
    ap suc (functions_length seed others more rest)

module _ (size seed i : ℕ) (few : size ≤ 1000) (section : SectionTree) (worker : IsWorker size seed i section)
    (callees : Callees) where
  nodes_are : section_nodes section callees ≡ 39 * length (worker_functions size i)
  nodes_are =
      section-nodes section callees ∙
      ap (λ trees. total (map function_nodes trees)) (functions_are size seed i section worker) ∙
      workers_nodes seed (worker_functions size i) worker.functions worker.functions_are

  pub nodes_within : section_nodes section callees ≤ 1287
  nodes_within = omega (arith, nodes_are, few_functions size i few)

  few_nodes : nat_le (section_nodes section callees) most_nodes ≡ true
  few_nodes = le-leb (section_nodes section callees) most_nodes (omega (arith, nodes_within))

  few_decls : nat_le (length section.decls) most_nodes ≡ true
  few_decls =
      let count = ap (λ s. length s.decls) worker.is in
      let functions = length-map worker.functions decl.Function in
      let all = functions_length seed (worker_functions size i) worker.functions worker.functions_are in
      le-leb (length section.decls) most_nodes (omega (arith, count, functions, all, few_functions size i few))

  few_exports : length section.exports ≤ 4096
  few_exports =
      let count = ap (λ s. length s.exports) worker.is in
      let lines = exports_length (worker_functions size i) worker.exports worker.exports_are in
      omega (arith, count, lines, few_functions size i few)

  few_imports : length section.imports ≤ 4096
  few_imports = let count = ap (λ s. length s.imports) worker.is in omega (arith, count)

  heads_none : (js : List ℕ) (trees : List FunctionTree) → AreFunctions seed js trees →
      concat (map (head_lines section) (heads_of trees)) ≡ []
  heads_none js trees no_functions = refl
  heads_none js trees (and_function j lines others more rest) = heads_none others more rest

  functions_none : (js : List ℕ) (trees : List FunctionTree) → AreFunctions seed js trees →
      concat (map (function_count_lines section) trees) ≡ []
  functions_none js trees no_functions = refl
  functions_none js trees (and_function j lines others more rest) = functions_none others more rest

  -- a worker is beyond no count
  pub worker_counted : section_count_lines section callees ≡ []
  worker_counted =
      all_none _ _ _ _ _ _ _
      (ap (λ b. unless b 1) (and_from _ _ few_nodes few_decls))
      (none_beyond {A = ExportLine} (λ line. line.line) section.exports 4096 few_exports)
      (none_beyond {A = ImportLine} (λ line. line.line) section.imports 4096 few_imports)
      (ap (structs_from section 0) (no_structs size seed i section worker))
      (ap (λ x. concat (map (global_count_lines section) x)) (one_global size seed i section worker))
      (ap (λ x. concat (map (head_lines section) x)) (heads_are size seed i section worker) ∙
      heads_none (worker_functions size i) worker.functions worker.functions_are)
      (ap (λ x. concat (map (function_count_lines section) x)) (functions_are size seed i section worker) ∙
      functions_none (worker_functions size i) worker.functions worker.functions_are)
