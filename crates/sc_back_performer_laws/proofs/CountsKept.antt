-- A performing section holds no more than a program may.
use Rattle.sc_back_performer_laws.proofs.Common.{AllByRecursion, Bool, Callees, CountsHold, Entry, ExportLine}
use Rattle.sc_back_performer_laws.proofs.Common.{FunctionTree, HeadTree, Import, ImportLine, Int, Interface, Interfaces}
use Rattle.sc_back_performer_laws.proofs.Common.{IsPerformer, IsUsable, List, Main, None, Option, Proto, Row, Scalar}
use Rattle.sc_back_performer_laws.proofs.Common.{SectionTree, Some, StmtTree, TypedFunction, Unsigned, [], and_from, ap}
use Rattle.sc_back_performer_laws.proofs.Common.{ap₂, arith, callees_of, concat, false, filter, function_count_lines}
use Rattle.sc_back_performer_laws.proofs.Common.{function_params, global_count_lines, head_lines, if◌then◌else◌}
use Rattle.sc_back_performer_laws.proofs.Common.{imported}
use Rattle.sc_back_performer_laws.proofs.Common.{is_of, le-leb, length, length-append, length-map, line_beyond}
use Rattle.sc_back_performer_laws.proofs.Common.{line_of_some, list_all, local_nodes, main_proto, map, most_nodes}
use Rattle.sc_back_performer_laws.proofs.Common.{most_params, nat_le, nodes, param_of, param_small, proto_of}
use Rattle.sc_back_performer_laws.proofs.Common.{proto_params, refl, section_nodes, slice_get, stmt_nodes, struct_names}
use Rattle.sc_back_performer_laws.proofs.Common.{structs_from, suc, total, true, typed_function, typed_param, unless}
use Rattle.sc_back_performer_laws.proofs.Common.{zero, ℕ, ◌*◌, ◌++◌, ◌+◌, ◌==◌, ◌∙◌, ◌∷◌, ◌≡◌, ◌≤◌}
use Rattle.sc_types.specs.Prelude.{section_count_lines}
use Rattle.sc_ast.specs.declared.section.Decl.TheVariants as decl
use Rattle.sc_back_performer_laws.proofs.BackTree.{AreFunctions, AreHeads, AreImports, IsBackBody, IsBackTree}
use Rattle.sc_back_performer_laws.proofs.BackTree.{and_function, and_head, and_import, counter_at, entries_from}
use Rattle.sc_back_performer_laws.proofs.BackTree.{function_at, main_entries, no_functions, no_heads, no_imports}
use Rattle.sc_back_performer_laws.proofs.BackTree.{use_of, uses}
use Rattle.sc_back_performer_laws.proofs.Undone.{back_tree_is}
use Rattle.sc_back_performer_laws.proofs.Declared.{heads_of}
use Rattle.sc_back_performer_laws.proofs.Nodes.{body_nodes}
use Rattle.sc_back_performer_laws.proofs.SectionFacts.{entries, entries_usable, uses_usable}
use Rattle.sc_back_performer_laws.proofs.SectionTypes.{body_is, functions_are, heads_are, no_counter, no_locals}
use Rattle.sc_back_performer_laws.proofs.SectionTypes.{no_structs, one_global, signatures, typed_params}
use Rattle.sc_back_performer_laws.proofs.Shares.{shares, shares_within}
use Rattle.sc_back_performer_laws.proofs.TypedRows.{typed_body}
use Rattle.sc_back_performer_laws.proofs.Uses.{AreEntries, are_entries, rows_fit}

-- Lengths.

nothing_beyond : {A : Type 0} (xs : List A) (k : ℕ) → length xs ≤ k → slice_get xs k ≡ None
nothing_beyond [] k few = refl
nothing_beyond (x ∷ xs) zero few = absurd (omega (arith, few))
nothing_beyond (x ∷ xs) (suc k) few = nothing_beyond xs k (omega (arith, few))

pub none_beyond : {A : Type 0} (line_of : A → ℕ) (xs : List A) (k : ℕ) → length xs ≤ k → line_beyond line_of k xs ≡ []
none_beyond line_of xs k few = ap (line_of_some line_of) (nothing_beyond xs k few)

protos_length : (number : ℕ) (types : List Scalar) → length (proto_params number types) ≡ length types
protos_length number [] = refl
protos_length number (type ∷ types) = ap suc (protos_length (suc number) types)

params_length : (number : ℕ) (types : List Scalar) → length (function_params number types) ≡ length types
params_length number [] = refl
params_length number (type ∷ types) = ap suc (params_length (suc number) types)

heads_length : (used : List (Import × Proto)) (heads : List HeadTree) → AreHeads used heads →
    length heads ≡ length used
heads_length used heads no_heads = refl
heads_length used heads (and_head u others more line h) = ap suc (heads_length others more h)

imports_length : (interfaces : Interfaces) (used : List (Import × Proto)) (lines : List ImportLine) →
    AreImports interfaces used lines → length lines ≡ length used
imports_length interfaces used lines no_imports = refl
imports_length interfaces used lines (and_import u others more line h) =
    ap suc (imports_length interfaces others more h)

trees_length : (interfaces : Interfaces) (rows : List Row) (all : List (Entry × Proto)) (trees : List FunctionTree) →
    AreFunctions interfaces rows all trees → length trees ≡ length all
trees_length interfaces rows all trees no_functions = refl
trees_length interfaces rows all trees (and_function entry f others more line close body b h) =
    ap suc (trees_length interfaces rows others more h)

use_length : (import : Import) (o : Option Proto) (rest : List (Import × Proto)) →
    length (use_of import o rest) ≤ suc (length rest)
use_length import None rest = omega arith
use_length import (Some f) rest = omega arith

uses_length : (interfaces : Interfaces) (all : List Import) → length (uses interfaces all) ≤ length all
uses_length interfaces [] = omega arith
uses_length interfaces (import ∷ all) =
    omega (arith, use_length import (imported interfaces import) (uses interfaces all), uses_length interfaces all)

exports_length : (index : ℕ) (exports : List Proto) → length (entries_from index exports) ≡ length exports
exports_length index [] = refl
exports_length index (f ∷ exports) = ap suc (exports_length (suc index) exports)

main_length : (b : Bool) → length {A = Entry × Proto} (if b then (Main, main_proto) ∷ [] else []) ≤ 1
main_length true = omega arith
main_length false = omega arith

-- lines of nothing
pub all_none : (a b c d e f g : List ℕ) → a ≡ [] → b ≡ [] → c ≡ [] → d ≡ [] → e ≡ [] → f ≡ [] → g ≡ [] →
    a ++ (b ++ (c ++ (d ++ (e ++ (f ++ g))))) ≡ []
all_none a b c d e f g p q r s t u v = λ i. p i ++ (q i ++ (r i ++ (s i ++ (t i ++ (u i ++ v i)))))

module _ (interfaces : Interfaces) (comp : ℕ) (rows : List Row) (interface : Interface)
    (is : IsPerformer interfaces comp rows interface) (section : SectionTree)
    (t : IsBackTree interfaces comp rows interface section) (sections : List SectionTree) (number : ℕ) where
  abbrev callees : Callees
  callees = callees_of sections number section

  abbrev typed : FunctionTree → TypedFunction
  typed = typed_function section callees

  -- Nodes.

  function_nodes : (entry : Entry) (f : Proto) (line close_line : ℕ) (body : List StmtTree) →
      IsBackBody interfaces f.result (filter (is_of entry) rows) body → proto_of interfaces comp entry ≡ Some f →
      IsUsable f → nodes (typed (function_at f line close_line body)) ≤ 11 + 40 * length (filter (is_of entry) rows)
  function_nodes entry f line close_line body b named usable =
      let absent = no_counter f.params usable.few in
      let fits = rows_fit interfaces comp rows interface is entry f named in
      let few = body_nodes callees interfaces comp rows interface is f.result (filter (is_of entry) rows) _
      (typed_body (typed_params 0 f.params) absent callees interfaces comp rows interface is
      (signatures interfaces comp rows interface is section t sections number) f.result
      (filter (is_of entry) rows) body b fits) fits in
      let statements = ap (λ x. total (map stmt_nodes x))
      (body_is interfaces comp rows interface is section t callees f line close_line body absent) in
      let locals = ap (λ x. total (map local_nodes x))
      (no_locals interfaces comp rows interface is section t callees f line close_line body) in
      let params = length-map (function_params 0 f.params) (typed_param (struct_names section.decls)) ∙
      params_length 0 f.params in
      omega (arith, few, statements, locals, params, usable.few)

  functions_nodes : (others : List (Entry × Proto)) (trees : List FunctionTree) →
      AreFunctions interfaces rows others trees → AreEntries interfaces comp others →
      AllByRecursion (λ e. IsUsable e.1) others →
      total (map nodes (map typed trees)) ≤ 11 * length others + 40 * shares rows others
  functions_nodes others trees no_functions named usable = omega arith
  functions_nodes others trees (and_function entry f more rest line close body b h) named usable =
      omega (
        arith,
        function_nodes entry f line close body b named.0 usable.0,
        functions_nodes more rest h named.1 usable.1,
      )

  abbrev all : List (Entry × Proto)
  all = entries interfaces comp rows interface is

  few_entries : length all ≤ 4097
  few_entries =
      omega (
        arith,
        length-append (entries_from 0 interface.exports) (main_entries interfaces comp),
        exports_length 0 interface.exports,
        main_length (comp == interfaces.main),
        is.few_exports,
      )

  few_nodes : nat_le (section_nodes section callees) most_nodes ≡ true
  few_nodes =
      let count = ap (λ x. total (map nodes (map typed x)))
      (functions_are interfaces comp rows interface is section t) in
      let few = functions_nodes all t.functions t.are_functions (are_entries interfaces comp rows interface is)
      (entries_usable interfaces comp rows interface is) in
      le-leb (section_nodes section callees) most_nodes
      (omega (arith, count, few, few_entries, shares_within interfaces comp interface rows, is.few_rows))

  few_uses : length (uses interfaces interface.imports) ≤ 4096
  few_uses = omega (arith, uses_length interfaces interface.imports, is.few_imports)

  few_decls : nat_le (length section.decls) most_nodes ≡ true
  few_decls =
      let count = ap length t.decls in
      let both = length-append (map decl.Proto t.heads) (decl.Global (counter_at t.counter_line) ∷
      map decl.Function t.functions) in
      let heads = length-map t.heads decl.Proto in
      let functions = length-map t.functions decl.Function in
      let used = heads_length (uses interfaces interface.imports) t.heads t.are_heads in
      let trees = trees_length interfaces rows all t.functions t.are_functions in
      le-leb (length section.decls) most_nodes
      (omega (arith, count, both, heads, functions, used, trees, few_uses, few_entries))

  few_export_lines : length section.exports ≤ 4096
  few_export_lines =
      let names = ap length t.exports in
      let lines = length-map {A = ExportLine} section.exports (λ line. line.name) in
      let protos = length-map {A = Proto} interface.exports (λ proto. proto.name) in
      omega (arith, names, lines, protos, is.few_exports)

  few_import_lines : length section.imports ≤ 4096
  few_import_lines =
      omega (arith, imports_length interfaces (uses interfaces interface.imports) section.imports t.imports, few_uses)

  -- Heads.

  tree_heads : (others : List (Entry × Proto)) (trees : List FunctionTree) →
      AreFunctions interfaces rows others trees → AllByRecursion (λ e. IsUsable e.1) others →
      concat (map (head_lines section) (heads_of trees)) ≡ []
  tree_heads others trees no_functions usable = refl
  tree_heads others trees (and_function entry f more rest line close body b h) usable =
      let few = le-leb (length (map param_of (function_params 0 f.params))) most_params
      (omega (arith, length-map (function_params 0 f.params) param_of, params_length 0 f.params, usable.0.few)) in
      ap₂ (λ b x. unless b line ++ x) few (tree_heads more rest h usable.1)

  all_heads : (used : List (Import × Proto)) (heads rest : List HeadTree) → AreHeads used heads →
      AllByRecursion (λ u. IsUsable u.1) used → concat (map (head_lines section) rest) ≡ [] →
      concat (map (head_lines section) (heads ++ rest)) ≡ []
  all_heads used heads rest no_heads usable h = h
  all_heads used heads rest (and_head u others more line k) usable h =
      let few = le-leb (length (proto_params 0 u.1.params)) most_params
      (omega (arith, protos_length 0 u.1.params, usable.0.few)) in
      ap₂ (λ b x. unless b line ++ x) few (all_heads others more rest k usable.1 h)

  -- Functions.

  params_small : (n : ℕ) (types : List Scalar) →
      list_all (param_small section) (function_params n types) ≡ true
  params_small n [] = refl
  params_small n (Int ∷ types) = params_small (suc n) types
  params_small n (Unsigned ∷ types) = params_small (suc n) types

  trees_none : (others : List (Entry × Proto)) (trees : List FunctionTree) →
      AreFunctions interfaces rows others trees → concat (map (function_count_lines section) trees) ≡ []
  trees_none others trees no_functions = refl
  trees_none others trees (and_function entry f more rest line close body b h) =
      ap₂ (λ b x. (unless b line ++ []) ++ x) (params_small 0 f.params) (trees_none more rest h)

  section_none : section_count_lines section callees ≡ []
  section_none =
      all_none _ _ _ _ _ _ _
      (ap (λ b. unless b 1) (and_from _ _ few_nodes few_decls))
      (none_beyond {A = ExportLine} (λ line. line.line) section.exports 4096 few_export_lines)
      (none_beyond {A = ImportLine} (λ line. line.line) section.imports 4096 few_import_lines)
      (ap (structs_from section 0) (no_structs interfaces comp rows interface is section t))
      (ap (λ x. concat (map (global_count_lines section) x)) (one_global interfaces comp rows interface is section t))
      (ap (λ x. concat (map (head_lines section) x)) (heads_are interfaces comp rows interface is section t) ∙
      all_heads (uses interfaces interface.imports) t.heads (heads_of t.functions) t.are_heads
      (uses_usable interfaces comp rows interface is)
      (tree_heads all t.functions t.are_functions (entries_usable interfaces comp rows interface is)))
      (ap (λ x. concat (map (function_count_lines section) x)) (functions_are interfaces comp rows interface is section
      t) ∙
      trees_none all t.functions t.are_functions)

pub counts_hold : CountsHold
counts_hold interfaces comp rows interface section is same sections number =
    section_none interfaces comp rows interface is section
    (back_tree_is interfaces comp rows interface section same) sections number
