-- How much a program may hold, and the lines at which a text holds more.
use Rattle.sc_types.specs.Common.{FunctionTree, LocalTree, SectionTree, callees_of, cells_of, function_decls}
use Rattle.sc_types.specs.Common.{globals_in}
use Rattle.sc_types.specs.Common.{heads_in, line_of_text, most_cells, most_compartments, most_exports, most_nodes}
use Rattle.sc_types.specs.Common.{most_params, nodes, struct_names, structs, structs_in, total, type_of, type_of_name}
use Rattle.sc_types.specs.Common.{typed_section, unless}
use Rattle.sc_types_elab_expr.specs.Prelude.{Callees}
use Rattle.std.specs.Prelude.{ℕ, suc, Bool, ◌&&◌, nat_le, List, [], ◌∷◌, ◌++◌, length, map, slice_get, Option, Some}
use Rattle.std.specs.Prelude.{None}
use Rattle.std.specs.List.{concat, list_all}
use Rattle.sc_ast.specs.declared.types.TypeTree.{TypeTree}
use Rattle.sc_ast.specs.declared.section.ExportLine.{ExportLine}
use Rattle.sc_ast.specs.declared.section.ImportLine.{ImportLine}
use Rattle.sc_ast.specs.declared.section.StructTree.{StructTree}
use Rattle.sc_ast.specs.declared.section.GlobalTree.{GlobalTree}
use Rattle.sc_ast.specs.declared.section.HeadTree.{HeadTree}
use Rattle.sc_ast.specs.declared.section.FunctionParam.{FunctionParam}
use Rattle.sc_core.specs.declared.ty.Ty.{Ty}
use Rattle.sc_core.specs.declared.ty.Ty.TheVariants as ty

-- the line of the first item beyond a count
abbrev pub line_of_some : {A : Type 0} → (A → ℕ) → Option A → List ℕ
line_of_some line_of None = []
line_of_some line_of (Some item) = line_of item ∷ []

abbrev pub line_beyond : {A : Type 0} → (A → ℕ) → ℕ → List A → List ℕ
line_beyond line_of most items = line_of_some line_of (slice_get items most)

module _ (section : SectionTree) where
  -- a variable has no more cells than are allowed
  abbrev pub is_small : Ty → Bool
  is_small ty = nat_le (cells_of (structs section) ty) most_cells

  abbrev pub type_in : TypeTree → Ty
  type_in ty = type_of (struct_names section.decls) ty

  -- the structs from number k on
  abbrev pub structs_from : (k : ℕ) → List StructTree → List ℕ
  structs_from k [] = []
  structs_from k (tree ∷ trees) = unless (is_small (ty.Struct k)) tree.line ++ structs_from (suc k) trees

  abbrev pub global_count_lines : GlobalTree → List ℕ
  global_count_lines tree = unless (is_small (type_in tree.ty)) tree.line

  abbrev pub head_lines : HeadTree → List ℕ
  head_lines head = unless (nat_le (length head.params) most_params) head.line

  abbrev pub local_lines : LocalTree → List ℕ
  local_lines tree = unless (is_small (type_in tree.ty)) tree.line

  abbrev pub param_small : FunctionParam → Bool
  param_small param = is_small (type_of_name (struct_names section.decls) param.ty)

  abbrev pub function_count_lines : FunctionTree → List ℕ
  function_count_lines tree = unless (list_all param_small tree.head.params) tree.head.line ++
      concat (map local_lines tree.locals)

  -- the nodes of all functions, where this stands for what is called
  abbrev pub section_nodes : Callees → ℕ
  section_nodes callees = total (map nodes (typed_section section callees).functions)

  -- the lines, counted in the section, of what is beyond a count
  abbrev pub section_count_lines : Callees → List ℕ
  section_count_lines callees =
      unless (nat_le (section_nodes callees) most_nodes && nat_le (length section.decls) most_nodes) 1 ++
      (line_beyond {A = ExportLine} (λ line. line.line) most_exports section.exports ++
      (line_beyond {A = ImportLine} (λ line. line.line) most_exports section.imports ++
      (structs_from 0 (structs_in section.decls) ++
      (concat (map global_count_lines (globals_in section.decls)) ++
      (concat (map head_lines (heads_in section.decls)) ++
      concat (map function_count_lines (function_decls section.decls)))))))

-- the sections from number k on
abbrev pub count_lines_from : List SectionTree → ℕ → List SectionTree → List ℕ
count_lines_from sections k [] = []
count_lines_from sections k (section ∷ rest) =
    map (line_of_text section.line) (section_count_lines section (callees_of sections k section)) ++
    count_lines_from sections (suc k) rest

-- the lines of the text of what is beyond a count
abbrev pub counts_broken : List SectionTree → List ℕ
counts_broken sections =
    line_beyond {A = SectionTree} (λ section. line_of_text section.line 1) most_compartments sections ++
    count_lines_from sections 0 sections
