-- Helping: what the leaves of declarations keep.
use Rattle.sc_parse_print_laws.specs.Common.{Decl, fits, head_of, is_ident}
use Rattle.std.specs.Prelude.{ℕ, Bool, true, false, ◌&&◌, nat_le, List, [], ◌∷◌, Option, Some, None}
use Rattle.std.specs.List.{list_all}
use Rattle.sc_ast.specs.declared.types.TypeTree.{TypeTree}
use Rattle.sc_ast.specs.declared.types.TypeName.{TypeName}
use Rattle.sc_ast.specs.declared.section.MemberTree.{MemberTree}
use Rattle.sc_ast.specs.declared.section.StructTree.{StructTree}
use Rattle.sc_ast.specs.declared.section.ConstTree.{ConstTree}
use Rattle.sc_ast.specs.declared.section.InitTree.{InitTree}
use Rattle.sc_ast.specs.declared.section.InitTree.TheVariants as init
use Rattle.sc_ast.specs.declared.section.GlobalTree.{GlobalTree}
use Rattle.sc_ast.specs.declared.section.ParamTree.{ParamTree}
use Rattle.sc_ast.specs.declared.section.HeadTree.{HeadTree}
use Rattle.sc_ast.specs.declared.section.LocalTree.{LocalTree}
use Rattle.sc_ast.specs.declared.section.FunctionTree.{FunctionTree}
use Rattle.sc_ast.specs.declared.section.Decl.TheVariants as decl
use Rattle.sc_parse_print_laws.specs.Kept.{kept_base, kept_value}
use Rattle.sc_parse_print_laws.specs.KeptStmts.{are_kept}

-- at least 1, and a number of 32 bits
abbrev pub kept_length : Option ℕ → Bool
kept_length None = true
kept_length (Some elements) = nat_le 1 elements && nat_le elements 4294967295

abbrev pub kept_type : TypeTree → Bool
kept_type ty = kept_base ty.base && kept_length ty.length

abbrev pub kept_member : MemberTree → Bool
kept_member member = kept_type member.ty && is_ident member.name

abbrev pub some_kept : {A : Type 0} → (A → Bool) → List A → Bool
some_kept p [] = false
some_kept p (x ∷ xs) = p x && list_all p xs

abbrev pub kept_struct : StructTree → Bool
kept_struct tree = is_ident tree.name && some_kept kept_member tree.members

abbrev pub kept_const : ConstTree → Bool
kept_const constant = fits constant.literal

abbrev pub kept_init : InitTree → Bool
kept_init init.Absent = true
kept_init (init.One constant) = kept_const constant
kept_init (init.Many constants) = some_kept kept_const constants

abbrev pub kept_global : GlobalTree → Bool
kept_global tree = kept_type tree.ty && (is_ident tree.name && kept_init tree.init)

abbrev pub kept_name : Option (List ℕ) → Bool
kept_name None = true
kept_name (Some name) = is_ident name

abbrev pub kept_param : ParamTree → Bool
kept_param param = kept_base param.ty.base && kept_name param.name

abbrev pub kept_result : Option TypeName → Bool
kept_result None = true
kept_result (Some ty) = kept_base ty.base

abbrev pub kept_head : HeadTree → Bool
kept_head head = kept_result head.result && (is_ident head.name && list_all kept_param head.params)

abbrev pub kept_local : LocalTree → Bool
kept_local tree = kept_type tree.ty && (is_ident tree.name && kept_value tree.init)

abbrev pub kept_function : FunctionTree → Bool
kept_function tree = kept_head (head_of tree.head) && (list_all kept_local tree.locals && are_kept tree.body)

abbrev pub is_kept_decl : Decl → Bool
is_kept_decl (decl.Struct tree) = kept_struct tree
is_kept_decl (decl.Global tree) = kept_global tree
is_kept_decl (decl.Proto tree) = kept_head tree
is_kept_decl (decl.Function tree) = kept_function tree
