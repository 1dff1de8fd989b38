-- How a section is printed: its compartment line, its directives, and its declarations, one a line.
use Rattle.std.specs.Prelude.{ℕ, Bool, true, false, ◌||◌, nat_lt, codes, List, [], ◌∷◌, ◌++◌, Option, Some, None}
use Rattle.std.specs.Prelude.{is_some}
use Rattle.std.specs.List.{flat_map, join_by}
use Rattle.sc_ast.specs.Numbers.{Number}
use Rattle.sc_ast.specs.Heads.{head_of}
use Rattle.sc_ast.specs.Pieces.{Piece, word, blank, newline, text_of, blank_if, comma, line_of}
use Rattle.sc_ast.specs.ExprWords.{literal_text, expr_words}
use Rattle.sc_ast.specs.StmtWords.{equals, ended, layouts, lines_at}
use Rattle.sc_ast.specs.TypeWords.{base_words, star_words}
use Rattle.sc_ast.specs.declared.expr.ExprTree.{ExprTree}
use Rattle.sc_ast.specs.declared.types.TypeTree.{TypeTree}
use Rattle.sc_ast.specs.declared.types.TypeName.{TypeName}
use Rattle.sc_ast.specs.declared.section.ExportLine.{ExportLine}
use Rattle.sc_ast.specs.declared.section.ImportLine.{ImportLine}
use Rattle.sc_ast.specs.declared.section.MemberTree.{MemberTree}
use Rattle.sc_ast.specs.declared.section.StructTree.{StructTree}
use Rattle.sc_ast.specs.declared.section.ConstTree.{ConstTree}
use Rattle.sc_ast.specs.declared.section.InitTree.{InitTree}
use Rattle.sc_ast.specs.declared.section.InitTree.TheVariants as init
use Rattle.sc_ast.specs.declared.section.GlobalTree.{GlobalTree}
use Rattle.sc_ast.specs.declared.section.ParamTree.{ParamTree}
use Rattle.sc_ast.specs.declared.section.HeadTree.{HeadTree}
use Rattle.sc_ast.specs.declared.section.LocalTree.{LocalTree}
use Rattle.sc_ast.specs.declared.section.FunctionTree.{FunctionTree}
use Rattle.sc_ast.specs.declared.section.Decl.{Decl}
use Rattle.sc_ast.specs.declared.section.Decl.TheVariants as decl
use Rattle.sc_ast.specs.declared.section.SectionTree.{SectionTree}

-- the length of an array, which has the type `unsigned int` where `int` doesn't hold it
abbrev pub length_number : ℕ → Number
length_number elements = record { value = elements; unsigned = nat_lt 2147483647 elements }

abbrev pub length_words : Option ℕ → List Piece
length_words None = []
length_words (Some elements) = word (codes "[") ∷ word (literal_text (length_number elements)) ∷ word (codes "]") ∷ []

-- `int *x[3]`
abbrev pub declared_words : TypeTree → List ℕ → List Piece
declared_words ty name = base_words ty.base ++ blank ∷ (star_words ty.stars ++ word name ∷ length_words ty.length)

-- `struct S {`, the members a level deeper, and `};`
abbrev pub member_line : MemberTree → List Piece
member_line member = line_of 1 (ended (declared_words member.ty member.name))

abbrev pub struct_words : StructTree → List Piece
struct_words tree =
    word (codes "struct") ∷ blank ∷ word tree.name ∷ blank ∷
    word (codes "{") ∷ newline ∷ (flat_map member_line tree.members ++ word (codes "}") ∷ word (codes ";") ∷
    newline ∷ [])

abbrev pub minus_words : Bool → List Piece
minus_words true = word (codes "-") ∷ []
minus_words false = []

abbrev pub const_words : ConstTree → List Piece
const_words constant = minus_words constant.negative ++ word (literal_text constant.literal) ∷ []

-- ` = 7` or ` = {7, 8}`
abbrev pub init_words : InitTree → List Piece
init_words init.Absent = []
init_words (init.One constant) = equals ++ const_words constant
init_words (init.Many constants) = equals ++ word (codes "{") ∷
    (join_by const_words comma constants ++ word (codes "}") ∷ [])

abbrev pub global_words : GlobalTree → List Piece
global_words tree = ended (declared_words tree.ty tree.name ++ init_words tree.init) ++ newline ∷ []

-- `int x`, `int *`, `int`
abbrev pub name_words : Option (List ℕ) → List Piece
name_words None = []
name_words (Some name) = word name ∷ []

abbrev pub param_words : ParamTree → List Piece
param_words param = base_words param.ty.base ++ (blank_if (nat_lt 0 param.ty.stars || is_some param.name) ++
    (star_words param.ty.stars ++ name_words param.name))

-- parameters, or `void` for none
abbrev pub params_words : List ParamTree → List Piece
params_words [] = word (codes "void") ∷ []
params_words (first ∷ rest) = join_by param_words comma (first ∷ rest)

-- the type of a result, or `void` for none
abbrev pub result_words : Option TypeName → List Piece
result_words None = word (codes "void") ∷ blank ∷ []
result_words (Some ty) = base_words ty.base ++ blank ∷ star_words ty.stars

abbrev pub head_words : HeadTree → List Piece
head_words head = result_words head.result ++ word head.name ∷
    word (codes "(") ∷ (params_words head.params ++ word (codes ")") ∷ [])

abbrev pub value_words : Option ExprTree → List Piece
value_words None = []
value_words (Some value) = equals ++ expr_words value

abbrev pub local_line : LocalTree → List Piece
local_line tree = line_of 1 (ended (declared_words tree.ty tree.name ++ value_words tree.init))

-- after an empty line: the head, and in braces the locals and the statements
abbrev pub function_words : FunctionTree → List Piece
function_words tree =
    newline ∷ (head_words (head_of tree.head) ++ blank ∷
    word (codes "{") ∷ newline ∷ (flat_map local_line tree.locals ++
    (lines_at 1 (layouts tree.body) ++ word (codes "}") ∷ newline ∷ [])))

abbrev pub decl_words : Decl → List Piece
decl_words (decl.Struct tree) = struct_words tree
decl_words (decl.Global tree) = global_words tree
decl_words (decl.Proto tree) = ended (head_words tree) ++ newline ∷ []
decl_words (decl.Function tree) = function_words tree

-- a directive is one word, which is a line
unfoldable pub export_words : ExportLine → List Piece
export_words line = word (codes "#pragma export " ++ line.name) ∷ newline ∷ []

unfoldable pub import_words : ImportLine → List Piece
import_words line = word (codes "#pragma import " ++ (line.comp ++ codes " " ++ line.name)) ∷ newline ∷ []

abbrev pub heading_words : List ℕ → List Piece
heading_words name = word (codes "#pragma compartment " ++ name) ∷ newline ∷ []

abbrev pub section_words : SectionTree → List Piece
section_words tree =
    heading_words tree.name ++ (flat_map export_words tree.exports ++
    (flat_map import_words tree.imports ++ flat_map decl_words tree.decls))

-- the text of a section
abbrev pub printed : SectionTree → List ℕ
printed tree = text_of (section_words tree)
