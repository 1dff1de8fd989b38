-- How many bytes a section has at least, by its tree.
use Rattle.sc_back.proofs.Common.{List, [], length, ℕ, ◌+◌, ◌∷◌}
use Rattle.std.proofs.Common.{◌*◌}
use Rattle.sc_ast.specs.declared.section.Decl.{Decl}
use Rattle.sc_ast.specs.declared.section.Decl.TheVariants.{Function, Proto}
use Rattle.sc_ast.specs.declared.section.ExportLine.{ExportLine}
use Rattle.sc_ast.specs.declared.section.FunctionTree.{FunctionTree}
use Rattle.sc_ast.specs.declared.section.HeadTree.{HeadTree}
use Rattle.sc_ast.specs.declared.section.ImportLine.{ImportLine}
use Rattle.sc_ast.specs.declared.section.SectionTree.{SectionTree}

-- a prototype has at least nine bytes beside its name, a function seven and three for each parameter
abbrev pub proto_size : HeadTree → ℕ
proto_size head = 9 + length head.name

abbrev pub function_size : FunctionTree → ℕ
function_size tree = 7 + length tree.head.name + 3 * length tree.head.params

abbrev pub decl_size : Decl → ℕ
decl_size (Proto head) = proto_size head
decl_size (Function tree) = function_size tree
decl_size _ = 0

abbrev pub decls_size : List Decl → ℕ
decls_size [] = 0
decls_size (d ∷ ds) = decl_size d + decls_size ds

abbrev pub exports_size : List ExportLine → ℕ
exports_size [] = 0
exports_size (line ∷ lines) = 15 + length line.name + exports_size lines

abbrev pub imports_size : List ImportLine → ℕ
imports_size [] = 0
imports_size (line ∷ lines) = 16 + (length line.comp + length line.name) + imports_size lines

abbrev pub section_size : SectionTree → ℕ
section_size tree = 20 + (exports_size tree.exports + imports_size tree.imports + decls_size tree.decls)
