-- Helping: reading functions and sections from left to right, where `free` brackets may be open and trees may be as
-- high as `limit`.
pub use Rattle.sc_parse_expr.specs.Prefixes.{is_empty}
use Rattle.sc_base.specs.Prelude.{most_brackets, most_height}
use Rattle.sc_parse.specs.Common.{BaseTree, Decl, Declarator, ExportLine, ExprTree, FunctionHead, FunctionTree}
use Rattle.sc_parse.specs.Common.{HeadTree, ImportLine, Lexeme, LocalTree, ParamTree, SectionTree, StmtTree, Symbol}
use Rattle.sc_parse.specs.Common.{TypeName, following, ◌>>=◌}
use Rattle.std.specs.Prelude.{ℕ, zero, suc, ◌+◌, Bool, not, List, [], ◌∷◌, ◌++◌, length, drop, Option}
use Rattle.std.specs.Prelude.{Some, None, if◌then◌else◌}
use Rattle.std.specs.Option.{option_map_or}
use Rattle.sc_ast.specs.declared.section.FunctionParam.{FunctionParam}
use Rattle.sc_ast.specs.declared.section.Decl.TheVariants as decl
use Rattle.sc_parse_expr.specs.declared.mark.Mark.TheVariants as mark
use Rattle.sc_parse_expr.specs.declared.lexeme.Symbol.TheVariants as symbol
use Rattle.sc_parse.specs.declared.section.Line.{Line}
use Rattle.sc_parse.specs.declared.section.Line.TheVariants as line
use Rattle.sc_parse.specs.declared.section.Directives.{Directives}
use Rattle.sc_parse.specs.Lists.{first_line}
use Rattle.sc_parse.specs.Lookahead.{Reader, keyword_at, is_base}
use Rattle.sc_parse.specs.Readers.{Adder, adds, grouped, declaration_at, declarator_at, type_of, struct_at, head_at}
use Rattle.sc_parse.specs.Readers.{begins_struct, begins_head, add_global}
use Rattle.sc_parse.specs.StmtReaders.{expr_at, stmt_at, stmts_at}

-- what a local begins with
unfoldable pub value_at : (free limit : ℕ) → Reader (Option ExprTree)
value_at free limit ts = option_map_or (λ us. expr_at free limit us >>= (λ x. Some (Some x.0, x.1)))
    (following mark.Equal ts) (Some (None, ts))

abbrev pub local_tree : BaseTree → Declarator → Option ExprTree → ℕ → LocalTree
local_tree base x value line = record { ty = type_of base x; name = x.name; init = value; line = line }

unfoldable pub local_at : (free limit : ℕ) → BaseTree → ℕ → Reader LocalTree
local_at free limit base line ts = declarator_at ts >>=
    (λ x. value_at free limit x.1 >>= (λ y. Some (local_tree base x.0 y.0 line, y.1)))

abbrev pub add_local : (free limit : ℕ) → BaseTree → ℕ → Adder LocalTree
add_local free limit base line = adds (local_at free limit base line)

-- no declaration of locals begins here
abbrev pub no_base : List Lexeme → Bool
no_base ts = not (is_base (keyword_at ts))

abbrev pub locals_at : (free limit : ℕ) → Reader (List LocalTree)
locals_at free limit ts = grouped no_base (declaration_at (add_local free limit)) (length ts + 1) [] ts

abbrev pub function_param : TypeName → List ℕ → FunctionParam
function_param ty name = record { ty = ty; name = name }

-- the parameters of a function, where each has a name
abbrev pub named_params : List ParamTree → Option (List FunctionParam)
named_params [] = Some []
named_params (param ∷ rest) = param.name >>= (λ name.
    named_params rest >>= (λ others. Some (function_param param.ty name ∷ others)))

abbrev pub function_head : HeadTree → List FunctionParam → FunctionHead
function_head head params = record { result = head.result; name = head.name; params = params; line = head.line }

abbrev pub named_head : HeadTree → Option FunctionHead
named_head head = named_params head.params >>= (λ params. Some (function_head head params))

abbrev pub function_tree : FunctionHead → List LocalTree → List StmtTree → ℕ → FunctionTree
function_tree head locals body close_line = record {
  head = head;
  locals = locals;
  body = body;
  close_line = close_line;
}

-- a function after its head
unfoldable pub body_at : (free limit : ℕ) → FunctionHead → Reader FunctionTree
body_at free limit head ts =
    following mark.OpenCurly ts >>= (λ us. locals_at free limit us >>=
    (λ x. stmts_at (stmt_at free limit) x.1 >>= (λ y.
    following mark.CloseCurly y.1 >>= (λ rest. Some (function_tree head x.0 y.0 (first_line y.1), rest)))))

unfoldable pub function_at : (free limit : ℕ) → HeadTree → Reader Decl
function_at free limit head ts = named_head head >>=
    (λ named. body_at free limit named ts >>= (λ x. Some (decl.Function x.0, x.1)))

abbrev pub past_head : (free limit : ℕ) → HeadTree → Reader Decl
past_head free limit head ts = option_map_or (λ rest. Some (decl.Proto head, rest)) (following mark.Semicolon ts)
    (function_at free limit head ts)

-- a prototype or a function
unfoldable pub headed_at : (free limit : ℕ) → Reader Decl
headed_at free limit ts = head_at ts >>= (λ x. past_head free limit x.0 x.1)

unfoldable pub struct_decl_at : Reader Decl
struct_decl_at ts = struct_at ts >>= (λ x. Some (decl.Struct x.0, x.1))

unfoldable pub decl_at : (free limit : ℕ) → Adder Decl
decl_at free limit decls ts =
    if begins_struct ts then adds struct_decl_at decls ts
    else (if begins_head ts then adds (headed_at free limit) decls ts
    else declaration_at add_global decls ts)

abbrev pub decls_at : (free limit : ℕ) → Reader (List Decl)
decls_at free limit ts = grouped is_empty (decl_at free limit) (length ts + 1) [] ts

abbrev pub export_line : List ℕ → ℕ → ExportLine
export_line name at = record { name = name; line = at }

abbrev pub import_line : List ℕ → List ℕ → ℕ → ImportLine
import_line comp name at = record { comp = comp; name = name; line = at }

abbrev pub line_by : Symbol → ℕ → Option Line
line_by (symbol.Export name) at = Some (line.Export (export_line name at))
line_by (symbol.Import comp name) at = Some (line.Import (import_line comp name at))
line_by _ at = None

-- the directive at the start
abbrev pub line_at : List Lexeme → Option Line
line_at [] = None
line_at (t ∷ ts) = line_by t.symbol t.line

abbrev pub directives : List ExportLine → List ImportLine → Directives
directives exports imports = record { exports = exports; imports = imports }

abbrev pub with_line : Directives → Line → Directives
with_line found (line.Export l) = directives (found.exports ++ l ∷ []) found.imports
with_line found (line.Import l) = directives found.exports (found.imports ++ l ∷ [])

-- Export lines and import lines, in at most this number of turns.
unfoldable pub lines_at : ℕ → Directives → Reader Directives
lines_at zero found ts = None
lines_at (suc turns) found ts = option_map_or (λ l. lines_at turns (with_line found l) (drop 1 ts)) (line_at ts)
    (Some (found, ts))

abbrev pub directives_at : Reader Directives
directives_at ts = lines_at (length ts + 1) (directives [] []) ts

abbrev pub compartment_by : Symbol → Option (List ℕ)
compartment_by (symbol.Compartment name) = Some name
compartment_by _ = None

abbrev pub compartment_at : Reader (List ℕ)
compartment_at [] = None
compartment_at (t ∷ ts) = compartment_by t.symbol >>= (λ name. Some (name, ts))

abbrev pub section_tree : List ℕ → ℕ → Directives → List Decl → SectionTree
section_tree name at found decls = record {
  name = name;
  line = at;
  exports = found.exports;
  imports = found.imports;
  decls = decls;
}

-- a section whose compartment line is line `at` of the whole text, where `free` brackets may be open and trees may be
-- `limit` high
unfoldable pub section_within : (free limit : ℕ) → ℕ → Reader SectionTree
section_within free limit at ts =
    compartment_at ts >>= (λ x. directives_at x.1 >>=
    (λ y. decls_at free limit y.1 >>= (λ z. Some (section_tree x.0 at y.0 z.0, z.1))))

-- a section within the limits of the language
abbrev pub section_at : ℕ → Reader SectionTree
section_at at ts = section_within most_brackets most_height at ts
