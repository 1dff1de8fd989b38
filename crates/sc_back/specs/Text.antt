-- The text of a section that performs a compartment's part of a trace: one `if` an action, which tests how many of the
-- compartment's actions were performed before.
use Rattle.sc_back.specs.Common.{Action, Call, End, Entry, Export, Import, In, Interface, Interfaces, Main, Out, Proto}
use Rattle.sc_back.specs.Common.{Ret, Row, Scalar, comp_at, comp_name, export_at, signed_text}
use Rattle.std.specs.Prelude.{ℕ, suc, ◌==◌, Bool, true, false, if◌then◌else◌, codes, List, [], ◌∷◌, ◌++◌, filter}
use Rattle.std.specs.Prelude.{flat_map, Option, None, Some}
use Rattle.std.specs.Fmt.{decimal}
use Rattle.std.specs.Option.{option_map_or}
use Rattle.sc_event.specs.declared.interface.Import.TheVariants as import
use Rattle.sc_event.specs.declared.interface.Scalar.TheVariants.{Int, Unsigned}

-- Heads of functions.

abbrev pub type_text : Scalar → List ℕ
type_text Int = codes "int"
type_text Unsigned = codes "unsigned int"

abbrev pub result_text : Option Scalar → List ℕ
result_text None = codes "void"
result_text (Some ty) = type_text ty

-- parameters are called bt_0, bt_1 and so on
abbrev pub param_text : (number : ℕ) → Scalar → List ℕ
param_text number ty = type_text ty ++ (codes " bt_" ++ decimal number)

abbrev pub param_texts : (number : ℕ) → List Scalar → List (List ℕ)
param_texts number [] = []
param_texts number (ty ∷ types) = param_text number ty ∷ param_texts (suc number) types

abbrev pub after_comma : List ℕ → List ℕ
after_comma text = codes ", " ++ text

abbrev pub joined : List (List ℕ) → List ℕ
joined [] = []
joined (text ∷ texts) = text ++ flat_map after_comma texts

abbrev pub params_text : List Scalar → List ℕ
params_text [] = codes "void"
params_text (ty ∷ types) = joined (param_texts 0 (ty ∷ types))

-- `int f(int bt_0)`
abbrev pub head_text : Proto → List ℕ
head_text f = result_text f.result ++ (codes " " ++ (f.name ++ (codes "(" ++ (params_text f.params ++ codes ")"))))

-- Directives and prototypes.

abbrev pub input_proto : Proto
input_proto = record { name = codes "input"; params = []; result = Some Int }

abbrev pub output_proto : Proto
output_proto = record { name = codes "output"; params = Int ∷ []; result = None }

abbrev pub main_proto : Proto
main_proto = record { name = codes "main"; params = []; result = Some Int }

-- what an import names, and whose it is
abbrev pub imported : Interfaces → Import → Option Proto
imported interfaces import.Input = Some input_proto
imported interfaces import.Output = Some output_proto
imported interfaces (import.Function comp index) = export_at interfaces comp index

abbrev pub owner_name : Interfaces → Import → List ℕ
owner_name interfaces import.Input = codes "Env"
owner_name interfaces import.Output = codes "Env"
owner_name interfaces (import.Function comp index) = comp_name interfaces comp

abbrev pub export_text : Proto → List ℕ
export_text f = codes "#pragma export " ++ (f.name ++ codes "\n")

abbrev pub import_line : (owner name : List ℕ) → List ℕ
import_line owner name = codes "#pragma import " ++ (owner ++ (codes " " ++ (name ++ codes "\n")))

abbrev pub import_text : Interfaces → Import → List ℕ
import_text interfaces import =
    option_map_or (λ f. import_line (owner_name interfaces import) f.name) (imported interfaces import) []

abbrev pub proto_line : Proto → List ℕ
proto_line f = head_text f ++ codes ";\n"

abbrev pub proto_text : Interfaces → Import → List ℕ
proto_text interfaces import = option_map_or proto_line (imported interfaces import) []

-- Actions.

-- a word as an expression of its type: the least `int` has no literal
abbrev pub value_text : Scalar → ℕ → List ℕ
value_text Int word = if word == 2147483648 then codes "-2147483647 - 1" else signed_text word
value_text Unsigned word = decimal word ++ codes "u"

abbrev pub value_texts : List Scalar → List ℕ → List (List ℕ)
value_texts (ty ∷ types) (word ∷ words) = value_text ty word ∷ value_texts types words
value_texts _ _ = []

-- `f(1, 2);`
abbrev pub call_text : List ℕ → Proto → List ℕ
call_text args f = f.name ++ (codes "(" ++ (joined (value_texts f.params args) ++ codes ");"))

abbrev pub return_text : Option Scalar → Option ℕ → List ℕ
return_text (Some ty) (Some word) = codes "return " ++ (value_text ty word ++ codes ";")
return_text _ _ = codes "return;"

-- an action of a function with this result
abbrev pub action_text : Interfaces → Option Scalar → Action → List ℕ
action_text interfaces result (Call to index args) = option_map_or (call_text args) (export_at interfaces to index) []
action_text interfaces result (Ret value) = return_text result value
action_text interfaces result (Out word) = call_text (word ∷ []) output_proto
action_text interfaces result (In word) = call_text [] input_proto
action_text interfaces result (End word) = return_text (Some Int) (Some word)

-- `  if (bt_n == 0u) { bt_n = 1u; f(1, 2); }`
abbrev pub row_text : Interfaces → Option Scalar → Row → List ℕ
row_text interfaces result row =
    codes "  if (bt_n == " ++ (value_text Unsigned row.number ++
    (codes ") { bt_n = " ++ (value_text Unsigned (suc row.number) ++
    (codes "; " ++ (action_text interfaces result row.action ++ codes " }\n")))))

-- Functions.

abbrev pub is_of : Entry → Row → Bool
is_of entry row = same entry row.entry where
  same : Entry → Entry → Bool
  same Main Main = true
  same (Export index) (Export other) = index == other
  same _ _ = false

-- a function performs the actions of its entry; after the last it never ends
abbrev pub function_text : Interfaces → List Row → Entry → Proto → List ℕ
function_text interfaces rows entry f =
    head_text f ++ (codes " {\n" ++
    (flat_map (row_text interfaces f.result) (filter (is_of entry) rows) ++ codes "  while (1) { }\n}\n"))

abbrev pub functions_text : Interfaces → List Row → (index : ℕ) → List Proto → List ℕ
functions_text interfaces rows index [] = []
functions_text interfaces rows index (f ∷ exports) =
    function_text interfaces rows (Export index) f ++ functions_text interfaces rows (suc index) exports

abbrev pub main_text : Interfaces → ℕ → List Row → List ℕ
main_text interfaces comp rows =
    if comp == interfaces.main then function_text interfaces rows Main main_proto else []

-- the section of a compartment with this interface
abbrev pub section_text : Interfaces → ℕ → List Row → Interface → List ℕ
section_text interfaces comp rows interface =
    codes "#pragma compartment " ++ (interface.name ++ (codes "\n" ++
    (flat_map export_text interface.exports ++ (flat_map (import_text interfaces) interface.imports ++
    (flat_map (proto_text interfaces) interface.imports ++ (codes "unsigned int bt_n;\n" ++
    (functions_text interfaces rows 0 interface.exports ++ main_text interfaces comp rows)))))))

-- the text by which a compartment performs these rows
abbrev pub back_text : Interfaces → (comp : ℕ) → List Row → List ℕ
back_text interfaces comp rows = option_map_or (section_text interfaces comp rows) (comp_at interfaces comp) []
