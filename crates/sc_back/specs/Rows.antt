-- Rows one by one, and a section in two parts.
use Rattle.sc_back.specs.Common.{Entry, Export, Interface, Interfaces, Main, Row, Scalar}
use Rattle.std.specs.Prelude.{ℕ, suc, ◌<◌, ◌^◌, ◌++◌, if◌then◌else◌, codes, List, [], flat_map, Option, None, Some}
use Rattle.sc_back.specs.Text.{export_text, functions_text, import_text, is_of, main_text, proto_text, row_text}

-- the number after that of a row is a word
abbrev pub HasNext : Row → Type 0
HasNext row = suc row.number < 2 ^ 32

-- the entry of the export at a place, or of `main`
abbrev pub entry_at : Option ℕ → Entry
entry_at None = Main
entry_at (Some place) = Export place

-- what a row adds to the function of an entry
abbrev pub own_row_text : Interfaces → Option Scalar → Entry → Row → List ℕ
own_row_text interfaces result entry row = if is_of entry row then row_text interfaces result row else []

abbrev pub own_rows_text : Interfaces → Option Scalar → Entry → List Row → List ℕ
own_rows_text interfaces result entry rows = flat_map (own_row_text interfaces result entry) rows

abbrev pub directives_text : Interfaces → Interface → List ℕ
directives_text interfaces interface =
    codes "#pragma compartment " ++ (interface.name ++ (codes "\n" ++
    (flat_map export_text interface.exports ++ flat_map (import_text interfaces) interface.imports)))

abbrev pub declarations_text : Interfaces → (comp : ℕ) → List Row → Interface → List ℕ
declarations_text interfaces comp rows interface =
    flat_map (proto_text interfaces) interface.imports ++ (codes "unsigned int bt_n;\n" ++
    (functions_text interfaces rows 0 interface.exports ++ main_text interfaces comp rows))
