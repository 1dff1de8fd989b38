-- How long the parts of a performing section are at most.
use Rattle.sc_back.proofs.Common.{Entry, Interfaces, List, Main, Option, Row, Scalar, Some, [], after_comma, codes}
use Rattle.sc_back.proofs.Common.{false, filter, flat_map, head_text, if◌then◌else◌, length, param_texts, refl}
use Rattle.sc_back.proofs.Common.{row_text, suc, sym, true, ℕ, ◌++◌, ◌+◌, ◌<◌, ◌∷◌, ◌≡◌}
use Rattle.std.proofs.Common.{Bool, None, ap, arith, length-append, negsuc, not, pos, subst, ⊎_elim, ◌*◌, ◌-◌, ◌==◌}
use Rattle.std.proofs.Common.{◌^◌, ◌∙◌, ◌≤◌}
use mir.ValLaws.{to_z-neg, to_z_pos}
use Rattle.std.proofs.lemmas.Bool.{and_parts, cases_lt, false≢true}
use Rattle.std.proofs.lemmas.Fmt.{length-decimal-le, length_signed_le}
use Rattle.std.proofs.lemmas.List.Elements.{recursion_from_All}
use Rattle.std.specs.Fmt.{decimal, signed_decimal}
use Rattle.std.specs.Int.{cast_signed, w32}
use Rattle.std.specs.List.{AllByRecursion}
use Rattle.std.specs.Option.{option_map_or}
use Rattle.sc_base.specs.Prelude.{IsWord, IsWordOrNone, is_reserved, signed_text}
unfoldable use Rattle.sc_base.specs.Prelude.{is_name}
use Rattle.sc_base.proofs.Filled.{name_is_short}
use Rattle.sc_event.specs.declared.interface.Import.{Import}
use Rattle.sc_event.specs.declared.interface.Proto.{Proto}
use Rattle.sc_event.specs.declared.interface.Scalar.TheVariants.{Int, Unsigned}
use Rattle.sc_event.specs.declared.row.Action.{Action}
use Rattle.sc_event.specs.declared.row.Action.TheVariants.{Call, End, In, Out, Ret}
use Rattle.sc_back.specs.Sections.{IsCalled, IsSpoken}
use Rattle.sc_back.specs.Text.{action_text, call_text, export_text, function_text, import_line, import_text, imported}
use Rattle.sc_back.specs.Text.{input_proto, is_of, joined, main_proto, output_proto, owner_name, param_text}
use Rattle.sc_back.specs.Text.{params_text, proto_line, proto_text, result_text, return_text, type_text, value_text}
use Rattle.sc_back.specs.Text.{value_texts}

-- PIECES
both : (one other : List ℕ) (m n : ℕ) → length one ≤ m → length other ≤ n → length (one ++ other) ≤ m + n
both one other m n first second = omega (arith, length-append one other, first, second)

exact : (text : List ℕ) (count : ℕ) → length text ≡ count → length text ≤ count
exact text count is = omega (arith, is)

-- a constant piece, and what follows
after : (text rest : List ℕ) (m n : ℕ) → length text ≡ m → length rest ≤ n → length (text ++ rest) ≤ m + n
after text rest m n is following = both text rest m n (exact text m is) following

-- HEADS
type_short : (ty : Scalar) → length (type_text ty) ≤ 12
type_short Int = omega arith
type_short Unsigned = exact (codes "unsigned int") 12 refl

result_short : (result : Option Scalar) → length (result_text result) ≤ 12
result_short None = omega arith
result_short (Some ty) = type_short ty

param_short : (number : ℕ) (ty : Scalar) → number < 10 → length (param_text number ty) ≤ 17
param_short number ty low =
    both (type_text ty) (codes " bt_" ++ decimal number) 12 5 (type_short ty)
    (after (codes " bt_") (decimal number) 4 1 refl
    (length-decimal-le 1 number (omega arith) (omega (arith, low)) (omega (arith, low))))

more_short : (number : ℕ) (types : List Scalar) → number + length types ≤ 10 →
    length (flat_map after_comma (param_texts number types)) ≤ 19 * length types
more_short number [] low = omega arith
more_short number (ty ∷ types) low =
    let here = after (codes ", ") (param_text number ty) 2 17 refl (param_short number ty (omega (arith, low))) in
    let rest = more_short (suc number) types (omega (arith, low)) in
    let whole = both (after_comma (param_text number ty)) (flat_map after_comma (param_texts (suc number) types))
    19 (19 * length types) here rest in
    omega (arith, whole)

params_short : (types : List Scalar) → length types ≤ 8 → length (params_text types) ≤ 4 + 19 * length types
params_short [] few = omega arith
params_short (ty ∷ types) few =
    let whole = both (param_text 0 ty) (flat_map after_comma (param_texts 1 types)) 17 (19 * length types)
    (param_short 0 ty (omega arith)) (more_short 1 types (omega (arith, few))) in
    omega (arith, whole)

head_short : (f : Proto) → length f.params ≤ 8 →
    length (head_text f) ≤ 19 + length f.name + 19 * length f.params
head_short f few =
    let closed = both (params_text f.params) (codes ")") (4 + 19 * length f.params) 1 (params_short f.params few)
    (exact (codes ")") 1 refl) in
    let opened = after (codes "(") (params_text f.params ++ codes ")") 1 (4 + 19 * length f.params + 1) refl closed in
    let named = both f.name (codes "(" ++ (params_text f.params ++ codes ")")) (length f.name)
    (1 + (4 + 19 * length f.params + 1)) (omega arith) opened in
    let spaced = after (codes " ") (f.name ++ (codes "(" ++ (params_text f.params ++ codes ")"))) 1
    (length f.name + (1 + (4 + 19 * length f.params + 1))) refl named in
    let whole = both (result_text f.result)
    (codes " " ++ (f.name ++ (codes "(" ++ (params_text f.params ++ codes ")")))) 12
    (1 + (length f.name + (1 + (4 + 19 * length f.params + 1)))) (result_short f.result) spaced in
    omega (arith, whole)

proto_short : (f : Proto) → length f.params ≤ 8 →
    length (proto_line f) ≤ 21 + length f.name + 19 * length f.params
proto_short f few =
    let whole = both (head_text f) (codes ";\n") (19 + length f.name + 19 * length f.params) 2 (head_short f few)
    (exact (codes ";\n") 2 refl) in
    omega (arith, whole)

import_short : (owner name : List ℕ) → length (import_line owner name) ≤ 17 + length owner + length name
import_short owner name =
    let ended = both name (codes "\n") (length name) 1 (omega arith) (exact (codes "\n") 1 refl) in
    let spaced = after (codes " ") (name ++ codes "\n") 1 (length name + 1) refl ended in
    let owned = both owner (codes " " ++ (name ++ codes "\n")) (length owner) (1 + (length name + 1)) (omega arith)
    spaced in
    let whole = after (codes "#pragma import ") (owner ++ (codes " " ++ (name ++ codes "\n"))) 15
    (length owner + (1 + (length name + 1))) refl owned in
    omega (arith, whole)

-- VALUES
-- how a word of 32 bits is written with its sign
signed_short : (word : ℕ) → IsWord word → length (signed_text word) ≤ 11
signed_short word low = ⊎_elim small great (cases_lt word 2147483648) where
  small : word < 2147483648 → length (signed_text word) ≤ 11
  small h =
      subst (λ z. length (signed_decimal z) ≤ 11) (sym (to_z_pos w32 word (omega (arith, h))))
      (length_signed_le 10 (pos word) (omega (arith, h)) (omega (arith, h)))

  great : 2147483648 ≤ word → length (signed_text word) ≤ 11
  great h =
      let k : ℕ = 2 ^ 32 - suc word in
      let back : word ≡ 2 ^ 32 - suc k = omega (arith, low) in
      let below : k < 2147483648 = omega (arith, low, h) in
      subst (λ z. length (signed_decimal z) ≤ 11)
      (sym (ap (λ v. cast_signed w32 v) back ∙ to_z-neg w32 k (omega (arith, below))))
      (length_signed_le 10 (negsuc k) (omega (arith, below)) (omega (arith, below)))

unsigned_short : (word : ℕ) → IsWord word → length (value_text Unsigned word) ≤ 11
unsigned_short word low =
    both (decimal word) (codes "u") 10 1
    (length-decimal-le 10 word (omega arith) (omega (arith, low)) (omega (arith, low))) (exact (codes "u") 1 refl)

value_short : (ty : Scalar) (word : ℕ) → IsWord word → length (value_text ty word) ≤ 15
value_short Int word low = by (word == 2147483648) (signed_short word low) where
  by : (least : Bool) → length (signed_text word) ≤ 11 →
      length (if least then codes "-2147483647 - 1" else signed_text word) ≤ 15
  by true short = exact (codes "-2147483647 - 1") 15 refl
  by false short = omega (arith, short)
value_short Unsigned word low = omega (arith, unsigned_short word low)

values_short : (types : List Scalar) (words : List ℕ) → AllByRecursion IsWord words →
    length (flat_map after_comma (value_texts types words)) ≤ 17 * length types
values_short [] words are = omega arith
values_short (ty ∷ types) [] are = omega arith
values_short (ty ∷ types) (word ∷ words) are =
    let here = after (codes ", ") (value_text ty word) 2 15 refl (value_short ty word are.0) in
    let rest = values_short types words are.1 in
    let whole = both (after_comma (value_text ty word)) (flat_map after_comma (value_texts types words)) 17
    (17 * length types) here rest in
    omega (arith, whole)

joined_short : (types : List Scalar) (words : List ℕ) → AllByRecursion IsWord words →
    length (joined (value_texts types words)) ≤ 17 * length types
joined_short [] words are = omega arith
joined_short (ty ∷ types) [] are = omega arith
joined_short (ty ∷ types) (word ∷ words) are =
    let whole = both (value_text ty word) (flat_map after_comma (value_texts types words)) 15 (17 * length types)
    (value_short ty word are.0) (values_short types words are.1) in
    omega (arith, whole)

-- ACTIONS
call_short : (args : List ℕ) (f : Proto) → AllByRecursion IsWord args → length f.name ≤ 63 → length f.params ≤ 8 →
    length (call_text args f) ≤ 202
call_short args f are name few =
    let values = joined_short f.params args are in
    let closed = both (joined (value_texts f.params args)) (codes ");") 136 2 (omega (arith, values, few))
    (exact (codes ");") 2 refl) in
    let opened = after (codes "(") (joined (value_texts f.params args) ++ codes ");") 1 138 refl closed in
    let whole = both f.name (codes "(" ++ (joined (value_texts f.params args) ++ codes ");")) 63 139 name opened in
    omega (arith, whole)

return_short : (result : Option Scalar) (value : Option ℕ) → IsWordOrNone value →
    length (return_text result value) ≤ 202
return_short None value is = omega arith
return_short (Some ty) None is = omega arith
return_short (Some ty) (Some word) is =
    let ended = both (value_text ty word) (codes ";") 15 1 (value_short ty word is) (exact (codes ";") 1 refl) in
    let whole = after (codes "return ") (value_text ty word ++ codes ";") 7 16 refl ended in
    omega (arith, whole)

pub called_short : (f : Proto) → IsCalled f → length f.name ≤ 63
called_short f called = name_is_short f.name (and_parts (is_name f.name) (not (is_reserved f.name)) called.name).0

action_short : (interfaces : Interfaces) (result : Option Scalar) (action : Action) → IsSpoken interfaces action →
    length (action_text interfaces result action) ≤ 202
action_short interfaces result (Call to index args) spoken =
    let found = spoken.1 in
    subst (λ o. length (option_map_or (call_text args) o []) ≤ 202) (sym found.1)
    (call_short args found.0 (recursion_from_All IsWord args spoken.0) (called_short found.0 found.2) found.2.few)
action_short interfaces result (Ret value) spoken = return_short result value spoken
action_short interfaces result (Out word) spoken =
    call_short (word ∷ []) output_proto (spoken, tt) (omega arith) (omega arith)
action_short interfaces result (In word) spoken = call_short [] input_proto tt (omega arith) (omega arith)
action_short interfaces result (End word) spoken = return_short (Some Int) (Some word) spoken

-- ROWS
-- a row whose action can be written, with a word as its number
pub record IsWritten (interfaces : Interfaces) (row : Row) : Type 0 where
  pub spoken : IsSpoken interfaces row.action
  pub numbered : suc row.number < 2 ^ 32

row_short : (interfaces : Interfaces) (result : Option Scalar) (row : Row) → IsWritten interfaces row →
    length (row_text interfaces result row) ≤ 256
row_short interfaces result row is =
    let number : List ℕ = value_text Unsigned row.number in
    let next : List ℕ = value_text Unsigned (suc row.number) in
    let action : List ℕ = action_text interfaces result row.action in
    let low : row.number < 2 ^ 32 = let h = is.numbered in omega (arith, h) in
    let ended = both action (codes " }\n") 202 3 (action_short interfaces result row.action is.spoken)
    (exact (codes " }\n") 3 refl) in
    let said = after (codes "; ") (action ++ codes " }\n") 2 205 refl ended in
    let counted = both next (codes "; " ++ (action ++ codes " }\n")) 11 207
    (unsigned_short (suc row.number) is.numbered) said in
    let set = after (codes ") { bt_n = ") (next ++ (codes "; " ++ (action ++ codes " }\n"))) 11 218 refl counted in
    let tested = both number (codes ") { bt_n = " ++ (next ++ (codes "; " ++ (action ++ codes " }\n")))) 11 229
    (unsigned_short row.number low) set in
    let whole = after (codes "  if (bt_n == ")
    (number ++ (codes ") { bt_n = " ++ (next ++ (codes "; " ++ (action ++ codes " }\n"))))) 14 240 refl tested in
    omega (arith, whole)

rows_short : (interfaces : Interfaces) (result : Option Scalar) (test : Row → Bool) (rows : List Row) →
    AllByRecursion (IsWritten interfaces) rows →
    length (flat_map (row_text interfaces result) (filter test rows)) ≤ 256 * length (filter test rows)
rows_short interfaces result test [] are = omega arith
rows_short interfaces result test (row ∷ rows) are =
    by (test row) (row_short interfaces result row are.0) (rows_short interfaces result test rows are.1) where
      by : (own : Bool) → length (row_text interfaces result row) ≤ 256 →
          length (flat_map (row_text interfaces result) (filter test rows)) ≤ 256 * length (filter test rows) →
          length (flat_map (row_text interfaces result) (if own then row ∷ filter test rows else filter test rows)) ≤
          256 * length (if own then row ∷ filter test rows else filter test rows)
      by true here rest =
          let whole = both (row_text interfaces result row)
          (flat_map (row_text interfaces result) (filter test rows)) 256 (256 * length (filter test rows)) here rest in
          omega (arith, whole)
      by false here rest = rest

-- FUNCTIONS
export_short : (f : Proto) → length (export_text f) ≤ 16 + length f.name
export_short f =
    let ended = both f.name (codes "\n") (length f.name) 1 (omega arith) (exact (codes "\n") 1 refl) in
    let whole = after (codes "#pragma export ") (f.name ++ codes "\n") 15 (length f.name + 1) refl ended in
    omega (arith, whole)

body_short : (interfaces : Interfaces) (rows : List Row) (entry : Entry) (f : Proto) →
    AllByRecursion (IsWritten interfaces) rows → length (function_text interfaces rows entry f) ≤
    21 + length (head_text f) + 256 * length (filter (is_of entry) rows)
body_short interfaces rows entry f are =
    let body : List ℕ = flat_map (row_text interfaces f.result) (filter (is_of entry) rows) in
    let many : ℕ = 256 * length (filter (is_of entry) rows) in
    let ended = both body (codes "  while (1) { }\n}\n") many 18 (rows_short interfaces f.result (is_of entry) rows are)
    (exact (codes "  while (1) { }\n}\n") 18 refl) in
    let opened = after (codes " {\n") (body ++ codes "  while (1) { }\n}\n") 3 (many + 18) refl ended in
    let whole = both (head_text f) (codes " {\n" ++ (body ++ codes "  while (1) { }\n}\n")) (length (head_text f))
    (3 + (many + 18)) (omega arith) opened in
    omega (arith, whole)

-- an export with its function
pub offered_short : (interfaces : Interfaces) (rows : List Row) (entry : Entry) (f : Proto) →
    AllByRecursion (IsWritten interfaces) rows → length f.params ≤ 8 →
    length (export_text f) + length (function_text interfaces rows entry f) ≤
    56 + 2 * length f.name + 19 * length f.params + 256 * length (filter (is_of entry) rows)
offered_short interfaces rows entry f are few =
    let line = export_short f in
    let head = head_short f few in
    let body = body_short interfaces rows entry f are in
    omega (arith, line, head, body)

pub main_short : (interfaces : Interfaces) (rows : List Row) → AllByRecursion (IsWritten interfaces) rows →
    length (function_text interfaces rows Main main_proto) ≤ 35 + 256 * length (filter (is_of Main) rows)
main_short interfaces rows are =
    let head = exact (head_text main_proto) 14 refl in
    let body = body_short interfaces rows Main main_proto are in
    omega (arith, head, body)

-- an import with its prototype
pub used_short : (interfaces : Interfaces) (import : Import) (f : Proto) → imported interfaces import ≡ Some f →
    length f.params ≤ 8 →
    length (import_text interfaces import) + length (proto_text interfaces import) ≤
    38 + length (owner_name interfaces import) + 2 * length f.name + 19 * length f.params
used_short interfaces import f is few =
    let line = import_short (owner_name interfaces import) f.name in
    let proto = proto_short f few in
    subst (λ o. length (option_map_or (λ g. import_line (owner_name interfaces import) g.name) o []) +
    length (option_map_or proto_line o []) ≤
    38 + length (owner_name interfaces import) + 2 * length f.name + 19 * length f.params) (sym is)
    (omega (arith, line, proto))

pub name_is_some : (name : List ℕ) → is_name name ≡ true → 1 ≤ length name
unfolding is_name
name_is_some [] named = absurd (false≢true named)
name_is_some (first ∷ rest) named = omega arith
