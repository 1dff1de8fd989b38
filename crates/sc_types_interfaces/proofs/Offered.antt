-- The interfaces by tables of places are the interfaces of the sections.
use Rattle.sc_types_interfaces.proofs.Common.{All, All-get_or, All-head, All-tail, Bool, Decl, ExportLine}
use Rattle.sc_types_interfaces.proofs.Common.{FunctionParam, HasFewExports, HasFewParams, ImportLine, IsWithinCounts}
use Rattle.sc_types_interfaces.proofs.Common.{List, None, Option, Placed, SectionTable, SectionTree, Some, Text, []}
use Rattle.sc_types_interfaces.proofs.Common.{all_placed, ap, ap₂, arith, cond, export_by, export_name, export_names}
use Rattle.sc_types_interfaces.proofs.Common.{export_places, false, first_by_name, function_at, function_in}
use Rattle.sc_types_interfaces.proofs.Common.{function_name, function_named, function_names, function_places}
use Rattle.sc_types_interfaces.proofs.Common.{function_decls, get_or_from_slice_get, if◌then◌else◌, import_by}
use Rattle.sc_types_interfaces.proofs.Common.{import_of}
use Rattle.sc_types_interfaces.proofs.Common.{inr, interface_by, interface_of, interfaces_by, interfaces_from}
use Rattle.sc_types_interfaces.proofs.Common.{interfaces_of, is_some, length, length-map, main_by, main_from, main_name}
use Rattle.sc_types_interfaces.proofs.Common.{map, min, nat_list_eq_equiv, number_by_name, number_or_zero, offered}
use Rattle.sc_types_interfaces.proofs.Common.{offered_by, offering, option_and_then, option_map, pointwise}
use Rattle.sc_types_interfaces.proofs.Common.{position-cons, promised, promised_by, proto_of, refl, same_text}
use Rattle.sc_types_interfaces.proofs.Common.{scalar_of, slice_get, slice_get-map, slice_get_within, subst, suc, sym}
use Rattle.sc_types_interfaces.proofs.Common.{table_of, take_all, true, with_first, ℕ, ◌++◌, ◌+◌, ◌<◌, ◌==◌, ◌∙◌, ◌∷◌}
use Rattle.sc_types_interfaces.proofs.Common.{◌≡◌, ◌≤◌, ◌⊎◌}
use Rattle.sc_event.specs.declared.interface.Scalar.{Scalar}
use Rattle.sc_event.specs.declared.interface.Proto.{Proto}
use Rattle.sc_event.specs.declared.interface.Import.{Import}
use Rattle.sc_event.specs.declared.interface.Import.TheVariants as import
use Rattle.sc_event.specs.declared.interface.Interface.{Interface}
use Rattle.sc_event.specs.declared.interface.Interfaces.{Interfaces}
use Rattle.sc_ast.specs.declared.section.FunctionTree.{FunctionTree}
use Rattle.sc_ast.specs.declared.section.Decl.TheVariants as declared
use Rattle.sc_types_interfaces.proofs.Allowing.{all_numbered_same, first_or, first_by_name-last}
use Rattle.sc_types_interfaces.proofs.Reporting.{Stands, number_in, offering_number_is, offering_stands}

-- Places.

-- whether a name comes at this item
abbrev comes : Text → Option Text → Bool
comes name None = false
comes name (Some other) = pointwise ◌==◌ name other

-- the first place of a name
abbrev first_place : Text → List (Option Text) → Option ℕ
first_place name [] = None
first_place name (item ∷ items) = cond (comes name item) (Some 0) (option_map suc (first_place name items))

abbrev moved : ℕ → Option ℕ → Option ℕ
moved k place = option_map (λ n. k + n) place

kept : (place : Option ℕ) (same : Bool) (k : ℕ) → (same ≡ true → is_some place ≡ true) →
    place ≡ first_or place (cond same (Some k) None)
kept (Some n) same k h = refl
kept None same k h = grind arith

first_by_name-placed : (known : Placed) (other name : Text) (k : ℕ) →
    first_by_name (with_first known other k) name ≡ first_or (first_by_name known name)
    (cond (pointwise ◌==◌ name other) (Some k) None)
first_by_name-placed known other name k = at (is_some (first_by_name known other)) refl where
  at : (there : Bool) → is_some (first_by_name known other) ≡ there → first_by_name (if there then known else known ++
      (other, k) ∷ []) name ≡ first_or (first_by_name known name) (cond (pointwise ◌==◌ name other) (Some k) None)
  at true there = kept (first_by_name known name) (pointwise ◌==◌ name other) k (λ same. cc (same_text name other same))
  at false absent = first_by_name-last known other name k

first_or_none : (place : Option ℕ) → first_or place None ≡ place
first_or_none None = refl
first_or_none (Some n) = refl

placed_turn : (item : Bool) (here : Option ℕ) (k : ℕ) (later : Option ℕ) → first_or (first_or here (cond item
    (Some k) None)) (moved (suc k) later) ≡ first_or here (moved k (cond item (Some 0) (option_map suc later)))
placed_turn item None k None = grind arith
placed_turn item None k (Some n) = grind arith
placed_turn item (Some h) k later = grind arith

all_placed_is : (items : List (Option Text)) (known : Placed) (k : ℕ) (name : Text) →
    first_by_name (all_placed known k items) name ≡ first_or (first_by_name known name)
    (moved k (first_place name items))
all_placed_is [] known k name = sym (first_or_none _)
all_placed_is (None ∷ items) known k name = all_placed_is items known _ name ∙ (ap (λ first. first_or first
    (moved (suc k) (first_place name items))) (sym (first_or_none _)) ∙ placed_turn false _ k _)
all_placed_is (Some other ∷ items) known k name = all_placed_is items _ _ name ∙ (ap (λ first. first_or first
    (moved (suc k) (first_place name items))) (first_by_name-placed known other name k) ∙ placed_turn _ _ k _)

moved_zero : (place : Option ℕ) → moved 0 place ≡ place
moved_zero None = refl
moved_zero (Some n) = ap Some (omega arith)

place_is : (items : List (Option Text)) (name : Text) →
    first_by_name (all_placed [] 0 items) name ≡ first_place name items
place_is items name = all_placed_is items [] 0 name ∙ moved_zero _

-- Exports.

number_is : (lines : List ExportLine) (name : Text) →
    first_place name (map export_name lines) ≡ number_by_name (map {A = ExportLine} (λ line. line.name) lines) name
number_is [] name = refl
number_is (line ∷ lines) name = ap (λ later. cond (pointwise ◌==◌ name line.name) (Some 0) (option_map suc later))
    (number_is lines name) ∙ sym (position-cons (pointwise ◌==◌ name) line.name (map _ lines))

-- a place is one of the list
abbrev IsPlace : ℕ → Option ℕ → Type 0
IsPlace count None = Unit {0}
IsPlace count (Some n) = n < count

within_turn : (item : Bool) (count : ℕ) (later : Option ℕ) → IsPlace count later →
    IsPlace (suc count) (cond item (Some 0) (option_map suc later))
within_turn true count later h = omega arith
within_turn false count None h = tt
within_turn false count (Some n) h = omega arith

pub first_place_within : (items : List (Option Text)) (name : Text) → IsPlace (length items) (first_place name items)
first_place_within [] name = tt
first_place_within (item ∷ items) name = within_turn _ _ _ (first_place_within items name)

-- Functions.

-- the function at a place
abbrev function_there : List Decl → ℕ → Option FunctionTree
function_there decls place = option_and_then function_in (slice_get decls place)

moved_on : (decl : Decl) (decls : List Decl) (place : Option ℕ) → option_and_then (function_there (decl ∷ decls))
    (option_map suc place) ≡ option_and_then (function_there decls) place
moved_on decl decls None = refl
moved_on decl decls (Some n) = refl

function_is : (decls : List Decl) (name : Text) → option_and_then (function_there decls)
    (first_place name (map function_name decls)) ≡ function_named name (function_decls decls)
function_is [] name = refl
function_is (declared.Function tree ∷ decls) name = grind (
  arith,
  nat_list_eq_equiv.symm name tree.head.name,
  moved_on (declared.Function tree) decls (first_place name (map function_name decls)),
  function_is decls name,
)
function_is (decl ∷ decls) name = moved_on decl decls _ ∙ function_is decls name

function_at_is : (decls : List Decl) (name : Text) → function_at decls (function_places decls) name ≡
    function_named name (function_decls decls)
function_at_is decls name = ap (option_and_then (function_there decls)) (place_is (map _ decls) name) ∙
    function_is decls name

abbrev IsFew : Option FunctionTree → Type 0
IsFew None = Unit {0}
IsFew (Some tree) = HasFewParams tree

few_or : (same : Bool) (tree : FunctionTree) (later : Option FunctionTree) → HasFewParams tree → IsFew later →
    IsFew (if same then Some tree else later)
few_or true tree later h k = h
few_or false tree later h k = k

named_few : (trees : List FunctionTree) (name : Text) → All HasFewParams trees → IsFew (function_named name trees)
named_few [] name h = tt
named_few (tree ∷ trees) name h = few_or (pointwise ◌==◌ _ name) tree (function_named name trees)
    (All-head HasFewParams tree trees h) (named_few trees name (All-tail HasFewParams tree trees h))

promised_is : (name : Text) (found : Option FunctionTree) → IsFew found → promised_by name found ≡ promised name found
promised_is name None h = refl
promised_is name (Some tree) h = ap (λ (params : List Scalar). record {
  name = name;
  params = params;
  result = option_map scalar_of tree.head.result;
}) (take_all 8 _ within) where
  within : length (map {A = FunctionParam} (λ param. scalar_of param.ty) tree.head.params) ≤ 8
  within = omega (arith, length-map {A = FunctionParam} tree.head.params (λ param. scalar_of param.ty))

export_is : (section : SectionTree) (line : ExportLine) → All HasFewParams (function_decls section.decls) →
    export_by section.decls (function_places section.decls) line ≡ proto_of section line
export_is section line few = ap (promised_by line.name) (function_at_is section.decls line.name)
    ∙ promised_is line.name (function_named line.name (function_decls section.decls)) (named_few _ line.name few)

map_same : {A B : Type 0} (f g : A → B) (xs : List A) → ((x : A) → f x ≡ g x) → map f xs ≡ map g xs
map_same f g [] h = refl
map_same f g (x ∷ xs) h = ap₂ (λ y ys. y ∷ ys) (h x) (map_same f g xs h)

-- Imports.

min_within : (a b : ℕ) → a ≤ b → min a b ≡ a
min_within a b h = omega arith

-- a place or 0
small_place : (count : ℕ) (place : Option ℕ) → IsPlace count place → count ≤ 65536 → number_or_zero place ≤ 65535
small_place count None h few = omega arith
small_place count (Some n) h few = omega arith

export_place_is : (section : SectionTree) (name : Text) →
    first_by_name (export_places section) name ≡ number_by_name (export_names section) name
export_place_is section name = place_is (map export_name section.exports) name ∙ number_is _ name

export_place_small : (section : SectionTree) (name : Text) → HasFewExports section →
    number_or_zero (number_by_name (export_names section) name) ≤ 65535
export_place_small section name few =
    subst (λ place. number_or_zero place ≤ 65535) (number_is _ name) (small_place _ (first_place name
    (map export_name section.exports)) (first_place_within (map export_name section.exports) name) count) where
      count : length (map export_name section.exports) ≤ 65536
      count = omega (arith, length-map section.exports export_name, few)

offered_is : (sections : List SectionTree) (line : ImportLine) (found : Option (ℕ × SectionTree)) →
    Stands 0 sections found → length sections ≤ 32 → All HasFewExports sections →
    offered_by (map export_places sections) line (number_in found) ≡ offered line found
offered_is sections line None h count few = refl
offered_is sections line (Some found) h count few = ap₂ (λ comp index. import.Function comp index)
    (min_within found.0 31 small_comp) (ap (λ place. min (number_or_zero place) 65535) place_there
    ∙ min_within (number_or_zero (number_by_name (export_names found.1) line.name)) 65535 small_index) where
      is_place : found.0 ≡ h.0
      is_place = omega arith

      small_comp : found.0 ≤ 31
      small_comp = omega (arith, is_place, slice_get_within sections h.0 found.1 h.2)

      few_here : HasFewExports found.1
      few_here = subst HasFewExports (get_or_from_slice_get sections h.0 found.1 found.1 h.2)
          (All-get_or HasFewExports sections h.0 found.1 (slice_get_within sections h.0 found.1 h.2) few)

      small_index : number_or_zero (number_by_name (export_names found.1) line.name) ≤ 65535
      small_index = export_place_small found.1 line.name few_here

      place_there : option_and_then (λ known. first_by_name known line.name)
          (slice_get (map export_places sections) found.0) ≡ number_by_name (export_names found.1) line.name
      place_there = cc (is_place, slice_get-map export_places sections h.0, h.2, export_place_is found.1 line.name)

module _ (sections : List SectionTree) (count : length sections ≤ 32) (few : All HasFewExports sections) where
  import_is : (number : ℕ) (line : ImportLine) → import_by (map table_of sections)
      (map export_places sections) number line ≡ import_of sections number line
  import_is number line = cc (
    offering_number_is number line 0 sections,
    offered_is sections line
        (offering number line 0 sections) (offering_stands number line 0 sections) count few,
  )

  interface_is : (number : ℕ) (section : SectionTree) → All HasFewParams (function_decls section.decls) →
      interface_by (map table_of sections) (map export_places sections) number section ≡
      interface_of sections number section
  interface_is number section few_params = ap₂ (λ (exports : List Proto) (imports : List Import). record {
    name = section.name;
    exports = exports;
    imports = imports;
  }) (map_same (export_by section.decls (function_places section.decls)) (proto_of section) section.exports
      (λ line. export_is section line few_params)) (map_same (import_by (map table_of sections)
      (map export_places sections) number) (import_of sections number) section.imports (import_is number))

  interfaces_are : (k : ℕ) (rest : List SectionTree) →
      All (λ section. All HasFewParams (function_decls section.decls)) rest →
      interfaces_by (map table_of sections) (map export_places sections) k rest ≡ interfaces_from sections k rest
  interfaces_are k [] few_params = refl
  interfaces_are k (section ∷ rest) few_params = ap₂ (λ first others. first ∷ others)
      (interface_is k section (All-head (λ other. All HasFewParams (function_decls other.decls)) section rest
      few_params))
      (interfaces_are _ rest (All-tail (λ other. All HasFewParams (function_decls other.decls)) section rest
      few_params))

-- The main compartment.

main_is : (k : ℕ) (sections : List SectionTree) → main_by k (map table_of sections) ≡ main_from k sections
main_is k [] = refl
main_is k (section ∷ sections) =
    cc (all_numbered_same (function_names section.decls) main_name, main_is (suc k) sections)

main_within : (k : ℕ) (sections : List SectionTree) →
    (main_from k sections < k + length sections) ⊎ (main_from k sections ≡ 0)
main_within k [] = inr refl
main_within k (section ∷ sections) = grind (arith, main_within (suc k) sections)

main_small : (sections : List SectionTree) → length sections ≤ 32 → main_from 0 sections ≤ 31
main_small sections count = grind (arith, main_within 0 sections)

-- what is built by tables
pub built : (sections : List SectionTree) (tables : List SectionTable) (places : List Placed) (comps : List Interface)
    (main : ℕ) → IsWithinCounts sections → tables ≡ map table_of sections → places ≡ map export_places sections →
    comps ≡ interfaces_by tables places 0 sections → main ≡ min (main_by 0 tables) 31 →
    ◌≡◌ {A = Interfaces} (record { comps = comps; main = main }) (interfaces_of sections)
built sections tables places comps main counts tables_are places_are comps_are main_is_min =
    cc (
      interfaces_are sections counts.sections counts.exports 0 sections counts.params,
      main_is 0 sections,
      min_within (main_from 0 sections) 31 (main_small sections counts.sections),
    )
