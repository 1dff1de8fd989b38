-- A call by its name in a section is the call of its target in the program.
use Rattle.sc_types.proofs.Common.{BaseTree, Bool, Callees, ExportLine, FunctionParam, FunctionTree, HeadTree}
use Rattle.sc_types.proofs.Common.{ImportLine, List, None, Option, ParamTree, SectionTree, Some, TypeName, TypedParam}
use Rattle.sc_types.proofs.Common.{[], agree, and_first, and_rest, ap, arith, base_of, base_scalar, bytes_eq, comp_at}
use Rattle.sc_types.proofs.Common.{crosses, export_at, false, function_decls, gives_int, head_crosses, head_of}
use Rattle.sc_types.proofs.Common.{if◌then◌else◌, import_named, interface_of, interfaces_of, is_input_head, is_int_type}
use Rattle.sc_types.proofs.Common.{is_numbered, is_output_head, is_some, length, list_all, list_any, map, nat_eq}
use Rattle.sc_types.proofs.Common.{nat_tests}
use Rattle.sc_types.proofs.Common.{not, number_by_name, offering, offers, option_and_then, option_map, param_of}
use Rattle.sc_types.proofs.Common.{param_ty}
use Rattle.sc_types.proofs.Common.{promised, proto_of, proto_signature, refl, result_crosses, result_of, result_ty}
use Rattle.sc_types.proofs.Common.{same_params, same_result, same_type, scalar_of, scalar_ty, signature_by}
use Rattle.sc_types.proofs.Common.{signature_of, slice_get, slice_get-map, starred, suc, sym, tags, takes_int}
use Rattle.sc_types.proofs.Common.{takes_nothing, true, type_of_name, typed_function, typed_param, ℕ, ◌++◌, ◌+◌, ◌==◌}
use Rattle.sc_types.proofs.Common.{◌||◌, ◌∙◌, ◌∷◌, ◌≡◌}
use Rattle.sc_types_interfaces.specs.Prelude.{same_named_base}
use Rattle.sc_types_elab.proofs.Programs.{comp_at as elab_comp_at}
use Rattle.sc_ast.specs.declared.types.BaseTree.TheVariants as base_tree
use Rattle.sc_core.specs.declared.ty.Ty.TheVariants as ty
use Rattle.sc_types.proofs.Lookups.{Each, Text, first_of, any_found, number_is, each_at, same_sym, FoundFunction}
use Rattle.sc_types.proofs.Lookups.{find_names, any_names}

-- Types that cross.

zero_is : (n : ℕ) → nat_eq n 0 ≡ true → n ≡ 0
zero_is n h = grind (arith, nat_tests)

crossing_base : (tags : List Text) (b : BaseTree) → (same_named_base b base_tree.Int || same_named_base b
    base_tree.Unsigned) ≡
    true → starred 0 (base_of tags b) ≡ scalar_ty (base_scalar b)
crossing_base tags base_tree.Int h = refl
crossing_base tags base_tree.Unsigned h = refl
crossing_base tags (base_tree.Struct tag) h = cc

pub crossing_ty : (tags : List Text) (t : TypeName) → crosses t ≡ true → type_of_name tags t ≡ scalar_ty (scalar_of t)
crossing_ty tags t h = ap (λ stars. starred stars (base_of tags t.base))
    (zero_is t.stars (and_first _ _ h)) ∙ crossing_base tags t.base (and_rest _ _ h)

same_scalar : (a b : BaseTree) → same_named_base a b ≡ true → base_scalar a ≡ base_scalar b
same_scalar base_tree.Int base_tree.Int h = refl
same_scalar base_tree.Int (base_tree.Struct tag) h = refl
same_scalar base_tree.Unsigned base_tree.Unsigned h = refl
same_scalar (base_tree.Struct tag) base_tree.Int h = refl
same_scalar (base_tree.Struct tag) (base_tree.Struct other) h = refl
same_scalar _ _ h = cc

-- a type that crosses and agrees with another
agreed_ty : (tags : List Text) (a b : TypeName) → same_type a b ≡ true → crosses b ≡ true →
    type_of_name tags b ≡ scalar_ty (scalar_of a)
agreed_ty tags a b same h = crossing_ty tags b h ∙ ap scalar_ty (sym (same_scalar a.base b.base (and_rest _ _ same)))

agreed_params : (tags : List Text) (a b : List ParamTree) → same_params a b ≡ true → list_all {X = ParamTree}
    (λ param. crosses param.ty) b ≡ true → map (param_ty tags) b ≡ map scalar_ty (map (λ param. scalar_of param.ty) a)
agreed_params tags [] [] same h = refl
agreed_params tags (p ∷ a) (q ∷ b) same h = grind (arith, agreed_ty tags p.ty q.ty, agreed_params tags a b)
agreed_params tags _ _ same h = cc

agreed_result : (tags : List Text) (a b : Option TypeName) → same_result a b ≡ true → result_crosses b ≡ true →
    option_map (type_of_name tags) b ≡ result_ty (option_map scalar_of a)
agreed_result tags None None same h = refl
agreed_result tags (Some t) (Some u) same h = ap Some (agreed_ty tags t u same h)
agreed_result tags _ _ same h = cc

scalars_of : (params : List FunctionParam) → map {A = ParamTree} (λ param. scalar_of param.ty) (map param_of params) ≡
    map {A = FunctionParam} (λ param. scalar_of param.ty) params
scalars_of [] = refl
scalars_of (p ∷ params) = cc (scalars_of params)

-- the signature of a head that agrees with a function and whose types cross
pub agreed_signature : (tags : List Text) (name : Text) (tree : FunctionTree) (head : HeadTree) →
    agree (head_of tree.head) head ≡ true → head_crosses head ≡ true →
    proto_signature (promised name (Some tree)) ≡ signature_by tags head
agreed_signature tags name tree head same h = λ i. record {
  params = sym (agreed_params tags (map _ _) head.params (and_rest _ _ same) (and_rest _ _ h) ∙
      ap (map _) (scalars_of _)) i;
  result = sym (agreed_result tags tree.head.result head.result (and_first _ _ same) (and_first _ _ h)) i;
}

int_by : (tags : List Text) (stars : ℕ) (b : BaseTree) → nat_eq stars 0 ≡ true → same_named_base b base_tree.Int ≡ true
    →
    starred stars (base_of tags b) ≡ ty.Int
int_by tags stars base_tree.Int h k = ap (λ n. starred n (base_of tags base_tree.Int)) (zero_is stars h)
int_by tags stars _ h k = cc

pub int_ty : (tags : List Text) (t : TypeName) → is_int_type t ≡ true → type_of_name tags t ≡ ty.Int
int_ty tags t h = int_by tags t.stars t.base (and_first _ _ h) (and_rest _ _ h)

int_result : (tags : List Text) (result : Option TypeName) → gives_int result ≡ true →
    option_map (type_of_name tags) result ≡ Some ty.Int
int_result tags None h = cc
int_result tags (Some t) h = ap Some (int_ty tags t h)

no_result : (tags : List Text) (result : Option TypeName) → not (is_some result) ≡ true →
    option_map (type_of_name tags) result ≡ None
no_result tags None h = refl
no_result tags (Some t) h = cc

no_params : (tags : List Text) (params : List ParamTree) → takes_nothing params ≡ true → map (param_ty tags) params ≡ []
no_params tags [] h = refl
no_params tags (p ∷ params) h = cc

int_params : (tags : List Text) (params : List ParamTree) → takes_int params ≡ true →
    map (param_ty tags) params ≡ ty.Int ∷ []
int_params tags (p ∷ []) h = ap (λ t. t ∷ []) (int_ty tags p.ty h)
int_params tags _ h = cc

pub input_signature : (tags : List Text) (head : HeadTree) → is_input_head head ≡ true →
    signature_by tags head ≡ record { params = []; result = Some ty.Int }
input_signature tags head h = λ i. record {
  params = no_params tags head.params (and_rest _ _ h) i;
  result = int_result tags head.result (and_first _ _ h) i;
}

pub output_signature : (tags : List Text) (head : HeadTree) → is_output_head head ≡ true →
    signature_by tags head ≡ record { params = ty.Int ∷ []; result = None }
output_signature tags head h = λ i. record {
  params = int_params tags head.params (and_rest _ _ h) i;
  result = no_result tags head.result (and_first _ _ h) i;
}

-- Lists of what is named.

-- the first item of a name
pub record FoundBy {A : Type 0} (name_in : A → Text) (name : Text) (xs : List A) : Type 0 where
  pub at : ℕ
  pub item : A
  pub place : number_by_name (map name_in xs) name ≡ Some at
  pub got : slice_get xs at ≡ Some item
  pub named : bytes_eq name (name_in item) ≡ true

pub found_by : {A : Type 0} (name_in : A → Text) (name : Text) (xs : List A) →
    is_numbered (map name_in xs) name ≡ true → FoundBy name_in name xs
found_by name_in name xs h =
    let f = any_found (λ x. bytes_eq name (name_in x)) xs (sym (any_names (bytes_eq name) _ _ (λ x. refl) xs) ∙ h) in
    record {
      at = f.at;
      item = f.item;
      place = number_is _ name ∙ find_names _ _ _ (λ x. refl) xs ∙ f.is;
      got = f.got;
      named = f.passes;
    }

-- Own functions.

types_of_params : (tags : List Text) (params : List FunctionParam) →
    map {A = TypedParam} (λ p. p.ty) (map (typed_param tags) params) ≡ map (param_ty tags) (map param_of params)
types_of_params tags [] = refl
types_of_params tags (p ∷ params) = cc (types_of_params tags params)

module _ (section : SectionTree) (callees : Callees) where
  -- a typed function has the signature of its head
  pub own_signature : (tree : FunctionTree) → signature_of (typed_function section callees tree) ≡
      signature_by (tags section) (head_of tree.head)
  own_signature tree = λ i. record {
    params = types_of_params (tags section) tree.head.params i;
    result = result_of section tree;
  }

  pub own_at : (name : Text) (f : FoundFunction name (function_decls section.decls)) →
      slice_get (map signature_of (map (typed_function section callees) (function_decls section.decls))) f.at ≡
      Some (signature_by (tags section) (head_of f.tree.head))
  own_at name f = slice_get-map _ _ f.at
      ∙ ap (option_map _) (slice_get-map _ _ f.at ∙ ap (option_map _) f.got) ∙ ap Some (own_signature f.tree)

-- Imports.

pub record FoundImport (P : ImportLine → Type 0) (name : Text) (lines : List ImportLine) : Type 0 where
  pub at : ℕ
  pub line : ImportLine
  pub first : import_named name lines ≡ Some line
  pub got : slice_get lines at ≡ Some line
  pub named : bytes_eq line.name name ≡ true
  pub holds : P line

import_first : (name : Text) (lines : List ImportLine) →
    import_named name lines ≡ first_of (λ line. bytes_eq line.name name) lines
import_first name [] = refl
import_first name (line ∷ lines) = grind (arith, import_first name lines)

pub find_import : (P : ImportLine → Type 0) (name : Text) (lines : List ImportLine) → Each P lines →
    list_any (bytes_eq name) (map {A = ImportLine} (λ line. line.name) lines) ≡ true → FoundImport P name lines
find_import P name lines each h =
    let f = any_found _ lines (sym (any_names (bytes_eq name) (λ line. line.name) _ (λ line. same_sym name _) _) ∙ h) in
    record {
      at = f.at;
      line = f.item;
      first = import_first name lines ∙ f.first;
      got = f.got;
      named = f.passes;
      holds = each_at P lines f.at f.item each f.got;
    }

-- The section that offers what is imported.

pub record Offering (importer : ℕ) (line : ImportLine) (sections : List SectionTree) : Type 0 where
  pub number : ℕ
  pub section : SectionTree
  pub is : offering importer line 0 sections ≡ Some (number, section)
  pub got : slice_get sections number ≡ Some section
  pub offers : offers importer line number section ≡ true

pub length_snoc : {A : Type 0} (xs : List A) (y : A) → length (xs ++ y ∷ []) ≡ suc (length xs)
length_snoc [] y = refl
length_snoc (x ∷ xs) y = ap suc (length_snoc xs y)

pub plus_none : (n : ℕ) → 0 + n ≡ n
plus_none n = omega arith

pub plus_zero : (n : ℕ) → n ≡ n + 0
plus_zero n = omega arith

module _ (importer : ℕ) (line : ImportLine) where
  record OfferingFrom (k : ℕ) (sections : List SectionTree) : Type 0 where
    at : ℕ
    number : ℕ
    section : SectionTree
    counted : number ≡ k + at
    is : offering importer line k sections ≡ Some (number, section)
    got : slice_get sections at ≡ Some section
    offers : offers importer line number section ≡ true

  abbrev pick : Bool → ℕ → SectionTree → List SectionTree → Option (ℕ × SectionTree)
  pick b k section rest = if b then Some (k, section) else offering importer line (suc k) rest

  offering_at : (k : ℕ) (section : SectionTree) (rest : List SectionTree) (b : Bool) →
      offers importer line k section ≡ b → (is_some (offering importer line (suc k) rest) ≡ true →
      OfferingFrom (suc k) rest) → is_some (pick b k section rest) ≡ true → OfferingFrom k (section ∷ rest)
  offering_at k section rest true q f h = record {
    at = 0;
    number = k;
    section = section;
    counted = plus_zero k;
    is = ap (λ b. pick b k section rest) q;
    got = refl;
    offers = q;
  }
  offering_at k section rest false q f h = let next = f h in record {
    at = suc next.at;
    number = next.number;
    section = next.section;
    counted = next.counted ∙ omega arith;
    is = ap (λ b. pick b k section rest) q ∙ next.is;
    got = next.got;
    offers = next.offers;
  }

  offering_from : (k : ℕ) (sections : List SectionTree) → is_some (offering importer line k sections) ≡ true →
      OfferingFrom k sections
  offering_from k [] h = cc
  offering_from k (section ∷ rest) h = offering_at k section rest _ refl (offering_from _ rest) h

  pub find_offering : (sections : List SectionTree) → is_some (offering importer line 0 sections) ≡ true →
      Offering importer line sections
  find_offering sections h = let f = offering_from 0 _ h in record {
    number = f.number;
    section = f.section;
    is = f.is;
    got = ap (slice_get sections) (f.counted ∙ plus_none f.at) ∙ f.got;
    offers = f.offers;
  }

  -- the export line of what is imported
  pub found_export : {sections : List SectionTree} (o : Offering importer line sections) →
      FoundBy {A = ExportLine} (λ other. other.name) line.name o.section.exports
  found_export o = found_by _ _ _ (and_rest (not (o.number == importer)) _
      (and_rest (bytes_eq o.section.name line.comp) _ o.offers))

-- Interfaces by their numbers.

module _ (sections : List SectionTree) where
  pub comp_is : (j : ℕ) (section : SectionTree) → slice_get sections j ≡ Some section →
      comp_at (interfaces_of sections) j ≡ Some (interface_of sections j section)
  comp_is j section got = elab_comp_at sections j section got

  pub export_is : (j : ℕ) (section : SectionTree) (index : ℕ) (line : ExportLine) →
      slice_get sections j ≡ Some section → slice_get section.exports index ≡ Some line →
      export_at (interfaces_of sections) j index ≡ Some (proto_of section line)
  export_is j section index line got there = ap (option_and_then _)
      (comp_is j section got) ∙ slice_get-map (proto_of section) section.exports index ∙ ap (option_map _) there
