-- What names stand for in a performing section.
use Rattle.sc_back_performer_laws.proofs.Common.{Callees, FunctionTree, GlobalTree, HeadTree, Import, ImportLine, Int}
use Rattle.sc_back_performer_laws.proofs.Common.{Interface, Interfaces, IsPerformer, List, None, Option, Param, Proto}
use Rattle.sc_back_performer_laws.proofs.Common.{Row, Scalar, SectionTree, Some, StmtTree, StructTree, Text, TypedParam}
use Rattle.sc_back_performer_laws.proofs.Common.{Unsigned, [], among, ap, ap₂, are_distinct, arith, bytes_eq}
use Rattle.sc_back_performer_laws.proofs.Common.{bytes_eq_self, callees_of, codes, cond, counter_name, decimal}
use Rattle.sc_back_performer_laws.proofs.Common.{digits_decimal, drop, false, false≢true, variable_in, function_named}
use Rattle.sc_back_performer_laws.proofs.Common.{function_names, function_params, function_decls, global_variable}
use Rattle.sc_back_performer_laws.proofs.Common.{globals_in, head_named, heads_in, if◌then◌else◌, import_named}
use Rattle.sc_back_performer_laws.proofs.Common.{import_of, import_target, imported_target, inl, inr, is_some, length}
use Rattle.sc_back_performer_laws.proofs.Common.{map, number_by_name, option_and_then, option_map, or_first, or_parts}
use Rattle.sc_back_performer_laws.proofs.Common.{param_name, param_ty, position, position-cons, proto_params}
use Rattle.sc_back_performer_laws.proofs.Common.{proto_signature, refl, result_of, result_ty, same_either_way}
use Rattle.sc_back_performer_laws.proofs.Common.{same_text, scalar_ty, scope_in, signature_by, struct_names, structs}
use Rattle.sc_back_performer_laws.proofs.Common.{structs_in, subst, suc, sym, target_or, true, type_name, type_of}
use Rattle.sc_back_performer_laws.proofs.Common.{type_of_name, typed_function, typed_param, typed_stmt, visible_of, ℕ}
use Rattle.sc_back_performer_laws.proofs.Common.{◌++◌, ◌+◌, ◌<◌, ◌^◌, ◌∙◌, ◌∷◌, ◌≡◌, ◌≤◌, ◌⊎◌}
use Rattle.std.proofs.lemmas.Str.Parse.{IsNumeralModel, numerals_by_value, tells_all_ascii_digits}
use Rattle.std.specs.Str.{all_ascii_digits}
use Rattle.std.specs.Str.Parse.{digits_value}
use Rattle.sc_base.proofs.Numbers.{has-number}
unfoldable use Rattle.sc_types_elab.specs.Prelude.{typed_locals, typed_structs}
use Rattle.sc_back_performer_laws.proofs.BackTree.{AreHeads, AreImports, IsBackTree, and_head, and_import, counter_at}
use Rattle.sc_back_performer_laws.proofs.BackTree.{function_at, head_at, import_at, no_heads, no_imports}
use Rattle.sc_back_performer_laws.proofs.Declared.{all_functions, all_globals, all_heads, all_structs, heads_of}
use Rattle.sc_back_performer_laws.proofs.Distinct.{apart, back_distinct, first_new, is_false, not_both, rest_distinct}
use Rattle.sc_back_performer_laws.proofs.Judging.{scope}
use Rattle.sc_back_performer_laws.proofs.SectionFacts.{distinct_names, entries, entry_names, functions_named}
use Rattle.sc_back_performer_laws.proofs.SectionFacts.{imported_uses, names_defined, tree_names, use_named, use_names}
use Rattle.sc_back_performer_laws.proofs.TypedRows.{HasSignatures}
use Rattle.sc_back_performer_laws.proofs.TypedTrees.{visible}
use Rattle.sc_back_performer_laws.proofs.Uses.{IsAmong, is_first_or_later, none_among}

-- No parameter is called as the counter is.

model : IsNumeralModel (λ ds. all_ascii_digits ds ≡ true) (digits_value 10)
model = numerals_by_value _ tells_all_ascii_digits

not_number : (number : ℕ) → number < 2 ^ 64 → bytes_eq counter_name (param_name number) ≡ false
not_number number low =
    is_false (bytes_eq counter_name (param_name number)) (λ same.
    let is : codes "n" ≡ decimal number = ap (drop 3) (same_text counter_name (param_name number) same) in
    false≢true (subst (λ x. all_ascii_digits x ≡ true) (sym is) (digits_decimal model number low)))

abbrev pub typed_params : (number : ℕ) → List Scalar → List TypedParam
typed_params number types = map (typed_param []) (function_params number types)

no_place : (number : ℕ) (types : List Scalar) → number + length types < 2 ^ 64 →
    position {X = TypedParam} (λ variable. bytes_eq counter_name variable.name) (typed_params number types) ≡ None
no_place number [] low = refl
no_place number (type ∷ types) low =
    position-cons {X = TypedParam} (λ variable. bytes_eq counter_name variable.name)
    (typed_param [] (record { ty = type_name type; name = param_name number })) (typed_params (suc number) types) ∙
    ap₂ (λ b o. cond b (Some 0) (option_map suc o)) (not_number number (omega arith))
    (no_place (suc number) types (omega arith))

pub no_counter : (types : List Scalar) → length types ≤ 8 →
    variable_in Param (typed_params 0 types) counter_name ≡ None
no_counter types few =
    ap (option_and_then _) (no_place 0 types (omega (arith, few)))

-- Types.

pub scalar_typed : (type : Scalar) → type_of_name [] (type_name type) ≡ scalar_ty type
scalar_typed Int = refl
scalar_typed Unsigned = refl

pub result_typed : (result : Option Scalar) → option_map (type_of_name []) (option_map type_name result) ≡
    result_ty result
result_typed None = refl
result_typed (Some type) = ap Some (scalar_typed type)

params_typed : (number : ℕ) (types : List Scalar) → map (param_ty []) (proto_params number types) ≡ map scalar_ty types
params_typed number [] = refl
params_typed number (type ∷ types) = ap₂ (λ x y. x ∷ y) (scalar_typed type) (params_typed (suc number) types)

pub head_typed : (f : Proto) (line : ℕ) → signature_by [] (head_at f line) ≡ proto_signature f
head_typed f line = λ i. record { params = params_typed 0 f.params i; result = result_typed f.result i }

-- Functions and prototypes by their names.

no_function : (name : Text) (trees : List FunctionTree) → among (tree_names trees) name ≡ false →
    function_named name trees ≡ None
no_function name [] h = refl
no_function name (tree ∷ trees) h =
    let parts = or_parts (bytes_eq name tree.head.name) (among (tree_names trees) name) h in
    ap₂ (λ b x. if b then Some tree else x) (same_either_way tree.head.name name ∙ parts.0)
    (no_function name trees parts.1)

record FoundHead (f : Proto) (heads : List HeadTree) : Type 0 where
  line : ℕ
  is : head_named f.name heads ≡ Some (head_at f line)

-- the name of another that is used isn't this one's
other_name : (u y : Import × Proto) (others : List (Import × Proto)) →
    are_distinct (use_names (y ∷ others)) ≡ true → IsAmong u others → bytes_eq y.1.name u.1.name ≡ false
other_name u y others distinct there =
    is_false (bytes_eq y.1.name u.1.name) (λ same.
    not_both (among (use_names others) y.1.name)
    (subst (λ n. among (use_names others) n ≡ true) (sym (same_text y.1.name u.1.name same)) (use_named u others there))
    (first_new y.1.name (use_names others) distinct))

head_next : (u y : Import × Proto) (others : List (Import × Proto)) (line : ℕ) (heads : List HeadTree) →
    are_distinct (use_names (y ∷ others)) ≡ true → (u ≡ y) ⊎ IsAmong u others →
    (IsAmong u others → FoundHead u.1 heads) → FoundHead u.1 (head_at y.1 line ∷ heads)
head_next u y others line heads distinct (inl e) found =
    subst (λ z. FoundHead u.1 (head_at z.1 line ∷ heads)) e (record {
      line = line;
      is = ap (λ b. if b then Some (head_at u.1 line) else head_named u.1.name heads) (bytes_eq_self u.1.name);
    })
head_next u y others line heads distinct (inr there) found =
    let f : FoundHead u.1 heads = found there in record {
      line = f.line;
      is = ap (λ b. if b then Some (head_at y.1 line) else head_named u.1.name heads)
          (other_name u y others distinct there) ∙ f.is;
    }

find_head : (u : Import × Proto) (used : List (Import × Proto)) (heads rest : List HeadTree) → AreHeads used heads →
    are_distinct (use_names used) ≡ true → IsAmong u used → FoundHead u.1 (heads ++ rest)
find_head u used heads rest no_heads distinct there = none_among u there
find_head u used heads rest (and_head y others more line h) distinct there =
    head_next u y others line (more ++ rest) distinct (is_first_or_later u y others there)
    (find_head u others more rest h (rest_distinct y.1.name (use_names others) distinct))

record FoundImport (interfaces : Interfaces) (u : Import × Proto) (lines : List ImportLine) : Type 0 where
  line : ℕ
  is : import_named u.1.name lines ≡ Some (import_at interfaces u line)

import_next : (interfaces : Interfaces) (u y : Import × Proto) (others : List (Import × Proto)) (line : ℕ)
    (lines : List ImportLine) → are_distinct (use_names (y ∷ others)) ≡ true → (u ≡ y) ⊎ IsAmong u others →
    (IsAmong u others → FoundImport interfaces u lines) →
    FoundImport interfaces u (import_at interfaces y line ∷ lines)
import_next interfaces u y others line lines distinct (inl e) found =
    subst (λ z. FoundImport interfaces u (import_at interfaces z line ∷ lines)) e (record {
      line = line;
      is = ap (λ b. if b then Some (import_at interfaces u line) else import_named u.1.name lines)
          (bytes_eq_self u.1.name);
    })
import_next interfaces u y others line lines distinct (inr there) found =
    let f : FoundImport interfaces u lines = found there in record {
      line = f.line;
      is = ap (λ b. if b then Some (import_at interfaces y line) else import_named u.1.name lines)
          (other_name u y others distinct there) ∙ f.is;
    }

find_import : (interfaces : Interfaces) (u : Import × Proto) (used : List (Import × Proto))
    (lines : List ImportLine) → AreImports interfaces used lines → are_distinct (use_names used) ≡ true →
    IsAmong u used → FoundImport interfaces u lines
find_import interfaces u used lines no_imports distinct there = none_among u there
find_import interfaces u used lines (and_import y others more line h) distinct there =
    import_next interfaces u y others line more distinct (is_first_or_later u y others there)
    (find_import interfaces u others more h (rest_distinct y.1.name (use_names others) distinct))

module _ (interfaces : Interfaces) (comp : ℕ) (rows : List Row) (interface : Interface)
    (is : IsPerformer interfaces comp rows interface) (section : SectionTree)
    (t : IsBackTree interfaces comp rows interface section) where
  pub no_structs : structs_in section.decls ≡ []
  no_structs = ap structs_in t.decls ∙ all_structs t.heads (counter_at t.counter_line) t.functions

  pub no_tags : struct_names section.decls ≡ []
  no_tags = ap (map {A = StructTree} (λ tree. tree.name)) no_structs

  pub one_global : globals_in section.decls ≡ counter_at t.counter_line ∷ []
  one_global = ap globals_in t.decls ∙ all_globals t.heads (counter_at t.counter_line) t.functions

  pub functions_are : function_decls section.decls ≡ t.functions
  functions_are = ap function_decls t.decls ∙ all_functions t.heads (counter_at t.counter_line) t.functions

  pub heads_are : heads_in section.decls ≡ t.heads ++ heads_of t.functions
  heads_are = ap heads_in t.decls ∙ all_heads t.heads (counter_at t.counter_line) t.functions

  pub structs_none : structs section ≡ []
  unfolding typed_structs
  structs_none = λ i. typed_structs (no_tags i) [] (no_structs i)

  pub visible_is : (callees : Callees) (f : Proto) (line close_line : ℕ) (body : List StmtTree)
      (absent : variable_in Param (typed_params 0 f.params) counter_name ≡ None) →
      visible_of section (function_at f line close_line body) ≡ visible (typed_params 0 f.params) absent callees
  visible_is callees f line close_line body absent = λ i. record {
    tags = no_tags i;
    structs = structs_none i;
    globals = map (global_variable (no_tags i)) (one_global i);
    params = map (typed_param (no_tags i)) (function_params 0 f.params);
    locals = [];
  }

  pub scope_is : (f : Proto) (line close_line : ℕ) (body : List StmtTree) →
      scope_in section (function_at f line close_line body) ≡
      scope (map (λ param. type_of_name [] param.ty) (function_params 0 f.params))
  scope_is f line close_line body = λ i. record {
    structs = structs_none i;
    globals = map {A = GlobalTree} (λ global. type_of (no_tags i) global.ty) (one_global i);
    params = map (λ param. type_of_name (no_tags i) param.ty) (function_params 0 f.params);
    locals = [];
  }

  pub result_is : (f : Proto) (line close_line : ℕ) (body : List StmtTree) →
      result_of section (function_at f line close_line body) ≡ result_ty f.result
  result_is f line close_line body =
      ap (λ names. option_map (type_of_name names) (option_map type_name f.result)) no_tags ∙ result_typed f.result

  -- a function has no locals, and its statements are typed by what is visible in it
  pub no_locals : (callees : Callees) (f : Proto) (line close_line : ℕ) (body : List StmtTree) →
      (typed_function section callees (function_at f line close_line body)).locals ≡ []
  unfolding typed_locals
  no_locals callees f line close_line body = refl

  pub body_is : (callees : Callees) (f : Proto) (line close_line : ℕ) (body : List StmtTree)
      (absent : variable_in Param (typed_params 0 f.params) counter_name ≡ None) →
      (typed_function section callees (function_at f line close_line body)).body ≡
      map (typed_stmt (visible (typed_params 0 f.params) absent callees) callees (result_ty f.result)) body
  body_is callees f line close_line body absent = λ i. map (typed_stmt
      (visible_is callees f line close_line body absent i) callees (result_is f line close_line body i)) body

  abbrev used : List (Import × Proto)
  used = imported_uses interfaces comp rows interface is

  abbrev defined_names : List Text
  defined_names = entry_names (entries interfaces comp rows interface is)

  used_distinct : are_distinct (use_names used) ≡ true
  used_distinct = back_distinct defined_names (use_names used) (distinct_names interfaces comp rows interface is)

  -- what is imported isn't defined
  pub not_defined : (u : Import × Proto) → IsAmong u used → among defined_names u.1.name ≡ false
  not_defined u there =
      apart defined_names (use_names used) u.1.name (distinct_names interfaces comp rows interface is)
      (use_named u used there)

  pub signatures : (sections : List SectionTree) (number : ℕ) →
      HasSignatures (callees_of sections number section) used
  signatures sections number u there =
      let found : FoundHead u.1 (t.heads ++ heads_of t.functions) =
      find_head u used t.heads (heads_of t.functions) t.are_heads used_distinct there in
      let none : function_named u.1.name t.functions ≡ None =
      no_function u.1.name t.functions (ap (λ names. among names u.1.name)
      (names_defined interfaces rows (entries interfaces comp rows interface is) t.functions t.are_functions) ∙
      not_defined u there) in
      (λ i. option_map (signature_by (no_tags i))
      (or_first (function_named u.1.name (functions_are i)) (head_named u.1.name (heads_are i)))) ∙
      ap₂ (λ x y. option_map (signature_by []) (or_first x y)) none found.is ∙ ap Some (head_typed u.1 found.line)

  function_names_are : function_names section.decls ≡ defined_names
  function_names_are = functions_named interfaces comp rows interface is section t

  not_numbered : (o : Option ℕ) → is_some o ≡ false → o ≡ None
  not_numbered None h = refl
  not_numbered (Some n) h = absurd (false≢true (sym h))

  -- a call of what is imported leads where it is imported from
  pub targets : (sections : List SectionTree) (number : ℕ) (u : Import × Proto) → IsAmong u used →
      ((line : ℕ) → import_of sections number (import_at interfaces u line) ≡ u.0) →
      (callees_of sections number section).target u.1.name ≡ import_target u.0
  targets sections number u there leads =
      let found : FoundImport interfaces u section.imports =
      find_import interfaces u used section.imports t.imports used_distinct there in
      let none : number_by_name (function_names section.decls) u.1.name ≡ None =
      not_numbered (number_by_name (function_names section.decls) u.1.name)
      (has-number (function_names section.decls) u.1.name ∙ ap (λ names. among names u.1.name) function_names_are ∙
      not_defined u there) in
      ap₂ (λ n l. target_or n (imported_target sections number l)) none found.is ∙
      ap import_target (leads found.line)
