-- Sections that break no rule are well typed, and have the interfaces of the text.
use Rattle.sc_types.proofs.Common.{BaseTree, Bool, Callees, Decides-eqb, Decl, ExportLine, Function, FunctionTree}
use Rattle.sc_types.proofs.Common.{HeadTree, ImportLine, Interface, List, None, Option, ParamTree, Proto, SectionTree}
use Rattle.sc_types.proofs.Common.{Signature, Some, Struct, Ty, TypeName, TypedSection, [], agree, and_from}
use Rattle.sc_types.proofs.Common.{any_passes_from_place, ap, append-nil, append_assoc, are_distinct, arith, bytes_eq}
use Rattle.sc_types.proofs.Common.{callees_of, export_at, export_fits, export_name, export_names, false}
use Rattle.sc_types.proofs.Common.{filter_map-append, function_named, function_names, function_decls, get_after}
use Rattle.sc_types.proofs.Common.{head_crosses, head_fits, head_of, if◌then◌else◌, import_fits, import_name}
use Rattle.sc_types.proofs.Common.{import_names, import_of, input_name, interface_fits, interface_of, interfaces_of}
use Rattle.sc_types.proofs.Common.{is_numbered, is_some, length, length-map, list_all, list_any, list_any-append, map}
use Rattle.sc_types.proofs.Common.{map-append, map_twice, most_exports, nat_le, nat_tests, number_or_zero, offered}
use Rattle.sc_types.proofs.Common.{offering, option_map, or_from, or_left, output_name, promised, proto_of}
use Rattle.sc_types.proofs.Common.{proto_signature, refl, same_base, same_results, same_signature, same_text, same_type}
use Rattle.sc_types.proofs.Common.{same_types, signature_of, slice_get, slice_get-map, subst, suc, sym, true}
use Rattle.sc_types.proofs.Common.{typed_function, typed_section, zero, ℕ, ◌&&◌, ◌++◌, ◌||◌, ◌∙◌, ◌∷◌, ◌≡◌, ◌≤◌}
use Rattle.sc_types_elab_expr.proofs.Parts.{same_ty-refl}
use Rattle.sc_core.specs.declared.section.TypedFunction.{TypedFunction}
use Rattle.sc_event.specs.declared.interface.Import.TheVariants as import
use Rattle.sc_event.specs.declared.interface.Proto as event
use Rattle.sc_ast.specs.declared.types.BaseTree.TheVariants as tree_base
use Rattle.sc_types_scope.specs.Declarations as decls
use Rattle.sc_types_scope.specs.Names as names
use Rattle.sc_types_interfaces.specs.Rules as interface_rules
use Rattle.sc_types.specs.Counts as counts
use Rattle.sc_types.proofs.Lookups.{or_not, back_empty, no_lines, Each, Text, same_refl, each_at, each_function}
use Rattle.sc_types.proofs.Lookups.{FoundFunction, find_function}
use Rattle.sc_types.proofs.Facts.{Fresh, fresh_distinct, ExportFacts, ImportFacts, DeclFacts, InterfaceFacts}
use Rattle.sc_types.proofs.Facts.{CountFacts}
use Rattle.sc_types.proofs.Calls.{agreed_signature, own_signature, Offering, find_offering, found_export, export_is}

-- Signatures are the same as themselves.

types_refl : (types : List Ty) → same_types types types ≡ true
types_refl [] = refl
types_refl (t ∷ types) = cc (same_ty-refl t, types_refl types)

result_refl : (result : Option Ty) → same_results result result ≡ true
result_refl None = refl
result_refl (Some t) = same_ty-refl t

pub signature_refl : (s : Signature) → same_signature s s ≡ true
signature_refl s = and_from _ _ (types_refl s.params) (result_refl s.result)

-- Heads agree with themselves.

base_agrees : (a : BaseTree) → interface_rules.same_named_base a a ≡ true
base_agrees (tree_base.Struct tag) = same_refl tag
base_agrees _ = refl

type_agrees : (t : TypeName) → same_type t t ≡ true
type_agrees t = and_from _ _ ((Decides-eqb t.stars t.stars).1 refl) (base_agrees t.base)

params_agree : (params : List ParamTree) → interface_rules.same_params params params ≡ true
params_agree [] = refl
params_agree (p ∷ params) = and_from _ _ (type_agrees p.ty) (params_agree params)

result_agrees : (result : Option TypeName) → interface_rules.same_result result result ≡ true
result_agrees None = refl
result_agrees (Some t) = type_agrees t

pub agrees : (head : HeadTree) → agree head head ≡ true
agrees head = and_from _ _ (result_agrees head.result) (params_agree head.params)

within : {A : Type 0} (xs : List A) (n : ℕ) → slice_get xs n ≡ None → length xs ≤ n
within [] n h = omega arith
within (x ∷ xs) zero h = cc
within (x ∷ xs) (suc n) h = omega (arith, within xs n h)

pub none_beyond : {A : Type 0} (line_of : A → ℕ) (most : ℕ) (items : List A) →
    counts.line_beyond line_of most items ≡ [] → nat_le (length items) most ≡ true
none_beyond line_of most items h = grind (arith, nat_tests, within items most)

-- Names that a list doesn't have are distinct from its own.

pub not_in_append : (name : Text) (xs ys : List Text) → is_numbered xs name ≡ false → is_numbered ys name ≡ false →
    is_numbered (xs ++ ys) name ≡ false
not_in_append name xs ys h k = list_any-append _ xs ys ∙ or_from _ _ h k

pub both_distinct : (xs ys : List Text) → decls.are_distinct xs ≡ true → Each (λ x. is_numbered ys x ≡ false) xs →
    decls.are_distinct ys ≡ true → decls.are_distinct (xs ++ ys) ≡ true
both_distinct [] ys h none k = k
both_distinct (x ∷ xs) ys h none k = grind (arith, not_in_append x xs ys, both_distinct xs ys)

-- Functions are distinct.

names_append : (before more : List Decl) → function_names (before ++ more) ≡ function_names before ++
    function_names more
names_append before more = ap (map _) (filter_map-append _ before more) ∙ map-append _ _ _

names_same : (before : List Decl) (decl : Decl) → function_names (decl ∷ []) ≡ [] →
    function_names (before ++ decl ∷ []) ≡ function_names before
names_same before decl h = names_append before _ ∙ ap (λ more. function_names before ++ more) h ∙ append-nil _

pub functions_fresh : (section : SectionTree) (before rest : List Decl) → names.name_lines_from section before rest ≡ []
    →
    Fresh (function_names before) (function_names rest)
functions_fresh section before [] h = tt
functions_fresh section before (Function tree ∷ rest) h = grind (
  arith,
  no_lines,
  names_append before (Function tree ∷ []),
  functions_fresh section (before ++ Function tree ∷ []) rest,
)
functions_fresh section before (decl ∷ rest) h = subst (λ all. Fresh all (function_names rest))
    (names_same before decl refl) (functions_fresh section (before ++ decl ∷ []) rest (back_empty _ _ h))

-- the name of what is promised under a name
pub promised_name : (name : Text) (found : Option FunctionTree) → (promised name found).name ≡ name
promised_name name None = refl
promised_name name (Some tree) = refl

module _ (sections : List SectionTree) (hold : (j : ℕ) (s : SectionTree) → slice_get sections j ≡ Some s →
    InterfaceFacts sections j s) (number : ℕ) (section : SectionTree)
    (there : slice_get sections number ≡ Some section) where
  abbrev callees : Callees
  callees = callees_of sections number section

  abbrev typed : TypedSection
  typed = typed_section section callees

  abbrev facts : InterfaceFacts sections number section
  facts = hold number section there

  abbrev interface : Interface
  interface = interface_of sections number section

  -- The names by which imports are called.

  other_name : (line : ImportLine) → Offering number line sections →
      import_name (interfaces_of sections) (offered line (offering number line 0 sections)) ≡ line.name
  other_name line o =
      let export = found_export number line o in
      ap (λ found. import_name (interfaces_of sections) (offered line found)) o.is
      ∙ ap (λ index. export_name (export_at (interfaces_of sections) o.number (number_or_zero index))) export.place
      ∙ ap export_name (export_is sections o.number _ export.at export.item o.got export.got) ∙ promised_name _
      (function_named export.item.name (function_decls o.section.decls)) ∙ sym (same_text _ _ export.named)

  name_by : (line : ImportLine) (env input output : Bool) → bytes_eq line.name input_name ≡ input →
      bytes_eq line.name output_name ≡ output → (if env then input || output else
      is_some (offering number line 0 sections)) ≡ true →
      import_name (interfaces_of sections) (if env then (if input then import.Input else import.Output) else
      offered line (offering number line 0 sections)) ≡ line.name
  name_by line true true output i o h = sym (same_text _ _ i)
  name_by line true false true i o h = sym (same_text _ _ o)
  name_by line true false false i o h = cc
  name_by line false input output i o h = other_name line (find_offering number line _ h)

  import_named_is : (line : ImportLine) → ImportFacts sections number section line →
      import_name (interfaces_of sections) (import_of sections number line) ≡ line.name
  import_named_is line f = name_by line _ _ _ refl refl f.offered

  imports_named : (lines : List ImportLine) → Each (ImportFacts sections number section) lines →
      map (import_name (interfaces_of sections)) (map (import_of sections number) lines) ≡
      map {A = ImportLine} (λ line. line.name) lines
  imports_named [] each = refl
  imports_named (line ∷ lines) each = cc (import_named_is line each.0, imports_named lines each.1)

  not_defined : (lines : List ImportLine) → Each (ImportFacts sections number section) lines →
      Each (λ name. is_numbered (function_names section.decls) name ≡ false)
      (map {A = ImportLine} (λ line. line.name) lines)
  not_defined [] each = tt
  not_defined (line ∷ lines) each = (each.0.not_defined, not_defined lines each.1)

  functions_named : map {A = TypedFunction} (λ f. f.name) typed.functions ≡ function_names section.decls
  functions_named = map_twice _ _ _

  all_distinct : names.section_name_lines section ≡ [] → are_distinct
      (map (import_name (interfaces_of sections)) interface.imports ++
      map {A = TypedFunction} (λ f. f.name) typed.functions) ≡ true
  all_distinct in_names =
      subst (λ all. are_distinct all ≡ true) (λ i. sym (imports_named section.imports facts.imports) i ++
      sym functions_named i) (both_distinct (import_names section) (function_names section.decls)
      (fresh_distinct [] (import_names section) facts.fresh_imports) (not_defined _ facts.imports)
      (fresh_distinct [] (function_names section.decls) (functions_fresh section [] section.decls in_names)))

  -- Exports.

  exports_named : (lines : List ExportLine) → map {A = event.Proto} (λ p. p.name) (map (proto_of section) lines) ≡
      map {A = ExportLine} (λ line. line.name) lines
  exports_named [] = refl
  exports_named (line ∷ lines) =
      cc (promised_name line.name (function_named line.name (function_decls section.decls)), exports_named lines)

  exports_distinct : are_distinct (map {A = event.Proto} (λ p. p.name) interface.exports) ≡ true
  exports_distinct = subst (λ all. are_distinct all ≡ true)
      (sym (exports_named _)) (fresh_distinct [] (export_names section) facts.fresh_exports)

  -- an export line at its place
  module _ (at : ℕ) (line : ExportLine) (got : slice_get section.exports at ≡ Some line)
      (f : ExportFacts sections number section line) where
    pub g : FoundFunction line.name (function_decls section.decls)
    g = find_function _ _ f.defined

    exported : is_numbered (export_names section) g.tree.head.name ≡ true
    exported = any_passes_from_place (bytes_eq _)
        (export_names section) at line.name (slice_get-map _ _ at ∙ ap (option_map _) got) g.named

    fits : head_fits sections number section (head_of g.tree.head) ≡ true
    fits = (each_at (λ tree. DeclFacts sections number section facts.mains (Function tree)) _ g.at g.tree
        (each_function (DeclFacts _ number section _) section.decls facts.decls) g.got).0

    pub crossing : head_crosses (head_of g.tree.head) ≡ true
    crossing = or_not _ _ fits (or_left _ _ exported)

    promise : proto_of section line ≡ promised line.name (Some g.tree)
    promise = ap (promised _) g.first

    signatures : signature_of (typed_function section callees g.tree) ≡ proto_signature (proto_of section line)
    signatures = own_signature section callees g.tree ∙ sym (agreed_signature _ line.name g.tree
        (head_of g.tree.head) (agrees (head_of g.tree.head)) crossing) ∙ ap proto_signature (sym promise)

    is_function : list_any {X = TypedFunction} (λ f. bytes_eq f.name (proto_of section line).name &&
        same_signature (signature_of f) (proto_signature (proto_of section line))) typed.functions ≡ true
    is_function = any_passes_from_place (λ f. bytes_eq f.name (proto_of section line).name &&
        same_signature (signature_of f) (proto_signature (proto_of section line))) typed.functions g.at
        (typed_function section callees g.tree) (slice_get-map _ _ g.at ∙ ap (option_map _) g.got)
        (cc (
          g.named,
          signatures,
          promised_name line.name (function_named line.name (function_decls section.decls)),
          signature_refl (proto_signature (proto_of section line)),
        ))

    export_is_function : export_fits typed.functions (proto_of section line) ≡ true
    export_is_function = grind (
      arith,
      is_function,
      f.plain,
      f.no_main,
      promised_name line.name (function_named line.name (function_decls section.decls)),
    )

  exports_are : (before lines : List ExportLine) → before ++ lines ≡ section.exports →
      Each (ExportFacts sections number section) lines →
      list_all (export_fits typed.functions) (map (proto_of section) lines) ≡ true
  exports_are before [] whole each = refl
  exports_are before (line ∷ lines) whole each = and_from _ _ (export_is_function (length before) line
      (ap (λ list. slice_get list (length before)) (sym whole) ∙ get_after before line lines) each.0)
      (exports_are (before ++ line ∷ []) lines (append_assoc before _ lines ∙ whole) each.1)

  -- Imports lead to exports of other sections.

  other_fits : (line : ImportLine) → Offering number line sections →
      import_fits (interfaces_of sections) number (offered line (offering number line 0 sections)) ≡ true
  other_fits line o =
      let export = found_export number line o in
      grind (
        arith,
        o.is,
        o.offers,
        export.place,
        export_is sections o.number o.section export.at export.item o.got export.got,
      )

  fits_by : (line : ImportLine) (env input output : Bool) →
      (if env then input || output else is_some (offering number line 0 sections)) ≡ true →
      import_fits (interfaces_of sections) number (if env then (if input then import.Input else import.Output) else
      offered line (offering number line 0 sections)) ≡ true
  fits_by line true true output h = refl
  fits_by line true false output h = refl
  fits_by line false input output h = other_fits line (find_offering number line _ h)

  imports_are : (lines : List ImportLine) → Each (ImportFacts sections number section) lines →
      list_all (import_fits (interfaces_of sections) number) (map (import_of sections number) lines) ≡ true
  imports_are [] each = refl
  imports_are (line ∷ lines) each =
      cc (fits_by line _ _ (bytes_eq line.name output_name) each.0.offered, imports_are lines each.1)

  -- Counts.

  pub interface_is : names.section_name_lines section ≡ [] → CountFacts section callees →
      interface_fits (interfaces_of sections) number interface typed ≡ true
  interface_is in_names f =
      cc (
        all_distinct in_names,
        exports_distinct,
        exports_are [] section.exports refl facts.exports,
        imports_are section.imports facts.imports,
        length-map section.exports (proto_of section),
        length-map section.imports (import_of sections number),
        none_beyond {A = ExportLine} (λ line. line.line) most_exports section.exports f.exports,
        none_beyond {A = ImportLine} (λ line. line.line) most_exports section.imports f.imports,
      )
