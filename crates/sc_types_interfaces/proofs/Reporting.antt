-- The rules by tables are the rules.
use Rattle.sc_types_interfaces.proofs.Common.{Agreements, Bool, Decl, ExportLine, Function, HeadTree, ImportLine, List}
use Rattle.sc_types_interfaces.proofs.Common.{None, Option, ParamTree, Proto, SectionTable, SectionTree, Some, Text}
use Rattle.sc_types_interfaces.proofs.Common.{TypeName, [], added, agree, agrees_first, agrees_with, all_added}
use Rattle.sc_types_interfaces.proofs.Common.{all_numbered, allowed, among, and-false, and-true, ap, ap₂, arith}
use Rattle.sc_types_interfaces.proofs.Common.{bytes_eq, decl_broken, decls_broken, defines_main, drop, drop-step}
use Rattle.sc_types_interfaces.proofs.Common.{environment_added, export_names, exports_broken, false, filter_map-append}
use Rattle.sc_types_interfaces.proofs.Common.{first_added, first_by_name, forbidden, function_names, get_or, gives_int}
use Rattle.sc_types_interfaces.proofs.Common.{head_added, head_fits_by, head_in, head_of, heads_in, if◌then◌else◌}
use Rattle.sc_types_interfaces.proofs.Common.{import_added, import_names, imported_by, imports_added, imports_broken}
use Rattle.sc_types_interfaces.proofs.Common.{input_head, input_name, int_type, is_input_head, is_offered_by}
use Rattle.sc_types_interfaces.proofs.Common.{is_output_head}
use Rattle.sc_types_interfaces.proofs.Common.{is_some, length, length-map, line_of_text, lines_broken, list_all}
use Rattle.sc_types_interfaces.proofs.Common.{list_all-append, list_any, list_any-append, main_name, map, map-append}
use Rattle.sc_types_interfaces.proofs.Common.{no_heads, not, noted_all, noted_all-append, numbered, offering}
use Rattle.sc_types_interfaces.proofs.Common.{offering_number, offering_table, offers, option_and_then, option_map}
use Rattle.sc_types_interfaces.proofs.Common.{or-false, others_added, output_head, output_name, proto_names, refl}
use Rattle.sc_types_interfaces.proofs.Common.{refused_at, same_params, same_result, same_text, section_broken}
use Rattle.sc_types_interfaces.proofs.Common.{slice_get, slice_get-map, slice_get_read, suc, sym, table_of, takes_int}
use Rattle.sc_types_interfaces.proofs.Common.{takes_nothing, true, unless, ℕ, ◌&&◌, ◌++◌, ◌+◌, ◌<◌, ◌==◌, ◌||◌, ◌∙◌}
use Rattle.sc_types_interfaces.proofs.Common.{◌∷◌, ◌≡◌, ◌≤◌}
use Rattle.sc_types_interfaces.specs.Rules
use Rattle.sc_types_interfaces.proofs.Allowing.{type_symm, is_numbered-numbered, all_numbered_same, allowed_forbidden}
use Rattle.sc_types_interfaces.proofs.Allowing.{allowed_added, allowed_same}
use Rattle.sc_types_interfaces.proofs.Steps.{drop_past}
use Rattle.sc_types_scope.proofs.Noted.{noted-none}

-- two lists hold the same names
record Same (names others : List Text) : Type 0 where
  at : (name : Text) → among names name ≡ among others name

same_numbered : (names others : List Text) (name : Text) → Same names others →
    Same (numbered names name) (others ++ name ∷ [])
same_numbered names others name same = record {
  at = λ k. grind (
    arith,
    is_numbered-numbered names name k,
    same.at k,
    list_any-append (bytes_eq k) others (name ∷ []),
  );
}

same_all : (names : List Text) → Same (all_numbered [] names) names
same_all names = record { at = all_numbered_same names }

same_none : Same [] []
same_none = record { at = λ k. refl }

module _ (sections : List SectionTree) (number : ℕ) (section : SectionTree) where
  -- Exports.

  exports_broken_is : (functions seen before : List Text) (lines : List ExportLine) →
      Same functions (function_names section.decls) → Same seen before →
      exports_broken functions seen lines ≡ Rules.exports_from sections number section before lines
  exports_broken_is functions seen before [] known same = refl
  exports_broken_is functions seen before (line ∷ lines) known same =
      cc (
        known.at line.name,
        same.at line.name,
        exports_broken_is functions (numbered seen line.name)
            (before ++ line.name ∷ []) lines known (same_numbered seen before line.name same),
      )

-- Who offers an import.

offers_is : (importer : ℕ) (line : ImportLine) (k : ℕ) (section : SectionTree) →
    (bytes_eq (table_of section).name line.comp && (not (k == importer) &&
    among (table_of section).exports line.name)) ≡ offers importer line k section
offers_is importer line k section = cc (all_numbered_same (export_names section) line.name)

abbrev pub number_in : Option (ℕ × SectionTree) → Option ℕ
number_in None = None
number_in (Some found) = Some found.0

abbrev section_in : Option (ℕ × SectionTree) → Option SectionTree
section_in None = None
section_in (Some found) = Some found.1

pub offering_number_is : (importer : ℕ) (line : ImportLine) (k : ℕ) (sections : List SectionTree) →
    offering_number importer line k (map table_of sections) ≡ number_in (offering importer line k sections)
offering_number_is importer line k [] = refl
offering_number_is importer line k (section ∷ sections) =
    grind (arith, offers_is importer line k section, offering_number_is importer line (suc k) sections)

-- where it is found, from number k on
abbrev pub Stands : (k : ℕ) → List SectionTree → Option (ℕ × SectionTree) → Type 0
Stands k sections None = Unit {0}
Stands k sections (Some found) = (place : ℕ) × (found.0 ≡ k + place) × (slice_get sections place ≡ Some found.1)

further : (k : ℕ) (section : SectionTree) (sections : List SectionTree) (found : Option (ℕ × SectionTree)) →
    Stands (suc k) sections found → Stands k (section ∷ sections) found
further k section sections None h = tt
further k section sections (Some found) h = (suc h.0, omega arith, h.2)

pub offering_stands : (importer : ℕ) (line : ImportLine) (k : ℕ) (sections : List SectionTree) →
    Stands k sections (offering importer line k sections)
offering_stands importer line k [] = tt
offering_stands importer line k (section ∷ sections) =
    at (offers importer line k section) (offering_stands importer line (suc k) sections) where
      at : (here : Bool) → Stands (suc k) sections (offering importer line (suc k) sections) →
          Stands k (section ∷ sections) (if here then Some (k, section) else offering importer line (suc k) sections)
      at true rest = (0, omega arith, refl)
      at false rest = further k section sections (offering importer line (suc k) sections) rest

found_table : (sections : List SectionTree) (found : Option (ℕ × SectionTree)) → Stands 0 sections found →
    option_and_then (slice_get (map table_of sections)) (number_in found) ≡ option_map table_of (section_in found)
found_table sections None h = refl
found_table sections (Some found) h =
    ap (slice_get _) zero_first ∙ (slice_get-map table_of sections h.0 ∙ ap (option_map _) h.2) where
      zero_first : found.0 ≡ h.0
      zero_first = omega arith

offering_table_is : (sections : List SectionTree) (importer : ℕ) (line : ImportLine) →
    offering_table (map table_of sections) importer line ≡
    option_map table_of (section_in (offering importer line 0 sections))
offering_table_is sections importer line =
    ap (option_and_then _) (offering_number_is _ line 0 _) ∙ found_table sections _ (offering_stands _ line 0 _)

-- Imports.

is_some-number_in : (found : Option (ℕ × SectionTree)) → is_some (number_in found) ≡ is_some found
is_some-number_in None = refl
is_some-number_in (Some found) = refl

and_end : (a : Bool) → a ≡ (a && true)
and_end a = sym (and-true a)

or_free : (a e : Bool) → a ≡ (a && (not e || true))
or_free a e = grind arith

-- the environment's heads
input_agrees : (head : HeadTree) → agree input_head head ≡ is_input_head head
input_agrees head = ap₂ (λ x y. x && y) (gives head.result) (takes head.params) where
  gives : (ty : Option TypeName) → same_result (Some int_type) ty ≡ gives_int ty
  gives None = refl
  gives (Some ty) = type_symm int_type ty

  takes : (params : List ParamTree) → same_params [] params ≡ takes_nothing params
  takes [] = refl
  takes _ = refl

output_agrees : (head : HeadTree) → agree output_head head ≡ is_output_head head
output_agrees head = ap₂ (λ x y. x && y) (gives head.result) (takes head.params) where
  gives : (ty : Option TypeName) → same_result None ty ≡ not (is_some ty)
  gives None = refl
  gives (Some ty) = refl

  takes : (params : List ParamTree) → same_params output_head.params params ≡ takes_int params
  takes [] = refl
  takes (param ∷ []) = and-true (Rules.same_type int_type param.ty) ∙ type_symm int_type param.ty
  takes (param ∷ (other ∷ params)) = and-false (Rules.same_type int_type param.ty)

-- what the environment asks of a name
abbrev environment_asks : Text → HeadTree → Bool
environment_asks name head = if bytes_eq name input_name then is_input_head head else if bytes_eq name output_name then
    is_output_head head else true

guarded : (e x y : Bool) → (e ≡ true → x ≡ y) → (not e || x) ≡ (not e || y)
guarded e x y h = grind arith

environment_added_allows : (known : Agreements) (name : Text) (head : HeadTree) →
    allowed (environment_added known name) head ≡ (allowed known head &&
    (not (bytes_eq name head.name) || environment_asks head.name head))
environment_added_allows known name head = first (bytes_eq name input_name) (bytes_eq name output_name)
    ∙ ap (λ holds. allowed known head && holds) (guarded (bytes_eq name head.name) (environment_asks name head)
    (environment_asks head.name head) (λ same. ap (λ text. environment_asks text head) (same_text name head.name same)))
  where
    first : (input output : Bool) →
        allowed (if input then added known name input_head else if output then added known name output_head else
        known) head ≡
        (allowed known head && (not (bytes_eq name head.name) ||
        (if input then is_input_head head else if output then is_output_head head else true)))
    first true output = allowed_added known name input_head head ∙
        ap (λ agrees. allowed known head && (not (bytes_eq name head.name) || agrees)) (input_agrees head)
    first false true = allowed_added known name output_head head ∙
        ap (λ agrees. allowed known head && (not (bytes_eq name head.name) || agrees)) (output_agrees head)
    first false false = or_free (allowed known head) (bytes_eq name head.name)

-- what a table of heads asks of a name
table_asks : (heads : Agreements) (known : Agreements) (name : Text) (head : HeadTree) →
    allowed (if among heads.conflicts name then forbidden known name else first_added known name
    (first_by_name heads.firsts name)) head ≡ (allowed known head && (not (bytes_eq name head.name) ||
    (not (among heads.conflicts name) && agrees_first (first_by_name heads.firsts name) head)))
table_asks heads known name head = at (among _ name) _ where
  at : (conflict : Bool) (found : Option HeadTree) →
      allowed (if conflict then forbidden known name else first_added known name found) head ≡
      (allowed known head && (not (bytes_eq name head.name) || (not conflict && agrees_first found head)))
  at true found = grind (arith, allowed_forbidden known name head)
  at false None = or_free _ _
  at false (Some first) = allowed_added known name first head

abbrev heads_of : SectionTree → Agreements
heads_of section = all_added no_heads (heads_in section.decls)

others_added_allows : (number : ℕ) (known : Agreements) (name : Text) (head : HeadTree) (sections : List SectionTree)
    (section : SectionTree) (found : Option (ℕ × SectionTree)) →
    allowed (others_added known name (option_map table_of (section_in found))) head ≡
    (allowed known head && (not (bytes_eq name head.name) || Rules.agrees_there sections number section head found))
others_added_allows number known name head sections section None = or_free _ _
others_added_allows number known name head sections section (Some found) = grind (
  arith,
  same_text name head.name,
  table_asks (heads_of found.1) known name head,
  allowed_same (heads_in found.1.decls) head,
)

module _ (sections : List SectionTree) (number : ℕ) (section : SectionTree) where
  is_offered_is : (line : ImportLine) → is_offered_by (map table_of sections) number line ≡
      Rules.is_offered sections number section line
  is_offered_is line =
      cc (offering_number_is number line 0 sections, is_some-number_in (offering number line 0 sections))

  imports_broken_is : (functions protos seen before : List Text) (lines : List ImportLine) →
      Same functions (function_names section.decls) → Same protos (proto_names section.decls) → Same seen before →
      imports_broken (map table_of sections) number functions protos seen lines ≡
      Rules.imports_from sections number section before lines
  imports_broken_is functions protos seen before [] defined declared same = refl
  imports_broken_is functions protos seen before (line ∷ lines) defined declared same =
      cc (
        is_offered_is line,
        same.at line.name,
        defined.at line.name,
        declared.at line.name,
        imports_broken_is functions protos (numbered seen line.name) (before ++ line.name ∷ []) lines defined declared
            (same_numbered seen before line.name same),
      )

  import_added_allows : (known : Agreements) (line : ImportLine) (head : HeadTree) →
      allowed (import_added (map table_of sections) number known line) head ≡
      (allowed known head && (not (bytes_eq line.name head.name) || Rules.agrees_as sections number section head line))
  import_added_allows known line head = grind (
    arith,
    environment_added_allows known line.name head,
    offering_table_is sections number line,
    others_added_allows number known line.name head sections section (offering number line 0 sections),
  )

  imports_added_allows : (known : Agreements) (lines : List ImportLine) (head : HeadTree) →
      allowed (imports_added (map table_of sections) number known lines) head ≡
      (allowed known head && list_all {X = ImportLine}
      (λ line. not (bytes_eq line.name head.name) || Rules.agrees_as sections number section head line) lines)
  imports_added_allows known [] head = and_end _
  imports_added_allows known (line ∷ lines) head = grind (
    arith,
    import_added_allows known line head,
    imports_added_allows (import_added (map table_of sections) number known line) lines head,
  )

  -- what the section imports, by its table, is what it imports
  imported_agrees_is : (head : HeadTree) → allowed (imported_by (map table_of sections) number section).heads head ≡
      Rules.imported_agrees sections number section head
  imported_agrees_is head = imports_added_allows no_heads section.imports head

-- Declarations.

-- a table of heads allows what agrees with the declarations
record Allows (known : Agreements) (decls : List Decl) : Type 0 where
  at : (head : HeadTree) → allowed known head ≡ agrees_with (heads_in decls) head

head_added_allows : (known : Agreements) (decl : Decl) (head : HeadTree) →
    allowed (head_added known (head_in decl)) head ≡ (allowed known head && agrees_with (heads_in (decl ∷ [])) head)
head_added_allows known decl head = grind (arith, allowed_added)

allows_more : (known : Agreements) (before : List Decl) (decl : Decl) → Allows known before →
    Allows (head_added known (head_in decl)) (before ++ decl ∷ [])
allows_more known before decl allows = record {
  at = λ head. grind (
    arith,
    head_added_allows known decl head,
    allows.at head,
    filter_map-append head_in before
        (decl ∷ []),
    list_all-append (λ other. not (bytes_eq other.name head.name) || agree other head) (heads_in before)
        (heads_in (decl ∷ [])),
  );
}

allows_none : Allows no_heads []
allows_none = record { at = λ head. refl }

module _ (sections : List SectionTree) (number : ℕ) (section : SectionTree) (mains : Bool) where
  head_holds_is : (known : Agreements) (before : List Decl) (head : HeadTree) → Allows known before →
      head_fits_by (table_of section) (imported_by (map table_of sections) number section) known head ≡
      Rules.head_holds sections number section before head
  head_holds_is known before head allows = cc (
    allows.at head,
    all_numbered_same (export_names section) head.name,
    all_numbered_same (import_names section) head.name,
  )

  decl_broken_is : (known : Agreements) (before : List Decl) (decl : Decl) → Allows known before →
      decl_broken (table_of section) (imported_by (map table_of sections) number section) mains known decl ≡
      Rules.decl_interface_lines sections number section mains before decl
  decl_broken_is known before (Proto head) allows =
      cc (head_holds_is known before head allows, imported_agrees_is sections number section head)
  decl_broken_is known before (Function tree) allows = cc (head_holds_is known before (head_of tree.head) allows)
  decl_broken_is known before _ allows = refl

  decls_broken_is : (known : Agreements) (before decls : List Decl) → Allows known before →
      decls_broken (table_of section) (imported_by (map table_of sections) number section) mains known decls ≡
      Rules.decls_from sections number section mains before decls
  decls_broken_is known before [] allows = refl
  decls_broken_is known before (decl ∷ decls) allows =
      cc (
        decl_broken_is known before decl allows,
        decls_broken_is (head_added known (head_in decl)) (before ++ decl ∷ [])
            decls (allows_more known before decl allows),
      )

  section_broken_is : (seen : List Text) (before : List SectionTree) →
      Same seen (map {A = SectionTree} (λ other. other.name) before) → section_broken (map table_of sections) number
      (table_of section) mains seen section ≡ Rules.section_interface_lines sections number section mains before
  section_broken_is seen before same = cc (
    same.at section.name,
    exports_broken_is sections number section
        (all_numbered [] (function_names section.decls)) [] [] section.exports (same_all (function_names section.decls))
        same_none,
    imports_broken_is sections number section (all_numbered [] (function_names section.decls))
        (all_numbered [] (proto_names section.decls)) [] [] section.imports (same_all (function_names section.decls))
        (same_all (proto_names section.decls)) same_none,
    decls_broken_is no_heads [] section.decls allows_none,
  )

-- Sections.

same_sections : (seen : List Text) (before : List SectionTree) (section : SectionTree) →
    Same seen (map {A = SectionTree} (λ other. other.name) before) →
    Same (numbered seen section.name) (map {A = SectionTree} (λ other. other.name) (before ++ section ∷ []))
same_sections seen before section same = record {
  at = λ k. (same_numbered seen _ _ same).at k ∙ ap (λ names. among names k) (sym (map-append _ before _));
}

mains_more : (mains : Bool) (before : List SectionTree) (section : SectionTree) → mains ≡ list_any defines_main before →
    (mains || among (table_of section).functions main_name) ≡ list_any defines_main (before ++ section ∷ [])
mains_more mains before section same = grind (
  arith,
  all_numbered_same (function_names section.decls) main_name,
  list_any-append defines_main before (section ∷ []),
)

lines_broken_is : (sections : List SectionTree) (k : ℕ) (mains : Bool) (seen : List Text)
    (before rest : List SectionTree) → mains ≡ list_any defines_main before →
    Same seen (map {A = SectionTree} (λ other. other.name) before) →
    lines_broken (map table_of sections) k mains seen rest ≡ Rules.interface_lines_from sections k before rest
lines_broken_is sections k mains seen before [] found same = refl
lines_broken_is sections k mains seen before (section ∷ rest) found same =
    ap₂ (λ these others. map (line_of_text section.line) these ++ others)
    (section_broken_is _ k section mains seen before same ∙
    ap (λ one. Rules.section_interface_lines sections k section one before) found)
    (lines_broken_is sections (suc k) (mains || among (table_of section).functions main_name) (numbered seen _)
    (before ++ section ∷ []) rest (mains_more mains before section found) (same_sections seen before section same))

table_at : (sections : List SectionTree) (tables : List SectionTable)
    (k : ℕ) (section : SectionTree) (table : SectionTable) → k < length sections → section ≡ get_or sections k section →
    tables ≡ map table_of sections → table ≡ get_or tables k table → table ≡ table_of section
table_at sections tables k section table within is all its =
    let there : slice_get sections k ≡ Some section =
    slice_get_read sections (length sections) k section refl within is in
    let as_long : length _ ≡ length tables = sym (ap length all ∙ length-map sections table_of) in
    let found : slice_get tables k ≡ Some table = slice_get_read tables (length sections) k table as_long within its in
    let made : slice_get tables k ≡ Some (table_of section) =
    ap (λ xs. slice_get xs k) all ∙ (slice_get-map table_of sections k ∙ ap (option_map table_of) there) in
    cc

turn_lines : (sections : List SectionTree) (tables : List SectionTable)
    (k : ℕ) (mains : Bool) (before : List Text) (section : SectionTree) (least : Option ℕ) →
    k < length sections → section ≡ get_or sections k section → noted_all (noted_all least
    (map (line_of_text section.line) (section_broken tables k (table_of section) mains before section)))
    (lines_broken tables (k + 1) (mains || among (table_of section).functions main_name) (numbered before section.name)
    (drop (k + 1) sections)) ≡ noted_all least (lines_broken tables k mains before (drop k sections))
turn_lines sections tables k mains before section least within is =
    grind (arith, noted_all-append, drop-step sections k section within is)

turn_mains : (sections : List SectionTree) (k : ℕ) (mains : Bool) (section : SectionTree) → k < length sections →
    section ≡ get_or sections k section → ((mains || among (table_of section).functions main_name) ||
    list_any defines_main (drop (k + 1) sections)) ≡ (mains || list_any defines_main (drop k sections))
turn_mains sections k mains section within is = grind (
  arith,
  drop-step sections k section within is,
  all_numbered_same (function_names section.decls) main_name,
)

-- one section more
pub sections_turn : (sections : List SectionTree)
    (tables : List SectionTable) (k : ℕ) (mains more : Bool) (before after : List Text)
    (section : SectionTree) (table : SectionTable) (least later total : Option ℕ) (whole : Bool) → k < length sections →
    section ≡ get_or sections k section → tables ≡ map table_of sections → table ≡ get_or tables k table →
    later ≡ noted_all least (map (line_of_text section.line) (section_broken tables k table mains before section)) →
    more ≡ (mains || among table.functions main_name) → after ≡ numbered before section.name →
    (noted_all least (lines_broken tables k mains before (drop k sections)) ≡ total) × ((mains ||
    list_any defines_main (drop k sections)) ≡ whole) → (noted_all later (lines_broken tables (k + 1) more after
    (drop (k + 1) sections)) ≡ total) × ((more || list_any defines_main (drop (k + 1) sections)) ≡ whole)
sections_turn sections tables k mains more before after section table least later total whole within is all its reported
    found added earlier =
    let table_is = table_at _ tables k section table within is all its in (
      cc (table_is, earlier.0, turn_lines sections tables k mains before section least within is),
      cc (table_is, earlier.1, turn_mains sections k mains section within is),
    )

-- no section is left
pub sections_end : (sections : List SectionTree) (tables : List SectionTable) (k : ℕ)
    (mains : Bool) (before : List Text) (least last : Option ℕ) → length sections ≤ k → tables ≡ map table_of sections →
    last ≡ noted_all least (unless mains 0) → (noted_all least (lines_broken tables k mains before
    (drop k sections)) ≡ noted_all None (lines_broken tables 0 false [] sections)) × ((mains || list_any defines_main
    (drop k sections)) ≡ list_any defines_main sections) → last ≡ refused_at (Rules.interface_broken sections)
sections_end sections tables k mains before least last past all reported earlier =
    let none = drop_past _ k past in
    let lines_are = lines_broken_is sections 0 false [] [] sections refl same_none in
    cc (
      none,
      earlier.0,
      earlier.1,
      noted-none least,
      or-false mains,
      lines_are,
      noted_all-append None (Rules.interface_lines_from sections 0 [] sections) (unless (list_any defines_main sections)
          0),
    )
