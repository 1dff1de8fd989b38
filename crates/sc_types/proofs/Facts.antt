-- What sections keep that break no rule of interfaces.
use Rattle.sc_types.proofs.Common.{Bool, Callees, Decl, ExportLine, Function, ImportLine, List, Proto, SectionTree, []}
use Rattle.sc_types.proofs.Common.{among, arith, bytes_eq, concat, decls_from, export_names, exports_from, false}
use Rattle.sc_types.proofs.Common.{function_names, function_decls, globals_in, head_fits, head_of, heads_in}
use Rattle.sc_types.proofs.Common.{import_names}
use Rattle.sc_types.proofs.Common.{imported_agrees, imports_from, is_numbered, is_offered, is_plain, length}
use Rattle.sc_types.proofs.Common.{list_any-append, main_holds, main_name, map, most_exports, most_nodes, nat_le, not}
use Rattle.sc_types.proofs.Common.{proto_names, refl, same_text, structs_in, true, ℕ, ◌&&◌, ◌++◌, ◌∷◌, ◌≡◌}
use Rattle.sc_types_scope.specs.Prelude.{are_distinct}
use Rattle.sc_types_interfaces.specs.Prelude.{section_interface_lines}
use Rattle.sc_types.specs.Counts as counts
use Rattle.sc_types.proofs.Lookups.{rule_holds, prefix_empty, back_empty, no_lines, Each, Text, same_refl}
use Rattle.sc_types.proofs.Lookups.{numbered_prefix}

-- Names that are new one after another are distinct.

abbrev pub Fresh : (before : List Text) → List Text → Type 0
Fresh before [] = Unit {0}
Fresh before (name ∷ names) = (is_numbered before name ≡ false) × Fresh (before ++ name ∷ []) names

pub not_again : (name : Text) (before names : List Text) → Fresh before names → is_numbered before name ≡ true →
    is_numbered names name ≡ false
not_again name before [] fresh there = refl
not_again name before (x ∷ names) fresh there = grind (
  arith,
  same_text name x,
  fresh.0,
  not_again name (before ++ x ∷ []) names fresh.1 (numbered_prefix before (x ∷ []) name there),
)

pub fresh_distinct : (before names : List Text) → Fresh before names → are_distinct names ≡ true
fresh_distinct before [] fresh = refl
fresh_distinct before (name ∷ names) fresh = grind (
  arith,
  not_again name (before ++ name ∷ []) names fresh.1,
  list_any-append (bytes_eq name) before (name ∷ []),
  same_refl name,
  fresh_distinct _ names fresh.1,
)

-- Exports, imports and declarations.

module _ (sections : List SectionTree) (number : ℕ) (section : SectionTree) where
  pub record ExportFacts (line : ExportLine) : Type 0 where
    pub defined : among (function_names section.decls) line.name ≡ true
    pub no_main : bytes_eq line.name main_name ≡ false
    pub plain : is_plain line.name ≡ true

  pub record ImportFacts (line : ImportLine) : Type 0 where
    pub offered : is_offered sections number section line ≡ true
    pub not_defined : among (function_names section.decls) line.name ≡ false
    pub declared : among (proto_names section.decls) line.name ≡ true
    pub plain : is_plain line.name ≡ true

  abbrev pub DeclFacts : Bool → Decl → Type 0
  DeclFacts mains (Proto head) =
      (head_fits sections number section head ≡ true) × (imported_agrees sections number section head ≡ true)
  DeclFacts mains (Function tree) =
      (head_fits sections number section (head_of tree.head) ≡ true) × (main_holds mains (head_of tree.head) ≡ true)
  DeclFacts mains _ = Unit {0}

  exports_each : (before : List Text) (lines : List ExportLine) →
      exports_from sections number section before lines ≡ [] →
      Each ExportFacts lines × Fresh before (map {A = ExportLine} (λ line. line.name) lines)
  exports_each before [] h = (tt, tt)
  exports_each before (line ∷ lines) h = grind (arith, no_lines, exports_each (before ++ line.name ∷ []) lines)

  import_parts : (offered twice defined declared plain : Bool) → (offered && (not twice && (not defined &&
      (declared && plain)))) ≡ true → (offered ≡ true) × (twice ≡ false) × (defined ≡ false) × (declared ≡ true) ×
      (plain ≡ true)
  import_parts offered twice defined declared plain h = grind arith

  imports_each : (before : List Text) (lines : List ImportLine) →
      imports_from sections number section before lines ≡ [] →
      Each ImportFacts lines × Fresh before (map {A = ImportLine} (λ line. line.name) lines)
  imports_each before [] h = (tt, tt)
  imports_each before (line ∷ lines) h =
      let p = import_parts _ _ _ _ _ (rule_holds _ line.line (prefix_empty _ _ h)) in
      let rest = imports_each (before ++ line.name ∷ []) lines (back_empty _ _ h) in
      ((record { offered = p.0; not_defined = p.2; declared = p.3; plain = p.4 }, rest.0), (p.1, rest.1))

  decls_each : (mains : Bool) (before decls : List Decl) → decls_from sections number section mains before decls ≡ [] →
      Each (DeclFacts mains) decls
  decls_each mains before [] h = tt
  decls_each mains before (decl ∷ decls) h = grind (arith, no_lines, decls_each mains (before ++ decl ∷ []) decls)

  -- what a section keeps, where some sections before it define `main` or not
  pub record InterfaceFacts : Type 0 where
    pub exports : Each ExportFacts section.exports
    pub fresh_exports : Fresh [] (export_names section)
    pub imports : Each ImportFacts section.imports
    pub fresh_imports : Fresh [] (import_names section)
    pub mains : Bool
    pub decls : Each (DeclFacts mains) section.decls

  pub interface_facts : (mains : Bool) (before : List SectionTree) →
      section_interface_lines sections number section mains before ≡ [] → InterfaceFacts
  interface_facts mains before h =
      let out = exports_each [] section.exports (grind (arith, no_lines)) in
      let imported = imports_each [] section.imports (grind (arith, no_lines)) in
      record {
        exports = out.0;
        fresh_exports = out.1;
        imports = imported.0;
        fresh_imports = imported.1;
        mains = mains;
        decls = decls_each mains [] section.decls (grind (arith, no_lines));
      }

  -- its declarations, under these mains
  pub decls_hold : (mains : Bool) (before : List SectionTree) →
      section_interface_lines sections number section mains before ≡ [] → Each (DeclFacts mains) section.decls
  decls_hold mains before h = decls_each mains [] section.decls (grind (arith, no_lines))

-- what a section keeps that is within the counts
pub record CountFacts (section : SectionTree) (callees : Callees) : Type 0 where
  pub nodes : (nat_le (counts.section_nodes section callees) most_nodes && nat_le (length section.decls) most_nodes) ≡
      true
  pub exports : counts.line_beyond {A = ExportLine} (λ line. line.line) most_exports section.exports ≡ []
  pub imports : counts.line_beyond {A = ImportLine} (λ line. line.line) most_exports section.imports ≡ []
  pub structs : counts.structs_from section 0 (structs_in section.decls) ≡ []
  pub globals : concat (map (counts.global_count_lines section) (globals_in section.decls)) ≡ []
  pub heads : concat (map (counts.head_lines section) (heads_in section.decls)) ≡ []
  pub functions : concat (map (counts.function_count_lines section) (function_decls section.decls)) ≡ []

pub count_facts : (section : SectionTree) (callees : Callees) → counts.section_count_lines section callees ≡ [] →
    CountFacts section callees
count_facts section callees h = grind (arith, no_lines)
