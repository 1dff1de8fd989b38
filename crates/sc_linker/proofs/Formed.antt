-- A linked image is well formed.
use Rattle.sc_linker.proofs.Common.{All, All-map, All-weaker, AreNamed, CodeTree, CompPart, ExportPart, HasWord-own}
use Rattle.sc_linker.proofs.Common.{ImageParts, Instr, Interface, IsComp, IsDistinct, IsEntry, IsExport, IsInstr}
use Rattle.sc_linker.proofs.Common.{IsLinkable, IsTrue, IsWellFormed, IsWellTyped, IsWhole, IsWord, List, Main, None}
use Rattle.sc_linker.proofs.Common.{Option, ProgramTree, Proto, Some, TypedFunction, TypedSection, [], addresses_at}
use Rattle.sc_linker.proofs.Common.{and_first, and_rest, any_along, ap, are_distinct, arith, bytes_eq, cells}
use Rattle.sc_linker.proofs.Common.{codes as text, codes_at, comp_at, comp_code, comp_part, comp_parts, entry_address}
use Rattle.sc_linker.proofs.Common.{entry_in, export_parts, exports_at, false≢true, first_of, flat_map}
use Rattle.sc_linker.proofs.Common.{function_address, global_words, inl, inr, instructions, is_main, is_name, is_some}
use Rattle.sc_linker.proofs.Common.{leb-true, length, length-map, linked_image, list_any, little_bytes, main_fits}
use Rattle.sc_linker.proofs.Common.{main_name, main_so, map, most_compartments, most_globals, not, option_map}
use Rattle.sc_linker.proofs.Common.{place_named, refl, section_at, section_or_none, slice_get, slice_get-map}
use Rattle.sc_linker.proofs.Common.{slice_get_within, struct_zeros, subst, suc, sym, true, word-below, word_of, zero, ℕ}
use Rattle.sc_linker.proofs.Common.{◌+◌, ◌<◌, ◌∙◌, ◌∷◌, ◌≡◌, ◌≢◌, ◌≤◌, ◌⊎◌}
use Rattle.sc_linker.proofs.Comps.{Fits, comps_length, exports_are, few_so, fits_or_none, names_so, of_section, part_at}
use Rattle.sc_linker.proofs.Comps.{part_is, same_count, section_is}
use Rattle.sc_linker.proofs.Exports.{callable_apart, few_exports, few_imports, few_params, globals_so, imports_so}
use Rattle.sc_linker.proofs.Exports.{name_of, names_apart, part_of, parts_length, structs_so}
use Rattle.sc_linker.proofs.Imported.{each_once, few_parts, of_others}
use Rattle.sc_linker.proofs.Linked.{CanLink, code_instrs, code_length, jump_there}
use Rattle.sc_linker.proofs.Places.{all_from, all_here, distinct_at, pairs_from}
use Rattle.sc_linker.proofs.Ready.{can_link, function_starts, word_there}
use Rattle.sc_linker.proofs.Starts.{all_bytes, bytes_count, sized, words_count}

-- NAMES AND ENTRIES
text_distinct : (names : List (List ℕ)) → are_distinct names ≡ true → IsDistinct names
text_distinct names h =
    pairs_from (λ a b. a ≢ b) names (λ i j a b before is at. distinct_at names h i j a b before is at)

export_names_are : (c k : ℕ) (protos : List Proto) →
    map {A = ExportPart} (λ export. export.name) (export_parts c k protos) ≡ map name_of protos
export_names_are c k [] = refl
export_names_are c k (proto ∷ protos) = ap (λ names. proto.name ∷ names) (export_names_are c (suc k) protos)

entry_is : (c k : ℕ) (protos : List Proto) (i entry : ℕ) →
    slice_get (map {A = ExportPart} (λ export. export.entry) (export_parts c k protos)) i ≡ Some entry →
    entry ≡ entry_address c (k + i)
entry_is c k [] i entry is = absurd (cc)
entry_is c k (proto ∷ protos) zero entry is =
    let same : entry_address c k ≡ entry = cc in omega (arith, same)
entry_is c k (proto ∷ protos) (suc i) entry is = omega (arith, entry_is c (suc k) protos i entry is)

entries_differ : (c : ℕ) (protos : List Proto) →
    IsDistinct (map {A = ExportPart} (λ export. export.entry) (export_parts c 0 protos))
entries_differ c protos =
    pairs_from (λ a b. a ≢ b) (map {A = ExportPart} (λ export. export.entry) (export_parts c 0 protos))
    (λ i j a b before is at same.
    omega (arith, before, same, entry_is c 0 protos i a is, entry_is c 0 protos j b at))

comp_names_are : (program : ProgramTree) (codes : List CodeTree) (k : ℕ) (interfaces : List Interface) →
    map {A = CompPart} (λ comp. comp.name) (comp_parts program codes k interfaces)
    ≡ map {A = Interface} (λ i. i.name) interfaces
comp_names_are program codes k [] = refl
comp_names_are program codes k (interface ∷ interfaces) =
    ap (λ names. interface.name ∷ names) (comp_names_are program codes (suc k) interfaces)

-- CODE
instr_word : (instr : Instr) → IsInstr instr → IsWord (word_of instr)
instr_word instr h = word-below instr (word_of instr) (HasWord-own instr h)

code_words : (instrs : List Instr) → All IsInstr instrs → All IsWord (map word_of instrs)
code_words instrs h =
    All-map IsWord word_of instrs (All-weaker IsInstr (λ i. IsWord (word_of i)) instr_word instrs h)

module _ (program : ProgramTree) (codes : List CodeTree) (typed : IsWellTyped program)
    (are_named : AreNamed program.interfaces) (whole : All IsWhole codes) (linkable : IsLinkable program codes)
  where
    abbrev image : ImageParts
    image = linked_image program codes

    module _ (c : ℕ) (fits : Fits program c) where
      abbrev interface : Interface
      interface = fits.interface

      can : CanLink c (exports_at program c) (section_at program c) (codes_at program codes c)
      can = can_link program codes whole linkable c fits

      -- EXPORTS
      entry_starts : (i : ℕ) (proto : Proto) → slice_get interface.exports i ≡ Some proto →
          IsEntry image c (entry_address c i)
      entry_starts i proto is =
          ap is_some (word_there program codes c fits i (entry_address c i) _ refl
          (jump_there c (exports_at program c) (section_at program c) (codes_at program codes c) i proto
          (ap (λ ps. slice_get ps i) (exports_are program c fits) ∙ is)))

      export_formed : (i : ℕ) (export : ExportPart) → slice_get (export_parts c 0 interface.exports) i ≡ Some export →
          IsExport image c export
      export_formed i export is =
          let of = part_of c interface.exports i export is in
          subst (IsExport image c) of.same (record {
            name =
                all_here (λ (proto : Proto). IsTrue (is_name proto.name)) interface.exports
                (all_here (λ (x : Interface). All {X = Proto} (λ proto. IsTrue (is_name proto.name)) x.exports)
                program.interfaces.comps are_named.exports c interface fits.interface_is) i of.proto of.is;
            params = few_params program.interfaces c interface fits.section fits.interface_fitting fits.fits i of.proto
                of.is;
            entry = entry_starts i of.proto of.is;
          })

      -- GLOBALS
      globals_short : length (flat_map (little_bytes 4) (global_words (section_at program c))) ≤ most_globals
      globals_short =
          let fit = subst (λ (s : TypedSection). length (global_words s) ≡ cells s.structs s.globals)
          (sym (section_is program c fits))
          (words_count (struct_zeros [] fits.section.structs) fits.section.structs fits.section.globals
          (sized fits.section.structs fits.section.globals
          (structs_so program.interfaces c interface fits.section fits.fits)
          (globals_so program.interfaces c interface fits.section fits.fits))) in
          omega (arith, fit, bytes_count (global_words (section_at program c)), linkable.globals c)

      code_count : length (map word_of (comp_code program codes c)) ≡
          length (exports_at program c) + instructions (codes_at program codes c)
      code_count =
          length-map (comp_code program codes c) word_of
          ∙ code_length c (exports_at program c) (section_at program c) (codes_at program codes c)

      not_environment : interface.name ≢ text "Env"
      not_environment same =
          distinct_at (text "Env" ∷ map {A = Interface} (λ i. i.name) program.interfaces.comps)
          (names_so program typed) 0 (suc c) (text "Env") interface.name (omega arith) refl
          (slice_get-map (λ (i : Interface). i.name) program.interfaces.comps c
          ∙ ap (option_map (λ (i : Interface). i.name)) fits.interface_is) (sym same)

      pub comp_formed : IsComp image c (comp_part program codes c interface)
      comp_formed = record {
        name = all_here (λ (x : Interface). IsTrue (is_name x.name)) program.interfaces.comps are_named.comps c
            interface fits.interface_is;
        no_environment = not_environment;
        few_exports = omega (
          arith,
          parts_length c 0 interface.exports,
          few_exports program.interfaces c interface fits.section fits.interface_fitting,
        );
        exports = all_from (IsExport image c) (export_parts c 0 interface.exports) export_formed;
        export_names = subst IsDistinct (sym (export_names_are c 0 interface.exports))
            (text_distinct (map name_of interface.exports)
            (names_apart program.interfaces c interface fits.section fits.interface_fitting));
        export_entries = entries_differ c interface.exports;
        few_imports = omega (
          arith,
          few_parts interface.imports,
          few_imports program.interfaces c interface fits.section fits.interface_fitting,
        );
        imports = of_others program codes c interface.imports
            (imports_so program.interfaces c interface fits.section fits.interface_fitting);
        distinct_imports = each_once program.interfaces interface.imports
            (map {A = TypedFunction} (λ f. f.name) fits.section.functions)
            (callable_apart program.interfaces c interface fits.section fits.interface_fitting);
        short_code = omega (arith, code_count, linkable.code c);
        words = code_words (comp_code program codes c)
            (code_instrs c (exports_at program c) (section_at program c) (codes_at program codes c) can);
        short_globals = globals_short;
        bytes = all_bytes (global_words (section_at program c));
      }

    each_formed : (c : ℕ) (comp : CompPart) → slice_get image.comps c ≡ Some comp → IsComp image c comp
    each_formed c comp is = by (fits_or_none program typed c) where
      by : Fits program c ⊎ ((comp_at program.interfaces c ≡ None) × (slice_get program.sections c ≡ None)) →
          IsComp image c comp
      by (inl fits) =
          let both : Some (comp_part program codes c fits.interface) ≡ Some comp =
          sym (part_is program codes c fits) ∙ is in
          let same : comp_part program codes c fits.interface ≡ comp = cc in
          subst (IsComp image c) same (comp_formed c fits)
      by (inr none) =
          let never : Some comp ≡ None =
          sym is ∙ part_at program codes c ∙ ap (option_map (comp_part program codes c)) none.0 in
          absurd (cc)

    -- MAIN
    abbrev main : ℕ
    main = program.interfaces.main

    main_starts : (section : TypedSection) → slice_get program.sections main ≡ Some section →
        main_fits (Some section) ≡ true → IsEntry image main image.entry
    main_starts section is fit =
        let fits = of_section program typed main section is in
        let first = first_of is_main section.functions (any_along {A = TypedFunction} _ is_main
        (λ f h. and_first (is_main f) _ h) section.functions fit) in
        let found : entry_in program main Main ≡ Some first.number = ap (place_named main_name) is ∙ first.found in
        let own : section_at program main ≡ section = section_is_by is in
        let inside : first.number < length (section_at program main).functions =
        subst (λ (s : TypedSection). first.number < length s.functions) (sym own)
        (slice_get_within section.functions first.number first.item first.is) in
        let starts = function_starts program codes main fits (can_link program codes whole linkable main fits)
        first.number inside in
        subst (λ o. IsEntry image main (function_address (addresses_at program codes main) o)) (sym found)
        (ap is_some starts.1) where
          section_is_by : slice_get program.sections main ≡ Some section → section_at program main ≡ section
          section_is_by at = ap section_or_none at

    main_by : (o : Option TypedSection) → slice_get program.sections main ≡ o → main_fits o ≡ true →
        (main < length image.comps) × IsEntry image main image.entry
    main_by None at fit = absurd (false≢true fit)
    main_by (Some section) at fit = (
      omega (
        arith,
        comps_length program codes,
        same_count program typed,
        slice_get_within program.sections main section at,
      ),
      main_starts section at fit,
    )

    well_formed : IsWellFormed image
    well_formed =
        let start = main_by (slice_get program.sections main) refl (main_so program typed) in
        record {
          few_comps = omega (
            arith,
            comps_length program codes,
            same_count program typed,
            leb-true (length program.sections) most_compartments (few_so program typed),
          );
          main = start.0;
          entry = start.1;
          comps = each_formed;
          names = subst IsDistinct (sym (comp_names_are program codes 0 program.interfaces.comps))
              (text_distinct (map {A = Interface} (λ i. i.name) program.interfaces.comps)
              (and_rest (not (list_any (bytes_eq (text "Env"))
              (map {A = Interface} (λ i. i.name) program.interfaces.comps))) _ (names_so program typed)));
        }

-- a linked image is well formed
pub linked_is_formed : (program : ProgramTree) (codes : List CodeTree) → IsWellTyped program →
    AreNamed program.interfaces → All IsWhole codes → IsLinkable program codes →
    IsWellFormed (linked_image program codes)
linked_is_formed program codes typed are_named whole linkable =
    well_formed program codes typed are_named whole linkable
