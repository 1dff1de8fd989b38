-- The images of programs: where exports enter, and what of them an object of one section has.
use Rattle.sc_object.proofs.Common.{ExportPart, is_some, ◌*◌, flat_map, import_part, imports, is_input, is_output}
use Rattle.sc_object.proofs.Common.{length, Bool, CompPart, Face, HasEntries, ImageParts, Interface, Interfaces, List}
use Rattle.sc_object.proofs.Common.{ObjectsAreSeparate, Ok, Option, ProgramTree, Proto, Some, TypedSection, [], ap}
use Rattle.sc_object.proofs.Common.{arith, built_image, code_start, comp_part, comp_parts, eqb-true}
use Rattle.sc_object.proofs.Common.{export_parts, face_export, face_of, false}
use Rattle.sc_object.proofs.Common.{if◌then◌else◌, image_of, map, object_of, option_map_or}
use Rattle.sc_object.proofs.Common.{refl, slice_get, subst, suc, sym, true}
use Rattle.sc_object.proofs.Common.{with_entries, zero, ℕ, ◌+◌, ◌-◌, ◌<◌, ◌==◌, ◌∙◌, ◌∷◌, ◌≡◌}
use Rattle.sc_compile.proofs.Parts.{entry_by_lines, entry_so, image_is, own_entry, parts_are_separate}
use Rattle.sc_compile.specs.Prelude.{SameButForLines, all_codes, program_tac}
use Rattle.sc_tac.specs.declared.machine_code.CodeTree.{CodeTree}

-- Entries.

abbrev export_of : (c k : ℕ) → Proto → ExportPart
export_of c k proto = record {
  name = proto.name;
  params = length proto.params;
  result = is_some proto.result;
  entry = code_start c + 4 * k;
}

with_entries_are : (c k : ℕ) (protos : List Proto) →
    export_parts c k protos ≡ with_entries c k (map face_export (export_parts c k protos))
with_entries_are c k [] = refl
with_entries_are c k (proto ∷ protos) =
    ap (λ exports. export_of c k proto ∷ exports) (with_entries_are c (suc k) protos)

module _ (program : ProgramTree) (codes : List CodeTree) where
  entries_from : (k : ℕ) (interfaces : List Interface) (c i : ℕ) (comp : CompPart) → c ≡ k + i →
      slice_get (comp_parts program codes k interfaces) i ≡ Some comp →
      comp.exports ≡ with_entries c 0 (map face_export comp.exports)
  entries_from k [] c i comp number there = absurd cc
  entries_from k (interface ∷ interfaces) c zero comp number there =
      let here : comp_part program codes k interface ≡ comp = cc there in
      let same : k ≡ c = omega (arith, number) in
      subst (λ n. comp.exports ≡ with_entries n 0 (map face_export comp.exports)) same
      (subst (λ (part : CompPart). part.exports ≡ with_entries k 0 (map face_export part.exports)) here
      (with_entries_are k 0 interface.exports))
  entries_from k (interface ∷ interfaces) c (suc i) comp number there =
      entries_from (suc k) interfaces c i comp (omega (arith, number)) there

pub has_entries : (program : ProgramTree) (image : ImageParts) → image_of program ≡ Ok image → HasEntries image
has_entries program image is =
    subst HasEntries (image_is program image is)
    (λ c comp there. entries_from program (all_codes (program_tac program)) 0 program.interfaces.comps c c comp
    (omega arith) there)

module _ (program : ProgramTree) (codes : List CodeTree) where
  parts_count : (k : ℕ) (interfaces : List Interface) →
      length (comp_parts program codes k interfaces) ≡ length interfaces
  parts_count k [] = refl
  parts_count k (interface ∷ interfaces) = ap suc (parts_count (suc k) interfaces)

-- an image has as many compartments as its program
pub has_comps : (program : ProgramTree) (image : ImageParts) (c : ℕ) → image_of program ≡ Ok image →
    c < length program.interfaces.comps → c < length image.comps
has_comps program image c is low =
    let count : length image.comps ≡ length program.interfaces.comps =
    subst (λ (image : ImageParts). length image.comps ≡ length program.interfaces.comps) (image_is program image is)
    (parts_count program (all_codes (program_tac program)) 0 program.interfaces.comps) in
    omega (arith, low, count)

-- Faces are told by the interfaces alone.

abbrev face_in : Interfaces → ℕ → Interface → Face
face_in interfaces c interface = face_of (record {
  name = interface.name;
  input = imports interfaces c is_input;
  output = imports interfaces c is_output;
  heap = false;
  exports = export_parts c 0 interface.exports;
  imports = flat_map import_part interface.imports;
  code = [];
  globals = [];
})

abbrev faces_in : Interfaces → ℕ → List Interface → List Face
faces_in interfaces c [] = []
faces_in interfaces c (interface ∷ list) = face_in interfaces c interface ∷ faces_in interfaces (suc c) list

faces_are : (program : ProgramTree) (codes : List CodeTree) (c : ℕ) (list : List Interface) →
    map face_of (comp_parts program codes c list) ≡ faces_in program.interfaces c list
faces_are program codes c [] = refl
faces_are program codes c (interface ∷ list) =
    ap (λ faces. face_in program.interfaces c interface ∷ faces) (faces_are program codes (suc c) list)

-- The entry is told by the interfaces and the main compartment's own section.

abbrev main_at_by : Interfaces → ℕ → Option TypedSection → ℕ
main_at_by interfaces c section = if interfaces.main == c then own_entry interfaces c section - code_start c else 0

module _ (program : ProgramTree) (c : ℕ) where
  abbrev interfaces : Interfaces
  interfaces = program.interfaces

  main_at_so : (object_of (built_image program) c).main_at ≡ main_at_by interfaces c (slice_get program.sections c)
  main_at_so = by (interfaces.main == c) refl
    where
      by : (is_main : Bool) → (interfaces.main == c) ≡ is_main →
          (if is_main then (built_image program).entry - code_start c else 0) ≡
          (if is_main then own_entry interfaces c (slice_get program.sections c) - code_start c else 0)
      by true same =
          let at : interfaces.main ≡ c = eqb-true interfaces.main c same in
          ap (λ entry. entry - code_start c) (entry_so program ∙
          ap (λ n. own_entry interfaces n (slice_get program.sections n)) at)
      by false same = refl

main_at_by_lines : (interfaces : Interfaces) (c : ℕ) (section other : Option TypedSection) →
    SameButForLines section other → main_at_by interfaces c section ≡ main_at_by interfaces c other
main_at_by_lines interfaces c section other but =
    ap (λ entry. if interfaces.main == c then entry - code_start c else 0)
    (entry_by_lines interfaces c section other but)

pub separate : ObjectsAreSeparate
separate program other image its c is other_is same_interfaces same_section =
    let image_so = image_is program image is in
    let its_so = image_is other its other_is in
    let part = parts_are_separate program other image its c is other_is same_interfaces same_section in
    let main : image.main ≡ its.main =
    ap (λ (i : ImageParts). i.main) (sym image_so) ∙ (ap (λ (i : Interfaces). i.main) same_interfaces ∙
    ap (λ (i : ImageParts). i.main) its_so) in
    let faces : map face_of image.comps ≡ map face_of its.comps =
    ap (λ (i : ImageParts). map face_of i.comps) (sym image_so) ∙
    (faces_are program (all_codes (program_tac program)) 0 program.interfaces.comps ∙
    (ap (λ (i : Interfaces). faces_in i 0 i.comps) same_interfaces ∙
    (sym (faces_are other (all_codes (program_tac other)) 0 other.interfaces.comps) ∙
    ap (λ (i : ImageParts). map face_of i.comps) its_so))) in
    let heap = ap (λ found. option_map_or (λ (comp : CompPart). comp.heap) found false) part in
    let code = ap (λ found. option_map_or (λ (comp : CompPart). comp.code) found []) part in
    let globals = ap (λ found. option_map_or (λ (comp : CompPart). comp.globals) found []) part in
    let main_at : (object_of image c).main_at ≡ (object_of its c).main_at =
    ap (λ (i : ImageParts). (object_of i c).main_at) (sym image_so) ∙
    (main_at_so program c ∙ (ap (λ i. main_at_by i c (slice_get program.sections c)) same_interfaces ∙
    (main_at_by_lines other.interfaces c _ _ same_section ∙
    (sym (main_at_so other c) ∙ ap (λ (i : ImageParts). (object_of i c).main_at) its_so)))) in
    λ i. record {
      main = main i;
      own = c;
      faces = faces i;
      heap = heap i;
      code = code i;
      main_at = main_at i;
      globals = globals i;
    }
