-- Whether two objects say the same of the program, and what it says.
use Rattle.sc_object.proofs.Common.{Face, FaceExport, ObjectParts, and_from, and_parts, eq-eqb, eqb-true}
use Rattle.sc_object.proofs.Common.{is_same_export, is_same_face, is_same_flag, is_same_import, is_same_name}
use Rattle.sc_object.proofs.Common.{is_same_program, pointwise, refl, subst, true, ◌==◌, ◌≡◌}
use Rattle.sc_image.proofs.Alike.{all_same, flag_is, import_is, name_is, same_flag, same_import, same_lists, same_name}

same_export : (export : FaceExport) → is_same_export export export ≡ true
same_export export = and_from (is_same_name export.name export.name) _ (same_name export.name)
    (and_from (export.params == export.params) _ (eq-eqb export.params export.params refl) (same_flag export.result))

export_is : (a b : FaceExport) → is_same_export a b ≡ true → a ≡ b
export_is a b is =
    let name = and_parts (is_same_name a.name b.name) _ is in
    let params = and_parts (a.params == b.params) _ name.1 in
    let n = name_is a.name b.name name.0 in
    let p = eqb-true a.params b.params params.0 in
    let r = flag_is a.result b.result params.1 in
    λ i. record { name = n i; params = p i; result = r i }

same_face : (face : Face) → is_same_face face face ≡ true
same_face face = and_from (is_same_name face.name face.name) _ (same_name face.name)
    (and_from (is_same_flag face.input face.input) _ (same_flag face.input)
    (and_from (is_same_flag face.output face.output) _ (same_flag face.output)
    (and_from (pointwise is_same_export face.exports face.exports) _
    (all_same is_same_export same_export face.exports) (all_same is_same_import same_import face.imports))))

face_is : (a b : Face) → is_same_face a b ≡ true → a ≡ b
face_is a b is =
    let name = and_parts (is_same_name a.name b.name) _ is in
    let input = and_parts (is_same_flag a.input b.input) _ name.1 in
    let output = and_parts (is_same_flag a.output b.output) _ input.1 in
    let lists = and_parts (pointwise is_same_export a.exports b.exports) _ output.1 in
    let n = name_is a.name b.name name.0 in
    let in_is = flag_is a.input b.input input.0 in
    let out_is = flag_is a.output b.output output.0 in
    let e = same_lists is_same_export export_is a.exports b.exports lists.0 in
    let m = same_lists is_same_import import_is a.imports b.imports lists.1 in
    λ i. record { name = n i; input = in_is i; output = out_is i; exports = e i; imports = m i }

-- they say the same of the program
pub record SaysSame (a b : ObjectParts) : Type 0 where
  pub main : a.main ≡ b.main
  pub faces : a.faces ≡ b.faces

pub same_if : (a b : ObjectParts) → SaysSame a b → is_same_program a b ≡ true
same_if a b says = and_from (a.main == b.main) _ (eq-eqb a.main b.main says.main)
    (subst (λ faces. pointwise is_same_face a.faces faces ≡ true) says.faces
    (all_same is_same_face same_face a.faces))

pub says_same : (a b : ObjectParts) → is_same_program a b ≡ true → SaysSame a b
says_same a b is =
    let both = and_parts (a.main == b.main) _ is in
    record {
      main = eqb-true a.main b.main both.0;
      faces = same_lists is_same_face face_is a.faces b.faces both.1;
    }
