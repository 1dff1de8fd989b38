-- The image that objects are joined to is well formed, and each compartment of it is that of its own object.
use Rattle.sc_object.proofs.Common.{All, CanBeJoined, if◌then◌else◌, recursion_from_All, AllByRecursion, Bool, CompPart}
use Rattle.sc_object.proofs.Common.{ExportPart, Face, FaceExport, HasOwn, ImageParts, ImportPart, IsObject}
use Rattle.sc_object.proofs.Common.{IsWellFormed, List, None, ObjectParts, Option, Some, [], and_from, and_parts, ap}
use Rattle.sc_object.proofs.Common.{ap₂, are_distinct_by, arith, code_in, code_start, comps_keep, eq-eqb, eqb-true}
use Rattle.sc_object.proofs.Common.{exports_keep, face_keeps, faces_keep, false, flags, image_keeps_rules, imports_keep}
use Rattle.sc_object.proofs.Common.{is_entry, is_importable, is_offered, is_same_name, is_start, join_as, joined_part}
use Rattle.sc_object.proofs.Common.{joined_parts, keeps_rules, le-leb, leb-true, length, list_all, ltb-true, map}
use Rattle.sc_object.proofs.Common.{nat_eq, nat_le, nat_lt, not, object_for, option_map, option_map_or, own_exports}
use Rattle.sc_object.proofs.Common.{refl, slice_get, is_there, slice_get_within, subst, suc, sym, true}
use Rattle.sc_object.proofs.Common.{unsigned_Decides, with_entries, word_at, zero, ℕ, ◌%◌, ◌&&◌, ◌*◌, ◌+◌, ◌-◌, ◌/◌}
use Rattle.sc_object.proofs.Common.{◌<◌, ◌==◌, ◌∙◌, ◌∷◌, ◌≡◌, ◌≢◌, ◌≤◌}
use Rattle.sc_image.proofs.Whole.{distinct_decides, flags_fit, whole_is}
use Rattle.sc_image.proofs.FileFields.{FitsComp, FitsExport as FitsImageExport, FitsParts as FitsImageParts}
use Rattle.sc_linker.proofs.Places.{all_from, all_here, pairs_from}
use Rattle.sc_object.proofs.Fields.{FitsExport, FitsFace, FitsParts, object_fits}
use Rattle.sc_object.proofs.Found.{OfComp, all_say_same, all_there, each_once, object_found}
use Rattle.sc_object.proofs.Alike.{SaysSame}

-- Exports with entries.

entries_count : (c k : ℕ) (exports : List FaceExport) → length (with_entries c k exports) ≡ length exports
entries_count c k [] = refl
entries_count c k (export ∷ exports) = ap suc (entries_count c (suc k) exports)

entry_names : (c k : ℕ) (exports : List FaceExport) →
    map (λ (export : ExportPart). export.name) (with_entries c k exports) ≡
    map (λ (export : FaceExport). export.name) exports
entry_names c k [] = refl
entry_names c k (export ∷ exports) = ap (λ names. export.name ∷ names) (entry_names c (suc k) exports)

exports_fit : (c k : ℕ) (exports : List FaceExport) → c < 32 → k + length exports ≤ 4096 →
    AllByRecursion FitsExport exports → AllByRecursion FitsImageExport (with_entries c k exports)
exports_fit c k [] low few each = tt
exports_fit c k (export ∷ exports) low few each = (
  record { name = each.0.name; params = each.0.params; entry = omega (arith, low, few) },
  exports_fit c (suc k) exports low (omega (arith, few)) each.1,
)

entry_at : (c k : ℕ) (exports : List FaceExport) (i entry : ℕ) →
    slice_get (map (λ (export : ExportPart). export.entry) (with_entries c k exports)) i ≡ Some entry →
    entry ≡ code_start c + 4 * (k + i)
entry_at c k [] i entry is = absurd cc
entry_at c k (export ∷ exports) zero entry is =
    let same : code_start c + 4 * k ≡ entry = cc in omega (arith, same)
entry_at c k (export ∷ exports) (suc i) entry is = omega (arith, entry_at c (suc k) exports i entry is)

entries_differ : (c : ℕ) (exports : List FaceExport) →
    are_distinct_by ◌==◌ (map (λ (export : ExportPart). export.entry) (with_entries c 0 exports)) ≡ true
entries_differ c exports =
    let entries = map (λ (export : ExportPart). export.entry) (with_entries c 0 exports) in
    (distinct_decides ◌==◌ unsigned_Decides entries).1
    (pairs_from (λ a b. a ≢ b) entries (λ i j a b before is at same.
    omega (arith, before, same, entry_at c 0 exports i a is, entry_at c 0 exports j b at)))

module _ (image : ImageParts) where
  entry_is : (c place : ℕ) → place < length (code_in image c) → is_entry image c (code_start c + 4 * place) ≡ true
  unfolding word_at
  entry_is c place within =
      let entry = code_start c + 4 * place in
      let whole : nat_eq (entry % 4) 0 ≡ true = eq-eqb _ 0 (omega arith) in
      let above : nat_le (code_start c) entry ≡ true = le-leb _ _ (omega arith) in
      let place_is : (entry - code_start c) / 4 ≡ place = omega arith in
      let word = is_there (code_in image c) place within in
      rw (whole, above, place_is, word.1) refl

  entries_are : (c k : ℕ) (exports : List FaceExport) → k + length exports ≤ length (code_in image c) →
      list_all (λ (export : ExportPart). is_entry image c export.entry) (with_entries c k exports) ≡ true
  entries_are c k [] few = refl
  entries_are c k (export ∷ exports) few =
      and_from (is_entry image c (code_start c + 4 * k)) _ (entry_is c k (omega (arith, few)))
      (entries_are c (suc k) exports (omega (arith, few)))

-- The compartments.

module _ (objects : List ObjectParts) where
  parts_count : (c : ℕ) (faces : List Face) → length (joined_parts objects c faces) ≡ length faces
  parts_count c [] = refl
  parts_count c (face ∷ faces) = ap suc (parts_count (suc c) faces)

  part_names : (c : ℕ) (faces : List Face) →
      map (λ (comp : CompPart). comp.name) (joined_parts objects c faces) ≡ map (λ (face : Face). face.name) faces
  part_names c [] = refl
  part_names c (face ∷ faces) = ap (λ names. face.name ∷ names) (part_names (suc c) faces)

  part_at : (k c i : ℕ) (faces : List Face) → c ≡ k + i →
      slice_get (joined_parts objects k faces) i ≡
      option_map (λ (face : Face). joined_part c face (object_for objects c)) (slice_get faces i)
  part_at k c i [] number = refl
  part_at k c zero (face ∷ faces) number =
      let same : k ≡ c = omega (arith, number) in
      ap (λ n. Some (joined_part n face (object_for objects n))) same
  part_at k c (suc i) (face ∷ faces) number = part_at (suc k) c i faces (omega (arith, number))

-- Objects that can be joined.

module _ (head : ObjectParts) (objects : List ObjectParts) (good : (i : ℕ) (object : ObjectParts) →
    slice_get objects i ≡ Some object → IsObject object) (first : slice_get objects 0 ≡ Some head)
    (says : (i : ℕ) (object : ObjectParts) → slice_get objects i ≡ Some object → SaysSame head object)
    (once : (i j : ℕ) (object other : ObjectParts) → slice_get objects i ≡ Some object →
    slice_get objects j ≡ Some other → object.own ≡ other.own → i ≡ j)
    (all : (c : ℕ) → c < length head.faces → OfComp objects c) where
  abbrev image : ImageParts
  image = join_as head objects

  abbrev faces : List Face
  faces = head.faces

  head_fits : FitsParts head
  head_fits = object_fits head (good 0 head first)

  -- the only object of its compartment
  found_of : (i : ℕ) (object : ObjectParts) → slice_get objects i ≡ Some object →
      object_for objects object.own ≡ Some object
  found_of i object there =
      object_found objects object.own object (λ j other at same.
      let place = once j i other object at there same in
      let both : Some other ≡ Some object = sym at ∙ (ap (slice_get objects) place ∙ there) in cc both)
      (record { place = i; object = object; there = there; own = refl })

  -- of each compartment
  record Its (c : ℕ) : Type 0 where
    object : ObjectParts
    found : object_for objects c ≡ Some object
    own : object.own ≡ c
    fits : FitsParts object
    rules : keeps_rules object ≡ true
    same : SaysSame head object

  its : (c : ℕ) → c < length faces → Its c
  its c low =
      let of = all c low in
      let is = good of.place of.object of.there in
      record {
        object = of.object;
        found = subst (λ n. object_for objects n ≡ Some of.object) of.own (found_of of.place of.object of.there);
        own = of.own;
        fits = object_fits of.object is;
        rules = is.rules;
        same = says of.place of.object of.there;
      }

  comps_count : length image.comps ≡ length faces
  comps_count = parts_count objects 0 faces

  part_here : (c : ℕ) (face : Face) → slice_get faces c ≡ Some face →
      slice_get image.comps c ≡ Some (joined_part c face (object_for objects c))
  part_here c face there =
      part_at objects 0 c c faces (omega arith) ∙
      ap (option_map (λ (face : Face). joined_part c face (object_for objects c))) there

  own_code : (c : ℕ) (face : Face) (object : ObjectParts) → slice_get faces c ≡ Some face →
      object_for objects c ≡ Some object → code_in image c ≡ object.code
  own_code c face object there found =
      ap (λ found. option_map_or (λ (comp : CompPart). comp.code) found []) (part_here c face there) ∙
      ap (λ found. option_map_or (λ (object : ObjectParts). object.code) found []) found

  -- Fields.

  part_fits : (c : ℕ) (face : Face) → c < length faces → FitsFace (length faces) face →
      FitsComp 2 (length faces) (joined_part c face (object_for objects c))
  part_fits c face low fits =
      let it = its c low in
      subst (λ found. FitsComp 2 (length faces) (joined_part c face found)) (sym it.found) (record {
        name = fits.name;
        no_environment = fits.no_environment;
        flags = flags_fit 2 (joined_part c face (Some it.object)) (λ never. cc never);
        exports = record {
          few = omega (arith, fits.exports.few, entries_count c 0 face.exports);
          each = exports_fit c 0 face.exports (omega (arith, low, head_fits.few))
              (omega (arith, fits.exports.few)) fits.exports.each;
        };
        imports = fits.imports;
        code = it.fits.code;
        globals = it.fits.globals;
      })

  parts_fit : (c : ℕ) (list : List Face) → c + length list ≤ length faces →
      AllByRecursion (FitsFace (length faces)) list →
      AllByRecursion (FitsComp 2 (length faces)) (joined_parts objects c list)
  parts_fit c [] low each = tt
  parts_fit c (face ∷ list) low each =
      (part_fits c face (omega (arith, low)) each.0, parts_fit (suc c) list (omega (arith, low)) each.1)

  abbrev main_offset : ℕ
  main_offset = option_map_or (λ (object : ObjectParts). object.main_at) (object_for objects head.main) 0

  record MainWord : Type 0 where
    place : ℕ
    offset : main_offset ≡ 4 * place
    within : place < length (code_in image head.main)
    short : 4 * length (code_in image head.main) ≤ 0x100000

  main_word : MainWord
  main_word =
      let it = its head.main head_fits.main in
      let is_main : (it.object.main == it.object.own) ≡ true =
      eq-eqb it.object.main it.object.own (sym it.same.main ∙ sym it.own) in
      let is : is_start true (length it.object.code) it.object.main_at ≡ true =
      subst (λ m. is_start m (length it.object.code) it.object.main_at ≡ true) is_main it.fits.start in
      let both = and_parts (it.object.main_at % 4 == 0) _ is in
      let whole = eqb-true (it.object.main_at % 4) 0 both.0 in
      let offset = ap (λ found. option_map_or (λ (object : ObjectParts). object.main_at) found 0) it.found in
      let face = is_there faces head.main head_fits.main in
      let code = ap length (own_code head.main face.0 it.object face.1 it.found) in
      let within = ltb-true (it.object.main_at / 4) (length it.object.code) both.1 in
      let short = it.fits.code.short in
      record {
        place = it.object.main_at / 4;
        offset = omega (arith, offset, whole);
        within = omega (arith, within, code);
        short = omega (arith, short, code);
      }

  image_fits : FitsImageParts 2 image
  image_fits = record {
    some = omega (arith, comps_count, head_fits.some);
    few = omega (arith, comps_count, head_fits.few);
    main = omega (arith, comps_count, head_fits.main);
    entry = omega (arith, main_word.offset, main_word.within, main_word.short, head_fits.main, head_fits.few);
    comps = subst (λ n. AllByRecursion (FitsComp 2 n) image.comps) (sym comps_count)
        (parts_fit 0 faces (omega arith) head_fits.faces);
  }

  -- Rules.

  head_rules : keeps_rules head ≡ true
  head_rules = (good 0 head first).rules

  abbrev names_distinct : Bool
  names_distinct = are_distinct_by is_same_name (map (λ (face : Face). face.name) faces)

  faces_so : faces_keep faces 0 faces ≡ true
  faces_so = (and_parts (faces_keep faces 0 faces) _ (and_parts names_distinct _ head_rules).1).0

  abbrev offers : (index : ℕ) → Option CompPart → Bool
  offers index found = option_map_or (λ (comp : CompPart). nat_lt index (length comp.exports)) found false

  abbrev face_offers : (index : ℕ) → Option Face → Bool
  face_offers index found = option_map_or (λ (face : Face). nat_lt index (length face.exports)) found false

  offers_same : (index c : ℕ) (found : Option Face) →
      offers index (option_map (λ (face : Face). joined_part c face (object_for objects c)) found) ≡
      face_offers index found
  offers_same index c None = refl
  offers_same index c (Some face) = ap (nat_lt index) (entries_count c 0 face.exports)

  importable_same : (c : ℕ) (import : ImportPart) → is_importable image c import ≡ is_offered faces c import
  importable_same c import =
      ap (λ offered. not (import.comp == c) && offered)
      (ap (offers import.index) (part_at objects 0 import.comp import.comp faces (omega arith)) ∙
      offers_same import.index import.comp (slice_get faces import.comp))

  all_importable : (c : ℕ) (imports : List ImportPart) →
      list_all (is_importable image c) imports ≡ list_all (is_offered faces c) imports
  all_importable c [] = refl
  all_importable c (import ∷ imports) = ap₂ (λ a b. a && b) (importable_same c import) (all_importable c imports)

  -- as many words of code as exports
  words_enough : (c : ℕ) (face : Face) → slice_get faces c ≡ Some face →
      length face.exports ≤ length (code_in image c)
  words_enough c face there =
      let it = its c (slice_get_within faces c face there) in
      let object = it.object in
      let rules = and_parts (are_distinct_by is_same_name (map (λ (face : Face). face.name) object.faces)) _ it.rules in
      let enough = leb-true _ _ (and_parts (faces_keep object.faces 0 object.faces) _ rules.1).1 in
      let its_face : slice_get object.faces object.own ≡ Some face =
      ap (slice_get object.faces) it.own ∙ (ap (λ list. slice_get list c) (sym it.same.faces) ∙ there) in
      let count : own_exports object ≡ length face.exports =
      ap (λ found. option_map_or (λ (face : Face). length face.exports) found 0) its_face in
      let code = ap length (own_code c face object there it.found) in
      omega (arith, enough, count, code)

  part_keeps : (c : ℕ) (face : Face) → slice_get faces c ≡ Some face → face_keeps faces c face ≡ true →
      (exports_keep image c (with_entries c 0 face.exports) && imports_keep image c face.imports) ≡ true
  part_keeps c face there keeps =
      let names = and_parts (are_distinct_by is_same_name (map (λ (e : FaceExport). e.name) face.exports)) _ keeps in
      let imports = and_parts (list_all (is_offered faces c) face.imports) _ names.1 in
      let exports = with_entries c 0 face.exports in
      and_from (exports_keep image c exports) _
      (and_from (list_all (λ (e : ExportPart). is_entry image c e.entry) exports) _
      (entries_are image c 0 face.exports (omega (arith, words_enough c face there)))
      (and_from (are_distinct_by is_same_name (map (λ (e : ExportPart). e.name) exports)) _
      (ap (are_distinct_by is_same_name) (entry_names c 0 face.exports) ∙ names.0) (entries_differ c face.exports)))
      (and_from (list_all (is_importable image c) face.imports) _
      (all_importable c face.imports ∙ imports.0) imports.1)

  parts_keep : (c : ℕ) (list : List Face) → ((i : ℕ) (face : Face) → slice_get list i ≡ Some face →
      slice_get faces (c + i) ≡ Some face) → faces_keep faces c list ≡ true →
      comps_keep image c (joined_parts objects c list) ≡ true
  parts_keep c [] at keep = refl
  parts_keep c (face ∷ list) at keep =
      let both = and_parts (face_keeps faces c face) (faces_keep faces (suc c) list) keep in
      let here : c + 0 ≡ c = omega arith in
      let there = subst (λ n. slice_get faces n ≡ Some face) here (at 0 face refl) in
      and_from (exports_keep image c (with_entries c 0 face.exports) && imports_keep image c face.imports) _
      (part_keeps c face there both.0)
      (parts_keep (suc c) list (λ i other is.
      let next : c + suc i ≡ suc c + i = omega arith in
      subst (λ n. slice_get faces n ≡ Some other) next (at (suc i) other is)) both.1)

  image_rules : image_keeps_rules image ≡ true
  image_rules =
      let entry : code_start head.main + 4 * main_word.place ≡ image.entry = omega (arith, main_word.offset) in
      and_from (are_distinct_by is_same_name (map (λ (comp : CompPart). comp.name) image.comps)) _
      (ap (are_distinct_by is_same_name) (part_names objects 0 faces) ∙ (and_parts names_distinct _ head_rules).0)
      (and_from (is_entry image head.main image.entry) _
      (subst (λ e. is_entry image head.main e ≡ true) entry (entry_is image head.main main_word.place main_word.within))
      (parts_keep 0 faces (λ i face there.
      let same : i ≡ 0 + i = omega arith in subst (λ n. slice_get faces n ≡ Some face) same there) faces_so))

  pub is_well_formed : IsWellFormed image
  is_well_formed = whole_is 2 image image_fits image_rules

  pub has_own : (i : ℕ) (object : ObjectParts) → slice_get objects i ≡ Some object → HasOwn image object
  has_own i object there =
      let found = found_of i object there in
      let count = ap length (says i object there).faces in
      let own = (object_fits object (good i object there)).own in
      let face = is_there faces object.own (omega (arith, own, count)) in
      let part = part_here object.own face.0 face.1 in
      record {
        code = own_code object.own face.0 object face.1 found;
        globals =
            ap (λ found. option_map_or (λ (comp : CompPart). comp.globals) found []) part ∙
            ap (λ found. option_map_or (λ (object : ObjectParts). object.globals) found []) found;
        heap =
            ap (λ found. option_map_or (λ (comp : CompPart). comp.heap) found false) part ∙
            ap (λ found. option_map_or (λ (object : ObjectParts). object.heap) found false) found;
      }

-- By what linking finds out.

module _ (head : ObjectParts) (objects : List ObjectParts) (can : CanBeJoined head objects) where
  each_good : (i : ℕ) (object : ObjectParts) → slice_get objects i ≡ Some object → IsObject object
  each_good i object there = all_here IsObject objects can.each i object there

  all_same : (i : ℕ) (object : ObjectParts) → slice_get objects i ≡ Some object → SaysSame head object
  all_same i object there = all_say_same head 0 objects can.same i object there

  all_of : (c : ℕ) → c < length head.faces → OfComp objects c
  all_of c low = all_there objects 0 (length head.faces) can.all c (omega (arith, low)) (omega arith)

  pub joined_well : (joined : ImageParts) → joined ≡ join_as head objects → IsWellFormed joined
  joined_well joined is =
      subst IsWellFormed (sym is)
      (is_well_formed head objects each_good can.first all_same (each_once objects can.once) all_of)

  pub joined_own : (joined : ImageParts) → joined ≡ join_as head objects → All (HasOwn joined) objects
  joined_own joined is =
      subst (λ image. All (HasOwn image) objects) (sym is) (all_from (HasOwn (join_as head objects)) objects
      (has_own head objects each_good can.first all_same (each_once objects can.once) all_of))

-- The offset of `main` is within the code's stretch.

found_good : (objects : List ObjectParts) → AllByRecursion IsObject objects → (c : ℕ) (object : ObjectParts) →
    object_for objects c ≡ Some object → IsObject object
found_good [] each c object found = absurd cc
found_good (first ∷ objects) each c object found =
    by (λ found. found_good objects each.1 c object found) (first.own == c) found
  where
    by : (object_for objects c ≡ Some object → IsObject object) → (here : Bool) →
        (if here then Some first else object_for objects c) ≡ Some object → IsObject object
    by again true found = let same : first ≡ object = cc in subst IsObject same each.0
    by again false found = again found

start_low : (is_main : Bool) (words at : ℕ) → 4 * words ≤ 0x100000 → is_start is_main words at ≡ true → at ≤ 0x100000
start_low true words at short is =
    let both = and_parts (at % 4 == 0) _ is in
    let whole = eqb-true (at % 4) 0 both.0 in
    let within = ltb-true (at / 4) words both.1 in
    omega (arith, short, whole, within)
start_low false words at short is = let none = eqb-true at 0 is in omega (arith, none)

pub offset_low : (objects : List ObjectParts) (c : ℕ) (object : ObjectParts) → All IsObject objects →
    object_for objects c ≡ Some object → object.main_at ≤ 0x100000
offset_low objects c object each found =
    let is = found_good objects (recursion_from_All IsObject objects each) c object found in
    start_low (object.main == object.own) (length object.code) object.main_at is.short_code is.start

-- a head has few exports of each compartment
pub few_of : (object : ObjectParts) → IsObject object → All (λ (face : Face). length face.exports ≤ 4096) object.faces
few_of object is i d within = (is.faces i d within).few_exports

pub head_good : (head : ObjectParts) (objects : List ObjectParts) → CanBeJoined head objects → IsObject head
head_good head objects can = all_here IsObject objects can.each 0 head can.first
