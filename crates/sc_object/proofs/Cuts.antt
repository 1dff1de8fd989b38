-- Bytes are cut into objects in one way.
use Rattle.sc_object.proofs.Common.{AllByRecursion, All-from_recursion, AreBytesOf, BadObject, BytesNameOneList, Err}
use Rattle.sc_object.proofs.Common.{IsFirstBad, IsObject, IsReadSo, List, Mark, ObjectIsReadAgain, ObjectParts}
use Rattle.sc_object.proofs.Common.{ObjectsOrBad, Ok, OneFirstBad, Read, [], ap, ap₂, append-nil, append_assoc, arith}
use Rattle.sc_object.proofs.Common.{codes, flat_map, flat_map-append, flat_map-cons, inl, inr, length, length-append}
use Rattle.sc_object.proofs.Common.{little_bytes, object_at, object_bytes, object_parts_bytes, recursion_from_All, refl}
use Rattle.sc_object.proofs.Common.{subst, suc, sym, zero, ℕ, ◌++◌, ◌+◌, ◌<◌, ◌^◌, ◌∙◌, ◌∷◌, ◌≡◌, ◌≤◌, ◌⊎◌}
use Rattle.sc_object.proofs.Common.{AreObjects}
use Rattle.sc_fields.proofs.Fields.{IsBytes, bytes_fit}
use Rattle.sc_object.proofs.Fields.{object_field}

pub read_again : ObjectIsReadAgain
read_again object rest is = object_field.again object rest is

abbrev pub AllObjects : List ObjectParts → Type 0
AllObjects objects = AllByRecursion IsObject objects

abbrev pub all_bytes_of : List ObjectParts → List ℕ
all_bytes_of objects = flat_map object_bytes objects

nothing_read : object_at [] ≡ Err Mark
unfolding object_at
nothing_read = refl

some_bytes : (object : ObjectParts) → 0 < length (object_bytes object)
some_bytes object =
    let both = length-append (codes "SCOB" ++ little_bytes 2 1) (object_parts_bytes object) in
    let six : length (codes "SCOB" ++ little_bytes 2 1) ≡ 6 = refl in
    omega (arith, both, six)

pub enough_bytes : (objects : List ObjectParts) → length objects ≤ length (all_bytes_of objects)
enough_bytes [] = omega arith
enough_bytes (object ∷ objects) =
    let both = ap length (flat_map-cons object_bytes object objects) ∙
    length-append (object_bytes object) (all_bytes_of objects) in
    omega (arith, both, some_bytes object, enough_bytes objects)

-- One cut.

cut_first : (object : ObjectParts) (objects : List ObjectParts) (rest : List ℕ) → IsObject object →
    object_at (all_bytes_of (object ∷ objects) ++ rest) ≡ Ok (object, all_bytes_of objects ++ rest)
cut_first object objects rest is =
    let regrouped = ap (λ text. text ++ rest) (flat_map-cons object_bytes object objects) ∙
    append_assoc (object_bytes object) (all_bytes_of objects) rest in
    ap object_at regrouped ∙ read_again object _ is

-- no object begins here
abbrev Ends : List ℕ → Type 0
Ends rest = (cause : BadObject) × (object_at rest ≡ Err cause)

pair_is : (x y : ObjectParts) (r s : List ℕ) (read : Read BadObject ObjectParts) → read ≡ Ok (x, r) →
    read ≡ Ok (y, s) → (x ≡ y) × (r ≡ s)
pair_is x y r s read one other =
    let same = sym one ∙ other in
    let pair : ◌≡◌ {A = ObjectParts × List ℕ} (x, r) (y, s) = cc same in
    (ap (λ p. p.0) pair, ap (λ p. p.1) pair)

no_object : (object : ObjectParts) (objects : List ObjectParts) (rest after : List ℕ) → IsObject object →
    rest ≡ all_bytes_of (object ∷ objects) ++ after → Ends rest → ⊥
no_object object objects rest after is same ends =
    let read = ap object_at same ∙ cut_first object objects after is in
    let never = sym ends.1 ∙ read in
    cc never

same_cut : (xs ys : List ObjectParts) (r s : List ℕ) → AllObjects xs → AllObjects ys →
    all_bytes_of xs ++ r ≡ all_bytes_of ys ++ s → Ends r → Ends s → (xs ≡ ys) × (r ≡ s)
same_cut [] [] r s good also same one other = (refl, same)
same_cut [] (y ∷ ys) r s good also same one other = absurd (no_object y ys r s also.0 same one)
same_cut (x ∷ xs) [] r s good also same one other = absurd (no_object x xs s r good.0 (sym same) other)
same_cut (x ∷ xs) (y ∷ ys) r s good also same one other =
    let pair = pair_is x y (all_bytes_of xs ++ r) (all_bytes_of ys ++ s) (object_at (all_bytes_of (y ∷ ys) ++ s))
    (ap object_at (sym same) ∙ cut_first x xs r good.0) (cut_first y ys s also.0) in
    let later = same_cut xs ys r s good.1 also.1 pair.1 one other in
    (ap₂ (λ z zs. z ∷ zs) pair.0 later.0, later.1)

-- The laws.

module _ (bytes : List ℕ) where
  -- a whole list is a cut with nothing after it
  whole : (objects : List ObjectParts) → AreBytesOf objects bytes → bytes ≡ all_bytes_of objects ++ []
  whole objects are = are.are ∙ sym (append-nil (all_bytes_of objects))

  each_of : (objects : List ObjectParts) → AreBytesOf objects bytes → AllObjects objects
  each_of objects are = recursion_from_All IsObject _ are.good.each

  one_list_here : (one other : List ObjectParts) → AreBytesOf one bytes → AreBytesOf other bytes → one ≡ other
  one_list_here one other a b =
      (same_cut one other [] [] (each_of one a) (each_of other b) (sym (whole one a) ∙ whole other b)
      (Mark, nothing_read) (Mark, nothing_read)).0

  module _ (i j : ℕ) (cause its : BadObject) (a : IsFirstBad bytes i cause) (b : IsFirstBad bytes j its) where
    same_bad : (a.before ≡ b.before) × (a.rest ≡ b.rest)
    same_bad = same_cut a.before b.before a.rest b.rest (recursion_from_All IsObject _ a.each)
        (recursion_from_All IsObject _ b.each) (sym a.are ∙ b.are) (cause, a.bad) (its, b.bad)

    one_index : i ≡ j
    one_index = a.number ∙ (ap length same_bad.0 ∙ sym b.number)

    one_cause : cause ≡ its
    one_cause = let errs = sym a.bad ∙ (ap object_at same_bad.1 ∙ b.bad) in cc errs

  never_bad : (objects : List ObjectParts) (i : ℕ) (cause : BadObject) → AreBytesOf objects bytes →
      IsFirstBad bytes i cause → ⊥
  never_bad objects i cause are a =
      let both = same_cut objects a.before [] a.rest (each_of objects are) (recursion_from_All IsObject _ a.each)
      (sym (whole objects are) ∙ a.are) (Mark, nothing_read) (cause, a.bad) in
      elim a.begins [
        | inl none ↦
            let empty = ap length (both.0 ∙ none) in
            omega (arith, empty, are.good.some)
        | inr some ↦
            let empty = ap length both.1 in
            omega (arith, empty, some)
      ]

pub one_list : BytesNameOneList
one_list bytes one other a b = one_list_here bytes one other a b

pub one_first_bad : OneFirstBad
one_first_bad = record {
  index = λ bytes i j cause its a b. one_index bytes i j cause its a b;
  cause = λ bytes i j cause its a b. one_cause bytes i j cause its a b;
  never = λ bytes objects i cause are a. never_bad bytes objects i cause are a;
}

-- Each cut ends.

record Cut (bytes : List ℕ) : Type 0 where
  objects : List ObjectParts
  rest : List ℕ
  each : AllObjects objects
  are : bytes ≡ all_bytes_of objects ++ rest
  ends : (rest ≡ []) ⊎ ((0 < length rest) × Ends rest)

nothing_left : Cut []
nothing_left = record { objects = []; rest = []; each = tt; are = refl; ends = inl refl }

one_more : (bytes rest : List ℕ) (object : ObjectParts) → IsObject object → bytes ≡ object_bytes object ++ rest →
    Cut rest → Cut bytes
one_more bytes rest object is taken later = record {
  objects = object ∷ later.objects;
  rest = later.rest;
  each = (is, later.each);
  are = taken ∙ (ap (λ text. object_bytes object ++ text) later.are ∙
      (sym (append_assoc (object_bytes object) (all_bytes_of later.objects) later.rest) ∙
      ap (λ text. text ++ later.rest) (sym (flat_map-cons object_bytes object later.objects))));
  ends = later.ends;
}

cut_by : (fuel : ℕ) (bytes : List ℕ) → IsBytes bytes → length bytes < fuel → Cut bytes
cut_by zero bytes fits low = absurd (omega (arith, low))
cut_by (suc fuel) [] fits low = nothing_left
cut_by (suc fuel) (byte ∷ bytes) fits low = by (cut_by fuel) (object_at (byte ∷ bytes)) refl
  where
    by : ((rest : List ℕ) → IsBytes rest → length rest < fuel → Cut rest) → (read : Read BadObject ObjectParts) →
        object_at (byte ∷ bytes) ≡ read → Cut (byte ∷ bytes)
    by again (Ok (object, rest)) is =
        let took = object_field.takes (byte ∷ bytes) object rest fits is in
        let sizes = ap length took.0.parts ∙ length-append (object_bytes object) rest in
        one_more (byte ∷ bytes) rest object took.1 took.0.parts
        (again rest took.0.rest_fits (omega (arith, low, sizes, some_bytes object)))
    by again (Err cause) is = record {
      objects = [];
      rest = byte ∷ bytes;
      each = tt;
      are = refl;
      ends = inr (omega arith, (cause, is));
    }

-- bytes of objects are those of as many objects as bytes at most
are_few : (bytes rest : List ℕ) (objects : List ObjectParts) → bytes ≡ all_bytes_of objects ++ rest →
    length objects ≤ length bytes
are_few bytes rest objects are =
    let sizes = ap length are ∙ length-append (all_bytes_of objects) rest in
    omega (arith, sizes, enough_bytes objects)

-- nothing is left after some objects
pub are_bytes : (bytes rest : List ℕ) (objects : List ObjectParts) → length bytes < 2 ^ 32 → 0 < length objects →
    AllObjects objects → bytes ≡ all_bytes_of objects ++ rest → rest ≡ [] → AreBytesOf objects bytes
are_bytes bytes rest objects short some each are none = record {
  good = record {
    some = some;
    few = omega (arith, short, are_few bytes rest objects are);
    each = All-from_recursion IsObject _ each;
  };
  are = are ∙ (ap (λ text. all_bytes_of objects ++ text) none ∙ append-nil (all_bytes_of objects));
}

abbrev Either : List ℕ → Type 0
Either bytes =
    ((objects : List ObjectParts) × AreBytesOf objects bytes) ⊎
    ((index : ℕ) × (cause : BadObject) × IsFirstBad bytes index cause)

first_bad : (bytes rest : List ℕ) (objects : List ObjectParts) (cause : BadObject) → AllObjects objects →
    bytes ≡ all_bytes_of objects ++ rest → (objects ≡ []) ⊎ (0 < length rest) → object_at rest ≡ Err cause →
    IsFirstBad bytes (length objects) cause
first_bad bytes rest objects cause each are begins bad = record {
  before = objects;
  rest = rest;
  number = refl;
  each = All-from_recursion IsObject _ each;
  are = are;
  begins = begins;
  bad = bad;
}

decide : (bytes rest : List ℕ) (objects : List ObjectParts) → length bytes < 2 ^ 32 → AllObjects objects →
    bytes ≡ all_bytes_of objects ++ rest → (rest ≡ []) ⊎ ((0 < length rest) × Ends rest) → Either bytes
decide bytes rest [] short each are (inl none) =
    inr (0, Mark, first_bad bytes rest [] Mark each are (inl refl) (ap object_at none ∙ nothing_read))
decide bytes rest (object ∷ objects) short each are (inl none) =
    inl (object ∷ objects, are_bytes bytes rest (object ∷ objects) short (omega arith) each are none)
decide bytes rest objects short each are (inr left) =
    inr (length objects, left.1.0, first_bad bytes rest objects left.1.0 each are (inr left.0) left.1.1)

pub objects_or_bad : ObjectsOrBad
objects_or_bad bytes all short =
    let cut = cut_by (suc (length bytes)) bytes (bytes_fit bytes all) (omega arith) in
    decide bytes cut.rest cut.objects short cut.each cut.are cut.ends

-- Reading them one by one.

-- one object or more are read, and this is left
pub record IsReading (bytes : List ℕ) (objects : List ObjectParts) (rest : List ℕ) : Type 0 where
  pub some : 0 < length objects
  pub each : AllObjects objects
  pub are : bytes ≡ all_bytes_of objects ++ rest
  pub fits : IsBytes rest

with_last : (objects : List ObjectParts) (last : ObjectParts) → AllObjects objects → IsObject last →
    AllObjects (objects ++ last ∷ [])
with_last [] last each is = (is, tt)
with_last (object ∷ objects) last each is = (each.0, with_last objects last each.1 is)

bytes_with_last : (objects : List ObjectParts) (last : ObjectParts) (rest : List ℕ) →
    all_bytes_of objects ++ (object_bytes last ++ rest) ≡ all_bytes_of (objects ++ last ∷ []) ++ rest
bytes_with_last objects last rest =
    sym (append_assoc (all_bytes_of objects) (object_bytes last) rest) ∙
    ap (λ text. text ++ rest) (ap (λ text. all_bytes_of objects ++ text) (sym (append-nil (object_bytes last))) ∙
    sym (flat_map-append object_bytes objects (last ∷ [])))

pub with_one_more : (objects after : List ObjectParts) (last : ObjectParts) → AreObjects objects → IsObject last →
    length objects + 1 < 2 ^ 32 → after ≡ objects ++ last ∷ [] → AreObjects after
with_one_more objects after last are is few added =
    let count = ap length added ∙ length-append objects (last ∷ []) in
    record {
      some = omega (arith, count);
      few = omega (arith, count, few);
      each = All-from_recursion IsObject _ (subst AllObjects (sym added)
          (with_last objects last (recursion_from_All IsObject _ are.each) is));
    }

module _ (bytes : List ℕ) where
  pub reads_more : (objects after : List ObjectParts) (rest left : List ℕ) → IsReading bytes objects rest →
      IsReadSo objects rest after left → IsReading bytes after left
  reads_more objects after rest left so_far read =
      let took = object_field.takes rest read.object left so_far.fits read.read in
      let count = ap length read.added ∙ length-append objects (read.object ∷ []) in
      record {
        some = omega (arith, count);
        each = subst AllObjects (sym read.added) (with_last objects read.object so_far.each took.1);
        are = so_far.are ∙ (ap (λ text. all_bytes_of objects ++ text) took.0.parts ∙
            (bytes_with_last objects read.object left ∙ ap (λ list. all_bytes_of list ++ left) (sym read.added)));
        fits = took.0.rest_fits;
      }

  pub reads_first : (before after : List ObjectParts) (left : List ℕ) → IsBytes bytes → before ≡ [] →
      IsReadSo before bytes after left → IsReading bytes after left
  reads_first before after left fits none read =
      let took = object_field.takes bytes read.object left fits read.read in
      let added = read.added ∙ ap (λ list. list ++ read.object ∷ []) none in
      let count = ap length added in
      record {
        some = omega (arith, count);
        each = subst AllObjects (sym added) (took.1, tt);
        are = took.0.parts ∙ (ap (λ text. text ++ left) (sym (append-nil (object_bytes read.object))) ∙
            ap (λ list. all_bytes_of list ++ left) (sym added));
        fits = took.0.rest_fits;
      }

  -- an object takes some bytes
  pub shrinks : (objects after : List ObjectParts) (rest left : List ℕ) → IsReading bytes objects rest →
      IsReadSo objects rest after left → length left < length rest
  shrinks objects after rest left so_far read =
      let took = object_field.takes rest read.object left so_far.fits read.read in
      let sizes = ap length took.0.parts ∙ length-append (object_bytes read.object) left in
      omega (arith, sizes, some_bytes read.object)

  pub reads_few : (objects : List ObjectParts) (rest : List ℕ) → IsReading bytes objects rest →
      length objects ≤ length bytes
  reads_few objects rest so_far = are_few bytes rest objects so_far.are

  pub has_read : (objects : List ObjectParts) (rest : List ℕ) → IsReading bytes objects rest →
      length bytes < 2 ^ 32 → length rest ≡ 0 → AreBytesOf objects bytes
  has_read objects rest so_far short none =
      are_bytes bytes rest objects short so_far.some so_far.each so_far.are (nothing rest none)
    where
      nothing : (rest : List ℕ) → length rest ≡ 0 → rest ≡ []
      nothing [] none = refl
      nothing (byte ∷ rest) none = absurd (omega (arith, none))
