-- One turn of each loop of linking.
use Rattle.sc_object.proofs.Common.{Bool, CompPart, Differ, ExportPart, Face, FaceExport, List, Missing, None}
use Rattle.sc_object.proofs.Common.{ObjectParts, Option, Some, Twice, [], ap, append-nil, append_assoc, arith}
use Rattle.sc_object.proofs.Common.{code_start, differ_from, drop, drop_more, drop_of_length-le, false, get_or}
use Rattle.sc_object.proofs.Common.{has_number, if◌then◌else◌, is_same_program, joined_part, joined_parts}
use Rattle.sc_object.proofs.Common.{length, missing_from, object_for, suc, sym, take, take_more, true, twice_from}
use Rattle.sc_object.proofs.Common.{with_entries, ℕ, ◌*◌, ◌++◌, ◌+◌, ◌-◌, ◌<◌, ◌∙◌, ◌∷◌, ◌≡◌, ◌≤◌}
use Rattle.sc_object.specs.declared.linking.JoinFault.{JoinFault}

module _ {A : Type 0} (xs : List A) (i : ℕ) (x : A) (within : i < length xs) (here : x ≡ get_or xs i x) where
  left : drop i xs ≡ x ∷ drop (i + 1) xs
  left = drop_more xs i x within ∙ ap (λ y. y ∷ drop (i + 1) xs) (sym here)

  passed : take (i + 1) xs ≡ take i xs ++ x ∷ []
  passed = take_more xs i x within ∙ ap (λ y. take i xs ++ y ∷ []) (sym here)

  next : suc i ≡ i + 1
  next = omega arith

module _ (objects : List ObjectParts) (i : ℕ) (object : ObjectParts) (within : i < length objects)
    (here : object ≡ get_or objects i object) where
  pub differ_at : (head : ObjectParts) → differ_from head i (drop i objects) ≡
      (if is_same_program head object then differ_from head (i + 1) (drop (i + 1) objects) else Some (Differ i))
  differ_at head = ap (differ_from head i) (left objects i object within here) ∙
      ap (λ k. if is_same_program head object then differ_from head k (drop (i + 1) objects) else Some (Differ i))
      (next objects i object within here)

  pub twice_at : twice_from (take i objects) i (drop i objects) ≡
      (if has_number (take i objects) object.own then Some (Twice object.own i)
      else twice_from (take (i + 1) objects) (i + 1) (drop (i + 1) objects))
  twice_at =
      ap (twice_from (take i objects) i) (left objects i object within here) ∙
      (ap (λ k. if has_number (take i objects) object.own then Some (Twice object.own i)
      else twice_from (take i objects ++ object ∷ []) k (drop (i + 1) objects)) (next objects i object within here) ∙
      ap (λ before. if has_number (take i objects) object.own then Some (Twice object.own i)
      else twice_from before (i + 1) (drop (i + 1) objects)) (sym (passed objects i object within here)))

  -- the test told, and what was to be found so far
  module _ (head : ObjectParts) (told : Bool) (total : Option JoinFault) (is : told ≡ is_same_program head object)
      (so_far : differ_from head i (drop i objects) ≡ total) where
    differ_by : (if told then differ_from head (i + 1) (drop (i + 1) objects) else Some (Differ i)) ≡ total
    differ_by = ap (λ same. if same then differ_from head (i + 1) (drop (i + 1) objects) else Some (Differ i)) is ∙
        (sym (differ_at head) ∙ so_far)

    pub differ_here : told ≡ false → total ≡ Some (Differ i)
    differ_here other = sym differ_by ∙
        ap (λ same. if same then differ_from head (i + 1) (drop (i + 1) objects) else Some (Differ i)) other

    pub differ_on : told ≡ true → differ_from head (i + 1) (drop (i + 1) objects) ≡ total
    differ_on same =
        sym (ap (λ same. if same then differ_from head (i + 1) (drop (i + 1) objects) else Some (Differ i)) same) ∙
        differ_by

  module _ (told : Bool) (total : Option JoinFault) (is : told ≡ has_number (take i objects) object.own)
      (so_far : twice_from (take i objects) i (drop i objects) ≡ total) where
    abbrev further : Option JoinFault
    further = twice_from (take (i + 1) objects) (i + 1) (drop (i + 1) objects)

    twice_by : (if told then Some (Twice object.own i) else further) ≡ total
    twice_by = ap (λ there. if there then Some (Twice object.own i) else further) is ∙ (sym twice_at ∙ so_far)

    pub twice_here : told ≡ true → total ≡ Some (Twice object.own i)
    twice_here there =
        sym twice_by ∙ ap (λ there. if there then Some (Twice object.own i) else further) there

    pub twice_on : told ≡ false → further ≡ total
    twice_on new = sym (ap (λ there. if there then Some (Twice object.own i) else further) new) ∙ twice_by

pub differ_none : (objects : List ObjectParts) (i : ℕ) (head : ObjectParts) (total : Option JoinFault) →
    length objects ≤ i → differ_from head i (drop i objects) ≡ total → total ≡ None
differ_none objects i head total past so_far =
    sym so_far ∙ ap (differ_from head i) (drop_of_length-le objects past)

pub twice_none : (objects : List ObjectParts) (i : ℕ) (total : Option JoinFault) → length objects ≤ i →
    twice_from (take i objects) i (drop i objects) ≡ total → total ≡ None
twice_none objects i total past so_far =
    sym so_far ∙ ap (twice_from (take i objects) i) (drop_of_length-le objects past)

pub missing_at : (objects : List ObjectParts) (c comps : ℕ) → c < comps →
    missing_from objects c (comps - c) ≡
    (if has_number objects c then missing_from objects (c + 1) (comps - (c + 1)) else Some (Missing c))
missing_at objects c comps low =
    let count : comps - c ≡ suc (comps - (c + 1)) = omega (arith, low) in
    let following : suc c ≡ c + 1 = omega arith in
    ap (missing_from objects c) count ∙
    ap (λ k. if has_number objects c then missing_from objects k (comps - (c + 1)) else Some (Missing c)) following

-- the test told of this number
module _ (objects : List ObjectParts) (c comps comp : ℕ) (within : c < comps) (number : comp ≡ c) (told : Bool)
    (total : Option JoinFault) (is : told ≡ has_number objects comp)
    (so_far : missing_from objects c (comps - c) ≡ total) where
  abbrev beyond : Option JoinFault
  beyond = missing_from objects (c + 1) (comps - (c + 1))

  missing_by : (if told then beyond else Some (Missing c)) ≡ total
  missing_by = ap (λ there. if there then beyond else Some (Missing c)) (is ∙ ap (has_number objects) number) ∙
      (sym (missing_at objects c comps within) ∙ so_far)

  pub missing_here : told ≡ false → total ≡ Some (Missing comp)
  missing_here lacks = sym missing_by ∙ (ap (λ there. if there then beyond else Some (Missing c)) lacks ∙
      ap (λ k. Some (Missing k)) (sym number))

  pub missing_on : told ≡ true → beyond ≡ total
  missing_on there = sym (ap (λ there. if there then beyond else Some (Missing c)) there) ∙ missing_by

pub missing_begins : (objects : List ObjectParts) (comps : ℕ) →
    missing_from objects 0 (comps - 0) ≡ missing_from objects 0 comps
missing_begins objects comps = let all : comps - 0 ≡ comps = omega arith in ap (missing_from objects 0) all

pub missing_none : (objects : List ObjectParts) (c comps : ℕ) (total : Option JoinFault) → comps ≤ c →
    missing_from objects c (comps - c) ≡ total → total ≡ None
missing_none objects c comps total past so_far =
    let none : comps - c ≡ 0 = omega (arith, past) in sym so_far ∙ ap (missing_from objects c) none

-- the parts so far, and those of the faces that are left
pub part_added : (objects : List ObjectParts) (faces : List Face) (i : ℕ) (face : Face) (parts after : List CompPart)
    (part : CompPart) (total : List CompPart) → i < length faces → face ≡ get_or faces i face →
    part ≡ joined_part i face (object_for objects i) → after ≡ parts ++ part ∷ [] →
    parts ++ joined_parts objects i (drop i faces) ≡ total →
    after ++ joined_parts objects (i + 1) (drop (i + 1) faces) ≡ total
part_added objects faces i face parts after part total within here is added so_far =
    let own = joined_part i face (object_for objects i) in
    let later = joined_parts objects (i + 1) (drop (i + 1) faces) in
    let one = ap (λ list. list ++ later) (added ∙ ap (λ p. parts ++ p ∷ []) is) ∙ append_assoc parts (own ∷ []) later in
    let step = ap (joined_parts objects i) (left faces i face within here) ∙
    ap (λ k. own ∷ joined_parts objects k (drop (i + 1) faces)) (next faces i face within here) in
    one ∙ (ap (λ list. parts ++ list) (sym step) ∙ so_far)

pub parts_done : (objects : List ObjectParts) (faces : List Face) (i : ℕ) (parts total : List CompPart) →
    length faces ≤ i → parts ++ joined_parts objects i (drop i faces) ≡ total → parts ≡ total
parts_done objects faces i parts total past so_far =
    sym (ap (λ list. parts ++ joined_parts objects i list) (drop_of_length-le faces past) ∙ append-nil parts) ∙ so_far

-- the exports so far, and those that are left
pub export_added : (c : ℕ) (exports : List FaceExport) (i : ℕ) (export : FaceExport) (parts after : List ExportPart)
    (entry : ℕ) (total : List ExportPart) → i < length exports → export ≡ get_or exports i export →
    entry ≡ code_start c + 4 * i →
    after ≡ parts ++ record { name = export.name; params = export.params; result = export.result; entry = entry } ∷ [] →
    parts ++ with_entries c i (drop i exports) ≡ total →
    after ++ with_entries c (i + 1) (drop (i + 1) exports) ≡ total
export_added c exports i export parts after entry total within here is added so_far =
    let with_entry : (e : ℕ) → ExportPart = λ e. record {
      name = export.name;
      params = export.params;
      result = export.result;
      entry = e;
    } in
    let own = with_entry (code_start c + 4 * i) in
    let later = with_entries c (i + 1) (drop (i + 1) exports) in
    let one = ap (λ list. list ++ later) (added ∙ ap (λ e. parts ++ with_entry e ∷ []) is) ∙
    append_assoc parts (own ∷ []) later in
    let step = ap (with_entries c i) (left exports i export within here) ∙
    ap (λ k. own ∷ with_entries c k (drop (i + 1) exports)) (next exports i export within here) in
    one ∙ (ap (λ list. parts ++ list) (sym step) ∙ so_far)

pub exports_done : (c : ℕ) (exports : List FaceExport) (i : ℕ) (parts total : List ExportPart) →
    length exports ≤ i → parts ++ with_entries c i (drop i exports) ≡ total → parts ≡ total
exports_done c exports i parts total past so_far =
    sym (ap (λ list. parts ++ with_entries c i list) (drop_of_length-le exports past) ∙ append-nil parts) ∙ so_far
