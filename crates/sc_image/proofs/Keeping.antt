-- Whether the parts keep the rules on a whole image, as it is found out.
use Rattle.sc_image.proofs.Common.{All, Bool, CompPart, Decides, Decides-and, Decides-like, ExportPart, ImageParts}
use Rattle.sc_image.proofs.Common.{ImportPart, Int, IsEquivalence, IsWellFormed, List, Some, [], ap, are_distinct_by}
use Rattle.sc_image.proofs.Common.{arith, bytes_decides, comps_keep, cond, drop, drop_more, false, get_or}
use Rattle.sc_image.proofs.Common.{hash_set_len-from_list, is_same_import, is_same_name, length, length-map, list_any}
use Rattle.sc_image.proofs.Common.{map, nat_eq, refl, replicate, slice_get-get_or, suc, sym, take, take-replicate, true}
use Rattle.sc_image.proofs.Common.{unsigned_Decides, ℕ, ◌&&◌, ◌+◌, ◌<◌, ◌==◌, ◌||◌, ◌∙◌, ◌∷◌, ◌≡◌, ◌≤◌}
use Rattle.std.proofs.Math.ListN.{drop_of_length-le}
use Rattle.std.specs.HashSet as bag
use Rattle.std.specs.HashSet.{HashSet, hash_set_len}
use Rattle.std.specs.Set.{unique_keys, distinct_count}
use Rattle.sc_image.proofs.Whole.{equivalence, keeps}

-- Compartment by compartment.

module _ (image : ImageParts) (comps : List CompPart) (c : ℕ) where
  keep_at : (comp : CompPart) → c < length comps → comp ≡ get_or comps c comp →
      comps_keep image c (drop c comps) ≡ (keeps image c comp && comps_keep image (c + 1) (drop (c + 1) comps))
  keep_at comp within here =
      let next : suc c ≡ c + 1 = omega arith in
      ap (comps_keep image c) (drop_more comps c comp within) ∙
      (ap (λ x. comps_keep image c (x ∷ drop (c + 1) comps)) (sym here) ∙
      ap (λ k. keeps image c comp && comps_keep image k (drop (c + 1) comps)) next)

  pub refused_by : (comp : CompPart) (total keep : Bool) → total ≡ comps_keep image c (drop c comps) →
      c < length comps → comp ≡ get_or comps c comp → keep ≡ keeps image c comp → keep ≡ false → false ≡ total
  refused_by comp total keep so_far within here is denied =
      sym (so_far ∙ (keep_at comp within here ∙ ap (λ b. b && comps_keep image (c + 1) (drop (c + 1) comps))
      (sym is ∙ denied)))

  pub goes_further : (comp : CompPart) (total keep : Bool) → total ≡ comps_keep image c (drop c comps) →
      c < length comps → comp ≡ get_or comps c comp →
      keep ≡ keeps image c comp → keep ≡ true → total ≡ comps_keep image (c + 1) (drop (c + 1) comps)
  goes_further comp total keep so_far within here is granted = so_far ∙
      (keep_at comp within here ∙ ap (λ b. b && comps_keep image (c + 1) (drop (c + 1) comps)) (sym is ∙ granted))

  pub all_kept : (total : Bool) → total ≡ comps_keep image c (drop c comps) → length comps ≤ c → true ≡ total
  all_kept total so_far past = sym (so_far ∙ ap (comps_keep image c) (drop_of_length-le comps past))

-- As many distinct ones as there are.

count_emits : {A S : Type 0} (same : A → A → Bool) → IsEquivalence same →
    (xs : List A) (set : HashSet A S) (len count : ℕ) → bag.IsFromIterResult same xs set →
    len ≡ hash_set_len set → count ≡ length xs → nat_eq len count ≡ are_distinct_by same xs
count_emits same laws xs set len count made len-is count-is =
    rw (len-is, count-is, hash_set_len-from_list laws xs set made) refl

-- things by their names
pub names_count : {A S : Type 0} (name : A → List ℕ) (xs : List A) (set : HashSet (List ℕ) S) (len : ℕ) →
    bag.IsFromIterResult is_same_name (map name xs) set → len ≡ hash_set_len set →
    nat_eq len (length xs) ≡ are_distinct_by is_same_name (map name xs)
names_count name xs set len made len-is =
    count_emits _ (equivalence _ bytes_decides) _ set len _ made len-is (sym (length-map xs _))

pub comp_names_count : {S : Type 0} (comps : List CompPart) (set : HashSet (List ℕ) S) (len : ℕ) →
    bag.IsFromIterResult is_same_name (map (λ comp. comp.name) comps) set → len ≡ hash_set_len set →
    nat_eq len (length comps) ≡ are_distinct_by is_same_name (map (λ comp. comp.name) comps)
comp_names_count comps set len made len-is =
    count_emits _ (equivalence _ bytes_decides) _ set len _ made len-is (sym (length-map comps _))

pub export_names_count : {S : Type 0} (exports : List ExportPart) (set : HashSet (List ℕ) S) (len : ℕ) →
    bag.IsFromIterResult is_same_name (map (λ export. export.name) exports) set → len ≡ hash_set_len set →
    nat_eq len (length exports) ≡ are_distinct_by is_same_name (map (λ export. export.name) exports)
export_names_count exports set len made len-is =
    count_emits _ (equivalence _ bytes_decides) _ set len _ made len-is (sym (length-map _ _))

pub entries_count : {S : Type 0} (exports : List ExportPart) (set : HashSet ℕ S) (len : ℕ) →
    bag.IsFromIterResult ◌==◌ (map (λ export. export.entry) exports) set → len ≡ hash_set_len set →
    nat_eq len (length exports) ≡ are_distinct_by ◌==◌ (map (λ export. export.entry) exports)
entries_count exports set len made len-is =
    count_emits ◌==◌ (equivalence ◌==◌ unsigned_Decides) _ set len _ made len-is (sym (length-map _ _))

-- imports are distinguished by their numbers

abbrev numbers : ImportPart → ℕ × ℕ
numbers import = (import.comp, import.index)

abbrev is_same_pair : ℕ × ℕ → ℕ × ℕ → Bool
is_same_pair a b = a.0 == b.0 && a.1 == b.1

one_of_many : (x : ImportPart) (imports : List ImportPart) →
    list_any (is_same_pair (numbers x)) (map numbers imports) ≡ list_any (is_same_import x) imports
one_of_many x [] = refl
one_of_many x (y ∷ imports) = ap (λ later. is_same_import x y || later) (one_of_many x imports)

unless_there : (there : Bool) (pairs : List (ℕ × ℕ)) (imports : List ImportPart) (p : ℕ × ℕ) (i : ImportPart) →
    length pairs ≡ length imports → length (cond there pairs (p ∷ pairs)) ≡ length (cond there imports (i ∷ imports))
unless_there true pairs imports p i same = same
unless_there false pairs imports p i same = ap suc same

as_many : (imports : List ImportPart) → distinct_count is_same_pair (map numbers imports) ≡
    distinct_count is_same_import imports
as_many [] = refl
as_many (x ∷ imports) = ap (λ there. length (cond there (unique_keys is_same_pair (map numbers imports))
    (numbers x ∷ unique_keys is_same_pair (map numbers imports)))) (one_of_many x imports) ∙ unless_there _ _
    _ (numbers x) x (as_many imports)

pairs_decide : (a b : ℕ × ℕ) → Decides (is_same_pair a b) (a ≡ b)
pairs_decide a b = Decides-like _ (λ both. ap (λ n. (n, a.1)) both.0 ∙ ap (λ n. (b.0, n)) both.1)
    (λ same. (ap (λ p. p.0) same, ap (λ p. p.1) same))
    (Decides-and (a.0 == b.0) _ (unsigned_Decides a.0 b.0) (unsigned_Decides a.1 b.1))

pub imports_count : {S : Type 0} (imports : List ImportPart) (set : HashSet (ℕ × ℕ) S) (len : ℕ) →
    bag.IsFromIterResult is_same_pair (map (λ import. (import.comp, import.index)) imports) set →
    len ≡ hash_set_len set → nat_eq len (length imports) ≡ are_distinct_by is_same_import imports
imports_count imports set len made len-is = count_emits _ (equivalence _ pairs_decide) _ set len _ made len-is
    (sym (length-map imports _)) ∙ (ap (λ n. n == length (map numbers imports)) (as_many imports) ∙
    ap (λ n. distinct_count is_same_import imports == n) (length-map imports numbers))

pub ruleset counted = (comp_names_count, export_names_count, entries_count, imports_count)

-- the first `m` of eight
pub ints_taken : (n m : ℕ) → n ≤ 8 → m ≡ n → take m (Int ∷ Int ∷ Int ∷ Int ∷ Int ∷ Int ∷ Int ∷ Int ∷ []) ≡
    replicate n Int
ints_taken n m few is =
    let eight : ◌≡◌ _ (replicate 8 Int) = refl in
    rw (is, eight) (take-replicate n 8 Int few)

pub few_params : (image : ImageParts) → IsWellFormed image → (c : ℕ) (comp : CompPart) → c < length image.comps →
    comp ≡ get_or image.comps c comp → All (λ export. export.params ≤ 8) comp.exports
few_params image formed c comp within here k d there =
    let at = slice_get-get_or _ c comp within ∙ ap (λ x. Some x) (sym here) in
    ((formed.comps c comp at).exports k d there).params
