-- The compartments that are given in an image: those that `differing` lists are the least set but for which the image
-- equals the program's own one.
use Rattle.sc_image.proofs.Common.{All, AllPairs, AreGiven, Bool, CompPart, ImageParts, IsButFor, IsWellFormed, List}
use Rattle.sc_image.proofs.Common.{None, Option, Some, [], and_from, and_parts, ap, append-nil, ap₂, arith, cases_lt}
use Rattle.sc_image.proofs.Common.{cond, differing, eq-eqb, eqb-true, false, filter, inl, inr, is_kept, is_listed}
use Rattle.sc_image.proofs.Common.{is_same_inside, is_same_inside_at, is_same_outside, is_seen_alike, is_there, length}
use Rattle.sc_image.proofs.Common.{length-map, map, not, option_map, option_map_or, or_left, or_right, pointwise}
use Rattle.sc_image.proofs.Common.{range_with_len, refl, seen_of, slice_get, slice_get-map, slice_get_past, subst, suc}
use Rattle.sc_image.proofs.Common.{sym, true, zero, zero-add, ℕ, ◌+◌, ◌++◌, ◌<◌, ◌==◌, ◌||◌, ◌∙◌, ◌∷◌, ◌≡◌, ◌≤◌}
use Rattle.sc_image.proofs.Alike.{alike_if_seen, comp_is_one, lists_seen, same_inside, seen_alike, seen_lists}
use Rattle.std.proofs.lemmas.List.Elements.{All-filter, All-head, All-tail, filter-append}
use Rattle.std.proofs.lemmas.List.FromFn.{get_or-range_with_len, length-range_with_len}
use Rattle.std.proofs.lemmas.List.Kept.{AllPairs-filter}

-- Numbers that pass a test.

range_longer : (a n j : ℕ) → a + n ≡ j → range_with_len a (suc n) ≡ range_with_len a n ++ j ∷ []
range_longer a zero j is = let same : a ≡ j = omega arith in ap (λ k. k ∷ []) same
range_longer a (suc n) j is = ap (λ rest. a ∷ rest) (range_longer (a + 1) n j (omega arith))

-- one number more
passes_more : (p : ℕ → Bool) (n : ℕ) →
    filter p (range_with_len 0 (n + 1)) ≡ filter p (range_with_len 0 n) ++ cond (p n) (n ∷ []) []
passes_more p n =
    let next : n + 1 ≡ suc n = omega arith in
    ap (λ k. filter p (range_with_len 0 k)) next ∙ ap (filter p) (range_longer 0 n n (zero-add n)) ∙
    filter-append p (range_with_len 0 n) (n ∷ [])

pub one_more : (p : ℕ → Bool) (given more : List ℕ) (n one : ℕ) → given ≡ filter p (range_with_len 0 n) →
    p n ≡ true → one ≡ n → more ≡ given ++ one ∷ [] → more ≡ filter p (range_with_len 0 (n + 1))
one_more p given more n one is passes same longer = longer ∙ ap₂ (λ xs x. xs ++ x ∷ []) is same ∙
    ap (λ b. filter p (range_with_len 0 n) ++ cond b (n ∷ []) []) (sym passes) ∙ sym (passes_more p n)

pub as_before : (p : ℕ → Bool) (given more : List ℕ) (n : ℕ) → given ≡ filter p (range_with_len 0 n) →
    p n ≡ false → more ≡ given → more ≡ filter p (range_with_len 0 (n + 1))
as_before p given more n is fails same = same ∙ is ∙ sym (append-nil (filter p (range_with_len 0 n))) ∙
    ap (λ b. filter p (range_with_len 0 n) ++ cond b (n ∷ []) []) (sym fails) ∙ sym (passes_more p n)

range_rises : (n : ℕ) → AllPairs (λ c later. c < later) (range_with_len 0 n)
range_rises n i j d lt within =
    let long = length-range_with_len 0 n in
    omega (arith, get_or-range_with_len 0 n i d (omega arith), get_or-range_with_len 0 n j d (omega arith))

range_within : (n : ℕ) → All (λ c. c < n) (range_with_len 0 n)
range_within n i d within =
    let long = length-range_with_len 0 n in
    omega (arith, get_or-range_with_len 0 n i d (omega arith))

in_range : (a n c : ℕ) → a ≤ c → c < a + n → is_listed (range_with_len a n) c ≡ true
in_range a zero c low high = absurd (omega arith)
in_range a (suc n) c low high =
    elim (cases_lt a c) [
      | inl lt ↦ or_right (a == c) _ (in_range (a + 1) n c (omega arith) (omega arith))
      | inr le ↦ let same : a ≡ c = omega arith in or_left (a == c) _ (eq-eqb a c same)
    ]

-- what is listed is an element
listed_holds : (P : ℕ → Type 0) (xs : List ℕ) (c : ℕ) → All P xs → is_listed xs c ≡ true → P c
listed_holds P [] c all is = absurd cc
listed_holds P (x ∷ xs) c all is = by (x == c) refl is (listed_holds P xs c (All-tail P x xs all))
  where
    by : (same : Bool) → (x == c) ≡ same → (same || is_listed xs c) ≡ true → (is_listed xs c ≡ true → P c) → P c
    by true same is later = subst P (eqb-true x c same) (All-head P x xs all)
    by false same is later = later is

-- what is kept of a list passes
kept_passes : (p : ℕ → Bool) (xs : List ℕ) (c : ℕ) → is_listed (filter p xs) c ≡ true → p c ≡ true
kept_passes p [] c is = absurd cc
kept_passes p (x ∷ xs) c is = by (p x) refl is (kept_passes p xs c)
  where
    at : p x ≡ true → (is_listed (filter p xs) c ≡ true → p c ≡ true) → (same : Bool) → (x == c) ≡ same →
        (same || is_listed (filter p xs) c) ≡ true → p c ≡ true
    at passes later true same is = subst (λ k. p k ≡ true) (eqb-true x c same) passes
    at passes later false same is = later is

    by : (b : Bool) → p x ≡ b → is_listed (cond b (x ∷ filter p xs) (filter p xs)) c ≡ true →
        (is_listed (filter p xs) c ≡ true → p c ≡ true) → p c ≡ true
    by true passes is later = at passes later (x == c) refl is
    by false fails is later = later is

-- and what passes is kept
passing_is_kept : (p : ℕ → Bool) (xs : List ℕ) (c : ℕ) → p c ≡ true → is_listed xs c ≡ true →
    is_listed (filter p xs) c ≡ true
passing_is_kept p [] c passes is = is
passing_is_kept p (x ∷ xs) c passes is = by (x == c) refl is (passing_is_kept p xs c passes)
  where
    behind : is_listed (filter p xs) c ≡ true → (b : Bool) →
        is_listed (cond b (x ∷ filter p xs) (filter p xs)) c ≡ true
    behind is true = or_right (x == c) _ is
    behind is false = is

    by : (same : Bool) → (x == c) ≡ same → (same || is_listed xs c) ≡ true →
        (is_listed xs c ≡ true → is_listed (filter p xs) c ≡ true) → is_listed (filter p (x ∷ xs)) c ≡ true
    by true same is later =
        let here : p x ≡ true = subst (λ k. p k ≡ true) (sym (eqb-true x c same)) passes in
        subst (λ b. is_listed (cond b (x ∷ filter p xs) (filter p xs)) c ≡ true) (sym here)
        (or_left (x == c) _ same)
    by false same is later = behind (later is) (p x)

-- The inside of a compartment.

inside_alike : (comps others : List CompPart) (c : ℕ) → c < length comps →
    slice_get comps c ≡ slice_get others c → is_same_inside_at comps others c ≡ true
inside_alike comps others c within same =
    let comp = is_there comps c within in
    let other : slice_get others c ≡ Some comp.0 = sym same ∙ comp.1 in
    ap (λ found. option_map_or (λ a. option_map_or (is_same_inside a) (slice_get others c) false) found false) comp.1 ∙
    ap (λ found. option_map_or (is_same_inside comp.0) found false) other ∙ same_inside comp.0

found_alike : (comp other : Option CompPart) → option_map seen_of comp ≡ option_map seen_of other →
    option_map_or (λ a. option_map_or (is_same_inside a) other false) comp false ≡ true → comp ≡ other
found_alike None other seen is = absurd cc
found_alike (Some a) None seen is = absurd cc
found_alike (Some a) (Some b) seen is =
    let whole : Some (seen_of a) ≡ Some (seen_of b) = seen in
    let one : seen_of a ≡ seen_of b = cc in
    ap Some (comp_is_one a b one is)

alike_inside : (comps others : List CompPart) (c : ℕ) → map seen_of comps ≡ map seen_of others →
    is_same_inside_at comps others c ≡ true → slice_get comps c ≡ slice_get others c
alike_inside comps others c seen is = found_alike (slice_get comps c) (slice_get others c)
    (sym (slice_get-map seen_of comps c) ∙ ap (λ xs. slice_get xs c) seen ∙ slice_get-map seen_of others c) is

-- The whole image.

own_start : (own image : ImageParts) (c : ℕ) → (not (c == own.main) || image.entry == own.entry) ≡ true →
    c ≡ own.main → image.entry ≡ own.entry
own_start own image c is main = by (c == own.main) (eq-eqb c own.main main) is
  where
    by : (b : Bool) → b ≡ true → (not b || image.entry == own.entry) ≡ true → image.entry ≡ own.entry
    by true same is = eqb-true image.entry own.entry is
    by false same is = absurd cc

starts_there : (own image : ImageParts) (c : ℕ) → (c ≡ own.main → image.entry ≡ own.entry) →
    (not (c == own.main) || image.entry == own.entry) ≡ true
starts_there own image c same = by (c == own.main) refl
  where
    by : (b : Bool) → (c == own.main) ≡ b → (not b || image.entry == own.entry) ≡ true
    by true main = eq-eqb image.entry own.entry (same (eqb-true c own.main main))
    by false main = refl

-- an image but for a set is seen as the own one, and what isn't in the set is kept
module _ (own image : ImageParts) (set : ℕ → Bool) (but : IsButFor set own image) where
  pub is_alike : is_seen_alike own image ≡ true
  is_alike = and_from (image.main == own.main) _ (eq-eqb image.main own.main but.main)
      (lists_seen is_same_outside seen_of alike_if_seen image.comps own.comps but.seen)

  same_length : length image.comps ≡ length own.comps
  same_length = sym (length-map image.comps seen_of) ∙ ap length but.seen ∙ length-map own.comps seen_of

  kept_outside : (c : ℕ) → c < length own.comps → set c ≡ false → is_kept own image c ≡ true
  kept_outside c within out =
      and_from (is_same_inside_at image.comps own.comps c) _
      (inside_alike image.comps own.comps c (omega (arith, same_length)) (but.kept c out))
      (starts_there own image c (λ main. but.entry (subst (λ k. set k ≡ false) main out)))

pub none_but : (own image : ImageParts) → is_seen_alike own image ≡ false → (set : ℕ → Bool) →
    IsButFor set own image → ⊥
none_but own image differ set but = let never : true ≡ false = sym (is_alike own image set but) ∙ differ in cc never

module _ (own image : ImageParts) (own_formed : IsWellFormed own) (formed : IsWellFormed image)
    (alike : is_seen_alike own image ≡ true) where
  parts_alike : ((image.main == own.main) ≡ true) × (pointwise is_same_outside image.comps own.comps ≡ true)
  parts_alike = and_parts (image.main == own.main) _ alike

  seen_same : map seen_of image.comps ≡ map seen_of own.comps
  seen_same = seen_lists is_same_outside seen_of seen_alike image.comps own.comps parts_alike.1

  long_same : length image.comps ≡ length own.comps
  long_same = sym (length-map image.comps seen_of) ∙ ap length seen_same ∙ length-map own.comps seen_of

  -- what isn't listed is kept
  kept_unless : (c : ℕ) → c < length own.comps → is_listed (differing own image) c ≡ false →
      is_kept own image c ≡ true
  kept_unless c within out = by (is_kept own image c) refl
    where
      by : (b : Bool) → is_kept own image c ≡ b → b ≡ true
      by true is = refl
      by false is =
          let listed = passing_is_kept (λ k. not (is_kept own image k)) (range_with_len 0 (length own.comps)) c
          (ap not is) (in_range 0 (length own.comps) c (omega arith) (omega arith)) in
          let never : true ≡ false = sym listed ∙ out in
          absurd cc

  same_unless : (c : ℕ) → is_listed (differing own image) c ≡ false → slice_get image.comps c ≡ slice_get own.comps c
  same_unless c out =
      elim (cases_lt c (length own.comps)) [
        | inl lt ↦ alike_inside image.comps own.comps c seen_same
            (and_parts (is_same_inside_at image.comps own.comps c) _ (kept_unless c lt out)).0
        | inr le ↦ slice_get_past image.comps c (omega (arith, long_same)) ∙ sym (slice_get_past own.comps c le)
      ]

  listed_there : All (λ c. c < length own.comps) (differing own image)
  listed_there = All-filter (λ c. not (is_kept own image c)) (λ c. c < length own.comps)
      (range_with_len 0 (length own.comps)) (range_within (length own.comps))

  -- what is listed is not kept, and so in every set
  in_each : (set : ℕ → Bool) → IsButFor set own image → (c : ℕ) → is_listed (differing own image) c ≡ true →
      set c ≡ true
  in_each set but c listed = by (set c) refl
    where
      by : (b : Bool) → set c ≡ b → b ≡ true
      by true is = refl
      by false is =
          let differs = kept_passes (λ k. not (is_kept own image k)) (range_with_len 0 (length own.comps)) c listed in
          let there = listed_holds (λ k. k < length own.comps) (differing own image) c listed_there listed in
          let kept = kept_outside own image set but c there is in
          let never : false ≡ true = sym (ap not kept) ∙ differs in
          absurd cc

  pub are_given : AreGiven own image (differing own image)
  are_given = record {
    but_for = record {
      formed = formed;
      main = eqb-true image.main own.main parts_alike.0;
      entry = λ out. own_start own image own.main
          (and_parts (is_same_inside_at image.comps own.comps own.main) _ (kept_unless own.main own_formed.main out)).1
          refl;
      seen = seen_same;
      kept = same_unless;
    };
    ordered = AllPairs-filter (λ c later. c < later) (λ c. not (is_kept own image c)) _
        (range_rises (length own.comps));
    there = listed_there;
    least = in_each;
  }
