-- The words that a frame keeps for itself, and its objects: they lie inside it, and no two meet.
use Rattle.sc_emit_relation.proofs.Common.{AllPairs, Apart, FrameFits, FrameTree, List, Place, Range, Some, [], all_at}
use Rattle.sc_emit_relation.proofs.Common.{ap, ap₂, arith, cases_order, end_of, get_or_from_slice_get, inl, inr}
use Rattle.sc_emit_relation.proofs.Common.{is_there, length, length-map, map, object_range, own_words, ranges_of}
use Rattle.sc_emit_relation.proofs.Common.{same_Some, slice_get, slice_get_within, subst₂, suc, zero, zip, ℕ, ⊎_elim}
use Rattle.sc_emit_relation.proofs.Common.{◌*◌, ◌++◌, ◌+◌, ◌<◌, ◌∙◌, ◌∷◌, ◌≡◌, ◌≢◌, ◌≤◌, ◌⊎◌}
use Rattle.sc_tac.specs.Prelude.{Apart as RangesApart, word_at}

pair_at : {X : Type 0} (R : X → X → Type 0) (xs : List X) (i j : ℕ) (x y : X) → AllPairs R xs → i < j →
    slice_get xs i ≡ Some x → slice_get xs j ≡ Some y → R x y
pair_at R xs i j x y all l e f =
    subst₂ R (get_or_from_slice_get xs i x x e) (get_or_from_slice_get xs j y x f)
    (all i j x l (slice_get_within xs j y f))

range_at : (offsets : List ℕ) (more : List Range) (i offset : ℕ) → slice_get offsets i ≡ Some offset →
    slice_get (map word_at offsets ++ more) i ≡ Some (word_at offset)
range_at [] more i offset e = cc e
range_at (x ∷ xs) more zero offset e = ap (λ o. Some (word_at o)) (same_Some x offset e)
range_at (x ∷ xs) more (suc i) offset e = range_at xs more i offset e

-- an element of the second of two lists in a row
pub get_back : {A : Type 0} (xs ys : List A) (i : ℕ) → slice_get (xs ++ ys) (length xs + i) ≡ slice_get ys i
get_back [] ys i = let e : 0 + i ≡ i = omega arith in ap (slice_get ys) e
get_back (x ∷ xs) ys i =
    let e : suc (length xs) + i ≡ suc (length xs + i) = omega arith in
    ap (slice_get (x ∷ (xs ++ ys))) e ∙ get_back xs ys i

object_in : (offsets cells : List ℕ) (o offset n : ℕ) → slice_get offsets o ≡ Some offset → slice_get cells o ≡ Some n →
    slice_get (map object_range (zip offsets cells)) o ≡ Some (record { offset = offset; bytes = 4 * n })
object_in [] cells o offset n e f = cc e
object_in (x ∷ xs) [] o offset n e f = cc f
object_in (x ∷ xs) (y ∷ ys) zero offset n e f =
    ap₂ (λ x y. Some (record { offset = x; bytes = 4 * y })) (same_Some x offset e) (same_Some y n f)
object_in (x ∷ xs) (y ∷ ys) (suc o) offset n e f = object_in xs ys o offset n e f

module _ (cells : List ℕ) (places : List Place) (nodes : ℕ) (frame : FrameTree)
    (frame_fits : FrameFits cells places nodes frame) where
  own_at : (i offset : ℕ) → slice_get (own_words frame) i ≡ Some offset →
      slice_get (ranges_of cells frame) i ≡ Some (word_at offset)
  own_at i offset e = range_at (own_words frame) _ i offset e

  pub own_inside : (i offset : ℕ) → slice_get (own_words frame) i ≡ Some offset → offset + 4 ≤ frame.bytes
  own_inside i offset e =
      all_at (λ range. end_of range ≤ frame.bytes) (ranges_of cells frame) i (word_at offset) frame_fits.inside
      (own_at i offset e)

  in_order : (i j o u : ℕ) → i < j → slice_get (own_words frame) i ≡ Some o → slice_get (own_words frame) j ≡ Some u →
      Apart o u
  in_order i j o u l e f =
      pair_at RangesApart (ranges_of cells frame) i j (word_at o) (word_at u) frame_fits.apart l (own_at i o e)
      (own_at j u f)

  pub own_apart : (i j o u : ℕ) → i ≢ j → slice_get (own_words frame) i ≡ Some o →
      slice_get (own_words frame) j ≡ Some u → Apart o u
  own_apart i j o u n e f =
      ⊎_elim (λ same. absurd (n same))
      (λ w. ⊎_elim (λ l. in_order i j o u l e f)
      (λ l. ⊎_elim (λ x. inr x) (λ x. inl x) (in_order j i u o l f e)) w) (cases_order i j)

  -- Objects of these sizes in cells.

  abbrev following : ℕ
  following = length (map word_at (own_words frame))

  object_at : (o offset n : ℕ) → slice_get frame.objects o ≡ Some offset → slice_get cells o ≡ Some n →
      slice_get (ranges_of cells frame) (following + o) ≡ Some (record { offset = offset; bytes = 4 * n })
  object_at o offset n e f = get_back (map word_at (own_words frame)) _ o ∙ object_in frame.objects cells o offset n e f

  pub object_there : (o n : ℕ) → slice_get cells o ≡ Some n → (offset : ℕ) × (slice_get frame.objects o ≡ Some offset)
  object_there o n e = is_there frame.objects o (omega (arith, slice_get_within cells o n e, frame_fits.objects))

  pub object_inside : (o offset n : ℕ) → slice_get frame.objects o ≡ Some offset → slice_get cells o ≡ Some n →
      offset + 4 * n ≤ frame.bytes
  object_inside o offset n e f =
      all_at (λ range. end_of range ≤ frame.bytes) (ranges_of cells frame) (following + o) _ frame_fits.inside
      (object_at o offset n e f)

  objects_in_order : (o p a b n k : ℕ) → o < p → slice_get frame.objects o ≡ Some a → slice_get cells o ≡ Some n →
      slice_get frame.objects p ≡ Some b → slice_get cells p ≡ Some k → (a + 4 * n ≤ b) ⊎ (b + 4 * k ≤ a)
  objects_in_order o p a b n k l e f g h =
      pair_at RangesApart (ranges_of cells frame) (following + o) (following + p) _ _ frame_fits.apart (omega arith)
      (object_at o a n e f) (object_at p b k g h)

  pub objects_apart : (o p a b n k : ℕ) → o ≢ p → slice_get frame.objects o ≡ Some a → slice_get cells o ≡ Some n →
      slice_get frame.objects p ≡ Some b → slice_get cells p ≡ Some k → (a + 4 * n ≤ b) ⊎ (b + 4 * k ≤ a)
  objects_apart o p a b n k d e f g h =
      ⊎_elim (λ same. absurd (d same))
      (λ w. ⊎_elim (λ l. objects_in_order o p a b n k l e f g h)
      (λ l. ⊎_elim (λ x. inr x) (λ x. inl x) (objects_in_order p o b a k n l g h e f)) w) (cases_order o p)

  -- an own word meets no object
  pub own_beside : (i u o offset n : ℕ) → slice_get (own_words frame) i ≡ Some u →
      slice_get frame.objects o ≡ Some offset → slice_get cells o ≡ Some n → (u + 4 ≤ offset) ⊎ (offset + 4 * n ≤ u)
  own_beside i u o offset n e f g =
      let within : i < length (own_words frame) = slice_get_within (own_words frame) i u e in
      let long : length (map word_at (own_words frame)) ≡ length (own_words frame) =
      length-map (own_words frame) word_at in
      pair_at RangesApart (ranges_of cells frame) i (following + o) (word_at u) _ frame_fits.apart (omega arith)
      (own_at i u e)
      (object_at o offset n f g)
