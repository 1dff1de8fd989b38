-- Where the bytes of the parts stand, what a write or a copy makes of them, and accesses byte by byte.
use Rattle.sc_store.proofs.Common.{All, AreApart, Bool, HasBytes, HoldsBytes, IsIn, IsSome, IsZero, List, ByteMemory}
use Rattle.sc_store.proofs.Common.{None}
use Rattle.sc_store.proofs.Common.{Option, Region, Some, [], ap, arith, byte_of, bytes_of, cases_eq, cases_lt, cond}
use Rattle.sc_store.proofs.Common.{drop, fails_before_first, false, get_or, get_or-append_right, get_or-drop}
use Rattle.sc_store.proofs.Common.{get_or-set_same, get_or-take, get_or_append_left, is_some, length, length-append}
use Rattle.sc_store.proofs.Common.{length-drop, length-set, length-take-le, lt-ltb, nat_le, nat_lt, nat_tests}
use Rattle.sc_store.proofs.Common.{option_or, piece_of, position, position_or_len, put_mid, refl, region_of, regions_of}
use Rattle.sc_store.proofs.Common.{same_Some, set, spans, with_bytes, subst, suc, sym, take, take_at, true, written}
use Rattle.sc_store.proofs.Common.{zero}
use Rattle.sc_store.proofs.Common.{zeros, ℕ, ⊎_elim, ◌&&◌, ◌++◌, ◌+◌, ◌-◌, ◌<◌, ◌↔◌, ◌∙◌, ◌∷◌, ◌≡◌, ◌≤◌}
use Rattle.std.proofs.lemmas.List.Quantifiers.{position-Some}
use Rattle.std.proofs.Math.Seq.{map-set_same}
use Rattle.sc_store.specs.declared.part.Part.{Part}
use Rattle.sc_store.proofs.Words.{by_access, head_apart, in_cases, in_false, in_true, tail_apart, stored-in}
use Rattle.sc_store.proofs.Words.{stored-apart}
use Rattle.sc_base.proofs.Bools.{some_value}
use Rattle.std.specs.Int.{w32, to_le_bytes}

-- ---- a part that has the addresses of an access
spans_in : (a n b : ℕ) (p : Part) → spans a n p ≡ true → a ≤ b → b < a + n → IsIn (region_of p) b
spans_in a n b p h low high = grind (arith, nat_tests)

pub spans_low : (a n : ℕ) (p : Part) → spans a n p ≡ true → p.start ≤ a
spans_low a n p h = grind (arith, nat_tests)

pub spans_high : (a n : ℕ) (p : Part) → spans a n p ≡ true → a + n ≤ p.start + length p.bytes.items
spans_high a n p h = grind (arith, nat_tests)

in_spans : (a : ℕ) (p : Part) → IsIn (region_of p) a → spans a 1 p ≡ true
in_spans a p h = grind (arith, nat_tests)

-- ---- the bytes of one part
pub piece_in : (p : Part) (a : ℕ) → IsIn (region_of p) a → piece_of p a ≡ Some (get_or p.bytes.items (a - p.start) 0)
piece_in p a h = rw (in_true _ a h) refl

pub piece_out : (p : Part) (a : ℕ) → (IsIn (region_of p) a → ⊥) → piece_of p a ≡ None
piece_out p a h = rw (in_false _ a h) refl

-- ---- the bytes of all parts
pub bytes_of-at : (ps : List Part) (i : ℕ) (d : Part) (a : ℕ) → AreApart (regions_of ps) → i < length ps →
    IsIn (region_of (get_or ps i d)) a → bytes_of ps a ≡ piece_of (get_or ps i d) a
bytes_of-at [] i d a apart h inside = absurd (omega arith)
bytes_of-at (p ∷ ps) zero d a apart h inside =
    ap (λ o. option_or o (bytes_of ps a)) (piece_in p a inside) ∙ sym (piece_in p a inside)
bytes_of-at (p ∷ ps) (suc i) d a apart h inside =
    ap (λ o. option_or o (bytes_of ps a)) (piece_out p a (head_apart region_of p ps i d a apart (omega arith) inside))
    ∙ bytes_of-at ps i d a (tail_apart (region_of p) _ apart) (omega arith) inside

-- where there is a byte, there is a part with its address
somewhere : (ps : List Part) (d : Part) (a : ℕ) → IsSome (bytes_of ps a) →
    (i : ℕ) × (i < length ps) × IsIn (region_of (get_or ps i d)) a
somewhere [] d a some = absurd (cc)
somewhere (p ∷ ps) d a some = ⊎_elim (λ inside. (0, omega arith, inside)) (λ out.
    let w = somewhere ps d a (subst (λ o. is_some (option_or o (bytes_of ps a)) ≡ true) (piece_out p a out) some) in
    (suc w.0, omega arith, w.2)) (in_cases (region_of p) a)

-- what passes at a place is found
passes : {X : Type 0} (test : X → Bool) (xs : List X) (i : ℕ) (d : X) → i < length xs → test (get_or xs i d) ≡ true →
    IsSome (position test xs)
passes test xs i d h t = ⊎_elim (λ below. rw (lt-ltb (position_or_len test xs) (length xs) below) refl)
    (λ above. absurd (let f = fails_before_first test xs i d (omega arith) in cc)) (cases_lt _ _)

pub found : (ps : List Part) (a : ℕ) → IsSome (bytes_of ps a) → IsSome (position (spans a 1) ps)
found [] a some = absurd (cc)
found (p ∷ ps) a some =
    let w = somewhere (p ∷ ps) p a some in
    passes (spans a 1) (p ∷ ps) w.0 p w.1 (in_spans a (get_or (p ∷ ps) w.0 p) w.2)

-- parts with one address are the same
same_place : (ps : List Part) (i j : ℕ) (d : Part) (a : ℕ) → AreApart (regions_of ps) → i < length ps →
    j < length ps → IsIn (region_of (get_or ps i d)) a → IsIn (region_of (get_or ps j d)) a → i ≡ j
same_place [] i j d a apart h k one other = absurd (omega arith)
same_place (p ∷ ps) zero zero d a apart h k one other = refl
same_place (p ∷ ps) zero (suc j) d a apart h k one other =
    absurd (head_apart region_of p ps j d a apart (omega arith) other one)
same_place (p ∷ ps) (suc i) zero d a apart h k one other =
    absurd (head_apart region_of p ps i d a apart (omega arith) one other)
same_place (p ∷ ps) (suc i) (suc j) d a apart h k one other =
    ap suc (same_place ps i j d a (tail_apart (region_of p) _ apart) (omega arith) (omega arith) one other)

-- the part that has all the addresses of an access is the one that a search finds
pub first_spans : (a n : ℕ) (ps : List Part) (i : ℕ) (d : Part) → 0 < n → AreApart (regions_of ps) → i < length ps →
    spans a n (get_or ps i d) ≡ true → position (spans a n) ps ≡ Some i
first_spans a n ps i d some apart h sp =
    let f = some_value _ (passes _ ps i d h sp) in
    let w = position-Some _ ps f.0 d f.1 in
    f.1 ∙ ap Some (same_place ps f.0 i d a apart w.0 h
    (spans_in a n a (get_or ps f.0 d) w.1 (omega arith) (omega arith))
    (spans_in a n a (get_or ps i d) sp (omega arith) (omega arith)))

-- ---- a write
pub written-in : (m : ByteMemory) (a : ℕ) (bs : List ℕ) (b : ℕ) → a ≤ b → b < a + length bs →
    written m a bs b ≡ Some (get_or bs (b - a) 0)
written-in m a bs b h k = let t : (nat_le a b && nat_lt b (a + length bs)) ≡ true = grind (arith, nat_tests) in
    rw t refl

pub written-apart : (m : ByteMemory) (a : ℕ) (bs : List ℕ) (b : ℕ) → (a ≤ b → b < a + length bs → ⊥) →
    written m a bs b ≡ m b
written-apart m a bs b h = let t : (nat_le a b && nat_lt b (a + length bs)) ≡ false = grind (arith, nat_tests) in
    rw t refl

written-same : (m m' : ByteMemory) (a : ℕ) (bs : List ℕ) (b : ℕ) → m b ≡ m' b → written m a bs b ≡ written m' a bs b
written-same m m' a bs b e = ap (λ o. cond (nat_le a b && nat_lt b (a + length bs)) (Some (get_or bs (b - a) 0)) o) e

-- a part put in place of one with the same region changes nothing outside that
elsewhere : (ps : List Part) (i : ℕ) (p d : Part) (b : ℕ) → region_of p ≡ region_of (get_or ps i d) → i < length ps →
    (IsIn (region_of (get_or ps i d)) b → ⊥) → bytes_of (set ps i p) b ≡ bytes_of ps b
elsewhere [] i p d b e h out = absurd (omega arith)
elsewhere (q ∷ ps) zero p d b e h out = ap (λ o. option_or o (bytes_of ps b))
    (piece_out p b (subst (λ r. IsIn r b → ⊥) (sym e) out) ∙ sym (piece_out q b out))
elsewhere (q ∷ ps) (suc i) p d b e h out = ap (λ o. option_or (piece_of q b) o)
    (elsewhere ps i p d b e (omega arith) out)

pub regions_of-set : (ps : List Part) (i : ℕ) (p d : Part) → region_of p ≡ region_of (get_or ps i d) →
    regions_of (set ps i p) ≡ regions_of ps
regions_of-set ps i p d e = map-set_same _ ps i p d e

-- a write to the part that has all of its addresses is the same write to all parts
write_at : (ps : List Part) (i : ℕ) (p d : Part) (a : ℕ) (bs : List ℕ) → AreApart (regions_of ps) → i < length ps →
    region_of p ≡ region_of (get_or ps i d) → spans a (length bs) (get_or ps i d) ≡ true →
    piece_of p ≡ written (piece_of (get_or ps i d)) a bs → (b : ℕ) →
    bytes_of (set ps i p) b ≡ written (bytes_of ps) a bs b
write_at ps i p d a bs apart h e sp w b = ⊎_elim (λ inside.
    let same = get_or-set_same ps i p d h in
    bytes_of-at _ i d b (subst AreApart (sym (regions_of-set ps i p d e)) apart) (omega (arith, length-set ps i p))
    (subst (λ r. IsIn r b) (sym e ∙ sym (ap region_of same)) inside) ∙ ap (λ q. piece_of q b) same ∙ ap (λ m. m b) w
    ∙ written-same (piece_of (get_or ps i d)) (bytes_of ps) a bs b (sym (bytes_of-at ps i d b apart h inside))) (λ out.
    elsewhere ps i p d b e h out ∙ sym (written-apart (bytes_of ps) a bs b (λ low high.
    out (spans_in a _ b (get_or ps i d) sp low high)))) (in_cases _ b)

pub bytes_of-set : (ps : List Part) (i : ℕ) (p d : Part) (a : ℕ) (bs : List ℕ) → AreApart (regions_of ps) →
    i < length ps → region_of p ≡ region_of (get_or ps i d) → spans a (length bs) (get_or ps i d) ≡ true →
    piece_of p ≡ written (piece_of (get_or ps i d)) a bs → bytes_of (set ps i p) ≡ written (bytes_of ps) a bs
bytes_of-set ps i p d a bs apart h e sp w = λ k b. write_at ps i p d a bs apart h e sp w b k

-- bytes written where memory is leave bytes of memory
pub written_holds : (m : ByteMemory) (a : ℕ) (bs : List ℕ) → HasBytes m a (length bs) → ((k : ℕ) → get_or bs k 0 < 256)
    →
    HoldsBytes m → HoldsBytes (written m a bs)
written_holds m a bs has fit holds = λ b x e. by_access a (length bs) b
    (λ out. holds b x (sym (written-apart m a bs b out) ∙ e)) (λ from below.
    let y = some_value (m b) (subst (λ c. IsSome (m c)) (omega arith) (has (b - a) (omega arith))) in
    let is = same_Some _ _ (sym (written-in m a bs b from below) ∙ e) in
    ((holds b y.0 y.1).0, subst (λ z. z < 256) is (fit (b - a))))

-- ---- parts of zeros
zeros_at : (ps : List Part) → All IsZero ps → (b : ℕ) → bytes_of ps b ≡ zeros (regions_of ps) b
zeros_at [] all b = refl
zeros_at (p ∷ ps) all b = ⊎_elim (λ inside. ap (λ o. option_or o (bytes_of ps b)) (piece_in p b inside)
    ∙ ap Some (all 0 p (omega arith) _)
    ∙ sym (ap (λ t. cond t (Some 0) (zeros (regions_of ps) b)) (in_true _ b inside))) (λ out.
    ap (λ o. option_or o (bytes_of ps b)) (piece_out p b out) ∙ zeros_at ps (λ k d h. all (suc k) d (omega arith)) b
    ∙ sym (ap (λ t. cond t (Some 0) (zeros (regions_of ps) b)) (in_false _ b out))) (in_cases _ b)

pub zeros_of : (ps : List Part) (rs : List Region) → All IsZero ps → regions_of ps ≡ rs → bytes_of ps ≡ zeros rs
zeros_of ps rs all e = subst (λ r. bytes_of ps ≡ zeros r) e (λ k b. zeros_at ps all b k)

-- ---- the part that a search found
-- the part at the place that passes is the one that was read there
found_part : (a n : ℕ) (ps : List Part) (i : ℕ) (x : Part) → position (spans a n) ps ≡ Some i → x ≡ get_or ps i x →
    (i < length ps) × (spans a n x ≡ true)
found_part a n ps i x at is =
    let at_place = position-Some _ ps i x at in
    (at_place.0, subst (λ q. spans a n q ≡ true) (sym is) at_place.1)

-- the found part passes
pub found_spans : (a n : ℕ) (ps : List Part) (o : Option ℕ) (i : ℕ) (x : Part) → o ≡ position (spans a n) ps →
    o ≡ Some i → x ≡ get_or ps i x → spans a n x ≡ true
found_spans a n ps o i x e at is = (found_part a n ps i x (sym e ∙ at) is).1

-- its bytes are those of all parts
pub found_bytes : (a n : ℕ) (ps : List Part) (o : Option ℕ) (i : ℕ) (x : Part) → AreApart (regions_of ps) →
    o ≡ position (spans a n) ps → o ≡ Some i → x ≡ get_or ps i x → (b : ℕ) → a ≤ b → b < a + n →
    bytes_of ps b ≡ piece_of x b
found_bytes a n ps o i x apart e at is b low high =
    let f = found_part a n ps i x (sym e ∙ at) is in
    bytes_of-at ps i x b apart f.0 (subst (λ q. IsIn (region_of q) b) is (spans_in a n b x f.1 low high))
    ∙ ap (λ q. piece_of q b) (sym is)

pub ruleset finding = (found, found_spans, found_bytes)

-- a write to it is a write to all parts
pub found_written : (a : ℕ) (bs : List ℕ) (ps : List Part) (o : Option ℕ) (i : ℕ) (x y : Part) →
    AreApart (regions_of ps) → o ≡ position (spans a (length bs)) ps → o ≡ Some i → x ≡ get_or ps i x →
    region_of y ≡ region_of x → piece_of y ≡ written (piece_of x) a bs →
    bytes_of (set ps i y) ≡ written (bytes_of ps) a bs
found_written a bs ps o i x y apart e at is same w =
    let f = found_part a (length bs) ps i x (sym e ∙ at) is in
    bytes_of-set ps i y x a bs apart f.0 (same ∙ ap region_of is) (subst (λ q. spans a (length bs) q ≡ true) is f.1)
    (w ∙ ap (λ q. written (piece_of q) a bs) is)

-- and it leaves the regions as they are
pub found_regions : (a n : ℕ) (ps : List Part) (i : ℕ) (x y : Part) → x ≡ get_or ps i x → region_of y ≡ region_of x →
    AreApart (regions_of ps) → AreApart (regions_of (set ps i y))
found_regions a n ps i x y is same apart = subst AreApart (sym (regions_of-set ps i y x (same ∙ ap region_of is))) apart

-- an address has a byte exactly where a part with it is found
pub has_found : (ps : List Part) (a : ℕ) → AreApart (regions_of ps) →
    IsSome (position (spans a 1) ps) ↔ IsSome (bytes_of ps a)
has_found ps a apart = (λ some. by_place ps apart some, λ some. found ps a some)
  where
    by_place : (ps : List Part) → AreApart (regions_of ps) → IsSome (position (spans a 1) ps) → IsSome (bytes_of ps a)
    by_place [] apart some = absurd (cc)
    by_place (p ∷ ps) apart some =
        let i = some_value (position (spans a 1) (p ∷ ps)) some in
        let w = position-Some (spans a 1) (p ∷ ps) i.0 p i.1 in
        let inside = spans_in a 1 a (get_or (p ∷ ps) i.0 p) w.1 (omega arith) (omega arith) in
        ap is_some (bytes_of-at (p ∷ ps) i.0 p a apart w.0 inside ∙ piece_in (get_or (p ∷ ps) i.0 p) a inside)

pub one_there : (m : ByteMemory) (a : ℕ) → IsSome (m a) → HasBytes m a 1
one_there m a h = λ k l. subst (λ b. IsSome (m b)) (let e : a ≡ a + k = omega arith in e) h

one_fits : (x : ℕ) → x < 256 → (k : ℕ) → get_or (x ∷ []) k 0 < 256
one_fits x h zero = h
one_fits x h (suc k) = omega arith

pub byte_holds : (m : ByteMemory) (a x : ℕ) → IsSome (m a) → x < 256 → HoldsBytes m → HoldsBytes (written m a (x ∷ []))
byte_holds m a x some h holds = written_holds m a (x ∷ []) (one_there m a some) (one_fits x h) holds

-- What a copy into the bytes of a part makes of its memory.

length-put_mid : (o k : ℕ) (xs ys : List ℕ) → o + k ≤ length xs → length ys ≡ k → length (put_mid o k xs ys) ≡ length xs
length-put_mid o k xs ys h e =
    omega (
      arith,
      length-append (take o xs) (ys ++ drop k (drop o xs)),
      length-append ys (drop k (drop o xs)),
      length-take-le o xs (omega arith),
      length-drop k (drop o xs),
      length-drop o xs,
    )

pub before : (o k j : ℕ) (xs ys : List ℕ) → o + k ≤ length xs → j < o → get_or (put_mid o k xs ys) j 0 ≡ get_or xs j 0
before o k j xs ys h l =
    let n = length-take-le o xs (omega arith) in
    get_or_append_left _ (ys ++ drop k _) 0 j (omega arith) ∙ get_or-take o xs j 0 l

pub within : (o k j : ℕ) (xs ys : List ℕ) → o + k ≤ length xs → length ys ≡ k → o ≤ j → j < o + k →
    get_or (put_mid o k xs ys) j 0 ≡ get_or ys (j - o) 0
within o k j xs ys h e low high =
    get_or-append_right _ _ o j 0 (length-take-le o xs (omega arith)) low ∙ get_or_append_left ys _ 0 _ (omega arith)

pub after : (o k j : ℕ) (xs ys : List ℕ) → o + k ≤ length xs → length ys ≡ k → o + k ≤ j →
    get_or (put_mid o k xs ys) j 0 ≡ get_or xs j 0
after o k j xs ys h e high = get_or-append_right _ _ o j 0 (length-take-le o xs (omega arith)) (omega arith)
    ∙ get_or-append_right ys _ k _ 0 e (omega arith) ∙ get_or-drop k _ _ 0 ∙ get_or-drop o xs _ 0
    ∙ ap (λ i. get_or xs i 0) (let i : o + (k + (j - o - k)) ≡ j = omega arith in i)

-- at one address
copied : (s a : ℕ) (xs bs : List ℕ) → s ≤ a → a + length bs ≤ s + length xs → (b : ℕ) →
    written (λ _. None) s (put_mid (a - s) (length bs) xs bs) b ≡ written (written (λ _. None) s xs) a bs b
copied s a xs bs low high b =
    let n : length (put_mid _ _ xs bs) ≡ length xs = length-put_mid (a - s) _ xs bs (omega arith) refl in
    let new = put_mid (a - s) (length bs) xs bs in
    let off : ByteMemory = λ _. None in
    let kept : (a ≤ b → b < a + length bs → ⊥) → written (written off s xs) a bs b ≡ written off s xs b =
    written-apart (written off s xs) a bs b in
    by_access s (length xs) b (λ out. written-apart off s new b (λ l u. out l (omega arith)) ∙
    sym (kept (λ l u. out (omega arith) (omega arith)) ∙ written-apart off s xs b out)) (λ from inside.
    written-in off s new b from (omega arith) ∙ ⊎_elim
    (λ prefix. ap Some (before (a - s) _ (b - s) xs bs (omega arith) (omega arith)) ∙
    sym (kept (λ l u. omega arith) ∙ written-in off s xs b from inside))
    (λ later. ⊎_elim (λ here. ap Some (within _ _ _ xs bs (omega arith) refl (omega arith) (omega arith) ∙
    ap (λ i. get_or bs i 0) (let i : b - s - (a - s) ≡ b - a = omega arith in i)) ∙
    sym (written-in (written off s xs) a bs b later here))
    (λ past. ap Some (after _ _ _ xs bs (omega arith) refl (omega arith)) ∙
    sym (kept (λ l u. omega arith) ∙ written-in off s xs b from inside)) (cases_lt b _)) (cases_lt b a))

-- the vector's elements after the copy, as the check writes them
pub copied_piece : (s a len k : ℕ) (xs held ys bs : List ℕ) → len ≡ length xs → held ≡ xs → ys ≡ bs → k ≡ length bs →
    s ≤ a → a + length bs ≤ s + length xs → written (λ _. None) s
    (take len (put_mid (a - s) k held ys ++ drop (length (put_mid (a - s) k held ys)) xs)) ≡
    written (written (λ _. None) s xs) a bs
copied_piece s a len k xs held ys bs n same e count low high = ap
    (λ h. written (λ _. None) s (take len (put_mid (a - s) k h ys ++ drop (length (put_mid (a - s) k h ys)) xs))) same ∙
    ap (λ z. written (λ _. None) s (take len (put_mid (a - s) k xs z ++ drop (length (put_mid (a - s) k xs z)) xs))) e ∙
    ap (λ z. written (λ _. None) s (take len (put_mid (a - s) z xs bs ++ drop (length (put_mid (a - s) z xs bs)) xs)))
    count ∙ ap (λ z. written (λ _. None) s z) (take_at _ _ len (length-put_mid _ _ xs bs (omega arith) refl ∙ sym n)) ∙
    (λ i b. copied s a xs bs low high b i)

-- Accesses byte by byte, and the numbers that their bytes make.

-- ---- one byte after another
nothing_at : (m : ByteMemory) (a b : ℕ) → written m a [] b ≡ m b
nothing_at m a b = written-apart m a [] b (λ l u. omega arith)

pub written_nothing : (m : ByteMemory) (a : ℕ) → written m a [] ≡ m
written_nothing m a = λ k b. nothing_at m a b k

more_at : (m : ByteMemory) (a : ℕ) (bs : List ℕ) (k : ℕ) → k < length bs → (b : ℕ) →
    written (written m a (take k bs)) (a + k) (get_or bs k 0 ∷ []) b ≡ written m a (take (k + 1) bs) b
more_at m a bs k h b =
    let prefix : length (take k bs) ≡ k = length-take-le k bs (omega arith) in
    let more : length (take (k + 1) bs) ≡ k + 1 = length-take-le (k + 1) bs (omega arith) in
    ⊎_elim (λ low. written-apart (written m a (take k bs)) (a + k) (get_or bs k 0 ∷ []) b (λ l u. omega arith) ∙ ⊎_elim
    (λ before. written-apart m a (take k bs) b (λ l u. omega arith) ∙
    sym (written-apart m a (take (k + 1) bs) b (λ l u. omega arith))) (λ from.
    written-in m a (take k bs) b from (omega arith)
    ∙ ap Some (get_or-take k bs (b - a) 0 (omega arith) ∙ sym (get_or-take (k + 1) bs (b - a) 0 (omega arith)))
    ∙ sym (written-in m a (take _ bs) b from (omega arith))) (cases_lt b a)) (λ high. ⊎_elim (λ here.
    written-in (written m a (take k bs)) (a + k) (get_or bs k 0 ∷ []) b (omega arith) (omega arith)
    ∙ ap (λ i. Some (get_or (get_or bs k 0 ∷ []) i 0)) (let z : b - (a + k) ≡ 0 = omega arith in z)
    ∙ ap Some (ap (λ i. get_or bs i 0) (let z : k ≡ b - a = omega arith in z) ∙
    sym (get_or-take (k + 1) bs (b - a) 0 (omega arith)))
    ∙ sym (written-in m a (take (k + 1) bs) b (omega arith) (omega arith))) (λ other.
    written-apart (written m a (take k bs)) (a + k) (get_or bs k 0 ∷ []) b (λ l u. omega arith)
    ∙ written-apart m a (take k bs) b (λ l u. omega arith)
    ∙ sym (written-apart m a (take (k + 1) bs) b (λ l u. omega arith))) (cases_eq b (a + k))) (cases_lt b (a + k))

pub written_more : (m : ByteMemory) (a : ℕ) (bs : List ℕ) (k : ℕ) → k < length bs →
    written (written m a (take k bs)) (a + k) (get_or bs k 0 ∷ []) ≡ written m a (take (k + 1) bs)
written_more m a bs k h = λ i b. more_at m a bs k h b i

-- the next byte's address is as it was
pub next_there : (m m' : ByteMemory) (a : ℕ) (bs : List ℕ) (k : ℕ) → m' ≡ written m a (take k bs) → k < length bs →
    HasBytes m a (length bs) → IsSome (m' (a + k))
next_there m m' a bs k e h has =
    let prefix = length-take-le k bs (omega arith) in
    subst (λ o. IsSome o) (sym (ap (λ f. f (a + k)) e ∙ written-apart m a (take k bs) (a + k) (λ l u. omega arith)))
    (has k h)

stored_at : (m : ByteMemory) (a : ℕ) (bs : List ℕ) (v : ℕ) → ((k : ℕ) → k < length bs → get_or bs k 0 ≡ byte_of v k) →
    (b : ℕ) → written m a bs b ≡ with_bytes m a (length bs) v b
stored_at m a bs v h b = by_access a (length bs) b
    (λ out. written-apart m a bs b out ∙ sym (stored-apart m a _ v b out))
    (λ from below. written-in m a bs b from below ∙ ap Some (h _ (omega arith)) ∙ sym (stored-in m a _ v b from below))

pub written-stored : (m : ByteMemory) (a : ℕ) (bs : List ℕ) (v : ℕ) →
    ((k : ℕ) → k < length bs → get_or bs k 0 ≡ byte_of v k) → written m a bs ≡ with_bytes m a (length bs) v
written-stored m a bs v h = λ i b. stored_at m a bs v h b i

-- the bytes of a number of 32 bits, one by one
byte_place : (v k : ℕ) → k < 4 → get_or (to_le_bytes w32 v) k 0 ≡ byte_of v k
byte_place v zero h = omega arith
byte_place v (suc zero) h = refl
byte_place v (suc (suc zero)) h = refl
byte_place v (suc (suc (suc zero))) h = refl
byte_place v (suc (suc (suc (suc k)))) h = absurd (omega arith)

pub first_stored : (m : ByteMemory) (a v n : ℕ) → n ≤ 4 → written m a (take n (to_le_bytes w32 v)) ≡ with_bytes m a n v
first_stored m a v n h =
    let len = length-take-le n (to_le_bytes w32 v) h in
    written-stored m a _ v (λ k l. get_or-take n _ k 0 (omega arith) ∙ byte_place v k (omega arith))
    ∙ ap (λ j. with_bytes m a j v) len

pub byte_stored : (m m' : ByteMemory) (a v : ℕ) (bs : List ℕ) → m' ≡ written m a (get_or bs 0 0 ∷ []) →
    bs ≡ to_le_bytes w32 v → m' ≡ with_bytes m a 1 v
byte_stored m m' a v bs w e = w ∙ ap (λ b. written m a (get_or b 0 0 ∷ [])) e ∙ first_stored m a v 1 (omega arith)

pub store_written : (m m' : ByteMemory) (a v n : ℕ) (bs : List ℕ) → n ≤ 4 → m' ≡ written m a (take n bs) →
    bs ≡ to_le_bytes w32 v → m' ≡ with_bytes m a n v
store_written m m' a v n bs h w e = w ∙ ap (λ b. written m a (take n b)) e ∙ first_stored m a v n h
