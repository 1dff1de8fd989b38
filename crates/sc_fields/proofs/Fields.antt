-- Fields: the first bytes, which a field's reader took, are the field as it is written, and what is written is read
-- again.
use Rattle.sc_fields.proofs.Common.{All, AllByRecursion, Bool, Err, List, Ok, Read, Result, [], ap, append_assoc, arith}
use Rattle.sc_fields.proofs.Common.{bytes_at, cases_lt, drop, drop_at, false, fields_at, flat_map, get_or, get_or-drop}
use Rattle.sc_fields.proofs.Common.{get_or-take, get_or_default, get_or_past, if_good, inl, inr, le-leb, le_bytes_2}
use Rattle.sc_fields.proofs.Common.{le_bytes_4, leb-true, length, length-append, length-take, little_bytes}
use Rattle.sc_fields.proofs.Common.{little_number, nat_le, number_at, refl, subst, suc, sym, take, take-append-drop}
use Rattle.sc_fields.proofs.Common.{take_at, true, zero, ℕ, ◌++◌, ◌<◌, ◌>>=◌, ◌^◌, ◌∙◌, ◌∷◌, ◌≡◌}
use Rattle.std.proofs.lemmas.List.Concat.{flat_map-cons}
use Rattle.byteorder.specs.Numbers.{little_number-reads_back, little_from-lt, little_from-take, length-bytes_low_first}

abbrev pub IsBytes : List ℕ → Type 0
IsBytes bytes = (i : ℕ) → get_or bytes i 0 < 256

-- the same of a list of bytes, place by place
pub bytes_fit : (bytes : List ℕ) → All (λ byte. byte < 2 ^ 8) bytes → IsBytes bytes
bytes_fit bytes all i =
    elim (cases_lt i _) [
      | inl lt ↦ all i 0 lt
      | inr le ↦ rw (get_or_past bytes i 0 le) (omega arith)
    ]

pub all_bytes : (bytes : List ℕ) → IsBytes bytes → All (λ byte. byte < 2 ^ 8) bytes
all_bytes bytes fits i d within = subst (λ b. b < 2 ^ 8) (get_or_default bytes i 0 d within) (fits i)

IsBytes-drop : (n : ℕ) (bytes : List ℕ) → IsBytes bytes → IsBytes (drop n bytes)
IsBytes-drop n bytes h i = rw get_or-drop (h _)

IsBytes-take : (n : ℕ) (bytes : List ℕ) → IsBytes bytes → IsBytes (take n bytes)
IsBytes-take n bytes h i =
    elim (cases_lt i n) [
      | inl lt ↦ rw (get_or-take n bytes i 0 lt) (h i)
      | inr le ↦ rw (get_or_past (take n bytes) i 0 (omega (arith, length-take n bytes))) (omega arith)
    ]

-- the value of a step that did not fail
pub bind_ok : {A B C : Type 0} (r : Result A C) (f : A → Result B C) (y : B) → (r >>= f) ≡ Ok y →
    (x : A) × (r ≡ Ok x) × (f x ≡ Ok y)
bind_ok (Ok x) f y e = (x, refl, e)
bind_ok (Err d) f y e = absurd cc

-- a test that did not fail
pub good_ok : {A C : Type 0} (cause : C) (good : Bool) (x y : A) → if_good cause good x ≡ Ok y →
    (good ≡ true) × (x ≡ y)
good_ok cause true x y e = (refl, cc)
good_ok cause false x y e = absurd cc

abbrev done : {A : Type 0} → (C : Type 0) → A → Result A C
done C x = Ok x

ok_is : {A C : Type 0} (x y : A) → done C x ≡ done C y → x ≡ y
ok_is x y e = cc

-- the first bytes, which a reader took
pub record Takes (bytes text rest : List ℕ) : Type 0 where
  pub parts : bytes ≡ text ++ rest
  pub rest_fits : IsBytes rest

Takes-then : (a x b y c : List ℕ) → Takes a x b → Takes b y c → Takes a (x ++ y) c
Takes-then a x b y c p q = record {
  parts = p.parts ∙ ap (λ t. x ++ t) q.parts ∙ sym (append_assoc x y c);
  rest_fits = q.rest_fits;
}

-- a field of the values that fit it, each written in one way
pub record IsField {A C : Type 0} (field : List ℕ → Read C A) (text : A → List ℕ) (fits : A → Type 0) : Type 0 where
  pub takes : (bytes : List ℕ) (x : A) (rest : List ℕ) → IsBytes bytes → field bytes ≡ Ok (x, rest) →
      Takes bytes (text x) rest × fits x
  pub again : (x : A) (rest : List ℕ) → fits x → field (text x ++ rest) ≡ Ok (x, rest)

-- the same field, in other words
pub restated : {A C : Type 0} {f : List ℕ → Read C A} {t u : A → List ℕ} {F G : A → Type 0} → IsField f t F →
    ((x : A) → F x → t x ≡ u x) → ((x : A) → F x → G x) → ((x : A) → G x → F x) → IsField f u G
restated {A} {C} {f} {t} {u} {F} {G} h same to from = record {
  takes = λ bytes x rest fits e.
      let took = h.takes bytes x rest fits e in
      (subst (λ text. Takes bytes text rest) (same x took.1) took.0, to x took.1);
  again = λ x rest fits. subst (λ text. f (text ++ rest) ≡ Ok (x, rest)) (same x (from x fits))
      (h.again x rest (from x fits));
}

-- a field of which a value is made
pub made : {A B C : Type 0} {f : List ℕ → Read C A} {t : A → List ℕ} {F : A → Type 0} → IsField f t F →
    (make : A → B) (part : B → A) → ((x : A) → F x → part (make x) ≡ x) →
    IsField (λ bytes. f bytes >>= (λ x. Ok (make x.0, x.1))) (λ y. t (part y)) (λ y. F (part y) × (y ≡ make (part y)))
made {A} {B} {C} {f} {t} {F} h make part part_is = record {
  takes = λ bytes y rest fits e.
      let a = bind_ok _ _ _ e in
      let p = ok_is _ _ a.2 in
      let took = h.takes bytes a.0.0 a.0.1 fits a.1 in
      subst (λ q. Takes bytes (t (part q.0)) q.1 × (F (part q.0) × (q.0 ≡ make (part q.0)))) p
      (subst (λ z. Takes bytes (t z) a.0.1 × (F z × (make a.0.0 ≡ make z))) (sym (part_is a.0.0 took.1))
      (took.0, (took.1, refl)));
  again = λ y rest fits. ap (λ r. r >>= (λ x. Ok (make x.0, x.1))) (h.again _ rest fits.0) ∙
      ap (λ z. Ok (z, rest)) (sym fits.1);
}

-- a field whose value passes a test
pub tested : {A C : Type 0} {f : List ℕ → Read C A} {t : A → List ℕ} {F : A → Type 0} → IsField f t F →
    (cause : C) (passes : A → Bool) →
    IsField (λ bytes. f bytes >>= (λ x. if_good cause (passes x.0) x)) t (λ x. F x × (passes x ≡ true))
tested {A} {C} {f} {t} {F} h cause passes = record {
  takes = λ bytes y rest fits e.
      let a = bind_ok _ _ _ e in
      let g = good_ok cause _ a.0 _ a.2 in
      let took = h.takes bytes a.0.0 a.0.1 fits a.1 in
      subst (λ z. Takes bytes (t z.0) z.1 × (F z.0 × (passes z.0 ≡ true))) g.1 (took.0, (took.1, g.0));
  again = λ y rest fits. rw (h.again y rest fits.0, fits.1) refl;
}

-- a field and then another, whose value holds that of the first
pub followed : {A B C : Type 0} {f : List ℕ → Read C A} {t : A → List ℕ} {F : A → Type 0}
    {g : A → List ℕ → Read C B} {u : A → B → List ℕ} {G : A → B → Type 0} → IsField f t F →
    (first : B → A) → ((a : A) → F a → IsField (g a) (u a) (G a)) →
    ((a : A) (y : B) → F a → G a y → first y ≡ a) → IsField (λ bytes. f bytes >>= (λ x. g x.0 x.1))
    (λ y. t (first y) ++ u (first y) y) (λ y. F (first y) × G (first y) y)
followed {A} {B} {C} {f} {t} {F} {g} {u} {G} h first k keeps = record {
  takes = λ bytes y rest fits e.
      let a = bind_ok _ _ _ e in
      let one = h.takes bytes a.0.0 a.0.1 fits a.1 in
      let two = (k a.0.0 one.1).takes a.0.1 y rest one.0.rest_fits a.2 in
      subst (λ b. Takes bytes (t b ++ u b y) rest × (F b × G b y)) (sym (keeps a.0.0 y one.1 two.1))
      (Takes-then bytes _ a.0.1 _ rest one.0 two.0, (one.1, two.1));
  again = λ y rest fits.
      let b = first y in
      let regrouped = append_assoc (t b) (u b y) rest in
      let one = ap f regrouped ∙ h.again b _ fits.0 in
      ap (λ r. r >>= (λ x. g x.0 x.1)) one ∙ (k b fits.0).again y rest fits.1;
}

-- `size` bytes
pub bytes_field : {C : Type 0} (cause : C) (size : ℕ) → IsField (bytes_at cause size) (λ x. x)
    (λ x. (length x ≡ size) × IsBytes x)
bytes_field cause size = record {
  takes = λ bytes x rest fits e.
      let g = good_ok cause (nat_le size _) _ _ e in
      let long = leb-true _ _ g.0 in
      let parts : Takes bytes (take size bytes) _ =
      record { parts = sym (take-append-drop size bytes); rest_fits = IsBytes-drop size bytes fits } in
      let len : length (take size bytes) ≡ size = omega (arith, length-take size bytes) in
      subst (λ p. Takes bytes p.0 p.1 × ((length p.0 ≡ size) × IsBytes p.0)) g.1
      (parts, (len, IsBytes-take size bytes fits));
  again = λ x rest fits.
      let long : nat_le size (length (x ++ rest)) ≡ true = le-leb _ _ (omega (arith, length-append x rest, fits.0)) in
      rw (long, take_at x rest size fits.0, drop_at x rest size fits.0) refl;
}

-- ---- numbers

pub record IsWide (size : ℕ) : Type 0 where
  pub back : (bytes : List ℕ) → length bytes ≡ size → IsBytes bytes →
      little_bytes size (little_number size bytes) ≡ bytes

pub two_wide : IsWide 2
two_wide = record { back = λ bytes len fits. le_bytes_2 bytes _ len fits (omega arith) }

pub four_wide : IsWide 4
four_wide = record { back = λ bytes len fits. le_bytes_4 bytes _ len fits (omega arith) }

-- the lowest byte first
pub number_field : {C : Type 0} (cause : C) (size : ℕ) → IsWide size →
    IsField (number_at cause size) (little_bytes size) (λ n. n < 256 ^ size)
number_field cause size wide = record {
  takes = λ bytes n rest fits e.
      let g = good_ok cause (nat_le size (length bytes)) _ _ e in
      let long = leb-true _ _ g.0 in
      let len : length (take size bytes) ≡ size = omega (arith, length-take size bytes) in
      let same = little_from-take 0 size size bytes (omega arith) in
      let prefix = ap (little_bytes size) (sym same) ∙ wide.back _ len (IsBytes-take size bytes fits) in
      let parts : Takes bytes (little_bytes size _) _ =
      record {
        parts = sym (take-append-drop size bytes) ∙ ap (λ t. t ++ drop size bytes) (sym prefix);
        rest_fits = IsBytes-drop size bytes fits;
      } in
      subst (λ p. Takes bytes (little_bytes size p.0) p.1 × (p.0 < 256 ^ size)) g.1
      (parts, little_from-lt 0 size bytes fits);
  again = λ n rest lt.
      let len = length-bytes_low_first 0 size n in
      let long : nat_le size (length (little_bytes size n ++ rest)) ≡ true =
      le-leb _ _ (omega (arith, length-append (little_bytes size n) rest, len)) in
      rw (long, little_number-reads_back size n rest lt, drop_at _ rest size len) refl;
}

-- one byte
byte_takes : {C : Type 0} (cause : C) (bytes : List ℕ) (n : ℕ) (rest : List ℕ) → IsBytes bytes →
    number_at cause 1 bytes ≡ Ok (n, rest) → Takes bytes (n ∷ []) rest × (n < 256)
byte_takes cause [] n rest fits e = absurd cc
byte_takes cause (b ∷ bytes) n rest fits e =
    let g = good_ok cause _ _ _ e in
    let number : little_number 1 (b ∷ bytes) ≡ b = omega arith in
    let n-is = sym number ∙ ap (λ p. p.0) g.1 in
    let rest-is = ap (λ p. p.1) g.1 in
    let whole : Takes _ (b ∷ []) bytes = record { parts = refl; rest_fits = λ i. fits (suc i) } in
    subst (λ m. Takes (b ∷ bytes) (m ∷ []) rest × (m < 256)) n-is
    (subst (λ r. Takes (b ∷ bytes) (b ∷ []) r) rest-is whole, fits 0)

pub byte_field : {C : Type 0} (cause : C) → IsField (number_at cause 1) (λ n. n ∷ []) (λ n. n < 256)
byte_field cause = record {
  takes = byte_takes cause;
  again = λ n rest lt.
      let long : nat_le 1 (length (n ∷ rest)) ≡ true = le-leb _ _ (omega arith) in
      let number : little_number 1 (n ∷ rest) ≡ n = omega arith in
      rw (long, number) refl;
}

-- ---- many fields

module _ {A C : Type 0} (f : List ℕ → Read C A) (t : A → List ℕ) (F : A → Type 0) (h : IsField f t F) where
  many_takes : (count : ℕ) (bytes : List ℕ) (xs : List A) (rest : List ℕ) → IsBytes bytes →
      fields_at f count bytes ≡ Ok (xs, rest) →
      Takes bytes (flat_map t xs) rest × ((length xs ≡ count) × AllByRecursion F xs)
  unfolding fields_at
  many_takes zero bytes xs rest fits e =
      let p = ok_is _ _ e in
      let none : Takes bytes (flat_map t []) bytes = record { parts = refl; rest_fits = fits } in
      subst (λ q. Takes bytes (flat_map t q.0) q.1 × ((length q.0 ≡ 0) × AllByRecursion F q.0)) p (none, (refl, tt))
  many_takes (suc count) bytes xs rest fits e =
      let a = bind_ok _ _ _ e in
      let b = bind_ok _ _ _ a.2 in
      let one = h.takes bytes a.0.0 a.0.1 fits a.1 in
      let two = many_takes count a.0.1 b.0.0 b.0.1 one.0.rest_fits b.1 in
      let both = Takes-then bytes _ a.0.1 _ b.0.1 one.0 two.0 in
      let p = ok_is _ _ b.2 in
      let whole = subst (λ text. Takes bytes text b.0.1) (sym (flat_map-cons t a.0.0 b.0.0)) both in
      subst (λ q. Takes bytes (flat_map t q.0) q.1 ×
      ((length q.0 ≡ suc count) × AllByRecursion F q.0)) p (whole, (ap suc two.1.0, (one.1, two.1.1)))

  many_again : (xs : List A) (rest : List ℕ) → AllByRecursion F xs →
      fields_at f (length xs) (flat_map t xs ++ rest) ≡ Ok (xs, rest)
  unfolding fields_at
  many_again [] rest all = refl
  many_again (x ∷ xs) rest all =
      let regrouped = ap (λ text. text ++ rest) (flat_map-cons t x xs) ∙ append_assoc (t x) (flat_map t xs) rest in
      let one = ap f regrouped ∙ h.again x _ all.0 in
      ap (λ r. r >>= (λ y. fields_at f (length xs) y.1 >>= (λ others. Ok (y.0 ∷ others.0, others.1)))) one ∙
      ap (λ r. r >>= (λ others. Ok (x ∷ others.0, others.1))) (many_again xs rest all.1)

  -- `count` of them
  pub many_field : (count : ℕ) → IsField (fields_at f count) (flat_map t)
      (λ xs. (length xs ≡ count) × AllByRecursion F xs)
  many_field count = record {
    takes = many_takes count;
    again = λ xs rest fits. subst (λ n. fields_at f n (flat_map t xs ++ rest) ≡ Ok (xs, rest)) fits.0
        (many_again xs rest fits.1);
  }
