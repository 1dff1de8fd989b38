-- Where compartment lines stand in joined texts.
use Rattle.sc_back_reread_laws.proofs.Common.{Bool, List, [], and_from, and_parts, ap, append-nil, append_assoc, ap₂}
use Rattle.sc_back_reread_laws.proofs.Common.{arith, begins_heading, begins_line, codes, cond, drop, drop-append-le}
use Rattle.sc_back_reread_laws.proofs.Common.{drop-append_seam, drop-drop, eq-eqb, eqb-true, false, false≢true}
use Rattle.sc_back_reread_laws.proofs.Common.{line_text, get_or-drop, get_or_append_left, heading_begins, inl, inr}
use Rattle.sc_back_reread_laws.proofs.Common.{is_heading, is_inside_line, length, length-drop, line_len, list_all}
use Rattle.sc_back_reread_laws.proofs.Common.{ne_eqb, not, refl, slice_index, subst, suc, sym, take, take-append-drop}
use Rattle.sc_back_reread_laws.proofs.Common.{take-append-le, true, zero, ℕ, ◌&&◌, ◌++◌, ◌+◌, ◌-◌, ◌<◌, ◌==◌, ◌||◌, ◌∙◌}
use Rattle.sc_back_reread_laws.proofs.Common.{◌∷◌, ◌≡◌, ◌≤◌, ◌⊎◌}
use Rattle.std.proofs.lemmas.Bool.Decides.{Decides-eqb}
use Rattle.std.proofs.lemmas.Slice.Eq.{slice_eq-Decides}

-- the bytes with which a compartment line begins
abbrev pub mark : List ℕ
mark = codes "#pragma compartment "

-- a text that begins with them, and what follows
pub record Begins (text : List ℕ) : Type 0 where
  pub rest : List ℕ
  pub is : text ≡ mark ++ rest

pub to_begins : (text : List ℕ) → begins_heading text ≡ true → Begins text
to_begins text h =
    let prefix : mark ≡ take 20 text = (slice_eq-Decides Decides-eqb mark (take 20 text)
    (begins_heading text) refl).0 h in
    record { rest = drop 20 text; is = sym (take-append-drop 20 text) ∙ ap (λ m. m ++ drop 20 text) (sym prefix) }

pub from_begins : (text rest : List ℕ) → text ≡ mark ++ rest → begins_heading text ≡ true
from_begins text rest e = ap begins_heading e ∙ heading_begins rest

-- the last byte, this one where there is none
abbrev pub last : ℕ → List ℕ → ℕ
last d [] = d
last d (b ∷ text) = last b text

pub last_append : (d : ℕ) (a b : List ℕ) → last d (a ++ b) ≡ last (last d a) b
last_append d [] b = refl
last_append d (x ∷ a) b = last_append x a b

pub last_any : (d e : ℕ) (text : List ℕ) → 0 < length text → last d text ≡ last e text
last_any d e [] some = absurd (omega (arith, some))
last_any d e (b ∷ text) some = refl

last_drop : (d : ℕ) (text : List ℕ) (k : ℕ) → k < length text → last d (drop k text) ≡ last d text
last_drop d text zero low = refl
last_drop d [] (suc k) low = absurd (omega (arith, low))
last_drop d (b ∷ text) (suc k) low = last_drop d text k (omega (arith, low)) ∙
    last_any d b text (omega (arith, low))

pub last_at : (d : ℕ) (text : List ℕ) → 0 < length text → last d text ≡ slice_index text (length text - 1)
last_at d [] some = absurd (omega (arith, some))
last_at d (x ∷ []) some = refl
last_at d (x ∷ y ∷ text) some =
    let count : suc (length (y ∷ text) - 1) ≡ length (x ∷ y ∷ text) - 1 = omega arith in
    let back : slice_index (x ∷ y ∷ text) (suc (length (y ∷ text) - 1)) ≡
    slice_index (x ∷ y ∷ text) (length (x ∷ y ∷ text) - 1) = ap (λ n. slice_index (x ∷ y ∷ text) n) count in
    last_at x (y ∷ text) (omega arith) ∙ back

-- nothing follows the text, or it ends with a newline
abbrev pub Ends : (text following : List ℕ) → Type 0
Ends text following = (following ≡ []) ⊎ (last 10 text ≡ 10)

-- what begins with these bytes of one line lies in the text, where this ends with a newline
cross : (m text following rest : List ℕ) → list_all is_inside_line m ≡ true → text ++ following ≡ m ++ rest → (d : ℕ) →
    last d text ≡ 10 → 0 < length text → (more : List ℕ) × (text ≡ m ++ more)
cross [] text following rest inside e d l some = (text, refl)
cross (b ∷ m) [] following rest inside e d l some = absurd (omega (arith, some))
cross (b ∷ m) (c ∷ []) following rest inside e d l some =
    let same : c ≡ b = cc in
    let no : (b == 10) ≡ true = eq-eqb b 10 (sym same ∙ l) in
    absurd (false≢true (sym (ap not no) ∙ (and_parts (is_inside_line b) (list_all is_inside_line m) inside).0))
cross (b ∷ m) (c ∷ x ∷ text) following rest inside e d l some =
    let same : c ≡ b = cc in
    let tails : (x ∷ text) ++ following ≡ m ++ rest = cc in
    let more = cross m (x ∷ text) following rest (and_parts (is_inside_line b) (list_all is_inside_line m) inside).1
    tails
    c l (omega arith) in
    (more.0, ap₂ (λ y ys. y ∷ ys) same more.1)

pub begins_inside : (text following : List ℕ) → 0 < length text → Ends text following →
    begins_heading (text ++ following) ≡ true → begins_heading text ≡ true
begins_inside text following some ends h = elim ends [
  | inl none ↦ subst (λ b. begins_heading b ≡ true) (ap (λ x. text ++ x) none ∙ append-nil text) h
  | inr newline ↦ let b = to_begins (text ++ following) h in
      let c = cross mark text following b.rest refl b.is 10 newline some in from_begins text c.0 c.1
]

pub begins_outside : (text following : List ℕ) → begins_heading text ≡ true → begins_heading (text ++ following) ≡ true
begins_outside text following h =
    let b = to_begins text h in
    from_begins (text ++ following) (b.rest ++ following)
    (ap (λ x. x ++ following) b.is ∙ append_assoc mark b.rest following)

-- a place inside the text
line_inside : (text following : List ℕ) (k : ℕ) → k < length text →
    begins_line (text ++ following) k ≡ begins_line text k
line_inside text following k low = ap (λ b. (k == 0) || (b == 10))
    (get_or_append_left text following 0 (k - 1) (omega (arith, low)))

ends_drop : (text following : List ℕ) (k : ℕ) → k < length text → Ends text following → Ends (drop k text) following
ends_drop text following k low ends = elim ends [
  | inl none ↦ inl none
  | inr newline ↦ inr (last_drop 10 text k low ∙ newline)
]

pub heading_inside : (text following : List ℕ) (k : ℕ) → k < length text → Ends text following →
    is_heading (text ++ following) k ≡ true → is_heading text k ≡ true
heading_inside text following k low ends h =
    let parts = and_parts (begins_line (text ++ following) k) (begins_heading (drop k (text ++ following))) h in
    let cut : drop k (text ++ following) ≡ drop k text ++ following =
    drop-append-le k text following (omega (arith, low)) in
    let long = length-drop k text in
    and_from (begins_line text k) (begins_heading (drop k text)) (sym (line_inside text following k low) ∙ parts.0)
    (begins_inside (drop k text) following (omega (arith, long, low)) (ends_drop text following k low ends)
    (subst (λ b. begins_heading b ≡ true) cut parts.1))

pub heading_outside : (text following : List ℕ) (k : ℕ) → k < length text → is_heading text k ≡ true →
    is_heading (text ++ following) k ≡ true
heading_outside text following k low h =
    let parts = and_parts (begins_line text k) (begins_heading (drop k text)) h in
    let cut : drop k (text ++ following) ≡ drop k text ++ following =
    drop-append-le k text following (omega (arith, low)) in
    and_from (begins_line (text ++ following) k) (begins_heading (drop k (text ++ following)))
    (line_inside text following k low ∙ parts.0)
    (subst (λ b. begins_heading b ≡ true) (sym cut) (begins_outside (drop k text) following parts.1))

-- a place after a prefix
later : (prefix text : List ℕ) (k : ℕ) → slice_index (prefix ++ text) (length prefix + k) ≡ slice_index text k
later prefix text k = sym (get_or-drop (length prefix) (prefix ++ text) k 0) ∙
    ap (λ b. slice_index b k) (drop-append_seam prefix text)

line_late : (text : List ℕ) (k : ℕ) → 1 ≤ k → begins_line text k ≡ (slice_index text (k - 1) == 10)
line_late text k low = ap (λ b. b || (slice_index text (k - 1) == 10)) (ne_eqb k 0 (λ e. omega (arith, e, low)))

pub heading_after : (prefix text : List ℕ) (k : ℕ) → 1 ≤ k →
    is_heading (prefix ++ text) (length prefix + k) ≡ is_heading text k
heading_after prefix text k low =
    let before : length prefix + k - 1 ≡ length prefix + (k - 1) = omega arith in
    let line : begins_line (prefix ++ text) (length prefix + k) ≡ begins_line text k =
    line_late (prefix ++ text) (length prefix + k) (omega (arith, low)) ∙
    ap (λ b. b == 10) (ap (λ n. slice_index (prefix ++ text) n) before ∙ later prefix text (k - 1)) ∙
    sym (line_late text k low) in
    let following : drop (length prefix + k) (prefix ++ text) ≡ drop k text =
    sym (drop-drop k (length prefix) (prefix ++ text)) ∙ ap (drop k) (drop-append_seam prefix text) in
    ap₂ (λ a b. a && begins_heading b) line following

-- the heading right after a prefix that is empty or ends with a newline
pub heading_first : (prefix text : List ℕ) → last 10 prefix ≡ 10 → begins_heading text ≡ true →
    is_heading (prefix ++ text) (length prefix) ≡ true
heading_first prefix text newline h =
    and_from (begins_line (prefix ++ text) (length prefix)) (begins_heading (drop (length prefix) (prefix ++ text)))
    (starts prefix newline) (subst (λ b. begins_heading b ≡ true) (sym (drop-append_seam prefix text)) h)
  where
    starts : (prefix : List ℕ) → last 10 prefix ≡ 10 → begins_line (prefix ++ text) (length prefix) ≡ true
    starts [] newline = refl
    starts (x ∷ prefix) newline =
        line_late ((x ∷ prefix) ++ text) (length (x ∷ prefix)) (omega arith) ∙
        eq-eqb (slice_index ((x ∷ prefix) ++ text) (length (x ∷ prefix) - 1)) 10
        (get_or_append_left (x ∷ prefix) text 0 (length (x ∷ prefix) - 1) (omega arith) ∙
        sym (last_at 10 (x ∷ prefix) (omega arith)) ∙ newline)

-- and the prefix is so, where a heading follows it
pub prefix_ends : (prefix text : List ℕ) → is_heading (prefix ++ text) (length prefix) ≡ true → last 10 prefix ≡ 10
prefix_ends [] text h = refl
prefix_ends (x ∷ prefix) text h =
    let parts = and_parts (begins_line ((x ∷ prefix) ++ text) (length (x ∷ prefix)))
    (begins_heading (drop (length (x ∷ prefix)) ((x ∷ prefix) ++ text))) h in
    last_at 10 (x ∷ prefix) (omega arith) ∙
    sym (get_or_append_left (x ∷ prefix) text 0 (length (x ∷ prefix) - 1) (omega arith)) ∙
    eqb-true (slice_index ((x ∷ prefix) ++ text) (length (x ∷ prefix) - 1)) 10
    (sym (line_late ((x ∷ prefix) ++ text) (length (x ∷ prefix)) (omega arith)) ∙ parts.0)

pub heading_begins_after : (prefix text : List ℕ) → is_heading (prefix ++ text) (length prefix) ≡ true →
    begins_heading text ≡ true
heading_begins_after prefix text h = subst (λ b. begins_heading b ≡ true) (drop-append_seam prefix text)
    (and_parts (begins_line (prefix ++ text) (length prefix)) (begins_heading (drop (length prefix) (prefix ++ text)))
    h).1

-- the first line of a text that ends with a newline, or that nothing follows
line_len_kept : (text following : List ℕ) (d : ℕ) → last d text ≡ 10 → 0 < length text →
    (line_len (text ++ following) ≡ line_len text) × (line_len text < length text)
line_len_kept [] following d l some = absurd (omega (arith, some))
line_len_kept (x ∷ []) following d l some =
    let stop : (x == 10) ≡ true = eq-eqb x 10 l in
    (rw stop refl, rw stop (omega arith))
line_len_kept (x ∷ y ∷ text) following d l some =
    let rest = line_len_kept (y ∷ text) following x l (omega arith) in
    by (is_inside_line x) rest.0 rest.1
  where
    by : (b : Bool) → line_len ((y ∷ text) ++ following) ≡ line_len (y ∷ text) →
        line_len (y ∷ text) < length (y ∷ text) →
        (cond b (1 + line_len ((y ∷ text) ++ following)) 0 ≡ cond b (1 + line_len (y ∷ text)) 0) ×
        (cond b (1 + line_len (y ∷ text)) 0 < length (x ∷ y ∷ text))
    by true e low = (ap (λ n. 1 + n) e, omega (arith, low))
    by false e low = (refl, omega arith)

pub first_line_kept : (text following : List ℕ) → 0 < length text → Ends text following →
    line_text (text ++ following) ≡ line_text text
first_line_kept text following some ends = elim ends [
  | inl none ↦ ap line_text (ap (λ x. text ++ x) none ∙ append-nil text)
  | inr newline ↦ let k = line_len_kept text following 10 newline some in
      ap (λ n. take n (text ++ following)) k.0 ∙ take-append-le (line_len text) text following (omega (arith, k.1))
]
