-- Whether bytes are cut can be decided.
use Rattle.sc_parse_read.proofs.Common.{Bool, Cuts, IsCut, IsGap, IsStuck, IsToken, IsTrue, List, None, Option, Some}
use Rattle.sc_parse_read.proofs.Common.{Token, TokenKind, [], allows_directive, ap, arith, begins_block_comment}
use Rattle.sc_parse_read.proofs.Common.{begins_line_comment, begins_with, block_comment, cases_lt, codes, drop}
use Rattle.sc_parse_read.proofs.Common.{ends_comment, false, false≢true, gap, gap_fits, inl, inr, is_directive, is_some}
use Rattle.sc_parse_read.proofs.Common.{is_white_space, token_kind, length, length-drop, line_comment, line_len, lt-ltb}
use Rattle.sc_parse_read.proofs.Common.{ltb, ltb-true, may_follow, none-some, nothing, refl, same_unless, slice_index}
use Rattle.sc_parse_read.proofs.Common.{subst, suc, sym, take, token, token_at, token_positive, true, white_space, zero}
use Rattle.sc_parse_read.proofs.Common.{ℕ, ⊎_elim, ◌+◌, ◌-◌, ◌<◌, ◌∙◌, ◌∷◌, ◌≡◌, ◌≤◌, ◌⊎◌}

-- the first of n places from one on at which a test holds
pub record IsFirst (p : ℕ → Bool) (from to at : ℕ) : Type 0 where
  pub low : from ≤ at
  pub high : at < to
  pub holds : p at ≡ true
  pub first : (before : ℕ) → from ≤ before → before < at → p before ≡ true → ⊥

abbrev pub HoldsNot : (ℕ → Bool) → ℕ → ℕ → Type 0
HoldsNot p from to = (at : ℕ) → from ≤ at → at < to → p at ≡ true → ⊥

abbrev Found : (ℕ → Bool) → ℕ → ℕ → Type 0
Found p from to = ((at : ℕ) × IsFirst p from to at) ⊎ HoldsNot p from to

-- where a test doesn't hold at the first place, the place where it holds comes after it
past : (p : ℕ → Bool) (from at : ℕ) → p from ≡ false → p at ≡ true → from ≤ at → from < at
past p from at fails holds low = ⊎_elim (λ less. less)
    (λ le. let same : at ≡ from = omega arith in absurd (false≢true (sym fails ∙ subst (λ k. p k ≡ true) same holds)))
    (cases_lt from at)

find_more : (p : ℕ → Bool) (from n : ℕ) → Found p (from + 1) (from + 1 + n) → (b : Bool) → p from ≡ b →
    Found p from (from + suc n)
find_more p from n rest true e = inl (
  from,
  record { low = omega arith; high = omega arith; holds = e; first = λ before low high h. omega arith },
)
find_more p from n rest false e = elim rest [
  | inl f ↦ inl (
    f.0,
    record {
      low = omega (arith, f.1.low);
      high = omega (arith, f.1.high);
      holds = f.1.holds;
      first = λ before low high h. f.1.first before (omega (arith, past p from before e h low)) high h;
    },
  )
  | inr nowhere ↦ inr (λ at low high h. nowhere at (omega (arith, past p from at e h low)) (omega arith) h)
]

pub find : (p : ℕ → Bool) (from n : ℕ) → ((at : ℕ) × IsFirst p from (from + n) at) ⊎ HoldsNot p from (from + n)
find p from zero = inr (λ at low high h. omega arith)
find p from (suc n) = find_more p from n (find p (from + 1) n) _ refl

-- the last place up to n at which a test holds
record IsLast (p : ℕ → Bool) (n at : ℕ) : Type 0 where
  high : at ≤ n
  holds : p at ≡ true
  last : (following : ℕ) → at < following → following ≤ n → p following ≡ true → ⊥

abbrev FoundLast : (ℕ → Bool) → ℕ → Type 0
FoundLast p n = ((at : ℕ) × IsLast p n at) ⊎ ((at : ℕ) → at ≤ n → p at ≡ true → ⊥)

last_of : (p : ℕ → Bool) (n : ℕ) → FoundLast p n
last_of p n = elim (find (λ k. p (n - k)) 0 (n + 1)) [
  | inl f ↦ inl (
    n - f.0,
    record {
      high = omega arith;
      holds = f.1.holds;
      last = λ following low high h. f.1.first (n - following) (omega arith) (omega arith) (at following high h);
    },
  )
  | inr nowhere ↦ inr (λ k low h. nowhere (n - k) (omega arith) (omega arith) (at k low h))
]
  where
    at : (k : ℕ) → k ≤ n → p k ≡ true → p (n - (n - k)) ≡ true
    at k low h = let same : k ≡ n - (n - k) = omega arith in subst (λ k. p k ≡ true) same h

-- a comment ends inside the text
ends_within : (text : List ℕ) (at : ℕ) → IsTrue (ends_comment text at) → at < length text
ends_within text at h = omega (arith, (begins_with (drop at text) (codes "*/") h).fits, length-drop at text)

abbrev NoGap : List ℕ → Type 0
NoGap text = (len : ℕ) → IsGap text len → ⊥

gapless : {text : List ℕ} {len : ℕ} → IsGap text len → is_white_space (slice_index text 0) ≡ false →
    begins_line_comment text ≡ false → ((at : ℕ) → begins_block_comment text ≡ true → 2 ≤ at →
    IsTrue (ends_comment text at) → ⊥) → ⊥
gapless (white_space h) w l block = false≢true (sym w ∙ h)
gapless (block_comment at h low ends first) w l block = block at h low ends
gapless (line_comment h) w l block = false≢true (sym l ∙ h)

decide_gap : (text : List ℕ) → ((len : ℕ) × IsGap text len) ⊎ NoGap text
decide_gap text = white (is_white_space (slice_index text 0)) refl
  where
    block : is_white_space (slice_index text 0) ≡ false → begins_line_comment text ≡ false → (b : Bool) →
        begins_block_comment text ≡ b → ((len : ℕ) × IsGap text len) ⊎ NoGap text
    block w l true e = elim (find (ends_comment text) 2 (length text)) [
      | inl f ↦ inl (f.0 + 2, block_comment f.0 e f.1.low f.1.holds f.1.first)
      | inr nowhere ↦ inr (λ len g. gapless g w l (λ at h low ends.
          nowhere at low (let inside = ends_within text at ends in omega arith) ends))
    ]
    block w l false e = inr (λ len g. gapless g w l (λ at h low ends. false≢true (sym e ∙ h)))

    line : is_white_space (slice_index text 0) ≡ false → (b : Bool) → begins_line_comment text ≡ b →
        ((len : ℕ) × IsGap text len) ⊎ NoGap text
    line w true e = inl (line_len text, line_comment e)
    line w false e = block w e (begins_block_comment text) refl

    white : (b : Bool) → is_white_space (slice_index text 0) ≡ b → ((len : ℕ) × IsGap text len) ⊎ NoGap text
    white true e = inl (1, white_space e)
    white false e = line e (begins_line_comment text) refl

some_of : {A : Type 0} (o : Option A) → is_some o ≡ true → (x : A) × (o ≡ Some x)
some_of None h = absurd (false≢true h)
some_of (Some x) h = (x, refl)

none_of : {A : Type 0} (o : Option A) → (is_some o ≡ true → ⊥) → o ≡ None
none_of None h = refl
none_of (Some x) h = absurd (h refl)

abbrev NoTokenHere : Bool → List ℕ → Type 0
NoTokenHere directives text = (kind : TokenKind) (len : ℕ) → IsToken directives text kind len → ⊥

abbrev ATokenHere : Bool → List ℕ → Type 0
ATokenHere directives text = (kind : TokenKind) × (len : ℕ) × IsToken directives text kind len

implied : (b c : Bool) → (b ≡ true → c ≡ true) ⊎ ((b ≡ true → c ≡ true) → ⊥)
implied false c = inl (λ h. absurd (false≢true h))
implied true true = inl (λ h. refl)
implied true false = inr (λ on. false≢true (on refl))

-- a prefix of this length spells a token
abbrev spells : List ℕ → ℕ → Bool
spells text len = is_some (token_kind (take len text))

module _ (directives : Bool) (text : List ℕ) where
  module _ (len : ℕ) (l : IsLast (spells text) (length text) len) (kind : TokenKind)
      (is : token_kind (take len text) ≡ Some kind) where
    longest : (longer : ℕ) → len < longer → longer ≤ length text → token_kind (take longer text) ≡ None
    longest longer low high = none_of _ (l.last longer low high)

    same_token : (other : TokenKind) (n : ℕ) → IsToken directives text other n → IsToken directives text kind len
    same_token other n t =
        let long = same_unless n len (λ less. none-some kind (sym (t.longest len less l.high) ∙ is))
        (λ less. none-some other (sym (longest n less t.within) ∙ t.spelled)) in
        let spelled : token_kind (take len text) ≡ Some other =
        subst (λ k. token_kind (take k text) ≡ Some other) long t.spelled in
        let kinds : other ≡ kind = cc in
        subst (λ k. IsToken directives text k len) kinds (subst (λ k. IsToken directives text other k) long t)

    not_then : (IsToken directives text kind len → ⊥) → ATokenHere directives text ⊎ NoTokenHere directives text
    not_then never = inr (λ other n t. never (same_token other n t))

    -- a token of this kind, where four tests say so
    decide_here : ATokenHere directives text ⊎ NoTokenHere directives text
    decide_here = elim (implied (ltb len (length text)) (may_follow kind (slice_index text len))) [
      | inl apart ↦ elim (implied (is_directive kind) directives) [
        | inl allowed ↦ elim (implied (begins_block_comment text) false) [
          | inl block ↦ elim (implied (begins_line_comment text) false) [
            | inl line ↦ inl (
              kind,
              len,
              record {
                within = l.high;
                spelled = is;
                longest = longest;
                apart = λ less. apart (lt-ltb len (length text) less);
                allowed = allowed;
                no_block_comment = λ h. false≢true (block h);
                no_line_comment = λ h. false≢true (line h);
              },
            )
            | inr never ↦ not_then (λ t. never (λ h. absurd (t.no_line_comment h)))
          ]
          | inr never ↦ not_then (λ t. never (λ h. absurd (t.no_block_comment h)))
        ]
        | inr never ↦ not_then (λ t. never t.allowed)
      ]
      | inr never ↦ not_then (λ t. never (λ h. t.apart (ltb-true len _ h)))
    ]

  decide_token : ATokenHere directives text ⊎ NoTokenHere directives text
  decide_token = elim (last_of (spells text) (length text)) [
    | inl f ↦ let s = some_of (token_kind _) f.1.holds in decide_here f.0 f.1 s.0 s.1
    | inr nowhere ↦ inr (λ kind len t. nowhere len t.within (ap is_some t.spelled))
  ]

module _ (bytes : List ℕ) where
  -- from a place on the bytes are cut, to the end or to where nothing goes on
  pub record IsStopped (at : ℕ) : Type 0 where
    pub to : ℕ
    pub tokens : List Token
    pub cuts : Cuts bytes at to tokens
    pub stuck : IsStuck bytes to

  abbrev Ways : ℕ → Type 0
  Ways at = ((tokens : List Token) × Cuts bytes at (length bytes) tokens) ⊎ IsStopped at

  after_gap : (at n : ℕ) → IsGap (drop at bytes) n → Ways (at + n) → Ways at
  after_gap at n g w = elim w [
    | inl c ↦ inl (c.0, gap n g c.1)
    | inr s ↦ inr (record { to = s.to; tokens = s.tokens; cuts = gap n g s.cuts; stuck = s.stuck })
  ]

  after_token : (at : ℕ) (kind : TokenKind) (n : ℕ) → IsToken (allows_directive bytes at) (drop at bytes) kind n →
      Ways (at + n) → Ways at
  after_token at kind n t w = elim w [
    | inl c ↦ inl (token_at bytes at kind n ∷ c.0, token kind n t c.1)
    | inr s ↦ inr (record { to = s.to; tokens = _; cuts = token kind n t s.cuts; stuck = s.stuck })
  ]

  at_end : (at : ℕ) → at ≡ length bytes → Ways at
  at_end at e = inl ([], subst (λ to. Cuts bytes at to []) e nothing)

  ways_here : (fuel at : ℕ) → at < length bytes → length bytes ≤ at + suc fuel →
      ((next : ℕ) → next ≤ length bytes → length bytes ≤ next + fuel → Ways next) → Ways at
  ways_here fuel at more high next = elim (decide_gap (drop at bytes)) [
    | inl g ↦ after_gap at g.0 g.1 (let fits = gap_fits g.1 in let long = length-drop at bytes in
        next _ (omega arith) (omega arith))
    | inr no_gap ↦ elim (decide_token _ _) [
      | inl t ↦ after_token at t.0 t.1 t.2 (let some = token_positive t.1 t.2 in let within = t.2.within in
          let long = length-drop at bytes in next _ (omega arith) (omega arith))
      | inr no_token ↦ let stuck : IsStuck bytes at = record { more = more; no_gap = no_gap; no_token = no_token } in
          inr (record { to = at; tokens = []; cuts = nothing; stuck = stuck })
    ]
  ]

  ways : (fuel at : ℕ) → at ≤ length bytes → length bytes ≤ at + fuel → Ways at
  ways zero at low high = at_end at (omega arith)
  ways (suc fuel) at low high = ⊎_elim (λ more. ways_here fuel at more high (ways fuel))
      (λ past. at_end at (omega arith)) (cases_lt at (length bytes))

  pub decide_cut : ((tokens : List Token) × IsCut bytes tokens) ⊎ IsStopped 0
  decide_cut = ways (length bytes) 0 (omega arith) (omega arith)
