-- White space and comments at the start of a text, and tokens that end where the bytes of a class end.
use Rattle.sc_lex.proofs.Common.{Bool, IsGap, IsToken, IsTrue, List, None, Some, TokenKind, [], ap, arith}
use Rattle.sc_lex.proofs.Common.{begins_block_comment, begins_line_comment, block_comment, cases_lt, codes, cond_both}
use Rattle.sc_lex.proofs.Common.{drop, ends_comment, false, false≢true, get_or, get_or-take, is_directive}
use Rattle.sc_lex.proofs.Common.{is_inside_line, is_white_space, token_kind, length, length-drop, length-take-le}
use Rattle.sc_lex.proofs.Common.{line_comment, line_len, list_all, list_all_at, none-some, not_from_false}
use Rattle.sc_lex.proofs.Common.{not_from_true, one-add, prefix_len, prefix_len-le-length, prefix_len_passes}
use Rattle.sc_lex.proofs.Common.{prefix_len_stops, refl, slice_index, suc, sym, take, true, white_space, zero, ℕ}
use Rattle.sc_lex.proofs.Common.{⊎_elim, ◌+◌, ◌<◌, ◌∙◌, ◌∷◌, ◌≡◌, ◌≤◌}
use Rattle.sc_lex.proofs.Wording.{begins_with, prefix_byte}
use Rattle.sc_lex.proofs.Texts.{IsRun, kind_of-nil, none_from}

-- numbers of which none is below the other are one
pub same_unless : (a b : ℕ) → (a < b → ⊥) → (b < a → ⊥) → a ≡ b
same_unless a b less more =
    ⊎_elim (λ h. absurd (less h)) (λ h. ⊎_elim (λ k. absurd (more k)) (λ k. omega arith) (cases_lt b a)) (cases_lt a b)

-- a token has a byte
pub token_positive : {directives : Bool} {text : List ℕ} {kind : TokenKind} (len : ℕ) →
    IsToken directives text kind len → 0 < len
token_positive {kind = kind} zero t = absurd (none-some kind (sym kind_of-nil ∙ t.spelled))
token_positive (suc n) t = omega arith

module _ (p : ℕ → Bool) where
  pub run_all : (bs : List ℕ) → list_all p (take (prefix_len p bs) bs) ≡ true
  run_all [] = refl
  run_all (b ∷ bs) = cond_both (p b) _ _ (λ n. list_all p (take n (b ∷ bs)) ≡ true)
      (λ q. rw (one-add, q) (run_all bs)) (λ q. refl)

  pub run_positive : (bs : List ℕ) → 0 < length bs → p (get_or bs 0 0) ≡ true → 0 < prefix_len p bs
  run_positive [] h q = absurd (omega arith)
  run_positive (b ∷ bs) h q = rw q (omega arith)

module _ (p : ℕ → Bool) (text : List ℕ) (runs : (m : ℕ) (kind : TokenKind) → 0 < m → token_kind (take m text) ≡ Some
    kind →
    IsRun p (take m text) kind) where
  run_longer : (m : ℕ) → prefix_len p text < m → m ≤ length text → list_all p (take m text) ≡ false
  run_longer m h within =
      let i : prefix_len p text < length _ = omega (arith, length-take-le m text within) in
      list_all_at p _ _ 0 i (ap p (get_or-take m text _ 0 h) ∙ prefix_len_stops p text 0 (omega arith))

  pub run_token : (n : ℕ) (kind : TokenKind) (directives : Bool) → n ≡ prefix_len p text → 0 < n → token_kind (take n
      text)
      ≡ Some kind → (IsTrue (is_directive kind) → IsTrue directives) → (IsTrue (begins_block_comment text) → ⊥) →
      (IsTrue (begins_line_comment text) → ⊥) → IsToken directives text kind n
  run_token n kind directives is positive spelled allowed block line = record {
    within = omega (arith, prefix_len-le-length p text);
    spelled = spelled;
    longest = λ m more inside. none_from _
        (λ k e. false≢true (sym (run_longer m (rw is at more) inside) ∙ (runs m k (omega arith) e).all));
    apart = λ inside. (runs n kind positive spelled).follow (get_or text n 0) ∙
        not_from_false _ (rw is (prefix_len_stops p text 0 (rw is at inside)));
    allowed = allowed;
    no_block_comment = block;
    no_line_comment = line;
  }

  pub run_only : (directives : Bool) (kind : TokenKind) (m : ℕ) → IsToken directives text kind m → m ≡ prefix_len p text
  run_only directives kind m t =
      let positive = token_positive m t in
      let run = runs m kind positive t.spelled in
      let inside = prefix_len-le-length p text in
      same_unless m (prefix_len p text) (λ less. false≢true (sym (run.follow _ ∙
      not_from_true (p _) (prefix_len_passes p text m 0 less)) ∙ t.apart (omega arith)))
      (λ longer. false≢true (sym (run_longer m longer t.within) ∙ run.all))

  -- nothing of this class is a token, where its longest run is none
  pub run_none : token_kind (take (prefix_len p text) text) ≡ None → (directives : Bool) (kind : TokenKind) (m : ℕ) →
      IsToken directives text kind m → ⊥
  run_none none directives kind m t =
      let len = run_only _ kind m t in
      none-some kind (sym none ∙ (rw len at t.spelled))

pub ends_within : (text : List ℕ) (at : ℕ) → IsTrue (ends_comment text at) → at + 2 ≤ length text
ends_within text at h = omega (arith, (begins_with (drop at text) (codes "*/") h).fits, length-drop at text)

pub slash_first : (text : List ℕ) → IsTrue (begins_line_comment text) → slice_index text 0 ≡ 47
slash_first text h = prefix_byte text (codes "//") 0 h (omega arith)

slash_second : (text : List ℕ) → IsTrue (begins_line_comment text) → slice_index text 1 ≡ 47
slash_second text h = prefix_byte text (codes "//") 1 h (omega arith)

pub star_first : (text : List ℕ) → IsTrue (begins_block_comment text) → slice_index text 0 ≡ 47
star_first text h = prefix_byte text (codes "/*") 0 h (omega arith)

star_second : (text : List ℕ) → IsTrue (begins_block_comment text) → slice_index text 1 ≡ 42
star_second text h = prefix_byte text (codes "/*") 1 h (omega arith)

pub white_no_slash : (text : List ℕ) → is_white_space (slice_index text 0) ≡ true → slice_index text 0 ≡ 47 → ⊥
white_no_slash text h e = false≢true (rw e at h)

-- at most one gap is at the start
pub one_gap : {text : List ℕ} {n m : ℕ} → IsGap text n → IsGap text m → n ≡ m
one_gap (white_space h) (white_space q) = refl
one_gap {text} (white_space h) (block_comment at q low ends first) = absurd (white_no_slash text h (star_first text q))
one_gap {text} (white_space h) (line_comment q) = absurd (white_no_slash text h (slash_first text q))
one_gap {text} (block_comment at h low ends first) (white_space q) = absurd (white_no_slash text q (star_first text h))
one_gap {text} (block_comment at h low ends first) (block_comment bt q low' ends' first') =
    ap (λ k. k + 2) (same_unless at bt (λ less. first' at low less ends) (λ less. first bt low' less ends'))
one_gap {text} (block_comment at h low ends first) (line_comment q) =
    absurd (omega (arith, star_second text h, slash_second text q))
one_gap {text} (line_comment h) (white_space q) = absurd (white_no_slash text q (slash_first text h))
one_gap {text} (line_comment h) (block_comment at q low ends first) =
    absurd (omega (arith, star_second text q, slash_second text h))
one_gap (line_comment h) (line_comment q) = refl

pub no_gap : (text : List ℕ) → is_white_space (slice_index text 0) ≡ false → begins_line_comment text ≡ false →
    (IsTrue (begins_block_comment text) → (at : ℕ) → 2 ≤ at → IsTrue (ends_comment text at) → ⊥) → (len : ℕ) →
    IsGap text len → ⊥
no_gap text white line unended len (white_space h) = false≢true (sym white ∙ h)
no_gap text white line unended len (block_comment at h low ends first) = unended h at low ends
no_gap text white line unended len (line_comment h) = false≢true (sym line ∙ h)

pub white_gap : (text : List ℕ) → is_white_space (slice_index text 0) ≡ true → IsGap text 1
white_gap text h = white_space h

pub line_gap : (text : List ℕ) (len : ℕ) → len ≡ line_len text → begins_line_comment text ≡ true → IsGap text len
line_gap text len is h = rw is (line_comment h)

-- a gap has a byte, and lies inside
pub gap_fits : {text : List ℕ} {len : ℕ} → IsGap text len → (0 < len) × (len ≤ length text)
gap_fits {text} (white_space h) = (omega arith, some text h)
  where
    some : (text : List ℕ) → is_white_space (slice_index text 0) ≡ true → 1 ≤ length text
    some [] h = absurd (false≢true h)
    some _ h = omega arith
gap_fits {text} (block_comment at h low ends first) = (omega arith, ends_within text at ends)
gap_fits {text} (line_comment h) =
    let long = (begins_with text (codes "//") h).fits in (
      run_positive _ text (omega arith) (ap is_inside_line (slash_first text h)),
      prefix_len-le-length _ text,
    )

pub ruleset gaps = (no_gap, white_gap, line_gap)
