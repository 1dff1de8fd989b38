-- The token at the start of a text.
use Rattle.sc_lex.proofs.Common.{Bool, IfNone, IfSome, IsToken, IsTrue, List, Mark, NoToken, None, Option, Some}
use Rattle.sc_lex.proofs.Common.{TokenKind, and_from, and_parts, ap, arith, begins_block_comment, begins_line_comment}
use Rattle.sc_lex.proofs.Common.{cases_lt, directive_kind, eq-eqb, false, false≢true, get_or-take, is_directive}
use Rattle.sc_lex.proofs.Common.{is_inside_line, is_mark, is_name_byte, is_white_space, token_kind, le-leb, leb-true}
use Rattle.sc_lex.proofs.Common.{length, length-take, length-take-le, line_kind, line_len, list_all, mark_kind, nat_le}
use Rattle.sc_lex.proofs.Common.{none-some, prefix_len, refl, slice_index, sym, take, true, word_kind, ℕ, ⊎_elim, ◌&&◌}
use Rattle.sc_lex.proofs.Common.{◌<◌, ◌==◌, ◌∙◌, ◌≡◌, ◌≤◌}
use Rattle.sc_lex.proofs.Gaps.{slash_first, star_first, token_positive, run_all, run_positive, run_token, run_none}
use Rattle.sc_lex.proofs.Texts.{IsRun, word_run, directive_run, mark_is, no_mark, kind_of-word, kind_of-directive}
use Rattle.sc_lex.proofs.Texts.{kind_of-mark, kind_of-white_space}

head_of : (text : List ℕ) (n : ℕ) → 0 < n → slice_index (take n text) 0 ≡ slice_index text 0
head_of text n h = get_or-take n text 0 0 h

-- words
module _ (text : List ℕ) (start : is_name_byte (slice_index text 0) ≡ true) where
  word_kinds : (m : ℕ) → 0 < m → token_kind (take m text) ≡ word_kind (take m text)
  word_kinds m h = kind_of-word _ (ap is_name_byte (head_of text m h) ∙ start)

  word_runs : (m : ℕ) (kind : TokenKind) → 0 < m → token_kind (take m text) ≡ Some kind →
      IsRun is_name_byte (take m text) kind
  word_runs m kind h e = (word_run _ kind (sym (word_kinds m h) ∙ e)).run

  no_slash : slice_index text 0 ≡ 47 → ⊥
  no_slash e = false≢true (rw e at start)

  pub word_found : (len : ℕ) (kind : TokenKind) (directives : Bool) → 0 < length text →
      len ≡ prefix_len is_name_byte text → Some kind ≡ word_kind (take len text) → IsToken directives text kind len
  word_found len kind directives some is e =
      let positive : 0 < len = rw is (run_positive _ text some start) in
      let none = (word_run (take len text) kind (sym e)).no_directive in
      run_token _ text word_runs len kind _ is positive (word_kinds len positive ∙ sym e)
      (λ d. absurd (false≢true (sym none ∙ d))) (λ c. no_slash (star_first text c)) (λ c. no_slash (slash_first text c))

  pub word_none : (len : ℕ) → 0 < length text → len ≡ prefix_len is_name_byte text → None ≡ word_kind (take len text) →
      NoToken text
  word_none len some is e =
      let positive = run_positive is_name_byte text some start in
      run_none is_name_byte text word_runs (word_kinds _ positive ∙ sym (rw is at e))

-- directives
module _ (text : List ℕ) (start : slice_index text 0 ≡ 35) where
  line_kinds : (m : ℕ) → 0 < m → token_kind (take m text) ≡ directive_kind (take m text)
  line_kinds m h = kind_of-directive _ (head_of text m h ∙ start)

  line_runs : (m : ℕ) (kind : TokenKind) → 0 < m → token_kind (take m text) ≡ Some kind →
      IsRun is_inside_line (take m text) kind
  line_runs m kind h e = (directive_run _ kind (sym (line_kinds m h) ∙ e)).run

  line_positive : 0 < length text → 0 < line_len text
  line_positive some = run_positive _ text some (ap is_inside_line start)

  whole_line : (len : ℕ) → 0 < len → len ≡ line_len text → directive_kind (take len text) ≡ line_kind (take len text)
  whole_line len positive is =
      let first : (slice_index (take len text) 0 == 35) ≡ true =
      eq-eqb (slice_index (take len text) 0) 35 (head_of text len positive ∙ start) in
      let all : list_all is_inside_line (take len text) ≡ true = rw is (run_all is_inside_line text) in
      rw (first, all)

  pub directive_found : (len : ℕ) (kind : TokenKind) → 0 < length text → len ≡ line_len text →
      Some kind ≡ line_kind (take len text) → IsTrue (is_directive kind) × IsToken true text kind len
  directive_found len kind some is e =
      let positive : 0 < len = rw is (line_positive some) in
      let directive = whole_line len positive is ∙ sym e in (
        (directive_run (take len text) kind directive).directive,
        run_token _ text line_runs len kind true is positive (line_kinds len positive ∙ directive)
            (λ d. refl) (λ c. absurd (omega (arith, star_first text c)))
            (λ c. absurd (omega (arith, slash_first text c))),
      )

  pub directive_none : (len : ℕ) → 0 < length text → len ≡ line_len text → None ≡ line_kind (take len text) →
      NoToken text
  directive_none len some is e =
      let positive = line_positive some in
      run_none is_inside_line text line_runs (line_kinds _ positive ∙ whole_line _ positive refl ∙ sym (rw is at e))

  -- where no directive is allowed, nothing begins with `#`
  pub directive_forbidden : (kind : TokenKind) (len : ℕ) → IsToken false text kind len → ⊥
  directive_forbidden kind len t =
      let is = (directive_run (take len text) kind (sym (line_kinds len (token_positive len t)) ∙
      t.spelled)).directive in
      false≢true (t.allowed is)

-- marks
abbrev stands : List ℕ → ℕ → Bool
stands text len = nat_le len (length text) && is_mark (take len text)

module _ (text : List ℕ) (some : 0 < length text) (word : is_name_byte (slice_index text 0) ≡ false)
    (line : slice_index text 0 ≡ 35 → ⊥) where
  mark_kinds : (m : ℕ) → 0 < m → token_kind (take m text) ≡ mark_kind (take m text)
  mark_kinds m h = kind_of-mark _ (omega (arith, length-take m text))
      (ap is_name_byte (head_of text m h) ∙ word) (λ e. line (sym (head_of text m h) ∙ e))

  mark_kinds_none : (m : ℕ) → 0 < m → m ≤ length text → (m ≤ 3 → stands text m ≡ false) → token_kind (take m text) ≡
      None
  mark_kinds_none m h within none =
      mark_kinds m h ∙ no_mark _ (λ is.
      let low = (mark_is _ is).short in
      let len = length-take-le m text within in
      false≢true (sym (none (omega arith)) ∙ and_from (nat_le m _) _ (le-leb m _ within) is))

  mark_token : (n : ℕ) (directives : Bool) → 0 < n → stands text n ≡ true →
      ((m : ℕ) → n < m → m ≤ 3 → stands text m ≡ false) → (IsTrue (begins_block_comment text) → ⊥) →
      (IsTrue (begins_line_comment text) → ⊥) → IsToken directives text Mark n
  mark_token n directives h is longer no_block no_line =
      let parts = and_parts _ _ is in
      record {
        within = leb-true n _ parts.0;
        spelled = mark_kinds n h ∙ rw parts.1;
        longest = λ m more inside. mark_kinds_none m (omega arith) inside (λ low. longer m more low);
        apart = λ inside. refl;
        allowed = λ d. absurd (false≢true d);
        no_block_comment = no_block;
        no_line_comment = no_line;
      }

  pub mark_three : stands text 3 ≡ true → (IsTrue (begins_block_comment text) → ⊥) →
      (IsTrue (begins_line_comment text) → ⊥) → (directives : Bool) → IsToken directives text Mark 3
  mark_three three no_block no_line directives = mark_token 3 _ (omega arith) three
      (λ m more low. absurd (omega arith)) no_block no_line

  pub mark_two : stands text 3 ≡ false → stands text 2 ≡ true → (IsTrue (begins_block_comment text) → ⊥) →
      (IsTrue (begins_line_comment text) → ⊥) → (directives : Bool) → IsToken directives text Mark 2
  mark_two three two no_block no_line directives = mark_token 2 _ (omega arith) two
      (λ m more low. let e : m ≡ 3 = omega arith in rw e three) no_block no_line

  none_above : stands text 3 ≡ false → stands text 2 ≡ false → (m : ℕ) → 1 < m → m ≤ 3 → stands text m ≡ false
  none_above three two m more low = ⊎_elim (λ less. let e : m ≡ 2 = omega arith in rw e two)
      (λ le. let e : m ≡ 3 = omega arith in rw e three) (cases_lt m 3)

  pub mark_one : stands text 3 ≡ false → stands text 2 ≡ false → stands text 1 ≡ true →
      (IsTrue (begins_block_comment text) → ⊥) → (IsTrue (begins_line_comment text) → ⊥) → (directives : Bool) →
      IsToken directives text Mark 1
  mark_one three two one no_block no_line directives = mark_token 1 directives (omega arith) one
      (λ m more low. none_above three two m more low) no_block no_line

  pub mark_none : stands text 3 ≡ false → stands text 2 ≡ false → stands text 1 ≡ false → NoToken text
  mark_none three two one directives kind len t =
      let positive = token_positive len t in
      none-some kind (sym (mark_kinds_none len positive t.within (λ low.
      ⊎_elim (λ more. none_above three two len more low) (λ le. let e : len ≡ 1 = omega arith in rw e one)
      (cases_lt 1 len))) ∙ t.spelled)

-- white space begins no token
pub white_none : (text : List ℕ) → is_white_space (slice_index text 0) ≡ true → NoToken text
white_none text h directives kind len t =
    let white = kind_of-white_space (take len text) (ap is_white_space (head_of text len (token_positive len t)) ∙ h) in
    none-some kind (sym white ∙ t.spelled)

-- what is found or not wherever directives are allowed or not, in one of the two cases
pub found_at : (found : Option (TokenKind × ℕ)) (text : List ℕ) (here : Bool) → IfSome found (λ x. (directives : Bool) →
    IsToken directives text x.0 x.1) → IfSome found (λ x. IsToken here text x.0 x.1)
found_at None text here h = h
found_at (Some x) text here h = h here

pub none_at : (found : Option (TokenKind × ℕ)) (text : List ℕ) (here : Bool) → IfNone found (NoToken text) →
    IfNone found ((kind : TokenKind) (len : ℕ) → IsToken here text kind len → ⊥)
none_at None text here h = h here
none_at (Some x) text here h = h
