-- The words of an expression stand apart: which text may follow a word, and that what is printed does.
use Rattle.sc_parse_print_laws.proofs.Common.{[], BaseTree, TypeName, base_words, blank_if, kept_base, sizeof_words}
use Rattle.sc_parse_print_laws.proofs.Common.{star_words, suc, type_words, zero, BinaryOp, Bool, ExprTree, ExprTree-F}
use Rattle.sc_parse_print_laws.proofs.Common.{IsToken, IsTrue, Keyword, List, Mark, Piece, Printed, Some, TokenKind}
use Rattle.sc_parse_print_laws.proofs.Common.{UnaryOp, Under, and_from, and_parts, ap, append-nil, append_assoc, arith}
use Rattle.sc_parse_print_laws.proofs.Common.{begins_block_comment, begins_line_comment, binary_text, binary_words}
use Rattle.sc_parse_print_laws.proofs.Common.{blank, bytes_eq, codes, drop, eq-eqb, expr_at, expr_induction, expr_step}
use Rattle.sc_parse_print_laws.proofs.Common.{false, false≢true, flat_map-append, if◌then◌else◌, in_parens, indent}
use Rattle.sc_parse_print_laws.proofs.Common.{is_doubled, is_ident, is_kept, is_mark, is_name_byte, is_reserved}
use Rattle.sc_parse_print_laws.proofs.Common.{kept_step, le-leb, length, length-append, list_all, lt-ltb, map-ExprTree}
use Rattle.sc_parse_print_laws.proofs.Common.{mark_one, mark_two, marks, nat_le, nat_lt, ne_eqb, newline, prefix_len}
use Rattle.sc_parse_print_laws.proofs.Common.{prefix_words, refl, slice_index, subst, sym, take, take-append_seam}
use Rattle.sc_parse_print_laws.proofs.Common.{text_of, true, unary_text, word, word_found, word_kind, word_run}
use Rattle.sc_parse_print_laws.proofs.Common.{words_at, ℕ, ◌&&◌, ◌++◌, ◌-◌, ◌<◌, ◌==◌, ◌||◌, ◌∙◌, ◌∷◌, ◌≡◌, ◌≤◌}
use Rattle.sc_lex.specs.declared.token.TokenKind.TheVariants as kind
use Rattle.sc_base.specs.declared.op.BinaryOp.TheVariants as binary
use Rattle.sc_parse_expr.specs.declared.mark.Keyword.TheVariants as keyword
use Rattle.sc_base.specs.Levels as levels
use Rattle.sc_base.specs.declared.op.UnaryOp.TheVariants as unary
use Rattle.sc_ast.specs.declared.expr.ExprTree.TheOpen as term
use Rattle.sc_ast.specs.declared.types.BaseTree.TheVariants as base
use Rattle.std.proofs.Math.Bool.{and-false}
use Rattle.sc_parse_print_laws.proofs.Literals.{no_table, name_kind, name_some, literal_kind, literal_some}
use Rattle.sc_parse_print_laws.proofs.Tables.{Lone, arrow, keyword_text, plus_plus, at_least_2, open_paren, close_paren}
use Rattle.sc_parse_print_laws.proofs.Tables.{open_square, close_square, dot}

-- The text is the token at the start, where `rest` follows it.
pub record IsWord (text rest : List ℕ) : Type 0 where
  pub kind : TokenKind
  pub token : (here : Bool) → IsToken here (text ++ rest) kind (length text)

-- the text doesn't begin with a letter, a digit or `_`
abbrev pub Calm : List ℕ → Type 0
Calm text = is_name_byte (slice_index text 0) ≡ false

pub run_is : (p : ℕ → Bool) (text rest : List ℕ) → list_all p text ≡ true → p (slice_index rest 0) ≡ false →
    prefix_len p (text ++ rest) ≡ length text
run_is p [] [] all calm = refl
run_is p [] (b ∷ rest) all calm = rw calm
run_is p (x ∷ text) rest all calm =
    let parts = and_parts (p x) _ all in
    rw (parts.0, run_is p text rest parts.1 calm) (omega arith)

pub starts : (text rest : List ℕ) → 0 < length text → list_all is_name_byte text ≡ true →
    is_name_byte (slice_index (text ++ rest) 0) ≡ true
starts [] rest some all = absurd (omega (arith, some))
starts (x ∷ text) rest some all = (and_parts _ _ all).0

-- identifiers, integers and reserved words
pub plain_word : (text rest : List ℕ) (k : TokenKind) → 0 < length text → word_kind text ≡ Some k → Calm rest →
    IsWord text rest
plain_word text rest k some is calm =
    let all = (word_run text k is).run.all in
    let long = length-append text rest in
    let run = run_is _ text rest all calm in
    let back = take-append_seam text rest in
    record {
      kind = k;
      token = λ here. word_found _ (starts text rest some all) _ k here
          (omega (arith, long, some)) (sym run) (sym is ∙ ap word_kind (sym back));
    }

one_two : (c : ℕ) (rest : List ℕ) → is_mark (c ∷ slice_index rest 0 ∷ []) ≡ false →
    (nat_le 2 (length (c ∷ rest)) && is_mark (take 2 (c ∷ rest))) ≡ false
one_two c [] h = refl
one_two c (b ∷ rest) h = ap (λ x. nat_le 2 (length (c ∷ b ∷ rest)) && x) h ∙
    and-false (nat_le 2 (length (c ∷ b ∷ rest)))

one_three : (c : ℕ) (rest : List ℕ) → ((d : ℕ) → is_mark (c ∷ slice_index rest 0 ∷ d ∷ []) ≡ false) →
    (nat_le 3 (length (c ∷ rest)) && is_mark (take 3 (c ∷ rest))) ≡ false
one_three c [] h = refl
one_three c (b ∷ []) h = refl
one_three c (b ∷ d ∷ rest) h = ap (λ x. nat_le 3 (length (c ∷ b ∷ d ∷ rest)) && x) (h d) ∙
    and-false (nat_le 3 (length (c ∷ b ∷ d ∷ rest)))

two_three : (c e : ℕ) (rest : List ℕ) → is_mark (c ∷ e ∷ slice_index rest 0 ∷ []) ≡ false →
    (nat_le 3 (length (c ∷ e ∷ rest)) && is_mark (take 3 (c ∷ e ∷ rest))) ≡ false
two_three c e [] h = refl
two_three c e (d ∷ rest) h = ap (λ x. nat_le 3 (length (c ∷ e ∷ d ∷ rest)) && x) h ∙
    and-false (nat_le 3 (length (c ∷ e ∷ d ∷ rest)))

-- a mark of one byte
pub one_word : (c : ℕ) (rest : List ℕ) → is_mark (c ∷ []) ≡ true → is_name_byte c ≡ false → (c == 35) ≡ false →
    begins_block_comment (c ∷ rest) ≡ false → begins_line_comment (c ∷ rest) ≡ false →
    is_mark (c ∷ slice_index rest 0 ∷ []) ≡ false → ((d : ℕ) → is_mark (c ∷ slice_index rest 0 ∷ d ∷ []) ≡ false) →
    IsWord (c ∷ []) rest
one_word c rest is name line block comment two three =
    let some : 0 < length (c ∷ rest) = omega arith in
    record {
      kind = kind.Mark;
      token = λ here.
          mark_one _ some name (λ e. false≢true (sym line ∙ eq-eqb c 35 e)) (one_three c rest three)
          (one_two c rest two)
          (and_from _ _ (le-leb 1 _ (omega arith)) is)
          (λ b. false≢true (sym block ∙ b)) (λ b. false≢true (sym comment ∙ b)) here;
    }

-- a mark of two bytes
pub two_word : (c e : ℕ) (rest : List ℕ) → is_mark (c ∷ e ∷ []) ≡ true → is_name_byte c ≡ false → (c == 35) ≡ false →
    begins_block_comment (c ∷ e ∷ rest) ≡ false → begins_line_comment (c ∷ e ∷ rest) ≡ false →
    is_mark (c ∷ e ∷ slice_index rest 0 ∷ []) ≡ false → IsWord (c ∷ e ∷ []) rest
two_word c e rest is name line block comment three =
    let some : 0 < length (c ∷ e ∷ rest) = omega arith in
    record {
      kind = kind.Mark;
      token = λ here.
          mark_two _ some name (λ e. false≢true (sym line ∙ eq-eqb c 35 e)) (two_three c e rest three) (and_from _ _
          (le-leb 2 _ (omega arith)) is) (λ b. false≢true (sym block ∙ b)) (λ b. false≢true (sym comment ∙ b)) here;
    }

-- a mark that no longer mark begins with
pub lone_word : {text : List ℕ} {m : Mark} → Lone text m → (rest : List ℕ) → IsWord text rest
unfolding is_mark
lone_word arrow rest = two_word 45 62 rest refl refl refl refl refl refl
lone_word plus_plus rest = two_word 43 43 rest refl refl refl refl refl refl
lone_word _ rest = one_word _ rest refl refl refl refl refl refl (λ d. refl)

-- an operator before a blank
pub binary_word : (op : BinaryOp) (rest : List ℕ) → IsWord (binary_text op) (32 ∷ rest)
unfolding is_mark
binary_word binary.OrElse rest = two_word 124 124 _ refl refl refl refl refl refl
binary_word binary.AndAlso rest = two_word 38 38 _ refl refl refl refl refl refl
binary_word binary.Equal rest = two_word 61 61 _ refl refl refl refl refl refl
binary_word binary.NotEqual rest = two_word 33 61 _ refl refl refl refl refl refl
binary_word binary.LessEqual rest = two_word 60 61 _ refl refl refl refl refl refl
binary_word binary.GreaterEqual rest = two_word 62 61 _ refl refl refl refl refl refl
binary_word binary.ShiftLeft rest = two_word 60 60 _ refl refl refl refl refl refl
binary_word binary.ShiftRight rest = two_word 62 62 _ refl refl refl refl refl refl
binary_word _ rest = one_word _ _ refl refl refl refl refl refl (λ d. refl)

-- the bytes that may stand in a mark after its first
abbrev pub is_loud : ℕ → Bool
is_loud b = b == 43 || b == 45 || b == 38 || b == 124 || b == 60 || b == 61 || b == 62

-- the first byte doesn't go on with a mark
abbrev pub Quiet : List ℕ → Type 0
Quiet text = is_loud (slice_index text 0) ≡ false

no_mark : (c : ℕ) (b : ℕ) (more : List ℕ) → is_loud b ≡ false → is_mark (c ∷ b ∷ more) ≡ false
unfolding is_mark
no_mark c b more h = no_table (λ text. list_all is_loud (drop 1 text)) marks (c ∷ b ∷ more) refl (rw h)

-- `+`, `-` and `&`
pub data IsSign : ℕ → Type 0 where
  plus : IsSign 43
  minus : IsSign 45
  ampersand : IsSign 38

-- What follows an operator doesn't run into it.
pub data Opens (before text : List ℕ) : Type 0 where
  quiet : Quiet text → Opens before text
  sign : IsSign (slice_index text 0) → (before ≡ slice_index text 0 ∷ [] → ⊥) → Opens before text

-- the byte of a unary operator
pub data IsPrefix : ℕ → Type 0 where
  signed : {c : ℕ} → IsSign c → IsPrefix c
  bang : IsPrefix 33
  asterisk : IsPrefix 42
  tilde : IsPrefix 126

pairs : {c b : ℕ} → IsSign b → IsPrefix c → ((c ∷ []) ≡ b ∷ [] → ⊥) →
    (is_mark (c ∷ b ∷ []) ≡ false) × ((d : ℕ) → is_mark (c ∷ b ∷ d ∷ []) ≡ false)
unfolding is_mark
pairs plus (signed plus) h = absurd (h refl)
pairs minus (signed minus) h = absurd (h refl)
pairs ampersand (signed ampersand) h = absurd (h refl)
pairs _ _ h = (refl, λ d. refl)

sign_word : {c : ℕ} (p : IsPrefix c) (rest : List ℕ) → is_mark (c ∷ []) ≡ true → is_name_byte c ≡ false →
    (c == 35) ≡ false → begins_block_comment (c ∷ rest) ≡ false → begins_line_comment (c ∷ rest) ≡ false →
    Opens (c ∷ []) rest → IsWord (c ∷ []) rest
sign_word {c} p rest is name line block comment (quiet q) =
    one_word c rest is name line block comment (no_mark c _ [] q) (λ d. no_mark c _ _ q)
sign_word {c} p rest is name line block comment (sign s other) = let both = pairs s p other in
    one_word c rest is name line block comment both.0 both.1

pub prefix_word : {c : ℕ} → IsPrefix c → (rest : List ℕ) → Opens (c ∷ []) rest → IsWord (c ∷ []) rest
unfolding is_mark
prefix_word (signed plus) rest o = sign_word (signed plus) rest refl refl refl refl refl o
prefix_word p rest o = sign_word p rest refl refl refl refl refl o

pub equal_word : (rest : List ℕ) → IsWord (codes "=") (32 ∷ rest)
unfolding is_mark
equal_word rest = one_word 61 _ refl refl refl refl refl refl (λ d. refl)

keyword_some : (w : Keyword) → 0 < length (keyword_text w)
keyword_some keyword.Break = omega arith
keyword_some _ = omega arith

keyword_kind : (w : Keyword) → word_kind (keyword_text w) ≡ Some kind.Reserved
unfolding word_kind is_reserved
keyword_kind keyword.Break = refl
keyword_kind _ = refl

pub keyword_word : (w : Keyword) (rest : List ℕ) → Calm rest → IsWord (keyword_text w) rest
keyword_word w rest calm = plain_word _ rest kind.Reserved (keyword_some w) (keyword_kind w) calm

-- Each word among the pieces is the token at its place, where this text follows the pieces.
pub data Tidy : List Piece → List ℕ → Type 0 where
  none : {rest : List ℕ} → Tidy [] rest
  gap : {pieces : List Piece} {rest : List ℕ} → Tidy pieces rest → Tidy (blank ∷ pieces) rest
  at_level : {pieces : List Piece} {rest : List ℕ} (levels : ℕ) → Tidy pieces rest → Tidy (indent levels ∷ pieces) rest
  line_end : {pieces : List Piece} {rest : List ℕ} → Tidy pieces rest → Tidy (newline ∷ pieces) rest
  next : {text : List ℕ} {pieces : List Piece} {rest : List ℕ} → IsWord text (text_of pieces ++ rest) →
      Tidy pieces rest → Tidy (word text ∷ pieces) rest

-- a mark that no longer mark begins with, whatever follows it
pub lone : {text : List ℕ} {m : Mark} {pieces : List Piece} {rest : List ℕ} → Lone text m → Tidy pieces rest →
    Tidy (word text ∷ pieces) rest
lone is t = next (lone_word is _) t

following : (a b : List Piece) (rest : List ℕ) → text_of (a ++ b) ++ rest ≡ text_of a ++ (text_of b ++ rest)
following a b rest = ap (λ x. x ++ rest) (flat_map-append _ a b) ∙ append_assoc _ _ rest

go_on : (b : List Piece) (rest : List ℕ) {a : List Piece} {r : List ℕ} → Tidy a r → r ≡ text_of b ++ rest →
    Tidy b rest → Tidy (a ++ b) rest
go_on b rest none e d = d
go_on b rest (gap t) e d = gap (go_on b rest t e d)
go_on b rest (at_level levels t) e d = at_level levels (go_on b rest t e d)
go_on b rest (line_end t) e d = line_end (go_on b rest t e d)
go_on b rest (next {text = text} {pieces = pieces} {rest = r} w t) e d = next
    (subst (λ x. IsWord text x) (ap (λ x. text_of pieces ++ x) e ∙ sym (following pieces b rest)) w)
    (go_on b rest t e d)

pub tidy_append : (a b : List Piece) (rest : List ℕ) → Tidy a (text_of b ++ rest) → Tidy b rest → Tidy (a ++ b) rest
tidy_append a b rest t d = go_on b rest t refl d

-- names and integers begin quietly
pub other : (b n : ℕ) → is_name_byte b ≡ true → is_name_byte n ≡ false → (b == n) ≡ false
other b n h q = ne_eqb b n (λ e. false≢true (sym q ∙ ap is_name_byte (sym e) ∙ h))

name_quiet : (b : ℕ) → is_name_byte b ≡ true → is_loud b ≡ false
name_quiet b h = rw (
  other b 43 h refl,
  other b 45 h refl,
  other b 38 h refl,
  other b 124 h refl,
  other b 60 h refl,
  other b 61 h refl,
  other b 62 h refl,
)

pub word_quiet : (text rest : List ℕ) (k : TokenKind) → 0 < length text → word_kind text ≡ Some k → Quiet (text ++ rest)
word_quiet text rest k some is = name_quiet (slice_index (text ++ rest) 0)
    (starts text rest some (word_run text k is).run.all)

-- what an expression of the two tightest levels begins with
abbrev Leads : List ℕ → ℕ → List ℕ → Type 0
Leads before level text = (level ≡ 0 → Quiet text) × (level ≡ 1 → Opens before text)

from_quiet : (before : List ℕ) (level : ℕ) (text : List ℕ) → Quiet text → Leads before level text
from_quiet before level text q = (λ e. q, λ e. quiet q)

quiet_append : (a b : List Piece) (rest : List ℕ) → Quiet (text_of a ++ (text_of b ++ rest)) →
    Quiet (text_of (a ++ b) ++ rest)
quiet_append a b rest q = subst (λ x. Quiet x) (sym (following a b rest)) q

-- pieces that stand apart, whatever calm text follows them
abbrev pub Sound : List Piece → Type 0
Sound pieces = (rest : List ℕ) → Calm rest → Tidy pieces rest

parens_tidy : (wanted : Bool) (pieces : List Piece) → Sound pieces → Sound (in_parens wanted pieces)
parens_tidy true pieces t rest calm = lone open_paren (tidy_append pieces (word (codes ")") ∷ []) rest
    (t (text_of (word (codes ")") ∷ []) ++ rest) refl) (lone close_paren none))
parens_tidy false pieces t rest calm = subst (λ x. Tidy x rest) (sym (append-nil pieces)) (t rest calm)

abbrev Fits : Printed → Type 0
Fits p = (before : List ℕ) (level : ℕ) (rest : List ℕ) → Calm rest →
    Tidy (p before level) rest × Leads before level (text_of (p before level) ++ rest)

twice : {c : ℕ} → IsSign c → (bytes_eq (c ∷ []) (c ∷ []) && is_doubled (c ∷ [])) ≡ true
twice plus = refl
twice _ = refl

doubled : {c : ℕ} → IsPrefix c → (before text : List ℕ) → (bytes_eq before (c ∷ []) && is_doubled (c ∷ [])) ≡ false →
    Opens before (c ∷ text)
doubled {c} (signed s) before text q =
    sign s (λ e. false≢true (sym q ∙ ap (λ x. bytes_eq x (c ∷ []) && is_doubled (c ∷ [])) e ∙ twice s))
doubled _ before text q = quiet refl

-- a unary operator before its operand
module _ {c : ℕ} (p : IsPrefix c) (of : Printed) (fit : Fits of) where
  with_gap : (wanted : Bool) → Sound ((if wanted then blank ∷ [] else []) ++ word (c ∷ []) ∷ of (c ∷ []) 1)
  with_gap true rest calm = let f = fit _ 1 rest calm in gap (next (prefix_word p _ (f.1.1 refl)) f.0)
  with_gap false rest calm = let f = fit _ 1 rest calm in next (prefix_word p _ (f.1.1 refl)) f.0

  opens_at : (before : List ℕ) (wanted : Bool) → (bytes_eq before (c ∷ []) && is_doubled (c ∷ [])) ≡ wanted →
      (rest : List ℕ) → Opens before (text_of (in_parens false
      ((if wanted then blank ∷ [] else []) ++ word (c ∷ []) ∷ of (c ∷ []) 1)) ++ rest)
  opens_at before true q rest = quiet refl
  opens_at before false q rest = doubled p before _ q

  prefix_tidy : Fits (prefix_words (c ∷ []) of)
  prefix_tidy before level rest calm = (
    parens_tidy (nat_lt level 1) _ (with_gap (bytes_eq before (c ∷ []) && is_doubled (c ∷ []))) rest calm,
    (
      λ e. subst (λ n. Quiet (text_of (prefix_words (c ∷ []) of before n) ++ rest)) (sym e) refl,
      λ e. subst (λ n. Opens before (text_of (prefix_words (c ∷ []) of before n) ++ rest)) (sym e)
          (opens_at before (bytes_eq before (c ∷ []) && is_doubled (c ∷ [])) refl rest),
    ),
  )

abbrev Holds : ExprTree → Type 0
Holds e = IsTrue (is_kept e) → Fits (words_at e)

-- an operator between its operands
binary_tidy : (op : BinaryOp) (left right : Printed) → Fits left → Fits right → Fits (binary_words op left right)
binary_tidy op left right at_left at_right before level rest calm = (
  parens_tidy (nat_lt level (levels.level_of op)) _ plain rest calm,
  (λ e. leading (omega (arith, e)), λ e. quiet (leading (omega (arith, e)))),
)
  where
    plain : Sound (left [] (levels.level_of op) ++ blank ∷ word (binary_text op) ∷ blank ∷
        right [] (levels.level_of op - 1))
    plain r c = tidy_append (left [] (levels.level_of op)) _ r (at_left [] _ _ refl).0
        (gap (next (binary_word op _) (gap (at_right [] _ r c).0)))

    leading : level ≤ 1 → Quiet (text_of (binary_words op left right before level) ++ rest)
    leading low =
        let high = at_least_2 op in
        let wanted : nat_lt level (levels.level_of op) ≡ true =
        lt-ltb level (levels.level_of op) (omega (arith, low, high)) in
        subst (λ b. Quiet (text_of (in_parens b (left [] (levels.level_of op) ++ blank ∷ word (binary_text op) ∷ blank ∷
        right [] (levels.level_of op - 1))) ++ rest)) (sym wanted) refl

-- what follows a postfix expression
after_tidy : (base : Printed) (more : List Piece) → Fits base →
    ((rest : List ℕ) → Calm rest → Calm (text_of more ++ rest) × Tidy more rest) →
    Fits (λ before level. base [] 0 ++ more)
after_tidy base more fit on before level rest calm =
    let o = on rest calm in
    let b = fit [] 0 _ o.0 in (
      tidy_append _ more rest b.0 o.1,
      from_quiet before level _ (quiet_append (base [] 0) more rest (b.1.0 refl)),
    )

unary_tidy : (op : UnaryOp) (of : Printed) → Fits of → Fits (prefix_words (unary_text op) of)
unary_tidy unary.Minus = prefix_tidy (signed minus)
unary_tidy unary.Plus = prefix_tidy (signed plus)
unary_tidy unary.Not = prefix_tidy bang
unary_tidy unary.BitNot = prefix_tidy tilde

one_word_tidy : (text : List ℕ) (k : TokenKind) → 0 < length text → word_kind text ≡ Some k →
    Fits (λ before level. word text ∷ [])
one_word_tidy text k some is before level rest calm =
    let e = append-nil text in (
      next (plain_word text rest k some is calm) none,
      from_quiet before level _ (subst (λ x. Quiet (x ++ rest)) (sym e) (word_quiet text rest k some is)),
    )

named_tidy : (mark : List ℕ) (name : List ℕ) → ((rest : List ℕ) → IsWord mark rest) →
    ((rest : List ℕ) → Calm (mark ++ rest)) → IsTrue (is_ident name) → (rest : List ℕ) → Calm rest →
    Calm (text_of (word mark ∷ word name ∷ []) ++ rest) × Tidy (word mark ∷ word name ∷ []) rest
named_tidy mark name at calm_at ident rest calm = (
  subst (λ x. Calm x) (sym (append_assoc mark (name ++ []) rest)) (calm_at ((name ++ []) ++ rest)),
  next (at _) (next (plain_word name rest kind.Ident (name_some name ident) (name_kind name ident) calm) none),
)

-- names and types
pub name_tidy : (name : List ℕ) → IsTrue (is_ident name) → (rest : List ℕ) → Calm rest → IsWord name rest
name_tidy name ident rest calm = plain_word name rest kind.Ident (name_some name ident) (name_kind name ident) calm

pub base_tidy : (b : BaseTree) → IsTrue (kept_base b) → Sound (base_words b)
base_tidy base.Int k rest calm = next (keyword_word keyword.Int _ calm) none
base_tidy base.Unsigned k rest calm = next (keyword_word keyword.Unsigned _ refl)
    (gap (next (keyword_word keyword.Int _ calm) none))
base_tidy (base.Struct tag) k rest calm = next (keyword_word keyword.Struct _ refl)
    (gap (next (name_tidy tag k _ calm) none))

stars_quiet : (stars : ℕ) (rest : List ℕ) → Quiet rest → Quiet (text_of (star_words stars) ++ rest)
stars_quiet zero rest q = q
stars_quiet (suc n) rest q = refl

pub stars_tidy : (stars : ℕ) (rest : List ℕ) → Quiet rest → Tidy (star_words stars) rest
stars_tidy zero rest q = none
stars_tidy (suc n) rest q = next (prefix_word asterisk _ (quiet (stars_quiet n rest q))) (stars_tidy n rest q)

pub gap_if : (wanted : Bool) (pieces : List Piece) (rest : List ℕ) → Tidy pieces rest →
    Tidy (blank_if wanted ++ pieces) rest
gap_if true pieces rest t = gap t
gap_if false pieces rest t = t

pub calm_if : (wanted : Bool) (pieces : List Piece) (rest : List ℕ) → Calm (text_of pieces ++ rest) →
    Calm (text_of (blank_if wanted ++ pieces) ++ rest)
calm_if true pieces rest calm = refl
calm_if false pieces rest calm = calm

type_tidy : (b : BaseTree) (stars : ℕ) → IsTrue (kept_base b) → (rest : List ℕ) → Calm rest → Quiet rest →
    Tidy (base_words b ++ (blank_if (nat_lt 0 stars) ++ star_words stars)) rest
type_tidy b zero k rest calm q = tidy_append (base_words b) [] rest (base_tidy b k rest calm) none
type_tidy b (suc n) k rest calm q =
    let wanted = nat_lt 0 (suc n) in
    let pieces = star_words (suc n) in
    tidy_append (base_words b) (blank_if wanted ++ pieces) rest (base_tidy b k _ (calm_if wanted pieces rest refl))
    (gap_if wanted pieces rest (stars_tidy (suc n) rest q))

size_tidy : (of : TypeName) → IsTrue (kept_base of.base) → Fits (λ before level. sizeof_words of)
size_tidy of k before level rest calm = (
  next (keyword_word keyword.Sizeof _ refl) (lone open_paren (tidy_append (type_words of) (word (codes ")") ∷ []) rest
      (type_tidy of.base of.stars k _ refl refl) (lone close_paren none))),
  from_quiet before level _ refl,
)

-- each form of expression
form : (t : ExprTree-F ExprTree) → Under Holds t → IsTrue (kept_step (map-ExprTree _ _ is_kept t)) →
    Fits (expr_step (map-ExprTree _ _ words_at t))
form (term.Literal number) u k = one_word_tidy _ kind.Integer (literal_some number k) (literal_kind number k)
form (term.Variable name) u k = one_word_tidy name kind.Ident (name_some name k) (name_kind name k)
form (term.Unary op of) u k = unary_tidy op (words_at of) (u k)
form (term.Binary op left right) u k =
    let parts = and_parts (is_kept left) (is_kept right) k in
    binary_tidy op (words_at left) (words_at right) (u.0 parts.0) (u.1 parts.1)
form (term.Index base place) u k =
    let parts = and_parts (is_kept base) (is_kept place) k in
    after_tidy (words_at base) _ (u.0 parts.0) (λ r c. (
      refl,
      lone open_square (tidy_append (words_at place [] 11) (word (codes "]") ∷ []) r
          (u.1 parts.1 [] 11 _ refl).0 (lone close_square none)),
    ))
form (term.Member base name) u k =
    let parts = and_parts (is_kept base) (is_ident name) k in
    after_tidy (words_at base) _ (u parts.0) (named_tidy (codes ".") name (lone_word dot) (λ r. refl) parts.1)
form (term.Arrow base name) u k =
    let parts = and_parts (is_kept base) (is_ident name) k in
    after_tidy (words_at base) _ (u parts.0) (named_tidy (codes "->") name (lone_word arrow) (λ r. refl) parts.1)
form (term.Deref of) u k = prefix_tidy asterisk (words_at of) (u k)
form (term.Address of) u k = prefix_tidy (signed ampersand) (words_at of) (u k)
form (term.SizeOf of) u k = size_tidy of k

pub tidy_at : (e : ExprTree) → Holds e
tidy_at = expr_induction Holds (λ t u kept before level rest calm.
    let eq = expr_at expr_step t in
    subst (λ f. Tidy (f before level) rest × Leads before level (text_of (f before level) ++ rest)) (sym eq)
    (form t u (subst (λ b. IsTrue b) (expr_at _ t) kept) before level rest calm))
