-- What was read where the reading of a policy comes to a line, and what ends it.
use Rattle.sc_policy.proofs.Common.{BeginsPolicy, Closed, Err, HasBadLine, IsErrOf, IsPolicy, IsPolicyRead, List, None}
use Rattle.sc_policy.proofs.Common.{Open, Option, Policy, PolicyRead, Progress, Some, Start, Text, Titled, [], after}
use Rattle.sc_policy.proofs.Common.{after_all, ap, append-nil, append_assoc, arith, bytes_of, drop, get_or, inl, inr}
use Rattle.sc_policy.proofs.Common.{length, length-append, lines_of, min, option_and_then, refl, slice_range, subst}
use Rattle.sc_policy.proofs.Common.{suc, sym, take, take_more, take_prefix, zero, ℕ, ◌++◌, ◌+◌, ◌-◌, ◌<◌, ◌∙◌, ◌∷◌, ◌≡◌}
use Rattle.sc_policy.proofs.Common.{◌≤◌}
use Rattle.sc_policy.proofs.Drafts.{IsReached, after_more, begins, nothing_after, policy_is_read, reached_more}
use Rattle.sc_policy.specs.declared.fault.PolicyFault.{PolicyFault}
use Rattle.sc_policy.specs.declared.fault.PolicyFault.TheVariants.{Bad}

abbrev pub IsUnclosed : Progress → Type 0
IsUnclosed Start = Unit {0}
IsUnclosed (Titled name) = Unit {0}
IsUnclosed (Open policy) = Unit {0}
IsUnclosed (Closed policy) = ⊥

pub unclosed_so : (now : Progress) → ((policy : Policy) → now ≡ Closed policy → ⊥) → IsUnclosed now
unclosed_so Start not_closed = tt
unclosed_so (Titled name) not_closed = tt
unclosed_so (Open policy) not_closed = tt
unclosed_so (Closed policy) not_closed = not_closed policy refl

-- the lines before a place, and the number of the line that begins there
pub record IsSeen (text : List ℕ) (at : ℕ) (progress : Progress) (number : ℕ) : Type 0 where
  pub seen : List Text
  pub lines : lines_of text ≡ seen ++ lines_of (drop at text)
  pub prefix : take at text ≡ bytes_of seen
  pub read : after_all (Some Start) seen ≡ Some progress
  pub unclosed : IsUnclosed progress
  pub within : at ≤ length text
  pub counted : number ≡ min (suc (length seen)) 4294967295

-- the line from one place to another
pub record IsNextLine (text : List ℕ) (at end : ℕ) : Type 0 where
  pub from : at ≤ end
  pub within : end < length text
  pub newline : get_or text end 0 ≡ 10
  pub line : lines_of (drop at text) ≡ slice_range text at end ∷ lines_of (drop (end + 1) text)

pub next_is : (text : List ℕ) (at end : ℕ) → (at ≤ end) × (end < length text) → get_or text end 0 ≡ 10 →
    lines_of (drop at text) ≡ slice_range text at end ∷ lines_of (drop (end + 1) text) → IsNextLine text at end
next_is text at end within newline line =
    record { from = within.0; within = within.1; newline = newline; line = line }

-- ---- bytes

take_sum : (n k m : ℕ) (xs : List ℕ) → m ≡ n + k → take m xs ≡ take n xs ++ take k (drop n xs)
take_sum zero k m xs is = let same : m ≡ k = omega (arith, is) in ap (λ n. take n xs) same
take_sum (suc n) k zero xs is = absurd (omega (arith, is))
take_sum (suc n) zero (suc m) [] is = refl
take_sum (suc n) (suc k) (suc m) [] is = refl
take_sum (suc n) k (suc m) (x ∷ xs) is = ap (λ rest. x ∷ rest) (take_sum n k m xs (omega (arith, is)))

bytes_more : (lines : List Text) (line : Text) → bytes_of (lines ++ line ∷ []) ≡ bytes_of lines ++ (line ++ 10 ∷ [])
bytes_more [] line = append-nil (line ++ 10 ∷ [])
bytes_more (first ∷ lines) line = ap (λ rest. (first ++ 10 ∷ []) ++ rest) (bytes_more lines line) ∙
    sym (append_assoc (first ++ 10 ∷ []) (bytes_of lines) (line ++ 10 ∷ []))

prefix_more : (text : List ℕ) (at end : ℕ) (seen : List Text) → take at text ≡ bytes_of seen → IsNextLine text at end →
    take (end + 1) text ≡ bytes_of (seen ++ slice_range text at end ∷ [])
prefix_more text at end seen prefix next =
    let line = slice_range text at end in
    let sum : end ≡ at + (end - at) = omega (arith, next.from) in
    take_more text end 0 next.within ∙ ap (λ byte. take end text ++ byte ∷ []) next.newline ∙
    ap (λ xs. xs ++ 10 ∷ []) (take_sum at (end - at) end text sum) ∙
    append_assoc (take at text) line (10 ∷ []) ∙ ap (λ xs. xs ++ (line ++ 10 ∷ [])) prefix ∙
    sym (bytes_more seen line)

-- ---- lines

lines_more : (text : List ℕ) (at end : ℕ) (seen : List Text) → lines_of text ≡ seen ++ lines_of (drop at text) →
    IsNextLine text at end →
    lines_of text ≡ (seen ++ slice_range text at end ∷ []) ++ lines_of (drop (end + 1) text)
lines_more text at end seen lines next = lines ∙ ap (λ rest. seen ++ rest) next.line ∙
    sym (append_assoc seen (slice_range text at end ∷ []) (lines_of (drop (end + 1) text)))

read_more : (seen : List Text) (line : Text) (now : Progress) (next : Option Progress) →
    after_all (Some Start) seen ≡ Some now → after now line ≡ next → after_all (Some Start) (seen ++ line ∷ []) ≡ next
read_more seen line now next read is = after_more (Some Start) seen (line ∷ []) ∙
    ap (λ o. option_and_then (λ now. after now line) o) read ∙ is

pub see_more : (text : List ℕ) (at end : ℕ) (now next : Progress) (number : ℕ) → IsSeen text at now number →
    IsNextLine text at end → after now (slice_range text at end) ≡ Some next → IsUnclosed next →
    IsSeen text (end + 1) next (min (number + 1) 4294967295)
see_more text at end now next number is line leads unclosed = record {
  seen = is.seen ++ slice_range text at end ∷ [];
  lines = lines_more text at end is.seen is.lines line;
  prefix = prefix_more text at end is.seen is.prefix line;
  read = read_more is.seen (slice_range text at end) now (Some next) is.read leads;
  unclosed = unclosed;
  within = omega (arith, line.within);
  counted = omega (arith, is.counted, length-append is.seen (slice_range text at end ∷ []));
}

pub reached_all : (before lines : List Text) (now next : Progress) → IsReached before now →
    after_all (Some now) lines ≡ Some next → IsReached (before ++ lines) next
reached_all before [] now next reached is =
    let same : now ≡ next = cc in
    subst (λ ls. IsReached ls next) (sym (append-nil before)) (subst (λ p. IsReached before p) same reached)
reached_all before (line ∷ lines) now next reached is =
    go (λ mid. reached_all (before ++ line ∷ []) lines mid next) (after now line) refl is
  where
    go : ((mid : Progress) → IsReached (before ++ line ∷ []) mid → after_all (Some mid) lines ≡ Some next →
        IsReached ((before ++ line ∷ []) ++ lines) next) → (o : Option Progress) → after now line ≡ o →
        after_all o lines ≡ Some next → IsReached (before ++ line ∷ lines) next
    go on None none is =
        let no : ◌≡◌ {A = Option Progress} None (Some next) = sym (nothing_after lines) ∙ is in absurd (cc)
    go on (Some mid) some is = subst (λ ls. IsReached ls next) (append_assoc before (line ∷ []) lines)
        (on mid (reached_more before line now mid reached some) is)

pub reached : (lines : List Text) (now : Progress) → after_all (Some Start) lines ≡ Some now → IsReached lines now
reached lines now is = reached_all [] lines Start now refl is

-- the policy whose last line is read
pub read_to_the_end : (text : List ℕ) (at end : ℕ) (now : Progress) (policy : Policy) (number : ℕ) →
    IsSeen text at now number → IsNextLine text at end → after now (slice_range text at end) ≡ Some (Closed policy) →
    IsPolicyRead text (record { policy = policy; rest = end + 1 })
read_to_the_end text at end now policy number is line leads = record {
  lines = is.seen ++ slice_range text at end ∷ [];
  is = reached (is.seen ++ slice_range text at end ∷ []) (Closed policy)
      (read_more is.seen (slice_range text at end) now (Some (Closed policy)) is.read leads);
  prefix = prefix_more text at end is.seen is.prefix line;
  within = omega (arith, line.within);
}

-- ---- bad lines

-- reading goes no further
abbrev IsStuck : Progress → List Text → Type 0
IsStuck now [] = Unit {0}
IsStuck now (line ∷ rest) = after now line ≡ None

never_closed : (from : Progress) (seen rest : List Text) (count : ℕ) (now : Progress) (policy : Policy) →
    after_all (Some from) seen ≡ Some now → IsUnclosed now → IsStuck now rest →
    after_all (Some from) (take count (seen ++ rest)) ≡ Some (Closed policy) → ⊥
never_closed from [] rest count now policy read unclosed stuck closed =
    let same : from ≡ now = cc in
    ended rest count stuck (subst (λ p. after_all (Some p) (take count rest) ≡ Some (Closed policy)) same closed)
  where
    here : ◌≡◌ {A = Option Progress} (Some now) (Some (Closed policy)) → ⊥
    here is = let same : now ≡ Closed policy = cc in subst IsUnclosed same unclosed

    ended : (rest : List Text) (count : ℕ) → IsStuck now rest →
        after_all (Some now) (take count rest) ≡ Some (Closed policy) → ⊥
    ended [] zero stuck closed = here closed
    ended [] (suc count) stuck closed = here closed
    ended (line ∷ rest) zero stuck closed = here closed
    ended (line ∷ rest) (suc count) stuck closed =
        let never = ap (λ o. after_all o (take count rest)) stuck ∙ nothing_after (take count rest) in
        let no : ◌≡◌ {A = Option Progress} None (Some (Closed policy)) = sym never ∙ closed in absurd (cc)
never_closed from (line ∷ seen) rest zero now policy read unclosed stuck closed =
    let same : from ≡ Closed policy = cc in
    let never = ap (λ p. after_all (after p line) seen) same ∙ nothing_after seen in
    let no : ◌≡◌ {A = Option Progress} None (Some now) = sym never ∙ read in absurd (cc)
never_closed from (line ∷ seen) rest (suc count) now policy read unclosed stuck closed =
    go (λ mid read closed. never_closed mid seen rest count now policy read unclosed stuck closed)
    (after from line) read closed
  where
    go : ((mid : Progress) → after_all (Some mid) seen ≡ Some now →
        after_all (Some mid) (take count (seen ++ rest)) ≡ Some (Closed policy) → ⊥) → (o : Option Progress) →
        after_all o seen ≡ Some now → after_all o (take count (seen ++ rest)) ≡ Some (Closed policy) → ⊥
    go on None read closed =
        let no : ◌≡◌ {A = Option Progress} None (Some now) = sym (nothing_after seen) ∙ read in absurd (cc)
    go on (Some mid) read closed = on mid read closed

-- no policy is read from lines on which reading is stuck
pub none_is_read : (lines seen rest : List Text) (now : Progress) → lines ≡ seen ++ rest →
    after_all (Some Start) seen ≡ Some now → IsUnclosed now → IsStuck now rest → (count : ℕ) (policy : Policy) →
    IsPolicy (take count lines) policy → ⊥
none_is_read lines seen rest now are read unclosed stuck count policy is =
    never_closed Start seen rest count now policy read unclosed stuck
    (ap (λ ls. after_all (Some Start) (take count ls)) (sym are) ∙ policy_is_read (take count lines) policy is)

begins_before : (lines seen rest : List Text) (now : Progress) → lines ≡ seen ++ rest →
    after_all (Some Start) seen ≡ Some now → BeginsPolicy (take (suc (length seen) - 1) lines)
begins_before lines seen rest now are read =
    let count : suc (length seen) - 1 ≡ length seen = omega arith in
    let prefix : take (suc (length seen) - 1) lines ≡ seen =
    ap (λ n. take n lines) count ∙ ap (take (length seen)) are ∙ take_prefix seen rest in
    subst BeginsPolicy (sym prefix) (begins seen now (reached seen now read))

one_more : (seen : List Text) (line : Text) (rest : List Text) →
    take (suc (length seen)) (seen ++ line ∷ rest) ≡ seen ++ line ∷ []
one_more [] line rest = refl
one_more (first ∷ seen) line rest = ap (λ ls. first ∷ ls) (one_more seen line rest)

begins_none : (lines seen : List Text) (line : Text) (rest : List Text) (now : Progress) → lines ≡ seen ++ line ∷ rest →
    after_all (Some Start) seen ≡ Some now → after now line ≡ None → BeginsPolicy (take (suc (length seen)) lines) → ⊥
begins_none lines seen line rest now are read stuck begun =
    let prefix : take (suc (length seen)) lines ≡ seen ++ line ∷ [] =
    ap (take (suc (length seen))) are ∙ one_more seen line rest in
    let closed = policy_is_read (take (suc (length seen)) lines ++ begun.more) begun.policy begun.is in
    let never : after_all (Some Start) (take (suc (length seen)) lines ++ begun.more) ≡ None =
    ap (λ ls. after_all (Some Start) (ls ++ begun.more)) prefix ∙
    after_more (Some Start) (seen ++ line ∷ []) begun.more ∙
    ap (λ o. after_all o begun.more) (read_more seen line now None read stuck) ∙ nothing_after begun.more in
    let no : ◌≡◌ {A = Option Progress} None (Some (Closed begun.policy)) = sym never ∙ closed in absurd (cc)

pub bad_number : (text : List ℕ) (number : ℕ) → HasBadLine text number → (line : ℕ) →
    IsErrOf {T = PolicyRead} {E = PolicyFault} (Err (Bad number)) (Bad line) → HasBadLine text line
bad_number text number bad line is = let same : number ≡ line = cc in subst (λ n. HasBadLine text n) same bad

pub bad_line : (text : List ℕ) (at end : ℕ) (now : Progress) (number : ℕ) → IsSeen text at now number →
    IsNextLine text at end → after now (slice_range text at end) ≡ None → HasBadLine text number
bad_line text at end now number is line stuck =
    let rest = lines_of (drop (end + 1) text) in
    let are = is.lines ∙ ap (λ ls. is.seen ++ ls) line.line in record {
      first = suc (length is.seen);
      bad = record {
        none = none_is_read (lines_of text) is.seen (slice_range text at end ∷ rest) now are is.read is.unclosed
            stuck;
        some = omega arith;
        before = begins_before (lines_of text) is.seen (slice_range text at end ∷ rest) now are is.read;
        at = inl (begins_none (lines_of text) is.seen (slice_range text at end) rest now are is.read stuck);
      };
      number = is.counted;
    }

pub bad_end : (text : List ℕ) (at : ℕ) (now : Progress) (number : ℕ) → IsSeen text at now number →
    lines_of (drop at text) ≡ [] → HasBadLine text number
bad_end text at now number is past =
    let are = is.lines ∙ ap (λ ls. is.seen ++ ls) past in record {
      first = suc (length is.seen);
      bad = record {
        none = none_is_read (lines_of text) is.seen [] now are is.read is.unclosed tt;
        some = omega arith;
        before = begins_before (lines_of text) is.seen [] now are is.read;
        at = inr (ap (λ ls. suc (length ls)) (sym (are ∙ append-nil is.seen)));
      };
      number = is.counted;
    }
