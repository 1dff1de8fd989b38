-- Bytes begin with one policy at most, and where they begin with one no line is bad.
use Rattle.sc_policy.proofs.Common.{BeginsPolicy, Closed, IsBadAt, IsPolicy, IsPolicyRead, List, None, Option, Policy}
use Rattle.sc_policy.proofs.Common.{PolicyRead, Progress, Some, Start, Text, [], after, after_all, ap, append_assoc}
use Rattle.sc_policy.proofs.Common.{arith, bytes_of, cases_lt, drop, length, length-take-le, lines_of, refl, subst, suc}
use Rattle.sc_policy.proofs.Common.{sym, take, take-append-drop, take_all, take_prefix, zero, ℕ, ⊎_elim, ◌++◌, ◌-◌, ◌<◌}
use Rattle.sc_policy.proofs.Common.{◌∙◌, ◌∷◌, ◌≡◌, ◌≤◌}
use Rattle.sc_policy.proofs.Drafts.{nothing_after, policy_is_read}
use Rattle.sc_policy.proofs.Newlines.{lines_again, policy_is_plain}

-- ---- one policy

-- reading doesn't go on where a policy is closed
closed_before : (from : Progress) (one other : Policy) (line : Text) (lines : List Text) →
    ◌≡◌ {A = Option Progress} (Some from) (Some (Closed one)) →
    after_all (Some from) (line ∷ lines) ≡ Some (Closed other) → ⊥
closed_before from one other line lines here later =
    let same : from ≡ Closed one = cc in
    let never = ap (λ p. after_all (after p line) lines) same ∙ nothing_after lines in
    let no : ◌≡◌ {A = Option Progress} None (Some (Closed other)) = sym never ∙ later in absurd (cc)

same_closed : (from : Progress) (one other : Policy) (xs ys more rest : List Text) →
    after_all (Some from) xs ≡ Some (Closed one) → after_all (Some from) ys ≡ Some (Closed other) →
    xs ++ more ≡ ys ++ rest → xs ≡ ys
same_closed from one other [] [] more rest first second same = refl
same_closed from one other [] (y ∷ ys) more rest first second same =
    absurd (closed_before from one other y ys first second)
same_closed from one other (x ∷ xs) [] more rest first second same =
    absurd (closed_before from other one x xs second first)
same_closed from one other (x ∷ xs) (y ∷ ys) more rest first second same =
    let head : x ≡ y = cc in
    let tail : xs ++ more ≡ ys ++ rest = cc in
    go (λ mid first second. same_closed mid one other xs ys more rest first second tail) head (after from x) first
    (ap (λ l. after_all (after from l) ys) head ∙ second)
  where
    go : ((mid : Progress) → after_all (Some mid) xs ≡ Some (Closed one) →
        after_all (Some mid) ys ≡ Some (Closed other) →
        xs ≡ ys) → x ≡ y → (o : Option Progress) → after_all o xs ≡ Some (Closed one) →
        after_all o ys ≡ Some (Closed other) → ◌≡◌ {A = List Text} (x ∷ xs) (y ∷ ys)
    go on head None first second =
        let no : ◌≡◌ {A = Option Progress} None (Some (Closed one)) = sym (nothing_after xs) ∙ first in absurd (cc)
    go on head (Some mid) first second = ap (λ l. l ∷ xs) head ∙ ap (λ ls. y ∷ ls) (on mid first second)

-- the lines of the bytes begin with those of the policy
pub lines_are : (bytes : List ℕ) (read : PolicyRead) (is : IsPolicyRead bytes read) →
    lines_of bytes ≡ is.lines ++ lines_of (drop read.rest bytes)
lines_are bytes read is =
    ap lines_of (sym (take-append-drop read.rest bytes) ∙ ap (λ xs. xs ++ drop read.rest bytes) is.prefix) ∙
    lines_again is.lines (drop read.rest bytes) (policy_is_plain is.lines read.policy is.is)

abbrev read_with : Policy → ℕ → PolicyRead
read_with policy rest = record { policy = policy; rest = rest }

pub one_read : (bytes : List ℕ) (one other : PolicyRead) → IsPolicyRead bytes one → IsPolicyRead bytes other →
    one ≡ other
one_read bytes one other first second =
    let first_read = policy_is_read first.lines one.policy first.is in
    let second_read = policy_is_read second.lines other.policy second.is in
    let lines = same_closed Start one.policy other.policy first.lines second.lines (lines_of (drop one.rest bytes))
    (lines_of (drop other.rest bytes)) first_read second_read
    (sym (lines_are bytes one first) ∙ lines_are bytes other second) in
    let closed : ◌≡◌ {A = Option Progress} (Some (Closed one.policy)) (Some (Closed other.policy)) =
    sym first_read ∙ ap (after_all (Some Start)) lines ∙ second_read in
    let policy : one.policy ≡ other.policy = cc in
    let bytes_are : take one.rest bytes ≡ take other.rest bytes =
    first.prefix ∙ ap bytes_of lines ∙ sym second.prefix in
    let rest : one.rest ≡ other.rest = sym (length-take-le one.rest bytes first.within) ∙ ap length bytes_are ∙
    length-take-le other.rest bytes second.within in
    ap (λ p. read_with p one.rest) policy ∙ ap (read_with other.policy) rest

-- ---- bad lines

pub read_or_bad : (bytes : List ℕ) (read : PolicyRead) (line : ℕ) → IsPolicyRead bytes read →
    IsBadAt (lines_of bytes) line → ⊥
read_or_bad bytes read line is bad =
    let first : take (length is.lines) (lines_of bytes) ≡ is.lines =
    ap (take (length is.lines)) (lines_are bytes read is) ∙ take_prefix is.lines (lines_of (drop read.rest bytes)) in
    bad.none (length is.lines) read.policy (subst (λ ls. IsPolicy ls read.policy) (sym first) is.is)

take_less : (n m : ℕ) (xs : List Text) → n ≤ m → take n (take m xs) ≡ take n xs
take_less zero m xs fewer = refl
take_less (suc n) zero xs fewer = absurd (omega (arith, fewer))
take_less (suc n) (suc m) [] fewer = refl
take_less (suc n) (suc m) (x ∷ xs) fewer = ap (λ rest. x ∷ rest) (take_less n m xs (omega (arith, fewer)))

begins_fewer : (lines : List Text) (n m : ℕ) → n ≤ m → BeginsPolicy (take m lines) → BeginsPolicy (take n lines)
begins_fewer lines n m fewer begins =
    let parts : take n lines ++ drop n (take m lines) ≡ take m lines =
    ap (λ xs. xs ++ drop n (take m lines)) (sym (take_less n m lines fewer)) ∙ take-append-drop n (take m lines) in
    record {
      more = drop n (take m lines) ++ begins.more;
      policy = begins.policy;
      is = subst (λ ls. IsPolicy ls begins.policy) (ap (λ xs. xs ++ begins.more) (sym parts) ∙
          append_assoc (take n lines) (drop n (take m lines)) begins.more) begins.is;
    }

none_later : (lines : List Text) (one other : ℕ) → IsBadAt lines one → IsBadAt lines other → one < other → ⊥
none_later lines one other first second before = ⊎_elim
    (λ stops. stops (begins_fewer lines one (other - 1) (omega (arith, before)) second.before))
    (λ past. ⊎_elim
    (λ stops. stops (subst BeginsPolicy (all_taken (other - 1) other (omega (arith, before, past), omega arith))
    second.before))
    (λ ends. omega (arith, before, past, ends))
    second.at)
    first.at
  where
    all_taken : (n m : ℕ) → (length lines ≤ n) × (n ≤ m) → take n lines ≡ take m lines
    all_taken n m past = take_all n lines past.0 ∙ sym (take_all m lines (omega (arith, past.0, past.1)))

pub one_bad_line : (lines : List Text) (one other : ℕ) → IsBadAt lines one → IsBadAt lines other → one ≡ other
one_bad_line lines one other first second = ⊎_elim
    (λ before. absurd (none_later lines one other first second before))
    (λ later. ⊎_elim (λ before. absurd (none_later lines other one second first before))
    (λ most. omega (arith, later, most))
    (cases_lt other one)) (cases_lt one other)
