-- The first word of a line, and the words after it.
use Rattle.sc_lex.proofs.Common.{List, None, [], ap, arith, begins_heading, cases_lt, codes, cond, cond_both, drop}
use Rattle.sc_lex.proofs.Common.{drop_all, drop_more, eqb, false, filter, get_or, get_or-drop, get_or-take, is_blank}
use Rattle.sc_lex.proofs.Common.{is_empty, is_name, length, length-take, length-take-le, name_of, nat_eq, ne_eqb, not}
use Rattle.sc_lex.proofs.Common.{not-false, not-true, one-add, only_name, position_or_len, prefix_len}
use Rattle.sc_lex.proofs.Common.{prefix_len-le-length, prefix_len_passes, prefix_len_stops, refl, slice_eq-Decides}
use Rattle.sc_lex.proofs.Common.{slice_split, starts_with, suc, sym, take, take_all, take_rest, true, words, zero, ℕ}
use Rattle.sc_lex.proofs.Common.{⊎_elim, ◌+◌, ◌<◌, ◌∙◌, ◌∷◌, ◌≡◌, ◌≤◌}
use Rattle.std.proofs.lemmas.List.Splits.{slice_split-cons_yes, slice_split_first, slice_split_none}
use Rattle.std.proofs.lemmas.Bool.Decides.{Decides-eqb}

pub ruleset lengths = (prefix_len-le-length)

abbrev kept : List (List ℕ) → List (List ℕ)
kept parts = filter (λ part. not (is_empty part)) parts

kept-full : (part : List ℕ) (parts : List (List ℕ)) → 0 < length part → kept (part ∷ parts) ≡ part ∷ kept parts
kept-full [] parts h = absurd (omega arith)
kept-full (b ∷ part) parts h = let full = ne_eqb (length (b ∷ part)) 0 (λ none. absurd (omega arith)) in rw full

words-blank : (b : ℕ) (line : List ℕ) → is_blank b ≡ true → words (b ∷ line) ≡ words line
unfolding words
words-blank b line h = ap kept (slice_split-cons_yes _ b line h)

words-skip : (line : List ℕ) → words (drop (prefix_len is_blank line) line) ≡ words line
words-skip [] = refl
words-skip (b ∷ line) = cond_both (is_blank b) _ _ (λ n. words (drop n (b ∷ line)) ≡ words (b ∷ line))
    (λ h. rw one-add (words-skip line ∙ sym (words-blank b line h))) (λ h. refl)

-- a first word, and what follows it
words-prefix : (line : List ℕ) (len : ℕ) → len ≡ position_or_len is_blank line → 0 < len →
    words line ≡ take len line ∷ words (drop len line)
unfolding words
words-prefix line len is some = ⊎_elim (λ less.
    let blank : is_blank (get_or line len 0) ≡ true =
    not-false _ (rw is (prefix_len_stops (λ byte. not (is_blank byte)) line 0 (rw is at less))) in
    let split : slice_split is_blank line ≡ take len line ∷ slice_split is_blank (drop (len + 1) line) =
    rw is (slice_split_first is_blank line 0 (rw is at less)) in
    let following : words (drop len line) ≡ words (drop (len + 1) line) =
    ap words (drop_more line len 0 less) ∙ words-blank (get_or line len 0) (drop (len + 1) line) blank in
    ap kept split ∙ kept-full (take len line) (slice_split is_blank (drop (len + 1) line)) full ∙
    ap (λ ws. take len line ∷ ws) (sym following)) (λ past.
    let none = slice_split_none is_blank line (λ k d h.
    not-true _ (prefix_len_passes (λ byte. not (is_blank byte)) line k d (omega arith))) in
    let all : take len line ≡ line = take_all len line past in
    let nothing : drop len line ≡ [] = drop_all len line past in
    rw (all, nothing) (ap kept none ∙ kept-full line [] (rw all at full))) (cases_lt len (length line))
  where
    fits : len ≤ length line
    fits = omega (arith, prefix_len-le-length (λ byte. not (is_blank byte)) line)

    full : 0 < length (take len line)
    full = omega (arith, length-take-le len line fits)

-- the first word is this long, and the others follow it
record FirstWord (line : List ℕ) (len : ℕ) : Type 0 where
  word : take len line ≡ get_or (words line) 0 []
  following : words (drop len line) ≡ drop 1 (words line)

first_word_some : (line : List ℕ) (len : ℕ) → words line ≡ take len line ∷ words (drop len line) → FirstWord line len
first_word_some line len h = record
    { word = sym (ap (λ ws. get_or ws 0 []) h); following = sym (ap (λ ws. drop 1 ws) h) }

first_word_nil : (line : List ℕ) (len : ℕ) → line ≡ [] → FirstWord line len
unfolding words
first_word_nil line zero h = rw h (record { word = refl; following = refl })
first_word_nil line (suc n) h = rw h (record { word = refl; following = refl })

prefix : (line : List ℕ) (b l : ℕ) → b ≡ prefix_len is_blank line → l ≡ position_or_len is_blank (drop b line) →
    FirstWord (drop b line) l
prefix line b l p q = ⊎_elim (λ less.
    let solid : is_blank (get_or line b 0) ≡ false = rw p (prefix_len_stops is_blank line 0 (rw p at less)) in
    let starts : position_or_len is_blank (drop b line) ≡ 1 + position_or_len is_blank (drop (b + 1) line) =
    ap (position_or_len _) (drop_more line b 0 less) ∙ rw solid in
    first_word_some (drop b line) l (words-prefix (drop b line) l q (omega arith)))
    (λ past. first_word_nil (drop b line) l (drop_all b line past)) (cases_lt b _)

pub first_word : (line : List ℕ) (b l : ℕ) → b ≡ prefix_len is_blank line → l ≡ position_or_len is_blank (drop b line) →
    take l (drop b line) ≡ get_or (words line) 0 []
first_word line b l p q = (prefix line b l p q).word ∙
    ap (λ ws. get_or ws 0 []) (ap (λ n. words (drop n line)) p ∙ words-skip line)

pub rest_words : (line : List ℕ) (b l : ℕ) → b ≡ prefix_len is_blank line → l ≡ position_or_len is_blank (drop b line) →
    words (drop l (drop b line)) ≡ drop 1 (words line)
rest_words line b l p q = (prefix line b l p q).following ∙
    ap (λ ws. drop 1 ws) (ap (λ n. words (drop n line)) p ∙ words-skip line)

pub ruleset wording = (first_word, rest_words, take_rest)

-- no word is empty
kept_full : (parts : List (List ℕ)) (k : ℕ) → k < length (kept parts) → 0 < length (get_or (kept parts) k [])
kept_full [] k h = absurd (omega arith)
kept_full ([] ∷ parts) k h = kept_full parts k h
kept_full ((b ∷ part) ∷ parts) k h =
    let first = kept-full (b ∷ part) parts (omega arith) in
    rw first (go (kept_full parts) k (rw first at h))
  where
    go : ((j : ℕ) → j < length (kept parts) → 0 < length (get_or (kept parts) j [])) → (k : ℕ) →
        k < length ((b ∷ part) ∷ kept parts) → 0 < length (get_or ((b ∷ part) ∷ kept parts) k [])
    go on zero h = omega arith
    go on (suc k) h = on k (omega arith)

only_name-full : (ws : List (List ℕ)) → (1 < length ws → 0 < length (get_or ws 1 [])) →
    only_name ws ≡ cond (is_empty (get_or ws 1 [])) (name_of (get_or ws 0 [])) None
unfolding is_name
only_name-full [] full = refl
only_name-full (word ∷ []) full = refl
only_name-full (word ∷ other ∷ ws) full =
    let some : eqb (length other) 0 ≡ false = ne_eqb _ 0
    (λ none. let l : 0 < length other = full (omega arith) in omega arith) in
    rw some

pub only_word : (line : List ℕ) (word other : List ℕ) → word ≡ get_or (words line) 0 [] →
    other ≡ get_or (drop 1 (words line)) 0 [] → only_name (words line) ≡ cond (is_empty other) (name_of word) None
unfolding words
only_word line word other p q =
    let second = q ∙ get_or-drop 1 (words line) 0 [] in
    rw (p, second) (only_name-full _ (kept_full (slice_split _ line) 1))

pub ruleset only_words = (only_word)

-- what a text begins with, and that it is long enough
pub record Begins (text prefix : List ℕ) : Type 0 where
  pub is : take (length prefix) text ≡ prefix
  pub fits : length prefix ≤ length text

pub begins_with : (text prefix : List ℕ) → starts_with nat_eq text prefix ≡ true → Begins text prefix
begins_with text prefix h =
    let same : prefix ≡ take _ text = (slice_eq-Decides Decides-eqb prefix _ _ refl).0 h in
    record { is = sym same; fits = omega (arith, length-take (length prefix) text, ap length same) }

pub prefix_byte : (text prefix : List ℕ) (i : ℕ) → starts_with nat_eq text prefix ≡ true → i < length prefix →
    get_or text i 0 ≡ get_or prefix i 0
prefix_byte text prefix i h k = sym (get_or-take _ text i 0 k) ∙ ap (λ t. get_or t i 0) (begins_with text prefix h).is

pub heading_fits : (text : List ℕ) → begins_heading text ≡ true → 20 ≤ length text
heading_fits text h = (begins_with text (codes "#pragma compartment ") h).fits

pub ruleset heading = (heading_fits, take_rest)

-- the words after the first one
pub word-next : (line rest word : List ℕ) (k : ℕ) → words rest ≡ drop 1 (words line) → word ≡ get_or (words rest) k [] →
    word ≡ get_or (words line) (k + 1) []
word-next line rest word k h q = let e : k + 1 ≡ 1 + k = omega arith in
    q ∙ ap (λ ws. get_or ws k []) h ∙ rw e (get_or-drop 1 _ k [])

pub ruleset later_words = (word-next)

pub words_full : (line : List ℕ) (k : ℕ) → k < length (words line) → 0 < length (get_or (words line) k [])
unfolding words
words_full line k h = kept_full (slice_split _ line) k h
