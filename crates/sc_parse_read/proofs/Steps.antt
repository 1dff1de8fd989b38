-- From what the functions over the sections find to what is said of the text.
use Rattle.sc_parse_read.proofs.Common.{AllByRecursion, AllZip, Any, AreSections, Cuts, Err, FailsReading, FailsSyntax}
use Rattle.sc_parse_read.proofs.Common.{First, HasTokens, HasTree, IfOk, IsCut, IsCutInto, IsCuttable, IsGap}
use Rattle.sc_parse_read.proofs.Common.{IsParsable, IsParsed, IsRead, IsSplit, IsTreeOf, IsUncut, IsUnread, List, None}
use Rattle.sc_parse_read.proofs.Common.{Ok, PassesLex, Phase, Reads, Refusal, RefusesBytes, RefusesHeading}
use Rattle.sc_parse_read.proofs.Common.{RefusesTokens, Result, Section, SectionTree, Some, TextPart, Token, []}
use Rattle.sc_parse_read.proofs.Common.{and_parts, ap, arith, bad_heading, begins_line, block_comment, codes, drop}
use Rattle.sc_parse_read.proofs.Common.{false, false≢true, gap, get_or, get_or-take, here, in_preamble, in_section}
use Rattle.sc_parse_read.proofs.Common.{is_white_space, later, length, length-drop, length-take-le, lexemes_of}
use Rattle.sc_parse_read.proofs.Common.{line_after, line_at, line_comment, map, newlines, none, none-some, nothing}
use Rattle.sc_parse_read.proofs.Common.{part_of, prefix_byte, refl, section, slash_first, slice_get, slice_index}
use Rattle.sc_parse_read.proofs.Common.{slice_set, star_first, subst, suc, sym, take, take-append-drop, token, true}
use Rattle.sc_parse_read.proofs.Common.{uncut, white_space, zero, ℕ, ◌++◌, ◌+◌, ◌-◌, ◌<◌, ◌∙◌, ◌∷◌, ◌≡◌, ◌≤◌}
use Rattle.std.proofs.lemmas.List.{take_more, drop_more}
use Rattle.sc_lex.specs.declared.refusal.Phase.TheVariants as phase

-- what the loops over sections keep
pub zip_push : {A B : Type 0} (R : A → B → Type 0) (xs : List A) (ys : List B) (x : A) (y : B) → AllZip R xs ys →
    R x y → AllZip R (xs ++ x ∷ []) (ys ++ y ∷ [])
zip_push R [] [] x y h r = (r, tt)
zip_push R [] (b ∷ ys) x y h r = absurd h
zip_push R (a ∷ xs) [] x y h r = absurd h
zip_push R (a ∷ xs) (b ∷ ys) x y h r = (h.0, zip_push R xs ys x y h.1 r)

-- the first bad one of some items is also the first after more that are good
pub first_after : {A B : Type 0} {Good Bad : A → Type 0} (R : A → B → Type 0) → ((x : A) (y : B) → R x y → Good x) →
    (xs : List A) (ys : List B) (more : List A) → AllZip R xs ys → First Good Bad more → First Good Bad (xs ++ more)
first_after R good [] ys more h f = f
first_after R good (x ∷ xs) [] more h f = absurd h
first_after R good (x ∷ xs) (y ∷ ys) more h f = later (good x y h.0) (first_after R good xs ys more h.1 f)

-- A section lies in the text, and begins with a compartment line.
pub record InText (text : List ℕ) (s : Section) : Type 0 where
  pub line : s.line ≡ line_at text s.start
  pub first : slice_index s.bytes.now 0 ≡ 35
  pub some : 0 < length s.bytes.now

pub in_text : {text : List ℕ} {at end : ℕ} {ss : List Section} → AreSections text at end ss →
    AllByRecursion (InText text) ss
in_text none = tt
in_text {text} {at} (section {next = next} first g others) =
    let begins = (and_parts (begins_line text at) _ g.heading).1 in
    let sign = prefix_byte (drop at text) (codes "#pragma compartment ") 0 begins (omega arith) in
    let long = length-drop at text in
    let within = g.within in
    let fits : next - at ≤ length (drop at text) = omega arith in
    let wide = length-take-le _ _ fits in (
      record {
        line = g.line ∙ ap (λ k. line_at text k) (sym g.start);
        first = ap (λ bytes. slice_index bytes 0) g.bytes ∙ get_or-take _ (drop at text) 0 0 (omega arith) ∙ sign;
        some = subst (λ bytes. 0 < length bytes) (sym g.bytes) (omega arith);
      },
      in_text others,
    )

-- no gap begins with `#`
no_gap : (text : List ℕ) (n : ℕ) → IsGap text n → slice_index text 0 ≡ 35 → ⊥
no_gap text n (white_space h) first = false≢true (sym (ap is_white_space first) ∙ h)
no_gap text n (block_comment at h low ends before) first = absurd (omega (arith, star_first text h))
no_gap text n (line_comment h) first = absurd (omega (arith, slash_first text h))

tokenless : {bytes : List ℕ} {at to : ℕ} {tokens : List Token} → Cuts bytes at to tokens → tokens ≡ [] → at ≡ 0 →
    0 < to → slice_index bytes 0 ≡ 35 → ⊥
tokenless nothing e z some first = omega arith
tokenless {bytes} (gap n h c) e z some first = no_gap bytes n (subst (λ k. IsGap (drop k bytes) n) z h) first
tokenless (token kind n h c) e z some first = absurd (cc)

-- so a section has a token
pub has_token : (text : List ℕ) (s : Section) (tokens : List Token) → InText text s → IsCut s.bytes.now tokens →
    0 < length tokens
has_token text s [] i c = absurd (tokenless c refl refl i.some i.first)
has_token text s (t ∷ tokens) i c = omega arith

tree_read : (text : List ℕ) (s : Section) (tree : SectionTree) → InText text s → IsTreeOf s tree →
    IsRead text (part_of s) tree
tree_read text s tree i t =
    let parsed = subst (λ l. IsParsed l (lexemes_of s.bytes.now t.tokens) tree) i.line t.parsed in
    record { tokens = t.tokens; cut = t.cut; parsed = parsed }

trees_read : (text : List ℕ) (ss : List Section) (trees : List SectionTree) → AllByRecursion (InText text) ss →
    AllZip IsTreeOf ss trees → AllZip (IsRead text) (map part_of ss) trees
trees_read text [] [] i h = h
trees_read text [] (t ∷ trees) i h = h
trees_read text (s ∷ ss) [] i h = h
trees_read text (s ∷ ss) (t ∷ trees) i h = (tree_read text s t i.0 h.0, trees_read text ss trees i.1 h.1)

cuts_of : (ss : List Section) (cuts : List (List Token)) → AllZip IsCutInto ss cuts →
    AllZip (λ part tokens. IsCut part.bytes tokens) (map part_of ss) cuts
cuts_of [] [] h = h
cuts_of [] (c ∷ cuts) h = h
cuts_of (s ∷ ss) [] h = h
cuts_of (s ∷ ss) (c ∷ cuts) h = (h.0, cuts_of ss cuts h.1)

uncut_at : (text : List ℕ) (part : TextPart) (line : ℕ) (refusal : Refusal) → line ≡ line_at text part.start →
    RefusesBytes part.bytes line refusal → IsUncut text refusal.line part
uncut_at text part line refusal same r = record {
  at = r.at;
  tokens = r.tokens;
  prefix = r.prefix;
  stuck = r.stuck;
  phase = refl;
  line = r.line ∙ ap (λ l. line_after l (newlines (take r.at part.bytes))) same;
}

first_uncut : (text : List ℕ) (refusal : Refusal) {ss : List Section} → AllByRecursion (InText text) ss →
    First IsCuttable (λ s. RefusesBytes s.bytes.now s.line refusal) ss →
    First HasTokens (IsUncut text refusal.line) (map part_of ss)
first_uncut text refusal i (here {x = s} bad) = here (uncut_at text _ s.line refusal i.0.line bad)
first_uncut text refusal i (later good f) = later good (first_uncut text refusal i.1 f)

unread_at : (text : List ℕ) (line : ℕ) (s : Section) → InText text s → RefusesTokens line s →
    IsUnread text line (part_of s)
unread_at text line s i r = record {
  tokens = r.tokens;
  cut = r.cut;
  treeless = λ tree p. r.treeless tree (subst (λ l. IsParsed l (lexemes_of s.bytes.now r.tokens) tree) (sym i.line) p);
  in_line = subst (λ l. Any (λ token. line ≡ line_after l (token.line - 1)) r.tokens) i.line
      (r.in_line (has_token text s _ i r.cut));
}

first_unread : (text : List ℕ) (line : ℕ) {ss : List Section} → AllByRecursion (InText text) ss →
    First IsParsable (RefusesTokens line) ss → First (HasTree text) (IsUnread text line) (map part_of ss)
first_unread text line i (here {x = s} bad) = here (unread_at text line s i.0 bad)
first_unread text line i (later {x = s} good f) = later (good.0, tree_read text s good.0 i.0 good.1)
    (first_unread text line i.1 f)

pub heading_fails : (text : List ℕ) (refusal : Refusal) → RefusesHeading text refusal →
    FailsReading text refusal.phase refusal.line
heading_fails text refusal r = subst (λ p. FailsReading text p refusal.line) (sym r.phase) (bad_heading refusal r refl)

-- what reading a text finds
module _ (text preamble : List ℕ) (ss : List Section) (divided : IsSplit text preamble ss) where
  passes : (before : List Token) (cuts : List (List Token)) → IsCut preamble before → AllZip IsCutInto ss cuts →
      PassesLex text before (map part_of ss)
  passes before cuts cut each = let parts = cuts_of ss cuts each in
      record { preamble = preamble; found = ss; cuts = cuts; split = divided; parts = refl; cut = cut; each = parts }

  pub reads : (cuts : List (List Token)) (trees : List SectionTree) → IsCut preamble [] → AllZip IsCutInto ss cuts →
      AllZip IsTreeOf ss trees → Reads text trees
  reads cuts trees cut each trees_are = let read = trees_read text ss trees (in_text divided.following) trees_are in
      record { sections = map part_of ss; lexed = passes [] cuts cut each; each = read }

  fails : (refusal : Refusal) {p : Phase} → refusal.phase ≡ p → FailsReading text p refusal.line →
      FailsReading text refusal.phase refusal.line
  fails refusal is f = subst (λ p. FailsReading text p refusal.line) (sym is) f

  pub preamble_uncut : (refusal : Refusal) → RefusesBytes preamble 1 refusal →
      FailsReading text refusal.phase refusal.line
  preamble_uncut refusal r =
      fails refusal r.phase (uncut _ ss divided
      (here (uncut_at text (record { start = 0; bytes = preamble }) 1 refusal refl r)))

  pub section_uncut : (before : List Token) (refusal : Refusal) → IsCut preamble before →
      First IsCuttable (λ s. RefusesBytes s.bytes.now s.line refusal) ss → refusal.phase ≡ phase.Lex →
      FailsReading text refusal.phase refusal.line
  section_uncut before refusal cut f is = fails refusal is
      (uncut _ ss divided (later (before, cut) (first_uncut text refusal (in_text divided.following) f)))

  pub preamble_spells : (first : Token) (more : List Token) (cuts : List (List Token)) → IsCut preamble (first ∷ more) →
      AllZip IsCutInto ss cuts → FailsSyntax text first.line
  preamble_spells first more cuts cut each = in_preamble first more (map part_of ss) (passes _ cuts cut each) refl

  pub section_unread : (cuts : List (List Token)) (refusal : Refusal) → IsCut preamble [] → AllZip IsCutInto ss cuts →
      First IsParsable (RefusesTokens refusal.line) ss → refusal.phase ≡ phase.Syntax →
      FailsReading text refusal.phase refusal.line
  section_unread cuts refusal cut each f is =
      fails refusal is (in_section (map part_of ss) (passes [] cuts cut each)
      (first_unread text _ (in_text divided.following) f))

-- one more section is good
pub more_sections : {B : Type 0} (R : Section → B → Type 0) (ss : List Section) (ys : List B) (at : ℕ) (s : Section)
    (y : B) → at < length ss → s ≡ get_or ss at s → AllZip R (take at ss) ys → R s y →
    AllZip R (take (at + 1) ss) (ys ++ y ∷ [])
more_sections R ss ys at s y low is h r =
    subst (λ xs. AllZip R xs (ys ++ y ∷ [])) (ap (λ x. take at ss ++ x ∷ []) is ∙ sym (take_more ss at s low))
    (zip_push R _ ys s y h r)

-- after good sections this one is the first bad one
pub first_bad : {B : Type 0} {Good Bad : Section → Type 0} (R : Section → B → Type 0) →
    ((s : Section) (y : B) → R s y → Good s) → (ss : List Section) (ys : List B) (at : ℕ) (s : Section) →
    at < length ss → s ≡ get_or ss at s → AllZip R (take at ss) ys → Bad s → First Good Bad ss
first_bad {Good = Good} {Bad = Bad} R good ss ys at s low is h bad =
    let split =
    ap (λ x. take at ss ++ x ∷ drop (at + 1) ss) is ∙ ap (λ xs. take at ss ++ xs) (sym (drop_more ss at s low)) ∙
    take-append-drop at ss in
    subst (λ xs. First Good Bad xs) split (first_after R good _ ys _ h (here bad))

-- as many of the one as of the other
pub as_many : {A B : Type 0} (R : A → B → Type 0) (xs : List A) (ys : List B) → AllZip R xs ys → length xs ≡ length ys
as_many R [] [] h = refl
as_many R [] (y ∷ ys) h = absurd h
as_many R (x ∷ xs) [] h = absurd h
as_many R (x ∷ xs) (y ∷ ys) h = omega (arith, as_many R xs ys h.1)

pub zip_at : {A B : Type 0} (R : A → B → Type 0) (xs : List A) (ys : List B) (at : ℕ) (x : A) (y : B) →
    AllZip R (drop at xs) (drop at ys) → at < length xs → at < length ys → x ≡ get_or xs at x →
    y ≡ get_or ys at y → R x y
zip_at R [] ys at x y h low few p q = absurd (omega arith)
zip_at R (a ∷ xs) [] at x y h low few p q = absurd (omega arith)
zip_at R (a ∷ xs) (b ∷ ys) zero x y h low few p q = subst (λ z. R z y) (sym p) (subst (R a) (sym q) h.0)
zip_at R (a ∷ xs) (b ∷ ys) (suc at) x y h low few p q = zip_at R xs ys at x y h (omega arith) (omega arith) p q

-- as many of the one as of the other from a place on, and so in all
pub as_many_from : {A B : Type 0} (R : A → B → Type 0) (xs : List A) (ys : List B) (at : ℕ) →
    AllZip R (drop at xs) (drop at ys) → at < length xs → at < length ys
as_many_from R xs ys at h low = omega (arith, length-drop at xs, length-drop at ys, as_many R _ _ h)

-- what follows a place stays, whatever is put there
pub zip_after : {A B : Type 0} (R : A → B → Type 0) (xs : List A) (ys : List B) (at : ℕ) (z : B) →
    AllZip R (drop at xs) (drop at ys) → at < length xs → at < length ys →
    AllZip R (drop (suc at) xs) (drop (suc at) (slice_set ys at z))
zip_after R [] ys at z h low few = absurd (omega arith)
zip_after R (a ∷ xs) [] at z h low few = absurd (omega arith)
zip_after R (a ∷ xs) (b ∷ ys) zero z h low few = h.1
zip_after R (a ∷ xs) (b ∷ ys) (suc at) z h low few = zip_after R xs ys at z h (omega arith) (omega arith)

pub lex_phase : {refusal : Refusal} {ss : List Section} →
    First IsCuttable (λ s. RefusesBytes s.bytes.now s.line refusal) ss → refusal.phase ≡ phase.Lex
lex_phase (here bad) = bad.phase
lex_phase (later good f) = lex_phase f

pub begins_with : (tokens : List Token) (t : Token) → Some t ≡ slice_get tokens 0 → tokens ≡ t ∷ drop 1 tokens
begins_with [] t h = absurd (none-some t (sym h))
begins_with (u ∷ tokens) t h = let same : t ≡ u = cc in ap (λ x. x ∷ tokens) (sym same)

pub is_empty : (tokens : List Token) → None ≡ slice_get tokens 0 → tokens ≡ []
is_empty [] h = refl
is_empty (u ∷ tokens) h = absurd (none-some u h)

pub if_ok_more : {T E : Type 0} {P Q : T → Type 0} (r : Result T E) → ((x : T) → P x → Q x) → IfOk r P → IfOk r Q
if_ok_more (Ok x) on h = on x h
if_ok_more (Err e) on h = tt
