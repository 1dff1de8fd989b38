-- A text is read or refused in one way, and bytes that are cut aren't refused.
use Rattle.sc_parse_read.proofs.Common.{AllZip, Bool, Cuts, FailsLex, FailsReading, FailsSyntax, First, HasTokens}
use Rattle.sc_parse_read.proofs.Common.{HasTree, IsCut, IsGap, IsParsed, IsRead, IsSplit, IsStuck, IsToken, IsUncut}
use Rattle.sc_parse_read.proofs.Common.{IsUnread, Lexeme, List, PassesLex, Phase, Reads, Refusal, RefusesBytes}
use Rattle.sc_parse_read.proofs.Common.{RefusesHeading, Section, SectionTree, SpellsSection, TextPart, Token, TokenKind}
use Rattle.sc_parse_read.proofs.Common.{[], allows_directive, ap, ap₂, arith, bad_heading, drop, gap, gap_fits, here}
use Rattle.sc_parse_read.proofs.Common.{in_preamble, in_section, later, length, length-drop, lexemes_of, line_at}
use Rattle.sc_parse_read.proofs.Common.{nothing, one_gap, parts_of, refl, same_unless, subst, sym, token}
use Rattle.sc_parse_read.proofs.Common.{token_positive, uncut, ℕ, ◌∙◌, ◌∷◌, ◌≡◌, ◌≤◌}
use Rattle.sc_lex.specs.declared.refusal.Phase.TheVariants as phase
use Rattle.sc_parse_read.proofs.Splits.{same_preamble, same_parts, split_good}
use Rattle.sc_lex.proofs.Cuts.{gap_and_token, token_le}

module _ (bytes : List ℕ) where
  no_gap_after : {n : ℕ} (at : ℕ) → length bytes ≤ at → IsGap (drop at bytes) n → ⊥
  no_gap_after at past h = let fits = gap_fits h in omega (arith, length-drop at bytes)

  no_token_after : {directives : Bool} {kind : TokenKind} (n at : ℕ) → length bytes ≤ at →
      IsToken directives (drop at bytes) kind n → ⊥
  no_token_after n at past t = let some = token_positive n t in let within = t.within in
      omega (arith, length-drop at bytes)

  -- a token stands at this place
  abbrev TokenAt : ℕ → TokenKind → ℕ → Type 0
  TokenAt at kind n = IsToken (allows_directive bytes at) (drop at bytes) kind n

  -- pieces from a place don't lead both to where nothing goes on and to the end
  apart : {at stuck from end : ℕ} {tokens others : List Token} → Cuts bytes at stuck tokens →
      Cuts bytes from end others → at ≡ from → IsStuck bytes stuck → length bytes ≤ end → ⊥
  apart nothing nothing same s past = let more = s.more in omega arith
  apart nothing (gap n h d) same s past = s.no_gap n (subst (λ k. IsGap (drop k bytes) n) (sym same) h)
  apart nothing (token kind n t d) same s past = s.no_token kind n (subst (λ k. TokenAt k kind n) (sym same) t)
  apart {at} (gap n h c) nothing same s past = no_gap_after at (omega arith) h
  apart {at} (gap n h c) (gap m g d) same s past =
      let long = one_gap h (subst (λ k. IsGap (drop k bytes) m) (sym same) g) in
      apart c d (omega arith) s past
  apart {at} (gap n h c) (token kind m t d) same s past = gap_and_token h (subst (λ k. TokenAt k kind m) (sym same) t)
  apart {at} (token kind n t c) nothing same s past = no_token_after n at (omega arith) t
  apart {at} (token kind n t c) (gap m g d) same s past =
      gap_and_token (subst (λ k. IsGap (drop k bytes) m) (sym same) g) t
  apart {at} (token kind n t c) (token other m u d) same s past =
      let v = subst (λ k. TokenAt k other m) (sym same) u in
      let low = token_le n m t v in
      let high = token_le m n v t in
      apart c d (omega arith) s past

  pub cut_refused : (line : ℕ) (refusal : Refusal) → RefusesBytes bytes line refusal → (tokens : List Token) →
      IsCut bytes tokens → ⊥
  cut_refused line refusal r tokens c = apart r.prefix c refl r.stuck (omega arith)

-- where each item is good, none is the first bad one
no_first : {A B : Type 0} {Good Bad : A → Type 0} {R : A → B → Type 0} → ((x : A) (y : B) → R x y → Bad x → ⊥) →
    {xs : List A} → First Good Bad xs → (ys : List B) → AllZip R xs ys → ⊥
no_first not (here bad) [] h = h
no_first not (here {x = x} bad) (y ∷ ys) h = not x y h.0 bad
no_first not (later good f) [] h = h
no_first not (later good f) (y ∷ ys) h = no_first not f ys h.1

-- one item is the first bad one
one_first : {A : Type 0} {Good Bad Worse : A → Type 0} {Same : Type 0} → ((x : A) → Bad x → Worse x → Same) →
    ((x : A) → Good x → Bad x → ⊥) → ((x : A) → Good x → Worse x → ⊥) → {xs : List A} → First Good Bad xs →
    First Good Worse xs → Same
one_first same bad worse (here {x = x} b) (here w) = same x b w
one_first same bad worse (here {x = x} b) (later good g) = absurd (bad x good b)
one_first same bad worse (later {x = x} good f) (here w) = absurd (worse x good w)
one_first same bad worse (later good f) (later fine g) = one_first same bad worse f g

-- the first bad compartment line is one
same_bad : {text : List ℕ} {refusal other : Refusal} → RefusesHeading text refusal → RefusesHeading text other →
    refusal.line ≡ other.line
same_bad {text} r q =
    let place = same_unless r.at q.at (λ less. q.first r.at less r.bad) (λ less. r.first q.at less q.bad) in
    r.line ∙ ap (λ at. line_at text at) place ∙ sym q.line

parts_agree : {text p q : List ℕ} {ss ss' : List Section} → IsSplit text p ss → IsSplit text q ss' →
    parts_of p ss ≡ parts_of q ss'
parts_agree c d = ap₂ (λ b parts. record { start = 0; bytes = b } ∷ parts) (same_preamble c d) (same_parts c d)

-- a text that passes phase Lex doesn't fail it
lexed_or_fails : (text : List ℕ) (before : List Token) (sections : List TextPart) (line : ℕ) →
    PassesLex text before sections → FailsLex text line → ⊥
lexed_or_fails text before sections line p (bad_heading refusal r e) = split_good p.split r.at r.bad
lexed_or_fails text before sections line p (uncut preamble found split f) =
    no_first (λ part tokens c bad. cut_refused part.bytes (line_at text part.start)
    (record { phase = phase.Lex; line = line }) bad tokens c)
    (subst (λ parts. First HasTokens (IsUncut text line) parts) (parts_agree split p.split) f) (before ∷ p.cuts)
    (p.cut, subst (λ parts. AllZip (λ part tokens. IsCut part.bytes tokens) parts p.cuts) p.parts p.each)

sections_agree : {text : List ℕ} {before more : List Token} {sections others : List TextPart} →
    PassesLex text before sections → PassesLex text more others → sections ≡ others
sections_agree p q = p.parts ∙ same_parts p.split q.split ∙ sym q.parts

module _ (one_cut : (bytes : List ℕ) (tokens others : List Token) → IsCut bytes tokens → IsCut bytes others →
    tokens ≡ others) where
  preambles_agree : {text : List ℕ} {before more : List Token} {sections others : List TextPart} →
      PassesLex text before sections → PassesLex text more others → before ≡ more
  preambles_agree {before = before} {more = more} p q =
      one_cut _ before more (subst (λ b. IsCut b before) (same_preamble p.split q.split) p.cut) q.cut

  -- a section that is read isn't refused
  read_or_unread : (text : List ℕ) (line : ℕ) (section : TextPart) (tree : SectionTree) → IsRead text section tree →
      IsUnread text line section → ⊥
  read_or_unread text line section tree r u =
      u.treeless tree (subst (λ tokens. IsParsed _ (lexemes_of _ tokens) tree) (one_cut _ _ _ r.cut u.cut) r.parsed)

  pub read_or_refused : (text : List ℕ) (trees : List SectionTree) (which : Phase) (line : ℕ) → Reads text trees →
      FailsReading text which line → ⊥
  read_or_refused text trees phase.Lex line r f = lexed_or_fails text [] _ line r.lexed f
  read_or_refused text trees phase.Syntax line r (in_preamble first more sections p e) =
      let same = preambles_agree r.lexed p in absurd (cc)
  read_or_refused text trees phase.Syntax line r (in_section sections p f) =
      no_first (read_or_unread text line) (subst (λ parts. First (HasTree text) (IsUnread text line) parts)
      (sections_agree p r.lexed) f) trees r.each
  read_or_refused text trees _ line r f = f

  module _ (one_section : (line : ℕ) (lexemes : List Lexeme) (s t : SectionTree) → SpellsSection line lexemes s →
      SpellsSection line lexemes t → s ≡ t) where
    one_tree : (text : List ℕ) (section : TextPart) (x y : SectionTree) → IsRead text section x →
        IsRead text section y →
        x ≡ y
    one_tree text section x y r q =
        let here = subst (λ tokens. IsParsed _ (lexemes_of _ tokens) x) (one_cut _ _ _ r.cut q.cut) r.parsed in
        one_section (line_at text _) (lexemes_of _ _) x y here.spelled q.parsed.spelled

    one_list : (text : List ℕ) (sections : List TextPart) (xs ys : List SectionTree) →
        AllZip (IsRead text) sections xs →
        AllZip (IsRead text) sections ys → xs ≡ ys
    one_list text [] [] [] r q = refl
    one_list text [] [] (y ∷ ys) r q = absurd q
    one_list text [] (x ∷ xs) ys r q = absurd r
    one_list text (s ∷ sections) [] ys r q = absurd r
    one_list text (s ∷ sections) (x ∷ xs) [] r q = absurd q
    one_list text (s ∷ sections) (x ∷ xs) (y ∷ ys) r q =
        ap₂ (λ z zs. z ∷ zs) (one_tree text s x y r.0 q.0) (one_list text sections xs ys r.1 q.1)

    pub one_reading : (text : List ℕ) (trees others : List SectionTree) → Reads text trees → Reads text others →
        trees ≡ others
    one_reading text trees others r q =
        one_list text _ trees others (subst (λ parts. AllZip (IsRead text) parts trees)
        (sections_agree r.lexed q.lexed) r.each) q.each

module _ (one_refusal : (bytes : List ℕ) (line : ℕ) (refusal other : Refusal) → RefusesBytes bytes line refusal →
    RefusesBytes bytes line other → refusal ≡ other) where
  one_lex_line : (text : List ℕ) (line second : ℕ) → FailsLex text line → FailsLex text second → line ≡ second
  one_lex_line text line second (bad_heading r h e) (bad_heading q g i) = e ∙ same_bad h g ∙ sym i
  one_lex_line text line second (bad_heading r h e) (uncut preamble sections split f) =
      absurd (split_good split h.at h.bad)
  one_lex_line text line second (uncut preamble sections split f) (bad_heading r h e) =
      absurd (split_good split h.at h.bad)
  one_lex_line text line second (uncut preamble sections split f) (uncut other others divided g) =
      one_first (λ part b w. ap (λ r. r.line) (one_refusal _ _ _ _ b w)) (λ part good b. cut_refused _ _
      _ b good.0 good.1) (λ part good w. cut_refused _ (line_at text _)
      (record { phase = phase.Lex; line = second }) w good.0 good.1)
      f (subst (λ parts. First HasTokens (IsUncut text second) parts) (parts_agree divided split) g)

  lexed : (text : List ℕ) (line : ℕ) → FailsSyntax text line →
      (before : List Token) × (sections : List TextPart) × PassesLex text before sections
  lexed text line (in_preamble first more sections p e) = (first ∷ more, sections, p)
  lexed text line (in_section sections p f) = ([], sections, p)

  lex_or_syntax : (text : List ℕ) (line second : ℕ) → FailsLex text line → FailsSyntax text second → ⊥
  lex_or_syntax text line second f g = let p = lexed text second g in lexed_or_fails text p.0 p.1 line p.2 f

  pub one_phase : (text : List ℕ) (which other : Phase) (line second : ℕ) → FailsReading text which line →
      FailsReading text other second → (which ≡ other) × (which ≡ phase.Lex → line ≡ second)
  one_phase text phase.Lex phase.Lex line second f g = (refl, λ e. one_lex_line text line second f g)
  one_phase text phase.Lex phase.Syntax line second f g = absurd (lex_or_syntax text line second f g)
  one_phase text phase.Syntax phase.Lex line second f g = absurd (lex_or_syntax text second line g f)
  one_phase text phase.Syntax phase.Syntax line second f g = (refl, λ e. absurd (cc))
  one_phase text phase.Lex _ line second f g = absurd g
  one_phase text phase.Syntax _ line second f g = absurd g
  one_phase text _ other line second f g = absurd f
