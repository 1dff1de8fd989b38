-- Each text is read, or fails a phase.
use Rattle.sc_parse_read.proofs.Common.{AllByRecursion, AllZip, Any, AreSections, Err, FailsLex, FailsReading, First}
use Rattle.sc_parse_read.proofs.Common.{HasTokens, HasTree, IsBadHeading, IsCut, IsParsed, IsRead, IsSection, IsSplit}
use Rattle.sc_parse_read.proofs.Common.{IsTrue, IsUncut, IsUnread, Lexeme, List, NoHeading, None, Ok, Option, PassesLex}
use Rattle.sc_parse_read.proofs.Common.{Phase, Reads, Section, SectionTree, Some, TextPart, Token, [], ap, arith}
use Rattle.sc_parse_read.proofs.Common.{bad_heading, cases_lt, here, in_preamble, in_section, inl, inr, is_heading}
use Rattle.sc_parse_read.proofs.Common.{later, length, length-take-le, lexemes_of, line_after, line_at, map, name_at}
use Rattle.sc_parse_read.proofs.Common.{newlines, none, none-some, part_of, parts_of, refl, section, slice_range, subst}
use Rattle.sc_parse_read.proofs.Common.{suc, sym, take, tree_of, uncut, zero, ℕ, ⊎_elim, ◌+◌, ◌-◌, ◌<◌, ◌∙◌, ◌∷◌, ◌≡◌}
use Rattle.sc_parse_read.proofs.Common.{◌≤◌, ◌⊎◌}
use Rattle.sc_lex.specs.declared.refusal.Phase.TheVariants as phase
use Rattle.sc_lex.specs.declared.fault.TextFault.TheVariants as fault
use Rattle.sc_parse.proofs.Trees.{parsed, unparsed}
use Rattle.sc_parse_read.proofs.Pieces.{find, decide_cut}
use Rattle.sc_parse_read.proofs.Steps.{InText, in_text, has_token}

module _ (text : List ℕ) where
  -- the first bad compartment line from a place on
  record IsFirstBad (from : ℕ) : Type 0 where
    at : ℕ
    low : from ≤ at
    bad : IsBadHeading text at
    first : (before : ℕ) → from ≤ before → before < at → IsBadHeading text before → ⊥

  -- where the next compartment line stands, or the text ends
  record IsNext (from next : ℕ) : Type 0 where
    low : from ≤ next
    high : next ≤ length text
    heading : next < length text → IsTrue (is_heading text next)
    clear : NoHeading text from next

  next_heading : (from : ℕ) → from ≤ length text → (next : ℕ) × IsNext from next
  next_heading from low = elim (find (is_heading text) from (length text - from)) [
    | inl f ↦ (
      f.0,
      record { low = f.1.low; high = omega (arith, f.1.high); heading = λ inside. f.1.holds; clear = f.1.first },
    )
    | inr nowhere ↦ (
      length text,
      record {
        low = low;
        high = omega arith;
        heading = λ inside. absurd (omega arith);
        clear = λ at l h is. nowhere at l (omega arith) is;
      },
    )
  ]

  abbrev section_at : (at next : ℕ) (name : List ℕ) → Section
  section_at at next name = record {
    name = name;
    start = at;
    line = line_at text at;
    bytes = record { ref_ptr = (0, 0); now = slice_range text at next };
  }

  is_section : (at next : ℕ) (name : List ℕ) → IsTrue (is_heading text at) → name_at text at ≡ Some name →
      IsNext (at + 1) next → IsSection text at next (section_at at next name)
  is_section at next name h is n =
      let within : (at < next) × (next ≤ length text) = (omega (arith, n.low), n.high) in
      record { heading = h; name = is; start = refl; line = refl; bytes = refl; within = within; whole = n.clear }

  -- a bad line after a section is the first one
  bad_after : (at next : ℕ) (name : List ℕ) → name_at text at ≡ Some name → IsNext (at + 1) next → IsFirstBad next →
      IsFirstBad at
  bad_after at next name is n b = record {
    at = b.at;
    low = omega (arith, n.low, b.low);
    bad = b.bad;
    first = λ before low high bad. ⊎_elim (λ inside. ⊎_elim (λ less. n.clear before (omega arith) inside bad.heading)
        (λ le. let same : before ≡ at = omega arith in
        none-some name (sym (subst (λ k. name_at text k ≡ None) same bad.nameless) ∙ is)) (cases_lt at before))
        (λ following. b.first before following high bad) (cases_lt before next);
  }

  abbrev Splits : ℕ → Type 0
  Splits at = ((ss : List Section) × AreSections text at (length text) ss) ⊎ IsFirstBad at

  all_split : (at : ℕ) → at ≡ length text → Splits at
  all_split at e = inl ([], subst (λ to. AreSections text at to []) e none)

  sections_here : (fuel at : ℕ) → at < length text → length text ≤ at + suc fuel → IsTrue (is_heading text at) →
      ((next : ℕ) → next ≤ length text → length text ≤ next + fuel →
      (next < length text → IsTrue (is_heading text next)) → Splits next) → (o : Option (List ℕ)) →
      name_at text at ≡ o → Splits at
  sections_here fuel at more high heading next None e =
      inr (record {
        at = at;
        low = omega arith;
        bad = record { heading = heading; nameless = e };
        first = λ before l h bad. omega arith;
      })
  sections_here fuel at more high heading next (Some name) e =
      let n = next_heading (at + 1) (omega arith) in
      let below = n.1.low in
      elim (next n.0 n.1.high (omega arith) n.1.heading) [
        | inl s ↦ inl (_, section (section_at at n.0 name) (is_section at n.0 name heading e n.1) s.1)
        | inr bad ↦ inr (bad_after at n.0 name e n.1 bad)
      ]

  sections_from : (fuel at : ℕ) → at ≤ length text → length text ≤ at + fuel →
      (at < length text → IsTrue (is_heading text at)) → Splits at
  sections_from zero at low high heading = all_split at (omega arith)
  sections_from (suc fuel) at low high heading =
      ⊎_elim (λ more. sections_here fuel at more high (heading more) (sections_from fuel) _ refl)
      (λ past. all_split at (omega arith)) (cases_lt at (length text))

  abbrev Divided : Type 0
  Divided = (preamble : List ℕ) × (ss : List Section) × IsSplit text preamble ss

  split_or_bad : Divided ⊎ ((line : ℕ) × FailsLex text line)
  split_or_bad =
      let n = next_heading 0 (omega arith) in
      let long : length (take n.0 text) ≡ n.0 = length-take-le n.0 text n.1.high in
      elim (sections_from (length text) n.0 n.1.high (omega arith) n.1.heading) [
        | inl s ↦ inl (
          take n.0 text,
          s.0,
          record {
            prefix = ap (λ k. take k text) (sym long);
            before = subst (λ k. NoHeading text 0 k) (sym long) n.1.clear;
            following = subst (λ k. AreSections text k (length text) s.0) (sym long) s.1;
          },
        )
        | inr b ↦ inr (
          line_at text b.at,
          bad_heading (record { phase = phase.Lex; line = line_at text b.at }) (record {
            at = b.at;
            bad = b.bad;
            first = λ before high bad. ⊎_elim (λ less. n.1.clear before (omega arith) less bad.heading)
                (λ le. b.first before le high bad) (cases_lt before n.0);
            phase = refl;
            line = refl;
          }) refl,
        )
      ]

  abbrev AreCutInto : List TextPart → List (List Token) → Type 0
  AreCutInto parts cuts = AllZip (λ part tokens. IsCut part.bytes tokens) parts cuts

  cut_parts : (parts : List TextPart) → ((cuts : List (List Token)) × AreCutInto parts cuts) ⊎
      ((line : ℕ) × First HasTokens (IsUncut text line) parts)
  cut_parts [] = inl ([], tt)
  cut_parts (part ∷ parts) = elim (decide_cut part.bytes) [
    | inl c ↦ elim (cut_parts parts) [
      | inl cs ↦ inl (c.0 ∷ cs.0, (c.1, cs.1))
      | inr f ↦ inr (f.0, later c f.1)
    ]
    | inr s ↦ inr (
      line_after (line_at text _) (newlines (take s.to _)),
      here (record { at = s.to; tokens = s.tokens; prefix = s.cuts; stuck = s.stuck; phase = refl; line = refl }),
    )
  ]

  -- whether lexemes are a tree can be decided
  decide_tree : (line : ℕ) (ts : List Lexeme) → ((tree : SectionTree) × IsParsed line ts tree) ⊎
      ((tree : SectionTree) → IsParsed line ts tree → ⊥)
  decide_tree line ts = go (tree_of line ts) refl
    where
      go : (o : Option SectionTree) → tree_of line ts ≡ o →
          ((tree : SectionTree) × IsParsed line ts tree) ⊎ ((tree : SectionTree) → IsParsed line ts tree → ⊥)
      go None e = inr (unparsed line ts (Err (fault.Refused _)) e (record { phase = phase.Syntax; line = 0 }) refl)
      go (Some tree) e = inl (tree, parsed line ts (Ok tree) e)

  some_line : (start : ℕ) (tokens : List Token) → 0 < length tokens →
      (line : ℕ) × Any (λ token. line ≡ line_after (line_at text start) (token.line - 1)) tokens
  some_line start [] some = absurd (omega arith)
  some_line start (t ∷ tokens) some = (line_after _ _, (0, t, omega arith, refl, refl))

  read_section : (s : Section) (tokens : List Token) → InText text s → IsCut s.bytes.now tokens →
      ((tree : SectionTree) × IsRead text (part_of s) tree) ⊎ ((line : ℕ) × IsUnread text line (part_of s))
  read_section s tokens i cut = elim (decide_tree (line_at text s.start) (lexemes_of s.bytes.now tokens)) [
    | inl p ↦ inl (p.0, record { tokens = tokens; cut = cut; parsed = p.1 })
    | inr never ↦ let l = some_line s.start tokens (has_token text s tokens i cut) in
        inr (l.0, record { tokens = tokens; cut = cut; treeless = never; in_line = l.1 })
  ]

  read_sections : (ss : List Section) (cuts : List (List Token)) → AllByRecursion (InText text) ss →
      AreCutInto (map part_of ss) cuts → ((trees : List SectionTree) × AllZip (IsRead text) (map part_of ss) trees) ⊎
      ((line : ℕ) × First (HasTree text) (IsUnread text line) (map part_of ss))
  read_sections [] [] i h = inl ([], tt)
  read_sections [] (c ∷ cuts) i h = absurd h
  read_sections (s ∷ ss) [] i h = absurd h
  read_sections (s ∷ ss) (c ∷ cuts) i h = elim (read_section s c i.0 h.0) [
    | inl t ↦ elim (read_sections ss cuts i.1 h.1) [
      | inl ts ↦ inl (t.0 ∷ ts.0, (t.1, ts.1))
      | inr f ↦ inr (f.0, later t f.1)
    ]
    | inr u ↦ inr (u.0, here u.1)
  ]

  abbrev Either : Type 0
  Either = ((trees : List SectionTree) × Reads text trees) ⊎
      ((which : Phase) × (line : ℕ) × FailsReading text which line)

  lexed : {preamble : List ℕ} {ss : List Section} {before : List Token} (cuts : List (List Token)) →
      IsSplit text preamble ss → IsCut preamble before → AreCutInto (map part_of ss) cuts →
      PassesLex text before (map part_of ss)
  lexed cuts split cut each =
      record { preamble = _; found = _; cuts = cuts; split = split; parts = refl; cut = cut; each = each }

  after_lex : (preamble : List ℕ) (ss : List Section) (before : List Token) (cuts : List (List Token)) →
      IsSplit text preamble ss → IsCut preamble before → AreCutInto (map part_of ss) cuts → Either
  after_lex preamble ss [] cuts split cut each = elim (read_sections ss cuts (in_text split.following) each) [
    | inl t ↦ inl (t.0, record { sections = map part_of ss; lexed = lexed cuts split cut each; each = t.1 })
    | inr f ↦ inr (phase.Syntax, f.0, in_section _ (lexed cuts split cut each) f.1)
  ]
  after_lex preamble ss (t ∷ more) cuts split cut each =
      inr (phase.Syntax, t.line, in_preamble t more (map part_of ss) (lexed cuts split cut each) refl)

  after_split : (preamble : List ℕ) (ss : List Section) → IsSplit text preamble ss → Either
  after_split preamble ss split = elim (cut_parts (parts_of preamble ss)) [
    | inl c ↦ all_cut c.0 c.1
    | inr f ↦ inr (phase.Lex, f.0, uncut _ ss split f.1)
  ]
    where
      all_cut : (cuts : List (List Token)) → AreCutInto (parts_of preamble ss) cuts → Either
      all_cut [] h = absurd h
      all_cut (before ∷ cuts) h = after_lex _ ss before cuts split h.0 h.1

  pub read_or_fails : Either
  read_or_fails = elim split_or_bad [
    | inl d ↦ after_split d.0 d.1 d.2
    | inr f ↦ inr (phase.Lex, f.0, f.1)
  ]
