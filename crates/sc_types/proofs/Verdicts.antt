-- Which texts are accepted, and which phase refuses the others: exactly one, always.
use Rattle.sc_types.proofs.Common.{Accepts, AllZip, AreLow, Err, Fails, FailsRules, FailsTyped, IfOk, IsRead, IsTyped}
use Rattle.sc_types.proofs.Common.{List, None, Ok, Option, ProgramTree, Reads, Result, SectionTree, Some, TextPart, []}
use Rattle.sc_types.proofs.Common.{and_from, ap, arith, counts_broken, earlier, inl, inr, interface_broken, list_all}
use Rattle.sc_types.proofs.Common.{names_broken, nat_le, noted_all, program_of, refl, refused_at, section_height, subst}
use Rattle.sc_types.proofs.Common.{sym, true, types_broken, ℕ, ◌∙◌, ◌∷◌, ◌≡◌, ◌⊎◌}
use Rattle.sc_lex.specs.declared.refusal.Phase.{Phase}
use Rattle.sc_lex.specs.declared.refusal.Phase.TheVariants as phase
use Rattle.sc_parse_read.specs.Reading.{FailsReading}
use Rattle.sc_types.proofs.Lookups.{none_some, at_most}

-- a line that was noted stays noted
some_noted : {C : Type 0} (least : ℕ) (lines : List ℕ) → noted_all (Some least) lines ≡ None → C
unfolding noted_all
some_noted least [] h = none_some least (sym h)
some_noted least (line ∷ lines) h = some_noted (earlier least line) lines h

-- where there is no line, no rule is broken
pub no_line : (lines : List ℕ) → refused_at lines ≡ None → lines ≡ []
unfolding noted_all
no_line [] h = refl
no_line (line ∷ lines) h = some_noted line lines h

-- where there is no line, none is refused
none_at_none : refused_at [] ≡ None
unfolding noted_all
none_at_none = refl

-- no phase fails where all rules hold
pub typed_passes : (sections : List SectionTree) (program : ProgramTree) (in_phase : Phase) (line : ℕ) →
    IsTyped sections program → FailsRules sections in_phase line → ⊥
typed_passes sections program in_phase line t f = grind (arith, none_at_none)

-- an earlier phase passes where a later one fails
pub one_refusal : (sections : List SectionTree) (p q : Phase) (line other : ℕ) → FailsRules sections p line →
    FailsRules sections q other → (p ≡ q) × (line ≡ other)
one_refusal sections p q line other f g = grind (arith, none_at_none)

-- Texts, where reading is unique.

module _ (one_reading : (text : List ℕ) (trees others : List SectionTree) → Reads text trees → Reads text others →
    trees ≡ others) where
  pub one_program_of : (text : List ℕ) (program other : ProgramTree) → Accepts text program → Accepts text other →
      program ≡ other
  one_program_of text program other a b =
      a.typed.is ∙ ap program_of (one_reading text _ _ a.reads b.reads) ∙ sym b.typed.is

  pub accepted_of : (text : List ℕ) (program : ProgramTree) (in_phase : Phase) (line : ℕ) → Accepts text program →
      FailsTyped text in_phase line → ⊥
  accepted_of text program in_phase line a f = typed_passes _ program in_phase line a.typed
      (subst (λ s. FailsRules s _ line) (one_reading text _ _ f.reads a.reads) f.fails)

  module _ (read_or_refused : (text : List ℕ) (trees : List SectionTree) (in_phase : Phase) (line : ℕ) →
      Reads text trees → FailsReading text in_phase line → ⊥) where
    pub accepted_or_refused_of : (text : List ℕ) (program : ProgramTree) (in_phase : Phase) (line : ℕ) →
        Accepts text program → Fails text in_phase line → ⊥
    accepted_or_refused_of text program phase.Lex line a f = read_or_refused text _ phase.Lex line a.reads f
    accepted_or_refused_of text program phase.Syntax line a f = read_or_refused text _ phase.Syntax line a.reads f
    accepted_or_refused_of text program in_phase line a f = accepted_of text program in_phase line a f

-- one phase fails, and phases other than Syntax in one line
module _ (one_reading : (text : List ℕ) (trees others : List SectionTree) → Reads text trees → Reads text others →
    trees ≡ others) (read_or_refused : (text : List ℕ) (trees : List SectionTree) (p : Phase) (line : ℕ) →
    Reads text trees → FailsReading text p line → ⊥)
    (one_phase : (text : List ℕ) (p q : Phase) (line other : ℕ) →
    FailsReading text p line → FailsReading text q other →
    (p ≡ q) × (p ≡ phase.Lex → line ≡ other)) where
  both_typed : (text : List ℕ) (p q : Phase) (line other : ℕ) → FailsTyped text p line → FailsTyped text q other →
      (p ≡ q) × ((p ≡ phase.Syntax → ⊥) → line ≡ other)
  both_typed text p q line other f g =
      let one = one_refusal f.sections p q line other f.fails
      (subst (λ s. FailsRules s q other) (one_reading text _ _ g.reads f.reads) g.fails) in
      (one.0, λ _. one.1)

  -- what is read passes the first two phases
  read_passes : {C : Type 0} (text : List ℕ) (p q : Phase) (line other : ℕ) → FailsTyped text p line →
      FailsReading text q other → C
  read_passes text p q line other f g = absurd (read_or_refused text _ q other f.reads g)

  pub one_phase_of : (text : List ℕ) (p q : Phase) (line other : ℕ) → Fails text p line → Fails text q other →
      (p ≡ q) × ((p ≡ phase.Syntax → ⊥) → line ≡ other)
  one_phase_of text phase.Lex phase.Lex line other f g = let one = one_phase text _ phase.Lex line other f g in
      (refl, λ _. one.1 refl)
  one_phase_of text phase.Lex phase.Syntax line other f g = let one = one_phase text _ _ line other f g in
      (one.0, λ _. one.1 refl)
  one_phase_of text phase.Syntax phase.Lex line other f g = let one = one_phase text _ _ line other f g in
      (one.0, λ differ. absurd (differ refl))
  one_phase_of text phase.Syntax phase.Syntax line other f g = (refl, λ differ. absurd (differ refl))
  one_phase_of text phase.Lex q line other f g = read_passes text q phase.Lex other line g f
  one_phase_of text phase.Syntax q line other f g = read_passes text q phase.Syntax other line g f
  one_phase_of text p phase.Lex line other f g = read_passes text p phase.Lex line other f g
  one_phase_of text p phase.Syntax line other f g = read_passes text p phase.Syntax line other f g
  one_phase_of text p q line other f g = both_typed text p q line other f g

low_from : (text : List ℕ) (parts : List TextPart) (trees : List SectionTree) → AllZip (IsRead text) parts trees →
    list_all {X = SectionTree} (λ tree. nat_le (section_height tree) 256) trees ≡ true
low_from text [] [] h = refl
low_from text [] (tree ∷ trees) h = absurd h
low_from text (part ∷ parts) [] h = absurd h
low_from text (part ∷ parts) (tree ∷ trees) h =
    and_from (nat_le _ 256) _ (at_most _ 256 h.0.parsed.low) (low_from text parts trees h.1)

-- no tree of a text is high
pub reads_low : (text : List ℕ) (trees : List SectionTree) → Reads text trees → AreLow trees
reads_low text trees r = low_from text _ trees r.each

-- a text that isn't read fails
pub unread_fails : (text : List ℕ) (in_phase : Phase) (line : ℕ) → FailsReading text in_phase line →
    Fails text in_phase line
unread_fails text phase.Lex line f = f
unread_fails text phase.Syntax line f = f
unread_fails text _ line f = absurd f

-- a text whose trees break a rule fails
pub untyped_fails : (text : List ℕ) (trees : List SectionTree) (in_phase : Phase) (line : ℕ) → Reads text trees →
    FailsRules trees in_phase line → Fails text in_phase line
untyped_fails text trees phase.Lex line r f = absurd f
untyped_fails text trees phase.Syntax line r f = absurd f
untyped_fails text trees _ line r f = record { sections = trees; reads = r; fails = f }

-- a text whose trees have their types is accepted
pub typed_accepted : {E : Type 0} (text : List ℕ) (trees : List SectionTree) (r : Result ProgramTree E) →
    Reads text trees → IfOk r (IsTyped trees) → IfOk r (Accepts text)
typed_accepted text trees (Ok program) read h = record { sections = trees; reads = read; typed = h }
typed_accepted text trees (Err e) read h = tt

-- A rule is broken at a line, or holds.
abbrev Decided : List ℕ → Type 0
Decided lines = (lines ≡ []) ⊎ ((line : ℕ) × (refused_at lines ≡ Some line))

decide : (lines : List ℕ) → Decided lines
decide lines = go _ refl where
  go : (found : Option ℕ) → refused_at lines ≡ found → Decided lines
  go None h = inl (no_line lines h)
  go (Some line) h = inr (line, h)

abbrev Judged : List SectionTree → Type 0
Judged trees = IsTyped trees (program_of trees) ⊎ ((in_phase : Phase) × (line : ℕ) × FailsRules trees in_phase line)

judge : (trees : List SectionTree) → Judged trees
judge trees = elim (decide (names_broken trees)) [
  | inr n ↦ inr (phase.Names, n.0, n.1)
  | inl names ↦ elim (decide (types_broken trees)) [
    | inr t ↦ inr (phase.Types, t.0, (names, t.1))
    | inl types ↦ elim (decide (interface_broken trees)) [
      | inr i ↦ inr (phase.Interface, i.0, (names, types, i.1))
      | inl interfaces ↦ elim (decide (counts_broken trees)) [
        | inr c ↦ inr (phase.Count, c.0, (names, types, interfaces, c.1))
        | inl counts ↦ inl (record {
          names = names;
          types = types;
          interfaces = interfaces;
          counts = counts;
          is = refl;
        })
      ]
    ]
  ]
]

abbrev pub Verdict : List ℕ → Type 0
Verdict text =
    ((program : ProgramTree) × Accepts text program) ⊎ ((in_phase : Phase) × (line : ℕ) × Fails text in_phase line)

-- each text is accepted or fails
pub accepted_or_fails_of : ((text : List ℕ) → ((trees : List SectionTree) × Reads text trees) ⊎
    ((in_phase : Phase) × (line : ℕ) × FailsReading text in_phase line)) → (text : List ℕ) → Verdict text
accepted_or_fails_of read_or_fails text = elim (read_or_fails text) [
  | inr f ↦ inr (f.0, f.1, unread_fails text f.0 f.1 f.2)
  | inl r ↦ elim (judge r.0) [
    | inl t ↦ inl (program_of r.0, record { sections = r.0; reads = r.1; typed = t })
    | inr f ↦ inr (f.0, f.1, untyped_fails text r.0 f.0 f.1 r.1 f.2)
  ]
]
