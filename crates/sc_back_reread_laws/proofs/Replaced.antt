-- Texts with replaced sections are split and read.
use Rattle.sc_back_reread_laws.proofs.Common.{AllBecome, AllZip, Becomes, Bool, Interfaces, IsCut, IsParsed, IsRead}
use Rattle.sc_back_reread_laws.proofs.Common.{IsReadAs, Lexeme, List, None, Option, Row, Section, SectionTree, Some}
use Rattle.sc_back_reread_laws.proofs.Common.{SpellsSection, TextPart, Token, [], ap, arith, back_text, back_tree}
use Rattle.sc_back_reread_laws.proofs.Common.{concat, false, if◌then◌else◌, inl, inr, kept, length, lexemes_of, line_at}
use Rattle.sc_back_reread_laws.proofs.Common.{map, new_text, new_texts, part_of, refl, replaced, section_text, subst}
use Rattle.sc_back_reread_laws.proofs.Common.{suc, sym, true, ℕ, ◌++◌, ◌+◌, ◌<◌, ◌∙◌, ◌∷◌, ◌≡◌, ◌≤◌, ◌⊎◌}
use Rattle.sc_parse.specs.Sections as spell
use Rattle.sc_parse_read.proofs.Splits.{same_parts, same_preamble}
use Rattle.sc_back_reread_laws.specs.Replaced.{IsPerformer, IsReplacement, ReplacedTextsAreRead, texts_of}
use Rattle.sc_back_reread_laws.proofs.Headings.{last}
use Rattle.sc_back_reread_laws.proofs.Headless.{performing_text, text_closing}
use Rattle.sc_back_reread_laws.proofs.Joining.{joined_split}
use Rattle.sc_back_reread_laws.proofs.Reading.{performing_texts}
use Rattle.sc_back_reread_laws.proofs.Splitting.{IsText, Joined, from_sections, more, nothing}

-- A section is spelled, and parsed, in any line.
spelled_moved : (line other : ℕ) (ts : List Lexeme) (tree : SectionTree) → SpellsSection line ts tree →
    SpellsSection other ts (record tree { line = other })
spelled_moved line other _ _ (spell.section t name is directives decls) = spell.section t name is directives decls

parsed_moved : (line other : ℕ) (ts : List Lexeme) (tree : SectionTree) → IsParsed line ts tree →
    IsParsed other ts (record tree { line = other })
parsed_moved line other ts tree p = record {
  spelled = spelled_moved line other ts tree p.spelled;
  low = p.low;
  few = p.few;
}

module _ (interfaces : Interfaces) (rows : ℕ → List Row) (set : ℕ → Bool) (replace : ℕ → Option (List ℕ)) where
  -- what becomes of one section's bytes
  data Change (comp : ℕ) : Option (List ℕ) → Type 0 where
    stays : set comp ≡ false → Change comp None
    performs : set comp ≡ true → IsPerformer interfaces comp (rows comp) →
        Change comp (Some (back_text interfaces comp (rows comp)))

  change_of : (count comp : ℕ) → IsReplacement interfaces rows set replace count → comp < count →
      Change comp (replace comp)
  change_of count comp r low = subst (Change comp) (sym (r.texts comp)) (by (set comp) refl)
    where
      by : (b : Bool) → set comp ≡ b →
          Change comp (if b then Some (back_text interfaces comp (rows comp)) else None)
      by true e = performs e (r.can comp low e)
      by false e = stays e

  -- the text of a performer, and that it ends with a newline
  performer_text : (comp : ℕ) → IsPerformer interfaces comp (rows comp) →
      IsText (back_text interfaces comp (rows comp)) × (last 10 (back_text interfaces comp (rows comp)) ≡ 10)
  performer_text comp p =
      let whole : back_text interfaces comp (rows comp) ≡ section_text interfaces comp (rows comp) p.interface =
      rw p.at in
      subst (λ text. IsText text × (last 10 text ≡ 10)) (sym whole) (
        performing_text interfaces comp (rows comp) p.interface p.can,
        text_closing interfaces comp (rows comp) p.interface 10,
      )

  changed : (comp : ℕ) (found : Option (List ℕ)) → Change comp found → (old : List ℕ) (olds : List (List ℕ)) →
      IsText old → (olds ≡ []) ⊎ (last 10 old ≡ 10) →
      IsText (new_text found old) × ((olds ≡ []) ⊎ (last 10 (new_text found old) ≡ 10))
  changed comp _ (stays e) old olds t ends = (t, ends)
  changed comp _ (performs e p) old olds t ends = let q = performer_text comp p in (q.0, inr q.1)

  abbrev Changes : (comp : ℕ) → List (List ℕ) → Type 0
  Changes comp [] = Unit {0}
  Changes comp (old ∷ olds) = Change comp (replace comp) × Changes (suc comp) olds

  changes_of : (count comp : ℕ) (olds : List (List ℕ)) → IsReplacement interfaces rows set replace count →
      comp + length olds ≤ count → Changes comp olds
  changes_of count comp [] r low = tt
  changes_of count comp (old ∷ olds) r low =
      (change_of count comp r (omega (arith, low)), changes_of count (suc comp) olds r (omega (arith, low)))

  joined_again : (comp : ℕ) (olds : List (List ℕ)) → Changes comp olds → Joined olds →
      Joined (new_texts replace comp olds)
  joined_again comp [] c nothing = nothing
  joined_again comp (old ∷ olds) c (more t ends others) =
      let first = changed comp (replace comp) c.0 old olds t ends in
      more first.0 (following (new_text (replace comp) old) first.1) (joined_again (suc comp) olds c.1 others)
    where
      following : (new : List ℕ) → (olds ≡ []) ⊎ (last 10 new ≡ 10) →
          (new_texts replace (suc comp) olds ≡ []) ⊎ (last 10 new ≡ 10)
      following new ends = elim ends [
        | inl e ↦ inl (ap (new_texts replace (suc comp)) e)
        | inr n ↦ inr n
      ]

  -- the trees of sections with new bytes
  module _ (text new : List ℕ) where
    -- a tree of a section, and what it was
    record Again (comp : ℕ) (s : Section) (old : SectionTree) : Type 0 where
      tree : SectionTree
      read : IsRead new (part_of s) tree
      becomes : Becomes interfaces rows set comp old tree

    read_one : (comp : ℕ) (found : Option (List ℕ)) → Change comp found → (old : TextPart) (tree : SectionTree) →
        IsRead text old tree → (s : Section) → s.bytes.now ≡ new_text found old.bytes → Again comp s tree
    read_one comp _ (stays e) old tree r s same =
        let line : ℕ = line_at new s.start in
        subst (λ bytes. (tokens : List Token) → IsCut bytes tokens →
        IsParsed (line_at text old.start) (lexemes_of bytes tokens) tree → Again comp s tree) same
        (λ tokens cut parsed. record {
          tree = record tree { line = line };
          read = record {
            tokens = tokens;
            cut = cut;
            parsed = parsed_moved (line_at text old.start) line (lexemes_of s.bytes.now tokens) tree parsed;
          };
          becomes = kept e line refl;
        }) r.tokens r.cut r.parsed
    read_one comp _ (performs e p) old tree r s same =
        let line : ℕ = line_at new s.start in
        let is : IsReadAs s.bytes.now (back_tree interfaces comp (rows comp) p.interface) =
        subst (λ bytes. IsReadAs bytes (back_tree interfaces comp (rows comp) p.interface)) (sym same)
        (performing_texts interfaces comp (rows comp) p.interface p.at p.can) in
        let parsed = is.parsed line in
        record {
          tree = parsed.other;
          read = record { tokens = is.tokens; cut = is.cut; parsed = parsed.parsed };
          becomes = replaced e p.interface p.at parsed.same;
        }

    -- the trees of all
    record AllAgain (comp : ℕ) (ss : List Section) (olds : List SectionTree) : Type 0 where
      trees : List SectionTree
      read : AllZip (IsRead new) (map part_of ss) trees
      become : AllBecome interfaces rows set comp olds trees

    read_all : (comp : ℕ) (found ss : List Section) (trees : List SectionTree) → Changes comp (texts_of found) →
        AllZip (IsRead text) (map part_of found) trees → texts_of ss ≡ new_texts replace comp (texts_of found) →
        AllAgain comp ss trees
    read_all comp [] [] [] c r e = record { trees = []; read = tt; become = tt }
    read_all comp [] [] (t ∷ trees) c r e = absurd r
    read_all comp [] (s ∷ ss) trees c r e = absurd (cc)
    read_all comp (f ∷ found) [] trees c r e = absurd (cc)
    read_all comp (f ∷ found) (s ∷ ss) [] c r e = absurd r
    read_all comp (f ∷ found) (s ∷ ss) (t ∷ trees) c r e =
        let first : s.bytes.now ≡ new_text (replace comp) f.bytes.now = cc in
        let others : texts_of ss ≡ new_texts replace (suc comp) (texts_of found) = cc in
        let one = read_one comp (replace comp) c.0 (part_of f) t r.0 s first in
        let rest = read_all (suc comp) found ss trees c.1 r.1 others in
        record { trees = one.tree ∷ rest.trees; read = (one.read, rest.read); become = (one.becomes, rest.become) }

-- each section that is read is cut
pub cuts_of : (text : List ℕ) (parts : List TextPart) (trees : List SectionTree) → AllZip (IsRead text) parts trees →
    (cuts : List (List Token)) × AllZip (λ part tokens. IsCut part.bytes tokens) parts cuts
cuts_of text [] trees h = ([], tt)
cuts_of text (p ∷ parts) [] h = absurd h
cuts_of text (p ∷ parts) (t ∷ trees) h =
    let rest = cuts_of text parts trees h.1 in (h.0.tokens ∷ rest.0, (h.0.cut, rest.1))

as_many : (text : List ℕ) (found : List Section) (trees : List SectionTree) →
    AllZip (IsRead text) (map part_of found) trees → length (texts_of found) ≡ length trees
as_many text [] [] h = refl
as_many text [] (t ∷ trees) h = absurd h
as_many text (f ∷ found) [] h = absurd h
as_many text (f ∷ found) (t ∷ trees) h = omega (arith, as_many text found trees h.1)

pub replaced_texts : ReplacedTextsAreRead
replaced_texts text preamble found trees split reads interfaces rows set replace r =
    let lexed = reads.lexed in
    let parts : reads.sections ≡ map part_of found = lexed.parts ∙ same_parts lexed.split split in
    let each : AllZip (IsRead text) (map part_of found) trees =
    subst (λ ps. AllZip (IsRead text) ps trees) parts reads.each in
    let olds : List (List ℕ) = texts_of found in
    let news : List (List ℕ) = new_texts replace 0 olds in
    let many = as_many text found trees each in
    let changes = changes_of interfaces rows set replace (length trees) 0 olds r (omega (arith, many)) in
    let joined = joined_again interfaces rows set replace 0 olds changes (from_sections split.following refl) in
    let again = joined_split text preamble found split news joined (λ e. ap (new_texts replace 0) e) in
    let new : List ℕ = preamble ++ concat news in
    let all = read_all interfaces rows set replace text new 0 found again.0 trees changes each again.2 in
    let cuts = cuts_of new (map part_of again.0) all.trees all.read in
    record {
      found = again.0;
      split = again.1;
      bytes = again.2;
      others = all.trees;
      reads = record {
        sections = map part_of again.0;
        lexed = record {
          preamble = preamble;
          found = again.0;
          cuts = cuts.0;
          split = again.1;
          parts = refl;
          cut = subst (λ p. IsCut p []) (same_preamble lexed.split split) lexed.cut;
          each = cuts.1;
        };
        each = all.read;
      };
      become = all.become;
    }
