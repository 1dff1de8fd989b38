-- A made text is split into its sections, and these are read as its trees.
use Rattle.sc_report_made.proofs.Common.{AllZip, AreSame, Joined, List, MadeTextsAreRead, SectionTree, [], ap, arith}
use Rattle.sc_report_made.proofs.Common.{bytes_of, concat, flat_map, inr, made_text, made_trees, made_main, map}
use Rattle.sc_report_made.proofs.Common.{numbers_from, refl, subst, suc, worker_text, worker_tree, workers, zero, ℕ}
use Rattle.sc_report_made.proofs.Common.{◌++◌, ◌+◌, ◌∷◌, ◌≡◌, ◌≤◌}
use Rattle.sc_lex.specs.Prelude.{line_at, nothing}
use Rattle.sc_report_made.specs.Laws.{IsReadAs}
use Rattle.sc_lex.specs.declared.section.Section.{Section}
use Rattle.sc_parse_read.specs.Reading.{IsRead, part_of}
use Rattle.sc_back_reread_laws.specs.Performing as single
use Rattle.sc_back_reread_laws.proofs.Joining.{to_sections}
use Rattle.sc_back_reread_laws.proofs.Replaced.{cuts_of}
use Rattle.sc_back_reread_laws.proofs.Splitting as splitting
use Rattle.sc_report_made.proofs.Sections.{IsSectionText, main_is_text, worker_is_text}

-- The texts of sections, one for each tree.
abbrev AreTexts : List (List ℕ) → List SectionTree → Type 0
AreTexts texts trees = AllZip IsSectionText texts trees

joined : (texts : List (List ℕ)) (trees : List SectionTree) → AreTexts texts trees → Joined texts
joined [] [] h = splitting.nothing
joined [] (tree ∷ trees) h = absurd h
joined (text ∷ texts) [] h = absurd h
joined (text ∷ texts) (tree ∷ trees) h = splitting.more h.0.is (inr h.0.ends) (joined texts trees h.1)

-- the trees of sections of a text
record AreRead (whole : List ℕ) (found : List Section) (trees : List SectionTree) : Type 0 where
  others : List SectionTree
  read : AllZip (IsRead whole) (map part_of found) others
  same : AreSame others trees

module _ (whole : List ℕ) where
  read_all : (found : List Section) (texts : List (List ℕ)) (trees : List SectionTree) → map bytes_of found ≡ texts →
      AreTexts texts trees → AreRead whole found trees
  read_all [] [] [] e h = record { others = []; read = tt; same = tt }
  read_all [] [] (tree ∷ trees) e h = absurd h
  read_all [] (text ∷ texts) trees e h = absurd (cc)
  read_all (s ∷ found) [] trees e h = absurd (cc)
  read_all (s ∷ found) (text ∷ texts) [] e h = absurd h
  read_all (s ∷ found) (text ∷ texts) (tree ∷ trees) e h =
      let first : text ≡ s.bytes.now = cc in
      let is : single.IsReadAs s.bytes.now tree = subst (λ b. single.IsReadAs b tree) first h.0.read in
      let parsed = is.parsed (line_at whole s.start) in
      let rest = read_all found texts trees (cc) h.1 in
      record {
        others = parsed.other ∷ rest.others;
        read = (record { tokens = is.tokens; cut = is.cut; parsed = parsed.parsed }, rest.read);
        same = (parsed.same, rest.same);
      }

-- a text that is joined of them is read as the trees
texts_are_read : (texts : List (List ℕ)) (trees : List SectionTree) → AreTexts texts trees →
    IsReadAs (concat texts) trees
texts_are_read texts trees h =
    let whole : List ℕ = concat texts in
    let found = to_sections [] texts (joined texts trees h) (inr refl) in
    let all = read_all whole found.found texts trees found.bytes h in
    let cuts = cuts_of whole (map part_of found.found) all.others all.read in
    record {
      others = all.others;
      reads = record {
        sections = map part_of found.found;
        lexed = record {
          preamble = [];
          found = found.found;
          cuts = cuts.0;
          split = record {
            prefix = refl;
            before = λ at low high is. omega (arith, high);
            following = found.sections;
          };
          parts = refl;
          cut = nothing;
          each = cuts.1;
        };
        each = all.read;
      };
      same = all.same;
    }

workers_are : (size seed first count : ℕ) → size ≤ 1000 → first + count ≤ 31 →
    AreTexts (map (worker_text size seed) (numbers_from first count))
    (map (worker_tree size seed) (numbers_from first count))
workers_are size seed first zero few low = tt
workers_are size seed first (suc count) few low = (
  worker_is_text size seed first few (omega (arith, low)),
  workers_are size seed (suc first) count few (omega (arith, low)),
)

joined_texts : (f : ℕ → List ℕ) (is : List ℕ) → concat (map f is) ≡ flat_map f is
joined_texts f [] = refl
joined_texts f (i ∷ is) = ap (λ t. f i ++ t) (joined_texts f is)

pub made_texts_are_read : MadeTextsAreRead
made_texts_are_read size seed asked =
    let is : List ℕ = numbers_from 0 (workers size) in
    let few = asked.few in
    let texts : List (List ℕ) = made_main size seed ∷ map (worker_text size seed) is in
    let whole : concat texts ≡ made_text size seed =
    ap (λ t. made_main size seed ++ t) (joined_texts (worker_text size seed) is) in
    subst (λ t. IsReadAs t (made_trees size seed)) whole (texts_are_read texts (made_trees size seed) (
      main_is_text size seed few,
      workers_are size seed 0 (workers size) few (omega arith),
    ))
