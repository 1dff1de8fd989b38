-- The parts of a text, by the places at which its sections begin.
use Rattle.sc_types.proofs.Common.{Accepts, AreStarts, IsKept, IsSource, List, ProgramTree, Section, SectionTree, Some}
use Rattle.sc_types.proofs.Common.{[], add-one, ap, ap₂, arith, as_many, concat, drop, first_start, flat_map, get_or}
use Rattle.sc_types.proofs.Common.{interfaces_from, length, length-map, map, map-append, part_of, parts_from, refl}
use Rattle.sc_types.proofs.Common.{slice_get, slice_range, source_of, start_of, subst, suc, sym, take, take_more, zero}
use Rattle.sc_types.proofs.Common.{ℕ, ◌++◌, ◌+◌, ◌-◌, ◌<◌, ◌∙◌, ◌∷◌, ◌≡◌, ◌≤◌}
use Rattle.sc_lex.specs.Prelude.{AreSections, IsSplit, line_at, none, section}
use Rattle.sc_lex.proofs.Splits.{progress_joined, sections_rise}
use Rattle.sc_parse_read.proofs.Splits.{split_good, same_parts}

abbrev bytes_of : Section → List ℕ
bytes_of s = s.bytes.now

first_is : {text : List ℕ} {at end : ℕ} {found : List Section} → AreSections text at end found → end ≡ length text →
    first_start text (map start_of found) ≡ at
first_is none e = sym e
first_is (section first g others) e = g.start

parts_are : {text : List ℕ} {at end : ℕ} {found : List Section} → AreSections text at end found → end ≡ length text →
    parts_from text (map start_of found) ≡ map bytes_of found
parts_are none e = refl
parts_are {text} (section first g others) e = ap₂ (λ x xs. x ∷ xs)
    (ap₂ (λ a b. slice_range text a b) g.start (first_is others e) ∙ sym g.bytes) (parts_are others e)

concat_is : (found : List Section) → concat (map bytes_of found) ≡ flat_map bytes_of found
concat_is [] = refl
concat_is (s ∷ found) = ap (λ more. bytes_of s ++ more) (concat_is found)

joined : {text preamble : List ℕ} {found : List Section} → IsSplit text preamble found →
    take (length preamble) text ++ flat_map bytes_of found ≡ text
joined {text} {preamble} {found} split = progress_joined text _ (length text) (line_at text _) found (record {
  within = omega arith;
  heading = λ less. absurd (omega arith);
  in_line = refl;
  before = split.before;
  so_far = split.following;
  good = λ k low bad. split_good split k bad;
}) (omega arith)

-- as many interfaces as sections
pub interfaces_length : (sections : List SectionTree) (k : ℕ) (rest : List SectionTree) →
    length (interfaces_from sections k rest) ≡ length rest
interfaces_length sections k [] = refl
interfaces_length sections k (tree ∷ rest) = ap suc (interfaces_length sections _ rest)

-- as many sections as compartments
each_has_one : {text preamble : List ℕ} {found : List Section} (program : ProgramTree) → IsSplit text preamble found →
    Accepts text program → length found ≡ length program.interfaces.comps
each_has_one {text} {preamble} {found} program split a =
    let r = a.reads in
    sym (length-map found part_of) ∙ ap length (same_parts split r.lexed.split) ∙ ap length (sym r.lexed.parts) ∙
    as_many _ _ _ r.each ∙ sym (interfaces_length a.sections 0 _) ∙ ap (λ p. length p.interfaces.comps) (sym a.typed.is)

-- what is kept of a text makes its parts
module _ (text starts : List ℕ) (program : ProgramTree) (k : IsKept text starts program) where
  prefix_is : first_start text starts ≡ length k.starts_are.preamble
  prefix_is = ap (first_start text) k.starts_are.places ∙ first_is k.starts_are.split.following refl

  bytes_are : parts_from text starts ≡ map bytes_of k.starts_are.found
  bytes_are = ap (parts_from text) k.starts_are.places ∙ parts_are k.starts_are.split.following refl

  preamble_is : take (first_start text starts) text ≡ k.starts_are.preamble
  preamble_is = ap (λ n. take n text) prefix_is ∙ sym k.starts_are.split.prefix

  pub source_kept : IsSource (source_of text starts program)
  source_kept = record {
    accepted = k.accepted;
    split = record {
      found = k.starts_are.found;
      split = subst (λ p. IsSplit text p k.starts_are.found) (sym preamble_is) k.starts_are.split;
      bytes = bytes_are;
    };
    joined = ap₂ (λ a b. a ++ b) (ap (λ n. take n text) prefix_is)
        (ap concat bytes_are ∙ concat_is k.starts_are.found) ∙ joined k.starts_are.split;
    each = ap length bytes_are
        ∙ length-map k.starts_are.found bytes_of ∙ each_has_one program k.starts_are.split k.accepted;
  }

  pub starts_long : length starts ≡ length program.interfaces.comps
  starts_long = ap length k.starts_are.places
      ∙ length-map k.starts_are.found start_of ∙ each_has_one program k.starts_are.split k.accepted

part_here : (text starts : List ℕ) (at : ℕ) → at < length starts →
    slice_get (parts_from text starts) at ≡ Some (slice_range text (first_start text (drop at starts))
    (first_start text (drop (suc at) starts)))
part_here text [] at h = absurd (omega arith)
part_here text (x ∷ starts) zero h = refl
part_here text (x ∷ starts) (suc at) h = part_here text starts at (omega arith)

record IsRange (text starts : List ℕ) (at : ℕ) : Type 0 where
  low : first_start text (drop at starts) ≤ first_start text (drop (suc at) starts)
  high : first_start text (drop (suc at) starts) ≤ length text

ranges : {text : List ℕ} {from end : ℕ} {found : List Section} → AreSections text from end found → end ≡ length text →
    (at : ℕ) → IsRange text (map start_of found) at
ranges none e zero = record { low = omega arith; high = omega arith }
ranges none e (suc at) = record { low = omega arith; high = omega arith }
ranges {text} (section first g others) e zero = record {
  low = let is = first_is others e in omega (arith, g.start, g.within, is);
  high = let is = first_is others e in omega (arith, sections_rise others, is);
}
ranges (section first g others) e (suc at) = let r = ranges others e at in record { low = r.low; high = r.high }

-- The section at a place lies between its start and the next one.
pub section_is : (text starts : List ℕ) (at start end : ℕ) (bytes : List ℕ) → at < length starts →
    start ≡ first_start text (drop at starts) → end ≡ first_start text (drop (at + 1) starts) →
    bytes ≡ slice_range text start end → slice_get (parts_from text starts) at ≡ Some bytes
section_is text starts at start end bytes within from to is =
    part_here text starts at within ∙ ap Some (ap₂ (λ a b. slice_range text a b)
    (sym from) (ap (λ n. first_start text (drop n starts)) (sym (add-one at)) ∙ sym to) ∙ sym is)

pub section_lies : (text starts : List ℕ) (at start end : ℕ) → AreStarts text starts → start ≡ first_start text
    (drop at starts) → end ≡ first_start text (drop (at + 1) starts) → (start ≤ end) × (end ≤ length text)
section_lies text starts at start end a from to =
    let r : IsRange text starts at = subst (λ s. IsRange text s at) (sym a.places) (ranges a.split.following refl at) in
    let last : end ≡ first_start text (drop (suc at) starts) =
    to ∙ ap (λ n. first_start text (drop n starts)) (add-one at) in
    (omega (arith, r.low, from, last), omega (arith, r.high, last))

-- The preamble ends where the first section begins.
pub preamble_lies : (text starts : List ℕ) (end : ℕ) → AreStarts text starts → end ≡ first_start text (drop 0 starts) →
    (0 ≤ end) × (end ≤ length text)
preamble_lies text starts end a to =
    let is : first_start text starts ≡ length _ = ap (first_start text) a.places ∙ first_is a.split.following refl in
    (omega arith, omega (arith, to, is, sections_rise a.split.following))

pub preamble_ends : (text starts : List ℕ) (end : ℕ) (bytes : List ℕ) → end ≡ first_start text (drop 0 starts) →
    bytes ≡ slice_range text 0 end → bytes ≡ take (first_start text starts) text
preamble_ends text starts end bytes to is = let whole : end - 0 ≡ end = omega arith in
    is ∙ ap (λ n. take n text) (whole ∙ to)

-- one more start
pub starts_more : (sections : List Section) (starts : List ℕ) (at : ℕ) (s : Section) → at < length sections →
    s ≡ get_or sections at s → starts ≡ map start_of (take at sections) →
    starts ++ start_of s ∷ [] ≡ map start_of (take (at + 1) sections)
starts_more sections starts at s low is h = ap₂ (λ a b. a ++ start_of b ∷ []) h is
    ∙ sym (map-append _ _ (get_or _ at s ∷ [])) ∙ ap (map _) (sym (take_more _ at s low))
