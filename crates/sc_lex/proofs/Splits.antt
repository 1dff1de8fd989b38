-- Sections that follow one another, and what the loop over them keeps.
use Rattle.sc_lex.proofs.Common.{AreSections, IsBadHeading, IsSection, IsTrue, List, NoHeading, [], and_parts, ap}
use Rattle.sc_lex.proofs.Common.{arith, cases_lt, drop, drop-drop, flat_map, is_heading, length, length-drop}
use Rattle.sc_lex.proofs.Common.{line_after, line_at, min, newlines, none, none-some, refl, section, slice_range}
use Rattle.sc_lex.proofs.Common.{sum_by-append, sym, take, take_all, ℕ, ⊎_elim, ◌++◌, ◌+◌, ◌-◌, ◌<◌, ◌∙◌, ◌∷◌, ◌≡◌, ◌≤◌}
use Rattle.std.proofs.Math.Seq.{take-add}
use Rattle.sc_lex.specs.declared.section.Section.{Section}
use Rattle.sc_lex.proofs.Wording.{heading_fits}

pub heading_within : (text : List ℕ) (at : ℕ) → IsTrue (is_heading text at) → at < length text
heading_within text at h =
    let begins = (and_parts _ _ h).1 in
    omega (arith, heading_fits (drop at text) begins, length-drop at text)

pub take-range : (text : List ℕ) (a b : ℕ) → a ≤ b → take b text ≡ take a text ++ slice_range text a b
take-range text a b h = let there : a + (b - a) ≡ b = omega arith in
    ap (λ n. take n text) (sym there) ∙ take-add a _ text

range-append : (text : List ℕ) (a b c : ℕ) → a ≤ b → b ≤ c →
    slice_range text a c ≡ slice_range text a b ++ slice_range text b c
range-append text a b c h k =
    let there : a + (b - a) ≡ b = omega arith in
    let far : c - a ≡ (b - a) + (c - b) = omega arith in
    let following : drop b text ≡ drop (b - a) (drop a text) = rw (drop-drop, there) refl in
    rw (following, far) (take-add _ _ _)

pub line_at_end : (text : List ℕ) (at end : ℕ) → at ≤ end →
    line_after (line_at text at) (newlines (slice_range text at end)) ≡ line_at text end
line_at_end text at end h =
    lines _ _ _ (ap newlines (take-range text at end h) ∙ sum_by-append _ (take at text) (slice_range text at end))
  where
    lines : (n m k : ℕ) → k ≡ n + m → min (min (1 + n) 4294967295 + m) 4294967295 ≡ min (1 + k) 4294967295
    lines n m k e = omega arith

sections_push : {text : List ℕ} {at end next : ℕ} {ss : List Section} → AreSections text at end ss → (s : Section) →
    IsSection text end next s → AreSections text at next (ss ++ s ∷ [])
sections_push none s h = section s h none
sections_push (section first g others) s h = section first g (sections_push others s h)

pub sections_rise : {text : List ℕ} {at end : ℕ} {ss : List Section} → AreSections text at end ss → at ≤ end
sections_rise none = omega arith
sections_rise (section first g others) = omega (arith, g.within, sections_rise others)

-- the bytes of sections that follow one another
sections_join : {text : List ℕ} {at end : ℕ} {ss : List Section} → AreSections text at end ss → end ≤ length text →
    slice_range text at end ≡ flat_map (λ s. s.bytes.now) ss
sections_join {text} {at} none h = let nothing : at - at ≡ 0 = omega arith in rw nothing
sections_join {text} {at} {end} (section {next = next} first g others) h =
    let low : at ≤ next = omega (arith, g.within) in
    let rest = sections_join others h in
    range-append text at next end low (sections_rise others) ∙ rw (g.bytes, rest)

-- what the loop keeps: the sections up to a place where a compartment line stands, or to the end
pub record Progress (text : List ℕ) (first at line : ℕ) (found : List Section) : Type 0 where
  pub within : at ≤ length text
  pub heading : at < length text → IsTrue (is_heading text at)
  pub in_line : line ≡ line_at text at
  pub before : NoHeading text 0 first
  pub so_far : AreSections text first at found
  pub good : (k : ℕ) → k < at → IsBadHeading text k → ⊥

pub progress_start : (text : List ℕ) (first line : ℕ) → first ≤ length text →
    (first < length text → IsTrue (is_heading text first)) → NoHeading text 0 first →
    line ≡ line_after 1 (newlines (take first text)) → Progress text first first line []
progress_start text first line fits heading before is = record {
  within = fits;
  heading = heading;
  in_line = is;
  before = before;
  so_far = none;
  good = λ k low bad. before k (omega arith) low bad.heading;
}

pub progress_on : (text : List ℕ) (first at end line : ℕ) (found : List Section) (s : Section) →
    Progress text first at line found → IsSection text at end s → (end < length text → IsTrue (is_heading text end)) →
    Progress text first end (line_after line (newlines (slice_range text at end))) (found ++ s ∷ [])
progress_on text first at end line found s h g heading = record {
  within = g.within.1;
  heading = heading;
  in_line = ap (λ l. line_after l (newlines (slice_range text at end))) h.in_line ∙
      line_at_end text at end (omega (arith, g.within));
  before = h.before;
  so_far = sections_push h.so_far s g;
  good = λ k low bad. ⊎_elim (λ less. h.good k less bad)
      (λ more. ⊎_elim (λ inside. g.whole k (omega arith) low bad.heading)
      (λ same. let e : k ≡ at = omega arith in none-some s.name (sym (rw e at bad.nameless) ∙ g.name)) (cases_lt at k))
      (cases_lt k at);
}

pub progress_joined : (text : List ℕ) (first at line : ℕ) (found : List Section) → Progress text first at line found →
    length text ≤ at → take first text ++ flat_map (λ s. s.bytes.now) found ≡ text
progress_joined text first at line found h past =
    let low = sections_rise h.so_far in
    ap (λ more. take first text ++ more) (sym (sections_join h.so_far h.within)) ∙ sym (take-range text first at low) ∙
    take_all at text past

pub progress_good : (text : List ℕ) (first at line : ℕ) (found : List Section) → Progress text first at line found →
    length text ≤ at → (k : ℕ) → IsBadHeading text k → ⊥
progress_good text first at line found h past k bad = h.good k (omega (arith, heading_within text k bad.heading)) bad
