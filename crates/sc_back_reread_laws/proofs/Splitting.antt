-- Texts of sections, joined and split.
use Rattle.sc_back_reread_laws.proofs.Common.{AreSections, IsSection, IsTrue, List, NoHeading, Section, Some, [], ap}
use Rattle.sc_back_reread_laws.proofs.Common.{append_assoc, ap₂, arith, begins_heading, drop, drop-append_seam}
use Rattle.sc_back_reread_laws.proofs.Common.{drop-drop, drop_all, line_text, inl, inr, is_heading, length}
use Rattle.sc_back_reread_laws.proofs.Common.{length-append, length-drop, length-take-le, map, name_at, none, refl}
use Rattle.sc_back_reread_laws.proofs.Common.{section, slice_range, sym, take, take-append-drop, true, ℕ, ◌++◌, ◌+◌}
use Rattle.sc_back_reread_laws.proofs.Common.{◌-◌, ◌<◌, ◌∙◌, ◌∷◌, ◌≡◌, ◌≤◌, ◌⊎◌}
unfoldable use Rattle.sc_lex.specs.Prelude.{heading_name}
use Rattle.sc_back_reread_laws.proofs.Headings.{Ends, begins_inside, first_line_kept, prefix_ends, heading_after}
use Rattle.sc_back_reread_laws.proofs.Headings.{heading_begins_after, heading_outside, last, last_any, last_append}
use Rattle.sc_back_reread_laws.proofs.Headings.{mark, to_begins}

-- the bytes of a section, wherever it stands
pub record IsText (text : List ℕ) : Type 0 where
  pub begins : begins_heading text ≡ true
  pub name : List ℕ
  pub named : heading_name (line_text text) ≡ Some name
  pub whole : NoHeading text 1 (length text)

pub some_bytes : (text : List ℕ) → begins_heading text ≡ true → 0 < length text
some_bytes text h =
    let b = to_begins text h in
    let long : length text ≡ length (mark ++ b.rest) = ap length b.is in
    omega (arith, long)

-- texts of sections one after another: each but the last ends with a newline
pub data Joined : List (List ℕ) → Type 0 where
  nothing : Joined []
  more : {text : List ℕ} {texts : List (List ℕ)} → IsText text → (texts ≡ []) ⊎ (last 10 text ≡ 10) → Joined texts →
      Joined (text ∷ texts)

abbrev pub bytes_of : Section → List ℕ
bytes_of s = s.bytes.now

-- From a split text.

module _ (prefix u following : List ℕ) where
  abbrev text : List ℕ
  text = prefix ++ (u ++ following)

  pub one_text : (name : List ℕ) → is_heading text (length prefix) ≡ true →
      name_at text (length prefix) ≡ Some name → 0 < length u → Ends u following →
      ((k : ℕ) → 1 ≤ k → k < length u → is_heading text (length prefix + k) ≡ true → ⊥) → IsText u
  one_text name heading named some ends whole =
      let seam : drop (length prefix) text ≡ u ++ following = drop-append_seam prefix (u ++ following) in
      record {
        begins = begins_inside u following some ends (heading_begins_after prefix (u ++ following) heading);
        name = name;
        named = ap heading_name (sym (first_line_kept u following some ends)) ∙
            ap (λ b. heading_name (line_text b)) (sym seam) ∙ named;
        whole = λ at low high is. whole at low high
            (heading_after prefix (u ++ following) at low ∙ heading_outside u following at high is);
      }

-- a text in three parts
record Parts (text : List ℕ) (at next : ℕ) (u : List ℕ) : Type 0 where
  prefix : List ℕ
  following : List ℕ
  is : text ≡ prefix ++ (u ++ following)
  long : length prefix ≡ at
  size : length u ≡ next - at
  rest : following ≡ drop next text

parts_of : (text : List ℕ) (at next : ℕ) (u : List ℕ) → u ≡ slice_range text at next → at < next →
    next ≤ length text → Parts text at next u
parts_of text at next u is less within =
    let skip : drop (next - at) (drop at text) ≡ drop next text =
    drop-drop (next - at) at text ∙ ap (λ k. drop k text) (omega (arith, less)) in
    let rest : u ++ drop next text ≡ drop at text =
    ap₂ (λ a b. a ++ b) is (sym skip) ∙ take-append-drop (next - at) (drop at text) in
    let dropped = length-drop at text in
    record {
      prefix = take at text;
      following = drop next text;
      is = sym (take-append-drop at text) ∙ ap (λ b. take at text ++ b) (sym rest);
      long = length-take-le at text (omega (arith, less, within));
      size = ap length is ∙ length-take-le (next - at) (drop at text) (omega (arith, dropped, less, within));
      rest = refl;
    }

-- what follows the section decides how it ends
section_text : (text : List ℕ) (at next : ℕ) (s : Section) → IsSection text at next s →
    ((drop next text ≡ []) ⊎ IsTrue (is_heading text next)) → IsText s.bytes.now ×
    (IsTrue (is_heading text next) → last 10 s.bytes.now ≡ 10)
section_text text at next s g follows =
    let p = parts_of text at next s.bytes.now g.bytes g.within.0 g.within.1 in
    let u : List ℕ = s.bytes.now in
    let some : 0 < length u = let size = p.size in let within = g.within.0 in omega arith in
    let whole : p.prefix ++ (u ++ p.following) ≡ (p.prefix ++ u) ++ p.following =
    sym (append_assoc p.prefix u p.following) in
    let place : length (p.prefix ++ u) ≡ next =
    let long = p.long in let size = p.size in let within = g.within.0 in omega (arith, length-append p.prefix u) in
    let newline : IsTrue (is_heading text next) → last 10 u ≡ 10 = λ h.
    last_any 10 (last 10 p.prefix) u some ∙ sym (last_append 10 p.prefix u) ∙
    prefix_ends (p.prefix ++ u) p.following (ap₂ is_heading (sym (p.is ∙ whole)) place ∙ h) in
    let ends : Ends u p.following = elim follows [
      | inl empty ↦ inl (p.rest ∙ empty)
      | inr h ↦ inr (newline h)
    ] in (
      one_text p.prefix u p.following s.name (ap₂ is_heading (sym p.is) p.long ∙ g.heading)
          (ap₂ name_at (sym p.is) p.long ∙ g.name) some ends
          (λ k low high is. g.whole (at + k) (omega (arith, low))
          (let size = p.size in let within = g.within.0 in omega (arith, high))
          (ap₂ is_heading p.is (ap (λ n. n + k) (sym p.long)) ∙ is)),
      newline,
    )

pub from_sections : {text : List ℕ} {at end : ℕ} {found : List Section} → AreSections text at end found →
    end ≡ length text → Joined (map bytes_of found)
from_sections none e = nothing
from_sections {text} {at} (section {next = next} s g none) e =
    let is = section_text text at next s g (inl (drop_all next text (omega (arith, e)))) in
    more is.0 (inl refl) nothing
from_sections {text} {at} (section {next = next} s g (section t h others)) e =
    let is = section_text text at next s g (inr h.heading) in
    more is.0 (inr (is.1 h.heading)) (from_sections (section t h others) e)
