-- Joined texts of sections are split into them.
use Rattle.sc_back_reread_laws.proofs.Common.{AreSections, IsSection, IsSplit, List, Section, [], ap, append-nil}
use Rattle.sc_back_reread_laws.proofs.Common.{append_assoc, ap₂, arith, concat, drop, drop-append_seam, line_text, inl}
use Rattle.sc_back_reread_laws.proofs.Common.{inr, is_heading, length, length-append, line_at, map, none, refl, section}
use Rattle.sc_back_reread_laws.proofs.Common.{subst, sym, take, take-append-drop, take-append_seam, true, ℕ, ◌++◌, ◌+◌}
use Rattle.sc_back_reread_laws.proofs.Common.{◌-◌, ◌∙◌, ◌∷◌, ◌≡◌, ◌⊎◌}
unfoldable use Rattle.sc_lex.specs.Prelude.{heading_name}
use Rattle.sc_back_reread_laws.proofs.Headings.{Ends, begins_outside, first_line_kept, prefix_ends, heading_after}
use Rattle.sc_back_reread_laws.proofs.Headings.{heading_first, heading_inside, heading_outside, last, last_any}
use Rattle.sc_back_reread_laws.proofs.Headings.{last_append}
use Rattle.sc_back_reread_laws.proofs.Splitting.{IsText, Joined, bytes_of, more, nothing, some_bytes}

-- a text is joined to others
ends_of : (text : List ℕ) (texts : List (List ℕ)) → (texts ≡ []) ⊎ (last 10 text ≡ 10) → Ends text (concat texts)
ends_of text texts ends = elim ends [
  | inl e ↦ inl (ap concat e)
  | inr newline ↦ inr newline
]

-- one section between a prefix and what follows
module _ (prefix u following : List ℕ) (t : IsText u) (newline : last 10 prefix ≡ 10) (ends : Ends u following) where
  abbrev text : List ℕ
  text = prefix ++ (u ++ following)

  abbrev pub here : Section
  here = record {
    name = t.name;
    start = length prefix;
    line = line_at text (length prefix);
    bytes = record { ref_ptr = (0, 0); now = u };
  }

  seam : drop (length prefix) text ≡ u ++ following
  seam = drop-append_seam prefix (u ++ following)

  pub section_here : IsSection text (length prefix) (length (prefix ++ u)) here
  section_here =
      let some = some_bytes u t.begins in
      let long = length-append prefix u in
      let size : length (prefix ++ u) - length prefix ≡ length u = omega (arith, long) in
      record {
        heading = heading_first prefix (u ++ following) newline (begins_outside u following t.begins);
        name = ap (λ b. heading_name (line_text b)) seam ∙
            ap heading_name (first_line_kept u following some ends) ∙ t.named;
        start = refl;
        line = refl;
        bytes = sym (take-append_seam u following) ∙ ap₂ take (sym size) (sym seam);
        within = (
          omega (arith, some, long),
          omega (arith, long, length-append prefix (u ++ following), length-append u following),
        );
        whole = λ at low high is.
            let place : length prefix + (at - length prefix) ≡ at = omega (arith, low) in
            t.whole (at - length prefix) (omega (arith, low)) (omega (arith, low, high, long))
            (heading_inside u following (at - length prefix) (omega (arith, low, high, long)) ends
            (sym (heading_after prefix (u ++ following) (at - length prefix) (omega (arith, low))) ∙
            subst (λ k. is_heading text k ≡ true) (sym place) is));
      }

-- sections found in a text, with these bytes
pub record IsFound (text : List ℕ) (at : ℕ) (texts : List (List ℕ)) : Type 0 where
  pub found : List Section
  pub sections : AreSections text at (length text) found
  pub bytes : map bytes_of found ≡ texts

pub to_sections : (prefix : List ℕ) (texts : List (List ℕ)) → Joined texts → (texts ≡ []) ⊎ (last 10 prefix ≡ 10) →
    IsFound (prefix ++ concat texts) (length prefix) texts
to_sections prefix [] nothing ends =
    let long : length prefix ≡ length (prefix ++ []) = ap length (sym (append-nil prefix)) in
    record {
      found = [];
      sections = subst (λ end. AreSections (prefix ++ []) (length prefix) end []) long none;
      bytes = refl;
    }
to_sections prefix (u ∷ texts) (more t last_line others) ends =
    let following : List ℕ = concat texts in
    let newline : last 10 prefix ≡ 10 = elim ends [
      | inl e ↦ absurd (cc)
      | inr n ↦ n
    ] in
    let some = some_bytes u t.begins in
    let whole : (prefix ++ u) ++ following ≡ prefix ++ (u ++ following) = append_assoc prefix u following in
    let further : (texts ≡ []) ⊎ (last 10 (prefix ++ u) ≡ 10) = elim last_line [
      | inl e ↦ inl e
      | inr n ↦ inr (last_append 10 prefix u ∙ last_any (last 10 prefix) 10 u some ∙ n)
    ] in
    let rest = subst (λ b. IsFound b (length (prefix ++ u)) texts) whole
    (to_sections (prefix ++ u) texts others further) in
    record {
      found = here prefix u following t newline (ends_of u texts last_line) ∷ rest.found;
      sections = section (here prefix u following t newline (ends_of u texts last_line))
          (section_here prefix u following t newline (ends_of u texts last_line)) rest.sections;
      bytes = ap (λ bs. u ∷ bs) rest.bytes;
    }

-- the preamble of a split text ends with a newline, where a section follows
preamble_ends : (text preamble : List ℕ) (found : List Section) → IsSplit text preamble found →
    (map bytes_of found ≡ []) ⊎ (last 10 preamble ≡ 10)
preamble_ends text preamble found split = by found split.following refl
  where
    whole : text ≡ preamble ++ drop (length preamble) text
    whole = sym (take-append-drop (length preamble) text) ∙
        ap (λ p. p ++ drop (length preamble) text) (sym split.prefix)

    by : (found : List Section) → {at end : ℕ} → AreSections text at end found → at ≡ length preamble →
        (map bytes_of found ≡ []) ⊎ (last 10 preamble ≡ 10)
    by _ none e = inl refl
    by _ (section s g others) e = inr (prefix_ends preamble (drop (length preamble) text)
        (ap₂ is_heading (sym whole) (sym e) ∙ g.heading))

-- A text with the same preamble and other sections, of which there are none where there were none.
pub joined_split : (text preamble : List ℕ) (found : List Section) → IsSplit text preamble found →
    (news : List (List ℕ)) → Joined news → (map bytes_of found ≡ [] → news ≡ []) →
    (others : List Section) × IsSplit (preamble ++ concat news) preamble others × (map bytes_of others ≡ news)
joined_split text preamble found split news joined empty =
    let ends : (news ≡ []) ⊎ (last 10 preamble ≡ 10) = elim (preamble_ends text preamble found split) [
      | inl e ↦ inl (empty e)
      | inr newline ↦ inr newline
    ] in
    let is = to_sections preamble news joined ends in
    let whole : text ≡ preamble ++ drop (length preamble) text =
    sym (take-append-drop (length preamble) text) ∙
    ap (λ p. p ++ drop (length preamble) text) (sym split.prefix) in (
      is.found,
      record {
        prefix = sym (take-append_seam preamble (concat news));
        before = λ at low high h. split.before at low high
            (ap (λ b. is_heading b at) whole ∙ heading_outside preamble (drop (length preamble) text) at high
            (heading_inside preamble (concat news) at high (ends_of preamble news ends) h));
        following = is.sections;
      },
      is.bytes,
    )
