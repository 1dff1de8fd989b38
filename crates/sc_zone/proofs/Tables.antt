-- The tables keep the blocks and the gaps while a block is taken and given back.
use Rattle.sc_zone.proofs.Common.{AreLaid, List, None, Some, Span, [], ap, arith, gap_before, gap_from, if◌then◌else◌}
use Rattle.sc_zone.proofs.Common.{ne_eqb, refl, slice_index, subst, suc, sym, with_span, without_span, words_at, zero}
use Rattle.sc_zone.proofs.Common.{zone_words, ℕ, ◌+◌, ◌-◌, ◌<◌, ◌==◌, ◌∙◌, ◌∷◌, ◌≡◌, ◌≤◌, ⊎_elim}
unfoldable use Rattle.sc_zone.proofs.Common.{least_free}
use Rattle.sc_zone.proofs.Blocks.{given_list, if_some, taken_list, words_listed}
use Rattle.sc_zone.proofs.Cutting.{before_cut, from_cut, gap_there, gap_within, laid_cut}
use Rattle.sc_zone.proofs.Giving.{laid_without}
use Rattle.sc_zone.proofs.Joining.{IsBetween, before_joined, between_there, between_within, from_joined}
use Rattle.sc_zone.proofs.Searching.{AreNarrow, first_gap, no_gap}
use Rattle.sc_zone.specs.Gaps.{IsGap}
use Rattle.sc_zone.specs.Tables.{AreTables, blocks_from}

-- the tables of no block
pub new_tables : (blocks gaps once gaps_before : List ℕ) → blocks ≡ [] → gaps_before ≡ [] →
    ((k : ℕ) → slice_index gaps k ≡ 0) →
    ((k : ℕ) → slice_index once k ≡ (if k == 0 then zone_words else slice_index gaps k)) →
    AreTables blocks once gaps_before
new_tables blocks gaps once gaps_before none neither zeros first =
    subst (λ l. AreTables l once gaps_before) (sym none)
    (subst (λ l. AreTables [] once l) (sym neither)
    (record {
      laid = omega arith;
      begins = λ place. first place ∙ ap (λ n. if place == 0 then zone_words else n) (zeros place);
      ends = λ place low.
          sym (ap (λ b. if b then zone_words else 0) (ne_eqb place zone_words (λ e. omega (arith, e, low))));
    }))

-- Where blocks are.

none_under : (spans : List Span) (from place : ℕ) → AreLaid from spans → place < from → words_at spans place ≡ None
none_under [] from place laid low = refl
none_under (s ∷ spans) from place laid low =
    ap (λ b. if b then Some s.words else words_at spans place)
    (ne_eqb s.place place (λ e. omega (arith, e, low, laid.0))) ∙
    none_under spans (s.place + s.words) place laid.2 (omega (arith, low, laid.0))

none_in_gap : (spans : List Span) (from place gap : ℕ) → AreLaid from spans → IsGap from spans place gap → 0 < gap →
    words_at spans place ≡ None
none_in_gap [] from place gap laid is some = refl
none_in_gap (s ∷ spans) from place gap laid is some = ⊎_elim
    (λ (here : (from ≡ place) × (place + gap ≡ s.place)).
    ap (λ b. if b then Some s.words else words_at spans place)
    (ne_eqb s.place place (λ e. omega (arith, e, here.1, some))) ∙
    none_under spans (s.place + s.words) place laid.2 (omega (arith, here.1, some)))
    (λ (later : IsGap (s.place + s.words) spans place gap).
    let up = (gap_within spans (s.place + s.words) place gap laid.2 later).0 in
    ap (λ b. if b then Some s.words else words_at spans place)
    (ne_eqb s.place place (λ e. omega (arith, e, up, laid.1))) ∙
    none_in_gap spans (s.place + s.words) place gap laid.2 later some)
    is

no_words : (n : ℕ) → if_some n ≡ None → n ≡ 0
no_words zero is = refl
no_words (suc n) is = cc is

some_words : (n words : ℕ) → if_some n ≡ Some words → 0 < n
some_words zero words is = cc is
some_words (suc n) words is = omega arith

module _ (blocks gaps gaps_before : List ℕ) (are : AreTables blocks gaps gaps_before) where
  abbrev spans : List Span
  spans = blocks_from 0 blocks

  pub words_in : (place : ℕ) → words_at spans place ≡ if_some (slice_index blocks place)
  words_in place = words_listed blocks 0 place place (omega arith)

  pub no_words_at : (seen : List Span) (place words : ℕ) → spans ≡ seen → words ≡ slice_index blocks place → words ≡ 0 →
      None ≡ words_at seen place
  no_words_at seen place words same is none =
      sym (ap (λ l. words_at l place) (sym same) ∙ words_in place ∙ ap if_some (sym is ∙ none))

  pub some_words_at : (seen : List Span) (place words : ℕ) → spans ≡ seen → words ≡ slice_index blocks place →
      0 < words → Some words ≡ words_at seen place
  some_words_at seen place words same is some =
      sym (ap (λ l. words_at l place) (sym same) ∙ words_in place ∙ ap if_some (sym is) ∙ positive words some) where
        positive : (n : ℕ) → 0 < n → if_some n ≡ Some n
        positive zero some = absurd (omega (arith, some))
        positive (suc n) some = refl

  -- What is found.

  pub is_gap : (place : ℕ) → 0 < slice_index gaps place → IsGap 0 spans place (slice_index gaps place)
  is_gap place some = gap_there spans 0 place (slice_index gaps place) are.laid (sym (are.begins place)) some

  pub gap_ends : (place : ℕ) → 0 < slice_index gaps place → place + slice_index gaps place ≤ zone_words
  gap_ends place some = (gap_within spans 0 place (slice_index gaps place) are.laid (is_gap place some)).1

  narrow_to : (words limit : ℕ) → ((k : ℕ) → k < limit → slice_index gaps k < words) → AreNarrow words 0 spans limit
  narrow_to words limit less = record {
    narrow = λ place low. subst (λ n. n < words) (are.begins place) (less place low);
  }

  pub least : (words place : ℕ) → 0 < words → words ≤ slice_index gaps place →
      ((k : ℕ) → k < place → slice_index gaps k < words) → least_free spans words ≡ Some place
  least words place some fits less =
      first_gap words some spans place (slice_index gaps place) are.laid (is_gap place (omega (arith, some, fits))) fits
      (narrow_to words place less)

  pub nowhere : (words : ℕ) → 0 < words → ((k : ℕ) → slice_index gaps k < words) → least_free spans words ≡ None
  nowhere words some less = no_gap words some spans are.laid (narrow_to words zone_words (λ k low. less k))

  -- A block is taken.

  module _ (place words gap : ℕ) (some : 0 < words) (fits : words ≤ gap) (is : IsGap 0 spans place gap) where
    take_within : place + gap ≤ zone_words
    take_within = (gap_within spans 0 place gap are.laid is).1

    take_list : (now : List ℕ) →
        ((k : ℕ) → slice_index now k ≡ (if k == place then words else slice_index blocks k)) →
        blocks_from 0 now ≡ with_span (record { place = place; words = words }) spans
    take_list now put = taken_list blocks now place words put
        (no_words (slice_index blocks place)
        (sym (words_in place) ∙ none_in_gap spans 0 place gap are.laid is (omega (arith, some, fits)))) some

    take_tables : (now once twice before : List ℕ) →
        ((k : ℕ) → slice_index now k ≡ (if k == place then words else slice_index blocks k)) →
        ((k : ℕ) → slice_index once k ≡ (if k == place then 0 else slice_index gaps k)) →
        ((k : ℕ) → slice_index twice k ≡ (if k == place + words then gap - words else slice_index once k)) →
        ((k : ℕ) → k < zone_words →
        slice_index before k ≡ (if k == place + gap then gap - words else slice_index gaps_before k)) →
        AreTables now twice before
    take_tables now once twice before put cleared left ended = record {
      laid = subst (AreLaid 0) (sym list) (laid_cut place words gap some fits spans 0 are.laid is);
      begins = λ k. left k ∙ ap (λ n. if k == place + words then gap - words else n) (cleared k) ∙
          ap (λ n. if k == place + words then gap - words else if k == place then 0 else n) (are.begins k) ∙
          sym (from_cut place words gap some fits spans 0 k are.laid is) ∙
          ap (λ (l : List Span). gap_from 0 l k) (sym list);
      ends = λ k low. ended k low ∙ ap (λ n. if k == place + gap then gap - words else n) (are.ends k low) ∙
          sym (before_cut place words gap some fits spans 0 k are.laid is) ∙
          ap (λ (l : List Span). gap_before 0 l k) (sym list);
    } where
      list : blocks_from 0 now ≡ with_span (record { place = place; words = words }) spans
      list = take_list now put

  -- A block is given back.

  module _ (place words first gap : ℕ) (is : words_at spans place ≡ Some words)
      (begins : first + gap_before 0 spans place ≡ place)
      (sum : gap ≡ gap_before 0 spans place + words + gap_from 0 spans (place + words)) where
    abbrev before : ℕ
    before = gap_before 0 spans place

    abbrev after : ℕ
    after = gap_from 0 spans (place + words)

    between : IsBetween 0 spans place words before after
    between = between_there spans 0 place words are.laid is

    give_list : (now : List ℕ) → ((k : ℕ) → slice_index now k ≡ (if k == place then 0 else slice_index blocks k)) →
        blocks_from 0 now ≡ without_span place spans
    give_list now put = given_list blocks now place 0 put refl
        (some_words (slice_index blocks place) words (sym (words_in place) ∙ is))

    end : first + gap ≡ place + words + after
    end = omega (arith, begins, sum)

    give_tables : (now once twice ended joined : List ℕ) →
        ((k : ℕ) → slice_index now k ≡ (if k == place then 0 else slice_index blocks k)) →
        ((k : ℕ) → slice_index once k ≡ (if k == place + words then 0 else slice_index gaps k)) →
        ((k : ℕ) → slice_index twice k ≡ (if k == first then gap else slice_index once k)) →
        ((k : ℕ) → k < zone_words → slice_index ended k ≡ (if k == place then 0 else slice_index gaps_before k)) →
        ((k : ℕ) → k < zone_words →
        slice_index joined k ≡ (if k == first + gap then gap else slice_index ended k)) →
        AreTables now twice joined
    give_tables now once twice ended joined put cleared wide none last = record {
      laid = subst (AreLaid 0) (sym list) (laid_without spans 0 place are.laid);
      begins = λ k. wide k ∙ ap (λ n. if k == first then gap else n) (cleared k) ∙
          ap (λ n. if k == first then gap else if k == place + words then 0 else n) (are.begins k) ∙
          ap (λ n. if k == first then n else if k == place + words then 0 else gap_from 0 spans k) sum ∙
          sym (from_joined first place words before after begins spans 0 k are.laid between) ∙
          ap (λ (l : List Span). gap_from 0 l k) (sym list);
      ends = λ k low. last k low ∙ ap (λ n. if k == first + gap then gap else n) (none k low) ∙
          ap (λ n. if k == first + gap then gap else if k == place then 0 else n) (are.ends k low) ∙
          ap (λ n. if k == n then gap else if k == place then 0 else gap_before 0 spans k) end ∙
          ap (λ n. if k == place + words + after then n else if k == place then 0 else gap_before 0 spans k) sum ∙
          sym (before_joined first place words before after begins spans 0 k are.laid between) ∙
          ap (λ (l : List Span). gap_before 0 l k) (sym list);
    } where
      list : blocks_from 0 now ≡ without_span place spans
      list = give_list now put

  -- the gaps on both sides of a block, as the tables have them
  module _ (seen : List Span) (same : spans ≡ seen) (place words : ℕ) (is : words_at seen place ≡ Some words) where
    there : words_at spans place ≡ Some words
    there = ap (λ l. words_at l place) same ∙ is

    sides : (gap_before 0 spans place ≤ place) × (0 < words) ×
        (place + words + gap_from 0 spans (place + words) ≤ zone_words)
    sides =
        let all = between_within spans 0 place words (gap_before 0 spans place) (gap_from 0 spans (place + words))
        are.laid (between_there spans 0 place words are.laid there) in
        (omega (arith, all.0), all.1, all.2)

    pub side_before : slice_index gaps_before place ≡ gap_before 0 seen place
    side_before = are.ends place (omega (arith, sides.1, sides.2)) ∙ ap (λ l. gap_before 0 l place) same

    pub side_after : slice_index gaps (place + words) ≡ gap_from 0 seen (place + words)
    side_after = are.begins (place + words) ∙ ap (λ l. gap_from 0 l (place + words)) same

    pub before_fits : slice_index gaps_before place ≤ place
    before_fits = omega (arith, are.ends place (omega (arith, sides.1, sides.2)), sides.0)

    pub block_fits : (0 < words) × (place + words + slice_index gaps (place + words) ≤ zone_words)
    block_fits = (sides.1, omega (arith, are.begins (place + words), sides.2))

    -- the same where it is given back
    module _ (first gap : ℕ) (begins : first + gap_before 0 seen place ≡ place)
        (sum : gap ≡ gap_before 0 seen place + words + gap_from 0 seen (place + words)) where
      begins_here : first + gap_before 0 spans place ≡ place
      begins_here = subst (λ l. first + gap_before 0 l place ≡ place) (sym same) begins

      sum_here : gap ≡ gap_before 0 spans place + words + gap_from 0 spans (place + words)
      sum_here = subst (λ l. gap ≡ gap_before 0 l place + words + gap_from 0 l (place + words)) (sym same) sum

      pub joins_within : (place + words ≤ zone_words) × (first + gap ≤ zone_words)
      joins_within = (omega (arith, sides.2), omega (arith, sides.2, begins_here, sum_here))

      pub joins_list : (now : List ℕ) →
          ((k : ℕ) → slice_index now k ≡ (if k == place then 0 else slice_index blocks k)) →
          blocks_from 0 now ≡ without_span place seen
      joins_list now put =
          give_list place words first gap there begins_here sum_here now put ∙ ap (without_span place) same

      pub joins_tables : (now once twice ended joined : List ℕ) →
          ((k : ℕ) → slice_index now k ≡ (if k == place then 0 else slice_index blocks k)) →
          ((k : ℕ) → slice_index once k ≡ (if k == place + words then 0 else slice_index gaps k)) →
          ((k : ℕ) → slice_index twice k ≡ (if k == first then gap else slice_index once k)) →
          ((k : ℕ) → k < zone_words → slice_index ended k ≡ (if k == place then 0 else slice_index gaps_before k)) →
          ((k : ℕ) → k < zone_words →
          slice_index joined k ≡ (if k == first + gap then gap else slice_index ended k)) →
          AreTables now twice joined
      joins_tables = give_tables place words first gap there begins_here sum_here

  -- a gap that is cut, as the list has it
  module _ (seen : List Span) (same : spans ≡ seen) (place words gap : ℕ) (some : 0 < words) (fits : words ≤ gap)
      (is : IsGap 0 seen place gap) where
    is_here : IsGap 0 spans place gap
    is_here = subst (λ l. IsGap 0 l place gap) (sym same) is

    pub cuts_within : place + gap ≤ zone_words
    cuts_within = take_within place words gap some fits is_here

    pub cuts_list : (now : List ℕ) →
        ((k : ℕ) → slice_index now k ≡ (if k == place then words else slice_index blocks k)) →
        blocks_from 0 now ≡ with_span (record { place = place; words = words }) seen
    cuts_list now put =
        take_list place words gap some fits is_here now put ∙
        ap (with_span (record { place = place; words = words })) same

    pub cuts_tables : (now once twice before : List ℕ) →
        ((k : ℕ) → slice_index now k ≡ (if k == place then words else slice_index blocks k)) →
        ((k : ℕ) → slice_index once k ≡ (if k == place then 0 else slice_index gaps k)) →
        ((k : ℕ) → slice_index twice k ≡ (if k == place + words then gap - words else slice_index once k)) →
        ((k : ℕ) → k < zone_words →
        slice_index before k ≡ (if k == place + gap then gap - words else slice_index gaps_before k)) →
        AreTables now twice before
    cuts_tables = take_tables place words gap some fits is_here
