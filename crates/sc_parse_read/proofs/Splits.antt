-- A text is split in one way.
use Rattle.sc_parse_read.proofs.Common.{AreSections, IsBadHeading, IsSection, IsSplit, IsTrue, List, None, Section, ap}
use Rattle.sc_parse_read.proofs.Common.{ap₂, arith, cases_lt, is_heading, length, map, name_at, none, none-some}
use Rattle.sc_parse_read.proofs.Common.{part_of, refl, same_unless, section, slice_range, subst, sym, take, ℕ, ⊎_elim}
use Rattle.sc_parse_read.proofs.Common.{◌<◌, ◌∙◌, ◌∷◌, ◌≡◌, ◌≤◌}
use Rattle.sc_lex.proofs.Splits.{heading_within, sections_rise}

begins : {text : List ℕ} {at end : ℕ} {ss : List Section} → AreSections text at end ss → at < end →
    IsTrue (is_heading text at)
begins none h = absurd (omega arith)
begins (section first g others) h = g.heading

-- no section begins inside another
no_earlier : {text : List ℕ} {at far next end : ℕ} {s : Section} {ss : List Section} → IsSection text at far s →
    AreSections text next end ss → end ≡ length text → at < next → next < far → ⊥
no_earlier {next = next} g others e low high = g.whole next (omega arith) high (begins others (omega (arith, g.within)))

same_end : {text : List ℕ} {at at' n m end end' : ℕ} {s s' : Section} {ss ss' : List Section} → IsSection text at n s →
    IsSection text at' m s' → at ≡ at' → AreSections text n end ss → AreSections text m end' ss' → end ≡ length text →
    end' ≡ length text → n ≡ m
same_end {n = n} {m = m} g g' same others others' e e' = same_unless n m
    (λ less. no_earlier g' others e (omega (arith, g.within)) less)
    (λ less. no_earlier g others' e' (omega (arith, g'.within)) less)

same_sections : {text : List ℕ} {at end at' end' : ℕ} {ss ss' : List Section} → AreSections text at end ss →
    AreSections text at' end' ss' → at ≡ at' → end ≡ length text → end' ≡ length text → map part_of ss ≡ map part_of ss'
same_sections none none same e e' = refl
same_sections none (section first g others) same e e' = absurd (omega (arith, g.within, sections_rise others))
same_sections (section first g others) none same e e' = absurd (omega (arith, g.within, sections_rise others))
same_sections {text} (section first g others) (section first' g' others') same e e' =
    let next = same_end g g' same others others' e e' in
    let starts = g.start ∙ same ∙ sym g'.start in
    let bytes = g.bytes ∙ ap₂ (λ a b. slice_range text a b) same next ∙ sym g'.bytes in
    let part = ap₂ (λ a b. record { start = a; bytes = b }) starts bytes in
    ap₂ (λ x xs. x ∷ xs) part (same_sections others others' next e e')

-- no compartment line stands before the end of the preamble
not_before : {text p q : List ℕ} {ss ss' : List Section} → IsSplit text p ss → IsSplit text q ss' →
    length p < length q → ⊥
not_before {p = p} c d less = d.before _ (omega arith) less
    (begins c.following (omega (arith, sections_rise d.following)))

pub same_preamble : {text p q : List ℕ} {ss ss' : List Section} → IsSplit text p ss → IsSplit text q ss' → p ≡ q
same_preamble {text} {p} {q} c d = c.prefix ∙
    ap (λ n. take n text) (same_unless (length p) (length q) (not_before c d) (not_before d c)) ∙ sym d.prefix

pub same_parts : {text p q : List ℕ} {ss ss' : List Section} → IsSplit text p ss → IsSplit text q ss' →
    map part_of ss ≡ map part_of ss'
same_parts c d = same_sections c.following d.following (ap length (same_preamble c d)) refl refl

good_from : {text : List ℕ} {from end : ℕ} {ss : List Section} → AreSections text from end ss → (at : ℕ) → from ≤ at →
    at < end → IsBadHeading text at → ⊥
good_from none at low high bad = absurd (omega arith)
good_from {text} {from} (section {next = next} first g others) at low high bad =
    ⊎_elim (λ inside. ⊎_elim (λ less. g.whole at (omega arith) inside bad.heading)
    (λ le. let same : at ≡ from = omega arith in none-some first.name
    (sym (subst (λ k. name_at text k ≡ None) same bad.nameless) ∙ g.name)) (cases_lt from at))
    (λ following. good_from others at following high bad) (cases_lt at next)

-- no compartment line of a split text is bad
pub split_good : {text p : List ℕ} {ss : List Section} → IsSplit text p ss → (at : ℕ) → IsBadHeading text at → ⊥
split_good {text} {p} c at bad =
    ⊎_elim (λ less. c.before at (omega arith) less bad.heading)
    (λ le. good_from c.following at le (heading_within text at bad.heading) bad) (cases_lt at (length p))
