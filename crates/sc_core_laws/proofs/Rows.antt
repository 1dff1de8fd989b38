-- Where a compartment stands in its rows, and how traces go on along another.
use Rattle.sc_core_laws.proofs.Common.{Event, Goes, IsPrefix, List, None, Option, Piece, Row, Some, Standing, State, []}
use Rattle.sc_core_laws.proofs.Common.{action_of, and_then, ap, append_assoc, arith, at_start, count_of, drop}
use Rattle.sc_core_laws.proofs.Common.{drop_next, eq-eqb, filter, if◌then◌else◌, inl, inr, last, length, length-append}
use Rattle.sc_core_laws.proofs.Common.{part, performer, refl, rows_from, stands_after, stands_after_all, subst, suc}
use Rattle.sc_core_laws.proofs.Common.{sym, ℕ, ◌++◌, ◌==◌, ◌∙◌, ◌∷◌, ◌≡◌, ◌⊎◌}
use Rattle.std.proofs.lemmas.List.Elements.{filter-append}
use Rattle.sc_event.proofs.Rows.{next_row}
use Rattle.sc_core_laws.proofs.Growing.{prefix_more, then_from}

-- STANDING
pub stands_last : (at : Option Standing) (u : List Event) (e : Event) (st : Standing) →
    stands_after_all at u ≡ Some st →
    stands_after_all at (u ++ e ∷ []) ≡ stands_after st e
stands_last None [] e st is = absurd (cc)
stands_last None (f ∷ u) e st is = absurd (cc)
stands_last (Some x) [] e st is = (let same : x ≡ st = cc in ap (λ y. stands_after y e) same)
stands_last (Some x) (f ∷ u) e st is = stands_last _ u e st is

-- ROWS
pub counts_its_own : (c : ℕ) (u : List Event) (e : Event) → performer e ≡ c →
    count_of c (u ++ e ∷ []) ≡ suc (count_of c u)
counts_its_own c u e own =
    let mine : count_of c (u ++ e ∷ []) ≡ length (filter (λ event. performer event == c) u ++ e ∷ []) =
    ap length (filter-append _ u (e ∷ [])) ∙ ap (λ b. length (filter (λ event. performer event == c) u ++
    (if b then e ∷ [] else []))) (eq-eqb _ c own) in
    omega (arith, mine, length-append (filter (λ event. performer event == c) u) (e ∷ []))

-- the first of these rows is one of this entry and action
pub record Next (rows : List Row) (st : Standing) (e : Event) : Type 0 where
  pub number : ℕ
  pub rest : List Row
  pub is : rows ≡ record { entry = st.active.entry; number = number; action = action_of e } ∷ rest

-- the next row of a compartment that performs the next event of a trace
pub row_of_next : (main c : ℕ) (t u : List Event) (e : Event) (more : List Event) (st : Standing) → t ≡ u ++ e ∷ more →
    stands_after_all (at_start main) u ≡ Some st → performer e ≡ c → Next (drop (count_of c u) (part main c t)) st e
row_of_next main c t u e more st is stands own =
    subst (λ z. Next (drop (count_of c u) (part main c z)) st e) (sym is) (record {
      number = count_of c u;
      rest = rows_from c (suc (count_of c u)) (stands_after st e) more;
      is = next_row main c u e more st (eq-eqb _ c own) stands;
    })

-- once it is emitted, the rows after it are left
pub rows_after : (main c : ℕ) (t u : List Event) (e : Event) (st : Standing) → performer e ≡ c →
    (next : Next (drop (count_of c u) (part main c t)) st e) → drop (count_of c (u ++ e ∷ [])) (part main c t)
    ≡ next.rest
rows_after main c t u e st own next = ap (λ n. drop n (part main c t)) (counts_its_own c u e own)
    ∙ sym (drop_next (part main c t) (count_of c u)) ∙ ap (drop 1) next.is

-- TRACES
-- two prefixes of one list: one is a prefix of the other
pub prefixes_meet : {A : Type 0} (xs ys more less : List A) → xs ++ more ≡ ys ++ less → IsPrefix xs ys ⊎ IsPrefix ys xs
prefixes_meet [] ys more less is = inl (record { more = ys; is = refl })
prefixes_meet (x ∷ xs) [] more less is = inr (record { more = x ∷ xs; is = refl })
prefixes_meet (x ∷ xs) (y ∷ ys) more less is =
    let first : x ≡ y = cc in
    let rest : xs ++ more ≡ ys ++ less = cc in
    both first (prefixes_meet xs ys more less rest) where
      both : x ≡ y → IsPrefix xs ys ⊎ IsPrefix ys xs → IsPrefix (x ∷ xs) (y ∷ ys) ⊎ IsPrefix (y ∷ ys) (x ∷ xs)
      both first h = grind arith

-- one trace goes on from the other
abbrev pub InLine : List Event → List Event → Type 0
InLine t u = IsPrefix u t ⊎ IsPrefix t u

pub in_line_before : (t u v : List Event) → IsPrefix u v → InLine t v → InLine t u
in_line_before t u v prefix (inl along) = inl (prefix_more u v t prefix along)
in_line_before t u v prefix (inr along) = prefixes_meet u t prefix.more along.more (sym prefix.is ∙ along.is)

pub then_along : {V W : Type 0} (t : List Event) (o : Piece V) (k : V → State → Piece W) → ((v : V) → Goes (k v)) →
    InLine t (last (and_then o k)).trace → InLine t (last o).trace
then_along t o k goes = in_line_before t (last o).trace _ (then_from o k goes).events

-- what a trace is where a run that kept to it emits one event more: it ends there, or has that event next
pub data NextIs (t u : List Event) (e : Event) : Type 0 where
  over : t ≡ u → NextIs t u e
  emitted : (more : List Event) → t ≡ u ++ e ∷ more → NextIs t u e

pub next_emitted_is : (t u : List Event) (e : Event) → IsPrefix u t → InLine t (u ++ e ∷ []) → NextIs t u e
next_emitted_is t u e prefix (inl along) = emitted along.more (along.is ∙ append_assoc u (e ∷ []) along.more)
next_emitted_is t u e prefix (inr along) = at_most u t prefix.more along.more prefix.is along.is where
  at_most : (u t more less : List Event) → t ≡ u ++ more → u ++ e ∷ [] ≡ t ++ less → NextIs t u e
  at_most [] t [] less is is' = over is
  at_most [] t (f ∷ more) less is is' =
      let one : e ∷ [] ≡ (f ∷ more) ++ less = is' ∙ ap (λ z. z ++ less) is in
      let same : e ≡ f = cc in
      let none : [] ≡ more ++ less = cc in
      emitted [] (is ∙ (λ i. sym same i ∷ empty more less none i)) where
        empty : (more less : List Event) → [] ≡ more ++ less → more ≡ []
        empty [] less is = refl
        empty (x ∷ more) less is = absurd (cc)
  at_most (x ∷ u) [] more less is is' = absurd (cc)
  at_most (x ∷ u) (y ∷ t) more less is is' = following (cc) (at_most u t more less (cc) (cc)) where
    following : y ≡ x → NextIs t u e → NextIs (y ∷ t) (x ∷ u) e
    following first (over is) = over (λ i. first i ∷ is i)
    following first (emitted more is) = emitted more (λ i. first i ∷ is i)
