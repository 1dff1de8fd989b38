-- Pieces of a run, one after the other.
use Rattle.sc_run.proofs.Common.{Blamed, Blocks, Bool, CameTo, Cause, Comes, ComesMaking, Err, Here, Left, Memory, Next}
use Rattle.sc_run.proofs.Common.{None, Ok, Option, Piece, Ptr, Reached, Result, RunEnd, Seen, Some, State, Stopped}
use Rattle.sc_run.proofs.Common.{TurnsOut, Value, [], and_then, ap, arith, cell_of, computed, false, if◌then◌else◌}
use Rattle.sc_run.proofs.Common.{leave, length, refl, seen_of, store, stored, subst, suc, sym, true, turn, turn_of}
use Rattle.sc_run.proofs.Common.{with_blocks, with_exit, zero, ℕ, ◌++◌, ◌+◌, ◌==◌, ◌∙◌, ◌∷◌, ◌≡◌, ◌≤◌}
use Rattle.std.proofs.Common.{eqb-true}
use Rattle.std.specs.Option.{option_map}
use Rattle.sc_zone.specs.Prelude.{least_free}
use Rattle.sc_blocks.specs.Rows.{free_cell, free_place, with_words}
use Rattle.sc_core.specs.Prelude.{allocated, allocated_at, placed, released}
use Rattle.sc_core.specs.declared.value.Value.TheVariants.{Null}
use Rattle.sc_run.proofs.Blank.{blank, blank_more, blanked, free_same, length_same, memory_with, spans_same, store_same}
use Rattle.sc_run.proofs.Lengths.{length_free, length_store, length_words}

-- statements that come to their end
abbrev pub usual : Result (Left (Unit {0})) RunEnd
usual = with_exit {V = Unit {0}} Next (Ok tt)

abbrev pub with_memory : Seen → Memory → Seen
with_memory seen memory = record seen { memory = memory }

-- what is seen of a state with other blocks in a compartment
pub seen_with : (s : State) {seen : Seen} (comp : ℕ) (bs : Blocks) → seen_of s ≡ seen → seen_of (record s {
  memory =
      with_blocks comp bs s.memory;
}) ≡ record seen { memory = with_blocks comp (blank bs) seen.memory }
seen_with s comp bs is_seen = ap (λ memory. with_memory (seen_of s) memory) (memory_with comp bs _) ∙ ap {A = Seen}
    (λ x. record x { memory = with_blocks comp (blank bs) x.memory }) is_seen

-- the blocks of a compartment, as they are seen
pub blocks_seen : (s : State) {seen : Seen} (comp : ℕ) → seen_of s ≡ seen → blank (s.memory comp) ≡ seen.memory comp
blocks_seen s comp is_seen = ap (λ x. x.memory comp) is_seen

computed_ok : {V : Type 0} (here : Here) (line : ℕ) {r : Result V Cause} {v : V} (s : State) {seen : Seen} →
    seen_of s ≡ seen → r ≡ Ok v → CameTo (Ok v) seen (computed here line r s)
computed_ok here line {v} s {seen} is_seen is = subst (λ x. CameTo (Ok v) seen (computed here line x s)) (sym is)
    (refl, is_seen)

computed_err : {V : Type 0} (here : Here) (line : ℕ) {r : Result V Cause} {cause : Cause} (s : State) {seen : Seen} →
    seen_of s ≡ seen → r ≡ Err cause → CameTo (Err (Blamed here.comp cause line)) seen (computed here line r s)
computed_err here line {cause} s {seen} is_seen is =
    subst (λ x. CameTo (Err (Blamed here.comp cause line)) seen (computed here line x s)) (sym is) (refl, is_seen)

-- what is computed from the blocks, where it does not depend on what is unseen
module _ {V : Type 0} (here : Here) (line : ℕ) (f : Blocks → Result V Cause)
    (same : (bs : Blocks) → f (blank bs) ≡ f bs) (seen : Seen) where
  pub computed_comes : {v : V} → Ok v ≡ f (seen.memory here.comp) →
      Comes seen seen (Ok v) (λ s. computed here line (f (s.memory here.comp)) s)
  computed_comes is =
      record {
        comes = λ s is_seen. computed_ok here line s is_seen (sym (same _) ∙ ap f (blocks_seen s _ is_seen) ∙ sym is);
        fewer = omega arith;
        lengths = λ comp. omega arith;
      }

  pub computed_blamed : {cause : Cause} → Err cause ≡ f (seen.memory here.comp) →
      Comes seen seen (Err (Blamed here.comp cause line)) (λ s. computed here line (f (s.memory here.comp)) s)
  computed_blamed is =
      record {
        comes = λ s is_seen. computed_err here line s is_seen (sym (same _) ∙ ap f (blocks_seen s _ is_seen) ∙ sym is);
        fewer = omega arith;
        lengths = λ comp. omega arith;
      }

-- nothing follows the end of the run
pub then_stops : {V W : Type 0} {made : ℕ} {before after : Seen} {end : RunEnd} {p : State → Piece V}
    (go : V → State → Piece W) → ComesMaking made before after (Err end) p →
    ComesMaking made before after (Err end) (λ s. and_then (p s) go)
then_stops {after} {end} {p} go h = record {
  comes = λ s is_seen. by_piece (p s) (h.comes s is_seen);
  fewer = h.fewer;
  lengths = h.lengths;
} where
  by_piece : (q : Piece _) → CameTo (Err end) after q → CameTo (Err end) after (and_then q go)
  by_piece (Reached v s) c = elim c [ ]
  by_piece (Stopped e s) c = c

-- a piece, and what follows it
pub then_goes : {V W : Type 0} {made : ℕ} {before middle after : Seen} {v : V} {r : Result W RunEnd}
    {p : State → Piece V} (go : V → State → Piece W) → Comes before middle (Ok v) p →
    ComesMaking made middle after r (go v) → ComesMaking made before after r (λ s. and_then (p s) go)
then_goes {middle} {after} {v} {r} {p} go h k =
    record {
      comes = λ s is_seen. by_piece (p s) (h.comes s is_seen);
      fewer = omega (arith, h.fewer, k.fewer);
      lengths = λ comp. omega (arith, h.lengths comp, k.lengths comp);
    } where
      by_piece : (q : Piece _) → CameTo (Ok v) middle q → CameTo r after (and_then q go)
      by_piece (Reached w s) c = subst (λ x. CameTo r after (go x s)) (sym c.0) (k.comes s c.1)
      by_piece (Stopped e s) c = elim c [ ]

-- a piece that makes a block, and what follows it
pub made_goes : {V W : Type 0} {before middle after : Seen} {v : V} {r : Result W RunEnd} {p : State → Piece V}
    (go : V → State → Piece W) → ComesMaking 1 before middle (Ok v) p → Comes middle after r (go v) →
    ComesMaking 1 before after r (λ s. and_then (p s) go)
made_goes {middle} {after} {v} {r} {p} go h k =
    record {
      comes = λ s is_seen. by_piece (p s) (h.comes s is_seen);
      fewer = omega (arith, h.fewer, k.fewer);
      lengths = λ comp. omega (arith, h.lengths comp, k.lengths comp);
    } where
      by_piece : (q : Piece _) → CameTo (Ok v) middle q → CameTo r after (and_then q go)
      by_piece (Reached w s) c = subst (λ x. CameTo r after (go x s)) (sym c.0) (k.comes s c.1)
      by_piece (Stopped e s) c = elim c [ ]

-- a piece that makes no block
pub makes_none : {V : Type 0} {before after : Seen} {r : Result V RunEnd} {p : State → Piece V} →
    Comes before after r p → ComesMaking 1 before after r p
makes_none h = record { comes = h.comes; fewer = h.fewer; lengths = λ comp. omega (arith, h.lengths comp) }

-- other blocks in a compartment
changed_in : (b : Bool) (x z : Blocks) (made : ℕ) → (b ≡ true → length x ≤ length z + made) →
    length (if b then x else z) ≤ length z + made
changed_in true x z made h = h refl
changed_in false x z made h = omega arith

pub blocks_changed : (comp : ℕ) (bs : Blocks) (memory : Memory) (made : ℕ) → length bs ≤ length (memory comp) + made →
    (c : ℕ) → length (with_blocks comp bs memory c) ≤ length (memory c) + made
blocks_changed comp bs memory made h c = changed_in (c == comp) bs (memory c) made
    (λ same. subst (λ k. length bs ≤ length (memory k) + made) (sym (eqb-true c comp same)) h)

-- other blocks in the compartment
module _ (here : Here) (line : ℕ) (seen : Seen) (after : Blocks) where
  changed_at : (s : State) (r : Result Blocks Cause) → seen_of s ≡ seen → blanked r ≡ Ok after → CameTo usual (record
      seen { memory = with_blocks here.comp after seen.memory }) (and_then (computed here line r s) (λ blocks s. leave
      {A = Unit {0}} Next tt (record s { memory = with_blocks here.comp blocks s.memory })))
  changed_at s (Ok blocks) is_seen is = (
    refl,
    seen_with s here.comp blocks is_seen ∙ ap (λ bs. record seen { memory = with_blocks here.comp bs seen.memory })
        (unwrap (blank blocks) after is),
  ) where
    unwrap : (a b : Blocks) → ◌≡◌ {A = Result Blocks Cause} (Ok a) (Ok b) → a ≡ b
    unwrap a b h = cc h
  changed_at s (Err cause) is_seen is = cc is

module _ (here : Here) (q v : Value) (line : ℕ) (seen : Seen) (after : Blocks) where
  -- a store
  pub stored_comes : store (seen.memory here.comp) q v ≡ Ok after →
      Comes seen (record seen { memory = with_blocks here.comp after seen.memory }) usual (stored here q v line tt)
  stored_comes is =
      record {
        comes = λ s is_seen. changed_at here line seen after s _ is_seen
            (sym (store_same _ q v) ∙ ap (λ bs. store bs q v) (blocks_seen s _ is_seen) ∙ is);
        fewer = omega arith;
        lengths = blocks_changed here.comp after seen.memory 0 (omega (
          arith,
          length_store (seen.memory here.comp) q v
              is,
        ));
      }

module _ (here : Here) (v : Value) (line : ℕ) (seen : Seen) (after : Blocks) where
  -- a block that is freed
  released_comes : free_cell (seen.memory here.comp) (cell_of v) ≡ Ok after →
      Comes seen (record seen { memory = with_blocks here.comp after seen.memory }) usual (released here v line tt)
  released_comes is =
      record {
        comes = λ s is_seen. changed_at here line seen after s _ is_seen
            (sym (free_same _ v) ∙ ap (λ bs. free_cell bs (cell_of v)) (blocks_seen s _ is_seen) ∙ is);
        fewer = omega arith;
        lengths = blocks_changed here.comp after seen.memory 0 (omega (
          arith,
          length_free (seen.memory here.comp) v
              is,
        ));
      }

module _ (here : Here) (line : ℕ) (seen : Seen) (cause : Cause) where
  blamed_at : (s : State) (r : Result Blocks Cause) → seen_of s ≡ seen → blanked r ≡ Err cause → CameTo (Err (Blamed
      here.comp cause line)) seen (and_then (computed here line r s) (λ blocks s. leave {A = Unit {0}} Next tt (record s
      { memory = with_blocks here.comp blocks s.memory })))
  blamed_at s (Ok blocks) is_seen is = cc is
  blamed_at s (Err other) is_seen is = (ap (λ x. Blamed here.comp x line) (unwrap other cause is), is_seen) where
    unwrap : (a b : Cause) → ◌≡◌ {A = Result Blocks Cause} (Err a) (Err b) → a ≡ b
    unwrap a b h = cc h

module _ (here : Here) (q v : Value) (line : ℕ) (seen : Seen) (cause : Cause) where
  pub stored_blamed : store (seen.memory here.comp) q v ≡ Err cause →
      Comes seen seen (with_exit {V = Unit {0}} Next (Err (Blamed here.comp cause line))) (stored here q v line tt)
  stored_blamed is =
      record {
        comes = λ s is_seen. blamed_at here line seen cause s _ is_seen
            (sym (store_same _ q v) ∙ ap (λ bs. store bs q v) (blocks_seen s _ is_seen) ∙ is);
        fewer = omega arith;
        lengths = λ comp. omega arith;
      }

module _ (here : Here) (v : Value) (line : ℕ) (seen : Seen) (cause : Cause) where
  released_blamed : free_cell (seen.memory here.comp) (cell_of v) ≡ Err cause →
      Comes seen seen (with_exit {V = Unit {0}} Next (Err (Blamed here.comp cause line))) (released here v line tt)
  released_blamed is =
      record {
        comes = λ s is_seen. blamed_at here line seen cause s _ is_seen
            (sym (free_same _ v) ∙ ap (λ bs. free_cell bs (cell_of v)) (blocks_seen s _ is_seen) ∙ is);
        fewer = omega arith;
        lengths = λ comp. omega arith;
      }

-- a turn, if there is one
turned_at : {n : ℕ} (s : State) {seen : Seen} → seen_of s ≡ seen → s.turns ≡ suc n →
    CameTo (Ok tt) (record seen { turns = n }) (turn_of s.turns s)
turned_at {n} s {seen} is_seen is = subst (λ k. CameTo (Ok tt) (record seen { turns = n }) (turn_of k s)) (sym is)
    (refl, ap {A = Seen} (λ x. record x { turns = n }) is_seen)

pub turn_comes : {n : ℕ} {seen : Seen} → seen.turns ≡ suc n → Comes seen (record seen { turns = n }) (Ok tt) turn
turn_comes is =
    record {
      comes = λ s is_seen. turned_at s is_seen (ap (λ x. x.turns) is_seen ∙ is);
      fewer = omega (arith, is);
      lengths = λ comp. omega arith;
    }

out_at : (s : State) {seen : Seen} → seen_of s ≡ seen → s.turns ≡ zero → CameTo (Err TurnsOut) seen (turn_of s.turns s)
out_at s {seen} is_seen is = subst (λ k. CameTo (Err TurnsOut) seen (turn_of k s)) (sym is) (refl, is_seen)

pub turn_stops : {seen : Seen} → seen.turns ≡ zero → Comes seen seen (Err TurnsOut) turn
turn_stops is =
    record {
      comes = λ s is_seen. out_at s is_seen (ap (λ x. x.turns) is_seen ∙ is);
      fewer = omega arith;
      lengths = λ comp. omega arith;
    }

pub stored_ok : (here : Here) (q v : Value) (line : ℕ) {seen : Seen} {memory : Memory} →
    store (seen.memory here.comp) q v ≡ Ok (memory here.comp) →
    memory ≡ with_blocks here.comp (memory here.comp) seen.memory →
    Comes seen (with_memory seen memory) usual (stored here q v line tt)
stored_ok here q v line {seen} is others = subst (λ m. Comes seen (with_memory seen m) usual (stored here q v line tt))
    (sym others) (stored_comes here q v line seen _ is)

pub stored_err : (here : Here) (q v : Value) (line : ℕ) {seen : Seen} {memory : Memory} {cause : Cause} {end : RunEnd} →
    end ≡ Blamed here.comp cause line → store (seen.memory here.comp) q v ≡ Err cause → memory ≡ seen.memory →
    Comes seen (with_memory seen memory) (with_exit {V = Unit {0}} Next (Err end)) (stored here q v line tt)
stored_err here q v line {seen} {memory} {cause} blame is same =
    subst (λ e. Comes seen (with_memory seen memory) (with_exit {V = Unit {0}} Next (Err e)) (stored here q v line tt))
    (sym blame) (subst (λ m. Comes seen (with_memory seen m)
    (with_exit {V = Unit {0}} Next (Err (Blamed here.comp cause line))) (stored here q v line tt)) (sym same)
    (stored_blamed here q v line seen cause is))

pub given_err : {V : Type 0} (here : Here) (line : ℕ) (f : Blocks → Result V Cause)
    (same : (bs : Blocks) → f (blank bs) ≡ f bs) {seen : Seen} {cause : Cause} {end : RunEnd} →
    end ≡ Blamed here.comp cause line → Err cause ≡ f (seen.memory here.comp) →
    Comes seen seen (Err end) (λ s. computed here line (f (s.memory here.comp)) s)
given_err here line f same {seen} blame is =
    subst (λ e. Comes seen seen (Err e) (λ s. computed here line (f (s.memory here.comp)) s)) (sym blame)
    (computed_blamed here line f same seen is)

pub released_ok : (here : Here) (v : Value) (line : ℕ) {seen : Seen} {memory : Memory} →
    free_cell (seen.memory here.comp) (cell_of v) ≡ Ok (memory here.comp) →
    memory ≡ with_blocks here.comp (memory here.comp) seen.memory →
    Comes seen (with_memory seen memory) usual (released here v line tt)
released_ok here v line {seen} is others = subst (λ m. Comes seen (with_memory seen m) usual (released here v line tt))
    (sym others) (released_comes here v line seen _ is)

pub released_err : (here : Here) (v : Value) (line : ℕ) {seen : Seen} {memory : Memory} {cause : Cause}
    {end : RunEnd} → end ≡ Blamed here.comp cause line → free_cell (seen.memory here.comp) (cell_of v) ≡ Err cause →
    memory ≡ seen.memory →
    Comes seen (with_memory seen memory) (with_exit {V = Unit {0}} Next (Err end)) (released here v line tt)
released_err here v line {seen} {memory} {cause} blame is same =
    subst (λ e. Comes seen (with_memory seen memory) (with_exit {V = Unit {0}} Next (Err e)) (released here v line tt))
    (sym blame) (subst (λ m. Comes seen (with_memory seen m)
    (with_exit {V = Unit {0}} Next (Err (Blamed here.comp cause line))) (released here v line tt)) (sym same)
    (released_blamed here v line seen cause is))

same_at : (memory : Memory) (comp c : ℕ) (b : Bool) → (c == comp) ≡ b → memory c ≡ (if b then memory comp else memory c)
same_at memory comp c true is = ap memory (eqb-true c comp is)
same_at memory comp c false is = refl

with_itself : (comp : ℕ) (memory : Memory) → memory ≡ with_blocks comp (memory comp) memory
with_itself comp memory = λ i c. same_at memory comp c (c == comp) refl i

-- null, or a pointer to the start of the block of this number
abbrev pub start_of : Option ℕ → Value
start_of None = Null
start_of (Some number) = Ptr (record { block = number; index = 0 })

-- a block that is allocated, at a place of the zone if there is one
module _ (here : Here) (words : ℕ) (seen : Seen) where
  abbrev pub more_blocks : Option ℕ → Memory
  more_blocks place = with_blocks here.comp (with_words words place (seen.memory here.comp)) seen.memory

  abbrev pub new_number : Option ℕ → Option ℕ
  new_number place = option_map (λ p. length (seen.memory here.comp)) place

  placed_at : (s : State) (place : Option ℕ) → seen_of s ≡ seen →
      CameTo (Ok (start_of (new_number place))) (with_memory seen (more_blocks place)) (placed here words place s)
  placed_at s None is_seen = (refl, is_seen ∙ ap (with_memory seen) (with_itself here.comp seen.memory))
  placed_at s (Some place) is_seen = (
    ap (λ n. start_of (Some n)) (sym (length_same (s.memory here.comp)) ∙ ap length (blocks_seen s here.comp is_seen)),
    seen_with s here.comp (s.memory here.comp ++ allocated_at place words ∷ []) is_seen ∙
        ap (λ bs. with_memory seen (with_blocks here.comp bs seen.memory))
        (blank_more (s.memory here.comp) (allocated_at place words ∷ []) ∙
        ap (λ bs. bs ++ allocated_at place words ∷ []) (blocks_seen s here.comp is_seen)),
  )

  found_at : (s : State) → seen_of s ≡ seen →
      free_place (s.memory here.comp) words ≡ free_place (seen.memory here.comp) words
  found_at s is_seen = ap (λ spans. least_free spans words) (sym (spans_same (s.memory here.comp))) ∙
      ap (λ bs. free_place bs words) (blocks_seen s here.comp is_seen)

  allocated_comes : (place : Option ℕ) → free_place (seen.memory here.comp) words ≡ place →
      ComesMaking 1 seen (with_memory seen (more_blocks place)) (Ok (start_of (new_number place))) (allocated here
      words)
  allocated_comes place is =
      record {
        comes = λ s is_seen. subst (λ p. CameTo (Ok (start_of (new_number place)))
            (with_memory seen (more_blocks place)) (placed here words p s)) (sym (found_at s is_seen ∙ is))
            (placed_at s place is_seen);
        fewer = omega arith;
        lengths = blocks_changed here.comp (with_words words place (seen.memory here.comp)) seen.memory 1
            (omega (arith, length_words words place (seen.memory here.comp)));
      }

  pub allocated_as : {number : Option ℕ} {memory : Memory} →
      number ≡ new_number (free_place (seen.memory here.comp) words) →
      memory ≡ more_blocks (free_place (seen.memory here.comp) words) →
      ComesMaking 1 seen (with_memory seen memory) (Ok (start_of number)) (allocated here words)
  allocated_as {number} is same =
      subst (λ m. ComesMaking 1 seen (with_memory seen m) (Ok (start_of number)) (allocated here words)) (sym same)
      (subst (λ n. ComesMaking 1 seen (with_memory seen (more_blocks (free_place (seen.memory here.comp) words)))
      (Ok (start_of n)) (allocated here words)) (sym is) (allocated_comes _ refl))
