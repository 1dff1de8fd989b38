-- A row at the number of a block, with one more block, and with a store into one of its blocks.
use Rattle.sc_blocks.proofs.Common.{AreApart, Block, Blocks, Cell, Err, HasCells, HoldsAt, IsOver, IsRising, List}
use Rattle.sc_blocks.proofs.Common.{LivesWith, MatchOption, MatchResult, None, Ok, Option, Result, Slot, Some, []}
use Rattle.sc_blocks.proofs.Common.{add-one}
use Rattle.sc_blocks.proofs.Common.{allocated_or_ended, ap, arith, bind, block_at, cases_lt, cause_of, ended_block}
use Rattle.sc_blocks.proofs.Common.{get_or}
use Rattle.sc_blocks.proofs.Common.{get_or-set_same, put_at, put_into, true}
use Rattle.sc_blocks.proofs.Common.{inl, inr, laid_out, length, length-set, living, put_in, refl, slice_get, slice_set}
use Rattle.sc_blocks.proofs.Common.{slot_among, slot_block, store_cell, stored_in, subst, sym, variable, variable_or}
use Rattle.sc_blocks.proofs.Common.{ℕ, ◌++◌, ◌+◌, ◌<◌, ◌∙◌, ◌∷◌, ◌≡◌}
use Rattle.sc_blocks.proofs.Laying.{lives_at, over_at, push_laid, set_laid}
use Rattle.sc_blocks.proofs.Living.{found_at, new_found, old_found, rising_push, others_found, rising_set}
use Rattle.sc_blocks.proofs.Living.{among_at, none_past, rising_up}
use Rattle.std.proofs.lemmas.Bool.{cases_eq}
use Rattle.std.proofs.lemmas.Option.{get_or_from_slice_get}
use Rattle.std.specs.Prelude.{OnErr}
use Rattle.sc_base.proofs.Lists.{is_there}
use Rattle.sc_core.specs.declared.cause.Cause.TheVariants.{Dangling}
use Rattle.sc_core.specs.declared.cause.Cause.{Cause}
use Rattle.sc_core.specs.declared.value.Cell.TheVariants.{Ptr}
use Rattle.sc_core.specs.declared.value.Pointer.{Pointer}
use Rattle.sc_blocks.specs.declared.fault.BlockFault.{BlockFault}

some_not_none : {A : Type 0} (o : Option A) (x : A) → o ≡ Some x → o ≡ None → ⊥
some_not_none o x some none = cc (some, none)

-- What stands at a number.

-- no variable has the number of an allocated block
pub no_variable : (slots heap : List Slot) (n : ℕ) (slot : Slot) → AreApart slots heap →
    slot_among heap n ≡ Some slot → slot_among slots n ≡ None
no_variable slots heap n slot apart found = elim (apart n) [
  | inl none ↦ none
  | inr none ↦ absurd (some_not_none _ slot found none)
]

variable_is : (slots heap : List Slot) (n : ℕ) (slot : Slot) → slot_among slots n ≡ Some slot →
    block_at slots heap n ≡ variable slot.cells
variable_is slots heap n slot found = ap (λ o. variable_or o (allocated_or_ended (slot_among heap n))) found

pub allocated_is : (slots heap : List Slot) (n : ℕ) (slot : Slot) → slot_among slots n ≡ None →
    slot_among heap n ≡ Some slot → block_at slots heap n ≡ slot_block slot
allocated_is slots heap n slot none found = (λ i. variable_or (none i) (allocated_or_ended (found i)))

pub ended_is : (slots heap : List Slot) (n : ℕ) → slot_among slots n ≡ None → slot_among heap n ≡ None →
    block_at slots heap n ≡ ended_block
ended_is slots heap n none lost = (λ i. variable_or (none i) (allocated_or_ended (lost i)))

module _ (slots heap : List Slot) (made : ℕ) (slots_rise : IsRising 0 made slots) (heap_rises : IsRising 0 made heap)
  where
    abbrev row : Blocks
    row = laid_out (block_at slots heap) made 0

    pub variable_lives : (n : ℕ) (slot : Slot) → slot_among slots n ≡ Some slot →
        slice_get row n ≡ Some (variable slot.cells)
    variable_lives n slot found =
        lives_at (block_at slots heap) made n _ (among_at slots 0 made n slot slots_rise found).below
        (variable_is slots heap n slot found)

    pub allocated_lives : (n : ℕ) (slot : Slot) → slot_among slots n ≡ None → slot_among heap n ≡ Some slot →
        slice_get row n ≡ Some (slot_block slot)
    allocated_lives n slot none found =
        lives_at (block_at slots heap) made n _ (among_at heap 0 made n slot heap_rises found).below
        (allocated_is slots heap n slot none found)

    pub lost_is_over : (n : ℕ) → slot_among slots n ≡ None → slot_among heap n ≡ None → IsOver (slice_get row n)
    lost_is_over n none lost = over_at (block_at slots heap) made n (ended_is slots heap n none lost)

    -- the cells of a variable, or else of an allocated block
    pub variable_has : (n : ℕ) (cells : List Cell) → HasCells slots n cells → LivesWith (slice_get row n) cells
    variable_has n cells h = record {
      place = None;
      is = variable_lives n h.slot h.among ∙ ap (λ cells. Some (variable cells)) h.cells_are;
    }

    pub allocated_has : (n : ℕ) (cells : List Cell) → slot_among slots n ≡ None → HasCells heap n cells →
        LivesWith (slice_get row n) cells
    allocated_has n cells none h = record {
      place = h.slot.place;
      is = allocated_lives n h.slot none h.among ∙
          ap (λ cells. Some (record { live = true; cells = cells; place = h.slot.place })) h.cells_are;
    }

-- the slot at a place is the one of its number
pub slot_at : (slots seen : List Slot) (made place n : ℕ) (slot : Slot) → IsRising 0 made slots → seen ≡ slots →
    place < length seen → HoldsAt (λ (slot : Slot). slot.number ≡ n) seen place → slot ≡ get_or slots place slot →
    slot_among slots n ≡ Some slot
slot_at slots seen made place n slot up same within at is =
    let here : place < length slots = subst (λ ss. place < length ss) same within in
    let number : slot.number ≡ n =
    ap (λ s. s.number) is ∙ subst (λ ss. (get_or ss place slot).number ≡ n) same (at slot) in
    found_at slots 0 made place slot n up here is number

pub slot_there : (slots : List Slot) (from made place n : ℕ) (slot : Slot) → IsRising from made slots →
    place < length slots → HoldsAt (λ (slot : Slot). slot.number ≡ n) slots place → slot ≡ get_or slots place slot →
    slot_among slots n ≡ Some slot
slot_there slots from made place n slot up within at is =
    found_at slots from made place slot n up within is (ap (λ s. s.number) is ∙ at slot)

pub has_in : (slots seen : List Slot) (made n : ℕ) (cells : List Cell) → IsRising 0 made slots → seen ≡ slots →
    ((from made : ℕ) → IsRising from made seen → HasCells seen n cells) → HasCells slots n cells
has_in slots seen made n cells up same has =
    subst (λ ss. HasCells ss n cells) same (has 0 made (subst (λ ss. IsRising 0 made ss) (sym same) up))

-- none is found there
pub none_at : (slots seen : List Slot) (made n : ℕ) → IsRising 0 made slots → seen ≡ slots →
    ((from made : ℕ) → IsRising from made seen → slot_among seen n ≡ None) → slot_among slots n ≡ None
none_at slots seen made n up same none =
    subst (λ ss. slot_among ss n ≡ None) same (none 0 made (subst (λ ss. IsRising 0 made ss) (sym same) up))

pub over_dangles : (block : Option Block) → IsOver block → living block ≡ Err Dangling
over_dangles block (inl none) = ap living none
over_dangles block (inr ended) = ap living ended

-- the cells of an allocated block, or none, where no variable has the number
pub either_has : {A : Type 0} (now : A → List Cell) (slots heap seen : List Slot) (made n : ℕ) (result : Option A) →
    IsRising 0 made slots → IsRising 0 made heap → slot_among slots n ≡ None → seen ≡ heap →
    MatchOption result ((from made : ℕ) → IsRising from made seen → slot_among seen n ≡ None)
    (λ found. (from made : ℕ) → IsRising from made seen → HasCells seen n (now found)) →
    MatchOption result (IsOver (slice_get (laid_out (block_at slots heap) made 0) n))
    (λ found. LivesWith (slice_get (laid_out (block_at slots heap) made 0) n) (now found))
either_has now slots heap seen made n None up heap_up none same h =
    lost_is_over slots heap made up heap_up n none (none_at heap seen made n heap_up same h)
either_has now slots heap seen made n (Some found) up heap_up none same h =
    allocated_has slots heap made up heap_up n (now found) none
    (has_in heap seen made n (now found) heap_up same h)

-- One block more.

module _ (slots heap more : List Slot) (made : ℕ) (s : Slot) (up : IsRising 0 made slots)
    (heap_up : IsRising 0 made heap) (number : s.number ≡ made) (is : more ≡ slots ++ s ∷ []) where
  pub rising_more : IsRising 0 (made + 1) more
  rising_more = subst (λ ss. IsRising 0 (made + 1) ss) (sym is) (rw add-one (rising_push slots 0 made s up number))

  pub heap_still : IsRising 0 (made + 1) heap
  heap_still = rising_up heap 0 made (made + 1) heap_up (omega arith)

  found_now : slot_among more made ≡ Some s
  found_now = ap (λ ss. slot_among ss made) is ∙ new_found slots 0 made s up number

  found_before : (n : ℕ) → n < made → slot_among more n ≡ slot_among slots n
  found_before n h = ap (λ ss. slot_among ss n) is ∙ old_found slots made s n number h

  pub apart_more : AreApart slots heap → AreApart more heap
  apart_more apart n = elim (cases_lt n made) [
    | inl h ↦ elim (apart n) [
      | inl none ↦ inl (found_before n h ∙ none)
      | inr none ↦ inr none
    ]
    | inr past ↦ inr (none_past heap 0 made n heap_up past)
  ]

  pub apart_more_heap : AreApart heap slots → AreApart heap more
  apart_more_heap apart n = elim (cases_lt n made) [
    | inl h ↦ elim (apart n) [
      | inl none ↦ inl none
      | inr none ↦ inr (found_before n h ∙ none)
    ]
    | inr past ↦ inl (none_past heap 0 made n heap_up past)
  ]

  -- a variable
  pub row_more : laid_out (block_at more heap) (made + 1) 0 ≡
      laid_out (block_at slots heap) made 0 ++ variable s.cells ∷ []
  row_more = rw add-one (push_laid (block_at more heap) (block_at slots heap) made 0 made (variable s.cells)
      (omega arith) (variable_is more heap made s found_now)
      (λ n h. ap (λ o. variable_or o (allocated_or_ended (slot_among heap n))) (found_before n h)))

  -- an allocated block: here the variables are `heap`, and stay
  pub heap_more : laid_out (block_at heap more) (made + 1) 0 ≡
      laid_out (block_at heap slots) made 0 ++ slot_block s ∷ []
  heap_more = rw add-one (push_laid (block_at heap more) (block_at heap slots) made 0 made (slot_block s)
      (omega arith) (allocated_is heap more made s (none_past heap 0 made made heap_up (omega arith)) found_now)
      (λ n h. ap (λ o. variable_or (slot_among heap n) (allocated_or_ended o)) (found_before n h)))

-- A store.

-- the block once its cells are others
abbrev with_cells : Block → List Cell → Result Block Cause
with_cells block cells = Ok (record block { cells = cells })

in_block : (bs : Blocks) (k : ℕ) (block : Block) (q : Result (List Cell) Cause) →
    bind q (λ cells. Ok (slice_set bs k (record block { cells = cells }))) ≡
    bind (bind q (with_cells block)) (λ block. Ok (slice_set bs k block))
in_block bs k block (Err cause) = refl
in_block bs k block (Ok cells) = refl

by_block : (bs : Blocks) (k index : ℕ) (cell : Cell) (c : Result Block Cause) → bind c
    (λ block. bind (put_in block.cells index cell) (λ cells. Ok (slice_set bs k (record block { cells = cells })))) ≡
    bind (bind c (λ block. bind (put_in block.cells index cell) (with_cells block)))
    (λ block. Ok (slice_set bs k block))
by_block bs k index cell (Err cause) = refl
by_block bs k index cell (Ok block) = in_block bs k block _

-- a store into a row is one into its block
store_is : (bs : Blocks) (p : Pointer) (cell : Cell) (block : Block) → slice_get bs p.block ≡ Some block →
    store_cell bs (Ptr p) cell ≡ bind (stored_in block p.index cell) (λ block. Ok (slice_set bs p.block block))
store_is bs p cell block is = by_block bs p.block p.index cell _ ∙ ap (λ o. bind
    (bind (living o) (λ block. bind (put_in block.cells p.index cell) (with_cells block)))
    (λ block. Ok (slice_set bs p.block block))) is

-- a slot is another one of its number
module _ (slots : List Slot) (made place n : ℕ) (old new : Slot) (up : IsRising 0 made slots)
    (within : place < length slots) (is : old ≡ get_or slots place old) (number : old.number ≡ n)
    (same : new.number ≡ old.number) where
  abbrev after : List Slot
  after = slice_set slots place new

  here : new.number ≡ (get_or slots place old).number
  here = same ∙ ap (λ s. s.number) is

  pub rising_after : IsRising 0 made after
  rising_after = rising_set slots 0 made place new old up here

  found_new : slot_among after n ≡ Some new
  found_new = found_at after 0 made place new n rising_after
      (subst (λ k. place < k) (sym (length-set slots place new)) within)
      (sym (get_or-set_same slots place new new within)) (same ∙ number)

  found_old : slot_among slots n ≡ Some old
  found_old = found_at slots 0 made place old n up within is number

  found_other : (m : ℕ) → (m ≡ n → ⊥) → slot_among after m ≡ slot_among slots m
  found_other m other = others_found slots place new old m here (λ e. other (e ∙ same ∙ number))

  none_new : (m : ℕ) → slot_among slots m ≡ None → slot_among after m ≡ None
  none_new m none = elim (cases_eq m n) [
    | inl e ↦ absurd (some_not_none (slot_among slots m) old (ap (slot_among slots) e ∙ found_old) none)
    | inr other ↦ found_other m other ∙ none
  ]

  below_made : n < made
  below_made = (among_at slots 0 made n old up found_old).below

  -- of the variables
  pub apart_after : (heap : List Slot) → AreApart slots heap → AreApart after heap
  apart_after heap apart m = elim (apart m) [
    | inl none ↦ inl (none_new m none)
    | inr none ↦ inr none
  ]

  pub row_after : (heap : List Slot) → slice_set (laid_out (block_at slots heap) made 0) n (variable new.cells) ≡
      laid_out (block_at after heap) made 0
  row_after heap = set_laid (block_at slots heap) (block_at after heap) made 0 n n (variable new.cells) (omega arith)
      below_made (variable_is after heap n new found_new)
      (λ m other. ap (λ o. variable_or o (allocated_or_ended (slot_among heap m))) (found_other m other))

  -- of the allocated blocks
  pub heap_apart_after : (variables : List Slot) → AreApart variables slots → AreApart variables after
  heap_apart_after variables apart m = elim (apart m) [
    | inl none ↦ inl none
    | inr none ↦ inr (none_new m none)
  ]

  pub heap_after : (variables : List Slot) → slot_among variables n ≡ None →
      slice_set (laid_out (block_at variables slots) made 0) n (slot_block new) ≡
      laid_out (block_at variables after) made 0
  heap_after variables none =
      set_laid (block_at variables slots) (block_at variables after) made 0 n n (slot_block new) (omega arith)
      below_made (allocated_is variables after n new none found_new)
      (λ m other. ap (λ o. variable_or (slot_among variables m) (allocated_or_ended o)) (found_other m other))

-- what a store did to the row, by what it did to the block
pub stored : (bs changed : Blocks) (p : Pointer) (cell : Cell) (old new : List Cell) →
    slice_get bs p.block ≡ Some (variable old) → slice_set bs p.block (variable new) ≡ changed →
    (r : Result (Unit {0}) BlockFault) → MatchResult r (λ _. stored_in (variable old) p.index cell ≡ Ok (variable new))
    (λ fault. stored_in (variable old) p.index cell ≡ Err (cause_of fault)) → MatchResult r
    (λ _. store_cell bs (Ptr p) cell ≡ Ok changed) (λ fault. store_cell bs (Ptr p) cell ≡ Err (cause_of fault))
stored bs changed p cell old new found is (Ok done) h =
    store_is bs p cell _ found ∙ ap (λ q. bind q (λ block. Ok (slice_set bs p.block block))) h ∙ ap Ok is
stored bs changed p cell old new found is (Err fault) h =
    store_is bs p cell _ found ∙ ap (λ q. bind q (λ block. Ok (slice_set bs p.block block))) h

abbrev cells_or : List Cell → Result Block Cause → List Cell
cells_or cells (Ok block) = block.cells
cells_or cells (Err cause) = cells

-- a store into a slot of a list
pub put_slot : (slots : List Slot) (at index : ℕ) (cell : Cell) (old new : Slot) → slice_get slots at ≡ Some old →
    new.number ≡ old.number → new.place ≡ old.place → (r : Result (Unit {0}) BlockFault) →
    MatchResult r (λ _. stored_in (variable old.cells) index cell ≡ Ok (variable new.cells))
    (λ fault. stored_in (variable old.cells) index cell ≡ Err (cause_of fault)) →
    MatchResult r (λ _. put_at slots at index cell ≡ Ok (slice_set slots at new))
    (λ fault. put_at slots at index cell ≡ Err (cause_of fault))
put_slot slots at index cell old new there number place r h = by r (put_in old.cells index cell) refl h where
  into : put_at slots at index cell ≡
      bind (put_in old.cells index cell) (λ cells. Ok (slice_set slots at (record old { cells = cells })))
  into = ap (put_into slots at index cell) there

  block_after : Result (List Cell) Cause → Result Block Cause
  block_after q = bind q (λ cells. Ok (record (variable old.cells) { cells = cells }))

  by : (r : Result (Unit {0}) BlockFault) (q : Result (List Cell) Cause) → put_in old.cells index cell ≡ q →
      MatchResult r (λ _. stored_in (variable old.cells) index cell ≡ Ok (variable new.cells))
      (λ fault. stored_in (variable old.cells) index cell ≡ Err (cause_of fault)) →
      MatchResult r (λ _. put_at slots at index cell ≡ Ok (slice_set slots at new))
      (λ fault. put_at slots at index cell ≡ Err (cause_of fault))
  by (Ok done) (Ok cells) q h =
      let same : cells ≡ new.cells = ap (λ r. cells_or old.cells r) (sym (ap block_after q) ∙ h) in
      into ∙ ap (λ o. bind o (λ cells. Ok (slice_set slots at (record old { cells = cells })))) q ∙
      (λ i. Ok (slice_set slots at
      (record { number = sym number i; cells = same i; place = sym place i })))
  by (Ok done) (Err cause) q h = let never = sym (ap block_after q) ∙ h in cc never
  by (Err fault) (Ok cells) q h = let never = sym (ap block_after q) ∙ h in cc never
  by (Err fault) (Err cause) q h =
      into ∙ ap (λ o. bind o (λ cells. Ok (slice_set slots at (record old { cells = cells })))) q ∙
      ap (λ c. Err c) (let same : cause ≡ cause_of fault = cc (sym (ap block_after q) ∙ h) in same)

-- the same of an allocated block, whose slot was found
module _ (variables heap : List Slot) (made at : ℕ) (p : Pointer) (cell : Cell)
    (variables_rise : IsRising 0 made variables)
    (heap_rises : IsRising 0 made heap) (none : slot_among variables p.block ≡ None) (within_heap : at < length heap)
    (holds : HoldsAt (λ (slot : Slot). slot.number ≡ p.block) heap at) where
  abbrev bs : Blocks
  bs = laid_out (block_at variables heap) made 0

  abbrev slot : Slot
  slot = (is_there heap at within_heap).0

  at_there : slice_get heap at ≡ Some slot
  at_there = (is_there heap at within_heap).1

  slot_is : slot ≡ get_or heap at slot
  slot_is = sym (get_or_from_slice_get heap at slot slot at_there)

  number : slot.number ≡ p.block
  number = ap (λ s. s.number) slot_is ∙ holds slot

  found_slot : slot_among heap p.block ≡ Some slot
  found_slot = found_at heap 0 made at slot p.block heap_rises within_heap slot_is number

  lives_there : slice_get bs p.block ≡ Some (slot_block slot)
  lives_there = allocated_lives variables heap made variables_rise heap_rises p.block slot none found_slot

  abbrev with_new : List Cell → Slot
  with_new cells = record slot { cells = cells }

  put_is : (q : Result (List Cell) Cause) (after : List Slot) →
      bind q (λ cells. Ok (slice_set heap at (with_new cells))) ≡ Ok after →
      bind q (λ cells. Ok (slice_set bs p.block (slot_block (with_new cells)))) ≡
      Ok (laid_out (block_at variables after) made 0)
  put_is (Err cause) after is = cc is
  put_is (Ok cells) after is =
      let same : slice_set heap at (with_new cells) ≡ after = cc is in
      ap Ok (heap_after heap made at p.block slot (with_new cells) heap_rises within_heap slot_is number refl variables
      none ∙ ap (λ ss. laid_out (block_at variables ss) made 0) same)

  put_fails : (q : Result (List Cell) Cause) (cause : Cause) →
      bind q (λ cells. Ok (slice_set heap at (with_new cells))) ≡ Err cause →
      bind q (λ cells. Ok (slice_set bs p.block (slot_block (with_new cells)))) ≡ Err cause
  put_fails (Err cause) other is = cc is
  put_fails (Ok cells) cause is = cc is

  abbrev put_result : Result (List Cell) Cause
  put_result = put_in slot.cells p.index cell

  by_slot : put_at heap at p.index cell ≡ bind put_result (λ cells. Ok (slice_set heap at (with_new cells)))
  by_slot = ap (put_into heap at p.index cell) at_there

  by_row : store_cell bs (Ptr p) cell ≡
      bind put_result (λ cells. Ok (slice_set bs p.block (slot_block (with_new cells))))
  by_row = ap (λ o. bind (living o) (λ block. bind (put_in block.cells p.index cell)
      (λ cells. Ok (slice_set bs p.block (record block { cells = cells }))))) lives_there

  pub allocated_stored : (later : List Slot) (r : Result (Unit {0}) BlockFault) →
      MatchResult r (λ _. put_at heap at p.index cell ≡ Ok later)
      (λ fault. put_at heap at p.index cell ≡ Err (cause_of fault)) →
      MatchResult r (λ _. store_cell bs (Ptr p) cell ≡ Ok (laid_out (block_at variables later) made 0))
      (λ fault. store_cell bs (Ptr p) cell ≡ Err (cause_of fault))
  allocated_stored later (Ok done) h = by_row ∙ put_is put_result later (sym by_slot ∙ h)
  allocated_stored later (Err fault) h = by_row ∙ put_fails put_result (cause_of fault) (sym by_slot ∙ h)

  put_kept : (q : Result (List Cell) Cause) (later : List Slot) → AreApart variables heap →
      bind q (λ cells. Ok (slice_set heap at (with_new cells))) ≡ Ok later →
      IsRising 0 made variables × IsRising 0 made later × AreApart variables later
  put_kept (Err cause) later apart is = cc is
  put_kept (Ok cells) later apart is =
      let same : slice_set heap at (with_new cells) ≡ later = cc is in (
        variables_rise,
        subst (λ ss. IsRising 0 made ss) same
            (rising_after heap made at p.block slot (with_new cells) heap_rises within_heap slot_is number refl),
        subst (λ ss. AreApart variables ss) same
            (heap_apart_after heap made at p.block slot (with_new cells) heap_rises within_heap slot_is number refl
            variables apart),
      )

  pub stored_keeps : (later : List Slot) (r : Result (Unit {0}) BlockFault) → AreApart variables heap →
      MatchResult r (λ _. put_at heap at p.index cell ≡ Ok later)
      (λ fault. put_at heap at p.index cell ≡ Err (cause_of fault)) → OnErr r (later ≡ heap) →
      IsRising 0 made variables × IsRising 0 made later × AreApart variables later
  stored_keeps later (Ok done) apart h same = put_kept put_result later apart (sym by_slot ∙ h)
  stored_keeps later (Err fault) apart h same = (
    variables_rise,
    subst (λ ss. IsRising 0 made ss) (sym same) heap_rises,
    subst (λ ss. AreApart variables ss) (sym same) apart,
  )
