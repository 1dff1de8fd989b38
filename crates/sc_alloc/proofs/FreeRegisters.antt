-- A register that is given, and one that isn't.
use Rattle.sc_alloc.proofs.Common.{AllOver, AreRegisters, Interval, IsInUse, List, None, Option, Place, Placement}
use Rattle.sc_alloc.proofs.Common.{Register, Slot, Some, [], ap, arith, cases_eq, false, get_after, get_or, is_over}
use Rattle.sc_alloc.proofs.Common.{length, length-set, position, refl, register_count, slice_get, slice_get-get_or}
use Rattle.sc_alloc.proofs.Common.{slice_set, subst, suc, sym, true, with_place, zero, ℕ, ⊎_elim, ◌++◌, ◌<◌, ◌∙◌, ◌∷◌}
use Rattle.sc_alloc.proofs.Common.{◌≡◌, ◌≤◌}
use Rattle.sc_alloc.proofs.Lists.{get_pushed, get_kept, get_set_same, get_set_other, all_fail}

pub all_over_pushed : (placements : List Placement) (x : Interval) (place other : Place) (at : ℕ) →
    AllOver placements other at →
    (place ≡ other → x.last < at) → AllOver (with_place placements x place) other at
all_over_pushed placements x place other at old new i g get same =
    ⊎_elim
    (λ its. old i g its same)
    (λ is. subst (λ (g : Placement). g.place ≡ other → g.interval.last < at) is.1 new same)
    (get_pushed placements (record { interval = x; place = place }) g i get)

abbrev pub in_use_kept : (placements more : List Placement) (r at : ℕ) → IsInUse placements r at →
    IsInUse (placements ++ more) r at
in_use_kept placements more r at h = record {
  by = h.by;
  holder = h.holder;
  its = get_kept placements more h.holder h.by h.its;
  place = h.place;
  lasts = h.lasts;
}

in_use_before : (placements : List Placement) (r at last : ℕ) → at ≤ last → IsInUse placements r last →
    IsInUse placements r at
in_use_before placements r at last le h = record {
  by = h.by;
  holder = h.holder;
  its = h.its;
  place = h.place;
  lasts = omega (arith, le, h.lasts);
}

free_over : (placements : List Placement) (lasts : List (Option ℕ)) (r at : ℕ) (last : Option ℕ) →
    AreRegisters placements lasts →
    slice_get lasts r ≡ Some last → is_over at last ≡ true → AllOver placements (Register r) at
free_over placements lasts r at None regs get is = regs.unused r get at
free_over placements lasts r at (Some last) regs get is =
    λ i g its same. grind (arith, regs.over r last get i g its same)

module _ (placements : List Placement) (x : Interval) (lasts : List (Option ℕ)) (r : ℕ)
    (regs : AreRegisters placements lasts)
    (own : r < register_count) (free : AllOver placements (Register r) x.first) (ordered : x.first ≤ x.last) where
  set_here : slice_get (slice_set lasts r (Some x.last)) r ≡ Some (Some x.last)
  set_here = get_set_same lasts r (Some x.last) (omega (arith, own, regs.count))

  pub register_given : AreRegisters (with_place placements x (Register r)) (slice_set lasts r (Some x.last))
  register_given = record {
    count = length-set lasts r (Some x.last) ∙ regs.count;
    known = λ i q g get same. ⊎_elim
        (λ its. regs.known i q g its same)
        (λ is. (let e : r ≡ q = (let p : Register r ≡ g.place = ap (λ (g : Placement). g.place) is.1 in cc) in
        subst (λ q. q < register_count) e own))
        (get_pushed placements (record { interval = x; place = Register r }) g i get);
    in_use = λ q last get. ⊎_elim
        (λ e. (let same : x.last ≡ last = (let s : slice_get (slice_set lasts r (Some x.last)) r ≡ Some (Some last) =
        subst (λ q. slice_get (slice_set lasts r (Some x.last)) q ≡ Some (Some last)) (sym e) get in cc set_here) in
        record {
          by = length placements;
          holder = record { interval = x; place = Register r };
          its = get_after placements (record { interval = x; place = Register r }) [];
          place = ap Register e;
          lasts = omega (arith, same);
        }))
        (λ ne. in_use_kept placements _ q last
        (regs.in_use q last (sym (get_set_other lasts r q (Some x.last) ne) ∙ get)))
        (cases_eq r q);
    unused = λ q get at. ⊎_elim
        (λ e. absurd (let s : slice_get (slice_set lasts r (Some x.last)) r ≡ Some None =
        subst (λ q. slice_get (slice_set lasts r (Some x.last)) q ≡ Some None) (sym e) get in cc set_here))
        (λ ne. all_over_pushed placements x (Register r) (Register q) at
        (regs.unused q (sym (get_set_other lasts r q (Some x.last) ne) ∙ get) at)
        (λ same. absurd (ne (cc same))))
        (cases_eq r q);
    over = λ q last get. ⊎_elim
        (λ e. (let same : x.last ≡ last = (let s : slice_get (slice_set lasts r (Some x.last)) r ≡ Some (Some last) =
        subst (λ q. slice_get (slice_set lasts r (Some x.last)) q ≡ Some (Some last)) (sym e) get in cc set_here) in
        all_over_pushed placements x (Register r) (Register q) (suc last)
        (λ i g its place. (let h : g.interval.last < x.first = free i g its (place ∙ ap Register (sym e)) in
        omega (arith, h, ordered, same)))
        (λ p. omega (arith, same))))
        (λ ne. all_over_pushed placements x (Register r) (Register q) (suc last)
        (regs.over q last (sym (get_set_other lasts r q (Some x.last) ne) ∙ get))
        (λ same. absurd (ne (cc same))))
        (cases_eq r q);
  }

-- an interval that gets a slot leaves registers as they are
pub registers_kept : (placements : List Placement) (x : Interval) (lasts : List (Option ℕ)) (k : ℕ) →
    AreRegisters placements lasts →
    AreRegisters (with_place placements x (Slot k)) lasts
registers_kept placements x lasts k regs = record {
  count = regs.count;
  known = λ i q g get same. ⊎_elim
      (λ its. regs.known i q g its same)
      (λ is. absurd (let p : Slot k ≡ g.place = ap (λ (g : Placement). g.place) is.1 in cc))
      (get_pushed placements (record { interval = x; place = Slot k }) g i get);
  in_use = λ q last get. in_use_kept placements _ q last (regs.in_use q last get);
  unused = λ q get at. all_over_pushed placements x (Slot k) (Register q) at (regs.unused q get at)
      (λ same. absurd (cc same));
  over = λ q last get. all_over_pushed placements x (Slot k) (Register q) (suc last) (regs.over q last get)
      (λ same. absurd (cc same));
}

entry : (lasts : List (Option ℕ)) (r : ℕ) → r < length lasts →
    (last : Option ℕ) × (slice_get lasts r ≡ Some last)
entry [] r h = absurd (omega arith)
entry (last ∷ lasts) zero h = (last, refl)
entry (last ∷ lasts) (suc r) h = entry lasts r (omega (arith, h))

in_use_by : (placements : List Placement) (lasts : List (Option ℕ)) (r at : ℕ) (last : Option ℕ) →
    AreRegisters placements lasts →
    slice_get lasts r ≡ Some last → is_over at last ≡ false → IsInUse placements r at
in_use_by placements lasts r at None regs get is = absurd (cc is)
in_use_by placements lasts r at (Some last) regs get is =
    in_use_before placements r at last (grind (arith, is)) (regs.in_use r last get)

-- where no register is free, each is held
pub all_in_use : (placements : List Placement) (lasts : List (Option ℕ)) (at : ℕ) → AreRegisters placements lasts →
    position (is_over at) lasts ≡ None → (r : ℕ) → r < register_count → IsInUse placements r at
all_in_use placements lasts at regs none r own =
    (let last = entry lasts r (omega (arith, own, regs.count)) in
    in_use_by placements lasts r at last.0 regs last.1 (all_fail (is_over at) lasts r last.0 none last.1))

-- what the first free register keeps
pub found_over : (placements : List Placement) (lasts : List (Option ℕ)) (r at : ℕ) → AreRegisters placements lasts →
    r < length lasts → is_over at (get_or lasts r None) ≡ true →
    AllOver placements (Register r) at
found_over placements lasts r at regs own is =
    free_over placements lasts r at _ regs (slice_get-get_or lasts r None own) is
