-- The blocks of a machine's zones: those of one zone among those of all, and what changes there when it changes.
use Rattle.sc_machine.proofs.Common.{Bool, CompPart, ImageParts, IsTrue, List, MachineState, None, Option, Some, Traps}
use Rattle.sc_machine.proofs.Common.{[], ap, ap₂, arith, cases_lt, false, false≢true, get_or-map, get_or_past, has_heap}
use Rattle.sc_machine.proofs.Common.{is_some, length, length-map, map, ne_eqb, refl, slice_get, slice_index_or}
use Rattle.sc_machine.proofs.Common.{slice_set, subst, suc, sym, true, unwrap_or, zero, zone_start, ℕ, ⊎_elim, ◌*◌, ◌+◌}
use Rattle.sc_machine.proofs.Common.{◌<◌, ◌==◌, ◌∙◌, ◌∷◌, ◌≡◌, ◌≢◌, ◌≤◌}
use Rattle.sc_base.specs.declared.stop.TrapReason.TheVariants.{BadFree}
use Rattle.sc_image.specs.Prelude.{frees, starts_block, zone_of}
use Rattle.std.specs.Option.{option_map_or}
use Rattle.std.proofs.Common.{IfSome, if◌then◌else◌, ◌||◌}
use Rattle.std.proofs.lemmas.List.{map-set}
use Rattle.std.proofs.Math.Seq.{map-set_same}
use Rattle.sc_machine.specs.Zoned.{Zoned}
use Rattle.sc_zone.proofs.Places.{least_is_within}
use Rattle.sc_zone.specs.Prelude.{starts_at, without_span, zone_words}
unfoldable use Rattle.sc_zone.specs.Prelude.{least_free}
use Rattle.sc_zone.specs.declared.span.Span.{Span}

abbrev blocks_of : Option (List Span) → List Span
blocks_of zone = unwrap_or zone []

abbrev zoned : List (List Span) → List Bool → Zoned
zoned blocks there = record { blocks = blocks; there = there }

abbrev view_of : List (Option (List Span)) → Zoned
view_of zones = zoned (map blocks_of zones) (map is_some zones)

-- where there is a zone, there is a compartment
within : (tests : List Bool) (i : ℕ) → IsTrue (slice_index_or tests i false) → i < length tests
within tests i there = ⊎_elim (λ low. low)
    (λ past. absurd (false≢true (sym (get_or_past tests i false past) ∙ there))) (cases_lt i (length tests))

-- the zone of a compartment, among all
module _ (zones : List (Option (List Span))) (view : Zoned) (seen : view_of zones ≡ view) (comp i : ℕ) (at : i ≡ comp)
    (had : IsTrue (slice_index_or view.there comp false)) (zone : Option (List Span))
    (value : zone ≡ slice_index_or zones i zone) (spans : List Span) (is : zone ≡ Some spans) where
  inside : comp < length zones
  inside =
      let tests : map is_some zones ≡ view.there = ap (λ (v : Zoned). v.there) seen in
      let had_one = subst (λ (l : List Bool). IsTrue (slice_index_or l comp false)) (sym tests) had in
      subst (λ n. comp < n) (length-map zones is_some) (within (map is_some zones) comp had_one)

  found : slice_index_or zones comp zone ≡ Some spans
  found = ap (λ k. slice_index_or zones k zone) (sym at) ∙ sym value ∙ is

  pub blocks_at : slice_index_or view.blocks comp [] ≡ spans
  blocks_at = sym (ap (λ (v : Zoned). slice_index_or v.blocks comp []) seen) ∙
      get_or-map blocks_of zones comp zone [] inside ∙ ap blocks_of found

  pub blocks_set : (change : List Span → List Span) (changed : List Span) → changed ≡ change spans →
      map blocks_of (slice_set zones i (Some changed)) ≡
      slice_set view.blocks comp (change (slice_index_or view.blocks comp []))
  blocks_set change changed by =
      map-set blocks_of zones i (Some changed) ∙
      ap₂ (λ (l : List (List Span)) (k : ℕ). slice_set l k changed) (ap (λ (v : Zoned). v.blocks) seen) at ∙
      ap (slice_set view.blocks comp) (by ∙ ap change (sym blocks_at))

  pub there_set : (changed : List Span) → map is_some (slice_set zones i (Some changed)) ≡ view.there
  there_set changed =
      map-set_same is_some zones i (Some changed) zone (ap is_some (sym (sym value ∙ is))) ∙
      ap (λ (v : Zoned). v.there) seen

  -- where nothing changes in it, nothing changes
  pub nothing_set : (changed : List Span) → changed ≡ spans → view_of (slice_set zones i (Some changed)) ≡ view
  nothing_set changed same =
      ap₂ zoned
      (map-set_same blocks_of zones i (Some changed) zone (same ∙ ap blocks_of (sym (sym value ∙ is))))
      (map-set_same is_some zones i (Some changed) zone (ap is_some (sym (sym value ∙ is)))) ∙ seen

-- a block that is taken begins within the zone
pub place_within : (spans : List Span) (words : ℕ) (place : Option ℕ) → place ≡ least_free spans words →
    IfSome place (λ p. p ≤ zone_words)
place_within spans words None is = tt
place_within spans words (Some place) is = omega (arith, least_is_within spans words place (sym is))

-- a block that doesn't start anywhere is nowhere
pub none_given : (spans : List Span) (place : ℕ) → starts_at spans place ≡ false → without_span place spans ≡ spans
none_given [] place none = refl
none_given (span ∷ spans) place none = by (span.place == place) none (none_given spans place) where
  by : (here : Bool) → (here || starts_at spans place) ≡ false →
      (starts_at spans place ≡ false → without_span place spans ≡ spans) →
      (if here then spans else span ∷ without_span place spans) ≡ span ∷ spans
  by true h rest = absurd (false≢true (sym h))
  by false h rest = ap (λ others. span ∷ others) (rest h)

-- a compartment with a heap has a zone
heap_at : (comps : List CompPart) (c : ℕ) →
    slice_index_or (map (λ (comp : CompPart). comp.heap) comps) c false ≡
    option_map_or (λ (comp : CompPart). comp.heap) (slice_get comps c) false
heap_at [] c = refl
heap_at (comp ∷ comps) zero = refl
heap_at (comp ∷ comps) (suc c) = heap_at comps c

pub zone_there : (image : ImageParts) (c k : ℕ) (there : List Bool) →
    there ≡ map (λ (comp : CompPart). comp.heap) image.comps → k ≡ c → IsTrue (has_heap image c) →
    IsTrue (slice_index_or there k false)
zone_there image c k there are at has = ap₂ (λ (tests : List Bool) (n : ℕ). slice_index_or tests n false) are at ∙
    heap_at image.comps c ∙ has

-- The block at an address.

starts_nowhere : (c address : ℕ) (spans : List Span) → ((place : ℕ) → zone_start c + 4 * place ≢ address) →
    starts_block c spans address ≡ false
starts_nowhere c address [] none = refl
starts_nowhere c address (span ∷ spans) none =
    ap₂ (λ (x y : Bool). x || y) (ne_eqb _ _ (none span.place)) (starts_nowhere c address spans none)

-- what a free does: no block can start at the address, none does, or one does
module _ (state : MachineState) (c address : ℕ) (active : c ≡ state.active) (some : address ≢ 0) where
  pub free_outside : ((place : ℕ) → zone_start c + 4 * place ≢ address) → Traps BadFree ≡ frees state address
  free_outside none =
      let nowhere : starts_block state.active (zone_of state state.active) address ≡ false =
      starts_nowhere state.active address (zone_of state state.active)
      (subst (λ n. (place : ℕ) → zone_start n + 4 * place ≢ address) active none) in
      rw (ne_eqb address 0 some, nowhere) refl
