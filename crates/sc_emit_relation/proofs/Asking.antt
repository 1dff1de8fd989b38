-- Environment calls of the heap: one step of the machine each.
use Rattle.sc_emit_relation.proofs.Common.{ByteMemory as Bytes, ImageParts, List, Option, Registers, Some, Walks, ℕ, []}
use Rattle.sc_emit_relation.proofs.Common.{ap, ap₂, arith, cases_eq, eq-eqb, false, nat_eq, ne_eqb, put, refl, step}
use Rattle.sc_emit_relation.proofs.Common.{sym, true, ⊎_elim, ◌*◌, ◌+◌, ◌-◌, ◌∙◌, ◌∷◌, ◌≡◌}
use Rattle.std.specs.Prelude.{slice_index_or, slice_set, ◌/◌, ◌||◌}
use Rattle.sc_emit_hart.proofs.Registers.{read_listed, write_listed}
use Rattle.sc_emit_hart.specs.Prelude.{Fetches, World, at}
use Rattle.sc_emit_select.specs.Prelude.{a0, a7}
use Rattle.rv_code.specs.declared.instr.Instr.TheVariants.{Ecall}
use Rattle.rv_code.specs.Registers.{a1}
use Rattle.sc_image.proofs.Running.{steps_by_instruction}
use Rattle.sc_image.proofs.Stretches.{stretches_compose}
use Rattle.sc_image.specs.Prelude.{Goes, IsAt, MachineState, has_heap, on_alloc, reg, starts_block, zone_address}
use Rattle.sc_image.specs.Prelude.{zone_start}
use Rattle.sc_image.specs.Step.{frees, next}
use Rattle.sc_zone.specs.Prelude.{starts_at, taken, without_span}
unfoldable use Rattle.sc_zone.specs.Prelude.{least_free}
use Rattle.sc_zone.specs.declared.span.Span.{Span}

module _ (image : ImageParts) (inputs : List ℕ) (state : MachineState) (is : IsAt image state Ecall)
    (heap : has_heap image state.active ≡ true) where
  allocates : reg state a7 ≡ 3 → step image inputs state ≡ next (on_alloc state (reg state a0 * reg state a1))
  allocates asked = steps_by_instruction.ecall image inputs state is ∙ rw (asked, heap) refl

  frees_it : reg state a7 ≡ 4 → step image inputs state ≡ frees state (reg state a0)
  frees_it asked = steps_by_instruction.ecall image inputs state is ∙ rw (asked, heap) refl

-- a block starts at the address of its place
starts_there : (c : ℕ) (spans : List Span) (place : ℕ) → starts_at spans place ≡ true →
    starts_block c spans (zone_address c (Some place)) ≡ true
starts_there c [] place is = cc is
starts_there c (s ∷ spans) place is =
    let later : (starts_at spans place ≡ true → starts_block c spans (zone_address c (Some place)) ≡ true) =
    starts_there c spans place in
    ⊎_elim
    (λ e. ap (λ b. b || starts_block c spans (zone_address c (Some place)))
    (eq-eqb (zone_address c (Some s.place)) (zone_address c (Some place)) (ap (λ p. zone_address c (Some p)) e)))
    (λ n. ap (λ b. b || starts_block c spans (zone_address c (Some place)))
    (ne_eqb (zone_address c (Some s.place)) (zone_address c (Some place)) (λ e. n (omega (arith, e)))) ∙
    later (sym (ap (λ b. b || starts_at spans place) (ne_eqb s.place place n)) ∙ is))
    (cases_eq s.place place)

module _ (image : ImageParts) (inputs : List ℕ) (pc : ℕ) (regs : Registers) (bytes : Bytes) (world : World)
    (asks : Fetches image world.active pc Ecall) (heap : has_heap image world.active ≡ true) where
  abbrev here : MachineState
  here = at pc regs bytes world

  is_at : IsAt image here Ecall
  is_at = record { word = asks.word; fetched = asks.fetched; decodes = asks.decodes }

  -- the blocks of its zone
  abbrev pub zone : List Span
  zone = slice_index_or world.zones world.active []

  -- the world with other ones
  abbrev pub world_with : List Span → World
  world_with spans = record world { zones = slice_set world.zones world.active spans }

  abbrev pub found_for : (words : ℕ) → Option ℕ
  found_for words = least_free zone words

  module _ (count words : ℕ) (asked : regs a7 ≡ 3) (count_is : regs a0 ≡ count) (words_is : regs a1 ≡ words) where
    abbrev many : ℕ
    many = count * words

    product : reg here a0 * reg here a1 ≡ many
    product =
        ap₂ (λ m n. m * n) (read_listed regs a0 (omega arith) ∙ count_is) (read_listed regs a1 (omega arith) ∙ words_is)

    pub alloc_walks : Walks image inputs 1 here (at (pc + 4) (put regs a0 (zone_address world.active (found_for many)))
        bytes (world_with (taken many (found_for many) zone)))
    alloc_walks = stretches_compose.one_step image inputs here _
        (allocates image inputs here is_at heap (read_listed regs a7 (omega arith) ∙ asked) ∙
        ap (λ n. next (on_alloc here n)) product ∙
        ap (λ list. Goes (record (at (pc + 4) regs bytes (world_with (taken many (found_for many) zone))) {
          regs
              = list;
        })) (write_listed regs a0 (zone_address world.active (found_for many)) (omega arith)))

  module _ (asked : regs a7 ≡ 4) where
    frees_there : (a : ℕ) → regs a0 ≡ a → step image inputs here ≡ frees here a
    frees_there a is =
        frees_it image inputs here is_at heap (read_listed regs a7 (omega arith) ∙ asked) ∙
        ap (frees here) (read_listed regs a0 (omega arith) ∙ is)

    -- nothing is freed
    pub null_walks : regs a0 ≡ 0 → Walks image inputs 1 here (at (pc + 4) regs bytes world)
    null_walks is = stretches_compose.one_step image inputs here _ (frees_there 0 is)

    module _ (place : ℕ) (is : regs a0 ≡ zone_address world.active (Some place)) (there : starts_at zone place ≡ true)
      where
        not_null : nat_eq (zone_address world.active (Some place)) 0 ≡ false
        not_null = ne_eqb (zone_address world.active (Some place)) 0 (λ e. absurd (omega (arith, e)))

        place_is : (zone_address world.active (Some place) - zone_start world.active) / 4 ≡ place
        place_is = omega arith

        frees_goes : frees here (zone_address world.active (Some place)) ≡
            Goes (at (pc + 4) regs bytes (world_with
            (without_span ((zone_address world.active (Some place) - zone_start world.active) / 4) zone)))
        frees_goes = rw (not_null, starts_there world.active zone place there) refl

        pub free_walks : Walks image inputs 1 here (at (pc + 4) regs bytes (world_with (without_span place zone)))
        free_walks = stretches_compose.one_step image inputs here _
            (frees_there (zone_address world.active (Some place)) is ∙ frees_goes ∙
            ap (λ place. Goes (at (pc + 4) regs bytes (world_with (without_span place zone)))) place_is)
