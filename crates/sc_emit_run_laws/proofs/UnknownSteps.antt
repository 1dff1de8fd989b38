-- What a step of a compartment comes to, whatever its code is: it touches no data and no zone of other compartments.
use Rattle.sc_emit_run_laws.proofs.Common.{Goes, ImageParts, IsWellFormed, List, Outcome, Owned, Registers, Some, Traps}
use Rattle.sc_emit_run_laws.proofs.Common.{[], ap, ap₂, are_data, arith, export_params, get_or-set_other, length}
use Rattle.sc_emit_run_laws.proofs.Common.{listed, may_input, may_output, on_input, on_output, on_return, refl}
use Rattle.sc_emit_run_laws.proofs.Common.{slice_index, slice_index_or, slice_set, step, step_of, store_size, suc, sym}
use Rattle.sc_emit_run_laws.proofs.Common.{true, with_pc, word, words_from, zero, ℕ, ◌+◌, ◌∙◌, ◌∷◌, ◌≡◌, ◌≢◌}
use Rattle.sc_store.specs.Prelude.{ByteMemory as Bytes, with_bytes}
use Rattle.sc_image.specs.Prelude.{MachineState, on_call, entered_export, may_call_export}
use Rattle.sc_image.proofs.Memory.{allowed_data, one_of}
use Rattle.sc_zone.specs.declared.span.Span.{Span}
use Rattle.sc_base.specs.declared.stop.TrapReason.{TrapReason}
use Rattle.sc_store.proofs.Words.{load_of-same, stored-apart}
use Rattle.sc_image.proofs.Isolation.{apart}

-- MEMORY

-- the words of all other compartments and the blocks of their zones are as they were
pub record KeepsOthers (image : ImageParts) (comp : ℕ) (bytes after : Bytes) (zones later : List (List Span)) :
    Type 0 where
  pub word_is : (k q : ℕ) → comp ≢ k → Owned image k q → word after q ≡ word bytes q
  pub zone_is : (k : ℕ) → comp ≢ k → slice_index_or later k [] ≡ slice_index_or zones k []

-- a store in the own data
stored_else : (image : ImageParts) (comp a size value k q : ℕ) (bytes : Bytes) → IsWellFormed image →
    are_data image comp a size ≡ true → comp ≢ k → Owned image k q →
    word (with_bytes bytes a size value) q ≡ word bytes q
unfolding word
stored_else image comp a size value k q bytes formed mine other owned =
    load_of-same (with_bytes bytes a size value) bytes q 4
    (λ i h. stored-apart bytes a size value (q + i)
    (λ from upto. apart image comp k a size (q + i) formed other mine (one_of image k q 4 i owned.its h) from upto))

-- STEPS

pub data StepIs (image : ImageParts) (inputs : List ℕ) (s : MachineState) (outcome : Outcome) : Type 0 where
  traps : (reason : TrapReason) → outcome ≡ Traps reason → StepIs image inputs s outcome
  moves : (regs : List ℕ) (pc : ℕ) (after : Bytes) (zones : List (List Span)) →
      KeepsOthers image s.active s.memory after s.zones zones →
      outcome ≡ Goes (record s { regs = regs; pc = pc; memory = after; zones = zones }) → StepIs image inputs s outcome
  calls : (to index target : ℕ) → entered_export image to target ≡ Some index → may_call_export image s.active to index
      ≡ true →
      outcome ≡ Goes (on_call s to index (export_params image to index) target) → StepIs image inputs s outcome
  leaves : outcome ≡ Goes (on_return image s s.cross) → StepIs image inputs s outcome
  emits : may_output image s.active ≡ true → outcome ≡ Goes (with_pc (on_output s) (s.pc + 4)) →
      StepIs image inputs s outcome
  reads : may_input image s.active ≡ true → outcome ≡ Goes (with_pc (on_input inputs s) (s.pc + 4)) →
      StepIs image inputs s outcome

pub step_is : (image : ImageParts) (inputs : List ℕ) → IsWellFormed image → (s : MachineState) →
    StepIs image inputs s (step image inputs s)
step_is image inputs formed s = step_of image inputs formed s (StepIs image inputs s) (record {
  same = λ a owned. refl;
  zone = refl;
  traps = λ reason. traps reason refl;
  quiet = λ regs pc is. moves regs pc s.memory s.zones
      (record { word_is = λ k q other owned. refl; zone_is = λ k other. refl }) refl;
  stores = λ op a value allowed. moves s.regs (s.pc + 4) (with_bytes s.memory a (store_size op) value) s.zones
      (record {
        word_is = λ k q other owned. stored_else image s.active a (store_size op) value k q s.memory formed
            (allowed_data image s.active (store_size op) a allowed) other owned;
        zone_is = λ k other. refl;
      }) refl;
  rezones = λ regs pc spans is. moves regs pc s.memory (slice_set s.zones s.active spans)
      (record {
        word_is = λ k q other owned. refl;
        zone_is = λ k other. get_or-set_other s.zones s.active k spans [] (λ same. other (sym same));
      }) refl;
  calls = λ to index target at may. calls to index target at may refl;
  returns = leaves refl;
  outputs = λ may. emits may refl;
  reads = λ may. reads may refl;
})

-- REGISTERS

words_of : (count first : ℕ) (f : Registers) (rest : List ℕ) → length rest ≡ count →
    ((i : ℕ) → f (first + i) ≡ slice_index rest i) → words_from count first f ≡ rest
words_of zero first f [] long is = refl
words_of zero first f (w ∷ rest) long is = absurd (omega (arith, long))
words_of (suc count) first f [] long is = absurd (omega (arith, long))
words_of (suc count) first f (w ∷ rest) long is =
    let here : first ≡ first + 0 = omega arith in
    ap₂ (λ x xs. x ∷ xs) (ap f here ∙ is 0)
    (words_of count (suc first) f rest (omega (arith, long))
    (λ i. (let there : suc first + i ≡ first + suc i = omega arith in ap f there ∙ is (suc i))))

-- any 32 registers, of which x0 is 0, are those of a function
pub listed_is : (regs : List ℕ) → length regs ≡ 32 → slice_index regs 0 ≡ 0 →
    listed (λ r. slice_index regs r) ≡ regs
listed_is [] long first = absurd (omega (arith, long))
listed_is (w ∷ rest) long first =
    ap₂ (λ x xs. x ∷ xs) (sym first)
    (words_of 31 1 (λ r. slice_index (w ∷ rest) r) rest (omega (arith, long)) (λ i. at i))
  where
    at : (i : ℕ) → slice_index (w ∷ rest) (1 + i) ≡ slice_index rest i
    at i = (let there : 1 + i ≡ suc i = omega arith in ap (slice_index (w ∷ rest)) there)
