-- Runs of the machine with tags, step by step and call by call.
use Rattle.sc_tags.proofs.Common.{Goes, ImageParts, List, None, RunOf, Some, Stop}
use Rattle.sc_tags.proofs.Common.{TagRange, Tagged, TrapReason, Traps, [], ap}
use Rattle.sc_tags.proofs.Common.{by_tag, stopped, suc, sym, tag_machine, tag_run, tag_start, tag_step, ℕ, ◌∙◌, ◌∷◌}
use Rattle.sc_tags.proofs.Common.{◌≡◌}
use Rattle.sc_base.specs.declared.stop.Stop.TheVariants.{StepsOut, Trap}
use Rattle.sc_image.proofs.Running.{going_run, more_run, out_run, stopped_run, trapped_run}
use Rattle.sc_image.specs.Prelude.{continued, start, start_memory}
use Rattle.sc_machine.specs.Prelude.{state_in}
use Rattle.sc_machine.specs.declared.hart.Hart.{Hart}
use Rattle.sc_tags.proofs.Common.{ByteMemory, MachineState, ap₂}
use Rattle.sc_tags.specs.Levels.{with_levels}
use Rattle.sc_tags.specs.Prelude.{first_bytes}
use Rattle.sc_tags.specs.TagHart.{tagged_in}
use Rattle.sc_tags.specs.Progress.{tag_loaded}
use Rattle.std.proofs.Common.{add-zero, add_assoc, fold, sum, zero-add, ◌++◌, ◌+◌}
use Rattle.std.proofs.lemmas.List.Sums.{fold-append, sum_by-cons}

module _ (image : ImageParts) (ranges : List TagRange) (inputs : List ℕ) (events : ℕ) where
  abbrev runs : ℕ → Tagged → RunOf Tagged
  runs = tag_run image ranges inputs events

  pub run_stops : (n : ℕ) (tagged : Tagged) (stop : Stop) → stopped events tagged.core.trace ≡ Some stop →
      runs n tagged ≡ record { state = tagged; stop = stop }
  run_stops = stopped_run (by_tag image ranges inputs) events

  pub run_ends : (n : ℕ) (tagged : Tagged) → n ≡ 0 → stopped events tagged.core.trace ≡ None →
      runs n tagged ≡ record { state = tagged; stop = StepsOut }
  run_ends n tagged none early = rw none (out_run (by_tag image ranges inputs) events tagged early)

  -- one of the steps that are left
  pub run_trapped : (left n : ℕ) (tagged : Tagged) (reason : TrapReason) → left ≡ suc n →
      stopped events tagged.core.trace ≡ None → Traps reason ≡ tag_step image ranges inputs tagged →
      runs left tagged ≡ record { state = tagged; stop = Trap reason tagged.core.pc }
  run_trapped left n tagged reason more early is =
      rw more (trapped_run (by_tag image ranges inputs) events n tagged reason early (sym is))

  pub run_gone : (left n : ℕ) (tagged next : Tagged) → left ≡ suc n → stopped events tagged.core.trace ≡ None →
      Goes next ≡ tag_step image ranges inputs tagged → runs left tagged ≡ runs n next
  run_gone left n tagged next more early is =
      rw more (going_run (by_tag image ranges inputs) events n tagged next early (sym is))

  -- Calls.

  abbrev calls : List ℕ → RunOf Tagged → RunOf Tagged
  calls steps from = fold (λ earlier more. continued (runs more) earlier) from steps

  later_calls : (n : ℕ) (more : List ℕ) (tagged : Tagged) → calls more (runs n tagged) ≡ runs (n + sum more) tagged
  later_calls n [] tagged = ap (λ k. runs k tagged) (sym (add-zero n))
  later_calls n (m ∷ more) tagged =
      ap (calls more) (sym (more_run (by_tag image ranges inputs) events m n tagged)) ∙
      later_calls (n + m) more tagged ∙
      ap (λ k. runs k tagged) (add_assoc n m _ ∙ ap (λ k. n + k) (sym (sum_by-cons _ m more)))

  pub called_again : (steps : ℕ) (old new : RunOf Tagged) → new ≡ continued (runs steps) old →
      (earlier : List ℕ) → old ≡ calls earlier (tag_loaded image) →
      new ≡ calls (earlier ++ steps ∷ []) (tag_loaded image)
  called_again steps old new is earlier made = is ∙ ap (continued (runs steps)) made ∙
      sym (fold-append _ (tag_loaded image) earlier (steps ∷ []))

  pub sum_of_calls : (steps : ℕ) (old new : RunOf Tagged) → new ≡ continued (runs steps) old →
      (earlier : List ℕ) → old ≡ calls earlier (tag_loaded image) →
      new ≡ tag_machine image ranges inputs (sum earlier + steps) events
  sum_of_calls steps old new is [] made = is ∙ ap (continued (runs steps)) made ∙
      ap (λ k. runs k (tag_start image)) (sym (zero-add steps))
  sum_of_calls steps old new is (first ∷ more) made =
      is ∙ ap (continued (runs steps)) (made ∙ later_calls first more (tag_start image)) ∙
      sym (more_run (by_tag image ranges inputs) events steps (first + sum more) (tag_start image)) ∙
      ap (λ k. runs (k + steps) (tag_start image)) (sym (sum_by-cons _ first more))

-- The start, as it is loaded.
pub start_tagged : (image : ImageParts) (hart : Hart) (memory : ByteMemory) →
    state_in (start_memory image) hart ≡ start image → memory ≡ first_bytes image →
    tagged_in memory hart ≡ tag_start image
start_tagged image hart memory is bytes =
    ap₂ (λ (state : MachineState) (m : ByteMemory). with_levels (record state { memory = m })) is bytes
