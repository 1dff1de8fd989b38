-- Without ranges each step of the machine with tags is one of the machine with regions.
use Rattle.sc_tags.proofs.Common.{All, Auipc, Bool, Branch, ByteMemory, Data, Ebreak, Ecall, Fence, Goes, ImageParts}
use Rattle.sc_tags.proofs.Common.{Instr, IsSteadyState, IsWellFormed, IsWord, Jal, Jalr, List, Load, LoadOp, Lui}
use Rattle.sc_tags.proofs.Common.{MachineRun, MachineState, None, Op, OpImm, Option, Outcome, OutcomeOf, RunOf, Shift}
use Rattle.sc_tags.proofs.Common.{Some, Stop, Store, StoreOp, Tagged, TagsAgree, TrapReason, Traps, Upper, [], after}
use Rattle.sc_tags.proofs.Common.{after_outcome, all_tagged, allowed_data, ap, are_data, by_owner, by_tag, comp_of_code}
use Rattle.sc_tags.proofs.Common.{compares, core_of, decoded, entered_export, entry_code, eqb-true, execute, execute_by}
use Rattle.sc_tags.proofs.Common.{extended, false, gives, gives_by, if_decoded, if_fetched, is_some, jalr_target, jump}
use Rattle.sc_tags.proofs.Common.{jump_by, jump_outside, leaves, length, leveled, load_by, load_size, machine, nat_eq}
use Rattle.sc_tags.proofs.Common.{next, next_by, not, plain, refl, refused, reg, run, run_by, some_is, start, step}
use Rattle.sc_tags.proofs.Common.{step_by, stopped, stops_or, store_by, store_size, subst, suc, sym, tag_at, tag_jumps}
use Rattle.sc_tags.proofs.Common.{tag_leaves, tag_machine, tag_run, tag_step, tagged_word, true, unless_trap, with_code}
use Rattle.sc_tags.proofs.Common.{with_stored, word_at, word_loaded, zero, ℕ, ◌%◌, ◌<◌, ◌==◌, ◌∙◌, ◌≡◌}
use Rattle.sc_image.proofs.Reached.{runs_are_steady}
use Rattle.sc_tags.proofs.Lifting.{IsNotOwn, Stands, calls_same, either, environment_same, leaves_same}
use Rattle.sc_tags.proofs.Owners.{data_loaded, data_stored, data_tagged, fetched_same}

module _ (image : ImageParts) (inputs : List ℕ) (formed : IsWellFormed image) where
  abbrev tagged_of : MachineState → Tagged
  tagged_of = leveled (with_code image)

  abbrev StandsFor : Outcome → OutcomeOf Tagged → Type 0
  StandsFor = Stands image (with_code image)

  module _ (state : MachineState) (within : state.active < length image.comps) where
    abbrev tagged : Tagged
    tagged = tagged_of state

    -- Jumps.

    jump_at : (inside : Bool) (rd target : ℕ) (x : Outcome) (x' : OutcomeOf Tagged) →
        (inside ≡ false → StandsFor x x') →
        StandsFor (jump_by plain inside state rd target x) (jump_by core_of inside tagged rd target x')
    jump_at true rd target x x' elsewhere = either StandsFor (not (target % 4 == 0)) _ _ _ _ refl refl
    jump_at false rd target x x' elsewhere =
        either StandsFor (not (target % 4 == 0)) _ x _ x' refl (elsewhere refl)

    jump_same : (rd target : ℕ) (x : Outcome) (x' : OutcomeOf Tagged) →
        (is_some (word_at image state.active target) ≡ false → StandsFor x x') →
        StandsFor (jump image state rd target x)
        (jump_by core_of (is_some (tagged_word image [] tagged.core.active tagged.core.memory target))
        tagged rd target x')
    jump_same rd target x x' elsewhere =
        subst (λ word. StandsFor (jump image state rd target x) (jump_by core_of (is_some word) tagged rd target x'))
        (sym (fetched_same image formed state.memory state.active target))
        (jump_at (is_some (word_at image state.active target)) rd target x x' elsewhere)

    -- an export begins in its compartment's code
    not_own : (target : ℕ) → is_some (word_at image state.active target) ≡ false → IsNotOwn image state target
    not_own target outside = record { other = λ index at. by index at _ refl }
      where
        by : (index : ℕ) → entered_export image (comp_of_code target) target ≡ Some index → (own : Bool) →
            nat_eq (comp_of_code target) state.active ≡ own → own ≡ false
        by index at false is = refl
        by index at true is =
            let word = some_is _ (entry_code image formed (comp_of_code target) target index at) in
            let same = eqb-true (comp_of_code target) state.active is in
            sym (ap is_some word.1) ∙ ap (λ c. is_some (word_at image c target)) same ∙ outside

    calls_there : (rd target : ℕ) → is_some (word_at image state.active target) ≡ false →
        StandsFor (jump_outside image state rd target) (tag_jumps image tagged rd target)
    calls_there rd target outside = calls_same image (with_code image) state rd target (not_own target outside)

    leaves_there : (rd target : ℕ) → is_some (word_at image state.active target) ≡ false →
        StandsFor (leaves image state rd target) (tag_leaves image tagged rd target)
    leaves_there rd target outside = leaves_same image (with_code image) state rd target (not_own target outside)

    -- Loads and stores.

    load_at : (op : LoadOp) (rd a : ℕ) (why : Option TrapReason) → refused image state.active (load_size op) a ≡ why →
        StandsFor (unless_trap why (gives state rd (word_loaded state op a)))
        (unless_trap why (gives_by core_of tagged rd (word_loaded tagged.core op a)))
    load_at op rd a (Some reason) is = refl
    load_at op rd a None is =
        let owned = allowed_data image state.active (load_size op) a is in
        ap (λ word. gives_by core_of tagged rd (extended op word))
        (data_loaded image formed state.memory state.active a (load_size op) owned)

    load_same : (op : LoadOp) (rd a : ℕ) →
        StandsFor (load_by plain (are_data image state.active a (load_size op)) state op rd a)
        (load_by core_of (all_tagged (tag_at image []) (Data state.active) a (load_size op)) tagged op rd a)
    load_same op rd a =
        subst (λ allowed. StandsFor (load_by plain (are_data image state.active a (load_size op)) state op rd a)
        (load_by core_of allowed tagged op rd a)) (sym (data_tagged image formed state.active a (load_size op) within))
        (load_at op rd a _ refl)

    store_at : (op : StoreOp) (a word : ℕ) (why : Option TrapReason) →
        refused image state.active (store_size op) a ≡ why →
        StandsFor (unless_trap why (next (with_stored state op a word)))
        (unless_trap why (next_by core_of tagged (with_stored tagged.core op a word)))
    store_at op a word (Some reason) is = refl
    store_at op a word None is =
        let owned = allowed_data image state.active (store_size op) a is in
        ap (λ (memory : ByteMemory). next_by core_of tagged (record tagged.core { memory = memory }))
        (data_stored image formed state.memory state.active a (store_size op) word owned)

    store_same : (op : StoreOp) (a word : ℕ) →
        StandsFor (store_by plain (are_data image state.active a (store_size op)) state op a word)
        (store_by core_of (all_tagged (tag_at image []) (Data state.active) a (store_size op)) tagged op a word)
    store_same op a word =
        subst (λ allowed. StandsFor (store_by plain (are_data image state.active a (store_size op)) state op a word)
        (store_by core_of allowed tagged op a word))
        (sym (data_tagged image formed state.active a (store_size op) within))
        (store_at op a word _ refl)

    -- The step.

    execute_same : (instr : Instr) →
        StandsFor (execute image inputs state instr) (execute_by (by_tag image [] inputs) tagged instr)
    unfolding execute_by
    execute_same (Upper Lui rd imm) = refl
    execute_same (Upper Auipc rd imm) = refl
    execute_same (Jal rd imm) = jump_same rd _ _ _ (calls_there rd _)
    execute_same (Jalr rd rs1 imm) = jump_same rd _ _ _ (leaves_there rd (jalr_target (reg state rs1) imm))
    execute_same (Branch op rs1 rs2 imm) = either StandsFor (compares op (reg state rs1) (reg state rs2)) _ _ _ _
        (jump_same 0 _ _ _ (λ outside. refl)) refl
    execute_same (Load op rd rs1 imm) = load_same op rd _
    execute_same (Store op rs1 rs2 imm) = store_same op _ _
    execute_same (OpImm op rd rs1 imm) = refl
    execute_same (Shift op rd rs1 amount) = refl
    execute_same (Op op rd rs1 rs2) = refl
    execute_same (Fence imm rs1 rd) = refl
    execute_same Ecall = environment_same image (with_code image) state inputs
    execute_same Ebreak = refl

    decoded_same : (instr : Option Instr) → StandsFor (if_decoded (by_owner image inputs) state instr)
        (if_decoded (by_tag image [] inputs) tagged instr)
    decoded_same None = refl
    decoded_same (Some instr) = execute_same instr

    word_same : (word : Option ℕ) → StandsFor (if_fetched (by_owner image inputs) state word)
        (if_fetched (by_tag image [] inputs) tagged word)
    word_same None = refl
    word_same (Some word) = decoded_same (decoded word)

    step_same : StandsFor (step image inputs state) (tag_step image [] inputs tagged)
    unfolding step_by
    step_same = ap (if_fetched (by_tag image [] inputs) tagged)
        (fetched_same image formed state.memory state.active state.pc) ∙ word_same _

  -- Runs.

  abbrev run_of : MachineRun → RunOf Tagged
  run_of run = record { state = tagged_of run.state; stop = run.stop }

  -- each next state is steady, too
  steady_next : All IsWord inputs → (state next : MachineState) → IsSteadyState image state →
      step image inputs state ≡ Goes next → IsSteadyState image next
  steady_next words state next steady goes =
      subst (λ outcome. IsSteadyState image (after_outcome state outcome)) goes
      (runs_are_steady.step image inputs state formed words steady)

  module _ (events : ℕ) (words : All IsWord inputs) where
    after_same : (state : MachineState) (outcome : Outcome)
        (tag_outcome : OutcomeOf Tagged) → StandsFor outcome tag_outcome →
        (go : MachineState → MachineRun) (tag_go : Tagged → RunOf Tagged) →
        ((next : MachineState) → outcome ≡ Goes next → tag_go (tagged_of next) ≡ run_of (go next)) →
        after state.pc (tagged_of state) tag_outcome tag_go ≡ run_of (after state.pc state outcome go)
    after_same state (Goes next) tag_outcome is go tag_go later =
        ap (λ o. after state.pc (tagged_of state) o tag_go) is ∙ later next refl
    after_same state (Traps reason) tag_outcome is go tag_go later =
        ap (λ o. after state.pc (tagged_of state) o tag_go) is

    stop_same : (early : Option Stop) (state : MachineState) (later : MachineRun) (tag_later : RunOf Tagged) →
        tag_later ≡ run_of later → stops_or early (tagged_of state) tag_later ≡ run_of (stops_or early state later)
    stop_same None state later tag_later same = same
    stop_same (Some stop) state later tag_later same = refl

    runs_same : (steps : ℕ) (state : MachineState) → IsSteadyState image state →
        tag_run image [] inputs events steps (tagged_of state) ≡ run_of (run image inputs events steps state)
    unfolding run_by
    runs_same zero state steady = stop_same (stopped events state.trace) state _ _ refl
    runs_same (suc steps) state steady = stop_same (stopped events state.trace) state _ _
        (after_same state _ _ (step_same state steady.active) _ _
        (λ next goes. runs_same steps next (steady_next words state next steady goes)))

pub machines_same : (image : ImageParts) (inputs : List ℕ) (formed : IsWellFormed image) (steps events : ℕ) →
    All IsWord inputs →
    tag_machine image [] inputs steps events ≡ run_of image inputs formed (machine image inputs steps events)
machines_same image inputs formed steps events words =
    runs_same image inputs formed events words steps (start image) (runs_are_steady.first image formed)

pub tags_agree : TagsAgree
tags_agree = record {
  trace = λ image inputs steps events formed words.
      ap (λ run. run.state.core.trace) (machines_same image inputs formed steps events words);
  stop = λ image inputs steps events formed words.
      ap (λ run. run.stop) (machines_same image inputs formed steps events words);
}
