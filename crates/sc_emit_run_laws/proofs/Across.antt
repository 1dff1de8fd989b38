-- A call of a function of another compartment: its step, whoever calls and whoever is called.
use Rattle.sc_emit_run_laws.proofs.Common.{All, AreFloors, ArePassed, Call, Crossing, Export, IsWellFormed, IsWord}
use Rattle.sc_emit_run_laws.proofs.Common.{Joint, List, Setting, Settled, Standpoint, Value, Walks, [], arguments}
use Rattle.sc_emit_run_laws.proofs.Common.{cleared_for_call, emit_event, export_params, false, gate, is_word, length}
use Rattle.sc_emit_run_laws.proofs.Common.{list_all, listed, machine, map, ra, slice_index, slice_set, sp, subst, suc}
use Rattle.sc_emit_run_laws.proofs.Common.{true, word_in, written, ℕ, ◌++◌, ◌+◌, ◌∷◌, ◌≡◌, ◌≢◌, ◌≤◌}
use Rattle.sc_image.specs.Prelude.{MachineState, on_call, may_call_export}
use Rattle.sc_emit_run_laws.proofs.Crossing.{arguments_are, called_listed, called_regs}
use Rattle.sc_emit_run_laws.proofs.Turning.{turned}

module _ (T : Setting) (formed : IsWellFormed T.image) (inputs : All IsWord T.inputs) (P : Standpoint) (x : Joint)
    (to index : ℕ) (args : List Value) where
  -- the call that is open then
  abbrev pub opened : Crossing
  opened = record {
    caller = P.comp;
    pc = x.pc + 4;
    sp = x.regs sp;
    callee = to;
    entry = Export index;
    saved = slice_index x.saved to;
  }

  -- the callee sees what its own calls before have left of its stack
  abbrev pub seen_across : Standpoint
  seen_across = record { comp = to; cross = opened ∷ P.cross; bound = P.floor to; floor = P.floor }

  abbrev Q : Standpoint
  Q = seen_across

  abbrev params : ℕ
  params = length args

  -- the call is emitted, and control is at an address of the callee, with words only in the registers of arguments
  abbrev pub across : (turns pc : ℕ) → Joint
  across turns pc = record x {
    meant = emit_event (Call P.comp to index (map word_in args)) (turned turns x.meant);
    pc = pc;
    regs = called_regs params (slice_index x.saved to) x.regs;
    saved = slice_set x.saved P.comp (x.regs sp);
  }

  -- what the machine does at a call, on both sides
  module _ (turns entry : ℕ) (takes : export_params T.image to index ≡ params) (few_args : params ≤ 8)
      (all : list_all is_word args ≡ true) (passed : ArePassed (x.inj P.comp) x.regs args) where
    -- with these registers, and these words in the event
    abbrev built : List ℕ → List ℕ → MachineState
    built regs timed = record {
      regs = regs;
      pc = entry;
      active = to;
      saved = slice_set x.saved P.comp (x.regs sp);
      zones = x.zones;
      memory = x.bytes;
      cross = opened ∷ P.cross;
      input = x.input;
      trace = x.meant.trace ++ Call P.comp to index timed ∷ [];
    }

    pub walks_called :
        Walks T.image T.inputs 1 (machine P x) (on_call (machine P x) to index (export_params T.image to index) entry) →
        Walks T.image T.inputs 1 (machine P x) (machine Q (across turns entry))
    walks_called goes =
        let low : ℕ = slice_index x.saved to in
        let regs : List ℕ = listed x.regs in
        subst (λ timed. Walks T.image T.inputs 1 (machine P x) (built (listed (called_regs params low x.regs)) timed))
        (arguments_are (x.inj P.comp) args x.regs few_args all passed)
        (subst (λ list. Walks T.image T.inputs 1 (machine P x) (built list (arguments params regs)))
        (called_listed params low x.regs)
        (subst (λ n. Walks T.image T.inputs 1 (machine P x)
        (built (written (written (cleared_for_call n regs) ra gate) sp low) (arguments n regs))) takes goes))

  -- the call is made: its step, and what is so before it
  pub record IsMade (turns entry : ℕ) : Type 0 where
    pub goes :
        Walks T.image T.inputs 1 (machine P x) (on_call (machine P x) to index (export_params T.image to index) entry)
    pub may : may_call_export T.image P.comp to index ≡ true
    pub takes : export_params T.image to index ≡ length args
    pub few_args : length args ≤ 8
    pub all : list_all is_word args ≡ true
    pub passed : ArePassed (x.inj P.comp) x.regs args
    pub turn : x.meant.turns ≡ suc turns
    pub settled : Settled T P x
    pub floors : AreFloors T.performs P.floor
    -- a caller that runs its code has its floor in sp
    pub level : (k : ℕ) → T.performs k ≡ false → k ≡ P.comp → x.regs sp ≡ P.floor k
    -- what lies above lies above the floor
    pub over : (k q : ℕ) → T.performs k ≡ false → (k ≡ P.comp → P.bound ≤ q) → (k ≢ P.comp → P.floor k ≤ q) →
        P.floor k ≤ q
