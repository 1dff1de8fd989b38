-- What the code of a function follows, where the calls in it are followed.
use Rattle.sc_emit_relation.specs.Common.{CallTarget, Calls, Ecall, Fetches, Function, Goes, Jal, Jalr, Piece, Reached}
use Rattle.sc_emit_relation.specs.Common.{State as Meant, Stopped, Value, a0, a7, and_then, begun, done, jalr_target}
use Rattle.sc_emit_relation.specs.Common.{look, ra, sp, stack_top, word_at}
use Rattle.sc_word.specs.Prelude.{add_word, word_of}
use Rattle.std.specs.Prelude.{◌≡◌, ◌≢◌, ℕ, ◌+◌, ◌%◌, ◌<◌, ◌≤◌, ◌⊎◌, ℤ, pos, Bool, true, false, List, length, Option}
use Rattle.std.specs.Prelude.{Some, slice_get, IsSome}
use Rattle.sc_core.specs.declared.expr.CallTarget.TheVariants.{Own, Cross, Input, Output}
use Rattle.sc_emit_relation.specs.Blocks.{StandsFor}
use Rattle.sc_emit_relation.specs.Frames.{AreFloors}
use Rattle.sc_emit_relation.specs.Stretches.{Setting, Joint, Standpoint, Settled, Leads, Emits, Overflows, ReturnsValue}

-- a call of the environment
abbrev pub of_environment : CallTarget → Bool
of_environment (Own number) = false
of_environment (Cross to index) = false
of_environment Input = true
of_environment Output = true

-- it comes back with a value, or the meaning ends
abbrev pub GivesValue : Piece (Option Value) → Type 0
GivesValue (Reached v s) = IsSome v
GivesValue (Stopped end s) = Unit {0}

-- arguments, the first in a0
abbrev pub ArePassed : (ℕ → Option ℕ) → (ℕ → ℕ) → List Value → Type 0
ArePassed place regs args = (i : ℕ) (v : Value) → slice_get args i ≡ Some v → StandsFor place (regs (a0 + i)) v

module _ (T : Setting) where
  -- calls of a compartment whose latest frame, or the top of whose stack, this is
  pub record IsBase (P : Standpoint) : Type 0 where
    pub floor : P.floor P.comp ≡ P.bound
    pub aligned : P.bound % 4 ≡ 0
    pub high : P.bound ≤ stack_top P.comp
    pub floors : AreFloors T.performs P.floor

  -- Calls, as the code sees them that makes them.

  -- a call came back: with a value in a0, and the rest as it was. The environment leaves all registers but that one
  pub record ComesBack (P : Standpoint) (x : Joint) (target : CallTarget) (v : Option Value) (meant : Meant) :
      Type 0 where
    pub y : Joint
    pub meant_is : y.meant ≡ meant
    pub pc : y.pc ≡ x.pc + 4
    pub sp : y.regs sp ≡ x.regs sp
    pub value : ReturnsValue T (y.inj P.comp) (y.regs a0) v
    pub registers : of_environment target ≡ true → (q : ℕ) → q ≢ a0 → y.regs q ≡ x.regs q
    pub leads : Leads T P x y 1 0
    pub settled : Settled T P y

  abbrev pub CallGives : Standpoint → Joint → CallTarget → Piece (Option Value) → Type 0
  CallGives P x target (Reached v s) = ComesBack P x target v s
  CallGives P x target (Stopped end s) = Emits T P x 1 s

  -- the instruction of a call of each kind, at the pc; after that of an own function there is code, to come back to
  abbrev pub CallStands : Standpoint → Joint → CallTarget → Type 0
  CallStands P x (Own number) =
      (imm : ℤ) × Fetches T.image P.comp x.pc (Jal ra imm) ×
      (add_word x.pc (word_of imm) ≡ (T.addresses P.comp).function number) × IsSome (word_at T.image P.comp (x.pc + 4))
  CallStands P x (Cross to index) =
      (rs : ℕ) × ((imm : ℤ) × Fetches T.image P.comp x.pc (Jalr ra rs imm) × (rs < 32) ×
      (jalr_target (look x.regs rs) imm ≡ (T.addresses P.comp).entry to index))
  CallStands P x Input = Fetches T.image P.comp x.pc Ecall × (x.regs a7 ≡ 1)
  CallStands P x Output = Fetches T.image P.comp x.pc Ecall × (x.regs a7 ≡ 2)

  -- the calls of compartments are followed, wherever their code makes them
  pub record CallsFollow (calls : Calls) : Type 0 where
    pub answers : (comp : ℕ) (target : CallTarget) (args : List Value) (s : Meant) → T.gives comp target ≡ true →
        GivesValue (calls comp target args s)
    pub goes : (comp : ℕ) (target : CallTarget) (args : List Value) → Goes (calls comp target args)
    pub follow : (P : Standpoint) (x : Joint) (target : CallTarget) (args : List Value) →
        T.performs P.comp ≡ false → T.makes P.comp target (length args) ≡ true → Settled T P x → IsBase P →
        x.regs sp ≡ P.bound →
        ArePassed (x.inj P.comp) x.regs args → CallStands P x target →
        CallGives P x target (calls P.comp target args x.meant) ⊎ Overflows T P x 1 (calls P.comp target args x.meant)

  -- Functions.

  -- what a call of a function begins with: sp is the frame of its compartment's call before, or the top of its stack,
  -- and ra is where it returns to
  pub record Begins (P : Standpoint) (f : Function) (args : List Value) (address ra_is : ℕ) (x : Joint) : Type 0 where
    pub honest : T.performs P.comp ≡ false
    pub settled : Settled T P x
    pub base : IsBase P
    pub pc : x.pc ≡ address
    pub sp : x.regs sp ≡ P.bound
    pub ra : x.regs ra ≡ ra_is
    pub passed : ArePassed (x.inj P.comp) x.regs args

  -- it stands at the jump back: its frame has gone, and a0 has its value
  pub record IsLeft (P : Standpoint) (x : Joint) (budget ra_is : ℕ) (v : Option Value) (meant : Meant) : Type 0 where
    pub y : Joint
    pub meant_is : y.meant ≡ meant
    pub jump : Fetches T.image P.comp y.pc (Jalr 0 ra (pos 0))
    pub ra : y.regs ra ≡ ra_is
    pub sp : y.regs sp ≡ P.bound
    pub value : ReturnsValue T (y.inj P.comp) (y.regs a0) v
    pub leads : Leads T P x y budget 1
    pub settled : Settled T P y

  abbrev pub FunctionGives : Standpoint → Joint → (budget ra_is : ℕ) → Piece (Option Value) → Type 0
  FunctionGives P x budget ra_is (Reached v s) = IsLeft P x budget ra_is v s
  FunctionGives P x budget ra_is (Stopped end s) = Emits T P x budget s

  -- what a call of it does after its event, if it has one: its variables and frame begin, it runs, and they end
  abbrev pub runs_with : Calls → ℕ → Function → List Value → Meant → Piece (Option Value)
  runs_with calls comp f args s =
      and_then (f.does calls (record { comp = comp; first = length (s.memory comp) }) (begun comp f args s))
      (λ v t. Reached v (done comp f (length (s.memory comp)) t))

  -- code at an address follows a function
  abbrev pub FunctionFollows : (comp address budget params : ℕ) → Function → Type 0
  FunctionFollows comp address budget params f =
      (calls : Calls) → CallsFollow calls → (P : Standpoint) (x : Joint) (args : List Value) (ra_is : ℕ) →
      P.comp ≡ comp → length args ≡ params → Begins P f args address ra_is x →
      FunctionGives P x budget ra_is (runs_with calls comp f args x.meant)
      ⊎ Overflows T P x budget (runs_with calls comp f args x.meant)
