-- Helping: what functions do, with all that they call, is followed by their code; what those of compartments that
-- perform do, by whatever code these have.
use Rattle.sc_emit_run_laws.specs.Common.{AreFloors, ArePassed, Begins, CallGives, CallStands, Calls, Cross, Crossing}
use Rattle.sc_emit_run_laws.specs.Common.{Emits, Event, FunctionGives, Goes, ImageParts, IsBase, Joint, Leads, Main}
use Rattle.sc_emit_run_laws.specs.Common.{Overflows, Piece, Reached, Roles, Setting, Settled, Standpoint}
use Rattle.sc_emit_run_laws.specs.Common.{State as Meant, Stopped, TacFnTree, TacTree, Value, Walks, Word, a0, and_then}
use Rattle.sc_emit_run_laws.specs.Common.{begun, calls, code_denotations, code_function, done, has_result, option_value}
use Rattle.sc_emit_run_laws.specs.Common.{passes_words, on_return, sp, start, step, wrapping}
use Rattle.sc_image.specs.Prelude.{MachineState}
use Rattle.sc_emit_relation.specs.Prelude.{machine}
use Rattle.std.specs.Prelude.{◌≡◌, ℕ, ◌<◌, ◌⊎◌, true, false, List, [], ◌∷◌, length, IsTrue, Option, None, Some}
use Rattle.std.specs.Prelude.{slice_get, if◌then◌else◌}
use Rattle.sc_event.specs.declared.row.Entry.{Entry}
use Rattle.sc_emit_run_laws.specs.Linked.{functions_in}
use Rattle.sc_emit_run_laws.specs.Results.{bodies}

-- the entry by which the active function was entered from outside
abbrev pub entered_by : List Crossing → Entry
entered_by [] = Main
entered_by (x ∷ xs) = x.entry

-- what it gives, with this word in a0
abbrev pub departing : ImageParts → ℕ → List Crossing → Option Value
departing image w [] = Some (Word w)
departing image w (x ∷ xs) = option_value (if has_result image x.callee x.entry then Some w else None)

-- some steps from its start, the machine has emitted these events
pub record HasEmitted (image : ImageParts) (inputs : List ℕ) (trace : List Event) : Type 0 where
  pub steps : ℕ
  pub last : MachineState
  pub walks : Walks image inputs steps (start image) last
  pub trace_is : last.trace ≡ trace

module _ (program : TacTree) (roles : Roles) where
  -- what calls do whose functions may have at most `open_calls` calls open
  abbrev pub calls_of : (open_calls : ℕ) → Calls
  calls_of open_calls = calls (code_denotations wrapping program) (bodies program roles open_calls)

  -- a function from the beginning of its variables and its frame to their end
  abbrev pub ran : (open_calls comp number : ℕ) → TacFnTree → List Value → Meant → Piece (Option Value)
  ran open_calls comp number f args s =
      and_then (bodies program roles open_calls number (record { comp = comp; first = length (s.memory comp) })
      (begun comp (code_function wrapping f) args s))
      (λ v t. Reached v (done comp (code_function wrapping f) (length (s.memory comp)) t))

  module _ (T : Setting) where
    -- it is followed by its code, which takes fewer steps than a turn pays for
    abbrev pub IsRun : (open_calls number : ℕ) → TacFnTree → Standpoint → Joint → List Value → (ra_is : ℕ) → Type 0
    IsRun open_calls number f P x args ra_is =
        (budget : ℕ) × ((budget < T.turn_pays) ×
        (FunctionGives T P x budget ra_is (ran open_calls P.comp number f args x.meant)
        ⊎ Overflows T P x budget (ran open_calls P.comp number f args x.meant)))

    abbrev pub BodiesFollow : (open_calls : ℕ) → Type 0
    BodiesFollow open_calls =
        (P : Standpoint) (x : Joint) (number : ℕ) (f : TacFnTree) (args : List Value) (ra_is : ℕ) →
        slice_get (functions_in program P.comp) number ≡ Some f → IsTrue (passes_words f.params f.objects) →
        length args ≡ f.params →
        Begins T P (code_function wrapping f) args ((T.addresses P.comp).function number) ra_is x →
        IsRun open_calls number f P x args ra_is

    -- WHAT PERFORMS

    -- the machine is in a compartment that performs, wherever in its code that may be; its active function was entered
    -- from outside, and this is the number of it
    pub record IsUnknown (P : Standpoint) (x : Joint) (number : ℕ) : Type 0 where
      pub performs : roles.scripted P.comp ≡ true
      pub settled : Settled T P x
      pub floors : AreFloors T.performs P.floor
      pub entered : (code_denotations wrapping program).entered P.comp (entered_by P.cross) ≡ Some number

    -- it stands before the step that leaves the active function with a value
    pub record Departs (P : Standpoint) (x : Joint) (v : Option Value) (meant : Meant) : Type 0 where
      pub y : Joint
      pub meant_is : y.meant ≡ meant
      pub goes : step T.image T.inputs (machine P y) ≡ Goes (on_return T.image (machine P y) P.cross)
      pub value : v ≡ departing T.image (y.regs a0) P.cross
      pub leads : Leads T P x y 0 0
      pub settled : Settled T P y

    abbrev pub UnknownGives : Standpoint → Joint → Piece (Option Value) → Type 0
    UnknownGives P x (Reached v s) = Departs P x v s
    UnknownGives P x (Stopped end s) = Emits T P x 0 s

    abbrev pub UnknownComes : Standpoint → Joint → Piece (Option Value) → Type 0
    UnknownComes P x piece = UnknownGives P x piece ⊎ Overflows T P x 0 piece

    -- functions of compartments that perform are followed, at their beginning and after each call
    abbrev pub PerformersDo : (open_calls : ℕ) → Type 0
    PerformersDo open_calls =
        (P : Standpoint) (x : Joint) (number first : ℕ) → IsUnknown P x number →
        UnknownComes P x (bodies program roles open_calls number (record { comp = P.comp; first = first }) x.meant)

    -- calls of compartments that perform are followed, whatever code these have
    abbrev pub PerformersFollow : (open_calls : ℕ) → Type 0
    PerformersFollow open_calls =
        (P : Standpoint) (x : Joint) (to index : ℕ) (args : List Value) → T.performs P.comp ≡ false →
        roles.scripted to ≡ true → T.makes P.comp (Cross to index) (length args) ≡ true → Settled T P x → IsBase T P →
        x.regs sp ≡ P.bound → ArePassed (x.inj P.comp) x.regs args → CallStands T P x (Cross to index) →
        CallGives T P x (Cross to index) (calls_of open_calls P.comp (Cross to index) args x.meant)
        ⊎ Overflows T P x 1 (calls_of open_calls P.comp (Cross to index) args x.meant)
