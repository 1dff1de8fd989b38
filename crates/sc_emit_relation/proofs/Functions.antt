-- What comes of a call of a function, from what comes of its body; and of one whose frame goes below the stack.
use Rattle.sc_emit_relation.proofs.Common.{All, Begins, ByteMemory as Bytes, Emits, FrameFits, FrameTree, Function}
use Rattle.sc_emit_relation.proofs.Common.{FunctionGives, Grown, IsFrame, IsWellFormed, IsWord, Joint, List, Option}
use Rattle.sc_emit_relation.proofs.Common.{Overflows, Piece, Place, Plan, Reached, Registers, Returns, Running, Setting}
use Rattle.sc_emit_relation.proofs.Common.{Some, Standpoint, State as Meant, Stopped, Traps, Value, Walks, and_then, ap}
use Rattle.sc_emit_relation.proofs.Common.{arith, begun, data_start, done, done_goes, inl, inr, last, length, machine}
use Rattle.sc_emit_relation.proofs.Common.{more, reached, seen_from, slice_get, stack_depth, stack_size, step, subst}
use Rattle.sc_emit_relation.proofs.Common.{sym, then_from, then_go, ℕ, ⊎_elim, ◌+◌, ◌<◌, ◌∙◌, ◌≡◌, ◌≤◌, ◌⊎◌}
use Rattle.sc_image.specs.Prelude.{MachineState}
use Rattle.sc_emit_hart.specs.Prelude.{LacksRoom, TakesLast}
use Rattle.sc_base.specs.declared.stop.TrapReason.TheVariants.{Owner}
use Rattle.sc_emit_relation.proofs.Ending.{timed_opened}
use Rattle.sc_emit_relation.proofs.Calling.{activated, entered, Enters, is_left, too_deep}

module _ (T : Setting) (formed : IsWellFormed T.image) (inputs : All IsWord T.inputs) {P : Standpoint} {f : Function}
    {args : List Value} {address ra_is : ℕ} {x : Joint} (begins : Begins T P f args address ra_is x) where
  abbrev first : ℕ
  first = length (x.meant.memory P.comp)

  -- a call from the piece of its body on: its variables and its frame end where that has given a value
  abbrev pub with_end : Piece (Option Value) → Piece (Option Value)
  with_end piece = and_then piece (λ v t. Reached v (done P.comp f first t))

  -- The frame doesn't fit: the machine stands trapped in the prologue.
  pub overflows_entering : (frame : FrameTree) (steps budget : ℕ) (stands : MachineState)
      (piece : Piece (Option Value)) → frame.bytes ≤ f.frame_size → P.bound < data_start P.comp + frame.bytes →
      Walks T.image T.inputs steps (machine P x) stands → step T.image T.inputs stands ≡ Traps Owner →
      (lacks : LacksRoom T.image stands) → TakesLast T.image lacks.bytes stands →
      stands.active ≡ P.comp → stands.trace ≡ x.meant.trace → steps ≤ budget →
      Grown (begun P.comp f args x.meant) (last piece) → Overflows T P x budget piece
  overflows_entering frame steps budget stands piece roomy low walks traps lacks taken active trace few grown = record {
    steps = steps;
    reached = stands;
    run = walks;
    traps = traps;
    lacks = lacks;
    taken = taken;
    honest = ap T.performs active ∙ begins.honest;
    begun = begun P.comp f args x.meant;
    trace = trace;
    deep = subst (λ c. stack_size < stack_depth c (begun P.comp f args x.meant)) (sym active)
        (too_deep T formed inputs begins frame roomy low);
    timed = timed_opened (length x.meant.trace) P.comp f.frame_size x.meant.frames begins.settled.timed;
    grown = grown;
    costs = record { least = omega arith; most = λ all. omega (arith, few) };
  }

  module _ {frame : FrameTree} {places : List Place} {nodes : ℕ} (low : ℕ) (whole : IsFrame frame)
      (frame_fits : FrameFits f.cells places nodes frame) (roomy : frame.bytes ≤ f.frame_size)
      (bound_is : P.bound ≡ low + frame.bytes) (start : data_start P.comp ≤ low) (n pc : ℕ) (regs : Registers)
      (bytes : Bytes) (enters : Enters T formed inputs begins low whole frame_fits roomy bound_is start n pc regs bytes)
      (params : (o n : ℕ) → o < length args → slice_get f.cells o ≡ Some n → 1 ≤ n) (to : ℕ) (plan : Plan) where
    abbrev y : Joint
    y = entered P x f args frame low pc regs bytes

    abbrev R : Running
    R = record { activation = activated P x frame low ra_is; places = places; plan = plan; last = to }

    abbrev Q : Standpoint
    Q = seen_from R.activation

    -- what comes of the body: its call is left, or the meaning ends
    abbrev pub BodyGives : ℕ → Piece (Option Value) → Type 0
    BodyGives budget (Reached v s) = Returns T R y budget v s
    BodyGives budget (Stopped end s) = Emits T Q y budget s

    emits_entered : (budget : ℕ) (s : Meant) → Emits T Q y budget s → Emits T P x (n + budget) s
    emits_entered budget s g = record {
      steps = n + g.steps;
      reached = g.reached;
      run = then_go T.image T.inputs enters.walks g.run;
      trace = g.trace;
      costs = record { least = omega (arith, g.costs.least); most = λ all. omega (arith, g.costs.most all) };
    }

    gives_entered : (budget : ℕ) (piece : Piece (Option Value)) → BodyGives budget piece →
        FunctionGives T P x (n + budget) ra_is (with_end piece)
    gives_entered budget (Reached v s) g =
        is_left T formed inputs begins low whole frame_fits roomy bound_is start n
        pc regs bytes enters params plan to budget v s g
    gives_entered budget (Stopped end s) g = emits_entered budget s g

    overflows_entered : (budget : ℕ) (piece : Piece (Option Value)) → Overflows T Q y budget piece →
        Overflows T P x (n + budget) (with_end piece)
    overflows_entered budget piece o = record {
      steps = n + o.steps;
      reached = o.reached;
      run = then_go T.image T.inputs enters.walks o.run;
      traps = o.traps;
      lacks = o.lacks;
      taken = o.taken;
      honest = o.honest;
      begun = o.begun;
      trace = o.trace;
      deep = o.deep;
      timed = o.timed;
      grown = more o.begun (last piece) (last (with_end piece)) o.grown
          (then_from piece (λ v t. Reached v (done P.comp f first t))
          (λ v t. reached v t (done P.comp f first t) (done_goes P.comp f first t)));
      costs = record { least = omega (arith, o.costs.least); most = λ all. omega (arith, o.costs.most all) };
    }

    -- a call is followed where its body is
    pub function_follows : (budget : ℕ) (piece : Piece (Option Value)) →
        BodyGives budget piece ⊎ Overflows T Q y budget piece →
        FunctionGives T P x (n + budget) ra_is (with_end piece) ⊎ Overflows T P x (n + budget) (with_end piece)
    function_follows budget piece g =
        ⊎_elim (λ h. inl (gives_entered budget piece h)) (λ o. inr (overflows_entered budget piece o)) g
