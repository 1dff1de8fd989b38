-- Calls of compartments that perform are followed, whoever makes them, where their functions are.
use Rattle.sc_emit_run_laws.proofs.Common.{All, AllHonest, Bool, Call, CallGives, Cross, Denotations, Departs, Export}
use Rattle.sc_emit_run_laws.proofs.Common.{Function, Here, ImageParts, IsBuilt, IsUnknown, IsWord, Joint, List, None}
use Rattle.sc_emit_run_laws.proofs.Common.{Option, PerformersDo, Piece, Reached, Ret, ReturnsValue, Roles, Scalar}
use Rattle.sc_emit_run_laws.proofs.Common.{Setting, Some, Standpoint, State as Meant, Stopped, TacTree, UnknownComes}
use Rattle.sc_emit_run_laws.proofs.Common.{UnknownGives, Value, a0, and_then, ap, arith, back_cross, back_goes, begun}
use Rattle.sc_emit_run_laws.proofs.Common.{bodies, call_cross, called_there, code_denotations, code_function, crossed}
use Rattle.sc_emit_run_laws.proofs.Common.{crossing, done, done_goes, earlier, emit_event, false, found, has_result}
use Rattle.sc_emit_run_laws.proofs.Common.{if◌then◌else◌, inl, inr, is_some, length, machine, map, nat_lt, not}
use Rattle.sc_emit_run_laws.proofs.Common.{option_value, overflows_then, read_listed, refl, run_in, setting, subst, sym}
use Rattle.sc_emit_run_laws.proofs.Common.{true, walk_one, word_back, word_in, wrapping, ℕ, ◌<◌, ◌||◌, ◌∙◌, ◌≡◌}
use Rattle.sc_core_laws.specs.Prelude.{Goes}
use Rattle.sc_emit_run_laws.proofs.Across.{IsMade, across, seen_across}
use Rattle.sc_emit_run_laws.proofs.Made.{IsDone, comes_back, settled_in, walks_in}
use Rattle.sc_emit_run_laws.proofs.CrossCalls.{IsLed, IsOffered}
use Rattle.sc_emit_run_laws.proofs.Sections.{function_found}
use Rattle.sc_emit_run_laws.proofs.Turning.{CallComes, GoesIn, overflows_in, emits_in, turned}
use Rattle.sc_emit_run_laws.proofs.UnknownFrames.{effect_whole, finished, settled_finished, settled_started, started}

-- a result that a0 has crosses as it is
crosses_as : (result : Option Scalar) (w : ℕ) (v : Option Value) →
    v ≡ option_value (if is_some result then Some w else None) → option_value (word_back result v) ≡ v
crosses_as None w v is = sym is
crosses_as (Some scalar) w v is =
    ap (λ v. option_value (word_back (Some scalar) v)) is ∙ sym is

given_as : (T : Setting) (place : ℕ → Option ℕ) (result : Bool) (w : ℕ) (v : Option Value) → IsWord w →
    v ≡ option_value (if result then Some w else None) → ReturnsValue T place w v
given_as T place true w v word is = subst (ReturnsValue T place w) (sym is) (record { word = word; means = refl })
given_as T place false w v word is = subst (ReturnsValue T place w) (sym is) tt

module _ (roles : Roles) {program : TacTree} {image : ImageParts} {turn_pays : ℕ}
    (built : IsBuilt roles.scripted program image turn_pays) (inputs : List ℕ) (words : All IsWord inputs) where
  abbrev T : Setting
  T = setting program image inputs roles.scripted turn_pays built.addresses

  abbrev denotations : Denotations
  denotations = code_denotations wrapping program

  abbrev Led : (to index : ℕ) → Type 0
  Led = IsLed roles built inputs words

  module _ (n : ℕ) (P : Standpoint) (x : Joint) (to index : ℕ) (args : List Value)
      (offered : IsOffered program to index (length args)) (led : Led to index) (turns entry : ℕ)
      (made : IsMade T built.linked.formed words P x to index args turns entry) where
    abbrev Q : Standpoint
    Q = seen_across T built.linked.formed words P x to index args

    abbrev entering : Joint
    entering = across T built.linked.formed words P x to index args turns entry

    abbrev F : Function
    F = code_function wrapping led.f

    abbrev back : Option Value → Meant → Piece (Option Value)
    back = back_cross program.interfaces P.comp to index

    result_is : has_result image to (Export index) ≡ is_some offered.proto.result
    result_is = built.linked.result to index offered.proto offered.export

    module _ (performs : roles.scripted to ≡ true) (perform : PerformersDo program roles T n) where
      at_work : T.performs to ≡ true
      at_work = ap (λ b. b || not (nat_lt to (length image.comps))) performs

      abbrev begins : Joint
      begins = started T Q to at_work F (crossed args) entering

      abbrev first : ℕ
      first = length (entering.meant.memory to)

      abbrev here : Here
      here = record { comp = to; first = first }

      abbrev piece : Piece (Option Value)
      piece = bodies program roles n led.number here begins.meant

      abbrev end : Option Value → Meant → Piece (Option Value)
      end v s = back v (done to F first s)

      end_goes : (v : Option Value) → Goes (end v)
      end_goes v s =
          earlier s (done to F first s) (end v s) (done_goes to F first s)
          (back_goes program.interfaces P.comp to index v (done to F first s))

      call_is : call_cross denotations (bodies program roles n) P.comp to index args (turned turns x.meant) ≡
          and_then piece end
      call_is =
          ap (λ o. and_then (found o (turned turns x.meant)) (λ number s.
          run_in denotations (bodies program roles n) to number (crossed args) back
          (emit_event (Call P.comp to index (map word_in args)) s))) led.enters ∙
          ap (λ (o : Option Function). and_then (found o entering.meant) (λ f s.
          and_then (bodies program roles n led.number (record { comp = to; first = length (s.memory to) })
          (begun to f (crossed args) s)) (λ v t. back v (done to f (length (s.memory to)) t))))
          (function_found program to led.number led.f led.its)

      never : AllHonest T → ⊥
      never all =
          let clash : true ≡ false =
          sym at_work ∙ all to (called_there image to ((built.addresses P.comp).entry to index) index
          (built.linked.exports P.comp to index offered.proto offered.export)) in cc clash

      paid : AllHonest T → 0 < T.turn_pays
      paid all = absurd (never all)

      goes : GoesIn T P Q x begins 1
      goes = record {
        walks = walks_in made;
        turn = made.turn;
        some = omega arith;
        few = omega arith;
      }

      is_unknown : IsUnknown program roles T Q begins led.number
      is_unknown = record {
        performs = performs;
        settled = settled_started T Q to at_work F (crossed args) entering (settled_in made);
        floors = made.floors;
        entered = led.enters;
      }

      module _ (v : Option Value) (s : Meant) (d : Departs program roles T Q begins v s) where
        abbrev w : Joint
        w = finished T Q to at_work F (crossed args) entering d.y

        value_is : v ≡ option_value (if is_some offered.proto.result then Some (d.y.regs a0) else None)
        value_is =
            d.value ∙ ap (λ b. option_value (if b then Some (d.y.regs a0) else None)) result_is

        is_done : IsDone made 1 entry (omega arith) (omega arith) (walks_in made) 0 offered.proto w v
        is_done = record {
          result_is = result_is;
          steps = d.leads.steps;
          run = d.leads.run;
          costs = record { least = d.leads.costs.least; most = λ all. absurd (never all) };
          effect = effect_whole T Q to at_work F (crossed args) entering d.y d.leads.effect;
          settled = settled_finished T Q to at_work F (crossed args) entering d.y d.settled;
          given = given_as T (d.y.inj to) (is_some offered.proto.result) (d.y.regs a0) v
              (subst IsWord (read_listed d.y.regs a0 (omega arith)) (d.settled.steady.words a0)) value_is;
          same = crosses_as offered.proto.result (d.y.regs a0) v value_is;
          leaves = walk_one image inputs (machine Q d.y) _ d.goes;
        }

        comes : CallGives T P x (Cross to index) (end v s)
        comes =
            subst (λ s. CallGives T P x (Cross to index) (end v s)) d.meant_is
            (subst (λ o. CallGives T P x (Cross to index) (Reached (option_value (crossing o v))
            (emit_event (Ret to P.comp (crossing o v)) w.meant))) (sym offered.export)
            (comes_back made 1 entry (omega arith) (omega arith) (walks_in made) 0 paid offered.proto w v is_done))

      gives : (o : Piece (Option Value)) → UnknownGives program roles T Q begins o →
          CallGives T P x (Cross to index) (and_then o end)
      gives (Reached v s) d = comes v s d
      gives (Stopped e s) g = emits_in T P Q x begins 1 goes 0 paid s g

      comes_by : (o : Piece (Option Value)) → UnknownComes program roles T Q begins o →
          CallComes T P x (Cross to index) (and_then o end)
      comes_by o (inl g) = inl (gives o g)
      comes_by o (inr g) =
          inr (overflows_then T P x 1 o end end_goes (overflows_in T P Q x begins 1 goes 0 paid o g))

      pub into_unknown : CallComes T P x (Cross to index)
          (call_cross denotations (bodies program roles n) P.comp to index args (turned turns x.meant))
      into_unknown =
          subst (CallComes T P x (Cross to index)) (sym call_is)
          (comes_by piece (perform Q begins led.number first is_unknown))
