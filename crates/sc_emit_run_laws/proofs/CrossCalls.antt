-- Calls of functions of other compartments of a program: those that code makes, and those of functions that run theirs.
use Rattle.sc_emit_run_laws.proofs.Common.{All, ArePassed, BadType, Begins, Blamed, BodiesFollow, Bool, Call, CallGives}
use Rattle.sc_emit_run_laws.proofs.Common.{CallStands, Cross, Denotations, EntersBy, Export, Function, FunctionGives}
use Rattle.sc_emit_run_laws.proofs.Common.{HasCode, Here, ImageParts, IsBase, IsBuilt, IsLeft, IsRun, IsWord, Joint}
use Rattle.sc_emit_run_laws.proofs.Common.{List, None, Option, Overflows, Piece, Proto, Reached, Ret, Roles, Setting}
use Rattle.sc_emit_run_laws.proofs.Common.{Settled, Some, Standpoint, State as Meant, Stopped, TacFnTree, TacTree}
use Rattle.sc_emit_run_laws.proofs.Common.{Value, Walks, and_parts, and_then, ap, arith, back_cross, back_goes, begun}
use Rattle.sc_emit_run_laws.proofs.Common.{bodies, call_cross, called, called_there, calls_of, cases_eq}
use Rattle.sc_emit_run_laws.proofs.Common.{code_denotations, code_function, code_inside, cross_call_fits, crossed}
use Rattle.sc_emit_run_laws.proofs.Common.{crossing, done, emit_event, eqb-true, export_at, false, found}
use Rattle.sc_emit_run_laws.proofs.Common.{function_entered, functions_in, gate, imports, inl, inr, is_function}
use Rattle.sc_emit_run_laws.proofs.Common.{is_some, is_word, jal, jalr_target, leads, length, length-map, list_all}
use Rattle.sc_emit_run_laws.proofs.Common.{lt-ltb, machine, map, may_call, nat_lt, not, option_map, option_value}
use Rattle.sc_emit_run_laws.proofs.Common.{overflows_then, pos, ra, ran, read_listed, refl, reg, run_in, setting}
use Rattle.sc_emit_run_laws.proofs.Common.{settled_moved, slice_get, slice_index, sp, steps_emit, subst, suc, sym}
use Rattle.sc_emit_run_laws.proofs.Common.{takes, then_go, then_then, true, word_at, word_back, word_in, world_at}
use Rattle.sc_emit_run_laws.proofs.Common.{wrapping, ℕ, ⊎_elim, ◌<◌, ◌==◌, ◌||◌, ◌∙◌, ◌≡◌, ◌≢◌, ◌≤◌, ◌⊎◌}
use Rattle.sc_image.specs.Prelude.{entered_export as image_export}
use Rattle.sc_emit_run_laws.proofs.Across.{IsMade, across, opened, seen_across}
use Rattle.sc_emit_run_laws.proofs.Made.{IsDone, comes_back, goes_across, low_is, settled_in, walks_in}
use Rattle.sc_emit_run_laws.proofs.Placing.{word_there}
use Rattle.sc_emit_run_laws.proofs.Sections.{IsEntered, function_found, function_is, is_export}
use Rattle.sc_emit_run_laws.proofs.Turning.{CallComes, GoesIn, overflows_in, emits_in, turned, where_made, where_turns}
use Rattle.sc_emit_run_laws.proofs.Crossing.{called_ra, called_sp, crossed_passed}
use Rattle.sc_emit_run_laws.proofs.OwnCalls.{back_to}

-- an export that takes `count` arguments
pub record IsOffered (program : TacTree) (to index count : ℕ) : Type 0 where
  pub proto : Proto
  pub export : export_at program.interfaces to index ≡ Some proto
  pub takes : length proto.params ≡ count

pub offered_by : (program : TacTree) (to index count : ℕ) (o : Option Proto) →
    export_at program.interfaces to index ≡ o → cross_call_fits o None count ≡ true → IsOffered program to index count
offered_by program to index count None e h = cc h
offered_by program to index count (Some proto) e h = record {
  proto = proto;
  export = e;
  takes = eqb-true (length proto.params) count (and_parts (length proto.params == count) true h).0;
}

pub neither : (a b : Bool) → a ≡ false → b ≡ true → (a || not b) ≡ false
neither true b h k = cc h
neither false true h k = refl
neither false false h k = cc k

-- what was reached before the variables ended
pub record WasReached (piece : Piece (Option Value)) (v : Option Value) : Type 0 where
  pub state : Meant
  pub is : piece ≡ Reached v state

pub was_reached : (piece : Piece (Option Value)) (end : Meant → Meant) (v : Option Value) (s : Meant) →
    and_then piece (λ v t. Reached v (end t)) ≡ Reached v s → WasReached piece v
was_reached (Reached u t) end v s h =
    let same : u ≡ v = cc h in record { state = t; is = ap (λ u. Reached u t) same }
was_reached (Stopped e t) end v s h = cc h

module _ (roles : Roles) {program : TacTree} {image : ImageParts} {turn_pays : ℕ}
    (built : IsBuilt roles.scripted program image turn_pays) (inputs : List ℕ) (words : All IsWord inputs) where
  abbrev T : Setting
  T = setting program image inputs roles.scripted turn_pays built.addresses

  abbrev denotations : Denotations
  denotations = code_denotations wrapping program

  -- the function that an export leads to
  pub record IsLed (to index : ℕ) : Type 0 where
    pub number : ℕ
    pub enters : function_entered (Export index) (slice_get program.sections to) ≡ Some number
    pub f : TacFnTree
    pub its : slice_get (functions_in program to) number ≡ Some f

  led_to : (to index number : ℕ) (o : Option TacFnTree) → slice_get (functions_in program to) number ≡ o →
      function_entered (Export index) (slice_get program.sections to) ≡ Some number →
      is_some (option_map (code_function wrapping) o) ≡ true → IsLed to index
  led_to to index number None its enters h = cc h
  led_to to index number (Some f) its enters h = record { number = number; enters = enters; f = f; its = its }

  pub led_by : (to index : ℕ) (o : Option ℕ) → function_entered (Export index) (slice_get program.sections to) ≡ o →
      leads denotations to o ≡ true → IsLed to index
  led_by to index None enters h = cc h
  led_by to index (Some number) enters h =
      led_to to index number (slice_get (functions_in program to) number) refl enters
      (sym (ap is_some (function_is program to number)) ∙ h)

  module _ (n : ℕ) where
    -- what a call does once it has taken its turn
    cross_is : (from to index number : ℕ) (f : TacFnTree) (args : List Value) (s : Meant) →
        function_entered (Export index) (slice_get program.sections to) ≡ Some number →
        slice_get (functions_in program to) number ≡ Some f →
        call_cross denotations (bodies program roles n) from to index args s ≡
        and_then (ran program roles n to number f (crossed args) (emit_event (Call from to index (map word_in args)) s))
        (back_cross program.interfaces from to index)
    cross_is from to index number f args s enters its =
        let timed : Meant = emit_event (Call from to index (map word_in args)) s in
        let back : Option Value → Meant → Piece (Option Value) = back_cross program.interfaces from to index in
        let F : Function = code_function wrapping f in
        let here : Here = record { comp = to; first = length (timed.memory to) } in
        ap (λ o. and_then (found o s) (λ number s.
        run_in denotations (bodies program roles n) to number (crossed args) back
        (emit_event (Call from to index (map word_in args)) s))) enters ∙
        ap (λ (o : Option Function). and_then (found o timed) (λ f s.
        and_then (bodies program roles n number (record { comp = to; first = length (s.memory to) })
        (begun to f (crossed args) s)) (λ v t. back v (done to f (length (s.memory to)) t))))
        (function_found program to number f its) ∙
        sym (then_then (bodies program roles n number here (begun to F (crossed args) timed))
        (λ v t. Reached v (done to F (length (timed.memory to)) t)) back)

  -- FROM COMPARTMENTS THAT RUN THEIR CODE

  module _ (P : Standpoint) (x : Joint) (to index : ℕ) (args : List Value)
      (settled : Settled T P x) (base : IsBase T P) (at_base : x.regs sp ≡ P.bound)
      (passed : ArePassed (x.inj P.comp) x.regs args) (stands : CallStands T P x (Cross to index))
      (imported : imports program.interfaces P.comp (is_function to index) ≡ true)
      (offered : IsOffered program to index (length args)) (all : list_all is_word args ≡ true)
      (led : IsLed to index) where
    abbrev entry_there : ℕ
    entry_there = (built.addresses P.comp).entry to index

    export_is : image_export image to entry_there ≡ Some index
    export_is = built.linked.exports P.comp to index offered.proto offered.export

    head_there : IsEntered program led.f offered.proto
    head_there =
        is_export program built.rules built.functions to index led.number offered.proto led.f offered.export led.enters
        led.its

    over_floor : (k q : ℕ) → (k ≡ P.comp → P.bound ≤ q) → (k ≢ P.comp → P.floor k ≤ q) → P.floor k ≤ q
    over_floor k q own there =
        ⊎_elim
        (λ e. (let floor : P.floor k ≡ P.floor P.comp = ap P.floor e in omega (arith, floor, base.floor, own e)))
        there (cases_eq k P.comp)

    pub made_by_code : (left : ℕ) → x.meant.turns ≡ suc left →
        IsMade T built.linked.formed words P x to index args left entry_there
    made_by_code left turns = record {
      goes = (steps_emit.jalr_calls image inputs (machine P x) stands.0 stands.1.0 to index entry_there
          built.linked.formed (record {
            word = stands.1.1.word;
            fetched = stands.1.1.fetched;
            decodes = stands.1.1.decodes;
          }) (ap (λ b. jalr_target b stands.1.0) (read_listed x.regs stands.0 stands.1.2) ∙ stands.1.3)
          (record { entry = export_is; may = built.linked.calls P.comp to index imported })).walks;
      may = built.linked.calls P.comp to index imported;
      takes = built.linked.params to index offered.proto offered.export ∙ offered.takes;
      few_args = omega (
        arith,
        head_there.takes,
        offered.takes,
        (built.functions to led.number led.f led.its).few_params,
      );
      all = all;
      passed = passed;
      turn = turns;
      settled = settled;
      floors = base.floors;
      level = λ k honest same. at_base ∙ sym base.floor ∙ ap P.floor (sym same);
      over = λ k q honest own there. over_floor k q own there;
    }

  -- a call that code makes, in what is known of it
  pub cross_where : (n : ℕ) (P : Standpoint) (x : Joint) (to index : ℕ) (args : List Value) →
      T.makes P.comp (Cross to index) (length args) ≡ true → Settled T P x → IsBase T P → x.regs sp ≡ P.bound →
      ArePassed (x.inj P.comp) x.regs args → CallStands T P x (Cross to index) →
      ((offered : IsOffered program to index (length args)) (led : IsLed to index) (left : ℕ) →
      IsMade T built.linked.formed words P x to index args left ((built.addresses P.comp).entry to index) →
      CallComes T P x (Cross to index)
      (call_cross denotations (bodies program roles n) P.comp to index args (turned left x.meant))) →
      CallComes T P x (Cross to index) (calls_of program roles n P.comp (Cross to index) args x.meant)
  cross_where n P x to index args makes settled base at_base passed stands comes =
      let made = and_parts (imports program.interfaces P.comp (is_function to index)) _ makes in
      let offered : IsOffered program to index (length args) =
      offered_by program to index (length args) (export_at program.interfaces to index) refl made.1 in
      where_made T P x (Cross to index) (may_call denotations P.comp (Cross to index) args) (Blamed P.comp BadType 0)
      (called denotations (bodies program roles n) P.comp (Cross to index) args x.meant)
      (λ may.
      (let one = and_parts (imports program.interfaces P.comp (is_function to index)) _ may in
      let two = and_parts (takes program.interfaces to index (length args)) _ one.1 in
      let three = and_parts (list_all is_word args) (leads denotations to (denotations.entered to (Export index))) two.1
      in
      let led : IsLed to index = led_by to index (denotations.entered to (Export index)) refl three.1 in
      where_turns T P x (Cross to index) x.meant.turns
      (λ s. call_cross denotations (bodies program roles n) P.comp to index args s)
      (λ left few.
      comes offered led left
      (made_by_code P x to index args settled base at_base passed stands made.0 offered three.0 led left few))))

  -- INTO COMPARTMENTS THAT RUN THEIR CODE

  module _ (n : ℕ) (P : Standpoint) (x : Joint) (to index : ℕ) (args : List Value)
      (offered : IsOffered program to index (length args)) (led : IsLed to index) (turns entry : ℕ)
      (made : IsMade T built.linked.formed words P x to index args turns entry) where
    abbrev Q : Standpoint
    Q = seen_across T built.linked.formed words P x to index args

    abbrev entering : Joint
    entering = across T built.linked.formed words P x to index args turns entry

    abbrev F : Function
    F = code_function wrapping led.f

    abbrev back : Option Value → Meant → Piece (Option Value)
    back = back_cross program.interfaces P.comp to index

    module _ (honest : roles.scripted to ≡ false) (run : BodiesFollow program roles T n)
        (entry_is : entry ≡ (built.addresses P.comp).entry to index) where
      abbrev address : ℕ
      address = (built.addresses to).function led.number

      abbrev y : Joint
      y = across T built.linked.formed words P x to index args turns address

      head : IsEntered program led.f offered.proto
      head = is_export program built.rules built.functions to index led.number offered.proto led.f offered.export
          led.enters led.its

      code : HasCode image (built.addresses to) turn_pays to led.number led.f
      code = built.linked.functions to led.number led.f honest led.its

      honest_there : T.performs to ≡ false
      honest_there =
          neither (roles.scripted to) (nat_lt to (length image.comps)) honest
          (lt-ltb to (length image.comps) (called_there image to ((built.addresses P.comp).entry to index) index
          (built.linked.exports P.comp to index offered.proto offered.export)))

      enters : EntersBy image to entry address
      enters =
          subst (λ e. EntersBy image to e address) (sym entry_is)
          (built.linked.entries P.comp to index led.number honest led.enters)

      module _ (word : ℕ) (there : word_at image to address ≡ Some word) where
        walks_inside : Walks image inputs 1 (machine Q entering) (machine Q y)
        walks_inside =
            jal image inputs entry entering.regs x.bytes (world_at Q entering) 0 enters.imm address word (omega arith)
            enters.jump enters.leads (code_inside image built.linked.formed to address word there).aligned there

        walks : Walks image inputs 2 (machine P x) (machine Q y)
        walks = then_go image inputs (walks_in made) walks_inside

        settled_there : Settled T Q y
        settled_there =
            settled_moved T built.linked.formed words Q entering 1 address entering.regs x.bytes (settled_in made)
            (λ k b a i cells honest live at below. refl) walks_inside

        begun_there : Begins T Q F (crossed args) address gate y
        begun_there = record {
          honest = honest_there;
          settled = settled_there;
          base = record {
            floor = refl;
            aligned = made.floors.aligned to honest_there;
            high = made.floors.high to honest_there;
            floors = made.floors;
          };
          pc = refl;
          sp = called_sp (length args) (slice_index x.saved to) x.regs ∙ low_is made honest_there;
          ra = called_ra (length args) (slice_index x.saved to) x.regs;
          passed = crossed_passed (x.inj P.comp) (x.inj to) args (slice_index x.saved to) x.regs made.all made.passed;
        }

        abbrev whole : Piece (Option Value)
        whole = ran program roles n to led.number led.f (crossed args) y.meant

        same_value : (v : Option Value) (s : Meant) → whole ≡ Reached v s →
            option_value (crossing (Some offered.proto) v) ≡ v
        same_value v s e =
            let here : Here = record { comp = to; first = length (y.meant.memory to) } in
            let start : Meant = begun to F (crossed args) y.meant in
            let was : WasReached (bodies program roles n led.number here start) v =
            was_reached (bodies program roles n led.number here start) (done to F (length (y.meant.memory to))) v s e in
            (built.results roles).crosses n index led.number here offered.proto start was.state v honest offered.export
            led.enters was.is

        goes : GoesIn T P Q x y 2
        goes = goes_across made 2 address (omega arith) (omega arith) walks

        module _ (budget : ℕ) (paid : budget < T.turn_pays) (v : Option Value) (s : Meant) (same : option_value
            (word_back offered.proto.result v) ≡ v) (g : IsLeft T Q y budget gate v s) where
          left : IsDone made 2 address (omega arith) (omega arith) walks budget offered.proto g.y v
          left = record {
            result_is = built.linked.result to index offered.proto offered.export;
            steps = g.leads.steps;
            run = g.leads.run;
            costs = g.leads.costs;
            effect = g.leads.effect;
            settled = g.settled;
            given = g.value;
            same = same;
            leaves = (steps_emit.returns image inputs (machine Q g.y) ra (pos 0)
                (opened T built.linked.formed words P x to index args) P.cross
                (record { word = g.jump.word; fetched = g.jump.fetched; decodes = g.jump.decodes })
                (back_to (reg (machine Q g.y) ra) gate (read_listed g.y.regs ra (omega arith) ∙ g.ra) (omega arith)
                (omega arith)) refl).walks;
          }

          comes_left : CallGives T P x (Cross to index) (back v s)
          comes_left =
              subst (λ s. CallGives T P x (Cross to index) (back v s)) g.meant_is
              (subst (λ o. CallGives T P x (Cross to index) (Reached (option_value (crossing o v))
              (emit_event (Ret to P.comp (crossing o v)) g.y.meant))) (sym offered.export)
              (comes_back made 2 address (omega arith)
              (omega arith) walks budget (λ all. paid) offered.proto g.y v left))

        gives_left : (budget : ℕ) → budget < T.turn_pays → (o : Piece (Option Value)) →
            ((v : Option Value) (s : Meant) → o ≡ Reached v s → option_value (word_back offered.proto.result v) ≡ v) →
            FunctionGives T Q y budget gate o → CallGives T P x (Cross to index) (and_then o back)
        gives_left budget paid (Reached v s) same g = comes_left budget paid v s (same v s refl) g
        gives_left budget paid (Stopped end s) same g = emits_in T P Q x y 2 goes budget (λ all. paid) s g

        left_by : (budget : ℕ) → budget < T.turn_pays → (o : Piece (Option Value)) →
            ((v : Option Value) (s : Meant) → o ≡ Reached v s → option_value (word_back offered.proto.result v) ≡ v) →
            FunctionGives T Q y budget gate o ⊎ Overflows T Q y budget o →
            CallComes T P x (Cross to index) (and_then o back)
        left_by budget paid o same (inl g) = inl (gives_left budget paid o same g)
        left_by budget paid o same (inr g) =
            inr (overflows_then T P x 1 o back (back_goes program.interfaces P.comp to index)
            (overflows_in T P Q x y 2 goes budget (λ all. paid) o g))

        ran_there : IsRun program roles T n led.number led.f Q y (crossed args) gate
        ran_there =
            run Q y led.number led.f (crossed args) gate led.its head.words
            (length-map args _ ∙ sym offered.takes ∙ sym head.takes) begun_there

        comes_out : CallComes T P x (Cross to index) (and_then whole back)
        comes_out = left_by ran_there.0 ran_there.1.0 whole same_value ran_there.1.1

      pub into_code : CallComes T P x (Cross to index)
          (call_cross denotations (bodies program roles n) P.comp to index args (turned turns x.meant))
      into_code =
          let word = word_there image (built.addresses to) turn_pays to led.number led.f code in
          subst (CallComes T P x (Cross to index))
          (sym (cross_is n P.comp to index led.number led.f args (turned turns x.meant) led.enters led.its))
          (comes_out word.0 word.1)

  pub cross_follows : (n : ℕ) → BodiesFollow program roles T n → (P : Standpoint) (x : Joint) (to index : ℕ)
      (args : List Value) → roles.scripted to ≡ false →
      T.makes P.comp (Cross to index) (length args) ≡ true → Settled T P x → IsBase T P → x.regs sp ≡ P.bound →
      ArePassed (x.inj P.comp) x.regs args → CallStands T P x (Cross to index) →
      CallComes T P x (Cross to index) (calls_of program roles n P.comp (Cross to index) args x.meant)
  cross_follows n run P x to index args unscripted makes settled base at_base passed stands =
      cross_where n P x to index args makes settled base at_base passed stands
      (λ offered led left made.
      into_code n P x to index args offered led left ((built.addresses P.comp).entry to index) made unscripted run refl)
