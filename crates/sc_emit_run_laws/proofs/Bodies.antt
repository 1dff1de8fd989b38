-- The induction on open calls: calls are followed where bodies with as many open calls are, and so bodies are followed
-- in which one more may be open.
use Rattle.sc_emit_run_laws.proofs.Common.{All, ArePassed, BadType, Blamed, BodiesFollow, Bool, CallStands, CallTarget}
use Rattle.sc_emit_run_laws.proofs.Common.{CallsFollow, Cross, Denotations, Function, FunctionGives, HasCode, Here}
use Rattle.sc_emit_run_laws.proofs.Common.{ImageParts, Input, IsBase, IsBuilt, IsRun, IsWord, Joint, List, None, Null}
use Rattle.sc_emit_run_laws.proofs.Common.{Option, Output, Overflows, Own, PerformersFollow, Piece, Ptr, Reached, Roles}
use Rattle.sc_emit_run_laws.proofs.Common.{Setting, Settled, Some, Standpoint, State as Meant, TacFnTree, TacTree}
use Rattle.sc_emit_run_laws.proofs.Common.{Value, Word, [], and_parts, and_then, ap, arith, begun, bodies, called}
use Rattle.sc_emit_run_laws.proofs.Common.{calls_of, code_denotations, code_function, done, eqb-true, false, found}
use Rattle.sc_emit_run_laws.proofs.Common.{functions_in, gives, if◌then◌else◌, imports, inl, is_output, length, machine}
use Rattle.sc_emit_run_laws.proofs.Common.{may_call, nat_lt, not, or_parts, own_call_fits, passes_words, performs, ran}
use Rattle.sc_emit_run_laws.proofs.Common.{refl, rows_left, run_step, setting, slice_get, sp, stay, subst, suc, sym}
use Rattle.sc_emit_run_laws.proofs.Common.{true, wrapping, zero, ℕ, ◌+◌, ◌==◌, ◌∙◌, ◌∷◌, ◌≡◌, ◌⊎◌}
use Rattle.sc_emit_run_laws.proofs.Answering.{answers, calls_only_go, own_is}
use Rattle.sc_emit_run_laws.proofs.CrossCalls.{cross_follows}
use Rattle.sc_emit_run_laws.proofs.Environment.{input_comes, output_comes}
use Rattle.sc_emit_run_laws.proofs.OwnCalls.{begins, entered, own_comes}
use Rattle.sc_emit_run_laws.proofs.Placing.{is_placed, word_there}
use Rattle.sc_emit_run_laws.proofs.Sections.{function_found}
use Rattle.sc_emit_run_laws.proofs.Turning.{CallComes, where_made, where_turns}

not_true : (b : Bool) → not b ≡ true → b ≡ false
not_true true h = cc h
not_true false h = refl

-- an own function that may be called with `count` arguments
record IsOwn (program : TacTree) (comp number count : ℕ) : Type 0 where
  f : TacFnTree
  its : slice_get (functions_in program comp) number ≡ Some f
  takes : f.params ≡ count
  words : passes_words f.params f.objects ≡ true

own_by : (program : TacTree) (comp number count : ℕ) (o : Option TacFnTree) →
    slice_get (functions_in program comp) number ≡ o → own_call_fits o None count ≡ true →
    IsOwn program comp number count
own_by program comp number count None its h = cc h
own_by program comp number count (Some f) its h =
    let one = and_parts (f.params == count) _ h in
    record {
      f = f;
      its = its;
      takes = eqb-true f.params count one.0;
      words = (and_parts (passes_words f.params f.objects) true one.1).0;
    }

module _ (roles : Roles) {program : TacTree} {image : ImageParts} {turn_pays : ℕ}
    (built : IsBuilt roles.scripted program image turn_pays) (inputs : List ℕ) (words : All IsWord inputs) where
  abbrev T : Setting
  T = setting program image inputs roles.scripted turn_pays built.addresses

  abbrev denotations : Denotations
  denotations = code_denotations wrapping program

  not_scripted : (k : ℕ) → T.performs k ≡ false → roles.scripted k ≡ false
  not_scripted k h = (or_parts (roles.scripted k) (not (nat_lt k (length image.comps))) h).0

  module _ (n : ℕ) (runs : BodiesFollow program roles T n) (perform : PerformersFollow program roles T n) where
    module _ (P : Standpoint) (x : Joint) (args : List Value) (honest : T.performs P.comp ≡ false)
        (settled : Settled T P x) (base : IsBase T P) (at_base : x.regs sp ≡ P.bound)
        (passed : ArePassed (x.inj P.comp) x.regs args) where
      own_follows : (number : ℕ) → T.makes P.comp (Own number) (length args) ≡ true → CallStands T P x (Own number) →
          CallComes T P x (Own number) (calls_of program roles n P.comp (Own number) args x.meant)
      own_follows number makes stands =
          let own : IsOwn program P.comp number (length args) =
          own_by program P.comp number (length args) (slice_get (functions_in program P.comp) number) refl makes in
          let code : HasCode image (built.addresses P.comp) turn_pays P.comp number own.f =
          built.linked.functions P.comp number own.f (not_scripted P.comp honest) own.its in
          let address : ℕ = (built.addresses P.comp).function number in
          let word = word_there image (built.addresses P.comp) turn_pays P.comp number own.f code in
          let ra_is : ℕ = x.pc + 4 in
          subst (CallComes T P x (Own number)) (sym (own_is program roles n P.comp number own.f args x.meant own.its))
          (where_turns T P x (Own number) x.meant.turns (λ s. ran program roles n P.comp number own.f args s)
          (λ left few.
          (let y : Joint = entered T built.linked.formed words P x address left in
          let run : IsRun program roles T n number own.f P y args ra_is =
          runs P y number own.f args ra_is own.its own.words (sym own.takes)
          (begins T built.linked.formed words P x address left few stands.0 stands.1 stands.2 word.0 word.1
          (code_function wrapping own.f) args honest settled base at_base passed) in
          own_comes T built.linked.formed words P x address left few stands.0 stands.1 stands.2 word.0 word.1 number
          stands.3 at_base run.0 run.1.0 (ran program roles n P.comp number own.f args y.meant)
          run.1.1)))

      input_follows : T.makes P.comp Input (length args) ≡ true → CallStands T P x Input →
          CallComes T P x Input (calls_of program roles n P.comp Input args x.meant)
      input_follows makes stands =
          where_made T P x Input (may_call denotations P.comp Input args) (Blamed P.comp BadType 0)
          (called denotations (bodies program roles n) P.comp Input args x.meant)
          (λ may. inl (input_comes T built.linked.formed words P x settled stands.0 stands.1
          (built.linked.inputs P.comp may)))

      output_by : (args : List Value) → ArePassed (x.inj P.comp) x.regs args →
          may_call denotations P.comp Output args ≡ true → T.makes P.comp Output (length args) ≡ true →
          CallStands T P x Output →
          CallComes T P x Output (called denotations (bodies program roles n) P.comp Output args x.meant)
      output_by [] passed may makes stands =
          let both = and_parts (imports program.interfaces P.comp is_output) false makes in
          let clash : false ≡ true = both.1 in cc clash
      output_by (v ∷ w ∷ others) passed may makes stands =
          let both = and_parts (imports program.interfaces P.comp is_output) (length (v ∷ w ∷ others) == 1) makes in
          absurd (omega (arith, eqb-true (length (v ∷ w ∷ others)) 1 both.1))
      output_by (Word w ∷ []) passed may makes stands =
          let both = and_parts (imports program.interfaces P.comp is_output) true makes in
          inl (output_comes T built.linked.formed words P x settled stands.0 stands.1
          (built.linked.outputs P.comp both.0) w (passed 0 (Word w) refl).means)
      output_by (Null ∷ []) passed may makes stands =
          let both = and_parts (imports program.interfaces P.comp is_output) false may in
          let clash : false ≡ true = both.1 in cc clash
      output_by (Ptr p ∷ []) passed may makes stands =
          let both = and_parts (imports program.interfaces P.comp is_output) false may in
          let clash : false ≡ true = both.1 in cc clash

      output_follows : T.makes P.comp Output (length args) ≡ true → CallStands T P x Output →
          CallComes T P x Output (calls_of program roles n P.comp Output args x.meant)
      output_follows makes stands =
          where_made T P x Output (may_call denotations P.comp Output args) (Blamed P.comp BadType 0)
          (called denotations (bodies program roles n) P.comp Output args x.meant)
          (λ may. output_by args passed may makes stands)

      cross_by : (scripted : Bool) (to index : ℕ) → roles.scripted to ≡ scripted →
          T.makes P.comp (Cross to index) (length args) ≡ true → CallStands T P x (Cross to index) →
          CallComes T P x (Cross to index) (calls_of program roles n P.comp (Cross to index) args x.meant)
      cross_by true to index is makes stands =
          perform P x to index args honest is makes settled base at_base passed stands
      cross_by false to index is makes stands =
          cross_follows roles built inputs words n runs P x to index args is makes settled base at_base passed stands

      follow : (target : CallTarget) → T.makes P.comp target (length args) ≡ true → CallStands T P x target →
          CallComes T P x target (calls_of program roles n P.comp target args x.meant)
      follow (Own number) makes stands = own_follows number makes stands
      follow (Cross to index) makes stands = cross_by (roles.scripted to) to index refl makes stands
      follow Input makes stands = input_follows makes stands
      follow Output makes stands = output_follows makes stands

    pub calls_follow : CallsFollow T (calls_of program roles n)
    calls_follow = record {
      answers = λ comp target args s h.
          (let both = and_parts (not (roles.scripted comp)) (gives program comp target) h in
          answers program roles n (built.results roles) comp (not_true (roles.scripted comp) both.0) target args s
          both.1);
      goes = calls_only_go program roles n;
      follow = λ P x target args honest makes settled base at_base passed stands.
          follow P x args honest settled base at_base passed target makes stands;
    }

  -- what a function does where one more call may be open
  does_is : (n number : ℕ) (here : Here) (f : TacFnTree) (s : Meant) → roles.scripted here.comp ≡ false →
      slice_get (functions_in program here.comp) number ≡ Some f →
      bodies program roles (suc n) number here s ≡
      (code_function wrapping f).does (calls_of program roles n) here s
  does_is n number here f s honest its =
      ap (λ b. if b then performs denotations (bodies program roles n) (rows_left roles here.comp s.trace) number here s
      else run_step denotations (bodies program roles n) number here s) honest ∙
      ap (λ o. and_then (found o s) (λ f s. f.does (calls_of program roles n) here s))
      (function_found program here.comp number f its)

  pub none_follow : BodiesFollow program roles T 0
  none_follow P x number f args ra_is its passes long starts =
      let code : HasCode image (built.addresses P.comp) turn_pays P.comp number f =
      built.linked.functions P.comp number f (not_scripted P.comp starts.honest) its in (
        length code.code.instrs,
        (
          code.paid,
          inl (record {
            steps = 0;
            reached = machine P x;
            run = stay T.image T.inputs;
            trace = refl;
            costs = record { least = omega arith; most = λ all. omega arith };
          }),
        ),
      )

  -- from bodies with at most `n` open calls to those with one more
  pub more_follow : (n : ℕ) → BodiesFollow program roles T n → PerformersFollow program roles T n →
      BodiesFollow program roles T (suc n)
  more_follow n runs perform P x number f args ra_is its passes long starts =
      let code : HasCode image (built.addresses P.comp) turn_pays P.comp number f =
      built.linked.functions P.comp number f (not_scripted P.comp starts.honest) its in
      let budget : ℕ = length code.code.instrs in
      let F : Function = code_function wrapping f in
      let first : ℕ = length (x.meant.memory P.comp) in
      let here : Here = record { comp = P.comp; first = first } in
      let start : Meant = begun P.comp F args x.meant in
      let end : Option Value → Meant → Piece (Option Value) = λ v t. Reached v (done P.comp F first t) in
      let honest : roles.scripted P.comp ≡ false = not_scripted P.comp starts.honest in (
        budget,
        (
          code.paid,
          subst (λ piece. FunctionGives T P x budget ra_is (and_then piece end) ⊎
              Overflows T P x budget (and_then piece end))
              (sym (does_is n number here f start honest its))
              (code.emitted.follows T P.comp ((built.addresses P.comp).function number)
              (is_placed built inputs words P.comp number f
              honest its passes code) (calls_of program roles n)
              (calls_follow n runs perform) P x args ra_is refl long starts),
        ),
      )

  pub bodies_follow : ((n : ℕ) → PerformersFollow program roles T n) → (n : ℕ) → BodiesFollow program roles T n
  bodies_follow perform zero = none_follow
  bodies_follow perform (suc n) = more_follow n (bodies_follow perform n) (perform n)
