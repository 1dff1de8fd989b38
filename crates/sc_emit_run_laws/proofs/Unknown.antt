-- Unknown code: whatever code the compartments have that perform their parts of the machine's own trace, the machine
-- follows what they perform, and what all others do.
use Rattle.sc_emit_run_laws.proofs.Common.{All, AllHonest, AreFloors, BodiesFollow, Bool, Call, ComesBack, Cross}
use Rattle.sc_emit_run_laws.proofs.Common.{Crossing, Denotations, Emits, End, Event, Goes as Steps, HasEmitted, Here}
use Rattle.sc_emit_run_laws.proofs.Common.{ImageParts, In, IsBuilt, IsPrefix, IsSteadyState, IsWord, Joint, Leads, List}
use Rattle.sc_emit_run_laws.proofs.Common.{None, Option, Out, Overflows, PerformersDo, Piece, Reached, Ret, Roles}
use Rattle.sc_emit_run_laws.proofs.Common.{Setting, Settled, Some, Standpoint, State as Meant, Stopped, TacTree, Traps}
use Rattle.sc_emit_run_laws.proofs.Common.{UnknownComes, UnknownGives, Value, Walks, Word, [], a0, allowed_at, and_then}
use Rattle.sc_emit_run_laws.proofs.Common.{ap, append-nil, append_assoc, ap₂, arguments, arith, at_start, bodies}
use Rattle.sc_emit_run_laws.proofs.Common.{call_cross, came_by, cases_lt, code_denotations, departing, drop, drop_next}
use Rattle.sc_emit_run_laws.proofs.Common.{emit_event, emits_after, emits_here, entered_by, export_params, false}
use Rattle.sc_emit_run_laws.proofs.Common.{given_back, has_result, if◌then◌else◌, inl, input_at, inr, leads_then, legal}
use Rattle.sc_emit_run_laws.proofs.Common.{length, listed, machine, nat_lt, next_input, not, on_input, on_output}
use Rattle.sc_emit_run_laws.proofs.Common.{on_return, option_value, overflows_after, overflows_then, read_input}
use Rattle.sc_emit_run_laws.proofs.Common.{read_listed, refl, reg, roles_in, setting, slice_index, stands_after_all}
use Rattle.sc_emit_run_laws.proofs.Common.{start, step, subst, suc, sym, true, turn, walk_one, walks_steady, with_pc}
use Rattle.sc_emit_run_laws.proofs.Common.{word, wrapping, written, zero, ℕ, ◌*◌, ◌++◌, ◌+◌, ◌-◌, ◌<◌, ◌||◌, ◌∙◌, ◌∷◌}
use Rattle.sc_emit_run_laws.proofs.Common.{◌≡◌, ◌≢◌, ◌≤◌, ◌⊎◌}
use Rattle.sc_store.specs.Prelude.{ByteMemory as Bytes}
use Rattle.sc_zone.specs.declared.span.Span.{Span}
use Rattle.sc_image.specs.Prelude.{MachineState, on_call, entered_export as image_export, may_call_export as may_make}
use Rattle.sc_emit_relation.proofs.Settling.{leads_rezoned, settled_rezoned}
use Rattle.sc_emit_relation.proofs.Storing.{block_owned}
use Rattle.sc_emit_run_laws.proofs.Along.{walk_prefix}
use Rattle.sc_emit_run_laws.proofs.Answering.{bodies_go}
use Rattle.sc_emit_run_laws.proofs.CrossCalls.{IsLed, IsOffered, into_code}
use Rattle.sc_emit_run_laws.proofs.Environment.{next_at}
use Rattle.sc_emit_run_laws.proofs.Exports.{IsExported}
use Rattle.sc_emit_run_laws.proofs.Placed.{HasStood, StepsOn, first_step, legal_stood, stands_so, standing_in}
use Rattle.sc_emit_run_laws.proofs.Placed.{walk_rest}
use Rattle.sc_emit_run_laws.proofs.Sections.{IsEntered, is_export}
use Rattle.sc_emit_run_laws.proofs.Turning.{CallComes, before_timed, turned, where_turns}
use Rattle.sc_emit_run_laws.proofs.Across.{IsMade}
use Rattle.sc_emit_run_laws.proofs.UnknownCrossing.{into_unknown}
use Rattle.sc_emit_run_laws.proofs.UnknownEvents.{IsNext, call_is, end_is, enters, input_is, offered, output_is}
use Rattle.sc_emit_run_laws.proofs.UnknownEvents.{return_is, work, work_done}
use Rattle.sc_emit_run_laws.proofs.UnknownRules.{are_words, as_values, entry_is, words_passed}
use Rattle.sc_emit_run_laws.proofs.UnknownSteps.{KeepsOthers, StepIs, calls, leaves, listed_is, moves, reads, emits}
use Rattle.sc_emit_run_laws.proofs.UnknownSteps.{step_is, traps}

-- WHERE SOMEONE PERFORMS, THERE IS NO UPPER BOUND

module _ (T : Setting) (never : AllHonest T → ⊥) (P : Standpoint) where
  emits_free : (x : Joint) (a : ℕ) (s : Meant) → Emits T P x a s → Emits T P x 0 s
  emits_free x a s g = record {
    steps = g.steps;
    reached = g.reached;
    run = g.run;
    trace = g.trace;
    costs = record { least = g.costs.least; most = λ all. absurd (never all) };
  }

  leads_free : (x y : Joint) (a b : ℕ) → Leads T P x y a b → Leads T P x y 0 0
  leads_free x y a b l = record {
    steps = l.steps;
    run = l.run;
    costs = record { least = l.costs.least; most = λ all. absurd (never all) };
    effect = l.effect;
  }

  overflows_free : {V : Type 0} (x : Joint) (a : ℕ) (piece : Piece V) → Overflows T P x a piece →
      Overflows T P x 0 piece
  overflows_free x a piece o = record {
    steps = o.steps;
    reached = o.reached;
    run = o.run;
    traps = o.traps;
    lacks = o.lacks;
    taken = o.taken;
    honest = o.honest;
    begun = o.begun;
    trace = o.trace;
    deep = o.deep;
    timed = o.timed;
    grown = o.grown;
    costs = record { least = o.costs.least; most = λ all. absurd (never all) };
  }

same_state : (s u : MachineState) → Steps s ≡ Steps u → s ≡ u
same_state s u is = cc is

module _ {program : TacTree} {image : ImageParts} {turn_pays : ℕ} {set : ℕ → Bool}
    (built : IsBuilt set program image turn_pays) (inputs : List ℕ) (words : All IsWord inputs) (t : List Event)
    (observed : HasEmitted image inputs t) (lawful : legal program.interfaces t ≡ true) where
  abbrev roles : Roles
  roles = roles_in program.interfaces.main set t

  abbrev T : Setting
  T = setting program image inputs set turn_pays built.addresses

  abbrev denotations : Denotations
  denotations = code_denotations wrapping program

  at_work : (k : ℕ) → set k ≡ true → T.performs k ≡ true
  at_work k is = ap (λ b. b || not (nat_lt k (length image.comps))) is

  -- AT A STATE OF UNKNOWN CODE
  module _ (n : ℕ) (P : Standpoint) (number first : ℕ) (at_works : set P.comp ≡ true)
      (entered : denotations.entered P.comp (entered_by P.cross) ≡ Some number) where
    other_than : (k : ℕ) → T.performs k ≡ false → P.comp ≢ k
    other_than k honest same =
        let clash : true ≡ false = sym (at_work P.comp at_works) ∙ ap T.performs same ∙ honest in cc clash

    never : (x : Joint) → Settled T P x → AllHonest T → ⊥
    never x settled all =
        let clash : true ≡ false = sym (at_work P.comp at_works) ∙ all P.comp settled.steady.active in cc clash

    abbrev here : Here
    here = record { comp = P.comp; first = first }

    abbrev does : Meant → Piece (Option Value)
    does s = work program set t n P.comp number first s

    -- after a stretch
    gives_after : (x y : Joint) (piece : Piece (Option Value)) → Settled T P x → Leads T P x y 0 0 →
        UnknownGives program roles T P y piece → UnknownGives program roles T P x piece
    gives_after x y (Reached v s) settled l d = record {
      y = d.y;
      meant_is = d.meant_is;
      goes = d.goes;
      value = d.value;
      leads = leads_then T P x y d.y 0 0 0 settled l d.leads;
      settled = d.settled;
    }
    gives_after x y (Stopped end s) settled l g = emits_after T P x y 0 0 s l g

    comes_after : (x y : Joint) (piece : Piece (Option Value)) → Settled T P x → Leads T P x y 0 0 →
        UnknownComes program roles T P y piece → UnknownComes program roles T P x piece
    comes_after x y piece settled l (inl g) = inl (gives_after x y piece settled l g)
    comes_after x y piece settled l (inr o) = inr (overflows_after T P x y 0 0 piece l o)

    -- A SILENT STEP
    module _ (x : Joint) (settled : Settled T P x) (regs : List ℕ) (pc : ℕ) (after : Bytes) (zones : List (List Span))
        (keeps : KeepsOthers image P.comp x.bytes after x.zones zones) (goes : step image inputs (machine P x) ≡
        Steps (record (machine P x) { regs = regs; pc = pc; memory = after; zones = zones })) where
      abbrev moved : Joint
      moved = record x { pc = pc; regs = λ r. slice_index regs r; bytes = after; zones = zones }

      abbrev next : MachineState
      next = record (machine P x) { regs = regs; pc = pc; memory = after; zones = zones }

      next_steady : IsSteadyState image next
      next_steady =
          walks_steady image inputs built.linked.formed words 1 (machine P x) next
          (walk_one image inputs (machine P x) next goes) settled.steady

      next_is : machine P moved ≡ next
      next_is =
          ap (λ (regs : List ℕ). record (machine P x) { regs = regs; pc = pc; memory = after; zones = zones })
          (listed_is regs next_steady.regs next_steady.zero)

      walks_moved : Walks image inputs 1 (machine P x) (machine P moved)
      walks_moved =
          subst (Walks image inputs 1 (machine P x)) (sym next_is) (walk_one image inputs (machine P x) next goes)

      settled_silent : Settled T P moved
      settled_silent =
          settled_rezoned T built.linked.formed words P x 1 pc (λ r. slice_index regs r) after zones settled
          (λ k b a i cells honest live at below.
          keeps.word_is k (a + 4 * i) (other_than k honest)
          (block_owned settled.blocks k b a i cells honest live at below))
          (λ k honest. keeps.zone_is k (other_than k honest)) walks_moved

      leads_silent : Leads T P x moved 0 0
      leads_silent =
          leads_free T (never x settled) P x moved (1 + 0) 0
          (leads_rezoned T built.linked.formed words P x 1 0 pc (λ r. slice_index regs r) after zones
          (λ k q p. keeps.word_is k q (other_than k p.honest) p.guard.owned) walks_moved)

    -- A STEP THAT EMITS AN EVENT
    module _ (x : Joint) (settled : Settled T P x) (m : ℕ) (next : MachineState) (event : Event)
        (goes : step image inputs (machine P x) ≡ Steps next) (emits_trace : next.trace ≡ x.meant.trace ++ event ∷ [])
        (rest : Walks image inputs m next observed.last) where
      prefix : IsPrefix next.trace observed.last.trace
      prefix = walk_prefix image inputs built.linked.formed m next observed.last rest.by

      whole : t ≡ x.meant.trace ++ event ∷ prefix.more
      whole =
          sym observed.trace_is ∙ prefix.is ∙ ap (λ z. z ++ prefix.more) emits_trace ∙
          append_assoc x.meant.trace (event ∷ []) prefix.more

      legal_whole : legal program.interfaces (x.meant.trace ++ event ∷ prefix.more) ≡ true
      legal_whole = subst (λ z. legal program.interfaces z ≡ true) whole lawful

      has_stood : HasStood (at_start program.interfaces.main) x.meant.trace
      has_stood =
          legal_stood program.interfaces (at_start program.interfaces.main) x.meant.trace event prefix.more legal_whole

      place : has_stood.at ≡ standing_in (machine P x)
      place =
          (stands_so image inputs built.linked.formed settled.came.steps (machine P x) settled.came.walks).place
          has_stood.at (ap (λ main. stands_after_all (at_start main) x.meant.trace) built.linked.main ∙ has_stood.stood)

      stood_here : stands_after_all (at_start program.interfaces.main) x.meant.trace ≡ Some (standing_in (machine P x))
      stood_here = has_stood.stood ∙ ap Some place

      is_next : IsNext program set t n x.meant (standing_in (machine P x)) event
      is_next = record {
        more = prefix.more;
        whole = whole;
        stood = stood_here;
        allowed = allowed_at program.interfaces (at_start program.interfaces.main) x.meant.trace event prefix.more
            (standing_in (machine P x)) legal_whole stood_here;
      }

    -- AN OUTPUT
    module _ (x : Joint) (settled : Settled T P x) (goes : step image inputs (machine P x) ≡
        Steps (with_pc (on_output (machine P x)) (x.pc + 4))) where
      abbrev emitted_word : ℕ
      emitted_word = reg (machine P x) a0

      abbrev emitting : Joint
      emitting = record x { meant = emit_event (Out P.comp emitted_word) x.meant; pc = x.pc + 4 }

      walks_emitting : Walks image inputs 1 (machine P x) (machine P emitting)
      walks_emitting = walk_one image inputs (machine P x) (machine P emitting) goes

      settled_emitting : Settled T P emitting
      settled_emitting = record {
        blocks = settled.blocks;
        globals = settled.globals;
        saved = settled.saved;
        zones = settled.zones;
        inputs = settled.inputs;
        steady = walks_steady image inputs built.linked.formed words 1 _ _ walks_emitting settled.steady;
        came = came_by T 1 _ _ walks_emitting settled.came;
        depth = settled.depth;
        timed = before_timed x.meant.trace (Out P.comp emitted_word) x.meant.frames settled.timed;
      }

      leads_emitting : Leads T P x emitting 0 0
      leads_emitting = record {
        steps = 1;
        run = walks_emitting;
        costs = record { least = omega arith; most = λ all. absurd (never x settled all) };
        effect = record {
          grows = λ k b a e. e;
          lived = λ k b cells h live. inl (cells, live, refl);
          keeps = λ k q p. refl;
          depths = λ k. refl;
        };
      }

    -- AN INPUT
    module _ (x : Joint) (settled : Settled T P x) (goes : step image inputs (machine P x) ≡
        Steps (with_pc (on_input inputs (machine P x)) (x.pc + 4))) where
      abbrev read_regs : List ℕ
      read_regs = written (listed x.regs) a0 (input_at inputs x.input)

      abbrev reading : Joint
      reading = record x {
        meant = read_input P.comp x.meant;
        pc = x.pc + 4;
        regs = λ r. slice_index read_regs r;
        input = suc x.input;
      }

      -- with these registers, and this word read
      abbrev read_with : List ℕ → ℕ → MachineState
      read_with regs word = record (machine P x) {
        regs = regs;
        pc = x.pc + 4;
        input = suc x.input;
        trace = x.meant.trace ++ In P.comp word ∷ [];
      }

      word_is : input_at inputs x.input ≡ next_input x.meant.inputs
      word_is = sym (ap next_input settled.inputs ∙ next_at inputs x.input)

      walks_read : Walks image inputs 1 (machine P x) (read_with read_regs (input_at inputs x.input))
      walks_read = walk_one image inputs (machine P x) (read_with read_regs (input_at inputs x.input)) goes

      read_steady : IsSteadyState image (read_with read_regs (input_at inputs x.input))
      read_steady = walks_steady image inputs built.linked.formed words 1 _ _ walks_read settled.steady

      reading_is : machine P reading ≡ read_with read_regs (input_at inputs x.input)
      reading_is = ap₂ read_with (listed_is read_regs read_steady.regs read_steady.zero) (sym word_is)

      walks_reading : Walks image inputs 1 (machine P x) (machine P reading)
      walks_reading = subst (Walks image inputs 1 (machine P x)) (sym reading_is) walks_read

      settled_reading : Settled T P reading
      settled_reading = record {
        blocks = settled.blocks;
        globals = settled.globals;
        saved = settled.saved;
        zones = settled.zones;
        inputs = ap (drop 1) settled.inputs ∙ drop_next inputs x.input;
        steady = walks_steady image inputs built.linked.formed words 1 _ _ walks_reading settled.steady;
        came = came_by T 1 _ _ walks_reading settled.came;
        depth = settled.depth;
        timed = before_timed x.meant.trace (In P.comp (next_input x.meant.inputs)) x.meant.frames settled.timed;
      }

      leads_reading : Leads T P x reading 0 0
      leads_reading = record {
        steps = 1;
        run = walks_reading;
        costs = record { least = omega arith; most = λ all. absurd (never x settled all) };
        effect = record {
          grows = λ k b a e. e;
          lived = λ k b cells h live. inl (cells, live, refl);
          keeps = λ k q p. refl;
          depths = λ k. refl;
        };
      }

    module _ (follow : BodiesFollow program roles T n) (perform : PerformersDo program roles T n) (floors : AreFloors
        T.performs P.floor) where
      -- A CALL
      module _ (x : Joint) (settled : Settled T P x) (to index target : ℕ) (export : image_export image to target ≡
          Some index) (may : may_make image P.comp to index ≡ true) (goes : step image inputs (machine P x) ≡
          Steps (on_call (machine P x) to index (export_params image to index) target)) where
        abbrev passed : List ℕ
        passed = arguments (export_params image to index) (listed x.regs)

        abbrev values : List Value
        values = as_values passed

        abbrev calling : Event
        calling = Call P.comp to index passed

        module _ (next : IsNext program set t n x.meant (standing_in (machine P x)) calling) where
          offer : IsOffered program to index (length values)
          offer =
              offered program set t n P.comp number first x.meant (standing_in (machine P x)) entered built.rules to
              index passed next

          entry : IsExported program built.rules to index
          entry =
              enters program set t n P.comp number first x.meant (standing_in (machine P x)) entered built.rules to
              index passed next

          led : IsLed roles built inputs words to index
          led = record { number = entry.number; enters = entry.enters; f = entry.f; its = entry.its }

          head : IsEntered program entry.f offer.proto
          head =
              is_export program built.rules built.functions to index entry.number offer.proto entry.f offer.export
              entry.enters entry.its

          takes : export_params image to index ≡ length values
          takes = built.linked.params to index offer.proto offer.export ∙ offer.takes

          few : length values ≤ 8
          few = omega (arith, head.takes, offer.takes, (built.functions to entry.number entry.f entry.its).few_params)

          made : (left : ℕ) → x.meant.turns ≡ suc left →
              IsMade T built.linked.formed words P x to index values left target
          made left turns = record {
            goes = walk_one image inputs (machine P x) _ goes;
            may = may;
            takes = takes;
            few_args = few;
            all = are_words passed;
            passed = words_passed (x.inj P.comp) (export_params image to index) x.regs (omega (arith, takes, few))
                settled.steady.words;
            turn = turns;
            settled = settled;
            floors = floors;
            level = λ k honest same. absurd (other_than k honest (sym same));
            over = λ k q honest own there. there (λ same. other_than k honest (sym same));
          }

          callee_by : (performs : Bool) → set to ≡ performs → (left : ℕ) → x.meant.turns ≡ suc left →
              CallComes T P x (Cross to index)
              (call_cross denotations (bodies program roles n) P.comp to index values (turned left x.meant))
          callee_by true is left turns =
              into_unknown roles built inputs words n P x to
              index values offer led left target (made left turns) is perform
          callee_by false is left turns =
              into_code roles built inputs words n P x to index values offer led left target (made left turns) is follow
              (entry_is image to index target ((built.addresses P.comp).entry to index) export
              (built.linked.exports P.comp to index offer.proto offer.export))

          abbrev whole_call : Piece (Option Value)
          whole_call = and_then (turn x.meant) (λ u s.
              call_cross denotations (bodies program roles n) P.comp to index values s)

          call_comes : CallComes T P x (Cross to index) whole_call
          call_comes =
              where_turns T P x (Cross to index) x.meant.turns
              (λ s. call_cross denotations (bodies program roles n) P.comp to index values s)
              (λ left turns. callee_by (set to) refl left turns)

          abbrev again : Option Value → Meant → Piece (Option Value)
          again v s = bodies program roles n number here s

          -- after the call the function performs again
          goes_on : (v : Option Value) (s : Meant) → ComesBack T P x (Cross to index) v s →
              UnknownComes program roles T P x (again v s)
          goes_on v s c =
              subst (λ s. UnknownComes program roles T P x (again v s)) c.meant_is
              (comes_after x c.y (again v c.y.meant) settled (leads_free T (never x settled) P x c.y 1 0 c.leads)
              (perform P c.y number first
              (record { performs = at_works; settled = c.settled; floors = floors; entered = entered })))

          after_by : (piece : Piece (Option Value)) → CallComes T P x (Cross to index) piece →
              UnknownComes program roles T P x (and_then piece again)
          after_by (Reached v s) (inl c) = goes_on v s c
          after_by (Stopped end s) (inl g) = inl (emits_free T (never x settled) P x 1 s g)
          after_by piece (inr o) =
              inr (overflows_then T P x 0 piece again (λ v. bodies_go program roles n number here)
              (overflows_free T (never x settled) P x 1 piece o))

          call_followed : UnknownComes program roles T P x (does x.meant)
          call_followed =
              subst (UnknownComes program roles T P x)
              (sym (call_is program set t n P.comp number first x.meant (standing_in (machine P x)) entered built.rules
              to index passed next)) (after_by whole_call call_comes)

      -- A RETURN
      module _ (x : Joint) (settled : Settled T P x) (goes : step image inputs (machine P x) ≡
          Steps (on_return image (machine P x) P.cross)) where
        a0_is : reg (machine P x) a0 ≡ x.regs a0
        a0_is = read_listed x.regs a0 (omega arith)

        departs : (v : Option Value) → v ≡ departing image (x.regs a0) P.cross →
            UnknownComes program roles T P x (Reached v x.meant)
        departs v is = inl (record {
          y = x;
          meant_is = refl;
          goes = goes;
          value = is;
          leads = record {
            steps = 0;
            run = record { by = refl };
            costs = record { least = omega arith; most = λ all. absurd (never x settled all) };
            effect = record {
              grows = λ k b a e. e;
              lived = λ k b cells h live. inl (cells, live, refl);
              keeps = λ k q p. refl;
              depths = λ k. refl;
            };
          };
          settled = settled;
        })

        module _ (m : ℕ) (next : MachineState) (goes_to : step image inputs (machine P x) ≡ Steps next)
            (rest : Walks image inputs m next observed.last) where
          same_next : next ≡ on_return image (machine P x) P.cross
          same_next = same_state next (on_return image (machine P x) P.cross) (sym goes_to ∙ goes)

          leave_by : (cross : List Crossing) → P.cross ≡ cross → UnknownComes program roles T P x (does x.meant)
          leave_by [] is =
              let w : ℕ = reg (machine P x) a0 in
              let emits_trace : next.trace ≡ x.meant.trace ++ End P.comp w ∷ [] =
              ap (λ s. s.trace) (same_next ∙ ap (on_return image (machine P x)) is) in
              subst (UnknownComes program roles T P x)
              (sym (end_is program set t n P.comp number first x.meant (standing_in (machine P x)) entered w
              (is_next x settled m next (End P.comp w) goes_to emits_trace rest)))
              (departs (Some (Word w)) (ap (λ w. Some (Word w)) a0_is ∙ ap (departing image (x.regs a0)) (sym is)))
          leave_by (c ∷ cs) is =
              let value : Option ℕ = given_back (has_result image c.callee c.entry) (machine P x) in
              let emits_trace : next.trace ≡ x.meant.trace ++ Ret P.comp c.caller value ∷ [] =
              ap (λ s. s.trace) (same_next ∙ ap (on_return image (machine P x)) is) in
              subst (UnknownComes program roles T P x)
              (sym (return_is program set t n P.comp number first x.meant (standing_in (machine P x)) entered c.caller
              value (is_next x settled m next (Ret P.comp c.caller value) goes_to emits_trace rest)))
              (departs (option_value value)
              (ap (λ w. option_value (if has_result image c.callee c.entry then Some w else None)) a0_is ∙
              ap (departing image (x.regs a0)) (sym is)))

      -- ONE STEP, AND ALL AFTER IT
      abbrev Later : ℕ → Type 0
      Later m = (y : Joint) → Settled T P y → Walks image inputs m (machine P y) observed.last →
          UnknownComes program roles T P y (does y.meant)

      by_step : (m : ℕ) (x : Joint) → Settled T P x → (next : MachineState) → step image inputs (machine P x) ≡ Steps
          next → Walks image inputs m next observed.last → Later m →
          StepIs image inputs (machine P x) (step image inputs (machine P x)) →
          UnknownComes program roles T P x (does x.meant)
      by_step m x settled next goes rest later (traps reason is) =
          let clash : Steps next ≡ Traps reason = sym goes ∙ is in cc clash
      by_step m x settled next goes rest later (moves regs pc after zones keeps is) =
          let y : Joint = moved x settled regs pc after zones keeps is in
          let to_y : next ≡ machine P y =
          same_state next _ (sym goes ∙ is) ∙ sym (next_is x settled regs pc after zones keeps is) in
          comes_after x y (does x.meant) settled (leads_silent x settled regs pc after zones keeps is)
          (later y (settled_silent x settled regs pc after zones keeps is)
          (subst (λ s. Walks image inputs m s observed.last) to_y rest))
      by_step m x settled next goes rest later (calls to index target export may is) =
          let emits_trace = ap (λ s. s.trace) (same_state next _ (sym goes ∙ is)) in
          call_followed x settled to index target export may is
          (is_next x settled m next (calling x settled to index target export may is) goes emits_trace rest)
      by_step m x settled next goes rest later (leaves is) =
          leave_by x settled is m next goes rest P.cross refl
      by_step m x settled next goes rest later (emits may is) =
          let y : Joint = emitting x settled is in
          let to_y : next ≡ machine P y = same_state next (machine P y) (sym goes ∙ is) in
          let w : ℕ = emitted_word x settled is in
          subst (UnknownComes program roles T P x)
          (sym (output_is program set t n P.comp number first x.meant (standing_in (machine P x)) entered w
          (is_next x settled m next (Out P.comp w) goes (ap (λ s. s.trace) to_y) rest)))
          (comes_after x y (does y.meant) settled (leads_emitting x settled is)
          (later y (settled_emitting x settled is) (subst (λ s. Walks image inputs m s observed.last) to_y rest)))
      by_step m x settled next goes rest later (reads may is) =
          let y : Joint = reading x settled is in
          let to_y : next ≡ machine P y = same_state next _ (sym goes ∙ is) ∙ sym (reading_is x settled is) in
          subst (UnknownComes program roles T P x)
          (sym (input_is program set t n P.comp number first x.meant (standing_in (machine P x)) entered
          (is_next x settled m next (In P.comp (next_input x.meant.inputs)) goes (ap (λ s. s.trace) to_y) rest)))
          (comes_after x y (does y.meant) settled (leads_reading x settled is)
          (later y (settled_reading x settled is) (subst (λ s. Walks image inputs m s observed.last) to_y rest)))

      -- past the trace the function stops
      past : (x : Joint) → IsPrefix t x.meant.trace → UnknownComes program roles T P x (does x.meant)
      past x prefix =
          subst (UnknownComes program roles T P x)
          (sym (work_done program set t n P.comp number first x.meant prefix)) (inl (emits_here T P x 0))

      on_to_last : (m : ℕ) → Later m
      on_to_last zero x settled walks =
          let same : machine P x ≡ observed.last = cc (walks.by) in
          past x (record { more = []; is = ap (λ s. s.trace) same ∙ observed.trace_is ∙ sym (append-nil t) })
      on_to_last (suc m) x settled walks =
          let on : StepsOn image inputs m (machine P x) observed.last =
          first_step image inputs m (machine P x) observed.last walks in
          by_step m x settled on.next on.goes on.rest (on_to_last m)
          (step_is image inputs built.linked.formed (machine P x))

      -- from any state of the run
      pub followed : (x : Joint) → Settled T P x → UnknownComes program roles T P x (does x.meant)
      followed x settled = by (cases_lt observed.steps settled.came.steps)
        where
          by : (observed.steps < settled.came.steps) ⊎ (settled.came.steps ≤ observed.steps) →
              UnknownComes program roles T P x (does x.meant)
          by (inl over) =
              let gap : ℕ = settled.came.steps - observed.steps in
              let whole : settled.came.steps ≡ observed.steps + gap = omega (arith, over) in
              let rest : Walks image inputs gap observed.last (machine P x) =
              walk_rest image inputs observed.steps gap (start image) observed.last (machine P x) observed.walks
              (subst (λ k. Walks image inputs k (start image) (machine P x)) whole settled.came.walks) in
              past x
              (subst (λ z. IsPrefix z x.meant.trace) observed.trace_is
              (walk_prefix image inputs built.linked.formed gap observed.last (machine P x) rest.by))
          by (inr within) =
              let gap : ℕ = observed.steps - settled.came.steps in
              let whole : observed.steps ≡ settled.came.steps + gap = omega (arith, within) in
              on_to_last gap x settled
              (walk_rest image inputs settled.came.steps gap (start image) (machine P x) observed.last
              settled.came.walks
              (subst (λ k. Walks image inputs k (start image) observed.last) whole observed.walks))
