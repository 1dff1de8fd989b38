-- The code of a function follows the function, where the code of its body follows what its statements do.
use Rattle.sc_emit.proofs.Common.{Activation, All, ArePlaced, Arrives, Begins, Bool, Break, Calls, CallsFollow, CodeAt}
use Rattle.sc_emit.proofs.Common.{Comes, Continue, Emits, Ends, Entry, Exit, ExitGives, Export, Follows, FrameFits}
use Rattle.sc_emit.proofs.Common.{FrameTree, Function, FunctionFollows, FunctionGives, FunctionGoes, Gives, Goes, Grown}
use Rattle.sc_emit.proofs.Common.{HasNoGap, Here, InParts, Instr, IsActivation, IsAssignment, IsFrame, IsFunction}
use Rattle.sc_emit.proofs.Common.{IsTrue, IsWellFormed, IsWord, Joint, Left, Line, List, Main, Next, None, Option}
use Rattle.sc_emit.proofs.Common.{Overflows, Piece, Place, Reached, Ready, Return, Returns, Running, Setting, Settled}
use Rattle.sc_emit.proofs.Common.{Some, Standpoint, Starts, State as Meant, Stopped, TacFnTree, Temps, Value, Word, []}
use Rattle.sc_emit.proofs.Common.{activated, and_parts, and_then, ap, append_assoc, arith, arrives_with, at_brace}
use Rattle.sc_emit.proofs.Common.{begun, cases_lt, closed, closing, code_denotations, code_does, code_function}
use Rattle.sc_emit.proofs.Common.{completed, completed_length, data_start, done, done_goes, emits_after, emits_here}
use Rattle.sc_emit.proofs.Common.{ends_of, entered, eqb-true, false, frame_taken, function_follows, function_lines}
use Rattle.sc_emit.proofs.Common.{in_parts, inl, inr, intervals_of, is_activation, last as final, leads_then, length}
use Rattle.sc_emit.proofs.Common.{length-append, length-map, list_all, live_at, low_plainly, map, no_temps}
use Rattle.sc_emit.proofs.Common.{nothing_live, overflows_then, passes_words, plain, plainly, plainly_at, plan_of}
use Rattle.sc_emit.proofs.Common.{prologue, reached, ready_entered, refl, returns_with, row, runs_with, same, same_Some}
use Rattle.sc_emit.proofs.Common.{same_entry, seen_from, select_all, slice_get, stays, store_arguments, subst, suc, sym}
use Rattle.sc_emit.proofs.Common.{then_goes, trail, true, word_at, wrapping, zero, ℕ, ⊎_elim, ◌*◌, ◌++◌, ◌+◌, ◌-◌, ◌<◌}
use Rattle.sc_emit.proofs.Common.{◌==◌, ◌∙◌, ◌∷◌, ◌≡◌, ◌≤◌, ◌⊎◌}
use Rattle.sc_tac.specs.Prelude.{nothing}
use Rattle.sc_emit_select.specs.Prelude.{Piece as Code}
use Rattle.std.proofs.Common.{take}
use Rattle.sc_core_laws.proofs.Matching.{denotations_go}
use Rattle.sc_tac.specs.declared.program.TacTree.{TacTree}
use Rattle.sc_tac.proofs.Clear.{places_are_clear}
use Rattle.sc_tac.proofs.Matching.{code_obeys}
use Rattle.sc_emit.proofs.Gaps.{word_in, no_gap}
use Rattle.sc_emit.proofs.Entering.{HasEntered, has_entered, overflows_below}

-- what the closing brace of a function gives, if it is reached in `main` or in another
abbrev pub given_at_brace : (is_main : Bool) → Option Value
given_at_brace true = Some (Word 0)
given_at_brace false = None

at_brace_goes : (has_result is_main : Bool) (here : Here) → Goes (at_brace has_result is_main 0 here)
at_brace_goes true true here s = stays (Some (Word 0)) s
at_brace_goes true false here s = record { grown = same s; stop = tt }
at_brace_goes false is_main here s = stays None s

closed_goes : (exit : Exit) (has_result is_main : Bool) (here : Here) → Goes (closed exit has_result is_main 0 here)
closed_goes (Return v) has_result is_main here = stays v
closed_goes Next has_result is_main here = at_brace_goes has_result is_main here
closed_goes Break has_result is_main here = at_brace_goes has_result is_main here
closed_goes Continue has_result is_main here = at_brace_goes has_result is_main here

-- What comes of a function's body, and of the epilogue after it.
module _ (T : Setting) (R : Running) (y : Joint) (budget : ℕ) where
  abbrev P : Standpoint
  P = seen_from R.activation

  -- its call is left, or the meaning ends
  abbrev Closes : Piece (Option Value) → Type 0
  Closes (Reached v s) = Returns T R y budget v s
  Closes (Stopped end s) = Emits T P y budget s

  without_value : (v : Option Value) (s : Meant) → Returns T R y budget v s → Returns T R y budget None s
  without_value v s r = record {
    y = r.y;
    meant_is = r.meant_is;
    jump = r.jump;
    ra = r.ra;
    sp = r.sp;
    value = tt;
    leads = r.leads;
    settled = r.settled;
  }

  brace_closes : (has_result is_main : Bool) (here : Here) (s : Meant) →
      Returns T R y budget (given_at_brace is_main) s → Emits T P y budget s →
      Closes (at_brace has_result is_main 0 here s)
  brace_closes true true here s r g = r
  brace_closes true false here s r g = g
  brace_closes false is_main here s r g = without_value (given_at_brace is_main) s r

  module _ (size left : ℕ) (settled : Settled T P y) (has_result is_main : Bool) (here : Here)
      (way : (z : Joint) (temps : Temps) → z.pc ≡ y.pc + 4 * size → Ready T R nothing temps z →
      Returns T R z left (given_at_brace is_main) z.meant) where
    abbrev ends : Ends
    ends = record {
      left = left;
      following = y.pc + 4 * size;
      broken = y.pc + 4 * (size + 0);
      continued = y.pc + 4 * (size + 0);
    }

    arrived : (temps : Temps) (s : Meant) → Arrives T R nothing y budget left temps s (y.pc + 4 * size) →
        Returns T R y budget (given_at_brace is_main) s
    arrived temps s g =
        let r : Returns T R g.y left (given_at_brace is_main) g.y.meant = way g.y temps g.pc_is g.ready in
        record {
          y = r.y;
          meant_is = r.meant_is ∙ g.meant_is;
          jump = r.jump;
          ra = r.ra;
          sp = r.sp;
          value = r.value;
          leads = leads_then T P y g.y r.y budget left 1 settled g.leads r.leads;
          settled = r.settled;
        }

    brace : (temps : Temps) (s : Meant) → Arrives T R nothing y budget left temps s (y.pc + 4 * size) →
        Closes (at_brace has_result is_main 0 here s)
    brace temps s g =
        brace_closes has_result is_main here s (arrived temps s g)
        (subst (λ s. Emits T P y budget s) g.meant_is
        (emits_after T P y g.y budget left g.y.meant g.leads (emits_here T P g.y left)))

    exit_closes : (exit : Exit) (temps : Temps) (s : Meant) → ExitGives T R nothing_live y budget ends exit temps s →
        Closes (closed exit has_result is_main 0 here s)
    exit_closes (Return v) temps s g = g
    exit_closes Next temps s g = brace temps s g
    exit_closes Break temps s g =
        brace temps s (arrives_with T R nothing y budget budget left left temps s (y.pc + 4 * (size + 0))
        (y.pc + 4 * size) (omega arith) (omega arith) (omega arith) g)
    exit_closes Continue temps s g =
        brace temps s (arrives_with T R nothing y budget budget left left temps s (y.pc + 4 * (size + 0))
        (y.pc + 4 * size) (omega arith) (omega arith) (omega arith) g)

    body_closes : (piece : Piece (Left Temps)) → Gives T R nothing_live y budget ends piece →
        Closes (and_then piece (λ l s. closed l.exit has_result is_main 0 here s))
    body_closes (Reached l s) g = exit_closes l.exit l.carried s g
    body_closes (Stopped end s) g = g

-- A parameter's variable is of one cell.

params_stored : (params o n : ℕ) (cells : List ℕ) → list_all (λ n. n == 1) (take params cells) ≡ true → o < params →
    slice_get cells o ≡ Some n → 1 ≤ n
params_stored zero o n cells h less e = absurd (omega (arith, less))
params_stored (suc params) o n [] h less e = cc e
params_stored (suc params) zero n (m ∷ cells) h less e =
    let one : m ≡ 1 = eqb-true m 1 (and_parts (m == 1) (list_all (λ n. n == 1) (take params cells)) h).0 in
    let same : m ≡ n = same_Some m n e in omega (arith, one, same)
params_stored (suc params) (suc o) n (m ∷ cells) h less e =
    params_stored params o n cells (and_parts (m == 1) (list_all (λ n. n == 1) (take params cells)) h).1
    (omega (arith, less)) e

-- What a function does only goes on where its calls do.
function_goes : (f : TacFnTree) → FunctionGoes (code_function wrapping f)
function_goes f =
    let alone : TacTree = record {
      interfaces = record { comps = []; main = 0 };
      sections = record { structs = []; globals = []; functions = f ∷ [] } ∷ [];
    } in
    denotations_go (code_denotations wrapping alone) (code_obeys.itself wrapping alone) 0 0 (code_function wrapping f)
    refl

module _ (T : Setting) (f : TacFnTree) (frame : FrameTree) (places : List Place) (near : Bool) where
  abbrev pub in_call : Activation → (last : ℕ) → Running
  in_call A last = record { activation = A; places = places; plan = plan_of f near; last = last }

  -- a call of the function runs in a compartment
  pub record IsRun (comp : ℕ) (A : Activation) : Type 0 where
    pub is : IsActivation T.performs f.objects places f.nodes A
    pub frame_is : A.frame ≡ frame
    pub comp_is : A.here.comp ≡ comp

  -- each temporary has a place of the frame
  abbrev pub PlacesAll : Type 0
  PlacesAll = (A : Activation) (last : ℕ) → A.frame ≡ frame → ArePlaced (in_call A last)

  -- the code of the body follows what its statements do, in each call
  abbrev pub BodyFollows : ℕ → Type 0
  BodyFollows comp =
      (calls : Calls) → CallsFollow T calls → (A : Activation) (last : ℕ) → IsRun comp A → HasNoGap T (in_call A last) →
      Follows T (in_call A last) (code_does wrapping A.here calls f.body) (select_all frame places (plan_of f near)
      f.body)
      (row (map trail f.body))

  -- the code of the closing brace comes to the jump back
  abbrev pub BraceReturns : ℕ → Type 0
  BraceReturns comp =
      (A : Activation) (last : ℕ) → IsRun comp A → HasNoGap T (in_call A last) → (x : Joint) (temps : Temps) →
      Ready T (in_call A last) nothing temps x → CodeAt T.image A.here.comp x.pc (closing frame places f.entry) →
      Returns T (in_call A last) x (length (closing frame places f.entry)) (given_at_brace (same_entry Main f.entry))
      x.meant

  closing_some : (entry : Option Entry) → 1 ≤ length (closing frame places entry)
  closing_some None = omega arith
  closing_some (Some Main) = omega arith
  closing_some (Some (Export index)) = omega arith

  module _ (formed : IsWellFormed T.image) (inputs : All IsWord T.inputs) (rules : IsFunction f) (whole : IsFrame frame)
      (frame_fits : FrameFits f.objects places f.nodes frame) (fits : frame.bytes ≤ 32768)
      (assigned : IsAssignment (intervals_of f) places) (words : IsTrue (passes_words f.params f.objects)) where
    abbrev function : Function
    function = code_function wrapping f

    abbrev body : Code
    body = select_all frame places (plan_of f near) f.body

    abbrev prologue_code : List Instr
    prologue_code = prologue frame places f.params

    abbrev epilogue_code : List Instr
    epilogue_code = closing frame places f.entry

    abbrev lines : List Line
    lines = function_lines frame places (plan_of f near) f

    abbrev steps : ℕ
    steps = length prologue_code

    in_order : lines ≡ plainly prologue_code ++ (body.lines 0 0 ++ plainly epilogue_code)
    in_order = append_assoc (plainly prologue_code) (body.lines 0 0) (plainly epilogue_code)

    all_lines : length lines ≡ steps + (length (body.lines 0 0) + length epilogue_code)
    all_lines = omega (
      arith,
      ap length in_order,
      length-append (plainly prologue_code) (body.lines 0 0 ++ plainly epilogue_code),
      length-append (body.lines 0 0) (plainly epilogue_code),
      length-map prologue_code plain,
      length-map epilogue_code plain,
    )

    variables_some : (params o n : ℕ) → params ≡ f.params → o < params → slice_get f.objects o ≡ Some n → 1 ≤ n
    variables_some params o n same less e = params_stored f.params o n f.objects words (omega (arith, same, less)) e

    -- A call, in the compartment whose code it is.
    module _ (calls : Calls) (follow : CallsFollow T calls) (P : Standpoint) (x : Joint) (args : List Value)
        (address ra_is budget : ℕ) (begins : Begins T P function args address ra_is x) (long : length args ≡ f.params)
        (code : CodeAt T.image P.comp x.pc (completed (T.addresses P.comp) x.pc None lines))
        (enough : length lines ≤ budget) where
      abbrev start_state : Meant
      start_state = begun P.comp function args x.meant

      abbrev first : ℕ
      first = length (x.meant.memory P.comp)

      abbrev here : Here
      here = record { comp = P.comp; first = first }

      abbrev timed : Piece (Option Value)
      timed = runs_with T calls P.comp function args x.meant

      at_start : InParts (T.addresses P.comp) T.image P.comp x.pc (plainly prologue_code)
          (body.lines 0 0 ++ plainly epilogue_code)
      at_start =
          in_parts (T.addresses P.comp) T.image P.comp x.pc (plainly prologue_code)
          (body.lines 0 0 ++ plainly epilogue_code)
          (low_plainly (T.addresses P.comp) prologue_code)
          (subst (λ ls. CodeAt T.image P.comp x.pc (completed (T.addresses P.comp) x.pc None ls)) in_order code)

      entrance_at : CodeAt T.image P.comp x.pc prologue_code
      entrance_at = plainly_at (T.addresses P.comp) T.image P.comp x.pc prologue_code at_start.prefix

      after_at : CodeAt T.image P.comp (x.pc + 4 * steps) (completed (T.addresses P.comp) (x.pc + 4 * steps) None
          (body.lines 0 0 ++ plainly epilogue_code))
      after_at =
          subst (λ n. CodeAt T.image P.comp (x.pc + 4 * n) (completed (T.addresses P.comp) (x.pc + 4 * n) None
          (body.lines 0 0 ++ plainly epilogue_code))) (length-map prologue_code plain) at_start.back

      -- the address of the last word
      abbrev end : ℕ
      end = x.pc + 4 * (length lines - 1)

      end_word : (w : ℕ) × (word_at T.image P.comp end ≡ Some w)
      end_word =
          word_in T.image P.comp (completed (T.addresses P.comp) x.pc None lines) x.pc (length lines - 1)
          (omega (arith, completed_length (T.addresses P.comp) x.pc None lines, all_lines, closing_some f.entry)) code

      timed_grown : Grown start_state (final timed)
      timed_grown =
          (then_goes start_state (function.does calls here start_state)
          (λ v t. Reached v (done P.comp function first t)) (function_goes f calls follow.goes here start_state)
          (λ v t. reached v t (done P.comp function first t) (done_goes P.comp function first t))).grown

      abbrev Goal : Type 0
      Goal = FunctionGives T P x budget ra_is timed ⊎ Overflows T P x budget timed

      too_low : P.bound < data_start P.comp + frame.bytes → Goal
      too_low low =
          let both = length-append (frame_taken frame.bytes) (store_arguments frame places f.params 0) in
          inr (overflows_below T formed inputs begins f.params whole frame_fits frame_fits.bounded entrance_at budget
          timed (omega (arith, frame_fits.bounded, fits)) low (omega (arith, both, all_lines, enough)) timed_grown)

      -- The frame fits.
      module _ (runs : BodyFollows P.comp) (way : BraceReturns P.comp) (low : ℕ)
          (bound_is : P.bound ≡ low + frame.bytes) (start : data_start P.comp ≤ low) where
        entering : HasEntered T formed inputs begins f.params whole frame_fits frame_fits.bounded entrance_at low
            bound_is start long (omega (arith, rules.few_params)) rules.params_stored
            (λ o n less e. variables_some f.params o n refl less e)
        entering =
            has_entered T formed inputs begins f.params whole frame_fits frame_fits.bounded entrance_at low bound_is
            start long (omega (arith, rules.few_params)) rules.params_stored
            (λ o n less e. variables_some f.params o n refl less e)

        abbrev A : Activation
        A = activated P x frame low ra_is

        abbrev R : Running
        R = in_call A end

        abbrev Q : Standpoint
        Q = seen_from A

        abbrev y : Joint
        y = entered P x function args frame low (x.pc + 4 * steps) entering.regs entering.bytes

        run : IsRun P.comp A
        run = record {
          is = is_activation T formed inputs begins low whole frame_fits frame_fits.bounded bound_is start;
          frame_is = refl;
          comp_is = refl;
        }

        gapless : HasNoGap T R
        gapless = no_gap T R end_word.0 end_word.1

        F : Follows T R (code_does wrapping here calls f.body) body (row (map trail f.body))
        F = runs calls follow A end run gapless

        in_back : InParts (T.addresses P.comp) T.image P.comp (x.pc + 4 * steps) (body.lines 0 0)
            (plainly epilogue_code)
        in_back =
            in_parts (T.addresses P.comp) T.image P.comp (x.pc + 4 * steps) (body.lines 0 0) (plainly epilogue_code)
            (F.closed 0 0) after_at

        closing_at : CodeAt T.image P.comp (x.pc + 4 * steps + 4 * body.size) epilogue_code
        closing_at =
            plainly_at (T.addresses P.comp) T.image P.comp (x.pc + 4 * steps + 4 * body.size) epilogue_code
            (subst (λ n. CodeAt T.image P.comp (x.pc + 4 * steps + 4 * n) (completed (T.addresses P.comp)
            (x.pc + 4 * steps + 4 * n) None (plainly epilogue_code))) (F.sized 0 0) in_back.back)

        abbrev left : ℕ
        left = budget - (steps + body.size)

        starts : Starts T R body (row (map trail f.body)) nothing_live no_temps y 0 0
        starts = record {
          ready = ready_entered T formed inputs begins low whole frame_fits frame_fits.bounded bound_is start steps
              (x.pc + 4 * steps) entering.regs entering.bytes entering.enters
              (λ o n less e. variables_some (length args) o n long less e) (plan_of f near) end
              (live_at (row (map trail f.body)) nothing_live);
          clear = places_are_clear f places rules assigned;
          stands = in_back.prefix;
          breaks = omega (arith, all_lines, F.sized 0 0, closing_some f.entry);
          continues = omega (arith, all_lines, F.sized 0 0, closing_some f.entry);
        }

        brace_returns : (z : Joint) (temps : Temps) → z.pc ≡ y.pc + 4 * body.size → Ready T R nothing temps z →
            Returns T R z left (given_at_brace (same_entry Main f.entry)) z.meant
        brace_returns z temps here ready =
            returns_with T R z (length epilogue_code) left (given_at_brace (same_entry Main f.entry)) z.meant
            (omega (arith, all_lines, F.sized 0 0, enough))
            (way A end run gapless z temps ready (subst (λ pc. CodeAt T.image P.comp pc epilogue_code) (sym here)
            closing_at))

        abbrev stated : Piece (Left Temps)
        stated = code_does wrapping here calls f.body no_temps start_state

        abbrev value : Piece (Option Value)
        value = and_then stated (λ l s. closed l.exit f.result (same_entry Main f.entry) 0 here s)

        comes : Comes T R nothing_live y (body.size + left) (ends_of body y.pc left 0 0) stated
        comes = F.runs nothing_live no_temps y left 0 0 starts

        closes : Closes T R y (body.size + left) value ⊎ Overflows T Q y (body.size + left) value
        closes =
            ⊎_elim
            (λ g. inl (body_closes T R y (body.size + left) body.size left starts.ready.settled f.result
            (same_entry Main f.entry) here brace_returns stated g))
            (λ o. inr (overflows_then T Q y (body.size + left) stated
            (λ l s. closed l.exit f.result (same_entry Main f.entry) 0 here s)
            (λ l. closed_goes l.exit f.result (same_entry Main f.entry) here) o)) comes

        high_enough : Goal
        high_enough =
            let all : steps + (body.size + left) ≡ budget = omega (arith, all_lines, F.sized 0 0, enough) in
            subst (λ n. FunctionGives T P x n ra_is timed ⊎ Overflows T P x n timed) all
            (function_follows T formed inputs begins low whole frame_fits frame_fits.bounded bound_is start steps
            (x.pc + 4 * steps) entering.regs entering.bytes entering.enters
            (λ o n less e. variables_some (length args) o n long less e) end (plan_of f near) (body.size + left) value
            closes)

      call_follows : BodyFollows P.comp → BraceReturns P.comp → Goal
      call_follows runs way =
          ⊎_elim too_low
          (λ high. high_enough runs way (P.bound - frame.bytes) (omega (arith, high)) (omega (arith, high)))
          (cases_lt P.bound (data_start P.comp + frame.bytes))

    -- The code of a function follows the function.
    pub code_follows : (comp address budget : ℕ) →
        CodeAt T.image comp address (completed (T.addresses comp) address None lines) → length lines ≤ budget →
        BodyFollows comp → BraceReturns comp →
        FunctionFollows T comp address budget f.params (code_function wrapping f)
    code_follows comp address budget code enough runs way calls follow P x args ra_is same long begins =
        subst (λ c. FunctionGives T P x budget ra_is (runs_with T calls c function args x.meant) ⊎
        Overflows T P x budget (runs_with T calls c function args x.meant)) same
        (call_follows calls follow P x args address ra_is budget begins long
        (subst (λ pc. CodeAt T.image P.comp pc (completed (T.addresses P.comp) pc None lines)) (sym begins.pc)
        (subst (λ c. CodeAt T.image c address (completed (T.addresses c) address None lines)) (sym same) code)) enough
        (subst BodyFollows (sym same) runs) (subst BraceReturns (sym same) way))
