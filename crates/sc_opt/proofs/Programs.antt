-- A program of three-address code runs as it does where each of its functions is optimised, whoever performs.
use Rattle.std.proofs.Common.{Bool, List, None, Option, Some, [], ap, ap₂, cond, false, if◌then◌else◌, length}
use Rattle.std.proofs.Common.{arith as numbers, map, nat_lt, not, refl, slice_get, subst, suc, sym, true, zero, ℕ}
use Rattle.std.proofs.Common.{◌+◌}
use Rattle.std.proofs.Common.{◌==◌, ◌∙◌, ◌∷◌, ◌≡◌}
use Rattle.std.proofs.lemmas.Bool.{and_from}
use Rattle.std.proofs.lemmas.List.{length-map}
use Rattle.std.proofs.lemmas.Option.{same_Some, slice_get-map}
use Rattle.std.specs.List.{list_all, position_or_len}
use Rattle.std.specs.Option.{option_map}
use Rattle.std.specs.Prelude.{slice_index_or}
use Rattle.sc_base.proofs.Bools.{and_first, and_rest}
use Rattle.sc_event.specs.Prelude.{export_at}
use Rattle.sc_event.specs.declared.interface.Interfaces.{Interfaces}
use Rattle.sc_event.specs.declared.interface.Proto.{Proto}
use Rattle.sc_event.specs.declared.row.Entry.{Entry}
use Rattle.sc_core.proofs.Induction.{Each, everywhere as everywhere_in}
use Rattle.sc_core.specs.Calls.{function}
use Rattle.sc_core.specs.Prelude.{Arith, Denotations, Roles, c_arith, roles_in}
use Rattle.sc_core.specs.Prelude.{run_by, run_step, scripted_step, wrapping}
use Rattle.sc_core.specs.declared.expr.CallTarget.{CallTarget}
use Rattle.sc_core.specs.declared.expr.CallTarget.TheVariants.{Cross, Input, Own}
use Rattle.sc_core_laws.proofs.Promises.{promising_run_alike}
use Rattle.sc_core_laws.specs.Prelude.{AgreeWithPromises, DenotationsAgreeWithPromises, IfReached, Meets, Promised}
use Rattle.sc_core_laws.specs.Prelude.{Promises}
use Rattle.sc_core_laws.specs.Prelude.{RunsAgree, promised_by}
use Rattle.sc_core_laws.specs.Promises.{has_result}
use Rattle.sc_tac.proofs.Induction.{Inside, stmt_induction}
use Rattle.sc_tac.specs.Prelude.{all_true, calls_exports, calls_own, code_denotations, code_function}
use Rattle.sc_tac.specs.Prelude.{code_functions, code_globals, cross_call_fits, everywhere, first_blocks}
use Rattle.sc_tac.specs.Prelude.{function_entered}
use Rattle.sc_tac.specs.Prelude.{in_section, numbered, own_call_fits, passes_words, same_entry}
use Rattle.sc_tac.specs.Prelude.{with_parts}
use Rattle.sc_tac.specs.declared.function.TacFnTree.{TacFnTree}
use Rattle.sc_tac.specs.declared.program.TacSection.{TacSection}
use Rattle.sc_tac.specs.declared.program.TacTree.{TacTree}
use Rattle.sc_tac.specs.declared.stmt.TacStmt.{TacStmt, TacStmt-F, fold-TacStmt, fold-roll-TacStmt, map-TacStmt}
use Rattle.sc_tac.specs.declared.stmt.TacStmt.TheOpen as tac
use Rattle.sc_opt.specs.Laws.{KeepsRules, RunsAlike}
use Rattle.sc_opt.specs.Optimised.{optimised_function, optimised_program, optimised_section}
use Rattle.sc_opt.specs.Pass.{takes_promised}
use Rattle.sc_opt.proofs.Exits.{function_gives}
use Rattle.sc_opt.proofs.Fitting.{c_fits, wrapping_fits}
use Rattle.sc_opt.proofs.Passes.{optimised_alike}
use Rattle.sc_opt.proofs.Values.{Fits}

-- functions promise a value where they have a result
abbrev promised : Option TacFnTree → Bool
promised None = false
promised (Some f) = f.result

abbrev promised_in : Option TacSection → ℕ → Bool
promised_in None number = false
promised_in (Some section) number = promised (slice_get section.functions number)

abbrev pub results : TacTree → Promises
results program comp number = promised_in (slice_get program.sections comp) number

abbrev in_place : {B : Type 0} → (TacSection → List B) → Option TacSection → List B
in_place f None = []
in_place f (Some section) = f section

indexed : {B : Type 0} (f : TacSection → List B) (sections : List TacSection) (comp : ℕ) →
    slice_index_or (map f sections) comp [] ≡ in_place f (slice_get sections comp)
indexed f [] comp = refl
indexed f (x ∷ xs) zero = refl
indexed f (x ∷ xs) (suc comp) = indexed f xs comp

-- entries lead to the same functions
same_prefix : (entry : Entry) (fs : List TacFnTree) →
    position_or_len {X = TacFnTree} (λ f. same_entry entry f.entry) (map optimised_function fs)
    ≡ position_or_len {X = TacFnTree} (λ f. same_entry entry f.entry) fs
same_prefix entry [] = refl
same_prefix entry (f ∷ fs) = ap (λ n. if not (same_entry entry f.entry) then 1 + n else 0) (same_prefix entry fs)

same_place : (entry : Entry) (o : Option TacSection) →
    function_entered entry (option_map optimised_section o) ≡ function_entered entry o
same_place entry None = refl
same_place entry (Some section) = ap₂ (λ n count. cond (nat_lt n count) (Some n) None)
    (same_prefix entry section.functions) (length-map section.functions optimised_function)

-- and globals begin the same
same_blocks : (o : Option TacSection) → first_blocks (option_map optimised_section o) ≡ first_blocks o
same_blocks None = refl
same_blocks (Some section) = refl

same_globals : (program : TacTree) → code_globals (optimised_program program).sections ≡ code_globals program.sections
same_globals program = λ i comp. (ap first_blocks (slice_get-map optimised_section program.sections comp)
    ∙ same_blocks (slice_get program.sections comp)) i

-- WHAT IS TAKEN IS PROMISED
all_at : {X : Type 0} (test : X → Bool) (xs : List X) (i : ℕ) (x : X) → list_all test xs ≡ true →
    slice_get xs i ≡ Some x → test x ≡ true
all_at test [] i x h e = absurd (cc e)
all_at test (y ∷ ys) zero x h e = subst (λ x. test x ≡ true) (same_Some y x e) (and_first (test y) _ h)
all_at test (y ∷ ys) (suc i) x h e = all_at test ys i x (and_rest (test y) _ h) e

numbered_at : (test : ℕ → TacSection → Bool) (first : ℕ) (sections : List TacSection) (k : ℕ) (section : TacSection) →
    numbered test first sections ≡ true → slice_get sections k ≡ Some section → test (first + k) section ≡ true
numbered_at test first [] k section h e = absurd (cc e)
numbered_at test first (one ∷ others) zero section h e =
    let here : first ≡ first + 0 = omega numbers in
    subst (λ c. test c section ≡ true) here
    (subst (λ section. test first section ≡ true) (same_Some one section e) (and_first (test first one) _ h))
numbered_at test first (one ∷ others) (suc k) section h e =
    let there : suc first + k ≡ first + suc k = omega numbers in
    subst (λ c. test c section ≡ true) there
    (numbered_at test (suc first) others k section (and_rest (test first one) _ h) e)

module _ (interfaces : Interfaces) (comp : ℕ) (section : TacSection) (gives : CallTarget → Bool)
    (own : (number : ℕ) → promised (slice_get section.functions number) ≡ true → gives (Own number) ≡ true)
    (cross : (to index : ℕ) → has_result (export_at interfaces to index) ≡ true → gives (Cross to index) ≡ true)
    (input : gives Input ≡ true) where
  abbrev owns : TacStmt → Bool
  owns = fold-TacStmt Bool (with_parts (calls_own interfaces comp section))

  abbrev crosses : TacStmt → Bool
  crosses = fold-TacStmt Bool (with_parts (calls_exports interfaces comp section))

  abbrev takes : TacStmt → Bool
  takes = fold-TacStmt Bool (with_parts (takes_promised gives))

  abbrev Taken : TacStmt → Type 0
  Taken stmt = owns stmt ≡ true → crosses stmt ≡ true → takes stmt ≡ true

  row_taken : (stmts : List TacStmt) → Each Taken stmts → all_true (map owns stmts) ≡ true →
      all_true (map crosses stmts) ≡ true → all_true (map takes stmts) ≡ true
  row_taken [] each h k = refl
  row_taken (s ∷ rest) each h k = and_from (takes s) _ (each.0 (and_first (owns s) _ h) (and_first (crosses s) _ k))
      (row_taken rest each.1 (and_rest (owns s) _ h) (and_rest (crosses s) _ k))

  own_result : (f : Option TacFnTree) (d args : ℕ) → own_call_fits f (Some d) args ≡ true → promised f ≡ true
  own_result None d args h = h
  own_result (Some f) d args h =
      and_rest (passes_words f.params f.objects) _ (and_rest (f.params == args) _ h)

  cross_result : (proto : Option Proto) (d args : ℕ) → cross_call_fits proto (Some d) args ≡ true →
      has_result proto ≡ true
  cross_result None d args h = h
  cross_result (Some proto) d args h = and_rest (length proto.params == args) _ h

  layer_taken : (k : TacStmt-F TacStmt) → Inside Taken k →
      with_parts (calls_own interfaces comp section) (map-TacStmt _ _ owns k) ≡ true →
      with_parts (calls_exports interfaces comp section) (map-TacStmt _ _ crosses k) ≡ true →
      with_parts (takes_promised gives) (map-TacStmt _ _ takes k) ≡ true
  layer_taken (tac.CallOwn (Some d) function args) i h k = and_from (gives (Own function)) true (own function
      (own_result (slice_get section.functions function) d (length args) (and_first _ true h))) refl
  layer_taken (tac.CallOwn None function args) i h k = refl
  layer_taken (tac.CallCross (Some d) to index args) i h k = and_from (gives (Cross to index)) true (cross to index
      (cross_result (export_at interfaces to index) d (length args) (and_first _ true k))) refl
  layer_taken (tac.CallCross None to index args) i h k = refl
  layer_taken (tac.Input (Some d)) i h k = and_from _ true input refl
  layer_taken (tac.Input None) i h k = refl
  layer_taken (tac.If cond a b) i h k =
      and_from (all_true (map takes a)) _
      (row_taken a i.0 (and_first (all_true (map owns a)) _ h) (and_first (all_true (map crosses a)) _ k))
      (and_from (all_true (map takes b)) true
      (row_taken b i.1 (and_first (all_true (map owns b)) true (and_rest (all_true (map owns a)) _ h))
      (and_first (all_true (map crosses b)) true (and_rest (all_true (map crosses a)) _ k))) refl)
  layer_taken (tac.Loop a b c) i h k =
      let later = and_rest (all_true (map owns a)) _ h in
      let further = and_rest (all_true (map crosses a)) _ k in
      and_from (all_true (map takes a)) _
      (row_taken a i.0 (and_first (all_true (map owns a)) _ h) (and_first (all_true (map crosses a)) _ k))
      (and_from (all_true (map takes b)) _
      (row_taken b i.1 (and_first (all_true (map owns b)) _ later) (and_first (all_true (map crosses b)) _ further))
      (and_from (all_true (map takes c)) true
      (row_taken c i.2 (and_first (all_true (map owns c)) true (and_rest (all_true (map owns b)) _ later))
      (and_first (all_true (map crosses c)) true (and_rest (all_true (map crosses b)) _ further))) refl))
  layer_taken (tac.Const dest value) i h k = refl
  layer_taken (tac.Copy dest from) i h k = refl
  layer_taken (tac.Op dest o left right) i h k = refl
  layer_taken (tac.ObjectPlace dest object) i h k = refl
  layer_taken (tac.GlobalPlace dest global) i h k = refl
  layer_taken (tac.Load dest place pointer) i h k = refl
  layer_taken (tac.Store place value) i h k = refl
  layer_taken tac.Break i h k = refl
  layer_taken tac.Continue i h k = refl
  layer_taken (tac.Output value) i h k = refl
  layer_taken (tac.Alloc dest count words) i h k = refl
  layer_taken (tac.Free pointer) i h k = refl
  layer_taken (tac.Return value) i h k = refl

  stmt_taken : (stmt : TacStmt) → Taken stmt
  stmt_taken = stmt_induction Taken (λ l i h k. fold-roll-TacStmt Bool (with_parts (takes_promised gives)) l
      ∙ layer_taken l i (sym (fold-roll-TacStmt Bool (with_parts (calls_own interfaces comp section)) l) ∙ h)
      (sym (fold-roll-TacStmt Bool (with_parts (calls_exports interfaces comp section)) l) ∙ k))

  all_taken : (body : List TacStmt) → everywhere (calls_own interfaces comp section) body ≡ true →
      everywhere (calls_exports interfaces comp section) body ≡ true → everywhere (takes_promised gives) body ≡ true
  all_taken body h k = row_taken body (everywhere_in Taken stmt_taken body) h k

-- A PROGRAM THAT KEEPS THE RULES
module _ (arith : Arith) (fits : Fits arith) (program : TacTree) (rules : KeepsRules program) where
  abbrev L : Denotations
  L = code_denotations arith program

  abbrev M : Denotations
  M = code_denotations arith (optimised_program program)

  first_at : (comp number : ℕ) (o : Option TacSection) → slice_get program.sections comp ≡ o →
      function L comp number ≡ slice_get (in_place (code_functions arith) o) number
  first_at comp number o is = ap (λ fs. slice_get fs number) (indexed (code_functions arith) program.sections comp
      ∙ ap (in_place (code_functions arith)) is)

  second_at : (comp number : ℕ) (o : Option TacSection) → slice_get program.sections comp ≡ o →
      function M comp number ≡ slice_get (in_place (code_functions arith) (option_map optimised_section o)) number
  second_at comp number o is = ap (λ fs. slice_get fs number)
      (indexed (code_functions arith) (map optimised_section program.sections) comp
      ∙ ap (in_place (code_functions arith)) (slice_get-map optimised_section program.sections comp
      ∙ ap (option_map optimised_section) is))

  module _ (comp number : ℕ) (section : TacSection) (f : TacFnTree)
      (is : slice_get program.sections comp ≡ Some section) (at : slice_get section.functions number ≡ Some f) where
    -- a test of the statements of each section's functions
    in_function : (test : ℕ → TacSection → TacStmt-F Bool → Bool) →
        numbered (λ comp section. in_section (test comp section) section) 0 program.sections ≡ true →
        everywhere (test comp section) f.body ≡ true
    in_function test h =
        let same : 0 + comp ≡ comp = omega numbers in
        all_at {X = TacFnTree} (λ f. everywhere (test comp section) f.body) section.functions number f
        (subst (λ c. in_section (test c section) section ≡ true) same
        (numbered_at (λ comp section. in_section (test comp section) section) 0 program.sections comp section h is)) at

    takes_given : everywhere (takes_promised (promised_by L M (results program) comp)) f.body ≡ true
    takes_given = all_taken program.interfaces comp section (promised_by L M (results program) comp)
        (λ number h. ap (λ o. promised_in o number) is ∙ h) (λ to index h. h) refl f.body
        (in_function (calls_own program.interfaces) rules.rules.own_calls)
        (in_function (calls_exports program.interfaces) rules.rules.cross_calls)

    agrees : AgreeWithPromises L M (results program) comp number (code_function arith f)
        (code_function arith (optimised_function f))
    agrees =
        let its = rules.functions comp number section f is at in
        let result_is : results program comp number ≡ f.result =
        ap (λ o. promised_in o number) is ∙ ap promised at in
        record {
          headers = record { cells = refl; frame_size = refl };
          does = λ C D agree giving first s. optimised_alike arith fits (promised_by L M (results program) comp)
              (record { comp = comp; first = first }) f its takes_given C D agree
              (λ target h args s t v e. subst (IfReached (Promised (promised_by L M (results program) comp target))) e
              (giving target args s) h) s;
          gives = λ C first s. subst (λ b. IfReached (Promised b) ((code_function arith f).does C
              (record { comp = comp; first = first }) s)) (sym result_is)
              (function_gives arith f its.results_returned C (record { comp = comp; first = first }) s);
        }

  meet : (comp number : ℕ) (section : TacSection) → slice_get program.sections comp ≡ Some section →
      (o : Option TacFnTree) → slice_get section.functions number ≡ o →
      Meets (AgreeWithPromises L M (results program) comp number) (option_map (code_function arith) o)
      (option_map (code_function arith) (option_map optimised_function o))
  meet comp number section is None at = tt
  meet comp number section is (Some f) at = agrees comp number section f is at

  section_agrees : (comp number : ℕ) (o : Option TacSection) → slice_get program.sections comp ≡ o →
      Meets (AgreeWithPromises L M (results program) comp number) (slice_get (in_place (code_functions arith) o) number)
      (slice_get (in_place (code_functions arith) (option_map optimised_section o)) number)
  section_agrees comp number None is = tt
  section_agrees comp number (Some section) is =
      subst (λ o. Meets (AgreeWithPromises L M (results program) comp number) o
      (slice_get (map (code_function arith) (map optimised_function section.functions)) number))
      (sym (slice_get-map (code_function arith) section.functions number))
      (subst (Meets (AgreeWithPromises L M (results program) comp number)
      (option_map (code_function arith) (slice_get section.functions number)))
      (sym (slice_get-map (code_function arith) (map optimised_function section.functions) number
      ∙ ap (option_map (code_function arith)) (slice_get-map optimised_function section.functions number)))
      (meet comp number section is (slice_get section.functions number) refl))

  program_agrees : DenotationsAgreeWithPromises L M (results program)
  program_agrees = record {
    interfaces = refl;
    functions = λ comp number.
        subst (λ o. Meets (AgreeWithPromises L M (results program) comp number) o (function M comp number))
        (sym (first_at comp number (slice_get program.sections comp) refl))
        (subst (Meets (AgreeWithPromises L M (results program) comp number)
        (slice_get (in_place (code_functions arith) (slice_get program.sections comp)) number))
        (sym (second_at comp number (slice_get program.sections comp) refl))
        (section_agrees comp number (slice_get program.sections comp) refl));
    entered = λ comp entry. sym (ap (function_entered entry) (slice_get-map optimised_section program.sections comp)
        ∙ same_place entry (slice_get program.sections comp));
  }

  -- the same traces, ends and frames, whichever compartments perform
  pub runs_alike : RunsAlike arith program (optimised_program program)
  runs_alike = record {
    meaning = λ inputs turns. subst (λ globals. RunsAgree (run_by L (run_step L) (code_globals program.sections) inputs
        turns) (run_by M (run_step M) globals inputs turns)) (sym (same_globals program))
        (promising_run_alike.meaning L M (results program) program_agrees (code_globals program.sections) inputs turns);
    scripted = λ set trace inputs turns.
        let roles : Roles = roles_in program.interfaces.main set trace in
        subst (λ globals. RunsAgree (run_by L (scripted_step L roles (run_step L))
        (code_globals program.sections) inputs
        turns) (run_by M (scripted_step M roles (run_step M)) globals inputs turns)) (sym (same_globals program))
        (promising_run_alike.scripted L M (results program) program_agrees roles (code_globals program.sections) inputs
        turns);
    entered = program_agrees.entered;
    bodies = λ roles open_calls. promising_run_alike.bodies L M (results program) program_agrees roles open_calls;
  }

pub c_runs_alike : (program : TacTree) → KeepsRules program → RunsAlike c_arith program (optimised_program program)
c_runs_alike program rules = runs_alike c_arith c_fits program rules

pub wrapping_runs_alike : (program : TacTree) → KeepsRules program →
    RunsAlike wrapping program (optimised_program program)
wrapping_runs_alike program rules = runs_alike wrapping wrapping_fits program rules
