-- The code of a well-typed program runs as the program does.
use Rattle.sc_lower.proofs.Common.{Arith, BadType, Blamed, BodiesAgree, Body, Bool, CallTarget, Callable, Cross}
use Rattle.sc_lower.proofs.Common.{Denotations, Export, ForSection, Function, Here, Input, Interfaces, KeepsMeaning}
use Rattle.sc_lower.proofs.Common.{Left, List, Main, None, Option, Output, Own, Piece, PiecesAgree, ProgramTree, Proto}
use Rattle.sc_lower.proofs.Common.{Reached, Roles, RunsAgree, Scalar, Some, State, Step, Stopped, TacSection, Temps}
use Rattle.sc_lower.proofs.Common.{TurnsOut, TypedFunction, TypedParam, TypedSection, TypedStruct, Value, [], all_at}
use Rattle.sc_lower.proofs.Common.{allowed, and_first, and_rest, and_then, ap, back_own, begun, body_code, body_does}
use Rattle.sc_lower.proofs.Common.{body_fits, bytes_eq, call_cross, call_own, callable_in, called, calls, closed}
use Rattle.sc_lower.proofs.Common.{code_denotations, code_does, code_function, code_functions, code_globals, code_run}
use Rattle.sc_lower.proofs.Common.{crossing, deepest, denotations_of, done, export_at, false, first_blocks, first_state}
use Rattle.sc_lower.proofs.Common.{for_section, found, function, function_fits, function_of, functions_in, global_fits}
use Rattle.sc_lower.proofs.Common.{globals_of, if◌then◌else◌, index_map, is_some, is_well_typed, itself, length}
use Rattle.sc_lower.proofs.Common.{list_all, list_any, local_fits, lowered_function, lowered_program, lowered_section}
use Rattle.sc_lower.proofs.Common.{lowered_sections, main_name, map, may_call, most_params, nat_le, no_temps}
use Rattle.sc_lower.proofs.Common.{option_map, option_signature, option_value, passed_fits, performs, proto_signature}
use Rattle.sc_lower.proofs.Common.{reached_good, refl, result_fits, result_ty, roles_in, rows_left, run_agree, run_by}
use Rattle.sc_lower.proofs.Common.{run_of, run_step, same_import, scope_of, scripted_code_run, scripted_run_of}
use Rattle.sc_lower.proofs.Common.{scripted_step, sections_so, signature_of, slice_get, slice_get-map, slice_index_or}
use Rattle.sc_lower.proofs.Common.{structs_fit, subst, suc, sym, target_signature, then_agree, true, turn, within}
use Rattle.sc_lower.proofs.Common.{word_back, zero, ℕ, ◌&&◌, ◌==◌, ◌∙◌, ◌∷◌, ◌≡◌}
use Rattle.sc_tac.specs.Prelude.{first_blocks as code_blocks}
use Rattle.sc_event.specs.declared.event.Event.{Event}
use Rattle.sc_event.specs.declared.interface.Import.TheVariants as import
use Rattle.sc_core.specs.declared.ty.Ty.TheVariants as ty
use Rattle.sc_core_kind_laws.proofs.Pieces.{Lasting}
use Rattle.sc_lower.proofs.Entries.{first_at, main_is, entered_same}
use Rattle.sc_lower.proofs.Hollow.{shell, hollow, calls_alike, own_alike, performs_alike}
use Rattle.sc_lower.proofs.Matching.{answers, some_answers, BackMatches, back_from, back_agrees, back_answers}
use Rattle.sc_lower.proofs.Matching.{close_matches}
use Rattle.sc_lower.proofs.Statements.{promises, CallsMatch, body_matches}

lasting_then : {V W : Type 0} (G : W → Type 0) (o : Piece V) (k : V → State → Piece W) →
    ((v : V) (s : State) → Lasting G (k v s)) → Lasting G (and_then o k)
lasting_then G (Reached v s) k h = h v s
lasting_then G (Stopped end s) k h = tt

lasting_any : {V : Type 0} (G : V → Type 0) (o : Piece V) → ((v : V) → G v) → Lasting G o
lasting_any G (Reached v s) h = h v
lasting_any G (Stopped end s) h = tt

lasting_if : {V : Type 0} (G : V → Type 0) (b : Bool) (o p : Piece V) → Lasting G o → Lasting G p →
    Lasting G (if b then o else p)
lasting_if G true o p h k = h
lasting_if G false o p h k = k

lasting_where : {V : Type 0} (G : V → Type 0) (o : Piece V) → ((v : V) (s : State) → o ≡ Reached v s → G v) →
    Lasting G o
lasting_where G (Reached v s) h = h v s refl
lasting_where G (Stopped end s) h = tt

-- what crosses is a value where one is promised
crosses : (result : Option Scalar) (v : Option Value) →
    answers (is_some (result_ty result)) (option_value (word_back result v)) ≡ true
crosses None v = refl
crosses (Some scalar) None = refl
crosses (Some scalar) (Some v) = refl

crossing_answers : (b : Bool) (proto : Option Proto) (v : Option Value) →
    answers (promises (allowed b (option_signature proto_signature proto))) (option_value (crossing proto v)) ≡ true
crossing_answers false proto v = refl
crossing_answers true None v = refl
crossing_answers true (Some proto) v = crosses proto.result v

output_answers : (b : Bool) → answers (promises (allowed b (Some (record { params = ty.Int ∷ []; result = None }))))
    None ≡ true
output_answers true = refl
output_answers false = refl

no_functions : {A B : Type 0} (f : A → List B) (xs : List A) (i : ℕ) → slice_get xs i ≡ None →
    slice_index_or (map f xs) i [] ≡ []
no_functions f [] i h = refl
no_functions f (x ∷ xs) zero h = absurd (cc)
no_functions f (x ∷ xs) (suc i) h = no_functions f xs i h

module _ (arith : Arith) (program : ProgramTree) (typed : is_well_typed program ≡ true) where
  abbrev interfaces : Interfaces
  interfaces = program.interfaces

  abbrev L : Denotations
  L = denotations_of arith program

  abbrev M : Denotations
  M = code_denotations arith (lowered_program program)

  abbrev lowered : List TacSection
  lowered = lowered_sections interfaces 0 program.sections

  abbrev tree_function : List TypedStruct → TypedFunction → Function
  tree_function = function_of arith interfaces.main

  abbrev tac_function : ℕ → List TypedStruct → TypedFunction → Function
  tac_function comp structs f = code_function arith (lowered_function interfaces comp structs f)

  -- CALLERS
  functions_alike : (comp : ℕ) (structs : List TypedStruct) (fs : List TypedFunction) →
      map shell (map (tree_function structs) fs)
      ≡ map shell (map (code_function arith) (map (lowered_function interfaces comp structs) fs))
  functions_alike comp structs [] = refl
  functions_alike comp structs (f ∷ fs) = λ i. shell (tree_function structs f) ∷ functions_alike comp structs fs i

  sections_alike : (k : ℕ) (sections : List TypedSection) →
      map (map shell) (map (functions_in arith interfaces.main) sections)
      ≡ map (map shell) (map (code_functions arith) (lowered_sections interfaces k sections))
  sections_alike k [] = refl
  sections_alike k (x ∷ xs) = λ i. functions_alike k x.structs x.functions i ∷ sections_alike (suc k) xs i

  alike : hollow L ≡ hollow M
  alike = λ i. record {
    interfaces = interfaces;
    functions = sections_alike 0 program.sections i;
    entered = λ comp entry. entered_same program typed comp entry i;
  }

  -- FUNCTIONS
  -- a function of the program, in its tree and in its code
  record There (comp n : ℕ) : Type 0 where
    pub section : TypedSection
    pub is : slice_get program.sections comp ≡ Some section
    pub f : TypedFunction
    pub item : slice_get section.functions n ≡ Some f
    pub tree : function L comp n ≡ Some (tree_function section.structs f)
    pub code : function M comp n ≡ Some (tac_function comp section.structs f)

  data Both (comp n : ℕ) : Type 0 where
    Nowhere : function L comp n ≡ None → function M comp n ≡ None → Both comp n
    Somewhere : There comp n → Both comp n

  module _ (comp : ℕ) (section : TypedSection) (is : slice_get program.sections comp ≡ Some section) where
    tree_at : (n : ℕ) → function L comp n ≡ option_map (tree_function section.structs) (slice_get section.functions n)
    tree_at n =
        ap (λ fs. slice_get fs n) (index_map (functions_in arith interfaces.main) program.sections comp section
        is)
        ∙ slice_get-map (tree_function section.structs) section.functions n

    code_at : (n : ℕ) →
        function M comp n ≡ option_map (code_function arith)
        (option_map (lowered_function interfaces comp section.structs)
        (slice_get section.functions n))
    code_at n =
        ap (λ fs. slice_get fs n) (index_map (code_functions arith) lowered comp
        (lowered_section interfaces comp section)
        (first_at interfaces program.sections comp ∙
        ap (option_map (lowered_section interfaces comp)) is))
        ∙ slice_get-map (code_function arith)
        (map (lowered_function interfaces comp section.structs) section.functions) n
        ∙ ap (option_map (code_function arith)) (slice_get-map (lowered_function interfaces comp section.structs)
        section.functions n)

    section_both : (n : ℕ) → Both comp n
    section_both n = by (slice_get section.functions n) refl where
      by : (o : Option TypedFunction) → slice_get section.functions n ≡ o → Both comp n
      by None item =
          Nowhere (tree_at n ∙ ap (option_map (tree_function section.structs)) item)
          (code_at n ∙ ap (λ o. option_map (code_function arith)
          (option_map (lowered_function interfaces comp section.structs) o)) item)
      by (Some f) item = Somewhere (record {
        section = section;
        is = is;
        f = f;
        item = item;
        tree = tree_at n ∙ ap (option_map (tree_function section.structs)) item;
        code =
            code_at n ∙ ap (λ o. option_map (code_function arith)
            (option_map (lowered_function interfaces comp section.structs) o)) item;
      })

  both_at : (comp n : ℕ) → Both comp n
  both_at comp n = by (slice_get program.sections comp) refl where
    by : (o : Option TypedSection) → slice_get program.sections comp ≡ o → Both comp n
    by None is =
        Nowhere (ap (λ fs. slice_get fs n)
        (no_functions (functions_in arith interfaces.main) program.sections comp is))
        (ap (λ fs. slice_get fs n) (no_functions (code_functions arith) lowered comp
        (first_at interfaces program.sections comp ∙
        ap (option_map (lowered_section interfaces comp)) is)))
    by (Some section) is = section_both comp section is n

  -- BODIES
  module _ (scripted : ℕ → Bool) where
    -- what runs its function and has a result gives one
    abbrev Gives : Body → Type 0
    Gives body =
        (comp n : ℕ) (section : TypedSection) (f : TypedFunction) → slice_get program.sections comp ≡ Some section →
        slice_get section.functions n ≡ Some f →
        scripted comp ≡ false → (first : ℕ) (s : State) →
        Lasting (λ v. answers (is_some f.result) v ≡ true) (body n (record { comp = comp; first = first }) s)

    module _ (body other : Body) (bodies : BodiesAgree body other) (gives : Gives body) (comp : ℕ)
        (section : TypedSection) (is : slice_get program.sections comp ≡ Some section) (plain : scripted comp
        ≡ false) where
      place : ForSection interfaces interfaces.comps comp section
      place = for_section interfaces 0 interfaces.comps program.sections (sections_so program typed) comp
          section is

      abbrev callable : Callable
      callable = callable_in interfaces place.interface section

      own_answers : (n : ℕ) (args : List Value) (s : State) →
          Lasting (λ v. answers (promises (target_signature callable (Own n))) v ≡ true)
          (called L body comp (Own n) args s)
      own_answers n args s =
          subst (λ o. Lasting (λ v. answers (promises o) v ≡ true) (called L body comp (Own n) args s))
          (sym (slice_get-map signature_of section.functions n)) (by (slice_get section.functions n) refl) where
            by : (o : Option TypedFunction) → slice_get section.functions n ≡ o →
                Lasting (λ v. answers (promises (option_map signature_of o)) v ≡ true)
                (called L body comp (Own n) args s)
            by None item = lasting_any (λ v. answers false v ≡ true) (called L body comp (Own n) args s) (λ v. refl)
            by (Some f) item =
                lasting_then (λ v. answers (is_some f.result) v ≡ true) (turn s) (λ _ s. call_own L body comp n args s)
                (λ _ s.
                lasting_then (λ v. answers (is_some f.result) v ≡ true) (found (function L comp n) s)
                (λ g s. and_then (body n (record { comp = comp; first = length (s.memory comp) }) (begun comp g args s))
                (λ v t. back_own v (done comp g (length (s.memory comp)) t))) (λ g s.
                following (λ v. answers (is_some f.result) v ≡ true)
                (body n (record { comp = comp; first = length (s.memory comp) }) (begun comp g args s))
                (λ v t. done comp g (length (s.memory comp)) t) (gives comp n section f is item plain
                (length (s.memory comp)) (begun comp g args s)))) where
                  following : (G : Option Value → Type 0) (o : Piece (Option Value))
                      (k : Option Value → State → State) →
                      Lasting G o → Lasting G (and_then o (λ v t. Reached v (k v t)))
                  following G (Reached v s) k h = h
                  following G (Stopped end s) k h = tt

      called_answers : (to : CallTarget) (args : List Value) (s : State) →
          Lasting (λ v. answers (promises (target_signature callable to)) v ≡ true) (called L body comp to args s)
      called_answers (Own n) args s = own_answers n args s
      called_answers (Cross to index) args s =
          let b = list_any (same_import (import.Function to index)) place.interface.imports in
          let G : Option Value → Type 0 =
          λ v. answers (promises (allowed b (option_signature proto_signature (export_at interfaces to index))))
          v ≡ true in
          lasting_then G (turn s) (λ _ s. call_cross L body comp to index args s) (λ _ s.
          lasting_then G (found (L.entered to (Export index)) s) _ (λ n s.
          lasting_then G (found (function L to n) _) _ (λ g s.
          lasting_then G (body n _ _) _ (λ v t. crossing_answers b (export_at interfaces to index) v))))
      called_answers Input args s = some_answers (promises (target_signature callable Input)) _ refl
      called_answers Output args s = output_answers (list_any (same_import import.Output) place.interface.imports)

      calls_match : (first : ℕ) (structs : List TypedStruct) (f : TypedFunction) →
          CallsMatch arith structs (record { comp = comp; first = first }) (length f.params) (scope_of section f)
          callable (calls L body) (calls M other)
      calls_match first structs f to vs s =
          let G : Option Value → Type 0 = λ v. answers (promises (target_signature callable to)) v ≡ true in
          back_from (promises (target_signature callable to)) (calls L body comp to vs s) (calls M other comp to vs s)
          (calls_alike L M alike body other bodies comp to vs s) (λ v t at.
          reached_good G (calls L body comp to vs s) v t at
          (lasting_if G (may_call L comp to vs)
          (called L body comp to vs s) (Stopped (Blamed comp BadType 0) s) (called_answers to vs s) tt))

      function_so : (n : ℕ) (f : TypedFunction) → slice_get section.functions n ≡ Some f →
          function_fits callable section f ≡ true
      function_so n f item =
          let functions = list_all (function_fits callable section) section.functions in
          let each =
          and_first functions _ (and_rest (list_all (global_fits section.structs) section.globals)
          _ (and_rest (structs_fit section.structs 0 section.structs) _ place.placed.fits)) in
          all_at (function_fits callable section) section.functions each n f item

      function_locals : (f : TypedFunction) → function_fits callable section f ≡ true →
          list_all (local_fits (scope_of section f)) f.locals ≡ true
      function_locals f fits =
          and_first (list_all (local_fits (scope_of section f)) f.locals)
          _ (and_rest (result_fits section.structs f.result)
          _ (and_rest (list_all {X = TypedParam} (λ p. passed_fits section.structs p.ty) f.params)
          _ (and_rest (nat_le (length f.params) most_params) _ fits)))

      function_body : (f : TypedFunction) → function_fits callable section f ≡ true →
          body_fits (scope_of section f) callable f.result f.body ≡ true
      function_body f fits =
          and_first (body_fits (scope_of section f) callable f.result f.body)
          _ (and_rest (list_all (local_fits (scope_of section f)) f.locals)
          _ (and_rest (result_fits section.structs f.result)
          _ (and_rest (list_all {X = TypedParam} (λ p. passed_fits section.structs p.ty) f.params)
          _ (and_rest (nat_le (length f.params) most_params) _ fits))))

      -- a function and its code
      does_match : (n : ℕ) (f : TypedFunction) → slice_get section.functions n ≡ Some f → (first : ℕ) (s : State) →
          BackMatches (is_some f.result) ((tree_function section.structs f).does (calls L body)
          (record { comp = comp; first = first }) s)
          ((tac_function comp section.structs f).does (calls M other) (record { comp = comp; first = first }) s)
      does_match n f item first s =
          let here : Here = record { comp = comp; first = first } in
          let code : Piece (Left Temps) =
          code_does arith here (calls M other) (body_code section.structs f 0).code no_temps s in
          subst (λ m. BackMatches (is_some f.result) ((tree_function section.structs f).does (calls L body) here s)
          (and_then code (λ left s. closed left.exit (is_some f.result) m 0 here s)))
          (sym (main_is interfaces comp f.name))
          (close_matches (is_some f.result) (comp == interfaces.main && bytes_eq f.name main_name) f.close_line
          here
          (body_does arith section.structs here (length f.params) (calls L body) f tt s) code
          (body_matches arith section.structs here (scope_of section f) callable (calls L body) (calls M other) f
          (calls_match first section.structs f) (function_locals f (function_so n f item))
          (function_body f (function_so n f item)) tt no_temps s))

  -- STEPS
  module _ (roles : Roles) where
    abbrev tree_step : Step
    tree_step = scripted_step L roles (run_step L)

    abbrev code_step : Step
    code_step = scripted_step M roles (run_step M)

    -- two bodies that come to the same, where the first gives results
    record Bodies (body other : Body) : Type 0 where
      pub agree : BodiesAgree body other
      pub gives : Gives roles.scripted body

    runs_agree_at : (body other : Body) → Bodies body other → (comp n first : ℕ) (s : State) →
        roles.scripted comp ≡ false → Both comp n →
        PiecesAgree (run_step L body n (record { comp = comp; first = first }) s)
        (run_step M other n (record { comp = comp; first = first }) s)
    runs_agree_at body other h comp n first s plain (Nowhere tree code) =
        rw (tree, code) (itself (Stopped TurnsOut s))
    runs_agree_at body other h comp n first s plain (Somewhere t) =
        rw (t.tree, t.code) (back_agrees (is_some t.f.result) _ _ (does_match roles.scripted body other h.agree h.gives
        comp t.section t.is plain n t.f t.item first s))

    step_agrees : (body other : Body) → Bodies body other → BodiesAgree (tree_step body) (code_step other)
    step_agrees body other h n here s = by (roles.scripted here.comp) refl where
      by : (b : Bool) → roles.scripted here.comp ≡ b →
          PiecesAgree (if b then performs L body (rows_left roles here.comp s.trace) n here s else run_step L body n
          here s)
          (if b then performs M other (rows_left roles here.comp s.trace) n here s else run_step M other n here s)
      by true is = performs_alike L M alike body other h.agree (rows_left roles here.comp s.trace) n here s
      by false is = runs_agree_at body other h here.comp n here.first s is (both_at here.comp n)

    step_gives : (body other : Body) → Bodies body other → Gives roles.scripted (tree_step body)
    step_gives body other h comp n section f is item plain first s =
        let here : Here = record { comp = comp; first = first } in
        let G : Option Value → Type 0 = λ v. answers (is_some f.result) v ≡ true in
        subst (λ b. Lasting G (if b then performs L body (rows_left roles comp s.trace) n here s else run_step L body n
        here s)) (sym plain)
        (subst (λ o. Lasting G (and_then (found o s) (λ f s. f.does (calls L body) here s)))
        (sym (tree_at comp section is n ∙ ap (option_map (tree_function section.structs)) item))
        (lasting_where G ((tree_function section.structs f).does (calls L body) here s) (λ v t at.
        back_answers (is_some f.result) _ _ (does_match roles.scripted body other h.agree h.gives comp section is plain
        n f item first s) v t at)))

    within_both : (n : ℕ) → Bodies (within tree_step n) (within code_step n)
    within_both zero =
        record {
          agree = λ number here s. itself (Stopped TurnsOut s);
          gives = λ comp n section f is item plain first s.
              tt;
        }
    within_both (suc n) = record {
      agree = step_agrees (within tree_step n) (within code_step n) (within_both n);
      gives = step_gives (within tree_step n) (within code_step n) (within_both n);
    }

    pub bodies_kept : (n : ℕ) → BodiesAgree (within tree_step n) (within code_step n)
    bodies_kept n = (within_both n).agree

    globals_same : globals_of program.sections ≡ code_globals lowered
    globals_same =
        λ i comp. (by comp (slice_get program.sections comp)
        ∙ sym (ap code_blocks (first_at interfaces program.sections comp))) i where
          by : (comp : ℕ) (o : Option TypedSection) →
              first_blocks o ≡ code_blocks (option_map (lowered_section interfaces comp) o)
          by comp None = refl
          by comp (Some section) = refl

    start_found : (o p : Option ℕ) (turns : ℕ) (s : State) → o ≡ p →
        PiecesAgree (and_then (found o s)
        (λ number s. call_own L (within tree_step (suc turns)) interfaces.main number []
        s))
        (and_then (found p s) (λ number s. call_own M (within code_step (suc turns)) interfaces.main number []
        s))
    start_found o p turns s is =
        subst (λ p. PiecesAgree (and_then (found o s)
        (λ number s. call_own L (within tree_step (suc turns)) interfaces.main
        number [] s)) (and_then (found p s)
        (λ number s. call_own M (within code_step (suc turns)) interfaces.main number []
        s))) is
        (then_agree _ _ _ _ (itself (found o s)) (λ number s. own_alike L M alike (within tree_step (suc turns))
        (within code_step (suc turns)) (within_both (suc turns)).agree interfaces.main number [] s))

    runs_alike : (inputs : List ℕ) (turns : ℕ) →
        RunsAgree (run_by L tree_step (globals_of program.sections) inputs turns)
        (run_by M code_step (code_globals lowered) inputs turns)
    runs_alike inputs turns =
        subst (λ globals. RunsAgree (run_by L tree_step (globals_of program.sections) inputs turns)
        (run_by M code_step globals inputs turns)) globals_same
        (run_agree interfaces.main _ _
        (start_found (L.entered interfaces.main Main) (M.entered interfaces.main Main) turns
        (first_state (globals_of program.sections) inputs turns)
        (entered_same program typed interfaces.main Main)))

  abbrev nobody : Roles
  nobody = record { scripted = λ comp. false; rows = λ comp. [] }

  meaning_kept : (inputs : List ℕ) (turns : ℕ) →
      RunsAgree (run_of arith program inputs turns) (code_run arith (lowered_program program) inputs turns)
  meaning_kept inputs turns = runs_alike nobody inputs turns

  scripted_kept : (inputs : List ℕ) (turns : ℕ) (set : ℕ → Bool) (trace : List Event) →
      RunsAgree (scripted_run_of arith program inputs turns set trace)
      (scripted_code_run arith (lowered_program program) inputs turns set trace)
  scripted_kept inputs turns set trace = runs_alike (roles_in interfaces.main set trace) inputs turns

pub keeps_meaning : KeepsMeaning
keeps_meaning program typed = record {
  meaning = λ arith inputs turns. meaning_kept arith program typed inputs turns;
  scripted = λ arith inputs turns set trace. scripted_kept arith program typed inputs turns set trace;
  depth = λ arith inputs turns events comp. ap (deepest events comp 0)
      (meaning_kept arith program typed inputs turns).frames;
  scripted_depth = λ arith set trace inputs turns events comp.
      ap (deepest events comp 0) (scripted_kept arith program typed inputs turns set trace).frames;
  entered = λ arith. entered_same program typed;
  bodies = λ arith roles. bodies_kept arith program typed roles;
}
