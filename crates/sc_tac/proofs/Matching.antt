-- Code under two arithmetics, of which the second gives what the first does or the first blames: its functions match.
use Rattle.sc_tac.proofs.Common.{Arith, Blocks, Break, Calls, CodeObeys, Codes, Continue, Each, Here, List, Main, Next}
use Rattle.sc_tac.proofs.Common.{None, Option, Reached, Result, Return, Some, TacFnTree, TacSection, TacStmt, TacStmt-F}
use Rattle.sc_tac.proofs.Common.{TacTree, Temps, WrappedCodeAgrees, [], alloc_does, and_then, c_arith, call_does}
use Rattle.sc_tac.proofs.Common.{choose, closed, code_denotations, code_does, code_function, code_functions}
use Rattle.sc_tac.proofs.Common.{code_globals, code_step, constant_value, elements_allocated, false, fold-roll-TacStmt}
use Rattle.sc_tac.proofs.Common.{free_does, functions_of, gets, is_unsigned, known, leave, load, map, map-TacStmt}
use Rattle.sc_tac.proofs.Common.{no_temps, op_does, operated, read, read_all, received, refl, released, return_does}
use Rattle.sc_tac.proofs.Common.{roles_in, roll-TacStmt, same_entry, second, start_of, stmt_does, store_does, stored}
use Rattle.sc_tac.proofs.Common.{subst, sym, true, with_temp, wrapping, ℕ, ◌+◌, ◌∷◌, ◌≡◌}
use Rattle.sc_core_laws.specs.Prelude.{DenotationsMatch, FunctionsMatch, IsArithmetic, Match, Never}
use Rattle.sc_core.specs.declared.cause.Cause.{Cause}
use Rattle.sc_core.specs.declared.expr.CallTarget.{CallTarget}
use Rattle.sc_core.specs.declared.expr.CallTarget.TheVariants.{Own, Cross, Input, Output}
use Rattle.sc_core.specs.declared.value.Value.{Value}
use Rattle.sc_core_laws.proofs.Expressions.{ArithKeeps, Keeps, alike, on_words_keep, one_keeps}
use Rattle.sc_core_laws.proofs.InteractionTrees.{MatchWith, match_reached, match_then, match_computed, match_store}
use Rattle.sc_core_laws.proofs.InteractionTrees.{match_elements, match_released}
use Rattle.sc_core_laws.proofs.InteractionTrees.{match_call, match_if, match_leave, match_all, match_loop}
use Rattle.sc_core_laws.proofs.Statements.{Pairs, meets_at, lists_at, itself_keeps, closed_matches}
use Rattle.sc_core_laws.proofs.ProgramLaws.{wrapped_agrees, wrapping_agrees}
use Rattle.sc_core_laws.proofs.Wrapping.{binary_fits, negated_fits}
use Rattle.sc_tac.specs.declared.stmt.TacOp.{TacOp}
use Rattle.sc_tac.specs.declared.stmt.TacOp.TheVariants as tacop
use Rattle.sc_tac.specs.declared.stmt.TacStmt.TheOpen as tac
use Rattle.sc_core.proofs.Induction.{everywhere}
use Rattle.sc_tac.proofs.Induction.{Inside, stmt_induction}

module _ (Soft : Cause → Type 0) (here : Here) where
  abbrev CodesMatch : (Calls → Codes) → (Calls → Codes) → Type 0
  CodesMatch f g = MatchWith Soft here {A = Temps} f g

  read_matches : (t : ℕ) (temps : Temps) → Match Soft here (λ by. read here t temps) (λ by. read here t temps)
  read_matches t temps =
      match_computed Soft here 0 (λ blocks. known (temps t)) (λ blocks. known (temps t)) (λ blocks. alike refl)

  second_matches : (right : Option ℕ) (v : Value) (temps : Temps) →
      Match Soft here (λ by. second here right v temps) (λ by. second here right v temps)
  second_matches None v temps = match_reached Soft here v
  second_matches (Some t) v temps = read_matches t temps

  read_all_matches : (ts : List ℕ) (temps : Temps) →
      Match Soft here (λ by. read_all here ts temps) (λ by. read_all here ts temps)
  read_all_matches [] temps = match_reached Soft here []
  read_all_matches (t ∷ ts) temps =
      match_then Soft here _ _
      (λ v by s. and_then (read_all here ts temps s) (λ vs s. Reached (v ∷ vs) s))
      (λ v by s. and_then (read_all here ts temps s) (λ vs s. Reached (v ∷ vs) s))
      (read_matches t temps) (λ v.
      match_then Soft here _ _ (λ vs by. Reached (v ∷ vs)) (λ vs by. Reached (v ∷ vs)) (read_all_matches ts temps)
      (λ vs.
      match_reached Soft here (v ∷ vs)))

  gets_matches : (dest : ℕ) (e e' : Blocks → Result Value Cause) →
      ((blocks : Blocks) → Keeps Soft Value (e blocks) (e' blocks)) → (temps : Temps) →
      Match Soft here (λ by s. gets here dest (e (s.memory here.comp)) temps s)
      (λ by s. gets here dest (e' (s.memory here.comp)) temps s)
  gets_matches dest e e' h temps =
      match_then Soft here _ _ (λ v by. leave Next (with_temp dest v temps))
      (λ v by. leave Next (with_temp dest v temps))
      (match_computed Soft here 0 e e' h) (λ v.
      match_leave Soft here Next (with_temp dest v temps))

  store_matches : (place value : ℕ) →
      CodesMatch (λ by. store_does here place value) (λ by. store_does here place value)
  store_matches place value temps =
      match_then Soft here _ _
      (λ q by s. and_then (read here value temps s) (λ v s. stored here q v 0 temps s))
      (λ q by s. and_then (read here value temps s) (λ v s. stored here q v 0 temps s))
      (read_matches place temps) (λ q.
      match_then Soft here _ _ (λ v by. stored here q v 0 temps) (λ v by. stored here q v 0 temps)
      (read_matches value temps) (λ v.
      match_store Soft here q v 0 temps))

  call_matches : (dest : Option ℕ) (target : CallTarget) (args : List ℕ) →
      CodesMatch (λ by. call_does here by dest target args) (λ by. call_does here by dest target args)
  call_matches dest target args temps =
      match_then Soft here _ _
      (λ vs by s. and_then (by here.comp target vs s) (λ result s. leave Next (received dest result temps) s))
      (λ vs by s. and_then (by here.comp target vs s) (λ result s. leave Next (received dest result temps) s))
      (read_all_matches args temps) (λ vs.
      match_then Soft here _ _ (λ result by. leave Next (received dest result temps))
      (λ result by. leave Next (received dest result temps)) (match_call Soft here target vs) (λ result.
      match_leave Soft here Next (received dest result temps)))

  alloc_matches : (dest count words : ℕ) →
      CodesMatch (λ by. alloc_does here dest count words) (λ by. alloc_does here dest count words)
  alloc_matches dest count words temps =
      match_then Soft here _ _
      (λ v by s. and_then (elements_allocated here v words 0 s) (λ q s. leave Next (with_temp dest q temps) s))
      (λ v by s. and_then (elements_allocated here v words 0 s) (λ q s. leave Next (with_temp dest q temps) s))
      (read_matches count temps) (λ v.
      match_then Soft here _ _ (λ q by. leave Next (with_temp dest q temps))
      (λ q by. leave Next (with_temp dest q temps)) (match_elements Soft here v words 0) (λ q.
      match_leave Soft here Next (with_temp dest q temps)))

  free_matches : (pointer : ℕ) → CodesMatch (λ by. free_does here pointer) (λ by. free_does here pointer)
  free_matches pointer temps =
      match_then Soft here _ _ (λ v by. released here v 0 temps) (λ v by. released here v 0 temps)
      (read_matches pointer temps) (λ v.
      match_released Soft here v 0 temps)

  return_matches : (value : Option ℕ) → CodesMatch (λ by. return_does here value) (λ by. return_does here value)
  return_matches None temps = match_leave Soft here (Return None) temps
  return_matches (Some t) temps =
      match_then Soft here _ _ (λ v by. leave (Return (Some v)) temps) (λ v by. leave (Return (Some v)) temps)
      (read_matches t temps) (λ v.
      match_leave Soft here (Return (Some v)) temps)

module _ (Soft : Cause → Type 0) (ar br : Arith) (arith : ArithKeeps Soft ar br) where
  operated_keeps : (o : TacOp) (v w : Value) (blocks : Blocks) →
      Keeps Soft Value (operated ar blocks o v w) (operated br blocks o v w)
  operated_keeps (tacop.Unary o scalar) v w blocks =
      one_keeps Soft ar br arith (is_unsigned scalar) o v
  operated_keeps (tacop.Binary o scalar) v w blocks =
      on_words_keep Soft ar br arith (is_unsigned scalar) o v w
  operated_keeps tacop.PointerNot v w blocks = alike refl
  operated_keeps (tacop.PointerMove true cells index) v w blocks = alike refl
  operated_keeps (tacop.PointerMove false cells index) v w blocks = alike refl
  operated_keeps (tacop.PointerMember offset) v w blocks = alike refl
  operated_keeps (tacop.PointerDifference cells) v w blocks = alike refl
  operated_keeps (tacop.PointerCompare o) v w blocks = alike refl

  module _ (here : Here) where
    abbrev Alikes : (Arith → Calls → Codes) → Type 0
    Alikes f = CodesMatch Soft here (f ar) (f br)

    op_matches : (dest : ℕ) (o : TacOp) (left : ℕ) (right : Option ℕ) →
        Alikes (λ arith by. op_does here arith dest o left right)
    op_matches dest o left right temps =
        match_then Soft here _ _
        (λ v by s. and_then (second here right v temps s)
        (λ w s. gets here dest (operated ar (s.memory here.comp) o v w) temps s))
        (λ v by s. and_then (second here right v temps s)
        (λ w s. gets here dest (operated br (s.memory here.comp) o v w) temps s))
        (read_matches Soft here left temps) (λ v.
        match_then Soft here _ _
        (λ w by s. gets here dest (operated ar (s.memory here.comp) o v w) temps s)
        (λ w by s. gets here dest (operated br (s.memory here.comp) o v w) temps s)
        (second_matches Soft here right v temps) (λ w.
        gets_matches Soft here dest (λ blocks. operated ar blocks o v w) (λ blocks. operated br blocks o v w)
        (operated_keeps o v w) temps))

    abbrev Both : TacStmt → Type 0
    Both stmt = Alikes (λ arith by. stmt_does arith here by stmt)

    inner : (stmts : List TacStmt) → Each Both stmts → Alikes (λ arith by. code_does arith here by stmts)
    inner stmts h =
        match_all Soft here (λ stmt by. stmt_does ar here by stmt) (λ stmt by. stmt_does br here by stmt) stmts h

    abbrev layered : TacStmt-F TacStmt → Arith → Calls → Codes
    layered layer arith by = code_step arith here by (map-TacStmt _ _ (stmt_does arith here by) layer)

    assigned : (dest : ℕ) (v : Value) →
        CodesMatch Soft here (λ by temps. leave Next (with_temp dest v temps))
        (λ by temps. leave Next (with_temp dest v temps))
    assigned dest v temps = match_leave Soft here Next (with_temp dest v temps)

    layer_matches : (layer : TacStmt-F TacStmt) → Inside Both layer → Alikes (layered layer)
    layer_matches (tac.Const dest value) h temps = assigned dest (constant_value value) temps
    layer_matches (tac.Copy dest from) h temps =
        match_then Soft here _ _ (λ v by. leave Next (with_temp dest v temps))
        (λ v by. leave Next (with_temp dest v temps))
        (read_matches Soft here from temps) (λ v. assigned dest v temps)
    layer_matches (tac.Op dest o left right) h temps = op_matches dest o left right temps
    layer_matches (tac.ObjectPlace dest object) h temps = assigned dest (start_of (here.first + object)) temps
    layer_matches (tac.GlobalPlace dest global) h temps = assigned dest (start_of global) temps
    layer_matches (tac.Load dest place pointer) h temps =
        match_then Soft here _ _
        (λ q by s. gets here dest (load (s.memory here.comp) pointer q) temps s)
        (λ q by s. gets here dest (load (s.memory here.comp) pointer q) temps s)
        (read_matches Soft here place temps) (λ q.
        gets_matches Soft here dest (λ blocks. load blocks pointer q) (λ blocks. load blocks pointer q)
        (λ blocks. alike refl) temps)
    layer_matches (tac.Store place value) h temps = store_matches Soft here place value temps
    layer_matches (tac.If cond a b) h temps =
        match_then Soft here _ _
        (λ v by s. choose v (code_does ar here by a temps s) (code_does ar here by b temps s))
        (λ v by s. choose v (code_does br here by a temps s) (code_does br here by b temps s))
        (read_matches Soft here cond temps) (λ v.
        match_if Soft here _ (λ by. code_does ar here by a temps) (λ by. code_does br here by a temps)
        (λ by. code_does ar here by b temps) (λ by. code_does br here by b temps) (inner a h.0 temps)
        (inner b h.1 temps))
    layer_matches (tac.Loop head body next) h temps =
        match_loop Soft here (λ by. code_does ar here by head) (λ by. code_does br here by head)
        (λ by. code_does ar here by body) (λ by. code_does br here by body) (λ by. code_does ar here by next)
        (λ by. code_does br here by next)
        (inner head h.0) (inner body h.1) (inner next h.2) temps
    layer_matches tac.Break h temps = match_leave Soft here Break temps
    layer_matches tac.Continue h temps = match_leave Soft here Continue temps
    layer_matches (tac.CallOwn dest function args) h temps = call_matches Soft here dest (Own function) args temps
    layer_matches (tac.CallCross dest comp index args) h temps =
        call_matches Soft here dest (Cross comp index) args temps
    layer_matches (tac.Input dest) h temps = call_matches Soft here dest Input [] temps
    layer_matches (tac.Output value) h temps = call_matches Soft here None Output (value ∷ []) temps
    layer_matches (tac.Alloc dest count words) h temps = alloc_matches Soft here dest count words temps
    layer_matches (tac.Free pointer) h temps = free_matches Soft here pointer temps
    layer_matches (tac.Return value) h temps = return_matches Soft here value temps

    layer_is : (arith : Arith) (layer : TacStmt-F TacStmt) → layered layer arith ≡
        (λ by. stmt_does arith here by (roll-TacStmt layer))
    layer_is arith layer = λ i by. sym (fold-roll-TacStmt Codes (code_step arith here by) layer) i

    stmt_matches : (stmt : TacStmt) → Both stmt
    stmt_matches =
        stmt_induction Both
        (λ layer h. subst (λ x. CodesMatch Soft here x (λ by. stmt_does br here by (roll-TacStmt layer)))
        (layer_is ar layer)
        (subst (CodesMatch Soft here (layered layer ar)) (layer_is br layer) (layer_matches layer h)))

    code_matches : (stmts : List TacStmt) → Alikes (λ arith by. code_does arith here by stmts)
    code_matches stmts = inner stmts (everywhere Both stmt_matches stmts)

  of_function : (f : TacFnTree) → FunctionsMatch Soft (code_function ar f) (code_function br f)
  of_function f = record {
    cells = refl;
    frame_size = refl;
    does = λ here.
        match_then Soft here _ _ (λ left by s. closed left.exit f.result (same_entry Main f.entry) 0 here s)
        (λ left by s. closed left.exit f.result (same_entry Main f.entry) 0 here s)
        (code_matches here f.body no_temps)
        (λ left. closed_matches Soft here left.exit f.result (same_entry Main f.entry) 0);
  }

  of_functions : (fs : List TacFnTree) →
      Pairs (FunctionsMatch Soft) (map (code_function ar) fs) (map (code_function br) fs)
  of_functions [] = tt
  of_functions (f ∷ fs) = (of_function f, of_functions fs)

  of_sections : (sections : List TacSection) →
      Pairs (Pairs (FunctionsMatch Soft)) (map (code_functions ar) sections) (map (code_functions br) sections)
  of_sections [] = tt
  of_sections (section ∷ sections) = (of_functions section.functions, of_sections sections)

  pub denotations_match : (program : TacTree) →
      DenotationsMatch Soft (code_denotations ar program) (code_denotations br program)
  denotations_match program = record {
    interfaces = refl;
    functions =
        λ comp number. meets_at (FunctionsMatch Soft) (functions_of (code_denotations ar program) comp)
        (functions_of (code_denotations br program) comp) number
        (lists_at (FunctionsMatch Soft) (code_denotations ar program).functions (code_denotations br program).functions
        comp (of_sections program.sections));
    entered = λ comp entry. refl;
  }

code_wraps : (program : TacTree) →
    DenotationsMatch IsArithmetic (code_denotations c_arith program) (code_denotations wrapping program)
code_wraps program =
    denotations_match IsArithmetic c_arith wrapping (record { binary = binary_fits; negated = negated_fits }) program

pub code_obeys : CodeObeys
code_obeys = record {
  itself = λ arith program. denotations_match Never arith arith (itself_keeps Never arith) program;
  wraps = code_wraps;
}

pub wrapped_code_agrees : WrappedCodeAgrees
wrapped_code_agrees = record {
  meaning =
      λ program inputs turns. wrapped_agrees.any_denotations _ _ (code_wraps program) (code_globals program.sections)
      inputs turns;
  scripted = λ program set trace inputs turns.
      wrapping_agrees.any_denotations _ _ (code_wraps program) (code_globals program.sections) inputs turns
      (roles_in program.interfaces.main set trace);
}
