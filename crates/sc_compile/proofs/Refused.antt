-- An instance: images that aren't those of a small program, and code that isn't that of a division.
use Rattle.sc_compile.proofs.Common.{All, Bool, HasNoTests, ImageParts, IsCompiled, IsWord, List, Option, ProgramTree}
use Rattle.sc_compile.proofs.Common.{Some, TypedFunction, TypedSection, [], ap, ap₂, arith, c_arith, cond, count_by}
use Rattle.sc_compile.proofs.Common.{false}
use Rattle.sc_compile.proofs.Common.{frame_bound, if◌then◌else◌, is_branch, leb-true, machine, nodes, program_nodes}
use Rattle.sc_compile.proofs.Common.{refl, suc, sym, test_word, true, variables, zero, ℕ, ⊎_elim, ◌&&◌, ◌*◌}
use Rattle.sc_compile.proofs.Common.{◌++◌}
use Rattle.sc_compile.proofs.Common.{◌+◌, ◌<◌, ◌==◌, ◌∙◌, ◌∷◌, ◌≡◌, ◌≤◌}
use Rattle.std.specs.Prelude.{codes, max, ◌-◌}
use Rattle.std.specs.List.{AllZip, concat}
use Rattle.std.proofs.lemmas.List.Elements.{All-head, All-nil, All-tail}
use Rattle.sc_base.specs.declared.op.BinaryOp.TheVariants.{Div}
use Rattle.sc_base.specs.declared.stop.Stop.{Stop}
use Rattle.sc_base.specs.declared.stop.TrapReason.{TrapReason}
use Rattle.sc_event.specs.declared.event.Event.TheVariants.{End}
use Rattle.sc_core.specs.Prelude.{depth_by, meaning_by}
use Rattle.sc_core.specs.declared.expr.TypedExpr.{TypedExpr}
use Rattle.sc_core.specs.declared.expr.TypedKind.TheOpen as term
use Rattle.sc_core.specs.declared.stmt.TypedStmtKind.TheOpen as layer
use Rattle.sc_core.specs.declared.ty.Ty.TheVariants.{Int}
use Rattle.sc_core.proofs.Layers.{expr_at, on_line, stmt_at, typed}
use Rattle.sc_core.proofs.Plans.{Sheet, program, quick_run}
use Rattle.sc_core.proofs.Programs.{lit, main_with, one_compartment}
use Rattle.sc_core.proofs.Rows.{by_plan, depth_by_plan}
use Rattle.sc_core.proofs.Shapes.{NoLine, WhileLine}
use Rattle.sc_core.specs.Combinators.{FrameChange}
use Rattle.sc_core.specs.Meaning.{deepest, meaning}
use Rattle.sc_core.specs.declared.run.RunEnd.TheVariants.{TurnsOut}
use Rattle.sc_emit_run_laws.specs.Prelude.{IsBlamed, IsTrap}
use Rattle.sc_compile.specs.Stop.{TrapsWhereBlamed}
use Rattle.std.proofs.Common.{subst}
use Rattle.sc_image.specs.Machine.{after, run, run_by, stopped, stops_or}
use Rattle.sc_image.specs.Prelude.{MachineRun, MachineState, Traps, start, step}
use Rattle.sc_lower.specs.Branches.{branches, expr_branches, kind_branches, term_branches}
use Rattle.sc_compile.specs.Prelude.{HasFewBranches}
use Rattle.sc_compile.proofs.NoTests.{counted, counted_append, passed_over}

-- `int main(void) { }`: it emits `end Main 0`
abbrev ending : TypedFunction
ending = record { name = codes "main"; params = []; locals = []; result = Some Int; body = []; close_line = 1 }

abbrev alone : ProgramTree
alone = record {
  interfaces = record { comps = record { name = codes "Main"; exports = []; imports = [] } ∷ []; main = 0 };
  sections = record { structs = []; globals = []; functions = ending ∷ [] } ∷ [];
}

its_trace : (meaning_by c_arith alone [] 1 2).trace ≡ End 0 0 ∷ []
its_trace = refl

-- it needs little of a stack
abbrev frame : ℕ
frame = frame_bound (variables [] ending) (nodes ending)

abbrev depth : (own : Bool) → ℕ
depth own =
    if own && true then max 0 (if own && true then max (0 + frame) (0 + frame - frame) else 0 + frame) else
    (if own && true then max 0 (0 - frame) else 0)

shallow : (own : Bool) → depth own ≤ 1000
shallow true = leb-true (depth true) 1000 refl
shallow false = leb-true (depth false) 1000 refl

its_depth : (comp : ℕ) → depth_by c_arith alone [] 1 2 comp ≤ 1000
its_depth comp = shallow (0 == comp)

too_deep : (depth : ℕ) → 65536 < depth → depth ≤ 1000 → ⊥
too_deep depth more less = omega (arith, more, less)

-- an image on which the machine emits nothing within the bound on steps: one that only delays is refused
silent_is_refused : (image : ImageParts) →
    (machine image [] (24 * program_nodes alone * suc 1) 2).state.trace ≡ [] → IsCompiled alone image → ⊥
silent_is_refused image silent is =
    ⊎_elim
    (λ prefix. let never : [] ≡ End 0 0 ∷ prefix.more = sym silent ∙ prefix.is in absurd (cc))
    (λ full. too_deep _ full.deep (its_depth (machine image [] (24 * program_nodes alone * suc 1) 2).state.active))
    (is.forward [] 1 2 (All-nil IsWord))

-- and one that traps at its entry is such
stays : (o : Option Stop) (state : MachineState) (later : MachineRun) → later.state ≡ state →
    (stops_or o state later).state ≡ state
stays (Some stop) state later is = refl
stays _ state later is = is

trapped : (image : ImageParts) (reason : TrapReason) → step image [] (start image) ≡ Traps reason →
    (events steps : ℕ) → (run image [] events steps (start image)).state ≡ start image
unfolding run_by
trapped image reason traps events zero = stays (stopped events (start image).trace) (start image) _ refl
trapped image reason traps events (suc steps) =
    stays (stopped events (start image).trace) (start image) _
    (ap (λ outcome. (after (start image).pc (start image) outcome (run image [] events steps)).state) traps)

trap_is_refused : (image : ImageParts) (reason : TrapReason) → step image [] (start image) ≡ Traps reason →
    IsCompiled alone image → ⊥
trap_is_refused image reason traps =
    silent_is_refused image (ap (λ (s : MachineState). s.trace)
    (trapped image reason traps 2 (24 * program_nodes alone * suc 1)))

-- `int main(void) { while (1) { } }`: it emits nothing, so an image that traps at once has the same trace
abbrev looping : List Sheet
looping =
    record { structs = []; globals = []; plans = main_with [] (WhileLine 1 (lit 1) NoLine NoLine) 1 ∷ [] } ∷ []

abbrev idle : ProgramTree
idle = program one_compartment looping

its_meaning : meaning idle [] 1 1 ≡ record { trace = []; end = TurnsOut }
its_meaning = by_plan one_compartment looping [] 1 1

abbrev frames : List FrameChange
frames = (quick_run c_arith one_compartment looping [] 1).frames

-- of one call, in which 76 bytes are enough
little : (comp : ℕ) → deepest 1 comp 0 frames ≤ 1000
little comp = by (0 == comp) where
  by : (own : Bool) → (if own && true then max 0 (0 + 76) else 0) ≤ 1000
  by true = leb-true (max 0 (0 + 76)) 1000 refl
  by false = leb-true 0 1000 refl

-- but a trap has to come of a blame or of a full stack
silent_trap_is_refused : (image : ImageParts) (reason : TrapReason) → step image [] (start image) ≡ Traps reason →
    TrapsWhereBlamed idle image → ⊥
unfolding run_by stopped
silent_trap_is_refused image reason traps is =
    ⊎_elim
    (λ blamed. subst (λ r. IsBlamed r.end) its_meaning blamed.0)
    (λ full. too_deep _ full.deep (subst (λ n. n ≤ 1000)
    (sym (depth_by_plan one_compartment looping [] 1 1 (machine image [] 1 1).state.active))
    (little (machine image [] 1 1).state.active)))
    (is [] 1 1 (All-nil IsWord) (subst IsTrap
    (sym (ap (λ outcome. (after (start image).pc (start image) outcome (run image [] 1 0)).stop) traps)) tt))

-- `int f(void) { return 8 / 2; }`: it has no `if`
abbrev quotient : TypedExpr
quotient = typed Int (term.Binary Div (typed Int (term.Literal 8)) (typed Int (term.Literal 2)))

abbrev dividing : TypedFunction
dividing = record {
  name = codes "f";
  params = [];
  locals = [];
  result = Some Int;
  body = on_line 1 (layer.ReturnValue quotient) ∷ [];
  close_line = 1;
}

abbrev division : TypedSection
division = record { structs = []; globals = []; functions = dividing ∷ [] }

quotient_none : expr_branches quotient ≡ 0
quotient_none =
    expr_at ℕ ℕ term_branches (λ e. e.kind) Int _ ∙
    ap₂ (λ a b. 0 + (a + b)) (expr_at ℕ ℕ term_branches (λ e. e.kind) Int (term.Literal 8))
    (expr_at ℕ ℕ term_branches (λ e. e.kind) Int (term.Literal 2))

dividing_none : branches dividing ≡ 0
dividing_none =
    ap (λ n. 0 + (n + 0)) (stmt_at ℕ ℕ kind_branches (λ s. s.kind) 1 (layer.ReturnValue quotient) ∙ quotient_none)

-- so its code has no branch that tests the divisor
abbrev branches_in : List ℕ → ℕ
branches_in code = count_by (test_word is_branch) code

none_counted : (words : List ℕ) → All (λ word. test_word is_branch word ≡ false) words → branches_in words ≡ 0
none_counted [] all = refl
none_counted (word ∷ words) all =
    passed_over (test_word is_branch) word words
    (All-head (λ word. test_word is_branch word ≡ false) word words all)
    (none_counted words (All-tail (λ word. test_word is_branch word ≡ false) word words all))

none_in : (entries : List ℕ) (functions : List (List ℕ)) → branches_in entries ≡ 0 →
    AllZip HasFewBranches (dividing ∷ []) functions → branches_in (entries ++ concat functions) ≡ 0
none_in entries [] none few = absurd few
none_in entries (own ∷ (other ∷ others)) none few = absurd few.1
none_in entries (own ∷ []) none few =
    by (branches_in (entries ++ concat (own ∷ []))) (branches_in entries) (branches_in (own ++ [])) (branches_in own)
    (branches_in []) (branches dividing) (counted_append (test_word is_branch) entries (own ++ [])) none
    (counted_append (test_word is_branch) own []) refl few.0 dividing_none where
      by : (all a b c d e : ℕ) → all ≡ a + b → a ≡ 0 → b ≡ c + d → d ≡ 0 → c ≤ e → e ≡ 0 → all ≡ 0
      by all a b c d e first none second last few bound = omega (arith, first, none, second, last, few, bound)

test_is_refused : (before later : List ℕ) (word : ℕ) → test_word is_branch word ≡ true →
    HasNoTests division (before ++ word ∷ later) → ⊥
test_is_refused before later word is has =
    by (branches_in (before ++ word ∷ later)) (branches_in before) (branches_in (word ∷ later)) (branches_in later)
    (counted_append (test_word is_branch) before (word ∷ later))
    (counted (test_word is_branch) word later ∙ ap (λ b. cond b 1 0 + branches_in later) is)
    (ap branches_in has.whole ∙ none_in has.entries has.functions (none_counted has.entries has.entered) has.branches)
  where
    by : (all a b c : ℕ) → all ≡ a + b → b ≡ 1 + c → all ≡ 0 → ⊥
    by all a b c first second none = omega (arith, first, second, none)
