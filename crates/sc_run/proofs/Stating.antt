-- Statements, by their layers.
use Rattle.sc_run.proofs.Common.{Bor, Doing, Exit, Frame, Left, List, Loop, Next, None, Option, Piece, ProgramTree}
use Rattle.sc_run.proofs.Common.{Reached, Rest, Route, Seen, Some, State, Step, Steps, Stopped, TypedStmt}
use Rattle.sc_run.proofs.Common.{TypedStmtKind}
use Rattle.sc_run.proofs.Common.{TypedStmtKind-F, Work, [], ap, arith, block_acts, c_arith, calls_in, drop, drop_all}
use Rattle.sc_run.proofs.Common.{follow, get_or, here_of, in_order, kind_step, layer_of, leave, length, length-drop}
use Rattle.sc_run.proofs.Common.{loop_acts, part_acts, refl, resume, roll-TypedStmtKind, stmt_acts, stmt_at, stmt_step}
use Rattle.sc_run.proofs.Common.{subst, sym, take, take_all, ℕ, ◌++◌, ◌-◌, ◌∙◌, ◌∷◌, ◌≡◌, ◌≤◌, ◌+◌}
use Rattle.sc_core.specs.declared.stmt.TypedSimple.{TypedSimple}
use Rattle.sc_run.proofs.Looping.{steps_as, steps_wait, steps_weaken}
use Rattle.sc_run.proofs.Weighing.{nodes_are, nodes_in}
use Rattle.sc_run.specs.Weights.{block_nodes, block_weight, leaf_weight, loop_weight, stmt_weight, weight}
use Rattle.std.proofs.Common.{◌*◌}

abbrev pub layer_acts : ProgramTree → ℕ → Frame → TypedStmtKind-F TypedStmtKind TypedStmt → Doing
layer_acts program n f k line s = layer_of _ _
    (kind_step c_arith f.scope.structs.now (here_of f.scope) f.scope.params (calls_in program n)) stmt_step k line tt s

pub stmt_is : (program : ProgramTree) (f : Frame) (stmt : TypedStmt) (k : TypedStmtKind-F TypedStmtKind TypedStmt) →
    stmt.kind ≡ roll-TypedStmtKind k → (n : ℕ) (s : State) →
    stmt_acts program n f stmt tt s ≡ layer_acts program n f k stmt.line s
stmt_is program f stmt k is n s = ap (λ x. stmt_acts program n f (record { line = stmt.line; kind = x }) tt s) is ∙ (λ
    i. stmt_at _ _ (kind_step c_arith f.scope.structs.now (here_of f.scope) f.scope.params (calls_in program n))
    stmt_step stmt.line k i tt s)

-- a statement does what its layer does
pub stmt_as : {program : ProgramTree} {cost : ℕ} {before after : Seen} {work later : List Work} {f g : Frame}
    (stmt : TypedStmt) (k : TypedStmtKind-F TypedStmtKind TypedStmt) {step : Step} →
    stmt.kind ≡ roll-TypedStmtKind k → cost ≤ 8 * nodes_in k →
    Steps program cost before work f (λ n. layer_acts program n f k stmt.line) step after later g →
    Steps program (stmt_weight stmt) before work f (λ n. stmt_acts program n f stmt tt) step after later g
stmt_as {program} {f} stmt k is fits h =
    steps_as (stmt_is program f stmt k is) (steps_weaken (omega (arith, fits, nodes_are stmt k is)) h)

pub first_and_rest : {A : Type 0} (xs : List A) {x : A} → 1 ≤ length xs → x ≡ get_or xs 0 x → xs ≡ x ∷ drop 1 xs
first_and_rest [] h is = absurd (omega (arith, h))
first_and_rest (y ∷ xs) h is = λ i. sym is i ∷ xs

pub rest_of : {A : Type 0} (xs : List A) → take (length xs - 1) (drop 1 xs) ≡ drop 1 xs
rest_of xs = take_all _ _ (omega (arith, length-drop 1 xs))

-- the first statement, while the others wait
pub list_steps : {program : ProgramTree} {before after : Seen} {work later last : List Work} {f g : Frame}
    {stmts : List TypedStmt} (stmt : TypedStmt) (rest : Bor (List TypedStmt)) {step : Step} →
    stmts ≡ stmt ∷ drop 1 stmts → rest.now ≡ drop 1 stmts → later ≡ work ++ Rest rest ∷ [] →
    Steps program (stmt_weight stmt) before later f (λ n. stmt_acts program n f stmt tt) step after last g →
    Steps program (block_weight stmts) before work f (λ n s. block_acts program n f stmts tt s) step after last g
list_steps {program} {f} stmt rest split same pushed h = steps_as
    (λ n s. ap (λ xs. block_acts program n f xs tt s) (split ∙ ap (λ xs. stmt ∷ xs) (sym same)))
    (steps_wait _ pushed
    (omega (arith, ap (λ xs. block_nodes xs) split, ap (λ xs. block_nodes xs) same)) (λ n s. refl) h)

by_exit : (exit : Exit) (s : State) → follow in_order (leave exit tt s) (leave {A = Unit {0}} Next) ≡ leave exit tt s
by_exit Next s = refl
by_exit _ s = refl

-- nothing follows the last statement
pub followed_by_nothing : (p : Piece (Left (Unit {0}))) → follow in_order p (leave Next) ≡ p
followed_by_nothing (Reached left s) = by_exit _ s
followed_by_nothing (Stopped end s) = refl

-- the last statement, with nothing that waits for it
pub last_steps : {program : ProgramTree} {before after : Seen} {work later : List Work} {f g : Frame}
    {stmts : List TypedStmt} (stmt : TypedStmt) {step : Step} → stmts ≡ stmt ∷ drop 1 stmts → length stmts ≡ 1 →
    Steps program (stmt_weight stmt) before work f (λ n. stmt_acts program n f stmt tt) step after later g →
    Steps program (block_weight stmts) before work f (λ n s. block_acts program n f stmts tt s) step after later g
last_steps {program} {f} {stmts} stmt split one h = steps_weaken (omega (arith, ap (λ xs. block_nodes xs) split))
    (steps_as (λ n s. ap (λ xs. block_acts program n f xs tt s)
    (split ∙ ap (λ xs. stmt ∷ xs) (drop_all 1 stmts (omega (arith, one)))) ∙ followed_by_nothing _) h)

-- a part of a `for`, while the loop waits: the first one, or what comes before the next round
pub part_steps : {program : ProgramTree} {before after : Seen} {work later last : List Work} {f g : Frame}
    (route : Exit → Route) (waiting : Work) {given : Option TypedSimple} {part : TypedSimple} (l : Loop) {step : Step} →
    ((n : ℕ) (ws : List Work) (p : Piece (Left (Unit {0}))) →
    resume program n ws f (follow route p (loop_acts program n f l)) ≡ resume program n (waiting ∷ ws) f p) →
    weight waiting ≡ loop_weight l → given ≡ Some part → later ≡ work ++ waiting ∷ [] →
    Steps program leaf_weight before later f (λ n. part_acts program n f (Some part) tt) step after last g →
    Steps program (2 + loop_weight l) before work f
    (λ n s. follow route (part_acts program n f given tt s) (loop_acts program n f l)) step after last g
part_steps {program} {before} {after} {work} {last} {f} {g} route waiting l {step} waits weighs is pushed h =
    subst (λ o. Steps program (2 + loop_weight l) before work f
    (λ n s. follow route (part_acts program n f o tt s) (loop_acts program n f l)) step after last g) (sym is)
    (steps_wait waiting pushed (omega (arith, weighs)) (λ n s. waits n _ _) h)

-- no part: the loop
pub no_part_steps : {program : ProgramTree} {before after : Seen} {work last : List Work} {f g : Frame}
    (route : Exit → Route) {given : Option TypedSimple} (l : Loop) {step : Step} →
    ((n : ℕ) (s : State) → follow route (leave Next tt s) (loop_acts program n f l) ≡ loop_acts program n f l tt s) →
    given ≡ None → Steps program (loop_weight l) before work f (λ n. loop_acts program n f l tt) step after last g →
    Steps program (2 + loop_weight l) before work f
    (λ n s. follow route (part_acts program n f given tt s) (loop_acts program n f l)) step after last g
no_part_steps {program} {f = f} route l goes is h = steps_weaken (omega arith) (steps_as
    (λ n s. ap (λ o. follow route (part_acts program n f o tt s) (loop_acts program n f l)) is ∙ goes n s) h)
