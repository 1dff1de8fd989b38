-- Statements that pass several tests, and so do those inside.
use Rattle.sc_emit.proofs.Common.{Bool, Each, Inside, List, TacStmt, TacStmt-F, [], all_true, and_from, and_parts}
use Rattle.sc_emit.proofs.Common.{fold-TacStmt, fold-roll-TacStmt, list_all, map, map-TacStmt, parts, refl}
use Rattle.sc_emit.proofs.Common.{roll-TacStmt, stmt_induction, sym, true, with_parts, ℕ, ◌&&◌, ◌++◌, ◌∙◌, ◌∷◌, ◌≡◌}
use Rattle.sc_tac.specs.declared.stmt.TacStmt.TheOpen as tac
use Rattle.sc_core.proofs.Induction.{everywhere as of_each}
use Rattle.sc_tac.specs.Prelude.{everywhere}

-- a test of a statement by itself
abbrev pub Test : Type 0
Test = TacStmt-F Bool → Bool

abbrev pub passes : Test → TacStmt → Bool
passes test = fold-TacStmt Bool (with_parts test)

-- a statement passes each of these
abbrev pub PassesAll : List Test → TacStmt → Type 0
PassesAll [] stmt = Unit {0}
PassesAll (test ∷ tests) stmt = (passes test stmt ≡ true) × PassesAll tests stmt

-- and so do all of these
abbrev pub AllPass : List Test → List TacStmt → Type 0
AllPass [] stmts = Unit {0}
AllPass (test ∷ tests) stmts = (all_true (map (passes test) stmts) ≡ true) × AllPass tests stmts

-- a statement of which this is the outermost layer passes each by itself
abbrev pub PassesHere : List Test → TacStmt-F TacStmt → Type 0
PassesHere [] layer = Unit {0}
PassesHere (test ∷ tests) layer = (test (map-TacStmt _ _ (passes test) layer) ≡ true) × PassesHere tests layer

pub first_passes : (tests : List Test) (stmt : TacStmt) (rest : List TacStmt) → AllPass tests (stmt ∷ rest) →
    PassesAll tests stmt
first_passes [] stmt rest h = tt
first_passes (test ∷ tests) stmt rest h =
    ((and_parts (passes test stmt) (all_true (map (passes test) rest)) h.0).0, first_passes tests stmt rest h.1)

pub rest_pass : (tests : List Test) (stmt : TacStmt) (rest : List TacStmt) → AllPass tests (stmt ∷ rest) →
    AllPass tests rest
rest_pass [] stmt rest h = tt
rest_pass (test ∷ tests) stmt rest h =
    ((and_parts (passes test stmt) (all_true (map (passes test) rest)) h.0).1, rest_pass tests stmt rest h.1)

-- the test of a statement by its layer
layer_is : (test : Test) (layer : TacStmt-F TacStmt) → passes test (roll-TacStmt layer) ≡ true →
    with_parts test (map-TacStmt _ _ (passes test) layer) ≡ true
layer_is test layer h = sym (fold-roll-TacStmt Bool (with_parts test) layer) ∙ h

pub passes_here : (tests : List Test) (layer : TacStmt-F TacStmt) → PassesAll tests (roll-TacStmt layer) →
    PassesHere tests layer
passes_here [] layer h = tt
passes_here (test ∷ tests) layer h = (
  (and_parts (test (map-TacStmt _ _ (passes test) layer))
      (list_all all_true (parts (map-TacStmt _ _ (passes test) layer))) (layer_is test layer h.0)).0,
  passes_here tests layer h.1,
)

-- the parts of a choice and of a loop
parts_hold : (test : Test) (layer : TacStmt-F TacStmt) → passes test (roll-TacStmt layer) ≡ true →
    list_all all_true (parts (map-TacStmt _ _ (passes test) layer)) ≡ true
parts_hold test layer h =
    (and_parts (test (map-TacStmt _ _ (passes test) layer))
    (list_all all_true (parts (map-TacStmt _ _ (passes test) layer))) (layer_is test layer h)).1

pub choice_passes : (tests : List Test) (cond : ℕ) (first second : List TacStmt) →
    PassesAll tests (roll-TacStmt (tac.If cond first second)) → AllPass tests first × AllPass tests second
choice_passes [] cond first second h = (tt, tt)
choice_passes (test ∷ tests) cond first second h =
    let all = parts_hold test (tac.If cond first second) h.0 in
    let one = and_parts (all_true (map (passes test) first)) _ all in
    let two = and_parts (all_true (map (passes test) second)) _ one.1 in
    let more = choice_passes tests cond first second h.1 in
    ((one.0, more.0), (two.0, more.1))

pub loop_passes : (tests : List Test) (head body next : List TacStmt) →
    PassesAll tests (roll-TacStmt (tac.Loop head body next)) →
    AllPass tests head × AllPass tests body × AllPass tests next
loop_passes [] head body next h = (tt, tt, tt)
loop_passes (test ∷ tests) head body next h =
    let all = parts_hold test (tac.Loop head body next) h.0 in
    let one = and_parts (all_true (map (passes test) head)) _ all in
    let two = and_parts (all_true (map (passes test) body)) _ one.1 in
    let three = and_parts (all_true (map (passes test) next)) _ two.1 in
    let more = loop_passes tests head body next h.1 in
    ((one.0, more.0), (two.0, more.1), (three.0, more.2))

-- those before others pass as all do
pub prefix_passes : (tests : List Test) (prefix rest : List TacStmt) → AllPass tests (prefix ++ rest) →
    AllPass tests prefix
prefix_passes [] prefix rest h = tt
prefix_passes (test ∷ tests) prefix rest h = (by prefix h.0, prefix_passes tests prefix rest h.1)
  where
    by : (xs : List TacStmt) → all_true (map (passes test) (xs ++ rest)) ≡ true →
        all_true (map (passes test) xs) ≡ true
    by [] k = refl
    by (x ∷ xs) k =
        let parts = and_parts (passes test x) (all_true (map (passes test) (xs ++ rest))) k in
        and_from (passes test x) (all_true (map (passes test) xs)) parts.0 (by xs parts.1)

-- A test that others imply, of each statement by itself, holds everywhere where they do.
module _ (tests : List Test) (test : Test)
    (implies : (layer : TacStmt-F TacStmt) → PassesHere tests layer → test (map-TacStmt _ _ (passes test) layer) ≡ true)
  where
    abbrev Implied : TacStmt → Type 0
    Implied stmt = PassesAll tests stmt → passes test stmt ≡ true

    row_implied : (stmts : List TacStmt) → Each Implied stmts → AllPass tests stmts →
        all_true (map (passes test) stmts) ≡ true
    row_implied [] h all = refl
    row_implied (stmt ∷ stmts) h all =
        and_from (passes test stmt) (all_true (map (passes test) stmts)) (h.0 (first_passes tests stmt stmts all))
        (row_implied stmts h.1 (rest_pass tests stmt stmts all))

    abbrev itself : TacStmt-F TacStmt → Bool
    itself layer = test (map-TacStmt _ _ (passes test) layer)

    lone : (layer : TacStmt-F TacStmt) → PassesAll tests (roll-TacStmt layer) → (itself layer && true) ≡ true
    lone layer all = and_from (itself layer) true (implies layer (passes_here tests layer all)) refl

    layer_implied : (layer : TacStmt-F TacStmt) → Inside Implied layer → PassesAll tests (roll-TacStmt layer) →
        with_parts test (map-TacStmt _ _ (passes test) layer) ≡ true
    layer_implied (tac.Const dest value) h all = lone (tac.Const dest value) all
    layer_implied (tac.Copy dest from) h all = lone (tac.Copy dest from) all
    layer_implied (tac.Op dest op left right) h all = lone (tac.Op dest op left right) all
    layer_implied (tac.ObjectPlace dest object) h all = lone (tac.ObjectPlace dest object) all
    layer_implied (tac.GlobalPlace dest global) h all = lone (tac.GlobalPlace dest global) all
    layer_implied (tac.Load dest place pointer) h all = lone (tac.Load dest place pointer) all
    layer_implied (tac.Store place value) h all = lone (tac.Store place value) all
    layer_implied (tac.If cond first second) h all =
        let inner = choice_passes tests cond first second all in
        and_from (itself (tac.If cond first second))
        (all_true (map (passes test) first) && (all_true (map (passes test) second) && true))
        (implies (tac.If cond first second) (passes_here tests (tac.If cond first second) all))
        (and_from (all_true (map (passes test) first)) (all_true (map (passes test) second) && true)
        (row_implied first h.0 inner.0)
        (and_from (all_true (map (passes test) second)) true (row_implied second h.1 inner.1) refl))
    layer_implied (tac.Loop head body next) h all =
        let inner = loop_passes tests head body next all in
        and_from (itself (tac.Loop head body next))
        (all_true (map (passes test) head) &&
        (all_true (map (passes test) body) && (all_true (map (passes test) next) && true)))
        (implies (tac.Loop head body next) (passes_here tests (tac.Loop head body next) all))
        (and_from (all_true (map (passes test) head))
        (all_true (map (passes test) body) && (all_true (map (passes test) next) && true))
        (row_implied head h.0 inner.0)
        (and_from (all_true (map (passes test) body)) (all_true (map (passes test) next) && true)
        (row_implied body h.1 inner.1)
        (and_from (all_true (map (passes test) next)) true (row_implied next h.2 inner.2) refl)))
    layer_implied tac.Break h all = lone tac.Break all
    layer_implied tac.Continue h all = lone tac.Continue all
    layer_implied (tac.CallOwn dest function args) h all = lone (tac.CallOwn dest function args) all
    layer_implied (tac.CallCross dest comp index args) h all = lone (tac.CallCross dest comp index args) all
    layer_implied (tac.Input dest) h all = lone (tac.Input dest) all
    layer_implied (tac.Output value) h all = lone (tac.Output value) all
    layer_implied (tac.Alloc dest count words) h all = lone (tac.Alloc dest count words) all
    layer_implied (tac.Free pointer) h all = lone (tac.Free pointer) all
    layer_implied (tac.Return value) h all = lone (tac.Return value) all

    implied : (stmt : TacStmt) → Implied stmt
    implied =
        stmt_induction Implied (λ layer h all.
        fold-roll-TacStmt Bool (with_parts test) layer ∙ layer_implied layer h all)

    pub implied_everywhere : (stmts : List TacStmt) → AllPass tests stmts → everywhere test stmts ≡ true
    implied_everywhere stmts all = row_implied stmts (of_each Implied implied stmts) all
