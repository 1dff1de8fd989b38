-- The walk passes no more points than the statements weigh that it goes over, so that their number is a u32.
use Rattle.sc_live.proofs.Common.{List, TacStmt, [], ap, arith, get_or, length, stmt_weight, subst, suc, take, weight}
use Rattle.sc_live.proofs.Common.{zero, ℕ, ◌+◌, ◌-◌, ◌<◌, ◌^◌, ◌∷◌, ◌≡◌, ◌≤◌}
use Rattle.sc_tac.specs.declared.function.TacFnTree.{TacFnTree}
use Rattle.sc_tac.specs.Functions.{IsFunction}

-- STATEMENTS IN ORDER, from the last one back
weight_next : (stmts : List TacStmt) (i : ℕ) (x : TacStmt) → i < length stmts → x ≡ get_or stmts i x →
    weight (take (suc i) stmts) ≡ weight (take i stmts) + stmt_weight x
weight_next [] i x h is = absurd (omega arith)
weight_next (s ∷ rest) zero x h is = let same : stmt_weight x ≡ stmt_weight s = ap stmt_weight is in omega (arith, same)
weight_next (s ∷ rest) (suc i) x h is = let more = weight_next rest i x (omega arith) is in omega (arith, more)

last_weight : (list : List TacStmt) (at : ℕ) (x : TacStmt) → 0 < at → at ≤ length list → x ≡ get_or list (at - 1) x →
    weight (take at list) ≡ weight (take (at - 1) list) + stmt_weight x
last_weight list at x some within is =
    let next : suc (at - 1) ≡ at = omega (arith, some) in
    subst (λ n. weight (take n list) ≡ weight (take (at - 1) list) + stmt_weight x) next
    (weight_next list (at - 1) x (omega (arith, some, within)) is)

prefix_lighter : (list : List TacStmt) (n : ℕ) → weight (take n list) ≤ weight list
prefix_lighter list zero = omega arith
prefix_lighter [] (suc n) = omega arith
prefix_lighter (x ∷ rest) (suc n) = omega (arith, prefix_lighter rest n)

pub no_heavier : (list stmts : List TacStmt) (at : ℕ) (x : TacStmt) → list ≡ stmts → 0 < at → at ≤ length list →
    x ≡ get_or list (at - 1) x → stmt_weight x ≤ weight stmts
no_heavier list stmts at x same some within is =
    let all : weight list ≡ weight stmts = ap weight same in
    omega (arith, last_weight list at x some within is, prefix_lighter list at, all)

pub stmt_room : (list stmts : List TacStmt) (at points start : ℕ) (x : TacStmt) → list ≡ stmts → 0 < at →
    at ≤ length list → x ≡ get_or list (at - 1) x → points + weight (take at list) ≤ start + weight list →
    start + weight stmts < 2 ^ 32 → points + stmt_weight x < 2 ^ 32
stmt_room list stmts at points start x same some within is few room =
    let all : weight list ≡ weight stmts = ap weight same in
    omega (arith, last_weight list at x some within is, few, room, all)

pub stmt_after : (list : List TacStmt) (at points after start : ℕ) (x : TacStmt) → 0 < at → at ≤ length list →
    x ≡ get_or list (at - 1) x → points + weight (take at list) ≤ start + weight list →
    after ≤ points + stmt_weight x → after + weight (take (at - 1) list) ≤ start + weight list
stmt_after list at points after start x some within is few more =
    omega (arith, last_weight list at x some within is, few, more)

-- A FUNCTION
pub body_room : (f : TacFnTree) (points : ℕ) → IsFunction f → points ≡ 0 → points + weight f.body < 2 ^ 32
body_room f points h none = omega (arith, h.light, h.few_nodes, none)

-- with the temporaries that are never used, which have points behind the code
pub points_room : (f tree : TacFnTree) (points start : ℕ) → tree ≡ f → IsFunction f → start ≡ 0 →
    points ≤ start + weight tree.body → points + f.temps < 2 ^ 32
points_room f tree points start same h none few =
    let weighs : weight tree.body ≡ weight f.body = ap (λ f. weight f.body) same in
    omega (arith, h.light, h.few_nodes, h.few_temps, none, few, weighs)
