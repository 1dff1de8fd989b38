-- Walks, piece by piece.
use Rattle.sc_live.proofs.Common.{Bool, Holds, List, Lives, Option, Point, TempSet, TacStmt, TacStmt-F, Trail, Walk}
use Rattle.sc_live.proofs.Common.{Walked}
use Rattle.sc_live.proofs.Common.{WalkedAll, WalkedOver, [], ap, append_assoc, arith, drop, drop-cons, false}
use Rattle.sc_live.proofs.Common.{fold-roll-TacStmt, get_or, if_calls, is_one, length, live_before, live_first}
use Rattle.sc_live.proofs.Common.{lives_at, map, map-TacStmt, not, one_or_none, plain_points, point, roll-TacStmt}
use Rattle.sc_live.proofs.Common.{row_points, set_of, subst, suc, sym, trail, trail_step, true, ℕ, ◌&&◌, ◌++◌, ◌-◌, ◌<◌}
use Rattle.sc_live.proofs.Common.{◌==◌, ◌||◌, ◌∙◌, ◌∷◌, ◌≡◌, ◌≤◌}
use Rattle.std.proofs.Math.Bool.{or_comm}
use Rattle.sc_tac.specs.declared.stmt.TacStmt.TheOpen as tac
use Rattle.sc_tac.specs.declared.stmt.TacStmt.TheVariants as emit

-- what is live may be replaced
pub relived : (points : List Point) (set set' : TempSet) (before after : Walk) (live : List ℕ) →
    Walked points set before after → set_of live ≡ set' → Walked points set' before (record after { live = live })
relived points set set' before after live h is = record {
  live = is;
  holds = λ temps following g.
      let k : Holds temps after (points ++ following) = h.holds temps following g in
      record { counted = k.counted; call = k.call; marks = k.marks };
}

pub relived_before : (points : List Point) (set : TempSet) (before after : Walk) (live : List ℕ) →
    Walked points set (record before { live = live }) after → Walked points set before after
relived_before points set before after live h = record {
  live = h.live;
  holds = λ temps following k.
      h.holds temps following (record { counted = k.counted; call = k.call; marks = k.marks });
}

-- one piece before another
pub walked_on : (xs ys : List Point) (set set' : TempSet) (before between after : Walk) →
    Walked ys set before between → Walked xs set' between after → Walked (xs ++ ys) set' before after
walked_on xs ys set set' before between after h k = record {
  live = k.live;
  holds = λ temps following g.
      subst (Holds temps after) (sym (append_assoc xs ys following))
      (k.holds temps (ys ++ following) (h.holds temps following g));
}

pub walked_as : (points points' : List Point) (set set' : TempSet) (before after : Walk) → points ≡ points' → set ≡ set'
    →
    Walked points set before after → Walked points' set' before after
walked_as points points' set set' before after p s h =
    subst (λ x. Walked x set' before after) p (subst (λ x. Walked points x before after) s h)

-- a statement without others inside: its assignment, its call, what it reads
pub plain_walked : (reads : List ℕ) (calls : Bool) (assigned : Option ℕ) (a b c d : Walk) →
    Walked (record { assigned = assigned; calls = false; live = set_of a.live } ∷ [])
    (λ t. not (is_one t (one_or_none assigned)) && is_one t a.live) a b →
    Walked (if_calls calls (point true (set_of b.live))) (set_of b.live) b c →
    Walked (point false (λ t. is_one t reads || is_one t c.live) ∷ []) (λ t. is_one t reads || is_one t c.live) c d →
    Walked (plain_points reads calls assigned (lives_at a.live [] []))
    (λ t. is_one t reads || (not (is_one t (one_or_none assigned)) && is_one t a.live)) a d
plain_walked reads calls assigned a b c d first second third =
    let across : TempSet = λ t. not (is_one t (one_or_none assigned)) && is_one t a.live in
    let b_is : set_of b.live ≡ across = first.live in
    let c_is : set_of c.live ≡ across = second.live ∙ b_is in
    walked_on (point false (λ t. is_one t reads || across t) ∷ [])
    (if_calls calls (point true across) ++ record { assigned = assigned; calls = false; live = set_of a.live } ∷ [])
    across (λ t. is_one t reads || across t) a c d
    (walked_on (if_calls calls (point true across))
    (record { assigned = assigned; calls = false; live = set_of a.live } ∷ []) across across a b c first
    (subst (λ s. Walked (if_calls calls (point true s)) s b c) b_is second))
    (subst (λ s. Walked (point false (λ t. is_one t reads || s t) ∷ []) (λ t. is_one t reads || s t) c d) c_is third)

-- a statement before others
pub row_walked : (stmt : TacStmt) (rest : List TacStmt) (lives : Lives) (a b c : Walk) → WalkedAll rest lives a b →
    WalkedOver stmt (record lives { following = set_of b.live }) b c → WalkedAll (stmt ∷ rest) lives a c
row_walked stmt rest lives a b c h k =
    let inner : TempSet → Lives = λ set. record lives { following = set } in
    let set : TempSet = live_before (map trail rest) lives in
    walked_on ((trail stmt).points (inner set)) (row_points (map trail rest) lives) set
    (live_first (trail stmt) (inner set)) a b c h
    (subst (λ s. Walked ((trail stmt).points (inner s)) (live_first (trail stmt) (inner s)) b c) h.live k)

-- a statement by its layer
pub over_layer : (stmt : TacStmt) (layer : TacStmt-F TacStmt) (lives : Lives) (a b : Walk) →
    roll-TacStmt layer ≡ stmt →
    Walked ((trail_step (map-TacStmt _ _ trail layer)).points lives)
    (live_first (trail_step (map-TacStmt _ _ trail layer)) lives) a b → WalkedOver stmt lives a b
over_layer stmt layer lives a b is h =
    subst (λ x. Walked (x.points lives) (live_first x lives) a b)
    (sym (fold-roll-TacStmt Trail trail_step layer) ∙ ap trail is) h

-- two ways to go on, the second first
pub forked : (stmt : TacStmt) (cond : ℕ) (first second : List TacStmt) (broken continued : List ℕ)
    (a b : Walk) (following other : List ℕ) (c d : Walk) → stmt ≡ emit.If cond first second → following ≡ a.live →
    other ≡ b.live →
    WalkedAll second (lives_at a.live broken continued) a b →
    WalkedAll first (lives_at following broken continued) (record b { live = following }) c →
    Walked (point false (λ t. cond == t || (is_one t other || is_one t c.live)) ∷ [])
    (λ t. cond == t || (is_one t other || is_one t c.live)) c d →
    WalkedOver stmt (lives_at a.live broken continued) a d
forked stmt cond first second broken continued a b following other c d is same kept h k last =
    let lives : Lives = lives_at a.live broken continued in
    let first_live : TempSet = live_before (map trail first) lives in
    let second_live : TempSet = live_before (map trail second) lives in
    let set : TempSet = λ t. cond == t || (first_live t || second_live t) in
    let prefix : Walked (row_points (map trail first) lives) first_live b c =
    relived_before _ _ _ _ _ (subst (λ l. WalkedAll first (lives_at l broken continued) (record b { live = l }) c)
    same k) in
    let joined : (λ t. cond == t || (is_one t other || is_one t c.live)) ≡ set =
    λ i t. (ap (λ x. cond == t || x) (or_comm (is_one t other) (is_one t c.live)
    ∙ (λ j. prefix.live j t || is_one t (kept j)) ∙ (λ j. first_live t || h.live j t))) i in
    over_layer stmt (tac.If cond first second) lives a d (emit.rolls-If cond first second ∙ sym is)
    (walked_on (point false set ∷ []) (row_points (map trail first) lives ++ row_points (map trail second) lives)
    first_live set a c d
    (walked_on (row_points (map trail first) lives) (row_points (map trail second) lives) second_live first_live a b c
    h prefix)
    (subst (λ s. Walked (point false s ∷ []) s c d) joined last))

pub stepped : (list : List TacStmt) (at : ℕ) (stmt : TacStmt) (lives : Lives) (a b c : Walk) → 0 < at →
    at ≤ length list → stmt ≡ get_or list (at - 1) stmt → WalkedAll (drop at list) lives a b →
    WalkedOver stmt (record lives { following = set_of b.live }) b c →
    (at - 1 ≤ length list) × WalkedAll (drop (at - 1) list) lives a c
stepped list at stmt lives a b c some within is h k =
    let next : suc (at - 1) ≡ at = omega (arith, some) in
    let parted : stmt ∷ drop at list ≡ drop (at - 1) list =
    (λ i. is i ∷ drop (sym next i) list) ∙ sym (drop-cons list (at - 1) stmt (omega (arith, some, within))) in (
      omega (arith, within),
      subst (λ x. WalkedAll x lives a c) parted (row_walked stmt (drop at list) lives a b c h k),
    )

-- a part of a loop, which goes on at its end
pub part_walked : (part : List TacStmt) (broken continued : List ℕ) (a b : Walk) → continued ≡ a.live →
    WalkedAll part (lives_at a.live broken continued) a b → WalkedAll part (lives_at a.live broken a.live) a b
part_walked part broken continued a b same h = subst (λ l. WalkedAll part (lives_at a.live broken l) a b) same h
