-- Walks over all of a function's code.
use Rattle.sc_live.proofs.Common.{Holds, List, TacStmt, Walk, WalkedAll, [], append-nil, lives_at, map, nothing_live}
use Rattle.sc_live.proofs.Common.{points, row_points, subst, trail, ℕ, ◌≡◌}

pub all_walked : (temps : ℕ) (body : List TacStmt) (broken continued : List ℕ) (a b : Walk) → a.live ≡ [] →
    broken ≡ [] → continued ≡ [] → Holds temps a [] → WalkedAll body (lives_at a.live broken continued) a b →
    Holds temps b (points body nothing_live)
all_walked temps body broken continued a b live out on h k =
    let whole : WalkedAll body nothing_live a b =
    subst (λ l. WalkedAll body (lives_at l [] []) a b) live
    (subst (λ l. WalkedAll body (lives_at a.live l []) a b) out
    (subst (λ l. WalkedAll body (lives_at a.live broken l) a b) on k)) in
    subst (Holds temps b) (append-nil (row_points (map trail body) nothing_live)) (whole.holds temps [] h)
