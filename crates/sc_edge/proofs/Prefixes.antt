-- What a read leaves: the bytes that it gave and the rest are what there was.
use Rattle.std.proofs.Common.{◌≡◌, ◌≤◌, ℕ, ◌+◌, ◌-◌, List, ◌++◌, length, take, drop, sym, ◌∙◌, ap, take-append-drop}
use Rattle.std.proofs.Common.{length-take, length-drop, arith}
use Rattle.std.proofs.lemmas.List.{take_at, take_all, drop-drop}

pub prefix_taken : (items now buf rest : List ℕ) (at n : ℕ) → now ≡ items →
    n ≤ length (take (length now - at) (drop at now)) → buf ≡ take n (take (length now - at) (drop at now)) ++ rest →
    drop at items ≡ take n buf ++ drop (at + n) items
prefix_taken items now buf rest at n is fits copied =
    let whole : take (length now - at) (drop at now) ≡ drop at items =
    take_all _ _ (omega (arith, length-drop at now)) ∙ ap (λ (l : List ℕ). drop at l) is in
    let room : n ≤ length (drop at items) = rw (← whole) fits in
    let prefix : take n buf ≡ take n (drop at items) =
    ap (λ (l : List ℕ). take n l) (copied ∙ ap (λ (l : List ℕ). take n l ++ rest) whole) ∙
    take_at (take n (drop at items)) rest n (omega (arith, room, length-take n (drop at items))) in
    sym (take-append-drop n (drop at items)) ∙ ap (λ (l : List ℕ). l ++ drop n (drop at items)) (sym prefix) ∙
    ap (λ (l : List ℕ). take n buf ++ l) (drop-drop n at items)
