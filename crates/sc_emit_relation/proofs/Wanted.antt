-- What is live and read in its place: less than what is live.
use Rattle.sc_emit_relation.proofs.Common.{Bool, IsClear, List, Place, Point, TempSet, and_first, and_from, and_rest}
use Rattle.sc_emit_relation.proofs.Common.{true}
use Rattle.sc_emit_relation.proofs.Common.{wanted, ℕ, ◌≡◌}

-- where less is live, less is wanted
pub wanted_less : (needed less more : TempSet) → ((t : ℕ) → less t ≡ true → more t ≡ true) → (t : ℕ) →
    wanted needed less t ≡ true → wanted needed more t ≡ true
wanted_less needed less more h t on =
    and_from (more t) (needed t) (h t (and_first (less t) (needed t) on)) (and_rest (less t) (needed t) on)

-- a point is as clear for what is wanted
pub clear_wanted : (places : List Place) (needed : TempSet) (point : Point) → IsClear places point →
    IsClear places (record point { live = wanted needed point.live })
clear_wanted places needed point clear = record {
  assigned = λ d t e on. clear.assigned d t e (and_first (point.live t) (needed t) on);
  live = λ t u on on'. clear.live t u (and_first (point.live t) (needed t) on) (and_first (point.live u) (needed u)
      on');
  over_calls = λ t calls on. clear.over_calls t calls (and_first (point.live t) (needed t) on);
}
