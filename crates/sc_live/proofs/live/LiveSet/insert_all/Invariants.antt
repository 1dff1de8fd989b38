use Rattle.sc_live.proofs.Common.{is_one, take, ℕ, ◌||◌, ◌≡◌}
use Rattle.sc_live.proofs.live.LiveSet.insert_all.Given as goal

abbrev pub invariant-loop-temp : goal.invariant-loop-temp
invariant-loop-temp l = (t : ℕ) →
    is_one t l.self ≡ (is_one t (take l.temp-index l.temps) || is_one t l.initial.self)
