use Rattle.sc_emit_select.proofs.Common.{Bool, None, Option, Some, ap, ap₂, if◌then◌else◌, is_break, map, refl, select}
use Rattle.sc_emit_select.proofs.Common.{sym, ℕ, ◌&&◌, ◌∙◌}
use Rattle.sc_emit_select.proofs.Turning.{forked}
use Rattle.sc_emit_select.proofs.kinds.test_of_fork.Goals as goal

-- what is returned, by the two tests
given : (cond : ℕ) → Bool → Bool → Option ℕ
given cond none broken = if none && broken then Some cond else None

pub returns-then-not-is_empty : goal.returns-then-not-is_empty
unfolding given
returns-then-not-is_empty c frame places plan =
    let broken : Bool = is_break (map (select frame places plan) c.args.second.now) in
    sym (ap (λ b. given c.args.cond b broken) c.if-not-is_empty.true) ∙
    forked frame places plan c.args.cond c.args.first.now c.args.second.now c.is_empty.result broken c.is_empty.ensures
    refl

pub returns-then-not-is_break : goal.returns-then-not-is_break
unfolding given
returns-then-not-is_break c frame places plan =
    sym (ap₂ (given c.args.cond) c.if-not-is_empty.false c.if-not-is_break.true) ∙
    forked frame places plan c.args.cond c.args.first.now c.args.second.now c.is_empty.result c.is_break.result
    c.is_empty.ensures (c.is_break.ensures frame places plan)

pub returns : goal.returns
unfolding given
returns c frame places plan =
    sym (ap₂ (given c.args.cond) c.if-not-is_empty.false c.if-not-is_break.false) ∙
    forked frame places plan c.args.cond c.args.first.now c.args.second.now c.is_empty.result c.is_break.result
    c.is_empty.ensures (c.is_break.ensures frame places plan)
