use Rattle.sc_opt.proofs.Noting.{fact_set}
use Rattle.sc_opt.proofs.facts.note.Goals as goal

pub returns-in-Some : goal.returns-in-Some
returns-in-Some c = fact_set c.args.table.now c.set.new.self c.args.temp c.in-Some.known.now c.with_fact-facts.result
    c.args.assigned c.args.word c.in-Some.ensures.value c.with_fact-facts.ensures c.set.ensures
