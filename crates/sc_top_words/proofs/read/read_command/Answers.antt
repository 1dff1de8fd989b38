use Rattle.sc_top_words.proofs.Common.{IfOk-weaker, found_of, map, string_bytes, ◌∙◌}
use Rattle.sc_top_words.proofs.Reading.{commanded}
use Rattle.sc_top_words.proofs.read.read_command.Goals as goal

pub returns-clause-ok : goal.returns-clause-ok
returns-clause-ok c =
    let read = commanded (map string_bytes c.args.words.now) c.in_ok-matches.matches c.in-Some.name.now
    (found_of c.in-Some.options.now) c.in_ok-matches.ensures.ok
    c.in-Some.ensures.name c.in-Some.ensures.rows in
    IfOk-weaker c.command_with.result _ _ (λ command is. read.is ∙ is)
    (c.command_with.ensures.ok read.flag read.has)

pub returns-clause-usage : goal.returns-clause-usage
returns-clause-usage c =
    let read = commanded (map string_bytes c.args.words.now) c.in_ok-matches.matches c.in-Some.name.now
    (found_of c.in-Some.options.now) c.in_ok-matches.ensures.ok
    c.in-Some.ensures.name c.in-Some.ensures.rows in
    λ usage. read.is ∙ c.command_with.ensures.usage read.flag read.has usage
