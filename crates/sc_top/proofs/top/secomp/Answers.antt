use Rattle.sc_top.proofs.Answers.{answers_by}
use Rattle.sc_top.proofs.top.secomp.Goals as goal

pub returns-clause-answer : goal.returns-clause-answer
returns-clause-answer g c =
    answers_by c.accepted_or_refused.ensures c.one_phase.ensures c.one_program.ensures c.one_policy.ensures
    c.policy_or_bad.ensures.either c.policy_or_bad.ensures.line c.bytes_name_one_list.ensures c.one_first_bad.ensures
    _ _ c.answer.result c.status_by-status.result
    c.status_by-status.ensures c.answer.ensures.no_command c.answer.ensures.says
