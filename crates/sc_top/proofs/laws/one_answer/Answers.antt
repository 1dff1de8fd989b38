use Rattle.sc_top.proofs.Answers.{one_answer}
use Rattle.sc_top.proofs.laws.one_answer.Goals as goal

pub returns : goal.returns
returns c =
    one_answer c.accepted_or_refused.ensures c.one_phase.ensures c.one_program.ensures c.one_policy.ensures
    c.policy_or_bad.ensures.either c.policy_or_bad.ensures.line c.bytes_name_one_list.ensures c.one_first_bad.ensures
