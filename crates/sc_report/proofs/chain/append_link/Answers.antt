use Rattle.sc_report.proofs.Common.{ap, codes, comp_name, link_end, ◌++◌, ◌∙◌}
use Rattle.sc_report.proofs.Pieces.{three_pieces}
use Rattle.sc_report.proofs.chain.append_link.Goals as goal

pub returns : goal.returns
returns c =
    three_pieces c.append_link_end.result c.args.text.now c.append.new.self c.append-2.new.self
    c.append_link_end.new.text
    (codes "replace ") (comp_name c.args.interfaces.now c.args.link.now.comp)
    (link_end c.args.link.now) c.in_ok-append.ensures.ok
    (c.in_ok-append-2.ensures.ok ∙ ap (λ name. c.append.new.self ++ name) c.comp_name.ensures)
    c.append_link_end.ensures
