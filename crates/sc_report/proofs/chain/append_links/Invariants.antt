use Rattle.sc_report.proofs.Common.{flat_map, link_line, take, ◌++◌, ◌≡◌}
use Rattle.sc_report.proofs.chain.append_links.Given as goal

abbrev pub invariant-loop-link : goal.invariant-loop-link
invariant-loop-link l = l.text ≡ l.initial.text ++ flat_map (link_line l.interfaces) (take l.link-index l.links)
