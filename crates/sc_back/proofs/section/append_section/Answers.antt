use Rattle.sc_back.proofs.Loops.{whole_section}
use Rattle.sc_back.proofs.section.append_section.Goals as goal

pub returns : goal.returns
returns c =
    whole_section c.args.interfaces.now c.args.comp c.args.rows.now c.args.interface.now c.args.text.now
    c.append_directives.new.text c.append_declarations.new.text c.in_ok-append_directives.ensures
    c.in_ok-append_declarations.ensures
