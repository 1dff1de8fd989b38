use Rattle.sc_back.proofs.Common.{codes, flat_map, functions_text, main_text, proto_text}
use Rattle.sc_back.proofs.Loops.{four_pieces}
use Rattle.sc_back.proofs.section.append_declarations.Goals as goal

pub returns : goal.returns
returns c =
    four_pieces c.args.text.now (flat_map (proto_text c.args.interfaces.now) c.args.interface.now.imports)
    (codes "unsigned int bt_n;\n")
    (functions_text c.args.interfaces.now c.args.rows.now 0 c.args.interface.now.exports)
    (main_text c.args.interfaces.now c.args.comp c.args.rows.now) c.append_protos.new.text c.append.new.self
    c.append_functions.new.text c.append_main.new.text (rw c.as_slice.ensures at c.in_ok-append_protos.ensures)
    c.in_ok-append.ensures.ok (rw c.as_slice-2.ensures at c.in_ok-append_functions.ensures)
    c.in_ok-append_main.ensures
