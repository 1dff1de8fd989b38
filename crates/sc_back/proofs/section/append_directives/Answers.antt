use Rattle.sc_back.proofs.Common.{codes, export_text, flat_map, import_text}
use Rattle.sc_back.proofs.Loops.{headed}
use Rattle.sc_back.proofs.section.append_directives.Goals as goal

pub returns : goal.returns
returns c =
    headed c.args.text.now (codes "#pragma compartment ") c.args.interface.now.name (codes "\n")
    (flat_map export_text c.args.interface.now.exports)
    (flat_map (import_text c.args.interfaces.now) c.args.interface.now.imports) c.append_heading.new.text
    c.append_exports.new.text c.append_imports.new.text
    (rw c.as_bytes.ensures.value at c.in_ok-append_heading.ensures)
    (rw c.as_slice.ensures at c.in_ok-append_exports.ensures)
    (rw c.as_slice-2.ensures at c.in_ok-append_imports.ensures)
