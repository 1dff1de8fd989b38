use Rattle.sc_machine.proofs.Common.{Some, arith, entered_export, sym, ◌∙◌, ◌≡◌}
use Rattle.sc_machine.proofs.Callees.{exporter_within, export_few, export_takes, takes_few}
use Rattle.sc_machine.proofs.calling.find_callee.Goals as goal

pub overflow_cast-callee : goal.overflow_cast-callee
overflow_cast-callee c =
    let found : entered_export c.args.image.now c.comp_of_code-comp.result c.args.target ≡ Some c.in-Some.index =
    rw c.exports-exports.ensures at (sym c.in-Some.ensures) in
    omega (arith, export_few c.args.image.now c.requires c.comp_of_code-comp.result c.args.target c.in-Some.index found)

pub returns-clause-callee : goal.returns-clause-callee
returns-clause-callee c =
    let found : entered_export c.args.image.now c.comp_of_code-comp.result c.args.target ≡ Some c.in-Some.index =
    rw c.exports-exports.ensures at (sym c.in-Some.ensures) in
    let there : entered_export c.args.image.now c.comp_id.result c.args.target ≡ Some c.in-Some.index =
    rw c.comp_id.ensures found in
    let takes = export_takes c.args.image.now c.requires c.comp_id.result c.args.target c.in-Some.index there
    c.index-exports-index.result in
    record {
      comp = c.comp_id.ensures ∙ c.comp_of_code-comp.ensures;
      within = exporter_within c.args.image.now c.requires c.comp_id.result c.args.target c.in-Some.index there;
      index = there;
      params = rw (c.exports-exports.ensures, ← c.comp_id.ensures) takes;
      few = rw (c.exports-exports.ensures, ← c.comp_id.ensures, takes)
          (takes_few c.args.image.now c.requires c.comp_id.result c.args.target c.in-Some.index there);
      may = sym c.if-not-may_call.ensures;
    }
