use Rattle.std.proofs.Common.{rules}
use Rattle.sc_object.proofs.Links.{differs, few_faces, is_missing, is_twice}
use Rattle.sc_object.proofs.Named.{names_face}
use Rattle.sc_object.proofs.linking.link_objects.Goals as goal

pub check_all-requires : goal.check_all-requires
check_all-requires c = rw c.len.ensures (few_faces c.args.objects.now c.as_slice-list.result.now c.index-list-0.result
    c.as_slice-list.ensures.parts c.as_slice-list.ensures.good c.index-list-0.is)

pub returns-in_err-check_program-clause-named : goal.returns-in_err-check_program-clause-named
returns-in_err-check_program-clause-named c =
    let named = names_face c.args.objects.now _ c.as_slice-list.ensures.good
    (differs c.args.objects.now c.as_slice-list.result.now c.index-list-0.result c.as_slice-list.ensures.parts
    c.as_slice-list.ensures.good c.index-list-0.is _ c.in_err-check_program.ensures.found) in
    search (rules, named)

pub returns-in_err-check_once-clause-named : goal.returns-in_err-check_once-clause-named
returns-in_err-check_once-clause-named c =
    let named = names_face c.args.objects.now _ c.as_slice-list.ensures.good
    (is_twice c.args.objects.now c.as_slice-list.result.now c.index-list-0.result c.as_slice-list.ensures.parts
    c.as_slice-list.ensures.good c.index-list-0.is _ c.in_ok-check_program.ensures.none
    c.in_err-check_once.ensures.found) in
    search (rules, named)

pub returns-in_err-check_all-clause-named : goal.returns-in_err-check_all-clause-named
returns-in_err-check_all-clause-named c =
    let named = names_face c.args.objects.now _ c.as_slice-list.ensures.good
    (is_missing c.args.objects.now c.as_slice-list.result.now c.index-list-0.result c.as_slice-list.ensures.parts
    c.as_slice-list.ensures.good c.index-list-0.is _ c.in_ok-check_program.ensures.none
    c.in_ok-check_once.ensures.none (rw c.len.ensures at c.in_err-check_all.ensures.found)) in
    search (rules, named)
