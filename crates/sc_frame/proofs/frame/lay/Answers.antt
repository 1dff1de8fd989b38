use Rattle.sc_frame.proofs.Common.{FrameFits, IsFrame, ap, arith, frame_of, rules, slots_of, subst, sym, ◌≡◌, ◌≤◌}
use Rattle.sc_tac.specs.declared.function.TacFnTree.{TacFnTree}
use Rattle.sc_tac.specs.declared.frame.FrameTree.{FrameTree}
use Rattle.sc_frame.proofs.Fitting.{fits_frame, is_frame}
use Rattle.sc_frame.proofs.frame.lay.Goals as goal

pub new-requires : goal.new-requires
new-requires c =
    let tree : FrameTree = record {
      bytes = c.in_ok-objects.objects.end;
      objects = c.in_ok-objects.objects.offsets;
      slots = c.in_ok-slots.slots;
    } in
    let e : tree ≡ frame_of c.args.f.now.objects c.args.places.now = search rules in
    subst IsFrame (sym e) (is_frame c.args.f.now.objects c.args.places.now)

pub returns-clause-frame_fits : goal.returns-clause-frame_fits
returns-clause-frame_fits c =
    let e : c.new.result ≡ frame_of c.args.f.now.objects c.args.places.now = search rules in
    let count : slots_of c.as_slice.result.now ≡ slots_of c.args.places.now = ap slots_of c.as_slice.ensures.list in
    let temps : c.tree-f.result.now.temps ≡ c.args.f.now.temps =
    ap (λ (f : TacFnTree). f.temps) c.tree-f.ensures.tree in
    let nodes : c.tree-f.result.now.nodes ≡ c.args.f.now.nodes =
    ap (λ (f : TacFnTree). f.nodes) c.tree-f.ensures.tree in
    let few : slots_of c.args.places.now ≤ c.args.f.now.nodes =
    omega (arith, count, temps, nodes, c.slots_of-count.ensures, c.tree-f.ensures.rules.few_temps) in
    subst (FrameFits c.args.f.now.objects c.args.places.now c.args.f.now.nodes) (sym e)
    (fits_frame c.args.f.now.objects c.args.places.now c.args.f.now.nodes few)
