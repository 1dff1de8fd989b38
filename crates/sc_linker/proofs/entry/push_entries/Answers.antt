use Rattle.sc_linker.proofs.Common.{TypedFunction, addresses_of, ap, arith, map, ◌∙◌}
use Rattle.sc_linker.proofs.Jumps.{has_function, one_jump}
use Rattle.sc_linker.proofs.entry.push_entries.Goals as goal

pub entry_jump-requires-clause-named : goal.entry_jump-requires-clause-named
entry_jump-requires-clause-named c =
    has_function c.args.section.now c.in_ok-names.names (c.in_ok-names.ensures ∙
    ap (map {A = TypedFunction} (λ f. f.name)) c.as_slice.ensures) c.args.exports.now c.loop-proto.proto-index
    c.proto-item.result c.loop-proto-test.true c.proto-item.is c.requires.named

pub loop-proto-preserved : goal.loop-proto-preserved
loop-proto-preserved c = record {
  number = omega arith;
  words = one_jump c.args.section.now c.in_ok-names.names (c.in_ok-names.ensures ∙
      ap (map {A = TypedFunction} (λ f. f.name)) c.as_slice.ensures) (addresses_of c.args.layout.now)
      c.args.layout.now.comp c.args.exports.now c.loop-proto.proto-index c.proto-item.result c.loop-proto-test.true
      c.proto-item.is c.loop-proto.words c.push.new.self _ c.loop-proto.index c.encode.result c.entry_jump.result
      c.entry_jump.ensures c.encode.ensures.word c.in_ok-push.ensures.ok c.loop-proto.invariant.words;
}
