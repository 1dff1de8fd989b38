-- The first chunk that has one, and the first place in it.
use Rattle.sc_zone.proofs.Common.{arith, slice_index, subst, ◌<◌}
use Rattle.sc_zone.proofs.Widest.{found_is, none_any, none_is_wide}
use Rattle.sc_zone.proofs.gaps.Gaps.first_from.Goals as goal

pub returns-in_err-chunk-clause-none : goal.returns-in_err-chunk-clause-none
returns-in_err-chunk-clause-none c =
    none_any c.from_residual.result
    (none_is_wide c.args.self.now.words.items c.args.self.now.widest.items c.args.words c.args.self.now.are_widest
    (λ k. subst (λ l. slice_index l k < c.args.words) c.deref.ensures.value
    (c.in_err-chunk.ensures.none k (omega arith))))

pub returns-clause-first : goal.returns-clause-first
returns-clause-first c =
    (found_is c.args.self.now.words.items c.args.self.now.widest.items c.deref-2.result.now c.deref.result.now
    c.in_ok-chunk.chunk c.args.words c.first_from-2.result c.args.self.now.are_widest c.deref-2.ensures.value
    c.deref.ensures.value c.requires c.in_ok-chunk.ensures.found c.in_ok-chunk.ensures.first
    c.first_from-2.ensures.found c.first_from-2.ensures.first c.first_from-2.ensures.none).first

pub returns-clause-none : goal.returns-clause-none
returns-clause-none c =
    (found_is c.args.self.now.words.items c.args.self.now.widest.items c.deref-2.result.now c.deref.result.now
    c.in_ok-chunk.chunk c.args.words c.first_from-2.result c.args.self.now.are_widest c.deref-2.ensures.value
    c.deref.ensures.value c.requires c.in_ok-chunk.ensures.found c.in_ok-chunk.ensures.first
    c.first_from-2.ensures.found c.first_from-2.ensures.first c.first_from-2.ensures.none).none
