-- What is appended changes no number.
use Rattle.sc_zone.proofs.Common.{[], ap, arith, if◌then◌else◌, slice_index, ◌++◌, ◌∙◌, ◌∷◌, ◌≡◌}
use Rattle.std.proofs.Common.{is_ok}
use Rattle.sc_zone.proofs.Blocks.{with_zero}
use Rattle.sc_zone.proofs.table.put.Goals as goal

pub loop-table-preserved : goal.loop-table-preserved
loop-table-preserved c =
    let items : c.push.new.self.items ≡ c.loop-table.table.items ++ 0 ∷ [] =
    c.push.ensures.items ∙
    ap (λ r. if is_ok r then c.loop-table.table.items ++ 0 ∷ [] else c.loop-table.table.items) c.unwrap.ensures in
    record {
      numbers = λ k. ap (λ l. slice_index l k) items ∙ with_zero c.loop-table.table.items k ∙
          c.loop-table.invariant.numbers k;
      capacity = omega (arith, c.push.ensures.capacity, c.loop-table.invariant.capacity);
    }
