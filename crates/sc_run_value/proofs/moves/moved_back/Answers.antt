use Rattle.sc_run_value.proofs.Common.{arith, memory_of}
use Rattle.std.specs.Int.{w64}
use Rattle.std.proofs.lemmas.Int.{ints, to_z-of_z}
use Rattle.sc_run_value.proofs.Shifts.{back_is}
use Rattle.sc_run_value.proofs.moves.moved_back.Goals as goal

pub returns : goal.returns
returns c =
    back_is (memory_of c.args.blocks.now c.args.comp) c.args.cells c.args.unsigned c.args.place c.args.index
    c.in-Word.word c.back_by.result c.moved.result c.in-Word.is c.back_by.ensures.number
    (rw (to_z-of_z w64 c.back_by.result (omega (arith, ints))) at c.moved.ensures)
