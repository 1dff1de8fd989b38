use Rattle.std.proofs.Common.{arith}
use Rattle.rv_code.proofs.OneEach.{found, not_found}
use Rattle.rv_code.proofs.decoding.decode.Goals as goal

pub returns-clause-found : goal.returns-clause-found
returns-clause-found c = found c.args.word c.decode_by_opcode.result (omega arith) c.decode_by_opcode.ensures

pub returns-clause-none : goal.returns-clause-none
returns-clause-none c = not_found c.args.word c.decode_by_opcode.result c.decode_by_opcode.ensures
