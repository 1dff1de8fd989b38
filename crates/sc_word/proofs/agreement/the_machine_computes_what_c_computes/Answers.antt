-- One lemma for each pair.
use Rattle.sc_word.proofs.OnAllWords.{add_agrees, sub_agrees, mul_agrees, div_agrees, rem_agrees, shl_signed_agrees}
use Rattle.sc_word.proofs.OnAllWords.{shr_signed_agrees, divu_agrees, remu_agrees, shl_unsigned_agrees}
use Rattle.sc_word.proofs.OnAllWords.{shr_unsigned_agrees, neg_agrees}
use Rattle.sc_word.proofs.agreement.the_machine_computes_what_c_computes.Goals as goal

pub returns : goal.returns
returns c = record {
  add_signed_by_add = add_agrees;
  sub_signed_by_sub = sub_agrees;
  mul_signed_by_mul = mul_agrees;
  div_signed_by_div = div_agrees;
  rem_signed_by_rem = rem_agrees;
  shl_signed_by_sll = shl_signed_agrees;
  shr_signed_by_sra = shr_signed_agrees;
  div_unsigned_by_divu = divu_agrees;
  rem_unsigned_by_remu = remu_agrees;
  shl_unsigned_by_sll = shl_unsigned_agrees;
  shr_unsigned_by_srl = shr_unsigned_agrees;
  neg_signed_by_sub = neg_agrees;
}
