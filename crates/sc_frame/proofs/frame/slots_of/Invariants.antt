use Rattle.sc_frame.proofs.Common.{IsTrue, drop, is_place, list_all, max, slots_of, ◌≡◌, ◌≤◌}
use Rattle.sc_frame.proofs.frame.slots_of.Given as goal

abbrev pub invariant-loop-place : goal.invariant-loop-place
invariant-loop-place l = record {
  counted : max l.count (slots_of (drop l.place-index l.places)) ≡ slots_of l.places;
  bound : l.count ≤ l.temps;
  rest : IsTrue (list_all (is_place l.temps) (drop l.place-index l.places));
}
