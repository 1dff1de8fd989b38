use Rattle.sc_linker.proofs.Common.{TypedSection, codes_in, drop, length, map, total, ◌≡◌}
use Rattle.sc_linker.proofs.sections.codes_in.Given as goal

-- the sections from this one on have the codes that are left
abbrev pub invariant-loop-section : goal.invariant-loop-section
invariant-loop-section l = record {
  each :
      length l.rest ≡
      total (map {A = TypedSection} (λ section. length section.functions) (drop l.section-index l.sections));
  own : codes_in l.before (drop l.section-index l.sections) l.rest ≡ codes_in l.fn.comp l.sections l.codes;
}
