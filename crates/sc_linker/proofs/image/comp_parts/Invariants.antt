use Rattle.sc_linker.proofs.Common.{All, IsNamed, IsWhole, codes_at, comp_parts, drop, take, ℕ, ◌++◌, ◌<◌, ◌≡◌}
use Rattle.sc_linker.proofs.image.comp_parts.Given as goal

-- the compartments before this one are linked
abbrev pub invariant-loop-number : goal.invariant-loop-number
invariant-loop-number l = record {
  parts :
      l.parts ++ comp_parts l.program l.codes l.number (drop l.number l.program.interfaces.comps) ≡
      comp_parts l.program l.codes 0 l.program.interfaces.comps;
  named : All IsNamed (take l.number l.program.interfaces.comps);
  whole : (comp : ℕ) → comp < l.number → All IsWhole (codes_at l.program l.codes comp);
}
