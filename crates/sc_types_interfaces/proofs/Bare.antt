-- A section with nothing in it is within the counts.
use Rattle.sc_types_interfaces.proofs.Common.{All, All-cons, All-nil, HasFewExports, HasFewParams, IsWithinCounts}
use Rattle.sc_types_interfaces.proofs.Common.{SectionTree, [], ap, arith, function_decls, length, subst, sym, ◌∷◌, ◌≡◌}

pub bare_within : (section : SectionTree) → section.exports ≡ [] → section.decls ≡ [] → IsWithinCounts (section ∷ [])
bare_within section exports decls = record {
  sections = omega arith;
  exports = All-cons HasFewExports section [] (omega (arith, ap length exports)) (All-nil HasFewExports);
  params = All-cons (λ other. All HasFewParams (function_decls other.decls)) section []
      (subst (λ ds. All HasFewParams (function_decls ds)) (sym decls) (All-nil HasFewParams)) (All-nil _);
}

pub ruleset sections = bare_within
