-- Calls of compartments that perform are followed where their functions are, from compartments that run their code.
use Rattle.sc_emit_run_laws.proofs.Common.{All, ImageParts, IsBuilt, IsWord, List, PerformersDo, PerformersFollow}
use Rattle.sc_emit_run_laws.proofs.Common.{Roles, Setting, TacTree, setting, ℕ}
use Rattle.sc_emit_run_laws.proofs.CrossCalls.{cross_where}
use Rattle.sc_emit_run_laws.proofs.UnknownCrossing.{into_unknown}

module _ (roles : Roles) {program : TacTree} {image : ImageParts} {turn_pays : ℕ}
    (built : IsBuilt roles.scripted program image turn_pays) (inputs : List ℕ) (words : All IsWord inputs) where
  abbrev T : Setting
  T = setting program image inputs roles.scripted turn_pays built.addresses

  pub performers_follow : (n : ℕ) → PerformersDo program roles T n → PerformersFollow program roles T n
  performers_follow n perform P x to index args honest performing makes settled base at_base passed stands =
      cross_where roles built inputs words n P x to index args makes settled base at_base passed stands
      (λ offered led left made. into_unknown roles built inputs words n P x to index
      args offered led left ((built.addresses P.comp).entry to index) made performing perform)
