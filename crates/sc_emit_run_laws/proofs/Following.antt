-- The induction on open calls where some compartments perform their parts of the machine's own trace: what they perform
-- is followed, whatever code they have, and all others are followed by their code.
use Rattle.sc_emit_run_laws.proofs.Common.{All, BodiesFollow, Bool, Event, HasEmitted, Here, ImageParts, IsBuilt}
use Rattle.sc_emit_run_laws.proofs.Common.{IsWord, List, PerformersDo, Roles, Setting, State as Meant, TacTree}
use Rattle.sc_emit_run_laws.proofs.Common.{UnknownComes, ap, bodies, code_denotations, emits_here, if◌then◌else◌, inl}
use Rattle.sc_emit_run_laws.proofs.Common.{legal, performs, roles_in, rows_left, run_step, setting, subst, suc, sym}
use Rattle.sc_emit_run_laws.proofs.Common.{true, wrapping, zero, ℕ, ◌≡◌}
use Rattle.sc_emit_run_laws.proofs.Bodies.{more_follow, none_follow}
use Rattle.sc_emit_run_laws.proofs.Unknown.{followed}
use Rattle.sc_emit_run_laws.proofs.Performing.{performers_follow}

module _ {program : TacTree} {image : ImageParts} {turn_pays : ℕ} {set : ℕ → Bool}
    (built : IsBuilt set program image turn_pays) (inputs : List ℕ) (words : All IsWord inputs) (t : List Event)
    (observed : HasEmitted image inputs t) (lawful : legal program.interfaces t ≡ true) where
  abbrev roles : Roles
  roles = roles_in program.interfaces.main set t

  abbrev T : Setting
  T = setting program image inputs set turn_pays built.addresses

  -- bodies with at most `n` open calls, of both kinds
  pub record AllFollow (n : ℕ) : Type 0 where
    pub run : BodiesFollow program roles T n
    pub perform : PerformersDo program roles T n

  performs_is : (n number : ℕ) (here : Here) (s : Meant) → set here.comp ≡ true →
      bodies program roles (suc n) number here s ≡
      performs (code_denotations wrapping program) (bodies program roles n) (rows_left roles here.comp s.trace) number
      here
      s
  performs_is n number here s is =
      ap (λ b. if b then
      performs (code_denotations wrapping program) (bodies program roles n) (rows_left roles here.comp s.trace) number
      here
      s else run_step (code_denotations wrapping program) (bodies program roles n) number here s) is

  more_perform : (n : ℕ) → AllFollow n → PerformersDo program roles T (suc n)
  more_perform n all P x number first h =
      subst (UnknownComes program roles T P x)
      (sym (performs_is n number (record { comp = P.comp; first = first }) x.meant h.performs))
      (followed built inputs words t observed lawful n P
      number first h.performs h.entered all.run all.perform h.floors x h.settled)

  pub all_follow : (n : ℕ) → AllFollow n
  all_follow zero = record {
    run = none_follow roles built inputs words;
    perform = λ P x number first h. inl (emits_here T P x 0);
  }
  all_follow (suc n) =
      let all : AllFollow n = all_follow n in
      record {
        run = more_follow roles built inputs words n all.run (performers_follow roles built inputs words n all.perform);
        perform = more_perform n all;
      }
