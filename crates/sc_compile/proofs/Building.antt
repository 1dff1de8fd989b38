-- What the passes give together.
use Rattle.sc_compile.proofs.Common.{All, AreNamed, CodeTree, EmitsAll, GlobalsAreWords, ImageParts, IsCompiled}
use Rattle.sc_compile.proofs.Common.{IsLinkable, IsWellTyped, IsWhole, List, None, ProgramTree, all_codes, ap}
use Rattle.sc_compile.proofs.Common.{built_image, linked_image, program_tac, subst, sym, too_large, ◌∙◌, ◌≡◌}
use Rattle.sc_compile.proofs.Counted.{each_emits}
use Rattle.sc_compile.proofs.Linkable.{is_linkable}
use Rattle.sc_compile.proofs.Emitted.{compiled}

module _ (program : ProgramTree) (typed : IsWellTyped program) (fits : too_large program ≡ None)
    (emits : All EmitsAll (program_tac program).sections) (codes : List CodeTree)
    (codes_are_all : codes ≡ all_codes (program_tac program)) where
  -- the codes can be linked
  pub may_link : IsLinkable program codes
  may_link =
      subst (IsLinkable program) (sym codes_are_all)
      (is_linkable program typed fits (each_emits program typed emits))

  module _ (image : ImageParts) (linked : image ≡ linked_image program codes) where
    pub image_is : image ≡ built_image program
    image_is = linked ∙ ap (linked_image program) codes_are_all

    -- and what comes of it does what the program means
    pub whole_compiled : AreNamed program.interfaces → GlobalsAreWords program.sections → All IsWhole codes →
        IsCompiled program image
    whole_compiled named words whole =
        subst (IsCompiled program) (sym image_is)
        (compiled program typed named words fits (each_emits program typed emits)
        (subst (All IsWhole) codes_are_all whole))
