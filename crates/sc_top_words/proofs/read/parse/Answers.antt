use Rattle.sc_top_words.proofs.Common.{ap, app_of, inl, inr, is_bare, is_simple_and_free, kind_of, list_any-map, map}
use Rattle.sc_top_words.proofs.Common.{string_bytes, sym, ◌∙◌, ◌≡◌}
use Rattle.sc_top_words.specs.declared.fault.WordsFault.TheVariants.{Usage}
use Rattle.sc_top_words.proofs.Bare.{bare_words}
use Rattle.sc_top_words.proofs.Reading.{reading, refusal}
use Rattle.sc_top_words.proofs.Top.{is_exact}
use Rattle.sc_top_words.proofs.read.parse.Goals as goal

pub returns-then-has_bare-clause-usage : goal.returns-then-has_bare-clause-usage
returns-then-has_bare-clause-usage c =
    let bare = sym (c.has_bare.ensures ∙ list_any-map is_bare string_bytes c.args.words.now) in
    λ usage. bare_words (map string_bytes c.args.words.now) (bare ∙ c.if-has_bare.true)

pub returns-in-Ok-clause-ok : goal.returns-in-Ok-clause-ok
returns-in-Ok-clause-ok c =
    let bare = sym (c.has_bare.ensures ∙ list_any-map is_bare string_bytes c.args.words.now) in
    reading (map string_bytes c.args.words.now) (app_of c.in_ok-application.application) c.in-Ok.matches
    c.in_ok-application.ensures (bare ∙ c.if-has_bare.false)
    c.in-Ok.ensures.matches (c.in-Ok.ensures.kinds (ap is_simple_and_free c.in_ok-application.ensures ∙ is_exact))

pub returns-in-Err-clause-usage : goal.returns-in-Err-clause-usage
returns-in-Err-clause-usage c =
    let bare = sym (c.has_bare.ensures ∙ list_any-map is_bare string_bytes c.args.words.now) in
    λ usage.
    let is : c.fault_of.result ≡ Usage = cc usage in
    elim (c.in-Err.ensures.kinds (ap is_simple_and_free c.in_ok-application.ensures ∙ is_exact)) [
      | inl memory ↦ absurd (c.fault_of.ensures.usage is memory)
      | inr among ↦ refusal (map string_bytes c.args.words.now) (app_of c.in_ok-application.application)
          (kind_of c.in-Err.error) c.in_ok-application.ensures
          (bare ∙ c.if-has_bare.false) among
    ]
