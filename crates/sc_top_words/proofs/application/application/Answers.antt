use Rattle.sc_top_words.proofs.Common.{App, Form, IfOk-weaker, IsCommandOf, List, Shape, Text, [], ap, app_of, ap₂}
use Rattle.sc_top_words.proofs.Common.{codes, false, make_form, shape_with, top, ◌++◌, ◌∙◌, ◌∷◌, ◌≡◌}
use Rattle.sc_top_words.specs.Prelude.{explain_form, judge_form, object_form, with_values}
use Rattle.clap.specs.Words.{AddsSubcommand, with_subcommand}
use Rattle.clap.specs.declared.builder.command.Command.{Command}
use Rattle.sc_top_words.proofs.application.application.Goals as goal

-- one command more
added : (old sub new : Command) (shapes : List Shape) (name : Text) (form : Form) → AddsSubcommand old sub new
    → app_of old ≡ record { top = record top { is_leaf = false }; subs = shapes } → IsCommandOf name form sub
    → app_of new ≡ record { top = record top { is_leaf = false }; subs = shapes ++ shape_with name form ∷ [] }
added old sub new shapes name form adds is of =
    adds.shape of.1 ∙ ap₂ with_subcommand is (ap (λ (a : App). a.top) of.0)

abbrev limited : Text → Form
limited limit = with_values (limit ∷ codes "events" ∷ codes "in" ∷ [])

pub returns : goal.returns
returns c =
    let one : app_of c.in_ok-subcommand.field-0 ≡ record {
      top = record top { is_leaf = false };
      subs = shape_with (codes "check") (with_values []) ∷ [];
    }
    = c.in_ok-subcommand.ensures.shape c.new.ensures.local ∙
    ap₂ with_subcommand c.top.ensures (ap (λ (a : App). a.top) c.new.ensures.app) in
    let two = added _ _ _ _ (codes "meaning") (limited
    (codes "turns")) c.in_ok-subcommand-2.ensures one c.in_ok-running.ensures in
    let three = added _ _ _ _ (codes "compile") (with_values []) c.in_ok-subcommand-3.ensures two
    (c.new-2.ensures.app, c.new-2.ensures.local) in
    let four = added _ _ _ _ (codes "object") object_form c.in_ok-subcommand-4.ensures three
    c.in_ok-object.ensures in
    let five = added _ _ _ _ (codes "link") (with_values []) c.in_ok-subcommand-5.ensures four
    (c.new-3.ensures.app, c.new-3.ensures.local) in
    let six = added _ _ _ _ (codes "run") (limited (codes "steps")) c.in_ok-subcommand-6.ensures five
    c.in_ok-running-2.ensures in
    let seven = added _ _ _ _ (codes "exec") (limited (codes "steps")) c.in_ok-subcommand-7.ensures six
    c.in_ok-running-3.ensures in
    let eight = added _ _ _ _ (codes "tags") (with_values
    (codes "steps" ∷ codes "events" ∷ codes "in" ∷ codes "data" ∷
    [])) c.in_ok-subcommand-8.ensures seven c.in_ok-tags.ensures in
    let nine = added _ _ _ _ (codes "explain") explain_form c.in_ok-subcommand-9.ensures eight
    c.in_ok-explain.ensures in
    let ten = added _ _ _ _ (codes "judge") judge_form c.in_ok-subcommand-10.ensures nine c.in_ok-judge.ensures in
    IfOk-weaker c.subcommand-11.result _ _ (λ secomp adds.
    added _ _ secomp _ (codes "make") make_form adds ten c.in_ok-make.ensures) c.subcommand-11.ensures
