-- The command that a parse which succeeds comes to.
use Rattle.sc_top_words.proofs.Common.{App, Bool, Box, ErrorKind, Form, Given, HasMatchesOf, IsAmong, IsReading}
use Rattle.sc_top_words.proofs.Common.{List, None, Option, Row, Says, Some, Text, [], ap, application, bytes_eq, codes}
use Rattle.sc_top_words.proofs.Common.{command, command_with, commands, events, false, fault_of, first_of}
use Rattle.sc_top_words.specs.Prelude.{HasAccountFlags, HasFlags, explain_form, judge_form}
use Rattle.sc_top_words.proofs.Common.{first_value-rows, flag_text, form_of, given_value, has_option, has_value, inputs}
use Rattle.sc_top_words.proofs.Common.{is_among, is_bare, is_simple, limit, list_any, make_form, number_within, one_of}
use Rattle.sc_top_words.proofs.Common.{one_text-rows, option_and_then, option_map, parsed, refl, rows_of, run_options}
use Rattle.sc_top_words.proofs.Common.{same_text, subcommand_of, subcommand_rows, subcommand_rows_of, subst, sym}
use Rattle.sc_top_words.proofs.Common.{text_to_show, true, ◌∙◌, ◌≡◌}
use Rattle.sc_top_words.specs.declared.command.Command.TheVariants.{Exec, Explain, Judge, Make, Meaning, Object, Run}
use Rattle.sc_top_words.specs.declared.command.Command.TheVariants.{Tags}
use Rattle.sc_top_words.specs.Prelude.{data_range, section_name}
use Rattle.std.specs.Box.{box_value}
use Rattle.clap.specs.Matches.{first_value, one_text, subcommand_name_of}
use Rattle.clap.specs.declared.parser.matches.ArgMatches.{ArgMatches}
use Rattle.clap.specs.declared.parser.matches.ArgMatches.TheViews.{out-ArgMatches, out-SubCommand}
use Rattle.clap.specs.declared.parser.matches.Found.{Found}
use Rattle.clap.specs.declared.parser.matches.SubCommand.{SubCommand}
use Rattle.sc_top_words.proofs.Bare.{by_command, none_bare}
use Rattle.sc_top_words.proofs.Top.{Reads, has_matches, words_agree}

-- each command reads only the options of its form

abbrev Same : Text → Form → Type 0
Same name form = (settings : List Given) (rows : List Row) (flag : Text → Bool) → Says form settings rows
    → command_with name (λ n. first_of n rows) flag ≡ command_with name (λ n. given_value n settings) flag

-- an option with a value, which is no flag
abbrev IsValued : Form → Text → Type 0
IsValued form name = (has_value form name ≡ true) × (is_among form.flags name ≡ false)

-- a command with the options of `run`
runs_same : (form : Form) (settings : List Given) (rows : List Row) → Says form settings rows →
    IsValued form (codes "steps") → IsValued form (codes "events") → IsValued form (codes "in") →
    run_options (λ n. first_of n rows) ≡ run_options (λ n. given_value n settings)
runs_same form settings rows says steps_valued events_valued inputs_valued =
    λ i. option_and_then (λ steps. option_and_then (λ events. option_map (λ inputs.
    record { steps = steps; events = events; inputs = inputs }) (inputs (given (codes "in") inputs_valued i)))
    (events (given (codes "events") events_valued i))) (limit (given (codes "steps") steps_valued i)) where
      given : (name : Text) → IsValued form name → first_of name rows ≡ given_value name settings
      given name valued = says.values name valued.0 valued.1

pub values_same : (name : Text) (form : Form) → form_of name ≡ Some form → Same name form
values_same = by_command Same commands (
  (λ settings rows flag says. refl),
  (
    (λ settings rows flag says i. option_map Meaning (option_and_then (λ turns. option_and_then (λ events.
        option_map (λ inputs. record { turns = turns; events = events; inputs = inputs })
        (inputs (says.values (codes "in") refl refl i))) (events (says.values (codes "events") refl refl i)))
        (limit (says.values (codes "turns") refl refl i)))),
    (
      (λ settings rows flag says. refl),
      (
        (λ settings rows flag says i. option_map Object (option_map (λ section. record { section = section })
            (option_and_then section_name (says.values (codes "section") refl refl i)))),
        (
          (λ settings rows flag says. refl),
          (
            (λ settings rows flag says. ap (option_map Run)
                (runs_same _ settings rows says (refl, refl) (refl, refl) (refl, refl))),
            (
              (λ settings rows flag says. ap (option_map Exec)
                  (runs_same _ settings rows says (refl, refl) (refl, refl) (refl, refl))),
              (
                (λ settings rows flag says i. option_and_then (λ options. option_map (λ range. Tags options range)
                    (data_range (says.values (codes "data") refl refl i)))
                    (runs_same _ settings rows says (refl, refl) (refl, refl) (refl, refl) i)),
                (
                  (λ settings rows flag says i. option_map Explain (option_and_then (λ run. option_map (λ show.
                      record { run = run; image = flag (codes "image"); trapped = flag (codes "trapped"); show = show })
                      (text_to_show (says.values (codes "show") refl refl i)))
                      (runs_same _ settings rows says (refl, refl) (refl, refl) (refl, refl) i))),
                  (
                    (λ settings rows flag says i. option_map Judge (option_map (λ run.
                        record { run = run; image = flag (codes "image"); trapped = flag (codes "trapped") })
                        (runs_same _ settings rows says (refl, refl) (refl, refl) (refl, refl) i))),
                    (
                      (λ settings rows flag says i. option_map Make (option_and_then (λ size. option_map (λ seed.
                          record { size = size; seed = seed; summary = flag (codes "summary") })
                          (option_and_then (number_within 0 4294967295) (says.values (codes "seed") refl refl i)))
                          (option_and_then (number_within 1 1000) (says.values (codes "size") refl refl i)))),
                      tt,
                    ),
                  ),
                ),
              ),
            ),
          ),
        ),
      ),
    ),
  ),
)

-- the rows say whether a flag of this command is given
flag_same : (command : Text) (own : Form) (flag : Text) → form_of command ≡ Some own → has_value own flag ≡ false →
    is_among own.flags flag ≡ true → (name : Text) (form : Form) (settings : List Given) (rows : List Row) →
    form_of name ≡ Some form → Says form settings rows → bytes_eq name command ≡ true →
    one_of flag rows ≡ Some (flag_text (has_option flag settings))
flag_same command own flag is_own no_value among name form settings rows has says is =
    let found : Some own ≡ Some form = sym is_own ∙ (ap form_of (sym (same_text name command is)) ∙ has) in
    let same : form ≡ own = cc in
    (subst (λ f. Says f settings rows) same says).flags flag no_value among

-- ---- what the parse gives

pub reading : (words : List Text) (a : App) (m : ArgMatches) → a ≡ application → list_any is_bare words ≡ false →
    HasMatchesOf a words m → fault_of a words ≡ [] → IsReading words m
reading words a m is bare matches passes = go (parsed words) refl (words_agree words (none_bare words bare))
  where
    entered : subcommand_rows_of m ≡ subcommand_of application words
    entered = (matches (ap is_simple is ∙ has_matches)).1 ∙ ap (λ x. subcommand_of x words) is

    go : (o : Option (Text × List Given)) → parsed words ≡ o →
        Reads (fault_of application words) (subcommand_of application words) o → IsReading words m
    go None e fails = absurd (fails (sym (ap (λ x. fault_of x words) is) ∙ passes))
    go (Some read) e reads = record {
      read = read;
      is = e;
      form = reads.1.0;
      has = reads.1.1;
      rows = reads.1.2.0;
      found = entered ∙ reads.1.2.1;
      says = reads.1.2.2;
    }

pub refusal : (words : List Text) (a : App) (k : ErrorKind) → a ≡ application → list_any is_bare words ≡ false →
    IsAmong k (fault_of a words) → parsed words ≡ None
refusal words a k is bare among = go (parsed words) refl (words_agree words (none_bare words bare))
  where
    go : (o : Option (Text × List Given)) → parsed words ≡ o →
        Reads (fault_of application words) (subcommand_of application words) o → parsed words ≡ None
    go None e fails = e
    go (Some read) e reads = absurd (subst (IsAmong k) (ap (λ x. fault_of x words) is ∙ reads.0) among)

-- ---- the command of what the parse gives

name_of : {Z : Type 0} (o : Option (Box SubCommand Z)) →
    option_map (λ p. p.0) (subcommand_rows o) ≡ option_map (λ b. (out-SubCommand (box_value b)).name.now) o
name_of None = refl
name_of (Some b) = refl

name_of_rows : (m : ArgMatches) → option_map (λ p. p.0) (subcommand_rows_of m) ≡ subcommand_name_of m
name_of_rows m = name_of (out-ArgMatches m).subcommand

-- the command by the values that the getters give
pub record Commands (words : List Text) (name : Text) (f : Found) : Type 0 where
  pub flag : Text → Bool
  pub has : HasFlags name f flag
  pub is : command words ≡ command_with name (first_value f) flag

pub commanded : (words : List Text) (m : ArgMatches) (name : Text) (f : Found) → IsReading words m →
    Some name ≡ subcommand_name_of m
    → Some (rows_of f) ≡ option_map (λ p. p.1) (subcommand_rows_of m) → Commands words name f
unfolding command
commanded words m name f r named rowed = record {
  flag = λ n. has_option n r.read.1;
  has = record {
    explain = λ is. record {
      image = flag_is (codes "explain") explain_form (codes "image") refl refl refl is;
      trapped = flag_is (codes "explain") explain_form (codes "trapped") refl refl refl is;
    };
    judge = λ is. record {
      image = flag_is (codes "judge") judge_form (codes "image") refl refl refl is;
      trapped = flag_is (codes "judge") judge_form (codes "trapped") refl refl refl is;
    };
    make = flag_is (codes "make") make_form (codes "summary") refl refl refl;
  };
  is = ap (option_and_then _) r.is
      ∙ (sym (values_same r.read.0 r.form r.has _ r.rows (λ n. has_option n r.read.1) r.says)
      ∙ sym (λ i. command_with (name_is i) (λ n. (first_value-rows f n ∙ ap (first_of n) rows_are) i)
      (λ n. has_option n r.read.1)));
}
  where
    both : Some (rows_of f) ≡ Some r.rows
    both = rowed ∙ ap (option_map _) r.found

    rows_are : rows_of f ≡ r.rows
    rows_are = cc both

    names : Some name ≡ Some r.read.0
    names = named ∙ (sym (name_of_rows m) ∙ ap (option_map (λ p. p.0)) r.found)

    name_is : name ≡ r.read.0
    name_is = cc names

    flag_is : (command : Text) (own : Form) (flag : Text) → form_of command ≡ Some own → has_value own flag ≡ false →
        is_among own.flags flag ≡ true → bytes_eq name command ≡ true →
        one_text f flag ≡ Some (flag_text (has_option flag r.read.1))
    flag_is command own flag is_own no_value among is = one_text-rows f flag ∙ (ap (one_of flag) rows_are ∙
        flag_same command own flag is_own no_value among r.read.0 r.form _ r.rows r.has r.says
        (ap (λ n. bytes_eq n command) (sym name_is) ∙ is))
