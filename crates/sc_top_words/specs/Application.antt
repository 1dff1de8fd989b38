-- Helping: the commands as the parser gets them, and what it finds.
use Rattle.sc_base.specs.Prelude.{Text}
use Rattle.std.specs.Prelude.{◌≡◌, Bool, true, false, List, [], ◌++◌, map, codes, Some}
use Rattle.std.specs.Str.{bytes_eq}
use Rattle.clap.specs.Walk.{Row, first_of, one_of}
use Rattle.clap.specs.Words.{App, Rule, Shape, app_of, new_rule, one_text, rule_of, subcommand_rows_of}
use Rattle.clap.specs.Simple.{new_shape}
use Rattle.clap.specs.declared.builder.action.ArgAction.TheVariants.{Set, SetTrue}
use Rattle.clap.specs.declared.builder.arg.Arg.{Arg}
use Rattle.clap.specs.declared.builder.command.Command.{Command}
use Rattle.clap.specs.declared.builder.command.Command.TheViews.{out-Command}
use Rattle.clap.specs.declared.parser.matches.ArgMatches.{ArgMatches}
use Rattle.clap.specs.declared.parser.matches.Found.{Found}
use Rattle.sc_top_words.specs.Options.{Form, Given, has_option, has_value, is_among, given_value}
use Rattle.sc_top_words.specs.Words.{commands, form_of, parsed}

abbrev pub valued_rule : (required : Bool) → Text → Rule
valued_rule required name = record (new_rule name) { long = Some name; action = Some Set; required = required }

abbrev pub flag_rule : Text → Rule
flag_rule name = record (new_rule name) { long = Some name; action = Some SetTrue }

abbrev pub rules_of : Form → List Rule
rules_of form = map (valued_rule true) form.needed ++ (map (valued_rule false) form.valued ++ map flag_rule form.flags)

abbrev pub shape_with : Text → Form → Shape
shape_with name form = record (new_shape name) { rules = rules_of form }

-- nothing of the parser's own: no program name before the words, no help and no version
abbrev pub top : Shape
top = record (new_shape (codes "secomp")) {
  no_binary_name = true;
  disable_help_flag = true;
  disable_help_subcommand = true;
  subcommand_required = true;
}

-- the commands with their options
abbrev pub application : App
application = record {
  top = record top { is_leaf = false };
  subs = map (λ command. shape_with command.0 command.1) commands;
}

-- the command has this name and these options, and none of its own commands
abbrev pub IsCommandOf : Text → Form → Command → Type 0
IsCommandOf name form command =
    (app_of command ≡ record { top = shape_with name form; subs = [] }) × ((out-Command command).has_globals ≡ false)

-- the argument has this rule
abbrev pub IsArgumentOf : Rule → Arg → Type 0
IsArgumentOf rule arg = (rule_of arg ≡ rule) × (arg.global ≡ false)

abbrev pub flag_text : Bool → Text
flag_text true = codes "true"
flag_text false = codes "false"

-- the parse found whether the flag is given
abbrev pub IsFlag : Found → (flag : Text → Bool) → (name : Text) → Type 0
IsFlag found flag name = one_text found name ≡ Some (flag_text (flag name))

-- the parse found which flags of `explain` and `judge` are given
pub record HasAccountFlags (found : Found) (flag : Text → Bool) : Type 0 where
  pub image : IsFlag found flag (codes "image")
  pub trapped : IsFlag found flag (codes "trapped")

-- the parse found which flags of the command are given
pub record HasFlags (command : Text) (found : Found) (flag : Text → Bool) : Type 0 where
  pub explain : bytes_eq command (codes "explain") ≡ true → HasAccountFlags found flag
  pub judge : bytes_eq command (codes "judge") ≡ true → HasAccountFlags found flag
  pub make : bytes_eq command (codes "make") ≡ true → IsFlag found flag (codes "summary")

-- the rows say which options are given, with their values
pub record Says (form : Form) (settings : List Given) (rows : List Row) : Type 0 where
  pub values : (name : Text) → has_value form name ≡ true → is_among form.flags name ≡ false
      → first_of name rows ≡ given_value name settings
  pub flags : (name : Text) → has_value form name ≡ false → is_among form.flags name ≡ true
      → one_of name rows ≡ Some (flag_text (has_option name settings))

-- the parse found the command and the options that the words are
pub record IsReading (words : List Text) (matches : ArgMatches) : Type 0 where
  pub read : Text × List Given
  pub is : parsed words ≡ Some read
  pub form : Form
  pub has : form_of read.0 ≡ Some form
  pub rows : List Row
  pub found : subcommand_rows_of matches ≡ Some (read.0, rows)
  pub says : Says form read.1 rows
