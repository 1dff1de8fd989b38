-- The command that the words of a command line are.
use Rattle.sc_base.specs.Prelude.{Text, most_compartments, most_events, name_of}
use Rattle.std.specs.Prelude.{ℕ, ℤ, Bool, if◌then◌else◌, List, [], ◌∷◌, codes, Option, Some, None, option_and_then}
use Rattle.std.specs.Prelude.{option_map, find}
use Rattle.std.specs.Str.{bytes_eq}
use Rattle.sc_number.specs.Numbers.{number_within}
use Rattle.sc_top_words.specs.Ranges.{range_of}
use Rattle.sc_top_words.specs.Numbers.{integer_list}
unfoldable use Rattle.sc_top_words.specs.Numbers.{pieces}
use Rattle.sc_top_words.specs.Options.{Form, Given, has_option, options, given_value}
use Rattle.sc_top_words.specs.declared.command.Command.{Command}
use Rattle.sc_top_words.specs.declared.command.Command.TheVariants.{Check, Meaning, Compile, Run, Exec, Explain}
use Rattle.sc_top_words.specs.declared.command.Command.TheVariants.{Judge, Link, Make, Object, Tags}
use Rattle.sc_top_words.specs.declared.command.DataRange.{DataRange}
use Rattle.sc_top_words.specs.declared.command.ExplainOptions.{ExplainOptions}
use Rattle.sc_top_words.specs.declared.command.JudgeOptions.{JudgeOptions}
use Rattle.sc_top_words.specs.declared.command.MakeOptions.{MakeOptions}
use Rattle.sc_top_words.specs.declared.command.MeaningOptions.{MeaningOptions}
use Rattle.sc_top_words.specs.declared.command.ObjectOptions.{ObjectOptions}
use Rattle.sc_top_words.specs.declared.command.RunOptions.{RunOptions}

-- ---- the commands

abbrev pub with_values : List Text → Form
with_values names = record { needed = []; valued = names; flags = [] }

abbrev pub make_form : Form
make_form = record { needed = codes "size" ∷ codes "seed" ∷ []; valued = []; flags = codes "summary" ∷ [] }

abbrev pub explain_form : Form
explain_form = record {
  needed = [];
  valued = codes "steps" ∷ codes "events" ∷ codes "in" ∷ codes "show" ∷ [];
  flags = codes "image" ∷ codes "trapped" ∷ [];
}

abbrev pub judge_form : Form
judge_form = record {
  needed = [];
  valued = codes "steps" ∷ codes "events" ∷ codes "in" ∷ [];
  flags = codes "image" ∷ codes "trapped" ∷ [];
}

abbrev pub object_form : Form
object_form = record { needed = codes "section" ∷ []; valued = []; flags = [] }

-- the commands by their names, with the options of each
abbrev pub commands : List (Text × Form)
commands =
    (codes "check", with_values []) ∷
    (codes "meaning", with_values (codes "turns" ∷ codes "events" ∷ codes "in" ∷ [])) ∷
    (codes "compile", with_values []) ∷
    (codes "object", object_form) ∷
    (codes "link", with_values []) ∷
    (codes "run", with_values (codes "steps" ∷ codes "events" ∷ codes "in" ∷ [])) ∷
    (codes "exec", with_values (codes "steps" ∷ codes "events" ∷ codes "in" ∷ [])) ∷
    (codes "tags", with_values (codes "steps" ∷ codes "events" ∷ codes "in" ∷ codes "data" ∷ [])) ∷
    (codes "explain", explain_form) ∷
    (codes "judge", judge_form) ∷
    (codes "make", make_form) ∷ []

abbrev pub form_of : Text → Option Form
form_of name = option_map (λ entry. entry.1) (find (λ entry. bytes_eq entry.0 name) commands)

-- the command's name and its options, of words that give them: the first word is the name
abbrev pub parsed : List Text → Option (Text × List Given)
parsed [] = None
parsed (name ∷ words) = option_map (λ settings. (name, settings))
    (option_and_then (λ form. options form words) (form_of name))

-- ---- what the options of a command say, by the value of each option that is given, and by which flags are given

abbrev pub Values : Type 0
Values = Text → Option Text

abbrev pub Flags : Type 0
Flags = Text → Bool

-- the number of an option, from `low` to `high`, and `absent` where the option isn't given
abbrev pub number_or : (absent low high : ℕ) → Option Text → Option ℕ
number_or absent low high None = Some absent
number_or absent low high (Some text) = number_within low high text

-- steps or turns of a run
abbrev pub most_steps : ℕ
most_steps = 16777216

-- how many steps or turns a run has at most
abbrev pub limit : Option Text → Option ℕ
limit value = number_or 1000000 0 most_steps value

-- how many events a run emits at most
abbrev pub events : Option Text → Option ℕ
events value = number_or 1024 0 most_events value

abbrev pub inputs : Option Text → Option (List ℤ)
inputs None = Some []
inputs (Some text) = integer_list text

abbrev pub meaning_options : Values → Option MeaningOptions
meaning_options value =
    option_and_then (λ turns. option_and_then (λ events. option_map (λ inputs.
    record { turns = turns; events = events; inputs = inputs })
    (inputs (value (codes "in")))) (events (value (codes "events")))) (limit (value (codes "turns")))

abbrev pub run_options : Values → Option RunOptions
run_options value =
    option_and_then (λ steps. option_and_then (λ events. option_map (λ inputs.
    record { steps = steps; events = events; inputs = inputs })
    (inputs (value (codes "in")))) (events (value (codes "events")))) (limit (value (codes "steps")))

-- which text of the chain is printed, if the option is given
abbrev pub text_to_show : Option Text → Option (Option ℕ)
text_to_show None = Some None
text_to_show (Some text) = option_map Some (number_within 0 most_compartments text)

abbrev pub explain : Values → Flags → Option ExplainOptions
explain value flag =
    option_and_then (λ run. option_map (λ show.
    record { run = run; image = flag (codes "image"); trapped = flag (codes "trapped"); show = show })
    (text_to_show (value (codes "show")))) (run_options value)

abbrev pub judge : Values → Flags → Option JudgeOptions
judge value flag =
    option_map (λ run. record { run = run; image = flag (codes "image"); trapped = flag (codes "trapped") })
    (run_options value)

-- the bytes that are tagged as data of a compartment, if the option is given
abbrev pub data_range : Option Text → Option (Option DataRange)
data_range None = Some None
data_range (Some text) = option_map Some (range_of (pieces text))

abbrev pub tags : Values → Option Command
tags value =
    option_and_then (λ options. option_map (λ range. Tags options range) (data_range (value (codes "data"))))
    (run_options value)

-- the name that a section may have: an identifier, but `Env` is the environment's
abbrev pub section_name : Text → Option Text
section_name text = if bytes_eq text (codes "Env") then None else name_of text

abbrev pub section : Values → Option Text
section value = option_and_then section_name (value (codes "section"))

abbrev pub object : Values → Option ObjectOptions
object value = option_map (λ section. record { section = section }) (section value)

abbrev pub make : Values → Flags → Option MakeOptions
make value flag =
    option_and_then (λ size. option_map (λ seed. record { size = size; seed = seed; summary = flag (codes "summary") })
    (option_and_then (number_within 0 4294967295) (value (codes "seed"))))
    (option_and_then (number_within 1 1000) (value (codes "size")))

-- ---- the command

-- the command with this name, these values of options, and these flags
abbrev pub command_with : Text → Values → Flags → Option Command
command_with name value flag =
    if bytes_eq name (codes "check") then Some Check
    else (if bytes_eq name (codes "meaning") then option_map Meaning (meaning_options value)
    else (if bytes_eq name (codes "compile") then Some Compile
    else (if bytes_eq name (codes "object") then option_map Object (object value)
    else (if bytes_eq name (codes "link") then Some Link
    else (if bytes_eq name (codes "run") then option_map Run (run_options value)
    else (if bytes_eq name (codes "exec") then option_map Exec (run_options value)
    else (if bytes_eq name (codes "tags") then tags value
    else (if bytes_eq name (codes "explain") then option_map Explain (explain value flag)
    else (if bytes_eq name (codes "judge") then option_map Judge (judge value flag)
    else (if bytes_eq name (codes "make") then option_map Make (make value flag)
    else None))))))))))

-- the command that the words are
unfoldable pub command : List Text → Option Command
command words = option_and_then (λ read.
    command_with read.0 (λ name. given_value name read.1) (λ name. has_option name read.1)) (parsed words)
