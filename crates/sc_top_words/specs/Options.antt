-- How the options of a command are written.
use Rattle.sc_base.specs.Prelude.{Text}
use Rattle.std.specs.Prelude.{ℕ, Bool, true, not, ◌==◌, ◌&&◌, ◌||◌, if◌then◌else◌, List, [], ◌∷◌, take, drop, length}
use Rattle.std.specs.Prelude.{find, codes, Option, Some, None, option_and_then, option_map}
use Rattle.std.specs.List.{list_all, list_any, before_first, after_first}
use Rattle.std.specs.Str.{bytes_eq}

-- the names of a command's options: those with a value, of which some have to be given, and flags, which have none
pub record Form : Type 0 where
  pub needed : List Text
  pub valued : List Text
  pub flags : List Text

-- an option with its value, which is empty for a flag
abbrev pub Given : Type 0
Given = Text × Text

abbrev pub is_among : List Text → Text → Bool
is_among names name = list_any (λ known. bytes_eq known name) names

abbrev pub has_value : Form → Text → Bool
has_value form name = is_among form.needed name || is_among form.valued name

abbrev pub begins_with_hyphen : Text → Bool
begins_with_hyphen word = bytes_eq (take 1 word) (codes "-")

abbrev pub is_equals : ℕ → Bool
is_equals byte = byte == 61

abbrev pub name_and_value : Text → Text × Option Text
name_and_value text = (
  before_first is_equals text,
  if list_any is_equals text then Some (after_first is_equals text) else None,
)

-- `--name` or `--name=value`, where the value follows the first `=`
abbrev pub named : Text → Option (Text × Option Text)
named word = if bytes_eq (take 2 word) (codes "--") then Some (name_and_value (drop 2 word)) else None

-- the word begins with a hyphen and names no option: `-`, `--`, or one hyphen before something else
abbrev pub is_bare : Text → Bool
is_bare word = begins_with_hyphen word && (not (bytes_eq (take 2 word) (codes "--")) || length word == 2)

abbrev pub more : Text → Text → Option (List Given) → Option (List Given)
more name value = option_map (λ settings. (name, value) ∷ settings)

-- what a word that is no value says, where `following` reads the words after it for the option that waits for its value
abbrev pub named_option : Form → Option (Text × Option Text) → (Option Text → Option (List Given)) →
    Option (List Given)
named_option form None following = None
named_option form (Some (name, Some value)) following =
    if has_value form name then more name value (following None) else None
named_option form (Some (name, None)) following =
    if has_value form name then following (Some name)
    else (if is_among form.flags name then more name [] (following None) else None)

-- the options that words give, in order, where `waiting` is the option whose value is the first word. A value in a word
-- of its own doesn't begin with a hyphen
unfoldable pub settings : Form → Option Text → List Text → Option (List Given)
settings form None [] = Some []
settings form (Some name) [] = None
settings form None (word ∷ rest) = named_option form (named word) (λ waiting. settings form waiting rest)
settings form (Some name) (word ∷ rest) = if begins_with_hyphen word then None else
    more name word (settings form None rest)

abbrev pub has_option : Text → List Given → Bool
has_option name = list_any (λ option. bytes_eq option.0 name)

abbrev pub each_once : List Given → Bool
each_once [] = true
each_once (option ∷ rest) = not (has_option option.0 rest) && each_once rest

-- each option is given at most once, and those that have to be given are
abbrev pub is_complete : Form → List Given → Bool
is_complete form options = each_once options && list_all (λ name. has_option name options) form.needed

abbrev pub when_complete : Form → List Given → Option (List Given)
when_complete form options = if is_complete form options then Some options else None

-- the options that the words are
abbrev pub options : Form → List Text → Option (List Given)
options form words = option_and_then (when_complete form) (settings form None words)

-- the value of an option, if it is given
abbrev pub given_value : Text → List Given → Option Text
given_value name options = option_map (λ option. option.1) (find (λ option. bytes_eq option.0 name) options)
