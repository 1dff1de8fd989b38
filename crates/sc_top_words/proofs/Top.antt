-- What a parse makes of all the words: the command's name and its options, or a fault.
use Rattle.sc_top_words.proofs.Common.{App, Bool, Form, Given, Held, Kinds, List, Names, None, Option, Row, Says}
use Rattle.sc_top_words.proofs.Common.{Shape, Some, Step, Text, Walk, [], after_step, answers_to, ap, append-nil}
use Rattle.sc_top_words.proofs.Common.{append_assoc, application, begins_with_hyphen, bytes_eq, check_fault, codes}
use Rattle.sc_top_words.proofs.Common.{commands, cond, defaults_fault, entered, entered_fault, false, fault_of, find}
use Rattle.sc_top_words.proofs.Common.{find-map, find_passes, finished, fold, form_of, idle, is_bare, is_simple}
use Rattle.sc_top_words.proofs.Common.{is_simple_and_free, is_some, label_of, level_fault, list_all, map, names_of}
use Rattle.sc_top_words.proofs.Common.{new_shape, not, nothing_held, option_and_then, option_map, option_map_or}
use Rattle.sc_top_words.proofs.Common.{options, or-false, or_else, other_fault, parsed, refl, rows_after, rows_at}
use Rattle.sc_top_words.proofs.Common.{same_text, settle_fault, settled, short_of, step_fault, subcommand_met}
use Rattle.sc_top_words.proofs.Common.{subcommand_of, subcommand_or_other, subst, sym, true, turn_fault, walk_fault}
use Rattle.sc_top_words.proofs.Common.{walk_from, walked, ◌&&◌, ◌++◌, ◌∙◌, ◌∷◌, ◌≡◌}
use Rattle.clap.proofs.FaultLemmas.{stopped_fault}
use Rattle.clap.proofs.SimpleLemmas.{label_first}
use Rattle.clap.specs.declared.error.kind.ErrorKind.TheVariants as kind
use Rattle.sc_top_words.proofs.Basics.{by_hyphens, first_fails, first_plain, first_not, not_empty}
use Rattle.sc_top_words.proofs.Lookup.{ready, ready_rules}
use Rattle.sc_top_words.proofs.Rows.{says}
use Rattle.sc_top_words.proofs.Level.{Agrees, level_agrees}

-- ---- the commands as they are built

abbrev top : Shape
top = record (new_shape (codes "secomp")) {
  is_leaf = false;
  no_binary_name = true;
  disable_help_flag = true;
  disable_help_subcommand = true;
  subcommand_required = true;
  is_built = true;
}

abbrev shapes : List (Text × Form) → List Shape
shapes = map (λ c. ready c.0 c.1)

abbrev app : App
app = record { top = top; subs = shapes commands }

pub is_exact : is_simple_and_free application ≡ true
is_exact = refl

pub has_matches : is_simple application ≡ true
has_matches = refl

-- ---- the command of a name

abbrev entry_of : Text → List (Text × Form) → Option (Text × Form)
entry_of name = find (λ c. bytes_eq c.0 name)

shape_found : (cs : List (Text × Form)) (name : Text)
    → find (λ s. answers_to name (label_of s)) (shapes cs) ≡ option_map (λ c. ready c.0 c.1) (entry_of name cs)
shape_found cs name = sym (find-map _ _ cs) ∙ ap (λ p. option_map (λ c. ready c.0 c.1) (find p cs))
    (λ i c. or-false (bytes_eq c.0 name) i)

abbrev names : Names
names = names_of app

met_is : (name : Text) → subcommand_met names idle name ≡ option_map (λ c. c.0) (entry_of name commands)
met_is name =
    sym (label_first name (shapes commands)) ∙ ap (option_map (λ s. s.name)) (shape_found commands name) ∙ go _
  where
    go : (o : Option (Text × Form)) → option_map (λ (s : Shape). s.name) (option_map (λ c. ready c.0 c.1) o) ≡
        option_map (λ c. c.0) o
    go None = refl
    go _ = refl

-- ---- the first word

abbrev start : Walk
start = walk_from nothing_held

abbrev first_step : Option Text → Text → Held × Step
first_step met name = subcommand_or_other [] met idle 1 name nothing_held

abbrev first_fault : Option Text → Text → Kinds
first_fault met name = or_else (other_fault top met name nothing_held)
    (step_fault top 1 (first_step met name).0 (first_step met name).1)

first_turn : (name : Text) → turn_fault top names start name ≡
    first_fault (option_map (λ c. c.0) (entry_of name commands)) name
first_turn name = ap (λ met. first_fault met name) (met_is name)

first_walk : (name : Text) → walked [] names start name
    ≡ after_step [] name start (first_step (option_map (λ c. c.0) (entry_of name commands)) name).0
    (first_step (option_map (λ c. c.0) (entry_of name commands)) name).1
unfolding walked
first_walk name = ap (λ met. after_step [] name start (first_step met name).0 (first_step met name).1) (met_is name)

-- a word that names no command fails
stranger_fails : (name : Text) → is_bare name ≡ false → first_fault None name ≡ [] → ⊥
stranger_fails name bare = by_hyphens (λ w. first_fault None w ≡ [] → ⊥) plain (λ x xs e. not_empty _ _ e) name bare
  where
    plain : (w : Text) → begins_with_hyphen w ≡ false → first_fault None w ≡ [] → ⊥
    plain [] e = λ none. not_empty _ _ none
    plain (x ∷ xs) e =
        let is = first_plain x xs e in
        let short : short_of (x ∷ xs) ≡ None = rw is refl in rw (is, short) (λ none. not_empty _ _ none)

command_passes : (n name : Text) → first_fault (Some n) name ≡ []
command_passes n name = go _
  where
    go : (b : Bool) → or_else (cond (b && false) (kind.DisplayHelp ∷ kind.InvalidSubcommand ∷ []) []) [] ≡ []
    go true = refl
    go false = refl

-- the words after the command are kept for it
fold_stopped : (w : Walk) (p : Text × List Text) (words : List Text)
    → fold (walked [] names) (record w { stopped = Some p }) words ≡ record w { stopped = Some (p.0, p.1 ++ words) }
unfolding walked
fold_stopped w p [] = ap (λ ws. record w { stopped = Some (p.0, ws) }) (sym (append-nil p.1))
fold_stopped w p (word ∷ words) =
    fold_stopped w _ words ∙ ap (λ ws. record w { stopped = Some (p.0, ws) }) (append_assoc p.1 (word ∷ []) words)

-- ---- all the words

-- the parse fails where the definition gives nothing, and else finds what it gives
abbrev pub Reads : Kinds → Option (Text × List Row) → Option (Text × List Given) → Type 0
Reads faults entered None = faults ≡ [] → ⊥
Reads faults entered (Some read) = (faults ≡ []) × ((form : Form) × (form_of read.0 ≡ Some form) ×
    ((rows : List Row) × (entered ≡ Some (read.0, rows)) × Says form read.1 rows))

abbrev stopped_at : Text → List Text → Walk
stopped_at name words = record start { stopped = Some (name, words) }

known_agrees : (c : Text × Form) (words : List Text) → entry_of c.0 commands ≡ Some c →
    list_all (λ word. not (is_bare word)) words ≡ true
    → Reads (fault_of application (c.0 ∷ words)) (subcommand_of application (c.0 ∷ words)) (parsed (c.0 ∷ words))
unfolding walk_fault defaults_fault
known_agrees c words found all =
    let turn : turn_fault top names start c.0 ≡ [] = first_turn c.0 ∙
    (ap (λ o. first_fault (option_map (λ c. c.0) o) c.0) found ∙ command_passes c.0 c.0) in
    let walks : walked [] names start c.0 ≡ stopped_at c.0 []
    = first_walk c.0 ∙ ap (λ o. after_step [] c.0 start (first_step (option_map (λ c. c.0) o) c.0).0
    (first_step (option_map (λ c. c.0) o) c.0).1) found in
    let faults : walk_fault top names start (c.0 ∷ words) ≡ []
    = (λ i. or_else (turn i) (walk_fault top names (walks i) words)) ∙ stopped_fault top names start (c.0, []) words in
    let end : fold (walked [] names) start (c.0 ∷ words) ≡ stopped_at c.0 words
    = ap (λ w. fold (walked [] names) w words) walks ∙ fold_stopped start (c.0, []) words in
    let shape : find (λ s. answers_to c.0 (label_of s)) (shapes commands) ≡ Some (ready c.0 c.1)
    = shape_found commands c.0 ∙ ap (option_map (λ c. ready c.0 c.1)) found in
    let form_is : form_of c.0 ≡ Some c.1 = ap (option_map (λ (c : Text × Form). c.1)) found in
    let inner : Kinds = level_fault (ready c.0 c.1) [] nothing_held words false [] in
    let rows : List Row = rows_after (ready_rules c.1) [] words in
    let faults_are : fault_of application (c.0 ∷ words) ≡ or_else inner [] =
    (λ i. level_by (faults i) (end i)) ∙ ap found_by shape in
    let rows_are : subcommand_of application (c.0 ∷ words) ≡ Some (c.0, rows)
    = ap (λ w. entered app w.stopped) end ∙ ap (option_map (λ s. rows_at s words)) shape in
    let parsed_is : parsed (c.0 ∷ words) ≡ option_map (λ settings. (c.0, settings)) (options c.1 words)
    = ap (λ o. option_map (λ settings. (c.0, settings)) (option_and_then (λ form. options form words) o)) form_is in
    subst (λ k. Reads k (subcommand_of application (c.0 ∷ words)) (parsed (c.0 ∷ words))) (sym faults_are)
    (subst (λ entered. Reads (or_else inner []) entered (parsed (c.0 ∷ words))) (sym rows_are)
    (subst (Reads (or_else inner []) (Some _)) (sym parsed_is)
    (both (options c.1 words) form_is (level_agrees c.0 c.1 words all))))
  where
    level_by : Kinds → Walk → Kinds
    level_by faults w = or_else faults (or_else (entered_fault app w.stopped) (or_else (settle_fault [] false w.held)
        (or_else (defaults_fault (settled [] w.held).rows [])
        (check_fault top (finished [] w.held) (is_some (entered app w.stopped))))))

    found_by : Option Shape → Kinds
    found_by o = or_else (option_map_or (λ s. level_fault s [] nothing_held words false []) o [])
        (check_fault top [] (is_some (option_map (λ s. rows_at s words) o)))

    both : (o : Option (List Given)) → form_of c.0 ≡ Some c.1
        → Agrees c.0 c.1 (level_fault (ready c.0 c.1) [] nothing_held words false [])
        (rows_after (ready_rules c.1) [] words) o
        → Reads (or_else (level_fault (ready c.0 c.1) [] nothing_held words false []) [])
        (Some (c.0, rows_after (ready_rules c.1) [] words)) (option_map (λ settings. (c.0, settings)) o)
    both None form_is fails = first_fails _ [] fails
    both (Some settings) form_is agrees = (
      (λ i. or_else (agrees.0 i) []),
      (
        c.1,
        form_is,
        (
          rows_after (ready_rules c.1) [] words,
          refl,
          subst (Says c.1 settings) (sym agrees.1) (says c.1 settings),
        ),
      ),
    )

pub words_agree : (words : List Text) → list_all (λ word. not (is_bare word)) words ≡ true
    → Reads (fault_of application words) (subcommand_of application words) (parsed words)
unfolding walk_fault defaults_fault
words_agree [] all = λ none. not_empty _ _ none
words_agree (name ∷ words) all = go (entry_of name commands) refl
  where
    parts : (is_bare name ≡ false) × (list_all (λ word. not (is_bare word)) words ≡ true)
    parts = first_not (is_bare name) _ all

    go : (o : Option (Text × Form)) → entry_of name commands ≡ o
        → Reads (fault_of application (name ∷ words)) (subcommand_of application (name ∷ words)) (parsed (name ∷ words))
    go None found =
        let unknown : parsed (name ∷ words) ≡ None
        = ap (λ (o : Option (Text × Form)). option_map (λ settings. (name, settings))
        (option_and_then (λ form. options form words) (option_map (λ c. c.1) o))) found in
        let turn : turn_fault top names start name ≡ first_fault None name
        = first_turn name ∙ ap (λ o. first_fault (option_map (λ (c : Text × Form). c.0) o) name) found in
        subst (Reads (fault_of application (name ∷ words)) (subcommand_of application (name ∷ words))) (sym unknown)
        (first_fails _ _ (first_fails (turn_fault top names start name) _
        (λ none. stranger_fails name parts.0 (sym turn ∙ none))))
    go (Some c) found =
        let same : c.0 ≡ name = same_text c.0 name (find_passes (λ c. bytes_eq c.0 name) commands c found) in
        subst (λ n. Reads (fault_of application (n ∷ words)) (subcommand_of application (n ∷ words))
        (parsed (n ∷ words))) same (known_agrees c words (ap (λ n. entry_of n commands) same ∙ found) parts.1)
