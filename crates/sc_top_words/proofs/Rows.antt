-- The rows of the options that are given: what a use adds, what is found at the end, and what is checked there.
use Rattle.sc_top_words.proofs.Common.{Bool, Form, Given, Kinds, List, None, Option, Row, Rule, Says, Some, Text}
use Rattle.sc_top_words.proofs.Common.{[], and-false, ap, append-nil, ap₂, at_row, bytes_eq, codes, cond}
use Rattle.sc_top_words.proofs.Common.{defaults_fault, each_once, false, find, find-append, find-map, find_passes}
use Rattle.sc_top_words.proofs.Common.{flag_text, fold, has_option, has_row, has_value, if◌then◌else◌, is_among}
use Rattle.sc_top_words.proofs.Common.{is_some, list_all, list_any, list_any-append, map, more_values, not}
use Rattle.sc_top_words.proofs.Common.{option_and_then, option_map, option_map_or, option_or, or-true, or_else}
use Rattle.sc_top_words.proofs.Common.{or_parts, refl, row_text, same_either_way, same_text, slice_get, sym, true}
use Rattle.sc_top_words.proofs.Common.{true≢false, use_fault, used, with_default, with_values, ◌&&◌, ◌++◌, ◌||◌, ◌∙◌}
use Rattle.sc_top_words.proofs.Common.{◌∷◌, ◌≡◌}
use Rattle.clap.specs.Facts.{explicit_source}
use Rattle.clap.specs.Takes.{is_given}
use Rattle.clap.specs.declared.builder.value_parser.Reading.TheVariants.{AsWritten}
use Rattle.clap.specs.declared.error.kind.ErrorKind.TheVariants as kind
use Rattle.clap.specs.declared.parser.matches.ValueSource.TheVariants.{DefaultValue, CommandLine}
use Rattle.sc_top_words.proofs.Basics.{first_not, not_empty}
use Rattle.sc_top_words.proofs.Lookup.{ready_flag, ready_rules, ready_valued}

-- ---- the rows of the options that are given

abbrev pub plain_row : Text → Text → Row
plain_row name value = record {
  id = name;
  values = value ∷ [];
  count = None;
  source = Some CommandLine;
  reading = AsWritten;
}

abbrev default_row : Text → Row
default_row name = record {
  id = name;
  values = codes "false" ∷ [];
  count = None;
  source = Some DefaultValue;
  reading = AsWritten;
}

abbrev pub row : Form → Given → Row
row form o = plain_row o.0 (if has_value form o.0 then o.1 else codes "true")

abbrev pub rows : Form → List Given → List Row
rows form = map (row form)

-- the rows at the end, with the defaults of the flags
abbrev pub final : Form → List Given → List Row
final form all = fold with_default (rows form all) (ready_rules form)

pub has_row_rows : (form : Form) (name : Text) (all : List Given) → has_row name (rows form all) ≡ has_option name all
has_row_rows form name [] = refl
has_row_rows form name (o ∷ all) = ap (λ b. bytes_eq o.0 name || b) (has_row_rows form name all)

-- where no row has the name, one joins at the end
joined : (name : Text) (change : Row → List Row) (missing : List Row) (now : List Row) → has_row name now ≡ false →
    at_row name change missing now ≡ now ++ missing
joined name change missing [] none = refl
joined name change missing (r ∷ now) none =
    let parts = or_parts (bytes_eq r.id name) _ none in
    rw parts.0 (ap (λ rs. r ∷ rs) (joined name change missing now parts.1))

-- one use of an option
joins : (name value : Text) (now : List Row) → has_row name now ≡ false → with_values name AsWritten CommandLine
    (value ∷ []) (at_row name (λ _. []) [] now) ≡ now ++ plain_row name value ∷ []
joins name value now none = ap (λ rs. with_values name AsWritten CommandLine (value ∷ []) rs)
    (joined name (λ _. []) [] now none ∙ append-nil now) ∙ joined name (more_values CommandLine _) _ now none

-- what one use of an option does: a row more where the option is new, and a fault where it is given again
pub record Uses (a : Rule) (values : List Text) (name value : Text) : Type 0 where
  pub adds : (now : List Row) → has_row name now ≡ false → used a values now ≡ now ++ plain_row name value ∷ []
  pub new : (now : List Row) → has_row name now ≡ false → use_fault false a values now ≡ []
  pub again : (now : List Row) → has_row name now ≡ true → use_fault false a values now ≡ [] → ⊥

pub valued_uses : (r : Bool) (name value : Text) → Uses (ready_valued r name) (value ∷ []) name value
valued_uses r name value = record {
  adds = λ now none. joins name value now none;
  new = λ now none. rw none refl;
  again = λ now some. rw some (λ e. not_empty _ _ e);
}

pub flag_uses : (name : Text) → Uses (ready_flag name) [] name (codes "true")
flag_uses name = record {
  adds = λ now none. joins name (codes "true") now none;
  new = λ now none. rw none refl;
  again = λ now some. rw some (λ e. not_empty _ _ e);
}

-- ---- what is found at the end

abbrev by_name : Text → Row → Bool
by_name name r = bytes_eq r.id name

abbrev option_named : Text → List Given → Option Given
option_named name = find (λ o. bytes_eq o.0 name)

found_any : {X : Type 0} (p : X → Bool) (xs : List X) → is_some (find p xs) ≡ list_any p xs
found_any p [] = refl
found_any {X} p (x ∷ xs) = go (p x) (found_any p xs)
  where
    go : (b : Bool) → is_some (find p xs) ≡ list_any p xs → is_some (cond b (Some x) (find p xs)) ≡ (b || list_any p xs)
    go true e = refl
    go false e = e

-- an option with a value has no default
past_valued : (r : Bool) (names : List Text) (rest : List Rule) (now : List Row) →
    fold with_default now (map (ready_valued r) names ++ rest) ≡ fold with_default now rest
past_valued r [] rest now = refl
past_valued r (n ∷ names) rest now = ap (λ rs. fold with_default rs (map (ready_valued r) names ++ rest))
    (kept (has_row n now)) ∙ past_valued r names rest now
  where
    kept : (b : Bool) → cond b now now ≡ now
    kept true = refl
    kept false = refl

final_is : (form : Form) (all : List Given) → final form all ≡
    fold with_default (rows form all) (map ready_flag form.flags ++ [])
final_is form all = past_valued true form.needed _ (rows form all) ∙ past_valued false form.valued _ (rows form all)

abbrev default_of : List Text → Text → Option Row
default_of names name = if is_among names name then Some (default_row name) else None

or_none : {X : Type 0} (o : Option X) → option_or o None ≡ o
or_none None = refl
or_none (Some x) = refl

-- what the defaults of the flags add
found_final : (names : List Text) (now : List Row) (name : Text)
    → find (by_name name) (fold with_default now (map ready_flag names ++ [])) ≡
    option_or (find (by_name name) now) (default_of names name)
found_final [] now name = sym (or_none (find (by_name name) now))
found_final (n ∷ names) now name =
    found_final names (with_default now (ready_flag n)) name ∙ go (has_row n now) refl (bytes_eq n name) refl
  where
    known : (o : Option Row) (d e : Option Row) → is_some o ≡ true → option_or o d ≡ option_or o e
    known None d e some = absurd (true≢false (sym some))
    known (Some r) d e some = refl

    chosen : (o : Option Row) (same : Bool) → bytes_eq n name ≡ same
        → option_or (option_or o (cond same (Some (default_row n)) None)) (default_of names name) ≡
        option_or o (cond (same || is_among names name) (Some (default_row name)) None)
    chosen (Some r) same is = refl
    chosen None true is = ap (λ t. Some (default_row t)) (same_text n name is)
    chosen None false is = refl

    go : (has : Bool) → has_row n now ≡ has → (same : Bool) → bytes_eq n name ≡ same
        → option_or (find (by_name name) (with_default now (ready_flag n))) (default_of names name)
        ≡ option_or (find (by_name name) now) (cond (same || is_among names name) (Some (default_row name)) None)
    go true some true same =
        let some_name : is_some (find (by_name name) now) ≡ true =
        found_any (by_name name) now ∙ (ap (λ t. has_row t now) (sym (same_text n name same)) ∙ some) in
        rw some (known (find (by_name name) now) (default_of names name) (Some (default_row name)) some_name)
    go true some false same = rw some refl
    go false none same is =
        let one : with_default now (ready_flag n) ≡ now ++ default_row n ∷ []
        = rw none (joined n (more_values DefaultValue (codes "false" ∷ [])) (default_row n ∷ []) now none) in
        let here : find (by_name name) (default_row n ∷ []) ≡ cond same (Some (default_row n)) None = rw is refl in
        ap (λ rs. option_or (find (by_name name) rs) (default_of names name)) one
        ∙ (ap (λ o. option_or o (default_of names name)) (find-append (by_name name) now (default_row n ∷ [])
        ∙ ap (option_or (find _ now)) here) ∙ chosen (find (by_name name) now) same is)

found_at_end : (form : Form) (all : List Given) (name : Text)
    → find (by_name name) (final form all) ≡ option_or (option_map (row form) (option_named name all))
    (default_of form.flags name)
found_at_end form all name = ap (find _) (final_is form all) ∙ (found_final form.flags (rows form all) name
    ∙ ap (λ o. option_or o (default_of form.flags name)) (sym (find-map _ _ all)))

given_at_end : (form : Form) (all : List Given) (name : Text) → is_given name (final form all) ≡ has_option name all
given_at_end form all name = ap (λ o. option_map_or (λ r. explicit_source r.source) o false)
    (found_at_end form all name) ∙ (go _ (is_among _ name) ∙ found_any _ all)
  where
    go : (o : Option Given) (b : Bool) → option_map_or (λ (r : Row). explicit_source r.source)
        (option_or (option_map (row form) o) (cond b (Some (default_row name)) None)) false ≡ is_some o
    go (Some o) b = refl
    go None true = refl
    go None false = refl

pub says : (form : Form) (all : List Given) → Says form all (final form all)
says form all = record {
  values = λ name has flags. ap (option_and_then _) (found_at_end form all name) ∙ value_at name has flags _ refl;
  flags = λ name has flags. ap (option_and_then _) (found_at_end form all name)
      ∙ (flag_at name has flags _ refl ∙ ap (λ b. Some (flag_text b)) (found_any _ all));
}
  where
    value_at : (name : Text) → has_value form name ≡ true → is_among form.flags name ≡ false → (o : Option Given) →
        option_named name all ≡ o → option_and_then (λ (r : Row). slice_get r.values 0)
        (option_or (option_map (row form) o) (default_of form.flags name)) ≡ option_map (λ x. x.1) o
    value_at name has flags None is = rw flags refl
    value_at name has flags (Some o) is =
        let same = same_text o.0 name (find_passes _ all o is) in
        let valued = ap (has_value form) same ∙ has in
        rw valued refl

    flag_at : (name : Text) → has_value form name ≡ false → is_among form.flags name ≡ true → (o : Option Given) →
        option_named name all ≡ o → option_and_then row_text (option_or (option_map (row form) o)
        (default_of form.flags name)) ≡ Some (flag_text (is_some o))
    flag_at name has flags None is = rw flags refl
    flag_at name has flags (Some o) is =
        let same = same_text o.0 name (find_passes _ all o is) in
        let valued = ap (has_value form) same ∙ has in
        rw valued refl

-- ---- the checks at the end

abbrev pub check : Form → List Row → Kinds
check form now = if list_any (λ a. a.required && not (is_given a.id now)) (ready_rules form) then
    kind.MissingRequiredArgument ∷ [] else []

any_valued : (now : List Row) (names : List Text) (rest : List Rule)
    → list_any (λ a. a.required && not (is_given a.id now)) (map (ready_valued false) names ++ rest) ≡
    list_any (λ a. a.required && not (is_given a.id now)) rest
any_valued now [] rest = refl
any_valued now (n ∷ names) rest = any_valued now names rest

any_flag : (now : List Row) (names : List Text) → list_any (λ a. a.required && not (is_given a.id now))
    (map ready_flag names ++ []) ≡ false
any_flag now [] = refl
any_flag now (n ∷ names) = any_flag now names

any_needed : (now : List Row) (all : List Given) → ((name : Text) → is_given name now ≡ has_option name all) →
    (names : List Text) (rest : List Rule) → list_any (λ a. a.required && not (is_given a.id now)) rest ≡ false →
    list_any (λ a. a.required && not (is_given a.id now)) (map (ready_valued true) names ++ rest) ≡ not
    (list_all (λ name. has_option name all) names)
any_needed now all same [] rest none = none
any_needed now all same (n ∷ names) rest none = ap₂ (λ x y. not x || y) (same n)
    (any_needed now all same names rest none) ∙ turned (has_option n all) (list_all _ names)
  where
    turned : (a b : Bool) → (not a || not b) ≡ not (a && b)
    turned true b = refl
    turned false b = refl

pub check_is : (form : Form) (all : List Given)
    → check form (final form all) ≡ (if list_all (λ name. has_option name all) form.needed then [] else
    kind.MissingRequiredArgument ∷ [])
check_is form all =
    let now = final form all in
    let none = any_valued now form.valued _ ∙ any_flag now form.flags in
    ap (λ b. cond b (kind.MissingRequiredArgument ∷ []) []) (any_needed now all (given_at_end form all) _ _ none)
    ∙ turned _
  where
    turned : (b : Bool) → cond (not b) (kind.MissingRequiredArgument ∷ []) [] ≡
        cond b [] (kind.MissingRequiredArgument ∷ [])
    turned true = refl
    turned false = refl

nothing_first : (b : Bool) {k : Kinds} → k ≡ [] → or_else (if b then [] else []) k ≡ []
nothing_first true e = e
nothing_first false e = e

-- no default fails
valued_defaults : (r : Bool) (names : List Text) (rest : List Rule) →
    ((now : List Row) → defaults_fault now rest ≡ []) → (now : List Row)
    → defaults_fault now (map (ready_valued r) names ++ rest) ≡ []
unfolding defaults_fault
valued_defaults r [] rest none now = none now
valued_defaults r (n ∷ names) rest none now =
    nothing_first (has_row n now || true) (valued_defaults r names rest none _)

flag_defaults : (names : List Text) (now : List Row) → defaults_fault now (map ready_flag names ++ []) ≡ []
unfolding defaults_fault
flag_defaults [] now = refl
flag_defaults (n ∷ names) now = nothing_first (has_row n now || false) (flag_defaults names _)

pub no_default_fails : (form : Form) (now : List Row) → defaults_fault now (ready_rules form) ≡ []
no_default_fails form = valued_defaults true form.needed _ (valued_defaults false form.valued _ (flag_defaults _))

-- ---- options that are given once

pub repeated : (before : List Given) (name value : Text) (following : List Given) → has_option name before ≡ true →
    each_once (before ++ (name, value) ∷ following) ≡ false
repeated [] name value following has = absurd (true≢false (sym has))
repeated (o ∷ before) name value following has = go (bytes_eq o.0 name) refl (repeated before name value following)
  where
    go : (b : Bool) → bytes_eq o.0 name ≡ b → (has_option name before ≡ true →
        each_once (before ++ (name, value) ∷ following) ≡ false)
        → (not (has_option o.0 (before ++ (name, value) ∷ following)) && each_once
        (before ++ (name, value) ∷ following)) ≡
        false
    go true e later =
        let turned : bytes_eq name o.0 ≡ true = same_either_way name o.0 ∙ e in
        let there : has_option o.0 (before ++ (name, value) ∷ following) ≡ true
        = list_any-append _ before ((name, value) ∷ following) ∙
        (ap (λ b. has_option o.0 before || (b || has_option o.0 following)) turned ∙ or-true (has_option o.0 before)) in
        ap (λ b. not b && each_once (before ++ (name, value) ∷ following)) there
    go false e later =
        ap (λ b. not (has_option o.0 (before ++ (name, value) ∷ following)) && b) (later (rw e at has)) ∙ and-false _

pub once_more : (before : List Given) (name value : Text) → each_once before ≡ true → has_option name before ≡ false →
    each_once (before ++ (name, value) ∷ []) ≡ true
once_more [] name value once has = refl
once_more (o ∷ before) name value once has =
    let own = first_not (has_option o.0 before) _ once in
    let others = or_parts (bytes_eq o.0 name) _ has in
    let turned : bytes_eq name o.0 ≡ false = same_either_way name o.0 ∙ others.0 in
    let there : has_option o.0 (before ++ (name, value) ∷ []) ≡ false =
    list_any-append _ before ((name, value) ∷ []) ∙ ap₂ (λ a b. a || (b || false)) own.0 turned in
    ap₂ (λ a b. not a && b) there (once_more before name value own.1 others.1)
