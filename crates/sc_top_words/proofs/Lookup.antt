-- The arguments of a command as the parse reads them, and the argument of a name.
use Rattle.sc_top_words.proofs.Common.{Bool, Form, List, None, Option, Rule, Shape, Some, Text, [], ap, ap₂, arg_by_id}
use Rattle.sc_top_words.proofs.Common.{arg_by_index, arg_by_long, bytes_eq, codes, cond, false, find, find-append}
use Rattle.sc_top_words.proofs.Common.{flag_rule, has_value, if◌then◌else◌, is_among, map, new_shape, option_or}
use Rattle.sc_top_words.proofs.Common.{or-false, refl, same_text, sym, true, true≢false, valued_rule, ℕ, ◌++◌, ◌||◌}
use Rattle.sc_top_words.proofs.Common.{◌∙◌, ◌∷◌, ◌≡◌}
use Rattle.clap.specs.declared.builder.value_parser.ValueParser.TheVariants as vp

-- ---- the arguments as the parse reads them

-- what building makes of an option
abbrev pub ready_valued : Bool → Text → Rule
ready_valued required name = record (valued_rule required name) {
  parser = Some vp.String;
  range = Some (record { start_inclusive = 1; end_inclusive = 1 });
}

abbrev pub ready_flag : Text → Rule
ready_flag name = record (flag_rule name) {
  defaults = codes "false" ∷ [];
  missing = codes "true" ∷ [];
  parser = Some vp.Bool;
  range = Some (record { start_inclusive = 0; end_inclusive = 0 });
}

abbrev pub ready_rules : Form → List Rule
ready_rules form = map (ready_valued true) form.needed
    ++ (map (ready_valued false) form.valued ++ (map ready_flag form.flags ++ []))

-- what building makes of a command
abbrev pub ready : Text → Form → Shape
ready name form = record (new_shape name) {
  rules = ready_rules form;
  no_binary_name = true;
  disable_help_flag = true;
  disable_help_subcommand = true;
  is_built = true;
}

-- a search that goes by names finds the rule of the name
pub found : (p : Rule → Bool) (rule : Text → Rule) (name : Text) → ((n : Text) → p (rule n) ≡ bytes_eq n name) →
    (names : List Text) → find p (map rule names) ≡ cond (is_among names name) (Some (rule name)) None
found p rule name same [] = refl
found p rule name same (n ∷ names) = go (bytes_eq n name) refl (found p rule name same names)
  where
    go : (b : Bool) → bytes_eq n name ≡ b → find p (map rule names) ≡
        cond (is_among names name) (Some (rule name)) None → find p (map rule (n ∷ names)) ≡
        cond (b || is_among names name) (Some (rule name)) None
    go true e later = rw (same n, e) (ap (λ t. Some (rule t)) (same_text n name e))
    go false e later = rw (same n, e) later

-- no rule answers to a test that none passes
none_found : (p : Rule → Bool) (rule : Text → Rule) → ((n : Text) → p (rule n) ≡ false) →
    (names : List Text) (rest : List Rule) → find p (map rule names ++ rest) ≡ find p rest
none_found p rule misses [] rest = refl
none_found p rule misses (n ∷ names) rest = rw (misses n) (none_found p rule misses names rest)

-- the rule of a name
abbrev flag_or_none : Form → Text → Option Rule
flag_or_none form name = if is_among form.flags name then Some (ready_flag name) else None

abbrev pub lookup : Form → Text → Option Rule
lookup form name = if is_among form.needed name then Some (ready_valued true name) else
    (if is_among form.valued name then Some (ready_valued false name) else flag_or_none form name)

searched : (p : Rule → Bool) (form : Form) (name : Text) →
    ((r : Bool) (n : Text) → p (ready_valued r n) ≡ bytes_eq n name)
    → ((n : Text) → p (ready_flag n) ≡ bytes_eq n name) → find p (ready_rules form) ≡ lookup form name
searched p form name valued flags = find-append p (map (ready_valued true) form.needed) _ ∙
    ap₂ option_or (found p (ready_valued true) name (valued true) form.needed)
    (find-append p (map (ready_valued false) form.valued) _ ∙
    ap₂ option_or (found p (ready_valued false) name (valued false) form.valued)
    (find-append p (map ready_flag _) [] ∙ ap (λ o. option_or o None) (found p _ name flags form.flags))) ∙
    first_of_three (ready_valued true name) (ready_valued false name) (ready_flag name) (is_among _ name)
    (is_among form.valued name) (is_among _ name)
  where
    first_of_three : (x y z : Rule) (a b c : Bool) → option_or (cond a (Some x) None)
        (option_or (cond b (Some y) None) (option_or (cond c (Some z) None) None))
        ≡ cond a (Some x) (cond b (Some y) (cond c (Some z) None))
    first_of_three x y z true b c = refl
    first_of_three x y z false true c = refl
    first_of_three x y z false false true = refl
    first_of_three x y z false false false = refl

pub by_long : (form : Form) (name : Text) → arg_by_long (ready_rules form) name ≡ lookup form name
by_long form name = searched _ form name (λ r n. or-false _) (λ n. or-false _)

pub by_id : (form : Form) (name : Text) → arg_by_id (ready_rules form) name ≡ lookup form name
by_id form name = searched _ form name (λ r n. refl) (λ n. refl)

pub by_index : (form : Form) (i : ℕ) → arg_by_index (ready_rules form) i ≡ None
by_index form i = none_found _ (ready_valued true) (λ n. refl) form.needed _ ∙
    none_found _ (ready_valued false) (λ n. refl) form.valued _ ∙ none_found _ ready_flag (λ n. refl) form.flags []

pub lookup_valued : (form : Form) (name : Text) → has_value form name ≡ true →
    (r : Bool) × (lookup form name ≡ Some (ready_valued r name))
lookup_valued form name has = go _ _ has
  where
    go : (a b : Bool) → (a || b) ≡ true → (r : Bool) × (cond a (Some (ready_valued true name))
        (cond b (Some (ready_valued false name)) (flag_or_none form name)) ≡ Some (ready_valued r name))
    go true b e = (true, refl)
    go false true e = (false, refl)
    go false false e = absurd (true≢false (sym e))

pub lookup_other : (form : Form) (name : Text) → has_value form name ≡ false →
    lookup form name ≡ flag_or_none form name
lookup_other form name has = go _ _ has
  where
    go : (a b : Bool) → (a || b) ≡ false → cond a (Some (ready_valued true name))
        (cond b (Some (ready_valued false name)) (flag_or_none form name)) ≡ flag_or_none form name
    go true b e = absurd (true≢false e)
    go false true e = absurd (true≢false e)
    go false false e = refl
