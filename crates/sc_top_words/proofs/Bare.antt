-- Words of which one is bare are no command.
use Rattle.sc_top_words.proofs.Common.{Bool, Form, Given, List, None, Option, Some, Text, [], and_from, ap, arith}
use Rattle.sc_top_words.proofs.Common.{begins_with_hyphen, bytes_eq, commands, cond, eqb-true, false, find, form_of}
use Rattle.sc_top_words.proofs.Common.{has_value, is_among, is_bare, list_all, list_any, more, named, named_option, not}
use Rattle.sc_top_words.proofs.Common.{option_and_then, option_map, options, or_parts, parsed, refl, same_text}
use Rattle.sc_top_words.proofs.Common.{settings, subst, sym, true, true≢false, when_complete, ◌==◌, ◌∷◌, ◌≡◌}
use Rattle.sc_base.proofs.Bools.{and_first}

-- ---- what holds of each command holds of the command of a name

abbrev pub Holds : (Text → Form → Type 0) → List (Text × Form) → Type 0
Holds P [] = Unit
Holds P (c ∷ cs) = P c.0 c.1 × Holds P cs

pub by_command : (P : Text → Form → Type 0) (cs : List (Text × Form)) → Holds P cs → (name : Text) (form : Form)
    → option_map (λ entry. entry.1) (find (λ entry. bytes_eq entry.0 name) cs) ≡ Some form → P name form
by_command P [] holds name form is = cc
by_command P (c ∷ cs) holds name form is = go (bytes_eq c.0 name) refl (by_command P cs holds.1 name form)
  where
    go : (b : Bool) → bytes_eq c.0 name ≡ b → (option_map (λ entry. entry.1)
        (find (λ entry. bytes_eq entry.0 name) cs) ≡ Some form → P name form) → P name form
    go true e later =
        let here : Some c.1 ≡ Some form = rw e at is in
        let same : c.1 ≡ form = cc in
        subst (λ f. P name f) same (subst (λ n. P n c.1) (same_text c.0 name e) holds.0)
    go false e later = later (rw e at is)

-- ---- bare words

-- no option of the form has an empty name
abbrev HasNames : Form → Type 0
HasNames form = (has_value form [] ≡ false) × (is_among form.flags [] ≡ false)

pub names_of_forms : (name : Text) (form : Form) → form_of name ≡ Some form → HasNames form
names_of_forms = by_command _ commands (
  (refl, refl),
  (
    (refl, refl),
    (
      (refl, refl),
      (
        (refl, refl),
        (
          (refl, refl),
          (
            (refl, refl),
            (
              (refl, refl),
              (
                (refl, refl),
                (
                  (refl, refl),
                  (
                    (refl, refl),
                    (
                      (refl, refl),
                      tt,
                    ),
                  ),
                ),
              ),
            ),
          ),
        ),
      ),
    ),
  ),
)

nothing_after : (form : Form) (o : Option (Text × Option Text)) (following : Option Text → Option (List Given)) →
    ((waiting : Option Text) → following waiting ≡ None) → named_option form o following ≡ None
nothing_after form None following none = refl
nothing_after form (Some (name, Some value)) following none = go (has_value form name)
  where
    go : (b : Bool) → cond b (more name value (following None)) None ≡ None
    go true = ap (more name value) (none None)
    go false = refl
nothing_after form (Some (name, None)) following none = go (has_value form name) _
  where
    go : (a b : Bool) → cond a (following (Some name)) (cond b (more name [] (following None)) None) ≡ None
    go true b = none (Some name)
    go false true = ap (more name []) (none None)
    go false false = refl

-- a bare word names no option
bare_fails : (form : Form) → HasNames form → (word : Text) (following : Option Text → Option (List Given)) →
    is_bare word ≡ true → named_option form (named word) following ≡ None
bare_fails form has [] following bare = absurd (true≢false (sym bare))
bare_fails form has (a ∷ []) following bare = go _ refl
  where
    go : (b : Bool) → (a == 45) ≡ b → named_option form (named (a ∷ [])) following ≡ None
    go true e = rw e refl
    go false e = rw e refl
bare_fails form has (a ∷ b ∷ []) following bare = go _ refl _ refl
  where
    go : (x : Bool) → (a == 45) ≡ x → (y : Bool) → (b == 45) ≡ y →
        named_option form (named (a ∷ b ∷ [])) following ≡ None
    go true e true f = rw (e, f, has.0, has.1) refl
    go true e false f = rw (e, f) refl
    go false e y f = rw e refl
bare_fails form has (a ∷ b ∷ x ∷ xs) following bare = go _ refl _ refl
  where
    go : (y : Bool) → (a == 45) ≡ y → (z : Bool) → (b == 45) ≡ z →
        named_option form (named (a ∷ b ∷ x ∷ xs)) following ≡ None
    go true e true f =
        let two = eqb-true _ 2 (rw (e, f) at bare) in
        absurd (omega arith)
    go true e false f = rw (e, f) refl
    go false e z f = rw e refl

no_options : (form : Form) → HasNames form → (words : List Text) → list_any is_bare words ≡ true →
    (waiting : Option Text) → settings form waiting words ≡ None
unfolding settings
no_options form has [] bare waiting = absurd (true≢false (sym bare))
no_options form has (word ∷ words) bare waiting = go (is_bare word) refl waiting (no_options form has words)
  where
    waits : (b : Bool) (name : Text) → settings form None words ≡ None →
        cond b None (more name word (settings form None words)) ≡ None
    waits true name none = refl
    waits false name none = ap (more name word) none

    go : (b : Bool) → is_bare word ≡ b → (waiting : Option Text)
        → (list_any is_bare words ≡ true → (waiting : Option Text) → settings form waiting words ≡ None) →
        settings form waiting (word ∷ words) ≡ None
    go true e None later = bare_fails form has word (λ waiting. settings form waiting words) e
    go true e (Some name) later = rw (and_first (begins_with_hyphen word) _ e) refl
    go false e None later = nothing_after form (named word) (λ waiting. settings form waiting words)
        (later (rw e at bare))
    go false e (Some name) later = waits (begins_with_hyphen word) name (later (rw e at bare) None)

-- no command begins with a hyphen
no_command : (name : Text) → is_bare name ≡ true → form_of name ≡ None
no_command [] bare = absurd (true≢false (sym bare))
no_command (a ∷ xs) bare = go _ refl
  where
    go : (b : Bool) → (a == 45) ≡ b → form_of (a ∷ xs) ≡ None
    go true e =
        let is : a ≡ 45 = eqb-true a 45 e in
        rw is (refl)
    go false e = absurd (true≢false (sym (rw e at bare)))

pub bare_words : (words : List Text) → list_any is_bare words ≡ true → parsed words ≡ None
bare_words [] bare = absurd (true≢false (sym bare))
bare_words (name ∷ words) bare = go (is_bare name) refl (form_of name) refl
  where
    go : (b : Bool) → is_bare name ≡ b → (o : Option Form) → form_of name ≡ o
        → option_map {U = Text × List Given} (λ settings. (name, settings))
        (option_and_then (λ form. options form words) o) ≡ None
    go b e None is = refl
    go true e (Some form) is =
        let none : form_of name ≡ None = no_command name e in
        cc
    go false e (Some form) is = ap (λ o. option_map {U = Text × List Given} (λ settings. (name, settings))
        (option_and_then (when_complete form) o)) (no_options form (names_of_forms name form is) words
        (rw e at bare) None)

pub none_bare : (words : List Text) → list_any is_bare words ≡ false →
    list_all (λ word. not (is_bare word)) words ≡ true
none_bare [] e = refl
none_bare (word ∷ words) e =
    let parts = or_parts (is_bare word) _ e in and_from _ _ (ap not parts.0) (none_bare words parts.1)
