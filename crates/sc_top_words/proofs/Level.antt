-- What a parse makes of the words after a command's name: the options that they give, or a fault.
use Rattle.sc_top_words.proofs.Common.{Bool, Form, Given, Held, Kinds, List, None, Option, Row, Rule, Shape, Some}
use Rattle.sc_top_words.proofs.Common.{Step, Text, Waiting, Walk, [], after_flag, after_step, ap, append-nil}
use Rattle.sc_top_words.proofs.Common.{append_assoc, ap₂, arg_by_id, begins_with_hyphen, bytes_eq_self, check_fault}
use Rattle.sc_top_words.proofs.Common.{codes, cond, defaults_fault, each_once, false, finished, fold, has_option}
use Rattle.sc_top_words.proofs.Common.{has_row, has_value, idle, is_among, is_bare, level_fault, list_all, long_fault}
use Rattle.sc_top_words.proofs.Common.{long_met, more, name_and_value, named, named_option, not, nothing_held, option}
use Rattle.sc_top_words.proofs.Common.{option_and_then, option_map_or, options, or_else, reacted, refl, rows_after}
use Rattle.sc_top_words.proofs.Common.{settings, settle_fault, settled, short_of, step_fault, subst, sym, true}
use Rattle.sc_top_words.proofs.Common.{turn_fault, use_fault, used, used_by_id, walk_fault, walked, when_complete}
use Rattle.sc_top_words.proofs.Common.{with_default, ℕ, ◌++◌, ◌∙◌, ◌∷◌, ◌≡◌}
use Rattle.std.proofs.lemmas.List.{map-append}
use Rattle.clap.specs.declared.error.kind.ErrorKind.TheVariants as kind
use Rattle.sc_top_words.proofs.Basics.{by_hyphens, first_fails, first_plain, first_not, not_empty, or_else_assoc}
use Rattle.sc_top_words.proofs.Basics.{second_fails}
use Rattle.sc_top_words.proofs.Lookup.{by_id, by_index, by_long, lookup, lookup_other, lookup_valued, ready, ready_flag}
use Rattle.sc_top_words.proofs.Lookup.{ready_rules, ready_valued}
use Rattle.sc_top_words.proofs.Rows.{Uses, flag_uses, check, check_is, final, has_row_rows, no_default_fails, once_more}
use Rattle.sc_top_words.proofs.Rows.{plain_row, repeated, row, rows, valued_uses}

-- ---- the walk over the words of one command

module _ (title : Text) (form : Form) where
  abbrev s : Shape
  s = ready title form

  abbrev rs : List Rule
  rs = ready_rules form

  abbrev at : Waiting → Held → Walk
  at waiting h = record { held = h; waiting = waiting; position = 1; is_trailing = false; stopped = None }

  -- the kinds and the rows of a walk that goes on from here
  abbrev end_faults : Held → Kinds
  end_faults h = or_else (settle_fault rs false h) (or_else (defaults_fault (settled rs h).rows rs)
      (check_fault s (finished rs h) false))

  faults : Walk → List Text → Kinds
  faults w words = or_else (walk_fault s [] w words) (end_faults (fold (walked rs []) w words).held)

  ends : Walk → List Text → List Row
  ends w words = finished rs (fold (walked rs []) w words).held

  faults_next : (w : Walk) (word : Text) (words : List Text) →
      faults w (word ∷ words) ≡ or_else (turn_fault s [] w word) (faults (walked rs [] w word) words)
  unfolding faults walk_fault
  faults_next w word words = or_else_assoc (turn_fault s [] w word) (walk_fault s [] _ words) _

  ends_next : (w : Walk) (word : Text) (words : List Text) → ends w (word ∷ words) ≡ ends (walked rs [] w word) words
  unfolding ends
  ends_next w word words = refl

  -- a word that fails at once
  stops : (w : Walk) (word : Text) (words : List Text) → (turn_fault s [] w word ≡ [] → ⊥) →
      faults w (word ∷ words) ≡ [] → ⊥
  stops w word words fails e = first_fails _ _ fails (sym (faults_next w word words) ∙ e)

  -- what a word `--name` or `--name=value` does, by the rule of its name
  abbrev step_by : Waiting → Text → Option Rule → Option Text → Held → Held × Step
  step_by waiting word a v h = after_flag rs waiting word (long_met rs a v h).0 (long_met rs a v h).1

  abbrev fault_by : Waiting → Text → Option Rule → Option Text → Held → Kinds
  fault_by waiting word a v h =
      or_else (long_fault rs false a v h) (step_fault s 1 (step_by waiting word a v h).0 (step_by waiting word a v h).1)

  idle_long : (h : Held) (x : ℕ) (xs : Text) → turn_fault s [] (at idle h) (45 ∷ 45 ∷ x ∷ xs) ≡ fault_by idle
      (45 ∷ 45 ∷ x ∷ xs) (lookup form (name_and_value (x ∷ xs)).0) (name_and_value (x ∷ xs)).1 h
  idle_long h x xs = ap (λ a. fault_by idle (45 ∷ 45 ∷ x ∷ xs) a (name_and_value (x ∷ xs)).1 h)
      (by_long form (name_and_value (x ∷ xs)).0)

  abbrev walk_by : Held → Text → Option Rule → Option Text → Walk
  walk_by h word a v = after_step rs word (at idle h) (step_by idle word a v h).0 (step_by idle word a v h).1

  idle_walks : (h : Held) (x : ℕ) (xs : Text) → walked rs [] (at idle h) (45 ∷ 45 ∷ x ∷ xs) ≡
      walk_by h (45 ∷ 45 ∷ x ∷ xs) (lookup form (name_and_value (x ∷ xs)).0) (name_and_value (x ∷ xs)).1
  unfolding walked
  idle_walks h x xs = ap (λ a. walk_by h (45 ∷ 45 ∷ x ∷ xs) a (name_and_value (x ∷ xs)).1)
      (by_long form (name_and_value (x ∷ xs)).0)

  waiting_long : (n : Text) (h : Held) (x : ℕ) (xs : Text) → turn_fault s [] (at (option n) h) (45 ∷ 45 ∷ x ∷ xs)
      ≡ fault_by (option n) (45 ∷ 45 ∷ x ∷ xs) (lookup form (name_and_value (x ∷ xs)).0) (name_and_value (x ∷ xs)).1 h
  waiting_long n h x xs = ap (λ a. fault_by (option n) (45 ∷ 45 ∷ x ∷ xs) a (name_and_value (x ∷ xs)).1 h)
      (by_long form (name_and_value (x ∷ xs)).0)

  -- a word that doesn't begin with a hyphen is no argument where nothing waits
  idle_plain : (h : Held) (word : Text) → begins_with_hyphen word ≡ false →
      turn_fault s [] (at idle h) word ≡ kind.UnknownArgument ∷ []
  idle_plain h [] e = rw (by_index form 1) refl
  idle_plain h (x ∷ xs) e =
      let is = first_plain x xs e in
      let short : short_of (x ∷ xs) ≡ None = rw is refl in rw (is, short, by_index form 1) refl

  -- ---- what the words come to, where `before` is given already

  abbrev accepted : List Given → Option (List Given) → Option (List Given)
  accepted before = option_and_then (λ following. when_complete form (before ++ following))

  abbrev pub Agrees : Kinds → List Row → Option (List Given) → Type 0
  Agrees k now None = k ≡ [] → ⊥
  Agrees k now (Some all) = (k ≡ []) × (now ≡ final form all)

  -- a walk over words goes as the definition says
  abbrev GoesAs : Walk → List Text → Option (List Given) → Type 0
  GoesAs w words = Agrees (faults w words) (ends w words)

  -- a word, and then the others
  goes_on : (w next : Walk) (word : Text) (words : List Text) (k : Kinds) (o : Option (List Given)) →
      turn_fault s [] w word ≡ k → walked rs [] w word ≡ next →
      Agrees (or_else k (faults next words)) (ends next words) o → GoesAs w (word ∷ words) o
  goes_on w next word words k o turns walks agrees = subst (λ k. Agrees k (ends w (word ∷ words)) o)
      (sym (faults_next w word words ∙ ap₂ (λ k w. or_else k (faults w words)) turns walks))
      (subst (λ rows. Agrees (or_else k (faults next words)) rows o)
      (sym (ends_next w word words ∙ ap (λ w. ends w words) walks)) agrees)

  accepted_more : (before : List Given) (name value : Text) (following : Option (List Given))
      → accepted before (more name value following) ≡ accepted (before ++ (name, value) ∷ []) following
  accepted_more before name value None = refl
  accepted_more before name value (Some following) = ap (when_complete form) (sym (append_assoc before _ following))

  accepted_again : (before : List Given) (name value : Text) (following : Option (List Given)) →
      has_option name before ≡ true → accepted before (more name value following) ≡ None
  accepted_again before name value None has = refl
  accepted_again before name value (Some following) has = rw (repeated before name value following has) refl

  abbrev IdleAgrees : List Text → Type 0
  IdleAgrees words = (h : Held) (before : List Given) → settle_fault rs false h ≡ [] →
      (settled rs h).rows ≡ rows form before → each_once before ≡ true
      → GoesAs (at idle h) words (accepted before (settings form None words))

  abbrev IdleFails : List Text → Type 0
  IdleFails words = (h : Held) → (settle_fault rs false h ≡ [] → ⊥) → faults (at idle h) words ≡ [] → ⊥

  abbrev holding : Text → List Text → List Row → ℕ → Held
  holding name values now skip = record { rows = now; pending = Some (name, values); skip = skip }

  abbrev waiting_for : Text → List Row → ℕ → Walk
  waiting_for name now skip = at (option name) (holding name [] now skip)

  abbrev WaitingAgrees : List Text → Type 0
  WaitingAgrees words = (name : Text) (now : List Row) (skip : ℕ) (before : List Given) → has_value form name ≡ true →
      now ≡ rows form before → each_once before ≡ true →
      GoesAs (waiting_for name now skip) words (accepted before (settings form (Some name) words))

  idle_ends : IdleAgrees []
  unfolding faults ends settings walk_fault
  idle_ends h before settles now once = go (list_all (λ name. has_option name before) form.needed) refl
    where
      faults_are : or_else [] (end_faults h) ≡ check form (final form before)
      faults_are = λ i. or_else (settles i) (or_else (no_default_fails form (settled rs h).rows i)
          (check form (fold with_default (now i) rs)))

      rows_are : finished rs h ≡ final form before
      rows_are = ap (λ rows. fold with_default rows rs) now

      go : (b : Bool) → list_all (λ name. has_option name before) form.needed ≡ b
          → Agrees (or_else [] (end_faults h)) (finished rs h) (accepted before (Some []))
      go true e =
          let taken : accepted before (Some []) ≡ Some before =
          ap (when_complete form) (append-nil before) ∙ rw (once, e) refl in
          subst (Agrees _ _) (sym taken) (faults_are ∙ (check_is form before ∙ rw e refl), rows_are)
      go false e =
          let missing : accepted before (Some []) ≡ None =
          ap (when_complete form) (append-nil before) ∙ rw (once, e) refl in
          let fails : check form _ ≡ kind.MissingRequiredArgument ∷ [] = check_is form before ∙ rw e refl in
          subst (Agrees (or_else [] (end_faults h)) (finished rs h)) (sym missing)
          (λ none. not_empty _ _ (sym (faults_are ∙ fails) ∙ none))

  -- ---- one word

  lookup_cases : (P : Option Rule → Type 0) (name : Text)
      → (has_value form name ≡ true → (r : Bool) → P (Some (ready_valued r name)))
      → (has_value form name ≡ false → is_among form.flags name ≡ true → P (Some (ready_flag name)))
      → (has_value form name ≡ false → is_among form.flags name ≡ false → P None) → P (lookup form name)
  lookup_cases P name valued flags none = go (has_value form name) refl (is_among form.flags name) refl
    where
      go : (a : Bool) → has_value form name ≡ a → (b : Bool) → is_among form.flags name ≡ b → P (lookup form name)
      go true e b f =
          let is = lookup_valued form name e in
          subst P (sym is.1) (valued e is.0)
      go false e true f = subst P (sym (lookup_other form name e ∙ rw f refl)) (flags e f)
      go false e false f = subst P (sym (lookup_other form name e ∙ rw f refl)) (none e f)

  -- where what is held fails, a named word fails with it
  long_fails : (waiting : Waiting) (word name : Text) (v : Option Text) (h : Held) → (settle_fault rs false h ≡ [] → ⊥)
      → fault_by waiting word (lookup form name) v h ≡ [] → ⊥
  long_fails waiting word name v h fails = lookup_cases (λ a. fault_by waiting word a v h ≡ [] → ⊥) name
      (λ has r. valued r v) (λ has flags. flag v) (λ has flags e. not_empty _ _ e)
    where
      valued : (r : Bool) (v : Option Text) → fault_by waiting word (Some (ready_valued r name)) v h ≡ [] → ⊥
      valued r (Some value) = first_fails (or_else (settle_fault rs false h) _) _
          (first_fails (settle_fault rs false h) _ fails)
      valued r None = first_fails (settle_fault rs false h) _ fails

      flag : (v : Option Text) → fault_by waiting word (Some (ready_flag name)) v h ≡ [] → ⊥
      flag (Some value) = λ e. not_empty _ _ e
      flag None = first_fails (or_else (settle_fault rs false h) _) _ (first_fails (settle_fault rs false h) _ fails)

  idle_fails : (words : List Text) → list_all (λ word. not (is_bare word)) words ≡ true → IdleFails words
  unfolding faults walk_fault
  idle_fails [] all h fails = first_fails (settle_fault rs false h) _ fails
  idle_fails (word ∷ words) all h fails =
      stops (at idle h) word words (by_hyphens (λ w. turn_fault s [] (at idle h) w ≡ [] → ⊥)
      (λ w plain e. not_empty _ _ (sym (idle_plain h w plain) ∙ e))
      (λ x xs e. long_fails idle (45 ∷ 45 ∷ x ∷ xs) (name_and_value (x ∷ xs)).0 (name_and_value (x ∷ xs)).1 h fails
      (sym (idle_long h x xs) ∙ e)) word (first_not _ _ all).0)

  -- what follows a word `--name` or `--name=value` where nothing waits, by the rule of its name
  abbrev GoesBy : Held → List Given → Text → List Text → Option Rule → Option Text → Option (List Given) → Type 0
  GoesBy h before word words a v o = Agrees (or_else (fault_by idle word a v h) (faults (walk_by h word a v) words))
      (ends (walk_by h word a v) words) (accepted before o)

  abbrev LongAgrees : Held → List Given → Text → Text → Option Text → List Text → Option Rule → Type 0
  LongAgrees h before word name v words a =
      GoesBy h before word words a v (named_option form (Some (name, v)) (λ waiting. settings form waiting words))

  -- one option more, which nothing waits for any longer: a fault where it is given again, otherwise all goes on
  one_more : (next : Held) (before : List Given) (name value : Text) (words : List Text) (k : Kinds) →
      each_once before ≡ true → IdleAgrees words →
      (has_option name before ≡ true → or_else k (faults (at idle next) words) ≡ [] → ⊥) →
      (has_option name before ≡ false → (k ≡ []) × (settle_fault rs false next ≡ []) ×
      ((settled rs next).rows ≡ rows form before ++ row form (name, value) ∷ [])) →
      Agrees (or_else k (faults (at idle next) words)) (ends (at idle next) words)
      (accepted before (more name value (settings form None words)))
  one_more next before name value words k once idles again new = go (has_option name before) refl
    where
      following : Option (List Given)
      following = settings form None words

      go : (b : Bool) → has_option name before ≡ b → Agrees (or_else k (faults (at idle next) words))
          (ends (at idle next) words) (accepted before (more name value following))
      go true e = subst (Agrees _ _) (sym (accepted_again before name value following e)) (again e)
      go false e =
          let fine = new e in
          subst (λ x. Agrees (or_else x (faults (at idle next) words)) (ends (at idle next) words)
          (accepted before (more name value following))) (sym fine.0) (subst (GoesAs (at idle next) words)
          (sym (accepted_more before name value following)) (idles next (before ++ (name, value) ∷ []) fine.1
          (fine.2 ∙ sym (map-append _ before _)) (once_more before name value once e)))

  module _ (h : Held) (before : List Given) (word name : Text) (words : List Text)
      (settles : settle_fault rs false h ≡ [])
      (now : (settled rs h).rows ≡ rows form before) (once : each_once before ≡ true) (idles : IdleAgrees words)
      (waits : WaitingAgrees words) where
    has_now : has_row name (settled rs h).rows ≡ has_option name before
    has_now = ap (has_row name) now ∙ has_row_rows form name before

    -- the definition's side, computed
    by_option : (a : Option Rule) (v : Option Text) (o : Option (List Given)) →
        named_option form (Some (name, v)) (λ waiting. settings form waiting words) ≡ o →
        GoesBy h before word words a v o → LongAgrees h before word name v words a
    by_option a v o is agrees = subst (GoesBy h before word words a v) (sym is) agrees

    taken : (a : Rule) (values : List Text) (value given : Text) → Uses a values name given →
        row form (name, value) ≡ plain_row name given → (next : Held) → settle_fault rs false next ≡ [] →
        (settled rs next).rows ≡ used a values (settled rs h).rows → Agrees (or_else (or_else (or_else
        (settle_fault rs false h) (use_fault false a values (settled rs h).rows)) []) (faults (at idle next) words))
        (ends (at idle next) words) (accepted before (more name value (settings form None words)))
    taken a values value given uses is next settles_next adds = one_more next before name value words _ once idles
        (λ some. first_fails _ _ (first_fails _ [] (second_fails (settle_fault rs false h) _
        (uses.again _ (has_now ∙ some)))))
        (λ none. (
          λ i. or_else (or_else (settles i) (uses.new _ (has_now ∙ none) i)) [],
          settles_next,
          adds ∙ (uses.adds _ (has_now ∙ none) ∙ ap₂ (λ x y. x ++ y ∷ []) now (sym is)),
        ))

    valued_agrees : has_value form name ≡ true → (r : Bool) (v : Option Text) →
        LongAgrees h before word name v words (Some (ready_valued r name))
    valued_agrees has r (Some value) =
        let rule = ready_valued r name in
        by_option (Some rule) (Some value) (more name value (settings form None words)) (rw has refl)
        (taken rule _ value value (valued_uses r name value) (rw has refl) (reacted rs rule (value ∷ []) h) refl refl)
    valued_agrees has r None =
        let next : Walk = at (option name) (holding name [] (settled rs h).rows h.skip) in
        let later = waits name (settled rs h).rows h.skip before has now once in
        by_option (Some (ready_valued r name)) None (settings form (Some name) words) (rw has refl)
        (subst (λ k. Agrees (or_else (or_else k []) (faults next words)) (ends next words)
        (accepted before (settings form (Some name) words))) (sym settles) later)

    flag_agrees : has_value form name ≡ false → is_among form.flags name ≡ true → (v : Option Text) →
        LongAgrees h before word name v words (Some (ready_flag name))
    flag_agrees has flags (Some value) =
        by_option (Some (ready_flag name)) (Some value) None (rw has refl) (λ e. not_empty _ _ e)
    flag_agrees has flags None =
        let rule = ready_flag name in
        by_option (Some rule) None (more name [] (settings form None words)) (rw (has, flags) refl)
        (taken rule [] [] (codes "true") (flag_uses name) (rw has refl) (reacted rs rule [] h) refl refl)

    none_agrees : has_value form name ≡ false → is_among form.flags name ≡ false → (v : Option Text) →
        LongAgrees h before word name v words None
    none_agrees has flags (Some value) = by_option None (Some value) None (rw has refl) (λ e. not_empty _ _ e)
    none_agrees has flags None = by_option None None None (rw (has, flags) refl) (λ e. not_empty _ _ e)

    long_agrees : (v : Option Text) → LongAgrees h before word name v words (lookup form name)
    long_agrees v = lookup_cases (LongAgrees h before word name v words) name (λ has r. valued_agrees has r v)
        (λ has flags. flag_agrees has flags v) (λ has flags. none_agrees has flags v)

  idle_next : (word : Text) (words : List Text) → is_bare word ≡ false →
      list_all (λ word. not (is_bare word)) words ≡ true
      → IdleAgrees words → WaitingAgrees words → IdleAgrees (word ∷ words)
  unfolding settings
  idle_next word words bare all idles waits h before settles now once =
      by_hyphens (λ w. GoesAs (at idle h) (w ∷ words) (given (named w))) plain long word bare
    where
      no_name : (w : Text) → begins_with_hyphen w ≡ false → named w ≡ None
      no_name [] e = refl
      no_name (x ∷ xs) e = rw (first_plain x xs e) refl

      given : Option (Text × Option Text) → Option (List Given)
      given name = accepted before (named_option form name (λ waiting. settings form waiting words))

      plain : (w : Text) → begins_with_hyphen w ≡ false → GoesAs (at idle h) (w ∷ words) (given (named w))
      plain w e = subst (λ o. GoesAs (at idle h) (w ∷ words) (given o)) (sym (no_name w e))
          (stops (at idle h) w words (λ none. not_empty _ _ (sym (idle_plain h w e) ∙ none)))

      long : (x : ℕ) (xs : Text) → GoesAs (at idle h) ((45 ∷ 45 ∷ x ∷ xs) ∷ words) (given (named (45 ∷ 45 ∷ x ∷ xs)))
      long x xs = goes_on (at idle h) _ (45 ∷ 45 ∷ x ∷ xs) words _ _ (idle_long h x xs) (idle_walks h x xs)
          (long_agrees h before (45 ∷ 45 ∷ x ∷ xs) (name_and_value (x ∷ xs)).0 words settles now once idles waits
          (name_and_value (x ∷ xs)).1)

  -- ---- a word where an option waits

  module _ (name : Text) (now : List Row) (skip : ℕ) (has : has_value form name ≡ true) where
    found_by_id : (r : Bool) × (arg_by_id rs name ≡ Some (ready_valued r name))
    found_by_id = ((lookup_valued form name has).0, by_id form name ∙ (lookup_valued form name has).1)

    -- an option that waits and gets no value fails
    no_value : settle_fault rs false (holding name [] now skip) ≡ [] → ⊥
    no_value e = not_empty _ _ (sym (ap (λ a. option_map_or (λ a. use_fault false a [] now) a []) found_by_id.1) ∙ e)

    fault_held : (word : Text) → settle_fault rs false (holding name (word ∷ []) now skip) ≡
        use_fault false (ready_valued found_by_id.0 name) (word ∷ []) now
    fault_held word = ap (λ a. option_map_or (λ a. use_fault false a (word ∷ []) now) a []) found_by_id.1

    rows_held : (word : Text) → (settled rs (holding name (word ∷ []) now skip)).rows ≡
        used (ready_valued found_by_id.0 name) (word ∷ []) now
    rows_held word = ap (λ a. used_by_id a (word ∷ []) now) found_by_id.1

    passes_plain : (word : Text) → begins_with_hyphen word ≡ false →
        turn_fault s [] (waiting_for name now skip) word ≡ []
    passes_plain [] e = refl
    passes_plain (x ∷ xs) e =
        let is = first_plain x xs e in
        let short : short_of (x ∷ xs) ≡ None = rw is refl in rw (is, short) refl

    takes_plain : (word : Text) → begins_with_hyphen word ≡ false
        → walked rs [] (waiting_for name now skip) word ≡ at idle (holding name (word ∷ []) now skip)
    unfolding walked
    takes_plain [] e = rw (found_by_id.1, bytes_eq_self name) refl
    takes_plain (x ∷ xs) e =
        let is = first_plain x xs e in
        let short : short_of (x ∷ xs) ≡ None = rw is refl in rw (is, short, found_by_id.1, bytes_eq_self name) refl

  waiting_ends : WaitingAgrees []
  unfolding faults ends settings walk_fault
  waiting_ends name now skip before has is once = first_fails _ _ (no_value name now skip has)

  waiting_next : (word : Text) (words : List Text) → is_bare word ≡ false →
      list_all (λ word. not (is_bare word)) words ≡ true → IdleAgrees words → WaitingAgrees (word ∷ words)
  unfolding settings
  waiting_next word words bare all idles name now skip before has is once = by_hyphens
      (λ w. GoesAs (waiting_for name now skip) (w ∷ words) (given w (begins_with_hyphen w))) plain long word bare
    where
      r : Bool
      r = (found_by_id name now skip has).0

      taken : Text → Option (List Given)
      taken w = more name w (settings form None words)

      given : Text → Bool → Option (List Given)
      given w hyphen = accepted before (cond hyphen None (taken w))

      has_now : has_row name now ≡ has_option name before
      has_now = ap (has_row name) is ∙ has_row_rows form name before

      value_taken : (w : Text) → GoesAs (at idle (holding name (w ∷ []) now skip)) words (accepted before (taken w))
      value_taken w =
          let uses = valued_uses r name w in
          one_more (holding name (w ∷ []) now skip) before name w words [] once idles
          (λ some. idle_fails words all (holding name (w ∷ []) now skip)
          (λ none. uses.again now (has_now ∙ some) (sym (fault_held name now skip has w) ∙ none)))
          (λ none. (
            refl,
            fault_held name now skip has w ∙ uses.new now (has_now ∙ none),
            rows_held name now skip has w ∙ (uses.adds now (has_now ∙ none) ∙
                ap₂ (λ x y. x ++ y ∷ []) is (rw has refl)),
          ))

      plain : (w : Text) → begins_with_hyphen w ≡ false →
          GoesAs (waiting_for name now skip) (w ∷ words) (given w (begins_with_hyphen w))
      plain w e = goes_on (waiting_for name now skip) (at idle (holding name (w ∷ []) now skip)) w words [] _
          (passes_plain name now skip has w e) (takes_plain name now skip has w e)
          (subst (λ b. GoesAs (at idle (holding name (w ∷ []) now skip)) words (given w b)) (sym e) (value_taken w))

      long : (x : ℕ) (xs : Text) → GoesAs (waiting_for name now skip) ((45 ∷ 45 ∷ x ∷ xs) ∷ words)
          (given (45 ∷ 45 ∷ x ∷ xs) (begins_with_hyphen (45 ∷ 45 ∷ x ∷ xs)))
      long x xs = stops (waiting_for name now skip) (45 ∷ 45 ∷ x ∷ xs) words
          (λ none. long_fails (option name) (45 ∷ 45 ∷ x ∷ xs) (name_and_value (x ∷ xs)).0 (name_and_value (x ∷ xs)).1
          (holding name [] now skip) (no_value name now skip has)
          (sym (waiting_long name (holding name [] now skip) x xs) ∙ none))

  -- ---- all the words

  words_agree : (words : List Text) → list_all (λ word. not (is_bare word)) words ≡ true →
      IdleAgrees words × WaitingAgrees words
  words_agree [] all = (idle_ends, waiting_ends)
  words_agree (word ∷ words) all =
      let parts = first_not _ _ all in
      let later = words_agree words parts.1 in
      (idle_next word words parts.0 parts.1 later.0 later.1, waiting_next word words parts.0 parts.1 later.0)

  -- the words after a command's name are what the definition says
  pub level_agrees : (words : List Text) → list_all (λ word. not (is_bare word)) words ≡ true
      → Agrees (level_fault s [] nothing_held words false []) (rows_after rs [] words) (options form words)
  unfolding faults ends
  level_agrees words all = (words_agree words all).0 nothing_held [] refl refl refl
