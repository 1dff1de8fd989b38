-- The pass that the tables of a function describe is the pass.
use Rattle.std.proofs.Common.{Bool, List, None, Option, Some, [], ap, arith, false, ltb-false}
use Rattle.std.proofs.Common.{ltb-true, map, nat_lt, not, refl, replicate, slice_get, subst, suc, sym, true, zero, ℕ}
use Rattle.std.proofs.Common.{◌&&◌}
use Rattle.std.proofs.Common.{◌++◌, ◌+◌, ◌<◌, ◌==◌, ◌||◌, ◌∙◌, ◌∷◌, ◌≡◌, ◌≤◌}
use Rattle.std.proofs.lemmas.Bool.{and_from}
use Rattle.std.specs.List.{list_all, range_with_len}
use Rattle.std.specs.Option.{option_map, unwrap_or}
use Rattle.sc_base.proofs.Bools.{and_first, and_rest}
use Rattle.sc_core.proofs.Induction.{Each, everywhere as everywhere_in}
use Rattle.sc_tac.proofs.Induction.{Inside, stmt_induction}
use Rattle.sc_tac.specs.Prelude.{all_true, everywhere, is_one, names_own_temps, one_or_none, some_hold, with_parts}
use Rattle.sc_tac.specs.declared.stmt.Constant.{Constant}
use Rattle.sc_tac.specs.declared.stmt.TacStmt.{TacStmt, TacStmt-F, fold-TacStmt, fold-roll-TacStmt, map-TacStmt}
use Rattle.sc_tac.specs.declared.stmt.TacStmt.TheOpen as tac
use Rattle.sc_opt.specs.Pass.{always_word, assigned_in, assigns_words, copies_one, copy_source, folded, is_read}
use Rattle.sc_opt.specs.Pass.{constant_by, constants_below, known_constant, one_pass}
use Rattle.sc_opt.specs.Pass.{passed, reads_some, reads_unless, reads_within, table_of}
use Rattle.sc_opt.specs.Tables.{Tell, assigned_at, constant_at, holds_word_at, marked, nothing_known, passed_by}
use Rattle.sc_opt.specs.Tables.{reads_stmt}
use Rattle.sc_opt.specs.Tables.{source_at}
use Rattle.sc_opt.specs.Tables.{used_at, with_fact}
use Rattle.sc_opt.specs.declared.facts.Facts.{Facts}
use Rattle.sc_opt.specs.declared.pass.Tables.{Tables}
use Rattle.sc_opt.proofs.Bounds.{assigned_nowhere, back, differs, result_owned, not_one}
use Rattle.sc_opt.proofs.Inside.{sources_inside}
use Rattle.sc_opt.proofs.AllKnown.{here}
use Rattle.sc_opt.proofs.Copies.{at_home}

-- LISTS
pub replicated : {X : Type 0} (n : ℕ) (x : X) (t : ℕ) → t < n → slice_get (replicate n x) t ≡ Some x
replicated zero x t h = absurd (none t h) where
  none : (t : ℕ) → t < 0 → ⊥
  none t h = omega (arith, h)
replicated (suc n) x zero h = refl
replicated (suc n) x (suc t) h = replicated n x t (omega (arith, h))

pub replicated_out : {X : Type 0} (n : ℕ) (x : X) (t : ℕ) → n ≤ t → slice_get (replicate n x) t ≡ None
replicated_out zero x t h = refl
replicated_out (suc n) x zero h = absurd (none n h) where
  none : (n : ℕ) → suc n ≤ 0 → ⊥
  none n h = omega (arith, h)
replicated_out (suc n) x (suc t) h = replicated_out n x t (omega (arith, h))

pub ranged : {X : Type 0} (f : ℕ → X) (first n t : ℕ) → t < n →
    slice_get (map f (range_with_len first n)) t ≡ Some (f (first + t))
ranged f first zero t h = absurd (none t h) where
  none : (t : ℕ) → t < 0 → ⊥
  none t h = omega (arith, h)
ranged f first (suc n) zero h = let same : first ≡ first + 0 = omega arith in ap (λ k. Some (f k)) same
ranged f first (suc n) (suc t) h = let same : first + 1 + t ≡ first + suc t = omega arith in
    ranged f (first + 1) n t (omega (arith, h)) ∙ ap (λ k. Some (f k)) same

pub ranged_out : {X : Type 0} (f : ℕ → X) (first n t : ℕ) → n ≤ t → slice_get (map f (range_with_len first n)) t ≡ None
ranged_out f first zero t h = refl
ranged_out f first (suc n) zero h = absurd (none n h) where
  none : (n : ℕ) → suc n ≤ 0 → ⊥
  none n h = omega (arith, h)
ranged_out f first (suc n) (suc t) h = ranged_out f (first + 1) n t (omega (arith, h))

-- TEMPORARIES THAT AREN'T THE FUNCTION'S
module _ (temps x : ℕ) (out : temps ≤ x) where
  abbrev own : List ℕ → Bool
  own ts = list_all (λ t. nat_lt t temps) ts

  abbrev owns : TacStmt → Bool
  owns = fold-TacStmt Bool (with_parts (names_own_temps temps))

  abbrev words : TacStmt → Bool
  words = fold-TacStmt Bool (with_parts (assigns_words x))

  -- nothing gives them anything
  abbrev Wordy : TacStmt → Type 0
  Wordy stmt = owns stmt ≡ true → words stmt ≡ true

  row_wordy : (stmts : List TacStmt) → Each Wordy stmts → all_true (map owns stmts) ≡ true →
      all_true (map words stmts) ≡ true
  row_wordy [] each h = refl
  row_wordy (s ∷ rest) each h =
      and_from (words s) _ (each.0 (and_first (owns s) _ h)) (row_wordy rest each.1 (and_rest (owns s) _ h))

  away : (d : ℕ) (ts : List ℕ) (w : Bool) → (own (d ∷ ts) && true) ≡ true → ((not (d == x) || w) && true) ≡ true
  away d ts w h = ap (λ b. (not b || w) && true)
      (differs temps x out d (and_first (nat_lt d temps) _ (and_first (own (d ∷ ts)) true h)))

  not_dest : (dest : Option ℕ) (ts : List ℕ) → (own (one_or_none dest ++ ts) && true) ≡ true →
      (not (is_one x (one_or_none dest)) && true) ≡ true
  not_dest dest ts h = ap (λ b. not b && true) (not_one temps x out (one_or_none dest)
      (result_owned temps x out dest ts (and_first (own (one_or_none dest ++ ts)) true h)))

  layer_wordy : (k : TacStmt-F TacStmt) → Inside Wordy k →
      with_parts (names_own_temps temps) (map-TacStmt _ _ owns k) ≡ true →
      with_parts (assigns_words x) (map-TacStmt _ _ words k) ≡ true
  layer_wordy (tac.Const d value) i h = away d [] _ h
  layer_wordy (tac.Copy d from) i h = not_dest (Some d) (from ∷ []) h
  layer_wordy (tac.Op d o left right) i h = away d (left ∷ one_or_none right) _ h
  layer_wordy (tac.ObjectPlace d object) i h = not_dest (Some d) [] h
  layer_wordy (tac.GlobalPlace d global) i h = not_dest (Some d) [] h
  layer_wordy (tac.Load d place pointer) i h = away d (place ∷ []) _ h
  layer_wordy (tac.Store place value) i h = refl
  layer_wordy (tac.If cond a b) i h =
      let all = and_rest (own (cond ∷ [])) _ h in
      and_from (all_true (map words a)) _ (row_wordy a i.0 (and_first (all_true (map owns a)) _ all))
      (and_from (all_true (map words b)) true
      (row_wordy b i.1 (and_first (all_true (map owns b)) true (and_rest (all_true (map owns a)) _ all))) refl)
  layer_wordy (tac.Loop a b c) i h =
      let later = and_rest (all_true (map owns a)) _ h in
      and_from (all_true (map words a)) _ (row_wordy a i.0 (and_first (all_true (map owns a)) _ h))
      (and_from (all_true (map words b)) _ (row_wordy b i.1 (and_first (all_true (map owns b)) _ later))
      (and_from (all_true (map words c)) true
      (row_wordy c i.2 (and_first (all_true (map owns c)) true (and_rest (all_true (map owns b)) _ later))) refl))
  layer_wordy tac.Break i h = refl
  layer_wordy tac.Continue i h = refl
  layer_wordy (tac.CallOwn dest function args) i h = not_dest dest args h
  layer_wordy (tac.CallCross dest comp index args) i h = not_dest dest args h
  layer_wordy (tac.Input dest) i h = not_dest dest [] h
  layer_wordy (tac.Output value) i h = refl
  layer_wordy (tac.Alloc d count words) i h = not_dest (Some d) (count ∷ []) h
  layer_wordy (tac.Free pointer) i h = refl
  layer_wordy (tac.Return value) i h = refl

  stmt_wordy : (stmt : TacStmt) → Wordy stmt
  stmt_wordy = stmt_induction Wordy (λ k i h. fold-roll-TacStmt Bool (with_parts (assigns_words x)) k
      ∙ layer_wordy k i (sym (fold-roll-TacStmt Bool (with_parts (names_own_temps temps)) k) ∙ h))

  pub words_outside : (body : List TacStmt) → everywhere (names_own_temps temps) body ≡ true →
      always_word body x ≡ true
  words_outside body h = row_wordy body (everywhere_in Wordy stmt_wordy body) h

  -- nor is one read
  module _ (constants : ℕ → Option Constant) (source : ℕ → ℕ)
      (inside : (t : ℕ) → nat_lt t temps ≡ true → nat_lt (source t) temps ≡ true) where
    abbrev reads : TacStmt → Bool
    reads = reads_stmt constants source x

    abbrev Silent : TacStmt → Type 0
    Silent stmt = owns stmt ≡ true → reads stmt ≡ false

    neither : (a b : Bool) → a ≡ false → b ≡ false → (a || b) ≡ false
    neither true b h k = h
    neither false b h k = k

    row_silent : (stmts : List TacStmt) → Each Silent stmts → all_true (map owns stmts) ≡ true →
        some_hold (map reads stmts) ≡ false
    row_silent [] each h = refl
    row_silent (s ∷ rest) each h = neither (reads s) _ (each.0 (and_first (owns s) _ h))
        (row_silent rest each.1 (and_rest (owns s) _ h))

    elsewhere : (t : ℕ) → nat_lt t temps ≡ true → (source t == x) ≡ false
    elsewhere t h = differs temps x out (source t) (inside t h)

    none_read : (ts : List ℕ) → own ts ≡ true → reads_some source x ts ≡ false
    none_read [] h = refl
    none_read (t ∷ ts) h = neither (source t == x) _ (elsewhere t (and_first (nat_lt t temps) _ h))
        (none_read ts (and_rest (nat_lt t temps) _ h))

    plain : (dest : Option ℕ) (ts : List ℕ) → (own (one_or_none dest ++ ts) && true) ≡ true →
        (reads_some source x ts || false) ≡ false
    plain dest ts h = neither (reads_some source x ts) false
        (none_read ts (back temps x out dest ts (and_first (own (one_or_none dest ++ ts)) true h))) refl

    unless : (f : Option Constant) (ts : List ℕ) → own ts ≡ true → reads_unless source f x ts ≡ false
    unless (Some c) ts h = refl
    unless None ts h = none_read ts h

    copied : (b : Bool) (from : ℕ) → nat_lt from temps ≡ true → (b && source from == x) ≡ false
    copied true from h = elsewhere from h
    copied false from h = refl

    layer_silent : (k : TacStmt-F TacStmt) → Inside Silent k →
        with_parts (names_own_temps temps) (map-TacStmt _ _ owns k) ≡ true →
        reads_within constants source x (map-TacStmt _ _ reads k) ≡ false
    layer_silent (tac.Const d value) i h = refl
    layer_silent (tac.Copy d from) i h = neither _ false (copied _ from (and_first (nat_lt from temps) true
        (back temps x out (Some d) (from ∷ []) (and_first (own (d ∷ from ∷ [])) true h)))) refl
    layer_silent (tac.Op d o left right) i h = neither _ false (unless (folded constants o left right)
        (left ∷ one_or_none right) (back temps x out (Some d) (left ∷ one_or_none right)
        (and_first (own (d ∷ left ∷ one_or_none right)) true h))) refl
    layer_silent (tac.ObjectPlace d object) i h = refl
    layer_silent (tac.GlobalPlace d global) i h = refl
    layer_silent (tac.Load d place pointer) i h = plain (Some d) (place ∷ []) h
    layer_silent (tac.Store place value) i h = plain None (place ∷ value ∷ []) h
    layer_silent (tac.If cond a b) i h =
        let all = and_rest (own (cond ∷ [])) _ h in
        neither (reads_some source x (cond ∷ [])) _ (none_read (cond ∷ []) (and_first (own (cond ∷ [])) _ h))
        (neither (some_hold (map reads a)) _ (row_silent a i.0 (and_first (all_true (map owns a)) _ all))
        (neither (some_hold (map reads b)) false (row_silent b i.1
        (and_first (all_true (map owns b)) true (and_rest (all_true (map owns a)) _ all))) refl))
    layer_silent (tac.Loop a b c) i h =
        let later = and_rest (all_true (map owns a)) _ h in
        neither (some_hold (map reads a)) _ (row_silent a i.0 (and_first (all_true (map owns a)) _ h))
        (neither (some_hold (map reads b)) _ (row_silent b i.1 (and_first (all_true (map owns b)) _ later))
        (neither (some_hold (map reads c)) false (row_silent c i.2
        (and_first (all_true (map owns c)) true (and_rest (all_true (map owns b)) _ later))) refl))
    layer_silent tac.Break i h = refl
    layer_silent tac.Continue i h = refl
    layer_silent (tac.CallOwn dest function args) i h = plain dest args h
    layer_silent (tac.CallCross dest comp index args) i h = plain dest args h
    layer_silent (tac.Input dest) i h = refl
    layer_silent (tac.Output value) i h = plain None (value ∷ []) h
    layer_silent (tac.Alloc d count words) i h = plain (Some d) (count ∷ []) h
    layer_silent (tac.Free pointer) i h = plain None (pointer ∷ []) h
    layer_silent (tac.Return value) i h = plain None (one_or_none value) h

    stmt_silent : (stmt : TacStmt) → Silent stmt
    stmt_silent = stmt_induction Silent (λ k i h. fold-roll-TacStmt Bool (reads_within constants source x) k
        ∙ layer_silent k i (sym (fold-roll-TacStmt Bool (with_parts (names_own_temps temps)) k) ∙ h))

    pub unread_outside : (body : List TacStmt) → everywhere (names_own_temps temps) body ≡ true →
        is_read constants source body x ≡ false
    unread_outside body h = row_silent body (everywhere_in Silent stmt_silent body) h

-- THE TABLES
module _ (temps : ℕ) (body : List TacStmt) (own : everywhere (names_own_temps temps) body ≡ true) (tables : Tables)
    (tell : Tell temps body tables) where
  abbrev facts : List Facts
  facts = tables.origins.facts

  facts_are : (t : ℕ) (b : Bool) → nat_lt t temps ≡ b → unwrap_or (slice_get facts t) nothing_known
      ≡ record { assigned = table_of body t; holds_word = always_word body t }
  facts_are t true is = ap (λ o. unwrap_or o nothing_known) (tell.facts.all.at t
      ∙ ap (option_map (with_fact (assigned_in t body) (everywhere (assigns_words t) body)))
      (replicated temps nothing_known t (ltb-true t temps is)))
  facts_are t false is = ap (λ o. unwrap_or o nothing_known) (tell.facts.all.at t
      ∙ ap (option_map (with_fact (assigned_in t body) (everywhere (assigns_words t) body)))
      (replicated_out temps nothing_known t (ltb-false t temps is)))
      ∙ (λ i. record {
        assigned = sym (assigned_nowhere temps t (ltb-false t temps is) body own) i;
        holds_word = sym (words_outside temps t (ltb-false t temps is) body own) i;
      })

  table_is : assigned_at facts ≡ table_of body
  table_is = λ i t. (facts_are t (nat_lt t temps) refl i).assigned

  words_are : holds_word_at facts ≡ always_word body
  words_are = λ i t. (facts_are t (nat_lt t temps) refl i).holds_word

  abbrev copied_from : ℕ → ℕ
  copied_from = copy_source (assigned_at facts)

  source_outside : (t : ℕ) → temps ≤ t → copied_from t ≡ t
  source_outside t out = subst (λ table. copy_source table t ≡ t) (sym table_is) (at_home (table_of body) (λ t. true)
      (λ t. true) t (ap (copies_one (table_of body)) (assigned_nowhere temps t out body own)))

  source_is_at : (t : ℕ) (b : Bool) → nat_lt t temps ≡ b → source_at tables.origins.sources t ≡ copied_from t
  source_is_at t true is = ap (λ l. unwrap_or (slice_get l t) t) tell.sources
      ∙ ap (λ o. unwrap_or o t) (ranged copied_from 0 temps t (ltb-true t temps is)) ∙ ap copied_from (no_more t) where
        no_more : (t : ℕ) → 0 + t ≡ t
        no_more t = omega arith
  source_is_at t false is = ap (λ l. unwrap_or (slice_get l t) t) tell.sources
      ∙ ap (λ o. unwrap_or o t) (ranged_out copied_from 0 temps t (ltb-false t temps is))
      ∙ sym (source_outside t (ltb-false t temps is))

  source_is : source_at tables.origins.sources ≡ copy_source (table_of body)
  source_is = (λ i t. source_is_at t (nat_lt t temps) refl i) ∙ ap copy_source table_is

  constant_is_at : (t : ℕ) (b : Bool) → nat_lt t temps ≡ b →
      constant_at tables.origins.constants t ≡ known_constant (assigned_at facts) t
  constant_is_at t true is = ap (λ l. unwrap_or (slice_get l t) None) tell.constants
      ∙ ap (λ o. unwrap_or o None) (ranged (known_constant (assigned_at facts)) 0 temps t (ltb-true t temps is))
      ∙ ap (known_constant (assigned_at facts)) (no_more t) where
        no_more : (t : ℕ) → 0 + t ≡ t
        no_more t = omega arith
  constant_is_at t false is = ap (λ l. unwrap_or (slice_get l t) None) tell.constants
      ∙ ap (λ o. unwrap_or o None) (ranged_out (known_constant (assigned_at facts)) 0 temps t (ltb-false t temps is))
      ∙ sym (ap (λ table. known_constant table t) table_is ∙ here (table_of body) t
      ∙ ap (constant_by (constants_below (table_of body) t)) (assigned_nowhere temps t (ltb-false t temps is) body own))

  constants_are : constant_at tables.origins.constants ≡ known_constant (table_of body)
  constants_are = (λ i t. constant_is_at t (nat_lt t temps) refl i) ∙ ap known_constant table_is

  mark_of : (r : Bool) → unwrap_or (marked r (Some false)) false ≡ r
  mark_of true = refl
  mark_of false = refl

  no_mark : (r : Bool) → unwrap_or (marked r None) false ≡ false
  no_mark true = refl
  no_mark false = refl

  used_is_at : (x : ℕ) (b : Bool) → nat_lt x temps ≡ b →
      used_at tables.marks x ≡ is_read (known_constant (table_of body)) (copy_source (table_of body)) body x
  used_is_at x true is = ap (λ o. unwrap_or o false) (tell.marks.at x
      ∙ ap (marked (is_read (constant_at tables.origins.constants) (source_at tables.origins.sources) body x))
      (replicated temps false x (ltb-true x temps is)))
      ∙ mark_of (is_read (constant_at tables.origins.constants) (source_at tables.origins.sources) body x)
      ∙ (λ i. is_read (constants_are i) (source_is i) body x)
  used_is_at x false is = ap (λ o. unwrap_or o false) (tell.marks.at x
      ∙ ap (marked (is_read (constant_at tables.origins.constants) (source_at tables.origins.sources) body x))
      (replicated_out temps false x (ltb-false x temps is)))
      ∙ no_mark (is_read (constant_at tables.origins.constants) (source_at tables.origins.sources) body x)
      ∙ sym (unread_outside temps x (ltb-false x temps is) (known_constant (table_of body))
      (copy_source (table_of body))
      (sources_inside temps body (λ t. true) (λ t. true) own) body own)

  used_is : used_at tables.marks ≡ is_read (known_constant (table_of body)) (copy_source (table_of body)) body
  used_is = λ i x. used_is_at x (nat_lt x temps) refl i

  pub passed_is : passed_by tables body ≡ one_pass body
  passed_is = λ i. passed (constants_are i) (source_is i) (used_is i) (words_are i) body
