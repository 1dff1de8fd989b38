-- A function that performs its part by its text, beside the one that performs its rows.
use Rattle.sc_back_replay_laws.proofs.Common.{Action, Blocks, Body, Bool, CallTarget, Calls, Cross, Denotations, Entry}
use Rattle.sc_back_replay_laws.proofs.Common.{Here, Input, IsFixed, IsPerforming, IsSome, IsWord, Left, List, None}
use Rattle.sc_back_replay_laws.proofs.Common.{Option, Output, Own, Piece, Reached, Return, Roles, Row, Scalar, Some}
use Rattle.sc_back_replay_laws.proofs.Common.{State, Step, Stopped, TurnsOut, TypedStmt, TypedStruct, Value, Word, []}
use Rattle.sc_back_replay_laws.proofs.Common.{acts, all_do, and_then, ap, arith, calls, cases_eq, count_of, drop}
use Rattle.sc_back_replay_laws.proofs.Common.{drop-drop, ends, eq-eqb, false, follow, if◌then◌else◌, in_order}
use Rattle.sc_back_replay_laws.proofs.Common.{is_number, map, may_call, now, or_int, params_at, performs, proto_of}
use Rattle.sc_back_replay_laws.proofs.Common.{refl, row_kind, rows_left, scripted_step, skips, stmt_at, subst, suc, sym}
use Rattle.sc_back_replay_laws.proofs.Common.{true, waits, zero, ℕ, ⊎_elim, ◌+◌, ◌-◌, ◌<◌, ◌∙◌, ◌∷◌, ◌≡◌, ◌≤◌}
use Rattle.sc_event.specs.declared.row.Action.TheVariants as act
use Rattle.sc_back_replay_laws.specs.Texts.{performs as performs_row}
use Rattle.sc_back_replay_laws.proofs.Values.{int_gives, int_shape, word_gives, word_shape, word_shapes}
use Rattle.sc_back_replay_laws.proofs.Text.{Give, Halts, acts_there, action_does, call_does, counted, counting, does}
use Rattle.sc_back_replay_laws.proofs.Text.{none, one, passes, return_does, row_does_is, waits_halts}
use Rattle.sc_back_replay_laws.proofs.Near.{Both, Near, NearBy, Returns, ahead, counts, both_then, near_counted}
use Rattle.sc_back_replay_laws.proofs.Near.{reached, stopped}

-- a call that leaves its compartment, and one of the environment
abbrev pub IsOut : CallTarget → Type 0
IsOut (Own number) = ⊥
IsOut _ = Unit {0}

abbrev pub IsOutside : CallTarget → Type 0
IsOutside Input = Unit {0}
IsOutside Output = Unit {0}
IsOutside (Own number) = ⊥
IsOutside (Cross to index) = ⊥

-- ROWS
-- a word for each parameter
abbrev pub Suit : List Scalar → List ℕ → Type 0
Suit [] [] = Unit {0}
Suit [] (word ∷ words) = ⊥
Suit (param ∷ params) [] = ⊥
Suit (param ∷ params) (word ∷ words) = IsWord word × Suit params words

module _ (L : Denotations) (c : ℕ) where
  -- an action that may be done, with words of 32 bits
  abbrev pub MayAct : Action → Type 0
  MayAct (act.Call to index words) =
      (may_call L c (Cross to index) (map (λ w. Word w) words) ≡ true) × Suit (params_at L.interfaces to index) words
  MayAct (act.Ret None) = Unit {0}
  MayAct (act.Ret (Some word)) = IsWord word
  MayAct (act.Out word) = (may_call L c Output (Word word ∷ []) ≡ true) × IsWord word
  MayAct (act.In word) = may_call L c Input [] ≡ true
  MayAct (act.End word) = IsWord word

  -- a row of this number, of an entry that there is
  pub record IsFair (number : ℕ) (row : Row) : Type 0 where
    pub numbered : row.number ≡ number
    pub known : IsSome (proto_of L.interfaces c row.entry)
    pub may : MayAct row.action

  -- rows numbered from here on
  abbrev pub Fair : ℕ → List Row → Type 0
  Fair number [] = Unit {0}
  Fair number (row ∷ rows) = IsFair number row × Fair (suc number) rows

-- PLACES IN ROWS
one_less : (i : ℕ) (row : Row) (rest rows : List Row) → drop i rows ≡ row ∷ rest → drop (suc i) rows ≡ rest
one_less zero row rest [] is = absurd (cc)
one_less zero row rest (x ∷ rows) is = cc
one_less (suc i) row rest [] is = absurd (cc)
one_less (suc i) row rest (x ∷ rows) is = one_less i row rest rows is

drop_none : (i : ℕ) → drop {A = Row} i [] ≡ []
drop_none zero = refl
drop_none (suc i) = refl

module _ (roles : Roles) (most : ℕ) (L : Denotations) (step : Step) (fixed : IsFixed (scripted_step L roles step))
    (made : Calls) where
  abbrev pub b : Body
  b = now (scripted_step L roles step)

  b_is : (k : ℕ) (here : Here) (s : State) (rows : List Row) → roles.scripted here.comp ≡ true →
      rows_left roles here.comp s.trace ≡ rows → b k here s ≡ performs L b rows k here s
  b_is k here s rows set is =
      fixed k here s ∙
      ap (λ x. if x then performs L b (rows_left roles here.comp s.trace) k here s else step b k here s) set ∙
      ap (λ rows. performs L b rows k here s) is

  -- a call of a row came back: a call of the environment has emitted just its own event
  pub record Back (target : CallTarget) (c n : ℕ) (v w : Option Value) (s s' : State) : Type 0 where
    pub near : Near roles most s s'
    pub least : n ≤ count_of c s.trace
    pub exact : IsOutside target → count_of c s.trace ≡ n

  -- a call of a row that may be made, once the counter is set
  abbrev pub CallsAlike : ℕ → Type 0
  CallsAlike c = (target : CallTarget) (args : List Value) (s s' : State) → IsOut target →
      may_call L c target args ≡ true → NearBy roles most (ahead c s.trace) s s' →
      Both (Back target c (suc (count_of c s.trace))) (made c target args s) (calls L b c target args s')

  module _ (c first first' k : ℕ) (set : roles.scripted c ≡ true) (alike : CallsAlike c) (entry : Entry)
      (result : Option Scalar) (own : L.entered c entry ≡ Some k)
      (apart : (other : Entry) → IsSome (proto_of L.interfaces c other) → (other ≡ entry → ⊥) →
      is_number k (L.entered c other) ≡ false)
      (structs : List TypedStruct) (params : ℕ) (close : Left (Unit {0}) → State → Piece (Option Value))
      (closes : (v : Option Value) (s : State) →
      close (record { exit = Return v; carried = tt }) s ≡ Reached v s) where
    abbrev here : Here
    here = record { comp = c; first = first }

    abbrev here' : Here
    here' = record { comp = c; first = first' }

    abbrev R : Option Value → Option Value → State → State → Type 0
    R = Returns roles most c

    -- what a function does from these statements on
    abbrev pub run : List TypedStmt → State → Piece (Option Value)
    run stmts s = and_then (does structs here params made stmts tt s) close

    abbrev Goes : List TypedStmt → ℕ → Type 0
    Goes stmts j = (s s' : State) → Near roles most s s' → j ≤ count_of c s.trace → Both R (run stmts s) (b k here' s')

    abbrev Text : List Row → List TypedStmt → Type 0
    Text rows stmts = IsPerforming L.interfaces entry result rows stmts

    halted : (o : Piece (Option Value)) (s s' : State) → s.trace ≡ s'.trace → Halts s o →
        Both R o (Stopped TurnsOut s')
    halted o s s' same h = subst (λ o. Both R o (Stopped TurnsOut s')) (sym h.is) (stopped TurnsOut (h.trace ∙ same))

    halts_on : (stmts : List TypedStmt) (s : State) → Halts s (does structs here params made stmts tt s) →
        Halts s (run stmts s)
    halts_on stmts s h = record { last = h.last; is = ap (λ o. and_then o close) h.is; trace = h.trace }

    given : (types : List Scalar) (words : List ℕ) → Suit types words →
        Give structs here params made (word_shapes types words) words
    given [] [] suit = none
    given [] (word ∷ words) suit = absurd suit
    given (type ∷ types) [] suit = absurd suit
    given (type ∷ types) (word ∷ words) suit =
        one (word_gives structs here params type word suit.0) (given types words suit.1)

    -- A ROW THAT IS DONE
    module _ (stmts : List TypedStmt) (rest : List Row) (blocks : Blocks) (s s' : State)
        (rest_is : drop (suc (count_of c s.trace)) (roles.rows c) ≡ rest) (near : Near roles most s s')
        (go : Goes stmts (suc (count_of c s.trace))) where
      abbrev n : ℕ
      n = suc (count_of c s.trace)

      abbrev s1 : State
      s1 = counted c n blocks s

      near1 : NearBy roles most (ahead c s.trace) s1 s'
      near1 = near_counted roles most (counts s.trace) s s' c n blocks set near

      -- the statement of an action, and what follows it
      abbrev acted : ℕ → Action → Piece (Option Value)
      acted line action =
          and_then (follow in_order
          (all_do (action_does structs here params made L.interfaces result line action) tt s1)
          (does structs here params made stmts)) close

      abbrev asked : CallTarget → List Value → (State → Piece (Option Value)) → Bool → Piece (Option Value)
      asked target args on b_may =
          and_then (if b_may then calls L b c target args s' else Stopped TurnsOut s') (λ v. on)

      calls_on : (target : CallTarget) (ws : List ℕ) (o : Piece (Option Value)) (on : State → Piece (Option Value)) →
          IsOut target → may_call L c target (map (λ w. Word w) ws) ≡ true →
          o ≡ and_then (made c target (map (λ w. Word w) ws) s1) (λ v. run stmts) →
          ((v w : Option Value) (u u' : State) → Back target c n v w u u' → Both R (run stmts u) (on u')) →
          Both R o (asked target (map (λ w. Word w) ws) on (may_call L c target (map (λ w. Word w) ws)))
      calls_on target ws o on out may is go_on =
          subst (λ x. Both R o (asked target (map (λ w. Word w) ws) on x)) (sym may)
          (subst (λ x. Both R x (asked target (map (λ w. Word w) ws) on true)) (sym is)
          (both_then (Back target c n) R (made c target (map (λ w. Word w) ws) s1)
          (calls L b c target (map (λ w. Word w) ws) s') (λ v. run stmts) (λ v. on)
          (alike target (map (λ w. Word w) ws) s1 s' out may near1) go_on))

      -- after an action of the environment the later rows are left
      following : (u u' : State) → Near roles most u u' → count_of c u.trace ≡ n →
          Both R (run stmts u) (performs L b rest k here' u')
      following u u' near_u is =
          let left : rows_left roles c u'.trace ≡ rest =
          ap (λ t. drop (count_of c t) (roles.rows c)) (sym near_u.trace) ∙ ap (λ i. drop i (roles.rows c)) is ∙
          rest_is in
          subst (Both R (run stmts u)) (b_is k here' u' rest set left) (go u u' near_u (omega (arith, is)))

      returned : (v : Option Value) (o : Piece (Option Value)) →
          o ≡ close (record { exit = Return v; carried = tt }) s1 → Both R o (Reached v s')
      returned v o is =
          subst (λ x. Both R x (Reached v s')) (sym (is ∙ closes v s1)) (reached (record { same = refl; near = near1 }))

      acts_alike : (line : ℕ) (action : Action) → MayAct L c action →
          Both R (acted line action) (acts L b action (performs L b rest k here') (b k here') c s')
      acts_alike line (act.Call to index ws) may =
          calls_on (Cross to index) ws (acted line (act.Call to index ws)) (b k here') tt may.0
          (call_does structs here params made close (does structs here params made stmts) line (Cross to index)
          (word_shapes (params_at L.interfaces to index) ws) ws s1 (given (params_at L.interfaces to index) ws may.1))
          (λ v w u u' back. go u u' back.near back.least)
      acts_alike line (act.Out word) may =
          calls_on Output (word ∷ []) (acted line (act.Out word)) (performs L b rest k here') tt may.0
          (call_does structs here params made close (does structs here params made stmts) line Output
          (int_shape word ∷ []) (word ∷ []) s1 (one (int_gives structs here params word may.1) none))
          (λ v w u u' back. following u u' back.near (back.exact tt))
      acts_alike line (act.In word) may =
          calls_on Input [] (acted line (act.In word)) (performs L b rest k here') tt may
          (call_does structs here params made close (does structs here params made stmts) line Input [] [] s1 none)
          (λ v w u u' back. following u u' back.near (back.exact tt))
      acts_alike line (act.Ret None) may = returned None (acted line (act.Ret None)) refl
      acts_alike line (act.Ret (Some word)) may =
          returned (Some (Word word)) (acted line (act.Ret (Some word)))
          (return_does structs here params made close (does structs here params made stmts) line word
          (word_shape (or_int result) word) s1 (word_gives structs here params (or_int result) word may))
      acts_alike line (act.End word) may =
          returned (Some (Word word)) (acted line (act.End word))
          (return_does structs here params made close (does structs here params made stmts) line word
          (int_shape word) s1 (int_gives structs here params word may))

    -- WHERE THE COUNTER IS BELOW ALL ROWS, the text falls through to its loop
    falls : (rows : List Row) (stmts : List TypedStmt) → Text rows stmts → (j n : ℕ) → Fair L c j rows → n < j →
        (blocks : Blocks) (s : State) → s.memory c ≡ counting n ∷ blocks →
        Halts s (does structs here params made stmts tt s)
    falls _ _ (ends line) j n fair less blocks s is = waits_halts structs here params made line s
    falls _ _ (skips row rows stmts other text) j n fair less blocks s is =
        falls rows stmts text (suc j) n fair.1 (omega (arith, less)) blocks s is
    falls _ _ (performs_row row rows stmts line set_line at same text) j n fair less blocks s is =
        let h = falls rows stmts text (suc j) n fair.1 (omega (arith, less)) blocks s is in
        let numbered : row.number ≡ j = fair.0.numbered in
        record {
          last = h.last;
          is = ap (λ f. f tt s) (row_does_is structs here params made L.interfaces result row line set_line at stmts) ∙
              passes structs here params made line set_line
              (action_does structs here params made L.interfaces result at row.action)
              (does structs here params made stmts) blocks s row.number n is
              (λ q. absurd (omega (arith, q, numbered, less))) ∙
              h.is;
          trace = h.trace;
        }

    left_from : (rows : List Row) (j n : ℕ) → rows ≡ drop j (roles.rows c) → j ≤ n →
        drop n (roles.rows c) ≡ drop (n - j) rows
    left_from rows j n is le =
        let e : j + (n - j) ≡ n = omega (arith, le) in
        ap (λ x. drop x (roles.rows c)) (sym e) ∙ sym (drop-drop (n - j) j (roles.rows c)) ∙
        ap (drop (n - j)) (sym is)

    rows_are : (s s' : State) (n : ℕ) (rows : List Row) → Near roles most s s' → count_of c s.trace ≡ n →
        drop n (roles.rows c) ≡ rows → rows_left roles c s'.trace ≡ rows
    rows_are s s' n rows near is left =
        ap (λ t. drop (count_of c t) (roles.rows c)) (sym near.trace) ∙ ap (λ i. drop i (roles.rows c)) is ∙ left

    -- THE TEXT from some row on, with the counter there or past it
    goes_on : (rows : List Row) (stmts : List TypedStmt) (j : ℕ) → Text rows stmts → rows ≡ drop j (roles.rows c) →
        Fair L c j rows → Goes stmts j
    goes_on _ _ j (ends line) is fair s s' near le =
        let left = rows_are s s' (count_of c s.trace) [] near refl
        (left_from [] j (count_of c s.trace) is le ∙ drop_none (count_of c s.trace - j)) in
        subst (Both R (run (stmt_at line waits ∷ []) s)) (sym (b_is k here' s' [] set left))
        (halted (run (stmt_at line waits ∷ []) s) s s' near.trace
        (halts_on (stmt_at line waits ∷ []) s (waits_halts structs here params made line s)))
    goes_on _ _ j (skips row rows stmts other text) is fair s s' near le =
        let rest_is : drop (suc j) (roles.rows c) ≡ rows = one_less j row rows (roles.rows c) (sym is) in
        let blocks = near.counter c set in
        ⊎_elim (λ q.
        let left = rows_are s s' j (row ∷ rows) near q (sym is) in
        let stops : b k here' s' ≡ Stopped TurnsOut s' =
        b_is k here' s' (row ∷ rows) set left ∙
        ap (λ x. if x then acts L b row.action (performs L b rows k here') (b k here') c s' else Stopped TurnsOut s')
        (apart row.entry fair.0.known other) in
        subst (Both R (run stmts s)) (sym stops) (halted (run stmts s) s s' near.trace
        (halts_on stmts s (falls rows stmts text (suc j) (count_of c s.trace) fair.1 (omega (arith, q)) blocks.0 s
        blocks.1))))
        (λ ne. goes_on rows stmts (suc j) text (sym rest_is) fair.1 s s' near (omega (arith, ne, le)))
        (cases_eq (count_of c s.trace) j)
    goes_on _ _ j (performs_row row rows stmts line set_line at same text) is fair s s' near le =
        let rest_is : drop (suc j) (roles.rows c) ≡ rows = one_less j row rows (roles.rows c) (sym is) in
        let blocks = near.counter c set in
        let whole : List TypedStmt = stmt_at line (row_kind L.interfaces result row set_line at) ∷ stmts in
        let numbered : row.number ≡ j = fair.0.numbered in
        let opened = ap (λ f. and_then (f tt s) close)
        (row_does_is structs here params made L.interfaces result row line set_line at stmts) in
        let x = action_does structs here params made L.interfaces result at row.action in
        let y = does structs here params made stmts in
        ⊎_elim (λ q.
        let left = rows_are s s' j (row ∷ rows) near q (sym is) in
        let is_own : is_number k (L.entered c row.entry) ≡ true =
        ap (λ e. is_number k (L.entered c e)) same ∙ ap (is_number k) own ∙ eq-eqb k k refl in
        let acting : b k here' s' ≡ acts L b row.action (performs L b rows k here') (b k here') c s' =
        b_is k here' s' (row ∷ rows) set left ∙
        ap (λ x. if x then acts L b row.action (performs L b rows k here') (b k here') c s' else Stopped TurnsOut s')
        is_own in
        let there : s.memory c ≡ counting row.number ∷ blocks.0 =
        blocks.1 ∙ ap (λ i. counting i ∷ blocks.0) (q ∙ sym numbered) in
        let done : run whole s ≡ and_then (follow in_order (all_do x tt (counted c (suc (count_of c s.trace)) blocks.0
        s)) y) close =
        opened ∙ ap (λ o. and_then o close)
        (acts_there structs here params made line set_line x y blocks.0 s row.number there ∙
        ap (λ i. follow in_order (all_do x tt (counted c (suc i) blocks.0 s)) y) (numbered ∙ sym q)) in
        subst (Both R (run whole s)) (sym acting)
        (subst (λ o. Both R o (acts L b row.action (performs L b rows k here') (b k here') c s')) (sym done)
        (acts_alike stmts rows blocks.0 s s' (ap (λ i. drop (suc i) (roles.rows c)) q ∙ rest_is) near
        (subst (λ i. Goes stmts (suc i)) (sym q) (goes_on rows stmts (suc j) text (sym rest_is) fair.1)) at row.action
        fair.0.may)))
        (λ ne.
        let past : run whole s ≡ run stmts s =
        opened ∙ ap (λ o. and_then o close)
        (passes structs here params made line set_line x y blocks.0 s row.number (count_of c s.trace) blocks.1
        (λ e. ne (e ∙ numbered))) in
        subst (λ o. Both R o (b k here' s')) (sym past)
        (goes_on rows stmts (suc j) text (sym rest_is) fair.1 s s' near (omega (arith, ne, le))))
        (cases_eq (count_of c s.trace) j)

    -- ONE FUNCTION: its text does what its rows do, from the same counters on
    pub function_alike : (stmts : List TypedStmt) → Text (roles.rows c) stmts → Fair L c 0 (roles.rows c) →
        (s s' : State) → Near roles most s s' → Both R (run stmts s) (b k here' s')
    function_alike stmts text fair s s' near =
        goes_on (roles.rows c) stmts 0 text refl fair s s' near (omega arith)
