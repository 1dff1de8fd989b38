-- One lemma for each word that both meanings are written with. What a tree comes to, code comes to as well, up to
-- lines.
use Rattle.sc_lower.proofs.Common.{Acts, Arith, Blamed, Bool, Break, Calls, Cause, Codes, Continue, Err, Exit, Here}
use Rattle.sc_lower.proofs.Common.{Left, List, Next, NoReturn, None, Ok, On, Option, Piece, PiecesAgree, Reached}
use Rattle.sc_lower.proofs.Common.{Result, Return, Route, Some, State, Stopped, TacStmt, TacStmt-F, Temps, Value, []}
use Rattle.sc_lower.proofs.Common.{and_then, ap, arith as numbers, at_brace, bind, closed, code_step, computed, false}
use Rattle.sc_lower.proofs.Common.{false≢true, follow, if◌then◌else◌, in_loop, in_order, is_some, leave, map-TacStmt}
use Rattle.sc_lower.proofs.Common.{not, piece_without_line, read, read_all, refl, roll-TacStmt, rounds, stmt_does}
use Rattle.sc_lower.proofs.Common.{subst, suc, sym, take, true, turn_of, without_line, zero, ℕ, ◌++◌, ◌<◌, ◌∙◌, ◌∷◌}
use Rattle.sc_lower.proofs.Common.{◌≡◌, ◌≤◌}
use Rattle.sc_core.specs.Prelude.{Out}
use Rattle.sc_core.specs.declared.run.RunEnd.{RunEnd}
use Rattle.sc_lower.proofs.Gives.{Keeps, run, Gives, run_append, run_one, read_then}

-- a value, where one is promised
abbrev pub answers : Bool → Option Value → Bool
answers true v = is_some v
answers false v = true

-- how control leaves a function that promises a value, or none
abbrev pub leaves : Bool → Exit → Bool
leaves result Next = true
leaves result Break = true
leaves result Continue = true
leaves result (Return v) = answers result v

pub some_answers : (b : Bool) (v : Option Value) → is_some v ≡ true → answers b v ≡ true
some_answers true v h = h
some_answers false v h = refl

pub value_answers : (b : Bool) (v : Value) → answers b (Some v) ≡ true
value_answers true v = refl
value_answers false v = refl

pub none_answers : (b : Bool) → not b ≡ true → answers b None ≡ true
none_answers true h = absurd (false≢true h)
none_answers false h = refl

-- the run ends so, up to the line
pub record Ends {V : Type 0} (end : RunEnd) (s : State) (p : Piece V) : Type 0 where
  pub other : RunEnd
  pub is : p ≡ Stopped other s
  pub same : without_line end ≡ without_line other

-- control leaves so, with some temporaries
pub record Leaves (result : Bool) (exit : Exit) (s : State) (p : Piece (Left Temps)) : Type 0 where
  pub temps : Temps
  pub is : p ≡ Reached (record { exit = exit; carried = temps }) s
  pub good : leaves result exit ≡ true

-- a call comes to this
pub record Answers (result : Bool) (v : Option Value) (s : State) (p : Piece (Option Value)) : Type 0 where
  pub is : p ≡ Reached v s
  pub good : answers result v ≡ true

abbrev pub BackMatches : Bool → Piece (Option Value) → Piece (Option Value) → Type 0
BackMatches result (Reached v s) p = Answers result v s p
BackMatches result (Stopped end s) p = Ends end s p

pub ends_then : {V W : Type 0} (end : RunEnd) (s : State) (p : Piece V) (g : V → State → Piece W) → Ends end s p →
    Ends end s (and_then p g)
ends_then end s p g h = record { other = h.other; is = ap (λ x. and_then x g) h.is; same = h.same }

pub blamed : {V : Type 0} (here : Here) (cause : Cause) (line : ℕ) (s : State) (p : Piece V) →
    p ≡ Stopped (Blamed here.comp cause 0) s → Ends (Blamed here.comp cause line) s p
blamed here cause line s p e = record { other = Blamed here.comp cause 0; is = e; same = refl }

-- calls that agree
pub back_from : (result : Bool) (o p : Piece (Option Value)) → PiecesAgree o p →
    ((v : Option Value) (s : State) → o ≡ Reached v s → answers result v ≡ true) → BackMatches result o p
back_from result (Reached v s) (Reached w u) h good = record { is = sym h.same; good = good v s refl }
back_from result (Reached v s) (Stopped end u) h good =
    let no : ◌≡◌ {A = Piece (Option Value)} (Reached v s) (Stopped (without_line end) u) = h.same in absurd (cc no)
back_from result (Stopped end s) (Reached w u) h good =
    let no : ◌≡◌ {A = Piece (Option Value)} (Stopped (without_line end) s) (Reached w u) = h.same in absurd (cc no)
back_from result (Stopped end s) (Stopped other u) h good =
    let both : ◌≡◌ {A = Piece (Option Value)} (Stopped (without_line end) s) (Stopped (without_line other) u) =
    h.same in
    let there : s ≡ u = cc both in
    let same : without_line end ≡ without_line other = cc both in
    record { other = other; is = ap (Stopped other) (sym there); same = same }

pub back_agrees : (result : Bool) (o p : Piece (Option Value)) → BackMatches result o p → PiecesAgree o p
back_agrees result (Reached v s) p m = record { same = sym (ap piece_without_line m.is) }
back_agrees result (Stopped end s) p m =
    record { same = ap (λ e. Stopped e s) m.same ∙ sym (ap piece_without_line m.is) }

pub back_answers : (result : Bool) (o p : Piece (Option Value)) → BackMatches result o p →
    (v : Option Value) (s : State) → o ≡ Reached v s → answers result v ≡ true
back_answers result (Reached w u) p m v s is = let same : w ≡ v =
    cc is in subst (λ x. answers result x ≡ true) same m.good
back_answers result (Stopped end u) p m v s is = absurd (cc is)

-- a function that promises a value, or none
module _ (result : Bool) where
  abbrev pub Matches : Piece (Left (Unit {0})) → Piece (Left Temps) → Type 0
  Matches (Reached left s) p = Leaves result left.exit s p
  Matches (Stopped end s) p = Ends end s p

  abbrev pub ActsMatch : Acts → Codes → Type 0
  ActsMatch f g = (a : Unit {0}) (t : Temps) (s : State) → Matches (f a s) (g t s)

  pub matches_along : (o : Piece (Left (Unit {0}))) (p q : Piece (Left Temps)) → q ≡ p → Matches o p → Matches o q
  matches_along o p q e m = subst (Matches o) (sym e) m

  pub leave_matches : (exit : Exit) → leaves result exit ≡ true → ActsMatch (leave exit) (leave exit)
  leave_matches exit h a t s = record { temps = t; is = refl; good = h }

  abbrev RouteOk : Route → Type 0
  RouteOk On = Unit {0}
  RouteOk (Out exit) = leaves result exit ≡ true

  abbrev RoutesOk : (Exit → Route) → Type 0
  RoutesOk route = (exit : Exit) → leaves result exit ≡ true → RouteOk (route exit)

  in_order_ok : RoutesOk in_order
  in_order_ok Next h = tt
  in_order_ok Break h = refl
  in_order_ok Continue h = refl
  in_order_ok (Return v) h = h

  in_loop_ok : RoutesOk in_loop
  in_loop_ok Next h = tt
  in_loop_ok Break h = refl
  in_loop_ok Continue h = tt
  in_loop_ok (Return v) h = h

  take_matches : (route : Route) (f : Acts) (g : Codes) → RouteOk route → ActsMatch f g →
      ActsMatch (take route f) (take route g)
  take_matches On f g ok h = h
  take_matches (Out exit) f g ok h = leave_matches exit ok

  routed : (route : Exit → Route) → RoutesOk route →
      (o : Piece (Left (Unit {0}))) (p : Piece (Left Temps)) (f : Acts) (g : Codes) →
      Matches o p → ActsMatch f g → Matches (follow route o f) (follow route p g)
  routed route ok (Reached left s) p f g m h =
      matches_along (take (route left.exit) f left.carried s) (take (route left.exit) g m.temps s) (follow route p g)
      (ap (λ x. follow route x g) m.is)
      (take_matches (route left.exit) f g (ok left.exit m.good) h left.carried m.temps s)
  routed route ok (Stopped end s) p f g m h = ends_then end s p (λ left s. take (route left.exit) g left.carried s) m

  pub follow_matches : (o : Piece (Left (Unit {0}))) (p : Piece (Left Temps)) (f : Acts) (g : Codes) →
      Matches o p → ActsMatch f g → Matches (follow in_order o f) (follow in_order p g)
  follow_matches = routed in_order in_order_ok

  pub if_matches : (b : Bool) (o o' : Piece (Left (Unit {0}))) (p p' : Piece (Left Temps)) → Matches o p →
      Matches o' p' →
      Matches (if b then o else o') (if b then p else p')
  if_matches true o o' p p' m n = m
  if_matches false o o' p p' m n = n

  turn_matches : (n : ℕ) (s : State) (f : State → Piece (Left (Unit {0}))) (g : State → Piece (Left Temps)) →
      ((s : State) → Matches (f s) (g s)) →
      Matches (and_then (turn_of n s) (λ _ s. f s)) (and_then (turn_of n s) (λ _ s. g s))
  turn_matches zero s f g h = record { other = _; is = refl; same = refl }
  turn_matches (suc n) s f g h = h (record s { turns = n })

  module _ (head body next : Acts) (head' body' next' : Codes) (h : ActsMatch head head') (b : ActsMatch body body')
      (x : ActsMatch next next') where
    pub rounds_match : (n : ℕ) → ActsMatch (rounds n head body next) (rounds n head' body' next')
    rounds_match zero a t s = record { other = _; is = refl; same = refl }
    rounds_match (suc n) a t s =
        routed in_loop in_loop_ok (head a s) (head' t s) _ _ (h a t s) (λ a t s.
        turn_matches s.turns s _ _ (λ s.
        routed in_loop in_loop_ok (body a s) (body' t s) _ _ (b a t s) (λ a t s.
        routed in_loop in_loop_ok (next a s) (next' t s) _ _ (x a t s) (rounds_match n))))

  module _ (arith : Arith) (here : Here) (calls : Calls) where
    -- code that gives a value, and what follows
    pub value_then : (n at line : ℕ) (t : Temps) (s : State) (r : Result Value Cause) (o : Piece (Left Temps))
        (f : Value → State → Piece (Left (Unit {0}))) (g : Codes) →
        Gives arith here calls n at t s r o →
        ((v : Value) (u : Temps) → u at ≡ Some v → Keeps n t u → Matches (f v s) (g u s)) →
        Matches (and_then (computed here line r s) f) (follow in_order o g)
    value_then n at line t s (Err cause) o f g e h = blamed here cause line s _ (ap (λ x. follow in_order x g) e)
    value_then n at line t s (Ok v) o f g e h =
        matches_along (f v s) (g e.temps s) (follow in_order o g) (ap (λ x. follow in_order x g) e.comes)
        (h v e.temps e.holds e.keeps)

    pub code_then : (n at line : ℕ) (t : Temps) (s : State) (r : Result Value Cause) (xs ys : List TacStmt) (f : Value →
        State → Piece (Left (Unit {0}))) →
        Gives arith here calls n at t s r (run arith here calls xs t s) →
        ((v : Value) (u : Temps) → u at ≡ Some v → Keeps n t u → Matches (f v s) (run arith here calls ys u s)) →
        Matches (and_then (computed here line r s) f) (run arith here calls (xs ++ ys) t s)
    code_then n at line t s r xs ys f e h =
        matches_along _ _ _ (run_append arith here calls xs ys t s)
        (value_then n at line t s r (run arith here calls xs t s) f (run arith here calls ys) e h)

    -- a temporary is read
    pub read_matches : (x : ℕ) (v : Value) (t : Temps) (s : State) (m : Piece (Left (Unit {0}))) (go : Value → State →
        Piece (Left Temps)) → t x ≡ Some v →
        Matches m (go v s) → Matches m (and_then (read here x t s) go)
    read_matches x v t s m go e h = matches_along m (go v s) _ (read_then arith here calls x v t s go e) h

    -- what is computed in both
    pub computed_matches : {V : Type 0} (line : ℕ) (s : State) (r : Result V Cause) (f : V → State →
        Piece (Left (Unit {0}))) (g : V → State → Piece (Left Temps)) →
        ((v : V) → Matches (f v s) (g v s)) →
        Matches (and_then (computed here line r s) f) (and_then (computed here 0 r s) g)
    computed_matches line s (Err cause) f g h = blamed here cause line s _ refl
    computed_matches line s (Ok v) f g h = h v

    -- one statement
    pub one_matches : (m : Piece (Left (Unit {0}))) (k : TacStmt-F TacStmt) (c : TacStmt) (t : Temps) (s : State) →
        roll-TacStmt k ≡ c →
        Matches m (code_step arith here calls (map-TacStmt _ _ (stmt_does arith here calls) k) t s) →
        Matches m (run arith here calls (c ∷ []) t s)
    one_matches m k c t s is h = matches_along m _ _ (run_one arith here calls k c t s is) h

    -- the values of arguments, in temporaries
    abbrev pub Reads : Temps → List ℕ → List Value → Type 0
    Reads t at vs = (s : State) → read_all here at t s ≡ Reached vs s

    pub record GotAll (n : ℕ) (at : List ℕ) (t : Temps) (s : State) (vs : List Value) (o : Piece (Left Temps)) : Type
        0 where
      pub temps : Temps
      pub comes : o ≡ Reached (record { exit = Next; carried = temps }) s
      pub holds : Reads temps at vs
      pub keeps : Keeps n t temps

    abbrev pub GivesAll : ℕ → List ℕ → Temps → State → Result (List Value) Cause → Piece (Left Temps) → Type 0
    GivesAll n at t s (Err cause) o = o ≡ Stopped (Blamed here.comp cause 0) s
    GivesAll n at t s (Ok vs) o = GotAll n at t s vs o

    -- one more value at the head
    more_given : (m n i : ℕ) (at : List ℕ) (t u : Temps) (s : State) (v : Value) (r : Result (List Value) Cause)
        (o : Piece (Left Temps)) →
        m ≤ n → i < n → u i ≡ Some v → Keeps m t u → GivesAll n at u s r o →
        GivesAll m (i ∷ at) t s (bind r (λ vs. Ok (v ∷ vs))) o
    more_given m n i at t u s v (Err cause) o le lt e k g = g
    more_given m n i at t u s v (Ok vs) o le lt e k g = record {
      temps = g.temps;
      comes = g.comes;
      holds = λ s.
          read_then arith here calls i v g.temps s (λ v s. and_then (read_all here at g.temps s)
          (λ vs s. Reached (v ∷ vs) s)) (g.keeps i lt ∙ e)
          ∙ ap (λ o. and_then o (λ vs s. Reached (v ∷ vs) s)) (g.holds s);
      keeps = λ j l. g.keeps j (omega numbers) ∙ k j l;
    }

    all_then : (m n i : ℕ) (at : List ℕ) (t : Temps) (s : State) (r : Result Value Cause)
        (rs : Result (List Value) Cause) (o : Piece (Left Temps)) (g : Codes) →
        m ≤ n → i < n → Gives arith here calls m i t s r o → ((u : Temps) → GivesAll n at u s rs (g u s)) →
        GivesAll m (i ∷ at) t s (bind r (λ v. bind rs (λ vs. Ok (v ∷ vs)))) (follow in_order o g)
    all_then m n i at t s (Err cause) rs o g le lt e h = ap (λ x. follow in_order x g) e
    all_then m n i at t s (Ok v) rs o g le lt e h =
        subst (GivesAll m (i ∷ at) t s (bind rs (λ vs. Ok (v ∷ vs)))) (sym (ap (λ x. follow in_order x g) e.comes))
        (more_given m n i at t e.temps s v rs (g e.temps s) le lt e.holds e.keeps (h e.temps))

    pub codes_then : (m n i : ℕ) (at : List ℕ) (t : Temps) (s : State) (r : Result Value Cause)
        (rs : Result (List Value) Cause) (xs ys : List TacStmt) →
        m ≤ n → i < n → Gives arith here calls m i t s r (run arith here calls xs t s) →
        ((u : Temps) → GivesAll n at u s rs (run arith here calls ys u s)) →
        GivesAll m (i ∷ at) t s (bind r (λ v. bind rs (λ vs. Ok (v ∷ vs)))) (run arith here calls (xs ++ ys) t s)
    codes_then m n i at t s r rs xs ys le lt e h =
        subst (GivesAll m (i ∷ at) t s (bind r (λ v. bind rs (λ vs. Ok (v ∷ vs)))))
        (sym (run_append arith here calls xs ys t s))
        (all_then m n i at t s r rs (run arith here calls xs t s) (run arith here calls ys) le lt e h)

-- the closing brace
brace_matches : (result is_main : Bool) (line : ℕ) (here : Here) (s : State) →
    BackMatches result (at_brace result is_main line here s) (at_brace result is_main 0 here s)
brace_matches true true line here s = record { is = refl; good = refl }
brace_matches true false line here s = blamed here NoReturn line s _ refl
brace_matches false is_main line here s = record { is = refl; good = refl }

closed_matches : (result is_main : Bool) (line : ℕ) (here : Here) (exit : Exit) (s : State) →
    leaves result exit ≡ true →
    BackMatches result (closed exit result is_main line here s) (closed exit result is_main 0 here s)
closed_matches result is_main line here Next s h = brace_matches result is_main line here s
closed_matches result is_main line here Break s h = brace_matches result is_main line here s
closed_matches result is_main line here Continue s h = brace_matches result is_main line here s
closed_matches result is_main line here (Return v) s h = record { is = refl; good = h }

-- how a call ends
pub close_matches : (result is_main : Bool) (line : ℕ) (here : Here) (o : Piece (Left (Unit {0})))
    (p : Piece (Left Temps)) → Matches result o p →
    BackMatches result (and_then o (λ left s. closed left.exit result is_main line here s))
    (and_then p (λ left s. closed left.exit result is_main 0 here s))
close_matches result is_main line here (Reached left s) p m =
    subst (BackMatches result (closed left.exit result is_main line here s))
    (sym (ap (λ x. and_then x (λ (left : Left Temps) s. closed left.exit result is_main 0 here s)) m.is))
    (closed_matches result is_main line here left.exit s m.good)
close_matches result is_main line here (Stopped end s) p m =
    ends_then end s p (λ left s. closed left.exit result is_main 0 here s) m
