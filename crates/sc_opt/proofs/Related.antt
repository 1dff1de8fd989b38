-- What code comes to, what the pass gives of it comes to as well: the words of the meaning keep it.
use Rattle.std.proofs.Common.{Bool, None, Option, ap, refl, subst, suc}
use Rattle.std.proofs.Common.{sym, true, zero, ℕ, ◌≡◌, ◌⊎◌}
use Rattle.sc_core.specs.Prelude.{Break, Continue, Exit, Left, Next, Piece, Reached, Return, State, Stopped, and_then}
use Rattle.sc_core.specs.Prelude.{follow, in_loop, in_order, rounds, take, turn, turn_of}
use Rattle.sc_core.specs.declared.run.RunEnd.{RunEnd}
use Rattle.sc_core_laws.specs.Prelude.{without_line}
use Rattle.sc_tac.specs.Prelude.{Codes, Lives, TempSet, Temps, no_temps, nothing, part_lives}
use Rattle.sc_tac.specs.declared.stmt.Constant.{Constant}
use Rattle.sc_opt.specs.Pass.{is_once}
use Rattle.sc_opt.proofs.Agreement.{TempsAgree}
use Rattle.sc_opt.specs.declared.facts.Assigned.{Assigned}
use Rattle.sc_opt.specs.declared.facts.Assigned.TheVariants.{Nowhere}

-- where each temporary is assigned in a piece of code
abbrev pub Assignments : Type 0
Assignments = ℕ → Assigned

-- what the code doesn't give isn't there after it, unless it was before
abbrev pub AddsOnly : Temps → Assignments → Temps → Type 0
AddsOnly g assignments after = (t : ℕ) → assignments t ≡ Nowhere → g t ≡ None → after t ≡ None

-- code of two parts gives what they give
abbrev pub Splits : (whole first rest : Assignments) → Type 0
Splits whole first rest = (t : ℕ) → whole t ≡ Nowhere → (first t ≡ Nowhere) × (rest t ≡ Nowhere)

module _ (table : ℕ → Assigned) (constants : ℕ → Option Constant) (source : ℕ → ℕ) (used holds_word : ℕ → Bool) where
  abbrev pub At : TempSet → Temps → Temps → Temps → Type 0
  At = TempsAgree table constants source used holds_word

  -- what is assigned in one place isn't there yet
  abbrev pub NotYet : Temps → Assignments → Type 0
  NotYet g assignments = (t : ℕ) → is_once (table t) ≡ true → (assignments t ≡ Nowhere) ⊎ (g t ≡ None)

  pub record Lands (live : TempSet) (g : Temps) (assignments : Assignments) (a b : Temps) : Type 0 where
    pub after : Temps
    pub agree : At live after a b
    pub adds : AddsOnly g assignments after

  abbrev pub ExitLands : Lives → Temps → Assignments → Exit → Temps → Temps → Type 0
  ExitLands lives g assignments Next a b = Lands lives.following g assignments a b
  ExitLands lives g assignments Break a b = Lands lives.broken g assignments a b
  ExitLands lives g assignments Continue a b = Lands lives.continued g assignments a b
  ExitLands lives g assignments (Return v) a b = Unit {0}

  -- the run ends so, up to the line
  pub record Ends (end : RunEnd) (s : State) (p : Piece (Left Temps)) : Type 0 where
    pub other : RunEnd
    pub is : p ≡ Stopped other s
    pub same : without_line end ≡ without_line other

  -- control leaves so
  pub record Leaves (lives : Lives) (g : Temps) (assignments : Assignments) (exit : Exit) (a : Temps) (s : State)
      (p : Piece (Left Temps)) : Type 0 where
    pub temps : Temps
    pub is : p ≡ Reached (record { exit = exit; carried = temps }) s
    pub lands : ExitLands lives g assignments exit a temps

  abbrev pub Related : Lives → Temps → Assignments → Piece (Left Temps) → Piece (Left Temps) → Type 0
  Related lives g assignments (Reached l s) p = Leaves lives g assignments l.exit l.carried s p
  Related lives g assignments (Stopped end s) p = Ends end s p

  pub along : (lives : Lives) (g : Temps) (assignments : Assignments) (o p q : Piece (Left Temps)) → q ≡ p →
      Related lives g assignments o p → Related lives g assignments o q
  along lives g assignments o p q e m = subst (Related lives g assignments o) (sym e) m

  pub ends_then : (end : RunEnd) (s : State) (p : Piece (Left Temps)) (h : Left Temps → State → Piece (Left Temps)) →
      Ends end s p → Ends end s (and_then p h)
  ends_then end s p h m = record { other = m.other; is = ap (λ x. and_then x h) m.is; same = m.same }

  -- more was assigned before
  lands_after : (live : TempSet) (g g' : Temps) (c c1 c2 : Assignments) (a b : Temps) → Splits c c1 c2 →
      AddsOnly g c1 g' →
      Lands live g' c2 a b → Lands live g c a b
  lands_after live g g' c c1 c2 a b split adds l = record {
    after = l.after;
    agree = l.agree;
    adds = λ t n e. l.adds t (split t n).1 (adds t (split t n).0 e);
  }

  exit_after : (lives : Lives) (g g' : Temps) (c c1 c2 : Assignments) (exit : Exit) (a b : Temps) → Splits c c1 c2 →
      AddsOnly g c1 g' → ExitLands lives g' c2 exit a b → ExitLands lives g c exit a b
  exit_after lives g g' c c1 c2 Next a b split adds l = lands_after lives.following g g' c c1 c2 a b split adds l
  exit_after lives g g' c c1 c2 Break a b split adds l = lands_after lives.broken g g' c c1 c2 a b split adds l
  exit_after lives g g' c c1 c2 Continue a b split adds l = lands_after lives.continued g g' c c1 c2 a b split adds l
  exit_after lives g g' c c1 c2 (Return v) a b split adds l = tt

  pub related_after : (lives : Lives) (g g' : Temps) (c c1 c2 : Assignments) (o p : Piece (Left Temps)) →
      Splits c c1 c2 →
      AddsOnly g c1 g' → Related lives g' c2 o p → Related lives g c o p
  related_after lives g g' c c1 c2 (Reached l s) p split adds m = record {
    temps = m.temps;
    is = m.is;
    lands = exit_after lives g g' c c1 c2 l.exit l.carried m.temps split adds m.lands;
  }
  related_after lives g g' c c1 c2 (Stopped end s) p split adds m = m

  -- a piece of code gives less than all of it
  pub related_within : (lives : Lives) (g : Temps) (c c1 : Assignments) (o p : Piece (Left Temps)) →
      ((t : ℕ) → c t ≡ Nowhere → c1 t ≡ Nowhere) → Related lives g c1 o p → Related lives g c o p
  related_within lives g c c1 o p fewer m =
      related_after lives g g c c1 c1 o p (λ t n. (fewer t n, fewer t n)) (λ t n e. e) m

  -- STATEMENTS IN ORDER
  module _ (lives : Lives) (live : TempSet) (g : Temps) (c c1 c2 : Assignments) (split : Splits c c1 c2) (f h : Codes)
      (rest : (g' a b : Temps) (s : State) → At live g' a b → AddsOnly g c1 g' → Related lives g' c2 (f a s)
      (h b s)) where
    out : (at : TempSet) (a b : Temps) → Lands at g c1 a b → Lands at g c a b
    out at a b l = record { after = l.after; agree = l.agree; adds = λ t n. l.adds t (split t n).0 }

    taken : (exit : Exit) (a b : Temps) (s : State) → ExitLands (record lives { following = live }) g c1 exit a b →
        Related lives g c (take (in_order exit) f a s) (take (in_order exit) h b s)
    taken Next a b s l =
        related_after lives g l.after c c1 c2 (f a s) (h b s) split l.adds (rest l.after a b s l.agree l.adds)
    taken Break a b s l = record { temps = b; is = refl; lands = out lives.broken a b l }
    taken Continue a b s l = record { temps = b; is = refl; lands = out lives.continued a b l }
    taken (Return v) a b s l = record { temps = b; is = refl; lands = tt }

    pub in_row : (o p : Piece (Left Temps)) → Related (record lives { following = live }) g c1 o p →
        Related lives g c (follow in_order o f) (follow in_order p h)
    in_row (Reached l s) p m = along lives g c (take (in_order l.exit) f l.carried s) (take (in_order l.exit) h m.temps
        s) (follow in_order p h) (ap (λ x. follow in_order x h) m.is) (taken l.exit l.carried m.temps s m.lands)
    in_row (Stopped end s) p m = ends_then end s p (λ l s. take (in_order l.exit) h l.carried s) m

  -- A LOOP
  module _ (lives : Lives) (g : Temps) (c : Assignments) where
    abbrev part : Lives
    part = part_lives lives nothing

    module _ (c1 : Assignments) (fewer : (t : ℕ) → c t ≡ Nowhere → c1 t ≡ Nowhere) (f h : Codes)
        (rest : (a b : Temps) (s : State) → Related lives g c (f a s) (h b s)) where
      following : (a b : Temps) → Lands lives.following no_temps c1 a b → Lands lives.following g c a b
      following a b l =
          record { after = l.after; agree = l.agree; adds = λ t n e. l.adds t (fewer t n) refl }

      looped : (exit : Exit) (a b : Temps) (s : State) → ExitLands part no_temps c1 exit a b →
          Related lives g c (take (in_loop exit) f a s) (take (in_loop exit) h b s)
      looped Next a b s l = rest a b s
      looped Break a b s l = record { temps = b; is = refl; lands = following a b l }
      looped Continue a b s l = rest a b s
      looped (Return v) a b s l = record { temps = b; is = refl; lands = tt }

      in_part : (o p : Piece (Left Temps)) → Related part no_temps c1 o p →
          Related lives g c (follow in_loop o f) (follow in_loop p h)
      in_part (Reached l s) p m = along lives g c (take (in_loop l.exit) f l.carried s) (take (in_loop l.exit) h m.temps
          s) (follow in_loop p h) (ap (λ x. follow in_loop x h) m.is) (looped l.exit l.carried m.temps s m.lands)
      in_part (Stopped end s) p m = ends_then end s p (λ l s. take (in_loop l.exit) h l.carried s) m

    turned : (n : ℕ) (s : State) (f h : State → Piece (Left Temps)) → ((s : State) → Related lives g c (f s) (h s)) →
        Related lives g c (and_then (turn_of n s) (λ _ s. f s)) (and_then (turn_of n s) (λ _ s. h s))
    turned zero s f h k = record { other = _; is = refl; same = refl }
    turned (suc n) s f h k = k (record s { turns = n })

    abbrev PartKept : Assignments → Codes → Codes → Type 0
    PartKept c1 f h = (a b : Temps) (s : State) → Related part no_temps c1 (f a s) (h b s)

    module _ (c1 c2 c3 : Assignments) (w1 : (t : ℕ) → c t ≡ Nowhere → c1 t ≡ Nowhere)
        (w2 : (t : ℕ) → c t ≡ Nowhere → c2 t ≡ Nowhere) (w3 : (t : ℕ) → c t ≡ Nowhere → c3 t ≡ Nowhere)
        (head body next head' body' next' : Codes) (h : PartKept c1 head head') (b : PartKept c2 body body')
        (x : PartKept c3 next next') where
      pub rounds_related : (n : ℕ) (r q : Temps) (s : State) →
          Related lives g c (rounds n head body next r s) (rounds n head' body' next' q s)
      rounds_related zero r q s = record { other = _; is = refl; same = refl }
      rounds_related (suc n) r q s =
          in_part c1 w1 (λ a s. and_then (turn s) (λ _ s. follow in_loop (body a s)
          (λ a s. follow in_loop (next a s) (rounds n head body next)))) (λ a s. and_then (turn s) (λ _ s. follow
          in_loop (body' a s) (λ a s. follow in_loop (next' a s) (rounds n head' body' next')))) (λ r q s.
          turned s.turns s (λ s. follow in_loop (body r s) (λ a s. follow in_loop (next a s) (rounds n head body next)))
          (λ s. follow in_loop (body' q s) (λ a s. follow in_loop (next' a s) (rounds n head' body' next'))) (λ s.
          in_part c2 w2 (λ a s. follow in_loop (next a s) (rounds n head body next))
          (λ a s. follow in_loop (next' a s) (rounds n head' body' next')) (λ r q s.
          in_part c3 w3 (rounds n head body next) (rounds n head' body' next') (rounds_related n) (next r s) (next' q s)
          (x r q s)) (body r s) (body' q s) (b r q s))) (head r s) (head' q s) (h r q s)

  -- as a record, so that what it is of is found
  pub record Follows (lives : Lives) (g : Temps) (assignments : Assignments) (o p : Piece (Left Temps)) : Type 0 where
    pub related : Related lives g assignments o p

  pub follows_along : {lives : Lives} {g : Temps} {assignments : Assignments} {o p q : Piece (Left Temps)} → q ≡ p →
      Follows lives g assignments o p → Follows lives g assignments o q
  follows_along {lives} {g} {assignments} {o} e m = subst (Follows lives g assignments o) (sym e) m

  pub across : {lives : Lives} {g : Temps} {assignments : Assignments} {o o' p p' : Piece (Left Temps)} → o ≡ o' →
      p ≡ p' →
      Follows lives g assignments o' p' → Follows lives g assignments o p
  across {lives} {g} {assignments} {o} {o'} {p} {p'} e f m = subst (λ x. Follows lives g assignments x p) (sym e)
      (subst (Follows lives g assignments o') (sym f) m)

  pub follows_within : (lives : Lives) (g : Temps) (c c1 : Assignments) (o p : Piece (Left Temps)) →
      ((t : ℕ) → c t ≡ Nowhere → c1 t ≡ Nowhere) → Follows lives g c1 o p → Follows lives g c o p
  follows_within lives g c c1 o p fewer m = record { related = related_within lives g c c1 o p fewer m.related }

  pub follows_row : (lives : Lives) (live : TempSet) (g : Temps) (c c1 c2 : Assignments) → Splits c c1 c2 →
      (f h : Codes) →
      ((g' a b : Temps) (s : State) → At live g' a b → AddsOnly g c1 g' → Follows lives g' c2 (f a s) (h b s)) →
      (o p : Piece (Left Temps)) → Follows (record lives { following = live }) g c1 o p →
      Follows lives g c (follow in_order o f) (follow in_order p h)
  follows_row lives live g c c1 c2 split f h rest o p m = record {
    related = in_row lives live g c c1 c2 split f h (λ g' a b s at adds. (rest g' a b s at adds).related) o p
        m.related;
  }

  pub follows_rounds : (lives : Lives) (g : Temps) (c c1 c2 c3 : Assignments) → ((t : ℕ) → c t ≡ Nowhere →
      c1 t ≡ Nowhere) →
      ((t : ℕ) → c t ≡ Nowhere → c2 t ≡ Nowhere) → ((t : ℕ) → c t ≡ Nowhere → c3 t ≡ Nowhere) →
      (head body next head' body' next' : Codes) →
      ((a b : Temps) (s : State) → Follows (part_lives lives nothing) no_temps c1 (head a s) (head' b s)) →
      ((a b : Temps) (s : State) → Follows (part_lives lives nothing) no_temps c2 (body a s) (body' b s)) →
      ((a b : Temps) (s : State) → Follows (part_lives lives nothing) no_temps c3 (next a s) (next' b s)) →
      (n : ℕ) (r q : Temps) (s : State) →
      Follows lives g c (rounds n head body next r s) (rounds n head' body' next' q s)
  follows_rounds lives g c c1 c2 c3 w1 w2 w3 head body next head' body' next' h b x n r q s = record {
    related = rounds_related lives g c c1 c2 c3 w1 w2 w3 head body next head' body' next'
        (λ a b s. (h a b s).related) (λ a q s. (b a q s).related) (λ a b s. (x a b s).related) n r q s;
  }
