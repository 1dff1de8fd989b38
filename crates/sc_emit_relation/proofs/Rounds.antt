-- A round of a loop after its head: the turn, the body, and what comes next.
use Rattle.sc_emit_relation.proofs.Common.{All, All-tail, Arrives, Bool, Break, Codes, Comes, Continue, Does, Ends}
use Rattle.sc_emit_relation.proofs.Common.{Exit, ExitGives, Follows, Gives, Goes, IsClear, Joint, Leads, Left, List}
use Rattle.sc_emit_relation.proofs.Common.{Lives, Next, Overflows, Piece, Place, Point, Reached, Ready, Return, Running}
use Rattle.sc_emit_relation.proofs.Common.{TempSet, Setting, Settled, Standpoint, StandsAt, Starts, Stopped, Temps}
use Rattle.sc_emit_relation.proofs.Common.{Trail}
use Rattle.sc_emit_relation.proofs.Common.{[], ahead_at, and_then, ap, arith, ends_of, false, follow, follow_goes}
use Rattle.sc_emit_relation.proofs.Common.{in_body, in_head, in_loop, in_next, inl, inr, live_at_start, live_before}
use Rattle.sc_emit_relation.proofs.Common.{loop_points, no_turn, part_ahead, point, readings, refl, rounds, row}
use Rattle.sc_emit_relation.proofs.Common.{row_first, row_points, seen_from, stays, subst, suc, sym, take, then_from}
use Rattle.sc_emit_relation.proofs.Common.{then_goes, true, turn, turn_goes, turn_of, zero, ℕ, ⊎_elim, ◌*◌, ◌++◌, ◌+◌}
use Rattle.sc_emit_relation.proofs.Common.{◌∙◌, ◌∷◌, ◌≡◌, ◌≤◌}
use Rattle.sc_emit_select.specs.Prelude.{Piece as Code}
use Rattle.sc_emit_relation.proofs.Clear.{all_back, all_prefix}
use Rattle.sc_emit_relation.proofs.Stretches.{arrives_with, comes_after, overflows_with, emits_after, emits_here}
use Rattle.sc_emit_relation.proofs.Wanted.{wanted_less}

-- a second round adds nothing, whatever the round is
twice_by : (f : Bool → Bool) (b : Bool) → f false ≡ b → f b ≡ true → b ≡ true
twice_by f true e h = refl
twice_by f false e h = sym e ∙ h

-- what the head needs is live where the loop starts
pub head_live : (hs bs ns : List Trail) (lives : Lives) (t : ℕ) →
    live_before hs (in_head hs bs ns lives) t ≡ true → live_at_start hs bs ns lives t ≡ true
head_live hs bs ns lives t h = twice_by round (round false) refl h
  where
    round : Bool → Bool
    round x =
        row_first (readings t hs) (part_ahead (ahead_at lives t)
        (row_first (readings t bs) (part_ahead (ahead_at lives t)
        (row_first (readings t ns) (part_ahead (ahead_at lives t) x)))))

module _ {A : Type 0} (head body next : Does A) where
  -- the meaning's rest of a round: what comes next, and all after the head
  abbrev rest : ℕ → Does A
  rest k a s = follow in_loop (next a s) (rounds k head body next)

  abbrev pub past_head : ℕ → Does A
  past_head k a s = and_then (turn s) (λ u s. follow in_loop (body a s) (rest k))

  module _ (H : (a : A) → Goes (head a)) (B : (a : A) → Goes (body a)) (N : (a : A) → Goes (next a)) where
    rest_by : (k : ℕ) → ((a : A) → Goes (rounds k head body next a)) → (a : A) → Goes (rest k a)
    rest_by k more a s = follow_goes in_loop s (next a s) (rounds k head body next) (N a s) more

    after_by : (k : ℕ) → ((a : A) → Goes (rounds k head body next a)) → (a : A) → Goes (past_head k a)
    after_by k more a s =
        then_goes s (turn s) (λ u s. follow in_loop (body a s) (rest k)) (turn_goes s)
        (λ u s. follow_goes in_loop s (body a s) (rest k) (B a s) (rest_by k more))

    pub rounds_goes : (k : ℕ) (a : A) → Goes (rounds k head body next a)
    rounds_goes zero a s = no_turn s
    rounds_goes (suc k) a s =
        follow_goes in_loop s (head a s) (past_head k) (H a s) (after_by k (rounds_goes k))

    rest_goes : (k : ℕ) (a : A) → Goes (rest k a)
    rest_goes k = rest_by k (rounds_goes k)

    after_goes : (k : ℕ) (a : A) → Goes (past_head k a)
    after_goes k = after_by k (rounds_goes k)

module _ (T : Setting) (R : Running) where
  -- less is live
  pub ready_less : (live less : TempSet) (temps : Temps) (x : Joint) → ((t : ℕ) → less t ≡ true → live t ≡ true) →
      Ready T R live temps x → Ready T R less temps x
  ready_less live less temps x fewer ready = record {
    settled = ready.settled;
    frame = ready.frame;
    held = λ t v on. ready.held t v (wanted_less R.plan.needed less live fewer t on);
    sp = ready.sp;
  }

  -- the code of a round after its head, in a loop with these ends: the body, and after it what comes next, from which a
  -- break leads over `body_break` and `next_break` lines; and the budget that is left where the turn is taken, and
  -- after what comes next
  pub record Round (b n : Code) (ends : Ends) : Type 0 where
    pub body_pc : ℕ
    pub body_break : ℕ
    pub next_break : ℕ
    pub of_body : StandsAt T R body_pc b body_break 0
    pub of_next : StandsAt T R (body_pc + 4 * b.size) n next_break 0
    pub body_breaks : body_pc + 4 * (b.size + body_break) ≡ ends.following
    pub next_breaks : body_pc + 4 * b.size + 4 * (n.size + next_break) ≡ ends.following
    pub fits : ends.following ≤ R.last
    pub turn_left : ℕ
    pub round_left : ℕ
    pub pays : b.size + (n.size + round_left) ≤ turn_left + T.turn_pays
    pub enough : ends.left ≤ round_left

-- the points in a loop's parts are clear where all of it are
module _ (places : List Place) (hs bs ns : List Trail) (lives : Lives)
    (clear : All (IsClear places) (loop_points hs bs ns lives)) where
  abbrev start : Point
  start = point false (live_at_start hs bs ns lives)

  abbrev head_points : List Point
  head_points = row_points hs (in_head hs bs ns lives)

  abbrev body_points : List Point
  body_points = row_points bs (in_body hs bs ns lives)

  abbrev next_points : List Point
  next_points = row_points ns (in_next hs bs ns lives)

  clear_all : All (IsClear places) (head_points ++ (body_points ++ (next_points ++ start ∷ [])))
  clear_all =
      All-tail (IsClear places) start (head_points ++ (body_points ++ (next_points ++ start ∷ []))) clear

  pub clear_head : All (IsClear places) head_points
  clear_head = all_prefix (IsClear places) head_points (body_points ++ (next_points ++ start ∷ [])) clear_all

  clear_after : All (IsClear places) (body_points ++ (next_points ++ start ∷ []))
  clear_after = all_back (IsClear places) head_points (body_points ++ (next_points ++ start ∷ [])) clear_all

  clear_body : All (IsClear places) body_points
  clear_body = all_prefix (IsClear places) body_points (next_points ++ start ∷ []) clear_after

  clear_next : All (IsClear places) next_points
  clear_next =
      all_prefix (IsClear places) next_points (start ∷ [])
      (all_back (IsClear places) body_points (next_points ++ start ∷ []) clear_after)

module _ (T : Setting) (R : Running) (head body next : Codes) (b n : Code) (hs bs ns : List Trail)
    (H : (temps : Temps) → Goes (head temps)) (B : Follows T R body b (row bs)) (N : Follows T R next n (row ns))
    (lives : Lives) (clear : All (IsClear R.places) (loop_points hs bs ns lives)) where
  abbrev P : Standpoint
  P = seen_from R.activation

  abbrev begin : TempSet
  begin = live_at_start hs bs ns lives

  module _ (ends : Ends) where
    abbrev Goal : Joint → ℕ → Piece (Left Temps) → Type 0
    Goal x budget piece = Comes T R lives x budget ends piece

    -- an overflow in a part is one of the whole
    overflow_in : (x : Joint) (budget : ℕ) (piece : Piece (Left Temps)) (go : Codes) →
        ((temps : Temps) → Goes (go temps)) → Overflows T P x budget piece → Goal x budget (follow in_loop piece go)
    overflow_in x budget piece go goes o =
        inr (overflows_with T P x budget budget piece (follow in_loop piece go) (omega arith)
        (then_from piece (λ l. take (in_loop l.exit) go l.carried) (λ l. taken l.exit l.carried)) o)
      where
        taken : (exit : Exit) (temps : Temps) → Goes (take (in_loop exit) go temps)
        taken Next temps = goes temps
        taken Break temps = stays (record { exit = Next; carried = temps })
        taken Continue temps = goes temps
        taken (Return v) temps = stays (record { exit = Return v; carried = temps })

    -- one in the head
    pub head_overflows : (k : ℕ) (x : Joint) (budget : ℕ) (piece : Piece (Left Temps)) →
        Overflows T P x budget piece → Goal x budget (follow in_loop piece (past_head head body next k))
    head_overflows k x budget piece o =
        overflow_in x budget piece (past_head head body next k)
        (after_goes head body next H B.goes N.goes k) o

    module _ (round : Round T R b n ends) where
      abbrev next_pc : ℕ
      next_pc = round.body_pc + 4 * b.size

      abbrev next_budget : ℕ
      next_budget = n.size + round.round_left

      abbrev body_budget : ℕ
      body_budget = b.size + next_budget

      -- what comes of `k` more rounds, where the code has come past what comes next
      abbrev pub Again : ℕ → Type 0
      Again k = (temps : Temps) (x : Joint) → Ready T R begin temps x → x.pc ≡ next_pc + 4 * n.size →
          Goal x round.round_left (rounds k head body next temps x.meant)

      abbrev next_ends : Ends
      next_ends = record {
        left = round.round_left;
        following = next_pc + 4 * n.size;
        broken = ends.following;
        continued = next_pc + 4 * n.size;
      }

      after_next : (k : ℕ) → Again k → (z : Joint) → Settled T P z → (piece : Piece (Left Temps)) →
          Gives T R (in_next hs bs ns lives) z next_budget next_ends piece →
          Goal z next_budget (follow in_loop piece (rounds k head body next))
      after_next k more z settled (Stopped end s) g = inl g
      after_next k more z settled (Reached l s) g = by l.exit g
        where
          on : Arrives T R begin z next_budget round.round_left l.carried s (next_pc + 4 * n.size) →
              Goal z next_budget (rounds k head body next l.carried s)
          on g =
              subst (λ s. Goal z next_budget (rounds k head body next l.carried s)) g.meant_is
              (comes_after T R lives z g.y next_budget round.round_left ends
              (rounds k head body next l.carried g.y.meant) settled g.leads (more l.carried g.y g.ready g.pc_is))

          by : (exit : Exit) → ExitGives T R (in_next hs bs ns lives) z next_budget next_ends exit l.carried s →
              Goal z next_budget (take (in_loop exit) (rounds k head body next) l.carried s)
          by Next g = on g
          by Continue g = on g
          by Break g =
              inl (arrives_with T R lives.following z next_budget next_budget round.round_left ends.left l.carried s
              ends.following ends.following (omega arith) round.enough refl g)
          by (Return v) g = inl g

      nexts : (k : ℕ) → Again k → (temps : Temps) (z : Joint) →
          Ready T R (live_before ns (in_next hs bs ns lives)) temps z → z.pc ≡ next_pc →
          Goal z next_budget (rest head body next k temps z.meant)
      nexts k more temps z ready place =
          let e : ends_of n z.pc round.round_left round.next_break 0 ≡ next_ends =
          (let e1 : z.pc + 4 * n.size ≡ next_pc + 4 * n.size = ap (λ pc. pc + 4 * n.size) place in
          let e2 : z.pc + 4 * (n.size + round.next_break) ≡ ends.following =
          ap (λ pc. pc + 4 * (n.size + round.next_break)) place ∙ round.next_breaks in
          let e3 : z.pc + 4 * (n.size + 0) ≡ next_pc + 4 * n.size = omega (arith, place) in rw (e1, e2, e3) refl) in
          let starts : Starts T R n (row ns) (in_next hs bs ns lives) temps z round.next_break 0 = record {
            ready = ready;
            clear = clear_next R.places hs bs ns lives clear;
            stands = subst (λ pc. StandsAt T R pc n round.next_break 0) (sym place) round.of_next;
            breaks = omega (arith, place, round.next_breaks, round.fits);
            continues = omega (arith, place, round.next_breaks, round.fits);
          } in
          ⊎_elim
          (λ g. after_next k more z ready.settled (next temps z.meant)
          (subst (λ ends. Gives T R (in_next hs bs ns lives) z next_budget ends (next temps z.meant)) e g))
          (λ o. overflow_in z next_budget (next temps z.meant) (rounds k head body next)
          (rounds_goes head body next H B.goes N.goes k) o)
          (N.runs (in_next hs bs ns lives) temps z round.round_left round.next_break 0 starts)

      abbrev body_ends : Ends
      body_ends =
          record { left = next_budget; following = next_pc; broken = ends.following; continued = next_pc }

      after_body : (k : ℕ) → Again k → (z : Joint) → Settled T P z → (piece : Piece (Left Temps)) →
          Gives T R (in_body hs bs ns lives) z body_budget body_ends piece →
          Goal z body_budget (follow in_loop piece (rest head body next k))
      after_body k more z settled (Stopped end s) g = inl g
      after_body k more z settled (Reached l s) g = by l.exit g
        where
          on : Arrives T R (live_before ns (in_next hs bs ns lives)) z body_budget next_budget l.carried s next_pc →
              Goal z body_budget (rest head body next k l.carried s)
          on g =
              subst (λ s. Goal z body_budget (rest head body next k l.carried s)) g.meant_is
              (comes_after T R lives z g.y body_budget next_budget ends
              (rest head body next k l.carried g.y.meant) settled g.leads
              (nexts k more l.carried g.y g.ready g.pc_is))

          by : (exit : Exit) → ExitGives T R (in_body hs bs ns lives) z body_budget body_ends exit l.carried s →
              Goal z body_budget (take (in_loop exit) (rest head body next k) l.carried s)
          by Next g = on g
          by Continue g = on g
          by Break g =
              inl (arrives_with T R lives.following z body_budget body_budget next_budget ends.left l.carried s
              ends.following ends.following (omega arith) (omega (arith, round.enough)) refl g)
          by (Return v) g = inl g

      bodies : (k : ℕ) → Again k → (temps : Temps) (z : Joint) →
          Ready T R (live_before bs (in_body hs bs ns lives)) temps z → z.pc ≡ round.body_pc →
          Goal z body_budget (follow in_loop (body temps z.meant) (rest head body next k))
      bodies k more temps z ready place =
          let e : ends_of b z.pc next_budget round.body_break 0 ≡ body_ends =
          (let e1 : z.pc + 4 * b.size ≡ next_pc = ap (λ pc. pc + 4 * b.size) place in
          let e2 : z.pc + 4 * (b.size + round.body_break) ≡ ends.following =
          ap (λ pc. pc + 4 * (b.size + round.body_break)) place ∙ round.body_breaks in
          let e3 : z.pc + 4 * (b.size + 0) ≡ next_pc = omega (arith, place) in rw (e1, e2, e3) refl) in
          let starts : Starts T R b (row bs) (in_body hs bs ns lives) temps z round.body_break 0 = record {
            ready = ready;
            clear = clear_body R.places hs bs ns lives clear;
            stands = subst (λ pc. StandsAt T R pc b round.body_break 0) (sym place) round.of_body;
            breaks = omega (arith, place, round.body_breaks, round.fits);
            continues = omega (arith, place, round.body_breaks, round.fits);
          } in
          ⊎_elim
          (λ g. after_body k more z ready.settled (body temps z.meant)
          (subst (λ ends. Gives T R (in_body hs bs ns lives) z body_budget ends (body temps z.meant)) e g))
          (λ o. overflow_in z body_budget (body temps z.meant) (rest head body next k)
          (rest_goes head body next H B.goes N.goes k) o)
          (B.runs (in_body hs bs ns lives) temps z next_budget round.body_break 0 starts)

      turned_by : (k : ℕ) → Again k → (temps : Temps) (x y : Joint) (budget : ℕ) → Settled T P x →
          (l : Leads T P x y budget round.turn_left) → suc x.meant.turns ≤ y.meant.turns + l.steps →
          Ready T R (live_before bs (in_body hs bs ns lives)) temps y → y.pc ≡ round.body_pc → (m : ℕ) →
          y.meant.turns ≡ m →
          Goal x budget (and_then (turn_of m y.meant) (λ u s. follow in_loop (body temps s) (rest head body next k)))
      turned_by k more temps x y budget settled l spare ready place zero e =
          inl (emits_after T P x y budget round.turn_left y.meant l (emits_here T P y round.turn_left))
      turned_by k more temps x y budget settled l spare ready place (suc m) e =
          let z : Joint = record y { meant = record y.meant { turns = m } } in
          let product : T.turn_pays * y.meant.turns ≡ T.turn_pays + T.turn_pays * m =
          ap (λ t. T.turn_pays * t) e ∙ omega arith in
          let leads : Leads T P x z budget body_budget = record {
            steps = l.steps;
            run = l.run;
            costs = record {
              least = omega (arith, e, spare);
              most = λ all. omega (arith, l.costs.most all, product, round.pays);
            };
            effect = record {
              grows = l.effect.grows;
              lived = l.effect.lived;
              keeps = l.effect.keeps;
              depths = l.effect.depths;
            };
          } in
          let there : Ready T R (live_before bs (in_body hs bs ns lives)) temps z = record {
            settled = record {
              blocks = ready.settled.blocks;
              globals = ready.settled.globals;
              saved = ready.settled.saved;
              zones = ready.settled.zones;
              inputs = ready.settled.inputs;
              steady = ready.settled.steady;
              came = ready.settled.came;
              depth = ready.settled.depth;
              timed = ready.settled.timed;
            };
            frame = ready.frame;
            held = ready.held;
            sp = ready.sp;
          } in
          comes_after T R lives x z budget body_budget ends
          (follow in_loop (body temps z.meant) (rest head body next k)) settled leads
          (bodies k more temps z there place)

      -- the turn: what it pays comes in, and it has a step to itself before it
      pub turned : (k : ℕ) → Again k → (temps : Temps) (x y : Joint) (budget : ℕ) → Settled T P x →
          (l : Leads T P x y budget round.turn_left) → suc x.meant.turns ≤ y.meant.turns + l.steps →
          Ready T R (live_before bs (in_body hs bs ns lives)) temps y → y.pc ≡ round.body_pc →
          Goal x budget (past_head head body next k temps y.meant)
      turned k more temps x y budget settled l spare ready place =
          turned_by k more temps x y budget settled l spare ready place y.meant.turns refl
