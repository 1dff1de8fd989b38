-- What is live or assigned at a point of a function's code is a temporary of the function.
use Rattle.sc_tac.proofs.Common.{Ahead, Bool, Each, List, Lives, None, Option, Point, TempSet, Some, TacStmt, TacStmt-F}
use Rattle.sc_tac.proofs.Common.{Trail, [], ahead_at, eqb-true, everywhere, false, fold-TacStmt, fold-roll-TacStmt}
use Rattle.sc_tac.proofs.Common.{if_calls, in_body, in_head, in_next, is_one, is_used, list_all, live_across}
use Rattle.sc_tac.proofs.Common.{live_at_start, live_before, loop_points, ltb-true, map, map-TacStmt, names_own_temps}
use Rattle.sc_tac.proofs.Common.{nat_lt, not, nothing_live, one_or_none, or_cases, part_ahead, part_lives, plain}
use Rattle.sc_tac.proofs.Common.{plain_points, point, points, readings, refl, round_first, row_first, row_points, subst}
use Rattle.sc_tac.proofs.Common.{sym, trail, trail_step, true, with_parts, ℕ, ⊎_elim, ◌&&◌, ◌++◌, ◌<◌, ◌==◌, ◌∙◌, ◌∷◌}
use Rattle.sc_tac.proofs.Common.{◌≡◌}
use Rattle.sc_base.proofs.Bools.{and_first, and_rest}
use Rattle.sc_tac.specs.declared.stmt.TacStmt.TheOpen as tac
use Rattle.sc_tac.proofs.Induction.{Inside, stmt_induction}

module _ (temps : ℕ) where
  abbrev Own : TempSet → Type 0
  Own set = (t : ℕ) → set t ≡ true → t < temps

  -- what is used at a point
  abbrev pub OwnPoint : Point → Type 0
  OwnPoint x = (t : ℕ) → is_used t x ≡ true → t < temps

  record OwnAhead (t : ℕ) (ahead : Ahead) : Type 0 where
    following : ahead.following ≡ true → t < temps
    broken : ahead.broken ≡ true → t < temps
    continued : ahead.continued ≡ true → t < temps

  record OwnLives (lives : Lives) : Type 0 where
    following : Own lives.following
    broken : Own lives.broken
    continued : Own lives.continued

  record OwnTrail (trail : Trail) : Type 0 where
    reads : (t : ℕ) (ahead : Ahead) → OwnAhead t ahead → (trail.reading t).first ahead ≡ true → t < temps
    points : (lives : Lives) → OwnLives lives → Each OwnPoint (trail.points lives)

  own_ahead : (lives : Lives) (t : ℕ) → OwnLives lives → OwnAhead t (ahead_at lives t)
  own_ahead lives t own = record { following = own.following t; broken = own.broken t; continued = own.continued t }

  both : (xs ys : List Point) → Each OwnPoint xs → Each OwnPoint ys → Each OwnPoint (xs ++ ys)
  both [] ys a b = b
  both (x ∷ xs) ys a b = (a.0, both xs ys a.1 b)

  -- statements in order
  row_reads : (t : ℕ) (trails : List Trail) (ahead : Ahead) → Each OwnTrail trails → OwnAhead t ahead →
      row_first (readings t trails) ahead ≡ true → t < temps
  row_reads t [] ahead each own is = own.following is
  row_reads t (trail ∷ trails) ahead each own is =
      each.0.reads t (record ahead { following = row_first (readings t trails) ahead })
      (record { following = row_reads t trails ahead each.1 own; broken = own.broken; continued = own.continued }) is

  row_live : (trails : List Trail) (lives : Lives) → Each OwnTrail trails → OwnLives lives →
      Own (live_before trails lives)
  row_live trails lives each own t is = row_reads t trails (ahead_at lives t) each (own_ahead lives t own) is

  row_own : (trails : List Trail) (lives : Lives) → Each OwnTrail trails → OwnLives lives →
      Each OwnPoint (row_points trails lives)
  row_own [] lives each own = tt
  row_own (trail ∷ trails) lives each own =
      both (trail.points (record lives { following = live_before trails lives })) (row_points trails lives)
      (each.0.points (record lives { following = live_before trails lives })
      (record { following = row_live trails lives each.1 own; broken = own.broken; continued = own.continued }))
      (row_own trails lives each.1 own)

  -- a statement without others inside
  among : (t : ℕ) (ts : List ℕ) → list_all (λ t. nat_lt t temps) ts ≡ true → is_one t ts ≡ true → t < temps
  among t [] all is = absurd (cc is)
  among t (u ∷ us) all is = ⊎_elim
      (λ here. subst (λ t. t < temps) (eqb-true u t here) (ltb-true u temps (and_first (nat_lt u temps) _ all)))
      (λ there. among t us (and_rest (nat_lt u temps) _ all) there)
      (or_cases (u == t) (is_one t us) is)

  split : (xs ys : List ℕ) → list_all (λ t. nat_lt t temps) (xs ++ ys) ≡ true →
      (list_all (λ t. nat_lt t temps) xs ≡ true) × (list_all (λ t. nat_lt t temps) ys ≡ true)
  split [] ys all = (refl, all)
  split (x ∷ xs) ys all =
      (let rest = split xs ys (and_rest (nat_lt x temps) _ all) in
      (rw (and_first (nat_lt x temps) _ all) rest.0, rest.1))

  module _ (reads : List ℕ) (calls : Bool) (assigned : Option ℕ)
      (all : list_all (λ t. nat_lt t temps) (one_or_none assigned ++ reads) ≡ true) where
    across_own : (lives : Lives) → OwnLives lives → Own (live_across reads calls assigned lives)
    across_own lives own t is = own.following t
        (and_rest (not (is_one t (one_or_none assigned))) (lives.following t) is)

    called : (b : Bool) (live : TempSet) → Own live → Each OwnPoint (if_calls b (point true live))
    called true live own = (own, tt)
    called false live own = tt

    plain_own : OwnTrail (record { reading = λ t. plain t reads assigned; points = plain_points reads calls assigned })
    plain_own = record {
      reads = λ t ahead own is. ⊎_elim
          (among t reads (split (one_or_none assigned) reads all).1)
          (λ later. own.following (and_rest (not (is_one t (one_or_none assigned))) ahead.following later))
          (or_cases (is_one t reads) (not (is_one t (one_or_none assigned)) && ahead.following) is);
      points = λ lives own. (
        (λ t is. ⊎_elim
            (among t reads (split (one_or_none assigned) reads all).1)
            (across_own lives own t)
            (or_cases (is_one t reads) (live_across reads calls assigned lives t) is)),
        both (if_calls calls (point true (live_across reads calls assigned lives))) _
            (called calls (live_across reads calls assigned lives) (across_own lives own)) (
              (λ t is. ⊎_elim
                  (among t (one_or_none assigned) (split (one_or_none assigned) reads all).0)
                  (own.following t)
                  (or_cases (is_one t (one_or_none assigned)) (lives.following t) is)),
              tt,
            ),
      );
    }

  -- a loop
  part_own : (t : ℕ) (ahead : Ahead) (end : Bool) → OwnAhead t ahead → (end ≡ true → t < temps) →
      OwnAhead t (part_ahead ahead end)
  part_own t ahead end own is = record { following = is; broken = own.following; continued = is }

  lives_own : (lives : Lives) (end : TempSet) → OwnLives lives → Own end → OwnLives (part_lives lives end)
  lives_own lives end own is = record { following = is; broken = own.following; continued = is }

  module _ (head body next : List Trail)
      (h : Each OwnTrail head) (b : Each OwnTrail body) (n : Each OwnTrail next) where
    round_own : (t : ℕ) (ahead : Ahead) → OwnAhead t ahead →
        round_first (readings t head) (readings t body) (readings t next) ahead ≡ true → t < temps
    round_own t ahead own =
        (let last = row_reads t next (part_ahead ahead false) n (part_own t ahead false own (λ is. absurd (cc is))) in
        let middle = row_reads t body (part_ahead ahead (row_first (readings t next) (part_ahead ahead false))) b
        (part_own t ahead _ own last) in
        row_reads t head
        (part_ahead ahead (row_first (readings t body)
        (part_ahead ahead (row_first (readings t next) (part_ahead ahead false))))) h
        (part_own t ahead _ own middle))

    start_own : (lives : Lives) → OwnLives lives → Own (live_at_start head body next lives)
    start_own lives own t is = round_own t (ahead_at lives t) (own_ahead lives t own) is

    next_lives : (lives : Lives) → OwnLives lives → OwnLives (in_next head body next lives)
    next_lives lives own = lives_own lives (live_at_start head body next lives) own (start_own lives own)

    body_lives : (lives : Lives) → OwnLives lives → OwnLives (in_body head body next lives)
    body_lives lives own =
        lives_own lives (live_before next (in_next head body next lives)) own
        (row_live next (in_next head body next lives) n (next_lives lives own))

    head_lives : (lives : Lives) → OwnLives lives → OwnLives (in_head head body next lives)
    head_lives lives own =
        lives_own lives (live_before body (in_body head body next lives)) own
        (row_live body (in_body head body next lives) b (body_lives lives own))

    loop_own : (lives : Lives) → OwnLives lives → Each OwnPoint (loop_points head body next lives)
    loop_own lives own = (
      start_own lives own,
      both (row_points head (in_head head body next lives)) _
          (row_own head (in_head head body next lives) h (head_lives lives own))
          (both (row_points body (in_body head body next lives)) _
          (row_own body (in_body head body next lives) b (body_lives lives own))
          (both (row_points next (in_next head body next lives)) _
          (row_own next (in_next head body next lives) n (next_lives lives own))
          (start_own lives own, tt))),
    )

  -- every statement
  abbrev test : TacStmt → Bool
  test = fold-TacStmt Bool (with_parts (names_own_temps temps))

  abbrev OwnStmt : TacStmt → Type 0
  OwnStmt s = test s ≡ true → OwnTrail (trail s)

  rows : (stmts : List TacStmt) → Each OwnStmt stmts → list_all (λ holds. holds) (map test stmts) ≡ true →
      Each OwnTrail (map trail stmts)
  rows [] each all = tt
  rows (s ∷ stmts) each all =
      (each.0 (and_first (test s) _ all), rows stmts each.1 (and_rest (test s) _ all))

  layer_own : (layer : TacStmt-F TacStmt) → Inside OwnStmt layer →
      with_parts (names_own_temps temps) (map-TacStmt _ _ test layer) ≡ true →
      OwnTrail (trail_step (map-TacStmt _ _ trail layer))
  layer_own (tac.Const dest value) i h = plain_own [] false (Some dest) (and_first _ _ h)
  layer_own (tac.Copy dest from) i h = plain_own (from ∷ []) false (Some dest) (and_first _ _ h)
  layer_own (tac.Op dest op left right) i h = plain_own (left ∷ one_or_none right) false (Some dest) (and_first _ _ h)
  layer_own (tac.ObjectPlace dest object) i h = plain_own [] false (Some dest) (and_first _ _ h)
  layer_own (tac.GlobalPlace dest global) i h = plain_own [] false (Some dest) (and_first _ _ h)
  layer_own (tac.Load dest place pointer) i h = plain_own (place ∷ []) false (Some dest) (and_first _ _ h)
  layer_own (tac.Store place value) i h = plain_own (place ∷ value ∷ []) false None (and_first _ _ h)
  layer_own (tac.If cond a b) i h =
      (let own : list_all (λ t. nat_lt t temps) (cond ∷ []) ≡ true = and_first _ _ h in
      let parts = and_rest (list_all (λ t. nat_lt t temps) (cond ∷ [])) _ h in
      let first = rows a i.0 (and_first _ _ parts) in
      let second = rows b i.1 (and_first _ _ (and_rest (list_all (λ holds. holds) (map test a)) _ parts)) in
      let is_cond = λ (t : ℕ) (is : (cond == t) ≡ true). among t (cond ∷ []) own (rw is refl) in
      record {
        reads = λ t ahead from is. ⊎_elim
            (is_cond t)
            (λ later. ⊎_elim
            (row_reads t (map trail a) ahead first from)
            (row_reads t (map trail b) ahead second from)
            (or_cases (row_first (readings t (map trail a)) ahead) (row_first (readings t (map trail b)) ahead) later))
            (or_cases (cond == t) _ is);
        points = λ lives from. (
          (λ t is. ⊎_elim
              (is_cond t)
              (λ later. ⊎_elim
              (row_live (map trail a) lives first from t)
              (row_live (map trail b) lives second from t)
              (or_cases (live_before (map trail a) lives t) (live_before (map trail b) lives t) later))
              (or_cases (cond == t) _ is)),
          both (row_points (map trail a) lives) _ (row_own (map trail a) lives first from)
              (row_own (map trail b) lives second from),
        );
      })
  layer_own (tac.Loop head body next) i h =
      (let parts = and_rest true _ h in
      let rest = and_rest (list_all (λ holds. holds) (map test head)) _ parts in
      let a = rows head i.0 (and_first _ _ parts) in
      let b = rows body i.1 (and_first _ _ rest) in
      let c = rows next i.2 (and_first _ _ (and_rest (list_all (λ holds. holds) (map test body)) _ rest)) in
      record {
        reads = round_own (map trail head) (map trail body) (map trail next) a b c;
        points = loop_own (map trail head) (map trail body) (map trail next) a b c;
      })
  layer_own tac.Break i h = record { reads = λ t ahead own. own.broken; points = λ lives own. (own.broken, tt) }
  layer_own tac.Continue i h =
      record { reads = λ t ahead own. own.continued; points = λ lives own. (own.continued, tt) }
  layer_own (tac.CallOwn dest function args) i h = plain_own args true dest (and_first _ _ h)
  layer_own (tac.CallCross dest comp index args) i h = plain_own args true dest (and_first _ _ h)
  layer_own (tac.Input dest) i h = plain_own [] false dest (and_first _ _ h)
  layer_own (tac.Output value) i h = plain_own (value ∷ []) false None (and_first _ _ h)
  layer_own (tac.Alloc dest count words) i h = plain_own (count ∷ []) false (Some dest) (and_first _ _ h)
  layer_own (tac.Free pointer) i h = plain_own (pointer ∷ []) false None (and_first _ _ h)
  layer_own (tac.Return value) i h = record {
    reads = λ t ahead own. among t (one_or_none value) (and_first _ _ h);
    points = λ lives own. ((λ t. among t (one_or_none value) (and_first _ _ h)), tt);
  }

  stmt_own : (s : TacStmt) → OwnStmt s
  stmt_own = stmt_induction OwnStmt (λ layer i h. subst OwnTrail (sym (fold-roll-TacStmt Trail trail_step layer))
      (layer_own layer i (sym (fold-roll-TacStmt Bool (with_parts (names_own_temps temps)) layer) ∙ h)))

  each_own : (stmts : List TacStmt) → Each OwnStmt stmts
  each_own [] = tt
  each_own (s ∷ stmts) = (stmt_own s, each_own stmts)

  pub points_own : (stmts : List TacStmt) → everywhere (names_own_temps temps) stmts ≡ true →
      Each OwnPoint (points stmts nothing_live)
  points_own stmts all =
      row_own (map trail stmts) nothing_live (rows stmts (each_own stmts) all)
      (record {
        following = λ t is. absurd (cc is);
        broken = λ t is. absurd (cc is);
        continued =
            λ t is. absurd (cc is);
      })
