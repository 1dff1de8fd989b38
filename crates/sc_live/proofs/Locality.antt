-- What a piece of code says of a temporary depends only on what is live of that temporary.
use Rattle.sc_live.proofs.Common.{Bool, List, Lives, None, Option, Point, TempSet, Some, TacStmt, TacStmt-F, Trail, []}
use Rattle.sc_live.proofs.Common.{ahead_at, ap, false, fold-roll-TacStmt, if_calls, in_body, in_head, in_next, is_one}
use Rattle.sc_live.proofs.Common.{live_across, live_at_start, live_before, loop_points, map, map-TacStmt, not}
use Rattle.sc_live.proofs.Common.{one_or_none, part_lives, plain_points, point, readings, refl, row_first, row_points}
use Rattle.sc_live.proofs.Common.{stmt_points, subst, sym, trail, trail_step, true, ℕ, ◌&&◌, ◌++◌, ◌==◌, ◌||◌, ◌∷◌, ◌≡◌}
use Rattle.sc_core.proofs.Induction.{Each, everywhere}
use Rattle.sc_tac.proofs.Induction.{Inside, stmt_induction}
use Rattle.sc_tac.specs.declared.stmt.TacStmt.TheOpen as tac

-- the temporaries at which two ways to go on are the same
module _ (Here : ℕ → Type 0) where
  abbrev pub SameSet : TempSet → TempSet → Type 0
  SameSet s s' = (t : ℕ) → Here t → s t ≡ s' t

  abbrev pub SameLives : Lives → Lives → Type 0
  SameLives lives lives' = (t : ℕ) → Here t → ahead_at lives t ≡ ahead_at lives' t

  pub record SamePoint (x y : Point) : Type 0 where
    pub assigned : x.assigned ≡ y.assigned
    pub calls : x.calls ≡ y.calls
    pub live : SameSet x.live y.live

  abbrev pub SamePoints : List Point → List Point → Type 0
  SamePoints [] [] = Unit {0}
  SamePoints [] (y ∷ ys) = ⊥
  SamePoints (x ∷ xs) [] = ⊥
  SamePoints (x ∷ xs) (y ∷ ys) = SamePoint x y × SamePoints xs ys

  pub same_append : (xs xs' ys ys' : List Point) → SamePoints xs xs' → SamePoints ys ys' →
      SamePoints (xs ++ ys) (xs' ++ ys')
  same_append [] [] ys ys' h k = k
  same_append [] (x' ∷ xs') ys ys' h k = absurd h
  same_append (x ∷ xs) [] ys ys' h k = absurd h
  same_append (x ∷ xs) (x' ∷ xs') ys ys' h k = (h.0, same_append xs xs' ys ys' h.1 k)

  same_point : (calls : Bool) (s s' : TempSet) → SameSet s s' → SamePoint (point calls s) (point calls s')
  same_point calls s s' h = record { assigned = refl; calls = refl; live = h }

  pub one_point : (s s' : TempSet) → SameSet s s' → SamePoints (point false s ∷ []) (point false s' ∷ [])
  one_point s s' h = (same_point false s s' h, tt)

  abbrev pub Local : TacStmt → Type 0
  Local stmt = (lives lives' : Lives) → SameLives lives lives' →
      SamePoints ((trail stmt).points lives) ((trail stmt).points lives')

  pub before_same : (stmts : List TacStmt) (lives lives' : Lives) → SameLives lives lives' →
      SameSet (live_before (map trail stmts) lives) (live_before (map trail stmts) lives')
  before_same stmts lives lives' h t here = ap (row_first (readings t (map trail stmts))) (h t here)

  row_same : (stmts : List TacStmt) → Each Local stmts → (lives lives' : Lives) → SameLives lives lives' →
      SamePoints (row_points (map trail stmts) lives) (row_points (map trail stmts) lives')
  row_same [] h lives lives' g = tt
  row_same (stmt ∷ stmts) h lives lives' g =
      same_append ((trail stmt).points (record lives { following = live_before (map trail stmts) lives }))
      ((trail stmt).points (record lives' { following = live_before (map trail stmts) lives' }))
      (row_points (map trail stmts) lives) (row_points (map trail stmts) lives')
      (h.0 _ _ (λ t here i. record {
        following = before_same stmts lives lives' g t here i;
        broken = (g t here i).broken;
        continued = (g t here i).continued;
      })) (row_same stmts h.1 lives lives' g)

  pub part_same : (lives lives' : Lives) (end end' : TempSet) → SameSet lives.following lives'.following →
      SameSet end end' →
      SameLives (part_lives lives end) (part_lives lives' end')
  part_same lives lives' end end' g h t here i =
      record { following = h t here i; broken = g t here i; continued = h t here i }

  plain_same : (reads : List ℕ) (calls : Bool) (assigned : Option ℕ) (lives lives' : Lives) →
      SameLives lives lives' → SamePoints (plain_points reads calls assigned lives)
      (plain_points reads calls assigned lives')
  plain_same reads calls assigned lives lives' h =
      let across : SameSet (live_across reads calls assigned lives) (live_across reads calls assigned lives') =
      λ t here i. not (is_one t (one_or_none assigned)) && (h t here i).following in
      let last : SamePoint (record { assigned = assigned; calls = false; live = lives.following })
      (record { assigned = assigned; calls = false; live = lives'.following }) =
      record { assigned = refl; calls = refl; live = λ t here i. (h t here i).following } in (
        same_point false _ _ (λ t here i. is_one t reads || across t here i),
        same_append (if_calls calls (point true (live_across reads calls assigned lives)))
            (if_calls calls (point true (live_across reads calls assigned lives'))) _ _ (call_same calls _ _ across)
            (last, tt),
      )
    where
      call_same : (calls : Bool) (s s' : TempSet) → SameSet s s' →
          SamePoints (if_calls calls (point true s)) (if_calls calls (point true s'))
      call_same true s s' h = (same_point true s s' h, tt)
      call_same false s s' h = tt

  module _ (head body next : List TacStmt) (hh : Each Local head) (hb : Each Local body) (hn : Each Local next) where
    loop_same : (lives lives' : Lives) → SameLives lives lives' →
        SamePoints (loop_points (map trail head) (map trail body) (map trail next) lives)
        (loop_points (map trail head) (map trail body) (map trail next) lives')
    loop_same lives lives' h =
        let H : List Trail = map trail head in let B : List Trail = map trail body in
        let N : List Trail = map trail next in
        let following : SameSet lives.following lives'.following = λ t here i. (h t here i).following in
        let none : SameSet (λ t. false) (λ t. false) = λ t here. refl in
        let start : SameSet (live_at_start H B N lives) (live_at_start H B N lives') =
        before_same head _ _ (part_same lives lives' _ _ following (before_same body _ _
        (part_same lives lives' _ _ following (before_same next _ _ (part_same lives lives' _ _ following none))))) in
        let gn : SameLives (in_next H B N lives) (in_next H B N lives') = part_same lives lives' _ _ following start in
        let gb : SameLives (in_body H B N lives) (in_body H B N lives') =
        part_same lives lives' _ _ following (before_same next _ _ gn) in
        let gh : SameLives (in_head H B N lives) (in_head H B N lives') =
        part_same lives lives' _ _ following (before_same body _ _ gb) in (
          same_point false _ _ start,
          same_append _ _ _ _ (row_same head hh _ _ gh) (same_append _ _ _ _
              (row_same body hb _ _ gb) (same_append _ _ _ _ (row_same next hn _ _ gn) (one_point _ _ start))),
        )

  LayerSame : TacStmt-F TacStmt → Type 0
  LayerSame layer = (lives lives' : Lives) → SameLives lives lives' →
      SamePoints (stmt_points (map-TacStmt _ _ trail layer) lives) (stmt_points (map-TacStmt _ _ trail layer) lives')

  layer_same : (layer : TacStmt-F TacStmt) → Inside Local layer → LayerSame layer
  unfolding LayerSame
  layer_same (tac.Const dest value) h = plain_same [] false (Some dest)
  layer_same (tac.Copy dest from) h = plain_same (from ∷ []) false (Some dest)
  layer_same (tac.Op dest op left right) h = plain_same (left ∷ one_or_none right) false (Some dest)
  layer_same (tac.ObjectPlace dest object) h = plain_same [] false (Some dest)
  layer_same (tac.GlobalPlace dest global) h = plain_same [] false (Some dest)
  layer_same (tac.Load dest place pointer) h = plain_same (place ∷ []) false (Some dest)
  layer_same (tac.Store place value) h = plain_same (place ∷ value ∷ []) false None
  layer_same (tac.If cond first second) h = λ lives lives' g. (
    same_point false _ _ (λ t here i. cond == t || (before_same first lives lives' g t here i
        || before_same second lives lives' g t here i)),
    same_append _ _ _ _ (row_same first h.0 lives lives' g) (row_same second h.1 lives lives' g),
  )
  layer_same (tac.Loop head body next) h = loop_same head body next h.0 h.1 h.2
  layer_same tac.Break h = λ lives lives' g. one_point _ _ (λ t here i. (g t here i).broken)
  layer_same tac.Continue h = λ lives lives' g. one_point _ _ (λ t here i. (g t here i).continued)
  layer_same (tac.CallOwn dest function args) h = plain_same args true dest
  layer_same (tac.CallCross dest comp index args) h = plain_same args true dest
  layer_same (tac.Input dest) h = plain_same [] false dest
  layer_same (tac.Output value) h = plain_same (value ∷ []) false None
  layer_same (tac.Alloc dest count words) h = plain_same (count ∷ []) false (Some dest)
  layer_same (tac.Free pointer) h = plain_same (pointer ∷ []) false None
  layer_same (tac.Return value) h = λ lives lives' g. one_point _ _ (λ t here. refl)

  pub local : (stmt : TacStmt) → Local stmt
  unfolding LayerSame
  local = stmt_induction Local (λ layer h lives lives' g.
      subst (λ x. SamePoints (x.points lives) (x.points lives')) (sym (fold-roll-TacStmt Trail trail_step layer))
      (layer_same layer h lives lives' g))

  pub all_local : (stmts : List TacStmt) (lives lives' : Lives) → SameLives lives lives' →
      SamePoints (row_points (map trail stmts) lives) (row_points (map trail stmts) lives')
  all_local stmts = row_same stmts (everywhere Local local stmts)
