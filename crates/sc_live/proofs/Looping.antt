-- One round of a loop, from nothing that is live at its end, determines its points: what is then live at its start is
-- used from the loop's start to its end, and of nothing else do the points differ.
use Rattle.sc_live.proofs.Common.{Bool, Holds, List, Lives, Mark, None, Option, Passed, Point, TempSet, Some, TacStmt}
use Rattle.sc_live.proofs.Common.{Trail, Walk, Walked, WalkedAll, WalkedOver, [], ap, append_assoc, arith, false}
use Rattle.sc_live.proofs.Common.{if◌then◌else◌, in_body, in_head, in_next, is_one, is_used, length, live_at_start}
use Rattle.sc_live.proofs.Common.{live_before, lives_at, loop_points, map, mark_from, mark_here, mark_of, marked, min}
use Rattle.sc_live.proofs.Common.{nearest_call, nothing, one_or_none, part_lives, point, refl, row_points, set_of}
use Rattle.sc_live.proofs.Common.{slice_get, subst, suc, sym, trail, true, ℕ, ◌++◌, ◌<◌, ◌||◌, ◌∙◌, ◌∷◌, ◌≡◌, ◌≤◌}
use Rattle.sc_tac.specs.declared.stmt.TacStmt.TheOpen as tac
use Rattle.sc_tac.specs.declared.stmt.TacStmt.TheVariants as emit
use Rattle.sc_live.proofs.Locality.{SamePoints, SameLives, SameSet, all_local, one_point, before_same, part_same}
use Rattle.sc_live.proofs.Locality.{same_append}
use Rattle.sc_live.proofs.Marking.{ends_within, here_last, last_or, to_last}
use Rattle.sc_live.proofs.Walking.{over_layer, relived_before, walked_on}

-- ALIKE POINTS
module _ (Here : ℕ → Type 0) where
  length_same : (xs ys : List Point) → SamePoints Here xs ys → length xs ≡ length ys
  length_same [] [] h = refl
  length_same [] (y ∷ ys) h = absurd h
  length_same (x ∷ xs) [] h = absurd h
  length_same (x ∷ xs) (y ∷ ys) h = ap suc (length_same xs ys h.1)

  call_same : (xs ys : List Point) → SamePoints Here xs ys → nearest_call xs ≡ nearest_call ys
  call_same [] [] h = refl
  call_same [] (y ∷ ys) h = absurd h
  call_same (x ∷ xs) [] h = absurd h
  call_same (x ∷ xs) (y ∷ ys) h =
      λ i. if h.0.calls i then Some (length_same xs ys h.1 i) else call_same xs ys h.1 i

  mark_same : (t : ℕ) → Here t → (xs ys : List Point) → SamePoints Here xs ys → mark_of t xs ≡ mark_of t ys
  mark_same t here [] [] h = refl
  mark_same t here [] (y ∷ ys) h = absurd h
  mark_same t here (x ∷ xs) [] h = absurd h
  mark_same t here (x ∷ xs) (y ∷ ys) h =
      λ i. if is_one t (one_or_none (h.0.assigned i)) || h.0.live t here i
      then Some (mark_here (length_same xs ys h.1 i) (call_same (x ∷ xs) (y ∷ ys) h i) (mark_same t here xs ys h.1 i))
      else mark_same t here xs ys h.1 i

  itself : (xs : List Point) → SamePoints Here xs xs
  itself [] = tt
  itself (x ∷ xs) = (record { assigned = refl; calls = refl; live = λ t here. refl }, itself xs)

-- ENDS OF MARKS
capped : (at end : ℕ) (known : Option Mark) → end ≤ at → last_or end known ≤ end →
    min (last_or at known) end ≡ last_or end known
capped at end None h k = omega (arith, h)
capped at end (Some mark) h k = omega (arith, k)

-- capped at the end of a piece of code, a mark ends where it would end after the piece
capped_after : (t at : ℕ) (xs ys : List Point) → length ys ≤ at →
    min (last_or at (mark_of t (xs ++ ys))) (length ys) ≡ last_or (length ys) (mark_of t ys)
capped_after t at [] ys h = capped at (length ys) (mark_of t ys) h (ends_within t (length ys) ys (omega arith))
capped_after t at (x ∷ xs) ys h =
    let on : List Point = xs ++ ys in
    elim (is_used t x) as (λ used. min (last_or at (if used then Some (mark_here (length on) (nearest_call (x ∷ on))
    (mark_of t on)) else mark_of t on)) (length ys) ≡ last_or (length ys) (mark_of t ys)) [
      | true ↦ rw (here_last (length on) (nearest_call (x ∷ on)) (mark_of t on))
          (capped_after t (length on) xs ys (longer xs ys))
      | false ↦ capped_after t at xs ys h
    ]
  where
    longer : (xs ys : List Point) → length ys ≤ length (xs ++ ys)
    longer [] ys = omega arith
    longer (x ∷ xs) ys = omega (arith, longer xs ys)

-- points before those of a mark don't change where it ends
ends_after : (t at : ℕ) (mark : Mark) (xs ys : List Point) → mark_of t ys ≡ Some mark →
    last_or at (mark_of t (xs ++ ys)) ≡ mark.last
ends_after t at mark [] ys is = ap (last_or at) is
ends_after t at mark (x ∷ xs) ys is =
    let on : List Point = xs ++ ys in
    elim (is_used t x) as (λ used. last_or at (if used then Some (mark_here (length on) (nearest_call (x ∷ on))
    (mark_of t on)) else mark_of t on) ≡ mark.last) [
      | true ↦ rw (here_last (length on) (nearest_call (x ∷ on)) (mark_of t on))
          (ends_after t (length on) mark xs ys is)
      | false ↦ ends_after t at mark xs ys is
    ]

-- ROUNDS
regrouped : (a b c d e : List Point) → a ++ (b ++ (c ++ d)) ++ e ≡ a ++ (b ++ c) ++ (d ++ e)
regrouped a b c d e =
    append_assoc a (b ++ (c ++ d)) e ∙ ap (λ x. a ++ x) (append_assoc b (c ++ d) e ∙ ap (λ x. b ++ x)
    (append_assoc c d e) ∙ sym (append_assoc b c (d ++ e))) ∙ sym (append_assoc a (b ++ c) (d ++ e))

module _ (head body next : List TacStmt) (lives : Lives) where
  abbrev H : List Trail
  H = map trail head

  abbrev B : List Trail
  B = map trail body

  abbrev N : List Trail
  N = map trail next

  abbrev start : TempSet
  start = live_at_start H B N lives

  abbrev pub round_next : Lives
  round_next = part_lives lives nothing

  abbrev pub round_body : Lives
  round_body = part_lives lives (live_before N round_next)

  abbrev pub round_head : Lives
  round_head = part_lives lives (live_before B round_body)

  -- the points of one round, and those of the loop after its first
  abbrev pub round : List Point
  round =
      row_points H round_head ++ (row_points B round_body ++ (row_points N round_next ++ point false nothing ∷ []))

  abbrev whole : List Point
  whole =
      row_points H (in_head H B N lives) ++ (row_points B (in_body H B N lives)
      ++ (row_points N (in_next H B N lives) ++ point false start ∷ []))

  abbrev prefix : List Point
  prefix =
      row_points H (in_head H B N lives)
      ++ (row_points B (in_body H B N lives) ++ row_points N (in_next H B N lives))

  alike : (Here : ℕ → Type 0) → ((t : ℕ) → Here t → start t ≡ false) → SamePoints Here round whole
  alike Here none =
      let following : SameSet Here lives.following lives.following = λ t here. refl in
      let end : SameSet Here nothing start = λ t here. sym (none t here) in
      let gn : SameLives Here round_next (in_next H B N lives) = part_same Here lives lives _ _ following end in
      let gb : SameLives Here round_body (in_body H B N lives) =
      part_same Here lives lives _ _ following (before_same Here next _ _ gn) in
      let gh : SameLives Here round_head (in_head H B N lives) =
      part_same Here lives lives _ _ following (before_same Here body _ _ gb) in
      same_append Here _ _ _ _ (all_local Here head _ _ gh) (same_append Here _ _ _ _ (all_local Here body _ _ gb)
      (same_append Here _ _ _ _ (all_local Here next _ _ gn) (one_point Here _ _ end)))

  module _ (before between after : Walk) (h : Walked round start before between)
      (p : Passed (record { assigned = None; calls = false; live = set_of between.live }) before.points between
      after) where
    module _ (temps : ℕ) (following : List Point) (g : Holds temps before following) where
      k : Holds temps between (round ++ following)
      k = h.holds temps following g

      abbrev Nowhere : ℕ → Type 0
      Nowhere t = ⊥

      abbrev Dead : ℕ → Type 0
      Dead t = start t ≡ false

      after_alike : (Here : ℕ → Type 0) → ((t : ℕ) → Here t → start t ≡ false) →
          SamePoints Here (round ++ following) (whole ++ following)
      after_alike Here none = same_append Here round whole following following (alike Here none) (itself Here following)

      count_is : between.points ≡ length (whole ++ following)
      count_is = k.counted ∙ length_same Nowhere _ _ (after_alike Nowhere (λ t here. absurd here))

      call_is : after.call ≡ nearest_call (whole ++ following)
      call_is = p.call ∙ k.call ∙ call_same Nowhere _ _ (after_alike Nowhere (λ t here. absurd here))

      abbrev at : ℕ
      at = length (whole ++ following)

      abbrev call : Option ℕ
      call = nearest_call (whole ++ following)

      abbrev end : ℕ
      end = length following

      -- where it is live at the start, its mark ends after the loop or at its end
      end_is : (t : ℕ) → start t ≡ true →
          last_or at (mark_of t (whole ++ following)) ≡ last_or end (mark_of t following)
      end_is t live =
          let last : Mark = mark_here end (nearest_call following) (mark_of t following) in
          ap (λ x. last_or at (mark_of t x)) (regrouped (row_points H (in_head H B N lives))
          (row_points B (in_body H B N lives)) (row_points N (in_next H B N lives)) (point false start ∷ []) following)
          ∙ ends_after t at last prefix (point false start ∷ following)
          (ap (λ u. if u then Some last else mark_of t following) live)
          ∙ ap (λ mark. mark.last) (here_last end (nearest_call following) (mark_of t following))

      settled : (t : ℕ) (used : Bool) → start t ≡ used →
          marked at call end used (Some (mark_of t (round ++ following)))
          ≡ Some (if used then Some (mark_here at call (mark_of t (whole ++ following))) else mark_of t
          (whole ++ following))
      settled t true live = ap (λ mark. Some (Some mark))
          (to_last at call end (mark_of t (round ++ following))
          ∙ ap (mark_from at call) (capped_after t end round following (omega arith) ∙ sym (end_is t live))
          ∙ sym (here_last at call (mark_of t (whole ++ following))))
      settled t false dead = ap Some (mark_same Dead t dead _ _ (after_alike Dead (λ t here. here)))

      mark_is : (t : ℕ) → t < temps →
          slice_get after.marks t ≡ Some (mark_of t (point false start ∷ (whole ++ following)))
      mark_is t within =
          p.marks t
          ∙ (λ i. marked (count_is i) (call_is i) (g.counted i) (h.live i t) (k.marks t within i))
          ∙ settled t (start t) refl

      held : Holds temps after (point false start ∷ (whole ++ following))
      held = record { counted = p.counted ∙ ap suc count_is; call = call_is; marks = mark_is }

    pub looped : Walked (loop_points H B N lives) start before after
    looped = record { live = ap set_of p.live ∙ h.live; holds = held }

-- one round, part by part from the last
pub rounded : (head body next : List TacStmt) (lives : Lives) (a b c d e : Walk) →
    Walked (point false nothing ∷ []) nothing a b → WalkedAll next (part_lives lives (set_of b.live)) b c →
    WalkedAll body (part_lives lives (set_of c.live)) c d → WalkedAll head (part_lives lives (set_of d.live)) d e →
    Walked (round head body next lives) (live_at_start (map trail head) (map trail body) (map trail next) lives) a e
rounded head body next lives a b c d e end hn hb hh =
    let gn : WalkedAll next (round_next head body next lives) b c =
    subst (λ s. WalkedAll next (part_lives lives s) b c) end.live hn in
    let gb : WalkedAll body (round_body head body next lives) c d =
    subst (λ s. WalkedAll body (part_lives lives s) c d) gn.live hb in
    let gh : WalkedAll head (round_head head body next lives) d e =
    subst (λ s. WalkedAll head (part_lives lives s) d e) gb.live hh in
    walked_on _ _ _ _ a d e (walked_on _ _ _ _ a c d (walked_on _ _ _ _ a b c end gn) gb) gh

-- a loop as it is walked
pub cycled : (stmt : TacStmt) (head body next : List TacStmt) (broken continued empty out : List ℕ)
    (a b c d e f : Walk) → stmt ≡ emit.Loop head body next → empty ≡ [] → out ≡ a.live →
    Walked (point false (set_of empty) ∷ []) (set_of empty) (record a { live = empty }) b →
    WalkedAll next (lives_at b.live out b.live) b c → WalkedAll body (lives_at c.live out c.live) c d →
    WalkedAll head (lives_at d.live out d.live) d e →
    Passed (record { assigned = None; calls = false; live = set_of e.live }) a.points e f →
    WalkedOver stmt (lives_at a.live broken continued) a f
cycled stmt head body next broken continued empty out a b c d e f is none same end hn hb hh last =
    let lives : Lives = lives_at a.live broken continued in
    let end' : Walked (point false nothing ∷ []) nothing a b =
    relived_before _ _ _ _ _ (subst (λ l. Walked (point false (set_of l) ∷ []) (set_of l) (record a { live = l }) b)
    none end) in
    let of : (part : List TacStmt) (u v : Walk) → WalkedAll part (lives_at u.live out u.live) u v →
    WalkedAll part (part_lives lives (set_of u.live)) u v =
    λ part u v h. subst (λ l. WalkedAll part (lives_at u.live l u.live) u v) same h in
    over_layer stmt (tac.Loop head body next) lives a f (emit.rolls-Loop head body next ∙ sym is)
    (looped head body next lives a e f
    (rounded head body next lives a b c d e end' (of next b c hn) (of body c d hb) (of head d e hh)) last)
