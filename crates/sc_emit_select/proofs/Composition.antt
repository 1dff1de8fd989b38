-- What the code of statements in order, of choices and of loops is made of, and that the jumps of their parts reach.
use Rattle.sc_emit_select.proofs.Common.{Bool, Fits, FitsBetween, FitsLoop, FrameTree, Instr, Line, List, OnOk, Other}
use Rattle.sc_emit_select.proofs.Common.{Piece, Place, Plan, Result, Role, TacFnTree, TacStmt, [], and_first, and_rest}
use Rattle.sc_emit_select.proofs.Common.{ap, append_assoc, ap₂, arith, as_one, between, choice, choosing, closing}
use Rattle.sc_emit_select.proofs.Common.{cycle, drop, drop-cons, everywhere, false, fold-TacStmt, fold-roll-TacStmt}
use Rattle.sc_emit_select.proofs.Common.{function_lines, get_or, if◌then◌else◌, in_turn, joined, joins, jump_back}
use Rattle.sc_emit_select.proofs.Common.{jump_over, kind_of_fork, length, length-append, length-map, loop_begins, map}
use Rattle.sc_emit_select.proofs.Common.{nothing, on_ok_weaker, passes_few, past, plain, plainly, prologue, refl}
use Rattle.sc_emit_select.proofs.Common.{role_before, role_first, role_to_next, roll-TacStmt, select, select_all}
use Rattle.sc_emit_select.proofs.Common.{select_step, skipping, stmt_weight, subst, suc, sym, true, weight, weight_step}
use Rattle.sc_emit_select.proofs.Common.{with_parts, zero, ℕ, ◌&&◌, ◌++◌, ◌+◌, ◌-◌, ◌<◌, ◌==◌, ◌∙◌, ◌∷◌, ◌≡◌, ◌≤◌}
use Rattle.sc_tac.specs.declared.stmt.TacStmt.TheOpen as tac
use Rattle.sc_tac.specs.declared.stmt.TacStmt.TheVariants as emit
use Rattle.sc_emit_select.proofs.Joining.{drop_map, joined_at, joined_length, none_after, role_in_is}
use Rattle.sc_emit_select.proofs.Sizes.{row_is_sized, row_from_sized}

-- FEW ARGUMENTS
few_in_fork : (cond : ℕ) (first second : List TacStmt) →
    everywhere passes_few (emit.If cond first second ∷ []) ≡ true →
    (everywhere passes_few first ≡ true) × (everywhere passes_few second ≡ true)
unfolding roll-TacStmt denote.Hole.Carrier.roll
few_in_fork cond first second h =
    let k = sym (fold-roll-TacStmt Bool (with_parts passes_few) (tac.If cond first second)) ∙
    and_first (fold-TacStmt Bool (with_parts passes_few) (emit.If cond first second)) _ h in (
      and_first (everywhere passes_few first) _ k,
      and_first (everywhere passes_few second) _ (and_rest (everywhere passes_few first) _ k),
    )

pub few_in_cycle : (head body next : List TacStmt) → everywhere passes_few (emit.Loop head body next ∷ []) ≡ true →
    (everywhere passes_few head ≡ true) × (everywhere passes_few body ≡ true) × (everywhere passes_few next ≡ true)
unfolding roll-TacStmt denote.Hole.Carrier.roll
few_in_cycle head body next h =
    let k = sym (fold-roll-TacStmt Bool (with_parts passes_few) (tac.Loop head body next)) ∙
    and_first (fold-TacStmt Bool (with_parts passes_few) (emit.Loop head body next)) _ h in
    let rest = and_rest (everywhere passes_few head) _ k in (
      and_first (everywhere passes_few head) _ k,
      and_first (everywhere passes_few body) _ rest,
      and_first (everywhere passes_few next) _ (and_rest (everywhere passes_few body) _ rest),
    )

few_from : (stmts : List TacStmt) (i : ℕ) → everywhere passes_few stmts ≡ true →
    everywhere passes_few (drop i stmts) ≡ true
few_from stmts zero h = h
few_from [] (suc i) h = h
few_from (x ∷ rest) (suc i) h =
    few_from rest i (and_rest (fold-TacStmt Bool (with_parts passes_few) x) _ h)

-- WEIGHTS
weight_from : (stmts : List TacStmt) (i : ℕ) → weight (drop i stmts) ≤ weight stmts
weight_from stmts zero = omega arith
weight_from [] (suc i) = omega arith
weight_from (x ∷ rest) (suc i) = omega (arith, weight_from rest i)

parted : (stmts : List TacStmt) (i : ℕ) (x : TacStmt) → i < length stmts → x ≡ get_or stmts i x →
    drop i stmts ≡ x ∷ drop (suc i) stmts
parted stmts i x h is = drop-cons stmts i x h ∙ ap (λ y. y ∷ drop (suc i) stmts) (sym is)

-- a statement among others weighs no more than they
pub no_heavier : (stmts : List TacStmt) (i : ℕ) (x : TacStmt) → i < length stmts → x ≡ get_or stmts i x →
    stmt_weight x ≤ weight stmts
no_heavier stmts i x h is =
    let parts : weight (drop i stmts) ≡ stmt_weight x + weight (drop (suc i) stmts) =
    ap weight (parted stmts i x h is) in
    omega (arith, parts, weight_from stmts i)

fork_weight : (cond : ℕ) (first second : List TacStmt) →
    stmt_weight (emit.If cond first second) ≡ 6 + weight first + weight second
unfolding roll-TacStmt denote.Hole.Carrier.roll
fork_weight cond first second = fold-roll-TacStmt ℕ weight_step (tac.If cond first second)

cycle_weight : (head body next : List TacStmt) →
    stmt_weight (emit.Loop head body next) ≡ 2 + weight head + weight body + weight next
unfolding roll-TacStmt denote.Hole.Carrier.roll
cycle_weight head body next = fold-roll-TacStmt ℕ weight_step (tac.Loop head body next)

-- a choice and a loop by equal parts
pub as_if : (stmt : TacStmt) (cond : ℕ) (first second one two : List TacStmt) → stmt ≡ emit.If cond first second →
    one ≡ first → two ≡ second → stmt ≡ emit.If cond one two
as_if stmt cond first second one two is h k = is ∙ ap₂ (emit.If cond) (sym h) (sym k)

pub as_loop : (stmt : TacStmt) (head body next one two three : List TacStmt) → stmt ≡ emit.Loop head body next →
    one ≡ head → two ≡ body → three ≡ next → stmt ≡ emit.Loop one two three
as_loop stmt head body next one two three is h k l =
    is ∙ ap₂ (λ a b. emit.Loop a b next) (sym h) (sym k) ∙ ap (emit.Loop one two) (sym l)

-- a choice is heavier than its parts, and so is a loop
pub fork_heavier : (stmt : TacStmt) (cond : ℕ) (first second : List TacStmt) → stmt ≡ emit.If cond first second →
    weight first + weight second + 6 ≡ stmt_weight stmt
fork_heavier stmt cond first second is =
    let whole : stmt_weight stmt ≡ 6 + weight first + weight second =
    ap stmt_weight is ∙ fork_weight cond first second in
    omega (arith, whole)

pub cycle_heavier : (stmt : TacStmt) (head body next : List TacStmt) → stmt ≡ emit.Loop head body next →
    weight head + weight body + weight next + 2 ≡ stmt_weight stmt
cycle_heavier stmt head body next is =
    let whole : stmt_weight stmt ≡ 2 + weight head + weight body + weight next =
    ap stmt_weight is ∙ cycle_weight head body next in
    omega (arith, whole)

pub step_lighter : (stmts list : List TacStmt) (at : ℕ) (stmt : TacStmt) → list ≡ stmts → 0 < at → at ≤ length list →
    stmt ≡ get_or list (at - 1) stmt → stmt_weight stmt ≤ weight stmts
step_lighter stmts list at stmt same some within is =
    subst (λ l. stmt_weight stmt ≤ weight l) same
    (no_heavier list (at - 1) stmt (omega (arith, some, within)) is)

-- LINES
pub three_parts : (xs ys zs rest : List Line) → (xs ++ (ys ++ zs)) ++ rest ≡ xs ++ (ys ++ (zs ++ rest))
three_parts xs ys zs rest = append_assoc xs (ys ++ zs) rest ∙ ap (λ t. xs ++ t) (append_assoc ys zs rest)

module _ (frame : FrameTree) (places : List Place) (plan : Plan) where
  abbrev size : List TacStmt → ℕ
  size stmts = (select_all frame places plan stmts).size

  -- a single statement
  pub single_size : (b c : ℕ) (stmt : TacStmt) → size (stmt ∷ []) ≡ (select frame places plan stmt).size + 0
  single_size b c stmt =
      ap (λ (following : Bool). (if following then nothing else select frame places plan stmt).size + 0)
      (none_after (select frame places plan stmt).role)

  -- how many lines statements have prepended
  pub counted : (stmts : List TacStmt) (b c : ℕ) (new old : List Line) (n m : ℕ) → n ≡ length new → m ≡ length old →
      new ≡ (select_all frame places plan stmts).lines b c ++ old → n ≡ size stmts + m
  counted stmts b c new old n m hn hm h =
      let lines : List Line = (select_all frame places plan stmts).lines b c in
      let whole : length new ≡ length (lines ++ old) = ap length h in
      omega (arith, hn, hm, whole, length-append lines old, (row_is_sized frame places plan stmts).sized b c)

  -- A CHOICE
  abbrev both_ways : ℕ → (first second : List TacStmt) → Bool → Piece
  both_ways cond first second found =
      if found then skipping frame places cond (select_all frame places plan second)
      else choosing frame places cond (select_all frame places plan first) (select_all frame places plan second)

  abbrev as_fork : ℕ → (first second : List TacStmt) → Piece → Piece
  as_fork cond first second piece =
      record piece {
        kind = kind_of_fork cond (map (select frame places plan) first) (map (select frame places plan) second);
      }

  -- which code a choice has, by what the test found
  fork_is : (cond : ℕ) (first second : List TacStmt) (lines : ℕ) (found is : Bool) → lines ≡ size second →
      found ≡ (length first == 0 && lines == 1) → found ≡ is →
      select frame places plan (emit.If cond first second) ≡ as_fork cond first second (both_ways cond first second is)
  unfolding roll-TacStmt denote.Hole.Carrier.roll
  fork_is cond first second lines found is lines_is test found_is =
      fold-roll-TacStmt Piece (select_step frame places plan) (tac.If cond first second) ∙
      ap (λ n. as_fork cond first second (both_ways cond first second (n == 0 && size second == 1)))
      (length-map first (select frame places plan))
      ∙
      ap (λ n. as_fork cond first second (both_ways cond first second (length first == 0 && n == 1))) (sym lines_is) ∙
      ap (λ b. as_fork cond first second (both_ways cond first second b)) (sym test ∙ found_is)

  -- the second part has no more lines than the whole
  second_least : (cond : ℕ) (first second : List TacStmt) →
      size second ≤ (select frame places plan (emit.If cond first second)).size
  second_least cond first second =
      by (length first == 0 && size second == 1) (fork_is cond first second (size second) _ _ refl refl refl)
    where
      by : (found : Bool) →
          select frame places plan (emit.If cond first second) ≡
          as_fork cond first second (both_ways cond first second found) →
          size second ≤ (select frame places plan (emit.If cond first second)).size
      by true is = let whole = ap (λ p. p.size) is in omega (arith, whole)
      by false is = let whole = ap (λ p. p.size) is in omega (arith, whole)

  pub second_fits : (cond : ℕ) (first second : List TacStmt) (b c : ℕ) →
      Fits frame places plan (emit.If cond first second ∷ []) b c → Fits frame places plan second b c
  second_fits cond first second b c h =
      let least : size second ≤ (select frame places plan (emit.If cond first second)).size =
      second_least cond first second in
      record {
        few_arguments = (few_in_fork cond first second h.few_arguments).1;
        breaks = omega (arith, h.breaks, single_size b c (emit.If cond first second), least);
        continues = omega (arith, h.continues, single_size b c (emit.If cond first second), least);
      }

  -- a statement of a known kind
  pub as_is : (stmt other : TacStmt) (b c : ℕ) → stmt ≡ other → Fits frame places plan (stmt ∷ []) b c →
      Fits frame places plan (other ∷ []) b c
  as_is stmt other b c is h = subst (λ s. Fits frame places plan (s ∷ []) b c) is h

  written : (stmts : List TacStmt) (b c n m : ℕ) (new old : List Line) → n ≡ length new → m ≡ length old →
      new ≡ (select_all frame places plan stmts).lines b c ++ old → n - m ≡ size stmts
  written stmts b c n m new old hn hm h =
      let whole : n ≡ size stmts + m = counted stmts b c new old n m hn hm h in
      omega (arith, whole)

  -- the second part is written, and `end` lines were there before
  module _ (cond : ℕ) (first second : List TacStmt) (b c : ℕ)
      (fits : Fits frame places plan (emit.If cond first second ∷ []) b c) (old l1 : List Line) (end n1 : ℕ)
      (n1_is : n1 ≡ length l1) (end_is : end ≡ length old) (h1 : l1 ≡ (select_all frame places plan second).lines b c
      ++ old)
    where
      abbrev branch : List Line
      branch = plainly (choice frame places cond)

      abbrev whole : Piece
      whole = select frame places plan (emit.If cond first second)

      after_is : n1 - end ≡ size second
      after_is = written second b c n1 end l1 old n1_is end_is h1

      pub over_second : n1 - end < 262143
      over_second =
          omega (
            arith,
            after_is,
            second_least cond first second,
            fits.breaks,
            single_size b c (emit.If cond first second),
          )

      module _ (found : Bool) (test : found ≡ (length first == 0 && n1 - end == 1)) where
        pub skip_returns : {T E : Type 0} (r : Result T E) (new : List Line) → found ≡ true →
            OnOk r (new ≡ branch ++ l1) →
            OnOk r (new ≡ whole.lines b c ++ old)
        skip_returns r new is h =
            on_ok_weaker r (λ h.
            h ∙ ap (λ t. branch ++ t) h1 ∙ sym (append_assoc branch ((select_all frame places plan second).lines b c)
            old) ∙
            ap (λ p. p.lines b c ++ old) (sym (fork_is cond first second (n1 - end) found true after_is test is))) h

        -- the jump past the second part is written
        module _ (none : found ≡ false) (l2 : List Line) (n2 : ℕ) (n2_is : n2 ≡ length l2)
            (h2 : l2 ≡ past (n1 - end) ++ l1) where
          abbrev k : ℕ
          k = size second

          whole_is : whole ≡ as_fork cond first second (both_ways cond first second false)
          whole_is = fork_is cond first second (n1 - end) found false after_is test none

          size_is : whole.size ≡ length branch + (1 + (size first + length (past k) + k))
          size_is = ap (λ p. p.size) whole_is

          l2_is : l2 ≡ past k ++ l1
          l2_is = h2 ∙ ap (λ n. past n ++ l1) after_is

          over_is : n2 - end ≡ length (past k) + k
          over_is =
              let two : length l2 ≡ length (past k ++ l1) = ap length l2_is in
              let one : n1 ≡ k + end = counted second b c l1 old n1 end n1_is end_is h1 in
              omega (arith, n2_is, two, length-append (past k) l1, one, n1_is)

          pub over_reaches : (n2 - end + b < 262143) × (n2 - end + c < 262143)
          over_reaches = (
            omega (arith, over_is, size_is, fits.breaks, single_size b c (emit.If cond first second)),
            omega (arith, over_is, size_is, fits.continues, single_size b c (emit.If cond first second)),
          )

          pub first_reaches : Fits frame places plan first (n2 - end + b) (n2 - end + c)
          first_reaches = record {
            few_arguments = (few_in_fork cond first second fits.few_arguments).0;
            breaks = omega (arith, over_is, size_is, fits.breaks, single_size b c (emit.If cond first second));
            continues = omega (arith, over_is, size_is, fits.continues, single_size b c (emit.If cond first second));
          }

          -- the first part is written
          module _ (l3 : List Line) (n3 : ℕ) (n3_is : n3 ≡ length l3)
              (h3 : l3 ≡ (select_all frame places plan first).lines (n2 - end + b) (n2 - end + c) ++ l2) where
            ahead_is : n3 - end - (n1 - end) ≡ size first + length (past k)
            ahead_is =
                let two : length l2 ≡ length (past k ++ l1) = ap length l2_is in
                let one : n1 ≡ k + end = counted second b c l1 old n1 end n1_is end_is h1 in
                let three : n3 ≡ size first + n2 =
                counted first (n2 - end + b) (n2 - end + c) l3 l2 n3 n2 n3_is n2_is h3 in
                omega (arith, n2_is, two, length-append (past k) l1, one, n1_is, three)

            pub over_first : n3 - end - (n1 - end) < 262143
            over_first = omega (arith, ahead_is, size_is, fits.breaks, single_size b c (emit.If cond first second))

            pub choice_returns : {T E : Type 0} (r : Result T E) (over : Instr) (l4 new : List Line) →
                l4 ≡ plain over ∷ l3 → plain over ≡ jump_over (n3 - end - (n1 - end)) →
                OnOk r (new ≡ branch ++ l4) → OnOk r (new ≡ whole.lines b c ++ old)
            choice_returns r over l4 new h4 over_is' h =
                let one : List Line = (select_all frame places plan first).lines (length (past k) + (k + b))
                (length (past k) + (k + c)) in
                let two : List Line = (select_all frame places plan second).lines b c in
                let to_break : n2 - end + b ≡ length (past k) + (k + b) = omega (arith, over_is) in
                let to_continue : n2 - end + c ≡ length (past k) + (k + c) = omega (arith, over_is) in
                let e3 : l3 ≡ one ++ (past k ++ (two ++ old)) =
                h3 ∙ ap (λ i. (select_all frame places plan first).lines i (n2 - end + c) ++ l2) to_break ∙
                ap (λ i. (select_all frame places plan first).lines (length (past k) + (k + b)) i ++ l2) to_continue ∙
                ap (λ t. one ++ t) (l2_is ∙ ap (λ t. past k ++ t) h1) in
                let jump : Line = jump_over (size first + length (past k)) in
                let e4 : l4 ≡ jump ∷ (one ++ (past k ++ (two ++ old))) =
                h4 ∙ ap (λ l. l ∷ l3) (over_is' ∙ ap jump_over ahead_is) ∙ ap (λ t. jump ∷ t) e3 in
                let inner : ((one ++ past k) ++ two) ++ old ≡ one ++ (past k ++ (two ++ old)) =
                append_assoc (one ++ past k) two old ∙ append_assoc one (past k) (two ++ old) in
                on_ok_weaker r (λ h.
                h ∙ ap (λ t. branch ++ t) (e4 ∙ ap (λ t. jump ∷ t) (sym inner)) ∙
                sym (append_assoc branch (jump ∷ ((one ++ past k) ++ two)) old) ∙
                ap (λ p. p.lines b c ++ old) (sym whole_is)) h

  -- A LOOP
  module _ (head body next : List TacStmt) (fits : FitsLoop frame places plan head body next 2) where
    next_fits : (n : ℕ) → n ≡ 1 → Fits frame places plan next n 0
    next_fits n is = record {
      few_arguments = fits.few_in_next;
      breaks = omega (arith, is, fits.reaches);
      continues = omega (arith, fits.reaches);
    }

    body_fits : (n : ℕ) → n ≡ suc (size next) → Fits frame places plan body n 0
    body_fits n is = record {
      few_arguments = fits.few_in_body;
      breaks = omega (arith, is, fits.reaches);
      continues = omega (arith, fits.reaches);
    }

    head_fits : (n : ℕ) → n ≡ size body + suc (size next) → Fits frame places plan head n 0
    head_fits n is = record {
      few_arguments = fits.few_in_head;
      breaks = omega (arith, is, fits.reaches);
      continues = omega (arith, fits.reaches);
    }

  -- how far it is to the end of the loop, before each of its parts is written and after the last
  next_distance : (first : Instr) (old l1 : List Line) (end : ℕ) → l1 ≡ plain first ∷ old → end ≡ length old →
      length l1 - end ≡ 1
  next_distance first old l1 end h1 end_is =
      let start : length l1 ≡ suc (length old) = ap length h1 in
      omega (arith, start, end_is)

  body_distance : (next : List TacStmt) (first : Instr) (old l1 l2 : List Line) (end d : ℕ) →
      l1 ≡ plain first ∷ old → l2 ≡ (select_all frame places plan next).lines d 0 ++ l1 → end ≡ length old →
      length l2 - end ≡ suc (size next)
  body_distance next first old l1 l2 end d h1 h2 end_is =
      let start : length l1 ≡ suc (length old) = ap length h1 in
      omega (arith, start, counted next d 0 l2 l1 (length l2) (length l1) refl refl h2, end_is)

  head_distance : (body next : List TacStmt) (first : Instr) (old l1 l2 l3 : List Line) (end d e : ℕ) →
      l1 ≡ plain first ∷ old → l2 ≡ (select_all frame places plan next).lines d 0 ++ l1 →
      l3 ≡ (select_all frame places plan body).lines e 0 ++ l2 → end ≡ length old →
      length l3 - end ≡ size body + suc (size next)
  head_distance body next first old l1 l2 l3 end d e h1 h2 h3 end_is =
      let start : length l1 ≡ suc (length old) = ap length h1 in
      let after : length l2 ≡ size next + length l1 = counted next d 0 l2 l1 (length l2) (length l1) refl refl h2 in
      omega (arith, start, after, counted body e 0 l3 l2 (length l3) (length l2) refl refl h3, end_is)

  whole_distance : (head body next : List TacStmt) (first : Instr) (old l1 l2 l3 l4 : List Line)
      (end d e g : ℕ) → l1 ≡ plain first ∷ old → l2 ≡ (select_all frame places plan next).lines d 0 ++ l1 →
      l3 ≡ (select_all frame places plan body).lines e 0 ++ l2 → l4 ≡ (select_all frame places plan head).lines g 0
      ++ l3 →
      end ≡ length old → length l4 ≡ end + suc (size head + (size body + size next))
  whole_distance head body next first old l1 l2 l3 l4 end d e g h1 h2 h3 h4 end_is =
      let start : length l1 ≡ suc (length old) = ap length h1 in
      let after : length l2 ≡ size next + length l1 = counted next d 0 l2 l1 (length l2) (length l1) refl refl h2 in
      let between : length l3 ≡ size body + length l2 =
      counted body e 0 l3 l2 (length l3) (length l2) refl refl h3 in
      let before : length l4 ≡ size head + length l3 =
      counted head g 0 l4 l3 (length l4) (length l3) refl refl h4 in
      omega (arith, start, after, between, before, end_is)

  -- what writing the parts needs: that some lines lie between, and that jumps reach over them
  pub next_reaches : (head body next : List TacStmt) (first : Instr) (old l1 : List Line) (end : ℕ) →
      FitsLoop frame places plan head body next 2 → l1 ≡ plain first ∷ old → end ≡ length old →
      (end ≤ length l1) × Fits frame places plan next (length l1 - end) 0
  next_reaches head body next first old l1 end fits h1 end_is =
      let distance : length l1 - end ≡ 1 = next_distance first old l1 end h1 end_is in (
        omega (arith, distance),
        next_fits head body next fits (length l1 - end) distance,
      )

  pub body_reaches : (head body next : List TacStmt) (first : Instr) (old l1 l2 : List Line) (end d : ℕ) →
      FitsLoop frame places plan head body next 2 → l1 ≡ plain first ∷ old →
      l2 ≡ (select_all frame places plan next).lines d 0 ++ l1 → end ≡ length old →
      (end ≤ length l2) × Fits frame places plan body (length l2 - end) 0
  body_reaches head body next first old l1 l2 end d fits h1 h2 end_is =
      let distance : length l2 - end ≡ suc (size next) = body_distance next first old l1 l2 end d h1 h2 end_is in (
        omega (arith, distance),
        body_fits head body next fits (length l2 - end) distance,
      )

  pub head_reaches : (head body next : List TacStmt) (first : Instr) (old l1 l2 l3 : List Line)
      (end d e : ℕ) → FitsLoop frame places plan head body next 2 → l1 ≡ plain first ∷ old →
      l2 ≡ (select_all frame places plan next).lines d 0 ++ l1 → l3 ≡ (select_all frame places plan body).lines e 0
      ++ l2 →
      end ≡ length old → (end ≤ length l3) × Fits frame places plan head (length l3 - end) 0
  head_reaches head body next first old l1 l2 l3 end d e fits h1 h2 h3 end_is =
      let distance : length l3 - end ≡ size body + suc (size next) =
      head_distance body next first old l1 l2 l3 end d e h1 h2 h3 end_is in (
        omega (arith, distance),
        head_fits head body next fits (length l3 - end) distance,
      )

  pub back_reaches : (head body next : List TacStmt) (first : Instr)
      (old l1 l2 l3 l4 : List Line) (n end d e g : ℕ) → FitsLoop frame places plan head body next 2 →
      l1 ≡ plain first ∷ old →
      l2 ≡ (select_all frame places plan next).lines d 0 ++ l1 → l3 ≡ (select_all frame places plan body).lines e 0
      ++ l2 →
      l4 ≡ (select_all frame places plan head).lines g 0 ++ l3 → n ≡ length l4 → end ≡ length old →
      n - end - 1 < 262143
  back_reaches head body next first old l1 l2 l3 l4 n end d e g fits h1 h2 h3 h4 n_is end_is =
      let whole : length l4 ≡ end + suc (size head + (size body + size next)) =
      whole_distance head body next first old l1 l2 l3 l4 end d e g h1 h2 h3 h4 end_is in
      omega (arith, whole, n_is, fits.reaches)

  pub cycle_written : (head body next : List TacStmt) (b c n end : ℕ)
      (first begin jump : Instr) (old l1 l2 l3 l4 l5 new : List Line) → n ≡ length l4 → end ≡ length old →
      plain begin ≡ loop_begins →
      l1 ≡ plain first ∷ old → l2 ≡ (select_all frame places plan next).lines (length l1 - end) 0 ++ l1 →
      l3 ≡ (select_all frame places plan body).lines (length l2 - end) 0 ++ l2 →
      l4 ≡ (select_all frame places plan head).lines (length l3 - end) 0 ++ l3 → l5 ≡ plain begin ∷ l4 →
      plain jump ≡ jump_back (n - end - 1) →
      ((prefix rest : List Line) (line : Line) → l5 ≡ prefix ++ line ∷ rest → length rest ≡ end →
      new ≡ prefix ++ record line { instr = jump } ∷ rest) →
      new ≡ (cycle frame places (select_all frame places plan head) (select_all frame places plan body) (select_all
      frame places plan next)).lines b c ++ old
  cycle_written head body next b c n end first begin jump old l1 l2 l3 l4 l5 new n_is end_is opens h1 h2 h3 h4 h5 back
      replaced =
      let xs : List Line = (select_all frame places plan head).lines (size body + suc (size next)) 0 in
      let ys : List Line = (select_all frame places plan body).lines (suc (size next)) 0 in
      let zs : List Line = (select_all frame places plan next).lines 1 0 in
      let last : Line = jump_back (size head + (size body + size next)) in
      let e2 : l2 ≡ zs ++ (plain first ∷ old) =
      h2 ∙ ap (λ n. (select_all frame places plan next).lines n 0 ++ l1) (next_distance first old l1 end h1 end_is) ∙
      ap (λ t. zs ++ t) h1 in
      let e3 : l3 ≡ ys ++ (zs ++ (plain first ∷ old)) =
      h3 ∙ ap (λ n. (select_all frame places plan body).lines n 0 ++ l2)
      (body_distance next first old l1 l2 end (length l1 - end) h1 h2 end_is) ∙ ap (λ t. ys ++ t) e2 in
      let e4 : l4 ≡ xs ++ (ys ++ (zs ++ (plain first ∷ old))) =
      h4 ∙ ap (λ n. (select_all frame places plan head).lines n 0 ++ l3)
      (head_distance body next first old l1 l2 l3 end (length l1 - end) (length l2 - end) h1 h2 h3 end_is) ∙
      ap (λ t. xs ++ t) e3 in
      let e5 : l5 ≡ loop_begins ∷ (xs ++ (ys ++ (zs ++ (plain first ∷ old)))) =
      h5 ∙ ap (λ l. l ∷ l4) opens ∙ ap (λ t. loop_begins ∷ t) e4 in
      let split : l5 ≡ (loop_begins ∷ (xs ++ (ys ++ zs))) ++ (plain first ∷ old) =
      e5 ∙ ap (λ t. loop_begins ∷ t) (sym (three_parts xs ys zs (plain first ∷ old))) in
      let put : new ≡ (loop_begins ∷ (xs ++ (ys ++ zs))) ++ (plain jump ∷ old) =
      replaced (loop_begins ∷ (xs ++ (ys ++ zs))) old (plain first) split (sym end_is) in
      let whole : length l4 ≡ end + suc (size head + (size body + size next)) =
      whole_distance head body next first old l1 l2 l3 l4 end (length l1 - end) (length l2 - end)
      (length l3 - end) h1 h2 h3 h4 end_is in
      let lines : n - end - 1 ≡ size head + (size body + size next) = omega (arith, whole, n_is) in
      let same : plain jump ≡ last = back ∙ ap jump_back lines in
      let joined : (xs ++ (ys ++ zs)) ++ (last ∷ old) ≡ (xs ++ (ys ++ (zs ++ (last ∷ [])))) ++ old =
      sym (append_assoc (xs ++ (ys ++ zs)) (last ∷ []) old) ∙
      ap (λ t. t ++ old) (three_parts xs ys zs (last ∷ [])) in
      put ∙ ap (λ l. (loop_begins ∷ (xs ++ (ys ++ zs))) ++ (l ∷ old)) same ∙
      ap (λ t. loop_begins ∷ t) joined

  -- A FUNCTION
  pub function_written : (f : TacFnTree) (stmts : List TacStmt) (old l1 l2 new : List Line) → stmts ≡ f.body →
      l1 ≡ plainly (closing frame places f.entry) ++ old → l2 ≡ (select_all frame places plan stmts).lines 0 0 ++ l1 →
      new ≡ plainly (prologue frame places f.params) ++ l2 → new ≡ function_lines frame places plan f ++ old
  function_written f stmts old l1 l2 new is h1 h2 h3 =
      let first : List Line = plainly (prologue frame places f.params) in
      let middle : List Line = (select_all frame places plan f.body).lines 0 0 in
      let last : List Line = plainly (closing frame places f.entry) in
      h3 ∙ ap (λ t. first ++ t) (h2 ∙ ap (λ s. (select_all frame places plan s).lines 0 0 ++ l1) is ∙
      ap (λ t. middle ++ t) h1) ∙
      sym (append_assoc (first ++ middle) last old ∙ append_assoc first middle (last ++ old))

  -- STATEMENTS IN ORDER
  abbrev pieces : List TacStmt → List Piece
  pieces stmts = joined frame places Other (map (select frame places plan) stmts)

  -- the statements from one on
  abbrev from : List TacStmt → ℕ → Piece
  from stmts i = in_turn (drop i (pieces stmts))

  turn_from : (parts : List Piece) (i : ℕ) → (in_turn (drop i parts)).size ≤ (in_turn parts).size
  turn_from parts zero = omega arith
  turn_from [] (suc i) = omega arith
  turn_from (part ∷ parts) (suc i) = omega (arith, turn_from parts i)

  -- how many lines those have prepended
  written_from : (stmts : List TacStmt) (i b c n m : ℕ) (new old : List Line) → n ≡ length new → m ≡ length old →
      new ≡ (from stmts i).lines b c ++ old → n - m ≡ (from stmts i).size
  written_from stmts i b c n m new old hn hm h =
      let lines : List Line = (from stmts i).lines b c in
      let whole : length new ≡ length (lines ++ old) = ap length h in
      omega (arith, hn, hm, whole, length-append lines old, (row_from_sized frame places plan stmts i).sized b c)

  -- one of them, and those after it
  abbrev one : List TacStmt → ℕ → TacStmt → Piece
  one stmts i stmt =
      between frame places (role_before (map (select frame places plan) stmts) i) (select frame places plan stmt)
      (role_first (map (select frame places plan) (drop (suc i) stmts)))

  selected_at : (stmts : List TacStmt) (i : ℕ) (stmt : TacStmt) → stmt ≡ get_or stmts i stmt →
      select frame places plan stmt ≡ get_or (map (select frame places plan) stmts) i (select frame places plan
      stmt)
  selected_at [] i stmt is = refl
  selected_at (first ∷ rest) zero stmt is = ap (select frame places plan) is
  selected_at (first ∷ rest) (suc i) stmt is = selected_at rest i stmt is

  parted_at : (stmts : List TacStmt) (i : ℕ) (stmt : TacStmt) → i < length stmts → stmt ≡ get_or stmts i stmt →
      drop i (pieces stmts) ≡ one stmts i stmt ∷ drop (suc i) (pieces stmts)
  parted_at stmts i stmt h is =
      let parts : List Piece = map (select frame places plan) stmts in
      joined_at frame places plan Other parts i (select frame places plan stmt) (omega (
        arith,
        h,
        length-map stmts (select frame
            places plan),
      )) (selected_at stmts i stmt is) ∙
      ap (λ role. between frame places role (select frame places plan stmt) (role_first (drop (suc i) parts)) ∷
      drop (suc i) (pieces stmts)) (role_in_is frame places plan parts i
      (omega (arith, h, length-map stmts (select frame places plan)))) ∙
      ap (λ following. between frame places (role_before parts i) (select frame places plan stmt)
      (role_first following) ∷
      drop (suc i) (pieces stmts)) (drop_map frame places plan stmts (suc i))

  -- what the statements from one on need is no more than what all need
  rest_reaches : (stmts : List TacStmt) (i b c : ℕ) → Fits frame places plan stmts b c →
      ((from stmts i).size + b < 262143) × ((from stmts i).size + c < 262143)
  rest_reaches stmts i b c h =
      (omega (arith, turn_from (pieces stmts) i, h.breaks), omega (arith, turn_from (pieces stmts) i, h.continues))

  one_fits : (stmts : List TacStmt) (i : ℕ) (stmt : TacStmt) (before following : Role) (b c n : ℕ) → i < length stmts →
      stmt ≡ get_or stmts i stmt → n ≡ (from stmts (suc i)).size →
      before ≡ role_before (map (select frame places plan) stmts) i →
      following ≡ role_first (map (select frame places plan) (drop (suc i) stmts)) → Fits frame places plan stmts b c →
      FitsBetween frame places plan before stmt following (n + b) (n + c)
  one_fits stmts i stmt before following b c n h is n_is before_is after_is fits =
      let parts : (from stmts i).size ≡ (one stmts i stmt).size + (from stmts (suc i)).size =
      ap (λ parts. (in_turn parts).size) (parted_at stmts i stmt h is) in
      let same : between frame places before (select frame places plan stmt) following ≡ one stmts i stmt =
      ap₂ (λ r s. between frame places r (select frame places plan stmt) s) before_is after_is in
      let size_is : (between frame places before (select frame places plan stmt) following).size ≡ (one stmts i
      stmt).size =
      ap (λ p. p.size) same in
      record {
        few_arguments = ap (λ b. b && true) (and_first (fold-TacStmt Bool (with_parts passes_few) stmt) _
            (subst (λ l. everywhere passes_few l ≡ true) (parted stmts i stmt h is)
            (few_from stmts i fits.few_arguments)));
        breaks = omega (arith, n_is, parts, size_is, turn_from (pieces stmts) i, fits.breaks);
        continues = omega (arith, n_is, parts, size_is, turn_from (pieces stmts) i, fits.continues);
      }

  one_written : (stmts : List TacStmt) (i : ℕ) (stmt : TacStmt) (b c n : ℕ) (old l1 l2 : List Line) →
      i < length stmts → stmt ≡ get_or stmts i stmt → n ≡ (from stmts (suc i)).size →
      l1 ≡ (from stmts (suc i)).lines b c ++ old → l2 ≡ (one stmts i stmt).lines (n + b) (n + c) ++ l1 →
      l2 ≡ (from stmts i).lines b c ++ old
  one_written stmts i stmt b c n old l1 l2 h is n_is h1 h2 =
      let rest : Piece = from stmts (suc i) in
      let first : List Line = (one stmts i stmt).lines (rest.size + b) (rest.size + c) in
      let e2 : l2 ≡ first ++ (rest.lines b c ++ old) =
      h2 ∙ ap (λ n. (one stmts i stmt).lines (n + b) (n + c) ++ l1) n_is ∙ ap (λ l. first ++ l) h1 in
      e2 ∙ sym (append_assoc first (rest.lines b c) old) ∙
      ap (λ parts. (in_turn parts).lines b c ++ old) (sym (parted_at stmts i stmt h is))

  -- the same where the statements from a number on are written, and the one before them is next
  pub step_reaches : (stmts list : List TacStmt) (at b c n m : ℕ) (now old : List Line) → list ≡ stmts →
      Fits frame places plan stmts b c → n ≡ length now → m ≡ length old → now ≡ (from list at).lines b c ++ old →
      (n - m + b < 262143) × (n - m + c < 262143)
  step_reaches stmts list at b c n m now old same fits hn hm h =
      let size_is : n - m ≡ (from list at).size = written_from list at b c n m now old hn hm h in
      let within : Fits frame places plan list b c = subst (λ l. Fits frame places plan l b c) (sym same) fits in
      let reaches : ((from list at).size + b < 262143) × ((from list at).size + c < 262143) =
      rest_reaches list at b c within in
      (omega (arith, size_is, reaches.0), omega (arith, size_is, reaches.1))

  from_next : (list : List TacStmt) (at n m b c : ℕ) (now old : List Line) → 0 < at → n ≡ length now → m ≡ length old →
      now ≡ (from list at).lines b c ++ old → n - m ≡ (from list (suc (at - 1))).size
  from_next list at n m b c now old some hn hm h =
      let next : at ≡ suc (at - 1) = omega (arith, some) in
      written_from list at b c n m now old hn hm h ∙ ap (λ i. (from list i).size) next

  pub step_fits : (stmts list : List TacStmt) (at b c n m : ℕ) (stmt : TacStmt) (before following : Role)
      (now old : List Line) → list ≡ stmts → 0 < at → at ≤ length list → stmt ≡ get_or list (at - 1) stmt →
      ((frame : FrameTree) (places : List Place) → before ≡ role_before (map (select frame places plan) list) (at -
      1)) →
      ((frame : FrameTree) (places : List Place) →
      following ≡ role_first (map (select frame places plan) (drop (at - 1 + 1) list))) →
      Fits frame places plan stmts b c → n ≡ length now → m ≡ length old → now ≡ (from list at).lines b c ++ old →
      FitsBetween frame places plan before stmt following (n - m + b) (n - m + c)
  step_fits stmts list at b c n m stmt before following now old same some within is before_is after_is fits hn hm h =
      let next : at - 1 + 1 ≡ suc (at - 1) = omega arith in
      one_fits list (at - 1) stmt before following b c (n - m) (omega (arith, some, within)) is
      (from_next list at n m b c now old some hn hm h) (before_is frame places)
      (after_is frame places ∙ ap (λ i. role_first (map (select frame places plan) (drop i list))) next)
      (subst (λ l. Fits frame places plan l b c) (sym same) fits)

  pub step_written : (list : List TacStmt) (at b c n m : ℕ) (stmt : TacStmt) (before following : Role)
      (now old new : List Line) → 0 < at → at ≤ length list → stmt ≡ get_or list (at - 1) stmt →
      ((frame : FrameTree) (places : List Place) → before ≡ role_before (map (select frame places plan) list) (at -
      1)) →
      ((frame : FrameTree) (places : List Place) →
      following ≡ role_first (map (select frame places plan) (drop (at - 1 + 1) list))) →
      n ≡ length now → m ≡ length old → now ≡ (from list at).lines b c ++ old →
      new ≡ (between frame places before (select frame places plan stmt) following).lines (n - m + b) (n - m + c) ++ now
      →
      new ≡ (from list (at - 1)).lines b c ++ old
  step_written list at b c n m stmt before following now old new some within is before_is after_is hn hm h k =
      let next : at ≡ suc (at - 1) = omega (arith, some) in
      let next' : at - 1 + 1 ≡ suc (at - 1) = omega arith in
      let after_here = after_is frame places ∙
      ap (λ i. role_first (map (select frame places plan) (drop i list))) next' in
      one_written list (at - 1) stmt b c (n - m) old now new (omega (arith, some, within)) is
      (from_next list at n m b c now old some hn hm h) (h ∙ ap (λ i. (from list i).lines b c ++ old) next)
      (k ∙ ap₂ (λ r s. (between frame places r (select frame places plan stmt) s).lines (n - m + b) (n - m + c) ++
      now)
      (before_is frame places) after_here)

  -- all are written, and none yet
  pub none_written : (list : List TacStmt) (b c : ℕ) (old : List Line) →
      old ≡ (from list (length list)).lines b c ++ old
  none_written list b c old =
      ap (λ parts. (in_turn parts).lines b c ++ old)
      (sym (all_dropped (pieces list) (length list) (joined_length frame places plan Other (map (select frame places
      plan) list) ∙
      length-map list (select frame places plan))))
    where
      all_dropped : (parts : List Piece) (n : ℕ) → length parts ≡ n → drop n parts ≡ []
      all_dropped [] zero h = refl
      all_dropped [] (suc n) h = refl
      all_dropped (part ∷ parts) zero h = absurd (omega (arith, h))
      all_dropped (part ∷ parts) (suc n) h = all_dropped parts n (omega (arith, h))

  -- A STATEMENT BETWEEN TWO OTHERS
  module _ (before : Role) (stmt : TacStmt) (following role : Role) (is : role ≡ (select frame places plan stmt).role)
    where
      abbrev itself : Piece
      itself = select frame places plan stmt

      -- what the tests found
      by_tests : (one two : Bool) → joins (role_to_next before role) following ≡ one → joins before role ≡ two →
          between frame places before itself following ≡
          (if one then nothing else if two then as_one frame places before itself.role else itself)
      by_tests one two h k =
          ap₂ (λ a b. if a then nothing else if b then as_one frame places before itself.role else itself)
          (ap (λ r. joins (role_to_next before r) following) (sym is) ∙ h) (ap (joins before) (sym is) ∙ k)

      module _ (found : Bool) (both : found ≡ joins (role_to_next before role) following) where
        pub is_nothing : found ≡ true → nothing ≡ between frame places before itself following
        is_nothing k = sym (by_tests true (joins before role) (sym both ∙ k) refl)

        module _ (none : found ≡ false) (other : Bool) (one : other ≡ joins before role) where
          pub is_both : other ≡ true → as_one frame places before role ≡ between frame places before itself following
          is_both k =
              ap (as_one frame places before) is ∙ sym (by_tests false true (sym both ∙ none) (sym one ∙ k))

          pub is_itself : other ≡ false → itself ≡ between frame places before itself following
          is_itself k = sym (by_tests false false (sym both ∙ none) (sym one ∙ k))

          pub unjoined_fits : (b c : ℕ) → other ≡ false → FitsBetween frame places plan before stmt following b c →
              Fits frame places plan (stmt ∷ []) b c
          unjoined_fits b c k h =
              let same : itself.size ≡ (between frame places before itself following).size =
              ap (λ p. p.size) (is_itself k) in
              record {
                few_arguments = h.few_arguments;
                breaks = omega (arith, h.breaks, same, single_size b c stmt);
                continues = omega (arith, h.continues, same, single_size b c stmt);
              }

-- one piece is written, which is another
pub as_written : {T E : Type 0} (r : Result T E) (p q : Piece) (b c : ℕ) (new old : List Line) → p ≡ q →
    OnOk r (new ≡ p.lines b c ++ old) → OnOk r (new ≡ q.lines b c ++ old)
as_written r p q b c new old is h = on_ok_weaker r (λ k. k ∙ ap (λ p. p.lines b c ++ old) is) h

-- whether a statement is one with its neighbour, by its role
pub joined_by : (role same following : Role) (found : Bool) → role ≡ same → found ≡ joins role following →
    found ≡ joins same following
joined_by role same following found is h = h ∙ ap (λ r. joins r following) is
