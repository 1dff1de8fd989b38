-- What the code of a loop that ends with its test is made of, and that the jumps of its parts reach.
use Rattle.sc_emit_select.proofs.Common.{Bool, Fits, FitsLoop, FrameTree, Instr, Line, List, None, OnOk, Option, Piece}
use Rattle.sc_emit_select.proofs.Common.{Place, Plan, Result, Some, TacStmt, [], and_first, and_from, and_rest, ap}
use Rattle.sc_emit_select.proofs.Common.{append_assoc, arith, before_test, branch_back, cycle, ending_test, everywhere}
use Rattle.sc_emit_select.proofs.Common.{false, first_scratch, fold-TacStmt, fold-roll-TacStmt, if◌then◌else◌, in_order}
use Rattle.sc_emit_select.proofs.Common.{jump_over, length, length-append, length-map, map, on_ok_weaker, passes_few}
use Rattle.sc_emit_select.proofs.Common.{plain, plainly, refl, roll-TacStmt, rotated, select, select_all, select_step}
use Rattle.sc_emit_select.proofs.Common.{suc, sym, take, true, turning, weight, with_parts, zero, ℕ, ◌++◌, ◌+◌, ◌-◌}
use Rattle.sc_emit_select.proofs.Common.{◌<◌, ◌∙◌, ◌∷◌, ◌≡◌, ◌≤◌}
use Rattle.std.proofs.Common.{take as take_prefix}
use Rattle.sc_tac.specs.declared.stmt.TacStmt.TheOpen as tac
use Rattle.sc_tac.specs.declared.stmt.TacStmt.TheVariants as emit
use Rattle.sc_emit_select.proofs.Composition.{single_size, as_is, counted, few_in_cycle}

four_parts : (ws xs ys zs rest : List Line) →
    (ws ++ (xs ++ (ys ++ zs))) ++ rest ≡ ws ++ (xs ++ (ys ++ (zs ++ rest)))
four_parts ws xs ys zs rest =
    append_assoc ws (xs ++ (ys ++ zs)) rest ∙ ap (λ t. ws ++ t) (append_assoc xs (ys ++ zs) rest ∙
    ap (λ t. xs ++ t) (append_assoc ys zs rest))

-- THE PREFIX OF A HEAD
few_in_prefix : (stmts : List TacStmt) (n : ℕ) → everywhere passes_few stmts ≡ true →
    everywhere passes_few (take_prefix n stmts) ≡ true
few_in_prefix stmts zero h = refl
few_in_prefix [] (suc n) h = refl
few_in_prefix (stmt ∷ rest) (suc n) h =
    let own : Bool = fold-TacStmt Bool (with_parts passes_few) stmt in
    and_from own _ (and_first own _ h) (few_in_prefix rest n (and_rest own _ h))

pub prefix_lighter : (stmts : List TacStmt) (n : ℕ) → weight (take_prefix n stmts) ≤ weight stmts
prefix_lighter stmts zero = omega arith
prefix_lighter [] (suc n) = omega arith
prefix_lighter (stmt ∷ rest) (suc n) = omega (arith, prefix_lighter rest n)

map_prefix : {A B : Type 0} (f : A → B) (xs : List A) (n : ℕ) → map f (take_prefix n xs) ≡ take_prefix n (map f xs)
map_prefix f xs zero = refl
map_prefix f [] (suc n) = refl
map_prefix f (x ∷ xs) (suc n) = ap (λ l. f x ∷ l) (map_prefix f xs n)

module _ (frame : FrameTree) (places : List Place) (plan : Plan) where
  abbrev code : TacStmt → Piece
  code = select frame places plan

  abbrev all : List TacStmt → Piece
  all = select_all frame places plan

  abbrev prefix : List TacStmt → List TacStmt
  prefix head = take_prefix (length head - 1) head

  prefix_is : (head : List TacStmt) → before_test (map code head) ≡ map code (prefix head)
  prefix_is head =
      ap (λ n. take_prefix (n - 1) (map code head)) (length-map head code) ∙
      sym (map_prefix code head (length head - 1))

  -- which test a loop ends with
  abbrev test_of_head : List TacStmt → Option ℕ
  test_of_head head = if plan.near then ending_test (map code head) else None

  -- the code of a loop
  loop_is : (head body next : List TacStmt) →
      code (emit.Loop head body next) ≡ turning frame places (test_of_head head) (map code head) (all body) (all next)
  unfolding roll-TacStmt denote.Hole.Carrier.roll
  loop_is head body next = fold-roll-TacStmt Piece (select_step frame places plan) (tac.Loop head body next)

  pub cycle_is : (head body next : List TacStmt) (test : Option ℕ) → test ≡ test_of_head head → test ≡ None →
      code (emit.Loop head body next) ≡ cycle frame places (all head) (all body) (all next)
  cycle_is head body next test found none =
      loop_is head body next ∙
      ap (λ t. turning frame places t (map code head) (all body) (all next)) (sym found ∙ none)

  pub rotated_is : (head body next : List TacStmt) (test : Option ℕ) (cond : ℕ) → test ≡ test_of_head head →
      test ≡ Some cond →
      code (emit.Loop head body next) ≡ rotated frame places cond (all (prefix head)) (all body) (all next)
  rotated_is head body next test cond found some =
      loop_is head body next ∙
      ap (λ t. turning frame places t (map code head) (all body) (all next)) (sym found ∙ some) ∙
      ap (λ pieces. rotated frame places cond (in_order frame places pieces) (all body) (all next)) (prefix_is head)

  -- a head with a test has a statement
  pub some_in_head : (head : List TacStmt) (test : Option ℕ) (cond : ℕ) → test ≡ test_of_head head →
      test ≡ Some cond → 1 ≤ length head
  some_in_head head test cond found some = by plan.near head (sym found ∙ some)
    where
      by : (near : Bool) (head : List TacStmt) → (if near then ending_test (map code head) else None) ≡ Some cond →
          1 ≤ length head
      by true [] h = cc h
      by false [] h = cc h
      by near (stmt ∷ rest) h = omega arith

  -- the parts of a loop of either form fit where it does
  loop_size : (head body next : List TacStmt) → Fits frame places plan (emit.Loop head body next ∷ []) 0 0 →
      (code (emit.Loop head body next)).size < 262143
  loop_size head body next h =
      omega (arith, h.breaks, single_size frame places plan 0 0 (emit.Loop head body next))

  pub cycle_fits : (head body next : List TacStmt) (test : Option ℕ) → test ≡ test_of_head head → test ≡ None →
      Fits frame places plan (emit.Loop head body next ∷ []) 0 0 → FitsLoop frame places plan head body next 2
  cycle_fits head body next test found none h =
      let few = few_in_cycle head body next h.few_arguments in
      let whole : (code (emit.Loop head body next)).size ≡ 2 + ((all head).size + ((all body).size + (all next).size)) =
      ap (λ p. p.size) (cycle_is head body next test found none) in
      record {
        few_in_head = few.0;
        few_in_body = few.1;
        few_in_next = few.2;
        reaches = omega (arith, whole, loop_size head body next h);
      }

  pub rotated_fits : (head body next : List TacStmt) (test : Option ℕ) (cond : ℕ) → test ≡ test_of_head head →
      test ≡ Some cond → Fits frame places plan (emit.Loop head body next ∷ []) 0 0 →
      FitsLoop frame places plan (prefix head) body next (2 + length (take frame places first_scratch cond))
  rotated_fits head body next test cond found some h =
      let few = few_in_cycle head body next h.few_arguments in
      let before : ℕ = length (take frame places first_scratch cond) in
      let whole : (code (emit.Loop head body next)).size ≡
      1 + ((all body).size + ((all next).size + ((all (prefix head)).size + suc before))) =
      ap (λ p. p.size) (rotated_is head body next test cond found some) in
      record {
        few_in_head = few_in_prefix head (length head - 1) few.0;
        few_in_body = few.1;
        few_in_next = few.2;
        reaches = omega (arith, whole, loop_size head body next h);
      }

  -- a loop needs as much wherever it stands
  pub loop_fits : (stmt : TacStmt) (head body next : List TacStmt) (b c : ℕ) → stmt ≡ emit.Loop head body next →
      Fits frame places plan (stmt ∷ []) b c → Fits frame places plan (emit.Loop head body next ∷ []) 0 0
  loop_fits stmt head body next b c is h =
      let fits : Fits frame places plan (emit.Loop head body next ∷ []) b c =
      as_is frame places plan stmt (emit.Loop head body next) b c is h in
      record {
        few_arguments = fits.few_arguments;
        breaks = omega (arith, fits.breaks);
        continues = omega (arith, fits.continues);
      }

  pub written_as : {T E : Type 0} (r : Result T E) (p q : Piece) (b c : ℕ) (new old : List Line) → q ≡ p →
      OnOk r (new ≡ p.lines b c ++ old) → OnOk r (new ≡ q.lines b c ++ old)
  written_as r p q b c new old is h = on_ok_weaker r (λ k. k ∙ ap (λ p. p.lines b c ++ old) (sym is)) h

  -- the operand of a test, by the register that it comes to
  pub taken_by : (cond scratch same : ℕ) (new old : List Line) → scratch ≡ same →
      new ≡ plainly (take frame places scratch cond) ++ old → new ≡ plainly (take frame places same cond) ++ old
  taken_by cond scratch same new old is h = h ∙ ap (λ r. plainly (take frame places r cond) ++ old) is

  -- WRITING
  module _ (cond : ℕ) (head body next : List TacStmt)
      (fits : FitsLoop frame places plan head body next (2 + length (take frame places first_scratch cond)))
      (first : Instr) (old l0 l1 : List Line) (end : ℕ) (h0 : l0 ≡ plain first ∷ old)
      (h1 : l1 ≡ plainly (take frame places first_scratch cond) ++ l0) (end_is : end ≡ length old) where
    abbrev before : List Instr
    before = take frame places first_scratch cond

    abbrev test : ℕ
    test = suc (length before)

    test_written : length l1 ≡ end + test
    test_written =
        let start : length l0 ≡ suc (length old) = ap length h0 in
        let more : length l1 ≡ length (plainly before ++ l0) = ap length h1 in
        omega (arith, start, more, end_is, length-append (plainly before) l0, length-map before plain)

    pub head_reaches : (end ≤ length l1) × Fits frame places plan head (length l1 - end) 0
    head_reaches = (
      omega (arith, test_written),
      record {
        few_arguments = fits.few_in_head;
        breaks = omega (arith, test_written, fits.reaches);
        continues = omega (arith, fits.reaches);
      },
    )

    module _ (l2 : List Line) (h2 : l2 ≡ (all head).lines (length l1 - end) 0 ++ l1) where
      head_written : length l2 ≡ end + ((all head).size + test)
      head_written =
          let more : length l2 ≡ (all head).size + length l1 =
          counted frame places plan head (length l1 - end) 0 l2 l1 (length l2) (length l1) refl refl h2 in
          omega (arith, more, test_written)

      pub next_reaches : (end ≤ length l2) × Fits frame places plan next (length l2 - end) 0
      next_reaches = (
        omega (arith, head_written),
        record {
          few_arguments = fits.few_in_next;
          breaks = omega (arith, head_written, fits.reaches);
          continues = omega (arith, fits.reaches);
        },
      )

      module _ (l3 : List Line) (h3 : l3 ≡ (all next).lines (length l2 - end) 0 ++ l2) where
        next_written : length l3 ≡ end + ((all next).size + ((all head).size + test))
        next_written =
            let more : length l3 ≡ (all next).size + length l2 =
            counted frame places plan next (length l2 - end) 0 l3 l2 (length l3) (length l2) refl refl h3 in
            omega (arith, more, head_written)

        pub body_reaches : (end ≤ length l3) × Fits frame places plan body (length l3 - end) 0
        body_reaches = (
          omega (arith, next_written),
          record {
            few_arguments = fits.few_in_body;
            breaks = omega (arith, next_written, fits.reaches);
            continues = omega (arith, fits.reaches);
          },
        )

        module _ (l4 : List Line) (h4 : l4 ≡ (all body).lines (length l3 - end) 0 ++ l3) (n m following : ℕ)
            (n_is : n ≡ length l4) (m_is : m ≡ length l4) (after_is : following ≡ length l2) where
          body_written : length l4 ≡ end + ((all body).size + ((all next).size + ((all head).size + test)))
          body_written =
              let more : length l4 ≡ (all body).size + length l3 =
              counted frame places plan body (length l3 - end) 0 l4 l3 (length l4) (length l3) refl refl h4 in
              omega (arith, more, next_written)

          over_is : n - following ≡ (all body).size + (all next).size
          over_is = omega (arith, n_is, after_is, body_written, head_written)

          lines_is : m - end - 1 ≡ ((all body).size + ((all next).size + (all head).size)) + length before
          lines_is = omega (arith, m_is, body_written)

          pub over_reaches : n - following < 262143
          over_reaches = omega (arith, over_is, fits.reaches)

          pub lines_reach : m - end - 1 < 262143
          lines_reach = omega (arith, lines_is, fits.reaches)

          pub all_written : (jump back : Instr) (l5 new : List Line) (b c : ℕ) → l5 ≡ plain jump ∷ l4 →
              plain jump ≡ jump_over (n - following) → plain back ≡ branch_back frame places cond (m - end - 1) →
              ((prefix rest : List Line) (line : Line) → l5 ≡ prefix ++ line ∷ rest → length rest ≡ end →
              new ≡ prefix ++ record line { instr = back } ∷ rest) →
              new ≡ (rotated frame places cond (all head) (all body) (all next)).lines b c ++ old
          all_written jump back l5 new b c h5 jumps leads replaced =
              let ws : List Line = (all body).lines ((all next).size + ((all head).size + test)) 0 in
              let xs : List Line = (all next).lines ((all head).size + test) 0 in
              let ys : List Line = (all head).lines test 0 in
              let zs : List Line = plainly before in
              let last : Line =
              branch_back frame places cond ((all body).size + ((all next).size + (all head).size) + length before) in
              let opens : Line = jump_over ((all body).size + (all next).size) in
              let d1 : length l1 - end ≡ test = omega (arith, test_written) in
              let d2 : length l2 - end ≡ (all head).size + test = omega (arith, head_written) in
              let d3 : length l3 - end ≡ (all next).size + ((all head).size + test) = omega (arith, next_written) in
              let e1 : l1 ≡ zs ++ (plain first ∷ old) = h1 ∙ ap (λ t. zs ++ t) h0 in
              let e2 : l2 ≡ ys ++ (zs ++ (plain first ∷ old)) =
              h2 ∙ ap (λ n. (all head).lines n 0 ++ l1) d1 ∙ ap (λ t. ys ++ t) e1 in
              let e3 : l3 ≡ xs ++ (ys ++ (zs ++ (plain first ∷ old))) =
              h3 ∙ ap (λ n. (all next).lines n 0 ++ l2) d2 ∙ ap (λ t. xs ++ t) e2 in
              let e4 : l4 ≡ ws ++ (xs ++ (ys ++ (zs ++ (plain first ∷ old)))) =
              h4 ∙ ap (λ n. (all body).lines n 0 ++ l3) d3 ∙ ap (λ t. ws ++ t) e3 in
              let split : l5 ≡ (opens ∷ (ws ++ (xs ++ (ys ++ zs)))) ++ (plain first ∷ old) =
              h5 ∙ ap (λ l. l ∷ l4) (jumps ∙ ap jump_over over_is) ∙
              ap (λ t. opens ∷ t) (e4 ∙ sym (four_parts ws xs ys zs (plain first ∷ old))) in
              let put : new ≡ (opens ∷ (ws ++ (xs ++ (ys ++ zs)))) ++ (plain back ∷ old) =
              replaced (opens ∷ (ws ++ (xs ++ (ys ++ zs)))) old (plain first) split (sym end_is) in
              let same : plain back ≡ last = leads ∙ ap (branch_back frame places cond) lines_is in
              let joined : (ws ++ (xs ++ (ys ++ zs))) ++ (last ∷ old) ≡
              (ws ++ (xs ++ (ys ++ (zs ++ last ∷ [])))) ++ old =
              sym (append_assoc (ws ++ (xs ++ (ys ++ zs))) (last ∷ []) old) ∙
              ap (λ t. t ++ old) (four_parts ws xs ys zs (last ∷ [])) in
              put ∙ ap (λ l. (opens ∷ (ws ++ (xs ++ (ys ++ zs)))) ++ (l ∷ old)) same ∙ ap (λ t. opens ∷ t) joined
