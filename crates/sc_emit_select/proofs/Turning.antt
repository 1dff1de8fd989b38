-- Loops that end with their test: which they are.
use Rattle.sc_emit_select.proofs.Common.{Bool, Breaks, Each, FrameTree, Kind, List, None, Option, Piece, Place, Plain}
use Rattle.sc_emit_select.proofs.Common.{Plan, Some, Strays, TacStmt, TacStmt-F, Tests, [], all_plain, and_first}
use Rattle.sc_emit_select.proofs.Common.{and_rest, ap, ap₂, arith, before_test, breaks, cycle, drop, ending_test}
use Rattle.sc_emit_select.proofs.Common.{eqb-true, false, fold-roll-TacStmt, get_or, if◌then◌else◌, in_order, is_break}
use Rattle.sc_emit_select.proofs.Common.{is_plain, kind_by, kind_of_fork, length, map, map-TacStmt, refl, rotated}
use Rattle.sc_emit_select.proofs.Common.{select, select_step, stmt_induction, subst, suc, sym, test_by, test_of, true}
use Rattle.sc_emit_select.proofs.Common.{turning, zero, ℕ, ◌&&◌, ◌++◌, ◌-◌, ◌<◌, ◌==◌, ◌∙◌, ◌∷◌, ◌≡◌, ◌≤◌}
use Rattle.std.proofs.Common.{take as take_prefix}
unfoldable use Rattle.sc_tac.specs.declared.stmt.TacStmt.{roll-TacStmt}
use Rattle.sc_tac.specs.declared.stmt.TacStmt.TheOpen as tac
use Rattle.sc_tac.specs.declared.stmt.TacStmt.TheVariants as emit

abbrev pub break_stmt : TacStmt
break_stmt = roll-TacStmt tac.Break

pub some_last : (stmts : List TacStmt) → (length stmts == 0) ≡ false → suc (length stmts - 1) ≡ length stmts
some_last [] h = cc h
some_last (stmt ∷ rest) h = omega arith

-- an `If` that breaks where a value is false
abbrev pub test_stmt : ℕ → TacStmt
test_stmt cond = roll-TacStmt (tac.If cond [] (break_stmt ∷ []))

module _ (frame : FrameTree) (places : List Place) (plan : Plan) where
  abbrev code : TacStmt → Piece
  code = select frame places plan

  abbrev pub kind_of : TacStmt → Kind
  kind_of stmt = (code stmt).kind

  abbrev pub layer_kind : TacStmt-F TacStmt → Kind
  layer_kind layer = (select_step frame places plan (map-TacStmt _ _ code layer)).kind

  pub kind_is : (layer : TacStmt-F TacStmt) → kind_of (roll-TacStmt layer) ≡ layer_kind layer
  kind_is layer = ap (λ p. p.kind) (fold-roll-TacStmt Piece (select_step frame places plan) layer)

  turning_kind : (test : Option ℕ) (head : List Piece) (body next : Piece) →
      (turning frame places test head body next).kind ≡ Plain
  turning_kind None head body next = refl
  turning_kind (Some cond) head body next = refl

  pub loop_kind : (head body next : List TacStmt) → layer_kind (tac.Loop head body next) ≡ Plain
  loop_kind head body next =
      turning_kind (if plan.near then ending_test (map code head) else None) (map code head)
      (in_order frame places (map code body)) (in_order frame places (map code next))

  -- an `If` is a test, or neither plain nor a break
  kind_by_not : (P : Kind → Type 0) → P Strays → ((cond : ℕ) → P (Tests cond)) → (cond : ℕ) (kind : Kind) →
      P (kind_by cond kind)
  kind_by_not P none test cond Plain = none
  kind_by_not P none test cond Breaks = test cond
  kind_by_not P none test cond (Tests other) = none
  kind_by_not P none test cond Strays = none

  test_kind : (P : Kind → Type 0) → P Strays → ((cond : ℕ) → P (Tests cond)) → (cond : ℕ)
      (first second : List Piece) → P (test_by cond first second)
  test_kind P none test cond [] [] = none
  test_kind P none test cond [] (piece ∷ []) = kind_by_not P none test cond piece.kind
  test_kind P none test cond [] (piece ∷ more ∷ rest) = none
  test_kind P none test cond (piece ∷ rest) second = none

  pub fork_kind : (P : Kind → Type 0) → P Plain → P Strays → ((cond : ℕ) → P (Tests cond)) → (cond : ℕ)
      (first second : List Piece) → P (kind_of_fork cond first second)
  fork_kind P plain none test cond first second = by (all_plain first && all_plain second)
    where
      by : (b : Bool) → P (if b then Plain else test_by cond first second)
      by true = plain
      by false = test_kind P none test cond first second

  -- an `If` is plain where both parts are
  pub plain_fork : (cond : ℕ) (first second : List Piece) →
      is_plain (kind_of_fork cond first second) ≡ (all_plain first && all_plain second)
  plain_fork cond first second = by (all_plain first && all_plain second)
    where
      by : (b : Bool) → is_plain (if b then Plain else test_by cond first second) ≡ b
      by true = refl
      by false = test_kind (λ kind. is_plain kind ≡ false) refl (λ cond. refl) cond first second

  -- a break
  layer_breaks : (layer : TacStmt-F TacStmt) → layer_kind layer ≡ Breaks → roll-TacStmt layer ≡ break_stmt
  layer_breaks tac.Break h = refl
  layer_breaks (tac.If cond first second) h =
      absurd (fork_kind (λ kind. kind ≡ Breaks → ⊥) (λ e. cc e) (λ e. cc e) (λ cond e. cc e) cond (map code first)
      (map code second) h)
  layer_breaks (tac.Loop head body next) h =
      let other : Plain ≡ Breaks = sym (loop_kind head body next) ∙ h in cc other
  layer_breaks _ h = cc h

  breaks_is : (stmt : TacStmt) → kind_of stmt ≡ Breaks → stmt ≡ break_stmt
  breaks_is = stmt_induction (λ stmt. kind_of stmt ≡ Breaks → stmt ≡ break_stmt)
      (λ layer inside h. layer_breaks layer (sym (kind_is layer) ∙ h))

  -- any other is none
  pub not_break : (stmt : TacStmt) → (stmt ≡ emit.Break → ⊥) → false ≡ breaks (kind_of stmt)
  unfolding roll-TacStmt denote.Hole.Carrier.roll
  not_break stmt h = by (kind_of stmt) (λ is. h (breaks_is stmt is))
    where
      by : (kind : Kind) → (kind ≡ Breaks → ⊥) → false ≡ breaks kind
      by Plain k = refl
      by Breaks k = absurd (k refl)
      by (Tests cond) k = refl
      by Strays k = refl

  -- a test
  kind_by_test : (cond other : ℕ) (kind : Kind) → test_of (kind_by cond kind) ≡ Some other →
      (kind ≡ Breaks) × (cond ≡ other)
  kind_by_test cond other Breaks h = (refl, cc h)
  kind_by_test cond other Plain h = cc h
  kind_by_test cond other (Tests c) h = cc h
  kind_by_test cond other Strays h = cc h

  same_kind : (cond : ℕ) (kind : Kind) →
      test_of (if is_plain kind && true then Plain else kind_by cond kind) ≡ test_of (kind_by cond kind)
  same_kind cond Plain = refl
  same_kind cond Breaks = refl
  same_kind cond (Tests other) = refl
  same_kind cond Strays = refl

  -- one that is plain is no test
  same_test : (cond : ℕ) (first second : List Piece) →
      test_of (kind_of_fork cond first second) ≡ test_of (test_by cond first second)
  same_test cond [] [] = refl
  same_test cond [] (piece ∷ []) = same_kind cond piece.kind
  same_test cond [] (piece ∷ more ∷ rest) = by (all_plain (piece ∷ more ∷ rest))
    where
      by : (b : Bool) → test_of (if b then Plain else Strays) ≡ None
      by true = refl
      by false = refl
  same_test cond (piece ∷ rest) second = by (all_plain (piece ∷ rest) && all_plain second)
    where
      by : (b : Bool) → test_of (if b then Plain else Strays) ≡ None
      by true = refl
      by false = refl

  if_tests : (other : ℕ) (first second : List TacStmt) (cond : ℕ) →
      test_of (test_by other (map code first) (map code second)) ≡ Some cond →
      roll-TacStmt (tac.If other first second) ≡ test_stmt cond
  if_tests other [] (stmt ∷ []) cond h =
      let its = kind_by_test other cond (kind_of stmt) h in
      ap₂ (λ c s. roll-TacStmt (tac.If c [] (s ∷ []))) its.1 (breaks_is stmt its.0)
  if_tests other [] [] cond h = cc h
  if_tests other [] (stmt ∷ more ∷ rest) cond h = cc h
  if_tests other (stmt ∷ rest) second cond h = cc h

  layer_tests : (layer : TacStmt-F TacStmt) (cond : ℕ) → test_of (layer_kind layer) ≡ Some cond →
      roll-TacStmt layer ≡ test_stmt cond
  layer_tests (tac.If other first second) cond h =
      if_tests other first second cond (sym (same_test other (map code first) (map code second)) ∙ h)
  layer_tests (tac.Loop head body next) cond h =
      let other : None ≡ Some cond = sym (ap test_of (loop_kind head body next)) ∙ h in cc other
  layer_tests _ cond h = cc h

  pub tests_it : (stmt : TacStmt) (cond : ℕ) → test_of (kind_of stmt) ≡ Some cond → stmt ≡ test_stmt cond
  tests_it = stmt_induction (λ stmt. (cond : ℕ) → test_of (kind_of stmt) ≡ Some cond → stmt ≡ test_stmt cond)
      (λ layer inside cond h. layer_tests layer cond (sym (ap test_of (kind_is layer)) ∙ h))

  -- the same by a test of each part
  test_by_kind : (cond : ℕ) (kind : Kind) → (if breaks kind then Some cond else None) ≡ test_of (kind_by cond kind)
  test_by_kind cond Plain = refl
  test_by_kind cond Breaks = refl
  test_by_kind cond (Tests other) = refl
  test_by_kind cond Strays = refl

  parts_test : (cond : ℕ) (first second : List TacStmt) →
      (if (length first == 0) && is_break (map code second) then Some cond else None) ≡
      test_of (test_by cond (map code first) (map code second))
  parts_test cond [] (stmt ∷ []) = test_by_kind cond (kind_of stmt)
  parts_test cond [] [] = refl
  parts_test cond [] (stmt ∷ more ∷ rest) = refl
  parts_test cond (stmt ∷ rest) second =
      ap (λ b. if b && is_break (map code second) then Some cond else None) (by (length (stmt ∷ rest) == 0) refl)
    where
      by : (b : Bool) → (length (stmt ∷ rest) == 0) ≡ b → (length (stmt ∷ rest) == 0) ≡ false
      by true h = absurd (omega (arith, eqb-true (length (stmt ∷ rest)) 0 h))
      by false h = h

  pub forked : (cond : ℕ) (first second : List TacStmt) (none broken : Bool) → none ≡ (length first == 0) →
      broken ≡ is_break (map code second) →
      (if none && broken then Some cond else None) ≡
      test_of (kind_of_fork cond (map code first) (map code second))
  forked cond first second none broken h k =
      ap₂ (λ a b. if a && b then Some cond else None) h k ∙ parts_test cond first second ∙
      sym (same_test cond (map code first) (map code second))

  pub test_of_if : (stmt : TacStmt) (cond : ℕ) (first second one two : List TacStmt) →
      stmt ≡ emit.If cond first second →
      one ≡ first → two ≡ second →
      test_of (kind_of_fork cond (map code one) (map code two)) ≡ test_of (kind_of stmt)
  unfolding roll-TacStmt denote.Hole.Carrier.roll
  test_of_if stmt cond first second one two is h k =
      ap₂ (λ a b. test_of (kind_of_fork cond (map code a) (map code b))) h k ∙
      sym (ap test_of (kind_is (tac.If cond first second))) ∙ ap (λ s. test_of (kind_of s)) (sym is)

  -- whether statements are plain, by those before a place and that there
  pub plain_if : (stmt : TacStmt) (cond : ℕ) (first second one two : List TacStmt) →
      stmt ≡ emit.If cond first second → one ≡ first → two ≡ second →
      (all_plain (map code one) && all_plain (map code two)) ≡ is_plain (kind_of stmt)
  unfolding roll-TacStmt denote.Hole.Carrier.roll
  plain_if stmt cond first second one two is h k =
      ap₂ (λ a b. all_plain (map code a) && all_plain (map code b)) h k ∙
      sym (plain_fork cond (map code first) (map code second)) ∙
      sym (ap is_plain (kind_is (tac.If cond first second))) ∙ ap (λ s. is_plain (kind_of s)) (sym is)

  pub plain_so_far : (stmts : List TacStmt) (at : ℕ) (stmt : TacStmt) → at < length stmts →
      stmt ≡ get_or stmts at stmt →
      is_plain (kind_of stmt) ≡ true →
      all_plain (map code (drop at stmts)) ≡ all_plain (map code (drop (suc at) stmts))
  plain_so_far [] at stmt h is plain = absurd (omega (arith, h))
  plain_so_far (first ∷ rest) zero stmt h is plain =
      ap (λ b. b && all_plain (map code rest)) (sym (ap (λ s. is_plain (kind_of s)) is) ∙ plain)
  plain_so_far (first ∷ rest) (suc at) stmt h is plain = plain_so_far rest at stmt (omega (arith, h)) is plain

  pub not_all_plain : (stmts : List TacStmt) (at : ℕ) (stmt : TacStmt) → at < length stmts →
      stmt ≡ get_or stmts at stmt → is_plain (kind_of stmt) ≡ false → all_plain (map code (drop at stmts)) ≡ false
  not_all_plain [] at stmt h is plain = absurd (omega (arith, h))
  not_all_plain (first ∷ rest) zero stmt h is plain =
      ap (λ b. b && all_plain (map code rest)) (sym (ap (λ s. is_plain (kind_of s)) is) ∙ plain)
  not_all_plain (first ∷ rest) (suc at) stmt h is plain = not_all_plain rest at stmt (omega (arith, h)) is plain

  pub none_left : (stmts : List TacStmt) (at : ℕ) → length stmts ≤ at → all_plain (map code (drop at stmts)) ≡ true
  none_left [] zero h = refl
  none_left [] (suc at) h = refl
  none_left (first ∷ rest) zero h = absurd (omega (arith, h))
  none_left (first ∷ rest) (suc at) h = none_left rest at (omega (arith, h))

  -- each of statements that are plain is
  pub each_plain : (stmts : List TacStmt) → all_plain (map code stmts) ≡ true →
      Each (λ stmt. is_plain (kind_of stmt) ≡ true) stmts
  each_plain [] h = tt
  each_plain (stmt ∷ rest) h = (
    and_first (is_plain (kind_of stmt)) (all_plain (map code rest)) h,
    each_plain rest (and_rest (is_plain (kind_of stmt)) (all_plain (map code rest)) h),
  )

  pub no_break : (stmts : List TacStmt) → (length stmts ≡ 1 → ⊥) → false ≡ is_break (map code stmts)
  no_break [] h = refl
  no_break (stmt ∷ []) h = absurd (h refl)
  no_break (stmt ∷ more ∷ rest) h = refl

  pub single_break : (stmts : List TacStmt) (stmt : TacStmt) → length stmts ≡ 1 → stmt ≡ get_or stmts 0 stmt →
      breaks (kind_of stmt) ≡ is_break (map code stmts)
  single_break [] stmt h is = absurd (omega (arith, h))
  single_break (first ∷ []) stmt h is = ap (λ s. breaks (kind_of s)) is
  single_break (first ∷ more ∷ rest) stmt h is = absurd (omega (arith, h))

  -- the statements before a place are plain, and the rest decides
  pub test_after : (stmts : List TacStmt) (at : ℕ) (stmt : TacStmt) → suc at < length stmts →
      stmt ≡ get_or stmts at stmt → is_plain (kind_of stmt) ≡ true →
      ending_test (map code (drop at stmts)) ≡ ending_test (map code (drop (suc at) stmts))
  test_after [] at stmt h is plain = absurd (omega (arith, h))
  test_after (first ∷ []) at stmt h is plain = absurd (omega (arith, h))
  test_after (first ∷ next ∷ rest) zero stmt h is plain =
      ap (λ b. if b then ending_test (map code (next ∷ rest)) else None)
      (sym (ap (λ s. is_plain (kind_of s)) is) ∙ plain)
  test_after (first ∷ next ∷ rest) (suc at) stmt h is plain =
      test_after (next ∷ rest) at stmt (omega (arith, h)) is plain

  pub test_refused : (stmts : List TacStmt) (at : ℕ) (stmt : TacStmt) → suc at < length stmts →
      stmt ≡ get_or stmts at stmt → is_plain (kind_of stmt) ≡ false →
      ending_test (map code (drop at stmts)) ≡ None
  test_refused [] at stmt h is plain = absurd (omega (arith, h))
  test_refused (first ∷ []) at stmt h is plain = absurd (omega (arith, h))
  test_refused (first ∷ next ∷ rest) zero stmt h is plain =
      ap (λ b. if b then ending_test (map code (next ∷ rest)) else None)
      (sym (ap (λ s. is_plain (kind_of s)) is) ∙ plain)
  test_refused (first ∷ next ∷ rest) (suc at) stmt h is plain =
      test_refused (next ∷ rest) at stmt (omega (arith, h)) is plain

  pub test_at_last : (stmts : List TacStmt) (at : ℕ) (stmt : TacStmt) → suc at ≡ length stmts →
      stmt ≡ get_or stmts at stmt → ending_test (map code (drop at stmts)) ≡ test_of (kind_of stmt)
  test_at_last [] at stmt h is = absurd (omega (arith, h))
  test_at_last (first ∷ []) zero stmt h is = ap (λ s. test_of (kind_of s)) (sym is)
  test_at_last (first ∷ []) (suc at) stmt h is = absurd (omega (arith, h))
  test_at_last (first ∷ next ∷ rest) zero stmt h is = absurd (omega (arith, h))
  test_at_last (first ∷ next ∷ rest) (suc at) stmt h is = test_at_last (next ∷ rest) at stmt (omega (arith, h)) is

  -- statements that end with a test, and are plain before it
  pub record IsTested (head : List TacStmt) (cond : ℕ) : Type 0 where
    pub init : List TacStmt
    pub is : head ≡ init ++ (test_stmt cond ∷ [])
    pub plain : Each (λ stmt. is_plain (kind_of stmt) ≡ true) init
    pub before : before_test (map code head) ≡ map code init

  pub tested : (head : List TacStmt) (cond : ℕ) → ending_test (map code head) ≡ Some cond → IsTested head cond
  tested [] cond h = cc h
  tested (stmt ∷ []) cond h = record {
    init = [];
    is = ap (λ s. s ∷ []) (tests_it stmt cond h);
    plain = tt;
    before = refl;
  }
  tested (stmt ∷ next ∷ rest) cond h =
      by (is_plain (kind_of stmt)) refl h (λ following. tested (next ∷ rest) cond following)
    where
      by : (b : Bool) → is_plain (kind_of stmt) ≡ b →
          (if b then ending_test (map code (next ∷ rest)) else None) ≡ Some cond →
          (ending_test (map code (next ∷ rest)) ≡ Some cond → IsTested (next ∷ rest) cond) →
          IsTested (stmt ∷ next ∷ rest) cond
      by true plain h later =
          let more : IsTested (next ∷ rest) cond = later h in
          let n : ℕ = length (map code rest) in
          let one : suc (suc n) - 1 ≡ suc n = omega arith in
          let two : suc n - 1 ≡ n = omega arith in
          record {
            init = stmt ∷ more.init;
            is = ap (λ l. stmt ∷ l) more.is;
            plain = (plain, more.plain);
            before =
                ap (λ k. take_prefix k (map code (stmt ∷ next ∷ rest))) one ∙
                ap (λ l. code stmt ∷ l)
                (sym (ap (λ k. take_prefix k (map code (next ∷ rest))) two) ∙ more.before);
          }
      by false plain h later = cc h

  -- what holds of a loop of either form holds of a loop
  pub turning_by : (P : Piece → Type 0) (head : List TacStmt) (body next : Piece) →
      P (cycle frame places (in_order frame places (map code head)) body next) →
      ((cond : ℕ) → plan.near ≡ true → (t : IsTested head cond) →
      P (rotated frame places cond (in_order frame places (map code t.init)) body next)) →
      P (turning frame places (if plan.near then ending_test (map code head) else None) (map code head) body next)
  turning_by P head body next first second = by plan.near refl
    where
      by_test : plan.near ≡ true → (test : Option ℕ) → ending_test (map code head) ≡ test →
          P (turning frame places test (map code head) body next)
      by_test near None h = first
      by_test near (Some cond) h =
          let t : IsTested head cond = tested head cond h in
          subst (λ pieces. P (rotated frame places cond (in_order frame places pieces) body next)) (sym t.before)
          (second cond near t)

      by : (b : Bool) → plan.near ≡ b →
          P (turning frame places (if b then ending_test (map code head) else None) (map code head) body next)
      by true near = by_test near (ending_test (map code head)) refl
      by false near = first

  -- those before the test are fewer statements of the same
  pub each_before : (Q : TacStmt → Type 0) (head init : List TacStmt) (cond : ℕ) →
      head ≡ init ++ (test_stmt cond ∷ []) → Each Q head → Each Q init
  each_before Q head init cond is h = prefix init (subst (Each Q) is h)
    where
      prefix : (xs : List TacStmt) → Each Q (xs ++ (test_stmt cond ∷ [])) → Each Q xs
      prefix [] h = tt
      prefix (x ∷ xs) h = (h.0, prefix xs h.1)
