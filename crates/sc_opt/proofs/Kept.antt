-- What code does, what the pass gives of it does as well.
use Rattle.std.proofs.Common.{Bool, List, None, Ok, Option, Result, Some, [], ap, eq-eqb, eqb-true, false}
use Rattle.std.proofs.Common.{if◌then◌else◌, inl, inr, is_some, map, not, refl, subst, suc, sym, true, ℕ, ◌&&◌, ◌==◌}
use Rattle.std.proofs.Common.{◌+◌, ◌||◌, ◌∙◌, ◌∷◌, ◌≡◌, ◌⊎◌}
use Rattle.std.proofs.lemmas.Bool.{or_left, or_right}
use Rattle.std.specs.Option.{option_map}
use Rattle.sc_base.proofs.Bools.{and_first, and_rest}
use Rattle.sc_core.proofs.Induction.{Each, everywhere}
use Rattle.sc_core.specs.Prelude.{Arith, Blocks, Calls, Here, Left, Next, Piece, Reached}
use Rattle.sc_core.specs.Prelude.{Return, State, all_do, and_then, choose, computed, follow, in_order, is_true}
use Rattle.sc_core.specs.Combinators.{elements_allocated, released}
use Rattle.sc_core.specs.Prelude.{is_word, leave, load, stored, with_memory}
use Rattle.sc_core.specs.Memory.{freed, store}
use Rattle.sc_core.specs.declared.cause.Cause.{Cause}
use Rattle.sc_core.specs.declared.expr.CallTarget.{CallTarget}
use Rattle.sc_core.specs.declared.expr.CallTarget.TheVariants.{Own, Cross, Input, Output}
use Rattle.sc_core.specs.declared.value.Value.{Value}
use Rattle.sc_core_laws.specs.Prelude.{PiecesAgree}
use Rattle.sc_tac.proofs.Induction.{Inside, stmt_induction}
use Rattle.sc_tac.specs.Prelude.{Codes, Lives, Reading, TempSet, Temps, ahead_at, all_true, call_does}
use Rattle.sc_tac.specs.Prelude.{code_step, constant_value, gets, is_one, known, no_temps, nothing, one_or_none}
use Rattle.sc_tac.specs.Prelude.{op_does}
use Rattle.sc_tac.specs.Prelude.{operated, part_lives, read, reading, reading_step, received}
use Rattle.sc_tac.specs.Prelude.{row_first, row_fresh, second, start_of, stmt_does, with_parts}
use Rattle.sc_tac.specs.Prelude.{with_temp}
use Rattle.sc_tac.specs.declared.stmt.Constant.{Constant}
use Rattle.sc_tac.specs.declared.stmt.Constant.TheVariants as constant
use Rattle.sc_tac.specs.declared.stmt.TacOp.{TacOp}
use Rattle.sc_tac.specs.declared.stmt.TacStmt.{TacStmt, TacStmt-F, fold-TacStmt, fold-roll-TacStmt, map-TacStmt}
use Rattle.sc_tac.specs.declared.stmt.TacStmt.{roll-TacStmt}
use Rattle.sc_tac.specs.declared.stmt.TacStmt.TheOpen as tac
use Rattle.sc_opt.specs.Pass.{all_joined, all_used, folded, assigned}
use Rattle.sc_opt.specs.Pass.{is_word_constant, folded_from, assigned_step, gives_word, is_once, is_total}
use Rattle.sc_opt.specs.Pass.{keep_if, assigns_words}
use Rattle.sc_opt.specs.Pass.{on_constants, operator_code, pass, pass_step, present, reads_used, right_holds_word}
use Rattle.sc_opt.specs.Pass.{second_constant}
use Rattle.sc_opt.specs.Pass.{takes_promised, unless_folded, with_second}
use Rattle.sc_opt.proofs.Joined.{AtMost, below_first, below_rest, live_before, live_behind, never_both}
use Rattle.sc_opt.proofs.Joined.{not_same}
use Rattle.sc_opt.proofs.Joined.{one_part}
use Rattle.sc_opt.proofs.Agreement.{AreConstants, AreSources, Computed, Moved, begun, less}
use Rattle.sc_opt.proofs.Related.{At, Assignments, Follows, NotYet, AddsOnly, across, follows_along, follows_row}
use Rattle.sc_opt.proofs.Related.{follows_rounds, follows_within}
use Rattle.sc_opt.proofs.Values.{Fits, load_word, total_gives, words_computed}
use Rattle.sc_opt.proofs.Steps.{computed_related, does_option, either, gone, no_constant, pieces_then}
use Rattle.sc_opt.proofs.Steps.{plain_source, read_then, reads_all, rolled, stays, both}
use Rattle.sc_opt.proofs.Steps.{piece_related, unread}
use Rattle.sc_opt.specs.declared.facts.Assigned.{Assigned}
use Rattle.sc_opt.specs.declared.facts.Assigned.TheVariants.{ByConstant, ByCopy, ByOperator, Nowhere, Otherwise}
use Rattle.sc_opt.specs.declared.facts.Assigned.TheVariants.{Several}

some_otherwise : Otherwise ≡ Nowhere → ⊥
some_otherwise h = absurd (cc h)

no_copy : (u : ℕ) → Otherwise ≡ ByCopy u → ⊥
no_copy u h = absurd (cc h)

no_by_constant : (c : Constant) → Otherwise ≡ ByConstant c → ⊥
no_by_constant c h = absurd (cc h)

no_operator : (o : TacOp) (left : ℕ) (right : Option ℕ) → Otherwise ≡ ByOperator o left right → ⊥
no_operator o left right h = absurd (cc h)

-- what a statement gives to what it assigns
assigned_here : (d : ℕ) (x : Assigned) → (if d == d then x else Nowhere) ≡ x
assigned_here d x = ap (λ b. if b then x else Nowhere) (eq-eqb d d refl)

assigned_one : (d : ℕ) → (if d == d || false then Otherwise else Nowhere) ≡ Otherwise
assigned_one d = ap (λ b. if b || false then Otherwise else Nowhere) (eq-eqb d d refl)

-- what a test of words says of the temporary that a statement assigns
of_this : (d : ℕ) (b : Bool) → (not (d == d) || b) ≡ true → b ≡ true
of_this d b h = sym (ap (λ e. not e || b) (eq-eqb d d refl)) ∙ h

not_this : {B : Type 0} (d : ℕ) → not (d == d || false) ≡ true → B
not_this d h = let no : false ≡ true = sym (ap (λ e. not (e || false)) (eq-eqb d d refl)) ∙ h in absurd (cc no)

-- a statement that reads one
one_read : (t : ℕ) (following : Bool) → ((t == t || false) || following) ≡ true
one_read t following = or_left (t == t || false) following (or_left (t == t) false (eq-eqb t t refl))

module _ (table : ℕ → Assigned) (constants : ℕ → Option Constant) (source : ℕ → ℕ) (used holds_word : ℕ → Bool)
    (are_sources : AreSources table source used holds_word)
    (are_constants : AreConstants table constants source used holds_word)
    (arith : Arith) (fits : Fits arith) (here : Here) (C D : Calls) (gives : CallTarget → Bool)
    (calls : (target : CallTarget) (args : List Value) (s : State) →
    PiecesAgree (C here.comp target args s) (D here.comp target args s))
    (giving : (target : CallTarget) → gives target ≡ true → (args : List Value) (s t : State) (v : Option Value) →
    C here.comp target args s ≡ Reached v t → is_some v ≡ true) where
  abbrev pub first : TacStmt → Lives → TempSet
  first stmt lives t = (reading t stmt).first (ahead_at lives t)

  abbrev pub Known : TempSet → Temps → Temps → Temps → Type 0
  Known = At table constants source used holds_word

  abbrev pub New : Temps → Assignments → Type 0
  New = NotYet table constants source used holds_word

  abbrev pub Keeps : Lives → Temps → Assignments → Piece (Left Temps) → Piece (Left Temps) → Type 0
  Keeps = Follows table constants source used holds_word

  abbrev pub gone_or : Option TacStmt → Codes
  gone_or = does_option arith here D

  abbrev pub word_test : ℕ → TacStmt → Bool
  word_test t = fold-TacStmt Bool (with_parts (assigns_words t))

  abbrev pub use_test : TacStmt → Bool
  use_test = fold-TacStmt Bool (with_parts (reads_used constants source used))

  abbrev pub give_test : TacStmt → Bool
  give_test = fold-TacStmt Bool (with_parts (takes_promised gives))

  abbrev pub passes : TacStmt → Option TacStmt
  passes = pass constants source used holds_word

  -- what holds of a layer, from what is told of its parts
  pub record Rules (assignments : ℕ → Assigned) (word_tests : ℕ → Bool) (use_tests give_tests : Bool)
      (fresh_tests : ℕ → Bool) :
      Type 0 where
    pub below : (t : ℕ) → AtMost (assignments t) (table t)
    pub words : (t : ℕ) → holds_word t ≡ true → word_tests t ≡ true
    pub uses : use_tests ≡ true
    pub takes : give_tests ≡ true
    pub fresh : (t : ℕ) → fresh_tests t ≡ true

  abbrev Kept : TacStmt → Type 0
  Kept stmt = (lives : Lives) (g a b : Temps) (s : State) →
      Rules (λ t. assigned t stmt) (λ t. word_test t stmt) (use_test stmt) (give_test stmt)
      (λ t. (reading t stmt).fresh (ahead_at lives t)) →
      Known (first stmt lives) g a b → New g (λ t. assigned t stmt) →
      Keeps lives g (λ t. assigned t stmt) (stmt_does arith here C stmt a s) (gone_or (passes stmt) b s)

  abbrev assigned_at : TacStmt-F TacStmt → Assignments
  assigned_at k t = assigned_step t (map-TacStmt _ _ (assigned t) k)

  abbrev reading_at : TacStmt-F TacStmt → ℕ → Reading
  reading_at k t = reading_step t (map-TacStmt _ _ (reading t) k)

  abbrev words_at : TacStmt-F TacStmt → ℕ → Bool
  words_at k t = with_parts (assigns_words t) (map-TacStmt _ _ (word_test t) k)

  abbrev use_at : TacStmt-F TacStmt → Bool
  use_at k = with_parts (reads_used constants source used) (map-TacStmt _ _ use_test k)

  abbrev give_at : TacStmt-F TacStmt → Bool
  give_at k = with_parts (takes_promised gives) (map-TacStmt _ _ give_test k)

  abbrev KeptAt : TacStmt-F TacStmt → Type 0
  KeptAt k = (lives : Lives) (g a b : Temps) (s : State) →
      Rules (assigned_at k) (words_at k) (use_at k) (give_at k) (λ t. (reading_at k t).fresh (ahead_at lives t)) →
      Known (λ t. (reading_at k t).first (ahead_at lives t)) g a b → New g (assigned_at k) →
      Keeps lives g (assigned_at k) (code_step arith here C (map-TacStmt _ _ (stmt_does arith here C) k) a s)
      (gone_or (pass_step constants source used holds_word (map-TacStmt _ _ passes k)) b s)

  rolled_up : (k : TacStmt-F TacStmt) → KeptAt k → Kept (roll-TacStmt k)
  rolled_up k h lives g a b s rules p new =
      let assigned_is : (λ t. assigned t (roll-TacStmt k)) ≡ assigned_at k =
      λ i t. fold-roll-TacStmt Assigned (assigned_step t) k i in
      let reading_is : (t : ℕ) → reading t (roll-TacStmt k) ≡ reading_at k t =
      λ t. fold-roll-TacStmt Reading (reading_step t) k in
      let low : KeptAt k = h in
      let rules' : Rules (assigned_at k) (words_at k) (use_at k) (give_at k)
      (λ t. (reading_at k t).fresh (ahead_at lives t)) = record {
        below = λ t. subst (λ x. AtMost x (table t)) (ap (λ f. f t) assigned_is) (rules.below t);
        words = λ t w. sym (fold-roll-TacStmt Bool (with_parts (assigns_words t)) k) ∙ rules.words t w;
        uses = sym (fold-roll-TacStmt Bool (with_parts (reads_used constants source used)) k) ∙ rules.uses;
        takes = sym (fold-roll-TacStmt Bool (with_parts (takes_promised gives)) k) ∙ rules.takes;
        fresh = λ t. sym (ap (λ r. r.fresh (ahead_at lives t)) (reading_is t)) ∙ rules.fresh t;
      } in
      let p' = less table constants source used holds_word (first (roll-TacStmt k) lives)
      (λ t. (reading_at k t).first (ahead_at lives t)) g a b
      (λ t on. ap (λ r. r.first (ahead_at lives t)) (reading_is t) ∙ on) p in
      let new' : New g (assigned_at k) = subst (New g) assigned_is new in
      subst (λ c. Keeps lives g c (stmt_does arith here C (roll-TacStmt k) a s) (gone_or (passes (roll-TacStmt k)) b s))
      (sym assigned_is)
      (subst (λ o. Keeps lives g (assigned_at k) (stmt_does arith here C (roll-TacStmt k) a s) (gone_or o b s))
      (sym (fold-roll-TacStmt (Option TacStmt) (pass_step constants source used holds_word) k))
      (subst (λ x. Keeps lives g (assigned_at k) x (gone_or (pass_step constants source used holds_word
      (map-TacStmt _ _ passes k)) b s))
      (sym (rolled table constants source used holds_word are_sources arith here C D C k a s))
      (h lives g a b s rules' p' new')))

  -- STATEMENTS IN ORDER
  abbrev pub row_assigned : List TacStmt → Assignments
  row_assigned stmts t = all_joined (map (assigned t) stmts)

  abbrev pub row_reads : List TacStmt → Lives → TempSet
  row_reads stmts lives t = row_first (map (reading t) stmts) (ahead_at lives t)

  abbrev pub RowRules : List TacStmt → Lives → Type 0
  RowRules stmts lives = Rules (row_assigned stmts) (λ t. all_true (map (word_test t) stmts))
      (all_true (map use_test stmts)) (all_true (map give_test stmts))
      (λ t. row_fresh (map (reading t) stmts) (ahead_at lives t))

  abbrev pub row_done : List TacStmt → Codes
  row_done stmts = all_do (map (stmt_does arith here D) (present (map passes stmts)))

  abbrev pub row_does : List TacStmt → Codes
  row_does stmts = all_do (map (stmt_does arith here C) stmts)

  abbrev pub RowKept : List TacStmt → Type 0
  RowKept stmts = (lives : Lives) (g a b : Temps) (s : State) → RowRules stmts lives →
      Known (row_reads stmts lives) g a b → New g (row_assigned stmts) →
      Keeps lives g (row_assigned stmts) (row_does stmts a s) (row_done stmts b s)

  added : (o : Option TacStmt) (rest : List (Option TacStmt)) (b : Temps) (s : State) →
      all_do (map (stmt_does arith here D) (present (o ∷ rest))) b s
      ≡ follow in_order (gone_or o b s) (all_do (map (stmt_does arith here D) (present rest)))
  added None rest b s = refl
  added (Some x) rest b s = refl

  row_kept : (stmts : List TacStmt) → Each Kept stmts → RowKept stmts
  row_kept [] each lives g a b s rules p new =
      stays table constants source used holds_word are_sources arith here C D lives g (row_assigned [])
      (row_reads [] lives) a b p s (λ t on. on)
  row_kept (x ∷ rest) each lives g a b s rules p new =
      follows_along table constants source used holds_word (added (passes x) (map passes rest) b s)
      (follows_row table constants source used holds_word lives (row_reads rest lives) g (row_assigned (x ∷ rest))
      (λ t. assigned t x) (row_assigned rest)
      (λ t n. never_both (assigned t x) (row_assigned rest t) n) (row_does rest) (row_done rest)
      (λ g' a b s known adds. row_kept rest each.1 lives g' a b s (record {
        below = λ t. below_rest (assigned t x) (row_assigned rest t) (table t) (rules.below t);
        words = λ t w. and_rest (word_test t x) _ (rules.words t w);
        uses = and_rest (use_test x) _ rules.uses;
        takes = and_rest (give_test x) _ rules.takes;
        fresh = λ t. and_rest ((reading t x).fresh (ahead_at (record lives { following = row_reads rest lives }) t)) _
            (rules.fresh t);
      }) known (still g' adds))
      (stmt_does arith here C x a s) (gone_or (passes x) b s)
      (each.0 (record lives { following = row_reads rest lives }) g a b s (record {
        below = λ t. below_first (assigned t x) (row_assigned rest t) (table t) (rules.below t);
        words = λ t w. and_first (word_test t x) _ (rules.words t w);
        uses = and_first (use_test x) _ rules.uses;
        takes = and_first (give_test x) _ rules.takes;
        fresh = λ t. and_first ((reading t x).fresh (ahead_at (record lives { following = row_reads rest lives }) t)) _
            (rules.fresh t);
      }) p (λ t once. in_rest t (new t once)))) where
        in_rest : (t : ℕ) → ((row_assigned (x ∷ rest) t ≡ Nowhere) ⊎ (g t ≡ None)) → ((assigned t x ≡ Nowhere) ⊎
            (g t ≡ None))
        in_rest t (inl n) = inl (never_both (assigned t x) (row_assigned rest t) n).0
        in_rest t (inr e) = inr e

        still : (g' : Temps) → AddsOnly g (λ t. assigned t x) g' → New g' (row_assigned rest)
        still g' adds t once = by (new t once) (one_part (assigned t x) (row_assigned rest t) (table t) once
            (rules.below t)) where
              by : ((row_assigned (x ∷ rest) t ≡ Nowhere) ⊎ (g t ≡ None)) → ((assigned t x ≡ Nowhere) ⊎
                  (row_assigned rest t ≡ Nowhere)) →
                  ((row_assigned rest t ≡ Nowhere) ⊎ (g' t ≡ None))
              by (inl n) h = inl (never_both (assigned t x) (row_assigned rest t) n).1
              by (inr e) (inl n) = inr (adds t n e)
              by (inr e) (inr n) = inl n

  -- STATEMENTS THAT ASSIGN
  module _ (lives : Lives) (g a b : Temps) (assignments : Assignments) (reads : ℕ → Bool) (d : ℕ)
      (p : Known (λ t. reads t || (not (d == t || false) && lives.following t)) g a b) (new : New g assignments)
      (low : (t : ℕ) → AtMost (assignments t) (table t)) where
    abbrev first_reads : TempSet
    first_reads t = reads t || (not (d == t || false) && lives.following t)

    not_before : (x : Assigned) → assignments d ≡ x → (x ≡ Nowhere → ⊥) → is_once (table d) ≡ true → g d ≡ None
    not_before x is some once = by (new d once) where
      by : ((assignments d ≡ Nowhere) ⊎ (g d ≡ None)) → g d ≡ None
      by (inl n) = absurd (some (sym is ∙ n))
      by (inr e) = e

    still_live : (t : ℕ) → lives.following t ≡ true → (t == d) ≡ false → first_reads t ≡ true
    still_live t on n = live_before t d (reads t) (lives.following t) n on

    module _ (x : Assigned) (is : assignments d ≡ x) (some : x ≡ Nowhere → ⊥) (not_copy : (u : ℕ) → x ≡ ByCopy u → ⊥)
        (v : Value) (const : (c : Constant) → constants d ≡ Some c → v ≡ constant_value c) (s : State)
        (word : holds_word d ≡ true → is_word v ≡ true) where
      source_here : source d ≡ d
      source_here = plain_source table constants source used holds_word are_sources arith here C D d x
          (subst (λ x. AtMost x (table d)) is (low d)) some not_copy

      given_either : (u : Bool) → used d ≡ u → (k : TacStmt-F TacStmt) →
          code_step arith here D (map-TacStmt _ _ (stmt_does arith here D) k) b s ≡ leave Next (with_temp d v b) s →
          Keeps lives g assignments (leave Next (with_temp d v a) s) (gone_or (keep_if u k) b s)
      given_either = either table constants source used holds_word are_sources arith here C D lives g assignments
          first_reads a b p d v s (not_before x is some) (λ n. some (sym is ∙ n)) still_live const word source_here

      given_unread : used d ≡ false → Keeps lives g assignments (leave Next (with_temp d v a) s) (leave Next b s)
      given_unread = unread table constants source used holds_word are_sources arith here C D lives g assignments
          first_reads a b p d v s (not_before x is some) (λ n. some (sym is ∙ n)) still_live const word source_here

      given_both : Keeps lives g assignments (leave Next (with_temp d v a) s) (leave Next (with_temp d v b) s)
      given_both = both table constants source used holds_word are_sources arith here C D lives g assignments
          first_reads a b p d v s (not_before x is some) (λ n. some (sym is ∙ n)) still_live const word source_here

    module _ (is : assignments d ≡ Otherwise) where
      constant_not : (v : Value) (c : Constant) → constants d ≡ Some c → v ≡ constant_value c
      constant_not v c = no_constant table constants source used holds_word are_sources arith here C D are_constants d
          Otherwise c (subst (λ x. AtMost x (table d)) is (low d)) some_otherwise no_by_constant no_operator

      gets_either : (v : Value) (s : State) → (holds_word d ≡ true → is_word v ≡ true) → (u : Bool) → used d ≡ u →
          (k : TacStmt-F TacStmt) →
          code_step arith here D (map-TacStmt _ _ (stmt_does arith here D) k) b s ≡ leave Next (with_temp d v b) s →
          Keeps lives g assignments (leave Next (with_temp d v a) s) (gone_or (keep_if u k) b s)
      gets_either v s word = given_either Otherwise is some_otherwise no_copy v (constant_not v) s word

      gets_both : (v : Value) (s : State) → (holds_word d ≡ true → is_word v ≡ true) →
          Keeps lives g assignments (leave Next (with_temp d v a) s) (leave Next (with_temp d v b) s)
      gets_both v s word = given_both Otherwise is some_otherwise no_copy v (constant_not v) s word

  -- OPERATORS
  module _ (lives : Lives) (g a b : Temps) (s : State) (live : TempSet) (p : Known live g a b) where
    -- the second operand
    record Second (o : TacOp) (right : Option ℕ) (v : Value) : Type 0 where
      value : Value
      here_is : second here right v a s ≡ Reached value s
      there_is : all_used source used (one_or_none right) ≡ true →
          second here (option_map source right) v b s ≡ Reached value s
      constant_is : (c k : Constant) → with_second constants o c right ≡ Some k → v ≡ constant_value c →
          (e : Constant) × (value ≡ constant_value e) × (on_constants o c e ≡ Some k)
      word : right_holds_word holds_word right ≡ true → is_word value ≡ true

    second_of : (o : TacOp) (right : Option ℕ) (v : Value) →
        ((t : ℕ) → is_one t (one_or_none right) ≡ true → live t ≡ true) → Second o right v
    second_of o None v on = record {
      value = v;
      here_is = refl;
      there_is = λ u. refl;
      constant_is = λ c k e is. (c, is, e);
      word = λ h. let no : false ≡ true = h in absurd (cc no);
    }
    second_of o (Some t) v on =
        let h = p.held t (on t (or_left (t == t) false (eq-eqb t t refl))) in
        record {
          value = h.value;
          here_is = ap (λ x. computed here 0 (known x) s) h.real;
          there_is = λ u. ap (λ x. computed here 0 (known x) s)
              (p.kept t h.value h.ghost (and_first (used (source t)) true u));
          constant_is = λ c k e is. by h.value h.ghost c k (constants t) refl e;
          word = λ w. p.words t h.value w h.ghost;
        } where
          by : (w : Value) → g t ≡ Some w → (c k : Constant) (x : Option Constant) → constants t ≡ x →
              second_constant o c x ≡ Some k →
              (e : Constant) × (w ≡ constant_value e) × (on_constants o c e ≡ Some k)
          by w ghost c k None is e = absurd (cc e)
          by w ghost c k (Some d) is e = (d, p.constant t d w is ghost, e)

    record Operands (o : TacOp) (left : ℕ) (right : Option ℕ) : Type 0 where
      one : Value
      two : Value
      here_is : (d : ℕ) → op_does here arith d o left right a s
          ≡ gets here d (operated arith (s.memory here.comp) o one two) a s
      there_is : all_used source used (left ∷ one_or_none right) ≡ true → (d : ℕ) →
          op_does here arith d o (source left) (option_map source right) b s
          ≡ gets here d (operated arith (s.memory here.comp) o one two) b s
      folds : (k : Constant) → folded constants o left right ≡ Some k →
          operated arith (s.memory here.comp) o one two ≡ Ok (constant_value k)
      totals : is_total holds_word o left right ≡ true →
          (z : Value) × (operated arith (s.memory here.comp) o one two ≡ Ok z)

    operands_of : (o : TacOp) (left : ℕ) (right : Option ℕ) →
        ((t : ℕ) → is_one t (left ∷ one_or_none right) ≡ true → live t ≡ true) → Operands o left right
    operands_of o left right on =
        let h = p.held left (on left (or_left (left == left) _ (eq-eqb left left refl))) in
        let r = second_of o right h.value (λ t is. on t (or_right (left == t) _ is)) in
        record {
          one = h.value;
          two = r.value;
          here_is = λ d. ap (λ x. and_then (computed here 0 (known x) s) (λ v s. and_then (second here right v a s)
              (λ w s. gets here d (operated arith (s.memory here.comp) o v w) a s))) h.real
              ∙ ap (λ x. and_then x (λ w s. gets here d (operated arith
              (s.memory here.comp) o h.value w) a s)) r.here_is;
          there_is = λ u d. ap (λ x. and_then (computed here 0 (known x) s) (λ v s. and_then
              (second here (option_map source right) v b s)
              (λ w s. gets here d (operated arith (s.memory here.comp) o v w) b s)))
              (p.kept left h.value h.ghost (and_first (used (source left)) _ u))
              ∙ ap (λ x. and_then x (λ w s. gets here d (operated arith (s.memory here.comp) o h.value w) b s))
              (r.there_is (and_rest (used (source left)) _ u));
          folds = λ k e. by h.value h.ghost r k (constants left) refl e;
          totals = λ h'. total_gives holds_word arith fits
              (s.memory here.comp) o left right h.value r.value h'
              (λ w. p.words left h.value w h.ghost) r.word;
        } where
          by : (v : Value) → g left ≡ Some v → (r : Second o right v) (k : Constant) (x : Option Constant) →
              constants left ≡ x → folded_from constants o x right ≡ Some k →
              operated arith (s.memory here.comp) o v r.value ≡ Ok (constant_value k)
          by v ghost r k None is e = absurd (cc e)
          by v ghost r k (Some c) is e =
              let same = p.constant left c v is ghost in
              let f = r.constant_is c k e same in
              subst (λ v. operated arith (s.memory here.comp) o v r.value ≡ Ok (constant_value k)) (sym same)
              (subst (λ w. operated arith (s.memory here.comp) o (constant_value c) w ≡ Ok (constant_value k)) (sym f.1)
              (fits.folds o c f.0 (s.memory here.comp) k f.2))

  -- EACH KIND OF STATEMENT
  const_kept : (d : ℕ) (value : Constant) → KeptAt (tac.Const d value)
  const_kept d value lives g a b s rules p new =
      either table constants source used holds_word are_sources arith here C D lives g (assigned_at (tac.Const d value))
      (first_reads lives g a b (assigned_at (tac.Const d value)) (λ t. false) d p new rules.below) a b p d
      (constant_value value) s
      (not_before lives g a b (assigned_at (tac.Const d value)) (λ t. false) d p new rules.below
      (ByConstant value) is (λ n. absurd (cc n)))
      (λ n. never (sym is ∙ n)) (still_live lives g a b (assigned_at (tac.Const d value))
      (λ t. false) d p new rules.below) const
      (λ w. word value (of_this d (is_word_constant value) (and_first _ true (rules.words d w))))
      (plain_source table constants source used holds_word are_sources arith here C D d (ByConstant value) low never
      (λ u n. absurd (cc n)))
      (used d) refl (tac.Const d value) refl where
        is : assigned_at (tac.Const d value) d ≡ ByConstant value
        is = assigned_here d (ByConstant value)

        low : AtMost (ByConstant value) (table d)
        low = subst (λ x. AtMost x (table d)) is (rules.below d)

        never : ByConstant value ≡ Nowhere → ⊥
        never n = absurd (cc n)

        const : (c : Constant) → constants d ≡ Some c → constant_value value ≡ constant_value c
        const c e = by (are_constants d c e) low where
          by : ((table d ≡ ByConstant c) ⊎ Computed table constants source used holds_word d c) →
              AtMost (ByConstant value) (table d) → constant_value value ≡ constant_value c
          by k (inl n) = absurd (never n)
          by (inl is) (inr (inl h)) =
              let same : ByConstant value ≡ ByConstant c = h ∙ is in
              let one : value ≡ c = cc same in ap constant_value one
          by (inl is) (inr (inr h)) = let no : ByConstant c ≡ Several = sym is ∙ h in absurd (cc no)
          by (inr m) (inr (inl h)) =
              let no : ByConstant value ≡ ByOperator m.op m.left m.right = h ∙ m.assigned in absurd (cc no)
          by (inr m) (inr (inr h)) =
              let no : ByOperator m.op m.left m.right ≡ Several = sym m.assigned ∙ h in absurd (cc no)

        word : (value : Constant) → is_word_constant value ≡ true → is_word (constant_value value) ≡ true
        word (constant.Word w) h = refl
        word constant.Null h = let no : false ≡ true = h in absurd (cc no)

  copy_kept : (d from : ℕ) → KeptAt (tac.Copy d from)
  copy_kept d from lives g a b s rules p new =
      let h = p.held from (one_read from _) in
      across table constants source used holds_word
      (ap (λ x. and_then (computed here 0 (known x) s) (λ v s. leave Next (with_temp d v a) s)) h.real) refl
      (by h.value h.ghost (source d == source from) refl (used d) refl) where
        is : assigned_at (tac.Copy d from) d ≡ ByCopy from
        is = assigned_here d (ByCopy from)

        low : AtMost (ByCopy from) (table d)
        low = subst (λ x. AtMost x (table d)) is (rules.below d)

        never : ByCopy from ≡ Nowhere → ⊥
        never n = absurd (cc n)

        const : (v : Value) (c : Constant) → constants d ≡ Some c → v ≡ constant_value c
        const v c = no_constant table constants source used holds_word are_sources arith here C D are_constants d
            (ByCopy from) c low never (λ c n. absurd (cc n)) (λ o left right n. absurd (cc n))

        word : (v : Value) → holds_word d ≡ true → is_word v ≡ true
        word v w = not_this d (and_first _ true (rules.words d w))

        source_here : (source d == source from) ≡ false → source d ≡ d
        source_here n = at (are_sources d) low where
          at : ((source d ≡ d) ⊎ Moved table source used holds_word d) → AtMost (ByCopy from) (table d) → source d ≡ d
          at (inl same) l = same
          at (inr m) (inl h) = absurd (never h)
          at (inr m) (inr (inl h)) =
              let two : ByCopy from ≡ ByCopy m.from = h ∙ m.copies in
              let one : from ≡ m.from = cc two in
              not_same (source d) (source from) n (m.same ∙ ap source (sym one))
          at (inr m) (inr (inr h)) = let no : ByCopy m.from ≡ Several = sym m.copies ∙ h in absurd (cc no)

        kept_read : (source d == source from) ≡ false → used (source from) ≡ true
        kept_read n = sym (ap (λ x. x || used (source from)) n) ∙ and_first _ true rules.uses

        by : (v : Value) → g from ≡ Some v → (r : Bool) → (source d == source from) ≡ r → (u : Bool) → used d ≡ u →
            Keeps lives g (assigned_at (tac.Copy d from)) (leave Next (with_temp d v a) s)
            (gone_or (keep_if (not r && u) (tac.Copy d (source from))) b s)
        by v ghost true same u e =
            let one : source d ≡ source from = eqb-true (source d) (source from) same in
            gone table constants source used holds_word are_sources arith here C D lives g
            (assigned_at (tac.Copy d from))
            (first_reads lives g a b (assigned_at (tac.Copy d from))
            (λ t. from == t || false) d p new rules.below) a b p d v s
            (not_before lives g a b (assigned_at (tac.Copy d from)) (λ t. from == t || false) d p new rules.below
            (ByCopy from) is never)
            (λ n. never (sym is ∙ n)) (still_live lives g a b (assigned_at (tac.Copy d from))
            (λ t. from == t || false) d p new rules.below) (const v) (word v)
            (inr (ap g one ∙ p.sourced from v ghost))
            (λ h. ap b one ∙ p.kept from v ghost (sym (ap used one) ∙ h))
        by v ghost false n u e =
            either table constants source used holds_word are_sources arith here C D lives g
            (assigned_at (tac.Copy d from))
            (first_reads lives g a b (assigned_at (tac.Copy d from))
            (λ t. from == t || false) d p new rules.below) a b p d v s
            (not_before lives g a b (assigned_at (tac.Copy d from)) (λ t. from == t || false) d p new rules.below
            (ByCopy from) is never)
            (λ n. never (sym is ∙ n)) (still_live lives g a b (assigned_at (tac.Copy d from))
            (λ t. from == t || false) d p new rules.below) (const v) (word v)
            (source_here n) u e (tac.Copy d (source from))
            (ap (λ x. and_then (computed here 0 (known x) s) (λ v s. leave Next (with_temp d v b) s))
            (p.kept from v ghost (kept_read n)))

  module _ (d : ℕ) (o : TacOp) (left : ℕ) (right : Option ℕ) (lives : Lives) (g a b : Temps) (s : State)
      (rules : Rules (assigned_at (tac.Op d o left right)) (words_at (tac.Op d o left right))
      (use_at (tac.Op d o left right)) (give_at (tac.Op d o left right))
      (λ t. (reading_at (tac.Op d o left right) t).fresh (ahead_at lives t)))
      (p : Known (λ t. is_one t (left ∷ one_or_none right) || (not (d == t || false) && lives.following t)) g a b)
      (new : New g (assigned_at (tac.Op d o left right))) where
    abbrev read_here : TempSet
    read_here t = is_one t (left ∷ one_or_none right) || (not (d == t || false) && lives.following t)

    abbrev Reads : Type 0
    Reads = Operands lives g a b s read_here p o left right

    abbrev assigns : Assignments
    assigns = assigned_at (tac.Op d o left right)

    abbrev gives_here : Reads → Result Value Cause
    gives_here q = operated arith (s.memory here.comp) o q.one q.two

    abbrev self : Assigned
    self = ByOperator o left right

    low : AtMost self (table d)
    low = subst (λ x. AtMost x (table d)) (assigned_here d self) (rules.below d)

    never : self ≡ Nowhere → ⊥
    never n = absurd (cc n)

    word_of : (q : Reads) (z : Value) → gives_here q ≡ Ok z → holds_word d ≡ true → is_word z ≡ true
    word_of q z e h = words_computed arith (s.memory here.comp) o q.one q.two z
        (of_this d (gives_word o) (and_first _ true (rules.words d h))) e

    -- what is known to be given is
    const : (q : Reads) (z : Value) → gives_here q ≡ Ok z → (c : Constant) → constants d ≡ Some c →
        z ≡ constant_value c
    const q z e c k = by (are_constants d c k) low where
      by : ((table d ≡ ByConstant c) ⊎ Computed table constants source used holds_word d c) →
          AtMost self (table d) → z ≡ constant_value c
      by k (inl n) = absurd (never n)
      by (inl is) (inr (inl h)) = let no : self ≡ ByConstant c = h ∙ is in absurd (cc no)
      by (inl is) (inr (inr h)) = let no : ByConstant c ≡ Several = sym is ∙ h in absurd (cc no)
      by (inr m) (inr (inl h)) =
          let same : self ≡ ByOperator m.op m.left m.right = h ∙ m.assigned in
          let ops : o ≡ m.op = cc same in
          let lefts : left ≡ m.left = cc same in
          let rights : right ≡ m.right = cc same in
          let folds : folded constants o left right ≡ Some c =
          (λ i. folded constants (ops i) (lefts i) (rights i)) ∙ m.gives in
          let two : ◌≡◌ {A = Result Value Cause} (Ok z) (Ok (constant_value c)) = sym e ∙ q.folds c folds in cc two
      by (inr m) (inr (inr h)) =
          let no : ByOperator m.op m.left m.right ≡ Several = sym m.assigned ∙ h in absurd (cc no)

    stays_there : (q : Reads) → folded constants o left right ≡ None →
        Keeps lives g assigns (gets here d (gives_here q) a s)
        (gone_or (keep_if true (tac.Op d o (source left) (option_map source right))) b s)
    stays_there q none =
        follows_along table constants source used holds_word
        (rolled table constants source used holds_word are_sources arith here C D D (tac.Op d o (source left)
        (option_map source right)) b s
        ∙ q.there_is (sym (ap (λ f. unless_folded source used f (left ∷ one_or_none right)) none)
        ∙ and_first _ true rules.uses) d)
        (computed_related table constants source used holds_word are_sources arith here C D lives g assigns
        (gives_here q) s
        (λ v s. leave Next (with_temp d v a) s) (λ v s. leave Next (with_temp d v b) s)
        (λ v e. given_both lives g a b assigns (λ t. is_one t (left ∷ one_or_none right)) d p new rules.below self
        (assigned_here d self) never (λ u n. absurd (cc n)) v (const q v e) s (word_of q v e)))

    unless_total : (q : Reads) → folded constants o left right ≡ None → (u t : Bool) → used d ≡ u →
        is_total holds_word o left right ≡ t → Keeps lives g assigns (gets here d (gives_here q) a s)
        (gone_or (keep_if (u || not t) (tac.Op d o (source left) (option_map source right))) b s)
    unless_total q none true t e f = stays_there q none
    unless_total q none false false e f = stays_there q none
    unless_total q none false true e f = let z = q.totals f in
        across table constants source used holds_word
        (ap (λ r. gets here d r a s) z.1) refl
        (given_unread lives g a b assigns (λ t. is_one t (left ∷ one_or_none right)) d p new rules.below self
        (assigned_here d self) never (λ u n. absurd (cc n)) z.0 (const q z.0 z.1) s (word_of q z.0 z.1) e)

    operator_does : (q : Reads) (f : Option Constant) → folded constants o left right ≡ f →
        Keeps lives g assigns (gets here d (gives_here q) a s)
        (gone_or (operator_code source used holds_word d o left right f) b s)
    operator_does q None is = unless_total q is (used d) (is_total holds_word o left right) refl refl
    operator_does q (Some k) is =
        across table constants source used holds_word (ap (λ r. gets here d r a s) (q.folds k is)) refl
        (given_either lives g a b assigns (λ t. is_one t (left ∷ one_or_none right)) d p new rules.below self
        (assigned_here d self) never (λ u n. absurd (cc n)) (constant_value k)
        (const q (constant_value k) (q.folds k is)) s
        (word_of q (constant_value k) (q.folds k is)) (used d) refl (tac.Const d k) refl)

    operator_kept : Keeps lives g assigns
        (code_step arith here C (map-TacStmt _ _ (stmt_does arith here C) (tac.Op d o left right)) a s)
        (gone_or (pass_step constants source used holds_word (map-TacStmt _ _ passes (tac.Op d o left right))) b s)
    operator_kept =
        let q = operands_of lives g a b s read_here p o left right
        (λ t h. or_left (is_one t (left ∷ one_or_none right)) _ h) in
        across table constants source used holds_word (q.here_is d) refl
        (operator_does q (folded constants o left right) refl)

  op_kept : (d : ℕ) (o : TacOp) (left : ℕ) (right : Option ℕ) → KeptAt (tac.Op d o left right)
  op_kept = operator_kept

  -- places
  place_kept : (k : TacStmt-F TacStmt) (d : ℕ) (v : Value) → (lives : Lives) (g a b : Temps) (s : State) →
      (assignments : Assignments) → ((t : ℕ) → AtMost (assignments t) (table t)) → assignments d ≡ Otherwise →
      Known (λ t. false || (not (d == t || false) && lives.following t)) g a b → New g assignments →
      (holds_word d ≡ true → not (d == d || false) ≡ true) →
      code_step arith here D (map-TacStmt _ _ (stmt_does arith here D) k) b s ≡ leave Next (with_temp d v b) s →
      Keeps lives g assignments (leave Next (with_temp d v a) s) (gone_or (keep_if (used d) k) b s)
  place_kept k d v lives g a b s assignments low is p new word same =
      gets_either lives g a b assignments (λ t. false) d p new low is v s (λ w. not_this d (word w))
      (used d) refl k same

  object_kept : (d object : ℕ) → KeptAt (tac.ObjectPlace d object)
  object_kept d object lives g a b s rules p new =
      place_kept (tac.ObjectPlace d object) d (start_of (here.first + object)) lives g a b s
      (assigned_at (tac.ObjectPlace d object)) rules.below (assigned_one d) p new
      (λ w. and_first _ true (rules.words d w)) refl

  global_kept : (d global : ℕ) → KeptAt (tac.GlobalPlace d global)
  global_kept d global lives g a b s rules p new =
      place_kept (tac.GlobalPlace d global) d (start_of global) lives g a b s
      (assigned_at (tac.GlobalPlace d global)) rules.below (assigned_one d) p new
      (λ w. and_first _ true (rules.words d w)) refl

  load_kept : (d place : ℕ) (pointer : Bool) → KeptAt (tac.Load d place pointer)
  load_kept d place pointer lives g a b s rules p new =
      follows_along table constants source used holds_word
      (rolled table constants source used holds_word are_sources arith here C D D
      (tac.Load d (source place) pointer) b s)
      (read_then table constants source used holds_word are_sources arith here C D lives g (assigned_at
      (tac.Load d place pointer))
      (λ t. (place == t || false) || (not (d == t || false) && lives.following t)) a b p place
      (one_read place _, and_first (used (source place)) true (and_first _ true rules.uses)) s
      (λ q s. gets here d (load (s.memory here.comp) pointer q) a s)
      (λ q s. gets here d (load (s.memory here.comp) pointer q) b s)
      (λ q ghost. computed_related table constants source used holds_word are_sources arith here C D lives g
      (assigned_at
      (tac.Load d place pointer))
      (load (s.memory here.comp) pointer q) s (λ v s. leave Next (with_temp d v a) s)
      (λ v s. leave Next (with_temp d v b) s)
      (λ v e. gets_both lives g a b (assigned_at (tac.Load d place pointer))
      (λ t. place == t || false) d p new rules.below (assigned_one d) v s
      (λ w. word pointer (of_this d (not pointer) (and_first _ true (rules.words d w))) q v e)))) where
        word : (pointer : Bool) → not pointer ≡ true → (q v : Value) → load (s.memory here.comp) pointer q ≡ Ok v →
            is_word v ≡ true
        word true h q v e = let no : false ≡ true = h in absurd (cc no)
        word false h q v e = load_word (s.memory here.comp) q v e

  -- what assigns nothing and goes on
  module _ (lives : Lives) (g a b : Temps) (assignments : Assignments) (reads : ℕ → Bool)
      (p : Known (λ t. reads t || (true && lives.following t)) g a b) where
    abbrev reading_only : TempSet
    reading_only t = reads t || (true && lives.following t)

    goes_on : (s : State) → Keeps lives g assignments (leave Next a s) (leave Next b s)
    goes_on s = stays table constants source used holds_word are_sources arith here C D lives g assignments
        reading_only a b p s
        (λ t on. live_behind (reads t) (lives.following t) on)

    stored_kept : (q v : Value) (s : State) → Keeps lives g assignments (stored here q v 0 a s) (stored here q v 0 b s)
    stored_kept q v s = computed_related table constants source used holds_word are_sources arith here C D lives g
        assignments
        {V = Blocks}
        (store (s.memory here.comp) q v) s (λ blocks s. leave Next a (with_memory here.comp blocks s))
        (λ blocks s. leave Next b (with_memory here.comp blocks s))
        (λ blocks e. goes_on (with_memory here.comp blocks s))

    released_kept : (v : Value) (s : State) → Keeps lives g assignments (released here v 0 a s) (released here v 0 b s)
    released_kept v s = computed_related table constants source used holds_word are_sources arith here C D lives g
        assignments
        {V = Blocks} (freed (s.memory here.comp) v) s (λ blocks s. leave Next a (with_memory here.comp blocks s))
        (λ blocks s. leave Next b (with_memory here.comp blocks s))
        (λ blocks e. goes_on (with_memory here.comp blocks s))

  store_kept : (place value : ℕ) → KeptAt (tac.Store place value)
  store_kept place value lives g a b s rules p new =
      let uses = and_first (all_used source used (place ∷ value ∷ [])) true rules.uses in
      follows_along table constants source used holds_word
      (rolled table constants source used holds_word are_sources arith here C D D
      (tac.Store (source place) (source value)) b s)
      (read_then table constants source used holds_word are_sources arith here C D lives g
      (assigned_at (tac.Store place value))
      (λ t. is_one t (place ∷ value ∷ []) || (true && lives.following t)) a b p place
      (or_left _ _ (or_left (place == place) _ (eq-eqb place place refl)), and_first (used (source place)) _ uses) s
      (λ q s. and_then (read here value a s) (λ v s. stored here q v 0 a s))
      (λ q s. and_then (read here (source value) b s) (λ v s. stored here q v 0 b s))
      (λ q ghost. read_then table constants source used holds_word are_sources arith here C D lives g (assigned_at
      (tac.Store place value))
      (λ t. is_one t (place ∷ value ∷ []) || (true && lives.following t)) a b p value (
        or_left _ _ (or_right (place == value) _ (or_left (value == value) _ (eq-eqb value value refl))),
        and_first (used (source value)) _ (and_rest (used (source place)) _ uses),
      ) s
      (λ v s. stored here q v 0 a s) (λ v s. stored here q v 0 b s)
      (λ v ghost. stored_kept lives g a b (assigned_at (tac.Store place value)) (λ t. is_one t
      (place ∷ value ∷ [])) p q v s)))

  -- THE HEAP
  alloc_kept : (d count words : ℕ) → KeptAt (tac.Alloc d count words)
  alloc_kept d count words lives g a b s rules p new =
      follows_along table constants source used holds_word
      (rolled table constants source used holds_word are_sources arith here C D D
      (tac.Alloc d (source count) words) b s)
      (read_then table constants source used holds_word are_sources arith here C D lives g
      (assigned_at (tac.Alloc d count words))
      (λ t. (count == t || false) || (not (d == t || false) && lives.following t)) a b p count
      (one_read count _, and_first (used (source count)) true (and_first _ true rules.uses)) s
      (λ v s. and_then (elements_allocated here v words 0 s) (λ q s. leave Next (with_temp d q a) s))
      (λ v s. and_then (elements_allocated here v words 0 s) (λ q s. leave Next (with_temp d q b) s))
      (λ v ghost. piece_related table constants source used holds_word are_sources arith here C D lives g
      (assigned_at (tac.Alloc d count words)) (elements_allocated here v words 0 s)
      (λ q s. leave Next (with_temp d q a) s) (λ q s. leave Next (with_temp d q b) s)
      (λ q t. gets_both lives g a b (assigned_at (tac.Alloc d count words))
      (λ t. count == t || false) d p new rules.below
      (assigned_one d) q t (λ w. not_this d (and_first _ true (rules.words d w))))))

  free_kept : (pointer : ℕ) → KeptAt (tac.Free pointer)
  free_kept pointer lives g a b s rules p new =
      follows_along table constants source used holds_word
      (rolled table constants source used holds_word are_sources arith here C D D (tac.Free (source pointer)) b s)
      (read_then table constants source used holds_word are_sources arith here C D lives g
      (assigned_at (tac.Free pointer))
      (λ t. is_one t (pointer ∷ []) || (true && lives.following t)) a b p pointer
      (one_read pointer _, and_first (used (source pointer)) true (and_first _ true rules.uses)) s
      (λ v s. released here v 0 a s) (λ v s. released here v 0 b s)
      (λ v ghost. released_kept lives g a b (assigned_at (tac.Free pointer)) (λ t. is_one t (pointer ∷ [])) p v s))

  -- CALLS
  call_kept : (dest : Option ℕ) (target : CallTarget) (args : List ℕ) (lives : Lives) (g a b : Temps) (s : State) →
      (assignments : Assignments) → ((t : ℕ) → AtMost (assignments t) (table t)) → ((d : ℕ) → dest ≡ Some d →
      assignments d ≡ Otherwise) →
      Known (λ t. is_one t args || (not (is_one t (one_or_none dest)) && lives.following t)) g a b → New g assignments →
      ((d : ℕ) → dest ≡ Some d → gives target ≡ true) →
      ((d : ℕ) → dest ≡ Some d → holds_word d ≡ true → not (d == d || false) ≡ true) →
      all_used source used args ≡ true →
      Keeps lives g assignments (call_does here C dest target args a s) (call_does here D dest target
      (map source args) b s)
  call_kept dest target args lives g a b s assignments low is p new assigned word uses =
      let r = reads_all table constants source used holds_word are_sources arith here C D lives g assignments
      (λ t. is_one t args || (not (is_one t (one_or_none dest)) && lives.following t)) a b p args
      (λ t h. or_left (is_one t args) _ h) uses s in
      across table constants source used holds_word
      (ap (λ o. and_then o (λ vs s. and_then (C here.comp target vs s)
      (λ result s. leave Next (received dest result a) s))) r.here_is)
      (ap (λ o. and_then o (λ vs s. and_then (D here.comp target vs s)
      (λ result s. leave Next (received dest result b) s))) r.there_is)
      (pieces_then table constants source used holds_word are_sources arith here C D lives g assignments
      (C here.comp target r.values s)
      (D here.comp target r.values s) (λ result s. leave Next (received dest result a) s)
      (λ result s. leave Next (received dest result b) s) (calls target r.values s)
      (λ v t e. by dest p is assigned word v t
      (λ d h. giving target (assigned d h) r.values s t v e))) where
        by : (dest : Option ℕ) → Known (λ t. is_one t args || (not (is_one t
            (one_or_none dest)) && lives.following t)) g a b →
            ((d : ℕ) → dest ≡ Some d → assignments d ≡ Otherwise) → ((d : ℕ) → dest ≡ Some d → gives target ≡ true) →
            ((d : ℕ) → dest ≡ Some d → holds_word d ≡ true → not (d == d || false) ≡ true) →
            (v : Option Value) (t : State) → ((d : ℕ) → dest ≡ Some d → is_some v ≡ true) →
            Keeps lives g assignments (leave Next (received dest v a) t) (leave Next (received dest v b) t)
        by None p is assigned word v t some = goes_on lives g a b assignments (λ t. is_one t args) p t
        by (Some d) p is assigned word None t some = let no : false ≡ true = some d refl in absurd (cc no)
        by (Some d) p is assigned word (Some v) t some =
            gets_both lives g a b assignments (λ t. is_one t args) d p new low (is d refl) v t
            (λ w. not_this d (word d refl w))

  own_kept : (dest : Option ℕ) (function : ℕ) (args : List ℕ) → KeptAt (tac.CallOwn dest function args)
  own_kept dest function args lives g a b s rules p new =
      follows_along table constants source used holds_word
      (rolled table constants source used holds_word are_sources arith here C D D (tac.CallOwn dest function
      (map source args)) b s)
      (call_kept dest (Own function) args lives g a b s (assigned_at (tac.CallOwn dest function args)) rules.below
      (λ d e. subst (λ o. (if is_one d (one_or_none o) then Otherwise else Nowhere) ≡ Otherwise) (sym e)
      (assigned_one d)) p new
      (λ d e. subst (λ o. takes_promised gives (tac.CallOwn o function args) ≡ true → gives (Own function) ≡ true)
      (sym e)
      (λ h. h) (and_first _ true rules.takes))
      (λ d e w. subst (λ o. not (is_one d (one_or_none o)) ≡ true → not (d == d || false) ≡ true) (sym e) (λ h. h)
      (and_first _ true (rules.words d w)))
      (and_first (all_used source used args) true rules.uses))

  cross_kept : (dest : Option ℕ) (comp index : ℕ) (args : List ℕ) → KeptAt (tac.CallCross dest comp index args)
  cross_kept dest comp index args lives g a b s rules p new =
      follows_along table constants source used holds_word
      (rolled table constants source used holds_word are_sources arith here C D D (tac.CallCross dest comp index
      (map source args)) b s)
      (call_kept dest (Cross comp index) args lives g a b s (assigned_at
      (tac.CallCross dest comp index args)) rules.below
      (λ d e. subst (λ o. (if is_one d (one_or_none o) then Otherwise else Nowhere) ≡ Otherwise) (sym e)
      (assigned_one d)) p new
      (λ d e. subst (λ o. takes_promised gives (tac.CallCross o comp index args) ≡ true → gives
      (Cross comp index) ≡ true)
      (sym e) (λ h. h) (and_first _ true rules.takes))
      (λ d e w. subst (λ o. not (is_one d (one_or_none o)) ≡ true → not (d == d || false) ≡ true) (sym e) (λ h. h)
      (and_first _ true (rules.words d w)))
      (and_first (all_used source used args) true rules.uses))

  input_kept : (dest : Option ℕ) → KeptAt (tac.Input dest)
  input_kept dest lives g a b s rules p new =
      follows_along table constants source used holds_word
      (rolled table constants source used holds_word are_sources arith here C D D (tac.Input dest) b s)
      (call_kept dest Input [] lives g a b s (assigned_at (tac.Input dest)) rules.below
      (λ d e. subst (λ o. (if is_one d (one_or_none o) then Otherwise else Nowhere) ≡ Otherwise) (sym e)
      (assigned_one d)) p new
      (λ d e. subst (λ o. takes_promised gives (tac.Input o) ≡ true → gives Input ≡ true) (sym e) (λ h. h)
      (and_first _ true rules.takes))
      (λ d e w. subst (λ o. not (is_one d (one_or_none o)) ≡ true → not (d == d || false) ≡ true) (sym e) (λ h. h)
      (and_first _ true (rules.words d w)))
      (and_first (all_used source used []) true rules.uses))

  output_kept : (value : ℕ) → KeptAt (tac.Output value)
  output_kept value lives g a b s rules p new =
      follows_along table constants source used holds_word
      (rolled table constants source used holds_word are_sources arith here C D D (tac.Output (source value)) b s)
      (call_kept None Output (value ∷ []) lives g a b s (assigned_at (tac.Output value)) rules.below
      (λ d e. absurd (cc e)) p new (λ d e. absurd (cc e)) (λ d e. absurd (cc e))
      (and_first (all_used source used (value ∷ [])) true rules.uses))

  return_kept : (value : Option ℕ) → KeptAt (tac.Return value)
  return_kept None lives g a b s rules p new =
      follows_along table constants source used holds_word
      (rolled table constants source used holds_word are_sources arith here C D D (tac.Return None) b s)
      (record { related = record { temps = b; is = refl; lands = tt } })
  return_kept (Some t) lives g a b s rules p new =
      follows_along table constants source used holds_word
      (rolled table constants source used holds_word are_sources arith here C D D (tac.Return (Some (source t))) b s)
      (read_then table constants source used holds_word are_sources arith here C D lives g
      (assigned_at (tac.Return (Some t)))
      (λ u. is_one u (t ∷ [])) a b p t (
        or_left (t == t) false (eq-eqb t t refl),
        and_first (used (source t)) true (and_first _ true rules.uses),
      ) s
      (λ v s. leave (Return (Some v)) a s) (λ v s. leave (Return (Some v)) b s)
      (λ v ghost. record { related = record { temps = b; is = refl; lands = tt } }))

  -- CONTROL
  break_kept : KeptAt tac.Break
  break_kept lives g a b s rules p new =
      follows_along table constants source used holds_word
      (rolled table constants source used holds_word are_sources arith here C D D tac.Break b s)
      (record {
        related = record { temps = b; is = refl; lands = record { after = g; agree = p; adds = λ t n e. e } };
      })

  continue_kept : KeptAt tac.Continue
  continue_kept lives g a b s rules p new =
      follows_along table constants source used holds_word
      (rolled table constants source used holds_word are_sources arith here C D D tac.Continue b s)
      (record {
        related = record { temps = b; is = refl; lands = record { after = g; agree = p; adds = λ t n e. e } };
      })

  chosen : (lives : Lives) (g : Temps) (assignments : Assignments) (t : Bool) (o o' p p' : Piece (Left Temps)) →
      Keeps lives g assignments o p → Keeps lives g assignments o' p' →
      Keeps lives g assignments (if t then o else o') (if t then p else p')
  chosen lives g assignments true o o' p p' m n = m
  chosen lives g assignments false o o' p p' m n = n

  if_kept : (cond : ℕ) (x y : List TacStmt) → Each Kept x → Each Kept y → KeptAt (tac.If cond x y)
  if_kept cond x y hx hy lives g a b s rules p new =
      follows_along table constants source used holds_word
      (rolled table constants source used holds_word are_sources arith here C D D
      (tac.If (source cond) (present (map passes x)) (present (map passes y))) b s)
      (read_then table constants source used holds_word are_sources arith here C D lives g
      (assigned_at (tac.If cond x y))
      (λ t. cond == t || (row_reads x lives t || row_reads y lives t)) a b p cond (
        or_left (cond == cond) _ (eq-eqb cond cond refl),
        and_first (used (source cond)) true (and_first (all_used source used (cond ∷ [])) _ rules.uses),
      ) s
      (λ v s. choose v (row_does x a s) (row_does y a s)) (λ v s. choose v (row_done x b s) (row_done y b s))
      (λ v ghost. chosen lives g (assigned_at (tac.If cond x y)) (is_true v) _ _ _ _
      (follows_within table constants source used holds_word lives g (assigned_at (tac.If cond x y)) (row_assigned x)
      (row_does x a s) (row_done x b s)
      (λ t n. (never_both (row_assigned x t) (row_assigned y t) n).0)
      (row_kept x hx lives g a b s (record {
        below = λ t. below_first (row_assigned x t) (row_assigned y t) (table t) (rules.below t);
        words = λ t w. and_first (all_true (map (word_test t) x)) _ (inner_words t w);
        uses = and_first (all_true (map use_test x)) _ inner_use;
        takes = and_first (all_true (map give_test x)) _ inner_give;
        fresh = λ t. and_first (row_fresh (map (reading t) x) (ahead_at lives t)) _ (rules.fresh t);
      }) (less table constants source used holds_word (λ t. cond == t || (row_reads x lives t || row_reads y lives t))
      (row_reads x lives) g
      a b (λ t on. or_right (cond == t) _ (or_left (row_reads x lives t) _ on)) p)
      (λ t once. side t (λ n. (never_both (row_assigned x t) (row_assigned y t) n).0) (new t once))))
      (follows_within table constants source used holds_word lives g (assigned_at (tac.If cond x y)) (row_assigned y)
      (row_does y a s) (row_done y b s)
      (λ t n. (never_both (row_assigned x t) (row_assigned y t) n).1)
      (row_kept y hy lives g a b s (record {
        below = λ t. below_rest (row_assigned x t) (row_assigned y t) (table t) (rules.below t);
        words = λ t w. and_first (all_true (map (word_test t) y)) true
            (and_rest (all_true (map (word_test t) x)) _ (inner_words t w));
        uses = and_first (all_true (map use_test y)) true (and_rest (all_true (map use_test x)) _ inner_use);
        takes = and_first (all_true (map give_test y)) true (and_rest (all_true (map give_test x)) _ inner_give);
        fresh = λ t. and_rest (row_fresh (map (reading t) x) (ahead_at lives t)) _ (rules.fresh t);
      }) (less table constants source used holds_word (λ t. cond == t || (row_reads x lives t || row_reads y lives t))
      (row_reads y lives) g
      a b (λ t on. or_right (cond == t) _ (or_right (row_reads x lives t) _ on)) p)
      (λ t once. side t (λ n. (never_both (row_assigned x t) (row_assigned y t) n).1) (new t once)))))) where
        inner_words : (t : ℕ) → holds_word t ≡ true →
            (all_true (map (word_test t) x) && (all_true (map (word_test t) y) && true)) ≡ true
        inner_words t w = and_rest true _ (rules.words t w)

        inner_use : (all_true (map use_test x) && (all_true (map use_test y) && true)) ≡ true
        inner_use = and_rest (all_used source used (cond ∷ [])) _ rules.uses

        inner_give : (all_true (map give_test x) && (all_true (map give_test y) && true)) ≡ true
        inner_give = and_rest true _ rules.takes

        side : {part : Assigned} (t : ℕ) → ((assigned_at (tac.If cond x y)) t ≡ Nowhere → part ≡ Nowhere) →
            (((assigned_at (tac.If cond x y)) t ≡ Nowhere) ⊎ (g t ≡ None)) →
            ((part ≡ Nowhere) ⊎ (g t ≡ None))
        side t f (inl n) = inl (f n)
        side t f (inr e) = inr e

  not_true : {B : Type 0} (b : Bool) → not b ≡ true → b ≡ true → B
  not_true true n h = let no : false ≡ true = n in absurd (cc no)
  not_true false n h = let no : false ≡ true = h in absurd (cc no)

  abbrev fresh_part : Lives → List TacStmt → ℕ → Bool
  fresh_part lives stmts t = not (row_reads stmts (part_lives lives nothing) t)
      && row_fresh (map (reading t) stmts) (ahead_at (part_lives lives nothing) t)

  loop_kept : (x y z : List TacStmt) → Each Kept x → Each Kept y → Each Kept z → KeptAt (tac.Loop x y z)
  loop_kept x y z hx hy hz lives g a b s rules p new =
      follows_along table constants source used holds_word
      (rolled table constants source used holds_word are_sources arith here C D D
      (tac.Loop (present (map passes x)) (present (map passes y)) (present (map passes z))) b s)
      (follows_rounds table constants source used holds_word lives g (assigned_at (tac.Loop x y z)) (row_assigned x)
      (row_assigned y) (row_assigned z)
      (λ t n. (never_both (row_assigned x t) _ n).0)
      (λ t n. (never_both (row_assigned y t) (row_assigned z t) (never_both (row_assigned x t) _ n).1).0)
      (λ t n. (never_both (row_assigned y t) (row_assigned z t) (never_both (row_assigned x t) _ n).1).1)
      (row_does x) (row_does y) (row_does z) (row_done x) (row_done y) (row_done z)
      (λ a b s. part x hx a b s (record {
        below = λ t. below_first (row_assigned x t) _ (table t) (rules.below t);
        words = λ t w. and_first (all_true (map (word_test t) x)) _ (inner_words t w);
        uses = and_first (all_true (map use_test x)) _ inner_use;
        takes = and_first (all_true (map give_test x)) _ inner_give;
        fresh = λ t. and_rest _ _ (and_first (fresh_part lives x t) _ (rules.fresh t));
      }) (λ t. and_first _ _ (and_first (fresh_part lives x t) _ (rules.fresh t))))
      (λ a b s. part y hy a b s (record {
        below = λ t. below_first (row_assigned y t) _ (table t) (below_rest (row_assigned x t) _ (table t)
            (rules.below t));
        words = λ t w. and_first (all_true (map (word_test t) y)) _
            (and_rest (all_true (map (word_test t) x)) _ (inner_words t w));
        uses = and_first (all_true (map use_test y)) _ (and_rest (all_true (map use_test x)) _ inner_use);
        takes = and_first (all_true (map give_test y)) _ (and_rest (all_true (map give_test x)) _ inner_give);
        fresh = λ t. and_rest _ _ (and_first (fresh_part lives y t) _ (and_rest (fresh_part lives x t) _
            (rules.fresh t)));
      }) (λ t. and_first _ _ (and_first (fresh_part lives y t) _ (and_rest (fresh_part lives x t) _ (rules.fresh t)))))
      (λ a b s. part z hz a b s (record {
        below = λ t. below_rest (row_assigned y t) _ (table t) (below_rest (row_assigned x t) _ (table t)
            (rules.below t));
        words = λ t w. and_first (all_true (map (word_test t) z)) true (and_rest (all_true (map (word_test t) y)) _
            (and_rest (all_true (map (word_test t) x)) _ (inner_words t w)));
        uses = and_first (all_true (map use_test z)) true
            (and_rest (all_true (map use_test y)) _ (and_rest (all_true (map use_test x)) _ inner_use));
        takes = and_first (all_true (map give_test z)) true
            (and_rest (all_true (map give_test y)) _ (and_rest (all_true (map give_test x)) _ inner_give));
        fresh = λ t. and_rest _ _ (and_rest (fresh_part lives y t) _ (and_rest (fresh_part lives x t) _
            (rules.fresh t)));
      }) (λ t. and_first _ _ (and_rest (fresh_part lives y t) _ (and_rest (fresh_part lives x t) _ (rules.fresh t)))))
      (suc s.turns) a b s) where
        part : (stmts : List TacStmt) → Each Kept stmts → (a b : Temps) (s : State) →
            RowRules stmts (part_lives lives nothing) →
            ((t : ℕ) → not (row_reads stmts (part_lives lives nothing) t) ≡ true) →
            Keeps (part_lives lives nothing) no_temps (row_assigned stmts) (row_does stmts a s) (row_done stmts b s)
        part stmts h a b s rules none = row_kept stmts h (part_lives lives nothing) no_temps a b s rules
            (begun table constants source used holds_word (row_reads stmts (part_lives lives nothing)) a b
            (λ t on. not_true (row_reads stmts (part_lives lives nothing) t) (none t) on))
            (λ t once. inr refl)

        inner_words : (t : ℕ) → holds_word t ≡ true → (all_true (map (word_test t) x) && (all_true (map (word_test t) y)
            && (all_true (map (word_test t) z) && true))) ≡ true
        inner_words t w = and_rest true _ (rules.words t w)

        inner_use : (all_true (map use_test x) && (all_true (map use_test y) && (all_true
            (map use_test z) && true))) ≡ true
        inner_use = and_rest true _ rules.uses

        inner_give :
            (all_true (map give_test x) && (all_true (map give_test y) && (all_true (map give_test z) && true))) ≡ true
        inner_give = and_rest true _ rules.takes

  layer_kept : (k : TacStmt-F TacStmt) → Inside Kept k → KeptAt k
  layer_kept (tac.Const dest value) h = const_kept dest value
  layer_kept (tac.Copy dest from) h = copy_kept dest from
  layer_kept (tac.Op dest o left right) h = op_kept dest o left right
  layer_kept (tac.ObjectPlace dest object) h = object_kept dest object
  layer_kept (tac.GlobalPlace dest global) h = global_kept dest global
  layer_kept (tac.Load dest place pointer) h = load_kept dest place pointer
  layer_kept (tac.Store place value) h = store_kept place value
  layer_kept (tac.If cond x y) h = if_kept cond x y h.0 h.1
  layer_kept (tac.Loop x y z) h = loop_kept x y z h.0 h.1 h.2
  layer_kept tac.Break h = break_kept
  layer_kept tac.Continue h = continue_kept
  layer_kept (tac.CallOwn dest function args) h = own_kept dest function args
  layer_kept (tac.CallCross dest comp index args) h = cross_kept dest comp index args
  layer_kept (tac.Input dest) h = input_kept dest
  layer_kept (tac.Output value) h = output_kept value
  layer_kept (tac.Alloc dest count words) h = alloc_kept dest count words
  layer_kept (tac.Free pointer) h = free_kept pointer
  layer_kept (tac.Return value) h = return_kept value

  stmt_kept : (stmt : TacStmt) → Kept stmt
  stmt_kept = stmt_induction Kept (λ k h. rolled_up k (layer_kept k h))

  pub code_kept : (stmts : List TacStmt) → RowKept stmts
  code_kept stmts = row_kept stmts (everywhere Kept stmt_kept stmts)
