-- Where a pass changes no weight, the code is lean.
use Rattle.std.proofs.Common.{Bool, List, None, Option, Some, [], ap, eq-eqb, false, if◌then◌else◌, inl, inr, map, not}
use Rattle.std.proofs.Common.{refl, subst, sym, true, ℕ, ◌&&◌, ◌==◌, ◌||◌, ◌∙◌, ◌∷◌, ◌≡◌, ◌≤◌, ◌⊎◌}
use Rattle.std.proofs.lemmas.Bool.{and_from, or_cases, or_left, or_right}
use Rattle.sc_base.proofs.Bools.{and_first, and_rest}
use Rattle.sc_core.proofs.Induction.{Each, everywhere as everywhere_in}
use Rattle.sc_tac.proofs.Induction.{Inside, stmt_induction}
use Rattle.sc_tac.specs.Prelude.{all_true, everywhere, is_one, one_or_none, some_hold, weight, with_parts}
use Rattle.sc_tac.specs.declared.stmt.Constant.{Constant}
use Rattle.sc_tac.specs.declared.stmt.TacStmt.{TacStmt, TacStmt-F, fold-TacStmt, fold-roll-TacStmt, map-TacStmt}
use Rattle.sc_tac.specs.declared.stmt.TacStmt.TheOpen as tac
use Rattle.sc_opt.specs.Pass.{constant_of, copies_one, folded, assigned, assigned_in, assigned_step}
use Rattle.sc_opt.specs.Pass.{is_lean, is_kept, is_none, is_once, is_read, is_total, always_word, lean, reads_temp}
use Rattle.sc_opt.specs.Pass.{known_constant, one_pass}
use Rattle.sc_opt.specs.Pass.{is_read_by, reads_some, reads_unless, reads_within, copy_source, table_of}
use Rattle.sc_opt.proofs.Joined.{AtMost, below_first, below_rest}
use Rattle.sc_opt.proofs.Falling.{all_left}
use Rattle.sc_opt.proofs.Lean.{at_home, no_copies}
use Rattle.sc_opt.proofs.AllKnown.{constant_known, none_folded}
use Rattle.sc_opt.proofs.Copies.{all_sourced, lower}
use Rattle.sc_opt.specs.declared.facts.Assigned.{Assigned}
use Rattle.sc_opt.specs.declared.facts.Assigned.TheVariants.{ByCopy, Nowhere}

-- WHAT IS USED IS READ
module _ (constants : ℕ → Option Constant) (source : ℕ → ℕ) (home : (t : ℕ) → source t ≡ t) (x : ℕ) where
  some_read : (ts : List ℕ) → reads_some source x ts ≡ true → is_one x ts ≡ true
  some_read [] h = h
  some_read (t ∷ ts) h = by (or_cases (source t == x) (reads_some source x ts) h) (some_read ts) where
    by : ((source t == x) ≡ true) ⊎ (reads_some source x ts ≡ true) →
        (reads_some source x ts ≡ true → is_one x ts ≡ true) → is_one x (t ∷ ts) ≡ true
    by (inl is) rest = or_left (t == x) _ (ap (λ u. u == x) (sym (home t)) ∙ is)
    by (inr more) rest = or_right (t == x) _ (rest more)

  unless_read : (f : Option Constant) (ts : List ℕ) → reads_unless source f x ts ≡ true → is_one x ts ≡ true
  unless_read (Some c) ts h = let no : false ≡ true = h in absurd (cc no)
  unless_read None ts h = some_read ts h

  abbrev now : TacStmt → Bool
  now = fold-TacStmt Bool (reads_within constants source x)

  abbrev names : TacStmt → Bool
  names = fold-TacStmt Bool (reads_temp x)

  abbrev Named : TacStmt → Type 0
  Named stmt = now stmt ≡ true → names stmt ≡ true

  row_named : (stmts : List TacStmt) → Each Named stmts → some_hold (map now stmts) ≡ true →
      some_hold (map names stmts) ≡ true
  row_named [] each h = h
  row_named (s ∷ rest) each h = by (or_cases (now s) (some_hold (map now rest)) h) (row_named rest each.1) where
    by : (now s ≡ true) ⊎ (some_hold (map now rest) ≡ true) →
        (some_hold (map now rest) ≡ true → some_hold (map names rest) ≡ true) →
        some_hold (map names (s ∷ rest)) ≡ true
    by (inl is) later = or_left (names s) _ (each.0 is)
    by (inr more) later = or_right (names s) _ (later more)

  alone : (a b : Bool) → (a ≡ true → b ≡ true) → (a || false) ≡ true → (b || false) ≡ true
  alone true b f h = or_left b false (f refl)
  alone false b f h = let no : false ≡ true = h in absurd (cc no)

  both_or : (a b c d : Bool) → (a ≡ true → b ≡ true) → (c ≡ true → d ≡ true) → (a || c) ≡ true → (b || d) ≡ true
  both_or true b c d f g h = or_left b d (f refl)
  both_or false b c d f g h = or_right b d (g h)

  copy_named : (d from : ℕ) → (not (source d == source from) && source from == x) ≡ true → is_one x (from ∷ []) ≡ true
  copy_named d from h = or_left (from == x) false (ap (λ u. u == x) (sym (home from))
      ∙ and_rest (not (source d == source from)) _ h)

  layer_named : (k : TacStmt-F TacStmt) → Inside Named k →
      reads_within constants source x (map-TacStmt _ _ now k) ≡ true → reads_temp x (map-TacStmt _ _ names k) ≡ true
  layer_named (tac.Const dest value) i h = h
  layer_named (tac.Copy dest from) i h = alone _ _ (copy_named dest from) h
  layer_named (tac.Op dest o left right) i h =
      alone _ _ (unless_read (folded constants o left right) (left ∷ one_or_none right)) h
  layer_named (tac.ObjectPlace dest object) i h = h
  layer_named (tac.GlobalPlace dest global) i h = h
  layer_named (tac.Load dest place pointer) i h = alone _ _ (some_read (place ∷ [])) h
  layer_named (tac.Store place value) i h = alone _ _ (some_read (place ∷ value ∷ [])) h
  layer_named (tac.If cond a b) i h = both_or _ _ _ _ (some_read (cond ∷ []))
      (both_or _ _ _ _ (row_named a i.0) (alone _ _ (row_named b i.1))) h
  layer_named (tac.Loop a b c) i h =
      both_or _ _ _ _ (row_named a i.0) (both_or _ _ _ _ (row_named b i.1) (alone _ _ (row_named c i.2))) h
  layer_named tac.Break i h = h
  layer_named tac.Continue i h = h
  layer_named (tac.CallOwn dest function args) i h = alone _ _ (some_read args) h
  layer_named (tac.CallCross dest comp index args) i h = alone _ _ (some_read args) h
  layer_named (tac.Input dest) i h = h
  layer_named (tac.Output value) i h = alone _ _ (some_read (value ∷ [])) h
  layer_named (tac.Alloc dest count words) i h = alone _ _ (some_read (count ∷ [])) h
  layer_named (tac.Free pointer) i h = alone _ _ (some_read (pointer ∷ [])) h
  layer_named (tac.Return value) i h = alone _ _ (some_read (one_or_none value)) h

  stmt_named : (stmt : TacStmt) → Named stmt
  stmt_named = stmt_induction Named (λ k i h. fold-roll-TacStmt Bool (reads_temp x) k
      ∙ layer_named k i (sym (fold-roll-TacStmt Bool (reads_within constants source x) k) ∙ h))

  pub used_is_read : (body : List TacStmt) → is_read constants source body x ≡ true → is_read_by body x ≡ true
  used_is_read body h = row_named body (everywhere_in Named stmt_named body) h

-- WHAT IS LEFT IS LEAN
module _ (table : ℕ → Assigned) (constants : ℕ → Option Constant) (source : ℕ → ℕ) (used reads holds_word : ℕ → Bool)
    (finds : (t : ℕ) (c : Constant) → constant_of (table t) ≡ Some c → constants t ≡ Some c)
    (is_used : (x : ℕ) → used x ≡ true → reads x ≡ true) (no_copy : (t : ℕ) → copies_one table (table t) ≡ false) where
  abbrev left : TacStmt → Bool
  left = fold-TacStmt Bool (with_parts (is_kept constants source used holds_word))

  abbrev leans : TacStmt → Bool
  leans = fold-TacStmt Bool (with_parts (is_lean table reads holds_word))

  abbrev Leaner : TacStmt → Type 0
  Leaner stmt = ((t : ℕ) → AtMost (assigned t stmt) (table t)) → left stmt ≡ true → leans stmt ≡ true

  row_lean : (stmts : List TacStmt) → Each Leaner stmts → ((t : ℕ) → AtMost (assigned_in t stmts) (table t)) →
      all_true (map left stmts) ≡ true → all_true (map leans stmts) ≡ true
  row_lean [] each below h = refl
  row_lean (s ∷ rest) each below h = and_from (leans s) _
      (each.0 (λ t. below_first (assigned t s) (assigned_in t rest) (table t) (below t)) (and_first (left s) _ h))
      (row_lean rest each.1 (λ t. below_rest (assigned t s) (assigned_in t rest) (table t) (below t)) (and_rest
      (left s) _ h))

  with_true : (b c : Bool) → (b ≡ true → c ≡ true) → (b && true) ≡ true → (c && true) ≡ true
  with_true b c f h = and_from c true (f (and_first b true h)) refl

  or_used : (u r t : Bool) → (u ≡ true → r ≡ true) → (u || t) ≡ true → (r || t) ≡ true
  or_used true r t f h = or_left r t (f refl)
  or_used false r t f h = or_right r t h

  copy_lean : (d from : ℕ) → AtMost (if d == d then ByCopy from else Nowhere) (table d) →
      (not (source d == source from) && used d) ≡ true → (not (is_once (table d) && is_once
      (table from)) && reads d) ≡ true
  copy_lean d from below h = and_from (not (is_once (table d) && is_once (table from))) _
      (by (is_once (table d)) refl (is_once (table from)) refl) (is_used d (and_rest (not
      (source d == source from)) _ h)) where
        low : AtMost (ByCopy from) (table d)
        low = subst (λ y. AtMost y (table d)) (ap (λ b. if b then ByCopy from else Nowhere) (eq-eqb d d refl)) below

        clash : is_once (table d) ≡ true → is_once (table from) ≡ true → AtMost (ByCopy from) (table d) → ⊥
        clash one two (inl n) = absurd (cc n)
        clash one two (inr (inl same)) = let no : true ≡ false = sym two ∙ (ap (copies_one table) same ∙ no_copy d) in
            absurd (cc no)
        clash one two (inr (inr often)) = let no : false ≡ true = sym (ap is_once often) ∙ one in absurd (cc no)

        by : (a : Bool) → is_once (table d) ≡ a → (b : Bool) → is_once (table from) ≡ b → not (a && b) ≡ true
        by false one b two = refl
        by true one false two = refl
        by true one true two = absurd (clash one two low)

  layer_lean : (k : TacStmt-F TacStmt) → Inside Leaner k →
      ((t : ℕ) → AtMost (assigned_step t (map-TacStmt _ _ (assigned t) k)) (table t)) →
      with_parts (is_kept constants source used holds_word) (map-TacStmt _ _ left k) ≡ true →
      with_parts (is_lean table reads holds_word) (map-TacStmt _ _ leans k) ≡ true
  layer_lean (tac.Const d value) i below h = with_true _ _ (is_used d) h
  layer_lean (tac.Copy d from) i below h = with_true _ _ (copy_lean d from (below d)) h
  layer_lean (tac.Op d o one two) i below h = with_true _ _ (λ e. and_from _ _
      (none_folded (λ t. constant_of (table t)) constants finds o one two
      (and_first (is_none (folded constants o one two)) _ e))
      (or_used (used d) (reads d) (not (is_total holds_word o one two)) (is_used d)
      (and_rest (is_none (folded constants o one two)) _ e))) h
  layer_lean (tac.ObjectPlace d object) i below h = with_true _ _ (is_used d) h
  layer_lean (tac.GlobalPlace d global) i below h = with_true _ _ (is_used d) h
  layer_lean (tac.Load d place pointer) i below h = refl
  layer_lean (tac.Store place value) i below h = refl
  layer_lean (tac.If cond a b) i below h =
      let inside = and_rest true (all_true (map left a) && (all_true (map left b) && true)) h in
      and_from (all_true (map leans a)) _
      (row_lean a i.0 (λ t. below_first (assigned_in t a) (assigned_in t b) (table t) (below t))
      (and_first (all_true (map left a)) _ inside))
      (and_from (all_true (map leans b)) true
      (row_lean b i.1 (λ t. below_rest (assigned_in t a) (assigned_in t b) (table t) (below t))
      (and_first (all_true (map left b)) true (and_rest (all_true (map left a)) _ inside))) refl)
  layer_lean (tac.Loop a b c) i below h =
      let inside = and_rest true (all_true (map left a) && (all_true (map left b) && (all_true (map left c) && true))) h
      in
      let later = and_rest (all_true (map left a)) _ inside in
      and_from (all_true (map leans a)) _
      (row_lean a i.0 (λ t. below_first (assigned_in t a) _ (table t) (below t)) (and_first (all_true
      (map left a)) _ inside))
      (and_from (all_true (map leans b)) _
      (row_lean b i.1 (λ t. below_first (assigned_in t b) (assigned_in t c) (table t) (below_rest (assigned_in t a) _
      (table t) (below t)))
      (and_first (all_true (map left b)) _ later))
      (and_from (all_true (map leans c)) true
      (row_lean c i.2 (λ t. below_rest (assigned_in t b) (assigned_in t c) (table t) (below_rest (assigned_in t a) _
      (table t) (below t)))
      (and_first (all_true (map left c)) true (and_rest (all_true (map left b)) _ later))) refl))
  layer_lean tac.Break i below h = refl
  layer_lean tac.Continue i below h = refl
  layer_lean (tac.CallOwn dest function args) i below h = refl
  layer_lean (tac.CallCross dest comp index args) i below h = refl
  layer_lean (tac.Input dest) i below h = refl
  layer_lean (tac.Output value) i below h = refl
  layer_lean (tac.Alloc dest count words) i below h = refl
  layer_lean (tac.Free pointer) i below h = refl
  layer_lean (tac.Return value) i below h = refl

  stmt_lean : (stmt : TacStmt) → Leaner stmt
  stmt_lean = stmt_induction Leaner (λ k i below h. fold-roll-TacStmt Bool (with_parts
      (is_lean table reads holds_word)) k
      ∙ layer_lean k i (λ t. subst (λ y. AtMost y (table t)) (fold-roll-TacStmt Assigned (assigned_step t) k) (below t))
      (sym (fold-roll-TacStmt Bool (with_parts (is_kept constants source used holds_word)) k) ∙ h))

  pub left_is_lean : (body : List TacStmt) → ((t : ℕ) → AtMost (assigned_in t body) (table t)) →
      everywhere (is_kept constants source used holds_word) body ≡ true → everywhere
      (is_lean table reads holds_word) body ≡ true
  left_is_lean body below h = row_lean body (everywhere_in Leaner stmt_lean body) below h

-- a pass that changes no weight was not needed
pub is_lean_then : (body : List TacStmt) (bound : ℕ) → ((t : ℕ) → bound ≤ t → assigned_in t body ≡ Nowhere) →
    weight (one_pass body) ≡ weight body → lean body ≡ true
is_lean_then body bound above same =
    let table = table_of body in
    let constants = known_constant table in
    let source = copy_source table in
    let used = is_read constants source body in
    let holds_word = always_word body in
    let left = all_left constants source used holds_word body same in
    let sourced = all_sourced table used holds_word in
    left_is_lean table constants source used (is_read_by body) holds_word (constant_known table)
    (λ x h. used_is_read constants source (at_home table constants used holds_word sourced body (λ t. refl) left) x
    body h)
    (no_copies table constants used holds_word sourced body (λ t. refl) left bound above (lower table used holds_word))
    body
    (λ t. inr (inl refl)) left
