-- A temporary that isn't the function's is named nowhere: nothing reads it and nothing gives it a value.
use Rattle.std.proofs.Common.{Bool, List, None, Option, Some, [], ap, arith, eqb-true, false, if◌then◌else◌, ltb-true}
use Rattle.std.proofs.Common.{map}
use Rattle.std.proofs.Common.{nat_lt, not, refl, sym, true, ℕ, ◌&&◌, ◌++◌, ◌<◌, ◌==◌, ◌||◌, ◌∙◌, ◌∷◌, ◌≡◌, ◌≤◌}
use Rattle.std.proofs.lemmas.Bool.{and_from}
use Rattle.std.specs.List.{list_all}
use Rattle.sc_base.proofs.Bools.{and_first, and_rest}
use Rattle.sc_core.proofs.Induction.{Each, everywhere as everywhere_in}
use Rattle.sc_tac.proofs.Induction.{Inside, stmt_induction}
use Rattle.sc_tac.specs.Flow.{is_assigned_first}
use Rattle.sc_tac.specs.Prelude.{all_true, everywhere, is_one, names_own_temps, one_or_none, with_parts}
use Rattle.sc_tac.specs.declared.stmt.TacStmt.{TacStmt, TacStmt-F, fold-TacStmt, fold-roll-TacStmt, map-TacStmt}
use Rattle.sc_tac.specs.declared.stmt.TacStmt.TheOpen as tac
use Rattle.sc_opt.specs.Pass.{assigned, assigned_in, assigned_step, joined}
use Rattle.sc_opt.proofs.Unread.{reads_not, unread_first}
use Rattle.sc_opt.specs.declared.facts.Assigned.{Assigned}
use Rattle.sc_opt.specs.declared.facts.Assigned.TheVariants.{ByConstant, ByCopy, ByOperator, Nowhere, Otherwise}

module _ (temps t : ℕ) (out : temps ≤ t) where
  abbrev own : List ℕ → Bool
  own ts = list_all (λ u. nat_lt u temps) ts

  pub differs : (u : ℕ) → nat_lt u temps ≡ true → (u == t) ≡ false
  differs u h = by (u == t) refl where
    below : u < temps
    below = ltb-true u temps h

    apart : u ≡ t → ⊥
    apart same = omega (arith, below, same, out)

    by : (b : Bool) → (u == t) ≡ b → b ≡ false
    by true is = absurd (apart (eqb-true u t is))
    by false is = refl

  pub not_one : (ts : List ℕ) → own ts ≡ true → is_one t ts ≡ false
  not_one [] h = refl
  not_one (u ∷ us) h = ap (λ b. b || is_one t us) (differs u (and_first (nat_lt u temps) _ h))
      ∙ not_one us (and_rest (nat_lt u temps) _ h)

  pub result_owned : (dest : Option ℕ) (ts : List ℕ) → own (one_or_none dest ++ ts) ≡ true →
      own (one_or_none dest) ≡ true
  result_owned None ts h = refl
  result_owned (Some d) ts h = and_from (nat_lt d temps) true (and_first (nat_lt d temps) _ h) refl

  pub back : (dest : Option ℕ) (ts : List ℕ) → own (one_or_none dest ++ ts) ≡ true → own ts ≡ true
  back None ts h = h
  back (Some d) ts h = and_rest (nat_lt d temps) _ h

  abbrev owns : TacStmt → Bool
  owns = fold-TacStmt Bool (with_parts (names_own_temps temps))

  abbrev quiet : TacStmt → Bool
  quiet = fold-TacStmt Bool (with_parts (reads_not t))

  record Absent (is_quiet : Bool) (g : Assigned) : Type 0 where
    silent : is_quiet ≡ true
    never : g ≡ Nowhere

  abbrev Gone : TacStmt → Type 0
  Gone stmt = owns stmt ≡ true → Absent (quiet stmt) (assigned t stmt)

  row_gone : (stmts : List TacStmt) → Each Gone stmts → all_true (map owns stmts) ≡ true →
      Absent (all_true (map quiet stmts)) (assigned_in t stmts)
  row_gone [] each h = record { silent = refl; never = refl }
  row_gone (s ∷ rest) each h =
      let one = each.0 (and_first (owns s) _ h) in
      let more = row_gone rest each.1 (and_rest (owns s) _ h) in
      record {
        silent = and_from (quiet s) _ one.silent more.silent;
        never = ap (λ g. joined g (assigned_in t rest)) one.never ∙ more.never;
      }

  -- a statement without others inside, which gives this where it assigns the temporary
  plain_gone : (dest : Option ℕ) (reads : List ℕ) → (own (one_or_none dest ++ reads) && true) ≡ true → (g : Assigned) →
      Absent (not (is_one t reads) && true) (if is_one t (one_or_none dest) then g else Nowhere)
  plain_gone dest reads h g =
      let all = and_first (own (one_or_none dest ++ reads)) true h in
      record {
        silent = and_from (not (is_one t reads)) true (ap not (not_one reads (back dest reads all))) refl;
        never = ap (λ b. if b then g else Nowhere) (not_one (one_or_none dest) (result_owned dest reads all));
      }

  without_or : (d : ℕ) (g : Assigned) → (if d == t || false then g else Nowhere) ≡ Nowhere →
      (if d == t then g else Nowhere) ≡ Nowhere
  without_or d g h = by (d == t) h where
    by : (b : Bool) → (if b || false then g else Nowhere) ≡ Nowhere → (if b then g else Nowhere) ≡ Nowhere
    by true h = h
    by false h = h

  only_here : {b : Bool} (d : ℕ) (g : Assigned) → Absent b (if d == t || false then g else Nowhere) →
      Absent b (if d == t then g else Nowhere)
  only_here d g a = record { silent = a.silent; never = without_or d g a.never }

  layer_gone : (k : TacStmt-F TacStmt) → Inside Gone k →
      with_parts (names_own_temps temps) (map-TacStmt _ _ owns k) ≡ true →
      Absent (with_parts (reads_not t) (map-TacStmt _ _ quiet k)) (assigned_step t (map-TacStmt _ _ (assigned t) k))
  layer_gone (tac.Const d value) i h = only_here d (ByConstant value) (plain_gone (Some d) [] h (ByConstant value))
  layer_gone (tac.Copy d from) i h = only_here d (ByCopy from) (plain_gone (Some d) (from ∷ []) h (ByCopy from))
  layer_gone (tac.Op d o left right) i h = only_here d (ByOperator o left right)
      (plain_gone (Some d) (left ∷ one_or_none right) h (ByOperator o left right))
  layer_gone (tac.ObjectPlace d object) i h = plain_gone (Some d) [] h Otherwise
  layer_gone (tac.GlobalPlace d global) i h = plain_gone (Some d) [] h Otherwise
  layer_gone (tac.Load d place pointer) i h = plain_gone (Some d) (place ∷ []) h Otherwise
  layer_gone (tac.Store place value) i h = plain_gone None (place ∷ value ∷ []) h Otherwise
  layer_gone (tac.If cond a b) i h =
      let own_cond = and_first (own (cond ∷ [])) _ h in
      let all = and_rest (own (cond ∷ [])) _ h in
      let one = row_gone a i.0 (and_first (all_true (map owns a)) _ all) in
      let two = row_gone b i.1 (and_first (all_true (map owns b)) true (and_rest (all_true (map owns a)) _ all)) in
      record {
        silent = and_from (not (is_one t (cond ∷ []))) _ (ap not (not_one (cond ∷ []) own_cond))
            (and_from (all_true (map quiet a)) _ one.silent (and_from (all_true (map quiet b)) true two.silent refl));
        never = ap (λ g. joined g (assigned_in t b)) one.never ∙ two.never;
      }
  layer_gone (tac.Loop a b c) i h =
      let all = and_rest true (all_true (map owns a) && (all_true (map owns b) && (all_true (map owns c) && true))) h in
      let later = and_rest (all_true (map owns a)) _ all in
      let one = row_gone a i.0 (and_first (all_true (map owns a)) _ all) in
      let two = row_gone b i.1 (and_first (all_true (map owns b)) _ later) in
      let three = row_gone c i.2 (and_first (all_true (map owns c)) true (and_rest (all_true (map owns b)) _ later)) in
      record {
        silent = and_from (all_true (map quiet a)) _ one.silent (and_from (all_true (map quiet b)) _ two.silent
            (and_from (all_true (map quiet c)) true three.silent refl));
        never = ap (λ g. joined g (joined (assigned_in t b) (assigned_in t c))) one.never
            ∙ ap (λ g. joined g (assigned_in t c)) two.never ∙ three.never;
      }
  layer_gone tac.Break i h = record { silent = refl; never = refl }
  layer_gone tac.Continue i h = record { silent = refl; never = refl }
  layer_gone (tac.CallOwn dest function args) i h = plain_gone dest args h Otherwise
  layer_gone (tac.CallCross dest comp index args) i h = plain_gone dest args h Otherwise
  layer_gone (tac.Input dest) i h = plain_gone dest [] h Otherwise
  layer_gone (tac.Output value) i h = plain_gone None (value ∷ []) h Otherwise
  layer_gone (tac.Alloc d count words) i h = plain_gone (Some d) (count ∷ []) h Otherwise
  layer_gone (tac.Free pointer) i h = plain_gone None (pointer ∷ []) h Otherwise
  layer_gone (tac.Return value) i h = plain_gone None (one_or_none value) h Otherwise

  stmt_gone : (stmt : TacStmt) → Gone stmt
  stmt_gone = stmt_induction Gone (λ k i h.
      let absent = layer_gone k i (sym (fold-roll-TacStmt Bool (with_parts (names_own_temps temps)) k) ∙ h) in
      record {
        silent = fold-roll-TacStmt Bool (with_parts (reads_not t)) k ∙ absent.silent;
        never = fold-roll-TacStmt Assigned (assigned_step t) k ∙ absent.never;
      })

  pub assigned_nowhere : (body : List TacStmt) → everywhere (names_own_temps temps) body ≡ true →
      assigned_in t body ≡ Nowhere
  assigned_nowhere body h = (row_gone body (everywhere_in Gone stmt_gone body) h).never

  pub first_nowhere : (body : List TacStmt) → everywhere (names_own_temps temps) body ≡ true →
      is_assigned_first t body ≡ true
  first_nowhere body h = unread_first t body (row_gone body (everywhere_in Gone stmt_gone body) h).silent
