-- A temporary that nothing reads is read first nowhere.
use Rattle.std.proofs.Common.{Bool, List, None, Option, Some, [], ap, false, map, not, refl, sym, true, ℕ, ◌&&◌}
use Rattle.std.proofs.Common.{◌==◌, ◌||◌, ◌∙◌, ◌∷◌, ◌≡◌}
use Rattle.std.proofs.lemmas.Bool.{and_from}
use Rattle.sc_base.proofs.Bools.{and_first, and_rest}
use Rattle.sc_core.proofs.Induction.{Each, everywhere as everywhere_in}
use Rattle.sc_tac.proofs.Induction.{Inside, stmt_induction}
use Rattle.sc_tac.specs.Flow.{is_assigned_first}
use Rattle.sc_tac.specs.Parts.{temps_read}
use Rattle.sc_tac.specs.Prelude.{Ahead, Reading, all_true, everywhere, is_one, nothing_ahead, one_or_none, part_ahead}
use Rattle.sc_tac.specs.Prelude.{reading, reading_step, row_first, row_fresh, with_parts}
use Rattle.sc_tac.specs.declared.stmt.TacStmt.{TacStmt, TacStmt-F, fold-TacStmt, fold-roll-TacStmt, map-TacStmt}
use Rattle.sc_tac.specs.declared.stmt.TacStmt.{roll-TacStmt}
use Rattle.sc_tac.specs.declared.stmt.TacStmt.TheOpen as tac

-- a statement doesn't read this temporary by itself
abbrev pub reads_not : ℕ → TacStmt-F Bool → Bool
reads_not t stmt = not (is_one t (temps_read stmt))

module _ (t : ℕ) where
  record Quiet (ahead : Ahead) : Type 0 where
    following : ahead.following ≡ false
    broken : ahead.broken ≡ false
    continued : ahead.continued ≡ false

  record Silent (first fresh : Bool) : Type 0 where
    first_not : first ≡ false
    is_fresh : fresh ≡ true

  or_false : (a b : Bool) → a ≡ false → b ≡ false → (a || b) ≡ false
  or_false true b h k = h
  or_false false b h k = k

  and_false : (a b : Bool) → b ≡ false → (a && b) ≡ false
  and_false true b h = h
  and_false false b h = refl

  from_not : (a : Bool) → not a ≡ true → a ≡ false
  from_not true h = let no : false ≡ true = h in absurd (cc no)
  from_not false h = refl

  abbrev test : TacStmt → Bool
  test = fold-TacStmt Bool (with_parts (reads_not t))

  abbrev Silenced : TacStmt → Type 0
  Silenced stmt = test stmt ≡ true → (ahead : Ahead) → Quiet ahead →
      Silent ((reading t stmt).first ahead) ((reading t stmt).fresh ahead)

  abbrev row_reads : List TacStmt → Ahead → Bool
  row_reads stmts ahead = row_first (map (reading t) stmts) ahead

  abbrev row_begins : List TacStmt → Ahead → Bool
  row_begins stmts ahead = row_fresh (map (reading t) stmts) ahead

  row_silent : (stmts : List TacStmt) → Each Silenced stmts → all_true (map test stmts) ≡ true → (ahead : Ahead) →
      Quiet ahead → Silent (row_reads stmts ahead) (row_begins stmts ahead)
  row_silent [] each all ahead q = record { first_not = q.following; is_fresh = refl }
  row_silent (s ∷ rest) each all ahead q =
      let more = row_silent rest each.1 (and_rest (test s) _ all) ahead q in
      let one = each.0 (and_first (test s) _ all) (record ahead { following = row_reads rest ahead })
      (record { following = more.first_not; broken = q.broken; continued = q.continued }) in
      record { first_not = one.first_not; is_fresh = and_from _ _ one.is_fresh more.is_fresh }

  quiet_part : (ahead : Ahead) (end : Bool) → Quiet ahead → end ≡ false → Quiet (part_ahead ahead end)
  quiet_part ahead end q h = record { following = h; broken = q.following; continued = h }

  part_hushed : (stmts : List TacStmt) → Each Silenced stmts → all_true (map test stmts) ≡ true → (ahead : Ahead) →
      Quiet ahead → (not (row_reads stmts (part_ahead ahead false)) && row_begins stmts (part_ahead ahead false)) ≡ true
  part_hushed stmts each all ahead q =
      let part = row_silent stmts each all (part_ahead ahead false) (quiet_part ahead false q refl) in
      and_from _ _ (ap not part.first_not) part.is_fresh

  plain_silent : (reads : List ℕ) (dest : Option ℕ) → (not (is_one t reads) && true) ≡ true → (ahead : Ahead) →
      Quiet ahead → Silent (is_one t reads || (not (is_one t (one_or_none dest)) && ahead.following)) true
  plain_silent reads dest h ahead q = record {
    first_not = or_false (is_one t reads) _ (from_not (is_one t reads) (and_first (not (is_one t reads)) true h))
        (and_false (not (is_one t (one_or_none dest))) ahead.following q.following);
    is_fresh = refl;
  }

  layer_silent : (k : TacStmt-F TacStmt) → Inside Silenced k →
      with_parts (reads_not t) (map-TacStmt _ _ test k) ≡ true → (ahead : Ahead) → Quiet ahead →
      Silent ((reading_step t (map-TacStmt _ _ (reading t) k)).first ahead)
      ((reading_step t (map-TacStmt _ _ (reading t) k)).fresh ahead)
  layer_silent (tac.Const d value) i h ahead q = plain_silent [] (Some d) h ahead q
  layer_silent (tac.Copy d from) i h ahead q = plain_silent (from ∷ []) (Some d) h ahead q
  layer_silent (tac.Op d o left right) i h ahead q = plain_silent (left ∷ one_or_none right) (Some d) h ahead q
  layer_silent (tac.ObjectPlace d object) i h ahead q = plain_silent [] (Some d) h ahead q
  layer_silent (tac.GlobalPlace d global) i h ahead q = plain_silent [] (Some d) h ahead q
  layer_silent (tac.Load d place pointer) i h ahead q = plain_silent (place ∷ []) (Some d) h ahead q
  layer_silent (tac.Store place value) i h ahead q = plain_silent (place ∷ value ∷ []) None h ahead q
  layer_silent (tac.If cond a b) i h ahead q =
      let all = and_rest (not (is_one t (cond ∷ []))) _ h in
      let one = row_silent a i.0 (and_first (all_true (map test a)) _ all) ahead q in
      let two = row_silent b i.1 (and_first (all_true (map test b)) true (and_rest (all_true (map test a)) _ all)) ahead
      q in
      record {
        first_not = or_false (cond == t) _ (single (cond == t) (and_first (not (is_one t (cond ∷ []))) _ h))
            (or_false (row_reads a ahead) _ one.first_not two.first_not);
        is_fresh = and_from _ _ one.is_fresh two.is_fresh;
      } where
        single : (b : Bool) → not (b || false) ≡ true → b ≡ false
        single true h = let no : false ≡ true = h in absurd (cc no)
        single false h = refl
  layer_silent (tac.Loop a b c) i h ahead q =
      let all = and_rest true (all_true (map test a) && (all_true (map test b) && (all_true (map test c) && true))) h in
      let one = and_first (all_true (map test a)) _ all in
      let later = and_rest (all_true (map test a)) _ all in
      let two = and_first (all_true (map test b)) _ later in
      let three = and_first (all_true (map test c)) true (and_rest (all_true (map test b)) _ later) in
      let last = row_silent c i.2 three (part_ahead ahead false) (quiet_part ahead false q refl) in
      let middle = row_silent b i.1 two (part_ahead ahead (row_reads c (part_ahead ahead false)))
      (quiet_part ahead (row_reads c (part_ahead ahead false)) q last.first_not) in
      let first_silent = row_silent a i.0 one
      (part_ahead ahead (row_reads b (part_ahead ahead (row_reads c (part_ahead ahead false)))))
      (quiet_part ahead (row_reads b (part_ahead ahead (row_reads c (part_ahead ahead false)))) q middle.first_not) in
      record {
        first_not = first_silent.first_not;
        is_fresh = and_from _ _ (part_hushed a i.0 one ahead q)
            (and_from _ _ (part_hushed b i.1 two ahead q) (part_hushed c i.2 three ahead q));
      }
  layer_silent tac.Break i h ahead q = record { first_not = q.broken; is_fresh = refl }
  layer_silent tac.Continue i h ahead q = record { first_not = q.continued; is_fresh = refl }
  layer_silent (tac.CallOwn dest function args) i h ahead q = plain_silent args dest h ahead q
  layer_silent (tac.CallCross dest comp index args) i h ahead q = plain_silent args dest h ahead q
  layer_silent (tac.Input dest) i h ahead q = plain_silent [] dest h ahead q
  layer_silent (tac.Output value) i h ahead q = plain_silent (value ∷ []) None h ahead q
  layer_silent (tac.Alloc d count words) i h ahead q = plain_silent (count ∷ []) (Some d) h ahead q
  layer_silent (tac.Free pointer) i h ahead q = plain_silent (pointer ∷ []) None h ahead q
  layer_silent (tac.Return value) i h ahead q = record {
    first_not = from_not (is_one t (one_or_none value)) (and_first (not (is_one t (one_or_none value))) true h);
    is_fresh = refl;
  }

  stmt_silent : (stmt : TacStmt) → Silenced stmt
  stmt_silent = stmt_induction Silenced (λ k i h ahead q.
      let silent = layer_silent k i (sym (fold-roll-TacStmt Bool (with_parts (reads_not t)) k) ∙ h) ahead q in
      let is : reading t (roll-TacStmt k) ≡ reading_step t (map-TacStmt _ _ (reading t) k) =
      fold-roll-TacStmt Reading (reading_step t) k in
      record {
        first_not = ap (λ r. r.first ahead) is ∙ silent.first_not;
        is_fresh = ap (λ r. r.fresh ahead) is ∙ silent.is_fresh;
      })

  pub unread_first : (body : List TacStmt) → everywhere (reads_not t) body ≡ true → is_assigned_first t body ≡ true
  unread_first body all =
      let silent = row_silent body (everywhere_in Silenced stmt_silent body) all nothing_ahead
      (record { following = refl; broken = refl; continued = refl }) in
      and_from _ _ (ap not silent.first_not) silent.is_fresh
