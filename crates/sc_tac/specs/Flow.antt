-- Which temporaries some path through the code reads before it assigns them.
use Rattle.std.specs.Prelude.{ℕ, zero, suc, Bool, true, false, not, ◌&&◌, ◌||◌, ◌==◌, List, [], ◌∷◌, map, Option}
use Rattle.std.specs.List.{list_any}
use Rattle.sc_tac.specs.Parts.{one_or_none, temps_read, temp_assigned}
use Rattle.sc_tac.specs.declared.stmt.TacStmt.{TacStmt, TacStmt-F, fold-TacStmt}
use Rattle.sc_tac.specs.declared.stmt.TacStmt.TheOpen as tac

-- whether a temporary is read first on some path from where control goes on: after the code, at a break, at a continue
pub record Ahead : Type 0 where
  pub following : Bool
  pub broken : Bool
  pub continued : Bool

abbrev pub nothing_ahead : Ahead
nothing_ahead = record { following = false; broken = false; continued = false }

-- of a piece of code: whether the temporary is read first from its start, and whether no loop in it begins one of its
-- parts with such a read
pub record Reading : Type 0 where
  pub first : Ahead → Bool
  pub fresh : Ahead → Bool

abbrev pub is_one : ℕ → List ℕ → Bool
is_one t temps = list_any (λ other. other == t) temps

-- statements in order: from the last one back
abbrev pub row_first : List Reading → Ahead → Bool
row_first [] ahead = ahead.following
row_first (r ∷ rs) ahead = r.first (record ahead { following = row_first rs ahead })

abbrev pub row_fresh : List Reading → Ahead → Bool
row_fresh [] ahead = true
row_fresh (r ∷ rs) ahead = r.fresh (record ahead { following = row_first rs ahead }) && row_fresh rs ahead

-- a part of a loop that has this ahead at its end; a break leads to what follows the loop
abbrev pub part_ahead : Ahead → Bool → Ahead
part_ahead ahead end = record { following = end; broken = ahead.following; continued = end }

-- the loop's start, where nothing more is read than in one round
abbrev pub round_first : List Reading → List Reading → List Reading → Ahead → Bool
round_first head body next ahead =
    row_first head (part_ahead ahead (row_first body (part_ahead ahead (row_first next (part_ahead ahead false)))))

abbrev pub part_fresh : List Reading → Ahead → Bool
part_fresh part ahead = not (row_first part (part_ahead ahead false)) && row_fresh part (part_ahead ahead false)

module _ (t : ℕ) where
  -- a statement without others inside: it reads, then it assigns
  abbrev pub plain : List ℕ → Option ℕ → Reading
  plain reads assigned = record {
    first = λ ahead. is_one t reads || (not (is_one t (one_or_none assigned)) && ahead.following);
    fresh = λ ahead. true;
  }

  -- control doesn't go on after it
  abbrev pub leaving : (Ahead → Bool) → Reading
  leaving first = record { first = first; fresh = λ ahead. true }

  abbrev pub reading_step : TacStmt-F Reading → Reading
  reading_step (tac.If cond a b) = record {
    first = λ ahead. cond == t || (row_first a ahead || row_first b ahead);
    fresh = λ ahead. row_fresh a ahead && row_fresh b ahead;
  }
  reading_step (tac.Loop head body next) = record {
    first = round_first head body next;
    fresh = λ ahead. part_fresh head ahead && (part_fresh body ahead && part_fresh next ahead);
  }
  reading_step tac.Break = leaving (λ ahead. ahead.broken)
  reading_step tac.Continue = leaving (λ ahead. ahead.continued)
  reading_step (tac.Return value) = leaving (λ ahead. is_one t (one_or_none value))
  reading_step stmt = plain (temps_read stmt) (temp_assigned stmt)

  abbrev pub reading : TacStmt → Reading
  reading = fold-TacStmt Reading reading_step

  -- on every path from the start, and from the start of each part of a loop, the temporary is assigned before a read
  abbrev pub is_assigned_first : List TacStmt → Bool
  is_assigned_first stmts =
      not (row_first (map reading stmts) nothing_ahead) && row_fresh (map reading stmts) nothing_ahead

-- each of the temporaries below this number
abbrev pub all_assigned_first : ℕ → List TacStmt → Bool
all_assigned_first zero stmts = true
all_assigned_first (suc t) stmts = is_assigned_first t stmts && all_assigned_first t stmts
