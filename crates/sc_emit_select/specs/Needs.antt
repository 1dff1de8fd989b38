-- Which temporaries are read in their places. A store after the statement that gives the place of a variable is one
-- with it, so that place isn't read; nor is a constant that an operator after it takes as part of its instruction. A
-- temporary that only such statements read needs no word in its place.
use Rattle.sc_emit_select.specs.Common.{TacStmt, TacStmt-F, fold-TacStmt, is_one, one_or_none, temps_read}
use Rattle.std.specs.Prelude.{ℕ, Bool, false, if◌then◌else◌, List, [], ◌∷◌, ◌++◌, map, slice_get}
use Rattle.std.specs.Option.{unwrap_or}
use Rattle.sc_tac.specs.declared.stmt.TacStmt.TheOpen as tac
use Rattle.sc_emit_select.specs.declared.roles.Role.{Role}
use Rattle.sc_emit_select.specs.declared.roles.Role.TheVariants.{Other, Places, Sets, Stores}
use Rattle.sc_emit_select.specs.Roles.{held_in, joins, operates, word_of_constant}

-- of a statement: what it reads wherever it stands, what it gives to the next one, and what it takes of the one before
-- it where that gives it
pub record Need : Type 0 where
  pub reads : List ℕ
  pub gives : Role
  pub takes : Role

abbrev pub reading_only : List ℕ → Need
reading_only reads = record { reads = reads; gives = Other; takes = Other }

-- what a statement takes is read where the one before it doesn't give it
abbrev pub taken_needed : (before takes : Role) → List ℕ
taken_needed before takes = if joins before takes then [] else one_or_none (held_in takes)

-- what statements in order read, after one that gives something
abbrev pub row_needs : (before : Role) → List Need → List ℕ
row_needs before [] = []
row_needs before (need ∷ needs) = taken_needed before need.takes ++ (need.reads ++ row_needs need.gives needs)

abbrev pub need_step : TacStmt-F Need → Need
need_step (tac.ObjectPlace dest object) = record { reads = []; gives = Places dest object; takes = Other }
need_step (tac.Store place value) = record { reads = value ∷ []; gives = Other; takes = Stores place value }
need_step (tac.Const dest value) = record { reads = []; gives = Sets dest (word_of_constant value); takes = Other }
need_step (tac.Op dest o left right) = record { reads = left ∷ []; gives = Other; takes = operates dest o left right }
need_step (tac.If cond first second) = reading_only (cond ∷ row_needs Other first ++ row_needs Other second)
need_step (tac.Loop head body next) =
    reading_only (row_needs Other head ++ (row_needs Other body ++ row_needs Other next))
need_step stmt = reading_only (temps_read stmt)

abbrev pub need : TacStmt → Need
need = fold-TacStmt Need need_step

abbrev pub needs_of : List TacStmt → List ℕ
needs_of stmts = row_needs Other (map need stmts)

-- whether code reads a temporary in its place
abbrev pub needed_in : List TacStmt → ℕ → Bool
needed_in stmts t = is_one t (needs_of stmts)

-- Helping: the same by a mark for each temporary
abbrev pub has_mark : List Bool → ℕ → Bool
has_mark marks t = unwrap_or (slice_get marks t) false
