-- What a statement names by itself, apart from the statements inside, and what holds of every statement inside.
use Rattle.std.specs.Prelude.{ℕ, Bool, ◌&&◌, List, [], ◌∷◌, ◌++◌, map, Option, None, Some}
use Rattle.std.specs.List.{list_all}
use Rattle.sc_tac.specs.declared.stmt.TacStmt.{TacStmt, TacStmt-F, fold-TacStmt}
use Rattle.sc_tac.specs.declared.stmt.TacStmt.TheOpen as tac

abbrev pub one_or_none : Option ℕ → List ℕ
one_or_none None = []
one_or_none (Some t) = t ∷ []

module _ {R : Type 0} where
  -- the temporaries that it reads
  abbrev pub temps_read : TacStmt-F R → List ℕ
  temps_read (tac.Const dest value) = []
  temps_read (tac.Copy dest from) = from ∷ []
  temps_read (tac.Op dest op left right) = left ∷ one_or_none right
  temps_read (tac.ObjectPlace dest object) = []
  temps_read (tac.GlobalPlace dest global) = []
  temps_read (tac.Load dest place pointer) = place ∷ []
  temps_read (tac.Store place value) = place ∷ value ∷ []
  temps_read (tac.If cond first second) = cond ∷ []
  temps_read (tac.Loop head body next) = []
  temps_read tac.Break = []
  temps_read tac.Continue = []
  temps_read (tac.CallOwn dest function args) = args
  temps_read (tac.CallCross dest comp index args) = args
  temps_read (tac.Input dest) = []
  temps_read (tac.Output value) = value ∷ []
  temps_read (tac.Alloc dest count words) = count ∷ []
  temps_read (tac.Free pointer) = pointer ∷ []
  temps_read (tac.Return value) = one_or_none value

  -- the temporary that it assigns
  abbrev pub temp_assigned : TacStmt-F R → Option ℕ
  temp_assigned (tac.Const dest value) = Some dest
  temp_assigned (tac.Copy dest from) = Some dest
  temp_assigned (tac.Op dest op left right) = Some dest
  temp_assigned (tac.ObjectPlace dest object) = Some dest
  temp_assigned (tac.GlobalPlace dest global) = Some dest
  temp_assigned (tac.Load dest place pointer) = Some dest
  temp_assigned (tac.Store place value) = None
  temp_assigned (tac.If cond first second) = None
  temp_assigned (tac.Loop head body next) = None
  temp_assigned tac.Break = None
  temp_assigned tac.Continue = None
  temp_assigned (tac.CallOwn dest function args) = dest
  temp_assigned (tac.CallCross dest comp index args) = dest
  temp_assigned (tac.Input dest) = dest
  temp_assigned (tac.Output value) = None
  temp_assigned (tac.Alloc dest count words) = Some dest
  temp_assigned (tac.Free pointer) = None
  temp_assigned (tac.Return value) = None

  abbrev pub temps_named : TacStmt-F R → List ℕ
  temps_named stmt = one_or_none (temp_assigned stmt) ++ temps_read stmt

  -- the lists of statements that stand in it
  abbrev pub parts : TacStmt-F R → List (List R)
  parts (tac.If cond first second) = first ∷ second ∷ []
  parts (tac.Loop head body next) = head ∷ body ∷ next ∷ []
  parts _ = []

abbrev pub all_true : List Bool → Bool
all_true tests = list_all (λ holds. holds) tests

-- it passes a test by itself, and so do those inside
abbrev pub with_parts : (TacStmt-F Bool → Bool) → TacStmt-F Bool → Bool
with_parts test stmt = test stmt && list_all all_true (parts stmt)

-- a test of each statement by itself, over all that stand in these statements
abbrev pub everywhere : (TacStmt-F Bool → Bool) → List TacStmt → Bool
everywhere test stmts = all_true (map (fold-TacStmt Bool (with_parts test)) stmts)
