-- The points of code in order: what is assigned at each, where functions are called, and which temporaries are live.
-- A temporary is live at a point where some path from there reads it before it assigns it (Aho, Lam, Sethi and Ullman,
-- Compilers: Principles, Techniques, and Tools, 9.2).
use Rattle.std.specs.Prelude.{ℕ, Bool, true, false, not, ◌&&◌, ◌||◌, ◌==◌, List, [], ◌∷◌, ◌++◌, map, Option, None}
use Rattle.sc_tac.specs.declared.function.TacFnTree.{TacFnTree}
use Rattle.sc_tac.specs.declared.stmt.TacStmt.{TacStmt, TacStmt-F, fold-TacStmt, map-TacStmt}
use Rattle.sc_tac.specs.declared.stmt.TacStmt.TheOpen as tac
use Rattle.sc_tac.specs.Flow.{Ahead, Reading, is_one, row_first, round_first, reading_step}
use Rattle.sc_tac.specs.Parts.{one_or_none, temps_read, temp_assigned}

-- temporaries by their numbers
abbrev pub TempSet : Type 0
TempSet = ℕ → Bool

-- a point of the code: what is assigned here, whether a function of a compartment is called here, and what is live here
pub record Point : Type 0 where
  pub assigned : Option ℕ
  pub calls : Bool
  pub live : TempSet

-- what is live where control goes on: after the code, at a break, at a continue
pub record Lives : Type 0 where
  pub following : TempSet
  pub broken : TempSet
  pub continued : TempSet

abbrev pub nothing : TempSet
nothing t = false

abbrev pub nothing_live : Lives
nothing_live = record { following = nothing; broken = nothing; continued = nothing }

abbrev pub ahead_at : Lives → ℕ → Ahead
ahead_at lives t = record { following = lives.following t; broken = lives.broken t; continued = lives.continued t }

-- of a piece of code: how it reads each temporary, and its points
pub record Trail : Type 0 where
  pub reading : ℕ → Reading
  pub points : Lives → List Point

abbrev pub readings : ℕ → List Trail → List Reading
readings t trails = map (λ trail. trail.reading t) trails

-- what is live before statements
abbrev pub live_before : List Trail → Lives → TempSet
live_before trails lives t = row_first (readings t trails) (ahead_at lives t)

-- the points of statements in order
abbrev pub row_points : List Trail → Lives → List Point
row_points [] lives = []
row_points (trail ∷ trails) lives =
    trail.points (record lives { following = live_before trails lives }) ++ row_points trails lives

-- a point at which nothing is assigned
abbrev pub point : Bool → TempSet → Point
point calls live = record { assigned = None; calls = calls; live = live }

abbrev pub if_calls : Bool → Point → List Point
if_calls true x = x ∷ []
if_calls false x = []

-- a statement without others inside: it reads, it may call, it assigns
module _ (reads : List ℕ) (calls : Bool) (assigned : Option ℕ) (lives : Lives) where
  -- what is live while it computes: what isn't assigned by it
  abbrev pub live_across : TempSet
  live_across t = not (is_one t (one_or_none assigned)) && lives.following t

  abbrev pub plain_points : List Point
  plain_points =
      point false (λ t. is_one t reads || live_across t) ∷
      if_calls calls (point true live_across) ++
      record { assigned = assigned; calls = false; live = lives.following } ∷ []

-- what is live in a part of a loop at whose end this is live; a break leads to what follows the loop
abbrev pub part_lives : Lives → TempSet → Lives
part_lives lives end = record { following = end; broken = lives.following; continued = end }

-- a loop: its start, its parts, and its end, from which it goes on at its start
module _ (head body next : List Trail) (lives : Lives) where
  abbrev pub live_at_start : TempSet
  live_at_start t = round_first (readings t head) (readings t body) (readings t next) (ahead_at lives t)

  abbrev pub in_next : Lives
  in_next = part_lives lives live_at_start

  abbrev pub in_body : Lives
  in_body = part_lives lives (live_before next in_next)

  abbrev pub in_head : Lives
  in_head = part_lives lives (live_before body in_body)

  abbrev pub loop_points : List Point
  loop_points =
      point false live_at_start ∷
      row_points head in_head ++ (row_points body in_body ++
      (row_points next in_next ++ point false live_at_start ∷ []))

-- a statement calls a function of its compartment or of another
abbrev pub calls_function : {R : Type 0} → TacStmt-F R → Bool
calls_function (tac.CallOwn dest function args) = true
calls_function (tac.CallCross dest comp index args) = true
calls_function _ = false

abbrev pub stmt_points : TacStmt-F Trail → Lives → List Point
stmt_points (tac.If cond a b) lives =
    point false (λ t. cond == t || (live_before a lives t || live_before b lives t)) ∷
    row_points a lives ++ row_points b lives
stmt_points (tac.Loop head body next) lives = loop_points head body next lives
stmt_points tac.Break lives = point false lives.broken ∷ []
stmt_points tac.Continue lives = point false lives.continued ∷ []
stmt_points (tac.Return value) lives = point false (λ t. is_one t (one_or_none value)) ∷ []
stmt_points stmt lives = plain_points (temps_read stmt) (calls_function stmt) (temp_assigned stmt) lives

abbrev pub trail_step : TacStmt-F Trail → Trail
trail_step stmt = record {
  reading = λ t. reading_step t (map-TacStmt _ _ (λ trail. trail.reading t) stmt);
  points = stmt_points stmt;
}

abbrev pub trail : TacStmt → Trail
trail = fold-TacStmt Trail trail_step

-- the points of code after which something is live
abbrev pub points : List TacStmt → Lives → List Point
points stmts lives = row_points (map trail stmts) lives

-- the points of a function's code, after which nothing is live
abbrev pub function_points : TacFnTree → List Point
function_points f = points f.body nothing_live
