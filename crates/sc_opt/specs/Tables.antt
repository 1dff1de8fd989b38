-- Helping: the tables of the code, and what they say of each temporary.
use Rattle.std.specs.Prelude.{◌≡◌, ℕ, Bool, true, false, not, ◌&&◌, ◌||◌, ◌==◌, if◌then◌else◌, List, map, Option, None}
use Rattle.std.specs.Prelude.{Some}
use Rattle.std.specs.Prelude.{replicate, slice_get}
use Rattle.std.specs.List.{range_with_len}
use Rattle.std.specs.Option.{option_map, unwrap_or}
use Rattle.sc_tac.specs.Prelude.{everywhere, with_parts}
use Rattle.sc_tac.specs.declared.stmt.Constant.{Constant}
use Rattle.sc_tac.specs.declared.stmt.TacOp.{TacOp}
use Rattle.sc_tac.specs.declared.stmt.TacStmt.{TacStmt, fold-TacStmt}
use Rattle.sc_tac.specs.declared.stmt.TacStmt.TheVariants as emit
use Rattle.sc_opt.specs.Pass.{assigned, assigned_in, assigns_words, copy_source, folded, is_read, is_total, joined}
use Rattle.sc_opt.specs.Pass.{known_constant, pass, present, reads_within}
use Rattle.sc_opt.specs.declared.facts.Assigned.{Assigned}
use Rattle.sc_opt.specs.declared.facts.Assigned.TheVariants.{Nowhere}
use Rattle.sc_opt.specs.declared.facts.Facts.{Facts}
use Rattle.sc_opt.specs.declared.pass.Tables.{Tables}

-- a temporary of which nothing is known yet
abbrev pub nothing_known : Facts
nothing_known = record { assigned = Nowhere; holds_word = true }

-- what is known once it is also assigned so
abbrev pub with_fact : Assigned → Bool → Facts → Facts
with_fact assigned word known =
    record { assigned = joined known.assigned assigned; holds_word = known.holds_word && word }

abbrev pub noted : Bool → Assigned → Bool → Option Facts → Option Facts
noted here assigned word known = if here then option_map (with_fact assigned word) known else known

-- a statement, and so those inside, gives the temporary words alone
abbrev pub words_alone : ℕ → TacStmt → Bool
words_alone t = fold-TacStmt Bool (with_parts (assigns_words t))

-- the table knows of statements too
pub record NotesAll (stmts : List TacStmt) (before after : List Facts) : Type 0 where
  pub at : (t : ℕ) → slice_get after t ≡
      option_map (with_fact (assigned_in t stmts) (everywhere (assigns_words t) stmts)) (slice_get before t)

pub record NotesStmt (stmt : TacStmt) (before after : List Facts) : Type 0 where
  pub at : (t : ℕ) → slice_get after t ≡
      option_map (with_fact (assigned t stmt) (words_alone t stmt)) (slice_get before t)

-- the table knows of all the code
pub record Notes (temps : ℕ) (body : List TacStmt) (table : List Facts) : Type 0 where
  pub all : NotesAll body (replicate temps nothing_known) table

-- what tables say, also of temporaries behind their ends
abbrev pub facts_at : List Facts → ℕ → Facts
facts_at facts t = unwrap_or (slice_get facts t) nothing_known

abbrev pub assigned_at : List Facts → ℕ → Assigned
assigned_at facts t = (facts_at facts t).assigned

abbrev pub holds_word_at : List Facts → ℕ → Bool
holds_word_at facts t = (facts_at facts t).holds_word

abbrev pub constant_at : List (Option Constant) → ℕ → Option Constant
constant_at constants t = unwrap_or (slice_get constants t) None

abbrev pub source_at : List ℕ → ℕ → ℕ
source_at sources t = unwrap_or (slice_get sources t) t

abbrev pub used_at : List Bool → ℕ → Bool
used_at used t = unwrap_or (slice_get used t) false

-- a temporary is read here
abbrev pub marked : Bool → Option Bool → Option Bool
marked here known = if here then option_map (λ used. true) known else known

module _ (constants : ℕ → Option Constant) (source : ℕ → ℕ) where
  abbrev pub reads_stmt : ℕ → TacStmt → Bool
  reads_stmt x = fold-TacStmt Bool (reads_within constants source x)

  -- what statements read is marked too
  pub record MarksAll (stmts : List TacStmt) (before after : List Bool) : Type 0 where
    pub at : (x : ℕ) → slice_get after x ≡ marked (is_read constants source stmts x) (slice_get before x)

  pub record MarksStmt (stmt : TacStmt) (before after : List Bool) : Type 0 where
    pub at : (x : ℕ) → slice_get after x ≡ marked (reads_stmt x stmt) (slice_get before x)

-- the pass that the tables describe
abbrev pub pass_by : Tables → TacStmt → Option TacStmt
pass_by tables =
    pass (constant_at tables.origins.constants) (source_at tables.origins.sources) (used_at tables.marks)
    (holds_word_at tables.origins.facts)

abbrev pub passed_by : Tables → List TacStmt → List TacStmt
passed_by tables stmts = present (map (pass_by tables) stmts)

abbrev pub copy_by : Tables → (dest from : ℕ) → Option TacStmt
copy_by tables dest from =
    let source = source_at tables.origins.sources in
    if not (source dest == source from) && used_at tables.marks dest then Some (emit.Copy dest (source from)) else None

abbrev pub keep_when : Bool → TacStmt → Option TacStmt
keep_when kept stmt = if kept then Some stmt else None

abbrev pub operator_from : Tables → ℕ → TacOp → ℕ → Option ℕ → Option Constant → Option TacStmt
operator_from tables dest o left right (Some c) = keep_when (used_at tables.marks dest) (emit.Const dest c)
operator_from tables dest o left right None =
    keep_when (used_at tables.marks dest || not (is_total (holds_word_at tables.origins.facts) o left right))
    (emit.Op dest o (source_at tables.origins.sources left) (option_map (source_at tables.origins.sources) right))

abbrev pub operator_by : Tables → ℕ → TacOp → ℕ → Option ℕ → Option TacStmt
operator_by tables dest o left right =
    operator_from tables dest o left right (folded (constant_at tables.origins.constants) o left right)

-- the tables say what the code is like
pub record Tell (temps : ℕ) (body : List TacStmt) (tables : Tables) : Type 0 where
  pub facts : Notes temps body tables.origins.facts
  pub constants : tables.origins.constants
      ≡ map (known_constant (assigned_at tables.origins.facts)) (range_with_len 0 temps)
  pub sources : tables.origins.sources ≡ map (copy_source (assigned_at tables.origins.facts)) (range_with_len 0 temps)
  pub marks : MarksAll (constant_at tables.origins.constants) (source_at tables.origins.sources) body
      (replicate temps false) tables.marks
