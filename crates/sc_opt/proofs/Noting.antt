-- The table of facts, statement by statement.
use Rattle.std.proofs.Common.{Bool, List, None, Option, Some, [], ap, ap₂, false, if◌then◌else◌, map, not, refl}
use Rattle.std.proofs.Common.{drop, eqb-true, get_or, length, slice_get, slice_set, subst, ◌+◌, ◌<◌, ◌≤◌}
use Rattle.std.proofs.Common.{sym, true, ℕ, ◌&&◌, ◌==◌, ◌||◌, ◌∙◌, ◌∷◌, ◌≡◌}
use Rattle.std.proofs.lemmas.Option.{slice_get_within}
use Rattle.std.specs.Option.{option_map}
use Rattle.sc_tac.specs.Prelude.{everywhere, is_one, one_or_none, with_parts}
use Rattle.sc_tac.specs.declared.stmt.Constant.{Constant}
use Rattle.sc_tac.specs.declared.stmt.TacOp.{TacOp}
use Rattle.sc_tac.specs.declared.stmt.TacStmt.{TacStmt, TacStmt-F, fold-roll-TacStmt, map-TacStmt}
use Rattle.sc_tac.specs.declared.stmt.TacStmt.{roll-TacStmt}
use Rattle.sc_tac.specs.declared.stmt.TacStmt.TheOpen as tac
use Rattle.sc_tac.specs.declared.stmt.TacStmt.TheVariants as emit
use Rattle.sc_opt.proofs.Joined.{not_same}
use Rattle.sc_opt.proofs.Stepping.{ended_of, parted_of, set_elsewhere, set_here}
use Rattle.sc_opt.specs.Pass.{assigned, assigned_in, assigned_step, assigns_words, gives_word, is_word_constant, joined}
use Rattle.sc_opt.specs.Tables.{NotesAll, NotesStmt, noted, with_fact, words_alone}
use Rattle.sc_opt.specs.declared.facts.Assigned.{Assigned}
use Rattle.sc_opt.specs.declared.facts.Assigned.TheVariants.{ByConstant, ByCopy, ByOperator, Nowhere, Otherwise}
use Rattle.sc_opt.specs.declared.facts.Assigned.TheVariants.{Several}
use Rattle.sc_opt.specs.declared.facts.Facts.{Facts}

-- WHAT IS JOINED
pub joined_nothing : (x : Assigned) → joined x Nowhere ≡ x
joined_nothing Nowhere = refl
joined_nothing (ByConstant c) = refl
joined_nothing (ByCopy u) = refl
joined_nothing (ByOperator o left right) = refl
joined_nothing Otherwise = refl
joined_nothing Several = refl

joined_assoc : (x y z : Assigned) → joined (joined x y) z ≡ joined x (joined y z)
joined_assoc Nowhere y z = refl
joined_assoc x Nowhere z = ap (λ a. joined a z) (joined_nothing x)
joined_assoc x y Nowhere = joined_nothing (joined x y) ∙ ap (joined x) (sym (joined_nothing y))
joined_assoc x y z = refl

and_assoc : (a b c : Bool) → ((a && b) && c) ≡ (a && (b && c))
and_assoc true b c = refl
and_assoc false b c = refl

and_true : (a : Bool) → (a && true) ≡ a
and_true true = refl
and_true false = refl

abbrev facts : Assigned → Bool → Facts
facts a w = record { assigned = a; holds_word = w }

pub fact_twice : (a b : Assigned) (v w : Bool) (known : Option Facts) →
    option_map (with_fact b w) (option_map (with_fact a v) known) ≡ option_map (with_fact (joined a b) (v && w)) known
fact_twice a b v w None = refl
fact_twice a b v w (Some known) = ap₂ (λ x y. Some (facts x y)) (joined_assoc known.assigned a b)
    (and_assoc known.holds_word v w)

pub no_fact : (known : Option Facts) → option_map (with_fact Nowhere true) known ≡ known
no_fact None = refl
no_fact (Some known) = ap₂ (λ x y. Some (facts x y)) (joined_nothing known.assigned) (and_true known.holds_word)

-- a fact is set
pub fact_set : (table after : List Facts) (temp : ℕ) (known fact : Facts) (how : Assigned) (word : Bool) →
    Some known ≡ slice_get table temp → fact ≡ with_fact how word known → after ≡ slice_set table temp fact →
    (t : ℕ) → slice_get after t ≡ noted (temp == t) how word (slice_get table t)
fact_set table after temp known fact how word there is set t = by (temp == t) refl where
  here : slice_get (slice_set table temp fact) temp ≡ option_map (with_fact how word) (slice_get table temp)
  here = set_here table temp fact (slice_get_within table temp known (sym there)) ∙ ap Some is
      ∙ ap (option_map (with_fact how word)) there

  by : (b : Bool) → (temp == t) ≡ b → slice_get after t ≡ noted b how word (slice_get table t)
  by true same = ap (λ l. slice_get l t) set
      ∙ subst (λ u. slice_get (slice_set table temp fact) u ≡ option_map (with_fact how word) (slice_get table u))
      (eqb-true temp t same) here
  by false same = ap (λ l. slice_get l t) set
      ∙ set_elsewhere table temp t fact (not_same {B = ⊥} temp t same)

-- STATEMENTS IN ORDER
pub notes_none : (table : List Facts) → NotesAll [] table table
notes_none table = record { at = λ t. sym (no_fact (slice_get table t)) }

pub notes_next : (stmt : TacStmt) (rest : List TacStmt) (a b c : List Facts) → NotesStmt stmt a b → NotesAll rest b c →
    NotesAll (stmt ∷ rest) a c
notes_next stmt rest a b c first more = record {
  at = λ t. more.at t ∙ ap (option_map (with_fact (assigned_in t rest) (everywhere (assigns_words t) rest)))
      (first.at t)
      ∙ fact_twice (assigned t stmt) (assigned_in t rest) (words_alone t stmt) (everywhere (assigns_words t) rest)
      (slice_get a t);
}

-- one more of a list
pub notes_stepped : (items list : List TacStmt) (i : ℕ) (stmt : TacStmt) (a b c : List Facts) → items ≡ list →
    i < length items → stmt ≡ get_or items i stmt → NotesStmt stmt a b → NotesAll (drop (i + 1) list) b c →
    NotesAll (drop i list) a c
notes_stepped items list i stmt a b c same less is h k = subst (λ l. NotesAll l a c)
    (parted_of items list i stmt same less is) (notes_next stmt (drop (i + 1) list) a b c h k)

pub notes_ended : (items list : List TacStmt) (i : ℕ) (table : List Facts) → items ≡ list → length items ≤ i →
    NotesAll (drop i list) table table
notes_ended items list i table same h =
    subst (λ l. NotesAll l table table) (ended_of items list i same h) (notes_none table)

-- EACH KIND
-- a statement by its layer
by_layer : (stmt : TacStmt) (layer : TacStmt-F TacStmt) (a b : List Facts) → roll-TacStmt layer ≡ stmt →
    ((t : ℕ) → slice_get b t ≡ option_map (with_fact (assigned_step t (map-TacStmt _ _ (assigned t) layer))
    (with_parts (assigns_words t) (map-TacStmt _ _ (words_alone t) layer))) (slice_get a t)) → NotesStmt stmt a b
by_layer stmt layer a b is h = record {
  at = λ t. h t ∙ ap₂ (λ x w. option_map (with_fact x w) (slice_get a t))
      (sym (fold-roll-TacStmt Assigned (assigned_step t) layer) ∙ ap (assigned t) is)
      (sym (fold-roll-TacStmt Bool (with_parts (assigns_words t)) layer) ∙ ap (words_alone t) is);
}

-- parts
pub if_noted : (stmt : TacStmt) (a b c : List Facts) (cond : ℕ) (x y : List TacStmt) → stmt ≡ emit.If cond x y →
    NotesAll x a b → NotesAll y b c → NotesStmt stmt a c
if_noted stmt a b c cond x y is h k = by_layer stmt (tac.If cond x y) a c (emit.rolls-If cond x y ∙ sym is) (λ t.
    k.at t ∙ ap (option_map (with_fact (assigned_in t y) (everywhere (assigns_words t) y))) (h.at t)
    ∙ fact_twice (assigned_in t x) (assigned_in t y) (everywhere (assigns_words t) x) (everywhere (assigns_words t) y)
    (slice_get a t)
    ∙ ap (λ w. option_map (with_fact (joined (assigned_in t x) (assigned_in t y))
    (everywhere (assigns_words t) x && w)) (slice_get a t)) (sym (and_true (everywhere (assigns_words t) y))))

pub loop_noted : (stmt : TacStmt) (a b c d : List Facts) (x y z : List TacStmt) → stmt ≡ emit.Loop x y z →
    NotesAll x a b → NotesAll y b c → NotesAll z c d → NotesStmt stmt a d
loop_noted stmt a b c d x y z is h k l =
    by_layer stmt (tac.Loop x y z) a d (emit.rolls-Loop x y z ∙ sym is) (λ t.
    let p = everywhere (assigns_words t) x in
    let q = everywhere (assigns_words t) y in
    let r = everywhere (assigns_words t) z in
    l.at t ∙ ap (option_map (with_fact (assigned_in t z) r)) (k.at t
    ∙ ap (option_map (with_fact (assigned_in t y) q)) (h.at t))
    ∙ fact_twice (assigned_in t y) (assigned_in t z) q r (option_map (with_fact (assigned_in t x) p) (slice_get a t))
    ∙ fact_twice (assigned_in t x) (joined (assigned_in t y) (assigned_in t z)) p (q && r) (slice_get a t)
    ∙ ap (λ w. option_map (with_fact (joined (assigned_in t x) (joined (assigned_in t y) (assigned_in t z)))
    (p && (q && w))) (slice_get a t)) (sym (and_true r)))
