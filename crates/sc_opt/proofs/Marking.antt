-- The marks of what is read, statement by statement.
use Rattle.std.proofs.Common.{Bool, List, None, Option, Some, [], ap, ap₂, false, not, refl}
use Rattle.std.proofs.Common.{slice_get}
use Rattle.std.proofs.Common.{drop, get_or, length, subst, ◌+◌, ◌<◌, ◌≤◌}
use Rattle.std.proofs.Common.{sym, true, ℕ, ◌&&◌, ◌==◌, ◌||◌, ◌∙◌, ◌∷◌, ◌≡◌}
use Rattle.sc_tac.specs.Prelude.{one_or_none}
use Rattle.sc_tac.specs.declared.stmt.Constant.{Constant}
use Rattle.sc_tac.specs.declared.stmt.TacOp.{TacOp}
use Rattle.sc_tac.specs.declared.stmt.TacStmt.{TacStmt, TacStmt-F, fold-roll-TacStmt, map-TacStmt}
use Rattle.sc_tac.specs.declared.stmt.TacStmt.{roll-TacStmt}
use Rattle.sc_tac.specs.declared.stmt.TacStmt.TheOpen as tac
use Rattle.sc_tac.specs.declared.stmt.TacStmt.TheVariants as emit
use Rattle.sc_opt.proofs.Stepping.{ended_of, parted_of}
use Rattle.sc_opt.specs.Pass.{folded, is_read, reads_some, reads_unless, reads_within}
use Rattle.sc_opt.specs.Tables.{MarksAll, MarksStmt, marked, reads_stmt}

or_false : (a : Bool) → (a || false) ≡ a
or_false true = refl
or_false false = refl

pub marked_twice : (a b : Bool) (known : Option Bool) → marked b (marked a known) ≡ marked (a || b) known
marked_twice true true None = refl
marked_twice true true (Some u) = refl
marked_twice true false known = refl
marked_twice false b known = refl

module _ (constants : ℕ → Option Constant) (source : ℕ → ℕ) where
  abbrev Marks : TacStmt → List Bool → List Bool → Type 0
  Marks = MarksStmt constants source

  abbrev MarksRow : List TacStmt → List Bool → List Bool → Type 0
  MarksRow = MarksAll constants source

  -- STATEMENTS IN ORDER
  pub marks_none : (marks : List Bool) → MarksRow [] marks marks
  marks_none marks = record { at = λ x. refl }

  pub marks_next : (stmt : TacStmt) (rest : List TacStmt) (a b c : List Bool) → Marks stmt a b → MarksRow rest b c →
      MarksRow (stmt ∷ rest) a c
  marks_next stmt rest a b c first more = record {
    at = λ x. more.at x ∙ ap (marked (is_read constants source rest x)) (first.at x)
        ∙ marked_twice (reads_stmt constants source x stmt) (is_read constants source rest x) (slice_get a x);
  }

  -- one more of a list
  pub marks_stepped : (items list : List TacStmt) (i : ℕ) (stmt : TacStmt) (a b c : List Bool) → items ≡ list →
      i < length items → stmt ≡ get_or items i stmt → Marks stmt a b → MarksRow (drop (i + 1) list) b c →
      MarksRow (drop i list) a c
  marks_stepped items list i stmt a b c same less is h k = subst (λ l. MarksRow l a c)
      (parted_of items list i stmt same less is) (marks_next stmt (drop (i + 1) list) a b c h k)

  pub marks_ended : (items list : List TacStmt) (i : ℕ) (marks : List Bool) → items ≡ list → length items ≤ i →
      MarksRow (drop i list) marks marks
  marks_ended items list i marks same h =
      subst (λ l. MarksRow l marks marks) (ended_of items list i same h) (marks_none marks)

  -- EACH KIND
  by_layer : (stmt : TacStmt) (layer : TacStmt-F TacStmt) (a b : List Bool) → roll-TacStmt layer ≡ stmt →
      ((x : ℕ) → slice_get b x ≡ marked
      (reads_within constants source x (map-TacStmt _ _ (reads_stmt constants source x) layer)) (slice_get a x)) →
      Marks stmt a b
  by_layer stmt layer a b is h = record {
    at = λ x. h x ∙ ap (λ r. marked r (slice_get a x))
        (sym (fold-roll-TacStmt Bool (reads_within constants source x) layer) ∙ ap (reads_stmt constants source x) is);
  }

  -- one that reads so, without others inside
  plain_marked : (stmt : TacStmt) (layer : TacStmt-F TacStmt) (a b : List Bool) → roll-TacStmt layer ≡ stmt →
      (reads : ℕ → Bool) →
      ((x : ℕ) → reads_within constants source x (map-TacStmt _ _ (reads_stmt constants source x) layer) ≡
      (reads x || false)) →
      ((x : ℕ) → slice_get b x ≡ marked (reads x) (slice_get a x)) → Marks stmt a b
  plain_marked stmt layer a b is reads same h = by_layer stmt layer a b is (λ x. h x
      ∙ ap (λ r. marked r (slice_get a x)) (sym (or_false (reads x)) ∙ sym (same x)))

  module _ (stmt : TacStmt) (a b : List Bool) where
    abbrev Reads : List ℕ → Type 0
    Reads temps = (x : ℕ) → slice_get b x ≡ marked (reads_some source x temps) (slice_get a x)

    pub op_marked : (d : ℕ) (o : TacOp) (left : ℕ) (right : Option ℕ) → stmt ≡ emit.Op d o left right →
        ((x : ℕ) → slice_get b x ≡ marked (reads_unless source (folded constants o left right) x
        (left ∷ one_or_none right))
        (slice_get a x)) → Marks stmt a b
    op_marked d o left right is h = plain_marked stmt (tac.Op d o left right) a b
        (emit.rolls-Op d o left right ∙ sym is)
        (λ x. reads_unless source (folded constants o left right) x (left ∷ one_or_none right)) (λ x. refl) h

  -- parts
  pub if_marked : (stmt : TacStmt) (a b c d : List Bool) (cond : ℕ) (p q : List TacStmt) → stmt ≡ emit.If cond p q →
      ((x : ℕ) → slice_get b x ≡ marked (source cond == x) (slice_get a x)) → MarksRow p b c → MarksRow q c d →
      Marks stmt a d
  if_marked stmt a b c d cond p q is h k l =
      by_layer stmt (tac.If cond p q) a d (emit.rolls-If cond p q ∙ sym is) (λ x.
      let r = is_read constants source p x in
      let s = is_read constants source q x in
      l.at x ∙ ap (marked s) (k.at x ∙ ap (marked r) (h x))
      ∙ marked_twice r s (marked (source cond == x) (slice_get a x))
      ∙ marked_twice (source cond == x) (r || s) (slice_get a x)
      ∙ ap₂ (λ u v. marked (u || (r || v)) (slice_get a x)) (sym (or_false (source cond == x))) (sym (or_false s)))

  pub loop_marked : (stmt : TacStmt) (a b c d : List Bool) (p q r : List TacStmt) → stmt ≡ emit.Loop p q r →
      MarksRow p a b → MarksRow q b c → MarksRow r c d → Marks stmt a d
  loop_marked stmt a b c d p q r is h k l =
      by_layer stmt (tac.Loop p q r) a d (emit.rolls-Loop p q r ∙ sym is) (λ x.
      let u = is_read constants source p x in
      let v = is_read constants source q x in
      let w = is_read constants source r x in
      l.at x ∙ ap (marked w) (k.at x ∙ ap (marked v) (h.at x))
      ∙ marked_twice v w (marked u (slice_get a x))
      ∙ marked_twice u (v || w) (slice_get a x)
      ∙ ap (λ e. marked (u || (v || e)) (slice_get a x)) (sym (or_false w)))
