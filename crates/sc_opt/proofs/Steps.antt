-- Each kind of statement keeps what is known, in the code and in what the pass gives of it.
use Rattle.std.proofs.Common.{Bool, Err, List, None, Ok, Option, Result, Some, [], ap, eq-eqb, false}
use Rattle.std.proofs.Common.{inl, inr, map, refl, subst, sym, true, ℕ, ◌==◌}
use Rattle.std.proofs.Common.{◌∙◌, ◌∷◌, ◌≡◌, ◌⊎◌}
use Rattle.std.proofs.lemmas.Bool.{or_left, or_right}
use Rattle.sc_base.proofs.Bools.{and_first, and_rest}
use Rattle.sc_core.specs.Prelude.{Arith, Calls, Here, Left, Next, Piece, Reached, State, Stopped}
use Rattle.sc_core.specs.Prelude.{and_then, computed, is_word, leave}
use Rattle.sc_core.specs.declared.cause.Cause.{Cause}
use Rattle.sc_core.specs.declared.value.Value.{Value}
use Rattle.sc_core_laws.specs.Prelude.{PiecesAgree, without_line}
use Rattle.sc_tac.specs.Prelude.{Codes, Lives, TempSet, Temps, code_step, constant_value, is_one}
use Rattle.sc_tac.specs.Prelude.{known}
use Rattle.sc_tac.specs.Prelude.{read, read_all}
use Rattle.sc_tac.specs.Prelude.{stmt_does, with_temp}
use Rattle.sc_tac.specs.declared.stmt.Constant.{Constant}
use Rattle.sc_tac.specs.declared.stmt.TacOp.{TacOp}
use Rattle.sc_tac.specs.declared.stmt.TacStmt.{TacStmt, TacStmt-F, fold-roll-TacStmt, map-TacStmt, roll-TacStmt}
use Rattle.sc_opt.specs.Pass.{all_used, is_once, keep_if}
use Rattle.sc_opt.proofs.Joined.{AtMost, decide, with_here, with_other}
use Rattle.sc_opt.proofs.Agreement.{AreConstants, AreSources, Computed, Gains, Moved, Reads, gained, less, reads_of}
use Rattle.sc_opt.proofs.Related.{At, Assignments, Follows, AddsOnly, Lands, across}
use Rattle.sc_opt.proofs.Related.{follows_along}
use Rattle.sc_opt.specs.declared.facts.Assigned.{Assigned}
use Rattle.sc_opt.specs.declared.facts.Assigned.TheVariants.{ByConstant, ByCopy, ByOperator, Nowhere, Several}

-- a statement, unless it went
abbrev pub does_option : Arith → Here → Calls → Option TacStmt → Codes
does_option arith here by None = leave Next
does_option arith here by (Some stmt) = stmt_does arith here by stmt

module _ (table : ℕ → Assigned) (constants : ℕ → Option Constant) (source : ℕ → ℕ) (used holds_word : ℕ → Bool)
    (are_sources : AreSources table source used holds_word)
    (arith : Arith) (here : Here) (C D : Calls) where
  abbrev pub done : Option TacStmt → Codes
  done = does_option arith here D

  pub rolled : (by : Calls) (k : TacStmt-F TacStmt) (b : Temps) (s : State) →
      stmt_does arith here by (roll-TacStmt k) b s
      ≡ code_step arith here by (map-TacStmt _ _ (stmt_does arith here by) k) b s
  rolled by k b s = ap (λ f. f b s) (fold-roll-TacStmt Codes (code_step arith here by) k)

  -- what isn't assigned by a copy alone is read where it is
  pub plain_source : (d : ℕ) (x : Assigned) → AtMost x (table d) → (x ≡ Nowhere → ⊥) → ((u : ℕ) → x ≡ ByCopy u → ⊥) →
      source d ≡ d
  plain_source d x below some no_copy = by (are_sources d) below where
    by : ((source d ≡ d) ⊎ Moved table source used holds_word d) → AtMost x (table d) → source d ≡ d
    by (inl same) below = same
    by (inr m) (inl h) = absurd (some h)
    by (inr m) (inr (inl h)) = absurd (no_copy m.from (h ∙ m.copies))
    by (inr m) (inr (inr h)) = let no : ByCopy m.from ≡ Several = sym m.copies ∙ h in absurd (cc no)

  -- what is assigned by no constant and no operator isn't taken for one
  pub no_constant : {B : Type 0} (are_constants : AreConstants table constants source used holds_word) (d : ℕ)
      (x : Assigned) (c : Constant) → AtMost x (table d) → (x ≡ Nowhere → ⊥) →
      ((c : Constant) → x ≡ ByConstant c → ⊥) →
      ((o : TacOp) (left : ℕ) (right : Option ℕ) → x ≡ ByOperator o left right → ⊥) → constants d ≡ Some c → B
  no_constant {B} are_constants d x c below some plain operator held = by (are_constants d c held) below where
    by : ((table d ≡ ByConstant c) ⊎ Computed table constants source used holds_word d c) → AtMost x (table d) → B
    by k (inl h) = absurd (some h)
    by (inl is) (inr (inl h)) = absurd (plain c (h ∙ is))
    by (inl is) (inr (inr h)) = let bad : Several ≡ ByConstant c = sym h ∙ is in absurd (cc bad)
    by (inr m) (inr (inl h)) = absurd (operator m.op m.left m.right (h ∙ m.assigned))
    by (inr m) (inr (inr h)) = let bad : Several ≡ ByOperator m.op m.left m.right = sym h ∙ m.assigned in absurd
        (cc bad)

  module _ (lives : Lives) (g : Temps) (assignments : Assignments) where
    abbrev R : Piece (Left Temps) → Piece (Left Temps) → Type 0
    R = Follows table constants source used holds_word lives g assignments

    pub computed_related : {V : Type 0} (r : Result V Cause) (s : State) (f h : V → State → Piece (Left Temps)) →
        ((v : V) → r ≡ Ok v → R (f v s) (h v s)) →
        R (and_then (computed here 0 r s) f) (and_then (computed here 0 r s) h)
    computed_related (Err cause) s f h k = record { related = record { other = _; is = refl; same = refl } }
    computed_related (Ok v) s f h k = k v refl

    -- CALLS
    pub pieces_then : (o p : Piece (Option Value)) (f h : Option Value → State → Piece (Left Temps)) →
        PiecesAgree o p → ((v : Option Value) (t : State) → o ≡ Reached v t → R (f v t) (h v t)) →
        R (and_then o f) (and_then p h)
    pieces_then (Reached v s) (Reached w u) f h agree k =
        let both : ◌≡◌ {A = Piece (Option Value)} (Reached v s) (Reached w u) = agree.same in
        subst (λ x. R (f v s) (and_then x h)) both (k v s refl)
    pieces_then (Reached v s) (Stopped end u) f h agree k =
        let no : ◌≡◌ {A = Piece (Option Value)} (Reached v s) (Stopped (without_line end) u) = agree.same in
        absurd (cc no)
    pieces_then (Stopped end s) (Reached w u) f h agree k =
        let no : ◌≡◌ {A = Piece (Option Value)} (Stopped (without_line end) s) (Reached w u) = agree.same in
        absurd (cc no)
    pieces_then (Stopped end s) (Stopped other u) f h agree k =
        let both : ◌≡◌ {A = Piece (Option Value)} (Stopped (without_line end) s) (Stopped (without_line other) u) =
        agree.same in
        let there : s ≡ u = cc both in
        let same : without_line end ≡ without_line other = cc both in
        record { related = record { other = other; is = ap (Stopped other) (sym there); same = same } }

    -- the same piece in both
    pub piece_related : {V : Type 0} (o : Piece V) (f h : V → State → Piece (Left Temps)) →
        ((v : V) (t : State) → R (f v t) (h v t)) → R (and_then o f) (and_then o h)
    piece_related (Reached v s) f h k = k v s
    piece_related (Stopped end s) f h k = record { related = record { other = _; is = refl; same = refl } }

    module _ (first : TempSet) (a b : Temps) (p : At table constants source used holds_word first g a b) where
      -- control goes on, and nothing was assigned
      pub stays : (s : State) → ((t : ℕ) → lives.following t ≡ true → first t ≡ true) →
          R (leave Next a s) (leave Next b s)
      stays s on = record {
        related = record {
          temps = b;
          is = refl;
          lands = record {
            after = g;
            agree = less table constants source used holds_word first lives.following g a b on p;
            adds = λ t n e. e;
          };
        };
      }

      -- READS
      abbrev CanRead : ℕ → Type 0
      CanRead t = (first t ≡ true) × (used (source t) ≡ true)

      pub reads : (t : ℕ) → CanRead t → Reads table constants source used holds_word g a b t
      reads t h = reads_of table constants source used holds_word first g a b t p h.0 h.1

      pub read_here : (t : ℕ) (r : Reads table constants source used holds_word g a b t) (s : State) →
          read here t a s ≡ Reached r.value s
      read_here t r s = ap (λ o. computed here 0 (known o) s) r.here

      pub read_there : (t : ℕ) (r : Reads table constants source used holds_word g a b t) (s : State) →
          read here (source t) b s ≡ Reached r.value s
      read_there t r s = ap (λ o. computed here 0 (known o) s) r.there

      pub read_then : (t : ℕ) → CanRead t → (s : State) (f h : Value → State → Piece (Left Temps)) →
          ((v : Value) → g t ≡ Some v → R (f v s) (h v s)) →
          R (and_then (read here t a s) f) (and_then (read here (source t) b s) h)
      read_then t can s f h k = let r = reads t can in
          across table constants source used holds_word (ap (λ o. and_then o f) (read_here t r s))
          (ap (λ o. and_then o h)
          (read_there t r s))
          (k r.value r.ghost)

      -- several
      pub record ReadsAll (ts : List ℕ) (s : State) : Type 0 where
        pub values : List Value
        pub here_is : read_all here ts a s ≡ Reached values s
        pub there_is : read_all here (map source ts) b s ≡ Reached values s

      pub reads_all : (ts : List ℕ) → ((t : ℕ) → is_one t ts ≡ true → first t ≡ true) →
          all_used source used ts ≡ true → (s : State) → ReadsAll ts s
      reads_all [] live all s = record { values = []; here_is = refl; there_is = refl }
      reads_all (t ∷ ts) live all s =
          let r = reads t (live t (or_left (t == t) _ (eq-eqb t t refl)), and_first (used (source t)) _ all) in
          let more = reads_all ts (λ u h. live u (or_right (t == u) _ h)) (and_rest (used (source t)) _ all) s in
          record {
            values = r.value ∷ more.values;
            here_is = ap (λ o. and_then o (λ v s. and_then (read_all here ts a s) (λ vs s. Reached (v ∷ vs) s)))
                (read_here t r s) ∙ ap (λ o. and_then o (λ vs s. Reached (r.value ∷ vs) s)) more.here_is;
            there_is = ap (λ o. and_then o (λ v s. and_then (read_all here (map source ts) b s)
                (λ vs s. Reached (v ∷ vs) s))) (read_there t r s)
                ∙ ap (λ o. and_then o (λ vs s. Reached (r.value ∷ vs) s)) more.there_is;
          }

      -- ASSIGNMENTS
      module _ (d : ℕ) (v : Value) (s : State) (new : is_once (table d) ≡ true → g d ≡ None)
          (comes : assignments d ≡ Nowhere → ⊥)
          (on : (t : ℕ) → lives.following t ≡ true → (t == d) ≡ false → first t ≡ true)
          (const : (c : Constant) → constants d ≡ Some c → v ≡ constant_value c)
          (word : holds_word d ≡ true → is_word v ≡ true) where
        abbrev puts : Temps → Piece (Left Temps)
        puts temps = leave Next (with_temp d v temps) s

        adds : AddsOnly g assignments (with_temp d v g)
        adds t n e = decide t d (λ is. absurd (comes (sym (ap assignments is) ∙ n))) (λ m. with_other d v g t m ∙ e)

        lands : (b' : Temps) → Gains table constants source used holds_word g b b' d v →
            Lands table constants source used holds_word lives.following g assignments (with_temp d v a) b'
        lands b' gains = record {
          after = with_temp d v g;
          agree = gained table constants source used holds_word are_sources first lives.following g a b b' d v p gains
              on;
          adds = adds;
        }

        -- it went, where it isn't read or is there already
        pub gone : ((source d ≡ d) ⊎ (g (source d) ≡ Some v)) → (used (source d) ≡ true → b (source d) ≡ Some v) →
            R (puts a) (leave Next b s)
        gone from there = record {
          related = record {
            temps = b;
            is = refl;
            lands = lands b (record {
              first = new;
              from = from;
              there = there;
              others = λ x n. refl;
              constant = const;
              word = word;
            });
          };
        }

        module _ (same : source d ≡ d) where
          pub both : R (puts a) (puts b)
          both = record {
            related = record {
              temps = with_temp d v b;
              is = refl;
              lands = lands (with_temp d v b) (record {
                first = new;
                from = inl same;
                there = λ u. with_here d v b (source d) same;
                others = λ x n. with_other d v b x n;
                constant = const;
                word = word;
              });
            };
          }

          pub unread : used d ≡ false → R (puts a) (leave Next b s)
          unread h = gone (inl same) (λ u. let no : true ≡ false = sym u ∙ (ap used same ∙ h) in absurd (cc no))

          pub either : (u : Bool) → used d ≡ u → (k : TacStmt-F TacStmt) →
              code_step arith here D (map-TacStmt _ _ (stmt_does arith here D) k) b s ≡ puts b →
              R (puts a) (done (keep_if u k) b s)
          either true h k is = follows_along table constants source used holds_word (rolled D k b s ∙ is) both
          either false h k is = unread h
