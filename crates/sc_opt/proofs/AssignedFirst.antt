-- The code that the pass gives assigns each temporary before it reads it: what is live in it is the source of something
-- that is live in the code, also where control doesn't come.
use Rattle.std.proofs.Common.{Bool, List, None, Option, Some, [], ap, eq-eqb, eqb-true, false, if◌then◌else◌, inl, inr}
use Rattle.std.proofs.Common.{map, not, refl}
use Rattle.std.proofs.Common.{subst, sym, true, ℕ, ◌&&◌, ◌==◌, ◌||◌, ◌∙◌, ◌∷◌, ◌≡◌, ◌⊎◌}
use Rattle.std.proofs.lemmas.Bool.{and_from, or_cases, or_left, or_right}
use Rattle.std.specs.Option.{option_map}
use Rattle.sc_base.proofs.Bools.{and_first, and_rest}
use Rattle.sc_core.proofs.Induction.{Each, everywhere as everywhere_in}
use Rattle.sc_tac.proofs.Induction.{Inside, stmt_induction}
use Rattle.sc_tac.specs.Flow.{is_assigned_first}
use Rattle.sc_tac.specs.Prelude.{Ahead, Reading, is_one, nothing_ahead, one_or_none, part_ahead, reading, reading_step}
use Rattle.sc_tac.specs.Prelude.{row_first, row_fresh}
use Rattle.sc_tac.specs.declared.stmt.Constant.{Constant}
use Rattle.sc_tac.specs.declared.stmt.TacOp.{TacOp}
use Rattle.sc_tac.specs.declared.stmt.TacStmt.{TacStmt, TacStmt-F, fold-roll-TacStmt, map-TacStmt}
use Rattle.sc_tac.specs.declared.stmt.TacStmt.{roll-TacStmt}
use Rattle.sc_tac.specs.declared.stmt.TacStmt.TheOpen as tac
use Rattle.sc_opt.specs.Pass.{all_joined, folded, assigned, assigned_step, keep_if}
use Rattle.sc_opt.specs.Pass.{operator_code, pass, pass_step, present}
use Rattle.sc_opt.proofs.Joined.{AtMost, below_first, below_rest, decide, not_same, other_way}
use Rattle.sc_opt.proofs.Agreement.{AreSources, Moved}
use Rattle.sc_opt.specs.declared.facts.Assigned.{Assigned}
use Rattle.sc_opt.specs.declared.facts.Assigned.TheVariants.{ByConstant, ByCopy, ByOperator, Nowhere, Otherwise}
use Rattle.sc_opt.specs.declared.facts.Assigned.TheVariants.{Several}

module _ (table : ℕ → Assigned) (constants : ℕ → Option Constant) (source : ℕ → ℕ) (used holds_word : ℕ → Bool)
    (are_sources : AreSources table source used holds_word) (x : ℕ)
    (is_used : used x ≡ true) where
  source_plain : (d : ℕ) (y : Assigned) → AtMost y (table d) → (y ≡ Nowhere → ⊥) → ((u : ℕ) → y ≡ ByCopy u → ⊥) →
      source d ≡ d
  source_plain d y below some other = by (are_sources d) below where
    by : ((source d ≡ d) ⊎ Moved table source used holds_word d) → AtMost y (table d) → source d ≡ d
    by (inl same) below = same
    by (inr m) (inl h) = absurd (some h)
    by (inr m) (inr (inl h)) = absurd (other m.from (h ∙ m.copies))
    by (inr m) (inr (inr h)) = let no : ByCopy m.from ≡ Several = sym m.copies ∙ h in absurd (cc no)

  -- something that is read at this source is so
  record Some_at (test : ℕ → Bool) : Type 0 where
    t : ℕ
    same : source t ≡ x
    holds : test t ≡ true

  some_with : (test other : ℕ → Bool) → ((t : ℕ) → test t ≡ true → other t ≡ true) → Some_at test → Some_at other
  some_with test other h k = record { t = k.t; same = k.same; holds = h k.t k.holds }

  record Over (aheads : ℕ → Ahead) (ahead : Ahead) : Type 0 where
    following : ahead.following ≡ true → Some_at (λ t. (aheads t).following)
    broken : ahead.broken ≡ true → Some_at (λ t. (aheads t).broken)
    continued : ahead.continued ≡ true → Some_at (λ t. (aheads t).continued)

  abbrev read_of : Option TacStmt → Ahead → Bool
  read_of None ahead = ahead.following
  read_of (Some stmt) ahead = (reading x stmt).first ahead

  abbrev fresh_of : Option TacStmt → Ahead → Bool
  fresh_of None ahead = true
  fresh_of (Some stmt) ahead = (reading x stmt).fresh ahead

  abbrev passes : TacStmt → Option TacStmt
  passes = pass constants source used holds_word

  abbrev Known : TacStmt → Type 0
  Known stmt = (t : ℕ) → AtMost (assigned t stmt) (table t)

  record Lifts (assigned_at : ℕ → Assigned) (first : ℕ → Ahead → Bool) (fresh : ℕ → Ahead → Bool) (o : Option TacStmt) :
      Type 0 where
    live : (aheads : ℕ → Ahead) (ahead : Ahead) → Over aheads ahead → read_of o ahead ≡ true →
        Some_at (λ t. first t (aheads t))
    begins : (aheads : ℕ → Ahead) (ahead : Ahead) → Over aheads ahead → ((t : ℕ) → fresh t (aheads t) ≡ true) →
        fresh_of o ahead ≡ true

  abbrev Lifted : TacStmt → Type 0
  Lifted stmt = Known stmt →
      Lifts (λ t. assigned t stmt) (λ t. (reading t stmt).first) (λ t. (reading t stmt).fresh) (passes stmt)

  -- ROWS
  abbrev row_read : List TacStmt → Ahead → Bool
  row_read stmts ahead = row_first (map (reading x) (present (map passes stmts))) ahead

  abbrev row_begins : List TacStmt → Ahead → Bool
  row_begins stmts ahead = row_fresh (map (reading x) (present (map passes stmts))) ahead

  more_read : (o : Option TacStmt) (rest : List (Option TacStmt)) (ahead : Ahead) →
      row_first (map (reading x) (present (o ∷ rest))) ahead
      ≡ read_of o (record ahead { following = row_first (map (reading x) (present rest)) ahead })
  more_read None rest ahead = refl
  more_read (Some stmt) rest ahead = refl

  more_fresh : (o : Option TacStmt) (rest : List (Option TacStmt)) (ahead : Ahead) →
      row_fresh (map (reading x) (present (o ∷ rest))) ahead
      ≡ (fresh_of o (record ahead { following = row_first (map (reading x) (present rest)) ahead })
      && row_fresh (map (reading x) (present rest)) ahead)
  more_fresh None rest ahead = refl
  more_fresh (Some stmt) rest ahead = refl

  record RowLifts (stmts : List TacStmt) : Type 0 where
    live : (aheads : ℕ → Ahead) (ahead : Ahead) → Over aheads ahead → row_read stmts ahead ≡ true →
        Some_at (λ t. row_first (map (reading t) stmts) (aheads t))
    begins : (aheads : ℕ → Ahead) (ahead : Ahead) → Over aheads ahead →
        ((t : ℕ) → row_fresh (map (reading t) stmts) (aheads t) ≡ true) → row_begins stmts ahead ≡ true

  behind_row : (rest : List TacStmt) → RowLifts rest → (aheads : ℕ → Ahead) (ahead : Ahead) → Over aheads ahead →
      Over (λ t. record (aheads t) { following = row_first (map (reading t) rest) (aheads t) })
      (record ahead { following = row_read rest ahead })
  behind_row rest lifts aheads ahead over = record {
    following = lifts.live aheads ahead over;
    broken = over.broken;
    continued = over.continued;
  }

  row_lifts : (stmts : List TacStmt) → Each Lifted stmts → ((t : ℕ) → AtMost (all_joined (map (assigned t) stmts))
      (table t)) →
      RowLifts stmts
  row_lifts [] each below = record {
    live = λ aheads ahead over h. over.following h;
    begins = λ aheads ahead over h. refl;
  }
  row_lifts (s ∷ rest) each below =
      let one = each.0 (λ t. below_first (assigned t s) (all_joined (map (assigned t) rest)) (table t) (below t)) in
      let more = row_lifts rest each.1 (λ t. below_rest (assigned t s) (all_joined (map (assigned t) rest)) (table t)
      (below t)) in
      record {
        live = λ aheads ahead over h. one.live (λ t. record (aheads t) {
          following = row_first (map (reading t) rest) (aheads t);
        }) (record ahead { following = row_read rest ahead })
            (behind_row rest more aheads ahead over) (sym (more_read (passes s) (map passes rest) ahead) ∙ h);
        begins = λ aheads ahead over h. more_fresh (passes s) (map passes rest) ahead
            ∙ and_from (fresh_of (passes s) (record ahead { following = row_read rest ahead })) _
            (one.begins (λ t. record (aheads t) { following = row_first (map (reading t) rest) (aheads t) })
            (record ahead { following = row_read rest ahead }) (behind_row rest more aheads ahead over)
            (λ t. and_first ((reading t s).fresh (record (aheads t) {
              following = row_first (map (reading t) rest) (aheads t);
            })) _ (h t)))
            (more.begins aheads ahead over (λ t. and_rest ((reading t s).fresh (record (aheads t) {
              following = row_first (map (reading t) rest) (aheads t);
            })) _ (h t)));
      }

  -- ONE STATEMENT
  found_in : (ts : List ℕ) → is_one x (map source ts) ≡ true → Some_at (λ t. is_one t ts)
  found_in [] h = absurd (cc h)
  found_in (t ∷ ts) h = by (or_cases (source t == x) (is_one x (map source ts)) h) (found_in ts) where
    by : ((source t == x) ≡ true) ⊎ (is_one x (map source ts) ≡ true) →
        (is_one x (map source ts) ≡ true → Some_at (λ u. is_one u ts)) → Some_at (λ u. is_one u (t ∷ ts))
    by (inl is) rest = record {
      t = t;
      same = eqb-true (source t) x is;
      holds = or_left (t == t) _ (eq-eqb t t refl);
    }
    by (inr more) rest =
        some_with (λ u. is_one u ts) (λ u. is_one u (t ∷ ts)) (λ u k. or_right (t == u) _ k) (rest more)

  abbrev plain_at : List ℕ → Option ℕ → ℕ → Ahead → Bool
  plain_at reads dest t ahead = is_one t reads || (not (is_one t (one_or_none dest)) && ahead.following)

  -- the statement stays: it reads at the sources, and assigns what it assigned
  stays_live : (reads : List ℕ) (dest : Option ℕ) → ((d : ℕ) → dest ≡ Some d → source d ≡ d) →
      (aheads : ℕ → Ahead) (ahead : Ahead) → Over aheads ahead → plain_at (map source reads) dest x ahead ≡ true →
      Some_at (λ t. plain_at reads dest t (aheads t))
  stays_live reads dest home aheads ahead over h = by (or_cases (is_one x (map source reads)) _ h) where
    kept : (dest : Option ℕ) → ((d : ℕ) → dest ≡ Some d → source d ≡ d) → (k : Some_at (λ t. (aheads t).following)) →
        not (is_one x (one_or_none dest)) ≡ true → plain_at reads dest k.t (aheads k.t) ≡ true
    kept None home k n = or_right (is_one k.t reads) _ k.holds
    kept (Some d) home k n = or_right (is_one k.t reads) _ (and_from (not ((d == k.t) || false)) _
        (decide {B = not ((d == k.t) || false) ≡ true} k.t d (λ is. clash is)
        (λ m. ap (λ b. not (b || false)) (other_way k.t d m))) k.holds) where
          clash : {B : Type 0} → k.t ≡ d → B
          clash is = let at : x ≡ d = sym k.same ∙ (ap source is ∙ home d refl) in
              let no : not true ≡ true = sym (ap (λ b. not (b || false)) (eq-eqb d x (sym at))) ∙ n in absurd (cc no)

    by : (is_one x (map source reads) ≡ true) ⊎ ((not (is_one x (one_or_none dest)) && ahead.following) ≡ true) →
        Some_at (λ t. plain_at reads dest t (aheads t))
    by (inl read) = some_with (λ t. is_one t reads) (λ t. plain_at reads dest t (aheads t)) (λ t k. or_left (is_one t
        reads) _ k) (found_in reads read)
    by (inr on) = let k = over.following (and_rest (not (is_one x (one_or_none dest))) _ on) in
        record {
          t = k.t;
          same = k.same;
          holds = kept dest home k (and_first (not (is_one x (one_or_none dest))) _ on);
        }

  -- it went, and nobody reads what it assigned
  goes_live : (reads : List ℕ) (d : ℕ) → source d ≡ d → used d ≡ false → (aheads : ℕ → Ahead) (ahead : Ahead) →
      Over aheads ahead → ahead.following ≡ true → Some_at (λ t. plain_at reads (Some d) t (aheads t))
  goes_live reads d home unread aheads ahead over h = let k = over.following h in
      record {
        t = k.t;
        same = k.same;
        holds = or_right (is_one k.t reads) _ (and_from (not ((d == k.t) || false)) _
            (decide {B = not ((d == k.t) || false) ≡ true} k.t d (λ is. clash k is)
            (λ m. ap (λ b. not (b || false)) (other_way k.t d m))) k.holds);
      } where
        clash : {B : Type 0} → (k : Some_at (λ t. (aheads t).following)) → k.t ≡ d → B
        clash k is = let at : x ≡ d = sym k.same ∙ (ap source is ∙ home) in
            let no : true ≡ false = sym is_used ∙ (ap used at ∙ unread) in absurd (cc no)

  -- a copy went that stands for its source
  copy_live : (d from : ℕ) → source d ≡ source from → (aheads : ℕ → Ahead) (ahead : Ahead) → Over aheads ahead →
      ahead.following ≡ true → Some_at (λ t. plain_at (from ∷ []) (Some d) t (aheads t))
  copy_live d from same aheads ahead over h = let k = over.following h in
      decide k.t d
      (λ is. record {
        t = from;
        same = sym same ∙ (sym (ap source is) ∙ k.same);
        holds = or_left (is_one from (from ∷ [])) _ (or_left (from == from) _ (eq-eqb from from refl));
      })
      (λ m. record {
        t = k.t;
        same = k.same;
        holds = or_right (is_one k.t (from ∷ [])) _ (and_from (not ((d == k.t) || false)) _
            (ap (λ b. not (b || false)) (other_way k.t d m)) k.holds);
      })

  rolled_first : (k : TacStmt-F TacStmt) (ahead : Ahead) →
      (reading x (roll-TacStmt k)).first ahead ≡ (reading_step x (map-TacStmt _ _ (reading x) k)).first ahead
  rolled_first k ahead = ap (λ r. r.first ahead) (fold-roll-TacStmt Reading (reading_step x) k)

  rolled_fresh : (k : TacStmt-F TacStmt) (ahead : Ahead) →
      (reading x (roll-TacStmt k)).fresh ahead ≡ (reading_step x (map-TacStmt _ _ (reading x) k)).fresh ahead
  rolled_fresh k ahead = ap (λ r. r.fresh ahead) (fold-roll-TacStmt Reading (reading_step x) k)

  kept_lifts : (known : ℕ → Assigned) (reads : List ℕ) (d : ℕ) (k : TacStmt-F TacStmt) (now : List ℕ) → source d ≡ d →
      ((y : ℕ) → is_one y now ≡ true → is_one y (map source reads) ≡ true) →
      ((ahead : Ahead) → (reading x (roll-TacStmt k)).first ahead ≡ plain_at now (Some d) x ahead) →
      ((ahead : Ahead) → (reading x (roll-TacStmt k)).fresh ahead ≡ true) →
      (u : Bool) → (u ≡ false → used d ≡ false) →
      Lifts known (plain_at reads (Some d)) (λ t ahead. true) (keep_if u k)
  kept_lifts known reads d k now home fewer is fresh true unread = record {
    live = λ aheads ahead over h. stays_live reads (Some d) (λ e same. let one : d ≡ e = cc same in
        subst (λ e. source e ≡ e) one home) aheads ahead over (wider (is_one x now) (is_one x (map source reads))
        (not (is_one x (d ∷ [])) && ahead.following) (fewer x) (sym (is ahead) ∙ h));
    begins = λ aheads ahead over h. fresh ahead;
  } where
    wider : (a b c : Bool) → (a ≡ true → b ≡ true) → (a || c) ≡ true → (b || c) ≡ true
    wider true b c f h = or_left b c (f refl)
    wider false b c f h = or_right b c h
  kept_lifts known reads d k now home fewer is fresh false unread = record {
    live = λ aheads ahead over h. goes_live reads d home (unread refl) aheads ahead over h;
    begins = λ aheads ahead over h. refl;
  }

  some_otherwise : Otherwise ≡ Nowhere → ⊥
  some_otherwise h = absurd (cc h)

  no_copy : (u : ℕ) → Otherwise ≡ ByCopy u → ⊥
  no_copy u h = absurd (cc h)

  abbrev assigned_at : TacStmt-F TacStmt → ℕ → Assigned
  assigned_at k t = assigned_step t (map-TacStmt _ _ (assigned t) k)

  abbrev reading_at : TacStmt-F TacStmt → ℕ → Reading
  reading_at k t = reading_step t (map-TacStmt _ _ (reading t) k)

  abbrev LiftedAt : TacStmt-F TacStmt → Type 0
  LiftedAt k = ((t : ℕ) → AtMost (assigned_at k t) (table t)) →
      Lifts (assigned_at k) (λ t. (reading_at k t).first) (λ t. (reading_at k t).fresh)
      (pass_step constants source used holds_word (map-TacStmt _ _ passes k))

  otherwise_home : (d : ℕ) → AtMost (if d == d || false then Otherwise else Nowhere) (table d) → source d ≡ d
  otherwise_home d below = source_plain d Otherwise
      (subst (λ y. AtMost y (table d)) (ap (λ b. if b || false then Otherwise else Nowhere)
      (eq-eqb d d refl)) below) some_otherwise no_copy

  -- a statement that stays, with its reads at the sources
  plain_stays : (known : ℕ → Assigned) (reads : List ℕ) (dest : Option ℕ) (k : TacStmt-F TacStmt) →
      ((d : ℕ) → dest ≡ Some d → source d ≡ d) →
      ((ahead : Ahead) → (reading x (roll-TacStmt k)).first ahead ≡ plain_at (map source reads) dest x ahead) →
      ((ahead : Ahead) → (reading x (roll-TacStmt k)).fresh ahead ≡ true) →
      Lifts known (plain_at reads dest) (λ t ahead. true) (Some (roll-TacStmt k))
  plain_stays known reads dest k home is fresh = record {
    live = λ aheads ahead over h. stays_live reads dest home aheads ahead over (sym (is ahead) ∙ h);
    begins = λ aheads ahead over h. fresh ahead;
  }

  dest_home : (dest : Option ℕ) (known : ℕ → Assigned) → ((t : ℕ) → AtMost (known t) (table t)) →
      ((t : ℕ) → known t ≡ (if is_one t (one_or_none dest) then Otherwise else Nowhere)) → (d : ℕ) → dest ≡ Some d →
      source d ≡ d
  dest_home dest known below is d same = otherwise_home d (subst (λ y. AtMost y (table d))
      (is d ∙ ap (λ o. if is_one d (one_or_none o) then Otherwise else Nowhere) same) (below d))

  part_over : (stmts : ℕ → Bool) (now : Bool) (aheads : ℕ → Ahead) (ahead : Ahead) → Over aheads ahead →
      (now ≡ true → Some_at stmts) → Over (λ t. part_ahead (aheads t) (stmts t)) (part_ahead ahead now)
  part_over stmts now aheads ahead over h = record { following = h; broken = over.following; continued = h }

  -- CONTROL
  if_lifts : (cond : ℕ) (a b : List TacStmt) → RowLifts a → RowLifts b →
      Lifts (assigned_at (tac.If cond a b)) (λ t. (reading_at (tac.If cond a b) t).first)
      (λ t. (reading_at (tac.If cond a b) t).fresh)
      (Some (roll-TacStmt (tac.If (source cond) (present (map passes a)) (present (map passes b)))))
  if_lifts cond a b la lb = record {
    live = λ aheads ahead over h. by aheads ahead over
        (or_cases (source cond == x) _ (sym (rolled_first (tac.If (source cond) (present (map passes a)) (present
        (map passes b))) ahead) ∙ h));
    begins = λ aheads ahead over h. rolled_fresh (tac.If (source cond) (present (map passes a)) (present
        (map passes b))) ahead
        ∙ and_from (row_begins a ahead) _
        (la.begins aheads ahead over (λ t. and_first (row_fresh (map (reading t) a) (aheads t)) _ (h t)))
        (lb.begins aheads ahead over (λ t. and_rest (row_fresh (map (reading t) a) (aheads t)) _ (h t)));
  } where
    by : (aheads : ℕ → Ahead) (ahead : Ahead) → Over aheads ahead →
        ((source cond == x) ≡ true) ⊎ ((row_read a ahead || row_read b ahead) ≡ true) →
        Some_at (λ t. cond == t || (row_first (map (reading t) a) (aheads t)
        || row_first (map (reading t) b) (aheads t)))
    by aheads ahead over (inl is) = record {
      t = cond;
      same = eqb-true (source cond) x is;
      holds = or_left (cond == cond) _ (eq-eqb cond cond refl);
    }
    by aheads ahead over (inr h) = sides (or_cases (row_read a ahead) (row_read b ahead) h) where
      sides : (row_read a ahead ≡ true) ⊎ (row_read b ahead ≡ true) →
          Some_at (λ t. cond == t || (row_first (map (reading t) a) (aheads t)
          || row_first (map (reading t) b) (aheads t)))
      sides (inl h) = some_with (λ t. row_first (map (reading t) a) (aheads t)) _
          (λ t k. or_right (cond == t) _ (or_left (row_first (map (reading t) a) (aheads t)) _ k))
          (la.live aheads ahead over h)
      sides (inr h) = some_with (λ t. row_first (map (reading t) b) (aheads t)) _
          (λ t k. or_right (cond == t) _ (or_right (row_first (map (reading t) a) (aheads t)) _ k))
          (lb.live aheads ahead over h)

  -- LOOPS
  over_end : (aheads : ℕ → Ahead) (ahead : Ahead) → Over aheads ahead →
      Over (λ t. part_ahead (aheads t) false) (part_ahead ahead false)
  over_end aheads ahead over = part_over (λ t. false) false aheads ahead over (λ h. absurd (cc h))

  abbrev part_begins : List TacStmt → ℕ → Ahead → Bool
  part_begins stmts t ahead = not (row_first (map (reading t) stmts) (part_ahead ahead false))
      && row_fresh (map (reading t) stmts) (part_ahead ahead false)

  part_lifts : (stmts : List TacStmt) → RowLifts stmts → (aheads : ℕ → Ahead) (ahead : Ahead) → Over aheads ahead →
      ((t : ℕ) → part_begins stmts t (aheads t) ≡ true) →
      (not (row_read stmts (part_ahead ahead false)) && row_begins stmts (part_ahead ahead false)) ≡ true
  part_lifts stmts lifts aheads ahead over h = and_from (not (row_read stmts (part_ahead ahead false))) _
      (by (row_read stmts (part_ahead ahead false)) refl)
      (lifts.begins (λ t. part_ahead (aheads t) false) (part_ahead ahead false) (over_end aheads ahead over)
      (λ t. and_rest (not (row_first (map (reading t) stmts) (part_ahead (aheads t) false))) _ (h t))) where
        clash : {B : Type 0} → Some_at (λ t. row_first (map (reading t) stmts) (part_ahead (aheads t) false)) → B
        clash k = let no : not true ≡ true = sym (ap not k.holds)
            ∙ and_first (not (row_first (map (reading k.t) stmts) (part_ahead (aheads k.t) false))) _ (h k.t) in absurd
            (cc no)

        by : (b : Bool) → row_read stmts (part_ahead ahead false) ≡ b → not b ≡ true
        by true is = clash (lifts.live (λ t. part_ahead (aheads t) false) (part_ahead ahead false)
            (over_end aheads ahead over) is)
        by false is = refl

  loop_lifts : (a b c : List TacStmt) → RowLifts a → RowLifts b → RowLifts c →
      Lifts (assigned_at (tac.Loop a b c)) (λ t. (reading_at (tac.Loop a b c) t).first)
      (λ t. (reading_at (tac.Loop a b c) t).fresh)
      (Some (roll-TacStmt (tac.Loop (present (map passes a)) (present (map passes b)) (present (map passes c)))))
  loop_lifts a b c la lb lc = record {
    live = λ aheads ahead over h.
        let over_next = over_end aheads ahead over in
        let over_body = part_over (λ t. row_first (map (reading t) c) (part_ahead (aheads t) false))
        (row_read c (part_ahead ahead false)) aheads ahead over
        (lc.live (λ t. part_ahead (aheads t) false) (part_ahead ahead false) over_next) in
        let over_head = part_over
        (λ t. row_first (map (reading t) b) (part_ahead (aheads t) (row_first (map (reading t) c)
        (part_ahead (aheads t) false)))) (row_read b (part_ahead ahead (row_read c (part_ahead ahead false)))) aheads
        ahead over (lb.live (λ t. part_ahead (aheads t) (row_first (map (reading t) c) (part_ahead (aheads t) false)))
        (part_ahead ahead (row_read c (part_ahead ahead false))) over_body) in
        la.live (λ t. part_ahead (aheads t) (row_first (map (reading t) b) (part_ahead (aheads t)
        (row_first (map (reading t) c) (part_ahead (aheads t) false)))))
        (part_ahead ahead (row_read b (part_ahead ahead (row_read c (part_ahead ahead false))))) over_head
        (sym (rolled_first (tac.Loop (present (map passes a)) (present (map passes b)) (present (map passes c))) ahead)
        ∙ h);
    begins = λ aheads ahead over h.
        rolled_fresh (tac.Loop (present (map passes a)) (present (map passes b)) (present (map passes c))) ahead
        ∙ and_from (not (row_read a (part_ahead ahead false)) && row_begins a (part_ahead ahead false)) _
        (part_lifts a la aheads ahead over (λ t. and_first (part_begins a t (aheads t)) _ (h t)))
        (and_from (not (row_read b (part_ahead ahead false)) && row_begins b (part_ahead ahead false)) _
        (part_lifts b lb aheads ahead over (λ t. and_first (part_begins b t (aheads t)) _
        (and_rest (part_begins a t (aheads t)) _ (h t))))
        (part_lifts c lc aheads ahead over (λ t. and_rest (part_begins b t (aheads t)) _
        (and_rest (part_begins a t (aheads t)) _ (h t)))));
  }

  -- EACH KIND
  copy_lifts : (d from : ℕ) → LiftedAt (tac.Copy d from)
  copy_lifts d from below = by (source d == source from) refl where
    low : AtMost (ByCopy from) (table d)
    low = subst (λ y. AtMost y (table d)) (ap (λ b. if b then ByCopy from else Nowhere) (eq-eqb d d refl)) (below d)

    home : (source d == source from) ≡ false → source d ≡ d
    home n = at (are_sources d) low where
      at : ((source d ≡ d) ⊎ Moved table source used holds_word d) → AtMost (ByCopy from) (table d) → source d ≡ d
      at (inl same) l = same
      at (inr m) (inl h) = absurd (cc h)
      at (inr m) (inr (inl h)) =
          let two : ByCopy from ≡ ByCopy m.from = h ∙ m.copies in
          let one : from ≡ m.from = cc two in
          not_same (source d) (source from) n (m.same ∙ ap source (sym one))
      at (inr m) (inr (inr h)) = let no : ByCopy m.from ≡ Several = sym m.copies ∙ h in absurd (cc no)

    by : (r : Bool) → (source d == source from) ≡ r → Lifts (assigned_at (tac.Copy d from)) (plain_at (from ∷ [])
        (Some d))
        (λ t ahead. true) (keep_if (not r && used d) (tac.Copy d (source from)))
    by true is = record {
      live = λ aheads ahead over h. copy_live d from (eqb-true (source d) (source from) is) aheads ahead over h;
      begins = λ aheads ahead over h. refl;
    }
    by false is = kept_lifts (assigned_at (tac.Copy d from)) (from ∷ []) d (tac.Copy d (source from)) (source from ∷ [])
        (home is) (λ y h. h) (rolled_first (tac.Copy d (source from))) (rolled_fresh (tac.Copy d (source from)))
        (used d)
        (λ e. e)

  op_lifts : (d : ℕ) (o : TacOp) (left : ℕ) (right : Option ℕ) → LiftedAt (tac.Op d o left right)
  op_lifts d o left right below = by (folded constants o left right) where
    home : source d ≡ d
    home = source_plain d (ByOperator o left right) (subst (λ y. AtMost y (table d))
        (ap (λ b. if b then ByOperator o left right else Nowhere) (eq-eqb d d refl)) (below d)) (λ h. absurd (cc h))
        (λ u h. absurd (cc h))

    neither : (u t : Bool) → (u || t) ≡ false → u ≡ false
    neither true t h = h
    neither false t h = refl

    same_reads : (right : Option ℕ) (y : ℕ) → is_one y (source left ∷ one_or_none (option_map source right)) ≡ true →
        is_one y (map source (left ∷ one_or_none right)) ≡ true
    same_reads None y h = h
    same_reads (Some t) y h = h

    by : (f : Option Constant) → Lifts (assigned_at (tac.Op d o left right))
        (plain_at (left ∷ one_or_none right) (Some d)) (λ t ahead. true)
        (operator_code source used holds_word d o left right f)
    by (Some c) = kept_lifts (assigned_at (tac.Op d o left right)) (left ∷ one_or_none right) d (tac.Const d c) [] home
        (λ y h. absurd (cc h)) (rolled_first (tac.Const d c)) (rolled_fresh (tac.Const d c)) (used d) (λ e. e)
    by None = kept_lifts (assigned_at (tac.Op d o left right)) (left ∷ one_or_none right) d
        (tac.Op d o (source left) (option_map source right)) (source left ∷ one_or_none (option_map source right)) home
        (same_reads right) (rolled_first (tac.Op d o (source left) (option_map source right)))
        (rolled_fresh (tac.Op d o (source left) (option_map source right))) _ (neither (used d) _)

  return_lifts : (value : Option ℕ) → LiftedAt (tac.Return value)
  return_lifts None below = record {
    live = λ aheads ahead over h. absurd (nothing (sym (rolled_first (tac.Return None) ahead) ∙ h));
    begins = λ aheads ahead over h. rolled_fresh (tac.Return None) ahead;
  } where
    nothing : false ≡ true → ⊥
    nothing h = absurd (cc h)
  return_lifts (Some t) below = record {
    live = λ aheads ahead over h. found_in (t ∷ []) (sym (rolled_first (tac.Return (Some (source t))) ahead) ∙ h);
    begins = λ aheads ahead over h. rolled_fresh (tac.Return (Some (source t))) ahead;
  }

  layer_lifts : (k : TacStmt-F TacStmt) → Inside Lifted k → LiftedAt k
  layer_lifts (tac.Const d value) i below = kept_lifts (assigned_at (tac.Const d value)) [] d (tac.Const d value) []
      (source_plain d (ByConstant value) (subst (λ y. AtMost y (table d))
      (ap (λ b. if b then ByConstant value else Nowhere) (eq-eqb d d refl)) (below d)) (λ h. absurd (cc h))
      (λ u h. absurd (cc h))) (λ y h. h) (rolled_first (tac.Const d value)) (rolled_fresh (tac.Const d value)) (used d)
      (λ e. e)
  layer_lifts (tac.Copy d from) i below = copy_lifts d from below
  layer_lifts (tac.Op d o left right) i below = op_lifts d o left right below
  layer_lifts (tac.ObjectPlace d object) i below = kept_lifts (assigned_at (tac.ObjectPlace d object)) [] d
      (tac.ObjectPlace d object) [] (otherwise_home d (below d)) (λ y h. h) (rolled_first (tac.ObjectPlace d object))
      (rolled_fresh (tac.ObjectPlace d object)) (used d) (λ e. e)
  layer_lifts (tac.GlobalPlace d global) i below = kept_lifts (assigned_at (tac.GlobalPlace d global)) [] d
      (tac.GlobalPlace d global) [] (otherwise_home d (below d)) (λ y h. h) (rolled_first (tac.GlobalPlace d global))
      (rolled_fresh (tac.GlobalPlace d global)) (used d) (λ e. e)
  layer_lifts (tac.Load d place pointer) i below = plain_stays (assigned_at (tac.Load d place pointer)) (place ∷ [])
      (Some d)
      (tac.Load d (source place) pointer) (λ e same. dest_home (Some d) (assigned_at (tac.Load d place pointer)) below
      (λ t. refl) e same) (rolled_first (tac.Load d (source place) pointer))
      (rolled_fresh (tac.Load d (source place) pointer))
  layer_lifts (tac.Store place value) i below = plain_stays (assigned_at (tac.Store place value))
      (place ∷ value ∷ []) None
      (tac.Store (source place) (source value)) (λ e same. absurd (cc same)) (rolled_first (tac.Store (source place)
      (source
      value))) (rolled_fresh (tac.Store (source place) (source value)))
  layer_lifts (tac.If cond a b) i below = if_lifts cond a b
      (row_lifts a i.0 (λ t. below_first (all_joined (map (assigned t) a)) (all_joined (map (assigned t) b))
      (table t) (below t)))
      (row_lifts b i.1 (λ t. below_rest (all_joined (map (assigned t) a)) (all_joined (map (assigned t) b)) (table t)
      (below t)))
  layer_lifts (tac.Loop a b c) i below = loop_lifts a b c
      (row_lifts a i.0 (λ t. below_first (all_joined (map (assigned t) a)) _ (table t) (below t)))
      (row_lifts b i.1 (λ t. below_first (all_joined (map (assigned t) b)) (all_joined (map (assigned t) c)) (table t)
      (below_rest (all_joined (map (assigned t) a)) _ (table t) (below t))))
      (row_lifts c i.2 (λ t. below_rest (all_joined (map (assigned t) b)) (all_joined (map (assigned t) c)) (table t)
      (below_rest (all_joined (map (assigned t) a)) _ (table t) (below t))))
  layer_lifts tac.Break i below = record {
    live = λ aheads ahead over h. over.broken (sym (rolled_first tac.Break ahead) ∙ h);
    begins = λ aheads ahead over h. rolled_fresh tac.Break ahead;
  }
  layer_lifts tac.Continue i below = record {
    live = λ aheads ahead over h. over.continued (sym (rolled_first tac.Continue ahead) ∙ h);
    begins = λ aheads ahead over h. rolled_fresh tac.Continue ahead;
  }
  layer_lifts (tac.CallOwn dest function args) i below = plain_stays (assigned_at (tac.CallOwn dest function args)) args
      dest (tac.CallOwn dest function (map source args)) (dest_home dest (assigned_at
      (tac.CallOwn dest function args)) below
      (λ t. refl)) (rolled_first (tac.CallOwn dest function (map source args)))
      (rolled_fresh (tac.CallOwn dest function (map source args)))
  layer_lifts (tac.CallCross dest comp index args) i below = plain_stays (assigned_at
      (tac.CallCross dest comp index args))
      args dest (tac.CallCross dest comp index (map source args))
      (dest_home dest (assigned_at (tac.CallCross dest comp index args)) below (λ t. refl))
      (rolled_first (tac.CallCross dest comp index (map source args)))
      (rolled_fresh (tac.CallCross dest comp index (map source args)))
  layer_lifts (tac.Input dest) i below = plain_stays (assigned_at (tac.Input dest)) [] dest (tac.Input dest)
      (dest_home dest (assigned_at (tac.Input dest)) below (λ t. refl)) (rolled_first (tac.Input dest))
      (rolled_fresh (tac.Input dest))
  layer_lifts (tac.Output value) i below = plain_stays (assigned_at (tac.Output value)) (value ∷ []) None
      (tac.Output (source value)) (λ e same. absurd (cc same)) (rolled_first (tac.Output (source value)))
      (rolled_fresh (tac.Output (source value)))
  layer_lifts (tac.Alloc d count words) i below = plain_stays (assigned_at (tac.Alloc d count words)) (count ∷ [])
      (Some d)
      (tac.Alloc d (source count) words) (λ e same. dest_home (Some d) (assigned_at (tac.Alloc d count words)) below
      (λ t. refl) e same) (rolled_first (tac.Alloc d (source count) words))
      (rolled_fresh (tac.Alloc d (source count) words))
  layer_lifts (tac.Free pointer) i below = plain_stays (assigned_at (tac.Free pointer)) (pointer ∷ []) None
      (tac.Free (source pointer)) (λ e same. absurd (cc same)) (rolled_first (tac.Free (source pointer)))
      (rolled_fresh (tac.Free (source pointer)))
  layer_lifts (tac.Return value) i below = return_lifts value below

  stmt_lifted : (stmt : TacStmt) → Lifted stmt
  stmt_lifted = stmt_induction Lifted (λ k i below.
      let lifts = layer_lifts k i (λ t. subst (λ y. AtMost y (table t)) (fold-roll-TacStmt Assigned
      (assigned_step t) k) (below t)) in
      let pass_is : passes (roll-TacStmt k) ≡ pass_step constants source used holds_word (map-TacStmt _ _ passes k) =
      fold-roll-TacStmt (Option TacStmt) (pass_step constants source used holds_word) k in
      record {
        live = λ aheads ahead over h. some_with (λ t. (reading_at k t).first (aheads t))
            (λ t. (reading t (roll-TacStmt k)).first (aheads t))
            (λ t e. ap (λ r. r.first (aheads t)) (fold-roll-TacStmt Reading (reading_step t) k) ∙ e)
            (lifts.live aheads ahead over (sym (ap (λ o. read_of o ahead) pass_is) ∙ h));
        begins = λ aheads ahead over h. ap (λ o. fresh_of o ahead) pass_is ∙ lifts.begins aheads ahead over
            (λ t. sym (ap (λ r. r.fresh (aheads t)) (fold-roll-TacStmt Reading (reading_step t) k)) ∙ h t);
      })

  -- a used temporary is assigned before it is read in the code that the pass gives
  pub stays_assigned : (body : List TacStmt) → ((t : ℕ) → AtMost (all_joined (map (assigned t) body)) (table t)) →
      ((t : ℕ) → is_assigned_first t body ≡ true) → is_assigned_first x (present (map passes body)) ≡ true
  stays_assigned body below assigned_first = and_from (not (row_read body nothing_ahead)) _
      (by (row_read body nothing_ahead) refl)
      (lifts.begins (λ t. nothing_ahead) nothing_ahead over
      (λ t. and_rest (not (row_first (map (reading t) body) nothing_ahead)) _ (assigned_first t))) where
        lifts : RowLifts body
        lifts = row_lifts body (everywhere_in Lifted stmt_lifted body) below

        none : {test : ℕ → Bool} → false ≡ true → Some_at test
        none h = absurd (cc h)

        over : Over (λ t. nothing_ahead) nothing_ahead
        over = record { following = λ h. none h; broken = λ h. none h; continued = λ h. none h }

        clash : {B : Type 0} → Some_at (λ t. row_first (map (reading t) body) nothing_ahead) → B
        clash k = let no : not true ≡ true = sym (ap not k.holds)
            ∙ and_first (not (row_first (map (reading k.t) body) nothing_ahead)) _ (assigned_first k.t) in absurd
            (cc no)

        by : (b : Bool) → row_read body nothing_ahead ≡ b → not b ≡ true
        by true is = clash (lifts.live (λ t. nothing_ahead) nothing_ahead over is)
        by false is = refl
