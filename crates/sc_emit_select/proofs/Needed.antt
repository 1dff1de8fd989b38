-- What statements need, mark by mark; and that it names only temporaries of their function.
use Rattle.sc_emit_select.proofs.Common.{Bool, Each, Inside, IsFunction, List, Marked, Need, None, Option, Other, Role}
use Rattle.sc_emit_select.proofs.Common.{Some, TacFnTree, TacStmt, TacStmt-F, [], add-one, all_true, and_first}
use Rattle.sc_emit_select.proofs.Common.{and_rest, ap, arith, drop, drop-cons, everywhere, false, fold-TacStmt}
use Rattle.sc_emit_select.proofs.Common.{fold-roll-TacStmt, get_or, has_mark, held_in, if◌then◌else◌, is_one, joins}
use Rattle.sc_emit_select.proofs.Common.{length, ltb-true, map, map-TacStmt, names_own_temps, nat_lt, ne_eqb, need}
use Rattle.sc_emit_select.proofs.Common.{need_step, needed_in, needs_of, one_or_none, parts, refl, replicate, row_needs}
use Rattle.sc_emit_select.proofs.Common.{slice_get, stmt_induction, subst, suc, sym, taken_needed, true, with_parts}
use Rattle.sc_emit_select.proofs.Common.{zero, ℕ, ◌&&◌, ◌++◌, ◌+◌, ◌<◌, ◌==◌, ◌||◌, ◌∙◌, ◌∷◌, ◌≡◌, ◌≤◌}
use Rattle.std.specs.List.{list_all}
use Rattle.std.specs.Option.{option_map, unwrap_or}
use Rattle.std.proofs.Math.Bool.{or_assoc}
use Rattle.std.proofs.lemmas.List.Folds.{list_all-append, list_any-append}
use Rattle.sc_tac.specs.declared.stmt.TacStmt.TheOpen as tac

-- STATEMENTS IN ORDER
marked_on : (xs ys : List ℕ) (a b c : List Bool) → Marked xs a b → Marked ys b c → Marked (xs ++ ys) a c
marked_on xs ys a b c h k = record {
  at = λ t. k.at t ∙ ap (option_map (λ mark. mark || is_one t ys)) (h.at t) ∙ both t (slice_get a t);
}
  where
    both : (t : ℕ) (mark : Option Bool) →
        option_map (λ b. b || is_one t ys) (option_map (λ b. b || is_one t xs) mark)
        ≡ option_map (λ b. b || is_one t (xs ++ ys)) mark
    both t None = refl
    both t (Some b) =
        ap Some (or_assoc b (is_one t xs) (is_one t ys)
        ∙ ap (λ one. b || one) (sym (list_any-append (λ other. other == t) xs ys)))

-- one of them, and what is left
pub row_marked : (list : List TacStmt) (i : ℕ) (stmt : TacStmt) (before takes gives : Role) (a b c : List Bool) →
    i < length list → stmt ≡ get_or list i stmt → takes ≡ (need stmt).takes → gives ≡ (need stmt).gives →
    Marked (taken_needed before takes) a b → Marked (need stmt).reads b c → (final : List Bool) →
    Marked (row_needs gives (map need (drop (i + 1) list))) c final →
    Marked (row_needs before (map need (drop i list))) a final
row_marked list i stmt before takes gives a b c within is takes_is gives_is h k final l =
    let rest : List ℕ = row_needs gives (map need (drop (i + 1) list)) in
    let parted : drop i list ≡ stmt ∷ drop (i + 1) list =
    drop-cons list i stmt within ∙ (λ j. sym is j ∷ drop (sym (add-one i) j) list) in
    let whole : taken_needed before takes ++ ((need stmt).reads ++ rest) ≡
    row_needs before (map need (drop i list)) =
    (λ j. taken_needed before (takes_is j) ++
    ((need stmt).reads ++ row_needs (gives_is j) (map need (drop (i + 1) list))))
    ∙ ap (λ stmts. row_needs before (map need stmts)) (sym parted) in
    subst (λ temps. Marked temps a final) whole
    (marked_on (taken_needed before takes) ((need stmt).reads ++ rest) a b final h
    (marked_on (need stmt).reads rest b c final k l))

-- NAMES BELOW A NUMBER
module _ (temps t : ℕ) (beyond : temps ≤ t) where
  not_among : (xs : List ℕ) → list_all (λ u. nat_lt u temps) xs ≡ true → is_one t xs ≡ false
  not_among [] h = refl
  not_among (x ∷ xs) h =
      let below : x < temps = ltb-true x temps (and_first (nat_lt x temps) _ h) in
      ap (λ b. b || is_one t xs) (ne_eqb x t (λ same. omega (arith, below, same, beyond)))
      ∙ not_among xs (and_rest (nat_lt x temps) _ h)

  not_read : (assigned : Option ℕ) (xs : List ℕ) →
      list_all (λ u. nat_lt u temps) (one_or_none assigned ++ xs) ≡ true → is_one t xs ≡ false
  not_read assigned xs h =
      not_among xs (and_rest (list_all (λ u. nat_lt u temps) (one_or_none assigned)) _
      (sym (list_all-append (λ u. nat_lt u temps) (one_or_none assigned) xs) ∙ h))

  -- of what a statement needs
  record Absent (n : Need) : Type 0 where
    reads : is_one t n.reads ≡ false
    takes : is_one t (one_or_none (held_in n.takes)) ≡ false

  taken_absent : (before takes : Role) → is_one t (one_or_none (held_in takes)) ≡ false →
      is_one t (taken_needed before takes) ≡ false
  taken_absent before takes h = by (joins before takes)
    where
      by : (b : Bool) → is_one t (if b then [] else one_or_none (held_in takes)) ≡ false
      by true = refl
      by false = h

  both_absent : (xs ys : List ℕ) → is_one t xs ≡ false → is_one t ys ≡ false → is_one t (xs ++ ys) ≡ false
  both_absent xs ys h k =
      list_any-append (λ other. other == t) xs ys ∙ ap (λ b. b || is_one t ys) h ∙ k

  row_absent : (before : Role) (needs : List Need) → Each Absent needs → is_one t (row_needs before needs) ≡ false
  row_absent before [] h = refl
  row_absent before (n ∷ needs) h =
      both_absent (taken_needed before n.takes) (n.reads ++ row_needs n.gives needs)
      (taken_absent before n.takes h.0.takes)
      (both_absent n.reads (row_needs n.gives needs) h.0.reads (row_absent n.gives needs h.1))

  abbrev passes : TacStmt → Bool
  passes = fold-TacStmt Bool (with_parts (names_own_temps temps))

  abbrev IsAbsent : TacStmt → Type 0
  IsAbsent stmt = passes stmt ≡ true → Absent (need stmt)

  each_absent : (stmts : List TacStmt) → Each IsAbsent stmts → all_true (map passes stmts) ≡ true →
      Each Absent (map need stmts)
  each_absent [] each h = tt
  each_absent (stmt ∷ rest) each h =
      (each.0 (and_first (passes stmt) _ h), each_absent rest each.1 (and_rest (passes stmt) _ h))

  part_absent : (stmts : List TacStmt) → Each IsAbsent stmts → all_true (map passes stmts) ≡ true →
      is_one t (needs_of stmts) ≡ false
  part_absent stmts each h = row_absent Other (map need stmts) (each_absent stmts each h)

  layer_absent : (layer : TacStmt-F TacStmt) → Inside IsAbsent layer →
      names_own_temps temps (map-TacStmt _ _ passes layer) ≡ true →
      list_all all_true (parts (map-TacStmt _ _ passes layer)) ≡ true →
      Absent (need_step (map-TacStmt _ _ need layer))
  layer_absent (tac.Const dest value) each h k = record { reads = refl; takes = refl }
  layer_absent (tac.Copy dest from) each h k = record { reads = not_read (Some dest) (from ∷ []) h; takes = refl }
  layer_absent (tac.Op dest op left None) each h k =
      record { reads = not_read (Some dest) (left ∷ []) h; takes = refl }
  layer_absent (tac.Op dest op left (Some right)) each h k =
      let rest = and_rest (nat_lt dest temps) _ h in
      record {
        reads = not_among (left ∷ []) (ap (λ b. b && true) (and_first (nat_lt left temps) _ rest));
        takes = not_among (right ∷ []) (and_rest (nat_lt left temps) _ rest);
      }
  layer_absent (tac.ObjectPlace dest object) each h k = record { reads = refl; takes = refl }
  layer_absent (tac.GlobalPlace dest global) each h k = record { reads = refl; takes = refl }
  layer_absent (tac.Load dest place pointer) each h k =
      record { reads = not_read (Some dest) (place ∷ []) h; takes = refl }
  layer_absent (tac.Store place value) each h k = record {
    reads = not_read (Some place) (value ∷ []) h;
    takes = not_among (place ∷ []) (ap (λ b. b && true) (and_first (nat_lt place temps) _ h));
  }
  layer_absent (tac.If cond first second) each h k =
      let one = and_first (all_true (map passes first)) _ k in
      let two = and_first (all_true (map passes second)) _ (and_rest (all_true (map passes first)) _ k) in
      record {
        reads = both_absent (cond ∷ []) (needs_of first ++ needs_of second) (not_read None (cond ∷ []) h)
            (both_absent (needs_of first) (needs_of second) (part_absent first each.0 one)
            (part_absent second each.1 two));
        takes = refl;
      }
  layer_absent (tac.Loop head body next) each h k =
      let one = and_first (all_true (map passes head)) _ k in
      let rest = and_rest (all_true (map passes head)) _ k in
      let two = and_first (all_true (map passes body)) _ rest in
      let three = and_first (all_true (map passes next)) _ (and_rest (all_true (map passes body)) _ rest) in
      record {
        reads = both_absent (needs_of head) (needs_of body ++ needs_of next) (part_absent head each.0 one)
            (both_absent (needs_of body) (needs_of next) (part_absent body each.1 two)
            (part_absent next each.2 three));
        takes = refl;
      }
  layer_absent tac.Break each h k = record { reads = refl; takes = refl }
  layer_absent tac.Continue each h k = record { reads = refl; takes = refl }
  layer_absent (tac.CallOwn dest function args) each h k = record { reads = not_read dest args h; takes = refl }
  layer_absent (tac.CallCross dest comp index args) each h k = record { reads = not_read dest args h; takes = refl }
  layer_absent (tac.Input dest) each h k = record { reads = refl; takes = refl }
  layer_absent (tac.Output value) each h k = record { reads = not_read None (value ∷ []) h; takes = refl }
  layer_absent (tac.Alloc dest count words) each h k =
      record { reads = not_read (Some dest) (count ∷ []) h; takes = refl }
  layer_absent (tac.Free pointer) each h k = record { reads = not_read None (pointer ∷ []) h; takes = refl }
  layer_absent (tac.Return value) each h k = record { reads = not_read None (one_or_none value) h; takes = refl }

  stmt_absent : (stmt : TacStmt) → IsAbsent stmt
  stmt_absent = stmt_induction IsAbsent (λ layer each h.
      let whole : with_parts (names_own_temps temps) (map-TacStmt _ _ passes layer) ≡ true =
      sym (fold-roll-TacStmt Bool (with_parts (names_own_temps temps)) layer) ∙ h in
      let own = names_own_temps temps (map-TacStmt _ _ passes layer) in
      subst Absent (sym (fold-roll-TacStmt Need need_step layer))
      (layer_absent layer each (and_first own _ whole) (and_rest own _ whole)))

  all_absent : (stmts : List TacStmt) → Each IsAbsent stmts
  all_absent [] = tt
  all_absent (stmt ∷ rest) = (stmt_absent stmt, all_absent rest)

  -- what is not below is needed nowhere
  pub not_needed : (stmts : List TacStmt) → everywhere (names_own_temps temps) stmts ≡ true →
      needed_in stmts t ≡ false
  not_needed stmts h = part_absent stmts (all_absent stmts) h

-- ALL
-- the mark of a temporary where none was marked before; past them all it is needed nowhere
mark_is : (temps t : ℕ) (needed : Bool) → (temps ≤ t → needed ≡ false) →
    unwrap_or (option_map (λ mark. mark || needed) (slice_get (replicate temps false) t)) false ≡ needed
mark_is zero t needed h = sym (h (omega arith))
mark_is (suc temps) zero needed h = refl
mark_is (suc temps) (suc t) needed h = mark_is temps t needed (λ k. h (omega (arith, k)))

-- of each temporary of a function
pub all_marked : (f tree : TacFnTree) (none marks : List Bool) → IsFunction f → tree ≡ f →
    none ≡ replicate tree.temps false → Marked (needs_of tree.body) none marks → (t : ℕ) →
    has_mark marks t ≡ needed_in f.body t
all_marked f tree none marks rules same is h t =
    ap (λ mark. unwrap_or mark false) (h.at t
    ∙ (λ i. option_map (λ mark. mark || needed_in (same i).body t)
    (slice_get ((is ∙ ap (λ one. replicate one.temps false) same) i) t)))
    ∙ mark_is f.temps t (needed_in f.body t) (λ beyond. not_needed f.temps t beyond f.body rules.own_temps)
