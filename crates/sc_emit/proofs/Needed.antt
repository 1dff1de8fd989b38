-- Temporaries that are read in their places: what rows of statements need, and what a statement takes that isn't one
-- with the one before it.
use Rattle.sc_emit.proofs.Common.{Applies, Bool, FrameTree, List, Loads, Need, None, Operates, Option, Other, Place}
use Rattle.sc_emit.proofs.Common.{Places, Plan, Role, Sets, Some, TacOp, TacStmt, TacStmt-F, [], and_first, and_from}
use Rattle.sc_emit.proofs.Common.{and_parts, ap, break_stmt, ending_test, eq-eqb, eqb-true, false, fold-roll-TacStmt}
use Rattle.sc_emit.proofs.Common.{fork_role, held_in, if◌then◌else◌, in_order, is_one, is_some, joins, list_all, map}
use Rattle.sc_emit.proofs.Common.{map-TacStmt, need, need_step, one_or_none, operation_role, or_left, or_right, refl}
use Rattle.sc_emit.proofs.Common.{role_of_operation, role_to_next, roll-TacStmt, row_needs, select, select_step}
use Rattle.sc_emit.proofs.Common.{short_form, stmt_induction, store_role, subst, sym, taken_needed, test_stmt, true}
use Rattle.sc_emit.proofs.Common.{turning_role, ℕ, ⊎_elim, ◌&&◌, ◌++◌, ◌==◌, ◌||◌, ◌∙◌, ◌∷◌, ◌≡◌, ◌⊎◌}
use Rattle.sc_tac.specs.declared.stmt.TacStmt.TheOpen as tac
use Rattle.sc_emit_select.specs.declared.roles.Role.TheVariants.{Returns, Stores}

-- LISTS
pub one_of_all : (p : ℕ → Bool) (xs : List ℕ) (t : ℕ) → list_all p xs ≡ true → is_one t xs ≡ true → p t ≡ true
one_of_all p [] t h on = cc on
one_of_all p (x ∷ xs) t h on =
    by (x == t) refl on (λ later. one_of_all p xs t (and_parts (p x) (list_all p xs) h).1 later)
  where
    by : (b : Bool) → (x == t) ≡ b → (b || is_one t xs) ≡ true → (is_one t xs ≡ true → p t ≡ true) → p t ≡ true
    by true e on rest = ap p (sym (eqb-true x t e)) ∙ and_first (p x) (list_all p xs) h
    by false e on rest = rest on

pub all_append : (p : ℕ → Bool) (xs ys : List ℕ) → list_all p (xs ++ ys) ≡ true →
    (list_all p xs ≡ true) × (list_all p ys ≡ true)
all_append p [] ys h = (refl, h)
all_append p (x ∷ xs) ys h =
    let parts = and_parts (p x) (list_all p (xs ++ ys)) h in
    let rest = all_append p xs ys parts.1 in (and_from (p x) (list_all p xs) parts.0 rest.0, rest.1)

-- each of these is one of those
pub all_among : (xs ys : List ℕ) → ((t : ℕ) → is_one t xs ≡ true → is_one t ys ≡ true) →
    list_all (λ t. is_one t ys) xs ≡ true
all_among [] ys h = refl
all_among (x ∷ xs) ys h =
    and_from (is_one x ys) (list_all (λ t. is_one t ys) xs)
    (h x (or_left (x == x) (is_one x xs) (eq-eqb x x refl)))
    (all_among xs ys (λ t on. h t (or_right (x == t) (is_one t xs) on)))

-- A HEAD WITH ITS TEST
-- what the statements before a test read, and the test
module _ (needed : ℕ → Bool) (cond : ℕ) where
  test_reads : (before : Role) → list_all needed (row_needs before (map need (test_stmt cond ∷ []))) ≡ true →
      needed cond ≡ true
  test_reads before h =
      let parts = all_append needed (taken_needed before (need (test_stmt cond)).takes)
      ((need (test_stmt cond)).reads ++
      []) h in
      let reads = (all_append needed (need (test_stmt cond)).reads [] parts.1).0 in
      let layer = tac.If cond [] (break_stmt ∷ []) in
      and_first (needed cond) _ (subst (λ (n : Need). list_all needed n.reads ≡ true)
      (fold-roll-TacStmt Need need_step layer) reads)

  init_reads : (before : Role) (init : List TacStmt) →
      list_all needed (row_needs before (map need (init ++ (test_stmt cond ∷ [])))) ≡ true →
      (list_all needed (row_needs before (map need init)) ≡ true) × (needed cond ≡ true)
  init_reads before [] h = (refl, test_reads before h)
  init_reads before (stmt ∷ init) h =
      let own : List ℕ = (need stmt).reads in
      let taken : List ℕ = taken_needed before (need stmt).takes in
      let one = all_append needed taken (own ++ row_needs (need stmt).gives (map need (init ++ (test_stmt cond ∷ []))))
      h in
      let two = all_append needed own (row_needs (need stmt).gives (map need (init ++ (test_stmt cond ∷ [])))) one.1 in
      let rest = init_reads (need stmt).gives init two.1 in (
        joined taken (own ++ row_needs (need stmt).gives (map need init)) one.0
            (joined own (row_needs (need stmt).gives (map need init)) two.0 rest.0),
        rest.1,
      )
    where
      joined : (xs ys : List ℕ) → list_all needed xs ≡ true → list_all needed ys ≡ true →
          list_all needed (xs ++ ys) ≡ true
      joined [] ys h k = k
      joined (x ∷ xs) ys h k =
          let parts = and_parts (needed x) (list_all needed xs) h in
          and_from (needed x) (list_all needed (xs ++ ys)) parts.0 (joined xs ys parts.1 k)

  pub head_needs : (head init : List TacStmt) → head ≡ init ++ (test_stmt cond ∷ []) →
      list_all needed (row_needs Other (map need head)) ≡ true →
      (list_all needed (row_needs Other (map need init)) ≡ true) × (needed cond ≡ true)
  head_needs head init is h =
      init_reads Other init (subst (λ l. list_all needed (row_needs Other (map need l)) ≡ true) is h)

-- ROLES
-- what a statement gives that only the next one may take
abbrev pub gives_of : Role → Role
gives_of (Places temp object) = Places temp object
gives_of (Sets temp word) = Sets temp word
gives_of _ = Other

-- what a statement gives to its neighbour doesn't depend on the one before it
pub gives_to_next : (before own : Role) → gives_of (role_to_next before own) ≡ gives_of own
gives_to_next (Sets temp word) (Operates dest left o right) = by (temp == right && is_some (short_form o word))
  where
    by : (b : Bool) → gives_of (if b then Applies dest left o word else Operates dest left o right) ≡ Other
    by true = refl
    by false = refl
gives_to_next (Sets temp word) (Places other object) = refl
gives_to_next (Sets temp word) (Loads other) = refl
gives_to_next (Sets temp word) (Sets other value) = refl
gives_to_next (Sets temp word) (Stores other value) = refl
gives_to_next (Sets temp word) (Applies other left o value) = refl
gives_to_next (Sets temp word) (Returns other) = refl
gives_to_next (Sets temp word) Other = refl
gives_to_next (Places temp object) own = refl
gives_to_next (Loads temp) own = refl
gives_to_next (Operates dest left o right) own = refl
gives_to_next (Stores temp value) own = refl
gives_to_next (Applies temp left o word) own = refl
gives_to_next (Returns temp) own = refl
gives_to_next Other own = refl

-- only what is given may be taken
joins_given : (before takes : Role) (t : ℕ) → held_in takes ≡ Some t →
    joins (gives_of before) takes ≡ joins before takes
joins_given (Places temp object) takes t h = refl
joins_given (Sets temp word) takes t h = refl
joins_given (Loads temp) takes t h = refl
joins_given (Operates dest left o right) takes t h = refl
joins_given (Stores temp value) takes t h = refl
joins_given (Applies temp left o word) (Stores place value) t h = refl
joins_given (Applies temp left o word) (Operates dest from same right) t h = refl
joins_given (Applies temp left o word) takes t h = cc h
joins_given (Returns temp) takes t h = refl
joins_given Other takes t h = refl

module _ (frame : FrameTree) (places : List Place) (plan : Plan) where
  abbrev role_of : TacStmt → Role
  role_of stmt = (select frame places plan stmt).role

  abbrev layer_need : TacStmt-F TacStmt → Need
  layer_need layer = need_step (map-TacStmt _ _ need layer)

  abbrev Gives : TacStmt → Type 0
  Gives stmt = gives_of (role_of stmt) ≡ (need stmt).gives

  nothing_given : (role its : Role) → (role ≡ Other) ⊎ (role ≡ its) → gives_of its ≡ Other → gives_of role ≡ Other
  nothing_given role its h none = ⊎_elim (λ e. ap gives_of e) (λ e. ap gives_of e ∙ none) h

  nothing_operated : (dest : ℕ) (o : TacOp) (left : ℕ) (right : Option ℕ) →
      gives_of (role_of_operation plan.needed dest o left right) ≡ Other
  nothing_operated dest o left right =
      ⊎_elim (λ e. ap gives_of e) (λ e. ap gives_of e.1) (operation_role frame places plan dest o left right)

  layer_gives : (layer : TacStmt-F TacStmt) →
      gives_of (select_step frame places plan (map-TacStmt _ _ (select frame places plan) layer)).role ≡
      (layer_need layer).gives
  layer_gives (tac.Const dest value) = refl
  layer_gives (tac.Copy dest from) = refl
  layer_gives (tac.Op dest o left right) = nothing_operated dest o left right
  layer_gives (tac.ObjectPlace dest object) = refl
  layer_gives (tac.GlobalPlace dest global) = refl
  layer_gives (tac.Load dest place pointer) = by (dest == place)
    where
      by : (b : Bool) → gives_of (if b then Loads dest else Other) ≡ Other
      by true = refl
      by false = refl
  layer_gives (tac.Store place value) =
      nothing_given _ (Stores place value) (store_role frame places plan place value) refl
  layer_gives (tac.If cond first second) =
      ap gives_of (fork_role frame places cond (map (select frame places plan) first)
      (map (select frame places plan) second))
  layer_gives (tac.Loop head body next) =
      ap gives_of (turning_role frame places (if plan.near then ending_test (map (select frame places plan) head)
      else None) (map (select frame places plan) head) (in_order frame places (map (select frame places plan) body))
      (in_order frame places (map (select frame places plan) next)))
  layer_gives tac.Break = refl
  layer_gives tac.Continue = refl
  layer_gives (tac.CallOwn dest function args) = refl
  layer_gives (tac.CallCross dest comp index args) = refl
  layer_gives (tac.Input dest) = refl
  layer_gives (tac.Output value) = refl
  layer_gives (tac.Alloc dest count words) = refl
  layer_gives (tac.Free pointer) = refl
  layer_gives (tac.Return None) = refl
  layer_gives (tac.Return (Some value)) = refl

  -- what a statement gives to its neighbour, by its role and by its need
  pub need_gives : (stmt : TacStmt) → Gives stmt
  need_gives = stmt_induction Gives (λ layer inside.
      ap (λ p. gives_of p.role) (fold-roll-TacStmt _ (select_step frame places plan) layer) ∙ layer_gives layer ∙
      sym (ap (λ (n : Need). n.gives) (fold-roll-TacStmt Need need_step layer)))

  -- a statement that takes something, by its need
  abbrev Takes : TacStmt → Type 0
  Takes stmt = (t : ℕ) → held_in (need stmt).takes ≡ Some t →
      role_of stmt ≡ (if plan.needed t then Other else (need stmt).takes)

  layer_takes : (layer : TacStmt-F TacStmt) (t : ℕ) → held_in (layer_need layer).takes ≡ Some t →
      (select_step frame places plan (map-TacStmt _ _ (select frame places plan) layer)).role ≡
      (if plan.needed t then Other else (layer_need layer).takes)
  layer_takes (tac.Store place value) t h =
      let same : place ≡ t = cc h in ap (λ p. if plan.needed p then Other else Stores place value) same
  layer_takes (tac.Op dest o left None) t h = cc h
  layer_takes (tac.Op dest o left (Some right)) t h =
      let same : right ≡ t = cc h in ap (λ p. if plan.needed p then Other else Operates dest left o right) same
  layer_takes _ t h = cc h

  takes_it : (stmt : TacStmt) → Takes stmt
  takes_it = stmt_induction Takes (λ layer inside t h.
      let its : need (roll-TacStmt layer) ≡ layer_need layer = fold-roll-TacStmt Need need_step layer in
      ap (λ p. p.role) (fold-roll-TacStmt _ (select_step frame places plan) layer) ∙
      layer_takes layer t (sym (ap (λ (n : Need). held_in n.takes) its) ∙ h) ∙
      ap (λ (n : Need). if plan.needed t then Other else n.takes) (sym its))

  -- what a statement takes that isn't one with the one before it is read
  pub taken_unjoined : (before : Role) (stmt : TacStmt) →
      list_all plan.needed (taken_needed (gives_of before) (need stmt).takes) ≡ true →
      joins before (role_of stmt) ≡ false → (t : ℕ) → held_in (need stmt).takes ≡ Some t → plan.needed t ≡ true
  taken_unjoined before stmt h apart t is = by (plan.needed t) refl
    where
      takes : Role
      takes = (need stmt).takes

      by : (b : Bool) → plan.needed t ≡ b → b ≡ true
      by true e = refl
      by false e =
          let role : role_of stmt ≡ takes = takes_it stmt t is ∙ ap (λ b. if b then Other else takes) e in
          let alone : joins (gives_of before) takes ≡ false =
          joins_given before takes t is ∙ sym (ap (joins before) role) ∙ apart in
          let read : taken_needed (gives_of before) takes ≡ t ∷ [] =
          ap (λ b. if b then [] else one_or_none (held_in takes)) alone ∙ ap one_or_none is in
          sym e ∙ and_first (plan.needed t) true (subst (λ xs. list_all plan.needed xs ≡ true) read h)
