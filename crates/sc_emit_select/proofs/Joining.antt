-- Pieces between others: what holds of each piece of statements holds of all of them in order, and which statements are
-- one piece.
use Rattle.sc_emit_select.proofs.Common.{Applies, Bool, Each, FrameTree, Kind, List, Loads, None, Operates, Option}
use Rattle.sc_emit_select.proofs.Common.{Other, Piece, Place, Places, Plan, Returns, Role, Sets, ShortForm, Some}
use Rattle.sc_emit_select.proofs.Common.{Stores, TacOp, TacStmt, TacStmt-F, [], and_first, and_rest, ap, ap₂, arith}
use Rattle.sc_emit_select.proofs.Common.{as_one, between, choice, choosing, drop, ending_past, eqb-true, false}
use Rattle.sc_emit_select.proofs.Common.{fold-roll-TacStmt, followed, fork, get_or, if◌then◌else◌, in_order, in_turn}
use Rattle.sc_emit_select.proofs.Common.{inl, inr, is_some, joined, joins, jump_over, kind_of_fork, length, map}
use Rattle.sc_emit_select.proofs.Common.{map-TacStmt, nothing, object_read, object_store, past, refl, role_before}
use Rattle.sc_emit_select.proofs.Common.{role_first, role_of_operation, role_of_store, role_to_next, roll-TacStmt}
use Rattle.sc_emit_select.proofs.Common.{select, select_step, short_form, short_operation, short_return, skipping}
use Rattle.sc_emit_select.proofs.Common.{stmt_induction, straight, straightly, suc, sym, true, turning}
use Rattle.sc_emit_select.proofs.Common.{word_of_constant, zero, ℕ, ⊎_elim, ◌&&◌, ◌-◌, ◌<◌, ◌==◌, ◌∙◌, ◌∷◌, ◌≡◌, ◌≤◌}
use Rattle.sc_emit_select.proofs.Common.{◌⊎◌}
use Rattle.sc_tac.specs.declared.stmt.Constant.{Constant}
use Rattle.sc_tac.specs.declared.stmt.TacStmt.TheOpen as tac

-- ROLES
pub none_after : (role : Role) → joins role Other ≡ false
none_after (Places temp object) = refl
none_after (Loads temp) = refl
none_after (Sets temp word) = refl
none_after (Operates dest left o right) = refl
none_after (Stores temp value) = refl
none_after (Applies temp left o word) = refl
none_after (Returns temp) = refl
none_after Other = refl

-- a statement that isn't one with the one before it is to its neighbour what it is by itself
pub role_unjoined : (before own : Role) → joins before own ≡ false → role_to_next before own ≡ own
role_unjoined (Sets temp word) (Operates dest left o right) h =
    ap (λ b. if b then Applies dest left o word else Operates dest left o right) h
role_unjoined (Sets temp word) (Places other object) h = refl
role_unjoined (Sets temp word) (Loads other) h = refl
role_unjoined (Sets temp word) (Sets other value) h = refl
role_unjoined (Sets temp word) (Stores other value) h = refl
role_unjoined (Sets temp word) (Applies other from same value) h = refl
role_unjoined (Sets temp word) (Returns other) h = refl
role_unjoined (Sets temp word) Other h = refl
role_unjoined (Places temp object) own h = refl
role_unjoined (Loads temp) own h = refl
role_unjoined (Operates dest left o right) own h = refl
role_unjoined (Stores temp value) own h = refl
role_unjoined (Applies temp left o word) own h = refl
role_unjoined (Returns temp) own h = refl
role_unjoined Other own h = refl

-- what it is depends only on the one before it
role_twice : (first second third : Role) →
    role_to_next (role_to_next first second) third ≡ role_to_next second third
role_twice (Sets temp word) (Operates dest left o right) third = by (temp == right && is_some (short_form o word))
  where
    by : (b : Bool) →
        role_to_next (if b then Applies dest left o word else Operates dest left o right) third ≡
        role_to_next (Operates dest left o right) third
    by true = refl
    by false = refl
role_twice (Sets temp word) (Places other object) third = refl
role_twice (Sets temp word) (Loads other) third = refl
role_twice (Sets temp word) (Sets other value) third = refl
role_twice (Sets temp word) (Stores other value) third = refl
role_twice (Sets temp word) (Applies other from same value) third = refl
role_twice (Sets temp word) (Returns other) third = refl
role_twice (Sets temp word) Other third = refl
role_twice (Places temp object) second third = refl
role_twice (Loads temp) second third = refl
role_twice (Operates dest left o right) second third = refl
role_twice (Stores temp value) second third = refl
role_twice (Applies temp left o word) second third = refl
role_twice (Returns temp) second third = refl
role_twice Other second third = refl

-- two statements that read a variable
pub record IsRead (first second : Role) : Type 0 where
  pub temp : ℕ
  pub object : ℕ
  pub gives : first ≡ Places temp object
  pub loads : second ≡ Loads temp

-- two that store in a variable
pub record IsStored (first second : Role) : Type 0 where
  pub temp : ℕ
  pub object : ℕ
  pub value : ℕ
  pub gives : first ≡ Places temp object
  pub stores : second ≡ Stores temp value

-- two that apply an operator to a temporary and a constant
pub record IsShort (first second : Role) : Type 0 where
  pub temp : ℕ
  pub word : ℕ
  pub dest : ℕ
  pub left : ℕ
  pub op : TacOp
  pub form : ShortForm
  pub sets : first ≡ Sets temp word
  pub operates : second ≡ Operates dest left op temp
  pub form_is : short_form op word ≡ Some form
  pub following : role_to_next first second ≡ Applies dest left op word

-- two that return what the first computes
pub record IsReturned (first second : Role) : Type 0 where
  pub temp : ℕ
  pub left : ℕ
  pub op : TacOp
  pub word : ℕ
  pub applies : first ≡ Applies temp left op word
  pub returns : second ≡ Returns temp

there : {A : Type 0} (o : Option A) → is_some o ≡ true → (x : A) × (o ≡ Some x)
there None h = cc h
there (Some x) h = (x, refl)

short_by : (temp right word dest left : ℕ) (o : TacOp) → (temp == right && is_some (short_form o word)) ≡ true →
    IsShort (Sets temp word) (Operates dest left o right)
short_by temp right word dest left o h =
    let found = there (short_form o word) (and_rest (temp == right) (is_some (short_form o word)) h) in
    let same : (temp == right) ≡ true = and_first (temp == right) (is_some (short_form o word)) h in
    record {
      temp = temp;
      word = word;
      dest = dest;
      left = left;
      op = o;
      form = found.0;
      sets = refl;
      operates = ap (Operates dest left o) (sym (eqb-true temp right same));
      form_is = found.1;
      following = ap (λ b. if b then Applies dest left o word else Operates dest left o right) h;
    }

-- two statements that are one piece are of one of these kinds
pub which_pair : (first second : Role) → joins first second ≡ true →
    IsRead first second ⊎ (IsStored first second ⊎ (IsShort first second ⊎ IsReturned first second))
which_pair (Places temp object) (Loads other) h = inl (record {
  temp = temp;
  object = object;
  gives = refl;
  loads = ap Loads (sym (eqb-true temp other h));
})
which_pair (Places temp object) (Stores other value) h = inr (inl (record {
  temp = temp;
  object = object;
  value = value;
  gives = refl;
  stores = ap (λ t. Stores t value) (sym (eqb-true temp other h));
}))
which_pair (Sets temp word) (Operates dest left o right) h =
    inr (inr (inl (short_by temp right word dest left o h)))
which_pair (Applies temp left o word) (Returns other) h = inr (inr (inr (record {
  temp = temp;
  left = left;
  op = o;
  word = word;
  applies = refl;
  returns = ap Returns (sym (eqb-true temp other h));
})))
which_pair (Places temp object) (Places other place) h = cc h
which_pair (Places temp object) (Sets other word) h = cc h
which_pair (Places temp object) (Operates dest left o right) h = cc h
which_pair (Places temp object) (Applies other from same value) h = cc h
which_pair (Places temp object) (Returns other) h = cc h
which_pair (Places temp object) Other h = cc h
which_pair (Sets temp word) (Places other place) h = cc h
which_pair (Sets temp word) (Loads other) h = cc h
which_pair (Sets temp word) (Sets other value) h = cc h
which_pair (Sets temp word) (Stores other value) h = cc h
which_pair (Sets temp word) (Applies other from same value) h = cc h
which_pair (Sets temp word) (Returns other) h = cc h
which_pair (Sets temp word) Other h = cc h
which_pair (Applies temp left o word) (Places other place) h = cc h
which_pair (Applies temp left o word) (Loads other) h = cc h
which_pair (Applies temp left o word) (Sets other value) h = cc h
which_pair (Applies temp left o word) (Operates dest from same right) h = cc h
which_pair (Applies temp left o word) (Stores other value) h = cc h
which_pair (Applies temp left o word) (Applies other from same value) h = cc h
which_pair (Applies temp left o word) Other h = cc h
which_pair (Loads temp) second h = cc h
which_pair (Operates dest left o right) second h = cc h
which_pair (Stores temp value) second h = cc h
which_pair (Returns temp) second h = cc h
which_pair Other second h = cc h

-- nothing more is one with two that read a variable or store in one, nor with a return
pub read_is_last : (first second following : Role) → IsRead first second →
    joins (role_to_next first second) following ≡ false
read_is_last first second following pair =
    ap₂ (λ r s. joins (role_to_next r s) following) pair.gives pair.loads

pub store_is_last : (first second following : Role) → IsStored first second →
    joins (role_to_next first second) following ≡ false
store_is_last first second following pair =
    ap₂ (λ r s. joins (role_to_next r s) following) pair.gives pair.stores

pub return_is_last : (first second following : Role) → IsReturned first second →
    joins (role_to_next first second) following ≡ false
return_is_last first second following pair =
    ap₂ (λ r s. joins (role_to_next r s) following) pair.applies pair.returns

-- what is one with an operator and its constant gives their result back
pub return_of : (role : Role) (temp left : ℕ) (o : TacOp) (word : ℕ) → joins (Applies temp left o word) role ≡ true →
    role ≡ Returns temp
return_of (Returns other) temp left o word h = ap Returns (sym (eqb-true temp other h))
return_of (Places other object) temp left o word h = cc h
return_of (Loads other) temp left o word h = cc h
return_of (Sets other value) temp left o word h = cc h
return_of (Operates dest from same right) temp left o word h = cc h
return_of (Stores other value) temp left o word h = cc h
return_of (Applies other from same value) temp left o word h = cc h
return_of Other temp left o word h = cc h

-- the third of three that are one is no first one
pub third_is_last : (first second third following : Role) → joins first second ≡ true →
    joins (role_to_next first second) third ≡ true → joins third following ≡ false
third_is_last first second third following both all =
    ⊎_elim (λ pair. never (read_is_last first second third pair))
    (⊎_elim (λ pair. never (store_is_last first second third pair))
    (⊎_elim short (λ pair. never (return_is_last first second third pair)))) (which_pair first second both)
  where
    never : joins (role_to_next first second) third ≡ false → joins third following ≡ false
    never h = let same : true ≡ false = sym all ∙ h in cc same

    short : IsShort first second → joins third following ≡ false
    short pair =
        ap (λ r. joins r following)
        (return_of third pair.dest pair.left pair.op pair.word (sym (ap (λ r. joins r third) pair.following) ∙ all))

-- A CHOICE
pub is_empty : {A : Type 0} (xs : List A) → (length xs == 0) ≡ true → xs ≡ []
is_empty [] h = refl
is_empty (x ∷ xs) h = absurd (omega (arith, eqb-true (length (x ∷ xs)) 0 h))

pub past_few : (n : ℕ) → length (past n) ≤ 1
past_few zero = omega arith
past_few (suc n) = omega arith

module _ (frame : FrameTree) (places : List Place) where
  -- what holds of the branch, of a jump over lines, and of pieces one after the other holds of a choice
  pub fork_keeps : (P : Piece → Type 0) → P nothing → ((lines : ℕ) → P (straight (jump_over lines ∷ []))) →
      ((e f : Piece) → P e → P f → P (followed e f)) →
      ((piece : Piece) (kind : Kind) → P piece → P (record piece { kind = kind })) →
      (cond : ℕ) (first second : List Piece) →
      P (straightly frame places (choice frame places cond)) → P (in_order frame places first) →
      P (in_order frame places second) → P (fork frame places cond first second)
  fork_keeps P none over follows kinds cond first second branch he hf =
      kinds (if length first == 0 && (in_order frame places second).size == 1
      then skipping frame places cond (in_order frame places second)
      else choosing frame places cond (in_order frame places first) (in_order frame places second))
      (kind_of_fork cond first second) (by (length first == 0 && (in_order frame places second).size == 1))
    where
      over_all : (lines : ℕ) → P (straight (past lines))
      over_all zero = none
      over_all (suc lines) = over (suc lines)

      by : (b : Bool) → P (if b then skipping frame places cond (in_order frame places second)
          else choosing frame places cond (in_order frame places first) (in_order frame places second))
      by true = follows _ _ branch hf
      by false =
          follows _ _ branch (follows _ _ (over (ending_past frame places (in_order frame places first) (in_order frame
          places second)).size) (follows _ _ (follows _ _ he (over_all _)) hf))

  -- neither part has more lines than the whole
  pub parts_least : (cond : ℕ) (first second : List Piece) →
      ((in_order frame places first).size ≤ (fork frame places cond first second).size) ×
      ((in_order frame places second).size ≤ (fork frame places cond first second).size)
  parts_least cond first second = by (length first == 0 && (in_order frame places second).size == 1) refl
    where
      e : Piece
      e = in_order frame places first

      f : Piece
      f = in_order frame places second

      by : (b : Bool) → (length first == 0 && f.size == 1) ≡ b →
          (e.size ≤ (if b then skipping frame places cond f else choosing frame places cond e f).size) ×
          (f.size ≤ (if b then skipping frame places cond f else choosing frame places cond e f).size)
      by true is =
          let none : e.size ≡ 0 =
          ap (λ pieces. (in_order frame places pieces).size)
          (is_empty first (and_first (length first == 0) (f.size == 1) is)) in
          (omega (arith, none), omega arith)
      by false is = (omega arith, omega arith)

  pub fork_role : (cond : ℕ) (first second : List Piece) → (fork frame places cond first second).role ≡ Other
  fork_role cond first second = by (length first == 0 && (in_order frame places second).size == 1)
    where
      by : (b : Bool) → (if b then skipping frame places cond (in_order frame places second)
          else choosing frame places cond (in_order frame places first) (in_order frame places second)).role ≡ Other
      by true = refl
      by false = refl

  pub turning_role : (test : Option ℕ) (head : List Piece) (body next : Piece) →
      (turning frame places test head body next).role ≡ Other
  turning_role None head body next = refl
  turning_role (Some cond) head body next = refl

module _ (frame : FrameTree) (places : List Place) (plan : Plan) where
  abbrev role_of : TacStmt → Role
  role_of stmt = (select frame places plan stmt).role

  abbrev layer_role : TacStmt-F TacStmt → Role
  layer_role layer = (select_step frame places plan (map-TacStmt _ _ (select frame places plan) layer)).role

  role_is : (layer : TacStmt-F TacStmt) → role_of (roll-TacStmt layer) ≡ layer_role layer
  role_is layer = ap (λ p. p.role) (fold-roll-TacStmt Piece (select_step frame places plan) layer)

  -- which statement gives the place of a variable
  abbrev Gives : TacStmt → Type 0
  Gives stmt = (temp object : ℕ) → role_of stmt ≡ Places temp object → stmt ≡ roll-TacStmt (tac.ObjectPlace temp object)

  of_load : (b : Bool) (dest temp object : ℕ) → (if b then Loads dest else Other) ≡ Places temp object → ⊥
  of_load true dest temp object h = cc h
  of_load false dest temp object h = cc h

  -- an operator does to a temporary what it does, or nothing that a neighbour would ask for
  pub operation_role : (dest : ℕ) (o : TacOp) (left : ℕ) (right : Option ℕ) →
      (role_of_operation plan.needed dest o left right ≡ Other) ⊎
      ((right_one : ℕ) × (role_of_operation plan.needed dest o left right ≡ Operates dest left o right_one))
  operation_role dest o left None = inl refl
  operation_role dest o left (Some right) = by (plan.needed right)
    where
      by : (b : Bool) → ((if b then Other else Operates dest left o right) ≡ Other) ⊎
          ((right_one : ℕ) ×
          ((if b then Other else Operates dest left o right) ≡ Operates dest left o right_one))
      by true = inl refl
      by false = inr (right, refl)

  pub store_role : (place value : ℕ) → (role_of_store plan.needed place value ≡ Other) ⊎
      (role_of_store plan.needed place value ≡ Stores place value)
  store_role place value = by (plan.needed place)
    where
      by : (b : Bool) → ((if b then Other else Stores place value) ≡ Other) ⊎
          ((if b then Other else Stores place value) ≡ Stores place value)
      by true = inl refl
      by false = inr refl

  other_than : (role its found : Role) → (role ≡ Other) ⊎ (role ≡ its) → role ≡ found → (Other ≡ found → ⊥) →
      (its ≡ found → ⊥) → ⊥
  other_than role its found is h none some =
      ⊎_elim (λ e. none (sym e ∙ h)) (λ e. some (sym e ∙ h)) is

  -- nor does it do anything else
  never_operates : (dest : ℕ) (o : TacOp) (left : ℕ) (right : Option ℕ) (found : Role) →
      role_of_operation plan.needed dest o left right ≡ found → (Other ≡ found → ⊥) →
      ((right_one : ℕ) → Operates dest left o right_one ≡ found → ⊥) → ⊥
  never_operates dest o left right found h none some =
      ⊎_elim (λ e. none (sym e ∙ h)) (λ e. some e.0 (sym e.1 ∙ h)) (operation_role dest o left right)

  layer_gives : (layer : TacStmt-F TacStmt) (temp object : ℕ) → layer_role layer ≡ Places temp object →
      roll-TacStmt layer ≡ roll-TacStmt (tac.ObjectPlace temp object)
  layer_gives (tac.ObjectPlace dest place) temp object h =
      let one : dest ≡ temp = cc h in
      let two : place ≡ object = cc h in
      ap₂ (λ t o. roll-TacStmt (tac.ObjectPlace t o)) one two
  layer_gives (tac.Load dest place pointer) temp object h =
      absurd (of_load (dest == place) dest temp object h)
  layer_gives (tac.Op dest o left right) temp object h =
      absurd (never_operates dest o left right _ h (λ e. cc e) (λ other e. cc e))
  layer_gives (tac.Store place value) temp object h =
      absurd (other_than _ _ _ (store_role place value) h (λ e. cc e) (λ e. cc e))
  layer_gives (tac.If cond first second) temp object h =
      cc (sym (fork_role frame places cond (map (select frame places plan) first) (map (select frame places plan)
      second)) ∙ h)
  layer_gives (tac.Loop head body next) temp object h =
      let other : Other ≡ Places temp object =
      sym (turning_role frame places _ (map (select frame places plan) head) (in_order frame places (map (select frame
      places plan) body)) (in_order frame places (map (select frame places plan) next))) ∙ h in cc other
  layer_gives (tac.Return None) temp object h = cc h
  layer_gives (tac.Return (Some given)) temp object h = cc h
  layer_gives _ temp object h = cc h

  pub gives_place : (stmt : TacStmt) → Gives stmt
  gives_place = stmt_induction Gives (λ layer inside temp object h.
      layer_gives layer temp object (sym (role_is layer) ∙ h))

  -- which loads what stands at the place in its own temporary
  pub record IsLoad (stmt : TacStmt) (temp : ℕ) : Type 0 where
    pub pointer : Bool
    pub is : stmt ≡ roll-TacStmt (tac.Load temp temp pointer)

  layer_loads : (layer : TacStmt-F TacStmt) (temp : ℕ) → layer_role layer ≡ Loads temp →
      IsLoad (roll-TacStmt layer) temp
  layer_loads (tac.Load dest place pointer) temp h = by (dest == place) refl h
    where
      by : (b : Bool) → (dest == place) ≡ b → (if b then Loads dest else Other) ≡ Loads temp →
          IsLoad (roll-TacStmt (tac.Load dest place pointer)) temp
      by true e h =
          let one : dest ≡ temp = cc h in
          let two : place ≡ temp = sym (eqb-true dest place e) ∙ one in
          record { pointer = pointer; is = ap₂ (λ t u. roll-TacStmt (tac.Load t u pointer)) one two }
      by false e h = cc h
  layer_loads (tac.Op dest o left right) temp h =
      absurd (never_operates dest o left right _ h (λ e. cc e) (λ other e. cc e))
  layer_loads (tac.Store place value) temp h =
      absurd (other_than _ _ _ (store_role place value) h (λ e. cc e) (λ e. cc e))
  layer_loads (tac.If cond first second) temp h =
      let other : Other ≡ Loads temp =
      sym (fork_role frame places cond (map (select frame places plan) first) (map (select frame places plan)
      second)) ∙ h in cc other
  layer_loads (tac.Loop head body next) temp h =
      let other : Other ≡ Loads temp =
      sym (turning_role frame places _ (map (select frame places plan) head) (in_order frame places (map (select frame
      places plan) body)) (in_order frame places (map (select frame places plan) next))) ∙ h in cc other
  layer_loads (tac.Return None) temp h = cc h
  layer_loads (tac.Return (Some given)) temp h = cc h
  layer_loads _ temp h = cc h

  pub loads_it : (stmt : TacStmt) (temp : ℕ) → role_of stmt ≡ Loads temp → IsLoad stmt temp
  loads_it = stmt_induction (λ stmt. (temp : ℕ) → role_of stmt ≡ Loads temp → IsLoad stmt temp)
      (λ layer inside temp h. layer_loads layer temp (sym (role_is layer) ∙ h))

  -- which sets a constant
  pub record IsSet (stmt : TacStmt) (temp word : ℕ) : Type 0 where
    pub value : Constant
    pub is : stmt ≡ roll-TacStmt (tac.Const temp value)
    pub word_is : word_of_constant value ≡ word

  layer_sets : (layer : TacStmt-F TacStmt) (temp word : ℕ) → layer_role layer ≡ Sets temp word →
      IsSet (roll-TacStmt layer) temp word
  layer_sets (tac.Const dest value) temp word h =
      let one : dest ≡ temp = cc h in
      let two : word_of_constant value ≡ word = cc h in
      record { value = value; is = ap (λ t. roll-TacStmt (tac.Const t value)) one; word_is = two }
  layer_sets (tac.Op dest o left right) temp word h =
      absurd (never_operates dest o left right _ h (λ e. cc e) (λ other e. cc e))
  layer_sets (tac.Load dest place pointer) temp word h = absurd (by (dest == place) h)
    where
      by : (b : Bool) → (if b then Loads dest else Other) ≡ Sets temp word → ⊥
      by true h = cc h
      by false h = cc h
  layer_sets (tac.Store place value) temp word h =
      absurd (other_than _ _ _ (store_role place value) h (λ e. cc e) (λ e. cc e))
  layer_sets (tac.If cond first second) temp word h =
      let other : Other ≡ Sets temp word =
      sym (fork_role frame places cond (map (select frame places plan) first) (map (select frame places plan)
      second)) ∙ h in cc other
  layer_sets (tac.Loop head body next) temp word h =
      let other : Other ≡ Sets temp word =
      sym (turning_role frame places _ (map (select frame places plan) head) (in_order frame places (map (select frame
      places plan) body)) (in_order frame places (map (select frame places plan) next))) ∙ h in cc other
  layer_sets (tac.Return None) temp word h = cc h
  layer_sets (tac.Return (Some given)) temp word h = cc h
  layer_sets _ temp word h = cc h

  pub sets_it : (stmt : TacStmt) (temp word : ℕ) → role_of stmt ≡ Sets temp word → IsSet stmt temp word
  sets_it = stmt_induction (λ stmt. (temp word : ℕ) → role_of stmt ≡ Sets temp word → IsSet stmt temp word)
      (λ layer inside temp word h. layer_sets layer temp word (sym (role_is layer) ∙ h))

  -- which is an operator whose second operand is in a temporary that only such statements read
  pub record IsOperation (stmt : TacStmt) (dest left : ℕ) (o : TacOp) (right : ℕ) : Type 0 where
    pub is : stmt ≡ roll-TacStmt (tac.Op dest o left (Some right))
    pub lone : plan.needed right ≡ false

  layer_operates : (layer : TacStmt-F TacStmt) (to left : ℕ) (o : TacOp) (right : ℕ) →
      layer_role layer ≡ Operates to left o right → IsOperation (roll-TacStmt layer) to left o right
  layer_operates (tac.Op dest op first None) to left o right h = cc h
  layer_operates (tac.Op dest op first (Some second)) to left o right h = by (plan.needed second) refl h
    where
      by : (b : Bool) → plan.needed second ≡ b →
          (if b then Other else Operates dest first op second) ≡ Operates to left o right →
          IsOperation (roll-TacStmt (tac.Op dest op first (Some second))) to left o right
      by true e h = cc h
      by false e h =
          let one : dest ≡ to = cc h in
          let two : first ≡ left = cc h in
          let three : op ≡ o = cc h in
          let four : second ≡ right = cc h in
          record {
            is = ap₂ (λ t l. roll-TacStmt (tac.Op t op l (Some second))) one two ∙
                ap₂ (λ p r. roll-TacStmt (tac.Op to p left (Some r))) three four;
            lone = sym (ap plan.needed four) ∙ e;
          }
  layer_operates (tac.Load dest place pointer) to left o right h = absurd (by (dest == place) h)
    where
      by : (b : Bool) → (if b then Loads dest else Other) ≡ Operates to left o right → ⊥
      by true h = cc h
      by false h = cc h
  layer_operates (tac.Store place value) to left o right h =
      absurd (other_than _ _ _ (store_role place value) h (λ e. cc e) (λ e. cc e))
  layer_operates (tac.If cond first second) to left o right h =
      let other : Other ≡ Operates to left o right =
      sym (fork_role frame places cond (map (select frame places plan) first) (map (select frame places plan)
      second)) ∙ h in cc other
  layer_operates (tac.Loop head body next) to left o right h =
      let other : Other ≡ Operates to left o right =
      sym (turning_role frame places _ (map (select frame places plan) head) (in_order frame places (map (select frame
      places plan) body)) (in_order frame places (map (select frame places plan) next))) ∙ h in cc other
  layer_operates (tac.Return None) to left o right h = cc h
  layer_operates (tac.Return (Some given)) to left o right h = cc h
  layer_operates _ to left o right h = cc h

  pub operates_it : (stmt : TacStmt) (to left : ℕ) (o : TacOp) (right : ℕ) → role_of stmt ≡ Operates to left o right →
      IsOperation stmt to left o right
  operates_it =
      stmt_induction
      (λ stmt. (to left : ℕ) (o : TacOp) (right : ℕ) → role_of stmt ≡ Operates to left o right →
      IsOperation stmt to left o right)
      (λ layer inside to left o right h. layer_operates layer to left o right (sym (role_is layer) ∙ h))

  -- which stores at a place that only such stores read
  pub record IsStore (stmt : TacStmt) (place value : ℕ) : Type 0 where
    pub is : stmt ≡ roll-TacStmt (tac.Store place value)
    pub lone : plan.needed place ≡ false

  layer_stores : (layer : TacStmt-F TacStmt) (place value : ℕ) → layer_role layer ≡ Stores place value →
      IsStore (roll-TacStmt layer) place value
  layer_stores (tac.Store at from) place value h = by (plan.needed at) refl h
    where
      by : (b : Bool) → plan.needed at ≡ b → (if b then Other else Stores at from) ≡ Stores place value →
          IsStore (roll-TacStmt (tac.Store at from)) place value
      by true e h = cc h
      by false e h =
          let one : at ≡ place = cc h in
          let two : from ≡ value = cc h in
          record { is = ap₂ (λ p v. roll-TacStmt (tac.Store p v)) one two; lone = sym (ap plan.needed one) ∙ e }
  layer_stores (tac.Op dest o left right) place value h =
      absurd (never_operates dest o left right _ h (λ e. cc e) (λ other e. cc e))
  layer_stores (tac.Load dest from pointer) place value h = absurd (by (dest == from) h)
    where
      by : (b : Bool) → (if b then Loads dest else Other) ≡ Stores place value → ⊥
      by true h = cc h
      by false h = cc h
  layer_stores (tac.If cond first second) place value h =
      let other : Other ≡ Stores place value =
      sym (fork_role frame places cond (map (select frame places plan) first) (map (select frame places plan)
      second)) ∙ h in
      cc other
  layer_stores (tac.Loop head body next) place value h =
      let other : Other ≡ Stores place value =
      sym (turning_role frame places _ (map (select frame places plan) head) (in_order frame places (map (select frame
      places plan) body)) (in_order frame places (map (select frame places plan) next))) ∙ h in cc other
  layer_stores (tac.Return None) place value h = cc h
  layer_stores (tac.Return (Some given)) place value h = cc h
  layer_stores _ place value h = cc h

  pub stores_it : (stmt : TacStmt) (place value : ℕ) → role_of stmt ≡ Stores place value → IsStore stmt place value
  stores_it =
      stmt_induction (λ stmt. (place value : ℕ) → role_of stmt ≡ Stores place value → IsStore stmt place value)
      (λ layer inside place value h. layer_stores layer place value (sym (role_is layer) ∙ h))

  -- which gives a temporary back
  abbrev pub IsReturn : TacStmt → ℕ → Type 0
  IsReturn stmt temp = stmt ≡ roll-TacStmt (tac.Return (Some temp))

  layer_returns : (layer : TacStmt-F TacStmt) (temp : ℕ) → layer_role layer ≡ Returns temp →
      IsReturn (roll-TacStmt layer) temp
  layer_returns (tac.Return None) temp h = cc h
  layer_returns (tac.Return (Some given)) temp h =
      let one : given ≡ temp = cc h in ap (λ t. roll-TacStmt (tac.Return (Some t))) one
  layer_returns (tac.Op dest o left right) temp h =
      absurd (never_operates dest o left right _ h (λ e. cc e) (λ other e. cc e))
  layer_returns (tac.Load dest from pointer) temp h = absurd (by (dest == from) h)
    where
      by : (b : Bool) → (if b then Loads dest else Other) ≡ Returns temp → ⊥
      by true h = cc h
      by false h = cc h
  layer_returns (tac.Store place value) temp h =
      absurd (other_than _ _ _ (store_role place value) h (λ e. cc e) (λ e. cc e))
  layer_returns (tac.If cond first second) temp h =
      let other : Other ≡ Returns temp =
      sym (fork_role frame places cond (map (select frame places plan) first) (map (select frame places plan)
      second)) ∙ h in
      cc other
  layer_returns (tac.Loop head body next) temp h =
      let other : Other ≡ Returns temp =
      sym (turning_role frame places _ (map (select frame places plan) head) (in_order frame places (map (select frame
      places plan) body)) (in_order frame places (map (select frame places plan) next))) ∙ h in cc other
  layer_returns _ temp h = cc h

  pub returns_it : (stmt : TacStmt) (temp : ℕ) → role_of stmt ≡ Returns temp → IsReturn stmt temp
  returns_it = stmt_induction (λ stmt. (temp : ℕ) → role_of stmt ≡ Returns temp → IsReturn stmt temp)
      (λ layer inside temp h. layer_returns layer temp (sym (role_is layer) ∙ h))

  -- no statement by itself is an operator with its constant
  layer_never_applies : (layer : TacStmt-F TacStmt) (temp left : ℕ) (o : TacOp) (word : ℕ) →
      layer_role layer ≡ Applies temp left o word → ⊥
  layer_never_applies (tac.Op dest op from right) temp left o word h =
      never_operates dest op from right _ h (λ e. cc e) (λ other e. cc e)
  layer_never_applies (tac.Load dest from pointer) temp left o word h = by (dest == from) h
    where
      by : (b : Bool) → (if b then Loads dest else Other) ≡ Applies temp left o word → ⊥
      by true h = cc h
      by false h = cc h
  layer_never_applies (tac.Store place value) temp left o word h =
      other_than _ _ _ (store_role place value) h (λ e. cc e) (λ e. cc e)
  layer_never_applies (tac.If cond first second) temp left o word h =
      let other : Other ≡ Applies temp left o word =
      sym (fork_role frame places cond (map (select frame places plan) first) (map (select frame places plan)
      second)) ∙ h in
      cc other
  layer_never_applies (tac.Loop head body next) temp left o word h =
      let other : Other ≡ Applies temp left o word =
      sym (turning_role frame places _ (map (select frame places plan) head) (in_order frame places (map (select frame
      places plan) body)) (in_order frame places (map (select frame places plan) next))) ∙ h in cc other
  layer_never_applies (tac.Return None) temp left o word h = cc h
  layer_never_applies (tac.Return (Some given)) temp left o word h = cc h
  layer_never_applies _ temp left o word h = cc h

  pub never_applies : (stmt : TacStmt) (temp left : ℕ) (o : TacOp) (word : ℕ) →
      role_of stmt ≡ Applies temp left o word → ⊥
  never_applies =
      stmt_induction
      (λ stmt. (temp left : ℕ) (o : TacOp) (word : ℕ) → role_of stmt ≡ Applies temp left o word → ⊥)
      (λ layer inside temp left o word h. layer_never_applies layer temp left o word (sym (role_is layer) ∙ h))

  -- the role of the first of those from a number on
  pub role_found : (stmts : List TacStmt) (i : ℕ) (stmt : TacStmt) → i < length stmts → stmt ≡ get_or stmts i stmt →
      (select frame places plan stmt).role ≡ role_first (map (select frame places plan) (drop i stmts))
  role_found [] i stmt h is = absurd (omega (arith, h))
  role_found (first ∷ rest) zero stmt h is = ap role_of is
  role_found (first ∷ rest) (suc i) stmt h is = role_found rest i stmt (omega (arith, h)) is

  pub role_missing : (stmts : List TacStmt) (i : ℕ) → length stmts ≤ i →
      Other ≡ role_first (map (select frame places plan) (drop i stmts))
  role_missing [] zero h = refl
  role_missing [] (suc i) h = refl
  role_missing (first ∷ rest) zero h = absurd (omega (arith, h))
  role_missing (first ∷ rest) (suc i) h = role_missing rest i (omega (arith, h))

  pub drop_map : (stmts : List TacStmt) (i : ℕ) →
      drop i (map (select frame places plan) stmts) ≡ map (select frame places plan) (drop i stmts)
  drop_map stmts zero = refl
  drop_map [] (suc i) = refl
  drop_map (stmt ∷ rest) (suc i) = drop_map rest i

  abbrev role_at : List TacStmt → ℕ → Role
  role_at stmts i = role_first (map (select frame places plan) (drop i stmts))

  -- what is before a statement, by the roles of the one before it and of the one before that
  pub one_before : (stmts : List TacStmt) (i : ℕ) → i ≡ 1 →
      role_at stmts (i - 1) ≡ role_before (map (select frame places plan) stmts) i
  one_before stmts i one = ap (λ n. role_at stmts (n - 1)) one ∙ sym (ap (role_before (map (select frame places plan)
      stmts)) one)

  pub two_before : (stmts : List TacStmt) (i : ℕ) → (i ≡ 0 → ⊥) → (i ≡ 1 → ⊥) →
      role_to_next (role_at stmts (i - 2)) (role_at stmts (i - 1)) ≡
      role_before (map (select frame places plan) stmts) i
  two_before stmts zero none one = absurd (none refl)
  two_before stmts (suc zero) none one = absurd (one refl)
  two_before stmts (suc (suc i)) none one =
      let first : suc (suc i) - 2 ≡ i = omega arith in
      let second : suc (suc i) - 1 ≡ suc i = omega arith in
      ap₂ (λ n m. role_to_next (role_at stmts n) (role_at stmts m)) first second ∙
      ap₂ (λ ps qs. role_to_next (role_first ps) (role_first qs)) (sym (drop_map stmts i))
      (sym (drop_map stmts (suc i)))

  -- PIECES
  -- what holds of a piece and of those that may stand for it and its neighbours
  module _ (P : Piece → Type 0) (none : P nothing)
      (read : (temp object : ℕ) → P (straightly frame places (object_read frame places temp object)))
      (short : (temp left : ℕ) (o : TacOp) (word : ℕ) →
      P (straightly frame places (short_operation frame places temp left (short_form o word))))
      (store : (value object : ℕ) → P (straightly frame places (object_store frame places value object)))
      (back : (left : ℕ) (o : TacOp) (word : ℕ) →
      P (straightly frame places (short_return frame places left (short_form o word)))) where
    as_one_keeps : (first second : Role) → P (as_one frame places first second)
    as_one_keeps (Places temp object) (Loads other) = read temp object
    as_one_keeps (Places temp object) (Stores other value) = store value object
    as_one_keeps (Places temp object) (Places other place) = none
    as_one_keeps (Places temp object) (Sets other value) = none
    as_one_keeps (Places temp object) (Operates dest left o right) = none
    as_one_keeps (Places temp object) (Applies other from same value) = none
    as_one_keeps (Places temp object) (Returns other) = none
    as_one_keeps (Places temp object) Other = none
    as_one_keeps (Sets temp word) (Operates dest left o right) = short dest left o word
    as_one_keeps (Sets temp word) (Places other object) = none
    as_one_keeps (Sets temp word) (Loads other) = none
    as_one_keeps (Sets temp word) (Sets other value) = none
    as_one_keeps (Sets temp word) (Stores other value) = none
    as_one_keeps (Sets temp word) (Applies other from same value) = none
    as_one_keeps (Sets temp word) (Returns other) = none
    as_one_keeps (Sets temp word) Other = none
    as_one_keeps (Applies temp left o word) (Returns other) = back left o word
    as_one_keeps (Applies temp left o word) (Places other object) = none
    as_one_keeps (Applies temp left o word) (Loads other) = none
    as_one_keeps (Applies temp left o word) (Sets other value) = none
    as_one_keeps (Applies temp left o word) (Operates dest from same right) = none
    as_one_keeps (Applies temp left o word) (Stores other value) = none
    as_one_keeps (Applies temp left o word) (Applies other from same value) = none
    as_one_keeps (Applies temp left o word) Other = none
    as_one_keeps (Loads temp) second = none
    as_one_keeps (Operates dest left o right) second = none
    as_one_keeps (Stores temp value) second = none
    as_one_keeps (Returns temp) second = none
    as_one_keeps Other second = none

    pub between_keeps : (before following : Role) (piece : Piece) → P piece →
        P (between frame places before piece following)
    between_keeps before following piece h =
        by (joins (role_to_next before piece.role) following) (joins before piece.role)
      where
        by : (one two : Bool) → P (if one then nothing else if two then as_one frame places before piece.role else
            piece)
        by true two = none
        by false true = as_one_keeps before piece.role
        by false false = h

    joined_keeps : (before : Role) (pieces : List Piece) → Each P pieces → Each P (joined frame places before pieces)
    joined_keeps before [] h = tt
    joined_keeps before (piece ∷ pieces) h =
        (between_keeps before (role_first pieces) piece h.0, joined_keeps (role_to_next before piece.role) pieces h.1)

    module _ (both : (e f : Piece) → P e → P f → P (followed e f)) where
      turn_keeps : (pieces : List Piece) (i : ℕ) → Each P pieces → P (in_turn (drop i pieces))
      turn_keeps [] zero h = none
      turn_keeps [] (suc i) h = none
      turn_keeps (piece ∷ pieces) zero h = both piece (in_turn pieces) h.0 (turn_keeps pieces 0 h.1)
      turn_keeps (piece ∷ pieces) (suc i) h = turn_keeps pieces i h.1

      selected : (stmts : List TacStmt) → Each (λ stmt. P (select frame places plan stmt)) stmts →
          Each P (map (select frame places plan) stmts)
      selected [] h = tt
      selected (stmt ∷ rest) h = (h.0, selected rest h.1)

      -- of those from a number on
      pub from_keeps : (stmts : List TacStmt) → Each (λ stmt. P (select frame places plan stmt)) stmts → (i : ℕ) →
          P (in_turn (drop i (joined frame places Other (map (select frame places plan) stmts))))
      from_keeps stmts h i =
          turn_keeps (joined frame places Other (map (select frame places plan) stmts)) i
          (joined_keeps Other (map (select frame places plan) stmts) (selected stmts h))

      -- of all
      pub order_keeps : (stmts : List TacStmt) → Each (λ stmt. P (select frame places plan stmt)) stmts →
          P (in_order frame places (map (select frame places plan) stmts))
      order_keeps stmts h = from_keeps stmts h 0

  -- NUMBERS
  pub joined_length : (before : Role) (pieces : List Piece) →
      length (joined frame places before pieces) ≡ length pieces
  joined_length before [] = refl
  joined_length before (piece ∷ pieces) = ap suc (joined_length (role_to_next before piece.role) pieces)

  -- what the pieces before the one at a number are to it, where this one stands before them all
  abbrev pub role_in : Role → List Piece → ℕ → Role
  role_in before pieces zero = before
  role_in before [] (suc at) = Other
  role_in before (piece ∷ pieces) (suc at) = role_in (role_to_next before piece.role) pieces at

  pub joined_at : (before : Role) (pieces : List Piece) (i : ℕ) (piece : Piece) → i < length pieces →
      piece ≡ get_or pieces i piece →
      drop i (joined frame places before pieces) ≡
      between frame places (role_in before pieces i) piece (role_first (drop (suc i) pieces)) ∷
      drop (suc i) (joined frame places before pieces)
  joined_at before [] i piece h is = absurd (omega (arith, h))
  joined_at before (first ∷ pieces) zero piece h is =
      ap (λ p. between frame places before p (role_first pieces) ∷
      joined frame places (role_to_next before first.role) pieces) (sym is)
  joined_at before (first ∷ pieces) (suc i) piece h is =
      joined_at (role_to_next before first.role) pieces i piece (omega (arith, h)) is

  -- only the last two pieces decide
  role_of_two : (before : Role) (pieces : List Piece) (at : ℕ) → suc at < length pieces →
      role_in before pieces (suc (suc at)) ≡
      role_to_next (role_first (drop at pieces)) (role_first (drop (suc at) pieces))
  role_of_two before [] at h = absurd (omega (arith, h))
  role_of_two before (first ∷ []) at h = absurd (omega (arith, h))
  role_of_two before (first ∷ second ∷ pieces) zero h = role_twice before first.role second.role
  role_of_two before (first ∷ second ∷ pieces) (suc at) h =
      role_of_two (role_to_next before first.role) (second ∷ pieces) at (omega (arith, h))

  pub role_in_is : (pieces : List Piece) (at : ℕ) → at ≤ length pieces →
      role_in Other pieces at ≡ role_before pieces at
  role_in_is pieces zero h = refl
  role_in_is [] (suc at) h = absurd (omega (arith, h))
  role_in_is (first ∷ pieces) (suc zero) h = refl
  role_in_is (first ∷ pieces) (suc (suc at)) h = role_of_two Other (first ∷ pieces) at (omega (arith, h))
