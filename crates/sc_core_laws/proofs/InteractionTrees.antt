-- Combinators make interaction trees of interaction trees, in every language whose denotations are built of them: each
-- lemma `match_` is of one combinator, and together they prove that denotations obey.
use Rattle.sc_core_laws.proofs.Common.{Alike, Asks, Blames, Blocks, Bool, CallTarget, Calls, Cause, Does, Doing, Each}
use Rattle.sc_core_laws.proofs.Common.{Err, Exit, Gives, GoFrom, Goes, Gone, Grown, Halts, Here, InteractionTree, Lasts}
use Rattle.sc_core_laws.proofs.Common.{Left, List, Match, Next, None, Ok, On, Option, Piece, Plays, Reached, Reads}
use Rattle.sc_core_laws.proofs.Common.{Result, Route, Some, Spends, State, Stores, Value, [], all_do, and_then, ap}
use Rattle.sc_core_laws.proofs.Common.{arith, computed, false, follow, if◌then◌else◌, in_loop, in_order, inl, inr}
use Rattle.sc_core_laws.proofs.Common.{leave, length, loop, map, played, refl, rounds, store, stored, subst, suc, sym}
use Rattle.sc_core_laws.proofs.Common.{take, true, turn, turn_of, with_memory, zero, ℕ, ◌*◌, ◌++◌, ◌<◌, ◌∙◌, ◌∷◌}
use Rattle.sc_core_laws.proofs.Common.{◌≡◌, ◌≤◌}
use Rattle.sc_core.specs.Prelude.{Out, allocated, allocated_at, count_in, elements_allocated, freed, placed, released}
use Rattle.sc_core.specs.Prelude.{spans_of}
use Rattle.sc_core.specs.declared.value.Value.TheVariants.{Null, Ptr}
use Rattle.sc_zone.specs.Prelude.{least_free}
use Rattle.sc_core_laws.proofs.Growing.{same, stays, no_turn, earlier, then_goes, turn_goes, then_then}
use Rattle.sc_core_laws.proofs.Expressions.{Keeps, alike, blamed}

-- ONE TREE AFTER ANOTHER
abbrev pub bind : {V W : Type 0} → InteractionTree V → (V → InteractionTree W) → InteractionTree W
bind (Gives v) next = next v
bind (Blames cause line) next = Blames cause line
bind (Reads go) next = Reads (λ blocks. bind (go blocks) next)
bind (Stores blocks go) next = Stores blocks (bind go next)
bind (Spends go) next = Spends (bind go next)
bind (Asks target args go) next = Asks target args (λ v. bind (go v) next)
bind Halts next = Halts

then_same : {V W : Type 0} (s : State) (o : Piece V) → Gone s o → (k l : V → State → Piece W) →
    ((v : V) (t : State) → Grown s t → k v t ≡ l v t) → and_then o k ≡ and_then o l
then_same s o g k l h = grind (arith, h)

take_grown : {A : Type 0} (route : Route) (s : State) (f g : Does A) →
    ((a : A) (t : State) → Grown s t → f a t ≡ g a t) → (a : A) (t : State) → Grown s t →
    take route f a t ≡ take route g a t
take_grown route s f g h a t up = grind (arith, h)

pub follow_grown : {A : Type 0} (route : Exit → Route) (s : State) (o : Piece (Left A)) (f g : Does A) → Gone s o →
    ((a : A) (t : State) → Grown s t → f a t ≡ g a t) → follow route o f ≡ follow route o g
follow_grown route s o f g gone h = then_same s o gone _ _ (λ left t up. take_grown _ s f g h _ t up)

pub turn_same : {W : Type 0} (m : ℕ) (s : State) (k l : State → Piece W) → m ≡ s.turns →
    ((t : State) → t.turns < s.turns → k t ≡ l t) → and_then (turn_of m s) (λ _. k) ≡ and_then (turn_of m s) (λ _. l)
turn_same m s k l is h = grind (arith, is, h)

pub played_bind : {V W : Type 0} (tree : InteractionTree V) (next : V → InteractionTree W) (by : Calls) (here : Here)
    (s : State) → played (bind tree next) by here s ≡ and_then (played tree by here s)
    (λ v t. played (next v) by here t)
played_bind (Gives v) next by here s = refl
played_bind (Blames cause line) next by here s = refl
played_bind (Reads go) next by here s = played_bind (go (s.memory here.comp)) next by here s
played_bind (Stores blocks go) next by here s = played_bind go next by here _
played_bind (Spends go) next by here s = (λ i. and_then (turn s) (λ _ t. played_bind go next by here t i))
    ∙ sym (then_then (turn s) (λ _ t. played go by here t) _)
played_bind (Asks target args go) next by here s =
    (λ i. and_then (by here.comp target args s) (λ v t. played_bind (go v) next by here t i))
    ∙ sym (then_then (by _ target args s) (λ v t. played (go v) by here t) (λ v t. played (next v) by here t))
played_bind Halts next by here s = refl

pub played_goes : {V : Type 0} (tree : InteractionTree V) (by : Calls) (here : Here) → GoFrom here.comp by →
    Goes (played tree by here)
played_goes (Gives v) by here go s = stays v s
played_goes (Blames cause line) by here go s = record { grown = same s; stop = tt }
played_goes (Reads next) by here go s = played_goes (next (s.memory _)) by here go s
played_goes (Stores blocks next) by here go s =
    earlier s (with_memory _ blocks s) _ (unseen s) (played_goes next by here go _) where
      unseen : (s : State) → Grown s (with_memory here.comp blocks s)
      unseen s =
          record { events = (same s).events; frames = (same s).frames; late = (same s).late; turns = (same s).turns }
played_goes (Spends next) by here go s =
    then_goes s (turn s) (λ _. played next by here) (turn_goes s) (λ u. played_goes next by here go)
played_goes (Asks target args next) by here go s = then_goes s (by here.comp target args s)
    (λ v. played (next v) by here) (go target args s) (λ v. played_goes (next v) by here go)
played_goes Halts by here go s = no_turn s

-- what lasts longer lasts
pub lasts_most : {V : Type 0} (n m : ℕ) (tree : InteractionTree V) → m ≤ n → Lasts n tree → Lasts m tree
lasts_most n zero tree le h = tt
lasts_most zero (suc m) tree le h = absurd (omega (arith, le))
lasts_most (suc n) (suc m) (Reads go) le h = λ blocks. lasts_most (suc n) _ (go blocks) le (h blocks)
lasts_most (suc n) (suc m) (Stores blocks go) le h = lasts_most _ _ go le h
lasts_most (suc n) (suc m) (Spends go) le h = lasts_most n m go (omega (arith, le)) h
lasts_most (suc n) (suc m) (Asks target args go) le h = λ v. lasts_most _ (suc m) (go v) le (h v)
lasts_most (suc n) (suc m) Halts le h = absurd h
lasts_most (suc n) (suc m) _ le h = tt

pub lasts_bind : {V W : Type 0} (n : ℕ) (tree : InteractionTree V) (next : V → InteractionTree W) → Lasts n tree →
    ((v : V) → Lasts n (next v)) → Lasts n (bind tree next)
lasts_bind zero tree next h k = tt
lasts_bind (suc n) (Gives v) next h k = k v
lasts_bind (suc n) (Blames cause line) next h k = tt
lasts_bind (suc n) (Reads go) next h k = λ blocks. lasts_bind (suc n) (go blocks) next (h blocks) k
lasts_bind (suc n) (Stores blocks go) next h k = lasts_bind (suc n) go next h k
lasts_bind (suc n) (Spends go) next h k =
    lasts_bind n go next h (λ v. lasts_most (suc n) n (next v) (omega arith) (k v))
lasts_bind (suc n) (Asks target args go) next h k = λ v. lasts_bind (suc n) (go v) next (h v) k
lasts_bind (suc n) Halts next h k = absurd h

-- WHAT A RUN CARRIES
abbrev pub on_route : {A : Type 0} → Route → (A → InteractionTree (Left A)) → A → InteractionTree (Left A)
on_route On go a = go a
on_route (Out exit) go a = Gives (record { exit = exit; carried = a })

abbrev pub trail : {A : Type 0} → (Exit → Route) → InteractionTree (Left A) → (A → InteractionTree (Left A)) →
    InteractionTree (Left A)
trail route tree go = bind tree (λ left. on_route (route left.exit) go left.carried)

-- the rounds of a loop
abbrev pub round_trees : {A : Type 0} → ℕ → (A → InteractionTree (Left A)) → (A → InteractionTree (Left A)) →
    (A → InteractionTree (Left A)) → A → InteractionTree (Left A)
round_trees zero head body next a = Halts
round_trees (suc n) head body next a = trail in_loop (head a)
    (λ a. Spends (trail in_loop (body a) (λ a. trail in_loop (next a) (round_trees n head body next))))

module _ {A : Type 0} (here : Here) where
  lasts_route : (n : ℕ) (route : Route) (go : A → InteractionTree (Left A)) → ((a : A) → Lasts n (go a)) → (a : A) →
      Lasts n (on_route route go a)
  lasts_route n route go h a = grind (arith, h)

  lasts_trail : (n : ℕ) (route : Exit → Route) (tree : InteractionTree (Left A)) (go : A → InteractionTree (Left A)) →
      Lasts n tree → ((a : A) → Lasts n (go a)) → Lasts n (trail route tree go)
  lasts_trail n route tree go h k = lasts_bind n tree _ h (λ left. lasts_route n _ go k _)

  module _ (by : Calls) (goes : GoFrom here.comp by) where
    take_same : (route : Route) (s : State) (f : Does A) (g : A → InteractionTree (Left A)) →
        ((a : A) (t : State) → Grown s t → f a t ≡ played (g a) by here t) → (a : A) (t : State) → Grown s t →
        take route f a t ≡ played (on_route route g a) by here t
    take_same route s f g h a t up = grind (arith, h)

    follow_same : (route : Exit → Route) (s : State) (o : Piece (Left A)) (tree : InteractionTree (Left A)) (f : Does A)
        (g : A → InteractionTree (Left A)) → o ≡ played tree by here s →
        ((a : A) (t : State) → Grown s t → f a t ≡ played (g a) by here t) →
        follow route o f ≡ played (trail route tree g) by here s
    follow_same route s o tree f g is h = ap (λ x. follow route x f) is ∙ then_same s (played tree by here s)
        (played_goes tree by here goes s) (λ left t. take _ f _ t) (λ left t. played (on_route _ g _) by here t)
        (λ left t up. take_same _ s f g h _ t up) ∙ sym (played_bind tree _ by here s)

-- PLAYS
-- what lasts a turn lasts however many
from_one : (P : ℕ → Type 0) → P zero → ((n : ℕ) → P (suc n)) → (n : ℕ) → P n
from_one P none some zero = none
from_one P none some (suc n) = some n

pub plays_reached : {V : Type 0} (here : Here) (v : V) → Plays here (λ by. Reached v) (λ n. Gives v)
plays_reached here v = record { lasts = from_one (λ n. Lasts n (Gives v)) tt (λ n. tt); is = λ n by goes s few. refl }

pub plays_then : {V W : Type 0} (here : Here) (f : Doing V) (k : V → Doing W) (tree : ℕ → InteractionTree V)
    (next : V → ℕ →
    InteractionTree W) → Plays here f tree → ((v : V) → Plays here (k v) (next v)) →
    Plays here (λ by s. and_then (f by s) (λ v t. k v by t)) (λ n. bind (tree n) (λ v. next v n))
plays_then here f k tree next h x = record {
  lasts = λ n. lasts_bind n (tree n) (λ v. next v n) (h.lasts n) (λ v. (x v).lasts n);
  is = λ n by goes s few. ap (λ o. and_then o (λ v t. k v by t)) (h.is n by goes s few) ∙ then_same s
      (played (tree n) by here s) (played_goes (tree n) by here goes s) (λ v t. k v by t)
      (λ v t. played (next v n) by here t) (λ v t up. (x v).is n by goes t (omega (arith, few, up.turns)))
      ∙ sym (played_bind (tree n) (λ v. next v n) by here s);
}

abbrev of_result : {V : Type 0} → ℕ → Result V Cause → InteractionTree V
of_result line (Ok v) = Gives v
of_result line (Err cause) = Blames cause line

pub plays_computed : {V : Type 0} (here : Here) (line : ℕ) (e : Blocks → Result V Cause) → Plays here
    (λ by s. computed here line (e (s.memory here.comp)) s) (λ n. Reads (λ blocks. of_result line (e blocks)))
plays_computed {V} here line e = record {
  lasts = from_one (λ n. Lasts n (Reads (λ blocks. of_result line (e blocks)))) tt
      (λ n blocks. lasts_result (suc n) (e blocks));
  is = λ n by goes s few. is (e (s.memory _)) by s;
} where
  lasts_result : (n : ℕ) (r : Result V Cause) → Lasts n (of_result line r)
  lasts_result n r = grind arith

  is : (r : Result V Cause) (by : Calls) (s : State) → computed here line r s ≡ played (of_result line r) by here s
  is r by s = grind arith

pub plays_stored : {V : Type 0} (here : Here) (v : V) (blocks : Blocks) →
    Plays here (λ by s. Reached v (with_memory here.comp blocks s)) (λ n. Stores blocks (Gives v))
plays_stored {V} here v blocks =
    record { lasts = from_one (λ n. Lasts n (Stores blocks (Gives v))) tt (λ n. tt); is = λ n by goes s few. refl }

-- a new block where the zone has a place for it
abbrev pub placed_tree : Blocks → (words : ℕ) → Option ℕ → InteractionTree Value
placed_tree blocks words None = Gives Null
placed_tree blocks words (Some place) =
    Stores (blocks ++ allocated_at place words ∷ []) (Gives (Ptr (record { block = length blocks; index = 0 })))

abbrev pub allocated_tree : (words : ℕ) → InteractionTree Value
allocated_tree words = Reads (λ blocks. placed_tree blocks words (least_free (spans_of blocks) words))

pub plays_allocated : (here : Here) (words : ℕ) → Plays here (λ by. allocated here words) (λ n. allocated_tree words)
plays_allocated here words = record {
  lasts = from_one (λ n. Lasts n (allocated_tree words)) tt
      (λ n blocks. lasts_placed n blocks (least_free (spans_of blocks) words));
  is = λ n by goes s few. is (least_free (spans_of (s.memory here.comp)) words) by s;
} where
  lasts_placed : (n : ℕ) (blocks : Blocks) (o : Option ℕ) → Lasts (suc n) (placed_tree blocks words o)
  lasts_placed n blocks None = tt
  lasts_placed n blocks (Some place) = tt

  is : (o : Option ℕ) (by : Calls) (s : State) →
      placed here words o s ≡ played (placed_tree (s.memory here.comp) words o) by here s
  is None by s = refl
  is (Some place) by s = refl

pub plays_call : (here : Here) (target : CallTarget) (args : List Value) →
    Plays here (λ by. by here.comp target args) (λ n. Asks target args (λ v. Gives v))
plays_call here target args = grind arith

-- doings with what a run carries
abbrev pub DoingWith : Type 0 → Type 0
DoingWith A = Calls → Does A

module _ {A : Type 0} (here : Here) where
  abbrev pub PlaysWith : DoingWith A → (A → ℕ → InteractionTree (Left A)) → Type 0
  PlaysWith f tree = (a : A) → Plays here (λ by. f by a) (tree a)

  module _ (f f2 f3 : DoingWith A) (head body next : A → ℕ → InteractionTree (Left A)) (h : PlaysWith f head)
      (b : PlaysWith f2 body) (x : PlaysWith f3 next) (most : ℕ) where
    abbrev pub trees : ℕ → A → InteractionTree (Left A)
    trees n = round_trees n (λ a. head a most) (λ a. body a most) (λ a. next a most)

    lasts_rounds : (n : ℕ) → n ≤ most → (a : A) → Lasts n (trees n a)
    lasts_rounds zero le a = tt
    lasts_rounds (suc n) le a =
        let rest = lasts_rounds n (omega (arith, le)) in
        lasts_trail here (suc n) in_loop (head a most) _ (lasts_most most _ (head a most) le ((h a).lasts most)) (λ a.
        lasts_trail here n in_loop (body a most) _ (lasts_most most n _ (omega (arith, le)) ((b a).lasts most)) (λ a.
        lasts_trail here n in_loop _ _ (lasts_most most n _ (omega (arith, le)) ((x a).lasts most)) rest))

    pub rounds_are : (by : Calls) → GoFrom here.comp by → (n m : ℕ) (a : A) (s : State) → s.turns < n → s.turns < m →
        s.turns < most → rounds n (f by) (f2 by) (f3 by) a s ≡ played (trees m a) by here s
    rounds_are by goes zero m a s few few' small = absurd (omega (arith, few))
    rounds_are by goes (suc n) zero a s few few' small = absurd (omega (arith, few'))
    rounds_are by goes (suc n) (suc m) a s few few' small =
        follow_same here by goes in_loop s (f by a s) (head a most) _ _ ((h a).is most by goes s small) (λ a t up.
        turn_same t.turns t (λ t. follow in_loop (f2 by a t) (λ a s. follow in_loop (f3 by a s) (rounds n (f by) _ _)))
        (λ t. played (trail in_loop (body a most) (λ a. trail in_loop (next a most) (trees m))) by here t) refl
        (λ w less. follow_same here by goes in_loop w (f2 by a w) (body a most) _ _
        ((b a).is most by goes w (omega (arith, small, up.turns, less))) (λ a u up2. follow_same here by goes in_loop u
        (f3 by a u) (next a most) _ _ ((x a).is most by goes u (omega (arith, small, up.turns, less, up2.turns)))
        (λ a z up3. rounds_are by goes n m a z (omega (arith, few, up.turns, less, up2.turns, up3.turns))
        (omega (arith, few', up.turns, less, up2.turns, up3.turns))
        (omega (arith, small, up.turns, less, up2.turns, up3.turns))))))

  pub plays_loop : (f f2 f3 : DoingWith A) (head body next : A → ℕ → InteractionTree (Left A)) → PlaysWith f head →
      PlaysWith f2 body → PlaysWith f3 next → PlaysWith (λ by. loop (f by) (f2 by) (f3 by))
      (λ a n. round_trees n (λ a. head a n) (λ a. body a n) (λ a. next a n) a)
  plays_loop f f2 f3 head body next h b x a = record {
    lasts = λ n. lasts_rounds f f2 f3 head body next h b x n n (omega arith) a;
    is = λ n by goes s few. rounds_are f f2 f3 head body next h b x n by goes (suc s.turns) n a s (omega arith) few few;
  }

-- TREES THAT ARE ALIKE
module _ (Soft : Cause → Type 0) where
  pub alike_bind : {V W : Type 0} (tree other_tree : InteractionTree V) (next next' : V → InteractionTree W) →
      Alike Soft tree other_tree →
      ((v : V) → Alike Soft (next v) (next' v)) → Alike Soft (bind tree next) (bind other_tree next')
  alike_bind (Gives v) other_tree next next' is k = subst (λ x. Alike Soft (next v) (bind x next')) (sym is) (k v)
  alike_bind (Blames cause line) other_tree next next' (inl soft) k = inl soft
  alike_bind (Blames cause line) other_tree next next' (inr is) k = inr (ap (λ x. bind x next') is)
  alike_bind (Reads go) other_tree next next' h k = (
    (λ blocks. bind (h.0 blocks) next'),
    ap (λ x. bind x next') h.1,
    (λ blocks. alike_bind (go blocks) (h.0 blocks) next next' (h.2 blocks) k),
  )
  alike_bind (Stores blocks go) other_tree next next' h k =
      (bind h.0 next', ap (λ x. bind x next') h.1, alike_bind go h.0 next next' h.2 k)
  alike_bind (Spends go) other_tree next next' h k =
      (bind h.0 next', ap (λ x. bind x next') h.1, alike_bind go h.0 next next' h.2 k)
  alike_bind (Asks target args go) other_tree next next' h k =
      ((λ v. bind (h.0 v) next'), ap (λ x. bind x next') h.1, λ v. alike_bind (go v) (h.0 v) next next' (h.2 v) k)
  alike_bind Halts other_tree next next' is k = ap (λ x. bind x next') is

  alike_result : {V : Type 0} (line : ℕ) (r r' : Result V Cause) → Keeps Soft V r r' →
      Alike Soft (of_result line r) (of_result line r')
  alike_result {V} line r r' (alike is) =
      subst (λ x. Alike Soft (of_result line r) (of_result line x)) (sym is) (itself r) where
        itself : (r : Result V Cause) → Alike Soft (of_result line r) (of_result line r)
        itself r = grind arith
  alike_result {V} line r r' (blamed cause soft is) =
      subst (λ x. Alike Soft (of_result line x) (of_result line r')) (sym is) (inl soft)

  module _ {A : Type 0} where
    alike_route : (route : Route) (go go' : A → InteractionTree (Left A)) → ((a : A) → Alike Soft (go a) (go' a)) →
        (a : A) → Alike Soft (on_route route go a) (on_route route go' a)
    alike_route route go go' h a = grind (arith, h)

    alike_trail : (route : Exit → Route) (tree other_tree : InteractionTree (Left A))
        (go go' : A → InteractionTree (Left A)) →
        Alike Soft tree other_tree → ((a : A) → Alike Soft (go a) (go' a)) →
        Alike Soft (trail route tree go) (trail route other_tree go')
    alike_trail route tree other_tree go go' h k = alike_bind tree other_tree _ _ h (λ left. alike_route _ go go' k _)

    alike_rounds : (n : ℕ) (f g f2 g2 f3 g3 : A → InteractionTree (Left A)) → ((a : A) → Alike Soft (f a) (g a)) →
        ((a : A) → Alike Soft (f2 a) (g2 a)) → ((a : A) → Alike Soft (f3 a) (g3 a)) → (a : A) →
        Alike Soft (round_trees n f f2 f3 a) (round_trees n g g2 g3 a)
    alike_rounds zero f g f2 g2 f3 g3 h b x a = refl
    alike_rounds (suc n) f g f2 g2 f3 g3 h b x a =
        alike_trail in_loop (f a) (g a) _ _ (h a) (λ a. (
          (trail in_loop (g2 a) _),
          refl,
          alike_trail in_loop (f2 a) (g2 a) _ _ (b a)
              (λ a. alike_trail in_loop (f3 a) (g3 a) _ _ (x a) (alike_rounds n f g f2 g2 f3 g3 h b x)),
        ))

  -- DOINGS THAT MATCH
  module _ (here : Here) where
    pub match_reached : {V : Type 0} (v : V) → Match Soft here (λ by. Reached v) (λ by. Reached v)
    match_reached v = record {
      tree = λ n. Gives v;
      other_tree = λ n. Gives v;
      first = plays_reached here v;
      second = plays_reached here v;
      alike = λ n. refl;
    }

    pub match_then : {V W : Type 0} (f g : Doing V) (k l : V → Doing W) → Match Soft here f g →
        ((v : V) → Match Soft here (k v) (l v)) →
        Match Soft here (λ by s. and_then (f by s) (λ v t. k v by t)) (λ by s. and_then (g by s) (λ v t. l v by t))
    match_then f g k l h x = record {
      tree = λ n. bind (h.tree n) (λ v. (x v).tree n);
      other_tree = λ n. bind (h.other_tree n) (λ v. (x v).other_tree n);
      first = plays_then here f k h.tree (λ v. (x v).tree) h.first (λ v. (x v).first);
      second = plays_then here g l h.other_tree (λ v. (x v).other_tree) h.second (λ v. (x v).second);
      alike = λ n. alike_bind (h.tree n) (h.other_tree n) _ _ (h.alike n) (λ v. (x v).alike n);
    }

    -- what is computed from the blocks of the compartment, or blame
    pub match_computed : {V : Type 0} (line : ℕ) (e e' : Blocks → Result V Cause) →
        ((blocks : Blocks) → Keeps Soft V (e blocks) (e' blocks)) → Match Soft here
        (λ by s. computed here line (e (s.memory here.comp)) s) (λ by s. computed here line (e' (s.memory here.comp)) s)
    match_computed line e e' h = record {
      tree = λ n. Reads _;
      other_tree = λ n. Reads _;
      first = plays_computed here line e;
      second = plays_computed here line e';
      alike = λ n. ((λ blocks. of_result line _), refl, λ blocks. alike_result line _ _ (h blocks));
    }

    pub match_stored : {V : Type 0} (v : V) (blocks : Blocks) → Match Soft here
        (λ by s. Reached v (with_memory here.comp blocks s)) (λ by s. Reached v (with_memory here.comp blocks s))
    match_stored v blocks = record {
      tree = λ n. Stores blocks _;
      other_tree = λ n. Stores blocks _;
      first = plays_stored here v blocks;
      second = plays_stored here v blocks;
      alike = λ n. (Gives v, refl, refl);
    }

    alike_placed : (blocks : Blocks) (words : ℕ) (o : Option ℕ) →
        Alike Soft (placed_tree blocks words o) (placed_tree blocks words o)
    alike_placed blocks words None = refl
    alike_placed blocks words (Some place) = (Gives _, refl, refl)

    -- cells of the zone of the compartment
    pub match_allocated : (words : ℕ) → Match Soft here (λ by. allocated here words) (λ by. allocated here words)
    match_allocated words = record {
      tree = λ n. allocated_tree words;
      other_tree = λ n. allocated_tree words;
      first = plays_allocated here words;
      second = plays_allocated here words;
      alike = λ n. (
        (λ blocks. placed_tree blocks words (least_free (spans_of blocks) words)),
        refl,
        (λ blocks. alike_placed blocks words (least_free (spans_of blocks) words)),
      );
    }

    -- as many elements as a value says
    pub match_elements : (v : Value) (words line : ℕ) → Match Soft here
        (λ by. elements_allocated here v words line) (λ by. elements_allocated here v words line)
    match_elements v words line =
        match_then _ _ (λ count by. allocated here (count * words)) (λ count by. allocated here (count * words))
        (match_computed line (λ blocks. count_in v) (λ blocks. count_in v) (λ blocks. alike refl))
        (λ count. match_allocated (count * words))

    pub match_call : (target : CallTarget) (args : List Value) →
        Match Soft here (λ by. by here.comp target args) (λ by. by here.comp target args)
    match_call target args = record {
      tree = λ n. Asks target args _;
      other_tree = λ n. Asks target args _;
      first = plays_call here target args;
      second = plays_call here target args;
      alike = λ n. ((λ v. Gives v), refl, λ v. refl);
    }

    pub match_if : {V : Type 0} (b : Bool) (f g f' g' : Doing V) → Match Soft here f g → Match Soft here f' g' →
        Match Soft here (λ by s. if b then f by s else f' by s) (λ by s. if b then g by s else g' by s)
    match_if true f g f' g' h k = h
    match_if false f g f' g' h k = k

    module _ {A : Type 0} where
      abbrev pub MatchWith : DoingWith A → DoingWith A → Type 0
      MatchWith f g = (a : A) → Match Soft here (λ by. f by a) (λ by. g by a)

      pub match_leave : (exit : Exit) → MatchWith (λ by. leave exit) (λ by. leave exit)
      match_leave exit a = match_reached _

      match_take : (route : Route) (k l : DoingWith A) → MatchWith k l →
          MatchWith (λ by. take route (k by)) (λ by. take route (l by))
      match_take On k l h a = h a
      match_take (Out exit) k l h a = match_reached _

      pub match_follow : (route : Exit → Route) (f g : Doing (Left A)) (k l : DoingWith A) → Match Soft here f g →
          MatchWith k l → Match Soft here (λ by s. follow route (f by s) (k by)) (λ by s. follow route (g by s) (l by))
      match_follow route f g k l h x = match_then f g _ _ h (λ left. match_take (route left.exit) k l x left.carried)

      -- a value at a place
      pub match_store : (q v : Value) (line : ℕ) → MatchWith (λ by. stored here q v line) (λ by. stored here q v line)
      match_store q v line a = match_then _ _ (λ blocks by t. leave Next a _) (λ blocks by t. leave Next a _)
          (match_computed line (λ blocks. store blocks q v) (λ blocks. store blocks q v) (λ blocks. alike refl))
          (λ blocks. match_stored _ blocks)

      -- a value is freed
      pub match_released : (v : Value) (line : ℕ) → MatchWith (λ by. released here v line) (λ by. released here v line)
      match_released v line a = match_then _ _ (λ blocks by t. leave Next a _) (λ blocks by t. leave Next a _)
          (match_computed line (λ blocks. freed blocks v) (λ blocks. freed blocks v) (λ blocks. alike refl))
          (λ blocks. match_stored _ blocks)

      -- what each of a list does, in order
      pub match_all : {X : Type 0} (f g : X → DoingWith A) (xs : List X) → Each (λ x. MatchWith (f x) (g x)) xs →
          MatchWith (λ by. all_do (map (λ x. f x by) xs)) (λ by. all_do (map (λ x. g x by) xs))
      match_all f g [] h a = match_leave Next a
      match_all f g (x ∷ xs) h a = match_follow in_order (λ by. f x by a) (λ by. g x by a) (λ by. all_do (map _ xs))
          (λ by. all_do (map _ xs)) (h.0 a) (match_all f g xs h.1)

      pub match_loop : (f g f2 g2 f3 g3 : DoingWith A) → MatchWith f g → MatchWith f2 g2 → MatchWith f3 g3 →
          MatchWith (λ by. loop (f by) (f2 by) (f3 by)) (λ by. loop (g by) (g2 by) (g3 by))
      match_loop f g f2 g2 f3 g3 h b x a = record {
        tree = λ n. round_trees n (λ a. (h a).tree n) (λ a. (b a).tree n) (λ a. (x a).tree n) a;
        other_tree = λ n. round_trees n (λ a. (h a).other_tree n) (λ a. (b a).other_tree n) (λ a. (x a).other_tree n) a;
        first = plays_loop here f f2 f3 _ _ _ (λ a. (h a).first) (λ a. (b a).first) (λ a. (x a).first) a;
        second = plays_loop here g g2 g3 _ _ _ (λ a. (h a).second) (λ a. (b a).second) (λ a. (x a).second) a;
        alike = λ n. alike_rounds n _ _ _ _ _ _ (λ a. (h a).alike n) (λ a. (b a).alike n) (λ a. (x a).alike n) a;
      }
