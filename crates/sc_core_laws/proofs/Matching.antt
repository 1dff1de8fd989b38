-- Functions that match are related in every relation that the combinators keep.
use Rattle.sc_core_laws.proofs.Common.{Alike, Asks, Blamed, Blames, Blocks, Calls, Cause, Denotations, DenotationsMatch}
use Rattle.sc_core_laws.proofs.Common.{Does, Doing, Err, Function, FunctionsMatch, Gives, GoFrom, Goes, Gone, Halts}
use Rattle.sc_core_laws.proofs.Common.{Here, InteractionTree, Lasts, Match, Meets, Never, None, Obedient, Ok, Option}
use Rattle.sc_core_laws.proofs.Common.{Piece, Plays, Reached, Reads, Roles, Some, Spends, State, Stopped, Stores, Value}
use Rattle.sc_core_laws.proofs.Common.{[], and_then, arith, follow, function, in_loop, inl, inr, loop, nobody, played}
use Rattle.sc_core_laws.proofs.Common.{refl, rounds, run_step, scripted_step, subst, suc, sym, turn, with_memory, zero}
use Rattle.sc_core_laws.proofs.Common.{ℕ, ◌+◌, ◌<◌, ◌∙◌, ◌≡◌}
use Rattle.sc_core_laws.proofs.Growing.{stays, FunctionGoes, DenotationsGo, StepGoes, run_step_goes, scripted_goes}
use Rattle.sc_core_laws.proofs.Related.{Related, Kept, KeptAt, RelatedCalls, RelatedFunctions, RelatedDenotations}
use Rattle.sc_core_laws.proofs.Expressions.{alike}
use Rattle.sc_core_laws.proofs.InteractionTrees.{played_goes, DoingWith, MatchWith, follow_grown, turn_same, trees}
use Rattle.sc_core_laws.proofs.InteractionTrees.{rounds_are}

module _ (Soft : Cause → Type 0) (P : State → State → Type 0) (R : (V : Type 0) → Piece V → Piece V → Type 0)
    (Good : Here → Type 0) (kept : Kept P R) (at : (here : Here) → Good here → KeptAt P R Soft here) where
  module _ (C D : Calls) (here : Here) (good : Good here) (made : RelatedCalls P R Good here.comp C D) where
    first_go : GoFrom here.comp C
    first_go target args = (made target args).first

    second_go : GoFrom here.comp D
    second_go target args = (made target args).second

    -- trees that are alike come to related pieces
    played_related : {V : Type 0} (n : ℕ) (tree other_tree : InteractionTree V) → Lasts n tree →
        Alike Soft tree other_tree →
        (s s' : State) → s.turns < n → P s s' → R V (played tree C here s) (played other_tree D here s')
    played_related zero tree other_tree lasts like s s' few p = absurd (omega (arith, few))
    played_related {V} (suc n) (Gives v) other_tree lasts is s s' few p =
        subst (λ x. R V (Reached v s) (played x D here s')) (sym is) (kept.reached V v s s' p)
    played_related {V} (suc n) (Blames cause line) other_tree lasts (inl soft) s s' few p =
        (at here good).passed V cause line soft s s' p (played other_tree D here s')
        (played_goes other_tree D here second_go s')
    played_related {V} (suc n) (Blames cause line) other_tree lasts (inr is) s s' few p =
        subst (λ x. R V (Stopped (Blamed here.comp cause line) s) (played x D here s')) (sym is)
        ((at here good).computing V line (λ blocks. Err cause) (λ blocks. Err cause) (λ blocks. alike refl) s s' p)
    played_related {V} (suc n) (Reads go) other_tree lasts like s s' few p = subst
        (λ x. R V (played (go (s.memory here.comp)) C here s) (played x D here s')) (sym like.1) (kept.after Blocks V s
        s' (Reached (s.memory here.comp) s) (Reached (s'.memory here.comp) s') (λ blocks. played (go blocks) C here)
        (λ blocks. played (like.0 blocks) D here) p (stays (s.memory here.comp) s) (stays (s'.memory here.comp) s')
        (λ blocks. played_goes (go blocks) C here first_go) (λ blocks. played_goes (like.0 blocks) D here second_go)
        ((at here good).computing Blocks 0 (λ blocks. Ok blocks) (λ blocks. Ok blocks) (λ blocks. alike refl) s s' p)
        (λ blocks t t' up up' q. played_related (suc n) (go blocks) (like.0 blocks) (lasts blocks) (like.2 blocks) t t'
        (omega (arith, few, up.turns)) q))
    played_related {V} (suc n) (Stores blocks go) other_tree lasts like s s' few p =
        subst (λ x. R V (played go C here (with_memory here.comp blocks s)) (played x D here s')) (sym like.1)
        (played_related (suc n) go like.0 lasts like.2 (with_memory here.comp blocks s)
        (with_memory here.comp blocks s') few ((at here good).stored blocks s s' p))
    played_related {V} (suc n) (Spends go) other_tree lasts like s s' few p =
        subst (λ x. R V (and_then (turn s) (λ _. played go C here)) (played x D here s')) (sym like.1)
        (kept.turned V (λ _. played go C here) (λ _. played like.0 D here) (λ _. played_goes go C here first_go)
        (λ _. played_goes like.0 D here second_go) s s' p (λ t t' less less' q.
        played_related n go like.0 lasts like.2 t t' (omega (arith, few, less)) q))
    played_related {V} (suc n) (Asks target args go) other_tree lasts like s s' few p =
        subst (λ x. R V (and_then (C here.comp target args s) (λ v. played (go v) C here)) (played x D here s'))
        (sym like.1) (kept.after (Option Value) V s s' (C here.comp target args s) (D here.comp target args s')
        (λ v. played (go v) C here) (λ v. played (like.0 v) D here) p ((made target args).first s)
        ((made target args).second s') (λ v. played_goes (go v) C here first_go)
        (λ v. played_goes (like.0 v) D here second_go) ((made target args).both s s' p) (λ v t t' up up' q.
        played_related (suc n) (go v) (like.0 v) (lasts v) (like.2 v) t t' (omega (arith, few, up.turns)) q))
    played_related (suc n) Halts other_tree lasts like s s' few p = absurd lasts

  related_functions : (f g : Function) → FunctionsMatch Soft f g → RelatedFunctions P R Good f g
  related_functions f g match = record { cells = match.cells; frame_size = match.frame_size; does = does } where
    does : (C D : Calls) (here : Here) → Good here → RelatedCalls P R Good here.comp C D →
        Related P R (Option Value) (f.does C here) (g.does D here)
    does C D here good made =
        let m = match.does here in
        let go : GoFrom here.comp C = first_go C D here good made in
        let go' : GoFrom here.comp D = second_go C D here good made in
        let first_is : (n : ℕ) (s : State) → s.turns < n → f.does C here s ≡ played (m.tree n) C here s =
        λ n s few. m.first.is n C go s few in
        let second_is : (n : ℕ) (s : State) → s.turns < n → g.does D here s ≡ played (m.other_tree n) D here s =
        λ n s few. m.second.is n D go' s few in
        record {
          first = λ s. subst (Gone s) (sym (first_is (suc s.turns) s (omega arith)))
              (played_goes (m.tree (suc s.turns)) C here go s);
          second = λ s. subst (Gone s) (sym (second_is (suc s.turns) s (omega arith)))
              (played_goes (m.other_tree (suc s.turns)) D here go' s);
          both = λ s s' p. (
              let n : ℕ = suc (s.turns + s'.turns) in
              subst (λ x. R (Option Value) x (g.does D here s')) (sym (first_is n s (omega arith)))
              (subst (R (Option Value) (played (m.tree n) C here s)) (sym (second_is n s' (omega arith)))
              (played_related C D here good made n (m.tree n) (m.other_tree n) (m.first.lasts n) (m.alike n) s s'
              (omega arith) p))
              );
        }

  both_there : (f g : Option Function) → Meets (FunctionsMatch Soft) f g → Meets (RelatedFunctions P R Good) f g
  both_there None None h = tt
  both_there (Some f) (Some g) h = related_functions f g h
  both_there _ _ h = absurd h

  pub related_denotations : (L M : Denotations) → DenotationsMatch Soft L M → RelatedDenotations P R Good L M
  related_denotations L M match = record {
    interfaces = match.interfaces;
    functions = λ comp number. both_there _ _ (match.functions comp number);
    entered = match.entered;
  }

-- WHAT MATCHES ONLY GOES ON
module _ (Soft : Cause → Type 0) where
  tree_goes : {V : Type 0} (here : Here) (does : Doing V) (tree : ℕ → InteractionTree V) → Plays here does tree →
      (by : Calls) → GoFrom here.comp by → Goes (does by)
  tree_goes here does tree plays by go s =
      subst (Gone s) (sym (plays.is (suc s.turns) by go s (omega arith))) (played_goes (tree _) by here go s)

  pub match_goes : {V : Type 0} (here : Here) (does other : Doing V) → Match Soft here does other → (by : Calls) →
      GoFrom here.comp by → Goes (does by)
  match_goes here does other match = tree_goes here does match.tree match.first

  goes_here : (f g : Option Function) → Meets (FunctionsMatch Soft) f g → (h : Function) → f ≡ Some h → FunctionGoes h
  goes_here None None meets h is = absurd (cc)
  goes_here (Some f) (Some g) meets h is = λ by go here.
      (let equal : f ≡ h = cc in subst (λ x. Goes (x.does by here)) equal)
      (tree_goes here _ (meets.does here).tree (meets.does here).first by (go _))
  goes_here _ _ meets h is = absurd meets

  goes_there : (f g : Option Function) → Meets (FunctionsMatch Soft) f g → (h : Function) → g ≡ Some h → FunctionGoes h
  goes_there None None meets h is = absurd (cc)
  goes_there (Some f) (Some g) meets h is = λ by go here.
      (let equal : g ≡ h = cc in subst (λ x. Goes (x.does by here)) equal)
      (tree_goes here _ (meets.does here).other_tree (meets.does here).second by (go _))
  goes_there _ _ meets h is = absurd meets

  module _ (L M : Denotations) (match : DenotationsMatch Soft L M) where
    pub first_goes : DenotationsGo L
    first_goes comp number = goes_here _ (function M comp number) (match.functions comp number)

    pub second_goes : DenotationsGo M
    second_goes comp number = goes_there (function L comp number) _ (match.functions comp number)

-- where nobody performs: a step of these roles is the plain one
abbrev pub idle : Roles
idle = record { scripted = nobody; rows = λ comp. [] }

module _ (denotations : Denotations) (obedient : Obedient denotations) where
  pub denotations_go : DenotationsGo denotations
  denotations_go = first_goes Never denotations denotations obedient

  pub run_goes_on : StepGoes (run_step denotations)
  run_goes_on body goes = run_step_goes denotations body goes denotations_go

  pub scripted_goes_on : (roles : Roles) → StepGoes (scripted_step denotations roles (run_step denotations))
  scripted_goes_on roles = scripted_goes denotations roles _ run_goes_on

-- A loop whose parts are trees is a round, and then the loop again.

-- a round, and then something
abbrev pub one_round : {A : Type 0} → Does A → Does A → Does A → Does A → Does A
one_round head body next again a s = follow in_loop (head a s)
    (λ a s. and_then (turn s) (λ _ s. follow in_loop (body a s) (λ a s. follow in_loop (next a s) again)))

module _ (Soft : Cause → Type 0) (here : Here) (by : Calls) (go : GoFrom here.comp by) {A : Type 0}
    (head body next : DoingWith A) (h : MatchWith Soft here head head) (b : MatchWith Soft here body body)
    (x : MatchWith Soft here next next) where
  -- any number of rounds above the turns is as good as another
  enough_rounds : (n m : ℕ) (a : A) (s : State) → s.turns < n → s.turns < m →
      rounds n (head by) (body by) (next by) a s ≡ rounds m (head by) (body by) (next by) a s
  enough_rounds n m a s few few' = as_trees n few ∙ sym (as_trees m few') where
    as_trees : (k : ℕ) → s.turns < k → rounds k (head by) (body by) (next by) a s ≡
        played (trees here head body next (λ a. (h a).tree) (λ a. (b a).tree) (λ a. (x a).tree) (λ a. (h a).first)
        (λ a. (b a).first) (λ a. (x a).first) (suc s.turns) (suc s.turns) a) by here s
    as_trees k less =
        rounds_are here head body next (λ a. (h a).tree) (λ a. (b a).tree) (λ a. (x a).tree) (λ a. (h a).first)
        (λ a. (b a).first) (λ a. (x a).first) (suc s.turns) by go k (suc s.turns) a s less (omega arith) (omega arith)

  goes : (does : DoingWith A) → MatchWith Soft here does does → (a : A) → Goes (does by a)
  goes does match a = match_goes Soft here (λ by. does by a) (λ by. does by a) (match a) by go

  pub loop_again : (a : A) (s : State) → loop (head by) (body by) (next by) a s ≡ one_round (head by) (body by)
      (next by) (loop (head by) (body by) (next by)) a s
  loop_again a s = follow_grown in_loop s (head by a s) _ _ (goes head h a s) (λ a t up. turn_same t.turns t _ _ refl
      (λ u less. follow_grown in_loop u (body by a u) _ _ (goes body b a u) (λ a v up2. follow_grown in_loop v
      (next by a v) _ _ (goes next x a v) (λ a w up3. enough_rounds s.turns (suc w.turns) a w
      (omega (arith, up.turns, less, up2.turns, up3.turns)) (omega arith)))))
