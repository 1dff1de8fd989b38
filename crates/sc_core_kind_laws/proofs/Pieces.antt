-- Two pieces of a run that are the same, and what is reached is good: what the combinators make of such pieces.
use Rattle.sc_core_kind_laws.proofs.Common.{Acts, Bool, Break, Cause, Continue, Err, Exit, Here, Left, List, Next, Ok}
use Rattle.sc_core_kind_laws.proofs.Common.{On, Option, Out, Piece, Reached, Result, Return, Route, State, Stopped, Ty}
use Rattle.sc_core_kind_laws.proofs.Common.{Value, [], all_do, and_then, ap, choose, computed, false, follow}
use Rattle.sc_core_kind_laws.proofs.Common.{if◌then◌else◌, in_loop, in_order, is_true, leave, loop, refl, returns_kind}
use Rattle.sc_core_kind_laws.proofs.Common.{rounds, suc, take, true, turn, zero, ℕ, ◌∙◌, ◌∷◌, ◌≡◌}

-- what is reached, if anything is, is good
abbrev pub Lasting : {V : Type 0} → (V → Type 0) → Piece V → Type 0
Lasting Good (Reached v s) = Good v
Lasting Good (Stopped end s) = Unit {0}

pub record Same {V : Type 0} (Good : V → Type 0) (o p : Piece V) : Type 0 where
  pub same : p ≡ o
  pub good : Lasting Good o

-- nothing is asked
abbrev pub Any : {V : Type 0} → V → Type 0
Any v = Unit {0}

pub itself : {V : Type 0} (o : Piece V) → Same Any o o
itself (Reached v s) = record { same = refl; good = tt }
itself (Stopped end s) = record { same = refl; good = tt }

pub then_same : {V W : Type 0} (G : V → Type 0) (H : W → Type 0) (o p : Piece V) (k l : V → State → Piece W) →
    Same G o p → ((v : V) → G v → (s : State) → Same H (k v s) (l v s)) → Same H (and_then o k) (and_then p l)
then_same G H (Reached v s) p k l h x =
    let rest = x v h.good s in record { same = ap (λ q. and_then q l) h.same ∙ rest.same; good = rest.good }
then_same G H (Stopped end s) p k l h x = record { same = ap (λ q. and_then q l) h.same; good = tt }

pub weaken : {V : Type 0} (G H : V → Type 0) (o p : Piece V) → ((v : V) → G v → H v) → Same G o p → Same H o p
weaken G H (Reached v s) p f h = record { same = h.same; good = f v h.good }
weaken G H (Stopped end s) p f h = record { same = h.same; good = tt }

-- what is computed is there
pub computed_same : {V : Type 0} (here : Here) (line : ℕ) (r : Result V Cause) (s : State) →
    Same (λ v. r ≡ Ok v) (computed here line r s) (computed here line r s)
computed_same here line (Ok v) s = record { same = refl; good = refl }
computed_same here line (Err cause) s = record { same = refl; good = tt }

pub choose_same : {V : Type 0} (G : V → Type 0) (v : Value) (o p o' p' : Piece V) → Same G o p → Same G o' p' →
    Same G (choose v o o') (choose v p p')
choose_same G v o p o' p' h k = by (is_true v) where
  by : (b : Bool) → Same G (if b then o else o') (if b then p else p')
  by true = h
  by false = k

-- a function with this result
module _ (result : Option Ty) where
  -- where control leaves a function, it leaves with a value of its result's kind
  abbrev pub exit_kind : Exit → Bool
  exit_kind Next = true
  exit_kind Break = true
  exit_kind Continue = true
  exit_kind (Return v) = returns_kind result v

  abbrev pub ExitOk : Left (Unit {0}) → Type 0
  ExitOk left = exit_kind left.exit ≡ true

  abbrev pub DoSame : Acts → Acts → Type 0
  DoSame f g = (a : Unit {0}) (s : State) → Same ExitOk (f a s) (g a s)

  pub leave_same : (exit : Exit) → exit_kind exit ≡ true → DoSame (leave exit) (leave exit)
  leave_same exit h a s = record { same = refl; good = h }

  abbrev RouteOk : Route → Type 0
  RouteOk On = Unit {0}
  RouteOk (Out exit) = exit_kind exit ≡ true

  abbrev RoutesOk : (Exit → Route) → Type 0
  RoutesOk route = (exit : Exit) → exit_kind exit ≡ true → RouteOk (route exit)

  pub in_order_ok : RoutesOk in_order
  in_order_ok Next h = tt
  in_order_ok Break h = refl
  in_order_ok Continue h = refl
  in_order_ok (Return v) h = h

  in_loop_ok : RoutesOk in_loop
  in_loop_ok Next h = tt
  in_loop_ok Break h = refl
  in_loop_ok Continue h = tt
  in_loop_ok (Return v) h = h

  take_same : (route : Route) (f g : Acts) → RouteOk route → DoSame f g → DoSame (take route f) (take route g)
  take_same On f g ok h = h
  take_same (Out exit) f g ok h = leave_same exit ok

  pub follow_same : (route : Exit → Route) → RoutesOk route → (o p : Piece (Left (Unit {0}))) (f g : Acts) →
      Same ExitOk o p → DoSame f g → Same ExitOk (follow route o f) (follow route p g)
  follow_same route ok o p f g h x =
      then_same ExitOk ExitOk o p (λ left s. take (route left.exit) f left.carried s)
      (λ left s. take (route left.exit) g left.carried s) h
      (λ left good s. take_same (route left.exit) f g (ok left.exit good) x left.carried s)

  abbrev pub EachSame : List Acts → List Acts → Type 0
  EachSame [] [] = Unit {0}
  EachSame [] (g ∷ gs) = ⊥
  EachSame (f ∷ fs) [] = ⊥
  EachSame (f ∷ fs) (g ∷ gs) = DoSame f g × EachSame fs gs

  pub all_same : (fs gs : List Acts) → EachSame fs gs → DoSame (all_do fs) (all_do gs)
  all_same [] [] h = leave_same Next refl
  all_same [] (g ∷ gs) h = absurd h
  all_same (f ∷ fs) [] h = absurd h
  all_same (f ∷ fs) (g ∷ gs) h = λ a s.
      follow_same in_order in_order_ok (f a s) (g a s) (all_do fs) (all_do gs) (h.0 a s) (all_same fs gs h.1)

  module _ (f g f2 g2 f3 g3 : Acts) (head : DoSame f g) (body : DoSame f2 g2) (next : DoSame f3 g3) where
    rounds_same : (n : ℕ) → DoSame (rounds n f f2 f3) (rounds n g g2 g3)
    rounds_same zero a s = record { same = refl; good = tt }
    rounds_same (suc n) a s =
        follow_same in_loop in_loop_ok (f a s) (g a s)
        (λ a s. and_then (turn s) (λ _ s. follow in_loop (f2 a s)
        (λ a s. follow in_loop (f3 a s) (rounds n f f2 f3))))
        (λ a s. and_then (turn s) (λ _ s. follow in_loop (g2 a s)
        (λ a s. follow in_loop (g3 a s) (rounds n g g2 g3)))) (head a s) (λ a s.
        then_same Any ExitOk (turn s) (turn s) (λ _ s.
        follow in_loop (f2 a s) (λ a s. follow in_loop (f3 a s) (rounds n f f2 f3)))
        (λ _ s. follow in_loop (g2 a s) (λ a s. follow in_loop (g3 a s) (rounds n g g2 g3))) (itself (turn s))
        (λ u any s.
        follow_same in_loop in_loop_ok (f2 a s) (g2 a s) (λ a s. follow in_loop (f3 a s) (rounds n f f2 f3))
        (λ a s. follow in_loop (g3 a s) (rounds n g g2 g3)) (body a s) (λ a s.
        follow_same in_loop in_loop_ok (f3 a s) (g3 a s) (rounds n f f2 f3) (rounds n g g2 g3) (next a s)
        (rounds_same n))))

    pub loop_same : DoSame (loop f f2 f3) (loop g g2 g3)
    loop_same a s = rounds_same (suc s.turns) a s
