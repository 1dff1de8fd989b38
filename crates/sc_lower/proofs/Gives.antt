-- What a stretch of code gives: a value in a temporary, or a blame.
use Rattle.sc_lower.proofs.Common.{Arith, Blamed, Bool, Break, Calls, Cause, Codes, Continue, Err, Exit, Here, Left}
use Rattle.sc_lower.proofs.Common.{List, Next, None, Ok, Piece, Reached, Result, Return, Some, State, Stopped, TacOp}
use Rattle.sc_lower.proofs.Common.{TacStmt, TacStmt-F, Temps, Value, [], and_then, ap, arith as numbers, bind}
use Rattle.sc_lower.proofs.Common.{code_does, code_step, computed, false, fold-roll-TacStmt, follow, gets}
use Rattle.sc_lower.proofs.Common.{if◌then◌else◌, in_order, known, leave, map-TacStmt, op_does, operated, read, refl}
use Rattle.sc_lower.proofs.Common.{roll-TacStmt, stmt_does, subst, sym, take, true, with_temp, ℕ, ◌++◌, ◌<◌, ◌∙◌, ◌∷◌}
use Rattle.sc_lower.proofs.Common.{◌≡◌, ◌≤◌}
use Rattle.std.proofs.lemmas.Grind.{common_steps}
use Rattle.sc_core_laws.proofs.Order.{follow_assoc}

abbrev pub Keeps : ℕ → Temps → Temps → Type 0
Keeps n t u = (i : ℕ) → i < n → u i ≡ t i

-- control goes on with these temporaries
abbrev pub went_on : Temps → State → Piece (Left Temps)
went_on t s = Reached (record { exit = Next; carried = t }) s

-- the code ends with the value in the temporary, and temporaries below n are as before
pub record Got (n at : ℕ) (t : Temps) (s : State) (v : Value) (o : Piece (Left Temps)) : Type 0 where
  pub temps : Temps
  pub comes : o ≡ went_on temps s
  pub holds : temps at ≡ Some v
  pub keeps : Keeps n t temps

-- ORDER
module _ {A : Type 0} where
  taken_end : (exit : Exit) (a : A) (s : State) →
      take (in_order exit) (leave Next) a s ≡ Reached (record { exit = exit; carried = a }) s
  taken_end Next a s = refl
  taken_end Break a s = refl
  taken_end Continue a s = refl
  taken_end (Return v) a s = refl

  pub follow_end : (o : Piece (Left A)) → follow in_order o (leave Next) ≡ o
  follow_end (Reached left s) = taken_end left.exit left.carried s
  follow_end (Stopped end s) = refl

pub with_temp_same : (d : ℕ) (v : Value) (t : Temps) → with_temp d v t d ≡ Some v
with_temp_same d v t = grind (numbers, common_steps)

pub with_temp_other : (d : ℕ) (v : Value) (t : Temps) (i : ℕ) → i < d → with_temp d v t i ≡ t i
with_temp_other d v t i lt = grind (numbers, common_steps)

module _ (arith : Arith) (here : Here) (calls : Calls) where
  abbrev pub run : List TacStmt → Codes
  run = code_does arith here calls

  abbrev pub Gives : ℕ → ℕ → Temps → State → Result Value Cause → Piece (Left Temps) → Type 0
  Gives n at t s (Err cause) o = o ≡ Stopped (Blamed here.comp cause 0) s
  Gives n at t s (Ok v) o = Got n at t s v o

  pub run_append : (xs ys : List TacStmt) (t : Temps) (s : State) →
      run (xs ++ ys) t s ≡ follow in_order (run xs t s) (run ys)
  run_append [] ys t s = refl
  run_append (x ∷ xs) ys t s =
      ap (follow in_order (stmt_does arith here calls x t s)) (λ i u w. run_append xs ys u w i)
      ∙ sym (follow_assoc (stmt_does arith here calls x t s) (run xs) (run ys))

  -- one statement at the start
  pub first_is : (k : TacStmt-F TacStmt) (c : TacStmt) (t : Temps) (s : State) → roll-TacStmt k ≡ c →
      stmt_does arith here calls c t s ≡ code_step arith here calls (map-TacStmt _ _ (stmt_does arith here calls) k) t s
  first_is k c t s is =
      ap (λ x. stmt_does arith here calls x t s) (sym is)
      ∙ ap (λ f. f t s) (fold-roll-TacStmt Codes (code_step arith here calls) k)

  pub run_one : (k : TacStmt-F TacStmt) (c : TacStmt) (t : Temps) (s : State) → roll-TacStmt k ≡ c →
      run (c ∷ []) t s ≡ code_step arith here calls (map-TacStmt _ _ (stmt_does arith here calls) k) t s
  run_one k c t s is = follow_end (stmt_does arith here calls c t s) ∙ first_is k c t s is

  pub gives_along : (n at : ℕ) (t : Temps) (s : State) (r : Result Value Cause) (o p : Piece (Left Temps)) → p ≡ o →
      Gives n at t s r o → Gives n at t s r p
  gives_along n at t s r o p e g = subst (Gives n at t s r) (sym e) g

  -- what follows code that gives a value
  pub gives_then : (n at at' : ℕ) (t : Temps) (s : State) (r : Result Value Cause) (f : Value → Result Value Cause)
      (o : Piece (Left Temps)) (k : Codes) → Gives n at t s r o →
      ((v : Value) (u : Temps) → r ≡ Ok v → u at ≡ Some v → Keeps n t u → Gives n at' t s (f v) (k u s)) →
      Gives n at' t s (bind r f) (follow in_order o k)
  gives_then n at at' t s (Err cause) f o k g h = ap (λ x. follow in_order x k) g
  gives_then n at at' t s (Ok v) f o k g h =
      gives_along n at' t s (f v) (k g.temps s) (follow in_order o k) (ap (λ x. follow in_order x k) g.comes)
      (h v g.temps refl g.holds g.keeps)

  pub seq : (n at at' : ℕ) (t : Temps) (s : State) (r : Result Value Cause) (f : Value → Result Value Cause)
      (xs ys : List TacStmt) → Gives n at t s r (run xs t s) →
      ((v : Value) (u : Temps) → r ≡ Ok v → u at ≡ Some v → Keeps n t u → Gives n at' t s (f v) (run ys u s)) →
      Gives n at' t s (bind r f) (run (xs ++ ys) t s)
  seq n at at' t s r f xs ys g h =
      gives_along n at' t s (bind r f) _ _ (run_append xs ys t s) (gives_then n at at' t s r f (run xs t s) (run ys) g
      h)

  -- what is above n is above m, if t has kept what is below m
  pub weaken : (m n at : ℕ) (t u : Temps) (s : State) (r : Result Value Cause) (o : Piece (Left Temps)) → m ≤ n →
      Keeps m t u → Gives n at u s r o → Gives m at t s r o
  weaken m n at t u s (Err cause) o le k g = g
  weaken m n at t u s (Ok v) o le k g =
      record { temps = g.temps; comes = g.comes; holds = g.holds; keeps = λ i lt. g.keeps i (omega numbers) ∙ k i lt }

  -- a temporary is assigned
  pub gets_gives : (n d : ℕ) (t : Temps) (s : State) (r : Result Value Cause) → n ≤ d →
      Gives n d t s r (gets here d r t s)
  gets_gives n d t s (Err cause) le = refl
  gets_gives n d t s (Ok v) le =
      record {
        temps = with_temp d v t;
        comes = refl;
        holds = with_temp_same d v t;
        keeps = λ i lt. with_temp_other d v t i
            (omega numbers);
      }

  -- a temporary is read
  pub read_then : {V : Type 0} (x : ℕ) (v : Value) (t : Temps) (s : State) (go : Value → State → Piece V) →
      t x ≡ Some v →
      and_then (read here x t s) go ≡ go v s
  read_then x v t s go e = ap (λ o. and_then (computed here 0 (known o) s) go) e

  pub op_two : (d x y : ℕ) (o : TacOp) (v w : Value) (t : Temps) (s : State) → t x ≡ Some v → t y ≡ Some w →
      op_does here arith d o x (Some y) t s ≡ gets here d (operated arith (s.memory here.comp) o v w) t s
  op_two d x y o v w t s e f =
      read_then x v t s _ e ∙ read_then y w t s (λ w s. gets here d (operated arith (s.memory here.comp) o v w) t s) f

  pub op_one : (d x : ℕ) (o : TacOp) (v : Value) (t : Temps) (s : State) → t x ≡ Some v →
      op_does here arith d o x None t s ≡ gets here d (operated arith (s.memory here.comp) o v v) t s
  op_one d x o v t s e = read_then x v t s _ e

  pub if_gives : (n at : ℕ) (t : Temps) (s : State) (b : Bool) (r q : Result Value Cause) (o p : Piece (Left Temps)) →
      Gives n at t s r o → Gives n at t s q p → Gives n at t s (if b then r else q) (if b then o else p)
  if_gives n at t s true r q o p g h = g
  if_gives n at t s false r q o p g h = h
