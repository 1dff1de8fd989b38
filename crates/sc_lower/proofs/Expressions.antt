-- The code of expressions gives their places and values.
use Rattle.sc_lower.proofs.Common.{Arith, BinaryOp, Blocks, Bool, Calls, Cause, Const, Constant, Global, GlobalPlace}
use Rattle.sc_lower.proofs.Common.{Here, If, Int, List, Load, Local, Low, Lowered, Lows, Meant, None, Null, ObjectPlace}
use Rattle.sc_lower.proofs.Common.{Ok, Op, Param, Result, Scope, Some, State, TacOp, TacStmt, Temps, Ty, TypedExpr}
use Rattle.sc_lower.proofs.Common.{TypedKind, TypedKind-F, TypedStruct, UnaryOp, Under, Value, VarRef, Want, Word, []}
use Rattle.sc_lower.proofs.Common.{address_fits, and_code, and_first, and_rest, ap, applied, applied_one}
use Rattle.sc_lower.proofs.Common.{arith as numbers, at_place, at_pointer, between, between_op, binary, binary_code}
use Rattle.sc_lower.proofs.Common.{bind, choose, constant_of, constant_value, expr_at, expr_induction, false}
use Rattle.sc_lower.proofs.Common.{from_first, from_one, from_two, gets, if◌then◌else◌, int_fits, is_address, is_array}
use Rattle.sc_lower.proofs.Common.{is_int, is_of, is_pointer, is_true, is_unsigned, is_unsigned_op, judged, judged_ty}
use Rattle.sc_lower.proofs.Common.{literal, load, loaded, lone, lowered, lowered_step, meant, meant_step, member}
use Rattle.sc_lower.proofs.Common.{move_op, moved, not, not_op, of_bool, on_words, operated, or_code, place_code, pos}
use Rattle.sc_lower.proofs.Common.{refl, scalar_in, sound, start_of, subst, sym, target_cells, term_judged, term_of}
use Rattle.sc_lower.proofs.Common.{term_step, true, truth_code, typed, unary_op, variable_at, wanted, ℕ, ◌%◌, ◌*◌, ◌+◌}
use Rattle.sc_lower.proofs.Common.{◌<◌, ◌^◌, ◌||◌, ◌∙◌, ◌∷◌, ◌≡◌, ◌≤◌}
use Rattle.sc_core.specs.Prelude.{at_place as place_way, binary as binary_way, term_step as term_way}
use Rattle.sc_base.specs.declared.op.BinaryOp.TheVariants as op
use Rattle.sc_base.specs.declared.op.UnaryOp.TheVariants as unary
use Rattle.sc_core.specs.declared.expr.TypedKind.TheOpen as term
use Rattle.sc_core.specs.declared.value.Want.TheVariants as want
use Rattle.sc_tac.specs.declared.stmt.TacOp.TheVariants as tacop
use Rattle.sc_tac.specs.declared.stmt.TacStmt.TheOpen as tac
use Rattle.sc_tac.specs.declared.stmt.TacStmt.TheVariants.{rolls-Const, rolls-Op, rolls-ObjectPlace, rolls-GlobalPlace}
use Rattle.sc_tac.specs.declared.stmt.TacStmt.TheVariants.{rolls-Load, rolls-If}
use Rattle.sc_tac.specs.declared.stmt.Constant.TheVariants as constant
use Rattle.sc_lower.proofs.Gives.{run, Gives, run_one, gives_along, seq, weaken, gets_gives, read_then, op_two, op_one}
use Rattle.sc_lower.proofs.Gives.{if_gives}
use Rattle.sc_lower.proofs.Lowered.{lowered_ty}
use Rattle.sc_lower.proofs.Operators.{not_twice, not_is, unary_is, words_is, between_is, move_is, is_between}
use Rattle.sc_lower.proofs.Operators.{is_logical, pointers_between}
use Rattle.sc_lower.proofs.Tests.{both_fit, unary_fit}

module _ (arith : Arith) (here : Here) (calls : Calls) where
  -- the code gives the result, in a temporary that was free and lies below the next one
  pub record Computes (l : Lows) (r : Blocks → Result Value Cause) : Type 0 where
    pub above : (n : ℕ) → n ≤ (l n).at
    pub below : (n : ℕ) → (l n).at < (l n).next
    pub gives : (n : ℕ) (t : Temps) (s : State) →
        Gives arith here calls n (l n).at t s (r (s.memory here.comp)) (run arith here calls (l n).code t s)

  -- what a statement gives that reads no temporary, one, or two. It may assign what it reads
  abbrev pub FromNone : (ℕ → TacStmt) → (Blocks → Result Value Cause) → Type 0
  FromNone make r = (n : ℕ) (t : Temps) (s : State) →
      Gives arith here calls n n t s (r (s.memory here.comp)) (run arith here calls (make n ∷ []) t s)

  abbrev FromOne : (ℕ → ℕ → List TacStmt) → (Blocks → Value → Result Value Cause) → Type 0
  FromOne make g = (n d x : ℕ) (v : Value) (t : Temps) (s : State) → n ≤ d → t x ≡ Some v →
      Gives arith here calls n d t s (g (s.memory here.comp) v) (run arith here calls (make d x) t s)

  -- the two of these kinds
  abbrev FromTwo : (left right : Bool) → (ℕ → ℕ → ℕ → TacStmt) → (Blocks → Value → Value → Result Value Cause) → Type 0
  FromTwo left right make g =
      (n d x y : ℕ) (v w : Value) (t : Temps) (s : State) → n ≤ d → is_of left v ≡ true → is_of right w ≡ true →
      t x ≡ Some v → t y ≡ Some w →
      Gives arith here calls n d t s (g (s.memory here.comp) v w) (run arith here calls (make d x y ∷ []) t s)

  -- what it gives from a value and from what code gives that it runs
  abbrev FromFirst : (ℕ → ℕ → List TacStmt → TacStmt) → (Value → Result Value Cause → Result Value Cause) → Type 0
  FromFirst make g =
      (n d x : ℕ) (v : Value) (r : Result Value Cause) (code : List TacStmt) (t : Temps) (s : State) → n ≤ d →
      t x ≡ Some v →
      Gives arith here calls n d t s r (run arith here calls code t s) →
      Gives arith here calls n d t s (g v r) (run arith here calls (make d x code ∷ []) t s)

  -- each value that is given is a pointer, or each is a word
  abbrev Kinded : Bool → (Blocks → Result Value Cause) → Type 0
  Kinded pointer r = (blocks : Blocks) (v : Value) → r blocks ≡ Ok v → is_of pointer v ≡ true

  -- SHAPES
  pub lone_computes : (make : ℕ → TacStmt) (r : Blocks → Result Value Cause) → FromNone make r →
      Computes (lone make) r
  lone_computes make r h = record { above = λ n. omega numbers; below = λ n. omega numbers; gives = h }

  loaded_gives : (ty : Ty) (w : Want) (n at : ℕ) (v : Value) (t : Temps) (s : State) → n ≤ at → t at ≡ Some v →
      Gives arith here calls n at t s (wanted ty v w (s.memory here.comp)) (run arith here calls (loaded ty w at) t s)
  loaded_gives ty want.Place n at v t s le e = record { temps = t; comes = refl; holds = e; keeps = λ i lt. refl }
  loaded_gives ty want.Value n at v t s le e = by (is_array ty) where
    p : Bool
    p = is_pointer ty

    by : (b : Bool) →
        Gives arith here calls n at t s (if b then Ok v else load (s.memory here.comp) (is_pointer ty) v)
        (run arith here calls (if b then [] else Load at at (is_pointer ty) ∷ []) t s)
    by true = record { temps = t; comes = refl; holds = e; keeps = λ i lt. refl }
    by false =
        gives_along arith here calls n at t s (load (s.memory here.comp) (is_pointer ty) v) _ _
        (run_one arith here calls (tac.Load at at (is_pointer ty)) (Load at at (is_pointer ty)) t s
        (rolls-Load at at (is_pointer ty))
        ∙ read_then arith here calls at v t s (λ q s. gets here at (load (s.memory here.comp) (is_pointer ty) q) t s) e)
        (gets_gives arith here calls n at t s (load (s.memory here.comp) (is_pointer ty) v) le)

  pub place_computes : (ty : Ty) (w : Want) (l : Lows) (r : Blocks → Result Value Cause) → Computes l r →
      Computes (at_place ty l w) (place_way ty r w)
  place_computes ty w l r h = record {
    above = h.above;
    below = h.below;
    gives = λ n t s.
        let x : Low = l n in
        seq arith here calls n x.at x.at t s (r (s.memory here.comp)) (λ q. wanted ty q w (s.memory here.comp)) x.code
        (loaded ty w x.at) (h.gives n t s)
        (λ v u is e k. weaken arith here calls n n x.at t u s (wanted ty v w (s.memory here.comp)) _ (omega numbers) k
        (loaded_gives ty w n x.at v u s (h.above n) e));
  }

  one_computes : (a : Lows) (make : ℕ → ℕ → TacStmt) (r : Blocks → Result Value Cause) (g : Blocks → Value →
      Result Value Cause) →
      FromOne (λ d x. make d x ∷ []) g → Computes a r →
      Computes (from_one a make) (λ blocks. bind (r blocks) (g blocks))
  one_computes a make r g one ha = record {
    above = λ n. omega (numbers, ha.above n, ha.below n);
    below = λ n. omega numbers;
    gives = λ n t s.
        let x : Low = a n in
        let up : n ≤ x.next = omega (numbers, ha.above n, ha.below n) in
        seq arith here calls n x.at x.next t s (r (s.memory here.comp)) (g (s.memory here.comp)) x.code
        (make x.next x.at ∷ []) (ha.gives n t s)
        (λ v u is e k. weaken arith here calls n n x.next t u s (g (s.memory here.comp) v) _ (omega numbers) k
        (one n x.next x.at v u s up e));
  }

  two_compute : (left right : Bool) (a b : Lows) (make : ℕ → ℕ → ℕ → TacStmt) (ra rb : Blocks → Result Value Cause)
      (g : Blocks → Value → Value → Result Value Cause) →
      FromTwo left right make g → Kinded left ra → Kinded right rb → Computes a ra → Computes b rb →
      Computes (from_two a b make) (λ blocks. bind (ra blocks) (λ v. bind (rb blocks) (g blocks v)))
  two_compute left right a b make ra rb g one ka kb ha hb = record {
    above = λ n. omega (numbers, ha.above n, ha.below n, hb.above (a n).next, hb.below (a n).next);
    below = λ n. omega numbers;
    gives = λ n t s.
        let m = s.memory here.comp in
        let x : Low = a n in let y : Low = b x.next in
        let up : n ≤ x.next = omega (numbers, ha.above n, ha.below n) in
        let far : x.next ≤ y.next = omega (numbers, hb.above x.next, hb.below x.next) in
        seq arith here calls n x.at y.next t s (ra m) (λ v. bind (rb m) (g m v)) x.code _ (ha.gives n t s)
        (λ v u is e k. weaken arith here calls n n y.next t u s (bind (rb m) (g m v)) _ (omega numbers) k
        (weaken arith here calls n x.next y.next u u s (bind (rb m) (g m v)) _ up (λ i lt. refl)
        (seq arith here calls x.next y.at y.next u s (rb m) (g m v) y.code _ (hb.gives x.next u s)
        (λ w q at d kk. weaken arith here calls x.next x.next y.next u q s (g m v w) _ (omega numbers) kk
        (one x.next y.next x.at y.at v w q s far (ka m v is) (kb m w at) (kk x.at (ha.below n) ∙ e) d)))));
  }

  first_computes : (a b : Lows) (last : ℕ → ℕ → List TacStmt) (make : ℕ → ℕ → List TacStmt → TacStmt) (ra rb : Blocks →
      Result Value Cause)
      (h : Value → Result Value Cause) (g : Value → Result Value Cause → Result Value Cause) →
      FromOne last (λ blocks. h) → FromFirst make g → Computes a ra → Computes b rb →
      Computes (from_first a b last make) (λ blocks. bind (ra blocks) (λ v. g v (bind (rb blocks) h)))
  first_computes a b last make ra rb h g end one ha hb = record {
    above = λ n. omega (numbers, ha.above n, ha.below n, hb.above (a n).next, hb.below (a n).next);
    below = λ n. omega numbers;
    gives = λ n t s.
        let m = s.memory here.comp in
        let x : Low = a n in let y : Low = b x.next in
        let up : n ≤ x.next = omega (numbers, ha.above n, ha.below n) in
        let far : x.next ≤ y.next = omega (numbers, hb.above x.next, hb.below x.next) in
        seq arith here calls n x.at y.next t s (ra m) (λ v. g v (bind (rb m) h)) x.code _ (ha.gives n t s)
        (λ v u is e k. weaken arith here calls n n y.next t u s (g v (bind (rb m) h)) _ (omega numbers) k
        (weaken arith here calls n x.next y.next u u s (g v (bind (rb m) h)) _ up (λ i lt. refl)
        (one x.next y.next x.at v (bind (rb m) h) _ u s far e
        (seq arith here calls x.next y.at y.next u s (rb m) h y.code _ (hb.gives x.next u s)
        (λ w q at d kk. weaken arith here calls x.next x.next y.next u q s (h w) _ (omega numbers) kk
        (end x.next y.next y.at w q s far d))))));
  }

  -- STATEMENTS
  const_gives : (n d : ℕ) (c : Constant) (t : Temps) (s : State) → n ≤ d →
      Gives arith here calls n d t s (Ok (constant_value c)) (run arith here calls (Const d c ∷ []) t s)
  const_gives n d c t s le =
      gives_along arith here calls n d t s (Ok (constant_value c)) _ _ (run_one arith here calls (tac.Const d c)
      (Const d c) t s (rolls-Const d c)) (gets_gives arith here calls n d t s (Ok (constant_value c)) le)

  op_gives : (left right : Bool) (o : TacOp) (g : Blocks → Value → Value → Result Value Cause) →
      ((blocks : Blocks) (v w : Value) → is_of left v ≡ true → is_of right w ≡ true → operated arith blocks o v w
      ≡ g blocks v w) →
      FromTwo left right (λ d x y. Op d o x (Some y)) g
  op_gives left right o g is n d x y v w t s le kv kw e f =
      let m = s.memory here.comp in
      gives_along arith here calls n d t s (g m v w) (gets here d (g m v w) t s) _
      (run_one arith here calls (tac.Op d o x (Some y)) (Op d o x (Some y)) t s (rolls-Op d o x (Some y))
      ∙ op_two arith here calls d x y o v w t s e f ∙ ap (λ r. gets here d r t s) (is m v w kv kw))
      (gets_gives arith here calls n d t s (g m v w) le)

  op_swapped : (left right : Bool) (o : TacOp) (g : Blocks → Value → Value → Result Value Cause) →
      ((blocks : Blocks) (v w : Value) → operated arith blocks o v w ≡ g blocks v w) →
      FromTwo left right (λ d x y. Op d o y (Some x)) (λ blocks v w. g blocks w v)
  op_swapped left right o g is n d x y v w t s le kv kw e f =
      op_gives right left o g (λ blocks v w _ _. is blocks v w) n d y x w v t s le kw kv f e

  unary_op_computes : (o : TacOp) (g : Blocks → Value → Result Value Cause) →
      ((blocks : Blocks) (v : Value) → operated arith blocks o v v ≡ g blocks v) → FromOne (λ d x. Op d o x None ∷ []) g
  unary_op_computes o g is n d x v t s le e =
      let m = s.memory here.comp in
      gives_along arith here calls n d t s (g m v) (gets here d (g m v) t s) _
      (run_one arith here calls (tac.Op d o x None) (Op d o x None) t s (rolls-Op d o x None)
      ∙ op_one arith here calls d x o v t s e ∙ ap (λ r. gets here d r t s) (is m v))
      (gets_gives arith here calls n d t s (g m v) le)

  abbrev negation : Value → Result Value Cause
  negation v = Ok (of_bool (not (is_true v)))

  truth_gives : (ty : Ty) → FromOne (truth_code ty) (λ blocks v. Ok (of_bool (is_true v)))
  truth_gives ty n d x v t s le e =
      subst (λ z. Gives arith here calls n d t s (Ok z) (run arith here calls (truth_code ty d x) t s))
      (not_twice (is_true v))
      (seq arith here calls n d d t s (negation v) negation (Op d (not_op ty) x None ∷ [])
      (Op d (tacop.Unary unary.Not Int) d None ∷ [])
      (unary_op_computes (not_op ty) (λ blocks. negation) (λ blocks v. not_is arith ty blocks v v) n d x v t s le e)
      (λ w u is f k. weaken arith here calls n n d t u s (negation w) _ (omega numbers) k
      (unary_op_computes (tacop.Unary unary.Not Int) (λ blocks. negation) (λ blocks v. refl) n d d w u s le f)))

  and_gives : FromFirst and_code (λ v r. choose v r (Ok (Word 0)))
  and_gives n d x v r code t s le e g =
      gives_along arith here calls n d t s (choose v r (Ok (Word 0))) _ _
      (run_one arith here calls (tac.If x code (Const d (constant.Word 0) ∷ []))
      (If x code (Const d (constant.Word 0) ∷ [])) t s (rolls-If x code (Const d (constant.Word 0) ∷ []))
      ∙ read_then arith here calls x v t s (λ v s. choose v (run arith here calls code t s)
      (run arith here calls (Const d (constant.Word 0) ∷ []) t s)) e)
      (if_gives arith here calls n d t s (is_true v) r (Ok (Word 0)) _ _ g (const_gives n d (constant.Word 0) t s le))

  or_gives : FromFirst or_code (λ v r. choose v (Ok (Word 1)) r)
  or_gives n d x v r code t s le e g =
      gives_along arith here calls n d t s (choose v (Ok (Word 1)) r) _ _
      (run_one arith here calls (tac.If x (Const d (constant.Word 1) ∷ []) code) (If x (Const d (constant.Word 1) ∷ [])
      code) t s (rolls-If x (Const d (constant.Word 1) ∷ []) code)
      ∙ read_then arith here calls x v t s (λ v s. choose v (run arith here calls (Const d (constant.Word 1) ∷ []) t s)
      (run arith here calls code t s)) e)
      (if_gives arith here calls n d t s (is_true v) (Ok (Word 1)) r _ _ (const_gives n d (constant.Word 1) t s le) g)

  pub place_gives : (params : ℕ) (v : VarRef) →
      FromNone (place_code params v) (λ blocks. Ok (variable_at here params v))
  place_gives params (Global g) n t s =
      gives_along arith here calls n n t s (Ok (variable_at here params (Global g))) _ _ (run_one arith here calls
      (tac.GlobalPlace n g) (GlobalPlace n g) t s (rolls-GlobalPlace n g)) (gets_gives arith here calls n n t s
      (Ok (start_of g)) (omega numbers))
  place_gives params (Param p) n t s =
      gives_along arith here calls n n t s (Ok (variable_at here params (Param p))) _ _ (run_one arith here calls
      (tac.ObjectPlace n p) (ObjectPlace n p) t s (rolls-ObjectPlace n p)) (gets_gives arith here calls n n t s
      (Ok (start_of (here.first + p))) (omega numbers))
  place_gives params (Local l) n t s =
      let same : here.first + (params + l) ≡ here.first + params + l = omega numbers in
      subst (λ z. Gives arith here calls n n t s (Ok (start_of z))
      (run arith here calls (ObjectPlace n (params + l) ∷ []) t s)) same
      (gives_along arith here calls n n t s (Ok (start_of (here.first + (params + l)))) _ _ (run_one arith here calls
      (tac.ObjectPlace n (params + l)) (ObjectPlace n (params + l)) t s (rolls-ObjectPlace n (params + l)))
      (gets_gives arith here calls n n t s (Ok (start_of (here.first + (params + l)))) (omega numbers)))

  -- a constant word
  pub word_computes : (word : ℕ) → Computes (lone (λ d. Const d (constant.Word word))) (λ blocks. Ok (Word word))
  word_computes word =
      lone_computes (λ d. Const d (constant.Word word)) (λ blocks. Ok (Word word)) (λ n t s. const_gives n n
      (constant.Word word) t s (omega numbers))

  literal_is : (ty : Ty) (word : ℕ) → constant_value (constant_of ty word) ≡ literal ty word
  literal_is ty word = by (is_pointer ty) where
    by : (b : Bool) → constant_value (if b then constant.Null else constant.Word word) ≡ (if b then Null else Word word)
    by true = refl
    by false = refl

  literal_gives : (ty : Ty) (word : ℕ) → FromNone (λ d. Const d (constant_of ty word)) (λ blocks. Ok (literal ty word))
  literal_gives ty word n t s =
      subst (λ z. Gives arith here calls n n t s (Ok z) (run arith here calls (Const n (constant_of ty word) ∷ []) t s))
      (literal_is ty word)
      (const_gives n n (constant_of ty word) t s (omega numbers))

  module _ (structs : List TypedStruct) where
    binary_gives : (o : BinaryOp) (left right : Ty) →
        (is_pointer left ≡ true → is_pointer right ≡ true → is_between o ≡ true) →
        FromTwo (is_pointer left) (is_pointer right) (binary_code structs o left right)
        (λ blocks. applied arith structs blocks o left right)
    binary_gives o left right = by (is_pointer left) (is_pointer right) where
      by : (b c : Bool) → (b ≡ true → c ≡ true → is_between o ≡ true) →
          FromTwo b c
          (λ d x y. if b then (if c then Op d (between_op o (target_cells structs left)) x (Some y) else Op d
          (move_op structs o left right) x (Some y)) else (if c then Op d (move_op structs o right left) y
          (Some x) else Op d (tacop.Binary o (scalar_in (is_unsigned_op o left right))) x (Some y)))
          (λ blocks v w. if b then (if c then between blocks o (target_cells structs left) v w else at_pointer structs
          blocks o left right v w) else (if c then at_pointer structs blocks o right left w v else on_words arith
          (is_unsigned_op o left right) o v w))
      by true true h =
          op_gives true true (between_op o (target_cells structs left)) (λ blocks. between blocks o (target_cells
          structs left))
          (λ blocks v w. between_is arith o (target_cells structs left) blocks v w (h refl refl))
      by true false h =
          op_gives true false (move_op structs o left right) (λ blocks. at_pointer structs blocks o left right)
          (λ blocks v w _ _. move_is arith structs o left right blocks v w)
      by false true h =
          op_swapped false true (move_op structs o right left) (λ blocks. at_pointer structs blocks o right left)
          (λ blocks v w. move_is arith structs o right left blocks v w)
      by false false h =
          op_gives false false (tacop.Binary o (scalar_in (is_unsigned_op o left right)))
          (λ blocks. on_words arith (is_unsigned_op o left right) o)
          (λ blocks v w _ _. words_is arith o (is_unsigned_op o left right) blocks v w)

    -- an expression's code and what it means: they have one type, each form computes, and values have the type's kind
    pub record Fits (l : Lowered) (m : Meant) : Type 0 where
      pub ty : l.ty ≡ m.ty
      pub kind : Kinded (is_pointer m.ty) (m.way want.Value)
      pub form : (w : Want) → Computes (l.form w) (m.way w)

    plain_computes : (o : BinaryOp) (la lb : Lowered) (ma mb : Meant) →
        (is_pointer la.ty ≡ true → is_pointer lb.ty ≡ true → is_between o ≡ true) → Fits la ma → Fits lb mb →
        Computes (from_two (la.form want.Value) (lb.form want.Value) (binary_code structs o la.ty lb.ty))
        (λ blocks. bind (ma.way want.Value blocks) (λ v. bind (mb.way want.Value blocks)
        (applied arith structs blocks o ma.ty mb.ty v)))
    plain_computes o la lb ma mb h ha hb =
        two_compute (is_pointer ma.ty) (is_pointer mb.ty) (la.form want.Value) (lb.form want.Value)
        (binary_code structs o la.ty lb.ty) (ma.way want.Value)
        (mb.way want.Value) (λ blocks. applied arith structs blocks o ma.ty mb.ty)
        (subst (λ ty. FromTwo (is_pointer ty) (is_pointer mb.ty) (binary_code structs o la.ty lb.ty)
        (λ blocks. applied arith structs blocks o ty mb.ty))
        ha.ty (subst (λ ty. FromTwo (is_pointer la.ty) (is_pointer ty) (binary_code structs o la.ty lb.ty)
        (λ blocks. applied arith structs blocks o la.ty ty)) hb.ty (binary_gives o la.ty lb.ty h)))
        ha.kind hb.kind (ha.form want.Value) (hb.form want.Value)

    binary_computes : (o : BinaryOp) (la lb : Lowered) (ma mb : Meant) →
        (is_pointer la.ty ≡ true → is_pointer lb.ty ≡ true → (is_logical o || is_between o) ≡ true) → Fits la ma →
        Fits lb mb →
        Computes (binary structs o la lb) (binary_way arith structs o ma mb)
    binary_computes op.OrElse la lb ma mb h ha hb =
        first_computes (la.form want.Value) (lb.form want.Value) (truth_code lb.ty) or_code (ma.way want.Value)
        (mb.way want.Value) (λ w. Ok (of_bool (is_true w))) (λ v r. choose v (Ok (Word 1)) r) (truth_gives lb.ty)
        or_gives (ha.form want.Value) (hb.form want.Value)
    binary_computes op.AndAlso la lb ma mb h ha hb =
        first_computes (la.form want.Value) (lb.form want.Value) (truth_code lb.ty) and_code (ma.way want.Value)
        (mb.way want.Value) (λ w. Ok (of_bool (is_true w))) (λ v r. choose v r (Ok (Word 0))) (truth_gives lb.ty)
        and_gives (ha.form want.Value) (hb.form want.Value)
    binary_computes op.BitOr la lb ma mb h ha hb = plain_computes op.BitOr la lb ma mb h ha hb
    binary_computes op.BitXor la lb ma mb h ha hb = plain_computes op.BitXor la lb ma mb h ha hb
    binary_computes op.BitAnd la lb ma mb h ha hb = plain_computes op.BitAnd la lb ma mb h ha hb
    binary_computes op.Equal la lb ma mb h ha hb = plain_computes op.Equal la lb ma mb h ha hb
    binary_computes op.NotEqual la lb ma mb h ha hb = plain_computes op.NotEqual la lb ma mb h ha hb
    binary_computes op.Less la lb ma mb h ha hb = plain_computes op.Less la lb ma mb h ha hb
    binary_computes op.Greater la lb ma mb h ha hb = plain_computes op.Greater la lb ma mb h ha hb
    binary_computes op.LessEqual la lb ma mb h ha hb = plain_computes op.LessEqual la lb ma mb h ha hb
    binary_computes op.GreaterEqual la lb ma mb h ha hb = plain_computes op.GreaterEqual la lb ma mb h ha hb
    binary_computes op.ShiftLeft la lb ma mb h ha hb = plain_computes op.ShiftLeft la lb ma mb h ha hb
    binary_computes op.ShiftRight la lb ma mb h ha hb = plain_computes op.ShiftRight la lb ma mb h ha hb
    binary_computes op.Add la lb ma mb h ha hb = plain_computes op.Add la lb ma mb h ha hb
    binary_computes op.Sub la lb ma mb h ha hb = plain_computes op.Sub la lb ma mb h ha hb
    binary_computes op.Mul la lb ma mb h ha hb = plain_computes op.Mul la lb ma mb h ha hb
    binary_computes op.Div la lb ma mb h ha hb = plain_computes op.Div la lb ma mb h ha hb
    binary_computes op.Rem la lb ma mb h ha hb = plain_computes op.Rem la lb ma mb h ha hb

    unary_computes : (o : UnaryOp) (l : Lowered) (m : Meant) → Fits l m →
        Computes (from_one (l.form want.Value) (λ d x. Op d (unary_op o l.ty) x None))
        (λ blocks. bind (m.way want.Value blocks) (applied_one arith (is_unsigned m.ty) o))
    unary_computes o l m h =
        one_computes (l.form want.Value) (λ d x. Op d (unary_op o l.ty) x None) (m.way want.Value)
        (λ blocks. applied_one arith (is_unsigned m.ty) o)
        (subst (λ ty. FromOne (λ d x. Op d (unary_op o l.ty) x None ∷ []) (λ blocks. applied_one arith (is_unsigned ty)
        o)) h.ty (unary_op_computes (unary_op o l.ty) (λ blocks. applied_one arith (is_unsigned l.ty) o)
        (λ blocks v. unary_is arith o l.ty blocks v v)))
        (h.form want.Value)

    index_computes : (la lb : Lowered) (ma mb : Meant) → Fits la ma → Fits lb mb →
        Computes (from_two (la.form want.Value) (lb.form want.Value) (λ d x y. Op d (move_op structs op.Add la.ty lb.ty)
        x (Some y)))
        (λ blocks. bind (ma.way want.Value blocks) (λ v. bind (mb.way want.Value blocks)
        (at_pointer structs blocks op.Add ma.ty mb.ty v)))
    index_computes la lb ma mb ha hb =
        two_compute (is_pointer ma.ty) (is_pointer mb.ty) (la.form want.Value) (lb.form want.Value)
        (λ d x y. Op d (move_op structs op.Add la.ty lb.ty) x (Some y)) (ma.way want.Value) (mb.way want.Value)
        (λ blocks. at_pointer structs blocks op.Add ma.ty mb.ty)
        (subst (λ ty. FromTwo (is_pointer ma.ty) (is_pointer mb.ty)
        (λ d x y. Op d (move_op structs op.Add la.ty lb.ty) x (Some y))
        (λ blocks. at_pointer structs blocks op.Add ty mb.ty)) ha.ty
        (subst (λ ty. FromTwo (is_pointer ma.ty) (is_pointer mb.ty)
        (λ d x y. Op d (move_op structs op.Add la.ty lb.ty) x (Some y))
        (λ blocks. at_pointer structs blocks op.Add la.ty ty)) hb.ty (op_gives (is_pointer ma.ty) (is_pointer mb.ty)
        (move_op structs op.Add la.ty lb.ty)
        (λ blocks. at_pointer structs blocks op.Add la.ty lb.ty) (λ blocks v w _ _. move_is arith structs op.Add la.ty
        lb.ty blocks v w)))) ha.kind hb.kind
        (ha.form want.Value) (hb.form want.Value)

    member_computes : (offset : ℕ) (l : Lows) (r : Blocks → Result Value Cause) → Computes l r →
        Computes (member structs offset l) (λ blocks. bind (r blocks) (moved blocks (pos offset)))
    member_computes offset l r h =
        one_computes l (λ d x. Op d (tacop.PointerMember offset) x None) r (λ blocks. moved blocks (pos offset))
        (unary_op_computes (tacop.PointerMember offset) (λ blocks. moved blocks (pos offset)) (λ blocks v. refl)) h

    module _ (params : ℕ) (scope : Scope) where
      abbrev P : TypedExpr → Type 0
      P e = (judged scope e).fits ≡ true → Fits (lowered structs params e) (meant arith structs here params e)

      value_kinded : (e : TypedExpr) → (judged scope e).fits ≡ true → Kinded
          (is_pointer (meant arith structs here params e).ty) ((meant arith structs here params e).way want.Value)
      value_kinded e fits =
          let s = sound arith structs here params scope e in
          subst (λ t. Kinded (is_pointer t) ((meant arith structs here params e).way want.Value)) (sym s.same)
          (s.value fits)

      own_kind : (e : TypedExpr) → is_pointer (lowered structs params e).ty ≡ true →
          is_pointer (judged scope e).ty ≡ true
      own_kind e h = ap is_pointer (judged_ty scope e ∙ sym (lowered_ty structs params e)) ∙ h

      level : (ty : Ty) (k : TypedKind-F TypedKind TypedExpr) → Under P k →
          (term_of _ _ (term_judged scope) (λ e. e.kind e.ty) k ty).fits ≡ true → (w : Want) →
          Computes (term_of _ _ (term_step structs params) lowered_step k ty w)
          (term_of _ _ (term_way arith structs here params) meant_step k ty w)
      level ty (term.Literal word) h fits w = lone_computes _ _ (literal_gives ty word)
      level ty (term.Variable v) h fits w =
          place_computes ty w _ _ (lone_computes (place_code params v) (λ blocks. Ok (variable_at here params v))
          (place_gives params v))
      level ty (term.Unary o a) h fits w = unary_computes o _ _ (h (unary_fit o (judged scope a) ty fits))
      level ty (term.Binary o a b) h fits w =
          let both = both_fit o (judged scope a) (judged scope b) ty fits in
          binary_computes o _ _ _ _ (λ p q. pointers_between o (judged scope a) (judged scope b) ty fits (own_kind a p)
          (own_kind b q)) (h.0 both.0) (h.1 both.1)
      level ty (term.Index a b) h fits w =
          let j = judged scope a in let k = judged scope b in
          place_computes ty w _ _ (index_computes _ _ _ _ (h.0 (address_fits j (and_first (is_address j) _ fits)))
          (h.1 (int_fits k (and_first (is_int k) _ (and_rest (is_address j) _ fits)))))
      level ty (term.Member a offset) h fits w =
          place_computes ty w _ _ (member_computes offset _ _ ((h (and_first (judged scope a).fits _ fits)).form
          want.Place))
      level ty (term.Arrow a offset) h fits w =
          let j = judged scope a in
          place_computes ty w _ _ (member_computes offset _ _ ((h (address_fits j (and_first (is_address j)
          _ fits))).form want.Value))
      level ty (term.Deref a) h fits w =
          let j = judged scope a in
          place_computes ty w _ _ ((h (address_fits j (and_first (is_address j) _ fits))).form want.Value)
      level ty (term.Address a) h fits w = (h (and_first (judged scope a).fits _ fits)).form want.Place
      level ty (term.SizeOf cells) h fits w = word_computes (4 * cells % 2 ^ 32)

      pub expr_fits : (e : TypedExpr) → P e
      expr_fits = expr_induction P (λ ty k h fits.
          subst (Fits (lowered structs params (typed ty k)))
          (sym (expr_at _ _ (term_way arith structs here params) meant_step ty k))
          (subst (λ l. Fits l
          (meant_step (record { ty = ty; kind = term_of _ _ (term_way arith structs here params) meant_step k })))
          (sym (expr_at _ _ (term_step structs params) lowered_step ty k))
          (record {
            ty = refl;
            kind = subst (λ m. Kinded (is_pointer m.ty) (m.way want.Value))
                (expr_at _ _ (term_way arith structs here params) meant_step ty k) (value_kinded (typed ty k) fits);
            form = level ty k h (subst (λ j. j.fits ≡ true) (expr_at _ _ (term_judged scope) (λ e. e.kind e.ty) ty k)
                fits);
          })))
