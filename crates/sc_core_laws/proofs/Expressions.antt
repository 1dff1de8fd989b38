-- What expressions give in two arithmetics, of which one may blame where the other goes on.
use Rattle.sc_core_laws.proofs.Common.{Arith, BinaryOp, Blocks, Bool, Cause, Err, Here, List, Meant, Ok, Result}
use Rattle.sc_core_laws.proofs.Common.{TypedExpr, TypedStruct, Under, Value, Want, Ways, Word, [], ap, applied}
use Rattle.sc_core_laws.proofs.Common.{applied_one, as_word, at_place, at_pointer, binary, bind, choose, expr_at}
use Rattle.sc_core_laws.proofs.Common.{expr_induction, false, if◌then◌else◌, is_pointer, is_unsigned, map, meant}
use Rattle.sc_core_laws.proofs.Common.{meant_step, moved, on_words, pos, refl, subst, sym, term_of, term_step, true}
use Rattle.sc_core_laws.proofs.Common.{typed, values, ways, ℕ, ◌∙◌, ◌∷◌, ◌≡◌}
use Rattle.sc_base.specs.declared.op.UnaryOp.{UnaryOp}
use Rattle.sc_base.specs.declared.op.UnaryOp.TheVariants as unary
use Rattle.sc_base.specs.declared.op.BinaryOp.TheVariants as op
use Rattle.sc_core.specs.declared.ty.Ty.{Ty}
use Rattle.sc_core.specs.declared.expr.TypedKind.{TypedKind, TypedKind-F}
use Rattle.sc_core.specs.declared.expr.TypedKind.TheOpen as term
use Rattle.sc_core.specs.declared.value.Want.TheVariants as want

-- causes that are blamed only in the first arithmetic
module _ (Soft : Cause → Type 0) where
  -- the second gives the same, or the first blames so
  pub data Keeps (V : Type 0) (r r' : Result V Cause) : Type 0 where
    alike : r' ≡ r → Keeps V r r'
    blamed : (cause : Cause) → Soft cause → r ≡ Err cause → Keeps V r r'

  pub bind_keeps : (V W : Type 0) (r r' : Result V Cause) (f g : V → Result W Cause) → Keeps V r r' →
      ((v : V) → Keeps W (f v) (g v)) → Keeps W (bind r f) (bind r' g)
  bind_keeps V W (Ok v) r' f g (alike is) h = subst (λ x. Keeps W (f v) (bind x g)) (sym is) (h v)
  bind_keeps V W (Err cause) r' f g (alike is) h = alike (ap (λ x. bind x g) is)
  bind_keeps V W r r' f g (blamed cause soft is) h = blamed cause soft (ap (λ x. bind x f) is)

  pub if_keeps : (V : Type 0) (b : Bool) (r r' x x' : Result V Cause) → Keeps V r r' → Keeps V x x' →
      Keeps V (if b then r else x) (if b then r' else x')
  if_keeps V true r r' x x' h k = h
  if_keeps V false r r' x x' h k = k

  -- an arithmetic against another
  pub record ArithKeeps (ar br : Arith) : Type 0 where
    pub binary : (unsigned : Bool) (o : BinaryOp) (a b : ℕ) →
        Keeps ℕ (ar.binary unsigned o a b) (br.binary unsigned o a b)
    pub negated : (unsigned : Bool) (a : ℕ) → Keeps ℕ (ar.negated unsigned a) (br.negated unsigned a)

  module _ (ar br : Arith) (arith : ArithKeeps ar br) where
    pub word_keeps : (r r' : Result ℕ Cause) → Keeps ℕ r r' → Keeps Value (as_word r) (as_word r')
    word_keeps r r' h = bind_keeps ℕ Value r r' _ _ h (λ w. alike refl)

    pub on_words_keep : (unsigned : Bool) (o : BinaryOp) (v w : Value) →
        Keeps Value (on_words ar unsigned o v w) (on_words br unsigned o v w)
    on_words_keep unsigned o (Word a) (Word b) = word_keeps _ _ (arith.binary _ o a b)
    on_words_keep unsigned o _ _ = alike refl

    pub one_keeps : (unsigned : Bool) (o : UnaryOp) (v : Value) →
        Keeps Value (applied_one ar unsigned o v) (applied_one br unsigned o v)
    one_keeps unsigned unary.Minus (Word a) = word_keeps _ _ (arith.negated _ a)
    one_keeps unsigned _ _ = alike refl

    module _ (structs : List TypedStruct) where
      pub applied_keeps : (blocks : Blocks) (o : BinaryOp) (left right : Ty) (v w : Value) →
          Keeps Value (applied ar structs blocks o left right v w) (applied br structs blocks o left right v w)
      applied_keeps blocks o left right v w =
          if_keeps Value (is_pointer left) _ _ _ _ (if_keeps Value (is_pointer right) _ _ _ _ (alike refl) (alike refl))
          (if_keeps Value (is_pointer right) _ _ _ _ (alike refl) (on_words_keep _ o v w))

      -- an expression in both: of one type, and what it gives is kept
      pub record Agrees (a b : Meant) : Type 0 where
        pub ty : b.ty ≡ a.ty
        pub way : (w : Want) (blocks : Blocks) → Keeps Value (a.way w blocks) (b.way w blocks)

      -- the same of types that are equal
      pub at_types : (blocks : Blocks) (o : BinaryOp) (left left' right right' : Ty) (v w : Value) → left' ≡ left →
          right' ≡ right →
          Keeps Value (applied ar structs blocks o left right v w) (applied br structs blocks o left' right' v w)
      at_types blocks o left left' right right' v w is is' =
          subst (λ t. Keeps Value (applied ar structs blocks o left right v w) (applied br structs blocks o t right' v
          w)) (sym is) (subst (λ t. Keeps Value (applied ar structs blocks o left right v w)
          (applied br structs blocks o left t v w)) (sym is') (applied_keeps blocks o left right v w))

      pub choose_keeps : (v : Value) (r r' x x' : Result Value Cause) → Keeps Value r r' → Keeps Value x x' →
          Keeps Value (choose v r x) (choose v r' x')
      choose_keeps v r r' x x' h k = if_keeps Value _ r r' x x' h k

      pub binary_keeps : (o : BinaryOp) (a a' b b' : Meant) → Agrees a a' → Agrees b b' → (blocks : Blocks) →
          Keeps Value (binary ar structs o a b blocks) (binary br structs o a' b' blocks)
      binary_keeps op.AndAlso a a' b b' h k blocks = bind_keeps Value Value _ _ _ _ (h.way want.Value blocks)
          (λ v. choose_keeps v _ _ _ _ (bind_keeps Value Value _ _ _ _ (k.way _ blocks) (λ w. alike refl)) (alike refl))
      binary_keeps op.OrElse a a' b b' h k blocks = bind_keeps Value Value _ _ _ _ (h.way _ blocks)
          (λ v. choose_keeps v _ _ _ _ (alike refl) (bind_keeps Value Value _ _ _ _ (k.way _ blocks) (λ w. alike refl)))
      binary_keeps o a a' b b' h k blocks = bind_keeps Value Value _ _ _ _ (h.way _ blocks) (λ v. bind_keeps Value Value
          _ _ _ _ (k.way _ blocks) (λ w. at_types blocks o a.ty a'.ty b.ty b'.ty v w h.ty k.ty))

      place_keeps : (ty : Ty) (p p' : Blocks → Result Value Cause) →
          ((blocks : Blocks) → Keeps Value (p blocks) (p' blocks)) → (w : Want) (blocks : Blocks) →
          Keeps Value (at_place ty p w blocks) (at_place ty p' w blocks)
      place_keeps ty p p' h w blocks = bind_keeps Value Value _ _ _ _ (h blocks) (λ q. alike refl)

      index_at : (blocks : Blocks) (left left' right right' : Ty) (v w : Value) → left' ≡ left → right' ≡ right → Keeps
          Value (at_pointer structs blocks op.Add left right v w) (at_pointer structs blocks op.Add left' right' v w)
      index_at blocks left left' right right' v w is is' =
          alike (ap (λ t. at_pointer structs blocks op.Add t right' v w) is
          ∙ ap (λ t. at_pointer structs blocks op.Add left t v w) is')

      module _ (here : Here) (params : ℕ) where
        abbrev Both : TypedExpr → Type 0
        Both e = Agrees (meant ar structs here params e) (meant br structs here params e)

        abbrev meant_by : Arith → Ty → TypedKind-F TypedKind TypedExpr → Meant
        meant_by arith ty k =
            record { ty = ty; way = term_of _ _ (term_step arith structs here params) meant_step k ty }

        term_keeps : (ty : Ty) (k : TypedKind-F TypedKind TypedExpr) → Under Both k → (w : Want) (blocks : Blocks) →
            Keeps Value ((meant_by ar ty k).way w blocks) ((meant_by br ty k).way w blocks)
        term_keeps ty (term.Literal word) h w blocks = alike refl
        term_keeps ty (term.Variable v) h w blocks = alike refl
        term_keeps ty (term.Unary o a) h w blocks =
            bind_keeps Value Value _ _ _ _ (h.way want.Value blocks) (λ v. subst (λ t. Keeps Value
            (applied_one ar (is_unsigned (meant ar structs here params a).ty) o v) (applied_one br (is_unsigned t) o v))
            (sym h.ty) (one_keeps (is_unsigned (meant ar structs here params a).ty) o v))
        term_keeps ty (term.Binary o a b) h w blocks = binary_keeps o _ _ _ _ h.0 h.1 blocks
        term_keeps ty (term.Index a b) h w blocks =
            place_keeps ty _ _ (λ blocks. bind_keeps Value Value _ _ _ _ (h.0.way want.Value blocks) (λ v. bind_keeps
            Value Value _ _ _ _ (h.1.way want.Value blocks) (λ x. index_at blocks _ _ _ _ v x h.0.ty h.1.ty))) w blocks
        term_keeps ty (term.Member a offset) h w blocks =
            place_keeps ty _ _ (λ blocks. bind_keeps Value Value _ _ (moved blocks (pos offset))
            (moved blocks (pos offset)) (h.way want.Place blocks) (λ v. alike refl)) w blocks
        term_keeps ty (term.Arrow a offset) h w blocks =
            place_keeps ty _ _ (λ blocks. bind_keeps Value Value _ _ (moved blocks (pos offset))
            (moved blocks (pos offset)) (h.way want.Value blocks) (λ v. alike refl)) w blocks
        term_keeps ty (term.Deref a) h w blocks = place_keeps ty _ _ (λ blocks. h.way want.Value blocks) w blocks
        term_keeps ty (term.Address a) h w blocks = h.way want.Place blocks
        term_keeps ty (term.SizeOf cells) h w blocks = alike refl

        expr_agrees : (e : TypedExpr) → Both e
        expr_agrees =
            expr_induction Both (λ ty k h. subst (λ x. Agrees x (meant br structs here params (typed ty k)))
            (sym (expr_at _ _ _ _ ty k)) (subst (Agrees _) (sym (expr_at _ _ _ _ ty k))
            (record { ty = refl; way = term_keeps ty k h })))

        -- what an expression gives is kept
        abbrev pub WayKeeps : Ways → Ways → Type 0
        WayKeeps f g = (w : Want) (blocks : Blocks) → Keeps Value (f w blocks) (g w blocks)

        pub ways_keep : (e : TypedExpr) → WayKeeps (ways ar structs here params e) (ways br structs here params e)
        ways_keep e = (expr_agrees e).way

        pub values_keep : (es : List TypedExpr) (blocks : Blocks) →
            Keeps (List Value) (values (map (ways ar structs here params) es) blocks)
            (values (map (ways br structs here params) es) blocks)
        values_keep [] blocks = alike refl
        values_keep (e ∷ es) blocks = bind_keeps Value _ _ _ _ _ (ways_keep e _ blocks)
            (λ v. bind_keeps (List Value) _ _ _ _ _ (values_keep es blocks) (λ vs. alike refl))
