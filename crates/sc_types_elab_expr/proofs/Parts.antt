-- What is judged of an expression by its parts is what is judged of the whole.
use Rattle.sc_types_elab_expr.proofs.Common.{Bool, Err, Found, Global, IfOk, Judged, List, None, Ok, Option, Result}
use Rattle.sc_types_elab_expr.proofs.Common.{Scope, Some, Suits, Ty, TypedExpr, TypedMember, TypedStruct, Visible, []}
use Rattle.sc_types_elab_expr.proofs.Common.{ap, arith, binary_fits, bytes_eq, decayed, eq-eqb, false, variable_named}
use Rattle.sc_types_elab_expr.proofs.Common.{has_member, is_address, is_int, is_pointer, is_some, is_type}
use Rattle.sc_types_elab_expr.proofs.Common.{is_zero_literal, judged, literal_fits, member_named, member_of}
use Rattle.sc_types_elab_expr.proofs.Common.{member_offset, member_ty, most_cells, nat_le, no_ty, option_and_then}
use Rattle.sc_types_elab_expr.proofs.Common.{pointer_to, position, refl, same_base, same_ty, slice_get, struct_of, suc}
use Rattle.sc_types_elab_expr.proofs.Common.{sym, target, term_judged, true, unary_fits, variable_typed, zero}
use Rattle.sc_types_elab_expr.proofs.Common.{zero_step, ℕ, ◌&&◌, ◌==◌, ◌∙◌, ◌∷◌, ◌≡◌}
use Rattle.sc_core.specs.declared.ty.BaseTy.{BaseTy}
use Rattle.sc_core.proofs.Judged.{judged_ty}
use Rattle.std.specs.List.{list_any}
use Rattle.sc_base.specs.declared.op.BinaryOp.{BinaryOp}
use Rattle.sc_base.specs.declared.op.UnaryOp.{UnaryOp}
use Rattle.sc_core.specs.declared.ty.Ty.TheVariants as ty
use Rattle.sc_core.specs.declared.ty.BaseTy.TheVariants as base
use Rattle.sc_core.specs.declared.expr.TypedKind
use Rattle.sc_core.specs.declared.expr.TypedKind.{TypedKind-F, roll-TypedKind, out-TypedKind, roll-out-TypedKind}
use Rattle.sc_core.specs.declared.expr.TypedKind.TheOpen as term
use Rattle.sc_core.specs.declared.expr.TypedKind.TheVariants.{rolls-Literal, rolls-Variable, rolls-Unary, rolls-Binary}
use Rattle.sc_core.specs.declared.expr.TypedKind.TheVariants.{rolls-Index, rolls-Member, rolls-Arrow, rolls-Deref}
use Rattle.sc_core.specs.declared.expr.TypedKind.TheVariants.{rolls-Address, rolls-SizeOf}
use Rattle.sc_core.proofs.Layers.{typed as typed_as}
use Rattle.sc_core.proofs.Layers as layers
use Rattle.sc_types_elab_expr.specs.declared.expr.Built.{Built}

same_base-refl : (b : BaseTy) → same_base b b ≡ true
same_base-refl (base.Struct n) = eq-eqb n n refl
same_base-refl _ = refl

pub same_ty-refl : (t : Ty) → same_ty t t ≡ true
same_ty-refl (ty.Struct n) = eq-eqb n n refl
same_ty-refl (ty.Pointer s b) = cc (eq-eqb s s refl, same_base-refl b)
same_ty-refl (ty.Array s b k) = cc (eq-eqb s s refl, same_base-refl b, eq-eqb k k refl)
same_ty-refl _ = refl

-- the member of a name is one of the struct's members
has_named : (xs : List TypedMember) (i : ℕ) (m : TypedMember) → slice_get xs i ≡ Some m →
    list_any {X = TypedMember} (λ x. x.offset == m.offset && same_ty x.ty m.ty) xs ≡ true
has_named [] i m is = cc
has_named (x ∷ xs) zero m is = grind (arith, eq-eqb m.offset m.offset refl, same_ty-refl m.ty)
has_named (x ∷ xs) (suc i) m is = grind (arith, has_named xs i m)

has_found : (name : List ℕ) (s : Option TypedStruct) (m : TypedMember) → member_named name s ≡ Some m →
    has_member s m.offset m.ty ≡ true
has_found name None m is = cc
has_found name (Some s) m is = at (position (λ member. bytes_eq name _) s.members) is where
  at : (place : Option ℕ) → option_and_then (slice_get s.members) place ≡ Some m →
      has_member (Some s) m.offset m.ty ≡ true
  at None is = cc
  at (Some i) is = has_named _ i m is

abbrev pub value : Ty → Bool → Judged
value t fits = record { ty = t; fits = fits; place = false; null = false }

abbrev pub place : Ty → Bool → Judged
place t fits = record { ty = t; fits = fits; place = true; null = false }

module _ (scope : Scope) where
  -- an expression of this type, by its layer
  at : (t : Ty) (k : TypedKind-F TypedKind.TypedKind TypedExpr) →
      judged scope (typed_as t k) ≡ layers.term_of (Ty → Judged) Judged (term_judged scope) (λ e. e.kind e.ty) k t
  at t k = layers.expr_at _ Judged _ _ t k

  zero_at : (t : Ty) (k : TypedKind-F TypedKind.TypedKind TypedExpr) →
      is_zero_literal (typed_as t k) ≡ layers.term_of Bool Bool zero_step (λ e. e.kind) k
  zero_at t k = layers.expr_at Bool Bool _ _ t k

  as_kind : (t : Ty) (kind : TypedKind.TypedKind) (k : TypedKind-F TypedKind.TypedKind TypedExpr) →
      roll-TypedKind k ≡ kind → judged scope (record { ty = t; kind = kind }) ≡
      layers.term_of (Ty → Judged) Judged (term_judged scope) (λ e. e.kind e.ty) k t
  as_kind t kind k is = ap (λ x. judged scope (record { ty = t; kind = x })) (sym is) ∙ at t k

  pub literal_judged : (t : Ty) (n : ℕ) → record {
    ty = t;
    fits = literal_fits n t;
    place = false;
    null = is_pointer t;
  } ≡ judged scope (record { ty = t; kind = TypedKind.Literal n })
  literal_judged t n = sym (as_kind t _ (term.Literal n) (rolls-Literal n))

  pub unary_judged : (o : UnaryOp) (e : TypedExpr) (j : Judged) (t : Ty) → j ≡ judged scope e →
      value t (unary_fits o j t) ≡ judged scope (record { ty = t; kind = TypedKind.Unary o e })
  unary_judged o e j t is = cc (as_kind t (TypedKind.Unary o e) (term.Unary o e) (rolls-Unary o e))

  pub binary_judged : (o : BinaryOp) (a b : TypedExpr) (j k : Judged) (t : Ty) → j ≡ judged scope a →
      k ≡ judged scope b → value t (binary_fits o j k t) ≡
      judged scope (record { ty = t; kind = TypedKind.Binary o a b })
  binary_judged o a b j k t first second =
      cc (as_kind t (TypedKind.Binary o a b) (term.Binary o a b) (rolls-Binary o a b))

  pub index_judged : (a b : TypedExpr) (j k : Judged) (t : Ty) → j ≡ judged scope a → k ≡ judged scope b →
      place t (is_address j && (is_int k && is_type (target (decayed a.ty)) t)) ≡
      judged scope (record { ty = t; kind = TypedKind.Index a b })
  index_judged a b j k t first second =
      cc (judged_ty scope a, as_kind t (TypedKind.Index a b) (term.Index a b) (rolls-Index a b))

  pub deref_judged : (a : TypedExpr) (j : Judged) (t : Ty) → j ≡ judged scope a → place t
      (is_address j && is_type (target (decayed a.ty)) t) ≡ judged scope (record { ty = t; kind = TypedKind.Deref a })
  deref_judged a j t is = cc (judged_ty scope a, as_kind t (TypedKind.Deref a) (term.Deref a) (rolls-Deref a))

  pub address_judged : (a : TypedExpr) (j : Judged) (t : Ty) → j ≡ judged scope a → value t (j.fits &&
      (j.place && is_type (pointer_to a.ty) t)) ≡ judged scope (record { ty = t; kind = TypedKind.Address a })
  address_judged a j t is =
      cc (judged_ty scope a, as_kind t (TypedKind.Address a) (term.Address a) (rolls-Address a))

  pub sizeof_judged : (cells : ℕ) → value ty.Unsigned (nat_le cells most_cells) ≡
      judged scope (record { ty = ty.Unsigned; kind = TypedKind.SizeOf cells })
  sizeof_judged cells = grind (arith, as_kind ty.Unsigned _ (term.SizeOf cells) (rolls-SizeOf cells))

  -- Null pointers.

  null_at : (k : TypedKind-F TypedKind.TypedKind TypedExpr) (t u : Ty) → is_zero_literal (typed_as u k) ≡ true →
      judged scope (typed_as t k) ≡ record { ty = t; fits = literal_fits 0 t; place = false; null = is_pointer t }
  null_at (term.Literal zero) t u h = at t (term.Literal zero)
  null_at k t u h = cc (zero_at u k)

  null_is : (e : TypedExpr) (t : Ty) → is_zero_literal e ≡ true → judged scope (record {
    ty = t;
    kind = e.kind;
  }) ≡ record { ty = t; fits = literal_fits 0 t; place = false; null = is_pointer t }
  null_is e t h = ap (λ k. judged scope (record { ty = t; kind = k }))
      (sym (roll-out-TypedKind e.kind)) ∙ null_at (out-TypedKind e.kind) t e.ty
      (ap (λ k. is_zero_literal (record { ty = e.ty; kind = k })) (roll-out-TypedKind e.kind) ∙ h)

  pub null_judged : (t : Ty) (e : TypedExpr) → is_pointer t ≡ true → is_zero_literal e ≡ true → record {
    ty = decayed t;
    fits = true;
    place = false;
    null = true;
  } ≡ judged scope (record { ty = decayed t; kind = e.kind })
  null_judged (ty.Pointer s b) e h is = sym (null_is e _ is)
  null_judged (ty.Array s b k) e h is = sym (null_is e _ is)
  null_judged _ e h is = cc

  -- Names.
  module _ (visible : Visible) (suits : Suits visible scope) where
    pub variable_judged : (name : List ℕ) → place (variable_typed (variable_named visible name)).ty
        (is_some (variable_named visible name)) ≡ judged scope (variable_typed (variable_named visible name))
    variable_judged name = by _ refl where
      by : (f : Option Found) → variable_named visible name ≡ f →
          place (variable_typed f).ty (is_some f) ≡ judged scope (variable_typed f)
      by None is = (λ i. place no_ty (sym suits.unknown i)) ∙
          sym (as_kind no_ty _ (term.Variable (Global 0)) (rolls-Variable _))
      by (Some f) is =
          (λ i. place f.ty (sym (suits.known name f is) i)) ∙ sym (as_kind f.ty _ (term.Variable _) (rolls-Variable _))

    abbrev named : List ℕ → Option Ty → Option TypedMember
    named name t = member_named name (struct_of visible.structs t)

    -- a member is one that the struct has
    member_is : (name : List ℕ) (t : Option Ty) → is_some (named name t) ≡
        member_of scope t (member_offset (named name t)) (member_ty (named name t))
    member_is name (Some (ty.Struct n)) =
        by (named name (Some (ty.Struct n))) refl ∙ (λ i. has_member (slice_get (sym suits.structs i) n)
        (member_offset (named name (Some (ty.Struct n)))) (member_ty (named name (Some (ty.Struct n))))) where
          by : (m : Option TypedMember) → named name (Some (ty.Struct n)) ≡ m →
              is_some m ≡ has_member (slice_get visible.structs n) (member_offset m) (member_ty m)
          by None is = sym (suits.nothing n)
          by (Some m) is = sym (has_found name (slice_get visible.structs n) m is)
    member_is name _ = refl

    pub member_judged : (name : List ℕ) (a : TypedExpr) (j : Judged) → j ≡ judged scope a → place (member_ty (named name
        (Some a.ty))) (j.fits && (j.place && is_some (named name (Some a.ty)))) ≡ judged scope (record {
          ty = member_ty (named name (Some a.ty));
          kind = TypedKind.Member a (member_offset (named name (Some a.ty)));
        })
    member_judged name a j is = cc (
      member_is name (Some a.ty),
      judged_ty scope a,
      as_kind (member_ty (named name (Some a.ty))) (TypedKind.Member a (member_offset (named name (Some a.ty))))
          (term.Member a (member_offset (named name (Some a.ty)))) (rolls-Member _ _),
    )

    pub arrow_judged : (name : List ℕ) (a : TypedExpr) (j : Judged) →
        j ≡ judged scope a → place (member_ty (named name (target (decayed a.ty))))
        (is_address j && is_some (named name (target (decayed a.ty)))) ≡ judged scope (record {
          ty = member_ty (named name (target (decayed a.ty)));
          kind = TypedKind.Arrow a (member_offset (named name (target (decayed a.ty))));
        })
    arrow_judged name a j is =
        let m : Option TypedMember = named name (target (decayed a.ty)) in
        cc (
          member_is name (target (decayed a.ty)),
          judged_ty scope a,
          as_kind (member_ty m)
              (TypedKind.Arrow a (member_offset m)) (term.Arrow a (member_offset m)) (rolls-Arrow _ _),
        )

-- what holds of a result that is there, by what else holds of it
pub if_ok : {A E : Type 0} (P Q R : A → Type 0) (r : Result A E) → ((x : A) → P x → Q x → R x) → IfOk r P → IfOk r Q →
    IfOk r R
if_ok P Q R (Ok x) both p q = both x p q
if_ok P Q R (Err e) both p q = tt

-- a variable that is built is judged as one
pub variable_built : (scope : Scope) (visible : Visible) → Suits visible scope → (name : List ℕ) (f : Option Found)
    (b : Built) → f ≡ variable_named visible name → b.expr ≡ variable_typed f →
    b.judged ≡ place (variable_typed f).ty (is_some f) → b.judged ≡ judged scope b.expr
variable_built scope visible suits name f b is typed reported =
    cc (variable_judged scope visible suits name)

module _ (scope : Scope) (visible : Visible) (suits : Suits visible scope) (name : List ℕ) (a : TypedExpr) (j : Judged)
    (m : Option TypedMember) {E : Type 0} (r : Result Built E) (is : j ≡ judged scope a) where
  pub member_built : m ≡ member_named name (struct_of visible.structs (Some a.ty)) → IfOk r (λ b. b.expr ≡ record {
    ty = member_ty m;
    kind = TypedKind.Member a (member_offset m);
  }) → IfOk r (λ b. b.judged ≡ place (member_ty m)
      (j.fits && (j.place && is_some m))) → IfOk r (λ b. b.judged ≡ judged scope b.expr)
  member_built variable_named = if_ok (λ b. b.expr ≡ record {
    ty = member_ty m;
    kind = TypedKind.Member a (member_offset
        m);
  })
      (λ b. b.judged ≡ place (member_ty m) (j.fits && (j.place && is_some m))) _ r
      (λ b e p. cc (member_judged scope visible suits name a j is))

  pub arrow_built : (t : Option Ty) → t ≡ target (decayed a.ty) → m ≡ member_named name (struct_of visible.structs t) →
      IfOk r (λ b. b.expr ≡ record { ty = member_ty m; kind = TypedKind.Arrow a (member_offset m) }) → IfOk r
      (λ b. b.judged ≡ place (member_ty m) (is_address j && is_some m)) → IfOk r (λ b. b.judged ≡ judged scope b.expr)
  arrow_built t points is_found = if_ok _ _ _ r (λ b e p. cc (arrow_judged scope visible suits name a j is))
