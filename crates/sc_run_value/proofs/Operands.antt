-- What an expression gives, by what its parts give, and what is done at once, or not at all.
use Rattle.sc_run_value.proofs.Common.{Blocks, Bool, Cause, Err, Here, List, Meant, Memory, None, Ok, Result, Some}
use Rattle.sc_run_value.proofs.Common.{TypedExpr, Value, Ways, Word, ap, at_pointer, binary, bind, c_arith, decided}
use Rattle.sc_run_value.proofs.Common.{false, fold-roll-TypedExpr, if◌then◌else◌, is_array, is_pointer, is_true, joined}
use Rattle.sc_run_value.proofs.Common.{load, meant, meant_step, of_bool, refl, sym, term_step, true, wanted, ways, ℕ}
use Rattle.sc_run_value.proofs.Common.{◌∙◌, ◌≡◌}
use Rattle.sc_core.specs.declared.value.Want.TheVariants as want
use Rattle.sc_run_value.specs.Assigning.{AssignedIf, HoldsIf, PutIf, StoredIf}
use Rattle.sc_core.specs.declared.ty.Ty.{Ty}
use Rattle.sc_core.specs.declared.section.TypedStruct.{TypedStruct}
use Rattle.sc_base.specs.declared.op.BinaryOp.{BinaryOp}
use Rattle.sc_base.specs.declared.op.BinaryOp.TheVariants as op
use Rattle.sc_core.specs.declared.expr.TypedKind.{TypedKind, TypedKind-F, roll-TypedKind}
use Rattle.sc_core.specs.declared.expr.TypedKind.TheOpen as term
use Rattle.sc_core.specs.declared.expr.TypedKind.TheVariants.{Binary, Index, rolls-Binary, rolls-Index}
use Rattle.sc_core.specs.declared.value.Want.{Want}
use Rattle.sc_core.proofs.Layers.{expr_at, term_of}
use Rattle.sc_run_value.specs.Evaluation.{or_else}

by_first : (r : Result Value Cause) (f g : Value → Result Value Cause) → ((v : Value) → f v ≡ g v) → bind r f ≡ bind r g
by_first (Err cause) f g h = refl
by_first (Ok v) f g h = h v

and_is : (b : Bool) (r : Result Value Cause) → (if b then r else Ok (Word 0)) ≡
    or_else (if b then None else Some (Word 0)) r
and_is true r = refl
and_is false r = refl

or_is : (b : Bool) (r : Result Value Cause) → (if b then Ok (Word 1) else r) ≡
    or_else (if b then Some (Word 1) else None) r
or_is true r = refl
or_is false r = refl

module _ (structs : List TypedStruct) where
  -- an operator between two operands, by what the first one decides
  abbrev stepwise : BinaryOp → Meant → Meant → Blocks → Result Value Cause
  stepwise o a b blocks = bind (a.way want.Value blocks)
      (λ v. or_else (decided o v) (bind (b.way want.Value blocks) (joined structs blocks o a.ty b.ty v)))

  binary_is : (o : BinaryOp) (a b : Meant) (blocks : Blocks) →
      binary c_arith structs o a b blocks ≡ stepwise o a b blocks
  binary_is op.AndAlso a b blocks = by_first (a.way want.Value blocks) _ _
      (λ v. and_is (is_true v) (bind (b.way want.Value blocks) (λ w. Ok (of_bool (is_true w)))))
  binary_is op.OrElse a b blocks = by_first (a.way want.Value blocks) _ _
      (λ v. or_is (is_true v) (bind (b.way want.Value blocks) (λ w. Ok (of_bool (is_true w)))))
  binary_is _ a b blocks = refl

  module _ (here : Here) (params : ℕ) where
    abbrev way : TypedExpr → Ways
    way e = ways c_arith structs here params e

    meant_at : (e : TypedExpr) (k : TypedKind-F TypedKind TypedExpr) → e.kind ≡ roll-TypedKind k →
        meant c_arith structs here params e ≡ record {
          ty = e.ty;
          way = term_of _ _ (term_step c_arith structs here params) meant_step k e.ty;
        }
    meant_at e k is = ap (λ x. meant c_arith structs here params (record { ty = e.ty; kind = x })) is ∙ expr_at _ _
        (term_step c_arith structs here params) meant_step e.ty k

    way_at : (e : TypedExpr) (k : TypedKind-F TypedKind TypedExpr) → e.kind ≡ roll-TypedKind k →
        way e ≡ term_of _ _ (term_step c_arith structs here params) meant_step k e.ty
    way_at e k is = ap (λ m. m.way) (meant_at e k is)

    ty_is : (e : TypedExpr) → (meant c_arith structs here params e).ty ≡ e.ty
    ty_is e = ap (λ m. m.ty) (fold-roll-TypedExpr (Ty → Ways) Meant (term_step c_arith structs here params) meant_step
        (record { ty = e.ty; kind = e.kind }))

    pub binary_gives : (e : TypedExpr) (o : BinaryOp) (a b : TypedExpr) (wish : Want) (blocks : Blocks) →
        e.kind ≡ Binary o a b → way e wish blocks ≡ bind (way a want.Value blocks)
        (λ v. or_else (decided o v) (bind (way b want.Value blocks) (joined structs blocks o a.ty b.ty v)))
    binary_gives e o a b wish blocks is =
        (λ i. way_at e (term.Binary o a b) (is ∙ sym (rolls-Binary o a b)) i wish blocks) ∙
        binary_is o (meant c_arith structs here params a) (meant c_arith structs here params b) blocks
        ∙ ap (λ t. bind (way a want.Value blocks) (λ v.
        or_else (decided o v) (bind (way b want.Value blocks)
        (joined structs blocks o t (meant c_arith structs here params b).ty v)))) (ty_is a)
        ∙ ap (λ t. bind (way a want.Value blocks) (λ v.
        or_else (decided o v) (bind (way b want.Value blocks) (joined structs blocks o a.ty t v)))) (ty_is b)

    pub index_gives : (e a b : TypedExpr) (wish : Want) (blocks : Blocks) → e.kind ≡ Index a b →
        way e wish blocks ≡ bind (bind (way a want.Value blocks)
        (λ v. bind (way b want.Value blocks) (at_pointer structs blocks op.Add a.ty b.ty v)))
        (λ q. wanted e.ty q wish blocks)
    index_gives e a b wish blocks is =
        (λ i. way_at e (term.Index a b) (is ∙ sym (rolls-Index a b)) i wish blocks)
        ∙ ap (λ t. bind (bind (way a want.Value blocks)
        (λ v. bind (way b want.Value blocks) (at_pointer structs blocks op.Add t
        (meant c_arith structs here params b).ty v))) (λ q. wanted e.ty q wish blocks)) (ty_is a)
        ∙ ap (λ t. bind (bind (way a want.Value blocks)
        (λ v. bind (way b want.Value blocks) (at_pointer structs blocks op.Add a.ty t v)))
        (λ q. wanted e.ty q wish blocks)) (ty_is b)

    -- an expression that was found to be another, and its word
    pub word_same : (a b : TypedExpr) (blocks : Blocks) (v w : ℕ) → b ≡ a → v ≡ w →
        way b want.Value blocks ≡ Ok (Word w) → way a want.Value blocks ≡ Ok (Word v)
    word_same a b blocks v w same is gives =
        ap (λ e. way e want.Value blocks) (sym same) ∙ gives ∙ ap (λ n. Ok (Word n)) (sym is)

    module _ (e a b left right : TypedExpr) (blocks : Blocks) (v w x : Value) (l : left ≡ a) (r : right ≡ b)
        (first : way a want.Value blocks ≡ Ok v) (second : way b want.Value blocks ≡ Ok w) where
      -- both operands are known, and the first decides nothing
      pub binary_known : (o : BinaryOp) → e.kind ≡ Binary o a b → decided o v ≡ None →
          joined structs blocks o left.ty right.ty v w ≡ Ok x → way e want.Value blocks ≡ Ok x
      binary_known o is none both = binary_gives e o a b want.Value blocks is ∙ ap (λ r. bind r
          (λ v. or_else (decided o v) (bind (way b want.Value blocks) (joined structs blocks o a.ty b.ty v)))) first ∙
          ap (λ d. or_else d (bind (way b want.Value blocks) (joined structs blocks o a.ty b.ty v))) none ∙ ap
          (λ r. bind r (joined structs blocks o a.ty b.ty v)) second ∙ ap (λ t. joined structs blocks o t.ty b.ty v w)
          (sym l) ∙ ap (λ t. joined structs blocks o left.ty t.ty v w) (sym r) ∙ both

      -- array and index are known, and the element is of an integer type
      pub element_known : e.kind ≡ Index a b → is_array e.ty ≡ false → is_pointer e.ty ≡ false →
          bind (at_pointer structs blocks op.Add left.ty right.ty v w) (load blocks false) ≡ Ok x →
          way e want.Value blocks ≡ Ok x
      element_known is array pointer both = index_gives e a b want.Value blocks is ∙ ap (λ r. bind
          (bind r (λ v. bind (way b want.Value blocks) (at_pointer structs blocks op.Add a.ty b.ty v)))
          (λ q. wanted e.ty q want.Value blocks)) first ∙
          ap (λ r. bind (bind r (at_pointer structs blocks op.Add a.ty b.ty v)) (λ q. wanted e.ty q want.Value blocks))
          second ∙ ap (λ t. bind (at_pointer structs blocks op.Add a.ty b.ty v w)
          (λ q. if t then Ok q else load blocks (is_pointer e.ty) q)) array ∙
          ap (λ t. bind (at_pointer structs blocks op.Add a.ty b.ty v w) (load blocks t)) pointer ∙
          ap (λ t. bind (at_pointer structs blocks op.Add t.ty b.ty v w) (load blocks false)) (sym l) ∙
          ap (λ t. bind (at_pointer structs blocks op.Add left.ty t.ty v w) (load blocks false)) (sym r) ∙ both

      -- array and index are known, and with them the place of the element
      pub place_known : (row : Blocks) → row ≡ blocks → e.kind ≡ Index a b →
          at_pointer structs row op.Add left.ty right.ty v w ≡ Ok x → way e want.Place blocks ≡ Ok x
      place_known row same is both = index_gives e a b want.Place blocks is ∙ ap (λ r. bind
          (bind r (λ v. bind (way b want.Value blocks) (at_pointer structs blocks op.Add a.ty b.ty v)))
          (λ q. wanted e.ty q want.Place blocks)) first ∙
          ap (λ r. bind (bind r (at_pointer structs blocks op.Add a.ty b.ty v)) (λ q. wanted e.ty q want.Place blocks))
          second ∙ ap (λ t. bind (at_pointer structs blocks op.Add t.ty b.ty v w) (λ q. Ok q)) (sym l) ∙
          ap (λ t. bind (at_pointer structs blocks op.Add left.ty t.ty v w) (λ q. Ok q)) (sym r) ∙
          ap (λ bs. bind (at_pointer structs bs op.Add left.ty right.ty v w) (λ q. Ok q)) (sym same) ∙
          ap (λ r. bind r (λ q. Ok q)) both

-- a condition whose value is known
pub holds_by : (cond : Ways) (blocks : Blocks) (v : Value) (b : Bool) → b ≡ is_true v →
    cond want.Value blocks ≡ Ok v → HoldsIf b cond blocks
holds_by cond blocks v false same is = tt
holds_by cond blocks v true same is = record { given = v; is = is; holds = sym same }

module _ (comp : ℕ) (place : Ways) (v : Value) (before after : Memory) where
  -- a store at a place that is known
  pub put_by : (b : Bool) (at : Value) → place want.Place (before comp) ≡ Ok at →
      StoredIf b comp at v before after → PutIf b comp place v before after
  put_by false at is h = h
  put_by true at is h = record { at = at; found = is; stored = h }

  -- a value that is known
  pub assigned_by : (value : Ways) (b : Bool) → value want.Value (before comp) ≡ Ok v →
      PutIf b comp place v before after → AssignedIf b comp place value before after
  assigned_by value false is h = h
  assigned_by value true is h = record { given = v; is = is; put = h }
