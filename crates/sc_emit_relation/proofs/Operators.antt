-- The word that an operator's code computes stands for the operator's value.
use Rattle.sc_emit_relation.proofs.Common.{BadPointer, BadType, BlocksMatch, Bool, ByteMemory as Bytes, Cause, Cell}
use Rattle.sc_emit_relation.proofs.Common.{Err, ImageParts, Injection, IsAddress, IsElement, IsSound, List, LiveAt}
use Rattle.sc_emit_relation.proofs.Common.{Means, Null, Ok, Option, Pointer, Ptr, Result, Some, StandsFor, Value, Word}
use Rattle.sc_emit_relation.proofs.Common.{add_word, ap, apart, applied_one, ap₂, arith, between, bind, bytes_of}
use Rattle.sc_emit_relation.proofs.Common.{div_word, eq-eqb, eqb-true, false, if◌then◌else◌, in_elements, int_div}
use Rattle.sc_emit_relation.proofs.Common.{int_rem, is_comparison, is_inside, is_pointer, is_unsigned, is_zero, length}
use Rattle.sc_emit_relation.proofs.Common.{moved, moved_back, moved_on, nat_lt, ne_eqb, neg_ℤ, negated_word, not}
use Rattle.sc_emit_relation.proofs.Common.{number_of, of_bool, on_all_words, on_words, op_word, operated, ordered, pos}
use Rattle.sc_emit_relation.proofs.Common.{refl, same_Some, same_place, stepped_word, sub_word, subst, sym, takes_two}
use Rattle.sc_emit_relation.proofs.Common.{true, true≢false, truth, unary_word, word_of, wrapping, ℕ, ℤ, ⊎_elim, ◌&&◌}
use Rattle.sc_emit_relation.proofs.Common.{◌*ℤ◌, ◌*◌, ◌+ℤ◌, ◌+◌, ◌-ℤ◌, ◌-◌, ◌<◌, ◌==◌, ◌^◌, ◌∙◌, ◌≡◌, ◌≢◌, ◌≤◌}
use Rattle.sc_core.specs.Prelude.{Memory}
use Rattle.sc_image.specs.Prelude.{data_end}
use Rattle.sc_base.specs.declared.op.UnaryOp.{UnaryOp}
use Rattle.sc_base.specs.declared.op.UnaryOp.TheVariants as unary
use Rattle.sc_base.specs.declared.op.BinaryOp.{BinaryOp}
use Rattle.sc_base.specs.declared.op.BinaryOp.TheVariants as op
use Rattle.sc_tac.specs.declared.stmt.TacOp.{TacOp}
use Rattle.sc_tac.specs.declared.stmt.TacOp.TheVariants as tacop
use Rattle.sc_emit_hart.proofs.Addresses.{elements_on, elements_back, member_on, elements_between, order_of, order_back}
use Rattle.sc_emit_hart.proofs.Addresses.{same_of}
use Rattle.sc_emit_hart.proofs.Below.{op_below}
use Rattle.sc_emit_relation.proofs.Pointers.{moved_found, between_found, Apart, apart_found, bound}

-- the data of a compartment end below 2 ^ 31
pub data_below : (c : ℕ) → c < 32 → data_end c < 2 ^ 31
data_below c h = omega (arith, h)

-- A value before an operator.
module _ (place : ℕ → Option ℕ) where
  twice : (t : Bool) → t ≡ not (not t)
  twice true = refl
  twice false = refl

  not_zero : (a : ℕ) → 0 < a → (a == 0) ≡ false
  not_zero a h = ne_eqb a 0 (λ e. omega arith)

  word_means : (n w : ℕ) (r : Value) → Word n ≡ r → w ≡ n → Means place r w
  word_means n w r same e = subst (λ r. Means place r w) same e

  not_means : (v r : Value) (a : ℕ) → Means place v a → applied_one wrapping false unary.Not v ≡ Ok r →
      Means place r (truth (a == 0))
  not_means (Word n) r a is h =
      let same : Word (truth (not (not (n == 0)))) ≡ r = cc h in
      word_means (truth (not (not (n == 0)))) (truth (a == 0)) r same
      (ap (λ n. truth (n == 0)) is ∙ ap truth (twice (n == 0)))
  not_means Null r a is h =
      let same : Word 1 ≡ r = cc h in
      word_means 1 (truth (a == 0)) r same (ap (λ n. truth (n == 0)) is)
  not_means (Ptr p) r a is h =
      let same : Word 0 ≡ r = cc h in
      word_means 0 (truth (a == 0)) r same (ap truth (not_zero a is.3.above))

  unary_means : (unsigned : Bool) (o : UnaryOp) (v r : Value) (a : ℕ) → Means place v a →
      applied_one wrapping unsigned o v ≡ Ok r → Means place r (unary_word unsigned o a)
  unary_means unsigned unary.Minus (Word n) r a is h =
      let same : Word (negated_word unsigned n) ≡ r = cc h in
      word_means (negated_word unsigned n) (negated_word unsigned a) r same (ap (negated_word unsigned) is)
  unary_means unsigned unary.Minus Null r a is h = cc h
  unary_means unsigned unary.Minus (Ptr p) r a is h = cc h
  unary_means unsigned unary.Plus v r a is h =
      let same : v ≡ r = cc h in subst (λ r. Means place r a) same is
  unary_means unsigned unary.Not v r a is h = not_means v r a is h
  unary_means unsigned unary.BitNot (Word n) r a is h =
      let same : Word (2 ^ 32 - 1 - n) ≡ r = cc h in
      word_means (2 ^ 32 - 1 - n) (2 ^ 32 - 1 - a) r same (ap (λ n. 2 ^ 32 - 1 - n) is)
  unary_means unsigned unary.BitNot Null r a is h = cc h
  unary_means unsigned unary.BitNot (Ptr p) r a is h = cc h

  binary_means : (unsigned : Bool) (o : BinaryOp) (v w r : Value) (a b : ℕ) → Means place v a → Means place w b →
      on_words wrapping unsigned o v w ≡ Ok r → Means place r (on_all_words unsigned o a b)
  binary_means unsigned o (Word n) (Word m) r a b is its h =
      let same : Word (on_all_words unsigned o n m) ≡ r = cc h in
      word_means (on_all_words unsigned o n m) (on_all_words unsigned o a b) r same
      (ap₂ (on_all_words unsigned o) is its)
  binary_means unsigned o (Word n) Null r a b is its h = cc h
  binary_means unsigned o (Word n) (Ptr q) r a b is its h = cc h
  binary_means unsigned o Null w r a b is its h = cc h
  binary_means unsigned o (Ptr p) w r a b is its h = cc h

-- Pointers.
module _ {image : ImageParts} {performs : ℕ → Bool} {floor : ℕ → ℕ} {inj : Injection} {memory : Memory}
    {bytes : Bytes} (matches : BlocksMatch image performs floor inj memory bytes) {comp : ℕ}
    (honest : performs comp ≡ false) (known : comp < 32) where
  -- where a place is

  -- a place in a block that lives, or one past its last cell
  pub place_address : (b x i : ℕ) (cells : List Cell) → LiveAt memory comp b cells → inj comp b ≡ Some x →
      i ≤ length cells → IsAddress (x + 4 * i)
  place_address b x i cells live lies inside =
      let placed = matches.placed comp b x cells honest live lies in
      let below = data_below comp known in
      record { above = omega (arith, placed.low); below = omega (arith, placed.high, below) }

  address_small : (w : ℕ) → IsAddress w → w < 2 ^ 32
  address_small w h = omega (arith, h.below)

  -- a place that a move comes to
  moves_mean : (by : ℤ) (v r : Value) (a w : ℕ) → moved (memory comp) by v ≡ Ok r → Means (inj comp) v a →
      ((x i m : ℕ) → a ≡ x + 4 * i → a < 2 ^ 32 → x + 4 * m < 2 ^ 32 → pos i +ℤ by ≡ pos m → w ≡ x + 4 * m) →
      Means (inj comp) r w
  moves_mean by v r a w h is go =
      let moves = moved_found (memory comp) by v r h in
      let its = subst (λ v. Means (inj comp) v a) moves.its is in
      let x : ℕ = its.0 in
      let address = place_address moves.from.block x moves.index moves.cells moves.live its.1 moves.inside in
      let there : w ≡ x + 4 * moves.index =
      go x moves.from.index moves.index its.2 (address_small a its.3) (address_small (x + 4 * moves.index) address)
      moves.sum in
      subst (λ r. Means (inj comp) r w) moves.result
      (x, its.1, there, subst IsAddress (sym there) address)

  on_means : (cells : ℕ) (unsigned : Bool) (v w r : Value) (a b : ℕ) → b < 2 ^ 32 → Means (inj comp) v a →
      Means (inj comp) w b → moved_on (memory comp) cells unsigned v w ≡ Ok r →
      Means (inj comp) r (stepped_word false cells a b)
  on_means cells unsigned v (Word n) r a b below is its h =
      moves_mean (pos cells *ℤ number_of unsigned n) v r a (stepped_word false cells a b) h is
      (λ x i m e from to sum.
      ap (λ a. stepped_word false cells a b) e ∙
      elements_on x i m cells b (subst (λ a. a < 2 ^ 32) e from) to unsigned below
      (subst (λ n. pos i +ℤ pos cells *ℤ number_of unsigned n ≡ pos m) (sym its) sum))
  on_means cells unsigned v Null r a b below is its h = cc h
  on_means cells unsigned v (Ptr q) r a b below is its h = cc h

  back_means : (cells : ℕ) (unsigned : Bool) (v w r : Value) (a b : ℕ) → b < 2 ^ 32 → Means (inj comp) v a →
      Means (inj comp) w b → moved_back (memory comp) cells unsigned v w ≡ Ok r →
      Means (inj comp) r (stepped_word true cells a b)
  back_means cells unsigned v (Word n) r a b below is its h =
      moves_mean (neg_ℤ (pos cells *ℤ number_of unsigned n)) v r a (stepped_word true cells a b) h is
      (λ x i m e from to sum.
      ap (λ a. stepped_word true cells a b) e ∙
      elements_back x i m cells b (subst (λ a. a < 2 ^ 32) e from) to unsigned below
      (subst (λ n. pos i +ℤ neg_ℤ (pos cells *ℤ number_of unsigned n) ≡ pos m) (sym its) sum))
  back_means cells unsigned v Null r a b below is its h = cc h
  back_means cells unsigned v (Ptr q) r a b below is its h = cc h

  member_means : (offset : ℕ) (v r : Value) (a : ℕ) → Means (inj comp) v a →
      moved (memory comp) (pos offset) v ≡ Ok r → Means (inj comp) r (add_word a (bytes_of offset))
  member_means offset v r a is h =
      moves_mean (pos offset) v r a (add_word a (bytes_of offset)) h is
      (λ x i m e from to sum. ap (λ a. add_word a (bytes_of offset)) e ∙ member_on x i m offset to sum)

  -- the words of two places of one block
  record OneBlock (a b : ℕ) (by : ℤ) : Type 0 where
    base : ℕ
    i : ℕ
    j : ℕ
    left : a ≡ base + 4 * i
    right : b ≡ base + 4 * j
    first : IsAddress a
    second : IsAddress b
    far : pos i -ℤ pos j ≡ by

  abbrev one_base : (p q : Pointer) (a b : ℕ) → p.block ≡ q.block → Means (inj comp) (Ptr p) a →
      Means (inj comp) (Ptr q) b →
      OneBlock a b (pos p.index -ℤ pos q.index)
  one_base p q a b same is its =
      let x : ℕ = is.0 in
      let y : ℕ = its.0 in
      let base : y ≡ x = same_Some y x (sym its.1 ∙ ap (inj comp) (sym same) ∙ is.1) in
      record {
        base = x;
        i = p.index;
        j = q.index;
        left = is.2;
        right = its.2 ∙ ap (λ x. x + 4 * q.index) base;
        first = is.3;
        second = its.3;
        far = refl;
      }

  one_block : (v w : Value) (by : ℤ) (a b : ℕ) → apart v w ≡ Ok by → Means (inj comp) v a → Means (inj comp) w b →
      OneBlock a b by
  one_block v w by a b h is its =
      let found = between_found v w by h in
      subst (OneBlock a b) found.far
      (one_base found.left found.right a b found.together (subst (λ v. Means (inj comp) v a) found.is_left is)
      (subst (λ w. Means (inj comp) w b) found.is_right its))

  -- a whole number of elements
  in_elements_by : (cells : ℕ) (by : ℤ) (r : Value) (w : ℕ) (whole : Bool) →
      (if whole then Ok (Word (word_of (int_div by (pos cells)))) else Err BadPointer) ≡ Ok r →
      w ≡ word_of (int_div by (pos cells)) → Means (inj comp) r w
  in_elements_by cells by r w true h e =
      let same : Word (word_of (int_div by (pos cells))) ≡ r = cc h in
      word_means (inj comp) (word_of (int_div by (pos cells))) w r same e
  in_elements_by cells by r w false h e = cc h

  difference_means : (cells : ℕ) (v w r : Value) (a b : ℕ) → IsElement cells → Means (inj comp) v a →
      Means (inj comp) w b → between (memory comp) op.Sub cells v w ≡ Ok r →
      Means (inj comp) r (div_word (sub_word a b) (bytes_of cells))
  difference_means cells v w r a b element is its h =
      let found = bound (apart v w) (in_elements cells) r h in
      let one = one_block v w found.value a b found.first is its in
      let first : one.base + 4 * one.i < 2 ^ 31 = subst (λ a. a < 2 ^ 31) one.left one.first.below in
      let second : one.base + 4 * one.j < 2 ^ 31 = subst (λ a. a < 2 ^ 31) one.right one.second.below in
      in_elements_by cells found.value r (div_word (sub_word a b) (bytes_of cells))
      (is_zero (int_rem found.value (pos cells))) found.gave
      (ap₂ (λ a b. div_word (sub_word a b) (bytes_of cells)) one.left one.right ∙
      elements_between one.base one.i one.j cells first second element.some element.few ∙
      ap (λ by. word_of (int_div by (pos cells))) one.far)

  -- Comparisons.

  test_means : (t u : Bool) (r : Value) → ◌≡◌ {A = Result Value Cause} (Ok (of_bool t)) (Ok r) → u ≡ t →
      Means (inj comp) r (truth u)
  test_means t u r h e =
      let same : Word (truth t) ≡ r = cc h in word_means (inj comp) (truth t) (truth u) r same (ap truth e)

  -- an order, by how far two places are apart
  order_means : (order : ℤ → Bool) (test : ℕ → ℕ → Bool) (v w r : Value) (a b : ℕ) →
      ((x i j : ℕ) → test (x + 4 * i) (x + 4 * j) ≡ order (pos i -ℤ pos j)) → Means (inj comp) v a →
      Means (inj comp) w b → bind (apart v w) (λ by. Ok (of_bool (order by))) ≡ Ok r →
      Means (inj comp) r (truth (test a b))
  order_means order test v w r a b agree is its h =
      let found = bound (apart v w) (λ by. Ok (of_bool (order by))) r h in
      let one = one_block v w found.value a b found.first is its in
      test_means (order found.value) (test a b) r found.gave
      (ap₂ test one.left one.right ∙ agree one.base one.i one.j ∙ ap order one.far)

  -- places strictly inside of two blocks
  differ : (p q : Pointer) (a b : ℕ) (same : Bool) → p.block ≢ q.block → Apart (memory comp) p q same →
      Means (inj comp) (Ptr p) a → Means (inj comp) (Ptr q) b → (a == b) ≡ false
  differ p q a b same other two is its =
      let first = two.first in
      let second = two.second in
      let beside = matches.apart comp p.block q.block is.0 its.0 first.cells second.cells honest first.live second.live
      is.1 its.1 other in
      ne_eqb a b (λ e. ⊎_elim
      (λ l. omega (arith, e, is.2, its.2, first.inside, second.inside, l))
      (λ l. omega (arith, e, is.2, its.2, first.inside, second.inside, l)) beside)

  places_same : (p q : Pointer) (a b : ℕ) (t : Bool) → Means (inj comp) (Ptr p) a → Means (inj comp) (Ptr q) b →
      (same : Bool) → (p.block == q.block) ≡ same →
      (if same then Ok (p.index == q.index) else bind (is_inside (memory comp) p)
      (λ x. bind (is_inside (memory comp) q) (λ y. if x && y then Ok false else Err BadPointer))) ≡ Ok t → (a == b) ≡ t
  places_same p q a b t is its true e h =
      let one = one_base p q a b (eqb-true p.block q.block e) is its in
      let gave : (p.index == q.index) ≡ t = cc h in
      ap₂ (λ x y. x == y) one.left one.right ∙ same_of one.base p.index q.index ∙ gave
  places_same p q a b t is its false e h =
      let two = apart_found (memory comp) p q t h in
      differ p q a b t (λ same. true≢false (sym (eq-eqb p.block q.block same) ∙ e)) two is its ∙ sym two.differ

  pointers_same : (v w : Value) (a b : ℕ) (t : Bool) → is_pointer v ≡ true → is_pointer w ≡ true →
      Means (inj comp) v a → Means (inj comp) w b → same_place (memory comp) v w ≡ Ok t → (a == b) ≡ t
  pointers_same (Word n) w a b t f g is its h = cc f
  pointers_same Null (Word m) a b t f g is its h = cc g
  pointers_same Null Null a b t f g is its h =
      let gave : true ≡ t = cc h in ap₂ (λ x y. x == y) is its ∙ gave
  pointers_same Null (Ptr q) a b t f g is its h =
      let gave : false ≡ t = cc h in
      ap (λ x. x == b) is ∙ ne_eqb 0 b (λ e. omega (arith, e, its.3.above)) ∙ gave
  pointers_same (Ptr p) (Word m) a b t f g is its h = cc g
  pointers_same (Ptr p) Null a b t f g is its h =
      let gave : false ≡ t = cc h in
      ap (λ y. a == y) its ∙ ne_eqb a 0 (λ e. omega (arith, e, is.3.above)) ∙ gave
  pointers_same (Ptr p) (Ptr q) a b t f g is its h = places_same p q a b t is its (p.block == q.block) refl h

  equal_means : (f : Bool → Bool) (v w r : Value) (a b : ℕ) → is_pointer v ≡ true → is_pointer w ≡ true →
      Means (inj comp) v a → Means (inj comp) w b →
      bind (same_place (memory comp) v w) (λ t. Ok (of_bool (f t))) ≡ Ok r → Means (inj comp) r (truth (f (a == b)))
  equal_means f v w r a b x y is its h =
      let found = bound (same_place (memory comp) v w) (λ t. Ok (of_bool (f t))) r h in
      test_means (f found.value) (f (a == b)) r found.gave
      (ap f (pointers_same v w a b found.value x y is its found.first))

  compare_means : (o : BinaryOp) (v w r : Value) (a b : ℕ) → is_comparison o ≡ true → is_pointer v ≡ true →
      is_pointer w ≡ true → Means (inj comp) v a → Means (inj comp) w b → between (memory comp) o 1 v w ≡ Ok r →
      Means (inj comp) r (on_all_words true o a b)
  compare_means op.Less v w r a b c x y is its h =
      order_means (ordered op.Less) (λ a b. nat_lt a b) v w r a b order_of is its h
  compare_means op.Greater v w r a b c x y is its h =
      order_means (ordered op.Greater) (λ a b. nat_lt b a) v w r a b order_back is its h
  compare_means op.LessEqual v w r a b c x y is its h =
      order_means (ordered op.LessEqual) (λ a b. not (nat_lt b a)) v w r a b
      (λ x i j. ap not (order_back x i j)) is its h
  compare_means op.GreaterEqual v w r a b c x y is its h =
      order_means (ordered op.GreaterEqual) (λ a b. not (nat_lt a b)) v w r a b
      (λ x i j. ap not (order_of x i j)) is its h
  compare_means op.Equal v w r a b c x y is its h = equal_means (λ t. t) v w r a b x y is its h
  compare_means op.NotEqual v w r a b c x y is its h = equal_means not v w r a b x y is its h
  compare_means op.OrElse v w r a b c x y is its h = cc c
  compare_means op.AndAlso v w r a b c x y is its h = cc c
  compare_means op.BitOr v w r a b c x y is its h = cc c
  compare_means op.BitXor v w r a b c x y is its h = cc c
  compare_means op.BitAnd v w r a b c x y is its h = cc c
  compare_means op.ShiftLeft v w r a b c x y is its h = cc c
  compare_means op.ShiftRight v w r a b c x y is its h = cc c
  compare_means op.Add v w r a b c x y is its h = cc c
  compare_means op.Sub v w r a b c x y is its h = cc c
  compare_means op.Mul v w r a b c x y is its h = cc c
  compare_means op.Div v w r a b c x y is its h = cc c
  compare_means op.Rem v w r a b c x y is its h = cc c

  operator_means : (o : TacOp) (v w r : Value) (a b : ℕ) → IsSound o → operated wrapping (memory comp) o v w ≡ Ok r →
      b < 2 ^ 32 → Means (inj comp) v a → (takes_two o ≡ true → Means (inj comp) w b) →
      Means (inj comp) r (op_word o a b)
  operator_means (tacop.Unary o scalar) v w r a b for h below is its =
      unary_means (inj comp) (is_unsigned scalar) o v r a is h
  operator_means (tacop.Binary o scalar) v w r a b for h below is its =
      binary_means (inj comp) (is_unsigned scalar) o v w r a b is (its refl) h
  operator_means tacop.PointerNot v w r a b for h below is its = not_means (inj comp) v r a is h
  operator_means (tacop.PointerMove true cells index) v w r a b for h below is its =
      back_means cells (is_unsigned index) v w r a b below is (its refl) h
  operator_means (tacop.PointerMove false cells index) v w r a b for h below is its =
      on_means cells (is_unsigned index) v w r a b below is (its refl) h
  operator_means (tacop.PointerMember offset) v w r a b for h below is its = member_means offset v r a is h
  operator_means (tacop.PointerDifference cells) v w r a b for h below is its =
      difference_means cells v w r a b for is (its refl) h
  operator_means (tacop.PointerCompare o) v w r a b for h below is its =
      by (is_comparison o) (is_pointer v) (is_pointer w) refl refl refl h
    where
      by : (c x y : Bool) → is_comparison o ≡ c → is_pointer v ≡ x → is_pointer w ≡ y →
          (if c && (x && y) then between (memory comp) o 1 v w else Err BadType) ≡ Ok r →
          Means (inj comp) r (on_all_words true o a b)
      by true true true c x y h = compare_means o v w r a b c x y is (its refl) h
      by true true false c x y h = cc h
      by true false y c x z h = cc h
      by false x y c z w h = cc h

  -- where an operator gives a value, its code computes a word that stands for that. Where an operator takes one value,
  -- the second word may be any
  pub operator_stands : (o : TacOp) (v w r : Value) (a b : ℕ) → IsSound o →
      operated wrapping (memory comp) o v w ≡ Ok r → b < 2 ^ 32 → StandsFor (inj comp) a v →
      (takes_two o ≡ true → StandsFor (inj comp) b w) → StandsFor (inj comp) (op_word o a b) r
  operator_stands o v w r a b for h below is its = record {
    word = op_below o a b is.word below;
    means = operator_means o v w r a b for h below is.means (λ two. (its two).means);
  }
