-- Structs whose tags are known and whose sizes are small fit.
use Rattle.sc_types.proofs.Common.{BaseTree, BaseTy, List, None, Option, Some, StructTree, Ty, TypeName, TypeTree, []}
use Rattle.sc_types.proofs.Common.{and_first, and_from, and_rest, ap, append-nil, append_assoc, arith, base_cells}
use Rattle.sc_types.proofs.Common.{base_known, base_of, base_within, bytes_eq, cells_from, cells_of, end_of_member}
use Rattle.sc_types.proofs.Common.{false, get_after, get_prefix, is_numbered, is_sized, length, length-map, list_all}
use Rattle.sc_types.proofs.Common.{ltb-true, map, member_known, members_fit, members_from, most_cells, nat_le, nat_lt}
use Rattle.sc_types.proofs.Common.{number_by_name, number_or_zero, option_map_or, pointed_known, refl, same_text}
use Rattle.sc_types.proofs.Common.{slice_get}
use Rattle.sc_types.proofs.Common.{starred, starred_cells, starred_within, struct_cells, struct_fits, structs_fit}
use Rattle.sc_types.proofs.Common.{subst, suc, sym, true, type_of, type_of_name, type_with, type_within, typed_struct}
use Rattle.sc_types.proofs.Common.{typed_structs, zero, ℕ, ◌*◌, ◌++◌, ◌+◌, ◌<◌, ◌∙◌, ◌∷◌, ◌≡◌, ◌≤◌}
use Rattle.sc_ast.specs.declared.section.MemberTree.{MemberTree}
use Rattle.sc_ast.specs.declared.types.BaseTree.TheVariants as base_tree
use Rattle.sc_core.specs.declared.ty.Ty.TheVariants as ty
use Rattle.sc_core.specs.declared.ty.BaseTy.TheVariants as base
use Rattle.sc_core.specs.declared.section.TypedStruct.{TypedStruct}
use Rattle.sc_types.proofs.Lookups.{Text, eq_refl, less, at_most, is_at_most, number_within, number_prefix, number_next}
use Rattle.sc_types.proofs.Calls.{length_snoc}

-- Tags.

-- a base that is known among the first tags has a number below theirs
pub base_is_within : (tags more : List Text) (b : BaseTree) → base_known tags b ≡ true →
    base_within (length tags) (base_of (tags ++ more) b) ≡ true
base_is_within tags more (base_tree.Struct tag) h = less _ _
    (subst (λ o. number_or_zero o < length tags) (sym (number_prefix tags more tag h)) (number_within tags tag h))
base_is_within tags more _ h = refl

pub is_less : (i n : ℕ) → nat_lt i n ≡ true → i < n
is_less i n h = ltb-true i n h

more_within : (n m : ℕ) (b : BaseTy) → n ≤ m → base_within n b ≡ true → base_within m b ≡ true
more_within n m (base.Struct i) h k = less i m (omega (arith, h, is_less i n k))
more_within n m _ h k = refl

-- Types by their parts.

starred_within_is : (whole pointed stars : ℕ) (b : BaseTy) → starred_within whole pointed stars b ≡ true →
    type_within whole pointed (starred stars b) ≡ true
starred_within_is whole pointed zero (base.Struct n) h = h
starred_within_is whole pointed zero _ h = refl
starred_within_is whole pointed (suc stars) b h = and_from _ _ (at_most 1 _ (omega arith)) h

with_within : (tags : List Text) (whole pointed : ℕ) (size : Option ℕ) (stars : ℕ) (b : BaseTy) →
    option_map_or (λ n. nat_le 1 n) size true ≡ true → starred_within whole pointed stars b ≡ true →
    type_within whole pointed (type_with tags size stars b) ≡ true
with_within tags whole pointed None stars b sized h = starred_within_is whole pointed stars b h
with_within tags whole pointed (Some n) stars b sized h = and_from _ _ sized h

all_within : (n stars : ℕ) (b : BaseTy) → base_within n b ≡ true → starred_within n n stars b ≡ true
all_within n zero b h = h
all_within n (suc stars) b h = h

-- a type over tags that are all known
pub type_is_within : (tags more : List Text) (t : TypeTree) → is_sized t ≡ true → base_known tags t.base ≡ true →
    type_within (length tags) (length tags) (type_of (tags ++ more) t) ≡ true
type_is_within tags more t sized h = with_within (tags ++ more) (length tags)
    (length tags) t.length t.stars (base_of _ t.base) sized (all_within _ t.stars _ (base_is_within tags more t.base h))

pub name_is_within : (tags more : List Text) (t : TypeName) → base_known tags t.base ≡ true →
    type_within (length tags) (length tags) (type_of_name (tags ++ more) t) ≡ true
name_is_within tags more t h =
    starred_within_is _ _ t.stars _ (all_within _ t.stars _ (base_is_within tags more t.base h))

-- Members, of the struct after the first ones.

module _ (names : List Text) (self : Text) (more : List Text) (new : is_numbered names self ≡ false) where
  abbrev tags : List Text
  tags = names ++ self ∷ more

  abbrev k : ℕ
  k = length names

  known_within : (stars : ℕ) (b : BaseTree) → base_known names b ≡ true →
      starred_within k (suc k) stars (base_of tags b) ≡ true
  known_within zero b h = base_is_within names _ b h
  known_within (suc stars) b h = more_within k (suc k) (base_of tags b) (omega arith) (base_is_within names _ b h)

  self_number : (tag : Text) → bytes_eq tag self ≡ true → number_or_zero (number_by_name tags tag) ≡ k
  self_number tag h = ap (λ t. number_or_zero (number_by_name tags t)) (same_text tag self h) ∙
      ap number_or_zero (number_next names self more new)

  pointed_within : (stars : ℕ) (b : BaseTree) → pointed_known self stars b ≡ true →
      starred_within k (suc k) stars (base_of tags b) ≡ true
  pointed_within zero (base_tree.Struct tag) h = grind arith
  pointed_within (suc stars) (base_tree.Struct tag) h = less _ _ (omega (arith, self_number tag (and_first _ _ h)))
  pointed_within stars _ h = cc

  member_starred : (m : MemberTree) → member_known names self m ≡ true →
      starred_within k (suc k) m.ty.stars (base_of tags m.ty.base) ≡ true
  member_starred m h = grind (arith, known_within m.ty.stars m.ty.base, pointed_within m.ty.stars m.ty.base)

  member_within : (m : MemberTree) → member_known names self m ≡ true → is_sized m.ty ≡ true →
      type_within k (suc k) (type_of tags m.ty) ≡ true
  member_within m h sized = with_within tags k (suc k) m.ty.length m.ty.stars (base_of tags _) sized
      (member_starred m h)

-- Cells over the first structs are those over all.

module _ (done more : List TypedStruct) (n : ℕ) (size : length done ≡ n) where
  base_cells_same : (b : BaseTy) → base_within n b ≡ true → base_cells (done ++ more) b ≡ base_cells done b
  base_cells_same (base.Struct i) h = ap struct_cells (get_prefix done more i (omega (arith, size, is_less i n h)))
  base_cells_same _ h = refl

  starred_cells_same : (pointed stars : ℕ) (b : BaseTy) → starred_within n pointed stars b ≡ true →
      starred_cells (done ++ more) stars b ≡ starred_cells done stars b
  starred_cells_same pointed zero b h = base_cells_same b h
  starred_cells_same pointed (suc stars) b h = refl

  pub cells_same : (pointed : ℕ) (t : Ty) → type_within n pointed t ≡ true → cells_of (done ++ more) t ≡ cells_of done t
  cells_same pointed (ty.Struct i) h = ap struct_cells (get_prefix done more i (omega (arith, size, is_less i n h)))
  cells_same pointed (ty.Array stars b count) h =
      ap (λ cells. count * cells) (starred_cells_same pointed stars b (and_rest _ _ h))
  cells_same pointed _ h = refl

-- A struct over those before it.

-- what is known of a struct's members
pub record Known (names : List Text) (tree : StructTree) : Type 0 where
  pub new : is_numbered names tree.name ≡ false
  pub members : list_all {X = MemberTree} (member_known names tree.name) tree.members ≡ true
  pub sized : list_all {X = MemberTree} (λ member. is_sized member.ty) tree.members ≡ true
  pub some : nat_le 1 (length tree.members) ≡ true

module _ (names : List Text) (self : Text) (after : List Text) (new : is_numbered names self ≡ false)
    (done more : List TypedStruct) (size : length done ≡ length names) where
  abbrev every : List Text
  every = names ++ self ∷ after

  abbrev Fits : ℕ → List MemberTree → Type 0
  Fits offset members = members_fit (done ++ more)
      (length names) offset (members_from every done offset members) (cells_from every done offset members) ≡ true

  -- the offset after a member
  abbrev end : ℕ → MemberTree → ℕ
  end offset m = end_of_member every done offset m

  end_within : (offset : ℕ) (m : MemberTree) → end offset m ≤ 4294967295
  end_within offset m = omega arith

  below : (offset : ℕ) (members : List MemberTree) → offset ≤ 4294967295 → offset ≤ cells_from every done offset members
  below offset [] within = omega arith
  below offset (m ∷ members) within =
      let following = below (end offset m) members (end_within offset m) in
      omega (arith, within, following)

  -- in a small struct no offset stops
  exact : (offset : ℕ) (m : MemberTree) (members : List MemberTree) → cells_from every done
      (end offset m) members ≤ 1048576 → end offset m ≡ offset + cells_of done (type_of every m.ty)
  exact offset m members small = let following =
      below _ members (end_within offset m) in omega (arith, small, following)

  member_is : (offset : ℕ) (m : MemberTree) (members : List MemberTree) → member_known names self m ≡ true →
      is_sized m.ty ≡ true → end offset m ≡ offset + cells_of done (type_of every m.ty) →
      Fits (end offset m) members → Fits offset (m ∷ members)
  member_is offset m members known sized same rest =
      let within = member_within names self after new m known sized in
      grind (
        arith,
        within,
        eq_refl offset,
        cells_same done more (length names) size (suc (length names))
            (type_of every m.ty) within,
      )

  members_are : (offset : ℕ) (members : List MemberTree) → list_all (member_known names self) members ≡ true →
      list_all {X = MemberTree} (λ member. is_sized member.ty) members ≡ true →
      cells_from every done offset members ≤ 1048576 → Fits offset members
  members_are offset [] known sized small = eq_refl offset
  members_are offset (m ∷ members) known sized small =
      grind (arith, member_is offset m members, exact offset m members, members_are (end offset m) members)

members_length : (all : List Text) (structs : List TypedStruct) (offset : ℕ) (members : List MemberTree) →
    length (members_from all structs offset members) ≡ length members
members_length all structs offset [] = refl
members_length all structs offset (m ∷ members) = cc (members_length all structs (end_of_member all structs offset m)
    members)

-- All structs.

-- the structs after those that are done
abbrev pub rest_of : (all : List Text) → List TypedStruct → List StructTree → List TypedStruct
rest_of all done [] = []
rest_of all done (tree ∷ trees) = typed_struct all done tree ∷
    rest_of all (done ++ typed_struct all done tree ∷ []) trees

pub structs_are : (all : List Text) (done : List TypedStruct) (trees : List StructTree) →
    typed_structs all done trees ≡ done ++ rest_of all done trees
unfolding typed_structs
structs_are all done [] = sym (append-nil done)
structs_are all done (tree ∷ trees) =
    structs_are all (done ++ typed_struct all done tree ∷ []) trees ∙ append_assoc done _ _

abbrev pub tags_of : List StructTree → List Text
tags_of trees = map {A = StructTree} (λ tree. tree.name) trees

-- each struct is known among those before it
abbrev pub AllKnown : (names : List Text) → List StructTree → Type 0
AllKnown names [] = Unit {0}
AllKnown names (tree ∷ trees) = Known names tree × AllKnown (names ++ tree.name ∷ []) trees

-- each of the structs from this number on is small
abbrev pub AllSmall : (structs : List TypedStruct) → (number : ℕ) → List StructTree → Type 0
AllSmall structs number [] = Unit {0}
AllSmall structs number (tree ∷ trees) =
    (nat_le (struct_cells (slice_get structs number)) most_cells ≡ true) × AllSmall structs (suc number) trees

module _ (all : List Text) where
  struct_is : (names after : List Text) (tree : StructTree) (done more structs : List TypedStruct) → names ++
      tree.name ∷ after ≡ all → length done ≡ length names → structs ≡ done ++ (typed_struct all done tree ∷ more) →
      Known names tree → nat_le (struct_cells (slice_get structs (length names))) most_cells ≡ true →
      struct_fits structs (length names) (typed_struct all done tree) ≡ true
  struct_is names after tree done more structs is size whole known small =
      and_from _ _ (ap (nat_le 1) (members_length all done 0 tree.members) ∙ known.some)
      (and_from _ _ members (subst (λ o. nat_le (struct_cells o) most_cells ≡ true) got small)) where
        got : slice_get structs (length names) ≡ Some (typed_struct all done tree)
        got = cc (get_after done (typed_struct all done tree) more)

        whole_cells : nat_le (cells_from all done 0 tree.members) most_cells ≡ true
        whole_cells = subst (λ o. nat_le (struct_cells o) most_cells ≡ true) got small

        within : cells_from (names ++ tree.name ∷ after) done 0 tree.members ≤ 1048576
        within = subst (λ a. cells_from a done 0 tree.members ≤ 1048576) (sym is)
            (is_at_most (cells_from all done 0 tree.members) most_cells whole_cells)

        members : members_fit structs (length names) 0 (members_from all done 0 tree.members)
            (cells_from all done 0 tree.members) ≡ true
        members = cc (members_are names tree.name after known.new done (typed_struct all done tree ∷ more) size 0
            tree.members known.members known.sized within)

  rest_fit : (names : List Text) (trees : List StructTree) (done structs : List TypedStruct) →
      names ++ tags_of trees ≡ all → length done ≡ length names → structs ≡ done ++ rest_of all done trees →
      AllKnown names trees → AllSmall structs (length names) trees →
      structs_fit structs (length names) (rest_of all done trees) ≡ true
  rest_fit names [] done structs is size whole known small = refl
  rest_fit names (tree ∷ trees) done structs is size whole known small =
      and_from _ _ (struct_is names _ tree done _ structs is size whole known.0 small.0)
      (subst (λ n. structs_fit structs n (rest_of all (done ++ typed_struct all done tree ∷ []) trees) ≡ true)
      (length_snoc names tree.name) (rest_fit _ trees (done ++ typed_struct all done tree ∷ []) structs
      (append_assoc names _ _ ∙ is) (length_snoc done _ ∙ ap suc size ∙ sym (length_snoc names _)) (whole ∙
      sym (append_assoc done _ _)) known.1 (subst (λ n. AllSmall structs n trees) (sym (length_snoc names _)) small.1)))

-- structs that are known and small fit
pub structs_all_fit : (trees : List StructTree) → AllKnown [] trees →
    AllSmall (typed_structs (tags_of trees) [] trees) 0 trees →
    structs_fit (typed_structs (tags_of trees) [] trees) 0 (typed_structs (tags_of trees) [] trees) ≡ true
structs_all_fit trees known small = subst (λ s. structs_fit (typed_structs (tags_of trees) [] trees) 0 s ≡ true)
    (sym (structs_are _ [] trees)) (rest_fit _ [] trees [] _ refl refl (structs_are _ [] trees) known small)

-- there are as many as tags
rest_length : (all : List Text) (done : List TypedStruct) (trees : List StructTree) →
    length (rest_of all done trees) ≡ length trees
rest_length all done [] = refl
rest_length all done (tree ∷ trees) = ap suc (rest_length all (done ++ typed_struct all done tree ∷ []) trees)

pub structs_length : (trees : List StructTree) → length (typed_structs (tags_of trees) [] trees) ≡
    length (tags_of trees)
structs_length trees =
    ap length (structs_are _ [] trees) ∙ rest_length (tags_of trees) [] trees ∙ sym (length-map trees _)
