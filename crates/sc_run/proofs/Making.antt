-- The variables of a call and their initialisers, and globals, one after the other.
use Rattle.sc_run.proofs.Common.{Acts, Blocks, Bool, CameTo, Cell, Comes, Err, Here, Left, List, Memory, None, Null}
use Rattle.sc_run.proofs.Common.{Option, Piece, Reached, Result, RunEnd, Seen, Some, State, Stopped, TypedGlobal}
use Rattle.sc_run.proofs.Common.{TypedLocal, TypedParam, TypedSection, TypedStruct, Undef, Value, [], add-one, all_do}
use Rattle.sc_run.proofs.Common.{ap, append-nil, append_assoc, arith, block_for, blocks_for, c_arith, cell_with}
use Rattle.sc_run.proofs.Common.{cells_of, drop, drop-cons, drop-step, drop_all, drop_next, eq-eqb, false, first_blocks}
use Rattle.sc_run.proofs.Common.{follow, get_or, global_block, globals_of, if◌then◌else◌, in_order, init_does, inits_do}
use Rattle.sc_run.proofs.Common.{length, length-append, length-map, length-take, map, map-append, member_zeros, refl}
use Rattle.sc_run.proofs.Common.{repeated, seen_of, slice_get, subst, suc, sym, take, take-map, take_more, true}
use Rattle.sc_run.proofs.Common.{with_blocks, with_words, zero, zeros_of, ℕ, ◌++◌, ◌+◌, ◌<◌, ◌==◌, ◌∙◌, ◌∷◌, ◌≡◌, ◌≤◌}
use Rattle.std.proofs.Math.Dec.{eqb-suc-suc, eqb-suc-zero, eqb-zero-suc}
use Rattle.sc_core.specs.declared.section.TypedMember.{TypedMember}
use Rattle.sc_core.specs.declared.section.TypedFunction.{TypedFunction}
use Rattle.sc_run.proofs.Coming.{usual}

with_if : (b : Bool) (x y z : Blocks) → (if b then x else (if b then y else z)) ≡ (if b then x else z)
with_if true x y z = refl
with_if false x y z = refl

-- a compartment's blocks are changed twice
pub with_twice : (comp : ℕ) (x y : Blocks) (memory : Memory) →
    with_blocks comp x (with_blocks comp y memory) ≡ with_blocks comp x memory
with_twice comp x y memory = λ i c. with_if (c == comp) x y (memory c) i

blocks_more : (sizes : List ℕ) (args : List Value) (n : ℕ) →
    blocks_for (sizes ++ n ∷ []) args ≡ blocks_for sizes args ++ block_for n (slice_get args (length sizes)) ∷ []
blocks_more [] [] n = refl
blocks_more [] (v ∷ args) n = refl
blocks_more (m ∷ sizes) [] n = ap (λ bs. block_for m None ∷ bs) (blocks_more sizes [] n)
blocks_more (m ∷ sizes) (v ∷ args) n = ap (λ bs. block_for m (Some v) ∷ bs) (blocks_more sizes args n)

-- the memory with the variables of these sizes
abbrev pub with_sizes : ℕ → List ℕ → List Value → Memory → Memory
with_sizes comp sizes args memory = with_blocks comp (memory comp ++ blocks_for sizes args) memory

pub at_itself : (comp : ℕ) {x : Blocks} (memory : Memory) → with_blocks comp x memory comp ≡ x
at_itself comp {x} memory = ap (λ b. if b then x else memory comp) (eq-eqb comp comp refl)

-- one more variable
pub with_more : (comp : ℕ) (sizes : List ℕ) (args : List Value) (n : ℕ) {at : ℕ} {arg : Option Value} (memory : Memory)
    {now later : Memory} → at ≡ length sizes → arg ≡ slice_get args at → now ≡ with_sizes comp sizes args memory →
    later ≡ with_blocks comp (now comp ++ block_for n arg ∷ []) now →
    later ≡ with_sizes comp (sizes ++ n ∷ []) args memory
with_more comp sizes args n memory {now} place is so_far gives =
    let block = ap (block_for n) (is ∙ ap (slice_get args) place) in
    let stands_so : now comp ≡ memory comp ++ blocks_for sizes args = (λ i. so_far i comp) ∙ at_itself comp memory in
    gives ∙ (λ i. with_blocks comp (stands_so i ++ block i ∷ []) (so_far i)) ∙ with_twice comp _
    (memory comp ++ blocks_for sizes args) memory ∙ ap (λ bs. with_blocks comp bs memory) (append_assoc (memory comp)
    (blocks_for sizes args) (block_for n _ ∷ []) ∙ ap (λ bs. memory comp ++ bs) (sym (blocks_more sizes args n)))

-- there are none where their number is 0
pub none_among : {A : Type 0} (xs : List A) {b : Bool} → b ≡ (length xs == 0) → b ≡ true → length xs ≤ 0
none_among [] is empty = omega arith
none_among (x ∷ xs) is empty = grind arith

module _ (structs : List TypedStruct) (here : Here) (params : ℕ) where
  -- the initialisers, from a local on
  abbrev pub inits_from : List TypedLocal → ℕ → Acts
  inits_from locals k = all_do (inits_do c_arith structs here params k (drop k locals))

  -- the first `k` initialisers are done: those that follow do the same as all
  pub record Started (locals : List TypedLocal) (k : ℕ) (before now : Seen) : Type 0 where
    pub fewer : now.turns ≤ before.turns
    pub lengths : (comp : ℕ) → length (now.memory comp) ≤ length (before.memory comp)
    pub on : (after : Seen) (r : Result (Left (Unit {0})) RunEnd) → Comes now after r (inits_from locals k tt) →
        Comes before after r (inits_from locals 0 tt)

  first_init : (locals : List TypedLocal) (k : ℕ) {local : TypedLocal} → k < length locals →
      local ≡ get_or locals k local → (s : State) → inits_from locals k tt s ≡ follow in_order (init_does c_arith
      structs here params k local local.init tt s) (inits_from locals (k + 1))
  first_init locals k {local} there item s =
      ap (λ ls. all_do (inits_do c_arith structs here params k ls) tt s) (drop-step locals k local there item) ∙ ap
      (λ m. follow in_order (init_does c_arith structs here params k local local.init tt s)
      (all_do (inits_do c_arith structs here params m (drop (k + 1) locals)))) (sym (add-one k))

  pub started_more : (locals : List TypedLocal) (k : ℕ) {local : TypedLocal} (before : Seen) {now next : Seen} →
      k < length locals → local ≡ get_or locals k local → Started locals k before now →
      Comes now next usual (init_does c_arith structs here params k local local.init tt) →
      Started locals (k + 1) before next
  started_more locals k {local} before {now} {next} there item h c =
      record {
        fewer = omega (arith, h.fewer, c.fewer);
        lengths = λ comp. omega (arith, h.lengths comp, c.lengths comp);
        on = λ after r d. h.on after r (record {
          comes = λ s is_seen. by_first after r d s is_seen;
          fewer = omega (arith, c.fewer, d.fewer);
          lengths = λ comp. omega (arith, c.lengths comp, d.lengths comp);
        });
      } where
        by_piece : (after : Seen) (r : Result (Left (Unit {0})) RunEnd) →
            Comes next after r (inits_from locals (k + 1) tt) → (p : Piece (Left (Unit {0}))) → CameTo usual next p →
            CameTo r after (follow in_order p (inits_from locals (k + 1)))
        by_piece after r d (Reached left t) e = subst
            (λ x. CameTo r after (follow in_order (Reached x t) (inits_from locals (k + 1)))) (sym e.0) (d.comes t e.1)
        by_piece after r d (Stopped end t) e = elim e [ ]

        by_first : (after : Seen) (r : Result (Left (Unit {0})) RunEnd) →
            Comes next after r (inits_from locals (k + 1) tt) → (s : State) → seen_of s ≡ now →
            CameTo r after (inits_from locals k tt s)
        by_first after r d s is_seen = subst (CameTo r after) (sym (first_init locals k there item s))
            (by_piece after r d (init_does c_arith structs here params k local local.init tt s) (c.comes s is_seen))

  pub started_blamed : (locals : List TypedLocal) (k : ℕ) {local : TypedLocal} {before now next : Seen} {end : RunEnd} →
      k < length locals → local ≡ get_or locals k local → Started locals k before now →
      Comes now next (Err end) (init_does c_arith structs here params k local local.init tt) →
      Comes before next (Err end) (inits_from locals 0 tt)
  started_blamed locals k {local} {next} {end} there item h c = h.on next _ (record {
    comes = λ s is_seen. subst (CameTo (Err end) next) (sym (first_init locals k there item s))
        (by_piece (init_does c_arith structs here params k local _ tt s) (c.comes s is_seen));
    fewer = c.fewer;
    lengths = c.lengths;
  }) where
    by_piece : (p : Piece (Left (Unit {0}))) → CameTo (Err end) next p →
        CameTo (Err end) next (follow in_order p (inits_from locals (k + 1)))
    by_piece (Reached left t) e = elim e [ ]
    by_piece (Stopped x t) e = e

  pub started_all : (locals : List TypedLocal) (k : ℕ) {before now : Seen} → length locals ≤ k →
      Started locals k before now → Comes before now usual (inits_from locals 0 tt)
  started_all locals k {now} all h = h.on now usual (record {
    comes = λ s is_seen. subst (λ ls. CameTo usual now
        (all_do (inits_do c_arith structs here params k ls) tt s)) (sym (drop_all k locals all)) (refl, is_seen);
    fewer = omega arith;
    lengths = λ comp. omega arith;
  })

abbrev pub param_sizes : List TypedStruct → TypedFunction → List ℕ
param_sizes structs f = map {A = TypedParam} (λ p. cells_of structs p.ty) f.params

abbrev pub local_sizes : List TypedStruct → TypedFunction → List ℕ
local_sizes structs f = map {A = TypedLocal} (λ l. cells_of structs l.ty) f.locals

module _ {A : Type 0} (f : A → ℕ) (xs : List A) (at : ℕ) (x : A) (there : at < length xs)
    (item : x ≡ get_or xs at x) where
  pub sizes_more : take (at + 1) (map f xs) ≡ take at (map f xs) ++ f x ∷ []
  sizes_more = take-map f _ xs ∙ ap (map f) (take_more xs at x there ∙ ap (λ y. take at xs ++ y ∷ []) (sym item)) ∙
      map-append f (take at xs) (x ∷ []) ∙ ap (λ ys. ys ++ f x ∷ []) (sym (take-map f at xs))

  sizes_length : at ≡ length (take at (map f xs))
  sizes_length = omega (arith, length-take at (map f xs), length-map xs f)

  -- one more variable after those of a list
  pub one_more : (comp : ℕ) (prefix : List ℕ) (args : List Value) {place count : ℕ} {arg : Option Value}
      (memory : Memory) {now later : Memory} → place ≡ length prefix + at → count ≡ f x → arg ≡ slice_get args place →
      now ≡ with_sizes comp (prefix ++ take at (map f xs)) args memory →
      later ≡ with_blocks comp (now comp ++ block_for count arg ∷ []) now →
      later ≡ with_sizes comp (prefix ++ take (at + 1) (map f xs)) args memory
  one_more comp prefix args {count} memory where_ counted is so_far gives = with_more comp _ args count memory
      (omega (arith, where_, length-append prefix (take at (map f xs)), sizes_length)) is so_far gives ∙ ap
      (λ sizes. with_sizes comp sizes args memory) (append_assoc prefix _ _ ∙ ap (λ ys. prefix ++ ys)
      (ap (λ n. take at (map f xs) ++ n ∷ []) counted ∙ sym sizes_more))

repeated_more : (zeros : List (List Cell)) (n : ℕ) (cells : List Cell) →
    cells ++ repeated zeros n cells ≡ repeated zeros n cells ++ cells
repeated_more zeros zero cells = append-nil cells
repeated_more zeros (suc n) cells = ap (λ cs. cells ++ cs) (repeated_more zeros n cells) ∙ sym
    (append_assoc cells _ cells)

-- the cells once more
pub once_more : (zeros : List (List Cell)) (n : ℕ) {cells more so_far : List Cell} → so_far ≡ repeated zeros n cells →
    more ≡ cells → so_far ++ more ≡ repeated zeros (n + 1) cells
once_more zeros n {cells} is same = (λ i. is i ++ same i) ∙ sym (repeated_more zeros n cells) ∙ ap
    (λ k. repeated zeros k cells) (sym (add-one n))

members_more : (zeros : List (List Cell)) (ms : List TypedMember) (m : TypedMember) →
    member_zeros zeros (ms ++ m ∷ []) ≡ member_zeros zeros ms ++ zeros_of zeros m.ty
members_more zeros [] m = append-nil _
members_more zeros (x ∷ ms) m = ap (λ cs. zeros_of zeros x.ty ++ cs) (members_more zeros ms m) ∙ sym
    (append_assoc (zeros_of zeros x.ty) (member_zeros zeros ms) (zeros_of zeros m.ty))

-- one more member
pub member_more : (zeros : List (List Cell)) (ms : List TypedMember) (i : ℕ) {m : TypedMember} {so_far : List Cell} →
    i < length ms → m ≡ get_or ms i m → so_far ≡ member_zeros zeros (take i ms) →
    so_far ++ zeros_of zeros m.ty ≡ member_zeros zeros (take (i + 1) ms)
member_more zeros ms i {m} there item is =
    ap (λ cs. cs ++ zeros_of zeros m.ty) is ∙ sym (members_more zeros (take i ms) m) ∙ ap (member_zeros zeros)
    (ap (λ x. take i ms ++ x ∷ []) item ∙ sym (take_more ms i m there))

word_first : (ws : List ℕ) (c : Cell) (cs : List Cell) →
    with_words ws (c ∷ cs) ≡ cell_with (slice_get ws 0) c ∷ with_words (drop 1 ws) cs
word_first [] c cs = refl
word_first (w ∷ ws) Null cs = refl
word_first (w ∷ ws) _ cs = refl

first_of_rest : (ws : List ℕ) (i : ℕ) → slice_get (drop i ws) 0 ≡ slice_get ws i
first_of_rest [] zero = refl
first_of_rest (w ∷ ws) (suc i) = first_of_rest ws i
first_of_rest _ _ = refl

-- one more cell
pub word_more : (ws : List ℕ) (cs : List Cell) (i : ℕ) {c new : Cell} {word : Option ℕ} (so_far : List Cell)
    {whole : List Cell} → i < length cs → c ≡ get_or cs i Undef → word ≡ slice_get ws i → new ≡ cell_with word c →
    so_far ++ with_words (drop i ws) (drop i cs) ≡ whole →
    (so_far ++ new ∷ []) ++ with_words (drop (i + 1) ws) (drop (i + 1) cs) ≡ whole
word_more ws cs i {c} {new} so_far there item is gives stands_so = append_assoc so_far (new ∷ []) _ ∙ ap
    (λ xs. so_far ++ xs) ((λ k. (gives ∙ ap (λ o. cell_with o c) (is ∙ sym (first_of_rest ws i))) k ∷ with_words
    (drop (add-one i k) ws) (drop (i + 1) cs)) ∙ ap
    (λ xs. cell_with (slice_get (drop i ws) 0) c ∷ with_words xs (drop (i + 1) cs)) (sym (drop_next ws i)) ∙ sym
    (word_first (drop i ws) c (drop (i + 1) cs)) ∙ ap (with_words (drop i ws))
    (sym (rw (add-one, drop-cons cs i Undef) (λ k. sym item k ∷ drop (suc i) cs)))) ∙ stands_so

no_more : (ws : List ℕ) → with_words ws [] ≡ []
no_more [] = refl
no_more (w ∷ ws) = refl

-- all cells
pub words_all : (ws : List ℕ) (cs : List Cell) (i : ℕ) {so_far whole : List Cell} → length cs ≤ i →
    so_far ++ with_words (drop i ws) (drop i cs) ≡ whole → so_far ≡ whole
words_all ws cs i {so_far} past stands_so = sym (append-nil so_far) ∙ ap (λ xs. so_far ++ xs)
    (sym (ap (with_words _) (drop_all i cs past) ∙ no_more (drop i ws))) ∙ stands_so

-- one more global
pub global_more : (zeros : List (List Cell)) (gs : List TypedGlobal) (i : ℕ) {g : TypedGlobal} (comp : ℕ)
    (memory : Memory) {now later : Memory} → i < length gs → g ≡ get_or gs i g →
    now ≡ with_blocks comp (memory comp ++ map (global_block zeros) (take i gs)) memory →
    later ≡ with_blocks comp (now comp ++ global_block zeros g ∷ []) now →
    later ≡ with_blocks comp (memory comp ++ map (global_block zeros) (take (i + 1) gs)) memory
global_more zeros gs i {g} comp memory {now} there item is gives =
    let stands_so : now comp ≡ memory comp ++ map _ _ = (λ k. is k comp) ∙ at_itself comp memory in
    let more = sym (map-append (global_block zeros) (take i gs) (g ∷ [])) ∙
    ap (map (global_block zeros)) (ap (λ x. take i gs ++ x ∷ []) item ∙ sym (take_more gs i g there)) in
    gives ∙ (λ k. with_blocks comp (stands_so k ++ global_block zeros g ∷ []) (is k)) ∙ with_twice comp _
    (memory comp ++ map _ _) memory ∙ ap (λ bs. with_blocks comp bs memory) (append_assoc (memory comp) (map _ _)
    (global_block zeros g ∷ []) ∙ ap (λ bs. memory comp ++ bs) more)

past : (sections : List TypedSection) → first_blocks (slice_get sections (length sections)) ≡ []
past [] = refl
past (s ∷ sections) = past sections

module _ (section : TypedSection) where
  abbrev its_blocks : Blocks
  its_blocks = first_blocks (Some section)

  at_next : (sections : List TypedSection) (c : ℕ) → first_blocks (slice_get (sections ++ section ∷ []) c) ≡ (if c ==
      length sections then its_blocks else first_blocks (slice_get sections c))
  at_next [] zero = refl
  at_next [] (suc c) = ap (λ b. if b then its_blocks else []) (sym (eqb-suc-zero c))
  at_next (s ∷ sections) zero = ap (λ b. if b then its_blocks else first_blocks (Some s)) (sym (eqb-zero-suc _))
  at_next (s ∷ sections) (suc c) = at_next sections c ∙ ap
      (λ b. if b then its_blocks else first_blocks (slice_get sections c)) (sym (eqb-suc-suc c _))

-- a compartment has no globals before its section
pub none_yet : (sections : List TypedSection) {at comp : ℕ} {now : Memory} → at < length sections → comp ≡ at →
    now ≡ globals_of (take at sections) → now comp ≡ []
none_yet sections {at} {comp} there same is =
    let short : length (take at sections) ≡ at = omega (arith, length-take at sections, there) in
    (λ k. is k comp) ∙ ap (λ n. globals_of (take at sections) n) (same ∙ sym short) ∙ past (take at sections)

-- the globals of one more section
pub section_more : (sections : List TypedSection) {at comp : ℕ} {section : TypedSection} {now later : Memory} →
    at < length sections → section ≡ get_or sections at section → comp ≡ at → now ≡ globals_of (take at sections) →
    later ≡ with_blocks comp (now comp ++ first_blocks (Some section)) now → later ≡ globals_of (take (at + 1) sections)
section_more sections {at} {comp} {section} {now} there item same is gives =
    let short : length (take at sections) ≡ at = omega (arith, length-take at sections, there) in
    let here : now comp ≡ [] = none_yet sections there same is in
    let next : globals_of (take at sections ++ section ∷ []) ≡ with_blocks at (first_blocks (Some section))
    (globals_of (take at sections)) = (λ k c. at_next section (take at sections) c k) ∙ ap
    (λ n. with_blocks n (first_blocks (Some section)) (globals_of (take at sections))) short in
    gives ∙ (λ k. with_blocks (same k) (here k ++ first_blocks (Some section)) (is k)) ∙ sym next ∙ ap globals_of
    (ap (λ x. take at sections ++ x ∷ []) item ∙ sym (take_more _ at section there))
