-- The code of statements follows what they do: by induction over their layers.
use Rattle.sc_emit.proofs.Common.{Applies, AreReached, Bool, CallTarget, Calls, CallsFollow, Codes, Constant, Cross}
use Rattle.sc_emit.proofs.Common.{Each, Follows, FrameTree, GivesValue, Here, Input, Inside, IsRead, IsReturned}
use Rattle.sc_emit.proofs.Common.{IsRunning, IsShort, IsSound, IsStored, List, Need, None, Option, Other, Output, Own}
use Rattle.sc_emit.proofs.Common.{Piece, Reached, Register, Role, Running, Setting, ShortForm, Some, State as Meant}
use Rattle.sc_emit.proofs.Common.{Stopped, TacOp, TacStmt, TacStmt-F, Trail, Value, [], all_do, and_first, and_parts}
use Rattle.sc_emit.proofs.Common.{ap, ap₂, arith, as_one, between, branch_reach, break_follows, calls_only, code_does}
use Rattle.sc_emit.proofs.Common.{code_step, continue_follows, counts_elements, each_before, eq-eqb, everywhere, false}
use Rattle.sc_emit.proofs.Common.{fold-roll-TacStmt, follow as then_follow, followed, gives_place, has_elements}
use Rattle.sc_emit.proofs.Common.{has_heap, has_operands, has_words, held_in, if◌then◌else◌, in_order, in_turn, is_call}
use Rattle.sc_emit.proofs.Common.{is_some, joined, joins, leb-true, length, list_all, loads_it, ltb-true, map}
use Rattle.sc_emit.proofs.Common.{map-TacStmt, names_only, names_own_object, names_own_temps, nat_lt, need, need_step}
use Rattle.sc_emit.proofs.Common.{needs_of, never_applies, none_after, not, nothing as no_lines, object_inside}
use Rattle.sc_emit.proofs.Common.{object_read, object_store, object_there, one_or_none, operates_it, parts_least}
use Rattle.sc_emit.proofs.Common.{passes_few, read_is_last, refl, return_is_last, return_of, returns_it, role_first}
use Rattle.sc_emit.proofs.Common.{role_to_next, role_unjoined, roll-TacStmt, rotated_follows, row, row_needs, select}
use Rattle.sc_emit.proofs.Common.{select_all, select_step, sets_it, short_form, short_operation, short_return}
use Rattle.sc_emit.proofs.Common.{slice_get-get_or, stmt_does, stmt_induction, store_is_last, stores_it, straightly}
use Rattle.sc_emit.proofs.Common.{subst, sym, taken_needed, takes_two, test_stmt, third_is_last, trail, trail_step}
use Rattle.sc_emit.proofs.Common.{true, turning_by, which_pair, word_of_constant, wrapping, ℕ, ⊎_elim, ◌++◌, ◌+◌, ◌<◌}
use Rattle.sc_emit.proofs.Common.{◌^◌, ◌||◌, ◌∙◌, ◌∷◌, ◌≡◌, ◌≤◌}
use Rattle.sc_core.specs.Prelude.{in_order as one_by_one}
use Rattle.sc_emit_select.specs.Prelude.{Piece as Code}
use Rattle.sc_emit.proofs.Needed.{all_append, gives_to_next, gives_of, head_needs, need_gives, taken_unjoined}
use Rattle.sc_emit.proofs.Stored.{assigns, assigns_follow, both_parts}
use Rattle.sc_emit.proofs.Constants.{applies, both_steps, short_follows}
use Rattle.std.specs.Bool.{beq}
use Rattle.sc_tac.specs.declared.stmt.Constant.TheVariants as constant
use Rattle.sc_tac.specs.declared.stmt.TacOp.TheVariants as tacop
use Rattle.sc_tac.specs.declared.stmt.TacStmt.TheOpen as tac
use Rattle.sc_emit_select.specs.declared.roles.Role.TheVariants.{Returns}
use Rattle.sc_emit_relation.proofs.Loops.{loop_follows}
use Rattle.sc_emit_relation.proofs.Rows.{nothing_follows, row_follows}
use Rattle.sc_emit.proofs.Calls.{Answers, HasPlace, call_own_follows, call_cross_follows}
use Rattle.sc_emit.proofs.Choices.{fork_follows}
use Rattle.sc_emit.proofs.Environment.{input_follows, output_follows}
use Rattle.sc_emit.proofs.Operations.{op_follows, load_follows, store_follows}
use Rattle.sc_emit.proofs.Passing.{Test, PassesAll, AllPass, PassesHere, first_passes, prefix_passes, rest_pass}
use Rattle.sc_emit.proofs.Passing.{passes_here, choice_passes, loop_passes}
use Rattle.sc_emit.proofs.Plain.{const_follows, copy_follows, object_follows, global_follows}
use Rattle.sc_emit.proofs.Reading.{both_trails, read_follows, reads}
use Rattle.sc_emit.proofs.Heads.{head_of_stmts}
use Rattle.sc_emit.proofs.Returned.{all_three, gives_back, gives_back_follows, three_as_one}
use Rattle.sc_emit.proofs.Returns.{return_follows}
use Rattle.sc_emit.proofs.Straight.{after_nothing}
use Rattle.sc_emit.proofs.Heap.{alloc_follows, free_follows, keeps_to_heap}

beq_same : (a b : Bool) → beq a b ≡ true → a ≡ b
beq_same true true h = refl
beq_same true false h = cc h
beq_same false true h = cc h
beq_same false false h = refl

module _ {T : Setting} {R : Running} (valid : IsRunning T R) (calls : Calls) (follow : CallsFollow T calls)
    (function : ℕ → Bool) (entry : (comp index : ℕ) → Bool) (global : ℕ → Bool)
    (reached : AreReached T R.activation.here.comp function entry global) (limit : ℕ) (pays : limit ≤ T.turn_pays)
    (reach : R.plan.near ≡ true → limit < branch_reach) where
  abbrev here : Here
  here = R.activation.here

  abbrev frame : FrameTree
  frame = R.activation.frame

  -- what statements of the function keep
  abbrev tests : List Test
  tests =
      names_own_temps (length R.places) ∷ names_own_object (length valid.cells) ∷ has_operands ∷ passes_few ∷ has_words
      ∷ has_elements ∷ names_only function entry global ∷ calls_only (T.makes here.comp) (T.gives here.comp) ∷
      keeps_to_heap (has_heap T.image here.comp) ∷ []

  abbrev does : TacStmt → Codes
  does = stmt_does wrapping here calls

  abbrev code : TacStmt → Code
  code = select frame R.places R.plan

  -- what is read in its place
  abbrev AllNeeded : List ℕ → Type 0
  AllNeeded temps = list_all R.plan.needed temps ≡ true

  abbrev TakesNeeded : Need → Type 0
  TakesNeeded need = (t : ℕ) → held_in need.takes ≡ Some t → R.plan.needed t ≡ true

  abbrev Followed : TacStmt → Type 0
  Followed stmt =
      PassesAll tests stmt → AllNeeded (need stmt).reads → TakesNeeded (need stmt) → (code stmt).size ≤ limit →
      Follows T R (does stmt) (code stmt) (trail stmt)

  -- the place of a temporary that a statement names first
  place_there : (t : ℕ) (rest : List ℕ) → list_all (λ t. nat_lt t (length R.places)) (t ∷ rest) ≡ true →
      HasPlace R.places (Some t)
  place_there t rest h =
      let below : t < length R.places =
      ltb-true t (length R.places) (and_parts (nat_lt t (length R.places)) _ h).0 in
      (_, slice_get-get_or R.places t (Register 0) below)

  -- Statements in order, which may be one piece of code.
  abbrev coded : Role → List TacStmt → Code
  coded before stmts = in_turn (joined frame R.places before (map code stmts))

  abbrev Row : Role → List TacStmt → Type 0
  Row before stmts =
      (coded before stmts).size ≤ limit →
      Follows T R (all_do (map does stmts)) (coded before stmts) (row (map trail stmts))

  piece_by : (before following : Role) (stmt : TacStmt) (one two : Bool) →
      joins (role_to_next before (code stmt).role) following ≡ one → joins before (code stmt).role ≡ two →
      between frame R.places before (code stmt) following ≡
      (if one then no_lines else if two then as_one frame R.places before (code stmt).role else code stmt)
  piece_by before following stmt one two h k =
      ap₂ (λ a b. if a then no_lines else if b then as_one frame R.places before (code stmt).role else code stmt) h k

  -- a statement that has code of its own, before others
  by_itself : (before : Role) (stmt : TacStmt) (rest : List TacStmt) → joins before (code stmt).role ≡ false →
      joins (code stmt).role (role_first (map code rest)) ≡ false →
      ((code stmt).size ≤ limit → Follows T R (does stmt) (code stmt) (trail stmt)) →
      Row (code stmt).role rest → Row before (stmt ∷ rest)
  by_itself before stmt rest none alone first later few =
      let own : Role = role_to_next before (code stmt).role in
      let own_is : own ≡ (code stmt).role = role_unjoined before (code stmt).role none in
      let following : Code = coded own rest in
      let same : between frame R.places before (code stmt) (role_first (map code rest)) ≡ code stmt =
      piece_by before (role_first (map code rest)) stmt false false
      (ap (λ r. joins r (role_first (map code rest))) own_is ∙ alone) none in
      let all : (code stmt).size + following.size ≤ limit =
      subst (λ p. p.size + following.size ≤ limit) same few in
      subst (λ p. Follows T R (all_do (map does (stmt ∷ rest))) (followed p following) (row (map trail (stmt ∷ rest))))
      (sym same)
      (row_follows T R (does stmt) (all_do (map does rest)) (code stmt) following (trail stmt) (map trail rest)
      (first (omega (arith, all))) (subst (λ r. Row r rest) (sym own_is) later (omega (arith, all))))

  -- the word of a variable, which two statements read
  read_follows_here : (dest object : ℕ) (pointer : Bool) →
      PassesAll tests (roll-TacStmt (tac.ObjectPlace dest object)) →
      Follows T R (reads valid calls dest object pointer)
      (straightly frame R.places (object_read frame R.places dest object)) (both_trails valid calls dest object pointer)
  read_follows_here dest object pointer pass =
      let h = passes_here tests (tac.ObjectPlace dest object) pass in
      let place = place_there dest [] h.0 in
      let below : object < length valid.cells = ltb-true object (length valid.cells) h.1.0 in
      let its = slice_get-get_or valid.cells object 0 below in
      let there = object_there valid.cells R.places valid.nodes frame valid.is.frame_fits object _ its in
      read_follows valid calls dest object pointer there.0 place.0 place.1 there.1 (omega (
        arith,
        object_inside valid.cells R.places valid.nodes frame valid.is.frame_fits object there.0 _ there.1
            its,
      ))

  -- what a statement of a known layer reads
  reads_of : (stmt : TacStmt) (layer : TacStmt-F TacStmt) → stmt ≡ roll-TacStmt layer → AllNeeded (need stmt).reads →
      AllNeeded (need_step (map-TacStmt _ _ need layer)).reads
  reads_of stmt layer same h =
      subst (λ (n : Need). AllNeeded n.reads) (ap need same ∙ fold-roll-TacStmt Need need_step layer) h

  -- a variable that is assigned, by two statements
  assigns_follow_here : (temp object value : ℕ) (lone : R.plan.needed temp ≡ false)
      (wants : R.plan.needed value ≡ true) →
      PassesAll tests (roll-TacStmt (tac.ObjectPlace temp object)) →
      Follows T R (assigns valid calls temp object value lone wants)
      (straightly frame R.places (object_store frame R.places value object))
      (both_parts valid calls temp object value lone wants)
  assigns_follow_here temp object value lone wants pass =
      let h = passes_here tests (tac.ObjectPlace temp object) pass in
      let below : object < length valid.cells = ltb-true object (length valid.cells) h.1.0 in
      let its = slice_get-get_or valid.cells object 0 below in
      let there = object_there valid.cells R.places valid.nodes frame valid.is.frame_fits object _ its in
      assigns_follow valid calls temp object value lone wants there.0 there.1 (omega (
        arith,
        object_inside valid.cells R.places valid.nodes frame valid.is.frame_fits object there.0 _ there.1
            its,
      ))

  -- a constant is a word
  is_word : (dest : ℕ) (value : Constant) → has_words (tac.Const dest value) ≡ true → word_of_constant value < 2 ^ 32
  is_word dest (constant.Word w) h = ltb-true w (2 ^ 32) h
  is_word dest constant.Null h = omega arith

  -- the operator counts elements of few cells, if it counts any
  is_sound : (o : TacOp) → counts_elements o ≡ true → IsSound o
  is_sound (tacop.Unary o scalar) h = tt
  is_sound (tacop.Binary o scalar) h = tt
  is_sound tacop.PointerNot h = tt
  is_sound (tacop.PointerMove minus cells index) h = tt
  is_sound (tacop.PointerMember offset) h = tt
  is_sound (tacop.PointerDifference cells) h =
      let both = and_parts (nat_lt 0 cells) (nat_lt cells (2 ^ 29)) h in
      record { some = ltb-true 0 cells both.0; few = ltb-true cells (2 ^ 29) both.1 }
  is_sound (tacop.PointerCompare o) h = tt

  -- the operator of a temporary and a constant
  short_follows_here : (temp dest left : ℕ) (value : Constant) (o : TacOp) (form : ShortForm) →
      (lone : R.plan.needed temp ≡ false) (read : R.plan.needed left ≡ true) →
      short_form o (word_of_constant value) ≡ Some form
      →
      PassesAll tests (roll-TacStmt (tac.Const temp value)) →
      PassesAll tests (roll-TacStmt (tac.Op dest o left (Some temp))) →
      Follows T R (applies valid calls temp dest left value o lone read)
      (straightly frame R.places (short_operation frame R.places dest left (short_form o (word_of_constant value))))
      (both_steps valid calls temp dest left value o lone read)
  short_follows_here temp dest left value o form lone read form_is pass pass' =
      let h = passes_here tests (tac.Const temp value) pass in
      let k = passes_here tests (tac.Op dest o left (Some temp)) pass' in
      let place = place_there dest (left ∷ temp ∷ []) k.0 in
      subst (λ form. Follows T R (applies valid calls temp dest left value o lone read)
      (straightly frame R.places (short_operation frame R.places dest left form))
      (both_steps valid calls temp dest left value o lone read)) (sym form_is)
      (short_follows valid calls temp dest left value o lone read form form_is
      (is_sound o k.1.1.1.1.1.0) (is_word temp value h.1.1.1.1.0) place.0 place.1)

  -- the same, returned
  back_follows_here : (temp dest left : ℕ) (value : Constant) (o : TacOp) (form : ShortForm) →
      (lone : R.plan.needed temp ≡ false) (read : R.plan.needed left ≡ true) →
      short_form o (word_of_constant value) ≡ Some form →
      PassesAll tests (roll-TacStmt (tac.Const temp value)) →
      PassesAll tests (roll-TacStmt (tac.Op dest o left (Some temp))) →
      Follows T R (gives_back valid calls temp dest left value o lone read)
      (straightly frame R.places (short_return frame R.places left (short_form o (word_of_constant value))))
      (all_three valid calls temp dest left value o lone read)
  back_follows_here temp dest left value o form lone read form_is pass pass' =
      let h = passes_here tests (tac.Const temp value) pass in
      let k = passes_here tests (tac.Op dest o left (Some temp)) pass' in
      subst (λ form. Follows T R (gives_back valid calls temp dest left value o lone read)
      (straightly frame R.places (short_return frame R.places left form))
      (all_three valid calls temp dest left value o lone read)) (sym form_is)
      (gives_back_follows valid calls temp dest left value o lone read form form_is
      (is_sound o k.1.1.1.1.1.0) (is_word temp value h.1.1.1.1.0))

  -- the first operand of an operator is read in its place
  left_wanted : (stmt : TacStmt) (dest left : ℕ) (o : TacOp) (right : ℕ) →
      stmt ≡ roll-TacStmt (tac.Op dest o left (Some right)) → AllNeeded (need stmt).reads → R.plan.needed left ≡ true
  left_wanted stmt dest left o right is h =
      let reads_left : AllNeeded (left ∷ []) = reads_of stmt (tac.Op dest o left (Some right)) is h in
      and_first (R.plan.needed left) true reads_left

  by_test : {C : Type 0} (found : Bool) → (found ≡ false → C) → (found ≡ true → C) → C
  by_test true off on = on refl
  by_test false off on = off refl

  abbrev layer_does : TacStmt-F TacStmt → Codes
  layer_does layer = code_step wrapping here calls (map-TacStmt _ _ does layer)

  abbrev layer_trail : TacStmt-F TacStmt → Trail
  layer_trail layer = trail_step (map-TacStmt _ _ trail layer)

  does_layer : (stmt : TacStmt) (layer : TacStmt-F TacStmt) → stmt ≡ roll-TacStmt layer → does stmt ≡ layer_does layer
  does_layer stmt layer is = ap does is ∙ fold-roll-TacStmt Codes (code_step wrapping here calls) layer

  trail_layer : (stmt : TacStmt) (layer : TacStmt-F TacStmt) → stmt ≡ roll-TacStmt layer →
      trail stmt ≡ layer_trail layer
  trail_layer stmt layer is = ap trail is ∙ fold-roll-TacStmt Trail trail_step layer

  -- the layers of statements in their place
  as_layers : (does_them their : List Codes) (trails layers : List Trail) (c : Code) → does_them ≡ their →
      trails ≡ layers → Follows T R (all_do their) c (row layers) → Follows T R (all_do does_them) c (row trails)
  as_layers does_them their trails layers c h k F =
      subst (λ d. Follows T R (all_do d) c (row trails)) (sym h)
      (subst (λ t. Follows T R (all_do their) c (row t)) (sym k) F)

  -- two statements of these layers that are one piece, before others: the first has no lines, the second those of both
  two_follow : (before : Role) (stmt next : TacStmt) (rest : List TacStmt) (first second : TacStmt-F TacStmt)
      (one : Code) (both : Codes) (both_trail : Trail) → stmt ≡ roll-TacStmt first → next ≡ roll-TacStmt second →
      between frame R.places before (code stmt) (code next).role ≡ no_lines →
      between frame R.places (role_to_next before (code stmt).role) (code next) (role_first (map code rest)) ≡ one →
      Follows T R both one both_trail →
      ((c : Code) →
      Follows T R (λ temps s. then_follow one_by_one (both temps s) (all_do (map does rest))) c
      (row (both_trail ∷ map trail rest)) →
      Follows T R (all_do (layer_does first ∷ layer_does second ∷ map does rest)) c
      (row (layer_trail first ∷ layer_trail second ∷ map trail rest))) →
      Row (role_to_next (role_to_next before (code stmt).role) (code next).role) rest → Row before (stmt ∷ next ∷ rest)
  two_follow before stmt next rest first second one both both_trail first_is second_is c1 c2 F same later few =
      let own : Role = role_to_next before (code stmt).role in
      let following : Code = coded (role_to_next own (code next).role) rest in
      let sizes : no_lines.size + (one.size + following.size) ≤ limit =
      subst (λ p. p.size + (one.size + following.size) ≤ limit) c1
      (subst (λ p. (between frame R.places before (code stmt) (code next).role).size + (p.size + following.size) ≤
      limit)
      c2 few) in
      let done : Follows T R (all_do (layer_does first ∷ layer_does second ∷ map does rest))
      (followed no_lines (followed one following)) (row (layer_trail first ∷ layer_trail second ∷ map trail rest)) =
      after_nothing T R (all_do (layer_does first ∷ layer_does second ∷ map does rest)) (followed one following)
      (row (layer_trail first ∷ layer_trail second ∷ map trail rest))
      (same (followed one following)
      (row_follows T R both (all_do (map does rest)) one following both_trail (map trail rest) F
      (later (omega (arith, sizes))))) in
      subst (λ p. Follows T R (all_do (map does (stmt ∷ next ∷ rest))) (followed p (followed
      (between frame R.places own (code next) (role_first (map code rest))) following))
      (row (map trail (stmt ∷ next ∷ rest)))) (sym c1)
      (subst (λ p. Follows T R (all_do (map does (stmt ∷ next ∷ rest))) (followed no_lines (followed p following))
      (row (map trail (stmt ∷ next ∷ rest)))) (sym c2)
      (as_layers (map does (stmt ∷ next ∷ rest)) (layer_does first ∷ layer_does second ∷ map does rest)
      (map trail (stmt ∷ next ∷ rest)) (layer_trail first ∷ layer_trail second ∷ map trail rest)
      (followed no_lines (followed one following))
      (ap₂ (λ a b. a ∷ b ∷ map does rest) (does_layer stmt first first_is) (does_layer next second second_is))
      (ap₂ (λ a b. a ∷ b ∷ map trail rest) (trail_layer stmt first first_is) (trail_layer next second second_is))
      done))

  -- three statements that are one piece: the last has the lines of all
  three_follow : (before : Role) (stmt next last : TacStmt) (rest : List TacStmt)
      (first second third : TacStmt-F TacStmt) (one : Code) (all : Codes) (all_trail : Trail) →
      stmt ≡ roll-TacStmt first → next ≡ roll-TacStmt second → last ≡ roll-TacStmt third →
      between frame R.places before (code stmt) (code next).role ≡ no_lines →
      between frame R.places (role_to_next before (code stmt).role) (code next) (code last).role ≡ no_lines →
      between frame R.places (role_to_next (role_to_next before (code stmt).role) (code next).role) (code last)
      (role_first (map code rest)) ≡ one → Follows T R all one all_trail →
      ((c : Code) →
      Follows T R (λ temps s. then_follow one_by_one (all temps s) (all_do (map does rest))) c
      (row (all_trail ∷ map trail rest)) →
      Follows T R (all_do (layer_does first ∷ layer_does second ∷ layer_does third ∷ map does rest)) c
      (row (layer_trail first ∷ layer_trail second ∷ layer_trail third ∷ map trail rest))) →
      Row (role_to_next (role_to_next (role_to_next before (code stmt).role) (code next).role) (code last).role) rest →
      Row before (stmt ∷ next ∷ last ∷ rest)
  three_follow before stmt next last rest first second third one all all_trail first_is second_is third_is c1 c2 c3 F
      same later few =
      let own : Role = role_to_next before (code stmt).role in
      let own' : Role = role_to_next own (code next).role in
      let following : Code = coded (role_to_next own' (code last).role) rest in
      let stmts : List TacStmt = stmt ∷ next ∷ last ∷ rest in
      let p1 : Code = between frame R.places before (code stmt) (code next).role in
      let p2 : Code = between frame R.places own (code next) (code last).role in
      let p3 : Code = between frame R.places own' (code last) (role_first (map code rest)) in
      let sizes : no_lines.size + (no_lines.size + (one.size + following.size)) ≤ limit =
      subst (λ p. p.size + (no_lines.size + (one.size + following.size)) ≤ limit) c1
      (subst (λ p. p1.size + (p.size + (one.size + following.size)) ≤ limit) c2
      (subst (λ p. p1.size + (p2.size + (p.size + following.size)) ≤ limit) c3 few)) in
      let layers : List Codes = layer_does first ∷ layer_does second ∷ layer_does third ∷ map does rest in
      let trails : List Trail = layer_trail first ∷ layer_trail second ∷ layer_trail third ∷ map trail rest in
      let done : Follows T R (all_do layers) (followed no_lines (followed no_lines (followed one following)))
      (row trails) =
      after_nothing T R (all_do layers) (followed no_lines (followed one following)) (row trails)
      (after_nothing T R (all_do layers) (followed one following) (row trails)
      (same (followed one following)
      (row_follows T R all (all_do (map does rest)) one following all_trail (map trail rest) F
      (later (omega (arith, sizes)))))) in
      subst (λ p. Follows T R (all_do (map does stmts)) (followed p (followed p2 (followed p3 following)))
      (row (map trail stmts))) (sym c1)
      (subst (λ p. Follows T R (all_do (map does stmts)) (followed no_lines (followed p (followed p3 following)))
      (row (map trail stmts))) (sym c2)
      (subst (λ p. Follows T R (all_do (map does stmts)) (followed no_lines (followed no_lines (followed p following)))
      (row (map trail stmts))) (sym c3)
      (as_layers (map does stmts) layers (map trail stmts) trails
      (followed no_lines (followed no_lines (followed one following)))
      (ap₂ (λ a b. a ∷ b ∷ does last ∷ map does rest) (does_layer stmt first first_is)
      (does_layer next second second_is) ∙
      ap (λ c. layer_does first ∷ layer_does second ∷ c ∷ map does rest) (does_layer last third third_is))
      (ap₂ (λ a b. a ∷ b ∷ trail last ∷ map trail rest) (trail_layer stmt first first_is)
      (trail_layer next second second_is) ∙
      ap (λ c. layer_trail first ∷ layer_trail second ∷ c ∷ map trail rest) (trail_layer last third third_is))
      done)))

  -- two statements that are one piece, before others with which they aren't
  pair_follows : (before : Role) (stmt next : TacStmt) (rest : List TacStmt) → joins before (code stmt).role ≡ false →
      joins (code stmt).role (code next).role ≡ true →
      joins (role_to_next (code stmt).role (code next).role) (role_first (map code rest)) ≡ false →
      PassesAll tests stmt → PassesAll tests next → AllNeeded (need next).reads →
      Row (role_to_next (code stmt).role (code next).role) rest → Row before (stmt ∷ next ∷ rest)
  pair_follows before stmt next rest none both alone pass pass' reads_next later =
      ⊎_elim read (⊎_elim store (⊎_elim short back)) (which_pair (code stmt).role (code next).role both)
    where
      own_is : role_to_next before (code stmt).role ≡ (code stmt).role
      own_is = role_unjoined before (code stmt).role none

      c1 : between frame R.places before (code stmt) (code next).role ≡ no_lines
      c1 = piece_by before (code next).role stmt true false (ap (λ r. joins r (code next).role) own_is ∙ both) none

      c2 : between frame R.places (role_to_next before (code stmt).role) (code next) (role_first (map code rest)) ≡
          as_one frame R.places (code stmt).role (code next).role
      c2 =
          ap (λ r. between frame R.places r (code next) (role_first (map code rest))) own_is ∙
          piece_by (code stmt).role (role_first (map code rest)) next false true alone both

      following : Row (role_to_next (role_to_next before (code stmt).role) (code next).role) rest
      following = subst (λ r. Row (role_to_next r (code next).role) rest) (sym own_is) later

      read : IsRead (code stmt).role (code next).role → Row before (stmt ∷ next ∷ rest)
      read pair =
          let first : stmt ≡ roll-TacStmt (tac.ObjectPlace pair.temp pair.object) =
          gives_place frame R.places R.plan stmt pair.temp pair.object pair.gives in
          let second = loads_it frame R.places R.plan next pair.temp pair.loads in
          two_follow before stmt next rest (tac.ObjectPlace pair.temp pair.object)
          (tac.Load pair.temp pair.temp second.pointer)
          (straightly frame R.places (object_read frame R.places pair.temp pair.object))
          (reads valid calls pair.temp pair.object second.pointer)
          (both_trails valid calls pair.temp pair.object second.pointer) first
          second.is c1 (c2 ∙ ap₂ (as_one frame R.places) pair.gives pair.loads)
          (read_follows_here pair.temp pair.object second.pointer (subst (PassesAll tests) first pass)) (λ c F. F)
          following

      store : IsStored (code stmt).role (code next).role → Row before (stmt ∷ next ∷ rest)
      store pair =
          let first : stmt ≡ roll-TacStmt (tac.ObjectPlace pair.temp pair.object) =
          gives_place frame R.places R.plan stmt pair.temp pair.object pair.gives in
          let second = stores_it frame R.places R.plan next pair.temp pair.value pair.stores in
          let reads_value : AllNeeded (pair.value ∷ []) = reads_of next (tac.Store pair.temp pair.value) second.is
          reads_next in
          let wants : R.plan.needed pair.value ≡ true = and_first (R.plan.needed pair.value) true reads_value in
          two_follow before stmt next rest (tac.ObjectPlace pair.temp pair.object) (tac.Store pair.temp pair.value)
          (straightly frame R.places (object_store frame R.places pair.value pair.object))
          (assigns valid calls pair.temp pair.object pair.value second.lone wants)
          (both_parts valid calls pair.temp pair.object pair.value second.lone wants)
          first second.is c1 (c2 ∙ ap₂ (as_one frame R.places) pair.gives pair.stores)
          (assigns_follow_here pair.temp pair.object pair.value second.lone wants
          (subst (PassesAll tests) first pass)) (λ c F. F) following

      short : IsShort (code stmt).role (code next).role → Row before (stmt ∷ next ∷ rest)
      short pair =
          let first = sets_it frame R.places R.plan stmt pair.temp pair.word pair.sets in
          let second = operates_it frame R.places R.plan next pair.dest pair.left pair.op pair.temp pair.operates in
          let word_is : pair.word ≡ word_of_constant first.value = sym first.word_is in
          let wants = left_wanted next pair.dest pair.left pair.op pair.temp second.is reads_next in
          two_follow before stmt next rest (tac.Const pair.temp first.value)
          (tac.Op pair.dest pair.op pair.left (Some pair.temp))
          (straightly frame R.places
          (short_operation frame R.places pair.dest pair.left (short_form pair.op (word_of_constant first.value))))
          (applies valid calls pair.temp pair.dest pair.left first.value pair.op second.lone wants)
          (both_steps valid calls pair.temp pair.dest pair.left first.value pair.op second.lone wants) first.is
          second.is c1
          (c2 ∙ ap₂ (as_one frame R.places) pair.sets pair.operates ∙
          ap (λ w. straightly frame R.places (short_operation frame R.places pair.dest pair.left (short_form pair.op
          w)))
          word_is)
          (short_follows_here pair.temp pair.dest pair.left first.value pair.op pair.form second.lone wants
          (ap (short_form pair.op) first.word_is ∙ pair.form_is) (subst (PassesAll tests) first.is pass)
          (subst (PassesAll tests) second.is pass')) (λ c F. F) following

      back : IsReturned (code stmt).role (code next).role → Row before (stmt ∷ next ∷ rest)
      back pair = absurd (never_applies frame R.places R.plan stmt pair.temp pair.left pair.op pair.word pair.applies)

  -- three statements that are one piece, before others: the third returns what the two before it compute
  three_are_one : (before : Role) (stmt next last : TacStmt) (rest : List TacStmt) →
      joins before (code stmt).role ≡ false → joins (code stmt).role (code next).role ≡ true →
      joins (role_to_next (code stmt).role (code next).role) (code last).role ≡ true →
      PassesAll tests stmt → PassesAll tests next → AllNeeded (need next).reads →
      Row (code last).role rest → Row before (stmt ∷ next ∷ last ∷ rest)
  three_are_one before stmt next last rest none both third pass pass' reads_next later =
      ⊎_elim read (⊎_elim store (⊎_elim short back)) (which_pair (code stmt).role (code next).role both)
    where
      own_is : role_to_next before (code stmt).role ≡ (code stmt).role
      own_is = role_unjoined before (code stmt).role none

      never : joins (role_to_next (code stmt).role (code next).role) (code last).role ≡ false →
          Row before (stmt ∷ next ∷ last ∷ rest)
      never h = let false_is : true ≡ false = sym third ∙ h in cc false_is

      read : IsRead (code stmt).role (code next).role → Row before (stmt ∷ next ∷ last ∷ rest)
      read pair = never (read_is_last (code stmt).role (code next).role (code last).role pair)

      store : IsStored (code stmt).role (code next).role → Row before (stmt ∷ next ∷ last ∷ rest)
      store pair = never (store_is_last (code stmt).role (code next).role (code last).role pair)

      back : IsReturned (code stmt).role (code next).role → Row before (stmt ∷ next ∷ last ∷ rest)
      back pair = never (return_is_last (code stmt).role (code next).role (code last).role pair)

      short : IsShort (code stmt).role (code next).role → Row before (stmt ∷ next ∷ last ∷ rest)
      short pair = given pair (return_of (code last).role pair.dest pair.left pair.op pair.word
          (sym (ap (λ r. joins r (code last).role) pair.following) ∙ third))
        where
          given : (pair : IsShort (code stmt).role (code next).role) → (code last).role ≡ Returns pair.dest →
              Row before (stmt ∷ next ∷ last ∷ rest)
          given pair gives =
              let first = sets_it frame R.places R.plan stmt pair.temp pair.word pair.sets in
              let second = operates_it frame R.places R.plan next pair.dest pair.left pair.op pair.temp pair.operates in
              let third_is : last ≡ roll-TacStmt (tac.Return (Some pair.dest)) =
              returns_it frame R.places R.plan last pair.dest gives in
              let word_is : pair.word ≡ word_of_constant first.value = sym first.word_is in
              let wants = left_wanted next pair.dest pair.left pair.op pair.temp second.is reads_next in
              let own' : Role = role_to_next (role_to_next before (code stmt).role) (code next).role in
              let own'_is : own' ≡ Applies pair.dest pair.left pair.op pair.word =
              ap (λ r. role_to_next r (code next).role) own_is ∙ pair.following in
              let after_last : role_to_next own' (code last).role ≡ (code last).role =
              ap (λ r. role_to_next r (code last).role) own'_is in
              let c1 : between frame R.places before (code stmt) (code next).role ≡ no_lines =
              piece_by before (code next).role stmt true false (ap (λ r. joins r (code next).role) own_is ∙ both)
              none in
              let c2 : between frame R.places (role_to_next before (code stmt).role) (code next) (code last).role ≡
              no_lines =
              piece_by (role_to_next before (code stmt).role) (code last).role next true true
              (ap (λ r. joins (role_to_next r (code next).role) (code last).role) own_is ∙ third)
              (ap (λ r. joins r (code next).role) own_is ∙ both) in
              let c3 : between frame R.places own' (code last) (role_first (map code rest)) ≡
              straightly frame R.places
              (short_return frame R.places pair.left (short_form pair.op (word_of_constant first.value))) =
              piece_by own' (role_first (map code rest)) last false true
              (ap₂ (λ r q. joins (role_to_next r q) (role_first (map code rest))) own'_is gives)
              (ap₂ joins own'_is gives ∙ eq-eqb pair.dest pair.dest refl) ∙
              ap₂ (as_one frame R.places) own'_is gives ∙
              ap (λ w. straightly frame R.places (short_return frame R.places pair.left (short_form pair.op w))) word_is
              in
              three_follow before stmt next last rest (tac.Const pair.temp first.value)
              (tac.Op pair.dest pair.op pair.left (Some pair.temp)) (tac.Return (Some pair.dest))
              (straightly frame R.places
              (short_return frame R.places pair.left (short_form pair.op (word_of_constant first.value))))
              (gives_back valid calls pair.temp pair.dest pair.left first.value pair.op second.lone wants)
              (all_three valid calls pair.temp pair.dest pair.left first.value pair.op second.lone wants)
              first.is second.is third_is c1 c2 c3
              (back_follows_here pair.temp pair.dest pair.left first.value pair.op pair.form second.lone wants
              (ap (short_form pair.op) first.word_is ∙ pair.form_is) (subst (PassesAll tests) first.is pass)
              (subst (PassesAll tests) second.is pass'))
              (three_as_one valid calls pair.temp pair.dest pair.left first.value pair.op
              second.lone wants (all_do (map does rest)) (map trail rest))
              (subst (λ r. Row r rest) (sym after_last) later)

  -- what is read in a row
  abbrev RowNeeds : Role → List TacStmt → Type 0
  RowNeeds before stmts = AllNeeded (row_needs (gives_of before) (map need stmts))

  record RowParts (before : Role) (stmt : TacStmt) (rest : List TacStmt) : Type 0 where
    taken : AllNeeded (taken_needed (gives_of before) (need stmt).takes)
    reads : AllNeeded (need stmt).reads
    following : RowNeeds (code stmt).role rest

  row_parts : (before : Role) (stmt : TacStmt) (rest : List TacStmt) → RowNeeds before (stmt ∷ rest) →
      RowParts before stmt rest
  row_parts before stmt rest h =
      let first = all_append R.plan.needed (taken_needed (gives_of before) (need stmt).takes)
      ((need stmt).reads ++ row_needs (need stmt).gives (map need rest)) h in
      let second = all_append R.plan.needed (need stmt).reads (row_needs (need stmt).gives (map need rest)) first.1 in
      record {
        taken = first.0;
        reads = second.0;
        following = subst (λ g. AllNeeded (row_needs g (map need rest)))
            (sym (need_gives frame R.places R.plan stmt)) second.1;
      }

  -- what is read after two that are one
  needs_after : (before own : Role) (rest : List TacStmt) → RowNeeds own rest →
      RowNeeds (role_to_next before own) rest
  needs_after before own rest h =
      subst (λ g. AllNeeded (row_needs g (map need rest))) (sym (gives_to_next before own)) h

  row_from : (before : Role) (stmts : List TacStmt) → Each Followed stmts → AllPass tests stmts →
      RowNeeds before stmts → joins before (role_first (map code stmts)) ≡ false → Row before stmts
  row_from before [] each pass needs none = λ few. nothing_follows T R
  row_from before (stmt ∷ []) each pass needs none =
      let parts = row_parts before stmt [] needs in
      by_itself before stmt [] none (none_after (code stmt).role)
      (each.0 (first_passes tests stmt [] pass) parts.reads
      (taken_unjoined frame R.places R.plan before stmt parts.taken none)) (λ few. nothing_follows T R)
  row_from before (stmt ∷ next ∷ []) each pass needs none =
      let following = rest_pass tests stmt (next ∷ []) pass in
      let parts = row_parts before stmt (next ∷ []) needs in
      let later = row_parts (code stmt).role next [] parts.following in
      by_test (joins (code stmt).role (code next).role)
      (λ alone. by_itself before stmt (next ∷ []) none alone
      (each.0 (first_passes tests stmt (next ∷ []) pass) parts.reads
      (taken_unjoined frame R.places R.plan before stmt parts.taken none))
      (row_from (code stmt).role (next ∷ []) each.1 following parts.following alone))
      (λ both. pair_follows before stmt next [] none both
      (none_after (role_to_next (code stmt).role (code next).role)) (first_passes tests stmt (next ∷ []) pass)
      (first_passes tests next [] following) later.reads (λ few. nothing_follows T R))
  row_from before (stmt ∷ next ∷ last ∷ rest) each pass needs none =
      let following = rest_pass tests stmt (next ∷ last ∷ rest) pass in
      let further = rest_pass tests next (last ∷ rest) following in
      let parts = row_parts before stmt (next ∷ last ∷ rest) needs in
      let later = row_parts (code stmt).role next (last ∷ rest) parts.following in
      let at_last = row_parts (code next).role last rest later.following in
      let both_pass = first_passes tests stmt (next ∷ last ∷ rest) pass in
      let next_passes = first_passes tests next (last ∷ rest) following in
      by_test (joins (code stmt).role (code next).role)
      (λ alone. by_itself before stmt (next ∷ last ∷ rest) none alone
      (each.0 both_pass parts.reads (taken_unjoined frame R.places R.plan before stmt parts.taken none))
      (row_from (code stmt).role (next ∷ last ∷ rest) each.1 following parts.following alone))
      (λ both. by_test (joins (role_to_next (code stmt).role (code next).role) (code last).role)
      (λ alone. pair_follows before stmt next (last ∷ rest) none both alone both_pass next_passes later.reads
      (row_from (role_to_next (code stmt).role (code next).role) (last ∷ rest) each.1.1 further
      (needs_after (code stmt).role (code next).role (last ∷ rest) later.following) alone))
      (λ third. three_are_one before stmt next last rest none both third both_pass next_passes later.reads
      (row_from (code last).role rest each.1.1.1 (rest_pass tests last rest further) at_last.following
      (third_is_last (code stmt).role (code next).role (code last).role (role_first (map code rest)) both third))))

  row_of : (stmts : List TacStmt) → Each Followed stmts → AllPass tests stmts →
      AllNeeded (row_needs Other (map need stmts)) →
      (in_order frame R.places (map code stmts)).size ≤ limit →
      Follows T R (all_do (map does stmts)) (in_order frame R.places (map code stmts)) (row (map trail stmts))
  row_of stmts each pass needs few = row_from Other stmts each pass needs refl few

  -- A statement by its outermost layer.
  abbrev layer_need : TacStmt-F TacStmt → Need
  layer_need layer = need_step (map-TacStmt _ _ need layer)

  abbrev Shape : TacStmt-F TacStmt → Type 0
  Shape layer =
      PassesHere tests layer → PassesAll tests (roll-TacStmt layer) → AllNeeded (layer_need layer).reads →
      TakesNeeded (layer_need layer) →
      (select_step frame R.places R.plan (map-TacStmt _ _ code layer)).size ≤ limit →
      Follows T R (code_step wrapping here calls (map-TacStmt _ _ does layer))
      (select_step frame R.places R.plan (map-TacStmt _ _ code layer)) (trail_step (map-TacStmt _ _ trail layer))

  -- shut in a record: the kernel compares clauses' types, and would open an abbreviation there
  record Level (layer : TacStmt-F TacStmt) : Type 0 where
    holds : Shape layer

  place_wanted : (dest : Option ℕ) (rest : List ℕ) →
      list_all (λ t. nat_lt t (length R.places)) (one_or_none dest ++ rest) ≡ true → HasPlace R.places dest
  place_wanted None rest h = tt
  place_wanted (Some dest) rest h = place_there dest rest h

  -- a call may be made, and gives a value where one is wanted
  made : (dest : Option ℕ) (target : CallTarget) (args : ℕ) →
      is_call (T.makes here.comp) (T.gives here.comp) target args dest ≡ true → T.makes here.comp target args ≡ true
  made dest target args h = (and_parts (T.makes here.comp target args) _ h).0

  answers_by : (dest : Option ℕ) (target : CallTarget) (piece : Piece (Option Value)) →
      (not (is_some dest) || T.gives here.comp target) ≡ true → (T.gives here.comp target ≡ true → GivesValue piece) →
      Answers dest piece
  answers_by None target (Reached v s) h g = tt
  answers_by None target (Stopped end s) h g = tt
  answers_by (Some dest) target (Reached None s) h g = let never : false ≡ true = g h in cc never
  answers_by (Some dest) target (Reached (Some v) s) h g = tt
  answers_by (Some dest) target (Stopped end s) h g = tt

  answers : (dest : Option ℕ) (target : CallTarget) (args : ℕ) →
      is_call (T.makes here.comp) (T.gives here.comp) target args dest ≡ true → (vs : List Value) (s : Meant) →
      Answers dest (calls here.comp target vs s)
  answers dest target args h vs s =
      answers_by dest target (calls here.comp target vs s) (and_parts (T.makes here.comp target args) _ h).1
      (follow.answers here.comp target vs s)

  const_level : (dest : ℕ) (value : Constant) → Shape (tac.Const dest value)
  const_level dest value h all needs at few =
      let place = place_there dest [] h.0 in
      const_follows valid calls dest value place.0 place.1 (is_word dest value h.1.1.1.1.0)

  copy_level : (dest from : ℕ) → Shape (tac.Copy dest from)
  copy_level dest from h all needs at few =
      let place = place_there dest (from ∷ []) h.0 in
      copy_follows valid calls dest from place.0 place.1 (and_first (R.plan.needed from) true needs)

  object_level : (dest object : ℕ) → Shape (tac.ObjectPlace dest object)
  object_level dest object h all needs at few =
      let place = place_there dest [] h.0 in
      let below : object < length valid.cells = ltb-true object (length valid.cells) h.1.0 in
      let its = slice_get-get_or valid.cells object 0 below in
      let there = object_there valid.cells R.places valid.nodes frame valid.is.frame_fits object _ its in
      object_follows valid calls dest object there.0 place.0 place.1 there.1 (omega (
        arith,
        object_inside valid.cells R.places valid.nodes frame valid.is.frame_fits object there.0 _ there.1
            its,
      ))

  global_level : (dest number : ℕ) → Shape (tac.GlobalPlace dest number)
  global_level dest number h all needs at few =
      let place = place_there dest [] h.0 in
      global_follows valid calls dest number place.0 place.1
      (reached.globals number h.1.1.1.1.1.1.0) (reached.places number h.1.1.1.1.1.1.0)

  load_level : (dest place : ℕ) (pointer : Bool) → Shape (tac.Load dest place pointer)
  load_level dest place pointer h all needs at few =
      let to = place_there dest (place ∷ []) h.0 in
      load_follows valid calls dest place pointer to.0 to.1 (and_first (R.plan.needed place) true needs)

  own_level : (dest : Option ℕ) (number : ℕ) (args : List ℕ) → Shape (tac.CallOwn dest number args)
  own_level dest number args h all needs at few =
      let address = reached.functions number h.1.1.1.1.1.1.0 in
      call_own_follows valid calls follow dest (place_wanted dest args h.0) number args
      (leb-true (length args) 8 h.1.1.1.0) needs (omega (arith, address.low))
      (made dest (Own number) (length args) h.1.1.1.1.1.1.1.0)
      (answers dest (Own number) (length args) h.1.1.1.1.1.1.1.0)

  cross_level : (dest : Option ℕ) (comp index : ℕ) (args : List ℕ) → Shape (tac.CallCross dest comp index args)
  cross_level dest comp index args h all needs at few =
      let address = reached.entries comp index h.1.1.1.1.1.1.0 in
      call_cross_follows valid calls follow dest (place_wanted dest args h.0) comp index
      args (leb-true (length args) 8 h.1.1.1.0) needs (omega (arith, address.low)) (omega (arith, address.aligned))
      (made dest (Cross comp index) (length args) h.1.1.1.1.1.1.1.0)
      (answers dest (Cross comp index) (length args) h.1.1.1.1.1.1.1.0)

  input_level : (dest : Option ℕ) → Shape (tac.Input dest)
  input_level dest h all needs at few =
      input_follows valid calls follow dest (place_wanted dest [] h.0)
      (made dest Input 0 h.1.1.1.1.1.1.1.0) (answers dest Input 0 h.1.1.1.1.1.1.1.0)

  alloc_level : (dest count words : ℕ) → Shape (tac.Alloc dest count words)
  alloc_level dest count words h all needs at few =
      alloc_follows valid h.1.1.1.1.1.1.1.1.0 calls dest count words (place_there dest (count ∷ []) h.0)
      (and_first (R.plan.needed count) true needs) (ltb-true words (2 ^ 32) h.1.1.1.1.0)

  free_level : (pointer : ℕ) → Shape (tac.Free pointer)
  free_level pointer h all needs at few =
      free_follows valid h.1.1.1.1.1.1.1.1.0 calls pointer (and_first (R.plan.needed pointer) true needs)

  if_level : (cond : ℕ) (first second : List TacStmt) → Each Followed first → Each Followed second →
      Shape (tac.If cond first second)
  if_level cond first second each each' h all needs at few =
      let pass = choice_passes tests cond first second all in
      let cond_read = and_parts (R.plan.needed cond) _ needs in
      let inner = all_append R.plan.needed (row_needs Other (map need first)) (row_needs Other (map need second))
      cond_read.1 in
      let least = parts_least frame R.places cond (map code first) (map code second) in
      fork_follows valid cond (all_do (map does first)) (all_do (map does
      second)) (map code first) (map code second) (map trail first) (map trail second)
      (row_of first each pass.0 inner.0 (omega (arith, few, least.0)))
      (row_of second each' pass.1 inner.1 (omega (arith, few, least.1))) cond_read.0

  loop_level : (head body next : List TacStmt) → Each Followed head → Each Followed body → Each Followed next →
      Shape (tac.Loop head body next)
  loop_level head body next each each' each'' h all needs at =
      let pass = loop_passes tests head body next all in
      let first = all_append R.plan.needed (row_needs Other (map need head))
      (row_needs Other (map need body) ++ row_needs Other (map need next)) needs in
      let second = all_append R.plan.needed (row_needs Other (map need body)) (row_needs Other (map need next)) first.1
      in
      let b : Code = in_order frame R.places (map code body) in
      let n : Code = in_order frame R.places (map code next) in
      turning_by frame R.places R.plan (λ piece. piece.size ≤ limit → Follows T R
      (layer_does (tac.Loop head body next)) piece (layer_trail (tac.Loop head body next))) head b n
      (λ few. loop_follows valid (all_do (map does head)) (all_do (map does body)) (all_do (map does next))
      (in_order frame R.places (map code head)) b n (map trail head) (map trail body) (map trail next)
      (row_of head each pass.0 first.0 (omega (arith, few)))
      (row_of body each' pass.1 second.0 (omega (arith, few)))
      (row_of next each'' pass.2 second.1 (omega (arith, few))) (omega (arith, few, pays))) (λ cond near t few.
      let i : Code = in_order frame R.places (map code t.init) in
      let init_passes = prefix_passes tests t.init (test_stmt cond ∷ []) (subst (AllPass tests) t.is pass.0) in
      let reads = head_needs R.plan.needed cond head t.init t.is first.0 in
      let least : limit < branch_reach = reach near in
      rotated_follows valid cond (all_do (map does head)) (all_do (map does body))
      (all_do (map does next)) i b n (map trail head) (map trail body) (map trail next)
      (head_of_stmts valid calls cond reads.1 head t i
      (row_of t.init (each_before frame R.places R.plan Followed head t.init cond t.is each) init_passes reads.0
      (omega (arith, few))) (b.size + n.size) (omega (arith, few, least)))
      (row_of body each' pass.1 second.0 (omega (arith, few)))
      (row_of next each'' pass.2 second.1 (omega (arith, few))) (omega (arith, few, pays)))

  op_level : (dest : ℕ) (o : TacOp) (left : ℕ) (right : Option ℕ) → Shape (tac.Op dest o left right)
  op_level dest o left right h all needs at few =
      let place = place_there dest (left ∷ one_or_none right) h.0 in
      op_follows valid calls dest o left place.0 place.1 right
      (beq_same (is_some right) (takes_two o) h.1.1.0) (is_sound o h.1.1.1.1.1.0)
      (and_first (R.plan.needed left) true needs) (right_read right at)
    where
      right_read : (right : Option ℕ) → TakesNeeded (layer_need (tac.Op dest o left right)) → (t : ℕ) →
          right ≡ Some t → R.plan.needed t ≡ true
      right_read None at t is = cc is
      right_read (Some temp) at t is = at t is

  level : (layer : TacStmt-F TacStmt) → Inside Followed layer → Level layer
  level (tac.Const dest value) inner = record { holds = const_level dest value }
  level (tac.Copy dest from) inner = record { holds = copy_level dest from }
  level (tac.Op dest o left right) inner = record { holds = op_level dest o left right }
  level (tac.ObjectPlace dest object) inner = record { holds = object_level dest object }
  level (tac.GlobalPlace dest number) inner = record { holds = global_level dest number }
  level (tac.Load dest place pointer) inner = record { holds = load_level dest place pointer }
  level (tac.Store place value) inner =
      record {
        holds = λ h all needs at few. store_follows valid calls place value
            (at place refl) (and_first (R.plan.needed value) true needs);
      }
  level (tac.If cond first second) inner = record { holds = if_level cond first second inner.0 inner.1 }
  level (tac.Loop head body next) inner = record { holds = loop_level head body next inner.0 inner.1 inner.2 }
  level tac.Break inner = record { holds = λ h all needs at few. break_follows valid }
  level tac.Continue inner = record { holds = λ h all needs at few. continue_follows valid }
  level (tac.CallOwn dest number args) inner = record { holds = own_level dest number args }
  level (tac.CallCross dest comp index args) inner = record { holds = cross_level dest comp index args }
  level (tac.Input dest) inner = record { holds = input_level dest }
  level (tac.Output value) inner =
      record {
        holds = λ h all needs at few. output_follows valid calls follow value needs (made
            None Output 1 h.1.1.1.1.1.1.1.0);
      }
  level (tac.Alloc dest count words) inner = record { holds = alloc_level dest count words }
  level (tac.Free pointer) inner = record { holds = free_level pointer }
  level (tac.Return value) inner =
      record { holds = λ h all needs at few. return_follows valid calls value needs }

  from_level : (layer : TacStmt-F TacStmt) → Level layer → Followed (roll-TacStmt layer)
  from_level layer l pass reads at few =
      let c : code (roll-TacStmt layer) ≡ select_step frame R.places R.plan (map-TacStmt _ _ code layer) =
      fold-roll-TacStmt Code (select_step frame R.places R.plan) layer in
      let d : does (roll-TacStmt layer) ≡ code_step wrapping here calls (map-TacStmt _ _ does layer) =
      fold-roll-TacStmt Codes (code_step wrapping here calls) layer in
      let t : trail (roll-TacStmt layer) ≡ trail_step (map-TacStmt _ _ trail layer) =
      fold-roll-TacStmt Trail trail_step layer in
      let n : need (roll-TacStmt layer) ≡ layer_need layer = fold-roll-TacStmt Need need_step layer in
      subst (λ d. Follows T R d (code (roll-TacStmt layer)) (trail (roll-TacStmt layer))) (sym d)
      (subst (λ c. Follows T R (code_step wrapping here calls (map-TacStmt _ _ does layer)) c (trail (roll-TacStmt
      layer)))
      (sym c)
      (subst (λ t. Follows T R (code_step wrapping here calls (map-TacStmt _ _ does layer))
      (select_step frame R.places R.plan (map-TacStmt _ _ code layer)) t) (sym t)
      (l.holds (passes_here tests layer pass) pass (subst (λ (n : Need). AllNeeded n.reads) n reads)
      (subst TakesNeeded n at) (subst (λ c. c.size ≤ limit) c few))))

  pub stmt_follows : (stmt : TacStmt) → Followed stmt
  stmt_follows = stmt_induction Followed (λ layer inner. from_level layer (level layer inner))

  -- statements in order
  pub body_follows : (stmts : List TacStmt) → AllPass tests stmts → AllNeeded (needs_of stmts) →
      (select_all frame R.places R.plan
      stmts).size ≤ limit →
      Follows T R (code_does wrapping here calls stmts) (select_all frame R.places R.plan stmts) (row (map trail
      stmts))
  body_follows stmts pass needs few = row_of stmts (every stmts) pass needs few
    where
      every : (stmts : List TacStmt) → Each Followed stmts
      every stmts = everywhere Followed stmt_follows stmts
