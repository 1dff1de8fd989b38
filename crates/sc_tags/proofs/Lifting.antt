-- Jumps out of the code, returns and calls of the environment do the same with levels and capabilities as with a cross
-- stack, whatever the memory is.
use Rattle.sc_tags.proofs.Common.{Bool, ByteMemory, Crossing, Goes, ImageParts, List, MachineState, None, Option}
use Rattle.sc_tags.proofs.Common.{Outcome, OutcomeOf, Some, Tagged, [], a7, ap, arith, at_level, call_at}
use Rattle.sc_tags.proofs.Common.{carried_called, comp_of_code, entered_export, environment_call, eq-eqb, eqb-true}
use Rattle.sc_tags.proofs.Common.{export_called, false, frees, gate, has_heap, has_result, jump_outside, leaves, length}
use Rattle.sc_tags.proofs.Common.{leveled, lifted, may_call_export, may_input, may_output, nat_eq, not, on_return}
use Rattle.sc_tags.proofs.Common.{on_return_to, on_tag_return, ra, refl, reg, returned_by, starts_block, sym, tag_jumps}
use Rattle.sc_tags.proofs.Common.{tag_leaves, true, with_outcome, zone_of, ℕ, if◌then◌else◌, ◌&&◌, ◌∙◌, ◌∷◌, ◌≡◌, ◌≤◌}

-- of two choices by one test, what holds of both sides
pub either : {A B : Type 0} (R : A → B → Type 0) (b : Bool) (x y : A) (x' y' : B) → R x x' → R y y' →
    R (if b then x else y) (if b then x' else y')
either R true x y x' y' p q = p
either R false x y x' y' p q = q

-- The latest capability is that of the latest call, and once it is consumed those of the calls before are left.

beyond : (cross : List Crossing) (level : ℕ) → length cross ≤ level → call_at cross level ≡ None
beyond [] level past = refl
beyond (x ∷ xs) level past = by _ refl (beyond xs level (omega (arith, past)))
  where
    by : (same : Bool) → nat_eq level (length xs) ≡ same → call_at xs level ≡ None →
        (if same then Some x else call_at xs level) ≡ None
    by true is earlier = let here = eqb-true level (length xs) is in absurd (omega (arith, here, past))
    by false is earlier = earlier

latest : (x : Crossing) (xs : List Crossing) → call_at (x ∷ xs) (length xs) ≡ Some x
latest x xs = rw (eq-eqb (length xs) (length xs) refl) refl

consumed_at : (x : Crossing) (xs : List Crossing) (level : ℕ) →
    at_level (length xs) None (call_at (x ∷ xs)) level ≡ call_at xs level
consumed_at x xs level = by _ refl
  where
    by : (same : Bool) → nat_eq level (length xs) ≡ same →
        (if same then None else if same then Some x else call_at xs level) ≡ call_at xs level
    by true is = let here = eqb-true level (length xs) is in sym (beyond xs level (omega (arith, here)))
    by false is = refl

consumed : (x : Crossing) (xs : List Crossing) →
    ◌≡◌ {A = ℕ → Option Crossing} (at_level (length xs) None (call_at (x ∷ xs))) (call_at xs)
consumed x xs = λ i level. consumed_at x xs level i

-- a jump there isn't to an own export's entry
pub record IsNotOwn (image : ImageParts) (state : MachineState) (target : ℕ) : Type 0 where
  pub other : (index : ℕ) → entered_export image (comp_of_code target) target ≡ Some index →
      nat_eq (comp_of_code target) state.active ≡ false

module _ (image : ImageParts) (memory : ByteMemory → ByteMemory) where
  -- an outcome with levels stands for one with a cross stack
  abbrev pub Stands : Outcome → OutcomeOf Tagged → Type 0
  Stands outcome tagged = tagged ≡ lifted memory outcome

  returns_at : (state : MachineState) (cross : List Crossing) → let there = record state { cross = cross } in
      Stands (Goes (on_return image there cross)) (Goes (on_tag_return image (leveled memory there) (length cross)))
  returns_at state [] = refl
  returns_at state (x ∷ xs) =
      let tagged = leveled memory (record state { cross = x ∷ xs }) in
      let left : (ℕ → Option Crossing) → OutcomeOf Tagged = λ capabilities. Goes (record {
        core = on_return_to (has_result image x.callee x.entry) tagged.core x [];
        level = length xs;
        capabilities = capabilities;
      }) in
      ap (λ capability. Goes (returned_by image tagged (length xs) capability)) (latest x xs) ∙ ap left (consumed x xs)

  module _ (state : MachineState) where
    abbrev tagged : Tagged
    tagged = leveled memory state

    -- the return
    pub returns_same : Stands (Goes (on_return image state state.cross))
        (Goes (on_tag_return image tagged (length state.cross)))
    returns_same = returns_at state state.cross

    exports_same : (to target : ℕ) (index : Option ℕ) → entered_export image to target ≡ index →
        ((i : ℕ) → entered_export image to target ≡ Some i → nat_eq to state.active ≡ false) →
        Stands (export_called image state to target index) (carried_called image tagged to target index)
    exports_same to target None at other = refl
    exports_same to target (Some index) at other = rw (other index at)
        (either Stands (may_call_export image state.active to index) _ _ _ _ refl refl)

    -- the jumps
    pub calls_same : (rd target : ℕ) → IsNotOwn image state target →
        Stands (jump_outside image state rd target) (tag_jumps image tagged rd target)
    calls_same rd target not_own =
        either Stands (nat_eq rd ra) _ _ _ _ (exports_same _ target _ refl not_own.other) refl

    pub leaves_same : (rd target : ℕ) → IsNotOwn image state target →
        Stands (leaves image state rd target) (tag_leaves image tagged rd target)
    leaves_same rd target not_own = either Stands (nat_eq rd 0 && nat_eq target gate) _ _ _ _
        returns_same (calls_same rd target not_own)

    -- the environment
    abbrev StandsIn : Outcome → Outcome → Type 0
    StandsIn outcome core = Stands outcome (with_outcome tagged core)

    frees_same : (a : ℕ) → StandsIn (frees state a) (frees tagged.core a)
    frees_same a = either StandsIn (nat_eq a 0) _ _ _ _ refl
        (either StandsIn (starts_block state.active (zone_of state state.active) a) _ _ _ _ refl refl)

    pub environment_same : (inputs : List ℕ) →
        StandsIn (environment_call image inputs state) (environment_call image inputs tagged.core)
    environment_same inputs = either StandsIn (nat_eq (reg state a7) 1) _ _ _ _
        (either StandsIn (may_input image state.active) _ _ _ _ refl refl)
        (either StandsIn (nat_eq (reg state a7) 2) _ _ _ _
        (either StandsIn (may_output image state.active) _ _ _ _ refl refl)
        (either StandsIn (not (has_heap image state.active)) _ _ _ _ refl
        (either StandsIn (nat_eq (reg state a7) 3) _ _ _ _ refl
        (either StandsIn (nat_eq (reg state a7) 4) _ _ _ _ (frees_same _) refl))))
