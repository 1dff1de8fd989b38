-- A step leaves what belongs to other compartments, and what a compartment does follows from its own parts.
use Rattle.sc_image.proofs.Common.{Adds, AreNested, Bool, ByteMemory, Call, Crossing, End, Entered, Event}
use Rattle.sc_image.proofs.Common.{FollowsFromOwn, Goes, ImageParts, In, IsSilentStep, IsSteadyState, IsWellFormed}
use Rattle.sc_image.proofs.Common.{LeavesData, LeavesOthers, List, LooksSame, MachineState, None, OpenCall, Out}
use Rattle.sc_image.proofs.Common.{Outcome, Point, Ret, Running, RunsAt, Some, Span, Waits, [], a0, activates}
use Rattle.sc_image.proofs.Common.{after_outcome, after_step, ap, ap₂, are_data, arguments, arith, byte_of, call_of}
use Rattle.sc_image.proofs.Common.{data_of, drop, drop-append_seam, drop-length, emits_entry, eq-eqb, export_params}
use Rattle.sc_image.proofs.Common.{false, flat_map, get_or, get_or-set_other, get_or-set_same, given_back, has_result}
use Rattle.sc_image.proofs.Common.{if◌then◌else◌, input_at, kept_by, later, latest_call, length, map, nat_eq, nat_le}
use Rattle.sc_image.proofs.Common.{nat_lt, ne_eqb, observation_at, observation_of, on_call, on_input, on_output}
use Rattle.sc_image.proofs.Common.{on_return, on_return_to, own, own_at, refl, reg, saved_sp, set, slice_set, sp, step}
use Rattle.sc_image.proofs.Common.{store_size, stored-apart, subst, suc, sym, true, with_bytes, with_pc, with_stored}
use Rattle.sc_image.proofs.Common.{written, zero, zone_of, ℕ, ◌&&◌, ◌++◌, ◌+◌, ◌-◌, ◌<◌, ◌==◌, ◌||◌, ◌∙◌, ◌∷◌, ◌≡◌, ◌≢◌}
use Rattle.sc_image.proofs.Common.{◌≤◌}
use Rattle.sc_image.proofs.Cases.{crossing_to, step_of, standing, step_both}
use Rattle.sc_image.proofs.Memory.{allowed_data, data_bounds}
use Rattle.sc_image.proofs.Reached.{called_other, step_steady}
use Rattle.sc_image.proofs.Events.{loud}
use Rattle.sc_image.proofs.Agree.{IsInLatest, own_agree, step_agree}
use Rattle.std.specs.Prelude.{slice_get}

-- The compartments' addresses are apart.

pub apart : (image : ImageParts) (c d a size x : ℕ) → IsWellFormed image → c ≢ d → are_data image c a size ≡ true →
    are_data image d x 1 ≡ true → a ≤ x → x < a + size → ⊥
apart image c d a size x formed differ mine others from upto =
    let m = data_bounds image c a size formed (omega (arith, from, upto)) mine in
    let o = data_bounds image d x 1 formed (omega arith) others in
    omega (arith, m.0, m.1, o.0, o.1)

byte_kept : (image : ImageParts) (c d a size word x : ℕ) (memory : ByteMemory) → IsWellFormed image → c ≢ d →
    are_data image c a size ≡ true → (others : Bool) → are_data image d x 1 ≡ others →
    (if others then with_bytes memory a size word x else None) ≡ (if others then memory x else None)
byte_kept image c d a size word x memory formed differ mine true is =
    stored-apart memory a size word x (apart image c d a size x formed differ mine is)
byte_kept image c d a size word x memory formed differ mine false is = refl

pub data_kept : (image : ImageParts) (c d a size word : ℕ) (memory : ByteMemory) → IsWellFormed image → c ≢ d →
    are_data image c a size ≡ true → data_of image d (with_bytes memory a size word) ≡ data_of image d memory
data_kept image c d a size word memory formed differ mine =
    λ i x. byte_kept image c d a size word x memory formed differ mine _ refl i

-- who isn't active has no registers, and who is in no call has no numbers of it

idle : (c d : ℕ) (running : Running) → c ≢ d → (if nat_eq c d then Some running else None) ≡ None
idle c d running differ = rw (ne_eqb c d differ) refl

pub idle_both : (c e d : ℕ) (one other : Running) → c ≢ d → e ≢ d →
    (if nat_eq c d then Some one else None) ≡ (if nat_eq e d then Some other else None)
idle_both c e d one other differ differs = idle c d one differ ∙ sym (idle e d other differs)

not_in : (d : ℕ) (crossing : Crossing) → crossing.caller ≢ d → crossing.callee ≢ d → kept_by d crossing ≡ []
not_in d crossing caller callee = rw (ne_eqb _ d caller, ne_eqb _ d callee) refl

module _ (image : ImageParts) (inputs : List ℕ) (state : MachineState) (d : ℕ) (formed : IsWellFormed image)
    (h : IsSteadyState image state) (differ : state.active ≢ d) where
  abbrev Kept_after : Outcome → Type 0
  Kept_after outcome = ((after_outcome state outcome).active ≢ d) →
      own image (after_outcome state outcome) d ≡ own image state d

  -- the own parts of d after a step to a state in which they are the same
  own_kept : (next : MachineState) → next.active ≢ d → data_of image d next.memory ≡ data_of image d state.memory →
      zone_of next d ≡ zone_of state d → saved_sp next d ≡ saved_sp state d →
      flat_map (kept_by d) next.cross ≡ flat_map (kept_by d) state.cross →
      own image next d ≡ own image state d
  own_kept next other bytes zone saved calls = λ i. record {
    bytes = bytes i;
    zone = zone i;
    saved = saved i;
    calls = calls i;
    running = idle_both next.active _ d (record { regs = next.regs; pc = next.pc })
        (record { regs = state.regs; pc = state.pc }) other differ i;
  }

  return_keeps : (cross : List Crossing) → state.cross ≡ cross → Kept_after (Goes (on_return image state cross))
  return_keeps [] is = λ next. own_kept (on_return image state []) next refl refl refl refl
  return_keeps (x ∷ xs) is = λ next.
      let chain : AreNested (length image.comps) state.active (x ∷ xs) =
      subst (AreNested (length image.comps) state.active) is h.chain in
      let callee : x.callee ≢ d = λ same. differ (sym chain.0 ∙ same) in
      own_kept (on_return image state (x ∷ xs)) next refl refl
      (get_or-set_other state.saved state.active d x.saved 0 (λ same. differ (sym same)))
      (sym (ap (flat_map (kept_by d)) is ∙ ap (λ kept. kept ++ flat_map (kept_by d) xs) (not_in d x next callee)))

  pub step_keeps : Kept_after (step image inputs state)
  step_keeps = step_of image inputs formed state Kept_after (record {
    same = λ a owned. refl;
    zone = refl;
    traps = λ reason next. refl;
    quiet = λ regs pc same next. own_kept (record state { regs = regs; pc = pc }) next refl refl refl refl;
    rezones = λ regs pc spans moves next. own_kept
        (record state { regs = regs; pc = pc; zones = slice_set state.zones state.active spans }) next refl
        (get_or-set_other state.zones state.active d spans [] (λ same. differ (sym same))) refl refl;
    stores = λ op a word allowed next. own_kept (with_pc (with_stored state op a word) (state.pc + 4)) next
        (data_kept image state.active d a (store_size op) word state.memory formed differ
        (allowed_data image state.active (store_size op) a allowed)) refl refl refl;
    calls = λ to index target at may next. own_kept (on_call state to index (export_params image to index) target) next
        refl refl
        (get_or-set_other state.saved state.active d (reg state sp) 0 (λ same. differ (sym same)))
        (ap (λ kept. kept ++ flat_map (kept_by d) state.cross) (not_in d (crossing_to state to index) differ next));
    returns = return_keeps state.cross refl;
    outputs = λ may next. own_kept (with_pc (on_output state) (state.pc + 4)) next refl refl refl refl;
    reads = λ may next. own_kept (with_pc (on_input inputs state) (state.pc + 4)) next refl refl refl refl;
  })

-- Who is active after a step that emits no entry of d.

entry_by : (to d : ℕ) → (to == d || false) ≡ false → to ≢ d
entry_by to d none same = let yes : (to == d || false) ≡ true = rw (eq-eqb to d same) refl in let never =
    sym yes ∙ none in cc never

module _ (image : ImageParts) (inputs : List ℕ) (state : MachineState) (d : ℕ) (formed : IsWellFormed image)
    (differ : state.active ≢ d) where
  abbrev Elsewhere : Outcome → Type 0
  Elsewhere outcome = emits_entry d (observation_of state outcome) ≡ false → (after_outcome state outcome).active ≢ d

  one_event : (event : Event) → emits_entry d (Adds (drop (length state.trace) (state.trace ++ event ∷ []))) ≡ false →
      (activates d event || false) ≡ false
  one_event event none = sym (ap (λ events. emits_entry d (Adds events)) (drop-append_seam state.trace _)) ∙ none

  return_elsewhere : (cross : List Crossing) → Elsewhere (Goes (on_return image state cross))
  return_elsewhere [] none = differ
  return_elsewhere (x ∷ xs) none = entry_by _ d (one_event _ none)

  pub step_elsewhere : Elsewhere (step image inputs state)
  step_elsewhere = step_of image inputs formed state Elsewhere (record {
    same = λ a owned. refl;
    zone = refl;
    traps = λ reason none. differ;
    quiet = λ regs pc moves none. differ;
    rezones = λ regs pc spans moves none. differ;
    stores = λ op a word allowed none. differ;
    calls = λ to index target at may none. entry_by to d (one_event _ none);
    returns = return_elsewhere _;
    outputs = λ may none. differ;
    reads = λ may none. differ;
  })

pub leaves_others : LeavesOthers
leaves_others image inputs state d formed h differ none =
    let other : state.active ≢ d = λ same. differ (sym same) in
    step_keeps image inputs state d formed h other (step_elsewhere image inputs state d formed other none)

-- Whoever is active after a step, it leaves the data of those that weren't before.

module _ (image : ImageParts) (inputs : List ℕ) (state : MachineState) (d : ℕ) (formed : IsWellFormed image)
    (differ : state.active ≢ d) where
  abbrev DataAfter : Outcome → Type 0
  DataAfter outcome = data_of image d (after_outcome state outcome).memory ≡ data_of image d state.memory

  return_leaves : (cross : List Crossing) → DataAfter (Goes (on_return image state cross))
  return_leaves [] = refl
  return_leaves (x ∷ xs) = refl

  pub step_leaves : DataAfter (step image inputs state)
  step_leaves = step_of image inputs formed state DataAfter (record {
    same = λ a owned. refl;
    zone = refl;
    traps = λ reason. refl;
    quiet = λ regs pc moves. refl;
    rezones = λ regs pc spans moves. refl;
    stores = λ op a word allowed. data_kept image state.active d a (store_size op) word state.memory formed differ
        (allowed_data image state.active (store_size op) a allowed);
    calls = λ to index target at may. refl;
    returns = return_leaves _;
    outputs = λ may. refl;
    reads = λ may. refl;
  })

pub leaves_data : LeavesData
leaves_data image inputs state d formed differ =
    step_leaves image inputs state d formed (λ same. differ (sym same))

-- A silent step leaves who is active, the open calls and the inputs as they are.

pub record Stays (before after : MachineState) : Type 0 where
  pub active : after.active ≡ before.active
  pub cross : after.cross ≡ before.cross
  pub input : after.input ≡ before.input

module _ (image : ImageParts) (inputs : List ℕ) (state : MachineState) (formed : IsWellFormed image) where
  abbrev StaysSilent : Outcome → Type 0
  StaysSilent outcome = observation_of state outcome ≡ Adds [] → Stays state (after_outcome state outcome)

  same_stays : Stays state state
  same_stays = record { active = refl; cross = refl; input = refl }

  loud_return : (cross : List Crossing) → StaysSilent (Goes (on_return image state cross))
  loud_return [] silent = absurd (loud state.trace (End state.active (reg state a0)) silent)
  loud_return (x ∷ xs) silent = absurd (loud state.trace (Ret state.active x.caller _) silent)

  pub silent_stays : StaysSilent (step image inputs state)
  silent_stays = step_of image inputs formed state StaysSilent (record {
    same = λ a owned. refl;
    zone = refl;
    traps = λ reason silent. same_stays;
    quiet = λ regs pc moves silent. record { active = refl; cross = refl; input = refl };
    rezones = λ regs pc spans moves silent. record { active = refl; cross = refl; input = refl };
    stores = λ op a word allowed silent. record { active = refl; cross = refl; input = refl };
    calls = λ to index target at may silent. absurd (loud state.trace (Call state.active to index _) silent);
    returns = loud_return state.cross;
    outputs = λ may silent. absurd (loud state.trace (Out state.active (reg state a0)) silent);
    reads = λ may silent. absurd (loud state.trace (In state.active _) silent);
  })

-- What a compartment does follows from its own parts, the call that it is in and the input to come.

-- The bytes of one compartment.

same_at : (image : ImageParts) (c a : ℕ) (memory memory' : ByteMemory) → data_of image c memory ≡ data_of image c
    memory' →
    are_data image c a 1 ≡ true → memory a ≡ memory' a
same_at image c a memory memory' same owned = rw owned at (ap (λ bytes. bytes a) same)

stored_at : (image : ImageParts) (c a size word x : ℕ) (memory memory' : ByteMemory) →
    ((b : ℕ) → are_data image c b 1 ≡ true → memory b ≡ memory' b) → (owned : Bool) → are_data image c x 1 ≡ owned →
    (if owned then with_bytes memory a size word x else None) ≡ (if owned then with_bytes memory' a size word x else
    None)
stored_at image c a size word x memory memory' same true is =
    ap (λ before. if nat_le a x && nat_lt x (a + size) then Some (byte_of word (x - a)) else before) (same x is)
stored_at image c a size word x memory memory' same false is = refl

stored_same : (image : ImageParts) (c a size word : ℕ) (memory memory' : ByteMemory) →
    ((b : ℕ) → are_data image c b 1 ≡ true → memory b ≡ memory' b) →
    data_of image c (with_bytes memory a size word) ≡ data_of image c (with_bytes memory' a size word)
stored_same image c a size word memory memory' same = λ i x. stored_at image c a size word x memory _ same _ refl i

-- What comes next in two states that the compartment can't distinguish.
pub record Follow (image : ImageParts) (c : ℕ) (s t : MachineState) (x x' : Outcome) : Type 0 where
  pub emits : observation_of s x ≡ observation_of t x'
  pub parts : own image (after_outcome s x) c ≡ own image (after_outcome t x') c

-- the saved sp of the compartment that is left
saved_left : (image : ImageParts) (state : MachineState) (sp : ℕ) → IsSteadyState image state →
    get_or (set state.saved state.active sp) state.active 0 ≡ sp
saved_left image state sp h = get_or-set_same state.saved state.active sp 0 (omega (arith, h.saved, h.active))

-- the event that is added to either trace
added : (trace trace' : List Event) (event event' : Event) → event ≡ event' →
    Adds (drop (length trace) (trace ++ event ∷ [])) ≡ Adds (drop (length trace') (trace' ++ event' ∷ []))
added trace trace' event event' same =
    ap Adds (drop-append_seam trace (event ∷ []) ∙ ap (λ e. e ∷ []) same ∙ sym (drop-append_seam trace' (event' ∷ [])))

nothing_added : (trace trace' : List Event) → Adds (drop (length trace) trace) ≡ Adds (drop (length trace') trace')
nothing_added trace trace' = ap Adds (drop-length trace ∙ sym (drop-length trace'))

-- Two such states, of images that agree for the compartment, here with the step of the first image in both.

module _ (image image' : ImageParts) (inputs inputs' : List ℕ) (formed : IsWellFormed image) (left rest : MachineState)
  where
    abbrev c : ℕ
    c = left.active

    abbrev right : MachineState
    right = standing left rest

    module _ (steady : IsSteadyState image left) (steady' : IsSteadyState image' right) (parts : own image left c ≡ own
        image right c)
        (call : latest_call left ≡ latest_call right) (read : input_at inputs left.input ≡ input_at inputs' rest.input)
      where
        bytes_same : data_of image c left.memory ≡ data_of image c rest.memory
        bytes_same = ap (λ o. o.bytes) parts

        zone_same : zone_of left c ≡ zone_of rest c
        zone_same = ap (λ o. o.zone) parts

        calls_same : flat_map (kept_by c) left.cross ≡ flat_map (kept_by c) rest.cross
        calls_same = ap (λ o. o.calls) parts

        -- these registers and this pc, these bytes and these events, with the compartment still active
        on : (regs' regs'' : List ℕ) (pc' place place' : ℕ) (more more' : List Event)
            (bytes : ByteMemory → ByteMemory) →
            regs' ≡ regs'' → Adds (drop (length left.trace) more) ≡ Adds (drop (length rest.trace) more') →
            data_of image c (bytes left.memory) ≡ data_of image c (bytes rest.memory) → Follow image c left right
            (Goes (record left { regs = regs'; pc = pc'; memory = bytes left.memory; input = place; trace = more }))
            (Goes (record right { regs = regs''; pc = pc'; memory = bytes rest.memory; input = place'; trace = more' }))
        on regs' regs'' pc' place place' more more' bytes alike adds same = record {
          emits = adds;
          parts = λ i. record {
            bytes = same i;
            zone = zone_same i;
            saved = (parts i).saved;
            calls = calls_same i;
            running = if nat_eq c c then Some (record { regs = alike i; pc = pc' }) else None;
          };
        }

        -- these blocks in the zone
        rezones_on : (regs' : List ℕ) (pc' : ℕ) (spans : List Span) → Follow image c left right
            (Goes (record left { regs = regs'; pc = pc'; zones = slice_set left.zones c spans }))
            (Goes (record right { regs = regs'; pc = pc'; zones = slice_set rest.zones c spans }))
        rezones_on regs' pc' spans =
            let here = get_or-set_same left.zones c spans [] (omega (arith, steady.zones, steady.active)) in
            let there = get_or-set_same rest.zones c spans [] (omega (arith, steady'.zones, steady'.active)) in
            let both = here ∙ sym there in
            record {
              emits = nothing_added left.trace rest.trace;
              parts = λ i. record {
                bytes = bytes_same i;
                zone = both i;
                saved = (parts i).saved;
                calls = calls_same i;
                running = if nat_eq c c then Some (record { regs = regs'; pc = pc' }) else None;
              };
            }

        -- a call
        kept_of_caller : (to : ℕ) (crossing : Crossing) → crossing.caller ≡ c → crossing.callee ≢ c →
            kept_by c crossing ≡ Waits crossing.pc crossing.sp ∷ []
        kept_of_caller to crossing caller callee = rw (eq-eqb _ c caller, ne_eqb _ c callee) refl

        calls_on : (to index params target : ℕ) → c ≢ to → Follow image c left right
            (Goes (on_call left to index params target)) (Goes (on_call right to index params target))
        calls_on to index params target differ =
            let to_other : to ≢ c = λ same. differ (sym same) in
            let kept = ap₂ (λ k ks. k ++ ks) (kept_of_caller to (crossing_to left to index) refl to_other ∙
            sym (kept_of_caller to (crossing_to right to index) refl to_other)) calls_same in
            let sps = saved_left image left _ steady ∙ sym (saved_left image' right _ steady') in
            let event : Event = Call c to index (arguments params left.regs) in
            record {
              emits = added left.trace rest.trace event event refl;
              parts = λ i. record {
                bytes = bytes_same i;
                zone = zone_same i;
                saved = sps i;
                calls = kept i;
                running = idle_both to to c (record { regs = (on_call left to index params target).regs; pc = target })
                    (record { regs = (on_call right to index params target).regs; pc = target }) to_other to_other i;
              };
            }

        -- a return
        kept_of_callee : (crossing : Crossing) → crossing.caller ≢ c → crossing.callee ≡ c →
            kept_by c crossing ≡ Entered crossing.saved ∷ []
        kept_of_callee crossing caller callee = rw (ne_eqb _ c caller, eq-eqb _ c callee) refl

        returns_on : (x x' : Crossing) (xs xs' : List Crossing) → left.cross ≡ x ∷ xs → rest.cross ≡ x' ∷ xs' →
            Follow image c left right (Goes (on_return image left (x ∷ xs))) (Goes (on_return image right (x' ∷ xs')))
        returns_on x x' xs xs' is is' =
            let chain : AreNested (length image.comps) c (x ∷ xs) = subst (AreNested _ c) is steady.chain in
            let chain' : AreNested (length image'.comps) c (x' ∷ xs') = subst (AreNested _ c) is' steady'.chain in
            let caller : x.caller ≢ c = λ same. chain.1 (same ∙ sym chain.0) in
            let caller' : x'.caller ≢ c = λ same. chain'.1 (same ∙ sym chain'.0) in
            let latest : Some (call_of x) ≡ Some (call_of x') =
            sym (ap (λ cross. slice_get (map call_of cross) 0) is) ∙ call ∙
            ap (λ cross. slice_get (map call_of cross) 0) is' in
            let first : call_of x ≡ call_of x' = cc latest in
            let numbers : Entered x.saved ∷ flat_map (kept_by c) xs ≡ Entered x'.saved ∷ flat_map (kept_by c) xs' =
            ap (λ k. k ++ flat_map (kept_by c) xs) (sym (kept_of_callee x caller chain.0)) ∙
            sym (ap (flat_map (kept_by c)) is) ∙ calls_same ∙ ap (flat_map (kept_by c)) is' ∙
            ap (λ k. k ++ flat_map (kept_by c) xs') (kept_of_callee x' caller' chain'.0) in
            let kept : x.saved ≡ x'.saved = cc numbers in
            let rests : flat_map (kept_by c) xs ≡ flat_map (kept_by c) xs' = cc numbers in
            let event = λ (o : OpenCall). Ret c o.caller (given_back (has_result image o.callee o.entry) left) in
            let after = on_return_to (has_result image x.callee x.entry) left x xs in
            let after' = on_return_to (has_result image x'.callee x'.entry) right x' xs' in
            let sps = saved_left image left _ steady ∙ kept ∙ sym (saved_left image' right _ steady') in
            record {
              emits = added left.trace rest.trace (event (call_of x)) (event (call_of x')) (ap event first);
              parts = λ i. record {
                bytes = bytes_same i;
                zone = zone_same i;
                saved = sps i;
                calls = rests i;
                running = idle_both x.caller x'.caller c (record { regs = after.regs; pc = after.pc })
                    (record { regs = after'.regs; pc = after'.pc }) caller caller' i;
              };
            }

        returns_both : (xs xs' : List Crossing) → left.cross ≡ xs → rest.cross ≡ xs' →
            Follow image c left right (Goes (on_return image left xs)) (Goes (on_return image right xs'))
        returns_both (x ∷ xs) (x' ∷ xs') is is' = returns_on x x' xs xs' is is'
        returns_both [] [] is is' =
            let event : Event = End c (reg left a0) in
            on left.regs left.regs left.pc left.input rest.input _ _ (λ m. m) refl
            (added left.trace rest.trace event event refl) bytes_same
        returns_both xs xs' is is' =
            let never = sym (ap (λ cross. slice_get (map call_of cross) 0) is) ∙ call ∙
            ap (λ cross. slice_get (map call_of cross) 0) is' in cc never

        pub follow : Follow image c left right (step image inputs left) (step image inputs' right)
        follow = step_both image inputs inputs' formed left rest (Follow image c left right) (record {
          same = λ a owned. same_at image c a left.memory rest.memory bytes_same owned;
          zone = zone_same;
          traps = λ reason. record { emits = refl; parts = parts };
          quiet = λ regs' pc' same. on regs' regs' pc' left.input rest.input left.trace rest.trace (λ m. m) refl
              (nothing_added left.trace rest.trace) bytes_same;
          rezones = λ regs' pc' spans moves. rezones_on regs' pc' spans;
          stores = λ op a word allowed. on left.regs left.regs (left.pc + 4) left.input rest.input left.trace rest.trace
              (λ m. with_bytes m a (store_size op) word) refl (nothing_added left.trace rest.trace)
              (stored_same image c a _ word left.memory rest.memory
              (λ b owned. same_at image c b left.memory rest.memory bytes_same owned));
          calls = λ to index target at may. calls_on to index _ target (called_other image c to index formed may);
          returns = returns_both left.cross rest.cross refl refl;
          outputs = λ may.
              let event : Event = Out c (reg left a0) in
              on left.regs left.regs _ left.input rest.input _ _ (λ m. m) refl
              (added left.trace rest.trace event event refl) bytes_same;
          reads = λ may. on _ _ _ _ _ _ _ (λ m. m) (ap (written left.regs a0) read)
              (added left.trace rest.trace (In c _) (In c _) (ap (In c) read)) bytes_same;
        })

-- Any two points.

pub running_of : (c active : ℕ) (running : Running) → active ≡ c →
    (if nat_eq active c then Some running else None) ≡ Some running
running_of c active running same = rw (eq-eqb active c same) refl

pub in_latest : (image : ImageParts) (state : MachineState) → IsSteadyState image state → IsInLatest state
in_latest image state steady x xs is =
    let chain : AreNested (length image.comps) state.active (x ∷ xs) = subst (AreNested _ _) is steady.chain in chain.0

-- what comes next at two points, each with its own image
pub record NextSame (c : ℕ) (one other : Point) : Type 0 where
  pub emits : observation_at one ≡ observation_at other
  pub parts : own_at (later 1 one) c ≡ own_at (later 1 other) c

abbrev at : Point → MachineState → Point
at point state = record point { state = state }

next_written : (one there : Point) →
    LooksSame one.state.active one (at there (standing one.state there.state)) →
    NextSame one.state.active one (at there (standing one.state there.state))
next_written one there h =
    let c = one.state.active in
    let right = standing one.state there.state in
    let same = step_agree one.image there.image there.inputs right h.one_runs.formed h.other_runs.formed h.images
    (in_latest there.image right h.other_runs.steady) in
    let agree = own_agree c one.image there.image h.images in
    let parts : own one.image one.state c ≡ own one.image right c = h.own_parts ∙ sym (agree right) in
    let n = follow one.image there.image one.inputs there.inputs h.one_runs.formed one.state there.state
    h.one_runs.steady h.other_runs.steady parts h.call h.input in
    record {
      emits = n.emits ∙ ap (observation_of right) same;
      parts = n.parts ∙ ap (λ x. own one.image (after_outcome right x) c) same ∙
          agree (after_step there.image there.inputs right);
    }

-- the second has the registers and the pc of the first
written_alike : (one there : Point) → LooksSame one.state.active one there →
    there.state ≡ standing one.state there.state
written_alike one there h =
    let c = one.state.active in
    let t = there.state in
    let runs : Some (record { regs = t.regs; pc = t.pc }) ≡ Some (record { regs = one.state.regs; pc = one.state.pc }) =
    sym (running_of c t.active _ h.other_runs.active) ∙ ap (λ o. o.running) (sym h.own_parts) ∙ running_of c _ _ refl in
    let same : ◌≡◌ {A = Running} _ _ = cc runs in
    λ i. record t { regs = (same i).regs; pc = (same i).pc; active = h.other_runs.active i }

next_active : (one there : Point) → LooksSame one.state.active one there → NextSame one.state.active one there
next_active one there h =
    let c = one.state.active in
    let same = written_alike one there h in
    subst (λ t. NextSame c one (at there t)) (sym same)
    (next_written one there (subst (λ t. LooksSame c one (at there t)) same h))

next_same : (c : ℕ) (one there : Point) → LooksSame c one there → NextSame c one there
next_same c one there h =
    subst (λ c. LooksSame c one there → NextSame c one there) h.one_runs.active (next_active one there) h

runs_after : (c : ℕ) (point : Point) → RunsAt c point →
    Stays point.state (after_step point.image point.inputs point.state) → RunsAt c (later 1 point)
runs_after c point h stays = record {
  formed = h.formed;
  inputs = h.inputs;
  steady = step_steady point.image point.inputs point.state h.formed h.inputs h.steady;
  active = stays.active ∙ h.active;
}

alike_after : (c : ℕ) (one there : Point) → LooksSame c one there → IsSilentStep one.image one.inputs one.state →
    LooksSame c (later 1 one) (later 1 there)
alike_after c one there h silent =
    let n = next_same c one there h in
    let stays = silent_stays one.image one.inputs one.state h.one_runs.formed silent in
    let stays' = silent_stays there.image there.inputs there.state h.other_runs.formed (sym n.emits ∙ silent) in
    record {
      one_runs = runs_after c one h.one_runs stays;
      other_runs = runs_after c there h.other_runs stays';
      images = h.images;
      own_parts = n.parts;
      call = ap (λ cross. slice_get (map call_of cross) 0) stays.cross ∙ h.call ∙
          sym (ap (λ cross. slice_get (map call_of cross) 0) stays'.cross);
      input = ap (input_at one.inputs) stays.input ∙ h.input ∙ sym (ap (input_at there.inputs) stays'.input);
    }

pub follows_from_own : FollowsFromOwn
follows_from_own c one there zero h =
    let n = next_same c one there h in
    (((λ p. tt), (λ p. tt)), λ p. record { own_parts = h.own_parts; next = n.emits; later_parts = n.parts })
follows_from_own c one there (suc steps) h =
    let n = next_same c one there h in
    let next = λ (silent : IsSilentStep one.image one.inputs one.state). follows_from_own c (later 1 one) (later 1
    there)
    steps (alike_after c one there h silent) in (
      ((λ p. (sym n.emits ∙ p.0, (next p.0).0.0 p.1)), (λ p. (n.emits ∙ p.0, (next (n.emits ∙ p.0)).0.1 p.1))),
      λ p. (next p.0).1 p.1,
    )
