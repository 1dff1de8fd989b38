-- A call of a function, from its first instruction to its jump back: what its code begins with, and what is left of it.
use Rattle.sc_emit_relation.proofs.Common.{Activation, All, Begins, Block, BlocksMatch, ByteMemory as Bytes, Cell}
use Rattle.sc_emit_relation.proofs.Common.{Effect, FrameFits, FrameMatches, FrameTree, Function, IsActivation, IsFrame}
use Rattle.sc_emit_relation.proofs.Common.{IsLeft, IsWellFormed, IsWord, Joint, Leads, LiesAt, List, LiveAt, None}
use Rattle.sc_emit_relation.proofs.Common.{Option, Place, Placed, Plan, Protected, Ready, Registers, Returns, Setting}
use Rattle.sc_emit_relation.proofs.Common.{Settled, Some, Standpoint, StandsFor, State as Meant, TempSet, Value, Walks}
use Rattle.sc_emit_relation.proofs.Common.{ℕ, [], a0, ap, arith, begun, blocks_for, cases_eq, data_start, done, ended}
use Rattle.sc_emit_relation.proofs.Common.{eq-eqb, false, inl, inr, is_there, length, machine, ne_eqb, no_temps, put}
use Rattle.sc_emit_relation.proofs.Common.{refl, same_Some, seen_from, slice_get, slice_get_within, sp, stack_depth}
use Rattle.sc_emit_relation.proofs.Common.{stack_size, stack_top, subst, sym, then_go, true, walks_steady, wanted, word}
use Rattle.sc_emit_relation.proofs.Common.{zone_start, ⊎_elim, ◌%◌, ◌*◌, ◌++◌, ◌+◌, ◌-◌, ◌<◌, ◌∙◌, ◌≡◌, ◌≢◌, ◌≤◌, ◌⊎◌}
use Rattle.std.specs.Prelude.{slice_index_or}
use Rattle.sc_core.specs.Prelude.{spans_of}
use Rattle.sc_emit_relation.proofs.Access.{live_within}
use Rattle.sc_emit_relation.proofs.Ending.{LivesOn, depth_begun, depth_begun_else, depth_done, depth_done_else}
use Rattle.sc_emit_relation.proofs.Ending.{length_closed, lives_on, stays_on, timed_closed, timed_opened}
use Rattle.sc_emit_relation.proofs.Frames.{object_inside, object_there}
use Rattle.sc_emit_relation.proofs.Held.{held_at_entry}
use Rattle.sc_emit_relation.proofs.Opening.{Prepared, above_guarded, blocks_opened, injection_grows, injection_opened}
use Rattle.sc_emit_relation.proofs.Opening.{length_opened, lived_before, objects_placed, other_range, own_guarded}
use Rattle.sc_emit_relation.proofs.Coming.{came_by}
use Rattle.sc_core.proofs.Spans.{spans_begun, spans_ended}
use Rattle.sc_emit_relation.proofs.Spans.{spans_elsewhere, zone_on}

-- a call of a function that begins here, with its frame from this address on
abbrev pub activated : Standpoint → Joint → FrameTree → (low ra_is : ℕ) → Activation
activated P x frame low ra_is = record {
  here = record { comp = P.comp; first = length (x.meant.memory P.comp) };
  frame = frame;
  sp = low;
  ra = ra_is;
  cross = P.cross;
  floor = put P.floor P.comp low;
}

-- both sides, once its variables and its frame are there
abbrev pub entered : Standpoint → Joint → Function → List Value → FrameTree → (low pc : ℕ) → Registers → Bytes → Joint
entered P x f args frame low pc regs bytes = record x {
  inj = injection_opened P.comp low frame x.meant.memory x.inj;
  meant = begun P.comp f args x.meant;
  pc = pc;
  regs = regs;
  bytes = bytes;
}

-- and once they have ended
abbrev pub closed : Standpoint → Joint → Function → (first : ℕ) → Joint
closed P x f first = record x { meant = done P.comp f first x.meant }

module _ (T : Setting) (formed : IsWellFormed T.image) (inputs : All IsWord T.inputs) {P : Standpoint} {f : Function}
    {args : List Value} {address ra_is : ℕ} {x : Joint} (begins : Begins T P f args address ra_is x) where
  -- the meaning's depth, where the frame goes below the stack
  pub too_deep : (frame : FrameTree) → frame.bytes ≤ f.frame_size → P.bound < data_start P.comp + frame.bytes →
      stack_size < stack_depth P.comp (begun P.comp f args x.meant)
  too_deep frame roomy low =
      omega (
        arith,
        roomy,
        low,
        begins.settled.depth P.comp begins.honest,
        begins.base.floor,
        depth_begun P.comp P.comp f x.meant args refl,
      )

  module _ {frame : FrameTree} {places : List Place} {nodes : ℕ} (low : ℕ) (whole : IsFrame frame)
      (frame_fits : FrameFits f.cells places nodes frame) (roomy : frame.bytes ≤ f.frame_size)
      (bound_is : P.bound ≡ low + frame.bytes) (start : data_start P.comp ≤ low) where
    abbrev pub A : Activation
    A = activated P x frame low ra_is

    at_floor : (Q : ℕ → Type 0) (k : ℕ) → (k ≡ P.comp → Q low) → Q (P.floor k) → Q (A.floor k)
    at_floor Q k here there =
        ⊎_elim (λ e. rw (eq-eqb k P.comp e) (here e)) (λ d. rw (ne_eqb k P.comp d) there) (cases_eq k P.comp)

    pub is_activation : IsActivation T.performs f.cells places nodes A
    is_activation = record {
      honest = begins.honest;
      known = omega (arith, begins.settled.steady.active, formed.few_comps);
      frame = whole;
      frame_fits = frame_fits;
      aligned = omega (arith, begins.base.aligned, bound_is, whole.bytes);
      low = start;
      high = omega (arith, begins.base.high, bound_is);
      floor = rw (eq-eqb P.comp P.comp refl) refl;
      floors = record {
        aligned = λ k honest. at_floor (λ a. a % 4 ≡ 0) k
            (λ e. omega (arith, begins.base.aligned, bound_is, whole.bytes)) (begins.base.floors.aligned k honest);
        low = λ k honest. at_floor (λ a. data_start k ≤ a) k
            (λ e. subst (λ j. data_start j ≤ low) (sym e) start) (begins.base.floors.low k honest);
        high = λ k honest. at_floor (λ a. a ≤ stack_top k) k
            (λ e. subst (λ j. low ≤ stack_top j) (sym e) (omega (arith, begins.base.high, bound_is)))
            (begins.base.floors.high k honest);
      };
    }

    -- what the code of the prologue has done, in `n` steps
    pub record Enters (n pc : ℕ) (regs : Registers) (bytes : Bytes) : Type 0 where
      pub walks : Walks T.image T.inputs n (machine P x)
          (machine (seen_from A) (entered P x f args frame low pc regs bytes))
      pub sp : regs sp ≡ low
      pub ra : word bytes low ≡ ra_is
      pub outside : (q : ℕ) → (q + 4 ≤ low) ⊎ (low + frame.bytes ≤ q) → word bytes q ≡ word x.bytes q
      pub stored : (o offset : ℕ) → o < length args → slice_get frame.objects o ≡ Some offset →
          word bytes (low + offset) ≡ x.regs (a0 + o)

    module _ (n pc : ℕ) (regs : Registers) (bytes : Bytes) (enters : Enters n pc regs bytes)
        (params : (o n : ℕ) → o < length args → slice_get f.cells o ≡ Some n → 1 ≤ n) where
      abbrev pub y : Joint
      y = entered P x f args frame low pc regs bytes

      prepared : Prepared T.image T.performs P.floor x.inj x.meant.memory x.bytes bytes P.comp low frame f.cells args
      prepared = record {
        floor_is = begins.base.floor ∙ bound_is;
        start = start;
        high = omega (arith, begins.base.floor, begins.base.high);
        aligned = is_activation.aligned;
        params = params;
        outside = enters.outside;
        stored = λ o offset v e object. subst (λ w. StandsFor (x.inj P.comp) w v)
            (sym (enters.stored o offset (slice_get_within args o v e) object)) (begins.passed o v e);
      }

      grows : (k b a : ℕ) → x.inj k b ≡ Some a → y.inj k b ≡ Some a
      grows = injection_grows T.image T.performs P.floor x.inj x.meant.memory x.bytes bytes P.comp low frame f.cells
          args places nodes whole frame_fits begins.settled.blocks prepared

      floor_there : (k : ℕ) → k ≢ P.comp → put P.floor P.comp low k ≡ P.floor k
      floor_there k d = rw (ne_eqb k P.comp d) refl

      floor_here : (k : ℕ) → k ≡ P.comp → put P.floor P.comp low k ≡ low
      floor_here k e = rw (eq-eqb k P.comp e) refl

      depth_opened : (k : ℕ) → T.performs k ≡ false → stack_top k ≤ put P.floor P.comp low k + stack_depth k y.meant
      depth_opened k honest = ⊎_elim
          (λ e. (let same : P.floor k ≡ P.floor P.comp = ap P.floor e in
          omega (
            arith,
            begins.settled.depth k honest,
            floor_here k e,
            same,
            begins.base.floor,
            bound_is,
            roomy,
            depth_begun k P.comp f x.meant args e,
          )))
          (λ d. omega (
            arith,
            begins.settled.depth k honest,
            floor_there k d,
            depth_begun_else k P.comp f x.meant args d,
          )) (cases_eq k P.comp)

      pub settled_entered : Settled T (seen_from A) y
      settled_entered = record {
        blocks = blocks_opened T.image T.performs P.floor x.inj x.meant.memory x.bytes bytes P.comp low frame f.cells
            args places nodes whole frame_fits begins.settled.blocks prepared;
        globals = λ k number honest l. grows k number _ (begins.settled.globals k number honest l);
        saved = λ k d honest. begins.settled.saved k d honest ∙ sym (floor_there k d);
        zones = λ k honest. zone_on (slice_index_or x.zones k []) (slice_index_or x.zones k []) (x.meant.memory k)
            (y.meant.memory k) (begins.settled.zones k honest) refl
            (spans_elsewhere P.comp (x.meant.memory P.comp ++ blocks_for f.cells args) x.meant.memory k
            (spans_begun (x.meant.memory P.comp) f.cells args));
        inputs = begins.settled.inputs;
        steady = walks_steady T.image T.inputs formed inputs n _ _ enters.walks begins.settled.steady;
        came = came_by T n _ _ enters.walks begins.settled.came;
        depth = depth_opened;
        timed = timed_opened (length x.meant.trace) P.comp f.frame_size x.meant.frames begins.settled.timed;
      }

      pub frame_entered : FrameMatches T.image A y.inj y.meant.memory y.bytes
      frame_entered = record {
        ra = enters.ra;
        guard = λ i offset e. own_guarded T.image T.performs P.floor x.inj x.meant.memory x.bytes bytes P.comp low frame
            f.cells args places nodes whole frame_fits begins.settled.blocks prepared i offset begins.honest e;
        objects = objects_placed T.image T.performs P.floor x.inj x.meant.memory x.bytes bytes P.comp low frame f.cells
            args places nodes whole frame_fits begins.settled.blocks prepared;
      }

      -- the code of the body begins with all that it takes
      pub ready_entered : (plan : Plan) (last : ℕ) (live : TempSet) →
          Ready T (record { activation = A; places = places; plan = plan; last = last }) live no_temps y
      ready_entered plan last live = record {
        settled = settled_entered;
        frame = frame_entered;
        held = held_at_entry A places y.inj y.regs y.bytes (wanted plan.needed live);
        sp = enters.sp;
      }

      -- What was protected from the call is protected from its code, and was left unchanged so far.

      protected_entered : (k q : ℕ) → Protected T P x.inj x.meant.memory k q →
          Protected T (seen_from A) y.inj y.meant.memory k q
      protected_entered k q p = record {
        honest = p.honest;
        guard = above_guarded T.image T.performs P.floor x.inj x.meant.memory x.bytes bytes P.comp low frame f.cells
            args places nodes whole frame_fits begins.settled.blocks prepared k q p.guard
            (λ e. omega (arith, p.own e, bound_is));
        own = λ e. omega (arith, p.own e, bound_is);
        other = λ d. omega (arith, p.other d, floor_there k d);
      }

      kept_entered : (k q : ℕ) → Protected T P x.inj x.meant.memory k q → word bytes q ≡ word x.bytes q
      kept_entered k q p = enters.outside q (⊎_elim
          (λ e. inr (omega (arith, p.own e, bound_is)))
          (λ d. other_range T.image k P.comp q low frame.bytes d p.guard.owned start
          (omega (arith, begins.base.high, bound_is))) (cases_eq k P.comp))

      module _ (z : Joint) (budget left : ℕ) (leads : Leads T (seen_from A) y z budget left)
          (settled : Settled T (seen_from A) z) where
        abbrev pub first : ℕ
        first = length (x.meant.memory P.comp)

        abbrev pub end : Joint
        end = closed P z f first

        -- what lives when the call has ended lived when it began
        record LivedLong (k b : ℕ) (xs : List Cell) : Type 0 where
          old : List Cell
          was : LiveAt x.meant.memory k b old
          long : length xs ≡ length old

        -- a block lies in the zone of its compartment
        abbrev InZone : (k b : ℕ) → Type 0
        InZone k b = (a : ℕ) × (z.inj k b ≡ Some a) × (zone_start k ≤ a)

        lives_still : (k b : ℕ) (xs : List Cell) → LiveAt end.meant.memory k b xs →
            LivesOn P.comp first (length f.cells) z.meant.memory k b xs
        lives_still k b xs h = lives_on P.comp first (length f.cells) z.meant.memory k b xs h

        now_live : (k b : ℕ) (xs : List Cell) → LiveAt end.meant.memory k b xs → LiveAt z.meant.memory k b xs
        now_live k b xs h = (lives_still k b xs h).live

        lived_middle : (k b : ℕ) (xs : List Cell) → LivesOn P.comp first (length f.cells) z.meant.memory k b xs →
            (old : List Cell) × LiveAt y.meant.memory k b old × (length xs ≡ length old) → LivedLong k b xs
        lived_middle k b xs on middle =
            let below : b < length (y.meant.memory k) = live_within (y.meant.memory k) b middle.0 middle.1 in
            record {
              old = middle.0;
              was = lived_before T.image T.performs P.floor x.inj x.meant.memory x.bytes bytes P.comp low frame f.cells
                  args k b middle.0 middle.1
                  (λ e. (let count = length_opened P.comp f.cells args x.meant.memory k e in
                  ⊎_elim (λ l. l) (λ l. absurd (omega (arith, l, below, count))) (on.other e)));
              long = middle.2;
            }

        lived_long : (k b : ℕ) (xs : List Cell) → T.performs k ≡ false → LiveAt end.meant.memory k b xs →
            LivedLong k b xs ⊎ InZone k b
        lived_long k b xs honest h = ⊎_elim (λ middle. inl (lived_middle k b xs (lives_still k b xs h) middle))
            (λ far. inr far) (leads.effect.lived k b xs honest (now_live k b xs h))

        all_grows : (k b a : ℕ) → x.inj k b ≡ Some a → z.inj k b ≡ Some a
        all_grows k b a e = leads.effect.grows k b a (grows k b a e)

        depths_same : (k : ℕ) → stack_depth k end.meant ≡ stack_depth k x.meant
        depths_same k = ⊎_elim
            (λ e. omega (
              arith,
              depth_done k P.comp f z.meant first e,
              depth_begun k P.comp f x.meant args e,
              leads.effect.depths k,
            ))
            (λ d. omega (
              arith,
              depth_done_else k P.comp f z.meant first d,
              depth_begun_else k P.comp f x.meant args d,
              leads.effect.depths k,
            )) (cases_eq k P.comp)

        long_parts : (k b : ℕ) (xs : List Cell) → LivedLong k b xs →
            (old : List Cell) × LiveAt x.meant.memory k b old × (length xs ≡ length old)
        long_parts k b xs l = (l.old, l.was, l.long)

        pub effect_closed : Effect T P x end
        effect_closed = record {
          grows = all_grows;
          lived = λ k b xs honest h. ⊎_elim (λ l. inl (long_parts k b xs l)) (λ far. inr far)
              (lived_long k b xs honest h);
          keeps = λ k q p. leads.effect.keeps k q (protected_entered k q p) ∙ kept_entered k q p;
          depths = depths_same;
        }

        pub leads_closed : Leads T P x end (n + budget) left
        leads_closed = record {
          steps = n + leads.steps;
          run = then_go T.image T.inputs enters.walks leads.run;
          costs = record {
            least = omega (arith, leads.costs.least);
            most = λ all. omega (arith, leads.costs.most all);
          };
          effect = effect_closed;
        }

        placed_long : (k b a : ℕ) (xs : List Cell) → T.performs k ≡ false → z.inj k b ≡ Some a → LivedLong k b xs →
            Placed T.image (P.floor k) k a (length xs)
        placed_long k b a xs honest e l =
            let place = begins.settled.blocks.there k b l.old honest l.was in
            let same : place.0 ≡ a = same_Some place.0 a (sym (all_grows k b place.0 place.1) ∙ e) in
            let was : Placed T.image (P.floor k) k place.0 (length l.old) =
            begins.settled.blocks.placed k b place.0 l.old honest l.was place.1 in
            subst (λ m. Placed T.image (P.floor k) k a m) (sym l.long)
            (subst (λ a. Placed T.image (P.floor k) k a (length l.old)) same was)

        -- a block of the zone lies above every floor
        placed_far : (k b a : ℕ) (xs : List Cell) → T.performs k ≡ false → LiveAt end.meant.memory k b xs →
            z.inj k b ≡ Some a → InZone k b → Placed T.image (P.floor k) k a (length xs)
        placed_far k b a xs honest h e far =
            let now = settled.blocks.placed k b a xs honest (now_live k b xs h) e in
            let same : far.0 ≡ a = same_Some far.0 a (sym far.1 ∙ e) in
            record {
              aligned = now.aligned;
              above = omega (arith, same, far.2, begins.base.floors.high k honest);
              low = now.low;
              high = now.high;
              its = now.its;
            }

        placed_closed : (k b a : ℕ) (xs : List Cell) → T.performs k ≡ false → LiveAt end.meant.memory k b xs →
            z.inj k b ≡ Some a → Placed T.image (P.floor k) k a (length xs)
        placed_closed k b a xs honest h e =
            ⊎_elim (placed_long k b a xs honest e) (placed_far k b a xs honest h e) (lived_long k b xs honest h)

        -- no variable of the call was allocated: its place is in the frame, below the zone
        variable_place : (b : ℕ) (block : Block) (place : Option ℕ) → block.place ≡ place →
            slice_get (z.meant.memory P.comp) b ≡ Some block → first ≤ b → b < first + length f.cells →
            block.live ≡ true → place ≡ None
        variable_place b block None is at low_b high_b live = refl
        variable_place b block (Some q) is at low_b high_b live =
            let b_is : first + (b - first) ≡ b = omega (arith, low_b) in
            let size = is_there f.cells (b - first) (omega (arith, low_b, high_b)) in
            let object = object_there f.cells places nodes frame frame_fits (b - first) size.0 size.1 in
            let at_low : z.inj P.comp b ≡ Some (low + object.0) =
            ap (z.inj P.comp) (sym b_is) ∙
            leads.effect.grows P.comp (first + (b - first)) (low + object.0)
            (frame_entered.objects (b - first) object.0 object.1) in
            let lies : LiesAt P.comp (low + object.0) (length block.cells) (Some q) =
            subst (LiesAt P.comp (low + object.0) (length block.cells)) is
            (settled.blocks.lies P.comp b (low + object.0) block begins.honest at live at_low) in
            let inside : object.0 + 4 * size.0 ≤ frame.bytes =
            object_inside f.cells places nodes frame frame_fits (b - first) object.0 size.0 object.1 size.1 in
            absurd (omega (arith, lies, inside, bound_is, begins.base.high))

        zone_closed : spans_of (ended first (length f.cells) (z.meant.memory P.comp)) ≡ spans_of (z.meant.memory P.comp)
        zone_closed = spans_ended first (length f.cells) (z.meant.memory P.comp)
            (λ b block at low_b high_b live. variable_place b block block.place refl at low_b high_b live)

        blocks_closed : BlocksMatch T.image T.performs P.floor z.inj end.meant.memory z.bytes
        blocks_closed = record {
          there = λ k b xs honest h. settled.blocks.there k b xs honest (now_live k b xs h);
          placed = placed_closed;
          holds = λ k b a i xs c honest h e get.
              settled.blocks.holds k b a i xs c honest (now_live k b xs h) e get;
          apart = λ k b d a e xs ys honest l m p q other.
              settled.blocks.apart k b d a e xs ys honest (now_live k b xs l) (now_live k d ys m) p q other;
          lies = λ k b a block honest h live e. settled.blocks.lies k b a block honest
              (stays_on P.comp first (length f.cells) z.meant.memory k b block h live).at live e;
          known = λ k b a e. subst (λ m. b < m) (sym (length_closed P.comp first (length f.cells) z.meant.memory k))
              (settled.blocks.known k b a e);
        }

        pub settled_closed : Settled T P end
        settled_closed = record {
          blocks = blocks_closed;
          globals = settled.globals;
          saved = λ k d honest. settled.saved k d honest ∙ floor_there k d;
          zones = λ k honest. zone_on (slice_index_or z.zones k []) (slice_index_or z.zones k []) (z.meant.memory k)
              (end.meant.memory k) (settled.zones k honest) refl
              (spans_elsewhere P.comp (ended first (length f.cells) (z.meant.memory P.comp)) z.meant.memory k
              zone_closed);
          inputs = settled.inputs;
          steady = settled.steady;
          came = settled.came;
          depth = λ k honest. omega (arith, begins.settled.depth k honest, depths_same k);
          timed = timed_closed (length z.meant.trace) P.comp f.frame_size z.meant.frames settled.timed;
        }

      -- at the jump back the call is left
      pub is_left : (plan : Plan) (last budget : ℕ) (v : Option Value) (s : Meant) →
          Returns T (record { activation = A; places = places; plan = plan; last = last }) y budget v s →
          IsLeft T P x (n + budget) ra_is v (done P.comp f (length (x.meant.memory P.comp)) s)
      is_left plan last budget v s r = record {
        y = end r.y budget 1 r.leads r.settled;
        meant_is = ap (done P.comp f (length (x.meant.memory P.comp))) r.meant_is;
        jump = r.jump;
        ra = r.ra;
        sp = r.sp ∙ sym bound_is;
        value = r.value;
        leads = leads_closed r.y budget 1 r.leads r.settled;
        settled = settled_closed r.y budget 1 r.leads r.settled;
      }
