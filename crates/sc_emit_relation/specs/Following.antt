-- Helping: a piece of code follows what statements do: what it is to stand at its start, and what it gives.
use Rattle.sc_emit_relation.specs.Common.{Break, CodeAt, Codes, Continue, Exit, Fetches, Goes, IsClear, Jalr, Left}
use Rattle.sc_emit_relation.specs.Common.{Lives, Next, Piece, Place, Plan, Reached, Return, TempSet, State as Meant}
use Rattle.sc_emit_relation.specs.Common.{Stopped, Temps, Trail, Value, a0, ahead_at, completed, low_after, ra}
use Rattle.sc_emit_relation.specs.Common.{readings, row_first, row_fresh, row_points, sp}
use Rattle.sc_emit_select.specs.Prelude.{Piece as Code}
use Rattle.std.specs.Prelude.{◌≡◌, ◌&&◌, ℕ, ◌+◌, ◌*◌, ◌≤◌, ◌⊎◌, pos, List, length, All, Option, None}
use Rattle.sc_emit_relation.specs.Frames.{Activation, FrameMatches, AreInPlace}
use Rattle.sc_emit_relation.specs.Stretches.{Setting, Joint, Standpoint, Settled, Leads, Emits, Overflows, ReturnsValue}

-- statements in order as one
abbrev pub row : List Trail → Trail
row trails = record {
  reading = λ t. record { first = row_first (readings t trails); fresh = row_fresh (readings t trails) };
  points = row_points trails;
}

-- what is live where code begins
abbrev pub live_at : Trail → Lives → TempSet
live_at trail lives t = (trail.reading t).first (ahead_at lives t)

-- code of the running call leaves unchanged what lies above its frame
abbrev pub seen_from : Activation → Standpoint
seen_from A = record { comp = A.here.comp; cross = A.cross; bound = A.sp + A.frame.bytes; floor = A.floor }

-- what is live and read in its place
abbrev pub wanted : (needed live : TempSet) → TempSet
wanted needed live t = live t && needed t

-- the code of a function, of which a piece is a part: the call that runs it, the places of its temporaries, by which
-- plan it was chosen, and the address of its last word
pub record Running : Type 0 where
  pub activation : Activation
  pub places : List Place
  pub plan : Plan
  pub last : ℕ

-- where control may go on, and the budget that is left there
pub record Ends : Type 0 where
  pub left : ℕ
  pub following : ℕ
  pub broken : ℕ
  pub continued : ℕ

-- of a piece at pc from whose end a break leads over `to_break` lines, and a continue over `to_continue`
abbrev pub ends_of : Code → (pc left to_break to_continue : ℕ) → Ends
ends_of code pc left to_break to_continue = record {
  left = left;
  following = pc + 4 * code.size;
  broken = pc + 4 * (code.size + to_break);
  continued = pc + 4 * (code.size + to_continue);
}

module _ (T : Setting) (R : Running) where
  -- all that a piece begins with, where these temporaries are live
  pub record Ready (live : TempSet) (temps : Temps) (x : Joint) : Type 0 where
    pub settled : Settled T (seen_from R.activation) x
    pub frame : FrameMatches T.image R.activation x.inj x.meant.memory x.bytes
    pub held : AreInPlace R.activation R.places x.inj x.regs x.bytes (wanted R.plan.needed live) temps
    pub sp : x.regs sp ≡ R.activation.sp

  -- the code comes to this place, with these temporaries and this state of the meaning
  pub record Arrives (live : TempSet) (x : Joint) (budget left : ℕ) (temps : Temps) (meant : Meant) (pc : ℕ) : Type 0
    where
      pub y : Joint
      pub meant_is : y.meant ≡ meant
      pub pc_is : y.pc ≡ pc
      pub leads : Leads T (seen_from R.activation) x y budget left
      pub ready : Ready live temps y

  -- it stands at the jump that ends the call: the frame has gone, and a0 has the value
  pub record Returns (x : Joint) (budget : ℕ) (v : Option Value) (meant : Meant) : Type 0 where
    pub y : Joint
    pub meant_is : y.meant ≡ meant
    pub jump : Fetches T.image R.activation.here.comp y.pc (Jalr 0 ra (pos 0))
    pub ra : y.regs ra ≡ R.activation.ra
    pub sp : y.regs sp ≡ R.activation.sp + R.activation.frame.bytes
    pub value : ReturnsValue T (y.inj R.activation.here.comp) (y.regs a0) v
    pub leads : Leads T (seen_from R.activation) x y budget 1
    pub settled : Settled T (seen_from R.activation) y

  -- what comes of code: after it, where a break leads, where a continue leads, or at the jump back
  abbrev pub ExitGives : Lives → Joint → (budget : ℕ) → Ends → Exit → Temps → Meant → Type 0
  ExitGives lives x budget ends Next temps s = Arrives lives.following x budget ends.left temps s ends.following
  ExitGives lives x budget ends Break temps s = Arrives lives.broken x budget ends.left temps s ends.broken
  ExitGives lives x budget ends Continue temps s = Arrives lives.continued x budget ends.left temps s ends.continued
  ExitGives lives x budget ends (Return v) temps s = Returns x budget v s

  abbrev pub Gives : Lives → Joint → (budget : ℕ) → Ends → Piece (Left Temps) → Type 0
  Gives lives x budget ends (Reached l s) = ExitGives lives x budget ends l.exit l.carried s
  Gives lives x budget ends (Stopped end s) = Emits T (seen_from R.activation) x budget s

  abbrev pub Comes : Lives → Joint → (budget : ℕ) → Ends → Piece (Left Temps) → Type 0
  Comes lives x budget ends piece =
      Gives lives x budget ends piece ⊎ Overflows T (seen_from R.activation) x budget piece

  -- the code of a piece stands at an address
  abbrev pub StandsAt : (pc : ℕ) → Code → (to_break to_continue : ℕ) → Type 0
  StandsAt pc code to_break to_continue =
      let comp = R.activation.here.comp in
      CodeAt T.image comp pc (completed (T.addresses comp) pc None (code.lines to_break to_continue))

  -- at the start of a piece from whose end a break leads over `to_break` lines, and a continue over `to_continue`
  pub record Starts (code : Code) (trail : Trail) (lives : Lives) (temps : Temps) (x : Joint) (to_break to_continue :
      ℕ) :
      Type 0 where
    pub ready : Ready (live_at trail lives) temps x
    pub clear : All (IsClear R.places) (trail.points lives)
    pub stands : StandsAt x.pc code to_break to_continue
    pub breaks : x.pc + 4 * (code.size + to_break) ≤ R.last
    pub continues : x.pc + 4 * (code.size + to_continue) ≤ R.last

  -- a piece of code follows what statements do
  pub record Follows (does : Codes) (code : Code) (trail : Trail) : Type 0 where
    pub sized : (to_break to_continue : ℕ) → length (code.lines to_break to_continue) ≡ code.size
    pub closed : (to_break to_continue : ℕ) →
        low_after (T.addresses R.activation.here.comp) None (code.lines to_break to_continue) ≡ None
    pub goes : (temps : Temps) → Goes (does temps)
    pub runs : (lives : Lives) (temps : Temps) (x : Joint) (left to_break to_continue : ℕ) →
        Starts code trail lives temps x to_break to_continue →
        Comes lives x (code.size + left) (ends_of code x.pc left to_break to_continue) (does temps x.meant)
