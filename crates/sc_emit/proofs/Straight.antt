-- Statements without others inside, as straight code.
use Rattle.sc_emit.proofs.Common.{All, Arrives, Cause, CodeAt, Codes, Comes, Ends, Err, Follows, Goes, Here, Instr}
use Rattle.sc_emit.proofs.Common.{IsClear, Joint, Kind, Left, Line, List, Lives, Next, None, Ok, Other, Piece, Reached}
use Rattle.sc_emit.proofs.Common.{Ready, Result, Role, Running, Setting, State as Meant, Strays, Temps, Trail, Value}
use Rattle.sc_emit.proofs.Common.{and_then, ap, arith, completed, computed, ends_of, followed, inl, known, length}
use Rattle.sc_emit.proofs.Common.{length-map, live_at, low_after, low_plainly, nothing as no_lines, plain, plainly}
use Rattle.sc_emit.proofs.Common.{plainly_at, read, refl, same, straight, straightly, subst, sym, ℕ, ◌*◌, ◌+◌, ◌≡◌, ◌≤◌}
use Rattle.sc_emit_select.specs.Prelude.{Piece as Code}

-- what is computed only goes on
pub computed_goes : {V W : Type 0} (here : Here) (result : Result V Cause) (go : V → Meant → Piece W) →
    ((v : V) → Goes (go v)) → Goes (λ s. and_then (computed here 0 result s) go)
computed_goes here (Ok v) go h s = h v s
computed_goes here (Err cause) go h s = record { grown = same s; stop = tt }

pub read_goes : {W : Type 0} (here : Here) (t : ℕ) (temps : Temps) (go : Value → Meant → Piece W) →
    ((v : Value) → Goes (go v)) → Goes (λ s. and_then (read here t temps s) go)
read_goes here t temps go h = computed_goes here (known (temps t)) go h

module _ (T : Setting) (R : Running) where
  -- what straight code comes to, wherever else its ends lead
  abbrev pub ComesStraight : Lives → Joint → (instrs : List Instr) → (left : ℕ) → Piece (Left Temps) → Type 0
  ComesStraight lives x instrs left piece =
      (ends : Ends) → ends.left ≡ left → ends.following ≡ x.pc + 4 * length instrs →
      Comes T R lives x (length instrs + left) ends piece

  -- it arrives past the end of the code
  pub comes_past : (lives : Lives) (x : Joint) (instrs : List Instr) (left : ℕ) (temps : Temps) (s : Meant) →
      Arrives T R lives.following x (length instrs + left) left temps s (x.pc + 4 * length instrs) →
      ComesStraight lives x instrs left (Reached (record { exit = Next; carried = temps }) s)
  comes_past lives x instrs left temps s g ends e f =
      inl (subst (λ pc. Arrives T R lives.following x (length instrs + left) ends.left temps s pc) (sym f)
      (subst (λ n. Arrives T R lives.following x (length instrs + left) n temps s (x.pc + 4 * length instrs)) (sym e)
      g))

  -- lines, some of which the linker completes, follow a statement
  pub lines_follow : (does : Codes) (lines : List Line) (trail : Trail) →
      low_after (T.addresses R.activation.here.comp) None lines ≡ None → ((temps : Temps) → Goes (does temps)) →
      ((lives : Lives) (temps : Temps) (x : Joint) (left : ℕ) → Ready T R (live_at trail lives) temps x →
      All (IsClear R.places) (trail.points lives) →
      CodeAt T.image R.activation.here.comp x.pc
      (completed (T.addresses R.activation.here.comp) x.pc None lines) → x.pc + 4 * length lines ≤ R.last →
      (ends : Ends) → ends.left ≡ left → ends.following ≡ x.pc + 4 * length lines →
      Comes T R lives x (length lines + left) ends (does temps x.meant)) → Follows T R does (straight lines) trail
  lines_follow does lines trail closed goes runs = record {
    sized = λ to_break to_continue. refl;
    closed = λ to_break to_continue. closed;
    goes = goes;
    runs = λ lives temps x left to_break to_continue starts.
        runs lives temps x left starts.ready starts.clear starts.stands (omega (arith, starts.breaks))
        (ends_of (straight lines) x.pc left to_break to_continue) refl refl;
  }

  -- straight code follows a statement
  pub straight_follows : (does : Codes) (instrs : List Instr) (trail : Trail) → ((temps : Temps) → Goes (does temps)) →
      ((lives : Lives) (temps : Temps) (x : Joint) (left : ℕ) → Ready T R (live_at trail lives) temps x →
      All (IsClear R.places) (trail.points lives) → CodeAt T.image R.activation.here.comp x.pc instrs →
      ComesStraight lives x instrs left (does temps x.meant)) →
      Follows T R does (straightly R.activation.frame R.places instrs) trail
  straight_follows does instrs trail goes runs = record {
    sized = λ to_break to_continue. refl;
    closed = λ to_break to_continue. low_plainly (T.addresses R.activation.here.comp) instrs;
    goes = goes;
    runs = λ lives temps x left to_break to_continue starts.
        (let long : length (plainly instrs) ≡ length instrs = length-map instrs plain in
        let ends : Ends =
        ends_of (straightly R.activation.frame R.places instrs) x.pc left to_break to_continue in
        subst (λ n. Comes T R lives x (n + left) ends (does temps x.meant)) (sym long)
        (runs lives temps x left starts.ready starts.clear
        (plainly_at (T.addresses R.activation.here.comp) T.image R.activation.here.comp x.pc instrs starts.stands) ends
        refl (ap (λ n. x.pc + 4 * n) long)));
  }

  -- what a piece is to its neighbours changes nothing
  pub with_role : (does : Codes) (code : Code) (role : Role) (trail : Trail) → Follows T R does code trail →
      Follows T R does (record code { role = role }) trail
  with_role does code role trail F = record {
    sized = F.sized;
    closed = F.closed;
    goes = F.goes;
    runs = λ lives temps x left to_break to_continue starts.
        F.runs lives temps x left to_break to_continue (record {
          ready = starts.ready;
          clear = starts.clear;
          stands = starts.stands;
          breaks = starts.breaks;
          continues = starts.continues;
        });
  }

  -- nor what it is to a loop
  pub with_kind : (does : Codes) (code : Code) (kind : Kind) (trail : Trail) → Follows T R does code trail →
      Follows T R does (record code { kind = kind }) trail
  with_kind does code kind trail F = record {
    sized = F.sized;
    closed = F.closed;
    goes = F.goes;
    runs = λ lives temps x left to_break to_continue starts.
        F.runs lives temps x left to_break to_continue (record {
          ready = starts.ready;
          clear = starts.clear;
          stands = starts.stands;
          breaks = starts.breaks;
          continues = starts.continues;
        });
  }

  -- no lines, and those of a piece
  pub after_nothing : (does : Codes) (code : Code) (trail : Trail) → Follows T R does code trail →
      Follows T R does (followed no_lines code) trail
  after_nothing does code trail F =
      let same : code.size ≡ 0 + code.size = omega arith in
      subst (λ size. Follows T R does (record { size = size; lines = code.lines; role = Other; kind = Strays }) trail)
      same (with_kind does (record code { role = Other }) Strays trail (with_role does code Other trail F))
