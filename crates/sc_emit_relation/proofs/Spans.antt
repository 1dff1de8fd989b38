-- The zone of a compartment as its blocks tell it, after a store and in another compartment's memory.
use Rattle.sc_emit_relation.proofs.Common.{Blocks, List, Ok, Pointer, Ptr, Value}
use Rattle.sc_emit_relation.proofs.Common.{ZoneMatches, ℕ, [], ap, cases_eq}
use Rattle.sc_emit_relation.proofs.Common.{cell_of, eq-eqb, length-set}
use Rattle.sc_emit_relation.proofs.Common.{ne_eqb, refl, store, subst}
use Rattle.sc_emit_relation.proofs.Common.{sym, with_blocks, ⊎_elim, ◌∙◌, ◌≡◌}
use Rattle.sc_core.specs.Prelude.{Memory, spans_of}
use Rattle.sc_zone.specs.Prelude.{AreLaid}
use Rattle.sc_zone.specs.declared.span.Span.{Span}
use Rattle.sc_emit_relation.proofs.Access.{Stores, store_found, written_to}
use Rattle.sc_core.proofs.Spans.{spans_changed}

-- a store changes no place
pub spans_stored : (blocks after : Blocks) (p : Pointer) (v : Value) → store blocks (Ptr p) v ≡ Ok after →
    spans_of after ≡ spans_of blocks
spans_stored blocks after p v h =
    let did : Stores blocks p v after = store_found blocks p v after h in
    ap spans_of did.is ∙ spans_changed [] blocks p.block did.block (written_to did.block p.index v) did.at
    (record { live = refl; place = refl; long = length-set did.block.cells p.index (cell_of v) })

-- in a memory one compartment has other blocks, that change nothing in its zone
pub spans_elsewhere : (c : ℕ) (after : Blocks) (memory : Memory) (k : ℕ) → spans_of after ≡ spans_of (memory c) →
    spans_of (with_blocks c after memory k) ≡ spans_of (memory k)
spans_elsewhere c after memory k same =
    ⊎_elim (λ e. rw (eq-eqb k c e) (same ∙ ap (λ k. spans_of (memory k)) (sym e))) (λ n. rw (ne_eqb k c n) refl)
    (cases_eq k c)

-- the machine's zone stands for blocks as it does for those before
pub zone_on : (spans later : List Span) (blocks after : Blocks) → ZoneMatches spans blocks → later ≡ spans →
    spans_of after ≡ spans_of blocks → ZoneMatches later after
zone_on spans later blocks after z e f =
    record { same = e ∙ z.same ∙ sym f; laid = subst (AreLaid 0) (sym f) z.laid }
