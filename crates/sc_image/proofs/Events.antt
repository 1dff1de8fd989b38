-- What the observation of a step says of the one event that it adds.
use Rattle.sc_image.proofs.Common.{Adds, Event, List, [], ap, drop, drop-append_seam, drop-length, length, sym, ◌++◌}
use Rattle.sc_image.proofs.Common.{◌∙◌, ◌∷◌, ◌≡◌}

-- an event is no silence
pub loud : (trace : List Event) (event : Event) → Adds (drop (length trace) (trace ++ event ∷ [])) ≡ Adds [] → ⊥
loud trace event silent =
    let some = ap Adds (sym (drop-append_seam trace _)) ∙ silent in cc some

pub no_event : (trace : List Event) (event : Event) → Adds (drop (length trace) trace) ≡ Adds (event ∷ []) → ⊥
no_event trace event emits =
    let none = ap Adds (sym (drop-length trace)) ∙ emits in cc none

pub that_event : (trace : List Event) (one event : Event) →
    Adds (drop (length trace) (trace ++ one ∷ [])) ≡ Adds (event ∷ []) → one ≡ event
that_event trace one event emits =
    let same = ap Adds (sym (drop-append_seam trace (one ∷ []))) ∙ emits in cc same
