-- The line that reports an event.
use Rattle.sc_base.specs.Prelude.{signed_text}
use Rattle.std.specs.Prelude.{ℕ, List, [], ◌∷◌, ◌++◌, flat_map, codes}
use Rattle.std.specs.Option.{option_map_or, option_to_list}
use Rattle.sc_event.specs.declared.event.Event.{Event}
use Rattle.sc_event.specs.declared.event.Event.TheVariants.{Call, Ret, Out, In, End}
use Rattle.sc_event.specs.declared.interface.Interfaces.{Interfaces}
use Rattle.sc_event.specs.Lookup.{comp_at, export_at}

-- the names that the numbers stand for
abbrev pub comp_name : Interfaces → ℕ → List ℕ
comp_name interfaces comp = option_map_or (λ found. found.name) (comp_at interfaces comp) []

abbrev pub export_name : Interfaces → (comp index : ℕ) → List ℕ
export_name interfaces comp index = option_map_or (λ found. found.name) (export_at interfaces comp index) []

-- each with a space before it
abbrev pub spaced_names : List (List ℕ) → List ℕ
spaced_names names = flat_map (λ name. codes " " ++ name) names

abbrev pub spaced_words : List ℕ → List ℕ
spaced_words words = flat_map (λ word. codes " " ++ signed_text word) words

-- what happened, the names, and the words as signed decimals, with single spaces between them
abbrev pub line : (what : List ℕ) → List (List ℕ) → List ℕ → List ℕ
line what names words = what ++ (spaced_names names ++ (spaced_words words ++ codes "\n"))

abbrev pub event_line : Interfaces → Event → List ℕ
event_line interfaces (Call from to index args) =
    line (codes "call") (comp_name interfaces from ∷ comp_name interfaces to ∷ export_name interfaces to index ∷
    []) args
event_line interfaces (Ret from to value) =
    line (codes "ret") (comp_name interfaces from ∷ comp_name interfaces to ∷ []) (option_to_list value)
event_line interfaces (Out comp value) = line (codes "out") (comp_name interfaces comp ∷ []) (value ∷ [])
event_line interfaces (In comp value) = line (codes "in") (comp_name interfaces comp ∷ []) (value ∷ [])
event_line interfaces (End comp value) = line (codes "end") (comp_name interfaces comp ∷ []) (value ∷ [])
