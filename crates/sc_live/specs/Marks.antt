-- Helping: where temporaries are used among the last points of a function's code. A point is named by how many points
-- follow it.
use Rattle.sc_tac.specs.Prelude.{Point, TempSet, is_one, is_used}
use Rattle.std.specs.Prelude.{ℕ, Bool, false, if◌then◌else◌, nat_le, min, List, [], ◌∷◌, length, Option, None, Some}
use Rattle.std.specs.Option.{option_map}
use Rattle.sc_live.specs.declared.marks.Mark.{Mark}

-- temporaries that are listed
abbrev pub set_of : List ℕ → TempSet
set_of temps t = is_one t temps

-- the first of these points at which a function is called
abbrev pub nearest_call : List Point → Option ℕ
nearest_call [] = None
nearest_call (x ∷ xs) = if x.calls then Some (length xs) else nearest_call xs

-- a call that is nearest to a point stands no further than the last point
abbrev pub is_met : Option ℕ → ℕ → Bool
is_met None last = false
is_met (Some call) last = nat_le last call

abbrev pub mark_from : ℕ → Option ℕ → ℕ → Mark
mark_from at call last = record { first = at; last = last; spans_call = is_met call last }

-- from this point on, to the end of a mark that begins later
abbrev pub mark_here : ℕ → Option ℕ → Option Mark → Mark
mark_here at call None = mark_from at call at
mark_here at call (Some later) = mark_from at call later.last

-- from the first of these points at which a temporary is used to the last
abbrev pub mark_of : ℕ → List Point → Option Mark
mark_of t [] = None
mark_of t (x ∷ xs) =
    if is_used t x then Some (mark_here (length xs) (nearest_call (x ∷ xs)) (mark_of t xs)) else mark_of t xs

-- from this point on, as far as one that is nearer to the end, at least
abbrev pub mark_to : ℕ → Option ℕ → ℕ → Option Mark → Mark
mark_to at call end None = mark_from at call end
mark_to at call end (Some later) = mark_from at call (min later.last end)

-- the mark of a temporary where it is used at the point, or stays as it was
abbrev pub marked : ℕ → Option ℕ → ℕ → Bool → Option (Option Mark) → Option (Option Mark)
marked at call end used known =
    if used then option_map (λ mark. Some (mark_to at call end mark)) known else known
