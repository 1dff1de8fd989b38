use Rattle.std.proofs.Common.{arith, length, ltb-true, refl, sym, ◌-◌}
use Rattle.std.proofs.lemmas.Option.{slice_get_read}
use Rattle.sc_alloc.proofs.places.are_few.Goals as goal

pub returns-in-Some : goal.returns-in-Some
returns-in-Some c =
    let xs = c.args.intervals.now in
    let found = c.in-Some.ensures.lookup in
    let within = ltb-true (length xs - 1) (length xs) (sym found.0) in
    let temp = c.requires.numbered (length xs - 1) c.in-Some.last.now
    (slice_get_read xs (length xs) (length xs - 1) c.in-Some.last.now refl within found.1) in
    omega (arith, temp, within, c.is_word.ensures)

pub returns-in-None : goal.returns-in-None
returns-in-None c = omega (arith, c.in-None.ensures.lookup.3)
