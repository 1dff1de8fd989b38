-- The meanings of worked code that allocates and frees, computed.
use Rattle.sc_tac.proofs.Common.{List, [], c_arith, code_meaning, false, ◌∷◌, ◌≡◌}
use Rattle.sc_core.specs.declared.cause.Cause.TheVariants.{BadFree, Dangling}
use Rattle.sc_core.specs.declared.run.RunEnd.TheVariants.{Blamed, Ended}
use Rattle.sc_event.specs.declared.event.Event.TheVariants.{End, Out}
use Rattle.sc_tac.specs.declared.stmt.TacStmt.TheOpen as tac
use Rattle.sc_tac.proofs.Plans.{Sheet, meaning_is, program}
use Rattle.sc_tac.proofs.Runs.{give, main_with, one_function, only_main, output, word}
use Rattle.sc_tac.proofs.Shapes.{Done, Line, Shape}
use Rattle.sc_zone.specs.Zone.{first_free, least_free}

-- a block of two cells, of which the first gets 5; then these statements
abbrev pub with_block : Shape → List Sheet
with_block rest =
    one_function (main_with 5 (1 ∷ []) 10 (word 0 2 (Line (tac.Alloc 1 0 1) (word 2 5 (Line (tac.Store 1 2) rest)))))

-- `output(*p); free(p); return 0;`
abbrev pub used : List Sheet
used = with_block (Line (tac.Load 3 1 false) (output 3 (Line (tac.Free 1) (word 4 0 (give 4)))))

pub block_is_used : code_meaning (program only_main used) [] 0 10 ≡
    record { trace = Out 0 5 ∷ End 0 0 ∷ []; end = Ended }
unfolding least_free first_free
block_is_used = meaning_is c_arith only_main used [] 0 10

-- `free(p); output(*p);`
abbrev pub used_late : List Sheet
used_late = with_block (Line (tac.Free 1) (Line (tac.Load 3 1 false) (output 3 Done)))

pub late_use_is_blamed : code_meaning (program only_main used_late) [] 0 10 ≡
    record { trace = []; end = Blamed 0 Dangling 0 }
unfolding least_free first_free
late_use_is_blamed = meaning_is c_arith only_main used_late [] 0 10

-- `free(p); free(p);`
abbrev pub freed_twice : List Sheet
freed_twice = with_block (Line (tac.Free 1) (Line (tac.Free 1) Done))

pub second_free_is_blamed : code_meaning (program only_main freed_twice) [] 0 10 ≡
    record { trace = []; end = Blamed 0 BadFree 0 }
unfolding least_free first_free
second_free_is_blamed = meaning_is c_arith only_main freed_twice [] 0 10

-- the place of a variable
abbrev pub freed_variable : List Sheet
freed_variable = one_function (main_with 1 (1 ∷ []) 4 (Line (tac.ObjectPlace 0 0) (Line (tac.Free 0) Done)))

pub variable_is_not_freed : code_meaning (program only_main freed_variable) [] 0 10 ≡
    record { trace = []; end = Blamed 0 BadFree 0 }
variable_is_not_freed = meaning_is c_arith only_main freed_variable [] 0 10

-- no element gives null, which is freed without effect
abbrev pub empty : List Sheet
empty = one_function (main_with 2 [] 4 (word 0 0 (Line (tac.Alloc 1 0 4) (Line (tac.Free 1) (give 0)))))

pub nothing_is_freed : code_meaning (program only_main empty) [] 0 10 ≡
    record { trace = End 0 0 ∷ []; end = Ended }
unfolding least_free
nothing_is_freed = meaning_is c_arith only_main empty [] 0 10
