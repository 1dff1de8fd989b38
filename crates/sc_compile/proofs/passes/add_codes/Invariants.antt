use Rattle.sc_compile.proofs.Common.{All, EmitsFrom, code_from, map, take, ◌++◌, ◌≡◌}
use Rattle.sc_compile.proofs.passes.add_codes.Given as goal

-- those so far have their codes
abbrev pub invariant-loop-function : goal.invariant-loop-function
invariant-loop-function l = record {
  codes : l.codes
      ≡ l.initial.codes ++ map (code_from l.interfaces l.comp l.structs) (take l.function-index l.functions);
  emitted : All (EmitsFrom l.interfaces l.comp l.structs) (take l.function-index l.functions);
}
