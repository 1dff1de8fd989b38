-- Sections of programs, byte for byte.
use Rattle.sc_back.proofs.Common.{Call, End, Export, Interface, Main, Ret, Some, [], back_text, codes, refl, ◌++◌, ◌∷◌}
use Rattle.sc_back.proofs.Common.{◌≡◌}
use Rattle.sc_event.specs.declared.interface.Import.TheVariants as import
use Rattle.sc_event.specs.declared.interface.Scalar.TheVariants.{Int}
use Rattle.std.specs.Fmt.{digits}

-- `Net` is called once, and returns 9
abbrev net : Interface
net = record {
  name = codes "Net";
  exports = record { name = codes "put"; params = Int ∷ Int ∷ []; result = Some Int } ∷ [];
  imports = [];
}

returns : back_text (record { comps = net ∷ []; main = 1 }) 0
    (record { entry = Export 0; number = 0; action = Ret (Some 9) } ∷ []) ≡
    codes "#pragma compartment Net\n#pragma export put\nunsigned int bt_n;\nint put(int bt_0, int bt_1) {\n" ++
    codes "  if (bt_n == 0u) { bt_n = 1u; return 9; }\n  while (1) { }\n}\n"
unfolding digits
returns = refl

-- `A` has two exports, of which the second is called while the first waits
abbrev both : Interface
both = record {
  name = codes "A";
  exports =
      record { name = codes "f"; params = Int ∷ []; result = Some Int } ∷
      record { name = codes "h"; params = Int ∷ []; result = Some Int } ∷
      [];
  imports = import.Function 1 0 ∷ [];
}

abbrev other : Interface
other = record {
  name = codes "B";
  exports = record { name = codes "g"; params = Int ∷ []; result = Some Int } ∷ [];
  imports = import.Function 0 1 ∷ [];
}

reenters : back_text (record { comps = both ∷ other ∷ []; main = 0 }) 0
    (record { entry = Export 0; number = 0; action = Call 1 0 (5 ∷ []) } ∷
    record { entry = Export 1; number = 1; action = Ret (Some 11) } ∷
    record { entry = Export 0; number = 2; action = Ret (Some 22) } ∷
    record { entry = Main; number = 3; action = End 4294967291 } ∷ []) ≡
    codes "#pragma compartment A\n#pragma export f\n#pragma export h\n#pragma import B g\nint g(int bt_0);\n" ++
    (codes "unsigned int bt_n;\nint f(int bt_0) {\n  if (bt_n == 0u) { bt_n = 1u; g(5); }\n" ++
    (codes "  if (bt_n == 2u) { bt_n = 3u; return 22; }\n  while (1) { }\n}\nint h(int bt_0) {\n" ++
    (codes "  if (bt_n == 1u) { bt_n = 2u; return 11; }\n  while (1) { }\n}\nint main(void) {\n" ++
    codes "  if (bt_n == 3u) { bt_n = 4u; return -5; }\n  while (1) { }\n}\n")))
unfolding digits
reenters = refl
