-- Helping: what globals are declared with.
use Rattle.sc_compile.specs.Common.{TypedGlobal, TypedSection}
use Rattle.std.specs.Prelude.{◌<◌, ◌^◌, All}

-- a global begins with words
abbrev pub BeginsAsWords : TypedGlobal → Type 0
BeginsAsWords g = All (λ word. word < 2 ^ 32) g.init

abbrev pub BeginAsWords : TypedSection → Type 0
BeginAsWords section = All BeginsAsWords section.globals
