-- Pieces of machine code: a word loaded into a register, words of the frame near the stack pointer and far from it, the
-- places of temporaries, the prologue and the epilogue of a function (RISC-V Unprivileged ISA, RV32I).
pub use Rattle.rv_code.specs.Registers.{a0, a1, a7, ra, sp}
use Rattle.sc_emit_select.specs.Common.{Add, Addi, Instr, Jalr, Load, Lui, Lw, Op, OpImm, Store, Sw, Upper, signed_of}
use Rattle.sc_emit_select.specs.Common.{sub_word}
use Rattle.rv_code.specs.Prelude.{signed}
use Rattle.std.specs.Prelude.{ℕ, ℤ, pos, negsuc, ◌+◌, ◌*◌, ◌/◌, ◌%◌, ◌^◌, Bool, ◌&&◌, nat_lt, int_le, List, [], ◌∷◌}
use Rattle.std.specs.Prelude.{◌++◌, if◌then◌else◌}

-- Registers by their numbers: three that pieces compute in; those from a0 on are of arguments, and the rest for
-- temporaries.

abbrev pub first_scratch : ℕ
first_scratch = 5

abbrev pub second_scratch : ℕ
second_scratch = 6

-- for addresses of words far from the stack pointer, and for constants
abbrev pub address_scratch : ℕ
address_scratch = 7

-- the registers for temporaries: x3, x4, x8, x9 and x18 to x31
abbrev pub register_of : ℕ → ℕ
register_of r = if nat_lt r 2 then r + 3 else if nat_lt r 4 then r + 6 else r + 14

abbrev pub move : (rd rs : ℕ) → Instr
move rd rs = OpImm Addi rd rs (pos 0)

-- a word that ADDI can load by itself: its signed value is from -2048 to 2047
abbrev pub is_short : ℕ → Bool
is_short word = int_le (negsuc 2047) (signed_of word) && int_le (signed_of word) (pos 2047)

-- what LUI loads of any other word: its high 20 bits, and one more where bit 11 is set, since what is added then is
-- negative
abbrev pub upper_part : ℕ → ℕ
upper_part word = (word + 2 ^ 11) % 2 ^ 32 / 2 ^ 12 * 2 ^ 12

-- what is then added: the low 12 bits, as a signed number
abbrev pub lower_part : ℕ → ℤ
lower_part word = signed (2 ^ 11) (word % 2 ^ 12)

-- a word into a register
abbrev pub loading : (rd word : ℕ) → List Instr
loading rd word =
    if is_short word then OpImm Addi rd 0 (signed_of word) ∷ []
    else Upper Lui rd (upper_part word) ∷ OpImm Addi rd rd (lower_part word) ∷ []

-- a register plus `bytes` into another
abbrev pub moved_by : (rd rs bytes : ℕ) → List Instr
moved_by rd rs bytes =
    if is_short bytes then OpImm Addi rd rs (signed_of bytes) ∷ []
    else loading address_scratch bytes ++ Op Add rd rs address_scratch ∷ []

-- the address of a word far from the stack pointer, but for what its access adds
abbrev pub far_from_sp : ℕ → List Instr
far_from_sp offset = Upper Lui address_scratch (upper_part offset) ∷ Op Add address_scratch address_scratch sp ∷ []

-- the word at an offset from the stack pointer into a register
abbrev pub load_word : (rd offset : ℕ) → List Instr
load_word rd offset =
    if is_short offset then Load Lw rd sp (signed_of offset) ∷ []
    else far_from_sp offset ++ Load Lw rd address_scratch (lower_part offset) ∷ []

-- a register into the word at an offset from the stack pointer
abbrev pub store_word : (rs offset : ℕ) → List Instr
store_word rs offset =
    if is_short offset then Store Sw sp rs (signed_of offset) ∷ []
    else far_from_sp offset ++ Store Sw address_scratch rs (lower_part offset) ∷ []

-- the start of a prologue: the frame is taken, and first of all the return address is stored at the new stack pointer
abbrev pub frame_taken : ℕ → List Instr
frame_taken bytes = moved_by sp sp (sub_word 0 bytes) ++ Store Sw sp ra (pos 0) ∷ []

-- the epilogue
abbrev pub epilogue : ℕ → List Instr
epilogue bytes = Load Lw ra sp (pos 0) ∷ moved_by sp sp bytes ++ Jalr 0 ra (pos 0) ∷ []
