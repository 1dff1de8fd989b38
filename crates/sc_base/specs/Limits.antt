-- Limits that several layers keep.
use Rattle.std.specs.Prelude.{ℕ}

-- bytes of a name
abbrev pub most_name_bytes : ℕ
most_name_bytes = 63

-- how high a tree is: an expression, a statement, a function's body
abbrev pub most_height : ℕ
most_height = 256

-- round, square and curly brackets that are open at one place of a section
abbrev pub most_brackets : ℕ
most_brackets = 1024

-- compartments of a program, and of an image
abbrev pub most_compartments : ℕ
most_compartments = 32

-- exports of a compartment, and imports
abbrev pub most_exports : ℕ
most_exports = 4096

-- parameters of a function, and arguments of a call: as many as argument registers
abbrev pub most_params : ℕ
most_params = 8

-- events that a run emits, and that a trace which is explained has
abbrev pub most_events : ℕ
most_events = 4096

-- bytes of a text that is read
abbrev pub most_text : ℕ
most_text = 8388608

-- bytes of a text that is compiled
abbrev pub most_compiled : ℕ
most_compiled = 1048576

-- bytes of an image
abbrev pub most_image : ℕ
most_image = 67108864
