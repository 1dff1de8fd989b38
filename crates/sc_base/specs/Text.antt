-- Texts as contracts see them.
use Rattle.std.specs.Prelude.{ℕ, List}

-- a text, an identifier or a word of a command line, by its bytes
abbrev pub Text : Type 0
Text = List ℕ
