-- The identifiers that a program may give to what it declares (C11 6.4.1, 6.4.2.1).
use Rattle.sc_base.specs.Prelude.{is_name, is_reserved}
use Rattle.std.specs.Prelude.{ℕ, Bool, not, ◌&&◌, List, Option, Some, None, if◌then◌else◌}

-- an identifier of at most 63 bytes that is no reserved word
abbrev pub is_ident : List ℕ → Bool
is_ident text = is_name text && not (is_reserved text)

-- the text itself, where it is no reserved word
abbrev pub ident_of : List ℕ → Option (List ℕ)
ident_of text = if is_reserved text then None else Some text
