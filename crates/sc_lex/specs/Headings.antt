-- Compartment lines, which begin the sections of a text.
use Rattle.std.specs.Prelude.{ℕ, Bool, not, ◌&&◌, nat_eq, codes, List, drop, slice_index, Option, None, if◌then◌else◌}
use Rattle.std.specs.List.{starts_with}
use Rattle.sc_lex.specs.Lines.{is_blank, line_text, begins_line}
use Rattle.sc_lex.specs.Words.{words, only_name}

-- these bytes begin a compartment line, good or bad
abbrev pub begins_heading : List ℕ → Bool
begins_heading text = starts_with nat_eq text (codes "#pragma compartment ")

-- a compartment line stands at this place
abbrev pub is_heading : List ℕ → ℕ → Bool
is_heading text at = begins_line text at && begins_heading (drop at text)

-- the name that a compartment line gives: it follows those 20 bytes directly, and only blanks may follow it
unfoldable pub heading_name : List ℕ → Option (List ℕ)
heading_name line =
    if begins_heading line && not (is_blank (slice_index line 20)) then only_name (words (drop 20 line)) else None

-- the name of the compartment line at this place
abbrev pub name_at : List ℕ → ℕ → Option (List ℕ)
name_at text at = heading_name (line_text (drop at text))
