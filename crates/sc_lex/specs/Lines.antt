-- Bytes, the lines that they form, and the numbers of the lines.
use Rattle.std.specs.Prelude.{ℕ, ◌+◌, ◌-◌, min, Bool, not, ◌||◌, ◌==◌, List, take, slice_index, count_by}
use Rattle.std.specs.List.{prefix_len}

-- white space other than a newline: space, tab, vertical tab, form feed and carriage return
abbrev pub is_blank : ℕ → Bool
is_blank byte = byte == 32 || byte == 9 || byte == 11 || byte == 12 || byte == 13

abbrev pub is_white_space : ℕ → Bool
is_white_space byte = is_blank byte || byte == 10

-- a byte that lies inside a line
abbrev pub is_inside_line : ℕ → Bool
is_inside_line byte = not (byte == 10)

-- how long the first line is, without its newline
abbrev pub line_len : List ℕ → ℕ
line_len text = prefix_len is_inside_line text

-- the first line, without its newline
abbrev pub line_text : List ℕ → List ℕ
line_text text = take (line_len text) text

abbrev pub newlines : List ℕ → ℕ
newlines text = count_by (λ byte. byte == 10) text

-- `more` lines further on, where 4,294,967,295 is the number of all later lines
abbrev pub line_after : ℕ → ℕ → ℕ
line_after line more = min (line + more) 4294967295

-- the line of a place in a text, counted from 1
abbrev pub line_at : List ℕ → ℕ → ℕ
line_at text at = line_after 1 (newlines (take at text))

-- a line of the text begins at this place
abbrev pub begins_line : List ℕ → ℕ → Bool
begins_line text at = at == 0 || slice_index text (at - 1) == 10
