-- The lines that sum up a made program and what is explained of it.
use Rattle.std.specs.Prelude.{ℕ, ◌%◌, ◌^◌, List, ◌++◌, codes, length, sum_by}
use Rattle.sc_event.specs.declared.event.Event.{Event}
use Rattle.sc_event.specs.declared.event.Event.TheVariants.{Out}
use Rattle.sc_event.specs.declared.interface.Interfaces.{Interfaces}
use Rattle.sc_core.specs.declared.explanation.Explanation.{Explanation}
use Rattle.sc_report.specs.Report.{number_end, stop_line}

abbrev pub output_word : Event → ℕ
output_word (Out comp value) = value
output_word _ = 0

-- the words of all outputs, added modulo 2^32
abbrev pub output_sum : List Event → ℕ
output_sum events = sum_by output_word events % 2 ^ 32

-- a word and a number
abbrev pub count_line : (word : List ℕ) → ℕ → List ℕ
count_line word number = word ++ number_end number

-- how many events there are, and what the outputs add up to
abbrev pub trace_lines : List Event → List ℕ
trace_lines trace = count_line (codes "events") (length trace) ++ count_line (codes "sum") (output_sum trace)

-- how many functions and compartments there are, how many events are emitted and what the outputs add up to, why the
-- machine stops, and how many sections are replaced
abbrev pub summary_text : (size : ℕ) → Interfaces → Explanation → List ℕ
summary_text size interfaces explanation =
    count_line (codes "functions") size ++ (count_line (codes "compartments") (length interfaces.comps) ++
    (trace_lines explanation.trace ++
    (stop_line explanation.stop ++ count_line (codes "chain") (length explanation.links))))
