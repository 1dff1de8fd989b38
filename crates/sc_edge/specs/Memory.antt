-- What a source and a sink in memory are, and what each call makes of them.
use Rattle.std.specs.Prelude.{ℕ, ◌+◌, min, List, ◌++◌, drop}

-- one more, up to the end of a u64, where a count stays
abbrev pub counted : ℕ → ℕ
counted n = min (n + 1) 18446744073709551615

pub record SourceState : Type 0 where
  pub left : List ℕ
  -- the numbers, from 0, of the reads that fail
  pub fails : List ℕ
  pub calls : ℕ
  pub faults : ℕ

-- after a read into a buffer of this length
abbrev pub after_read : SourceState → ℕ → SourceState
after_read s len = record s { left = drop len s.left; calls = counted s.calls }

abbrev pub after_failed_read : SourceState → SourceState
after_failed_read s = record s { calls = counted s.calls; faults = counted s.faults }

pub record SinkState : Type 0 where
  pub written : List ℕ
  -- how many bytes it takes in all
  pub room : ℕ
  -- the numbers, from 0, of the writes that fail
  pub fails : List ℕ
  pub calls : ℕ
  pub faults : ℕ

-- after a write that took these bytes
abbrev pub after_write : SinkState → List ℕ → SinkState
after_write s bytes = record s { written = s.written ++ bytes; calls = counted s.calls }

abbrev pub after_failed_write : SinkState → SinkState
after_failed_write s = record s { calls = counted s.calls; faults = counted s.faults }
