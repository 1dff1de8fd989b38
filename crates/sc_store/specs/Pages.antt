-- Helping: the pages of a region.
use Rattle.std.specs.Prelude.{ℕ, ◌+◌, ◌/◌}
use Rattle.sc_store.specs.declared.region.Region.{Region}

-- how many pages a region has, the last one in part
abbrev pub pages_of : Region → ℕ
pages_of r = (r.bytes + 4095) / 4096
