-- Helping: the bytes of a paged store.
use Rattle.sc_store.specs.declared.paged.PagedStore.{PagedStore}
use Rattle.sc_store.specs.Memory.{ByteMemory}
use Rattle.sc_store.specs.Paged.{memory_of}
use Rattle.sc_store.specs.Cells.{cell}

abbrev pub bytes_in : PagedStore → ByteMemory
bytes_in s = memory_of s.areas.items (cell s.cells.table.items s.cells.pool)
