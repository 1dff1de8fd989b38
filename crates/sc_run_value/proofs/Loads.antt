-- What the store of blocks gives and takes is what the memory does.
use Rattle.sc_run_value.proofs.Common.{Blocks, Bool, Cause, Err, List, Ok, Option, Ptr, Result, Some, bind, cells_at}
use Rattle.sc_run_value.proofs.Common.{false, if◌then◌else◌, is_live, load, loaded, refl, slice_get, true, typed, ◌≡◌}
use Rattle.sc_core.specs.declared.cause.Cause.TheVariants.{BadType, Dangling}
use Rattle.sc_core.specs.declared.value.Cell.{Cell}
use Rattle.sc_blocks.specs.Rows.{load_cell, or_cause, read_cell}
use Rattle.sc_core.specs.declared.value.Cell.TheVariants as cell
use Rattle.sc_core.specs.declared.value.Pointer.{Pointer}
use Rattle.sc_blocks.specs.declared.fault.BlockFault.{BlockFault}

loaded_is : (blocks : Blocks) (pointer : Bool) (o : Option Cell) →
    loaded blocks pointer o ≡ bind (read_cell blocks o) (typed pointer)
loaded_is blocks pointer (Some (cell.Ptr p)) = by_life (is_live (slice_get blocks p.block)) where
  by_life : (b : Bool) → (if b then (if pointer then Ok (Ptr p) else Err BadType) else Err Dangling) ≡
      bind (if b then Ok (cell.Ptr p) else Err Dangling) (typed pointer)
  by_life true = refl
  by_life false = refl
loaded_is blocks true _ = refl
loaded_is blocks false _ = refl

pub load_is : (blocks : Blocks) (pointer : Bool) (p : Pointer) →
    load blocks pointer (Ptr p) ≡ bind (load_cell blocks (cell.Ptr p)) (typed pointer)
load_is blocks pointer p = by_cells (cells_at blocks p.block) where
  by_cells : (r : Result (List Cell) Cause) → bind r (λ cells. loaded blocks pointer (slice_get cells p.index)) ≡
      bind (bind r (λ cells. read_cell blocks (slice_get cells p.index))) (typed pointer)
  by_cells (Err cause) = refl
  by_cells (Ok cells) = loaded_is blocks pointer (slice_get cells p.index)

-- the value that was loaded, by the cell that the blocks gave
pub load_typed : (blocks : Blocks) (pointer : Bool) (p : Pointer) (r : Result Cell BlockFault) →
    or_cause r ≡ load_cell blocks (cell.Ptr p) → load blocks pointer (Ptr p) ≡ bind (or_cause r) (typed pointer)
load_typed blocks pointer p r is = rw is (load_is blocks pointer p)
