-- Linked images are images, and what is in them stands where the layout says.
use Rattle.sc_linker.proofs.Common.{LinkedImagesHold}
use Rattle.sc_linker.proofs.Entries.{entries_stand}
use Rattle.sc_linker.proofs.Formed.{linked_is_formed}
use Rattle.sc_linker.proofs.Functions.{functions_stand}
use Rattle.sc_linker.proofs.Globals.{globals_stand}
use Rattle.sc_linker.proofs.Permitted.{imports_stand}
use Rattle.sc_linker.proofs.Interfaces.{has_interfaces}

pub linked_images_hold : LinkedImagesHold
linked_images_hold = record {
  well_formed = linked_is_formed;
  functions = functions_stand;
  entries = entries_stand;
  interfaces = has_interfaces;
  imports = λ program codes typed. imports_stand program codes;
  globals = λ program codes typed given linkable. globals_stand program codes typed linkable given;
}
