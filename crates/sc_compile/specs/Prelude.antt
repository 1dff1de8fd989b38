-- What this crate's contracts, its proofs and the crates above cite, passed on from one place. Declares nothing.
pub use Rattle.sc_core.specs.Prelude.{IsWellTyped, cells_of, frame_bound, nodes, total, variables}
pub use Rattle.sc_emit_run_laws.specs.Prelude.{IsBlamed, IsTrap}
pub use Rattle.sc_compile.specs.Compiled.{EmitsOrIsBlamed, ForwardSimulation, HasFewBranches, HasNoTests, IsCompiled}
pub use Rattle.sc_compile.specs.Compiled.{IsRobust, program_nodes, test_word}
pub use Rattle.sc_compile.specs.Counting.{IsCounted, IsCountedFunction, cells_in}
pub use Rattle.sc_compile.specs.Globals.{BeginAsWords, BeginsAsWords}
pub use Rattle.sc_lower.specs.Prelude.{SameButForLines, lineless}
pub use Rattle.sc_compile.specs.Apart.{HaveSameSection, ImagesAreApart, PartsAreSeparate, SameSectionsBut}
pub use Rattle.sc_compile.specs.Image.{HasParts, IsFault, all_codes, built_image, function_code}
pub use Rattle.sc_compile.specs.Image.{function_tac, image_of, program_tac, section_codes, section_part, section_tac}
pub use Rattle.sc_compile.specs.Image.{unless_large}
pub use Rattle.sc_compile.specs.Passes.{AreEmitted, CanBeCompiled, EachEmits, EmitsAll, EmitsFrom, EmitsSo, Fits}
pub use Rattle.sc_compile.specs.Passes.{code_from}
pub use Rattle.sc_compile.specs.Stop.{EndsByEvent, IsBlamedThere, TrapsOutside, TrapsWhereBlamed}
pub use Rattle.sc_compile.specs.Origin.{FindsOrigin, IsOrigin, origin_of}
pub use Rattle.sc_compile.specs.Sizes.{above, code_size, data_size, faults_from, first, found_in, frame_bytes}
pub use Rattle.sc_compile.specs.Sizes.{large_code, large_data, large_frame, large_frames, too_large}
