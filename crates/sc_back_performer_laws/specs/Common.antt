-- The names from below that several definitions of this crate cite, passed on from one place. Declares nothing.
pub use Rattle.sc_base.specs.Prelude.{IsWord, IsWordOrNone, Text, is_name, most_events, most_exports}
pub use Rattle.sc_event.specs.Prelude.{comp_at, fits_result, imports, is_function, is_input, is_output, legal, part}
pub use Rattle.sc_event.specs.Prelude.{takes}
pub use Rattle.sc_event.specs.declared.event.Event.{Event}
pub use Rattle.sc_event.specs.declared.interface.Interface.{Interface}
pub use Rattle.sc_event.specs.declared.interface.Interfaces.{Interfaces}
pub use Rattle.sc_event.specs.declared.row.Row.{Row}
pub use Rattle.sc_ast.specs.Prelude.{SameButLines, is_ident}
pub use Rattle.sc_ast.specs.declared.section.SectionTree.{SectionTree}
pub use Rattle.sc_types_scope.specs.Prelude.{are_distinct, heads_in, import_of}
pub use Rattle.sc_core.specs.declared.program.ProgramTree.{ProgramTree}
pub use Rattle.sc_types_elab.specs.Prelude.{callees_of, program_of, typed_section}
pub use Rattle.sc_types.specs.Prelude.{IsTyped}
pub use Rattle.sc_back.specs.Prelude.{AllBecome, CanPerform, back_tree, imported, main_proto, owner_name}
pub use Rattle.sc_back_replay_laws.specs.Replay.{HasWords, IsRecomposed, PerformsRows, proto_of}
