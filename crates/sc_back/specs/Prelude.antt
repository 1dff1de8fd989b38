-- What this crate's contracts, its proofs and the crates above cite, passed on from one place. Declares nothing.
pub use Rattle.sc_back.specs.Replacing.{new_text, new_texts}
pub use Rattle.sc_back.specs.Rows.{HasNext, declarations_text, directives_text, entry_at, own_row_text, own_rows_text}
pub use Rattle.sc_back.specs.Sections.{AllBecome, AreNumbered, Becomes, CanPerform, IsCalled, IsImported, IsSpoken}
pub use Rattle.sc_back.specs.Sections.{kept, replaced}
pub use Rattle.sc_base.specs.Word.{IsWord, IsWordOrNone}
pub use Rattle.sc_back.specs.Text.{action_text, after_comma, back_text, call_text, export_text, function_text}
pub use Rattle.sc_back.specs.Text.{functions_text, head_text, import_line, import_text, imported, input_proto, is_of}
pub use Rattle.sc_back.specs.Text.{joined, main_proto, main_text, output_proto, owner_name, param_text, param_texts}
pub use Rattle.sc_back.specs.Text.{params_text, proto_line, proto_text, result_text, return_text, row_text}
pub use Rattle.sc_back.specs.Text.{section_text, type_text, value_text, value_texts}
pub use Rattle.sc_back.specs.Tree.{action_kind, all_functions, back_tree, base_tree, body_tree, call_kind, counter}
pub use Rattle.sc_back.specs.Tree.{counter_name, export_line, function_head, function_params, function_tree}
pub use Rattle.sc_back.specs.Tree.{function_trees, import_head, literal, main_trees, param_name, proto_head}
pub use Rattle.sc_back.specs.Tree.{proto_params, return_kind, row_kind, type_name, unlined, value_tree, value_trees}
