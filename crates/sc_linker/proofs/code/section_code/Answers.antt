use Rattle.sc_linker.proofs.Agreeing.{code_by_layout, function_for_each, known_in_layout}
use Rattle.sc_linker.proofs.code.section_code.Goals as goal

pub push_entries-requires-clause-each : goal.push_entries-requires-clause-each
push_entries-requires-clause-each c =
    function_for_each c.args.comp c.args.exports.now c.args.section.now c.args.codes.now c.requires
    c.in_ok-layout.layout c.in_ok-layout.ensures.layout

pub push_codes-requires-clause-known : goal.push_codes-requires-clause-known
push_codes-requires-clause-known c =
    known_in_layout c.args.comp c.args.exports.now c.args.section.now c.args.codes.now c.requires
    c.in_ok-layout.layout c.in_ok-layout.ensures.layout

pub returns-clause-words : goal.returns-clause-words
returns-clause-words c =
    code_by_layout c.args.comp c.args.exports.now c.args.section.now c.args.codes.now c.requires c.new-words.result
    c.push_entries.new.words c.push_codes.new.words c.in_ok-layout.layout c.entry_address.result
    c.in_ok-layout.ensures.layout c.entry_address.ensures c.new-words.ensures c.in_ok-push_entries.ensures
    c.in_ok-push_codes.ensures.words
