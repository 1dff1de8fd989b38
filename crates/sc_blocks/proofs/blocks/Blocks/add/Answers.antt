use Rattle.sc_blocks.proofs.Common.{[], ap, length, memory_of, subst, sym, variable, ◌++◌, ◌<◌, ◌^◌, ◌∙◌, ◌∷◌}
use Rattle.sc_blocks.proofs.Memories.{row_is, memory_changed}
use Rattle.sc_blocks.proofs.blocks.Blocks.add.Goals as goal

pub returns-clause-number : goal.returns-clause-number
returns-clause-number c =
    let there : c.args.comp < length c.self.inside.rows.items =
    subst (λ rows. c.args.comp < length rows) (sym c.self.view_is) c.in_ok-make_row.ensures.there in
    c.len-number.ensures
    ∙ ap length (row_is c.self.inside.rows.items (memory_of c.args.self.now) c.number.result c.args.comp
    c.index_mut-row.result.now (ap memory_of c.self.view_is ∙
    c.in_ok-make_row.ensures.same) c.number.ensures.number there c.index_mut-row.ensures.value)

pub returns-clause-made : goal.returns-clause-made
returns-clause-made c =
    let there : c.args.comp < length c.self.inside.rows.items =
    subst (λ rows. c.args.comp < length rows) (sym c.self.view_is) c.in_ok-make_row.ensures.there in
    memory_changed c.self.inside.rows.items (memory_of c.args.self.now) c.number.result c.args.comp
    c.index_mut-row.result.now c.push.new.self (λ row. row ++ variable c.args.cells ∷ [])
    (ap memory_of c.self.view_is ∙ c.in_ok-make_row.ensures.same) c.number.ensures.number there
    c.index_mut-row.ensures.value c.in_ok-push.ensures.ok

pub push-requires : goal.push-requires
push-requires c =
    let there : c.args.comp < length c.self.inside.rows.items =
    subst (λ rows. c.args.comp < length rows) (sym c.self.view_is) c.in_ok-make_row.ensures.there in
    subst (λ blocks. length blocks < 2 ^ 63)
    (sym (row_is c.self.inside.rows.items (memory_of c.args.self.now) c.number.result c.args.comp
    c.index_mut-row.result.now (ap memory_of c.self.view_is ∙
    c.in_ok-make_row.ensures.same) c.number.ensures.number there c.index_mut-row.ensures.value)) c.requires
