use Rattle.sc_blocks.proofs.Common.{ap, free_place, length, memory_of, subst, sym, with_words, ◌<◌, ◌^◌, ◌∙◌}
use Rattle.std.specs.Prelude.{is_some}
use Rattle.sc_blocks.proofs.Memories.{a_number, memory_changed, no_number, row_is}
use Rattle.sc_blocks.proofs.blocks.Blocks.allocate.Goals as goal

pub allocate-requires : goal.allocate-requires
allocate-requires c = subst (λ blocks. length blocks < 2 ^ 63) (sym (row_is c.self.inside.rows.items
    (memory_of c.args.self.now) c.number.result c.args.comp
    c.index_mut-row.result.now (ap memory_of c.self.view_is ∙
    c.in_ok-make_row.ensures.same) c.number.ensures.number
    (subst (λ rows. c.args.comp < length rows) (sym c.self.view_is) c.in_ok-make_row.ensures.there)
    c.index_mut-row.ensures.value)) c.requires

pub returns-then-not-some-clause-number : goal.returns-then-not-some-clause-number
returns-then-not-some-clause-number c =
    let row = row_is c.self.inside.rows.items (memory_of c.args.self.now) c.number.result c.args.comp
    c.index_mut-row.result.now (ap memory_of c.self.view_is ∙
    c.in_ok-make_row.ensures.same) c.number.ensures.number
    (subst (λ rows. c.args.comp < length rows) (sym c.self.view_is) c.in_ok-make_row.ensures.there)
    c.index_mut-row.ensures.value in
    no_number (length (memory_of c.args.self.now c.args.comp))
    (free_place (memory_of c.args.self.now c.args.comp) c.args.words)
    (sym (ap (λ blocks. is_some (free_place blocks c.args.words)) row) ∙ sym c.in_ok-some.ensures.there ∙
    c.if-not-some.true)

pub returns-then-not-some-clause-made : goal.returns-then-not-some-clause-made
returns-then-not-some-clause-made c = memory_changed c.self.inside.rows.items
    (memory_of c.args.self.now) c.number.result c.args.comp
    c.index_mut-row.result.now c.allocate.new.self (λ row. with_words c.args.words (free_place row c.args.words) row)
    (ap memory_of c.self.view_is ∙ c.in_ok-make_row.ensures.same) c.number.ensures.number
    (subst (λ rows. c.args.comp < length rows) (sym c.self.view_is) c.in_ok-make_row.ensures.there)
    c.index_mut-row.ensures.value c.in_ok-some.ensures.made

pub returns-clause-number : goal.returns-clause-number
returns-clause-number c =
    let row = row_is c.self.inside.rows.items (memory_of c.args.self.now) c.number.result c.args.comp
    c.index_mut-row.result.now (ap memory_of c.self.view_is ∙
    c.in_ok-make_row.ensures.same) c.number.ensures.number
    (subst (λ rows. c.args.comp < length rows) (sym c.self.view_is) c.in_ok-make_row.ensures.there)
    c.index_mut-row.ensures.value in
    a_number c.len-number.result (length (memory_of c.args.self.now c.args.comp))
    (free_place (memory_of c.args.self.now c.args.comp) c.args.words) (c.len-number.ensures ∙ ap length row)
    (sym (ap (λ blocks. is_some (free_place blocks c.args.words)) row) ∙ sym c.in_ok-some.ensures.there ∙
    c.if-not-some.false)

pub returns-clause-made : goal.returns-clause-made
returns-clause-made c = memory_changed c.self.inside.rows.items (memory_of c.args.self.now) c.number.result c.args.comp
    c.index_mut-row.result.now c.allocate.new.self (λ row. with_words c.args.words (free_place row c.args.words) row)
    (ap memory_of c.self.view_is ∙ c.in_ok-make_row.ensures.same) c.number.ensures.number
    (subst (λ rows. c.args.comp < length rows) (sym c.self.view_is) c.in_ok-make_row.ensures.there)
    c.index_mut-row.ensures.value c.in_ok-some.ensures.made
