use Rattle.sc_linker.proofs.Common.{Instr, IsInstr, List, addresses_of, ap, arith, get_or, length, length-drop, subst}
use Rattle.sc_linker.proofs.Common.{with_low, word_of, ◌<◌, ◌∙◌, ◌≡◌}
use Rattle.sc_linker.proofs.Beginnings.{all_more}
use Rattle.sc_linker.proofs.Relocating.{known_at, known_after, one_linked, room_after}
use Rattle.sc_linker.proofs.relocate.link_code.Goals as goal

pub completed-instr-requires-clause-known : goal.completed-instr-requires-clause-known
completed-instr-requires-clause-known c =
    let layout = c.args.layout.now in
    known_at (addresses_of layout) (length layout.functions) (length layout.globals) c.loop-instr.at _
    c.take_target-target.result (c.take_target-target.ensures.target (addresses_of layout))
    c.loop-instr.invariant.known

pub overflow_add-pc : goal.overflow_add-pc
overflow_add-pc c =
    let left = length-drop c.loop-instr.instr-index c.args.code.now.instrs in
    record { fits = omega (arith, c.loop-instr.invariant.room.word, ap length c.as_slice-instr-items.ensures) }

pub loop-instr-preserved : goal.loop-instr-preserved
loop-instr-preserved c =
    let layout = c.args.layout.now in
    let addresses = addresses_of layout in
    let now = c.loop-instr in
    let instr = c.instr-item.result in
    let within : now.instr-index < length c.args.code.now.instrs =
    subst (λ (is : List Instr). now.instr-index < length is) c.as_slice-instr-items.ensures c.loop-instr-test.true in
    let item : instr ≡ get_or c.args.code.now.instrs now.instr-index instr =
    subst (λ (is : List Instr). instr ≡ get_or is now.instr-index instr) c.as_slice-instr-items.ensures
    c.instr-item.is in
    record {
      number = omega arith;
      within = c.take_target-target.ensures.within;
      room = room_after layout.comp now.pc now.instr-index c.args.code.now.instrs within now.invariant.room;
      known = known_after addresses (length layout.functions) (length layout.globals) now.at _ _
          (c.take_target-target.ensures.following addresses) now.invariant.known;
      instrs = all_more IsInstr c.args.code.now.instrs now.instr-index instr within item now.invariant.instrs
          c.completed-instr.ensures.known;
      words = one_linked addresses c.args.code.now.instrs now.instr-index instr within item now.words c.push.new.self _
          now.pc now.at now.low c.completed-instr.result.1 c.take_target-target.result _ _ c.encode.result
          (c.take_target-target.ensures.target addresses) (c.take_target-target.ensures.following addresses)
          c.completed-instr.ensures.low (c.encode.ensures.word ∙ ap word_of (c.with_low.ensures ∙
          ap (with_low now.low) c.completed-instr.ensures.instr)) c.in_ok-push.ensures.ok now.invariant.words;
    }
