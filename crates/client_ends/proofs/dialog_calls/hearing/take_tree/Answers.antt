use Rattle.std.proofs.Common.{Some}
use Rattle.spec_exchange.specs.Client.{AskedTree}
use Rattle.spec_world.specs.Dialog.{response_in}
use Rattle.client_ends.proofs.dialog_calls.Behind.{refused_turn}
use Rattle.client_ends.proofs.dialog_calls.Trees.{tree_turn}
use Rattle.client_ends.proofs.dialog_calls.hearing.take_tree.Goals as goal

pub returns-in-Ok : goal.returns-in-Ok
returns-in-Ok c = λ n number s.
    let d = c.args.d.now in
    tree_turn d c.ready.new.d c.pay_in.new.self n number c.in-Ok.header c.args.m.now c.ready.result s (c.in-Ok.ensures d.config n s)
    (c.pay_in.ensures.shows n s.0) c.pay_in.ensures.keeps c.ready.ensures.told c.ready.ensures.stage

pub returns-in-Err : goal.returns-in-Err
returns-in-Err c = λ n number s.
    let d = c.args.d.now in
    refused_turn AskedTree d c.refuse.new.d n (response_in (Some c.args.m.now)) number c.in-Err.why c.refuse.result
    (c.in-Err.ensures d.config n s) c.refuse.ensures
