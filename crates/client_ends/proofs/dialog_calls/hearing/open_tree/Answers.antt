use Rattle.std.proofs.Common.{Option, sym, subst, ◌∙◌}
use Rattle.spec_exchange.specs.Client.{AskedTree}
use Rattle.spec_world.specs.Messages.{HeardMessage}
use Rattle.client_ends.specs.dialog_calls.Turning.{HearsMessage}
use Rattle.client_ends.proofs.dialog_calls.Trees.{opened_as, text_short, unopened_turn}
use Rattle.client_ends.proofs.dialog_calls.hearing.open_tree.Goals as goal

pub take_opened-requires : goal.take_opened-requires
take_opened-requires c = text_short c.args.d.now.line.keys c.args.frame.now c.in-Ok.text c.in-Ok.ensures c.requires.short

pub returns-in-Ok : goal.returns-in-Ok
returns-in-Ok c = λ n number s on.
    let d = c.args.d.now in
    subst (λ (o : Option HeardMessage). HearsMessage AskedTree d n o number c.take_opened.new.d c.take_opened.result)
    (sym (opened_as n d.line.keys c.args.frame.now c.in-Ok.text (s.1.encrypts ∙ on) s.1.keys c.in-Ok.ensures))
    (c.take_opened.ensures n number s)

pub returns-in-Err : goal.returns-in-Err
returns-in-Err c = λ n number s on.
    unopened_turn c.args.d.now c.take_unopened.new.d n number c.args.frame.now c.in-Err.why c.take_unopened.result s.1 on c.in-Err.ensures
    c.take_unopened.ensures.refused c.take_unopened.ensures.lacking
