use Rattle.std.proofs.Common.{refl}
use Rattle.client_ends.specs.declared.ends.dialog.Stage.TheVariants as stages
use Rattle.client_ends.proofs.dialog_calls.Endings.{readied}
use Rattle.client_ends.proofs.dialog_calls.ending.accept.Goals as goal

pub returns-in-Ok : goal.returns-in-Ok
returns-in-Ok c = λ n s keys encrypts channel counter sealing.
    let d = c.args.d.now in
    readied d (record d { line = c.send.new.line; stage = stages.AskedTree }) c.take_keys.new.line n c.args.ended.now
    c.in_ok-request.request c.in-Ok.tree_connect s c.take_keys.ensures keys encrypts channel counter sealing
    c.in_ok-request.ensures.request c.in_ok-request.ensures.token c.in-Ok.ensures.sends
    refl (record { config = refl; bound = refl; previous = refl; session = refl })

pub send-requires : goal.send-requires
send-requires c = c.in_ok-request.ensures.sends
