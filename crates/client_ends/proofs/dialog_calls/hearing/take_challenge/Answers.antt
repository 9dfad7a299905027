use Rattle.std.proofs.Common.{arith}
use Rattle.spec_world.specs.Dialog.{setup_token}
use Rattle.client_ends.specs.ends.Shown.{settings_of}
use Rattle.client_ends.proofs.dialog_calls.Paying.{answer_short}
use Rattle.client_ends.proofs.dialog_calls.hearing.take_challenge.Goals as goal

pub returns-else-size-lt65536 : goal.returns-else-size-lt65536
returns-else-size-lt65536 c = λ n number s j.
    let short = answer_short (settings_of c.args.d.now.config) n (setup_token c.args.m.now) c.args.told.now.token j.2 in
    absurd (omega (arith, short, c.if-size-lt65536.false, c.len-size.ensures))

pub say_answer-requires : goal.say_answer-requires
say_answer-requires c = omega (arith, c.if-size-lt65536.true, c.len-size.ensures)
