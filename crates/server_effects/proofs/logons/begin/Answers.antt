use Rattle.std.proofs.Common.{arith}
use Rattle.wire_commands.specs.values.Meaning.{message_of}
use Rattle.server_effects.proofs.Begun.{begun_tables}
use Rattle.server_effects.proofs.logons.begin.Goals as goal

pub returns-clause-shows : goal.returns-clause-shows
returns-clause-shows c = λ s user r f h p e i. begun_tables c.args.t.now c.add.new.self s (message_of c.args.m.now) user r c.args.session
    c.args.row h e i (c.add.ensures.shows s h.sessions f.on_present p i.is_new)

pub returns-clause-beside : goal.returns-clause-beside
returns-clause-beside c = (
  c.set_up_answer.ensures.beside.0,
  c.set_up_answer.ensures.beside.1,
  c.set_up_answer.ensures.beside.2,
  c.set_up_answer.ensures.channel (omega arith),
)
