use Rattle.std.proofs.Common.{◌∙◌, ap}
use Rattle.spec_commands.specs.ReplyOf.{reply_of}
use Rattle.spec_exchange.specs.Client.{create_for, guid_for}
use Rattle.spec_exchange.specs.Commands.{Command}
use Rattle.client_book.proofs.Lacking.{result_with}
use Rattle.client_book.proofs.Read.{reads_alike}
use Rattle.client_book.proofs.reading.reply_for.Goals as goal

pub returns-in-Ok : goal.returns-in-Ok
returns-in-Ok c =
    let r = c.args.response.now in
    result_with c.read.result
    (λ reply is d shown salted.
    is ∙ (ap (λ (q : Command). reply_of q r.header r.message) (c.in-Ok.ensures d shown salted)
    ∙ reads_alike d r.number (guid_for d r.number) (guid_for d (create_for d r.number)) (d.file (create_for d r.number))
    (d.file (create_for d r.number)) (d.slot_of r.number) (d.number_of r.number) r.asking r.header r.message))
    c.read.ensures
