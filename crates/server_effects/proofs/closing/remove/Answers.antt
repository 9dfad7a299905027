use Rattle.spec_exchange.specs.Files.{remove_file}
use Rattle.server_effects.proofs.Closes.{never_refused}
use Rattle.server_effects.proofs.Steps.{file_pieces}
use Rattle.server_effects.proofs.closing.remove.Goals as goal

pub returns-in-Ok-clause-shows : goal.returns-in-Ok-clause-shows
returns-in-Ok-clause-shows c = λ s h x g. file_pieces c.args.t.now c.remove.new.self (remove_file s c.args.file) h.opens
    (c.in-Ok.ensures.done s h.files x).1 h.sessions h.share_is h.room_is h.encrypts_is h.address_is h.version_is h.journal_is

pub returns-in-Err-clause-shows : goal.returns-in-Err-clause-shows
returns-in-Err-clause-shows c = λ s h x g. absurd (never_refused s c.args.file _ g (c.in-Err.ensures.done s h.files x).0)
