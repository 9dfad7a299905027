use Rattle.std.proofs.Common.{map}
use Rattle.spec_exchange.specs.Effects.{set_ranges}
use Rattle.store_opens.specs.share_modes.Locking.{range_of}
use Rattle.server_effects.proofs.Steps.{pieces}
use Rattle.server_effects.proofs.locks.put_in_file.Goals as goal

pub returns-clause-shows : goal.returns-clause-shows
returns-clause-shows c = λ s h o. pieces c.args.t.now c.put_ranges.new.self (set_ranges s c.args.file
    (map range_of c.args.ranges.items))
    (c.put_ranges.ensures.shown s h.opens o) h.files h.sessions h.share_is h.room_is h.encrypts_is h.address_is h.version_is h.journal_is
