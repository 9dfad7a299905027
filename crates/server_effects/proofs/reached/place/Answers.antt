use Rattle.store_opens.specs.open_table.Changes.{offset_at}
use Rattle.server_effects.proofs.Steps.{pieces}
use Rattle.server_effects.proofs.reached.place.Goals as goal

pub returns-clause-shows : goal.returns-clause-shows
returns-clause-shows c = λ s h st. pieces c.args.t.now c.set_position.new.self (offset_at s c.args.id c.args.position)
    (c.set_position.ensures s h.opens st) h.files h.sessions h.share_is h.room_is h.encrypts_is h.address_is h.version_is h.journal_is
