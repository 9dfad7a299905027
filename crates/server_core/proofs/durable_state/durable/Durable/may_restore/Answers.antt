use Rattle.std.proofs.Common.{sym, ◌∙◌}
use Rattle.journal_bytes.specs.record_bytes.Meaning.{new_open}
use Rattle.server_core.proofs.durable_state.Making.{not_epoch, not_counter, not_left, not_free, not_own, may_be}
use Rattle.server_core.proofs.durable_state.durable.Durable.may_restore.Goals as goal

pub returns-then-not-is_of_epoch : goal.returns-then-not-is_of_epoch
returns-then-not-is_of_epoch c = λ s h. not_epoch s (new_open c.args.new.now) (sym (c.is_of_epoch.ensures s h) ∙ c.if-not-is_of_epoch.true)

pub returns-then-not-has_counter : goal.returns-then-not-has_counter
returns-then-not-has_counter c = λ s h. not_counter s (new_open c.args.new.now) (sym c.has_counter.ensures ∙ c.if-not-has_counter.true)

pub returns-then-not-has_ids : goal.returns-then-not-has_ids
returns-then-not-has_ids c = λ s h. not_left s (new_open c.args.new.now) (sym (c.has_ids.ensures s h) ∙ c.if-not-has_ids.true)

pub returns-then-stands : goal.returns-then-stands
returns-then-stands c = λ s h. not_free s (new_open c.args.new.now) (sym (c.stands.ensures s h.opens) ∙ c.if-stands.true)

pub returns-then-has_guid : goal.returns-then-has_guid
returns-then-has_guid c = λ s h. not_own s (new_open c.args.new.now) (sym (c.has_guid.ensures s h) ∙ c.if-has_guid.true)

pub returns : goal.returns
returns c = λ s h. may_be s (new_open c.args.new.now) c.has_open_room.result (sym (c.is_of_epoch.ensures s h) ∙ c.if-not-is_of_epoch.false)
    (sym c.has_counter.ensures ∙ c.if-not-has_counter.false) (sym (c.has_ids.ensures s h) ∙ c.if-not-has_ids.false)
    (sym (c.stands.ensures s h.opens) ∙ c.if-stands.false) (sym (c.has_guid.ensures s h) ∙ c.if-has_guid.false)
    (c.has_open_room.ensures s h)
