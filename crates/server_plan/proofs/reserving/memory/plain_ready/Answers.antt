use Rattle.std.proofs.Common.{refl}
use Rattle.server_plan.proofs.reserving.Plain.{rest_wants}
use Rattle.server_plan.proofs.reserving.memory.plain_ready.Goals as goal

pub returns-in-Refuse-clause-stands : goal.returns-in-Refuse-clause-stands
returns-in-Refuse-clause-stands c = λ k. rw c.in-Refuse.is refl

pub returns-in-Give-clause-stands : goal.returns-in-Give-clause-stands
returns-in-Give-clause-stands c = λ k. rw c.in-Give.is refl

pub returns-in-TurnDown-clause-stands : goal.returns-in-TurnDown-clause-stands
returns-in-TurnDown-clause-stands c = λ k. rw c.in-TurnDown.is refl

pub returns-in-Tell-clause-stands : goal.returns-in-Tell-clause-stands
returns-in-Tell-clause-stands c = λ k. rw c.in-Tell.is refl

pub returns-in-Show-clause-stands : goal.returns-in-Show-clause-stands
returns-in-Show-clause-stands c = λ k. rw c.in-Show.is refl

pub returns-in-Seek-clause-stands : goal.returns-in-Seek-clause-stands
returns-in-Seek-clause-stands c = λ k. rw c.in-Seek.is refl

pub returns-in-KeepSlot-clause-stands : goal.returns-in-KeepSlot-clause-stands
returns-in-KeepSlot-clause-stands c = λ k. rw c.in-KeepSlot.is refl

pub returns-in-PutRanges-clause-stands : goal.returns-in-PutRanges-clause-stands
returns-in-PutRanges-clause-stands c = λ k. rw c.in-PutRanges.is refl

pub returns-in-CloseOpen-clause-stands : goal.returns-in-CloseOpen-clause-stands
returns-in-CloseOpen-clause-stands c = λ k. rw c.in-CloseOpen.is refl

pub returns-in-EndSession-clause-stands : goal.returns-in-EndSession-clause-stands
returns-in-EndSession-clause-stands c = λ k. rw c.in-EndSession.is refl

pub returns-in-Refuse-clause-sure : goal.returns-in-Refuse-clause-sure
returns-in-Refuse-clause-sure c = λ k. rw c.in-Refuse.is refl

pub returns-in-Give-clause-sure : goal.returns-in-Give-clause-sure
returns-in-Give-clause-sure c = λ k. rw c.in-Give.is refl

pub returns-in-TurnDown-clause-sure : goal.returns-in-TurnDown-clause-sure
returns-in-TurnDown-clause-sure c = λ k. rw c.in-TurnDown.is refl

pub returns-in-Tell-clause-sure : goal.returns-in-Tell-clause-sure
returns-in-Tell-clause-sure c = λ k. rw c.in-Tell.is refl

pub returns-in-Show-clause-sure : goal.returns-in-Show-clause-sure
returns-in-Show-clause-sure c = λ k. rw c.in-Show.is refl

pub returns-in-Seek-clause-sure : goal.returns-in-Seek-clause-sure
returns-in-Seek-clause-sure c = λ k. rw c.in-Seek.is refl

pub returns-in-KeepSlot-clause-sure : goal.returns-in-KeepSlot-clause-sure
returns-in-KeepSlot-clause-sure c = λ k. rw c.in-KeepSlot.is refl

pub returns-in-PutRanges-clause-sure : goal.returns-in-PutRanges-clause-sure
returns-in-PutRanges-clause-sure c = λ k. rw c.in-PutRanges.is refl

pub returns-in-CloseOpen-clause-sure : goal.returns-in-CloseOpen-clause-sure
returns-in-CloseOpen-clause-sure c = λ k. rw c.in-CloseOpen.is refl

pub returns-in-EndSession-clause-sure : goal.returns-in-EndSession-clause-sure
returns-in-EndSession-clause-sure c = λ k. rw c.in-EndSession.is refl

pub returns-clause-sure : goal.returns-clause-sure
returns-clause-sure c = λ k. rest_wants k c.args.verdict c.in_default.not-Refuse c.in_default.not-Give
    c.in_default.not-TurnDown c.in_default.not-Tell c.in_default.not-Show
    c.in_default.not-Seek
    c.in_default.not-KeepSlot c.in_default.not-PutRanges c.in_default.not-CloseOpen c.in_default.not-EndSession
