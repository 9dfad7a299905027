use Rattle.std.proofs.Common.{◌∙◌}
use Rattle.wire_commands.specs.values.Meaning.{command_of, message_of}
use Rattle.server_plan.proofs.owed_records.Told.{none_owed, true_not}
use Rattle.server_plan.proofs.owed_records.verdict.owed.Goals as goal

pub returns-in-Make-clause-told : goal.returns-in-Make-clause-told
returns-in-Make-clause-told c = rw c.in-Make.is (λ s f o t h w. c.create_records.ensures s o t h w.0 w.1 w.2 w.3)

pub returns-in-KeepSlot-clause-told : goal.returns-in-KeepSlot-clause-told
returns-in-KeepSlot-clause-told c = rw c.in-KeepSlot.is (λ s f o t h w. c.lock_records.ensures s o w)

pub returns-in-PutRanges-clause-told : goal.returns-in-PutRanges-clause-told
returns-in-PutRanges-clause-told c = rw c.in-PutRanges.is (λ s f o t h w. c.granted_records.ensures s o w)

pub returns-in-Alter-clause-told : goal.returns-in-Alter-clause-told
returns-in-Alter-clause-told c = rw c.in-Alter.is (λ s f o t h w. c.altered_records.ensures s o w)

pub returns-in-CloseOpen-clause-told : goal.returns-in-CloseOpen-clause-told
returns-in-CloseOpen-clause-told c = rw c.in-CloseOpen.is (λ s f o t h w. c.leaving_records.ensures s f o t w)

pub returns-in-Begin-clause-told : goal.returns-in-Begin-clause-told
returns-in-Begin-clause-told c = rw c.in-Begin.is (λ s f o t h w. c.end_if_named.ensures.told s f o t)

pub returns-in-EndSession-clause-told : goal.returns-in-EndSession-clause-told
returns-in-EndSession-clause-told c = rw c.in-EndSession.is (λ s f o t h w. c.end_records.ensures.told s f o t)

pub returns-in-DropTree-clause-told : goal.returns-in-DropTree-clause-told
returns-in-DropTree-clause-told c = rw c.in-DropTree.is (λ s f o t h w. c.tree_records.ensures s f o t)

pub returns-in_default-clause-told : goal.returns-in_default-clause-told
returns-in_default-clause-told c = λ s f o t h w. c.no_record.ensures
    ∙ none_owed s (message_of c.args.m.now) c.args.now (command_of c.args.m.now.command) c.args.verdict.now c.in_default.not-Make
    c.in_default.not-KeepSlot c.in_default.not-PutRanges c.in_default.not-Alter c.in_default.not-CloseOpen c.in_default.not-Begin
    c.in_default.not-EndSession c.in_default.not-DropTree

pub returns-in-Make-clause-sure : goal.returns-in-Make-clause-sure
returns-in-Make-clause-sure c = rw c.in-Make.is (λ h. absurd (true_not h))

pub returns-in-KeepSlot-clause-sure : goal.returns-in-KeepSlot-clause-sure
returns-in-KeepSlot-clause-sure c = rw c.in-KeepSlot.is (λ h. absurd (true_not h))

pub returns-in-PutRanges-clause-sure : goal.returns-in-PutRanges-clause-sure
returns-in-PutRanges-clause-sure c = rw c.in-PutRanges.is (λ h. absurd (true_not h))

pub returns-in-Alter-clause-sure : goal.returns-in-Alter-clause-sure
returns-in-Alter-clause-sure c = rw c.in-Alter.is (λ h. absurd (true_not h))

pub returns-in-CloseOpen-clause-sure : goal.returns-in-CloseOpen-clause-sure
returns-in-CloseOpen-clause-sure c = rw c.in-CloseOpen.is (λ h. absurd (true_not h))

pub returns-in-Begin-clause-sure : goal.returns-in-Begin-clause-sure
returns-in-Begin-clause-sure c = rw c.in-Begin.is c.end_if_named.ensures.sure

pub returns-in-EndSession-clause-sure : goal.returns-in-EndSession-clause-sure
returns-in-EndSession-clause-sure c = rw c.in-EndSession.is c.end_records.ensures.sure

pub returns-in-DropTree-clause-sure : goal.returns-in-DropTree-clause-sure
returns-in-DropTree-clause-sure c = rw c.in-DropTree.is (λ h. absurd (true_not h))
