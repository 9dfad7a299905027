use Rattle.std.proofs.Common.{ℕ, List, ap, sym, ◌∙◌}
use Rattle.wire_commands.specs.values.Meaning.{command_of, message_of}
use Rattle.wire_commands.specs.declared.values.command.Command.{Command}
use Rattle.spec_exchange.specs.CheckOpen.{list_check, lock_check}
use Rattle.spec_exchange.specs.Commands.{form}
use Rattle.spec_exchange.specs.Table.{is_filled}
use Rattle.server_checks.proofs.Commands.{filled_lock}
use Rattle.server_checks.proofs.Dispatch.{short_of}
use Rattle.server_checks.proofs.Passed.{passed}
use Rattle.server_checks.specs.Looks.{open_command}
use Rattle.server_checks.specs.verdicts.Views.{bytes_in, elements_in, path_in, verdict_of}
use Rattle.server_checks.proofs.tables.Tables.check_on_open.Goals as goal

pub returns-in-Close : goal.returns-in-Close
returns-in-Close c = λ s f t e st. c.check_close.ensures (command_of c.args.m.now.command) s f t st
    ∙ sym (ap (λ (z : Command). open_command s (message_of c.args.m.now) c.args.id (command_of z)) c.in-Close.is)

pub returns-in-Flush : goal.returns-in-Flush
returns-in-Flush c = λ s f t e st. c.check_flush.ensures (command_of c.args.m.now.command) s t st
    ∙ sym (ap (λ (z : Command). open_command s (message_of c.args.m.now) c.args.id (command_of z)) c.in-Flush.is)

pub returns-in-Read : goal.returns-in-Read
returns-in-Read c = λ s f t e st. passed c.check_read.result (verdict_of (command_of c.args.m.now.command)) _ _
    (sym (ap (λ (z : Command). open_command s (message_of c.args.m.now) c.args.id (command_of z)) c.in-Read.is))
    (c.check_read.ensures (command_of c.args.m.now.command) s f t st)

pub returns-in-Write : goal.returns-in-Write
returns-in-Write c = λ s f t e st. passed c.check_write.result (verdict_of (command_of c.args.m.now.command)) _ _
    (sym (ap (λ (z : Command). open_command s (message_of c.args.m.now) c.args.id (command_of z)) c.in-Write.is))
    (c.check_write.ensures s f t st (ap (λ (z : Command). bytes_in (command_of z)) c.in-Write.is)
    (short_of c.args.m.now.command _ _ _ _ c.in-Write.is e))

pub returns-in-Lock : goal.returns-in-Lock
returns-in-Lock c = λ s f t e st.
    let v = c.deref.ensures.value in
    let filled = ap is_filled v ∙ filled_lock c.in-Lock.elements.items (sym (ap (λ (z : Command). form (command_of z)) c.in-Lock.is) ∙ e) in
    let named = ap (λ (z : Command). elements_in (command_of z)) c.in-Lock.is ∙ sym v in
    passed c.check_lock.result (verdict_of (command_of c.args.m.now.command)) _ _
    (ap (lock_check s c.args.id c.in-Lock.index c.in-Lock.number) v
    ∙ sym (ap (λ (z : Command). open_command s (message_of c.args.m.now) c.args.id (command_of z)) c.in-Lock.is))
    (c.check_lock.ensures (command_of c.args.m.now.command) s f t st filled named)

pub returns-in-Ioctl : goal.returns-in-Ioctl
returns-in-Ioctl c = λ s f t e st. c.check_ioctl.ensures (command_of c.args.m.now.command) s t st
    ∙ sym (ap (λ (z : Command). open_command s (message_of c.args.m.now) c.args.id (command_of z)) c.in-Ioctl.is)

pub returns-in-ListDirectory : goal.returns-in-ListDirectory
returns-in-ListDirectory c = λ s f t e st. passed c.check_list.result (verdict_of (command_of c.args.m.now.command)) _ _
    (ap (λ (p : List ℕ). list_check s c.args.id c.in-ListDirectory.class c.in-ListDirectory.restart c.in-ListDirectory.single p
    c.in-ListDirectory.room) c.as_str.ensures
    ∙ sym (ap (λ (z : Command). open_command s (message_of c.args.m.now) c.args.id (command_of z)) c.in-ListDirectory.is))
    (c.check_list.ensures (command_of c.args.m.now.command) s f t st)

pub returns-in-QueryFile : goal.returns-in-QueryFile
returns-in-QueryFile c = λ s f t e st. passed c.check_file_query.result (verdict_of (command_of c.args.m.now.command)) _ _
    (sym (ap (λ (z : Command). open_command s (message_of c.args.m.now) c.args.id (command_of z)) c.in-QueryFile.is))
    (c.check_file_query.ensures (command_of c.args.m.now.command) s f t st)

pub returns-in-QueryVolume : goal.returns-in-QueryVolume
returns-in-QueryVolume c = λ s f t e st. c.check_volume_query.ensures (command_of c.args.m.now.command) s t
    ∙ sym (ap (λ (z : Command). open_command s (message_of c.args.m.now) c.args.id (command_of z)) c.in-QueryVolume.is)

pub returns-in-SetInfo : goal.returns-in-SetInfo
returns-in-SetInfo c = λ s f t e st. passed c.check_set.result (verdict_of (command_of c.args.m.now.command)) _ _
    (sym (ap (λ (z : Command). open_command s (message_of c.args.m.now) c.args.id (command_of z)) c.in-SetInfo.is))
    (c.check_set.ensures s f t st (ap (λ (z : Command). path_in (command_of z)) c.in-SetInfo.is))
