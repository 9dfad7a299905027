use Rattle.std.proofs.Common.{ℕ, List, ap, sym, ◌∙◌}
use Rattle.wire_commands.specs.values.Meaning.{command_of, message_of, setting_of}
use Rattle.wire_commands.specs.declared.values.command.Setting.{Setting}
use Rattle.spec_exchange.specs.CheckOpen.{setting_check}
use Rattle.spec_exchange.specs.Commands.{Rename}
use Rattle.server_checks.proofs.Passed.{passed}
use Rattle.server_checks.specs.verdicts.Views.{path_in_setting, verdict_of}
use Rattle.server_checks.proofs.tables.Tables.check_setting.Goals as goal

pub returns-in-SetBasic : goal.returns-in-SetBasic
returns-in-SetBasic c = λ s f t st p. c.check_basic.ensures (command_of c.args.m.now.command) s f t st
    ∙ sym (ap (λ (z : Setting). setting_check s (message_of c.args.m.now) c.args.id (setting_of z)) c.in-SetBasic.is)

pub returns-in-Rename : goal.returns-in-Rename
returns-in-Rename c = λ s f t st p.
    let q = p ∙ (ap (λ (z : Setting). path_in_setting (setting_of z)) c.in-Rename.is ∙ sym c.as_str.ensures) in
    passed c.check_rename.result (verdict_of (command_of c.args.m.now.command)) _ _
    (ap (λ (z : List ℕ). setting_check s (message_of c.args.m.now) c.args.id (Rename c.in-Rename.replace z)) c.as_str.ensures
    ∙ sym (ap (λ (z : Setting). setting_check s (message_of c.args.m.now) c.args.id (setting_of z)) c.in-Rename.is))
    (c.check_rename.ensures (command_of c.args.m.now.command) s f t st q)

pub returns-in-SetDelete : goal.returns-in-SetDelete
returns-in-SetDelete c = λ s f t st p. c.check_delete.ensures (command_of c.args.m.now.command) s f t st
    ∙ sym (ap (λ (z : Setting). setting_check s (message_of c.args.m.now) c.args.id (setting_of z)) c.in-SetDelete.is)

pub returns-in-SetAllocation : goal.returns-in-SetAllocation
returns-in-SetAllocation c = λ s f t st p. c.check_allocation.ensures (command_of c.args.m.now.command) s f t st
    ∙ sym (ap (λ (z : Setting). setting_check s (message_of c.args.m.now) c.args.id (setting_of z)) c.in-SetAllocation.is)

pub returns-in-SetEnd : goal.returns-in-SetEnd
returns-in-SetEnd c = λ s f t st p. c.check_end.ensures (command_of c.args.m.now.command) s f t st
    ∙ sym (ap (λ (z : Setting). setting_check s (message_of c.args.m.now) c.args.id (setting_of z)) c.in-SetEnd.is)

pub returns-in-SetPosition : goal.returns-in-SetPosition
returns-in-SetPosition c = λ s f t st p. c.seek.ensures (command_of c.args.m.now.command)
    ∙ sym (ap (λ (z : Setting). setting_check s (message_of c.args.m.now) c.args.id (setting_of z)) c.in-SetPosition.is)

pub returns-in-SetMode : goal.returns-in-SetMode
returns-in-SetMode c = λ s f t st p. c.told.ensures (command_of c.args.m.now.command)
    ∙ sym (ap (λ (z : Setting). setting_check s (message_of c.args.m.now) c.args.id (setting_of z)) c.in-SetMode.is)
