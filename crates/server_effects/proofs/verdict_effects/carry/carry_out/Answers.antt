use Rattle.std.proofs.Common.{subst, sym, ◌∙◌}
use Rattle.wire_commands.specs.values.Meaning.{command_of, message_of}
use Rattle.server_effects.proofs.verdict_effects.Arms.{ArmShows}
use Rattle.server_effects.proofs.verdict_effects.Whole.{whole}
use Rattle.server_effects.specs.verdict_effects.Beside.{Beside}
use Rattle.server_effects.specs.reserved.Readied.{reserved_changed, found_of}
use Rattle.server_effects.specs.reserved.Room.{RoomFor}
use Rattle.server_effects.specs.declared.reserved.ready.Ready.{Ready}
use Rattle.server_effects.proofs.verdict_effects.carry.carry_out.Goals as goal

pub returns-in-Refuse-clause-shows : goal.returns-in-Refuse-clause-shows
returns-in-Refuse-clause-shows c = λ s f i a. subst (λ (r : Ready). ArmShows c.args.t.now c.args.t.now c.quiet.result s
    (message_of c.args.m.now) c.args.now (command_of c.args.m.now.command) r) (sym c.in-Refuse.is)
    (λ j b. record { shows = whole c.args.t.now s j.others j.files; reply = c.quiet.ensures.reply; acted = c.quiet.ensures.acted_is }) i a

pub returns-in-Give-clause-shows : goal.returns-in-Give-clause-shows
returns-in-Give-clause-shows c = λ s f i a. subst (λ (r : Ready). ArmShows c.args.t.now c.args.t.now c.quiet-in-Give.result s
    (message_of c.args.m.now) c.args.now (command_of c.args.m.now.command) r) (sym c.in-Give.is)
    (λ j b. record {
      shows = whole c.args.t.now s j.others j.files;
      reply = c.quiet-in-Give.ensures.reply;
      acted = c.quiet-in-Give.ensures.acted_is;
    }) i a

pub returns-in-KeepRefusal-clause-shows : goal.returns-in-KeepRefusal-clause-shows
returns-in-KeepRefusal-clause-shows c = λ s f i a. subst (λ (r : Ready). ArmShows c.args.t.now c.keep_refusal.new.t c.keep_refusal.result s
    (message_of c.args.m.now) c.args.now (command_of c.args.m.now.command) r) (sym c.in-KeepRefusal.is)
    (λ j b. c.keep_refusal.ensures.shows c.args.now s f (whole c.args.t.now s j.others j.files) b) i a

pub returns-in-KeepRefusal-clause-config : goal.returns-in-KeepRefusal-clause-config
returns-in-KeepRefusal-clause-config c = c.keep_refusal.ensures.config

pub returns-in-Repeat-clause-shows : goal.returns-in-Repeat-clause-shows
returns-in-Repeat-clause-shows c = λ s f i a. subst (λ (r : Ready). ArmShows c.args.t.now c.repeat.new.t c.repeat.result s
    (message_of c.args.m.now) c.args.now (command_of c.args.m.now.command) r) (sym c.in-Repeat.is)
    (λ j b. c.repeat.ensures.shows c.args.now s f (whole c.args.t.now s j.others j.files) b) i a

pub returns-in-Repeat-clause-config : goal.returns-in-Repeat-clause-config
returns-in-Repeat-clause-config c = c.repeat.ensures.config

pub returns-in-Attach-clause-shows : goal.returns-in-Attach-clause-shows
returns-in-Attach-clause-shows c = λ s f i a. subst (λ (r : Ready). ArmShows c.args.t.now c.attach.new.t c.attach.result s
    (message_of c.args.m.now) c.args.now (command_of c.args.m.now.command) r) (sym c.in-Attach.is)
    (λ j b. c.attach.ensures.shows c.args.now s f (whole c.args.t.now s j.others j.files) b) i a

pub returns-in-Attach-clause-config : goal.returns-in-Attach-clause-config
returns-in-Attach-clause-config c = c.attach.ensures.config

pub returns-in-TurnDown-clause-shows : goal.returns-in-TurnDown-clause-shows
returns-in-TurnDown-clause-shows c = λ s f i a. subst (λ (r : Ready). ArmShows c.args.t.now c.turn_down.new.t c.turn_down.result s
    (message_of c.args.m.now) c.args.now (command_of c.args.m.now.command) r) (sym c.in-TurnDown.is)
    (λ j b. c.turn_down.ensures.shows c.args.now s f (whole c.args.t.now s j.others j.files) b) i a

pub returns-in-TurnDown-clause-config : goal.returns-in-TurnDown-clause-config
returns-in-TurnDown-clause-config c = c.turn_down.ensures.config

pub returns-in-Tell-clause-shows : goal.returns-in-Tell-clause-shows
returns-in-Tell-clause-shows c = λ s f i a. subst (λ (r : Ready). ArmShows c.args.t.now c.tell.new.t c.tell.result s
    (message_of c.args.m.now) c.args.now (command_of c.args.m.now.command) r) (sym c.in-Tell.is)
    (λ j b. c.tell.ensures.shows c.args.now s f (whole c.args.t.now s j.others j.files) b) i a

pub returns-in-Tell-clause-config : goal.returns-in-Tell-clause-config
returns-in-Tell-clause-config c = c.tell.ensures.config

pub returns-in-Show-clause-shows : goal.returns-in-Show-clause-shows
returns-in-Show-clause-shows c = λ s f i a. subst (λ (r : Ready). ArmShows c.args.t.now c.show.new.t c.show.result s
    (message_of c.args.m.now) c.args.now (command_of c.args.m.now.command) r) (sym c.in-Show.is)
    (λ j b. c.show.ensures.shows c.args.now s f (whole c.args.t.now s j.others j.files) b) i a

pub returns-in-Seek-clause-shows : goal.returns-in-Seek-clause-shows
returns-in-Seek-clause-shows c = λ s f i a. subst (λ (r : Ready). ArmShows c.args.t.now c.seek.new.t c.seek.result s
    (message_of c.args.m.now) c.args.now (command_of c.args.m.now.command) r) (sym c.in-Seek.is)
    (λ j b. c.seek.ensures.shows c.args.now s f (whole c.args.t.now s j.others j.files) b) i a

pub returns-in-Show-clause-config : goal.returns-in-Show-clause-config
returns-in-Show-clause-config c = c.show.ensures.config

pub returns-in-Seek-clause-config : goal.returns-in-Seek-clause-config
returns-in-Seek-clause-config c = c.seek.ensures.config

pub returns-in-KeepSlot-clause-shows : goal.returns-in-KeepSlot-clause-shows
returns-in-KeepSlot-clause-shows c = λ s f i a. subst (λ (r : Ready). ArmShows c.args.t.now c.keep_slot.new.t c.keep_slot.result s
    (message_of c.args.m.now) c.args.now (command_of c.args.m.now.command) r) (sym c.in-KeepSlot.is)
    (λ j b. c.keep_slot.ensures.shows c.args.now s f (whole c.args.t.now s j.others j.files) b) i a

pub returns-in-KeepSlot-clause-config : goal.returns-in-KeepSlot-clause-config
returns-in-KeepSlot-clause-config c = c.keep_slot.ensures.config

pub returns-in-PutRanges-clause-shows : goal.returns-in-PutRanges-clause-shows
returns-in-PutRanges-clause-shows c = λ s f i a. subst (λ (r : Ready). ArmShows c.args.t.now c.put_ranges.new.t c.put_ranges.result s
    (message_of c.args.m.now) c.args.now (command_of c.args.m.now.command) r) (sym c.in-PutRanges.is)
    (λ j b. c.put_ranges.ensures.shows c.args.now s f (whole c.args.t.now s j.others j.files) b) i a

pub returns-in-PutRanges-clause-config : goal.returns-in-PutRanges-clause-config
returns-in-PutRanges-clause-config c = c.put_ranges.ensures.config

pub returns-in-CloseOpen-clause-shows : goal.returns-in-CloseOpen-clause-shows
returns-in-CloseOpen-clause-shows c = λ s f i a. subst (λ (r : Ready). ArmShows c.args.t.now c.close_open.new.t c.close_open.result s
    (message_of c.args.m.now) c.args.now (command_of c.args.m.now.command) r) (sym c.in-CloseOpen.is)
    (λ j b. c.close_open.ensures.shows c.args.now s f (whole c.args.t.now s j.others j.files) b) i a

pub returns-in-CloseOpen-clause-config : goal.returns-in-CloseOpen-clause-config
returns-in-CloseOpen-clause-config c = c.close_open.ensures.config

pub returns-in-AddTree-clause-shows : goal.returns-in-AddTree-clause-shows
returns-in-AddTree-clause-shows c = λ s f i a. subst (λ (r : Ready). ArmShows c.args.t.now c.add_tree.new.t c.add_tree.result s
    (message_of c.args.m.now) c.args.now (command_of c.args.m.now.command) r) (sym c.in-AddTree.is)
    (λ j b. c.add_tree.ensures.shows c.args.now s f (whole c.args.t.now s j.others j.files) b) i a

pub returns-in-AddTree-clause-config : goal.returns-in-AddTree-clause-config
returns-in-AddTree-clause-config c = c.add_tree.ensures.config

pub returns-in-DropTree-clause-shows : goal.returns-in-DropTree-clause-shows
returns-in-DropTree-clause-shows c = λ s f i a. subst (λ (r : Ready). ArmShows c.args.t.now c.drop_tree.new.t c.drop_tree.result s
    (message_of c.args.m.now) c.args.now (command_of c.args.m.now.command) r) (sym c.in-DropTree.is)
    (λ j b. c.drop_tree.ensures.shows c.args.now s f (whole c.args.t.now s j.others j.files) (c.as_slice.ensures.value ∙ j.stands)) i a

pub returns-in-DropTree-clause-config : goal.returns-in-DropTree-clause-config
returns-in-DropTree-clause-config c = c.drop_tree.ensures.config

pub returns-in-EndSession-clause-shows : goal.returns-in-EndSession-clause-shows
returns-in-EndSession-clause-shows c = λ s f i a.
    subst (λ (r : Ready). ArmShows c.args.t.now c.end_by_message.new.t c.end_by_message.result s
    (message_of c.args.m.now) c.args.now (command_of c.args.m.now.command) r) (sym c.in-EndSession.is)
    (λ j b. c.end_by_message.ensures.shows s f (whole c.args.t.now s j.others j.files) b) i a

pub returns-in-EndSession-clause-config : goal.returns-in-EndSession-clause-config
returns-in-EndSession-clause-config c = c.end_by_message.ensures.config

pub returns-in-Make-clause-shows : goal.returns-in-Make-clause-shows
returns-in-Make-clause-shows c = λ s f i a. subst (λ (r : Ready). ArmShows c.args.t.now c.make.new.t c.make.result s
    (message_of c.args.m.now) c.args.now (command_of c.args.m.now.command) r) (sym c.in-Make.is)
    (λ j b. c.make.ensures.shows s (found_of c.in-Make.file) c.in-Make.row.action f j.others j.stands.0 j.stands.1 b) i a

pub returns-in-Make-clause-config : goal.returns-in-Make-clause-config
returns-in-Make-clause-config c = c.make.ensures.config

pub returns-in-Alter-clause-shows : goal.returns-in-Alter-clause-shows
returns-in-Alter-clause-shows c = λ s f i a. subst (λ (r : Ready). ArmShows c.args.t.now c.alter.new.t c.alter.result s
    (message_of c.args.m.now) c.args.now (command_of c.args.m.now.command) r) (sym c.in-Alter.is)
    (λ j b. c.alter.ensures.shows s (reserved_changed (command_of c.args.m.now.command) c.in-Alter.change) f j.others j.files b
    j.stands.0 j.stands.1) i a

pub returns-in-Alter-clause-config : goal.returns-in-Alter-clause-config
returns-in-Alter-clause-config c = c.alter.ensures.config

pub returns-in-Setup-clause-shows : goal.returns-in-Setup-clause-shows
returns-in-Setup-clause-shows c = λ s f i a. subst (λ (r : Ready). ArmShows c.args.t.now c.set_up.new.t c.set_up.result s
    (message_of c.args.m.now) c.args.now (command_of c.args.m.now.command) r) (sym c.in-Setup.is)
    (λ j b. c.set_up.ensures.shows s f (whole c.args.t.now s j.others j.files) j.stands b) i a

pub returns-in-Setup-clause-config : goal.returns-in-Setup-clause-config
returns-in-Setup-clause-config c = c.set_up.ensures.config

pub keep_refusal-requires : goal.keep_refusal-requires
keep_refusal-requires c =
    subst (λ (r : Ready). RoomFor c.args.t.now c.args.m.now.session_id c.args.m.now.connection r) c.in-KeepRefusal.is c.requires

pub repeat-requires : goal.repeat-requires
repeat-requires c =
    subst (λ (r : Ready). RoomFor c.args.t.now c.args.m.now.session_id c.args.m.now.connection r) c.in-Repeat.is c.requires

pub attach-requires : goal.attach-requires
attach-requires c =
    subst (λ (r : Ready). RoomFor c.args.t.now c.args.m.now.session_id c.args.m.now.connection r) c.in-Attach.is c.requires

pub set_up-requires : goal.set_up-requires
set_up-requires c =
    subst (λ (r : Ready). RoomFor c.args.t.now c.args.m.now.session_id c.args.m.now.connection r) c.in-Setup.is c.requires

pub add_tree-requires : goal.add_tree-requires
add_tree-requires c =
    subst (λ (r : Ready). RoomFor c.args.t.now c.args.m.now.session_id c.args.m.now.connection r) c.in-AddTree.is c.requires

pub make-requires-clause-file : goal.make-requires-clause-file
make-requires-clause-file c =
    (subst (λ (r : Ready). RoomFor c.args.t.now c.args.m.now.session_id c.args.m.now.connection r) c.in-Make.is c.requires).0

pub make-requires-clause-row : goal.make-requires-clause-row
make-requires-clause-row c =
    let r = subst (λ (r : Ready). RoomFor c.args.t.now c.args.m.now.session_id c.args.m.now.connection r) c.in-Make.is c.requires in
    (r.1, r.2, r.3)

pub returns-in-Refuse-clause-beside : goal.returns-in-Refuse-clause-beside
returns-in-Refuse-clause-beside c =
    subst (λ (r : Ready). Beside c.args.t.now c.args.t.now c.quiet.result (message_of c.args.m.now) r) (sym c.in-Refuse.is)
    (c.quiet.ensures.bare, λ keys pending k. k)

pub returns-in-Give-clause-beside : goal.returns-in-Give-clause-beside
returns-in-Give-clause-beside c =
    subst (λ (r : Ready). Beside c.args.t.now c.args.t.now c.quiet-in-Give.result (message_of c.args.m.now) r) (sym c.in-Give.is)
    (c.quiet-in-Give.ensures.bare, λ keys pending k. k)

pub returns-in-KeepRefusal-clause-beside : goal.returns-in-KeepRefusal-clause-beside
returns-in-KeepRefusal-clause-beside c =
    subst (λ (r : Ready). Beside c.args.t.now c.keep_refusal.new.t c.keep_refusal.result (message_of c.args.m.now) r)
    (sym c.in-KeepRefusal.is) (c.keep_refusal.ensures.bare, c.keep_refusal.ensures.logons)

pub returns-in-Repeat-clause-beside : goal.returns-in-Repeat-clause-beside
returns-in-Repeat-clause-beside c =
    subst (λ (r : Ready). Beside c.args.t.now c.repeat.new.t c.repeat.result (message_of c.args.m.now) r) (sym c.in-Repeat.is)
    (c.repeat.ensures.bare, c.repeat.ensures.logons)

pub returns-in-Attach-clause-beside : goal.returns-in-Attach-clause-beside
returns-in-Attach-clause-beside c =
    subst (λ (r : Ready). Beside c.args.t.now c.attach.new.t c.attach.result (message_of c.args.m.now) r) (sym c.in-Attach.is)
    (c.attach.ensures.bare, c.attach.ensures.logons)

pub returns-in-TurnDown-clause-beside : goal.returns-in-TurnDown-clause-beside
returns-in-TurnDown-clause-beside c =
    subst (λ (r : Ready). Beside c.args.t.now c.turn_down.new.t c.turn_down.result (message_of c.args.m.now) r) (sym c.in-TurnDown.is)
    (c.turn_down.ensures.bare, c.turn_down.ensures.logons)

pub returns-in-Tell-clause-beside : goal.returns-in-Tell-clause-beside
returns-in-Tell-clause-beside c =
    subst (λ (r : Ready). Beside c.args.t.now c.tell.new.t c.tell.result (message_of c.args.m.now) r) (sym c.in-Tell.is)
    (c.tell.ensures.bare, c.tell.ensures.logons)

pub returns-in-Show-clause-beside : goal.returns-in-Show-clause-beside
returns-in-Show-clause-beside c =
    subst (λ (r : Ready). Beside c.args.t.now c.show.new.t c.show.result (message_of c.args.m.now) r) (sym c.in-Show.is)
    (c.show.ensures.bare, c.show.ensures.logons)

pub returns-in-Seek-clause-beside : goal.returns-in-Seek-clause-beside
returns-in-Seek-clause-beside c =
    subst (λ (r : Ready). Beside c.args.t.now c.seek.new.t c.seek.result (message_of c.args.m.now) r) (sym c.in-Seek.is)
    (c.seek.ensures.bare, c.seek.ensures.logons)

pub returns-in-KeepSlot-clause-beside : goal.returns-in-KeepSlot-clause-beside
returns-in-KeepSlot-clause-beside c =
    subst (λ (r : Ready). Beside c.args.t.now c.keep_slot.new.t c.keep_slot.result (message_of c.args.m.now) r) (sym c.in-KeepSlot.is)
    (c.keep_slot.ensures.bare, c.keep_slot.ensures.logons)

pub returns-in-PutRanges-clause-beside : goal.returns-in-PutRanges-clause-beside
returns-in-PutRanges-clause-beside c =
    subst (λ (r : Ready). Beside c.args.t.now c.put_ranges.new.t c.put_ranges.result (message_of c.args.m.now) r) (sym c.in-PutRanges.is)
    (c.put_ranges.ensures.bare, c.put_ranges.ensures.logons)

pub returns-in-CloseOpen-clause-beside : goal.returns-in-CloseOpen-clause-beside
returns-in-CloseOpen-clause-beside c =
    subst (λ (r : Ready). Beside c.args.t.now c.close_open.new.t c.close_open.result (message_of c.args.m.now) r) (sym c.in-CloseOpen.is)
    (c.close_open.ensures.bare, c.close_open.ensures.logons)

pub returns-in-AddTree-clause-beside : goal.returns-in-AddTree-clause-beside
returns-in-AddTree-clause-beside c =
    subst (λ (r : Ready). Beside c.args.t.now c.add_tree.new.t c.add_tree.result (message_of c.args.m.now) r) (sym c.in-AddTree.is)
    (c.add_tree.ensures.bare, c.add_tree.ensures.logons)

pub returns-in-DropTree-clause-beside : goal.returns-in-DropTree-clause-beside
returns-in-DropTree-clause-beside c =
    subst (λ (r : Ready). Beside c.args.t.now c.drop_tree.new.t c.drop_tree.result (message_of c.args.m.now) r) (sym c.in-DropTree.is)
    (c.drop_tree.ensures.bare, c.drop_tree.ensures.logons)

pub returns-in-EndSession-clause-beside : goal.returns-in-EndSession-clause-beside
returns-in-EndSession-clause-beside c =
    subst (λ (r : Ready). Beside c.args.t.now c.end_by_message.new.t c.end_by_message.result (message_of c.args.m.now) r)
    (sym c.in-EndSession.is) (c.end_by_message.ensures.bare, c.end_by_message.ensures.logons)

pub returns-in-Make-clause-beside : goal.returns-in-Make-clause-beside
returns-in-Make-clause-beside c =
    subst (λ (r : Ready). Beside c.args.t.now c.make.new.t c.make.result (message_of c.args.m.now) r) (sym c.in-Make.is)
    (c.make.ensures.bare, c.make.ensures.logons)

pub returns-in-Alter-clause-beside : goal.returns-in-Alter-clause-beside
returns-in-Alter-clause-beside c =
    subst (λ (r : Ready). Beside c.args.t.now c.alter.new.t c.alter.result (message_of c.args.m.now) r) (sym c.in-Alter.is)
    (c.alter.ensures.bare, c.alter.ensures.logons)

pub returns-in-Setup-clause-beside : goal.returns-in-Setup-clause-beside
returns-in-Setup-clause-beside c =
    subst (λ (r : Ready). Beside c.args.t.now c.set_up.new.t c.set_up.result (message_of c.args.m.now) r) (sym c.in-Setup.is)
    c.set_up.ensures.beside
