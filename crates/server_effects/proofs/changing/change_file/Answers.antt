use Rattle.std.proofs.Common.{◌≡◌, ℕ, true, subst}
use Rattle.wire_commands.specs.values.Meaning.{command_of}
use Rattle.spec_exchange.specs.CheckOpen.{file_of}
use Rattle.spec_exchange.specs.Effects.{change_file}
use Rattle.spec_exchange.specs.Files.{exists}
use Rattle.store_files.specs.file_tree.Shown.{ShowsFiles}
use Rattle.server_effects.proofs.Changed.{basic_put, bytes_put, end_put, nothing_put, path_put, pending_put}
use Rattle.server_effects.specs.Able.{AbleToChange}
use Rattle.server_effects.specs.Ready.{ChangeFor}
use Rattle.server_effects.proofs.changing.change_file.Goals as goal

pub returns-in-PutBytes-clause-shows : goal.returns-in-PutBytes-clause-shows
returns-in-PutBytes-clause-shows c = λ s ch o st x a r i h. let f = file_of s c.args.id in
    bytes_put c.args.t.now c.finish_write.new.self s f c.args.now
    (command_of c.args.m.now.command) c.in-PutBytes.bytes c.bytes_of.result.now ch a (rw c.in-PutBytes.is at r) i c.bytes_of.ensures
    (λ p can d room. c.finish_write.ensures.shown s f p (rw c.in-PutBytes.is at h) can x d room)

pub returns-in-PutEnd-clause-shows : goal.returns-in-PutEnd-clause-shows
returns-in-PutEnd-clause-shows c = λ s ch o st x a r i h.
    subst (λ (f : ℕ). exists s f ≡ true → AbleToChange s f ch → ChangeFor c.args.t.now s f c.args.change ch
    → ShowsFiles c.end.new.self (change_file s f c.args.now ch)) (c.file_of.ensures.shown s o st)
    (λ x a r. end_put c.args.t.now c.end.new.self s c.file_of.result c.args.now c.in-PutEnd.size ch a
    (rw c.in-PutEnd.is at r) (c.end.ensures.shown s (rw c.in-PutEnd.is at h) x)) x a r

pub returns-in-PutBasic-clause-shows : goal.returns-in-PutBasic-clause-shows
returns-in-PutBasic-clause-shows c = λ s ch o st x a r i h.
    subst (λ (f : ℕ). exists s f ≡ true → AbleToChange s f ch → ChangeFor c.args.t.now s f c.args.change ch
    → ShowsFiles c.set_basic.new.self (change_file s f c.args.now ch)) (c.file_of-in-PutBasic.ensures.shown s o st)
    (λ x a r. basic_put c.args.t.now c.set_basic.new.self s c.file_of-in-PutBasic.result c.args.now
    c.in-PutBasic.basic ch (rw c.in-PutBasic.is at r) (c.set_basic.ensures.shown s (rw c.in-PutBasic.is at h))) x a r

pub returns-in-PutDeletePending-clause-shows : goal.returns-in-PutDeletePending-clause-shows
returns-in-PutDeletePending-clause-shows c = λ s ch o st x a r i h.
    subst (λ (f : ℕ). exists s f ≡ true → AbleToChange s f ch → ChangeFor c.args.t.now s f c.args.change ch
    → ShowsFiles c.mark.new.self (change_file s f c.args.now ch)) (c.file_of-in-PutDeletePending.ensures.shown s o st)
    (λ x a r. pending_put c.args.t.now c.mark.new.self s c.file_of-in-PutDeletePending.result c.args.now
    c.in-PutDeletePending.pending ch (rw c.in-PutDeletePending.is at r)
    (c.mark.ensures.shown s (rw c.in-PutDeletePending.is at h))) x a r

pub returns-in-PutPath-clause-shows : goal.returns-in-PutPath-clause-shows
returns-in-PutPath-clause-shows c = λ s ch o st x a r i h. let f = file_of s c.args.id in
    path_put c.args.t.now c.finish_rename.new.self s f c.args.now
    c.in-PutPath.moved ch a (rw c.in-PutPath.is at r) (c.finish_rename.ensures.shown s f)

pub returns-in-PutNothing-clause-shows : goal.returns-in-PutNothing-clause-shows
returns-in-PutNothing-clause-shows c = λ s ch o st x a r i h. nothing_put c.args.t.now s (file_of s c.args.id) c.args.now ch
    (rw c.in-PutNothing.is at r) (rw c.in-PutNothing.is at h)
