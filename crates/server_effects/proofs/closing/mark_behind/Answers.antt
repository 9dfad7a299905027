use Rattle.std.proofs.Common.{ℕ, true, subst, sym}
use Rattle.spec_exchange.specs.Files.{set_delete_pending}
use Rattle.store_files.specs.file_tree.Shown.{ShowsFiles}
use Rattle.server_effects.proofs.Closes.{never_pending, pending_tables}
use Rattle.server_effects.proofs.closing.mark_behind.Goals as goal

pub returns-then-not-is_deleting-clause-shows : goal.returns-then-not-is_deleting-clause-shows
returns-then-not-is_deleting-clause-shows c = λ s h st. never_pending c.args.t.now s c.args.id (sym
    (c.if-not-is_deleting.ensures s h st)) h

pub returns-clause-shows : goal.returns-clause-shows
returns-clause-shows c = λ s h st. pending_tables c.args.t.now c.mark.new.self s c.args.id (sym (c.if-not-is_deleting.ensures s h st)) h
    (subst (λ (z : ℕ). ShowsFiles c.mark.new.self (set_delete_pending s z true)) (c.file_of-file.ensures.shown s h.opens st)
    (c.mark.ensures.shown s h.files))
