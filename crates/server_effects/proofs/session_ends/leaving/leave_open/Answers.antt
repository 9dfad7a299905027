use Rattle.spec_exchange.specs.Commands.{deletes_on_close}
use Rattle.spec_exchange.specs.Files.{set_delete_pending}
use Rattle.spec_exchange.specs.Opens.{drop_open, left_file}
use Rattle.std.proofs.Common.{true}
use Rattle.server_checks.specs.Shown.{TablesShown}
use Rattle.law_server.proofs.tables.FileEffects.{set_delete_pending_keeps}
use Rattle.law_server.proofs.tables.Logic.{either}
use Rattle.server_effects.proofs.session_ends.Pieces.{exists_marked, of_three, parting}
use Rattle.server_effects.proofs.session_ends.leaving.leave_open.Goals as goal

pub returns-clause-shows : goal.returns-clause-shows
returns-clause-shows c = λ s f h st.
    let g = (s.opened c.args.id).file in
    let e = c.file_of-file.ensures.shown s h.opens st in
    let there = f.open_files c.args.id st in
    either (λ u. TablesShown c.mark_behind.new.t u → TablesShown c.part.new.t (left_file (drop_open u c.args.id) g))
    (deletes_on_close (s.opened c.args.id).options) (set_delete_pending s g true) s
    (λ d k. parting c.leave.new.t c.part.new.t (set_delete_pending s g true) c.args.id g c.file_of-file.result e
    (exists_marked s g g there)
    (c.leave.ensures.shows (set_delete_pending s g true) (set_delete_pending_keeps s g true (λ _. f.not_root c.args.id d) f) k st)
    c.part.ensures.shows)
    (λ _ k. parting c.leave.new.t c.part.new.t s c.args.id g c.file_of-file.result e there (c.leave.ensures.shows s f k st)
    c.part.ensures.shows)
    (c.mark_behind.ensures.shows s h st)

pub returns-clause-kept : goal.returns-clause-kept
returns-clause-kept c = of_three c.args.t.now c.mark_behind.new.t c.leave.new.t c.part.new.t _ _ _ c.mark_behind.ensures.kept
    c.leave.ensures.kept c.part.ensures.kept
