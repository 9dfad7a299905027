use Rattle.std.proofs.Common.{true, ◌∙◌}
use Rattle.spec_exchange.specs.Commands.{deletes_on_close}
use Rattle.spec_exchange.specs.Effects.{keep_closed}
use Rattle.spec_exchange.specs.Files.{set_delete_pending}
use Rattle.spec_exchange.specs.Opens.{drop_open, left_file}
use Rattle.server_checks.specs.Shown.{TablesShown}
use Rattle.law_server.proofs.tables.FileEffects.{set_delete_pending_keeps}
use Rattle.law_server.proofs.tables.Logic.{either}
use Rattle.server_effects.proofs.Closes.{closing, exists_marked}
use Rattle.server_effects.proofs.Steps.{config_kept, logons_kept, tree_config_kept, tree_logons_kept}
use Rattle.server_effects.proofs.closing.close_one.Goals as goal

pub returns-clause-shows : goal.returns-clause-shows
returns-clause-shows c = λ s x f h st own.
    let e = c.file_of-file.ensures.shown s h.opens st in
    let there = f.open_files c.args.id st in
    either (λ u. TablesShown c.mark_behind.new.t u
    → TablesShown c.part.new.t (keep_closed (left_file (drop_open u c.args.id) (s.opened c.args.id).file) x
    (s.opened c.args.id).create_guid))
    (deletes_on_close (s.opened c.args.id).options) (set_delete_pending s (s.opened c.args.id).file true) s
    (λ d k. closing c.shut.new.t c.part.new.t (set_delete_pending s (s.opened c.args.id).file true) c.args.id x
    (s.opened c.args.id).file c.file_of-file.result (s.opened c.args.id).create_guid e
    (exists_marked s (s.opened c.args.id).file (s.opened c.args.id).file there)
    (c.shut.ensures.shows (set_delete_pending s (s.opened c.args.id).file true) x
    (set_delete_pending_keeps s (s.opened c.args.id).file true
    (λ _. f.not_root c.args.id d) f) k st own) c.part.ensures.shows)
    (λ _ k. closing c.shut.new.t c.part.new.t s c.args.id x (s.opened c.args.id).file c.file_of-file.result
    (s.opened c.args.id).create_guid e there
    (c.shut.ensures.shows s x f k st own) c.part.ensures.shows)
    (c.mark_behind.ensures.shows s h st)

pub returns-clause-config : goal.returns-clause-config
returns-clause-config c = tree_config_kept c.shut.new.t c.part.new.t _ c.part.ensures.kept
    ∙ (config_kept c.mark_behind.new.t c.shut.new.t _ c.shut.ensures.kept
    ∙ tree_config_kept c.args.t.now c.mark_behind.new.t _ c.mark_behind.ensures.kept)

pub returns-clause-logons : goal.returns-clause-logons
returns-clause-logons c = λ keys pending k. tree_logons_kept c.shut.new.t c.part.new.t _ c.part.ensures.kept keys pending
    (logons_kept c.mark_behind.new.t c.shut.new.t _ c.shut.ensures.kept keys pending
    (tree_logons_kept c.args.t.now c.mark_behind.new.t _ c.mark_behind.ensures.kept keys pending k))
