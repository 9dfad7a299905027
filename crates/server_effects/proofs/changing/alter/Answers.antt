use Rattle.std.proofs.Common.{subst, sym, ◌∙◌}
use Rattle.wire_commands.specs.values.Meaning.{message_of}
use Rattle.spec_exchange.specs.CheckOpen.{file_of}
use Rattle.spec_exchange.specs.Effects.{change_file}
use Rattle.spec_exchange.specs.State.{Server}
use Rattle.server_checks.specs.Shown.{TablesShown}
use Rattle.server_checks.specs.declared.tables.Tables.{Tables}
use Rattle.server_effects.proofs.Changed.{changed_standing, changed_tables, reach_changed}
use Rattle.server_effects.proofs.Steps.{config_kept, logons_kept, tree_config_kept, tree_logons_kept}
use Rattle.server_effects.proofs.changing.alter.Goals as goal

pub returns-clause-shows : goal.returns-clause-shows
returns-clause-shows c = λ s ch f h fs a r acts.
    let g = file_of s c.args.id in
    let files = c.change_file.ensures.shows s ch h.opens a.0 (f.open_files c.args.id a.0) a.1 r a.2 fs in
    let changed = subst (λ (t : Tables). TablesShown t (change_file s g c.args.now ch)) (sym c.change_file.ensures.kept)
    (changed_tables c.args.t.now c.change_file.new.t.tree s g c.args.now ch h files) in
    record {
      shows = subst (λ (v : Server). TablesShown c.reach.new.t v) (reach_changed s (message_of c.args.m.now) c.args.id g c.args.now ch)
          (c.reach.ensures.shows (change_file s g c.args.now ch) changed (changed_standing s g c.args.now c.args.id ch a.0));
      reply = c.answer_with.ensures.reply;
      acted = c.answer_with.ensures.acted_is ∙ acts;
    }

pub returns-clause-bare : goal.returns-clause-bare
returns-clause-bare c = c.answer_with.ensures.bare

pub returns-clause-config : goal.returns-clause-config
returns-clause-config c = config_kept c.change_file.new.t c.reach.new.t _ c.reach.ensures.kept
    ∙ tree_config_kept c.args.t.now c.change_file.new.t _ c.change_file.ensures.kept

pub returns-clause-logons : goal.returns-clause-logons
returns-clause-logons c = λ keys pending k. logons_kept c.change_file.new.t c.reach.new.t _ c.reach.ensures.kept keys pending
    (tree_logons_kept c.args.t.now c.change_file.new.t _ c.change_file.ensures.kept keys pending k)
