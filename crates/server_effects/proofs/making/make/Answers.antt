use Rattle.std.proofs.Common.{◌<◌, ℕ, ap, subst, sym, ◌∙◌}
use Rattle.wire_commands.specs.values.Meaning.{command_of, message_of}
use Rattle.spec_exchange.specs.Effects.{create_reply, make_open}
use Rattle.spec_exchange.specs.State as model
use Rattle.spec_exchange.specs.Status.{success}
use Rattle.store_opens.specs.open_table.Rows.{parts_of}
use Rattle.store_opens.specs.open_table.Shown.{HasOpensRoom, HasRoomIn, ShowsOpens, next_of}
use Rattle.server_checks.specs.Shown.{TablesShown}
use Rattle.server_checks.specs.declared.tables.Tables.{Tables}
use Rattle.server_effects.proofs.Made.{found_is_file, made_standing, made_tables, made_there}
use Rattle.server_effects.proofs.Steps.{tree_config_kept, tree_logons_kept}
use Rattle.server_effects.proofs.Told.{said}
use Rattle.server_checks.specs.verdicts.Views.{create_in}
use Rattle.server_effects.proofs.making.make.Goals as goal

pub add-id-requires : goal.add-id-requires
add-id-requires c = subst (λ (t : Tables). HasOpensRoom t.opens × HasRoomIn t.opens c.args.row.session (next_of t.opens)
    c.args.row.persistent
    × (t.opens.given < 0xffff_ffff)) (sym c.put_file.ensures.kept) c.requires.row

pub returns-clause-shows : goal.returns-clause-shows
returns-clause-shows c = λ s found action f h file i a.
    let r = create_in (command_of c.args.m.now.command) in
    let m = message_of c.args.m.now in
    let files = c.put_file.ensures.shows s r found (found_is_file s r found action a.0) file in
    let added = c.add-id.ensures s (parts_of c.args.row) f
    (subst (λ (t : Tables). ShowsOpens t.opens s) (sym c.put_file.ensures.kept) h.opens) i.is_new in
    let shown = subst (λ (t : Tables). TablesShown (record t { opens = c.add-id.new.self }) (make_open s m r found action c.args.now))
    (sym c.put_file.ensures.kept)
    (made_tables c.args.t.now c.put_file.new.t.tree c.add-id.new.self s m r found action c.args.now c.args.row f h i files added.1) in
    let told = c.create_reply-body.ensures (make_open s m r found action c.args.now) r
    (made_there s m r found action c.args.now c.add-id.result a.0 added.0) shown
    (made_standing s m r found action c.args.now c.add-id.result added.0) c.asked.ensures in
    record {
      shows = shown;
      reply = c.acting.ensures.reply ∙ ap (said m success) (told
          ∙ (ap (λ (n : ℕ). create_reply (make_open s m r found action c.args.now) n r c.args.row.action) added.0
          ∙ ap (create_reply (make_open s m r found action c.args.now) _ r) (ap (λ (o : model.Open). o.action) i.opened_is)));
      acted = c.acting.ensures.acted_is;
    }

pub returns-clause-bare : goal.returns-clause-bare
returns-clause-bare c = c.acting.ensures.bare

pub returns-clause-config : goal.returns-clause-config
returns-clause-config c = tree_config_kept c.args.t.now c.put_file.new.t _ c.put_file.ensures.kept

pub returns-clause-logons : goal.returns-clause-logons
returns-clause-logons c = tree_logons_kept c.args.t.now c.put_file.new.t _ c.put_file.ensures.kept
