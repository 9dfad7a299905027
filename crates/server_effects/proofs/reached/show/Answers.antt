use Rattle.std.proofs.Common.{◌∙◌}
use Rattle.wire_commands.specs.values.Meaning.{message_of}
use Rattle.spec_exchange.specs.Table.{put}
use Rattle.server_checks.specs.Shown.{TablesShown}
use Rattle.server_effects.proofs.Steps.{config_kept, logons_kept, reached}
use Rattle.server_effects.proofs.reached.show.Goals as goal

pub returns-clause-shows : goal.returns-clause-shows
returns-clause-shows c = λ now s f h a. record {
  shows = reached (λ v. TablesShown c.reach.new.t v
      → TablesShown c.locate.new.t (record v {
        enumeration_location = put s.enumeration_location c.args.id c.args.last;
        current_byte_offset = s.current_byte_offset;
      })) s
      (message_of c.args.m.now) c.args.id
      (λ x. c.locate.ensures.shows s x a) (λ x. c.locate.ensures.shows
      (record s { sequence = put s.sequence c.args.id c.args.m.now.channel_sequence }) x a) (c.reach.ensures.shows s h a);
  reply = c.quiet.ensures.reply;
  acted = c.quiet.ensures.acted_is;
}

pub returns-clause-bare : goal.returns-clause-bare
returns-clause-bare c = c.quiet.ensures.bare

pub returns-clause-config : goal.returns-clause-config
returns-clause-config c = config_kept c.reach.new.t c.locate.new.t _ c.locate.ensures.kept
    ∙ (config_kept c.args.t.now c.reach.new.t _ c.reach.ensures.kept)

pub returns-clause-logons : goal.returns-clause-logons
returns-clause-logons c = λ keys pending k. logons_kept c.reach.new.t c.locate.new.t _ c.locate.ensures.kept keys pending
    (logons_kept c.args.t.now c.reach.new.t _ c.reach.ensures.kept keys pending k)
