use Rattle.std.proofs.Common.{◌≡◌, ℕ, true, map, subst, sym, ◌∙◌}
use Rattle.wire_commands.specs.values.Meaning.{message_of}
use Rattle.spec_exchange.specs.CheckOpen.{file_of}
use Rattle.spec_exchange.specs.Effects.{keep_slot, set_ranges}
use Rattle.spec_exchange.specs.Opens.{file_has_open}
use Rattle.spec_exchange.specs.Status.{success}
use Rattle.spec_exchange.specs.Table.{put}
use Rattle.store_opens.proofs.open_table.Back.{file_opened}
use Rattle.store_opens.specs.share_modes.Locking.{range_of}
use Rattle.server_checks.specs.Shown.{TablesShown}
use Rattle.server_effects.proofs.Steps.{config_kept, logons_kept, open_still, reached}
use Rattle.server_effects.proofs.locks.put_ranges.Goals as goal

pub returns-clause-shows : goal.returns-clause-shows
returns-clause-shows c = λ now s f h a. record {
  shows = reached (λ v. TablesShown c.reach.new.t v
      → TablesShown c.keep_in_slot.new.t (keep_slot (set_ranges v (file_of s c.args.id)
      (map range_of c.args.ranges.items)) c.args.id c.args.index c.args.number success)) s (message_of c.args.m.now) c.args.id
      (λ x. c.keep_in_slot.ensures.shows (set_ranges s (file_of s c.args.id) (map range_of c.args.ranges.items))
      (subst (λ (z : ℕ). TablesShown c.put_in_file.new.t (set_ranges s z (map range_of c.args.ranges.items)))
      (c.file_of-file.ensures.shown s x.opens a.0)
      (c.put_in_file.ensures.shows s x (subst (λ (z : ℕ). file_has_open s z
      ≡ true) (sym (c.file_of-file.ensures.shown s x.opens a.0)) (file_opened s c.args.id f a.0)))) a.0)
      (λ x. c.keep_in_slot.ensures.shows (set_ranges (record s { sequence = put s.sequence c.args.id c.args.m.now.channel_sequence })
      (file_of s c.args.id) (map range_of c.args.ranges.items))
      (subst (λ (z : ℕ). TablesShown c.put_in_file.new.t (set_ranges
      (record s { sequence = put s.sequence c.args.id c.args.m.now.channel_sequence }) z (map range_of c.args.ranges.items)))
      (c.file_of-file.ensures.shown (record s { sequence = put s.sequence c.args.id c.args.m.now.channel_sequence }) x.opens a.0)
      (c.put_in_file.ensures.shows (record s { sequence = put s.sequence c.args.id c.args.m.now.channel_sequence }) x (subst
      (λ (z : ℕ). file_has_open (record s { sequence = put s.sequence c.args.id c.args.m.now.channel_sequence }) z
      ≡ true) (sym (c.file_of-file.ensures.shown
      (record s { sequence = put s.sequence c.args.id c.args.m.now.channel_sequence }) x.opens a.0)) (open_still s
      (put s.sequence c.args.id c.args.m.now.channel_sequence) (file_of s c.args.id) (file_opened s c.args.id f a.0))))) a.0)
      (c.reach.ensures.shows s h a.0);
  reply = c.acting.ensures.reply;
  acted = c.acting.ensures.acted_is;
}

pub returns-clause-bare : goal.returns-clause-bare
returns-clause-bare c = c.acting.ensures.bare

pub returns-clause-config : goal.returns-clause-config
returns-clause-config c = config_kept c.put_in_file.new.t c.keep_in_slot.new.t _ c.keep_in_slot.ensures.kept
    ∙ (config_kept c.reach.new.t c.put_in_file.new.t _ c.put_in_file.ensures.kept
    ∙ (config_kept c.args.t.now c.reach.new.t _ c.reach.ensures.kept))

pub returns-clause-logons : goal.returns-clause-logons
returns-clause-logons c = λ keys pending k. logons_kept c.put_in_file.new.t c.keep_in_slot.new.t _ c.keep_in_slot.ensures.kept keys
    pending (logons_kept c.reach.new.t c.put_in_file.new.t _ c.put_in_file.ensures.kept keys pending
    (logons_kept c.args.t.now c.reach.new.t _ c.reach.ensures.kept keys pending k))
