use Rattle.std.proofs.Common.{◌<◌, sym, subst, ◌∙◌, slice_index}
use Rattle.client_tables.proofs.outstanding.Outstanding.{listed_of, swept_from}
use Rattle.client_tables.proofs.outstanding.losing.lose_on_channel.Goals as goal

pub lose_channel-requires : goal.lose_channel-requires
lose_channel-requires c =
    let o = c.requires.out in
    record {
      within = λ i l. subst (λ n. slice_index c.members.result.now i < n) o.sized (c.members.ensures.within i l);
      counts = c.requires.counts;
    }

pub sweep-requires : goal.sweep-requires
sweep-requires c =
    let o = c.requires.out in
    let m = c.lose_channel.ensures.loses in
    record {
      fits = o.fits;
      sized = o.sized ∙ sym m.count;
      more = swept_from c.args.rows.now c.lose_channel.new.rows c.args.out.now m o;
    }

pub returns-clause-shown : goal.returns-clause-shown
returns-clause-shown c = λ d holders s.
    c.lose_channel.ensures.shown d holders s
    (listed_of c.args.rows.now c.args.out.now c.members.result.now c.requires.out c.members.ensures.all d s.sends)
