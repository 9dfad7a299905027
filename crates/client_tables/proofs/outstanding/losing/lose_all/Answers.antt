use Rattle.std.proofs.Common.{◌<◌, sym, subst, ◌∙◌, slice_index}
use Rattle.client_tables.proofs.outstanding.Outstanding.{listed, listed_of}
use Rattle.client_tables.proofs.outstanding.losing.lose_all.Goals as goal

pub lose_session-requires : goal.lose_session-requires
lose_session-requires c =
    let o = c.requires.out in
    record {
      within = λ i l. subst (λ n. slice_index c.members.result.now i < n) o.sized (c.members.ensures.within i l);
      counts = c.requires.counts;
    }

pub returns-clause-out : goal.returns-clause-out
returns-clause-out c =
    let o = c.requires.out in
    let e = c.lose_session.ensures in
    record {
      fits = c.clear.ensures.fits;
      sized = c.clear.ensures.size ∙ o.sized ∙ sym e.loses.count;
      out_is = λ g l. c.clear.ensures.has g
          ∙ sym (e.none (listed c.args.rows.now c.args.out.now c.members.result.now o c.members.ensures.all) g);
    }

pub returns-clause-shown : goal.returns-clause-shown
returns-clause-shown c = λ d holders s.
    c.lose_session.ensures.shown d holders s
    (listed_of c.args.rows.now c.args.out.now c.members.result.now c.requires.out c.members.ensures.all d s.sends)
