use Rattle.std.proofs.Common.{sym, subst}
use Rattle.spec_exchange.specs.ClientStep.{cut_after}
use Rattle.client_rows.specs.session_state.Shown.{ClientShowsSession}
use Rattle.client_tables.specs.whole_table.Shown.{ShowsTable}
use Rattle.client_tables.proofs.attached_opens.Kept.{places_lost, places_none}
use Rattle.client_steps.proofs.cutting.Kept.{session_shown}
use Rattle.client_steps.proofs.cutting.Told.{ends_after, lost_after, nothing_after}
use Rattle.client_steps.proofs.cutting.cutting.cut.Goals as goal

pub returns-in-Nothing : goal.returns-in-Nothing
returns-in-Nothing c =
    let t = c.args.table.now in
    let k = c.args.channel in
    record {
      fits = c.requires.fits;
      places = places_none t.rows.items;
      shown = λ d s w. (
          let e = nothing_after d k (c.in-Nothing.ensures.told d s.session) in
          session_shown t.session c.cut.new.self t.rows.items t.holders.items t.prices t.watchers t.ops.items t.settled.items t.order.items
          t.dialogs.items (cut_after d k) d e s (c.cut.ensures.shown d s.session)
          );
      told = λ d s. c.in-Nothing.ensures.told d s.session;
    }

pub returns-in-Lost : goal.returns-in-Lost
returns-in-Lost c =
    let t = c.args.table.now in
    let k = c.args.channel in
    let o = c.lose_channel in
    record {
      fits = o.ensures.fits;
      places = places_lost t.rows.items o.new.self.rows.items o.ensures.loses;
      shown = λ d s w. (
          let e = lost_after d k (c.in-Lost.ensures.told d s.session) in
          subst (λ x. ShowsTable o.new.self x) (sym e)
          (o.ensures.shown d t.session s (subst (λ x. ClientShowsSession c.cut.new.self x) e (c.cut.ensures.shown d s.session)))
          );
      told = λ d s. c.in-Lost.ensures.told d s.session;
    }

pub returns-in-Ends : goal.returns-in-Ends
returns-in-Ends c =
    let t = c.args.table.now in
    let k = c.args.channel in
    let o = c.end_table in
    record {
      fits = o.ensures.fits;
      places = o.ensures.places;
      shown = λ d s w. (
          let e = ends_after d k (c.in-Ends.ensures.told d s.session) in
          subst (λ x. ShowsTable o.new.table x) (sym e)
          (o.ensures.shown d t.session s w (subst (λ x. ClientShowsSession c.cut.new.self x) e (c.cut.ensures.shown d s.session)))
          );
      told = λ d s. c.in-Ends.ensures.told d s.session;
    }
