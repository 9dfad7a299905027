use Rattle.std.proofs.Common.{sym, subst}
use Rattle.client_steps.specs.declared.whole_client.client.Client.{Client as Core}
use Rattle.client_steps.specs.whole_client.Shown.{ShowsClient}
use Rattle.client_events.proofs.played_client.played.Played.end.Goals as goal

pub finish-requires : goal.finish-requires
finish-requires c = record { fits = c.self.invariant.fits }

pub returns : goal.returns
returns c =
    let e = c.finish.ensures in
    record { fits = e.fits; shown = λ d s. e.shown d (subst (λ (z : Core). ShowsClient z d) (sym c.self.view_is) s) }
