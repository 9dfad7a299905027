-- What the layers below say of every run.
use Rattle.spec_exchange.specs.Network.{Settings}
use Rattle.spec_exchange.specs.Statements.{Newer}
use Rattle.law_server.proofs.tables.Run.{fitting}
use Rattle.law_sessions.proofs.sessions.Always.{sessions, stored}
use Rattle.law_order.specs.order.Newest.{BelowAll}
use Rattle.law_order.proofs.order.Newer.{newer}

pub below : (z : Settings) → BelowAll z
below z es =
    let f = fitting z es in let i = sessions z es in let k = stored z es in
    record {
      attached = f.attached;
      guid_open = f.guid_open;
      open_ids = f.open_ids;
      given = f.given;
      ranks = i.ranks;
      last_rank = i.last_rank;
      rank_once = i.rank_once;
      pending_unranked = i.pending_unranked;
      ranked_up = i.ranked_up;
      sequences_up = i.sequences_up;
      dialog_up = i.dialog_up;
      present_accepted = i.present_accepted;
      making_unranked = i.making_unranked;
      recorded = k.epoch;
    }

pub newer_always : Newer
newer_always = newer below
