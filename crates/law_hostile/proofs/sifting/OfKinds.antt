-- What `Kinds` says stays where lists are sifted, part by part.
use Rattle.std.proofs.Common.{ℕ}
use Rattle.spec_exchange.specs.Table.{put}
use Rattle.spec_exchange.specs.State.{Server}
use Rattle.spec_exchange.specs.Client.{Client}
use Rattle.spec_exchange.specs.Network.{Conn}
use Rattle.law_sessions.specs.sessions.Kinds.{SharesUp}
use Rattle.law_hostile.specs.sifting.Sifting.{KindsSift}
use Rattle.law_hostile.proofs.sifting.Lists.{All, all}

sift_shares_up : (c : Client) (s : Server) (old new : ℕ → Conn) → All old new → SharesUp c old → SharesUp c new
sift_shares_up c s old new sifts was =
    λ k n x share at. let moved = (sifts k).up n x at in was k moved.0 x share moved.1

pub kinds_sift : KindsSift
kinds_sift c conns s k d one was =
    let sifts = all conns k d one in
    record {
      shares_up = sift_shares_up c s conns (put conns k d) sifts was.shares_up;
      tree_kinds = was.tree_kinds;
      open_kind = was.open_kind;
    }
