-- Written by tools/law_contents.py. A further channel is ready.
use Rattle.std.proofs.Common.{ℕ, arith}
use Rattle.spec_exchange.specs.Order.{Log}
use Rattle.spec_exchange.specs.State.{Server}
use Rattle.spec_exchange.specs.Client.{Client, bind_channel}
use Rattle.spec_exchange.specs.Network.{Conn, Trace}
use Rattle.law_order.specs.order.Contents.{Contents, LostAsked, SessionAsked, PendingAt}

bound_lost_asked : (c : Client) (conns : ℕ → Conn) (s : Server) (t : Trace) (l : Log) (a : ℕ → ℕ) (k : ℕ) → LostAsked c
    → LostAsked (bind_channel c k)
bound_lost_asked c conns s t l a k i_lost_asked =
    λ p j z. let old = i_lost_asked p j z in grind arith

bound_session_asked : (c : Client) (conns : ℕ → Conn) (s : Server) (t : Trace) (l : Log) (a : ℕ → ℕ) (k : ℕ)
    → SessionAsked c → SessionAsked (bind_channel c k)
bound_session_asked c conns s t l a k i_session_asked =
    λ j. let old = i_session_asked j in grind arith

bound_pending_at : (c : Client) (conns : ℕ → Conn) (s : Server) (t : Trace) (l : Log) (a : ℕ → ℕ) (k : ℕ)
    → PendingAt c s → PendingAt (bind_channel c k) s
bound_pending_at c conns s t l a k i_pending_at =
    λ o j. let old = i_pending_at o j in grind arith

pub bound_keeps : (c : Client) (conns : ℕ → Conn) (s : Server) (t : Trace) (l : Log) (a : ℕ → ℕ) (k : ℕ)
    → Contents c conns s t l a → Contents (bind_channel c k) conns s t l a
bound_keeps c conns s t l a k i =
    record {
      token_up = i.token_up;
      token_down = i.token_down;
      opens_up = i.opens_up;
      asked_as = i.asked_as;
      lost_unknown = i.lost_unknown;
      lost_dead = i.lost_dead;
      lost_known = i.lost_known;
      lost_asked = bound_lost_asked c conns s t l a k i.lost_asked;
      session_known = i.session_known;
      session_asked = bound_session_asked c conns s t l a k i.session_asked;
      pairwise = i.pairwise;
      first_up = i.first_up;
      unacted = i.unacted;
      fresh_first = i.fresh_first;
      not_done = i.not_done;
      cut_seq = i.cut_seq;
      open_seq = i.open_seq;
      older = i.older;
      no_replay = i.no_replay;
      copy_pair = i.copy_pair;
      now_pair = i.now_pair;
      create_reply = i.create_reply;
      attach_reply = i.attach_reply;
      reached = i.reached;
      closed_reply = i.closed_reply;
      attach_refused = i.attach_refused;
      stale_reply = i.stale_reply;
      session_seq = i.session_seq;
      pending_at = bound_pending_at c conns s t l a k i.pending_at;
      live_unsettled = i.live_unsettled;
      live_replay = i.live_replay;
      shows = i.shows;
      denied = i.denied;
      open_of = i.open_of;
      named_open = i.named_open;
      open_given = i.open_given;
      open_row = i.open_row;
      open_acted = i.open_acted;
      bytes = i.bytes;
      quiet = i.quiet;
      foreign = i.foreign;
      acted = i.acted;
      gave = i.gave;
      gave_end = i.gave_end;
      whose = i.whose;
      born = i.born;
      birth_le = i.birth_le;
      first_at = i.first_at;
      by = i.by;
      by_ok = i.by_ok;
      by_end = i.by_end;
      by_some = i.by_some;
      replies = i.replies;
      attach_status = i.attach_status;
      since_le = i.since_le;
      since_reply = i.since_reply;
      since_by = i.since_by;
      since_first = i.since_first;
      prior = i.prior;
      prior_by = i.prior_by;
      prior_first = i.prior_first;
    }
