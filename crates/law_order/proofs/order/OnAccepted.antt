-- Written by tools/law_contents.py. A new session is accepted.
use Rattle.std.proofs.Common.{◌≡◌, ℕ, ◌<◌, arith, Some}
use Rattle.spec_exchange.specs.Order.{Log}
use Rattle.spec_exchange.specs.State.{Server}
use Rattle.spec_exchange.specs.Client.{Client}
use Rattle.spec_exchange.specs.Dialogs.{accepted}
use Rattle.spec_exchange.specs.Network.{Conn, Trace}
use Rattle.law_order.specs.order.Contents.{Contents, LostKnown, LostAsked, SessionKnown, SessionAsked, PendingAt}

accepted_lost_known : (c : Client) (conns : ℕ → Conn) (s : Server) (t : Trace) (l : Log) (a : ℕ → ℕ) (k : ℕ)
    → (c.rank c.pending ≡ 0) → (0 < c.pending) → LostKnown c → LostKnown (accepted c k)
accepted_lost_known c conns s t l a k unranked above i_lost_known =
    λ p z. let old = i_lost_known p z in grind arith

accepted_lost_asked : (c : Client) (conns : ℕ → Conn) (s : Server) (t : Trace) (l : Log) (a : ℕ → ℕ) (k : ℕ)
    → (c.rank c.pending ≡ 0) → (0 < c.pending) → LostAsked c → LostKnown c → LostAsked (accepted c k)
accepted_lost_asked c conns s t l a k unranked above i_lost_asked i_lost_known =
    λ p j z sg gu e. let old = i_lost_known p z gu in grind arith

accepted_session_known : (c : Client) (conns : ℕ → Conn) (s : Server) (t : Trace) (l : Log) (a : ℕ → ℕ) (k : ℕ)
    → (c.rank c.pending ≡ 0) → (0 < c.pending) → SessionKnown c → SessionKnown (accepted c k)
accepted_session_known c conns s t l a k unranked above i_session_known =
    let old = i_session_known in grind arith

accepted_session_asked : (c : Client) (conns : ℕ → Conn) (s : Server) (t : Trace) (l : Log) (a : ℕ → ℕ) (k : ℕ)
    → (c.rank c.pending ≡ 0) → (0 < c.pending) → SessionAsked c → SessionKnown c → SessionAsked (accepted c k)
accepted_session_asked c conns s t l a k unranked above i_session_asked i_session_known =
    λ j sg e. let old = i_session_known in grind arith

accepted_pending_at : (c : Client) (conns : ℕ → Conn) (s : Server) (t : Trace) (l : Log) (a : ℕ → ℕ) (k : ℕ)
    → (c.rank c.pending ≡ 0) → (0 < c.pending) → ((o x : ℕ) → s.session_of_open o ≡ Some x → 0 < c.rank x)
    → PendingAt c s → PendingAt (accepted c k) s
accepted_pending_at c conns s t l a k unranked above attached i_pending_at =
    λ o j sg e. let old = attached o c.pending e in grind arith

pub accepted_keeps : (c : Client) (conns : ℕ → Conn) (s : Server) (t : Trace) (l : Log) (a : ℕ → ℕ) (k : ℕ)
    → (c.rank c.pending ≡ 0) → (0 < c.pending) → ((o x : ℕ) → s.session_of_open o ≡ Some x → 0 < c.rank x)
    → Contents c conns s t l a → Contents (accepted c k) conns s t l a
accepted_keeps c conns s t l a k unranked above attached i =
    record {
      token_up = i.token_up;
      token_down = i.token_down;
      opens_up = i.opens_up;
      asked_as = i.asked_as;
      lost_unknown = i.lost_unknown;
      lost_dead = i.lost_dead;
      lost_known = accepted_lost_known c conns s t l a k unranked above i.lost_known;
      lost_asked = accepted_lost_asked c conns s t l a k unranked above i.lost_asked i.lost_known;
      session_known = accepted_session_known c conns s t l a k unranked above i.session_known;
      session_asked = accepted_session_asked c conns s t l a k unranked above i.session_asked i.session_known;
      pairwise = i.pairwise;
      first_up = i.first_up;
      unacted = i.unacted;
      fresh_first = i.fresh_first;
      not_done = i.not_done;
      cut_seq = i.cut_seq;
      open_seq = i.open_seq;
      older = i.older;
      no_replay = i.no_replay;
      copy_pair = i.copy_pair;
      now_pair = i.now_pair;
      create_reply = i.create_reply;
      attach_reply = i.attach_reply;
      reached = i.reached;
      closed_reply = i.closed_reply;
      attach_refused = i.attach_refused;
      stale_reply = i.stale_reply;
      session_seq = i.session_seq;
      pending_at = accepted_pending_at c conns s t l a k unranked above attached i.pending_at;
      live_unsettled = i.live_unsettled;
      live_replay = i.live_replay;
      shows = i.shows;
      denied = i.denied;
      open_of = i.open_of;
      named_open = i.named_open;
      open_given = i.open_given;
      open_row = i.open_row;
      open_acted = i.open_acted;
      bytes = i.bytes;
      quiet = i.quiet;
      foreign = i.foreign;
      acted = i.acted;
      gave = i.gave;
      gave_end = i.gave_end;
      whose = i.whose;
      born = i.born;
      birth_le = i.birth_le;
      first_at = i.first_at;
      by = i.by;
      by_ok = i.by_ok;
      by_end = i.by_end;
      by_some = i.by_some;
      replies = i.replies;
      attach_status = i.attach_status;
      since_le = i.since_le;
      since_reply = i.since_reply;
      since_by = i.since_by;
      since_first = i.since_first;
      prior = i.prior;
      prior_by = i.prior_by;
      prior_first = i.prior_first;
    }
