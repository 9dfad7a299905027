-- Written by tools/law_contents.py. The server closes its end.
use Rattle.std.proofs.Common.{ℕ, arith}
use Rattle.spec_exchange.specs.Table.{put}
use Rattle.spec_exchange.specs.Order.{Log}
use Rattle.spec_exchange.specs.State.{Server}
use Rattle.spec_exchange.specs.Client.{Client}
use Rattle.spec_exchange.specs.Network.{Conn, Trace, server_off}
use Rattle.law_sessions.proofs.messages.Lists.{get-push}
use Rattle.law_order.specs.order.Contents.{Contents, TokenUp, TokenDown, OpensUp, AskedAs, FirstUp, NotDone, CutSeq, OpenSeq}
use Rattle.law_order.specs.order.Contents.{Older, NoReplay, CopyPair, CreateReply, AttachReply, Reached, ClosedReply}
use Rattle.law_order.specs.order.Contents.{AttachRefused, StaleReply, LiveUnsettled, LiveReplay, Replies, AttachStatus}
use Rattle.law_order.specs.order.Contents.{SinceReply}

dropped_token_up : (c : Client) (conns : ℕ → Conn) (s : Server) (t : Trace) (l : Log) (a : ℕ → ℕ) (k : ℕ)
    → TokenUp c conns → TokenUp c (put conns k (server_off (conns k)))
dropped_token_up c conns s t l a k i_token_up =
    λ j n x. let old = i_token_up j n x in grind (arith, get-push)

dropped_token_down : (c : Client) (conns : ℕ → Conn) (s : Server) (t : Trace) (l : Log) (a : ℕ → ℕ) (k : ℕ)
    → TokenDown c conns → TokenDown c (put conns k (server_off (conns k)))
dropped_token_down c conns s t l a k i_token_down =
    λ j n y. let old = i_token_down j n y in grind (arith, get-push)

dropped_opens_up : (c : Client) (conns : ℕ → Conn) (s : Server) (t : Trace) (l : Log) (a : ℕ → ℕ) (k : ℕ)
    → OpensUp c conns → OpensUp c (put conns k (server_off (conns k)))
dropped_opens_up c conns s t l a k i_opens_up =
    λ j n x. let old = i_opens_up j n x in grind (arith, get-push)

dropped_asked_as : (c : Client) (conns : ℕ → Conn) (s : Server) (t : Trace) (l : Log) (a : ℕ → ℕ) (k : ℕ)
    → AskedAs c conns → AskedAs c (put conns k (server_off (conns k)))
dropped_asked_as c conns s t l a k i_asked_as =
    λ j n p x. let old = i_asked_as j n p x in grind (arith, get-push)

dropped_first_up : (c : Client) (conns : ℕ → Conn) (s : Server) (t : Trace) (l : Log) (a : ℕ → ℕ) (k : ℕ)
    → FirstUp c conns l → FirstUp c (put conns k (server_off (conns k))) l
dropped_first_up c conns s t l a k i_first_up =
    λ j n p x. let old = i_first_up j n p x in grind (arith, get-push)

dropped_not_done : (c : Client) (conns : ℕ → Conn) (s : Server) (t : Trace) (l : Log) (a : ℕ → ℕ) (k : ℕ)
    → NotDone c conns l → NotDone c (put conns k (server_off (conns k))) l
dropped_not_done c conns s t l a k i_not_done =
    λ j n p y. let old = i_not_done j n p y in grind (arith, get-push)

dropped_cut_seq : (c : Client) (conns : ℕ → Conn) (s : Server) (t : Trace) (l : Log) (a : ℕ → ℕ) (k : ℕ)
    → CutSeq c conns → CutSeq c (put conns k (server_off (conns k)))
dropped_cut_seq c conns s t l a k i_cut_seq =
    λ j n p x. let old = i_cut_seq j n p x in grind (arith, get-push)

dropped_open_seq : (c : Client) (conns : ℕ → Conn) (s : Server) (t : Trace) (l : Log) (a : ℕ → ℕ) (k : ℕ)
    → OpenSeq c conns → OpenSeq c (put conns k (server_off (conns k)))
dropped_open_seq c conns s t l a k i_open_seq =
    λ j n p x. let old = i_open_seq j n p x in grind (arith, get-push)

dropped_older : (c : Client) (conns : ℕ → Conn) (s : Server) (t : Trace) (l : Log) (a : ℕ → ℕ) (k : ℕ) → Older c conns
    → Older c (put conns k (server_off (conns k)))
dropped_older c conns s t l a k i_older =
    λ j n i p x. let old = i_older j n i p x in grind (arith, get-push)

dropped_no_replay : (c : Client) (conns : ℕ → Conn) (s : Server) (t : Trace) (l : Log) (a : ℕ → ℕ) (k : ℕ)
    → NoReplay c conns → NoReplay c (put conns k (server_off (conns k)))
dropped_no_replay c conns s t l a k i_no_replay =
    λ j n i q p u x. let old = i_no_replay j n i q p u x in grind (arith, get-push)

dropped_copy_pair : (c : Client) (conns : ℕ → Conn) (s : Server) (t : Trace) (l : Log) (a : ℕ → ℕ) (k : ℕ)
    → CopyPair c conns s → CopyPair c (put conns k (server_off (conns k))) s
dropped_copy_pair c conns s t l a k i_copy_pair =
    λ j n p x. let old = i_copy_pair j n p x in grind (arith, get-push)

dropped_create_reply : (c : Client) (conns : ℕ → Conn) (s : Server) (t : Trace) (l : Log) (a : ℕ → ℕ) (k : ℕ)
    → CreateReply c conns s t → CreateReply c (put conns k (server_off (conns k))) s t
dropped_create_reply c conns s t l a k i_create_reply =
    λ j n p y. let old = i_create_reply j n p y in grind (arith, get-push)

dropped_attach_reply : (c : Client) (conns : ℕ → Conn) (s : Server) (t : Trace) (l : Log) (a : ℕ → ℕ) (k : ℕ)
    → AttachReply c conns s → AttachReply c (put conns k (server_off (conns k))) s
dropped_attach_reply c conns s t l a k i_attach_reply =
    λ j n p y. let old = i_attach_reply j n p y in grind (arith, get-push)

dropped_reached : (c : Client) (conns : ℕ → Conn) (s : Server) (t : Trace) (l : Log) (a : ℕ → ℕ) (k : ℕ)
    → Reached c conns s → Reached c (put conns k (server_off (conns k))) s
dropped_reached c conns s t l a k i_reached =
    λ j n p y. let old = i_reached j n p y in grind (arith, get-push)

dropped_closed_reply : (c : Client) (conns : ℕ → Conn) (s : Server) (t : Trace) (l : Log) (a : ℕ → ℕ) (k : ℕ)
    → ClosedReply c conns s → ClosedReply c (put conns k (server_off (conns k))) s
dropped_closed_reply c conns s t l a k i_closed_reply =
    λ j n p y. let old = i_closed_reply j n p y in grind (arith, get-push)

dropped_attach_refused : (c : Client) (conns : ℕ → Conn) (s : Server) (t : Trace) (l : Log) (a : ℕ → ℕ) (k : ℕ)
    → AttachRefused c conns s → AttachRefused c (put conns k (server_off (conns k))) s
dropped_attach_refused c conns s t l a k i_attach_refused =
    λ j n p y. let old = i_attach_refused j n p y in grind (arith, get-push)

dropped_stale_reply : (c : Client) (conns : ℕ → Conn) (s : Server) (t : Trace) (l : Log) (a : ℕ → ℕ) (k : ℕ)
    → StaleReply c conns → StaleReply c (put conns k (server_off (conns k)))
dropped_stale_reply c conns s t l a k i_stale_reply =
    λ j n p y. let old = i_stale_reply j n p y in grind (arith, get-push)

dropped_live_unsettled : (c : Client) (conns : ℕ → Conn) (s : Server) (t : Trace) (l : Log) (a : ℕ → ℕ) (k : ℕ)
    → LiveUnsettled c conns s → LiveUnsettled c (put conns k (server_off (conns k))) s
dropped_live_unsettled c conns s t l a k i_live_unsettled =
    λ j n p x. let old = i_live_unsettled j n p x in grind (arith, get-push)

dropped_live_replay : (c : Client) (conns : ℕ → Conn) (s : Server) (t : Trace) (l : Log) (a : ℕ → ℕ) (k : ℕ)
    → LiveReplay c conns s l → LiveReplay c (put conns k (server_off (conns k))) s l
dropped_live_replay c conns s t l a k i_live_replay =
    λ j n p x. let old = i_live_replay j n p x in grind (arith, get-push)

dropped_replies : (c : Client) (conns : ℕ → Conn) (s : Server) (t : Trace) (l : Log) (a : ℕ → ℕ) (k : ℕ)
    → Replies conns l → Replies (put conns k (server_off (conns k))) l
dropped_replies c conns s t l a k i_replies =
    λ j n y. let old = i_replies j n y in grind (arith, get-push)

dropped_attach_status : (c : Client) (conns : ℕ → Conn) (s : Server) (t : Trace) (l : Log) (a : ℕ → ℕ) (k : ℕ)
    → AttachStatus conns → AttachStatus (put conns k (server_off (conns k)))
dropped_attach_status c conns s t l a k i_attach_status =
    λ j n p y. let old = i_attach_status j n p y in grind (arith, get-push)

dropped_since_reply : (c : Client) (conns : ℕ → Conn) (s : Server) (t : Trace) (l : Log) (a : ℕ → ℕ) (k : ℕ)
    → SinceReply conns l → SinceReply (put conns k (server_off (conns k))) l
dropped_since_reply c conns s t l a k i_since_reply =
    λ j n y. let old = i_since_reply j n y in grind (arith, get-push)

pub dropped_keeps : (c : Client) (conns : ℕ → Conn) (s : Server) (t : Trace) (l : Log) (a : ℕ → ℕ) (k : ℕ)
    → Contents c conns s t l a → Contents c (put conns k (server_off (conns k))) s t l a
dropped_keeps c conns s t l a k i =
    record {
      token_up = dropped_token_up c conns s t l a k i.token_up;
      token_down = dropped_token_down c conns s t l a k i.token_down;
      opens_up = dropped_opens_up c conns s t l a k i.opens_up;
      asked_as = dropped_asked_as c conns s t l a k i.asked_as;
      lost_unknown = i.lost_unknown;
      lost_dead = i.lost_dead;
      lost_known = i.lost_known;
      lost_asked = i.lost_asked;
      session_known = i.session_known;
      session_asked = i.session_asked;
      pairwise = i.pairwise;
      first_up = dropped_first_up c conns s t l a k i.first_up;
      unacted = i.unacted;
      fresh_first = i.fresh_first;
      not_done = dropped_not_done c conns s t l a k i.not_done;
      cut_seq = dropped_cut_seq c conns s t l a k i.cut_seq;
      open_seq = dropped_open_seq c conns s t l a k i.open_seq;
      older = dropped_older c conns s t l a k i.older;
      no_replay = dropped_no_replay c conns s t l a k i.no_replay;
      copy_pair = dropped_copy_pair c conns s t l a k i.copy_pair;
      now_pair = i.now_pair;
      create_reply = dropped_create_reply c conns s t l a k i.create_reply;
      attach_reply = dropped_attach_reply c conns s t l a k i.attach_reply;
      reached = dropped_reached c conns s t l a k i.reached;
      closed_reply = dropped_closed_reply c conns s t l a k i.closed_reply;
      attach_refused = dropped_attach_refused c conns s t l a k i.attach_refused;
      stale_reply = dropped_stale_reply c conns s t l a k i.stale_reply;
      session_seq = i.session_seq;
      pending_at = i.pending_at;
      live_unsettled = dropped_live_unsettled c conns s t l a k i.live_unsettled;
      live_replay = dropped_live_replay c conns s t l a k i.live_replay;
      shows = i.shows;
      denied = i.denied;
      open_of = i.open_of;
      named_open = i.named_open;
      open_given = i.open_given;
      open_row = i.open_row;
      open_acted = i.open_acted;
      bytes = i.bytes;
      quiet = i.quiet;
      foreign = i.foreign;
      acted = i.acted;
      gave = i.gave;
      gave_end = i.gave_end;
      whose = i.whose;
      born = i.born;
      birth_le = i.birth_le;
      first_at = i.first_at;
      by = i.by;
      by_ok = i.by_ok;
      by_end = i.by_end;
      by_some = i.by_some;
      replies = dropped_replies c conns s t l a k i.replies;
      attach_status = dropped_attach_status c conns s t l a k i.attach_status;
      since_le = i.since_le;
      since_reply = dropped_since_reply c conns s t l a k i.since_reply;
      since_by = i.since_by;
      since_first = i.since_first;
      prior = i.prior;
      prior_by = i.prior_by;
      prior_first = i.prior_first;
    }
