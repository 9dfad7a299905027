-- Written by tools/law_contents.py. The server starts anew.
use Rattle.std.proofs.Common.{ℕ, arith}
use Rattle.spec_exchange.specs.Order.{Log}
use Rattle.spec_exchange.specs.State.{Server}
use Rattle.spec_exchange.specs.Client.{Client}
use Rattle.spec_exchange.specs.Network.{Conn, Trace, server_off}
use Rattle.law_sessions.proofs.messages.Lists.{get-push}
use Rattle.law_order.specs.order.Contents.{Contents, TokenUp, TokenDown, OpensUp, AskedAs, FirstUp, NotDone, CutSeq, OpenSeq}
use Rattle.law_order.specs.order.Contents.{Older, NoReplay, CopyPair, CreateReply, AttachReply, Reached, ClosedReply}
use Rattle.law_order.specs.order.Contents.{AttachRefused, StaleReply, LiveUnsettled, LiveReplay, Replies, AttachStatus}
use Rattle.law_order.specs.order.Contents.{SinceReply}

all_dropped_token_up : (c : Client) (conns : ℕ → Conn) (s : Server) (t : Trace) (l : Log) (a : ℕ → ℕ) → TokenUp c conns
    → TokenUp c (λ q. server_off (conns q))
all_dropped_token_up c conns s t l a i_token_up =
    λ j n x. let old = i_token_up j n x in grind (arith, get-push)

all_dropped_token_down : (c : Client) (conns : ℕ → Conn) (s : Server) (t : Trace) (l : Log) (a : ℕ → ℕ)
    → TokenDown c conns → TokenDown c (λ q. server_off (conns q))
all_dropped_token_down c conns s t l a i_token_down =
    λ j n y. let old = i_token_down j n y in grind (arith, get-push)

all_dropped_opens_up : (c : Client) (conns : ℕ → Conn) (s : Server) (t : Trace) (l : Log) (a : ℕ → ℕ) → OpensUp c conns
    → OpensUp c (λ q. server_off (conns q))
all_dropped_opens_up c conns s t l a i_opens_up =
    λ j n x. let old = i_opens_up j n x in grind (arith, get-push)

all_dropped_asked_as : (c : Client) (conns : ℕ → Conn) (s : Server) (t : Trace) (l : Log) (a : ℕ → ℕ) → AskedAs c conns
    → AskedAs c (λ q. server_off (conns q))
all_dropped_asked_as c conns s t l a i_asked_as =
    λ j n p x. let old = i_asked_as j n p x in grind (arith, get-push)

all_dropped_first_up : (c : Client) (conns : ℕ → Conn) (s : Server) (t : Trace) (l : Log) (a : ℕ → ℕ)
    → FirstUp c conns l → FirstUp c (λ q. server_off (conns q)) l
all_dropped_first_up c conns s t l a i_first_up =
    λ j n p x. let old = i_first_up j n p x in grind (arith, get-push)

all_dropped_not_done : (c : Client) (conns : ℕ → Conn) (s : Server) (t : Trace) (l : Log) (a : ℕ → ℕ)
    → NotDone c conns l → NotDone c (λ q. server_off (conns q)) l
all_dropped_not_done c conns s t l a i_not_done =
    λ j n p y. let old = i_not_done j n p y in grind (arith, get-push)

all_dropped_cut_seq : (c : Client) (conns : ℕ → Conn) (s : Server) (t : Trace) (l : Log) (a : ℕ → ℕ) → CutSeq c conns
    → CutSeq c (λ q. server_off (conns q))
all_dropped_cut_seq c conns s t l a i_cut_seq =
    λ j n p x. let old = i_cut_seq j n p x in grind (arith, get-push)

all_dropped_open_seq : (c : Client) (conns : ℕ → Conn) (s : Server) (t : Trace) (l : Log) (a : ℕ → ℕ) → OpenSeq c conns
    → OpenSeq c (λ q. server_off (conns q))
all_dropped_open_seq c conns s t l a i_open_seq =
    λ j n p x. let old = i_open_seq j n p x in grind (arith, get-push)

all_dropped_older : (c : Client) (conns : ℕ → Conn) (s : Server) (t : Trace) (l : Log) (a : ℕ → ℕ) → Older c conns
    → Older c (λ q. server_off (conns q))
all_dropped_older c conns s t l a i_older =
    λ j n i p x. let old = i_older j n i p x in grind (arith, get-push)

all_dropped_no_replay : (c : Client) (conns : ℕ → Conn) (s : Server) (t : Trace) (l : Log) (a : ℕ → ℕ)
    → NoReplay c conns → NoReplay c (λ q. server_off (conns q))
all_dropped_no_replay c conns s t l a i_no_replay =
    λ j n i q p u x. let old = i_no_replay j n i q p u x in grind (arith, get-push)

all_dropped_copy_pair : (c : Client) (conns : ℕ → Conn) (s : Server) (t : Trace) (l : Log) (a : ℕ → ℕ)
    → CopyPair c conns s → CopyPair c (λ q. server_off (conns q)) s
all_dropped_copy_pair c conns s t l a i_copy_pair =
    λ j n p x. let old = i_copy_pair j n p x in grind (arith, get-push)

all_dropped_create_reply : (c : Client) (conns : ℕ → Conn) (s : Server) (t : Trace) (l : Log) (a : ℕ → ℕ)
    → CreateReply c conns s t → CreateReply c (λ q. server_off (conns q)) s t
all_dropped_create_reply c conns s t l a i_create_reply =
    λ j n p y. let old = i_create_reply j n p y in grind (arith, get-push)

all_dropped_attach_reply : (c : Client) (conns : ℕ → Conn) (s : Server) (t : Trace) (l : Log) (a : ℕ → ℕ)
    → AttachReply c conns s → AttachReply c (λ q. server_off (conns q)) s
all_dropped_attach_reply c conns s t l a i_attach_reply =
    λ j n p y. let old = i_attach_reply j n p y in grind (arith, get-push)

all_dropped_reached : (c : Client) (conns : ℕ → Conn) (s : Server) (t : Trace) (l : Log) (a : ℕ → ℕ) → Reached c conns s
    → Reached c (λ q. server_off (conns q)) s
all_dropped_reached c conns s t l a i_reached =
    λ j n p y. let old = i_reached j n p y in grind (arith, get-push)

all_dropped_closed_reply : (c : Client) (conns : ℕ → Conn) (s : Server) (t : Trace) (l : Log) (a : ℕ → ℕ)
    → ClosedReply c conns s → ClosedReply c (λ q. server_off (conns q)) s
all_dropped_closed_reply c conns s t l a i_closed_reply =
    λ j n p y. let old = i_closed_reply j n p y in grind (arith, get-push)

all_dropped_attach_refused : (c : Client) (conns : ℕ → Conn) (s : Server) (t : Trace) (l : Log) (a : ℕ → ℕ)
    → AttachRefused c conns s → AttachRefused c (λ q. server_off (conns q)) s
all_dropped_attach_refused c conns s t l a i_attach_refused =
    λ j n p y. let old = i_attach_refused j n p y in grind (arith, get-push)

all_dropped_stale_reply : (c : Client) (conns : ℕ → Conn) (s : Server) (t : Trace) (l : Log) (a : ℕ → ℕ)
    → StaleReply c conns → StaleReply c (λ q. server_off (conns q))
all_dropped_stale_reply c conns s t l a i_stale_reply =
    λ j n p y. let old = i_stale_reply j n p y in grind (arith, get-push)

all_dropped_live_unsettled : (c : Client) (conns : ℕ → Conn) (s : Server) (t : Trace) (l : Log) (a : ℕ → ℕ)
    → LiveUnsettled c conns s → LiveUnsettled c (λ q. server_off (conns q)) s
all_dropped_live_unsettled c conns s t l a i_live_unsettled =
    λ j n p x. let old = i_live_unsettled j n p x in grind (arith, get-push)

all_dropped_live_replay : (c : Client) (conns : ℕ → Conn) (s : Server) (t : Trace) (l : Log) (a : ℕ → ℕ)
    → LiveReplay c conns s l → LiveReplay c (λ q. server_off (conns q)) s l
all_dropped_live_replay c conns s t l a i_live_replay =
    λ j n p x. let old = i_live_replay j n p x in grind (arith, get-push)

all_dropped_replies : (c : Client) (conns : ℕ → Conn) (s : Server) (t : Trace) (l : Log) (a : ℕ → ℕ) → Replies conns l
    → Replies (λ q. server_off (conns q)) l
all_dropped_replies c conns s t l a i_replies =
    λ j n y. let old = i_replies j n y in grind (arith, get-push)

all_dropped_attach_status : (c : Client) (conns : ℕ → Conn) (s : Server) (t : Trace) (l : Log) (a : ℕ → ℕ)
    → AttachStatus conns → AttachStatus (λ q. server_off (conns q))
all_dropped_attach_status c conns s t l a i_attach_status =
    λ j n p y. let old = i_attach_status j n p y in grind (arith, get-push)

all_dropped_since_reply : (c : Client) (conns : ℕ → Conn) (s : Server) (t : Trace) (l : Log) (a : ℕ → ℕ)
    → SinceReply conns l → SinceReply (λ q. server_off (conns q)) l
all_dropped_since_reply c conns s t l a i_since_reply =
    λ j n y. let old = i_since_reply j n y in grind (arith, get-push)

pub all_dropped_keeps : (c : Client) (conns : ℕ → Conn) (s : Server) (t : Trace) (l : Log) (a : ℕ → ℕ)
    → Contents c conns s t l a → Contents c (λ q. server_off (conns q)) s t l a
all_dropped_keeps c conns s t l a i =
    record {
      token_up = all_dropped_token_up c conns s t l a i.token_up;
      token_down = all_dropped_token_down c conns s t l a i.token_down;
      opens_up = all_dropped_opens_up c conns s t l a i.opens_up;
      asked_as = all_dropped_asked_as c conns s t l a i.asked_as;
      lost_unknown = i.lost_unknown;
      lost_dead = i.lost_dead;
      lost_known = i.lost_known;
      lost_asked = i.lost_asked;
      session_known = i.session_known;
      session_asked = i.session_asked;
      pairwise = i.pairwise;
      first_up = all_dropped_first_up c conns s t l a i.first_up;
      unacted = i.unacted;
      fresh_first = i.fresh_first;
      not_done = all_dropped_not_done c conns s t l a i.not_done;
      cut_seq = all_dropped_cut_seq c conns s t l a i.cut_seq;
      open_seq = all_dropped_open_seq c conns s t l a i.open_seq;
      older = all_dropped_older c conns s t l a i.older;
      no_replay = all_dropped_no_replay c conns s t l a i.no_replay;
      copy_pair = all_dropped_copy_pair c conns s t l a i.copy_pair;
      now_pair = i.now_pair;
      create_reply = all_dropped_create_reply c conns s t l a i.create_reply;
      attach_reply = all_dropped_attach_reply c conns s t l a i.attach_reply;
      reached = all_dropped_reached c conns s t l a i.reached;
      closed_reply = all_dropped_closed_reply c conns s t l a i.closed_reply;
      attach_refused = all_dropped_attach_refused c conns s t l a i.attach_refused;
      stale_reply = all_dropped_stale_reply c conns s t l a i.stale_reply;
      session_seq = i.session_seq;
      pending_at = i.pending_at;
      live_unsettled = all_dropped_live_unsettled c conns s t l a i.live_unsettled;
      live_replay = all_dropped_live_replay c conns s t l a i.live_replay;
      shows = i.shows;
      denied = i.denied;
      open_of = i.open_of;
      named_open = i.named_open;
      open_given = i.open_given;
      open_row = i.open_row;
      open_acted = i.open_acted;
      bytes = i.bytes;
      quiet = i.quiet;
      foreign = i.foreign;
      acted = i.acted;
      gave = i.gave;
      gave_end = i.gave_end;
      whose = i.whose;
      born = i.born;
      birth_le = i.birth_le;
      first_at = i.first_at;
      by = i.by;
      by_ok = i.by_ok;
      by_end = i.by_end;
      by_some = i.by_some;
      replies = all_dropped_replies c conns s t l a i.replies;
      attach_status = all_dropped_attach_status c conns s t l a i.attach_status;
      since_le = i.since_le;
      since_reply = all_dropped_since_reply c conns s t l a i.since_reply;
      since_by = i.since_by;
      since_first = i.since_first;
      prior = i.prior;
      prior_by = i.prior_by;
      prior_first = i.prior_first;
    }
