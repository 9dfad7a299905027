-- Written by tools/law_contents.py. A connection is made.
use Rattle.std.proofs.Common.{◌≡◌, ℕ, Bool, false, arith}
use Rattle.spec_exchange.specs.Table.{put}
use Rattle.spec_exchange.specs.Order.{Log}
use Rattle.spec_exchange.specs.State.{Server}
use Rattle.spec_exchange.specs.Client.{Client}
use Rattle.spec_exchange.specs.Dialogs.{open_channel}
use Rattle.spec_exchange.specs.Network.{Conn, Trace, fresh as fresh_conn}
use Rattle.law_sessions.proofs.messages.Lists.{get-push}
use Rattle.law_order.specs.order.Contents.{Contents, TokenUp, TokenDown, OpensUp, AskedAs, LostAsked, SessionAsked, FirstUp}
use Rattle.law_order.specs.order.Contents.{NotDone, CutSeq, OpenSeq, Older, NoReplay, CopyPair, CreateReply, AttachReply}
use Rattle.law_order.specs.order.Contents.{Reached, ClosedReply, AttachRefused, StaleReply, PendingAt, LiveUnsettled}
use Rattle.law_order.specs.order.Contents.{LiveReplay, Replies, AttachStatus, SinceReply}

opened_token_up : (c : Client) (conns : ℕ → Conn) (s : Server) (t : Trace) (l : Log) (a : ℕ → ℕ) (k : ℕ) (served : Bool)
    → ((conns k).client_open ≡ false) → TokenUp c conns → TokenUp (open_channel c k)
    (put conns k (fresh_conn c k served))
opened_token_up c conns s t l a k served shut i_token_up =
    λ j n x. let old = i_token_up j n x in grind (arith, get-push)

opened_token_down : (c : Client) (conns : ℕ → Conn) (s : Server) (t : Trace) (l : Log) (a : ℕ → ℕ) (k : ℕ)
    (served : Bool) → ((conns k).client_open ≡ false) → TokenDown c conns → TokenDown (open_channel c k)
    (put conns k (fresh_conn c k served))
opened_token_down c conns s t l a k served shut i_token_down =
    λ j n y. let old = i_token_down j n y in grind (arith, get-push)

opened_opens_up : (c : Client) (conns : ℕ → Conn) (s : Server) (t : Trace) (l : Log) (a : ℕ → ℕ) (k : ℕ) (served : Bool)
    → ((conns k).client_open ≡ false) → OpensUp c conns → OpensUp (open_channel c k)
    (put conns k (fresh_conn c k served))
opened_opens_up c conns s t l a k served shut i_opens_up =
    λ j n x. let old = i_opens_up j n x in grind (arith, get-push)

opened_asked_as : (c : Client) (conns : ℕ → Conn) (s : Server) (t : Trace) (l : Log) (a : ℕ → ℕ) (k : ℕ) (served : Bool)
    → ((conns k).client_open ≡ false) → AskedAs c conns → AskedAs (open_channel c k)
    (put conns k (fresh_conn c k served))
opened_asked_as c conns s t l a k served shut i_asked_as =
    λ j n p x. let old = i_asked_as j n p x in grind (arith, get-push)

opened_lost_asked : (c : Client) (conns : ℕ → Conn) (s : Server) (t : Trace) (l : Log) (a : ℕ → ℕ) (k : ℕ)
    (served : Bool) → ((conns k).client_open ≡ false) → LostAsked c → LostAsked (open_channel c k)
opened_lost_asked c conns s t l a k served shut i_lost_asked =
    λ p j z. let old = i_lost_asked p j z in grind arith

opened_session_asked : (c : Client) (conns : ℕ → Conn) (s : Server) (t : Trace) (l : Log) (a : ℕ → ℕ) (k : ℕ)
    (served : Bool) → ((conns k).client_open ≡ false) → SessionAsked c → SessionAsked (open_channel c k)
opened_session_asked c conns s t l a k served shut i_session_asked =
    λ j. let old = i_session_asked j in grind arith

opened_first_up : (c : Client) (conns : ℕ → Conn) (s : Server) (t : Trace) (l : Log) (a : ℕ → ℕ) (k : ℕ) (served : Bool)
    → ((conns k).client_open ≡ false) → FirstUp c conns l → FirstUp (open_channel c k)
    (put conns k (fresh_conn c k served)) l
opened_first_up c conns s t l a k served shut i_first_up =
    λ j n p x. let old = i_first_up j n p x in grind (arith, get-push)

opened_not_done : (c : Client) (conns : ℕ → Conn) (s : Server) (t : Trace) (l : Log) (a : ℕ → ℕ) (k : ℕ) (served : Bool)
    → ((conns k).client_open ≡ false) → NotDone c conns l → NotDone (open_channel c k)
    (put conns k (fresh_conn c k served)) l
opened_not_done c conns s t l a k served shut i_not_done =
    λ j n p y. let old = i_not_done j n p y in grind (arith, get-push)

opened_cut_seq : (c : Client) (conns : ℕ → Conn) (s : Server) (t : Trace) (l : Log) (a : ℕ → ℕ) (k : ℕ) (served : Bool)
    → ((conns k).client_open ≡ false) → CutSeq c conns → CutSeq (open_channel c k) (put conns k (fresh_conn c k served))
opened_cut_seq c conns s t l a k served shut i_cut_seq =
    λ j n p x. let old = i_cut_seq j n p x in grind (arith, get-push)

opened_open_seq : (c : Client) (conns : ℕ → Conn) (s : Server) (t : Trace) (l : Log) (a : ℕ → ℕ) (k : ℕ) (served : Bool)
    → ((conns k).client_open ≡ false) → OpenSeq c conns → OpenSeq (open_channel c k)
    (put conns k (fresh_conn c k served))
opened_open_seq c conns s t l a k served shut i_open_seq =
    λ j n p x. let old = i_open_seq j n p x in grind (arith, get-push)

opened_older : (c : Client) (conns : ℕ → Conn) (s : Server) (t : Trace) (l : Log) (a : ℕ → ℕ) (k : ℕ) (served : Bool)
    → ((conns k).client_open ≡ false) → Older c conns → Older (open_channel c k) (put conns k (fresh_conn c k served))
opened_older c conns s t l a k served shut i_older =
    λ j n i p x. let old = i_older j n i p x in grind (arith, get-push)

opened_no_replay : (c : Client) (conns : ℕ → Conn) (s : Server) (t : Trace) (l : Log) (a : ℕ → ℕ) (k : ℕ)
    (served : Bool) → ((conns k).client_open ≡ false) → NoReplay c conns → NoReplay (open_channel c k)
    (put conns k (fresh_conn c k served))
opened_no_replay c conns s t l a k served shut i_no_replay =
    λ j n i q p u x. let old = i_no_replay j n i q p u x in grind (arith, get-push)

opened_copy_pair : (c : Client) (conns : ℕ → Conn) (s : Server) (t : Trace) (l : Log) (a : ℕ → ℕ) (k : ℕ)
    (served : Bool) → ((conns k).client_open ≡ false) → CopyPair c conns s → CopyPair (open_channel c k)
    (put conns k (fresh_conn c k served)) s
opened_copy_pair c conns s t l a k served shut i_copy_pair =
    λ j n p x. let old = i_copy_pair j n p x in grind (arith, get-push)

opened_create_reply : (c : Client) (conns : ℕ → Conn) (s : Server) (t : Trace) (l : Log) (a : ℕ → ℕ) (k : ℕ)
    (served : Bool) → ((conns k).client_open ≡ false) → CreateReply c conns s t → CreateReply (open_channel c k)
    (put conns k (fresh_conn c k served)) s t
opened_create_reply c conns s t l a k served shut i_create_reply =
    λ j n p y. let old = i_create_reply j n p y in grind (arith, get-push)

opened_attach_reply : (c : Client) (conns : ℕ → Conn) (s : Server) (t : Trace) (l : Log) (a : ℕ → ℕ) (k : ℕ)
    (served : Bool) → ((conns k).client_open ≡ false) → AttachReply c conns s → AttachReply (open_channel c k)
    (put conns k (fresh_conn c k served)) s
opened_attach_reply c conns s t l a k served shut i_attach_reply =
    λ j n p y. let old = i_attach_reply j n p y in grind (arith, get-push)

opened_reached : (c : Client) (conns : ℕ → Conn) (s : Server) (t : Trace) (l : Log) (a : ℕ → ℕ) (k : ℕ) (served : Bool)
    → ((conns k).client_open ≡ false) → Reached c conns s → Reached (open_channel c k)
    (put conns k (fresh_conn c k served)) s
opened_reached c conns s t l a k served shut i_reached =
    λ j n p y. let old = i_reached j n p y in grind (arith, get-push)

opened_closed_reply : (c : Client) (conns : ℕ → Conn) (s : Server) (t : Trace) (l : Log) (a : ℕ → ℕ) (k : ℕ)
    (served : Bool) → ((conns k).client_open ≡ false) → ClosedReply c conns s → ClosedReply (open_channel c k)
    (put conns k (fresh_conn c k served)) s
opened_closed_reply c conns s t l a k served shut i_closed_reply =
    λ j n p y. let old = i_closed_reply j n p y in grind (arith, get-push)

opened_attach_refused : (c : Client) (conns : ℕ → Conn) (s : Server) (t : Trace) (l : Log) (a : ℕ → ℕ) (k : ℕ)
    (served : Bool) → ((conns k).client_open ≡ false) → AttachRefused c conns s → AttachRefused (open_channel c k)
    (put conns k (fresh_conn c k served)) s
opened_attach_refused c conns s t l a k served shut i_attach_refused =
    λ j n p y. let old = i_attach_refused j n p y in grind (arith, get-push)

opened_stale_reply : (c : Client) (conns : ℕ → Conn) (s : Server) (t : Trace) (l : Log) (a : ℕ → ℕ) (k : ℕ)
    (served : Bool) → ((conns k).client_open ≡ false) → StaleReply c conns → StaleReply (open_channel c k)
    (put conns k (fresh_conn c k served))
opened_stale_reply c conns s t l a k served shut i_stale_reply =
    λ j n p y. let old = i_stale_reply j n p y in grind (arith, get-push)

opened_pending_at : (c : Client) (conns : ℕ → Conn) (s : Server) (t : Trace) (l : Log) (a : ℕ → ℕ) (k : ℕ)
    (served : Bool) → ((conns k).client_open ≡ false) → PendingAt c s → PendingAt (open_channel c k) s
opened_pending_at c conns s t l a k served shut i_pending_at =
    λ o j. let old = i_pending_at o j in grind arith

opened_live_unsettled : (c : Client) (conns : ℕ → Conn) (s : Server) (t : Trace) (l : Log) (a : ℕ → ℕ) (k : ℕ)
    (served : Bool) → ((conns k).client_open ≡ false) → LiveUnsettled c conns s → LiveUnsettled (open_channel c k)
    (put conns k (fresh_conn c k served)) s
opened_live_unsettled c conns s t l a k served shut i_live_unsettled =
    λ j n p x. let old = i_live_unsettled j n p x in grind (arith, get-push)

opened_live_replay : (c : Client) (conns : ℕ → Conn) (s : Server) (t : Trace) (l : Log) (a : ℕ → ℕ) (k : ℕ)
    (served : Bool) → ((conns k).client_open ≡ false) → LiveReplay c conns s l → LiveReplay (open_channel c k)
    (put conns k (fresh_conn c k served)) s l
opened_live_replay c conns s t l a k served shut i_live_replay =
    λ j n p x. let old = i_live_replay j n p x in grind (arith, get-push)

opened_replies : (c : Client) (conns : ℕ → Conn) (s : Server) (t : Trace) (l : Log) (a : ℕ → ℕ) (k : ℕ) (served : Bool)
    → ((conns k).client_open ≡ false) → Replies conns l → Replies (put conns k (fresh_conn c k served)) l
opened_replies c conns s t l a k served shut i_replies =
    λ j n y. let old = i_replies j n y in grind (arith, get-push)

opened_attach_status : (c : Client) (conns : ℕ → Conn) (s : Server) (t : Trace) (l : Log) (a : ℕ → ℕ) (k : ℕ)
    (served : Bool) → ((conns k).client_open ≡ false) → AttachStatus conns
    → AttachStatus (put conns k (fresh_conn c k served))
opened_attach_status c conns s t l a k served shut i_attach_status =
    λ j n p y. let old = i_attach_status j n p y in grind (arith, get-push)

opened_since_reply : (c : Client) (conns : ℕ → Conn) (s : Server) (t : Trace) (l : Log) (a : ℕ → ℕ) (k : ℕ)
    (served : Bool) → ((conns k).client_open ≡ false) → SinceReply conns l
    → SinceReply (put conns k (fresh_conn c k served)) l
opened_since_reply c conns s t l a k served shut i_since_reply =
    λ j n y. let old = i_since_reply j n y in grind (arith, get-push)

pub opened_keeps : (c : Client) (conns : ℕ → Conn) (s : Server) (t : Trace) (l : Log) (a : ℕ → ℕ) (k : ℕ)
    (served : Bool) → ((conns k).client_open ≡ false) → Contents c conns s t l a → Contents (open_channel c k)
    (put conns k (fresh_conn c k served)) s t l a
opened_keeps c conns s t l a k served shut i =
    record {
      token_up = opened_token_up c conns s t l a k served shut i.token_up;
      token_down = opened_token_down c conns s t l a k served shut i.token_down;
      opens_up = opened_opens_up c conns s t l a k served shut i.opens_up;
      asked_as = opened_asked_as c conns s t l a k served shut i.asked_as;
      lost_unknown = i.lost_unknown;
      lost_dead = i.lost_dead;
      lost_known = i.lost_known;
      lost_asked = opened_lost_asked c conns s t l a k served shut i.lost_asked;
      session_known = i.session_known;
      session_asked = opened_session_asked c conns s t l a k served shut i.session_asked;
      pairwise = i.pairwise;
      first_up = opened_first_up c conns s t l a k served shut i.first_up;
      unacted = i.unacted;
      fresh_first = i.fresh_first;
      not_done = opened_not_done c conns s t l a k served shut i.not_done;
      cut_seq = opened_cut_seq c conns s t l a k served shut i.cut_seq;
      open_seq = opened_open_seq c conns s t l a k served shut i.open_seq;
      older = opened_older c conns s t l a k served shut i.older;
      no_replay = opened_no_replay c conns s t l a k served shut i.no_replay;
      copy_pair = opened_copy_pair c conns s t l a k served shut i.copy_pair;
      now_pair = i.now_pair;
      create_reply = opened_create_reply c conns s t l a k served shut i.create_reply;
      attach_reply = opened_attach_reply c conns s t l a k served shut i.attach_reply;
      reached = opened_reached c conns s t l a k served shut i.reached;
      closed_reply = opened_closed_reply c conns s t l a k served shut i.closed_reply;
      attach_refused = opened_attach_refused c conns s t l a k served shut i.attach_refused;
      stale_reply = opened_stale_reply c conns s t l a k served shut i.stale_reply;
      session_seq = i.session_seq;
      pending_at = opened_pending_at c conns s t l a k served shut i.pending_at;
      live_unsettled = opened_live_unsettled c conns s t l a k served shut i.live_unsettled;
      live_replay = opened_live_replay c conns s t l a k served shut i.live_replay;
      shows = i.shows;
      denied = i.denied;
      open_of = i.open_of;
      named_open = i.named_open;
      open_given = i.open_given;
      open_row = i.open_row;
      open_acted = i.open_acted;
      bytes = i.bytes;
      quiet = i.quiet;
      foreign = i.foreign;
      acted = i.acted;
      gave = i.gave;
      gave_end = i.gave_end;
      whose = i.whose;
      born = i.born;
      birth_le = i.birth_le;
      first_at = i.first_at;
      by = i.by;
      by_ok = i.by_ok;
      by_end = i.by_end;
      by_some = i.by_some;
      replies = opened_replies c conns s t l a k served shut i.replies;
      attach_status = opened_attach_status c conns s t l a k served shut i.attach_status;
      since_le = i.since_le;
      since_reply = opened_since_reply c conns s t l a k served shut i.since_reply;
      since_by = i.since_by;
      since_first = i.since_first;
      prior = i.prior;
      prior_by = i.prior_by;
      prior_first = i.prior_first;
    }
