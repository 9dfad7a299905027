-- Written by tools/law_contents.py. A ready channel is cut.
use Rattle.std.proofs.Common.{◌≡◌, ℕ, ◌≤◌, true, false, arith, Some, slice_get}
use Rattle.spec_exchange.specs.Table.{put}
use Rattle.spec_exchange.specs.Order.{Log}
use Rattle.spec_exchange.specs.State.{Server}
use Rattle.spec_exchange.specs.Client.{Client, cut_channel}
use Rattle.spec_exchange.specs.Network.{Conn, Sent, Trace, ForOp, client_off}
use Rattle.law_sessions.proofs.messages.Lists.{get-push}
use Rattle.law_order.specs.order.Contents.{Contents, TokenUp, TokenDown, OpensUp, AskedAs, FirstUp, Unacted, NotDone, CutSeq}
use Rattle.law_order.specs.order.Contents.{OpenSeq, Older, NoReplay, CopyPair, CreateReply, AttachReply, Reached, ClosedReply}
use Rattle.law_order.specs.order.Contents.{AttachRefused, StaleReply, SessionSeq, LiveUnsettled, LiveReplay, Replies}
use Rattle.law_order.specs.order.Contents.{AttachStatus, SinceReply}

cut_token_up : (c : Client) (conns : ℕ → Conn) (s : Server) (t : Trace) (l : Log) (a : ℕ → ℕ) (k : ℕ) → TokenUp c conns
    → TokenUp (cut_channel c k) (put conns k (client_off (conns k)))
cut_token_up c conns s t l a k i_token_up =
    λ j n x. let old = i_token_up j n x in grind (arith, get-push)

cut_token_down : (c : Client) (conns : ℕ → Conn) (s : Server) (t : Trace) (l : Log) (a : ℕ → ℕ) (k : ℕ)
    → TokenDown c conns → TokenDown (cut_channel c k) (put conns k (client_off (conns k)))
cut_token_down c conns s t l a k i_token_down =
    λ j n y. let old = i_token_down j n y in grind (arith, get-push)

cut_opens_up : (c : Client) (conns : ℕ → Conn) (s : Server) (t : Trace) (l : Log) (a : ℕ → ℕ) (k : ℕ) → OpensUp c conns
    → OpensUp (cut_channel c k) (put conns k (client_off (conns k)))
cut_opens_up c conns s t l a k i_opens_up =
    λ j n x. let old = i_opens_up j n x in grind (arith, get-push)

cut_asked_as : (c : Client) (conns : ℕ → Conn) (s : Server) (t : Trace) (l : Log) (a : ℕ → ℕ) (k : ℕ) → AskedAs c conns
    → AskedAs (cut_channel c k) (put conns k (client_off (conns k)))
cut_asked_as c conns s t l a k i_asked_as =
    λ j n p x. let old = i_asked_as j n p x in grind (arith, get-push)

cut_first_up : (c : Client) (conns : ℕ → Conn) (s : Server) (t : Trace) (l : Log) (a : ℕ → ℕ) (k : ℕ)
    → ((n p : ℕ) (x : Sent) → slice_get (conns k).up n ≡ Some x → x.token ≡ ForOp p → (conns k).client_open ≡ true
    → c.outstanding_on p ≡ Some k × c.asks_attach p ≡ false) → FirstUp c conns l → FirstUp (cut_channel c k)
    (put conns k (client_off (conns k))) l
cut_first_up c conns s t l a k mine i_first_up =
    λ j n p x h e ed b. let h' : slice_get (conns j).up n ≡ Some x = grind arith in let my = mine n p x in let old =
    i_first_up j n p x h' e ed in grind arith

cut_unacted : (c : Client) (conns : ℕ → Conn) (s : Server) (t : Trace) (l : Log) (a : ℕ → ℕ) (k : ℕ) → Unacted c l
    → Unacted (cut_channel c k) l
cut_unacted c conns s t l a k i_unacted =
    λ p. let old = i_unacted p in grind arith

cut_not_done : (c : Client) (conns : ℕ → Conn) (s : Server) (t : Trace) (l : Log) (a : ℕ → ℕ) (k : ℕ)
    → NotDone c conns l → NotDone (cut_channel c k) (put conns k (client_off (conns k))) l
cut_not_done c conns s t l a k i_not_done =
    λ j n p y. let old = i_not_done j n p y in grind (arith, get-push)

cut_cut_seq : (c : Client) (conns : ℕ → Conn) (s : Server) (t : Trace) (l : Log) (a : ℕ → ℕ) (k : ℕ)
    → ((j n : ℕ) (x : Sent) → slice_get (conns j).up n ≡ Some x → x.message.session_id ≡ c.session → c.live ≡ true
    → x.message.channel_sequence ≤ c.sequence) → CutSeq c conns → CutSeq (cut_channel c k)
    (put conns k (client_off (conns k)))
cut_cut_seq c conns s t l a k upto i_cut_seq =
    λ j n p x h e ed op lv se. let h' : slice_get (conns j).up n ≡ Some x = grind arith in let old = i_cut_seq j n p x
    h' e ed in let most = upto j n x h' se lv in grind arith

cut_open_seq : (c : Client) (conns : ℕ → Conn) (s : Server) (t : Trace) (l : Log) (a : ℕ → ℕ) (k : ℕ) → OpenSeq c conns
    → OpenSeq (cut_channel c k) (put conns k (client_off (conns k)))
cut_open_seq c conns s t l a k i_open_seq =
    λ j n p x. let old = i_open_seq j n p x in grind (arith, get-push)

cut_older : (c : Client) (conns : ℕ → Conn) (s : Server) (t : Trace) (l : Log) (a : ℕ → ℕ) (k : ℕ) → Older c conns
    → Older (cut_channel c k) (put conns k (client_off (conns k)))
cut_older c conns s t l a k i_older =
    λ j n i p x. let old = i_older j n i p x in grind (arith, get-push)

cut_no_replay : (c : Client) (conns : ℕ → Conn) (s : Server) (t : Trace) (l : Log) (a : ℕ → ℕ) (k : ℕ)
    → NoReplay c conns → NoReplay (cut_channel c k) (put conns k (client_off (conns k)))
cut_no_replay c conns s t l a k i_no_replay =
    λ j n i q p u x. let old = i_no_replay j n i q p u x in grind (arith, get-push)

cut_copy_pair : (c : Client) (conns : ℕ → Conn) (s : Server) (t : Trace) (l : Log) (a : ℕ → ℕ) (k : ℕ)
    → CopyPair c conns s → CopyPair (cut_channel c k) (put conns k (client_off (conns k))) s
cut_copy_pair c conns s t l a k i_copy_pair =
    λ j n p x. let old = i_copy_pair j n p x in grind (arith, get-push)

cut_create_reply : (c : Client) (conns : ℕ → Conn) (s : Server) (t : Trace) (l : Log) (a : ℕ → ℕ) (k : ℕ)
    → CreateReply c conns s t → CreateReply (cut_channel c k) (put conns k (client_off (conns k))) s t
cut_create_reply c conns s t l a k i_create_reply =
    λ j n p y. let old = i_create_reply j n p y in grind (arith, get-push)

cut_attach_reply : (c : Client) (conns : ℕ → Conn) (s : Server) (t : Trace) (l : Log) (a : ℕ → ℕ) (k : ℕ)
    → AttachReply c conns s → AttachReply (cut_channel c k) (put conns k (client_off (conns k))) s
cut_attach_reply c conns s t l a k i_attach_reply =
    λ j n p y. let old = i_attach_reply j n p y in grind (arith, get-push)

cut_reached : (c : Client) (conns : ℕ → Conn) (s : Server) (t : Trace) (l : Log) (a : ℕ → ℕ) (k : ℕ) → Reached c conns s
    → Reached (cut_channel c k) (put conns k (client_off (conns k))) s
cut_reached c conns s t l a k i_reached =
    λ j n p y. let old = i_reached j n p y in grind (arith, get-push)

cut_closed_reply : (c : Client) (conns : ℕ → Conn) (s : Server) (t : Trace) (l : Log) (a : ℕ → ℕ) (k : ℕ)
    → ClosedReply c conns s → ClosedReply (cut_channel c k) (put conns k (client_off (conns k))) s
cut_closed_reply c conns s t l a k i_closed_reply =
    λ j n p y. let old = i_closed_reply j n p y in grind (arith, get-push)

cut_attach_refused : (c : Client) (conns : ℕ → Conn) (s : Server) (t : Trace) (l : Log) (a : ℕ → ℕ) (k : ℕ)
    → AttachRefused c conns s → AttachRefused (cut_channel c k) (put conns k (client_off (conns k))) s
cut_attach_refused c conns s t l a k i_attach_refused =
    λ j n p y. let old = i_attach_refused j n p y in grind (arith, get-push)

cut_stale_reply : (c : Client) (conns : ℕ → Conn) (s : Server) (t : Trace) (l : Log) (a : ℕ → ℕ) (k : ℕ)
    → StaleReply c conns → StaleReply (cut_channel c k) (put conns k (client_off (conns k)))
cut_stale_reply c conns s t l a k i_stale_reply =
    λ j n p y. let old = i_stale_reply j n p y in grind (arith, get-push)

cut_session_seq : (c : Client) (conns : ℕ → Conn) (s : Server) (t : Trace) (l : Log) (a : ℕ → ℕ) (k : ℕ)
    → SessionSeq c s → SessionSeq (cut_channel c k) s
cut_session_seq c conns s t l a k i_session_seq =
    λ o. let old = i_session_seq o in grind arith

cut_live_unsettled : (c : Client) (conns : ℕ → Conn) (s : Server) (t : Trace) (l : Log) (a : ℕ → ℕ) (k : ℕ)
    → LiveUnsettled c conns s → LiveUnsettled (cut_channel c k) (put conns k (client_off (conns k))) s
cut_live_unsettled c conns s t l a k i_live_unsettled =
    λ j n p x. let old = i_live_unsettled j n p x in grind (arith, get-push)

cut_live_replay : (c : Client) (conns : ℕ → Conn) (s : Server) (t : Trace) (l : Log) (a : ℕ → ℕ) (k : ℕ)
    → LiveReplay c conns s l → LiveReplay (cut_channel c k) (put conns k (client_off (conns k))) s l
cut_live_replay c conns s t l a k i_live_replay =
    λ j n p x. let old = i_live_replay j n p x in grind (arith, get-push)

cut_replies : (c : Client) (conns : ℕ → Conn) (s : Server) (t : Trace) (l : Log) (a : ℕ → ℕ) (k : ℕ) → Replies conns l
    → Replies (put conns k (client_off (conns k))) l
cut_replies c conns s t l a k i_replies =
    λ j n y. let old = i_replies j n y in grind (arith, get-push)

cut_attach_status : (c : Client) (conns : ℕ → Conn) (s : Server) (t : Trace) (l : Log) (a : ℕ → ℕ) (k : ℕ)
    → AttachStatus conns → AttachStatus (put conns k (client_off (conns k)))
cut_attach_status c conns s t l a k i_attach_status =
    λ j n p y. let old = i_attach_status j n p y in grind (arith, get-push)

cut_since_reply : (c : Client) (conns : ℕ → Conn) (s : Server) (t : Trace) (l : Log) (a : ℕ → ℕ) (k : ℕ)
    → SinceReply conns l → SinceReply (put conns k (client_off (conns k))) l
cut_since_reply c conns s t l a k i_since_reply =
    λ j n y. let old = i_since_reply j n y in grind (arith, get-push)

pub cut_keeps : (c : Client) (conns : ℕ → Conn) (s : Server) (t : Trace) (l : Log) (a : ℕ → ℕ) (k : ℕ)
    → ((n p : ℕ) (x : Sent) → slice_get (conns k).up n ≡ Some x → x.token ≡ ForOp p → (conns k).client_open ≡ true
    → c.outstanding_on p ≡ Some k × c.asks_attach p ≡ false) → ((j n : ℕ) (x : Sent) → slice_get (conns j).up n ≡ Some x
    → x.message.session_id ≡ c.session → c.live ≡ true → x.message.channel_sequence ≤ c.sequence)
    → Contents c conns s t l a → Contents (cut_channel c k) (put conns k (client_off (conns k))) s t l a
cut_keeps c conns s t l a k mine upto i =
    record {
      token_up = cut_token_up c conns s t l a k i.token_up;
      token_down = cut_token_down c conns s t l a k i.token_down;
      opens_up = cut_opens_up c conns s t l a k i.opens_up;
      asked_as = cut_asked_as c conns s t l a k i.asked_as;
      lost_unknown = i.lost_unknown;
      lost_dead = i.lost_dead;
      lost_known = i.lost_known;
      lost_asked = i.lost_asked;
      session_known = i.session_known;
      session_asked = i.session_asked;
      pairwise = i.pairwise;
      first_up = cut_first_up c conns s t l a k mine i.first_up;
      unacted = cut_unacted c conns s t l a k i.unacted;
      fresh_first = i.fresh_first;
      not_done = cut_not_done c conns s t l a k i.not_done;
      cut_seq = cut_cut_seq c conns s t l a k upto i.cut_seq;
      open_seq = cut_open_seq c conns s t l a k i.open_seq;
      older = cut_older c conns s t l a k i.older;
      no_replay = cut_no_replay c conns s t l a k i.no_replay;
      copy_pair = cut_copy_pair c conns s t l a k i.copy_pair;
      now_pair = i.now_pair;
      create_reply = cut_create_reply c conns s t l a k i.create_reply;
      attach_reply = cut_attach_reply c conns s t l a k i.attach_reply;
      reached = cut_reached c conns s t l a k i.reached;
      closed_reply = cut_closed_reply c conns s t l a k i.closed_reply;
      attach_refused = cut_attach_refused c conns s t l a k i.attach_refused;
      stale_reply = cut_stale_reply c conns s t l a k i.stale_reply;
      session_seq = cut_session_seq c conns s t l a k i.session_seq;
      pending_at = i.pending_at;
      live_unsettled = cut_live_unsettled c conns s t l a k i.live_unsettled;
      live_replay = cut_live_replay c conns s t l a k i.live_replay;
      shows = i.shows;
      denied = i.denied;
      open_of = i.open_of;
      named_open = i.named_open;
      open_given = i.open_given;
      open_row = i.open_row;
      open_acted = i.open_acted;
      bytes = i.bytes;
      quiet = i.quiet;
      foreign = i.foreign;
      acted = i.acted;
      gave = i.gave;
      gave_end = i.gave_end;
      whose = i.whose;
      born = i.born;
      birth_le = i.birth_le;
      first_at = i.first_at;
      by = i.by;
      by_ok = i.by_ok;
      by_end = i.by_end;
      by_some = i.by_some;
      replies = cut_replies c conns s t l a k i.replies;
      attach_status = cut_attach_status c conns s t l a k i.attach_status;
      since_le = i.since_le;
      since_reply = cut_since_reply c conns s t l a k i.since_reply;
      since_by = i.since_by;
      since_first = i.since_first;
      prior = i.prior;
      prior_by = i.prior_by;
      prior_first = i.prior_first;
    }
