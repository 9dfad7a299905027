-- Written by tools/law_contents.py. The next message of a dialog goes out.
use Rattle.std.proofs.Common.{ℕ, arith}
use Rattle.spec_exchange.specs.Table.{put}
use Rattle.spec_exchange.specs.Order.{Log}
use Rattle.spec_exchange.specs.State.{Server, Message}
use Rattle.spec_exchange.specs.Client.{Client}
use Rattle.spec_exchange.specs.Network.{Conn, Trace, ForDialog, send_up}
use Rattle.law_sessions.proofs.messages.Lists.{get-push}
use Rattle.law_order.specs.order.Contents.{Contents, TokenUp, TokenDown, OpensUp, AskedAs, FirstUp, NotDone, CutSeq, OpenSeq}
use Rattle.law_order.specs.order.Contents.{Older, NoReplay, CopyPair, CreateReply, AttachReply, Reached, ClosedReply}
use Rattle.law_order.specs.order.Contents.{AttachRefused, StaleReply, LiveUnsettled, LiveReplay, Replies, AttachStatus}
use Rattle.law_order.specs.order.Contents.{SinceReply}

dialog_sent_token_up : (c : Client) (conns : ℕ → Conn) (s : Server) (t : Trace) (l : Log) (a : ℕ → ℕ) (k n0 : ℕ)
    (m : Message) → TokenUp c conns → TokenUp c (put conns k (send_up (conns k) ForDialog m n0))
dialog_sent_token_up c conns s t l a k n0 m i_token_up =
    λ j n x. let old = i_token_up j n x in grind (arith, get-push)

dialog_sent_token_down : (c : Client) (conns : ℕ → Conn) (s : Server) (t : Trace) (l : Log) (a : ℕ → ℕ) (k n0 : ℕ)
    (m : Message) → TokenDown c conns → TokenDown c (put conns k (send_up (conns k) ForDialog m n0))
dialog_sent_token_down c conns s t l a k n0 m i_token_down =
    λ j n y. let old = i_token_down j n y in grind (arith, get-push)

dialog_sent_opens_up : (c : Client) (conns : ℕ → Conn) (s : Server) (t : Trace) (l : Log) (a : ℕ → ℕ) (k n0 : ℕ)
    (m : Message) → OpensUp c conns → OpensUp c (put conns k (send_up (conns k) ForDialog m n0))
dialog_sent_opens_up c conns s t l a k n0 m i_opens_up =
    λ j n x. let old = i_opens_up j n x in grind (arith, get-push)

dialog_sent_asked_as : (c : Client) (conns : ℕ → Conn) (s : Server) (t : Trace) (l : Log) (a : ℕ → ℕ) (k n0 : ℕ)
    (m : Message) → AskedAs c conns → AskedAs c (put conns k (send_up (conns k) ForDialog m n0))
dialog_sent_asked_as c conns s t l a k n0 m i_asked_as =
    λ j n p x. let old = i_asked_as j n p x in grind (arith, get-push)

dialog_sent_first_up : (c : Client) (conns : ℕ → Conn) (s : Server) (t : Trace) (l : Log) (a : ℕ → ℕ) (k n0 : ℕ)
    (m : Message) → FirstUp c conns l → FirstUp c (put conns k (send_up (conns k) ForDialog m n0)) l
dialog_sent_first_up c conns s t l a k n0 m i_first_up =
    λ j n p x. let old = i_first_up j n p x in grind (arith, get-push)

dialog_sent_not_done : (c : Client) (conns : ℕ → Conn) (s : Server) (t : Trace) (l : Log) (a : ℕ → ℕ) (k n0 : ℕ)
    (m : Message) → NotDone c conns l → NotDone c (put conns k (send_up (conns k) ForDialog m n0)) l
dialog_sent_not_done c conns s t l a k n0 m i_not_done =
    λ j n p y. let old = i_not_done j n p y in grind (arith, get-push)

dialog_sent_cut_seq : (c : Client) (conns : ℕ → Conn) (s : Server) (t : Trace) (l : Log) (a : ℕ → ℕ) (k n0 : ℕ)
    (m : Message) → CutSeq c conns → CutSeq c (put conns k (send_up (conns k) ForDialog m n0))
dialog_sent_cut_seq c conns s t l a k n0 m i_cut_seq =
    λ j n p x. let old = i_cut_seq j n p x in grind (arith, get-push)

dialog_sent_open_seq : (c : Client) (conns : ℕ → Conn) (s : Server) (t : Trace) (l : Log) (a : ℕ → ℕ) (k n0 : ℕ)
    (m : Message) → OpenSeq c conns → OpenSeq c (put conns k (send_up (conns k) ForDialog m n0))
dialog_sent_open_seq c conns s t l a k n0 m i_open_seq =
    λ j n p x. let old = i_open_seq j n p x in grind (arith, get-push)

dialog_sent_older : (c : Client) (conns : ℕ → Conn) (s : Server) (t : Trace) (l : Log) (a : ℕ → ℕ) (k n0 : ℕ)
    (m : Message) → Older c conns → Older c (put conns k (send_up (conns k) ForDialog m n0))
dialog_sent_older c conns s t l a k n0 m i_older =
    λ j n i p x. let old = i_older j n i p x in grind (arith, get-push)

dialog_sent_no_replay : (c : Client) (conns : ℕ → Conn) (s : Server) (t : Trace) (l : Log) (a : ℕ → ℕ) (k n0 : ℕ)
    (m : Message) → NoReplay c conns → NoReplay c (put conns k (send_up (conns k) ForDialog m n0))
dialog_sent_no_replay c conns s t l a k n0 m i_no_replay =
    λ j n i q p u x. let old = i_no_replay j n i q p u x in grind (arith, get-push)

dialog_sent_copy_pair : (c : Client) (conns : ℕ → Conn) (s : Server) (t : Trace) (l : Log) (a : ℕ → ℕ) (k n0 : ℕ)
    (m : Message) → CopyPair c conns s → CopyPair c (put conns k (send_up (conns k) ForDialog m n0)) s
dialog_sent_copy_pair c conns s t l a k n0 m i_copy_pair =
    λ j n p x. let old = i_copy_pair j n p x in grind (arith, get-push)

dialog_sent_create_reply : (c : Client) (conns : ℕ → Conn) (s : Server) (t : Trace) (l : Log) (a : ℕ → ℕ) (k n0 : ℕ)
    (m : Message) → CreateReply c conns s t → CreateReply c (put conns k (send_up (conns k) ForDialog m n0)) s t
dialog_sent_create_reply c conns s t l a k n0 m i_create_reply =
    λ j n p y. let old = i_create_reply j n p y in grind (arith, get-push)

dialog_sent_attach_reply : (c : Client) (conns : ℕ → Conn) (s : Server) (t : Trace) (l : Log) (a : ℕ → ℕ) (k n0 : ℕ)
    (m : Message) → AttachReply c conns s → AttachReply c (put conns k (send_up (conns k) ForDialog m n0)) s
dialog_sent_attach_reply c conns s t l a k n0 m i_attach_reply =
    λ j n p y. let old = i_attach_reply j n p y in grind (arith, get-push)

dialog_sent_reached : (c : Client) (conns : ℕ → Conn) (s : Server) (t : Trace) (l : Log) (a : ℕ → ℕ) (k n0 : ℕ)
    (m : Message) → Reached c conns s → Reached c (put conns k (send_up (conns k) ForDialog m n0)) s
dialog_sent_reached c conns s t l a k n0 m i_reached =
    λ j n p y. let old = i_reached j n p y in grind (arith, get-push)

dialog_sent_closed_reply : (c : Client) (conns : ℕ → Conn) (s : Server) (t : Trace) (l : Log) (a : ℕ → ℕ) (k n0 : ℕ)
    (m : Message) → ClosedReply c conns s → ClosedReply c (put conns k (send_up (conns k) ForDialog m n0)) s
dialog_sent_closed_reply c conns s t l a k n0 m i_closed_reply =
    λ j n p y. let old = i_closed_reply j n p y in grind (arith, get-push)

dialog_sent_attach_refused : (c : Client) (conns : ℕ → Conn) (s : Server) (t : Trace) (l : Log) (a : ℕ → ℕ) (k n0 : ℕ)
    (m : Message) → AttachRefused c conns s → AttachRefused c (put conns k (send_up (conns k) ForDialog m n0)) s
dialog_sent_attach_refused c conns s t l a k n0 m i_attach_refused =
    λ j n p y. let old = i_attach_refused j n p y in grind (arith, get-push)

dialog_sent_stale_reply : (c : Client) (conns : ℕ → Conn) (s : Server) (t : Trace) (l : Log) (a : ℕ → ℕ) (k n0 : ℕ)
    (m : Message) → StaleReply c conns → StaleReply c (put conns k (send_up (conns k) ForDialog m n0))
dialog_sent_stale_reply c conns s t l a k n0 m i_stale_reply =
    λ j n p y. let old = i_stale_reply j n p y in grind (arith, get-push)

dialog_sent_live_unsettled : (c : Client) (conns : ℕ → Conn) (s : Server) (t : Trace) (l : Log) (a : ℕ → ℕ) (k n0 : ℕ)
    (m : Message) → LiveUnsettled c conns s → LiveUnsettled c (put conns k (send_up (conns k) ForDialog m n0)) s
dialog_sent_live_unsettled c conns s t l a k n0 m i_live_unsettled =
    λ j n p x. let old = i_live_unsettled j n p x in grind (arith, get-push)

dialog_sent_live_replay : (c : Client) (conns : ℕ → Conn) (s : Server) (t : Trace) (l : Log) (a : ℕ → ℕ) (k n0 : ℕ)
    (m : Message) → LiveReplay c conns s l → LiveReplay c (put conns k (send_up (conns k) ForDialog m n0)) s l
dialog_sent_live_replay c conns s t l a k n0 m i_live_replay =
    λ j n p x. let old = i_live_replay j n p x in grind (arith, get-push)

dialog_sent_replies : (c : Client) (conns : ℕ → Conn) (s : Server) (t : Trace) (l : Log) (a : ℕ → ℕ) (k n0 : ℕ)
    (m : Message) → Replies conns l → Replies (put conns k (send_up (conns k) ForDialog m n0)) l
dialog_sent_replies c conns s t l a k n0 m i_replies =
    λ j n y. let old = i_replies j n y in grind (arith, get-push)

dialog_sent_attach_status : (c : Client) (conns : ℕ → Conn) (s : Server) (t : Trace) (l : Log) (a : ℕ → ℕ) (k n0 : ℕ)
    (m : Message) → AttachStatus conns → AttachStatus (put conns k (send_up (conns k) ForDialog m n0))
dialog_sent_attach_status c conns s t l a k n0 m i_attach_status =
    λ j n p y. let old = i_attach_status j n p y in grind (arith, get-push)

dialog_sent_since_reply : (c : Client) (conns : ℕ → Conn) (s : Server) (t : Trace) (l : Log) (a : ℕ → ℕ) (k n0 : ℕ)
    (m : Message) → SinceReply conns l → SinceReply (put conns k (send_up (conns k) ForDialog m n0)) l
dialog_sent_since_reply c conns s t l a k n0 m i_since_reply =
    λ j n y. let old = i_since_reply j n y in grind (arith, get-push)

pub dialog_sent_keeps : (c : Client) (conns : ℕ → Conn) (s : Server) (t : Trace) (l : Log) (a : ℕ → ℕ) (k n0 : ℕ)
    (m : Message) → Contents c conns s t l a → Contents c (put conns k (send_up (conns k) ForDialog m n0)) s t l a
dialog_sent_keeps c conns s t l a k n0 m i =
    record {
      token_up = dialog_sent_token_up c conns s t l a k n0 m i.token_up;
      token_down = dialog_sent_token_down c conns s t l a k n0 m i.token_down;
      opens_up = dialog_sent_opens_up c conns s t l a k n0 m i.opens_up;
      asked_as = dialog_sent_asked_as c conns s t l a k n0 m i.asked_as;
      lost_unknown = i.lost_unknown;
      lost_dead = i.lost_dead;
      lost_known = i.lost_known;
      lost_asked = i.lost_asked;
      session_known = i.session_known;
      session_asked = i.session_asked;
      pairwise = i.pairwise;
      first_up = dialog_sent_first_up c conns s t l a k n0 m i.first_up;
      unacted = i.unacted;
      fresh_first = i.fresh_first;
      not_done = dialog_sent_not_done c conns s t l a k n0 m i.not_done;
      cut_seq = dialog_sent_cut_seq c conns s t l a k n0 m i.cut_seq;
      open_seq = dialog_sent_open_seq c conns s t l a k n0 m i.open_seq;
      older = dialog_sent_older c conns s t l a k n0 m i.older;
      no_replay = dialog_sent_no_replay c conns s t l a k n0 m i.no_replay;
      copy_pair = dialog_sent_copy_pair c conns s t l a k n0 m i.copy_pair;
      now_pair = i.now_pair;
      create_reply = dialog_sent_create_reply c conns s t l a k n0 m i.create_reply;
      attach_reply = dialog_sent_attach_reply c conns s t l a k n0 m i.attach_reply;
      reached = dialog_sent_reached c conns s t l a k n0 m i.reached;
      closed_reply = dialog_sent_closed_reply c conns s t l a k n0 m i.closed_reply;
      attach_refused = dialog_sent_attach_refused c conns s t l a k n0 m i.attach_refused;
      stale_reply = dialog_sent_stale_reply c conns s t l a k n0 m i.stale_reply;
      session_seq = i.session_seq;
      pending_at = i.pending_at;
      live_unsettled = dialog_sent_live_unsettled c conns s t l a k n0 m i.live_unsettled;
      live_replay = dialog_sent_live_replay c conns s t l a k n0 m i.live_replay;
      shows = i.shows;
      denied = i.denied;
      open_of = i.open_of;
      named_open = i.named_open;
      open_given = i.open_given;
      open_row = i.open_row;
      open_acted = i.open_acted;
      bytes = i.bytes;
      quiet = i.quiet;
      foreign = i.foreign;
      acted = i.acted;
      gave = i.gave;
      gave_end = i.gave_end;
      whose = i.whose;
      born = i.born;
      birth_le = i.birth_le;
      first_at = i.first_at;
      by = i.by;
      by_ok = i.by_ok;
      by_end = i.by_end;
      by_some = i.by_some;
      replies = dialog_sent_replies c conns s t l a k n0 m i.replies;
      attach_status = dialog_sent_attach_status c conns s t l a k n0 m i.attach_status;
      since_le = i.since_le;
      since_reply = dialog_sent_since_reply c conns s t l a k n0 m i.since_reply;
      since_by = i.since_by;
      since_first = i.since_first;
      prior = i.prior;
      prior_by = i.prior_by;
      prior_first = i.prior_first;
    }
