-- Written by tools/law_contents.py. A dialog is refused, and the client closes its channel.
use Rattle.std.proofs.Common.{◌≡◌, ℕ, false, arith, Some, slice_get}
use Rattle.spec_exchange.specs.Table.{put}
use Rattle.spec_exchange.specs.Order.{Log}
use Rattle.spec_exchange.specs.State.{Server}
use Rattle.spec_exchange.specs.Operations.{HadStatus}
use Rattle.spec_exchange.specs.Client.{Client, note_refusal}
use Rattle.spec_exchange.specs.Network.{Conn, Sent, Trace, ForOp, client_off}
use Rattle.law_sessions.proofs.messages.Lists.{get-push}
use Rattle.law_order.specs.order.Contents.{Contents, TokenUp, TokenDown, OpensUp, AskedAs, LostAsked, SessionAsked, FirstUp}
use Rattle.law_order.specs.order.Contents.{NotDone, CutSeq, OpenSeq, Older, NoReplay, CopyPair, CreateReply, AttachReply}
use Rattle.law_order.specs.order.Contents.{Reached, ClosedReply, AttachRefused, StaleReply, PendingAt, LiveUnsettled}
use Rattle.law_order.specs.order.Contents.{LiveReplay, Replies, AttachStatus, SinceReply}

dialog_refused_token_up : (c : Client) (conns : ℕ → Conn) (s : Server) (t : Trace) (l : Log) (a : ℕ → ℕ) (k status : ℕ)
    → TokenUp c conns → TokenUp (note_refusal c k (HadStatus status)) (put conns k (client_off (conns k)))
dialog_refused_token_up c conns s t l a k status i_token_up =
    λ j n x. let old = i_token_up j n x in grind (arith, get-push)

dialog_refused_token_down : (c : Client) (conns : ℕ → Conn) (s : Server) (t : Trace) (l : Log) (a : ℕ → ℕ)
    (k status : ℕ) → TokenDown c conns → TokenDown (note_refusal c k (HadStatus status))
    (put conns k (client_off (conns k)))
dialog_refused_token_down c conns s t l a k status i_token_down =
    λ j n y. let old = i_token_down j n y in grind (arith, get-push)

dialog_refused_opens_up : (c : Client) (conns : ℕ → Conn) (s : Server) (t : Trace) (l : Log) (a : ℕ → ℕ) (k status : ℕ)
    → OpensUp c conns → OpensUp (note_refusal c k (HadStatus status)) (put conns k (client_off (conns k)))
dialog_refused_opens_up c conns s t l a k status i_opens_up =
    λ j n x. let old = i_opens_up j n x in grind (arith, get-push)

dialog_refused_asked_as : (c : Client) (conns : ℕ → Conn) (s : Server) (t : Trace) (l : Log) (a : ℕ → ℕ) (k status : ℕ)
    → AskedAs c conns → AskedAs (note_refusal c k (HadStatus status)) (put conns k (client_off (conns k)))
dialog_refused_asked_as c conns s t l a k status i_asked_as =
    λ j n p x. let old = i_asked_as j n p x in grind (arith, get-push)

dialog_refused_lost_asked : (c : Client) (conns : ℕ → Conn) (s : Server) (t : Trace) (l : Log) (a : ℕ → ℕ)
    (k status : ℕ) → LostAsked c → LostAsked (note_refusal c k (HadStatus status))
dialog_refused_lost_asked c conns s t l a k status i_lost_asked =
    λ p j z. let old = i_lost_asked p j z in grind arith

dialog_refused_session_asked : (c : Client) (conns : ℕ → Conn) (s : Server) (t : Trace) (l : Log) (a : ℕ → ℕ)
    (k status : ℕ) → SessionAsked c → SessionAsked (note_refusal c k (HadStatus status))
dialog_refused_session_asked c conns s t l a k status i_session_asked =
    λ j. let old = i_session_asked j in grind arith

dialog_refused_first_up : (c : Client) (conns : ℕ → Conn) (s : Server) (t : Trace) (l : Log) (a : ℕ → ℕ) (k status : ℕ)
    → ((n p : ℕ) (x : Sent) → slice_get (conns k).up n ≡ Some x → x.token ≡ ForOp p → (conns k).client_open ≡ false)
    → FirstUp c conns l → FirstUp (note_refusal c k (HadStatus status)) (put conns k (client_off (conns k))) l
dialog_refused_first_up c conns s t l a k status apart i_first_up =
    λ j n p x h e ed b. let h' : slice_get (conns j).up n ≡ Some x = grind arith in let ap = apart n p x in let old =
    i_first_up j n p x h' e ed b in grind arith

dialog_refused_not_done : (c : Client) (conns : ℕ → Conn) (s : Server) (t : Trace) (l : Log) (a : ℕ → ℕ) (k status : ℕ)
    → NotDone c conns l → NotDone (note_refusal c k (HadStatus status)) (put conns k (client_off (conns k))) l
dialog_refused_not_done c conns s t l a k status i_not_done =
    λ j n p y. let old = i_not_done j n p y in grind (arith, get-push)

dialog_refused_cut_seq : (c : Client) (conns : ℕ → Conn) (s : Server) (t : Trace) (l : Log) (a : ℕ → ℕ) (k status : ℕ)
    → ((n p : ℕ) (x : Sent) → slice_get (conns k).up n ≡ Some x → x.token ≡ ForOp p → (conns k).client_open ≡ false)
    → CutSeq c conns → CutSeq (note_refusal c k (HadStatus status)) (put conns k (client_off (conns k)))
dialog_refused_cut_seq c conns s t l a k status apart i_cut_seq =
    λ j n p x h e ed op lv se. let h' : slice_get (conns j).up n ≡ Some x = grind arith in let ap = apart n p x in
    let old = i_cut_seq j n p x h' e ed in grind arith

dialog_refused_open_seq : (c : Client) (conns : ℕ → Conn) (s : Server) (t : Trace) (l : Log) (a : ℕ → ℕ) (k status : ℕ)
    → OpenSeq c conns → OpenSeq (note_refusal c k (HadStatus status)) (put conns k (client_off (conns k)))
dialog_refused_open_seq c conns s t l a k status i_open_seq =
    λ j n p x. let old = i_open_seq j n p x in grind (arith, get-push)

dialog_refused_older : (c : Client) (conns : ℕ → Conn) (s : Server) (t : Trace) (l : Log) (a : ℕ → ℕ) (k status : ℕ)
    → Older c conns → Older (note_refusal c k (HadStatus status)) (put conns k (client_off (conns k)))
dialog_refused_older c conns s t l a k status i_older =
    λ j n i p x. let old = i_older j n i p x in grind (arith, get-push)

dialog_refused_no_replay : (c : Client) (conns : ℕ → Conn) (s : Server) (t : Trace) (l : Log) (a : ℕ → ℕ) (k status : ℕ)
    → NoReplay c conns → NoReplay (note_refusal c k (HadStatus status)) (put conns k (client_off (conns k)))
dialog_refused_no_replay c conns s t l a k status i_no_replay =
    λ j n i q p u x. let old = i_no_replay j n i q p u x in grind (arith, get-push)

dialog_refused_copy_pair : (c : Client) (conns : ℕ → Conn) (s : Server) (t : Trace) (l : Log) (a : ℕ → ℕ) (k status : ℕ)
    → CopyPair c conns s → CopyPair (note_refusal c k (HadStatus status)) (put conns k (client_off (conns k))) s
dialog_refused_copy_pair c conns s t l a k status i_copy_pair =
    λ j n p x. let old = i_copy_pair j n p x in grind (arith, get-push)

dialog_refused_create_reply : (c : Client) (conns : ℕ → Conn) (s : Server) (t : Trace) (l : Log) (a : ℕ → ℕ)
    (k status : ℕ) → CreateReply c conns s t → CreateReply (note_refusal c k (HadStatus status))
    (put conns k (client_off (conns k))) s t
dialog_refused_create_reply c conns s t l a k status i_create_reply =
    λ j n p y. let old = i_create_reply j n p y in grind (arith, get-push)

dialog_refused_attach_reply : (c : Client) (conns : ℕ → Conn) (s : Server) (t : Trace) (l : Log) (a : ℕ → ℕ)
    (k status : ℕ) → AttachReply c conns s → AttachReply (note_refusal c k (HadStatus status))
    (put conns k (client_off (conns k))) s
dialog_refused_attach_reply c conns s t l a k status i_attach_reply =
    λ j n p y. let old = i_attach_reply j n p y in grind (arith, get-push)

dialog_refused_reached : (c : Client) (conns : ℕ → Conn) (s : Server) (t : Trace) (l : Log) (a : ℕ → ℕ) (k status : ℕ)
    → Reached c conns s → Reached (note_refusal c k (HadStatus status)) (put conns k (client_off (conns k))) s
dialog_refused_reached c conns s t l a k status i_reached =
    λ j n p y. let old = i_reached j n p y in grind (arith, get-push)

dialog_refused_closed_reply : (c : Client) (conns : ℕ → Conn) (s : Server) (t : Trace) (l : Log) (a : ℕ → ℕ)
    (k status : ℕ) → ClosedReply c conns s → ClosedReply (note_refusal c k (HadStatus status))
    (put conns k (client_off (conns k))) s
dialog_refused_closed_reply c conns s t l a k status i_closed_reply =
    λ j n p y. let old = i_closed_reply j n p y in grind (arith, get-push)

dialog_refused_attach_refused : (c : Client) (conns : ℕ → Conn) (s : Server) (t : Trace) (l : Log) (a : ℕ → ℕ)
    (k status : ℕ) → AttachRefused c conns s → AttachRefused (note_refusal c k (HadStatus status))
    (put conns k (client_off (conns k))) s
dialog_refused_attach_refused c conns s t l a k status i_attach_refused =
    λ j n p y. let old = i_attach_refused j n p y in grind (arith, get-push)

dialog_refused_stale_reply : (c : Client) (conns : ℕ → Conn) (s : Server) (t : Trace) (l : Log) (a : ℕ → ℕ)
    (k status : ℕ) → StaleReply c conns → StaleReply (note_refusal c k (HadStatus status))
    (put conns k (client_off (conns k)))
dialog_refused_stale_reply c conns s t l a k status i_stale_reply =
    λ j n p y. let old = i_stale_reply j n p y in grind (arith, get-push)

dialog_refused_pending_at : (c : Client) (conns : ℕ → Conn) (s : Server) (t : Trace) (l : Log) (a : ℕ → ℕ)
    (k status : ℕ) → PendingAt c s → PendingAt (note_refusal c k (HadStatus status)) s
dialog_refused_pending_at c conns s t l a k status i_pending_at =
    λ o j. let old = i_pending_at o j in grind arith

dialog_refused_live_unsettled : (c : Client) (conns : ℕ → Conn) (s : Server) (t : Trace) (l : Log) (a : ℕ → ℕ)
    (k status : ℕ) → LiveUnsettled c conns s → LiveUnsettled (note_refusal c k (HadStatus status))
    (put conns k (client_off (conns k))) s
dialog_refused_live_unsettled c conns s t l a k status i_live_unsettled =
    λ j n p x. let old = i_live_unsettled j n p x in grind (arith, get-push)

dialog_refused_live_replay : (c : Client) (conns : ℕ → Conn) (s : Server) (t : Trace) (l : Log) (a : ℕ → ℕ)
    (k status : ℕ) → LiveReplay c conns s l → LiveReplay (note_refusal c k (HadStatus status))
    (put conns k (client_off (conns k))) s l
dialog_refused_live_replay c conns s t l a k status i_live_replay =
    λ j n p x. let old = i_live_replay j n p x in grind (arith, get-push)

dialog_refused_replies : (c : Client) (conns : ℕ → Conn) (s : Server) (t : Trace) (l : Log) (a : ℕ → ℕ) (k status : ℕ)
    → Replies conns l → Replies (put conns k (client_off (conns k))) l
dialog_refused_replies c conns s t l a k status i_replies =
    λ j n y. let old = i_replies j n y in grind (arith, get-push)

dialog_refused_attach_status : (c : Client) (conns : ℕ → Conn) (s : Server) (t : Trace) (l : Log) (a : ℕ → ℕ)
    (k status : ℕ) → AttachStatus conns → AttachStatus (put conns k (client_off (conns k)))
dialog_refused_attach_status c conns s t l a k status i_attach_status =
    λ j n p y. let old = i_attach_status j n p y in grind (arith, get-push)

dialog_refused_since_reply : (c : Client) (conns : ℕ → Conn) (s : Server) (t : Trace) (l : Log) (a : ℕ → ℕ)
    (k status : ℕ) → SinceReply conns l → SinceReply (put conns k (client_off (conns k))) l
dialog_refused_since_reply c conns s t l a k status i_since_reply =
    λ j n y. let old = i_since_reply j n y in grind (arith, get-push)

pub dialog_refused_keeps : (c : Client) (conns : ℕ → Conn) (s : Server) (t : Trace) (l : Log) (a : ℕ → ℕ) (k status : ℕ)
    → ((n p : ℕ) (x : Sent) → slice_get (conns k).up n ≡ Some x → x.token ≡ ForOp p → (conns k).client_open ≡ false)
    → Contents c conns s t l a → Contents (note_refusal c k (HadStatus status)) (put conns k (client_off (conns k))) s t
    l a
dialog_refused_keeps c conns s t l a k status apart i =
    record {
      token_up = dialog_refused_token_up c conns s t l a k status i.token_up;
      token_down = dialog_refused_token_down c conns s t l a k status i.token_down;
      opens_up = dialog_refused_opens_up c conns s t l a k status i.opens_up;
      asked_as = dialog_refused_asked_as c conns s t l a k status i.asked_as;
      lost_unknown = i.lost_unknown;
      lost_dead = i.lost_dead;
      lost_known = i.lost_known;
      lost_asked = dialog_refused_lost_asked c conns s t l a k status i.lost_asked;
      session_known = i.session_known;
      session_asked = dialog_refused_session_asked c conns s t l a k status i.session_asked;
      pairwise = i.pairwise;
      first_up = dialog_refused_first_up c conns s t l a k status apart i.first_up;
      unacted = i.unacted;
      fresh_first = i.fresh_first;
      not_done = dialog_refused_not_done c conns s t l a k status i.not_done;
      cut_seq = dialog_refused_cut_seq c conns s t l a k status apart i.cut_seq;
      open_seq = dialog_refused_open_seq c conns s t l a k status i.open_seq;
      older = dialog_refused_older c conns s t l a k status i.older;
      no_replay = dialog_refused_no_replay c conns s t l a k status i.no_replay;
      copy_pair = dialog_refused_copy_pair c conns s t l a k status i.copy_pair;
      now_pair = i.now_pair;
      create_reply = dialog_refused_create_reply c conns s t l a k status i.create_reply;
      attach_reply = dialog_refused_attach_reply c conns s t l a k status i.attach_reply;
      reached = dialog_refused_reached c conns s t l a k status i.reached;
      closed_reply = dialog_refused_closed_reply c conns s t l a k status i.closed_reply;
      attach_refused = dialog_refused_attach_refused c conns s t l a k status i.attach_refused;
      stale_reply = dialog_refused_stale_reply c conns s t l a k status i.stale_reply;
      session_seq = i.session_seq;
      pending_at = dialog_refused_pending_at c conns s t l a k status i.pending_at;
      live_unsettled = dialog_refused_live_unsettled c conns s t l a k status i.live_unsettled;
      live_replay = dialog_refused_live_replay c conns s t l a k status i.live_replay;
      shows = i.shows;
      denied = i.denied;
      open_of = i.open_of;
      named_open = i.named_open;
      open_given = i.open_given;
      open_row = i.open_row;
      open_acted = i.open_acted;
      bytes = i.bytes;
      quiet = i.quiet;
      foreign = i.foreign;
      acted = i.acted;
      gave = i.gave;
      gave_end = i.gave_end;
      whose = i.whose;
      born = i.born;
      birth_le = i.birth_le;
      first_at = i.first_at;
      by = i.by;
      by_ok = i.by_ok;
      by_end = i.by_end;
      by_some = i.by_some;
      replies = dialog_refused_replies c conns s t l a k status i.replies;
      attach_status = dialog_refused_attach_status c conns s t l a k status i.attach_status;
      since_le = i.since_le;
      since_reply = dialog_refused_since_reply c conns s t l a k status i.since_reply;
      since_by = i.since_by;
      since_first = i.since_first;
      prior = i.prior;
      prior_by = i.prior_by;
      prior_first = i.prior_first;
    }
