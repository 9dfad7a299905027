-- Written by tools/law_contents.py. The session ends.
use Rattle.std.proofs.Common.{◌≡◌, ℕ, true, false, arith, Some, slice_get}
use Rattle.spec_exchange.specs.Order.{Log}
use Rattle.spec_exchange.specs.State.{Server}
use Rattle.spec_exchange.specs.Client.{Client, end_session}
use Rattle.spec_exchange.specs.Network.{Conn, Sent, Trace, ForOp, client_off}
use Rattle.law_sessions.proofs.messages.Lists.{get-push}
use Rattle.law_order.specs.order.Contents.{Contents, TokenUp, TokenDown, OpensUp, AskedAs, LostUnknown, LostDead, LostKnown}
use Rattle.law_order.specs.order.Contents.{LostAsked, SessionKnown, SessionAsked, Pairwise, FirstUp, Unacted, NotDone, CutSeq}
use Rattle.law_order.specs.order.Contents.{OpenSeq, Older, NoReplay, CopyPair, NowPair, CreateReply, AttachReply, Reached}
use Rattle.law_order.specs.order.Contents.{ClosedReply, AttachRefused, StaleReply, SessionSeq, PendingAt, LiveUnsettled}
use Rattle.law_order.specs.order.Contents.{LiveReplay, Shows, OpenOf, Whose, By, ByOk, ByEnd, BySome, Replies, AttachStatus}
use Rattle.law_order.specs.order.Contents.{SinceReply, Prior}
use Rattle.law_order.proofs.order.Words.{left_lost, left_firm, left_on, left_was}

leave_token_up : (c : Client) (conns : ℕ → Conn) (s : Server) (t : Trace) (l : Log) (a : ℕ → ℕ) → TokenUp c conns
    → TokenUp (end_session c) (λ q. client_off (conns q))
leave_token_up c conns s t l a i_token_up =
    λ j n x. let old = i_token_up j n x in grind (arith, get-push)

leave_token_down : (c : Client) (conns : ℕ → Conn) (s : Server) (t : Trace) (l : Log) (a : ℕ → ℕ) → TokenDown c conns
    → TokenDown (end_session c) (λ q. client_off (conns q))
leave_token_down c conns s t l a i_token_down =
    λ j n y. let old = i_token_down j n y in grind (arith, get-push)

leave_opens_up : (c : Client) (conns : ℕ → Conn) (s : Server) (t : Trace) (l : Log) (a : ℕ → ℕ) → OpensUp c conns
    → OpensUp (end_session c) (λ q. client_off (conns q))
leave_opens_up c conns s t l a i_opens_up =
    λ j n x. let old = i_opens_up j n x in grind (arith, get-push)

leave_asked_as : (c : Client) (conns : ℕ → Conn) (s : Server) (t : Trace) (l : Log) (a : ℕ → ℕ) → AskedAs c conns
    → AskedAs (end_session c) (λ q. client_off (conns q))
leave_asked_as c conns s t l a i_asked_as =
    λ j n p x. let old = i_asked_as j n p x in grind (arith, get-push)

leave_lost_unknown : (c : Client) (conns : ℕ → Conn) (s : Server) (t : Trace) (l : Log) (a : ℕ → ℕ) → LostUnknown c
    → LostUnknown (end_session c)
leave_lost_unknown c conns s t l a i_lost_unknown =
    λ p z. left_lost c p z (c.outcome p) (c.given_up p) (i_lost_unknown p z)

leave_lost_dead : (c : Client) (conns : ℕ → Conn) (s : Server) (t : Trace) (l : Log) (a : ℕ → ℕ) → LostDead c → LostDead (end_session c)
leave_lost_dead c conns s t l a i_lost_dead =
    λ p. let old = i_lost_dead p in grind arith

leave_lost_known : (c : Client) (conns : ℕ → Conn) (s : Server) (t : Trace) (l : Log) (a : ℕ → ℕ) → LostKnown c
    → SessionKnown c → LostKnown (end_session c)
leave_lost_known c conns s t l a i_lost_known i_session_known =
    λ p z. let old = i_lost_known p z in let known = i_session_known in grind arith

leave_lost_asked : (c : Client) (conns : ℕ → Conn) (s : Server) (t : Trace) (l : Log) (a : ℕ → ℕ) → LostAsked c → LostAsked (end_session c)
leave_lost_asked c conns s t l a i_lost_asked =
    λ p j z. let old = i_lost_asked p j z in grind arith

leave_session_asked : (c : Client) (conns : ℕ → Conn) (s : Server) (t : Trace) (l : Log) (a : ℕ → ℕ) → SessionAsked c
    → SessionAsked (end_session c)
leave_session_asked c conns s t l a i_session_asked =
    λ j. let old = i_session_asked j in grind arith

leave_pairwise : (c : Client) (conns : ℕ → Conn) (s : Server) (t : Trace) (l : Log) (a : ℕ → ℕ) → Pairwise c → Pairwise (end_session c)
leave_pairwise c conns s t l a i_pairwise =
    λ p q lt st e1 e2 cr u1 u2. i_pairwise p q lt st e1 e2 cr (left_was c p (c.outcome p) (c.given_up p) u1)
    (left_was c q (c.outcome q) (c.given_up q) u2)

leave_first_up : (c : Client) (conns : ℕ → Conn) (s : Server) (t : Trace) (l : Log) (a : ℕ → ℕ)
    → ((j n p : ℕ) (x : Sent) → slice_get (conns j).up n ≡ Some x → x.token ≡ ForOp p → (conns j).client_open ≡ true
    → c.outstanding_on p ≡ Some j × c.asks_attach p ≡ false) → FirstUp c conns l → FirstUp (end_session c)
    (λ q. client_off (conns q)) l
leave_first_up c conns s t l a mine i_first_up =
    λ j n p x h e ed b. let h' : slice_get (conns j).up n ≡ Some x = grind arith in let my = mine j n p x in let old =
    i_first_up j n p x h' e ed in grind arith

leave_unacted : (c : Client) (conns : ℕ → Conn) (s : Server) (t : Trace) (l : Log) (a : ℕ → ℕ) → Unacted c l → Unacted (end_session c) l
leave_unacted c conns s t l a i_unacted =
    λ p. let old = i_unacted p in grind arith

leave_not_done : (c : Client) (conns : ℕ → Conn) (s : Server) (t : Trace) (l : Log) (a : ℕ → ℕ) → NotDone c conns l
    → NotDone (end_session c) (λ q. client_off (conns q)) l
leave_not_done c conns s t l a i_not_done =
    λ j n p y. let old = i_not_done j n p y in grind (arith, get-push)

leave_cut_seq : (c : Client) (conns : ℕ → Conn) (s : Server) (t : Trace) (l : Log) (a : ℕ → ℕ) → CutSeq c conns
    → CutSeq (end_session c) (λ q. client_off (conns q))
leave_cut_seq c conns s t l a i_cut_seq =
    λ j n p x. let old = i_cut_seq j n p x in grind (arith, get-push)

leave_open_seq : (c : Client) (conns : ℕ → Conn) (s : Server) (t : Trace) (l : Log) (a : ℕ → ℕ) → OpenSeq c conns
    → OpenSeq (end_session c) (λ q. client_off (conns q))
leave_open_seq c conns s t l a i_open_seq =
    λ j n p x. let old = i_open_seq j n p x in grind (arith, get-push)

leave_older : (c : Client) (conns : ℕ → Conn) (s : Server) (t : Trace) (l : Log) (a : ℕ → ℕ) → Older c conns
    → Older (end_session c) (λ q. client_off (conns q))
leave_older c conns s t l a i_older =
    λ j n i p x. let old = i_older j n i p x in grind (arith, get-push)

leave_no_replay : (c : Client) (conns : ℕ → Conn) (s : Server) (t : Trace) (l : Log) (a : ℕ → ℕ) → NoReplay c conns
    → NoReplay (end_session c) (λ q. client_off (conns q))
leave_no_replay c conns s t l a i_no_replay =
    λ j n i q p u x. let old = i_no_replay j n i q p u x in grind (arith, get-push)

leave_copy_pair : (c : Client) (conns : ℕ → Conn) (s : Server) (t : Trace) (l : Log) (a : ℕ → ℕ) → CopyPair c conns s
    → CopyPair (end_session c) (λ q. client_off (conns q)) s
leave_copy_pair c conns s t l a i_copy_pair =
    λ j n p x. let old = i_copy_pair j n p x in grind (arith, get-push)

leave_now_pair : (c : Client) (conns : ℕ → Conn) (s : Server) (t : Trace) (l : Log) (a : ℕ → ℕ) → NowPair c s → NowPair (end_session c) s
leave_now_pair c conns s t l a i_now_pair =
    λ q. let old = i_now_pair q in grind arith

leave_create_reply : (c : Client) (conns : ℕ → Conn) (s : Server) (t : Trace) (l : Log) (a : ℕ → ℕ)
    → CreateReply c conns s t → CreateReply (end_session c) (λ q. client_off (conns q)) s t
leave_create_reply c conns s t l a i_create_reply =
    λ j n p y. let old = i_create_reply j n p y in grind (arith, get-push)

leave_attach_reply : (c : Client) (conns : ℕ → Conn) (s : Server) (t : Trace) (l : Log) (a : ℕ → ℕ)
    → AttachReply c conns s → AttachReply (end_session c) (λ q. client_off (conns q)) s
leave_attach_reply c conns s t l a i_attach_reply =
    λ j n p y. let old = i_attach_reply j n p y in grind (arith, get-push)

leave_reached : (c : Client) (conns : ℕ → Conn) (s : Server) (t : Trace) (l : Log) (a : ℕ → ℕ) → Reached c conns s
    → Reached (end_session c) (λ q. client_off (conns q)) s
leave_reached c conns s t l a i_reached =
    λ j n p y. let old = i_reached j n p y in grind (arith, get-push)

leave_closed_reply : (c : Client) (conns : ℕ → Conn) (s : Server) (t : Trace) (l : Log) (a : ℕ → ℕ)
    → ClosedReply c conns s → ClosedReply (end_session c) (λ q. client_off (conns q)) s
leave_closed_reply c conns s t l a i_closed_reply =
    λ j n p y. let old = i_closed_reply j n p y in grind (arith, get-push)

leave_attach_refused : (c : Client) (conns : ℕ → Conn) (s : Server) (t : Trace) (l : Log) (a : ℕ → ℕ)
    → AttachRefused c conns s → AttachRefused (end_session c) (λ q. client_off (conns q)) s
leave_attach_refused c conns s t l a i_attach_refused =
    λ j n p y. let old = i_attach_refused j n p y in grind (arith, get-push)

leave_stale_reply : (c : Client) (conns : ℕ → Conn) (s : Server) (t : Trace) (l : Log) (a : ℕ → ℕ) → StaleReply c conns
    → StaleReply (end_session c) (λ q. client_off (conns q))
leave_stale_reply c conns s t l a i_stale_reply =
    λ j n p y. let old = i_stale_reply j n p y in grind (arith, get-push)

leave_session_seq : (c : Client) (conns : ℕ → Conn) (s : Server) (t : Trace) (l : Log) (a : ℕ → ℕ) → SessionSeq c s
    → SessionSeq (end_session c) s
leave_session_seq c conns s t l a i_session_seq =
    λ o. let old = i_session_seq o in grind arith

leave_pending_at : (c : Client) (conns : ℕ → Conn) (s : Server) (t : Trace) (l : Log) (a : ℕ → ℕ) → PendingAt c s
    → PendingAt (end_session c) s
leave_pending_at c conns s t l a i_pending_at =
    λ o j. let old = i_pending_at o j in grind arith

leave_live_unsettled : (c : Client) (conns : ℕ → Conn) (s : Server) (t : Trace) (l : Log) (a : ℕ → ℕ)
    → ((j n p : ℕ) (x : Sent) → slice_get (conns j).up n ≡ Some x → x.token ≡ ForOp p → c.sent p ≡ true)
    → LiveUnsettled c conns s → LiveUnsettled (end_session c) (λ q. client_off (conns q)) s
leave_live_unsettled c conns s t l a gone i_live_unsettled =
    λ j n p x h e ed fm sd pr le. let h' : slice_get (conns j).up n ≡ Some x = grind arith in left_on c p (c.outcome p)
    (c.given_up p) (gone j n p x h' e) (i_live_unsettled j n p x h' e ed fm sd pr le)

leave_live_replay : (c : Client) (conns : ℕ → Conn) (s : Server) (t : Trace) (l : Log) (a : ℕ → ℕ)
    → LiveReplay c conns s l → LiveReplay (end_session c) (λ q. client_off (conns q)) s l
leave_live_replay c conns s t l a i_live_replay =
    λ j n p x. let old = i_live_replay j n p x in grind (arith, get-push)

leave_shows : (c : Client) (conns : ℕ → Conn) (s : Server) (t : Trace) (l : Log) (a : ℕ → ℕ) → Shows c s l → Shows (end_session c) s l
leave_shows c conns s t l a i_shows =
    λ p ed iso sd pe so. i_shows p ed iso sd (left_was c p (c.outcome p) (c.given_up p) pe) so

leave_open_of : (c : Client) (conns : ℕ → Conn) (s : Server) (t : Trace) (l : Log) (a : ℕ → ℕ) → OpenOf c t → OpenOf (end_session c) t
leave_open_of c conns s t l a i_open_of =
    λ q mk o. i_open_of q mk ((left_firm c q (c.outcome q)).1 o)

leave_whose : (c : Client) (conns : ℕ → Conn) (s : Server) (t : Trace) (l : Log) (a : ℕ → ℕ) → Whose c l → Whose (end_session c) l
leave_whose c conns s t l a i_whose =
    λ n. let old = i_whose n in grind arith

leave_by : (c : Client) (conns : ℕ → Conn) (s : Server) (t : Trace) (l : Log) (a : ℕ → ℕ) → By c l → By (end_session c) l
leave_by c conns s t l a i_by =
    λ p n. let old = i_by p n in grind arith

leave_by_ok : (c : Client) (conns : ℕ → Conn) (s : Server) (t : Trace) (l : Log) (a : ℕ → ℕ) → ByOk c l → ByOk (end_session c) l
leave_by_ok c conns s t l a i_by_ok =
    λ p n v. let old = i_by_ok p n v in grind arith

leave_by_end : (c : Client) (conns : ℕ → Conn) (s : Server) (t : Trace) (l : Log) (a : ℕ → ℕ) → ByEnd c l → ByEnd (end_session c) l
leave_by_end c conns s t l a i_by_end =
    λ p n. let old = i_by_end p n in grind arith

leave_by_some : (c : Client) (conns : ℕ → Conn) (s : Server) (t : Trace) (l : Log) (a : ℕ → ℕ) → BySome c → BySome (end_session c)
leave_by_some c conns s t l a i_by_some =
    λ p f. i_by_some p ((left_firm c p (c.outcome p)).0 f)

leave_replies : (c : Client) (conns : ℕ → Conn) (s : Server) (t : Trace) (l : Log) (a : ℕ → ℕ) → Replies conns l
    → Replies (λ q. client_off (conns q)) l
leave_replies c conns s t l a i_replies =
    λ j n y. let old = i_replies j n y in grind (arith, get-push)

leave_attach_status : (c : Client) (conns : ℕ → Conn) (s : Server) (t : Trace) (l : Log) (a : ℕ → ℕ)
    → AttachStatus conns → AttachStatus (λ q. client_off (conns q))
leave_attach_status c conns s t l a i_attach_status =
    λ j n p y. let old = i_attach_status j n p y in grind (arith, get-push)

leave_since_reply : (c : Client) (conns : ℕ → Conn) (s : Server) (t : Trace) (l : Log) (a : ℕ → ℕ) → SinceReply conns l
    → SinceReply (λ q. client_off (conns q)) l
leave_since_reply c conns s t l a i_since_reply =
    λ j n y. let old = i_since_reply j n y in grind (arith, get-push)

leave_prior : (c : Client) (conns : ℕ → Conn) (s : Server) (t : Trace) (l : Log) (a : ℕ → ℕ) → Prior c l → Prior (end_session c) l
leave_prior c conns s t l a i_prior =
    λ p q. let old = i_prior p q in grind arith

pub leave_keeps : (c : Client) (conns : ℕ → Conn) (s : Server) (t : Trace) (l : Log) (a : ℕ → ℕ)
    → ((j n p : ℕ) (x : Sent) → slice_get (conns j).up n ≡ Some x → x.token ≡ ForOp p → (conns j).client_open ≡ true
    → c.outstanding_on p ≡ Some j × c.asks_attach p ≡ false) → ((j n p : ℕ) (x : Sent) → slice_get (conns j).up n
    ≡ Some x → x.token ≡ ForOp p → c.sent p ≡ true) → Contents c conns s t l a → Contents (end_session c)
    (λ q. client_off (conns q)) s t l a
leave_keeps c conns s t l a mine gone i =
    record {
      token_up = leave_token_up c conns s t l a i.token_up;
      token_down = leave_token_down c conns s t l a i.token_down;
      opens_up = leave_opens_up c conns s t l a i.opens_up;
      asked_as = leave_asked_as c conns s t l a i.asked_as;
      lost_unknown = leave_lost_unknown c conns s t l a i.lost_unknown;
      lost_dead = leave_lost_dead c conns s t l a i.lost_dead;
      lost_known = leave_lost_known c conns s t l a i.lost_known i.session_known;
      lost_asked = leave_lost_asked c conns s t l a i.lost_asked;
      session_known = i.session_known;
      session_asked = leave_session_asked c conns s t l a i.session_asked;
      pairwise = leave_pairwise c conns s t l a i.pairwise;
      first_up = leave_first_up c conns s t l a mine i.first_up;
      unacted = leave_unacted c conns s t l a i.unacted;
      fresh_first = i.fresh_first;
      not_done = leave_not_done c conns s t l a i.not_done;
      cut_seq = leave_cut_seq c conns s t l a i.cut_seq;
      open_seq = leave_open_seq c conns s t l a i.open_seq;
      older = leave_older c conns s t l a i.older;
      no_replay = leave_no_replay c conns s t l a i.no_replay;
      copy_pair = leave_copy_pair c conns s t l a i.copy_pair;
      now_pair = leave_now_pair c conns s t l a i.now_pair;
      create_reply = leave_create_reply c conns s t l a i.create_reply;
      attach_reply = leave_attach_reply c conns s t l a i.attach_reply;
      reached = leave_reached c conns s t l a i.reached;
      closed_reply = leave_closed_reply c conns s t l a i.closed_reply;
      attach_refused = leave_attach_refused c conns s t l a i.attach_refused;
      stale_reply = leave_stale_reply c conns s t l a i.stale_reply;
      session_seq = leave_session_seq c conns s t l a i.session_seq;
      pending_at = leave_pending_at c conns s t l a i.pending_at;
      live_unsettled = leave_live_unsettled c conns s t l a gone i.live_unsettled;
      live_replay = leave_live_replay c conns s t l a i.live_replay;
      shows = leave_shows c conns s t l a i.shows;
      denied = i.denied;
      open_of = leave_open_of c conns s t l a i.open_of;
      named_open = i.named_open;
      open_given = i.open_given;
      open_row = i.open_row;
      open_acted = i.open_acted;
      bytes = i.bytes;
      quiet = i.quiet;
      foreign = i.foreign;
      acted = i.acted;
      gave = i.gave;
      gave_end = i.gave_end;
      whose = leave_whose c conns s t l a i.whose;
      born = i.born;
      birth_le = i.birth_le;
      first_at = i.first_at;
      by = leave_by c conns s t l a i.by;
      by_ok = leave_by_ok c conns s t l a i.by_ok;
      by_end = leave_by_end c conns s t l a i.by_end;
      by_some = leave_by_some c conns s t l a i.by_some;
      replies = leave_replies c conns s t l a i.replies;
      attach_status = leave_attach_status c conns s t l a i.attach_status;
      since_le = i.since_le;
      since_reply = leave_since_reply c conns s t l a i.since_reply;
      since_by = i.since_by;
      since_first = i.since_first;
      prior = leave_prior c conns s t l a i.prior;
      prior_by = i.prior_by;
      prior_first = i.prior_first;
    }
