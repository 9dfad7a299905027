-- Written by tools/law_contents.py. A DH2C goes out in an operation's place.
use Rattle.std.proofs.Common.{◌≡◌, ℕ, ◌≤◌, ◌<◌, true, false, ◌||◌, arith, subst, ◌∙◌, ap, None}
use Rattle.spec_exchange.specs.Table.{put}
use Rattle.spec_exchange.specs.Order.{Log}
use Rattle.spec_exchange.specs.State.{Server, Message}
use Rattle.spec_exchange.specs.Operations.{is_ok, reconnect_of}
use Rattle.spec_exchange.specs.Client.{Client, guid_for, asked}
use Rattle.spec_exchange.specs.Network.{Conn, Sent, Trace, ForAttach, send_up}
use Rattle.law_sessions.specs.messages.Connections.{create_at, makes_open}
use Rattle.law_sessions.proofs.messages.Lists.{get-push}
use Rattle.law_order.specs.order.Contents.{Contents, file_at, TokenUp, TokenDown, OpensUp, AskedAs, FirstUp, Unacted, NotDone}
use Rattle.law_order.specs.order.Contents.{CutSeq, OpenSeq, Older, NoReplay, CopyPair, CreateReply, AttachReply, Reached}
use Rattle.law_order.specs.order.Contents.{ClosedReply, AttachRefused, StaleReply, LiveUnsettled, LiveReplay, Replies}
use Rattle.law_order.specs.order.Contents.{AttachStatus, SinceReply}
use Rattle.law_order.proofs.order.Words.{sent_up, or_else}

ask_token_up : (c : Client) (conns : ℕ → Conn) (s : Server) (t : Trace) (l : Log) (a : ℕ → ℕ) (k g n0 : ℕ) (m : Message)
    → (c.outstanding_on g ≡ None) → (0 < g) → (g ≤ c.taken) → (makes_open (c.op g) ≡ false)
    → (m.command ≡ reconnect_of (c.op (create_at c g)) (guid_for c (create_at c g)) (file_at c g))
    → ((makes_open (c.op g) || is_ok (c.outcome (create_at c g))) ≡ true) → TokenUp c conns
    → TokenUp (asked c k g) (put conns k (send_up (conns k) (ForAttach g) m n0))
ask_token_up c conns s t l a k g n0 m none above within other command opens i_token_up =
    λ j n x. let old = i_token_up j n x in grind (arith, get-push)

ask_token_down : (c : Client) (conns : ℕ → Conn) (s : Server) (t : Trace) (l : Log) (a : ℕ → ℕ) (k g n0 : ℕ)
    (m : Message) → (c.outstanding_on g ≡ None) → (0 < g) → (g ≤ c.taken) → (makes_open (c.op g) ≡ false)
    → (m.command ≡ reconnect_of (c.op (create_at c g)) (guid_for c (create_at c g)) (file_at c g))
    → ((makes_open (c.op g) || is_ok (c.outcome (create_at c g))) ≡ true) → TokenDown c conns → TokenDown (asked c k g)
    (put conns k (send_up (conns k) (ForAttach g) m n0))
ask_token_down c conns s t l a k g n0 m none above within other command opens i_token_down =
    λ j n y. let old = i_token_down j n y in grind (arith, get-push)

ask_opens_up : (c : Client) (conns : ℕ → Conn) (s : Server) (t : Trace) (l : Log) (a : ℕ → ℕ) (k g n0 : ℕ) (m : Message)
    → (c.outstanding_on g ≡ None) → (0 < g) → (g ≤ c.taken) → (makes_open (c.op g) ≡ false)
    → (m.command ≡ reconnect_of (c.op (create_at c g)) (guid_for c (create_at c g)) (file_at c g))
    → ((makes_open (c.op g) || is_ok (c.outcome (create_at c g))) ≡ true) → OpensUp c conns
    → OpensUp (asked c k g) (put conns k (send_up (conns k) (ForAttach g) m n0))
ask_opens_up c conns s t l a k g n0 m none above within other command opens i_opens_up =
    λ j n x. let old = i_opens_up j n x in let op = opens in grind (arith, get-push)

ask_asked_as : (c : Client) (conns : ℕ → Conn) (s : Server) (t : Trace) (l : Log) (a : ℕ → ℕ) (k g n0 : ℕ) (m : Message)
    → (c.outstanding_on g ≡ None) → (0 < g) → (g ≤ c.taken) → (makes_open (c.op g) ≡ false)
    → (m.command ≡ reconnect_of (c.op (create_at c g)) (guid_for c (create_at c g)) (file_at c g))
    → ((makes_open (c.op g) || is_ok (c.outcome (create_at c g))) ≡ true) → AskedAs c conns
    → AskedAs (asked c k g) (put conns k (send_up (conns k) (ForAttach g) m n0))
ask_asked_as c conns s t l a k g n0 m none above within other command opens i_asked_as =
    λ j n p x h e. or_else (sent_up conns k (ForAttach g) m n0 j n x h) (λ o. i_asked_as j n p x o e) (λ z. let gp : g
    ≡ p = grind arith in let mx : x.message ≡ m = ap (λ (y : Sent). y.message) z in
    subst (λ r. makes_open (c.op r) ≡ false × x.message.command ≡ reconnect_of (c.op (create_at c r))
    (guid_for c (create_at c r)) (file_at c r)) gp (other, ap (λ (y : Message). y.command) mx ∙ command))

ask_first_up : (c : Client) (conns : ℕ → Conn) (s : Server) (t : Trace) (l : Log) (a : ℕ → ℕ) (k g n0 : ℕ) (m : Message)
    → (c.outstanding_on g ≡ None) → (0 < g) → (g ≤ c.taken) → (makes_open (c.op g) ≡ false)
    → (m.command ≡ reconnect_of (c.op (create_at c g)) (guid_for c (create_at c g)) (file_at c g))
    → ((makes_open (c.op g) || is_ok (c.outcome (create_at c g))) ≡ true) → FirstUp c conns l
    → FirstUp (asked c k g) (put conns k (send_up (conns k) (ForAttach g) m n0)) l
ask_first_up c conns s t l a k g n0 m none above within other command opens i_first_up =
    λ j n p x. let old = i_first_up j n p x in grind (arith, get-push)

ask_unacted : (c : Client) (conns : ℕ → Conn) (s : Server) (t : Trace) (l : Log) (a : ℕ → ℕ) (k g n0 : ℕ) (m : Message)
    → (c.outstanding_on g ≡ None) → (0 < g) → (g ≤ c.taken) → (makes_open (c.op g) ≡ false)
    → (m.command ≡ reconnect_of (c.op (create_at c g)) (guid_for c (create_at c g)) (file_at c g))
    → ((makes_open (c.op g) || is_ok (c.outcome (create_at c g))) ≡ true) → Unacted c l → Unacted (asked c k g) l
ask_unacted c conns s t l a k g n0 m none above within other command opens i_unacted =
    λ p. let old = i_unacted p in grind arith

ask_not_done : (c : Client) (conns : ℕ → Conn) (s : Server) (t : Trace) (l : Log) (a : ℕ → ℕ) (k g n0 : ℕ) (m : Message)
    → (c.outstanding_on g ≡ None) → (0 < g) → (g ≤ c.taken) → (makes_open (c.op g) ≡ false)
    → (m.command ≡ reconnect_of (c.op (create_at c g)) (guid_for c (create_at c g)) (file_at c g))
    → ((makes_open (c.op g) || is_ok (c.outcome (create_at c g))) ≡ true) → NotDone c conns l
    → NotDone (asked c k g) (put conns k (send_up (conns k) (ForAttach g) m n0)) l
ask_not_done c conns s t l a k g n0 m none above within other command opens i_not_done =
    λ j n p y. let old = i_not_done j n p y in grind (arith, get-push)

ask_cut_seq : (c : Client) (conns : ℕ → Conn) (s : Server) (t : Trace) (l : Log) (a : ℕ → ℕ) (k g n0 : ℕ) (m : Message)
    → (c.outstanding_on g ≡ None) → (0 < g) → (g ≤ c.taken) → (makes_open (c.op g) ≡ false)
    → (m.command ≡ reconnect_of (c.op (create_at c g)) (guid_for c (create_at c g)) (file_at c g))
    → ((makes_open (c.op g) || is_ok (c.outcome (create_at c g))) ≡ true) → CutSeq c conns
    → CutSeq (asked c k g) (put conns k (send_up (conns k) (ForAttach g) m n0))
ask_cut_seq c conns s t l a k g n0 m none above within other command opens i_cut_seq =
    λ j n p x. let old = i_cut_seq j n p x in grind (arith, get-push)

ask_open_seq : (c : Client) (conns : ℕ → Conn) (s : Server) (t : Trace) (l : Log) (a : ℕ → ℕ) (k g n0 : ℕ) (m : Message)
    → (c.outstanding_on g ≡ None) → (0 < g) → (g ≤ c.taken) → (makes_open (c.op g) ≡ false)
    → (m.command ≡ reconnect_of (c.op (create_at c g)) (guid_for c (create_at c g)) (file_at c g))
    → ((makes_open (c.op g) || is_ok (c.outcome (create_at c g))) ≡ true) → OpenSeq c conns
    → OpenSeq (asked c k g) (put conns k (send_up (conns k) (ForAttach g) m n0))
ask_open_seq c conns s t l a k g n0 m none above within other command opens i_open_seq =
    λ j n p x. let old = i_open_seq j n p x in grind (arith, get-push)

ask_older : (c : Client) (conns : ℕ → Conn) (s : Server) (t : Trace) (l : Log) (a : ℕ → ℕ) (k g n0 : ℕ) (m : Message)
    → (c.outstanding_on g ≡ None) → (0 < g) → (g ≤ c.taken) → (makes_open (c.op g) ≡ false)
    → (m.command ≡ reconnect_of (c.op (create_at c g)) (guid_for c (create_at c g)) (file_at c g))
    → ((makes_open (c.op g) || is_ok (c.outcome (create_at c g))) ≡ true) → Older c conns
    → Older (asked c k g) (put conns k (send_up (conns k) (ForAttach g) m n0))
ask_older c conns s t l a k g n0 m none above within other command opens i_older =
    λ j n i p x. let old = i_older j n i p x in grind (arith, get-push)

ask_no_replay : (c : Client) (conns : ℕ → Conn) (s : Server) (t : Trace) (l : Log) (a : ℕ → ℕ) (k g n0 : ℕ)
    (m : Message) → (c.outstanding_on g ≡ None) → (0 < g) → (g ≤ c.taken) → (makes_open (c.op g) ≡ false)
    → (m.command ≡ reconnect_of (c.op (create_at c g)) (guid_for c (create_at c g)) (file_at c g))
    → ((makes_open (c.op g) || is_ok (c.outcome (create_at c g))) ≡ true) → NoReplay c conns → NoReplay (asked c k g)
    (put conns k (send_up (conns k) (ForAttach g) m n0))
ask_no_replay c conns s t l a k g n0 m none above within other command opens i_no_replay =
    λ j n i q p u x. let old = i_no_replay j n i q p u x in grind (arith, get-push)

ask_copy_pair : (c : Client) (conns : ℕ → Conn) (s : Server) (t : Trace) (l : Log) (a : ℕ → ℕ) (k g n0 : ℕ)
    (m : Message) → (c.outstanding_on g ≡ None) → (0 < g) → (g ≤ c.taken) → (makes_open (c.op g) ≡ false)
    → (m.command ≡ reconnect_of (c.op (create_at c g)) (guid_for c (create_at c g)) (file_at c g))
    → ((makes_open (c.op g) || is_ok (c.outcome (create_at c g))) ≡ true) → CopyPair c conns s
    → CopyPair (asked c k g) (put conns k (send_up (conns k) (ForAttach g) m n0)) s
ask_copy_pair c conns s t l a k g n0 m none above within other command opens i_copy_pair =
    λ j n p x. let old = i_copy_pair j n p x in grind (arith, get-push)

ask_create_reply : (c : Client) (conns : ℕ → Conn) (s : Server) (t : Trace) (l : Log) (a : ℕ → ℕ) (k g n0 : ℕ)
    (m : Message) → (c.outstanding_on g ≡ None) → (0 < g) → (g ≤ c.taken) → (makes_open (c.op g) ≡ false)
    → (m.command ≡ reconnect_of (c.op (create_at c g)) (guid_for c (create_at c g)) (file_at c g))
    → ((makes_open (c.op g) || is_ok (c.outcome (create_at c g))) ≡ true) → CreateReply c conns s t
    → CreateReply (asked c k g) (put conns k (send_up (conns k) (ForAttach g) m n0)) s t
ask_create_reply c conns s t l a k g n0 m none above within other command opens i_create_reply =
    λ j n p y. let old = i_create_reply j n p y in grind (arith, get-push)

ask_attach_reply : (c : Client) (conns : ℕ → Conn) (s : Server) (t : Trace) (l : Log) (a : ℕ → ℕ) (k g n0 : ℕ)
    (m : Message) → (c.outstanding_on g ≡ None) → (0 < g) → (g ≤ c.taken) → (makes_open (c.op g) ≡ false)
    → (m.command ≡ reconnect_of (c.op (create_at c g)) (guid_for c (create_at c g)) (file_at c g))
    → ((makes_open (c.op g) || is_ok (c.outcome (create_at c g))) ≡ true) → AttachReply c conns s
    → AttachReply (asked c k g) (put conns k (send_up (conns k) (ForAttach g) m n0)) s
ask_attach_reply c conns s t l a k g n0 m none above within other command opens i_attach_reply =
    λ j n p y. let old = i_attach_reply j n p y in grind (arith, get-push)

ask_reached : (c : Client) (conns : ℕ → Conn) (s : Server) (t : Trace) (l : Log) (a : ℕ → ℕ) (k g n0 : ℕ) (m : Message)
    → (c.outstanding_on g ≡ None) → (0 < g) → (g ≤ c.taken) → (makes_open (c.op g) ≡ false)
    → (m.command ≡ reconnect_of (c.op (create_at c g)) (guid_for c (create_at c g)) (file_at c g))
    → ((makes_open (c.op g) || is_ok (c.outcome (create_at c g))) ≡ true) → Reached c conns s
    → Reached (asked c k g) (put conns k (send_up (conns k) (ForAttach g) m n0)) s
ask_reached c conns s t l a k g n0 m none above within other command opens i_reached =
    λ j n p y. let old = i_reached j n p y in grind (arith, get-push)

ask_closed_reply : (c : Client) (conns : ℕ → Conn) (s : Server) (t : Trace) (l : Log) (a : ℕ → ℕ) (k g n0 : ℕ)
    (m : Message) → (c.outstanding_on g ≡ None) → (0 < g) → (g ≤ c.taken) → (makes_open (c.op g) ≡ false)
    → (m.command ≡ reconnect_of (c.op (create_at c g)) (guid_for c (create_at c g)) (file_at c g))
    → ((makes_open (c.op g) || is_ok (c.outcome (create_at c g))) ≡ true) → ClosedReply c conns s
    → ClosedReply (asked c k g) (put conns k (send_up (conns k) (ForAttach g) m n0)) s
ask_closed_reply c conns s t l a k g n0 m none above within other command opens i_closed_reply =
    λ j n p y. let old = i_closed_reply j n p y in grind (arith, get-push)

ask_attach_refused : (c : Client) (conns : ℕ → Conn) (s : Server) (t : Trace) (l : Log) (a : ℕ → ℕ) (k g n0 : ℕ)
    (m : Message) → (c.outstanding_on g ≡ None) → (0 < g) → (g ≤ c.taken) → (makes_open (c.op g) ≡ false)
    → (m.command ≡ reconnect_of (c.op (create_at c g)) (guid_for c (create_at c g)) (file_at c g))
    → ((makes_open (c.op g) || is_ok (c.outcome (create_at c g))) ≡ true) → AttachRefused c conns s
    → AttachRefused (asked c k g) (put conns k (send_up (conns k) (ForAttach g) m n0)) s
ask_attach_refused c conns s t l a k g n0 m none above within other command opens i_attach_refused =
    λ j n p y. let old = i_attach_refused j n p y in grind (arith, get-push)

ask_stale_reply : (c : Client) (conns : ℕ → Conn) (s : Server) (t : Trace) (l : Log) (a : ℕ → ℕ) (k g n0 : ℕ)
    (m : Message) → (c.outstanding_on g ≡ None) → (0 < g) → (g ≤ c.taken) → (makes_open (c.op g) ≡ false)
    → (m.command ≡ reconnect_of (c.op (create_at c g)) (guid_for c (create_at c g)) (file_at c g))
    → ((makes_open (c.op g) || is_ok (c.outcome (create_at c g))) ≡ true) → StaleReply c conns
    → StaleReply (asked c k g) (put conns k (send_up (conns k) (ForAttach g) m n0))
ask_stale_reply c conns s t l a k g n0 m none above within other command opens i_stale_reply =
    λ j n p y. let old = i_stale_reply j n p y in grind (arith, get-push)

ask_live_unsettled : (c : Client) (conns : ℕ → Conn) (s : Server) (t : Trace) (l : Log) (a : ℕ → ℕ) (k g n0 : ℕ)
    (m : Message) → (c.outstanding_on g ≡ None) → (0 < g) → (g ≤ c.taken) → (makes_open (c.op g) ≡ false)
    → (m.command ≡ reconnect_of (c.op (create_at c g)) (guid_for c (create_at c g)) (file_at c g))
    → ((makes_open (c.op g) || is_ok (c.outcome (create_at c g))) ≡ true) → LiveUnsettled c conns s
    → LiveUnsettled (asked c k g) (put conns k (send_up (conns k) (ForAttach g) m n0)) s
ask_live_unsettled c conns s t l a k g n0 m none above within other command opens i_live_unsettled =
    λ j n p x. let old = i_live_unsettled j n p x in grind (arith, get-push)

ask_live_replay : (c : Client) (conns : ℕ → Conn) (s : Server) (t : Trace) (l : Log) (a : ℕ → ℕ) (k g n0 : ℕ)
    (m : Message) → (c.outstanding_on g ≡ None) → (0 < g) → (g ≤ c.taken) → (makes_open (c.op g) ≡ false)
    → (m.command ≡ reconnect_of (c.op (create_at c g)) (guid_for c (create_at c g)) (file_at c g))
    → ((makes_open (c.op g) || is_ok (c.outcome (create_at c g))) ≡ true) → LiveReplay c conns s l
    → LiveReplay (asked c k g) (put conns k (send_up (conns k) (ForAttach g) m n0)) s l
ask_live_replay c conns s t l a k g n0 m none above within other command opens i_live_replay =
    λ j n p x. let old = i_live_replay j n p x in grind (arith, get-push)

ask_replies : (c : Client) (conns : ℕ → Conn) (s : Server) (t : Trace) (l : Log) (a : ℕ → ℕ) (k g n0 : ℕ) (m : Message)
    → (c.outstanding_on g ≡ None) → (0 < g) → (g ≤ c.taken) → (makes_open (c.op g) ≡ false)
    → (m.command ≡ reconnect_of (c.op (create_at c g)) (guid_for c (create_at c g)) (file_at c g))
    → ((makes_open (c.op g) || is_ok (c.outcome (create_at c g))) ≡ true) → Replies conns l
    → Replies (put conns k (send_up (conns k) (ForAttach g) m n0)) l
ask_replies c conns s t l a k g n0 m none above within other command opens i_replies =
    λ j n y. let old = i_replies j n y in grind (arith, get-push)

ask_attach_status : (c : Client) (conns : ℕ → Conn) (s : Server) (t : Trace) (l : Log) (a : ℕ → ℕ) (k g n0 : ℕ)
    (m : Message) → (c.outstanding_on g ≡ None) → (0 < g) → (g ≤ c.taken) → (makes_open (c.op g) ≡ false)
    → (m.command ≡ reconnect_of (c.op (create_at c g)) (guid_for c (create_at c g)) (file_at c g))
    → ((makes_open (c.op g) || is_ok (c.outcome (create_at c g))) ≡ true) → AttachStatus conns
    → AttachStatus (put conns k (send_up (conns k) (ForAttach g) m n0))
ask_attach_status c conns s t l a k g n0 m none above within other command opens i_attach_status =
    λ j n p y. let old = i_attach_status j n p y in grind (arith, get-push)

ask_since_reply : (c : Client) (conns : ℕ → Conn) (s : Server) (t : Trace) (l : Log) (a : ℕ → ℕ) (k g n0 : ℕ)
    (m : Message) → (c.outstanding_on g ≡ None) → (0 < g) → (g ≤ c.taken) → (makes_open (c.op g) ≡ false)
    → (m.command ≡ reconnect_of (c.op (create_at c g)) (guid_for c (create_at c g)) (file_at c g))
    → ((makes_open (c.op g) || is_ok (c.outcome (create_at c g))) ≡ true) → SinceReply conns l
    → SinceReply (put conns k (send_up (conns k) (ForAttach g) m n0)) l
ask_since_reply c conns s t l a k g n0 m none above within other command opens i_since_reply =
    λ j n y. let old = i_since_reply j n y in grind (arith, get-push)

pub ask_keeps : (c : Client) (conns : ℕ → Conn) (s : Server) (t : Trace) (l : Log) (a : ℕ → ℕ) (k g n0 : ℕ)
    (m : Message) → (c.outstanding_on g ≡ None) → (0 < g) → (g ≤ c.taken) → (makes_open (c.op g) ≡ false)
    → (m.command ≡ reconnect_of (c.op (create_at c g)) (guid_for c (create_at c g)) (file_at c g))
    → ((makes_open (c.op g) || is_ok (c.outcome (create_at c g))) ≡ true) → Contents c conns s t l a
    → Contents (asked c k g) (put conns k (send_up (conns k) (ForAttach g) m n0)) s t l a
ask_keeps c conns s t l a k g n0 m none above within other command opens i =
    record {
      token_up = ask_token_up c conns s t l a k g n0 m none above within other command opens i.token_up;
      token_down = ask_token_down c conns s t l a k g n0 m none above within other command opens i.token_down;
      opens_up = ask_opens_up c conns s t l a k g n0 m none above within other command opens i.opens_up;
      asked_as = ask_asked_as c conns s t l a k g n0 m none above within other command opens i.asked_as;
      lost_unknown = i.lost_unknown;
      lost_dead = i.lost_dead;
      lost_known = i.lost_known;
      lost_asked = i.lost_asked;
      session_known = i.session_known;
      session_asked = i.session_asked;
      pairwise = i.pairwise;
      first_up = ask_first_up c conns s t l a k g n0 m none above within other command opens i.first_up;
      unacted = ask_unacted c conns s t l a k g n0 m none above within other command opens i.unacted;
      fresh_first = i.fresh_first;
      not_done = ask_not_done c conns s t l a k g n0 m none above within other command opens i.not_done;
      cut_seq = ask_cut_seq c conns s t l a k g n0 m none above within other command opens i.cut_seq;
      open_seq = ask_open_seq c conns s t l a k g n0 m none above within other command opens i.open_seq;
      older = ask_older c conns s t l a k g n0 m none above within other command opens i.older;
      no_replay = ask_no_replay c conns s t l a k g n0 m none above within other command opens i.no_replay;
      copy_pair = ask_copy_pair c conns s t l a k g n0 m none above within other command opens i.copy_pair;
      now_pair = i.now_pair;
      create_reply = ask_create_reply c conns s t l a k g n0 m none above within other command opens i.create_reply;
      attach_reply = ask_attach_reply c conns s t l a k g n0 m none above within other command opens i.attach_reply;
      reached = ask_reached c conns s t l a k g n0 m none above within other command opens i.reached;
      closed_reply = ask_closed_reply c conns s t l a k g n0 m none above within other command opens i.closed_reply;
      attach_refused = ask_attach_refused c conns s t l a k g n0 m none above within other command opens i.attach_refused;
      stale_reply = ask_stale_reply c conns s t l a k g n0 m none above within other command opens i.stale_reply;
      session_seq = i.session_seq;
      pending_at = i.pending_at;
      live_unsettled = ask_live_unsettled c conns s t l a k g n0 m none above within other command opens i.live_unsettled;
      live_replay = ask_live_replay c conns s t l a k g n0 m none above within other command opens i.live_replay;
      shows = i.shows;
      denied = i.denied;
      open_of = i.open_of;
      named_open = i.named_open;
      open_given = i.open_given;
      open_row = i.open_row;
      open_acted = i.open_acted;
      bytes = i.bytes;
      quiet = i.quiet;
      foreign = i.foreign;
      acted = i.acted;
      gave = i.gave;
      gave_end = i.gave_end;
      whose = i.whose;
      born = i.born;
      birth_le = i.birth_le;
      first_at = i.first_at;
      by = i.by;
      by_ok = i.by_ok;
      by_end = i.by_end;
      by_some = i.by_some;
      replies = ask_replies c conns s t l a k g n0 m none above within other command opens i.replies;
      attach_status = ask_attach_status c conns s t l a k g n0 m none above within other command opens i.attach_status;
      since_le = i.since_le;
      since_reply = ask_since_reply c conns s t l a k g n0 m none above within other command opens i.since_reply;
      since_by = i.since_by;
      since_first = i.since_first;
      prior = i.prior;
      prior_by = i.prior_by;
      prior_first = i.prior_first;
    }
