-- Written by tools/law_contents.py. A reply leaves its connection.
use Rattle.std.proofs.Common.{◌≡◌, ℕ, List, ◌∷◌, arith}
use Rattle.spec_exchange.specs.Table.{put}
use Rattle.spec_exchange.specs.Order.{Log}
use Rattle.spec_exchange.specs.State.{Server}
use Rattle.spec_exchange.specs.Client.{Client}
use Rattle.spec_exchange.specs.Network.{Conn, Received, Trace, take_front}
use Rattle.law_sessions.proofs.messages.Lists.{get-push, waited_down}
use Rattle.law_order.specs.order.Contents.{Contents, TokenUp, TokenDown, OpensUp, AskedAs, FirstUp, NotDone, CutSeq, OpenSeq}
use Rattle.law_order.specs.order.Contents.{Older, NoReplay, CopyPair, CreateReply, AttachReply, Reached, ClosedReply}
use Rattle.law_order.specs.order.Contents.{AttachRefused, StaleReply, LiveUnsettled, LiveReplay, Replies, AttachStatus}
use Rattle.law_order.specs.order.Contents.{SinceReply}

behind_token_up : (c : Client) (conns : ℕ → Conn) (s : Server) (t : Trace) (l : Log) (a : ℕ → ℕ) (k : ℕ) (y0 : Received)
    (rest : List Received) → ((conns k).down ≡ y0 ∷ rest) → TokenUp c conns
    → TokenUp c (put conns k (take_front (conns k) rest))
behind_token_up c conns s t l a k y0 rest is i_token_up =
    λ j n x. let old = i_token_up j n x in grind (arith, get-push)

behind_token_down : (c : Client) (conns : ℕ → Conn) (s : Server) (t : Trace) (l : Log) (a : ℕ → ℕ) (k : ℕ)
    (y0 : Received) (rest : List Received) → ((conns k).down ≡ y0 ∷ rest) → TokenDown c conns
    → TokenDown c (put conns k (take_front (conns k) rest))
behind_token_down c conns s t l a k y0 rest is i_token_down =
    λ j n y h. let o = waited_down conns k y0 rest j n y is h in i_token_down j o.0 y o.1

behind_opens_up : (c : Client) (conns : ℕ → Conn) (s : Server) (t : Trace) (l : Log) (a : ℕ → ℕ) (k : ℕ) (y0 : Received)
    (rest : List Received) → ((conns k).down ≡ y0 ∷ rest) → OpensUp c conns
    → OpensUp c (put conns k (take_front (conns k) rest))
behind_opens_up c conns s t l a k y0 rest is i_opens_up =
    λ j n x. let old = i_opens_up j n x in grind (arith, get-push)

behind_asked_as : (c : Client) (conns : ℕ → Conn) (s : Server) (t : Trace) (l : Log) (a : ℕ → ℕ) (k : ℕ) (y0 : Received)
    (rest : List Received) → ((conns k).down ≡ y0 ∷ rest) → AskedAs c conns
    → AskedAs c (put conns k (take_front (conns k) rest))
behind_asked_as c conns s t l a k y0 rest is i_asked_as =
    λ j n p x. let old = i_asked_as j n p x in grind (arith, get-push)

behind_first_up : (c : Client) (conns : ℕ → Conn) (s : Server) (t : Trace) (l : Log) (a : ℕ → ℕ) (k : ℕ) (y0 : Received)
    (rest : List Received) → ((conns k).down ≡ y0 ∷ rest) → FirstUp c conns l
    → FirstUp c (put conns k (take_front (conns k) rest)) l
behind_first_up c conns s t l a k y0 rest is i_first_up =
    λ j n p x. let old = i_first_up j n p x in grind (arith, get-push)

behind_not_done : (c : Client) (conns : ℕ → Conn) (s : Server) (t : Trace) (l : Log) (a : ℕ → ℕ) (k : ℕ) (y0 : Received)
    (rest : List Received) → ((conns k).down ≡ y0 ∷ rest) → NotDone c conns l
    → NotDone c (put conns k (take_front (conns k) rest)) l
behind_not_done c conns s t l a k y0 rest is i_not_done =
    λ j n p y h. let o = waited_down conns k y0 rest j n y is h in i_not_done j o.0 p y o.1

behind_cut_seq : (c : Client) (conns : ℕ → Conn) (s : Server) (t : Trace) (l : Log) (a : ℕ → ℕ) (k : ℕ) (y0 : Received)
    (rest : List Received) → ((conns k).down ≡ y0 ∷ rest) → CutSeq c conns
    → CutSeq c (put conns k (take_front (conns k) rest))
behind_cut_seq c conns s t l a k y0 rest is i_cut_seq =
    λ j n p x. let old = i_cut_seq j n p x in grind (arith, get-push)

behind_open_seq : (c : Client) (conns : ℕ → Conn) (s : Server) (t : Trace) (l : Log) (a : ℕ → ℕ) (k : ℕ) (y0 : Received)
    (rest : List Received) → ((conns k).down ≡ y0 ∷ rest) → OpenSeq c conns
    → OpenSeq c (put conns k (take_front (conns k) rest))
behind_open_seq c conns s t l a k y0 rest is i_open_seq =
    λ j n p x. let old = i_open_seq j n p x in grind (arith, get-push)

behind_older : (c : Client) (conns : ℕ → Conn) (s : Server) (t : Trace) (l : Log) (a : ℕ → ℕ) (k : ℕ) (y0 : Received)
    (rest : List Received) → ((conns k).down ≡ y0 ∷ rest) → Older c conns
    → Older c (put conns k (take_front (conns k) rest))
behind_older c conns s t l a k y0 rest is i_older =
    λ j n i p x. let old = i_older j n i p x in grind (arith, get-push)

behind_no_replay : (c : Client) (conns : ℕ → Conn) (s : Server) (t : Trace) (l : Log) (a : ℕ → ℕ) (k : ℕ)
    (y0 : Received) (rest : List Received) → ((conns k).down ≡ y0 ∷ rest) → NoReplay c conns
    → NoReplay c (put conns k (take_front (conns k) rest))
behind_no_replay c conns s t l a k y0 rest is i_no_replay =
    λ j n i q p u x. let old = i_no_replay j n i q p u x in grind (arith, get-push)

behind_copy_pair : (c : Client) (conns : ℕ → Conn) (s : Server) (t : Trace) (l : Log) (a : ℕ → ℕ) (k : ℕ)
    (y0 : Received) (rest : List Received) → ((conns k).down ≡ y0 ∷ rest) → CopyPair c conns s
    → CopyPair c (put conns k (take_front (conns k) rest)) s
behind_copy_pair c conns s t l a k y0 rest is i_copy_pair =
    λ j n p x. let old = i_copy_pair j n p x in grind (arith, get-push)

behind_create_reply : (c : Client) (conns : ℕ → Conn) (s : Server) (t : Trace) (l : Log) (a : ℕ → ℕ) (k : ℕ)
    (y0 : Received) (rest : List Received) → ((conns k).down ≡ y0 ∷ rest) → CreateReply c conns s t
    → CreateReply c (put conns k (take_front (conns k) rest)) s t
behind_create_reply c conns s t l a k y0 rest is i_create_reply =
    λ j n p y h. let o = waited_down conns k y0 rest j n y is h in i_create_reply j o.0 p y o.1

behind_attach_reply : (c : Client) (conns : ℕ → Conn) (s : Server) (t : Trace) (l : Log) (a : ℕ → ℕ) (k : ℕ)
    (y0 : Received) (rest : List Received) → ((conns k).down ≡ y0 ∷ rest) → AttachReply c conns s
    → AttachReply c (put conns k (take_front (conns k) rest)) s
behind_attach_reply c conns s t l a k y0 rest is i_attach_reply =
    λ j n p y h. let o = waited_down conns k y0 rest j n y is h in i_attach_reply j o.0 p y o.1

behind_reached : (c : Client) (conns : ℕ → Conn) (s : Server) (t : Trace) (l : Log) (a : ℕ → ℕ) (k : ℕ) (y0 : Received)
    (rest : List Received) → ((conns k).down ≡ y0 ∷ rest) → Reached c conns s
    → Reached c (put conns k (take_front (conns k) rest)) s
behind_reached c conns s t l a k y0 rest is i_reached =
    λ j n p y h. let o = waited_down conns k y0 rest j n y is h in i_reached j o.0 p y o.1

behind_closed_reply : (c : Client) (conns : ℕ → Conn) (s : Server) (t : Trace) (l : Log) (a : ℕ → ℕ) (k : ℕ)
    (y0 : Received) (rest : List Received) → ((conns k).down ≡ y0 ∷ rest) → ClosedReply c conns s
    → ClosedReply c (put conns k (take_front (conns k) rest)) s
behind_closed_reply c conns s t l a k y0 rest is i_closed_reply =
    λ j n p y h. let o = waited_down conns k y0 rest j n y is h in i_closed_reply j o.0 p y o.1

behind_attach_refused : (c : Client) (conns : ℕ → Conn) (s : Server) (t : Trace) (l : Log) (a : ℕ → ℕ) (k : ℕ)
    (y0 : Received) (rest : List Received) → ((conns k).down ≡ y0 ∷ rest) → AttachRefused c conns s
    → AttachRefused c (put conns k (take_front (conns k) rest)) s
behind_attach_refused c conns s t l a k y0 rest is i_attach_refused =
    λ j n p y h. let o = waited_down conns k y0 rest j n y is h in i_attach_refused j o.0 p y o.1

behind_stale_reply : (c : Client) (conns : ℕ → Conn) (s : Server) (t : Trace) (l : Log) (a : ℕ → ℕ) (k : ℕ)
    (y0 : Received) (rest : List Received) → ((conns k).down ≡ y0 ∷ rest) → StaleReply c conns
    → StaleReply c (put conns k (take_front (conns k) rest))
behind_stale_reply c conns s t l a k y0 rest is i_stale_reply =
    λ j n p y h. let o = waited_down conns k y0 rest j n y is h in i_stale_reply j o.0 p y o.1

behind_live_unsettled : (c : Client) (conns : ℕ → Conn) (s : Server) (t : Trace) (l : Log) (a : ℕ → ℕ) (k : ℕ)
    (y0 : Received) (rest : List Received) → ((conns k).down ≡ y0 ∷ rest) → LiveUnsettled c conns s
    → LiveUnsettled c (put conns k (take_front (conns k) rest)) s
behind_live_unsettled c conns s t l a k y0 rest is i_live_unsettled =
    λ j n p x. let old = i_live_unsettled j n p x in grind (arith, get-push)

behind_live_replay : (c : Client) (conns : ℕ → Conn) (s : Server) (t : Trace) (l : Log) (a : ℕ → ℕ) (k : ℕ)
    (y0 : Received) (rest : List Received) → ((conns k).down ≡ y0 ∷ rest) → LiveReplay c conns s l
    → LiveReplay c (put conns k (take_front (conns k) rest)) s l
behind_live_replay c conns s t l a k y0 rest is i_live_replay =
    λ j n p x. let old = i_live_replay j n p x in grind (arith, get-push)

behind_replies : (c : Client) (conns : ℕ → Conn) (s : Server) (t : Trace) (l : Log) (a : ℕ → ℕ) (k : ℕ) (y0 : Received)
    (rest : List Received) → ((conns k).down ≡ y0 ∷ rest) → Replies conns l
    → Replies (put conns k (take_front (conns k) rest)) l
behind_replies c conns s t l a k y0 rest is i_replies =
    λ j n y h. let o = waited_down conns k y0 rest j n y is h in i_replies j o.0 y o.1

behind_attach_status : (c : Client) (conns : ℕ → Conn) (s : Server) (t : Trace) (l : Log) (a : ℕ → ℕ) (k : ℕ)
    (y0 : Received) (rest : List Received) → ((conns k).down ≡ y0 ∷ rest) → AttachStatus conns
    → AttachStatus (put conns k (take_front (conns k) rest))
behind_attach_status c conns s t l a k y0 rest is i_attach_status =
    λ j n p y h. let o = waited_down conns k y0 rest j n y is h in i_attach_status j o.0 p y o.1

behind_since_reply : (c : Client) (conns : ℕ → Conn) (s : Server) (t : Trace) (l : Log) (a : ℕ → ℕ) (k : ℕ)
    (y0 : Received) (rest : List Received) → ((conns k).down ≡ y0 ∷ rest) → SinceReply conns l
    → SinceReply (put conns k (take_front (conns k) rest)) l
behind_since_reply c conns s t l a k y0 rest is i_since_reply =
    λ j n y h. let o = waited_down conns k y0 rest j n y is h in i_since_reply j o.0 y o.1

pub behind_keeps : (c : Client) (conns : ℕ → Conn) (s : Server) (t : Trace) (l : Log) (a : ℕ → ℕ) (k : ℕ)
    (y0 : Received) (rest : List Received) → ((conns k).down ≡ y0 ∷ rest) → Contents c conns s t l a
    → Contents c (put conns k (take_front (conns k) rest)) s t l a
behind_keeps c conns s t l a k y0 rest is i =
    record {
      token_up = behind_token_up c conns s t l a k y0 rest is i.token_up;
      token_down = behind_token_down c conns s t l a k y0 rest is i.token_down;
      opens_up = behind_opens_up c conns s t l a k y0 rest is i.opens_up;
      asked_as = behind_asked_as c conns s t l a k y0 rest is i.asked_as;
      lost_unknown = i.lost_unknown;
      lost_dead = i.lost_dead;
      lost_known = i.lost_known;
      lost_asked = i.lost_asked;
      session_known = i.session_known;
      session_asked = i.session_asked;
      pairwise = i.pairwise;
      first_up = behind_first_up c conns s t l a k y0 rest is i.first_up;
      unacted = i.unacted;
      fresh_first = i.fresh_first;
      not_done = behind_not_done c conns s t l a k y0 rest is i.not_done;
      cut_seq = behind_cut_seq c conns s t l a k y0 rest is i.cut_seq;
      open_seq = behind_open_seq c conns s t l a k y0 rest is i.open_seq;
      older = behind_older c conns s t l a k y0 rest is i.older;
      no_replay = behind_no_replay c conns s t l a k y0 rest is i.no_replay;
      copy_pair = behind_copy_pair c conns s t l a k y0 rest is i.copy_pair;
      now_pair = i.now_pair;
      create_reply = behind_create_reply c conns s t l a k y0 rest is i.create_reply;
      attach_reply = behind_attach_reply c conns s t l a k y0 rest is i.attach_reply;
      reached = behind_reached c conns s t l a k y0 rest is i.reached;
      closed_reply = behind_closed_reply c conns s t l a k y0 rest is i.closed_reply;
      attach_refused = behind_attach_refused c conns s t l a k y0 rest is i.attach_refused;
      stale_reply = behind_stale_reply c conns s t l a k y0 rest is i.stale_reply;
      session_seq = i.session_seq;
      pending_at = i.pending_at;
      live_unsettled = behind_live_unsettled c conns s t l a k y0 rest is i.live_unsettled;
      live_replay = behind_live_replay c conns s t l a k y0 rest is i.live_replay;
      shows = i.shows;
      denied = i.denied;
      open_of = i.open_of;
      named_open = i.named_open;
      open_given = i.open_given;
      open_row = i.open_row;
      open_acted = i.open_acted;
      bytes = i.bytes;
      quiet = i.quiet;
      foreign = i.foreign;
      acted = i.acted;
      gave = i.gave;
      gave_end = i.gave_end;
      whose = i.whose;
      born = i.born;
      birth_le = i.birth_le;
      first_at = i.first_at;
      by = i.by;
      by_ok = i.by_ok;
      by_end = i.by_end;
      by_some = i.by_some;
      replies = behind_replies c conns s t l a k y0 rest is i.replies;
      attach_status = behind_attach_status c conns s t l a k y0 rest is i.attach_status;
      since_le = i.since_le;
      since_reply = behind_since_reply c conns s t l a k y0 rest is i.since_reply;
      since_by = i.since_by;
      since_first = i.since_first;
      prior = i.prior;
      prior_by = i.prior_by;
      prior_first = i.prior_first;
    }
