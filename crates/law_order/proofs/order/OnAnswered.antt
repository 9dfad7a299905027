-- Written by tools/law_contents.py. An operation is answered and isn't settled.
use Rattle.std.proofs.Common.{◌≡◌, ℕ, true, false, arith, None}
use Rattle.spec_exchange.specs.Order.{Log}
use Rattle.spec_exchange.specs.State.{Server}
use Rattle.spec_exchange.specs.Client.{Client}
use Rattle.spec_exchange.specs.Settling.{answered}
use Rattle.spec_exchange.specs.Network.{Conn, Trace}
use Rattle.law_sessions.proofs.messages.Lists.{get-push}
use Rattle.law_order.specs.order.Contents.{Contents, edits, Unacted, Older}

answered_unacted : (c : Client) (conns : ℕ → Conn) (s : Server) (t : Trace) (l : Log) (a : ℕ → ℕ) (g : ℕ)
    → (edits (c.op g) ≡ true → c.unanswered g ≡ false → c.asks_attach g ≡ false → l.first g ≡ None) → Unacted c l
    → Unacted (answered c g) l
answered_unacted c conns s t l a g idle i_unacted =
    λ p ed b no un. let old = i_unacted p ed b in let id = idle in grind arith

answered_older : (c : Client) (conns : ℕ → Conn) (s : Server) (t : Trace) (l : Log) (a : ℕ → ℕ) (g : ℕ) → Older c conns
    → Older (answered c g) conns
answered_older c conns s t l a g i_older =
    λ j n i p x. let old = i_older j n i p x in grind (arith, get-push)

pub answered_keeps : (c : Client) (conns : ℕ → Conn) (s : Server) (t : Trace) (l : Log) (a : ℕ → ℕ) (g : ℕ)
    → (edits (c.op g) ≡ true → c.unanswered g ≡ false → c.asks_attach g ≡ false → l.first g ≡ None)
    → Contents c conns s t l a → Contents (answered c g) conns s t l a
answered_keeps c conns s t l a g idle i =
    record {
      token_up = i.token_up;
      token_down = i.token_down;
      opens_up = i.opens_up;
      asked_as = i.asked_as;
      lost_unknown = i.lost_unknown;
      lost_dead = i.lost_dead;
      lost_known = i.lost_known;
      lost_asked = i.lost_asked;
      session_known = i.session_known;
      session_asked = i.session_asked;
      pairwise = i.pairwise;
      first_up = i.first_up;
      unacted = answered_unacted c conns s t l a g idle i.unacted;
      fresh_first = i.fresh_first;
      not_done = i.not_done;
      cut_seq = i.cut_seq;
      open_seq = i.open_seq;
      older = answered_older c conns s t l a g i.older;
      no_replay = i.no_replay;
      copy_pair = i.copy_pair;
      now_pair = i.now_pair;
      create_reply = i.create_reply;
      attach_reply = i.attach_reply;
      reached = i.reached;
      closed_reply = i.closed_reply;
      attach_refused = i.attach_refused;
      stale_reply = i.stale_reply;
      session_seq = i.session_seq;
      pending_at = i.pending_at;
      live_unsettled = i.live_unsettled;
      live_replay = i.live_replay;
      shows = i.shows;
      denied = i.denied;
      open_of = i.open_of;
      named_open = i.named_open;
      open_given = i.open_given;
      open_row = i.open_row;
      open_acted = i.open_acted;
      bytes = i.bytes;
      quiet = i.quiet;
      foreign = i.foreign;
      acted = i.acted;
      gave = i.gave;
      gave_end = i.gave_end;
      whose = i.whose;
      born = i.born;
      birth_le = i.birth_le;
      first_at = i.first_at;
      by = i.by;
      by_ok = i.by_ok;
      by_end = i.by_end;
      by_some = i.by_some;
      replies = i.replies;
      attach_status = i.attach_status;
      since_le = i.since_le;
      since_reply = i.since_reply;
      since_by = i.since_by;
      since_first = i.since_first;
      prior = i.prior;
      prior_by = i.prior_by;
      prior_first = i.prior_first;
    }
