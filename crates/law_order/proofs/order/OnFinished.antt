-- Written by tools/law_contents.py. No session can be had.
use Rattle.std.proofs.Common.{◌≡◌, ℕ, false, arith}
use Rattle.spec_exchange.specs.Order.{Log}
use Rattle.spec_exchange.specs.State.{Server}
use Rattle.spec_exchange.specs.Operations.{Why}
use Rattle.spec_exchange.specs.Client.{Client, finish, is_taken}
use Rattle.spec_exchange.specs.Network.{Conn, Trace}
use Rattle.law_sessions.proofs.messages.Lists.{get-push}
use Rattle.law_order.specs.order.Contents.{Contents, OpensUp, LostUnknown, LostDead, LostKnown, LostAsked, SessionKnown}
use Rattle.law_order.specs.order.Contents.{SessionAsked, Pairwise, Unacted, LiveUnsettled, Shows, OpenOf, Whose, By, ByOk}
use Rattle.law_order.specs.order.Contents.{ByEnd, BySome, Prior}
use Rattle.law_order.proofs.order.Words.{finished_was}

finished_opens_up : (c : Client) (conns : ℕ → Conn) (s : Server) (t : Trace) (l : Log) (a : ℕ → ℕ) (why : Why)
    → (c.live ≡ false) → OpensUp c conns → OpensUp (finish c why) conns
finished_opens_up c conns s t l a why dead i_opens_up =
    λ j n x. let old = i_opens_up j n x in grind (arith, get-push)

finished_lost_unknown : (c : Client) (conns : ℕ → Conn) (s : Server) (t : Trace) (l : Log) (a : ℕ → ℕ) (why : Why)
    → (c.live ≡ false) → LostUnknown c → LostUnknown (finish c why)
finished_lost_unknown c conns s t l a why dead i_lost_unknown =
    λ p z. let old = i_lost_unknown p z in grind arith

finished_lost_dead : (c : Client) (conns : ℕ → Conn) (s : Server) (t : Trace) (l : Log) (a : ℕ → ℕ) (why : Why)
    → (c.live ≡ false) → LostDead c → LostDead (finish c why)
finished_lost_dead c conns s t l a why dead i_lost_dead =
    λ p. let old = i_lost_dead p in grind arith

finished_lost_known : (c : Client) (conns : ℕ → Conn) (s : Server) (t : Trace) (l : Log) (a : ℕ → ℕ) (why : Why)
    → (c.live ≡ false) → LostKnown c → SessionKnown c → LostKnown (finish c why)
finished_lost_known c conns s t l a why dead i_lost_known i_session_known =
    λ p z. let old = i_lost_known p z in let known = i_session_known in grind arith

finished_lost_asked : (c : Client) (conns : ℕ → Conn) (s : Server) (t : Trace) (l : Log) (a : ℕ → ℕ) (why : Why)
    → (c.live ≡ false) → LostAsked c → SessionAsked c → LostAsked (finish c why)
finished_lost_asked c conns s t l a why dead i_lost_asked i_session_asked =
    λ p j z. let old = i_lost_asked p j z in let known = i_session_asked j in grind arith

finished_pairwise : (c : Client) (conns : ℕ → Conn) (s : Server) (t : Trace) (l : Log) (a : ℕ → ℕ) (why : Why)
    → (c.live ≡ false) → Pairwise c → Pairwise (finish c why)
finished_pairwise c conns s t l a why dead i_pairwise =
    λ p q lt st e1 e2 cr u1 u2. i_pairwise p q lt st e1 e2 cr (finished_was (is_taken c p) why c.session (c.outcome p)
    (c.given_up p) u1) (finished_was (is_taken c q) why c.session (c.outcome q) (c.given_up q) u2)

finished_unacted : (c : Client) (conns : ℕ → Conn) (s : Server) (t : Trace) (l : Log) (a : ℕ → ℕ) (why : Why)
    → (c.live ≡ false) → Unacted c l → Unacted (finish c why) l
finished_unacted c conns s t l a why dead i_unacted =
    λ p. let old = i_unacted p in grind arith

finished_live_unsettled : (c : Client) (conns : ℕ → Conn) (s : Server) (t : Trace) (l : Log) (a : ℕ → ℕ) (why : Why)
    → (c.live ≡ false) → LiveUnsettled c conns s → LiveUnsettled (finish c why) conns s
finished_live_unsettled c conns s t l a why dead i_live_unsettled =
    λ j n p x. let old = i_live_unsettled j n p x in grind (arith, get-push)

finished_shows : (c : Client) (conns : ℕ → Conn) (s : Server) (t : Trace) (l : Log) (a : ℕ → ℕ) (why : Why)
    → (c.live ≡ false) → Shows c s l → Shows (finish c why) s l
finished_shows c conns s t l a why dead i_shows =
    λ p ed iso sd pe so. i_shows p ed iso sd (finished_was (is_taken c p) why c.session (c.outcome p) (c.given_up p) pe) so

finished_open_of : (c : Client) (conns : ℕ → Conn) (s : Server) (t : Trace) (l : Log) (a : ℕ → ℕ) (why : Why)
    → (c.live ≡ false) → OpenOf c t → OpenOf (finish c why) t
finished_open_of c conns s t l a why dead i_open_of =
    λ q. let old = i_open_of q in grind arith

finished_whose : (c : Client) (conns : ℕ → Conn) (s : Server) (t : Trace) (l : Log) (a : ℕ → ℕ) (why : Why)
    → (c.live ≡ false) → Whose c l → Whose (finish c why) l
finished_whose c conns s t l a why dead i_whose =
    λ n. let old = i_whose n in grind arith

finished_by : (c : Client) (conns : ℕ → Conn) (s : Server) (t : Trace) (l : Log) (a : ℕ → ℕ) (why : Why)
    → (c.live ≡ false) → By c l → By (finish c why) l
finished_by c conns s t l a why dead i_by =
    λ p n. let old = i_by p n in grind arith

finished_by_ok : (c : Client) (conns : ℕ → Conn) (s : Server) (t : Trace) (l : Log) (a : ℕ → ℕ) (why : Why)
    → (c.live ≡ false) → ByOk c l → ByOk (finish c why) l
finished_by_ok c conns s t l a why dead i_by_ok =
    λ p n v. let old = i_by_ok p n v in grind arith

finished_by_end : (c : Client) (conns : ℕ → Conn) (s : Server) (t : Trace) (l : Log) (a : ℕ → ℕ) (why : Why)
    → (c.live ≡ false) → ByEnd c l → ByEnd (finish c why) l
finished_by_end c conns s t l a why dead i_by_end =
    λ p n. let old = i_by_end p n in grind arith

finished_by_some : (c : Client) (conns : ℕ → Conn) (s : Server) (t : Trace) (l : Log) (a : ℕ → ℕ) (why : Why)
    → (c.live ≡ false) → BySome c → BySome (finish c why)
finished_by_some c conns s t l a why dead i_by_some =
    λ p. let old = i_by_some p in grind arith

finished_prior : (c : Client) (conns : ℕ → Conn) (s : Server) (t : Trace) (l : Log) (a : ℕ → ℕ) (why : Why)
    → (c.live ≡ false) → Prior c l → Prior (finish c why) l
finished_prior c conns s t l a why dead i_prior =
    λ p q. let old = i_prior p q in grind arith

pub finished_keeps : (c : Client) (conns : ℕ → Conn) (s : Server) (t : Trace) (l : Log) (a : ℕ → ℕ) (why : Why)
    → (c.live ≡ false) → Contents c conns s t l a → Contents (finish c why) conns s t l a
finished_keeps c conns s t l a why dead i =
    record {
      token_up = i.token_up;
      token_down = i.token_down;
      opens_up = finished_opens_up c conns s t l a why dead i.opens_up;
      asked_as = i.asked_as;
      lost_unknown = finished_lost_unknown c conns s t l a why dead i.lost_unknown;
      lost_dead = finished_lost_dead c conns s t l a why dead i.lost_dead;
      lost_known = finished_lost_known c conns s t l a why dead i.lost_known i.session_known;
      lost_asked = finished_lost_asked c conns s t l a why dead i.lost_asked i.session_asked;
      session_known = i.session_known;
      session_asked = i.session_asked;
      pairwise = finished_pairwise c conns s t l a why dead i.pairwise;
      first_up = i.first_up;
      unacted = finished_unacted c conns s t l a why dead i.unacted;
      fresh_first = i.fresh_first;
      not_done = i.not_done;
      cut_seq = i.cut_seq;
      open_seq = i.open_seq;
      older = i.older;
      no_replay = i.no_replay;
      copy_pair = i.copy_pair;
      now_pair = i.now_pair;
      create_reply = i.create_reply;
      attach_reply = i.attach_reply;
      reached = i.reached;
      closed_reply = i.closed_reply;
      attach_refused = i.attach_refused;
      stale_reply = i.stale_reply;
      session_seq = i.session_seq;
      pending_at = i.pending_at;
      live_unsettled = finished_live_unsettled c conns s t l a why dead i.live_unsettled;
      live_replay = i.live_replay;
      shows = finished_shows c conns s t l a why dead i.shows;
      denied = i.denied;
      open_of = finished_open_of c conns s t l a why dead i.open_of;
      named_open = i.named_open;
      open_given = i.open_given;
      open_row = i.open_row;
      open_acted = i.open_acted;
      bytes = i.bytes;
      quiet = i.quiet;
      foreign = i.foreign;
      acted = i.acted;
      gave = i.gave;
      gave_end = i.gave_end;
      whose = finished_whose c conns s t l a why dead i.whose;
      born = i.born;
      birth_le = i.birth_le;
      first_at = i.first_at;
      by = finished_by c conns s t l a why dead i.by;
      by_ok = finished_by_ok c conns s t l a why dead i.by_ok;
      by_end = finished_by_end c conns s t l a why dead i.by_end;
      by_some = finished_by_some c conns s t l a why dead i.by_some;
      replies = i.replies;
      attach_status = i.attach_status;
      since_le = i.since_le;
      since_reply = i.since_reply;
      since_by = i.since_by;
      since_first = i.since_first;
      prior = finished_prior c conns s t l a why dead i.prior;
      prior_by = i.prior_by;
      prior_first = i.prior_first;
    }
