-- Written by tools/law_contents.py. Operations that never went out settle without a reply.
use Rattle.std.proofs.Common.{◌≡◌, ℕ, true, false, arith, sym, subst}
use Rattle.spec_exchange.specs.Table.{is_at}
use Rattle.spec_exchange.specs.Order.{Log, Settled_ok, Settled_end}
use Rattle.spec_exchange.specs.State.{Server}
use Rattle.spec_exchange.specs.Operations.{Outcome, is_unsettled, is_firm, is_ok}
use Rattle.spec_exchange.specs.Client.{Client}
use Rattle.spec_exchange.specs.Runs.{settlement}
use Rattle.spec_exchange.specs.Network.{Conn, Trace, op_of}
use Rattle.law_sessions.specs.messages.Connections.{create_at, Bodies as CBodies}
use Rattle.law_order.specs.order.Contents.{Contents, OpensUp, LostUnknown, Pairwise, Unacted, LiveUnsettled, Shows, OpenOf}
use Rattle.law_order.specs.order.Contents.{Whose, By, ByOk, ByEnd, BySome, Prior}
use Rattle.law_order.proofs.order.Words.{outcomes_back, outcomes_on, firm_settled}

outcomes_opens_up : (c : Client) (conns : ℕ → Conn) (s : Server) (t : Trace) (l : Log) (a : ℕ → ℕ) (new : ℕ → Outcome)
    → ((h : ℕ) → is_ok (c.outcome h) ≡ true → is_ok (new h) ≡ true) → OpensUp c conns → OpensUp (record c {
      outcome = new;
    }) conns
outcomes_opens_up c conns s t l a new ok_on i_opens_up =
    λ j n x h z. let old = i_opens_up j n x h z in let ok = ok_on (create_at c (op_of x.token)) in grind arith

outcomes_lost_unknown : (c : Client) (conns : ℕ → Conn) (s : Server) (t : Trace) (l : Log) (a : ℕ → ℕ)
    (new : ℕ → Outcome) → ((h : ℕ) → is_unsettled (c.outcome h) ≡ false → new h ≡ c.outcome h) → LostUnknown c
    → LostUnknown (record c { outcome = new })
outcomes_lost_unknown c conns s t l a new same i_lost_unknown =
    λ p z gu. let old = i_lost_unknown p z gu in let sm = same p old.0 in grind arith

outcomes_pairwise : (c : Client) (conns : ℕ → Conn) (s : Server) (t : Trace) (l : Log) (a : ℕ → ℕ) (new : ℕ → Outcome)
    → ((h : ℕ) → is_unsettled (c.outcome h) ≡ false → new h ≡ c.outcome h) → Pairwise c → Pairwise (record c {
      outcome = new;
    })
outcomes_pairwise c conns s t l a new same i_pairwise =
    λ p q lt st e1 e2 cr u1 u2. i_pairwise p q lt st e1 e2 cr
    (outcomes_back (new p) (c.outcome p) (is_at c.session (c.given_up p)) (same p) u1)
    (outcomes_back (new q) (c.outcome q) (is_at c.session (c.given_up q)) (same q) u2)

outcomes_unacted : (c : Client) (conns : ℕ → Conn) (s : Server) (t : Trace) (l : Log) (a : ℕ → ℕ) (new : ℕ → Outcome)
    → ((h : ℕ) → is_unsettled (new h) ≡ true → is_unsettled (c.outcome h) ≡ true) → Unacted c l → Unacted (record c {
      outcome = new;
    }) l
outcomes_unacted c conns s t l a new back i_unacted =
    λ p ed b no un. i_unacted p ed b no (back p un)

outcomes_live_unsettled : (c : Client) (conns : ℕ → Conn) (s : Server) (t : Trace) (l : Log) (a : ℕ → ℕ)
    (new : ℕ → Outcome) → ((h : ℕ) → is_unsettled (c.outcome h) ≡ false → new h ≡ c.outcome h)
    → ((h : ℕ) → is_unsettled (c.outcome h) ≡ true → is_unsettled (new h) ≡ false → c.sent h ≡ false × is_firm (new h)
    ≡ false × is_ok (new h) ≡ false) → CBodies c conns → LiveUnsettled c conns s → LiveUnsettled (record c {
      outcome = new;
    }) conns s
outcomes_live_unsettled c conns s t l a new same unsent cn_bodies i_live_unsettled =
    λ j n p x h e ed fm sd pr le. outcomes_on (new p) (c.outcome p) (is_at c.session (c.given_up p)) (same p)
    (λ u v. absurd (let z = (unsent p u v).0 in let w = (cn_bodies j n p x h e).0 in grind arith))
    (i_live_unsettled j n p x h e ed fm sd pr le)

outcomes_shows : (c : Client) (conns : ℕ → Conn) (s : Server) (t : Trace) (l : Log) (a : ℕ → ℕ) (new : ℕ → Outcome)
    → ((h : ℕ) → is_unsettled (c.outcome h) ≡ false → new h ≡ c.outcome h) → Shows c s l → Shows (record c {
      outcome = new;
    }) s l
outcomes_shows c conns s t l a new same i_shows =
    λ p ed iso sd pe so. i_shows p ed iso sd (outcomes_back (new p) (c.outcome p) (is_at c.session (c.given_up p)) (same p) pe) so

outcomes_open_of : (c : Client) (conns : ℕ → Conn) (s : Server) (t : Trace) (l : Log) (a : ℕ → ℕ) (new : ℕ → Outcome)
    → ((h : ℕ) → is_ok (new h) ≡ true → is_ok (c.outcome h) ≡ true) → OpenOf c t → OpenOf (record c { outcome = new }) t
outcomes_open_of c conns s t l a new ok_back i_open_of =
    λ q mk o. i_open_of q mk (ok_back q o)

outcomes_whose : (c : Client) (conns : ℕ → Conn) (s : Server) (t : Trace) (l : Log) (a : ℕ → ℕ) (new : ℕ → Outcome)
    → ((h : ℕ) → is_ok (c.outcome h) ≡ true → is_ok (new h) ≡ true) → Whose c l → Whose (record c { outcome = new }) l
outcomes_whose c conns s t l a new ok_on i_whose =
    λ n lt. let old = i_whose n lt in (old.0, λ ab. let z = old.1 ab in let ok = ok_on (create_at c (l.who n)) in grind arith)

outcomes_by : (c : Client) (conns : ℕ → Conn) (s : Server) (t : Trace) (l : Log) (a : ℕ → ℕ) (new : ℕ → Outcome)
    → ((h : ℕ) → is_unsettled (c.outcome h) ≡ false → new h ≡ c.outcome h) → By c l → By (record c { outcome = new }) l
outcomes_by c conns s t l a new same i_by =
    λ p n b. let old = i_by p n b in let sm = same p old.3 in grind arith

outcomes_by_ok : (c : Client) (conns : ℕ → Conn) (s : Server) (t : Trace) (l : Log) (a : ℕ → ℕ) (new : ℕ → Outcome)
    → ((h : ℕ) → is_unsettled (c.outcome h) ≡ false → new h ≡ c.outcome h) → ByOk c l → By c l → ByOk (record c {
      outcome = new;
    }) l
outcomes_by_ok c conns s t l a new same i_by_ok i_by =
    λ p n v ls b st. let bb = i_by p n b in let sm = same p bb.3 in
    i_by_ok p n v ls b (subst (λ o. settlement (c.op p) o ≡ Settled_ok v) sm st)

outcomes_by_end : (c : Client) (conns : ℕ → Conn) (s : Server) (t : Trace) (l : Log) (a : ℕ → ℕ) (new : ℕ → Outcome)
    → ((h : ℕ) → is_unsettled (c.outcome h) ≡ false → new h ≡ c.outcome h) → ByEnd c l → By c l → ByEnd (record c {
      outcome = new;
    }) l
outcomes_by_end c conns s t l a new same i_by_end i_by =
    λ p n b st. let bb = i_by p n b in let sm = same p bb.3 in i_by_end p n b (subst (λ o. settlement (c.op p) o ≡ Settled_end) sm st)

outcomes_by_some : (c : Client) (conns : ℕ → Conn) (s : Server) (t : Trace) (l : Log) (a : ℕ → ℕ) (new : ℕ → Outcome)
    → ((h : ℕ) → is_firm (new h) ≡ true → is_firm (c.outcome h) ≡ true) → BySome c → BySome (record c { outcome = new })
outcomes_by_some c conns s t l a new firm_back i_by_some =
    λ p f. i_by_some p (firm_back p f)

outcomes_prior : (c : Client) (conns : ℕ → Conn) (s : Server) (t : Trace) (l : Log) (a : ℕ → ℕ) (new : ℕ → Outcome)
    → ((h : ℕ) → is_unsettled (c.outcome h) ≡ false → new h ≡ c.outcome h) → Prior c l → Prior (record c {
      outcome = new;
    }) l
outcomes_prior c conns s t l a new same i_prior =
    λ p q pr. let old = i_prior p q pr in let sm = same q (firm_settled (c.outcome q) old.1) in
    (old.0, subst (λ o. is_firm o ≡ true) (sym sm) old.1)

pub outcomes_keeps : (c : Client) (conns : ℕ → Conn) (s : Server) (t : Trace) (l : Log) (a : ℕ → ℕ) (new : ℕ → Outcome)
    → ((h : ℕ) → is_unsettled (c.outcome h) ≡ false → new h ≡ c.outcome h)
    → ((h : ℕ) → is_unsettled (c.outcome h) ≡ true → is_unsettled (new h) ≡ false → c.sent h ≡ false × is_firm (new h)
    ≡ false × is_ok (new h) ≡ false) → ((h : ℕ) → is_unsettled (new h) ≡ true → is_unsettled (c.outcome h) ≡ true)
    → ((h : ℕ) → is_firm (new h) ≡ true → is_firm (c.outcome h) ≡ true)
    → ((h : ℕ) → is_ok (new h) ≡ true → is_ok (c.outcome h) ≡ true)
    → ((h : ℕ) → is_ok (c.outcome h) ≡ true → is_ok (new h) ≡ true) → CBodies c conns → Contents c conns s t l a
    → Contents (record c { outcome = new }) conns s t l a
outcomes_keeps c conns s t l a new same unsent back firm_back ok_back ok_on cn_bodies i =
    record {
      token_up = i.token_up;
      token_down = i.token_down;
      opens_up = outcomes_opens_up c conns s t l a new ok_on i.opens_up;
      asked_as = i.asked_as;
      lost_unknown = outcomes_lost_unknown c conns s t l a new same i.lost_unknown;
      lost_dead = i.lost_dead;
      lost_known = i.lost_known;
      lost_asked = i.lost_asked;
      session_known = i.session_known;
      session_asked = i.session_asked;
      pairwise = outcomes_pairwise c conns s t l a new same i.pairwise;
      first_up = i.first_up;
      unacted = outcomes_unacted c conns s t l a new back i.unacted;
      fresh_first = i.fresh_first;
      not_done = i.not_done;
      cut_seq = i.cut_seq;
      open_seq = i.open_seq;
      older = i.older;
      no_replay = i.no_replay;
      copy_pair = i.copy_pair;
      now_pair = i.now_pair;
      create_reply = i.create_reply;
      attach_reply = i.attach_reply;
      reached = i.reached;
      closed_reply = i.closed_reply;
      attach_refused = i.attach_refused;
      stale_reply = i.stale_reply;
      session_seq = i.session_seq;
      pending_at = i.pending_at;
      live_unsettled = outcomes_live_unsettled c conns s t l a new same unsent cn_bodies i.live_unsettled;
      live_replay = i.live_replay;
      shows = outcomes_shows c conns s t l a new same i.shows;
      denied = i.denied;
      open_of = outcomes_open_of c conns s t l a new ok_back i.open_of;
      named_open = i.named_open;
      open_given = i.open_given;
      open_row = i.open_row;
      open_acted = i.open_acted;
      bytes = i.bytes;
      quiet = i.quiet;
      foreign = i.foreign;
      acted = i.acted;
      gave = i.gave;
      gave_end = i.gave_end;
      whose = outcomes_whose c conns s t l a new ok_on i.whose;
      born = i.born;
      birth_le = i.birth_le;
      first_at = i.first_at;
      by = outcomes_by c conns s t l a new same i.by;
      by_ok = outcomes_by_ok c conns s t l a new same i.by_ok i.by;
      by_end = outcomes_by_end c conns s t l a new same i.by_end i.by;
      by_some = outcomes_by_some c conns s t l a new firm_back i.by_some;
      replies = i.replies;
      attach_status = i.attach_status;
      since_le = i.since_le;
      since_reply = i.since_reply;
      since_by = i.since_by;
      since_first = i.since_first;
      prior = outcomes_prior c conns s t l a new same i.prior;
      prior_by = i.prior_by;
      prior_first = i.prior_first;
    }
