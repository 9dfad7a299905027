-- Written by tools/law_contents.py. An operation goes out first.
use Rattle.std.proofs.lemmas.Bool.{eqb-false}
use Rattle.std.proofs.Common.{eqb-true, ◌≡◌, ◌≢◌, ℕ, ◌<◌, ◌==◌, Bool, true, false, refl, arith, sym, subst, ◌∙◌, Some, slice_get}
use Rattle.spec_exchange.specs.Table.{put}
use Rattle.spec_exchange.specs.Order.{Log}
use Rattle.spec_exchange.specs.State.{Server}
use Rattle.spec_exchange.specs.Operations.{is_unsettled, is_firm}
use Rattle.spec_exchange.specs.Client.{Client}
use Rattle.spec_exchange.specs.Network.{Conn, Received, Trace, op_of}
use Rattle.law_sessions.specs.messages.Connections.{create_at}
use Rattle.law_order.specs.order.Contents.{Contents, edits, clashes, LostDead, Pairwise, FreshFirst, OpenGiven, FirstAt, By}
use Rattle.law_order.specs.order.Contents.{SinceLe, SinceReply, SinceBy, SinceFirst, Prior, PriorBy, PriorFirst}
use Rattle.law_order.proofs.order.Words.{put_other, live_pends}

start_pairwise : (c : Client) (conns : ℕ → Conn) (s : Server) (t : Trace) (l : Log) (a : ℕ → ℕ) (g : ℕ) (pr : ℕ → Bool)
    → (c.sent g ≡ false) → (0 < g) → (is_unsettled (c.outcome g) ≡ true) → (c.live ≡ true)
    → ((n : ℕ) → n < g → create_at c n ≡ create_at c g → edits (c.op n) ≡ true → edits (c.op g) ≡ true
    → is_unsettled (c.outcome n) ≡ true → clashes (c.op n) (c.op g) ≡ false) → Pairwise c → LostDead c
    → Pairwise (record c { sent = put c.sent g true })
start_pairwise c conns s t l a g pr new above pending live lower i_pairwise i_lost_dead =
    λ p q lt st e1 e2 cr u1 u2. elim (q == g) as (λ b. q == g ≡ b → clashes (c.op p) (c.op q) ≡ false) [
      | true ↦ λ z. let qg = eqb-true _ _ z in subst (λ r. clashes (c.op p) (c.op r) ≡ false) (sym qg)
          (lower p (subst (λ r. p < r) qg lt) (subst (λ r. create_at c p ≡ create_at c r) qg cr) e1
          (subst (λ r. edits (c.op r) ≡ true) qg e2) (live_pends (c.outcome p) (c.given_up p) c.session c.live
          (i_lost_dead p) live u1))
      | false ↦ λ z. i_pairwise p q lt (sym (put_other c.sent g true q (eqb-false _ _ z))
          ∙ st) e1 e2 cr u1 u2
    ] refl

start_fresh_first : (c : Client) (conns : ℕ → Conn) (s : Server) (t : Trace) (l : Log) (a : ℕ → ℕ) (g : ℕ)
    (pr : ℕ → Bool) → (c.sent g ≡ false) → (0 < g) → (is_unsettled (c.outcome g) ≡ true) → (c.live ≡ true)
    → FreshFirst c l → FreshFirst (record c { sent = put c.sent g true }) (record l {
      since = put l.since g l.places;
      prior = put l.prior g pr;
    })
start_fresh_first c conns s t l a g pr new above pending live i_fresh_first =
    λ p. let old = i_fresh_first p in grind arith

start_open_given : (c : Client) (conns : ℕ → Conn) (s : Server) (t : Trace) (l : Log) (a : ℕ → ℕ) (g : ℕ)
    (pr : ℕ → Bool) → (c.sent g ≡ false) → (0 < g) → (is_unsettled (c.outcome g) ≡ true) → (c.live ≡ true)
    → OpenGiven c s t → OpenGiven (record c { sent = put c.sent g true }) s t
start_open_given c conns s t l a g pr new above pending live i_open_given =
    λ q o. let old = i_open_given q o in grind arith

start_since_le : (c : Client) (conns : ℕ → Conn) (s : Server) (t : Trace) (l : Log) (a : ℕ → ℕ) (g : ℕ) (pr : ℕ → Bool)
    → (c.sent g ≡ false) → (0 < g) → (is_unsettled (c.outcome g) ≡ true) → (c.live ≡ true) → SinceLe l
    → SinceLe (record l { since = put l.since g l.places; prior = put l.prior g pr })
start_since_le c conns s t l a g pr new above pending live i_since_le =
    λ p. let old = i_since_le p in grind arith

start_since_reply : (c : Client) (conns : ℕ → Conn) (s : Server) (t : Trace) (l : Log) (a : ℕ → ℕ) (g : ℕ)
    (pr : ℕ → Bool) → (c.sent g ≡ false) → (0 < g) → (is_unsettled (c.outcome g) ≡ true) → (c.live ≡ true)
    → ((j n : ℕ) (y : Received) → slice_get (conns j).down n ≡ Some y → op_of y.token ≢ g) → SinceReply conns l
    → SinceReply conns (record l { since = put l.since g l.places; prior = put l.prior g pr })
start_since_reply c conns s t l a g pr new above pending live quiet i_since_reply =
    λ j n y h. let qu = quiet j n y h in let old = i_since_reply j n y h in grind arith

start_since_by : (c : Client) (conns : ℕ → Conn) (s : Server) (t : Trace) (l : Log) (a : ℕ → ℕ) (g : ℕ) (pr : ℕ → Bool)
    → (c.sent g ≡ false) → (0 < g) → (is_unsettled (c.outcome g) ≡ true) → (c.live ≡ true) → SinceBy c l → By c l
    → SinceBy (record c { sent = put c.sent g true }) (record l {
      since = put l.since g l.places;
      prior = put l.prior g pr;
    })
start_since_by c conns s t l a g pr new above pending live i_since_by i_by =
    λ p n b. let old = i_since_by p n b in let bb = i_by p n b in grind arith

start_since_first : (c : Client) (conns : ℕ → Conn) (s : Server) (t : Trace) (l : Log) (a : ℕ → ℕ) (g : ℕ)
    (pr : ℕ → Bool) → (c.sent g ≡ false) → (0 < g) → (is_unsettled (c.outcome g) ≡ true) → (c.live ≡ true)
    → SinceFirst l → FreshFirst c l → SinceFirst (record l { since = put l.since g l.places; prior = put l.prior g pr })
start_since_first c conns s t l a g pr new above pending live i_since_first i_fresh_first =
    λ p n f. let old = i_since_first p n f in let fr = i_fresh_first p in grind arith

start_prior : (c : Client) (conns : ℕ → Conn) (s : Server) (t : Trace) (l : Log) (a : ℕ → ℕ) (g : ℕ) (pr : ℕ → Bool)
    → (c.sent g ≡ false) → (0 < g) → (is_unsettled (c.outcome g) ≡ true) → (c.live ≡ true)
    → ((q : ℕ) → pr q ≡ true → is_firm (c.outcome q) ≡ true) → Prior c l → Prior (record c { sent = put c.sent g true })
    (record l { since = put l.since g l.places; prior = put l.prior g pr })
start_prior c conns s t l a g pr new above pending live firm i_prior =
    λ p q. let old = i_prior p q in let f = firm q in grind arith

start_prior_by : (c : Client) (conns : ℕ → Conn) (s : Server) (t : Trace) (l : Log) (a : ℕ → ℕ) (g : ℕ) (pr : ℕ → Bool)
    → (c.sent g ≡ false) → (0 < g) → (is_unsettled (c.outcome g) ≡ true) → (c.live ≡ true) → PriorBy c l → By c l
    → PriorBy (record c { sent = put c.sent g true }) (record l {
      since = put l.since g l.places;
      prior = put l.prior g pr;
    })
start_prior_by c conns s t l a g pr new above pending live i_prior_by i_by =
    λ p q n. let old = i_prior_by p q n in let bb = i_by q n in grind arith

start_prior_first : (c : Client) (conns : ℕ → Conn) (s : Server) (t : Trace) (l : Log) (a : ℕ → ℕ) (g : ℕ)
    (pr : ℕ → Bool) → (c.sent g ≡ false) → (0 < g) → (is_unsettled (c.outcome g) ≡ true) → (c.live ≡ true)
    → PriorFirst c l → FirstAt l → PriorFirst (record c { sent = put c.sent g true }) (record l {
      since = put l.since g l.places;
      prior = put l.prior g pr;
    })
start_prior_first c conns s t l a g pr new above pending live i_prior_first i_first_at =
    λ p q n. let old = i_prior_first p q n in let bb = i_first_at q n in grind arith

pub start_keeps : (c : Client) (conns : ℕ → Conn) (s : Server) (t : Trace) (l : Log) (a : ℕ → ℕ) (g : ℕ) (pr : ℕ → Bool)
    → (c.sent g ≡ false) → (0 < g) → (is_unsettled (c.outcome g) ≡ true) → (c.live ≡ true)
    → ((n : ℕ) → n < g → create_at c n ≡ create_at c g → edits (c.op n) ≡ true → edits (c.op g) ≡ true
    → is_unsettled (c.outcome n) ≡ true → clashes (c.op n) (c.op g) ≡ false)
    → ((q : ℕ) → pr q ≡ true → is_firm (c.outcome q) ≡ true) → ((j n : ℕ) (y : Received) → slice_get (conns j).down n
    ≡ Some y → op_of y.token ≢ g) → Contents c conns s t l a → Contents (record c { sent = put c.sent g true }) conns s
    t (record l { since = put l.since g l.places; prior = put l.prior g pr }) a
start_keeps c conns s t l a g pr new above pending live lower firm quiet i =
    record {
      token_up = i.token_up;
      token_down = i.token_down;
      opens_up = i.opens_up;
      asked_as = i.asked_as;
      lost_unknown = i.lost_unknown;
      lost_dead = i.lost_dead;
      lost_known = i.lost_known;
      lost_asked = i.lost_asked;
      session_known = i.session_known;
      session_asked = i.session_asked;
      pairwise = start_pairwise c conns s t l a g pr new above pending live lower i.pairwise i.lost_dead;
      first_up = i.first_up;
      unacted = i.unacted;
      fresh_first = start_fresh_first c conns s t l a g pr new above pending live i.fresh_first;
      not_done = i.not_done;
      cut_seq = i.cut_seq;
      open_seq = i.open_seq;
      older = i.older;
      no_replay = i.no_replay;
      copy_pair = i.copy_pair;
      now_pair = i.now_pair;
      create_reply = i.create_reply;
      attach_reply = i.attach_reply;
      reached = i.reached;
      closed_reply = i.closed_reply;
      attach_refused = i.attach_refused;
      stale_reply = i.stale_reply;
      session_seq = i.session_seq;
      pending_at = i.pending_at;
      live_unsettled = i.live_unsettled;
      live_replay = i.live_replay;
      shows = i.shows;
      denied = i.denied;
      open_of = i.open_of;
      named_open = i.named_open;
      open_given = start_open_given c conns s t l a g pr new above pending live i.open_given;
      open_row = i.open_row;
      open_acted = i.open_acted;
      bytes = i.bytes;
      quiet = i.quiet;
      foreign = i.foreign;
      acted = i.acted;
      gave = i.gave;
      gave_end = i.gave_end;
      whose = i.whose;
      born = i.born;
      birth_le = i.birth_le;
      first_at = i.first_at;
      by = i.by;
      by_ok = i.by_ok;
      by_end = i.by_end;
      by_some = i.by_some;
      replies = i.replies;
      attach_status = i.attach_status;
      since_le = start_since_le c conns s t l a g pr new above pending live i.since_le;
      since_reply = start_since_reply c conns s t l a g pr new above pending live quiet i.since_reply;
      since_by = start_since_by c conns s t l a g pr new above pending live i.since_by i.by;
      since_first = start_since_first c conns s t l a g pr new above pending live i.since_first i.fresh_first;
      prior = start_prior c conns s t l a g pr new above pending live firm i.prior;
      prior_by = start_prior_by c conns s t l a g pr new above pending live i.prior_by i.by;
      prior_first = start_prior_first c conns s t l a g pr new above pending live i.prior_first i.first_at;
    }
