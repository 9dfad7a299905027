-- Written by tools/law_contents.py. A reply settles its operation.
use Rattle.std.proofs.lemmas.Bool.{eqb-false}
use Rattle.std.proofs.Common.{eqb-true, ◌≡◌, ℕ, ◌≤◌, ◌<◌, ◌==◌, true, false, refl, arith, sym, subst, ◌∙◌, Some, slice_get}
use Rattle.spec_exchange.specs.Table.{put, is_at}
use Rattle.spec_exchange.specs.Content.{ContentReply}
use Rattle.spec_exchange.specs.Order.{Log, Says_ok, Says_end, Settled_ok, Settled_end}
use Rattle.spec_exchange.specs.State.{Server}
use Rattle.spec_exchange.specs.Operations.{Outcome, is_unsettled, is_ok}
use Rattle.spec_exchange.specs.Client.{Client}
use Rattle.spec_exchange.specs.Settling.{settled as settled_by}
use Rattle.spec_exchange.specs.Runs.{settlement}
use Rattle.spec_exchange.specs.Network.{Conn, Sent, Trace, ForOp}
use Rattle.law_sessions.specs.messages.Connections.{makes_open}
use Rattle.law_sessions.proofs.messages.Lists.{get-push}
use Rattle.law_order.specs.order.Contents.{Contents, edits, lists, formed, file_at, OpensUp, LostUnknown, Pairwise, Unacted}
use Rattle.law_order.specs.order.Contents.{Older, LiveUnsettled, Shows, OpenOf, Whose, By, ByOk, ByEnd, BySome, SinceBy}
use Rattle.law_order.specs.order.Contents.{Prior, PriorBy}
use Rattle.law_order.proofs.order.Words.{put_other, put_self, firm_settled, may_act}

settle_opens_up : (c : Client) (conns : ℕ → Conn) (s : Server) (t : Trace) (l : Log) (a : ℕ → ℕ) (g place : ℕ)
    (out : Outcome) → (is_unsettled (c.outcome g) ≡ true) → (0 < g) → (is_unsettled out ≡ false) → (place < l.places)
    → (l.who place ≡ g) → (l.since g ≤ place) → OpensUp c conns → OpensUp (settled_by c g out place) conns
settle_opens_up c conns s t l a g place out pending above firm within who since i_opens_up =
    λ j n x. let old = i_opens_up j n x in grind (arith, get-push)

settle_lost_unknown : (c : Client) (conns : ℕ → Conn) (s : Server) (t : Trace) (l : Log) (a : ℕ → ℕ) (g place : ℕ)
    (out : Outcome) → (is_unsettled (c.outcome g) ≡ true) → (0 < g) → (is_unsettled out ≡ false) → (place < l.places)
    → (l.who place ≡ g) → (l.since g ≤ place) → LostUnknown c → LostUnknown (settled_by c g out place)
settle_lost_unknown c conns s t l a g place out pending above firm within who since i_lost_unknown =
    λ p z. let old = i_lost_unknown p z in grind arith

settle_pairwise : (c : Client) (conns : ℕ → Conn) (s : Server) (t : Trace) (l : Log) (a : ℕ → ℕ) (g place : ℕ)
    (out : Outcome) → (is_unsettled (c.outcome g) ≡ true) → (0 < g) → (is_unsettled out ≡ false) → (place < l.places)
    → (l.who place ≡ g) → (l.since g ≤ place) → Pairwise c → Pairwise (settled_by c g out place)
settle_pairwise c conns s t l a g place out pending above firm within who since i_pairwise =
    λ p q. let old = i_pairwise p q in grind arith

settle_unacted : (c : Client) (conns : ℕ → Conn) (s : Server) (t : Trace) (l : Log) (a : ℕ → ℕ) (g place : ℕ)
    (out : Outcome) → (is_unsettled (c.outcome g) ≡ true) → (0 < g) → (is_unsettled out ≡ false) → (place < l.places)
    → (l.who place ≡ g) → (l.since g ≤ place) → Unacted c l → Unacted (settled_by c g out place) l
settle_unacted c conns s t l a g place out pending above firm within who since i_unacted =
    λ p. let old = i_unacted p in grind arith

settle_older : (c : Client) (conns : ℕ → Conn) (s : Server) (t : Trace) (l : Log) (a : ℕ → ℕ) (g place : ℕ)
    (out : Outcome) → (is_unsettled (c.outcome g) ≡ true) → (0 < g) → (is_unsettled out ≡ false) → (place < l.places)
    → (l.who place ≡ g) → (l.since g ≤ place) → Older c conns → Older (settled_by c g out place) conns
settle_older c conns s t l a g place out pending above firm within who since i_older =
    λ j n i p x. let old = i_older j n i p x in grind (arith, get-push)

settle_live_unsettled : (c : Client) (conns : ℕ → Conn) (s : Server) (t : Trace) (l : Log) (a : ℕ → ℕ) (g place : ℕ)
    (out : Outcome) → (is_unsettled (c.outcome g) ≡ true) → (0 < g) → (is_unsettled out ≡ false) → (place < l.places)
    → (l.who place ≡ g) → (l.since g ≤ place) → ((j n : ℕ) (x : Sent) → slice_get (conns j).up n ≡ Some x → x.token
    ≡ ForOp g → edits (c.op g) ≡ true → formed (c.op g) ≡ true → s.standing (file_at c g) ≡ true
    → s.present x.message.session_id ≡ true → s.sequence (file_at c g) ≤ x.message.channel_sequence → ⊥)
    → LiveUnsettled c conns s → LiveUnsettled (settled_by c g out place) conns s
settle_live_unsettled c conns s t l a g place out pending above firm within who since dead i_live_unsettled =
    λ j n p x h e ed fm sd pr le. elim (p == g) as (λ b. p == g ≡ b → may_act (put c.outcome g out p)
    (is_at c.session (c.given_up p)) ≡ true) [
      | true ↦ λ z. absurd (subst (λ r. x.token ≡ ForOp r → edits (c.op r) ≡ true → formed (c.op r) ≡ true
          → s.standing (file_at c r) ≡ true → s.present x.message.session_id ≡ true → s.sequence (file_at c r)
          ≤ x.message.channel_sequence → ⊥) (sym (eqb-true _ _ z)) (dead j n x h) e ed fm sd pr le)
      | false ↦ λ z.
          subst (λ o. may_act o (is_at c.session (c.given_up p)) ≡ true)
          (sym (put_other c.outcome g out p (eqb-false _ _ z))) (i_live_unsettled j n p x h e ed fm sd pr le)
    ] refl

settle_shows : (c : Client) (conns : ℕ → Conn) (s : Server) (t : Trace) (l : Log) (a : ℕ → ℕ) (g place : ℕ)
    (out : Outcome) → (is_unsettled (c.outcome g) ≡ true) → (0 < g) → (is_unsettled out ≡ false) → (place < l.places)
    → (l.who place ≡ g) → (l.since g ≤ place) → Shows c s l → Shows (settled_by c g out place) s l
settle_shows c conns s t l a g place out pending above firm within who since i_shows =
    λ p. let old = i_shows p in grind arith

settle_open_of : (c : Client) (conns : ℕ → Conn) (s : Server) (t : Trace) (l : Log) (a : ℕ → ℕ) (g place : ℕ)
    (out : Outcome) → (is_unsettled (c.outcome g) ≡ true) → (0 < g) → (is_unsettled out ≡ false) → (place < l.places)
    → (l.who place ≡ g) → (l.since g ≤ place) → (makes_open (c.op g) ≡ true → is_ok out ≡ true → t.open_of g
    ≡ Some (c.file g)) → OpenOf c t → OpenOf (settled_by c g out place) t
settle_open_of c conns s t l a g place out pending above firm within who since made i_open_of =
    λ q mk o. let old = i_open_of q mk in let md = made in grind arith

settle_whose : (c : Client) (conns : ℕ → Conn) (s : Server) (t : Trace) (l : Log) (a : ℕ → ℕ) (g place : ℕ)
    (out : Outcome) → (is_unsettled (c.outcome g) ≡ true) → (0 < g) → (is_unsettled out ≡ false) → (place < l.places)
    → (l.who place ≡ g) → (l.since g ≤ place) → Whose c l → Whose (settled_by c g out place) l
settle_whose c conns s t l a g place out pending above firm within who since i_whose =
    λ n. let old = i_whose n in grind arith

settle_by : (c : Client) (conns : ℕ → Conn) (s : Server) (t : Trace) (l : Log) (a : ℕ → ℕ) (g place : ℕ) (out : Outcome)
    → (is_unsettled (c.outcome g) ≡ true) → (0 < g) → (is_unsettled out ≡ false) → (place < l.places)
    → (l.who place ≡ g) → (l.since g ≤ place) → By c l → By (settled_by c g out place) l
settle_by c conns s t l a g place out pending above firm within who since i_by =
    λ p n. let old = i_by p n in grind arith

settle_by_ok : (c : Client) (conns : ℕ → Conn) (s : Server) (t : Trace) (l : Log) (a : ℕ → ℕ) (g place : ℕ)
    (out : Outcome) → (is_unsettled (c.outcome g) ≡ true) → (0 < g) → (is_unsettled out ≡ false) → (place < l.places)
    → (l.who place ≡ g) → (l.since g ≤ place) → ((v : ContentReply) → lists (c.op g) ≡ true → settlement (c.op g) out
    ≡ Settled_ok v → l.gave place ≡ Says_ok v) → ByOk c l → ByOk (settled_by c g out place) l
settle_by_ok c conns s t l a g place out pending above firm within who since ok i_by_ok =
    λ p n v ls b st. elim (p == g) as (λ r. p == g ≡ r → l.gave n ≡ Says_ok v) [
      | true ↦ λ z. let pg : p
          ≡ g = eqb-true p g z in let np : place ≡ n = grind arith in subst (λ r. l.gave r ≡ Says_ok v) np
          (ok v (subst (λ r. lists (c.op r) ≡ true) pg ls) (grind arith))
      | false ↦ λ z. let ne = eqb-false _ _ z in
          let a1 = put_other c.outcome g out p ne in let a2 = put_other c.settled_by g (Some place) p ne in
          i_by_ok p n v ls (sym a2 ∙ b) (subst (λ o. settlement (c.op p) o ≡ Settled_ok v) a1 st)
    ] refl

settle_by_end : (c : Client) (conns : ℕ → Conn) (s : Server) (t : Trace) (l : Log) (a : ℕ → ℕ) (g place : ℕ)
    (out : Outcome) → (is_unsettled (c.outcome g) ≡ true) → (0 < g) → (is_unsettled out ≡ false) → (place < l.places)
    → (l.who place ≡ g) → (l.since g ≤ place) → (settlement (c.op g) out ≡ Settled_end → l.gave place ≡ Says_end)
    → ByEnd c l → ByEnd (settled_by c g out place) l
settle_by_end c conns s t l a g place out pending above firm within who since end i_by_end =
    λ p n b st. elim (p == g) as (λ r. p == g ≡ r → l.gave n ≡ Says_end) [
      | true ↦ λ z. let pg : p
          ≡ g = eqb-true p g z in let np : place ≡ n = grind arith in let st' : settlement (c.op g) out ≡ Settled_end =
          subst (λ o. settlement (c.op g) o ≡ Settled_end) (put_self c.outcome g out)
          (subst (λ r. settlement (c.op r) (put c.outcome g out r) ≡ Settled_end) pg st) in
          subst (λ r. l.gave r ≡ Says_end) np (end st')
      | false ↦ λ z. let ne = eqb-false _ _ z in let a1 =
          put_other c.outcome g out p ne in let a2 = put_other c.settled_by g (Some place) p ne in
          i_by_end p n (sym a2 ∙ b) (subst (λ o. settlement (c.op p) o ≡ Settled_end) a1 st)
    ] refl

settle_by_some : (c : Client) (conns : ℕ → Conn) (s : Server) (t : Trace) (l : Log) (a : ℕ → ℕ) (g place : ℕ)
    (out : Outcome) → (is_unsettled (c.outcome g) ≡ true) → (0 < g) → (is_unsettled out ≡ false) → (place < l.places)
    → (l.who place ≡ g) → (l.since g ≤ place) → BySome c → BySome (settled_by c g out place)
settle_by_some c conns s t l a g place out pending above firm within who since i_by_some =
    λ p. let old = i_by_some p in grind arith

settle_since_by : (c : Client) (conns : ℕ → Conn) (s : Server) (t : Trace) (l : Log) (a : ℕ → ℕ) (g place : ℕ)
    (out : Outcome) → (is_unsettled (c.outcome g) ≡ true) → (0 < g) → (is_unsettled out ≡ false) → (place < l.places)
    → (l.who place ≡ g) → (l.since g ≤ place) → SinceBy c l → SinceBy (settled_by c g out place) l
settle_since_by c conns s t l a g place out pending above firm within who since i_since_by =
    λ p n. let old = i_since_by p n in grind arith

settle_prior : (c : Client) (conns : ℕ → Conn) (s : Server) (t : Trace) (l : Log) (a : ℕ → ℕ) (g place : ℕ)
    (out : Outcome) → (is_unsettled (c.outcome g) ≡ true) → (0 < g) → (is_unsettled out ≡ false) → (place < l.places)
    → (l.who place ≡ g) → (l.since g ≤ place) → Prior c l → Prior (settled_by c g out place) l
settle_prior c conns s t l a g place out pending above firm within who since i_prior =
    λ p q. let old = i_prior p q in grind arith

settle_prior_by : (c : Client) (conns : ℕ → Conn) (s : Server) (t : Trace) (l : Log) (a : ℕ → ℕ) (g place : ℕ)
    (out : Outcome) → (is_unsettled (c.outcome g) ≡ true) → (0 < g) → (is_unsettled out ≡ false) → (place < l.places)
    → (l.who place ≡ g) → (l.since g ≤ place) → PriorBy c l → Prior c l → PriorBy (settled_by c g out place) l
settle_prior_by c conns s t l a g place out pending above firm within who since i_prior_by i_prior =
    λ p q n pr b. let old = i_prior_by p q n pr in let f = i_prior p q pr in let fs = firm_settled (c.outcome q) f.1 in grind arith

pub settle_keeps : (c : Client) (conns : ℕ → Conn) (s : Server) (t : Trace) (l : Log) (a : ℕ → ℕ) (g place : ℕ)
    (out : Outcome) → (is_unsettled (c.outcome g) ≡ true) → (0 < g) → (is_unsettled out ≡ false) → (place < l.places)
    → (l.who place ≡ g) → (l.since g ≤ place) → ((v : ContentReply) → lists (c.op g) ≡ true → settlement (c.op g) out
    ≡ Settled_ok v → l.gave place ≡ Says_ok v) → (settlement (c.op g) out ≡ Settled_end → l.gave place ≡ Says_end)
    → (makes_open (c.op g) ≡ true → is_ok out ≡ true → t.open_of g ≡ Some (c.file g))
    → ((j n : ℕ) (x : Sent) → slice_get (conns j).up n ≡ Some x → x.token ≡ ForOp g → edits (c.op g) ≡ true
    → formed (c.op g) ≡ true → s.standing (file_at c g) ≡ true → s.present x.message.session_id ≡ true
    → s.sequence (file_at c g) ≤ x.message.channel_sequence → ⊥) → Contents c conns s t l a
    → Contents (settled_by c g out place) conns s t l a
settle_keeps c conns s t l a g place out pending above firm within who since ok end made dead i =
    record {
      token_up = i.token_up;
      token_down = i.token_down;
      opens_up = settle_opens_up c conns s t l a g place out pending above firm within who since i.opens_up;
      asked_as = i.asked_as;
      lost_unknown = settle_lost_unknown c conns s t l a g place out pending above firm within who since i.lost_unknown;
      lost_dead = i.lost_dead;
      lost_known = i.lost_known;
      lost_asked = i.lost_asked;
      session_known = i.session_known;
      session_asked = i.session_asked;
      pairwise = settle_pairwise c conns s t l a g place out pending above firm within who since i.pairwise;
      first_up = i.first_up;
      unacted = settle_unacted c conns s t l a g place out pending above firm within who since i.unacted;
      fresh_first = i.fresh_first;
      not_done = i.not_done;
      cut_seq = i.cut_seq;
      open_seq = i.open_seq;
      older = settle_older c conns s t l a g place out pending above firm within who since i.older;
      no_replay = i.no_replay;
      copy_pair = i.copy_pair;
      now_pair = i.now_pair;
      create_reply = i.create_reply;
      attach_reply = i.attach_reply;
      reached = i.reached;
      closed_reply = i.closed_reply;
      attach_refused = i.attach_refused;
      stale_reply = i.stale_reply;
      session_seq = i.session_seq;
      pending_at = i.pending_at;
      live_unsettled = settle_live_unsettled c conns s t l a g place out pending above firm within who since dead i.live_unsettled;
      live_replay = i.live_replay;
      shows = settle_shows c conns s t l a g place out pending above firm within who since i.shows;
      denied = i.denied;
      open_of = settle_open_of c conns s t l a g place out pending above firm within who since made i.open_of;
      named_open = i.named_open;
      open_given = i.open_given;
      open_row = i.open_row;
      open_acted = i.open_acted;
      bytes = i.bytes;
      quiet = i.quiet;
      foreign = i.foreign;
      acted = i.acted;
      gave = i.gave;
      gave_end = i.gave_end;
      whose = settle_whose c conns s t l a g place out pending above firm within who since i.whose;
      born = i.born;
      birth_le = i.birth_le;
      first_at = i.first_at;
      by = settle_by c conns s t l a g place out pending above firm within who since i.by;
      by_ok = settle_by_ok c conns s t l a g place out pending above firm within who since ok i.by_ok;
      by_end = settle_by_end c conns s t l a g place out pending above firm within who since end i.by_end;
      by_some = settle_by_some c conns s t l a g place out pending above firm within who since i.by_some;
      replies = i.replies;
      attach_status = i.attach_status;
      since_le = i.since_le;
      since_reply = i.since_reply;
      since_by = settle_since_by c conns s t l a g place out pending above firm within who since i.since_by;
      since_first = i.since_first;
      prior = settle_prior c conns s t l a g place out pending above firm within who since i.prior;
      prior_by = settle_prior_by c conns s t l a g place out pending above firm within who since i.prior_by i.prior;
      prior_first = i.prior_first;
    }
