-- Written by tools/law_contents.py. A DH2C attached its open.
use Rattle.std.proofs.lemmas.Bool.{eqb-false}
use Rattle.std.proofs.Common.{eqb-true, ◌≡◌, ℕ, ◌≤◌, ◌==◌, true, false, refl, arith, sym, subst, ◌∙◌}
use Rattle.spec_exchange.specs.Table.{put}
use Rattle.spec_exchange.specs.Order.{Log}
use Rattle.spec_exchange.specs.State.{Server}
use Rattle.spec_exchange.specs.Client.{Client, create_for}
use Rattle.spec_exchange.specs.Settling.{joined}
use Rattle.spec_exchange.specs.Network.{Conn, Trace}
use Rattle.law_sessions.specs.messages.Connections.{create_at}
use Rattle.law_sessions.proofs.messages.Lists.{get-push}
use Rattle.law_order.specs.order.Newest.{Pair}
use Rattle.law_order.specs.order.Contents.{Contents, file_at, last_id, Unacted, Older, NowPair}
use Rattle.law_order.proofs.order.Words.{put_other}

joined_unacted : (c : Client) (conns : ℕ → Conn) (s : Server) (t : Trace) (l : Log) (a : ℕ → ℕ) (g : ℕ)
    → (c.asks_attach g ≡ true) → (create_for c g ≡ create_at c g) → Unacted c l → Unacted (joined c g) l
joined_unacted c conns s t l a g asks named i_unacted =
    λ p. let old = i_unacted p in grind arith

joined_older : (c : Client) (conns : ℕ → Conn) (s : Server) (t : Trace) (l : Log) (a : ℕ → ℕ) (g : ℕ)
    → (c.asks_attach g ≡ true) → (create_for c g ≡ create_at c g) → Older c conns → Older (joined c g) conns
joined_older c conns s t l a g asks named i_older =
    λ j n i p x. let old = i_older j n i p x in grind (arith, get-push)

joined_now_pair : (c : Client) (conns : ℕ → Conn) (s : Server) (t : Trace) (l : Log) (a : ℕ → ℕ) (g : ℕ)
    → (c.asks_attach g ≡ true) → (Pair s c.session 0 (file_at c g) × file_at c g ≤ last_id s)
    → (create_for c g ≡ create_at c g) → NowPair c s → NowPair (joined c g) s
joined_now_pair c conns s t l a g asks pair named i_now_pair =
    λ q. elim (q == create_for c g) as (λ b. q == create_for c g ≡ b → put c.attached (create_for c g) c.session_number
    q ≡ c.session_number → c.live ≡ true → Pair s c.session 0 (c.file q) × c.file q ≤ last_id s) [
      | true ↦ λ z at lv.
          subst (λ r. Pair s c.session 0 (c.file r) × c.file r ≤ last_id s) (sym (eqb-true _ _ z ∙ named)) pair
      | false ↦
          λ z at lv. i_now_pair q (sym (put_other c.attached (create_for c g) c.session_number q (eqb-false _ _ z)) ∙ at)
          lv
    ] refl

pub joined_keeps : (c : Client) (conns : ℕ → Conn) (s : Server) (t : Trace) (l : Log) (a : ℕ → ℕ) (g : ℕ)
    → (c.asks_attach g ≡ true) → (Pair s c.session 0 (file_at c g) × file_at c g ≤ last_id s)
    → (create_for c g ≡ create_at c g) → Contents c conns s t l a → Contents (joined c g) conns s t l a
joined_keeps c conns s t l a g asks pair named i =
    record {
      token_up = i.token_up;
      token_down = i.token_down;
      opens_up = i.opens_up;
      asked_as = i.asked_as;
      lost_unknown = i.lost_unknown;
      lost_dead = i.lost_dead;
      lost_known = i.lost_known;
      lost_asked = i.lost_asked;
      session_known = i.session_known;
      session_asked = i.session_asked;
      pairwise = i.pairwise;
      first_up = i.first_up;
      unacted = joined_unacted c conns s t l a g asks named i.unacted;
      fresh_first = i.fresh_first;
      not_done = i.not_done;
      cut_seq = i.cut_seq;
      open_seq = i.open_seq;
      older = joined_older c conns s t l a g asks named i.older;
      no_replay = i.no_replay;
      copy_pair = i.copy_pair;
      now_pair = joined_now_pair c conns s t l a g asks pair named i.now_pair;
      create_reply = i.create_reply;
      attach_reply = i.attach_reply;
      reached = i.reached;
      closed_reply = i.closed_reply;
      attach_refused = i.attach_refused;
      stale_reply = i.stale_reply;
      session_seq = i.session_seq;
      pending_at = i.pending_at;
      live_unsettled = i.live_unsettled;
      live_replay = i.live_replay;
      shows = i.shows;
      denied = i.denied;
      open_of = i.open_of;
      named_open = i.named_open;
      open_given = i.open_given;
      open_row = i.open_row;
      open_acted = i.open_acted;
      bytes = i.bytes;
      quiet = i.quiet;
      foreign = i.foreign;
      acted = i.acted;
      gave = i.gave;
      gave_end = i.gave_end;
      whose = i.whose;
      born = i.born;
      birth_le = i.birth_le;
      first_at = i.first_at;
      by = i.by;
      by_ok = i.by_ok;
      by_end = i.by_end;
      by_some = i.by_some;
      replies = i.replies;
      attach_status = i.attach_status;
      since_le = i.since_le;
      since_reply = i.since_reply;
      since_by = i.since_by;
      since_first = i.since_first;
      prior = i.prior;
      prior_by = i.prior_by;
      prior_first = i.prior_first;
    }
