-- Written by tools/law_creates.py. A session begins.
use Rattle.std.proofs.Common.{◌≡◌, ℕ, ◌<◌, true, arith, Some, slice_get}
use Rattle.spec_exchange.specs.Client.{Client}
use Rattle.spec_exchange.specs.Network.{Conn, Sent, ForOp}
use Rattle.law_creates.specs.Creates.{Seen, Creates, Attached, Unclosed, ActedKept, DeadRefused, BarredReply}
use Rattle.law_creates.proofs.Moves.{begin_of}

begin_of_attached : (c : Client) (conns : ℕ → Conn) (v : Seen) (a : ℕ → ℕ) (x : ℕ) → (c.rank x ≡ 0) → Attached c v
    → Attached c (begin_of v x)
begin_of_attached c conns v a x new i_attached =
    λ o z. let old = i_attached o z in grind arith

begin_of_unclosed : (c : Client) (conns : ℕ → Conn) (v : Seen) (a : ℕ → ℕ) (x : ℕ) → (c.rank x ≡ 0)
    → (c.live ≡ true → 0 < c.rank c.session) → Unclosed c v a → Unclosed c (begin_of v x) a
begin_of_unclosed c conns v a x new lives i_unclosed =
    λ p. let old = i_unclosed p in let l = lives in grind arith

begin_of_acted_kept : (c : Client) (conns : ℕ → Conn) (v : Seen) (a : ℕ → ℕ) (x : ℕ) → (c.rank x ≡ 0)
    → ((j n h : ℕ) (y : Sent) → slice_get (conns j).up n ≡ Some y → y.token ≡ ForOp h → 0 < c.rank y.message.session_id)
    → ActedKept c conns v a → ActedKept c conns (begin_of v x) a
begin_of_acted_kept c conns v a x new ranked i_acted_kept =
    λ j n p y h t. let old = i_acted_kept j n p y h t in let r = ranked j n p y h t in grind arith

begin_of_dead_refused : (c : Client) (conns : ℕ → Conn) (v : Seen) (a : ℕ → ℕ) (x : ℕ) → (c.rank x ≡ 0)
    → ((j n h : ℕ) (y : Sent) → slice_get (conns j).up n ≡ Some y → y.token ≡ ForOp h → 0 < c.rank y.message.session_id)
    → DeadRefused c conns v → DeadRefused c conns (begin_of v x)
begin_of_dead_refused c conns v a x new ranked i_dead_refused =
    λ j n p y h t. let old = i_dead_refused j n p y h t in let r = ranked j n p y h t in grind arith

begin_of_barred_reply : (c : Client) (conns : ℕ → Conn) (v : Seen) (a : ℕ → ℕ) (x : ℕ) → (c.rank x ≡ 0)
    → (c.live ≡ true → 0 < c.rank c.session) → BarredReply c conns v → BarredReply c conns (begin_of v x)
begin_of_barred_reply c conns v a x new lives i_barred_reply =
    λ j n p y h t. let old = i_barred_reply j n p y h t in let l = lives in grind arith

pub begin_of_creates : (c : Client) (conns : ℕ → Conn) (v : Seen) (a : ℕ → ℕ) (x : ℕ) → (c.rank x ≡ 0)
    → (c.live ≡ true → 0 < c.rank c.session) → ((j n h : ℕ) (y : Sent) → slice_get (conns j).up n ≡ Some y → y.token
    ≡ ForOp h → 0 < c.rank y.message.session_id) → Creates c conns v a → Creates c conns (begin_of v x) a
begin_of_creates c conns v a x new lives ranked i =
    record {
      made = i.made;
      named = i.named;
      named_kind = i.named_kind;
      named_given = i.named_given;
      attached = begin_of_attached c conns v a x new i.attached;
      plain_attached = i.plain_attached;
      unclosed = begin_of_unclosed c conns v a x new lives i.unclosed;
      acted_kept = begin_of_acted_kept c conns v a x new ranked i.acted_kept;
      at_most = i.at_most;
      form_acted = i.form_acted;
      refused_not = i.refused_not;
      dead_refused = begin_of_dead_refused c conns v a x new ranked i.dead_refused;
      no_reply = i.no_reply;
      barred_reply = begin_of_barred_reply c conns v a x new lives i.barred_reply;
      refused_status = i.refused_status;
      ok_acted = i.ok_acted;
      ok_reply = i.ok_reply;
      file_guid = i.file_guid;
      file_of = i.file_of;
      reply_guid = i.reply_guid;
      reply_of = i.reply_of;
      plain_dead = i.plain_dead;
      asking_other = i.asking_other;
      dialog_up = i.dialog_up;
      ask_up = i.ask_up;
    }
