-- Written by tools/law_creates.py. Other operations act.
use Rattle.std.proofs.Common.{◌≡◌, ℕ, true, arith}
use Rattle.spec_exchange.specs.Client.{Client}
use Rattle.spec_exchange.specs.Network.{Conn}
use Rattle.law_sessions.specs.messages.Connections.{makes_open}
use Rattle.law_creates.specs.Creates.{Seen, Creates, Made, Unclosed, ActedKept, AtMost, FormActed, RefusedNot, NoReply, OkActed, OkReply}

recount_made : (c : Client) (conns : ℕ → Conn) (v : Seen) (a : ℕ → ℕ) (b : ℕ → ℕ)
    → ((h : ℕ) → makes_open (c.op h) ≡ true → b h ≡ a h) → Made c v a → Made c v b
recount_made c conns v a b same i_made =
    λ p o h. let old = i_made p o h in let s = same p in grind arith

recount_unclosed : (c : Client) (conns : ℕ → Conn) (v : Seen) (a : ℕ → ℕ) (b : ℕ → ℕ)
    → ((h : ℕ) → makes_open (c.op h) ≡ true → b h ≡ a h) → Unclosed c v a → Unclosed c v b
recount_unclosed c conns v a b same i_unclosed =
    λ p m. let old = i_unclosed p m in let s = same p m in grind arith

recount_acted_kept : (c : Client) (conns : ℕ → Conn) (v : Seen) (a : ℕ → ℕ) (b : ℕ → ℕ)
    → ((h : ℕ) → makes_open (c.op h) ≡ true → b h ≡ a h) → ActedKept c conns v a → ActedKept c conns v b
recount_acted_kept c conns v a b same i_acted_kept =
    λ j n p y h t m. let old = i_acted_kept j n p y h t m in let s = same p m in grind arith

recount_at_most : (c : Client) (conns : ℕ → Conn) (v : Seen) (a : ℕ → ℕ) (b : ℕ → ℕ)
    → ((h : ℕ) → makes_open (c.op h) ≡ true → b h ≡ a h) → AtMost c a → AtMost c b
recount_at_most c conns v a b same i_at_most =
    λ p m. let old = i_at_most p m in let s = same p m in grind arith

recount_form_acted : (c : Client) (conns : ℕ → Conn) (v : Seen) (a : ℕ → ℕ) (b : ℕ → ℕ)
    → ((h : ℕ) → makes_open (c.op h) ≡ true → b h ≡ a h) → FormActed c a → FormActed c b
recount_form_acted c conns v a b same i_form_acted =
    λ p m. let old = i_form_acted p m in let s = same p m in grind arith

recount_refused_not : (c : Client) (conns : ℕ → Conn) (v : Seen) (a : ℕ → ℕ) (b : ℕ → ℕ)
    → ((h : ℕ) → makes_open (c.op h) ≡ true → b h ≡ a h) → RefusedNot c a → RefusedNot c b
recount_refused_not c conns v a b same i_refused_not =
    λ p m. let old = i_refused_not p m in let s = same p m in grind arith

recount_no_reply : (c : Client) (conns : ℕ → Conn) (v : Seen) (a : ℕ → ℕ) (b : ℕ → ℕ)
    → ((h : ℕ) → makes_open (c.op h) ≡ true → b h ≡ a h) → NoReply c conns a → NoReply c conns b
recount_no_reply c conns v a b same i_no_reply =
    λ j n p y h t m. let old = i_no_reply j n p y h t m in let s = same p m in grind arith

recount_ok_acted : (c : Client) (conns : ℕ → Conn) (v : Seen) (a : ℕ → ℕ) (b : ℕ → ℕ)
    → ((h : ℕ) → makes_open (c.op h) ≡ true → b h ≡ a h) → OkActed c a → OkActed c b
recount_ok_acted c conns v a b same i_ok_acted =
    λ p m. let old = i_ok_acted p m in let s = same p m in grind arith

recount_ok_reply : (c : Client) (conns : ℕ → Conn) (v : Seen) (a : ℕ → ℕ) (b : ℕ → ℕ)
    → ((h : ℕ) → makes_open (c.op h) ≡ true → b h ≡ a h) → OkReply c conns a → OkReply c conns b
recount_ok_reply c conns v a b same i_ok_reply =
    λ j n p y h t m. let old = i_ok_reply j n p y h t m in let s = same p m in grind arith

pub recount_creates : (c : Client) (conns : ℕ → Conn) (v : Seen) (a : ℕ → ℕ) (b : ℕ → ℕ)
    → ((h : ℕ) → makes_open (c.op h) ≡ true → b h ≡ a h) → Creates c conns v a → Creates c conns v b
recount_creates c conns v a b same i =
    record {
      made = recount_made c conns v a b same i.made;
      named = i.named;
      named_kind = i.named_kind;
      named_given = i.named_given;
      attached = i.attached;
      plain_attached = i.plain_attached;
      unclosed = recount_unclosed c conns v a b same i.unclosed;
      acted_kept = recount_acted_kept c conns v a b same i.acted_kept;
      at_most = recount_at_most c conns v a b same i.at_most;
      form_acted = recount_form_acted c conns v a b same i.form_acted;
      refused_not = recount_refused_not c conns v a b same i.refused_not;
      dead_refused = i.dead_refused;
      no_reply = recount_no_reply c conns v a b same i.no_reply;
      barred_reply = i.barred_reply;
      refused_status = i.refused_status;
      ok_acted = recount_ok_acted c conns v a b same i.ok_acted;
      ok_reply = recount_ok_reply c conns v a b same i.ok_reply;
      file_guid = i.file_guid;
      file_of = i.file_of;
      reply_guid = i.reply_guid;
      reply_of = i.reply_of;
      plain_dead = i.plain_dead;
      asking_other = i.asking_other;
      dialog_up = i.dialog_up;
      ask_up = i.ask_up;
    }
