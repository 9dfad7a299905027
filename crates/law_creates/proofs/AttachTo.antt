-- Written by tools/law_creates.py. An open becomes a session's.
use Rattle.std.proofs.Common.{◌≡◌, ℕ, ◌<◌, true, arith}
use Rattle.spec_exchange.specs.Client.{Client}
use Rattle.spec_exchange.specs.Network.{Conn}
use Rattle.law_creates.specs.Creates.{Seen, Creates, Attached, PlainAttached, DeadRefused, BarredReply}
use Rattle.law_creates.proofs.Words.{full_more}
use Rattle.law_creates.proofs.Moves.{attach_to}

attach_to_attached : (c : Client) (conns : ℕ → Conn) (v : Seen) (a : ℕ → ℕ) (x o0 : ℕ) → (0 < c.rank x)
    → (v.present x ≡ true) → Attached c v → Attached c (attach_to v o0 x)
attach_to_attached c conns v a x o0 ranked there i_attached =
    λ o z. let old = i_attached o z in grind arith

attach_to_plain_attached : (c : Client) (conns : ℕ → Conn) (v : Seen) (a : ℕ → ℕ) (x o0 : ℕ) → (0 < c.rank x)
    → (v.present x ≡ true) → PlainAttached v → PlainAttached (attach_to v o0 x)
attach_to_plain_attached c conns v a x o0 ranked there i_plain_attached =
    λ o. let old = i_plain_attached o in grind arith

attach_to_dead_refused : (c : Client) (conns : ℕ → Conn) (v : Seen) (a : ℕ → ℕ) (x o0 : ℕ) → (0 < c.rank x)
    → (v.present x ≡ true) → DeadRefused c conns v → DeadRefused c conns (attach_to v o0 x)
attach_to_dead_refused c conns v a x o0 ranked there i_dead_refused =
    λ j n p y h t m e s. let old = i_dead_refused j n p y h t m e s in let fm = full_more (v.guids x) in grind arith

attach_to_barred_reply : (c : Client) (conns : ℕ → Conn) (v : Seen) (a : ℕ → ℕ) (x o0 : ℕ) → (0 < c.rank x)
    → (v.present x ≡ true) → BarredReply c conns v → BarredReply c conns (attach_to v o0 x)
attach_to_barred_reply c conns v a x o0 ranked there i_barred_reply =
    λ j n p y h t m e s u. let old = i_barred_reply j n p y h t m e s u in let fm = full_more (v.guids x) in grind arith

pub attach_to_creates : (c : Client) (conns : ℕ → Conn) (v : Seen) (a : ℕ → ℕ) (x o0 : ℕ) → (0 < c.rank x)
    → (v.present x ≡ true) → Creates c conns v a → Creates c conns (attach_to v o0 x) a
attach_to_creates c conns v a x o0 ranked there i =
    record {
      made = i.made;
      named = i.named;
      named_kind = i.named_kind;
      named_given = i.named_given;
      attached = attach_to_attached c conns v a x o0 ranked there i.attached;
      plain_attached = attach_to_plain_attached c conns v a x o0 ranked there i.plain_attached;
      unclosed = i.unclosed;
      acted_kept = i.acted_kept;
      at_most = i.at_most;
      form_acted = i.form_acted;
      refused_not = i.refused_not;
      dead_refused = attach_to_dead_refused c conns v a x o0 ranked there i.dead_refused;
      no_reply = i.no_reply;
      barred_reply = attach_to_barred_reply c conns v a x o0 ranked there i.barred_reply;
      refused_status = i.refused_status;
      ok_acted = i.ok_acted;
      ok_reply = i.ok_reply;
      file_guid = i.file_guid;
      file_of = i.file_of;
      reply_guid = i.reply_guid;
      reply_of = i.reply_of;
      plain_dead = i.plain_dead;
      asking_other = i.asking_other;
      dialog_up = i.dialog_up;
      ask_up = i.ask_up;
    }
