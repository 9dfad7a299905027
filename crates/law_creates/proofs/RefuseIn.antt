-- Written by tools/law_creates.py. A refusal is kept.
use Rattle.std.proofs.Common.{◌≡◌, ℕ, ◌==◌, false, arith}
use Rattle.spec_exchange.specs.Status.{success}
use Rattle.spec_exchange.specs.Client.{Client}
use Rattle.spec_exchange.specs.Network.{Conn}
use Rattle.law_creates.specs.Creates.{Seen, Creates, DeadRefused, BarredReply, RefusedStatus}
use Rattle.law_creates.proofs.Words.{full_more}
use Rattle.law_creates.proofs.Moves.{refuse_in}

refuse_in_dead_refused : (c : Client) (conns : ℕ → Conn) (v : Seen) (a : ℕ → ℕ) (x q0 status : ℕ)
    → ((status == success) ≡ false) → DeadRefused c conns v → DeadRefused c conns (refuse_in v x q0 status)
refuse_in_dead_refused c conns v a x q0 status bad i_dead_refused =
    λ j n p y h t m e s. let old = i_dead_refused j n p y h t m e s in let fm = full_more (v.guids x) in grind arith

refuse_in_barred_reply : (c : Client) (conns : ℕ → Conn) (v : Seen) (a : ℕ → ℕ) (x q0 status : ℕ)
    → ((status == success) ≡ false) → BarredReply c conns v → BarredReply c conns (refuse_in v x q0 status)
refuse_in_barred_reply c conns v a x q0 status bad i_barred_reply =
    λ j n p y h t m e s u. let old = i_barred_reply j n p y h t m e s u in let fm = full_more (v.guids x) in grind arith

refuse_in_refused_status : (c : Client) (conns : ℕ → Conn) (v : Seen) (a : ℕ → ℕ) (x q0 status : ℕ)
    → ((status == success) ≡ false) → RefusedStatus v → RefusedStatus (refuse_in v x q0 status)
refuse_in_refused_status c conns v a x q0 status bad i_refused_status =
    λ z q t. let old = i_refused_status z q t in grind arith

pub refuse_in_creates : (c : Client) (conns : ℕ → Conn) (v : Seen) (a : ℕ → ℕ) (x q0 status : ℕ)
    → ((status == success) ≡ false) → Creates c conns v a → Creates c conns (refuse_in v x q0 status) a
refuse_in_creates c conns v a x q0 status bad i =
    record {
      made = i.made;
      named = i.named;
      named_kind = i.named_kind;
      named_given = i.named_given;
      attached = i.attached;
      plain_attached = i.plain_attached;
      unclosed = i.unclosed;
      acted_kept = i.acted_kept;
      at_most = i.at_most;
      form_acted = i.form_acted;
      refused_not = i.refused_not;
      dead_refused = refuse_in_dead_refused c conns v a x q0 status bad i.dead_refused;
      no_reply = i.no_reply;
      barred_reply = refuse_in_barred_reply c conns v a x q0 status bad i.barred_reply;
      refused_status = refuse_in_refused_status c conns v a x q0 status bad i.refused_status;
      ok_acted = i.ok_acted;
      ok_reply = i.ok_reply;
      file_guid = i.file_guid;
      file_of = i.file_of;
      reply_guid = i.reply_guid;
      reply_of = i.reply_of;
      plain_dead = i.plain_dead;
      asking_other = i.asking_other;
      dialog_up = i.dialog_up;
      ask_up = i.ask_up;
    }
