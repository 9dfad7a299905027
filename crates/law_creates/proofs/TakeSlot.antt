-- Written by tools/law_creates.py. A lock takes a slot.
use Rattle.std.proofs.Common.{ℕ}
use Rattle.spec_exchange.specs.Client.{Client, take_slot}
use Rattle.spec_exchange.specs.Network.{Conn}
use Rattle.law_creates.specs.Creates.{Seen, Creates}

pub take_slot_creates : (c : Client) (conns : ℕ → Conn) (v : Seen) (a : ℕ → ℕ) (g s : ℕ) → Creates c conns v a
    → Creates (take_slot c g s) conns v a
take_slot_creates c conns v a g s i =
    record {
      made = i.made;
      named = i.named;
      named_kind = i.named_kind;
      named_given = i.named_given;
      attached = i.attached;
      plain_attached = i.plain_attached;
      unclosed = i.unclosed;
      acted_kept = i.acted_kept;
      at_most = i.at_most;
      form_acted = i.form_acted;
      refused_not = i.refused_not;
      dead_refused = i.dead_refused;
      no_reply = i.no_reply;
      barred_reply = i.barred_reply;
      refused_status = i.refused_status;
      ok_acted = i.ok_acted;
      ok_reply = i.ok_reply;
      file_guid = i.file_guid;
      file_of = i.file_of;
      reply_guid = i.reply_guid;
      reply_of = i.reply_of;
      plain_dead = i.plain_dead;
      asking_other = i.asking_other;
      dialog_up = i.dialog_up;
      ask_up = i.ask_up;
    }
