-- Written by tools/law_creates.py. The next message of a dialog goes out.
use Rattle.std.proofs.Common.{◌≡◌, ℕ, true, arith}
use Rattle.spec_exchange.specs.Table.{put}
use Rattle.spec_exchange.specs.State.{Message}
use Rattle.spec_exchange.specs.Client.{Client}
use Rattle.spec_exchange.specs.Network.{Conn, ForDialog, send_up}
use Rattle.law_sessions.proofs.messages.Lists.{get-push}
use Rattle.law_creates.specs.Creates.{Seen, Creates, is_of_dialog, ActedKept, DeadRefused, NoReply, BarredReply, OkReply}
use Rattle.law_creates.specs.Creates.{ReplyGuid, ReplyOf, DialogUp, AskUp}

dialog_sent_acted_kept : (c : Client) (conns : ℕ → Conn) (v : Seen) (a : ℕ → ℕ) (k n0 : ℕ) (m : Message)
    → (is_of_dialog m.command ≡ true) → ActedKept c conns v a
    → ActedKept c (put conns k (send_up (conns k) ForDialog m n0)) v a
dialog_sent_acted_kept c conns v a k n0 m says i_acted_kept =
    λ j n p y. let old = i_acted_kept j n p y in grind (arith, get-push)

dialog_sent_dead_refused : (c : Client) (conns : ℕ → Conn) (v : Seen) (a : ℕ → ℕ) (k n0 : ℕ) (m : Message)
    → (is_of_dialog m.command ≡ true) → DeadRefused c conns v
    → DeadRefused c (put conns k (send_up (conns k) ForDialog m n0)) v
dialog_sent_dead_refused c conns v a k n0 m says i_dead_refused =
    λ j n p y. let old = i_dead_refused j n p y in grind (arith, get-push)

dialog_sent_no_reply : (c : Client) (conns : ℕ → Conn) (v : Seen) (a : ℕ → ℕ) (k n0 : ℕ) (m : Message)
    → (is_of_dialog m.command ≡ true) → NoReply c conns a → NoReply c (put conns k (send_up (conns k) ForDialog m n0)) a
dialog_sent_no_reply c conns v a k n0 m says i_no_reply =
    λ j n p y. let old = i_no_reply j n p y in grind (arith, get-push)

dialog_sent_barred_reply : (c : Client) (conns : ℕ → Conn) (v : Seen) (a : ℕ → ℕ) (k n0 : ℕ) (m : Message)
    → (is_of_dialog m.command ≡ true) → BarredReply c conns v
    → BarredReply c (put conns k (send_up (conns k) ForDialog m n0)) v
dialog_sent_barred_reply c conns v a k n0 m says i_barred_reply =
    λ j n p y. let old = i_barred_reply j n p y in grind (arith, get-push)

dialog_sent_ok_reply : (c : Client) (conns : ℕ → Conn) (v : Seen) (a : ℕ → ℕ) (k n0 : ℕ) (m : Message)
    → (is_of_dialog m.command ≡ true) → OkReply c conns a → OkReply c (put conns k (send_up (conns k) ForDialog m n0)) a
dialog_sent_ok_reply c conns v a k n0 m says i_ok_reply =
    λ j n p y. let old = i_ok_reply j n p y in grind (arith, get-push)

dialog_sent_reply_guid : (c : Client) (conns : ℕ → Conn) (v : Seen) (a : ℕ → ℕ) (k n0 : ℕ) (m : Message)
    → (is_of_dialog m.command ≡ true) → ReplyGuid c conns v
    → ReplyGuid c (put conns k (send_up (conns k) ForDialog m n0)) v
dialog_sent_reply_guid c conns v a k n0 m says i_reply_guid =
    λ j n p y. let old = i_reply_guid j n p y in grind (arith, get-push)

dialog_sent_reply_of : (c : Client) (conns : ℕ → Conn) (v : Seen) (a : ℕ → ℕ) (k n0 : ℕ) (m : Message)
    → (is_of_dialog m.command ≡ true) → ReplyOf c conns v → ReplyOf c (put conns k (send_up (conns k) ForDialog m n0)) v
dialog_sent_reply_of c conns v a k n0 m says i_reply_of =
    λ j n p o y. let old = i_reply_of j n p o y in grind (arith, get-push)

dialog_sent_dialog_up : (c : Client) (conns : ℕ → Conn) (v : Seen) (a : ℕ → ℕ) (k n0 : ℕ) (m : Message)
    → (is_of_dialog m.command ≡ true) → DialogUp conns → DialogUp (put conns k (send_up (conns k) ForDialog m n0))
dialog_sent_dialog_up c conns v a k n0 m says i_dialog_up =
    λ j n y. let old = i_dialog_up j n y in grind (arith, get-push)

dialog_sent_ask_up : (c : Client) (conns : ℕ → Conn) (v : Seen) (a : ℕ → ℕ) (k n0 : ℕ) (m : Message)
    → (is_of_dialog m.command ≡ true) → AskUp conns → AskUp (put conns k (send_up (conns k) ForDialog m n0))
dialog_sent_ask_up c conns v a k n0 m says i_ask_up =
    λ j n p y. let old = i_ask_up j n p y in grind (arith, get-push)

pub dialog_sent_creates : (c : Client) (conns : ℕ → Conn) (v : Seen) (a : ℕ → ℕ) (k n0 : ℕ) (m : Message)
    → (is_of_dialog m.command ≡ true) → Creates c conns v a → Creates c (put conns k (send_up (conns k) ForDialog m n0))
    v a
dialog_sent_creates c conns v a k n0 m says i =
    record {
      made = i.made;
      named = i.named;
      named_kind = i.named_kind;
      named_given = i.named_given;
      attached = i.attached;
      plain_attached = i.plain_attached;
      unclosed = i.unclosed;
      acted_kept = dialog_sent_acted_kept c conns v a k n0 m says i.acted_kept;
      at_most = i.at_most;
      form_acted = i.form_acted;
      refused_not = i.refused_not;
      dead_refused = dialog_sent_dead_refused c conns v a k n0 m says i.dead_refused;
      no_reply = dialog_sent_no_reply c conns v a k n0 m says i.no_reply;
      barred_reply = dialog_sent_barred_reply c conns v a k n0 m says i.barred_reply;
      refused_status = i.refused_status;
      ok_acted = i.ok_acted;
      ok_reply = dialog_sent_ok_reply c conns v a k n0 m says i.ok_reply;
      file_guid = i.file_guid;
      file_of = i.file_of;
      reply_guid = dialog_sent_reply_guid c conns v a k n0 m says i.reply_guid;
      reply_of = dialog_sent_reply_of c conns v a k n0 m says i.reply_of;
      plain_dead = i.plain_dead;
      asking_other = i.asking_other;
      dialog_up = dialog_sent_dialog_up c conns v a k n0 m says i.dialog_up;
      ask_up = dialog_sent_ask_up c conns v a k n0 m says i.ask_up;
    }
