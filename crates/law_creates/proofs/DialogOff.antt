-- Written by tools/law_creates.py. The client closes a channel that isn't ready.
use Rattle.std.proofs.Common.{ℕ, arith}
use Rattle.spec_exchange.specs.Table.{put}
use Rattle.spec_exchange.specs.Client.{Client, leave_dialog}
use Rattle.spec_exchange.specs.Network.{Conn, client_off}
use Rattle.law_sessions.proofs.messages.Lists.{get-push}
use Rattle.law_creates.specs.Creates.{Seen, Creates, ActedKept, DeadRefused, NoReply, BarredReply, OkReply, ReplyGuid}
use Rattle.law_creates.specs.Creates.{ReplyOf, DialogUp, AskUp}

dialog_off_acted_kept : (c : Client) (conns : ℕ → Conn) (v : Seen) (a : ℕ → ℕ) (k : ℕ) → ActedKept c conns v a
    → ActedKept (leave_dialog c k) (put conns k (client_off (conns k))) v a
dialog_off_acted_kept c conns v a k i_acted_kept =
    λ j n p y. let old = i_acted_kept j n p y in grind (arith, get-push)

dialog_off_dead_refused : (c : Client) (conns : ℕ → Conn) (v : Seen) (a : ℕ → ℕ) (k : ℕ) → DeadRefused c conns v
    → DeadRefused (leave_dialog c k) (put conns k (client_off (conns k))) v
dialog_off_dead_refused c conns v a k i_dead_refused =
    λ j n p y. let old = i_dead_refused j n p y in grind (arith, get-push)

dialog_off_no_reply : (c : Client) (conns : ℕ → Conn) (v : Seen) (a : ℕ → ℕ) (k : ℕ) → NoReply c conns a
    → NoReply (leave_dialog c k) (put conns k (client_off (conns k))) a
dialog_off_no_reply c conns v a k i_no_reply =
    λ j n p y. let old = i_no_reply j n p y in grind (arith, get-push)

dialog_off_barred_reply : (c : Client) (conns : ℕ → Conn) (v : Seen) (a : ℕ → ℕ) (k : ℕ) → BarredReply c conns v
    → BarredReply (leave_dialog c k) (put conns k (client_off (conns k))) v
dialog_off_barred_reply c conns v a k i_barred_reply =
    λ j n p y. let old = i_barred_reply j n p y in grind (arith, get-push)

dialog_off_ok_reply : (c : Client) (conns : ℕ → Conn) (v : Seen) (a : ℕ → ℕ) (k : ℕ) → OkReply c conns a
    → OkReply (leave_dialog c k) (put conns k (client_off (conns k))) a
dialog_off_ok_reply c conns v a k i_ok_reply =
    λ j n p y. let old = i_ok_reply j n p y in grind (arith, get-push)

dialog_off_reply_guid : (c : Client) (conns : ℕ → Conn) (v : Seen) (a : ℕ → ℕ) (k : ℕ) → ReplyGuid c conns v
    → ReplyGuid (leave_dialog c k) (put conns k (client_off (conns k))) v
dialog_off_reply_guid c conns v a k i_reply_guid =
    λ j n p y. let old = i_reply_guid j n p y in grind (arith, get-push)

dialog_off_reply_of : (c : Client) (conns : ℕ → Conn) (v : Seen) (a : ℕ → ℕ) (k : ℕ) → ReplyOf c conns v
    → ReplyOf (leave_dialog c k) (put conns k (client_off (conns k))) v
dialog_off_reply_of c conns v a k i_reply_of =
    λ j n p o y. let old = i_reply_of j n p o y in grind (arith, get-push)

dialog_off_dialog_up : (c : Client) (conns : ℕ → Conn) (v : Seen) (a : ℕ → ℕ) (k : ℕ) → DialogUp conns
    → DialogUp (put conns k (client_off (conns k)))
dialog_off_dialog_up c conns v a k i_dialog_up =
    λ j n y. let old = i_dialog_up j n y in grind (arith, get-push)

dialog_off_ask_up : (c : Client) (conns : ℕ → Conn) (v : Seen) (a : ℕ → ℕ) (k : ℕ) → AskUp conns
    → AskUp (put conns k (client_off (conns k)))
dialog_off_ask_up c conns v a k i_ask_up =
    λ j n p y. let old = i_ask_up j n p y in grind (arith, get-push)

pub dialog_off_creates : (c : Client) (conns : ℕ → Conn) (v : Seen) (a : ℕ → ℕ) (k : ℕ) → Creates c conns v a
    → Creates (leave_dialog c k) (put conns k (client_off (conns k))) v a
dialog_off_creates c conns v a k i =
    record {
      made = i.made;
      named = i.named;
      named_kind = i.named_kind;
      named_given = i.named_given;
      attached = i.attached;
      plain_attached = i.plain_attached;
      unclosed = i.unclosed;
      acted_kept = dialog_off_acted_kept c conns v a k i.acted_kept;
      at_most = i.at_most;
      form_acted = i.form_acted;
      refused_not = i.refused_not;
      dead_refused = dialog_off_dead_refused c conns v a k i.dead_refused;
      no_reply = dialog_off_no_reply c conns v a k i.no_reply;
      barred_reply = dialog_off_barred_reply c conns v a k i.barred_reply;
      refused_status = i.refused_status;
      ok_acted = i.ok_acted;
      ok_reply = dialog_off_ok_reply c conns v a k i.ok_reply;
      file_guid = i.file_guid;
      file_of = i.file_of;
      reply_guid = dialog_off_reply_guid c conns v a k i.reply_guid;
      reply_of = dialog_off_reply_of c conns v a k i.reply_of;
      plain_dead = i.plain_dead;
      asking_other = i.asking_other;
      dialog_up = dialog_off_dialog_up c conns v a k i.dialog_up;
      ask_up = dialog_off_ask_up c conns v a k i.ask_up;
    }
