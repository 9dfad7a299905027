-- Written by tools/law_creates.py. A ready channel is cut.
use Rattle.std.proofs.Common.{◌≡◌, ℕ, arith, Some, slice_get}
use Rattle.spec_exchange.specs.Table.{put}
use Rattle.spec_exchange.specs.Client.{Client, cut_channel}
use Rattle.spec_exchange.specs.Network.{Conn, client_off}
use Rattle.law_sessions.specs.messages.Connections.{Connections, Outstanding, DownOpen, Taken, SentReplies}
use Rattle.law_sessions.proofs.messages.Lists.{get-push, own_down_count}
use Rattle.law_creates.specs.Creates.{Seen, Creates, ActedKept, DeadRefused, NoReply, BarredReply, OkReply, ReplyGuid}
use Rattle.law_creates.specs.Creates.{ReplyOf, DialogUp, AskUp}

cut_acted_kept : (c : Client) (conns : ℕ → Conn) (v : Seen) (a : ℕ → ℕ) (k : ℕ) → ActedKept c conns v a
    → ActedKept (cut_channel c k) (put conns k (client_off (conns k))) v a
cut_acted_kept c conns v a k i_acted_kept =
    λ j n p y. let old = i_acted_kept j n p y in grind (arith, get-push)

cut_dead_refused : (c : Client) (conns : ℕ → Conn) (v : Seen) (a : ℕ → ℕ) (k : ℕ) → DeadRefused c conns v
    → DeadRefused (cut_channel c k) (put conns k (client_off (conns k))) v
cut_dead_refused c conns v a k i_dead_refused =
    λ j n p y. let old = i_dead_refused j n p y in grind (arith, get-push)

cut_no_reply : (c : Client) (conns : ℕ → Conn) (v : Seen) (a : ℕ → ℕ) (k : ℕ) → NoReply c conns a → DownOpen conns
    → Outstanding c conns → SentReplies c conns → Taken c → NoReply (cut_channel c k)
    (put conns k (client_off (conns k))) a
cut_no_reply c conns v a k i_no_reply f_down_open f_outstanding f_sent_replies f_taken =
    λ j n p y h t. let h' : slice_get (conns j).down n ≡ Some y = grind arith in let n1 = own_down_count p
    (conns j).down n y h' t in let u = f_outstanding j p in let d = f_down_open j in let sr = f_sent_replies j n p y
    h' t in let tk = f_taken p sr in let old = i_no_reply j n p y h' t in grind arith

cut_barred_reply : (c : Client) (conns : ℕ → Conn) (v : Seen) (a : ℕ → ℕ) (k : ℕ) → BarredReply c conns v
    → DownOpen conns → Outstanding c conns → SentReplies c conns → Taken c → BarredReply (cut_channel c k)
    (put conns k (client_off (conns k))) v
cut_barred_reply c conns v a k i_barred_reply f_down_open f_outstanding f_sent_replies f_taken =
    λ j n p y h t. let h' : slice_get (conns j).down n ≡ Some y = grind arith in let n1 = own_down_count p
    (conns j).down n y h' t in let u = f_outstanding j p in let d = f_down_open j in let sr = f_sent_replies j n p y
    h' t in let tk = f_taken p sr in let old = i_barred_reply j n p y h' t in grind arith

cut_ok_reply : (c : Client) (conns : ℕ → Conn) (v : Seen) (a : ℕ → ℕ) (k : ℕ) → OkReply c conns a
    → OkReply (cut_channel c k) (put conns k (client_off (conns k))) a
cut_ok_reply c conns v a k i_ok_reply =
    λ j n p y. let old = i_ok_reply j n p y in grind (arith, get-push)

cut_reply_guid : (c : Client) (conns : ℕ → Conn) (v : Seen) (a : ℕ → ℕ) (k : ℕ) → ReplyGuid c conns v
    → ReplyGuid (cut_channel c k) (put conns k (client_off (conns k))) v
cut_reply_guid c conns v a k i_reply_guid =
    λ j n p y. let old = i_reply_guid j n p y in grind (arith, get-push)

cut_reply_of : (c : Client) (conns : ℕ → Conn) (v : Seen) (a : ℕ → ℕ) (k : ℕ) → ReplyOf c conns v
    → ReplyOf (cut_channel c k) (put conns k (client_off (conns k))) v
cut_reply_of c conns v a k i_reply_of =
    λ j n p o y. let old = i_reply_of j n p o y in grind (arith, get-push)

cut_dialog_up : (c : Client) (conns : ℕ → Conn) (v : Seen) (a : ℕ → ℕ) (k : ℕ) → DialogUp conns
    → DialogUp (put conns k (client_off (conns k)))
cut_dialog_up c conns v a k i_dialog_up =
    λ j n y. let old = i_dialog_up j n y in grind (arith, get-push)

cut_ask_up : (c : Client) (conns : ℕ → Conn) (v : Seen) (a : ℕ → ℕ) (k : ℕ) → AskUp conns → AskUp (put conns k (client_off (conns k)))
cut_ask_up c conns v a k i_ask_up =
    λ j n p y. let old = i_ask_up j n p y in grind (arith, get-push)

pub cut_creates : (c : Client) (conns : ℕ → Conn) (v : Seen) (a : ℕ → ℕ) (k : ℕ) → Connections c conns a
    → Creates c conns v a → Creates (cut_channel c k) (put conns k (client_off (conns k))) v a
cut_creates c conns v a k f i =
    record {
      made = i.made;
      named = i.named;
      named_kind = i.named_kind;
      named_given = i.named_given;
      attached = i.attached;
      plain_attached = i.plain_attached;
      unclosed = i.unclosed;
      acted_kept = cut_acted_kept c conns v a k i.acted_kept;
      at_most = i.at_most;
      form_acted = i.form_acted;
      refused_not = i.refused_not;
      dead_refused = cut_dead_refused c conns v a k i.dead_refused;
      no_reply = cut_no_reply c conns v a k i.no_reply f.down_open f.outstanding f.sent_replies f.taken;
      barred_reply = cut_barred_reply c conns v a k i.barred_reply f.down_open f.outstanding f.sent_replies f.taken;
      refused_status = i.refused_status;
      ok_acted = i.ok_acted;
      ok_reply = cut_ok_reply c conns v a k i.ok_reply;
      file_guid = i.file_guid;
      file_of = i.file_of;
      reply_guid = cut_reply_guid c conns v a k i.reply_guid;
      reply_of = cut_reply_of c conns v a k i.reply_of;
      plain_dead = i.plain_dead;
      asking_other = i.asking_other;
      dialog_up = cut_dialog_up c conns v a k i.dialog_up;
      ask_up = cut_ask_up c conns v a k i.ask_up;
    }
