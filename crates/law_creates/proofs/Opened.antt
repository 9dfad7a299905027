-- Written by tools/law_creates.py. A connection is made.
use Rattle.std.proofs.Common.{ℕ, Bool, arith}
use Rattle.spec_exchange.specs.Table.{put}
use Rattle.spec_exchange.specs.Client.{Client}
use Rattle.spec_exchange.specs.Dialogs.{open_channel}
use Rattle.spec_exchange.specs.Network.{Conn, fresh as fresh_conn}
use Rattle.law_sessions.proofs.messages.Lists.{get-push}
use Rattle.law_creates.specs.Creates.{Seen, Creates, ActedKept, DeadRefused, NoReply, BarredReply, OkReply, ReplyGuid}
use Rattle.law_creates.specs.Creates.{ReplyOf, DialogUp, AskUp}

opened_acted_kept : (c : Client) (conns : ℕ → Conn) (v : Seen) (a : ℕ → ℕ) (k : ℕ) (served : Bool)
    → ActedKept c conns v a → ActedKept (open_channel c k) (put conns k (fresh_conn c k served)) v a
opened_acted_kept c conns v a k served i_acted_kept =
    λ j n p y. let old = i_acted_kept j n p y in grind (arith, get-push)

opened_dead_refused : (c : Client) (conns : ℕ → Conn) (v : Seen) (a : ℕ → ℕ) (k : ℕ) (served : Bool)
    → DeadRefused c conns v → DeadRefused (open_channel c k) (put conns k (fresh_conn c k served)) v
opened_dead_refused c conns v a k served i_dead_refused =
    λ j n p y. let old = i_dead_refused j n p y in grind (arith, get-push)

opened_no_reply : (c : Client) (conns : ℕ → Conn) (v : Seen) (a : ℕ → ℕ) (k : ℕ) (served : Bool) → NoReply c conns a
    → NoReply (open_channel c k) (put conns k (fresh_conn c k served)) a
opened_no_reply c conns v a k served i_no_reply =
    λ j n p y. let old = i_no_reply j n p y in grind (arith, get-push)

opened_barred_reply : (c : Client) (conns : ℕ → Conn) (v : Seen) (a : ℕ → ℕ) (k : ℕ) (served : Bool)
    → BarredReply c conns v → BarredReply (open_channel c k) (put conns k (fresh_conn c k served)) v
opened_barred_reply c conns v a k served i_barred_reply =
    λ j n p y. let old = i_barred_reply j n p y in grind (arith, get-push)

opened_ok_reply : (c : Client) (conns : ℕ → Conn) (v : Seen) (a : ℕ → ℕ) (k : ℕ) (served : Bool) → OkReply c conns a
    → OkReply (open_channel c k) (put conns k (fresh_conn c k served)) a
opened_ok_reply c conns v a k served i_ok_reply =
    λ j n p y. let old = i_ok_reply j n p y in grind (arith, get-push)

opened_reply_guid : (c : Client) (conns : ℕ → Conn) (v : Seen) (a : ℕ → ℕ) (k : ℕ) (served : Bool) → ReplyGuid c conns v
    → ReplyGuid (open_channel c k) (put conns k (fresh_conn c k served)) v
opened_reply_guid c conns v a k served i_reply_guid =
    λ j n p y. let old = i_reply_guid j n p y in grind (arith, get-push)

opened_reply_of : (c : Client) (conns : ℕ → Conn) (v : Seen) (a : ℕ → ℕ) (k : ℕ) (served : Bool) → ReplyOf c conns v
    → ReplyOf (open_channel c k) (put conns k (fresh_conn c k served)) v
opened_reply_of c conns v a k served i_reply_of =
    λ j n p o y. let old = i_reply_of j n p o y in grind (arith, get-push)

opened_dialog_up : (c : Client) (conns : ℕ → Conn) (v : Seen) (a : ℕ → ℕ) (k : ℕ) (served : Bool) → DialogUp conns
    → DialogUp (put conns k (fresh_conn c k served))
opened_dialog_up c conns v a k served i_dialog_up =
    λ j n y. let old = i_dialog_up j n y in grind (arith, get-push)

opened_ask_up : (c : Client) (conns : ℕ → Conn) (v : Seen) (a : ℕ → ℕ) (k : ℕ) (served : Bool) → AskUp conns
    → AskUp (put conns k (fresh_conn c k served))
opened_ask_up c conns v a k served i_ask_up =
    λ j n p y. let old = i_ask_up j n p y in grind (arith, get-push)

pub opened_creates : (c : Client) (conns : ℕ → Conn) (v : Seen) (a : ℕ → ℕ) (k : ℕ) (served : Bool)
    → Creates c conns v a → Creates (open_channel c k) (put conns k (fresh_conn c k served)) v a
opened_creates c conns v a k served i =
    record {
      made = i.made;
      named = i.named;
      named_kind = i.named_kind;
      named_given = i.named_given;
      attached = i.attached;
      plain_attached = i.plain_attached;
      unclosed = i.unclosed;
      acted_kept = opened_acted_kept c conns v a k served i.acted_kept;
      at_most = i.at_most;
      form_acted = i.form_acted;
      refused_not = i.refused_not;
      dead_refused = opened_dead_refused c conns v a k served i.dead_refused;
      no_reply = opened_no_reply c conns v a k served i.no_reply;
      barred_reply = opened_barred_reply c conns v a k served i.barred_reply;
      refused_status = i.refused_status;
      ok_acted = i.ok_acted;
      ok_reply = opened_ok_reply c conns v a k served i.ok_reply;
      file_guid = i.file_guid;
      file_of = i.file_of;
      reply_guid = opened_reply_guid c conns v a k served i.reply_guid;
      reply_of = opened_reply_of c conns v a k served i.reply_of;
      plain_dead = i.plain_dead;
      asking_other = i.asking_other;
      dialog_up = opened_dialog_up c conns v a k served i.dialog_up;
      ask_up = opened_ask_up c conns v a k served i.ask_up;
    }
