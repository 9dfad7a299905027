-- Written by tools/law_creates.py. An operation goes out itself.
use Rattle.std.proofs.Common.{◌≡◌, ℕ, true, arith}
use Rattle.spec_exchange.specs.Table.{put}
use Rattle.spec_exchange.specs.State.{Message}
use Rattle.spec_exchange.specs.Operations.{is_unsettled}
use Rattle.spec_exchange.specs.Client.{Client, outstanding as put_out}
use Rattle.spec_exchange.specs.Network.{Conn, ForOp, send_up}
use Rattle.law_sessions.proofs.messages.Lists.{get-push}
use Rattle.law_creates.specs.Creates.{Seen, Creates, Unclosed, ActedKept, DeadRefused, NoReply, BarredReply, OkReply}
use Rattle.law_creates.specs.Creates.{ReplyGuid, ReplyOf, AskingOther, DialogUp, AskUp}

send_acted_kept : (c : Client) (conns : ℕ → Conn) (v : Seen) (a : ℕ → ℕ) (k g n0 : ℕ) (m : Message)
    → (is_unsettled (c.outcome g) ≡ true) → (c.live ≡ true) → (m.session_id ≡ c.session) → ActedKept c conns v a
    → Unclosed c v a → ActedKept (put_out c k g) (put conns k (send_up (conns k) (ForOp g) m n0)) v a
send_acted_kept c conns v a k g n0 m pending lives session i_acted_kept i_unclosed =
    λ j n p y. let old = i_acted_kept j n p y in let un = i_unclosed g in grind (arith, get-push)

send_dead_refused : (c : Client) (conns : ℕ → Conn) (v : Seen) (a : ℕ → ℕ) (k g n0 : ℕ) (m : Message)
    → (is_unsettled (c.outcome g) ≡ true) → (c.live ≡ true) → (m.session_id ≡ c.session) → DeadRefused c conns v
    → DeadRefused (put_out c k g) (put conns k (send_up (conns k) (ForOp g) m n0)) v
send_dead_refused c conns v a k g n0 m pending lives session i_dead_refused =
    λ j n p y. let old = i_dead_refused j n p y in grind (arith, get-push)

send_no_reply : (c : Client) (conns : ℕ → Conn) (v : Seen) (a : ℕ → ℕ) (k g n0 : ℕ) (m : Message)
    → (is_unsettled (c.outcome g) ≡ true) → (c.live ≡ true) → (m.session_id ≡ c.session) → NoReply c conns a
    → NoReply (put_out c k g) (put conns k (send_up (conns k) (ForOp g) m n0)) a
send_no_reply c conns v a k g n0 m pending lives session i_no_reply =
    λ j n p y. let old = i_no_reply j n p y in grind (arith, get-push)

send_barred_reply : (c : Client) (conns : ℕ → Conn) (v : Seen) (a : ℕ → ℕ) (k g n0 : ℕ) (m : Message)
    → (is_unsettled (c.outcome g) ≡ true) → (c.live ≡ true) → (m.session_id ≡ c.session) → BarredReply c conns v
    → BarredReply (put_out c k g) (put conns k (send_up (conns k) (ForOp g) m n0)) v
send_barred_reply c conns v a k g n0 m pending lives session i_barred_reply =
    λ j n p y. let old = i_barred_reply j n p y in grind (arith, get-push)

send_ok_reply : (c : Client) (conns : ℕ → Conn) (v : Seen) (a : ℕ → ℕ) (k g n0 : ℕ) (m : Message)
    → (is_unsettled (c.outcome g) ≡ true) → (c.live ≡ true) → (m.session_id ≡ c.session) → OkReply c conns a
    → OkReply (put_out c k g) (put conns k (send_up (conns k) (ForOp g) m n0)) a
send_ok_reply c conns v a k g n0 m pending lives session i_ok_reply =
    λ j n p y. let old = i_ok_reply j n p y in grind (arith, get-push)

send_reply_guid : (c : Client) (conns : ℕ → Conn) (v : Seen) (a : ℕ → ℕ) (k g n0 : ℕ) (m : Message)
    → (is_unsettled (c.outcome g) ≡ true) → (c.live ≡ true) → (m.session_id ≡ c.session) → ReplyGuid c conns v
    → ReplyGuid (put_out c k g) (put conns k (send_up (conns k) (ForOp g) m n0)) v
send_reply_guid c conns v a k g n0 m pending lives session i_reply_guid =
    λ j n p y. let old = i_reply_guid j n p y in grind (arith, get-push)

send_reply_of : (c : Client) (conns : ℕ → Conn) (v : Seen) (a : ℕ → ℕ) (k g n0 : ℕ) (m : Message)
    → (is_unsettled (c.outcome g) ≡ true) → (c.live ≡ true) → (m.session_id ≡ c.session) → ReplyOf c conns v
    → ReplyOf (put_out c k g) (put conns k (send_up (conns k) (ForOp g) m n0)) v
send_reply_of c conns v a k g n0 m pending lives session i_reply_of =
    λ j n p o y. let old = i_reply_of j n p o y in grind (arith, get-push)

send_asking_other : (c : Client) (conns : ℕ → Conn) (v : Seen) (a : ℕ → ℕ) (k g n0 : ℕ) (m : Message)
    → (is_unsettled (c.outcome g) ≡ true) → (c.live ≡ true) → (m.session_id ≡ c.session) → AskingOther c
    → AskingOther (put_out c k g)
send_asking_other c conns v a k g n0 m pending lives session i_asking_other =
    λ p. let old = i_asking_other p in grind arith

send_dialog_up : (c : Client) (conns : ℕ → Conn) (v : Seen) (a : ℕ → ℕ) (k g n0 : ℕ) (m : Message)
    → (is_unsettled (c.outcome g) ≡ true) → (c.live ≡ true) → (m.session_id ≡ c.session) → DialogUp conns
    → DialogUp (put conns k (send_up (conns k) (ForOp g) m n0))
send_dialog_up c conns v a k g n0 m pending lives session i_dialog_up =
    λ j n y. let old = i_dialog_up j n y in grind (arith, get-push)

send_ask_up : (c : Client) (conns : ℕ → Conn) (v : Seen) (a : ℕ → ℕ) (k g n0 : ℕ) (m : Message)
    → (is_unsettled (c.outcome g) ≡ true) → (c.live ≡ true) → (m.session_id ≡ c.session) → AskUp conns
    → AskUp (put conns k (send_up (conns k) (ForOp g) m n0))
send_ask_up c conns v a k g n0 m pending lives session i_ask_up =
    λ j n p y. let old = i_ask_up j n p y in grind (arith, get-push)

pub send_creates : (c : Client) (conns : ℕ → Conn) (v : Seen) (a : ℕ → ℕ) (k g n0 : ℕ) (m : Message)
    → (is_unsettled (c.outcome g) ≡ true) → (c.live ≡ true) → (m.session_id ≡ c.session) → Creates c conns v a
    → Creates (put_out c k g) (put conns k (send_up (conns k) (ForOp g) m n0)) v a
send_creates c conns v a k g n0 m pending lives session i =
    record {
      made = i.made;
      named = i.named;
      named_kind = i.named_kind;
      named_given = i.named_given;
      attached = i.attached;
      plain_attached = i.plain_attached;
      unclosed = i.unclosed;
      acted_kept = send_acted_kept c conns v a k g n0 m pending lives session i.acted_kept i.unclosed;
      at_most = i.at_most;
      form_acted = i.form_acted;
      refused_not = i.refused_not;
      dead_refused = send_dead_refused c conns v a k g n0 m pending lives session i.dead_refused;
      no_reply = send_no_reply c conns v a k g n0 m pending lives session i.no_reply;
      barred_reply = send_barred_reply c conns v a k g n0 m pending lives session i.barred_reply;
      refused_status = i.refused_status;
      ok_acted = i.ok_acted;
      ok_reply = send_ok_reply c conns v a k g n0 m pending lives session i.ok_reply;
      file_guid = i.file_guid;
      file_of = i.file_of;
      reply_guid = send_reply_guid c conns v a k g n0 m pending lives session i.reply_guid;
      reply_of = send_reply_of c conns v a k g n0 m pending lives session i.reply_of;
      plain_dead = i.plain_dead;
      asking_other = send_asking_other c conns v a k g n0 m pending lives session i.asking_other;
      dialog_up = send_dialog_up c conns v a k g n0 m pending lives session i.dialog_up;
      ask_up = send_ask_up c conns v a k g n0 m pending lives session i.ask_up;
    }
