-- Written by tools/law_creates.py. A DH2C goes out in an operation's place.
use Rattle.std.proofs.Common.{◌≡◌, ℕ, ◌≤◌, true, false, arith}
use Rattle.spec_exchange.specs.Table.{put}
use Rattle.spec_exchange.specs.State.{Message}
use Rattle.spec_exchange.specs.Client.{Client, asked}
use Rattle.spec_exchange.specs.Network.{Conn, ForAttach, send_up}
use Rattle.law_sessions.specs.messages.Connections.{makes_open}
use Rattle.law_sessions.proofs.messages.Lists.{get-push}
use Rattle.law_creates.specs.Creates.{Seen, Creates, is_of_ask, ActedKept, DeadRefused, NoReply, BarredReply, OkReply}
use Rattle.law_creates.specs.Creates.{ReplyGuid, ReplyOf, AskingOther, DialogUp, AskUp}

ask_acted_kept : (c : Client) (conns : ℕ → Conn) (v : Seen) (a : ℕ → ℕ) (k g n0 : ℕ) (m : Message)
    → (makes_open (c.op g) ≡ false) → (g ≤ c.taken) → (is_of_ask m.command ≡ true) → ActedKept c conns v a
    → ActedKept (asked c k g) (put conns k (send_up (conns k) (ForAttach g) m n0)) v a
ask_acted_kept c conns v a k g n0 m other within says i_acted_kept =
    λ j n p y. let old = i_acted_kept j n p y in grind (arith, get-push)

ask_dead_refused : (c : Client) (conns : ℕ → Conn) (v : Seen) (a : ℕ → ℕ) (k g n0 : ℕ) (m : Message)
    → (makes_open (c.op g) ≡ false) → (g ≤ c.taken) → (is_of_ask m.command ≡ true) → DeadRefused c conns v
    → DeadRefused (asked c k g) (put conns k (send_up (conns k) (ForAttach g) m n0)) v
ask_dead_refused c conns v a k g n0 m other within says i_dead_refused =
    λ j n p y. let old = i_dead_refused j n p y in grind (arith, get-push)

ask_no_reply : (c : Client) (conns : ℕ → Conn) (v : Seen) (a : ℕ → ℕ) (k g n0 : ℕ) (m : Message)
    → (makes_open (c.op g) ≡ false) → (g ≤ c.taken) → (is_of_ask m.command ≡ true) → NoReply c conns a
    → NoReply (asked c k g) (put conns k (send_up (conns k) (ForAttach g) m n0)) a
ask_no_reply c conns v a k g n0 m other within says i_no_reply =
    λ j n p y. let old = i_no_reply j n p y in grind (arith, get-push)

ask_barred_reply : (c : Client) (conns : ℕ → Conn) (v : Seen) (a : ℕ → ℕ) (k g n0 : ℕ) (m : Message)
    → (makes_open (c.op g) ≡ false) → (g ≤ c.taken) → (is_of_ask m.command ≡ true) → BarredReply c conns v
    → BarredReply (asked c k g) (put conns k (send_up (conns k) (ForAttach g) m n0)) v
ask_barred_reply c conns v a k g n0 m other within says i_barred_reply =
    λ j n p y. let old = i_barred_reply j n p y in grind (arith, get-push)

ask_ok_reply : (c : Client) (conns : ℕ → Conn) (v : Seen) (a : ℕ → ℕ) (k g n0 : ℕ) (m : Message)
    → (makes_open (c.op g) ≡ false) → (g ≤ c.taken) → (is_of_ask m.command ≡ true) → OkReply c conns a
    → OkReply (asked c k g) (put conns k (send_up (conns k) (ForAttach g) m n0)) a
ask_ok_reply c conns v a k g n0 m other within says i_ok_reply =
    λ j n p y. let old = i_ok_reply j n p y in grind (arith, get-push)

ask_reply_guid : (c : Client) (conns : ℕ → Conn) (v : Seen) (a : ℕ → ℕ) (k g n0 : ℕ) (m : Message)
    → (makes_open (c.op g) ≡ false) → (g ≤ c.taken) → (is_of_ask m.command ≡ true) → ReplyGuid c conns v
    → ReplyGuid (asked c k g) (put conns k (send_up (conns k) (ForAttach g) m n0)) v
ask_reply_guid c conns v a k g n0 m other within says i_reply_guid =
    λ j n p y. let old = i_reply_guid j n p y in grind (arith, get-push)

ask_reply_of : (c : Client) (conns : ℕ → Conn) (v : Seen) (a : ℕ → ℕ) (k g n0 : ℕ) (m : Message)
    → (makes_open (c.op g) ≡ false) → (g ≤ c.taken) → (is_of_ask m.command ≡ true) → ReplyOf c conns v
    → ReplyOf (asked c k g) (put conns k (send_up (conns k) (ForAttach g) m n0)) v
ask_reply_of c conns v a k g n0 m other within says i_reply_of =
    λ j n p o y. let old = i_reply_of j n p o y in grind (arith, get-push)

ask_asking_other : (c : Client) (conns : ℕ → Conn) (v : Seen) (a : ℕ → ℕ) (k g n0 : ℕ) (m : Message)
    → (makes_open (c.op g) ≡ false) → (g ≤ c.taken) → (is_of_ask m.command ≡ true) → AskingOther c
    → AskingOther (asked c k g)
ask_asking_other c conns v a k g n0 m other within says i_asking_other =
    λ p. let old = i_asking_other p in grind arith

ask_dialog_up : (c : Client) (conns : ℕ → Conn) (v : Seen) (a : ℕ → ℕ) (k g n0 : ℕ) (m : Message)
    → (makes_open (c.op g) ≡ false) → (g ≤ c.taken) → (is_of_ask m.command ≡ true) → DialogUp conns
    → DialogUp (put conns k (send_up (conns k) (ForAttach g) m n0))
ask_dialog_up c conns v a k g n0 m other within says i_dialog_up =
    λ j n y. let old = i_dialog_up j n y in grind (arith, get-push)

ask_ask_up : (c : Client) (conns : ℕ → Conn) (v : Seen) (a : ℕ → ℕ) (k g n0 : ℕ) (m : Message)
    → (makes_open (c.op g) ≡ false) → (g ≤ c.taken) → (is_of_ask m.command ≡ true) → AskUp conns
    → AskUp (put conns k (send_up (conns k) (ForAttach g) m n0))
ask_ask_up c conns v a k g n0 m other within says i_ask_up =
    λ j n p y. let old = i_ask_up j n p y in grind (arith, get-push)

pub ask_creates : (c : Client) (conns : ℕ → Conn) (v : Seen) (a : ℕ → ℕ) (k g n0 : ℕ) (m : Message)
    → (makes_open (c.op g) ≡ false) → (g ≤ c.taken) → (is_of_ask m.command ≡ true) → Creates c conns v a
    → Creates (asked c k g) (put conns k (send_up (conns k) (ForAttach g) m n0)) v a
ask_creates c conns v a k g n0 m other within says i =
    record {
      made = i.made;
      named = i.named;
      named_kind = i.named_kind;
      named_given = i.named_given;
      attached = i.attached;
      plain_attached = i.plain_attached;
      unclosed = i.unclosed;
      acted_kept = ask_acted_kept c conns v a k g n0 m other within says i.acted_kept;
      at_most = i.at_most;
      form_acted = i.form_acted;
      refused_not = i.refused_not;
      dead_refused = ask_dead_refused c conns v a k g n0 m other within says i.dead_refused;
      no_reply = ask_no_reply c conns v a k g n0 m other within says i.no_reply;
      barred_reply = ask_barred_reply c conns v a k g n0 m other within says i.barred_reply;
      refused_status = i.refused_status;
      ok_acted = i.ok_acted;
      ok_reply = ask_ok_reply c conns v a k g n0 m other within says i.ok_reply;
      file_guid = i.file_guid;
      file_of = i.file_of;
      reply_guid = ask_reply_guid c conns v a k g n0 m other within says i.reply_guid;
      reply_of = ask_reply_of c conns v a k g n0 m other within says i.reply_of;
      plain_dead = i.plain_dead;
      asking_other = ask_asking_other c conns v a k g n0 m other within says i.asking_other;
      dialog_up = ask_dialog_up c conns v a k g n0 m other within says i.dialog_up;
      ask_up = ask_ask_up c conns v a k g n0 m other within says i.ask_up;
    }
