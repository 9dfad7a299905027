-- Written by tools/law_creates.py. The front leaves.
use Rattle.std.proofs.Common.{◌≡◌, ℕ, List, ◌∷◌, arith}
use Rattle.spec_exchange.specs.Table.{put}
use Rattle.spec_exchange.specs.Client.{Client}
use Rattle.spec_exchange.specs.Network.{Conn, Sent, behind_front}
use Rattle.law_sessions.proofs.messages.Lists.{get-push, waited}
use Rattle.law_creates.specs.Creates.{Seen, Creates, ActedKept, DeadRefused, NoReply, BarredReply, OkReply, ReplyGuid}
use Rattle.law_creates.specs.Creates.{ReplyOf, DialogUp, AskUp}

front_acted_kept : (c : Client) (conns : ℕ → Conn) (v : Seen) (a : ℕ → ℕ) (k : ℕ) (x0 : Sent) (rest : List Sent)
    → ((conns k).up ≡ x0 ∷ rest) → ActedKept c conns v a → ActedKept c (put conns k (behind_front (conns k) rest)) v a
front_acted_kept c conns v a k x0 rest is i_acted_kept =
    λ j n p y h. let o9 = waited conns k x0 rest j n y is h in i_acted_kept j o9.0 p y o9.1

front_dead_refused : (c : Client) (conns : ℕ → Conn) (v : Seen) (a : ℕ → ℕ) (k : ℕ) (x0 : Sent) (rest : List Sent)
    → ((conns k).up ≡ x0 ∷ rest) → DeadRefused c conns v → DeadRefused c (put conns k (behind_front (conns k) rest)) v
front_dead_refused c conns v a k x0 rest is i_dead_refused =
    λ j n p y h. let o9 = waited conns k x0 rest j n y is h in i_dead_refused j o9.0 p y o9.1

front_no_reply : (c : Client) (conns : ℕ → Conn) (v : Seen) (a : ℕ → ℕ) (k : ℕ) (x0 : Sent) (rest : List Sent)
    → ((conns k).up ≡ x0 ∷ rest) → NoReply c conns a → NoReply c (put conns k (behind_front (conns k) rest)) a
front_no_reply c conns v a k x0 rest is i_no_reply =
    λ j n p y. let old = i_no_reply j n p y in grind (arith, get-push)

front_barred_reply : (c : Client) (conns : ℕ → Conn) (v : Seen) (a : ℕ → ℕ) (k : ℕ) (x0 : Sent) (rest : List Sent)
    → ((conns k).up ≡ x0 ∷ rest) → BarredReply c conns v → BarredReply c (put conns k (behind_front (conns k) rest)) v
front_barred_reply c conns v a k x0 rest is i_barred_reply =
    λ j n p y. let old = i_barred_reply j n p y in grind (arith, get-push)

front_ok_reply : (c : Client) (conns : ℕ → Conn) (v : Seen) (a : ℕ → ℕ) (k : ℕ) (x0 : Sent) (rest : List Sent)
    → ((conns k).up ≡ x0 ∷ rest) → OkReply c conns a → OkReply c (put conns k (behind_front (conns k) rest)) a
front_ok_reply c conns v a k x0 rest is i_ok_reply =
    λ j n p y. let old = i_ok_reply j n p y in grind (arith, get-push)

front_reply_guid : (c : Client) (conns : ℕ → Conn) (v : Seen) (a : ℕ → ℕ) (k : ℕ) (x0 : Sent) (rest : List Sent)
    → ((conns k).up ≡ x0 ∷ rest) → ReplyGuid c conns v → ReplyGuid c (put conns k (behind_front (conns k) rest)) v
front_reply_guid c conns v a k x0 rest is i_reply_guid =
    λ j n p y. let old = i_reply_guid j n p y in grind (arith, get-push)

front_reply_of : (c : Client) (conns : ℕ → Conn) (v : Seen) (a : ℕ → ℕ) (k : ℕ) (x0 : Sent) (rest : List Sent)
    → ((conns k).up ≡ x0 ∷ rest) → ReplyOf c conns v → ReplyOf c (put conns k (behind_front (conns k) rest)) v
front_reply_of c conns v a k x0 rest is i_reply_of =
    λ j n p o y. let old = i_reply_of j n p o y in grind (arith, get-push)

front_dialog_up : (c : Client) (conns : ℕ → Conn) (v : Seen) (a : ℕ → ℕ) (k : ℕ) (x0 : Sent) (rest : List Sent)
    → ((conns k).up ≡ x0 ∷ rest) → DialogUp conns → DialogUp (put conns k (behind_front (conns k) rest))
front_dialog_up c conns v a k x0 rest is i_dialog_up =
    λ j n y h. let o9 = waited conns k x0 rest j n y is h in i_dialog_up j o9.0 y o9.1

front_ask_up : (c : Client) (conns : ℕ → Conn) (v : Seen) (a : ℕ → ℕ) (k : ℕ) (x0 : Sent) (rest : List Sent)
    → ((conns k).up ≡ x0 ∷ rest) → AskUp conns → AskUp (put conns k (behind_front (conns k) rest))
front_ask_up c conns v a k x0 rest is i_ask_up =
    λ j n p y h. let o9 = waited conns k x0 rest j n y is h in i_ask_up j o9.0 p y o9.1

pub front_creates : (c : Client) (conns : ℕ → Conn) (v : Seen) (a : ℕ → ℕ) (k : ℕ) (x0 : Sent) (rest : List Sent)
    → ((conns k).up ≡ x0 ∷ rest) → Creates c conns v a → Creates c (put conns k (behind_front (conns k) rest)) v a
front_creates c conns v a k x0 rest is i =
    record {
      made = i.made;
      named = i.named;
      named_kind = i.named_kind;
      named_given = i.named_given;
      attached = i.attached;
      plain_attached = i.plain_attached;
      unclosed = i.unclosed;
      acted_kept = front_acted_kept c conns v a k x0 rest is i.acted_kept;
      at_most = i.at_most;
      form_acted = i.form_acted;
      refused_not = i.refused_not;
      dead_refused = front_dead_refused c conns v a k x0 rest is i.dead_refused;
      no_reply = front_no_reply c conns v a k x0 rest is i.no_reply;
      barred_reply = front_barred_reply c conns v a k x0 rest is i.barred_reply;
      refused_status = i.refused_status;
      ok_acted = i.ok_acted;
      ok_reply = front_ok_reply c conns v a k x0 rest is i.ok_reply;
      file_guid = i.file_guid;
      file_of = i.file_of;
      reply_guid = front_reply_guid c conns v a k x0 rest is i.reply_guid;
      reply_of = front_reply_of c conns v a k x0 rest is i.reply_of;
      plain_dead = i.plain_dead;
      asking_other = i.asking_other;
      dialog_up = front_dialog_up c conns v a k x0 rest is i.dialog_up;
      ask_up = front_ask_up c conns v a k x0 rest is i.ask_up;
    }
