-- Written by tools/law_creates.py. A session is ready.
use Rattle.std.proofs.Common.{◌≡◌, ℕ, false, arith}
use Rattle.spec_exchange.specs.Client.{Client, begin_session}
use Rattle.spec_exchange.specs.Network.{Conn}
use Rattle.law_sessions.specs.messages.Connections.{Connections, Outstanding, DownOpen, OnReady, Ready, Taken, Fresh, SentReplies}
use Rattle.law_sessions.proofs.messages.Lists.{own_down_count}
use Rattle.law_creates.specs.Creates.{Seen, Creates, Unclosed, BarredReply, PlainDead}

readied_unclosed : (c : Client) (conns : ℕ → Conn) (v : Seen) (a : ℕ → ℕ) (k session tree : ℕ) → (c.live ≡ false)
    → Unclosed c v a → PlainDead c → Fresh c a → Unclosed (begin_session c k session tree) v a
readied_unclosed c conns v a k session tree dead i_unclosed i_plain_dead f_fresh =
    λ p. let old = i_unclosed p in let pd = i_plain_dead p in let fr = f_fresh p in grind arith

readied_barred_reply : (c : Client) (conns : ℕ → Conn) (v : Seen) (a : ℕ → ℕ) (k session tree : ℕ) → (c.live ≡ false)
    → BarredReply c conns v → DownOpen conns → OnReady c → Outstanding c conns → Ready c conns → SentReplies c conns
    → Taken c → BarredReply (begin_session c k session tree) conns v
readied_barred_reply c conns v a k session tree dead i_barred_reply f_down_open f_on_ready f_outstanding f_ready f_sent_replies f_taken =
    λ j n p y h t. let h' = h in let n1 = own_down_count p (conns j).down n y h' t in let u = f_outstanding j p in
    let d = f_down_open j in let sr = f_sent_replies j n p y h' t in let tk = f_taken p sr in let on =
    f_on_ready p j in let rd = f_ready j in grind arith

readied_plain_dead : (c : Client) (conns : ℕ → Conn) (v : Seen) (a : ℕ → ℕ) (k session tree : ℕ) → (c.live ≡ false)
    → PlainDead c → PlainDead (begin_session c k session tree)
readied_plain_dead c conns v a k session tree dead i_plain_dead =
    λ p. let old = i_plain_dead p in grind arith

pub readied_creates : (c : Client) (conns : ℕ → Conn) (v : Seen) (a : ℕ → ℕ) (k session tree : ℕ) → (c.live ≡ false)
    → Connections c conns a → Creates c conns v a → Creates (begin_session c k session tree) conns v a
readied_creates c conns v a k session tree dead f i =
    record {
      made = i.made;
      named = i.named;
      named_kind = i.named_kind;
      named_given = i.named_given;
      attached = i.attached;
      plain_attached = i.plain_attached;
      unclosed = readied_unclosed c conns v a k session tree dead i.unclosed i.plain_dead f.fresh;
      acted_kept = i.acted_kept;
      at_most = i.at_most;
      form_acted = i.form_acted;
      refused_not = i.refused_not;
      dead_refused = i.dead_refused;
      no_reply = i.no_reply;
      barred_reply = readied_barred_reply c conns v a k session tree dead i.barred_reply f.down_open f.on_ready
          f.outstanding f.ready f.sent_replies f.taken;
      refused_status = i.refused_status;
      ok_acted = i.ok_acted;
      ok_reply = i.ok_reply;
      file_guid = i.file_guid;
      file_of = i.file_of;
      reply_guid = i.reply_guid;
      reply_of = i.reply_of;
      plain_dead = readied_plain_dead c conns v a k session tree dead i.plain_dead;
      asking_other = i.asking_other;
      dialog_up = i.dialog_up;
      ask_up = i.ask_up;
    }
