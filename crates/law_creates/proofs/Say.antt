-- Written by tools/law_creates.py. A reply is on its way.
use Rattle.std.proofs.Common.{◌≡◌, ℕ, ◌≤◌, true, [], ◌∷◌, ◌++◌, arith, Some}
use Rattle.spec_exchange.specs.Table.{put}
use Rattle.spec_exchange.specs.Status.{success}
use Rattle.spec_exchange.specs.Operations.{id_in}
use Rattle.spec_exchange.specs.Client.{Client}
use Rattle.spec_exchange.specs.Network.{Conn, Received, ForOp}
use Rattle.law_sessions.specs.messages.Connections.{makes_open}
use Rattle.law_sessions.proofs.messages.Lists.{get-push}
use Rattle.law_creates.specs.Creates.{Seen, Creates, guid_at, named, is_current, is_barred, refuses, ActedKept}
use Rattle.law_creates.specs.Creates.{DeadRefused, NoReply, BarredReply, OkReply, ReplyGuid, ReplyOf, DialogUp, AskUp}

say_acted_kept : (c : Client) (conns : ℕ → Conn) (v : Seen) (a : ℕ → ℕ) (k : ℕ) (y0 : Received) → ActedKept c conns v a
    → ActedKept c (put conns k (record (conns k) { down = (conns k).down ++ y0 ∷ [] })) v a
say_acted_kept c conns v a k y0 i_acted_kept =
    λ j n p y. let old = i_acted_kept j n p y in grind (arith, get-push)

say_dead_refused : (c : Client) (conns : ℕ → Conn) (v : Seen) (a : ℕ → ℕ) (k : ℕ) (y0 : Received)
    → DeadRefused c conns v → DeadRefused c (put conns k (record (conns k) { down = (conns k).down ++ y0 ∷ [] })) v
say_dead_refused c conns v a k y0 i_dead_refused =
    λ j n p y. let old = i_dead_refused j n p y in grind (arith, get-push)

say_no_reply : (c : Client) (conns : ℕ → Conn) (v : Seen) (a : ℕ → ℕ) (k : ℕ) (y0 : Received)
    → ((g : ℕ) → y0.token ≡ ForOp g → makes_open (c.op g) ≡ true → refuses (c.unanswered g) y0.reply.status ≡ true → a g
    ≡ 0) → NoReply c conns a → NoReply c (put conns k (record (conns k) { down = (conns k).down ++ y0 ∷ [] })) a
say_no_reply c conns v a k y0 never i_no_reply =
    λ j n p y. let old = i_no_reply j n p y in let q = never p in grind (arith, get-push)

say_barred_reply : (c : Client) (conns : ℕ → Conn) (v : Seen) (a : ℕ → ℕ) (k : ℕ) (y0 : Received)
    → ((g : ℕ) → y0.token ≡ ForOp g → makes_open (c.op g) ≡ true → c.unanswered g ≡ true → refuses true y0.reply.status
    ≡ true → is_current c v ≡ true → is_barred c v c.session g ≡ true) → BarredReply c conns v
    → BarredReply c (put conns k (record (conns k) { down = (conns k).down ++ y0 ∷ [] })) v
say_barred_reply c conns v a k y0 barred i_barred_reply =
    λ j n p y. let old = i_barred_reply j n p y in let q = barred p in grind (arith, get-push)

say_ok_reply : (c : Client) (conns : ℕ → Conn) (v : Seen) (a : ℕ → ℕ) (k : ℕ) (y0 : Received)
    → ((g : ℕ) → y0.token ≡ ForOp g → makes_open (c.op g) ≡ true → y0.reply.status ≡ success → 1 ≤ a g)
    → OkReply c conns a → OkReply c (put conns k (record (conns k) { down = (conns k).down ++ y0 ∷ [] })) a
say_ok_reply c conns v a k y0 acted i_ok_reply =
    λ j n p y. let old = i_ok_reply j n p y in let q = acted p in grind (arith, get-push)

say_reply_guid : (c : Client) (conns : ℕ → Conn) (v : Seen) (a : ℕ → ℕ) (k : ℕ) (y0 : Received)
    → ((g : ℕ) → y0.token ≡ ForOp g → makes_open (c.op g) ≡ true → y0.reply.status ≡ success
    → id_in y0.reply.body ≤ v.last × (v.standing (id_in y0.reply.body) ≡ true
    → (v.opened (id_in y0.reply.body)).client_guid ≡ c.who.guid × (v.opened (id_in y0.reply.body)).create_guid
    ≡ Some (guid_at c g))) → ReplyGuid c conns v
    → ReplyGuid c (put conns k (record (conns k) { down = (conns k).down ++ y0 ∷ [] })) v
say_reply_guid c conns v a k y0 guid i_reply_guid =
    λ j n p y. let old = i_reply_guid j n p y in let q = guid p in grind (arith, get-push)

say_reply_of : (c : Client) (conns : ℕ → Conn) (v : Seen) (a : ℕ → ℕ) (k : ℕ) (y0 : Received)
    → ((g o : ℕ) → y0.token ≡ ForOp g → makes_open (c.op g) ≡ true → y0.reply.status ≡ success → named c v g ≡ Some o
    → o ≡ id_in y0.reply.body) → ReplyOf c conns v
    → ReplyOf c (put conns k (record (conns k) { down = (conns k).down ++ y0 ∷ [] })) v
say_reply_of c conns v a k y0 names i_reply_of =
    λ j n p o y. let old = i_reply_of j n p o y in let q = names p o in grind (arith, get-push)

say_dialog_up : (c : Client) (conns : ℕ → Conn) (v : Seen) (a : ℕ → ℕ) (k : ℕ) (y0 : Received) → DialogUp conns
    → DialogUp (put conns k (record (conns k) { down = (conns k).down ++ y0 ∷ [] }))
say_dialog_up c conns v a k y0 i_dialog_up =
    λ j n y. let old = i_dialog_up j n y in grind (arith, get-push)

say_ask_up : (c : Client) (conns : ℕ → Conn) (v : Seen) (a : ℕ → ℕ) (k : ℕ) (y0 : Received) → AskUp conns
    → AskUp (put conns k (record (conns k) { down = (conns k).down ++ y0 ∷ [] }))
say_ask_up c conns v a k y0 i_ask_up =
    λ j n p y. let old = i_ask_up j n p y in grind (arith, get-push)

pub say_creates : (c : Client) (conns : ℕ → Conn) (v : Seen) (a : ℕ → ℕ) (k : ℕ) (y0 : Received)
    → ((g : ℕ) → y0.token ≡ ForOp g → makes_open (c.op g) ≡ true → refuses (c.unanswered g) y0.reply.status ≡ true → a g
    ≡ 0) → ((g : ℕ) → y0.token ≡ ForOp g → makes_open (c.op g) ≡ true → c.unanswered g ≡ true
    → refuses true y0.reply.status ≡ true → is_current c v ≡ true → is_barred c v c.session g ≡ true)
    → ((g : ℕ) → y0.token ≡ ForOp g → makes_open (c.op g) ≡ true → y0.reply.status ≡ success → 1 ≤ a g)
    → ((g : ℕ) → y0.token ≡ ForOp g → makes_open (c.op g) ≡ true → y0.reply.status ≡ success
    → id_in y0.reply.body ≤ v.last × (v.standing (id_in y0.reply.body) ≡ true
    → (v.opened (id_in y0.reply.body)).client_guid ≡ c.who.guid × (v.opened (id_in y0.reply.body)).create_guid
    ≡ Some (guid_at c g))) → ((g o : ℕ) → y0.token ≡ ForOp g → makes_open (c.op g) ≡ true → y0.reply.status ≡ success
    → named c v g ≡ Some o → o ≡ id_in y0.reply.body) → Creates c conns v a
    → Creates c (put conns k (record (conns k) { down = (conns k).down ++ y0 ∷ [] })) v a
say_creates c conns v a k y0 never barred acted guid names i =
    record {
      made = i.made;
      named = i.named;
      named_kind = i.named_kind;
      named_given = i.named_given;
      attached = i.attached;
      plain_attached = i.plain_attached;
      unclosed = i.unclosed;
      acted_kept = say_acted_kept c conns v a k y0 i.acted_kept;
      at_most = i.at_most;
      form_acted = i.form_acted;
      refused_not = i.refused_not;
      dead_refused = say_dead_refused c conns v a k y0 i.dead_refused;
      no_reply = say_no_reply c conns v a k y0 never i.no_reply;
      barred_reply = say_barred_reply c conns v a k y0 barred i.barred_reply;
      refused_status = i.refused_status;
      ok_acted = i.ok_acted;
      ok_reply = say_ok_reply c conns v a k y0 acted i.ok_reply;
      file_guid = i.file_guid;
      file_of = i.file_of;
      reply_guid = say_reply_guid c conns v a k y0 guid i.reply_guid;
      reply_of = say_reply_of c conns v a k y0 names i.reply_of;
      plain_dead = i.plain_dead;
      asking_other = i.asking_other;
      dialog_up = say_dialog_up c conns v a k y0 i.dialog_up;
      ask_up = say_ask_up c conns v a k y0 i.ask_up;
    }
