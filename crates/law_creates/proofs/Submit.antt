-- Written by tools/law_creates.py. An operation is taken.
use Rattle.std.proofs.Common.{◌≡◌, ℕ, ◌+◌, true, arith}
use Rattle.spec_exchange.specs.Table.{put}
use Rattle.spec_exchange.specs.Operations.{Op, Outcome, Unsettled}
use Rattle.spec_exchange.specs.Client.{Client}
use Rattle.spec_exchange.specs.Network.{Conn}
use Rattle.law_sessions.specs.messages.Connections.{Connections, makes_open, Taken, Fresh, Bodies, SentReplies}
use Rattle.law_creates.specs.Creates.{Seen, Creates, Made, NamedKind, Unclosed, ActedKept, AtMost, FormActed, RefusedNot}
use Rattle.law_creates.specs.Creates.{DeadRefused, NoReply, BarredReply, OkActed, OkReply, FileGuid, FileOf, ReplyGuid}
use Rattle.law_creates.specs.Creates.{ReplyOf, PlainDead, AskingOther}

submit_made : (c : Client) (conns : ℕ → Conn) (v : Seen) (a : ℕ → ℕ) (g : ℕ) (op : Op) (out : Outcome)
    → (g ≡ c.taken + 1) → Made c v a → Fresh c a → Taken c → Made (record c {
      taken = g;
      op = put c.op g op;
      outcome = put c.outcome g out;
    }) v a
submit_made c conns v a g op out next i_made f_fresh f_taken =
    λ p o h. let old = i_made p o h in let fr = f_fresh p in let tk = f_taken p in grind arith

submit_named_kind : (c : Client) (conns : ℕ → Conn) (v : Seen) (a : ℕ → ℕ) (g : ℕ) (op : Op) (out : Outcome)
    → (g ≡ c.taken + 1) → NamedKind c v → Made c v a → Fresh c a → Taken c → NamedKind (record c {
      taken = g;
      op = put c.op g op;
      outcome = put c.outcome g out;
    }) v
submit_named_kind c conns v a g op out next i_named_kind i_made f_fresh f_taken =
    λ p o h. let old = i_named_kind p o h in let md = i_made p o h in let fr = f_fresh p in let tk = f_taken p in grind arith

submit_unclosed : (c : Client) (conns : ℕ → Conn) (v : Seen) (a : ℕ → ℕ) (g : ℕ) (op : Op) (out : Outcome)
    → (g ≡ c.taken + 1) → Unclosed c v a → Fresh c a → Taken c → Unclosed (record c {
      taken = g;
      op = put c.op g op;
      outcome = put c.outcome g out;
    }) v a
submit_unclosed c conns v a g op out next i_unclosed f_fresh f_taken =
    λ p. let old = i_unclosed p in let fr = f_fresh p in let tk = f_taken p in grind arith

submit_acted_kept : (c : Client) (conns : ℕ → Conn) (v : Seen) (a : ℕ → ℕ) (g : ℕ) (op : Op) (out : Outcome)
    → (g ≡ c.taken + 1) → ActedKept c conns v a → Bodies c conns → Taken c → ActedKept (record c {
      taken = g;
      op = put c.op g op;
      outcome = put c.outcome g out;
    }) conns v a
submit_acted_kept c conns v a g op out next i_acted_kept f_bodies f_taken =
    λ j n p y h t. let old = i_acted_kept j n p y h t in let b9 = f_bodies j n p y h t in let tk = f_taken p b9.0 in grind arith

submit_at_most : (c : Client) (conns : ℕ → Conn) (v : Seen) (a : ℕ → ℕ) (g : ℕ) (op : Op) (out : Outcome)
    → (g ≡ c.taken + 1) → AtMost c a → Fresh c a → Taken c → AtMost (record c {
      taken = g;
      op = put c.op g op;
      outcome = put c.outcome g out;
    }) a
submit_at_most c conns v a g op out next i_at_most f_fresh f_taken =
    λ p. let old = i_at_most p in let fr = f_fresh p in let tk = f_taken p in grind arith

submit_form_acted : (c : Client) (conns : ℕ → Conn) (v : Seen) (a : ℕ → ℕ) (g : ℕ) (op : Op) (out : Outcome)
    → (g ≡ c.taken + 1) → FormActed c a → Fresh c a → Taken c → FormActed (record c {
      taken = g;
      op = put c.op g op;
      outcome = put c.outcome g out;
    }) a
submit_form_acted c conns v a g op out next i_form_acted f_fresh f_taken =
    λ p. let old = i_form_acted p in let fr = f_fresh p in let tk = f_taken p in grind arith

submit_refused_not : (c : Client) (conns : ℕ → Conn) (v : Seen) (a : ℕ → ℕ) (g : ℕ) (op : Op) (out : Outcome)
    → (g ≡ c.taken + 1) → (makes_open op ≡ true → out ≡ Unsettled) → RefusedNot c a → RefusedNot (record c {
      taken = g;
      op = put c.op g op;
      outcome = put c.outcome g out;
    }) a
submit_refused_not c conns v a g op out next new i_refused_not =
    λ p. let old = i_refused_not p in let nw = new in grind arith

submit_dead_refused : (c : Client) (conns : ℕ → Conn) (v : Seen) (a : ℕ → ℕ) (g : ℕ) (op : Op) (out : Outcome)
    → (g ≡ c.taken + 1) → DeadRefused c conns v → Bodies c conns → Taken c → DeadRefused (record c {
      taken = g;
      op = put c.op g op;
      outcome = put c.outcome g out;
    }) conns v
submit_dead_refused c conns v a g op out next i_dead_refused f_bodies f_taken =
    λ j n p y h t. let old = i_dead_refused j n p y h t in let b9 = f_bodies j n p y h t in let tk = f_taken p b9.0 in grind arith

submit_no_reply : (c : Client) (conns : ℕ → Conn) (v : Seen) (a : ℕ → ℕ) (g : ℕ) (op : Op) (out : Outcome)
    → (g ≡ c.taken + 1) → NoReply c conns a → SentReplies c conns → Taken c → NoReply (record c {
      taken = g;
      op = put c.op g op;
      outcome = put c.outcome g out;
    }) conns a
submit_no_reply c conns v a g op out next i_no_reply f_sent_replies f_taken =
    λ j n p y h t. let old = i_no_reply j n p y h t in let b9 = f_sent_replies j n p y h t in let tk = f_taken p b9 in grind arith

submit_barred_reply : (c : Client) (conns : ℕ → Conn) (v : Seen) (a : ℕ → ℕ) (g : ℕ) (op : Op) (out : Outcome)
    → (g ≡ c.taken + 1) → BarredReply c conns v → SentReplies c conns → Taken c → BarredReply (record c {
      taken = g;
      op = put c.op g op;
      outcome = put c.outcome g out;
    }) conns v
submit_barred_reply c conns v a g op out next i_barred_reply f_sent_replies f_taken =
    λ j n p y h t. let old = i_barred_reply j n p y h t in let b9 = f_sent_replies j n p y h t in let tk = f_taken p b9 in grind arith

submit_ok_acted : (c : Client) (conns : ℕ → Conn) (v : Seen) (a : ℕ → ℕ) (g : ℕ) (op : Op) (out : Outcome)
    → (g ≡ c.taken + 1) → (makes_open op ≡ true → out ≡ Unsettled) → OkActed c a → OkActed (record c {
      taken = g;
      op = put c.op g op;
      outcome = put c.outcome g out;
    }) a
submit_ok_acted c conns v a g op out next new i_ok_acted =
    λ p. let old = i_ok_acted p in let nw = new in grind arith

submit_ok_reply : (c : Client) (conns : ℕ → Conn) (v : Seen) (a : ℕ → ℕ) (g : ℕ) (op : Op) (out : Outcome)
    → (g ≡ c.taken + 1) → OkReply c conns a → SentReplies c conns → Taken c → OkReply (record c {
      taken = g;
      op = put c.op g op;
      outcome = put c.outcome g out;
    }) conns a
submit_ok_reply c conns v a g op out next i_ok_reply f_sent_replies f_taken =
    λ j n p y h t. let old = i_ok_reply j n p y h t in let b9 = f_sent_replies j n p y h t in let tk = f_taken p b9 in grind arith

submit_file_guid : (c : Client) (conns : ℕ → Conn) (v : Seen) (a : ℕ → ℕ) (g : ℕ) (op : Op) (out : Outcome)
    → (g ≡ c.taken + 1) → (makes_open op ≡ true → out ≡ Unsettled) → FileGuid c v → FileGuid (record c {
      taken = g;
      op = put c.op g op;
      outcome = put c.outcome g out;
    }) v
submit_file_guid c conns v a g op out next new i_file_guid =
    λ p. let old = i_file_guid p in let nw = new in grind arith

submit_file_of : (c : Client) (conns : ℕ → Conn) (v : Seen) (a : ℕ → ℕ) (g : ℕ) (op : Op) (out : Outcome)
    → (g ≡ c.taken + 1) → (makes_open op ≡ true → out ≡ Unsettled) → FileOf c v → FileOf (record c {
      taken = g;
      op = put c.op g op;
      outcome = put c.outcome g out;
    }) v
submit_file_of c conns v a g op out next new i_file_of =
    λ p o. let old = i_file_of p o in let nw = new in grind arith

submit_reply_guid : (c : Client) (conns : ℕ → Conn) (v : Seen) (a : ℕ → ℕ) (g : ℕ) (op : Op) (out : Outcome)
    → (g ≡ c.taken + 1) → ReplyGuid c conns v → SentReplies c conns → Taken c → ReplyGuid (record c {
      taken = g;
      op = put c.op g op;
      outcome = put c.outcome g out;
    }) conns v
submit_reply_guid c conns v a g op out next i_reply_guid f_sent_replies f_taken =
    λ j n p y h t. let old = i_reply_guid j n p y h t in let b9 = f_sent_replies j n p y h t in let tk = f_taken p b9 in grind arith

submit_reply_of : (c : Client) (conns : ℕ → Conn) (v : Seen) (a : ℕ → ℕ) (g : ℕ) (op : Op) (out : Outcome)
    → (g ≡ c.taken + 1) → ReplyOf c conns v → SentReplies c conns → Taken c → ReplyOf (record c {
      taken = g;
      op = put c.op g op;
      outcome = put c.outcome g out;
    }) conns v
submit_reply_of c conns v a g op out next i_reply_of f_sent_replies f_taken =
    λ j n p o y h t. let old = i_reply_of j n p o y h t in let b9 = f_sent_replies j n p y h t in let tk = f_taken p b9 in grind arith

submit_plain_dead : (c : Client) (conns : ℕ → Conn) (v : Seen) (a : ℕ → ℕ) (g : ℕ) (op : Op) (out : Outcome)
    → (g ≡ c.taken + 1) → PlainDead c → Taken c → PlainDead (record c {
      taken = g;
      op = put c.op g op;
      outcome = put c.outcome g out;
    })
submit_plain_dead c conns v a g op out next i_plain_dead f_taken =
    λ p. let old = i_plain_dead p in let tk = f_taken p in grind arith

submit_asking_other : (c : Client) (conns : ℕ → Conn) (v : Seen) (a : ℕ → ℕ) (g : ℕ) (op : Op) (out : Outcome)
    → (g ≡ c.taken + 1) → AskingOther c → AskingOther (record c {
      taken = g;
      op = put c.op g op;
      outcome = put c.outcome g out;
    })
submit_asking_other c conns v a g op out next i_asking_other =
    λ p. let old = i_asking_other p in grind arith

pub submit_creates : (c : Client) (conns : ℕ → Conn) (v : Seen) (a : ℕ → ℕ) (g : ℕ) (op : Op) (out : Outcome)
    → (g ≡ c.taken + 1) → (makes_open op ≡ true → out ≡ Unsettled) → Connections c conns a → Creates c conns v a
    → Creates (record c { taken = g; op = put c.op g op; outcome = put c.outcome g out }) conns v a
submit_creates c conns v a g op out next new f i =
    record {
      made = submit_made c conns v a g op out next i.made f.fresh f.taken;
      named = i.named;
      named_kind = submit_named_kind c conns v a g op out next i.named_kind i.made f.fresh f.taken;
      named_given = i.named_given;
      attached = i.attached;
      plain_attached = i.plain_attached;
      unclosed = submit_unclosed c conns v a g op out next i.unclosed f.fresh f.taken;
      acted_kept = submit_acted_kept c conns v a g op out next i.acted_kept f.bodies f.taken;
      at_most = submit_at_most c conns v a g op out next i.at_most f.fresh f.taken;
      form_acted = submit_form_acted c conns v a g op out next i.form_acted f.fresh f.taken;
      refused_not = submit_refused_not c conns v a g op out next new i.refused_not;
      dead_refused = submit_dead_refused c conns v a g op out next i.dead_refused f.bodies f.taken;
      no_reply = submit_no_reply c conns v a g op out next i.no_reply f.sent_replies f.taken;
      barred_reply = submit_barred_reply c conns v a g op out next i.barred_reply f.sent_replies f.taken;
      refused_status = i.refused_status;
      ok_acted = submit_ok_acted c conns v a g op out next new i.ok_acted;
      ok_reply = submit_ok_reply c conns v a g op out next i.ok_reply f.sent_replies f.taken;
      file_guid = submit_file_guid c conns v a g op out next new i.file_guid;
      file_of = submit_file_of c conns v a g op out next new i.file_of;
      reply_guid = submit_reply_guid c conns v a g op out next i.reply_guid f.sent_replies f.taken;
      reply_of = submit_reply_of c conns v a g op out next i.reply_of f.sent_replies f.taken;
      plain_dead = submit_plain_dead c conns v a g op out next i.plain_dead f.taken;
      asking_other = submit_asking_other c conns v a g op out next i.asking_other;
      dialog_up = i.dialog_up;
      ask_up = i.ask_up;
    }
