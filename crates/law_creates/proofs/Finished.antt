-- Written by tools/law_creates.py. No session can be had.
use Rattle.std.proofs.Common.{ℕ, arith}
use Rattle.spec_exchange.specs.Operations.{Why}
use Rattle.spec_exchange.specs.Client.{Client, finish}
use Rattle.spec_exchange.specs.Network.{Conn}
use Rattle.law_sessions.proofs.messages.Lists.{get-push}
use Rattle.law_creates.specs.Creates.{Seen, Creates, Unclosed, RefusedNot, DeadRefused, OkActed, FileGuid, FileOf, PlainDead}

finished_unclosed : (c : Client) (conns : ℕ → Conn) (v : Seen) (a : ℕ → ℕ) (why : Why) → Unclosed c v a → Unclosed (finish c why) v a
finished_unclosed c conns v a why i_unclosed =
    λ p. let old = i_unclosed p in grind arith

finished_refused_not : (c : Client) (conns : ℕ → Conn) (v : Seen) (a : ℕ → ℕ) (why : Why) → RefusedNot c a → RefusedNot (finish c why) a
finished_refused_not c conns v a why i_refused_not =
    λ p. let old = i_refused_not p in grind arith

finished_dead_refused : (c : Client) (conns : ℕ → Conn) (v : Seen) (a : ℕ → ℕ) (why : Why) → DeadRefused c conns v
    → DeadRefused (finish c why) conns v
finished_dead_refused c conns v a why i_dead_refused =
    λ j n p y. let old = i_dead_refused j n p y in grind (arith, get-push)

finished_ok_acted : (c : Client) (conns : ℕ → Conn) (v : Seen) (a : ℕ → ℕ) (why : Why) → OkActed c a → OkActed (finish c why) a
finished_ok_acted c conns v a why i_ok_acted =
    λ p. let old = i_ok_acted p in grind arith

finished_file_guid : (c : Client) (conns : ℕ → Conn) (v : Seen) (a : ℕ → ℕ) (why : Why) → FileGuid c v → FileGuid (finish c why) v
finished_file_guid c conns v a why i_file_guid =
    λ p. let old = i_file_guid p in grind arith

finished_file_of : (c : Client) (conns : ℕ → Conn) (v : Seen) (a : ℕ → ℕ) (why : Why) → FileOf c v → FileOf (finish c why) v
finished_file_of c conns v a why i_file_of =
    λ p o. let old = i_file_of p o in grind arith

finished_plain_dead : (c : Client) (conns : ℕ → Conn) (v : Seen) (a : ℕ → ℕ) (why : Why) → PlainDead c → PlainDead (finish c why)
finished_plain_dead c conns v a why i_plain_dead =
    λ p. let old = i_plain_dead p in grind arith

pub finished_creates : (c : Client) (conns : ℕ → Conn) (v : Seen) (a : ℕ → ℕ) (why : Why) → Creates c conns v a
    → Creates (finish c why) conns v a
finished_creates c conns v a why i =
    record {
      made = i.made;
      named = i.named;
      named_kind = i.named_kind;
      named_given = i.named_given;
      attached = i.attached;
      plain_attached = i.plain_attached;
      unclosed = finished_unclosed c conns v a why i.unclosed;
      acted_kept = i.acted_kept;
      at_most = i.at_most;
      form_acted = i.form_acted;
      refused_not = finished_refused_not c conns v a why i.refused_not;
      dead_refused = finished_dead_refused c conns v a why i.dead_refused;
      no_reply = i.no_reply;
      barred_reply = i.barred_reply;
      refused_status = i.refused_status;
      ok_acted = finished_ok_acted c conns v a why i.ok_acted;
      ok_reply = i.ok_reply;
      file_guid = finished_file_guid c conns v a why i.file_guid;
      file_of = finished_file_of c conns v a why i.file_of;
      reply_guid = i.reply_guid;
      reply_of = i.reply_of;
      plain_dead = finished_plain_dead c conns v a why i.plain_dead;
      asking_other = i.asking_other;
      dialog_up = i.dialog_up;
      ask_up = i.ask_up;
    }
