-- Written by tools/law_creates.py. Operations other than creates settle without a reply.
use Rattle.std.proofs.Common.{◌≡◌, ℕ, true, arith}
use Rattle.spec_exchange.specs.Operations.{Outcome}
use Rattle.spec_exchange.specs.Client.{Client}
use Rattle.spec_exchange.specs.Network.{Conn}
use Rattle.law_sessions.specs.messages.Connections.{makes_open}
use Rattle.law_creates.specs.Creates.{Seen, Creates, Unclosed, RefusedNot, DeadRefused, OkActed, FileGuid, FileOf, PlainDead}

outcomes_unclosed : (c : Client) (conns : ℕ → Conn) (v : Seen) (a : ℕ → ℕ) (new : ℕ → Outcome)
    → ((h : ℕ) → makes_open (c.op h) ≡ true → new h ≡ c.outcome h) → Unclosed c v a → Unclosed (record c {
      outcome = new;
    }) v a
outcomes_unclosed c conns v a new same i_unclosed =
    λ p. let old = i_unclosed p in let s = same p in grind arith

outcomes_refused_not : (c : Client) (conns : ℕ → Conn) (v : Seen) (a : ℕ → ℕ) (new : ℕ → Outcome)
    → ((h : ℕ) → makes_open (c.op h) ≡ true → new h ≡ c.outcome h) → RefusedNot c a → RefusedNot (record c {
      outcome = new;
    }) a
outcomes_refused_not c conns v a new same i_refused_not =
    λ p. let old = i_refused_not p in let s = same p in grind arith

outcomes_dead_refused : (c : Client) (conns : ℕ → Conn) (v : Seen) (a : ℕ → ℕ) (new : ℕ → Outcome)
    → ((h : ℕ) → makes_open (c.op h) ≡ true → new h ≡ c.outcome h) → DeadRefused c conns v → DeadRefused (record c {
      outcome = new;
    }) conns v
outcomes_dead_refused c conns v a new same i_dead_refused =
    λ j n p y. let old = i_dead_refused j n p y in let s = same p in grind arith

outcomes_ok_acted : (c : Client) (conns : ℕ → Conn) (v : Seen) (a : ℕ → ℕ) (new : ℕ → Outcome)
    → ((h : ℕ) → makes_open (c.op h) ≡ true → new h ≡ c.outcome h) → OkActed c a → OkActed (record c { outcome = new })
    a
outcomes_ok_acted c conns v a new same i_ok_acted =
    λ p. let old = i_ok_acted p in let s = same p in grind arith

outcomes_file_guid : (c : Client) (conns : ℕ → Conn) (v : Seen) (a : ℕ → ℕ) (new : ℕ → Outcome)
    → ((h : ℕ) → makes_open (c.op h) ≡ true → new h ≡ c.outcome h) → FileGuid c v → FileGuid (record c {
      outcome = new;
    }) v
outcomes_file_guid c conns v a new same i_file_guid =
    λ p. let old = i_file_guid p in let s = same p in grind arith

outcomes_file_of : (c : Client) (conns : ℕ → Conn) (v : Seen) (a : ℕ → ℕ) (new : ℕ → Outcome)
    → ((h : ℕ) → makes_open (c.op h) ≡ true → new h ≡ c.outcome h) → FileOf c v → FileOf (record c { outcome = new }) v
outcomes_file_of c conns v a new same i_file_of =
    λ p o. let old = i_file_of p o in let s = same p in grind arith

outcomes_plain_dead : (c : Client) (conns : ℕ → Conn) (v : Seen) (a : ℕ → ℕ) (new : ℕ → Outcome)
    → ((h : ℕ) → makes_open (c.op h) ≡ true → new h ≡ c.outcome h) → PlainDead c → PlainDead (record c {
      outcome = new;
    })
outcomes_plain_dead c conns v a new same i_plain_dead =
    λ p. let old = i_plain_dead p in let s = same p in grind arith

pub outcomes_creates : (c : Client) (conns : ℕ → Conn) (v : Seen) (a : ℕ → ℕ) (new : ℕ → Outcome)
    → ((h : ℕ) → makes_open (c.op h) ≡ true → new h ≡ c.outcome h) → Creates c conns v a → Creates (record c {
      outcome = new;
    }) conns v a
outcomes_creates c conns v a new same i =
    record {
      made = i.made;
      named = i.named;
      named_kind = i.named_kind;
      named_given = i.named_given;
      attached = i.attached;
      plain_attached = i.plain_attached;
      unclosed = outcomes_unclosed c conns v a new same i.unclosed;
      acted_kept = i.acted_kept;
      at_most = i.at_most;
      form_acted = i.form_acted;
      refused_not = outcomes_refused_not c conns v a new same i.refused_not;
      dead_refused = outcomes_dead_refused c conns v a new same i.dead_refused;
      no_reply = i.no_reply;
      barred_reply = i.barred_reply;
      refused_status = i.refused_status;
      ok_acted = outcomes_ok_acted c conns v a new same i.ok_acted;
      ok_reply = i.ok_reply;
      file_guid = outcomes_file_guid c conns v a new same i.file_guid;
      file_of = outcomes_file_of c conns v a new same i.file_of;
      reply_guid = i.reply_guid;
      reply_of = i.reply_of;
      plain_dead = outcomes_plain_dead c conns v a new same i.plain_dead;
      asking_other = i.asking_other;
      dialog_up = i.dialog_up;
      ask_up = i.ask_up;
    }
