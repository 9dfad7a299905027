-- Written by tools/law_creates.py. A reply settles its operation.
use Rattle.std.proofs.Common.{◌≡◌, ℕ, ◌≤◌, true, false, arith, Some, slice_get}
use Rattle.spec_exchange.specs.Operations.{Outcome, is_unsettled, is_ok}
use Rattle.spec_exchange.specs.Client.{Client}
use Rattle.spec_exchange.specs.Settling.{settled as settled_by}
use Rattle.spec_exchange.specs.Network.{Conn, Sent, ForOp}
use Rattle.spec_exchange.specs.Runs.{never_acted}
use Rattle.law_sessions.specs.messages.Connections.{makes_open}
use Rattle.law_creates.specs.Creates.{Seen, Creates, guid_at, named, is_barred, Unclosed, RefusedNot, DeadRefused}
use Rattle.law_creates.specs.Creates.{OkActed, FileGuid, FileOf, PlainDead}

settle_unclosed : (c : Client) (conns : ℕ → Conn) (v : Seen) (a : ℕ → ℕ) (g place : ℕ) (outcome : Outcome)
    → (is_unsettled outcome ≡ false) → Unclosed c v a → Unclosed (settled_by c g outcome place) v a
settle_unclosed c conns v a g place outcome firm i_unclosed =
    λ p. let old = i_unclosed p in grind arith

settle_refused_not : (c : Client) (conns : ℕ → Conn) (v : Seen) (a : ℕ → ℕ) (g place : ℕ) (outcome : Outcome)
    → (makes_open (c.op g) ≡ true → never_acted outcome ≡ true → a g ≡ 0) → (is_unsettled outcome ≡ false)
    → RefusedNot c a → RefusedNot (settled_by c g outcome place) a
settle_refused_not c conns v a g place outcome never firm i_refused_not =
    λ p. let old = i_refused_not p in let q = never in grind arith

settle_dead_refused : (c : Client) (conns : ℕ → Conn) (v : Seen) (a : ℕ → ℕ) (g place : ℕ) (outcome : Outcome)
    → ((j n : ℕ) (y : Sent) → slice_get (conns j).up n ≡ Some y → y.token ≡ ForOp g → makes_open (c.op g) ≡ true
    → never_acted outcome ≡ true → v.present y.message.session_id ≡ true → is_barred c v y.message.session_id g ≡ true)
    → (is_unsettled outcome ≡ false) → DeadRefused c conns v → DeadRefused (settled_by c g outcome place) conns v
settle_dead_refused c conns v a g place outcome barred firm i_dead_refused =
    λ j n p y h t. let old = i_dead_refused j n p y h t in let q = barred j n y h in grind arith

settle_ok_acted : (c : Client) (conns : ℕ → Conn) (v : Seen) (a : ℕ → ℕ) (g place : ℕ) (outcome : Outcome)
    → (makes_open (c.op g) ≡ true → is_ok outcome ≡ true → 1 ≤ a g) → (is_unsettled outcome ≡ false) → OkActed c a
    → OkActed (settled_by c g outcome place) a
settle_ok_acted c conns v a g place outcome acted firm i_ok_acted =
    λ p. let old = i_ok_acted p in let q = acted in grind arith

settle_file_guid : (c : Client) (conns : ℕ → Conn) (v : Seen) (a : ℕ → ℕ) (g place : ℕ) (outcome : Outcome)
    → (makes_open (c.op g) ≡ true → is_ok outcome ≡ true → c.file g ≤ v.last
    × (v.standing (c.file g) ≡ true → (v.opened (c.file g)).client_guid ≡ c.who.guid × (v.opened (c.file g)).create_guid
    ≡ Some (guid_at c g))) → (is_unsettled outcome ≡ false) → FileGuid c v → FileGuid (settled_by c g outcome place) v
settle_file_guid c conns v a g place outcome guid firm i_file_guid =
    λ p. let old = i_file_guid p in let q = guid in grind arith

settle_file_of : (c : Client) (conns : ℕ → Conn) (v : Seen) (a : ℕ → ℕ) (g place : ℕ) (outcome : Outcome)
    → ((o : ℕ) → makes_open (c.op g) ≡ true → is_ok outcome ≡ true → named c v g ≡ Some o → o ≡ c.file g)
    → (is_unsettled outcome ≡ false) → FileOf c v → FileOf (settled_by c g outcome place) v
settle_file_of c conns v a g place outcome names firm i_file_of =
    λ p o. let old = i_file_of p o in let q = names o in grind arith

settle_plain_dead : (c : Client) (conns : ℕ → Conn) (v : Seen) (a : ℕ → ℕ) (g place : ℕ) (outcome : Outcome)
    → (is_unsettled outcome ≡ false) → PlainDead c → PlainDead (settled_by c g outcome place)
settle_plain_dead c conns v a g place outcome firm i_plain_dead =
    λ p. let old = i_plain_dead p in grind arith

pub settle_creates : (c : Client) (conns : ℕ → Conn) (v : Seen) (a : ℕ → ℕ) (g place : ℕ) (outcome : Outcome)
    → (makes_open (c.op g) ≡ true → never_acted outcome ≡ true → a g ≡ 0) → (makes_open (c.op g) ≡ true → is_ok outcome
    ≡ true → 1 ≤ a g) → ((j n : ℕ) (y : Sent) → slice_get (conns j).up n ≡ Some y → y.token ≡ ForOp g
    → makes_open (c.op g) ≡ true → never_acted outcome ≡ true → v.present y.message.session_id ≡ true
    → is_barred c v y.message.session_id g ≡ true) → (makes_open (c.op g) ≡ true → is_ok outcome ≡ true
    → c.file g ≤ v.last × (v.standing (c.file g) ≡ true → (v.opened (c.file g)).client_guid ≡ c.who.guid
    × (v.opened (c.file g)).create_guid ≡ Some (guid_at c g))) → ((o : ℕ) → makes_open (c.op g) ≡ true → is_ok outcome
    ≡ true → named c v g ≡ Some o → o ≡ c.file g) → (is_unsettled outcome ≡ false) → Creates c conns v a
    → Creates (settled_by c g outcome place) conns v a
settle_creates c conns v a g place outcome never acted barred guid names firm i =
    record {
      made = i.made;
      named = i.named;
      named_kind = i.named_kind;
      named_given = i.named_given;
      attached = i.attached;
      plain_attached = i.plain_attached;
      unclosed = settle_unclosed c conns v a g place outcome firm i.unclosed;
      acted_kept = i.acted_kept;
      at_most = i.at_most;
      form_acted = i.form_acted;
      refused_not = settle_refused_not c conns v a g place outcome never firm i.refused_not;
      dead_refused = settle_dead_refused c conns v a g place outcome barred firm i.dead_refused;
      no_reply = i.no_reply;
      barred_reply = i.barred_reply;
      refused_status = i.refused_status;
      ok_acted = settle_ok_acted c conns v a g place outcome acted firm i.ok_acted;
      ok_reply = i.ok_reply;
      file_guid = settle_file_guid c conns v a g place outcome guid firm i.file_guid;
      file_of = settle_file_of c conns v a g place outcome names firm i.file_of;
      reply_guid = i.reply_guid;
      reply_of = i.reply_of;
      plain_dead = settle_plain_dead c conns v a g place outcome firm i.plain_dead;
      asking_other = i.asking_other;
      dialog_up = i.dialog_up;
      ask_up = i.ask_up;
    }
