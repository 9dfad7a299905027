-- Written by tools/law_creates.py. An open leaves by a close.
use Rattle.std.proofs.Common.{◌≡◌, ℕ, true, false, arith, Option, Some, slice_get}
use Rattle.spec_exchange.specs.Operations.{is_unsettled}
use Rattle.spec_exchange.specs.Client.{Client}
use Rattle.spec_exchange.specs.Network.{Conn, Sent, ForOp}
use Rattle.law_sessions.specs.messages.Connections.{makes_open}
use Rattle.law_sessions.proofs.messages.Lists.{get-push}
use Rattle.law_creates.specs.Creates.{Seen, Creates, guid_at, Made, Named, NamedKind, NamedGiven, Attached}
use Rattle.law_creates.specs.Creates.{PlainAttached, Unclosed, ActedKept, FileGuid, FileOf, ReplyGuid, ReplyOf}
use Rattle.law_creates.proofs.Moves.{shut_in}

shut_in_made : (c : Client) (conns : ℕ → Conn) (v : Seen) (a : ℕ → ℕ) (x o0 : ℕ) (q0 : Option ℕ)
    → ((v.opened o0).create_guid ≡ q0) → Made c v a → Made c (shut_in v o0 x q0) a
shut_in_made c conns v a x o0 q0 guid i_made =
    λ p o. let old = i_made p o in grind arith

shut_in_named : (c : Client) (conns : ℕ → Conn) (v : Seen) (a : ℕ → ℕ) (x o0 : ℕ) (q0 : Option ℕ)
    → ((v.opened o0).create_guid ≡ q0) → Named c v → Named c (shut_in v o0 x q0)
shut_in_named c conns v a x o0 q0 guid i_named =
    λ p o. let old = i_named p o in grind arith

shut_in_named_kind : (c : Client) (conns : ℕ → Conn) (v : Seen) (a : ℕ → ℕ) (x o0 : ℕ) (q0 : Option ℕ)
    → ((v.opened o0).create_guid ≡ q0) → NamedKind c v → NamedKind c (shut_in v o0 x q0)
shut_in_named_kind c conns v a x o0 q0 guid i_named_kind =
    λ p o. let old = i_named_kind p o in grind arith

shut_in_named_given : (c : Client) (conns : ℕ → Conn) (v : Seen) (a : ℕ → ℕ) (x o0 : ℕ) (q0 : Option ℕ)
    → ((v.opened o0).create_guid ≡ q0) → NamedGiven c v → NamedGiven c (shut_in v o0 x q0)
shut_in_named_given c conns v a x o0 q0 guid i_named_given =
    λ p o. let old = i_named_given p o in grind arith

shut_in_attached : (c : Client) (conns : ℕ → Conn) (v : Seen) (a : ℕ → ℕ) (x o0 : ℕ) (q0 : Option ℕ)
    → ((v.opened o0).create_guid ≡ q0) → Attached c v → Attached c (shut_in v o0 x q0)
shut_in_attached c conns v a x o0 q0 guid i_attached =
    λ o z. let old = i_attached o z in grind arith

shut_in_plain_attached : (c : Client) (conns : ℕ → Conn) (v : Seen) (a : ℕ → ℕ) (x o0 : ℕ) (q0 : Option ℕ)
    → ((v.opened o0).create_guid ≡ q0) → PlainAttached v → PlainAttached (shut_in v o0 x q0)
shut_in_plain_attached c conns v a x o0 q0 guid i_plain_attached =
    λ o. let old = i_plain_attached o in grind arith

shut_in_unclosed : (c : Client) (conns : ℕ → Conn) (v : Seen) (a : ℕ → ℕ) (x o0 : ℕ) (q0 : Option ℕ)
    → ((v.opened o0).create_guid ≡ q0) → ((h : ℕ) → makes_open (c.op h) ≡ true → (v.opened o0).client_guid ≡ c.who.guid
    → q0 ≡ Some (guid_at c h) → is_unsettled (c.outcome h) ≡ false) → Unclosed c v a → Unclosed c (shut_in v o0 x q0) a
shut_in_unclosed c conns v a x o0 q0 guid settled i_unclosed =
    λ p m u l s. let old = i_unclosed p m u l s in let q = settled p m in grind arith

shut_in_acted_kept : (c : Client) (conns : ℕ → Conn) (v : Seen) (a : ℕ → ℕ) (x o0 : ℕ) (q0 : Option ℕ)
    → ((v.opened o0).create_guid ≡ q0) → ((j n h : ℕ) (y : Sent) → slice_get (conns j).up n ≡ Some y → y.token ≡ ForOp h
    → v.present y.message.session_id ≡ true → y.message.session_id ≡ x) → ActedKept c conns v a
    → ActedKept c conns (shut_in v o0 x q0) a
shut_in_acted_kept c conns v a x o0 q0 guid here i_acted_kept =
    λ j n p y h t m e s. let old = i_acted_kept j n p y h t m e s in let q = here j n p y h t e in grind arith

shut_in_file_guid : (c : Client) (conns : ℕ → Conn) (v : Seen) (a : ℕ → ℕ) (x o0 : ℕ) (q0 : Option ℕ)
    → ((v.opened o0).create_guid ≡ q0) → FileGuid c v → FileGuid c (shut_in v o0 x q0)
shut_in_file_guid c conns v a x o0 q0 guid i_file_guid =
    λ p. let old = i_file_guid p in grind arith

shut_in_file_of : (c : Client) (conns : ℕ → Conn) (v : Seen) (a : ℕ → ℕ) (x o0 : ℕ) (q0 : Option ℕ)
    → ((v.opened o0).create_guid ≡ q0) → FileOf c v → FileOf c (shut_in v o0 x q0)
shut_in_file_of c conns v a x o0 q0 guid i_file_of =
    λ p o. let old = i_file_of p o in grind arith

shut_in_reply_guid : (c : Client) (conns : ℕ → Conn) (v : Seen) (a : ℕ → ℕ) (x o0 : ℕ) (q0 : Option ℕ)
    → ((v.opened o0).create_guid ≡ q0) → ReplyGuid c conns v → ReplyGuid c conns (shut_in v o0 x q0)
shut_in_reply_guid c conns v a x o0 q0 guid i_reply_guid =
    λ j n p y. let old = i_reply_guid j n p y in grind (arith, get-push)

shut_in_reply_of : (c : Client) (conns : ℕ → Conn) (v : Seen) (a : ℕ → ℕ) (x o0 : ℕ) (q0 : Option ℕ)
    → ((v.opened o0).create_guid ≡ q0) → ReplyOf c conns v → ReplyOf c conns (shut_in v o0 x q0)
shut_in_reply_of c conns v a x o0 q0 guid i_reply_of =
    λ j n p o y. let old = i_reply_of j n p o y in grind (arith, get-push)

pub shut_in_creates : (c : Client) (conns : ℕ → Conn) (v : Seen) (a : ℕ → ℕ) (x o0 : ℕ) (q0 : Option ℕ)
    → ((v.opened o0).create_guid ≡ q0) → ((h : ℕ) → makes_open (c.op h) ≡ true → (v.opened o0).client_guid ≡ c.who.guid
    → q0 ≡ Some (guid_at c h) → is_unsettled (c.outcome h) ≡ false) → ((j n h : ℕ) (y : Sent) → slice_get (conns j).up n
    ≡ Some y → y.token ≡ ForOp h → v.present y.message.session_id ≡ true → y.message.session_id ≡ x)
    → Creates c conns v a → Creates c conns (shut_in v o0 x q0) a
shut_in_creates c conns v a x o0 q0 guid settled here i =
    record {
      made = shut_in_made c conns v a x o0 q0 guid i.made;
      named = shut_in_named c conns v a x o0 q0 guid i.named;
      named_kind = shut_in_named_kind c conns v a x o0 q0 guid i.named_kind;
      named_given = shut_in_named_given c conns v a x o0 q0 guid i.named_given;
      attached = shut_in_attached c conns v a x o0 q0 guid i.attached;
      plain_attached = shut_in_plain_attached c conns v a x o0 q0 guid i.plain_attached;
      unclosed = shut_in_unclosed c conns v a x o0 q0 guid settled i.unclosed;
      acted_kept = shut_in_acted_kept c conns v a x o0 q0 guid here i.acted_kept;
      at_most = i.at_most;
      form_acted = i.form_acted;
      refused_not = i.refused_not;
      dead_refused = i.dead_refused;
      no_reply = i.no_reply;
      barred_reply = i.barred_reply;
      refused_status = i.refused_status;
      ok_acted = i.ok_acted;
      ok_reply = i.ok_reply;
      file_guid = shut_in_file_guid c conns v a x o0 q0 guid i.file_guid;
      file_of = shut_in_file_of c conns v a x o0 q0 guid i.file_of;
      reply_guid = shut_in_reply_guid c conns v a x o0 q0 guid i.reply_guid;
      reply_of = shut_in_reply_of c conns v a x o0 q0 guid i.reply_of;
      plain_dead = i.plain_dead;
      asking_other = i.asking_other;
      dialog_up = i.dialog_up;
      ask_up = i.ask_up;
    }
