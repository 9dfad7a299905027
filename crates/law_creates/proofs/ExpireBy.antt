-- Written by tools/law_creates.py. An open leaves by its deadline.
use Rattle.std.proofs.Common.{◌≡◌, ℕ, arith, Option}
use Rattle.spec_exchange.specs.Client.{Client}
use Rattle.spec_exchange.specs.Network.{Conn}
use Rattle.law_sessions.proofs.messages.Lists.{get-push}
use Rattle.law_creates.specs.Creates.{Seen, Creates, Made, Named, NamedKind, NamedGiven, Attached, PlainAttached}
use Rattle.law_creates.specs.Creates.{Unclosed, ActedKept, FileGuid, FileOf, ReplyGuid, ReplyOf}
use Rattle.law_creates.proofs.Moves.{expire_by}

expire_by_made : (c : Client) (conns : ℕ → Conn) (v : Seen) (a : ℕ → ℕ) (o0 : ℕ) (q0 : Option ℕ)
    → ((v.opened o0).create_guid ≡ q0) → Made c v a → Made c (expire_by v o0 q0) a
expire_by_made c conns v a o0 q0 guid i_made =
    λ p o. let old = i_made p o in grind arith

expire_by_named : (c : Client) (conns : ℕ → Conn) (v : Seen) (a : ℕ → ℕ) (o0 : ℕ) (q0 : Option ℕ)
    → ((v.opened o0).create_guid ≡ q0) → Named c v → Named c (expire_by v o0 q0)
expire_by_named c conns v a o0 q0 guid i_named =
    λ p o. let old = i_named p o in grind arith

expire_by_named_kind : (c : Client) (conns : ℕ → Conn) (v : Seen) (a : ℕ → ℕ) (o0 : ℕ) (q0 : Option ℕ)
    → ((v.opened o0).create_guid ≡ q0) → NamedKind c v → NamedKind c (expire_by v o0 q0)
expire_by_named_kind c conns v a o0 q0 guid i_named_kind =
    λ p o. let old = i_named_kind p o in grind arith

expire_by_named_given : (c : Client) (conns : ℕ → Conn) (v : Seen) (a : ℕ → ℕ) (o0 : ℕ) (q0 : Option ℕ)
    → ((v.opened o0).create_guid ≡ q0) → NamedGiven c v → NamedGiven c (expire_by v o0 q0)
expire_by_named_given c conns v a o0 q0 guid i_named_given =
    λ p o. let old = i_named_given p o in grind arith

expire_by_attached : (c : Client) (conns : ℕ → Conn) (v : Seen) (a : ℕ → ℕ) (o0 : ℕ) (q0 : Option ℕ)
    → ((v.opened o0).create_guid ≡ q0) → Attached c v → Attached c (expire_by v o0 q0)
expire_by_attached c conns v a o0 q0 guid i_attached =
    λ o z. let old = i_attached o z in grind arith

expire_by_plain_attached : (c : Client) (conns : ℕ → Conn) (v : Seen) (a : ℕ → ℕ) (o0 : ℕ) (q0 : Option ℕ)
    → ((v.opened o0).create_guid ≡ q0) → PlainAttached v → PlainAttached (expire_by v o0 q0)
expire_by_plain_attached c conns v a o0 q0 guid i_plain_attached =
    λ o. let old = i_plain_attached o in grind arith

expire_by_unclosed : (c : Client) (conns : ℕ → Conn) (v : Seen) (a : ℕ → ℕ) (o0 : ℕ) (q0 : Option ℕ)
    → ((v.opened o0).create_guid ≡ q0) → Unclosed c v a → Unclosed c (expire_by v o0 q0) a
expire_by_unclosed c conns v a o0 q0 guid i_unclosed =
    λ p. let old = i_unclosed p in grind arith

expire_by_acted_kept : (c : Client) (conns : ℕ → Conn) (v : Seen) (a : ℕ → ℕ) (o0 : ℕ) (q0 : Option ℕ)
    → ((v.opened o0).create_guid ≡ q0) → ActedKept c conns v a → ActedKept c conns (expire_by v o0 q0) a
expire_by_acted_kept c conns v a o0 q0 guid i_acted_kept =
    λ j n p y. let old = i_acted_kept j n p y in grind (arith, get-push)

expire_by_file_guid : (c : Client) (conns : ℕ → Conn) (v : Seen) (a : ℕ → ℕ) (o0 : ℕ) (q0 : Option ℕ)
    → ((v.opened o0).create_guid ≡ q0) → FileGuid c v → FileGuid c (expire_by v o0 q0)
expire_by_file_guid c conns v a o0 q0 guid i_file_guid =
    λ p. let old = i_file_guid p in grind arith

expire_by_file_of : (c : Client) (conns : ℕ → Conn) (v : Seen) (a : ℕ → ℕ) (o0 : ℕ) (q0 : Option ℕ)
    → ((v.opened o0).create_guid ≡ q0) → FileOf c v → FileOf c (expire_by v o0 q0)
expire_by_file_of c conns v a o0 q0 guid i_file_of =
    λ p o. let old = i_file_of p o in grind arith

expire_by_reply_guid : (c : Client) (conns : ℕ → Conn) (v : Seen) (a : ℕ → ℕ) (o0 : ℕ) (q0 : Option ℕ)
    → ((v.opened o0).create_guid ≡ q0) → ReplyGuid c conns v → ReplyGuid c conns (expire_by v o0 q0)
expire_by_reply_guid c conns v a o0 q0 guid i_reply_guid =
    λ j n p y. let old = i_reply_guid j n p y in grind (arith, get-push)

expire_by_reply_of : (c : Client) (conns : ℕ → Conn) (v : Seen) (a : ℕ → ℕ) (o0 : ℕ) (q0 : Option ℕ)
    → ((v.opened o0).create_guid ≡ q0) → ReplyOf c conns v → ReplyOf c conns (expire_by v o0 q0)
expire_by_reply_of c conns v a o0 q0 guid i_reply_of =
    λ j n p o y. let old = i_reply_of j n p o y in grind (arith, get-push)

pub expire_by_creates : (c : Client) (conns : ℕ → Conn) (v : Seen) (a : ℕ → ℕ) (o0 : ℕ) (q0 : Option ℕ)
    → ((v.opened o0).create_guid ≡ q0) → Creates c conns v a → Creates c conns (expire_by v o0 q0) a
expire_by_creates c conns v a o0 q0 guid i =
    record {
      made = expire_by_made c conns v a o0 q0 guid i.made;
      named = expire_by_named c conns v a o0 q0 guid i.named;
      named_kind = expire_by_named_kind c conns v a o0 q0 guid i.named_kind;
      named_given = expire_by_named_given c conns v a o0 q0 guid i.named_given;
      attached = expire_by_attached c conns v a o0 q0 guid i.attached;
      plain_attached = expire_by_plain_attached c conns v a o0 q0 guid i.plain_attached;
      unclosed = expire_by_unclosed c conns v a o0 q0 guid i.unclosed;
      acted_kept = expire_by_acted_kept c conns v a o0 q0 guid i.acted_kept;
      at_most = i.at_most;
      form_acted = i.form_acted;
      refused_not = i.refused_not;
      dead_refused = i.dead_refused;
      no_reply = i.no_reply;
      barred_reply = i.barred_reply;
      refused_status = i.refused_status;
      ok_acted = i.ok_acted;
      ok_reply = i.ok_reply;
      file_guid = expire_by_file_guid c conns v a o0 q0 guid i.file_guid;
      file_of = expire_by_file_of c conns v a o0 q0 guid i.file_of;
      reply_guid = expire_by_reply_guid c conns v a o0 q0 guid i.reply_guid;
      reply_of = expire_by_reply_of c conns v a o0 q0 guid i.reply_of;
      plain_dead = i.plain_dead;
      asking_other = i.asking_other;
      dialog_up = i.dialog_up;
      ask_up = i.ask_up;
    }
