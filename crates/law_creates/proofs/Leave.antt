-- Written by tools/law_creates.py. The session ends.
use Rattle.std.proofs.Common.{◌≡◌, ℕ, arith, Some, slice_get}
use Rattle.spec_exchange.specs.Client.{Client, end_session}
use Rattle.spec_exchange.specs.Network.{Conn, client_off}
use Rattle.law_sessions.specs.messages.Connections.{Connections, Fresh}
use Rattle.law_sessions.proofs.messages.Lists.{get-push}
use Rattle.law_creates.specs.Creates.{Seen, Creates, Unclosed, RefusedNot, DeadRefused, NoReply, BarredReply, OkActed}
use Rattle.law_creates.specs.Creates.{OkReply, FileGuid, FileOf, ReplyGuid, ReplyOf, PlainDead}
use Rattle.law_creates.proofs.Words.{after_end}

leave_unclosed : (c : Client) (conns : ℕ → Conn) (v : Seen) (a : ℕ → ℕ) → Unclosed c v a → Fresh c a → Unclosed (end_session c) v a
leave_unclosed c conns v a i_unclosed f_fresh =
    λ p m u l s. let e = after_end c p m in let old = i_unclosed p m (e.still u) l in let lasts = e.lasts u in let fr =
    f_fresh p in grind arith

leave_refused_not : (c : Client) (conns : ℕ → Conn) (v : Seen) (a : ℕ → ℕ) → RefusedNot c a → RefusedNot (end_session c) a
leave_refused_not c conns v a i_refused_not =
    λ p m. let e = (after_end c p m).never in let old = i_refused_not p m in grind arith

leave_dead_refused : (c : Client) (conns : ℕ → Conn) (v : Seen) (a : ℕ → ℕ) → DeadRefused c conns v
    → DeadRefused (end_session c) (λ q. client_off (conns q)) v
leave_dead_refused c conns v a i_dead_refused =
    λ j n p y h t m. let h' : slice_get (conns j).up n ≡ Some y = grind arith in let e = (after_end c p m).never in
    let old = i_dead_refused j n p y h' t m in grind arith

leave_no_reply : (c : Client) (conns : ℕ → Conn) (v : Seen) (a : ℕ → ℕ) → NoReply c conns a → NoReply (end_session c)
    (λ q. client_off (conns q)) a
leave_no_reply c conns v a i_no_reply =
    λ j n p y. let old = i_no_reply j n p y in grind (arith, get-push)

leave_barred_reply : (c : Client) (conns : ℕ → Conn) (v : Seen) (a : ℕ → ℕ) → BarredReply c conns v
    → BarredReply (end_session c) (λ q. client_off (conns q)) v
leave_barred_reply c conns v a i_barred_reply =
    λ j n p y. let old = i_barred_reply j n p y in grind (arith, get-push)

leave_ok_acted : (c : Client) (conns : ℕ → Conn) (v : Seen) (a : ℕ → ℕ) → OkActed c a → OkActed (end_session c) a
leave_ok_acted c conns v a i_ok_acted =
    λ p m. let e = (after_end c p m).ok in let old = i_ok_acted p m in grind arith

leave_ok_reply : (c : Client) (conns : ℕ → Conn) (v : Seen) (a : ℕ → ℕ) → OkReply c conns a → OkReply (end_session c)
    (λ q. client_off (conns q)) a
leave_ok_reply c conns v a i_ok_reply =
    λ j n p y. let old = i_ok_reply j n p y in grind (arith, get-push)

leave_file_guid : (c : Client) (conns : ℕ → Conn) (v : Seen) (a : ℕ → ℕ) → FileGuid c v → FileGuid (end_session c) v
leave_file_guid c conns v a i_file_guid =
    λ p m. let e = (after_end c p m).ok in let old = i_file_guid p m in grind arith

leave_file_of : (c : Client) (conns : ℕ → Conn) (v : Seen) (a : ℕ → ℕ) → FileOf c v → FileOf (end_session c) v
leave_file_of c conns v a i_file_of =
    λ p o m. let e = (after_end c p m).ok in let old = i_file_of p o m in grind arith

leave_reply_guid : (c : Client) (conns : ℕ → Conn) (v : Seen) (a : ℕ → ℕ) → ReplyGuid c conns v
    → ReplyGuid (end_session c) (λ q. client_off (conns q)) v
leave_reply_guid c conns v a i_reply_guid =
    λ j n p y. let old = i_reply_guid j n p y in grind (arith, get-push)

leave_reply_of : (c : Client) (conns : ℕ → Conn) (v : Seen) (a : ℕ → ℕ) → ReplyOf c conns v → ReplyOf (end_session c)
    (λ q. client_off (conns q)) v
leave_reply_of c conns v a i_reply_of =
    λ j n p o y. let old = i_reply_of j n p o y in grind (arith, get-push)

leave_plain_dead : (c : Client) (conns : ℕ → Conn) (v : Seen) (a : ℕ → ℕ) → PlainDead c → PlainDead (end_session c)
leave_plain_dead c conns v a i_plain_dead =
    λ p l m. let e = (after_end c p m).lasts in grind arith

pub leave_creates : (c : Client) (conns : ℕ → Conn) (v : Seen) (a : ℕ → ℕ) → Connections c conns a → Creates c conns v a
    → Creates (end_session c) (λ q. client_off (conns q)) v a
leave_creates c conns v a f i =
    record {
      made = i.made;
      named = i.named;
      named_kind = i.named_kind;
      named_given = i.named_given;
      attached = i.attached;
      plain_attached = i.plain_attached;
      unclosed = leave_unclosed c conns v a i.unclosed f.fresh;
      acted_kept = i.acted_kept;
      at_most = i.at_most;
      form_acted = i.form_acted;
      refused_not = leave_refused_not c conns v a i.refused_not;
      dead_refused = leave_dead_refused c conns v a i.dead_refused;
      no_reply = leave_no_reply c conns v a i.no_reply;
      barred_reply = leave_barred_reply c conns v a i.barred_reply;
      refused_status = i.refused_status;
      ok_acted = leave_ok_acted c conns v a i.ok_acted;
      ok_reply = leave_ok_reply c conns v a i.ok_reply;
      file_guid = leave_file_guid c conns v a i.file_guid;
      file_of = leave_file_of c conns v a i.file_of;
      reply_guid = leave_reply_guid c conns v a i.reply_guid;
      reply_of = leave_reply_of c conns v a i.reply_of;
      plain_dead = leave_plain_dead c conns v a i.plain_dead;
      asking_other = i.asking_other;
      dialog_up = i.dialog_up;
      ask_up = i.ask_up;
    }
