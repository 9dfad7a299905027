-- Written by tools/law_creates.py. The server starts anew.
use Rattle.std.proofs.Common.{◌≡◌, ℕ, true, ◌||◌, refl, arith, ◌∙◌, ap, Option, Some, None, is_some}
use Rattle.spec_exchange.specs.Operations.{id_in}
use Rattle.spec_exchange.specs.Client.{Client}
use Rattle.spec_exchange.specs.Network.{Conn, server_off}
use Rattle.law_sessions.proofs.messages.Lists.{get-push}
use Rattle.law_creates.specs.Creates.{Seen, Creates, Restarts, guid_at, named, is_kept, outlives, Made, Named, NamedKind}
use Rattle.law_creates.specs.Creates.{NamedGiven, Attached, PlainAttached, Unclosed, ActedKept, DeadRefused, BarredReply}
use Rattle.law_creates.specs.Creates.{RefusedStatus, FileGuid, FileOf, ReplyGuid, ReplyOf, DialogUp, AskUp}

restart_kept : (c : Client) (v u : Seen) (p : ℕ) → Restarts v u → NamedKind c v → outlives (c.op p) ≡ true
    → (o : Option ℕ) → named c v p ≡ o → (is_some o || v.expired_guids c.who.guid (guid_at c p)) ≡ true → is_kept c u p
    ≡ true
restart_kept c v u p r nk out None e s = let m = r.expired_guids in let w : u.expired_guids c.who.guid (guid_at c p)
    ≡ v.expired_guids c.who.guid (guid_at c p) = ap (λ f. f c.who.guid (guid_at c p)) m in grind arith
restart_kept c v u p r nk out (Some o) e s = let k = nk p o e in let st = r.stays c.who.guid (guid_at c p) o e (k.0 ∙ out) in grind arith

restart_unclosed : (c : Client) (v : Seen) (a : ℕ → ℕ) (u : Seen) → Restarts v u → Unclosed c v a → NamedKind c v → Unclosed c u a
restart_unclosed c v a u r un nk p m s l t =
    let ab = r.absent c.session in
    let out : outlives (c.op p) ≡ true = grind arith in
    restart_kept c v u p r nk out (named c v p) refl (un p m s l (grind arith))

restarted_made : (c : Client) (conns : ℕ → Conn) (v : Seen) (a : ℕ → ℕ) (u : Seen) → (Restarts v u) → Made c v a → Made c u a
restarted_made c conns v a u r i_made =
    λ p o h. i_made p o (r.was c.who.guid (guid_at c p) o h)

restarted_named : (c : Client) (conns : ℕ → Conn) (v : Seen) (a : ℕ → ℕ) (u : Seen) → (Restarts v u) → Named c v → Named c u
restarted_named c conns v a u r i_named =
    λ p o h. let st = r.named c.who.guid (guid_at c p) o h in let sd = r.stood o st in let old =
    i_named p o (r.was c.who.guid (guid_at c p) o h) in grind arith

restarted_named_kind : (c : Client) (conns : ℕ → Conn) (v : Seen) (a : ℕ → ℕ) (u : Seen) → (Restarts v u) → NamedKind c v → NamedKind c u
restarted_named_kind c conns v a u r i_named_kind =
    λ p o h. let st = r.named c.who.guid (guid_at c p) o h in let sd = r.stood o st in let old = i_named_kind p o
    (r.was c.who.guid (guid_at c p) o h) in grind arith

restarted_named_given : (c : Client) (conns : ℕ → Conn) (v : Seen) (a : ℕ → ℕ) (u : Seen) → (Restarts v u) → NamedGiven c v → NamedGiven c u
restarted_named_given c conns v a u r i_named_given =
    λ p o h. let l = r.last in let old = i_named_given p o (r.was c.who.guid (guid_at c p) o h) in grind arith

restarted_attached : (c : Client) (conns : ℕ → Conn) (v : Seen) (a : ℕ → ℕ) (u : Seen) → (Restarts v u) → Attached c v → Attached c u
restarted_attached c conns v a u r i_attached =
    λ o z. let q = r.apart o in grind arith

restarted_plain_attached : (c : Client) (conns : ℕ → Conn) (v : Seen) (a : ℕ → ℕ) (u : Seen) → (Restarts v u)
    → PlainAttached v → PlainAttached u
restarted_plain_attached c conns v a u r i_plain_attached =
    λ o s. let q = r.stood o s in grind arith

restarted_unclosed : (c : Client) (conns : ℕ → Conn) (v : Seen) (a : ℕ → ℕ) (u : Seen) → (Restarts v u) → Unclosed c v a
    → NamedKind c v → Unclosed c u a
restarted_unclosed c conns v a u r i_unclosed i_named_kind =
    λ p m s l t. restart_unclosed c v a u r i_unclosed i_named_kind p m s l t

restarted_acted_kept : (c : Client) (conns : ℕ → Conn) (v : Seen) (a : ℕ → ℕ) (u : Seen) → ActedKept c conns v a
    → ActedKept c (λ q. server_off (conns q)) u a
restarted_acted_kept c conns v a u i_acted_kept =
    λ j n p y. let old = i_acted_kept j n p y in grind (arith, get-push)

restarted_dead_refused : (c : Client) (conns : ℕ → Conn) (v : Seen) (a : ℕ → ℕ) (u : Seen) → DeadRefused c conns v
    → DeadRefused c (λ q. server_off (conns q)) u
restarted_dead_refused c conns v a u i_dead_refused =
    λ j n p y. let old = i_dead_refused j n p y in grind (arith, get-push)

restarted_barred_reply : (c : Client) (conns : ℕ → Conn) (v : Seen) (a : ℕ → ℕ) (u : Seen) → (Restarts v u)
    → BarredReply c conns v → BarredReply c (λ q. server_off (conns q)) u
restarted_barred_reply c conns v a u r i_barred_reply =
    λ j n p y h t m b s. let q = r.absent c.session in grind arith

restarted_refused_status : (c : Client) (conns : ℕ → Conn) (v : Seen) (a : ℕ → ℕ) (u : Seen) → (Restarts v u)
    → RefusedStatus v → RefusedStatus u
restarted_refused_status c conns v a u r i_refused_status =
    λ z q t. let e = r.unrefused z q in grind arith

restarted_file_guid : (c : Client) (conns : ℕ → Conn) (v : Seen) (a : ℕ → ℕ) (u : Seen) → (Restarts v u) → FileGuid c v → FileGuid c u
restarted_file_guid c conns v a u r i_file_guid =
    λ p m e. let old = i_file_guid p m e in let l = r.last in let q = r.stood (c.file p) in grind arith

restarted_file_of : (c : Client) (conns : ℕ → Conn) (v : Seen) (a : ℕ → ℕ) (u : Seen) → (Restarts v u) → FileOf c v → FileOf c u
restarted_file_of c conns v a u r i_file_of =
    λ p o m e h. i_file_of p o m e (r.was c.who.guid (guid_at c p) o h)

restarted_reply_guid : (c : Client) (conns : ℕ → Conn) (v : Seen) (a : ℕ → ℕ) (u : Seen) → (Restarts v u)
    → ReplyGuid c conns v → ReplyGuid c (λ q. server_off (conns q)) u
restarted_reply_guid c conns v a u r i_reply_guid =
    λ j n p y h t m e. let old = i_reply_guid j n p y h t m e in let l = r.last in let q = r.stood (id_in y.reply.body) in grind arith

restarted_reply_of : (c : Client) (conns : ℕ → Conn) (v : Seen) (a : ℕ → ℕ) (u : Seen) → (Restarts v u)
    → ReplyOf c conns v → ReplyOf c (λ q. server_off (conns q)) u
restarted_reply_of c conns v a u r i_reply_of =
    λ j n p o y h t m e g. i_reply_of j n p o y h t m e (r.was c.who.guid (guid_at c p) o g)

restarted_dialog_up : (c : Client) (conns : ℕ → Conn) (v : Seen) (a : ℕ → ℕ) (u : Seen) → DialogUp conns
    → DialogUp (λ q. server_off (conns q))
restarted_dialog_up c conns v a u i_dialog_up =
    λ j n y. let old = i_dialog_up j n y in grind (arith, get-push)

restarted_ask_up : (c : Client) (conns : ℕ → Conn) (v : Seen) (a : ℕ → ℕ) (u : Seen) → AskUp conns → AskUp (λ q. server_off (conns q))
restarted_ask_up c conns v a u i_ask_up =
    λ j n p y. let old = i_ask_up j n p y in grind (arith, get-push)

pub restarted_creates : (c : Client) (conns : ℕ → Conn) (v : Seen) (a : ℕ → ℕ) (u : Seen) → (Restarts v u)
    → Creates c conns v a → Creates c (λ q. server_off (conns q)) u a
restarted_creates c conns v a u r i =
    record {
      made = restarted_made c conns v a u r i.made;
      named = restarted_named c conns v a u r i.named;
      named_kind = restarted_named_kind c conns v a u r i.named_kind;
      named_given = restarted_named_given c conns v a u r i.named_given;
      attached = restarted_attached c conns v a u r i.attached;
      plain_attached = restarted_plain_attached c conns v a u r i.plain_attached;
      unclosed = restarted_unclosed c conns v a u r i.unclosed i.named_kind;
      acted_kept = restarted_acted_kept c conns v a u i.acted_kept;
      at_most = i.at_most;
      form_acted = i.form_acted;
      refused_not = i.refused_not;
      dead_refused = restarted_dead_refused c conns v a u i.dead_refused;
      no_reply = i.no_reply;
      barred_reply = restarted_barred_reply c conns v a u r i.barred_reply;
      refused_status = restarted_refused_status c conns v a u r i.refused_status;
      ok_acted = i.ok_acted;
      ok_reply = i.ok_reply;
      file_guid = restarted_file_guid c conns v a u r i.file_guid;
      file_of = restarted_file_of c conns v a u r i.file_of;
      reply_guid = restarted_reply_guid c conns v a u r i.reply_guid;
      reply_of = restarted_reply_of c conns v a u r i.reply_of;
      plain_dead = i.plain_dead;
      asking_other = i.asking_other;
      dialog_up = restarted_dialog_up c conns v a u i.dialog_up;
      ask_up = restarted_ask_up c conns v a u i.ask_up;
    }
