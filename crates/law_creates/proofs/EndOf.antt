-- Written by tools/law_creates.py. A session ends.
use Rattle.std.proofs.Common.{◌≡◌, ◌≢◌, ℕ, ◌<◌, Bool, true, false, ◌||◌, refl, arith, Option, Some, None, slice_get}
use Rattle.spec_exchange.specs.Client.{Client}
use Rattle.spec_exchange.specs.Network.{Conn, Sent, ForOp}
use Rattle.law_sessions.proofs.messages.Lists.{get-push}
use Rattle.law_creates.specs.Creates.{Seen, Creates, guid_at, named, is_kept, is_current, outlives, Made, Named}
use Rattle.law_creates.specs.Creates.{NamedKind, NamedGiven, Attached, PlainAttached, Unclosed, ActedKept, DeadRefused}
use Rattle.law_creates.specs.Creates.{BarredReply, RefusedStatus, FileGuid, FileOf, ReplyGuid, ReplyOf}
use Rattle.law_creates.proofs.Moves.{goes_with, end_of}

-- an open that isn't attached to the session stays
goes_not : (c : Client) (v : Seen) (x o : ℕ) → Attached c v → ((y : ℕ) → v.present y ≡ true → 0 < c.rank y → y
    ≡ c.accepted) → (y : ℕ) → y ≢ x → y ≡ c.accepted → goes_with v x o ≡ false
goes_not c v x o at here y apart same = by_session (v.session_of_open o) refl
  where
    by_session : (z : Option ℕ) → v.session_of_open o ≡ z → goes_with v x o ≡ false
    by_session None e = grind arith
    by_session (Some z) e = let q = at o z e in let w = here z q.1 q.0 in grind arith

there_before : (v : Seen) (x y : ℕ) → (end_of v x).present y ≡ true → v.present y ≡ true
there_before v x y e = grind arith

apart_from : (v : Seen) (x y : ℕ) → (end_of v x).present y ≡ true → y ≢ x
apart_from v x y e = grind arith

still_before : (c : Client) (v : Seen) (x p : ℕ) → (outlives (c.op p) || is_current c (end_of v x)) ≡ true
    → (outlives (c.op p) || is_current c v) ≡ true
still_before c v x p e = grind arith

by_kind : (c : Client) (v : Seen) (x p o : ℕ) → (v.opened o).persistent ≡ outlives (c.op p)
    → (outlives (c.op p) || is_current c (end_of v x)) ≡ true → (c.session ≢ x → c.live ≡ true → goes_with v x o
    ≡ false) → goes_with v x o ≡ false
by_kind c v x p o k s f = by_op (outlives (c.op p)) refl
  where
    by_op : (b : Bool) → outlives (c.op p) ≡ b → goes_with v x o ≡ false
    by_op true e = grind arith
    by_op false e = f (apart_from v x c.session (grind arith)) (grind arith)

kept_still : (c : Client) (v : Seen) (x p : ℕ) → is_kept c v p ≡ true
    → ((o : ℕ) → named c v p ≡ Some o → goes_with v x o ≡ false) → is_kept c (end_of v x) p ≡ true
kept_still c v x p k f = by_name (named c v p) refl
  where
    by_name : (z : Option ℕ) → named c v p ≡ z → is_kept c (end_of v x) p ≡ true
    by_name None e = grind arith
    by_name (Some o) e = let g = f o e in grind arith

end_kept : (c : Client) (v : Seen) (x p y : ℕ) → (v.closed y (guid_at c p) || is_kept c v p) ≡ true
    → ((o : ℕ) → named c v p ≡ Some o → goes_with v x o ≡ false) → y ≢ x
    → ((end_of v x).closed y (guid_at c p) || is_kept c (end_of v x) p) ≡ true
end_kept c v x p y k f d = by_closed (v.closed y (guid_at c p)) refl
  where
    by_closed : (b : Bool) → v.closed y (guid_at c p) ≡ b → ((end_of v x).closed y (guid_at c p) || is_kept c (end_of v x) p) ≡ true
    by_closed true e = grind arith
    by_closed false e = let w = kept_still c v x p (grind arith) f in grind arith

end_of_made : (c : Client) (conns : ℕ → Conn) (v : Seen) (a : ℕ → ℕ) (x : ℕ) → Made c v a → Made c (end_of v x) a
end_of_made c conns v a x i_made =
    λ p o. let old = i_made p o in grind arith

end_of_named : (c : Client) (conns : ℕ → Conn) (v : Seen) (a : ℕ → ℕ) (x : ℕ) → Named c v → Named c (end_of v x)
end_of_named c conns v a x i_named =
    λ p o. let old = i_named p o in grind arith

end_of_named_kind : (c : Client) (conns : ℕ → Conn) (v : Seen) (a : ℕ → ℕ) (x : ℕ) → NamedKind c v → NamedKind c (end_of v x)
end_of_named_kind c conns v a x i_named_kind =
    λ p o. let old = i_named_kind p o in grind arith

end_of_named_given : (c : Client) (conns : ℕ → Conn) (v : Seen) (a : ℕ → ℕ) (x : ℕ) → NamedGiven c v → NamedGiven c (end_of v x)
end_of_named_given c conns v a x i_named_given =
    λ p o. let old = i_named_given p o in grind arith

end_of_attached : (c : Client) (conns : ℕ → Conn) (v : Seen) (a : ℕ → ℕ) (x : ℕ) → Attached c v → Attached c (end_of v x)
end_of_attached c conns v a x i_attached =
    λ o z. let old = i_attached o z in grind arith

end_of_plain_attached : (c : Client) (conns : ℕ → Conn) (v : Seen) (a : ℕ → ℕ) (x : ℕ) → PlainAttached v → PlainAttached (end_of v x)
end_of_plain_attached c conns v a x i_plain_attached =
    λ o. let old = i_plain_attached o in grind arith

end_of_unclosed : (c : Client) (conns : ℕ → Conn) (v : Seen) (a : ℕ → ℕ) (x : ℕ)
    → ((y : ℕ) → v.present y ≡ true → 0 < c.rank y → y ≡ c.accepted) → (c.live ≡ true → c.session ≡ c.accepted)
    → Unclosed c v a → Attached c v → NamedKind c v → Unclosed c (end_of v x) a
end_of_unclosed c conns v a x here lives i_unclosed i_attached i_named_kind =
    λ p m u l s. kept_still c v x p (i_unclosed p m u l (still_before c v x p s))
    (λ o e. by_kind c v x p o (i_named_kind p o e).0 s (λ n t. goes_not c v x o i_attached here c.session n
    (lives t)))

end_of_acted_kept : (c : Client) (conns : ℕ → Conn) (v : Seen) (a : ℕ → ℕ) (x : ℕ)
    → ((y : ℕ) → v.present y ≡ true → 0 < c.rank y → y ≡ c.accepted)
    → ((j n h : ℕ) (y : Sent) → slice_get (conns j).up n ≡ Some y → y.token ≡ ForOp h → 0 < c.rank y.message.session_id)
    → ActedKept c conns v a → Attached c v → ActedKept c conns (end_of v x) a
end_of_acted_kept c conns v a x here ranked i_acted_kept i_attached =
    λ j n p y h t m e s. end_kept c v x p y.message.session_id
    (i_acted_kept j n p y h t m (there_before v x y.message.session_id e) s)
    (λ o q. goes_not c v x o i_attached here y.message.session_id (apart_from v x y.message.session_id e)
    (here y.message.session_id (there_before v x y.message.session_id e) (ranked j n p y h t)))
    (apart_from v x y.message.session_id e)

end_of_dead_refused : (c : Client) (conns : ℕ → Conn) (v : Seen) (a : ℕ → ℕ) (x : ℕ) → DeadRefused c conns v
    → DeadRefused c conns (end_of v x)
end_of_dead_refused c conns v a x i_dead_refused =
    λ j n p y. let old = i_dead_refused j n p y in grind (arith, get-push)

end_of_barred_reply : (c : Client) (conns : ℕ → Conn) (v : Seen) (a : ℕ → ℕ) (x : ℕ) → BarredReply c conns v
    → BarredReply c conns (end_of v x)
end_of_barred_reply c conns v a x i_barred_reply =
    λ j n p y. let old = i_barred_reply j n p y in grind (arith, get-push)

end_of_refused_status : (c : Client) (conns : ℕ → Conn) (v : Seen) (a : ℕ → ℕ) (x : ℕ) → RefusedStatus v → RefusedStatus (end_of v x)
end_of_refused_status c conns v a x i_refused_status =
    λ z q t. let old = i_refused_status z q t in grind arith

end_of_file_guid : (c : Client) (conns : ℕ → Conn) (v : Seen) (a : ℕ → ℕ) (x : ℕ) → FileGuid c v → FileGuid c (end_of v x)
end_of_file_guid c conns v a x i_file_guid =
    λ p. let old = i_file_guid p in grind arith

end_of_file_of : (c : Client) (conns : ℕ → Conn) (v : Seen) (a : ℕ → ℕ) (x : ℕ) → FileOf c v → FileOf c (end_of v x)
end_of_file_of c conns v a x i_file_of =
    λ p o. let old = i_file_of p o in grind arith

end_of_reply_guid : (c : Client) (conns : ℕ → Conn) (v : Seen) (a : ℕ → ℕ) (x : ℕ) → ReplyGuid c conns v → ReplyGuid c conns (end_of v x)
end_of_reply_guid c conns v a x i_reply_guid =
    λ j n p y. let old = i_reply_guid j n p y in grind (arith, get-push)

end_of_reply_of : (c : Client) (conns : ℕ → Conn) (v : Seen) (a : ℕ → ℕ) (x : ℕ) → ReplyOf c conns v → ReplyOf c conns (end_of v x)
end_of_reply_of c conns v a x i_reply_of =
    λ j n p o y. let old = i_reply_of j n p o y in grind (arith, get-push)

pub end_of_creates : (c : Client) (conns : ℕ → Conn) (v : Seen) (a : ℕ → ℕ) (x : ℕ)
    → ((y : ℕ) → v.present y ≡ true → 0 < c.rank y → y ≡ c.accepted) → (c.live ≡ true → c.session ≡ c.accepted)
    → ((j n h : ℕ) (y : Sent) → slice_get (conns j).up n ≡ Some y → y.token ≡ ForOp h → 0 < c.rank y.message.session_id)
    → Creates c conns v a → Creates c conns (end_of v x) a
end_of_creates c conns v a x here lives ranked i =
    record {
      made = end_of_made c conns v a x i.made;
      named = end_of_named c conns v a x i.named;
      named_kind = end_of_named_kind c conns v a x i.named_kind;
      named_given = end_of_named_given c conns v a x i.named_given;
      attached = end_of_attached c conns v a x i.attached;
      plain_attached = end_of_plain_attached c conns v a x i.plain_attached;
      unclosed = end_of_unclosed c conns v a x here lives i.unclosed i.attached i.named_kind;
      acted_kept = end_of_acted_kept c conns v a x here ranked i.acted_kept i.attached;
      at_most = i.at_most;
      form_acted = i.form_acted;
      refused_not = i.refused_not;
      dead_refused = end_of_dead_refused c conns v a x i.dead_refused;
      no_reply = i.no_reply;
      barred_reply = end_of_barred_reply c conns v a x i.barred_reply;
      refused_status = end_of_refused_status c conns v a x i.refused_status;
      ok_acted = i.ok_acted;
      ok_reply = i.ok_reply;
      file_guid = end_of_file_guid c conns v a x i.file_guid;
      file_of = end_of_file_of c conns v a x i.file_of;
      reply_guid = end_of_reply_guid c conns v a x i.reply_guid;
      reply_of = end_of_reply_of c conns v a x i.reply_of;
      plain_dead = i.plain_dead;
      asking_other = i.asking_other;
      dialog_up = i.dialog_up;
      ask_up = i.ask_up;
    }
