-- Bodies that fit, of one answer and of one more.
use Rattle.std.proofs.Common.{◌≡◌, ℕ, ◌+◌, ◌≤◌, List, [], ◌∷◌, ◌++◌, length, Result, Ok, Err, Some, None, IfOk, ◌⊎◌, inl}
use Rattle.std.proofs.Common.{inr, sym, ap, subst, ◌∙◌}
use Rattle.std.proofs.Common.{length-append, arith}
use Rattle.spec_wire.specs.messages.Error.{error_response_spelling, error_response_table}
use Rattle.spec_commands.proofs.Lengths.{total, length_fields}
use Rattle.conn_core.specs.declared.frame_messages.checked.Checked.{Checked}
use Rattle.conn_core.specs.served.Refusing.{IsMessageRefused}
use Rattle.conn_core.specs.declared.served.error.ServeError.{ServeError}
use Rattle.conn_core.specs.declared.served.serve.Reply.{Reply}
use Rattle.conn_core.specs.served.Serving.{IsServerShort}
use Rattle.conn_core.specs.declared.end.ConnEnd.{ConnEnd}
use Rattle.conn_core.specs.declared.end.ConnEnd.TheVariants as ends
use Rattle.conn_core.specs.declared.related.related.Carry.{Carry}
use Rattle.conn_core.specs.message_replies.Replying.{AreMessagesShort}
use Rattle.conn_core.specs.frame_events.Dealing.{AddsTo, EventAnswer, AreShortIf, event_listed}
use Rattle.conn_core.specs.declared.frame_events.handing.Dealt.{Dealt}

pub short_lack : (e : ServeError) → AreMessagesShort (Err e ∷ [])
unfolding AreMessagesShort
short_lack e = tt

pub short_one : (r : Result Reply ServeError) → IfOk r (λ x. IsServerShort x) → AreMessagesShort (r ∷ [])
unfolding AreMessagesShort
short_one (Ok x) p = (p, tt)
short_one (Err e) p = tt

pub shorts_more : (rs qs : List (Result Reply ServeError)) → AreMessagesShort rs → AreMessagesShort qs → AreMessagesShort (rs ++ qs)
unfolding AreMessagesShort
shorts_more [] qs p q = q
shorts_more (Ok x ∷ rs) qs p q = (p.0, shorts_more rs qs p.1 q)
shorts_more (Err e ∷ rs) qs p q = shorts_more rs qs p q

-- ---- of the answers to a frame

listed_long : (given : EventAnswer) → length (event_listed given) ≤ 1
listed_long None = omega arith
listed_long (Some r) = omega arith

pub long_ok : (given : EventAnswer) (d e : Dealt) → e.replies.items.items ≡ d.replies.items.items ++ event_listed given
    → length e.replies.items.items ≤ length d.replies.items.items + 1
long_ok given d e is =
    let all : length e.replies.items.items ≡ length d.replies.items.items + length (event_listed given) =
    ap (λ (l : List (Result Reply ServeError)). length l) is ∙ length-append d.replies.items.items (event_listed given) in
    let one : length (event_listed given) ≤ 1 = listed_long given in
    omega (arith, all, one)

short_listed : (given : EventAnswer) → AreShortIf given → AreMessagesShort (event_listed given)
unfolding AreMessagesShort
short_listed None p = tt
short_listed (Some r) p = p

pub kept_ok : (given : EventAnswer) (d e : Dealt) → e.replies.items.items ≡ d.replies.items.items ++ event_listed given → AreShortIf given
    → AreMessagesShort d.replies.items.items → AreMessagesShort e.replies.items.items
kept_ok given d e is short old =
    subst (λ (l : List (Result Reply ServeError)). AreMessagesShort l) (sym is)
    (shorts_more d.replies.items.items (event_listed given) old (short_listed given short))

-- nothing is added, or the answer
added_err : (given : EventAnswer) (d e : Dealt) (why : ConnEnd) → AddsTo {A = Carry} given d e (Err why)
    → (e.replies.items.items ≡ d.replies.items.items) ⊎ (e.replies.items.items ≡ d.replies.items.items ++ event_listed given)
added_err given d e ends.BadFrame p = absurd p
added_err given d e (ends.OutsideWindow id) p = absurd p
added_err given d e ends.SecondNegotiate p = absurd p
added_err given d e ends.Unsealable p = absurd p
added_err given d e ends.Spent p = absurd p
added_err given d e ends.Full p = absurd p
added_err given d e (ends.LinkFault count) p = absurd p
added_err given d e (ends.Stopped count) p = inl p.1
added_err given d e ends.Memory p = inr p.1

long_by : (given : EventAnswer) (d e : Dealt)
    → (e.replies.items.items ≡ d.replies.items.items) ⊎ (e.replies.items.items ≡ d.replies.items.items ++ event_listed given)
    → length e.replies.items.items ≤ length d.replies.items.items + 1
long_by given d e (inl is) =
    let same : length e.replies.items.items ≡ length d.replies.items.items =
    ap (λ (l : List (Result Reply ServeError)). length l) is in
    omega (arith, same)
long_by given d e (inr is) = long_ok given d e is

pub long_err : (given : EventAnswer) (d e : Dealt) (why : ConnEnd) → AddsTo {A = Carry} given d e (Err why)
    → length e.replies.items.items ≤ length d.replies.items.items + 1
long_err given d e why p = long_by given d e (added_err given d e why p)

kept_by : (given : EventAnswer) (d e : Dealt)
    → (e.replies.items.items ≡ d.replies.items.items) ⊎ (e.replies.items.items ≡ d.replies.items.items ++ event_listed given)
    → AreShortIf given → AreMessagesShort d.replies.items.items → AreMessagesShort e.replies.items.items
kept_by given d e (inl is) short old = subst (λ (l : List (Result Reply ServeError)). AreMessagesShort l) (sym is) old
kept_by given d e (inr is) short old = kept_ok given d e is short old

pub kept_err : (given : EventAnswer) (d e : Dealt) (why : ConnEnd) → AddsTo {A = Carry} given d e (Err why) → AreShortIf given
    → AreMessagesShort d.replies.items.items → AreMessagesShort e.replies.items.items
kept_err given d e why p short old = kept_by given d e (added_err given d e why p) short old

-- ---- of a message that is refused without an event

error_few : length (error_response_spelling (record { error_context_count = 0; byte_count = 0 })) ≤ 1113984
unfolding total
error_few = omega (arith, length_fields (error_response_table (record { error_context_count = 0; byte_count = 0 })) [])

pub short_refused : (m : Checked) (status : ℕ) (r : Reply) → IsMessageRefused m status r → IsServerShort r
short_refused m status r is =
    subst (λ (b : List ℕ). length b ≤ 1113984) (sym is.body) error_few
