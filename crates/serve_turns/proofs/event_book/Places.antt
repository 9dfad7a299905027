-- A message that asks something, as a test and as a fact.
use Rattle.std.proofs.Common.{◌≡◌, ℕ, ◌+◌, ◌≤◌, ◌==◌, nat_le, Bool, true, false, ◌&&◌, length, Option, Some, None, refl, sym, ap, subst, ◌∙◌, arith}
use Rattle.std.proofs.lemmas.Bool.Decides.{nat_tests}
use Rattle.std.specs.Prelude.{slice_get}
use Rattle.conn_core.specs.declared.frame_messages.checked.Checked.{Checked}
use Rattle.conn_core.specs.declared.frame_messages.checked.CheckedFrame.{CheckedFrame}
use Rattle.conn_core.specs.frame_messages.Checking.{HasMessage, IsDenied}
use Rattle.conn_core.specs.message_replies.Replying.{has_message_event}
use Rattle.serve_turns.specs.event_book.Places.{asks_in, is_asked, is_denied, is_inside}

first_true : (a b : Bool) → (a && b) ≡ true → a ≡ true
first_true true b e = refl
first_true false b e = absurd cc

second_true : (a b : Bool) → (a && b) ≡ true → b ≡ true
second_true true b e = e
second_true false b e = absurd cc

both_true : (a b : Bool) → a ≡ true → b ≡ true → (a && b) ≡ true
both_true true b e f = f
both_true false b e f = absurd cc

le_by : (a b : ℕ) → nat_le a b ≡ true → a ≤ b
le_by a b e = grind (arith, nat_tests)

by_le : (a b : ℕ) → a ≤ b → nat_le a b ≡ true
by_le a b l = grind (arith, nat_tests)

denied_by : (o : Option ℕ) → is_denied o ≡ true → IsDenied o
denied_by None e = tt
denied_by (Some status) e = grind (arith, nat_tests)

by_denied : (o : Option ℕ) → IsDenied o → is_denied o ≡ true
by_denied None d = refl
by_denied (Some status) d = ap (λ (n : ℕ). n == 0xc000_0022) d

-- what is known of it
pub record IsAsked (x : CheckedFrame) (at : ℕ) : Type 0 where
  pub message : Checked
  pub here : slice_get x.messages.items at ≡ Some message
  pub whole : message.span.start + 64 ≤ message.span.end
  pub inside : message.span.end ≤ length x.bytes.items
  pub denied : IsDenied message.fault
  pub event : has_message_event message ≡ true

pub asked_is : (x : CheckedFrame) (at : ℕ) → is_asked x at ≡ true → IsAsked x at
asked_is x at e = by_found (slice_get x.messages.items at) refl
  where
    by_found : (o : Option Checked) → slice_get x.messages.items at ≡ o → IsAsked x at
    by_found None here = absurd (let none : false ≡ true = sym (ap (λ (o : Option Checked). asks_in o (length x.bytes.items)) here) ∙ e in cc)
    by_found (Some m) here =
        let size = length x.bytes.items in
        let all : asks_in (Some m) size ≡ true = sym (ap (λ (o : Option Checked). asks_in o size) here) ∙ e in
        let within = first_true (is_inside m size) (is_denied m.fault && has_message_event m) all in
        let rest = second_true (is_inside m size) (is_denied m.fault && has_message_event m) all in
        record {
          message = m;
          here = here;
          whole = le_by (m.span.start + 64) m.span.end (first_true (nat_le (m.span.start + 64) m.span.end) (nat_le m.span.end size) within);
          inside = le_by m.span.end size (second_true (nat_le (m.span.start + 64) m.span.end) (nat_le m.span.end size) within);
          denied = denied_by m.fault (first_true (is_denied m.fault) (has_message_event m) rest);
          event = second_true (is_denied m.fault) (has_message_event m) rest;
        }

pub asked_message : (x : CheckedFrame) (at : ℕ) → is_asked x at ≡ true → HasMessage x at
asked_message x at e = let a = asked_is x at e in (a.message, a.here, a.whole, a.inside)

pub asked_by : (x : CheckedFrame) (at : ℕ) (m : Checked) → slice_get x.messages.items at ≡ Some m → HasMessage x at → IsDenied m.fault
    → has_message_event m ≡ true → is_asked x at ≡ true
asked_by x at m here has denied event =
    let size = length x.bytes.items in
    let same : has.0 ≡ m = one m has.0 (sym here ∙ has.1) in
    let whole : m.span.start + 64 ≤ m.span.end = whole_at has.0 m same has.2 in
    let inside : m.span.end ≤ size = inside_at has.0 m same has.3 in
    ap (λ (o : Option Checked). asks_in o size) here
    ∙ both_true (is_inside m size) (is_denied m.fault && has_message_event m)
    (both_true (nat_le (m.span.start + 64) m.span.end) (nat_le m.span.end size) (by_le (m.span.start + 64) m.span.end whole)
    (by_le m.span.end size inside))
    (both_true (is_denied m.fault) (has_message_event m) (by_denied m.fault denied) event)
  where
    or_this : Checked → Option Checked → Checked
    or_this d None = d
    or_this d (Some m) = m

    one : (m n : Checked) → Some m ≡ Some n → n ≡ m
    one m n e = sym (ap (λ (o : Option Checked). or_this m o) e)

    whole_at : (n m : Checked) → n ≡ m → n.span.start + 64 ≤ n.span.end → m.span.start + 64 ≤ m.span.end
    whole_at n m same l = subst (λ (q : Checked). q.span.start + 64 ≤ q.span.end) same l

    inside_at : (n m : Checked) → n ≡ m → n.span.end ≤ length x.bytes.items → m.span.end ≤ length x.bytes.items
    inside_at n m same l = subst (λ (q : Checked). q.span.end ≤ length x.bytes.items) same l
