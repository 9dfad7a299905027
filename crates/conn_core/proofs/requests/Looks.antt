-- A message of a frame as it is looked at, and what it shows.
use Rattle.std.proofs.Common.{◌≡◌, ℕ, ◌==◌, true, List, Some, None, slice_get, sym, ap, subst, ◌∙◌}
use Rattle.spec_wire.specs.declared.messages.header.Header.{Header}
use Rattle.spec_world.specs.Hearing as hearing
use Rattle.spec_world.specs.Related.{file_place}
use Rattle.conn_core.specs.declared.frame_messages.checked.Checked.{Checked}
use Rattle.conn_core.specs.declared.frame_messages.checked.CheckedFrame.{CheckedFrame}
use Rattle.conn_core.specs.frame_messages.Checking.{ShowsGoing, IsDenied, message_in}
use Rattle.conn_core.proofs.frame_messages.Headers.{one_number}
use Rattle.conn_core.specs.related.Carrying.{IsCarried}
use Rattle.conn_core.proofs.related.Inherited.{some_same}
use Rattle.conn_core.proofs.requests.Found.{none_named}

pub is_it : (x : CheckedFrame) (at : ℕ) (a m : Checked) → slice_get x.messages.items at ≡ Some a → slice_get x.messages.items at ≡ Some m
    → a ≡ m
is_it x at a m e f = some_same a m (sym e ∙ f)

pub as_carried : (bytes : List ℕ) (m a : Checked) (b : List ℕ) (k : hearing.Checked) → a ≡ m → b ≡ message_in bytes m
    → ShowsGoing bytes m k → IsCarried a b k
as_carried bytes m a b k e f shows = record {
  header = shows.header ∙ sym (ap (λ (x : Checked). x.header) e);
  bytes_are = shows.bytes_are ∙ sym f;
  fault = shows.fault ∙ sym (ap (λ (x : Checked). x.fault) e);
  related = shows.related ∙ sym (ap (λ (x : Checked). x.related) e);
}

pub as_heard : (bytes : List ℕ) (m a : Checked) (b : List ℕ) (k : hearing.Checked) → a ≡ m → b ≡ message_in bytes m
    → ShowsGoing bytes m k → file_place a.header.command ≡ None → k.raw ≡ b
as_heard bytes m a b k e f shows none =
    shows.raw (sym (ap (λ (x : Checked). file_place x.header.command) e) ∙ none) ∙ sym f

pub as_denied : (bytes : List ℕ) (m a : Checked) (k : hearing.Checked) → a ≡ m → ShowsGoing bytes m k → IsDenied a.fault
as_denied bytes m a k e shows = subst (λ (x : Checked). IsDenied x.fault) (sym e) shows.denied

pub no_setup : (bytes : List ℕ) (a m : Checked) (k : hearing.Checked) → a ≡ m → ShowsGoing bytes m k → (a.header.command ≡ 1 → ⊥)
    → hearing.is_setup k.header ≡ true → ⊥
no_setup bytes a m k e shows off setup =
    off (one_number a.header.command 1 (ap (λ (x : Checked). x.header.command == 1) e
    ∙ (sym (ap (λ (h : Header). h.command == 1) shows.header) ∙ setup)))

pub setup_raw : (bytes : List ℕ) (a m : Checked) (k : hearing.Checked) → a ≡ m → ShowsGoing bytes m k → a.header.command ≡ 1
    → k.raw ≡ message_in bytes m
setup_raw bytes a m k e shows on =
    let number : m.header.command ≡ 1 = sym (ap (λ (x : Checked). x.header.command) e) ∙ on in
    shows.raw (none_named m.header.command number)
