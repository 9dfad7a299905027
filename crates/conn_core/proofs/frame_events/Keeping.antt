-- What a message that takes over ids keeps.
use Rattle.std.proofs.Common.{◌≡◌, ℕ, ◌+◌, ◌==◌, ◌≤◌, Bool, true, false, if◌then◌else◌, List}
use Rattle.std.proofs.Common.{length, Option, Some, None, refl, sym, ap, subst, ◌∙◌}
use Rattle.std.proofs.Common.{arith, not, ◌||◌, eqb-true}
use Rattle.std.specs.Prelude.{is_some}
use Rattle.spec_wire.specs.declared.messages.header.Header.{Header}
use Rattle.spec_wire.specs.declared.messages.header.Span.{Span}
use Rattle.spec_world.specs.Hearing as hearing
use Rattle.spec_world.specs.Related.{Carry, Turn, Goes, Fails, turn_of, failed_as, can_follow, file_place, with_file, with_file_at, with_ids}
use Rattle.conn_core.specs.declared.frame_messages.checked.Checked.{Checked}
use Rattle.conn_core.specs.frame_messages.Checking.{IsDenied, ShowsGoing, message_in}
use Rattle.conn_core.specs.related.Carrying.{Inherits, IsCarried}

pub record Keeps (c t : hearing.Checked) : Type 0 where
  pub raw : t.raw ≡ c.raw
  pub related : t.related ≡ c.related
  pub command : t.header.command ≡ c.header.command
  pub fault : t.fault ≡ c.fault
  pub bytes : file_place c.header.command ≡ None → t.bytes ≡ c.bytes

none_put : (n : ℕ) (file m : List ℕ) → file_place n ≡ None → with_file n file m ≡ m
unfolding with_file
none_put n file m e = ap (λ (o : Option ℕ). with_file_at o file m) e

turned : hearing.Checked → Turn → hearing.Checked
turned d (Goes c) = c
turned d (Fails status) = d

same_keeps : (c t : hearing.Checked) → c ≡ t → Keeps c t
same_keeps c t e = record {
  raw = sym (ap (λ (x : hearing.Checked). x.raw) e);
  related = sym (ap (λ (x : hearing.Checked). x.related) e);
  command = sym (ap (λ (x : hearing.Checked). x.header.command) e);
  fault = sym (ap (λ (x : hearing.Checked). x.fault) e);
  bytes = λ none. sym (ap (λ (x : hearing.Checked). x.bytes) e);
}

keeps_by : (b e : Bool) (y : Carry) (c t : hearing.Checked)
    → (if b then (if e then Goes (with_ids c y) else Fails y.status) else Goes c) ≡ Goes t → Keeps c t
unfolding turned
keeps_by true true y c t q =
    let same : with_ids c y ≡ t = ap (λ (x : Turn). turned c x) q in
    record {
      raw = sym (ap (λ (x : hearing.Checked). x.raw) same);
      related = sym (ap (λ (x : hearing.Checked). x.related) same);
      command = sym (ap (λ (x : hearing.Checked). x.header.command) same);
      fault = sym (ap (λ (x : hearing.Checked). x.fault) same);
      bytes = λ none. sym (ap (λ (x : hearing.Checked). x.bytes) same) ∙ none_put c.header.command y.file c.bytes none;
    }
keeps_by true false y c t q = absurd cc
keeps_by false e y c t q = same_keeps c t (ap (λ (x : Turn). turned c x) q)

pub goes_keeps : (o : Option Carry) (c t : hearing.Checked) → turn_of o c ≡ Goes t → Keeps c t
unfolding turned
goes_keeps None c t e = same_keeps c t (ap (λ (x : Turn). turned c x) e)
goes_keeps (Some y) c t e = keeps_by c.related (can_follow c y) y c t e

-- ---- what fails with a CREATE is no CANCEL

unnamed_follows : (b named succeeded : Bool) (y : Carry) (c : hearing.Checked) (status : ℕ)
    → (if b then (if not named || succeeded then Goes (with_ids c y) else Fails y.status) else Goes c) ≡ Fails status → named ≡ true
unnamed_follows true true succeeded y c status e = refl
unnamed_follows true false succeeded y c status e = absurd cc
unnamed_follows false named succeeded y c status e = absurd cc

cancel_unnamed : (n : ℕ) (b : Bool) → (n == 12) ≡ b → is_some (file_place n) ≡ true → b ≡ false
unfolding file_place
cancel_unnamed n false is named = refl
cancel_unnamed n true is named =
    let clash : false ≡ true = subst (λ (k : ℕ). is_some (file_place k) ≡ true) (eqb-true n 12 is) named in
    absurd cc

pub fails_no_cancel : (o : Option Carry) (c : hearing.Checked) (status : ℕ) → turn_of o c ≡ Fails status
    → hearing.is_cancel c.header ≡ false
fails_no_cancel None c status e = absurd cc
fails_no_cancel (Some y) c status e =
    cancel_unnamed c.header.command (c.header.command == 12) refl
    (unnamed_follows c.related (is_some (file_place c.header.command)) (y.status == 0) y c status e)

pub failed_keeps : (o : Option Carry) (c : hearing.Checked) → Keeps c (failed_as o c)
failed_keeps None c = same_keeps c c refl
failed_keeps (Some y) c = record { raw = refl; related = refl; command = refl; fault = refl; bytes = λ none. refl }

pub shows_new : (old new : List ℕ) (m n : Checked) (c t : hearing.Checked) → ShowsGoing old m c → Keeps c t
    → IsCarried n (message_in new n) t → n.span ≡ m.span → n.related ≡ m.related → length new ≡ length old → ShowsGoing new n t
shows_new old new m n c t shows keeps is span related long =
    let start : n.span.start ≡ m.span.start = ap (λ (p : Span). p.start) span in
    let end : n.span.end ≡ m.span.end = ap (λ (p : Span). p.end) span in
    let whole : m.span.start + 64 ≤ m.span.end = shows.whole in
    let inside : m.span.end ≤ length old = shows.inside in
    let mine : n.header.command ≡ c.header.command = sym (ap (λ (h : Header). h.command) is.header) ∙ keeps.command in
    let its : c.header.command ≡ m.header.command = ap (λ (h : Header). h.command) shows.header in
    let fault : n.fault ≡ m.fault = sym is.fault ∙ (keeps.fault ∙ shows.fault) in
    record {
      whole = omega (arith, start, end, whole);
      inside = omega (arith, end, inside, long);
      header = is.header;
      bytes_are = is.bytes_are;
      raw = λ none.
          let there : file_place c.header.command ≡ None = sym (ap (λ (k : ℕ). file_place k) mine) ∙ none in
          let here : file_place m.header.command ≡ None = sym (ap (λ (k : ℕ). file_place k) its) ∙ there in
          keeps.raw ∙ (shows.raw here ∙ (sym shows.bytes_are ∙ (sym (keeps.bytes there) ∙ is.bytes_are)));
      related = keeps.related ∙ (shows.related ∙ sym related);
      fault = is.fault;
      denied = subst (λ (o : Option ℕ). IsDenied o) (sym fault) shows.denied;
    }

pub goes_as : (o : Turn) (failed : hearing.Checked) (n : Checked) (bytes : List ℕ) → Inherits o true failed n bytes
    → (t : hearing.Checked) × (o ≡ Goes t) × IsCarried n bytes t × (n.fails ≡ None)
goes_as (Goes t) failed n bytes p = (t, refl, p.0, p.1)
goes_as (Fails status) failed n bytes p = absurd p

pub fails_as : (o : Turn) (failed : hearing.Checked) (n : Checked) (bytes : List ℕ) → Inherits o false failed n bytes
    → (status : ℕ) × (o ≡ Fails status) × IsCarried n bytes failed × (n.fails ≡ Some status)
fails_as (Goes t) failed n bytes p = absurd p
fails_as (Fails status) failed n bytes p = (status, refl, p.0, p.1)

status_of : Turn → ℕ
status_of (Goes c) = 1
status_of (Fails status) = status

no_success_by : (b : Bool) (y : Carry) (c : hearing.Checked) (k : ℕ) (a e : Bool) → (y.status == 0) ≡ e
    → (if b then (if a || e then Goes (with_ids c y) else Fails y.status) else Goes c) ≡ Fails k → k ≡ 0 → ⊥
unfolding status_of
no_success_by true y c k true e tested q zero = absurd cc
no_success_by true y c k false true tested q zero = absurd cc
no_success_by true y c k false false tested q zero =
    let same : y.status ≡ 0 = ap (λ (x : Turn). status_of x) q ∙ zero in
    let yes : (y.status == 0) ≡ true = ap (λ (n : ℕ). n == 0) same in
    apart (sym yes ∙ tested)
  where
    apart : true ≡ false → ⊥
    apart e = absurd cc
no_success_by false y c k a e tested q zero = absurd cc

-- it fails with no success
pub no_success : (o : Option Carry) (c : hearing.Checked) (k : ℕ) → turn_of o c ≡ Fails k → k ≡ 0 → ⊥
no_success None c k e zero = absurd cc
no_success (Some y) c k e zero =
    no_success_by c.related y c k (not (is_some (file_place c.header.command))) (y.status == 0) refl e zero
