-- What goes out leaves of the opens, in the model.
use Rattle.std.proofs.Common.{◌≡◌, ℕ, ◌==◌, Bool, true, false, if◌then◌else◌, List, Some, refl, ap, sym, ◌∙◌, arith, ◌⊎◌, inl, inr}
use Rattle.spec_exchange.specs.Table.{put, put2}
use Rattle.spec_exchange.specs.Operations.{is_lock}
use Rattle.spec_exchange.specs.Client.{Client, asked, begun, create_for, goes_itself, has_its_slot, may_push, outstanding, take_slot}
use Rattle.spec_exchange.specs.ClientStep.{itself_after, op_after}
use Rattle.law_client.proofs.table.Chosen.{in_both}
use Rattle.client_rows.proofs.operation_rows.Walking.{put_at, put_off}
use Rattle.client_rows.specs.declared.operation_rows.row.Row.{Row}
use Rattle.client_tables.specs.declared.choice.finding.Attached.{Attached}
use Rattle.client_tables.specs.declared.attached_opens.opened.Opened.{Opened}
use Rattle.client_tables.specs.attached_opens.Known.{ShowsOpened}
use Rattle.client_tables.specs.attached_opens.Opens.{KeepsOthers, ShowsAttached}
use Rattle.client_tables.proofs.attached_opens.Changed.{shown_kept}
use Rattle.client_tables.proofs.attached_opens.Known.{known_sent}

ways : (x y : ℕ) → (x ≡ y) ⊎ (x ≡ y → ⊥)
ways x y = grind arith

test_other : (x y : ℕ) → (x ≡ y → ⊥) → (x == y) ≡ false
test_other x y e = grind arith

put2_other : {X : Type 0} (f : ℕ → ℕ → X) (a b : ℕ) (v : X) (x y : ℕ) → (x ≡ a → ⊥) → put2 f a b v x y ≡ f x y
put2_other f a b v x y e = ap (λ t. if t then (if y == b then v else f x y) else f x y) (test_other x a e)

-- the client behind it, by whether it went out before and whether it is a lock
abbrev by : Bool → Bool → Client → (g i : ℕ) → Client
by sent lock c g i =
    if sent then (if lock then record c { retried = put2 c.retried (create_for c g) (c.slot_of g) c.session_number } else c)
    else (if lock then record (take_slot c g i) { sent = put c.sent g true } else record c { sent = put c.sent g true })

-- ---- one that is no lock leaves all slots

record Plain (c d : Client) : Type 0 where
  attached_is : d.attached ≡ c.attached
  user_is : d.slot_user ≡ c.slot_user
  retried_is : d.retried ≡ c.retried
  full_is : d.full ≡ c.full

plain_by : (sent lock : Bool) (c : Client) (g i : ℕ) → lock ≡ false → Plain c (by sent lock c g i)
plain_by sent true c g i e = absurd (cc)
plain_by true false c g i e = record { attached_is = refl; user_is = refl; retried_is = refl; full_is = refl }
plain_by false false c g i e = record { attached_is = refl; user_is = refl; retried_is = refl; full_is = refl }

pub plain_attached : (rows : List Row) (attached : List Attached) (c : Client) (k g i : ℕ) → is_lock (c.op g) ≡ false
    → ShowsAttached rows attached c → ShowsAttached rows attached (outstanding (begun c g i) k g)
plain_attached rows attached c k g i e s =
    let d = outstanding (begun c g i) k g in
    let w : Plain c (begun c g i) = plain_by (c.sent g) (is_lock (c.op g)) c g i e in
    shown_kept rows attached d.attached c.attached d.slot_user c.slot_user d.retried c.retried d.full c.full w.attached_is w.user_is
    w.retried_is w.full_is s

-- ---- all leave the other opens, and no open is attached or forgotten

abbrev Others : Client → Client → ℕ → Type 0
Others c d x = KeepsOthers x c.attached d.attached c.slot_user d.slot_user c.retried d.retried c.full d.full

others_by : (sent lock : Bool) (c : Client) (g i : ℕ) → Others c (by sent lock c g i) (create_for c g)
others_by true true c g i =
    record {
      session_is = λ y e. refl;
      user_is = λ y e j. refl;
      retried_is = λ y e j. put2_other c.retried (create_for c g) (c.slot_of g) c.session_number y j e;
      full_is = λ y e j. refl;
    }
others_by true false c g i =
    record { session_is = λ y e. refl; user_is = λ y e j. refl; retried_is = λ y e j. refl; full_is = λ y e j. refl }
others_by false true c g i =
    record {
      session_is = λ y e. refl;
      user_is = λ y e j. put2_other c.slot_user (create_for c g) i (Some g) y j e;
      retried_is = λ y e j. refl;
      full_is = λ y e j. refl;
    }
others_by false false c g i =
    record { session_is = λ y e. refl; user_is = λ y e j. refl; retried_is = λ y e j. refl; full_is = λ y e j. refl }

pub begun_others : (c : Client) (k g i : ℕ)
    → KeepsOthers (create_for c g) c.attached (outstanding (begun c g i) k g).attached c.slot_user
    (outstanding (begun c g i) k g).slot_user c.retried (outstanding (begun c g i) k g).retried c.full
    (outstanding (begun c g i) k g).full
begun_others c k g i =
    let w : Others c (begun c g i) (create_for c g) = others_by (c.sent g) (is_lock (c.op g)) c g i in
    record { session_is = w.session_is; user_is = w.user_is; retried_is = w.retried_is; full_is = w.full_is }

attached_by : (sent lock : Bool) (c : Client) (g i x : ℕ) → (by sent lock c g i).attached x ≡ c.attached x
attached_by true true c g i x = refl
attached_by true false c g i x = refl
attached_by false true c g i x = refl
attached_by false false c g i x = refl

pub begun_attached : (c : Client) (k g i x : ℕ) → (outstanding (begun c g i) k g).attached x ≡ c.attached x
begun_attached c k g i x = attached_by (c.sent g) (is_lock (c.op g)) c g i x

-- ---- what is known of opens

clash : (b : Bool) → b ≡ true → b ≡ false → ⊥
clash b e f = absurd (cc)

unsent_there : (c : Client) (g x : ℕ) → put c.sent g true x ≡ false → (x ≡ g → ⊥) × (c.sent x ≡ false)
unsent_there c g x e =
    elim (ways x g) as (λ _. (x ≡ g → ⊥) × (c.sent x ≡ false)) [
      | inl q ↦ absurd (clash (put c.sent g true x) (put_at c.sent g true x q) e)
      | inr q ↦ (q, sym (put_off c.sent g true x q) ∙ e)
    ]

known_by : (sent lock : Bool) (rows : List Row) (opened : List Opened) (c : Client) (g i : ℕ) → ShowsOpened rows opened c
    → ShowsOpened rows opened (by sent lock c g i)
known_by true true rows opened c g i s = s
known_by true false rows opened c g i s = s
known_by false true rows opened c g i s =
    known_sent rows opened c.op c.file c.closed_ok (put c.sent g true) c.sent (put c.slot_of g i) c.slot_of
    (λ x e. (let w = unsent_there c g x e in (w.1, put_off c.slot_of g i x w.0))) s
known_by false false rows opened c g i s =
    known_sent rows opened c.op c.file c.closed_ok (put c.sent g true) c.sent c.slot_of c.slot_of
    (λ x e. ((unsent_there c g x e).1, refl)) s

pub known_after : (rows : List Row) (opened : List Opened) (c : Client) (k g i : ℕ) → ShowsOpened rows opened c
    → ShowsOpened rows opened (op_after c k g i)
known_after rows opened c k g i s =
    in_both (λ z. ShowsOpened rows opened z) (may_push c k g) (if goes_itself c g then itself_after c k g i else asked c k g) c
    (λ e. in_both (λ z. ShowsOpened rows opened z) (goes_itself c g) (itself_after c k g i) (asked c k g)
    (λ q. in_both (λ z. ShowsOpened rows opened z) (has_its_slot c g i) (outstanding (begun c g i) k g) c
    (λ t. known_by (c.sent g) (is_lock (c.op g)) rows opened c g i s) (λ t. s)) (λ q. s)) (λ e. s)
