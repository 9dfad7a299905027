-- What slots show of a client before its first session, and behind what leaves an open's slots.
use Rattle.std.proofs.Common.{◌≡◌, ℕ, ◌+◌, ◌==◌, ◌&&◌, not, Bool, true, false, if◌then◌else◌, List, [], refl, ◌∙◌, arith}
use Rattle.spec_exchange.specs.Table.{put, put2}
use Rattle.spec_exchange.specs.Status.{disk_full}
use Rattle.spec_exchange.specs.State.{Body, Reply}
use Rattle.spec_exchange.specs.Operations.{Op, Outcome, Unsettled, WasOk, WasRefused, NoSlot, NoOpen, Unknown}
use Rattle.spec_exchange.specs.Operations.{id_in, is_close, is_create, is_lock}
use Rattle.spec_exchange.specs.Client.{Client, Identity, bind_channel, create_for, cut_channel, end_session}
use Rattle.spec_exchange.specs.Client.{lacks_slot, settle_no_slot, take_op}
use Rattle.spec_exchange.specs.Settling.{answered, joined, noted, noted_full, settle, settled, settles_open, with_no_opens}
use Rattle.spec_exchange.specs.Network.{new_client}
use Rattle.client_rows.specs.declared.operation_rows.row.Row.{Row}
use Rattle.client_rows.specs.declared.operation_rows.slots.Slot.{Slot}
use Rattle.client_rows.specs.lock_slots.Shown.{IsSlotUnused, KeepsSlots, ShowsFirm, ShowsSlots}
use Rattle.client_rows.proofs.lock_slots.Showing.{pick_any}

-- ---- no slots

pub fresh : (rows : List Row) (session create : ℕ) (c : Client) → c.session_number ≡ session → ((i : ℕ) → IsSlotUnused c create i)
    → ShowsSlots rows [] session c create
fresh rows session create c number none =
    record {
      user = λ p l. absurd (omega arith);
      retried = λ p l. absurd (omega arith);
      full = λ p l. absurd (omega arith);
      firm = λ p l. absurd (omega arith);
      unused = λ p l. none (p + 1);
      number = number;
    }

pub starts : (rows : List Row) (who : Identity) (create : ℕ) → ShowsSlots rows [] 0 (new_client who) create
starts rows who create = fresh rows 0 create (new_client who) refl (λ i. (refl, refl, refl))

-- ---- what leaves them

pub keeps : (rows later : List Row) (slots : List Slot) (session create : ℕ) (c d : Client) → KeepsSlots c d create
    → ShowsFirm later slots d → ShowsSlots rows slots session c create → ShowsSlots later slots session d create
keeps rows later slots session create c d k firm h =
    record {
      user = λ p l. k.user (p + 1) ∙ h.user p l;
      retried = λ p l. k.retried (p + 1) ∙ h.retried p l;
      full = λ p l. k.full (p + 1) ∙ h.full p l;
      firm = firm;
      unused = λ p l. (
        k.user (p + 1) ∙ (h.unused p l).0,
        k.retried (p + 1) ∙ (h.unused p l).1,
        k.full (p + 1) ∙ (h.unused p l).2,
      );
      number = k.number ∙ h.number;
    }

itself : (c : Client) (create : ℕ) → KeepsSlots c c create
itself c create = record { user = λ i. refl; retried = λ i. refl; full = λ i. refl; number = refl }

pub submits : (c : Client) (g : ℕ) (op : Op) (create : ℕ) → KeepsSlots c (take_op c g op) create
submits c g op create = record { user = λ i. refl; retried = λ i. refl; full = λ i. refl; number = refl }

pub cuts : (c : Client) (k create : ℕ) → KeepsSlots c (cut_channel c k) create
cuts c k create = record { user = λ i. refl; retried = λ i. refl; full = λ i. refl; number = refl }

pub binds : (c : Client) (k create : ℕ) → KeepsSlots c (bind_channel c k) create
binds c k create = record { user = λ i. refl; retried = λ i. refl; full = λ i. refl; number = refl }

pub answers : (c : Client) (g create : ℕ) → KeepsSlots c (answered c g) create
answers c g create = record { user = λ i. refl; retried = λ i. refl; full = λ i. refl; number = refl }

pub attaches : (c : Client) (g create : ℕ) → KeepsSlots c (joined c g) create
attaches c g create = record { user = λ i. refl; retried = λ i. refl; full = λ i. refl; number = refl }

pub ends : (c : Client) (create : ℕ) → KeepsSlots c (end_session c) create
ends c create = record { user = λ i. refl; retried = λ i. refl; full = λ i. refl; number = refl }

pub slotless : (c : Client) (k g create : ℕ) → KeepsSlots c (settle_no_slot c k g) create
slotless c k g create =
    pick_any (λ (d : Client). KeepsSlots c d create) (lacks_slot c k g)
    (record c { outcome = put c.outcome g (NoSlot (create_for c g)) }) c
    (record { user = λ i. refl; retried = λ i. refl; full = λ i. refl; number = refl }) (itself c create)

-- ---- a reply: the slots are those behind what is noted of a full disk

pick_no : (P : Client → Type 0) (b : Bool) (x y : Client) → b ≡ false → P y → P (if b then x else y)
pick_no P true x y e q = absurd (let h : true ≡ false = e in cc)
pick_no P false x y e q = q

pick_both : (P : Client → Client → Type 0) (b : Bool) (x y u v : Client) → P x u → P y v → P (if b then x else y) (if b then u else v)
pick_both P true x y u v p q = p
pick_both P false x y u v p q = q

pub unfilled : (c : Client) (g : ℕ) (asking : Bool) (status create : ℕ)
    → (is_lock (c.op g) && (not asking && (status == disk_full))) ≡ false → KeepsSlots c (noted_full c g asking status) create
unfilled c g asking status create e =
    pick_no (λ (d : Client). KeepsSlots c d create) (is_lock (c.op g) && (not asking && (status == disk_full)))
    (record c { full = put2 c.full (create_for c g) (c.slot_of g) true }) c e (itself c create)

module _ (c : Client) (g create : ℕ) (asking : Bool) (status : ℕ) where
  abbrev fills : Bool
  fills = is_lock (c.op g) && (not asking && (status == disk_full))

  abbrev full_by : ℕ → ℕ → Bool
  full_by = put2 c.full (create_for c g) (c.slot_of g) true

  abbrev Alike : Client → Type 0
  Alike d = KeepsSlots (noted_full c g asking status) (noted_full d g asking status) create

  opened : (body : Body) → Alike (record c { file = put c.file g (id_in body); attached = put c.attached g c.session_number })
  opened body =
      let d : Client = record c { file = put c.file g (id_in body); attached = put c.attached g c.session_number } in
      pick_both (λ x y. KeepsSlots x y create) fills (record c { full = full_by }) c (record d { full = full_by }) d
      (record { user = λ i. refl; retried = λ i. refl; full = λ i. refl; number = refl })
      (record { user = λ i. refl; retried = λ i. refl; full = λ i. refl; number = refl })

  shut : Alike (record c { closed_ok = put c.closed_ok (create_for c g) true })
  shut =
      let d : Client = record c { closed_ok = put c.closed_ok (create_for c g) true } in
      pick_both (λ x y. KeepsSlots x y create) fills (record c { full = full_by }) c (record d { full = full_by }) d
      (record { user = λ i. refl; retried = λ i. refl; full = λ i. refl; number = refl })
      (record { user = λ i. refl; retried = λ i. refl; full = λ i. refl; number = refl })

  same : Alike c
  same = itself (noted_full c g asking status) create

  pub noted_alike : (outcome : Outcome) (body : Body) → Alike (noted c g outcome body)
  noted_alike (WasOk reply) body =
      pick_any (λ (d : Client). Alike d) (is_create (c.op g))
      (record c { file = put c.file g (id_in body); attached = put c.attached g c.session_number })
      (if is_close (c.op g) then record c { closed_ok = put c.closed_ok (create_for c g) true } else c)
      (opened body)
      (pick_any (λ (d : Client). Alike d) (is_close (c.op g))
      (record c { closed_ok = put c.closed_ok (create_for c g) true }) c shut same)
  noted_alike Unsettled body = same
  noted_alike (WasRefused s) body = same
  noted_alike (NoSlot n) body = same
  noted_alike (NoOpen n) body = same
  noted_alike (Unknown why) body = same

pub settles : (c : Client) (g : ℕ) (asking : Bool) (r : Reply) (place : ℕ) (outcome : Outcome) (create : ℕ)
    → KeepsSlots (noted_full c g asking r.status) (settle c g asking r place outcome) create
settles c g asking r place outcome create =
    let n : Client = noted_full (noted c g outcome r.body) g asking r.status in
    let k : KeepsSlots (noted_full c g asking r.status) n create = noted_alike c g create asking r.status outcome r.body in
    let d : Client = settled n g outcome place in
    pick_any (λ (x : Client). KeepsSlots (noted_full c g asking r.status) x create) (settles_open (c.op g))
    (with_no_opens d (create_for c g)) d
    (record { user = k.user; retried = k.retried; full = k.full; number = k.number })
    (record { user = k.user; retried = k.retried; full = k.full; number = k.number })
