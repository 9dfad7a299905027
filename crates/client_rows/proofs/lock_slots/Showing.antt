-- What slots show behind each change.
use Rattle.std.proofs.Common.{◌≡◌, ℕ, ◌+◌, ◌-◌, ◌%◌, ◌<◌, ◌≤◌, ◌==◌, ◌&&◌, not, Bool, true, false, if◌then◌else◌, List, [], ◌∷◌}
use Rattle.std.proofs.Common.{◌++◌, length}
use Rattle.std.proofs.Common.{set, refl, ap, sym, ◌∙◌, arith, subst, ◌⊎◌, inl, inr, Option, Some, length-append}
use Rattle.std.proofs.Math.ListN.{length-set}
use Rattle.spec_exchange.specs.Table.{put2}
use Rattle.spec_exchange.specs.Status.{disk_full}
use Rattle.spec_exchange.specs.Operations.{is_firm, is_lock}
use Rattle.spec_exchange.specs.Client.{Client, again, begin_session, create_for, next_number, take_slot}
use Rattle.spec_exchange.specs.Settling.{noted_full}
use Rattle.client_rows.specs.declared.operation_rows.row.Row.{Row}
use Rattle.client_rows.specs.declared.operation_rows.slots.Slot.{Slot}
use Rattle.client_rows.specs.operation_rows.Rows.{row_at}
use Rattle.client_rows.specs.operation_rows.Slots.{slot_at}
use Rattle.client_rows.specs.lock_slots.Shown.{HaveRows, ShowsSlots}
use Rattle.client_rows.proofs.lock_slots.Tables.{below_or_last, is_there, not_last, pushed_below, pushed_last, put2_at}
use Rattle.client_rows.proofs.lock_slots.Tables.{put2_other, put2_past}
use Rattle.client_rows.proofs.lock_slots.Tables.{set_at, set_past}

past_place : (p place n : ℕ) → place < n → n ≤ p → p + 1 ≡ place + 1 → ⊥
past_place p place n l k e = omega arith

past_end : (p n : ℕ) → n + 1 ≤ p → p + 1 ≡ n + 1 → ⊥
past_end p n l e = omega arith

module _ (rows : List Row) (slots : List Slot) (session : ℕ) (c : Client) where
  -- ---- a slot that was used before

  module _ (g place : ℕ) (l : place < length slots) (h : ShowsSlots rows slots session c (create_for c g)) where
    abbrev used : List Slot
    used = set slots place (record (slot_at slots place) { user = g })

    abbrev user_at : ℕ → ℕ
    user_at p = (slot_at used p).user

    same_at : (p : ℕ) → (slot_at used p).retried ≡ (slot_at slots p).retried × (slot_at used p).full ≡ (slot_at slots p).full
    same_at p =
        elim (is_there p place)
        as (λ _. (slot_at used p).retried ≡ (slot_at slots p).retried × (slot_at used p).full ≡ (slot_at slots p).full) [
          | inl e ↦ subst (λ q. (slot_at used q).retried ≡ (slot_at slots q).retried
              × (slot_at used q).full ≡ (slot_at slots q).full) (sym e) (
                ap (λ (s : Slot). s.retried) (set_at slots place (record (slot_at slots place) { user = g }) l),
                ap (λ (s : Slot). s.full) (set_at slots place (record (slot_at slots place) { user = g }) l),
              )
          | inr n ↦ (
            ap (λ (s : Slot). s.retried) (set_past slots place p (record (slot_at slots place) { user = g }) n),
            ap (λ (s : Slot). s.full) (set_past slots place p (record (slot_at slots place) { user = g }) n),
          )
        ]

    at_place : (p : ℕ) → p ≡ place → user_at p ≡ g
    at_place p e = subst (λ q. user_at q ≡ g) (sym e) (ap (λ (s : Slot). s.user)
        (set_at slots place (record (slot_at slots place) { user = g }) l))

    past : (p : ℕ) → (p + 1 ≡ place + 1 → ⊥) → user_at p ≡ (slot_at slots p).user
    past p n = ap (λ (s : Slot). s.user) (set_past slots place p (record (slot_at slots place) { user = g }) n)

    abbrev user_in : ℕ → Option ℕ
    user_in i = (take_slot c g (place + 1)).slot_user (create_for c g) i

    user_here : (p : ℕ) → p ≡ place → user_in (p + 1) ≡ Some (user_at p)
    user_here p e =
        subst (λ q. user_in (q + 1) ≡ Some (user_at q)) (sym e)
        (put2_at c.slot_user (create_for c g) (place + 1) (Some g) ∙ ap (λ u. Some u) (sym (at_place place refl)))

    user_there : (p : ℕ) → (p + 1 ≡ place + 1 → ⊥) → c.slot_user (create_for c g) (p + 1) ≡ Some (slot_at slots p).user
        → user_in (p + 1) ≡ Some (user_at p)
    user_there p n e =
        put2_past c.slot_user (create_for c g) (place + 1) (p + 1) (Some g) n ∙ e ∙ ap (λ u. Some u) (sym (past p n))

    pub shows_used : is_firm (c.outcome g) ≡ (row_at rows g).firm
        → ShowsSlots rows used session (take_slot c g (place + 1)) (create_for c g)
    shows_used firm =
        let z = length-set slots place (record (slot_at slots place) { user = g }) in
        record {
          user = λ p k. elim (is_there p place) as (λ _. user_in (p + 1) ≡ Some (user_at p)) [
            | inl e ↦ user_here p e
            | inr n ↦ user_there p n (h.user p (omega arith))
          ];
          retried = λ p k. h.retried p (omega arith) ∙ sym (same_at p).0;
          full = λ p k. h.full p (omega arith) ∙ sym (same_at p).1;
          firm = λ p k. elim (is_there p place) as (λ _. is_firm (c.outcome (user_at p)) ≡ (row_at rows (user_at p)).firm) [
            | inl e ↦ subst (λ u. is_firm (c.outcome u) ≡ (row_at rows u).firm) (sym (at_place p e)) firm
            | inr n ↦ subst (λ u. is_firm (c.outcome u) ≡ (row_at rows u).firm) (sym (past p n)) (h.firm p (omega arith))
          ];
          unused = λ p k. (
            put2_past c.slot_user (create_for c g) (place + 1) (p + 1) (Some g) (past_place p place (length slots) l (omega arith))
                ∙ (h.unused p (omega arith)).0,
            (h.unused p (omega arith)).1,
            (h.unused p (omega arith)).2,
          );
          number = h.number;
        }

  -- ---- a slot more

  module _ (g : ℕ) (h : ShowsSlots rows slots session c (create_for c g)) where
    abbrev fresh : Slot
    fresh = record { user = g; retried = 0; full = false }

    abbrev more : List Slot
    more = slots ++ fresh ∷ []

    abbrev user_with : ℕ → Option ℕ
    user_with i = (take_slot c g (length slots + 1)).slot_user (create_for c g) i

    last_is : (p : ℕ) → p ≡ length slots → slot_at more p ≡ fresh
    last_is p e = subst (λ q. slot_at more q ≡ fresh) (sym e) (pushed_last slots fresh)

    user_last : (p : ℕ) → p ≡ length slots → user_with (p + 1) ≡ Some (slot_at more p).user
    user_last p e =
        subst (λ q. user_with (q + 1) ≡ Some (slot_at more q).user) (sym e)
        (put2_at c.slot_user (create_for c g) (length slots + 1) (Some g)
        ∙ ap (λ (s : Slot). Some s.user) (sym (pushed_last slots fresh)))

    user_below : (p : ℕ) → p < length slots → user_with (p + 1) ≡ Some (slot_at more p).user
    user_below p k =
        put2_past c.slot_user (create_for c g) (length slots + 1) (p + 1) (Some g) (not_last p (length slots) k)
        ∙ h.user p k ∙ ap (λ (s : Slot). Some s.user) (sym (pushed_below slots fresh p k))

    retried_last : (p : ℕ) → p ≡ length slots → c.retried (create_for c g) (p + 1) ≡ (slot_at more p).retried
    retried_last p e = (h.unused p (omega arith)).1 ∙ sym (ap (λ (s : Slot). s.retried) (last_is p e))

    full_last : (p : ℕ) → p ≡ length slots → c.full (create_for c g) (p + 1) ≡ (slot_at more p).full
    full_last p e = (h.unused p (omega arith)).2 ∙ sym (ap (λ (s : Slot). s.full) (last_is p e))

    within : (p : ℕ) → p < length more → (p < length slots) ⊎ (p ≡ length slots)
    within p k = below_or_last p (length slots) (let z = length-append slots (fresh ∷ []) in omega arith)

    pub shows_more : is_firm (c.outcome g) ≡ (row_at rows g).firm
        → ShowsSlots rows more session (take_slot c g (length slots + 1)) (create_for c g)
    shows_more firm =
        let z = length-append slots (fresh ∷ []) in
        record {
          user = λ p k. elim (within p k) as (λ _. user_with (p + 1) ≡ Some (slot_at more p).user) [
            | inl b ↦ user_below p b
            | inr e ↦ user_last p e
          ];
          retried = λ p k. elim (within p k) as (λ _. c.retried (create_for c g) (p + 1) ≡ (slot_at more p).retried) [
            | inl b ↦ h.retried p b ∙ sym (ap (λ (s : Slot). s.retried) (pushed_below slots fresh p b))
            | inr e ↦ retried_last p e
          ];
          full = λ p k. elim (within p k) as (λ _. c.full (create_for c g) (p + 1) ≡ (slot_at more p).full) [
            | inl b ↦ h.full p b ∙ sym (ap (λ (s : Slot). s.full) (pushed_below slots fresh p b))
            | inr e ↦ full_last p e
          ];
          firm = λ p k. elim (within p k)
              as (λ _. is_firm (c.outcome (slot_at more p).user) ≡ (row_at rows (slot_at more p).user).firm) [
                | inl b ↦ subst (λ (s : Slot). is_firm (c.outcome s.user) ≡ (row_at rows s.user).firm)
                    (sym (pushed_below slots fresh p b)) (h.firm p b)
                | inr e ↦ subst (λ (s : Slot). is_firm (c.outcome s.user) ≡ (row_at rows s.user).firm)
                    (sym (last_is p e)) firm
              ];
          unused = λ p k. (
            put2_past c.slot_user (create_for c g) (length slots + 1) (p + 1) (Some g) (past_end p (length slots) (omega arith))
                ∙ (h.unused p (omega arith)).0,
            (h.unused p (omega arith)).1,
            (h.unused p (omega arith)).2,
          );
          number = h.number;
        }

  -- ---- a lock goes out again

  module _ (g place : ℕ) (l : place < length slots) (h : ShowsSlots rows slots session c (create_for c g)) where
    abbrev again_slot : Slot
    again_slot = record (slot_at slots place) { retried = session }

    abbrev tried : List Slot
    tried = set slots place again_slot

    abbrev retried_by : Client
    retried_by = record c { retried = put2 c.retried (create_for c g) (place + 1) c.session_number }

    keeps_user : (p : ℕ) → (slot_at tried p).user ≡ (slot_at slots p).user
    keeps_user p =
        elim (is_there p place) as (λ _. (slot_at tried p).user ≡ (slot_at slots p).user) [
          | inl e ↦ subst (λ q. (slot_at tried q).user ≡ (slot_at slots q).user) (sym e)
              (ap (λ (s : Slot). s.user) (set_at slots place again_slot l))
          | inr n ↦ ap (λ (s : Slot). s.user) (set_past slots place p again_slot n)
        ]

    keeps_full : (p : ℕ) → (slot_at tried p).full ≡ (slot_at slots p).full
    keeps_full p =
        elim (is_there p place) as (λ _. (slot_at tried p).full ≡ (slot_at slots p).full) [
          | inl e ↦ subst (λ q. (slot_at tried q).full ≡ (slot_at slots q).full) (sym e)
              (ap (λ (s : Slot). s.full) (set_at slots place again_slot l))
          | inr n ↦ ap (λ (s : Slot). s.full) (set_past slots place p again_slot n)
        ]

    tried_at : (p : ℕ) → p < length slots → retried_by.retried (create_for c g) (p + 1) ≡ (slot_at tried p).retried
    tried_at p k =
        elim (is_there p place) as (λ _. retried_by.retried (create_for c g) (p + 1) ≡ (slot_at tried p).retried) [
          | inl e ↦ subst (λ q. retried_by.retried (create_for c g) (q + 1) ≡ (slot_at tried q).retried) (sym e)
              (put2_at c.retried (create_for c g) (place + 1) c.session_number ∙ h.number
              ∙ sym (ap (λ (s : Slot). s.retried) (set_at slots place again_slot l)))
          | inr n ↦ put2_past c.retried (create_for c g) (place + 1) (p + 1) c.session_number n ∙ h.retried p k
              ∙ sym (ap (λ (s : Slot). s.retried) (set_past slots place p again_slot n))
        ]

    pub shows_tried : ShowsSlots rows tried session retried_by (create_for c g)
    shows_tried =
        let z = length-set slots place again_slot in
        record {
          user = λ p k. h.user p (omega arith) ∙ ap (λ u. Some u) (sym (keeps_user p));
          retried = λ p k. tried_at p (omega arith);
          full = λ p k. h.full p (omega arith) ∙ sym (keeps_full p);
          firm = λ p k. subst (λ u. is_firm (c.outcome u) ≡ (row_at rows u).firm) (sym (keeps_user p)) (h.firm p (omega arith));
          unused = λ p k. (
            (h.unused p (omega arith)).0,
            put2_past c.retried (create_for c g) (place + 1) (p + 1) c.session_number
                (past_place p place (length slots) l (omega arith)) ∙ (h.unused p (omega arith)).1,
            (h.unused p (omega arith)).2,
          );
          number = h.number;
        }

  -- ---- a lock meets DISK_FULL

  module _ (g place : ℕ) (l : place < length slots) (h : ShowsSlots rows slots session c (create_for c g)) where
    abbrev full_slot : Slot
    full_slot = record (slot_at slots place) { full = true }

    abbrev filled : List Slot
    filled = set slots place full_slot

    abbrev filled_by : Client
    filled_by = record c { full = put2 c.full (create_for c g) (place + 1) true }

    stays_user : (p : ℕ) → (slot_at filled p).user ≡ (slot_at slots p).user
    stays_user p =
        elim (is_there p place) as (λ _. (slot_at filled p).user ≡ (slot_at slots p).user) [
          | inl e ↦ subst (λ q. (slot_at filled q).user ≡ (slot_at slots q).user) (sym e)
              (ap (λ (s : Slot). s.user) (set_at slots place full_slot l))
          | inr n ↦ ap (λ (s : Slot). s.user) (set_past slots place p full_slot n)
        ]

    stays_retried : (p : ℕ) → (slot_at filled p).retried ≡ (slot_at slots p).retried
    stays_retried p =
        elim (is_there p place) as (λ _. (slot_at filled p).retried ≡ (slot_at slots p).retried) [
          | inl e ↦ subst (λ q. (slot_at filled q).retried ≡ (slot_at slots q).retried) (sym e)
              (ap (λ (s : Slot). s.retried) (set_at slots place full_slot l))
          | inr n ↦ ap (λ (s : Slot). s.retried) (set_past slots place p full_slot n)
        ]

    full_at : (p : ℕ) → p < length slots → filled_by.full (create_for c g) (p + 1) ≡ (slot_at filled p).full
    full_at p k =
        elim (is_there p place) as (λ _. filled_by.full (create_for c g) (p + 1) ≡ (slot_at filled p).full) [
          | inl e ↦ subst (λ q. filled_by.full (create_for c g) (q + 1) ≡ (slot_at filled q).full) (sym e)
              (put2_at c.full (create_for c g) (place + 1) true ∙ sym (ap (λ (s : Slot). s.full) (set_at slots place full_slot l)))
          | inr n ↦ put2_past c.full (create_for c g) (place + 1) (p + 1) true n ∙ h.full p k
              ∙ sym (ap (λ (s : Slot). s.full) (set_past slots place p full_slot n))
        ]

    pub shows_filled : ShowsSlots rows filled session filled_by (create_for c g)
    shows_filled =
        let z = length-set slots place full_slot in
        record {
          user = λ p k. h.user p (omega arith) ∙ ap (λ u. Some u) (sym (stays_user p));
          retried = λ p k. h.retried p (omega arith) ∙ sym (stays_retried p);
          full = λ p k. full_at p (omega arith);
          firm = λ p k. subst (λ u. is_firm (c.outcome u) ≡ (row_at rows u).firm) (sym (stays_user p)) (h.firm p (omega arith));
          unused = λ p k. (
            (h.unused p (omega arith)).0,
            (h.unused p (omega arith)).1,
            put2_past c.full (create_for c g) (place + 1) (p + 1) true
                (past_place p place (length slots) l (omega arith)) ∙ (h.unused p (omega arith)).2,
          );
          number = h.number;
        }

-- ---- by the model's steps

pick_yes : (P : Client → Type 0) (b : Bool) (x y : Client) → b ≡ true → P x → P (if b then x else y)
pick_yes P true x y e p = p
pick_yes P false x y e p = absurd (cc)

pub pick_any : (P : Client → Type 0) (b : Bool) (x y : Client) → P x → P y → P (if b then x else y)
pick_any P true x y p q = p
pick_any P false x y p q = q

back_to : (slot : ℕ) → 0 < slot → slot ≡ (slot - 1) + 1
back_to slot l = omega arith

module _ (rows : List Row) (slots : List Slot) (session : ℕ) (c : Client) where
  pub used_at : (g slot : ℕ) → 0 < slot → slot - 1 < length slots → is_firm (c.outcome g) ≡ (row_at rows g).firm
      → ShowsSlots rows slots session c (create_for c g)
      → ShowsSlots rows (set slots (slot - 1) (record (slot_at slots (slot - 1)) { user = g })) session (take_slot c g slot)
      (create_for c g)
  used_at g slot a l firm h =
      subst (λ i. ShowsSlots rows (set slots (slot - 1) (record (slot_at slots (slot - 1)) { user = g })) session
      (take_slot c g i) (create_for c g)) (sym (back_to slot a)) (shows_used rows slots session c g (slot - 1) l h firm)

  pub number_used : (create slot : ℕ) → 0 < slot → slot - 1 < length slots → ShowsSlots rows slots session c create
      → ((h : ℕ) → c.number_of h ≡ (row_at rows h).slot_number)
      → ((row_at rows (slot_at slots (slot - 1)).user).slot_number + 1) % 16 ≡ next_number c (c.slot_user create slot)
  number_used create slot a l h numbers =
      sym (ap (λ u. next_number c u) (ap (λ i. c.slot_user create i) (back_to slot a) ∙ h.user (slot - 1) l)
      ∙ ap (λ n. (n + 1) % 16) (numbers (slot_at slots (slot - 1)).user))

  pub number_more : (create : ℕ) → ShowsSlots rows slots session c create
      → next_number c (c.slot_user create (length slots + 1)) ≡ 0
  number_more create h = ap (λ u. next_number c u) (h.unused (length slots) (omega arith)).0

  pub tried_by : (g slot : ℕ) → 0 < slot → slot ≤ length slots → is_lock (c.op g) ≡ true → c.slot_of g ≡ slot
      → ShowsSlots rows slots session c (create_for c g)
      → ShowsSlots rows (set slots (slot - 1) (record (slot_at slots (slot - 1)) { retried = session })) session (again c g)
      (create_for c g)
  tried_by g slot a l lock at h =
      pick_yes (λ (d : Client). ShowsSlots rows (set slots (slot - 1) (record (slot_at slots (slot - 1)) { retried = session }))
      session d (create_for c g)) (is_lock (c.op g))
      (record c { retried = put2 c.retried (create_for c g) (c.slot_of g) c.session_number }) c lock
      (subst (λ i. ShowsSlots rows (set slots (slot - 1) (record (slot_at slots (slot - 1)) { retried = session })) session
      (record c { retried = put2 c.retried (create_for c g) i c.session_number }) (create_for c g)) (sym (at ∙ back_to slot a))
      (shows_tried rows slots session c g (slot - 1) (omega arith) h))

  pub filled_full : (g slot : ℕ) → 0 < slot → slot ≤ length slots → is_lock (c.op g) ≡ true → c.slot_of g ≡ slot
      → ShowsSlots rows slots session c (create_for c g)
      → ShowsSlots rows (set slots (slot - 1) (record (slot_at slots (slot - 1)) { full = true })) session
      (noted_full c g false disk_full) (create_for c g)
  filled_full g slot a l lock at h =
      pick_yes (λ (d : Client). ShowsSlots rows (set slots (slot - 1) (record (slot_at slots (slot - 1)) { full = true }))
      session d (create_for c g)) (is_lock (c.op g) && (not false && (disk_full == disk_full)))
      (record c { full = put2 c.full (create_for c g) (c.slot_of g) true }) c
      (ap (λ b. b && (not false && (disk_full == disk_full))) lock)
      (subst (λ i. ShowsSlots rows (set slots (slot - 1) (record (slot_at slots (slot - 1)) { full = true })) session
      (record c { full = put2 c.full (create_for c g) i true }) (create_for c g)) (sym (at ∙ back_to slot a))
      (shows_filled rows slots session c g (slot - 1) (omega arith) h))

-- ---- users have rows

module _ (rows : List Row) (slots : List Slot) (g : ℕ) (h : HaveRows rows slots) (l : g < length rows) where
  pub have_used : (place : ℕ) → place < length slots
      → HaveRows rows (set slots place (record (slot_at slots place) { user = g }))
  have_used place k p b =
      let z = length-set slots place (record (slot_at slots place) { user = g }) in
      elim (is_there p place)
      as (λ _. (slot_at (set slots place (record (slot_at slots place) { user = g })) p).user < length rows) [
        | inl e ↦ subst (λ q. (slot_at (set slots place (record (slot_at slots place) { user = g })) q).user < length rows)
            (sym e) (subst (λ (s : Slot). s.user < length rows)
            (sym (set_at slots place (record (slot_at slots place) { user = g }) k)) l)
        | inr n ↦ subst (λ (s : Slot). s.user < length rows)
            (sym (set_past slots place p (record (slot_at slots place) { user = g }) n)) (h p (omega arith))
      ]

  pub have_more : HaveRows rows (slots ++ record { user = g; retried = 0; full = false } ∷ [])
  have_more p b =
      let s : Slot = record { user = g; retried = 0; full = false } in
      let z = length-append slots (s ∷ []) in
      elim (below_or_last p (length slots) (omega arith)) as (λ _. (slot_at (slots ++ s ∷ []) p).user < length rows) [
        | inl k ↦ subst (λ (t : Slot). t.user < length rows) (sym (pushed_below slots s p k)) (h p k)
        | inr e ↦ subst (λ q. (slot_at (slots ++ s ∷ []) q).user < length rows) (sym e)
            (subst (λ (t : Slot). t.user < length rows) (sym (pushed_last slots s)) l)
      ]

-- ---- what doesn't change

module _ (slots : List Slot) (place : ℕ) where
  pub same_user : (s : Slot) → place < length slots → s.user ≡ (slot_at slots place).user → (p : ℕ)
      → (slot_at (set slots place s) p).user ≡ (slot_at slots p).user
  same_user s l e p =
      elim (is_there p place) as (λ _. (slot_at (set slots place s) p).user ≡ (slot_at slots p).user) [
        | inl q ↦ subst (λ r. (slot_at (set slots place s) r).user ≡ (slot_at slots r).user) (sym q)
            (ap (λ (t : Slot). t.user) (set_at slots place s l) ∙ e)
        | inr n ↦ ap (λ (t : Slot). t.user) (set_past slots place p s n)
      ]

-- ---- what stays

module _ (rows : List Row) (slots : List Slot) (session create : ℕ) (c : Client) where
  pub taken_other : (g i : ℕ) → (create ≡ create_for c g → ⊥) → ShowsSlots rows slots session c create
      → ShowsSlots rows slots session (take_slot c g i) create
  taken_other g i n h =
      record {
        user = λ p k. put2_other c.slot_user (create_for c g) i create (p + 1) (Some g) n ∙ h.user p k;
        retried = h.retried;
        full = h.full;
        firm = h.firm;
        unused = λ p k. (
          put2_other c.slot_user (create_for c g) i create (p + 1) (Some g) n ∙ (h.unused p k).0,
          (h.unused p k).1,
          (h.unused p k).2,
        );
        number = h.number;
      }

  pub tried_other : (g : ℕ) → (create ≡ create_for c g → ⊥) → ShowsSlots rows slots session c create
      → ShowsSlots rows slots session (again c g) create
  tried_other g n h =
      pick_any (λ (d : Client). ShowsSlots rows slots session d create) (is_lock (c.op g))
      (record c { retried = put2 c.retried (create_for c g) (c.slot_of g) c.session_number }) c
      (record {
        user = h.user;
        retried = λ p k. put2_other c.retried (create_for c g) (c.slot_of g) create (p + 1) c.session_number n ∙ h.retried p k;
        full = h.full;
        firm = h.firm;
        unused = λ p k. (
          (h.unused p k).0,
          put2_other c.retried (create_for c g) (c.slot_of g) create (p + 1) c.session_number n ∙ (h.unused p k).1,
          (h.unused p k).2,
        );
        number = h.number;
      }) h

  pub filled_other : (g status : ℕ) → (create ≡ create_for c g → ⊥) → ShowsSlots rows slots session c create
      → ShowsSlots rows slots session (noted_full c g false status) create
  filled_other g status n h =
      pick_any (λ (d : Client). ShowsSlots rows slots session d create)
      (is_lock (c.op g) && (not false && (status == disk_full)))
      (record c { full = put2 c.full (create_for c g) (c.slot_of g) true }) c
      (record {
        user = h.user;
        retried = h.retried;
        full = λ p k. put2_other c.full (create_for c g) (c.slot_of g) create (p + 1) true n ∙ h.full p k;
        firm = h.firm;
        unused = λ p k. (
          (h.unused p k).0,
          (h.unused p k).1,
          put2_other c.full (create_for c g) (c.slot_of g) create (p + 1) true n ∙ (h.unused p k).2,
        );
        number = h.number;
      }) h

  pub begins : (k id tree : ℕ) → ShowsSlots rows slots session c create
      → ShowsSlots rows slots (session + 1) (begin_session c k id tree) create
  begins k id tree h =
      record {
        user = h.user;
        retried = h.retried;
        full = h.full;
        firm = h.firm;
        unused = h.unused;
        number = ap (λ n. n + 1) h.number;
      }
