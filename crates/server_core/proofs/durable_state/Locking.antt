-- Locks and unlocks that were granted, and the slots that keep their answers.
use Rattle.std.proofs.Common.{◌≡◌, ℕ, ◌+◌, ◌≤◌, ◌<◌, ◌==◌, nat_le, nat_lt, Bool, true, false, not, ◌&&◌, ◌||◌, if◌then◌else◌, List, [], ◌∷◌}
use Rattle.std.proofs.Common.{length, map, Some, refl, sym, ap, subst, arith}
use Rattle.std.proofs.lemmas.Bool.{eqb-false}
use Rattle.std.proofs.lemmas.Bool.Decides.{nat_tests}
use Rattle.std.specs.Prelude.{Result, Ok, Err, IfOk, OnOk}
use Rattle.spec_exchange.specs.Commands.{Element, all_lock, all_unlock}
use Rattle.spec_exchange.specs.CheckOpen.{file_of, is_slot}
use Rattle.spec_exchange.specs.Effects.{keep_slot, set_ranges}
use Rattle.spec_exchange.specs.Fold.{lock_granted, lock_recorded, with_record}
use Rattle.spec_exchange.specs.Ranges.{RangeAnswer, Stands, Denied, max_ranges, count_owned, any_wraps, add_ranges, stands_or}
use Rattle.spec_exchange.specs.Ranges.{lock_ranges, unlock_ranges, change_ranges, ranges_of}
use Rattle.spec_exchange.specs.State as model
use Rattle.spec_exchange.specs.State.{Server, Origin, LockRecord}
use Rattle.spec_exchange.specs.Status.{success, insufficient_resources}
use Rattle.spec_exchange.specs.Table.{put2, is_filled}
use Rattle.store_opens.specs.open_table.Locks.{DeniedBy, StandsWith}
use Rattle.store_opens.specs.open_table.Shown.{ShowsOpens}
use Rattle.store_opens.specs.declared.open_table.table.Opens.{Opens}
use Rattle.store_opens.specs.share_modes.Answers.{AllOf, status_of}
use Rattle.store_opens.specs.share_modes.Locking as held
use Rattle.store_opens.specs.share_modes.Locking.{range_of}
use Rattle.store_opens.specs.declared.share_modes.lists.Range.{Range}
use Rattle.store_opens.specs.declared.share_modes.ranges.RangeError.{RangeError}
use Rattle.store_opens.specs.declared.share_modes.ranges.RangeError.TheVariants.{Memory, NotGranted, NotLocked, Conflict, BadRange, TooMany}
use Rattle.law_server.specs.tables.Fits.{Fits}
use Rattle.law_server.proofs.tables.Logic.{either, both}
use Rattle.server_core.specs.durable_state.Durable.{DurableShown, is_granted, ranges_behind}
use Rattle.server_core.specs.declared.durable_state.durable.Durable.{Durable}
use Rattle.server_core.proofs.durable_state.Choice.{clash, on, off, not_on, not_off}
use Rattle.server_core.proofs.durable_state.Shown.{ranges_same}

-- ---- slots

pub slot_from : (n : ℕ) → is_slot n ≡ true → 1 ≤ n
slot_from n h = grind (arith, nat_tests)

pub slot_to : (n : ℕ) → is_slot n ≡ true → n ≤ 64
slot_to n h = grind (arith, nat_tests)

pub slot_kept : (d : Durable) (t : Opens) (s : Server) (o index number status : ℕ) → DurableShown d s
    → ShowsOpens t (keep_slot s o index number status) → DurableShown (record d { opens = t }) (keep_slot s o index number status)
slot_kept d t s o index number status h =
    either (λ (u : Server). ShowsOpens t u → DurableShown (record d { opens = t }) u) (is_slot index)
    (record s { lock_sequences = put2 s.lock_sequences o index (Some (record { number = number; status = status })) }) s
    (λ _ k. record {
      files = h.files;
      opens = k;
      version_is = h.version_is;
      epoch_is = h.epoch_is;
      pending = h.pending;
      ascend = h.ascend;
    })
    (λ _ k. record {
      files = h.files;
      opens = k;
      version_is = h.version_is;
      epoch_is = h.epoch_is;
      pending = h.pending;
      ascend = h.ascend;
    })

pub no_slot : (d : Durable) (s : Server) (o index number status : ℕ) → is_slot index ≡ false → DurableShown d s
    → DurableShown d (keep_slot s o index number status)
no_slot d s o index number status e h =
    off (λ (u : Server). DurableShown d u) (is_slot index)
    (record s { lock_sequences = put2 s.lock_sequences o index (Some (record { number = number; status = status })) }) s e h

-- ---- behind an answer

pub kept_behind : (d : Durable) (s : Server) (o index number : ℕ) (answer : RangeAnswer) → false ≡ is_granted answer
    → DurableShown d (ranges_behind s o answer) → DurableShown d (lock_granted s o index number answer)
kept_behind d s o index number (Stands ranges) e h = absurd (cc)
kept_behind d s o index number (Denied status) e h = h

pub granted_behind : (d : Durable) (s : Server) (o index number : ℕ) (answer : RangeAnswer) → true ≡ is_granted answer
    → DurableShown d (keep_slot (ranges_behind s o answer) o index number 0) → DurableShown d (lock_granted s o index number answer)
granted_behind d s o index number (Stands ranges) e h = h
granted_behind d s o index number (Denied status) e h = absurd (cc)

pub stands_behind : (s : Server) (o : ℕ) (answer : RangeAnswer) → s.standing o ≡ true → (ranges_behind s o answer).standing o ≡ true
stands_behind s o (Stands ranges) h = h
stands_behind s o (Denied status) h = h

-- ---- no elements: an open that has no more ranges than it may

no_elements : (rs : List model.Range) (o : ℕ) → change_ranges rs o []
    ≡ (if nat_lt max_ranges (count_owned o rs + 0) then Denied insufficient_resources else Stands rs)
unfolding change_ranges lock_ranges any_wraps add_ranges stands_or
no_elements rs o = refl

abbrev pub Answers : Durable → Server → ℕ → Bool → RangeAnswer → Type 0
Answers d s o b answer = (b ≡ is_granted answer) × DurableShown d (ranges_behind s o answer)

none_by : (d : Durable) (s : Server) (o n : ℕ) → n ≡ count_owned o (s.ranges (file_of s o)) → DurableShown d s
    → Answers d s o (nat_le n 1024) (if nat_lt max_ranges (count_owned o (s.ranges (file_of s o)) + 0) then
    Denied insufficient_resources else Stands (s.ranges (file_of s o)))
none_by d s o n e h =
    either (λ (a : RangeAnswer). Answers d s o (nat_le n 1024) a) (nat_lt max_ranges (count_owned o (s.ranges (file_of s o)) + 0))
    (Denied insufficient_resources) (Stands (s.ranges (file_of s o)))
    (λ t. (passed n (count_owned o (s.ranges (file_of s o))) e t, h))
    (λ t. (
      left n (count_owned o (s.ranges (file_of s o))) e t,
      record {
        files = h.files;
        opens = ranges_same d.opens s (file_of s o) (s.ranges (file_of s o)) refl h.opens;
        version_is = h.version_is;
        epoch_is = h.epoch_is;
        pending = h.pending;
        ascend = h.ascend;
      },
    ))
  where
    passed : (n k : ℕ) → n ≡ k → nat_lt max_ranges (k + 0) ≡ true → nat_le n 1024 ≡ false
    passed n k e t = grind (arith, nat_tests)

    left : (n k : ℕ) → n ≡ k → nat_lt max_ranges (k + 0) ≡ false → nat_le n 1024 ≡ true
    left n k e t = grind (arith, nat_tests)

pub none_granted : (d : Durable) (s : Server) (o n : ℕ) (es : List Element) → (length es == 0) ≡ true
    → n ≡ count_owned o (s.ranges (file_of s o)) → DurableShown d s
    → Answers d s o (nat_le n 1024) (change_ranges (s.ranges (file_of s o)) o es)
none_granted d s o n [] z e h =
    subst (λ (a : RangeAnswer). Answers d s o (nat_le n 1024) a) (sym (no_elements (s.ranges (file_of s o)) o)) (none_by d s o n e h)
none_granted d s o n (x ∷ xs) z e h = absurd (let f : (length (x ∷ xs) == 0) ≡ false = grind arith in clash (length (x ∷ xs) == 0) f z)

pub elements_filled : (es : List Element) → (length es == 0) ≡ false → is_filled es ≡ true
unfolding is_filled
elements_filled [] z = absurd (eqb-false 0 0 z refl)
elements_filled (x ∷ xs) z = refl

-- ---- elements

filled_by : (ws : List Range) (o : ℕ) (es : List Element) → is_filled es ≡ true → map range_of ws ≡ ranges_of o es → is_filled ws ≡ true
unfolding is_filled
filled_by [] o [] f e = f
filled_by [] o (x ∷ xs) f e = absurd (cc)
filled_by (w ∷ ws) o es f e = refl

locks_by : (rs : List model.Range) (o : ℕ) (es : List Element) → all_lock es ≡ true → change_ranges rs o es
    ≡ lock_ranges rs o (ranges_of o es)
unfolding change_ranges
locks_by rs o es e = on (λ (a : RangeAnswer). a ≡ lock_ranges rs o (ranges_of o es)) (all_lock es) _ _ e refl

unlocks_by : (rs : List model.Range) (o : ℕ) (es : List Element) → all_lock es ≡ false → change_ranges rs o es
    ≡ unlock_ranges rs (ranges_of o es)
unfolding change_ranges
unlocks_by rs o es e = off (λ (a : RangeAnswer). a ≡ unlock_ranges rs (ranges_of o es)) (all_lock es) _ _ e refl

stood : (d : Durable) (t : Opens) (s : Server) (o : ℕ) (answer : RangeAnswer) → DurableShown d s
    → StandsWith answer (λ ranges. ShowsOpens t (set_ranges s (file_of s o) ranges)) → Answers (record d { opens = t }) s o true answer
stood d t s o (Stands ranges) h k = (
  refl,
  record {
    files = h.files;
    opens = k;
    version_is = h.version_is;
    epoch_is = h.epoch_is;
    pending = h.pending;
    ascend = h.ascend;
  },
)
stood d t s o (Denied status) h k = absurd k

denied : (d : Durable) (t : Opens) (s : Server) (o : ℕ) (b : Bool) (error : RangeError) (answer : RangeAnswer) → DurableShown d s
    → (b ≡ false) × ((a : RangeAnswer) → DeniedBy error a → a ≡ Denied (status_of error)) → DeniedBy error answer
    → ShowsOpens t s → Answers (record d { opens = t }) s o b answer
denied d t s o b error answer h told by k =
    subst (λ (a : RangeAnswer). Answers (record d { opens = t }) s o b a) (sym (told.1 answer by)) (
      told.0,
      record {
        files = h.files;
        opens = k;
        version_is = h.version_is;
        epoch_is = h.epoch_is;
        pending = h.pending;
        ascend = h.ascend;
      },
    )

pub denied_by : (e : RangeError) (a : RangeAnswer) → (e ≡ Memory → ⊥) → DeniedBy e a → a ≡ Denied (status_of e)
denied_by Memory a n h = absurd (n refl)
denied_by (NotGranted r) a n h = h
denied_by (NotLocked r) a n h = h
denied_by (Conflict r) a n h = h
denied_by (BadRange r) a n h = h
denied_by TooMany a n h = h

-- a lock went through
pub locked : (d : Durable) (t : Opens) (s : Server) (o : ℕ) (es : List Element) (ws : List Range) → DurableShown d s
    → all_lock es ≡ true → map range_of ws ≡ ranges_of o es
    → StandsWith (lock_ranges (s.ranges (file_of s o)) o (map range_of ws)) (λ ranges. ShowsOpens t (set_ranges s (file_of s o) ranges))
    → Answers (record d { opens = t }) s o true (change_ranges (s.ranges (file_of s o)) o es)
locked d t s o es ws h a e k =
    let b = subst (λ (vs : List model.Range). StandsWith (lock_ranges (s.ranges (file_of s o)) o vs)
    (λ ranges. ShowsOpens t (set_ranges s (file_of s o) ranges))) e k in
    subst (λ (x : RangeAnswer). Answers (record d { opens = t }) s o true x) (sym (locks_by (s.ranges (file_of s o)) o es a))
    (stood d t s o (lock_ranges (s.ranges (file_of s o)) o (ranges_of o es)) h b)

pub unlocked : (d : Durable) (t : Opens) (s : Server) (o : ℕ) (es : List Element) (ws : List Range) → DurableShown d s
    → all_lock es ≡ false → map range_of ws ≡ ranges_of o es
    → StandsWith (unlock_ranges (s.ranges (file_of s o)) (map range_of ws)) (λ ranges. ShowsOpens t (set_ranges s (file_of s o) ranges))
    → Answers (record d { opens = t }) s o true (change_ranges (s.ranges (file_of s o)) o es)
unlocked d t s o es ws h a e k =
    let b = subst (λ (vs : List model.Range). StandsWith (unlock_ranges (s.ranges (file_of s o)) vs)
    (λ ranges. ShowsOpens t (set_ranges s (file_of s o) ranges))) e k in
    subst (λ (x : RangeAnswer). Answers (record d { opens = t }) s o true x) (sym (unlocks_by (s.ranges (file_of s o)) o es a))
    (stood d t s o (unlock_ranges (s.ranges (file_of s o)) (ranges_of o es)) h b)

-- what was wanted names what the elements do
pub record Wanted (o : ℕ) (es : List Element) (ws : List Range) : Type 0 where
  pub filled : is_filled ws ≡ true
  pub named : map range_of ws ≡ ranges_of o es
  pub owned : AllOf o ws

pub wanted : (o : ℕ) (es : List Element) (ws : List Range) → is_filled es ≡ true → map range_of ws ≡ ranges_of o es
    → AllOf o ws → Wanted o es ws
wanted o es ws f e a = record { filled = filled_by ws o es f e; named = e; owned = a }

-- a lock was refused
pub lock_refused : {E : Type 0} (out : Result Bool E) (d : Durable) (t : Opens) (o : ℕ) (es : List Element) (ws : List Range)
    (error : RangeError) → all_lock es ≡ true
    → IfOk out (λ b. (b ≡ false) × ((a : RangeAnswer) → DeniedBy error a → a ≡ Denied (status_of error)))
    → ((s : Server) → Fits s → ShowsOpens d.opens s → s.standing o ≡ true → is_filled ws ≡ true → AllOf o ws
    → DeniedBy error (lock_ranges (s.ranges (file_of s o)) o (map range_of ws)) × ShowsOpens t s)
    → IfOk out (λ b. (s : Server) → Fits s → DurableShown d s → s.standing o ≡ true → is_filled es ≡ true
    → map range_of ws ≡ ranges_of o es → AllOf o ws
    → let answer = change_ranges (s.ranges (file_of s o)) o es in
    (b ≡ is_granted answer) × DurableShown (record d { opens = t }) (ranges_behind s o answer))
lock_refused (Err x) d t o es ws error a told done = tt
lock_refused (Ok b) d t o es ws error a told done = λ s i h st f e own.
    let k = done s i h.opens st (filled_by ws o es f e) own in
    let by = subst (λ (vs : List model.Range). DeniedBy error (lock_ranges (s.ranges (file_of s o)) o vs)) e k.0 in
    denied d t s o b error (change_ranges (s.ranges (file_of s o)) o es) h told
    (subst (λ (x : RangeAnswer). DeniedBy error x) (sym (locks_by (s.ranges (file_of s o)) o es a)) by) k.1

pub unlock_refused : {E : Type 0} (out : Result Bool E) (d : Durable) (t : Opens) (o : ℕ) (es : List Element) (ws : List Range)
    (error : RangeError) → all_lock es ≡ false
    → IfOk out (λ b. (b ≡ false) × ((a : RangeAnswer) → DeniedBy error a → a ≡ Denied (status_of error)))
    → ((s : Server) → Fits s → ShowsOpens d.opens s → s.standing o ≡ true → is_filled ws ≡ true → AllOf o ws
    → DeniedBy error (unlock_ranges (s.ranges (file_of s o)) (map range_of ws)) × ShowsOpens t s)
    → IfOk out (λ b. (s : Server) → Fits s → DurableShown d s → s.standing o ≡ true → is_filled es ≡ true
    → map range_of ws ≡ ranges_of o es → AllOf o ws
    → let answer = change_ranges (s.ranges (file_of s o)) o es in
    (b ≡ is_granted answer) × DurableShown (record d { opens = t }) (ranges_behind s o answer))
unlock_refused (Err x) d t o es ws error a told done = tt
unlock_refused (Ok b) d t o es ws error a told done = λ s i h st f e own.
    let k = done s i h.opens st (filled_by ws o es f e) own in
    let by = subst (λ (vs : List model.Range). DeniedBy error (unlock_ranges (s.ranges (file_of s o)) vs)) e k.0 in
    denied d t s o b error (change_ranges (s.ranges (file_of s o)) o es) h told
    (subst (λ (x : RangeAnswer). DeniedBy error x) (sym (unlocks_by (s.ranges (file_of s o)) o es a)) by) k.1

-- the elements name ranges, which were changed
pub granted_more : {E : Type 0} (out : Result Bool E) (d e : Durable) (o : ℕ) (es : List Element) (ws vs : List Range) → ws ≡ vs
    → (map range_of vs ≡ ranges_of o es) × AllOf o vs → (length es == 0) ≡ false
    → IfOk out (λ b. (s : Server) → Fits s → DurableShown d s → s.standing o ≡ true → is_filled es ≡ true
    → map range_of ws ≡ ranges_of o es → AllOf o ws
    → let answer = change_ranges (s.ranges (file_of s o)) o es in
    (b ≡ is_granted answer) × DurableShown e (ranges_behind s o answer))
    → IfOk out (λ b. (s : Server) → Fits s → DurableShown d s → s.standing o ≡ true
    → let answer = change_ranges (s.ranges (file_of s o)) o es in
    (b ≡ is_granted answer) × DurableShown e (ranges_behind s o answer))
granted_more (Err x) d e o es ws vs same n z done = tt
granted_more (Ok b) d e o es ws vs same n z done = λ s i h st.
    done s i h st (elements_filled es z) (subst (λ (v : List Range). map range_of v ≡ ranges_of o es) (sym same) n.0)
    (subst (λ (v : List Range). AllOf o v) (sym same) n.1)

-- ---- the whole record

pub mixed_off : (d : Durable) (s : Server) (o index number status : ℕ) (es : List Element) → (all_lock es || all_unlock es) ≡ false
    → DurableShown d s → DurableShown d (lock_recorded s o index number status es)
mixed_off d s o index number status es e h =
    on (λ (u : Server). DurableShown d u) (not (all_lock es || all_unlock es)) s
    (if status == success then lock_granted s o index number (change_ranges (s.ranges (file_of s o)) o es)
    else keep_slot s o index number status) (not_on (all_lock es || all_unlock es) e) h

pub failed_on : (d : Durable) (s : Server) (o index number status : ℕ) (es : List Element) → (all_lock es || all_unlock es) ≡ true
    → (status == success) ≡ false → DurableShown d (keep_slot s o index number status)
    → DurableShown d (lock_recorded s o index number status es)
failed_on d s o index number status es e n h =
    off (λ (u : Server). DurableShown d u) (not (all_lock es || all_unlock es)) s
    (if status == success then lock_granted s o index number (change_ranges (s.ranges (file_of s o)) o es)
    else keep_slot s o index number status) (not_off (all_lock es || all_unlock es) e)
    (off (λ (u : Server). DurableShown d u) (status == success)
    (lock_granted s o index number (change_ranges (s.ranges (file_of s o)) o es)) (keep_slot s o index number status) n h)

pub granted_on : (d : Durable) (s : Server) (o index number status : ℕ) (es : List Element) → (all_lock es || all_unlock es) ≡ true
    → (status == success) ≡ true → DurableShown d (lock_granted s o index number (change_ranges (s.ranges (file_of s o)) o es))
    → DurableShown d (lock_recorded s o index number status es)
granted_on d s o index number status es e n h =
    off (λ (u : Server). DurableShown d u) (not (all_lock es || all_unlock es)) s
    (if status == success then lock_granted s o index number (change_ranges (s.ranges (file_of s o)) o es)
    else keep_slot s o index number status) (not_off (all_lock es || all_unlock es) e)
    (on (λ (u : Server). DurableShown d u) (status == success)
    (lock_granted s o index number (change_ranges (s.ranges (file_of s o)) o es)) (keep_slot s o index number status) n h)

-- ---- how many ranges an open has

abbrev one_if : Bool → ℕ
one_if b = if b then 1 else 0

pub owned_is : (o : ℕ) (rs : List Range) → held.locking_count_owned o rs ≡ count_owned o (map range_of rs)
unfolding count_owned
owned_is o [] = refl
owned_is o (r ∷ rs) = ap (λ (n : ℕ). one_if (r.owner == o) + n) (owned_is o rs)

-- ---- an index that is no slot's, and one that may be

pub index_far : (n : ℕ) → 64 < n → nat_le n 64 ≡ false
index_far n h = grind (arith, nat_tests)

pub index_near : (n : ℕ) → n ≤ 64 → nat_le n 64 ≡ true
index_near n h = grind (arith, nat_tests)

-- a record of a lock that is looked at
pub recorded : {E : Type 0} (out : Result Unit E) (d : Durable) (s : Server) (origin : Origin)
    (o index number status : ℕ) (es fs : List Element)
    → s.standing o ≡ true → nat_le index 64 ≡ true → es ≡ fs → OnOk out (DurableShown d (lock_recorded s o index number status es))
    → OnOk out (DurableShown d (with_record s (LockRecord origin o index number status fs)))
recorded (Err x) d s origin o index number status es fs st near e h = h
recorded (Ok x) d s origin o index number status es fs st near e h =
    on (λ (u : Server). DurableShown d u) (s.standing o && nat_le index 64) (lock_recorded s o index number status fs) s
    (both (s.standing o) (nat_le index 64) st near)
    (subst (λ (v : List Element). DurableShown d (lock_recorded s o index number status v)) e h)
