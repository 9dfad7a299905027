-- The way into the server's step once more, with what fitted into the journal, and what records take there.
use Rattle.std.proofs.lemmas.Bool.Decides.{nat_tests}
use Rattle.std.proofs.Common.{◌≡◌, ◌⊎◌, inl, inr, ℕ, ◌+◌, ◌==◌, ◌≤◌, ◌<◌, nat_le, nat_lt, Bool, true, false, not, ◌&&◌, ◌||◌, if◌then◌else◌}
use Rattle.std.proofs.Common.{List, [], ◌∷◌, ◌++◌, length, refl, arith, sym, ◌∙◌, subst, Option, Some, None}
use Rattle.spec_exchange.specs.Table.{is_filled, without}
use Rattle.spec_exchange.specs.Commands.{Element, deletes_on_close}
use Rattle.spec_exchange.specs.State.{Server, Message, Heard, Record, Origin, Answer, EpochRecord, DeleteRecord, RemoveRecord}
use Rattle.spec_exchange.specs.State.{LockRecord, CloseRecord, VersionRecord, ExpireRecord}
use Rattle.spec_exchange.specs.Files.{root, exists, exists_in, is_full_directory}
use Rattle.spec_exchange.specs.Opens.{goes, is_kept_back, drop_open, pending_behind, file_has_open, opens_in}
use Rattle.spec_exchange.specs.Opens.{leave_records, pending_records, shut_records, gone_records, left_file_records}
use Rattle.spec_exchange.specs.Verdict.{Verdict}
use Rattle.spec_exchange.specs.Check.{check}
use Rattle.spec_exchange.specs.Records.{entry_bytes, records_size, record_size, text_size, opened_size, fits, origin_at, lower_limit}
use Rattle.spec_exchange.specs.Effects.{apply}
use Rattle.spec_exchange.specs.Step.{step, event_answer, expiring, written_down, with_deadlines, due, expire}
use Rattle.spec_exchange.specs.Step.{expire_records, behind_expiry, without_room, max_expired_guids}
use Rattle.law_server.specs.tables.Fits.{Limit}
use Rattle.law_server.proofs.tables.Logic.{either, both, front_of, back_of}
use Rattle.law_server.proofs.tables.Doors.{recorded, Before}
use Rattle.law_locks.specs.Locks.{kept_with, is_alone, is_stuck}
use Rattle.law_locks.proofs.Calm.{is_end}

-- ---- what records take

-- all but an epoch's and a version's record
unfoldable pub is_big : Record → Bool
is_big (EpochRecord number) = false
is_big (VersionRecord number) = false
is_big _ = true

pub big_size : (r : Record) → is_big r ≡ true → 29 ≤ record_size r
unfolding is_big record_size text_size opened_size
big_size r e = grind arith

-- and one that is no end takes more
pub mark_size : (r : Record) → is_big r ≡ true → is_end r ≡ false → 30 ≤ record_size r
unfolding is_big is_end record_size text_size opened_size
mark_size r e n = grind arith

sizes_behind : (front rs : List Record) → records_size rs ≤ records_size (front ++ rs)
unfolding records_size
sizes_behind [] rs = omega arith
sizes_behind (r ∷ front) rs = let l = sizes_behind front rs in omega (arith, l)

bytes_of : (rs : List Record) → records_size rs ≤ entry_bytes rs
unfolding entry_bytes records_size
bytes_of [] = omega arith
bytes_of (r ∷ rs) = omega arith

pub more_bytes : (front rs : List Record) (r : Record) → 5 + records_size (r ∷ rs) ≤ entry_bytes (front ++ r ∷ rs)
unfolding entry_bytes
more_bytes [] rs r = omega arith
more_bytes (x ∷ front) rs r = let l = sizes_behind (x ∷ front) (r ∷ rs) in omega (arith, l)

le_of : (n m : ℕ) → nat_le n m ≡ true → n ≤ m
le_of n m e = grind (arith, nat_tests)

gt_of : (n m : ℕ) → nat_le n m ≡ false → m < n
gt_of n m e = grind (arith, nat_tests)

pub fits_bytes : (s : Server) (rs : List Record) → Limit s → is_filled rs ≡ true → fits s rs ≡ true
    → s.journal + entry_bytes rs ≤ lower_limit
unfolding fits is_filled
fits_bytes s [] whole n e = absurd (cc)
fits_bytes s (r ∷ rs) whole n e =
    subst (λ z. s.journal + entry_bytes (r ∷ rs) ≤ z) whole (le_of (s.journal + entry_bytes (r ∷ rs)) s.limit e)

pub filled_behind : (front rs : List Record) (r : Record) → is_filled (front ++ r ∷ rs) ≡ true
unfolding is_filled
filled_behind [] rs r = refl
filled_behind (x ∷ front) rs r = refl

-- where a record fits, so do 34 bytes
pub room_for : (s : Server) (front rs : List Record) (r : Record) → Limit s → is_big r ≡ true → fits s (front ++ r ∷ rs) ≡ true
    → s.journal + 34 ≤ lower_limit
unfolding records_size
room_for s front rs r whole big e =
    let f = fits_bytes s (front ++ r ∷ rs) whole (filled_behind front rs r) e in let m1 = more_bytes front rs r in
    let b = big_size r big in omega (arith, f, m1, b)

-- and 66 where it is a lock's
lock_size : (origin : Origin) (o index number status : ℕ) (es : List Element) → 1 ≤ length es
    → 61 ≤ record_size (LockRecord origin o index number status es)
unfolding record_size
lock_size origin o index number status es l = omega (arith, l)

pub room_for_lock : (s : Server) (front : List Record) (origin : Origin) (o index number status : ℕ) (es : List Element)
    → Limit s → 1 ≤ length es → fits s (front ++ LockRecord origin o index number status es ∷ []) ≡ true
    → s.journal + 66 ≤ lower_limit
unfolding records_size
room_for_lock s front origin o index number status es whole l e =
    let r = LockRecord origin o index number status es in
    let f = fits_bytes s (front ++ r ∷ []) whole (filled_behind front [] r) e in let m1 = more_bytes front [] r in
    let b = lock_size origin o index number status es l in omega (arith, f, m1, b)

-- ---- an open that leaves

unfit : (s : Server) (rs : List Record) → Limit s → fits s rs ≡ false
    → lower_limit < s.journal + entry_bytes rs × is_filled rs ≡ true
unfolding fits is_filled
unfit s [] whole e = absurd (cc)
unfit s (r ∷ rs) whole e = (
  subst (λ z. z < s.journal + entry_bytes (r ∷ rs)) whole (gt_of (s.journal + entry_bytes (r ∷ rs)) s.limit e),
  refl,
)

not_expired : (s : Server) (origin : Origin) (o : ℕ) → (s.opened o).persistent ≡ true → pending_records s origin o ≡ []
unfolding pending_records
not_expired s origin o p = grind arith

two_at_most : (s : Server) (origin : Origin) (o : ℕ) (a : List Record) → a ≡ []
    → entry_bytes (a ++ (shut_records s origin o ++ left_file_records (drop_open (pending_behind s o) o) origin
    (s.opened o).file)) ≤ 64
unfolding shut_records left_file_records gone_records entry_bytes records_size record_size
two_at_most s origin o a e =
    let w = drop_open (pending_behind s o) o in
    by_goes (s.opened o).persistent (is_kept_back w (s.opened o).file) (goes w (s.opened o).file) a e
  where
    by_goes : (p k q : Bool) (a : List Record) → a ≡ []
        → entry_bytes (a ++ ((if p then CloseRecord origin o ∷ [] else [])
        ++ (if k then DeleteRecord origin (s.opened o).file false ∷ [] else
        (if q then RemoveRecord origin (s.opened o).file ∷ [] else [])))) ≤ 64
    by_goes true true q [] e = omega arith
    by_goes true false true [] e = omega arith
    by_goes true false false [] e = omega arith
    by_goes false true q [] e = omega arith
    by_goes false false true [] e = omega arith
    by_goes false false false [] e = omega arith
    by_goes p k q (r ∷ rs) e = absurd (cc)

pub full_persistent : (s : Server) (origin : Origin) (o : ℕ) → Limit s → (s.opened o).persistent ≡ true
    → fits s (leave_records s origin o) ≡ false → lower_limit < s.journal + 66
unfolding leave_records
full_persistent s origin o whole p e =
    let u = unfit s (leave_records s origin o) whole e in let t = two_at_most s origin o (pending_records s origin o)
    (not_expired s origin o p) in omega (arith, u.0, t)

-- ---- a plain open that doesn't delete on close

-- the records of its file are all that its leaving owes
plain_records : (s : Server) (origin : Origin) (o : ℕ) → (s.opened o).persistent ≡ false
    → deletes_on_close (s.opened o).options ≡ false → leave_records s origin o
    ≡ left_file_records (drop_open (pending_behind s o) o) origin (s.opened o).file
unfolding leave_records pending_records shut_records
plain_records s origin o p d = rw (p, d) refl

plain_behind : (s : Server) (o : ℕ) → deletes_on_close (s.opened o).options ≡ false → pending_behind s o ≡ s
plain_behind s o d = rw d refl

alone_parts : (m r e o u : Bool) → (m && (not r && (e && (not o && u)))) ≡ true → (m && (not r && not o)) ≡ true
alone_parts m r e o u h = grind arith

pub alone_of_kept : (s : Server) (o : ℕ) → deletes_on_close (s.opened o).options ≡ false → kept_with s o ≡ true → is_alone s o ≡ true
unfolding kept_with is_kept_back file_has_open is_alone
alone_of_kept s o d k =
    let f = (s.opened o).file in
    alone_parts (s.delete_pending f) (f == root) (exists (drop_open s o) f) (is_filled (opens_in s.opened (without o s.opens) f))
    (is_full_directory (drop_open s o) f) (subst (λ z. is_kept_back (drop_open z o) f ≡ true) (plain_behind s o d) k)

alone_of_gone : (s : Server) (o : ℕ) → deletes_on_close (s.opened o).options ≡ false
    → goes (drop_open (pending_behind s o) o) (s.opened o).file ≡ true → is_alone s o ≡ true
unfolding goes file_has_open is_alone
alone_of_gone s o d g =
    let f = (s.opened o).file in
    alone_parts (s.delete_pending f) (f == root) (exists (drop_open s o) f) (is_filled (opens_in s.opened (without o s.opens) f))
    (not (is_full_directory (drop_open s o) f)) (subst (λ z. goes (drop_open z o) f ≡ true) (plain_behind s o d) g)

else_goes : (m r e o u : Bool) → (m && (not r && not o)) ≡ true → e ≡ true → (m && (not r && (e && (not o && u)))) ≡ false
    → (m && (not r && (e && (not o && not u)))) ≡ true
else_goes m r e o u a there k = grind arith

-- where its file is alone with it, that goes or is kept back
gone_of_alone : (s : Server) (o : ℕ) → deletes_on_close (s.opened o).options ≡ false → exists s (s.opened o).file ≡ true
    → is_alone s o ≡ true → is_kept_back (drop_open (pending_behind s o) o) (s.opened o).file ≡ false
    → goes (drop_open (pending_behind s o) o) (s.opened o).file ≡ true
unfolding goes is_kept_back file_has_open is_alone exists
gone_of_alone s o d there a k =
    let f = (s.opened o).file in
    subst (λ z. goes (drop_open z o) f ≡ true) (sym (plain_behind s o d))
    (else_goes (s.delete_pending f) (f == root) ((f == root) || exists_in s.entries f)
    (is_filled (opens_in s.opened (without o s.opens) f)) (is_full_directory (drop_open s o) f) a there
    (subst (λ z. is_kept_back (drop_open z o) f ≡ false) (plain_behind s o d) k))

lt_of : (n m : ℕ) → nat_lt n m ≡ true → n < m
lt_of n m e = grind (arith, nat_tests)

of_lt : (n m : ℕ) → n < m → nat_lt n m ≡ true
of_lt n m l = grind (arith, nat_tests)

front_on : (x y : Bool) → x ≡ true → (x || y) ≡ true
front_on x y e = grind arith

back_on : (x y : Bool) → y ≡ true → (x || y) ≡ true
back_on x y e = grind arith

pub stuck_near : (s : Server) (o : ℕ) → lower_limit < s.journal + 34 → is_alone s o ≡ true → is_stuck s o ≡ true
unfolding is_stuck
stuck_near s o l a = front_on (nat_lt lower_limit (s.journal + 34) && is_alone s o)
    (nat_lt lower_limit (s.journal + 35) && kept_with s o)
    (both (nat_lt lower_limit (s.journal + 34)) (is_alone s o) (of_lt lower_limit (s.journal + 34) l) a)

pub stuck_kept : (s : Server) (o : ℕ) → lower_limit < s.journal + 35 → kept_with s o ≡ true → is_stuck s o ≡ true
unfolding is_stuck
stuck_kept s o l k = back_on (nat_lt lower_limit (s.journal + 34) && is_alone s o)
    (nat_lt lower_limit (s.journal + 35) && kept_with s o)
    (both (nat_lt lower_limit (s.journal + 35)) (kept_with s o) (of_lt lower_limit (s.journal + 35) l) k)

-- why it can't leave
abbrev pub Why : Server → ℕ → Type 0
Why s o = (lower_limit < s.journal + 34 × is_alone s o ≡ true) ⊎ (lower_limit < s.journal + 35 × kept_with s o ≡ true)

pub stuck_why : (s : Server) (o : ℕ) → is_stuck s o ≡ true → Why s o
unfolding is_stuck
stuck_why s o e = by (nat_lt lower_limit (s.journal + 34) && is_alone s o) refl e
  where
    by : (b : Bool) → (nat_lt lower_limit (s.journal + 34) && is_alone s o) ≡ b
        → (b || (nat_lt lower_limit (s.journal + 35) && kept_with s o)) ≡ true → Why s o
    by true q h = inl (
      lt_of lower_limit (s.journal + 34) (front_of (nat_lt lower_limit (s.journal + 34)) (is_alone s o) q),
      back_of (nat_lt lower_limit (s.journal + 34)) (is_alone s o) q,
    )
    by false q h = inr (
      lt_of lower_limit (s.journal + 35) (front_of (nat_lt lower_limit (s.journal + 35)) (kept_with s o) h),
      back_of (nat_lt lower_limit (s.journal + 35)) (kept_with s o) h,
    )

-- where its records don't fit, it is stuck
pub full_plain : (s : Server) (origin : Origin) (o : ℕ) → Limit s → (s.opened o).persistent ≡ false
    → deletes_on_close (s.opened o).options ≡ false → fits s (leave_records s origin o) ≡ false → is_stuck s o ≡ true
unfolding left_file_records gone_records entry_bytes records_size record_size is_filled kept_with
full_plain s origin o whole p d e =
    by (is_kept_back w f) (goes w f) refl refl (subst (λ rs. fits s rs ≡ false) (plain_records s origin o p d) e)
  where
    f : ℕ
    f = (s.opened o).file

    w : Server
    w = drop_open (pending_behind s o) o

    by : (k q : Bool) → is_kept_back w f ≡ k → goes w f ≡ q
        → fits s (if k then DeleteRecord origin f false ∷ [] else (if q then RemoveRecord origin f ∷ [] else [])) ≡ false
        → is_stuck s o ≡ true
    by true q a b h = let u = unfit s (DeleteRecord origin f false ∷ []) whole h in stuck_kept s o (omega (arith, u.0)) a
    by false true a b h = let u = unfit s (RemoveRecord origin f ∷ []) whole h in stuck_near s o (omega (arith, u.0)) (alone_of_gone s o d b)
    by false false a b h = absurd (let u : false ≡ true = (unfit s [] whole h).1 in cc)

mark_room : (s : Server) (front : List Record) (origin : Origin) (f : ℕ) → Limit s
    → fits s (front ++ DeleteRecord origin f false ∷ []) ≡ true → s.journal + 35 ≤ lower_limit
unfolding records_size record_size
mark_room s front origin f whole e =
    let r = DeleteRecord origin f false in
    let x = fits_bytes s (front ++ r ∷ []) whole (filled_behind front [] r) e in let m = more_bytes front [] r in omega (arith, x, m)

-- and where it is stuck, they don't fit
pub stuck_fits : (s t : Server) (front : List Record) (origin : Origin) (o : ℕ) → Limit s → t.journal ≡ s.journal
    → exists t (t.opened o).file ≡ true → (t.opened o).persistent ≡ false → deletes_on_close (t.opened o).options ≡ false
    → is_stuck t o ≡ true → fits s (front ++ leave_records t origin o) ≡ true → true ≡ false
unfolding left_file_records gone_records is_big kept_with
stuck_fits s t front origin o whole same there p d st e =
    why (stuck_why t o st) (is_kept_back w f) (goes w f) refl refl
    (subst (λ rs. fits s (front ++ rs) ≡ true) (plain_records t origin o p d) e)
  where
    f : ℕ
    f = (t.opened o).file

    w : Server
    w = drop_open (pending_behind t o) o

    far : (n m : ℕ) → n ≡ m → lower_limit < n + 34 → m + 34 ≤ lower_limit → true ≡ false
    far n m q l h = absurd (omega (arith, q, l, h))

    near : (n m : ℕ) → n ≡ m → lower_limit < n + 35 → m + 35 ≤ lower_limit → true ≡ false
    near n m q l h = absurd (omega (arith, q, l, h))

    why : Why t o → (k q : Bool) → is_kept_back w f ≡ k → goes w f ≡ q
        → fits s (front ++ (if k then DeleteRecord origin f false ∷ [] else (if q then RemoveRecord origin f ∷ [] else []))) ≡ true
        → true ≡ false
    why (inl x) true q a b h = far t.journal s.journal same x.0 (room_for s front [] (DeleteRecord origin f false) whole refl h)
    why (inl x) false true a b h = far t.journal s.journal same x.0 (room_for s front [] (RemoveRecord origin f) whole refl h)
    why (inl x) false false a b h = sym (gone_of_alone t o d there x.1 a) ∙ b
    why (inr x) true q a b h = near t.journal s.journal same x.0 (mark_room s front origin f whole h)
    why (inr x) false q a b h = sym x.1 ∙ a

-- ---- the door: on a full journal an expiry's record is all

pub expired_left : (d : Server) (k o : ℕ) (rs : List Record) → Limit d → fits d (expire_records d (origin_at k) o ++ rs) ≡ true
    → lower_limit < d.journal + 35 → is_kept_back (drop_open (pending_behind d o) o) (d.opened o).file ≡ false
    × goes (drop_open (pending_behind d o) o) (d.opened o).file ≡ false
unfolding expire_records left_file_records gone_records records_size record_size
expired_left d k o rs whole e l = by (is_kept_back w f) (goes w f) e
  where
    f : ℕ
    f = (d.opened o).file

    w : Server
    w = drop_open (pending_behind d o) o

    expires : Record
    expires = ExpireRecord (origin_at k) o

    by : (p q : Bool) → fits d ((expires ∷ (if p then DeleteRecord (origin_at k) f false ∷ [] else
        (if q then RemoveRecord (origin_at k) f ∷ [] else []))) ++ rs) ≡ true → p ≡ false × q ≡ false
    by true q h =
        let more = DeleteRecord (origin_at k) f false ∷ rs in
        let x = fits_bytes d (expires ∷ more) whole (filled_behind [] more expires) h in
        let m = more_bytes [] more expires in absurd (omega (arith, x, m, l))
    by false true h =
        let more = RemoveRecord (origin_at k) f ∷ rs in
        let x = fits_bytes d (expires ∷ more) whole (filled_behind [] more expires) h in
        let m = more_bytes [] more expires in absurd (omega (arith, x, m, l))
    by false false h = (refl, refl)

-- the state in front of an event on a full journal: an open that expired there left its file as it was
abbrev pub InFront : Server → ℕ → Server → Type 0
InFront s now t = let d = with_deadlines s now in (t ≡ d) ⊎ ((o : ℕ) × due d now ≡ Some o × t ≡ expire d o
    × is_kept_back (drop_open (pending_behind d o) o) (d.opened o).file ≡ false
    × goes (drop_open (pending_behind d o) o) (d.opened o).file ≡ false)

abbrev pub Fitting : Server → ℕ → Message → (Answer → Type 0) → Type 0
Fitting s now m P = (t : Server) (v : Verdict) (front : List Record) → Before s now t
    → (lower_limit < s.journal + 35 → InFront s now t) → v ≡ check t m → fits (with_deadlines s now)
    (front ++ (apply t m now v).records) ≡ true → P (recorded (apply t m now v) (front ++ (apply t m now v).records))

abbrev pub Full : Server → ℕ → Message → (Answer → Type 0) → Type 0
Full s now m P = let d = with_deadlines s now in (v : Verdict) → v ≡ without_room (check d m)
    → fits d (apply d m now (check d m)).records ≡ false → P (recorded (apply d m now v) (apply d m now v).records)

by_table : (P : Answer → Type 0) (s : Server) (now : ℕ) (m : Message) → Fitting s now m P → Full s now m P
    → P (written_down (event_answer (with_deadlines s now) now (Heard m)))
by_table P s now m f g =
    let d = with_deadlines s now in
    either (λ A. P (written_down A)) (fits d (apply d m now (check d m)).records) (apply d m now (check d m))
    (apply d m now (without_room (check d m)))
    (λ r. f d (check d m) [] (inl refl) (λ _. inl refl) refl r)
    (λ r. g (without_room (check d m)) refl r)

by_due : (P : Answer → Type 0) (s : Server) (now : ℕ) (m : Message) → Limit s → Fitting s now m P → Full s now m P
    → (u : Option ℕ) → due (with_deadlines s now) now ≡ u
    → P (written_down (expiring (with_deadlines s now) now (Heard m) u))
by_due P s now m whole f g None e = by_table P s now m f g
by_due P s now m whole f g (Some o) e =
    let d = with_deadlines s now in let t = expire d o in
    either (λ A. P (written_down A)) (nat_le max_expired_guids d.expired_count) (event_answer d now (Heard m))
    (behind_expiry d now (Heard m) (expire_records d (origin_at m.connection) o) (apply t m now (check t m)))
    (λ _. by_table P s now m f g)
    (λ _. either (λ A. P (written_down A))
    (fits d (expire_records d (origin_at m.connection) o ++ (apply t m now (check t m)).records))
    (record (apply t m now (check t m)) {
      records = expire_records d (origin_at m.connection) o ++ (apply t m now (check t m)).records;
    })
    (event_answer d now (Heard m))
    (λ r. f t (check t m) (expire_records d (origin_at m.connection) o) (inr (o, e, refl))
    (λ l. let x = expired_left d m.connection o (apply t m now (check t m)).records whole r l in inr (o, e, refl, x.0, x.1)) refl r)
    (λ _. by_table P s now m f g))

pub by_room : (P : Answer → Type 0) (s : Server) (now : ℕ) (m : Message) → Limit s → Fitting s now m P → Full s now m P
    → P (step s now (Heard m))
by_room P s now m whole f g = by_due P s now m whole f g (due (with_deadlines s now) now) refl
