-- What the server's other steps do to the pairs that reached opens: a connection that is made or ends, and a restart.
use Rattle.std.proofs.Common.{◌≡◌, ℕ, ◌+◌, ◌≤◌, nat_le, nat_lt, ◌==◌, Bool, true, false, not, ◌&&◌, ◌||◌, List, [], ◌∷◌}
use Rattle.std.proofs.Common.{◌++◌, length, refl, arith, ◌∙◌, ap, Option, Some, None}
use Rattle.spec_exchange.specs.State.{Server, Accept, End, ServerEvent, Record, Entry, Answer, NewOpen, EpochRecord}
use Rattle.spec_exchange.specs.State.{VersionRecord, CreateRecord, WriteRecord, EndRecord, BasicRecord, DeleteRecord}
use Rattle.spec_exchange.specs.State.{RenameRecord, RemoveRecord, LockRecord, CloseRecord, ExpireRecord}
use Rattle.spec_exchange.specs.Records.{fits, origin_at}
use Rattle.spec_exchange.specs.Opens.{id_of, max_ids, without_gone, drop_open, pending_behind}
use Rattle.spec_exchange.specs.Ranges.{RangeAnswer, Stands, Denied, change_ranges}
use Rattle.spec_exchange.specs.Effects.{set_ranges}
use Rattle.spec_exchange.specs.CheckOpen.{file_of}
use Rattle.spec_exchange.specs.Step.{step, event_answer, carried_out, expiring, with_deadlines, due, expire}
use Rattle.spec_exchange.specs.Step.{expire_records, connection_of, ruling, ruling_without_room, Ruling, Says, TakesIn}
use Rattle.spec_exchange.specs.Step.{TurnsAway, TakesOut, TakesAllOut, max_connections, max_expired_guids}
use Rattle.spec_exchange.specs.Fold.{fold, fold_from, with_record, begin_epoch, sweep, set_version, restore}
use Rattle.spec_exchange.specs.Fold.{created_file, lock_granted, shut_recorded, recovered_from, recovery_records}
use Rattle.spec_exchange.specs.Fold.{nothing_yet, may_create, may_have_open, is_file, may_rename, may_remove}
use Rattle.spec_exchange.specs.Fold.{opening_records}
use Rattle.law_records.proofs.recovery.Marks.{opened_same}
use Rattle.spec_exchange.specs.Status.{success}
use Rattle.spec_exchange.specs.Content.{is_empty}
use Rattle.spec_exchange.specs.Commands.{all_lock, all_unlock}
use Rattle.spec_exchange.specs.Files.{root, exists, passes_room}
use Rattle.law_server.proofs.tables.Logic.{either}
use Rattle.law_order.proofs.order.Pairs.{Alike, Moves, same, moves_alike, moves_on, expire_moves, deadlines_moves}
use Rattle.law_order.proofs.order.Pairs.{take_out_moves, gone_alike, pending_alike, expired_alike, slot_alike}

-- ---- a connection that is made or ends

abbrev pub is_connections : Ruling → Bool
is_connections (Says m v) = false
is_connections (TakesIn k) = true
is_connections TurnsAway = true
is_connections (TakesOut k is_quiet) = true
is_connections (TakesAllOut is_quiet) = false

pub without_room_too : (r : Ruling) → is_connections r ≡ true → is_connections (ruling_without_room r) ≡ true
without_room_too (Says m v) e = absurd (cc)
without_room_too (TakesIn k) e = refl
without_room_too TurnsAway e = refl
without_room_too (TakesOut k is_quiet) e = refl
without_room_too (TakesAllOut is_quiet) e = absurd (cc)

out_moves : (s : Server) (now : ℕ) (r : Ruling) → is_connections r ≡ true → Moves s (carried_out s now r).server
out_moves s now (Says m v) e = absurd (cc)
out_moves s now (TakesIn k) e = moves_alike s _ (record {
  standing = refl;
  present = refl;
  session_of_open = refl;
  sequence = refl;
  epoch = refl;
  open_ids_given = refl;
  making = refl;
  by_guid = refl;
  opened = refl;
})
out_moves s now TurnsAway e = moves_alike s s (same s)
out_moves s now (TakesOut k is_quiet) e = take_out_moves s k now is_quiet
out_moves s now (TakesAllOut is_quiet) e = absurd (cc)

table_moves : (s : Server) (now : ℕ) (e : ServerEvent) → is_connections (ruling s e) ≡ true → Moves s (event_answer s now e).server
table_moves s now e c =
    either (λ (A : Answer). Moves s A.server) (fits s (carried_out s now (ruling s e)).records) _ _
    (λ _. out_moves s now (ruling s e) c) (λ _. out_moves s now (ruling_without_room (ruling s e))
    (without_room_too (ruling s e) c))

expiring_moves : (s : Server) (now : ℕ) (e : ServerEvent) → ((t : Server) → is_connections (ruling t e) ≡ true)
    → (u : Option ℕ) → Moves s (expiring s now e u).server
expiring_moves s now e c None = table_moves s now e (c s)
expiring_moves s now e c (Some o) =
    either (λ (A : Answer). Moves s A.server) (nat_le max_expired_guids s.expired_count) _ _ (λ _. table_moves s now e (c s))
    (λ _. either (λ (A : Answer). Moves s A.server)
    (fits s (expire_records s (origin_at (connection_of e)) o
    ++ (carried_out (expire s o) now (ruling (expire s o) e)).records)) _ _
    (λ _. moves_on s (expire s o) _ (expire_moves s o) (out_moves (expire s o) now (ruling (expire s o) e) (c (expire s o))))
    (λ _. table_moves s now e (c s)))

event_moves : (s : Server) (now : ℕ) (e : ServerEvent) → ((t : Server) → is_connections (ruling t e) ≡ true) → Moves s (step s now e).server
event_moves s now e c =
    let d = with_deadlines s now in let A = expiring d now e (due d now) in
    moves_on s d _ (deadlines_moves s now) (moves_on d A.server _ (expiring_moves d now e c (due d now))
    (moves_alike A.server _ (record {
      standing = refl;
      present = refl;
      session_of_open = refl;
      sequence = refl;
      epoch = refl;
      open_ids_given = refl;
      making = refl;
      by_guid = refl;
      opened = refl;
    })))

pub accept_moves : (s : Server) (now k : ℕ) → Moves s (step s now (Accept k)).server
accept_moves s now k = event_moves s now (Accept k) (λ t. either (λ r. is_connections r ≡ true)
    (nat_le max_connections (length t.connections)) TurnsAway (TakesIn k) (λ _. refl) (λ _. refl))

pub end_moves_all : (s : Server) (now k : ℕ) → Moves s (step s now (End k)).server
end_moves_all s now k = event_moves s now (End k) (λ t. refl)

-- ---- a restart: no session is there, no open is attached, and each sequence is 0

pub record Blank (s : Server) : Type 0 where
  pub present : (x : ℕ) → s.present x ≡ false
  pub session_of_open : (o : ℕ) → s.session_of_open o ≡ None
  pub sequence : (o : ℕ) → s.sequence o ≡ 0

blank_alike : (s t : Server) → Alike s t → Blank s → Blank t
blank_alike s t a b = record {
  present = λ x. ap (λ f. f x) a.present ∙ b.present x;
  session_of_open = λ o. ap (λ f. f o) a.session_of_open ∙ b.session_of_open o;
  sequence = λ o. ap (λ f. f o) a.sequence ∙ b.sequence o;
}

blank_drop : (s : Server) (o : ℕ) → Blank s → Blank (drop_open s o)
blank_drop s o b = record {
  present = b.present;
  session_of_open = λ p. let old = b.session_of_open p in grind arith;
  sequence = b.sequence;
}

blank_shut : (s : Server) (o : ℕ) → Blank s → Blank (shut_recorded s o)
blank_shut s o b = blank_drop (pending_behind s o) o (blank_alike s (pending_behind s o) (pending_alike s o) b)

blank_sweep : (es : List Entry) (s : Server) → Blank s → Blank (sweep s es)
unfolding sweep
blank_sweep [] s b = b
blank_sweep (e ∷ es) s b = blank_sweep es (without_gone s e.file) (blank_alike s (without_gone s e.file) (gone_alike s e.file) b)

blank_epoch : (s : Server) (n : ℕ) → Blank s → Blank (begin_epoch s n)
blank_epoch s n b =
    either Blank (n == s.epoch + 1) _ _ (λ _. let c = blank_sweep s.entries s b in record {
      present = c.present;
      session_of_open = c.session_of_open;
      sequence = c.sequence;
    }) (λ _. b)

blank_restore : (s : Server) (f action : ℕ) (o : Option NewOpen) → Blank s → Blank (restore s f action o)
blank_restore s f action None b = b
blank_restore s f action (Some n) b = record {
  present = b.present;
  session_of_open = λ p. let old = b.session_of_open p in grind arith;
  sequence = λ p. let old = b.sequence p in grind arith;
}

blank_created : (s : Server) (action f : ℕ) (path : List ℕ) (attributes : ℕ) (is_dir : Bool) (time : ℕ) → Blank s
    → Blank (created_file s action f path attributes is_dir time)
blank_created s action f path attributes is_dir time b =
    either Blank (action == 2) _ _ (λ _. record { present = b.present; session_of_open = b.session_of_open; sequence = b.sequence })
    (λ _. either Blank (action == 1) _ _ (λ _. b) (λ _. record {
      present = b.present;
      session_of_open = b.session_of_open;
      sequence = b.sequence;
    }))

blank_granted : (s : Server) (o index number : ℕ) (a : RangeAnswer) → Blank s → Blank (lock_granted s o index number a)
blank_granted s o index number (Denied status) b = b
blank_granted s o index number (Stands ranges) b =
    blank_alike (set_ranges s (file_of s o) ranges) _ (slot_alike (set_ranges s (file_of s o) ranges) o index number 0)
    (record { present = b.present; session_of_open = b.session_of_open; sequence = b.sequence })

blank_record : (s : Server) (r : Record) → Blank s → Blank (with_record s r)
blank_record s (EpochRecord number) b = blank_epoch s number b
blank_record s (VersionRecord number) b = either Blank ((number == 2) && (s.version == 1)) _ _ (λ _. record {
  present = b.present;
  session_of_open = b.session_of_open;
  sequence = b.sequence;
}) (λ _. b)
blank_record s (CreateRecord origin action f path attributes is_dir time opened) b =
    either Blank (may_create s action f path && may_have_open s opened) _ _
    (λ _. blank_restore (created_file s action f path attributes is_dir time) f action opened
    (blank_created s action f path attributes is_dir time b)) (λ _. b)
blank_record s (WriteRecord origin f at time bytes) b =
    either Blank (is_file s f && (not (is_empty bytes) && not (passes_room s f (at + length bytes)))) _ _ (λ _. record {
      present = b.present;
      session_of_open = b.session_of_open;
      sequence = b.sequence;
    }) (λ _. b)
blank_record s (EndRecord origin f size time) b = either Blank (is_file s f && not (passes_room s f size)) _ _
    (λ _. record { present = b.present; session_of_open = b.session_of_open; sequence = b.sequence }) (λ _. b)
blank_record s (BasicRecord origin f basic) b = either Blank (exists s f) _ _ (λ _. record {
  present = b.present;
  session_of_open = b.session_of_open;
  sequence = b.sequence;
}) (λ _. b)
blank_record s (DeleteRecord origin f flag) b = either Blank (exists s f && not (f == root)) _ _ (λ _. record {
  present = b.present;
  session_of_open = b.session_of_open;
  sequence = b.sequence;
}) (λ _. b)
blank_record s (RenameRecord origin f replaced path) b = either Blank (may_rename s f replaced path) _ _ (λ _. record {
  present = b.present;
  session_of_open = b.session_of_open;
  sequence = b.sequence;
}) (λ _. b)
blank_record s (RemoveRecord origin f) b = either Blank (may_remove s f) _ _ (λ _. record {
  present = b.present;
  session_of_open = b.session_of_open;
  sequence = b.sequence;
}) (λ _. b)
blank_record s (LockRecord origin o index number status elements) b =
    either Blank (s.standing o && nat_le index 64) _ _
    (λ _. either Blank (not (all_lock elements || all_unlock elements)) _ _ (λ _. b)
    (λ _. either Blank (status == success) _ _
    (λ _. blank_granted s o index number (change_ranges (s.ranges (file_of s o)) o elements) b)
    (λ _. blank_alike s _ (slot_alike s o index number status) b)))
    (λ _. b)
blank_record s (CloseRecord origin o) b = either Blank (s.standing o) _ _ (λ _. blank_shut s o b) (λ _. b)
blank_record s (ExpireRecord origin o) b =
    either Blank (s.standing o && nat_lt s.expired_count max_expired_guids) _ _
    (λ _. blank_alike (shut_recorded s o) _ (expired_alike (shut_recorded s o) (s.opened o).client_guid
    (s.opened o).create_guid) (blank_shut s o b)) (λ _. b)

blank_fold : (rs : List Record) (s : Server) → Blank s → Blank (fold_from s rs)
unfolding fold_from
blank_fold [] s b = b
blank_fold (r ∷ rs) s b = blank_fold rs (with_record s r) (blank_record s r b)

pub blank_recovered : (s : Server) (rs : List Record) → Blank (recovered_from s rs)
blank_recovered s rs =
    let b = blank_fold (rs ++ recovery_records rs) nothing_yet (record {
      present = λ x. refl;
      session_of_open = λ o. refl;
      sequence = λ o. refl;
    }) in
    record { present = b.present; session_of_open = b.session_of_open; sequence = b.sequence }

-- the next epoch's ids are above those of the one before
fold_more : (xs ys : List Record) (s : Server) → fold_from s (xs ++ ys) ≡ fold_from (fold_from s xs) ys
unfolding fold_from
fold_more [] ys s = refl
fold_more (x ∷ xs) ys s = fold_more xs ys (with_record s x)

epoch_begun : (s : Server) (n : ℕ) → n ≡ s.epoch + 1 → (begin_epoch s n).epoch ≡ n
epoch_begun s n e = grind arith

version_epoch : (s : Server) (n : ℕ) → (set_version s n).epoch ≡ s.epoch
version_epoch s n = either (λ (t : Server). t.epoch ≡ s.epoch) ((n == 2) && (s.version == 1)) _ _ (λ _. refl) (λ _. refl)

recorded_epoch : (d : Server) → (fold_from d (opening_records d)).epoch ≡ d.epoch + 1
unfolding fold_from
recorded_epoch d =
    ap (λ (t : Server). t.epoch) (opened_same d)
    ∙ either (λ (rs : List Record). (fold_from d rs).epoch ≡ d.epoch + 1) (d.version == 1)
    (VersionRecord 2 ∷ EpochRecord (d.epoch + 1) ∷ []) (EpochRecord (d.epoch + 1) ∷ [])
    (λ _. let v = version_epoch d 2 in epoch_begun (set_version d 2) (d.epoch + 1) (grind arith)) (λ _. epoch_begun d (d.epoch + 1) refl)

pub recovered_epoch : (s : Server) (rs : List Record) → (fold rs).epoch ≡ s.epoch → (recovered_from s rs).epoch ≡ s.epoch + 1
recovered_epoch s rs e = ap (λ (t : Server). t.epoch) (fold_more rs (recovery_records rs) nothing_yet)
    ∙ (recorded_epoch (fold rs) ∙ ap (λ n. n + 1) e)

pub recovered_ids : (s : Server) (rs : List Record) → (fold rs).epoch ≡ s.epoch → s.open_ids_given ≤ max_ids
    → id_of s.epoch s.open_ids_given ≤ id_of (recovered_from s rs).epoch (recovered_from s rs).open_ids_given
recovered_ids s rs e l = let n = recovered_epoch s rs e in above s.epoch s.open_ids_given (recovered_from s rs).epoch
    (recovered_from s rs).open_ids_given n l
  where
    above : (epoch given next more : ℕ) → next ≡ epoch + 1 → given ≤ max_ids → id_of epoch given ≤ id_of next more
    above epoch given next more n l = omega (arith, n, l)
