-- Each event of the server, and an expiry that stands alone, over any state that mirrors it: so over a snapshot with records behind.
use Rattle.std.proofs.Common.{◌≡◌, ℕ, nat_le, nat_lt, Bool, true, false, List, [], ◌∷◌, ◌++◌, arith, sym, subst, ap}
use Rattle.std.proofs.Common.{Option, Some, None, is_some, refl}
use Rattle.std.proofs.lemmas.Bool.Decides.{nat_tests}
use Rattle.spec_exchange.specs.State.{Server, ServerEvent, Accept, Heard, End, Record, Origin}
use Rattle.spec_exchange.specs.State as model
use Rattle.spec_exchange.specs.Records.{fits, origin_at}
use Rattle.spec_exchange.specs.Fold.{fold, fold_from, nothing_yet}
use Rattle.spec_exchange.specs.Effects.{records_if_named}
use Rattle.spec_exchange.specs.Step.{TakesAllOut, behind_expiry, carried_out, connection_of, due, ends_with, event_answer}
use Rattle.spec_exchange.specs.Step.{expire, expire_records, expiring, max_expired_guids, ruling, ruling_without_room, step}
use Rattle.spec_exchange.specs.Step.{take_all_out, take_all_records, take_out, with_deadlines}
use Rattle.law_records.specs.recovery.Recovers.{Mirrors, RecordRecovers}
use Rattle.law_records.proofs.recovery.Ends.{ends_if_named}
use Rattle.law_records.proofs.recovery.Leaves.{expires_recorded, fold_append}
use Rattle.law_records.proofs.recovery.Steps.{Runs, steps}
use Rattle.law_records.proofs.recovery.Verdicts.{Good, needs, ender, leaver}
use Rattle.law_server.specs.tables.Fits.{Fits}
use Rattle.law_server.proofs.tables.Logic.{either}
use Rattle.spec_world.specs.Lacking.{Expires, alone_records}
use Rattle.law_snapshots.specs.behind.Alike.{RecordAlike}
use Rattle.law_snapshots.specs.behind.Found.{FoundFor, found}
use Rattle.law_snapshots.specs.snapshots.Kept.{Keeps}
use Rattle.law_snapshots.specs.snapshots.Pieces.{SnapshotPiece, unfolded, with_pieces}
use Rattle.law_snapshots.proofs.behind.Borrowed.{kept, mirrored}
use Rattle.law_snapshots.proofs.behind.Steps.{folds_alike}

-- ---- what other laws say

abbrev pub Dates : Type 0
Dates = (s : Server) (now : ℕ) → Fits s → Fits (with_deadlines s now)

abbrev pub Loses : Type 0
Loses = (s : Server) (k now : ℕ) (is_quiet : Bool) → Fits s → Fits (take_out s k now is_quiet)

abbrev pub Drops : Type 0
Drops = (s : Server) (o : ℕ) → s.standing o ≡ true → Fits s → Fits (expire s o)

abbrev pub Finds : Type 0
Finds = (s : Server) (now o : ℕ) → Fits s → due (with_deadlines s now) now ≡ Some o
    → (s.standing o ≡ true) × (s.session_of_open o ≡ None)

-- ---- the open that expires

kept_by : (persistent : Bool) (at : Option ℕ) → at ≡ None → (persistent ≡ false → is_some at ≡ true) → persistent ≡ true
kept_by true at e h = refl
kept_by false at e h = absurd (cc (h refl, ap is_some e))

-- one without a session is persistent
persistent_due : (s : Server) (o : ℕ) → Fits s → s.standing o ≡ true → s.session_of_open o ≡ None → (s.opened o).persistent ≡ true
persistent_due s o i stands none = kept_by (s.opened o).persistent (s.session_of_open o) none (i.plain_attached o stands)

few : (n : ℕ) → nat_le max_expired_guids n ≡ false → nat_lt n max_expired_guids ≡ true
few n e = grind (arith, nat_tests)

expired_recorded : (d s : Server) (g : Origin) (o : ℕ) → Fits s → s.standing o ≡ true → s.session_of_open o ≡ None
    → nat_le max_expired_guids s.expired_count ≡ false → Mirrors d s → Mirrors (fold_from d (expire_records s g o)) (expire s o)
expired_recorded d s g o i stands none room h =
    expires_recorded d s g o (leaver s o (needs s i) stands) (persistent_due s o i stands none) (few s.expired_count room) i.listed h

-- ---- the server stops

module _ (loses : Loses) where
  all_out : (d s : Server) (ks : List ℕ) (now : ℕ) (is_quiet : Bool) → Fits s → Mirrors d s
      → Mirrors (fold_from d (take_all_records s ks now is_quiet)) (take_all_out s ks now is_quiet)
  unfolding take_all_records take_all_out fold_from
  all_out d s [] now is_quiet i h = h
  all_out d s (k ∷ ks) now is_quiet i h =
      let front = records_if_named s (origin_at 0) (ends_with s k) is_quiet in
      let u = take_out s k now is_quiet in
      let first : Mirrors (fold_from d front) u =
      ends_if_named d s (origin_at 0) (ends_with s k) now is_quiet (ender s (needs s i)) h in
      subst (λ (x : Server). Mirrors x (take_all_out u ks now is_quiet))
      (sym (fold_append d front (take_all_records u ks now is_quiet)))
      (all_out (fold_from d front) u ks now is_quiet (loses s k now is_quiet i) first)

  all_good : (d s : Server) (now : ℕ) (is_quiet : Bool) → Fits s → Mirrors d s → Good d (carried_out s now (TakesAllOut is_quiet))
  all_good d s now is_quiet i h = all_out d s s.connections now is_quiet i h

  stop_good : (d s : Server) (now : ℕ) → Fits s → Mirrors d s → Good d (event_answer s now model.Stop)
  stop_good d s now i h =
      either (Good d) (fits s (carried_out s now (ruling s model.Stop)).records) (carried_out s now (ruling s model.Stop))
      (carried_out s now (ruling_without_room (ruling s model.Stop))) (λ _. all_good d s now false i h)
      (λ _. all_good d s now true i h)

  -- behind an expiry
  expiring_good : (d s : Server) (now : ℕ) (x : Option ℕ) → Fits s
      → ((o : ℕ) → x ≡ Some o → (s.standing o ≡ true) × (s.session_of_open o ≡ None))
      → ((o : ℕ) → x ≡ Some o → Fits (expire s o)) → Mirrors d s → Good d (expiring s now model.Stop x)
  expiring_good d s now None i dues behind h = stop_good d s now i h
  expiring_good d s now (Some o) i dues behind h =
      let t = expire s o in
      let front = expire_records s (origin_at 0) o in
      let A = carried_out t now (TakesAllOut false) in
      let is_due = dues o refl in
      either (Good d) (nat_le max_expired_guids s.expired_count) (event_answer s now model.Stop)
      (behind_expiry s now model.Stop front A) (λ _. stop_good d s now i h)
      (λ room. either (Good d) (fits s (front ++ A.records)) (record A { records = front ++ A.records })
      (event_answer s now model.Stop)
      (λ _. subst (λ (x : Server). Mirrors x A.server) (sym (fold_append d front A.records))
      (all_good (fold_from d front) t now false (behind o refl)
      (expired_recorded d s (origin_at 0) o i is_due.0 is_due.1 room h)))
      (λ _. stop_good d s now i h))

  stops : Dates → Drops → Finds → (d s : Server) (now : ℕ) → Fits s → Mirrors d s → Good d (step s now model.Stop)
  stops dates drops finds d s now i h =
      let t = with_deadlines s now in
      expiring_good d t now (due t now) (dates s now i) (λ o e. finds s now o i e)
      (λ o e. drops t o (finds s now o i e).0 (dates s now i)) h

  -- ---- each event

  runs : Dates → Drops → Finds → (d s : Server) (now : ℕ) (e : ServerEvent) → Runs e → Fits s → Mirrors d s → Good d (step s now e)
  runs dates drops finds d s now e ok i h = steps d s now e ok (needs s i) i.deadlines i.plain_attached
      (λ o q. needs _ (drops (with_deadlines s now) o (finds s now o i q).0 (dates s now i))) h

  events : Dates → Drops → Finds → (d s : Server) (now : ℕ) (e : ServerEvent) → Fits s → Mirrors d s → Good d (step s now e)
  events dates drops finds d s now (Accept k) i h = runs dates drops finds d s now (Accept k) tt i h
  events dates drops finds d s now (Heard m) i h = runs dates drops finds d s now (Heard m) tt i h
  events dates drops finds d s now (End k) i h = runs dates drops finds d s now (End k) tt i h
  events dates drops finds d s now model.Stop i h = stops dates drops finds d s now i h

  pub stepped : Dates → Drops → Finds → (base : List SnapshotPiece) (stored : ℕ → List ℕ) (since : List Record) (s : Server) (now : ℕ)
      (e : ServerEvent) → Fits s → FoundFor base stored since s
      → FoundFor base stored (since ++ (step s now e).records) (step s now e).server
  stepped dates drops finds base stored since s now e i h =
      let d = found base stored since in let rs = (step s now e).records in
      let m : (x : Server) × RecordAlike d x × Mirrors x s = mirrored d s h in
      subst (λ (x : Server). Keeps x (step s now e).server) (sym (fold_append (unfolded base stored) since rs))
      (kept (fold_from d rs) (fold_from m.0 rs) (step s now e).server (folds_alike d m.0 rs m.1)
      (events dates drops finds m.0 s now e i m.2))

-- ---- an expiry that stands alone

pub alone : Dates → Finds → (base : List SnapshotPiece) (stored : ℕ → List ℕ) (since : List Record) (s : Server) (now : ℕ) (e : ServerEvent)
    (t : Server) (o : ℕ) → Fits s → FoundFor base stored since s → Expires s now e t o
    → FoundFor base stored (since ++ alone_records s now e o) t
alone dates finds base stored since s now e t o i h x =
    let u = with_deadlines s now in let f = finds s now o i x.is_due in
    let d = found base stored since in let rs = alone_records s now e o in
    let m : (y : Server) × RecordAlike d y × Mirrors y s = mirrored d s h in
    let behind : Mirrors (fold_from m.0 rs) (expire u o) =
    expired_recorded m.0 u (origin_at (connection_of e)) o (dates s now i) f.0 f.1 x.kept m.2 in
    let kept_mirror : Mirrors (fold_from m.0 rs) t = subst (λ (y : Server). Mirrors (fold_from m.0 rs) y) (sym x.behind) behind in
    subst (λ (y : Server). Keeps y t) (sym (fold_append (unfolded base stored) since rs))
    (kept (fold_from d rs) (fold_from m.0 rs) t (folds_alike d m.0 rs m.1) kept_mirror)

-- ---- a journal without a snapshot

pub plain : (stored : ℕ → List ℕ) (rs : List Record) (s : Server) → RecordRecovers rs s → FoundFor [] stored rs s
unfolding with_pieces
plain stored rs s h =
    let d : Server = record nothing_yet { stored = stored } in
    let a : RecordAlike d nothing_yet = record {
      is = refl;
      basic = λ f e. refl;
      at = λ f e. record { directory = refl; delete_pending = refl; content = refl };
      slots = λ o i l m. refl;
    } in
    kept (fold_from d rs) (fold rs) s (folds_alike d nothing_yet rs a) h
