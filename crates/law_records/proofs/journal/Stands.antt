-- Each event of the server, and an expiry that stands alone: their records go on standing for the state.
use Rattle.std.proofs.Common.{◌≡◌, ℕ, ◌+◌, nat_le, nat_lt, Bool, true, false, List, [], ◌∷◌, ◌++◌, arith, sym, subst, ap}
use Rattle.std.proofs.Common.{Option, Some, None, is_some, refl}
use Rattle.std.proofs.lemmas.Bool.Decides.{nat_tests}
use Rattle.spec_exchange.specs.State.{Server, ServerEvent, Accept, Heard, End, Record, Origin}
use Rattle.spec_exchange.specs.State as model
use Rattle.spec_exchange.specs.Records.{entry_bytes, fits, origin_at}
use Rattle.spec_exchange.specs.Fold.{fold, fold_from, nothing_yet}
use Rattle.spec_exchange.specs.Effects.{records_if_named}
use Rattle.spec_exchange.specs.Step.{TakesAllOut, behind_expiry, carried_out, connection_of, due, ends_with, event_answer}
use Rattle.spec_exchange.specs.Step.{expire, expire_records, expiring, max_expired_guids, ruling, ruling_without_room, step}
use Rattle.spec_exchange.specs.Step.{take_all_out, take_all_records, take_out, with_deadlines}
use Rattle.law_records.specs.recovery.Recovers.{Mirrors, RecordRecovers}
use Rattle.law_records.proofs.recovery.Ends.{ends_if_named}
use Rattle.law_records.proofs.recovery.Leaves.{expires_recorded, fold_append}
use Rattle.law_records.proofs.recovery.Verdicts.{Good, needs, ender, leaver}
use Rattle.law_records.proofs.recovery.Worlds as worlds
use Rattle.law_server.specs.tables.Fits.{Fits}
use Rattle.law_server.proofs.tables.Logic.{either}
use Rattle.spec_world.specs.Lacking.{Expires, alone_records}

-- ---- what other laws say

abbrev pub Dates : Type 0
Dates = (s : Server) (now : ℕ) → Fits s → Fits (with_deadlines s now)

abbrev pub Loses : Type 0
Loses = (s : Server) (k now : ℕ) (is_quiet : Bool) → Fits s → Fits (take_out s k now is_quiet)

abbrev pub Drops : Type 0
Drops = (s : Server) (o : ℕ) → s.standing o ≡ true → Fits s → Fits (expire s o)

abbrev pub Finds : Type 0
Finds = (s : Server) (now o : ℕ) → Fits s → due (with_deadlines s now) now ≡ Some o
    → (s.standing o ≡ true) × (s.session_of_open o ≡ None)

abbrev pub Counts : Type 0
Counts = (s : Server) (n : ℕ) → Fits s → Fits (record s { journal = n })

-- ---- the open that expires

kept_by : (persistent : Bool) (at : Option ℕ) → at ≡ None → (persistent ≡ false → is_some at ≡ true) → persistent ≡ true
kept_by true at e h = refl
kept_by false at e h = absurd (cc (h refl, ap is_some e))

-- one without a session is persistent
persistent_due : (s : Server) (o : ℕ) → Fits s → s.standing o ≡ true → s.session_of_open o ≡ None → (s.opened o).persistent ≡ true
persistent_due s o i stands none = kept_by (s.opened o).persistent (s.session_of_open o) none (i.plain_attached o stands)

few : (n : ℕ) → nat_le max_expired_guids n ≡ false → nat_lt n max_expired_guids ≡ true
few n e = grind (arith, nat_tests)

expired_recorded : (d s : Server) (g : Origin) (o : ℕ) → Fits s → s.standing o ≡ true → s.session_of_open o ≡ None
    → nat_le max_expired_guids s.expired_count ≡ false → Mirrors d s → Mirrors (fold_from d (expire_records s g o)) (expire s o)
expired_recorded d s g o i stands none room h =
    expires_recorded d s g o (leaver s o (needs s i) stands) (persistent_due s o i stands none) (few s.expired_count room) i.listed h

-- ---- the server stops

module _ (loses : Loses) where
  all_out : (d s : Server) (ks : List ℕ) (now : ℕ) (is_quiet : Bool) → Fits s → Mirrors d s
      → Mirrors (fold_from d (take_all_records s ks now is_quiet)) (take_all_out s ks now is_quiet)
  unfolding take_all_records take_all_out fold_from
  all_out d s [] now is_quiet i h = h
  all_out d s (k ∷ ks) now is_quiet i h =
      let front = records_if_named s (origin_at 0) (ends_with s k) is_quiet in
      let u = take_out s k now is_quiet in
      let first : Mirrors (fold_from d front) u =
      ends_if_named d s (origin_at 0) (ends_with s k) now is_quiet (ender s (needs s i)) h in
      subst (λ (x : Server). Mirrors x (take_all_out u ks now is_quiet))
      (sym (fold_append d front (take_all_records u ks now is_quiet)))
      (all_out (fold_from d front) u ks now is_quiet (loses s k now is_quiet i) first)

  all_good : (d s : Server) (now : ℕ) (is_quiet : Bool) → Fits s → Mirrors d s → Good d (carried_out s now (TakesAllOut is_quiet))
  all_good d s now is_quiet i h = all_out d s s.connections now is_quiet i h

  stop_good : (d s : Server) (now : ℕ) → Fits s → Mirrors d s → Good d (event_answer s now model.Stop)
  stop_good d s now i h =
      either (Good d) (fits s (carried_out s now (ruling s model.Stop)).records) (carried_out s now (ruling s model.Stop))
      (carried_out s now (ruling_without_room (ruling s model.Stop))) (λ _. all_good d s now false i h)
      (λ _. all_good d s now true i h)

  -- behind an expiry
  expiring_good : (d s : Server) (now : ℕ) (x : Option ℕ) → Fits s
      → ((o : ℕ) → x ≡ Some o → (s.standing o ≡ true) × (s.session_of_open o ≡ None))
      → ((o : ℕ) → x ≡ Some o → Fits (expire s o)) → Mirrors d s → Good d (expiring s now model.Stop x)
  expiring_good d s now None i dues behind h = stop_good d s now i h
  expiring_good d s now (Some o) i dues behind h =
      let t = expire s o in
      let front = expire_records s (origin_at 0) o in
      let A = carried_out t now (TakesAllOut false) in
      let is_due = dues o refl in
      either (Good d) (nat_le max_expired_guids s.expired_count) (event_answer s now model.Stop)
      (behind_expiry s now model.Stop front A) (λ _. stop_good d s now i h)
      (λ room. either (Good d) (fits s (front ++ A.records)) (record A { records = front ++ A.records })
      (event_answer s now model.Stop)
      (λ _. subst (λ (x : Server). Mirrors x A.server) (sym (fold_append d front A.records))
      (all_good (fold_from d front) t now false (behind o refl)
      (expired_recorded d s (origin_at 0) o i is_due.0 is_due.1 room h)))
      (λ _. stop_good d s now i h))

  stops : Dates → Drops → Finds → (d s : Server) (now : ℕ) → Fits s → Mirrors d s → Good d (step s now model.Stop)
  stops dates drops finds d s now i h =
      let t = with_deadlines s now in
      expiring_good d t now (due t now) (dates s now i) (λ o e. finds s now o i e)
      (λ o e. drops t o (finds s now o i e).0 (dates s now i)) h

  -- ---- each event

  pub stepped : Dates → Drops → Finds → (rs : List Record) (s : Server) (now : ℕ) (e : ServerEvent) → Fits s → RecordRecovers rs s
      → RecordRecovers (rs ++ (step s now e).records) (step s now e).server
  stepped dates drops finds rs s now (Accept k) i h = worlds.stepped rs s now (Accept k) tt i h
  stepped dates drops finds rs s now (Heard m) i h = worlds.stepped rs s now (Heard m) tt i h
  stepped dates drops finds rs s now (End k) i h = worlds.stepped rs s now (End k) tt i h
  stepped dates drops finds rs s now model.Stop i h =
      subst (λ (x : Server). Mirrors x (step s now model.Stop).server)
      (sym (fold_append nothing_yet rs (step s now model.Stop).records)) (stops dates drops finds (fold rs) s now i h)

-- ---- an expiry that stands alone

alone_by : Dates → Finds → (rs : List Record) (s : Server) (now : ℕ) (e : ServerEvent) (o : ℕ) → Fits s → RecordRecovers rs s
    → due (with_deadlines s now) now ≡ Some o → nat_le max_expired_guids s.expired_count ≡ false
    → Mirrors (fold (rs ++ alone_records s now e o)) (expire (with_deadlines s now) o)
alone_by dates finds rs s now e o i h is_due kept =
    let t = with_deadlines s now in
    let found = finds s now o i is_due in
    subst (λ (x : Server). Mirrors x (expire t o)) (sym (fold_append nothing_yet rs (alone_records s now e o)))
    (expired_recorded (fold rs) t (origin_at (connection_of e)) o (dates s now i) found.0 found.1 kept h)

pub alone : Dates → Finds → (rs : List Record) (s : Server) (now : ℕ) (e : ServerEvent) (t : Server) (o : ℕ) → Fits s → RecordRecovers rs s
    → Expires s now e t o → RecordRecovers (rs ++ alone_records s now e o) t
alone dates finds rs s now e t o i h x =
    subst (λ (u : Server). Mirrors (fold (rs ++ alone_records s now e o)) u) (sym x.behind)
    (alone_by dates finds rs s now e o i h x.is_due x.kept)

pub fits_alone : Dates → Drops → Finds → Counts → (s : Server) (now : ℕ) (e : ServerEvent) (t : Server) (o : ℕ) → Fits s
    → Expires s now e t o → Fits t
fits_alone dates drops finds counts s now e t o i x =
    subst (λ (u : Server). Fits u) (sym x.behind)
    (counts (expire (with_deadlines s now) o) (s.journal + entry_bytes (alone_records s now e o))
    (drops (with_deadlines s now) o (finds s now o i x.is_due).0 (dates s now i)))
