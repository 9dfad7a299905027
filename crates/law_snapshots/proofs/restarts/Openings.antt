-- What a start changes of the state that it finds: its epoch, the files that go, and marks.
use Rattle.std.proofs.Common.{◌≡◌, ℕ, ◌+◌, ◌==◌, Bool, true, ◌&&◌, List, [], ◌∷◌, refl, arith, sym, ◌∙◌, ap}
use Rattle.spec_exchange.specs.State.{Server, Entry, Record, EpochRecord, VersionRecord}
use Rattle.spec_exchange.specs.Files.{remove_file}
use Rattle.spec_exchange.specs.Opens.{goes, without_gone}
use Rattle.spec_exchange.specs.Fold.{fold_from, sweep, begin_epoch, set_version, epoch_records, opening_records}
use Rattle.law_server.proofs.tables.Logic.{either}
use Rattle.law_records.proofs.recovery.Marks.{opened_same}

gone_same : (s : Server) (f : ℕ) → without_gone s f ≡ record s { entries = (without_gone s f).entries }
gone_same s f = either (λ (x : Server). x ≡ record s { entries = x.entries }) (goes s f) (remove_file s f) s (λ _. refl) (λ _. refl)

swept_same : (s : Server) (es : List Entry) → sweep s es ≡ record s { entries = (sweep s es).entries }
unfolding sweep
swept_same s [] = refl
swept_same s (e ∷ es) =
    let u : Server = without_gone s e.file in
    swept_same u es ∙ ap (λ (x : Server). record x { entries = (sweep u es).entries }) (gone_same s e.file)

-- x is d in this epoch
abbrev pub Begins : Server → ℕ → Server → Type 0
Begins d n x = (v : ℕ) × (es : List Entry) × (x ≡ record d {
  version = v;
  entries = es;
  epoch = n;
  open_ids_given = 0;
  session_ids_given = 0;
})

same_test : (n m : ℕ) → n ≡ m → (n == m) ≡ true
same_test n m e = grind arith

epoch_begins : (d : Server) (n : ℕ) → n ≡ d.epoch + 1 → Begins d n (begin_epoch d n)
epoch_begins d n e =
    let step : begin_epoch d n ≡ record (sweep d d.entries) {
      epoch = n;
      open_ids_given = 0;
      session_ids_given = 0;
    } = rw (same_test n (d.epoch + 1) e) refl in (
      d.version,
      (sweep d d.entries).entries,
      step ∙ ap (λ (x : Server). record x {
        epoch = n;
        open_ids_given = 0;
        session_ids_given = 0;
      }) (swept_same d d.entries),
    )

-- the version alone is raised
version_same : (d : Server) → set_version d 2 ≡ record d { version = (set_version d 2).version }
version_same d = either (λ (x : Server). x ≡ record d { version = x.version }) ((2 == 2) && (d.version == 1)) (record d { version = 2 }) d
    (λ _. refl) (λ _. refl)

raised_begins : (d : Server) → Begins d (d.epoch + 1) (begin_epoch (set_version d 2) (d.epoch + 1))
raised_begins d =
    let u : Server = set_version d 2 in
    let same : u ≡ record d { version = u.version } = version_same d in
    let b : Begins u (d.epoch + 1) (begin_epoch u (d.epoch + 1)) =
    epoch_begins u (d.epoch + 1) (sym (ap (λ (x : Server). x.epoch + 1) same)) in (
      b.0,
      b.1,
      b.2 ∙ ap (λ (x : Server). record x {
        version = b.0;
        entries = b.1;
        epoch = d.epoch + 1;
        open_ids_given = 0;
        session_ids_given = 0;
      }) same,
    )

pub begins : (d : Server) → Begins d (d.epoch + 1) (fold_from d (epoch_records d))
unfolding fold_from
begins d =
    either (λ (rs : List Record). Begins d (d.epoch + 1) (fold_from d rs)) (d.version == 1)
    (VersionRecord 2 ∷ EpochRecord (d.epoch + 1) ∷ []) (EpochRecord (d.epoch + 1) ∷ [])
    (λ _. raised_begins d) (λ _. epoch_begins d (d.epoch + 1) refl)

-- and behind it marks are cleared
abbrev pub IsOpened : Server → Server → Type 0
IsOpened d x = (v : ℕ) × (es : List Entry) × (p : ℕ → Bool) × (x ≡ record d {
  version = v;
  entries = es;
  epoch = d.epoch + 1;
  open_ids_given = 0;
  session_ids_given = 0;
  delete_pending = p;
})

pub opened : (d : Server) → IsOpened d (fold_from d (opening_records d))
opened d =
    let b : Begins d (d.epoch + 1) (fold_from d (epoch_records d)) = begins d in
    let p : ℕ → Bool = (fold_from d (opening_records d)).delete_pending in
    (b.0, b.1, p, opened_same d ∙ ap (λ (x : Server). record x { delete_pending = p }) b.2)
