-- The records that a recovery writes down.
use Rattle.std.proofs.Common.{◌≡◌, ℕ, ◌+◌, ◌==◌, Bool, true, false, if◌then◌else◌, List, [], ◌∷◌, ◌++◌, refl, sym, ap, ◌∙◌}
use Rattle.spec_exchange.specs.Fold.{epoch_records}
use Rattle.spec_exchange.specs.State as model
use Rattle.spec_exchange.specs.State.{Server, VersionRecord, EpochRecord}
use Rattle.journal_bytes.specs.record_bytes.Meaning.{records_of}
use Rattle.journal_bytes.specs.declared.record_bytes.value.Record.{Record}
use Rattle.journal_bytes.specs.declared.record_bytes.value.Record.TheVariants.{Version, Epoch}
use Rattle.server_core.proofs.durable_state.Choice.{eq_on, eq_off}
use Rattle.server_core.specs.Opening.{versions_of}

abbrev opens_with : Bool → ℕ → List model.Record
opens_with b count = if b then VersionRecord 2 ∷ EpochRecord count ∷ [] else EpochRecord count ∷ []

written : (b : Bool) (count : ℕ) → records_of ((if b then Version 2 ∷ [] else []) ++ Epoch count ∷ []) ≡ opens_with b count
written true count = refl
written false count = refl

pub opening_is : (s : Server) (version epoch : ℕ) (front rs : List Record) → s.version ≡ version → s.epoch ≡ epoch
    → front ≡ versions_of version → rs ≡ front ++ Epoch (epoch + 1) ∷ [] → records_of rs ≡ epoch_records s
opening_is s version epoch front rs v e f r =
    ap (λ (xs : List Record). records_of xs) (r ∙ ap (λ (xs : List Record). xs ++ Epoch (epoch + 1) ∷ [])
    (f ∙ ap (λ (k : ℕ). versions_of k) (sym v)))
    ∙ (written (s.version == 1) (epoch + 1) ∙ ap (λ (k : ℕ). opens_with (s.version == 1) (k + 1)) (sym e))

pub version_2 : (version : ℕ) (before rs : List Record) → version ≡ 1 → before ≡ [] → rs ≡ before ++ Version 2 ∷ []
    → rs ≡ versions_of version
version_2 version before rs one none r = by (version == 1) (eq_on version 1 one)
  where
    by : (b : Bool) → b ≡ true → rs ≡ (if b then Version 2 ∷ [] else [])
    by true e = r ∙ ap (λ (xs : List Record). xs ++ Version 2 ∷ []) none
    by false e = absurd (cc)

pub no_version : (version : ℕ) (rs : List Record) → (version ≡ 1 → ⊥) → rs ≡ [] → rs ≡ versions_of version
no_version version rs other none = by (version == 1) (eq_off version 1 other)
  where
    by : (b : Bool) → b ≡ false → rs ≡ (if b then Version 2 ∷ [] else [])
    by true e = absurd (cc)
    by false e = none
