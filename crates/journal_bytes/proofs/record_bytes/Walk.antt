-- A walk over a body, record by record.
use Rattle.std.proofs.Common.{◌≡◌, ℕ, ◌+◌, ◌-◌, ◌<◌, ◌≤◌, List, [], ◌∷◌, ◌++◌, length, take, drop, Ok, Err, refl, sym}
use Rattle.std.proofs.Common.{ap, subst, ◌∙◌, arith, length-drop}
use Rattle.journal_bytes.specs.record_bytes.Grammar.{behind_fields, record_table, next_version, version_behind, StandsRecord, AreRecords}
use Rattle.journal_bytes.specs.record_bytes.Grammar.{SpellsRecords, BreaksRecords}
use Rattle.journal_bytes.specs.record_bytes.Reading.{ReadsRecord}
use Rattle.std.proofs.lemmas.Grind.{common_steps}
use Rattle.journal_bytes.specs.declared.record_bytes.fault.Fault.{Fault}
use Rattle.journal_bytes.specs.declared.record_bytes.fault.Fault.TheVariants.{Bad}
use Rattle.journal_bytes.specs.declared.record_bytes.reading.Found.{Found}
use Rattle.journal_bytes.specs.declared.record_bytes.value.Record.{Record}
use Rattle.journal_bytes.proofs.record_bytes.Standing.{record_behind, record_ahead, end_behind, one_more, version_more}

-- these records stand up to a place, and behind them this version is reached
pub record Walked (v : ℕ) (m : List ℕ) (at reached : ℕ) (rs : List Record) : Type 0 where
  pub inside : at ≤ length m
  pub version : reached ≡ version_behind v rs
  pub stand : AreRecords v m 0 at rs

pub went_on : (v : ℕ) (m : List ℕ) (at reached : ℕ) (rs : List Record) (f : Found) (next after : ℕ) (all : List Record)
    → Walked v m at reached rs → ReadsRecord reached (drop at m) (Ok f)
    → next ≡ at + f.end → after ≡ next_version reached f.record → all ≡ rs ++ f.record ∷ [] → Walked v m next after all
went_on v m at reached rs f next after all w is next_is after_is all_is =
    let end : f.end ≤ length (drop at m) = is.2 in
    let size : length (drop at m) ≡ length m - at = length-drop at m in
    let inside : at ≤ length m = w.inside in
    let here : StandsRecord (version_behind v rs) m at f.record = subst (λ (k : ℕ). StandsRecord k m at f.record)
    w.version (record_behind reached m at f.record w.inside is.0) in
    let told : f.end ≡ behind_fields 0 (record_table (version_behind v rs) f.record) = is.1
    ∙ ap (λ (k : ℕ). behind_fields 0 (record_table k f.record)) w.version in
    let last : next ≡ behind_fields at (record_table (version_behind v rs) f.record) = next_is
    ∙ end_behind (version_behind v rs) at f.record f.end told in
    record {
      inside = omega (arith, next_is, end, size, inside);
      version = after_is ∙ ap (λ (k : ℕ). next_version k f.record) w.version ∙ sym (version_more v rs f.record)
          ∙ ap (λ (l : List Record). version_behind v l) (sym all_is);
      stand = subst (λ (l : List Record). AreRecords v m 0 next l) (sym all_is) (one_more v m 0 at next rs f.record w.stand here last);
    }

pub arrived : (v : ℕ) (m : List ℕ) (at reached : ℕ) (rs : List Record) → Walked v m at reached rs → length m ≤ at → SpellsRecords v m rs
arrived v m at reached rs w end =
    let inside : at ≤ length m = w.inside in
    let same : at ≡ length m = omega (arith, inside, end) in
    subst (λ (p : ℕ). AreRecords v m 0 p rs) same w.stand

pub broke : (v : ℕ) (m : List ℕ) (at reached : ℕ) (rs : List Record) → Walked v m at reached rs → at < length m
    → ReadsRecord reached (drop at m) (Err Bad) → BreaksRecords v m at
broke v m at reached rs w inside bad = record {
  front = rs;
  stands = w.stand;
  inside = inside;
  none = λ r s. bad r (record_ahead reached m at r w.inside (subst (λ (k : ℕ). StandsRecord k m at r) (sym w.version) s));
}

rest_of : (m : List ℕ) (at : ℕ) → take (length m - at) (drop at m) ≡ drop at m
rest_of m at = grind (arith, common_steps, length-drop)

pub went_on_in : (v : ℕ) (m : List ℕ) (at reached : ℕ) (rs : List Record) (f : Found) (after : ℕ) (all : List Record)
    → Walked v m at reached rs → ReadsRecord reached (take (length m - at) (drop at m)) (Ok f)
    → after ≡ next_version reached f.record → all ≡ rs ++ f.record ∷ [] → Walked v m (at + f.end) after all
went_on_in v m at reached rs f after all w is after_is all_is = went_on v m at reached rs f (at + f.end) after all w
    (subst (λ (l : List ℕ). ReadsRecord reached l (Ok f)) (rest_of m at) is) refl after_is all_is

pub broke_in : (v : ℕ) (m : List ℕ) (at reached : ℕ) (rs : List Record) (f : Fault) → Walked v m at reached rs
    → at < length m → f ≡ Bad → ReadsRecord reached (take (length m - at) (drop at m)) (Err f) → BreaksRecords v m at
broke_in v m at reached rs f w inside is bad = broke v m at reached rs w inside
    (subst (λ (l : List ℕ). ReadsRecord reached l (Err Bad)) (rest_of m at)
    (subst (λ (e : Fault). ReadsRecord reached (take (length m - at) (drop at m)) (Err e)) is bad))
