-- Fields and records that stand, seen from another place, and where they end.
use Rattle.std.proofs.Common.{◌≡◌, ℕ, ◌+◌, ◌≤◌, List, [], ◌∷◌, ◌++◌, length, take, drop, refl, sym, ap, subst, ◌∙◌, arith, length-drop}
use Rattle.std.proofs.lemmas.List.{drop-drop}
use Rattle.spec_wire.specs.messages.Places.{number_of, bytes_at}
use Rattle.spec_wire.specs.messages.Table.{Field, Num, Raw, Any, Stands}
use Rattle.journal_bytes.specs.record_bytes.Grammar.{behind_fields, record_table, next_version, version_behind, StandsRecord, AreRecords}
use Rattle.journal_bytes.specs.declared.record_bytes.value.Record.{Record}

-- fields that stand end inside the bytes
pub ends_inside : (m : List ℕ) (at : ℕ) (fs : List Field) → Stands m at fs → behind_fields at fs ≤ length m
ends_inside m at [] s = s
ends_inside m at (Num w n ∷ fs) s = ends_inside m (at + w) fs s.1
ends_inside m at (Raw w b ∷ fs) s = ends_inside m (at + w) fs s.1
ends_inside m at (Any w ∷ fs) s = ends_inside m (at + w) fs s

pub ends_later : (at : ℕ) (fs : List Field) → at ≤ behind_fields at fs
ends_later at [] = omega arith
ends_later at (Num w n ∷ fs) = let later = ends_later (at + w) fs in omega arith
ends_later at (Raw w b ∷ fs) = let later = ends_later (at + w) fs in omega arith
ends_later at (Any w ∷ fs) = let later = ends_later (at + w) fs in omega arith

-- the bytes behind a front
bytes_behind : (w k at : ℕ) (m : List ℕ) → bytes_at w (drop k m) at ≡ bytes_at w m (k + at)
unfolding bytes_at
bytes_behind w k at m = ap (λ (l : List ℕ). take w l) (drop-drop at k m)

same_bytes : (w k at there : ℕ) (m : List ℕ) → there ≡ k + at → bytes_at w m there ≡ bytes_at w (drop k m) at
same_bytes w k at there m e = ap (λ (p : ℕ). bytes_at w m p) e ∙ sym (bytes_behind w k at m)

pub stands_behind : (m : List ℕ) (k at there : ℕ) (fs : List Field) → k ≤ length m → there ≡ k + at
    → Stands (drop k m) at fs → Stands m there fs
stands_behind m k at there [] inside e s = omega (arith, length-drop k m, s)
stands_behind m k at there (Num w n ∷ fs) inside e s = (
  ap number_of (same_bytes w k at there m e) ∙ s.0,
  stands_behind m k (at + w) (there + w) fs inside (omega arith) s.1,
)
stands_behind m k at there (Raw w b ∷ fs) inside e s = (
  same_bytes w k at there m e ∙ s.0,
  stands_behind m k (at + w)
      (there + w) fs inside (omega arith) s.1,
)
stands_behind m k at there (Any w ∷ fs) inside e s = stands_behind m k (at + w) (there + w) fs inside (omega arith) s

pub stands_ahead : (m : List ℕ) (k at there : ℕ) (fs : List Field) → k ≤ length m → there ≡ k + at → Stands m there fs
    → Stands (drop k m) at fs
stands_ahead m k at there [] inside e s = omega (arith, length-drop k m, s)
stands_ahead m k at there (Num w n ∷ fs) inside e s = (
  ap number_of (sym (same_bytes w k at there m e)) ∙ s.0,
  stands_ahead m k (at + w) (there + w) fs inside (omega arith) s.1,
)
stands_ahead m k at there (Raw w b ∷ fs) inside e s = (
  sym (same_bytes w k at there m e) ∙ s.0,
  stands_ahead m k (at + w) (there + w) fs inside (omega arith) s.1,
)
stands_ahead m k at there (Any w ∷ fs) inside e s = stands_ahead m k (at + w) (there + w) fs inside (omega arith) s

pub behind_front : (k at there : ℕ) (fs : List Field) → there ≡ k + at → behind_fields there fs ≡ k + behind_fields at fs
behind_front k at there [] e = e
behind_front k at there (Num w n ∷ fs) e = behind_front k (at + w) (there + w) fs (omega arith)
behind_front k at there (Raw w b ∷ fs) e = behind_front k (at + w) (there + w) fs (omega arith)
behind_front k at there (Any w ∷ fs) e = behind_front k (at + w) (there + w) fs (omega arith)

pub record_behind : (v : ℕ) (m : List ℕ) (k : ℕ) (r : Record) → k ≤ length m → StandsRecord v (drop k m) 0 r → StandsRecord v m k r
record_behind v m k r inside s = record { fields = stands_behind m k 0 k (record_table v r) inside (omega arith) s.fields; kept = s.kept }

pub record_ahead : (v : ℕ) (m : List ℕ) (k : ℕ) (r : Record) → k ≤ length m → StandsRecord v m k r → StandsRecord v (drop k m) 0 r
record_ahead v m k r inside s = record { fields = stands_ahead m k 0 k (record_table v r) inside (omega arith) s.fields; kept = s.kept }

pub end_behind : (v k : ℕ) (r : Record) (end : ℕ) → end ≡ behind_fields 0 (record_table v r) → k + end ≡ behind_fields k (record_table v r)
end_behind v k r end e = ap (λ (n : ℕ). k + n) e ∙ sym (behind_front k 0 k (record_table v r) (omega arith))

-- one record more
pub one_more : (v : ℕ) (m : List ℕ) (at end next : ℕ) (rs : List Record) (r : Record) → AreRecords v m at end rs
    → StandsRecord (version_behind v rs) m end r
    → next ≡ behind_fields end (record_table (version_behind v rs) r) → AreRecords v m at next (rs ++ r ∷ [])
one_more v m at end next [] r are stands is =
    (subst (λ (p : ℕ). StandsRecord v m p r) (sym are) stands, ap (λ (p : ℕ). behind_fields p (record_table v r)) are ∙ sym is)
one_more v m at end next (q ∷ rs) r are stands is = (
  are.0,
  one_more (next_version v q) m (behind_fields at (record_table v q))
      end next rs r are.1 stands is,
)

pub version_more : (v : ℕ) (rs : List Record) (r : Record) → version_behind v (rs ++ r ∷ []) ≡ next_version (version_behind v rs) r
version_more v [] r = refl
version_more v (q ∷ rs) r = version_more (next_version v q) rs r
