-- The body of an event's records, behind those that stand on the disk.
use Rattle.std.proofs.Common.{◌≡◌, ℕ, List, [], ◌∷◌, ◌++◌, refl, sym, ap, subst, arith}
use Rattle.std.proofs.lemmas.List.{append-nil}
use Rattle.spec_exchange.specs.Records.{entry_bytes}
use Rattle.spec_exchange.specs.State as model
use Rattle.journal_bytes.specs.record_bytes.Grammar.{SpellsRecords}
use Rattle.journal_bytes.specs.record_bytes.Meaning.{record_of, records_of}
use Rattle.journal_bytes.specs.declared.record_bytes.value.Record.{Record}
use Rattle.journal_bytes.specs.record_bodies.Body.{IsBody, IsBodyOf, added_by, bodies_of}

-- what `body_law` says of how many bytes a body adds, and of what it reads back
abbrev pub Added : Type 0
Added = (body : List ℕ) (rs : List model.Record) → IsBodyOf body rs → added_by body ≡ entry_bytes rs

abbrev pub Again : Type 0
Again = (body : List ℕ) (r : Record) (rs : List Record) → IsBody body (r ∷ rs) → SpellsRecords 2 body (r ∷ rs)

-- and `more_law` of one body more, where bodies spell records in one way, behind which the version is this
abbrev pub More : (List (List ℕ) → List model.Record → Type 0) → (List model.Record → ℕ) → Type 0
More Spell version = (bodies : List (List ℕ)) (rs : List model.Record) (body : List ℕ) (more : List Record) → Spell bodies rs
    → SpellsRecords (version rs) body more → Spell (bodies ++ body ∷ []) (rs ++ records_of more)

-- a body of records isn't empty
whole : (body : List ℕ) (r : model.Record) (rs : List model.Record) → added_by body ≡ entry_bytes (r ∷ rs) → bodies_of body ≡ body ∷ []
unfolding entry_bytes
whole [] r rs e = absurd (omega (arith, e))
whole (c ∷ cs) r rs e = refl

module _ (Spell : List (List ℕ) → List model.Record → Type 0) (version : List model.Record → ℕ) where
  pub spelled : Added → Again → More Spell version → (bodies : List (List ℕ)) (rs more : List model.Record) (body : List ℕ)
      → Spell bodies rs → version rs ≡ 2 → IsBodyOf body more → Spell (bodies ++ bodies_of body) (rs ++ more)
  spelled added again one bodies rs more body h v p =
      subst (λ (xs : List model.Record). Spell (bodies ++ bodies_of body) (rs ++ xs)) p.1 (by p.0 p.2)
    where
      none : Spell (bodies ++ []) (rs ++ [])
      none = subst (λ (bs : List (List ℕ)). Spell bs (rs ++ [])) (sym (append-nil bodies))
          (subst (λ (xs : List model.Record). Spell bodies xs) (sym (append-nil rs)) h)

      by : (front : List Record) → IsBody body front → Spell (bodies ++ bodies_of body) (rs ++ records_of front)
      by [] b = subst (λ (bs : List (List ℕ)). Spell (bodies ++ bs) (rs ++ [])) (sym (ap (λ (x : List ℕ). bodies_of x) b)) none
      by (x ∷ xs) b =
          let w = whole body (record_of x) (records_of xs) (added body (records_of (x ∷ xs)) (x ∷ xs, refl, b)) in
          subst (λ (bs : List (List ℕ)). Spell (bodies ++ bs) (rs ++ records_of (x ∷ xs))) (sym w)
          (one bodies rs body (x ∷ xs) h (subst (λ (n : ℕ). SpellsRecords n body (x ∷ xs)) (sym v) (again body x xs b)))
