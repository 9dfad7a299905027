-- Bodies spell one list of records, and each of them a part of it.
use Rattle.std.proofs.Common.{◌≡◌, inl, inr, ℕ, zero, suc, Bool, true, false, List, [], ◌∷◌, ◌++◌, take, slice_get, Some, sym, ap}
use Rattle.std.proofs.Common.{subst, ◌∙◌, append_assoc}
use Rattle.spec_exchange.specs.Fold.{nothing_yet, fold_from}
use Rattle.spec_exchange.specs.State as model
use Rattle.spec_exchange.specs.State.{Server}
use Rattle.spec_journal.specs.Forms.{StandsFor}
use Rattle.journal_bytes.specs.record_bytes.Grammar.{BreaksRecords, SpellsRecords}
use Rattle.journal_bytes.specs.record_bytes.Meaning.{records_of}
use Rattle.journal_bytes.specs.declared.record_bytes.value.Record.{Record}
use Rattle.law_server.specs.tables.Fits.{all_sound}
use Rattle.server_core.specs.Reading.{BodiesSpell, NoServerWrites, SpellFrom}
use Rattle.server_core.proofs.Bodies.{fold_both}

abbrev pub MeansOne : Type 0
MeansOne = (bytes : List ℕ) (a b : List (List ℕ)) → StandsFor bytes a → StandsFor bytes b → a ≡ b

abbrev pub SpellsOne : Type 0
SpellsOne = (v : ℕ) (m : List ℕ) (rs ss : List Record) → SpellsRecords v m rs → SpellsRecords v m ss → rs ≡ ss

abbrev pub SpellsWhole : Type 0
SpellsWhole = (v : ℕ) (m : List ℕ) (place : ℕ) (rs : List Record) → BreaksRecords v m place → SpellsRecords v m rs → ⊥

clash : (b : Bool) → b ≡ false → b ≡ true → ⊥
clash b e f = cc

-- ---- one list of records

module _ (one : SpellsOne) where
  pub spell_once : (s : Server) (bodies : List (List ℕ)) (rs ss : List model.Record) → SpellFrom s bodies rs → SpellFrom s bodies ss
      → rs ≡ ss
  spell_once s [] rs ss a b = a ∙ sym b
  spell_once s (body ∷ bodies) rs ss a b =
      let front : a.0 ≡ b.0 = one s.version body a.0 b.0 a.2 b.2 in
      let rest : a.1 ≡ b.1 = spell_once (fold_from s (records_of a.0)) bodies a.1 b.1 a.4
      (subst (λ (f : List Record). SpellFrom (fold_from s (records_of f)) bodies b.1) (sym front) b.4) in
      a.3 ∙ ap (λ (f : List Record). records_of f ++ a.1) front ∙ ap (λ (r : List model.Record). records_of b.0 ++ r) rest ∙ sym b.3

  -- the body behind the first ones is a part of the records, in the version that those before it have reached
  pub spell_at : (s : Server) (k : ℕ) (bodies : List (List ℕ)) (body : List ℕ) (rs fs : List model.Record) → SpellFrom s bodies rs
      → slice_get bodies k ≡ Some body → SpellFrom s (take k bodies) fs
      → (mine : List Record) × (more : List model.Record) × SpellsRecords (fold_from s fs).version body mine
      × (rs ≡ fs ++ (records_of mine ++ more))
  unfolding fold_from
  spell_at s k [] body rs fs a here b = absurd (cc)
  spell_at s zero (first ∷ bodies) body rs fs a here b =
      let same : first ≡ body = cc in (
        a.0,
        a.1,
        subst (λ (m : List ℕ). SpellsRecords (fold_from s fs).version m a.0) same
            (subst (λ (xs : List model.Record). SpellsRecords (fold_from s xs).version first a.0) (sym b) a.2),
        a.3 ∙ ap (λ (xs : List model.Record). xs ++ (records_of a.0 ++ a.1)) (sym b),
      )
  spell_at s (suc k) (first ∷ bodies) body rs fs a here b =
      let front : b.0 ≡ a.0 = one s.version first b.0 a.0 b.2 a.2 in
      let u = fold_from s (records_of a.0) in
      let r = spell_at u k bodies body a.1 b.1 a.4 here
      (subst (λ (f : List Record). SpellFrom (fold_from s (records_of f)) (take k bodies) b.1) front b.4) in
      let all : fs ≡ records_of a.0 ++ b.1 = b.3 ∙ ap (λ (f : List Record). records_of f ++ b.1) front in (
        r.0,
        r.1,
        subst (λ (xs : List model.Record). SpellsRecords (fold_from s xs).version body r.0) (sym all)
            (subst (λ (w : Server). SpellsRecords w.version body r.0) (sym (fold_both s (records_of a.0) b.1)) r.2),
        a.3 ∙ (ap (λ (xs : List model.Record). records_of a.0 ++ xs) r.3
            ∙ (sym (append_assoc (records_of a.0) b.1 (records_of r.0 ++ r.1))
            ∙ ap (λ (xs : List model.Record). xs ++ (records_of r.0 ++ r.1)) (sym all))),
      )

  -- ---- on a disk

  pub same_records : MeansOne → (bytes : List ℕ) (bodies others : List (List ℕ)) (records more : List model.Record)
      → StandsFor bytes bodies → BodiesSpell bodies records → StandsFor bytes others → BodiesSpell others more → records ≡ more
  same_records meaning bytes bodies others records more stands spelled so told =
      spell_once nothing_yet others records more
      (subst (λ (bs : List (List ℕ)). BodiesSpell bs records) (meaning bytes bodies others stands so) spelled) told

  pub not_foreign : SpellsWhole → (version : ℕ) (body : List ℕ) (mine : List Record) → SpellsRecords version body mine
      → all_sound (records_of mine) ≡ true → NoServerWrites version body → ⊥
  not_foreign whole version body mine spells ok (inl broken) = whole version body broken.0 mine broken.1 spells
  not_foreign whole version body mine spells ok (inr other) =
      clash (all_sound (records_of mine))
      (ap (λ (xs : List Record). all_sound (records_of xs)) (one version body mine other.0 spells other.1) ∙ other.2) ok
