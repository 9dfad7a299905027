-- Bodies are one snapshot with one list of records behind it, and a start refuses none of them.
use Rattle.std.proofs.Common.{◌≡◌, ◌⊎◌, inl, inr, ℕ, ◌≤◌, zero, suc, Bool, true, false, List, [], ◌∷◌, ◌++◌, take, slice_get, Some, refl}
use Rattle.std.proofs.Common.{sym, ap}
use Rattle.std.proofs.Common.{subst, ◌∙◌, arith}
use Rattle.std.proofs.lemmas.Bool.Decides.{nat_tests}
use Rattle.spec_exchange.specs.Fold.{nothing_yet, fold_from}
use Rattle.spec_exchange.specs.State as model
use Rattle.spec_exchange.specs.State.{Server}
use Rattle.spec_wire.specs.messages.Places.{number, number_of, bytes_at}
use Rattle.spec_journal.specs.Forms.{BreaksAt, StandsFor}
use Rattle.law_server.specs.tables.Fits.{all_sound}
use Rattle.law_snapshots.specs.snapshots.Pieces.{SnapshotPiece, with_pieces}
use Rattle.law_snapshots.specs.snapshots.Taken.{takes_pieces}
use Rattle.journal_bytes.specs.piece_bytes.Grammar.{BreaksPieces, SpellsPieces}
use Rattle.journal_bytes.specs.record_bytes.Grammar.{SpellsRecords}
use Rattle.journal_bytes.specs.record_bytes.Meaning.{records_of}
use Rattle.journal_bytes.specs.declared.record_bytes.value.Record.{Record}
use Rattle.journal_bytes.proofs.piece_bytes.Told as pieces
use Rattle.journal_bytes.proofs.record_bytes.Told as records
use Rattle.server_core.specs.Reading.{NoServerWrites, PiecesFrom, SpellFrom, SpellOver, begins_pieces}
use Rattle.server_core.specs.restart_tables.Restart.{IsNoBody}
use Rattle.server_core.proofs.Bodies.{sound_back, sound_front}
use Rattle.server_core.proofs.SnapshotBodies.{pieces_joined}
use Rattle.server_core.proofs.restarts.Spelled.{MeansOne, SpellsOne, SpellsWhole, not_foreign, spell_at, spell_once}

abbrev pub PiecesOne : Type 0
PiecesOne = (m : List ℕ) (ps qs : List SnapshotPiece) → SpellsPieces m ps → SpellsPieces m qs → ps ≡ qs

abbrev pub PiecesWhole : Type 0
PiecesWhole = (m : List ℕ) (place : ℕ) (ps : List SnapshotPiece) → BreaksPieces m place → SpellsPieces m ps → ⊥

abbrev pub PiecesApart : Type 0
PiecesApart = (v : ℕ) (m : List ℕ) (p : SnapshotPiece) (ps : List SnapshotPiece) (rs : List Record) → SpellsPieces m (p ∷ ps)
    → SpellsRecords v m rs → ⊥

clash : (b : Bool) → b ≡ false → b ≡ true → ⊥
clash b e f = cc

-- ---- the first byte

first_number : (b : ℕ) (bs : List ℕ) → number 1 (b ∷ bs) 0 ≡ b
unfolding number_of bytes_at
first_number b bs = omega arith

pub pieces_begin : (m : List ℕ) (p : SnapshotPiece) (ps : List SnapshotPiece) → SpellsPieces m (p ∷ ps) → begins_pieces m ≡ true
unfolding number_of bytes_at
pieces_begin [] p ps h = absurd (omega (arith, (pieces.is_known [] p h.0).0))
pieces_begin (b ∷ bs) p ps h =
    let known : 64 ≤ number 1 (b ∷ bs) 0 = (pieces.is_known (b ∷ bs) p h.0).0 in
    let first = first_number b bs in
    grind (arith, nat_tests)

pub records_begin : (v : ℕ) (m : List ℕ) (rs : List Record) → SpellsRecords v m rs → begins_pieces m ≡ false
records_begin v [] rs h = refl
records_begin v (b ∷ bs) [] h = absurd (omega (arith, h))
records_begin v (b ∷ bs) (r ∷ rs) h =
    let known : number 1 (b ∷ bs) 0 ≤ 12 = (records.is_known v (b ∷ bs) r h.0).1 in
    let first = first_number b bs in
    grind (arith, nat_tests)

module _ (one : SpellsOne) (one_snapshot : PiecesOne) (apart : PiecesApart) where
  -- ---- one snapshot, and one list of records

  -- where neither begins with pieces
  no_more : (s u v : Server) (bs cs : List (List ℕ)) (ps qs : List SnapshotPiece) (rs ts : List model.Record) → bs ≡ cs → ps ≡ []
      → qs ≡ [] → u ≡ with_pieces s ps → v ≡ with_pieces s qs → SpellFrom u bs rs → SpellFrom v cs ts → (ps ≡ qs) × (rs ≡ ts)
  no_more s u v bs cs ps qs rs ts same p q a b h k =
      let states : v ≡ u = b ∙ ap (λ (xs : List SnapshotPiece). with_pieces s xs) (q ∙ sym p) ∙ sym a in (
        p ∙ sym q,
        spell_once one u bs rs ts h
            (subst (λ (w : Server). SpellFrom w bs ts) states (subst (λ (xs : List (List ℕ)). SpellFrom v xs ts) (sym same) k)),
      )

  pub spell_both : (s u v : Server) (fs gs bs cs : List (List ℕ)) (ps qs : List SnapshotPiece) (rs ts : List model.Record)
      → fs ++ bs ≡ gs ++ cs → PiecesFrom s fs ps → PiecesFrom s gs qs → u ≡ with_pieces s ps → v ≡ with_pieces s qs → SpellFrom u bs rs
      → SpellFrom v cs ts → (ps ≡ qs) × (rs ≡ ts)
  spell_both s u v [] [] bs cs ps qs rs ts same p q a b h k = no_more s u v bs cs ps qs rs ts same p q a b h k
  spell_both s u v [] (g ∷ gs) bs cs ps qs rs ts same p q a b h k =
      let x : SpellFrom u (g ∷ (gs ++ cs)) rs = subst (λ (xs : List (List ℕ)). SpellFrom u xs rs) same h in
      absurd (apart u.version g q.0 q.1 x.0 q.3 x.2)
  spell_both s u v (f ∷ fs) [] bs cs ps qs rs ts same p q a b h k =
      let x : SpellFrom v (f ∷ (fs ++ bs)) ts = subst (λ (xs : List (List ℕ)). SpellFrom v xs ts) (sym same) k in
      absurd (apart v.version f p.0 p.1 x.0 p.3 x.2)
  spell_both s u v (f ∷ fs) (g ∷ gs) bs cs ps qs rs ts same p q a b h k =
      let first : f ≡ g = cc in
      let rest : fs ++ bs ≡ gs ++ cs = cc in
      let front : q.0 ∷ q.1 ≡ p.0 ∷ p.1 = one_snapshot g (q.0 ∷ q.1) (p.0 ∷ p.1) q.3
      (subst (λ (m : List ℕ). SpellsPieces m (p.0 ∷ p.1)) first p.3) in
      let w : Server = with_pieces s (p.0 ∷ p.1) in
      let all : qs ≡ (p.0 ∷ p.1) ++ q.2 = q.5 ∙ ap (λ (xs : List SnapshotPiece). xs ++ q.2) front in
      let r = spell_both w u v fs gs bs cs p.2 q.2 rs ts rest p.6
      (subst (λ (xs : List SnapshotPiece). PiecesFrom (with_pieces s xs) gs q.2) front q.6)
      (a ∙ (ap (λ (xs : List SnapshotPiece). with_pieces s xs) p.5 ∙ pieces_joined s (p.0 ∷ p.1) p.2))
      (b ∙ (ap (λ (xs : List SnapshotPiece). with_pieces s xs) all ∙ pieces_joined s (p.0 ∷ p.1) q.2)) h k in (
        p.5 ∙ (ap (λ (xs : List SnapshotPiece). (p.0 ∷ p.1) ++ xs) r.0 ∙ sym all),
        r.1,
      )

  pub same_over : MeansOne → (bytes : List ℕ) (bodies others : List (List ℕ)) (base more : List SnapshotPiece)
      (records next : List model.Record) → StandsFor bytes bodies → SpellOver base bodies records → StandsFor bytes others
      → SpellOver more others next → (base ≡ more) × (records ≡ next)
  same_over meaning bytes bodies others base more records next stands spelled so told =
      let same : bodies ≡ others = meaning bytes bodies others stands so in
      spell_both nothing_yet (with_pieces nothing_yet base) (with_pieces nothing_yet more) spelled.front told.front spelled.back told.back
      base more records next (sym spelled.bodies_are ∙ (same ∙ told.bodies_are)) spelled.pieces told.pieces refl refl spelled.records
      told.records

  -- ---- no body is refused

  -- behind a state that is v, with the first bodies cs of records ts, no server writes this body
  abbrev Refuses : Server → List (List ℕ) → List model.Record → List ℕ → Type 0
  Refuses v cs ts body = ((begins_pieces body ≡ true) × ((cs ≡ [] → ⊥) ⊎ ((place : ℕ) × BreaksPieces body place)
      ⊎ ((ps : List SnapshotPiece) × SpellsPieces body ps × (takes_pieces v ps ≡ false))))
      ⊎ ((begins_pieces body ≡ false) × NoServerWrites (fold_from v ts).version body)

  -- a body of records
  of_records : SpellsWhole → (u : Server) (k : ℕ) (bs : List (List ℕ)) (body : List ℕ) (rs ts : List model.Record) → SpellFrom u bs rs
      → all_sound rs ≡ true → slice_get bs k ≡ Some body → SpellFrom u (take k bs) ts → Refuses u (take k bs) ts body → ⊥
  of_records whole u k bs body rs ts h ok here b (inl x) =
      let r = spell_at one u k bs body rs ts h here b in
      clash (begins_pieces body) (records_begin (fold_from u ts).version body r.0 r.2) x.0
  of_records whole u k bs body rs ts h ok here b (inr x) =
      let r = spell_at one u k bs body rs ts h here b in
      let back = sound_back ts (records_of r.0 ++ r.1) (subst (λ (xs : List model.Record). all_sound xs ≡ true) r.3 ok) in
      not_foreign one whole (fold_from u ts).version body r.0 r.2 (sound_front (records_of r.0) r.1 back) x.1

  among_records : SpellsWhole → (s u v : Server) (k : ℕ) (bs gs cs : List (List ℕ)) (ps qs : List SnapshotPiece) (body : List ℕ)
      (rs ts : List model.Record) → ps ≡ [] → u ≡ with_pieces s ps → SpellFrom u bs rs → all_sound rs ≡ true → slice_get bs k ≡ Some body
      → take k bs ≡ gs ++ cs → PiecesFrom s gs qs → v ≡ with_pieces s qs → SpellFrom v cs ts → Refuses v cs ts body → ⊥
  among_records whole s u v k bs [] cs ps qs body rs ts p a h ok here split q b told never =
      let states : v ≡ u = b ∙ ap (λ (xs : List SnapshotPiece). with_pieces s xs) (q ∙ sym p) ∙ sym a in
      of_records whole u k bs body rs ts h ok here
      (subst (λ (w : Server). SpellFrom w (take k bs) ts) states (subst (λ (xs : List (List ℕ)). SpellFrom v xs ts) (sym split) told))
      (subst (λ (w : Server). Refuses w (take k bs) ts body) states
      (subst (λ (xs : List (List ℕ)). Refuses v xs ts body) (sym split) never))
  among_records whole s u v k [] (g ∷ gs) cs ps qs body rs ts p a h ok here split q b told never = absurd (cc)
  among_records whole s u v zero (c ∷ bs) (g ∷ gs) cs ps qs body rs ts p a h ok here split q b told never = absurd (cc)
  among_records whole s u v (suc k) (c ∷ bs) (g ∷ gs) cs ps qs body rs ts p a h ok here split q b told never =
      let first : c ≡ g = cc in
      apart u.version g q.0 q.1 h.0 q.3 (subst (λ (m : List ℕ). SpellsRecords u.version m h.0) first h.2)

  -- the first body of pieces
  of_pieces : PiecesWhole → (s v : Server) (f body : List ℕ) (p : SnapshotPiece) (front : List SnapshotPiece) (cs : List (List ℕ))
      (ts : List model.Record) → f ≡ body → SpellsPieces f (p ∷ front) → takes_pieces s (p ∷ front) ≡ true → v ≡ s → cs ≡ []
      → Refuses v cs ts body → ⊥
  of_pieces broken s v f body p front cs ts same spells taken is none (inl (begins, inl behind)) = behind none
  of_pieces broken s v f body p front cs ts same spells taken is none (inl (begins, inr (inl x))) =
      broken body x.0 (p ∷ front) x.1 (subst (λ (m : List ℕ). SpellsPieces m (p ∷ front)) same spells)
  of_pieces broken s v f body p front cs ts same spells taken is none (inl (begins, inr (inr x))) =
      let all : x.0 ≡ p ∷ front = one_snapshot body x.0 (p ∷ front) x.1
      (subst (λ (m : List ℕ). SpellsPieces m (p ∷ front)) same spells) in
      clash (takes_pieces s (p ∷ front))
      (sym (ap (λ (xs : List SnapshotPiece). takes_pieces s xs) all) ∙ (sym (ap (λ (w : Server). takes_pieces w x.0) is) ∙ x.2)) taken
  of_pieces broken s v f body p front cs ts same spells taken is none (inr x) =
      clash (begins_pieces body) x.0 (pieces_begin body p front (subst (λ (m : List ℕ). SpellsPieces m (p ∷ front)) same spells))

  refused_no : SpellsWhole → PiecesWhole → (s u v : Server) (k : ℕ) (fs bs gs cs : List (List ℕ)) (ps qs : List SnapshotPiece)
      (body : List ℕ) (rs ts : List model.Record) → PiecesFrom s fs ps → u ≡ with_pieces s ps → SpellFrom u bs rs → all_sound rs ≡ true
      → slice_get (fs ++ bs) k ≡ Some body → take k (fs ++ bs) ≡ gs ++ cs → PiecesFrom s gs qs → v ≡ with_pieces s qs
      → SpellFrom v cs ts → Refuses v cs ts body → ⊥
  unfolding with_pieces
  refused_no whole broken s u v k [] bs gs cs ps qs body rs ts p a h ok here split q b told never =
      among_records whole s u v k bs gs cs ps qs body rs ts p a h ok here split q b told never
  refused_no whole broken s u v zero (f ∷ fs) bs [] [] ps qs body rs ts p a h ok here split q b told never =
      let same : f ≡ body = cc in
      of_pieces broken s v f body p.0 p.1 [] ts same p.3 p.4 (b ∙ ap (λ (xs : List SnapshotPiece). with_pieces s xs) q) refl never
  refused_no whole broken s u v zero (f ∷ fs) bs [] (c ∷ cs) ps qs body rs ts p a h ok here split q b told never = absurd (cc)
  refused_no whole broken s u v zero (f ∷ fs) bs (g ∷ gs) cs ps qs body rs ts p a h ok here split q b told never = absurd (cc)
  refused_no whole broken s u v (suc k) (f ∷ fs) bs [] cs ps qs body rs ts p a h ok here split q b told never =
      let x : SpellFrom v (f ∷ take k (fs ++ bs)) ts = subst (λ (xs : List (List ℕ)). SpellFrom v xs ts) (sym split) told in
      apart v.version f p.0 p.1 x.0 p.3 x.2
  refused_no whole broken s u v (suc k) (f ∷ fs) bs (g ∷ gs) cs ps qs body rs ts p a h ok here split q b told never =
      let first : f ≡ g = cc in
      let rest : take k (fs ++ bs) ≡ gs ++ cs = cc in
      let front : q.0 ∷ q.1 ≡ p.0 ∷ p.1 = one_snapshot g (q.0 ∷ q.1) (p.0 ∷ p.1) q.3
      (subst (λ (m : List ℕ). SpellsPieces m (p.0 ∷ p.1)) first p.3) in
      let all : qs ≡ (p.0 ∷ p.1) ++ q.2 = q.5 ∙ ap (λ (xs : List SnapshotPiece). xs ++ q.2) front in
      refused_no whole broken (with_pieces s (p.0 ∷ p.1)) u v k fs bs gs cs p.2 q.2 body rs ts p.6
      (a ∙ (ap (λ (xs : List SnapshotPiece). with_pieces s xs) p.5 ∙ pieces_joined s (p.0 ∷ p.1) p.2)) h ok here rest
      (subst (λ (xs : List SnapshotPiece). PiecesFrom (with_pieces s xs) gs q.2) front q.6)
      (b ∙ (ap (λ (xs : List SnapshotPiece). with_pieces s xs) all ∙ pieces_joined s (p.0 ∷ p.1) q.2)) told never

  some_body : SpellsWhole → PiecesWhole → MeansOne → (bytes : List ℕ) (bodies : List (List ℕ)) (base : List SnapshotPiece)
      (records : List model.Record) (at : ℕ) → StandsFor bytes bodies → SpellOver base bodies records → all_sound records ≡ true
      → IsNoBody bytes at → ⊥
  some_body whole broken meaning bytes bodies base records at stands spelled ok n =
      let same : n.0 ≡ spelled.front ++ spelled.back = sym (meaning bytes bodies n.0 stands n.5) ∙ spelled.bodies_are in
      refused_no whole broken nothing_yet (with_pieces nothing_yet base) (with_pieces nothing_yet n.3) n.1 spelled.front spelled.back
      n.8.front n.8.back base n.3 n.2 records n.4 spelled.pieces refl spelled.records ok
      (subst (λ (bs : List (List ℕ)). slice_get bs n.1 ≡ Some n.2) same n.6)
      (ap (λ (bs : List (List ℕ)). take n.1 bs) (sym same) ∙ n.8.bodies_are) n.8.pieces refl n.8.records n.10

  pub never_refused : SpellsWhole → PiecesWhole → MeansOne → ((bytes : List ℕ) (bodies : List (List ℕ)) (at : ℕ) → StandsFor bytes bodies
      → BreaksAt bytes at → ⊥)
      → (bytes : List ℕ) (bodies : List (List ℕ)) (base : List SnapshotPiece) (records : List model.Record) (at : ℕ)
      → StandsFor bytes bodies → SpellOver base bodies records → all_sound records ≡ true
      → (BreaksAt bytes at → ⊥) × (IsNoBody bytes at → ⊥)
  never_refused whole broken meaning none bytes bodies base records at stands spelled ok =
      (none bytes bodies at stands, some_body whole broken meaning bytes bodies base records at stands spelled ok)
