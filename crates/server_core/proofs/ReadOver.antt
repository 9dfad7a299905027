-- One more body behind those that were read: of pieces, or of records.
use Rattle.std.proofs.Common.{◌≡◌, ◌⊎◌, inl, inr, ℕ, Bool, true, false, List, [], ◌∷◌, ◌++◌, refl, sym, ap, subst}
use Rattle.std.proofs.Common.{◌∙◌, arith}
use Rattle.std.proofs.lemmas.List.{append-nil}
use Rattle.std.proofs.Common.{append_assoc}
use Rattle.spec_exchange.specs.Fold.{nothing_yet, fold_from}
use Rattle.spec_exchange.specs.State as model
use Rattle.spec_exchange.specs.State.{Server}
use Rattle.law_server.specs.tables.Fits.{Fits, all_sound}
use Rattle.law_server.proofs.tables.Logic.{back_of, front_of}
use Rattle.law_server.proofs.tables.Folded.{folded_keeps, sound_more}
use Rattle.law_snapshots.specs.snapshots.Pieces.{SnapshotPiece, with_piece, with_pieces}
use Rattle.law_snapshots.specs.snapshots.Taken.{takes_piece, takes_pieces}
use Rattle.journal_bytes.specs.piece_bytes.Grammar.{BreaksPieces, SpellsPieces}
use Rattle.journal_bytes.specs.piece_bytes.Meaning.{pieces_of}
use Rattle.journal_bytes.specs.declared.piece_bytes.value.Piece.{Piece}
use Rattle.journal_bytes.specs.record_bytes.Meaning.{records_of}
use Rattle.journal.specs.declared.disk_journal.journal.JournalError.TheVariants.{NotAJournal}
use Rattle.server_core.specs.Over.{based, found_over}
use Rattle.server_core.specs.Reading.{AppliedBy, BodyRefused, FoldedBy, IsReadOver, NoServerAdds, NoSnapshotHas, PiecedBy}
use Rattle.server_core.specs.Reading.{SpellFrom, SpellOver, begins_pieces}
use Rattle.server_core.specs.durable_state.Durable.{DurableShown}
use Rattle.server_core.specs.declared.durable_state.durable.Durable.{Durable}
use Rattle.server_core.proofs.Bodies.{fold_both, spell_more}
use Rattle.server_core.proofs.SnapshotBodies.{pieces_joined, pieces_more}

-- ---- whether bodies of records were read

abbrev pub has_any : List (List ℕ) → Bool
has_any [] = false
has_any (b ∷ bs) = true

any_behind : (bs : List (List ℕ)) (b : List ℕ) → true ≡ has_any (bs ++ b ∷ [])
any_behind [] b = refl
any_behind (c ∷ bs) b = refl

none_of : (bs : List (List ℕ)) → has_any bs ≡ false → bs ≡ []
none_of [] h = refl
none_of (b ∷ bs) h = absurd (cc)

not_none : (bs : List (List ℕ)) → true ≡ has_any bs → bs ≡ [] → ⊥
not_none [] h e = absurd (cc)
not_none (b ∷ bs) h e = absurd (cc)

-- bodies were read so far: these pieces and records, and whether some of them have records
abbrev pub ReadTo : Durable → List (List ℕ) → Bool → Type 0
ReadTo d bodies behind = (base : List SnapshotPiece) × (records : List model.Record) × (was : IsReadOver d base bodies records)
    × (behind ≡ has_any was.spelled.back)

-- without bodies of records the state is what the pieces stand for
no_records : (base : List SnapshotPiece) (bodies : List (List ℕ)) (records : List model.Record) (h : SpellOver base bodies records)
    → h.back ≡ [] → records ≡ []
no_records base bodies records h none = subst (λ (bs : List (List ℕ)). SpellFrom (based base) bs records) none h.records

at_base : (base : List SnapshotPiece) (records : List model.Record) → records ≡ [] → found_over base records ≡ based base
unfolding fold_from
at_base base records none = ap (λ (rs : List model.Record). found_over base rs) none

-- ---- a body of pieces

some_pieces : (body : List ℕ) → begins_pieces body ≡ true → SpellsPieces body [] → ⊥
some_pieces [] on h = absurd (cc)
some_pieces (b ∷ bs) on h = absurd (omega (arith, h))

pieces_on : (d e : Durable) (base : List SnapshotPiece) (bodies : List (List ℕ)) (records : List model.Record) (body : List ℕ)
    (was : IsReadOver d base bodies records) → was.spelled.back ≡ [] → (p : SnapshotPiece) (ps : List SnapshotPiece)
    → SpellsPieces body (p ∷ ps) → takes_pieces (based base) (p ∷ ps) ≡ true → DurableShown e (with_pieces (based base) (p ∷ ps))
    → Fits (with_pieces (based base) (p ∷ ps)) → ReadTo e (bodies ++ body ∷ []) false
unfolding fold_from all_sound
pieces_on d e base bodies records body was none p ps spells taken shown fits =
    let joined = pieces_joined nothing_yet base (p ∷ ps) in (
      base ++ (p ∷ ps),
      [],
      record {
        spelled = record {
          front = was.spelled.front ++ body ∷ [];
          back = [];
          bodies_are = ap (λ (bs : List (List ℕ)). bs ++ body ∷ []) (was.spelled.bodies_are
              ∙ (ap (λ (bs : List (List ℕ)). was.spelled.front ++ bs) none ∙ append-nil was.spelled.front))
              ∙ sym (append-nil (was.spelled.front ++ body ∷ []));
          pieces = pieces_more nothing_yet was.spelled.front base body p ps was.spelled.pieces spells taken;
          records = refl;
        };
        sound = refl;
        shown = subst (λ (w : Server). DurableShown e w) (sym joined) shown;
        fits = subst (λ (w : Server). Fits w) (sym joined) fits;
      },
      refl,
    )

by_pieces : (d e : Durable) (base : List SnapshotPiece) (bodies : List (List ℕ)) (records : List model.Record) (body : List ℕ)
    (behind : Bool) (was : IsReadOver d base bodies records) → behind ≡ has_any was.spelled.back → begins_pieces body ≡ true
    → PiecedBy e (found_over base records) body behind → ReadTo e (bodies ++ body ∷ []) false
by_pieces d e base bodies records body behind was is on a = by a.1 a.2 a.3 a.4 a.5
  where
    none : was.spelled.back ≡ []
    none = none_of was.spelled.back (sym is ∙ a.0)

    state : found_over base records ≡ based base
    state = at_base base records (no_records base bodies records was.spelled none)

    by : (ps : List SnapshotPiece) → SpellsPieces body ps → takes_pieces (found_over base records) ps ≡ true
        → DurableShown e (with_pieces (found_over base records) ps) → Fits (with_pieces (found_over base records) ps)
        → ReadTo e (bodies ++ body ∷ []) false
    by [] spells taken shown fits = absurd (some_pieces body on spells)
    by (p ∷ ps) spells taken shown fits = pieces_on d e base bodies records body was none p ps spells
        (subst (λ (w : Server). takes_pieces w (p ∷ ps) ≡ true) state taken)
        (subst (λ (w : Server). DurableShown e (with_pieces w (p ∷ ps))) state shown)
        (subst (λ (w : Server). Fits (with_pieces w (p ∷ ps))) state fits)

-- ---- a body of records

by_records : (d e : Durable) (base : List SnapshotPiece) (bodies : List (List ℕ)) (records : List model.Record) (body : List ℕ)
    (was : IsReadOver d base bodies records) → FoldedBy e (found_over base records) body → ReadTo e (bodies ++ body ∷ []) true
by_records d e base bodies records body was a =
    let u = found_over base records in
    let new = records_of a.0 in
    let same = sym (fold_both (based base) records new) in (
      base,
      records ++ new,
      record {
        spelled = record {
          front = was.spelled.front;
          back = was.spelled.back ++ body ∷ [];
          bodies_are = ap (λ (bs : List (List ℕ)). bs ++ body ∷ []) was.spelled.bodies_are
              ∙ append_assoc was.spelled.front was.spelled.back (body ∷ []);
          pieces = was.spelled.pieces;
          records = spell_more (based base) was.spelled.back records body a.0 was.spelled.records a.1;
        };
        sound = sound_more records new was.sound a.2;
        shown = subst (λ (w : Server). DurableShown e w) same a.3;
        fits = subst (λ (w : Server). Fits w) same (folded_keeps u new a.2 was.fits);
      },
      any_behind was.spelled.back body,
    )

-- ---- any body

pub read_on : (d e : Durable) (bodies : List (List ℕ)) (body : List ℕ) (behind tells : Bool) → ReadTo d bodies behind
    → ((u : Server) → Fits u → DurableShown d u → AppliedBy e u body behind tells) → ReadTo e (bodies ++ body ∷ []) tells
read_on d e bodies body behind tells r apply = by (apply (found_over r.0 r.1) r.2.fits r.2.shown)
  where
    by : AppliedBy e (found_over r.0 r.1) body behind tells → ReadTo e (bodies ++ body ∷ []) tells
    by (inl x) = subst (λ (b : Bool). ReadTo e (bodies ++ body ∷ []) b) (sym x.0) (by_records d e r.0 bodies r.1 body r.2 x.1)
    by (inr x) = subst (λ (b : Bool). ReadTo e (bodies ++ body ∷ []) b) (sym x.0)
        (by_pieces d e r.0 bodies r.1 body behind r.2 r.3 x.1 x.2)

-- ---- a body that is refused

abbrev Broken : List ℕ → Type 0
Broken body = (place : ℕ) × BreaksPieces body place

abbrev NotTaken : Server → List ℕ → Type 0
NotTaken s body = (ps : List SnapshotPiece) × SpellsPieces body ps × (takes_pieces s ps ≡ false)

no_snapshot : (d : Durable) (base : List SnapshotPiece) (bodies : List (List ℕ)) (records : List model.Record) (body : List ℕ)
    (behind : Bool)
    (was : IsReadOver d base bodies records) → behind ≡ has_any was.spelled.back
    → (behind ≡ true) ⊎ Broken body ⊎ NotTaken (found_over base records) body → NoSnapshotHas base was.spelled.back body
no_snapshot d base bodies records body behind was is (inl on) = inl (not_none was.spelled.back (sym on ∙ is))
no_snapshot d base bodies records body behind was is (inr (inl broken)) = inr (inl broken)
no_snapshot d base bodies records body behind was is (inr (inr x)) = by (has_any was.spelled.back) refl
  where
    by : (b : Bool) → has_any was.spelled.back ≡ b → NoSnapshotHas base was.spelled.back body
    by true e = inl (not_none was.spelled.back (sym e))
    by false e =
        let state = at_base base records (no_records base bodies records was.spelled (none_of was.spelled.back e)) in
        inr (inr (x.0, x.1, subst (λ (w : Server). takes_pieces w x.0 ≡ false) state x.2))

pub never_added : (d : Durable) (base : List SnapshotPiece) (bodies : List (List ℕ)) (records : List model.Record) (body : List ℕ)
    (behind : Bool) (at : ℕ) (was : IsReadOver d base bodies records) → behind ≡ has_any was.spelled.back
    → BodyRefused behind (found_over base records) body (NotAJournal at) → NoServerAdds base was.spelled.back records body
never_added d base bodies records body behind at was is (inl x) = inl (x.0, no_snapshot d base bodies records body behind was is x.1)
never_added d base bodies records body behind at was is (inr x) = inr x

-- ---- a state behind pieces fits together

pub pieces_fit : ((s : Server) (p : SnapshotPiece) → Fits s → takes_piece s p ≡ true → Fits (with_piece s p)) → (s : Server)
    (ps : List SnapshotPiece) → Fits s → takes_pieces s ps ≡ true → Fits (with_pieces s ps)
unfolding with_pieces takes_pieces
pieces_fit law s [] fits taken = fits
pieces_fit law s (p ∷ ps) fits taken =
    pieces_fit law (with_piece s p) ps (law s p fits (front_of (takes_piece s p) (takes_pieces (with_piece s p) ps) taken))
    (back_of (takes_piece s p) (takes_pieces (with_piece s p) ps) taken)

-- ---- a body of pieces that was read and applied

pub pieced : ((s : Server) (p : SnapshotPiece) → Fits s → takes_piece s p ≡ true → Fits (with_piece s p)) → (new : Durable) (s : Server)
    (body m : List ℕ) (behind b : Bool) (ps ms : List Piece) → Fits s → behind ≡ false → m ≡ body → ms ≡ ps → b ≡ true
    → SpellsPieces m (pieces_of ps) → (b ≡ takes_pieces s (pieces_of ms))
    × (b ≡ true → DurableShown new (with_pieces s (pieces_of ms))) → PiecedBy new s body behind
pieced law new s body m behind b ps ms fits off same list on spells k =
    let taken : takes_pieces s (pieces_of ps) ≡ true =
    ap (λ (xs : List Piece). takes_pieces s (pieces_of xs)) (sym list) ∙ (sym k.0 ∙ on) in (
      off,
      pieces_of ps,
      subst (λ (x : List ℕ). SpellsPieces x (pieces_of ps)) same spells,
      taken,
      subst (λ (xs : List Piece). DurableShown new (with_pieces s (pieces_of xs))) list (k.1 on),
      pieces_fit law s (pieces_of ps) fits taken,
    )
