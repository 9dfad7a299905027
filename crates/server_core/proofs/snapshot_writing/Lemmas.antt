-- A snapshot under way: one piece more, one body more, one step more.
use Rattle.std.proofs.Common.{◌≡◌, ◌⊎◌, inl, inr, ℕ, ◌<◌, List, [], ◌∷◌, ◌++◌}
use Rattle.std.proofs.Common.{length, Some, Result, Ok, Err, IsOk, OnOk, refl, sym, ap, subst}
use Rattle.std.proofs.Common.{◌∙◌, arith, append_assoc}
use Rattle.std.proofs.lemmas.List.{append-nil}
use Rattle.std.proofs.lemmas.List.Elements.{All-push, All-nil}
use Rattle.base_outside.specs.streams.Faults.{Rose}
use Rattle.base_outside.specs.streams.Steps.{IfDone}
use Rattle.base_outside.specs.declared.streams.room.DiskStep.{DiskStep}
use Rattle.base_outside.specs.declared.streams.room.DiskStep.TheVariants.{Done, NoRoom}
use Rattle.journal.specs.declared.disk_journal.journal.JournalError.{JournalError}
use Rattle.journal.specs.declared.disk_journal.journal.JournalError.TheVariants as errors
use Rattle.spec_wire.specs.journal.Moments.{Quiet}
use Rattle.law_wire.proofs.messages.Rows.{with_fields-append}
use Rattle.law_snapshots.specs.snapshots.Pieces.{SnapshotPiece}
use Rattle.journal.specs.disk_journal.Journal.{JournalState}
use Rattle.journal.specs.disk_journal.Rewrite.{RewriteState, IsDrafted, DraftStops, RewritePuts}
use Rattle.journal_bytes.specs.piece_bytes.Grammar.{piece_table, SpellsPieces, AreWritablePieces}
use Rattle.journal_bytes.specs.piece_bytes.Grammar.{IsWritablePiece, IsPut, piece_spelling, pieces_spelling}
use Rattle.server_core.specs.declared.snapshot_writing.bodies.Unwritten.{Unwritten}
use Rattle.server_core.specs.declared.snapshot_writing.bodies.Unwritten.TheVariants.{GivenUp, Fault}
use Rattle.server_core.specs.snapshot_writing.Told.{IsPieceBody, AreBodiesOf, IsTold, IsDraftWritten, IsOutcome, DraftAnswers, DraftGoesOn}

-- ---- one piece more

spelling_more : (ps : List SnapshotPiece) (p : SnapshotPiece) → pieces_spelling (ps ++ p ∷ []) ≡ pieces_spelling ps ++ piece_spelling p
spelling_more [] p = append-nil (piece_spelling p)
spelling_more (q ∷ qs) p = ap (λ (l : List ℕ). piece_spelling q ++ l) (spelling_more qs p)
    ∙ sym (append_assoc (piece_spelling q) (pieces_spelling qs) (piece_spelling p))

pub told_more : {D : Type 0} (knows : Type 0) (drafted : D → List ℕ) (disk : D) (w : RewriteState) (old new : List ℕ)
    (ps : List SnapshotPiece) (p : SnapshotPiece) → IsPut old p new → IsTold knows drafted disk w old ps → IsTold knows drafted disk w new (ps ++ p ∷ [])
told_more knows drafted disk w old new ps p put h = record {
  bodies = h.bodies;
  front = h.front;
  last = h.last ++ p ∷ [];
  all = ap (λ (l : List SnapshotPiece). l ++ p ∷ []) h.all ∙ append_assoc h.front h.last (p ∷ []);
  draft = h.draft;
  bodies_are = h.bodies_are;
  body_is = put.0 ∙ (with_fields-append old (piece_table p) ∙ (ap (λ (l : List ℕ). l ++ piece_spelling p) h.body_is
      ∙ sym (spelling_more h.last p)));
  writable = All-push IsWritablePiece h.last p h.writable put.1;
}

-- ---- one body more

bodies_more : (bodies : List (List ℕ)) (b : List ℕ) (ps qs : List SnapshotPiece) → AreBodiesOf bodies ps → IsPieceBody b qs
    → AreBodiesOf (bodies ++ b ∷ []) (ps ++ qs)
bodies_more [] b ps qs h i = (qs, [], ap (λ (l : List SnapshotPiece). l ++ qs) h ∙ sym (append-nil qs), i, refl)
bodies_more (c ∷ cs) b ps qs h i = (
  h.0,
  h.1 ++ qs,
  ap (λ (l : List SnapshotPiece). l ++ qs) h.2 ∙ append_assoc h.0 h.1 qs,
  h.3,
  bodies_more cs b h.1 qs h.4 i,
)

filled_body : (b : List ℕ) (ps : List SnapshotPiece) → 0 < length b → b ≡ pieces_spelling ps → SpellsPieces b ps → IsPieceBody b ps
filled_body b [] l e h = absurd (let x = ap length e in omega (arith, x, l))
filled_body b (p ∷ ps) l e h = h

pub told_put : {D : Type 0} (knows : Type 0) (drafted : D → List ℕ) (disk disk2 : D) (w v : RewriteState) (body : List ℕ)
    (ps : List SnapshotPiece)
    → ((qs : List SnapshotPiece) → AreWritablePieces qs → SpellsPieces (pieces_spelling qs) qs)
    → (knows → (bodies : List (List ℕ)) → IsDrafted drafted disk w bodies → IsDrafted drafted disk2 v (bodies ++ body ∷ []))
    → 0 < length body → IsTold knows drafted disk w body ps → IsTold knows drafted disk2 v [] ps
told_put knows drafted disk disk2 w v body ps again put l h = record {
  bodies = h.bodies ++ body ∷ [];
  front = h.front ++ h.last;
  last = [];
  all = h.all ∙ sym (append-nil (h.front ++ h.last));
  draft = λ k. put k h.bodies (h.draft k);
  bodies_are = bodies_more h.bodies body h.front h.last h.bodies_are
      (filled_body body h.last l h.body_is (subst (λ b. SpellsPieces b h.last) (sym h.body_is) (again h.last h.writable)));
  body_is = refl;
  writable = All-nil IsWritablePiece;
}

-- ---- what a step came to

pub on_done : (step : Result DiskStep JournalError) (r : Result Unit Unwritten) (P : Type 0) → IsOutcome step r → IfDone step P → OnOk r P
on_done (Ok Done) (Ok x) P o h = h
on_done (Ok Done) (Err e) P o h = tt
on_done (Ok NoRoom) (Ok x) P o h = absurd (cc)
on_done (Ok NoRoom) (Err e) P o h = tt
on_done (Err errors.Memory) (Ok x) P o h = absurd (cc)
on_done (Err (errors.DiskFault n)) (Ok x) P o h = absurd (cc)
on_done (Err (errors.NotAJournal at)) (Ok x) P o h = absurd (cc)
on_done (Err (errors.Full would limit)) (Ok x) P o h = absurd (cc)
on_done (Err (errors.Stopped n)) (Ok x) P o h = absurd (cc)
on_done (Err e) (Err f) P o h = tt

given_up : {D : Type 0} (faults : D → ℕ) (old new : JournalState D) (r : Result Unit Unwritten) → r ≡ Err GivenUp
    → IsDraftWritten faults old new
    → DraftAnswers faults old r new
given_up faults old new r e h = subst (λ x. DraftAnswers faults old x new) (sym e) h

faulted : {D : Type 0} (faults : D → ℕ) (old new : JournalState D) (r : Result Unit Unwritten) (n : ℕ) → r ≡ Err (Fault n)
    → DraftStops faults n old new ⊎ ((old.stopped ≡ Some n) × IsDraftWritten faults old new) → DraftAnswers faults old r new
faulted faults old new r n e h = subst (λ x. DraftAnswers faults old x new) (sym e) h

done_on : {D : Type 0} (faults : D → ℕ) (old new : JournalState D) (r : Result Unit Unwritten) → IsOk r → IsDraftWritten faults old new
    → DraftAnswers faults old r new
done_on faults old new (Ok x) o h = h
done_on faults old new (Err e) o h = absurd (cc)

same_written : {D : Type 0} (faults : D → ℕ) (old new : JournalState D) → new ≡ old → IsDraftWritten faults old new
same_written faults old new e = subst (λ j. IsDraftWritten faults old j) (sym e) (refl, omega arith, refl)

pub put_answers : {D : Type 0} (faults : D → ℕ) (old new : JournalState D) (w v : RewriteState) (size : ℕ)
    (step : Result DiskStep JournalError) (r : Result Unit Unwritten) → IsOutcome step r → RewritePuts faults old w size step new v
    → DraftAnswers faults old r new
put_answers faults old new w v size (Ok Done) r o h = done_on faults old new r o (h.0.1, h.0.2, h.0.3)
put_answers faults old new w v size (Ok NoRoom) r o h = given_up faults old new r o (h.0.1, h.0.2, h.0.3)
put_answers faults old new w v size (Err errors.Memory) r o h = given_up faults old new r o (h.0.1, h.0.2, h.0.3)
put_answers faults old new w v size (Err (errors.DiskFault n)) r o h = faulted faults old new r n o (inl h.0)
put_answers faults old new w v size (Err (errors.NotAJournal at)) r o h = absurd h
put_answers faults old new w v size (Err (errors.Full would limit)) r o h = given_up faults old new r o (same_written faults old new h.4)
put_answers faults old new w v size (Err (errors.Stopped n)) r o h =
    faulted faults old new r n o (inr (h.0, same_written faults old new h.1))

-- ---- one step more

module _ {D : Type 0} (told : Type 0) (seen : D → List ℕ) (may_leave : D → List ℕ → Type 0) (moment : D → ℕ)
    (left_since : D → ℕ → List ℕ → Type 0) (faults : D → ℕ) where
  either_by : {A B C : Type 0} → (A → C) → (B → C) → A ⊎ B → C
  either_by f g (inl a) = f a
  either_by f g (inr b) = g b

  quiet_then : (a b c : D) → Quiet told seen may_leave moment left_since a b → Quiet told seen may_leave moment left_since b c
      → Quiet told seen may_leave moment left_since a c
  quiet_then a b c p q = record {
    same = λ t. q.same t ∙ p.same t;
    no_more = λ x h. p.no_more x (q.no_more x h);
    any_moment = record {
      later = omega (arith, p.any_moment.later, q.any_moment.later);
      each = λ x h. either_by (λ l. p.any_moment.each x l) (λ m. p.no_more x m)
          (q.any_moment.before (moment a) x p.any_moment.later h);
      before = λ t x l h. either_by (λ m. p.any_moment.before t x l m) (λ m. inr (p.no_more x m))
          (q.any_moment.before t x (omega (arith, l, p.any_moment.later)) h);
    };
  }

  pub written_then : (a b c : JournalState D) → IsDraftWritten faults a b → IsDraftWritten faults b c → IsDraftWritten faults a c
  written_then a b c p q = (
    q.0 ∙ ap (λ (j : JournalState D). record j { disk = c.disk; room = c.room }) p.0,
    omega (arith, p.1, q.1),
    q.2 ∙ p.2,
  )

  pub stopped_same : (a b : JournalState D) → IsDraftWritten faults a b → b.stopped ≡ a.stopped
  stopped_same a b p = ap (λ (j : JournalState D). j.stopped) p.0

  pub stops_then : (a b c : JournalState D) (n : ℕ) → IsDraftWritten faults a b → DraftStops faults n b c → DraftStops faults n a c
  stops_then a b c n p q = (
    sym (stopped_same a b p) ∙ q.0,
    subst (λ k. Rose k n) p.2 q.1,
    q.2,
    q.3 ∙ ap (λ (j : JournalState D). record j { disk = c.disk; room = c.room; stopped = Some n }) p.0,
    omega (arith, p.1, q.4),
  )

  answers_then : (a b c : JournalState D) (r : Result Unit Unwritten) → IsDraftWritten faults a b → DraftAnswers faults b r c
      → DraftAnswers faults a r c
  answers_then a b c (Ok x) p q = written_then a b c p q
  answers_then a b c (Err GivenUp) p q = written_then a b c p q
  answers_then a b c (Err (Fault n)) p (inl q) = inl (stops_then a b c n p q)
  answers_then a b c (Err (Fault n)) p (inr q) = inr (sym (stopped_same a b p) ∙ q.0, written_then a b c p q.1)

  -- behind a step that was done another one
  pub goes_then : (a b c : JournalState D) (x : Unit) (r : Result Unit Unwritten)
      → DraftGoesOn told seen may_leave moment left_since faults a b (Ok x)
      → DraftGoesOn told seen may_leave moment left_since faults b c r → DraftGoesOn told seen may_leave moment left_since faults a c r
  goes_then a b c x r p q = record {
    quiet = quiet_then a.disk b.disk c.disk p.quiet q.quiet;
    cause = answers_then a b c r p.cause q.cause;
  }

  pub goes_same : ((d : D) (c : List ℕ) → left_since d (moment d) c → may_leave d c) → (a : JournalState D) (x : Unit)
      → DraftGoesOn told seen may_leave moment left_since faults a a (Ok x)
  goes_same only_now a x = record {
    quiet = record {
      same = λ t. refl;
      no_more = λ c h. h;
      any_moment = record { later = omega arith; each = only_now a.disk; before = λ t c l h. inl h };
    };
    cause = (refl, omega arith, refl);
  }

  pub goes_given_up : ((d : D) (c : List ℕ) → left_since d (moment d) c → may_leave d c) → (a : JournalState D)
      → DraftGoesOn told seen may_leave moment left_since faults a a (Err GivenUp)
  goes_given_up only_now a = record {
    quiet = record {
      same = λ t. refl;
      no_more = λ c h. h;
      any_moment = record { later = omega arith; each = only_now a.disk; before = λ t c l h. inl h };
    };
    cause = (refl, omega arith, refl);
  }
