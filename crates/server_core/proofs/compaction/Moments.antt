-- A draft is written beside a journal, which goes on; and what a crash meanwhile leaves.
use Rattle.std.proofs.Common.{◌≡◌, ◌⊎◌, inl, inr, ℕ, Bool, true, false, List, Some, None, Result, Ok, Err}
use Rattle.std.proofs.Common.{sym, subst, ◌∙◌, arith}
use Rattle.spec_exchange.specs.State as model
use Rattle.spec_journal.specs.Forms.{StandsFor}
use Rattle.spec_wire.specs.journal.Moments.{LeavesOnly, Quiet}
use Rattle.journal.specs.disk_journal.Journal.{JournalState, JournalSettled}
use Rattle.journal.specs.disk_journal.Rewrite.{OnlyDrafted}
use Rattle.server_checks.specs.declared.setups.error.EventError.{EventError}
use Rattle.server_checks.specs.declared.setups.error.EventError.TheVariants.{Memory, DiskFault, Stopped}
use Rattle.server_core.specs.compaction.Compacts.{JournalRewrites, RewriteLeaves}
use Rattle.server_core.specs.snapshot_writing.Told.{IsDraftWritten}
use Rattle.server_core.specs.snapshot_writing.Whole.{IsSnapshotOf}
use Rattle.server_core.proofs.snapshot_writing.Lemmas.{stopped_same, stops_then, written_then}

module _ {D : Type 0} (told : Type 0) (seen : D → List ℕ) (may_leave : D → List ℕ → Type 0) (moment : D → ℕ)
    (left_since : D → ℕ → List ℕ → Type 0) where
  either_by : {A B C : Type 0} → (A → C) → (B → C) → A ⊎ B → C
  either_by f g (inl a) = f a
  either_by f g (inr b) = g b

  -- what may be left of less may be left of more
  pub leaves_more : (old new : D) (P Q : List ℕ → Type 0) → ((c : List ℕ) → P c → Q c) → LeavesOnly moment left_since old new P
      → LeavesOnly moment left_since old new Q
  leaves_more old new P Q f h = record {
    later = h.later;
    each = λ c l. f c (h.each c l);
    before = λ t c le l. either_by (λ x. inl x) (λ x. inr (f c x)) (h.before t c le l);
  }

  -- calls that change nothing leave what was left
  pub quiet_leaves : (a b : D) (P : List ℕ → Type 0) → ((c : List ℕ) → may_leave a c → P c)
      → Quiet told seen may_leave moment left_since a b → LeavesOnly moment left_since a b P
  quiet_leaves a b P f q = leaves_more a b (may_leave a) P f q.any_moment

  -- and so they do in front of others
  pub quiet_first : (a b c : D) (P : List ℕ → Type 0) → ((x : List ℕ) → may_leave a x → P x)
      → Quiet told seen may_leave moment left_since a b → LeavesOnly moment left_since b c P → LeavesOnly moment left_since a c P
  quiet_first a b c P f q h = record {
    later = omega (arith, q.any_moment.later, h.later);
    each = λ x l. either_by (λ k. f x (q.any_moment.each x k)) (λ k. k) (h.before (moment a) x q.any_moment.later l);
    before = λ t x le l. either_by
        (λ k. either_by (λ z. inl z) (λ z. inr (f x z)) (q.any_moment.before t x le k)) (λ k. inr k)
        (h.before t x (omega (arith, le, q.any_moment.later)) l);
  }

  -- a settled journal leaves its bodies
  pub stands : (j : JournalState D) (bodies : List (List ℕ)) → JournalSettled seen may_leave j bodies → (c : List ℕ)
      → may_leave j.disk c → StandsFor c bodies
  stands j bodies s c left = inr (record {
    form = j.form;
    gate = s.gate;
    rest = s.rest;
    spelled = s.durable c left ∙ s.file;
    closed = s.closed;
    fit = s.fit;
  })

  -- it goes on beside a draft
  pub settled_on : told → (faults : D → ℕ) (a b : JournalState D) (bodies : List (List ℕ)) → JournalSettled seen may_leave a bodies
      → Quiet told seen may_leave moment left_since a.disk b.disk → IsDraftWritten faults a b → JournalSettled seen may_leave b bodies
  settled_on k faults a b bodies h q w =
      subst (λ (j : JournalState D). JournalSettled seen may_leave j bodies) (sym w.0) (record {
        gate = h.gate;
        rest = h.rest;
        file = q.same k ∙ h.file;
        closed = h.closed;
        end = h.end;
        used = h.used;
        count = h.count;
        fit = h.fit;
        some_taken = h.some_taken;
        next = h.next;
        none_waits = h.none_waits;
        goes_on = h.goes_on;
        durable = λ c l. h.durable c (q.no_more c l) ∙ sym (q.same k);
      })

  pub leaves_snapshot : (s : model.Server) (bodies front : List (List ℕ)) → IsSnapshotOf s front → (c : List ℕ)
      → StandsFor c bodies ⊎ StandsFor c front → RewriteLeaves s bodies c
  leaves_snapshot s bodies front i c (inl h) = inl h
  leaves_snapshot s bodies front i c (inr h) = inr (front, i, h)

  -- behind a draft that was begun or written
  pub rewrites_then : (faults : D → ℕ) (a b c : JournalState D) (r : Result Bool EventError) → a.stopped ≡ None
      → IsDraftWritten faults a b → JournalRewrites faults b r c → JournalRewrites faults a r c
  rewrites_then faults a b c (Ok true) goes w h = (goes, h.1, h.2 ∙ w.2)
  rewrites_then faults a b c (Ok false) goes w h = (goes, written_then told seen may_leave moment left_since faults a b c w h.1)
  rewrites_then faults a b c (Err Memory) goes w h = absurd h
  rewrites_then faults a b c (Err (DiskFault n)) goes w h = stops_then told seen may_leave moment left_since faults a b c n w h
  rewrites_then faults a b c (Err (Stopped n)) goes w h =
      absurd (let e : b.stopped ≡ None = stopped_same told seen may_leave moment left_since faults a b w ∙ goes in
      let f : b.stopped ≡ Some n = h.0 in cc)

pub drafted : {D : Type 0} (faults : D → ℕ) (a b : JournalState D) → OnlyDrafted faults a b → IsDraftWritten faults a b
drafted faults a b h = (h.1, h.2, h.3)
