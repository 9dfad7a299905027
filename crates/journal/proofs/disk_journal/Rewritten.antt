-- A journal that is written anew in a draft.
use Rattle.std.proofs.Common.{◌≡◌, ◌⊎◌, inl, inr, ℕ, ◌+◌, ◌^◌, ◌<◌, List, [], ◌∷◌, ◌++◌, length, None, refl, sym, ◌∙◌, ap, subst, arith}
use Rattle.std.proofs.Common.{length-append}
use Rattle.std.proofs.lemmas.List.{append-nil, take_all}
use Rattle.base_outside.specs.streams.Disk.{Elapses, Only}
use Rattle.spec_wire.specs.journal.Grammar.{AllFit}
use Rattle.spec_wire.specs.journal.Moments.{LeavesOnly, Quiet}
use Rattle.spec_journal.specs.Forms.{form_entry, form_front, form_mark, StandsFor}
use Rattle.spec_journal.specs.declared.form.Form.TheVariants.{Summed}
use Rattle.journal.specs.disk_journal.Journal.{JournalState, JournalSettled}
use Rattle.journal.specs.disk_journal.Rewrite.{RewriteState, IsDrafted}
use Rattle.journal.proofs.disk_journal.Bodies.{at_body}
use Rattle.journal.proofs.disk_journal.Grown.{all_fit_push, front-push, length-front-push, length-plain-push}
use Rattle.journal.proofs.disk_journal.Moments.{goes_on, weakened}

-- ---- what stands in the draft

front-put : (bodies : List (List ℕ)) (body : List ℕ) → form_front Summed bodies ++ 1 ∷ form_entry Summed body
    ≡ form_front Summed (bodies ++ body ∷ [])
front-put bodies body = ap (λ (l : List ℕ). form_front Summed bodies ++ 1 ∷ l) (sym (append-nil (form_entry Summed body)))
    ∙ front-push Summed bodies body [] ∙ append-nil (form_front Summed (bodies ++ body ∷ []))

module _ {D : Type 0} (drafted : D → List ℕ) where
  pub none_put : (disk : D) (w : RewriteState) → drafted disk ≡ form_mark Summed → w ≡ record { gate = 8; used = 9; count = 0 }
      → IsDrafted drafted disk w []
  none_put disk w file is = record {
    file = file;
    gate = ap (λ (v : RewriteState). v.gate) is;
    used = ap (λ (v : RewriteState). v.used) is;
    count = ap (λ (v : RewriteState). v.count) is;
    fit = tt;
  }

  pub one_put : (old new : D) (w v : RewriteState) (bodies : List (List ℕ)) (body : List ℕ) → IsDrafted drafted old w bodies
      → drafted new ≡ drafted old ++ 1 ∷ form_entry Summed body → v ≡ record {
        gate = w.gate + (9 + length body);
        used = w.used + (5 + length body);
        count = w.count + 1;
      } → length body < 2 ^ 32 → IsDrafted drafted new v (bodies ++ body ∷ [])
  one_put old new w v bodies body d put is small =
      let gate : v.gate ≡ w.gate + (9 + length body) = ap (λ (x : RewriteState). x.gate) is in
      let used : v.used ≡ w.used + (5 + length body) = ap (λ (x : RewriteState). x.used) is in
      let count : v.count ≡ w.count + 1 = ap (λ (x : RewriteState). x.count) is in
      record {
        file = put ∙ ap (λ (l : List ℕ). l ++ 1 ∷ form_entry Summed body) d.file ∙ front-put bodies body;
        gate = omega (arith, gate, d.gate, length-front-push Summed bodies body);
        used = omega (arith, used, d.used, length-plain-push bodies body);
        count = omega (arith, count, d.count, length-append bodies (body ∷ []));
        fit = all_fit_push bodies body d.fit small;
      }

-- ---- what the disk stands for

pub closed_stands : (c : List ℕ) (bodies : List (List ℕ)) → AllFit bodies → c ≡ form_front Summed bodies ++ 0 ∷ [] → StandsFor c bodies
closed_stands c bodies fit is = inr (record { form = Summed; gate = 0; rest = []; spelled = is; closed = omega arith; fit = fit })

module _ {D : Type 0} (told : Type 0) (seen : D → List ℕ) (may_leave : D → List ℕ → Type 0) (moment : D → ℕ)
    (left_since : D → ℕ → List ℕ → Type 0) (drafted : D → List ℕ) where
  pub settled_stands : (j : JournalState D) (bodies : List (List ℕ)) → JournalSettled seen may_leave j bodies → StandsFor (seen j.disk) bodies
  settled_stands j bodies s = inr (record {
    form = j.form;
    gate = s.gate;
    rest = s.rest;
    spelled = s.file;
    closed = s.closed;
    fit = s.fit;
  })

  -- the old journal goes on
  pub stayed : (old new : JournalState D) (bodies : List (List ℕ)) → told → JournalSettled seen may_leave old bodies
      → Quiet told seen may_leave moment left_since old.disk new.disk → new ≡ record old { disk = new.disk; room = new.room }
      → JournalSettled seen may_leave new bodies
  stayed old new bodies shown s quiet is = subst (λ j. JournalSettled seen may_leave j bodies) (sym is)
      (at_body seen may_leave bodies old (record old { disk = new.disk; room = new.room }) s (quiet.same shown) quiet.no_more refl refl
      refl refl refl refl s.some_taken s.next)

  -- the draft took its place
  pub replaced : (old disk : D) (new : JournalState D) (w : RewriteState) (bodies : List (List ℕ)) (room : ℕ) → IsDrafted drafted old w bodies
      → seen disk ≡ drafted old ++ 0 ∷ [] → Only (seen disk) (may_leave disk) → new ≡ record {
        disk = disk;
        form = Summed;
        end = w.gate + 1;
        used = w.used;
        count = w.count;
        taken = w.count;
        next = w.gate;
        waits = None;
        stopped = None;
        room = room;
      } → JournalSettled seen may_leave new bodies
  replaced old disk new w bodies room d is only all = subst (λ j. JournalSettled seen may_leave j bodies) (sym all) (record {
    gate = 0;
    rest = [];
    file = is ∙ ap (λ (l : List ℕ). l ++ 0 ∷ []) d.file;
    closed = omega arith;
    end = omega (arith, d.gate);
    used = d.used;
    count = d.count;
    fit = d.fit;
    some_taken = omega (arith, d.count);
    next = d.gate ∙ ap (λ (b : List (List ℕ)). length (form_front Summed b)) (sym (take_all w.count bodies (omega (arith, d.count))));
    none_waits = refl;
    goes_on = refl;
    durable = only;
  })

  -- either stands behind a crash at any moment
  pub either_stands : (old : JournalState D) (new : D) (w : RewriteState) (bodies put : List (List ℕ))
      → JournalSettled seen may_leave old bodies → IsDrafted drafted old.disk w put
      → LeavesOnly moment left_since old.disk new (λ c. may_leave old.disk c ⊎ (c ≡ drafted old.disk ++ 0 ∷ []))
      → LeavesOnly moment left_since old.disk new (λ c. StandsFor c bodies ⊎ StandsFor c put)
  either_stands old new w bodies put s d run = weakened moment left_since old.disk new
      (λ c. may_leave old.disk c ⊎ (c ≡ drafted old.disk ++ 0 ∷ [])) (λ c. StandsFor c bodies ⊎ StandsFor c put) says run
    where
      says : (c : List ℕ) → may_leave old.disk c ⊎ (c ≡ drafted old.disk ++ 0 ∷ []) → StandsFor c bodies ⊎ StandsFor c put
      says c (inl was) = inl (subst (λ (l : List ℕ). StandsFor l bodies) (sym (s.durable c was)) (settled_stands old bodies s))
      says c (inr is) = inr (closed_stands c put d.fit (is ∙ ap (λ (l : List ℕ). l ++ 0 ∷ []) d.file))

  -- ---- a draft is put, and then takes the disk's place

  module _ (only_now : (d : D) (c : List ℕ) → left_since d (moment d) c → may_leave d c) (old mid new : D) (bytes : List ℕ)
      (quiet : Quiet told seen may_leave moment left_since old mid) (put : told → drafted mid ≡ bytes)
      (crash : (c : List ℕ) → may_leave new c → may_leave mid c ⊎ (told → c ≡ drafted mid))
      (time : Elapses (moment mid) (moment new) (left_since mid) (left_since new) (may_leave new)) (shown : told) where
    pub adopted_moments : LeavesOnly moment left_since old new (λ c. may_leave old c ⊎ (c ≡ bytes))
    adopted_moments = goes_on moment left_since old mid new (λ c. may_leave old c ⊎ (c ≡ bytes)) (may_leave new)
        (weakened moment left_since old mid (may_leave old) (λ c. may_leave old c ⊎ (c ≡ bytes)) (λ c was. inl was) quiet.any_moment) time says
      where
        says : (c : List ℕ) → may_leave new c → may_leave old c ⊎ (c ≡ bytes)
        says c now = elim (crash c now) [
          | inl was ↦ inl (quiet.no_more c was)
          | inr is ↦ inr (is shown ∙ put shown)
        ]
