-- The bodies from the first on, and the journal as it was again.
use Rattle.std.proofs.Common.{◌≡◌, ℕ, List, length, take, drop, Option, Some, Result, Ok, Err, refl, sym, ◌∙◌, ap, subst, arith}
use Rattle.journal.specs.declared.disk_journal.journal.JournalError.{JournalError}
use Rattle.journal.specs.declared.disk_journal.journal.JournalError.TheVariants.{Memory, DiskFault, NotAJournal, Full, Stopped}
use Rattle.journal.specs.disk_journal.Journal.{JournalState, JournalSettled, HandsOut, HandsOutRest, HandsOutAll, RestAnswers}
use Rattle.spec_journal.specs.declared.form.Form.{Form}
use Rattle.spec_journal.specs.Forms.{form_front}
use Rattle.journal.proofs.disk_journal.Bodies.{at_body, first_gate}

-- reading changes no form
pub same_form : {D : Type 0} (faults : D → ℕ) (old new : JournalState D) (result : Result (List (List ℕ)) JournalError)
    → RestAnswers faults old result new → new.form ≡ old.form
same_form faults old new (Ok list) a = ap (λ j. j.form) a.1.0
same_form faults old new (Err Memory) a = ap (λ j. j.form) a.1.0
same_form faults old new (Err (DiskFault n)) a = a.7
same_form faults old new (Err (NotAJournal at)) a = ap (λ j. j.form) a.3.0
same_form faults old new (Err (Full would limit)) a = absurd a
same_form faults old new (Err (Stopped n)) a = absurd a

module _ {D : Type 0} (seen : D → List ℕ) (may_leave : D → List ℕ → Type 0) (bodies : List (List ℕ)) where
  -- where a body was handed out the same bodies stand there
  pub settled_then : (old new : JournalState D) (handed : Option (List ℕ)) (body : List ℕ) → handed ≡ Some body
      → HandsOut seen may_leave old bodies (Ok handed) new → JournalSettled seen may_leave new bodies
  settled_then old new handed body is out =
      let known : HandsOut seen may_leave old bodies (Ok (Some body)) new =
      subst (λ (h : Option (List ℕ)). HandsOut seen may_leave old bodies (Ok h) new) is out in
      known.1

  -- nothing handed out yet
  pub rewound : (old new : JournalState D) → JournalSettled seen may_leave old bodies → new ≡ record old {
    taken = 0;
    next = 8;
  } → JournalSettled seen may_leave new bodies
  rewound old new s is = subst (λ j. JournalSettled seen may_leave j bodies) (sym is)
      (at_body seen may_leave bodies old (record old { taken = 0; next = 8 }) s refl (λ c now. now) refl refl refl refl refl refl
      (omega arith) (first_gate seen may_leave bodies old.form))

  -- and as it was again
  pub restored : (old mid new : JournalState D) → JournalSettled seen may_leave old bodies → JournalSettled seen may_leave mid bodies
      → mid.form ≡ old.form → new ≡ record mid { taken = old.taken; next = old.next } → JournalSettled seen may_leave new bodies
  restored old mid new s t form is = subst (λ j. JournalSettled seen may_leave j bodies) (sym is)
      (at_body seen may_leave bodies mid (record mid { taken = old.taken; next = old.next }) t refl (λ c now. now) refl refl
      refl refl refl refl s.some_taken (s.next ∙ ap (λ (f : Form). length (form_front f (take old.taken bodies))) (sym form)))

  pub all_handed : (old begun mid new : JournalState D) (result : Result (List (List ℕ)) JournalError)
      → JournalSettled seen may_leave old bodies → begun.taken ≡ 0 → mid.form ≡ old.form
      → HandsOutRest seen may_leave begun bodies result mid → new ≡ record mid { taken = old.taken; next = old.next }
      → HandsOutAll seen may_leave bodies result new
  all_handed old begun mid new (Ok list) s none form out is = (out.0 ∙ ap (λ (t : ℕ). drop t bodies) none, restored old mid new s out.1 form is)
  all_handed old begun mid new (Err Memory) s none form out is = restored old mid new s out form is
  all_handed old begun mid new (Err (DiskFault n)) s none form out is = tt
  all_handed old begun mid new (Err (NotAJournal at)) s none form out is = out
  all_handed old begun mid new (Err (Full would limit)) s none form out is = out
  all_handed old begun mid new (Err (Stopped n)) s none form out is = out
