-- Each record by its kind, and an open that may be none.
use Rattle.std.proofs.Common.{◌≡◌, ℕ, ◌/◌, ◌==◌, Bool, true, not, List, length, Option, Some, None, refl, sym, subst, ap}
use Rattle.std.specs.Prelude.{Result, OnOk}
use Rattle.spec_exchange.specs.Fold.{may_restore, may_have_open, restore, same_target, with_record}
use Rattle.spec_exchange.specs.Opens.{file_has_open}
use Rattle.spec_exchange.specs.State as model
use Rattle.spec_exchange.specs.State.{Server, Origin}
use Rattle.journal_bytes.specs.record_bytes.Meaning.{elements_in, new_open, opened, record_of}
use Rattle.journal_bytes.specs.declared.record_bytes.value.NewOpen.{NewOpen}
use Rattle.journal_bytes.specs.declared.record_bytes.value.Record.{Record}
use Rattle.journal_bytes.specs.declared.record_bytes.value.Record.TheVariants.{Create, Write, SetEnd, Rename, Lock}
use Rattle.store_opens.specs.open_table.Changes.{restore_refusal}
use Rattle.server_core.specs.durable_state.Durable.{DurableShown, is_unopened}
use Rattle.server_core.specs.declared.durable_state.durable.Durable.{Durable}
use Rattle.server_core.proofs.durable_state.Making.{free_some}

-- ---- records

abbrev Followed : {E : Type 0} → Result Unit E → Durable → Server → model.Record → Type 0
Followed out d s r = OnOk out (DurableShown d (with_record s r))

pub as_create : {E : Type 0} (out : Result Unit E) (d : Durable) (s : Server) (one : Record) (origin : Origin) (action file : ℕ)
    (text path : List ℕ) (attributes : ℕ) (directory : Bool) (time : ℕ) (new : Option NewOpen)
    → one ≡ Create origin action file path attributes directory time new → text ≡ path
    → OnOk out (DurableShown d (with_record s (model.CreateRecord origin action file text attributes directory time (opened new))))
    → OnOk out (DurableShown d (with_record s (record_of one)))
as_create out d s one origin action file text path attributes directory time new is same h =
    subst (λ (r : Record). Followed out d s (record_of r)) (sym is)
    (subst (λ (t : List ℕ). Followed out d s (model.CreateRecord origin action file t attributes directory time (opened new))) same h)

pub as_write : {E : Type 0} (out : Result Unit E) (d : Durable) (s : Server) (one : Record) (origin : Origin) (file at time : ℕ)
    (m bytes : List ℕ) → one ≡ Write origin file at time bytes → m ≡ bytes
    → OnOk out (DurableShown d (with_record s (model.WriteRecord origin file at time m)))
    → OnOk out (DurableShown d (with_record s (record_of one)))
as_write out d s one origin file at time m bytes is same h =
    subst (λ (r : Record). Followed out d s (record_of r)) (sym is)
    (subst (λ (t : List ℕ). Followed out d s (model.WriteRecord origin file at time t)) same h)

pub as_end : {E : Type 0} (out : Result Unit E) (d : Durable) (s : Server) (one : Record) (origin : Origin) (file size time : ℕ)
    → one ≡ SetEnd origin file size time
    → OnOk out (DurableShown d (with_record s (model.EndRecord origin file size time)))
    → OnOk out (DurableShown d (with_record s (record_of one)))
as_end out d s one origin file size time is h = subst (λ (r : Record). Followed out d s (record_of r)) (sym is) h

pub as_rename : {E : Type 0} (out : Result Unit E) (d : Durable) (s : Server) (one : Record) (origin : Origin) (file replaced : ℕ)
    (text path : List ℕ) → one ≡ Rename origin file replaced path → text ≡ path
    → OnOk out (DurableShown d (with_record s (model.RenameRecord origin file replaced text)))
    → OnOk out (DurableShown d (with_record s (record_of one)))
as_rename out d s one origin file replaced text path is same h =
    subst (λ (r : Record). Followed out d s (record_of r)) (sym is)
    (subst (λ (t : List ℕ). Followed out d s (model.RenameRecord origin file replaced t)) same h)

pub as_lock : {E : Type 0} (out : Result Unit E) (d : Durable) (s : Server) (one : Record) (origin : Origin) (id index count status : ℕ)
    (m elements : List ℕ) → one ≡ Lock origin id index count status elements → m ≡ elements
    → OnOk out (DurableShown d (with_record s (model.LockRecord origin id index count status (elements_in (length m / 24) m))))
    → OnOk out (DurableShown d (with_record s (record_of one)))
as_lock out d s one origin id index count status m elements is same h =
    subst (λ (r : Record). Followed out d s (record_of r)) (sym is)
    (subst (λ (t : List ℕ). Followed out d s (model.LockRecord origin id index count status (elements_in (length t / 24) t))) same h)

-- a record whose kind takes nothing but what its variant holds
pub as_it_is : {E : Type 0} (out : Result Unit E) (d : Durable) (s : Server) (one other : Record) → one ≡ other
    → OnOk out (DurableShown d (with_record s (record_of other))) → OnOk out (DurableShown d (with_record s (record_of one)))
as_it_is out d s one other is h = subst (λ (r : Record). Followed out d s (record_of r)) (sym is) h

-- ---- an open that may be none

pub have_some : (s : Server) (o : Option NewOpen) (n : NewOpen) (b : Bool) → o ≡ Some n → b ≡ may_restore s (new_open n)
    → b ≡ may_have_open s (opened o)
unfolding may_have_open
have_some s o n b is e = subst (λ (x : Option NewOpen). b ≡ may_have_open s (opened x)) (sym is) e

pub have_none : (s : Server) (o : Option NewOpen) → o ≡ None → true ≡ may_have_open s (opened o)
unfolding may_have_open
have_none s o is = subst (λ (x : Option NewOpen). true ≡ may_have_open s (opened x)) (sym is) refl

pub restored_some : {E : Type 0} (out : Result Unit E) (d : Durable) (s : Server) (file action : ℕ) (o : Option NewOpen) (n : NewOpen)
    → o ≡ Some n
    → (restore_refusal s n.id ≡ None → OnOk out (DurableShown d (restore s file action (Some (new_open n)))))
    → may_have_open s (opened o) ≡ true → OnOk out (DurableShown d (restore s file action (opened o)))
restored_some out d s file action o n is call =
    subst (λ (x : Option NewOpen). may_have_open s (opened x) ≡ true → OnOk out (DurableShown d (restore s file action (opened x))))
    (sym is) (λ may. call (free_some s n may))

pub restored_none : (d : Durable) (s : Server) (file action : ℕ) (o : Option NewOpen) → o ≡ None → DurableShown d s
    → DurableShown d (restore s file action (opened o))
restored_none d s file action o is h = subst (λ (x : Option NewOpen). DurableShown d (restore s file action (opened x))) (sym is) h

-- ---- what a rename takes the place of, if anything

pub unopened_some : (s : Server) (o : Option ℕ) (t : ℕ) (b : Bool) → o ≡ Some t → b ≡ file_has_open s t → not b ≡ is_unopened s o
unfolding is_unopened
unopened_some s o t b is e = subst (λ (x : Option ℕ). not b ≡ is_unopened s x) (sym is) (ap (λ (c : Bool). not c) e)

pub unopened_none : (s : Server) (o : Option ℕ) → o ≡ None → true ≡ is_unopened s o
unfolding is_unopened
unopened_none s o is = subst (λ (x : Option ℕ). true ≡ is_unopened s x) (sym is) refl

pub target_some : (o : Option ℕ) (t replaced : ℕ) → o ≡ Some t → (t == replaced) ≡ same_target o replaced
unfolding same_target
target_some o t replaced is = subst (λ (x : Option ℕ). (t == replaced) ≡ same_target x replaced) (sym is) refl

pub target_none : (o : Option ℕ) (replaced : ℕ) → o ≡ None → (replaced == 0) ≡ same_target o replaced
unfolding same_target
target_none o replaced is = subst (λ (x : Option ℕ). (replaced == 0) ≡ same_target x replaced) (sym is) refl
