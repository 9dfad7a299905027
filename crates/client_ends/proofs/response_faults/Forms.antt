-- The status first, and then the form.
use Rattle.std.proofs.Common.{◌≡◌, ℕ, ◌==◌, ◌≤◌, ◌/◌, ◌%◌, Bool, true, false, if◌then◌else◌, List, length, Option, Some, None, OnOk}
use Rattle.std.proofs.Common.{Result, Ok, Err, refl, sym, ap, ◌∙◌, arith}
use Rattle.std.proofs.lemmas.Bool.Decides.{nat_tests}
use Rattle.spec_exchange.specs.Client.{Stage}
use Rattle.spec_exchange.specs.Network.{Token, ForDialog, ForOp, ForAttach}
use Rattle.spec_exchange.specs.Operations.{Refusal, BadToken, HadStatus}
use Rattle.spec_wire.specs.declared.messages.header.Header.{Header}
use Rattle.spec_world.specs.Ends.{ClientEnd}
use Rattle.spec_world.specs.Messages.{HeardMessage, has_header, header_in, heard_in}
use Rattle.spec_world.specs.Settings.{ClientSettings}
use Rattle.spec_world.specs.Dialog.{status_due, is_dialogs, response_in}
use Rattle.client_ends.specs.ends.Shown.{token_of}
use Rattle.client_ends.proofs.ends.Headers.{long_of}
use Rattle.wire_bytes.specs.declared.session_messages.refusal.Refusal.{Refusal as DialogRefusal}
use Rattle.client_ends.specs.response_faults.Judging.{DueBy, IsResponseDue, early, faults, response_judged}

-- ---- what is heard

abbrev pub headed : Header → List ℕ → HeardMessage
headed h m = record { header = h; bytes = m }

pub heard_as : (m : List ℕ) (h : Header) → has_header m ≡ true → header_in m ≡ h → response_in (Some m) ≡ Some (headed h m)
heard_as m h has is =
    ap (λ (b : Bool). if b then Some (heard_in m) else None) has ∙ ap (λ (k : Header). Some (headed k m)) is

pub unheard : (m : List ℕ) → has_header m ≡ false → response_in (Some m) ≡ None
unheard m has = ap (λ (b : Bool). if b then Some (heard_in m) else None) has

pub early_none : (m : List ℕ) (wanted : ℕ) → has_header m ≡ false → early wanted (response_in (Some m)) ≡ Some BadToken
early_none m wanted has = ap (early wanted) (unheard m has)

pub same_number : (n k : ℕ) → n ≡ k → (n == k) ≡ true
same_number n k e = grind arith

pub other_number : (n k : ℕ) → (n ≡ k → ⊥) → (n == k) ≡ false
other_number n k h = grind (arith, nat_tests)

pub early_other : (m : List ℕ) (h : Header) (wanted : ℕ) → has_header m ≡ true → header_in m ≡ h → (h.status ≡ wanted → ⊥)
    → early wanted (response_in (Some m)) ≡ Some (HadStatus h.status)
early_other m h wanted has is other =
    ap (early wanted) (heard_as m h has is)
    ∙ ap (λ (b : Bool). if b then None else Some (HadStatus h.status)) (other_number h.status wanted other)

-- whether its status is due
pub due_as : (m : List ℕ) (h : Header) (wanted : ℕ) (r : Result Header DialogRefusal) → has_header m ≡ true → header_in m ≡ h
    → IsResponseDue wanted h r → DueBy wanted m r
due_as m h wanted (Ok k) has is d =
    (has, is ∙ sym d.0, same_number k.status wanted (ap (λ (x : Header). x.status) d.0 ∙ d.1))
due_as m h wanted (Err why) has is d = early_other m h wanted has is d.1 ∙ ap (λ (w : Refusal). Some w) (sym d.0)

pub long_as : (m : List ℕ) (r : Result Header DialogRefusal) → has_header m ≡ true → OnOk r (64 ≤ length m)
long_as m (Ok k) has = long_of m has
long_as m (Err why) has = tt

-- ---- a fault of the status is the dialog's

by_status : (b : Bool) (due_fault : Option Refusal) (st : ℕ) (why : Refusal) → (if b then None else Some (HadStatus st)) ≡ Some why
    → (if b then due_fault else Some (HadStatus st)) ≡ Some why
by_status true due_fault st why e = absurd cc
by_status false due_fault st why e = e

pub early_judged : (c : ClientSettings) (n : ClientEnd) (s : Stage) (o : Option HeardMessage) (why : Refusal)
    → early (status_due s) o ≡ Some why
    → response_judged c n s o ≡ Some why
early_judged c n s None why e = e
early_judged c n s (Some x) why e = by_status (x.header.status == status_due s) (faults c n s x) x.header.status why e

-- behind it the others
pub judged_is : (c : ClientSettings) (n : ClientEnd) (s : Stage) (m : List ℕ) (h : Header) → has_header m ≡ true → header_in m ≡ h
    → (h.status == status_due s) ≡ true → response_judged c n s (response_in (Some m)) ≡ faults c n s (headed h m)
judged_is c n s m h has is status =
    ap (response_judged c n s) (heard_as m h has is)
    ∙ ap (λ (b : Bool). if b then faults c n s (headed h m) else Some (HadStatus h.status)) status

-- ---- whose request waits

by_zero : (b e : Bool) (t : ℕ) (g k : ℕ) → (t == 0) ≡ b
    → (t == 0) ≡ is_dialogs (Some (if b then ForDialog else if e then ForOp g else ForAttach k))
by_zero true e t g k z = z
by_zero false true t g k z = z
by_zero false false t g k z = z

pub dialogs_token : (t : ℕ) (o : Option Token) → o ≡ Some (token_of t) → (t == 0) ≡ is_dialogs o
dialogs_token t o e = by_zero (t == 0) (t % 2 == 0) t (t / 2) (t / 2) refl ∙ ap is_dialogs (sym e)

pub no_token : (o : Option Token) → o ≡ None → false ≡ is_dialogs o
no_token o e = ap is_dialogs (sym e)
