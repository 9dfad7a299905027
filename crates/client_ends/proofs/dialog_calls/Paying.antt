-- A response that has no fault yet: whether the next request is paid for.
use Rattle.std.proofs.Common.{◌≡◌, ℕ, ◌<◌, ◌==◌, nat_lt, Bool, true, false, if◌then◌else◌, List, length, Option, Some, None}
use Rattle.std.proofs.Common.{refl, sym, ap, subst, ◌∙◌, arith}
use Rattle.std.proofs.lemmas.Bool.Decides.{nat_tests}
use Rattle.spec_exchange.specs.Client.{Stage}
use Rattle.spec_exchange.specs.Operations.{Refusal, BadChoice, BadToken, BadSignature, HadStatus}
use Rattle.spec_wire.specs.declared.messages.header.Header.{Header}
use Rattle.spec_world.specs.Ends.{ClientEnd}
use Rattle.spec_world.specs.Messages.{HeardMessage, has_header, header_in}
use Rattle.spec_world.specs.Settings.{ClientSettings}
use Rattle.spec_world.specs.Dialog.{choices_of, dialog_fault, status_due, first_refusal, flags_fit, has_form, has_token, is_signed}
use Rattle.spec_world.specs.Dialog.{pays_next, response_in, unless}
use Rattle.spec_crypto.specs.tokens.Tokens.{answer_token}
use Rattle.spec_world.specs.Sending.{answer_of, credentials_of, that_fits}
use Rattle.client_ends.specs.response_faults.Judging.{faults, response_judged}
use Rattle.client_ends.proofs.response_faults.Forms.{headed, heard_as}
use Rattle.client_ends.specs.dialog_calls.Turning.{refusal_on}

-- the order of five faults and one more
in_order : (a b c d e f : Option Refusal)
    → first_refusal a (first_refusal b (first_refusal c (first_refusal d (first_refusal e f))))
    ≡ first_refusal (first_refusal a (first_refusal b (first_refusal c (first_refusal d e)))) f
in_order (Some w) b c d e f = refl
in_order None (Some w) c d e f = refl
in_order None None (Some w) d e f = refl
in_order None None None (Some w) e f = refl
in_order None None None None e f = refl

by_status : (b : Bool) (st : ℕ) (all five : Option Refusal) (last : Option Refusal) → all ≡ first_refusal five last
    → (if b then all else Some (HadStatus st)) ≡ first_refusal (if b then five else Some (HadStatus st)) last
by_status true st all five last e = e
by_status false st all five last e = refl

-- ("last" is that for want of a credit)
of_heard : (c : ClientSettings) (n : ClientEnd) (s : Stage) (x : HeardMessage)
    → refusal_on c n s (Some x) ≡ first_refusal (response_judged c n s (Some x)) (unless (pays_next n s x.header) BadToken)
of_heard c n s x =
    by_status (x.header.status == status_due s) x.header.status (dialog_fault c n s x) (faults c n s x)
    (unless (pays_next n s x.header) BadToken)
    (in_order (unless (has_form n s x) BadToken) (choices_of c s x.bytes) (unless (has_token c n s x.bytes) BadToken)
    (unless (is_signed n s x.bytes) BadSignature) (unless (flags_fit n s x.bytes) (BadChoice 5))
    (unless (pays_next n s x.header) BadToken))

-- a fault that was judged is the dialog's
pub judged_first : (c : ClientSettings) (n : ClientEnd) (s : Stage) (o : Option HeardMessage) (why : Refusal)
    → response_judged c n s o ≡ Some why
    → refusal_on c n s o ≡ Some why
judged_first c n s None why e = e
judged_first c n s (Some x) why e =
    of_heard c n s x ∙ ap (λ (r : Option Refusal). first_refusal r (unless (pays_next n s x.header) BadToken)) e

-- without one it hangs on a credit
pub unfaulted : (c : ClientSettings) (n : ClientEnd) (s : Stage) (m : List ℕ) (h : Header) → has_header m ≡ true → header_in m ≡ h
    → response_judged c n s (response_in (Some m)) ≡ None → refusal_on c n s (response_in (Some m)) ≡ unless (pays_next n s h) BadToken
unfaulted c n s m h has is e =
    let heard = heard_as m h has is in
    let none : response_judged c n s (Some (headed h m)) ≡ None =
    ap (λ (o : Option HeardMessage). response_judged c n s o) (sym heard) ∙ e in
    ap (λ (o : Option HeardMessage). refusal_on c n s o) heard
    ∙ (of_heard c n s (headed h m) ∙ ap (λ (r : Option Refusal). first_refusal r (unless (pays_next n s h) BadToken)) none)

-- an answer fits its field
short_by : (o : Option (List ℕ)) (token : List ℕ) → that_fits o ≡ Some token → length token < 65536
short_by None token e = absurd cc
short_by (Some t) token e = by_length (nat_lt (length t) 65536) t token refl e
  where
    less : (k : ℕ) → nat_lt k 65536 ≡ true → k < 65536
    less k h = grind (arith, nat_tests)

    by_length : (b : Bool) (t token : List ℕ) → nat_lt (length t) 65536 ≡ b → (if b then Some t else None) ≡ Some token
        → length token < 65536
    by_length true t token h e = let same : t ≡ token = cc in subst (λ (x : List ℕ). length x < 65536) same (less (length t) h)
    by_length false t token h e = absurd cc

pub answer_short : (c : ClientSettings) (n : ClientEnd) (given token : List ℕ) → answer_of c n given ≡ Some token → length token < 65536
unfolding answer_of
answer_short c n given token e = short_by (answer_token (credentials_of c n) given) token e
