-- The client hears what the server said to a dialog's request: its frame is a message of the reply's header, signed or not.
use Rattle.std.proofs.Common.{◌≡◌, ℕ, ◌+◌, ◌<◌, ◌^◌, true, false, List, [], ◌++◌, length, refl, sym, ap}
use Rattle.std.proofs.Common.{◌∙◌, arith, Option, Some, None}
use Rattle.std.proofs.lemmas.List.{append-nil}
use Rattle.spec_wire.specs.messages.Header.{IsWritableHeader}
use Rattle.spec_wire.specs.declared.messages.header.Header.{Header}
use Rattle.spec_exchange.specs.Commands.{has_bit}
use Rattle.spec_exchange.specs.State.{Reply}
use Rattle.spec_crypto.specs.declared.sessions.material.Signer.{Signer}
use Rattle.spec_crypto.specs.sessions.Signing.{verifies}
use Rattle.spec_world.specs.Settings.{WorldSettings}
use Rattle.spec_world.specs.Messages.{message_spelling}
use Rattle.spec_world.specs.Answering.{SaidReply, said_text, said_header, with_signature}
use Rattle.law_ties.specs.wire_facts.Fitting.{IsMessage, Bare, Signed}
use Rattle.law_ties.specs.wire_facts.Lawful.{IsLawful}
use Rattle.law_dialogs.specs.dialog_requests.Serving.{ReplyHeaderFits}
use Rattle.law_ties.proofs.requests.Hearing.{plain_flags, told_header, flags_fit, flags_tell, HeaderFits, with_flags}

pub record IsTold (h : Header) (body text : List ℕ) : Type 0 where
  pub flags : ℕ
  pub fits : IsWritableHeader (with_flags h flags)
  pub is : IsMessage (with_flags h flags) body text
  pub answers : has_bit flags 1 ≡ true

head_fits : (q : Header) (r : Reply) (credits flags : ℕ) → HeaderFits q → ReplyHeaderFits r → credits < 256 ^ 2 → flags < 256 ^ 4
    → IsWritableHeader (told_header q r credits flags)
head_fits q r credits flags h f few low = (
  refl,
  (
    omega arith,
    (
      h.charge,
      (f.status, (h.command, (few, (low, (omega arith, (h.message, (f.tree, (f.session, (refl, tt))))))))),
    ),
  ),
)

-- the text by the signer
text_is : (r : SaidReply) (h : Header) (o : Option Signer) → r.header ≡ h → h.next ≡ 0 → r.signer ≡ o
    → said_text false false r ≡ with_signature o h r.body
text_is r h o is last e =
    ap (λ s. with_signature s (said_header false r) (r.body ++ [])) e
    ∙ (ap (λ (q : Header). with_signature o (record q { next = 0 }) (r.body ++ [])) is
    ∙ (ap (λ n. with_signature o (record h { next = n }) (r.body ++ [])) (sym last) ∙ ap (with_signature o h) (append-nil r.body)))

pub told_by : (r : SaidReply) (q : Header) (reply : Reply) (credits : ℕ) (o : Option Signer) → r.signer ≡ o
    → r.header ≡ told_header q reply credits plain_flags → HeaderFits q → ReplyHeaderFits reply → credits < 256 ^ 2
    → IsTold (told_header q reply credits plain_flags) r.body (said_text false false r)
told_by r q reply credits None e is hf rf few = record {
  flags = plain_flags;
  fits = head_fits q reply credits plain_flags hf rf few flags_fit.0;
  is = Bare (text_is r (told_header q reply credits plain_flags) None is refl e);
  answers = flags_tell.0;
}
told_by r q reply credits (Some s) e is hf rf few = record {
  flags = plain_flags + 8;
  fits = head_fits q reply credits (plain_flags + 8) hf rf few flags_fit.1;
  is = Signed s (text_is r (told_header q reply credits plain_flags) (Some s) is refl e);
  answers = flags_tell.1;
}

pub right_by : (z : WorldSettings) → IsLawful z → (r : SaidReply) (q : Header) (reply : Reply) (credits : ℕ)
    (s : Signer) → r.signer ≡ Some s
    → r.header ≡ told_header q reply credits plain_flags → HeaderFits q → ReplyHeaderFits reply → credits < 256 ^ 2
    → verifies s (said_text false false r) ≡ true
right_by z law r q reply credits s e is hf rf few =
    let h = told_header q reply credits plain_flags in
    let k = told_header q reply credits (plain_flags + 8) in
    let fit : IsWritableHeader k = head_fits q reply credits (plain_flags + 8) hf rf few flags_fit.1 in
    let plain = message_spelling k r.body in
    let heads = law.headers in
    let ciphers = law.ciphers in
    let size : length plain ≡ 64 + length r.body = heads.size k r.body plain fit (Bare refl) in
    ap (verifies s) (text_is r h (Some s) is refl e) ∙ ciphers.verified s plain (omega (arith, size))
