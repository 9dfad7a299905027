-- A reply that is put at the end, and signed where someone signs it.
use Rattle.std.proofs.Common.{◌≡◌, ℕ, ◌+◌, Bool, if◌then◌else◌, List, ◌++◌, length, take, drop, replicate}
use Rattle.std.proofs.Common.{append_assoc, Option, Some, None, refl, sym, ap, ◌∙◌}
use Rattle.std.specs.Prelude.{is_some}
use Rattle.std.proofs.lemmas.List.{take_at, drop_at}
use Rattle.spec_crypto.specs.declared.sessions.material.Signer.{Signer}
use Rattle.spec_wire.specs.messages.Header.{header_spelling}
use Rattle.spec_wire.specs.declared.messages.header.Header.{Header}
use Rattle.spec_world.specs.Answering as answering
use Rattle.spec_world.specs.Messages.{message_spelling}
use Rattle.conn_core.specs.declared.reply_sealing.said.Said.{Said}
use Rattle.conn_core.specs.reply_sealing.Saying.{IsReplySaid}
use Rattle.conn_core.specs.reply_sealing.Joining.{Signs}

-- a message with the flag of a signature, where there is a signer
by_signer : (signer : Option Signer) (h : Header) (body : List ℕ)
    → Signs signer (message_spelling (if is_some signer then record h { flags = h.flags + 8 } else h) body)
    ≡ answering.with_signature signer h body
by_signer None h body = refl
by_signer (Some s) h body = refl

signed_text : (sealed more : Bool) (s : Said) (r : answering.SaidReply) (signer : Option Signer) (header : Header)
    (gap : ℕ) → IsReplySaid s r
    → signer ≡ (if sealed then None else s.signer)
    → header ≡ (if is_some signer then record (answering.said_header more r) {
      flags = r.header.flags + 8;
    } else answering.said_header more r)
    → gap ≡ answering.padding_if more (64 + length s.body.now)
    → Signs signer (message_spelling header (s.body.now ++ replicate gap 0)) ≡ answering.said_text sealed more r
signed_text sealed more s r signer header gap said who head zeros =
    let body : s.body.now ++ replicate gap 0 ≡ answering.said_behind more r =
    ap (λ (n : ℕ). s.body.now ++ replicate n 0) zeros
    ∙ ap (λ (b : List ℕ). b ++ replicate (answering.padding_if more (64 + length b)) 0) (sym said.body) in
    let signs : signer ≡ (if sealed then None else r.signer) =
    who ∙ ap (λ (o : Option Signer). if sealed then None else o) (sym said.signer) in
    ap (λ (h : Header). Signs signer (message_spelling h (s.body.now ++ replicate gap 0))) head
    ∙ (by_signer signer (answering.said_header more r) (s.body.now ++ replicate gap 0)
    ∙ (ap (λ (b : List ℕ). answering.with_signature signer (answering.said_header more r) b) body
    ∙ ap (λ (o : Option Signer). answering.with_signature o (answering.said_header more r) (answering.said_behind more r)) signs))

put_behind : (old : List ℕ) (header : Header) (body zeros : List ℕ) → ((old ++ header_spelling header) ++ body) ++ zeros
    ≡ old ++ message_spelling header (body ++ zeros)
unfolding message_spelling
put_behind old header body zeros =
    append_assoc (old ++ header_spelling header) body zeros ∙ append_assoc old (header_spelling header) (body ++ zeros)

pub text_put : (sealed more : Bool) (s : Said) (r : answering.SaidReply) (signer : Option Signer) (header : Header) (gap start : ℕ)
    (old out new : List ℕ) → IsReplySaid s r → signer ≡ (if sealed then None else s.signer)
    → header ≡ (if is_some signer then record (answering.said_header more r) {
      flags = r.header.flags + 8;
    } else answering.said_header more r)
    → gap ≡ answering.padding_if more (64 + length s.body.now) → start ≡ length old
    → out ≡ ((old ++ header_spelling header) ++ s.body.now) ++ replicate gap 0 → new ≡ take start out ++ Signs signer (drop start out)
    → new ≡ old ++ answering.said_text sealed more r
text_put sealed more s r signer header gap start old out new said who head zeros at written h =
    let m : List ℕ = message_spelling header (s.body.now ++ replicate gap 0) in
    let e : out ≡ old ++ m = written ∙ put_behind old header s.body.now (replicate gap 0) in
    let first : take start out ≡ old = ap (λ (x : List ℕ). take start x) e ∙ take_at old m start (sym at) in
    let rest : drop start out ≡ m = ap (λ (x : List ℕ). drop start x) e ∙ drop_at old m start (sym at) in
    h ∙ (ap (λ (x : List ℕ). x ++ Signs signer (drop start out)) first
    ∙ (ap (λ (x : List ℕ). old ++ Signs signer x) rest
    ∙ ap (λ (x : List ℕ). old ++ x) (signed_text sealed more s r signer header gap said who head zeros)))
