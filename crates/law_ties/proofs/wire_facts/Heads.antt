-- A message is heard with its own header, alone in its frame, and is no sealed one.
use Rattle.std.proofs.Common.{◌≡◌, ℕ, zero, suc, ◌+◌, ◌≤◌, ◌==◌, nat_le, Bool, true, false, not, ◌&&◌, if◌then◌else◌, List, [], ◌∷◌, ◌++◌}
use Rattle.std.proofs.Common.{length, take, drop, length-append, refl, sym, ap, ◌∙◌, subst, arith, Some, None}
use Rattle.std.proofs.lemmas.Bool.Decides.{nat_tests}
use Rattle.std.proofs.lemmas.Slice.Eq.{bytes_eq-Decides}
use Rattle.std.specs.Str.{bytes_eq}
use Rattle.spec_wire.specs.messages.Places.{number, bytes_at}
use Rattle.spec_wire.specs.messages.Table.{Field, Num, Raw, Any, with_fields}
use Rattle.spec_wire.specs.messages.Header.{protocol, header_spelling, IsWritableHeader, SpellsHeader}
use Rattle.spec_wire.specs.declared.messages.header.Header.{Header}
use Rattle.law_wire.proofs.messages.Rows.{with_fields-append}
use Rattle.spec_crypto.specs.sessions.Signing.{signature, signed}
use Rattle.spec_world.specs.Messages.{has_header, header_in, heard_in, messages_from, messages_in, message_spelling}
use Rattle.spec_world.specs.Hearing.{begins_sealed}
use Rattle.spec_world.specs.Dialog.{response_in}
use Rattle.law_ties.specs.wire_facts.Fitting.{IsMessage, Bare, Signed}
use Rattle.law_ties.specs.wire_facts.Lawful.{heard_under}
use Rattle.law_ties.proofs.wire_facts.Signed.{Spelled, with_signature}

-- what the law of headers says of a spelling
abbrev pub Again : Type 0
Again = (rest : List ℕ) (h : Header) → IsWritableHeader h → SpellsHeader (header_spelling h ++ rest) h

abbrev pub Sixty_four : Type 0
Sixty_four = (h : Header) → IsWritableHeader h → length (header_spelling h) ≡ 64

pub stands : (h : Header) (body m : List ℕ) (x : Spelled h body m) → Again → SpellsHeader m (with_signature h x.code)
unfolding message_spelling
stands h body m x again = subst (λ y. SpellsHeader y (with_signature h x.code)) (sym x.is) (again body (with_signature h x.code) x.fits)

pub size : (h : Header) (body m : List ℕ) → Spelled h body m → Sixty_four → length m ≡ 64 + length body
unfolding message_spelling
size h body m x long =
    ap length x.is ∙ (length-append (header_spelling (with_signature h x.code)) body
    ∙ ap (λ n. n + length body) (long (with_signature h x.code) x.fits))

pub next : (h : Header) (m code : List ℕ) → SpellsHeader m (with_signature h code) → number 4 m 20 ≡ h.next
next h m code s = (let a = s.1.1 in let b = a.1.1.1.1.1 in b.0)

both : (a b : Bool) → a ≡ true → b ≡ true → (a && b) ≡ true
both true b e f = f
both false b e f = e

at_least : (n : ℕ) → 64 ≤ n → nat_le 64 n ≡ true
at_least n e = grind (arith, nat_tests)

same_number : (n k : ℕ) → n ≡ k → (n == k) ≡ true
same_number n k e = grind arith

-- ---- a spelled header is the one that is heard

pub has_it : (m : List ℕ) (h : Header) → SpellsHeader m h → has_header m ≡ true
unfolding has_header
has_it m h s =
    both (nat_le 64 (length m)) _ (at_least (length m) s.1.1.1.1.1.1.1.1.1.1.1.1)
    (both (bytes_eq (bytes_at 4 m 0) protocol) (number 2 m 4 == 64) ((bytes_eq-Decides (bytes_at 4 m 0) protocol).1 s.0)
    (same_number (number 2 m 4) 64 s.1.0))

pub header_is : (m : List ℕ) (h : Header) → SpellsHeader m h → header_in m ≡ h
unfolding header_in
header_is m h s =
    let a = s.1.1 in
    let b = a.1.1.1.1.1 in
    let d = b.1.1 in
    λ t. record {
      charge = a.0 t;
      status = a.1.0 t;
      command = a.1.1.0 t;
      credits = a.1.1.1.0 t;
      flags = a.1.1.1.1.0 t;
      next = b.0 t;
      message = b.1.0 t;
      tree = d.0 t;
      session = d.1.0 t;
      signature = d.1.1.0 t;
    }

-- of a message: its header but for the signature, which its bytes tell
pub heard_is : (m : List ℕ) (h : Header) (code : List ℕ) → SpellsHeader m (with_signature h code) → heard_in m ≡ heard_under h m
heard_is m h code s =
    let a = s.1.1 in
    let b = a.1.1.1.1.1 in
    let d = b.1.1 in
    let is : header_in m ≡ with_signature h code = header_is m (with_signature h code) s in
    let told : bytes_at 16 m 48 ≡ code = d.1.1.0 in
    ap (λ (x : Header). record { header = x; bytes = m }) (is ∙ ap (with_signature h) (sym told))

-- ---- alone in its frame

chosen : {X : Type 0} (b c : Bool) (x rest other : X) → b ≡ true → c ≡ true → (if not b then other else if c then x else rest) ≡ x
chosen true true x rest other e f = refl
chosen true false x rest other e f = absurd (cc)
chosen false c x rest other e f = absurd (cc)

from_size : (n size : ℕ) (m : List ℕ) → n ≡ 64 + size → has_header m ≡ true → (number 4 m 20 == 0) ≡ true
    → messages_from n m ≡ Some (heard_in m ∷ [])
unfolding messages_from
from_size zero size m e head last = absurd (omega (arith, e))
from_size (suc n) size m e head last = chosen (has_header m) (number 4 m 20 == 0) (Some (heard_in m ∷ [])) _ None head last

pub alone_is : (m : List ℕ) (size : ℕ) → length m ≡ 64 + size → has_header m ≡ true → number 4 m 20 ≡ 0
    → messages_in m ≡ Some (heard_in m ∷ [])
unfolding messages_in
alone_is m size e head last = from_size (length m) size m e head (same_number (number 4 m 20) 0 last)

pub response_is : (m : List ℕ) → has_header m ≡ true → response_in (Some m) ≡ Some (heard_in m)
response_is m head = ap (λ b. if b then Some (heard_in m) else None) head

-- ---- FE 'S' 'M' 'B' in front

abbrev later_fields : Header → List Field
later_fields h =
    Num 2 64 ∷ Num 2 h.charge ∷ Num 4 h.status ∷ Num 2 h.command ∷ Num 2 h.credits ∷ Num 4 h.flags ∷ Num 4 h.next ∷ Num 8 h.message
    ∷ Any 4 ∷ Num 4 h.tree ∷ Num 8 h.session ∷ Raw 16 h.signature ∷ []

four_in_front : (h : Header) (body : List ℕ) → message_spelling h body
    ≡ 0xfe ∷ 0x53 ∷ 0x4d ∷ 0x42 ∷ (with_fields [] (later_fields h) ++ body)
unfolding message_spelling
four_in_front h body = ap (λ x. x ++ body) (with_fields-append protocol (later_fields h))

not_sealed : (rest : List ℕ) → begins_sealed (0xfe ∷ 0x53 ∷ 0x4d ∷ 0x42 ∷ rest) ≡ false
unfolding begins_sealed bytes_at
not_sealed rest = refl

signed_front : (rest code : List ℕ) → begins_sealed (take 48 (0xfe ∷ 0x53 ∷ 0x4d ∷ 0x42 ∷ rest) ++ code) ≡ false
unfolding begins_sealed bytes_at
signed_front rest code = refl

pub plain_is : (h : Header) (body m : List ℕ) → IsMessage h body m → begins_sealed m ≡ false
unfolding signed
plain_is h body m (Bare e) = ap begins_sealed (e ∙ four_in_front h body) ∙ not_sealed _
plain_is h body m (Signed s e) =
    let x = message_spelling h body in
    ap begins_sealed (e ∙ ap (λ y. take 48 y ++ (signature s x ++ drop 64 x)) (four_in_front h body))
    ∙ signed_front (with_fields [] (later_fields h) ++ body) (signature s x ++ drop 64 x)
