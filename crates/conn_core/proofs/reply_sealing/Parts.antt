-- A frame's parts, as they are written into a list of bytes.
use Rattle.std.proofs.Common.{◌≡◌, ℕ, ◌+◌, ◌-◌, ◌≤◌, ◌/◌, ◌%◌, List, [], ◌∷◌, ◌++◌, true, false, length, take, drop}
use Rattle.std.proofs.Common.{length-drop, replicate, Some, None, Result, Ok, Err, refl, sym, ap, ◌∙◌, arith}
use Rattle.std.proofs.lemmas.List.{append-nil, drop_all, drop_at, drop-drop, take_all, take_at, take_rest, take-take, take-append-le}
use Rattle.std.proofs.lemmas.List.{take-append-drop, length-take-le}
use Rattle.std.proofs.lemmas.Bool.Decides.{nat_tests}
use borrow.Rule.Slice.PartMut.{put_mid}
use Rattle.spec_crypto.specs.declared.sessions.material.Keys.{Keys}
use Rattle.spec_crypto.specs.declared.sessions.material.Signer.{Signer}
use Rattle.spec_crypto.specs.sessions.Nonces.{NonceState, nonce_of}
use Rattle.spec_crypto.specs.sessions.Sealing.{sealed}
use Rattle.spec_crypto.specs.sessions.Signing.{signed}
use Rattle.spec_crypto.specs.sessions.Choice.{is_cipher}
use Rattle.conn_core.specs.declared.end.ConnEnd.{ConnEnd}
use Rattle.conn_core.specs.declared.end.ConnEnd.TheVariants.{BadFrame, OutsideWindow, SecondNegotiate, Unsealable}
use Rattle.conn_core.specs.declared.end.ConnEnd.TheVariants.{Spent, Full, LinkFault, Stopped, Memory}
use Rattle.conn_core.specs.reply_sealing.Saying.{framed}
use Rattle.conn_core.specs.reply_sealing.Joining.{Signs, SealsText, SealsAt}

-- zero bytes at the end of a list
pub filled : (old : List ℕ) (len count : ℕ) → len ≡ length old → take (len + count) old ++ replicate (len + count - len) 0
    ≡ old ++ replicate count 0
filled old len count e =
    let n : len + count - len ≡ count = omega arith in
    rw (n, take_all (len + count) old (omega (arith, e))) refl

pub ruleset zeros = (arith, filled)

-- what a vector has of a slice of all its bytes
pub written : (new old : List ℕ) (n : ℕ) → n ≡ length new → take n (new ++ drop (length new) old) ≡ new
written new old n e = take_at new (drop (length new) old) n (sym e)

-- what is put from a place on to the end
pub behind : (at : ℕ) (f ys : List ℕ) → at ≤ length f → put_mid at (length f - at) f ys ≡ take at f ++ ys
behind at f ys inside =
    let size : length (drop at f) ≡ length f - at = length-drop at f in
    let past : length (drop at f) ≤ length f - at = omega (arith, size) in
    let none : drop (length f - at) (drop at f) ≡ [] = drop_all (length f - at) (drop at f) past in
    ap (λ (t : List ℕ). take at f ++ (ys ++ t)) none ∙ ap (λ (t : List ℕ). take at f ++ t) (append-nil ys)

-- a message that nobody signs
pub unsigned : (at : ℕ) (f : List ℕ) → f ≡ take at f ++ Signs None (drop at f)
unsigned at f = sym (take-append-drop at f)

-- one that is signed where it stands
pub signed_behind : (at : ℕ) (f ys : List ℕ) (s : Signer) → at ≤ length f → ys ≡ signed s (take (length f - at) (drop at f))
    → put_mid at (length f - at) f ys ≡ take at f ++ signed s (drop at f)
signed_behind at f ys s inside e =
    behind at f ys inside ∙ ap (λ (t : List ℕ). take at f ++ t) (e ∙ ap (λ (t : List ℕ). signed s t) (take_rest f at))

-- ciphers that seal
pub known : (cipher : ℕ) → is_cipher cipher ≡ true → (1 ≤ cipher) × (cipher ≤ 4)
known cipher e = (grind (arith, nat_tests), grind (arith, nat_tests))

pub unknown : (cipher : ℕ) → is_cipher cipher ≡ false → (1 ≤ cipher) × (cipher ≤ 4) → ⊥
unknown cipher e h = let least = h.0 in let most = h.1 in grind (arith, nat_tests)

-- a text that is sealed where it stands
pub seals_behind : (from : ℕ) (f ys : List ℕ) (nonces after : NonceState) (k : Keys) (result : Result Unit ConnEnd) → from ≤ length f
    → SealsText k (take (length f - from) (drop from f)) nonces ys after result
    → SealsAt from f nonces (Some k) (put_mid from (length f - from) f ys) after result
seals_behind from f ys nonces after k (Ok u) inside h =
    let text : drop 52 (take (length f - from) (drop from f)) ≡ drop (from + 52) f =
    ap (λ (t : List ℕ). drop 52 t) (take_rest f from) ∙ drop-drop 52 from f in (
      h.0,
      h.1,
      behind from f ys inside
          ∙ ap (λ (t : List ℕ). take from f ++ t) (h.2 ∙ ap (λ (t : List ℕ). sealed k false (nonce_of nonces) t) text),
    )
seals_behind from f ys nonces after k (Err Spent) inside h = (
  h.0,
  h.1,
  behind from f ys inside
      ∙ (ap (λ (t : List ℕ). take from f ++ t) (h.2 ∙ take_rest f from) ∙ take-append-drop from f),
)
seals_behind from f ys nonces after k (Err Unsealable) inside h = absurd h
seals_behind from f ys nonces after k (Err BadFrame) inside h = absurd h
seals_behind from f ys nonces after k (Err (OutsideWindow id)) inside h = absurd h
seals_behind from f ys nonces after k (Err SecondNegotiate) inside h = absurd h
seals_behind from f ys nonces after k (Err Full) inside h = absurd h
seals_behind from f ys nonces after k (Err (LinkFault count)) inside h = absurd h
seals_behind from f ys nonces after k (Err (Stopped count)) inside h = absurd h
seals_behind from f ys nonces after k (Err Memory) inside h = absurd h

-- its length in front
pub framed_at : (at : ℕ) (f field : List ℕ) → at + 4 ≤ length f
    → field ≡ 0 ∷ (length f - at - 4) / 65536 % 256 ∷ (length f - at - 4) / 256 % 256 ∷ (length f - at - 4) % 256 ∷ []
    → take at f ++ (field ++ drop (at + 4) f) ≡ take at f ++ framed (drop (at + 4) f)
framed_at at f field inside e =
    let size : length (drop (at + 4) f) ≡ length f - (at + 4) = length-drop (at + 4) f in
    let same : length f - at - 4 ≡ length (drop (at + 4) f) = omega (arith, size, inside) in
    ap (λ (x : List ℕ). take at f ++ (x ++ drop (at + 4) f)) e
    ∙ ap (λ (n : ℕ). take at f ++ (0 ∷ n / 65536 % 256 ∷ n / 256 % 256 ∷ n % 256 ∷ drop (at + 4) f)) same

-- a frame that was sealed behind the room of its length
pub sealed_behind : (front : ℕ) (old out new s : List ℕ) → front + 4 ≤ length old → out ≡ take (front + 4) old ++ s
    → new ≡ take front out ++ framed (drop (front + 4) out) → new ≡ take front old ++ framed s
sealed_behind front old out new s inside e h =
    let size : length (take (front + 4) old) ≡ front + 4 = length-take-le (front + 4) old inside in
    let least : front ≤ length (take (front + 4) old) = omega (arith, size) in
    let few : front ≤ front + 4 = omega arith in
    let first : take front out ≡ take front old =
    ap (λ (x : List ℕ). take front x) e
    ∙ (take-append-le front (take (front + 4) old) s least ∙ take-take front (front + 4) old few) in
    let rest : drop (front + 4) out ≡ s =
    ap (λ (x : List ℕ). drop (front + 4) x) e ∙ drop_at (take (front + 4) old) s (front + 4) size in
    h ∙ (ap (λ (x : List ℕ). x ++ framed (drop (front + 4) out)) first ∙ ap (λ (x : List ℕ). take front old ++ framed x) rest)
