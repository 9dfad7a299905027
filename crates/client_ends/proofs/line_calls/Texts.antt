-- A request's text in its frame, and a reply's.
use Rattle.std.proofs.Common.{◌≡◌, ℕ, ◌+◌, ◌-◌, ◌<◌, ◌≤◌, Bool, true, false, if◌then◌else◌, List, ◌++◌}
use Rattle.std.proofs.Common.{length, take, drop, Some, None, Ok, Err, refl, sym, ap, subst, ◌∙◌, arith}
use Rattle.std.proofs.lemmas.List.{drop_at, take_at, length-take-le}
use Rattle.spec_crypto.specs.declared.sessions.material.Keys.{Keys}
use Rattle.spec_crypto.specs.declared.sessions.error.SealError.{SealError}
use Rattle.spec_crypto.specs.declared.sessions.error.SealError.TheVariants as seals
use Rattle.crypto_sessions.specs.session_keys.Unsealing.{Unseals}
use Rattle.client_ends.specs.declared.ends.line.LineError.{LineError}
use Rattle.client_ends.specs.line_calls.Hearing.{IsUnsealed, Texts}
use Rattle.spec_crypto.specs.sessions.Sealing.{if_given, opened, unsealed}
use Rattle.spec_crypto.specs.sessions.Signing.{verifies}
use Rattle.spec_world.specs.Ends.{ClientEnd}
use Rattle.spec_world.specs.Messages.{has_header, heard_in}
use Rattle.spec_world.specs.Dialog.{line_text, response_in}
use Rattle.client_ends.specs.ends.Shown.{ShowsSeals}
use Rattle.client_ends.specs.declared.ends.line.Line.{Line}
use Rattle.client_ends.proofs.ends.Headers.{long_of}

-- ---- what is sent

-- a header that is put behind the room of a transform header
pub behind_front : (old new h : List ℕ) → 116 ≤ length old → new ≡ take 52 old ++ (h ++ drop (52 + 64) old)
    → drop 52 new ≡ h ++ drop 116 old
behind_front old new h whole e =
    let size : length (take 52 old) ≡ 52 = length-take-le 52 old (omega (arith, whole)) in
    ap (λ (x : List ℕ). drop 52 x) e ∙ drop_at (take 52 old) (h ++ drop 116 old) 52 size

-- a vector that was written in place
pub written : (new old : List ℕ) (n : ℕ) → n ≡ length new → take n (new ++ drop (length new) old) ≡ new
written new old n len = take_at new (drop (length new) old) n (sym len)

-- ---- what is taken

not_true : (b : Bool) → (b ≡ true → ⊥) → b ≡ false
not_true true h = absurd (h refl)
not_true false h = refl

headless : (m : List ℕ) → length m < 64 → has_header m ≡ false
headless m short = not_true (has_header m) (λ h. let long : 64 ≤ length m = long_of m h in absurd (omega (arith, long, short)))

by_header : (b : Bool) (m : List ℕ) → has_header m ≡ false → response_in (if b then Some m else None) ≡ None
by_header true m e = ap (λ (c : Bool). if c then Some (heard_in m) else None) e
by_header false m e = refl

-- whatever its keys, an end that seals opens, and another one verifies
plain_text : (n : ClientEnd) (frame : List ℕ) → n.encrypts ≡ false
    → line_text n frame ≡ (if verifies n.keys.signing frame then Some frame else None)
plain_text n frame e =
    ap (λ (b : Bool). if b then opened n.keys false frame else if verifies n.keys.signing frame then Some frame else None) e

pub sealed_text : (n : ClientEnd) (frame : List ℕ) → n.encrypts ≡ true → line_text n frame ≡ opened n.keys false frame
sealed_text n frame e =
    ap (λ (b : Bool). if b then opened n.keys false frame else if verifies n.keys.signing frame then Some frame else None) e

pub too_short : (l : Line) (n : ClientEnd) (frame : List ℕ) → ShowsSeals l n → l.encrypts ≡ false → length frame < 64
    → response_in (line_text n frame) ≡ None
too_short l n frame s plain short =
    ap response_in (plain_text n frame (s.encrypts ∙ plain)) ∙ by_header (verifies n.keys.signing frame) frame (headless frame short)

pub unverified : (l : Line) (n : ClientEnd) (frame : List ℕ) → ShowsSeals l n → l.encrypts ≡ false
    → verifies l.keys.signing frame ≡ false → response_in (line_text n frame) ≡ None
unverified l n frame s plain v =
    ap response_in (plain_text n frame (s.encrypts ∙ plain)
    ∙ (ap (λ (k : Keys). if verifies k.signing frame then Some frame else None) s.keys
    ∙ ap (λ (b : Bool). if b then Some frame else None) v))

pub verified : (l : Line) (n : ClientEnd) (frame : List ℕ) → ShowsSeals l n → l.encrypts ≡ false
    → verifies l.keys.signing frame ≡ true → line_text n frame ≡ Some frame
verified l n frame s plain v =
    plain_text n frame (s.encrypts ∙ plain)
    ∙ (ap (λ (k : Keys). if verifies k.signing frame then Some frame else None) s.keys
    ∙ ap (λ (b : Bool). if b then Some frame else None) v)

pub opens : (l : Line) (n : ClientEnd) (frame text : List ℕ) → ShowsSeals l n → l.encrypts ≡ true
    → unsealed l.keys false frame ≡ Ok text → line_text n frame ≡ Some text
opens l n frame text s seals u =
    sealed_text n frame (s.encrypts ∙ seals) ∙ (ap (λ (k : Keys). opened k false frame) s.keys ∙ ap if_given u)

pub unopened : (l : Line) (n : ClientEnd) (frame : List ℕ) (e : SealError) → ShowsSeals l n → l.encrypts ≡ true
    → unsealed l.keys false frame ≡ Err e → response_in (line_text n frame) ≡ None
unopened l n frame e s seals u =
    ap response_in (sealed_text n frame (s.encrypts ∙ seals) ∙ (ap (λ (k : Keys). opened k false frame) s.keys ∙ ap if_given u))

-- with the cause as the line has it
pub unopened_as : (l : Line) (n : ClientEnd) (frame : List ℕ) (e : SealError) (why : LineError) → ShowsSeals l n → l.encrypts ≡ true
    → Unseals (unsealed l.keys false frame) (Err e) → IsUnsealed e why → Texts (line_text n frame) (Err why)
unopened_as l n frame seals.Memory why s on u w = subst (λ (x : LineError). Texts (line_text n frame) (Err x)) (sym w) tt
unopened_as l n frame seals.NotSealed why s on u w =
    subst (λ (x : LineError). Texts (line_text n frame) (Err x)) (sym w) (unopened l n frame seals.NotSealed s on u)
unopened_as l n frame (seals.BadSize size) why s on u w =
    subst (λ (x : LineError). Texts (line_text n frame) (Err x)) (sym w) (unopened l n frame (seals.BadSize size) s on u)
unopened_as l n frame (seals.OtherSession session) why s on u w =
    subst (λ (x : LineError). Texts (line_text n frame) (Err x)) (sym w) (unopened l n frame (seals.OtherSession session) s on u)
unopened_as l n frame seals.BadTag why s on u w =
    subst (λ (x : LineError). Texts (line_text n frame) (Err x)) (sym w) (unopened l n frame seals.BadTag s on u)
