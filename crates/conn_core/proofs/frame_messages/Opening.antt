-- A sealed frame that is opened where it stands.
use Rattle.std.proofs.Common.{◌≡◌, ℕ, ◌<◌, ◌≤◌, ◌==◌, nat_le, Bool, true, false, not, ◌&&◌, if◌then◌else◌}
use Rattle.std.proofs.Common.{List, [], ◌∷◌, drop, take, length, arith}
use Rattle.std.specs.Prelude.{nat_eq}
use Rattle.std.proofs.Common.{Option, Some, None, Ok, Err, refl, sym, ap, subst, ◌∙◌}
use Rattle.spec_crypto.specs.declared.sessions.material.Keys.{Keys}
use Rattle.spec_crypto.specs.declared.sessions.error.SealError.{SealError}
use Rattle.spec_crypto.specs.declared.sessions.error.SealError.TheVariants.{NotSealed, BadTag}
use Rattle.spec_crypto.specs.sessions.Sealing.{unsealed, unsealed_by, frame_fault, if_whole, is_sealed, if_given, opened, protocol}
use Rattle.spec_crypto.specs.sessions.Sealing.{tag_is_right, key_for, shown}
use Rattle.std.specs.Str.{bytes_eq}
use Rattle.spec_wire.specs.messages.Places.{bytes_at}
use Rattle.crypto_sessions.specs.session_keys.Unsealing.{UnsealsInPlace}
use Rattle.spec_world.specs.Hearing.{begins_sealed, is_encrypted, opened_by}
use Rattle.conn_core.specs.declared.end.ConnEnd.{ConnEnd}
use Rattle.conn_core.specs.declared.end.ConnEnd.TheVariants as ends
use Rattle.conn_core.specs.frame_messages.Checking.{HeardBy, TextBy}
use Rattle.conn_core.proofs.frame_messages.Headers.{other_number, too_few}

by_cipher : (keys : Keys) (frame : List ℕ) (o : Option (List ℕ)) → (keys.cipher == 0) ≡ false → is_encrypted frame ≡ true
    → opened keys true frame ≡ o → opened_by (Some keys) frame ≡ o
by_cipher keys frame o c f e =
    ap (λ (b : Bool). if b then None else if is_encrypted frame then opened keys true frame else None) c
    ∙ (ap (λ (b : Bool). if b then opened keys true frame else None) f ∙ e)

-- it opens
pub opens : (keys : Keys) (old new : List ℕ) (done : Unit) → (keys.cipher ≡ 0 → ⊥) → is_encrypted old ≡ true → length new ≡ length old
    → UnsealsInPlace (unsealed keys true old) old new (Ok done) → HeardBy (opened_by (Some keys) old) (Ok done) new old
opens keys old new done c f long u =
    subst (λ (o : Option (List ℕ)). HeardBy o (Ok done) new old)
    (sym (by_cipher keys old (Some (drop 52 new)) (other_number keys.cipher 0 c) f (ap if_given u.0))) (refl, long)

-- it doesn't
pub refuses : (keys : Keys) (old new : List ℕ) (e : SealError) → (keys.cipher ≡ 0 → ⊥) → is_encrypted old ≡ true
    → UnsealsInPlace (unsealed keys true old) old new (Err e) → HeardBy (opened_by (Some keys) old) (Err ends.Unsealable) new old
refuses keys old new e c f u =
    subst (λ (o : Option (List ℕ)). HeardBy o (Err ends.Unsealable) new old)
    (sym (by_cipher keys old None (other_number keys.cipher 0 c) f (ap if_given u.0))) refl

-- keys without a cipher open nothing
pub without_cipher : (keys : Keys) (old new : List ℕ) → keys.cipher ≡ 0 → HeardBy (opened_by (Some keys) old) (Err ends.Unsealable) new old
without_cipher keys old new c =
    subst (λ (o : Option (List ℕ)). HeardBy o (Err ends.Unsealable) new old)
    (sym (ap (λ (n : ℕ). if n == 0 then None else if is_encrypted old then opened keys true old else None) c)) refl

-- a frame of fewer bytes than a transform header isn't sealed
on_short : (a b : Bool) (x y : Option SealError) → a ≡ false → (if not (a && b) then x else y) ≡ x
on_short false b x y h = refl
on_short true b x y h = absurd cc

short_fault : (session : ℕ) (frame : List ℕ) → length frame < 52 → frame_fault session frame ≡ Some NotSealed
unfolding frame_fault is_sealed
short_fault session frame short =
    let few : nat_le 52 (length frame) ≡ false = too_few 52 (length frame) short in
    on_short (nat_le 52 (length frame)) (bytes_eq (bytes_at 4 frame 0) protocol) (Some NotSealed) _ few

short_opens : (keys : Keys) (frame : List ℕ) → length frame < 52 → opened keys true frame ≡ None
unfolding unsealed_by
short_opens keys frame short =
    ap (λ (o : Option SealError). if_given (if_whole o (if tag_is_right keys.cipher (key_for keys true) frame
    then Ok (shown keys.cipher (key_for keys true) frame) else Err BadTag))) (short_fault keys.session frame short)

by_none : (b flagged : Bool) (o : Option (List ℕ)) → o ≡ None → (if b then None else if flagged then o else None) ≡ None
by_none true flagged o e = refl
by_none false true o e = e
by_none false false o e = refl

pub too_short : (keys : Keys) (old new : List ℕ) → length old < 52 → HeardBy (opened_by (Some keys) old) (Err ends.Unsealable) new old
too_short keys old new short =
    subst (λ (o : Option (List ℕ)). HeardBy o (Err ends.Unsealable) new old)
    (sym (by_none (keys.cipher == 0) (is_encrypted old) (opened keys true old) (short_opens keys old short))) refl

-- a transform header of other Flags is none
by_flags : (b flagged : Bool) (o : Option (List ℕ)) → flagged ≡ false → (if b then None else if flagged then o else None) ≡ None
by_flags true flagged o e = refl
by_flags false false o e = refl
by_flags false true o e = absurd (let q : true ≡ false = e in cc)

pub of_other_flags : (keys : Keys) (old new : List ℕ) → is_encrypted old ≡ false
    → HeardBy (opened_by (Some keys) old) (Err ends.Unsealable) new old
of_other_flags keys old new e =
    subst (λ (o : Option (List ℕ)). HeardBy o (Err ends.Unsealable) new old)
    (sym (by_flags (keys.cipher == 0) (is_encrypted old) (opened keys true old) e)) refl

-- the protocol's four bytes in front of a frame
eq_same : (a b : ℕ) → nat_eq a b ≡ nat_eq b a
eq_same a b = grind arith

bytes_same : (xs ys : List ℕ) → bytes_eq xs ys ≡ bytes_eq ys xs
bytes_same [] [] = refl
bytes_same [] (y ∷ ys) = refl
bytes_same (x ∷ xs) [] = refl
bytes_same (x ∷ xs) (y ∷ ys) = rw (eq_same x y, bytes_same xs ys) refl

pub in_front : (frame : List ℕ) → bytes_eq protocol (take 4 frame) ≡ begins_sealed frame
unfolding begins_sealed bytes_at
in_front frame = bytes_same protocol (take 4 frame)

-- ---- where its text begins

pub text_opened : (sealed : Bool) (o : Option (List ℕ)) (old new : List ℕ) (done : Unit) → sealed ≡ true → 52 ≤ length new
    → HeardBy o (Ok done) new old → TextBy (if sealed then o else Some old) (Ok 52) new
text_opened true (Some text) old new done s whole h = (whole, h.0)
text_opened true None old new done s whole h = absurd h
text_opened false o old new done s whole h = absurd cc

pub text_closed : (sealed : Bool) (o : Option (List ℕ)) (old new : List ℕ) (e : ConnEnd) → sealed ≡ true
    → HeardBy o (Err e) new old → TextBy (if sealed then o else Some old) (Err e) new
text_closed true (Some text) old new e s h = absurd h
text_closed true None old new e s h = h
text_closed false o old new e s h = absurd cc

pub text_plain : (sealed : Bool) (o : Option (List ℕ)) (old : List ℕ) → sealed ≡ false
    → TextBy (if sealed then o else Some old) (Ok 0) old
text_plain false o old s = let least : 0 ≤ length old = omega arith in (least, refl)
text_plain true o old s = absurd cc
