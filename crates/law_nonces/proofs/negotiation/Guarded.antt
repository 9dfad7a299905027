-- A message without a fault was sealed, or signed as owed, or is one that owes neither.
use Rattle.std.proofs.Common.{◌≡◌, ℕ, zero, suc, Bool, true, false, not, ◌&&◌, ◌||◌, if◌then◌else◌, List, []}
use Rattle.std.proofs.Common.{◌∷◌, ◌⊎◌, inl, inr, refl, sym, subst}
use Rattle.std.proofs.Common.{Option, Some, None, Result, Ok, Err, slice_get}
use Rattle.spec_exchange.specs.Status.{access_denied}
use Rattle.spec_exchange.specs.Commands.{has_bit}
use Rattle.spec_crypto.specs.declared.sessions.material.Keys.{Keys}
use Rattle.spec_world.specs.Messages.{HeardMessage}
use Rattle.spec_world.specs.Ends.{ServerEnd, ConnEnd}
use Rattle.spec_world.specs.Hearing.{FrameText, text_of, is_negotiate, is_setup, is_probe, turn_end, behind_turn, signed_by, bars}
use Rattle.spec_world.specs.Hearing.{Checked, checked_as, Frame, in_front, if_in_turn, checked_behind, checked_in}
use Rattle.spec_world.specs.Hearing.{checked_text}
use Rattle.spec_world.specs.Statements.{FramesAreGuarded}

-- of one message, by the connection's keys, whether it owes sealing, and whether its frame was sealed
abbrev IsSafe : Option Keys → Bool → Bool → Checked → Type 0
IsSafe keys owes sealed c =
    c.fault ≡ None → (sealed ≡ true) ⊎ (owes ≡ false) × (has_bit c.header.flags 8 ≡ true) × (signed_by keys c.raw ≡ true)
    ⊎ (is_setup c.header ≡ true) ⊎ (is_negotiate c.header ≡ true) ⊎ (is_probe c.header c.raw ≡ true)

abbrev AreSafe : Option Keys → Bool → Bool → List Checked → Type 0
AreSafe keys owes sealed cs = (i : ℕ) (c : Checked) → slice_get cs i ≡ Some c → IsSafe keys owes sealed c

abbrev FrameSafe : Option Keys → Bool → Bool → Result Frame ConnEnd → Type 0
FrameSafe keys owes sealed (Err e) = Unit {0}
FrameSafe keys owes sealed (Ok x) = (x.sealed ≡ sealed) × AreSafe keys owes sealed x.messages

-- by the tests: behind a SESSION_SETUP, sealed, encrypts, flagged, signed, NEGOTIATE, SESSION_SETUP, an ECHO of SessionId 0
safe_by : (behind sealed encrypts flagged signed negotiate setup probe : Bool)
    → (if behind then Some access_denied else if negotiate || (setup || probe) then None else if sealed
    || (not encrypts && (flagged && signed)) then None else Some access_denied) ≡ None
    → (sealed ≡ true) ⊎ (encrypts ≡ false) × (flagged ≡ true) × (signed ≡ true) ⊎ (setup ≡ true) ⊎ (negotiate ≡ true) ⊎ (probe ≡ true)
safe_by true sealed encrypts flagged signed negotiate setup probe e = absurd (let q : Some access_denied ≡ None = e in cc)
safe_by false sealed encrypts flagged signed true setup probe e = inr (inr (inr (inl refl)))
safe_by false sealed encrypts flagged signed false true probe e = inr (inr (inl refl))
safe_by false sealed encrypts flagged signed false false true e = inr (inr (inr (inr refl)))
safe_by false true encrypts flagged signed false false false e = inl refl
safe_by false false true flagged signed false false false e = absurd (let q : Some access_denied ≡ None = e in cc)
safe_by false false false true true false false false e = inr (inl (refl, refl, refl))
safe_by false false false true false false false false e = absurd (let q : Some access_denied ≡ None = e in cc)
safe_by false false false false signed false false false e = absurd (let q : Some access_denied ≡ None = e in cc)

one_safe : (f : ServerEnd) (sealed behind first : Bool) (x : HeardMessage) → IsSafe f.keys f.encrypts sealed
    (checked_as f sealed behind first x)
one_safe f sealed behind first x e =
    safe_by behind sealed f.encrypts (has_bit x.header.flags 8) (signed_by f.keys x.bytes) (is_negotiate x.header) (is_setup x.header)
    (is_probe x.header x.bytes) e

with_safe : (keys : Option Keys) (owes sealed : Bool) (c : Checked) (cs : List Checked) → IsSafe keys owes sealed c
    → AreSafe keys owes sealed cs → AreSafe keys owes sealed (c ∷ cs)
with_safe keys owes sealed c cs one all zero d h = let same : c ≡ d = (let q : Some c ≡ Some d = h in cc) in
    subst (IsSafe keys owes sealed) same one
with_safe keys owes sealed c cs one all (suc i) d h = all i d h

none_safe : (keys : Option Keys) (owes sealed : Bool) → AreSafe keys owes sealed []
none_safe keys owes sealed zero d h = absurd (let q : None ≡ Some d = h in cc)
none_safe keys owes sealed (suc i) d h = absurd (let q : None ≡ Some d = h in cc)

front_safe : (keys : Option Keys) (owes sealed : Bool) (c : Checked) (r : Result Frame ConnEnd) → IsSafe keys owes sealed c
    → FrameSafe keys owes sealed r → FrameSafe keys owes sealed (in_front c r)
front_safe keys owes sealed c (Err e) one all = tt
front_safe keys owes sealed c (Ok x) one all = (all.0, with_safe keys owes sealed c x.messages one all.1)

turn_safe : (keys : Option Keys) (owes sealed : Bool) (o : Option ConnEnd) (r : Result Frame ConnEnd)
    → FrameSafe keys owes sealed r → FrameSafe keys owes sealed (if_in_turn o r)
turn_safe keys owes sealed (Some e) r all = tt
turn_safe keys owes sealed None r all = all

behind_safe : (f : ServerEnd) (sealed behind : Bool) (xs : List HeardMessage) → FrameSafe f.keys f.encrypts sealed
    (checked_behind f sealed behind xs)
unfolding checked_behind
behind_safe f sealed behind [] = (refl, none_safe f.keys f.encrypts sealed)
behind_safe f sealed behind (x ∷ xs) =
    turn_safe f.keys f.encrypts sealed (turn_end f x.header) _
    (front_safe f.keys f.encrypts sealed (checked_as f sealed behind false x) _ (one_safe f sealed behind false x)
    (behind_safe (behind_turn f x.header) sealed (bars f sealed behind x) xs))

in_safe : (f : ServerEnd) (sealed : Bool) (xs : List HeardMessage) → FrameSafe f.keys f.encrypts sealed (checked_in f sealed xs)
in_safe f sealed [] = tt
in_safe f sealed (x ∷ xs) =
    turn_safe f.keys f.encrypts sealed (turn_end f x.header) _
    (front_safe f.keys f.encrypts sealed (checked_as f sealed false true x) _ (one_safe f sealed false true x)
    (behind_safe (behind_turn f x.header) sealed (bars f sealed false x) xs))

text_safe : (f : ServerEnd) (t : Result FrameText ConnEnd) (x : Frame) → checked_text f t ≡ Ok x
    → AreSafe f.keys f.encrypts x.sealed x.messages
text_safe f (Err e) x is = absurd (let q : Err e ≡ Ok x = is in cc)
text_safe f (Ok t) x is = told (checked_in f t.sealed t.messages) is (in_safe f t.sealed t.messages)
  where
    told : (r : Result Frame ConnEnd) → r ≡ Ok x → FrameSafe f.keys f.encrypts t.sealed r → AreSafe f.keys f.encrypts x.sealed x.messages
    told (Err e) same safe = absurd (let q : Err e ≡ Ok x = same in cc)
    told (Ok y) same safe =
        let is_one : y ≡ x = (let q : Ok y ≡ Ok x = same in cc) in
        subst (λ (v : Frame). AreSafe f.keys f.encrypts v.sealed v.messages) is_one
        (subst (λ b. AreSafe f.keys f.encrypts b y.messages) (sym safe.0) safe.1)

pub guarded : FramesAreGuarded
guarded f frame x i c is there fault = text_safe f (text_of f.keys frame) x is i c there fault
