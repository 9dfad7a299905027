-- What the form of a type 3 says of its parts.
use Rattle.std.proofs.Common.{◌≡◌, ℕ, ◌≤◌, ◌-◌, ◌==◌, nat_le, Bool, true, false, not, ◌&&◌, ◌||◌, List, length, take}
use Rattle.std.proofs.Common.{drop, length-drop, refl, ap, arith, Option}
use Rattle.std.proofs.lemmas.List.{take_all}
use Rattle.spec_crypto.specs.tokens.Pairs.{pair_in}
use Rattle.std.proofs.lemmas.Bool.Decides.{nat_tests}
use Rattle.spec_crypto.specs.tokens.Messages.{Type3Value}
use Rattle.spec_crypto.specs.tokens.Acceptor.{has_mic_bit, owes_mic, has_profile, has_form, exchanges}

and_left : (a b : Bool) → (a && b) ≡ true → a ≡ true
and_left true b h = refl
and_left false b h = h

and_right : (a b : Bool) → (a && b) ≡ true → b ≡ true
and_right true b h = h
and_right false b h = cc

or_second : (a b : Bool) → a ≡ true → (not a || b) ≡ true → b ≡ true
or_second true b e h = h
or_second false b e h = cc

pub has_proof : (v : Type3Value) → has_form v ≡ true → 44 ≤ length v.nt
unfolding has_form
has_proof v h =
    let long = and_left (nat_le 44 (length v.nt)) _ (and_right (has_profile v.flags) _ h) in
    grind (arith, nat_tests)

pub has_key : (v : Type3Value) → has_form v ≡ true → exchanges v.flags ≡ true → length v.session_key ≡ 16
unfolding has_form
has_key v h e =
    let key = or_second (exchanges v.flags) (length v.session_key == 16) e (and_right (nat_le 44 (length v.nt)) _
    (and_right (has_profile v.flags) _ h)) in
    grind (arith, nat_tests)

-- a slice from a place to the end
pub behind : (n : ℕ) (xs : List ℕ) → take (length xs - n) (drop n xs) ≡ drop n xs
behind n xs = take_all (length xs - n) (drop n xs) (omega (arith, length-drop n xs))

pub owes : (v : Type3Value) (o : Option (List ℕ)) → o ≡ pair_in (length (drop 44 v.nt)) 6 (drop 44 v.nt) → has_mic_bit o ≡ owes_mic v
unfolding owes_mic
owes v o e = ap has_mic_bit e
