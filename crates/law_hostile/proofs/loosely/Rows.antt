-- Computed.
use Rattle.std.proofs.Common.{◌≡◌, ℕ, ◌+◌, ◌==◌, ◌&&◌, Bool, true, false, if◌then◌else◌, List, [], ◌∷◌, refl, ap, eq-eqb, arith}
use Rattle.std.proofs.lemmas.Bool.Decides.{nat_tests}
use Rattle.spec_exchange.specs.Content.{same_bytes}
use Rattle.spec_exchange.specs.Commands.{Aside, Logoff, Begins}
use Rattle.law_sessions.specs.sessions.Sessions.{logon_user}
use Rattle.spec_exchange.specs.Network.{World, answer}
use Rattle.law_hostile.proofs.acts.Faulty.{faulty_acts_not}
use Rattle.law_hostile.specs.loosely.LooseRows.{ups_behind, acts_there, asks_badly_for, asks_for, asks_session, places_behind, downs_behind}
use Rattle.law_hostile.specs.loosely.LooseRows.{waiting, other_logon}
use Rattle.law_hostile.specs.loosely.LooseRuns.{Hears, heard_apart, Loses, Overtakes, without_at, overtaken_at}

pub request_lost : (w : World) → ups_behind w (Loses 0 true 1) ≡ 1 ∷ 3 ∷ []
unfolding without_at
request_lost w = refl

pub reply_lost : (w : World) → downs_behind w (Loses 0 false 1) ≡ 1 ∷ 3 ∷ []
unfolding without_at
reply_lost w = refl

pub request_ahead : (w : World) → ups_behind w (Overtakes 0 true 0) ≡ 2 ∷ 1 ∷ 3 ∷ []
unfolding overtaken_at
request_ahead w = refl

pub reply_ahead : (w : World) → downs_behind w (Overtakes 0 false 0) ≡ 2 ∷ 1 ∷ 3 ∷ []
unfolding overtaken_at
reply_ahead w = refl

pub one_heard : (w : World) → places_behind w (Hears (asks_for (Aside 0) 4)) ≡ w.log.places + 1
one_heard w = refl

pub none_moved : (w : World) → ups_behind w (Hears (asks_for (Aside 0) 4)) ≡ 1 ∷ 2 ∷ 3 ∷ []
none_moved w = refl

pub none_answered : (w : World) → downs_behind w (Hears (asks_for (Aside 0) 4)) ≡ 1 ∷ 2 ∷ 3 ∷ []
none_answered w = refl

pub badly_heard : (w : World) → places_behind w (Hears (asks_badly_for Logoff 4)) ≡ w.log.places + 1
badly_heard w = refl

pub badly_denied : (w : World) → acts_there w (Hears (asks_badly_for Logoff 4)) 4 ≡ false
badly_denied w = faulty_acts_not w.server w.moment (asks_badly_for Logoff 4).message refl

pub none_heard : (w : World) → places_behind w (Hears (asks_for Logoff 4)) ≡ w.log.places
none_heard w = refl

if_true : {X : Type 0} (b : Bool) (x y : X) → b ≡ true → (if b then x else y) ≡ x
if_true true x y e = refl
if_true false x y e = absurd (cc)

if_false : {X : Type 0} (b : Bool) (x y : X) → b ≡ false → (if b then x else y) ≡ y
if_false true x y e = absurd (cc)
if_false false x y e = refl

pub session_heard : (w : World) → places_behind w (Hears (asks_session w.client.who.guid Begins)) ≡ w.log.places + 1
session_heard w =
    let v = waiting w in
    let x = asks_session w.client.who.guid Begins in
    let mine : (w.client.who.guid == w.client.who.guid) ≡ true = eq-eqb w.client.who.guid w.client.who.guid refl in
    ap (λ (u : World). u.log.places)
    (if_true ((w.client.who.guid == w.client.who.guid) && true) (heard_apart v x (answer v x)) v (ap (λ b. b && true) mine))

other_guid : (n : ℕ) → (n + 1 == n) ≡ false
other_guid n = grind (arith, nat_tests)

pub session_refused : (w : World) → places_behind w (Hears (asks_session (w.client.who.guid + 1) Begins)) ≡ w.log.places
session_refused w =
    let v = waiting w in
    let x = asks_session (w.client.who.guid + 1) Begins in
    ap (λ (u : World). u.log.places)
    (if_false ((w.client.who.guid + 1 == w.client.who.guid) && true) (heard_apart v x (answer v x)) v
    (ap (λ b. b && true) (other_guid w.client.who.guid)))

never_both : (b c : Bool) → c ≡ false → (b && c) ≡ false
never_both true c e = e
never_both false c e = refl

longer_not : (x : ℕ) (user : List ℕ) → same_bytes (x ∷ user) user ≡ false
unfolding same_bytes
longer_not x [] = refl
longer_not x (y ∷ ys) = never_both (x == y) (same_bytes (y ∷ ys) ys) (longer_not y ys)

pub user_refused : (w : World) → places_behind w (Hears (asks_session w.client.who.guid (other_logon w))) ≡ w.log.places
user_refused w =
    let v = waiting w in
    let x = asks_session w.client.who.guid (other_logon w) in
    let user = logon_user w.client.who.logon in
    let not_own : ((w.client.who.guid == w.client.who.guid) && same_bytes (97 ∷ user) user) ≡ false =
    never_both (w.client.who.guid == w.client.who.guid) (same_bytes (97 ∷ user) user) (longer_not 97 user) in
    ap (λ (u : World). u.log.places)
    (if_false ((w.client.who.guid == w.client.who.guid) && same_bytes (97 ∷ user) user) (heard_apart v x (answer v x)) v not_own)
