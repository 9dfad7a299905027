-- A SESSION_SETUP as the server hears it and as the definitions do: a signature counts where its session is live, and else the step
-- is the same whether it counts or not.
use Rattle.std.proofs.Common.{◌≡◌, ℕ, ◌≤◌, nat_le, Bool, true, false, ◌&&◌, length, refl, sym, ap, arith}
use Rattle.std.proofs.lemmas.Bool.Decides.{nat_tests}
use Rattle.spec_exchange.specs.State as model
use Rattle.spec_exchange.specs.Network.{answer_to}
use Rattle.spec_exchange.specs.Step.{step}
use Rattle.spec_crypto.specs.sessions.Signing.{verifies}
use Rattle.spec_crypto.specs.tokens.Tokens.{Users}
use Rattle.spec_world.specs.Ends.{Logons}
use Rattle.server_checks.specs.setups.Setups.{request_of, setup_message, verified_by, with_verified}
use Rattle.server_checks.specs.declared.setups.setup.SetupHeard.{SetupHeard}
use Rattle.server_checks.proofs.setups.Steps.{absent}
use Rattle.conn_core.specs.requests.Asking.{message_for}
use Rattle.conn_core.specs.served.Serving.{has_own_signature}

abbrev pub told_by : Logons → SetupHeard → Bool
told_by L q = q.form.signed && verifies (L.keys q.session_id).signing q.bytes.now

-- whether it has the signature of its session's own key: it has a header, so that it can have one
behind_length : (a b v : Bool) → b ≡ true → (a && (b && v)) ≡ (a && v)
behind_length a true v e = refl
behind_length a false v e = absurd cc

pub own_same : (L : Logons) (q : SetupHeard) → 64 ≤ length q.bytes.now → has_own_signature L q ≡ told_by L q
own_same L q whole =
    let long : nat_le 64 (length q.bytes.now) ≡ true = grind (arith, nat_tests) in
    behind_length q.form.signed (nat_le 64 (length q.bytes.now)) (verifies (L.keys q.session_id).signing q.bytes.now) long

with_told : (users : Users) (L : Logons) (s : model.Server) (q : SetupHeard)
    → message_for users L q ≡ with_verified (setup_message users L s q) (request_of users L s q) (told_by L q)
with_told users L s q = refl

same_live : (a b v w : Bool) → b ≡ true → w ≡ true → (a && (b && (w && v))) ≡ (a && v)
same_live a true v true e f = refl
same_live a true v false e f = absurd cc
same_live a false v w e f = absurd cc

live : (users : Users) (L : Logons) (s : model.Server) (q : SetupHeard) → 64 ≤ length q.bytes.now → s.present q.session_id ≡ true
    → setup_message users L s q ≡ message_for users L q
live users L s q whole is =
    let long : nat_le 64 (length q.bytes.now) ≡ true = grind (arith, nat_tests) in
    let same : verified_by L s q ≡ told_by L q =
    same_live q.form.signed (s.present q.session_id) (verifies (L.keys q.session_id).signing q.bytes.now) (nat_le 64 (length q.bytes.now))
    is long in
    ap (λ (v : Bool). with_verified (setup_message users L s q) (request_of users L s q) v) same

by_present : (users : Users) (L : Logons) (s : model.Server) (now : ℕ) (q : SetupHeard) (b : Bool) → 64 ≤ length q.bytes.now
    → s.present q.session_id ≡ b
    → step s now (model.Heard (message_for users L q)) ≡ step s now (model.Heard (setup_message users L s q))
by_present users L s now q true whole is = ap (λ (m : model.Message). step s now (model.Heard m)) (sym (live users L s q whole is))
by_present users L s now q false whole is = absent s now (setup_message users L s q) (request_of users L s q) (told_by L q) refl is

-- the answer is the same
pub same_answer : (users : Users) (L : Logons) (s : model.Server) (now : ℕ) (q : SetupHeard) → 64 ≤ length q.bytes.now
    → answer_to s now (message_for users L q) (message_for users L q).command
    ≡ answer_to s now (setup_message users L s q) (setup_message users L s q).command
same_answer users L s now q whole = by_present users L s now q (s.present q.session_id) whole refl
