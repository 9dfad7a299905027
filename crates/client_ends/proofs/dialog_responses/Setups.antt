-- The parts of a SESSION_SETUP response.
use Rattle.std.proofs.Common.{◌≡◌, ℕ, List, ap}
use Rattle.spec_wire.specs.messages.SessionSetup.{SessionSetupResponseValue, session_setup_response_in}
use Rattle.spec_world.specs.Dialog.{setup_flags, setup_token}

pub token_is : (m : List ℕ) (v : SessionSetupResponseValue) → v ≡ session_setup_response_in m → v.security ≡ setup_token m
unfolding setup_token
token_is m v e = ap (λ (w : SessionSetupResponseValue). w.security) e

pub flags_are : (m : List ℕ) (v : SessionSetupResponseValue) → v ≡ session_setup_response_in m → v.session_flags ≡ setup_flags m
unfolding setup_flags
flags_are m v e = ap (λ (w : SessionSetupResponseValue). w.session_flags) e
