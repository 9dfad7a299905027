-- Which bytes of a request are hashed.
use Rattle.std.proofs.Common.{◌≡◌, ℕ, ◌==◌, ◌≤◌, Bool, true, List, None, sym, ap, subst, ◌∙◌}
use Rattle.spec_crypto.specs.declared.sessions.material.Keys.{Keys}
use Rattle.spec_wire.specs.declared.messages.header.Header.{Header}
use Rattle.spec_world.specs.Hearing as hearing
use Rattle.spec_world.specs.Answering as answering
use Rattle.spec_world.specs.Logon as logon
use Rattle.spec_world.specs.Related.{file_place}
use Rattle.conn_core.specs.declared.conn.Progress.{Progress}
use Rattle.conn_core.specs.declared.conn.Progress.TheVariants.{Stays, Refused, Interim, Final}
use Rattle.conn_core.specs.declared.frame_messages.checked.Checked.{Checked}
use Rattle.conn_core.specs.frame_messages.Checking.{ShowsGoing, message_in}
use Rattle.conn_core.specs.message_replies.Replying.{SettlesBy}
use Rattle.conn_core.specs.reply_sealing.Saying.{MovesAs}
use Rattle.conn_core.specs.logon_state.Behind.{IsHashed}
use Rattle.conn_core.proofs.logon_state.Moved.{is_it}

no_place : (n : ℕ) → n ≡ 0 → file_place n ≡ None
unfolding file_place
no_place n e = ap file_place e

no_place_either : (n : ℕ) → n ≡ 1 → file_place n ≡ None
unfolding file_place
no_place_either n e = ap file_place e

-- a NEGOTIATE's
pub greeting_raw : (bytes : List ℕ) (m : Checked) (s : answering.SaidReply) (request : List ℕ) → m.header.command ≡ 0
    → ShowsGoing bytes m s.request → request ≡ message_in bytes m → s.request.raw ≡ request
greeting_raw bytes m s request command going is = going.raw (no_place m.header.command command) ∙ sym is

-- a SESSION_SETUP's, whose response is interim
pub hashed_by : (p : Progress) (bytes : List ℕ) (m : Checked) (s : answering.SaidReply) (request : List ℕ) → MovesAs p s
    → SettlesBy s.progress s.request s.keys → ShowsGoing bytes m s.request → request ≡ message_in bytes m → IsHashed p s request
hashed_by Stays bytes m s request moves settles going is = tt
hashed_by (Refused signer) bytes m s request moves settles going is = tt
hashed_by (Interim signer) bytes m s request moves settles going is =
    let sets : hearing.is_setup s.request.header ≡ true =
    subst (λ (q : logon.Progress). SettlesBy q s.request s.keys) moves.1 settles in
    let command : m.header.command ≡ 1 =
    is_it m.header.command 1 (ap (λ (h : Header). h.command == 1) (sym going.header) ∙ sets) in
    going.raw (no_place_either m.header.command command) ∙ sym is
hashed_by (Final keys channel encrypts) bytes m s request moves settles going is = tt

-- the keys of a final one have a known cipher
pub known_by : (s : answering.SaidReply) (keys : Keys) (channel : ℕ) (encrypts : Bool) → MovesAs (Final keys channel encrypts) s
    → SettlesBy s.progress s.request s.keys → keys.cipher ≤ 4
known_by s keys channel encrypts moves settles =
    subst (λ (k : Keys). k.cipher ≤ 4) moves.2 (subst (λ (q : logon.Progress). SettlesBy q s.request s.keys) moves.1 settles)
