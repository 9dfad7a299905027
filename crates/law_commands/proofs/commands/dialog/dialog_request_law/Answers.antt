use Rattle.std.proofs.Common.{◌≡◌, ℕ, true, List, ◌++◌, Option, Some, None, ap, ◌∙◌}
use Rattle.std.specs.Prelude.{◌==◌, if◌then◌else◌}
use Rattle.spec_wire.specs.declared.messages.error.MessageError.{MessageError}
use Rattle.spec_wire.specs.declared.messages.header.Header.{Header}
use Rattle.spec_wire.specs.messages.Bare.{bare_fault, bare_spelling}
use Rattle.spec_wire.specs.messages.SessionSetup.{SessionSetupRequestValue, SpellsSessionSetupRequest}
use Rattle.spec_wire.specs.messages.SessionSetup.{session_setup_request_fault, session_setup_request_in, session_setup_request_spelling}
use Rattle.spec_exchange.specs.Commands.{Command, Logoff, TreeDisconnect, Aside}
use Rattle.spec_commands.specs.CommandOf.{Told, command_of, setup_in, setup_of, setup_if, logoff_in, tree_disconnect_in}
use Rattle.spec_commands.specs.CommandOf.{named_command, unless, echo_status}
use Rattle.law_commands.proofs.commands.ReadBack.{found}
use Rattle.law_commands.proofs.commands.dialog.dialog_request_law.Goals as goal

-- by the number of the header
abbrev by_number : ℕ → Told → Header → List ℕ → Option Command
by_number n t h m = if n == 12 then None else Some (named_command n t h m)

read_setup : (t : Told) (h : Header) (e : Option MessageError) (v w : SessionSetupRequestValue) → e ≡ None → v ≡ w
    → setup_if t h e v ≡ setup_of t h true w
read_setup t h e v w none same = ap (λ (x : Option MessageError). setup_if t h x v) none ∙ ap (setup_of t h true) same

pub returns-clause-setup : goal.returns-clause-setup
unfolding command_of setup_in
returns-clause-setup c = λ t h header rest v len fit number.
    let law = c.session_setup_request_law.ensures in
    let m : List ℕ = header ++ (session_setup_request_spelling v ++ rest) in
    let is = found SpellsSessionSetupRequest session_setup_request_fault session_setup_request_in law.one law.whole
    law.given m v (law.again header rest v len fit) in
    ap (λ (n : ℕ). by_number n t h m) number
    ∙ ap Some (read_setup t h (session_setup_request_fault m) (session_setup_request_in m) v is.0 is.1)

pub returns-clause-logoff : goal.returns-clause-logoff
unfolding command_of logoff_in
returns-clause-logoff c = λ t h header rest len number.
    let m : List ℕ = header ++ (bare_spelling ++ rest) in
    let none : bare_fault m ≡ None = c.bare_law.ensures.whole m (c.bare_law.ensures.again header rest len) in
    ap (λ (n : ℕ). by_number n t h m) number ∙ ap (λ (e : Option MessageError). Some (unless e Logoff)) none

pub returns-clause-disconnect : goal.returns-clause-disconnect
unfolding command_of tree_disconnect_in
returns-clause-disconnect c = λ t h header rest len number.
    let m : List ℕ = header ++ (bare_spelling ++ rest) in
    let none : bare_fault m ≡ None = c.bare_law.ensures.whole m (c.bare_law.ensures.again header rest len) in
    ap (λ (n : ℕ). by_number n t h m) number ∙ ap (λ (e : Option MessageError). Some (unless e TreeDisconnect)) none

pub returns-clause-echo : goal.returns-clause-echo
unfolding command_of
returns-clause-echo c = λ t h header rest len number.
    let m : List ℕ = header ++ (bare_spelling ++ rest) in
    let none : bare_fault m ≡ None = c.bare_law.ensures.whole m (c.bare_law.ensures.again header rest len) in
    ap (λ (n : ℕ). by_number n t h m) number ∙ ap (λ (e : Option MessageError). Some (Aside (echo_status t.fault e))) none
