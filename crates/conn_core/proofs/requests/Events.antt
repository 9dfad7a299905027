-- Which messages the definitions hear with an event: all but NEGOTIATE, ECHO and CANCEL.
use Rattle.std.proofs.Common.{◌≡◌, ℕ, ◌==◌, Bool, true, false, if◌then◌else◌, List, Option, Some, None, refl, ap, ◌∙◌}
use Rattle.spec_wire.specs.declared.messages.header.Header.{Header}
use Rattle.spec_wire.specs.messages.Bare.{bare_fault}
use Rattle.spec_exchange.specs.Commands as asks
use Rattle.spec_exchange.specs.State as model
use Rattle.spec_commands.specs.CommandOf as requests
use Rattle.spec_commands.specs.CommandOf.{Told, command_of, named_command, heard_as}
use Rattle.spec_world.specs.Ends.{ServerEnd, Logons}
use Rattle.spec_world.specs.Hearing as hearing
use Rattle.spec_world.specs.Settings.{ServerSettings}
use Rattle.spec_world.specs.Connection as connection
use Rattle.spec_world.specs.Connection.{heard_message}
use Rattle.spec_world.specs.Given.{has_event}
use Rattle.conn_core.proofs.frame_messages.Headers.{one_number}
use Rattle.conn_core.specs.message_replies.Replying.{echo_due, negotiate_due}
use Rattle.conn_core.proofs.requests.Found.{aside_placed, heard_due, placed_command, placed_none, placed_some}
use Rattle.conn_core.proofs.requests.Plain.{named_event}

command_at : (t : Told) (h : Header) (m : List ℕ) (k : ℕ) → h.command ≡ k
    → command_of t h m ≡ (if k == 12 then None else Some (named_command k t h m))
unfolding command_of
command_at t h m k e = ap (λ (n : ℕ). if n == 12 then None else Some (named_command n t h m)) e

any_other : (t : Told) (h : Header) (m : List ℕ) → (h.command == 12) ≡ false → command_of t h m ≡ Some (named_command h.command t h m)
unfolding command_of
any_other t h m e = ap (λ (b : Bool). if b then None else Some (named_command h.command t h m)) e

-- a misplaced one too
placed_event : (b : Bool) (o : Option ℕ) (x : asks.Command) → has_event x ≡ true → has_event (placed_command b o x) ≡ true
placed_event false o x e = e
placed_event true (Some fault) x e = e
placed_event true None (asks.Aside status) e = absurd (let h : false ≡ true = e in cc)
placed_event true None (asks.Setup request) e = refl
placed_event true None x e = refl

pub with_event : (z : ServerSettings) (L : Logons) (k : ℕ) (f : ServerEnd) (c : hearing.Checked) → (c.header.command == 0) ≡ false
    → (c.header.command == 13) ≡ false → (c.header.command == 12) ≡ false
    → (m : model.Message) × (heard_message z L k f c ≡ Some m) × (has_event m.command ≡ true)
with_event z L k f c zero echo cancel =
    let u = connection.told_of z L k f c in
    let b = hearing.is_misplaced c in
    let x = named_command c.header.command u c.header c.bytes in (
      heard_as u c.header (placed_command b c.fault x),
      ap (connection.placed b) (heard_due u c.header c.header c.bytes c.bytes (Some x) refl refl (any_other u c.header c.bytes cancel))
          ∙ placed_some b u c.header x,
      placed_event b c.fault x (named_event c.header.command u c.header c.bytes zero echo),
    )

pub of_cancel : (z : ServerSettings) (L : Logons) (k : ℕ) (f : ServerEnd) (c : hearing.Checked) → (c.header.command == 12) ≡ true
    → heard_message z L k f c ≡ None
of_cancel z L k f c is =
    let u = connection.told_of z L k f c in
    ap (connection.placed (hearing.is_misplaced c)) (heard_due u c.header c.header c.bytes c.bytes None refl refl
    (command_at u c.header c.bytes 12 (one_number c.header.command 12 is))) ∙ placed_none (hearing.is_misplaced c)

pub of_negotiate : (z : ServerSettings) (L : Logons) (k : ℕ) (f : ServerEnd) (c : hearing.Checked) → (c.header.command == 0) ≡ true
    → heard_message z L k f c
    ≡ Some (heard_as (connection.told_of z L k f c) c.header (asks.Aside (negotiate_due c)))
of_negotiate z L k f c is =
    let u = connection.told_of z L k f c in
    let b = hearing.is_misplaced c in
    ap (connection.placed b) (heard_due u c.header c.header c.bytes c.bytes (Some (asks.Aside u.negotiated)) refl refl
    (command_at u c.header c.bytes 0 (one_number c.header.command 0 is)))
    ∙ (placed_some b u c.header (asks.Aside u.negotiated)
    ∙ ap (λ (x : asks.Command). Some (heard_as u c.header x)) (aside_placed b c.fault u.negotiated))

pub of_echo : (z : ServerSettings) (L : Logons) (k : ℕ) (f : ServerEnd) (c : hearing.Checked) → (c.header.command == 13) ≡ true
    → heard_message z L k f c
    ≡ Some (heard_as (connection.told_of z L k f c) c.header (asks.Aside (echo_due c)))
of_echo z L k f c is =
    let u = connection.told_of z L k f c in
    let b = hearing.is_misplaced c in
    let status = requests.echo_status c.fault (bare_fault c.bytes) in
    ap (connection.placed b) (heard_due u c.header c.header c.bytes c.bytes (Some (asks.Aside status)) refl refl
    (command_at u c.header c.bytes 13 (one_number c.header.command 13 is)))
    ∙ (placed_some b u c.header (asks.Aside status)
    ∙ ap (λ (x : asks.Command). Some (heard_as u c.header x)) (aside_placed b c.fault status))
