use Rattle.std.proofs.Common.{◌≡◌, Bool, if◌then◌else◌, sym, subst}
use Rattle.std.specs.Prelude.{IfOk}
use Rattle.spec_exchange.specs.Operations.{reconnect_of, request_of}
use Rattle.spec_exchange.specs.Client.{Client, create_for, guid_for}
use Rattle.wire_commands.specs.values.Meaning.{client_command_of}
use Rattle.client_steps.specs.whole_client.Shown.{ShowsClient}
use Rattle.client_events.proofs.played_client.sent.either.Goals as goal

pub ask-requires : goal.ask-requires
ask-requires c = record { fits = c.requires.fits; above = c.requires.above; within = c.requires.within }

pub returns-then-asking : goal.returns-then-asking
returns-then-asking c =
    let g = c.args.index in
    subst (λ (b : Bool). IfOk c.ask.result (λ q. (d : Client) → ShowsClient c.args.client.now d → d.who.salt ≡ c.args.salt → client_command_of q
    ≡ (if b then reconnect_of (d.op (create_for d g)) (guid_for d (create_for d g)) (d.file (create_for d g))
    else request_of (d.op g) (guid_for d g) (d.file (create_for d g)) (d.slot_of g) (d.number_of g)))) (sym c.if-asking.true) c.ask.ensures

pub own-requires : goal.own-requires
own-requires c = record { fits = c.requires.fits; above = c.requires.above; within = c.requires.within }

pub returns : goal.returns
returns c =
    let g = c.args.index in
    subst (λ (b : Bool). IfOk c.own.result (λ q. (d : Client) → ShowsClient c.args.client.now d → d.who.salt ≡ c.args.salt → client_command_of q
    ≡ (if b then reconnect_of (d.op (create_for d g)) (guid_for d (create_for d g)) (d.file (create_for d g))
    else request_of (d.op g) (guid_for d g) (d.file (create_for d g)) (d.slot_of g) (d.number_of g)))) (sym c.if-asking.false) c.own.ensures
