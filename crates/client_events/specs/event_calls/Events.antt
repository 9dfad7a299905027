-- What an event of the code is in the model, and what it comes to.
use Rattle.std.specs.Prelude.{◌≡◌, ℕ, true, false}
use Rattle.spec_exchange.specs.State.{Body, Reply}
use Rattle.spec_exchange.specs.Status.{success}
use Rattle.spec_exchange.specs.Settling.{is_awaited}
use Rattle.spec_exchange.specs.Client.{Client, may_take}
use Rattle.spec_exchange.specs.ClientStep.{Act, AllSettled, Asks, CloseChannel, CloseChannels, Nothing, Sends, act, becomes_ready}
use Rattle.spec_exchange.specs.ClientStep.{ClientEvent, Finishes, Hears, IsCut, IsReady, IsRefused, Pushes, TakesOp, client_after}
use Rattle.law_client.specs.table.Kept.{TableKept}
use Rattle.wire_commands.specs.values.Meaning.{body_of}
use Rattle.client_values.specs.declared.operations.shapes.Kind.TheVariants as shapes
use Rattle.client_values.specs.operations.Waiting.{kind_of}
use Rattle.client_values.specs.operations.Meaning.{op_of}
use Rattle.client_values.specs.outcomes.Meaning.{refusal_of, why_of}
use Rattle.client_rows.specs.declared.session_state.session.Cut.{Cut}
use Rattle.client_rows.specs.declared.session_state.session.Cut.TheVariants as cuts
use Rattle.client_steps.specs.pushing.Acts.{chosen_with}
use Rattle.client_steps.specs.declared.whole_client.client.Client.{Client as Core}
use Rattle.client_steps.specs.whole_client.Shown.{ShowsClient}
use Rattle.client_events.specs.declared.event_calls.steps.Act.{Act as Told}
use Rattle.client_events.specs.declared.event_calls.steps.Act.TheVariants as acts
use Rattle.client_events.specs.declared.event_calls.steps.Event.{Event}
use Rattle.client_events.specs.declared.event_calls.steps.Event.TheVariants as events

-- a reply, as far as a client looks at it; its ids are any
abbrev pub reply_with : ℕ → Body → Reply
reply_with status body = record { status = status; session_id = 0; tree_id = 0; body = body }

-- a push picks by the model's own choice
abbrev pub event_of : Client → Event → ClientEvent
event_of c (events.Submit number kind) = TakesOp number (op_of kind)
event_of c (events.Push channel credits) = Pushes channel (chosen_with c channel credits).slotless (chosen_with c channel credits).pick
event_of c (events.Hear channel number asking status body) = Hears channel number asking (reply_with status (body_of body)) 0
event_of c (events.Cut channel) = IsCut channel
event_of c (events.Ready channel session tree) = IsReady channel session tree
event_of c (events.Refused channel why) = IsRefused channel (refusal_of why)
event_of c (events.Finish why) = Finishes (why_of why)

abbrev pub act_of : Told → Act
act_of acts.Nothing = Nothing
act_of (acts.Sends index) = Sends index
act_of (acts.Asks index) = Asks index
act_of acts.CloseChannel = CloseChannel
act_of acts.CloseChannels = CloseChannels
act_of acts.AllSettled = AllSettled

abbrev pub act_at_cut : Cut → Act
act_at_cut cuts.Nothing = Nothing
act_at_cut cuts.Lost = Nothing
act_at_cut cuts.Ends = CloseChannels

-- a channel that is ready becomes so no second time
abbrev pub MayCome : Client → ClientEvent → Type 0
MayCome c (IsReady k session tree) = c.ready k ≡ true → becomes_ready c session ≡ false
MayCome c _ = Unit {0}

-- the model's events that one of the code may be: a response, at any place of the server's replies and with any ids
abbrev pub Means : Client → Event → ClientEvent → Type 0
Means c (events.Hear channel number asking status body) e = (r : Reply) × (place : ℕ) × (r.status ≡ status) × (r.body ≡ body_of body)
    × (e ≡ Hears channel number asking r place)
Means c x e = e ≡ event_of c x

-- the model's step
abbrev pub ShowsStep : Core → Core → Event → Type 0
ShowsStep old new x = (c : Client) (e : ClientEvent) → ShowsClient old c → TableKept c → Means c x e → MayCome c e
    → ShowsClient new (client_after c e)

abbrev pub ClientEventTells : Core → Event → Told → Type 0
ClientEventTells old x a = (c : Client) (e : ClientEvent) → ShowsClient old c → TableKept c → Means c x e → act_of a ≡ act c e

-- the same of one of the model's events
abbrev pub ShowsOne : Core → Core → Event → Type 0
ShowsOne old new x = (c : Client) → ShowsClient old c → TableKept c → MayCome c (event_of c x)
    → ShowsClient new (client_after c (event_of c x))

abbrev pub TellsOne : Core → Event → Told → Type 0
TellsOne old x a = (c : Client) → ShowsClient old c → TableKept c → act_of a ≡ act c (event_of c x)

-- it is no response
abbrev pub IsClientEventOther : Event → Type 0
IsClientEventOther (events.Hear channel number asking status body) = ⊥
IsClientEventOther _ = Unit {0}

abbrev pub KeepsShown : Core → Core → Type 0
KeepsShown old new = (c : Client) → ShowsClient old c → ShowsClient new c

-- where memory may be wanting: at a submit that may be taken, at the success of a listing that is awaited, and at a refused dialog
abbrev pub MayLack : Client → Event → Type 0
MayLack c (events.Submit number kind) = may_take c number (op_of kind) ≡ true
MayLack c (events.Hear channel number asking status body) =
    (is_awaited c channel number asking ≡ true) × (asking ≡ false) × (status ≡ success) × (kind_of (c.op number) ≡ shapes.List)
MayLack c (events.Refused channel why) = Unit {0}
MayLack c _ = ⊥

abbrev pub ClientEventLacks : Core → Event → Type 0
ClientEventLacks x e = (c : Client) → ShowsClient x c → TableKept c → MayLack c e

-- whatever session it is said to be ready in, a channel that is ready stays so
abbrev pub StaysReady : Core → Core → Event → Type 0
StaysReady old new (events.Ready channel session tree) = (c : Client) → ShowsClient old c → c.ready channel ≡ true → ShowsClient new c
StaysReady old new _ = Unit {0}
