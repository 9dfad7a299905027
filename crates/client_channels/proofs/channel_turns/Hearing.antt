-- What a dialog and a line hear.
use Rattle.std.proofs.Common.{◌≡◌, ℕ, List, Some, None, Ok, Err, inl, inr, refl, subst}
use Rattle.client_ends.specs.declared.dialog_calls.heard.Heard.{Heard}
use Rattle.client_ends.specs.declared.ends.dialog.Dialog.{Dialog}
use Rattle.client_ends.specs.declared.ends.line.Line.{Line}
use Rattle.client_ends.specs.declared.ends.line.LineError.TheVariants.{BadReply, Spent}
use Rattle.client_ends.specs.declared.line_calls.incoming.Answer.{Answer}
use Rattle.client_ends.specs.dialog_calls.Turning.{DialogHears}
use Rattle.client_ends.specs.ends.Shown.{ShowsDialog, ShowsLine, token_of}
use Rattle.client_ends.specs.line_calls.Interim.{LineGives}
use Rattle.client_ends.specs.line_calls.Sending.{IsRequest, LineCounts, LineSends}
use Rattle.spec_exchange.specs.State.{Message}
use Rattle.spec_world.specs.Ends.{ClientEnd}
use Rattle.wire_bytes.specs.declared.headers.request.Request.{Request}
use Rattle.client_channels.specs.channel_turns.Asides.{DialogTakes, LineGoes, LineTakes}
use Rattle.client_channels.specs.channel_turns.Sides.{Breaks, Hears, Runs, Says, number_in, side_heard}
use Rattle.client_channels.specs.declared.channel_turns.starting.Aim.{Aim}

pub dialog_takes : (a : Aim) (d : Dialog) (message : List ℕ) (number : ℕ) (h : Heard) (behind : Dialog) → number ≡ number_in a
    → ((n : ClientEnd) → ShowsDialog d n → DialogHears n.stage d n message number behind h)
    → DialogTakes a d message (side_heard h behind)
dialog_takes a d message number h behind is hears =
    (h, behind, λ n s. subst (λ (k : ℕ). DialogHears n.stage d n message k behind h) is (hears n s), refl)

pub line_takes : (l : Line) (message : List ℕ) (a : Answer) (behind : Line)
    → ((n : ClientEnd) → ShowsLine l n → LineGives n message behind (Ok (Some a))) → LineTakes l message (Hears behind a)
line_takes l message a behind gives = inl (a, behind, gives, refl)

pub line_waits : (l : Line) (message : List ℕ) (behind : Line)
    → ((n : ClientEnd) → ShowsLine l n → LineGives n message behind (Ok None)) → LineTakes l message (Runs behind)
line_waits l message behind gives = inr (inl (behind, gives, refl))

pub line_breaks : (l : Line) (message : List ℕ) (behind : Line)
    → ((n : ClientEnd) → ShowsLine l n → LineGives n message behind (Err BadReply)) → LineTakes l message Breaks
line_breaks l message behind gives = inr (inr (behind, gives, refl))

pub line_goes : (l : Line) (r : Request) (frame : List ℕ) (behind : Line)
    → ((n : ClientEnd) (m : Message) (charge : ℕ) → ShowsLine l n → IsRequest r m charge → m.message_id ≡ n.purse.next
    → LineSends n m charge (token_of r.token) behind (Ok frame)) → LineCounts l behind (Ok frame) → LineGoes l r (Says frame (Runs behind))
line_goes l r frame behind sends counts = inl (frame, behind, sends, counts, refl)

pub line_spent : (l : Line) (r : Request) (behind : Line)
    → ((n : ClientEnd) (m : Message) (charge : ℕ) → ShowsLine l n → IsRequest r m charge → m.message_id ≡ n.purse.next
    → LineSends n m charge (token_of r.token) behind (Err Spent)) → LineGoes l r Breaks
line_spent l r behind sends = inr (behind, sends, refl)
