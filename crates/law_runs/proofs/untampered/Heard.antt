-- In a tied world the front of what comes down is heard as the reply that it was made for.
use Rattle.std.proofs.Common.{◌≡◌, ℕ, Bool, true, false, ◌&&◌, List, [], ◌∷◌, refl, sym, ap, ◌∙◌, subst, Some}
use Rattle.spec_exchange.specs.State.{Reply}
use Rattle.spec_exchange.specs.Operations.{Op}
use Rattle.spec_exchange.specs.Client.{Stage, Apart, SaidNegotiate, SaidFirst, SaidSecond, AskedTree}
use Rattle.spec_exchange.specs.Network.{Sent, Received, Token, ForDialog, ForOp, ForAttach}
use Rattle.spec_wire.specs.credits.Exchange.{Line}
use Rattle.spec_crypto.specs.sessions.Signing.{verifies}
use Rattle.spec_crypto.specs.sessions.Sealing.{opened}
use Rattle.spec_world.specs.Settings.{WorldSettings}
use Rattle.spec_world.specs.Messages.{HeardMessage}
use Rattle.spec_world.specs.Ends.{ClientEnd, ServerEnd}
use Rattle.spec_world.specs.Dialog.{line_text, response_in, dialog_response}
use Rattle.spec_world.specs.World.{World}
use Rattle.law_ties.specs.wire_facts.Steps.{IsSameReply, IsHeardFor, IsHeardReply, response_at, RepliesAreHeard}
use Rattle.law_ties.specs.events.Fronts.{TellsReply, TellsBody}
use Rattle.law_ties.specs.events.Links.{Shared, shared_of, LinkAnswers, AllAnswer, Talks, Waits, Comes, Lost, is_lined, IsTied}
use Rattle.law_ties.proofs.events.InStep.{response_gives, opens_both}

abbrev IsHeardAt : World → ClientEnd → Received → Stage → List ℕ → Type 0
IsHeardAt w n y stage b = (x : HeardMessage) × (response_at n stage b ≡ Some x) × IsHeardReply w n y x

same : (x : HeardMessage) (r : Reply) → TellsReply x r → IsSameReply x r
same x r t = record { status = t.status; session = t.session; tree = t.tree }

alike : (w : World) (x : HeardMessage) (r : Reply) (t : Token) → TellsBody w.values.client.op x r t → IsHeardFor w x r t
alike w x r ForDialog b = tt
alike w x r (ForOp g) b = record { value = b.0; id = b.1 }
alike w x r (ForAttach g) b = tt

-- ---- on a line

first : (op : ℕ → Op) (n : ClientEnd) (b : List ℕ) (bs : List (List ℕ)) (y : Received) (ys : List Received) (gs : List ℕ)
    → AllAnswer op n.keys n.encrypts n.awaited n.purse.next (b ∷ bs) (y ∷ ys) gs
    → (g : ℕ) × LinkAnswers op n.keys n.encrypts n.awaited n.purse.next b y g
first op n b bs y ys [] all = absurd all
first op n b bs y ys (g ∷ gs) all = (g, all.0)

front : (op : ℕ → Op) (n : ClientEnd) (ds : List (List ℕ)) (rs : List Received) (gs : List ℕ) (b : List ℕ)
    (bs : List (List ℕ)) (y : Received)
    (ys : List Received) → ds ≡ b ∷ bs → rs ≡ y ∷ ys → AllAnswer op n.keys n.encrypts n.awaited n.purse.next ds rs gs
    → (g : ℕ) × LinkAnswers op n.keys n.encrypts n.awaited n.purse.next b y g
front op n ds rs gs b bs y ys e h all =
    first op n b bs y ys gs
    (subst (λ v. AllAnswer op n.keys n.encrypts n.awaited n.purse.next (b ∷ bs) v gs) h
    (subst (λ v. AllAnswer op n.keys n.encrypts n.awaited n.purse.next v rs gs) e all))

reply_of_line : (w : World) (n : ClientEnd) (b : List ℕ) (y : Received) (g : ℕ)
    → LinkAnswers w.values.client.op n.keys n.encrypts n.awaited n.purse.next b y g
    → (x : HeardMessage) × (response_at n Apart b ≡ Some x) × (response_at n AskedTree b ≡ Some x) × IsHeardReply w n y x
reply_of_line w n b y g a =
    let x = a.heard in
    let opens = a.opens n refl refl in
    let two = response_gives (response_in (line_text n b)) x opens in (
      x,
      opens,
      opens_both b x n.encrypts (verifies n.keys.signing b) (opened n.keys false b) two.0,
      record { awaited = a.awaits; same = same x y.reply a.same; body = alike w x y.reply y.token a.body },
    )

both : (a b : Bool) → a ≡ true → b ≡ true → (a && b) ≡ true
both a b e f = ap (λ v. v && b) e ∙ f

on_line : (z : WorldSettings) (w : World) (k : ℕ) (b : List ℕ) (bs : List (List ℕ)) (y : Received) (ys : List Received) → IsTied z w
    → (w.values.conns k).client_open ≡ true → is_lined (w.wires k).client_end.stage ≡ true → (w.wires k).down ≡ b ∷ bs
    → (w.values.conns k).down ≡ y ∷ ys
    → (g : ℕ) × LinkAnswers w.values.client.op (w.wires k).client_end.keys (w.wires k).client_end.encrypts (w.wires k).client_end.awaited
    (w.wires k).client_end.purse.next b y g
on_line z w k b bs y ys i co lined e h =
    let t = i.tied k in
    let link = t.link in
    let n = (w.wires k).client_end in
    front w.values.client.op n (w.wires k).down (w.values.conns k).down link.line.grants b bs y ys e h
    (link.answers (both (w.values.conns k).client_open (is_lined n.stage) co lined))

-- ---- in a dialog

abbrev heard_in_dialog : World → ClientEnd → List ℕ → Received → Type 0
heard_in_dialog w n b y = (x : HeardMessage) × (dialog_response n n.stage b ≡ Some x) × IsHeardReply w n y x

talk_heard : (z : WorldSettings) (w : World) (s : Shared) (k : ℕ) (so : Bool) (n : ClientEnd) (f : ServerEnd) (up down : List (List ℕ))
    (xs : List Sent) (rs : List Received) (l : Line) (b : List ℕ) (bs : List (List ℕ)) (y : Received) (ys : List Received)
    → down ≡ b ∷ bs → rs ≡ y ∷ ys → Talks z s k so n f up down xs rs l n.stage → heard_in_dialog w n b y
talk_heard z w s k so n f up down xs rs l b bs y ys e h (Waits a x e1 e2 e3 e4 g) =
    absurd (let q : [] ≡ y ∷ ys = sym e4 ∙ h in cc)
talk_heard z w s k so n f up down xs rs l b bs y ys e h (Lost e1 e2 e3 e4 e5) = absurd (let q : [] ≡ y ∷ ys = sym e4 ∙ h in cc)
talk_heard z w s k so n f up down xs rs l b bs y ys e h (Comes a v e1 e2 e3 e4 c) =
    let frames : a ∷ [] ≡ b ∷ bs = sym e3 ∙ e in
    let replies : v ∷ [] ≡ y ∷ ys = sym e4 ∙ h in
    let frame : a ≡ b = (cc) in
    let reply : v ≡ y = (cc) in
    subst (λ m. heard_in_dialog w n m y) frame
    (subst (λ r. heard_in_dialog w n a r) reply (
      c.heard,
      c.opens,
      record {
        awaited = c.awaits ∙ ap Some (sym c.token);
        same = same c.heard v.reply c.same;
        body = subst (λ t. IsHeardFor w c.heard v.reply t) (sym c.token) tt;
      },
    ))

talk_at : (z : WorldSettings) (w : World) (k : ℕ) (b : List ℕ) (bs : List (List ℕ)) (y : Received) (ys : List Received) → IsTied z w
    → (w.values.conns k).client_open ≡ true → is_lined (w.wires k).client_end.stage ≡ false → (w.wires k).down ≡ b ∷ bs
    → (w.values.conns k).down ≡ y ∷ ys → heard_in_dialog w (w.wires k).client_end b y
talk_at z w k b bs y ys i co lined e h =
    let t = i.tied k in
    let u = w.wires k in
    let c = w.values.conns k in
    talk_heard z w (shared_of w.values.client w.keys w.logons) k c.server_open u.client_end u.server_end u.up u.down c.up
    c.down t.link.line b bs y ys e h (t.talk co lined)

-- ---- by the stage

by_stage : (z : WorldSettings) (w : World) (k : ℕ) (b : List ℕ) (bs : List (List ℕ)) (y : Received) (ys : List Received) → IsTied z w
    → (w.values.conns k).client_open ≡ true → (w.wires k).down ≡ b ∷ bs → (w.values.conns k).down ≡ y ∷ ys
    → (stage : Stage) → (w.wires k).client_end.stage ≡ stage → IsHeardAt w (w.wires k).client_end y stage b
by_stage z w k b bs y ys i co e h Apart at =
    let a = on_line z w k b bs y ys i co (ap is_lined at) e h in
    let r = reply_of_line w (w.wires k).client_end b y a.0 a.1 in (r.0, r.1, r.3)
by_stage z w k b bs y ys i co e h AskedTree at =
    let a = on_line z w k b bs y ys i co (ap is_lined at) e h in
    let r = reply_of_line w (w.wires k).client_end b y a.0 a.1 in (r.0, r.2, r.3)
by_stage z w k b bs y ys i co e h (SaidNegotiate bound) at =
    subst (λ s. (x : HeardMessage) × (dialog_response (w.wires k).client_end s b ≡ Some x)
    × IsHeardReply w (w.wires k).client_end y x) at (talk_at z w k b bs y ys i co (ap is_lined at) e h)
by_stage z w k b bs y ys i co e h (SaidFirst bound) at =
    subst (λ s. (x : HeardMessage) × (dialog_response (w.wires k).client_end s b ≡ Some x)
    × IsHeardReply w (w.wires k).client_end y x) at (talk_at z w k b bs y ys i co (ap is_lined at) e h)
by_stage z w k b bs y ys i co e h (SaidSecond bound) at =
    subst (λ s. (x : HeardMessage) × (dialog_response (w.wires k).client_end s b ≡ Some x)
    × IsHeardReply w (w.wires k).client_end y x) at (talk_at z w k b bs y ys i co (ap is_lined at) e h)

pub replies_are_heard : (z : WorldSettings) (w : World) → IsTied z w → RepliesAreHeard w
replies_are_heard z w i k b bs y ys co e h = by_stage z w k b bs y ys i co e h (w.wires k).client_end.stage refl
