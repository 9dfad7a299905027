-- A Push leaves a world tied.
use Rattle.std.proofs.Common.{◌≡◌, ℕ, Bool, true, false, if◌then◌else◌, refl, ◌∙◌, subst}
use Rattle.spec_exchange.specs.Table.{put}
use Rattle.spec_exchange.specs.Operations.{weight, charge}
use Rattle.spec_exchange.specs.State.{Message}
use Rattle.spec_exchange.specs.Client.{Client, Apart, own_message, ask_message}
use Rattle.spec_exchange.specs.ClientStep.{Pushes, Act, Nothing, Sends, Asks, CloseChannel, CloseChannels, AllSettled, client_after, act}
use Rattle.spec_exchange.specs.Network.{Token, ForOp, ForAttach, Push, send_up, pushed_by}
use Rattle.spec_world.specs.Settings.{WorldSettings}
use Rattle.spec_world.specs.World.{World, with_values, pushed_wires, line_sent, paid}
use Rattle.spec_world.specs.Events.{bytes_changed, bytes_later}
use Rattle.law_ties.specs.wire_facts.Lawful.{IsLawful}
use Rattle.law_ties.specs.events.Links.{is_operations, Ties, IsTied}
use Rattle.law_ties.proofs.events.Columns.{Keeps, push_keeps}
use Rattle.law_ties.proofs.events.Took.{kept_ties}
use Rattle.law_ties.specs.requests.Sending.{IsLineMessage}
use Rattle.law_ties.specs.requests.Pushed.{PushesAreKept}
use Rattle.law_ties.proofs.requests.Sending.{line_sends}

-- a message of the client behind the push, of the connection's next id
sent_ties : (z : WorldSettings) → IsLawful z → (w : World) (k : ℕ) (token : Token) (d : Client) (m : ℕ → Message) (cost : ℕ) → IsTied z w
    → Keeps w.values.client d → (w.values.conns k).client_open ≡ true → is_operations token ≡ true
    → (w.wires k).client_end.stage ≡ w.values.client.stage k → w.values.client.stage k ≡ Apart
    → IsLineMessage z (w.wires k).client_end k (m (w.wires k).client_end.purse.next) cost
    → Ties z d w.keys w.logons (put w.values.conns k (send_up (w.values.conns k) token (m (w.values.conns k).next_id) cost))
    (line_sent w k token (m (w.wires k).client_end.purse.next) cost).wires
sent_ties z law w k token d m cost i keeps co ops at apart mine =
    let n = (w.wires k).client_end in
    let base = line_sends z w k token (m n.purse.next) cost law i co (at ∙ apart) ops mine in
    kept_ties z w.values.client d w.keys w.logons
    (put w.values.conns k (send_up (w.values.conns k) token (m (w.values.conns k).next_id) cost))
    (line_sent w k token (m n.purse.next) cost).wires keeps
    (subst (λ q. Ties z w.values.client w.keys w.logons (put w.values.conns k (send_up (w.values.conns k) token (m q) cost))
    (line_sent w k token (m n.purse.next) cost).wires) (i.nexts k co) base)

pushed_ties : (z : WorldSettings) → IsLawful z → (w : World) (k : ℕ) (d : Client) (a : Act) → IsTied z w → Keeps w.values.client d
    → (w.values.conns k).client_open ≡ true → w.values.client.stage k ≡ Apart
    → ((g : ℕ) → a ≡ Sends g → IsLineMessage z (w.wires k).client_end k (own_message d k (w.wires k).client_end.purse.next g)
    (charge (weight (d.op g))))
    → ((g : ℕ) → a ≡ Asks g → IsLineMessage z (w.wires k).client_end k (ask_message d k (w.wires k).client_end.purse.next g) 1)
    → IsTied z (with_values (pushed_wires w k d a) (pushed_by w.values k d a))
pushed_ties z law w k d (Sends g) i keeps co apart sends asks =
    sent_ties z law w k (ForOp g) d (λ id. own_message d k id g) (charge (weight (d.op g))) i keeps co refl
    (i.stages k co) apart (sends g refl)
pushed_ties z law w k d (Asks g) i keeps co apart sends asks =
    sent_ties z law w k (ForAttach g) d (λ id. ask_message d k id g) 1 i keeps co refl (i.stages k co) apart (asks g refl)
pushed_ties z law w k d Nothing i keeps co apart sends asks = kept_ties z w.values.client d w.keys w.logons w.values.conns w.wires keeps i
pushed_ties z law w k d CloseChannel i keeps co apart sends asks =
    kept_ties z w.values.client d w.keys w.logons w.values.conns w.wires keeps i
pushed_ties z law w k d CloseChannels i keeps co apart sends asks =
    kept_ties z w.values.client d w.keys w.logons w.values.conns w.wires keeps i
pushed_ties z law w k d AllSettled i keeps co apart sends asks =
    kept_ties z w.values.client d w.keys w.logons w.values.conns w.wires keeps i

push_by : (z : WorldSettings) (w v : World) (b : Bool) → IsTied z w → (b ≡ true → IsTied z v) → IsTied z (if b then bytes_later v 1 else w)
push_by z w v true i f = f refl
push_by z w v false i f = i

pub pushes : PushesAreKept
pushes z w k slotless pick law i fits =
    let p = paid w k slotless pick in
    let c = w.values.client in
    let d = client_after c (Pushes k slotless p) in
    let a = act c (Pushes k slotless p) in
    push_by z w (bytes_changed z w (Push k slotless pick)) (c.ready k) i
    (λ e. (let q = fits e in pushed_ties z law w k d a i (push_keeps c k slotless p) q.is_open q.apart q.sends q.asks))
