-- What a response of a dialog does to two worlds of values alike; and what one that the network gives does to the values of a repeat run.
use Rattle.std.proofs.Common.{◌≡◌, ℕ, ◌+◌, ◌==◌, true, if◌then◌else◌, List, [], refl, sym, ap, ◌∙◌, subst, Option, Some, None, arith}
use Rattle.spec_exchange.specs.Table.{put}
use Rattle.spec_exchange.specs.State.{Message, Reply}
use Rattle.spec_exchange.specs.Operations.{Refusal, BadToken}
use Rattle.spec_exchange.specs.Client.{Client, Stage, Apart, SaidNegotiate, SaidFirst, SaidSecond, AskedTree}
use Rattle.spec_exchange.specs.Dialogs.{DialogStep, GoesOn, Accepts, Binds, Readies, Refuses, dialog_step, stage_command, went_on, accepted}
use Rattle.spec_exchange.specs.Dialogs.{dialog_message}
use Rattle.spec_exchange.specs.ClientStep.{CloseChannel, IsReady, IsRefused, client_after, act}
use Rattle.spec_exchange.specs.Network.{World as Values, Conn, ForDialog, later, send_up, dialog_took, dialog_ended, dialog_sent, closed_by, with_client}
use Rattle.spec_commands.specs.ReplyOf.{reply_of}
use Rattle.spec_world.specs.Settings.{WorldSettings}
use Rattle.spec_world.specs.Messages.{HeardMessage}
use Rattle.spec_world.specs.Ends.{ClientEnd}
use Rattle.spec_world.specs.Dialog.{dialog_response, dialog_fault, status_due}
use Rattle.spec_world.specs.World.{World, behind_frame, hears, dialog_hears, dialog_passed}
use Rattle.spec_hostile.specs.RepeatRuns.{RepeatWorld, DownFrame, is_heard, loaded_down, given_down}
use Rattle.law_hostile.specs.loosely.LooseRuns.{with_connection}
use Rattle.law_hostile.specs.sifting.Sifting.{Sifted}
use Rattle.law_hostile.proofs.loosely.Staying.{Held, held_sifts}
use Rattle.law_hostile.proofs.loosely.Masks.{Alike, ready_alike, ready_act_same, refused_alike, went_alike, went_both, accepted_alike}
use Rattle.law_hostile.proofs.loosely.Following.{SameConn, Follows, with_conns, with_clients, put_alike, same_test}
use Rattle.law_hostile.proofs.loosely.Taking.{closed_follows, loaded_follows, given_follows, hearing_end}

-- ---- a message goes out in one of them alone

-- the other counts it, and no more
abbrev pub counted : Values → ℕ → Values
counted v k = with_connection v k (record (v.conns k) { next_id = (v.conns k).next_id + 1 })

counted_sifts : (c : Conn) → Sifted c (record c { next_id = c.next_id + 1 })
counted_sifts c =
    record {
      client = refl;
      server = refl;
      up = λ n x h. (n, h);
      down = λ n y h. (n, h);
      none = λ e. e;
      fewer_up = λ g. omega arith;
      fewer_down = λ g. omega arith;
    }

pub held_counted : (share : List ℕ) (v : Values) (a : ℕ → ℕ) (k : ℕ) → Held share v a → Held share (counted v k) a
held_counted share v a k i =
    held_sifts share v a k (record (v.conns k) { next_id = (v.conns k).next_id + 1 }) (counted_sifts (v.conns k)) i

one_more : (c d : Conn) (x : Message) → SameConn c d → SameConn (send_up c ForDialog x 1) (record d { next_id = d.next_id + 1 })
one_more c d x s = record { client = s.client; server = s.server; next = ap (λ n. n + 1) s.next }

both_more : (c d : Conn) (x y : Message) → SameConn c d → SameConn (send_up c ForDialog x 1) (send_up d ForDialog y 1)
both_more c d x y s = record { client = s.client; server = s.server; next = ap (λ n. n + 1) s.next }

pub goes_alone : (w v : Values) (k : ℕ) (s : Stage) (r : Reply) → Follows w v → Follows (dialog_took w k r (GoesOn s)) (counted v k)
goes_alone w v k s r f =
    let c = went_on w.client k s r in
    let x = dialog_message c k (w.conns k).next_id s in
    let p = put w.conns k (send_up (w.conns k) ForDialog x 1) in
    let q = put v.conns k (record (v.conns k) { next_id = (v.conns k).next_id + 1 }) in
    with_clients (record w { conns = p }) (record v { conns = q }) c v.client
    (same_test (λ (d : Client). Alike c d) w.client v.client f.client (λ m. went_alike w.client m k s r))
    (with_conns w v p q (put_alike w.conns v.conns k _ _ (one_more (w.conns k) (v.conns k) x (f.conns k)) f.conns) f)

-- ---- in both

sent_both : (w v : Values) (k : ℕ) (c d : Client) (s : Stage) → Alike c d → Follows w v
    → Follows (dialog_sent (with_client w c) k s) (dialog_sent (with_client v d) k s)
sent_both w v k c d s a f =
    let x = dialog_message c k (w.conns k).next_id s in
    let y = dialog_message d k (v.conns k).next_id s in
    let p = put w.conns k (send_up (w.conns k) ForDialog x 1) in
    let q = put v.conns k (send_up (v.conns k) ForDialog y 1) in
    with_clients (record w { conns = p }) (record v { conns = q }) c d a
    (with_conns w v p q (put_alike w.conns v.conns k _ _ (both_more (w.conns k) (v.conns k) x y (f.conns k)) f.conns) f)

pub goes_follows : (w v : Values) (k : ℕ) (s : Stage) (r : Reply) → Follows w v
    → Follows (dialog_took w k r (GoesOn s)) (dialog_took v k r (GoesOn s))
goes_follows w v k s r f =
    sent_both w v k (went_on w.client k s r) (went_on v.client k s r) s
    (same_test (λ (d : Client). Alike (went_on w.client k s r) (went_on d k s r)) w.client v.client f.client (λ m. went_both w.client m k s r)) f

accepted_both : (c d : Client) (k : ℕ) → Alike c d → d.pending ≡ c.pending → Alike (accepted c k) (accepted d k)
accepted_both c d k a e =
    subst (λ x. Alike (accepted c k) (accepted x k)) (sym a.is) (accepted_alike c a.mask k (ap (λ (x : Client). x.pending) (sym a.is) ∙ e))

pub accepts_follows : (w v : Values) (k : ℕ) (r : Reply) → v.client.pending ≡ w.client.pending → Follows w v
    → Follows (dialog_took w k r Accepts) (dialog_took v k r Accepts)
accepts_follows w v k r e f =
    sent_both w v k (accepted w.client k) (accepted v.client k) AskedTree (accepted_both w.client v.client k f.client e) f

pub refused_follows : (w v : Values) (k : ℕ) (why other : Refusal) → Follows w v
    → Follows (dialog_ended w k (IsRefused k why)) (dialog_ended v k (IsRefused k other))
refused_follows w v k why other f =
    with_clients (closed_by w k CloseChannel) (closed_by v k CloseChannel) (client_after w.client (IsRefused k why))
    (client_after v.client (IsRefused k other))
    (same_test (λ (d : Client). Alike (client_after w.client (IsRefused k why)) (client_after d (IsRefused k other))) w.client v.client f.client
    (λ m. refused_alike w.client m k why other)) (closed_follows w v k CloseChannel f)

pub ready_follows : (w v : Values) (k session tree : ℕ) → Follows w v
    → Follows (dialog_ended w k (IsReady k session tree)) (dialog_ended v k (IsReady k session tree))
ready_follows w v k session tree f =
    let c = w.client in
    let d = v.client in
    let e = IsReady k session tree in
    let a = same_test (λ (x : Client). Alike (client_after c e) (client_after x e)) c d f.client (λ m. ready_alike c m k session tree) in
    let q : act d e ≡ act c e = same_test (λ (x : Client). act x e ≡ act c e) c d f.client (λ m. ready_act_same c m k session tree) in
    subst (λ x. Follows (dialog_ended w k e) (with_client (closed_by v k x) (client_after d e))) (sym q)
    (with_clients (closed_by w k (act c e)) (closed_by v k (act c e)) (client_after c e) (client_after d e) a (closed_follows w v k (act c e) f))

pub binds_follows : (w v : Values) (k : ℕ) (r : Reply) → Follows w v → Follows (dialog_took w k r Binds) (dialog_took v k r Binds)
binds_follows w v k r f =
    let c = w.client in
    let n : v.client.session ≡ c.session = ap (λ (x : Client). x.session) f.client.is in
    let t : v.client.tree ≡ c.tree = ap (λ (x : Client). x.tree) f.client.is in
    subst (λ i. Follows (dialog_took w k r Binds) (dialog_ended v k (IsReady k i v.client.tree))) (sym n)
    (subst (λ i. Follows (dialog_took w k r Binds) (dialog_ended v k (IsReady k c.session i))) (sym t)
    (ready_follows w v k c.session c.tree f))

pub readies_follows : (w v : Values) (k : ℕ) (r : Reply) → v.client.pending ≡ w.client.pending → Follows w v
    → Follows (dialog_took w k r Readies) (dialog_took v k r Readies)
readies_follows w v k r e f =
    subst (λ i. Follows (dialog_took w k r Readies) (dialog_ended v k (IsReady k i r.tree_id))) (sym e)
    (ready_follows w v k w.client.pending r.tree_id f)

step_follows : (w v : Values) (k : ℕ) (r : Reply) (s : DialogStep) → v.client.pending ≡ w.client.pending → Follows w v
    → Follows (dialog_took w k r s) (dialog_took v k r s)
step_follows w v k r (GoesOn s) e f = goes_follows w v k s r f
step_follows w v k r Accepts e f = accepts_follows w v k r e f
step_follows w v k r Binds e f = binds_follows w v k r f
step_follows w v k r Readies e f = readies_follows w v k r e f
step_follows w v k r (Refuses status) e f = refused_follows w v k _ _ f

-- ---- a response is given

abbrev pub passed_values : Values → ℕ → Stage → HeardMessage → Option Refusal → Values
passed_values v k s x (Some why) = dialog_ended v k (IsRefused k why)
passed_values v k s x None = dialog_took v k (reply_of (stage_command v.client s) x.header x.bytes) (dialog_step s x.header.status)

-- what fault the end finds
abbrev pub found_fault : WorldSettings → ClientEnd → Stage → HeardMessage → Option Refusal
found_fault z n s x = if x.header.status == status_due s then dialog_fault z.client n s x else None

abbrev pub dialog_values : WorldSettings → Values → ℕ → ClientEnd → Stage → Option HeardMessage → Values
dialog_values z v k n s None = dialog_ended v k (IsRefused k BadToken)
dialog_values z v k n s (Some x) = passed_values v k s x (found_fault z n s x)

passed_follows : (z : WorldSettings) (v : Values) (w : World) (k : ℕ) (s : Stage) (x : HeardMessage) (o : Option Refusal)
    → w.values.client ≡ v.client → Follows v w.values → Follows (passed_values v k s x o) (dialog_passed z w k s x o).values
passed_follows z v w k s x (Some why) e f = refused_follows v w.values k why why f
passed_follows z v w k s x None e f =
    let step = dialog_step s x.header.status in
    let r = λ (c : Client). reply_of (stage_command c s) x.header x.bytes in
    subst (λ y. Follows (dialog_took v k y step) (dialog_took w.values k (r w.values.client) step)) (ap r e)
    (step_follows v w.values k (r w.values.client) step (ap (λ (c : Client). c.pending) e) f)

response_follows : (z : WorldSettings) (v : Values) (w : World) (k : ℕ) (s : Stage) (o : Option HeardMessage) → w.values.client ≡ v.client
    → Follows v w.values → Follows (dialog_values z v k (w.wires k).client_end s o) (dialog_hears z w k s o).values
response_follows z v w k s None e f = refused_follows v w.values k BadToken BadToken f
response_follows z v w k s (Some x) e f = passed_follows z v w k s x (found_fault z (w.wires k).client_end s x) e f

heard_follows : (z : WorldSettings) (v : Values) (w : World) (k : ℕ) (frame : List ℕ) (place : ℕ) (s : Stage) → (s ≡ Apart → ⊥)
    → w.values.client ≡ v.client → Follows v w.values
    → Follows (dialog_values z v k (w.wires k).client_end s (dialog_response (w.wires k).client_end s frame)) (hears z w k frame place s).values
heard_follows z v w k frame place Apart apart e f = absurd (apart refl)
heard_follows z v w k frame place (SaidNegotiate b) apart e f =
    response_follows z v w k (SaidNegotiate b) (dialog_response (w.wires k).client_end (SaidNegotiate b) frame) e f
heard_follows z v w k frame place (SaidFirst b) apart e f =
    response_follows z v w k (SaidFirst b) (dialog_response (w.wires k).client_end (SaidFirst b) frame) e f
heard_follows z v w k frame place (SaidSecond b) apart e f =
    response_follows z v w k (SaidSecond b) (dialog_response (w.wires k).client_end (SaidSecond b) frame) e f
heard_follows z v w k frame place AskedTree apart e f =
    response_follows z v w k AskedTree (dialog_response (w.wires k).client_end AskedTree frame) e f

-- an end in a dialog hears it
pub dialog_given : (z : WorldSettings) (r : RepeatWorld) (k : ℕ) (d : DownFrame) → is_heard r.world k ≡ true
    → ((r.world.wires k).client_end.stage ≡ Apart → ⊥)
    → (let n = (r.world.wires k).client_end in
    Follows (later (dialog_values z r.world.values k n n.stage (dialog_response n n.stage d.frame)) 1) (given_down z r k d).world.values)
dialog_given z r k d on apart =
    let B = behind_frame (loaded_down r k d) k [] [] in
    let V = r.world.values in
    let n = (r.world.wires k).client_end in
    let s = n.stage in
    let told = λ (m : ClientEnd). dialog_values z V k m s (dialog_response m s d.frame) in
    given_follows z r k d (told n)
    (subst (λ m. Follows (told m) (hears z B k d.frame d.received.place s).values) (hearing_end r k d)
    (heard_follows z V B k d.frame d.received.place s apart refl (loaded_follows r k d on)))
