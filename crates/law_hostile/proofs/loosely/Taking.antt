-- What a reply that the network gives to a client's line does to the values of a repeat run: what taking it does there, or a cut.
use Rattle.std.proofs.Common.{◌≡◌, ℕ, Bool, true, false, ◌&&◌, if◌then◌else◌, [], ◌∷◌, refl, sym, ap, ◌∙◌, subst, Option, Some, None}
use Rattle.law_server.proofs.tables.Logic.{either}
use Rattle.law_records.proofs.recovery.Lists.{put_here}
use Rattle.spec_exchange.specs.Table.{put, is_filled}
use Rattle.spec_exchange.specs.State.{Reply}
use Rattle.spec_exchange.specs.Client.{Client, Apart}
use Rattle.spec_exchange.specs.ClientStep.{Act, Nothing, Sends, Asks, CloseChannel, CloseChannels, AllSettled, Hears, client_after, act}
use Rattle.spec_exchange.specs.Network.{World as Values, Conn, Token, ForOp, ForAttach, ForDialog, Take, later, closed_by, op_took}
use Rattle.spec_exchange.specs.Network.{cut_off, with_client, take_front, may_take_reply}
use Rattle.spec_world.specs.Settings.{WorldSettings}
use Rattle.spec_world.specs.Messages.{HeardMessage}
use Rattle.spec_commands.specs.ReplyOf.{reply_of}
use Rattle.spec_world.specs.Ends.{ClientEnd}
use Rattle.spec_world.specs.Dialog.{line_response}
use Rattle.spec_world.specs.World.{World, Wires, behind_frame, take_frame, hears, line_hears, line_heard, op_heard, command_asked, cut_wires}
use Rattle.spec_world.specs.Events.{bytes_changed, bytes_later}
use Rattle.spec_hostile.specs.RepeatRuns.{RepeatWorld, DownFrame, is_heard, loaded_down, given_down, lists_as, sents, receiveds}
use Rattle.law_hostile.proofs.finals.Recalling.{wires_loaded, conn_loaded}
use Rattle.law_hostile.proofs.loosely.Masks.{masked, Alike, hears_alike, heard_act_same}
use Rattle.law_hostile.proofs.loosely.Following.{SameConns, Follows, with_conns, with_clients, put_alike, off_alike, same_test, later_follows}
use Rattle.law_hostile.proofs.loosely.Following.{cut_follows}
use Rattle.law_hostile.proofs.loosely.Serving.{then_conns, one_conn}
use Rattle.law_hostile.proofs.loosely.Ending.{self_alike}

pub follows_then : (w a b : Values) → Follows w a → Follows a b → Follows w b
follows_then w a b f g =
    record {
      client = (let q = g.client in record { mask = q.mask; is = q.is ∙ ap (λ (c : Client). masked c q.mask) f.client.is });
      server = g.server ∙ f.server;
      records = g.records ∙ f.records;
      moment = g.moment ∙ f.moment;
      conns = then_conns w.conns a.conns b.conns f.conns g.conns;
      places = g.places ∙ f.places;
      reached = g.reached ∙ f.reached;
      altered = g.altered ∙ f.altered;
      session = g.session ∙ f.session;
      sequence = g.sequence ∙ f.sequence;
    }

-- other lists of connections, as open as they were
pub with_same : (w : Values) (q : ℕ → Conn) → SameConns w.conns q → Follows w (record w { conns = q })
with_same w q s =
    record {
      client = self_alike w.client;
      server = refl;
      records = refl;
      moment = refl;
      conns = s;
      places = refl;
      reached = refl;
      altered = refl;
      session = refl;
      sequence = refl;
    }

-- ---- an operation hears

pub closed_follows : (w v : Values) (k : ℕ) (a : Act) → Follows w v → Follows (closed_by w k a) (closed_by v k a)
closed_follows w v k CloseChannels f = with_conns w v _ _ (λ j. off_alike (w.conns j) (v.conns j) (f.conns j)) f
closed_follows w v k CloseChannel f =
    with_conns w v _ _ (put_alike w.conns v.conns k _ _ (off_alike (w.conns k) (v.conns k) (f.conns k)) f.conns) f
closed_follows w v k Nothing f = f
closed_follows w v k (Sends g) f = f
closed_follows w v k (Asks g) f = f
closed_follows w v k AllSettled f = f

pub op_took_follows : (w v : Values) (k g : ℕ) (asking : Bool) (r : Reply) (p q : ℕ) → Follows w v
    → Follows (op_took w k g asking r p) (op_took v k g asking r q)
op_took_follows w v k g asking r p q f =
    let c = w.client in
    let d = v.client in
    let a = same_test (λ (x : Client). Alike (client_after c (Hears k g asking r p)) (client_after x (Hears k g asking r q))) c d f.client
    (λ m. hears_alike c m k g asking r p q) in
    let e : act d (Hears k g asking r q) ≡ act c (Hears k g asking r p) =
    same_test (λ (x : Client). act x (Hears k g asking r q) ≡ act c (Hears k g asking r p)) c d f.client
    (λ m. heard_act_same c m k g asking r p q) in
    subst (λ x. Follows (op_took w k g asking r p) (with_client (closed_by v k x) (client_after d (Hears k g asking r q)))) (sym e)
    (with_clients (closed_by w k (act c (Hears k g asking r p))) (closed_by v k (act c (Hears k g asking r p)))
    (client_after c (Hears k g asking r p)) (client_after d (Hears k g asking r q)) a
    (closed_follows w v k (act c (Hears k g asking r p)) f))

-- ---- what a line hears

abbrev reply_read : Client → ℕ → Bool → HeardMessage → Reply
reply_read c g asking x = reply_of (command_asked c g asking) x.header x.bytes

abbrev pub line_values : Values → ℕ → HeardMessage → ℕ → Option Token → Values
line_values v k x place (Some (ForOp g)) = op_took v k g false (reply_read v.client g false x) place
line_values v k x place (Some (ForAttach g)) = op_took v k g true (reply_read v.client g true x) place
line_values v k x place (Some ForDialog) = cut_off v k
line_values v k x place None = cut_off v k

abbrev pub line_values_of : Values → ℕ → ℕ → (ℕ → Option Token) → Option HeardMessage → Values
line_values_of v k place awaited None = cut_off v k
line_values_of v k place awaited (Some x) = line_values v k x place (awaited x.header.message)

cut_values : (v : Values) (w : World) (k : ℕ) → Follows v w.values → Follows (cut_off v k) (cut_wires w k).values
cut_values v w k f =
    either (λ (u : World). Follows (cut_off v k) u.values) (w.values.client.ready k) _ _ (λ _. cut_follows v w.values k f) (λ _. cut_follows v w.values k f)

op_values : (v : Values) (w : World) (k g : ℕ) (asking : Bool) (x : HeardMessage) (place : ℕ) → w.values.client ≡ v.client → Follows v w.values
    → Follows (op_took v k g asking (reply_read v.client g asking x) place) (op_heard w k g asking x place).values
op_values v w k g asking x place e f =
    subst (λ (r : Reply). Follows (op_took v k g asking r place) (op_took w.values k g asking (reply_read w.values.client g asking x) place))
    (ap (λ (c : Client). reply_read c g asking x) e)
    (op_took_follows v w.values k g asking (reply_read w.values.client g asking x) place place f)

heard_values : (v : Values) (w : World) (k : ℕ) (x : HeardMessage) (place : ℕ) (t : Option Token) → w.values.client ≡ v.client → Follows v w.values
    → Follows (line_values v k x place t) (line_heard w k x place t).values
heard_values v w k x place (Some (ForOp g)) e f = op_values v w k g false x place e f
heard_values v w k x place (Some (ForAttach g)) e f = op_values v w k g true x place e f
heard_values v w k x place (Some ForDialog) e f = cut_values v w k f
heard_values v w k x place None e f = cut_values v w k f

line_follows : (v : Values) (w : World) (k place : ℕ) (o : Option HeardMessage) → w.values.client ≡ v.client → Follows v w.values
    → Follows (line_values_of v k place (w.wires k).client_end.awaited o) (line_hears w k place o).values
line_follows v w k place None e f = cut_values v w k f
line_follows v w k place (Some x) e f = heard_values v w k x place ((w.wires k).client_end.awaited x.header.message) e f

-- ---- the reply is given

-- on its list alone, and behind it
pub loaded_follows : (r : RepeatWorld) (k : ℕ) (d : DownFrame) → is_heard r.world k ≡ true
    → Follows r.world.values (behind_frame (loaded_down r k d) k [] []).values
loaded_follows r k d on =
    let p = r.world.values.conns in
    let c : Conn = record (p k) { client_open = true; up = sents []; down = receiveds (d ∷ []) } in
    let q = put p k c in
    with_same r.world.values _
    (then_conns p q (put q k (take_front (q k) []))
    (one_conn p k c (record { client = sym on; server = refl; next = refl }))
    (one_conn q k (take_front (q k) []) (record { client = refl; server = refl; next = refl })))

pub collected_follows : (u : World) (k : ℕ) → Follows u.values (lists_as u k [] [] (is_heard u k)).values
collected_follows u k =
    with_same u.values _ (one_conn u.values.conns k _ (record { client = refl; server = refl; next = refl }))

pub may_take_loaded : (r : RepeatWorld) (k : ℕ) (d : DownFrame) → may_take_reply (loaded_down r k d).values k ≡ true
unfolding is_filled receiveds
may_take_loaded r k d =
    ap (λ (c : Conn). c.client_open && is_filled c.down) (put_here r.world.values.conns k (record (r.world.values.conns k) {
      client_open = true;
      up = sents [];
      down = receiveds (d ∷ []);
    }))

-- what its hearing leaves a later moment and empty lists
pub given_follows : (z : WorldSettings) (r : RepeatWorld) (k : ℕ) (d : DownFrame) (v : Values)
    → Follows v (hears z (behind_frame (loaded_down r k d) k [] []) k d.frame d.received.place (r.world.wires k).client_end.stage).values
    → Follows (later v 1) (given_down z r k d).world.values
given_follows z r k d v heard =
    let L = loaded_down r k d in
    let B = behind_frame L k [] [] in
    let place = d.received.place in
    let here : (L.wires k).client_end ≡ (r.world.wires k).client_end = ap (λ (x : Wires). x.client_end) (wires_loaded r k d) in
    let took : Follows v (take_frame z L k (L.wires k).down (L.values.conns k).down).values =
    subst (λ bs. Follows v (take_frame z L k bs (L.values.conns k).down).values) (sym (ap (λ (x : Wires). x.down) (wires_loaded r k d)))
    (subst (λ ys. Follows v (take_frame z L k (d.frame ∷ []) ys).values) (sym (conn_loaded r k d))
    (subst (λ s. Follows v (hears z B k d.frame place s).values) (sym (ap (λ (m : ClientEnd). m.stage) here)) heard)) in
    subst (λ b. Follows (later v 1) (lists_as (if b then bytes_later (bytes_changed z L (Take k)) 1 else L) k [] []
    (is_heard (if b then bytes_later (bytes_changed z L (Take k)) 1 else L) k)).values) (sym (may_take_loaded r k d))
    (follows_then (later v 1) (bytes_later (bytes_changed z L (Take k)) 1).values _ (later_follows v (bytes_changed z L (Take k)).values 1 took)
    (collected_follows (bytes_later (bytes_changed z L (Take k)) 1) k))

-- the end that hears it is as it was
pub hearing_end : (r : RepeatWorld) (k : ℕ) (d : DownFrame)
    → ((behind_frame (loaded_down r k d) k [] []).wires k).client_end ≡ (r.world.wires k).client_end
hearing_end r k d =
    let L = loaded_down r k d in
    ap (λ (x : Wires). x.client_end) (put_here L.wires k (record (L.wires k) { down = [] }))
    ∙ ap (λ (x : Wires). x.client_end) (wires_loaded r k d)

-- a ready channel hears it
pub line_given : (z : WorldSettings) (r : RepeatWorld) (k : ℕ) (d : DownFrame) → is_heard r.world k ≡ true
    → (r.world.wires k).client_end.stage ≡ Apart
    → (let n = (r.world.wires k).client_end in
    Follows (later (line_values_of r.world.values k d.received.place n.awaited (line_response n d.frame)) 1) (given_down z r k d).world.values)
line_given z r k d on apart =
    let B = behind_frame (loaded_down r k d) k [] [] in
    let V = r.world.values in
    let n = (r.world.wires k).client_end in
    let place = d.received.place in
    let line = λ (m : ClientEnd). line_values_of V k place m.awaited (line_response m d.frame) in
    given_follows z r k d (line n)
    (subst (λ s. Follows (line n) (hears z B k d.frame place s).values) (sym apart)
    (subst (λ m. Follows (line m) (hears z B k d.frame place Apart).values) (hearing_end r k d)
    (line_follows V B k place (line_response (B.wires k).client_end d.frame) refl (loaded_follows r k d on))))
