-- Where nothing is forged, what a server's end hears on a line is the very message that the model's client sent, and what a client's line takes
-- answers such a one.
use Rattle.std.proofs.Common.{◌≡◌, ℕ, ◌==◌, true, false, List, [], ◌∷◌, ◌⊎◌, inl, inr, refl, sym, ◌∙◌, ap, subst}
use Rattle.std.proofs.Common.{Some, slice_get, Ok}
use Rattle.law_server.proofs.tables.Logic.{either}
use Rattle.spec_wire.specs.declared.messages.header.Header.{Header}
use Rattle.spec_exchange.specs.Status.{success, more_processing_required}
use Rattle.spec_exchange.specs.State.{Message, Reply}
use Rattle.spec_exchange.specs.Client.{Client, Stage, Apart, SaidNegotiate, SaidFirst, SaidSecond, AskedTree}
use Rattle.spec_exchange.specs.ClientStep.{Act, Nothing, Sends, Asks, CloseChannel, CloseChannels, AllSettled, Pushes, client_after, act}
use Rattle.spec_exchange.specs.Dialogs.{DialogStep, GoesOn, Accepts, Binds, Readies, Refuses, dialog_step}
use Rattle.spec_exchange.specs.Network.{Sent}
use Rattle.spec_commands.specs.BodyOf.{number_of_command}
use Rattle.spec_world.specs.Settings.{WorldSettings}
use Rattle.spec_world.specs.Messages.{header_in, heard_in}
use Rattle.spec_world.specs.Ends.{client_on}
use Rattle.spec_world.specs.Hearing.{Checked, check_frame, checked_as, behind_turn, begins_sealed, is_negotiate, is_setup}
use Rattle.spec_world.specs.World.{paid, dialog_reply}
use Rattle.spec_hostile.specs.RepeatRuns.{RepeatWorld, RepeatEvent, Give, repeat_start}
use Rattle.spec_hostile.specs.SignedFor.{watching}
use Rattle.spec_hostile.specs.HostileNetwork.{repeated}
use Rattle.law_ties.specs.wire_facts.Lawful.{AreHeadersLawful, AreCommandsLawful, TreeFacts}
use Rattle.law_hostile.specs.placed.Placed.{watched_to}
use Rattle.law_hostile.specs.dialogs.OwnDialogs.{goes_on_line}
use Rattle.law_hostile.specs.greeted.Greeted.{RequestsAreTheClients}
use Rattle.law_hostile.specs.replied.Awaited.{LinesFit}
use Rattle.law_hostile.specs.meant.Meant.{IsMeant, AsksNegotiate, AsksSetup, AsksLine}
use Rattle.law_hostile.specs.sends.OwnSends.{PushSends, DialogSends, SendsAt, AtOpen, AtPush, AtResponse}
use Rattle.law_hostile.specs.sends.HeardSends.{HeardWasSent, TakenAnswersSend}
use Rattle.law_hostile.proofs.puts.Growing.{watches_run}
use Rattle.law_hostile.proofs.ids.Frames.{own_frames_bear, own_requests_meant}
use Rattle.law_hostile.proofs.greeted.Bytes.{setup_command, line_command}
use Rattle.law_hostile.proofs.setups.Own.{greeting_command}
use Rattle.law_hostile.proofs.meant.Reading.{Reads, reads_frame}
use Rattle.law_hostile.proofs.meant.Telling.{bare_of, only_get, raw_of, heard_meant}
use Rattle.law_hostile.proofs.replied.Awaiting.{taken_are_awaited, put_before}
use Rattle.law_hostile.proofs.sends.Runs.{own_sends}
use Rattle.law_hostile.proofs.sends.Lines.{own_lines_fit, own_clients}

-- ---- what the client sends goes on a line, or is a NEGOTIATE or a SESSION_SETUP

abbrev LineOr : Sent → Type 0
LineOr x = (goes_on_line x.token x.message.command ≡ true) ⊎ (number_of_command x.message.command ≡ 0)

pushed_line : (k id : ℕ) (c : Client) (a : Act) (x : Sent) → PushSends k id c a x → LineOr x
pushed_line k id c (Sends g) x e = subst LineOr (sym e) (inl refl)
pushed_line k id c (Asks g) x e = subst LineOr (sym e) (inl refl)
pushed_line k id c Nothing x e = absurd e
pushed_line k id c CloseChannel x e = absurd e
pushed_line k id c CloseChannels x e = absurd e
pushed_line k id c AllSettled x e = absurd e

abbrev LinesBy : ℕ → ℕ → Client → Reply → DialogStep → Type 0
LinesBy k id c r d = (x : Sent) → DialogSends k id c r d x → LineOr x

refused_line : (k id : ℕ) (c : Client) (r : Reply) (status : ℕ) → LinesBy k id c r (Refuses status)
refused_line k id c r status x h = absurd h

dialog_line : (k id : ℕ) (c : Client) (r : Reply) (s : Stage) (status : ℕ) → LinesBy k id c r (dialog_step s status)
dialog_line k id c r Apart status = refused_line k id c r status
dialog_line k id c r (SaidNegotiate bound) status =
    either (LinesBy k id c r) (status == success) (GoesOn (SaidFirst bound)) (Refuses status) (λ _ x e. subst LineOr (sym e) (inr refl))
    (λ _. refused_line k id c r status)
dialog_line k id c r (SaidFirst bound) status =
    either (LinesBy k id c r) (status == more_processing_required) (GoesOn (SaidSecond bound)) (Refuses status)
    (λ _ x e. subst LineOr (sym e) (inr refl)) (λ _. refused_line k id c r status)
dialog_line k id c r (SaidSecond true) status =
    either (LinesBy k id c r) (status == success) Binds (Refuses status) (λ _ x h. absurd h) (λ _. refused_line k id c r status)
dialog_line k id c r (SaidSecond false) status =
    either (LinesBy k id c r) (status == success) Accepts (Refuses status) (λ _ x e. subst LineOr (sym e) (inl refl))
    (λ _. refused_line k id c r status)
dialog_line k id c r AskedTree status =
    either (LinesBy k id c r) (status == success) Readies (Refuses status) (λ _ x h. absurd h) (λ _. refused_line k id c r status)

sends_line : (z : WorldSettings) (r : RepeatWorld) (k : ℕ) (x : Sent) (e : RepeatEvent) → SendsAt z r k x e → LineOr x
sends_line z r k x _ (AtOpen may is) = subst LineOr (sym is) (inr refl)
sends_line z r k x _ (AtPush slotless pick ready h) =
    let p = Pushes k slotless (paid r.world k slotless pick) in
    pushed_line k (r.world.values.conns k).next_id (client_after r.world.values.client p) (act r.world.values.client p) x h
sends_line z r k x _ (AtResponse place d y at on heard fine h) =
    let n = (r.world.wires k).client_end in
    dialog_line k (r.world.values.conns k).next_id r.world.values.client (dialog_reply r.world n.stage y) n.stage y.header.status x h

-- ---- a frame whose header is neither's

off_zero : (h : Header) → is_negotiate h ≡ false → h.command ≡ 0 → ⊥
off_zero h off e = absurd (let q : true ≡ false = sym (ap (λ n. n == 0) e) ∙ off in cc)

off_one : (h : Header) → is_setup h ≡ false → h.command ≡ 1 → ⊥
off_one h off e = absurd (let q : true ≡ false = sym (ap (λ n. n == 1) e) ∙ off in cc)

meant_line : (z : WorldSettings) (frame : List ℕ) (x : Sent) → IsMeant z frame x.message → is_negotiate (header_in frame) ≡ false
    → is_setup (header_in frame) ≡ false → LineOr x → goes_on_line x.token x.message.command ≡ true
meant_line z frame x (AsksNegotiate draws command e) n s q = absurd (off_zero (header_in frame) n (greeting_command z _ x.message frame e))
meant_line z frame x (AsksSetup m r token command sequence own e) n s q =
    absurd (off_one (header_in frame) s (setup_command m r.binding r.previous token x.message frame e))
meant_line z frame x (AsksLine signer e) n s (inl on) = on
meant_line z frame x (AsksLine signer e) n s (inr zero) =
    absurd (off_zero (header_in frame) n (line_command signer x.message _ frame e ∙ zero))

-- ---- a server's end hears it

same_client : (m : Message) (a : ℕ) → a ≡ m.client_guid → record m { client_guid = a } ≡ m
same_client m a e = ap (λ n. record m { client_guid = n }) e

pub heard_sends : AreHeadersLawful → AreCommandsLawful → TreeFacts → RequestsAreTheClients → HeardWasSent
heard_sends heads law trees clients z es k place c L alone bounds all now g fine n s p =
    let t = watched_to z es in
    let same : t.repeating ≡ repeated z es = watches_run z es (watching (repeat_start z)) in
    let f = (t.repeating.world.wires k).server_end in
    let x = g.frame in
    let h = heard_meant heads law trees z es k place c L bounds.fitting now g fine n s p in
    let u = h.put in
    let at : slice_get (repeated z es).ups h.index ≡ Some u = subst (λ (r : RepeatWorld). slice_get r.ups h.index ≡ Some u) same h.at in
    let given : slice_get (repeated z es).ups place ≡ Some g.put = subst (λ (r : RepeatWorld). slice_get r.ups place ≡ Some g.put) same g.at in
    let plain = bare_of f g.put.frame x g.heard g.plain in
    let one = own_frames_bear z es place g.put given plain in
    let raw : c.raw ≡ g.put.frame = raw_of f g.put.frame x c g.index g.heard plain one.alone g.message in
    let got : (x.messages ≡ checked_as f false false true (heard_in g.put.frame) ∷ []) × (x.server_end ≡ behind_turn f (header_in g.put.frame)) =
    subst (Reads f (heard_in g.put.frame)) g.heard (reads_frame f g.put.frame (heard_in g.put.frame) plain one.alone) in
    let is : checked_as f false false true (heard_in g.put.frame) ≡ c =
    only_get x.messages (checked_as f false false true (heard_in g.put.frame)) c g.index got.0 g.message in
    let head : header_in u.frame ≡ c.header = ap header_in (h.frame ∙ raw) ∙ ap (λ (d : Checked). d.header) is in
    let bare = ap begins_sealed (h.frame ∙ raw) ∙ plain in
    let own = own_requests_meant z es h.index u at bare in
    let sent = own_sends z es h.index u at in
    let line =
    meant_line z u.frame u.sent own.meant (ap is_negotiate head ∙ n) (ap is_setup head ∙ s)
    (sends_line z (repeated z sent.before) u.connection u.sent sent.event sent.sends) in
    let fits = own_lines_fit heads law trees z es alone bounds all h.index u at line in
    let heard = h.heard fits in
    let served : check_frame ((repeated z es).world.wires k).server_end g.put.frame ≡ Ok x =
    subst (λ (r : RepeatWorld). check_frame (r.world.wires k).server_end g.put.frame ≡ Ok x) same g.heard in
    let client =
    clients z es place k g.index g.put L x c (record u.sent.message { client_guid = client_on x.server_end.greeting }) bounds.fitting alone.offered
    given served g.message n heard in
    let mine = own_clients heads law trees z es alone bounds all h.index u at in
    record {
      index = h.index;
      put = u;
      at = at;
      frame = h.frame;
      connection = h.connection;
      opening = h.opening ∙ ap (λ (r : RepeatWorld). r.openings k) same;
      sent = sent;
      line = line;
      heard = heard ∙ ap Some (same_client u.sent.message (client_on x.server_end.greeting) (client ∙ sym mine));
    }

-- ---- a client's line takes it

pub taken_sends : AreHeadersLawful → AreCommandsLawful → TreeFacts → TakenAnswersSend
taken_sends heads law trees z es k place d y token alone bounds all now at on apart taken waits own =
    let start = watching (repeat_start z) in
    let same = watches_run z es start in
    let lines = subst (LinesFit z) (sym same) (own_lines_fit heads law trees z es alone bounds all) in
    let a = taken_are_awaited heads law trees z es k place d y token bounds.fitting alone all now lines at on apart taken waits own in
    let w = a.answered in
    let h = a.own in
    record {
      answers = a;
      sent = own_sends z es h.index h.put (put_before z es w.before (Give w.k true w.place ∷ w.after) h.index h.put w.run h.at);
    }
