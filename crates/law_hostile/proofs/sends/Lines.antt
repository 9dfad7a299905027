-- Along a repeat run in which nothing is forged the numbers of each request of a line fit their fields.
use Rattle.std.proofs.Common.{◌≡◌, ℕ, ◌+◌, ◌≤◌, ◌<◌, ◌^◌, ◌&&◌, Bool, true, false, if◌then◌else◌, List, [], ◌∷◌, ◌++◌, ◌⊎◌, inl, inr}
use Rattle.std.proofs.Common.{refl, sym, ◌∙◌, ap, arith, subst, take, append_assoc, Option, Some, None, slice_get}
use Rattle.law_server.specs.tables.Fits.{Fits}
use Rattle.spec_wire.specs.messages.Places.{number_of}
use Rattle.spec_exchange.specs.Commands.{Command, Create, CreateRequest}
use Rattle.spec_exchange.specs.State.{Message, Heard}
use Rattle.spec_exchange.specs.Step.{step}
use Rattle.spec_exchange.specs.Opens.{id_of, max_ids}
use Rattle.spec_exchange.specs.Operations.{Op, OpCreate, OpWrite, OpRead, OpEnd, OpTime, OpRename, OpRemove, OpLock, OpUnlock, OpFlush, OpStat, OpList}
use Rattle.spec_exchange.specs.Operations.{OpClose, is_create, request_of, id_in}
use Rattle.spec_exchange.specs.Client.{Stage}
use Rattle.spec_exchange.specs.Network.{ForDialog, ForOp, Sent, answer_to}
use Rattle.spec_crypto.specs.sessions.Sealing.{opened}
use Rattle.spec_world.specs.Settings.{WorldSettings, identity_of, draw}
use Rattle.spec_world.specs.Messages.{HeardMessage, heard_in, has_header}
use Rattle.spec_world.specs.Ends.{ClientEnd}
use Rattle.spec_world.specs.Answering.{said_text}
use Rattle.spec_world.specs.Connection.{said_to}
use Rattle.spec_world.specs.Hearing.{Checked, Frame, is_negotiate}
use Rattle.spec_world.specs.Dialog.{dialog_response, response_in, is_asked}
use Rattle.spec_world.specs.World.{World, dialog_reply}
use Rattle.spec_hostile.specs.RepeatRuns.{RepeatWorld, RepeatEvent, Same, Give, UpFrame, DownFrame, is_heard, repeat_happens, repeat_start}
use Rattle.spec_hostile.specs.SignedFor.{Watched, watching, watched_happens, watched_run}
use Rattle.spec_hostile.specs.HostileNetwork.{SignsAlone, IsBounded, own_events, repeated}
use Rattle.law_ties.specs.wire_facts.Fitting.{IsFitting}
use Rattle.law_ties.specs.wire_facts.Lawful.{AreHeadersLawful, AreCommandsLawful, TreeFacts}
use Rattle.law_ties.specs.wire_facts.Steps.{restarts_in, submits_in}
use Rattle.law_hostile.specs.unforged.Unforged.{EventSigned, AllSigned}
use Rattle.law_hostile.specs.placed.Placed.{watched_to}
use Rattle.law_hostile.specs.meant.Heard.{FitsRequest}
use Rattle.law_hostile.specs.replied.Replies.{answer_said}
use Rattle.law_hostile.specs.replied.Awaited.{LinesFit}
use Rattle.law_hostile.specs.sends.OwnSends.{SendsAt, AtOpen, AtPush, AtResponse}
use Rattle.law_hostile.specs.sends.OwnNumbers.{OwnLinesFit}
use Rattle.law_hostile.proofs.puts.Growing.{none_in, event_watched, watches_run}
use Rattle.law_hostile.proofs.finals.Signing as signing
use Rattle.law_hostile.proofs.ended.Lowly.{TellsLow}
use Rattle.law_hostile.proofs.ended.Standing.{servers_stand}
use Rattle.law_hostile.proofs.ended.Accepted.{Grounds, grounds_on, start_grounds}
use Rattle.law_hostile.proofs.replied.Owning.{run_fine, signed_at}
use Rattle.law_hostile.proofs.replied.Responses.{asked_header}
use Rattle.law_hostile.proofs.replied.Awaiting.{taken_are_awaited, put_before, line_reads, op_line}
use Rattle.law_hostile.proofs.sends.Clients.{Base, Fit, base_of, based}
use Rattle.law_hostile.proofs.sends.Taking.{LineLow, DialogLow, GivenLow, limit_at, event_fit}
use Rattle.law_hostile.proofs.sends.Creating.{create_low}
use Rattle.law_hostile.proofs.sends.Opening.{KeepsLow, own_heard, answer_low}
use Rattle.law_hostile.proofs.sends.Counts.{room_on, epochs_low, front_restarts}
use Rattle.law_hostile.proofs.sends.Putting.{OfOp, GoodSend, push_good, open_good, dialog_good}
use Rattle.law_hostile.proofs.sends.Runs.{event_sending}

-- ---- what holds along the run

abbrev AllGood : WorldSettings → (ℕ → Op) → ℕ → List UpFrame → Type 0
AllGood z op taken us = (i : ℕ) (u : UpFrame) → slice_get us i ≡ Some u → GoodSend z op taken u.sent

record Sound (z : WorldSettings) (limit : ℕ) (t : Watched) : Type 0 where
  grounds : Grounds z t
  fit : Fit (identity_of z) limit (base_of t.repeating.world.values.client) t.repeating.world.values.client
  good : AllGood z t.repeating.world.values.client.op t.repeating.world.values.client.taken t.repeating.ups

pub lines_of : (z : WorldSettings) (op : ℕ → Op) (taken : ℕ) (r : RepeatWorld) → AllGood z op taken r.ups → LinesFit z r
lines_of z op taken r all i u at on = let g = all i u at in g.fits on

-- ---- one event

further : (g a b : ℕ) → g ≤ a → a ≤ b → g ≤ b
further g a b l m = omega (arith, l, m)

op_kept : (op more : ℕ → Op) (taken most g : ℕ) (c : Command) → taken ≤ most → ((h : ℕ) → 0 < h → h ≤ taken → more h ≡ op h)
    → OfOp op taken g c → OfOp more most g c
op_kept op more taken most g c l same o =
    record {
      low = o.low;
      up = further g taken most o.up l;
      guid = o.guid;
      file = o.file;
      slot = o.slot;
      number = o.number;
      command = o.command ∙ ap (λ x. request_of x o.guid o.file o.slot o.number) (sym (same g o.low o.up));
    }

good_kept : (z : WorldSettings) (op more : ℕ → Op) (taken most : ℕ) (x : Sent) → taken ≤ most
    → ((h : ℕ) → 0 < h → h ≤ taken → more h ≡ op h) → GoodSend z op taken x → GoodSend z more most x
good_kept z op more taken most x l same g =
    record { fits = g.fits; own = λ h e. op_kept op more taken most h x.message.command l same (g.own h e); client = g.client }

sends_good : (z : WorldSettings) (limit : ℕ) (base : Base) (r : RepeatWorld) (k : ℕ) (x : Sent) (e : RepeatEvent)
    → Fit (identity_of z) limit base r.world.values.client → limit < 2 ^ 64 → SendsAt z r k x e
    → GoodSend z r.world.values.client.op r.world.values.client.taken x
sends_good z limit base r k x _ f few (AtOpen may is) =
    let c = r.world.values.client in open_good z c.op c.taken limit base c k 0 c.live x f is
sends_good z limit base r k x _ f few (AtPush slotless pick ready h) =
    push_good z limit base r.world.values.client k _ slotless _ x f few h
sends_good z limit base r k x _ f few (AtResponse place d y at on heard fine h) =
    let c = r.world.values.client in
    let n = (r.world.wires k).client_end in
    dialog_good z c.op c.taken limit base c k (r.world.values.conns k).next_id (dialog_reply r.world n.stage y) n.stage y.header.status f x h

good_on : (z : WorldSettings) (limit : ℕ) (t : Watched) (e : RepeatEvent) → limit < 2 ^ 64 → GivenLow t.repeating e → Sound z limit t
    → (let c = (repeat_happens z t.repeating e).world.values.client in AllGood z c.op c.taken (repeat_happens z t.repeating e).ups)
good_on z limit t e few low s i u at = by (event_sending z t.repeating e (let g = s.grounds in g.empties) i u at)
  where
    before : ((j : ℕ) × (slice_get t.repeating.ups j ≡ Some u))
        ⊎ (SendsAt z t.repeating u.connection u.sent e × (u.opening ≡ (repeat_happens z t.repeating e).openings u.connection))
        → GoodSend z t.repeating.world.values.client.op t.repeating.world.values.client.taken u.sent
    before (inl o) = s.good o.0 u o.1
    before (inr n) = sends_good z limit (base_of t.repeating.world.values.client) t.repeating u.connection u.sent e s.fit few n.0

    by : ((j : ℕ) × (slice_get t.repeating.ups j ≡ Some u))
        ⊎ (SendsAt z t.repeating u.connection u.sent e × (u.opening ≡ (repeat_happens z t.repeating e).openings u.connection))
        → (let c = (repeat_happens z t.repeating e).world.values.client in GoodSend z c.op c.taken u.sent)
    by q =
        let old = t.repeating.world.values.client in
        let c = (repeat_happens z t.repeating e).world.values.client in
        let f = event_fit (identity_of z) limit (base_of old) z t.repeating e low s.fit in
        good_kept z old.op c.op old.taken c.taken u.sent f.grown f.same (before q)

sound_on : (z : WorldSettings) (limit : ℕ) (t : Watched) (e : RepeatEvent) → z.client.ciphers ≡ [] → limit < 2 ^ 64 → GivenLow t.repeating e
    → Sound z limit t → Sound z (limit_at e limit) (watched_happens z t e)
sound_on z limit t e c few low s =
    let is = event_watched z t e in
    let v = repeat_happens z t.repeating e in
    let old = t.repeating.world.values.client in
    let f = event_fit (identity_of z) limit (base_of old) z t.repeating e low s.fit in
    record {
      grounds = grounds_on z t e c s.grounds;
      fit = subst (λ (r : RepeatWorld). Fit (identity_of z) (limit_at e limit) (base_of r.world.values.client) r.world.values.client) (sym is)
          (based (identity_of z) (limit_at e limit) (base_of old) v.world.values.client f);
      good = subst (λ (r : RepeatWorld). AllGood z r.world.values.client.op r.world.values.client.taken r.ups) (sym is)
          (good_on z limit t e few low s);
    }

-- ---- what is given to a client's end

is_heard_in : (b : Bool) (x y : HeardMessage) → (if b then Some x else None) ≡ Some y → y ≡ x
is_heard_in true x y e = let q : Some x ≡ Some y = e in cc
is_heard_in false x y e = absurd (let q : None ≡ Some y = e in cc)

and_off : (a : Bool) → (a && false) ≡ false
and_off true = refl
and_off false = refl

dialog_reads : (n : ClientEnd) (s : Stage) (frame : List ℕ) (y : HeardMessage) → n.encrypts ≡ false → dialog_response n s frame ≡ Some y
    → y ≡ heard_in frame
dialog_reads n s frame y bare e =
    let off : (is_asked s && n.encrypts) ≡ false = ap (λ b. is_asked s && b) bare ∙ and_off (is_asked s) in
    is_heard_in (has_header frame) (heard_in frame) y
    (sym (ap (λ b. response_in (if b then opened n.keys false frame else Some frame)) off) ∙ e)

dialog_low : (n : ClientEnd) (frame : List ℕ) → n.encrypts ≡ false → TellsLow frame → DialogLow n frame
dialog_low n frame bare low s y e =
    subst (λ (x : HeardMessage). (let h = x.header in (h.session < 256 ^ 8) × (h.tree < 256 ^ 4))) (sym (dialog_reads n s frame y bare e)) low

-- a create's own request is a CREATE
create_asked : (op : Op) (guid file slot number : ℕ) → is_create op ≡ true
    → (r : CreateRequest) × (request_of op guid file slot number ≡ Create r)
create_asked (OpCreate path access share disposition persist directory) guid file slot number on = (_, refl)
create_asked (OpWrite create at bytes) guid file slot number on = absurd (cc)
create_asked (OpRead create at size) guid file slot number on = absurd (cc)
create_asked (OpEnd create size) guid file slot number on = absurd (cc)
create_asked (OpTime create time) guid file slot number on = absurd (cc)
create_asked (OpRename create path) guid file slot number on = absurd (cc)
create_asked (OpRemove create) guid file slot number on = absurd (cc)
create_asked (OpLock create at n exclusive) guid file slot number on = absurd (cc)
create_asked (OpUnlock create at n) guid file slot number on = absurd (cc)
create_asked (OpFlush create) guid file slot number on = absurd (cc)
create_asked (OpStat create) guid file slot number on = absurd (cc)
create_asked (OpList create) guid file slot number on = absurd (cc)
create_asked (OpClose create) guid file slot number on = absurd (cc)

small_id : (a r : ℕ) → r < 4294967295 → a ≤ id_of (1 + r) max_ids → a < 256 ^ 8
small_id a r few l = omega (arith, few, l)

abbrev Said : WorldSettings → World → ℕ → Frame → Checked → Message → Command → List ℕ
Said z w k x c m command =
    said_text false false
    (said_to z.server k w.values.moment (take 8 (draw z.seed w.draws)) x.server_end w.logons x.server_end.window c command
    (answer_to w.values.server w.values.moment m command))

said_keeps : (z : WorldSettings) (w : World) (k : ℕ) (x : Frame) (c : Checked) (m : Message) (r : CreateRequest) → m.command ≡ Create r
    → is_negotiate c.header ≡ false → id_in (step w.values.server w.values.moment (Heard m)).reply.body < 256 ^ 8
    → KeepsLow (said_text false false (answer_said z w k x c m))
said_keeps z w k x c m r e off low =
    subst (λ command. KeepsLow (Said z w k x c m command)) (sym e)
    (answer_low _ z.server.guid x.server_end.salt w.values.moment c _ _ _ _ r (step w.values.server w.values.moment (Heard m)).reply off low)

one_message : (a b : Message) (o : Option Message) → o ≡ Some a → o ≡ Some b → a ≡ b
one_message a b o e f = let q : Some a ≡ Some b = sym e ∙ f in cc

never_dialog : (g : ℕ) → ForOp g ≡ ForDialog → ⊥
never_dialog g e = absurd (cc)

less_restarts : (a b : ℕ) → a ≤ b → b < 4294967295 → a < 4294967295
less_restarts a b l m = omega (arith, l, m)

line_low : AreHeadersLawful → AreCommandsLawful → TreeFacts → (z : WorldSettings) (es : List RepeatEvent) (k place limit : ℕ) (d : DownFrame)
    → IsFitting z → SignsAlone z → AllSigned z es (watching (repeat_start z)) → EventSigned z (watched_to z es) (Give k false place)
    → restarts_in (own_events es) < 4294967295 → Sound z limit (watched_to z es) → slice_get (watched_to z es).repeating.downs place ≡ Some d
    → is_heard (watched_to z es).repeating.world k ≡ true
    → LineLow ((watched_to z es).repeating.world.wires k).client_end (watched_to z es).repeating.world.values.client d.frame
line_low heads law trees z es k place limit d fitting alone all now few s at heard y g apart taken waits on =
    let t = watched_to z es in
    let same : t.repeating ≡ repeated z es = watches_run z es (watching (repeat_start z)) in
    let c = t.repeating.world.values.client in
    let n = (t.repeating.world.wires k).client_end in
    let lines = lines_of z c.op c.taken t.repeating s.good in
    let a = taken_are_awaited heads law trees z es k place d y (ForOp g) fitting alone all now lines at heard apart taken waits (never_dialog g) in
    let w = a.answered in
    let q = w.answer in
    let b = watched_to z w.before in
    let h = a.own in
    let m = q.message in
    let u = h.put in
    let given = put_before z es w.before (Give w.k true w.place ∷ w.after) h.index u w.run h.at in
    let good = s.good h.index u (subst (λ (r : RepeatWorld). slice_get r.ups h.index ≡ Some u) (sym same) given) in
    let o = good.own g a.token in
    let fits : FitsRequest z u.sent.message =
    good.fits (op_line u.sent.token u.sent.message.command (λ e. never_dialog g (sym a.token ∙ e))) in
    let create = create_asked (c.op g) o.guid o.file o.slot o.number on in
    let is = one_message m _ _ q.heard (h.heard fits) in
    let command : m.command ≡ Create create.0 = ap (λ (x : Message). x.command) is ∙ (o.command ∙ create.1) in
    let holds = run_fine z w.before (watching (repeat_start z)) alone.offered (signing.start_holds z) in
    let header = asked_header heads z b w.k w.place a.entry holds q h.index u h.at h.frame fits in
    let there : b.repeating ≡ repeated z w.before = watches_run z w.before (watching (repeat_start z)) in
    let r = restarts_in (own_events w.before) in
    let epoch : b.repeating.world.values.server.epoch ≤ 1 + r =
    subst (λ (v : RepeatWorld). v.world.values.server.epoch ≤ 1 + r) (sym there) (epochs_low z w.before alone.offered) in
    let stand = servers_stand z w.before alone.offered in
    let sound = subst (λ (v : RepeatWorld). Fits v.world.values.server) (sym there) stand.fits in
    let id = create_low (1 + r) b.repeating.world.values.server b.repeating.world.values.moment m create.0 command epoch sound in
    let fewer : r < 4294967295 =
    less_restarts r (restarts_in (own_events es))
    (subst (λ l. r ≤ restarts_in (own_events l)) (sym w.run) (front_restarts w.before (Give w.k true w.place ∷ w.after))) few in
    let keeps : KeepsLow d.frame =
    subst KeepsLow (sym q.text ∙ a.text)
    (said_keeps z b.repeating.world w.k q.frame q.checked m create.0 command header.greets_not (small_id _ r fewer id)) in
    let plain = (let gr = s.grounds in let hs = gr.holds in hs.plain) in
    let ends = plain.world.0 k in
    let read : y ≡ heard_in d.frame = line_reads n d.frame y ends.ends.bare taken in
    own_heard (c.op g) y.header y.bytes on (subst KeepsLow (sym (ap (λ (x : HeardMessage). x.bytes) read)) keeps)

down_low : AreHeadersLawful → AreCommandsLawful → TreeFacts → (z : WorldSettings) (es : List RepeatEvent) (k place limit : ℕ) (d : DownFrame)
    → IsFitting z → SignsAlone z → AllSigned z es (watching (repeat_start z)) → EventSigned z (watched_to z es) (Give k false place)
    → restarts_in (own_events es) < 4294967295 → Sound z limit (watched_to z es) → slice_get (watched_to z es).repeating.downs place ≡ Some d
    → is_heard (watched_to z es).repeating.world k ≡ true
    → LineLow ((watched_to z es).repeating.world.wires k).client_end (watched_to z es).repeating.world.values.client d.frame
    × DialogLow ((watched_to z es).repeating.world.wires k).client_end d.frame
down_low heads law trees z es k place limit d fitting alone all now few s at on =
    let g = s.grounds in
    let plain = (let hs = g.holds in hs.plain) in
    let ends = plain.world.0 k in (
      line_low heads law trees z es k place limit d fitting alone all now few s at on,
      dialog_low ((watched_to z es).repeating.world.wires k).client_end d.frame ends.ends.bare (g.low place d at),
    )

given_low : AreHeadersLawful → AreCommandsLawful → TreeFacts → (z : WorldSettings) (es : List RepeatEvent) (limit : ℕ) (e : RepeatEvent)
    → IsFitting z → SignsAlone z → AllSigned z es (watching (repeat_start z)) → EventSigned z (watched_to z es) e
    → restarts_in (own_events es) < 4294967295 → Sound z limit (watched_to z es) → GivenLow (watched_to z es).repeating e
given_low heads law trees z es limit (Same e) fitting alone all now few s = tt
given_low heads law trees z es limit (Give k true place) fitting alone all now few s = tt
given_low heads law trees z es limit (Give k false place) fitting alone all now few s =
    λ d at on. down_low heads law trees z es k place limit d fitting alone all now few s at on

-- ---- a run

watched_snoc : (z : WorldSettings) (es : List RepeatEvent) (e : RepeatEvent) (t : Watched)
    → watched_run z (es ++ e ∷ []) t ≡ watched_happens z (watched_run z es t) e
unfolding watched_run
watched_snoc z [] e t = refl
watched_snoc z (x ∷ es) e t = watched_snoc z es e (watched_happens z t x)

pub front_signed : (z : WorldSettings) (a b : List RepeatEvent) (t : Watched) → AllSigned z (a ++ b) t → AllSigned z a t
front_signed z [] b t all = tt
front_signed z (e ∷ a) b t all = (all.0, front_signed z a b (watched_happens z t e) all.1)

few_left : (n s : ℕ) → n + s < 2 ^ 64 → n < 2 ^ 64
few_left n s l = omega (arith, l)

with_nothing : (es : List RepeatEvent) → es ++ [] ≡ es
with_nothing [] = refl
with_nothing (e ∷ es) = ap (λ l. e ∷ l) (with_nothing es)

abbrev FitAt : WorldSettings → Watched → Type 0
FitAt z t = (limit : ℕ) × Sound z limit t

run_sound : AreHeadersLawful → AreCommandsLawful → TreeFacts → (z : WorldSettings) → IsFitting z → SignsAlone z
    → (es front rest : List RepeatEvent) (limit : ℕ) → es ≡ front ++ rest → AllSigned z es (watching (repeat_start z))
    → restarts_in (own_events es) < 4294967295 → limit + submits_in (own_events rest) < 2 ^ 64 → Sound z limit (watched_to z front)
    → FitAt z (watched_to z es)
run_sound heads law trees z fitting alone es front [] limit is all few room s =
    (limit, subst (λ l. Sound z limit (watched_to z l)) (sym (is ∙ with_nothing front)) s)
run_sound heads law trees z fitting alone es front (e ∷ rest) limit is all few room s =
    let start = watching (repeat_start z) in
    let signed = subst (λ l. AllSigned z l start) is all in
    let now = signed_at z front e rest start signed in
    let before = front_signed z front (e ∷ rest) start signed in
    let fewer : restarts_in (own_events front) < 4294967295 =
    less_restarts (restarts_in (own_events front)) (restarts_in (own_events es))
    (subst (λ l. restarts_in (own_events front) ≤ restarts_in (own_events l)) (sym is) (front_restarts front (e ∷ rest))) few in
    let low = given_low heads law trees z front limit e fitting alone before now fewer s in
    let next : Sound z (limit_at e limit) (watched_to z (front ++ e ∷ [])) =
    subst (Sound z (limit_at e limit)) (sym (watched_snoc z front e start))
    (sound_on z limit (watched_to z front) e alone.offered (few_left limit (submits_in (own_events (e ∷ rest))) room) low s) in
    run_sound heads law trees z fitting alone es (front ++ e ∷ []) rest (limit_at e limit)
    (is ∙ sym (append_assoc front (e ∷ []) rest)) all few (room_on e limit rest room) next

start_sound : (z : WorldSettings) → Sound z 0 (watching (repeat_start z))
start_sound z =
    record {
      grounds = start_grounds z;
      fit = record {
        own = refl;
        sequence = omega arith;
        session = omega arith;
        pending = omega arith;
        tree = omega arith;
        kept = λ g low up. absurd (omega (arith, low, up));
        creates = λ g low up off. absurd (omega (arith, low, up));
        slots = λ g. omega arith;
        numbers = λ g. omega arith;
        files = λ g. omega arith;
        count = omega arith;
        grown = omega arith;
        same = λ g low up. refl;
      };
      good = λ i u at. absurd (none_in [] i u refl at);
    }

at_start : (z : WorldSettings) → watching (repeat_start z) ≡ watched_to z []
unfolding watched_run
at_start z = refl

room_first : (n : ℕ) → n < 2 ^ 64 → 0 + n < 2 ^ 64
room_first n l = omega (arith, l)

sound_at : AreHeadersLawful → AreCommandsLawful → TreeFacts → (z : WorldSettings) (es : List RepeatEvent) → SignsAlone z → IsBounded z es
    → AllSigned z es (watching (repeat_start z)) → FitAt z (watched_to z es)
sound_at heads law trees z es alone bounds all =
    run_sound heads law trees z bounds.fitting alone es [] es 0 refl all bounds.restarts
    (room_first (submits_in (own_events es)) bounds.submits) (subst (Sound z 0) (at_start z) (start_sound z))

-- each frame was put for the client's own ClientGuid
pub own_clients : AreHeadersLawful → AreCommandsLawful → TreeFacts → (z : WorldSettings) (es : List RepeatEvent) → SignsAlone z → IsBounded z es
    → AllSigned z es (watching (repeat_start z)) → (i : ℕ) (u : UpFrame) → slice_get (repeated z es).ups i ≡ Some u
    → u.sent.message.client_guid ≡ number_of z.client.guid
own_clients heads law trees z es alone bounds all i u at =
    let q = sound_at heads law trees z es alone bounds all in
    let s = q.1 in
    let g = s.good i u (subst (λ (r : RepeatWorld). slice_get r.ups i ≡ Some u) (sym (watches_run z es (watching (repeat_start z)))) at) in
    g.client

pub own_lines_fit : AreHeadersLawful → AreCommandsLawful → TreeFacts → OwnLinesFit
own_lines_fit heads law trees z es alone bounds all =
    let t = watched_to z es in
    let c = t.repeating.world.values.client in
    let q = sound_at heads law trees z es alone bounds all in
    let s = q.1 in
    subst (LinesFit z) (watches_run z es (watching (repeat_start z))) (lines_of z c.op c.taken t.repeating s.good)
