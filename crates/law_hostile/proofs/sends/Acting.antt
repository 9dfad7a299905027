-- Where nothing is forged, what acts for an operation is its own message, which the model's client sent.
use Rattle.std.proofs.Common.{◌≡◌, ℕ, suc, ◌==◌, ◌&&◌, ◌||◌, Bool, true, false, if◌then◌else◌, List, [], ◌∷◌, ◌⊎◌, inl, inr, refl, sym}
use Rattle.std.proofs.Common.{◌∙◌, ap, subst, take, Option, Some, None, is_some, slice_get, Ok, Err, eqb-true}
use Rattle.law_server.proofs.tables.Logic.{front_of, back_of}
use Rattle.spec_wire.specs.messages.Places.{number}
use Rattle.spec_exchange.specs.Content.{same_bytes}
use Rattle.spec_exchange.proofs.Content.{same_bytes-true}
use Rattle.spec_exchange.specs.State.{Server, Message, Heard, Answer}
use Rattle.spec_exchange.specs.Step.{step}
use Rattle.spec_exchange.specs.Runs.{is_send_of}
use Rattle.spec_exchange.specs.Network.{Token, ForDialog, ForOp, ForAttach, answer_to, untouched}
use Rattle.spec_world.specs.Settings.{WorldSettings, draw}
use Rattle.spec_world.specs.Messages.{header_in}
use Rattle.spec_world.specs.Ends.{ConnEnd}
use Rattle.spec_world.specs.Hearing.{Checked, check_frame, is_probe}
use Rattle.spec_world.specs.Connection.{step_of}
use Rattle.spec_world.specs.World.{Wires, step_at}
use Rattle.spec_hostile.specs.RepeatRuns.{RepeatWorld, RepeatEvent, Give, UpFrame, is_served, loaded_up, given_up, give_up, repeat_happens, repeat_start}
use Rattle.spec_hostile.specs.SignedFor.{watching}
use Rattle.spec_hostile.specs.HostileNetwork.{SignsAlone, IsBounded, repeated, put_acts, took_acts, is_own_send}
use Rattle.law_ties.specs.wire_facts.Lawful.{AreHeadersLawful, AreCommandsLawful, TreeFacts}
use Rattle.law_hostile.specs.unforged.Unforged.{AllSigned, EventSigned}
use Rattle.law_hostile.specs.placed.Placed.{GivesMessage, watched_to}
use Rattle.law_hostile.specs.ids.OwnIds.{id_of_put}
use Rattle.law_hostile.specs.greeted.Greeted.{RequestsAreTheClients}
use Rattle.law_hostile.specs.sends.HeardSends.{IsHeardSend}
use Rattle.law_hostile.specs.sends.ActsSends.{answer_at, ActsAsSend, ActsAreSends}
use Rattle.law_hostile.proofs.acts.Faulty.{faulty_acts_not}
use Rattle.law_hostile.proofs.puts.Growing.{watches_run}
use Rattle.law_hostile.proofs.puts.Replies.{wires_loaded}
use Rattle.law_hostile.proofs.ids.Frames.{own_frames_bear, own_requests_meant}
use Rattle.law_hostile.proofs.ids.PlainRuns.{own_frames_plain}
use Rattle.law_hostile.proofs.finals.Fine.{heard_fault}
use Rattle.law_hostile.proofs.finals.Signing as signing
use Rattle.law_hostile.proofs.greeted.Greeting.{AllFine}
use Rattle.law_hostile.proofs.loosely.Giving.{step_given}
use Rattle.law_hostile.proofs.ended.Given.{HearsOne, StepsUp, steps_up}
use Rattle.law_hostile.proofs.ended.Moving.{answer_is}
use Rattle.law_hostile.proofs.replied.Owning.{run_fine}
use Rattle.law_hostile.proofs.replied.Responses.{IsLineHeader, meant_header}
use Rattle.law_hostile.proofs.replied.Awaiting.{one_put, op_line}
use Rattle.law_hostile.proofs.sends.Lines.{own_lines_fit}
use Rattle.law_hostile.proofs.sends.Meaning.{heard_sends}

-- ---- the operation's own message among what was put

send_is : (g : ℕ) (t : Token) → is_send_of g t ≡ true → t ≡ ForOp g
send_is g ForDialog e = absurd (let q : false ≡ true = e in cc)
send_is g (ForOp h) e = ap ForOp (eqb-true h g e)
send_is g (ForAttach h) e = absurd (let q : false ≡ true = e in cc)

record Found (k n g : ℕ) (m : List ℕ) (us : List UpFrame) : Type 0 where
  index : ℕ
  put : UpFrame
  at : slice_get us index ≡ Some put
  connection : put.connection ≡ k
  opening : put.opening ≡ n
  token : put.sent.token ≡ ForOp g
  frame : put.frame ≡ m

either_on : (a b : Bool) → (a || b) ≡ true → (a ≡ true) ⊎ (b ≡ true)
either_on true b e = inl refl
either_on false b e = inr e

found_later : (k n g : ℕ) (m : List ℕ) (u : UpFrame) (us : List UpFrame) → Found k n g m us → Found k n g m (u ∷ us)
found_later k n g m u us f =
    record {
      index = suc f.index;
      put = f.put;
      at = f.at;
      connection = f.connection;
      opening = f.opening;
      token = f.token;
      frame = f.frame;
    }

own_found : (k n g : ℕ) (m : List ℕ) (us : List UpFrame) → is_own_send k n g m us ≡ true → Found k n g m us
unfolding is_own_send
own_found k n g m [] e = absurd (let q : false ≡ true = e in cc)
own_found k n g m (u ∷ us) e =
    by (λ rest. own_found k n g m us rest)
    (either_on ((u.connection == k) && ((u.opening == n) && (is_send_of g u.sent.token && same_bytes u.frame m))) (is_own_send k n g m us) e)
  where
    by : (is_own_send k n g m us ≡ true → Found k n g m us)
        → (((u.connection == k) && ((u.opening == n) && (is_send_of g u.sent.token && same_bytes u.frame m))) ≡ true)
        ⊎ (is_own_send k n g m us ≡ true) → Found k n g m (u ∷ us)
    by f (inr rest) = found_later k n g m u us (f rest)
    by f (inl on) =
        let c = u.connection == k in
        let o = u.opening == n in
        let t = is_send_of g u.sent.token in
        let b = same_bytes u.frame m in
        let p = back_of c (o && (t && b)) on in
        let q = back_of o (t && b) p in
        record {
          index = 0;
          put = u;
          at = refl;
          connection = eqb-true u.connection k (front_of c (o && (t && b)) on);
          opening = eqb-true u.opening n (front_of o (t && b) p);
          token = send_is g u.sent.token (front_of t b q);
          frame = same_bytes-true u.frame m (back_of t b q);
        }

-- ---- what the event needs to act

record Acts (z : WorldSettings) (r : RepeatWorld) (k place g : ℕ) : Type 0 where
  given : UpFrame
  at : slice_get r.ups place ≡ Some given
  served : is_served r.world k ≡ true
  own : Found k (r.openings k) g given.frame r.ups
  acted : took_acts (step_at z (loaded_up r k given) k given.frame).taken ≡ true

acts_by : (z : WorldSettings) (r : RepeatWorld) (k place g : ℕ) (o : Option UpFrame) → slice_get r.ups place ≡ o → put_acts z r k o g ≡ true
    → Acts z r k place g
acts_by z r k place g None at e = absurd (let q : false ≡ true = e in cc)
acts_by z r k place g (Some u) at e =
    let s = is_served r.world k in
    let o = is_own_send k (r.openings k) g u.frame r.ups in
    let a = took_acts (step_at z (loaded_up r k u) k u.frame).taken in
    let p = back_of s (o && a) e in
    record {
      given = u;
      at = at;
      served = front_of s (o && a) e;
      own = own_found k (r.openings k) g u.frame r.ups (front_of o a p);
      acted = back_of o a p;
    }

-- ---- the step

refused_none : (z : WorldSettings) (r : RepeatWorld) (k : ℕ) (u : UpFrame) (why : ConnEnd)
    → check_frame (r.world.wires k).server_end u.frame ≡ Err why → (step_at z (loaded_up r k u) k u.frame).taken ≡ None
refused_none z r k u why refused =
    let w = loaded_up r k u in
    let bad : check_frame (w.wires k).server_end u.frame ≡ Err why =
    ap (λ (v : Wires). check_frame v.server_end u.frame) (wires_loaded r k u) ∙ refused in
    ap (λ q. (step_of z.server k w.values.moment (take 8 (draw z.seed w.draws)) w.values.server w.logons (w.wires k).server_end q).taken) bad

-- a message with a fault doesn't act
fault_none : (s : Server) (now : ℕ) (m : Message) → (answer_to s now m m.command).acted ≡ true → m.fault ≡ None
fault_none s now m on = by m.fault refl
  where
    faulty : (status : ℕ) → m.fault ≡ Some status
        → ((n : ℕ) × (answer_to s now m m.command ≡ untouched s m n))
        ⊎ (answer_to s now m m.command ≡ step s now (Heard m)) → ⊥
    faulty status e (inl q) = absurd (let h : true ≡ false = sym on ∙ ap (λ (A : Answer). A.acted) q.1 in cc)
    faulty status e (inr q) =
        absurd (let h : true ≡ false = sym on ∙ (ap (λ (A : Answer). A.acted) q ∙ faulty_acts_not s now m (ap is_some e)) in cc)

    by : (o : Option ℕ) → m.fault ≡ o → m.fault ≡ None
    by None e = e
    by (Some status) e = absurd (faulty status e (answer_is s now m m.command))

one_message : (a b : Message) (o : Option Message) → o ≡ Some a → o ≡ Some b → a ≡ b
one_message a b o e f = let q : Some a ≡ Some b = sym e ∙ f in cc

if_served : (z : WorldSettings) (r : RepeatWorld) (k place : ℕ) (u : UpFrame) → slice_get r.ups place ≡ Some u → is_served r.world k ≡ true
    → repeat_happens z r (Give k true place) ≡ given_up z r k u
if_served z r k place u at on =
    ap (λ o. give_up z r k o) at ∙ ap (λ b. if b then given_up z r k u else r) on

never_dialog : (g : ℕ) → ForOp g ≡ ForDialog → ⊥
never_dialog g e = absurd (cc)

heard_acts : AreHeadersLawful → AreCommandsLawful → TreeFacts → RequestsAreTheClients → (z : WorldSettings) (es : List RepeatEvent)
    (k place g : ℕ) → SignsAlone z → IsBounded z es → AllSigned z es (watching (repeat_start z))
    → EventSigned z (watched_to z es) (Give k true place) → (a : Acts z (repeated z es) k place g) → HearsOne z (repeated z es) k a.given
    → ActsAsSend z es k place g
heard_acts heads law trees clients z es k place g alone bounds all now a h =
    let start = watching (repeat_start z) in
    let t = watched_to z es in
    let r = repeated z es in
    let same : t.repeating ≡ r = watches_run z es start in
    let u = a.given in
    let own = a.own in
    let c = h.checked in
    let m = h.message in
    let v = r.world.values in
    let S = step_given z r k u h.frame c m h.checks h.plain h.alone h.heard in
    let acted : (answer_at v m).acted ≡ true = sym (ap took_acts S.taken) ∙ a.acted in
    let none : m.fault ≡ None = fault_none v.server v.moment m acted in
    let fine = heard_fault z.server r.world.logons k h.frame.server_end c m h.heard ∙ none in
    let bare = own_frames_plain z es own.index own.put alone.offered own.at in
    let bears = own_frames_bear z es own.index own.put own.at bare in
    let request = own_requests_meant z es own.index own.put own.at bare in
    let line = op_line own.put.sent.token own.put.sent.message.command (λ e. never_dialog g (sym own.token ∙ e)) in
    let fits = own_lines_fit heads law trees z es alone bounds all own.index own.put own.at line in
    let head : header_in own.put.frame ≡ c.header = ap header_in own.frame ∙ sym (ap (λ (d : Checked). d.header) h.is) in
    let header : IsLineHeader c.header =
    subst IsLineHeader head
    (meant_header heads z own.put.sent.message own.put.frame fits request.id_fits request.meant bears.alone) in
    let probe : is_probe c.header c.raw ≡ false = ap (λ b. b && (number 8 c.raw 40 == 0)) header.asks_not in
    let gives : GivesMessage t k place c = record {
      put = u;
      at = subst (λ (q : RepeatWorld). slice_get q.ups place ≡ Some u) (sym same) a.at;
      served = subst (λ (q : RepeatWorld). is_served q.world k ≡ true) (sym same) a.served;
      frame = h.frame;
      heard = subst (λ (q : RepeatWorld). check_frame (q.world.wires k).server_end u.frame ≡ Ok h.frame) (sym same) h.checks;
      plain = h.plain;
      index = 0;
      message = ap (λ l. slice_get l 0) h.alone;
    } in
    let s : IsHeardSend z es r.world.logons k h.frame c =
    heard_sends heads law trees clients z es k place c r.world.logons alone bounds all now gives fine header.greets_not header.sets_not probe in
    let raw : c.raw ≡ u.frame = ap (λ (d : Checked). d.raw) h.is in
    let frame : s.put.frame ≡ own.put.frame = s.frame ∙ (raw ∙ sym own.frame) in
    let plain = own_frames_plain z es s.index s.put alone.offered s.at in
    let told = own_frames_bear z es s.index s.put s.at plain in
    let ids : id_of_put s.put ≡ id_of_put own.put =
    sym told.id_is ∙ (ap (λ f. (header_in f).message) frame ∙ bears.id_is) in
    let one : s.put ≡ own.put =
    one_put z es s.index own.index s.put own.put s.at own.at (s.connection ∙ sym own.connection) (s.opening ∙ sym own.opening) ids in
    let is : m ≡ s.put.sent.message = one_message m s.put.sent.message _ h.heard s.heard in
    record {
      given = u;
      at = a.at;
      index = s.index;
      put = s.put;
      there = s.at;
      frame = s.frame ∙ raw;
      connection = s.connection;
      opening = s.opening;
      token = ap (λ (x : UpFrame). x.sent.token) one ∙ own.token;
      sent = s.sent;
      acted = ap (λ x. (answer_at v x).acted) (sym is) ∙ acted;
      server = ap (λ (q : RepeatWorld). q.world.values.server) (if_served z r k place u a.at a.served)
          ∙ ((let q = h.took in q.server) ∙ ap (λ x. (answer_at v x).server) is);
    }

pub acts_sends : AreHeadersLawful → AreCommandsLawful → TreeFacts → RequestsAreTheClients → ActsAreSends
acts_sends heads law trees clients z es k place g alone bounds all now e =
    by (acts_by z (repeated z es) k place g (slice_get (repeated z es).ups place) refl e)
  where
    stepped : (a : Acts z (repeated z es) k place g) → StepsUp z (repeated z es) k a.given → ActsAsSend z es k place g
    stepped a (inl q) =
        absurd (let h : false ≡ true = sym (ap took_acts (refused_none z (repeated z es) k a.given q.0 q.1)) ∙ a.acted in cc)
    stepped a (inr h) = heard_acts heads law trees clients z es k place g alone bounds all now a h

    by : Acts z (repeated z es) k place g → ActsAsSend z es k place g
    by a =
        let start = watching (repeat_start z) in
        let holds = run_fine z es start alone.offered (signing.start_holds z) in
        let fine : AllFine z (watched_to z es).repeating = (holds.bear, holds.plain) in
        stepped a (steps_up z (repeated z es) k place a.given (subst (AllFine z) (watches_run z es start) fine) a.at a.served)
