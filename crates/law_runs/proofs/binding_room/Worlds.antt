-- What each event keeps of the numbers that were drawn and of the channels that have one.
use Rattle.std.proofs.Common.{◌≡◌, ℕ, ◌+◌, ◌<◌, ◌≤◌, ◌^◌, Bool, true, false, List, [], ◌∷◌, refl, sym, ap}
use Rattle.std.proofs.Common.{◌∙◌, subst, arith, Option, Some, None}
use Rattle.spec_exchange.specs.Table.{put}
use Rattle.spec_exchange.specs.State.{Server, Record, NewSession}
use Rattle.spec_exchange.specs.Fold.{recovered_from}
use Rattle.spec_exchange.specs.Opens.{id_of}
use Rattle.spec_exchange.specs.Network.{World as Values, Sent, answer, serve_front}
use Rattle.spec_wire.specs.credits.Exchange.{NothingIsRefused}
use Rattle.law_records.proofs.recovery.Restarts.{restarted}
use Rattle.spec_world.specs.Settings.{WorldSettings}
use Rattle.spec_world.specs.Ends.{ServerEnd, Logons, ConnEnd}
use Rattle.spec_world.specs.Hearing.{behind_turn, checked_as}
use Rattle.spec_world.specs.Connection.{told_of, LastTaken}
use Rattle.spec_world.specs.World.{World, Wires, step_at, answered_wires, served_by, serve_frame, absorb_frame}
use Rattle.spec_world.specs.World.{values_took, restarted_wires}
use Rattle.law_ties.specs.wire_facts.Lawful.{IsLawful}
use Rattle.law_ties.specs.events.Links.{Waiting, Talks, Waits, Comes, Lost, is_lined, IsTied}
use Rattle.law_ties.proofs.events.Serving.{told_at, said_values}
use Rattle.law_ties.specs.requests.Lines.{is_lines}
use Rattle.law_ties.proofs.requests.Line.{fresh_of, checked_of, served as served_line}
use Rattle.law_dialogs.specs.dialog_requests.Serving.{IsDialogFront}
use Rattle.law_dialogs.proofs.dialog_requests.Sparing.{session_at}
use Rattle.law_dialogs.proofs.dialog_requests.Step.{progress_by, text_by, logons_by, served as served_dialog}
use Rattle.law_dialogs.proofs.dialog_requests.Front.{shared_at}
use Rattle.law_dialogs.proofs.dialog_requests.Serve.{plain_front, read_as, AloneTied, Fronted, fronted, front_is}
use Rattle.law_nonces.proofs.negotiation.Making.{FaultFine}
use Rattle.law_nonces.specs.server_nonces.Numbering.{AreTables, NonceDraws, next_drawn, DrawsOn, key_sessions, NonceKeeps}
use Rattle.law_nonces.proofs.server_nonces.Drawing.{DrewBy, drew}
use Rattle.law_dialogs.proofs.runs.Supplied.{Supplies}
use Rattle.law_runs.proofs.accepted.Serves.{tied_alone, alone_up}
use Rattle.law_runs.proofs.sealed.Serves.{At, front_at, none_comes, Shuts}
use Rattle.law_runs.proofs.binding_room.Rooms.{RoomsOf, Rooms}
use Rattle.law_runs.proofs.binding_room.Serves.{next_grown, next_low, Given, given_behind, given_more, no_more}
use Rattle.law_runs.proofs.binding_room.Serves.{closed_few, line_few, dialog_few}

-- ---- the whole of a world, but for its client's dialogs

pub record Room (s : Server) (L : Logons) (session numbers : ℕ) (wires : ℕ → Wires) : Type 0 where
  pub drawn : ℕ → ℕ
  pub draws : NonceDraws s drawn
  pub low : (x : ℕ) → drawn x < 2 ^ 16
  pub given : Given L drawn
  pub few : Rooms drawn session numbers wires

abbrev pub RoomOf : World → Type 0
RoomOf w = Room w.values.server w.logons w.keys.session w.numbers w.wires

-- ---- what the front draws

-- behind the server's step, of the front x
pub record Draw (w : World) (x : Sent) (drawn : ℕ → ℕ) : Type 0 where
  pub by : DrewBy (answer w.values x).server x.message.session_id (progress_by w x) drawn (key_sessions w.logons)

draw_at : (w : World) (x : Sent) (drawn : ℕ → ℕ) → NonceKeeps w → NonceDraws w.values.server drawn
    → FaultFine x.message.fault → Draw w x drawn
draw_at w x drawn kept draws fine =
    let t = kept.tables in
    record {
      by = drew w.values.server w.values.moment x.message x.message.command drawn (key_sessions w.logons) refl fine
          t.fit draws kept.named;
    }

-- ---- the server behind it

server_behind : (v : Values) (k : ℕ) (x : Sent) (xs : List Sent) → (serve_front v k (x ∷ xs)).server ≡ (answer v x).server
server_behind v k x xs = refl

served_server : (z : WorldSettings) (w : World) (k : ℕ) (b : List ℕ) (bs : List (List ℕ)) (x : Sent) (xs : List Sent) → At z w k b x
    → (served_by w k bs xs x.token (step_at z w k b) (step_at z w k b).ends).values.server ≡ (answer w.values x).server
served_server z w k b bs x xs F =
    let a = F.asked in
    ap (λ (v : Values). v.server) (said_values w k bs x xs (step_at z w k b) (told_at z w k b x F.bill a.reads F.may))
    ∙ server_behind w.values k x xs

absorbed_server : (z : WorldSettings) (w : World) (k : ℕ) (b : List ℕ) (x : Sent) (xs : List Sent) → At z w k b x
    → (values_took w.values k x.token xs (step_at z w k b).taken).server ≡ (answer w.values x).server
absorbed_server z w k b x xs F =
    let a = F.asked in
    let t = told_at z w k b x F.bill a.reads F.may in
    ap (λ (o : Option LastTaken). (values_took w.values k x.token xs o).server) t.taken

-- ---- the front's step: what ends, what the logons and the wires are behind it

record Leaves (z : WorldSettings) (w : World) (k : ℕ) (b : List ℕ) (bs : List (List ℕ)) (x : Sent) (drawn : ℕ → ℕ) : Type 0 where
  ends : (step_at z w k b).ends ≡ None
  given : Given (step_at z w k b).logons (next_drawn drawn x.message.session_id (progress_by w x))
  few :
      Rooms (next_drawn drawn x.message.session_id (progress_by w x)) w.keys.session w.numbers
      (put w.wires k (answered_wires (w.wires k) (w.values.conns k).client_open (step_at z w k b).server_end bs (step_at z w k b).frames))

by_line : (z : WorldSettings) (w : World) (k : ℕ) (b : List ℕ) (bs : List (List ℕ)) (x : Sent) (drawn : ℕ → ℕ) → At z w k b x
    → is_lines x.message.command ≡ true → ((w.values.conns k).client_open ≡ true → is_lined (w.wires k).client_end.stage ≡ true)
    → Draw w x drawn → Given w.logons drawn → RoomsOf drawn w → Leaves z w k b bs x drawn
by_line z w k b bs x drawn F line lined d given few =
    let v = served_line z w k b x F.bill F.asked F.may line in
    let T = v.step in
    let y = x.message.session_id in
    let p = progress_by w x in
    let e = d.by in
    let grown = next_grown drawn y p e.on in
    record {
      ends = T.ends;
      given = subst (λ L. Given L (next_drawn drawn y p)) (sym T.logons) (given_more w.logons drawn (next_drawn drawn y p) grown given);
      few = line_few drawn (next_drawn drawn y p) w k bs (step_at z w k b) grown lined few (w.values.conns k).client_open refl;
    }

first_of : {X : Type 0} (a b : X) → a ∷ [] ≡ b ∷ [] → b ≡ a
first_of a b e = sym (let h : a ∷ [] ≡ b ∷ [] = e in cc)

few_by_talk : NothingIsRefused → (z : WorldSettings) → IsLawful z → (w : World) (k : ℕ) (b : List ℕ) (bs : List (List ℕ)) (x : Sent)
    (drawn : ℕ → ℕ) → IsTied z w → IsDialogFront z w k x [] → (t : AloneTied z w k b x) (G : Fronted z w k b x t.link.line)
    → (w.wires k).down ≡ [] → (step_at z w k b).frames ≡ text_by z w k G.asked.reads.heard x ∷ []
    → x.message.session_id ≡ G.asked.reads.heard.header.session → Draw w x drawn → RoomsOf drawn w
    → (w.values.conns k).client_open ≡ true → is_lined (w.wires k).client_end.stage ≡ false
    → Talks z (shared_at w) k true (w.wires k).client_end (w.wires k).server_end (b ∷ []) (w.wires k).down (x ∷ []) (w.values.conns k).down
    t.link.line (w.wires k).client_end.stage
    → Rooms (next_drawn drawn x.message.session_id (progress_by w x)) w.keys.session w.numbers
    (put w.wires k (answered_wires (w.wires k) true (step_at z w k b).server_end bs (step_at z w k b).frames))
few_by_talk held z law w k b bs x drawn i front t G empty frames told d few co off (Comes c v e1 e2 e3 e4 g) =
    absurd (let q : b ∷ [] ≡ [] = e1 in cc)
few_by_talk held z law w k b bs x drawn i front t G empty frames told d few co off (Lost e1 e2 e3 e4 e5) =
    absurd (let q : b ∷ [] ≡ [] = e1 in cc)
few_by_talk held z law w k b bs x drawn i front t G empty frames told d few co off (Waits c v e1 e2 e3 e4 g) =
    let n = (w.wires k).client_end in
    let f = (w.wires k).server_end in
    let l = t.link.line in
    let W : Waiting z (shared_at w) k n f b x l.grants n.stage =
    subst (λ m. Waiting z (shared_at w) k n f b m l.grants n.stage) (first_of x v e2)
    (subst (λ m. Waiting z (shared_at w) k n f m v l.grants n.stage) (first_of b c e1) (g refl)) in
    dialog_few z law drawn w k b bs x G.asked.reads.heard (front_is held z w k b x i front t G co off W) empty frames told d.by few

few_by_open : NothingIsRefused → (z : WorldSettings) → IsLawful z → (w : World) (k : ℕ) (b : List ℕ) (bs : List (List ℕ)) (x : Sent)
    (drawn : ℕ → ℕ) → IsTied z w → IsDialogFront z w k x [] → (t : AloneTied z w k b x) (G : Fronted z w k b x t.link.line)
    → (step_at z w k b).frames ≡ text_by z w k G.asked.reads.heard x ∷ [] → (w.wires k).down ≡ []
    → x.message.session_id ≡ G.asked.reads.heard.header.session → Draw w x drawn → RoomsOf drawn w → (o : Bool)
    → (w.values.conns k).client_open ≡ o
    → Rooms (next_drawn drawn x.message.session_id (progress_by w x)) w.keys.session w.numbers
    (put w.wires k (answered_wires (w.wires k) o (step_at z w k b).server_end bs (step_at z w k b).frames))
few_by_open held z law w k b bs x drawn i front t G frames empty told d few false co =
    let e = d.by in
    closed_few drawn (next_drawn drawn x.message.session_id (progress_by w x)) w k bs (step_at z w k b)
    (next_grown drawn x.message.session_id (progress_by w x) e.on) few
few_by_open held z law w k b bs x drawn i front t G frames empty told d few true co =
    let off = front.unlined co in
    few_by_talk held z law w k b bs x drawn i front t G empty frames told d few co off (t.talk co off)

by_dialog : NothingIsRefused → (z : WorldSettings) → IsLawful z → (w : World) (k : ℕ) (b : List ℕ) (bs : List (List ℕ)) (x : Sent)
    (drawn : ℕ → ℕ) → IsTied z w → (F : At z w k b x) → IsDialogFront z w k x [] → AloneTied z w k b x → (w.wires k).down ≡ []
    → Draw w x drawn → Given w.logons drawn → RoomsOf drawn w → Leaves z w k b bs x drawn
by_dialog held z law w k b bs x drawn i F front t empty d given few =
    let f = (w.wires k).server_end in
    let talk = front.talk in
    let G = fronted held z w k b x t in
    let a = G.asked in
    let r = a.reads in
    let h = r.heard in
    let plain = plain_front z w.logons k f b x G.bill a talk.own talk.talks in
    let T = served_dialog z w k b x G.bill a G.may plain in
    let y = x.message.session_id in
    let p = progress_by w x in
    let c = checked_as f r.sealed false true h in
    let told : y ≡ h.header.session = session_at (told_of z.server w.logons k f c) h.header h.bytes x.message
    (read_as z w.logons k f b x G.bill a) in
    let e = d.by in
    let more = next_drawn drawn y p in
    let logons : Given (logons_by z w k h x) more =
    subst (λ s. Given (logons_by z w k h x) (next_drawn drawn s p)) (sym told)
    (given_behind z.server.users w.logons k (behind_turn f h.header) (checked_of w k false h) (fresh_of z w) w.values.moment p drawn
    (subst (λ s. DrawsOn drawn s p) told e.on) given) in
    record {
      ends = T.ends;
      given = subst (λ L. Given L more) (sym T.logons) logons;
      few = few_by_open held z law w k b bs x drawn i front t G T.frames empty told d few (w.values.conns k).client_open refl;
    }

leaves : NothingIsRefused → (z : WorldSettings) → IsLawful z → (w : World) → IsTied z w → Supplies z w → Shuts w → (k : ℕ) (b : List ℕ)
    (bs : List (List ℕ)) (x : Sent) (xs : List Sent) (drawn : ℕ → ℕ) → (w.values.conns k).server_open ≡ true → (w.wires k).up ≡ b ∷ bs
    → (w.values.conns k).up ≡ x ∷ xs → Draw w x drawn → Given w.logons drawn → RoomsOf drawn w → Leaves z w k b bs x drawn
leaves held z law w i sup shut k b bs x xs drawn so e q d given few = by (is_lines x.message.command) refl
  where
    empty : IsDialogFront z w k x xs → (o : Bool) → (w.values.conns k).client_open ≡ o → (w.wires k).down ≡ []
    empty front false co = shut k co
    empty front true co =
        let t = i.tied k in
        let u = w.wires k in
        let c = w.values.conns k in
        none_comes z (shared_at w) k c.server_open u.client_end u.server_end u.up u.down c.up c.down t.link.line b bs e
        (t.talk co (front.unlined co))

    by : (c : Bool) → is_lines x.message.command ≡ c → Leaves z w k b bs x drawn
    by true l =
        let front = sup.lines k x xs so q l in
        by_line z w k b bs x drawn (front_at held z w i k b bs x xs so e q) l front.lined d given few
    by false l =
        let front = sup.dialogs k x xs so q l in
        let one : (w.values.conns k).up ≡ x ∷ [] = q ∙ ap (λ v. x ∷ v) front.alone in
        let up : (w.wires k).up ≡ b ∷ [] = e ∙ ap (λ v. b ∷ v) (alone_up z w k b bs x i so e one) in
        by_dialog held z law w k b bs x drawn i (front_at held z w i k b bs x xs so e q) (subst (IsDialogFront z w k x) front.alone front)
        (tied_alone z w k b x i so up one) (empty front (w.values.conns k).client_open refl) d given few

-- ---- the world behind a Serve

-- of the message that waits at the front
abbrev pub IsFineUp : World → Type 0
IsFineUp w = (k : ℕ) (x : Sent) (xs : List Sent) → (w.values.conns k).up ≡ x ∷ xs → FaultFine x.message.fault

pub serves : NothingIsRefused → (z : WorldSettings) → IsLawful z → (w : World) → IsTied z w → Supplies z w → Shuts w
    → NonceKeeps w → IsFineUp w
    → (k : ℕ) → (w.values.conns k).server_open ≡ true → (fs : List (List ℕ)) (xs : List Sent) → (w.wires k).up ≡ fs
    → (w.values.conns k).up ≡ xs → RoomOf w → RoomOf (serve_frame z w k fs xs)
serves held z law w i sup shut kept fine k so [] xs e q h = h
serves held z law w i sup shut kept fine k so (b ∷ bs) [] e q h = h
serves held z law w i sup shut kept fine k so (b ∷ bs) (x ∷ xs) e q h =
    let S = step_at z w k b in
    let y = x.message.session_id in
    let p = progress_by w x in
    let more = next_drawn h.drawn y p in
    let d = draw_at w x h.drawn kept h.draws (fine k x xs q) in
    let v = leaves held z law w i sup shut k b bs x xs h.drawn so e q d h.given h.few in
    let g = d.by in
    let F = front_at held z w i k b bs x xs so e q in
    let server : (served_by w k bs xs x.token S None).values.server ≡ (answer w.values x).server =
    ap (λ (o : Option ConnEnd). (served_by w k bs xs x.token S o).values.server) (sym v.ends) ∙ served_server z w k b bs x xs F in
    subst (λ (o : Option ConnEnd). RoomOf (served_by w k bs xs x.token S o)) (sym v.ends)
    (record {
      drawn = more;
      draws = subst (λ s. NonceDraws s more) (sym server) g.draws;
      low = next_low h.drawn y p g.on h.low;
      given = v.given;
      few = v.few;
    })

-- ---- and behind what a Crash keeps of one

taken_few : (drawn more : ℕ → ℕ) (w : World) (k : ℕ) (f : ServerEnd) (bs : List (List ℕ)) → ((y : ℕ) → drawn y ≤ more y) → RoomsOf drawn w
    → Rooms more w.keys.session w.numbers (put w.wires k (record (w.wires k) { server_end = f; up = bs }))
taken_few drawn more w k f bs grown h = no_more drawn more w k (record (w.wires k) { server_end = f; up = bs }) grown (λ c. c) h

pub absorbs : NothingIsRefused → (z : WorldSettings) → IsLawful z → (w : World) → IsTied z w → Supplies z w → Shuts w
    → NonceKeeps w → IsFineUp w
    → (k : ℕ) → (w.values.conns k).server_open ≡ true → (fs : List (List ℕ)) (xs : List Sent) → (w.wires k).up ≡ fs
    → (w.values.conns k).up ≡ xs → RoomOf w → RoomOf (absorb_frame z w k fs xs)
absorbs held z law w i sup shut kept fine k so [] xs e q h = h
absorbs held z law w i sup shut kept fine k so (b ∷ bs) [] e q h = h
absorbs held z law w i sup shut kept fine k so (b ∷ bs) (x ∷ xs) e q h =
    let S = step_at z w k b in
    let y = x.message.session_id in
    let p = progress_by w x in
    let more = next_drawn h.drawn y p in
    let d = draw_at w x h.drawn kept h.draws (fine k x xs q) in
    let v = leaves held z law w i sup shut k b bs x xs h.drawn so e q d h.given h.few in
    let g = d.by in
    let F = front_at held z w i k b bs x xs so e q in
    record {
      drawn = more;
      draws = subst (λ s. NonceDraws s more) (sym (absorbed_server z w k b x xs F)) g.draws;
      low = next_low h.drawn y p g.on h.low;
      given = v.given;
      few = taken_few h.drawn more w k S.server_end bs (next_grown h.drawn y p g.on) h.few;
    }

-- ---- Restart: nothing is there any more, and ids go on above

next_epoch : (e n d m : ℕ) → n ≤ 0xffff_ffff → d ≡ e + 1 → m ≡ 0 → id_of e n ≤ id_of d m
next_epoch e n d m few a b = omega (arith, few, a, b)

again : (s : Server) (rs : List Record) (drawn : ℕ → ℕ) → AreTables rs s → NonceDraws s drawn → NonceDraws (recovered_from s rs) drawn
again s rs drawn i d =
    let u = recovered_from s rs in
    let fit = i.fit in
    let r = restarted s rs i.recovers in
    let bare = r.bare in
    record {
      present = λ y p. absurd (let h = bare.absent y in let g : true ≡ false = sym p ∙ h in cc);
      making = λ j y e. absurd (let h = bare.unmade j in let g : Some (NewSession y) ≡ None = sym e ∙ h in cc);
      fresh = λ y above. d.fresh y (let l = next_epoch s.epoch s.session_ids_given u.epoch u.session_ids_given fit.begun r.epoch
          r.session_ids_given in omega (arith, l, above));
    }

pub restarts : (w : World) → AreTables w.values.records w.values.server → RoomOf w → RoomOf (restarted_wires w)
restarts w i h =
    record {
      drawn = h.drawn;
      draws = again w.values.server w.values.records h.drawn i h.draws;
      low = h.low;
      given = h.given;
      few = h.few;
    }
