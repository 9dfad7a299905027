-- A Serve leaves it so: the final response that goes down is noted as the client will note it.
use Rattle.std.proofs.Common.{◌≡◌, ℕ, ◌==◌, Bool, true, false, List, [], ◌∷◌, ◌++◌, refl, sym, ap, ◌∙◌, subst, eqb-true}
use Rattle.std.proofs.Common.{Option, Some, None}
use Rattle.spec_exchange.specs.Status.{success}
use Rattle.spec_exchange.specs.State.{Server}
use Rattle.spec_exchange.specs.Client.{SaidSecond}
use Rattle.spec_exchange.specs.Network.{Sent, answer}
use Rattle.spec_wire.specs.credits.Exchange.{NothingIsRefused}
use Rattle.spec_wire.specs.credits.Window.{HeldIds}
use Rattle.spec_crypto.specs.sessions.Chain.{chain}
use Rattle.spec_crypto.specs.declared.sessions.material.Keys.{Keys}
use Rattle.spec_crypto.specs.declared.sessions.material.Signer.{Signer}
use Rattle.spec_world.specs.Settings.{WorldSettings}
use Rattle.spec_world.specs.Messages.{HeardMessage}
use Rattle.spec_world.specs.Ends.{ServerEnd, Logons, ConnEnd}
use Rattle.spec_world.specs.Hearing.{behind_turn, checked_as}
use Rattle.spec_world.specs.Related.{Carry}
use Rattle.spec_world.specs.Logon.{before_setup}
use Rattle.spec_world.specs.Answering.{SaidReply, said_text, gathered, texts_of, all_texts, concatenated, each_joined}
use Rattle.spec_world.specs.Answering.{told_each, Ending, ending_by}
use Rattle.spec_world.specs.Connection.{LastTaken, ConnectionStep, answered, went_by, beginning, keys_said}
use Rattle.spec_world.specs.Dialog.{response_in, ended_on, own_final}
use Rattle.spec_world.specs.World.{World, Wires, step_at, answered_wires, served_mutely, served_by, dropped_wires}
use Rattle.spec_world.specs.World.{serve_frame, absorb_frame}
use Rattle.law_ties.specs.wire_facts.Lawful.{IsLawful}
use Rattle.law_ties.specs.events.Links.{Asked, AllAsked, Waiting, Talks, Waits, Comes, Lost, is_lined, Tied, IsTied}
use Rattle.law_ties.specs.events.Fronts.{MayServe}
use Rattle.law_ties.proofs.events.Serving.{step_is}
use Rattle.law_ties.specs.requests.Lines.{is_lines}
use Rattle.law_ties.proofs.requests.Answering.{counted_end, going_with}
use Rattle.law_ties.proofs.requests.Hearing.{with_flags}
use Rattle.law_ties.proofs.requests.Line.{fresh_of, checked_of}
use Rattle.law_dialogs.specs.dialog_requests.Serving.{IsDialogFront}
use Rattle.law_dialogs.proofs.dialog_requests.Step.{progress_by, said_by, text_by, counted_by, served}
use Rattle.law_dialogs.proofs.dialog_requests.Front.{Front, shared_at, head_by, told_at, hears_it}
use Rattle.law_dialogs.proofs.dialog_requests.Second.{answered_now, own_signing, finished}
use Rattle.law_dialogs.proofs.dialog_requests.Serve.{plain_front, AloneTied, fronted, front_is, no_more}
use Rattle.law_dialogs.proofs.runs.Supplied.{Supplies}
use Rattle.law_nonces.proofs.negotiation.Tables.{by_key}
use Rattle.law_runs.proofs.accepted.Minds.{IsIn, in_more, in_last, Made, made_more, MindsOf, one}

-- ---- what a dialog's request comes to

one_made : (f : ServerEnd) (s : Server) (L : Logons) (window : HeldIds) (carried : Option Carry) (taken : Option LastTaken) (r : SaidReply)
    → (answered f false (going_with s L window carried taken r)).made
    ≡ ending_by false (counted_end f false window) r (said_text false false r) r.progress ++ []
unfolding gathered texts_of all_texts each_joined concatenated told_each
one_made f s L window carried taken r = refl

made_is : (z : WorldSettings) (w : World) (k : ℕ) (b : List ℕ) (x : Sent) (q : ℕ × ℕ) (a : Asked z w.logons k (w.wires k).server_end b x q)
    → MayServe (w.wires k).server_end q → a.reads.sealed ≡ false
    → (step_at z w k b).made
    ≡ ending_by false (counted_by w k a.reads.heard) (said_by z w k a.reads.heard x) (text_by z w k a.reads.heard x) (progress_by w x) ++ []
made_is z w k b x q a may plain =
    let f = (w.wires k).server_end in
    let r = a.reads in
    let h = r.heard in
    let F = behind_turn f h.header in
    let going = λ (sealed : Bool).
    went_by z.server k w.values.moment (fresh_of z w) F (beginning w.values.server w.logons F) (checked_as f sealed false true h) x.message
    (answer w.values x) in
    let G = going false in
    let same : step_at z w k b ≡ answered F false G = step_is z w k b x q r may ∙ ap (λ sealed. answered F sealed (going sealed)) plain in
    ap (λ (S : ConnectionStep). S.made) same ∙ one_made F G.server G.logons G.window G.carried G.taken (said_by z w k h x)

abbrev ending : List ℕ → List ℕ → ℕ → List ℕ → List (List ℕ) → Ending
ending base value algorithm message transcript =
    record { base = base; chain = value; algorithm = algorithm; message = message; transcript = transcript }

same_ending : (a b : List ℕ) (c d : List ℕ) (p q : ℕ) (m n : List ℕ) (s t : List (List ℕ)) → a ≡ b → c ≡ d → p ≡ q → m ≡ n → s ≡ t
    → ending a c p m s ≡ ending b d q n t
same_ending a b c d p q m n s t e1 e2 e3 e4 e5 =
    ap (λ v. ending v c p m s) e1
    ∙ (ap (λ v. ending b v p m s) e2
    ∙ (ap (λ v. ending b d v m s) e3 ∙ (ap (λ v. ending b d q v s) e4 ∙ ap (λ v. ending b d q n v) e5)))

same_heard : (a b : HeardMessage) → Some a ≡ Some b → a ≡ b
same_heard a b e = cc

-- the client notes the success as the server did
noted : (z : WorldSettings) → IsLawful z → (w : World) (k : ℕ) (b : List ℕ) (x : Sent) (h : HeardMessage) (bound : Bool) (y : HeardMessage)
    → Front z w k b x h (SaidSecond bound) → response_in (Some (text_by z w k h x)) ≡ Some y → (y.header.status == success) ≡ true
    → ending_by false (counted_by w k h) (said_by z w k h x) (text_by z w k h x) (progress_by w x) ++ []
    ≡ ended_on (w.wires k).client_end y bound ∷ []
noted z law w k b x h bound y F r ok =
    let stage = SaidSecond bound in
    let n = (w.wires k).client_end in
    let f = (w.wires k).server_end in
    let reply = (answer w.values x).reply in
    let said = said_by z w k h x in
    let text = text_by z w k h x in
    let c = checked_of w k false h in
    let t = told_at z w k b x h stage F in
    let heads = law.headers in
    let told : response_in (Some text) ≡ Some (hears_it w k h x t.flags text) =
    heads.heard (with_flags (head_by w k h x) t.flags) said.body text t.fits t.is in
    let is : y ≡ hears_it w k h x t.flags text = same_heard y (hears_it w k h x t.flags text) (sym r ∙ told) in
    let good : reply.status ≡ success =
    eqb-true reply.status success (sym (ap (λ (v : HeardMessage). v.header.status == success) is) ∙ ok) in
    let v = finished z law w k b x h bound F good in
    let answered = answered_now z law w k b x h bound F in
    let user = F.logs_on bound refl good in
    let transcript : before_setup f ++ h.bytes ∷ [] ≡ n.transcript =
    sym (F.behind.2 ∙ ap (λ q. before_setup f ++ q ∷ []) (sym F.bytes)) in
    let keys : said.keys.signing ≡ (own_final n bound 0).signing =
    ap (λ p. (keys_said z.server w.logons k (behind_turn f h.header) c p).signing) v.progress_is
    ∙ (ap (λ (q : Keys). q.signing) v.keys ∙ own_signing n bound h.header.session 0) in
    ap (λ p. ending_by false (counted_by w k h) said text p ++ []) v.progress_is
    ∙ ap (λ (q : Ending). q ∷ [])
    (same_ending said.base n.base (chain (before_setup f ++ h.bytes ∷ [])) (chain n.transcript) said.keys.signing.algorithm
    (own_final n bound 0).signing.algorithm text y.bytes (before_setup f ++ h.bytes ∷ []) n.transcript
    (answered.exported_is user.0 user.1) (ap chain transcript) (ap (λ (q : Signer). q.algorithm) keys)
    (sym (ap (λ (q : HeardMessage). q.bytes) is)) transcript)

-- ---- the front

first_of : {X : Type 0} (a b : X) → a ∷ [] ≡ b ∷ [] → b ≡ a
first_of a b e = sym (let h : a ∷ [] ≡ b ∷ [] = e in cc)

-- at a dialog whose final response it is
by_talk : NothingIsRefused → (z : WorldSettings) → IsLawful z → (w : World) (k : ℕ) (b : List ℕ) (x : Sent) → IsTied z w
    → IsDialogFront z w k x [] → (t : AloneTied z w k b x) → (w.values.conns k).client_open ≡ true → (bound : Bool)
    → (w.wires k).client_end.stage ≡ SaidSecond bound → is_lined (w.wires k).client_end.stage ≡ false
    → Talks z (shared_at w) k true (w.wires k).client_end (w.wires k).server_end (b ∷ []) (w.wires k).down (x ∷ []) (w.values.conns k).down
    t.link.line (w.wires k).client_end.stage
    → (a : List ℕ) (y : HeardMessage) → (w.wires k).down ++ (step_at z w k b).frames ≡ a ∷ [] → response_in (Some a) ≡ Some y
    → (y.header.status == success) ≡ true
    → IsIn (w.made ++ (step_at z w k b).made) (ended_on (w.wires k).client_end y bound)
by_talk held z law w k b x i front t co bound s off (Comes c v e1 e2 e3 e4 g) a y d r ok = absurd (let q : b ∷ [] ≡ [] = e1 in cc)
by_talk held z law w k b x i front t co bound s off (Lost e1 e2 e3 e4 e5) a y d r ok = absurd (let q : b ∷ [] ≡ [] = e1 in cc)
by_talk held z law w k b x i front t co bound s off (Waits c v e1 e2 e3 e4 g) a y d r ok =
    let n = (w.wires k).client_end in
    let f = (w.wires k).server_end in
    let l = t.link.line in
    let W : Waiting z (shared_at w) k n f b x l.grants n.stage =
    subst (λ m. Waiting z (shared_at w) k n f b m l.grants n.stage) (first_of x v e2)
    (subst (λ m. Waiting z (shared_at w) k n f m v l.grants n.stage) (first_of b c e1) (g refl)) in
    let F = fronted held z w k b x t in
    let q = F.asked in
    let h = q.reads.heard in
    let text = text_by z w k h x in
    let talk = front.talk in
    let plain = plain_front z w.logons k f b x F.bill q talk.own talk.talks in
    let T = served z w k b x F.bill q F.may plain in
    let fr : Front z w k b x h (SaidSecond bound) = subst (Front z w k b x h) s (front_is held z w k b x i front t F co off W) in
    let lists : text ∷ [] ≡ a ∷ [] = sym (ap (λ m. m ++ (step_at z w k b).frames) e3 ∙ T.frames) ∙ d in
    let same : a ≡ text = first_of text a lists in
    let resp : response_in (Some text) ≡ Some y = ap (λ m. response_in (Some m)) (sym same) ∙ r in
    let made : (step_at z w k b).made ≡ ended_on n y bound ∷ [] =
    made_is z w k b x F.bill q F.may plain ∙ noted z law w k b x h bound y fr resp ok in
    subst (λ m. IsIn (w.made ++ m) (ended_on n y bound)) (sym made) (in_last w.made (ended_on n y bound))

pub tied_alone : (z : WorldSettings) (w : World) (k : ℕ) (b : List ℕ) (x : Sent) → IsTied z w → (w.values.conns k).server_open ≡ true
    → (w.wires k).up ≡ b ∷ [] → (w.values.conns k).up ≡ x ∷ [] → AloneTied z w k b x
tied_alone z w k b x i so e h =
    let c = w.values.client in
    let u = w.wires k in
    let d = w.values.conns k in
    subst (λ o. Tied z c.op (shared_at w) k d.client_open o u.client_end u.server_end (b ∷ []) u.down (x ∷ []) d.down) so
    (subst (λ v. Tied z c.op (shared_at w) k d.client_open d.server_open u.client_end u.server_end v u.down (x ∷ []) d.down) e
    (subst (λ v. Tied z c.op (shared_at w) k d.client_open d.server_open u.client_end u.server_end u.up u.down v d.down) h (i.tied k)))

-- nothing waits behind it
pub alone_up : (z : WorldSettings) (w : World) (k : ℕ) (b : List ℕ) (bs : List (List ℕ)) (x : Sent) → IsTied z w
    → (w.values.conns k).server_open ≡ true → (w.wires k).up ≡ b ∷ bs → (w.values.conns k).up ≡ x ∷ [] → bs ≡ []
alone_up z w k b bs x i so e h =
    let t = i.tied k in
    let link = t.link in
    let f = (w.wires k).server_end in
    let l = link.line in
    no_more z w.logons k f b bs x l.requests
    (subst (λ v. AllAsked z w.logons k f (b ∷ bs) v l.requests) h
    (subst (λ v. AllAsked z w.logons k f v (w.values.conns k).up l.requests) e (link.asked so)))

off : {X : Type 0} → false ≡ true → X
off e = absurd (let h : false ≡ true = e in cc)

at_front : NothingIsRefused → (z : WorldSettings) → IsLawful z → (w : World) → IsTied z w → Supplies z w → (k : ℕ) (b : List ℕ)
    (bs : List (List ℕ)) (x : Sent) (xs : List Sent) → (w.values.conns k).server_open ≡ true → (w.wires k).up ≡ b ∷ bs
    → (w.values.conns k).up ≡ x ∷ xs → (w.values.conns k).client_open ≡ true
    → Made (w.made ++ (step_at z w k b).made) (w.wires k).client_end ((w.wires k).down ++ (step_at z w k b).frames)
at_front held z law w i sup k b bs x xs so e h co bound a y s d r ok = by (is_lines x.message.command) refl
  where
    lined : is_lined (w.wires k).client_end.stage ≡ false
    lined = ap is_lined s

    by : (c : Bool) → is_lines x.message.command ≡ c
        → IsIn (w.made ++ (step_at z w k b).made) (ended_on (w.wires k).client_end y bound)
    by true l = (let front = sup.lines k x xs so h l in off (sym lined ∙ front.lined co))
    by false l =
        let front = sup.dialogs k x xs so h l in
        let one : (w.values.conns k).up ≡ x ∷ [] = h ∙ ap (λ v. x ∷ v) front.alone in
        let up : (w.wires k).up ≡ b ∷ [] = e ∙ ap (λ v. b ∷ v) (alone_up z w k b bs x i so e one) in
        let t = tied_alone z w k b x i so up one in
        by_talk held z law w k b x i (subst (IsDialogFront z w k x) front.alone front) t co bound s lined (t.talk co lined) a y d r ok

-- ---- the world behind it

goes_down : (z : WorldSettings) (w : World) (k : ℕ) (b : List ℕ) (bs : List (List ℕ)) (o : Bool)
    → (o ≡ true → Made (w.made ++ (step_at z w k b).made) (w.wires k).client_end ((w.wires k).down ++ (step_at z w k b).frames))
    → Made w.made (w.wires k).client_end (w.wires k).down
    → Made (w.made ++ (step_at z w k b).made) (answered_wires (w.wires k) o (step_at z w k b).server_end bs
    (step_at z w k b).frames).client_end
    (answered_wires (w.wires k) o (step_at z w k b).server_end bs (step_at z w k b).frames).down
goes_down z w k b bs true f h = f refl
goes_down z w k b bs false f h = made_more w.made (step_at z w k b).made (w.wires k).client_end (w.wires k).down h

serves_by : (z : WorldSettings) (w : World) (k : ℕ) (b : List ℕ) (bs : List (List ℕ)) (x : Sent) (xs : List Sent)
    → ((w.values.conns k).client_open ≡ true
    → Made (w.made ++ (step_at z w k b).made) (w.wires k).client_end ((w.wires k).down ++ (step_at z w k b).frames))
    → MindsOf w → (o : Option ConnEnd) → MindsOf (served_by w k bs xs x.token (step_at z w k b) o)
serves_by z w k b bs x xs f h None =
    let S = step_at z w k b in
    let u = w.wires k in
    record {
      waits = by_key (λ j (v : Wires). Made (w.made ++ S.made) v.client_end v.down) w.wires k
          (answered_wires u (w.values.conns k).client_open S.server_end bs S.frames)
          (goes_down z w k b bs (w.values.conns k).client_open f (h.waits k))
          (λ j other. made_more w.made S.made (w.wires j).client_end (w.wires j).down (h.waits j));
      taken = λ j a e. in_more w.made S.made a (h.taken j a e);
    }
serves_by z w k b bs x xs f h (Some why) = dropped (served_mutely w k bs xs x.token (step_at z w k b)) k (mute z w k b bs x xs h)
  where
    mute : (z : WorldSettings) (w : World) (k : ℕ) (b : List ℕ) (bs : List (List ℕ)) (x : Sent) (xs : List Sent) → MindsOf w
        → MindsOf (served_mutely w k bs xs x.token (step_at z w k b))
    mute z w k b bs x xs h =
        one w.made w.accepted w.wires k (record (w.wires k) { server_end = (step_at z w k b).server_end; up = bs }) (h.waits k) h

    dropped : (v : World) (k : ℕ) → MindsOf v → MindsOf (dropped_wires v k)
    dropped v k h = one v.made v.accepted v.wires k (record (v.wires k) { up = [] }) (h.waits k) h

pub serves : NothingIsRefused → (z : WorldSettings) → IsLawful z → (w : World) → IsTied z w → Supplies z w → (k : ℕ)
    → (w.values.conns k).server_open ≡ true → (fs : List (List ℕ)) (xs : List Sent) → (w.wires k).up ≡ fs → (w.values.conns k).up ≡ xs
    → MindsOf w → MindsOf (serve_frame z w k fs xs)
serves held z law w i sup k so [] xs e q h = h
serves held z law w i sup k so (b ∷ bs) [] e q h = h
serves held z law w i sup k so (b ∷ bs) (x ∷ xs) e q h =
    serves_by z w k b bs x xs (λ co. at_front held z law w i sup k b bs x xs so e q co) h (step_at z w k b).ends

pub absorbs : (z : WorldSettings) (w : World) (k : ℕ) (fs : List (List ℕ)) (xs : List Sent) → MindsOf w → MindsOf (absorb_frame z w k fs xs)
absorbs z w k [] xs h = h
absorbs z w k (b ∷ bs) [] h = h
absorbs z w k (b ∷ bs) (x ∷ xs) h =
    one w.made w.accepted w.wires k (record (w.wires k) { server_end = (step_at z w k b).server_end; up = bs }) (h.waits k) h
