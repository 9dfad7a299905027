-- A Serve leaves it so: what goes down sealed is noted, and the server's keys change where nothing comes down.
use Rattle.std.proofs.Common.{◌≡◌, ℕ, ◌+◌, ◌<◌, ◌≤◌, Bool, true, false, ◌&&◌, if◌then◌else◌, List, [], ◌∷◌, ◌++◌, length, refl, sym, ap}
use Rattle.std.proofs.Common.{◌∙◌, subst, arith, Option, Some, None}
use Rattle.std.proofs.lemmas.List.{append-nil}
use Rattle.spec_exchange.specs.State.{Server}
use Rattle.spec_exchange.specs.Network.{Sent, Received, answer}
use Rattle.spec_wire.specs.credits.Ids.{counted, outside}
use Rattle.spec_wire.specs.credits.Window.{HeldIds}
use Rattle.spec_wire.specs.credits.Exchange.{Line, FrontIsHeld, NothingIsRefused}
use Rattle.spec_crypto.specs.declared.sessions.material.Keys.{Keys}
use Rattle.spec_crypto.specs.sessions.Nonces.{last_counter}
use Rattle.spec_world.specs.Settings.{WorldSettings}
use Rattle.spec_world.specs.Ends.{ClientEnd, ServerEnd, Logons, Spent, ConnEnd}
use Rattle.spec_world.specs.Hearing.{begins_sealed, behind_turn, checked_as}
use Rattle.spec_world.specs.Related.{Carry}
use Rattle.spec_world.specs.Answering.{Seal, SaidReply, said_text, gathered, texts_of, all_texts, concatenated}
use Rattle.spec_world.specs.Answering.{each_joined, seals_of, seals_by}
use Rattle.spec_world.specs.Answering.{seal_by, has_nonces}
use Rattle.spec_world.specs.Connection.{LastTaken, ConnectionStep, answered, answered_with, ended_by, went_by, beginning}
use Rattle.spec_world.specs.World.{World, step_at, answered_wires, served_on, served_by, serve_frame, absorb_frame}
use Rattle.law_ties.specs.wire_facts.Lawful.{IsLawful}
use Rattle.law_ties.specs.events.Links.{Shared, shared_of, Asked, Linked, Talks, Waits, Comes, Lost, is_lined, IsTied}
use Rattle.law_ties.specs.events.Fronts.{MayServe}
use Rattle.law_ties.proofs.events.Serving.{goes_on, is_low, step_is}
use Rattle.law_ties.proofs.events.InStep.{next_low, front_held}
use Rattle.law_ties.specs.requests.Lines.{is_lines}
use Rattle.law_ties.proofs.requests.Answering.{answer_frame, going_with}
use Rattle.law_ties.proofs.requests.Line.{fresh_of, said_of, split_by, IsServed, served as served_line}
use Rattle.law_dialogs.specs.dialog_requests.Serving.{IsDialogFront}
use Rattle.law_dialogs.proofs.dialog_requests.Step.{said_by, text_by, served as served_dialog}
use Rattle.law_dialogs.proofs.dialog_requests.Serve.{plain_front}
use Rattle.law_dialogs.proofs.runs.Supplied.{Supplies}
use Rattle.law_runs.proofs.sealed.Spelled.{last_there, all_none, all_plain, all_more, Told, UpKept, DownKept, up_more}
use Rattle.law_runs.proofs.sealed.Spelled.{down_more, SpellsOf, one, grown}
use Rattle.law_runs.proofs.sealed.Sent.{said_plain}

-- ---- what a line's answer seals

abbrev seals_told : Keys → ServerEnd → Bool → SaidReply → List Seal
seals_told keys f sealed r = if sealed then seal_by keys f.channel f.counter (said_text true false r ++ []) ∷ [] else []

one_sealed : (f : ServerEnd) (sealed : Bool) (keys : Keys) (s : Server) (L : Logons) (window : HeldIds) (carried : Option Carry)
    (taken : Option LastTaken) (r : SaidReply) → f.keys ≡ Some keys → f.counter < last_counter
    → (answered f sealed (going_with s L window carried taken r)).sealings ≡ seals_told keys f sealed r
unfolding gathered texts_of all_texts each_joined concatenated seals_of
one_sealed f false keys s L window carried taken r has nonce = refl
one_sealed f true keys s L window carried taken r has nonce =
    let g = going_with s L window carried taken r in
    let rows = (said_text true false r ∷ []) ∷ [] in
    let low : has_nonces f 1 ≡ true = is_low f.counter last_counter nonce in
    ap (λ (S : ConnectionStep). S.sealings)
    (goes_on (has_nonces f 1) (ended_by s L f taken Spent) (answered_with f true g rows (each_joined rows)) low)
    ∙ ap (λ q. seals_by q f (concatenated (said_text true false r ∷ []) ∷ [])) has

none_sealed : (f : ServerEnd) (s : Server) (L : Logons) (window : HeldIds) (carried : Option Carry)
    (taken : Option LastTaken) (r : SaidReply)
    → (answered f false (going_with s L window carried taken r)).sealings ≡ []
none_sealed f s L window carried taken r = refl

line_seals : (z : WorldSettings) (w : World) (k : ℕ) (b : List ℕ) (x : Sent) (q : ℕ × ℕ)
    (a : Asked z w.logons k (w.wires k).server_end b x q)
    → MayServe (w.wires k).server_end q → (v : IsServed z w k b x q a)
    → (step_at z w k b).sealings
    ≡ seals_told v.keys (behind_turn (w.wires k).server_end a.reads.heard.header) a.reads.sealed
    (said_of z w k a.reads.sealed a.reads.heard x)
line_seals z w k b x q a may v =
    let f = (w.wires k).server_end in
    let r = a.reads in
    let F = behind_turn f r.heard.header in
    let G =
    went_by z.server k w.values.moment (fresh_of z w) F (beginning w.values.server w.logons F) (checked_as f r.sealed false true r.heard)
    x.message (answer w.values x) in
    ap (λ (S : ConnectionStep). S.sealings) (step_is z w k b x q r may)
    ∙ one_sealed F r.sealed v.keys G.server G.logons G.window G.carried G.taken (said_of z w k r.sealed r.heard x) v.has may.nonce

dialog_seals : (z : WorldSettings) (w : World) (k : ℕ) (b : List ℕ) (x : Sent) (q : ℕ × ℕ)
    (a : Asked z w.logons k (w.wires k).server_end b x q) → MayServe (w.wires k).server_end q → a.reads.sealed ≡ false
    → (step_at z w k b).sealings ≡ []
dialog_seals z w k b x q a may plain =
    let f = (w.wires k).server_end in
    let r = a.reads in
    let h = r.heard in
    let F = behind_turn f h.header in
    let going = λ (sealed : Bool).
    went_by z.server k w.values.moment (fresh_of z w) F (beginning w.values.server w.logons F) (checked_as f sealed false true h) x.message
    (answer w.values x) in
    let G = going false in
    let same : step_at z w k b ≡ answered F false G = step_is z w k b x q r may ∙ ap (λ sealed. answered F sealed (going sealed)) plain in
    ap (λ (S : ConnectionStep). S.sealings) same
    ∙ none_sealed F G.server G.logons G.window G.carried G.taken (said_by z w k h x)

reply_kept : (z : WorldSettings) → IsLawful z → (seals : List Seal) (o : Option Keys) (keys : Keys) (f : ServerEnd)
    (sealed : Bool) (r : SaidReply)
    → o ≡ Some keys → DownKept (seals ++ seals_told keys f sealed r) o (answer_frame keys f sealed r ∷ [])
reply_kept z law seals o keys f true r has =
    let last = last_there seals (seal_by keys f.channel f.counter (said_text true false r ++ [])) in
    ((λ s. (keys, has, (last.0, seal_by keys f.channel f.counter (said_text true false r ++ []), last.1, (refl, refl, refl)))), tt)
reply_kept z law seals o keys f false r has =
    all_plain (Told (seals ++ []) o) (said_text false false r ++ [])
    (ap begins_sealed (append-nil (said_text false false r)) ∙ said_plain z law r)

-- ---- the front

pub record At (z : WorldSettings) (w : World) (k : ℕ) (b : List ℕ) (x : Sent) : Type 0 where
  pub bill : ℕ × ℕ
  pub asked : Asked z w.logons k (w.wires k).server_end b x bill
  pub may : MayServe (w.wires k).server_end bill

pub front_at : NothingIsRefused → (z : WorldSettings) (w : World) → IsTied z w → (k : ℕ) (b : List ℕ) (bs : List (List ℕ)) (x : Sent)
    (xs : List Sent) → (w.values.conns k).server_open ≡ true → (w.wires k).up ≡ b ∷ bs → (w.values.conns k).up ≡ x ∷ xs → At z w k b x
front_at held z w i k b bs x xs so e h =
    let c = w.values.client in
    let u = w.wires k in
    let d = w.values.conns k in
    let n = u.client_end in
    let f = u.server_end in
    let s = shared_of c w.keys w.logons in
    let t = i.tied k in
    let co = d.client_open && is_lined n.stage in
    let link : Linked z c.op s k co true n f (b ∷ bs) u.down (x ∷ xs) d.down =
    subst (λ o. Linked z c.op s k co o n f (b ∷ bs) u.down (x ∷ xs) d.down) so
    (subst (λ v. Linked z c.op s k co d.server_open n f v u.down (x ∷ xs) d.down) e
    (subst (λ v. Linked z c.op s k co d.server_open n f u.up u.down v d.down) h t.link)) in
    let l = link.line in
    let p = split_by z w k b bs x xs l l.requests refl (link.asked refl) in
    let q = p.bill in
    let qs = p.bills in
    let none : outside l.window.held q.0 (counted q.1) ≡ None =
    subst (λ (rs : List (ℕ × ℕ)). FrontIsHeld rs l.window) p.is (front_held held l link.reached) in
    let low = next_low held l link.reached in
    let count : f.counter + length (q ∷ qs) ≤ l.purse.next = subst (λ rs. f.counter + length rs ≤ l.purse.next) p.is
    (link.counted refl) in record {
      bill = q;
      asked = p.asked;
      may = record {
        held = ap (λ (v : HeldIds). outside v.held q.0 (counted q.1)) (link.window refl) ∙ none;
        nonce = omega (arith, count, low);
      };
    }

-- ---- what its step leaves

record Leaves (z : WorldSettings) (w : World) (k : ℕ) (b : List ℕ) : Type 0 where
  ends : (step_at z w k b).ends ≡ None
  told :
      DownKept (w.sealings ++ (step_at z w k b).sealings) (step_at z w k b).server_end.keys ((w.wires k).down ++ (step_at z w k b).frames)
  rests : DownKept w.sealings (step_at z w k b).server_end.keys (w.wires k).down

-- of a line: the keys stay
by_line : (z : WorldSettings) → IsLawful z → (w : World) (k : ℕ) (b : List ℕ) (x : Sent) → At z w k b x
    → is_lines x.message.command ≡ true → SpellsOf w → Leaves z w k b
by_line z law w k b x F l h =
    let f = (w.wires k).server_end in
    let down = (w.wires k).down in
    let a = F.asked in
    let r = a.reads in
    let E = behind_turn f r.heard.header in
    let said = said_of z w k r.sealed r.heard x in
    let v = served_line z w k b x F.bill a F.may l in
    let T = v.step in
    let S = step_at z w k b in
    let keys : S.server_end.keys ≡ f.keys = ap (λ (q : ServerEnd). q.keys) T.server_end in
    let more = seals_told v.keys E r.sealed said in
    let frame = answer_frame v.keys E r.sealed said in
    let base : DownKept (w.sealings ++ more) f.keys (down ++ frame ∷ []) =
    all_more (Told (w.sealings ++ more) f.keys) down (frame ∷ []) (down_more w.sealings more f.keys down (h.downs k))
    (reply_kept z law w.sealings f.keys v.keys E r.sealed said v.has) in
    record {
      ends = T.ends;
      told = subst (λ o. DownKept (w.sealings ++ S.sealings) o (down ++ S.frames)) (sym keys)
          (subst (λ m. DownKept (w.sealings ++ m) f.keys (down ++ S.frames)) (sym (line_seals z w k b x F.bill a F.may v))
          (subst (λ fs. DownKept (w.sealings ++ more) f.keys (down ++ fs)) (sym T.frames) base));
      rests = subst (λ o. DownKept w.sealings o down) (sym keys) (h.downs k);
    }

-- of a dialog: nothing comes down
by_dialog : (z : WorldSettings) → IsLawful z → (w : World) (k : ℕ) (b : List ℕ) (x : Sent) (xs : List Sent) → At z w k b x
    → IsDialogFront z w k x xs → (w.wires k).down ≡ [] → Leaves z w k b
by_dialog z law w k b x xs F front empty =
    let f = (w.wires k).server_end in
    let a = F.asked in
    let h = a.reads.heard in
    let talk = front.talk in
    let plain = plain_front z w.logons k f b x F.bill a talk.own talk.talks in
    let T = served_dialog z w k b x F.bill a F.may plain in
    let S = step_at z w k b in
    let text = text_by z w k h x in
    let frames : text ∷ [] ≡ (w.wires k).down ++ S.frames = sym (ap (λ m. m ++ S.frames) empty ∙ T.frames) in
    record {
      ends = T.ends;
      told = subst (DownKept (w.sealings ++ S.sealings) S.server_end.keys) frames
          (all_plain (Told (w.sealings ++ S.sealings) S.server_end.keys) text (said_plain z law (said_by z w k h x)));
      rests = all_none (Told w.sealings S.server_end.keys) (w.wires k).down empty;
    }

no_up : {X : Type 0} (up : List (List ℕ)) (b : List ℕ) (bs : List (List ℕ)) → up ≡ [] → up ≡ b ∷ bs → X
no_up up b bs e d = absurd (let h : [] ≡ b ∷ bs = sym e ∙ d in cc)

pub none_comes : (z : WorldSettings) (s : Shared) (k : ℕ) (so : Bool) (n : ClientEnd) (f : ServerEnd)
    (up down : List (List ℕ)) (xs : List Sent)
    (ys : List Received) (l : Line) (b : List ℕ) (bs : List (List ℕ)) → up ≡ b ∷ bs → Talks z s k so n f up down xs ys l n.stage → down ≡ []
none_comes z s k so n f up down xs ys l b bs e (Comes a y e1 e2 e3 e4 c) = no_up up b bs e1 e
none_comes z s k so n f up down xs ys l b bs e (Waits c x e1 e2 e3 e4 g) = e3
none_comes z s k so n f up down xs ys l b bs e (Lost e1 e2 e3 e4 e5) = no_up up b bs e1 e

-- of a client's end that has closed nothing comes down
abbrev pub Shuts : World → Type 0
Shuts w = (k : ℕ) → (w.values.conns k).client_open ≡ false → (w.wires k).down ≡ []

leaves : NothingIsRefused → (z : WorldSettings) → IsLawful z → (w : World) → IsTied z w → Supplies z w → Shuts w → (k : ℕ) (b : List ℕ)
    (bs : List (List ℕ)) (x : Sent) (xs : List Sent) → (w.values.conns k).server_open ≡ true → (w.wires k).up ≡ b ∷ bs
    → (w.values.conns k).up ≡ x ∷ xs → SpellsOf w → Leaves z w k b
leaves held z law w i sup shut k b bs x xs so e q h = by (is_lines x.message.command) refl
  where
    empty : IsDialogFront z w k x xs → (o : Bool) → (w.values.conns k).client_open ≡ o → (w.wires k).down ≡ []
    empty front false co = shut k co
    empty front true co =
        let t = i.tied k in
        let u = w.wires k in
        let d = w.values.conns k in
        none_comes z (shared_of w.values.client w.keys w.logons) k d.server_open u.client_end u.server_end u.up u.down
        d.up d.down t.link.line
        b bs e (t.talk co (front.unlined co))

    by : (c : Bool) → is_lines x.message.command ≡ c → Leaves z w k b
    by true l = by_line z law w k b x (front_at held z w i k b bs x xs so e q) l h
    by false l =
        let front = sup.dialogs k x xs so q l in
        by_dialog z law w k b x xs (front_at held z w i k b bs x xs so e q) front (empty front (w.values.conns k).client_open refl)

-- ---- the world behind it

goes_down : (w : World) (k : ℕ) (bs : List (List ℕ)) (S : ConnectionStep) (o : Bool)
    → DownKept (w.sealings ++ S.sealings) S.server_end.keys ((w.wires k).down ++ S.frames)
    → DownKept w.sealings S.server_end.keys (w.wires k).down
    → DownKept (w.sealings ++ S.sealings) S.server_end.keys (answered_wires (w.wires k) o S.server_end bs S.frames).down
goes_down w k bs S true told rests = told
goes_down w k bs S false told rests = down_more w.sealings S.sealings S.server_end.keys (w.wires k).down rests

behind : (seals : List Seal) (keys : Keys) (up : List (List ℕ)) (b : List ℕ) (bs : List (List ℕ)) → up ≡ b ∷ bs → UpKept seals keys up
    → UpKept seals keys bs
behind seals keys up b bs e h =
    let all : UpKept seals keys (b ∷ bs) = subst (UpKept seals keys) e h in all.1

goes_on_by : (z : WorldSettings) (w : World) (k : ℕ) (b : List ℕ) (bs : List (List ℕ)) (x : Sent) (xs : List Sent) → (w.wires k).up ≡ b ∷ bs
    → Leaves z w k b → SpellsOf w → SpellsOf (served_on w k bs xs x.token (step_at z w k b))
goes_on_by z w k b bs x xs e v h =
    let S = step_at z w k b in
    let u = w.wires k in
    let keys = u.client_end.keys in
    one (w.sealings ++ S.sealings) w.wires k (answered_wires u (w.values.conns k).client_open S.server_end bs S.frames)
    (up_more w.sealings S.sealings keys bs (behind w.sealings keys u.up b bs e (h.ups k)))
    (goes_down w k bs S (w.values.conns k).client_open v.told v.rests) (grown w.sealings S.sealings w.wires h)

pub serves : NothingIsRefused → (z : WorldSettings) → IsLawful z → (w : World) → IsTied z w → Supplies z w → Shuts w → (k : ℕ)
    → (w.values.conns k).server_open ≡ true → (fs : List (List ℕ)) (xs : List Sent) → (w.wires k).up ≡ fs → (w.values.conns k).up ≡ xs
    → SpellsOf w → SpellsOf (serve_frame z w k fs xs)
serves held z law w i sup shut k so [] xs e q h = h
serves held z law w i sup shut k so (b ∷ bs) [] e q h = h
serves held z law w i sup shut k so (b ∷ bs) (x ∷ xs) e q h =
    let v = leaves held z law w i sup shut k b bs x xs so e q h in
    subst (λ (o : Option ConnEnd). SpellsOf (served_by w k bs xs x.token (step_at z w k b) o)) (sym v.ends)
    (goes_on_by z w k b bs x xs e v h)

pub absorbs : NothingIsRefused → (z : WorldSettings) → IsLawful z → (w : World) → IsTied z w → Supplies z w → Shuts w → (k : ℕ)
    → (w.values.conns k).server_open ≡ true → (fs : List (List ℕ)) (xs : List Sent) → (w.wires k).up ≡ fs → (w.values.conns k).up ≡ xs
    → SpellsOf w → SpellsOf (absorb_frame z w k fs xs)
absorbs held z law w i sup shut k so [] xs e q h = h
absorbs held z law w i sup shut k so (b ∷ bs) [] e q h = h
absorbs held z law w i sup shut k so (b ∷ bs) (x ∷ xs) e q h =
    let v = leaves held z law w i sup shut k b bs x xs so e q h in
    let u = w.wires k in
    one w.sealings w.wires k (record u { server_end = (step_at z w k b).server_end; up = bs })
    (behind w.sealings u.client_end.keys u.up b bs e (h.ups k)) v.rests h
