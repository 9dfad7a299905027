-- A front that is read as what it was made for is served in step.
use Rattle.std.proofs.Common.{◌≡◌, ℕ, ◌+◌, ◌<◌, nat_le, Bool, true, false, not, ◌&&◌, if◌then◌else◌, List, [], ◌∷◌, take}
use Rattle.std.proofs.Common.{refl, sym, ap, ◌∙◌, subst, arith, Option, Some, None, is_some, Ok, Err}
use Rattle.std.proofs.lemmas.Bool.Decides.{nat_tests}
use Rattle.spec_exchange.specs.State.{Server, Message}
use Rattle.spec_exchange.specs.Network.{Sent, Received, Serve, Crash, answer, answer_to, absorb_front}
use Rattle.spec_exchange.specs.Network.{serve_front, served, crashed, restarted, is_possible}
use Rattle.spec_wire.specs.credits.Ids.{counted, outside}
use Rattle.spec_wire.specs.credits.Window.{HeldIds}
use Rattle.spec_crypto.specs.declared.sessions.material.Keys.{Keys}
use Rattle.spec_crypto.specs.sessions.Nonces.{last_counter}
use Rattle.spec_crypto.specs.sessions.Sealing.{sealed as sealed_under}
use Rattle.spec_world.specs.Settings.{WorldSettings, draw}
use Rattle.spec_world.specs.Messages.{HeardMessage}
use Rattle.spec_world.specs.Ends.{ServerEnd, Logons, ConnEnd, BadFrame, SecondNegotiate, Unsealable, Spent, nonce_at}
use Rattle.spec_world.specs.Hearing.{FrameText, Checked, Frame, text_of, split_text, is_too_long, begins_sealed, is_negotiate}
use Rattle.spec_world.specs.Hearing.{is_cancel, outside_of, end_by_id, turn_end, behind_turn, checked_as, if_in_turn}
use Rattle.spec_world.specs.Hearing.{checked_behind, checked_text, check_frame}
use Rattle.spec_world.specs.Messages.{messages_in}
use Rattle.spec_world.specs.Related.{Carry}
use Rattle.spec_world.specs.Answering.{SaidReply, said_text, gathered, texts_of, all_texts, each_joined, concatenated}
use Rattle.spec_world.specs.Answering.{frames_by, has_nonces, sealed_each}
use Rattle.spec_world.specs.Connection.{LastTaken, Going, ConnectionStep, heard_message, said_to, went_by, went_heard, went_all}
use Rattle.spec_world.specs.Connection.{beginning, step_of, answered, answered_with, ended_by}
use Rattle.spec_world.specs.World.{World, values_took, replied_each, last_reply, served_by, step_at, serve_frame}
use Rattle.spec_world.specs.World.{absorb_frame}
use Rattle.spec_world.specs.Events.{bytes_changed}
use Rattle.law_ties.specs.events.Fronts.{FrontReads, MayServe, FrontsAreServed}
use Rattle.law_ties.proofs.events.Own.{met_alike}

-- ---- what is sealed was opened, so there are keys

nothing_sealed : (long begins : Bool) (o : Option (List HeardMessage)) (t : FrameText)
    → (if long then Err BadFrame else if begins then Err Unsealable else split_text false o) ≡ Ok t → t.sealed ≡ true → ⊥
nothing_sealed true begins o t e s = let h : Err BadFrame ≡ Ok t = e in cc
nothing_sealed false true o t e s = let h : Err Unsealable ≡ Ok t = e in cc
nothing_sealed false false None t e s = let h : Err BadFrame ≡ Ok t = e in cc
nothing_sealed false false (Some ms) t e s =
    let plain : FrameText = record { sealed = false; messages = ms } in
    let h : Ok plain ≡ Ok t = e in
    let same : plain ≡ t = (cc) in
    let q : false ≡ true = ap (λ (v : FrameText). v.sealed) same ∙ s in cc

pub sealed_keys : (keys : Option Keys) (b : List ℕ) (t : FrameText) → text_of keys b ≡ Ok t → t.sealed ≡ true → is_some keys ≡ true
sealed_keys (Some keys) b t e s = refl
sealed_keys None b t e s = absurd (nothing_sealed (is_too_long None b) (begins_sealed b) (messages_in b) t e s)

-- ---- its turn

turn_none : (greeted negotiate asked : Bool) (o : Option ConnEnd) → greeted ≡ not negotiate → (negotiate ≡ true → asked ≡ false)
    → o ≡ None
    → (if not greeted && not negotiate then Some BadFrame else if negotiate && asked then Some SecondNegotiate else o) ≡ None
turn_none true true asked o e f g = absurd (let h : true ≡ false = e in cc)
turn_none false false asked o e f g = absurd (let h : false ≡ true = e in cc)
turn_none true false asked o e f g = g
turn_none false true asked o e f g = ap (λ a. if a then Some SecondNegotiate else o) (f refl) ∙ g

unless_none : {X : Type 0} (b : Bool) (o : Option X) → o ≡ None → (if b then None else o) ≡ None
unless_none true o e = refl
unless_none false o e = e

in_turn : (z : WorldSettings) (L : Logons) (k : ℕ) (f : ServerEnd) (b : List ℕ) (x : Sent) (bill : ℕ × ℕ)
    (r : FrontReads z L k f b x bill) → MayServe f bill → turn_end f r.heard.header ≡ None
in_turn z L k f b x bill r may =
    let h = r.heard.header in
    let held : outside f.window.held h.message (counted h.charge) ≡ None =
    ap (λ i. outside f.window.held i (counted h.charge)) r.id ∙ (ap (λ n. outside f.window.held bill.0 (counted n)) r.charge ∙ may.held) in
    let out : outside_of f.window h ≡ None = unless_none (is_cancel h) (outside f.window.held h.message (counted h.charge)) held in
    turn_none (is_some f.greeting) (is_negotiate h) f.asked (end_by_id (outside_of f.window h)) r.turn r.first (ap end_by_id out)

-- ---- the frame has one message

abbrev one_message : ServerEnd → Bool → HeardMessage → Frame
one_message f sealed x = record {
  server_end = behind_turn f x.header;
  sealed = sealed;
  messages = checked_as f sealed false true x ∷ [];
}

alone_in : (f : ServerEnd) (b : List ℕ) (sealed : Bool) (x : HeardMessage) → text_of f.keys b ≡ Ok (record {
  sealed = sealed;
  messages = x ∷ [];
})
    → turn_end f x.header ≡ None → check_frame f b ≡ Ok (one_message f sealed x)
unfolding checked_behind
alone_in f b sealed x text turn =
    ap (checked_text f) text ∙ ap (λ o. if_in_turn o (Ok (one_message f sealed x))) turn

-- ---- and its reply is one frame

pub record IsTold (S : ConnectionStep) (t : Option LastTaken) : Type 0 where
  pub taken : S.taken ≡ t
  pub ends : S.ends ≡ None
  pub frame : List ℕ
  pub frames : S.frames ≡ frame ∷ []

record OneFrame (keys : Option Keys) (f : ServerEnd) (text : List ℕ) : Type 0 where
  frame : List ℕ
  is : frames_by keys f (text ∷ []) ≡ frame ∷ []

one_sealed : (keys : Option Keys) (f : ServerEnd) (text : List ℕ) → is_some keys ≡ true → OneFrame keys f text
unfolding sealed_each
one_sealed None f text e = absurd (let h : false ≡ true = e in cc)
one_sealed (Some keys) f text e = record { frame = sealed_under keys false (nonce_at f.channel f.counter) text; is = refl }

pub is_low : (n last : ℕ) → n < last → nat_le (n + 1) last ≡ true
is_low n last e = grind (arith, nat_tests)

pub goes_on : (b : Bool) (x y : ConnectionStep) → b ≡ true → (if true && not b then x else y) ≡ y
goes_on true x y e = refl
goes_on false x y e = absurd (let h : false ≡ true = e in cc)

abbrev going_with : Server → Logons → HeldIds → Option Carry → Option LastTaken → SaidReply → Going
going_with s L window carried taken r = record {
  server = s;
  logons = L;
  window = window;
  carried = carried;
  taken = taken;
  replies = r ∷ [];
}

one_told : (f : ServerEnd) (sealed : Bool) (s : Server) (L : Logons) (window : HeldIds) (carried : Option Carry) (taken : Option LastTaken)
    (r : SaidReply) → (sealed ≡ true → is_some f.keys ≡ true) → f.counter < last_counter
    → IsTold (answered f sealed (going_with s L window carried taken r)) taken
unfolding gathered texts_of all_texts each_joined concatenated
one_told f false s L window carried taken r keys nonce =
    record { taken = refl; ends = refl; frame = concatenated (said_text false false r ∷ []); frames = refl }
one_told f true s L window carried taken r keys nonce =
    let g = going_with s L window carried taken r in
    let rows = (said_text true false r ∷ []) ∷ [] in
    let one = one_sealed f.keys f (concatenated (said_text true false r ∷ [])) (keys refl) in
    let low : has_nonces f 1 ≡ true = is_low f.counter last_counter nonce in
    subst (λ S. IsTold S taken)
    (sym (goes_on (has_nonces f 1) (ended_by s L f taken Spent) (answered_with f true g rows (each_joined rows)) low))
    (record { taken = refl; ends = refl; frame = one.frame; frames = one.is })

-- ---- one message goes its way

went_one : (z : WorldSettings) (k now : ℕ) (fresh : List ℕ) (f : ServerEnd) (s : Server) (L : Logons) (c : Checked) (m : Message)
    → heard_message z.server L k f c ≡ Some m
    → went_all z.server k now fresh f (beginning s L f) (c ∷ [])
    ≡ went_by z.server k now fresh f (beginning s L f) c m (answer_to s now m m.command)
unfolding went_all
went_one z k now fresh f s L c m is = ap (went_heard z.server k now fresh f (beginning s L f) c) is

-- what the server's end makes of the front
pub step_is : (z : WorldSettings) (w : World) (k : ℕ) (b : List ℕ) (x : Sent) (bill : ℕ × ℕ)
    (r : FrontReads z w.logons k (w.wires k).server_end b x bill) → MayServe (w.wires k).server_end bill
    → step_at z w k b
    ≡ answered (behind_turn (w.wires k).server_end r.heard.header) r.sealed
    (went_by z.server k w.values.moment (take 8 (draw z.seed w.draws)) (behind_turn (w.wires k).server_end r.heard.header)
    (beginning w.values.server w.logons (behind_turn (w.wires k).server_end r.heard.header))
    (checked_as (w.wires k).server_end r.sealed false true r.heard) x.message (answer w.values x))
step_is z w k b x bill r may =
    let f = (w.wires k).server_end in
    let now = w.values.moment in
    let fresh = take 8 (draw z.seed w.draws) in
    let F = behind_turn f r.heard.header in
    let c = checked_as f r.sealed false true r.heard in
    ap (step_of z.server k now fresh w.values.server w.logons f)
    (alone_in f b r.sealed r.heard r.text (in_turn z w.logons k f b x bill r may))
    ∙ ap (answered F r.sealed) (went_one z k now fresh F w.values.server w.logons c x.message r.message)

pub told_at : (z : WorldSettings) (w : World) (k : ℕ) (b : List ℕ) (x : Sent) (bill : ℕ × ℕ)
    → FrontReads z w.logons k (w.wires k).server_end b x bill → MayServe (w.wires k).server_end bill
    → IsTold (step_at z w k b) (Some (record { message = x.message; answer = answer w.values x }))
told_at z w k b x bill r may =
    let f = (w.wires k).server_end in
    let now = w.values.moment in
    let fresh = take 8 (draw z.seed w.draws) in
    let s = w.values.server in
    let L = w.logons in
    let F = behind_turn f r.heard.header in
    let c = checked_as f r.sealed false true r.heard in
    let m = x.message in
    let A = answer w.values x in
    let G = went_by z.server k now fresh F (beginning s L F) c m A in
    let said = said_to z.server k now fresh F L F.window c m.command A in
    subst (λ S. IsTold S (Some (record { message = m; answer = A }))) (sym (step_is z w k b x bill r may))
    (one_told F r.sealed G.server G.logons G.window G.carried G.taken said
    (λ e. sealed_keys f.keys b (record { sealed = r.sealed; messages = r.heard ∷ [] }) r.text e) may.nonce)

-- ---- the values behind it

pub said_values : (w : World) (k : ℕ) (bs : List (List ℕ)) (x : Sent) (xs : List Sent) (S : ConnectionStep)
    → IsTold S (Some (record { message = x.message; answer = answer w.values x }))
    → (served_by w k bs xs x.token S S.ends).values ≡ serve_front w.values k (x ∷ xs)
unfolding replied_each
said_values w k bs x xs S t =
    let v = w.values in
    let y = λ (o : Option LastTaken). (let r : Received = record { token = x.token; reply = last_reply o; place = v.log.places } in r) in
    let all : Option LastTaken = Some (record { message = x.message; answer = answer v x }) in
    ap (λ o. (served_by w k bs xs x.token S o).values) t.ends
    ∙ (ap (λ o. replied_each (values_took v k x.token xs o) k (y o) S.frames) t.taken
    ∙ ap (λ fs. replied_each (values_took v k x.token xs all) k (y all) fs) t.frames)

served_values : (z : WorldSettings) (w : World) (k : ℕ) (b : List ℕ) (bs : List (List ℕ)) (x : Sent) (xs : List Sent)
    → (w.wires k).up ≡ b ∷ bs → (w.values.conns k).up ≡ x ∷ xs
    → IsTold (step_at z w k b) (Some (record { message = x.message; answer = answer w.values x }))
    → (serve_frame z w k (w.wires k).up (w.values.conns k).up).values ≡ served w.values k
served_values z w k b bs x xs e h t =
    ap (λ q. (serve_frame z w k q (w.values.conns k).up).values) e
    ∙ (ap (λ q. (serve_frame z w k (b ∷ bs) q).values) h
    ∙ (said_values w k bs x xs (step_at z w k b) t ∙ ap (serve_front w.values k) (sym h)))

kept_values : (z : WorldSettings) (w : World) (k : ℕ) (b : List ℕ) (bs : List (List ℕ)) (x : Sent) (xs : List Sent)
    → (w.wires k).up ≡ b ∷ bs → (w.values.conns k).up ≡ x ∷ xs
    → IsTold (step_at z w k b) (Some (record { message = x.message; answer = answer w.values x }))
    → (absorb_frame z w k (w.wires k).up (w.values.conns k).up).values ≡ absorb_front w.values k (w.values.conns k).up
kept_values z w k b bs x xs e h t =
    ap (λ q. (absorb_frame z w k q (w.values.conns k).up).values) e
    ∙ (ap (λ q. (absorb_frame z w k (b ∷ bs) q).values) h
    ∙ (ap (λ o. values_took w.values k x.token xs o) t.taken ∙ ap (absorb_front w.values k) (sym h)))

pub fronts_served : FrontsAreServed
fronts_served z w k b bs x xs bill e h r may =
    let t = told_at z w k b x bill r may in record {
      taken = t.taken;
      served = met_alike (is_possible w.values (Serve k)) (bytes_changed z w (Serve k)) w (served w.values k) 1
          (served_values z w k b bs x xs e h t);
      kept = met_alike (is_possible w.values (Crash k true)) (bytes_changed z w (Crash k true)) w (crashed w.values k true) 1
          (ap restarted (kept_values z w k b bs x xs e h t));
    }
