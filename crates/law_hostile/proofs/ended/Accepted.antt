-- Along a repeat run in which nothing is forged: the session that the client accepts was begun for it, and the one that it accepted before is
-- over; or SHA-512 collides.
use Rattle.std.proofs.Common.{◌≡◌, ◌≢◌, ℕ, ◌<◌, ◌^◌, Bool, true, false, if◌then◌else◌, List, [], ◌∷◌, ◌++◌, ◌⊎◌, inl, inr, refl, sym}
use Rattle.std.proofs.Common.{ap, ◌∙◌, subst, arith, Option, Some, None, slice_get}
use Rattle.spec_wire.proofs.messages.Numbers.{number_of-le}
use Rattle.spec_exchange.specs.Client.{SaidFirst}
use Rattle.spec_exchange.specs.Network.{Event}
use Rattle.spec_exchange.specs.State.{Server}
use Rattle.spec_world.specs.Settings.{WorldSettings}
use Rattle.spec_world.specs.Messages.{HeardMessage, heard_in, has_header}
use Rattle.spec_world.specs.Ends.{ClientEnd}
use Rattle.spec_world.specs.Answering.{Ending}
use Rattle.spec_world.specs.Dialog.{dialog_response, ended_on}
use Rattle.spec_world.specs.World.{World}
use Rattle.spec_hostile.specs.RepeatRuns.{RepeatWorld, RepeatEvent, Same, Give, UpFrame, DownFrame, is_served, is_heard, uses_no_list, same_done}
use Rattle.spec_hostile.specs.RepeatRuns.{own_connection, given_up, given_down, give_up, give_down, repeat_happens, repeat_start}
use Rattle.spec_hostile.specs.SignedFor.{Watched, Secret, own_secret, TakesDown, WasSigned, watching, watched_happens, watched_run}
use Rattle.spec_hostile.specs.HostileNetwork.{HasCollided, OfEndings, repeated}
use Rattle.law_nonces.specs.negotiation.Keeping.{NegotiationKeeps}
use Rattle.law_ties.specs.channel_numbers.Counted.{Counted}
use Rattle.law_ties.specs.wire_facts.Fitting.{IsFitting}
use Rattle.law_ties.proofs.channel_numbers.Runs.{start_counted}
use Rattle.law_hostile.specs.empties.Empties.{HasEmptyLists}
use Rattle.law_hostile.specs.unforged.Unforged.{EventSigned, AllSigned}
use Rattle.law_hostile.specs.finals.Finals.{WasMade}
use Rattle.law_hostile.specs.loosely.LooseSessions.{IsOver}
use Rattle.law_hostile.specs.ended.Requests.{AsksSession, LastNames, session_named, previous_named}
use Rattle.law_hostile.specs.ended.Acceptances.{NoneOrBegun, IsBegunFor, AcceptsNext, AcceptedIsBegun, AcceptedEndsBefore}
use Rattle.law_hostile.proofs.negotiating.Agreeing.{of_one_chain, collided}
use Rattle.law_hostile.proofs.negotiating.Keeping.{happens_keeps, start_keeps}
use Rattle.law_hostile.proofs.empties.Runs.{event_empties, start_empties}
use Rattle.law_hostile.proofs.dialogs.Counting.{event_counted}
use Rattle.law_hostile.proofs.puts.Growing.{in_front, none_in, event_watched, watches_run}
use Rattle.law_hostile.proofs.puts.Replies.{in_back}
use Rattle.law_hostile.proofs.finals.Recalling.{AcceptsOne, same_recalls, down_takes, up_recalls}
use Rattle.law_hostile.proofs.finals.Signing as signing
use Rattle.law_hostile.proofs.finals.Accepting.{entry_of, taken_second, made_of}
use Rattle.law_hostile.proofs.greeted.Greeting.{AllFine}
use Rattle.law_hostile.proofs.setups.Tokens.{RespReads}
use Rattle.law_hostile.proofs.loosely.Over.{KeepsOver, Stands}
use Rattle.law_hostile.proofs.ended.Turns.{Rests, Ends, Turn, IsStill, GoesOnTo, IsAccepted}
use Rattle.law_hostile.proofs.ended.Naming.{PutsMore, same_rests, up_rests, down_turns}
use Rattle.law_hostile.proofs.ended.Seconds.{AllNamed, event_named, start_named}
use Rattle.law_hostile.proofs.ended.Standing.{start_stands}
use Rattle.law_hostile.proofs.ended.Moving.{event_moves}
use Rattle.law_hostile.proofs.ended.Knowing.{Knows, known_kept, still_knows, goes_knows, accepts_knows}
use Rattle.law_hostile.proofs.ended.Lowly.{AllLow, TellsLow, event_low, start_low}
use Rattle.law_hostile.proofs.ended.Beginning.{Begun, BeginsBy, none_last, event_begun}

-- ---- what holds in any case

pub record Grounds (z : WorldSettings) (t : Watched) : Type 0 where
  pub holds : signing.Holds z t
  pub stands : Stands t.repeating.world.values
  pub counted : Counted t.repeating.world
  pub empties : HasEmptyLists t.repeating.world
  pub named : AllNamed t.repeating.world
  pub low : AllLow t.repeating.downs
  pub keeps : NegotiationKeeps t.repeating.world

pub fine_of : (z : WorldSettings) (t : Watched) → Grounds z t → AllFine z t.repeating
fine_of z t g = let h = g.holds in (h.bear, h.plain)

pub grounds_on : (z : WorldSettings) (t : Watched) (e : RepeatEvent) → z.client.ciphers ≡ [] → Grounds z t → Grounds z (watched_happens z t e)
grounds_on z t e c g =
    let is = event_watched z t e in
    let r = t.repeating in
    let m = event_moves z r e (fine_of z t g) g.stands in
    record {
      holds = signing.event_holds z t e c g.holds;
      stands = subst (λ (v : RepeatWorld). Stands v.world.values) (sym is) m.stands;
      counted = subst (λ (v : RepeatWorld). Counted v.world) (sym is) (event_counted z r e g.counted);
      empties = subst (λ (v : RepeatWorld). HasEmptyLists v.world) (sym is) (event_empties z r e g.empties);
      named = subst (λ (v : RepeatWorld). AllNamed v.world) (sym is) (event_named z r e g.counted g.empties g.named);
      low = subst (λ (v : RepeatWorld). AllLow v.downs) (sym is) (event_low z r e (fine_of z t g) g.empties g.low);
      keeps = subst (λ (v : RepeatWorld). NegotiationKeeps v.world) (sym is) (happens_keeps z r e g.keeps);
    }

pub start_grounds : (z : WorldSettings) → Grounds z (watching (repeat_start z))
start_grounds z =
    record {
      holds = signing.start_holds z;
      stands = start_stands z;
      counted = start_counted z;
      empties = start_empties z;
      named = start_named z;
      low = start_low z;
      keeps = start_keeps z;
    }

-- ---- a collision stays one

more_collided : (w v : World) (made accepted : List Ending) → v.made ≡ w.made ++ made → v.accepted ≡ w.accepted ++ accepted → HasCollided w
    → HasCollided v
more_collided w v made accepted e f (OfEndings i j x y at on c) =
    OfEndings i j x y (ap (λ l. slice_get l i) e ∙ in_front w.made made i x at) (ap (λ l. slice_get l j) f ∙ in_front w.accepted accepted j y on) c

with_nothing : (es : List Ending) → es ≡ es ++ []
with_nothing [] = refl
with_nothing (e ∷ es) = ap (λ l. e ∷ l) (with_nothing es)

same_collided : (w v : World) → v.made ≡ w.made → v.accepted ≡ w.accepted → HasCollided w → HasCollided v
same_collided w v e f = more_collided w v [] [] (e ∙ with_nothing w.made) (f ∙ with_nothing w.accepted)

pub event_collided : (z : WorldSettings) (r : RepeatWorld) (e : RepeatEvent) → HasCollided r.world → HasCollided (repeat_happens z r e).world
event_collided z r (Same e) h = by (uses_no_list e) refl
  where
    by : (b : Bool) → uses_no_list e ≡ b → HasCollided (if b then same_done z r e else r).world
    by true s = let q = same_recalls z r.world e s in same_collided r.world (same_done z r e).world q.0 q.1 h
    by false s = h
event_collided z r (Give k true place) h = by (slice_get r.ups place)
  where
    served : (u : UpFrame) (b : Bool) → HasCollided (if b then given_up z r k u else r).world
    served u true =
        let q = up_recalls z r k u in
        more_collided r.world (given_up z r k u).world q.0 [] q.1 (q.2 ∙ with_nothing r.world.accepted) h
    served u false = h

    by : (o : Option UpFrame) → HasCollided (give_up z r k o).world
    by None = h
    by (Some u) = served u (is_served r.world k)
event_collided z r (Give k false place) h = by (slice_get r.downs place)
  where
    took : (d : DownFrame) → (let v = (given_down z r k d).world in
        (v.accepted ≡ r.world.accepted)
        ⊎ AcceptsOne z r.world.accepted v.accepted (r.world.wires k).client_end d.frame (r.world.wires k).client_end.stage)
        → HasCollided (given_down z r k d).world
    took d (inl e) = let q = down_takes z r k d in same_collided r.world (given_down z r k d).world q.0 e h
    took d (inr a) =
        let q = down_takes z r k d in
        more_collided r.world (given_down z r k d).world [] (ended_on (r.world.wires k).client_end a.heard a.bound ∷ [])
        (q.0 ∙ with_nothing r.world.made) a.accepted h

    heard : (d : DownFrame) (b : Bool) → HasCollided (if b then given_down z r k d else r).world
    heard d true = took d (down_takes z r k d).1
    heard d false = h

    by : (o : Option DownFrame) → HasCollided (give_down z r k o).world
    by None = h
    by (Some d) = heard d (is_heard r.world k)

-- ---- what holds where nothing collides

pub record Firm (z : WorldSettings) (r : RepeatWorld) : Type 0 where
  pub knows : Knows z r
  pub begun : Begun z r

-- the client has accepted no other session, or the next one
abbrev pub NoneOrNext : WorldSettings → World → World → Type 0
NoneOrNext z w v = (v.values.client.accepted ≡ w.values.client.accepted) ⊎ AcceptsNext z w v

abbrev pub FirmOn : WorldSettings → RepeatWorld → RepeatWorld → Type 0
FirmOn z r s = HasCollided s.world ⊎ (Firm z s × NoneOrNext z r.world s.world)

-- ---- a final response is accepted

-- a final response that the server made for the session that the client waits for, and the one before it
pub record MadeFor (made : List Ending) (pending accepted : ℕ) : Type 0 where
  pub index : ℕ
  pub ending : Ending
  pub at : slice_get made index ≡ Some ending
  pub front : List (List ℕ)
  pub last : List ℕ
  pub texts : ending.transcript ≡ front ++ last ∷ []
  pub asks : AsksSession last
  pub session : session_named last ≡ pending
  pub previous : previous_named last ≡ accepted

-- both sessions at the server
pub record Waited (z : WorldSettings) (s : Server) (made : List Ending) (pending accepted : ℕ) : Type 0 where
  pub session : IsBegunFor z s pending
  pub previous : (accepted ≡ 0) ⊎ IsOver s accepted
  pub entry : MadeFor made pending accepted

last_waited : (z : WorldSettings) (r : RepeatWorld) (texts : List (List ℕ)) (e : Ending) (i : ℕ) → slice_get r.world.made i ≡ Some e
    → e.transcript ≡ texts → LastNames r.world.values.client texts → Firm z r
    → Waited z r.world.values.server r.world.made r.world.values.client.pending r.world.values.client.accepted
last_waited z r texts e i at same l f =
    let n = l.named in
    let k = f.knows in
    let s = r.world.values.server in
    let pending = r.world.values.client.pending in
    let accepted = r.world.values.client.accepted in
    let session : session_named l.last ≡ pending = n.session_ ∙ number_of-le 8 pending k.pending in
    let previous : previous_named l.last ≡ accepted = n.previous_ ∙ number_of-le 8 accepted k.low in
    let b = f.begun i e at l.front l.last (same ∙ l.texts_are) n.asks in
    record {
      session = subst (IsBegunFor z s) session b.session;
      previous = subst (λ x. (x ≡ 0) ⊎ IsOver s x) previous b.previous;
      entry = record {
        index = i;
        ending = e;
        at = at;
        front = l.front;
        last = l.last;
        texts = same ∙ l.texts_are;
        asks = n.asks;
        session = session;
        previous = previous;
      };
    }

pub passes_waited : (z : WorldSettings) (t : Watched) (k place : ℕ) (d : DownFrame) → slice_get t.repeating.downs place ≡ Some d
    → is_heard t.repeating.world k ≡ true → EventSigned z t (Give k false place) → Grounds z t → Firm z t.repeating
    → (let v = given_down z t.repeating k d in NegotiationKeeps v.world → Ends z t.repeating.world v.world k d.frame
    → HasCollided v.world
    ⊎ Waited z t.repeating.world.values.server t.repeating.world.made t.repeating.world.values.client.pending
    t.repeating.world.values.client.accepted)
passes_waited z t k place d at on all g f keeps ends =
    let r = t.repeating in
    let w = r.world in
    let v = (given_down z r k d).world in
    let n = (w.wires k).client_end in
    let x = entry_of t k n d.frame in
    let h = g.holds in
    let s : WasSigned t x =
    all x (TakesDown k place d at on refl refl (taken_second z t k n d.frame n.stage false ends.stage ends.passes)) in
    let made : WasMade w.made (own_secret n) = made_of w.made n (h.kept.2 s.0 x s.1 refl) in
    let same_made = (down_takes z r k d).0 in
    let there : slice_get v.made made.index ≡ Some made.ending = ap (λ l. slice_get l made.index) same_made ∙ made.at in
    let a = ended_on n ends.response false in
    let j = in_back w.accepted (a ∷ []) 0 a refl in
    let last : slice_get v.accepted j.0 ≡ Some a = ap (λ l. slice_get l j.0) ends.remembered ∙ j.1 in
    let value : made.ending.chain ≡ a.chain = ap (λ (y : Secret). y.value) made.is in
    let c = g.counted in
    let names : LastNames w.values.client n.transcript = g.named k (sym (c.stages k on) ∙ ends.stage) ends.stage in
    by made n.transcript names
    (collided v made.index j.0 made.ending a there last
    (of_one_chain made.ending a (keeps.made_whole made.index made.ending there) (keeps.accepted_whole j.0 a last).0 value))
  where
    by : (m : WasMade t.repeating.world.made (own_secret (t.repeating.world.wires k).client_end)) (texts : List (List ℕ))
        → LastNames t.repeating.world.values.client texts
        → (let e = m.ending in (e.transcript ≡ texts) ⊎ HasCollided (given_down z t.repeating k d).world)
        → HasCollided (given_down z t.repeating k d).world
        ⊎ Waited z t.repeating.world.values.server t.repeating.world.made t.repeating.world.values.client.pending
        t.repeating.world.values.client.accepted
    by m texts names (inl e) = inr (last_waited z t.repeating texts m.ending m.index m.at e names f)
    by m texts names (inr c) = inl c

over_kept : (s u : Server) (x : ℕ) → KeepsOver s u → (x ≡ 0) ⊎ IsOver s x → (x ≡ 0) ⊎ IsOver u x
over_kept s u x k (inl e) = inl e
over_kept s u x k (inr o) = inr (k.over x o)

ends_firm : (z : WorldSettings) (r s : RepeatWorld) (k : ℕ) (frame : List ℕ) → KeepsOver r.world.values.server s.world.values.server
    → PutsMore r s → Ends z r.world s.world k frame → Begun z s → Firm z r
    → Waited z r.world.values.server r.world.made r.world.values.client.pending r.world.values.client.accepted → FirmOn z r s
ends_firm z r s k frame o p g begun f q =
    let knows : Knows z s = accepts_knows z r s k frame o p g q.session f.knows in
    inr (
      record { knows = knows; begun = begun },
      inr (record {
        now = g.accepted;
        begun = subst (IsBegunFor z s.world.values.server) (sym g.accepted)
            (known_kept z r.world.values.server s.world.values.server r.world.values.client.pending o q.session);
        before = over_kept r.world.values.server s.world.values.server r.world.values.client.accepted o q.previous;
      }),
    )

-- ---- a reply is given

same_heard : (b : Bool) (x y : HeardMessage) → (if b then Some x else None) ≡ Some y → x ≡ y
same_heard true x y e = let q : Some x ≡ Some y = e in cc
same_heard false x y e = absurd (let q : None ≡ Some y = e in cc)

response_low : (n : ClientEnd) (frame : List ℕ) (x : HeardMessage) → dialog_response n (SaidFirst false) frame ≡ Some x → TellsLow frame
    → (let h = x.header in h.session < 256 ^ 8)
response_low n frame x e low =
    let same : heard_in frame ≡ x = same_heard (has_header frame) (heard_in frame) x e in
    subst (λ (y : HeardMessage). (let h = y.header in h.session < 256 ^ 8)) same low.0

down_firm : (z : WorldSettings) (t : Watched) (k place : ℕ) (d : DownFrame) → slice_get t.repeating.downs place ≡ Some d
    → is_heard t.repeating.world k ≡ true → EventSigned z t (Give k false place) → Grounds z t → Firm z t.repeating
    → (let v = given_down z t.repeating k d in NegotiationKeeps v.world → KeepsOver t.repeating.world.values.server v.world.values.server
    → Begun z v → FirmOn z t.repeating v)
down_firm z t k place d at on all g f keeps over begun =
    let r = t.repeating in
    let v = given_down z r k d in
    let q = down_turns z r k d in
    by q.1 q.0
  where
    by : (let v = given_down z t.repeating k d in PutsMore t.repeating v → Turn z t.repeating.world v.world k d.frame
        → FirmOn z t.repeating v)
    by p (IsStill e) =
        let r = t.repeating in
        let v = given_down z r k d in
        let n = e.names in
        inr (record { knows = still_knows z r v k over p e f.knows; begun = begun }, inl n.accepted)
    by p (GoesOnTo e) =
        let r = t.repeating in
        let v = given_down z r k d in
        let low = response_low (r.world.wires k).client_end d.frame e.response e.heard (g.low place d at) in
        inr (record { knows = goes_knows z r v k d.frame over p e low f.knows; begun = begun }, inl e.accepted)
    by p (IsAccepted e) = waited p e (passes_waited z t k place d at on all g f keeps e)
      where
        waited : (let v = given_down z t.repeating k d in PutsMore t.repeating v → Ends z t.repeating.world v.world k d.frame
            → HasCollided v.world
            ⊎ Waited z t.repeating.world.values.server t.repeating.world.made t.repeating.world.values.client.pending
            t.repeating.world.values.client.accepted
            → FirmOn z t.repeating v)
        waited p e (inl c) = inl c
        waited p e (inr q) = ends_firm z t.repeating (given_down z t.repeating k d) k d.frame over p e begun f q

give_down_firm : (z : WorldSettings) (t : Watched) (k place : ℕ) (o : Option DownFrame) → slice_get t.repeating.downs place ≡ o
    → EventSigned z t (Give k false place) → Grounds z t → Firm z t.repeating
    → (let v = give_down z t.repeating k o in NegotiationKeeps v.world → KeepsOver t.repeating.world.values.server v.world.values.server
    → Begun z v → FirmOn z t.repeating v)
give_down_firm z t k place None at all g f keeps over begun = inr (f, inl refl)
give_down_firm z t k place (Some d) at all g f keeps over begun = by (is_heard t.repeating.world k) refl keeps over begun
  where
    by : (b : Bool) → is_heard t.repeating.world k ≡ b
        → (let v = if b then given_down z t.repeating k d else t.repeating in NegotiationKeeps v.world
        → KeepsOver t.repeating.world.values.server v.world.values.server → Begun z v → FirmOn z t.repeating v)
    by true on keeps over begun = down_firm z t k place d at on all g f keeps over begun
    by false on keeps over begun = inr (f, inl refl)

-- ---- the other events

rests_firm : (z : WorldSettings) (r s : RepeatWorld) (k : ℕ) → KeepsOver r.world.values.server s.world.values.server → Rests r.world s.world k
    → PutsMore r s → Begun z s → Firm z r → FirmOn z r s
rests_firm z r s k o e p begun f =
    let n = e.names in inr (record { knows = still_knows z r s k o p e f.knows; begun = begun }, inl n.accepted)

same_firm : (z : WorldSettings) (t : Watched) (e : Event) → Grounds z t → Firm z t.repeating
    → (let v = repeat_happens z t.repeating (Same e) in KeepsOver t.repeating.world.values.server v.world.values.server
    → Begun z v → FirmOn z t.repeating v)
same_firm z t e g f = by (uses_no_list e) refl
  where
    by : (b : Bool) → uses_no_list e ≡ b
        → (let v = if b then same_done z t.repeating e else t.repeating in KeepsOver t.repeating.world.values.server v.world.values.server
        → Begun z v → FirmOn z t.repeating v)
    by true s over begun =
        let c = g.empties in
        let q = same_rests z t.repeating e s (c.up (own_connection e)) in
        rests_firm z t.repeating (same_done z t.repeating e) (own_connection e) over q.0 q.1 begun f
    by false s over begun = inr (f, inl refl)

give_up_firm : (z : WorldSettings) (t : Watched) (k : ℕ) (o : Option UpFrame) → Firm z t.repeating
    → (let v = give_up z t.repeating k o in KeepsOver t.repeating.world.values.server v.world.values.server → Begun z v
    → FirmOn z t.repeating v)
give_up_firm z t k None f over begun = inr (f, inl refl)
give_up_firm z t k (Some u) f over begun = by (is_served t.repeating.world k) refl over begun
  where
    by : (b : Bool) → is_served t.repeating.world k ≡ b
        → (let v = if b then given_up z t.repeating k u else t.repeating in KeepsOver t.repeating.world.values.server v.world.values.server
        → Begun z v → FirmOn z t.repeating v)
    by true on over begun =
        let q = up_rests z t.repeating k u on in
        rests_firm z t.repeating (given_up z t.repeating k u) k over q.0 q.1 begun f
    by false on over begun = inr (f, inl refl)

pub event_firm : RespReads → (z : WorldSettings) (t : Watched) (e : RepeatEvent) → IsFitting z → EventSigned z t e → Grounds z t
    → Firm z t.repeating → FirmOn z t.repeating (repeat_happens z t.repeating e)
event_firm reads z t e fitting all g f =
    let r = t.repeating in
    let m = event_moves z r e (fine_of z t g) g.stands in
    let k = f.knows in
    let begun = event_begun reads z r e fitting (fine_of z t g) g.stands k.ups f.begun in
    by e all (happens_keeps z r e g.keeps) m.over begun
  where
    by : (e : RepeatEvent) → EventSigned z t e
        → (let v = repeat_happens z t.repeating e in NegotiationKeeps v.world → KeepsOver t.repeating.world.values.server v.world.values.server
        → Begun z v → FirmOn z t.repeating v)
    by (Same e) all keeps over begun = same_firm z t e g f over begun
    by (Give k true place) all keeps over begun = give_up_firm z t k (slice_get t.repeating.ups place) f over begun
    by (Give k false place) all keeps over begun =
        give_down_firm z t k place (slice_get t.repeating.downs place) refl all g f keeps over begun

-- ---- a run

abbrev pub FirmAt : WorldSettings → RepeatWorld → Type 0
FirmAt z r = HasCollided r.world ⊎ Firm z r

pub firm_on : RespReads → (z : WorldSettings) (t : Watched) (e : RepeatEvent) → IsFitting z → EventSigned z t e → Grounds z t
    → FirmAt z t.repeating → FirmAt z (repeat_happens z t.repeating e)
firm_on reads z t e fitting all g (inl c) = inl (event_collided z t.repeating e c)
firm_on reads z t e fitting all g (inr f) = by (event_firm reads z t e fitting all g f)
  where
    by : FirmOn z t.repeating (repeat_happens z t.repeating e) → FirmAt z (repeat_happens z t.repeating e)
    by (inl c) = inl c
    by (inr q) = inr q.0

pub run_grounds : (z : WorldSettings) (es : List RepeatEvent) (t : Watched) → z.client.ciphers ≡ [] → Grounds z t → Grounds z (watched_run z es t)
unfolding watched_run
run_grounds z [] t c g = g
run_grounds z (e ∷ es) t c g = run_grounds z es (watched_happens z t e) c (grounds_on z t e c g)

run_firm : RespReads → (z : WorldSettings) (es : List RepeatEvent) (t : Watched) → IsFitting z → z.client.ciphers ≡ [] → AllSigned z es t
    → Grounds z t → FirmAt z t.repeating → FirmAt z (watched_run z es t).repeating
unfolding watched_run
run_firm reads z [] t fitting c all g f = f
run_firm reads z (e ∷ es) t fitting c all g f =
    run_firm reads z es (watched_happens z t e) fitting c all.1 (grounds_on z t e c g)
    (subst (FirmAt z) (sym (event_watched z t e)) (firm_on reads z t e fitting all.0 g f))

pub no_ups : (z : WorldSettings) → Firm z (repeat_start z)
no_ups z =
    record {
      knows = record {
        accepted = inl refl;
        low = omega arith;
        pending = omega arith;
        ups = λ i u at. absurd (none_in [] i u refl at);
      };
      begun = none_last (BeginsBy z (repeat_start z).world.values.server);
    }

-- of a run and one event more
pub signed_before : (z : WorldSettings) (es : List RepeatEvent) (e : RepeatEvent) (t : Watched) → AllSigned z (es ++ e ∷ []) t
    → AllSigned z es t × EventSigned z (watched_run z es t) e
unfolding watched_run
signed_before z [] e t all = (tt, all.0)
signed_before z (x ∷ es) e t all =
    let q = signed_before z es e (watched_happens z t x) all.1 in ((all.0, q.0), q.1)

pub accepted_is_begun : RespReads → AcceptedIsBegun
accepted_is_begun reads z es fitting alone all =
    let t = watching (repeat_start z) in
    by (subst (FirmAt z) (watches_run z es t)
    (run_firm reads z es t fitting alone.offered all (start_grounds z) (inr (no_ups z))))
  where
    by : FirmAt z (repeated z es) → HasCollided (repeated z es).world
        ⊎ NoneOrBegun z (repeated z es).world.values.server (repeated z es).world.values.client.accepted
    by (inl c) = inl c
    by (inr f) = let k = f.knows in inr k.accepted

abbrev Behind : WorldSettings → RepeatWorld → RepeatEvent → Type 0
Behind z r e =
    (repeat_happens z r e).world.values.client.accepted ≢ r.world.values.client.accepted
    → HasCollided (repeat_happens z r e).world ⊎ AcceptsNext z r.world (repeat_happens z r e).world

behind_event : RespReads → (z : WorldSettings) (t : Watched) (e : RepeatEvent) → IsFitting z → EventSigned z t e → Grounds z t
    → FirmAt z t.repeating → Behind z t.repeating e
behind_event reads z t e fitting all g (inl c) other = inl (event_collided z t.repeating e c)
behind_event reads z t e fitting all g (inr f) other = by (event_firm reads z t e fitting all g f)
  where
    next : NoneOrNext z t.repeating.world (repeat_happens z t.repeating e).world
        → HasCollided (repeat_happens z t.repeating e).world ⊎ AcceptsNext z t.repeating.world (repeat_happens z t.repeating e).world
    next (inl same) = absurd (other same)
    next (inr a) = inr a

    by : FirmOn z t.repeating (repeat_happens z t.repeating e)
        → HasCollided (repeat_happens z t.repeating e).world ⊎ AcceptsNext z t.repeating.world (repeat_happens z t.repeating e).world
    by (inl c) = inl c
    by (inr q) = next q.1

pub accepted_ends_before : RespReads → AcceptedEndsBefore
accepted_ends_before reads z es e fitting alone all =
    let t = watching (repeat_start z) in
    let q = signed_before z es e t all in
    subst (λ (r : RepeatWorld). Behind z r e) (watches_run z es t)
    (behind_event reads z (watched_run z es t) e fitting q.1 (run_grounds z es t alone.offered (start_grounds z))
    (run_firm reads z es t fitting alone.offered q.0 (start_grounds z) (inr (no_ups z))))
