-- What events come to in the model.
use Rattle.std.proofs.Common.{◌≡◌, ℕ, ◌==◌, nat_lt, ◌&&◌, Bool, true, false, if◌then◌else◌, refl, sym, ap, ◌∙◌, subst}
use Rattle.spec_exchange.specs.Client.{Client, ends_at_cut, leave_dialog}
use Rattle.spec_exchange.specs.ClientStep.{Act, ClientEvent, CloseChannels, Nothing, act, becomes_ready, client_after}
use Rattle.spec_exchange.specs.ClientStep.{cut_act, hear_act, hear_after}
use Rattle.spec_exchange.specs.ClientStep.{last_number, ready_after}
use Rattle.spec_exchange.specs.State.{Reply}
use Rattle.spec_exchange.specs.Settling.{hear, heard, is_awaited}
use Rattle.client_rows.specs.session_state.Shown.{cut_told}
use Rattle.client_steps.specs.declared.whole_client.client.Client.{Client as Core}
use Rattle.client_steps.specs.whole_client.Shown.{ShowsClient}
use Rattle.law_client.specs.table.Kept.{TableKept}
use Rattle.wire_commands.specs.values.Meaning.{body_of}
use Rattle.client_events.specs.declared.event_calls.steps.Act.{Act as Told}
use Rattle.client_events.specs.declared.event_calls.steps.Event.{Event}
use Rattle.client_events.specs.declared.event_calls.steps.Event.TheVariants as events
use Rattle.client_events.specs.event_calls.Events.{IsClientEventOther, MayCome, Means, ShowsOne, ShowsStep}
use Rattle.client_events.specs.event_calls.Events.{ClientEventTells, TellsOne, act_at_cut, act_of, event_of, reply_with}
use Rattle.client_rows.specs.declared.session_state.session.Cut.TheVariants as cuts

-- ---- a cut

cut_by : (a b : Bool) → act_at_cut (if a then (if b then cuts.Ends else cuts.Lost) else cuts.Nothing)
    ≡ (if a && b then CloseChannels else Nothing)
cut_by true true = refl
cut_by true false = refl
cut_by false b = refl

pub cut_so : (c : Client) (k : ℕ) → act_at_cut (cut_told c k) ≡ cut_act c k
cut_so c k = cut_by (c.ready k) (ends_at_cut c)

-- ---- a dialog of a ready channel

first : {X : Type 0} (b : Bool) (v w : X) → b ≡ true → (if b then v else w) ≡ v
first b v w e = ap (λ z. if z then v else w) e

pub own_so : (c : Client) (session : ℕ) → c.live ≡ true → (session == c.session) ≡ becomes_ready c session
own_so c session e = sym (first c.live (session == c.session) (nat_lt c.session session && nat_lt c.session_number last_number) e)

-- a dialog that is left shows in nothing that a client keeps
left : (x : Core) (c : Client) (k : ℕ) → ShowsClient x c → ShowsClient x (leave_dialog c k)
left x c k s =
    record {
      table = record {
        rows = record { places = s.table.rows.places; sends = s.table.rows.sends; stand = s.table.rows.stand };
        session = record {
          live = s.table.session.live;
          session = s.table.session.session;
          number = s.table.session.number;
          tree = s.table.session.tree;
          sequence = s.table.session.sequence;
          channels = s.table.session.channels;
          ready = s.table.session.ready;
          counted = s.table.session.counted;
          apart = s.table.session.apart;
          sized = s.table.session.sized;
          within = s.table.session.within;
        };
        values = s.table.values;
        order = s.table.order;
        refusals = s.table.refusals;
        bounds = record {
          attached = s.table.bounds.attached;
          counted = s.table.bounds.counted;
          limits = s.table.bounds.limits;
          slotted = s.table.bounds.slotted;
          users = s.table.bounds.users;
        };
      };
      attached = s.attached;
      opened = s.opened;
      marked = s.marked;
    }

second : {X : Type 0} (P : X → Type 0) (b : Bool) (v w : X) → b ≡ false → P w → P (if b then v else w)
second P b v w e p = subst (λ z. P (if z then v else w)) (sym e) p

pub again_shown : (x : Core) (c : Client) (k session tree : ℕ) → becomes_ready c session ≡ false → ShowsClient x c
    → ShowsClient x (ready_after c k session tree)
again_shown x c k session tree e s =
    second (λ (z : Client). ShowsClient x z) (becomes_ready c session) _ (leave_dialog c k) e (left x c k s)

-- ---- what isn't awaited

pub unheard : (x : Core) (c : Client) (k g : ℕ) (asking : Bool) (r : Reply) (place : ℕ) → is_awaited c k g asking ≡ false → ShowsClient x c
    → ShowsClient x (hear_after c k g asking r place)
unheard x c k g asking r place e s =
    second (λ (z : Client). ShowsClient x z) (is_awaited c k g asking) (hear c g asking r place (heard c g asking r)) c e s

pub unheard_act : (c : Client) (k g : ℕ) (asking : Bool) (r : Reply) → is_awaited c k g asking ≡ false → Nothing ≡ hear_act c k g asking r
unheard_act c k g asking r e = second (λ (z : Act). Nothing ≡ z) (is_awaited c k g asking) _ Nothing e refl

-- ---- each of the model's events that one of the code may be

moved : (old new : Core) (f : Client → ClientEvent)
    → ((c : Client) → ShowsClient old c → TableKept c → MayCome c (f c) → ShowsClient new (client_after c (f c)))
    → (c : Client) (e : ClientEvent) → ShowsClient old c → TableKept c → e ≡ f c → MayCome c e → ShowsClient new (client_after c e)
moved old new f h c e s k is m =
    subst (λ (z : ClientEvent). ShowsClient new (client_after c z)) (sym is) (h c s k (subst (λ (z : ClientEvent). MayCome c z) is m))

pub shown_each : (old new : Core) (x : Event) → ShowsOne old new x → IsClientEventOther x → ShowsStep old new x
shown_each old new (events.Submit number kind) h o = moved old new (λ d. event_of d (events.Submit number kind)) h
shown_each old new (events.Push channel credits) h o = moved old new (λ d. event_of d (events.Push channel credits)) h
shown_each old new (events.Cut channel) h o = moved old new (λ d. event_of d (events.Cut channel)) h
shown_each old new (events.Ready channel session tree) h o = moved old new (λ d. event_of d (events.Ready channel session tree)) h
shown_each old new (events.Refused channel why) h o = moved old new (λ d. event_of d (events.Refused channel why)) h
shown_each old new (events.Finish why) h o = moved old new (λ d. event_of d (events.Finish why)) h
shown_each old new (events.Hear channel number asking status body) h o = absurd o

told_moved : (old : Core) (a : Told) (f : Client → ClientEvent) → ((c : Client) → ShowsClient old c → TableKept c → act_of a ≡ act c (f c))
    → (c : Client) (e : ClientEvent) → ShowsClient old c → TableKept c → e ≡ f c → act_of a ≡ act c e
told_moved old a f h c e s k is = h c s k ∙ sym (ap (λ (z : ClientEvent). act c z) is)

pub told_each : (old : Core) (x : Event) (a : Told) → TellsOne old x a → IsClientEventOther x → ClientEventTells old x a
told_each old (events.Submit number kind) told h o = told_moved old told (λ d. event_of d (events.Submit number kind)) h
told_each old (events.Push channel credits) told h o = told_moved old told (λ d. event_of d (events.Push channel credits)) h
told_each old (events.Cut channel) told h o = told_moved old told (λ d. event_of d (events.Cut channel)) h
told_each old (events.Ready channel session tree) told h o = told_moved old told (λ d. event_of d (events.Ready channel session tree)) h
told_each old (events.Refused channel why) told h o = told_moved old told (λ d. event_of d (events.Refused channel why)) h
told_each old (events.Finish why) told h o = told_moved old told (λ d. event_of d (events.Finish why)) h
told_each old (events.Hear channel number asking status body) told h o = absurd o

pub means_own : (c : Client) (x : Event) → Means c x (event_of c x)
means_own c (events.Submit number kind) = refl
means_own c (events.Push channel credits) = refl
means_own c (events.Cut channel) = refl
means_own c (events.Ready channel session tree) = refl
means_own c (events.Refused channel why) = refl
means_own c (events.Finish why) = refl
means_own c (events.Hear channel number asking status body) = (reply_with status (body_of body), 0, refl, refl, refl)

pub may_each : (c : Client) (x : Event) (e : ClientEvent) → Means c x e → MayCome c (event_of c x) → MayCome c e
may_each c (events.Submit number kind) e is m = subst (λ (z : ClientEvent). MayCome c z) (sym is) m
may_each c (events.Push channel credits) e is m = subst (λ (z : ClientEvent). MayCome c z) (sym is) m
may_each c (events.Cut channel) e is m = subst (λ (z : ClientEvent). MayCome c z) (sym is) m
may_each c (events.Ready channel session tree) e is m = subst (λ (z : ClientEvent). MayCome c z) (sym is) m
may_each c (events.Refused channel why) e is m = subst (λ (z : ClientEvent). MayCome c z) (sym is) m
may_each c (events.Finish why) e is m = subst (λ (z : ClientEvent). MayCome c z) (sym is) m
may_each c (events.Hear channel number asking status body) e is m = subst (λ (z : ClientEvent). MayCome c z) (sym is.4) tt
