-- Turns of a client, and what channels share behind them.
use Rattle.std.proofs.Common.{◌≡◌, ℕ, false, inl, inr, sym, ap, subst, ◌∙◌}
use Rattle.client_events.specs.declared.event_calls.steps.Act.{Act}
use Rattle.client_events.specs.declared.event_calls.steps.Event.{Event}
use Rattle.client_events.specs.event_calls.Events.{ClientEventTells}
use Rattle.client_events.specs.played_client.Holding.{PlayedSteps}
use Rattle.client_steps.specs.declared.whole_client.client.Client.{Client as Core}
use Rattle.client_steps.specs.whole_client.Shown.{ShowsClient}
use Rattle.client_book.specs.Beginning.{Shared}
use Rattle.client_book.specs.Steps.{ClientSteps, Goes, Happens, LeavesClient, Rests, Stops, StopsOr, TakesAs, TellsAct, shared_of}
use Rattle.client_book.specs.declared.book.ClientBook.{ClientBook}
use Rattle.client_book.specs.declared.turn.Told.{Told}
use Rattle.client_book.specs.declared.turn.Turn.{Turn}

pub or_then : {P Q : Type 0} (told : Told) (new : ClientBook) → (P → Q) → StopsOr told new P → StopsOr told new Q
or_then told new f (inl s) = inl s
or_then told new f (inr p) = inr (f p)

-- behind a turn that memory was found for
pub stepped : (old : ClientBook) (turn : Turn) (told : Told) (new : ClientBook) → old.stopped ≡ false → StopsOr told new
    (Goes old turn told new)
    → ClientSteps old turn told new
stepped old turn told new going (inl s) = inl s
stepped old turn told new going (inr g) = inr (going, g)

-- an event that happened, and what is told of its act
pub taken : (old mid new : ClientBook) (x : Event) (act : Act) (told : Told) → old.stopped ≡ false → mid.salt ≡ old.salt
    → mid.stopped ≡ old.stopped → shared_of mid ≡ shared_of old → PlayedSteps old.client mid.client x → ClientEventTells old.client x act
    → StopsOr told new ((new ≡ mid) × TellsAct act mid.client mid.salt told) → TakesAs old x told new
taken old mid new x act told going salt stopped shared shown acts (inl s) = inl s
taken old mid new x act told going salt stopped shared shown acts (inr (same, tells)) =
    let is : TakesAs old x told mid = inr (
      record {
        lasts = record { salt = salt; going = stopped ∙ going };
        shown = shown;
        act = act;
        acts = acts;
        tells = subst (λ (n : ℕ). TellsAct act mid.client n told) salt tells;
      },
      shared,
    ) in
    subst (λ (b : ClientBook). TakesAs old x told b) (sym same) is

stops_behind : (told : Told) (mid new : ClientBook) → Stops told mid → LeavesClient mid new → Stops told new
stops_behind told mid new s l = record { is = s.is; stopped = l.stopped ∙ s.stopped }

happens_behind : (old mid new : ClientBook) (x : Event) (told : Told) → Happens old x told mid → LeavesClient mid new
    → Happens old x told new
happens_behind old mid new x told h l = record {
  lasts = record { salt = l.salt ∙ h.lasts.salt; going = l.stopped ∙ h.lasts.going };
  shown = subst (λ (c : Core). PlayedSteps old.client c x) (sym l.client) h.shown;
  act = h.act;
  acts = h.acts;
  tells = subst (λ (c : Core). TellsAct h.act c old.salt told) (sym l.client) h.tells;
}

-- a change of what channels share behind an event
pub with_shared : (old mid new : ClientBook) (x : Event) (told : Told) (f : Shared → Shared) → TakesAs old x told mid → LeavesClient mid new
    → shared_of new ≡ f (shared_of mid) → StopsOr told new (Happens old x told new × (shared_of new ≡ f (shared_of old)))
with_shared old mid new x told f (inl s) l e = inl (stops_behind told mid new s l)
with_shared old mid new x told f (inr (h, same)) l e = inr (happens_behind old mid new x told h l, e ∙ ap f same)

-- and in front of one
pub happens_before : (old mid new : ClientBook) (x : Event) (told : Told) → LeavesClient old mid → Happens mid x told new
    → Happens old x told new
happens_before old mid new x told l h = record {
  lasts = record { salt = h.lasts.salt ∙ l.salt; going = h.lasts.going };
  shown = subst (λ (c : Core). PlayedSteps c new.client x) l.client h.shown;
  act = h.act;
  acts = subst (λ (c : Core). ClientEventTells c x h.act) l.client h.acts;
  tells = subst (λ (n : ℕ). TellsAct h.act new.client n told) l.salt h.tells;
}

pub rests_of : (old new : ClientBook) → old.stopped ≡ false → LeavesClient old new → Rests old new
rests_of old new going l = record {
  lasts = record { salt = l.salt; going = l.stopped ∙ going };
  shown = λ c s. subst (λ (x : Core). ShowsClient x c) (sym l.client) s;
}

pub rests_before : (old mid new : ClientBook) → LeavesClient old mid → Rests mid new → Rests old new
rests_before old mid new l r = record {
  lasts = record { salt = r.lasts.salt ∙ l.salt; going = r.lasts.going };
  shown = λ c s. r.shown c (subst (λ (x : Core). ShowsClient x c) (sym l.client) s);
}

pub leaves : (old new : ClientBook) → new.client ≡ old.client → new.salt ≡ old.salt → new.stopped ≡ old.stopped → LeavesClient old new
leaves old new client salt stopped = record { client = client; salt = salt; stopped = stopped }

-- one change behind another
pub leaves_on : (old mid new : ClientBook) → LeavesClient old mid → LeavesClient mid new → LeavesClient old new
leaves_on old mid new l m = record { client = m.client ∙ l.client; salt = m.salt ∙ l.salt; stopped = m.stopped ∙ l.stopped }
