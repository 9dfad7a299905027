-- What the client knows of the sessions that it names: each was given, none makes it, and where one is there it is the client's user's.
use Rattle.std.proofs.Common.{◌≡◌, ℕ, ◌<◌, ◌^◌, false, List, ◌++◌, ◌⊎◌, inl, inr, sym, ◌∙◌, subst}
use Rattle.std.proofs.Common.{Some, slice_get}
use Rattle.spec_wire.proofs.messages.Numbers.{number_of-le}
use Rattle.spec_exchange.specs.State.{Server}
use Rattle.spec_world.specs.Settings.{WorldSettings}
use Rattle.spec_world.specs.Hearing.{begins_sealed}
use Rattle.spec_hostile.specs.RepeatRuns.{RepeatWorld, UpFrame}
use Rattle.law_hostile.specs.ended.Acceptances.{IsBegunFor}
use Rattle.law_hostile.specs.ended.Requests.{AsksSession, previous_named}
use Rattle.law_hostile.proofs.puts.Replies.{in_either}
use Rattle.law_hostile.proofs.dialogs.Lined.{AllPut}
use Rattle.law_hostile.proofs.loosely.Over.{KeepsOver}
use Rattle.law_hostile.proofs.ended.Turns.{Rests, Goes, Ends}
use Rattle.law_hostile.proofs.ended.Naming.{PutsMore}

abbrev pub Known : WorldSettings → Server → ℕ → Type 0
Known z s x = IsBegunFor z s x

abbrev pub NoneOrKnown : WorldSettings → Server → ℕ → Type 0
NoneOrKnown z s x = (x ≡ 0) ⊎ Known z s x

pub known_kept : (z : WorldSettings) (s u : Server) (x : ℕ) → KeepsOver s u → Known z s x → Known z u x
known_kept z s u x k h =
    record {
      made = k.made x h.made;
      user = λ p. let q = k.users x h.made p in q.1 ∙ h.user q.0;
    }

none_kept : (z : WorldSettings) (s u : Server) (x : ℕ) → KeepsOver s u → NoneOrKnown z s x → NoneOrKnown z u x
none_kept z s u x k (inl e) = inl e
none_kept z s u x k (inr h) = inr (known_kept z s u x k h)

abbrev pub PreviousKnown : WorldSettings → Server → UpFrame → Type 0
PreviousKnown z s u = begins_sealed u.frame ≡ false → AsksSession u.frame → NoneOrKnown z s (previous_named u.frame)

pub record Knows (z : WorldSettings) (r : RepeatWorld) : Type 0 where
  pub accepted : NoneOrKnown z r.world.values.server r.world.values.client.accepted
  pub low : r.world.values.client.accepted < 256 ^ 8
  pub pending : r.world.values.client.pending < 256 ^ 8
  pub ups : AllPut (PreviousKnown z r.world.values.server) r.ups

both_put : (P : UpFrame → Type 0) (us vs : List UpFrame) → AllPut P us → AllPut P vs → AllPut P (us ++ vs)
both_put P us vs a b i u at = by (in_either us vs i u at)
  where
    by : ((m : ℕ) × (slice_get us m ≡ Some u)) ⊎ ((m : ℕ) × (slice_get vs m ≡ Some u)) → P u
    by (inl e) = a e.0 u e.1
    by (inr e) = b e.0 u e.1

-- what is put behind a step names what the client knew before it
ups_known : (z : WorldSettings) (r s : RepeatWorld) → KeepsOver r.world.values.server s.world.values.server → PutsMore r s → Knows z r
    → AllPut (PreviousKnown z s.world.values.server) s.ups
ups_known z r s k p h =
    subst (AllPut (PreviousKnown z s.world.values.server)) (sym p.ups)
    (both_put (PreviousKnown z s.world.values.server) r.ups p.more
    (λ i u at bare asks. none_kept z r.world.values.server s.world.values.server (previous_named u.frame) k (h.ups i u at bare asks))
    (λ i u at bare asks. none_kept z r.world.values.server s.world.values.server (previous_named u.frame) k
    (subst (NoneOrKnown z r.world.values.server) (sym (p.named i u at bare asks ∙ number_of-le 8 r.world.values.client.accepted h.low)) h.accepted)))

-- nothing of it changes; or the client was told another session; or it accepts one that is known
pub still_knows : (z : WorldSettings) (r s : RepeatWorld) (k : ℕ) → KeepsOver r.world.values.server s.world.values.server → PutsMore r s
    → Rests r.world s.world k → Knows z r → Knows z s
still_knows z r s k o p e h =
    let n = e.names in
    record {
      accepted = subst (NoneOrKnown z s.world.values.server) (sym n.accepted)
          (none_kept z r.world.values.server s.world.values.server r.world.values.client.accepted o h.accepted);
      low = subst (λ x. x < 256 ^ 8) (sym n.accepted) h.low;
      pending = subst (λ x. x < 256 ^ 8) (sym n.pending) h.pending;
      ups = ups_known z r s o p h;
    }

pub goes_knows : (z : WorldSettings) (r s : RepeatWorld) (k : ℕ) (frame : List ℕ) → KeepsOver r.world.values.server s.world.values.server
    → PutsMore r s → (g : Goes r.world s.world k frame) → (let x = g.response in x.header.session < 256 ^ 8) → Knows z r → Knows z s
goes_knows z r s k frame o p g low h =
    record {
      accepted = subst (NoneOrKnown z s.world.values.server) (sym g.accepted)
          (none_kept z r.world.values.server s.world.values.server r.world.values.client.accepted o h.accepted);
      low = subst (λ x. x < 256 ^ 8) (sym g.accepted) h.low;
      pending = subst (λ x. x < 256 ^ 8) (sym g.pending) low;
      ups = ups_known z r s o p h;
    }

pub accepts_knows : (z : WorldSettings) (r s : RepeatWorld) (k : ℕ) (frame : List ℕ) → KeepsOver r.world.values.server s.world.values.server
    → PutsMore r s → Ends z r.world s.world k frame → Known z r.world.values.server r.world.values.client.pending → Knows z r → Knows z s
accepts_knows z r s k frame o p g known h =
    record {
      accepted = subst (NoneOrKnown z s.world.values.server) (sym g.accepted)
          (inr (known_kept z r.world.values.server s.world.values.server r.world.values.client.pending o known));
      low = subst (λ x. x < 256 ^ 8) (sym g.accepted) h.pending;
      pending = subst (λ x. x < 256 ^ 8) (sym g.pending) h.pending;
      ups = ups_known z r s o p h;
    }
