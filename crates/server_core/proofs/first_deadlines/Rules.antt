-- What a ruling says of a logon is so where it is the state's own with first deadlines, or stands in its place without room.
use Rattle.std.proofs.Common.{◌≡◌, inl, inr, ℕ, Bool, true, false, if◌then◌else◌, length, nat_le, Option, Some}
use Rattle.std.proofs.Common.{None, refl, sym, ap, subst, ◌∙◌}
use Rattle.spec_exchange.specs.CheckCreate.{refused_by}
use Rattle.spec_exchange.specs.Commands.{Durable}
use Rattle.spec_exchange.specs.Check.{check}
use Rattle.spec_exchange.specs.State as model
use Rattle.spec_exchange.specs.Status.{disk_full}
use Rattle.spec_exchange.specs.Step.{Ruling, Says, TakesAllOut, TakesIn, TakesOut, TurnsAway, carried_out, max_connections, ruling}
use Rattle.spec_exchange.specs.Step.{ruling_without_room, without_room}
use Rattle.spec_exchange.specs.Verdict.{AddTree, Alter, Attach, Begin, Challenge, ChallengeBinding, CloseOpen, DropTree, EndSession, Give}
use Rattle.spec_exchange.specs.Verdict.{Join, KeepRefusal, KeepSlot, Make, PutRanges, Refuse, Repeat, Show, Tell, TurnDown, Verdict}
use Rattle.law_records.specs.effects.Making.{EndsMaking}
use Rattle.server_core.specs.logon_progress.Progress.{ruled_progress, verdict_progress}
use Rattle.server_checks.specs.event_heard.Heard.{heard_event}
use Rattle.server_checks.specs.declared.event_heard.event.ServerEvent.{ServerEvent}
use Rattle.server_checks.specs.declared.event_heard.event.ServerEvent.TheVariants as events
use Rattle.server_checks.specs.setups.Setups.{in_the_making, progress_of}
use Rattle.server_core.specs.journaled_tables.Rulings.{MayRule}
use Rattle.server_core.proofs.first_deadlines.Beside.{EndsOn}
use Rattle.spec_crypto.specs.tokens.Tokens.{Users}
use Rattle.spec_world.specs.Ends.{Logons}

-- ---- what a refusal of a create says

refused : (s : model.Server) (d : Option Durable) → verdict_progress s (refused_by d disk_full) ≡ verdict_progress s (Refuse disk_full)
refused s None = refl
refused s (Some d) = refl

lesser_verdict : (s : model.Server) (v : Verdict) → verdict_progress s v ≡ verdict_progress s (without_room v)
lesser_verdict s (Refuse status) = refl
lesser_verdict s (Give body) = refl
lesser_verdict s (KeepRefusal guid status) = refl
lesser_verdict s (Repeat o r) = refl
lesser_verdict s (Attach o r) = refl
lesser_verdict s (Make r found action) = sym (refused s r.durable)
lesser_verdict s (TurnDown o status) = refl
lesser_verdict s (Tell o body) = refl
lesser_verdict s (Show o last body) = refl
lesser_verdict s (KeepSlot o index number status elements) = refl
lesser_verdict s (PutRanges o index number ranges elements) = refl
lesser_verdict s (Alter o change body) = refl
lesser_verdict s (CloseOpen o body) = refl
lesser_verdict s Challenge = refl
lesser_verdict s (ChallengeBinding session) = refl
lesser_verdict s (Begin session user previous r q) = refl
lesser_verdict s (Join session) = refl
lesser_verdict s (EndSession session q) = refl
lesser_verdict s (AddTree pipes) = refl
lesser_verdict s DropTree = refl

lesser_ruling : (s : model.Server) (r : Ruling) → ruled_progress s r ≡ ruled_progress s (ruling_without_room r)
lesser_ruling s (Says m v) = lesser_verdict s v
lesser_ruling s (TakesIn k) = refl
lesser_ruling s TurnsAway = refl
lesser_ruling s (TakesOut k q) = refl
lesser_ruling s (TakesAllOut q) = refl

-- ---- by the laws

-- what `progress_law` says
pub record Tells : Type 0 where
  pub ruled : (s : model.Server) (now : ℕ) (e : model.ServerEvent) → progress_of e (carried_out s now (ruling s e)).reply
      ≡ ruled_progress s (ruling s e)
  pub lesser : (s : model.Server) (now : ℕ) (e : model.ServerEvent)
      → progress_of e (carried_out s now (ruling_without_room (ruling s e))).reply ≡ ruled_progress s (ruling s e)

-- what `making_law` says
pub record Names : Type 0 where
  pub checked : (s : model.Server) (m : model.Message) → EndsMaking s m (check s m)
  pub lesser : (s : model.Server) (m : model.Message) → EndsMaking s m (without_room (check s m))

-- the ruling of a state that rules alike
pub may_rule : (s d : model.Server) (e : model.ServerEvent) (r : Ruling) → ruling d e ≡ ruling s e → MayRule s e r → MayRule d e r
may_rule s d e r k (inl h) = inl (h ∙ sym k)
may_rule s d e r k (inr h) = inr (h ∙ sym (ap ruling_without_room k))

told_by : Tells → (d : model.Server) (now : ℕ) (e : model.ServerEvent) (r : Ruling) → MayRule d e r
    → progress_of e (carried_out d now r).reply ≡ ruled_progress d r
told_by law d now e r (inl h) =
    subst (λ (x : Ruling). progress_of e (carried_out d now x).reply ≡ ruled_progress d x) (sym h) (law.ruled d now e)
told_by law d now e r (inr h) =
    subst (λ (x : Ruling). progress_of e (carried_out d now x).reply ≡ ruled_progress d x) (sym h)
    (law.lesser d now e ∙ lesser_ruling d (ruling d e))

accepted : (d : model.Server) (k : ℕ) (b : Bool) → EndsOn d (if b then TurnsAway else TakesIn k)
accepted d k true = tt
accepted d k false = tt

accepted_lesser : (d : model.Server) (k : ℕ) (b : Bool) → EndsOn d (ruling_without_room (if b then TurnsAway else TakesIn k))
accepted_lesser d k true = tt
accepted_lesser d k false = tt

ends_ruled : Names → (d : model.Server) (e : model.ServerEvent) → EndsOn d (ruling d e)
ends_ruled law d (model.Heard m) = law.checked d m
ends_ruled law d (model.Accept k) = accepted d k (nat_le max_connections (length d.connections))
ends_ruled law d (model.End k) = tt
ends_ruled law d model.Stop = tt

ends_lesser : Names → (d : model.Server) (e : model.ServerEvent) → EndsOn d (ruling_without_room (ruling d e))
ends_lesser law d (model.Heard m) = law.lesser d m
ends_lesser law d (model.Accept k) = accepted_lesser d k (nat_le max_connections (length d.connections))
ends_lesser law d (model.End k) = tt
ends_lesser law d model.Stop = tt

pub ends_by : Names → (d : model.Server) (e : model.ServerEvent) (r : Ruling) → MayRule d e r → EndsOn d r
ends_by law d e r (inl h) = subst (λ (x : Ruling). EndsOn d x) (sym h) (ends_ruled law d e)
ends_by law d e r (inr h) = subst (λ (x : Ruling). EndsOn d x) (sym h) (ends_lesser law d e)

-- what the server looks at of logons in the making changes nothing of what comes of the event
same_progress : (users : Users) (L : Logons) (s : model.Server) (e : ServerEvent) (r : model.Reply)
    → progress_of (heard_event users L s e) r ≡ progress_of (heard_event users (in_the_making s L) s e) r
same_progress users L s (events.Accept connection) r = refl
same_progress users L s (events.Message message) r = refl
same_progress users L s (events.Setup h) r = refl
same_progress users L s (events.End connection) r = refl
same_progress users L s events.Stop r = refl

pub told_of : Tells → (users : Users) (L : Logons) (s d : model.Server) (e : ServerEvent) (x : model.ServerEvent) (now : ℕ) (r : Ruling)
    → x ≡ heard_event users (in_the_making s L) s e → MayRule d x r
    → progress_of (heard_event users L s e) (carried_out d now r).reply ≡ ruled_progress d r
told_of law users L s d e x now r said may =
    same_progress users L s e (carried_out d now r).reply
    ∙ (sym (ap (λ (v : model.ServerEvent). progress_of v (carried_out d now r).reply) said) ∙ told_by law d now x r may)
