-- What is known of the course of a script that has come so far, and how an event that closes nothing carries it on.
use Rattle.std.proofs.Common.{◌≡◌, Bool, true, false, not, ◌&&◌, List, [], ◌∷◌, ◌++◌, refl, sym, subst, ◌∙◌, ap}
use Rattle.spec_exchange.specs.ClientStep.{some_unsettled}
use Rattle.spec_exchange.specs.Schedules.{Course, went}
use Rattle.spec_exchange.specs.Network.{World, Event, Submit, Open, Push, Serve, Take, Cut, Drop, Restart, Crash, Wait}
use Rattle.spec_exchange.specs.Network.{Finish, Settings, happens, run, start}
use Rattle.law_sessions.proofs.messages.Reached.{run_more}
use Rattle.law_server.proofs.tables.Logic.{front_of, back_of, both, front_off, back_off}
use Rattle.law_answers.specs.completeness.Completeness.{loses_nothing, without_losses}
use Rattle.law_answers.proofs.completeness.Facts.{Facts}
use Rattle.law_answers.proofs.completeness.Runs.{OfRun, always}
use Rattle.law_outcomes.specs.scripts.Scripts.{is_quiet, gives_up, has_given_up}
use Rattle.law_outcomes.proofs.scripts.Paired.{Paired, keeps, paired_on}

-- ---- what the events lose

unfoldable pub all_keep : List Event → World → Bool
all_keep [] w = true
all_keep (e ∷ es) w = keeps w e && all_keep es (happens w e)

one_more : (es : List Event) (e : Event) (w : World) → all_keep es w ≡ true → keeps (run es w) e ≡ true
    → all_keep (es ++ e ∷ []) w ≡ true
unfolding all_keep run
one_more [] e w h c = both (keeps w e) true c refl
one_more (x ∷ es) e w h c =
    both (keeps w x) (all_keep (es ++ e ∷ []) (happens w x)) (front_of (keeps w x) _ h)
    (one_more es e (happens w x) (back_of (keeps w x) _ h) c)

settled_cut : (r s : Bool) → not s ≡ true → not (r && s) ≡ true
settled_cut true s e = e
settled_cut false s e = refl

loses : (w : World) (e : Event) → keeps w e ≡ true → gives_up w e ≡ false → loses_nothing w e ≡ true
loses w (Cut k) c g = settled_cut (w.client.ready k) (some_unsettled w.client w.client.taken) c
loses w (Finish refusal) c g = ap not g
loses w (Submit n op) c g = refl
loses w (Open k) c g = refl
loses w (Push k slotless pick) c g = refl
loses w (Serve k) c g = refl
loses w (Take k) c g = refl
loses w (Drop k) c g = refl
loses w Restart c g = refl
loses w (Crash k kept) c g = refl
loses w (Wait n) c g = refl

-- what keeps everything and gives nothing up loses nothing
pub nothing_lost : (es : List Event) (w : World) → all_keep es w ≡ true → has_given_up es w ≡ false → without_losses es w ≡ true
unfolding all_keep has_given_up without_losses
nothing_lost [] w h g = refl
nothing_lost (e ∷ es) w h g =
    both (loses_nothing w e) (without_losses es (happens w e))
    (loses w e (front_of (keeps w e) _ h) (front_off (gives_up w e) _ g))
    (nothing_lost es (happens w e) (back_of (keeps w e) _ h) (back_off (gives_up w e) _ g))

-- each event of the list, in the world that it comes to
pub kept_in : (before after : List Event) (e : Event) (w : World) → all_keep (before ++ e ∷ after) w ≡ true
    → keeps (run before w) e ≡ true
unfolding all_keep run
kept_in [] after e w h = front_of (keeps w e) _ h
kept_in (x ∷ before) after e w h = kept_in before after e (happens w x) (back_of (keeps w x) _ h)

-- ---- the course so far

pub record Quietly (z : Settings) (c : Course) : Type 0 where
  pub is : run c.events (start z) ≡ c.world
  pub paired : Paired c.world.conns
  pub kept : all_keep c.events (start z) ≡ true

pub of_run : (z : Settings) (c : Course) → Quietly z c → OfRun z c.world
of_run z c h = record { events = c.events; is = h.is }

pub facts_of : (z : Settings) (c : Course) → Quietly z c → Facts c.world
facts_of z c h = (always z).facts c.world (of_run z c h)

pub goes_on : (z : Settings) (c : Course) (e : Event) → keeps c.world e ≡ true → Quietly z c → Quietly z (went c e)
unfolding went
goes_on z c e k h =
    record {
      is = run_more c.events e (start z) ∙ ap (λ (w : World). happens w e) h.is;
      paired = paired_on c.world e (facts_of z c h) k h.paired;
      kept = one_more c.events e (start z) h.kept (subst (λ (w : World). keeps w e ≡ true) (sym h.is) k);
    }

quiet_keeps : (w : World) (e : Event) → is_quiet e ≡ true → keeps w e ≡ true
quiet_keeps w (Submit n op) q = refl
quiet_keeps w (Open k) q = refl
quiet_keeps w (Push k slotless pick) q = refl
quiet_keeps w (Serve k) q = refl
quiet_keeps w (Take k) q = refl
quiet_keeps w (Cut k) q = absurd (cc)
quiet_keeps w (Drop k) q = absurd (cc)
quiet_keeps w Restart q = absurd (cc)
quiet_keeps w (Crash k kept) q = absurd (cc)
quiet_keeps w (Wait n) q = refl
quiet_keeps w (Finish refusal) q = refl

-- an event that is no cut, drop, restart or crash carries it on
pub quiet_event : (z : Settings) (c : Course) (e : Event) → is_quiet e ≡ true → Quietly z c → Quietly z (went c e)
quiet_event z c e q h = goes_on z c e (quiet_keeps c.world e q) h
