-- Over every run without tampering the values are those of a run of the model.
use Rattle.std.proofs.Common.{◌≡◌, List, [], ◌∷◌, ◌++◌, refl, sym, ap, ◌∙◌}
use Rattle.std.proofs.lemmas.List.{append_assoc}
use Rattle.spec_exchange.specs.Network.{Event, happens, run, start}
use Rattle.law_sessions.proofs.messages.Reached.{run_more}
use Rattle.spec_wire.specs.credits.Exchange.{NothingIsRefused}
use Rattle.spec_world.specs.Settings.{WorldSettings, values_of}
use Rattle.spec_world.specs.World.{World}
use Rattle.spec_world.specs.Events.{Plain, bytes_happen, bytes_run, bytes_start}
use Rattle.spec_world.specs.Statements.{plainly, plain_run, value_event, value_events, RequestsAreHeard}
use Rattle.law_ties.specs.wire_facts.Lawful.{IsLawful}
use Rattle.law_ties.specs.events.Links.{IsTied}
use Rattle.law_ties.proofs.events.InStep.{tied_goes}
use Rattle.law_ties.proofs.events.Keeping.{ties_kept}
use Rattle.law_dialogs.proofs.waiting.Due.{worlds_are_due}
use Rattle.law_dialogs.specs.runs.Bounds.{AreRunsBounded, RunsGoInStep}
use Rattle.law_dialogs.proofs.runs.Supplied.{supplies}
use Rattle.law_dialogs.proofs.runs.Events.{stays_tied}

-- ---- one more event at the end

bytes_more : (z : WorldSettings) (es : List Event) (e : Event) (w : World)
    → bytes_run z (plainly (es ++ e ∷ [])) w ≡ bytes_happen z (bytes_run z (plainly es) w) (Plain e)
unfolding bytes_run plainly
bytes_more z [] e w = refl
bytes_more z (x ∷ es) e w = bytes_more z es e (bytes_happen z w (Plain x))

-- and of the model's
values_more : (z : WorldSettings) (es : List Event) (e : Event) (w : World)
    → value_events z w (es ++ e ∷ []) ≡ value_events z w es ++ value_event (bytes_run z (plainly es) w) e ∷ []
unfolding bytes_run plainly value_events
values_more z [] e w = refl
values_more z (x ∷ es) e w =
    ap (λ vs. value_event w x ∷ vs) (values_more z es e (bytes_happen z w (Plain x)))

nothing_run : (z : WorldSettings) → start (values_of z) ≡ run (value_events z (bytes_start z) []) (start (values_of z))
unfolding run value_events
nothing_run z = refl

nothing_happened : (z : WorldSettings) → bytes_start z ≡ plain_run z []
unfolding bytes_run plainly
nothing_happened z = refl

-- what holds of a world of a run on
record Here (z : WorldSettings) (w : World) (before : List Event) : Type 0 where
  tied : IsTied z w
  reached : w ≡ plain_run z before
  is : w.values ≡ run (value_events z (bytes_start z) before) (start (values_of z))

-- and of the one that some more events lead to
record There (z : WorldSettings) (w v : World) (es : List Event) : Type 0 where
  in_step : v.values ≡ run (value_events z w es) w.values
  tied : IsTied z v
  requests : RequestsAreHeard z v

-- the model's event behind those before it
values_next : (z : WorldSettings) (before : List Event) (x : Event) (w : World) → w ≡ plain_run z before
    → value_events z (bytes_start z) before ++ value_event w x ∷ [] ≡ value_events z (bytes_start z) (before ++ x ∷ [])
values_next z before x w reached =
    ap (λ u. value_events z (bytes_start z) before ++ value_event u x ∷ []) reached ∙ sym (values_more z before x (bytes_start z))

from_here : NothingIsRefused → (z : WorldSettings) → IsLawful z → (events : List Event) → AreRunsBounded z events
    → (es : List Event) (w : World) (before : List Event) → before ++ es ≡ events → Here z w before
    → There z w (bytes_run z (plainly es) w) es
unfolding bytes_run plainly value_events run
from_here held z law events bounded [] w before part h =
    let d = worlds_are_due z w (value_events z (bytes_start z) before) h.is in
    let g = tied_goes held z w h.tied d.due in
    record { in_step = refl; tied = h.tied; requests = g.requests }
from_here held z law events bounded (x ∷ es) w before part h =
    let values = value_events z (bytes_start z) before in
    let d = worlds_are_due z w values h.is in
    let s = supplies z w values h.is h.tied d (bounded before es x w part h.reached h.is h.tied) in
    let g = tied_goes held z w h.tied d.due in
    let v = bytes_happen z w (Plain x) in
    let e = value_event w x in
    let next : v.values ≡ run (values ++ e ∷ []) (start (values_of z)) =
    g.values x ∙ (ap (λ u. happens u e) h.is ∙ sym (run_more values e (start (values_of z)))) in
    let is : v.values ≡ run (value_events z (bytes_start z) (before ++ x ∷ [])) (start (values_of z)) =
    next ∙ ap (λ vs. run vs (start (values_of z))) (values_next z before x w h.reached) in
    let reached : v ≡ plain_run z (before ++ x ∷ []) =
    ap (λ u. bytes_happen z u (Plain x)) h.reached ∙ sym (bytes_more z before x (bytes_start z)) in
    let t = from_here held z law events bounded es v (before ++ x ∷ []) (append_assoc before (x ∷ []) es ∙ part)
    (record { tied = stays_tied held z law w h.tied d s x; reached = reached; is = is }) in
    record {
      in_step = t.in_step ∙ ap (λ u. run (value_events z v es) u) (g.values x);
      tied = t.tied;
      requests = t.requests;
    }

pub runs_go : NothingIsRefused → RunsGoInStep
runs_go held z events law bounded =
    let ties = ties_kept z in
    let t = from_here held z law events bounded events (bytes_start z) [] refl
    (record { tied = ties.start; reached = nothing_happened z; is = nothing_run z }) in
    record { in_step = t.in_step; requests = t.requests; tied = t.tied }
