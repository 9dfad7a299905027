-- Along a repeat run the server's tables fit, its records stand for it, and no session that is over comes back.
use Rattle.std.proofs.Common.{◌≡◌, List, [], ◌∷◌, ◌++◌, refl, sym, subst}
use Rattle.spec_world.specs.Settings.{WorldSettings, values_of}
use Rattle.spec_hostile.specs.RepeatRuns.{RepeatWorld, RepeatEvent, repeat_happens, repeat_run, repeat_start}
use Rattle.law_hostile.specs.ended.EndedSessions.{RepeatRecordsStand, RepeatSessionsStayOver}
use Rattle.law_hostile.proofs.ids.Frames as frames
use Rattle.law_hostile.proofs.ids.PlainRuns as plains
use Rattle.law_hostile.proofs.greeted.Greeting.{AllFine}
use Rattle.law_hostile.proofs.loosely.Over.{KeepsOver, Stands, keeps_self, then_over, stands_of}
use Rattle.law_hostile.proofs.loosely.Runs.{begins}
use Rattle.law_hostile.proofs.ended.Moving.{event_moves}

pub start_stands : (z : WorldSettings) → Stands (repeat_start z).world.values
start_stands z = let s = values_of z in stands_of s.who.share (repeat_start z).world.values (λ g. 0) (begins s)

pub fine_on : (z : WorldSettings) (r : RepeatWorld) (e : RepeatEvent) → z.client.ciphers ≡ [] → AllFine z r → AllFine z (repeat_happens z r e)
fine_on z r e c fine = (frames.event_holds z r e fine.0, plains.event_holds z r e c fine.1)

pub start_fine : (z : WorldSettings) → AllFine z (repeat_start z)
start_fine z = (frames.start_holds z, plains.start_holds z)

-- all of it from any world on
record Along (z : WorldSettings) (r v : RepeatWorld) : Type 0 where
  fine : AllFine z v
  stands : Stands v.world.values
  over : KeepsOver r.world.values.server v.world.values.server

along : (z : WorldSettings) → z.client.ciphers ≡ [] → (es : List RepeatEvent) (r : RepeatWorld) → AllFine z r → Stands r.world.values
    → Along z r (repeat_run z es r)
unfolding repeat_run
along z c [] r fine stands = record { fine = fine; stands = stands; over = keeps_self r.world.values.server }
along z c (e ∷ es) r fine stands =
    let v = repeat_happens z r e in
    let m = event_moves z r e fine stands in
    let a = along z c es v (fine_on z r e c fine) m.stands in
    record {
      fine = a.fine;
      stands = a.stands;
      over = then_over r.world.values.server v.world.values.server (repeat_run z es v).world.values.server m.over a.over;
    }

from_start : (z : WorldSettings) → z.client.ciphers ≡ [] → (es : List RepeatEvent) → Along z (repeat_start z) (repeat_run z es (repeat_start z))
from_start z c es = along z c es (repeat_start z) (start_fine z) (start_stands z)

pub servers_stand : RepeatRecordsStand
servers_stand z es c =
    let a = from_start z c es in
    let s = a.stands in
    record { fits = s.fits.0; recorded = s.recorded }

run_split : (z : WorldSettings) (a b : List RepeatEvent) (r : RepeatWorld) → repeat_run z (a ++ b) r ≡ repeat_run z b (repeat_run z a r)
unfolding repeat_run
run_split z [] b r = refl
run_split z (e ∷ a) b r = run_split z a b (repeat_happens z r e)

pub sessions_over : RepeatSessionsStayOver
sessions_over z es more c =
    let r = repeat_run z es (repeat_start z) in
    let a = from_start z c es in
    let b = along z c more r a.fine a.stands in
    let k : KeepsOver r.world.values.server (repeat_run z (es ++ more) (repeat_start z)).world.values.server =
    subst (λ (v : RepeatWorld). KeepsOver r.world.values.server v.world.values.server) (sym (run_split z es more (repeat_start z))) b.over in
    record { made = k.made; over = k.over }
