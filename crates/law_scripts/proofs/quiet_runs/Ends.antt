-- The laws of the model on scripts that lose nothing, on the run over bytes.
use Rattle.std.proofs.Common.{◌≡◌, ℕ, true, false, List, [], ◌∷◌, ◌++◌, refl, sym, ap, ◌∙◌, subst}
use Rattle.spec_exchange.specs.Operations.{Outcome, Unsettled, WasOk, WasRefused, NoSlot, NoOpen, Unknown, is_unsettled, is_firm}
use Rattle.spec_exchange.specs.Client.{Client}
use Rattle.spec_exchange.specs.Network.{Event, Submit, Open, Push, Serve, Take, Cut, Drop, Restart, Crash, Wait, Finish}
use Rattle.spec_exchange.specs.Network.{World as Values, Settings}
use Rattle.spec_exchange.specs.Network.{run, start}
use Rattle.spec_exchange.specs.Schedules as values
use Rattle.law_server.proofs.tables.Logic.{both, front_of, back_of}
use Rattle.law_outcomes.specs.outcomes.Outcomes.{OperationAnswered, LacksSlot, LacksOpen, is_known}
use Rattle.law_outcomes.proofs.outcomes.Answers.{all_answered}
use Rattle.law_outcomes.proofs.outcomes.Causes.{causes_told}
use Rattle.law_outcomes.specs.scripts.Scripts.{OperationEnds, ByReply, WithoutSlot, WithoutOpen, has_given_up, is_quiet}
use Rattle.law_outcomes.proofs.scripts.Quiet.{Quietly, all_keep, nothing_lost, quiet_event}
use Rattle.law_outcomes.proofs.scripts.Loops as loops
use Rattle.law_outcomes.proofs.scripts.Settling.{carried_on, settles}
use Rattle.law_replies.specs.courses.Courses.{course_of}
use Rattle.law_scripts.proofs.settling.Lines.{Carries, are_ok, settled_end}
use Rattle.law_scripts.proofs.settling.Steps.{Laws}
use Rattle.spec_world.specs.Courses.{Line, Settles}
use Rattle.spec_world.specs.Events.{bytes_start}
use Rattle.spec_world.specs.Settings.{values_of}
use Rattle.spec_world.specs.Statements.{value_event, value_events}
use Rattle.spec_world.specs.World.{World}
use Rattle.law_scripts.specs.quiet_runs.Quiet.{LinesEnd, are_quiet, is_quiet_line}

-- the model's event loses as little
same_quiet : (w : World) (e : Event) → is_quiet (value_event w e) ≡ is_quiet e
same_quiet w (Submit g op) = refl
same_quiet w (Open k) = refl
same_quiet w (Push k slotless pick) = refl
same_quiet w (Serve k) = refl
same_quiet w (Take k) = refl
same_quiet w (Cut k) = refl
same_quiet w (Drop k) = refl
same_quiet w Restart = refl
same_quiet w (Crash k kept) = refl
same_quiet w (Wait n) = refl
same_quiet w (Finish refusal) = refl

carries : (z : Settings) → Carries (Quietly z) is_quiet_line
carries z = record {
  does = λ d w e o h. quiet_event z d (value_event w e) (same_quiet w e ∙ o) h;
  pushes = λ d k slotless pick h. quiet_event z d (Push k slotless pick) refl h;
  links = λ d k h. loops.links (Quietly z) (carried_on z) d k h;
  settles = λ d fuel h. settles z fuel d h;
}

all_quiet : (ls : List Line) → are_quiet ls ≡ true → are_ok is_quiet_line ls ≡ true
unfolding are_quiet are_ok
all_quiet [] q = refl
all_quiet (l ∷ ls) q =
    both (is_quiet_line l) (are_ok is_quiet_line ls) (front_of (is_quiet_line l) _ q) (all_quiet ls (back_of (is_quiet_line l) _ q))

first : (z : Settings) → Quietly z (record { world = start z; events = [] })
unfolding run all_keep
first z = record { is = refl; paired = λ k o. absurd (cc); kept = refl }

ends_by : (z : Settings) (events : List Event) (c : Client) (g : ℕ) (o : Outcome) → c.outcome g ≡ o → is_unsettled o ≡ false
    → is_known o ≡ true → (is_firm (c.outcome g) ≡ true → OperationAnswered z events g (c.op g) (c.settled_by g) (c.outcome g))
    → ((create : ℕ) → c.outcome g ≡ NoSlot create → LacksSlot z events g create)
    → ((create : ℕ) → c.outcome g ≡ NoOpen create → LacksOpen z events g create) → OperationEnds z events c g
ends_by z events c g Unsettled is settled known firm slot gone = absurd (cc)
ends_by z events c g (WasOk reply) is settled known firm slot gone = let f = ap is_firm is in ByReply f (firm f)
ends_by z events c g (WasRefused status) is settled known firm slot gone = let f = ap is_firm is in ByReply f (firm f)
ends_by z events c g (NoSlot create) is settled known firm slot gone = WithoutSlot create is (slot create is)
ends_by z events c g (NoOpen create) is settled known firm slot gone = WithoutOpen create is (gone create is)
ends_by z events c g (Unknown why) is settled known firm slot gone = absurd (cc)

-- of a run of the model that lost nothing and left nothing unsettled
model_ends : (z : Settings) (d : values.Course) → Quietly z d → has_given_up d.events (start z) ≡ false → (g : ℕ)
    → is_unsettled (d.world.client.outcome g) ≡ false → OperationEnds z d.events d.world.client g
model_ends z d h kept g settled =
    subst (λ (w : Values). OperationEnds z d.events w.client g) h.is
    (let w = run d.events (start z) in
    let s : is_unsettled (w.client.outcome g) ≡ false =
    subst (λ (v : Values). is_unsettled (v.client.outcome g) ≡ false) (sym h.is) settled in
    let a = all_answered z d.events (nothing_lost d.events (start z) h.kept kept) g in
    ends_by z d.events w.client g (w.client.outcome g) refl s a.0 a.1 (λ create. (causes_told z d.events g create).0)
    (λ create. (causes_told z d.events g create).1))

pub lines_end : Laws → LinesEnd
lines_end L z ls short quiet =
    let script = ls ++ Settles ∷ [] in
    let c = course_of z script in
    let s = settled_end (Quietly (values_of z)) is_quiet_line (carries (values_of z)) L z ls short
    (all_quiet script quiet) (first (values_of z)) in
    let step = s.reached.step in
    let d = step.model in
    let h = step.holds in
    let rel = step.rel in
    let a = rel.at in
    let es = rel.events in
    let same : d.world ≡ c.world.values = sym rel.same in (
      es,
      record {
        events = a.told;
        is_run = ap (λ (xs : List Event). run xs (start (values_of z))) (sym rel.values) ∙ (h.is ∙ same);
        ends = λ kept g low high.
            subst (λ (v : Values). OperationEnds (values_of z) (value_events z (bytes_start z) es) v.client g) same
            (subst (λ (xs : List Event). OperationEnds (values_of z) xs d.world.client g) rel.values
            (model_ends (values_of z) d h
            (subst (λ (xs : List Event). has_given_up xs (start (values_of z)) ≡ false) (sym rel.values) kept) g
            (subst (λ (v : Values). is_unsettled (v.client.outcome g) ≡ false) rel.same (s.settled g low high))));
      },
    )
