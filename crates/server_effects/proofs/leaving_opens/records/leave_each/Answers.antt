use Rattle.std.proofs.Common.{◌≤◌, List, ℕ, length, subst, take, arith}
use Rattle.std.proofs.lemmas.List.{take_all}
use Rattle.spec_exchange.specs.Effects.{leave_all}
use Rattle.journal_bytes.specs.record_bytes.Meaning.{records_of}
use Rattle.server_effects.proofs.leaving_opens.Each.{each_stands, each_next, none_left, HaveLeft}
use Rattle.server_effects.proofs.leaving_opens.records.leave_each.Goals as goal

pub loop-id-init : goal.loop-id-init
loop-id-init c = λ s u f o t l a st. none_left c.args.leaving.now s u c.args.origin _ l

pub loop-id-preserved : goal.loop-id-preserved
loop-id-preserved c = λ s u f o t l a st.
    let ids = c.args.ids.now in
    let i = c.loop-id.id-index in
    let before = c.loop-id.invariant s u f o t l a st in
    each_next c.leave_in.new.leaving s u c.args.origin ids i _ _ _ c.loop-id-test.true before.1
    (c.in_ok-leave_in.ensures s (leave_all u (take i ids)) f o t before.0 (each_stands u ids i c.loop-id-test.true a st))

pub returns : goal.returns
returns c = λ s u f o t l a st.
    let ids = c.args.ids.now in
    let all : length ids ≤ c.loop-id.id-index = omega arith in
    subst (λ (v : List ℕ). HaveLeft c.loop-id.leaving s u c.args.origin v (records_of c.args.records.now) (records_of c.loop-id.records))
    (take_all c.loop-id.id-index ids all) (c.loop-id.invariant s u f o t l a st)
