use Rattle.std.proofs.Common.{◌≡◌, ◌≤◌, ◌<◌, ◌+◌, ℕ, List, length, take, drop, get_or, ap, subst, ◌∙◌, arith, false}
use Rattle.std.proofs.lemmas.List.{take_all}
use Rattle.spec_exchange.specs.Step.{take_all_out, take_all_records}
use Rattle.journal_bytes.specs.record_bytes.Meaning.{records_of}
use Rattle.journal_bytes.specs.declared.record_bytes.value.Record.{Record}
use Rattle.law_records.specs.leaving_opens.Out.{ends_left}
use Rattle.server_effects.proofs.leaving_opens.connections.all_end_records.Goals as goal

pub loop-i-init : goal.loop-i-init
unfolding take_all_out take_all_records
loop-i-init c = λ now s f o t h. (c.new-leaving.ensures s f, ap (λ (v : List Record). records_of v) c.new-records.ensures)

pub loop-i-preserved : goal.loop-i-preserved
loop-i-preserved c = λ now s f o t h.
    let cs = c.connections-connections.ensures s h in
    let n : length c.connections-connections.result.now ≡ length s.connections = ap (λ (v : List ℕ). length v) cs in
    let less : c.loop-i.i < length s.connections = omega arith in
    let a = c.loop-i.invariant now s f o t h in
    c.in_ok-end_with.ensures s now c.loop-i.i f o t less
    (subst (λ (v : List ℕ). c.ends_behind-session.result
    ≡ ends_left s (take c.loop-i.i v) (get_or v c.loop-i.i 0) (drop (c.loop-i.i + 1) v))
    cs (c.ends_behind-session.ensures s h)) a.0 a.1

pub returns : goal.returns
returns c = λ now s f o t h.
    let cs = c.connections-connections.ensures s h in
    let n : length c.connections-connections.result.now ≡ length s.connections = ap (λ (v : List ℕ). length v) cs in
    let all : length s.connections ≤ c.loop-i.i = omega arith in
    (c.loop-i.invariant now s f o t h).1 ∙ ap (λ (v : List ℕ). take_all_records s v now false) (take_all c.loop-i.i s.connections all)
