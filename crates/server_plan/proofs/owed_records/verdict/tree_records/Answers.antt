use Rattle.std.proofs.Common.{◌≡◌, true, List, ℕ, sym, ap, subst, ◌∙◌}
use Rattle.spec_exchange.specs.Effects.{leave_all_records, opens_of_tree}
use Rattle.spec_exchange.specs.State as model
use Rattle.journal_bytes.specs.record_bytes.Meaning.{records_of}
use Rattle.journal_bytes.specs.declared.record_bytes.value.Record.{Record}
use Rattle.law_server.specs.tables.Fits.{is_ascending}
use Rattle.law_records.specs.leaving_opens.Since.{AllStand}
use Rattle.server_plan.proofs.owed_records.Told.{behind_none, tree_in_order, tree_stand}
use Rattle.server_plan.proofs.owed_records.verdict.tree_records.Goals as goal

pub returns : goal.returns
returns c = λ s f o t.
    let x = c.args.m.now.session_id in
    let n = c.args.m.now.tree_id in
    let e = c.as_slice.ensures.value ∙ c.in_ok-ids.ensures s f o in
    let a = c.in_ok-leave_each.ensures s s f o t (c.new-leaving.ensures s f)
    (subst (λ (os : List ℕ). is_ascending os ≡ true) (sym e) (tree_in_order s x n f))
    (subst (λ (os : List ℕ). AllStand s os) (sym e) (tree_stand s x n f)) in
    behind_none _ _ _ (ap (λ (v : List Record). records_of v) c.new-records.ensures) a.1
    ∙ (ap (λ (os : List ℕ). leave_all_records s c.origin_of-origin.result os) e
    ∙ ap (λ (z : model.Origin). leave_all_records s z (opens_of_tree s x n)) c.origin_of-origin.ensures)
