use Rattle.std.proofs.Common.{◌≡◌, true, List, ℕ, sym, subst, ◌∙◌}
use Rattle.std.specs.Prelude.{OnOk}
use Rattle.journal_bytes.specs.record_bytes.Meaning.{records_of}
use Rattle.law_server.specs.tables.Fits.{is_ascending}
use Rattle.law_records.specs.leaving_opens.Since.{AllStand}
use Rattle.law_records.proofs.leaving_opens.All.{plain_in_order}
use Rattle.server_effects.proofs.leaving_opens.Each.{HaveLeft}
use Rattle.server_effects.proofs.leaving_opens.records.end_in.Goals as goal

pub returns : goal.returns
returns c = λ s u f o t l st.
    let e = c.as_slice.ensures.value ∙ c.in_ok-ids.ensures s f o in
    subst (λ (os : List ℕ). OnOk c.leave_each.result (HaveLeft c.leave_each.new.leaving s u c.args.origin os
    (records_of c.args.records.now) (records_of c.leave_each.new.records))) e
    (c.leave_each.ensures s u f o t l (subst (λ (os : List ℕ). is_ascending os ≡ true) (sym e) (plain_in_order s c.args.session f))
    (subst (λ (os : List ℕ). AllStand u os) (sym e) st))
