use Rattle.std.proofs.Common.{ℕ, sym, ap, ◌∙◌, nat_eq}
use Rattle.std.specs.HashMap.{get}
use Rattle.std.specs.BTreeSet.{BTreeSet, contains}
use Rattle.std.specs.Ordering.{nat_cmp}
use Rattle.store_opens.proofs.open_index.SessionLemmas.{written_row, grows_row}
use Rattle.store_opens.proofs.open_index.sessions.stand_in.Goals as goal

pub returns-in-Some-clause-grows : goal.returns-in-Some-clause-grows
returns-in-Some-clause-grows c =
    grows_row (λ q. get nat_eq c.args.sessions.now q) (λ q. get nat_eq (c.get_mut.follows.lender c.stand.new.self) q)
    c.args.session c.in-Some.row.now c.stand.new.self (sym c.in-Some.ensures.value)
    (written_row c.args.sessions.now (c.get_mut.follows.lender c.stand.new.self) c.args.session c.in-Some.row.now
    c.stand.new.self (sym c.in-Some.ensures.value) (c.get_mut.follows.holds c.stand.new.self).3)
    c.stand.ensures.kept (λ o h. ap (λ (v : BTreeSet ℕ). contains nat_cmp v o) c.stand.ensures.opens ∙ h)
    (λ o h. ap (λ (v : BTreeSet ℕ). contains nat_cmp v o) c.stand.ensures.plain ∙ h) c.stand.ensures.others
