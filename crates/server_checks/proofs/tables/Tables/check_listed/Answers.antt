use Rattle.std.proofs.Common.{List, ℕ, Bor, ap, is_some, ◌∙◌}
use Rattle.spec_exchange.specs.CheckOpen.{begins_at}
use Rattle.spec_exchange.specs.Listing.{all_named, wanted}
use Rattle.server_checks.proofs.Listings.{listed_is, some_mapped}
use Rattle.server_checks.proofs.Passed.{passed}
use Rattle.server_checks.specs.verdicts.Views.{verdict_of}
use Rattle.server_checks.proofs.tables.Tables.check_listed.Goals as goal

pub returns : goal.returns
returns c = λ k s t st x e.
    let last = begins_at c.args.restart (s.enumeration_location c.args.id) in
    let b = c.behind-behind.ensures s t st in
    let h = rw b at (c.in_ok-listed.ensures s t.files x) in
    passed c.listing_of.result (verdict_of k) _ _
    (listed_is s c.args.id c.args.class c.args.single c.args.pattern.now c.args.room last c.args.file _ e h.0)
    (c.listing_of.ensures k last (wanted last c.args.pattern.now (all_named s c.args.file))
    (c.is_some.ensures ∙ (some_mapped (λ (u : Bor (List ℕ)). u.now) c.behind-behind.result ∙ ap is_some b)) h.1)
