use Rattle.std.proofs.Common.{◌+◌, true, refl, sym, ◌∙◌, arith}
use Rattle.std.specs.HashSet as set
use Rattle.spec_exchange.specs.Table.{put2}
use Rattle.store_opens.specs.open_table.Shown.{pair_eq}
use Rattle.store_opens.proofs.open_table.ExpiredLemmas.{shows_expired, put2_congr}
use Rattle.store_opens.proofs.open_table.table.Opens.put_expired.Goals as goal

pub returns-clause-shown : goal.returns-clause-shown
returns-clause-shown c = λ s h few. shows_expired c.args.self.now (record c.args.self.now {
  expired = c.put_guid.new.expired;
  expired_count = c.saturating_add-self.result;
}) s
    (put2 s.expired_guids c.args.client c.args.guid true) (s.expired_count + 1) refl
    (λ k g. put2_congr s.expired_guids (λ d e. set.contains pair_eq c.args.self.now.expired (d, e)) c.args.client
    c.args.guid k g true (h.expired_are k g) ∙ sym (c.put_guid.ensures k g))
    (let e = h.expired_count_is in let k = c.saturating_add-self.ensures in omega (arith, e, k, few)) h
