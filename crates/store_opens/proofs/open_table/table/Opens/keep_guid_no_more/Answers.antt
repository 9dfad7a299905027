use Rattle.std.proofs.Common.{Some, refl, sym, ◌∙◌, arith}
use Rattle.std.specs.HashSet as set
use Rattle.store_opens.proofs.open_table.ExpiredLemmas.{shows_expired, taken_out_of}
use Rattle.store_opens.proofs.open_table.table.Opens.keep_guid_no_more.Goals as goal
use Rattle.spec_exchange.specs.Step.{add_expired_guid}
use Rattle.store_opens.specs.open_table.Shown.{pair_eq, ShowsOpens}

pub returns-in-Some-clause-shown : goal.returns-in-Some-clause-shown
returns-in-Some-clause-shown c = λ s h0 e0.
    let h : ShowsOpens c.args.self.now (add_expired_guid s c.args.client (Some c.in-Some.guid)) = rw c.in-Some.is at h0 in
    let e = rw c.in-Some.is at e0 in
    shows_expired c.args.self.now (record c.args.self.now {
      expired = c.forget_new.new.expired;
      expired_count = c.saturating_sub-self.result;
    }) (add_expired_guid s c.args.client (Some c.in-Some.guid))
    s.expired_guids s.expired_count refl
    (λ k g. taken_out_of s.expired_guids (λ d e. set.contains pair_eq c.args.self.now.expired (d, e)) c.args.client
    c.in-Some.guid k g c.args.was_kept e h.expired_are ∙ sym (c.forget_new.ensures k g))
    (let n = h.expired_count_is in let k = c.saturating_sub-self.ensures in grind arith) h
