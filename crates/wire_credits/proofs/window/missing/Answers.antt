use Rattle.std.proofs.Common.{◌≡◌, ◌+◌, ◌<◌, take, drop, length, refl, sym, ◌∙◌, subst, arith, length-drop}
use Rattle.std.proofs.lemmas.List.{get_or_default}
use Rattle.spec_wire.specs.credits.Ids.{ids_from}
use Rattle.law_wire.proofs.credits.Rows.{AllLess-get, no_gap, run_fits, found_gap, run_more, not_some}
use Rattle.wire_credits.proofs.window.missing.Goals as goal

pub overflow_add-place : goal.overflow_add-place
overflow_add-place c =
    let few = c.requires.few in
    let within = c.requires.split.within in
    let fits = run_fits c.args.first c.loop-k.k c.args.place c.args.ids.now.items c.loop-k.invariant.run in
    let lengths = length-drop c.args.place c.args.ids.now.items in omega arith

pub overflow_add-wanted : goal.overflow_add-wanted
overflow_add-wanted c =
    let l : c.args.place + c.loop-k.k < length c.args.ids.now.items = let there = c.in-Some.ensures.variant.0 refl in omega arith in
    let less = AllLess-get _ c.args.ids.now.items (c.args.place + c.loop-k.k) c.in-Some.id.now c.requires.last l in
    let read = c.in-Some.ensures.lookup in
    let same = c.if-id-wanted.true in omega arith

pub returns-in_default-clause-found : goal.returns-in_default-clause-found
returns-in_default-clause-found c =
    let xs = c.args.ids.now.items in
    let place = c.args.place + c.loop-k.k in
    found_gap c.args.first c.args.count c.loop-k.k c.args.place c.loop-k.wanted xs c.requires.ascending c.requires.split
    c.loop-k-test.true c.loop-k.invariant.run c.loop-k.invariant.wanted
    (λ l e. c.if-id-wanted.false (c.in-Some.ensures.lookup ∙ (get_or_default xs place c.in-Some.id.now 0 l ∙ e)))

pub returns-in_default-2-clause-found : goal.returns-in_default-2-clause-found
returns-in_default-2-clause-found c =
    found_gap c.args.first c.args.count c.loop-k.k c.args.place c.loop-k.wanted c.args.ids.now.items
    c.requires.ascending c.requires.split c.loop-k-test.true c.loop-k.invariant.run c.loop-k.invariant.wanted
    (λ l e. not_some c.get.result c.in_default.is (c.get.ensures.variant.1 (omega arith)))

pub loop-k-preserved : goal.loop-k-preserved
loop-k-preserved c =
    let l : c.args.place + c.loop-k.k < length c.args.ids.now.items = let there = c.in-Some.ensures.variant.0 refl in omega arith in
    record {
      wanted = let was = c.loop-k.invariant.wanted in omega arith;
      run = run_more c.args.first c.loop-k.k c.args.place c.loop-k.wanted c.in-Some.id.now c.args.ids.now.items l
          c.loop-k.invariant.run c.loop-k.invariant.wanted c.if-id-wanted.true c.in-Some.ensures.lookup;
    }

pub returns-clause-found : goal.returns-clause-found
returns-clause-found c =
    let xs = c.args.ids.now.items in
    let all : c.loop-k.k ≡ c.args.count = let low = c.loop-k.auto.k-end in let high = c.loop-k-test.false in omega arith in
    sym (no_gap c.args.first c.args.count c.args.place xs c.requires.split
    (subst (λ n. take n (drop c.args.place xs) ≡ ids_from c.args.first n) all c.loop-k.invariant.run))
