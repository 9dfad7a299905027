use Rattle.std.proofs.Common.{◌≤◌, ◌<◌, ◌∙◌, List, length, sym, ap, subst, arith}
use Rattle.std.specs.Prelude.{vec_len}
use Rattle.world_ends.specs.declared.sides.Channel.{Channel}
use Rattle.world_steps.specs.Lists.{ChangedAll, ClosesClient}
use Rattle.world_steps.proofs.Setting.{all_done, none_yet, one_more, written}
use Rattle.world_steps.proofs.cutting.close_clients.Goals as goal

pub loop-channel-init : goal.loop-channel-init
loop-channel-init c = none_yet ClosesClient c.deref_mut-channel-items.result.now

pub loop-channel-preserved : goal.loop-channel-preserved
loop-channel-preserved c =
    let e = c.close_client.ensures in
    let within : c.loop-channel.channel-index < length c.loop-channel.channel-items = (let t = c.loop-channel-test.true in omega arith) in
    one_more ClosesClient c.loop-channel.channel-index c.deref_mut-channel-items.result.now c.loop-channel.channel-items
    c.close_client.new.self
    c.channel-item.result c.loop-channel.invariant within
    (record { client = e.ends.0; server = e.ends.1; up = e.lists.1; down = e.lists.0 })

pub returns : goal.returns
returns c =
    let xs = c.args.channels.now.items in
    let us = c.deref_mut-channel-items.result.now in
    let ys = c.loop-channel.channel-items in
    let v = c.loop-channel.invariant in
    let same = c.deref_mut-channel-items.ensures.value in
    let over : length ys ≤ c.loop-channel.channel-index = (let t = c.loop-channel-test.false in omega arith) in
    let fits : length ys ≤ vec_len c.args.channels.now =
    (let n = v.counted in let m = c.deref_mut-channel-items.ensures.len in omega arith) in
    subst (λ (w : List Channel). ChangedAll ClosesClient xs w)
    (sym (written (vec_len c.args.channels.now) xs ys (v.counted ∙ ap (λ (w : List Channel). length w) same) fits))
    (all_done ClosesClient xs us ys c.loop-channel.channel-index same v over)
