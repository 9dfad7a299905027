use Rattle.std.proofs.Common.{◌≡◌, ◌+◌, ◌≤◌, length, vec_capacity, vec_len, refl, subst, arith}
use Rattle.std.proofs.lemmas.Grind.{common_steps}
use Rattle.std.specs.List.{sum_by}
use Rattle.client_tables.specs.whole_table.Shown.{one_left}
use Rattle.client_steps.proofs.taking.Roomed.{left_all, ok_more, out_moved, room_for_all, roomed, same_fits, same_shown}
use Rattle.client_steps.proofs.taking.rooms.make_room.Goals as goal

pub returns-in_err-reserve-clause-fits : goal.returns-in_err-reserve-clause-fits
returns-in_err-reserve-clause-fits c =
    let t = c.args.table.now in
    same_fits t.session t.rows.items t.holders.items t.prices t.watchers t.ops.items c.reserve.new.self.items t.settled.items
    t.settled.items t.order.items t.order.items t.dialogs.items c.reserve.ensures.items refl refl t.out t.lowest (vec_capacity t.order)
    c.requires.fits

pub returns-in_err-reserve-clause-shown : goal.returns-in_err-reserve-clause-shown
returns-in_err-reserve-clause-shown c =
    let t = c.args.table.now in
    same_shown t.session t.rows.items t.holders.items t.prices t.watchers t.ops.items c.reserve.new.self.items t.settled.items
    t.settled.items t.order.items t.order.items t.dialogs.items c.reserve.ensures.items refl refl

pub returns-in_err-reserve-2-clause-fits : goal.returns-in_err-reserve-2-clause-fits
returns-in_err-reserve-2-clause-fits c =
    let t = c.args.table.now in
    same_fits t.session t.rows.items t.holders.items t.prices t.watchers t.ops.items c.reserve.new.self.items t.settled.items
    c.reserve-2.new.self.items t.order.items t.order.items t.dialogs.items c.reserve.ensures.items c.reserve-2.ensures.items refl t.out
    t.lowest (vec_capacity t.order) c.requires.fits

pub returns-in_err-reserve-2-clause-shown : goal.returns-in_err-reserve-2-clause-shown
returns-in_err-reserve-2-clause-shown c =
    let t = c.args.table.now in
    same_shown t.session t.rows.items t.holders.items t.prices t.watchers t.ops.items c.reserve.new.self.items t.settled.items
    c.reserve-2.new.self.items t.order.items t.order.items t.dialogs.items c.reserve.ensures.items c.reserve-2.ensures.items refl

pub returns-in_err-reserve-3-clause-fits : goal.returns-in_err-reserve-3-clause-fits
returns-in_err-reserve-3-clause-fits c =
    let t = c.args.table.now in
    let f = c.requires.fits in
    same_fits t.session t.rows.items t.holders.items t.prices t.watchers t.ops.items c.reserve.new.self.items t.settled.items
    c.reserve-2.new.self.items t.order.items c.reserve-3.new.self.items t.dialogs.items c.reserve.ensures.items c.reserve-2.ensures.items
    c.reserve-3.ensures.items t.out t.lowest (vec_capacity c.reserve-3.new.self)
    (roomed t.rows.items t.holders.items t.prices t.prices t.watchers t.watchers t.out t.out t.lowest (length t.ops.items)
    (length t.settled.items) (length t.order.items) (vec_capacity t.order) (vec_capacity c.reserve-3.new.self) f.counts f.out
    c.reserve-3.ensures.capacity f)

pub returns-in_err-reserve-3-clause-shown : goal.returns-in_err-reserve-3-clause-shown
returns-in_err-reserve-3-clause-shown c =
    let t = c.args.table.now in
    same_shown t.session t.rows.items t.holders.items t.prices t.watchers t.ops.items c.reserve.new.self.items t.settled.items
    c.reserve-2.new.self.items t.order.items c.reserve-3.new.self.items t.dialogs.items c.reserve.ensures.items c.reserve-2.ensures.items
    c.reserve-3.ensures.items

pub reserve-requires-4 : goal.reserve-requires-4
reserve-requires-4 c = record { fits = c.requires.fits.out.fits }

pub returns : goal.returns
returns c =
    let t = c.args.table.now in
    let f = c.requires.fits in
    let e = c.reserve-4.ensures in
    let rows = t.rows.items in
    let made = c.reserve-4.new.self in
    let order = c.reserve-3.new.self in
    let k : vec_len order ≡ length order.items = grind (arith, common_steps) in
    record {
      fits = same_fits t.session rows t.holders.items t.prices t.watchers t.ops.items c.reserve.new.self.items t.settled.items
          c.reserve-2.new.self.items t.order.items c.reserve-3.new.self.items t.dialogs.items c.reserve.ensures.items
          c.reserve-2.ensures.items c.reserve-3.ensures.items made t.lowest (vec_capacity c.reserve-3.new.self)
          (roomed rows t.holders.items t.prices t.prices t.watchers t.watchers t.out made t.lowest (length t.ops.items)
          (length t.settled.items) (length t.order.items) (vec_capacity t.order) (vec_capacity c.reserve-3.new.self) f.counts
          (out_moved rows t.out made e.fits e.size e.has f.out) c.reserve-3.ensures.capacity f);
      rows = refl;
      room = ok_more c.reserve-4.result (λ p. record {
        ops = (let h = c.in_ok-reserve.ensures.ok in omega arith);
        settled = (let h = c.in_ok-reserve-2.ensures.ok in omega arith);
        out = p;
        order = room_for_all (length order.items) (sum_by one_left rows) (length rows) c.count_of-count.result (vec_capacity order)
            (left_all rows) c.count_of-count.ensures
            (subst (λ n. n + (c.count_of-count.result + 1) ≤ vec_capacity order) k c.in_ok-reserve-3.ensures.ok);
      }) e.room;
      shown = same_shown t.session rows t.holders.items t.prices t.watchers t.ops.items c.reserve.new.self.items t.settled.items
          c.reserve-2.new.self.items t.order.items c.reserve-3.new.self.items t.dialogs.items c.reserve.ensures.items
          c.reserve-2.ensures.items c.reserve-3.ensures.items;
    }
