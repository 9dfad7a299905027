use Rattle.std.proofs.Common.{◌<◌, ℕ, List, refl, sym, subst}
use Rattle.store_opens.specs.open_table.Changes.{created}
use Rattle.store_opens.specs.open_table.Shown.{ShowsOpens}
use Rattle.store_opens.proofs.open_table.table.Opens.create.Goals as goal

pub add-requires : goal.add-requires
add-requires c =
    let left = c.in_default.ensures.left refl in
    let room = c.in-Ok.ensures.room left in
    (room.0, room.1, subst (λ (g : ℕ). g < 0xffff_ffff) (sym c.in-Ok.ensures.given) left)

pub returns-in-Some : goal.returns-in-Some
returns-in-Some c = λ s i h. (sym (c.in-Some.ensures.shown s h), h)

pub returns-in-Err : goal.returns-in-Err
returns-in-Err c = λ s i h. (sym (c.in_default.ensures.shown s h), c.in-Err.ensures.same s h)

pub returns-in-Ok : goal.returns-in-Ok
returns-in-Ok c = λ s i h.
    let made = c.in-Ok.ensures.row in
    let k = c.add.ensures s c.args.made.now i (c.in-Ok.ensures.same s h) (record {
      parts_are = made.parts_are;
      user_is = refl;
      no_deadline = made.no_deadline;
      no_location = made.no_location;
      no_position = made.no_position;
      no_slots = made.no_slots;
    }) in (
      sym (c.in_default.ensures.shown s h),
      k.0,
      subst (λ (u : List ℕ). ShowsOpens c.add.new.self (created s c.args.made.now u)) made.user_is k.1,
    )
