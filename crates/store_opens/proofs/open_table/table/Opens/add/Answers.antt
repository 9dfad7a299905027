use Rattle.std.specs.HashMap.{get}
use Rattle.spec_exchange.specs.Table.{put}
use Rattle.store_opens.proofs.open_table.RowLemmas.{tree_added}
use Rattle.std.proofs.Common.{◌≡◌, ◌+◌, ◌==◌, ℕ, nat_eq, refl, sym, ap, subst, ◌∙◌, arith}
use Rattle.store_opens.specs.declared.open_table.table.Opens.{Opens}
use Rattle.store_opens.specs.open_table.Shown.{HasRoomIn, next_of}
use Rattle.store_opens.proofs.open_table.Added.{open_added, placed_new, created_is, next_free, next_is, place_of_room, room_lists}
use Rattle.store_opens.proofs.open_table.Added.{room_lists_plain, room_notes}
use Rattle.store_opens.proofs.open_table.table.Opens.add.Goals as goal

pub stand_new-requires : goal.stand_new-requires
stand_new-requires c = place_of_room c.args.self.now c.args.row.session (next_of c.args.self.now) c.args.row.persistent c.requires.1

pub note_new-requires : goal.note_new-requires
note_new-requires c = room_notes c.args.self.now c.args.row.session (next_of c.args.self.now) c.args.row.persistent c.requires.1

pub returns : goal.returns
returns c = λ s p i h new.
    let t = c.args.self.now in
    let row = c.args.row in
    let o = c.coming-id.result in
    let here = c.coming-id.ensures c.requires.2 in
    let e = here ∙ next_is t s h in
    let st = ap s.standing e ∙ next_free s i in
    let more : c.saturating_add-self.result ≡ t.given + 1 = let k = c.saturating_add-self.ensures in let l = c.requires.2 in grind arith in
    let n : c.saturating_add-self.result ≡ s.open_ids_given + 1 = more ∙ ap (λ (g : ℕ). g + 1) (sym h.given_is) in
    let room : HasRoomIn t row.session o row.persistent = subst (λ (z : ℕ). HasRoomIn t row.session z row.persistent)
    (sym here) c.requires.1 in
    let u : Opens = record t {
      sessions = c.stand_new.new.sessions;
      undated = c.note_new.new.undated;
      given = c.saturating_add-self.result;
    } in (
      e,
      created_is c.place.new.self s row p o e new.parts_are
          (open_added t c.place.new.self o row (s.open_ids_given + 1) (put s.tree_of_open o row.tree) s
          (placed_new t u c.place.new.self o row (s.open_ids_given + 1) s h st c.stand_new.ensures.counted c.stand_new.ensures.here
          (λ x q. c.stand_new.ensures.counted.listed x o (room_lists t row.session o x row.persistent room q))
          (λ x q f. c.stand_new.ensures.counted.plain x o (room_lists_plain t row.session o x row.persistent room q f))
          c.note_new.ensures.noted c.note_new.ensures.others
          (ap (λ (g : ℕ). record t { sessions = c.stand_new.new.sessions; undated = c.note_new.new.undated; given = g }) n)
          c.place.ensures.rows c.place.ensures.len c.place.ensures.guids c.place.ensures.file c.place.ensures.files c.place.ensures.rest)
          (λ q. tree_added (q == o) (get nat_eq t.rows q) row (s.tree_of_open q) row.tree (h.trees_are q) (λ x k. refl))
          c.requires.0.3 i h st new.no_deadline new.no_location new.no_position new.no_slots),
    )
