use Rattle.std.proofs.Common.{◌≡◌, ◌∙◌, [], length, vec_len, sym, subst}
use Rattle.serve_turns.specs.shared_book.Words.{view_of, IsSeatOf}
use Rattle.client_channels.specs.channel_threads.Seating.{EachAt, IsAlone}
use Rattle.client_channels.proofs.channel_threads.Each.{each_behind, each_first, first_taken, some_left}
use Rattle.client_channels.proofs.channel_threads.running.work_all.Goals as goal

pub work_beside-requires-clause-first : goal.work_beside-requires-clause-first
work_beside-requires-clause-first g c = λ lifetimes bounds.
    let some = some_left (vec_len c.args.jobs) (length c.args.jobs.items) (sym c.is_empty-none.ensures ∙ c.if-none.false) c.args.jobs.ok.0 in
    let whole = first_taken c.args.jobs.items c.remove-seat.new.self.items c.remove-seat.result some c.remove-seat.ensures.value
    c.remove-seat.ensures.items in
    let one = each_first (λ k j. IsSeatOf c.args.book.now j.seat × (j.channel ≡ k) × IsAlone (view_of j.seat) × ((view_of j.seat).own ≡ []))
    c.remove-seat.result c.remove-seat.new.self.items (subst (λ l. EachAt (λ k j. IsSeatOf c.args.book.now j.seat × (j.channel ≡ k)
    × IsAlone (view_of j.seat) × ((view_of j.seat).own ≡ [])) l) whole c.requires.own) in
    (one.0, one.2, one.3)

pub work_beside-requires-clause-others : goal.work_beside-requires-clause-others
work_beside-requires-clause-others g c = λ lifetimes bounds.
    let some = some_left (vec_len c.args.jobs) (length c.args.jobs.items) (sym c.is_empty-none.ensures ∙ c.if-none.false) c.args.jobs.ok.0 in
    let whole = first_taken c.args.jobs.items c.remove-seat.new.self.items c.remove-seat.result some c.remove-seat.ensures.value
    c.remove-seat.ensures.items in
    each_behind (λ k j. IsSeatOf c.args.book.now j.seat × (j.channel ≡ k) × IsAlone (view_of j.seat) × ((view_of j.seat).own ≡ []))
    c.remove-seat.result c.remove-seat.new.self.items (subst (λ l. EachAt (λ k j. IsSeatOf c.args.book.now j.seat × (j.channel ≡ k)
    × IsAlone (view_of j.seat) × ((view_of j.seat).own ≡ [])) l) whole c.requires.own)
