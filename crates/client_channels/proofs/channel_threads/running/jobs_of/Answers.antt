use Rattle.std.proofs.Common.{◌≡◌, ℕ, ◌+◌, ◌∙◌, ◌++◌, ◌∷◌, [], List, length, map, reverse, refl, sym, ap}
use Rattle.std.proofs.lemmas.List.{length_push}
use Rattle.serve_turns.specs.shared_book.Words.{view_of, IsSeatOf}
use Rattle.client_channels.specs.channel_threads.Seating.{IsAlone}
use Rattle.client_channels.specs.declared.channel_threads.running.Job.{Job}
use Rattle.client_channels.proofs.channel_threads.Each.{each_none, each_push, each_same}
use Rattle.client_channels.proofs.channel_threads.Seated.{makes_one, new_alone, new_own, one_more, keeps_made}
use Rattle.client_channels.proofs.channel_threads.running.jobs_of.Goals as goal

pub loop-channel-init : goal.loop-channel-init
loop-channel-init g c = record {
  own = c.requires.own;
  kept = ((refl, refl, refl), refl);
  count = ap length c.in_ok-jobs.ensures.items;
  jobs = each_same (λ k j. IsSeatOf c.args.book.now j.seat × (j.channel ≡ k) × IsAlone (view_of j.seat) × ((view_of j.seat).own ≡ [])) _ []
      c.in_ok-jobs.ensures.items (each_none (λ k j. IsSeatOf c.args.book.now j.seat × (j.channel ≡ k) × IsAlone (view_of j.seat) ×
      ((view_of j.seat).own ≡ [])));
  made = c.requires.none ∙ sym (ap (λ l. reverse (map (λ j. (view_of j.seat).number) l)) c.in_ok-jobs.ensures.items);
}

pub loop-channel-preserved : goal.loop-channel-preserved
loop-channel-preserved g c =
    let i = c.loop-channel.invariant in
    let items = c.in_ok-push.ensures.items in
    let old = view_of c.loop-channel.seat in
    let new = view_of c.seat-theirs.new.from in
    let theirs = view_of c.seat-theirs.result in
    let job : Job _ = record { seat = c.seat-theirs.result; channel = c.loop-channel.channel } in
    let kept = keeps_made old new theirs.number c.seat-theirs.ensures.made in
    record {
      own = c.seat-theirs.ensures.same.0 ∙ i.own;
      kept = ((kept.0.0 ∙ i.kept.0.0, kept.0.1 ∙ i.kept.0.1, kept.0.2 ∙ i.kept.0.2), kept.1 ∙ i.kept.1);
      count = ap length items ∙ length_push c.loop-channel.jobs.items job ∙ ap (λ (n : ℕ). n + 1) i.count;
      jobs = each_same (λ k j. IsSeatOf c.args.book.now j.seat × (j.channel ≡ k) × IsAlone (view_of j.seat) × ((view_of j.seat).own ≡ [])) _
          (c.loop-channel.jobs.items ++ job ∷ []) items
          (each_push (λ k j. IsSeatOf c.args.book.now j.seat × (j.channel ≡ k) × IsAlone (view_of j.seat) × ((view_of j.seat).own ≡ []))
          c.loop-channel.jobs.items job i.jobs (
            c.seat-theirs.ensures.own,
            sym i.count,
            new_alone old theirs theirs.number c.seat-theirs.ensures.newcomer,
            new_own old theirs theirs.number c.seat-theirs.ensures.newcomer,
          ));
      made = makes_one old new theirs.number c.seat-theirs.ensures.made ∙ ap (λ (l : List ℕ). theirs.number ∷ l) i.made
          ∙ sym (ap (λ l. reverse (map (λ j. (view_of j.seat).number) l)) items ∙ one_more
          (λ j. (view_of j.seat).number) c.loop-channel.jobs.items job);
    }
