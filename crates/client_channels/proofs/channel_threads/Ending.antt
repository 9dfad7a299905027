-- What is known of a client whose channels have ended.
use Rattle.std.proofs.Common.{◌≡◌, ℕ, Bool, List, [], ◌∷◌, Result, Ok, Err, Some, sym, ap, subst, ◌∙◌}
use Rattle.std.specs.Prelude.{Option as Perhaps, OnOk, unwrap_or}
use Rattle.client_ends.specs.declared.ends.config.ClientConfig.{ClientConfig}
use Rattle.client_steps.specs.declared.whole_client.client.Client.{Client as Core}
use Rattle.client_values.specs.declared.operations.values.OpKind.{OpKind}
use Rattle.serve_turns.specs.declared.shared_book.view.View.{View}
use Rattle.serve_turns.specs.shared_book.Histories.{entries_of}
use Rattle.serve_turns.specs.shared_book.Numbers.{AreApart, IsOneOf, numbers_in}
use Rattle.serve_turns.specs.shared_book.Turns.{first_view}
use Rattle.serve_turns.specs.shared_book.Words.{lasting}
use Rattle.client_book.specs.Steps.{IsNew}
use Rattle.client_book.specs.declared.turn.Told.{Told}
use Rattle.client_book.specs.declared.turn.Turn.{Turn}
use Rattle.client_channels.specs.channel_threads.Nonces.{AreChannels, HasWorked}
use Rattle.client_channels.specs.channel_threads.Running.{ChannelsRan, HasRun, events_of, salt_of, submits_from}
use Rattle.client_channels.specs.channel_threads.Seating.{KeepsOwn}
use Rattle.client_channels.specs.channel_turns.Rounds.{GoesRound, been}
use Rattle.client_channels.specs.channel_turns.Turning.{Placed}
use Rattle.client_channels.specs.declared.channel_turns.shared_client.ClientTurns.{ClientTurns}
use Rattle.client_channels.proofs.channel_threads.Once.{never_twice}
use Rattle.client_channels.proofs.channel_threads.Rising.{numbers_rise}
use Rattle.client_channels.proofs.channel_threads.Seated.{is_whole}

pub on_ok_map : {A E P Q : Type 0} (r : Result A E) → (P → Q) → OnOk r P → OnOk r Q
on_ok_map (Ok a) f h = f h
on_ok_map (Err e) f h = tt

-- a seat whose book was opened so
opening_is : (a b : ClientTurns) (v : Perhaps ClientTurns) → v ≡ Some a → v ≡ Some b → b ≡ a
opening_is a b v is other = ap (λ (o : Perhaps ClientTurns). unwrap_or o a) (sym other ∙ is)

module _ {K : Type 0} (told : Type 0) (given left written : K → List ℕ) (faults : K → ℕ) (ended : K → Bool) (bars : ℕ → ℕ → Type 0)
    (config : ClientConfig) (seed : List ℕ) {N : Type 0} (net_faults : N → ℕ) where
  -- a channel that began with no turns
  pub has_worked : (channel k : ℕ) (before own : List Placed) → channel ≡ k → before ≡ []
      → (draws : ℕ) × GoesRound told given left written faults ended bars config seed channel net_faults (been before 0) (been own draws)
      → HasWorked told given left written faults ended bars config seed net_faults k own
  has_worked channel k before own is none (draws, h) = (
    draws,
    subst (λ (n : ℕ). GoesRound told given left written faults ended bars config seed n net_faults (been [] 0) (been own draws)) is
        (subst (λ (l : List Placed). GoesRound told given left written faults ended bars config seed channel net_faults (been l 0)
        (been own draws)) none h),
  )

  pub ran : (first : ClientTurns) (u v w : View ClientTurns Turn Told) (count : ℕ) (ops : List OpKind) (client : Core) → IsNew
      (salt_of seed) first.book
      → u ≡ first_view first → lasting v ≡ lasting u → events_of v.own ≡ submits_from 1 ops → KeepsOwn v w
      → AreChannels told given left written faults ended bars config seed net_faults count w.ended → w.made ≡ numbers_in w.ended
      → HasRun w client → ChannelsRan told given left written faults ended bars config seed net_faults count ops client
  ran first u v w count ops client new is lasts submits kept channels made run =
      let c = run.closes in
      let opens : w.opening ≡ Some first =
      kept.0 ∙ ap (λ x. x.0) lasts ∙ ap (λ (x : View ClientTurns Turn Told). x.opening) is in
      let number : w.number ≡ 0 = kept.1 ∙ ap (λ x. x.1.0) lasts ∙ ap (λ (x : View ClientTurns Turn Told). x.number) is in
      record {
        opening = c.opening;
        is_new = subst (λ (b : ClientTurns). IsNew (salt_of seed) b.book) (opening_is c.opening first w.opening c.opens opens) new;
        log = c.log;
        last = run.last;
        replays = c.replays;
        submits =
            ap (λ (l : List Placed). events_of l)
            (ap (λ (n : ℕ). entries_of n 0 c.log) (sym number) ∙ sym c.own_are ∙ kept.2)
            ∙ submits;
        seats = w.ended;
        entries = c.ended_are;
        channels = channels;
        apart = subst (λ (n : ℕ). AreApart (n ∷ numbers_in w.ended)) number c.apart;
        none_else = λ place e at. subst (λ (n : ℕ). IsOneOf e.seat (n ∷ numbers_in w.ended)) number
            (c.none_else (is_whole w number made) place e at);
        numbers = numbers_rise c.opening run.last c.log c.replays;
        nonces = λ differ d.
            never_twice told given left written faults ended bars config seed net_faults (salt_of seed) c.opening run.last c.log count w.ended
            (subst (λ (b : ClientTurns). IsNew (salt_of seed) b.book) (opening_is c.opening first w.opening c.opens opens) new) c.replays
            c.ended_are (c.apart).1 channels differ d;
        ends = run.ends;
      }
