-- Steps of a channel while nothing passes over its link, one behind another.
use Rattle.std.proofs.Common.{ℕ, zero, suc, List, refl, sym, subst}
use Rattle.client_channels.specs.channel_turns.Asides as asides
use Rattle.client_channels.specs.channel_turns.Asides.{AsideBy, Asides, AsidesIn, HasTurn, Lacks, TellsLack}
use Rattle.client_channels.specs.channel_turns.Sides.{Ends, Side, TakesTurn}
use Rattle.client_channels.specs.channel_turns.Turning.{Placed, TurnsOnce}
use Rattle.client_channels.specs.declared.channel_turns.starting.Aim.{Aim}
use Rattle.client_book.specs.declared.turn.Told.{Told}
use Rattle.client_book.specs.declared.turn.Turn.{Turn}
use Rattle.client_book.specs.declared.turn.Turn.TheVariants as turns

module _ (a : Aim) (k : ℕ) where
  -- one more
  pub aside_more : (kind : asides.AsideKind) (s t u : Side) (own more most : List Placed) → Asides a k s own t more
      → AsideBy a k kind t more u most → Asides a k s own u most
  aside_more kind s t u own more most h step = record { count = suc h.count; steps = (t, more, h.steps, (kind, step)) }

  pub aside_none : (s : Side) (own : List Placed) → Asides a k s own s own
  aside_none s own = record { count = zero; steps = (refl, refl) }

  pub aside_one : (kind : asides.AsideKind) (s t : Side) (own more : List Placed) → AsideBy a k kind s own t more → Asides a k s own t more
  aside_one kind s t own more step = aside_more kind s s t own own more (aside_none s own) step

  -- a turn
  pub aside_turn : (s t : Side) (own more : List Placed) (turn : Turn) (told : Told) → TurnsOnce own turn told more
      → TakesTurn a k s turn told t → Asides a k s own t more
  aside_turn s t own more turn told h takes =
      let event : TakesTurn a k s h.placed.1.event told t = subst (λ (x : Turn). TakesTurn a k s x told t) (sym h.event) takes in
      let both : TakesTurn a k s h.placed.1.event h.placed.1.reply t =
      subst (λ (x : Told). TakesTurn a k s h.placed.1.event x t) (sym h.reply) event in
      aside_one HasTurn s t own more (record { placed = h.placed; takes = both; own_is = h.own_is })

  -- a turn that tells of memory that ran out
  pub aside_lack : (s : Side) (own more : List Placed) → TellsLack own Ends more → Asides a k s own Ends more
  aside_lack s own more h = aside_one Lacks s Ends own more h

  -- one behind the other
  asides_in : (n : ℕ) (s t u : Side) (own more most : List Placed) → Asides a k s own t more → AsidesIn a k n t more u most
      → Asides a k s own u most
  asides_in zero s t u own more most h (side, turns) =
      subst (λ (x : List Placed). Asides a k s own u x) (sym turns) (subst (λ (x : Side). Asides a k s own x more) (sym side) h)
  asides_in (suc n) s t u own more most h (side, turns, rest, (kind, step)) =
      aside_more kind s side u own turns most (asides_in n s t side own more turns h rest) step

  pub asides_on : (s t u : Side) (own more most : List Placed) → Asides a k s own t more → Asides a k t more u most
      → Asides a k s own u most
  asides_on s t u own more most h g = asides_in g.count s t u own more most h g.steps

-- a turn that told of memory that ran out
pub lack_told : (own more : List Placed) (told : Told) → TurnsOnce own turns.Lack told more → TellsLack own Ends more
lack_told own more told h = record { placed = h.placed; event = h.event; side = refl; own_is = h.own_is }
