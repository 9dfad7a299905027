-- Rounds of a channel, one behind another.
use Rattle.std.proofs.Common.{◌≡◌, ◌⊎◌, ℕ, zero, suc, Bool, List, Some, None, inl, inr, refl, sym, ap}
use Rattle.client_ends.specs.declared.ends.config.ClientConfig.{ClientConfig}
use Rattle.serve_turns.specs.link_serving.Passage.{IsNewLink}
use Rattle.client_channels.specs.channel_turns.Asides.{TellsLack}
use Rattle.client_channels.specs.channel_turns.Rounds.{AsksOnce, Been, Connects, Fails, GoesRound, NetFailed, Lacks, Rests, Round}
use Rattle.client_channels.specs.channel_turns.Rounds.{UsesLink, been}
use Rattle.client_channels.specs.channel_turns.Sides.{Ends, aim_of}
use Rattle.client_channels.specs.channel_turns.Turning.{Placed, TurnsOnce}
use Rattle.client_channels.specs.declared.channel_turns.starting.Aim.{Aim}
use Rattle.client_book.specs.declared.turn.Told.{Told}
use Rattle.client_book.specs.declared.turn.Turn.TheVariants as turns

pub asked : (k : ℕ) (own more : List Placed) (first : Bool) (shuns : ℕ) (told : Told) → TurnsOnce own (turns.Begin k first shuns) told more
    → AsksOnce k own more (aim_of told)
asked k own more first shuns told h = record {
  placed = h.placed;
  first = first;
  shuns = shuns;
  event = h.event;
  aims = ap aim_of (sym h.reply);
  own_is = h.own_is;
}

module _ {K : Type 0} (told : Type 0) (given left written : K → List ℕ) (faults : K → ℕ) (ended : K → Bool) (bars : ℕ → ℕ → Type 0)
    (config : ClientConfig) (seed : List ℕ) (channel : ℕ) {N : Type 0} (net_faults : N → ℕ) where
  abbrev Goes : Been → Been → Type 0
  Goes x y = GoesRound told given left written faults ended bars config seed channel net_faults x y

  abbrev Once : Been → Been → Type 0
  Once x y = Round told given left written faults ended bars config seed channel net_faults x y

  pub round_none : (x : Been) → Goes x x
  round_none x = record { count = zero; rounds = refl }

  pub round_more : (x y z : Been) → Goes x y → Once y z → Goes x z
  round_more x y z h one = record { count = suc h.count; rounds = (y, h.rounds, one) }

  pub round_one : (x y : Been) → Once x y → Goes x y
  round_one x y one = round_more x x y (round_none x) one

  pub rests : (own more : List Placed) (draws draws' : ℕ) → AsksOnce channel own more None → draws' ≡ draws → Once (been own draws)
      (been more draws')
  rests own more draws draws' h same = (Rests, record { asks = h; draws = same })

  pub fails : (aim : Aim) (own more most : List Placed) (draws draws' : ℕ) (reply : Told) → AsksOnce channel own more (Some aim)
      → NetFailed net_faults → TurnsOnce more (turns.Failed channel) reply most → draws' ≡ draws → Once (been own draws) (been most draws')
  fails aim own more most draws draws' reply h cause f same =
      (Fails, record { aim = aim; own = more; asks = h; cause = cause; reply = reply; fails = f; draws = same })

  pub connects : (aim : Aim) (own more most : List Placed) (draws draws' : ℕ) (link : K) → AsksOnce channel own more (Some aim)
      → IsNewLink told given left written faults ended link
      → UsesLink told given left written faults ended bars config seed channel aim draws more link draws' most ⊎ TellsLack more Ends most
      → Once (been own draws) (been most draws')
  connects aim own more most draws draws' link h fresh (inl uses) =
      (Connects, record { aim = aim; own = more; asks = h; link = link; is_new = fresh; uses = uses })
  connects aim own more most draws draws' link h fresh (inr lacks) =
      (Lacks, record { own = more; before = inr (aim, h); lacks = lacks })

  pub lacks_first : (own more : List Placed) (draws draws' : ℕ) → TellsLack own Ends more
      → Once (been own draws) (been more draws')
  lacks_first own more draws draws' h = (Lacks, record { own = own; before = inl refl; lacks = h })
