-- Steps of a channel on its link, one behind another.
use Rattle.std.proofs.Common.{◌≡◌, ℕ, zero, suc, Bool, List, [], ◌++◌, inl, inr, refl, sym, subst}
use Rattle.serve_turns.specs.link_serving.Passage.{Passed}
use Rattle.client_channels.specs.channel_links.Coming.{Comes, IsOver, OverComes}
use Rattle.client_channels.specs.channel_links.Going.{SaysOn}
use Rattle.client_channels.specs.channel_turns.Asides.{Asides, TakesOrLoses}
use Rattle.client_channels.specs.channel_turns.Links as links
use Rattle.client_channels.specs.channel_turns.Links.{ComesIf, GivesNoMore, IsAside, IsOverBy, Loses, On, Passes, Reads, StepBy, StepsIn}
use Rattle.client_channels.specs.channel_turns.Links.{TakesFrame, Waits}
use Rattle.client_channels.specs.channel_turns.Links.{Writes, WritesPart, on}
use Rattle.client_channels.specs.channel_turns.Sides.{Lost, Says, Side, over}
use Rattle.client_channels.specs.channel_turns.Turning.{Placed}
use Rattle.client_channels.specs.declared.channel_links.taking.Came.{Came}
use Rattle.client_channels.specs.declared.channel_links.taking.Came.TheVariants.{Frame, Lack, Over}
use Rattle.client_channels.specs.declared.channel_links.writing.Said.TheVariants as said
use Rattle.client_channels.specs.declared.channel_turns.starting.Aim.{Aim}

module _ {K : Type 0} (told : Type 0) (given left written : K → List ℕ) (faults : K → ℕ) (ended : K → Bool) (bars : ℕ → ℕ → Type 0)
    (aim : Aim) (channel : ℕ) where
  abbrev Goes : On K → On K → Type 0
  Goes x y = Passes told given left written faults ended bars aim channel x y

  pub pass_none : (x : On K) → Goes x x
  pass_none x = record { count = zero; steps = refl }

  -- one more
  pub pass_more : (kind : links.StepKind) (x y z : On K) → Goes x y → StepBy told given left written faults ended bars aim channel kind y
      z → Goes x z
  pass_more kind x y z h step = record { count = suc h.count; steps = (y, h.steps, (kind, step)) }

  pub pass_one : (kind : links.StepKind) (x y : On K) → StepBy told given left written faults ended bars aim channel kind x y → Goes x y
  pass_one kind x y step = pass_more kind x x y (pass_none x) step

  pass_in : (n : ℕ) (x y z : On K) → Goes x y → StepsIn told given left written faults ended bars aim channel n y z → Goes x z
  pass_in zero x y z h same = subst (λ (w : On K). Goes x w) (sym same) h
  pass_in (suc n) x y z h (w, rest, (kind, step)) = pass_more kind x w z (pass_in n x y w h rest) step

  pub pass_on : (x y z : On K) → Goes x y → Goes y z → Goes x z
  pass_on x y z h g = pass_in g.count x y z h g.steps

  -- nothing passes
  pub pass_aside : (s t : Side) (stream : List ℕ) (link : K) (own more : List Placed) → Asides aim channel s own t more
      → Goes (on s stream link own) (on t stream link more)
  pass_aside s t stream link own more h =
      pass_one IsAside (on s stream link own) (on t stream link more) (record { side = t; own = more; steps = h; is = refl })

  -- steps, and then turns
  pub pass_then : (x : On K) (s t : Side) (stream : List ℕ) (link : K) (own more : List Placed) → Goes x (on s stream link own)
      → Asides aim channel s own t more → Goes x (on t stream link more)
  pass_then x s t stream link own more h g = pass_on x (on s stream link own) (on t stream link more) h
      (pass_aside s t stream link own more g)

  -- ---- a message that goes out

  pub said_whole : (s : Side) (message stream : List ℕ) (l n : K) (own : List Placed)
      → SaysOn told given left written faults l n message said.Whole → Goes (on (Says message s) stream l own) (on s stream n own)
  said_whole s message stream l n own (passed, calm) =
      pass_one Writes (on (Says message s) stream l own) (on s stream n own)
      (record { message = message; side = s; due = refl; link = n; passed = passed; calm = calm; is = refl })

  pub said_part : (s : Side) (message stream : List ℕ) (l n : K) (own : List Placed)
      → SaysOn told given left written faults l n message said.Lost → Goes (on (Says message s) stream l own) (on (over s) stream n own)
  said_part s message stream l n own h =
      pass_one WritesPart (on (Says message s) stream l own) (on (over s) stream n own)
      (record {
        message = message;
        side = s;
        due = refl;
        wrote = h.wrote;
        lost = h.lost;
        part = h.part;
        link = n;
        passed = h.passed;
        rose = h.rose;
        is = refl;
      })

  -- ---- what comes

  reads : (s : Side) (stream came : List ℕ) (l n : K) (own : List Placed) → Waits s → Passed told given left written l n came []
      → faults n ≡ faults l → Goes (on s stream l own) (on s (stream ++ came) n own)
  reads s stream came l n own waits passed calm =
      pass_one Reads (on s stream l own) (on s (stream ++ came) n own)
      (record { waits = waits; piece = came; link = n; passed = passed; calm = calm; is = refl })

  -- a whole frame is heard
  pub came_frame : (s t : Side) (message stream rest : List ℕ) (l n : K) (own : List Placed) → Waits s
      → ComesIf told given left written faults ended bars channel l stream n rest (Frame message) → TakesOrLoses aim s message t
      → Goes (on s stream l own) (on t rest n own)
  came_frame s t message stream rest l n own waits h takes =
      let mid : On K = on s (stream ++ h.came) n own in
      pass_more TakesFrame (on s stream l own) mid (on t rest n own)
      (reads s stream h.came l n own waits h.gave.passed h.gave.calm)
      (record { message = message; rest = rest; frame = h.frame; side = t; takes = takes; is = refl })

  -- no more comes
  over_by : (s : Side) (stream : List ℕ) (l n : K) (own : List Placed) → Waits s
      → IsOverBy told given left written faults ended bars channel stream l n → Goes (on s stream l own) (on (over s) stream n own)
  over_by s stream l n own waits cause =
      pass_one GivesNoMore (on s stream l own) (on (over s) stream n own) (record { waits = waits; link = n; cause = cause; is = refl })

  over_behind : (s : Side) (stream stream' : List ℕ) (l n : K) (own : List Placed) → Waits s
      → OverComes told given left written faults ended l stream n stream' → Goes (on s stream l own) (on (over s) stream' n own)
  over_behind s stream stream' l n own waits h =
      let cause : IsOver told given left written faults ended (stream ++ h.came) h.mid n =
      subst (λ (x : List ℕ). IsOver told given left written faults ended x h.mid n) h.stream_is h.cause in
      subst (λ (x : List ℕ). Goes (on s stream l own) (on (over s) x n own)) (sym h.stream_is)
      (pass_on (on s stream l own) (on s (stream ++ h.came) h.mid own) (on (over s) (stream ++ h.came) n own)
      (reads s stream h.came l h.mid own waits h.gave.passed h.gave.calm)
      (over_by s (stream ++ h.came) h.mid n own waits (inl cause)))

  pub came_over : (s : Side) (stream stream' : List ℕ) (l n : K) (own : List Placed) → Waits s
      → ComesIf told given left written faults ended bars channel l stream n stream' Over
      → Goes (on s stream l own) (on (over s) stream' n own)
  came_over s stream stream' l n own waits (inl h) = over_behind s stream stream' l n own waits h
  came_over s stream stream' l n own waits (inr (link, same, barred)) =
      subst (λ (x : List ℕ). Goes (on s stream l own) (on (over s) x n own)) (sym same)
      (over_by s stream l n own waits (inr (link, barred)))

  -- what came found no memory
  pub came_lack : (s : Side) (stream stream' : List ℕ) (l n : K) (own : List Placed) → Waits s
      → ComesIf told given left written faults ended bars channel l stream n stream' Lack
      → Goes (on s stream l own) (on Lost stream' n own)
  came_lack s stream stream' l n own waits (came, passed) =
      pass_one Loses (on s stream l own) (on Lost stream' n own)
      (record { waits = waits; piece = came; link = n; passed = passed; stream = stream'; is = refl })

module _ {K : Type 0} (told : Type 0) (given left written : K → List ℕ) (faults : K → ℕ) (ended : K → Bool) (bars : ℕ → ℕ → Type 0)
    (channel : ℕ) where
  -- the gate let it pass
  pub comes_if : (l : K) (s : List ℕ) (n : K) (s' : List ℕ) (came : Came) → Comes told given left written faults ended l s n s' came
      → ComesIf told given left written faults ended bars channel l s n s' came
  comes_if l s n s' (Frame m) h = h
  comes_if l s n s' Over h = inl h
  comes_if l s n s' Lack h = h
