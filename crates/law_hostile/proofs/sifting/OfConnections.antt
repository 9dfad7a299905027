-- What `Connections` says stays where lists are sifted, part by part.
use Rattle.std.proofs.Common.{ℕ, arith}
use Rattle.std.proofs.Common.{sym, ◌∙◌}
use Rattle.spec_exchange.specs.Table.{put}
use Rattle.spec_exchange.specs.Client.{Client}
use Rattle.spec_exchange.specs.Network.{Conn}
use Rattle.law_sessions.specs.messages.Connections.{Once, Outstanding, OwnUp, AttachUp, OwnDown, AttachDown}
use Rattle.law_sessions.specs.messages.Connections.{DownOpen, Ready, Bodies, First, SentReplies, Deleted}
use Rattle.law_hostile.specs.sifting.Sifting.{ConnectionsSift}
use Rattle.law_hostile.proofs.sifting.Lists.{All, all}

sift_once : (c : Client) (a : ℕ → ℕ) (old new : ℕ → Conn) → All old new → Once old → Once new
sift_once c a old new sifts was =
    λ j g. let u = (sifts j).fewer_up g in let v = (sifts j).fewer_down g in let then_ = was j g in omega (arith, u, v, then_)

sift_outstanding : (c : Client) (a : ℕ → ℕ) (old new : ℕ → Conn) → All old new → Outstanding c old → Outstanding c new
sift_outstanding c a old new sifts was =
    λ j g heard one above. let u = (sifts j).fewer_up g in let v = (sifts j).fewer_down g in was j g (sym (sifts j).client ∙ heard) (omega (arith, u, v, one)) above

sift_own_up : (c : Client) (a : ℕ → ℕ) (old new : ℕ → Conn) → All old new → OwnUp c old → OwnUp c new
sift_own_up c a old new sifts was =
    λ k n g x at. let moved = (sifts k).up n x at in let same = (sifts k).client in let then_ = was k moved.0 g x moved.1 in grind arith

sift_attach_up : (c : Client) (a : ℕ → ℕ) (old new : ℕ → Conn) → All old new → AttachUp c old → AttachUp c new
sift_attach_up c a old new sifts was =
    λ k n g x at. let moved = (sifts k).up n x at in let same = (sifts k).client in let then_ = was k moved.0 g x moved.1 in grind arith

sift_own_down : (c : Client) (a : ℕ → ℕ) (old new : ℕ → Conn) → All old new → OwnDown c old → OwnDown c new
sift_own_down c a old new sifts was =
    λ k n g y at. let moved = (sifts k).down n y at in let same = (sifts k).client in let then_ = was k moved.0 g y moved.1 in grind arith

sift_attach_down : (c : Client) (a : ℕ → ℕ) (old new : ℕ → Conn) → All old new → AttachDown c old → AttachDown c new
sift_attach_down c a old new sifts was =
    λ k n g y at. let moved = (sifts k).down n y at in let same = (sifts k).client in let then_ = was k moved.0 g y moved.1 in grind arith

sift_down_open : (c : Client) (a : ℕ → ℕ) (old new : ℕ → Conn) → All old new → DownOpen old → DownOpen new
sift_down_open c a old new sifts was =
    λ j off. (sifts j).none (was j (sym (sifts j).client ∙ off))

sift_ready : (c : Client) (a : ℕ → ℕ) (old new : ℕ → Conn) → All old new → Ready c old → Ready c new
sift_ready c a old new sifts was =
    λ j on. let u = (sifts j).fewer_up 0 in let v = (sifts j).fewer_down 0 in let then_ = was j on in ((sifts j).client ∙ then_.0, then_.1, (let none = then_.2 in omega (arith, u, v, none)))

sift_bodies : (c : Client) (a : ℕ → ℕ) (old new : ℕ → Conn) → All old new → Bodies c old → Bodies c new
sift_bodies c a old new sifts was =
    λ k n g x at. let moved = (sifts k).up n x at in was k moved.0 g x moved.1

sift_first : (c : Client) (a : ℕ → ℕ) (old new : ℕ → Conn) → All old new → First c old a → First c new a
sift_first c a old new sifts was =
    λ k n g x at. let moved = (sifts k).up n x at in let same = (sifts k).client in let then_ = was k moved.0 g x moved.1 in grind arith

sift_sent_replies : (c : Client) (a : ℕ → ℕ) (old new : ℕ → Conn) → All old new → SentReplies c old → SentReplies c new
sift_sent_replies c a old new sifts was =
    λ k n g y at. let moved = (sifts k).down n y at in was k moved.0 g y moved.1

sift_deleted : (c : Client) (a : ℕ → ℕ) (old new : ℕ → Conn) → All old new → Deleted c old a → Deleted c new a
sift_deleted c a old new sifts was =
    λ k n g y at. let moved = (sifts k).down n y at in was k moved.0 g y moved.1

pub connections_sift : ConnectionsSift
connections_sift c conns a k d one was =
    let sifts = all conns k d one in
    record {
      once = sift_once c a conns (put conns k d) sifts was.once;
      outstanding = sift_outstanding c a conns (put conns k d) sifts was.outstanding;
      own_up = sift_own_up c a conns (put conns k d) sifts was.own_up;
      attach_up = sift_attach_up c a conns (put conns k d) sifts was.attach_up;
      own_down = sift_own_down c a conns (put conns k d) sifts was.own_down;
      attach_down = sift_attach_down c a conns (put conns k d) sifts was.attach_down;
      down_open = sift_down_open c a conns (put conns k d) sifts was.down_open;
      on_ready = was.on_ready;
      ready = sift_ready c a conns (put conns k d) sifts was.ready;
      stages = was.stages;
      settled = was.settled;
      taken = was.taken;
      taken_on = was.taken_on;
      creates = was.creates;
      lower = was.lower;
      has_open = was.has_open;
      asked_open = was.asked_open;
      fresh = was.fresh;
      bodies = sift_bodies c a conns (put conns k d) sifts was.bodies;
      first = sift_first c a conns (put conns k d) sifts was.first;
      unsent = was.unsent;
      sent_replies = sift_sent_replies c a conns (put conns k d) sifts was.sent_replies;
      deleted = sift_deleted c a conns (put conns k d) sifts was.deleted;
    }
