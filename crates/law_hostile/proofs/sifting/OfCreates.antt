-- What `Creates` says stays where lists are sifted, part by part.
use Rattle.std.proofs.Common.{ℕ}
use Rattle.spec_exchange.specs.Table.{put}
use Rattle.spec_exchange.specs.Client.{Client}
use Rattle.spec_exchange.specs.Network.{Conn}
use Rattle.law_creates.specs.Creates.{ActedKept, DeadRefused, NoReply, BarredReply, OkReply}
use Rattle.law_creates.specs.Creates.{ReplyGuid, ReplyOf, DialogUp, AskUp, Seen}
use Rattle.law_hostile.specs.sifting.Sifting.{CreatesSift}
use Rattle.law_hostile.proofs.sifting.Lists.{All, all}

sift_acted_kept : (c : Client) (v : Seen) (a : ℕ → ℕ) (old new : ℕ → Conn) → All old new → ActedKept c old v a → ActedKept c new v a
sift_acted_kept c v a old new sifts was =
    λ k n g x at. let moved = (sifts k).up n x at in was k moved.0 g x moved.1

sift_dead_refused : (c : Client) (v : Seen) (a : ℕ → ℕ) (old new : ℕ → Conn) → All old new → DeadRefused c old v → DeadRefused c new v
sift_dead_refused c v a old new sifts was =
    λ k n g x at. let moved = (sifts k).up n x at in was k moved.0 g x moved.1

sift_no_reply : (c : Client) (v : Seen) (a : ℕ → ℕ) (old new : ℕ → Conn) → All old new → NoReply c old a → NoReply c new a
sift_no_reply c v a old new sifts was =
    λ k n g y at. let moved = (sifts k).down n y at in was k moved.0 g y moved.1

sift_barred_reply : (c : Client) (v : Seen) (a : ℕ → ℕ) (old new : ℕ → Conn) → All old new → BarredReply c old v → BarredReply c new v
sift_barred_reply c v a old new sifts was =
    λ k n g y at. let moved = (sifts k).down n y at in was k moved.0 g y moved.1

sift_ok_reply : (c : Client) (v : Seen) (a : ℕ → ℕ) (old new : ℕ → Conn) → All old new → OkReply c old a → OkReply c new a
sift_ok_reply c v a old new sifts was =
    λ k n g y at. let moved = (sifts k).down n y at in was k moved.0 g y moved.1

sift_reply_guid : (c : Client) (v : Seen) (a : ℕ → ℕ) (old new : ℕ → Conn) → All old new → ReplyGuid c old v → ReplyGuid c new v
sift_reply_guid c v a old new sifts was =
    λ k n g y at. let moved = (sifts k).down n y at in was k moved.0 g y moved.1

sift_reply_of : (c : Client) (v : Seen) (a : ℕ → ℕ) (old new : ℕ → Conn) → All old new → ReplyOf c old v → ReplyOf c new v
sift_reply_of c v a old new sifts was =
    λ k n g o y at. let moved = (sifts k).down n y at in was k moved.0 g o y moved.1

sift_dialog_up : (c : Client) (v : Seen) (a : ℕ → ℕ) (old new : ℕ → Conn) → All old new → DialogUp old → DialogUp new
sift_dialog_up c v a old new sifts was =
    λ k n x at. let moved = (sifts k).up n x at in was k moved.0 x moved.1

sift_ask_up : (c : Client) (v : Seen) (a : ℕ → ℕ) (old new : ℕ → Conn) → All old new → AskUp old → AskUp new
sift_ask_up c v a old new sifts was =
    λ k n g x at. let moved = (sifts k).up n x at in was k moved.0 g x moved.1

pub creates_sift : CreatesSift
creates_sift c conns v a k d one was =
    let sifts = all conns k d one in
    record {
      made = was.made;
      named = was.named;
      named_kind = was.named_kind;
      named_given = was.named_given;
      attached = was.attached;
      plain_attached = was.plain_attached;
      unclosed = was.unclosed;
      acted_kept = sift_acted_kept c v a conns (put conns k d) sifts was.acted_kept;
      at_most = was.at_most;
      form_acted = was.form_acted;
      refused_not = was.refused_not;
      dead_refused = sift_dead_refused c v a conns (put conns k d) sifts was.dead_refused;
      no_reply = sift_no_reply c v a conns (put conns k d) sifts was.no_reply;
      barred_reply = sift_barred_reply c v a conns (put conns k d) sifts was.barred_reply;
      refused_status = was.refused_status;
      ok_acted = was.ok_acted;
      ok_reply = sift_ok_reply c v a conns (put conns k d) sifts was.ok_reply;
      file_guid = was.file_guid;
      file_of = was.file_of;
      reply_guid = sift_reply_guid c v a conns (put conns k d) sifts was.reply_guid;
      reply_of = sift_reply_of c v a conns (put conns k d) sifts was.reply_of;
      plain_dead = was.plain_dead;
      asking_other = was.asking_other;
      dialog_up = sift_dialog_up c v a conns (put conns k d) sifts was.dialog_up;
      ask_up = sift_ask_up c v a conns (put conns k d) sifts was.ask_up;
    }
