-- Written by tools/law_creates.py. A create that is outstanding names its open.
use Rattle.std.proofs.Common.{◌≡◌, ℕ, true, arith}
use Rattle.spec_exchange.specs.Table.{put}
use Rattle.spec_exchange.specs.Operations.{is_unsettled}
use Rattle.spec_exchange.specs.Client.{Client}
use Rattle.spec_exchange.specs.Network.{Conn}
use Rattle.law_creates.specs.Creates.{Seen, Creates, FileGuid, FileOf}

opens_file_guid : (c : Client) (conns : ℕ → Conn) (v : Seen) (a : ℕ → ℕ) (g id : ℕ)
    → (is_unsettled (c.outcome g) ≡ true) → FileGuid c v → FileGuid (record c {
      file = put c.file g id;
      attached = put c.attached g c.session_number;
    }) v
opens_file_guid c conns v a g id pending i_file_guid =
    λ p. let old = i_file_guid p in grind arith

opens_file_of : (c : Client) (conns : ℕ → Conn) (v : Seen) (a : ℕ → ℕ) (g id : ℕ) → (is_unsettled (c.outcome g) ≡ true)
    → FileOf c v → FileOf (record c { file = put c.file g id; attached = put c.attached g c.session_number }) v
opens_file_of c conns v a g id pending i_file_of =
    λ p o. let old = i_file_of p o in grind arith

pub opens_creates : (c : Client) (conns : ℕ → Conn) (v : Seen) (a : ℕ → ℕ) (g id : ℕ)
    → (is_unsettled (c.outcome g) ≡ true) → Creates c conns v a → Creates (record c {
      file = put c.file g id;
      attached = put c.attached g c.session_number;
    }) conns v a
opens_creates c conns v a g id pending i =
    record {
      made = i.made;
      named = i.named;
      named_kind = i.named_kind;
      named_given = i.named_given;
      attached = i.attached;
      plain_attached = i.plain_attached;
      unclosed = i.unclosed;
      acted_kept = i.acted_kept;
      at_most = i.at_most;
      form_acted = i.form_acted;
      refused_not = i.refused_not;
      dead_refused = i.dead_refused;
      no_reply = i.no_reply;
      barred_reply = i.barred_reply;
      refused_status = i.refused_status;
      ok_acted = i.ok_acted;
      ok_reply = i.ok_reply;
      file_guid = opens_file_guid c conns v a g id pending i.file_guid;
      file_of = opens_file_of c conns v a g id pending i.file_of;
      reply_guid = i.reply_guid;
      reply_of = i.reply_of;
      plain_dead = i.plain_dead;
      asking_other = i.asking_other;
      dialog_up = i.dialog_up;
      ask_up = i.ask_up;
    }
