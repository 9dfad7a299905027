-- Which effects of the server leave the columns of sessions as they are, and make no open.
use Rattle.spec_exchange.specs.Effects.{close_all}
use Rattle.law_server.proofs.tables.Closing.{closed_beside, closed_fewer}
use Rattle.std.proofs.Common.{◌≡◌, ℕ, Bool, true, false, List, refl, arith, ◌∙◌, Option, Some, None, is_some}
use Rattle.spec_exchange.specs.Table.{put}
use Rattle.spec_exchange.specs.Commands.{CreateRequest, deletes_on_close}
use Rattle.spec_exchange.specs.State.{Server, Message, Range}
use Rattle.spec_exchange.specs.Files.{set_delete_pending, remove_file, empty_file}
use Rattle.spec_exchange.specs.Files.{file_attributes}
use Rattle.spec_exchange.specs.Opens.{drop_open, leave_open, pending_behind, without_gone, goes, is_kept_back, left_file}
use Rattle.spec_exchange.specs.CheckCreate.{empties}
use Rattle.spec_exchange.specs.CheckOpen.{is_late, is_slot}
use Rattle.spec_exchange.specs.Effects.{reach, keep_slot, keep_refusal, set_ranges, attach, attached, keep_closed, change_file, file_made}
use Rattle.spec_exchange.specs.Verdict.{Change, PutBytes, PutEnd, PutBasic, PutDeletePending, PutPath, PutNothing}
use Rattle.spec_exchange.specs.Step.{add_expired_guid, expire, with_deadlines}
use Rattle.law_server.proofs.tables.Logic.{either}

-- the columns of sessions, of ids and of opens' rows are the same, and no open is new
pub record Stays (s t : Server) : Type 0 where
  pub present : t.present ≡ s.present
  pub user : t.user ≡ s.user
  pub trees : t.trees ≡ s.trees
  pub next_tree : t.next_tree ≡ s.next_tree
  pub epoch : t.epoch ≡ s.epoch
  pub open_ids_given : t.open_ids_given ≡ s.open_ids_given
  pub session_ids_given : t.session_ids_given ≡ s.session_ids_given
  pub making : t.making ≡ s.making
  pub session_on : t.session_on ≡ s.session_on
  pub opened : t.opened ≡ s.opened
  pub standing : (o : ℕ) → t.standing o ≡ true → s.standing o ≡ true

-- the same, where nothing of the opens changed
pub stays_same : (s : Server) → Stays s s
stays_same s = record {
  present = refl;
  user = refl;
  trees = refl;
  next_tree = refl;
  epoch = refl;
  open_ids_given = refl;
  session_ids_given = refl;
  making = refl;
  session_on = refl;
  opened = refl;
  standing = λ o e. e;
}

pub stays_so : (s t u : Server) → Stays s t → Stays t u → Stays s u
stays_so s t u a b =
    record {
      present = b.present ∙ a.present;
      user = b.user ∙ a.user;
      trees = b.trees ∙ a.trees;
      next_tree = b.next_tree ∙ a.next_tree;
      epoch = b.epoch ∙ a.epoch;
      open_ids_given = b.open_ids_given ∙ a.open_ids_given;
      session_ids_given = b.session_ids_given ∙ a.session_ids_given;
      making = b.making ∙ a.making;
      session_on = b.session_on ∙ a.session_on;
      opened = b.opened ∙ a.opened;
      standing = λ o e. a.standing o (b.standing o e);
    }

pub stays_pending : (s : Server) (o : ℕ) → Stays s (pending_behind s o)
stays_pending s o =
    either (λ t. Stays s t) (deletes_on_close (s.opened o).options) (set_delete_pending s (s.opened o).file true) s
    (λ _. record {
      present = refl;
      user = refl;
      trees = refl;
      next_tree = refl;
      epoch = refl;
      open_ids_given = refl;
      session_ids_given = refl;
      making = refl;
      session_on = refl;
      opened = refl;
      standing = λ q e. e;
    })
    (λ _. stays_same s)

off_stands : (f : ℕ → Bool) (o q : ℕ) → put f o false q ≡ true → f q ≡ true
off_stands f o q e = grind arith

pub stays_dropped : (s : Server) (o : ℕ) → Stays s (drop_open s o)
stays_dropped s o = record {
  present = refl;
  user = refl;
  trees = refl;
  next_tree = refl;
  epoch = refl;
  open_ids_given = refl;
  session_ids_given = refl;
  making = refl;
  session_on = refl;
  opened = refl;
  standing = off_stands s.standing o;
}

pub stays_gone : (s : Server) (f : ℕ) → Stays s (without_gone s f)
stays_gone s f =
    either (λ t. Stays s t) (goes s f) (remove_file s f) s
    (λ _. record {
      present = refl;
      user = refl;
      trees = refl;
      next_tree = refl;
      epoch = refl;
      open_ids_given = refl;
      session_ids_given = refl;
      making = refl;
      session_on = refl;
      opened = refl;
      standing = λ q e. e;
    })
    (λ _. stays_same s)

pub stays_settled : (s : Server) (f : ℕ) → Stays s (left_file s f)
stays_settled s f =
    either (λ t. Stays s t) (is_kept_back s f) (set_delete_pending s f false) (without_gone s f)
    (λ _. record {
      present = refl;
      user = refl;
      trees = refl;
      next_tree = refl;
      epoch = refl;
      open_ids_given = refl;
      session_ids_given = refl;
      making = refl;
      session_on = refl;
      opened = refl;
      standing = λ q e. e;
    })
    (λ _. stays_gone s f)

pub stays_left : (s : Server) (o : ℕ) → Stays s (leave_open s o)
stays_left s o =
    let a = pending_behind s o in let b = drop_open a o in
    stays_so s a (left_file b (s.opened o).file) (stays_pending s o) (stays_so a b (left_file b (s.opened o).file)
    (stays_dropped a o) (stays_settled b (s.opened o).file))

pub stays_reached : (s : Server) (m : Message) (o : ℕ) → Stays s (reach s m o)
stays_reached s m o =
    either (λ t. Stays s t) (is_late s m o) s (record s { sequence = put s.sequence o m.channel_sequence }) (λ _. stays_same s)
    (λ _. record {
      present = refl;
      user = refl;
      trees = refl;
      next_tree = refl;
      epoch = refl;
      open_ids_given = refl;
      session_ids_given = refl;
      making = refl;
      session_on = refl;
      opened = refl;
      standing = λ q e. e;
    })

pub stays_attached : (s : Server) (m : Message) (o : ℕ) → Stays s (attached s m o)
stays_attached s m o =
    either (λ t. Stays s t) (is_some (s.session_of_open o)) s (attach s m o) (λ _. stays_same s)
    (λ _. record {
      present = refl;
      user = refl;
      trees = refl;
      next_tree = refl;
      epoch = refl;
      open_ids_given = refl;
      session_ids_given = refl;
      making = refl;
      session_on = refl;
      opened = refl;
      standing = λ q e. e;
    })

pub stays_kept : (s : Server) (o index number status : ℕ) → Stays s (keep_slot s o index number status)
stays_kept s o index number status =
    either (λ t. Stays s t) (is_slot index) _ s
    (λ _. record {
      present = refl;
      user = refl;
      trees = refl;
      next_tree = refl;
      epoch = refl;
      open_ids_given = refl;
      session_ids_given = refl;
      making = refl;
      session_on = refl;
      opened = refl;
      standing = λ q e. e;
    })
    (λ _. stays_same s)

pub stays_ranged : (s : Server) (f : ℕ) (ranges : List Range) → Stays s (set_ranges s f ranges)
stays_ranged s f ranges = record {
  present = refl;
  user = refl;
  trees = refl;
  next_tree = refl;
  epoch = refl;
  open_ids_given = refl;
  session_ids_given = refl;
  making = refl;
  session_on = refl;
  opened = refl;
  standing = λ q e. e;
}

pub stays_closed : (s : Server) (session : ℕ) (guid : Option ℕ) → Stays s (keep_closed s session guid)
stays_closed s session None = stays_same s
stays_closed s session (Some g) = record {
  present = refl;
  user = refl;
  trees = refl;
  next_tree = refl;
  epoch = refl;
  open_ids_given = refl;
  session_ids_given = refl;
  making = refl;
  session_on = refl;
  opened = refl;
  standing = λ q e. e;
}

pub stays_all_closed : (s : Server) (session : ℕ) (os : List ℕ) → Stays s (close_all s session os)
stays_all_closed s session os =
    let b = closed_beside s session os in
    record {
      present = b.present;
      user = b.user;
      trees = b.trees;
      next_tree = b.next_tree;
      epoch = b.epoch;
      open_ids_given = b.open_ids_given;
      session_ids_given = b.session_ids_given;
      making = b.making;
      session_on = b.session_on;
      opened = b.opened;
      standing = (closed_fewer s session os).standing;
    }

pub stays_changed : (s : Server) (f now : ℕ) (change : Change) → Stays s (change_file s f now change)
stays_changed s f now (PutBytes at bytes) = record {
  present = refl;
  user = refl;
  trees = refl;
  next_tree = refl;
  epoch = refl;
  open_ids_given = refl;
  session_ids_given = refl;
  making = refl;
  session_on = refl;
  opened = refl;
  standing = λ q e. e;
}
stays_changed s f now (PutEnd size) = record {
  present = refl;
  user = refl;
  trees = refl;
  next_tree = refl;
  epoch = refl;
  open_ids_given = refl;
  session_ids_given = refl;
  making = refl;
  session_on = refl;
  opened = refl;
  standing = λ q e. e;
}
stays_changed s f now (PutBasic basic) = record {
  present = refl;
  user = refl;
  trees = refl;
  next_tree = refl;
  epoch = refl;
  open_ids_given = refl;
  session_ids_given = refl;
  making = refl;
  session_on = refl;
  opened = refl;
  standing = λ q e. e;
}
stays_changed s f now (PutDeletePending flag) = record {
  present = refl;
  user = refl;
  trees = refl;
  next_tree = refl;
  epoch = refl;
  open_ids_given = refl;
  session_ids_given = refl;
  making = refl;
  session_on = refl;
  opened = refl;
  standing = λ q e. e;
}
stays_changed s f now (PutPath replaced path) = record {
  present = refl;
  user = refl;
  trees = refl;
  next_tree = refl;
  epoch = refl;
  open_ids_given = refl;
  session_ids_given = refl;
  making = refl;
  session_on = refl;
  opened = refl;
  standing = λ q e. e;
}
stays_changed s f now PutNothing = stays_same s

pub stays_made : (s : Server) (r : CreateRequest) (found : Option ℕ) (now : ℕ) → Stays s (file_made s r found now)
stays_made s r None now = record {
  present = refl;
  user = refl;
  trees = refl;
  next_tree = refl;
  epoch = refl;
  open_ids_given = refl;
  session_ids_given = refl;
  making = refl;
  session_on = refl;
  opened = refl;
  standing = λ q e. e;
}
stays_made s r (Some f) now =
    either (λ t. Stays s t) (empties r.disposition) (empty_file s f (file_attributes r.attributes) now) s
    (λ _. record {
      present = refl;
      user = refl;
      trees = refl;
      next_tree = refl;
      epoch = refl;
      open_ids_given = refl;
      session_ids_given = refl;
      making = refl;
      session_on = refl;
      opened = refl;
      standing = λ q e. e;
    })
    (λ _. stays_same s)

pub stays_noted : (s : Server) (client : ℕ) (guid : Option ℕ) → Stays s (add_expired_guid s client guid)
stays_noted s client None = stays_same s
stays_noted s client (Some g) = record {
  present = refl;
  user = refl;
  trees = refl;
  next_tree = refl;
  epoch = refl;
  open_ids_given = refl;
  session_ids_given = refl;
  making = refl;
  session_on = refl;
  opened = refl;
  standing = λ q e. e;
}

pub stays_expired : (s : Server) (o : ℕ) → Stays s (expire s o)
stays_expired s o = stays_so s (leave_open s o) (expire s o) (stays_left s o)
    (stays_noted (leave_open s o) (s.opened o).client_guid (s.opened o).create_guid)

pub stays_dated : (s : Server) (now : ℕ) → Stays s (with_deadlines s now)
stays_dated s now = record {
  present = refl;
  user = refl;
  trees = refl;
  next_tree = refl;
  epoch = refl;
  open_ids_given = refl;
  session_ids_given = refl;
  making = refl;
  session_on = refl;
  opened = refl;
  standing = λ q e. e;
}

pub stays_refused : (s : Server) (session guid status : ℕ) → Stays s (keep_refusal s session guid status)
stays_refused s session guid status = record {
  present = refl;
  user = refl;
  trees = refl;
  next_tree = refl;
  epoch = refl;
  open_ids_given = refl;
  session_ids_given = refl;
  making = refl;
  session_on = refl;
  opened = refl;
  standing = λ q e. e;
}

pub stays_shown : (s : Server) (listed : ℕ → Option (List ℕ)) (offset : ℕ → ℕ) → Stays s (record s {
  enumeration_location = listed;
  current_byte_offset = offset;
})
stays_shown s listed offset = record {
  present = refl;
  user = refl;
  trees = refl;
  next_tree = refl;
  epoch = refl;
  open_ids_given = refl;
  session_ids_given = refl;
  making = refl;
  session_on = refl;
  opened = refl;
  standing = λ q e. e;
}
