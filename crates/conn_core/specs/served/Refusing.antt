-- The answer to a message that has no event, in code.
use Rattle.std.specs.Prelude.{◌≡◌, ℕ, false, None}
use Rattle.spec_wire.specs.messages.Error.{error_response_spelling}
use Rattle.conn_core.specs.declared.frame_messages.checked.Checked.{Checked}
use Rattle.conn_core.specs.declared.served.serve.Reply.{Reply}
use Rattle.conn_core.specs.declared.conn.Progress.TheVariants.{Stays}

pub record IsMessageRefused (m : Checked) (status : ℕ) (r : Reply) : Type 0 where
  pub told : r.status ≡ status
  pub session : r.session ≡ m.header.session
  pub tree : r.tree ≡ m.header.tree
  pub body : r.body ≡ error_response_spelling (record { error_context_count = 0; byte_count = 0 })
  pub file : r.file ≡ None
  pub progress : r.progress ≡ Stays
  pub acted : r.acted ≡ false
