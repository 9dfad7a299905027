-- What a frame comes to over a server of its own.
use Rattle.std.proofs.Common.{◌≡◌, ℕ, true, refl, sym, ap, subst, ◌∙◌, List, Option, Some, None, is_some, Result, Ok, Err}
use Rattle.conn_core.specs.reply_frames.Replying.{EndsAs}
use Rattle.conn_core.specs.declared.end.Ended.{Ended}
use Rattle.conn_core.specs.declared.taking.Taken.{Taken}
use Rattle.conn_core.specs.declared.conn.Conn.{Conn}
use Rattle.conn_core.specs.declared.end.ConnEnd.{ConnEnd}
use Rattle.conn_core.specs.lone_server.Own.{IsOwnBy}
use Rattle.conn_core.specs.served.Serving.{Onward}
use Rattle.spec_exchange.specs.State as model
use Rattle.server_core.specs.disk_server.Shown.{ShowsBook}
use Rattle.server_core.specs.declared.disk_server.book.Book.{Book}
use Rattle.server_core.specs.Shown.{stopped_of}
use Rattle.base_outside.specs.declared.streams.mem_disk.MemDisk.{MemDisk}
use Rattle.world_ends.specs.memory_server.Held.{may_leave, world_seen, world_told}
use Rattle.spec_world.specs.Connection.{ConnectionStep}
use Rattle.spec_world.specs.Ends as ends
use Rattle.spec_world.specs.Ends.{Logons}
use Rattle.spec_world.specs.Notes as notes
use Rattle.spec_world.specs.Settings.{ServerSettings}
use Rattle.world_steps.specs.serving.Heard.{AnswersAs, IsServed, Serves}
use Rattle.world_steps.specs.declared.serving.hearing.Served.{Served}

ends_some : (e : ConnEnd) (o : Option ends.ConnEnd) → EndsAs e o → is_some o ≡ true
ends_some e None h = absurd h
ends_some e (Some why) h = refl

abbrev Shows : Book MemDisk → ServerSettings → Option ℕ → model.Server → Logons → List model.Record → Type 0
Shows b z before s L records =
    Onward (λ t M rs. ShowsBook world_told world_seen may_leave b z.users t M rs) before (stopped_of b.server) s L records

pub comes : (k : ℕ) (guid : List ℕ) (records : List model.Record) (z : ServerSettings) (S : ConnectionStep) (b : Book MemDisk) (new : Conn)
    (before : Option ℕ) (r : Result Taken Ended) (s : Served) → before ≡ None → IsServed r s
    → IsOwnBy (λ t M rs. Shows b z before t M rs) k guid records new r S → Serves k guid records z S (Some b) new s
comes k guid records z S b new before (Ok t) s none is own = record {
  acted_is = is.1 ∙ ap (λ (n : notes.StepNote). n.acted) own.note;
  took_is = is.0 ∙ own.took;
  answer_is = subst (λ (o : Option (List ℕ)). AnswersAs k guid S new o) (sym is.2) own.goes;
  held = record { held = own.state.0; goes_on = own.state.1 ∙ none };
}
comes k guid records z S b new before (Err e) s none is own = record {
  acted_is = is.1 ∙ own.acted;
  took_is = is.0 ∙ own.took;
  answer_is = subst (λ (o : Option (List ℕ)). AnswersAs k guid S new o) (sym is.2) (ends_some e.why S.ends own.why);
  held = record { held = own.state.0; goes_on = own.state.1 ∙ none };
}
