use Rattle.std.proofs.Common.{Some, None, ◌∙◌}
use Rattle.conn_core.proofs.related.Files.{put_by_place}
use Rattle.conn_core.proofs.related.related.put_file.Goals as goal

pub returns-in-Some : goal.returns-in-Some
returns-in-Some c =
    c.put_at.ensures ∙ put_by_place c.args.command c.args.file.now c.args.message.now (Some c.in-Some.place) c.in-Some.ensures.value

pub returns-in-None : goal.returns-in-None
returns-in-None c = put_by_place c.args.command c.args.file.now c.args.message.now None c.in-None.ensures.value
